-- What the refusal of a text tells of what begins with it.
use Rattle.std.proofs.Common.{ℕ, ◌≡◌, ◌≢◌, ◌++◌, Bool, true, false, List, [], ◌∷◌, Option, Some, inl, inr, refl, sym, ap, subst, ◌∙◌, arith, append_assoc}
use Rattle.std.proofs.lemmas.List.{append-nil, map-append}
use Rattle.wave_type.specs.declared.error.TypeErrorKind.{TypeErrorKind}
use Rattle.wave_type.specs.declared.error.TypeErrorKind.TheVariants.{OutOfMemory, UnexpectedEnd}
use Rattle.wave_type.specs.FunctionSpelling.{SpellsFunction, levels_of_function, IsNoFunctionWithin}
use Rattle.wave_type.specs.TypeErrors.{TypeRefusal}
use Rattle.wave_type.specs.TypeFaultLaws.{IsRefusedAt}
use Rattle.wave_type.specs.TypeFaults.{Expectation, refused, expected_of_type, expected_of_function}
use Rattle.wave_type.specs.TypeItems.{Item, texts_of_items, kind_at, IsFaultOf, IsTypeFaultWithin, IsFunctionFaultWithin}
use Rattle.wave_type.specs.TypeSpelling.{Tokens, Spells, levels_of, IsNoTypeWithin}
use Rattle.wave_type.proofs.TypeFaults.Completions.{taken_begins}
use Rattle.wave_type.proofs.TypeFaults.RefusedTokens.{none_begins, ends_at_end}
use Rattle.wave_type.proofs.TypeReading.TextTokens.{one_cut, items_cut}
use Rattle.wave_type_explain.specs.declared.expected.Reading.{Reading}
use Rattle.wave_type_explain.specs.declared.expected.Reading.TheVariants.{ValueType, FunctionType}
use Rattle.wave_type_explain.specs.declared.expected.Class.{Class}
use Rattle.wave_type_explain.specs.Expected.{Begins, TextBegins, IsSpelled, followed, MayFollow, Tells}
use Rattle.wave_type_explain.specs.Private.Refusals.{IsRefused, IsRefusedBy}

-- the end alone is refused as the end
kind_there : (known : Bool) (kind : TypeErrorKind) → kind_at known kind ≡ UnexpectedEnd → kind ≡ UnexpectedEnd
kind_there true kind e = e
kind_there false kind e = absurd (cc)

-- the texts of items and of more
texts_both : (before left : List Item) → texts_of_items (before ++ left) ≡ texts_of_items before ++ texts_of_items left
texts_both before left = map-append (λ (i : Item). i.text) before left

module _ (r : Reading) (n : ℕ) (expectations : List Expectation)
    (taken : (ts left : Tokens) (kind : TypeErrorKind) → refused ts expectations ≡ Some (kind, left) → (prefix : Tokens) × (ts ≡ prefix ++ left) × ((m : ℕ) × Begins r m prefix))
    (none : (prefix left : Tokens) (t : List ℕ) (kind : TypeErrorKind) → IsRefusedAt expectations prefix t left kind → Begins r n (prefix ++ t ∷ []) → ⊥)
    (shorter : (ts more : Tokens) → Begins r n (ts ++ more) → Begins r n ts) where
  begun : (text : List ℕ) (e : TypeRefusal) → IsFaultOf expectations text e → (IsSpelled r n text → ⊥) → IsRefused r n text e.kind
  begun text e (before, [], kind, are, fault, stands) not =
      let ts = texts_of_items (before ++ []) in
      let (prefix, same, (m, begins)) = taken ts [] kind fault in
      record {
        not_spelled = not;
        at_end = λ end. (m, (ts, items_cut text 0 (before ++ []) are, subst (Begins r m) (sym (same ∙ append-nil prefix)) begins));
        before_end = λ other. absurd (other (stands.0 ∙ (ends_at_end ts [] expectations kind fault).1 refl));
      }
  begun text e (before, i ∷ more, kind, are, fault, stands) not =
      let left = texts_of_items (i ∷ more) in
      let first = texts_of_items before in
      let ts = texts_of_items (before ++ i ∷ more) in
      let both : ts ≡ first ++ left = texts_both before (i ∷ more) in
      record {
        not_spelled = not;
        at_end = λ end.
            let empty : left ≡ [] = (ends_at_end ts left expectations kind fault).0 (kind_there i.known kind (sym stands.0 ∙ end)) in
            absurd (cc);
        before_end = λ other (tokens, cut, begins).
            let same : tokens ≡ (first ++ i.text ∷ []) ++ texts_of_items more =
            one_cut tokens ts text cut (items_cut text 0 (before ++ i ∷ more) are) ∙ (both ∙ sym (append_assoc first (i.text ∷ []) (texts_of_items more))) in
            none first (texts_of_items more) i.text kind (sym (ap (λ us. refused us expectations) both) ∙ fault) (shorter (first ++ i.text ∷ []) (texts_of_items more) (subst (Begins r n) same begins));
      }

-- a text that is refused as no type
pub type_refused : (n : ℕ) (text : List ℕ) (e : TypeRefusal) → IsNoTypeWithin n text e.kind → IsTypeFaultWithin n text e → e.kind ≢ OutOfMemory → IsRefused ValueType n text e.kind
type_refused n text e (inl memory) fault not = absurd (not memory)
type_refused n text e (inr no_type) (inl memory) not = absurd (not (ap (λ (x : TypeRefusal). x.kind) memory))
type_refused n text e (inr no_type) (inr fault) not =
    begun ValueType n (expected_of_type n)
    (λ ts left kind e. let (prefix, same, T, rest, spelled) = taken_begins.types n ts left kind e in (prefix, same, (levels_of T, (T, rest, spelled, omega arith))))
    (none_begins.types n)
    (λ ts more (T, rest, spelled, low). (T, more ++ rest, subst (λ us. Spells T us []) (append_assoc ts more rest) spelled, low))
    text e fault (λ (T, is, low). let above = no_type T is in omega arith)

-- a text that is refused as no type of a function
pub function_refused : (n : ℕ) (text : List ℕ) (e : TypeRefusal) → IsNoFunctionWithin n text e.kind → IsFunctionFaultWithin n text e → e.kind ≢ OutOfMemory → IsRefused FunctionType n text e.kind
function_refused n text e (inl memory) fault not = absurd (not memory)
function_refused n text e (inr no_function) (inl memory) not = absurd (not (ap (λ (x : TypeRefusal). x.kind) memory))
function_refused n text e (inr no_function) (inr fault) not =
    begun FunctionType n (expected_of_function n)
    (λ ts left kind e. let (prefix, same, f, rest, spelled) = taken_begins.functions n ts left kind e in (prefix, same, (levels_of_function f, (f, rest, spelled, omega arith))))
    (none_begins.functions n)
    (λ ts more (f, rest, spelled, low). (f, more ++ rest, subst (SpellsFunction f) (append_assoc ts more rest) spelled, low))
    text e fault (λ (f, is, low). let above = no_function f is in omega arith)

-- a text that spells a type begins one
spelled_begins : (r : Reading) (n : ℕ) (text : List ℕ) → IsSpelled r n text → TextBegins r n text
spelled_begins ValueType n text (T, (ts, cut, spelled), low) = (ts, cut, (T, [], subst (λ us. Spells T us []) (sym (append-nil ts)) spelled, low))
spelled_begins FunctionType n text (f, (ts, cut, spelled), low) = (ts, cut, (f, [], subst (SpellsFunction f) (sym (append-nil ts)) spelled, low))

-- ---- what a test tells

module _ (r : Reading) (before : List ℕ) (c : Class) (text : List ℕ) (is : text ≡ followed before c) where
  -- a class may follow where the text with it is spelled
  pub follows_whole : IsSpelled r 1000 text → Tells true (λ n. MayFollow r n before c)
  follows_whole spelled = ((λ _. (1000, subst (TextBegins r 1000) is (spelled_begins r 1000 text spelled))), (λ _. refl))

  -- or refused at its end
  pub follows_begun : (o : Option TypeErrorKind) (kind : TypeErrorKind) → o ≡ Some kind → kind ≡ UnexpectedEnd → IsRefusedBy r 1000 text o → Tells true (λ n. MayFollow r n before c)
  follows_begun o kind there end refusal =
      let refused : IsRefused r 1000 text kind = subst (IsRefusedBy r 1000 text) there refusal (λ memory. let none : UnexpectedEnd ≡ OutOfMemory = sym end ∙ memory in absurd (cc)) in
      ((λ _. let (m, begins) = refused.at_end end in (m, subst (TextBegins r m) is begins)), (λ _. refl))

  -- where it is refused before, none may
  pub follows_not : (o : Option TypeErrorKind) (kind : TypeErrorKind) → o ≡ Some kind → kind ≢ UnexpectedEnd → kind ≢ OutOfMemory → IsRefusedBy r 1000 text o → Tells false (λ n. MayFollow r n before c)
  follows_not o kind there not_end not_memory refusal =
      let refused : IsRefused r 1000 text kind = subst (IsRefusedBy r 1000 text) there refusal not_memory in
      ((λ e. absurd (cc)), (λ begins. absurd (refused.before_end not_end (subst (TextBegins r 1000) (sym is) begins))))
