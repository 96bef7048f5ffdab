-- The fields of a record type, gone through one by one.
use Rattle.std.proofs.Common.{ℕ, zero, suc, ◌≡◌, ◌≢◌, ◌+◌, ◌<◌, true, false, List, [], ◌∷◌, length, get_or, drop, Option, Some, None, MatchOption, Bor, refl, sym, ap, ◌∙◌, subst, arith}
use Rattle.std.specs.Prelude.{is_some}
use Rattle.std.specs.declared.ops.Range.{Range}
use Rattle.std.specs.BTreeMap.{BTreeMap}
use Rattle.wave_wasm.specs.Names.{IsOneOf, IsNoneOf}
use Rattle.wave_wasm.specs.Types as type
use Rattle.wave_wasm.specs.Types.{TypeTree, fields_of, kind_of}
use Rattle.wave_wasm.specs.Borrowed.{denoted_fields}
use Rattle.wave_wasm.specs.ValueErrors.{missing_field}
use Rattle.wave_wasm.specs.declared.wasm.WasmTypeKind.TheVariants as kinds
use Rattle.wave_lex.specs.Errors.{Diagnostic, caused}
use Rattle.wave_grammar.specs.SpannedTree.{PlacedEntry}
use Rattle.wave_grammar.specs.TypedGrammar.{IsOption}
use Rattle.wave_grammar.specs.FaultOrder.{LeftOut}
use Rattle.wave_grammar.specs.NodeFields.{held_at}
use Rattle.wave_grammar.proofs.ByKind.Lists.{HasAt}
use Rattle.wave_grammar.proofs.Elaboration.ParamsInTurn.{option_kind}
use Rattle.wave_faults.specs.AllFaults.{Alone, EachLeftOut}
use Rattle.wave_faults.specs.Private.Told.{Adds, AddsOne, AddsCause}
use Rattle.wave_faults.specs.Private.RecordFaults.{LooksUp, HasNames, names_behind}
use Rattle.wave_faults.proofs.Walk.Adding.{adds_none, adds_one, blamed_so, Leads}
use Rattle.wave_faults.proofs.Walk.Forms.{drop_has}
use Rattle.wave_faults.proofs.Walk.Records.{Updated, looks_next, not_left_out, none_for, left_next}

-- the name and the type of the field at a place
two_has : {S : Type 0} (tree : S → TypeTree) (fields : List (Bor (List ℕ) × Bor S)) (i : ℕ) (a b : Bor (List ℕ) × Bor S) → i < length fields → a ≡ get_or fields i a → b ≡ get_or fields i b → HasAt (denoted_fields tree fields) i (a.0.now, tree b.1.now)
two_has tree [] i a b lt p q = absurd (omega (arith, lt))
two_has tree (f ∷ fields) zero a b lt p q = λ j. ((sym p j).0.now, tree ((sym q j).1.now))
two_has tree (f ∷ fields) (suc i) a b lt p q = two_has tree fields i a b (omega (arith, lt)) p q

drop_before : {A : Type 0} (xs : List A) (i j : ℕ) (x : A) → i + 1 ≡ j → HasAt xs i x → drop i xs ≡ x ∷ drop j xs
drop_before xs i j x e h = subst (λ (k : ℕ). drop i xs ≡ x ∷ drop k xs) e (drop_has xs i x h)

-- the map with the field before these looks up that too
pub looks_before : {S : Type 0} (tree : S → TypeTree) (fields : List (Bor (List ℕ) × Bor S)) (m n : BTreeMap (Bor (List ℕ)) (Bor S)) (i j : ℕ) (a b : Bor (List ℕ) × Bor S) → i + 1 ≡ j → i < length fields → a ≡ get_or fields i a → b ≡ get_or fields i b
    → LooksUp tree m (drop j (denoted_fields tree fields)) → Updated a.0.now m n b.1 → LooksUp tree n (drop i (denoted_fields tree fields))
looks_before tree fields m n i j a b next lt p q held updated =
    subst (LooksUp tree n) (sym (drop_before (denoted_fields tree fields) i j (a.0.now, tree b.1.now) next (two_has tree fields i a b lt p q)))
    (looks_next tree m n (drop j (denoted_fields tree fields)) a.0.now b.1 held updated)

-- where it was told of a field that it is left out, the next are left
pub left_row : {S : Type 0} (tree : S → TypeTree) (fields : List (Bor (List ℕ) × Bor S)) (i : ℕ) (a b : Bor (List ℕ) × Bor S) (es : List PlacedEntry) (p : Range ℕ) (old told new : List Diagnostic) → i < length fields → a ≡ get_or fields i a → b ≡ get_or fields i b
    → Leads (EachLeftOut (fields_of (denoted_fields tree fields)) es p) (EachLeftOut (fields_of (drop i (denoted_fields tree fields))) es p) old told → Adds (Alone (LeftOut a.0.now (tree b.1.now) es p)) told new
    → Leads (EachLeftOut (fields_of (denoted_fields tree fields)) es p) (EachLeftOut (fields_of (drop (i + 1) (denoted_fields tree fields))) es p) old new
left_row tree fields i a b es p old told new lt q r l h = left_next a.0.now (tree b.1.now) i (denoted_fields tree fields) es p old told new (two_has tree fields i a b lt q r) l h

-- as many fields as references
pub as_fields : {S : Type 0} (tree : S → TypeTree) (fields : List (Bor (List ℕ) × Bor S)) → length (denoted_fields tree fields) ≡ length fields
as_fields tree [] = refl
as_fields tree (f ∷ fields) = ap suc (as_fields tree fields)

held_is : {X : Type 0} (o : Option X) (names : List (List ℕ)) (name : List ℕ) → MatchOption o (IsNoneOf names name) (λ _. IsOneOf names name) → is_some o ≡ true → IsOneOf names name
held_is None names name h e = absurd (cc e)
held_is (Some x) names name h e = h

held_is_not : {X : Type 0} (o : Option X) (names : List (List ℕ)) (name : List ℕ) → MatchOption o (IsNoneOf names name) (λ _. IsOneOf names name) → is_some o ≡ false → IsNoneOf names name
held_is_not None names name h e = h
held_is_not (Some x) names name h e = absurd (cc e)

-- an option is never left out
pub option_missing : (name : List ℕ) (T : TypeTree) (es : List PlacedEntry) (p : Range ℕ) (old : List Diagnostic) → kind_of T ≡ kinds.Option → Adds (Alone (LeftOut name T es p)) old old
option_missing name T es p old is = adds_none old (λ k q f. f.0 (option_kind T is))

-- nor is a field whose name was seen
pub seen_missing : {X : Type 0} (seen : BTreeMap (Bor (List ℕ)) X) (name : List ℕ) (T : TypeTree) (es : List PlacedEntry) (p : Range ℕ) (old : List Diagnostic) → HasNames seen (names_behind [] es) → is_some (held_at seen name) ≡ true → Adds (Alone (LeftOut name T es p)) old old
seen_missing seen name T es p old has is = adds_none old (not_left_out es name T p (held_is (held_at seen name) (names_behind [] es) name (has name) is))

option_of : (T : TypeTree) → IsOption T → kind_of T ≡ kinds.Option
option_of (type.option P) h = refl
option_of _ h = absurd h

-- any other is
pub told_missing : {X : Type 0} (seen : BTreeMap (Bor (List ℕ)) X) (name text : List ℕ) (T : TypeTree) (es : List PlacedEntry) (p : Range ℕ) (old new : List Diagnostic) → HasNames seen (names_behind [] es) → kind_of T ≢ kinds.Option → is_some (held_at seen name) ≡ false → text ≡ name → AddsCause (missing_field text) p old new → Adds (Alone (LeftOut name T es p)) old new
told_missing seen name text T es p old new has apart is same added =
    let blamed : AddsOne (LeftOut name T es p) old new =
    blamed_so (λ k q f. ((λ option. apart (option_of T option)), none_for es name (held_is_not (held_at seen name) (names_behind [] es) name (has name) is), (f.0 ∙ ap (λ (w : List ℕ). caused (missing_field w)) same, f.1))) added in
    adds_one blamed
