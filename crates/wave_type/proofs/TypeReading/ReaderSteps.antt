-- What the reader's functions say of what is refused: one step, and then the rest.
use Rattle.std.proofs.Common.{◌≡◌, ℕ, zero, suc, ◌<◌, Bool, true, false, List, [], ◌∷◌, ◌++◌, inl, inr, Option, Some, None, Result, Ok, Err, refl, sym, ap, subst, ◌∙◌, arith, length, codes}
use Rattle.std.specs.Prelude.{MatchBool, ok_or, if◌then◌else◌}
use Rattle.wave_wasm.specs.Names.{is_one_of}
use Rattle.wave_wasm.specs.Types.{TypeTree, no_type, a_type, maybe_type}
use Rattle.wave_wasm.specs.Types as type
use Rattle.wave_type.specs.declared.error.TypeErrorKind.{TypeErrorKind}
use Rattle.wave_type.specs.declared.error.TypeErrorKind.TheVariants.{DuplicateName}
use Rattle.wave_type.specs.TypeConstructors.{tuple_type, record_type, variant_type, enum_type, flags_type}
use Rattle.wave_type.specs.TypeSpelling.{Tokens}
use Rattle.wave_type.specs.TypeWords.{onward, name_of_token}
use Rattle.wave_type.specs.TypeFaults.{Expectation, mark_expected, refused}
use Rattle.wave_type.specs.Private.TypeReading.{first_of, after, closed, or_else, with, built, parts, name_at, new_name, names_read, Reads, types_read, fields_read, cases_read, err_behind, payloads_read, payload_read, case_part, field_part, type_read}
use Rattle.wave_type.specs.Private.TypeTokens.{misplaced, name_fault, Fails, IsRefused, GoesOn, RefusesName, Answers}
use Rattle.wave_type.proofs.TypeFaults.TokenSteps.{mark_fails, fails_onward}
use Rattle.wave_type.proofs.TypeReading.Sound.{onward_back, or_back, with_back, after_back, new_back, read_sound}
use Rattle.wave_type.proofs.TypeReading.Complete.{shorter}

module _ (P Q : Type 0) where
  pub picked : (b : Bool) → MatchBool b P Q → b ≡ true → P
  picked true h e = h
  picked false h e = absurd (cc)

  pub other : (b : Bool) → MatchBool b P Q → b ≡ false → Q
  other true h e = absurd (cc)
  other false h e = h

-- what parts through a mark answer of a bool
module _ (mark : List ℕ) (ts r : Tokens) (b : Bool) (h : MatchBool b (closed mark ts ≡ Some r) (GoesOn mark ts r)) where
  pub ends_so : b ≡ true → closed mark ts ≡ Some r
  ends_so e = picked (closed mark ts ≡ Some r) (GoesOn mark ts r) b h e

  pub goes_so : b ≡ false → GoesOn mark ts r
  goes_so e = other (closed mark ts ≡ Some r) (GoesOn mark ts r) b h e

-- a mark that isn't there
pub mark_refused : (mark : List ℕ) (ts r : Tokens) (kind : TypeErrorKind) → (after mark ts ≡ None) × (kind ≡ misplaced ts) × (r ≡ ts) → IsRefused (mark_expected mark) ts kind r
mark_refused mark ts r kind (none, is, end) =
    subst (λ k. IsRefused (mark_expected mark) ts k r) (sym is) (subst (λ us. IsRefused (mark_expected mark) ts (misplaced ts) us) (sym end) (mark_fails mark ts none))

module _ {A B : Type 0} (view : A → B) where
  -- a refusal is the answer
  pub answers_err : (result : Result A TypeErrorKind) (kind : TypeErrorKind) (ts r : Tokens) (read : Option (B × Tokens)) (expected : List Expectation → List Expectation) → result ≡ Err kind → Fails expected ts kind r → Answers view result ts r read expected
  answers_err result kind ts r read expected e h = subst (λ z. Answers view z ts r read expected) (sym e) h

  -- what the last call answers is the answer
  pub answers_onward : (result : Result A TypeErrorKind) (ts m r : Tokens) (read more : Option (B × Tokens)) (expected behind : List Expectation → List Expectation) → read ≡ more → ((expectations : List Expectation) → refused ts (expected expectations) ≡ refused m (behind expectations)) → Answers view result m r more behind → Answers view result ts r read expected
  answers_onward (Ok a) ts m r read more expected behind same run h = same ∙ h
  answers_onward (Err kind) ts m r read more expected behind same run h = fails_onward expected behind ts m r kind run h

-- what is made of what was read is the answer, where it is made
pub answers_built : (o : Option TypeTree) (fault : TypeErrorKind) (result : Result TypeTree TypeErrorKind) (ts r : Tokens) (read : Option (TypeTree × Tokens)) (expected : List Expectation → List Expectation) → result ≡ ok_or o fault → (o ≡ None → ⊥) → read ≡ built o r → Answers (λ T. T) result ts r read expected
answers_built None fault result ts r read expected e some is = absurd (some refl)
answers_built (Some T) fault result ts r read expected e some is = subst (λ z. Answers (λ T. T) z ts r read expected) (sym e) is

-- parts after an opening mark, and what is made of them
pub form_read : {A : Type 0} (opened : Option Tokens) (parts : Tokens → Option (A × Tokens)) (make : A → Option TypeTree) (m r : Tokens) (a : A) (o : Option TypeTree) → opened ≡ Some m → parts m ≡ Some (a, r) → o ≡ make a → onward opened (λ m. onward (parts m) (λ p. built (make p.0) p.1)) ≡ built o r
form_read opened parts make m r a o mark is made =
    ap (λ z. onward z (λ m. onward (parts m) (λ p. built (make p.0) p.1))) mark ∙ (ap (λ z. onward z (λ p. built (make p.0) p.1)) is ∙ ap (λ z. built z r) (sym made))

pub after_less : (mark : List ℕ) (ts r : Tokens) → after mark ts ≡ Some r → length r < length ts
after_less mark ts r e = omega (arith, ap length (after_back mark ts r e))

pub new_less : (names : List (List ℕ)) (ts r : Tokens) (name : List ℕ) → new_name names ts ≡ Some (name, r) → length r < length ts
new_less names ts r name e = omega (arith, ap length (new_back names ts (name, r) e).next)

pub read_less : (n : ℕ) (ts r : Tokens) (T : TypeTree) → type_read n ts ≡ Some (T, r) → length r < length ts
read_less n ts r T e = shorter T ts r (read_sound n ts (T, r) e)

payload_by_less : (n : ℕ) (ts r : Tokens) (o : Option Tokens) (p : Option TypeTree) → after (codes "(") ts ≡ o → payload_read (type_read n) ts o ≡ Some (p, r) → length r < suc (length ts)
payload_by_less n ts r None p h e =
    let pair : ◌≡◌ {A = Option TypeTree × Tokens} (None, ts) (p, r) = cc in
    omega (arith, ap (λ (z : Option TypeTree × Tokens). length z.1) pair)
payload_by_less n ts r (Some m) p h e =
    let s = onward_back (type_read n m) _ (p, r) e in
    let w = with_back (Some s.0.0) (after (codes ")") s.0.1) (p, r) s.2 in
    omega (arith, after_less (codes "(") ts m h, read_less n m s.0.1 s.0.0 s.1, after_less (codes ")") s.0.1 r w.0)

pub payload_less : (n : ℕ) (ts r : Tokens) (p : Option TypeTree) → payload_read (type_read n) ts (after (codes "(") ts) ≡ Some (p, r) → length r < suc (length ts)
payload_less n ts r p e = payload_by_less n ts r (after (codes "(") ts) p refl e

-- the name that the next token is
pub name_found : (ts : Tokens) (token name : List ℕ) → Some token ≡ first_of ts → Some name ≡ name_of_token token → name_at ts ≡ Some name
name_found [] token name first is = absurd (cc)
name_found (t ∷ ts) token name first is = ap (λ o. onward o name_of_token) (sym first) ∙ sym is

-- a name that was taken before
pub repeated : (names : List (List ℕ)) (ts : Tokens) (name : List ℕ) → name_at ts ≡ Some name → is_one_of names name ≡ true → RefusesName names ts DuplicateName ts
repeated names [] name e h = absurd (cc)
repeated names (t ∷ ts) name e h = inr (refl, ap (name_fault names) e ∙ ap (λ b. if b then Some DuplicateName else None) h)

-- what follows the comma after the type of `ok`
pub ok_goes_on : (read : Reads) (ts l k : Tokens) (T : TypeTree) → after (codes "_") ts ≡ None → read ts ≡ Some (T, l) → GoesOn (codes ">") l k → payloads_read read ts (after (codes "_") ts) ≡ err_behind read (Some T) k
ok_goes_on read ts l k T blank is g =
    ap (payloads_read read ts) blank
    ∙ (ap (λ o. onward o (λ a. or_else (with (type.result (a_type a.0) no_type) (closed (codes ">") a.1)) (onward (after (codes ",") a.1) (err_behind read (Some a.0))))) is
    ∙ (ap (λ o. or_else (with (type.result (a_type T) no_type) o) (onward (after (codes ",") l) (err_behind read (Some T)))) g.unclosed ∙ ap (λ o. onward o (err_behind read (Some T))) g.comma))

-- ---- parts are some

module _ {A : Type 0} where
  -- there is one at least
  abbrev IsSome : List A → Type 0
  IsSome [] = ⊥
  IsSome (a ∷ more) = Unit {0}

module _ {A : Type 0} (part : List A → Tokens → Option (A × Tokens)) (mark : List ℕ) where
  more_some : (seen : List A) (a : A) → IsSome (seen ++ (a ∷ []))
  more_some [] a = tt
  more_some (b ∷ seen) a = tt

  parts_some : (k : ℕ) (seen : List A) (ts : Tokens) (b : List A × Tokens) → parts part mark k seen ts ≡ Some b → IsSome b.0
  parts_some zero seen ts b e = absurd (cc)
  parts_some (suc k) seen ts b e =
      let p = onward_back (part seen ts) _ b e in
      let all = seen ++ (p.0.0 ∷ []) in
      elim (or_back (with all (closed mark p.0.1)) (onward (after (codes ",") p.0.1) (parts part mark k all)) b p.2) as (λ _. IsSome b.0) [
        | inl q ↦ subst (λ (z : List A). IsSome z) (sym (with_back all (closed mark p.0.1) b q).1) (more_some seen p.0.0)
        | inr q ↦ let w = onward_back (after (codes ",") p.0.1) (parts part mark k all) b q in parts_some k all w.0 b w.2
      ]

no_tuple : (Ts : List TypeTree) → IsSome Ts → tuple_type Ts ≡ None → ⊥
no_tuple [] h e = h
no_tuple (T ∷ Ts) h e = let wrong : Some (type.tuple (type.types_of (T ∷ Ts))) ≡ None = e in absurd (cc)

no_record : (fs : List (List ℕ × TypeTree)) → IsSome fs → record_type fs ≡ None → ⊥
no_record [] h e = h
no_record (f ∷ fs) h e = let wrong : Some (type.record_type (type.fields_of (f ∷ fs))) ≡ None = e in absurd (cc)

no_variant : (cs : List (List ℕ × Option TypeTree)) → IsSome cs → variant_type cs ≡ None → ⊥
no_variant [] h e = h
no_variant (f ∷ fs) h e = let wrong : Some (type.variant (type.cases_of (f ∷ fs))) ≡ None = e in absurd (cc)

no_enum : (ns : List (List ℕ)) → IsSome ns → enum_type ns ≡ None → ⊥
no_enum [] h e = h
no_enum (n ∷ ns) h e = let wrong : Some (type.enum (n ∷ ns)) ≡ None = e in absurd (cc)

no_flags : (ns : List (List ℕ)) → IsSome ns → flags_type ns ≡ None → ⊥
no_flags [] h e = h
no_flags (n ∷ ns) h e = let wrong : Some (type.flags (n ∷ ns)) ≡ None = e in absurd (cc)

pub types_are_some : (read : Reads) (ts r : Tokens) (Ts : List TypeTree) → types_read read ts ≡ Some (Ts, r) → tuple_type Ts ≡ None → ⊥
types_are_some read ts r Ts e = no_tuple Ts (parts_some (λ seen. read) (codes ">") (length ts) [] ts (Ts, r) e)

pub fields_are_some : (read : Reads) (mark : List ℕ) (ts r : Tokens) (fs : List (List ℕ × TypeTree)) → fields_read read mark ts ≡ Some (fs, r) → record_type fs ≡ None → ⊥
fields_are_some read mark ts r fs e = no_record fs (parts_some (field_part read) mark (length ts) [] ts (fs, r) e)

pub cases_are_some : (read : Reads) (ts r : Tokens) (cs : List (List ℕ × Option TypeTree)) → cases_read read ts ≡ Some (cs, r) → variant_type cs ≡ None → ⊥
cases_are_some read ts r cs e = no_variant cs (parts_some (case_part read) (codes "}") (length ts) [] ts (cs, r) e)

pub enum_is_some : (mark : List ℕ) (ts r : Tokens) (ns : List (List ℕ)) → names_read mark ts ≡ Some (ns, r) → enum_type ns ≡ None → ⊥
enum_is_some mark ts r ns e = no_enum ns (parts_some new_name mark (length ts) [] ts (ns, r) e)

pub flags_are_some : (mark : List ℕ) (ts r : Tokens) (ns : List (List ℕ)) → names_read mark ts ≡ Some (ns, r) → flags_type ns ≡ None → ⊥
flags_are_some mark ts r ns e = no_flags ns (parts_some new_name mark (length ts) [] ts (ns, r) e)
