-- What a token does where something is expected: it is taken, and what is expected after it; or it is refused.
use Rattle.std.proofs.Common.{◌≡◌, ℕ, zero, suc, ◌-◌, ◌<◌, Bool, true, false, List, [], ◌∷◌, ◌++◌, inl, inr, Option, Some, None, drop, refl, sym, ap, subst, ◌∙◌, arith, codes, append_assoc}
use Rattle.std.specs.Prelude.{◌⊎◌, if◌then◌else◌}
use Rattle.std.specs.Str.{bytes_eq}
use Rattle.wave_wasm.specs.declared.wasm.WasmTypeKind.{WasmTypeKind}
use Rattle.wave_wasm.specs.Names.{is_one_of}
use Rattle.wave_wasm.specs.Types.{TypeTree}
use Rattle.wave_type.specs.declared.error.TypeErrorKind.{TypeErrorKind}
use Rattle.wave_type.specs.declared.error.TypeErrorKind.TheVariants.{UnexpectedToken, UnexpectedEnd, DuplicateName, InvalidKeyType, InvalidCount}
use Rattle.wave_type.specs.TypeSpelling.{Tokens}
use Rattle.wave_type.specs.TypeWords.{onward, kind_of_word, key_of_word, name_of_token, count_of_token}
use Rattle.wave_type.specs.TypeFaults.{Part, no_more, a_length, err_type, more_types, more_fields, more_cases, more_names}
use Rattle.wave_type.specs.TypeFaults.{Expectation, mark_expected, type_expected, key_expected, ok_expected, part_expected, close_expected, last_expected, payloads_expected, payload_expected, results_expected, result_expected}
use Rattle.wave_type.specs.TypeFaults.{Step, takes, passes, refuses, expected_behind, before, word_step, type_step, only_step, name_step, part_step, step, Fault, refused}
use Rattle.wave_type.specs.Private.TypeReading.{after, closed, or_else, kind_at, key_at, count_at, new_name}
use Rattle.wave_type.specs.Private.TypeTokens.{misplaced, name_fault, name_refused, Fails, IsRefused, GoesOn, RefusesName}
use Rattle.wave_type.proofs.TypeReading.Sound.{onward_back, built_back, if_back, unless_back}

-- ---- one token

-- what a step leaves of the tokens t and ts
abbrev pub stepped : Step → List ℕ → Tokens → List Expectation → Fault
stepped (takes more) t ts expectations = refused ts (more ++ expectations)
stepped passes t ts expectations = refused (t ∷ ts) expectations
stepped (refuses kind) t ts expectations = Some (kind, t ∷ ts)

module _ (t : List ℕ) (ts : Tokens) (expected : Expectation) (expectations : List Expectation) where
  pub by_step : (s : Step) → step expected t ≡ s → refused (t ∷ ts) (expected ∷ expectations) ≡ stepped s t ts expectations
  by_step s e = subst (λ z. refused (t ∷ ts) (expected ∷ expectations) ≡ stepped z t ts expectations) e (opened (step expected t))
    where
      opened : (z : Step) → elim z as (λ _. Fault) [ takes more ↦ refused ts (more ++ expectations) | passes ↦ refused (t ∷ ts) expectations | refuses kind ↦ Some (kind, t ∷ ts) ] ≡ stepped z t ts expectations
      opened (takes more) = refl
      opened passes = refl
      opened (refuses kind) = refl

-- ---- marks

after_true : (mark t : List ℕ) (ts r : Tokens) → after mark (t ∷ ts) ≡ Some r → (bytes_eq t mark ≡ true) × (ts ≡ r)
after_true mark t ts r e = if_back (bytes_eq t mark) ts r e

none_back : {A : Type 0} (b : Bool) (a : A) → (if b then Some a else None) ≡ None → b ≡ false
none_back true a e = absurd (cc)
none_back false a e = refl

after_false : (mark t : List ℕ) (ts : Tokens) → after mark (t ∷ ts) ≡ None → bytes_eq t mark ≡ false
after_false mark t ts e = none_back (bytes_eq t mark) ts e

pub mark_runs : (mark : List ℕ) (ts r : Tokens) (expectations : List Expectation) → after mark ts ≡ Some r → refused ts (mark_expected mark ∷ expectations) ≡ refused r expectations
mark_runs mark [] r expectations e = absurd (cc)
mark_runs mark (t ∷ ts) r expectations e =
    let p = after_true mark t ts r e in
    by_step t ts (mark_expected mark) expectations (takes []) (ap (λ b. if b then takes [] else refuses UnexpectedToken) p.0) ∙ ap (λ us. refused us expectations) p.1

pub mark_fails : (mark : List ℕ) (ts : Tokens) → after mark ts ≡ None → IsRefused (mark_expected mark) ts (misplaced ts) ts
mark_fails mark [] e = λ expectations. refl
mark_fails mark (t ∷ ts) e = λ expectations. by_step t ts (mark_expected mark) expectations (refuses UnexpectedToken) (ap (λ b. if b then takes [] else refuses UnexpectedToken) (after_false mark t ts e))

-- ---- what may be left out

-- a mark, or else it passes on
module _ (expected : Expectation) (mark : List ℕ) (more : List Expectation) (is : (t : List ℕ) → step expected t ≡ (if bytes_eq t mark then takes more else passes)) (ended : (expectations : List Expectation) → refused [] (expected ∷ expectations) ≡ refused [] expectations) where
  pub maybe_passes : (ts : Tokens) (expectations : List Expectation) → after mark ts ≡ None → refused ts (expected ∷ expectations) ≡ refused ts expectations
  maybe_passes [] expectations e = ended expectations
  maybe_passes (t ∷ ts) expectations e = by_step t ts expected expectations passes (is t ∙ ap (λ b. if b then takes more else passes) (after_false mark t ts e))

  pub maybe_runs : (ts r : Tokens) (expectations : List Expectation) → after mark ts ≡ Some r → refused ts (expected ∷ expectations) ≡ refused r (more ++ expectations)
  maybe_runs [] r expectations e = absurd (cc)
  maybe_runs (t ∷ ts) r expectations e =
      let p = after_true mark t ts r e in
      by_step t ts expected expectations (takes more) (is t ∙ ap (λ b. if b then takes more else passes) p.0) ∙ ap (λ us. refused us (more ++ expectations)) p.1

module _ (n : ℕ) where
  pub payloads_pass : (ts : Tokens) (expectations : List Expectation) → after (codes "<") ts ≡ None → refused ts (payloads_expected n ∷ expectations) ≡ refused ts expectations
  payloads_pass = maybe_passes (payloads_expected n) (codes "<") (ok_expected n ∷ []) (λ t. refl) (λ expectations. refl)

  pub payload_passes : (ts : Tokens) (expectations : List Expectation) → after (codes "(") ts ≡ None → refused ts (payload_expected n ∷ expectations) ≡ refused ts expectations
  payload_passes = maybe_passes (payload_expected n) (codes "(") (type_expected n ∷ mark_expected (codes ")") ∷ []) (λ t. refl) (λ expectations. refl)

  pub payload_runs : (ts r : Tokens) (expectations : List Expectation) → after (codes "(") ts ≡ Some r → refused ts (payload_expected n ∷ expectations) ≡ refused r (type_expected n ∷ mark_expected (codes ")") ∷ expectations)
  payload_runs = maybe_runs (payload_expected n) (codes "(") (type_expected n ∷ mark_expected (codes ")") ∷ []) (λ t. refl) (λ expectations. refl)

  pub results_pass : (ts : Tokens) (expectations : List Expectation) → after (codes "-") ts ≡ None → refused ts (results_expected n ∷ expectations) ≡ refused ts expectations
  results_pass = maybe_passes (results_expected n) (codes "-") (mark_expected (codes ">") ∷ result_expected n ∷ []) (λ t. refl) (λ expectations. refl)

  pub results_run : (ts r : Tokens) (expectations : List Expectation) → after (codes "-") ts ≡ Some r → refused ts (results_expected n ∷ expectations) ≡ refused r (mark_expected (codes ">") ∷ result_expected n ∷ expectations)
  results_run = maybe_runs (results_expected n) (codes "-") (mark_expected (codes ">") ∷ result_expected n ∷ []) (λ t. refl) (λ expectations. refl)

-- ---- types

-- the word of a type and then more is the word of a type, and more is expected after it
word_before : (n : ℕ) (o : Option WasmTypeKind) (more : List Expectation) (t : List ℕ) (ts : Tokens) (expectations : List Expectation) → stepped (before (word_step n o) more) t ts expectations ≡ stepped (word_step n o) t ts (more ++ expectations)
word_before n None more t ts expectations = refl
word_before zero (Some kind) more t ts expectations = refl
word_before (suc n) (Some kind) more t ts expectations = ap (refused ts) (append_assoc (expected_behind n kind) more expectations)

-- where a type is expected and then more
module _ (n : ℕ) (more expectations : List Expectation) where
  type_before : (expected : Expectation) (t : List ℕ) (ts : Tokens) → step expected t ≡ before (type_step n t) more → refused (t ∷ ts) (expected ∷ expectations) ≡ refused (t ∷ ts) (type_expected n ∷ more ++ expectations)
  type_before expected t ts e =
      by_step t ts expected expectations (before (type_step n t) more) e
      ∙ (word_before n (kind_of_word t) more t ts expectations ∙ sym (by_step t ts (type_expected n) (more ++ expectations) (type_step n t) refl))

module _ (n : ℕ) (mark : List ℕ) where
  pub types_are_types : (ts : Tokens) (expectations : List Expectation) → refused ts (part_expected mark (more_types n) ∷ expectations) ≡ refused ts (type_expected n ∷ close_expected mark (more_types n) ∷ expectations)
  types_are_types [] expectations = refl
  types_are_types (t ∷ ts) expectations = type_before n (close_expected mark (more_types n) ∷ []) expectations (part_expected mark (more_types n)) t ts refl

  pub err_is_type : (ts : Tokens) (expectations : List Expectation) → refused ts (part_expected mark (err_type n) ∷ expectations) ≡ refused ts (type_expected n ∷ close_expected mark no_more ∷ expectations)
  err_is_type [] expectations = refl
  err_is_type (t ∷ ts) expectations = type_before n (close_expected mark no_more ∷ []) expectations (part_expected mark (err_type n)) t ts refl

module _ (n : ℕ) where
  pub ok_is_type : (ts : Tokens) (expectations : List Expectation) → after (codes "_") ts ≡ None → refused ts (ok_expected n ∷ expectations) ≡ refused ts (type_expected n ∷ close_expected (codes ">") (err_type n) ∷ expectations)
  ok_is_type [] expectations e = refl
  ok_is_type (t ∷ ts) expectations e =
      type_before n (close_expected (codes ">") (err_type n) ∷ []) expectations (ok_expected n) t ts (ap (λ b. if b then takes (mark_expected (codes ",") ∷ type_expected n ∷ close_expected (codes ">") no_more ∷ []) else before (type_step n t) (close_expected (codes ">") (err_type n) ∷ [])) (after_false (codes "_") t ts e))

  result_same : (t : List ℕ) (ts : Tokens) (expectations : List Expectation) → stepped (type_step n t) t ts expectations ≡ refused (t ∷ ts) (type_expected n ∷ expectations)
  result_same t ts expectations = sym (by_step t ts (type_expected n) expectations (type_step n t) refl)

  pub result_is_type : (ts : Tokens) (expectations : List Expectation) → after (codes "(") ts ≡ None → refused ts (result_expected n ∷ expectations) ≡ refused ts (type_expected n ∷ expectations)
  result_is_type [] expectations e = refl
  result_is_type (t ∷ ts) expectations e =
      by_step t ts (result_expected n) expectations (type_step n t) (ap (λ b. if b then takes (part_expected (codes ")") (more_fields n []) ∷ []) else type_step n t) (after_false (codes "(") t ts e)) ∙ result_same t ts expectations

  pub result_is_named : (ts r : Tokens) (expectations : List Expectation) → after (codes "(") ts ≡ Some r → refused ts (result_expected n ∷ expectations) ≡ refused r (part_expected (codes ")") (more_fields n []) ∷ expectations)
  result_is_named [] r expectations e = absurd (cc)
  result_is_named (t ∷ ts) r expectations e =
      let p = after_true (codes "(") t ts r e in
      by_step t ts (result_expected n) expectations (takes (part_expected (codes ")") (more_fields n []) ∷ [])) (ap (λ b. if b then takes (part_expected (codes ")") (more_fields n []) ∷ []) else type_step n t) p.0) ∙ ap (λ us. refused us (part_expected (codes ")") (more_fields n []) ∷ expectations)) p.1

-- the word of a kind, where a level is left
pub kind_runs : (n : ℕ) (ts r : Tokens) (kind : WasmTypeKind) (expectations : List Expectation) → 0 < n → kind_at ts ≡ Some (kind, r) → refused ts (type_expected n ∷ expectations) ≡ refused r (expected_behind (n - 1) kind ++ expectations)
kind_runs zero ts r kind expectations h e = absurd (omega arith)
kind_runs (suc n) [] r kind expectations h e = absurd (cc)
kind_runs (suc n) (t ∷ ts) r kind expectations h e =
    let p = built_back (kind_of_word t) ts (kind, r) e in
    let one : n ≡ suc n - 1 = omega arith in
    by_step t ts (type_expected (suc n)) expectations (takes (expected_behind n kind)) (ap (word_step (suc n)) p.0) ∙ (λ i. refused (p.1 i) (expected_behind (one i) kind ++ expectations))

-- ---- what stands next

-- a token that isn't what is expected is refused for that, marks as any token
pub key_runs : (ts r : Tokens) (K : TypeTree) (expectations : List Expectation) → key_at ts ≡ Some (K, r) → refused ts (key_expected ∷ expectations) ≡ refused r expectations
key_runs [] r K expectations e = absurd (cc)
key_runs (t ∷ ts) r K expectations e =
    let p = built_back (key_of_word t) ts (K, r) e in
    by_step t ts key_expected expectations (takes []) (ap (λ o. only_step o InvalidKeyType t []) p.0) ∙ ap (λ us. refused us expectations) p.1

pub count_runs : (mark : List ℕ) (ts r : Tokens) (n : ℕ) (expectations : List Expectation) → count_at ts ≡ Some (n, r) → refused ts (part_expected mark a_length ∷ expectations) ≡ refused r (close_expected mark no_more ∷ expectations)
count_runs mark [] r n expectations e = absurd (cc)
count_runs mark (t ∷ ts) r n expectations e =
    let p = built_back (count_of_token t) ts (n, r) e in
    by_step t ts (part_expected mark a_length) expectations (takes (close_expected mark no_more ∷ [])) (ap (λ o. only_step o InvalidCount t (close_expected mark no_more ∷ [])) p.0) ∙ ap (λ us. refused us (close_expected mark no_more ∷ expectations)) p.1

-- ---- the end of parts

-- the mark, or a comma and the mark
module _ (mark t : List ℕ) (ts r : Tokens) where
  ends_by : (b c : Bool) → bytes_eq t mark ≡ b → bytes_eq t (codes ",") ≡ c → closed mark (t ∷ ts) ≡ Some r → ((b ≡ true) × (ts ≡ r)) ⊎ ((b ≡ false) × (c ≡ true) × (after mark ts ≡ Some r))
  ends_by true c hb hc e =
      let first : or_else (Some ts) (onward (after (codes ",") (t ∷ ts)) (after mark)) ≡ Some r = sym (ap (λ b. or_else (if b then Some ts else None) (onward (after (codes ",") (t ∷ ts)) (after mark))) hb) ∙ e in
      inl (refl, (cc))
  ends_by false true hb hc e =
      let first : onward (after (codes ",") (t ∷ ts)) (after mark) ≡ Some r = sym (ap (λ b. or_else (if b then Some ts else None) (onward (after (codes ",") (t ∷ ts)) (after mark))) hb) ∙ e in
      inr (refl, refl, sym (ap (λ b. onward (if b then Some ts else None) (after mark)) hc) ∙ first)
  ends_by false false hb hc e =
      let first : onward (after (codes ",") (t ∷ ts)) (after mark) ≡ Some r = sym (ap (λ b. or_else (if b then Some ts else None) (onward (after (codes ",") (t ∷ ts)) (after mark))) hb) ∙ e in
      let none : None ≡ Some r = sym (ap (λ b. onward (if b then Some ts else None) (after mark)) hc) ∙ first in
      absurd (cc)

close_step : (mark t : List ℕ) (part : Part) (b c : Bool) → bytes_eq t mark ≡ b → bytes_eq t (codes ",") ≡ c → step (close_expected mark part) t ≡ (if b then takes [] else if c then takes (last_expected mark part ∷ []) else refuses UnexpectedToken)
close_step mark t part b c hb hc = λ i. if hb i then takes [] else if hc i then takes (last_expected mark part ∷ []) else refuses UnexpectedToken

pub last_ends : (mark : List ℕ) (part : Part) (ts r : Tokens) (expectations : List Expectation) → after mark ts ≡ Some r → refused ts (last_expected mark part ∷ expectations) ≡ refused r expectations
last_ends mark part [] r expectations e = absurd (cc)
last_ends mark part (t ∷ ts) r expectations e =
    let p = after_true mark t ts r e in
    by_step t ts (last_expected mark part) expectations (takes []) (ap (λ b. if b then takes [] else part_step mark part t) p.0) ∙ ap (λ us. refused us expectations) p.1

pub last_goes_on : (mark : List ℕ) (part : Part) (ts : Tokens) (expectations : List Expectation) → after mark ts ≡ None → refused ts (last_expected mark part ∷ expectations) ≡ refused ts (part_expected mark part ∷ expectations)
last_goes_on mark part [] expectations e = refl
last_goes_on mark part (t ∷ ts) expectations e =
    by_step t ts (last_expected mark part) expectations (part_step mark part t) (ap (λ b. if b then takes [] else part_step mark part t) (after_false mark t ts e)) ∙ sym (by_step t ts (part_expected mark part) expectations (part_step mark part t) refl)

pub close_ends : (mark : List ℕ) (part : Part) (ts r : Tokens) (expectations : List Expectation) → closed mark ts ≡ Some r → refused ts (close_expected mark part ∷ expectations) ≡ refused r expectations
close_ends mark part [] r expectations e = absurd (cc)
close_ends mark part (t ∷ ts) r expectations e = elim (ends_by mark t ts r (bytes_eq t mark) (bytes_eq t (codes ",")) refl refl e) as (λ _. refused (t ∷ ts) (close_expected mark part ∷ expectations) ≡ refused r expectations) [
  | inl p ↦ by_step t ts (close_expected mark part) expectations (takes []) (close_step mark t part true (bytes_eq t (codes ",")) p.0 refl) ∙ ap (λ us. refused us expectations) p.1
  | inr p ↦ by_step t ts (close_expected mark part) expectations (takes (last_expected mark part ∷ [])) (close_step mark t part false true p.0 p.1) ∙ last_ends mark part ts r expectations p.2
]

-- no mark, and no comma
pub close_fails : (mark : List ℕ) (part : Part) (ts : Tokens) → after mark ts ≡ None → after (codes ",") ts ≡ None → IsRefused (close_expected mark part) ts (misplaced ts) ts
close_fails mark part [] e f = λ expectations. refl
close_fails mark part (t ∷ ts) e f = λ expectations. by_step t ts (close_expected mark part) expectations (refuses UnexpectedToken) (close_step mark t part false false (after_false mark t ts e) (after_false (codes ",") t ts f))

-- where the mark isn't next, and a comma is
pub goes_on : (mark : List ℕ) (ts r : Tokens) → after mark ts ≡ None → after (codes ",") ts ≡ Some r → after mark r ≡ None → GoesOn mark ts r
goes_on mark ts r e comma more = record { unclosed = ap (λ o. or_else o (onward (after (codes ",") ts) (after mark))) e ∙ (ap (λ o. onward o (after mark)) comma ∙ more); comma = comma; more = more }

-- after a comma the mark ends parts
pub ends_behind : (mark : List ℕ) (ts m r : Tokens) → after mark ts ≡ None → after (codes ",") ts ≡ Some m → after mark m ≡ Some r → closed mark ts ≡ Some r
ends_behind mark ts m r e comma last = ap (λ o. or_else o (onward (after (codes ",") ts) (after mark))) e ∙ (ap (λ o. onward o (after mark)) comma ∙ last)

pub ends_here : (mark : List ℕ) (ts r : Tokens) → after mark ts ≡ Some r → closed mark ts ≡ Some r
ends_here mark ts r e = ap (λ o. or_else o (onward (after (codes ",") ts) (after mark))) e

unclosed_here : (mark t : List ℕ) (ts : Tokens) (b : Bool) → bytes_eq t mark ≡ b → closed mark (t ∷ ts) ≡ None → b ≡ false
unclosed_here mark t ts true hb e =
    let wrong : Some ts ≡ None = sym (ap (λ b. or_else (if b then Some ts else None) (onward (after (codes ",") (t ∷ ts)) (after mark))) hb) ∙ e in
    absurd (cc)
unclosed_here mark t ts false hb e = refl

pub comma_runs : (mark : List ℕ) (part : Part) (ts r : Tokens) (expectations : List Expectation) → GoesOn mark ts r → refused ts (close_expected mark part ∷ expectations) ≡ refused r (part_expected mark part ∷ expectations)
comma_runs mark part [] r expectations g = let wrong : None ≡ Some r = g.comma in absurd (cc)
comma_runs mark part (t ∷ ts) r expectations g =
    let p = after_true (codes ",") t ts r g.comma in
    by_step t ts (close_expected mark part) expectations (takes (last_expected mark part ∷ [])) (close_step mark t part false true (unclosed_here mark t ts (bytes_eq t mark) refl g.unclosed) p.0) ∙ (ap (λ us. refused us (last_expected mark part ∷ expectations)) p.1 ∙ last_goes_on mark part r expectations g.more)

-- ---- names

-- a name that was read and is new
module _ (names : List (List ℕ)) (t name : List ℕ) (ts r : Tokens) (e : new_name names (t ∷ ts) ≡ Some (name, r)) (next : List (List ℕ) → List Expectation) where
  pub name_steps : (name_step names (name_of_token t) next ≡ takes (next (names ++ name ∷ []))) × (ts ≡ r)
  name_steps =
      let p = onward_back (name_of_token t) (λ n. if is_one_of names n then None else Some (n, drop 1 (t ∷ ts))) (name, r) e in
      let q = unless_back (is_one_of names p.0) (p.0, ts) (name, r) p.2 in
      let same : p.0 ≡ name = λ i. (q.1 i).0 in (
        ap (λ o. name_step names o next) p.1 ∙ (ap (λ b. if b then refuses DuplicateName else takes (next (names ++ p.0 ∷ []))) q.0 ∙ ap (λ n. takes (next (names ++ n ∷ []))) same),
        λ i. (q.1 i).1,
      )

  pub name_runs : (expected : Expectation) → step expected t ≡ name_step names (name_of_token t) next → (expectations : List Expectation) → refused (t ∷ ts) (expected ∷ expectations) ≡ refused r (next (names ++ name ∷ []) ++ expectations)
  name_runs expected is expectations = by_step t ts expected expectations (takes (next (names ++ name ∷ []))) (is ∙ name_steps.0) ∙ ap (λ us. refused us (next (names ++ name ∷ []) ++ expectations)) name_steps.1

repeated_step : (names : List (List ℕ)) (name : List ℕ) (kind : TypeErrorKind) (next : List (List ℕ) → List Expectation) (b : Bool) → (if b then Some DuplicateName else None) ≡ Some kind → (if b then refuses DuplicateName else takes (next (names ++ name ∷ []))) ≡ refuses kind
repeated_step names name kind next true e = let same : DuplicateName ≡ kind = cc in ap refuses same
repeated_step names name kind next false e = absurd (cc)

name_faults : (names : List (List ℕ)) (o : Option (List ℕ)) (kind : TypeErrorKind) (next : List (List ℕ) → List Expectation) → name_fault names o ≡ Some kind → name_step names o next ≡ refuses kind
name_faults names None kind next e = let same : UnexpectedToken ≡ kind = cc in ap refuses same
name_faults names (Some name) kind next e = repeated_step names name kind next (is_one_of names name) e

-- no new name stands next
module _ (names : List (List ℕ)) (expected : Expectation) (next : List (List ℕ) → List Expectation) (is : (t : List ℕ) → step expected t ≡ name_step names (name_of_token t) next) (ended : (expectations : List Expectation) → refused [] (expected ∷ expectations) ≡ Some (UnexpectedEnd, [])) where
  unnamed : (ts : Tokens) (kind : TypeErrorKind) → name_refused names ts ≡ Some kind → IsRefused expected ts kind ts
  unnamed [] kind e = let same : UnexpectedEnd ≡ kind = cc in λ expectations. ended expectations ∙ ap (λ k. Some (k, [])) same
  unnamed (t ∷ ts) kind e = λ expectations. by_step t ts expected expectations (refuses kind) (is t ∙ name_faults names (name_of_token t) kind next e)

  pub name_fails : (ts r : Tokens) (kind : TypeErrorKind) → RefusesName names ts kind r → Fails (λ expectations. expected ∷ expectations) ts kind r
  name_fails ts r kind (inl e) = inl e
  name_fails ts r kind (inr h) = inr (subst (λ us. IsRefused expected ts kind us) (sym h.0) (unnamed ts kind h.1))

module _ (n : ℕ) (mark : List ℕ) (names : List (List ℕ)) (ts r : Tokens) where
  pub field_fails : (kind : TypeErrorKind) → RefusesName names ts kind r → Fails (λ expectations. part_expected mark (more_fields n names) ∷ expectations) ts kind r
  field_fails kind h = name_fails names (part_expected mark (more_fields n names)) (λ names. mark_expected (codes ":") ∷ type_expected n ∷ close_expected mark (more_fields n names) ∷ []) (λ t. refl) (λ expectations. refl) ts r kind h

  pub case_fails : (kind : TypeErrorKind) → RefusesName names ts kind r → Fails (λ expectations. part_expected mark (more_cases n names) ∷ expectations) ts kind r
  case_fails kind h = name_fails names (part_expected mark (more_cases n names)) (λ names. payload_expected n ∷ close_expected mark (more_cases n names) ∷ []) (λ t. refl) (λ expectations. refl) ts r kind h

  pub names_fail : (kind : TypeErrorKind) → RefusesName names ts kind r → Fails (λ expectations. part_expected mark (more_names names) ∷ expectations) ts kind r
  names_fail kind h = name_fails names (part_expected mark (more_names names)) (λ names. close_expected mark (more_names names) ∷ []) (λ t. refl) (λ expectations. refl) ts r kind h

module _ (n : ℕ) (mark : List ℕ) (names : List (List ℕ)) (name : List ℕ) (expectations : List Expectation) where
  pub field_runs : (ts r : Tokens) → new_name names ts ≡ Some (name, r) → refused ts (part_expected mark (more_fields n names) ∷ expectations) ≡ refused r (mark_expected (codes ":") ∷ type_expected n ∷ close_expected mark (more_fields n (names ++ name ∷ [])) ∷ expectations)
  field_runs [] r e = absurd (cc)
  field_runs (t ∷ ts) r e = name_runs names t name ts r e (λ names. mark_expected (codes ":") ∷ type_expected n ∷ close_expected mark (more_fields n names) ∷ []) (part_expected mark (more_fields n names)) refl expectations

  pub case_runs : (ts r : Tokens) → new_name names ts ≡ Some (name, r) → refused ts (part_expected mark (more_cases n names) ∷ expectations) ≡ refused r (payload_expected n ∷ close_expected mark (more_cases n (names ++ name ∷ [])) ∷ expectations)
  case_runs [] r e = absurd (cc)
  case_runs (t ∷ ts) r e = name_runs names t name ts r e (λ names. payload_expected n ∷ close_expected mark (more_cases n names) ∷ []) (part_expected mark (more_cases n names)) refl expectations

  pub names_run : (ts r : Tokens) → new_name names ts ≡ Some (name, r) → refused ts (part_expected mark (more_names names) ∷ expectations) ≡ refused r (close_expected mark (more_names (names ++ name ∷ [])) ∷ expectations)
  names_run [] r e = absurd (cc)
  names_run (t ∷ ts) r e = name_runs names t name ts r e (λ names. close_expected mark (more_names names) ∷ []) (part_expected mark (more_names names)) refl expectations

-- ---- one run and then a refusal

-- where what is expected comes down to what is refused, it is refused
pub fails_onward : (expected more : List Expectation → List Expectation) (ts m r : Tokens) (kind : TypeErrorKind) → ((expectations : List Expectation) → refused ts (expected expectations) ≡ refused m (more expectations)) → Fails more m kind r → Fails expected ts kind r
fails_onward expected more ts m r kind run (inl e) = inl e
fails_onward expected more ts m r kind run (inr h) = inr (λ expectations. run expectations ∙ h expectations)

-- what is refused is refused whatever is expected after it
pub fails_before : (expected : Expectation) (more : List Expectation → List Expectation) (ts r : Tokens) (kind : TypeErrorKind) → Fails (λ expectations. expected ∷ expectations) ts kind r → Fails (λ expectations. expected ∷ more expectations) ts kind r
fails_before expected more ts r kind (inl e) = inl e
fails_before expected more ts r kind (inr h) = inr (λ expectations. h (more expectations))
