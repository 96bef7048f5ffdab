-- No type goes on with the refused token, and the end is refused as such.
use Rattle.std.proofs.Common.{◌≡◌, ℕ, zero, suc, ◌≤◌, Bool, true, false, List, [], ◌∷◌, ◌++◌, Option, Some, None, refl, sym, ap, subst, ◌∙◌, arith, length, length-append, append_assoc, codes}
use Rattle.std.specs.Str.{bytes_eq}
use Rattle.std.specs.Prelude.{◌↔◌, if◌then◌else◌}
use Rattle.wave_wasm.specs.declared.wasm.WasmTypeKind.{WasmTypeKind}
use Rattle.wave_wasm.specs.Names.{is_one_of}
use Rattle.wave_type.specs.declared.error.TypeErrorKind.{TypeErrorKind}
use Rattle.wave_type.specs.declared.error.TypeErrorKind.TheVariants.{UnexpectedToken, UnexpectedEnd, DuplicateName, InvalidKeyType, InvalidCount}
use Rattle.wave_type.specs.FunctionSpelling.{SpellsFunction}
use Rattle.wave_type.specs.TypeFaultLaws.{NoneBeginsWithRefused, EndsAtEnd}
use Rattle.wave_type.specs.TypeFaults.{Part, no_more, a_length, err_type, more_types, more_fields, more_cases, more_names}
use Rattle.wave_type.specs.TypeFaults.{Expectation, mark_expected, type_expected, key_expected, ok_expected, part_expected, close_expected, last_expected, payloads_expected, payload_expected, results_expected, result_expected}
use Rattle.wave_type.specs.TypeFaults.{Step, takes, passes, refuses, before, word_step, type_step, only_step, name_step, part_step, step, Fault, refused, expected_of_type, expected_of_function}
use Rattle.wave_type.specs.TypeSpelling.{Tokens, Spells}
use Rattle.wave_type.specs.TypeWords.{kind_of_word, key_of_word, name_of_token, count_of_token, is_mark}
use Rattle.wave_type.proofs.TypeFaults.TokenSteps.{by_step}
use Rattle.wave_type.proofs.TypeFaults.SpelledIsTaken.{type_runs, function_runs}
use Rattle.wave_type.proofs.TypeFaults.WholeTexts.{is_left}

-- ---- tokens before the refused one decide

-- what is left of fewer tokens is no more than they are
too_many : (ts left : Tokens) (expectations : List Expectation) (kind : TypeErrorKind) → refused ts expectations ≡ Some (kind, left) → length left ≤ length ts
too_many ts left expectations kind e =
    let h = is_left ts expectations kind left e in
    omega (arith, ap length h.1, length-append h.0 left)

module _ (t : List ℕ) (left other : Tokens) (kind : TypeErrorKind) where
  -- the token that is refused at once
  here : (expectations : List Expectation) → refused (t ∷ left) expectations ≡ Some (kind, t ∷ left) → refused (t ∷ other) expectations ≡ Some (kind, t ∷ other)
  here [] e = let same : ◌≡◌ {A = TypeErrorKind × Tokens} (UnexpectedToken, t ∷ left) (kind, t ∷ left) = cc in λ i. Some ((same i).0, t ∷ other)
  here (expected ∷ expectations) e = by (step expected t) refl (here expectations)
    where
      by : (s : Step) → step expected t ≡ s → (refused (t ∷ left) expectations ≡ Some (kind, t ∷ left) → refused (t ∷ other) expectations ≡ Some (kind, t ∷ other)) → refused (t ∷ other) (expected ∷ expectations) ≡ Some (kind, t ∷ other)
      by (takes more) h next =
          let fewer = too_many left (t ∷ left) (more ++ expectations) kind (sym (by_step t left expected expectations (takes more) h) ∙ e) in
          absurd (omega arith)
      by passes h next = by_step t other expected expectations passes h ∙ next (sym (by_step t left expected expectations passes h) ∙ e)
      by (refuses k) h next =
          let same : ◌≡◌ {A = TypeErrorKind × Tokens} (k, t ∷ left) (kind, t ∷ left) = cc (by_step t left expected expectations (refuses k) h) in
          by_step t other expected expectations (refuses k) h ∙ (λ i. Some ((same i).0, t ∷ other))

  module _ (u : List ℕ) (prefix : Tokens) (below : (expectations : List Expectation) → refused (prefix ++ t ∷ left) expectations ≡ Some (kind, t ∷ left) → refused (prefix ++ t ∷ other) expectations ≡ Some (kind, t ∷ other)) where
    longer : (k : TypeErrorKind) → ◌≡◌ {A = Fault} (Some (k, u ∷ prefix ++ t ∷ left)) (Some (kind, t ∷ left)) → ⊥
    longer k e =
        let same : ◌≡◌ {A = TypeErrorKind × Tokens} (k, u ∷ prefix ++ t ∷ left) (kind, t ∷ left) = cc in
        omega (arith, ap (λ (z : TypeErrorKind × Tokens). length z.1) same, length-append prefix (t ∷ left))

    there : (expectations : List Expectation) → refused (u ∷ prefix ++ t ∷ left) expectations ≡ Some (kind, t ∷ left) → refused (u ∷ prefix ++ t ∷ other) expectations ≡ Some (kind, t ∷ other)
    there [] e = absurd (longer UnexpectedToken e)
    there (expected ∷ expectations) e = by (step expected u) refl (there expectations)
      where
        by : (s : Step) → step expected u ≡ s → (refused (u ∷ prefix ++ t ∷ left) expectations ≡ Some (kind, t ∷ left) → refused (u ∷ prefix ++ t ∷ other) expectations ≡ Some (kind, t ∷ other)) → refused (u ∷ prefix ++ t ∷ other) (expected ∷ expectations) ≡ Some (kind, t ∷ other)
        by (takes more) h next = by_step u (prefix ++ t ∷ other) expected expectations (takes more) h ∙ below (more ++ expectations) (sym (by_step u (prefix ++ t ∷ left) expected expectations (takes more) h) ∙ e)
        by passes h next = by_step u (prefix ++ t ∷ other) expected expectations passes h ∙ next (sym (by_step u (prefix ++ t ∷ left) expected expectations passes h) ∙ e)
        by (refuses k) h next = absurd (longer k (sym (by_step u (prefix ++ t ∷ left) expected expectations (refuses k) h) ∙ e))

  -- whatever follows the refused token, it is refused
  pub refused_alike : (prefix : Tokens) (expectations : List Expectation) → refused (prefix ++ t ∷ left) expectations ≡ Some (kind, t ∷ left) → refused (prefix ++ t ∷ other) expectations ≡ Some (kind, t ∷ other)
  refused_alike [] expectations e = here expectations e
  refused_alike (u ∷ prefix) expectations e = there u prefix (refused_alike prefix) expectations e

-- the tokens through the refused one, and others
through : (prefix rest : Tokens) (t : List ℕ) → (prefix ++ t ∷ []) ++ rest ≡ prefix ++ t ∷ rest
through prefix rest t = append_assoc prefix (t ∷ []) rest

pub none_begins : NoneBeginsWithRefused
none_begins = record {
  types = λ n prefix left t kind e (T, rest, h, le).
      let run : refused (prefix ++ t ∷ rest) (expected_of_type n) ≡ None = type_runs n T (prefix ++ t ∷ rest) [] le (subst (λ us. Spells T us []) (through prefix rest t) h) [] in
      let wrong : None ≡ Some (kind, t ∷ rest) = sym run ∙ refused_alike t left rest kind prefix (expected_of_type n) e in
      cc;
  functions = λ n prefix left t kind e (f, rest, h, le).
      let run : refused (prefix ++ t ∷ rest) (expected_of_function n) ≡ None = function_runs n f (prefix ++ t ∷ rest) le (subst (SpellsFunction f) (through prefix rest t) h) in
      let wrong : None ≡ Some (kind, t ∷ rest) = sym run ∙ refused_alike t left rest kind prefix (expected_of_function n) e in
      cc;
}

-- ---- the end

-- no token is refused as the end
abbrev NotEnd : Step → Type 0
NotEnd (takes more) = Unit {0}
NotEnd passes = Unit {0}
NotEnd (refuses kind) = kind ≡ UnexpectedEnd → ⊥

if_not : (b : Bool) (x y : Step) → NotEnd x → NotEnd y → NotEnd (if b then x else y)
if_not true x y h k = h
if_not false x y h k = k

word_not : (n : ℕ) (o : Option WasmTypeKind) → NotEnd (word_step n o)
word_not n None = λ e. cc
word_not zero (Some kind) = λ e. cc
word_not (suc n) (Some kind) = tt

before_not : (s : Step) (more : List Expectation) → NotEnd s → NotEnd (before s more)
before_not (takes expectations) more h = tt
before_not passes more h = tt
before_not (refuses kind) more h = h

mark_not : (b : Bool) (kind : TypeErrorKind) → (kind ≡ UnexpectedEnd → ⊥) → (if b then UnexpectedToken else kind) ≡ UnexpectedEnd → ⊥
mark_not true kind h = λ e. cc
mark_not false kind h = h

only_not : {A : Type 0} (o : Option A) (kind : TypeErrorKind) (t : List ℕ) (more : List Expectation) → (kind ≡ UnexpectedEnd → ⊥) → NotEnd (only_step o kind t more)
only_not (Some a) kind t more h = tt
only_not None kind t more h = mark_not (is_mark t) kind h

name_not : (names : List (List ℕ)) (o : Option (List ℕ)) (next : List (List ℕ) → List Expectation) → NotEnd (name_step names o next)
name_not names None next = λ e. cc
name_not names (Some name) next = if_not (is_one_of names name) (refuses DuplicateName) (takes (next (names ++ name ∷ []))) (λ e. cc) tt

part_not : (mark : List ℕ) (part : Part) (t : List ℕ) → NotEnd (part_step mark part t)
part_not mark no_more t = λ e. cc
part_not mark a_length t = only_not (count_of_token t) InvalidCount t (close_expected mark no_more ∷ []) (λ e. cc)
part_not mark (err_type n) t = before_not (type_step n t) (close_expected mark no_more ∷ []) (word_not n (kind_of_word t))
part_not mark (more_types n) t = before_not (type_step n t) (close_expected mark (more_types n) ∷ []) (word_not n (kind_of_word t))
part_not mark (more_fields n names) t = name_not names (name_of_token t) (λ names. mark_expected (codes ":") ∷ type_expected n ∷ close_expected mark (more_fields n names) ∷ [])
part_not mark (more_cases n names) t = name_not names (name_of_token t) (λ names. payload_expected n ∷ close_expected mark (more_cases n names) ∷ [])
part_not mark (more_names names) t = name_not names (name_of_token t) (λ names. close_expected mark (more_names names) ∷ [])

step_not : (expected : Expectation) (t : List ℕ) → NotEnd (step expected t)
step_not (mark_expected mark) t = if_not (bytes_eq t mark) (takes []) (refuses UnexpectedToken) tt (λ e. cc)
step_not (type_expected n) t = word_not n (kind_of_word t)
step_not key_expected t = only_not (key_of_word t) InvalidKeyType t [] (λ e. cc)
step_not (ok_expected n) t =
    if_not (bytes_eq t (codes "_")) (takes (mark_expected (codes ",") ∷ type_expected n ∷ close_expected (codes ">") no_more ∷ [])) (before (type_step n t) (close_expected (codes ">") (err_type n) ∷ [])) tt (before_not (type_step n t) (close_expected (codes ">") (err_type n) ∷ []) (word_not n (kind_of_word t)))
step_not (part_expected mark part) t = part_not mark part t
step_not (close_expected mark part) t =
    if_not (bytes_eq t mark) (takes []) (if bytes_eq t (codes ",") then takes (last_expected mark part ∷ []) else refuses UnexpectedToken) tt (if_not (bytes_eq t (codes ",")) (takes (last_expected mark part ∷ [])) (refuses UnexpectedToken) tt (λ e. cc))
step_not (last_expected mark part) t = if_not (bytes_eq t mark) (takes []) (part_step mark part t) tt (part_not mark part t)
step_not (payloads_expected n) t = if_not (bytes_eq t (codes "<")) (takes (ok_expected n ∷ [])) passes tt tt
step_not (payload_expected n) t = if_not (bytes_eq t (codes "(")) (takes (type_expected n ∷ mark_expected (codes ")") ∷ [])) passes tt tt
step_not (results_expected n) t = if_not (bytes_eq t (codes "-")) (takes (mark_expected (codes ">") ∷ result_expected n ∷ [])) passes tt tt
step_not (result_expected n) t = if_not (bytes_eq t (codes "(")) (takes (part_expected (codes ")") (more_fields n []) ∷ [])) (type_step n t) tt (word_not n (kind_of_word t))

end_ended : (expectations : List Expectation) (kind : TypeErrorKind) (left : Tokens) → refused [] expectations ≡ Some (kind, left) → (kind ≡ UnexpectedEnd) × (left ≡ [])
end_ended [] kind left e = absurd (cc)
end_ended (payloads_expected n ∷ expectations) kind left e = end_ended expectations kind left e
end_ended (payload_expected n ∷ expectations) kind left e = end_ended expectations kind left e
end_ended (results_expected n ∷ expectations) kind left e = end_ended expectations kind left e
end_ended (expected ∷ expectations) kind left e = let same : ◌≡◌ {A = TypeErrorKind × Tokens} (UnexpectedEnd, []) (kind, left) = cc in ((λ i. (sym same i).0), (λ i. (sym same i).1))

module _ (t : List ℕ) (ts left : Tokens) (kind : TypeErrorKind) (below : (expectations : List Expectation) → refused ts expectations ≡ Some (kind, left) → (kind ≡ UnexpectedEnd) ↔ (left ≡ [])) where
  -- a refused token is left
  is_token : (k : TypeErrorKind) → (k ≡ UnexpectedEnd → ⊥) → ◌≡◌ {A = Fault} (Some (k, t ∷ ts)) (Some (kind, left)) → (kind ≡ UnexpectedEnd) ↔ (left ≡ [])
  is_token k h e =
      let same : ◌≡◌ {A = TypeErrorKind × Tokens} (k, t ∷ ts) (kind, left) = cc in
      ((λ end. absurd (h ((λ i. (same i).0) ∙ end))), (λ none. let wrong : t ∷ ts ≡ [] = (λ i. (same i).1) ∙ none in cc))

  end_at : (expectations : List Expectation) → refused (t ∷ ts) expectations ≡ Some (kind, left) → (kind ≡ UnexpectedEnd) ↔ (left ≡ [])
  end_at [] e = is_token UnexpectedToken (λ e. cc) e
  end_at (expected ∷ expectations) e = by (step expected t) refl (end_at expectations)
    where
      by : (s : Step) → step expected t ≡ s → (refused (t ∷ ts) expectations ≡ Some (kind, left) → (kind ≡ UnexpectedEnd) ↔ (left ≡ [])) → (kind ≡ UnexpectedEnd) ↔ (left ≡ [])
      by (takes more) h next = below (more ++ expectations) (sym (by_step t ts expected expectations (takes more) h) ∙ e)
      by passes h next = next (sym (by_step t ts expected expectations passes h) ∙ e)
      by (refuses k) h next = is_token k (subst NotEnd h (step_not expected t)) (sym (by_step t ts expected expectations (refuses k) h) ∙ e)

pub ends_at_end : EndsAtEnd
ends_at_end [] left expectations kind e = let h = end_ended expectations kind left e in ((λ _. h.1), (λ _. h.0))
ends_at_end (t ∷ ts) left expectations kind e = end_at t ts left kind (λ expectations. ends_at_end ts left expectations kind) expectations e
