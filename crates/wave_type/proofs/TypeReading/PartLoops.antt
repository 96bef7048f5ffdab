-- Loops that read parts: what is known at each round, and what follows where one ends.
use Rattle.std.proofs.Common.{◌≡◌, ℕ, ◌+◌, ◌-◌, ◌≤◌, ◌<◌, Bool, true, false, List, [], ◌∷◌, ◌++◌, inr, Option, Some, None, sym, ap, ◌∙◌, arith, length, codes}
use Rattle.std.specs.Prelude.{MatchBool}
use Rattle.wave_wasm.specs.Types.{TypeTree}
use Rattle.wave_type.specs.declared.error.TypeErrorKind.{TypeErrorKind}
use Rattle.wave_type.specs.TypeSpelling.{Tokens}
use Rattle.wave_type.specs.TypeFaults.{Part, more_types, more_fields, more_cases, more_names, Expectation, type_expected, part_expected, close_expected, payload_expected, refused}
use Rattle.wave_type.specs.Private.TypeReading.{after, closed, part_names, parts, new_name, field_part, payload_read, case_part, type_read}
use Rattle.wave_type.specs.Private.TypeTokens.{misplaced, Fails, IsRefused, GoesOn}
use Rattle.wave_type.proofs.TypeFaults.TokenSteps.{fails_onward, fails_before, mark_runs, types_are_types, field_runs, case_runs, names_run, comma_runs}
use Rattle.wave_type.proofs.TypeReading.PartSteps.{part_ends, part_behind, field_read, case_read}
use Rattle.wave_type.proofs.TypeReading.ReaderSteps.{ends_so, goes_so, mark_refused, after_less, new_less, read_less, payload_less}
use Rattle.wave_type.proofs.TypeFaults.SpelledIsTaken.{read_runs, payload_read_runs}
use Rattle.wave_type.proofs.TypeReading.Sound.{map_more}

-- these parts of `old` were seen in i rounds, and the tokens ts are left
pub record PartsLeft {A : Type 0} (part : List A → Tokens → Option (A × Tokens)) (mark : List ℕ) (expected : List A → Part) (old : Tokens) (i : ℕ) (seen : List A) (ts : Tokens) : Type 0 where
  pub read : parts part mark (length old - i) seen ts ≡ parts part mark (length old) [] old
  pub less : length ts + i ≤ length old
  pub runs : (expectations : List Expectation) → refused old (part_expected mark (expected []) ∷ expectations) ≡ refused ts (part_expected mark (expected seen) ∷ expectations)

-- a part stands next, and m after it
pub record PartStands {A : Type 0} (part : List A → Tokens → Option (A × Tokens)) (mark : List ℕ) (expected : List A → Part) (seen : List A) (ts : Tokens) (a : A) (m : Tokens) : Type 0 where
  pub read : part seen ts ≡ Some (a, m)
  pub less : length m < length ts
  pub runs : (expectations : List Expectation) → refused ts (part_expected mark (expected seen) ∷ expectations) ≡ refused m (close_expected mark (expected (seen ++ (a ∷ []))) ∷ expectations)

module _ {A : Type 0} {part : List A → Tokens → Option (A × Tokens)} {mark : List ℕ} {expected : List A → Part} {old : Tokens} {i : ℕ} {seen : List A} {ts : Tokens} (known : PartsLeft part mark expected old i seen ts) where
  -- where the next part is refused, all are
  pub part_fails : (r : Tokens) (kind : TypeErrorKind) → Fails (λ expectations. part_expected mark (expected seen) ∷ expectations) ts kind r → Fails (λ expectations. part_expected mark (expected []) ∷ expectations) old kind r
  part_fails r kind h = fails_onward (λ expectations. part_expected mark (expected []) ∷ expectations) (λ expectations. part_expected mark (expected seen) ∷ expectations) old ts r kind known.runs h

  module _ {a : A} {m : Tokens} (next : PartStands part mark expected seen ts a m) where
    fits : i < length old
    fits = omega (arith, known.less, next.less)

    -- neither the mark nor a comma stands after it
    pub end_fails : (r : Tokens) (kind : TypeErrorKind) → ((after : Part) → IsRefused (close_expected mark after) m kind r) → Fails (λ expectations. part_expected mark (expected []) ∷ expectations) old kind r
    end_fails r kind h = inr (λ expectations. known.runs expectations ∙ (next.runs expectations ∙ h (expected (seen ++ (a ∷ []))) expectations))

    module _ (r : Tokens) (all : List A) (is : all ≡ seen ++ (a ∷ [])) (b : Bool) (ends : MatchBool b (closed mark m ≡ Some r) (GoesOn mark m r)) where
      -- it was the last part
      pub all_read : b ≡ true → parts part mark (length old) [] old ≡ Some (all, r)
      all_read e =
          part_ends part mark (length old) i seen ts (parts part mark (length old) [] old) fits known.read a m r next.read (ends_so mark m r b ends e) ∙ ap (λ l. Some (l, r)) (sym is)

      -- more are left
      pub more_left : b ≡ false → PartsLeft part mark expected old (i + 1) all r
      more_left e =
          let more = goes_so mark m r b ends e in
          record {
            read = ap (λ l. parts part mark (length old - (i + 1)) l r) is ∙ part_behind part mark (length old) i seen ts (parts part mark (length old) [] old) fits known.read a m r next.read more.unclosed more.comma;
            less = omega (arith, known.less, next.less, after_less (codes ",") m r more.comma);
            runs = λ expectations. known.runs expectations ∙ (next.runs expectations ∙ (comma_runs mark (expected (seen ++ (a ∷ []))) m r expectations more ∙ ap (λ l. refused r (part_expected mark (expected l) ∷ expectations)) (sym is)));
          }

-- ---- types and names

module _ (n : ℕ) (mark : List ℕ) (ts r : Tokens) where
  pub type_fails : (kind : TypeErrorKind) → Fails (λ expectations. type_expected n ∷ expectations) ts kind r → Fails (λ expectations. part_expected mark (more_types n) ∷ expectations) ts kind r
  type_fails kind h =
      let more = λ (expectations : List Expectation). close_expected mark (more_types n) ∷ expectations in
      fails_onward (λ expectations. part_expected mark (more_types n) ∷ expectations) (λ expectations. type_expected n ∷ more expectations) ts ts r kind (types_are_types n mark ts) (fails_before (type_expected n) more ts r kind h)

  pub type_next : (seen : List TypeTree) (T : TypeTree) → type_read n ts ≡ Some (T, r) → PartStands (λ seen. type_read n) mark (λ seen. more_types n) seen ts T r
  type_next seen T e = record {
    read = e;
    less = read_less n ts r T e;
    runs = λ expectations. types_are_types n mark ts expectations ∙ read_runs n ts r T e (close_expected mark (more_types n) ∷ expectations);
  }

pub name_next : (mark name : List ℕ) (seen : List (List ℕ)) (ts r : Tokens) → new_name seen ts ≡ Some (name, r) → PartStands new_name mark more_names seen ts name r
name_next mark name seen ts r e = record { read = e; less = new_less seen ts r name e; runs = λ expectations. names_run 0 mark seen name expectations ts r e }

-- ---- fields

module _ (n : ℕ) (mark name : List ℕ) (seen : List (List ℕ × TypeTree)) (ts m : Tokens) (e : new_name (part_names seen) ts ≡ Some (name, m)) where
  -- what is expected after the type of this field
  abbrev behind_field : List Expectation → List Expectation
  behind_field expectations = close_expected mark (more_fields n (part_names seen ++ name ∷ [])) ∷ expectations

  pub colon_fails : (r : Tokens) (kind : TypeErrorKind) → (after (codes ":") m ≡ None) × (kind ≡ misplaced m) × (r ≡ m) → Fails (λ expectations. part_expected mark (more_fields n (part_names seen)) ∷ expectations) ts kind r
  colon_fails r kind h =
      inr (λ expectations. field_runs n mark (part_names seen) name expectations ts m e ∙ mark_refused (codes ":") m r kind h (type_expected n ∷ behind_field expectations))

  module _ (l : Tokens) (colon : after (codes ":") m ≡ Some l) where
    named_runs : (expectations : List Expectation) → refused ts (part_expected mark (more_fields n (part_names seen)) ∷ expectations) ≡ refused l (type_expected n ∷ behind_field expectations)
    named_runs expectations = field_runs n mark (part_names seen) name expectations ts m e ∙ mark_runs (codes ":") m l (type_expected n ∷ behind_field expectations) colon

    pub field_type_fails : (r : Tokens) (kind : TypeErrorKind) → Fails (λ expectations. type_expected n ∷ expectations) l kind r → Fails (λ expectations. part_expected mark (more_fields n (part_names seen)) ∷ expectations) ts kind r
    field_type_fails r kind h =
        fails_onward (λ expectations. part_expected mark (more_fields n (part_names seen)) ∷ expectations) (λ expectations. type_expected n ∷ behind_field expectations) ts l r kind named_runs (fails_before (type_expected n) behind_field l r kind h)

    pub field_next : (r : Tokens) (T : TypeTree) → type_read n l ≡ Some (T, r) → PartStands (field_part (type_read n)) mark (λ seen. more_fields n (part_names seen)) seen ts (name, T) r
    field_next r T typed = record {
      read = field_read (type_read n) seen ts name m l r T e colon typed;
      less = omega (arith, new_less (part_names seen) ts m name e, after_less (codes ":") m l colon, read_less n l r T typed);
      runs = λ expectations. named_runs expectations ∙ (read_runs n l r T typed (behind_field expectations) ∙ ap (λ names. refused r (close_expected mark (more_fields n names) ∷ expectations)) (sym (map_more (λ p. p.0) seen (name, T))));
    }

-- ---- cases

module _ (n : ℕ) (mark name : List ℕ) (seen : List (List ℕ × Option TypeTree)) (ts m : Tokens) (e : new_name (part_names seen) ts ≡ Some (name, m)) where
  -- what is expected after the payload of this case
  abbrev behind_case : List Expectation → List Expectation
  behind_case expectations = close_expected mark (more_cases n (part_names seen ++ name ∷ [])) ∷ expectations

  pub payload_fails : (r : Tokens) (kind : TypeErrorKind) → Fails (λ expectations. payload_expected n ∷ expectations) m kind r → Fails (λ expectations. part_expected mark (more_cases n (part_names seen)) ∷ expectations) ts kind r
  payload_fails r kind h =
      fails_onward (λ expectations. part_expected mark (more_cases n (part_names seen)) ∷ expectations) (λ expectations. payload_expected n ∷ behind_case expectations) ts m r kind (λ expectations. case_runs n mark (part_names seen) name expectations ts m e) (fails_before (payload_expected n) behind_case m r kind h)

  pub case_next : (r : Tokens) (P : Option TypeTree) → payload_read (type_read n) m (after (codes "(") m) ≡ Some (P, r) → PartStands (case_part (type_read n)) mark (λ seen. more_cases n (part_names seen)) seen ts (name, P) r
  case_next r P paid = record {
    read = case_read (type_read n) seen ts name m r P e paid;
    less = omega (arith, new_less (part_names seen) ts m name e, payload_less n m r P paid);
    runs = λ expectations. case_runs n mark (part_names seen) name expectations ts m e ∙ (payload_read_runs n m r P paid (behind_case expectations) ∙ ap (λ names. refused r (close_expected mark (more_cases n names) ∷ expectations)) (sym (map_more (λ p. p.0) seen (name, P))));
  }
