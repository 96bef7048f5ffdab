-- No prefix of tokens is two values of a type in the grammar of canonical texts.
use Rattle.std.proofs.Common.{ℕ, ◌-◌, ◌<◌, inl, inr, List, ◌∷◌, sym, subst}
use Rattle.wave_wasm.specs.Types as type
use Rattle.wave_wasm.specs.Types.{TypeTree, MaybeType, Types, Fields, Cases, field_names, case_names, HasDistinctNames, EachNamesOfMaybe, EachNamesOfTypes, EachNamesOfFields, EachNamesOfCases}
use Rattle.wave_wasm.specs.Names.{IsOneOf, AreDistinct}
use Rattle.wave_wasm.specs.Values.{Value, MaybeValue}
use Rattle.wave_grammar.specs.Token.{Token, bracket_close}
use Rattle.wave_grammar.specs.CommaSeparated.{Spelling}
use Rattle.wave_grammar.specs.TypedGrammar as r
use Rattle.wave_grammar.proofs.Unambiguity.Values.{Agree, NeverBegins, Begins, IsStart, IsFlatStart, never-agree, provided-agree, list-agree, fixed-agree, tuple-agree, first-agree, then-agree, end-agree, payload-agree, bare-agree, simple-agree, enum-agree, variant-agree, record-agree, flags-agree, map-agree, option-agree, result-agree, one-none, spells-start, case_name-start, flat_is-start}
use Rattle.wave_grammar.proofs.RoundTrip.Tokenizes.{EmptyTuple, Writes, WritesPayload, WritesTuple, WritesFurther, WritesField, WritesCase}

-- ---- which token comes first

-- a value begins with no mark that closes
start : (T : TypeTree) (n : ℕ) (tokens : List Token) (v : Value) (rest : List Token) → Writes T n tokens v rest → Begins IsStart tokens
start (type.simple S) n tokens v rest (l, (token, x, e, k, f)) = flat_is-start tokens (subst (Begins IsFlatStart) (sym e) (spells-start S token x k))
start (type.unreadable kind) n tokens v rest h = absurd h
start (type.list E) n tokens v rest (l, (items, (inside, e, h), f)) = subst (Begins IsStart) (sym e) tt
start (type.fixed E count) n tokens v rest (l, (items, (inside, e, h), long, f)) = subst (Begins IsStart) (sym e) tt
start (type.record_type fs) n tokens v rest (l, (found, all, inl (e, f), d, k, g)) = subst (Begins IsStart) (sym e) tt
start (type.record_type fs) n tokens v rest (l, (found, all, inr ((inside, e, h), m), d, k, g)) = subst (Begins IsStart) (sym e) tt
start (type.tuple types) n tokens v rest (l, (items, prefix, e, h, f)) = subst (Begins IsStart) (sym e) tt
start (type.variant cs) n tokens v rest (l, (name, payload, behind, h, k, e)) = flat_is-start tokens (case_name-start tokens name behind h)
start (type.enum names) n tokens v rest (l, (name, h, k, e)) = flat_is-start tokens (case_name-start tokens name rest h)
start (type.option P) n tokens v rest (l, inl (e, f)) = subst (Begins IsStart) (sym e) tt
start (type.option P) n tokens v rest (l, inr (w, (behind, e, h), f)) = subst (Begins IsStart) (sym e) tt
start (type.result A B) n tokens v rest (l, inl (w, (behind, e, h), f)) = subst (Begins IsStart) (sym e) tt
start (type.result A B) n tokens v rest (l, inr (w, (behind, e, h), f)) = subst (Begins IsStart) (sym e) tt
start (type.flags names) n tokens v rest (l, (found, (inside, e, h), f, g, k)) = subst (Begins IsStart) (sym e) tt
start (type.map K V) n tokens v rest (l, (pairs, inl (e, f), d)) = subst (Begins IsStart) (sym e) tt
start (type.map K V) n tokens v rest (l, (pairs, inr (inside, e, h), d)) = subst (Begins IsStart) (sym e) tt

no_close : (T : TypeTree) (n : ℕ) → NeverBegins bracket_close (Writes T n)
no_close T n behind rest v h = start T n (bracket_close ∷ behind) v rest h

-- ---- rows of their own

empty-agree : Agree EmptyTuple EmptyTuple
empty-agree tokens a b r s (e, f) (g, h) = (cc, cc)

-- an option, none of whose values stands for it
plain_option-agree : (P Q : Spelling Value) (H K : Type 0) → Agree P Q → Agree (r.Provided H (r.AnOption P)) (r.Provided K (r.AnOption Q))
plain_option-agree P Q H K agree tokens a b rest others p q =
    option-agree P Q r.Never r.Never agree never-agree (λ prefix v behind h. absurd h) (λ prefix v behind h. absurd h) H K tokens a b rest others (inl p) (inl q)

-- a result, none of whose values stands for it
plain_result-agree : (P Q P' Q' : Spelling MaybeValue) (H K : Type 0) → Agree P Q → Agree P' Q' → Agree (r.Provided H (r.AResult P P')) (r.Provided K (r.AResult Q Q'))
plain_result-agree P Q P' Q' H K one two tokens a b rest others p q =
    result-agree P Q P' Q' r.Never r.Never one two never-agree (λ prefix v behind h. absurd h) (λ prefix v behind h. absurd h) H K tokens a b rest others (inl p) (inl q)

field-named : (fs : Fields) (n : ℕ) (name : List ℕ) (tokens : List Token) (w : Value) (rest : List Token) → WritesField fs n name tokens w rest → IsOneOf (field_names fs) name
field-named type.no_fields n name tokens w rest h = absurd h
field-named (type.field other T more) n name tokens w rest (inl h) = inl h.0
field-named (type.field other T more) n name tokens w rest (inr h) = inr (field-named more n name tokens w rest h)

case-named : (cs : Cases) (n : ℕ) (name : List ℕ) (tokens : List Token) (w : MaybeValue) (rest : List Token) → WritesCase cs n name tokens w rest → IsOneOf (case_names cs) name
case-named type.no_cases n name tokens w rest h = absurd h
case-named (type.case_of other T more) n name tokens w rest (inl h) = inl h.0
case-named (type.case_of other T more) n name tokens w rest (inr h) = inr (case-named more n name tokens w rest h)

-- ---- any type

mutual
  -- no prefix is two values of the type
  pub once : (T : TypeTree) → HasDistinctNames T → (n m : ℕ) → Agree (Writes T n) (Writes T m)
  once (type.simple S) d n m = provided-agree (0 < n) (0 < m) _ _ (simple-agree S)
  once (type.unreadable kind) d n m = never-agree
  once (type.list E) d n m = provided-agree (0 < n) (0 < m) _ _ (list-agree (Writes E (n - 1)) (Writes E (m - 1)) (no_close E (n - 1)) (no_close E (m - 1)) (once E d (n - 1) (m - 1)))
  once (type.fixed E count) d n m = provided-agree (0 < n) (0 < m) _ _ (fixed-agree count (Writes E (n - 1)) (Writes E (m - 1)) (no_close E (n - 1)) (no_close E (m - 1)) (once E d (n - 1) (m - 1)))
  once (type.record_type fs) d n m = provided-agree (0 < n) (0 < m) _ _ (record-agree fs (WritesField fs (n - 1)) (WritesField fs (m - 1)) (λ name. once_field fs d.0 d.1 (n - 1) (m - 1) name))
  once (type.tuple types) d n m = provided-agree (0 < n) (0 < m) _ _ (tuple-agree (WritesTuple types (n - 1)) (WritesTuple types (m - 1)) (once_tuple types d (n - 1) (m - 1)))
  once (type.variant cs) d n m = provided-agree (0 < n) (0 < m) _ _ (variant-agree (WritesCase cs (n - 1)) (WritesCase cs (m - 1)) (λ name. once_case cs d.0 d.1 (n - 1) (m - 1) name))
  once (type.enum names) d n m = provided-agree (0 < n) (0 < m) _ _ (enum-agree names)
  once (type.option P) d n m = plain_option-agree (Writes P (n - 1)) (Writes P (m - 1)) (0 < n) (0 < m) (once P d (n - 1) (m - 1))
  once (type.result A B) d n m =
      plain_result-agree (WritesPayload A (n - 1)) (WritesPayload A (m - 1)) (WritesPayload B (n - 1)) (WritesPayload B (m - 1)) (0 < n) (0 < m) (once_payload A d.0 (n - 1) (m - 1)) (once_payload B d.1 (n - 1) (m - 1))
  once (type.flags names) d n m = provided-agree (0 < n) (0 < m) _ _ (flags-agree names)
  once (type.map K V) d n m = provided-agree (0 < n) (0 < m) _ _ (map-agree K (Writes V (n - 1)) (Writes V (m - 1)) (once V d (n - 1) (m - 1)))

  -- of a payload
  pub once_payload : (A : MaybeType) → EachNamesOfMaybe AreDistinct A → (n m : ℕ) → Agree (WritesPayload A n) (WritesPayload A m)
  once_payload type.no_type d n m = bare-agree
  once_payload (type.a_type T) d n m = payload-agree (Writes T n) (Writes T m) (once T d n m)

  -- of the values of a tuple
  pub once_tuple : (Ts : Types) → EachNamesOfTypes AreDistinct Ts → (n m : ℕ) → Agree (WritesTuple Ts n) (WritesTuple Ts m)
  once_tuple type.no_types d n m = empty-agree
  once_tuple (type.type_and T more) d n m = first-agree (Writes T n) (Writes T m) (WritesFurther more n) (WritesFurther more m) (once T d.0 n m) (once_further more d.1 n m)

  -- of the further values of a tuple
  pub once_further : (Ts : Types) → EachNamesOfTypes AreDistinct Ts → (n m : ℕ) → Agree (WritesFurther Ts n) (WritesFurther Ts m)
  once_further type.no_types d n m = end-agree
  once_further (type.type_and T more) d n m = then-agree (Writes T n) (Writes T m) (WritesFurther more n) (WritesFurther more m) (once T d.0 n m) (once_further more d.1 n m)

  -- of a field of some name
  pub once_field : (fs : Fields) → AreDistinct (field_names fs) → EachNamesOfFields AreDistinct fs → (n m : ℕ) (name : List ℕ) → Agree (WritesField fs n name) (WritesField fs m name)
  once_field type.no_fields distinct d n m name tokens a b rest others h k = absurd h
  once_field (type.field other T more) distinct d n m name tokens a b rest others (inl h) (inl k) = once T d.0 n m tokens a b rest others h.1 k.1
  once_field (type.field other T more) distinct d n m name tokens a b rest others (inl h) (inr k) = absurd (one-none (field_names more) other (subst (IsOneOf (field_names more)) h.0 (field-named more m name tokens b others k)) distinct.0)
  once_field (type.field other T more) distinct d n m name tokens a b rest others (inr h) (inl k) = absurd (one-none (field_names more) other (subst (IsOneOf (field_names more)) k.0 (field-named more n name tokens a rest h)) distinct.0)
  once_field (type.field other T more) distinct d n m name tokens a b rest others (inr h) (inr k) = once_field more distinct.1 d.1 n m name tokens a b rest others h k

  -- of the payload of a case of some name
  pub once_case : (cs : Cases) → AreDistinct (case_names cs) → EachNamesOfCases AreDistinct cs → (n m : ℕ) (name : List ℕ) → Agree (WritesCase cs n name) (WritesCase cs m name)
  once_case type.no_cases distinct d n m name tokens a b rest others h k = absurd h
  once_case (type.case_of other T more) distinct d n m name tokens a b rest others (inl h) (inl k) = once_payload T d.0 n m tokens a b rest others h.1 k.1
  once_case (type.case_of other T more) distinct d n m name tokens a b rest others (inl h) (inr k) = absurd (one-none (case_names more) other (subst (IsOneOf (case_names more)) h.0 (case-named more m name tokens b others k)) distinct.0)
  once_case (type.case_of other T more) distinct d n m name tokens a b rest others (inr h) (inl k) = absurd (one-none (case_names more) other (subst (IsOneOf (case_names more)) k.0 (case-named more n name tokens a rest h)) distinct.0)
  once_case (type.case_of other T more) distinct d n m name tokens a b rest others (inr h) (inr k) = once_case more distinct.1 d.1 n m name tokens a b rest others h k
