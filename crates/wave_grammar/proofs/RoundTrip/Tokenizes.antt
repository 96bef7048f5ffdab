-- The grammar of canonical texts: options and results are never flat, and a tuple of no types is `()`.
use Rattle.std.proofs.Common.{ℕ, ◌-◌, ◌<◌, ◌≡◌, inl, inr, true, false, List, [], ◌∷◌}
use Rattle.std.specs.Prelude.{◌&&◌}
use Rattle.std.proofs.lemmas.Bool.{and_parts}
use Rattle.wave_wasm.specs.Types as type
use Rattle.wave_wasm.specs.Types.{TypeTree, MaybeType, Types, Fields, Cases, Simple, IsRepresentable, every, every_maybe, every_type, every_field, every_case, can_be_built}
use Rattle.wave_wasm.specs.Values.{Value, MaybeValue}
use Rattle.wave_grammar.specs.Token.{Token, brace_open, brace_close, bracket_open, bracket_close, paren_close}
use Rattle.wave_grammar.specs.CommaSeparated.{Spelling, FurtherItems, Listed}
use Rattle.wave_grammar.specs.TypedGrammar as r
use Rattle.wave_grammar.specs.TypedGrammar.{Reads, ReadsPayload, ReadsFlat, ReadsTuple, ReadsFurther, ReadsField, ReadsCase}

-- after its open parenthesis a tuple of no values
abbrev pub EmptyTuple : Spelling (List Value)
EmptyTuple tokens items rest = (tokens ≡ paren_close ∷ rest) × (items ≡ [])

-- at the start of the tokens stands the value as canonical texts have it, within n levels, and the rest is left
abbrev mutual
  pub Writes : TypeTree → ℕ → Spelling Value
  Writes (type.simple S) n = r.Provided (0 < n) (r.ASimple S)
  Writes (type.unreadable kind) n = r.Never
  Writes (type.list E) n = r.Provided (0 < n) (r.AList (Writes E (n - 1)))
  Writes (type.fixed E count) n = r.Provided (0 < n) (r.AFixedList count (Writes E (n - 1)))
  Writes (type.record_type fields) n = r.Provided (0 < n) (r.ARecord fields (WritesField fields (n - 1)))
  Writes (type.tuple types) n = r.Provided (0 < n) (r.ATuple (WritesTuple types (n - 1)))
  Writes (type.variant cases) n = r.Provided (0 < n) (r.AVariant (WritesCase cases (n - 1)))
  Writes (type.enum names) n = r.Provided (0 < n) (r.AnEnum names)
  Writes (type.option P) n = r.Provided (0 < n) (r.AnOption (Writes P (n - 1)))
  Writes (type.result A B) n = r.Provided (0 < n) (r.AResult (WritesPayload A (n - 1)) (WritesPayload B (n - 1)))
  Writes (type.flags names) n = r.Provided (0 < n) (r.Flags names)
  Writes (type.map K V) n = r.Provided (0 < n) (r.AMap K (Writes V (n - 1)))

  -- the payload of a case, in parentheses, where it has one
  pub WritesPayload : MaybeType → ℕ → Spelling MaybeValue
  WritesPayload type.no_type n = r.Bare
  WritesPayload (type.a_type T) n = r.Payload (Writes T n)

  -- the values of a tuple and its close
  pub WritesTuple : Types → ℕ → Spelling (List Value)
  WritesTuple type.no_types n = EmptyTuple
  WritesTuple (type.type_and T more) n = r.First (Writes T n) (WritesFurther more n)

  -- what stands after a value of a tuple
  pub WritesFurther : Types → ℕ → Spelling (List Value)
  WritesFurther type.no_types n = r.End
  WritesFurther (type.type_and T more) n = r.Then (Writes T n) (WritesFurther more n)

  -- a value of the field of this name
  pub WritesField : Fields → ℕ → List ℕ → Spelling Value
  WritesField type.no_fields n name = r.Never
  WritesField (type.field other T more) n name = r.Either (r.Provided (name ≡ other) (Writes T n)) (WritesField more n name)

  -- the payload of the case of this name
  pub WritesCase : Cases → ℕ → List ℕ → Spelling MaybeValue
  WritesCase type.no_cases n name = r.Never
  WritesCase (type.case_of other T more) n name = r.Either (r.Provided (name ≡ other) (WritesPayload T n)) (WritesCase more n name)

-- ---- what is written so is read

-- what the one spelling takes the other takes
abbrev pub Moves : {A : Type 0} → Spelling A → Spelling A → Type 0
Moves {A} P Q = (tokens : List Token) (a : A) (rest : List Token) → P tokens a rest → Q tokens a rest

further_moves : {A : Type 0} (close : Token) (P Q : Spelling A) → Moves P Q → Moves (FurtherItems close P) (FurtherItems close Q)
further_moves close P Q moves tokens [] rest h = h
further_moves close P Q moves tokens (a ∷ items) rest (prefix, behind, e, p, h) = (prefix, behind, e, moves prefix a behind p, further_moves close P Q moves behind items rest h)

listed_moves : {A : Type 0} (open_mark close : Token) (P Q : Spelling A) → Moves P Q → Moves (Listed open_mark close P) (Listed open_mark close Q)
listed_moves open_mark close P Q moves tokens [] rest h = h
listed_moves open_mark close P Q moves tokens (a ∷ items) rest (inside, e, (behind, p, h)) = (inside, e, (behind, moves inside a behind p, further_moves close P Q moves behind items rest h))

provided_moves : {A : Type 0} (H : Type 0) (P Q : Spelling A) → Moves P Q → Moves (r.Provided H P) (r.Provided H Q)
provided_moves H P Q moves tokens a rest (h, p) = (h, moves tokens a rest p)

either_moves : {A : Type 0} (P Q P' Q' : Spelling A) → Moves P Q → Moves P' Q' → Moves (r.Either P P') (r.Either Q Q')
either_moves P Q P' Q' one two tokens a rest (inl p) = inl (one tokens a rest p)
either_moves P Q P' Q' one two tokens a rest (inr p) = inr (two tokens a rest p)

list_moves : (P Q : Spelling Value) → Moves P Q → Moves (r.AList P) (r.AList Q)
list_moves P Q moves tokens v rest (items, h, e) = (items, listed_moves bracket_open bracket_close P Q moves tokens items rest h, e)

fixed_moves : (count : ℕ) (P Q : Spelling Value) → Moves P Q → Moves (r.AFixedList count P) (r.AFixedList count Q)
fixed_moves count P Q moves tokens v rest (items, h, long, e) = (items, listed_moves bracket_open bracket_close P Q moves tokens items rest h, long, e)

tuple_moves : (P Q : Spelling (List Value)) → Moves P Q → Moves (r.ATuple P) (r.ATuple Q)
tuple_moves P Q moves tokens v rest (items, prefix, e, h, f) = (items, prefix, e, moves prefix items rest h, f)

first_moves : (P Q : Spelling Value) (F G : Spelling (List Value)) → Moves P Q → Moves F G → Moves (r.First P F) (r.First Q G)
first_moves P Q F G one more tokens items rest (w, others, behind, p, h, e) = (w, others, behind, one tokens w behind p, more behind others rest h, e)

then_moves : (P Q : Spelling Value) (F G : Spelling (List Value)) → Moves P Q → Moves F G → Moves (r.Then P F) (r.Then Q G)
then_moves P Q F G one more tokens items rest (prefix, e, h) = (prefix, e, first_moves P Q F G one more prefix items rest h)

named_moves : (P Q : List ℕ → Spelling Value) → ((name : List ℕ) → Moves (P name) (Q name)) → Moves (r.Named P) (r.Named Q)
named_moves P Q moves tokens e rest (text, prefix, f, g, p) = (text, prefix, f, g, moves e.0 prefix e.1 rest p)

record_moves : (fs : Fields) (P Q : List ℕ → Spelling Value) → ((name : List ℕ) → Moves (P name) (Q name)) → Moves (r.ARecord fs P) (r.ARecord fs Q)
record_moves fs P Q moves tokens v rest (found, all, inl h, d, f, e) = (found, all, inl h, d, f, e)
record_moves fs P Q moves tokens v rest (found, all, inr (h, l), d, f, e) = (found, all, inr (listed_moves brace_open brace_close (r.Named P) (r.Named Q) (named_moves P Q moves) tokens found rest h, l), d, f, e)

variant_moves : (P Q : List ℕ → Spelling MaybeValue) → ((name : List ℕ) → Moves (P name) (Q name)) → Moves (r.AVariant P) (r.AVariant Q)
variant_moves P Q moves tokens v rest (name, payload, behind, h, p, e) = (name, payload, behind, h, moves name behind payload rest p, e)

payload_moves : (P Q : Spelling Value) → Moves P Q → Moves (r.Payload P) (r.Payload Q)
payload_moves P Q moves tokens payload rest (w, (prefix, e, p), f) = (w, (prefix, e, moves prefix w (paren_close ∷ rest) p), f)

option_moves : (P Q : Spelling Value) → Moves P Q → Moves (r.AnOption P) (r.AnOption Q)
option_moves P Q moves tokens v rest (inl h) = inl h
option_moves P Q moves tokens v rest (inr (w, (behind, e, (prefix, f, p)), g)) = inr (w, (behind, e, (prefix, f, moves prefix w (paren_close ∷ rest) p)), g)

result_moves : (P Q P' Q' : Spelling MaybeValue) → Moves P Q → Moves P' Q' → Moves (r.AResult P P') (r.AResult Q Q')
result_moves P Q P' Q' one two tokens v rest (inl (payload, (behind, e, p), f)) = inl (payload, (behind, e, one behind payload rest p), f)
result_moves P Q P' Q' one two tokens v rest (inr (payload, (behind, e, p), f)) = inr (payload, (behind, e, two behind payload rest p), f)

keyed_moves : (K : Simple) (P Q : Spelling Value) → Moves P Q → Moves (r.Keyed K P) (r.Keyed K Q)
keyed_moves K P Q moves tokens e rest (token, prefix, f, k, p) = (token, prefix, f, k, moves prefix e.1 rest p)

map_moves : (K : Simple) (P Q : Spelling Value) → Moves P Q → Moves (r.AMap K P) (r.AMap K Q)
map_moves K P Q moves tokens v rest (pairs, inl h, e) = (pairs, inl h, e)
map_moves K P Q moves tokens v rest (pairs, inr h, e) = (pairs, inr (listed_moves brace_open brace_close (r.Keyed K P) (r.Keyed K Q) (keyed_moves K P Q moves) tokens pairs rest h), e)

-- a first row among two
first_of : {A : Type 0} (P Q R : Spelling A) → Moves P Q → Moves P (r.Either Q R)
first_of P Q R moves tokens a rest p = inl (moves tokens a rest p)

stays : {A : Type 0} (P : Spelling A) → Moves P P
stays P tokens a rest p = p

-- no such type
not_built : {A : Type 0} (P Q : Spelling A) → false ≡ true → Moves P Q
not_built P Q e tokens a rest p = cc

mutual
  pub moves : (T : TypeTree) → IsRepresentable T → (n : ℕ) → Moves (Writes T n) (Reads T n)
  moves (type.simple S) representable n = stays (Writes (type.simple S) n)
  moves (type.unreadable kind) representable n = stays (Writes (type.unreadable kind) n)
  moves (type.list E) representable n =
      let w : (can_be_built (type.list E) ≡ true) × (every can_be_built E ≡ true) = and_parts _ _ representable in
      provided_moves (0 < n) _ _ (list_moves (Writes E (n - 1)) (Reads E (n - 1)) (moves E w.1 (n - 1)))
  moves (type.fixed E count) representable n =
      let w : (can_be_built (type.fixed E count) ≡ true) × (every can_be_built E ≡ true) = and_parts _ _ representable in
      provided_moves (0 < n) _ _ (fixed_moves count (Writes E (n - 1)) (Reads E (n - 1)) (moves E w.1 (n - 1)))
  moves (type.record_type fs) representable n =
      let w : (can_be_built (type.record_type fs) ≡ true) × (every_field can_be_built fs ≡ true) = and_parts _ _ representable in
      provided_moves (0 < n) _ _ (record_moves fs (WritesField fs (n - 1)) (ReadsField fs (n - 1)) (λ name. moves_field fs w.1 (n - 1) name))
  moves (type.tuple type.no_types) representable n = not_built _ _ representable
  moves (type.tuple (type.type_and T more)) representable n =
      let w : (can_be_built (type.tuple (type.type_and T more)) ≡ true) × (every_type can_be_built (type.type_and T more) ≡ true) = and_parts _ _ representable in
      let q : (every can_be_built T ≡ true) × (every_type can_be_built more ≡ true) = and_parts _ _ w.1 in
      provided_moves (0 < n) _ _ (tuple_moves (WritesTuple (type.type_and T more) (n - 1)) (ReadsTuple (type.type_and T more) (n - 1))
      (first_moves (Writes T (n - 1)) (Reads T (n - 1)) (WritesFurther more (n - 1)) (ReadsFurther more (n - 1)) (moves T q.0 (n - 1)) (moves_further more q.1 (n - 1))))
  moves (type.variant cs) representable n =
      let w : (can_be_built (type.variant cs) ≡ true) × (every_case can_be_built cs ≡ true) = and_parts _ _ representable in
      provided_moves (0 < n) _ _ (variant_moves (WritesCase cs (n - 1)) (ReadsCase cs (n - 1)) (λ name. moves_case cs w.1 (n - 1) name))
  moves (type.enum names) representable n = stays (Writes (type.enum names) n)
  moves (type.option P) representable n =
      let w : (can_be_built (type.option P) ≡ true) × (every can_be_built P ≡ true) = and_parts _ _ representable in
      first_of _ _ _ (provided_moves (0 < n) _ _ (option_moves (Writes P (n - 1)) (Reads P (n - 1)) (moves P w.1 (n - 1))))
  moves (type.result A B) representable n =
      let q : (can_be_built (type.result A B) ≡ true) × ((every_maybe can_be_built A && every_maybe can_be_built B) ≡ true) = and_parts _ _ representable in
      let p : (every_maybe can_be_built A ≡ true) × (every_maybe can_be_built B ≡ true) = and_parts _ _ q.1 in
      first_of _ _ _ (provided_moves (0 < n) _ _ (result_moves (WritesPayload A (n - 1)) (ReadsPayload A (n - 1)) (WritesPayload B (n - 1)) (ReadsPayload B (n - 1)) (moves_payload A p.0 (n - 1)) (moves_payload B p.1 (n - 1))))
  moves (type.flags names) representable n = stays (Writes (type.flags names) n)
  moves (type.map K V) representable n =
      let w : (can_be_built (type.map K V) ≡ true) × (every can_be_built V ≡ true) = and_parts _ _ representable in
      provided_moves (0 < n) _ _ (map_moves K (Writes V (n - 1)) (Reads V (n - 1)) (moves V w.1 (n - 1)))

  pub moves_payload : (A : MaybeType) → every_maybe can_be_built A ≡ true → (n : ℕ) → Moves (WritesPayload A n) (ReadsPayload A n)
  moves_payload type.no_type representable n = stays r.Bare
  moves_payload (type.a_type T) representable n = payload_moves (Writes T n) (Reads T n) (moves T representable n)

  pub moves_further : (Ts : Types) → every_type can_be_built Ts ≡ true → (n : ℕ) → Moves (WritesFurther Ts n) (ReadsFurther Ts n)
  moves_further type.no_types representable n = stays r.End
  moves_further (type.type_and T more) representable n =
      let q : (every can_be_built T ≡ true) × (every_type can_be_built more ≡ true) = and_parts _ _ representable in
      then_moves (Writes T n) (Reads T n) (WritesFurther more n) (ReadsFurther more n) (moves T q.0 n) (moves_further more q.1 n)

  pub moves_field : (fs : Fields) → every_field can_be_built fs ≡ true → (n : ℕ) (name : List ℕ) → Moves (WritesField fs n name) (ReadsField fs n name)
  moves_field type.no_fields representable n name = stays r.Never
  moves_field (type.field other T more) representable n name =
      let q : (every can_be_built T ≡ true) × (every_field can_be_built more ≡ true) = and_parts _ _ representable in
      either_moves _ _ _ _ (provided_moves (name ≡ other) (Writes T n) (Reads T n) (moves T q.0 n)) (moves_field more q.1 n name)

  pub moves_case : (cs : Cases) → every_case can_be_built cs ≡ true → (n : ℕ) (name : List ℕ) → Moves (WritesCase cs n name) (ReadsCase cs n name)
  moves_case type.no_cases representable n name = stays r.Never
  moves_case (type.case_of other T more) representable n name =
      let q : (every_maybe can_be_built T ≡ true) × (every_case can_be_built more ≡ true) = and_parts _ _ representable in
      either_moves _ _ _ _ (provided_moves (name ≡ other) (WritesPayload T n) (ReadsPayload T n) (moves_payload T q.0 n)) (moves_case more q.1 n name)
