-- Each value of a type takes a byte at least.
use Rattle.std.proofs.Common.{ℕ, ◌≤◌, List, [], ◌∷◌, ◌++◌, length, inl, inr, sym, subst, length-append, arith}
use Rattle.std.specs.List.{flat_map}
use Rattle.wave_wasm.specs.Lists.{AllOf}
use Rattle.wave_wasm.specs.Types as type
use Rattle.wave_wasm.specs.Types.{TypeTree, Types, Fields, no_types, type_and}
use Rattle.wave_wasm.specs.Values as value
use Rattle.wave_wasm.specs.Values.{Value, FieldValues, Leaf, values}
use Rattle.wave_wasm.specs.HasType.{HasType, HasTypes, HasFields}
use Rattle.wave_tape.specs.Tape.{bytes_of, item_bytes, row_bytes, field_row_bytes, field_bytes, leaf_bytes, count_bytes, text_bytes, name_bytes, entry_bytes, payload_bytes}

pub leaf_some : (one : Leaf) → 1 ≤ length (leaf_bytes one)
leaf_some (value.bool b) = omega arith
leaf_some (value.whole type.s8 z) = omega arith
leaf_some (value.whole type.s16 z) = omega arith
leaf_some (value.whole type.s32 z) = omega arith
leaf_some (value.whole type.s64 z) = omega arith
leaf_some (value.whole type.u8 z) = omega arith
leaf_some (value.whole type.u16 z) = omega arith
leaf_some (value.whole type.u32 z) = omega arith
leaf_some (value.whole type.u64 z) = omega arith
leaf_some (value.char c) = omega arith
leaf_some (value.string s) = omega arith

-- a count, and what is behind it
pub counted_some : (n : ℕ) (bytes : List ℕ) → 1 ≤ length (count_bytes n ++ bytes)
counted_some n bytes = omega arith

pub first_some : (bytes more : List ℕ) → 1 ≤ length bytes → 1 ≤ length (bytes ++ more)
first_some bytes more h = omega (arith, h, length-append bytes more)

row_some : (P : Value → Type 0) → ((v : Value) → P v → 1 ≤ length (bytes_of v)) → (vs : List Value) → AllOf P vs → 1 ≤ length (row_bytes (values vs))
row_some P each [] all = omega arith
row_some P each (v ∷ vs) all = first_some (bytes_of v) (item_bytes (values vs)) (each v all.0)

mutual
  pub value_some : (T : TypeTree) (v : Value) → HasType T v → 1 ≤ length (bytes_of v)
  value_some (type.simple S) v (one, h, e) = subst (λ (w : Value). 1 ≤ length (bytes_of w)) (sym e) (leaf_some one)
  value_some (type.unreadable kind) v h = absurd h
  value_some (type.list E) v (vs, h, e) = subst (λ (w : Value). 1 ≤ length (bytes_of w)) (sym e) (counted_some (length (value.value_list (values vs))) (item_bytes (values vs)))
  value_some (type.fixed E n) v (vs, h, counted, e) = subst (λ (w : Value). 1 ≤ length (bytes_of w)) (sym e) (row_some (HasType E) (value_some E) vs h)
  value_some (type.record_type fs) v (all, h, e) = subst (λ (w : Value). 1 ≤ length (bytes_of w)) (sym e) (fields_some fs all h)
  value_some (type.tuple Ts) v (vs, h, e) = subst (λ (w : Value). 1 ≤ length (bytes_of w)) (sym e) (types_some Ts vs h)
  value_some (type.variant cs) v (name, payload, h, e) = subst (λ (w : Value). 1 ≤ length (bytes_of w)) (sym e) (first_some (text_bytes name) (payload_bytes payload) (counted_some (length name) name))
  value_some (type.enum names) v (name, h, e) = subst (λ (w : Value). 1 ≤ length (bytes_of w)) (sym e) (counted_some (length name) name)
  value_some (type.option P) v (inl e) = subst (λ (w : Value). 1 ≤ length (bytes_of w)) (sym e) (omega arith)
  value_some (type.option P) v (inr (w, h, e)) = subst (λ (x : Value). 1 ≤ length (bytes_of x)) (sym e) (omega arith)
  value_some (type.result A B) v (inl (payload, h, e)) = subst (λ (w : Value). 1 ≤ length (bytes_of w)) (sym e) (omega arith)
  value_some (type.result A B) v (inr (payload, h, e)) = subst (λ (w : Value). 1 ≤ length (bytes_of w)) (sym e) (omega arith)
  value_some (type.flags names) v (picked, h, e) = subst (λ (w : Value). 1 ≤ length (bytes_of w)) (sym e) (counted_some (length picked) (name_bytes picked))
  value_some (type.map K V) v (es, h, e) = subst (λ (w : Value). 1 ≤ length (bytes_of w)) (sym e) (counted_some (length (value.entry_list (value.entries es))) (entry_bytes (value.entries es)))

  types_some : (Ts : Types) (vs : List Value) → HasTypes Ts vs → 1 ≤ length (row_bytes (values vs))
  types_some no_types vs h = subst (λ (ws : List Value). 1 ≤ length (row_bytes (values ws))) (sym h) (omega arith)
  types_some (type_and T more) vs (w, others, h, hs, e) = subst (λ (ws : List Value). 1 ≤ length (row_bytes (values ws))) (sym e) (first_some (bytes_of w) (item_bytes (values others)) (value_some T w h))

  fields_some : (fs : Fields) (all : FieldValues) → HasFields fs all → 1 ≤ length (field_row_bytes all)
  fields_some type.no_fields all h = subst (λ (fs : FieldValues). 1 ≤ length (field_row_bytes fs)) (sym h) (omega arith)
  fields_some (type.field name T more) all (w, others, h, hs, e) = subst (λ (fs : FieldValues). 1 ≤ length (field_row_bytes fs)) (sym e) (first_some (bytes_of w) (field_bytes others) (value_some T w h))

-- parts that take a byte each are no more than their bytes
pub rows_long : {A : Type 0} (f : A → List ℕ) (P : A → Type 0) → ((x : A) → P x → 1 ≤ length (f x)) → (xs : List A) → AllOf P xs → length xs ≤ length (flat_map f xs)
rows_long f P each [] all = omega arith
rows_long f P each (x ∷ xs) all =
    let first = each x all.0 in
    let more = rows_long f P each xs all.1 in
    omega (arith, first, more, length-append (f x) (flat_map f xs))

pub names_long : (names : List (List ℕ)) → length names ≤ length (flat_map text_bytes names)
names_long [] = omega arith
names_long (name ∷ names) =
    let more = names_long names in
    omega (arith, more, length-append (text_bytes name) (flat_map text_bytes names))
