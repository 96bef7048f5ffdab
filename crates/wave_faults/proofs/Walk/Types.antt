-- Which type it is whose parts are known.
use Rattle.std.proofs.Common.{ℕ, zero, suc, max, Bool, true, false, if◌then◌else◌, ◌≡◌, ◌≢◌, ◌≤◌, ◌<◌, List, Option, Some, None, refl, sym, ap, ◌∙◌, subst, arith}
use Rattle.std.specs.List.{find}
use Rattle.std.specs.Str.{bytes_eq}
use Rattle.wave_wasm.specs.Types as type
use Rattle.wave_wasm.specs.Types.{TypeTree, MaybeType, Types, Fields, Cases, Simple, Whole, Unreadable, no_types, type_and, no_fields, field, no_cases, case_of, depth, depth_of_maybe, depth_of_types, depth_of_fields, depth_of_cases}
use Rattle.wave_wasm.specs.Types.{list_part, list_length, option_part, record_parts, result_parts, map_parts, type_list, field_list, case_list, kind_of, simple_kind, unreadable_kind, whole_kind, maybe_type, type_option}
use Rattle.wave_wasm.specs.declared.wasm.WasmTypeKind.{WasmTypeKind}
use Rattle.wave_wasm.specs.declared.wasm.WasmTypeKind.TheVariants as kinds
use Rattle.wave_wasm.proofs.TypesOfValues.TypeOfKind.{is_simple_kind, not_simple}
use Rattle.wave_grammar.specs.TypedGrammar.{look_up}
use Rattle.wave_grammar.proofs.ByKind.Lists.{HasAt}
use Rattle.wave_grammar.proofs.ByKind.Results.{maybe_back}
use Rattle.wave_grammar.proofs.ByKind.Tuples.{TupleType}

some_type : (A B : TypeTree) → Some A ≡ Some B → A ≡ B
some_type A B e = cc

some_types : (a b : TypeTree × TypeTree) → Some a ≡ Some b → a ≡ b
some_types a b e = cc

pub map_type : (T S V : TypeTree) → Some (S, V) ≡ map_parts T → (K : Simple) × (S ≡ type.simple K) × (T ≡ type.map K V)
map_type (type.map K U) S V e =
    let both = some_types (S, V) (type.simple K, U) e in
    (K, ap (λ (p : TypeTree × TypeTree). p.0) both, ap (λ (p : TypeTree × TypeTree). type.map K p.1) (sym both))
map_type _ S V e = absurd (cc e)

-- a type without parts of these forms, and of none of these kinds
pub leaf_type : (T : TypeTree) (k : WasmTypeKind) → k ≡ kind_of T → None ≡ list_part T → None ≡ option_part T → None ≡ result_parts T → None ≡ map_parts T
    → k ≢ kinds.Record → k ≢ kinds.Tuple → k ≢ kinds.Variant → k ≢ kinds.Enum → k ≢ kinds.Flags → k ≢ kinds.F32 → k ≢ kinds.F64 → k ≢ kinds.Unsupported → (S : Simple) × (T ≡ type.simple S)
leaf_type (type.simple S) k e l o r m a b c d f g h i = (S, refl)
leaf_type (type.unreadable type.f32) k e l o r m a b c d f g h i = absurd (g e)
leaf_type (type.unreadable type.f64) k e l o r m a b c d f g h i = absurd (h e)
leaf_type (type.unreadable type.unsupported) k e l o r m a b c d f g h i = absurd (i e)
leaf_type (type.list E) k e l o r m a b c d f g h i = absurd (cc l)
leaf_type (type.fixed E n) k e l o r m a b c d f g h i = absurd (cc l)
leaf_type (type.record_type fs) k e l o r m a b c d f g h i = absurd (a e)
leaf_type (type.tuple Ts) k e l o r m a b c d f g h i = absurd (b e)
leaf_type (type.variant cs) k e l o r m a b c d f g h i = absurd (c e)
leaf_type (type.enum names) k e l o r m a b c d f g h i = absurd (d e)
leaf_type (type.option P) k e l o r m a b c d f g h i = absurd (cc o)
leaf_type (type.result A B) k e l o r m a b c d f g h i = absurd (cc r)
leaf_type (type.flags names) k e l o r m a b c d f g h i = absurd (f e)
leaf_type (type.map K V) k e l o r m a b c d f g h i = absurd (cc m)

abbrev is_unread : WasmTypeKind → Bool
is_unread kinds.F32 = true
is_unread kinds.F64 = true
is_unread kinds.Unsupported = true
is_unread _ = false

unread_is : (u : Unreadable) → is_unread (unreadable_kind u) ≡ true
unread_is type.f32 = refl
unread_is type.f64 = refl
unread_is type.unsupported = refl

not_simple_kind : (u : Unreadable) → is_simple_kind (unreadable_kind u) ≡ false
not_simple_kind type.f32 = refl
not_simple_kind type.f64 = refl
not_simple_kind type.unsupported = refl

same_unread : (v u : Unreadable) → unreadable_kind u ≡ unreadable_kind v → v ≡ u
same_unread type.f32 type.f32 e = refl
same_unread type.f64 type.f64 e = refl
same_unread type.unsupported type.unsupported e = refl
same_unread type.f32 type.f64 e = absurd (cc e)
same_unread type.f32 type.unsupported e = absurd (cc e)
same_unread type.f64 type.f32 e = absurd (cc e)
same_unread type.f64 type.unsupported e = absurd (cc e)
same_unread type.unsupported type.f32 e = absurd (cc e)
same_unread type.unsupported type.f64 e = absurd (cc e)

-- a type of a kind without values
pub unread_type : (T : TypeTree) (u : Unreadable) → unreadable_kind u ≡ kind_of T → T ≡ type.unreadable u
unread_type (type.simple S) u e = absurd (not_simple (unreadable_kind u) S e (not_simple_kind u))
unread_type (type.unreadable v) u e = ap type.unreadable (same_unread v u e)
unread_type (type.list E) u e = absurd (cc (sym (unread_is u) ∙ ap is_unread e))
unread_type (type.fixed E n) u e = absurd (cc (sym (unread_is u) ∙ ap is_unread e))
unread_type (type.record_type fs) u e = absurd (cc (sym (unread_is u) ∙ ap is_unread e))
unread_type (type.tuple Ts) u e = absurd (cc (sym (unread_is u) ∙ ap is_unread e))
unread_type (type.variant cs) u e = absurd (cc (sym (unread_is u) ∙ ap is_unread e))
unread_type (type.enum names) u e = absurd (cc (sym (unread_is u) ∙ ap is_unread e))
unread_type (type.option P) u e = absurd (cc (sym (unread_is u) ∙ ap is_unread e))
unread_type (type.result A B) u e = absurd (cc (sym (unread_is u) ∙ ap is_unread e))
unread_type (type.flags names) u e = absurd (cc (sym (unread_is u) ∙ ap is_unread e))
unread_type (type.map K V) u e = absurd (cc (sym (unread_is u) ∙ ap is_unread e))

-- ---- parts are less deep

types_at : (Ts : Types) (i : ℕ) (U : TypeTree) → HasAt (type_list Ts) i U → depth U ≤ depth_of_types Ts
types_at no_types i U h = absurd h
types_at (type_and T more) zero U h = omega (arith, ap depth h)
types_at (type_and T more) (suc i) U h = omega (arith, types_at more i U h)

-- the type of a tuple's item
pub item_depth : (T : TypeTree) (parts : List TypeTree) (i : ℕ) (U : TypeTree) → TupleType T parts → HasAt parts i U → depth U < depth T
item_depth T parts i U is h =
    let at : HasAt (type_list is.types) i U = subst (λ (ts : List TypeTree). HasAt ts i U) is.parts_are h in
    omega (arith, ap depth is.is, types_at is.types i U at)

cases_at : (cs : Cases) (name : List ℕ) (found : List ℕ × Option TypeTree) → find (λ c. bytes_eq name c.0) (case_list cs) ≡ Some found → depth_of_maybe (maybe_type found.1) ≤ depth_of_cases cs
cases_at no_cases name found e = absurd (cc e)
cases_at (case_of other A more) name found e = by (bytes_eq name other) (cases_at more name found) e
  where
    same : (a b : List ℕ × Option TypeTree) → Some a ≡ Some b → a ≡ b
    same a b e = cc

    by : (b : Bool) → (find (λ c. bytes_eq name c.0) (case_list more) ≡ Some found → depth_of_maybe (maybe_type found.1) ≤ depth_of_cases more) → (if b then Some (other, type_option A) else find (λ c. bytes_eq name c.0) (case_list more)) ≡ Some found → depth_of_maybe (maybe_type found.1) ≤ max (depth_of_maybe A) (depth_of_cases more)
    by true others there = omega (arith, ap (λ (c : List ℕ × Option TypeTree). depth_of_maybe (maybe_type c.1)) (same (other, type_option A) found there), ap depth_of_maybe (maybe_back A))
    by false others there = omega (arith, others there)

-- the type of a case's payload
pub case_depth : (T : TypeTree) (cs : Cases) (name : List ℕ) (found : List ℕ × Option TypeTree) → T ≡ type.variant cs → find (λ c. bytes_eq name c.0) (case_list cs) ≡ Some found → depth_of_maybe (maybe_type found.1) < depth T
case_depth T cs name found is e = omega (arith, ap depth is, cases_at cs name found e)

fields_at : (fs : Fields) (name : List ℕ) (U : TypeTree) → look_up (field_list fs) name ≡ Some U → depth U ≤ depth_of_fields fs
fields_at no_fields name U e = absurd (cc e)
fields_at (field other T more) name U e = by (bytes_eq name other) (fields_at more name U) e
  where
    by : (b : Bool) → (look_up (field_list more) name ≡ Some U → depth U ≤ depth_of_fields more) → (if b then Some T else look_up (field_list more) name) ≡ Some U → depth U ≤ max (depth T) (depth_of_fields more)
    by true others there = omega (arith, ap depth (some_type T U there))
    by false others there = omega (arith, others there)

-- the type of a field
pub field_depth : (T : TypeTree) (name : List ℕ) (U : TypeTree) → look_up (record_parts T) name ≡ Some U → depth U < depth T
field_depth (type.record_type fs) name U e = omega (arith, fields_at fs name U e)
field_depth _ name U e = absurd (cc e)
