-- How deep the types of parts nest.
use Rattle.std.proofs.Common.{◌≡◌, ◌≤◌, ℕ, List, max, Option, Some, Bool, true, false, cond, refl, ap, arith}
use Rattle.std.specs.List.{find}
use Rattle.wave_wasm.specs.Types as type
use Rattle.wave_wasm.specs.Types.{TypeTree, MaybeType, Types, Fields, Cases, no_type, a_type, no_types, type_and, no_cases, case_of, type_list, field_list, case_list, type_option, maybe_type, depth, depth_of_maybe, depth_of_types, depth_of_fields, depth_of_cases}
use Rattle.wave_wasm.proofs.CanonicalText.Sequences.{depths}
use Rattle.wave_json.proofs.Cases.{has_name}

abbrev pub field_depth : List ℕ × TypeTree → ℕ
field_depth f = depth f.1

pub types_depth : (Ts : Types) → depth_of_types Ts ≡ depths depth (type_list Ts)
types_depth no_types = refl
types_depth (type_and T more) = ap (λ (n : ℕ). max (depth T) n) (types_depth more)

pub fields_depth : (fs : Fields) → depth_of_fields fs ≡ depths field_depth (field_list fs)
fields_depth type.no_fields = refl
fields_depth (type.field name T more) = ap (λ (n : ℕ). max (depth T) n) (fields_depth more)

payload_depth : (P : MaybeType) → depth_of_maybe (maybe_type (type_option P)) ≡ depth_of_maybe P
payload_depth no_type = refl
payload_depth (a_type T) = refl

pub case_depth : (cs : Cases) (name : List ℕ) (c : List ℕ × Option TypeTree) → Some c ≡ find (has_name name) (case_list cs) → depth_of_maybe (maybe_type c.1) ≤ depth_of_cases cs
case_depth no_cases name c e = absurd cc
case_depth (case_of other P more) name c e = by (has_name name (other, type_option P)) (case_depth more name c) e
  where
    by : (b : Bool) → (Some c ≡ find (has_name name) (case_list more) → depth_of_maybe (maybe_type c.1) ≤ depth_of_cases more) → Some c ≡ cond b (Some (other, type_option P)) (find (has_name name) (case_list more)) → depth_of_maybe (maybe_type c.1) ≤ max (depth_of_maybe P) (depth_of_cases more)
    by true rest e =
        let same : c ≡ (other, type_option P) = cc in
        let d = ap (λ (x : List ℕ × Option TypeTree). depth_of_maybe (maybe_type x.1)) same in
        omega (arith, d, payload_depth P)
    by false rest e = let h = rest e in omega (arith, h)
