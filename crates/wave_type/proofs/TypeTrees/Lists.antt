-- The families of a tree and their lists give each other back.
use Rattle.std.proofs.Common.{◌≡◌, ◌<◌, map, length, get_or, arith, ℕ, List, [], ◌∷◌, Option, Some, None, refl, ap}
use Rattle.std.specs.declared.alloc.Global.{Global}
use Rattle.std.proofs.Common.{String, string_bytes, zero, suc}
use Rattle.wave_type.specs.TypeModel.{by_bytes}
use Rattle.wave_wasm.specs.Types.{TypeTree, types_of, type_list, fields_of, field_list, cases_of, case_list, maybe_type, type_option}

pub type_list-types_of : (ts : List TypeTree) → type_list (types_of ts) ≡ ts
type_list-types_of [] = refl
type_list-types_of (t ∷ ts) = ap (λ us. t ∷ us) (type_list-types_of ts)

pub field_list-fields_of : (fs : List (List ℕ × TypeTree)) → field_list (fields_of fs) ≡ fs
field_list-fields_of [] = refl
field_list-fields_of (f ∷ fs) = ap (λ gs. f ∷ gs) (field_list-fields_of fs)

pub type_option-maybe_type : (o : Option TypeTree) → type_option (maybe_type o) ≡ o
type_option-maybe_type None = refl
type_option-maybe_type (Some t) = refl

pub case_list-cases_of : (cs : List (List ℕ × Option TypeTree)) → case_list (cases_of cs) ≡ cs
case_list-cases_of [] = refl
case_list-cases_of ((n, None) ∷ cs) = ap (λ ds. (n, None) ∷ ds) (case_list-cases_of cs)
case_list-cases_of ((n, Some t) ∷ cs) = ap (λ ds. (n, Some t) ∷ ds) (case_list-cases_of cs)

pub ruleset families = (type_list-types_of, field_list-fields_of, type_option-maybe_type, case_list-cases_of)

-- the name of the part at a place
pub name_at_place : {A : Type 0} (xs : List (String Global × A)) (i : ℕ) (x : String Global × A) → i < length xs → x ≡ get_or xs i x → string_bytes x.0 ≡ get_or (map (λ p. p.0) (map by_bytes xs)) i []
name_at_place [] i x lt is = absurd (omega (arith, lt))
name_at_place (y ∷ xs) zero x lt is = λ j. string_bytes (is j).0
name_at_place (y ∷ xs) (suc i) x lt is = name_at_place xs i x (omega (arith, lt)) is
