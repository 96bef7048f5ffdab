use Rattle.std.proofs.Common.{◌≡◌, ℕ, List, [], get_or, Option, None, Some, sym, ap, ◌∙◌}
use Rattle.std.specs.List.{find, position}
use Rattle.std.specs.Option.{option_map}
use Rattle.std.specs.Str.{bytes_eq}
use Rattle.wave_wasm.specs.Types.{TypeTree, variant_parts}
use Rattle.wave_type.proofs.DistinctNames.FoundPlaces.{find-position}
use Rattle.wave_type.proofs.ty.parts.TypeWasmType.variant_case.Goals as goal

-- the case at the place of the name, where it has one
at_place : (T : TypeTree) (name : List ℕ) (place r : Option ℕ) → r ≡ position (λ c. bytes_eq name c.0) (variant_parts T) → r ≡ place → option_map (λ i. get_or (variant_parts T) i ([], None)) place ≡ find (λ c. bytes_eq name c.0) (variant_parts T)
at_place T name place r first is =
    let at = λ (o : Option ℕ). option_map (λ i. get_or (variant_parts T) i ([], None)) o in
    sym (find-position (λ c. bytes_eq name c.0) (variant_parts T) ([], None) ∙ ap at (sym first ∙ is))

pub returns-in_default : goal.returns-in_default
returns-in_default c = at_place c.args.self.now c.args.name.now None c.variant_place.result c.variant_place.ensures c.in_default.is

pub returns : goal.returns
returns c = ap Some c.variant_case.ensures ∙ at_place c.args.self.now c.args.name.now (Some c.in-Some.place) c.variant_place.result c.variant_place.ensures c.in-Some.is
