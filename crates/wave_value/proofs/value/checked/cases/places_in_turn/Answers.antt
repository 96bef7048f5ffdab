use Rattle.std.proofs.Common.{◌≤◌, ◌+◌, Some, sym, subst, ◌∙◌}
use Rattle.wave_wasm.specs.Types.{flags_names}
use Rattle.wave_value.specs.Private.CaseRules.{behind}
use Rattle.wave_value.proofs.Lawful.VariantsFlagsMaps.{names_distinct}
use Rattle.wave_value.proofs.TypedParts.FlagsInTurn.{PlacesInTurn, next_place, all_in_turn}
use Rattle.wave_value.proofs.value.checked.cases.places_in_turn.Goals as goal

pub loop-name-preserved : goal.loop-name-preserved
loop-name-preserved c =
    let flags = flags_names c.args.ty.now in
    let place = c.in-Some.place in
    let behind_last : behind c.loop-name.last ≤ place = c.is_behind.ensures.0 c.if-is_behind.true in
    subst (PlacesInTurn flags c.args.names.now (Some place) (c.loop-name.name-index + 1)) (sym c.in_ok-push-in-Some.ensures.items)
    (next_place flags c.args.names.now c.loop-name.last c.loop-name.name-index place _ c.loop-name.places.items c.loop-name-test.true (sym c.flag_place.ensures ∙ c.in-Some.is) behind_last c.loop-name.invariant)

pub returns-clause-known : goal.returns-clause-known
returns-clause-known c =
    (all_in_turn (flags_names c.args.ty.now) c.args.names.now c.loop-name.last c.loop-name.name-index c.loop-name.places.items (names_distinct c.args.ty.now (c.has_distinct_names.ensures.0 c.if-not-has_distinct_names.false)) c.loop-name-test.false c.loop-name.invariant).0

pub returns-clause-grow : goal.returns-clause-grow
returns-clause-grow c =
    (all_in_turn (flags_names c.args.ty.now) c.args.names.now c.loop-name.last c.loop-name.name-index c.loop-name.places.items (names_distinct c.args.ty.now (c.has_distinct_names.ensures.0 c.if-not-has_distinct_names.false)) c.loop-name-test.false c.loop-name.invariant).1

pub returns-clause-found : goal.returns-clause-found
returns-clause-found c =
    (all_in_turn (flags_names c.args.ty.now) c.args.names.now c.loop-name.last c.loop-name.name-index c.loop-name.places.items (names_distinct c.args.ty.now (c.has_distinct_names.ensures.0 c.if-not-has_distinct_names.false)) c.loop-name-test.false c.loop-name.invariant).2
