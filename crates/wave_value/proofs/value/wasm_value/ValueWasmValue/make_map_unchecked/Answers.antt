use Rattle.std.proofs.Common.{sym, subst, Ok}
use Rattle.wave_value.specs.ConstructorRules.{own_text}
use Rattle.wave_value.specs.Private.ValueModel.{MapFits}
use Rattle.wave_value.proofs.Lawful.VariantsFlagsMaps.{built_map, full_map}
use Rattle.wave_value.proofs.TypedParts.ValuesFit.{map_fits, map_built, map_taken}
use Rattle.wave_value.proofs.value.wasm_value.ValueWasmValue.make_map_unchecked.Goals as goal

pub invariant_of-result : goal.invariant_of-result
invariant_of-result c =
    subst (λ T. MapFits T c.replace-entries.result.items) (sym c.in_ok-clone-in-Some.ensures.cases) (map_fits c.args.ty.now _ c.replace-entries.result.items c.in-Some.ensures (rw c.replace-entries.ensures.value (c.requires (c.has_distinct_names.ensures.0 c.if-has_distinct_names.true))))

pub returns-in_ok-clone-in-Some-clause-exact : goal.returns-in_ok-clone-in-Some-clause-exact
returns-in_ok-clone-in-Some-clause-exact c =
    rw (sym c.replace-entries.ensures.value) (map_built _ _ _ c.in_ok-clone-in-Some.ensures.cases (map_fits c.args.ty.now _ c.replace-entries.result.items c.in-Some.ensures (rw c.replace-entries.ensures.value (c.requires (c.has_distinct_names.ensures.0 c.if-has_distinct_names.true)))))

pub returns-in_ok-clone-in-Some-clause-built : goal.returns-in_ok-clone-in-Some-clause-built
returns-in_ok-clone-in-Some-clause-built c = built_map _ _ (Ok _) (returns-in_ok-clone-in-Some-clause-exact c)

pub returns-in_ok-clone-in-Some-clause-taken : goal.returns-in_ok-clone-in-Some-clause-taken
returns-in_ok-clone-in-Some-clause-taken c =
    rw (sym c.replace-entries.ensures.value) (map_taken c.args.ty.now c.replace-entries.result.items (map_fits c.args.ty.now _ c.replace-entries.result.items c.in-Some.ensures (rw c.replace-entries.ensures.value (c.requires (c.has_distinct_names.ensures.0 c.if-has_distinct_names.true)))))

pub returns-in_default-clause-full : goal.returns-in_default-clause-full
returns-in_default-clause-full c = rw (sym c.replace-entries.ensures.value) (full_map own_text c.args.ty.now c.replace-entries.result.items _ c.map_of.ensures.refused)
