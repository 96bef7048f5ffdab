use Rattle.std.proofs.Common.{sym, refl}
use Rattle.wave_wasm.specs.Types.{variant_parts}
use Rattle.wave_value.specs.ConstructorRules.{own_text}
use Rattle.wave_value.proofs.ConstructorAnswers.VariantsAndFlags.{case_at, variant_fits, variant_built, variant_taken}
use Rattle.wave_value.proofs.Lawful.Values.{built_where}
use Rattle.wave_value.proofs.Lawful.VariantsFlagsMaps.{full_variant}
use Rattle.wave_value.proofs.TypedParts.ValuesFit.{case_fits}
use Rattle.wave_value.proofs.value.wasm_value.ValueWasmValue.make_variant_unchecked.Goals as goal

pub invariant_of-result : goal.invariant_of-result
invariant_of-result c =
    let distinct = c.has_distinct_names.ensures.0 c.if-has_distinct_names.true in
    variant_fits c.args.ty.now _ _ _ (case_at (variant_parts c.args.ty.now) c.in-Some.place) _ c.take-val.result c.in_ok-clone-in-Some.ensures.cases c.in-Some.ensures refl c.in_ok-val-in-Some.ensures (case_fits c.args.ty.now c.args.case.now c.in-Some.place c.take-val.result distinct (rw c.take-val.ensures.value (c.requires distinct)) c.in-Some.ensures)

pub returns-in_ok-clone-in-Some-clause-exact : goal.returns-in_ok-clone-in-Some-clause-exact
returns-in_ok-clone-in-Some-clause-exact c =
    rw (sym c.take-val.ensures.value) (variant_built _ _ _ _ _ _ c.in_ok-clone-in-Some.ensures.cases c.in-Some.ensures c.in_ok-val-in-Some.ensures (invariant_of-result c))

pub returns-in_ok-clone-in-Some-clause-built : goal.returns-in_ok-clone-in-Some-clause-built
returns-in_ok-clone-in-Some-clause-built c = built_where _ _ _ (returns-in_ok-clone-in-Some-clause-exact c)

pub returns-in_ok-clone-in-Some-clause-taken : goal.returns-in_ok-clone-in-Some-clause-taken
returns-in_ok-clone-in-Some-clause-taken c =
    let distinct = c.has_distinct_names.ensures.0 c.if-has_distinct_names.true in
    rw (sym c.take-val.ensures.value) (variant_taken c.args.ty.now c.args.case.now c.in-Some.place (case_at (variant_parts c.args.ty.now) c.in-Some.place) c.take-val.result c.in-Some.ensures refl (case_fits c.args.ty.now c.args.case.now c.in-Some.place c.take-val.result distinct (rw c.take-val.ensures.value (c.requires distinct)) c.in-Some.ensures))

pub returns-in_default-clause-full : goal.returns-in_default-clause-full
returns-in_default-clause-full c = rw (sym c.take-val.ensures.value) (full_variant own_text c.args.ty.now c.args.case.now c.take-val.result _ c.variant_of.ensures.refused)
