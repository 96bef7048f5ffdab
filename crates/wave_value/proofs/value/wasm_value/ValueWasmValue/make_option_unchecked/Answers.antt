use Rattle.std.proofs.Common.{sym}
use Rattle.wave_value.proofs.Lawful.Values.{built_where}
use Rattle.wave_value.proofs.TypedParts.ValuesFit.{option_fits, option_built, option_taken}
use Rattle.wave_value.proofs.value.wasm_value.ValueWasmValue.make_option_unchecked.Goals as goal

pub invariant_of-result : goal.invariant_of-result
invariant_of-result c =
    rw (c.in_ok-clone-in-Some.ensures.cases, c.in_ok-val-in-Some.ensures) (option_fits c.args.ty.now _ c.take-val.result c.in-Some.ensures (rw c.take-val.ensures.value (c.requires (c.has_distinct_names.ensures.0 c.if-has_distinct_names.true))))

pub returns-in_ok-clone-in-Some-clause-exact : goal.returns-in_ok-clone-in-Some-clause-exact
returns-in_ok-clone-in-Some-clause-exact c =
    rw (sym c.take-val.ensures.value) (option_built c.args.ty.now _ c.take-val.result _ c.in_ok-clone-in-Some.ensures.cases c.in_ok-val-in-Some.ensures (option_fits c.args.ty.now _ c.take-val.result c.in-Some.ensures (rw c.take-val.ensures.value (c.requires (c.has_distinct_names.ensures.0 c.if-has_distinct_names.true)))))

pub returns-in_ok-clone-in-Some-clause-built : goal.returns-in_ok-clone-in-Some-clause-built
returns-in_ok-clone-in-Some-clause-built c = built_where _ _ _ (returns-in_ok-clone-in-Some-clause-exact c)

pub returns-in_ok-clone-in-Some-clause-taken : goal.returns-in_ok-clone-in-Some-clause-taken
returns-in_ok-clone-in-Some-clause-taken c =
    rw (sym c.take-val.ensures.value) (option_taken c.args.ty.now c.take-val.result (option_fits c.args.ty.now _ c.take-val.result c.in-Some.ensures (rw c.take-val.ensures.value (c.requires (c.has_distinct_names.ensures.0 c.if-has_distinct_names.true)))))
