use Rattle.std.proofs.Common.{sym, subst}
use Rattle.wave_value.specs.Private.ValueModel.{TupleFits}
use Rattle.wave_value.proofs.ConstructorAnswers.Tuples.{tuple_built}
use Rattle.wave_value.proofs.Lawful.Values.{built_where}
use Rattle.wave_value.proofs.TypedParts.ValuesFit.{tuple_fits, tuple_taken}
use Rattle.wave_value.proofs.value.wasm_value.ValueWasmValue.make_tuple_unchecked.Goals as goal

pub invariant_of-result : goal.invariant_of-result
invariant_of-result c =
    subst (λ T. TupleFits T c.replace-vals.result.items) (sym c.in_ok-clone-in-Some.ensures.cases) (tuple_fits c.args.ty.now _ c.replace-vals.result.items c.in-Some.ensures (rw c.replace-vals.ensures.value (c.requires (c.has_distinct_names.ensures.0 c.if-has_distinct_names.true))))

pub returns-in_ok-clone-in-Some-clause-exact : goal.returns-in_ok-clone-in-Some-clause-exact
returns-in_ok-clone-in-Some-clause-exact c = rw (sym c.replace-vals.ensures.value) (tuple_built _ _ _ c.in_ok-clone-in-Some.ensures.cases (invariant_of-result c))

pub returns-in_ok-clone-in-Some-clause-built : goal.returns-in_ok-clone-in-Some-clause-built
returns-in_ok-clone-in-Some-clause-built c = built_where _ _ _ (returns-in_ok-clone-in-Some-clause-exact c)

pub returns-in_ok-clone-in-Some-clause-taken : goal.returns-in_ok-clone-in-Some-clause-taken
returns-in_ok-clone-in-Some-clause-taken c =
    rw (sym c.replace-vals.ensures.value) (tuple_taken c.args.ty.now c.replace-vals.result.items (tuple_fits c.args.ty.now _ c.replace-vals.result.items c.in-Some.ensures (rw c.replace-vals.ensures.value (c.requires (c.has_distinct_names.ensures.0 c.if-has_distinct_names.true)))))
