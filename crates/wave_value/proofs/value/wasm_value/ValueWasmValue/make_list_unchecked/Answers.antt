use Rattle.std.proofs.Common.{sym, subst}
use Rattle.wave_value.specs.Private.ValueModel.{ListFits}
use Rattle.wave_value.proofs.ConstructorAnswers.ListsAndEnums.{list_built, list_taken}
use Rattle.wave_value.proofs.Lawful.Values.{built_where}
use Rattle.wave_value.proofs.TypedParts.ValuesFit.{list_fits}
use Rattle.wave_value.proofs.value.wasm_value.ValueWasmValue.make_list_unchecked.Goals as goal

pub invariant_of-result : goal.invariant_of-result
invariant_of-result c =
    subst (λ T. ListFits T c.replace-vals.result.items) (sym c.in_ok-clone-in-Some.ensures.cases) (list_fits c.args.ty.now _ c.replace-vals.result.items c.in-Some.ensures (rw c.replace-vals.ensures.value (c.requires (c.has_distinct_names.ensures.0 c.if-has_distinct_names.true))))

pub returns-in_ok-clone-in-Some-clause-exact : goal.returns-in_ok-clone-in-Some-clause-exact
returns-in_ok-clone-in-Some-clause-exact c = rw (sym c.replace-vals.ensures.value) (list_built _ _ _ c.in_ok-clone-in-Some.ensures.cases (invariant_of-result c))

pub returns-in_ok-clone-in-Some-clause-built : goal.returns-in_ok-clone-in-Some-clause-built
returns-in_ok-clone-in-Some-clause-built c = built_where _ _ _ (returns-in_ok-clone-in-Some-clause-exact c)

pub returns-in_ok-clone-in-Some-clause-taken : goal.returns-in_ok-clone-in-Some-clause-taken
returns-in_ok-clone-in-Some-clause-taken c =
    rw (sym c.replace-vals.ensures.value) (list_taken c.args.ty.now c.replace-vals.result.items (list_fits c.args.ty.now _ c.replace-vals.result.items c.in-Some.ensures (rw c.replace-vals.ensures.value (c.requires (c.has_distinct_names.ensures.0 c.if-has_distinct_names.true)))))
