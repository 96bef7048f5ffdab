use Rattle.wave_wasm.specs.Borrowed.{texts}
use Rattle.wave_value.proofs.ConstructorAnswers.Flags.{flags_built}
use Rattle.wave_value.proofs.value.Value.make_flags.Goals as goal

pub returns-in_ok-clone-in-Flags-clause-built : goal.returns-in_ok-clone-in-Flags-clause-built
returns-in_ok-clone-in-Flags-clause-built c =
    flags_built c.args.ty.now c.in_ok-clone-in-Flags.field-0 (texts c.args.names.now) _ c.in-Flags.ensures c.in_ok-clone-in-Flags.ensures.cases c.in_ok-places-in-Flags.ensures.grow c.in_ok-places-in-Flags.ensures.found
