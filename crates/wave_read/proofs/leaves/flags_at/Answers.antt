use Rattle.std.proofs.Common.{[], inl, refl}
use Rattle.wave_grammar.specs.FaultOrder.{in_text}
use Rattle.wave_grammar.specs.NodeTree.{node, no_nodes}
use Rattle.wave_grammar.specs.FlagParts.{flag_nodes}
use Rattle.wave_grammar.specs.declared.form.NodeType.TheVariants as kind
use Rattle.wave_read.proofs.FlagReading.ByNames.{names_are}
use Rattle.wave_read.proofs.leaves.flags_at.Goals as goal

pub returns-then-eq-clause-read : goal.returns-then-eq-clause-read
returns-then-eq-clause-read g c = λ o w source are. c.read_flags.ensures.read o w source (node kind.Flags c.args.span (flag_nodes c.args.flags)) (inl refl) refl (names_are source c.args.flags are)

pub returns-clause-read : goal.returns-clause-read
returns-clause-read g c = λ o w source are. c.refuse_flags.ensures o w source (node kind.Flags c.args.span (flag_nodes c.args.flags)) refl refl

pub returns-clause-typed : goal.returns-clause-typed
returns-clause-typed g c = (c.refuse_flags.ensures in_text in_text [] (node kind.Flags c.args.span no_nodes) refl refl).typed
