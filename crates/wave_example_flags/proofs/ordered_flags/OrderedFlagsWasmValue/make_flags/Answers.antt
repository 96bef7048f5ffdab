use Rattle.std.proofs.Common.{string_bytes}
use Rattle.wave_example_flags.proofs.Handed.{unknown, not_picked, twice, kept_more, flags_built}
use Rattle.wave_example_flags.proofs.ordered_flags.OrderedFlagsWasmValue.make_flags.Goals as goal

pub returns-then-not-contains-clause-full : goal.returns-then-not-contains-clause-full
returns-then-not-contains-clause-full c = λ full all is distinct picked.
    not_picked c.args.ty.now all c.args.names.now _ (unknown c.args.ty.now c.args.names.now c.loop-name.name-index _ _ _ c.loop-name-test.true c.contains.ensures c.if-not-contains.true c.in_ok-from_str.ensures.ok) is picked

pub returns-then-not-contains-clause-refused : goal.returns-then-not-contains-clause-refused
returns-then-not-contains-clause-refused c =
    unknown c.args.ty.now c.args.names.now c.loop-name.name-index _ _ _ c.loop-name-test.true c.contains.ensures c.if-not-contains.true c.in_ok-from_str.ensures.ok

pub returns-then-contain-clause-full : goal.returns-then-contain-clause-full
returns-then-contain-clause-full c = λ full all is distinct picked.
    twice string_bytes c.loop-name.kept.items c.args.names.now c.loop-name.name-index _ _ c.loop-name-test.true c.loop-name.invariant.0 c.contain.ensures c.if-contain.true distinct

pub returns-then-contain-clause-refused : goal.returns-then-contain-clause-refused
returns-then-contain-clause-refused c =
    (c.in_ok-words.ensures.ok, twice string_bytes c.loop-name.kept.items c.args.names.now c.loop-name.name-index _ _ c.loop-name-test.true c.loop-name.invariant.0 c.contain.ensures c.if-contain.true)

pub loop-name-preserved : goal.loop-name-preserved
loop-name-preserved c =
    kept_more string_bytes c.args.ty.now c.loop-name.kept.items _ _ c.args.names.now c.loop-name.name-index _ _ _ c.loop-name-test.true c.contains.ensures c.if-not-contains.false c.contain.ensures c.if-contain.false c.in_ok-from_str-2.ensures.ok c.in_ok-push.ensures.items c.loop-name.invariant

pub returns-clause-built : goal.returns-clause-built
returns-clause-built c =
    flags_built c.args.ty.now c.args.names.now _ c.loop-name.name-index c.loop-name-test.false c.loop-name.invariant
