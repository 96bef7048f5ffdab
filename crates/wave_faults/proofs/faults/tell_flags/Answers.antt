use Rattle.std.proofs.Common.{inl}
use Rattle.wave_wasm.specs.Types as type
use Rattle.wave_wasm.specs.Types.{flags_names}
use Rattle.wave_grammar.specs.NodeTree.{place_of, children_of}
use Rattle.wave_grammar.specs.NodeFlags.{names_at}
use Rattle.wave_faults.proofs.Walk.Adding.{ok_so, told_as, adds_error}
use Rattle.wave_faults.proofs.Walk.Cases.{flags_refused}
use Rattle.wave_faults.proofs.Walk.Labels.{flags_are_of, flags_start, flags_next, flags_end}
use Rattle.wave_faults.proofs.faults.tell_flags.Goals as goal

pub as_flags-requires : goal.as_flags-requires
as_flags-requires g c = inl c.requires.value

pub returns-in-Err : goal.returns-in-Err
returns-in-Err g c =
    let T = g.T.WasmType.tree c.args.ty.now in
    told_as c.tell_error.result T (type.flags (flags_names T)) c.args.source.now c.args.node.now c.args.told.now.items c.tell_error.new.told.items (flags_are_of T c.requires.kind)
    (ok_so c.tell_error.result (λ u one t h. adds_error c.args.told.now.items c.tell_error.new.told.items c.in-Err.error one (flags_refused c.args.source.now c.args.node.now t (flags_names T) c.in-Err.error h.0 c.in-Err.ensures.given.0 c.in-Err.ensures.given.1 c.in-Err.ensures.given.2)) c.tell_error.ensures)

pub loop-name-init : goal.loop-name-init
loop-name-init g c = flags_start (flags_names (g.T.WasmType.tree c.args.ty.now)) (place_of c.args.node.now) (names_at c.args.source.now (children_of c.args.node.now)) c.in-Ok.labels c.args.told.now.items c.in-Ok.ensures.given.1

pub loop-name-preserved : goal.loop-name-preserved
loop-name-preserved g c =
    flags_next (flags_names (g.T.WasmType.tree c.args.ty.now)) (place_of c.args.node.now) (names_at c.args.source.now (children_of c.args.node.now)) c.loop-name.labels c.next.new.self c.in-Some.name.now c.args.told.now.items c.loop-name.told.items c.tell_flag.new.told.items c.in-Some.ensures.steps c.loop-name.invariant c.in_ok-tell_flag.ensures

pub returns : goal.returns
returns g c = λ t h.
    let T = g.T.WasmType.tree c.args.ty.now in
    flags_end c.args.source.now c.args.node.now t T (flags_names T) c.loop-name.labels c.args.told.now.items c.loop-name.told.items (flags_are_of T c.requires.kind) h c.in-Ok.ensures.given.0 c.in_default.ensures.steps.0 c.loop-name.invariant
