use Rattle.std.proofs.Common.{sym, ◌∙◌}
use Rattle.wave_wasm.specs.Types.{flags_names}
use Rattle.wave_grammar.specs.NodeTree.{place_of}
use Rattle.wave_faults.proofs.Walk.Adding.{ok_so}
use Rattle.wave_faults.proofs.Walk.Labels.{flag_known, flag_added}
use Rattle.wave_faults.proofs.faults.tell_flag.Goals as goal

pub returns-in-Some : goal.returns-in-Some
returns-in-Some g c = flag_known (flags_names (g.T.WasmType.tree c.args.ty.now)) (place_of c.args.node.now) c.args.name.now c.in-Some.field-0 c.args.told.now.items (sym c.in-Some.is ∙ c.in_ok-flag_place.ensures)

pub returns-in_ok-name-in-None : goal.returns-in_ok-name-in-None
returns-in_ok-name-in-None g c =
    ok_so c.tell_cause.result
    (λ u added. flag_added (flags_names (g.T.WasmType.tree c.args.ty.now)) (place_of c.args.node.now) c.args.name.now _ c.args.told.now.items c.tell_cause.new.told.items (sym c.in-None.is ∙ c.in_ok-flag_place.ensures) c.in_ok-name-in-None.ensures.ok added)
    c.tell_cause.ensures
