use Rattle.std.proofs.Common.{sym, ◌∙◌}
use Rattle.wave_wasm.specs.declared.wasm.WasmTypeKind.TheVariants as kinds
use Rattle.wave_grammar.specs.NodeTree.{place_of}
use Rattle.wave_faults.proofs.Walk.Adding.{ok_so}
use Rattle.wave_faults.proofs.Walk.FieldRows.{option_missing, seen_missing, told_missing}
use Rattle.wave_faults.proofs.Walk.TypeTests.{is_kind, is_other_kind}
use Rattle.wave_faults.proofs.records.tell_missing.Goals as goal

pub returns-then-eq : goal.returns-then-eq
returns-then-eq g c = λ es has.
    option_missing c.args.name.now (g.T.WasmType.tree c.args.ty.now) es (place_of c.args.node.now) c.args.told.now.items (sym c.kind.ensures ∙ is_kind c.kind.result kinds.Option c.eq.ensures c.if-eq.true)

pub returns-then-contains_key : goal.returns-then-contains_key
returns-then-contains_key g c = λ es has.
    seen_missing c.args.seen.now c.args.name.now (g.T.WasmType.tree c.args.ty.now) es (place_of c.args.node.now) c.args.told.now.items has (sym c.contains_key.ensures ∙ c.if-contains_key.true)

pub returns : goal.returns
returns g c =
    ok_so c.tell_cause.result
    (λ u added es has. told_missing c.args.seen.now c.args.name.now _ (g.T.WasmType.tree c.args.ty.now) es (place_of c.args.node.now) c.args.told.now.items c.tell_cause.new.told.items has (λ option. is_other_kind c.kind.result kinds.Option c.eq.ensures c.if-eq.false (c.kind.ensures ∙ option)) (sym c.contains_key.ensures ∙ c.if-contains_key.false) c.in_ok-name.ensures.ok added)
    c.tell_cause.ensures
