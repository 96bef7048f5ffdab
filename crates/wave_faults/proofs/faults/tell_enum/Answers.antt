use Rattle.std.proofs.Common.{◌≡◌, ◌∙◌, inl, refl, sym, subst}
use Rattle.wave_wasm.specs.Types as type
use Rattle.wave_wasm.specs.Types.{TypeTree, enum_names}
use Rattle.wave_wasm.proofs.Names.NameTests.{is_one, none_of}
use Rattle.wave_grammar.proofs.ByKind.Enums.{enum_is}
use Rattle.wave_faults.specs.AllFaults.{AreFaults}
use Rattle.wave_faults.specs.Private.Told.{Adds}
use Rattle.wave_faults.proofs.Walk.Adding.{ok_so, told_as, adds_error, adds_none}
use Rattle.wave_faults.proofs.Walk.Cases.{enum_refused, enum_fine}
use Rattle.wave_faults.proofs.Walk.Labels.{enum_added}
use Rattle.wave_faults.proofs.faults.tell_enum.Goals as goal

pub as_enum-requires : goal.as_enum-requires
as_enum-requires g c = inl c.requires.value

pub returns-in-Err : goal.returns-in-Err
returns-in-Err g c =
    let T = g.T.WasmType.tree c.args.ty.now in
    told_as c.tell_error.result T (type.enum (enum_names T)) c.args.source.now c.args.node.now c.args.told.now.items c.tell_error.new.told.items (enum_is T (sym c.requires.kind) (enum_names T) refl)
    (ok_so c.tell_error.result (λ u one t h. adds_error c.args.told.now.items c.tell_error.new.told.items c.in-Err.error one (enum_refused c.args.source.now c.args.node.now t (enum_names T) c.in-Err.error h.0 c.in-Err.ensures.0 c.in-Err.ensures.1)) c.tell_error.ensures)

pub returns-then-branch : goal.returns-then-branch
returns-then-branch g c = λ t h.
    let T = g.T.WasmType.tree c.args.ty.now in
    let is : T ≡ type.enum (enum_names T) = enum_is T (sym c.requires.kind) (enum_names T) refl in
    subst (λ (U : TypeTree). Adds (AreFaults U t) c.args.told.now.items c.args.told.now.items) (sym is)
    (adds_none c.args.told.now.items (enum_fine c.args.source.now c.args.node.now t (enum_names T) c.in-Ok.name.now h.0 c.in-Ok.ensures.0 c.in-Ok.ensures.1 (is_one (enum_names T) c.in-Ok.name.now (sym c.in_ok-has_enum_case.ensures ∙ c.if-branch.true))))

pub returns : goal.returns
returns g c =
    let T = g.T.WasmType.tree c.args.ty.now in
    told_as c.tell_cause.result T (type.enum (enum_names T)) c.args.source.now c.args.node.now c.args.told.now.items c.tell_cause.new.told.items (enum_is T (sym c.requires.kind) (enum_names T) refl)
    (ok_so c.tell_cause.result
    (λ u added t h. enum_added c.args.source.now c.args.node.now t (enum_names T) c.in-Ok.name.now _ c.args.told.now.items c.tell_cause.new.told.items h.0 c.in-Ok.ensures.0 c.in-Ok.ensures.1 (none_of (enum_names T) c.in-Ok.name.now (sym c.in_ok-has_enum_case.ensures ∙ c.if-branch.false)) c.in_ok-name.ensures.ok added)
    c.tell_cause.ensures)
