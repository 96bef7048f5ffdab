use Rattle.std.proofs.Common.{[], ◌∷◌, Bool, ◌&&◌, map, ap, ◌∙◌, Bor}
use Rattle.std.specs.List.{list_all}
use Rattle.wave_wasm.specs.Borrowed.{texts}
use Rattle.wave_wasm.specs.Types.{TypeTree}
use Rattle.wave_tape.specs.TypeTape.{counted_type_bytes, has_type_tape}
use Rattle.wave_tape.proofs.Puts.{puts_last, both_put}
use Rattle.wave_tape.proofs.NamedTypes.{func_is}
use Rattle.wave_tape.proofs.encode_type.put_func_tape.Goals as goal

pub returns : goal.returns
returns g c =
    let tree : Bor g.row.F-Type.Denot → TypeTree = λ t. g.F.Type.WasmType.tree t.now in
    let params = map tree c.deref-2.result.now in
    let results = map tree c.deref-4.result.now in
    let s = func_is (g.F.WasmFunc.func c.args.func.now) params results (texts c.deref.result.now) (texts c.deref-3.result.now) (ap (map tree) c.deref-2.ensures.value ∙ c.in_ok-params.ensures) (ap texts c.deref.ensures.value ∙ c.in_ok-param_names.ensures.names) (ap (map tree) c.deref-4.ensures.value ∙ c.in_ok-results.ensures) (ap texts c.deref-3.ensures.value ∙ c.in_ok-result_names.ensures.names) in
    let first = counted_type_bytes (texts c.deref.result.now) params in
    puts_last (1 ∷ first) (both_put _ (1 ∷ []) first c.in_ok-put_bytes.ensures.ok.0 c.in_ok-put_named_types.ensures.ok.0) s.bytes_are (s.has_is ∙ ap (λ (b : Bool). b && list_all has_type_tape results) c.in_ok-put_named_types.ensures.ok.1) c.put_named_types-2.ensures
