use Rattle.std.proofs.Common.{◌≡◌, ap, ◌∙◌, ◌++◌, string_bytes}
use Rattle.wave_wasm.specs.TypeText.{type_text}
use Rattle.wave_explain.specs.ValueExplained.{expected_line}
use Rattle.wave_place.proofs.Steps.{ok_so}
use Rattle.wave_explain.proofs.expected.push_expected.Goals as goal

pub returns : goal.returns
returns g c =
    let text : c.as_str.result.now ≡ type_text (g.T.WasmType.tree c.args.ty.now) = c.as_str.ensures.value ∙ (c.in_ok-text.ensures.ok ∙ ap (λ d. type_text (g.T.WasmType.tree d)) c.new.ensures) in
    ok_so c.push_line.result (λ u e. (c.more.result.now, e ∙ ap (λ t. string_bytes c.args.lines.now ++ expected_line t c.more.result.now) text)) c.push_line.ensures
