use Rattle.std.proofs.Common.{◌++◌, refl, ap, ◌∙◌}
use Rattle.wave_wasm.specs.TypeText.{type_text}
use Rattle.wave_place.specs.Paths.{path_text}
use Rattle.wave_explain.specs.ValueExplained.{expected_line}
use Rattle.wave_place.proofs.Steps.{moved}
use Rattle.wave_explain.proofs.value.report_part.Goals as goal

pub returns-clause-reported : goal.returns-clause-reported
returns-clause-reported g c =
    let found = c.in_ok-part.ensures in
    let line = c.in_ok-push_expected.ensures in (
      path_text found.0,
      found.1,
      record {
        steps = found.0;
        part = c.in_ok-part.part.0.now;
        expected = g.T.WasmType.tree c.in_ok-part.part.1.now;
        is_part = moved _ _ _ _ _ _ _ _ _ c.span-span.ensures refl found.2;
        path_is = refl;
        more = line.0;
        hints = c.as_str.result.now;
        lines_are =
            c.in_ok-push_str.ensures.bytes
            ∙ ap (λ x. x ++ c.as_str.result.now) (line.1 ∙ ap (λ x. x ++ expected_line (type_text (g.T.WasmType.tree c.in_ok-part.part.1.now)) line.0) c.requires.lines);
      },
    )
