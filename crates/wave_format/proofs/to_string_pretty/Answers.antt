use Rattle.std.proofs.Common.{◌∙◌, string_bytes}
use Rattle.wave_wasm.specs.Text.{text}
use Rattle.wave_format.proofs.WholeTexts.{trees_at, at_start, whole_laid}
use Rattle.wave_format.proofs.to_string_pretty.Goals as goal

pub returns-in-Ok-clause-laid : goal.returns-in-Ok-clause-laid
returns-in-Ok-clause-laid g c = λ n t spells.
    let s = text (g.V.WasmValue.tree c.args.value.now) in
    let d = string_bytes c.in-Ok.text in
    let start = at_start c.as_str.result.now s c.new.result (c.as_str.ensures.value ∙ c.in_ok-text.ensures.ok) c.new.ensures in
    (whole_laid s d (trees_at s 0 c.new.result d start c.in-Ok.ensures.trees) n t spells).0

pub returns-in-Ok-clause-trees : goal.returns-in-Ok-clause-trees
returns-in-Ok-clause-trees g c = λ n t spells.
    let s = text (g.V.WasmValue.tree c.args.value.now) in
    let d = string_bytes c.in-Ok.text in
    let start = at_start c.as_str.result.now s c.new.result (c.as_str.ensures.value ∙ c.in_ok-text.ensures.ok) c.new.ensures in
    (whole_laid s d (trees_at s 0 c.new.result d start c.in-Ok.ensures.trees) n t spells).1
