use Rattle.std.proofs.Common.{string_bytes}
use Rattle.wave_grammar.specs.SpannedTree.{tree_of}
use Rattle.wave_format.proofs.WholeTexts.{trees_at, whole_laid, whole_means}
use Rattle.wave_format.proofs.format_text.Goals as goal

pub returns-in-Ok-clause-laid : goal.returns-in-Ok-clause-laid
returns-in-Ok-clause-laid c =
    let s = c.args.source.now in
    let d = string_bytes c.in-Ok.text in
    let parsed = c.in_ok-_value.ensures.value in
    (whole_laid s d (trees_at s 0 c.new.result d c.new.ensures c.in-Ok.ensures.trees) 100 (tree_of parsed.placed) parsed.spelled).0

pub returns-in-Ok-clause-trees : goal.returns-in-Ok-clause-trees
returns-in-Ok-clause-trees c = λ n t spells.
    let s = c.args.source.now in
    let d = string_bytes c.in-Ok.text in
    (whole_laid s d (trees_at s 0 c.new.result d c.new.ensures c.in-Ok.ensures.trees) n t spells).1

pub returns-in-Ok-clause-means : goal.returns-in-Ok-clause-means
returns-in-Ok-clause-means c =
    let s = c.args.source.now in
    let d = string_bytes c.in-Ok.text in
    let parsed = c.in_ok-_value.ensures.value in
    whole_means s d (trees_at s 0 c.new.result d c.new.ensures c.in-Ok.ensures.trees) 100 (tree_of parsed.placed) parsed.spelled
