use Rattle.std.proofs.Common.{string_bytes, refl, ap, ◌∙◌}
use Rattle.wave.specs.declared.request.Request.TheVariants.{Value}
use Rattle.wave.specs.Answers.{Answers}
use Rattle.wave_tree.specs.ParserState.{Parsing, limited}
use Rattle.wave.proofs.Named.{handed_on, unshown}
use Rattle.wave.proofs.Untyped.{displayed, spells_none, tree_whole, tree_trails, tree_refused}
use Rattle.wave.proofs.answer.value.Goals as goal

pub returns-in_err-value : goal.returns-in_err-value
returns-in_err-value c =
    let s = c.args.text.now in
    let n = c.args.levels in
    let e = c.in_err-value.field-0.0 in
    let first = c.with_limit-parser.ensures ∙ ap (λ (p : Parsing). limited p n) c.new.ensures in
    handed_on (λ answer. Answers (Value n) s (string_bytes answer)) (Value n) s c.from_residual.result e c.from_residual.ensures.1
    (spells_none n s e (tree_refused n s _ c.parse_raw_value.new.self.place e first c.in_err-value.ensures.value))

pub returns-in_err-finish : goal.returns-in_err-finish
returns-in_err-finish c =
    let s = c.args.text.now in
    let n = c.args.levels in
    let e = c.in_err-finish.field-0.0 in
    let first = c.with_limit-parser.ensures ∙ ap (λ (p : Parsing). limited p n) c.new.ensures in
    handed_on (λ answer. Answers (Value n) s (string_bytes answer)) (Value n) s c.from_residual-in_err-finish.result e c.from_residual-in_err-finish.ensures.1
    (spells_none n s e (tree_trails n s _ c.parse_raw_value.new.self.place c.in_ok-value.value e first c.in_ok-value.ensures.value c.in_ok-value.ensures.tree c.in_err-finish.ensures.answer))

pub returns-in_err-to_string : goal.returns-in_err-to_string
returns-in_err-to_string c =
    let s = c.args.text.now in
    let n = c.args.levels in
    let first = c.with_limit-parser.ensures ∙ ap (λ (p : Parsing). limited p n) c.new.ensures in
    unshown (λ answer. Answers (Value n) s (string_bytes answer)) (Value n) s c.from_residual-in_err-to_string.result _ c.from_residual-in_err-to_string.ensures.1
    (displayed n s c.in_ok-value.value _ (tree_whole n s _ c.parse_raw_value.new.self.place c.in_ok-value.value first c.in_ok-value.ensures.tree c.in_ok-finish.ensures.answer) refl)

pub returns : goal.returns
returns c =
    let s = c.args.text.now in
    let n = c.args.levels in
    let first = c.with_limit-parser.ensures ∙ ap (λ (p : Parsing). limited p n) c.new.ensures in
    displayed n s c.in_ok-value.value (string_bytes c.in_ok-to_string.field-0)
    (tree_whole n s _ c.parse_raw_value.new.self.place c.in_ok-value.value first c.in_ok-value.ensures.tree c.in_ok-finish.ensures.answer) c.in_ok-to_string.ensures.ok
