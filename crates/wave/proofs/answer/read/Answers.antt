use Rattle.std.proofs.Common.{string_bytes, refl, ap, sym, subst, ◌∙◌}
use Rattle.wave_tree.specs.ParserState.{Parsing, limited}
use Rattle.wave.specs.declared.request.Request.TheVariants.{Read}
use Rattle.wave.specs.Answers.{Answers}
use Rattle.wave.specs.Private.Answers.{IsUnanswered}
use Rattle.wave.proofs.Named.{answered, wants_memory, handed_on, read_whole, trails, refused_there}
use Rattle.wave.proofs.answer.read.Goals as goal

pub returns-in_err-value : goal.returns-in_err-value
returns-in_err-value c =
    let T = c.args.ty.now in
    let s = c.args.text.now in
    let n = c.args.levels in
    let e = c.in_err-value.field-0.0 in
    let first = c.with_limit-parser.ensures ∙ ap (λ (p : Parsing). limited p n) c.new.ensures in
    handed_on (λ answer. Answers (Read T n) s (string_bytes answer)) (Read T n) s c.from_residual.result e c.from_residual.ensures.1
    (refused_there T n s _ c.parse_value.new.self.place first e c.requires.distinct c.in_err-value.ensures.refused)

pub returns-in_err-finish : goal.returns-in_err-finish
returns-in_err-finish c =
    let T = c.args.ty.now in
    let s = c.args.text.now in
    let n = c.args.levels in
    let e = c.in_err-finish.field-0.0 in
    let first = c.with_limit-parser.ensures ∙ ap (λ (p : Parsing). limited p n) c.new.ensures in
    handed_on (λ answer. Answers (Read T n) s (string_bytes answer)) (Read T n) s c.from_residual-in_err-finish.result e c.from_residual-in_err-finish.ensures.1
    (trails T n s _ c.parse_value.new.self.place first c.in_ok-value.value e c.requires.distinct c.in_ok-value.ensures.value c.in_err-finish.ensures.answer)

pub returns-in-Ok : goal.returns-in-Ok
returns-in-Ok c =
    let T = c.args.ty.now in
    let s = c.args.text.now in
    let n = c.args.levels in
    let first = c.with_limit-parser.ensures ∙ ap (λ (p : Parsing). limited p n) c.new.ensures in
    answered T n s c.in_ok-value.value _ c.requires.distinct
    (read_whole T n s _ c.parse_value.new.self.place first c.in_ok-value.value c.in_ok-value.ensures.value c.in_ok-finish.ensures.answer) c.in-Ok.ensures.text.1

pub returns : goal.returns
returns c =
    let T = c.args.ty.now in
    let s = c.args.text.now in
    let n = c.args.levels in
    let first = c.with_limit-parser.ensures ∙ ap (λ (p : Parsing). limited p n) c.new.ensures in
    subst (IsUnanswered (Read T n) s) (sym c.for_memory.ensures) (
      _,
      answered T n s c.in_ok-value.value _ c.requires.distinct
          (read_whole T n s _ c.parse_value.new.self.place first c.in_ok-value.value c.in_ok-value.ensures.value c.in_ok-finish.ensures.answer) refl,
    )

pub for_memory-requires : goal.for_memory-requires
for_memory-requires c =
    let T = c.args.ty.now in
    let s = c.args.text.now in
    let n = c.args.levels in
    let first = c.with_limit-parser.ensures ∙ ap (λ (p : Parsing). limited p n) c.new.ensures in
    wants_memory T n s c.in_ok-value.value c.in-Err.error c.requires.distinct
    (read_whole T n s _ c.parse_value.new.self.place first c.in_ok-value.value c.in_ok-value.ensures.value c.in_ok-finish.ensures.answer) c.in-Err.ensures.refused.1
