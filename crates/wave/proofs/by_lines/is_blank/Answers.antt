use Rattle.std.proofs.Common.{sym, subst}
use Rattle.std.specs.Prelude.{MatchBool}
use Rattle.wave.specs.ByLines.{IsBlank, HasItem}
use Rattle.wave_tree.specs.ParserState.{Finishes}
use Rattle.wave.proofs.OneLine.{blank_or_not}
use Rattle.wave.proofs.by_lines.is_blank.Goals as goal

pub returns : goal.returns
returns c =
    subst (λ b. MatchBool b (IsBlank c.args.text.now) (HasItem c.args.text.now)) (sym c.is_ok.ensures.value)
    (blank_or_not c.args.text.now c.finish.result (subst (λ z. Finishes c.finish.result z.place) c.new-parser.ensures c.finish.ensures.answer))
