use Rattle.std.proofs.Common.{ℕ, List, length, sym, ap, ◌∙◌, arith}
use Rattle.std.specs.Prelude.{string_bytes}
use Rattle.std.specs.Borrow.{Bor}
use Rattle.wave_expected.proofs.ExpectedTokens.Words.{first_joined, next_joined, last_separator, other_separator}
use Rattle.wave_type_explain.proofs.expected.or_joined.Goals as goal
use Rattle.wave_type_explain.proofs.expected.or_joined.Goals.{then-index-words, else-index-words}

pub loop-index-init : goal.loop-index-init
loop-index-init c = (omega arith, first_joined c.args.words.now _ (string_bytes c.new-text.result) (string_bytes c.push_str-2.new.self) (sym c.is_empty.ensures ∙ c.if-is_empty.false) c.new-text.ensures.bytes c.in_ok-push_str-2.ensures.bytes)

pub loop-index-preserved : goal.loop-index-preserved
loop-index-preserved c = (
  omega arith,
  next_joined c.args.words.now c.loop-index.index _ (string_bytes c.loop-index.text) (string_bytes c.push_str-in-loop-index.new.self) (string_bytes c.push_str-in-loop-index-2.new.self) c.if-index-words.separator.now c.loop-index-test.true
      (elim c.if-index-words.branch [
        | then-index-words w ↦ ap (λ (t : Bor (List ℕ)). t.now) w.separator-is ∙ last_separator c.loop-index.index (length c.args.words.now) w.if-index-words.true
        | else-index-words w ↦ ap (λ (t : Bor (List ℕ)). t.now) w.separator-is ∙ other_separator c.loop-index.index (length c.args.words.now) w.if-index-words.false
      ])
      c.in_ok-push_str-3.ensures.bytes c.in_ok-push_str-4.ensures.bytes c.loop-index.invariant.1,
)
