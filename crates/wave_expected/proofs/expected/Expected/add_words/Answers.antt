use Rattle.std.proofs.Common.{ℕ, List, ap, ◌∙◌, Vec, Global}
use Rattle.std.specs.Borrow.{Bor}
use Rattle.wave_wasm.specs.Borrowed.{texts}
use Rattle.wave_expected.proofs.ExpectedTokens.Words.{words_more, word_left, word_added}
use Rattle.wave_expected.proofs.expected.Expected.add_words.Goals as goal
use Rattle.wave_expected.proofs.expected.Expected.add_words.Goals.{then-contains+in_ok-push, else-contains}

pub loop-class-preserved : goal.loop-class-preserved
loop-class-preserved c =
    let classes = c.args.self.now.classes.items in
    let old = c.loop-class.words.items in
    let new = c.if-contains.words.items in
    words_more classes c.args.reported.now c.loop-class.class-index _ (texts c.args.words.now.items) (texts old) (texts new) c.loop-class-test.true c.loop-class.invariant
    (elim c.if-contains.branch [
      | then-contains+in_ok-push w ↦ word_added classes _ c.contains.result old new w.class_word.result c.contains.ensures w.if-contains.true w.class_word.ensures (ap (λ (v : Vec (Bor (List ℕ)) Global). v.items) w.words-is ∙ w.in_ok-push.ensures.items)
      | else-contains w ↦ ap (λ (v : Vec (Bor (List ℕ)) Global). texts v.items) w.words-is ∙ word_left classes _ c.contains.result old c.contains.ensures w.if-contains.false
    ])
