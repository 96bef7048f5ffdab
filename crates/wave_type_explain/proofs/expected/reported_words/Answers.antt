use Rattle.std.proofs.Common.{ℕ, List, sym, ap, ◌∙◌, map, arith, Vec, Global}
use Rattle.std.specs.List.{filter}
use Rattle.std.specs.Borrow.{Bor}
use Rattle.std.proofs.lemmas.List.{take_all}
use Rattle.wave_wasm.specs.Borrowed.{texts}
use Rattle.wave_type_explain.specs.Expected.{class_word, is_reported}
use Rattle.wave_type_explain.proofs.Tried.{word_added, word_left}
use Rattle.wave_type_explain.proofs.expected.reported_words.Goals as goal
use Rattle.wave_type_explain.proofs.expected.reported_words.Goals.{then-is_reported+in_ok-push, else-is_reported}

pub loop-class-preserved : goal.loop-class-preserved
loop-class-preserved c =
    let test = is_reported c.has_general-general.result in
    let old = c.loop-class.words.items in
    let i = c.loop-class.class-index in
    elim c.if-is_reported.branch [
      | then-is_reported+in_ok-push w ↦ word_added test c.args.classes.now i _ c.loop-class-test.true old _ w.class_word.result
          (sym c.is_reported.ensures ∙ w.if-is_reported.true) w.class_word.ensures (ap (λ (v : Vec (Bor (List ℕ)) Global). v.items) w.words-is ∙ w.in_ok-push.ensures.items) c.loop-class.invariant
      | else-is_reported w ↦ ap (λ (v : Vec (Bor (List ℕ)) Global). texts v.items) w.words-is ∙ word_left test c.args.classes.now i _ c.loop-class-test.true old (sym c.is_reported.ensures ∙ w.if-is_reported.false) c.loop-class.invariant
    ]

pub returns : goal.returns
returns c =
    c.loop-class.invariant
    ∙ (ap (λ cs. map class_word (filter (is_reported c.has_general-general.result) cs)) (take_all c.loop-class.class-index c.args.classes.now (omega arith))
    ∙ ap (λ g. map class_word (filter (is_reported g) c.args.classes.now)) c.has_general-general.ensures)
