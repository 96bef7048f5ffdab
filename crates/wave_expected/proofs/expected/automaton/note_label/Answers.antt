use Rattle.std.proofs.Common.{[], ◌∷◌, ◌++◌, false, refl, sym, ap, subst, ◌∙◌}
use Rattle.std.specs.Option.{is_some}
use Rattle.wave_wasm.specs.Names.{is_one_of}
use Rattle.wave_wasm.proofs.Names.NameSets.{holds_none, holds_more}
use Rattle.wave_expected.specs.Private.Prefixes.{HasNames, IsNoted}
use Rattle.wave_expected.proofs.expected.automaton.note_label.Goals as goal

pub returns-in_ok-insert-in-BehindWord : goal.returns-in_ok-insert-in-BehindWord
returns-in_ok-insert-in-BehindWord c =
    let one = holds_more c.new.result c.insert.new.self [] c.label_name.result.now _ (holds_none c.new.result c.new.ensures.empty) c.in_ok-insert-in-BehindWord.ensures.updates in
    subst (λ d. IsNoted d c.args.text.now c.args.names.now c.insert.new.self false) (sym c.in-BehindWord.is) (subst (λ z. HasNames c.insert.new.self (z ∷ [])) c.label_name.ensures one, refl)

pub returns-in_ok-before-in-BehindFlag : goal.returns-in_ok-before-in-BehindFlag
returns-in_ok-before-in-BehindFlag c =
    let name_is = c.label_name-in-BehindFlag.ensures in
    subst (λ d. IsNoted d c.args.text.now c.args.names.now c.insert-in-BehindFlag.new.self c.is_some.result) (sym c.in-BehindFlag.is)
    (λ names has. (
      subst (λ z. HasNames c.insert-in-BehindFlag.new.self (names ++ z ∷ [])) name_is
          (holds_more c.args.names.now c.insert-in-BehindFlag.new.self names c.label_name-in-BehindFlag.result.now _ has c.in_ok-before-in-BehindFlag.ensures.updates),
      c.is_some.ensures ∙ (ap is_some c.in_ok-before-in-BehindFlag.ensures.old ∙ (has c.label_name-in-BehindFlag.result.now ∙ ap (is_one_of names) name_is)),
    ))
