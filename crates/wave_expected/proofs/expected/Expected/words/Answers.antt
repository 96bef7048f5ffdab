use Rattle.std.proofs.Common.{◌≡◌, ap, subst, ◌∙◌}
use Rattle.std.specs.Prelude.{IfOk, string_bytes}
use Rattle.wave_wasm.specs.Borrowed.{texts}
use Rattle.wave_expected.specs.Expected.{or_joined}
use Rattle.wave_expected.proofs.ExpectedTokens.Words.{all_reported}
use Rattle.wave_expected.proofs.expected.Expected.words.Goals as goal

pub returns : goal.returns
returns c =
    subst (λ words. IfOk c.or_joined.result (λ text. string_bytes text ≡ or_joined words))
    (ap texts c.as_slice.ensures.value ∙ all_reported c.args.self.now.classes.items c.starts_reported.result.now c.args.self.now.may_end c.new-words.result.items c.add_words.new.words.items c.add_words-2.new.words.items c.add_end.new.words.items c.starts_reported.ensures c.new-words.ensures.items c.in_ok-add_words.ensures c.in_ok-add_words-2.ensures c.in_ok-add_end.ensures)
    c.or_joined.ensures
