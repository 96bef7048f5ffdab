use Rattle.std.proofs.Common.{ℕ, List, [], ◌∷◌, ◌≡◌, ◌++◌, ap, subst, ◌∙◌, map, codes}
use Rattle.std.specs.Prelude.{IfOk, if◌then◌else◌, string_bytes}
use Rattle.wave_wasm.specs.Borrowed.{texts}
use Rattle.wave_expected.specs.Expected.{or_joined}
use Rattle.wave_type_explain.specs.Expected.{class_word, reported}
use Rattle.wave_type_explain.proofs.expected.Expected.words.Goals as goal

pub returns : goal.returns
returns c =
    let e = c.args.self.now in
    let end : List (List ℕ) = if e.may_end then codes "the end" ∷ [] else [] in
    subst (λ words. IfOk c.or_joined.result (λ text. string_bytes text ≡ or_joined words))
    (ap texts c.as_slice.ensures.value ∙ (c.in_ok-add_end.ensures ∙ (ap (λ ws. ws ++ end) c.in_ok-words.ensures ∙ ap (λ cs. map class_word (reported cs) ++ end) c.deref.ensures.value)))
    c.or_joined.ensures
