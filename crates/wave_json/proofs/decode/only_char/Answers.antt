use Rattle.std.proofs.Common.{ℕ, List, ◌∷◌, chars, sym, ap, ◌∙◌}
use Rattle.std.proofs.lemmas.List.{nil_from_length}
use Rattle.std.proofs.lemmas.Str.{IsUtf8-past_char, chars_past_char, chars-nil}
use Rattle.wave_json.specs.Reading.{only_scalar}
use Rattle.wave_json.proofs.decode.only_char.Goals as goal

pub returns-in-Some : goal.returns-in-Some
returns-in-Some c =
    let first = c.in_ok-first.first in
    let e = sym c.chars-scalars.ensures.rest ∙ c.in_ok-first.ensures.steps.0 in
    let later = IsUtf8-past_char c.args.text.now _ first c.utf8.text e in
    sym (ap only_scalar (chars_past_char c.args.text.now _ first c.utf8.text e ∙ ap (λ (l : List ℕ). first ∷ l) (chars_past_char _ _ c.in-Some.field-0 later c.in-Some.ensures.steps.0)))

pub returns-in-None : goal.returns-in-None
returns-in-None c =
    let first = c.in_ok-first.first in
    let e = sym c.chars-scalars.ensures.rest ∙ c.in_ok-first.ensures.steps.0 in
    sym (ap only_scalar (chars_past_char c.args.text.now _ first c.utf8.text e ∙ ap (λ (l : List ℕ). first ∷ l) (ap chars (nil_from_length _ c.in-None.ensures.steps.0.0) ∙ chars-nil)))
