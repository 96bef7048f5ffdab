use Rattle.std.proofs.Common.{List, ℕ, Option, option_map, sym, ap, ◌∙◌}
use Rattle.wave_json.specs.Reading.{◌>>=◌, or_fault, whole_of}
use Rattle.wave_json.specs.declared.error.JsonErrorKind.TheVariants as kinds
use Rattle.wave_json.proofs.Numbers.{no_number}
use Rattle.wave_json.proofs.Stops.{here_fails}
use Rattle.wave_json.proofs.parts.whole.Goals as goal

pub returns-in-None : goal.returns-in-None
returns-in-None g c =
    here_fails (Unit {0}) kinds.Number c.here-in-None.result _ c.here-in-None.ensures
    (ap (λ (o : Option (List ℕ)). or_fault o kinds.Mismatch >>= λ s. or_fault (whole_of g.N.WholeNumber.kind s) kinds.Number) (sym c.as_number.ensures ∙ ap (option_map (λ s. s.now)) c.in-Some.is)
    ∙ ap (λ o. or_fault o kinds.Number) (no_number g.N.WholeNumber.kind c.in-Some.text.now c.in-None.ensures))
