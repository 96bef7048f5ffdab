-- What holds of the grammar.
use Rattle.std.proofs.Common.{◌≡◌, [], ◌++◌, sym, ap, ◌∙◌, subst}
use Rattle.std.proofs.lemmas.List.{append-nil}
use Rattle.wave_wasm.specs.Types.{TypeTree, HasDistinctNames}
use Rattle.wave_grammar.specs.TypedGrammar.{Reads}
use Rattle.wave_grammar.specs.UnambiguityLaws.{OneReading}
use Rattle.wave_grammar.proofs.Unambiguity.Values.{unique}
use Rattle.wave_grammar.proofs.Unambiguity.RestIndependence.{framed}

-- a spelling that begins a spelling is that spelling, with its value
pub one_reading : (T : TypeTree) → HasDistinctNames T → OneReading T
one_reading T labelled n m tokens others rest v w h k e =
    let (prefix, f, fits) = framed T n tokens v [] h in
    let same : tokens ≡ prefix = f ∙ append-nil prefix in
    let whole : prefix ++ rest ≡ others = ap (λ x. x ++ rest) (sym same) ∙ sym e in
    let (values, ends) = unique T labelled n m others v w rest [] (subst (λ x. Reads T n x v rest) whole (fits rest)) k in
    (sym (append-nil tokens) ∙ ap (λ x. tokens ++ x) (sym ends) ∙ sym e, values)
