-- The text of the type of a function has tokens that spell it.
use Rattle.std.proofs.Common.{◌≡◌, ℕ, List, [], ◌∷◌, ◌++◌, refl, sym, ap, subst, codes, append_assoc, map}
use Rattle.std.proofs.lemmas.List.{append-nil}
use Rattle.wave_wasm.specs.Commas.{joined, behind_name, in_parens}
use Rattle.wave_wasm.specs.Lists.{AllOf}
use Rattle.wave_wasm.specs.Names.{AreDistinct}
use Rattle.wave_wasm.specs.Types.{IsRepresentable}
use Rattle.wave_wasm.specs.TypeText.{type_text, typed_names, function_results_text, function_text}
use Rattle.wave_lex.specs.Tokens.{label}
use Rattle.wave_lex.proofs.RegularShapes.Derivatives.{matches_from}
use Rattle.wave_type.specs.FunctionType.{FunctionType, names_of, types_of, result_names, func_of}
use Rattle.wave_type.specs.FunctionSpelling.{SpellsParts, SpellsResults, IsFunctionOf}
use Rattle.wave_type.specs.DistinctLabels.{HaveDistinctLabels, FunctionHasDistinctLabels}
use Rattle.wave_type.specs.TypeSpelling.{Tokens, IsTokenizedTo}
use Rattle.wave_type.proofs.TypeReading.Functions.{Parts, no_empty_label}
use Rattle.wave_type.proofs.TypeTexts.Tokenizes.{space_cut, end_cut, paren_open_cut, paren_close_cut, arrow_cut, label_cut}
use Rattle.wave_type.proofs.TypeTexts.ReadBack.{Prints, paren_alone, parts_cut, field_prints, field_line, type_prints}
use Rattle.wave_type.proofs.TypeReading.Sound.{IsField, fields_spelled, field_names_of}

-- names and types, one by one
parts_print : (ps : Parts) → AllOf IsRepresentable (types_of ps) → HaveDistinctLabels (names_of ps) (types_of ps) → AllOf (λ f. Prints (IsField f) (field_line f)) ps
parts_print [] representable labelled = tt
parts_print ((name, T) ∷ ps) representable (labels, distinct, labelled) =
    (field_prints name T labels.0 (type_prints T (representable.0, labelled.0.0) labelled.0.1), parts_print ps representable.1 (labels.1, distinct.1, labelled.1))

lines : (ps : Parts) → map field_line ps ≡ typed_names (names_of ps) (types_of ps)
lines [] = refl
lines ((name, T) ∷ ps) = ap (λ l. behind_name name (type_text T) ∷ l) (lines ps)

-- names and types in parentheses
parens_cut : (ps : Parts) → AllOf IsRepresentable (types_of ps) → HaveDistinctLabels (names_of ps) (types_of ps) → (r : List ℕ) (us : Tokens) → IsTokenizedTo r us → (ts : Tokens) × IsTokenizedTo (in_parens (joined (typed_names (names_of ps) (types_of ps))) ++ r) (codes "(" ∷ ts) × SpellsParts ps ts us
parens_cut [] representable labelled r us cut = (codes ")" ∷ us, paren_open_cut (41 ∷ r) (codes ")" ∷ us) (paren_close_cut r us cut), refl)
parens_cut (p ∷ ps) representable labelled r us cut =
    let w = parts_cut (codes ")") IsField field_line p ps (parts_print (p ∷ ps) representable labelled) (41 ∷ r) us refl (paren_alone us) (paren_close_cut r us cut) in
    let x = joined (map field_line (p ∷ ps)) in
    let inner : IsTokenizedTo ((x ++ codes ")") ++ r) w.0 = subst (λ z. IsTokenizedTo z w.0) (sym (append_assoc x (codes ")") r)) w.1 in
    let all : IsTokenizedTo (in_parens x ++ r) (codes "(" ∷ w.0) = paren_open_cut ((x ++ codes ")") ++ r) w.0 inner in
    (w.0, subst (λ z. IsTokenizedTo (in_parens (joined z) ++ r) (codes "(" ∷ w.0)) (lines (p ∷ ps)) all, (fields_spelled (codes ")") (p ∷ ps) w.0 us w.2, subst AreDistinct (field_names_of (p ∷ ps)) labelled.1))

-- what stands after ` -> `
behind_arrow : (x : List ℕ) (ts : Tokens) → IsTokenizedTo x ts → IsTokenizedTo (codes " -> " ++ x) (codes "-" ∷ codes ">" ∷ ts)
behind_arrow x ts cut = space_cut (45 ∷ 62 ∷ 32 ∷ x) (codes "-" ∷ codes ">" ∷ ts) (arrow_cut (32 ∷ x) ts (space_cut x ts cut))

named_cut : (rs : Parts) → AllOf IsRepresentable (types_of rs) → HaveDistinctLabels (names_of rs) (types_of rs) → (ts : Tokens) × IsTokenizedTo (codes " -> " ++ in_parens (joined (typed_names (names_of rs) (types_of rs)))) (codes "-" ∷ codes ">" ∷ codes "(" ∷ ts) × SpellsParts rs ts []
named_cut rs representable labelled =
    let w = parens_cut rs representable labelled [] [] end_cut in
    let x = in_parens (joined (typed_names (names_of rs) (types_of rs))) in
    (w.0, behind_arrow x (codes "(" ∷ w.0) (subst (λ z. IsTokenizedTo z (codes "(" ∷ w.0)) (append-nil x) w.1), w.2)

results_cut : (rs : Parts) → AllOf IsRepresentable (types_of rs) → HaveDistinctLabels (result_names rs) (types_of rs) → (ts : Tokens) × IsTokenizedTo (function_results_text (result_names rs) (types_of rs)) ts × SpellsResults rs ts
results_cut [] representable labelled = ([], end_cut, refl)
results_cut (([], T) ∷ []) representable (labels, distinct, labelled) =
    let w = type_prints T (representable.0, labelled.0.0) labelled.0.1 [] [] tt tt end_cut in
    (codes "-" ∷ codes ">" ∷ w.0, behind_arrow (type_text T) w.0 (subst (λ z. IsTokenizedTo z w.0) (append-nil (type_text T)) w.1), (w.0, refl, w.2))
results_cut (([], T) ∷ p ∷ ps) representable (labels, distinct, labelled) = absurd (no_empty_label labels.0)
results_cut ((c ∷ cs, T) ∷ []) representable labelled =
    let w = named_cut ((c ∷ cs, T) ∷ []) representable labelled in
    (codes "-" ∷ codes ">" ∷ codes "(" ∷ w.0, w.1, (w.0, refl, w.2))
results_cut ((c ∷ cs, T) ∷ p ∷ ps) representable labelled =
    let w = named_cut ((c ∷ cs, T) ∷ p ∷ ps) representable labelled in
    (codes "-" ∷ codes ">" ∷ codes "(" ∷ w.0, w.1, (w.0, refl, w.2))

-- the text of the type of a function spells it
pub function_spells : (f : FunctionType) → AllOf IsRepresentable (types_of f.params) → AllOf IsRepresentable (types_of f.results) → FunctionHasDistinctLabels f → IsFunctionOf (function_text (func_of f)) f
function_spells f representable own_results labelled =
    let rs = results_cut f.results own_results labelled.1 in
    let behind = function_results_text (result_names f.results) (types_of f.results) in
    let ps = parens_cut f.params representable labelled.0 behind rs.0 rs.1 in
    let x = in_parens (joined (typed_names (names_of f.params) (types_of f.params))) in
    let all : IsTokenizedTo (codes "func" ++ (x ++ behind)) (codes "func" ∷ codes "(" ∷ ps.0) = label_cut (codes "func") (x ++ behind) (codes "(" ∷ ps.0) (matches_from (codes "func") label refl) refl ps.1 in
    (codes "func" ∷ codes "(" ∷ ps.0, all, (ps.0, rs.0, refl, ps.2, rs.2))
