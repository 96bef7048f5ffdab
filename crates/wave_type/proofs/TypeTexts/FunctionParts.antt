-- The names and types of parameters or results, as they are kept.
use Rattle.std.proofs.Common.{◌≡◌, ℕ, ◌≤◌, Bool, true, false, ◌&&◌, List, [], ◌∷◌, map, take, length, String, string_bytes, refl, sym, ap, ◌∙◌}
use Rattle.std.specs.String.{string_eq}
use Rattle.std.specs.Cmp.Lexicographic.{pointwise}
use Rattle.std.specs.declared.alloc.Global.{Global}
use Rattle.wave_wasm.specs.Commas.{joined}
use Rattle.wave_wasm.specs.Types.{TypeTree}
use Rattle.wave_wasm.specs.TypeText.{typed_names}
use Rattle.wave_wasm.proofs.Displays.JoinedTexts.{all_joined}
use Rattle.wave_type.specs.TypeModel.{by_bytes}
use Rattle.wave_type.specs.TypeEquality.{same_tree}
use Rattle.wave_type.proofs.TypeTexts.JoinedTexts.{field_line}
use Rattle.wave_type.specs.FunctionType.{names_of, types_of}
use Rattle.wave_type.specs.FunctionEquality.{same_part, same_parts}

-- `==` of names and types as they are kept
abbrev pub same_kept : String Global × TypeTree → String Global × TypeTree → Bool
same_kept p q = string_eq p.0 q.0 && same_tree p.1 q.1

by_their_bytes : (ps qs : List (String Global × TypeTree)) → pointwise same_kept ps qs ≡ same_parts (map by_bytes ps) (map by_bytes qs)
by_their_bytes [] [] = refl
by_their_bytes [] (q ∷ qs) = refl
by_their_bytes (p ∷ ps) [] = refl
by_their_bytes (p ∷ ps) (q ∷ qs) = ap (λ b. same_part (by_bytes p) (by_bytes q) && b) (by_their_bytes ps qs)

-- where the first are equal, the second are compared
pub second_tell : (ps qs rs ss : List (String Global × TypeTree)) (a b : Bool) → a ≡ pointwise same_kept ps qs → a ≡ true → b ≡ pointwise same_kept rs ss → b ≡ (same_parts (map by_bytes ps) (map by_bytes qs) && same_parts (map by_bytes rs) (map by_bytes ss))
second_tell ps qs rs ss a b first same_first second =
    (second ∙ by_their_bytes rs ss) ∙ ap (λ t. t && same_parts (map by_bytes rs) (map by_bytes ss)) (sym same_first ∙ (first ∙ by_their_bytes ps qs))

-- where they aren't, the two are not one
pub first_tell : (ps qs rs ss : List (String Global × TypeTree)) (a : Bool) → a ≡ pointwise same_kept ps qs → a ≡ false → a ≡ (same_parts (map by_bytes ps) (map by_bytes qs) && same_parts (map by_bytes rs) (map by_bytes ss))
first_tell ps qs rs ss a first other_first =
    other_first ∙ ap (λ t. t && same_parts (map by_bytes rs) (map by_bytes ss)) (sym other_first ∙ (first ∙ by_their_bytes ps qs))

lines : (ps : List (String Global × TypeTree)) → map field_line ps ≡ typed_names (names_of (map by_bytes ps)) (types_of (map by_bytes ps))
lines [] = refl
lines (p ∷ ps) = ap (λ texts. field_line p ∷ texts) (lines ps)

-- all parts, at the end of a loop
pub all_parts : (xs ps : List (String Global × TypeTree)) (i : ℕ) → xs ≡ ps → length xs ≤ i → joined (map field_line (take i xs)) ≡ joined (typed_names (names_of (map by_bytes ps)) (types_of (map by_bytes ps)))
all_parts xs ps i same h = all_joined field_line xs ps i same h ∙ ap joined (lines ps)

-- the names, as they are kept
pub kept_names : (ps : List (String Global × TypeTree)) → map (λ p. string_bytes p.0) ps ≡ names_of (map by_bytes ps)
kept_names [] = refl
kept_names (p ∷ ps) = ap (λ names. string_bytes p.0 ∷ names) (kept_names ps)

pub ruleset kept = (kept_names)
