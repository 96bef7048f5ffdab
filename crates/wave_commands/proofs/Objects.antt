-- A fault as an object of JSON.
use Rattle.std.proofs.Common.{ℕ, ◌≡◌, List, ◌++◌, codes, ap, ◌∙◌}
use Rattle.std.specs.declared.ops.Range.{Range}
use Rattle.wave_files.specs.Json.{json_string}
use Rattle.wave_commands.specs.Reports.{json_line, text_members}

-- the members that tell texts, by the strings of these
abbrev pub members : List ℕ → List ℕ → List ℕ → List ℕ → List ℕ
members path kind message lines = codes ",\"path\":" ++ (path ++ (codes ",\"kind\":" ++ (kind ++ (codes ",\"message\":" ++ (message ++ (codes ",\"notes\":" ++ lines))))))

-- so they are with the strings of equal texts
pub quoted : (path kind message lines p k m l : List ℕ) → p ≡ json_string path → k ≡ json_string kind → m ≡ json_string message → l ≡ json_string lines
    → members p k m l ≡ text_members path kind message lines
quoted path kind message lines p k m l path_is kind_is message_is lines_is =
    ap (λ x. members x k m l) path_is
    ∙ (ap (λ x. members (json_string path) x m l) kind_is
    ∙ (ap (λ x. members (json_string path) (json_string kind) x l) message_is
    ∙ ap (λ x. members (json_string path) (json_string kind) (json_string message) x) lines_is))

-- a line, by its parts
pub joined : (name n places more texts other : List ℕ) → n ≡ json_string name → places ≡ more → texts ≡ other
    → codes "{\"file\":" ++ (n ++ (places ++ (texts ++ codes "}\n"))) ≡ codes "{\"file\":" ++ (json_string name ++ (more ++ (other ++ codes "}\n")))
joined name n places more texts other name_is places_are texts_are =
    ap (λ x. codes "{\"file\":" ++ (x ++ (places ++ (texts ++ codes "}\n")))) name_is
    ∙ (ap (λ x. codes "{\"file\":" ++ (json_string name ++ (x ++ (texts ++ codes "}\n")))) places_are
    ∙ ap (λ x. codes "{\"file\":" ++ (json_string name ++ (more ++ (x ++ codes "}\n")))) texts_are)

-- the same of equal texts and an equal span
pub line_again : (name kind message path lines k m p l : List ℕ) (line column : ℕ) (span at : Range ℕ) → k ≡ kind → m ≡ message → p ≡ path → l ≡ lines → at ≡ span
    → json_line name k m line column at p l ≡ json_line name kind message line column span path lines
line_again name kind message path lines k m p l line column span at kind_is message_is path_is lines_is span_is =
    ap (λ x. json_line name x m line column at p l) kind_is
    ∙ (ap (λ x. json_line name kind x line column at p l) message_is
    ∙ (ap (λ (x : Range ℕ). json_line name kind message line column x p l) span_is
    ∙ (ap (λ x. json_line name kind message line column span x l) path_is
    ∙ ap (λ x. json_line name kind message line column span path x) lines_is)))
