-- Texts of types, fields and cases with commas between, item by item.
use Rattle.std.proofs.Common.{◌≡◌, ℕ, ◌+◌, ◌<◌, ◌≤◌, get_or, List, [], ◌∷◌, ◌++◌, map, length, take, ap, ◌∙◌, refl, sym, codes, append_assoc, String, string_bytes, Option}
use Rattle.std.proofs.lemmas.Grind.{put_three}
use Rattle.std.specs.Fmt.{decimal, HasWritten}
use Rattle.std.specs.declared.alloc.Global.{Global}
use Rattle.std.specs.declared.fmt.Formatter.{Formatter}
use Rattle.wave_wasm.specs.Types.{TypeTree, fixed, types_of, fields_of, cases_of, maybe_type}
use Rattle.wave_wasm.specs.Commas.{joined, behind_name}
use Rattle.wave_wasm.specs.TypeText.{type_text, type_texts, field_texts, case_texts, payload_text}
use Rattle.wave_wasm.proofs.Displays.JoinedTexts.{separator, joined_turn, all_joined}
use Rattle.wave_type.specs.TypeModel.{by_bytes}

-- the text of a field that is kept with its name
abbrev pub field_line : String Global × TypeTree → List ℕ
field_line f = behind_name (string_bytes f.0) (type_text f.1)

-- the text of a case that is kept with its name
abbrev pub case_line : String Global × Option TypeTree → List ℕ
case_line c = string_bytes c.0 ++ payload_text (maybe_type c.1)

types_lines : (Ts : List TypeTree) → map type_text Ts ≡ type_texts (types_of Ts)
types_lines [] = refl
types_lines (T ∷ Ts) = ap (λ xs. type_text T ∷ xs) (types_lines Ts)

field_lines : (fs : List (String Global × TypeTree)) → map field_line fs ≡ field_texts (fields_of (map by_bytes fs))
field_lines [] = refl
field_lines (f ∷ fs) = ap (λ xs. field_line f ∷ xs) (field_lines fs)

case_lines : (cs : List (String Global × Option TypeTree)) → map case_line cs ≡ case_texts (cases_of (map by_bytes cs))
case_lines [] = refl
case_lines (c ∷ cs) = ap (λ xs. case_line c ∷ xs) (case_lines cs)

-- all types, at the end of a loop
pub all_types : (xs Ts : List TypeTree) (i : ℕ) → xs ≡ Ts → length xs ≤ i → joined (map type_text (take i xs)) ≡ joined (type_texts (types_of Ts))
all_types xs Ts i same h = all_joined type_text xs Ts i same h ∙ ap joined (types_lines Ts)

-- all fields
pub all_fields : (xs fs : List (String Global × TypeTree)) (i : ℕ) → xs ≡ fs → length xs ≤ i → joined (map field_line (take i xs)) ≡ joined (field_texts (fields_of (map by_bytes fs)))
all_fields xs fs i same h = all_joined field_line xs fs i same h ∙ ap joined (field_lines fs)

-- all cases
pub all_cases : (xs cs : List (String Global × Option TypeTree)) (i : ℕ) → xs ≡ cs → length xs ≤ i → joined (map case_line (take i xs)) ≡ joined (case_texts (cases_of (map by_bytes cs)))
all_cases xs cs i same h = all_joined case_line xs cs i same h ∙ ap joined (case_lines cs)

-- one more item is written behind its separator, at a turn of a loop
pub turn_written : {W : Type 0} (took : W → List ℕ → W → Type 0) {A : Type 0} (text : A → List ℕ) (xs : List A) (i : ℕ) (s : List ℕ) (x : A) → i < length xs → x ≡ get_or xs i x → s ≡ separator (map text (take i xs))
    → (f g h k : Formatter W) → HasWritten took f (joined (map text (take i xs))) g → HasWritten took g s h → HasWritten took h (text x) k → HasWritten took f (joined (map text (take (i + 1) xs))) k
turn_written took text xs i s x less at sep f g h k before comma part = put_three took f g h k _ _ _ _ before comma part (joined_turn text xs i s x less sep at)

-- two texts in angle brackets, as they are written one after the other
pub pair_text : (prefix a b all : List ℕ) → prefix ++ ((a ++ (codes ", " ++ b)) ++ codes ">") ≡ all → prefix ++ (a ++ (codes ", " ++ (b ++ codes ">"))) ≡ all
pair_text prefix a b all e = ap (λ z. prefix ++ z) (sym (append_assoc a (codes ", " ++ b) (codes ">"))) ∙ e

-- the text of a list of fixed length, likewise
pub fixed_text : (E : TypeTree) (n : ℕ) (T : TypeTree) → fixed E n ≡ T → codes "list<" ++ (type_text E ++ (codes ", " ++ (decimal n ++ codes ">"))) ≡ type_text T
fixed_text E n T is = pair_text (codes "list<") (type_text E) (decimal n) _ (ap type_text is)
