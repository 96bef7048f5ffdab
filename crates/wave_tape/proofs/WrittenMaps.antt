-- The text of a map, from the texts of its entries.
use Rattle.std.proofs.Common.{◌≡◌, ℕ, Bool, true, false, not, cond, if◌then◌else◌, List, [], ◌∷◌, ◌++◌, map, refl, sym, ap, ◌∙◌, append_assoc, codes}
use Rattle.std.specs.Prelude.{String}
use Rattle.std.specs.String.{string_bytes}
use Rattle.std.specs.declared.alloc.Global.{Global}
use Rattle.std.specs.Str.{bytes_eq}
use Rattle.std.proofs.lemmas.List.{map_push}
use Rattle.std.proofs.lemmas.Slice.Eq.{bytes_eq-Decides}
use Rattle.wave_wasm.specs.Lists.{AllOf}
use Rattle.wave_wasm.specs.Commas.{behind_name, in_braces, joined}
use Rattle.wave_wasm.specs.ConstructorContracts.{leaf_entries}
use Rattle.wave_wasm.specs.Merge.{last_value, merge, merge_by_text, same_text, without}
use Rattle.wave_wasm.specs.Text.{text}
use Rattle.wave_wasm.specs.Values as value
use Rattle.wave_wasm.specs.Values.{Leaf, Value, IsWellFormed, entries, entry_list}
use Rattle.wave_wasm.proofs.CanonicalText.ValueParts.{map_map}
use Rattle.wave_tape.specs.Private.TextWriters.{entry_texts, held_texts}
use Rattle.wave_writer.proofs.CanonicalText.Maps.{map_is}
use Rattle.wave_writer.proofs.Merging.Congruence.{merge_paired, paired}

-- ---- entries whose text begins with that of the key

abbrev with_key : List ℕ × List ℕ → List ℕ × List ℕ
with_key x = (x.0, behind_name x.0 x.1)

chosen : (key v : List ℕ) (x : List ℕ × List ℕ) (b : Bool) → bytes_eq key x.0 ≡ b → (if b then behind_name x.0 x.1 else behind_name key v) ≡ behind_name key (if b then x.1 else v)
chosen key v x true same = ap (λ (n : List ℕ). behind_name n x.1) (sym ((bytes_eq-Decides key x.0).0 same))
chosen key v x false apart = refl

last_with_key : (key v : List ℕ) (xs : List (List ℕ × List ℕ)) → last_value bytes_eq key (behind_name key v) (map with_key xs) ≡ behind_name key (last_value bytes_eq key v xs)
last_with_key key v [] = refl
last_with_key key v (x ∷ xs) =
    ap (λ (w : List ℕ). last_value bytes_eq key w (map with_key xs)) (chosen key v x (bytes_eq key x.0) refl) ∙ last_with_key key (if bytes_eq key x.0 then x.1 else v) xs

both_kept : (b : Bool) (x : List ℕ × List ℕ) (xs ys : List (List ℕ × List ℕ)) → ys ≡ map with_key xs → cond b (with_key x ∷ ys) ys ≡ map with_key (cond b (x ∷ xs) xs)
both_kept true x xs ys e = ap (λ (l : List (List ℕ × List ℕ)). with_key x ∷ l) e
both_kept false x xs ys e = e

without_with_key : (key : List ℕ) (xs : List (List ℕ × List ℕ)) → without bytes_eq key (map with_key xs) ≡ map with_key (without bytes_eq key xs)
without_with_key key [] = refl
without_with_key key (x ∷ xs) = both_kept (not (bytes_eq key x.0)) x (without bytes_eq key xs) (without bytes_eq key (map with_key xs)) (without_with_key key xs)

-- they merge as those without it
merge_with_key : (xs : List (List ℕ × List ℕ)) → merge bytes_eq (map with_key xs) ≡ map with_key (merge bytes_eq xs)
merge_with_key [] = refl
merge_with_key (x ∷ xs) =
    ap (λ (w : List ℕ). (x.0, w) ∷ without bytes_eq x.0 (merge bytes_eq (map with_key xs))) (last_with_key x.0 x.1 xs)
    ∙ ap (λ (l : List (List ℕ × List ℕ)). (x.0, behind_name x.0 (last_value bytes_eq x.0 x.1 xs)) ∷ l) (ap (without bytes_eq x.0) (merge_with_key xs) ∙ without_with_key x.0 (merge bytes_eq xs))

-- ---- the text of a map

no_premise : {K V : Type 0} (es : List (K × V)) → AllOf (λ e. Unit {0}) es
no_premise [] = tt
no_premise (e ∷ es) = (tt, no_premise es)

entries_back : (all : List (Leaf × Value)) → entry_list (entries all) ≡ all
entries_back [] = refl
entries_back (e ∷ all) = ap (λ (l : List (Leaf × Value)). e ∷ l) (entries_back all)

same_pairs : (es : List (Value × Value)) → paired (λ v. v) (λ v. v) es ≡ es
same_pairs [] = refl
same_pairs (e ∷ es) = ap (λ (l : List (Value × Value)). e ∷ l) (same_pairs es)

abbrev same_texts : Value → Value → Bool
same_texts a b = bytes_eq (text a) (text b)

abbrev key_of : List ℕ × Unit {0} → List ℕ
key_of k = k.0

abbrev second : List ℕ × List ℕ → List ℕ
second x = x.1

abbrev whole_entry : List ℕ × List ℕ → List ℕ
whole_entry x = behind_name x.0 x.1

abbrev both_texts : Value × Value → List ℕ × List ℕ
both_texts e = (text e.0, text e.1)

abbrev one_entry : Value × Value → List ℕ
one_entry e = behind_name (text e.0) (text e.1)

abbrev pub Held : Type 0
Held = String Global × Unit {0} × String Global

abbrev keyed : Held → (List ℕ × Unit {0}) × String Global
keyed e = ((string_bytes e.0, e.1), e.2)

abbrev keyed_text : (List ℕ × Unit {0}) × String Global → List ℕ × List ℕ
keyed_text x = (x.0.0, string_bytes x.1)

abbrev unkeyed : (List ℕ × Unit {0}) × String Global → Unit {0} × String Global
unkeyed x = (x.0.1, x.1)

abbrev pub text_of : Unit {0} × String Global → List ℕ
text_of m = string_bytes m.1

-- one entry more
pub entry_more : (items new : List Held) (es : List (Value × Value)) (x : Held) (k v : Value) (empty start : List ℕ) → empty ≡ [] → string_bytes x.0 ≡ empty ++ text k → start ≡ string_bytes x.0 ++ codes ": " → string_bytes x.2 ≡ start ++ text v → new ≡ items ++ x ∷ [] → map held_texts items ≡ map entry_texts es → map held_texts new ≡ map entry_texts (es ++ (k, v) ∷ [])
entry_more items new es x k v empty start none key begun val pushed h =
    let first : string_bytes x.0 ≡ text k = key ∙ ap (λ (s : List ℕ). s ++ text k) none in
    let whole : string_bytes x.2 ≡ behind_name (text k) (text v) =
    val ∙ (ap (λ (s : List ℕ). s ++ text v) (begun ∙ ap (λ (s : List ℕ). s ++ codes ": ") first) ∙ append_assoc (text k) (codes ": ") (text v)) in
    let both : held_texts x ≡ entry_texts (k, v) = λ i. (first i, whole i) in
    ap (map held_texts) pushed ∙ (map_push held_texts items x ∙ (ap (λ (l : List (List ℕ × List ℕ)). l ++ held_texts x ∷ []) h ∙ (ap (λ (y : List ℕ × List ℕ). map entry_texts es ++ y ∷ []) both ∙ sym (map_push entry_texts es (k, v)))))

-- the merged entries' texts are those of the merged values
merged_texts : (items : List Held) (es : List (Value × Value)) → map held_texts items ≡ map entry_texts es → map text_of (merge_by_text (map keyed items)) ≡ map one_entry (merge same_texts es)
merged_texts items es e =
    let merged = merge same_text (map keyed items) in
    map_map text_of unkeyed merged
    ∙ (sym (map_map second keyed_text merged)
    ∙ (ap (map second) (sym (merge_paired (λ k. Unit {0}) key_of string_bytes same_text bytes_eq (λ a b p q. refl) (map keyed items) (no_premise (map keyed items))))
    ∙ (ap (λ (l : List (List ℕ × List ℕ)). map second (merge bytes_eq l)) (map_map keyed_text keyed items ∙ (e ∙ sym (map_map with_key both_texts es)))
    ∙ (ap (map second) (merge_with_key (map both_texts es))
    ∙ (map_map second with_key (merge bytes_eq (map both_texts es))
    ∙ (ap (map whole_entry) (merge_paired (λ v. Unit {0}) text text same_texts bytes_eq (λ a b p q. refl) es (no_premise es))
    ∙ map_map whole_entry both_texts (merge same_texts es)))))))

pub map_text : (all : List (Leaf × Value)) (es : List (Value × Value)) (items : List Held) (merged : List (Unit {0} × String Global)) → leaf_entries all ≡ es → IsWellFormed (value.map (entries all)) → map held_texts items ≡ map entry_texts es → merged ≡ merge_by_text (map keyed items)
    → text (value.map (entries all)) ≡ in_braces (joined (map text_of merged))
map_text all es items merged are formed shown is =
    let v = value.map (entries all) in
    (map_is (λ (x : Value). x) v es refl formed (same_pairs es ∙ (sym are ∙ ap leaf_entries (sym (entries_back all)))) (merge same_texts es) refl).text_is
    ∙ ap (λ (l : List (List ℕ)). in_braces (joined l)) (sym (ap (map text_of) is ∙ merged_texts items es shown))
