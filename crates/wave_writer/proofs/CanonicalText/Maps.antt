-- The text, the depth and the writability of a map, by the entries that are left after merging by the texts of the keys.
use Rattle.std.proofs.Common.{ℕ, suc, ◌≡◌, ◌<◌, ◌≤◌, ◌+◌, List, [], ◌∷◌, ◌++◌, Bool, true, ◌&&◌, refl, sym, ap, ◌∙◌, length, get_or, drop, map, arith, codes, append_assoc, subst}
use Rattle.std.specs.List.{list_all}
use Rattle.std.specs.Str.{bytes_eq}
use Rattle.wave_wasm.specs.declared.wasm.WasmTypeKind.TheVariants as kinds
use Rattle.wave_wasm.specs.Lists.{AllOf}
use Rattle.wave_wasm.specs.Types as type
use Rattle.wave_wasm.specs.Types.{Simple}
use Rattle.wave_wasm.specs.Values as value
use Rattle.wave_wasm.specs.Values.{Leaf, Value, Entries, no_entries, entry, entries, entry_list, map_entries, kind_of, leaf_type, IsSound, AreOfOneKind, IsWellFormed, AreWellFormedEntries}
use Rattle.wave_wasm.specs.Values.{depth, depth_of_entries}
use Rattle.wave_writer.specs.Private.Values.{IsLeaf}
use Rattle.wave_wasm.specs.HasType.{IsLeafOf}
use Rattle.wave_wasm.specs.ConstructorContracts.{leaf_entries}
use Rattle.wave_wasm.specs.Commas.{enclosed, behind_name}
use Rattle.wave_wasm.specs.CommaParts.{comma_if}
use Rattle.wave_wasm.specs.Merge.{merged, merged_entries, merge, leaf_eq}
use Rattle.wave_wasm.specs.Text.{text, has_text, leaf_text, printed_entries, are_writable_entries}
use Rattle.wave_writer.specs.WriterState.{Output}
use Rattle.wave_wasm.proofs.Merging.KeyTexts.{leaf_tests}
use Rattle.wave_writer.proofs.Merging.Congruence.{paired, merge_paired, values_keep}
use Rattle.wave_wasm.proofs.CanonicalText.Sequences.{parted}
use Rattle.wave_writer.proofs.CanonicalText.WrittenSequences.{writing_item}
use Rattle.wave_wasm.proofs.CanonicalText.ValueParts.{not_leaf, map_map, all_map}
use Rattle.wave_writer.proofs.CanonicalText.WrittenParts.{Writing, writing_as}

-- ---- the keys of a well formed map are of one type

keys_of_type : (S : Simple) (es : Entries) → AreWellFormedEntries es → AllOf (λ other. leaf_type other.0 ≡ S) (entry_list es) → AllOf (λ e. IsLeafOf S e.0) (entry_list es)
keys_of_type S no_entries formed h = tt
keys_of_type S (entry key v more) formed h = ((h.0, formed.0), keys_of_type S more formed.2 h.1)

one_type : (es : Entries) → AreOfOneKind (entry_list es) → AreWellFormedEntries es → (S : Simple) × AllOf (λ e. IsLeafOf S e.0) (entry_list es)
one_type no_entries kind formed = (type.bool, tt)
one_type (entry key v more) kind formed = (leaf_type key, ((refl, formed.0), keys_of_type (leaf_type key) more formed.2 kind))

-- ---- the text of a map by its merged entries

merged_pairs : (es : Entries) → merged_entries es ≡ paired (λ key. key) merged (entry_list es)
merged_pairs no_entries = refl
merged_pairs (entry key v more) = ap (λ l. (key, merged v) ∷ l) (merged_pairs more)

no_premise : (es : List (Leaf × Value)) → AllOf (λ e. Unit {0}) es
no_premise [] = tt
no_premise (e ∷ es) = (tt, no_premise es)

merged_list : (es : Entries) → merge leaf_eq (merged_entries es) ≡ paired (λ key. key) merged (merge leaf_eq (entry_list es))
merged_list es = ap (merge leaf_eq) (merged_pairs es) ∙ merge_paired (λ key. Unit {0}) (λ key. key) merged leaf_eq leaf_eq (λ a b p q. refl) (entry_list es) (no_premise (entry_list es))

entries_texts : (es : List (Leaf × Value)) → printed_entries (entries (paired (λ key. key) merged es)) ≡ map (λ e. behind_name (leaf_text e.0) (text e.1)) es
entries_texts [] = refl
entries_texts (e ∷ es) = ap (λ l. behind_name (leaf_text e.0) (text e.1) ∷ l) (entries_texts es)

entries_writable : (es : List (Leaf × Value)) → are_writable_entries (entries (paired (λ key. key) merged es)) ≡ list_all (λ (e : Leaf × Value). has_text e.1) es
entries_writable [] = refl
entries_writable (e ∷ es) = ap (λ b. has_text e.1 && b) (entries_writable es)

entries_depths : (n : ℕ) (es : Entries) → depth_of_entries es ≤ n → AllOf (λ e. depth e.1 < suc n) (entry_list es)
entries_depths n no_entries h = tt
entries_depths n (entry key v more) h = (omega arith, entries_depths n more (omega arith))

-- ---- the same by the entries that are denoted

all_below : {A B : Type 0} (P : B → Type 0) (f : A → B) (xs : List A) → AllOf P (map f xs) → AllOf (λ x. P (f x)) xs
all_below P f [] h = tt
all_below P f (x ∷ xs) h = (h.0, all_below P f xs h.1)

all_above : {A B : Type 0} (P : B → Type 0) (f : A → B) (xs : List A) → AllOf (λ x. P (f x)) xs → AllOf P (map f xs)
all_above P f [] h = tt
all_above P f (x ∷ xs) h = (h.0, all_above P f xs h.1)

leaves_are_leaves : (es : List (Leaf × Value)) → AllOf (λ e. IsLeaf e.0) (leaf_entries es)
leaves_are_leaves [] = tt
leaves_are_leaves (e ∷ es) = ((e.0, refl), leaves_are_leaves es)

module _ {X : Type 0} (f : X → Value) where
  -- the test of the denoted keys' texts
  abbrev pub same_texts : X → X → Bool
  same_texts a b = bytes_eq (text (f a)) (text (f b))

  nothing_asked : (es : List (X × X)) → AllOf (λ e. Unit {0}) es
  nothing_asked [] = tt
  nothing_asked (e ∷ es) = (tt, nothing_asked es)

  -- the denoted keys are leaves
  pub keys_are_leaves : (v : Value) (es : List (X × X)) → paired f f es ≡ leaf_entries (map_entries v) → AllOf (λ e. IsLeaf (f e.0)) es
  keys_are_leaves v es e = all_below (λ e. IsLeaf e.0) (λ e. (f e.0, f e.1)) es (subst (AllOf (λ e. IsLeaf e.0)) (sym e) (leaves_are_leaves (map_entries v)))

  -- merging by texts and merging by values leave the same
  denoted_merged : (S : Simple) (all : List (Leaf × Value)) → AllOf (λ e. IsLeafOf S e.0) all → (es : List (X × X)) → paired f f es ≡ leaf_entries all → paired f f (merge same_texts es) ≡ leaf_entries (merge leaf_eq all)
  denoted_merged S all h es e =
      sym (merge_paired (λ x. Unit {0}) f f same_texts (λ a b. bytes_eq (text a) (text b)) (λ a b p q. refl) es (nothing_asked es)) ∙ (ap (merge (λ a b. bytes_eq (text a) (text b))) e ∙ merge_paired (IsLeafOf S) (λ one. value.leaf one) (λ v. v) leaf_eq (λ a b. bytes_eq (text a) (text b)) (leaf_tests S) all h)

  -- the value is a map, of which these entries are left
  pub record IsMap (v : Value) (xs : List (X × X)) : Type 0 where
    pub text_is : text v ≡ enclosed (codes "{") (map (λ e. behind_name (text (f e.0)) (text (f e.1))) xs) (codes "}")
    pub writable_is : has_text v ≡ list_all (λ e. has_text (f e.1)) xs
    pub depths_are : AllOf (λ e. depth (f e.1) < depth v) xs

  map_of : (es : Entries) (xs : List (X × X)) → paired f f xs ≡ leaf_entries (merge leaf_eq (entry_list es)) → IsMap (value.map es) xs
  map_of es xs same =
      let left = merge leaf_eq (entry_list es) in
      let one : Value × Value → List ℕ = λ p. behind_name (text p.0) (text p.1) in
      let ok : Value × Value → Bool = λ p. has_text p.1 in
      let ff : X × X → Value × Value = λ e. (f e.0, f e.1) in
      let lf : Leaf × Value → Value × Value = λ e. (value.leaf e.0, e.1) in
      record {
        text_is = ap (λ z. enclosed (codes "{") z (codes "}")) (ap (λ l. printed_entries (entries l)) (merged_list es) ∙ (entries_texts left ∙ (sym (map_map one lf left) ∙ (ap (map one) (sym same) ∙ map_map one ff xs))));
        writable_is = ap (λ l. are_writable_entries (entries l)) (merged_list es) ∙ (entries_writable left ∙ (sym (all_map ok lf left) ∙ (ap (list_all ok) (sym same) ∙ all_map ok ff xs)));
        depths_are = all_below (λ p. depth p.1 < depth (value.map es)) ff xs (subst (AllOf (λ p. depth p.1 < depth (value.map es))) (sym same) (all_above (λ p. depth p.1 < depth (value.map es)) lf left (values_keep (λ v. depth v < depth (value.map es)) leaf_eq (entry_list es) (entries_depths (depth_of_entries es) es (omega arith)))));
      }

  -- the facts of a map that the writer needs
  pub map_is : (v : Value) (es : List (X × X)) → kind_of v ≡ kinds.Map → IsWellFormed v → paired f f es ≡ leaf_entries (map_entries v) → (xs : List (X × X)) → xs ≡ merge same_texts es → IsMap v xs
  map_is (value.map all) es k formed e xs left =
      let t = one_type all formed.0 formed.1 in
      map_of all xs (ap (paired f f) left ∙ denoted_merged t.0 (entry_list all) t.1 es e)
  map_is (value.leaf one) es k formed e xs left = absurd (not_leaf one kinds.Map refl k)
  map_is (value.unreadable type.f32) es k formed e xs left = absurd (cc)
  map_is (value.unreadable type.f64) es k formed e xs left = absurd (cc)
  map_is (value.unreadable type.unsupported) es k formed e xs left = absurd (cc)
  map_is _ es k formed e xs left = absurd (cc)

-- what is left to write begins with the next entry
pub writing_entry : {Y : Type 0} (key value : Y → List ℕ) (xs : List Y) (i : ℕ) (x : Y) {whole : List ℕ} (later : Bool) (close key_part : List ℕ) {old now : Output} → i < length xs → x ≡ get_or xs i x → key_part ≡ key x → Writing whole (parted later (map (λ e. behind_name (key e) (value e)) (drop i xs)) ++ close) old now → Writing whole (comma_if later ++ (key_part ++ (codes ": " ++ (value x ++ (parted true (map (λ e. behind_name (key e) (value e)) (drop (i + 1) xs)) ++ close))))) old now
writing_entry key value xs i x later close key_part lt is same w =
    let left = parted true (map (λ e. behind_name (key e) (value e)) (drop (i + 1) xs)) ++ close in
    writing_as (ap (λ s. comma_if later ++ s) (append_assoc (key x) (codes ": " ++ value x) left ∙ (ap (λ s. key x ++ s) (append_assoc (codes ": ") (value x) left) ∙ ap (λ s. s ++ (codes ": " ++ (value x ++ left))) (sym same)))) (writing_item (λ e. behind_name (key e) (value e)) xs i x later close lt is w)
