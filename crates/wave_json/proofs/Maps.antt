-- The tokens of a map, by the entries that are left after merging by the texts of the keys.
use Rattle.std.proofs.Common.{◌≡◌, ℕ, ◌<◌, ◌≤◌, Bool, List, [], ◌∷◌, ◌++◌, refl, sym, ap, ◌∙◌, append_assoc, map, subst, arith}
use Rattle.std.specs.List.{flat_map, list_all}
use Rattle.std.specs.Str.{bytes_eq}
use Rattle.json.specs.Token.{Token}
use Rattle.json.specs.Tree.{json_tokens, items_tokens, members_tokens}
use Rattle.wave_wasm.specs.declared.wasm.WasmTypeKind.TheVariants as kinds
use Rattle.wave_wasm.specs.ConstructorContracts.{leaf_entries}
use Rattle.wave_wasm.specs.HasType.{IsLeafOf}
use Rattle.wave_wasm.specs.Lists.{AllOf}
use Rattle.wave_wasm.specs.Merge.{merged, merged_entries, merge, leaf_eq}
use Rattle.wave_wasm.specs.Text.{text, has_text}
use Rattle.wave_wasm.specs.Types as type
use Rattle.wave_wasm.specs.Types.{Simple, simple_kind}
use Rattle.wave_wasm.specs.Values as value
use Rattle.wave_wasm.specs.Values.{Leaf, Value, Entries, no_entries, entry, entries, entry_list, map_entries, kind_of, depth, leaf_type, AreOfOneKind, IsWellFormed, AreWellFormedEntries}
use Rattle.wave_wasm.proofs.CanonicalText.Sequences.{depths}
use Rattle.wave_wasm.proofs.CanonicalText.ValueParts.{not_leaf, all_map}
use Rattle.wave_wasm.proofs.Merging.KeyTexts.{leaf_tests}
use Rattle.wave_writer.proofs.CanonicalText.Maps.{map_is, same_texts}
use Rattle.wave_writer.proofs.Merging.Congruence.{paired, merge_paired, keys_keep}
use Rattle.wave_json.specs.Mapping.{key_name, map_json, entry_members, entry_items}
use Rattle.wave_json.specs.Private.Writers.{BeginsNamed, BeginsUnnamed, IsLeaf, array_tokens, object_tokens, value_tokens, member_tokens, entry_tokens, has_entry, string_of}

-- ---- the keys of a well formed map are of one type

keys_of_type : (S : Simple) (es : Entries) → AreWellFormedEntries es → AllOf (λ other. leaf_type other.0 ≡ S) (entry_list es) → AllOf (λ e. IsLeafOf S e.0) (entry_list es)
keys_of_type S no_entries formed h = tt
keys_of_type S (entry key v more) formed h = ((h.0, formed.0), keys_of_type S more formed.2 h.1)

one_type : (es : Entries) → AreOfOneKind (entry_list es) → AreWellFormedEntries es → (S : Simple) × AllOf (λ e. IsLeafOf S e.0) (entry_list es)
one_type no_entries kind formed = (type.bool, tt)
one_type (entry key v more) kind formed = (leaf_type key, ((refl, formed.0), keys_of_type (leaf_type key) more formed.2 kind))

-- ---- merged entries

merged_pairs : (es : Entries) → merged_entries es ≡ paired (λ key. key) merged (entry_list es)
merged_pairs no_entries = refl
merged_pairs (entry key v more) = ap (λ l. (key, merged v) ∷ l) (merged_pairs more)

no_premise : (es : List (Leaf × Value)) → AllOf (λ e. Unit {0}) es
no_premise [] = tt
no_premise (e ∷ es) = (tt, no_premise es)

merged_list : (es : Entries) → merge leaf_eq (merged_entries es) ≡ paired (λ key. key) merged (merge leaf_eq (entry_list es))
merged_list es = ap (merge leaf_eq) (merged_pairs es) ∙ merge_paired (λ key. Unit {0}) (λ key. key) merged leaf_eq leaf_eq (λ a b p q. refl) (entry_list es) (no_premise (entry_list es))

-- the entries of a map whose values are merged
abbrev of_left : List (Leaf × Value) → Entries
of_left left = entries (paired (λ key. key) merged left)

-- ---- tokens

name_is : (key : Leaf) → key_name key ≡ string_of (value.leaf key)
name_is (value.bool b) = refl
name_is (value.whole kind z) = refl
name_is (value.char c) = refl
name_is (value.string s) = refl

members_flat : (left : List (Leaf × Value)) → members_tokens (entry_members (of_left left)) ≡ flat_map member_tokens (leaf_entries left) ++ Token.end_object ∷ []
members_flat [] = refl
members_flat (e ∷ es) =
    ap (λ (k : List ℕ). Token.key k ∷ (value_tokens e.1 ++ members_tokens (entry_members (of_left es)))) (name_is e.0)
    ∙ (ap (λ (z : List Token). Token.key (string_of (value.leaf e.0)) ∷ (value_tokens e.1 ++ z)) (members_flat es)
    ∙ ap (λ (z : List Token). Token.key (string_of (value.leaf e.0)) ∷ z) (sym (append_assoc (value_tokens e.1) (flat_map member_tokens (leaf_entries es)) (Token.end_object ∷ []))))

one_pair : (a b rest : List Token) → Token.begin_array ∷ ((a ++ (b ++ Token.end_array ∷ [])) ++ rest) ≡ array_tokens (a ++ b) ++ rest
one_pair a b rest = ap (λ (z : List Token). Token.begin_array ∷ (z ++ rest)) (sym (append_assoc a b (Token.end_array ∷ [])))

pairs_flat : (left : List (Leaf × Value)) → items_tokens (entry_items (of_left left)) ≡ flat_map entry_tokens (leaf_entries left) ++ Token.end_array ∷ []
pairs_flat [] = refl
pairs_flat (e ∷ es) =
    one_pair (value_tokens (value.leaf e.0)) (value_tokens e.1) (items_tokens (entry_items (of_left es)))
    ∙ (ap (λ (z : List Token). entry_tokens (value.leaf e.0, e.1) ++ z) (pairs_flat es)
    ∙ sym (append_assoc (entry_tokens (value.leaf e.0, e.1)) (flat_map entry_tokens (leaf_entries es)) (Token.end_array ∷ [])))

only_string : (S : Simple) → simple_kind S ≡ kinds.String → S ≡ type.string
only_string type.bool e = absurd (cc)
only_string (type.whole type.s8) e = absurd (cc)
only_string (type.whole type.s16) e = absurd (cc)
only_string (type.whole type.s32) e = absurd (cc)
only_string (type.whole type.s64) e = absurd (cc)
only_string (type.whole type.u8) e = absurd (cc)
only_string (type.whole type.u16) e = absurd (cc)
only_string (type.whole type.u32) e = absurd (cc)
only_string (type.whole type.u64) e = absurd (cc)
only_string type.char e = absurd (cc)
only_string type.string e = refl

object_is : (left : List (Leaf × Value)) → BeginsNamed (leaf_entries left) → json_tokens (map_json (of_left left)) ≡ object_tokens (flat_map member_tokens (leaf_entries left))
object_is [] h = refl
object_is ((value.string s, v) ∷ es) h = ap (λ (z : List Token). Token.begin_object ∷ z) (members_flat ((value.string s, v) ∷ es))
object_is ((value.bool b, v) ∷ es) h = absurd (cc)
object_is ((value.char c, v) ∷ es) h = absurd (cc)
object_is ((value.whole kind z, v) ∷ es) h = absurd (no_string (only_string (type.whole kind) h))
  where
    no_string : type.whole kind ≡ type.string → ⊥
    no_string e = cc

array_is : (left : List (Leaf × Value)) → BeginsUnnamed (leaf_entries left) → json_tokens (map_json (of_left left)) ≡ array_tokens (flat_map entry_tokens (leaf_entries left))
array_is [] h = absurd h
array_is ((value.string s, v) ∷ es) h = absurd (h refl)
array_is ((value.bool b, v) ∷ es) h = ap (λ (z : List Token). Token.begin_array ∷ z) (pairs_flat ((value.bool b, v) ∷ es))
array_is ((value.char c, v) ∷ es) h = ap (λ (z : List Token). Token.begin_array ∷ z) (pairs_flat ((value.char c, v) ∷ es))
array_is ((value.whole kind z, v) ∷ es) h = ap (λ (z : List Token). Token.begin_array ∷ z) (pairs_flat ((value.whole kind z, v) ∷ es))

keys_strings : (left : List (Leaf × Value)) (S : Simple) → AllOf (λ e. leaf_type e.0 ≡ S) left → BeginsNamed (leaf_entries left) → AllOf (λ e. kind_of e.0 ≡ kinds.String) (leaf_entries left)
keys_strings [] S h first = tt
keys_strings (e ∷ es) S h first = all (e ∷ es) h
  where
    is : simple_kind S ≡ kinds.String
    is = ap simple_kind (sym h.0) ∙ first

    all : (l : List (Leaf × Value)) → AllOf (λ x. leaf_type x.0 ≡ S) l → AllOf (λ x. kind_of x.0 ≡ kinds.String) (leaf_entries l)
    all [] h = tt
    all (x ∷ xs) h = (ap simple_kind h.0 ∙ is, all xs h.1)

leaves : (left : List (Leaf × Value)) → AllOf (λ e. IsLeaf e.0) (leaf_entries left)
leaves [] = tt
leaves (e ∷ es) = ((e.0, refl), leaves es)

types_of_keys : (S : Simple) (es : List (Leaf × Value)) → AllOf (λ e. IsLeafOf S e.0) es → AllOf (λ e. leaf_type e.0 ≡ S) es
types_of_keys S [] h = tt
types_of_keys S (e ∷ es) h = (h.0.0, types_of_keys S es h.1)

depths_below : {X Y : Type 0} (d : Y → ℕ) (f : X → Y) (n : ℕ) (xs : List X) → AllOf (λ x. d (f x) < n) xs → 1 ≤ n → depths d (map f xs) < n
depths_below d f n [] h some = omega arith
depths_below d f n (x ∷ xs) h some = let more = depths_below d f n xs h.1 some in omega (arith, h.0, more)

-- what holds of the images holds through them
pub all_below : {A B : Type 0} (P : B → Type 0) (f : A → B) (xs : List A) → AllOf P (map f xs) → AllOf (λ x. P (f x)) xs
all_below P f [] h = tt
all_below P f (x ∷ xs) h = (h.0, all_below P f xs h.1)

module _ {X : Type 0} (f : X → Value) where
  -- the value is a map, of which these entries are left
  pub record IsMapOf (v : Value) (es : List (Value × Value)) : Type 0 where
    pub named : BeginsNamed es → value_tokens v ≡ object_tokens (flat_map member_tokens es)
    pub unnamed : BeginsUnnamed es → value_tokens v ≡ array_tokens (flat_map entry_tokens es)
    pub strings : BeginsNamed es → AllOf (λ e. kind_of e.0 ≡ kinds.String) es
    pub keys : AllOf (λ e. IsLeaf e.0) es
    pub has_is : has_text v ≡ list_all has_entry es
    pub below : depths (λ (e : Value × Value). depth e.1) es < depth v

  nothing_asked : (es : List (X × X)) → AllOf (λ e. Unit {0}) es
  nothing_asked [] = tt
  nothing_asked (e ∷ es) = (tt, nothing_asked es)

  -- merging by texts and merging by values leave the same
  denoted_merged : (S : Simple) (all : List (Leaf × Value)) → AllOf (λ e. IsLeafOf S e.0) all → (es : List (X × X)) → paired f f es ≡ leaf_entries all → paired f f (merge (same_texts f) es) ≡ leaf_entries (merge leaf_eq all)
  denoted_merged S all h es e =
      sym (merge_paired (λ x. Unit {0}) f f (same_texts f) (λ a b. bytes_eq (text a) (text b)) (λ a b p q. refl) es (nothing_asked es)) ∙ (ap (merge (λ a b. bytes_eq (text a) (text b))) e ∙ merge_paired (IsLeafOf S) (λ one. value.leaf one) (λ v. v) leaf_eq (λ a b. bytes_eq (text a) (text b)) (leaf_tests S) all h)

  map_of : (all : Entries) (S : Simple) → AllOf (λ e. IsLeafOf S e.0) (entry_list all) → (xs : List (X × X)) → paired f f xs ≡ leaf_entries (merge leaf_eq (entry_list all))
      → has_text (value.map all) ≡ list_all (λ e. has_text (f e.1)) xs → AllOf (λ e. depth (f e.1) < depth (value.map all)) xs → IsMapOf (value.map all) (paired f f xs)
  map_of all S h xs same has deep =
      let left = merge leaf_eq (entry_list all) in
      let is = ap (λ l. json_tokens (map_json (entries l))) (merged_list all) in
      let ok : Value × Value → Bool = has_entry in
      let ff : X × X → Value × Value = λ e. (f e.0, f e.1) in
      record {
        named = λ b. is ∙ (object_is left (subst BeginsNamed same b) ∙ ap (λ l. object_tokens (flat_map member_tokens l)) (sym same));
        unnamed = λ b. is ∙ (array_is left (subst BeginsUnnamed same b) ∙ ap (λ l. array_tokens (flat_map entry_tokens l)) (sym same));
        strings = λ b. subst (AllOf (λ e. kind_of e.0 ≡ kinds.String)) (sym same) (keys_strings left S (keys_keep (λ k. leaf_type k ≡ S) leaf_eq (entry_list all) (types_of_keys S (entry_list all) h)) (subst BeginsNamed same b));
        keys = subst (AllOf (λ e. IsLeaf e.0)) (sym same) (leaves left);
        has_is = has ∙ sym (all_map ok ff xs);
        below = depths_below (λ (e : Value × Value). depth e.1) ff (depth (value.map all)) xs deep (omega arith);
      }

  pub map_is_of : (v : Value) (es : List (X × X)) → kind_of v ≡ kinds.Map → IsWellFormed v → paired f f es ≡ leaf_entries (map_entries v) → (xs : List (X × X)) → xs ≡ merge (same_texts f) es → IsMapOf v (paired f f xs)
  map_is_of (value.map all) es k formed e xs left =
      let t = one_type all formed.0 formed.1 in
      let s = map_is f (value.map all) es k formed e xs left in
      map_of all t.0 t.1 xs (ap (paired f f) left ∙ denoted_merged t.0 (entry_list all) t.1 es e) s.writable_is s.depths_are
  map_is_of (value.leaf one) es k formed e xs left = absurd (not_leaf one kinds.Map refl k)
  map_is_of (value.unreadable type.f32) es k formed e xs left = absurd (cc)
  map_is_of (value.unreadable type.f64) es k formed e xs left = absurd (cc)
  map_is_of (value.unreadable type.unsupported) es k formed e xs left = absurd (cc)
  map_is_of _ es k formed e xs left = absurd (cc)
