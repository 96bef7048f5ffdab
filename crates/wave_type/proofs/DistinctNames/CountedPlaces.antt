-- Names are distinct exactly where as many of them stand at a first place.
use Rattle.std.proofs.Common.{◌≡◌, ℕ, Bool, true, false, List, [], ◌∷◌, map, length, String, string_bytes, refl, sym, ap, ◌∙◌, arith, ◌↔◌, IsTrue, nat_eq}
use Rattle.std.specs.declared.alloc.Global.{Global}
use Rattle.std.specs.BTreeMap.{BTreeMap, IsOrdered, keys, btree_map_len}
use Rattle.std.specs.Cmp.{IsEquivalence}
use Rattle.std.specs.Cmp.Lexicographic.{slice_cmp}
use Rattle.std.specs.List.{AllByRecursion, IsDistinct, list_any}
use Rattle.std.specs.Option.{is_some}
use Rattle.std.specs.Ordering.{eq_by_cmp, is_eq, nat_cmp}
use Rattle.std.specs.Set.{distinct_count}
use Rattle.std.specs.Str.{bytes_eq}
use Rattle.std.specs.String.{string_cmp}
use Rattle.std.proofs.lemmas.Bool.Decides.{nat_tests}
use Rattle.std.proofs.lemmas.List.{length-map}
use Rattle.std.proofs.lemmas.Map.Entries.{length-keys_of}
use Rattle.std.proofs.lemmas.Map.Keys.{IsDistinct-cons, IsDistinct-from_apart, IsDistinct-from_sorted, IsDistinct-head, IsDistinct-tail}
use Rattle.std.proofs.lemmas.Map.Made.{IsDistinct-from_count, distinct_count-from_IsDistinct, is_some-lookup, length-from_keys}
use Rattle.std.proofs.lemmas.Map.Text.{is_eq-slice_cmp}
use Rattle.std.proofs.lemmas.Slice.Eq.{bytes_eq-Decides}
use Rattle.wave_wasm.specs.Names.{IsNoneOf, AreDistinct}
use Rattle.wave_wasm.proofs.Names.MappedSearch.{list_any-map}
use Rattle.wave_wasm.proofs.Names.Subsequences.{same_bytes, unlike}
use Rattle.wave_type.specs.Private.NameIndex.{AreFirstPlaces}
use Rattle.wave_type.proofs.DistinctNames.FoundPlaces.{is_some-position}

by_bytes : IsEquivalence bytes_eq
by_bytes = record { refl = same_bytes; symm = turned; congr = λ x y z e. ap (λ w. bytes_eq w z) ((bytes_eq-Decides x y).0 e) }
  where
    turned : (x y : List ℕ) → bytes_eq x y ≡ bytes_eq y x
    turned x y = by (bytes_eq x y) (bytes_eq y x) refl refl
      where
        by : (a b : Bool) → bytes_eq x y ≡ a → bytes_eq y x ≡ b → a ≡ b
        by true true e f = refl
        by true false e f = sym ((bytes_eq-Decides y x).1 (sym ((bytes_eq-Decides x y).0 e))) ∙ f
        by false true e f = sym e ∙ (bytes_eq-Decides x y).1 (sym ((bytes_eq-Decides y x).0 f))
        by false false e f = refl

-- ---- distinct by their bytes

none_from : (name : List ℕ) (more : List (List ℕ)) → AllByRecursion (λ other. bytes_eq name other ≡ false) more → IsNoneOf more name
none_from name [] h = tt
none_from name (other ∷ more) h = ((λ e. let same : bytes_eq name other ≡ true = (bytes_eq-Decides name other).1 e in let no : true ≡ false = sym same ∙ h.0 in absurd (cc)), none_from name more h.1)

apart_from : (name : List ℕ) (more : List (List ℕ)) → IsNoneOf more name → AllByRecursion (λ other. bytes_eq name other ≡ false) more
apart_from name [] h = tt
apart_from name (other ∷ more) h = (unlike name other h.0, apart_from name more h.1)

distinct_names : (names : List (List ℕ)) → IsDistinct bytes_eq names → AreDistinct names
distinct_names [] h = tt
distinct_names (name ∷ more) h = (none_from name more (IsDistinct-head bytes_eq name more h), distinct_names more (IsDistinct-tail bytes_eq name more h))

distinct_bytes : (names : List (List ℕ)) → AreDistinct names → IsDistinct bytes_eq names
distinct_bytes [] h = IsDistinct-from_apart bytes_eq [] (λ i j d above below. absurd (omega arith))
distinct_bytes (name ∷ more) h = IsDistinct-cons bytes_eq name more (apart_from name more h.0) (distinct_bytes more h.1)

apart_texts : (k : String Global) (ks : List (String Global)) → AllByRecursion (λ other. eq_by_cmp string_cmp k other ≡ false) ks → AllByRecursion (λ other. bytes_eq (string_bytes k) other ≡ false) (map string_bytes ks)
apart_texts k [] h = tt
apart_texts k (other ∷ ks) h = (sym (is_eq-slice_cmp (string_bytes k) (string_bytes other)) ∙ h.0, apart_texts k ks h.1)

distinct_texts : (ks : List (String Global)) → IsDistinct (eq_by_cmp string_cmp) ks → IsDistinct bytes_eq (map string_bytes ks)
distinct_texts [] h = distinct_bytes [] tt
distinct_texts (k ∷ ks) h = IsDistinct-cons bytes_eq (string_bytes k) (map string_bytes ks) (apart_texts k ks (IsDistinct-head (eq_by_cmp string_cmp) k ks h)) (distinct_texts ks (IsDistinct-tail (eq_by_cmp string_cmp) k ks h))

-- ---- an index of first places

-- the order of keys ties the text and the key
abbrev ties : List ℕ → String Global → Bool
ties q k = is_eq (slice_cmp nat_cmp q (string_bytes k))

-- the key has the bytes of the text
abbrev spells : List ℕ → String Global → Bool
spells q k = bytes_eq q (string_bytes k)

module _ (places : BTreeMap (String Global) ℕ) (names : List (List ℕ)) (first : AreFirstPlaces places names) (ordered : IsOrdered string_cmp places) where
  members : (q : List ℕ) → list_any (bytes_eq q) (map string_bytes (keys places)) ≡ list_any (bytes_eq q) names
  members q =
      list_any-map (bytes_eq q) string_bytes (keys places)
      ∙ (ap (λ (test : String Global → Bool). list_any test (keys places)) (sym tests)
      ∙ (sym (is_some-lookup (ties q) places.entries)
      ∙ (ap is_some (first q) ∙ is_some-position (bytes_eq q) names)))
    where
      tests : ties q ≡ spells q
      tests = λ i k. is_eq-slice_cmp q (string_bytes k) i

  counted : btree_map_len places ≡ distinct_count bytes_eq names
  counted =
      sym (length-map (keys places) string_bytes ∙ length-keys_of places.entries)
      ∙ length-from_keys by_bytes (map string_bytes (keys places)) names (distinct_texts (keys places) (IsDistinct-from_sorted string_cmp (keys places) ordered)) members

  -- whether there are as many tells whether they are distinct
  pub tells_distinct : (n k : ℕ) → n ≡ length names → k ≡ btree_map_len places → IsTrue (nat_eq n k) ↔ AreDistinct names
  tells_distinct n k names_are places_are = (forth, back)
    where
      forth : IsTrue (nat_eq n k) → AreDistinct names
      forth t =
          let same : n ≡ k = grind (arith, nat_tests) in
          distinct_names names (IsDistinct-from_count by_bytes names (sym counted ∙ (sym places_are ∙ (sym same ∙ names_are))))

      back : AreDistinct names → IsTrue (nat_eq n k)
      back h =
          let same : n ≡ k = names_are ∙ (sym (counted ∙ distinct_count-from_IsDistinct by_bytes names (distinct_bytes names h)) ∙ sym places_are) in
          grind (arith, nat_tests)
