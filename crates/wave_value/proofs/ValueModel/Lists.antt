-- The families of a value and their lists give each other back.
use Rattle.std.proofs.Common.{◌≡◌, ℕ, ◌<◌, ◌≤◌, inl, inr, subst, List, [], ◌∷◌, ◌++◌, Option, Some, None, refl, sym, ap, ◌∙◌, ◌+◌, zero, suc, map, length, take, get_or, arith}
use Rattle.std.proofs.Math.Numerals.{add-one}
use Rattle.std.proofs.lemmas.List.{take_all}
use Rattle.wave_wasm.specs.Lists.{AllOf, SomeOf}
use Rattle.wave_wasm.specs.Types as type
use Rattle.wave_wasm.specs.Types.{TypeTree, Simple}
use Rattle.wave_wasm.specs.ConstructorContracts.{leaf_entries}
use Rattle.wave_value.specs.TypedValue.{TypedValue, IsAt}
use Rattle.wave_value.specs.ValueModel.{trees, beside}
use Rattle.wave_value.specs.Private.ValueModel.{key_of, entry_trees, EntriesAt, MapFits}
use Rattle.wave_wasm.specs.Values as value
use Rattle.wave_wasm.specs.Values.{Leaf, Value, values, value_list, field_values, field_list, entries, entry_list, maybe_value, value_option}

pub value_list-values : (vs : List Value) → value_list (values vs) ≡ vs
value_list-values [] = refl
value_list-values (v ∷ vs) = ap (λ ws. v ∷ ws) (value_list-values vs)

pub field_list-field_values : (fs : List (List ℕ × Value)) → field_list (field_values fs) ≡ fs
field_list-field_values [] = refl
field_list-field_values (f ∷ fs) = ap (λ gs. f ∷ gs) (field_list-field_values fs)

pub entry_list-entries : (es : List (Leaf × Value)) → entry_list (entries es) ≡ es
entry_list-entries [] = refl
entry_list-entries (e ∷ es) = ap (λ ds. e ∷ ds) (entry_list-entries es)

pub value_option-maybe_value : (o : Option Value) → value_option (maybe_value o) ≡ o
value_option-maybe_value None = refl
value_option-maybe_value (Some v) = refl

pub ruleset value_families = (value_list-values, field_list-field_values, entry_list-entries, value_option-maybe_value)

key_back : (K : Simple) (v : TypedValue) → IsAt (type.simple K) v → value.leaf (key_of v.tree) ≡ v.tree
key_back K v h = let (one, _, is) = h.fits in ap (λ w. value.leaf (key_of w)) is ∙ sym is

entries_back : (K : Simple) (V : TypeTree) (es : List (TypedValue × TypedValue)) → EntriesAt (type.simple K) V es → map (λ e. (e.0.tree, e.1.tree)) es ≡ leaf_entries (entry_list (entries (entry_trees es)))
entries_back K V [] h = refl
entries_back K V (e ∷ es) h = λ i. (sym (key_back K e.0 h.0.0) i, e.1.tree) ∷ entries_back K V es h.1 i

-- the entries of a map that fits, with their keys as values
pub map_back : (T : TypeTree) (es : List (TypedValue × TypedValue)) → MapFits T es → map (λ e. (e.0.tree, e.1.tree)) es ≡ leaf_entries (entry_list (entries (entry_trees es)))
map_back (type.map K V) es h = entries_back K V es h
map_back _ es h = absurd h

-- one more value after its name
beside_next : (names : List (List ℕ)) (vs : List TypedValue) (i : ℕ) (v : TypedValue) → i < length vs → v ≡ get_or vs i v → beside names (trees (take (suc i) vs)) ≡ beside names (trees (take i vs)) ++ (get_or names i [], v.tree) ∷ []
beside_next names [] i v lt is = absurd (omega (arith, lt))
beside_next [] (w ∷ vs) zero v lt is = λ i. ([], (sym is i).tree) ∷ []
beside_next (n ∷ names) (w ∷ vs) zero v lt is = λ i. (n, (sym is i).tree) ∷ []
beside_next [] (w ∷ vs) (suc i) v lt is = ap (λ ps. ([], w.tree) ∷ ps) (beside_next [] vs i v (omega (arith, lt)) is)
beside_next (n ∷ names) (w ∷ vs) (suc i) v lt is = ap (λ ps. (n, w.tree) ∷ ps) (beside_next names vs i v (omega (arith, lt)) is)

pub beside_more : (names : List (List ℕ)) (vs : List TypedValue) (i : ℕ) (v : TypedValue) → i < length vs → v ≡ get_or vs i v → beside names (trees (take (i + 1) vs)) ≡ beside names (trees (take i vs)) ++ (get_or names i [], v.tree) ∷ []
beside_more names vs i v lt is = rw add-one (beside_next names vs i v lt is)

-- one more value after its name, at a turn of a loop
pub fields_turn : (names : List (List ℕ)) (vs : List TypedValue) (i : ℕ) (v : TypedValue) (n : List ℕ) → i < length vs → v ≡ get_or vs i v → n ≡ get_or names i [] → beside names (trees (take i vs)) ++ (n, v.tree) ∷ [] ≡ beside names (trees (take (i + 1) vs))
fields_turn names vs i v n lt is called = ap (λ m. beside names (trees (take i vs)) ++ (m, v.tree) ∷ []) called ∙ sym (beside_more names vs i v lt is)

-- ---- lists, at a turn of a loop

module _ {A : Type 0} (P : A → Type 0) where
  all_next : (xs : List A) (i : ℕ) (x : A) → i < length xs → x ≡ get_or xs i x → P x → AllOf P (take i xs) → AllOf P (take (suc i) xs)
  all_next [] i x lt is p h = absurd (omega (arith, lt))
  all_next (y ∷ ys) zero x lt is p h = (subst P is p, tt)
  all_next (y ∷ ys) (suc i) x lt is p h = (h.0, all_next ys i x (omega (arith, lt)) is p h.1)

  -- it holds of one more item
  pub all_more : (xs : List A) (i : ℕ) (x : A) → i < length xs → x ≡ get_or xs i x → P x → AllOf P (take i xs) → AllOf P (take (i + 1) xs)
  all_more xs i x lt is p h = rw add-one (all_next xs i x lt is p h)

  -- of all items, at the end of the loop
  pub all_items : (xs ys : List A) (i : ℕ) → xs ≡ ys → length xs ≤ i → AllOf P (take i xs) → AllOf P ys
  all_items xs ys i same le h = subst (AllOf P) (take_all i xs le ∙ same) h

-- what holds of an item's image holds of one of the images
pub some_mapped : {A B : Type 0} (f : A → B) (P : B → Type 0) (xs : List A) (i : ℕ) (x : A) → i < length xs → x ≡ get_or xs i x → P (f x) → SomeOf P (map f xs)
some_mapped f P [] i x lt is p = absurd (omega (arith, lt))
some_mapped f P (y ∷ xs) zero x lt is p = inl (subst (λ z. P (f z)) is p)
some_mapped f P (y ∷ xs) (suc i) x lt is p = inr (some_mapped f P xs i x (omega (arith, lt)) is p)
