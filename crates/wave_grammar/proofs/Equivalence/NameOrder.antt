-- The order of names means nothing, nor does the `%` of a name.
use Rattle.std.proofs.Common.{ℕ, ◌≡◌, ◌<◌, inl, inr, Bool, true, false, if◌then◌else◌, List, [], ◌∷◌, map, length, Option, Some, None, refl, sym, ap, ◌∙◌, subst, arith}
use Rattle.std.specs.Str.{bytes_eq}
use Rattle.std.proofs.lemmas.Slice.Eq.{bytes_eq-Decides}
use Rattle.wave_wasm.specs.Lists.{AllOf}
use Rattle.wave_wasm.specs.Names.{IsOneOf, IsNoneOf, AreAllOf, AreDistinct, is_one_of, found_in}
use Rattle.wave_wasm.specs.Types as type
use Rattle.wave_wasm.specs.Types.{Fields, no_fields, field}
use Rattle.wave_wasm.specs.Values as value
use Rattle.wave_wasm.specs.Values.{Value, FieldValues}
use Rattle.wave_grammar.specs.Token as token
use Rattle.wave_grammar.specs.Token.{Token}
use Rattle.wave_grammar.specs.LeafTokens.{name_of}
use Rattle.wave_grammar.specs.Tree.{Tree, TreeEntries, entries, tree_entries, flags}
use Rattle.wave_grammar.specs.TypedGrammar.{look_up, Fills, FieldIs}
use Rattle.wave_grammar.specs.Elaborates.{Meaning, Each, NamedTree, RecordTree, FlagsTree}
use Rattle.wave_grammar.specs.OrderLaws.{Labelled, label_entries, named, label_names, FieldsInAnyOrder, FlagsInAnyOrder}
use Rattle.wave_wasm.proofs.Names.NameTests.{is_one, passes}
use Rattle.wave_grammar.proofs.Fields.Names.{is_found, finds_none}
use Rattle.wave_grammar.proofs.Unambiguity.Values.{one-none, pair-path}
use Rattle.wave_grammar.proofs.Equivalence.ByTree.{tree_means, spelled_means}

-- ---- look-ups

-- a text is itself
itself : (name : List ℕ) → bytes_eq name name ≡ true
itself name = (bytes_eq-Decides name name).1 refl

-- what holds of each that is found by its name holds of all, where the names are distinct
looked : (Q : List ℕ → Tree → Type 0) (fields : Labelled) → AreDistinct (label_names fields) → ((name : List ℕ) (t : Tree) → look_up (named fields) name ≡ Some t → Q name t) → AllOf (λ f. Q (name_of f.0) f.1) fields
looked Q [] distinct found = tt
looked Q (f ∷ fields) distinct found = (
  found (name_of f.0) f.1 (ap (λ (b : Bool). if b then Some f.1 else look_up (named fields) (name_of f.0)) (itself (name_of f.0))),
  looked Q fields distinct.1 (λ name t e. found name t (by name t (bytes_eq name (name_of f.0)) refl e)),
)
  where
    by : (name : List ℕ) (t : Tree) (b : Bool) → bytes_eq name (name_of f.0) ≡ b → look_up (named fields) name ≡ Some t → (if b then Some f.1 else look_up (named fields) name) ≡ Some t
    by name t true is e = absurd (one-none (label_names fields) (name_of f.0) (subst (IsOneOf (label_names fields)) ((bytes_eq-Decides name (name_of f.0)).0 is) (is_found (named fields) name t e)) distinct.0)
    by name t false is e = e

-- ---- records

module _ (Inner : List ℕ → Meaning Tree Value) where
  -- the value of a field that is found
  value_found : (fields : Labelled) (found : List (List ℕ × Value)) (name : List ℕ) (t : Tree) → Each (NamedTree Inner) (label_entries fields) found → look_up (named fields) name ≡ Some t → (w : Value) × Inner name t w × (look_up found name ≡ Some w)
  value_found [] found name t each e = absurd (cc)
  value_found (f ∷ fields) found name t (a, more, (text, is, called, read), others, whole) e =
      by (bytes_eq name (name_of f.0)) refl (value_found fields more name t others) e
    where
      text_is : (x y : List ℕ) → token.label x ≡ token.label y → x ≡ y
      text_is x y g = cc

      same : name_of f.0 ≡ a.0
      same = ap name_of (text_is f.0 text is) ∙ called

      here : (b : Bool) → bytes_eq name (name_of f.0) ≡ b → look_up found name ≡ (if b then Some a.1 else look_up more name)
      here b g = ap (λ (l : List (List ℕ × Value)). look_up l name) whole ∙ ap (λ (c : Bool). if c then Some a.1 else look_up more name) (ap (bytes_eq name) (sym same) ∙ g)

      by : (b : Bool) → bytes_eq name (name_of f.0) ≡ b → (look_up (named fields) name ≡ Some t → (w : Value) × Inner name t w × (look_up more name ≡ Some w)) → (if b then Some f.1 else look_up (named fields) name) ≡ Some t → (w : Value) × Inner name t w × (look_up found name ≡ Some w)
      by true g later e =
          let called_so : a.0 ≡ name = sym same ∙ sym ((bytes_eq-Decides name (name_of f.0)).0 g) in
          let tree_is : f.1 ≡ t = cc in
          (a.1, subst (λ (u : Tree). Inner name u a.1) tree_is (subst (λ (n : List ℕ). Inner n f.1 a.1) called_so read), here true g)
      by false g later e = let (w, reads, at) = later e in (w, reads, here false g ∙ at)

  -- a field that is not found has no value
  none_found : (fields : Labelled) (found : List (List ℕ × Value)) (name : List ℕ) → Each (NamedTree Inner) (label_entries fields) found → look_up (named fields) name ≡ None → look_up found name ≡ None
  none_found [] found name each e = ap (λ (l : List (List ℕ × Value)). look_up l name) each
  none_found (f ∷ fields) found name (a, more, (text, is, called, read), others, whole) e = by (bytes_eq name (name_of f.0)) refl (none_found fields more name others) e
    where
      text_is : (x y : List ℕ) → token.label x ≡ token.label y → x ≡ y
      text_is x y g = cc

      same : name_of f.0 ≡ a.0
      same = ap name_of (text_is f.0 text is) ∙ called

      by : (b : Bool) → bytes_eq name (name_of f.0) ≡ b → (look_up (named fields) name ≡ None → look_up more name ≡ None) → (if b then Some f.1 else look_up (named fields) name) ≡ None → look_up found name ≡ None
      by true g later e = absurd (cc)
      by false g later e = ap (λ (l : List (List ℕ × Value)). look_up l name) whole ∙ (ap (λ (c : Bool). if c then Some a.1 else look_up more name) (ap (bytes_eq name) (sym same) ∙ g) ∙ later e)

  -- the values of other fields, each of which was found
  record Refound (fields : Labelled) (found : List (List ℕ × Value)) : Type 0 where
    again : List (List ℕ × Value)
    each : Each (NamedTree Inner) (label_entries fields) again
    names : map (λ e. e.0) again ≡ label_names fields
    at : AllOf (λ e. look_up found e.0 ≡ Some e.1) again

  refound : (fields : Labelled) (found : List (List ℕ × Value)) → AllOf (λ f. (w : Value) × Inner (name_of f.0) f.1 w × (look_up found (name_of f.0) ≡ Some w)) fields → Refound fields found
  refound [] found all = record { again = []; each = refl; names = refl; at = tt }
  refound (f ∷ fields) found ((w, read, here), all) =
      let more = refound fields found all in
      record { again = (name_of f.0, w) ∷ more.again; each = ((name_of f.0, w), more.again, (f.0, refl, refl, read), more.each, refl); names = ap (λ (l : List (List ℕ)). name_of f.0 ∷ l) more.names; at = (here, more.at) }

-- values that are found are those that were found before
found_same : (found again : List (List ℕ × Value)) (name : List ℕ) → AllOf (λ e. look_up found e.0 ≡ Some e.1) again → (IsNoneOf (map (λ e. e.0) again) name → look_up found name ≡ None) → look_up again name ≡ look_up found name
found_same found [] name at none = sym (none tt)
found_same found (e ∷ again) name at none = by (bytes_eq name e.0) refl (found_same found again name at.1)
  where
    by : (b : Bool) → bytes_eq name e.0 ≡ b → ((IsNoneOf (map (λ f. f.0) again) name → look_up found name ≡ None) → look_up again name ≡ look_up found name) → (if b then Some e.1 else look_up again name) ≡ look_up found name
    by true is later = sym (ap (look_up found) ((bytes_eq-Decides name e.0).0 is) ∙ at.0)
    by false is later = later (λ more. none ((λ same. cc (sym is ∙ (bytes_eq-Decides name e.0).1 same)), more))

fills_again : (fs : Fields) (found again : List (List ℕ × Value)) (all : FieldValues) → ((name : List ℕ) → look_up again name ≡ look_up found name) → Fills fs found all → Fills fs again all
fills_again no_fields found again all same fills = fills
fills_again (field name T more) found again all same (v, others, is, fills, e) =
    (v, others, subst (λ (o : Option Value). FieldIs T o v) (sym (same name)) is, fills_again more found again others same fills, e)

entries_once : (es ds : List (Token × Tree)) → tree_entries es ≡ tree_entries ds → es ≡ ds
entries_once [] [] e = refl
entries_once [] (d ∷ ds) e = absurd (cc)
entries_once (x ∷ es) [] e = absurd (cc)
entries_once (x ∷ es) (d ∷ ds) e =
    let keys : x.0 ≡ d.0 = cc in
    let values : x.1 ≡ d.1 = cc in
    let behind : tree_entries es ≡ tree_entries ds = cc in
    let first : x ≡ d = pair-path keys values in
    ap (λ (y : Token × Tree). y ∷ es) first ∙ ap (λ (l : List (Token × Tree)). d ∷ l) (entries_once es ds behind)

inner_entries : (es ds : TreeEntries) → entries es ≡ entries ds → es ≡ ds
inner_entries es ds e = cc

-- fields that are some are so in any order
some_fields : (fields others : Labelled) → ((name : List ℕ) → look_up (named fields) name ≡ look_up (named others) name) → 0 < length (label_entries fields) → 0 < length (label_entries others)
some_fields [] others same l = absurd (omega (arith, l))
some_fields (f ∷ fields) [] same l =
    let here : look_up (named (f ∷ fields)) (name_of f.0) ≡ Some f.1 = ap (λ (b : Bool). if b then Some f.1 else look_up (named fields) (name_of f.0)) (itself (name_of f.0)) in
    absurd (cc (sym here ∙ same (name_of f.0)))
some_fields (f ∷ fields) (g ∷ others) same l = omega arith

-- the fields in another order
reordered : (fs : Fields) (Inner : List ℕ → Meaning Tree Value) (fields others : Labelled) (v : Value) → AreDistinct (label_names others) → ((name : List ℕ) → look_up (named fields) name ≡ look_up (named others) name) → RecordTree fs Inner (entries (tree_entries (label_entries fields))) v → RecordTree fs Inner (entries (tree_entries (label_entries others))) v
reordered fs Inner fields others v distinct same (es, found, all, inl (e, none), each, d, fills, f) = absurd (cc)
reordered fs Inner fields others v distinct same (es, found, all, inr (e, some), each, d, fills, f) =
    let es_are : label_entries fields ≡ es = entries_once (label_entries fields) es (inner_entries (tree_entries (label_entries fields)) (tree_entries es) e) in
    let each_field : Each (NamedTree Inner) (label_entries fields) found = subst (λ (l : List (Token × Tree)). Each (NamedTree Inner) l found) (sym es_are) each in
    let r : Refound Inner others found = refound Inner others found (looked (λ name t. (w : Value) × Inner name t w × (look_up found name ≡ Some w)) others distinct (λ name t at. value_found Inner fields found name t each_field (same name ∙ at))) in
    let found_again : (name : List ℕ) → look_up r.again name ≡ look_up found name = (λ name. found_same found r.again name r.at (λ none. none_found Inner fields found name each_field (same name ∙ finds_none (named others) name (subst (λ (l : List (List ℕ)). IsNoneOf l name) r.names none)))) in
    let many : 0 < length (label_entries fields) = subst (λ (l : List (Token × Tree)). 0 < length l) (sym es_are) some in
    (label_entries others, r.again, all, inr (refl, some_fields fields others same many), r.each, subst AreDistinct (sym r.names) distinct, fills_again fs found r.again all found_again fills, f)

pub fields_in_any_order : FieldsInAnyOrder
fields_in_any_order n s d fields others one other h fs v = (
  λ means. tree_means (type.record_type fs) n d v (entries (tree_entries (label_entries others))) other (reordered fs _ fields others v h.second_distinct h.same (spelled_means (type.record_type fs) n s v (entries (tree_entries (label_entries fields))) one means)),
  λ means. tree_means (type.record_type fs) n s v (entries (tree_entries (label_entries fields))) one (reordered fs _ others fields v h.first_distinct (λ name. sym (h.same name)) (spelled_means (type.record_type fs) n d v (entries (tree_entries (label_entries others))) other means)),
)

-- ---- flags

one_all : (names some : List (List ℕ)) (name : List ℕ) → AreAllOf names some → IsOneOf some name → IsOneOf names name
one_all names [] name all one = absurd one
one_all names (n ∷ some) name all (inl e) = subst (IsOneOf names) (sym e) all.0
one_all names (n ∷ some) name all (inr one) = one_all names some name all.1 one

all_all : (names some others : List (List ℕ)) → AreAllOf names some → AreAllOf some others → AreAllOf names others
all_all names some [] all more = tt
all_all names some (n ∷ others) all more = (one_all names some n all more.0, all_all names some others all more.1)

test_same : (xs ys : List (List ℕ)) (name : List ℕ) → AreAllOf xs ys → AreAllOf ys xs → is_one_of xs name ≡ is_one_of ys name
test_same xs ys name first second = by (is_one_of xs name) (is_one_of ys name) refl refl
  where
    by : (a b : Bool) → is_one_of xs name ≡ a → is_one_of ys name ≡ b → a ≡ b
    by true true e f = refl
    by false false e f = refl
    by true false e f = cc (sym f ∙ passes ys name (one_all ys xs name second (is_one xs name e)))
    by false true e f = cc (sym e ∙ passes xs name (one_all xs ys name first (is_one ys name f)))

found_alike : (xs ys names : List (List ℕ)) → AreAllOf xs ys → AreAllOf ys xs → found_in xs names ≡ found_in ys names
found_alike xs ys [] first second = refl
found_alike xs ys (name ∷ names) first second =
    let same = test_same xs ys name first second in
    let more = found_alike xs ys names first second in
    rw (same, more) refl

inner_flags : (xs ys : List (List ℕ)) → flags xs ≡ flags ys → xs ≡ ys
inner_flags xs ys e = cc

other_flags : (names texts others : List (List ℕ)) (v : Value) → AreAllOf (map name_of texts) (map name_of others) → AreAllOf (map name_of others) (map name_of texts) → FlagsTree names (flags texts) v → FlagsTree names (flags others) v
other_flags names texts others v first second (words, inl (e, none), all, f) = absurd (cc)
other_flags names texts others v first second (words, inr e, all, f) =
    let words_are : words ≡ texts = sym (inner_flags texts words e) in
    let known : AreAllOf names (map name_of texts) = subst (λ (l : List (List ℕ)). AreAllOf names (map name_of l)) words_are all in
    let is : v ≡ value.flags (found_in (map name_of texts) names) = f ∙ ap (λ (l : List (List ℕ)). value.flags (found_in (map name_of l) names)) words_are in
    (others, inr refl, all_all names (map name_of texts) (map name_of others) known first, is ∙ ap value.flags (found_alike (map name_of texts) (map name_of others) names first second))

pub flags_in_any_order : FlagsInAnyOrder
flags_in_any_order n s d texts others one other h names v = (
  λ means. tree_means (type.flags names) n d v (flags others) other (other_flags names texts others v h.0 h.1 (spelled_means (type.flags names) n s v (flags texts) one means)),
  λ means. tree_means (type.flags names) n s v (flags texts) one (other_flags names others texts v h.1 h.0 (spelled_means (type.flags names) n d v (flags others) other means)),
)
