-- The fields of a record type, and what is kept of each.
use Rattle.std.proofs.Common.{ℕ, zero, suc, ◌≡◌, ◌≢◌, inl, inr, ◌<◌, ◌+◌, Bool, true, false, if◌then◌else◌, List, [], ◌∷◌, ◌++◌, length, get_or, map, take, set, Option, Some, None, is_some, Bor, Ok, refl, sym, ap, ◌∙◌, subst, arith}
use Rattle.std.specs.Prelude.{slice_get}
use Rattle.std.specs.Str.{bytes_eq}
use Rattle.std.specs.Iterator.{Yields}
use Rattle.std.specs.Vec.Iter.{into_iter_items, into_iter_len, into_iter_steps}
use Rattle.std.specs.declared.vec.IntoIter.{IntoIter}
use Rattle.std.proofs.lemmas.List.{append-nil}
use Rattle.std.proofs.lemmas.Slice.Eq.{bytes_eq-Decides}
use Rattle.wave_grammar.specs.FaultOrder.{Order, BlamesNothing, FirstFault}
use Rattle.wave_lex.specs.Errors.{Diagnostic}
use Rattle.wave_grammar.specs.SpannedTree.{PlacedEntry}
use Rattle.wave_grammar.specs.TypeErrors.{IsFor}
use Rattle.wave_grammar.specs.Nodes.{IsNodeOf}
use Rattle.wave_grammar.proofs.OneFault.FaultyTrees.{value_fine}
use Rattle.wave_wasm.specs.Lists.{AllOf}
use Rattle.wave_wasm.specs.Names.{IsOneOf, IsNoneOf, AreDistinct}
use Rattle.wave_wasm.specs.Types.{TypeTree, HasDistinctNames}
use Rattle.wave_wasm.specs.Values.{Value}
use Rattle.wave_wasm.specs.Borrowed.{denoted_fields}
use Rattle.wave_grammar.specs.TypedGrammar.{look_up, names_of}
use Rattle.wave_grammar.specs.NodeTree.{NodeTree}
use Rattle.wave_grammar.specs.NodeFields.{IsLeftOut, IsMissing}
use Rattle.wave_grammar.proofs.ByKind.Lists.{HasAt}
use Rattle.wave_grammar.proofs.ByKind.Enums.{none_one}
use Rattle.wave_grammar.proofs.Fields.Lookup.{take_next, map_last}
use Rattle.wave_grammar.proofs.ChildNodes.Inside.{some_is}
use Rattle.wave_leaf.specs.Reading.{IsReadAs}
use Rattle.wave_read.specs.declared.records.Field.{Field}
use Rattle.wave_read.specs.RecordParts.{part_of, field_name, IsKeptAs, AreKeptAs}
use Rattle.wave_read.specs.Private.RecordParts.{with_value, IsFull, AreFull, IsFilled, FirstUnfilled}

-- ---- lists

-- the element at a place
pub got_here : {X : Type 0} (xs : List X) (i : ℕ) (x : X) → i < length xs → x ≡ get_or xs i x → slice_get xs i ≡ Some x
got_here [] i x lt is = absurd (omega (arith, lt))
got_here (y ∷ xs) zero x lt is = ap Some (sym is)
got_here (y ∷ xs) (suc i) x lt is = got_here xs i x (omega (arith, lt)) is

-- so it stands there
pub has_got : {X : Type 0} (xs : List X) (i : ℕ) (x : X) → slice_get xs i ≡ Some x → HasAt xs i x
has_got [] i x e = absurd (cc)
has_got (y ∷ xs) zero x e = some_is y x e
has_got (y ∷ xs) (suc i) x e = has_got xs i x e

-- it is the only one there
pub got_same : {X : Type 0} (xs : List X) (i : ℕ) (x y : X) → slice_get xs i ≡ Some x → y ≡ get_or xs i y → x ≡ y
got_same [] i x y e is = absurd (cc)
got_same (z ∷ xs) zero x y e is = sym (some_is z x e) ∙ sym is
got_same (z ∷ xs) (suc i) x y e is = got_same xs i x y e is

-- the one after these
pub has_behind : {X : Type 0} (before : List X) (x : X) (behind : List X) → HasAt (before ++ x ∷ behind) (length before) x
has_behind [] x behind = refl
has_behind (y ∷ before) x behind = has_behind before x behind

-- nothing is there, or something
pub none_there : {X : Type 0} (o : Option X) → is_some o ≡ false → o ≡ None
none_there None e = refl
none_there (Some x) e = absurd (cc)

pub some_there : {X : Type 0} (o : Option X) → is_some o ≡ true → (x : X) × (o ≡ Some x)
some_there None e = absurd (cc)
some_there (Some x) e = (x, refl)

-- what an iterator has given is a prefix of its items
pub given_prefix : {X A : Type 0} (s : IntoIter X A) (xs : List X) (t : IntoIter X A) → Yields into_iter_steps s xs t → into_iter_items s ≡ xs ++ into_iter_items t
given_prefix s [] t y = ap into_iter_items y
given_prefix s (x ∷ xs) t y = y.1.0 ∙ ap (λ ys. x ∷ ys) (given_prefix y.0 xs t y.2)

no_items : {X : Type 0} (xs : List X) → length xs ≡ 0 → xs ≡ []
no_items [] e = refl
no_items (x ∷ xs) e = absurd (omega (arith, e))

-- at its end it has given all of them
pub given_all : {X A : Type 0} (s : IntoIter X A) (xs : List X) (t : IntoIter X A) → Yields into_iter_steps s xs t → into_iter_len t ≡ 0 → xs ≡ into_iter_items s
given_all s xs t y none = sym (given_prefix s xs t y ∙ (ap (λ ys. xs ++ ys) (no_items (into_iter_items t) (sym t.rest.ok.0 ∙ none)) ∙ append-nil xs))

-- ---- names

none_more : (names : List (List ℕ)) (n name : List ℕ) → IsNoneOf names name → name ≢ n → IsNoneOf (names ++ n ∷ []) name
none_more [] n name none apart = (apart, tt)
none_more (m ∷ names) n name none apart = (none.0, none_more names n name none.1 apart)

-- the name is none of those of the fields up to after a place
pub none_up_to : {S V : Type 0} (fields : List (Field S V)) (i : ℕ) (f : Field S V) (name : List ℕ) → HasAt fields i f → IsNoneOf (map field_name (take i fields)) name → name ≢ f.name.now → IsNoneOf (map field_name (take (i + 1) fields)) name
none_up_to fields i f name here none apart =
    subst (λ (names : List (List ℕ)). IsNoneOf names name) (sym (ap (map field_name) (take_next fields i f here) ∙ map_last field_name (take i fields) f)) (none_more (map field_name (take i fields)) f.name.now name none apart)

-- two names that are compared
pub other_name : (a b : List ℕ) → bytes_eq a b ≡ false → b ≢ a
other_name a b is same = cc (sym is ∙ (bytes_eq-Decides a b).1 (sym same))

-- a field's name is one of those of the fields
pub one_of_fields : {S V : Type 0} (fields : List (Field S V)) (i : ℕ) (f : Field S V) → HasAt fields i f → IsOneOf (map field_name fields) f.name.now
one_of_fields [] i f h = absurd h
one_of_fields (g ∷ fields) zero f h = inl (ap field_name (sym h))
one_of_fields (g ∷ fields) (suc i) f h = inr (one_of_fields fields i f h)

-- what holds of each of the names holds of one of them
pub of_one : (P : List ℕ → Type 0) (names : List (List ℕ)) (name : List ℕ) → AllOf P names → IsOneOf names name → P name
of_one P [] name all one = absurd one
of_one P (n ∷ names) name all (inl e) = subst P (sym e) all.0
of_one P (n ∷ names) name all (inr one) = of_one P names name all.1 one

-- the names of the parts are those of the fields
pub part_names : {S V : Type 0} (type_tree : S → TypeTree) (fields : List (Field S V)) → names_of (map (part_of type_tree) fields) ≡ map field_name fields
part_names type_tree [] = refl
part_names type_tree (f ∷ fields) = ap (λ (names : List (List ℕ)). f.name.now ∷ names) (part_names type_tree fields)

-- ---- look-ups

-- the last entry is found where none before it has its name
pub look_new : {A : Type 0} (given : List (List ℕ × A)) (name : List ℕ) (a : A) → look_up given name ≡ None → look_up (given ++ (name, a) ∷ []) name ≡ Some a
look_new [] name a none = by (bytes_eq name name) ((bytes_eq-Decides name name).1 refl)
  where
    by : (b : Bool) → b ≡ true → (if b then Some a else None) ≡ Some a
    by true is = refl
    by false is = absurd (cc)
look_new (g ∷ given) name a none = by (bytes_eq name g.0) none (look_new given name a)
  where
    by : (b : Bool) → (if b then Some g.1 else look_up given name) ≡ None → (look_up given name ≡ None → look_up (given ++ (name, a) ∷ []) name ≡ Some a) → (if b then Some g.1 else look_up (given ++ (name, a) ∷ []) name) ≡ Some a
    by true none more = absurd (cc)
    by false none more = more none

-- another name is found as before
pub look_old : {A : Type 0} (given : List (List ℕ × A)) (name : List ℕ) (a : A) (other : List ℕ) → other ≢ name → look_up (given ++ (name, a) ∷ []) other ≡ look_up given other
look_old [] name a other apart = by (bytes_eq other name) refl
  where
    by : (b : Bool) → bytes_eq other name ≡ b → (if b then Some a else None) ≡ None
    by true is = absurd (apart ((bytes_eq-Decides other name).0 is))
    by false is = refl
look_old {A = A} (g ∷ given) name a other apart = ap (λ (o : Option A). if bytes_eq other g.0 then Some g.1 else o) (look_old given name a other apart)

-- ---- what is kept

-- the field of this name and type, of which nothing was read
abbrev pub empty_field : {S V : Type 0} → Bor (List ℕ) × Bor S → Field S V
empty_field p = record { name = p.0; ty = p.1; value = None }

-- they have the names and the types of the type's fields
pub empty_parts : (V : Type 0) {S : Type 0} (type_tree : S → TypeTree) (ps : List (Bor (List ℕ) × Bor S)) → map (part_of {V = V} type_tree) (map empty_field ps) ≡ denoted_fields type_tree ps
empty_parts V type_tree [] = refl
empty_parts V type_tree (p ∷ ps) = ap (λ (qs : List (List ℕ × TypeTree)). (p.0.now, type_tree p.1.now) ∷ qs) (empty_parts V type_tree ps)

-- with its value the field has the same name and type
pub same_parts : {S V : Type 0} (type_tree : S → TypeTree) (fields : List (Field S V)) (i : ℕ) (f : Field S V) (v : V) → HasAt fields i f → map (part_of type_tree) (set fields i (with_value f v)) ≡ map (part_of type_tree) fields
same_parts type_tree [] i f v h = absurd h
same_parts type_tree (g ∷ fields) zero f v h = ap (λ (p : List ℕ × TypeTree). p ∷ map (part_of type_tree) fields) (ap (part_of type_tree) (sym h))
same_parts type_tree (g ∷ fields) (suc i) f v h = ap (λ (ps : List (List ℕ × TypeTree)). part_of type_tree g ∷ ps) (same_parts type_tree fields i f v h)

-- and so the names are the same
pub same_names : {S V : Type 0} (fields : List (Field S V)) (i : ℕ) (f : Field S V) (v : V) → HasAt fields i f → map field_name (set fields i (with_value f v)) ≡ map field_name fields
same_names [] i f v h = absurd h
same_names (g ∷ fields) zero f v h = ap (λ (name : List ℕ). name ∷ map field_name fields) (ap field_name (sym h))
same_names (g ∷ fields) (suc i) f v h = ap (λ (names : List (List ℕ)). g.name.now ∷ names) (same_names fields i f v h)

module _ {V : Type 0} (tree : V → Value) (of : V → TypeTree → Type 0) (Full : TypeTree → Type 0) (w : Order) {S : Type 0} (type_tree : S → TypeTree) (source : List ℕ) where
  -- nothing was read, and nothing is kept
  pub none_kept : (ps : List (Bor (List ℕ) × Bor S)) → AreKeptAs type_tree tree of Full w source [] (map empty_field ps)
  none_kept [] = tt
  none_kept (p ∷ ps) = (refl, none_kept ps)

  kept_other : (given : List (List ℕ × NodeTree)) (name : List ℕ) (m : NodeTree) (f : Field S V) → f.name.now ≢ name → IsKeptAs tree of Full w (type_tree f.ty.now) source (look_up given f.name.now) f.value → IsKeptAs tree of Full w (type_tree f.ty.now) source (look_up (given ++ (name, m) ∷ []) f.name.now) f.value
  kept_other given name m f apart h = subst (λ (there : Option NodeTree). IsKeptAs tree of Full w (type_tree f.ty.now) source there f.value) (sym (look_old given name m f.name.now apart)) h

  kept_others : (given : List (List ℕ × NodeTree)) (name : List ℕ) (m : NodeTree) (fields : List (Field S V)) → IsNoneOf (map field_name fields) name → AreKeptAs type_tree tree of Full w source given fields → AreKeptAs type_tree tree of Full w source (given ++ (name, m) ∷ []) fields
  kept_others given name m [] none h = tt
  kept_others given name m (f ∷ fields) none h = (kept_other given name m f (λ e. none.0 (sym e)) h.0, kept_others given name m fields none.1 h.1)

  -- the value of one more entry is kept
  pub kept_more : (given : List (List ℕ × NodeTree)) (m : NodeTree) (fields : List (Field S V)) (i : ℕ) (f : Field S V) (v : V) → HasAt fields i f → AreDistinct (map field_name fields) → look_up given f.name.now ≡ None → IsReadAs tree of Full w w (type_tree f.ty.now) source m (Ok v) → AreKeptAs type_tree tree of Full w source given fields → AreKeptAs type_tree tree of Full w source (given ++ (f.name.now, m) ∷ []) (set fields i (with_value f v))
  kept_more given m [] i f v here distinct none read h = absurd here
  kept_more given m (g ∷ fields) zero f v here distinct none read h =
      ((m, look_new given f.name.now m none, read), kept_others given f.name.now m fields (subst (IsNoneOf (map field_name fields)) (ap field_name here) distinct.0) h.1)
  kept_more given m (g ∷ fields) (suc i) f v here distinct none read h =
      (kept_other given f.name.now m g (λ e. none_one (map field_name fields) g.name.now distinct.0 (subst (IsOneOf (map field_name fields)) (sym e) (one_of_fields fields i f here))) h.0, kept_more given m fields i f v here distinct.1 none read h.1)

  -- what was read of an entry's value has no fault
  kept_fine : (E : TypeTree) (found : Option NodeTree) (kept : Option V) (m : NodeTree) (e : PlacedEntry) → HasDistinctNames E → found ≡ Some m → IsNodeOf source m e.value → IsKeptAs tree of Full w E source found kept → BlamesNothing (FirstFault w w E e.value)
  kept_fine E found None m e distinct there stands none = absurd (cc)
  kept_fine E found (Some v) m e distinct there stands (k, same, read) =
      let own : IsReadAs tree of Full w w E source m (Ok v) = subst (λ (j : NodeTree). IsReadAs tree of Full w w E source j (Ok v)) (same_node k m (sym same ∙ there)) read in
      value_fine w w E e.value (tree v) distinct (own.answer e.value stands distinct).reads
    where
      same_node : (a b : NodeTree) → Some a ≡ Some b → a ≡ b
      same_node a b e = cc

  -- so at the type of each field that the entry is for
  pub value_kept : (given : List (List ℕ × NodeTree)) (name : List ℕ) (m : NodeTree) (e : PlacedEntry) (fields : List (Field S V)) → AllOf (λ f. HasDistinctNames f.1) (map (part_of type_tree) fields) → AreKeptAs type_tree tree of Full w source given fields → look_up given name ≡ Some m → IsFor name e → IsNodeOf source m e.value → AllOf (λ f. IsFor f.0 e → BlamesNothing (FirstFault w w f.1 e.value)) (map (part_of type_tree) fields)
  value_kept given name m e [] distinct kept found named stands = tt
  value_kept given name m e (f ∷ fields) distinct kept found named stands =
      ((λ is. kept_fine (type_tree f.ty.now) (look_up given f.name.now) f.value m e distinct.0 (subst (λ (q : List ℕ). look_up given q ≡ Some m) (same_name name f.name.now (sym named ∙ is)) found) stands kept.0), value_kept given name m e fields distinct.1 kept.1 found named stands)
    where
      same_name : (a b : List ℕ) → a ∷ [] ≡ b ∷ [] → a ≡ b
      same_name a b e = cc

module _ {S V : Type 0} (tree : V → Value) (of : V → TypeTree → Type 0) (type_tree : S → TypeTree) where
  -- the value of a field that was read
  pub full_read : (T : TypeTree) (o : Option V) (w v : V) → o ≡ Some w → v ≡ w → IsFull tree of T o v
  full_read T o w v is same = subst (λ (p : Option V). IsFull tree of T p v) (sym is) (sym same)

  -- that of one that was left out
  pub full_left : (T : TypeTree) (o : Option V) (w v : V) → o ≡ None → v ≡ w → (HasDistinctNames T → IsLeftOut tree of T w) → IsFull tree of T o v
  full_left T o w v is same out = subst (λ (p : Option V). IsFull tree of T p v) (sym is) (λ distinct. subst (IsLeftOut tree of T) (sym same) (out distinct))

  full_last : (fields : List (Field S V)) (vals : List (Bor (List ℕ) × V)) (f : Field S V) (v : Bor (List ℕ) × V) → AreFull tree of type_tree fields vals → v.0.now ≡ f.name.now → IsFull tree of (type_tree f.ty.now) f.value v.1 → AreFull tree of type_tree (fields ++ f ∷ []) (vals ++ v ∷ [])
  full_last [] [] f v h named full = (named, full, tt)
  full_last [] (w ∷ vals) f v h named full = absurd h
  full_last (g ∷ fields) [] f v h named full = absurd h
  full_last (g ∷ fields) (w ∷ vals) f v h named full = (h.0, h.1, full_last fields vals f v h.2 named full)

  -- one more field has its value
  pub full_more : (fields : List (Field S V)) (vals now : List (Bor (List ℕ) × V)) (f : Field S V) (v : V) → AreFull tree of type_tree fields vals → IsFull tree of (type_tree f.ty.now) f.value v → now ≡ vals ++ (f.name, v) ∷ [] → AreFull tree of type_tree (fields ++ f ∷ []) now
  full_more fields vals now f v h full is = subst (AreFull tree of type_tree (fields ++ f ∷ [])) (sym is) (full_last fields vals f (f.name, v) h refl full)

  -- a field that has its value may be left out, where it was
  full_filled : (Full : TypeTree → Type 0) (f : Field S V) (o : Option V) (v : V) → f.value ≡ o → IsFull tree of (type_tree f.ty.now) o v → IsFilled Full type_tree f
  full_filled Full f None v is full distinct out = (full distinct).option
  full_filled Full f (Some u) v is full distinct out = absurd (cc)

  -- the first that was left out and may not be, behind fields that have their values
  pub unfilled_behind : (Full : TypeTree → Type 0) (fields : List (Field S V)) (vals : List (Bor (List ℕ) × V)) (f : Field S V) (more : List (Field S V)) (n : NodeTree) (e : Diagnostic) → AreFull tree of type_tree fields vals → f.value ≡ None → (HasDistinctNames (type_tree f.ty.now) → IsMissing Full (type_tree f.ty.now) f.name.now n e) → FirstUnfilled Full type_tree (fields ++ f ∷ more) n e
  unfilled_behind Full [] vals f more n e h out missing = inl (out, missing)
  unfilled_behind Full (g ∷ fields) [] f more n e h out missing = absurd h
  unfilled_behind Full (g ∷ fields) (v ∷ vals) f more n e h out missing = inr (full_filled Full g g.value v.1 refl h.1, unfilled_behind Full fields vals f more n e h.2 out missing)
