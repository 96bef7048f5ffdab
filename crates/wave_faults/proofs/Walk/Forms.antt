-- What the forms of nodes have to tell, kind by kind.
use Rattle.std.proofs.Common.{ℕ, add-one, zero, suc, ◌≡◌, ◌≢◌, ◌⊎◌, inl, inr, ◌≤◌, ◌+◌, List, [], ◌∷◌, length, drop, Option, Some, None, refl, sym, ap, ◌∙◌, subst, arith, codes}
use Rattle.std.specs.declared.ops.Range.{Range}
use Rattle.wave_wasm.specs.Types as type
use Rattle.wave_wasm.specs.Types.{TypeTree, MaybeType, Types, Cases, maybe_type, types_of, count_of, type_list, type_option, case_list, no_type, a_type, no_types, type_and}
use Rattle.wave_wasm.specs.ValueErrors.{wrong_length, wrong_number}
use Rattle.wave_lex.specs.Errors.{Diagnostic, Refusal, refusal_of}
use Rattle.wave_lex.specs.declared.error.ParserErrorKind.TheVariants.{InvalidType}
use Rattle.wave_grammar.specs.TypedGrammar.{IsFlat}
use Rattle.wave_grammar.specs.SpannedTree.{SpannedTree, SpannedShape, tuple, list, empty_braces, flags, label, none, some, ok, err, MaybePlaced, no_placed, a_placed, placed_trees, slice, span_of, shape_of}
use Rattle.wave_grammar.specs.TypeErrors.{IsRefusalOf, RefusesFor, list_in, tuple_in, flags_in, label_in}
use Rattle.wave_grammar.specs.NodeTree.{NodeTree, type_of, place_of}
use Rattle.wave_grammar.specs.Nodes.{placed_of}
use Rattle.wave_grammar.specs.NodeAccessors.{RefusedAs}
use Rattle.wave_grammar.proofs.ChildNodes.Inside.{From, inside}
use Rattle.wave_grammar.proofs.ByKind.Leaves.{at_tree, said}
use Rattle.wave_grammar.proofs.ByKind.Lists.{HasAt, trees_back}
use Rattle.wave_grammar.specs.declared.form.NodeType.{NodeType}
use Rattle.wave_grammar.specs.declared.form.NodeType.TheVariants as kind
use Rattle.wave_faults.specs.AllFaults.{Telling, Alone, Then, InTurn, WithinForm, AtOption, AtResult, AreFaults, AreFaultsOfItems, AreFaultsOfPayload, AreFaultsAlone}
use Rattle.wave_faults.specs.Private.Told.{list_of}

-- ---- lists

-- what is left from a place on begins with what stands there
pub drop_has : {A : Type 0} (xs : List A) (i : ℕ) (x : A) → HasAt xs i x → drop i xs ≡ x ∷ drop (i + 1) xs
drop_has [] i x h = absurd h
drop_has (y ∷ ys) zero x h = ap (λ z. z ∷ ys) h
drop_has (y ∷ ys) (suc i) x h = rw add-one (simp add-one at (drop_has ys i x h))

-- nothing is left at the end
pub drop_whole : {A : Type 0} (xs : List A) (i : ℕ) → length xs ≤ i → drop i xs ≡ []
drop_whole [] zero le = refl
drop_whole [] (suc i) le = refl
drop_whole (y ∷ ys) zero le = absurd (omega (arith, le))
drop_whole (y ∷ ys) (suc i) le = drop_whole ys i (omega (arith, le))

-- ---- forms that the type doesn't take

-- the refusal of the form, alone
pub refused_at : (source : List ℕ) (n : NodeTree) (t : SpannedTree) (e : Diagnostic) → placed_of source n ≡ Some t → RefusedAs InvalidType n e → IsRefusalOf InvalidType (span_of t) (refusal_of e) e.span
refused_at source n t e is refused = at_tree InvalidType (place_of n) (span_of t) (refusal_of e) e.span (inside source n t is).place (said refused)

pub other_form : {A : Type 0} (o : Option A) (p : Range ℕ) (F : A → Telling) (e : Diagnostic) → o ≡ None → IsRefusalOf InvalidType p (refusal_of e) e.span → WithinForm o p F (e ∷ [])
other_form o p F e absent refused = subst (λ (f : Option _). WithinForm f p F (e ∷ [])) (sym absent) refused

-- of a form that the type takes, what is within
pub this_form : {A : Type 0} (o : Option A) (p : Range ℕ) (F : A → Telling) (a : A) (errors : List Diagnostic) → o ≡ Some a → F a errors → WithinForm o p F errors
this_form o p F a errors is h = subst (λ (f : Option _). WithinForm f p F errors) (sym is) h

not_list : (ty : NodeType) (p : Range ℕ) (text : List ℕ) (cs : List SpannedTree) (s : SpannedShape) → From ty p text cs s → ty ≢ kind.List → list_in s ≡ None
not_list ty p text cs (list ts) f apart = absurd (apart f.0)
not_list ty p text cs _ f apart = refl

not_tuple : (ty : NodeType) (p : Range ℕ) (text : List ℕ) (cs : List SpannedTree) (s : SpannedShape) → From ty p text cs s → ty ≢ kind.Tuple → tuple_in s ≡ None
not_tuple ty p text cs (tuple ts) f apart = absurd (apart f.0)
not_tuple ty p text cs _ f apart = refl

not_flags : (ty : NodeType) (p : Range ℕ) (text : List ℕ) (cs : List SpannedTree) (s : SpannedShape) → From ty p text cs s → ty ≢ kind.Flags → ty ≢ kind.EmptySet → flags_in s ≡ None
not_flags ty p text cs (flags fs) f apart other = absurd (apart f.0)
not_flags ty p text cs empty_braces f apart other = absurd (other f.0)
not_flags ty p text cs _ f apart other = refl

not_label : (ty : NodeType) (p : Range ℕ) (text : List ℕ) (cs : List SpannedTree) (s : SpannedShape) → From ty p text cs s → ty ≢ kind.Label → ty ≢ kind.VariantWithPayload → label_in s ≡ None
not_label ty p text cs (label q w no_placed) f apart other = absurd (apart f.0)
not_label ty p text cs (label q w (a_placed t)) f apart other = absurd (other f.0)
not_label ty p text cs _ f apart other = refl

pub no_list : (source : List ℕ) (n : NodeTree) (t : SpannedTree) → placed_of source n ≡ Some t → type_of n ≢ kind.List → list_in (shape_of t) ≡ None
no_list source n t is apart = let i = inside source n t is in not_list (type_of n) (place_of n) (slice source (place_of n)) i.children (shape_of t) i.from apart

pub no_tuple : (source : List ℕ) (n : NodeTree) (t : SpannedTree) → placed_of source n ≡ Some t → type_of n ≢ kind.Tuple → tuple_in (shape_of t) ≡ None
no_tuple source n t is apart = let i = inside source n t is in not_tuple (type_of n) (place_of n) (slice source (place_of n)) i.children (shape_of t) i.from apart

pub no_flags : (source : List ℕ) (n : NodeTree) (t : SpannedTree) → placed_of source n ≡ Some t → type_of n ≢ kind.Flags → type_of n ≢ kind.EmptySet → flags_in (shape_of t) ≡ None
no_flags source n t is apart other = let i = inside source n t is in not_flags (type_of n) (place_of n) (slice source (place_of n)) i.children (shape_of t) i.from apart other

pub no_label : (source : List ℕ) (n : NodeTree) (t : SpannedTree) → placed_of source n ≡ Some t → type_of n ≢ kind.Label → type_of n ≢ kind.VariantWithPayload → label_in (shape_of t) ≡ None
no_label source n t is apart other = let i = inside source n t is in not_label (type_of n) (place_of n) (slice source (place_of n)) i.children (shape_of t) i.from apart other

-- a cause at the node, as a blame at its tree
pub cause_at : (source : List ℕ) (n : NodeTree) (t : SpannedTree) (said_so : Refusal) (k : Refusal) (q : Range ℕ) → placed_of source n ≡ Some t → (k ≡ said_so) × (q ≡ place_of n) → (k ≡ said_so) × (q ≡ span_of t)
cause_at source n t said_so k q is h = (h.0, h.1 ∙ sym (inside source n t is).place)

-- ---- lists

-- a list that is refused for its form
pub list_refused : (source : List ℕ) (n : NodeTree) (t : SpannedTree) (E : TypeTree) (o : Option ℕ) (e : Diagnostic) → placed_of source n ≡ Some t → type_of n ≢ kind.List → RefusedAs InvalidType n e → AreFaults (list_of E o) t (e ∷ [])
list_refused source n t E None e is apart refused = other_form (list_in (shape_of t)) (span_of t) _ e (no_list source n t is apart) (refused_at source n t e is refused)
list_refused source n t E (Some m) e is apart refused = other_form (list_in (shape_of t)) (span_of t) _ e (no_list source n t is apart) (refused_at source n t e is refused)

-- the items of a tree of a list
pub list_items : (t : SpannedTree) (items : List SpannedTree) → shape_of t ≡ list (placed_trees items) → list_in (shape_of t) ≡ Some items
list_items t items e = ap list_in e ∙ ap (λ (l : List SpannedTree). Some l) (trees_back items)

-- a list of so many items as the type has
abbrev pub IsOfLength : Option ℕ → ℕ → Type 0
IsOfLength o count = (want : ℕ) → o ≡ Some want → count ≡ want

pub list_told : (t : SpannedTree) (items : List SpannedTree) (E : TypeTree) (o : Option ℕ) (errors : List Diagnostic) → shape_of t ≡ list (placed_trees items) → IsOfLength o (length items) → InTurn (λ item. AreFaults E item) items errors → AreFaults (list_of E o) t errors
list_told t items E None errors e long h = this_form (list_in (shape_of t)) (span_of t) _ items errors (list_items t items e) h
list_told t items E (Some m) errors e long h = this_form (list_in (shape_of t)) (span_of t) _ items errors (list_items t items e) (inr (long m refl, h))

-- a list of another number of items
pub length_told : (t : SpannedTree) (items : List SpannedTree) (E : TypeTree) (want got : ℕ) (e : Diagnostic) → shape_of t ≡ list (placed_trees items) → length items ≡ got → got ≢ want → RefusesFor (wrong_length want got) (span_of t) (refusal_of e) e.span → AreFaults (type.fixed E want) t (e ∷ [])
length_told t items E want got e shape many apart refused =
    this_form (list_in (shape_of t)) (span_of t) _ items (e ∷ []) (list_items t items shape)
    (inl ((λ same. apart (sym many ∙ same)), subst (λ (m : ℕ). RefusesFor (wrong_length want m) (span_of t) (refusal_of e) e.span) (sym many) refused))

-- ---- tuples

pub tuple_refused : (source : List ℕ) (n : NodeTree) (t : SpannedTree) (Ts : Types) (e : Diagnostic) → placed_of source n ≡ Some t → type_of n ≢ kind.Tuple → RefusedAs InvalidType n e → AreFaults (type.tuple Ts) t (e ∷ [])
tuple_refused source n t Ts e is apart refused = other_form (tuple_in (shape_of t)) (span_of t) _ e (no_tuple source n t is apart) (refused_at source n t e is refused)

pub tuple_items : (t : SpannedTree) (items : List SpannedTree) → shape_of t ≡ tuple (placed_trees items) → tuple_in (shape_of t) ≡ Some items
tuple_items t items e = ap tuple_in e ∙ ap (λ (l : List SpannedTree). Some l) (trees_back items)

pub tuple_told : (t : SpannedTree) (items : List SpannedTree) (Ts : Types) (errors : List Diagnostic) → shape_of t ≡ tuple (placed_trees items) → Then (AreFaultsOfItems Ts items) (Alone (λ k q. (length items ≢ count_of Ts) × RefusesFor (wrong_number (count_of Ts) (length items)) (span_of t) k q)) errors → AreFaults (type.tuple Ts) t errors
tuple_told t items Ts errors e h = this_form (tuple_in (shape_of t)) (span_of t) _ items errors (tuple_items t items e) h

-- nothing is told where no item or no type is left
pub items_end : (Ts : List TypeTree) (items : List SpannedTree) (errors : List Diagnostic) → (Ts ≡ []) ⊎ (items ≡ []) → errors ≡ [] → AreFaultsOfItems (types_of Ts) items errors
items_end [] items errors e h = h
items_end (T ∷ Ts) [] errors e h = h
items_end (T ∷ Ts) (t ∷ items) errors (inl e) h = absurd (cc e)
items_end (T ∷ Ts) (t ∷ items) errors (inr e) h = absurd (cc e)

pub counted : (Ts : List TypeTree) → count_of (types_of Ts) ≡ length Ts
counted [] = refl
counted (T ∷ Ts) = ap suc (counted Ts)

pub types_back : (Ts : Types) → types_of (type_list Ts) ≡ Ts
types_back no_types = refl
types_back (type_and T more) = ap (λ (x : Types). type_and T x) (types_back more)

-- ---- options and results

not_option : (ty : NodeType) (p : Range ℕ) (text : List ℕ) (cs : List SpannedTree) (s : SpannedShape) (Within : SpannedTree → Telling) (Flat : Telling) (errors : List Diagnostic) → From ty p text cs s → ty ≢ kind.OptionSome → ty ≢ kind.OptionNone → Flat errors → AtOption s Within Flat errors
not_option ty p text cs none Within Flat errors f x y h = absurd (y f.0)
not_option ty p text cs (some u) Within Flat errors f x y h = absurd (x f.0)
not_option ty p text cs _ Within Flat errors f x y h = h

-- at an option, a node that is neither `some` nor `none`
pub flat_option : (source : List ℕ) (n : NodeTree) (t : SpannedTree) (P : TypeTree) (errors : List Diagnostic) → placed_of source n ≡ Some t → type_of n ≢ kind.OptionSome → type_of n ≢ kind.OptionNone
    → (IsFlat P → ⊥) × Alone (IsRefusalOf InvalidType (span_of t)) errors ⊎ IsFlat P × AreFaults P t errors → AreFaults (type.option P) t errors
flat_option source n t P errors is x y h =
    let i = inside source n t is in
    not_option (type_of n) (place_of n) (slice source (place_of n)) i.children (shape_of t) (λ u. AreFaults P u) _ errors i.from x y h

pub some_told : (t u : SpannedTree) (P : TypeTree) (errors : List Diagnostic) → shape_of t ≡ some u → AreFaults P u errors → AreFaults (type.option P) t errors
some_told t u P errors e h =
    subst (λ (s : SpannedShape). AtOption s (λ v. AreFaults P v) (λ list. (IsFlat P → ⊥) × Alone (IsRefusalOf InvalidType (span_of t)) list ⊎ IsFlat P × AreFaults P t list) errors) (sym e) h

pub none_told : (t : SpannedTree) (P : TypeTree) → shape_of t ≡ none → AreFaults (type.option P) t []
none_told t P e =
    subst (λ (s : SpannedShape). AtOption s (λ v. AreFaults P v) (λ list. (IsFlat P → ⊥) × Alone (IsRefusalOf InvalidType (span_of t)) list ⊎ IsFlat P × AreFaults P t list) []) (sym e) refl

not_result : (ty : NodeType) (p : Range ℕ) (text : List ℕ) (cs : List SpannedTree) (s : SpannedShape) (F G : MaybePlaced → Telling) (Flat : Telling) (errors : List Diagnostic) → From ty p text cs s → ty ≢ kind.ResultOk → ty ≢ kind.ResultErr → Flat errors → AtResult s F G Flat errors
not_result ty p text cs (ok no_placed) F G Flat errors f x y h = absurd (x f.0)
not_result ty p text cs (ok (a_placed u)) F G Flat errors f x y h = absurd (x f.0)
not_result ty p text cs (err no_placed) F G Flat errors f x y h = absurd (y f.0)
not_result ty p text cs (err (a_placed u)) F G Flat errors f x y h = absurd (y f.0)
not_result ty p text cs _ F G Flat errors f x y h = h

-- at a result, a node that is neither `ok` nor `err`
pub flat_result : (source : List ℕ) (n : NodeTree) (t : SpannedTree) (A B : MaybeType) (errors : List Diagnostic) → placed_of source n ≡ Some t → type_of n ≢ kind.ResultOk → type_of n ≢ kind.ResultErr → AreFaultsAlone A t errors → AreFaults (type.result A B) t errors
flat_result source n t A B errors is x y h =
    let i = inside source n t is in
    not_result (type_of n) (place_of n) (slice source (place_of n)) i.children (shape_of t) (λ payload. AreFaultsOfPayload (codes "ok") A payload (span_of t)) (λ payload. AreFaultsOfPayload (codes "err") B payload (span_of t)) (AreFaultsAlone A t) errors i.from x y h

pub ok_told : (t : SpannedTree) (payload : MaybePlaced) (A B : MaybeType) (errors : List Diagnostic) → shape_of t ≡ ok payload → AreFaultsOfPayload (codes "ok") A payload (span_of t) errors → AreFaults (type.result A B) t errors
ok_told t payload A B errors e h =
    subst (λ (s : SpannedShape). AtResult s (λ m. AreFaultsOfPayload (codes "ok") A m (span_of t)) (λ m. AreFaultsOfPayload (codes "err") B m (span_of t)) (AreFaultsAlone A t) errors) (sym e) h

pub err_told : (t : SpannedTree) (payload : MaybePlaced) (A B : MaybeType) (errors : List Diagnostic) → shape_of t ≡ err payload → AreFaultsOfPayload (codes "err") B payload (span_of t) errors → AreFaults (type.result A B) t errors
err_told t payload A B errors e h =
    subst (λ (s : SpannedShape). AtResult s (λ m. AreFaultsOfPayload (codes "ok") A m (span_of t)) (λ m. AreFaultsOfPayload (codes "err") B m (span_of t)) (AreFaultsAlone A t) errors) (sym e) h
