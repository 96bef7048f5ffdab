-- What the simple types give the nodes of one token.
use Rattle.std.proofs.Common.{ℕ, ℤ, ◌≡◌, ◌≢◌, inl, inr, Bool, true, false, if◌then◌else◌, List, [], ◌∷◌, Option, Some, None, Err, codes, refl, sym, ap, ◌∙◌, subst}
use Rattle.std.specs.declared.ops.Range.{Range}
use Rattle.wave_wasm.specs.Names.{IsOneOf}
use Rattle.wave_wasm.specs.Types as type
use Rattle.wave_wasm.specs.Types.{Whole, Simple}
use Rattle.wave_wasm.specs.Numbers.{is_signed}
use Rattle.wave_wasm.specs.Values as value
use Rattle.wave_wasm.specs.Values.{Leaf}
use Rattle.wave_wasm.specs.Text.{bool_text}
use Rattle.wave_lex.specs.Errors.{Diagnostic, Refusal, refusal_of, Says}
use Rattle.wave_lex.specs.declared.error.ParserErrorKind.{ParserErrorKind}
use Rattle.wave_lex.specs.declared.error.ParserErrorKind.TheVariants.{InvalidType, InvalidValue}
use Rattle.wave_grammar.specs.Token.{Token}
use Rattle.wave_grammar.specs.Token as token
use Rattle.wave_grammar.specs.LeafTokens.{Spells}
use Rattle.wave_grammar.specs.NumberText.{IsNumberOf, whole_text, signed_text, unsigned_text}
use Rattle.wave_grammar.specs.Elaborates.{SimpleTree}
use Rattle.wave_grammar.specs.SpannedTree.{SpannedTree, SpannedShape, at, one, slice, span_of, shape_of, tree_of, tree_of_shape}
use Rattle.wave_grammar.specs.TypeErrors.{RefusesWith, IsRefusalOf, OfForm, LeafFault, IsForm, one_in}
use Rattle.wave_grammar.specs.FaultOrder.{Order, FirstFault}
use Rattle.wave_grammar.specs.NodeTree.{NodeTree, type_of, place_of}
use Rattle.wave_grammar.specs.Nodes.{placed_of, shape_from, number_token}
use Rattle.wave_grammar.specs.NodeAccessors.{bool_type, GivesNumber}
use Rattle.wave_wasm.proofs.Names.NameTests.{is_one}
use Rattle.wave_grammar.proofs.ChildNodes.Inside.{From, inside, some_is, is_number_word}
use Rattle.wave_grammar.specs.declared.form.NodeType.{NodeType}
use Rattle.wave_grammar.specs.declared.form.NodeType.TheVariants as kind

-- the tree of a shape that stands somewhere
-- the tree of a shape
pub tree_is : (t : SpannedTree) (s : SpannedShape) → shape_of t ≡ s → tree_of t ≡ tree_of_shape s
tree_is (at p r) s e = ap tree_of_shape e

-- a token spells a leaf
pub leaf_read : (S : Simple) (t : SpannedTree) (token : Token) (one_leaf : Leaf) → shape_of t ≡ one token → Spells S token one_leaf → SimpleTree S (tree_of t) (value.leaf one_leaf)
leaf_read S t token one_leaf e spelled = (token, one_leaf, tree_is t (one token) e, spelled, refl)

-- the span of a refusal at a node is that of its tree
pub at_tree : {detail : Option (List ℕ)} (why : _) (p q : Range ℕ) (k : Refusal) (r : Range ℕ) → q ≡ p → RefusesWith why detail p k r → RefusesWith why detail q k r
at_tree why p q k r e refused = (refused.0, refused.1 ∙ sym e)

-- what a refusal says, and its span
pub said : {e : Diagnostic} {why : ParserErrorKind} {p : Range ℕ} {detail : Option (List ℕ)} → Says e why p detail → RefusesWith why detail p (refusal_of e) e.span
said says = (says.is, says.stands)

-- a tree of another form than the simple type takes
pub wrong_form : (S : Simple) (o : Option Token) (p : Range ℕ) (k : Refusal) (q : Range ℕ) → ((token : Token) → o ≡ Some token → IsForm S token → ⊥) → IsRefusalOf InvalidType p k q → OfForm o p (LeafFault S p) k q
wrong_form S None p k q apart refused = refused
wrong_form S (Some token) p k q apart refused = inl (apart token refl, refused)

-- ---- bools

bool_shape : (b : Bool) (p : Range ℕ) (text : List ℕ) (cs : List SpannedTree) (s : SpannedShape) → shape_from (bool_type b) p text cs ≡ Some s → s ≡ one (token.label (bool_text b))
bool_shape true p text [] s e = sym (some_is _ _ e)
bool_shape true p text (c ∷ more) s e = absurd (cc)
bool_shape false p text [] s e = sym (some_is _ _ e)
bool_shape false p text (c ∷ more) s e = absurd (cc)

-- a node of this bool
pub bool_read : (source : List ℕ) (n : NodeTree) (t : SpannedTree) (b : Bool) → placed_of source n ≡ Some t → type_of n ≡ bool_type b → SimpleTree type.bool (tree_of t) (value.leaf (value.bool b))
bool_read source n t b e is =
    let i = inside source n t e in
    let shape : shape_of t ≡ one (token.label (bool_text b)) = bool_shape b (place_of n) (slice source (place_of n)) i.children (shape_of t) (subst (λ (ty : NodeType). shape_from ty (place_of n) (slice source (place_of n)) i.children ≡ Some (shape_of t)) is i.shape) in
    leaf_read type.bool t (token.label (bool_text b)) (value.bool b) shape (b, refl, refl)

no_bool_word : (b : Bool) (w : List ℕ) → w ≡ bool_text b → is_number_word w ≡ true → ⊥
no_bool_word true w e h = cc
no_bool_word false w e h = cc

not_bool : (ty : NodeType) (p : Range ℕ) (text : List ℕ) (cs : List SpannedTree) (s : SpannedShape) → From ty p text cs s → ((b : Bool) → ty ≢ bool_type b) → (t : Token) → one_in s ≡ Some t → IsForm type.bool t → ⊥
not_bool ty p text cs (one (token.label w)) (e, inl h) apart t is form = apart true h.0
not_bool ty p text cs (one (token.label w)) (e, inr (inl h)) apart t is form = apart false h.0
not_bool ty p text cs (one (token.label w)) (e, inr (inr h)) apart t is (b, same) = no_bool_word b w (cc) h.2
not_bool ty p text cs (one (token.number w)) f apart t is (b, same) = cc
not_bool ty p text cs (one (token.char w)) f apart t is (b, same) = cc
not_bool ty p text cs (one (token.string w)) f apart t is (b, same) = cc
not_bool ty p text cs (one (token.multiline w)) f apart t is (b, same) = cc
not_bool ty p text cs (one _) f apart t is form = f
not_bool ty p text cs _ f apart t is form = cc

-- a node of no bool
pub bool_fault : (o w : Order) (source : List ℕ) (n : NodeTree) (t : SpannedTree) (k : Refusal) (q : Range ℕ) → placed_of source n ≡ Some t → ((b : Bool) → type_of n ≢ bool_type b) → IsRefusalOf InvalidType (place_of n) k q → FirstFault o w (type.simple type.bool) t k q
bool_fault o w source n t k q e apart refused =
    let i = inside source n t e in
    wrong_form type.bool (one_in (shape_of t)) (span_of t) k q (not_bool (type_of n) (place_of n) (slice source (place_of n)) i.children (shape_of t) i.from apart) (at_tree InvalidType (place_of n) (span_of t) k q i.place refused)

-- ---- whole numbers

number_shape : (p : Range ℕ) (text : List ℕ) (cs : List SpannedTree) (s : SpannedShape) → shape_from kind.Number p text cs ≡ Some s → s ≡ one (number_token text)
number_shape p text [] s e = sym (some_is _ _ e)
number_shape p text (c ∷ more) s e = absurd (cc)

number_is : (source : List ℕ) (n : NodeTree) (t : SpannedTree) → placed_of source n ≡ Some t → type_of n ≡ kind.Number → shape_of t ≡ one (number_token (slice source (place_of n)))
number_is source n t e is =
    let i = inside source n t e in
    number_shape (place_of n) (slice source (place_of n)) i.children (shape_of t) (subst (λ (ty : NodeType). shape_from ty (place_of n) (slice source (place_of n)) i.children ≡ Some (shape_of t)) is i.shape)

no_number_word : (signed : Bool) (w : List ℕ) (z : ℤ) → IsOneOf (codes "inf" ∷ codes "nan" ∷ []) w → (if signed then signed_text w else unsigned_text w) ≡ Some z → ⊥
no_number_word signed w z (inl e) h = no_inf signed (rw e at h)
  where
    no_inf : (b : Bool) → (if b then signed_text (codes "inf") else unsigned_text (codes "inf")) ≡ Some z → ⊥
    no_inf true k = cc
    no_inf false k = cc
no_number_word signed w z (inr (inl e)) h = no_nan signed (rw e at h)
  where
    no_nan : (b : Bool) → (if b then signed_text (codes "nan") else unsigned_text (codes "nan")) ≡ Some z → ⊥
    no_nan true k = cc
    no_nan false k = cc
no_number_word signed w z (inr (inr none)) h = none

-- the text of a number is no word
no_word : (which : Whole) (w : List ℕ) (z : ℤ) → whole_text which w ≡ Some z → (b : Bool) → is_number_word w ≡ b → is_number_word w ≡ false
no_word which w z e false h = h
no_word which w z e true h = absurd (no_number_word (is_signed which) w z (is_one (codes "inf" ∷ codes "nan" ∷ []) w h) e)

-- a node of this number
pub number_read : (which : Whole) (source : List ℕ) (n : NodeTree) (t : SpannedTree) (z : ℤ) → placed_of source n ≡ Some t → type_of n ≡ kind.Number → IsNumberOf which (slice source (place_of n)) (Some z) → SimpleTree (type.whole which) (tree_of t) (value.leaf (value.whole which z))
number_read which source n t z e is number =
    let text : List ℕ = slice source (place_of n) in
    let token_is : number_token text ≡ token.number text = rw (no_word which text z number.0 (is_number_word text) refl) refl in
    leaf_read (type.whole which) t (token.number text) (value.whole which z) (number_is source n t e is ∙ ap one token_is) (text, z, refl, number.0, number.1, refl)

-- a number that the type hasn't
no_number : (which : Whole) (p : Range ℕ) (text : List ℕ) (k : Refusal) (q : Range ℕ) (b : Bool) → is_number_word text ≡ b → IsNumberOf which text None → IsRefusalOf InvalidValue p k q → LeafFault (type.whole which) p (if b then token.label text else token.number text) k q
no_number which p text k q true word none refused = inr ((text, inr (refl, is_one (codes "inf" ∷ codes "nan" ∷ []) text word)), (λ one h. absurd (cc (h.2)), refused))
no_number which p text k q false word none refused = inr ((text, inl refl), (λ one h. none h.1 (ap (whole_text which) (text_is text h.0 h.2) ∙ h.3) h.4, refused))
  where
    text_is : (a b : List ℕ) → token.number a ≡ token.number b → a ≡ b
    text_is a b e = cc

-- a number node of no number of the type
pub value_fault : (o w : Order) (which : Whole) (source : List ℕ) (n : NodeTree) (t : SpannedTree) (k : Refusal) (q : Range ℕ) → placed_of source n ≡ Some t → type_of n ≡ kind.Number → IsNumberOf which (slice source (place_of n)) None → IsRefusalOf InvalidValue (place_of n) k q → FirstFault o w (type.simple (type.whole which)) t k q
value_fault o w which source n t k q e is none refused =
    let i = inside source n t e in
    let text : List ℕ = slice source (place_of n) in
    subst (λ (o : Option Token). OfForm o (span_of t) (LeafFault (type.whole which) (span_of t)) k q) (ap one_in (sym (number_is source n t e is))) (no_number which (span_of t) text k q (is_number_word text) refl none (at_tree InvalidValue (place_of n) (span_of t) k q i.place refused))

not_number : (which : Whole) (ty : NodeType) (p : Range ℕ) (text : List ℕ) (cs : List SpannedTree) (s : SpannedShape) → From ty p text cs s → ty ≢ kind.Number → (t : Token) → one_in s ≡ Some t → IsForm (type.whole which) t → ⊥
not_number which ty p text cs (one (token.label w)) (e, inr (inr h)) apart t is form = apart h.0
not_number which ty p text cs (one (token.label w)) (e, inl h) apart t is (v, inl f) = cc
not_number which ty p text cs (one (token.label w)) (e, inl h) apart t is (v, inr f) = no_true v (cc) f.1
  where
    no_true : (v : List ℕ) → v ≡ codes "true" → IsOneOf (codes "inf" ∷ codes "nan" ∷ []) v → ⊥
    no_true v e (inl f) = cc
    no_true v e (inr (inl f)) = cc
    no_true v e (inr (inr f)) = f
not_number which ty p text cs (one (token.label w)) (e, inr (inl h)) apart t is (v, inl f) = cc
not_number which ty p text cs (one (token.label w)) (e, inr (inl h)) apart t is (v, inr f) = no_false v (cc) f.1
  where
    no_false : (v : List ℕ) → v ≡ codes "false" → IsOneOf (codes "inf" ∷ codes "nan" ∷ []) v → ⊥
    no_false v e (inl f) = cc
    no_false v e (inr (inl f)) = cc
    no_false v e (inr (inr f)) = f
not_number which ty p text cs (one (token.number w)) f apart t is form = apart f.1
not_number which ty p text cs (one (token.char w)) f apart t is (v, inl g) = cc
not_number which ty p text cs (one (token.char w)) f apart t is (v, inr g) = cc
not_number which ty p text cs (one (token.string w)) f apart t is (v, inl g) = cc
not_number which ty p text cs (one (token.string w)) f apart t is (v, inr g) = cc
not_number which ty p text cs (one (token.multiline w)) f apart t is (v, inl g) = cc
not_number which ty p text cs (one (token.multiline w)) f apart t is (v, inr g) = cc
not_number which ty p text cs (one _) f apart t is form = f
not_number which ty p text cs _ f apart t is form = cc

-- a node that is no number
pub number_fault : (o w : Order) (which : Whole) (source : List ℕ) (n : NodeTree) (t : SpannedTree) (k : Refusal) (q : Range ℕ) → placed_of source n ≡ Some t → type_of n ≢ kind.Number → IsRefusalOf InvalidType (place_of n) k q → FirstFault o w (type.simple (type.whole which)) t k q
number_fault o w which source n t k q e apart refused =
    let i = inside source n t e in
    wrong_form (type.whole which) (one_in (shape_of t)) (span_of t) k q (not_number which (type_of n) (place_of n) (slice source (place_of n)) i.children (shape_of t) i.from apart) (at_tree InvalidType (place_of n) (span_of t) k q i.place refused)

-- the refusal of a number is a fault
pub number_blame : (o w : Order) {N : Type 0} (which : Whole) (number : N → ℤ) (source : List ℕ) (n : NodeTree) (t : SpannedTree) (e : Diagnostic) → placed_of source n ≡ Some t → GivesNumber which number source n (Err e) → FirstFault o w (type.simple (type.whole which)) t (refusal_of e) e.span
number_blame o w which number source n t e is (inl h) = number_fault o w which source n t (refusal_of e) e.span is h.0 (said h.1)
number_blame o w which number source n t e is (inr h) = value_fault o w which source n t (refusal_of e) e.span is h.0 h.1 (said h.2)
