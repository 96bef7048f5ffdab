-- The label and the payload of a case.
use Rattle.std.proofs.Common.{ℕ, ◌≡◌, ◌<◌, inl, inr, List, [], ◌∷◌, length, get_or, Option, Some, None, option_map, refl, sym, ap, ◌∙◌, subst, arith}
use Rattle.std.specs.declared.ops.Range.{Range}
use Rattle.wave_grammar.specs.Token.{Token}
use Rattle.wave_grammar.specs.Token as token
use Rattle.wave_grammar.specs.SpannedTree.{SpannedTree, SpannedShape, at, label, a_placed, slice, shape_of, SpellsEach}
use Rattle.wave_grammar.specs.NodeTree.{NodeTree, type_of, place_of, children_of, node_list}
use Rattle.wave_grammar.specs.LeafTokens.{name_of}
use Rattle.wave_grammar.specs.NodeAccessors.{node_text}
use Rattle.wave_grammar.specs.Nodes.{shape_from, flag_of, key_of, IsNodeOf, IsParsedFrom}
use Rattle.wave_grammar.specs.TypedReading.{IsValueOf}
use Rattle.wave_grammar.proofs.ChildNodes.Inside.{Inside, inside, some_is, flag_key, AreParsed, parsed, pair_parsed, nodes_in, nodes_are}
use Rattle.wave_grammar.specs.declared.form.NodeType.{NodeType}
use Rattle.wave_grammar.specs.declared.form.NodeType.TheVariants as kind

-- a case with its payload
pub record IsCase (cs : List SpannedTree) (s : SpannedShape) : Type 0 where
  pub name : SpannedTree
  pub payload : SpannedTree
  pub place : Range ℕ
  pub text : List ℕ
  pub children : cs ≡ name ∷ payload ∷ []
  pub labelled : flag_of name ≡ Some (place, text)
  pub shape : s ≡ label place text (a_placed payload)

case_with : (c t : SpannedTree) (s : SpannedShape) (o : Option (Range ℕ × List ℕ)) → flag_of c ≡ o → option_map (λ l. label l.0 l.1 (a_placed t)) o ≡ Some s → IsCase (c ∷ t ∷ []) s
case_with c t s (Some l) is e = record { name = c; payload = t; place = l.0; text = l.1; children = refl; labelled = is; shape = sym (some_is _ _ e) }
case_with c t s None is e = absurd (cc)

-- the shape of a node of a case with its payload
pub case_shape : (p : Range ℕ) (text : List ℕ) (cs : List SpannedTree) (s : SpannedShape) → shape_from kind.VariantWithPayload p text cs ≡ Some s → IsCase cs s
case_shape p text [] s e = absurd (cc)
case_shape p text (c ∷ []) s e = absurd (cc)
case_shape p text (c ∷ t ∷ []) s e = case_with c t s (flag_of c) refl e
case_shape p text (c ∷ t ∷ u ∷ more) s e = absurd (cc)

-- the shape of a node of this type
pub shape_at : (ty : NodeType) (source : List ℕ) (n : NodeTree) (t : SpannedTree) (i : Inside source n t) → type_of n ≡ ty → shape_from ty (place_of n) (slice source (place_of n)) i.children ≡ Some (shape_of t)
shape_at ty source n t i e = subst (λ (k : NodeType). shape_from k (place_of n) (slice source (place_of n)) i.children ≡ Some (shape_of t)) e i.shape

-- the children of a case, the first of which is its label
pub record CaseNodes (source : List ℕ) (n : NodeTree) : Type 0 where
  pub name : NodeTree
  pub payload : NodeTree
  pub children : children_of n ≡ name ∷ payload ∷ []
  pub named : IsParsedFrom source name
  pub valued : IsValueOf source payload

case_of_value : (source : List ℕ) (n : NodeTree) (t : SpannedTree) → IsNodeOf source n t → type_of n ≡ kind.VariantWithPayload → CaseNodes source n
case_of_value source n (at r s) h e =
    let i = inside source n (at r s) h.0 in
    let c = case_shape (place_of n) (slice source (place_of n)) i.children s (shape_at kind.VariantWithPayload source n (at r s) i e) in
    let both = parsed source (nodes_in n) i.children i.each in
    let k = pair_parsed source (node_list (nodes_in n)) c.name c.payload (subst (λ (ts : List SpannedTree). AreParsed source (node_list (nodes_in n)) ts) c.children both) in
    let spelled : SpellsEach source (at r (label c.place c.text (a_placed c.payload))) = subst (λ (x : SpannedShape). SpellsEach source (at r x)) c.shape h.1 in
    record { name = k.0; payload = k.1; children = sym (nodes_are n) ∙ k.2; named = inr (c.place, token.label c.text, ((c.name, k.3, flag_key c.name c.place c.text c.labelled), spelled.1.1)); valued = (c.payload, (k.4, spelled.1.2.1)) }

not_key : (source : List ℕ) (n : NodeTree) (t : SpannedTree) (p : Range ℕ) (key : Token) → Inside source n t → key_of t ≡ Some (p, key) → type_of n ≡ kind.VariantWithPayload → ⊥
not_key source n t p key i is e =
    let c = case_shape (place_of n) (slice source (place_of n)) i.children (shape_of t) (shape_at kind.VariantWithPayload source n t i e) in
    no_key t c.place c.text c.payload c.shape is
  where
    no_key : (t : SpannedTree) (q : Range ℕ) (w : List ℕ) (u : SpannedTree) → shape_of t ≡ label q w (a_placed u) → key_of t ≡ Some (p, key) → ⊥
    no_key (at r s) q w u e is = absurd (cc (sym (ap (λ (x : SpannedShape). key_of (at r x)) e) ∙ is))

pub case_children : (source : List ℕ) (n : NodeTree) → IsParsedFrom source n → type_of n ≡ kind.VariantWithPayload → CaseNodes source n
case_children source n (inl v) e = case_of_value source n v.0 v.1 e
case_children source n (inr k) e = absurd (not_key source n k.2.0.0 k.0 k.1 (inside source n k.2.0.0 k.2.0.1) k.2.0.2 e)

first_of_two : (ns ms : List NodeTree) (a b x : NodeTree) → ns ≡ ms → ms ≡ a ∷ b ∷ [] → x ≡ get_or ns 0 x → x ≡ a
first_of_two ns ms a b x e f g = g ∙ ap (λ (l : List NodeTree). get_or l 0 x) (e ∙ f)

second_of_two : (ns ms : List NodeTree) (a b x : NodeTree) → ns ≡ ms → ms ≡ a ∷ b ∷ [] → x ≡ get_or ns 1 x → x ≡ b
second_of_two ns ms a b x e f g = g ∙ ap (λ (l : List NodeTree). get_or l 1 x) (e ∙ f)

-- a case has two nodes
pub two_nodes : (source : List ℕ) (n : NodeTree) (ns : List NodeTree) → IsParsedFrom source n → type_of n ≡ kind.VariantWithPayload → ns ≡ children_of n → 1 < length ns
two_nodes source n ns h e is = let c = case_children source n h e in omega (arith, ap length (is ∙ c.children))

-- the first of them was parsed from the source
pub label_parsed : (source : List ℕ) (n : NodeTree) (ns : List NodeTree) (x : NodeTree) → IsParsedFrom source n → type_of n ≡ kind.VariantWithPayload → ns ≡ children_of n → x ≡ get_or ns 0 x → IsParsedFrom source x
label_parsed source n ns x h e is first =
    let c = case_children source n h e in
    subst (IsParsedFrom source) (sym (first_of_two ns (children_of n) c.name c.payload x is c.children first)) c.named

-- the label and the payload of a case
pub case_given : (source : List ℕ) (n : NodeTree) (ns : List NodeTree) (x y : NodeTree) (name text : List ℕ) → IsParsedFrom source n → type_of n ≡ kind.VariantWithPayload → ns ≡ children_of n → x ≡ get_or ns 0 x → y ≡ get_or ns 1 y → text ≡ node_text source x → name ≡ name_of text → (a : NodeTree) × (b : NodeTree) × (type_of n ≡ kind.VariantWithPayload) × (children_of n ≡ a ∷ b ∷ []) × (name ≡ name_of (node_text source a)) × (Some y ≡ Some b) × IsValueOf source b
case_given source n ns x y name text h e is first second at_x is_name =
    let c = case_children source n h e in
    let x_is : x ≡ c.name = first_of_two ns (children_of n) c.name c.payload x is c.children first in
    let y_is : y ≡ c.payload = second_of_two ns (children_of n) c.name c.payload y is c.children second in
    (c.name, c.payload, e, c.children, is_name ∙ (ap name_of at_x ∙ ap (λ (m : NodeTree). name_of (node_text source m)) x_is), ap (λ (m : NodeTree). Some m) y_is, c.valued)
