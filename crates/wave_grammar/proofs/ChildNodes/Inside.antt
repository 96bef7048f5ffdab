-- What a node is whose tree is known.
use Rattle.std.proofs.Common.{ℕ, ◌≡◌, ◌⊎◌, inl, inr, ◌<◌, List, [], ◌∷◌, length, Option, Some, None, option_map, Bool, true, false, if◌then◌else◌, refl, sym, ap, ◌∙◌, subst, codes, arith}
use Rattle.std.specs.declared.ops.Range.{Range}
use Rattle.wave_wasm.specs.Names.{is_one_of}
use Rattle.wave_grammar.specs.Token.{Token}
use Rattle.wave_grammar.specs.Token as token
use Rattle.wave_grammar.specs.SpannedTree.{SpannedTree, at, SpannedShape, one, tuple, list, empty_braces, no_fields, entries, flags, label, none, some, ok, err, no_placed, a_placed, PlacedEntries, placed_trees, slice, span_of, shape_of, SpellsEach}
use Rattle.wave_grammar.specs.NodeTree.{NodeTree, NodeTrees, node, no_nodes, node_and, node_list, type_of, place_of, children_of}
use Rattle.wave_grammar.specs.Nodes.{placed_of, all_placed, and_then, with_both, shape_from, pairs_of, flags_of, flag_of, key_of, IsParsedFrom}
use Rattle.wave_lex.specs.Tokenization.{Stands}
use Rattle.wave_grammar.specs.declared.form.NodeType.{NodeType}
use Rattle.wave_grammar.specs.declared.form.NodeType.TheVariants as kind

-- which words are numbers
abbrev pub is_number_word : List ℕ → Bool
is_number_word text = is_one_of (codes "inf" ∷ codes "nan" ∷ []) text

-- a node of this type, place and text with these children has the shape
abbrev pub From : NodeType → Range ℕ → List ℕ → List SpannedTree → SpannedShape → Type 0
From ty p text cs (one (token.label w)) =
    (cs ≡ []) × ((ty ≡ kind.BoolTrue) × (w ≡ codes "true") ⊎ (ty ≡ kind.BoolFalse) × (w ≡ codes "false") ⊎ (ty ≡ kind.Number) × (w ≡ text) × (is_number_word w ≡ true))
From ty p text cs (one (token.number w)) = (cs ≡ []) × (ty ≡ kind.Number) × (w ≡ text)
From ty p text cs (one (token.char w)) = (cs ≡ []) × (ty ≡ kind.Char) × (w ≡ text)
From ty p text cs (one (token.string w)) = (cs ≡ []) × (ty ≡ kind.String) × (w ≡ text)
From ty p text cs (one (token.multiline w)) = (cs ≡ []) × (ty ≡ kind.MultilineString) × (w ≡ text)
From ty p text cs (one _) = ⊥
From ty p text cs (tuple ts) = (ty ≡ kind.Tuple) × (ts ≡ placed_trees cs)
From ty p text cs (list ts) = (ty ≡ kind.List) × (ts ≡ placed_trees cs)
From ty p text cs empty_braces = (ty ≡ kind.EmptySet) × (cs ≡ [])
From ty p text cs no_fields = (ty ≡ kind.TupleSet) × (cs ≡ [])
From ty p text cs (entries es) = (ty ≡ kind.TupleSet) × (0 < length cs) × (pairs_of cs ≡ Some es)
From ty p text cs (flags fs) = (ty ≡ kind.Flags) × (flags_of cs ≡ Some fs)
From ty p text cs (label q w no_placed) = (ty ≡ kind.Label) × (q ≡ p) × (w ≡ text) × (cs ≡ [])
From ty p text cs (label q w (a_placed t)) = (ty ≡ kind.VariantWithPayload) × (c : SpannedTree) × (cs ≡ c ∷ t ∷ []) × (flag_of c ≡ Some (q, w))
From ty p text cs none = (ty ≡ kind.OptionNone) × (cs ≡ [])
From ty p text cs (some t) = (ty ≡ kind.OptionSome) × (cs ≡ t ∷ [])
From ty p text cs (ok no_placed) = (ty ≡ kind.ResultOk) × (cs ≡ [])
From ty p text cs (ok (a_placed t)) = (ty ≡ kind.ResultOk) × (cs ≡ t ∷ [])
From ty p text cs (err no_placed) = (ty ≡ kind.ResultErr) × (cs ≡ [])
From ty p text cs (err (a_placed t)) = (ty ≡ kind.ResultErr) × (cs ≡ t ∷ [])

pub some_is : {A : Type 0} (a b : A) → Some a ≡ Some b → a ≡ b
some_is a b e = cc

abbrev number_or_word : Bool → List ℕ → Token
number_or_word b text = if b then token.label text else token.number text

number_from : (b : Bool) (p : Range ℕ) (text : List ℕ) (s : SpannedShape) → is_number_word text ≡ b → one (number_or_word b text) ≡ s → From kind.Number p text [] s
number_from true p text s word e = subst (From kind.Number p text []) e (refl, inr (inr (refl, refl, word)))
number_from false p text s word e = subst (From kind.Number p text []) e (refl, refl, refl)

entries_from : (p : Range ℕ) (text : List ℕ) (cs : List SpannedTree) (o : Option PlacedEntries) (s : SpannedShape) → 0 < length cs → pairs_of cs ≡ o → option_map entries o ≡ Some s → From kind.TupleSet p text cs s
entries_from p text cs (Some es) s lt is e = subst (From kind.TupleSet p text cs) (some_is _ _ e) (refl, lt, is)
entries_from p text cs None s lt is e = absurd (cc)

flags_from : (p : Range ℕ) (text : List ℕ) (cs : List SpannedTree) (o : Option (List (Range ℕ × List ℕ))) (s : SpannedShape) → flags_of cs ≡ o → option_map flags o ≡ Some s → From kind.Flags p text cs s
flags_from p text cs (Some fs) s is e = subst (From kind.Flags p text cs) (some_is _ _ e) (refl, is)
flags_from p text cs None s is e = absurd (cc)

case_from : (p : Range ℕ) (text : List ℕ) (c t : SpannedTree) (o : Option (Range ℕ × List ℕ)) (s : SpannedShape) → flag_of c ≡ o → option_map (λ l. label l.0 l.1 (a_placed t)) o ≡ Some s → From kind.VariantWithPayload p text (c ∷ t ∷ []) s
case_from p text c t (Some l) s is e = subst (From kind.VariantWithPayload p text (c ∷ t ∷ [])) (some_is _ _ e) (refl, c, refl, is)
case_from p text c t None s is e = absurd (cc)

shape_is : (ty : NodeType) (p : Range ℕ) (text : List ℕ) (cs : List SpannedTree) (s : SpannedShape) → shape_from ty p text cs ≡ Some s → From ty p text cs s
shape_is kind.BoolTrue p text [] s e = subst (From kind.BoolTrue p text []) (some_is _ _ e) (refl, inl (refl, refl))
shape_is kind.BoolFalse p text [] s e = subst (From kind.BoolFalse p text []) (some_is _ _ e) (refl, inr (inl (refl, refl)))
shape_is kind.Number p text [] s e = number_from (is_number_word text) p text s refl (some_is _ _ e)
shape_is kind.Char p text [] s e = subst (From kind.Char p text []) (some_is _ _ e) (refl, refl, refl)
shape_is kind.String p text [] s e = subst (From kind.String p text []) (some_is _ _ e) (refl, refl, refl)
shape_is kind.MultilineString p text [] s e = subst (From kind.MultilineString p text []) (some_is _ _ e) (refl, refl, refl)
shape_is kind.Tuple p text cs s e = subst (From kind.Tuple p text cs) (some_is _ _ e) (refl, refl)
shape_is kind.List p text cs s e = subst (From kind.List p text cs) (some_is _ _ e) (refl, refl)
shape_is kind.TupleSet p text [] s e = subst (From kind.TupleSet p text []) (some_is _ _ e) (refl, refl)
shape_is kind.TupleSet p text (k ∷ more) s e = entries_from p text (k ∷ more) (pairs_of (k ∷ more)) s (omega arith) refl e
shape_is kind.EmptySet p text [] s e = subst (From kind.EmptySet p text []) (some_is _ _ e) (refl, refl)
shape_is kind.Label p text [] s e = subst (From kind.Label p text []) (some_is _ _ e) (refl, refl, refl, refl)
shape_is kind.VariantWithPayload p text (c ∷ t ∷ []) s e = case_from p text c t (flag_of c) s refl e
shape_is kind.OptionSome p text (t ∷ []) s e = subst (From kind.OptionSome p text (t ∷ [])) (some_is _ _ e) (refl, refl)
shape_is kind.OptionNone p text [] s e = subst (From kind.OptionNone p text []) (some_is _ _ e) (refl, refl)
shape_is kind.ResultOk p text [] s e = subst (From kind.ResultOk p text []) (some_is _ _ e) (refl, refl)
shape_is kind.ResultOk p text (t ∷ []) s e = subst (From kind.ResultOk p text (t ∷ [])) (some_is _ _ e) (refl, refl)
shape_is kind.ResultErr p text [] s e = subst (From kind.ResultErr p text []) (some_is _ _ e) (refl, refl)
shape_is kind.ResultErr p text (t ∷ []) s e = subst (From kind.ResultErr p text (t ∷ [])) (some_is _ _ e) (refl, refl)
shape_is kind.Flags p text cs s e = flags_from p text cs (flags_of cs) s refl e
shape_is _ p text cs s e = absurd (cc)

-- the nodes within a node
abbrev pub nodes_in : NodeTree → NodeTrees
nodes_in (node ty p ns) = ns

-- a node and what it means: the trees of its children, where it stands, and its shape
pub record Inside (source : List ℕ) (n : NodeTree) (t : SpannedTree) : Type 0 where
  pub children : List SpannedTree
  pub each : all_placed source (nodes_in n) ≡ Some children
  pub place : span_of t ≡ place_of n
  pub shape : shape_from (type_of n) (place_of n) (slice source (place_of n)) children ≡ Some (shape_of t)
  pub from : From (type_of n) (place_of n) (slice source (place_of n)) children (shape_of t)

opened : (source : List ℕ) (ty : NodeType) (p : Range ℕ) (ns : NodeTrees) (q : Range ℕ) (s : SpannedShape) (cs : List SpannedTree) (o : Option SpannedShape) → all_placed source ns ≡ Some cs → shape_from ty p (slice source p) cs ≡ o → option_map (at p) o ≡ Some (at q s) → Inside source (node ty p ns) (at q s)
opened source ty p ns q s cs None each is e = absurd (cc)
opened source ty p ns q s cs (Some r) each is e =
    let same : r ≡ s = ap shape_of (some_is _ _ e) in
    record { children = cs; each = each; place = sym (ap span_of (some_is _ _ e)); shape = is ∙ ap (λ (x : SpannedShape). Some x) same; from = subst (From ty p (slice source p) cs) same (shape_is ty p (slice source p) cs r is) }

with_children : (source : List ℕ) (ty : NodeType) (p : Range ℕ) (ns : NodeTrees) (q : Range ℕ) (s : SpannedShape) (o : Option (List SpannedTree)) → all_placed source ns ≡ o → option_map (at p) (and_then o (shape_from ty p (slice source p))) ≡ Some (at q s) → Inside source (node ty p ns) (at q s)
with_children source ty p ns q s None each e = absurd (cc)
with_children source ty p ns q s (Some cs) each e = opened source ty p ns q s cs (shape_from ty p (slice source p) cs) each refl e

-- a node whose tree is known
pub inside : (source : List ℕ) (n : NodeTree) (t : SpannedTree) → placed_of source n ≡ Some t → Inside source n t
inside source (node ty p ns) (at q s) e = with_children source ty p ns q s (all_placed source ns) refl e

-- a key stands where its node does
pub key_place : (source : List ℕ) (n : NodeTree) (t : SpannedTree) (p : Range ℕ) (key : Token) → Inside source n t → key_of t ≡ Some (p, key) → p ≡ place_of n
key_place source n (at q (label r w no_placed)) p key i e = sym (ap (λ (k : Range ℕ × Token). k.0) (some_is (r, token.label w) (p, key) e)) ∙ i.from.1
key_place source n (at q (one (token.number w))) p key i e = sym (ap (λ (k : Range ℕ × Token). k.0) (some_is (q, token.number w) (p, key) e)) ∙ i.place
key_place source n (at q (one (token.char w))) p key i e = sym (ap (λ (k : Range ℕ × Token). k.0) (some_is (q, token.char w) (p, key) e)) ∙ i.place
key_place source n (at q (one (token.string w))) p key i e = sym (ap (λ (k : Range ℕ × Token). k.0) (some_is (q, token.string w) (p, key) e)) ∙ i.place
key_place source n (at q (one (token.multiline w))) p key i e = sym (ap (λ (k : Range ℕ × Token). k.0) (some_is (q, token.multiline w) (p, key) e)) ∙ i.place
key_place source n _ p key i e = absurd (cc)

-- where a value stands, the source may be split
pub value_stands : (source : List ℕ) (t : SpannedTree) → SpellsEach source t → Stands source (span_of t).start (span_of t).end
value_stands source (at q s) h = h.0.1.0

-- where a node stands that was parsed from the source, the source may be split
pub stands : (source : List ℕ) (n : NodeTree) → IsParsedFrom source n → Stands source (place_of n).start (place_of n).end
stands source n (inl v) =
    subst (λ (p : Range ℕ). Stands source p.start p.end) (inside source n v.0 v.1.0).place (value_stands source v.0 v.1.1)
stands source n (inr k) =
    subst (λ (p : Range ℕ). Stands source p.start p.end) (key_place source n k.2.0.0 k.0 k.1 (inside source n k.2.0.0 k.2.0.1) k.2.0.2) k.2.1.0

-- so it may at a place that is the node's
pub stands_at : (source : List ℕ) (n : NodeTree) (p : Range ℕ) → p ≡ place_of n → IsParsedFrom source n → Stands source p.start p.end
stands_at source n p e h = subst (λ (q : Range ℕ). Stands source q.start q.end) (sym e) (stands source n h)

-- a flag is a key
pub flag_key : (t : SpannedTree) (p : Range ℕ) (w : List ℕ) → flag_of t ≡ Some (p, w) → key_of t ≡ Some (p, token.label w)
flag_key (at q (label r v no_placed)) p w e = ap (λ (o : Option (Range ℕ × List ℕ)). option_map (λ l. (l.0, token.label l.1)) o) e
flag_key _ p w e = absurd (cc)

-- the nodes of a list of trees
abbrev pub AreParsed : List ℕ → List NodeTree → List SpannedTree → Type 0
AreParsed source [] [] = Unit {0}
AreParsed source (n ∷ ns) (t ∷ ts) = (placed_of source n ≡ Some t) × AreParsed source ns ts
AreParsed source _ _ = ⊥

both_are : (a : Option SpannedTree) (b : Option (List SpannedTree)) (ts : List SpannedTree) → with_both (λ t more. t ∷ more) a b ≡ Some ts → (t : SpannedTree) × (more : List SpannedTree) × (a ≡ Some t) × (b ≡ Some more) × (ts ≡ t ∷ more)
both_are (Some t) (Some more) ts e = (t, more, refl, refl, sym (some_is _ _ e))
both_are (Some t) None ts e = absurd (cc)
both_are None (Some more) ts e = absurd (cc)
both_are None None ts e = absurd (cc)

-- the children of a node are those of its trees
pub parsed : (source : List ℕ) (ns : NodeTrees) (ts : List SpannedTree) → all_placed source ns ≡ Some ts → AreParsed source (node_list ns) ts
parsed source no_nodes ts e = subst (λ (us : List SpannedTree). AreParsed source [] us) (some_is _ _ e) tt
parsed source (node_and n more) ts e =
    let b = both_are (placed_of source n) (all_placed source more) ts e in
    subst (λ (us : List SpannedTree). AreParsed source (n ∷ node_list more) us) (sym b.4) (b.2, parsed source more b.1 b.3)

-- the nodes of two trees
pub pair_parsed : (source : List ℕ) (ns : List NodeTree) (c t : SpannedTree) → AreParsed source ns (c ∷ t ∷ []) → (m : NodeTree) × (n : NodeTree) × (ns ≡ m ∷ n ∷ []) × (placed_of source m ≡ Some c) × (placed_of source n ≡ Some t)
pair_parsed source [] c t h = absurd h
pair_parsed source (m ∷ []) c t h = absurd h.1
pair_parsed source (m ∷ n ∷ []) c t h = (m, n, refl, h.0, h.1.0)
pair_parsed source (m ∷ n ∷ o ∷ ns) c t h = absurd h.1.1

-- the nodes within a node, as a list
pub nodes_are : (n : NodeTree) → node_list (nodes_in n) ≡ children_of n
nodes_are (node ty p ns) = refl

-- the nodes of a node mean its trees
pub all_parsed : (source : List ℕ) (n : NodeTree) (t : SpannedTree) (i : Inside source n t) → AreParsed source (children_of n) i.children
all_parsed source n t i = subst (λ (ns : List NodeTree). AreParsed source ns i.children) (nodes_are n) (parsed source (nodes_in n) i.children i.each)
