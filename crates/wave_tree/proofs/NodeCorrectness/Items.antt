-- The answers of a parser's calls, tied to trees.
use Rattle.std.proofs.Common.{◌≡◌, ◌≢◌, ℕ, ◌<◌, ◌+◌, ◌-◌, inl, inr, true, List, [], ◌∷◌, ◌++◌, refl, sym, ap, subst, ◌∙◌, arith, Some, Result, Ok, Err, Bool, append_assoc}
use Rattle.std.specs.Prelude.{◌⊎◌, IfOk, codes, if◌then◌else◌}
use Rattle.wave_wasm.specs.Names.{is_one_of}
use Rattle.wave_lex.specs.declared.lex.Token as lex
use Rattle.wave_lex.specs.declared.lex.Token.TheVariants.{BraceOpen, BraceClose, ParenOpen, ParenClose, BracketOpen, BracketClose, Colon, Comma, LabelOrKeyword}
use Rattle.wave_grammar.specs.Token as token
use Rattle.wave_grammar.specs.ParserPosition.{Place, TakesItem, text_at, span_at}
use Rattle.wave_grammar.specs.Tree.{word_of, leaf_word, none_word, some_word}
use Rattle.wave_grammar.specs.SpannedTree.{one}
use Rattle.wave_grammar.specs.NodeTree.{NodeTree, node, no_nodes, node_trees}
use Rattle.wave_grammar.specs.declared.form.NodeType.{NodeType}
use Rattle.wave_grammar.specs.declared.form.NodeType.TheVariants as kind
use Rattle.wave_tree.specs.ParsedNodes.{IsParsed, TakesClass}
use Rattle.wave_tree.specs.Private.ParsedNodes.{IsParsedBehind, IsMaybe, IsInParens, IsOfItems, items_type, AreClosedItems, AreFurther, IsClosed, key_node_type, AreFurtherPairs, AreKeyedParts, IsOfEntries, IsOfFlags}
use Rattle.wave_tree.specs.ValueStarts.{IsLabelWord}
use Rattle.wave_tree.specs.Private.TokenRoles.{IsClose, IsKeyClass}
use Rattle.wave_lex.specs.Tokenization.{span}
use Rattle.wave_tree.proofs.NodeCorrectness.Braces.{entries_parsed, empty_parsed, no_fields_parsed}
use Rattle.wave_tree.proofs.NodeCorrectness.Flags.{flags_parsed}
use Rattle.wave_tree.proofs.NodeCorrectness.Tokens.{word_parsed, none_parsed, some_parsed, ok_parsed, err_parsed, case_parsed}
use Rattle.wave_tree.proofs.NodeCorrectness.Lists.{tuple_parsed, list_parsed}

-- a token whose class is known
pub class_as : (p q : Place) (c : lex.Token) (k : lex.Token) → TakesItem p (Some (Ok c)) q → c ≡ k → TakesItem p (Some (Ok k)) q
class_as p q c k h e = subst (λ z. TakesItem p (Some (Ok z)) q) e h

-- as many levels as there were
pub same_level : (n : ℕ) (p q : Place) (parsed : NodeTree) → 0 < n → IsParsed (n - 1 + 1) p q parsed → IsParsed n p q parsed
same_level n p q parsed l h = let e : n - 1 + 1 ≡ n = omega (arith, l) in subst (λ z. IsParsed z p q parsed) e h

pub label_tied : {E : Type 0} (n : ℕ) (p m q : Place) (c : lex.Token) (r : Result NodeTree E) → 0 < n → TakesItem p (Some (Ok c)) m → c ≡ LabelOrKeyword → IfOk r (IsParsedBehind LabelOrKeyword (n - 1 + 1) m q) → IfOk r (IsParsed n p q)
label_tied n p m q c (Ok parsed) l h e k = same_level _ _ _ _ l (k p (class_as _ _ _ LabelOrKeyword h e))
label_tied n p m q c (Err x) l h e k = tt

pub braces_tied : {E : Type 0} (n : ℕ) (p m q : Place) (c : lex.Token) (r : Result NodeTree E) → 0 < n → TakesItem p (Some (Ok c)) m → c ≡ BraceOpen → IfOk r (IsParsedBehind BraceOpen (n - 1 + 1) m q) → IfOk r (IsParsed n p q)
braces_tied n p m q c (Ok parsed) l h e k = same_level _ _ _ _ l (k p (class_as _ _ _ BraceOpen h e))
braces_tied n p m q c (Err x) l h e k = tt

-- the marks of a tuple, or of a list
abbrev AreMarks : lex.Token → lex.Token → Type 0
AreMarks o c = (o ≡ ParenOpen) × (c ≡ ParenClose) ⊎ (o ≡ BracketOpen) × (c ≡ BracketClose)

pub items_tied : {E : Type 0} (n : ℕ) (p m q : Place) (c o close : lex.Token) → AreMarks o close → (r : Result NodeTree E) → 0 < n → TakesItem p (Some (Ok c)) m → c ≡ o → IfOk r (IsOfItems (n - 1) close m q) → IfOk r (IsParsed n p q)
items_tied n p m q c o close (inl (a, b)) (Ok parsed) l h e k = tuple_parsed n p m q parsed l (class_as _ _ _ ParenOpen h (e ∙ a)) (subst (λ z. IsOfItems (n - 1) z m q parsed) b k)
items_tied n p m q c o close (inr (a, b)) (Ok parsed) l h e k = list_parsed n p m q parsed l (class_as _ _ _ BracketOpen h (e ∙ a)) (subst (λ z. IsOfItems (n - 1) z m q parsed) b k)
items_tied n p m q c o close marks (Err x) l h e k = tt

-- `true` or `false`
pub leaf_tied : (n : ℕ) (m : Place) (ty : NodeType) (parsed : NodeTree) → word_of (text_at m) ≡ leaf_word → (ty ≡ kind.BoolTrue) × (text_at m ≡ codes "true") ⊎ (ty ≡ kind.BoolFalse) × (text_at m ≡ codes "false") →
    parsed ≡ node ty (span_at m) no_nodes → IsParsedBehind LabelOrKeyword (n + 1) m m parsed
leaf_tied n m ty parsed w (inl (a, e)) is = λ p h. subst (IsParsed (n + 1) p m) (sym (is ∙ ap (λ z. node z (span_at m) no_nodes) a))
    (word_parsed n p m kind.BoolTrue h w (ap (λ z. Some (one (token.label z))) (sym e)))
leaf_tied n m ty parsed w (inr (a, e)) is = λ p h. subst (IsParsed (n + 1) p m) (sym (is ∙ ap (λ z. node z (span_at m) no_nodes) a))
    (word_parsed n p m kind.BoolFalse h w (ap (λ z. Some (one (token.label z))) (sym e)))

-- `inf` or `nan`
pub number_word_tied : (n : ℕ) (m : Place) (parsed : NodeTree) → word_of (text_at m) ≡ leaf_word → is_one_of (codes "inf" ∷ codes "nan" ∷ []) (text_at m) ≡ true →
    parsed ≡ node kind.Number (span_at m) no_nodes → IsParsedBehind LabelOrKeyword (n + 1) m m parsed
number_word_tied n m parsed w e is = λ p h. subst (IsParsed (n + 1) p m) (sym is)
    (word_parsed n p m kind.Number h w (ap (λ b. Some (one (if b then token.label (text_at m) else token.number (text_at m)))) e))

pub none_tied : (n : ℕ) (m : Place) (parsed : NodeTree) → word_of (text_at m) ≡ none_word → parsed ≡ node kind.OptionNone (span_at m) no_nodes → IsParsedBehind LabelOrKeyword (n + 1) m m parsed
none_tied n m parsed w is = λ p h. subst (IsParsed (n + 1) p m) (sym is) (none_parsed n p m h w)

pub some_tied : (n : ℕ) (m q : Place) (parsed : NodeTree) → word_of (text_at m) ≡ some_word → IsInParens n kind.OptionSome m q parsed → IsParsedBehind LabelOrKeyword (n + 1) m q parsed
some_tied n m q parsed word_is (w, open_there, k) = λ p h. some_parsed n p m w q parsed h word_is open_there k

-- a label with a payload, or without one
pub word_tied : (alone with : NodeType) (n : ℕ) (m q : Place) (parsed : NodeTree) → IsLabelWord alone with (text_at m) → IsMaybe n alone with m q parsed → IsParsedBehind LabelOrKeyword (n + 1) m q parsed
word_tied kind.ResultOk kind.ResultOk n m q parsed word_is k = λ p h. ok_parsed n p m q parsed h word_is k
word_tied kind.ResultErr kind.ResultErr n m q parsed word_is k = λ p h. err_parsed n p m q parsed h word_is k
word_tied kind.Label kind.VariantWithPayload n m q parsed word_is k = λ p h. case_parsed n p m q parsed h word_is k
word_tied _ _ n m q parsed word_is k = absurd word_is

-- ---- items

-- a list that took one more
pub pushed : {A : Type 0} (xs ys : List A) (x : A) (b : Bool) → ys ≡ (if b then xs ++ x ∷ [] else xs) → b ≡ true → ys ≡ xs ++ x ∷ []
pushed xs ys x b e f = e ∙ ap (λ z. if z then xs ++ x ∷ [] else xs) f

pub some_there : {A : Type 0} (xs ys : List A) (x : A) → ys ≡ xs ++ x ∷ [] → ys ≢ []
some_there [] ys x e = λ k. let wrong : x ∷ [] ≡ [] = sym e ∙ k in cc
some_there (z ∷ zs) ys x e = λ k. let wrong : z ∷ (zs ++ x ∷ []) ≡ [] = sym e ∙ k in cc

pub type_of_items : (c : lex.Token) → IsClose c → (c ≡ ParenClose → ⊥) → items_type c ≡ kind.List
type_of_items c (inl e) h = absurd (h e)
type_of_items c (inr e) h = ap items_type e

-- a node of items
pub items_built : (n : ℕ) (close : lex.Token) (p q : Place) (ty : NodeType) (start : ℕ) (ns : List NodeTree) (parsed : NodeTree) → parsed ≡ node ty (span start q.lexer.end) (node_trees ns) → ty ≡ items_type close → start ≡ p.lexer.start →
    AreClosedItems n close p ns q → (close ≡ ParenClose → ns ≢ []) → IsOfItems n close p q parsed
items_built n close p q ty start ns parsed is a b are some = record {
  items = ns;
  are = are;
  some = some;
  is = is ∙ (ap (λ z. node z (span start q.lexer.end) (node_trees ns)) a ∙ ap (λ z. node (items_type close) (span z q.lexer.end) (node_trees ns)) b);
}

-- no items
pub items_none : (n : ℕ) (close : lex.Token) (p w q : Place) (start : ℕ) (ns : List NodeTree) (parsed : NodeTree) → parsed ≡ node kind.List (span start q.lexer.end) (node_trees ns) → ns ≡ [] → IsClose close → (close ≡ ParenClose → ⊥) → start ≡ p.lexer.start →
    w ≡ p → TakesClass close w q → IsOfItems n close p q parsed
items_none n close p w q start ns parsed is none_there i apart b same h =
    items_built n close p q kind.List start [] parsed (is ∙ ap (λ z. node kind.List (span start q.lexer.end) (node_trees z)) none_there) (sym (type_of_items close i apart)) b (subst (λ z. TakesClass close z q) same h) (λ e. absurd (apart e))

-- before the first item
pub items_first : (n : ℕ) (close : lex.Token) (p w : Place) (xs : List NodeTree) → xs ≡ [] → w ≡ p → (item : NodeTree) (m r : Place) (more : List NodeTree) → IsParsed n w m item → AreFurther n close m more r → AreClosedItems n close p (xs ++ item ∷ more) r
items_first n close p w xs e same item m r more h k = subst (λ z. AreClosedItems n close p (z ++ item ∷ more) r) (sym e) (m, subst (λ z. IsParsed n z m item) same h, k)

-- after a comma
pub items_next : (n : ℕ) (close : lex.Token) (p0 p m w v : Place) (xs ys : List NodeTree) (one_item : NodeTree) →
    ((item : NodeTree) (m r : Place) (more : List NodeTree) → IsParsed n p m item → AreFurther n close m more r → AreClosedItems n close p0 (xs ++ item ∷ more) r) →
    IsParsed n p m one_item → TakesClass Comma m w → v ≡ w → ys ≡ xs ++ one_item ∷ [] →
    (item : NodeTree) (b r : Place) (more : List NodeTree) → IsParsed n v b item → AreFurther n close b more r → AreClosedItems n close p0 (ys ++ item ∷ more) r
items_next n close p0 p m w v xs ys one_item go h comma_there same e item b r more k further =
    subst (λ z. AreClosedItems n close p0 z r) (sym (append_assoc xs (one_item ∷ []) (item ∷ more)) ∙ ap (λ z. z ++ item ∷ more) (sym e))
    (go one_item m r (item ∷ more) h (w, b, comma_there, subst (λ z. IsParsed n z b item) same k, further))

-- ---- entries

module _ (n : ℕ) (p0 p b m q : Place) (ty0 ty : NodeType) (children : List NodeTree) (value : NodeTree)
    (go : (cs : List NodeTree) (r : Place) → AreKeyedParts n ty p cs r → AreKeyedParts n ty0 p0 (children ++ cs) r) (colon_there : TakesClass Colon p b) (h : IsParsed n b m value) where
  abbrev key_here : NodeTree
  key_here = node ty (span_at p) no_nodes

  -- after a key, its colon, a value and a comma the next key
  pub keyed_next : (w : Place) (c : lex.Token) (next : NodeType) → TakesClass Comma m w → TakesClass c w q → IsKeyClass c → next ≡ key_node_type c →
      (cs : List NodeTree) (r : Place) → AreKeyedParts n next q cs r → AreKeyedParts n ty0 p0 (((children ++ key_here ∷ []) ++ value ∷ []) ++ cs) r
  keyed_next w c next comma_there key_there is_key same cs r (behind, pairs, then_colon, are, cs_are) =
      let further = subst (λ z. AreFurtherPairs n m z r) (sym cs_are) (w, q, behind, comma_there, (c, key_there, is_key, ap (λ z. node z (span_at q) no_nodes) same), then_colon, are) in
      subst (λ z. AreKeyedParts n ty0 p0 z r) (sym (append_assoc (children ++ key_here ∷ []) (value ∷ []) cs ∙ append_assoc children (key_here ∷ []) (value ∷ cs)))
      (go (key_here ∷ value ∷ cs) r (b, value ∷ cs, colon_there, (m, h, further), refl))

  -- the close after a value
  pub keyed_close : IsClosed BraceClose m q → AreKeyedParts n ty0 p0 ((children ++ key_here ∷ []) ++ value ∷ []) q
  keyed_close close = subst (λ z. AreKeyedParts n ty0 p0 z q) (sym (append_assoc children (key_here ∷ []) (value ∷ []))) (go (key_here ∷ value ∷ []) q (b, value ∷ [], colon_there, (m, h, close), refl))

-- ---- braces

pub empty_tied : (n : ℕ) (m q : Place) (start : ℕ) (ns : List NodeTree) (parsed : NodeTree) → TakesClass BraceClose m q → start ≡ m.lexer.start → ns ≡ [] → parsed ≡ node kind.EmptySet (span start q.lexer.end) (node_trees ns) → IsParsedBehind BraceOpen (n + 1) m q parsed
empty_tied n m q start ns parsed h a b is = λ p k. subst (IsParsed (n + 1) p q) (sym (is ∙ (ap (λ z. node kind.EmptySet (span z q.lexer.end) (node_trees ns)) a ∙ ap (λ z. node kind.EmptySet (span m.lexer.start q.lexer.end) (node_trees z)) b))) (empty_parsed n p m q k h)

pub no_fields_tied : (n : ℕ) (m w q : Place) (start : ℕ) (ns : List NodeTree) (parsed : NodeTree) → TakesClass Colon m w → TakesClass BraceClose w q → start ≡ m.lexer.start → ns ≡ [] → parsed ≡ node kind.TupleSet (span start q.lexer.end) (node_trees ns) → IsParsedBehind BraceOpen (n + 1) m q parsed
no_fields_tied n m w q start ns parsed c h a b is = λ p k. subst (IsParsed (n + 1) p q) (sym (is ∙ (ap (λ z. node kind.TupleSet (span z q.lexer.end) (node_trees ns)) a ∙ ap (λ z. node kind.TupleSet (span m.lexer.start q.lexer.end) (node_trees z)) b))) (no_fields_parsed n p m w q k c h)

pub entries_tied : (n : ℕ) (m k q : Place) (c : lex.Token) (ty : NodeType) (start : ℕ) (parsed : NodeTree) → TakesClass c m k → IsKeyClass c → ty ≡ key_node_type c → start ≡ m.lexer.start → IsOfEntries n start ty k q parsed → IsParsedBehind BraceOpen (n + 1) m q parsed
entries_tied n m k q c ty start parsed key_there is_key same a h = λ p open_there. entries_parsed n p m k q c ty parsed open_there key_there is_key same (subst (λ z. IsOfEntries n z ty k q parsed) a h)

pub flags_tied : {E : Type 0} (n : ℕ) (m k q : Place) (start : ℕ) (r : Result NodeTree E) → TakesClass LabelOrKeyword m k → start ≡ m.lexer.start → IfOk r (IsOfFlags start k q) → IfOk r (IsParsedBehind BraceOpen (n + 1) m q)
flags_tied n m k q start (Ok parsed) label_there a h = λ p open_there. flags_parsed n p m k q parsed open_there label_there (subst (λ z. IsOfFlags z k q parsed) a h)
flags_tied n m k q start (Err x) label_there a h = tt
