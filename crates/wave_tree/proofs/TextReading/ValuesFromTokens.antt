-- Values that are read while their tokens are taken.
use Rattle.std.proofs.Common.{ℕ, ◌≡◌, ◌≢◌, ◌⊎◌, inl, inr, zero, suc, List, [], ◌∷◌, ◌++◌, Option, Some, Result, Ok, Err, refl, sym, ap, subst, ◌∙◌}
use Rattle.std.specs.Prelude.{IfOk, IfErr}
use Rattle.std.specs.Borrow.{Bor}
use Rattle.std.specs.declared.ops.Range.{Range}
use Rattle.wave_wasm.specs.Types.{TypeTree, IsRepresentable}
use Rattle.wave_wasm.specs.Borrowed.{denoted}
use Rattle.wave_wasm.specs.HasType.{HasType}
use Rattle.wave_lex.specs.Labels.{HasDistinctLabels}
use Rattle.wave_wasm.specs.Values.{Value}
use Rattle.wave_lex.specs.declared.lex.Token as lex
use Rattle.wave_lex.specs.declared.lex.Token.TheVariants.{ParenOpen, BracketOpen}
use Rattle.wave_lex.specs.declared.error.ParserErrorKind.TheVariants as because
use Rattle.wave_lex.specs.Errors.{Diagnostic, LiesInText}
use Rattle.wave_lex.proofs.Tokenization.NextToken.{next_one}
use Rattle.wave_grammar.specs.Token.{Token, paren_open, bracket_open}
use Rattle.wave_grammar.specs.Tree as form
use Rattle.wave_grammar.specs.Tree.{Tree, Trees, trees, Takes}
use Rattle.wave_grammar.specs.SpannedTree.{SpannedTree, SpannedShape, tuple, list, shape_of, tree_of, tree_of_shape}
use Rattle.wave_grammar.specs.ParserPosition.{Place, TakesItem, text_at, token_of}
use Rattle.wave_grammar.specs.PrefixAutomaton.{value}
use Rattle.wave_grammar.specs.SyntaxErrors.{LeadsBehindValue}
use Rattle.wave_grammar.specs.NodeTree.{NodeTree, type_of}
use Rattle.wave_grammar.specs.Nodes.{placed_of}
use Rattle.wave_grammar.specs.TypedReading.{IsValueOf}
use Rattle.wave_grammar.specs.declared.form.NodeType.{NodeType}
use Rattle.wave_grammar.specs.declared.form.NodeType.TheVariants as kind
use Rattle.wave_grammar.proofs.ByKind.Leaves.{tree_is}
use Rattle.wave_grammar.proofs.ChildNodes.Inside.{From, inside}
use Rattle.wave_grammar.proofs.ErrorSpans.Nodes.{all_in_text}
use Rattle.wave_grammar.proofs.OneFault.FaultyTrees.{refused}
use Rattle.wave_grammar.specs.FaultOrder.{in_text}
use Rattle.wave_leaf.specs.PlainReading.{IsPlain, IsReadSparing}
use Rattle.wave_leaf.specs.Reading.{IsReadAs}
use Rattle.wave_tree.specs.ParserState.{BeginsRow}
use Rattle.wave_tree.specs.ParsedNodes.{IsParsed, IsNodeTaken, IsSound}
use Rattle.wave_tree.specs.Private.ParsedNodes.{IsNodeBuilt}
use Rattle.wave_tree.specs.FromStr.{IsValueTaken, IsTypeRefused, IsCausedBetween, PrintsWithinTwice}
use Rattle.wave_tree.proofs.TextReading.Meaning.{node_parsed}
use Rattle.wave_tree.proofs.TextReading.TypedTexts.{node_read, node_refused, value_prints}

module _ {V : Type 0} (tree : V → Value) (of : V → TypeTree → Type 0) (Full : TypeTree → Type 0) where
  -- the tokens of a node were taken, and this is the answer to reading it at the type
  pub record IsAnswered (T : TypeTree) (n : ℕ) (old new : Place) (r : Result V Diagnostic) : Type 0 where
    pub node : NodeTree
    pub led : LeadsBehindValue n value [] old new []
    pub taken : IsNodeTaken n old new node
    pub read : IsReadAs tree of Full in_text in_text T old.lexer.source node r

  pub answered : (T : TypeTree) (n : ℕ) (old new : Place) (r : Result V Diagnostic) (m : NodeTree) → IsSound old → LeadsBehindValue n value [] old new [] → IsParsed n old new m → IsReadAs tree of Full in_text in_text T old.lexer.source m r → IsAnswered T n old new r
  answered T n old new r m sound led parsed read = record { node = m; led = led; taken = node_parsed n old new m sound parsed; read = read }

  -- the node is that of a value
  is_value : (n : ℕ) (old new : Place) (m : NodeTree) → IsNodeTaken n old new m → IsValueOf old.lexer.source m
  is_value n old new m taken = (taken.placed, taken.is_node)

  pub answered_value : (T : TypeTree) (n : ℕ) (old new : Place) (v : V) → IsAnswered T n old new (Ok v) → IsValueTaken tree of T n old new v
  answered_value T n old new v h = node_read tree of T n old.lexer.source old new h.node v refl h.led h.taken h.read.answer

  pub answered_refused : (T : TypeTree) (n : ℕ) (old new : Place) (e : Diagnostic) → IsAnswered T n old new (Err e) → e.kind ≢ because.OutOfMemory → IsTypeRefused Full T n e old new
  answered_refused T n old new e h apart =
      node_refused Full T n old.lexer.source old new h.node e refl h.led h.taken (h.read.within (is_value n old new h.node h.taken)).1
      (λ t is distinct. refused tree of Full in_text T t (Err e) distinct (h.read.answer t is distinct)) apart

  pub answered_within : (T : TypeTree) (n : ℕ) (old new : Place) (r : Result V Diagnostic) → IsAnswered T n old new r → IfErr r (λ e. LiesInText old.lexer.source e.span)
  answered_within T n old new r h = let value = is_value n old new h.node h.taken in all_in_text old.lexer.source h.node r (inl value) (h.read.within value)

  pub answered_caused : (T : TypeTree) (n : ℕ) (old new : Place) (e : Diagnostic) → IsAnswered T n old new (Err e) → IsCausedBetween n old new e
  answered_caused T n old new e h = λ was. (h.node, h.taken, (h.read.within (is_value n old new h.node h.taken)).0.caused was)

-- a value that was read prints within twice as many levels
pub all_print : {V E : Type 0} (tree : V → Value) (of : V → TypeTree → Type 0) → ((v : V) (T : TypeTree) → of v T → HasType T (tree v)) → (T : TypeTree) (n : ℕ) (old new : Place) (r : Result V E) → IfOk r (IsValueTaken tree of T n old new) → HasDistinctLabels T → IsRepresentable T → IfOk r (λ v. PrintsWithinTwice T n (tree v))
all_print tree of fits T n old new (Ok v) h labelled representable = value_prints tree of fits T n old new v h labelled representable
all_print tree of fits T n old new (Err e) h labelled representable = tt

-- ---- tuples and lists

tuple_taken : (n : ℕ) (prefix rest : List Token) (t : Tree) → Takes n (paren_open ∷ prefix) t rest → (ts : Trees) × (t ≡ form.tuple ts)
tuple_taken zero prefix rest t h = absurd h
tuple_taken (suc n) prefix rest t (items, some, are, is) = (trees items, is)

list_taken : (n : ℕ) (prefix rest : List Token) (t : Tree) → Takes n (bracket_open ∷ prefix) t rest → (ts : Trees) × (t ≡ form.list ts)
list_taken zero prefix rest t h = absurd h
list_taken (suc n) prefix rest t (items, are, is) = (trees items, is)

tuple_from : (ty : NodeType) (p : Range ℕ) (text : List ℕ) (cs : List SpannedTree) (s : SpannedShape) (ts : Trees) → From ty p text cs s → tree_of_shape s ≡ form.tuple ts → ty ≡ kind.Tuple
tuple_from ty p text cs (tuple items) ts f is = f.0
tuple_from ty p text cs _ ts f is = absurd (cc)

list_from : (ty : NodeType) (p : Range ℕ) (text : List ℕ) (cs : List SpannedTree) (s : SpannedShape) (ts : Trees) → From ty p text cs s → tree_of_shape s ≡ form.list ts → ty ≡ kind.List
list_from ty p text cs (list items) ts f is = f.0
list_from ty p text cs _ ts f is = absurd (cc)

-- the node of a tree of this shape
tuple_type : (source : List ℕ) (n : NodeTree) (t : SpannedTree) (ts : Trees) → placed_of source n ≡ Some t → tree_of t ≡ form.tuple ts → type_of n ≡ kind.Tuple
tuple_type source n t ts is e = let i = inside source n t is in tuple_from (type_of n) _ _ i.children (shape_of t) ts i.from (sym (tree_is t (shape_of t) refl) ∙ e)

list_type : (source : List ℕ) (n : NodeTree) (t : SpannedTree) (ts : Trees) → placed_of source n ≡ Some t → tree_of t ≡ form.list ts → type_of n ≡ kind.List
list_type source n t ts is e = let i = inside source n t is in list_from (type_of n) _ _ i.children (shape_of t) ts i.from (sym (tree_is t (shape_of t) refl) ∙ e)

-- the token that stands there is the one that does
same_class : (p q r : Place) (c d : lex.Token) → TakesItem p (Some (Ok c)) q → TakesItem p (Some (Ok d)) r → d ≡ c
same_class p q r c d h k = let same = (next_one p.lexer q.lexer r.lexer (Some (Ok c)) (Some (Ok d)) h.0 k.0).1 in cc

-- a node whose first token is the mark of a tuple or a list is one
pub row_there : (n : ℕ) (old new : Place) (parsed : NodeTree) → IsSound old → IsParsed n old new parsed → BeginsRow old → (type_of parsed ≡ kind.Tuple) ⊎ (type_of parsed ≡ kind.List)
row_there n old new parsed sound h (q, inl mark) =
    let (c, item, is) = h.begins in
    let token : h.token ≡ paren_open = is ∙ ap (λ z. token_of z (text_at h.first)) (same_class old q h.first ParenOpen c mark item) in
    let (ts, built) = tuple_taken n (h.others ++ []) [] (tree_of h.placed) (subst (λ z. Takes n (z ∷ (h.others ++ [])) (tree_of h.placed) []) token (h.takes [] (λ more e. cc))) in
    inl (tuple_type old.lexer.source parsed h.placed ts (h.is_node sound).0 built)
row_there n old new parsed sound h (q, inr mark) =
    let (c, item, is) = h.begins in
    let token : h.token ≡ bracket_open = is ∙ ap (λ z. token_of z (text_at h.first)) (same_class old q h.first BracketOpen c mark item) in
    let (ts, built) = list_taken n (h.others ++ []) [] (tree_of h.placed) (subst (λ z. Takes n (z ∷ (h.others ++ [])) (tree_of h.placed) []) token (h.takes [] (λ more e. cc))) in
    inr (list_type old.lexer.source parsed h.placed ts (h.is_node sound).0 built)

-- ---- the type that is expected

-- what was made of a node there; at a plain type a tuple or a list is refused without memory
pub typed_answered : {V S : Type 0} (tree : V → Value) (of : V → TypeTree → Type 0) (Full : TypeTree → Type 0) (type_tree : S → TypeTree) (n : ℕ) (old new : Place) (r : Result V Diagnostic) (o : Option (Bor S)) (x : Bor S) → o ≡ Some x → IsSound old →
    LeadsBehindValue n value [] old new [] → IsNodeBuilt (IsReadSparing tree of Full in_text in_text (denoted type_tree o)) old (IsParsed n old new) r →
    IsAnswered tree of Full (type_tree x.now) n old new r × (IsPlain (type_tree x.now) → BeginsRow old → IfErr r (λ e. e.kind ≢ because.OutOfMemory))
typed_answered {V} {S} tree of Full type_tree n old new r o x expected sound led (m, parsed, read) =
    let given = subst (λ (z : Option (Bor S)). IsReadSparing tree of Full in_text in_text (denoted type_tree z) old.lexer.source m r) expected read in
    (answered tree of Full (type_tree x.now) n old new r m sound led parsed given.0, λ plain row. given.1 plain (row_there n old new m sound parsed row))
