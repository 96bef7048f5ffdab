-- The nodes that a parser makes of the tokens that it takes.
use Rattle.std.specs.Prelude.{ℕ, ◌≡◌, ◌≢◌, ◌⊎◌, List, [], ◌∷◌, ◌++◌, map}
use Rattle.std.specs.declared.ops.Range.{Range}
use Rattle.wave_wasm.specs.Names.{AreDistinct}
use Rattle.wave_lex.specs.declared.lex.Token as lex
use Rattle.wave_lex.specs.declared.lex.Token.TheVariants as class
use Rattle.wave_lex.specs.Tokenization.{span}
use Rattle.wave_lex.specs.Errors.{Diagnostic}
use Rattle.wave_grammar.specs.NodeParts.{TakesPart}
use Rattle.wave_grammar.specs.NodeTree.{NodeTree, node, no_nodes, node_trees}
use Rattle.wave_tree.specs.Private.TokenRoles.{IsKeyClass}
use Rattle.wave_grammar.specs.ParserPosition.{Place, span_at, text_at}
use Rattle.wave_grammar.specs.declared.form.NodeType.{NodeType}
use Rattle.wave_grammar.specs.declared.form.NodeType.TheVariants as kind
use Rattle.wave_grammar.specs.FlagOrder.{Flag, flag_name, flags_in_order}
use Rattle.wave_tree.specs.ParsedNodes.{IsParsed, TakesClass}
use Rattle.wave_node.specs.FlagNodes.{flag_node}

-- after a token of this class, which was taken before, stands what is left of a tree
abbrev pub IsParsedBehind : lex.Token → ℕ → Place → Place → NodeTree → Type 0
IsParsedBehind c n first new parsed = (old : Place) → TakesClass c old first → IsParsed n old new parsed

-- the type of a node of a keyword or a label, and its payload
abbrev pub IsOfPayload : NodeType → Type 0
IsOfPayload kind.OptionSome = Unit {0}
IsOfPayload kind.VariantWithPayload = Unit {0}
IsOfPayload kind.ResultOk = Unit {0}
IsOfPayload kind.ResultErr = Unit {0}
IsOfPayload _ = ⊥

-- the children before a payload: the label of a case, at this place
abbrev pub label_children : NodeType → Range ℕ → List NodeTree
label_children kind.VariantWithPayload p = node kind.Label p no_nodes ∷ []
label_children _ p = []

-- a value and a close parenthesis, after these children, in a node that starts there
pub record IsPayload (n : ℕ) (ty : NodeType) (start : ℕ) (children : List NodeTree) (old new : Place) (parsed : NodeTree) : Type 0 where
  pub payload : NodeTree
  pub behind : Place
  pub inner : IsParsed n old behind payload
  pub close : TakesClass class.ParenClose behind new
  pub is : parsed ≡ node ty (span start new.lexer.end) (node_trees (children ++ payload ∷ []))

-- after the keyword or the label at the place old its payload in parentheses
abbrev pub IsInParens : ℕ → NodeType → Place → Place → NodeTree → Type 0
IsInParens n ty old new parsed =
    (m : Place) × TakesClass class.ParenOpen old m × IsPayload n ty old.lexer.start (label_children ty (span_at old)) m new parsed

-- after a label no payload, or one in parentheses
abbrev pub IsMaybe : ℕ → NodeType → NodeType → Place → Place → NodeTree → Type 0
IsMaybe n alone with old new parsed = (new ≡ old) × (parsed ≡ node alone (span_at old) no_nodes) ⊎ IsInParens n with old new parsed

-- the close, or a comma and the close
abbrev pub IsClosed : lex.Token → Place → Place → Type 0
IsClosed close p q = TakesClass close p q ⊎ ((m : Place) × TakesClass class.Comma p m × TakesClass close m q)

-- each further item after its comma, then the close
abbrev pub AreFurther : ℕ → lex.Token → Place → List NodeTree → Place → Type 0
AreFurther n close p [] q = IsClosed close p q
AreFurther n close p (item ∷ more) q =
    (m : Place) × (behind : Place) × TakesClass class.Comma p m × IsParsed n m behind item × AreFurther n close behind more q

-- the items and the close
abbrev pub AreClosedItems : ℕ → lex.Token → Place → List NodeTree → Place → Type 0
AreClosedItems n close p [] q = TakesClass close p q
AreClosedItems n close p (item ∷ more) q = (behind : Place) × IsParsed n p behind item × AreFurther n close behind more q

-- the type of the node of these items
abbrev pub items_type : lex.Token → NodeType
items_type class.ParenClose = kind.Tuple
items_type _ = kind.List

-- a node of items, which starts with the mark before the place old; no tuple is empty
pub record IsOfItems (n : ℕ) (close : lex.Token) (old new : Place) (parsed : NodeTree) : Type 0 where
  pub items : List NodeTree
  pub are : AreClosedItems n close old items new
  pub some : close ≡ class.ParenClose → items ≢ []
  pub is : parsed ≡ node (items_type close) (span old.lexer.start new.lexer.end) (node_trees items)

-- the type of a key's node
abbrev pub key_node_type : lex.Token → NodeType
key_node_type class.Number = kind.Number
key_node_type class.Char = kind.Char
key_node_type class.String = kind.String
key_node_type class.MultilineString = kind.MultilineString
key_node_type _ = kind.Label

-- the node is that of the key that stands next
abbrev pub IsKeyAt : Place → NodeTree → Place → Type 0
IsKeyAt p parsed q = (c : lex.Token) × TakesClass c p q × IsKeyClass c × (parsed ≡ node (key_node_type c) (span_at q) no_nodes)

abbrev mutual
  -- after a key and its colon: its value, and the further keys and values
  pub ArePairs : ℕ → Place → List NodeTree → Place → Type 0
  ArePairs n p [] q = ⊥
  ArePairs n p (value ∷ more) q = (behind : Place) × IsParsed n p behind value × AreFurtherPairs n behind more q

  -- further keys and values, each pair after its comma, then the close
  pub AreFurtherPairs : ℕ → Place → List NodeTree → Place → Type 0
  AreFurtherPairs n p [] q = IsClosed class.BraceClose p q
  AreFurtherPairs n p (key ∷ more) q =
      (m : Place) × (k : Place) × (behind : Place) × TakesClass class.Comma p m × IsKeyAt m key k × TakesClass class.Colon k behind × ArePairs n behind more q

-- the key at this place, of a node of this type, and after its colon what follows it
abbrev pub AreKeyedParts : ℕ → NodeType → Place → List NodeTree → Place → Type 0
AreKeyedParts n ty p cs q =
    (behind : Place) × (pairs : List NodeTree) × TakesClass class.Colon p behind × ArePairs n behind pairs q × (cs ≡ node ty (span_at p) no_nodes ∷ pairs)

-- a node of entries from start on, whose first key, of this type, was taken last at the place old
pub record IsOfEntries (n : ℕ) (start : ℕ) (ty : NodeType) (old new : Place) (parsed : NodeTree) : Type 0 where
  pub children : List NodeTree
  pub are : AreKeyedParts n ty old children new
  pub is : parsed ≡ node kind.TupleSet (span start new.lexer.end) (node_trees children)

-- each further flag after its comma, then the close
abbrev pub AreFurtherFlags : Place → List Flag → Place → Type 0
AreFurtherFlags p [] q = IsClosed class.BraceClose p q
AreFurtherFlags p (f ∷ more) q =
    (m : Place) × (k : Place) × TakesClass class.Comma p m × TakesClass class.LabelOrKeyword m k × (f ≡ (span_at k, text_at k)) × AreFurtherFlags k more q

-- a node of flags after its first one, which starts there
pub record IsOfFlags (start : ℕ) (old new : Place) (parsed : NodeTree) : Type 0 where
  pub more : List Flag
  pub are : AreFurtherFlags old more new
  pub distinct : AreDistinct (map flag_name ((span_at old, text_at old) ∷ more))
  pub is : parsed ≡ node kind.Flags (span start new.lexer.end) (node_trees (map flag_node (flags_in_order ((span_at old, text_at old) ∷ more))))

-- this was made of a node, of the place's source, for which this holds
abbrev pub IsNodeBuilt : {M : Type 0} → (List ℕ → NodeTree → M → Type 0) → Place → (NodeTree → Type 0) → M → Type 0
IsNodeBuilt Of p Is built = (n : NodeTree) × Is n × Of p.lexer.source n built

-- to parts made of the first children of a node a part was added, read from the place first on
abbrev pub HasPartBehind : {M : Type 0} → (List ℕ → NodeType → List NodeTree → M → Type 0) → ℕ → Place → Place → M → M → Type 0
HasPartBehind Are n first new before after =
    (of : NodeType) (children : List NodeTree) → TakesPart of children → Are first.lexer.source of children before
    → (part : NodeTree) × IsParsed n first new part × Are first.lexer.source of (children ++ part ∷ []) after

-- an error is so, where parts were made of the first children of a node
abbrev pub WithParts : {M : Type 0} → (List ℕ → NodeType → List NodeTree → M → Type 0) → M → (Diagnostic → Type 0) → Diagnostic → Type 0
WithParts Are parts Is e = (source : List ℕ) (of : NodeType) (children : List NodeTree) → Are source of children parts → Is e

-- a comma and a number were taken
abbrev pub TakesNumber : Place → Place → Type 0
TakesNumber p q = (comma : Place) × TakesClass class.Comma p comma × TakesClass class.Number comma q

-- the node of the number that was taken last
abbrev pub number_node : Place → NodeTree
number_node p = node kind.Number (span_at p) no_nodes

-- at these places numbers were taken in turn, the first at p: behind each a comma and the next number, of which the last ends at q
abbrev pub AreNumbersInTurn : Place → List Place → Place → Type 0
AreNumbersInTurn p [] q = q ≡ p
AreNumbersInTurn p (one ∷ more) q = (one ≡ p) × (next : Place) × TakesNumber p next × AreNumbersInTurn next more q

-- numbers in turn were added to the parts of a list or a tuple, all but the one that ends at q
pub record AreNumbersAdded {M : Type 0} (Are : List ℕ → NodeType → List NodeTree → M → Type 0) (p : Place) (before : M) (q : Place) (after : M) : Type 0 where
  pub places : List Place
  pub turn : AreNumbersInTurn p places q
  pub added : (of : NodeType) (children : List NodeTree) → ((any : List NodeTree) → TakesPart of any) → Are p.lexer.source of children before
      → Are q.lexer.source of (children ++ map number_node places) after
