-- What untyped calls are in a contract, and what reading one from a text answers.
use Rattle.std.specs.Prelude.{ℕ, ◌+◌, ◌≡◌, ◌≢◌, ◌⊎◌, ◌++◌, List, [], ◌∷◌, Option, Some, None, take, drop, codes}
use Rattle.wave_wasm.specs.Types.{TypeTree}
use Rattle.wave_wasm.specs.Values.{Value}
use Rattle.std.specs.declared.ops.Range.{Range}
use Rattle.wave_lex.specs.declared.lex.Token.TheVariants.{ParenOpen, ParenClose}
use Rattle.wave_lex.specs.declared.error.ParserErrorKind.TheVariants.{InvalidToken, UnexpectedEnd, OutOfMemory}
use Rattle.wave_lex.specs.LongestMatch.{IsPrefixOf}
use Rattle.wave_lex.specs.Tokens.{any}
use Rattle.wave_lex.specs.FunctionName.{IsName, NoName}
use Rattle.wave_lex.specs.Tokenization.{span}
use Rattle.wave_grammar.specs.Token.{Token, TokenizesTo}
use Rattle.wave_grammar.specs.Tree.{MaybeTree, no_tree, a_tree, Takes}
use Rattle.wave_grammar.specs.Calls.{SpellsParams, IsCall}
use Rattle.wave_grammar.specs.ParserPosition as place
use Rattle.wave_grammar.specs.ParserPosition.{Place, TakesTokens}
use Rattle.wave_grammar.specs.PrefixAutomaton.{value, first_item, tuple}
use Rattle.wave_lex.specs.Errors.{Diagnostic, Says}
use Rattle.wave_grammar.specs.SyntaxErrors.{LeadsBehindValue, IsSyntaxError}
use Rattle.wave_grammar.specs.SpannedTree.{SpannedTree, tree_of, slice}
use Rattle.wave_grammar.specs.NodeTree.{NodeTree, type_of}
use Rattle.wave_grammar.specs.Nodes.{IsNodeOf}
use Rattle.wave_grammar.specs.TypedReading.{IsValueOf}
use Rattle.wave_tree.specs.ParsedNodes.{TakesClass, StandsBetween}
use Rattle.wave_tree.specs.ParserState.{Fails, IsTrailing}
use Rattle.wave_tree.specs.NodeDisplay.{display_at}
use Rattle.wave_grammar.specs.NodeParams.{GivesParams, RefusesParams, AreOmitted, RefusesNone}
use Rattle.wave_grammar.specs.declared.form.NodeType.TheVariants as kind

-- an untyped call: its source, where its name stands, and the node of its parameters, if there are any
pub record Called : Type 0 where
  pub source : List ℕ
  pub name : Range ℕ
  pub params : Option NodeTree

-- the node is the tuple of the parameters
abbrev pub IsParamsOf : List ℕ → Option NodeTree → Type 0
IsParamsOf source None = Unit {0}
IsParamsOf source (Some n) = IsValueOf source n × (type_of n ≡ kind.Tuple)

-- the tuple that a node means, or nothing for none
abbrev pub MeansParams : List ℕ → Option NodeTree → MaybeTree → Type 0
MeansParams source None params = params ≡ no_tree
MeansParams source (Some n) params = (t : SpannedTree) × IsNodeOf source n t × (params ≡ a_tree (tree_of t))

-- after a function name of k bytes, before its parameters
abbrev pub behind_name : List ℕ → ℕ → Place
behind_name s k = record { lexer = record { source = s; start = 0; end = k }; taken = 0 }

-- the node of the parameters stands from the first token after a name of k bytes to the last token of the text
abbrev pub ParamsStand : List ℕ → ℕ → Option NodeTree → Type 0
ParamsStand s k None = Unit {0}
ParamsStand s k (Some n) =
    (t : SpannedTree) × (tokens : List Token) × (last : Place) × (behind : Place)
    × IsNodeOf s n t × TakesTokens (behind_name s k) tokens last
    × StandsBetween (behind_name s k) last t × place.TakesItem last None behind

-- the call keeps the text, which is a call of its name, at its start, with the parameters that its node means
pub record IsCalledOf (s : List ℕ) (u : Called) : Type 0 where
  pub source : u.source ≡ s
  pub params : MaybeTree
  pub means : MeansParams s u.params params
  pub call : IsCall s (slice s u.name) params
  pub name : u.name ≡ span 0 call.bytes
  pub stands : ParamsStand s call.bytes u.params

-- the text is a name, whitespace, the parameters, each within n levels, and whitespace; within 100 it is a call as of IsCall
pub record IsCallWithin (n : ℕ) (s name : List ℕ) (params : MaybeTree) : Type 0 where
  pub bytes : ℕ
  pub tokens : List Token
  pub named : IsName s bytes
  pub is : name ≡ take bytes s
  pub cut : TokenizesTo (drop bytes s) tokens
  pub spelled : SpellsParams n tokens params

-- the call keeps the text, which is a call within n levels, as IsCalledOf says of 100
pub record IsCalledWithin (n : ℕ) (s : List ℕ) (u : Called) : Type 0 where
  pub source : u.source ≡ s
  pub params : MaybeTree
  pub means : MeansParams s u.params params
  pub call : IsCallWithin n s (slice s u.name) params
  pub name : u.name ≡ span 0 call.bytes
  pub stands : ParamsStand s call.bytes u.params

-- the parser took the tokens of a tuple that the node means, each of its items within n levels
pub record IsTupleTaken (n : ℕ) (old new : Place) (parsed : NodeTree) : Type 0 where
  pub read : LeadsBehindValue (n + 1) value [] old new []
  pub ty : type_of parsed ≡ kind.Tuple
  pub placed : SpannedTree
  pub is_node : IsNodeOf old.lexer.source parsed placed
  pub tokens : List Token
  pub taken : TakesTokens old tokens new
  pub takes : Takes (n + 1) tokens (tree_of placed) []
  pub stands : StandsBetween old new placed

-- the parser took the parameters, each within n levels
abbrev pub AreParamsTaken : ℕ → Place → Place → Option NodeTree → Type 0
AreParamsTaken n old new None = (m : Place) × TakesClass ParenOpen old m × TakesClass ParenClose m new
AreParamsTaken n old new (Some parsed) = IsTupleTaken n old new parsed

-- no `(` stands there; or what is after it is no `)`, and is refused where items of a tuple are expected, each within n levels
abbrev pub RefusesTuple : ℕ → Diagnostic → Place → Place → Type 0
RefusesTuple n e old new =
    Fails (λ c. c ≡ ParenOpen) e old new
    ⊎ ((m : Place) × TakesClass ParenOpen old m × ((q : Place) → TakesClass ParenClose m q → ⊥) × IsSyntaxError e (n + 1) first_item (tuple ∷ []) m new)

-- the text is empty, or begins with no function name
abbrev pub NameFault : List ℕ → Diagnostic → Type 0
NameFault s e =
    (s ≡ []) × Says e UnexpectedEnd (span 0 0) None
    ⊎ ((k : ℕ) × NoName s × IsPrefixOf any s k × Says e InvalidToken (span 0 k) None)

-- what is wrong with the text: it begins with no name; or no parameters, each within n levels, follow the name; or something follows them
abbrev pub CallFaultWithin : ℕ → List ℕ → Diagnostic → Type 0
CallFaultWithin n s e =
    NameFault s e
    ⊎ ((k : ℕ) × (p : Place) × IsName s k × RefusesTuple n e (behind_name s k) p)
    ⊎ ((k : ℕ) × (p : Place) × (params : Option NodeTree) × IsName s k × AreParamsTaken n (behind_name s k) p params × IsTrailing e p)

-- so within 100 levels
abbrev pub CallFault : List ℕ → Diagnostic → Type 0
CallFault s e = CallFaultWithin 100 s e

-- the text is no call within n levels
abbrev pub IsNoCallWithin : ℕ → List ℕ → Type 0
IsNoCallWithin n s = (name : List ℕ) (params : MaybeTree) → IsCallWithin n s name params → ⊥

-- the text is no call, so none within 100 levels
abbrev pub IsNoCall : List ℕ → Type 0
IsNoCall s = (name : List ℕ) (params : MaybeTree) → IsCall s name params → ⊥

-- out of memory; or a fault of the text, which is no call within n levels
abbrev pub RefusesCallWithin : ℕ → List ℕ → Diagnostic → Type 0
RefusesCallWithin n s e = (e.kind ≢ OutOfMemory) → CallFaultWithin n s e × IsNoCallWithin n s

-- out of memory; or a fault of the text, which is no call
abbrev pub RefusesCall : List ℕ → Diagnostic → Type 0
RefusesCall s e = (e.kind ≢ OutOfMemory) → CallFault s e × IsNoCall s

-- out of memory stands at the name
abbrev pub MemoryAtName : List ℕ → Diagnostic → Type 0
MemoryAtName s e = e.kind ≡ OutOfMemory → (k : ℕ) × IsName s k × Says e OutOfMemory (span 0 k) None

-- the text that shows the parameters
abbrev pub params_at : List ℕ → Option NodeTree → List ℕ
params_at source None = codes "()"
params_at source (Some n) = display_at source n

-- the text that shows a call: its name and its parameters
abbrev pub call_display : Called → List ℕ
call_display u = slice u.source u.name ++ params_at u.source u.params

-- a refusal of the parameters at the types
abbrev pub RefusesParamsAt : (TypeTree → Type 0) → List TypeTree → List ℕ → Range ℕ → Option NodeTree → Diagnostic → Type 0
RefusesParamsAt Full Ts source name None e = RefusesNone Full Ts name e
RefusesParamsAt Full Ts source name (Some n) e = (t : SpannedTree) → IsNodeOf source n t → RefusesParams Full Ts n t e

module _ {V : Type 0} (tree : V → Value) (of : V → TypeTree → Type 0) where
  -- the values of the parameters at the types
  abbrev pub GivesParamsAt : List TypeTree → List ℕ → Option NodeTree → List V → Type 0
  GivesParamsAt Ts source None vs = AreOmitted tree of Ts vs
  GivesParamsAt Ts source (Some n) vs = (t : SpannedTree) → IsNodeOf source n t → GivesParams tree of Ts n t vs
