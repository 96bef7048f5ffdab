-- Calls whose parameters are read at the types of a function.
use Rattle.std.specs.Prelude.{ℕ, ◌≡◌, List, length, Some, None}
use Rattle.std.specs.declared.option.Option.{Option}
use Rattle.std.specs.declared.ops.Range.{Range}
use Rattle.wave_wasm.specs.Lists.{SomeOf}
use Rattle.wave_wasm.specs.Types.{TypeTree}
use Rattle.wave_wasm.specs.Values.{Value}
use Rattle.wave_lex.specs.Errors.{Diagnostic, Says, no_params}
use Rattle.wave_lex.specs.declared.error.ParserErrorKind.TheVariants.{InvalidParams}
use Rattle.wave_grammar.specs.Tree.{MaybeTree}
use Rattle.wave_grammar.specs.Calls.{IsCall}
use Rattle.wave_grammar.specs.Params.{Params}
use Rattle.wave_grammar.specs.SpannedTree.{SpannedTree, shape_of, tuple, placed_trees}
use Rattle.wave_grammar.specs.NodeTree.{NodeTree}
use Rattle.wave_grammar.specs.Nodes.{IsNodeOf}
use Rattle.wave_grammar.specs.NodeParams.{IsNoOption, ParamsFault, close_of}
use Rattle.wave_tree.specs.UntypedCall.{Called, IsCalledOf}

-- the text is a call of this name, with these values of its parameters at the types; those that it leaves out are options, each `none`
abbrev pub IsCallAt : List TypeTree → List ℕ → List ℕ → List Value → Type 0
IsCallAt Ts whole name vs = (params : MaybeTree) × (call : IsCall whole name params) × Params Ts call.tokens vs

-- what is wrong with the parameters: there are none, and a type is no option; or what is wrong with the items of their tuple
abbrev pub HasParamsFault : List TypeTree → List ℕ → Range ℕ → Option NodeTree → Diagnostic → Type 0
HasParamsFault Ts source name None e = SomeOf IsNoOption Ts × Says e InvalidParams name (Some (no_params (length Ts)))
HasParamsFault Ts source name (Some n) e =
    (t : SpannedTree) × (items : List SpannedTree) × IsNodeOf source n t × (shape_of t ≡ tuple (placed_trees items)) × ParamsFault Ts items (close_of n) e

-- the text is a call, whose parameters have a fault at the types
abbrev pub CallFaultAt : List TypeTree → List ℕ → Diagnostic → Type 0
CallFaultAt Ts whole e = (u : Called) × IsCalledOf whole u × HasParamsFault Ts whole u.name u.params e
