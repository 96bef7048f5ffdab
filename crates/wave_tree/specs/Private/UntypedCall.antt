-- What untyped calls are in a contract, and what reading one from a text answers.
use Rattle.std.specs.Prelude.{ℕ, List, Option, Some, None}
use Rattle.std.specs.declared.ops.Range.{Range}
use Rattle.wave_lex.specs.Tokenization.{Stands}
use Rattle.wave_grammar.specs.NodeTree.{NodeTree, place_of}
use Rattle.wave_tree.specs.UntypedCall.{IsParamsOf}

-- the name stands in the source, and so do the parameters
abbrev pub CallStandsIn : List ℕ → Range ℕ → Option NodeTree → Type 0
CallStandsIn source name params = Stands source name.start name.end × IsParamsOf source params

-- where the node of the parameters stands, or else the name
abbrev pub params_place : Range ℕ → Option NodeTree → Range ℕ
params_place name None = name
params_place name (Some n) = place_of n
