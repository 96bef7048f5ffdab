-- What a request that arguments make has, and arguments that make none.
use Rattle.std.specs.Prelude.{ℕ, ◌≢◌, List, codes}
use Rattle.wave_wasm.specs.Lists.{AllOf}
use Rattle.wave_wasm.specs.Types.{HasDistinctNames}
use Rattle.wave_type.specs.FunctionType.{types_of}
use Rattle.wave_tree.specs.ParserState.{IsLimit}
use Rattle.wave.specs.declared.request.Request.{Request}
use Rattle.wave.specs.declared.request.Request.TheVariants.{Value, Call, CallAt, Read}
use Rattle.wave.specs.Requests.{AreWordsOf}

-- the limit of the request is one that a parser may be handed, and no name stands twice in its type, or in those of its parameters
abbrev pub IsFit : Request → Type 0
IsFit (Value n) = IsLimit n
IsFit Call = Unit {0}
IsFit (CallAt f) = AllOf HasDistinctNames (types_of f.params)
IsFit (Read T n) = IsLimit n × HasDistinctNames T

-- the arguments, without options, make no request
abbrev pub MakeNone : List (List ℕ) → Type 0
MakeNone words = (request : Request) → AreWordsOf request words → ⊥

-- the word is no command behind which another word may stand
abbrev pub IsOtherWord : List ℕ → Type 0
IsOtherWord word =
    (word ≢ codes "value") × (word ≢ codes "call") × (word ≢ codes "read") × (word ≢ codes "help") × (word ≢ codes "completions")
