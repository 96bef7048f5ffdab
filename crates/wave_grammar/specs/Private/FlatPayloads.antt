-- Payloads of flat types.
use Rattle.std.specs.Prelude.{◌≡◌, Option, Some, None}
use Rattle.wave_wasm.specs.Types.{TypeTree}
use Rattle.wave_grammar.specs.TypedGrammar.{IsFlat}

-- the payload's type, where there is one that is flat
abbrev pub GivesFlat : Option TypeTree → Option TypeTree → Type 0
GivesFlat payload (Some T) = (payload ≡ Some T) × IsFlat T
GivesFlat payload None = (T : TypeTree) → payload ≡ Some T → IsFlat T → ⊥
