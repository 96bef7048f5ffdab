-- The payload that a node stands for alone.
use Rattle.std.specs.Prelude.{Option, Some, None}
use Rattle.wave_wasm.specs.Types.{TypeTree}
use Rattle.wave_grammar.specs.declared.form.NodeType.{NodeType}
use Rattle.wave_read.specs.Flat.{IsFlatAt}

-- the type of the payload that a node of this type stands for alone; or nothing, where there is no such type
abbrev pub GivesFlatAt : TypeTree → NodeType → Option TypeTree → Type 0
GivesFlatAt T ty (Some U) = IsFlatAt T ty U
GivesFlatAt T ty None = (U : TypeTree) → IsFlatAt T ty U → ⊥
