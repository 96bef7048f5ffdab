-- Which types `from_wasm_type` makes a `Type` of.
use Rattle.std.specs.Prelude.{if◌then◌else◌, Option, Some, None}
use Rattle.wave_wasm.specs.Types.{TypeTree, is_representable}

-- the tree of the `Type` that is made of a type of tree T: T itself; none where `Type` can't have T
abbrev pub converted_type : TypeTree → Option TypeTree
converted_type T = if is_representable T then Some T else None
