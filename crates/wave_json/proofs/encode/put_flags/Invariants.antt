use Rattle.std.proofs.Common.{◌++◌, [], ◌∷◌, drop, map}
use Rattle.json.specs.Token.{Token}
use Rattle.wave_wasm.specs.Borrowed.{texts}
use Rattle.wave_json.specs.Private.Writers.{value_tokens}
use Rattle.wave_json.proofs.Writing.{Writing}
use Rattle.wave_json.proofs.encode.put_flags.Given as goal

abbrev pub invariant-loop-name : goal.invariant-loop-name
invariant-loop-name g l = Writing (value_tokens (g.V.WasmValue.tree l.val)) (map Token.string (texts (drop l.name-index l.name-items)) ++ Token.end_array ∷ []) l.fn.out l.out
