-- What reading a node at a type answers of a keyword, which is a key and no value.
use Rattle.std.specs.Prelude.{◌≡◌, ◌⊎◌}
use Rattle.wave_wasm.specs.TypeText.{kind_word}
use Rattle.wave_wasm.specs.ValueErrors.{unsupported_type}
use Rattle.wave_wasm.specs.declared.wasm.WasmTypeKind.{WasmTypeKind}
use Rattle.wave_wasm.specs.declared.wasm.WasmTypeKind.TheVariants as kinds
use Rattle.wave_lex.specs.Errors.{Diagnostic, refusal_of}
use Rattle.wave_lex.specs.declared.error.ParserErrorKind.TheVariants.{InvalidType, OutOfMemory}
use Rattle.wave_grammar.specs.TypeErrors.{RefusesFor}
use Rattle.wave_grammar.specs.NodeTree.{NodeTree, place_of}
use Rattle.wave_grammar.specs.NodeAccessors.{RefusedAs}

-- out of memory, or a refusal at the node because values of the kind can't be read
abbrev pub IsUnsupported : WasmTypeKind → NodeTree → Diagnostic → Type 0
IsUnsupported kind n e = (e.kind ≡ OutOfMemory) ⊎ RefusesFor (unsupported_type (kind_word kind)) (place_of n) (refusal_of e) e.span

-- the refusal of a keyword's node at a type of this kind, which is none of bools
abbrev pub RefusesKeyword : WasmTypeKind → NodeTree → Diagnostic → Type 0
RefusesKeyword kinds.F32 n e = IsUnsupported kinds.F32 n e
RefusesKeyword kinds.F64 n e = IsUnsupported kinds.F64 n e
RefusesKeyword kinds.Unsupported n e = IsUnsupported kinds.Unsupported n e
RefusesKeyword _ n e = RefusedAs InvalidType n e
