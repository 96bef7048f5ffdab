-- What the refusals say where there is no memory.
use Rattle.std.proofs.Common.{ℕ, List}
use Rattle.std.specs.declared.alloc.AllocError.{AllocError}
use Rattle.wave_wasm.specs.declared.wasm.WasmValueError.TheVariants as error
use Rattle.wave_value.specs.declared.value.refusals.NameErrorKind.{NameErrorKind}
use Rattle.wave_value.specs.declared.value.refusals.NameErrorKind.TheVariants as amiss
use Rattle.wave_value.specs.Private.RecordConstructor.{SaysName}

-- whatever is amiss, out of memory may be answered
pub memory_said : (what : NameErrorKind) (name : List ℕ) (e : AllocError) → SaysName what name (error.Memory e)
memory_said amiss.UnknownCase name e = tt
memory_said amiss.MissingPayload name e = tt
memory_said amiss.UnexpectedPayload name e = tt
memory_said amiss.MissingField name e = tt
memory_said amiss.UnknownField name e = tt
