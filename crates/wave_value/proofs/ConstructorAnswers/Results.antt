-- What the constructor of results refuses.
use Rattle.std.proofs.Common.{ℕ, ◌≡◌, List, Option, Some, None}
use Rattle.std.specs.Borrow.{Bor}
use Rattle.wave_wasm.specs.Borrowed.{denoted}
use Rattle.wave_wasm.specs.Types.{TypeTree}
use Rattle.wave_wasm.specs.declared.wasm.WasmValueError.{WasmValueError}
use Rattle.wave_wasm.specs.declared.wasm.WasmValueError.TheVariants as error
use Rattle.wave_value.specs.TypedValue.{TypedValue}
use Rattle.wave_value.specs.ConstructorRules.{RefusesPayload}
use Rattle.wave_value.specs.Private.ConstructorRules.{SaysUnexpected}

-- a payload at a case without one
pub unexpected_refused : (words : TypedValue → List ℕ) (n : List ℕ) (P : Option (Bor TypeTree)) (p : Option TypedValue) (v : TypedValue) (e : WasmValueError) → P ≡ None → p ≡ Some v → SaysUnexpected n e → RefusesPayload words n (denoted (λ t. t) P) p e
unexpected_refused words n (Some T) p v e none some says = absurd (cc)
unexpected_refused words n None None v e none some says = absurd (cc)
unexpected_refused words n None (Some w) v (error.UnexpectedPayload m) none some says = (says, tt)
unexpected_refused words n None (Some w) v (error.Memory m) none some says = tt
unexpected_refused words n None (Some w) v _ none some says = absurd says
