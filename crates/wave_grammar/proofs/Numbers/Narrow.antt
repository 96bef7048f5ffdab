-- A number that is too great for 64 bits is too great for fewer.
use Rattle.std.proofs.Common.{ℕ, List, None, arith}
use Rattle.std.proofs.lemmas.Int.{ints}
use Rattle.wave_wasm.specs.Types.{s8, s16, s32, s64}
use Rattle.wave_grammar.specs.NumberText.{IsNumberOf}

pub no_s8 : (text : List ℕ) → IsNumberOf s64 text None → IsNumberOf s8 text None
no_s8 text none = λ z e r. none z e (omega (arith, ints, r.0), omega (arith, ints, r.1))

pub no_s16 : (text : List ℕ) → IsNumberOf s64 text None → IsNumberOf s16 text None
no_s16 text none = λ z e r. none z e (omega (arith, ints, r.0), omega (arith, ints, r.1))

pub no_s32 : (text : List ℕ) → IsNumberOf s64 text None → IsNumberOf s32 text None
no_s32 text none = λ z e r. none z e (omega (arith, ints, r.0), omega (arith, ints, r.1))
