-- What a writer of text took, and what its answers say.
use Rattle.std.specs.Prelude.{◌≡◌, ◌++◌, Result, OnOk, IfErr, ℕ, List, Bool, true}
use Rattle.wave_writer.specs.declared.writer.WriterError.{WriterError}
use Rattle.wave_writer.specs.WriterState.{Appended, Output, Refused}

-- the answer of a call that writes a text: `Ok` where it can be written and was taken whole, else a refusal of such a text
pub record Writes (whole : List ℕ) (has_text : Bool) (result : Result (Unit {0}) WriterError) (old new : Output) : Type 0 where
  pub ok : OnOk result (Appended whole old new)
  pub writable : OnOk result (has_text ≡ true)
  pub err : IfErr result (λ e. Refused whole has_text e old new)

-- of a text that was gathered, and one more, a beginning was taken, and the rest is gathered
pub record Gathers (gathered more rest : List ℕ) (old new : Output) : Type 0 where
  pub part : List ℕ
  pub taken : Appended part old new
  pub all : gathered ++ more ≡ part ++ rest
