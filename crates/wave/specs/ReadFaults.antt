-- How far an input was read, and why not to its end.
use Rattle.std.specs.Prelude.{◌≡◌, ◌⊎◌, true, false}
use Rattle.wave_files.specs.Counts.{CountsOne}
use Rattle.wave.specs.declared.input.Input.{Input}

module _ {R : Type 0} where
  -- the reader reported its end, which it had not done before, and no read failed
  abbrev pub IsReadToEnd : Input R → Input R → Type 0
  IsReadToEnd old new = (old.has_ended ≡ false) × (new.has_ended ≡ true) × (new.failures ≡ old.failures)

  -- the last read failed; or no call of the reader is left, which did not report its end; or it had reported its end before, and was not called
  abbrev pub IsUnread : Input R → Input R → Type 0
  IsUnread old new =
      CountsOne old.failures new.failures × (new.has_ended ≡ false)
      ⊎ (new.reads_left ≡ 0) × (new.has_ended ≡ false) × (new.failures ≡ old.failures)
      ⊎ (old.has_ended ≡ true) × (new ≡ old)
