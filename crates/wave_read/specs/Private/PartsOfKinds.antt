-- Parts of a value before any was read, and those of a value that is no list.
use Rattle.wave_read.specs.declared.parts.Partial.{Partial}
use Rattle.wave_read.specs.declared.parts.Partial.TheVariants as parts

-- parts of a value that is no list
abbrev pub AreNoItems : {S V : Type 0} → Partial S V → Type 0
AreNoItems (parts.Items x) = ⊥
AreNoItems _ = Unit {0}
