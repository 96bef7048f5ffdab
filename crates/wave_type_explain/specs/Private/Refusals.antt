-- What a refusal tells of a text.
use Rattle.std.specs.Prelude.{ℕ, ◌≡◌, ◌≢◌, List, Option, Some, None}
use Rattle.wave_type.specs.declared.error.TypeErrorKind.{TypeErrorKind}
use Rattle.wave_type.specs.declared.error.TypeErrorKind.TheVariants.{OutOfMemory, UnexpectedEnd}
use Rattle.wave_type_explain.specs.declared.expected.Reading.{Reading}
use Rattle.wave_type_explain.specs.Expected.{TextBegins, IsSpelled}

-- the text is refused so where at most n levels are read: it spells none of these; at its end it begins one, of whatever levels, and anywhere else none of these
pub record IsRefused (r : Reading) (n : ℕ) (text : List ℕ) (kind : TypeErrorKind) : Type 0 where
  pub not_spelled : IsSpelled r n text → ⊥
  pub at_end : kind ≡ UnexpectedEnd → (m : ℕ) × TextBegins r m text
  pub before_end : kind ≢ UnexpectedEnd → TextBegins r n text → ⊥

-- so by the kind, where there is one but out of memory; where there is none, the text spells one of at most n levels
abbrev pub IsRefusedBy : Reading → ℕ → List ℕ → Option TypeErrorKind → Type 0
IsRefusedBy r n text None = IsSpelled r n text
IsRefusedBy r n text (Some kind) = kind ≢ OutOfMemory → IsRefused r n text kind
