-- Why a value can't be written, in words.
use Rattle.std.specs.Prelude.{ℕ, List, Option, Some, None, codes}
use Rattle.wave_writer.specs.declared.writer.WriterError.{WriterError}

-- the words of a refusal of the writer; those of a failed write end with the formatting error's own
abbrev pub refusal_text : WriterError → Option (List ℕ)
refusal_text (WriterError.Io e) = None
refusal_text WriterError.UnsupportedType = Some (codes "unsupported value type")
refusal_text (WriterError.Memory e) = Some (codes "out of memory")
