-- How the type of a function is read from the tokens of a text, step by step.
use Rattle.std.specs.Prelude.{ℕ, List, [], ◌∷◌, codes, Option, Some, None}
use Rattle.wave_wasm.specs.Types.{TypeTree}
use Rattle.wave_type.specs.FunctionType.{FunctionType}
use Rattle.wave_type.specs.TypeSpelling.{Tokens}
use Rattle.wave_type.specs.Private.TypeReading.{after, Reads, fields_read}
use Rattle.wave_type.specs.TypeWords.{onward}

-- names and types, and what follows
abbrev pub PartsRead : Type 0
PartsRead = Option (List (List ℕ × TypeTree) × Tokens)

module _ (read : Reads) where
  -- the parameters, by what follows a `)`
  abbrev pub params_read : Tokens → Option Tokens → PartsRead
  params_read ts (Some m) = Some ([], m)
  params_read ts None = fields_read read (codes ")") ts

  -- what stands after `->`, by what follows a `(`
  abbrev pub result_parts_read : Tokens → Option Tokens → PartsRead
  result_parts_read ts (Some m) = fields_read read (codes ")") m
  result_parts_read ts None = onward (read ts) (λ T. Some (([], T.0) ∷ [], T.1))

  -- what stands after the parameters, by what follows a `-`
  abbrev pub results_read : Tokens → Option Tokens → PartsRead
  results_read ts None = Some ([], ts)
  results_read ts (Some m) = onward (after (codes ">") m) (λ l. result_parts_read l (after (codes "(") l))

  -- what stands after `func(`
  abbrev pub signature_read : Tokens → Option (FunctionType × Tokens)
  signature_read ts =
      onward (params_read ts (after (codes ")") ts)) (λ ps.
      onward (results_read ps.1 (after (codes "-") ps.1)) (λ rs. Some (record { params = ps.0; results = rs.0 }, rs.1)))

  -- the type of a function
  abbrev pub function_read : Tokens → Option (FunctionType × Tokens)
  function_read ts = onward (after (codes "func") ts) (λ m. onward (after (codes "(") m) signature_read)
