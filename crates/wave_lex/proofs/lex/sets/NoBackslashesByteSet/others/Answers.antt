use Rattle.std.proofs.Common.{refl}
use Rattle.std.proofs.lemmas.Simd.{zip2_splat}
use Rattle.wave_lex.specs.Private.Runs.{is_no_backslash}
use Rattle.wave_wasm.proofs.SetRuns.{masked, where_equal}
use Rattle.wave_lex.proofs.lex.sets.NoBackslashesByteSet.others.Goals as goal

pub returns : goal.returns
returns c =
    let v = c.args.bytes in
    let long = c.fits-bytes.0 in
    masked is_no_backslash _ refl v _ long c.fits-bytes.1 (zip2_splat where_equal v 16 92 long)
