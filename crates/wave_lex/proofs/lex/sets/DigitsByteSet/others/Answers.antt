use Rattle.std.proofs.Common.{refl}
use Rattle.std.proofs.lemmas.Simd.{zip2_of_maps, zip2_splat, splat_is_map}
use Rattle.wave_lex.specs.Machines.{is_digit}
use Rattle.wave_wasm.proofs.SetRuns.{masked, where_below, difference}
use Rattle.wave_lex.proofs.lex.sets.DigitsByteSet.others.Goals as goal

pub returns : goal.returns
returns c =
    let v = c.args.bytes in
    let long = c.fits-bytes.0 in
    masked is_digit _ refl v _ long c.fits-bytes.1 (zip2_of_maps where_below _ _ v (splat_is_map v 16 9 long) (zip2_splat difference v 16 48 long))
