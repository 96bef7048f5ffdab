use Rattle.std.proofs.Common.{refl, bit_and}
use Rattle.std.proofs.lemmas.Simd.{zip2_of_maps, zip2_splat, splat_is_map}
use Rattle.wave_lex.specs.Machines.{is_lower}
use Rattle.wave_wasm.proofs.SetRuns.{masked, where_below, difference}
use Rattle.wave_lex.proofs.lex.sets.LowersByteSet.others.Goals as goal

pub returns : goal.returns
returns c =
    let v = c.args.bytes in
    let long = c.fits-bytes.0 in
    let no_letters = zip2_of_maps where_below _ _ v (splat_is_map v 16 25 long) (zip2_splat difference v 16 97 long) in
    let no_digits = zip2_of_maps where_below _ _ v (splat_is_map v 16 9 long) (zip2_splat difference v 16 48 long) in
    masked is_lower _ refl v _ long c.fits-bytes.1 (zip2_of_maps bit_and _ _ v no_letters no_digits)
