use Rattle.std.proofs.Common.{refl, bit_and}
use Rattle.std.proofs.lemmas.Simd.{zip2_of_maps, zip2_splat}
use Rattle.wave_lex.specs.Private.Machines.{is_blank}
use Rattle.wave_wasm.proofs.SetRuns.{masked, where_other}
use Rattle.wave_lex.proofs.lex.sets.BlanksByteSet.others.Goals as goal

pub returns : goal.returns
returns c =
    let v = c.args.bytes in
    let long = c.fits-bytes.0 in
    let spaces = zip2_of_maps bit_and _ _ v (zip2_splat where_other v 16 32 long) (zip2_splat where_other v 16 9 long) in
    let ends = zip2_of_maps bit_and _ _ v (zip2_splat where_other v 16 10 long) (zip2_splat where_other v 16 13 long) in
    masked is_blank _ refl v _ long c.fits-bytes.1 (zip2_of_maps bit_and _ _ v spaces ends)
