use Rattle.std.proofs.Common.{refl, bit_or}
use Rattle.std.proofs.lemmas.Simd.{zip2_of_maps, zip2_splat}
use Rattle.wave_lex.specs.Private.Machines.{is_plain}
use Rattle.wave_wasm.proofs.SetRuns.{masked, where_equal}
use Rattle.wave_lex.proofs.lex.sets.PlainsByteSet.others.Goals as goal

pub returns : goal.returns
returns c =
    let v = c.args.bytes in
    let long = c.fits-bytes.0 in
    let ends = zip2_of_maps bit_or _ _ v (zip2_splat where_equal v 16 34 long) (zip2_splat where_equal v 16 10 long) in
    masked is_plain _ refl v _ long c.fits-bytes.1 (zip2_of_maps bit_or _ _ v ends (zip2_splat where_equal v 16 92 long))
