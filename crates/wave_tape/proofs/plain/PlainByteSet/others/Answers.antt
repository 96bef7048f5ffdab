use Rattle.std.proofs.Common.{refl, bit_or}
use Rattle.std.proofs.lemmas.Simd.{zip2_of_maps, zip2_splat, zip2_splat_left}
use Rattle.wave_wasm.specs.TextParts.{is_plain_byte}
use Rattle.wave_wasm.proofs.SetRuns.{masked, where_equal, where_below}
use Rattle.wave_tape.proofs.plain.PlainByteSet.others.Goals as goal

pub returns : goal.returns
returns c =
    let v = c.args.bytes in
    let long = c.fits-bytes.0 in
    let quotes = zip2_of_maps bit_or _ _ v (zip2_splat where_equal v 16 34 long) (zip2_splat where_equal v 16 39 long) in
    let marks = zip2_of_maps bit_or _ _ v quotes (zip2_splat where_equal v 16 92 long) in
    let outside = zip2_of_maps bit_or _ _ v (zip2_splat where_below v 16 32 long) (zip2_splat_left where_below 126 16 v long) in
    masked is_plain_byte _ refl v _ long c.fits-bytes.1 (zip2_of_maps bit_or _ _ v marks outside)
