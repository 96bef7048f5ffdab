use Rattle.std.proofs.Common.{refl, sym, subst}
use Rattle.wave_c.specs.declared.ended.Ended.TheVariants.{Failed}
use Rattle.wave_c.specs.Ends.{ArePlaced, IsPlaced}
use Rattle.wave_c.proofs.ended.place.Goals as goal

pub returns-in-Ok : goal.returns-in-Ok
returns-in-Ok c =
    subst (λ said. IsPlaced said c.args.out.now c.place_bytes.new.out c.place_bytes.result) (sym c.in-Ok.is)
    (subst (λ bytes. ArePlaced bytes c.args.out.now c.place_bytes.new.out c.place_bytes.result) c.as_slice.ensures.value c.place_bytes.ensures)

pub returns-in-Err : goal.returns-in-Err
returns-in-Err c = subst (λ said. IsPlaced said c.args.out.now c.args.out.now (Failed c.in-Err.failure)) (sym c.in-Err.is) (refl, refl)
