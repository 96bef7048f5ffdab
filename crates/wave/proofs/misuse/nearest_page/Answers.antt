use Rattle.std.proofs.Common.{[], ◌∷◌, codes}
use Rattle.wave.proofs.Nearest.{nearest_alone, nearest_of}
use Rattle.wave.proofs.misuse.nearest_page.Goals as goal

pub returns : goal.returns
returns c =
    let of_two = c.in_ok-near.ensures.first (codes "value" ∷ []) (nearest_alone _ _) in
    let of_three = c.in_ok-near-2.ensures.first _ of_two in
    let of_four = c.in_ok-near-3.ensures.first _ of_three in
    let of_five = c.in_ok-near-4.ensures.first _ of_four in
    nearest_of _ _ c.nearer-5.result _ _ _ _ of_five c.nearer-5.ensures.first c.nearer-5.ensures.counted
