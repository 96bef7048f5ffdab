use Rattle.wave.proofs.Nearest.{hinted}
use Rattle.wave.proofs.misuse.command_hint.Goals as goal

pub returns : goal.returns
returns c =
    let of_pages = c.in_ok-near.ensures.0 in
    let of_five = c.in_ok-near-2.ensures.first _ of_pages in
    hinted c.hint.result _ _ _ _ (c.in_ok-near-3.ensures.first _ of_five) c.in_ok-near-3.ensures.counted c.hint.ensures.near c.hint.ensures.far
