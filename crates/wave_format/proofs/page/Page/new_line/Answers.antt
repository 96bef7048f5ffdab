use Rattle.std.proofs.Common.{◌≡◌, ◌⊎◌, inl, inr, [], ◌∷◌, ap}
use Rattle.wave_format.proofs.Steps.{line_begun}
use Rattle.wave_format.proofs.page.Page.new_line.Goals as goal
use Rattle.wave_format.proofs.page.Page.new_line.Goals.{then-keep+then-self-gt1, else-keep}

pub returns : goal.returns
returns c =
    rw (← c.self.view_is) (line_begun _ c.if-keep.feeds.now _ _ c.args.indent
    (elim c.if-keep.branch as (λ _. (c.if-keep.feeds.now ≡ 10 ∷ []) ⊎ (c.if-keep.feeds.now ≡ 10 ∷ 10 ∷ [])) [
      | then-keep+then-self-gt1 w ↦ inr (ap (λ f. f.now) w.feeds-is)
      | else-keep w ↦ inl (ap (λ f. f.now) w.feeds-is)
    ]) c.in_ok-push_str.ensures.bytes c.in_ok-push_blanks.ensures)
