use Rattle.std.proofs.Common.{ℕ, ◌^◌, Option, le→leb, lt→ltb, MatchOption, ap, sym, subst, arith}
use Rattle.std.specs.Prelude.{pos, option_map}
use Rattle.wave.specs.Requests.{IsLimitWord}
use Rattle.wave.proofs.request.limit_of.Goals as goal

pub returns-in_err-levels : goal.returns-in_err-levels
returns-in_err-levels c =
    let word = c.args.word.now in
    subst (λ (o : Option ℕ). MatchOption o ((n : ℕ) → IsLimitWord word n → ⊥) (IsLimitWord word)) (sym c.from_residual.ensures)
    (λ n h. let most = h.2.1 in c.in_err-levels.ensures (pos n) (ap (option_map pos) h.0) (record { le = le→leb 0 n (omega arith) }, record { lt = lt→ltb n (2 ^ 32) (omega arith) }))
