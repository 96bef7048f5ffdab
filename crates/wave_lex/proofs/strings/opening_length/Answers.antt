use Rattle.std.proofs.Common.{◌≢◌, ℕ, List, None, Some, inl, inr, subst, get_or, arith}
use Rattle.std.proofs.lemmas.Str.Pattern.{find_char}
use Rattle.wave_lex.proofs.MultilineStrings.Lines.{pieces_before, opens_badly, opens_alone}
use Rattle.wave_lex.proofs.strings.opening_length.Goals as goal

pub returns-in_err-first : goal.returns-in_err-first
returns-in_err-first c = rw c.from_residual.ensures (opens_alone c.args.src.now (find_char 10 c.args.src.now None c.in_err-first.ensures.cases (omega arith)))

pub returns-then-first-gt1 : goal.returns-then-first-gt1
returns-then-first-gt1 c =
    let f = find_char 10 c.args.src.now (Some c.in_ok-first.first) c.in_ok-first.ensures.cases (omega arith) in
    opens_badly c.args.src.now c.in_ok-first.first f.0 (pieces_before c.args.src.now c.in_ok-first.first f.0 f.1 f.2) (inl c.if-first-gt1.true)

pub returns-then-as_bytes-ne13 : goal.returns-then-as_bytes-ne13
returns-then-as_bytes-ne13 c =
    let f = find_char 10 c.args.src.now (Some c.in_ok-first.first) c.in_ok-first.ensures.cases (omega arith) in
    opens_badly c.args.src.now c.in_ok-first.first f.0 (pieces_before c.args.src.now c.in_ok-first.first f.0 f.1 f.2)
    (inr (c.if-first-eq1.true, subst (λ (z : List ℕ). get_or z 0 0 ≢ 13) c.as_bytes.ensures.value c.if-as_bytes-ne13.true))
