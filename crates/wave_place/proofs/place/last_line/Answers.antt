use Rattle.std.proofs.Common.{◌+◌, Some, None, arith, sym, subst}
use Rattle.std.proofs.lemmas.Str.Pattern.{rfind_char}
use Rattle.wave_place.specs.Places.{IsInOneLine}
use Rattle.wave_place.proofs.Lines.{none_of, none_behind}
use Rattle.wave_place.proofs.place.last_line.Goals as goal

pub returns-in-Some-clause-line : goal.returns-in-Some-clause-line
returns-in-Some-clause-line c =
    let found = rfind_char 10 c.args.text.now (Some c.in-Some.at) c.in-Some.ensures.cases (omega arith) in
    subst IsInOneLine (sym c.split_at.ensures.back) (none_behind 10 c.args.text.now (c.in-Some.at + 1) (λ i le lt. found.2 i (omega (arith, le)) lt))

pub returns-in-None-clause-line : goal.returns-in-None-clause-line
returns-in-None-clause-line c = none_of 10 c.args.text.now (rfind_char 10 c.args.text.now None c.in-None.ensures.cases (omega arith))
