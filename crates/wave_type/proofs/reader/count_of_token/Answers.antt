use Rattle.std.proofs.Common.{◌≡◌, true, false}
use Rattle.std.specs.Fmt.{decimal}
use Rattle.std.specs.Str.{bytes_eq}
use Rattle.wave_type.proofs.TypeReading.CountTokens.{unparsed_count, other_count, parsed_small, same_count}
use Rattle.wave_type.proofs.reader.count_of_token.Goals as goal

pub returns-in_default : goal.returns-in_default
returns-in_default c = unparsed_count c.args.token.now c.parse.result c.in_default.field-0 c.parse.ensures.value.0 c.in_default.is

pub returns-then-eq : goal.returns-then-eq
returns-then-eq c =
    let text = c.format.ensures.text in
    let test = c.eq.ensures in
    let yes = c.if-eq.true in
    let same : bytes_eq (decimal c.in-Ok.count) c.args.token.now ≡ true = cc in
    same_count c.args.token.now c.in-Ok.count (parsed_small c.args.token.now c.parse.result c.in-Ok.count c.parse.ensures.value.0 c.in-Ok.is) same

pub returns-else-eq : goal.returns-else-eq
returns-else-eq c =
    let text = c.format.ensures.text in
    let test = c.eq.ensures in
    let not = c.if-eq.false in
    let other : bytes_eq (decimal c.in-Ok.count) c.args.token.now ≡ false = cc in
    other_count c.args.token.now c.parse.result c.in-Ok.count c.parse.ensures.value.0 c.in-Ok.is other
