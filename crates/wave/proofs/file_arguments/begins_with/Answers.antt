use Rattle.std.proofs.Common.{◌≡◌, rules}
use Rattle.wave.proofs.FileWords.{first_is}
use Rattle.wave.proofs.file_arguments.begins_with.Goals as goal

pub returns-in-len1-up : goal.returns-in-len1-up
returns-in-len1-up c = λ is.
    let equal : c.as_str.result.now ≡ c.args.command.now = search (rules, c.eq.ensures, is) in
    first_is c.args.words.now c.first-item.result c.as_str.result.now c.args.command.now c.in-len1-up.len_at_least c.first-item.is c.as_str.ensures.value equal
