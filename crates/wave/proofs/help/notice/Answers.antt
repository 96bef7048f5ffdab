use Rattle.std.proofs.Common.{[], ◌∷◌, inl, rules}
use Rattle.wave.specs.Help.{AskForHelp}
use Rattle.wave.proofs.HelpText.{help_is}
use Rattle.wave.proofs.help.notice.Goals as goal

pub returns-in-text : goal.returns-in-text
returns-in-text c =
    let asked : AskForHelp (c.args.word.now ∷ []) = search rules in
    inl (asked, help_is)
