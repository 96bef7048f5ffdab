use Rattle.wave.proofs.HelpText.{asked_by_option, asked_by_help, asked_by_shell}
use Rattle.wave.proofs.help.notice_of_two.Goals as goal

pub returns-in-help : goal.returns-in-help
returns-in-help c = asked_by_help _ _ _ c.page_of-in-help.result c.in-help.is c.in_default.not-text c.in_default.not-text-2 c.page_of-in-help.ensures

pub returns-in-completions : goal.returns-in-completions
returns-in-completions c = asked_by_shell _ _ _ c.script_of.result c.in-completions.is c.in_default.not-text c.in_default.not-text-2 c.script_of.ensures

pub returns-in-text : goal.returns-in-text
returns-in-text c = asked_by_option _ _ _ c.page_of.result c.in-text.is c.page_of.ensures
