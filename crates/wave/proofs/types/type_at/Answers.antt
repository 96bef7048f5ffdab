use Rattle.wave.proofs.Spelled.{names, names_untested}
use Rattle.wave.proofs.types.type_at.Goals as goal

pub returns-then-branch : goal.returns-then-branch
returns-then-branch c =
    names c.args.word.now c.text_of.result.now c.text_of.ensures c.in-Ok.ty c.in-Ok.ensures.spelled c.in-Ok.ensures.levels (c.in_ok-is_inhabited.ensures.0 c.if-branch.true)

pub returns-else-branch : goal.returns-else-branch
returns-else-branch c =
    names_untested c.args.word.now c.text_of.result.now c.text_of.ensures c.in-Ok.ty c.in_ok-is_inhabited.field-0 c.in-Ok.ensures.spelled c.in_ok-is_inhabited.ensures c.if-branch.false
