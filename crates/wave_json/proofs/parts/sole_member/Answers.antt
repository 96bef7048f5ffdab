use Rattle.std.proofs.Common.{sym}
use Rattle.wave_json.proofs.Objects.{sole_here, sole_none}
use Rattle.wave_json.proofs.parts.sole_member.Goals as goal

pub returns-then-members-ne1 : goal.returns-then-members-ne1
returns-then-members-ne1 c = sym (sole_none c.args.members.now c.if-members-ne1.true)

pub returns : goal.returns
returns c = sym (sole_here c.args.members.now c.index-members-0.result c.if-members-ne1.false c.index-members-0.is)
