use Rattle.std.proofs.Common.{refl, sym, ◌∙◌}
use Rattle.wave_example_settings.proofs.Lawful.{makes_list, makes_fixed}
use Rattle.wave_example_settings.proofs.bare.BareWasmValue.make_list.Goals as goal

pub returns-in_default-clause-built : goal.returns-in_default-clause-built
returns-in_default-clause-built c = makes_list c.args.ty.now c.args.vals c.in_default.ensures (c.if-not-are_elements.ensures refl)

pub returns-clause-built : goal.returns-clause-built
returns-clause-built c =
    makes_fixed c.args.ty.now c.args.vals c.in-Some.want c.in-Some.ensures (sym c.args.vals.ok.0 ∙ (sym c.len-got.ensures ∙ c.if-got-want.false)) (c.if-not-are_elements.ensures refl)
