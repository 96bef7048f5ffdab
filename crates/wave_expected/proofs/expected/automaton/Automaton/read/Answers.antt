use Rattle.std.proofs.Common.{refl, sym, ap, subst, ◌∙◌}
use Rattle.std.proofs.Common.{ℕ, ◌-◌, take}
use Rattle.wave_expected.specs.declared.expected.moves.Move.TheVariants.{To, Open, Close}
use Rattle.wave_expected.specs.Private.Prefixes.{IsNoted}
use Rattle.wave_expected.proofs.ExpectedTokens.AutomatonSteps.{after_refused, after_repeated, after_move}
use Rattle.wave_expected.proofs.expected.automaton.Automaton.read.Goals as goal

pub returns-in-Refused-clause-after : goal.returns-in-Refused-clause-after
returns-in-Refused-clause-after c = λ tokens after.
    let (start, begins, is) = c.in-Refused.ensures in
    after_refused c.args.self.now.levels tokens c.args.self.now.state c.args.self.now.forms.items c.args.self.now.forms.items c.args.self.now.names c.args.self.now.names c.args.class c.args.text.now start after begins (sym is)

pub returns-in_ok-push-in-Open-clause-after : goal.returns-in_ok-push-in-Open-clause-after
returns-in_ok-push-in-Open-clause-after c = λ tokens after.
    let (start, begins, is) = c.in-Open.ensures in
    after_move c.args.self.now.levels tokens c.args.self.now.state c.args.self.now.forms.items _ c.args.self.now.names c.args.self.now.names c.args.class c.args.text.now start (Open c.in-Open.form c.in-Open.state) after begins (sym is) (c.in_ok-push-in-Open.ensures.items, refl)

pub returns-in-Close-clause-after : goal.returns-in-Close-clause-after
returns-in-Close-clause-after c = λ tokens after.
    let (start, begins, is) = c.in-Close.ensures in
    after_move c.args.self.now.levels tokens c.args.self.now.state c.args.self.now.forms.items _ c.args.self.now.names c.args.self.now.names c.args.class c.args.text.now start (Close c.in-Close.state) after begins (sym is)
    (c.pop.ensures.rest ∙ ap (λ (n : ℕ). take (n - 1) c.args.self.now.forms.items) c.args.self.now.forms.ok.0, refl)

pub returns-then-was_read-clause-after : goal.returns-then-was_read-clause-after
returns-then-was_read-clause-after c = λ tokens after.
    let (start, begins, is) = c.in-To.ensures in
    after_repeated c.args.self.now.levels tokens c.args.self.now.state c.in-To.state c.args.self.now.forms.items c.args.self.now.forms.items c.args.self.now.names c.note_label.new.names c.note_label.new.names c.args.class c.args.text.now start after begins (sym is)
    (subst (IsNoted c.in-To.state c.args.text.now c.args.self.now.names c.note_label.new.names) c.if-was_read.true c.in_ok-was_read-in-To.ensures)

pub returns-else-was_read-clause-after : goal.returns-else-was_read-clause-after
returns-else-was_read-clause-after c = λ tokens after.
    let (start, begins, is) = c.in-To.ensures in
    after_move c.args.self.now.levels tokens c.args.self.now.state c.args.self.now.forms.items c.args.self.now.forms.items c.args.self.now.names c.note_label.new.names c.args.class c.args.text.now start (To c.in-To.state) after begins (sym is)
    (refl, subst (IsNoted c.in-To.state c.args.text.now c.args.self.now.names c.note_label.new.names) c.if-was_read.false c.in_ok-was_read-in-To.ensures)
