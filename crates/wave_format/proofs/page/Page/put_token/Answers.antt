use Rattle.std.proofs.Common.{sym, subst, ◌∙◌, Some}
use Rattle.wave_lex.specs.declared.lex.Token.TheVariants as class
use Rattle.wave_format.specs.Private.Sheets.{Sheet, Writes, PutsToken}
use Rattle.wave_format.proofs.Steps.{is_class, token_held, token_written, last_noted}
use Rattle.wave_format.proofs.page.Page.put_token.Goals as goal
use Rattle.wave_format.proofs.page.Page.put_token.Goals.{then-eq+then-is_on_line, else-eq+in_ok-write}

pub returns : goal.returns
returns c =
    last_noted c.args.class c.args.text.now c.args.self.now _ c.if-eq.self c.self-2.view_is
    (elim c.if-eq.branch as (λ _. PutsToken c.args.class c.args.text.now c.args.self.now (record c.if-eq.self { last = Some c.args.class })) [
      | then-eq+then-is_on_line w ↦ token_held c.args.class c.args.text.now c.args.self.now _ c.if-eq.self (c.self.view_is ∙ c.in_ok-track_bracket.ensures) (is_class c.args.class class.Comma c.eq.ensures w.if-eq.true) w.self-is
      | else-eq+in_ok-write w ↦
          token_written c.args.class c.args.text.now c.args.self.now c.track_bracket.new.self c.if-eq.self c.in_ok-track_bracket.ensures
          (subst (λ (s : Sheet). Writes c.args.text.now c.track_bracket.new.self s) (sym w.self-is) w.in_ok-write.ensures)
    ])
