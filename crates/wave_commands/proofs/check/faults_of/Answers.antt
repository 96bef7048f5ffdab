use Rattle.std.proofs.Common.{[], inl, sym, subst}
use Rattle.std.specs.Prelude.{IfSome}
use Rattle.wave_grammar.specs.PrefixAutomaton.{value}
use Rattle.wave_grammar.specs.SyntaxErrors.{LeadsBehindValue, FailsBySyntax}
use Rattle.wave_place.proofs.Steps.{ok_so}
use Rattle.wave_faults.specs.FaultsOfText as node
use Rattle.wave_tree.specs.ParserState.{Parsing}
use Rattle.wave_tree.specs.Untyped.{IsUntypedTaken}
use Rattle.wave_explain.specs.ValueExplained.{IsPrefix}
use Rattle.wave_commands.proofs.Checking.{ok_but}
use Rattle.wave_commands.proofs.Agreement.{prefix_of, node_faults}
use Rattle.wave_commands.proofs.check.faults_of.Goals as goal

pub returns-in_ok-push_trailing-in-Ok-clause-faults : goal.returns-in_ok-push_trailing-in-Ok-clause-faults
returns-in_ok-push_trailing-in-Ok-clause-faults c =
    let p = c.parse_raw_value.new.self.place in
    let u = c.in-Ok.value in
    let told = c.in_ok-push_trailing-in-Ok.ensures in
    node_faults c.args.ty.now c.args.text.now p u c.in_ok-errors-in-Ok.errors.items told.0 _
    (subst (λ (z : Parsing). LeadsBehindValue z.limit value [] z.place p []) c.new-parser.ensures c.in-Ok.ensures.value)
    (subst (λ (z : Parsing). IsUntypedTaken z.limit z.place p u) c.new-parser.ensures c.in-Ok.ensures.tree)
    (subst (λ n. node.AreFaultsOf c.args.ty.now c.args.text.now n c.in_ok-errors-in-Ok.errors.items) c.node.ensures.node c.in_ok-errors-in-Ok.ensures)
    told.1 told.2

pub returns-in_ok-push_trailing-in-Ok-clause-value : goal.returns-in_ok-push_trailing-in-Ok-clause-value
returns-in_ok-push_trailing-in-Ok-clause-value c =
    let p = c.parse_raw_value.new.self.place in
    prefix_of c.args.text.now p c.in-Ok.value (subst (λ (z : Parsing). IsUntypedTaken z.limit z.place p c.in-Ok.value) c.new-parser.ensures c.in-Ok.ensures.tree)

pub returns-in-Err-clause-faults : goal.returns-in-Err-clause-faults
returns-in-Err-clause-faults c =
    let e = c.in-Err.error in
    let p = c.parse_raw_value.new.self.place in
    let fails = subst (λ (z : Parsing). FailsBySyntax e z.limit value [] z.place p) c.new-parser.ensures c.in-Err.ensures.value in
    ok_but c.syntax_fault.result (λ found alone other. inl (e, p, fails other, alone)) c.syntax_fault.ensures.error c.syntax_fault.ensures.reported

pub returns-in-Err-clause-value : goal.returns-in-Err-clause-value
returns-in-Err-clause-value c = ok_so c.syntax_fault.result (λ found none. subst (λ v. IfSome v (IsPrefix c.args.text.now)) (sym none) tt) c.syntax_fault.ensures.value
