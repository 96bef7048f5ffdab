use Rattle.std.proofs.Common.{ℕ, subst, sym, ap, ◌∙◌}
use Rattle.std.specs.Global.{Vec}
use Rattle.wave_grammar.specs.SpannedTree.{tree_of}
use Rattle.wave_tree.specs.NodeDisplay.{display_at}
use Rattle.wave_tree.proofs.Displays.Nodes.{display_known}
use Rattle.wave_c.specs.Answers.{IsDisplayOf}
use Rattle.wave_c.specs.Failures.{limit_of, IsRefusedUntyped, FailsToRead}
use Rattle.wave_c.proofs.Failing.{text_refused}
use Rattle.wave_c.proofs.untyped.untyped.Goals as goal

pub returns-in_err-value-clause-failed : goal.returns-in_err-value-clause-failed
returns-in_err-value-clause-failed c =
    let n = limit_of c.args.levels in
    let e = c.in_err-value.field-0.0 in
    let was = c.in_err-value.ensures in
    text_refused (FailsToRead (IsRefusedUntyped n c.args.text.now) c.args.text.now) c.from_residual-in_err-value.result e tt
    (λ other. subst (λ s. IsRefusedUntyped n s e) c.in_ok-text.ensures.text (record { other = other; refused = was.refused; within = was.within })) c.from_residual-in_err-value.ensures.1

pub returns-clause-said : goal.returns-clause-said
returns-clause-said c =
    let s = c.in_ok-text.text.now in
    let u = c.in_ok-value.value in
    let it = c.in_ok-value.ensures.value in
    subst (λ s. IsDisplayOf (limit_of c.args.levels) s c.into_bytes.result.items) c.in_ok-text.ensures.text
    (tree_of it.placed, it.spelled, ap (λ (v : Vec ℕ). v.items) c.into_bytes.ensures.value ∙ (c.in_ok-to_string.ensures.ok ∙ (ap (λ source. display_at source u.node) it.source ∙ display_known s u.node it.placed it.is_node.0)))
