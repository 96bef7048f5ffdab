use Rattle.std.proofs.Common.{Some, None, arith, subst, ap, ◌∙◌}
use Rattle.std.specs.Prelude.{get_or}
use Rattle.std.proofs.lemmas.List.{length-drop}
use Rattle.wave_lex.specs.Strings.{UnescapesTo}
use Rattle.wave_explain.proofs.Escapes.{byte_at, run_byte, run_escape, escape_within}
use Rattle.wave_explain.proofs.escape.fault_at.Goals as goal

pub pieces-preserved-in-Some : goal.pieces-preserved-in-Some
pieces-preserved-in-Some c =
    let text = c.args.text.now in
    let escape = subst (λ s. UnescapesTo s (Some (c.in-Some.field-0-0, c.in-Some.count))) c.in_ok-rest.ensures.back c.in-Some.ensures in
    (omega (arith, (escape_within _ _ _ escape).1, length-drop c.pieces.at text, c.pieces.invariant.0), run_escape c.args.quote text c.pieces.at _ _ c.pieces.invariant.1 escape)

pub returns-in-None-clause-escape : goal.returns-in-None-clause-escape
returns-in-None-clause-escape c = subst (λ s. UnescapesTo s None) c.in_ok-rest.ensures.back c.in-None.ensures

pub pieces-preserved : goal.pieces-preserved
pieces-preserved c =
    let text = c.args.text.now in
    let byte = c.in_ok-byte.field-0.now in
    let is = c.in_ok-byte.ensures.lookup.1 ∙ ap (λ s. get_or s c.pieces.at byte) c.as_bytes.ensures.value in
    let first = byte_at text c.pieces.at byte (omega (arith, c.pieces-test.true)) is in
    (omega (arith, c.pieces-test.true), run_byte c.args.quote text c.pieces.at byte c.pieces.invariant.1 first c.if-byte-quote.false c.if-byte-eq92.false c.if-byte-eq10.false)
