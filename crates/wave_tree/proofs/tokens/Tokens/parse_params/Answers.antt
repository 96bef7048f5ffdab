use Rattle.std.proofs.Common.{ℕ, ◌+◌, arith, ◌≡◌, inl, inr, sym, ap, subst, ◌∙◌, [], ◌∷◌}
use Rattle.wave_lex.specs.declared.lex.Token.TheVariants as class
use Rattle.wave_grammar.specs.ParserPosition.{Place}
use Rattle.wave_grammar.specs.PrefixAutomaton as expectation
use Rattle.wave_grammar.specs.SyntaxErrors.{LeadsBehindValue, IsSyntaxError}
use Rattle.wave_tree.specs.Private.ParsedNodes.{IsOfItems}
use Rattle.wave_tree.specs.ParsedNodes.{TakesClass}
use Rattle.wave_tree.specs.ParserState.{Fails}
use Rattle.wave_tree.specs.UntypedCall.{RefusesTuple}
use Rattle.wave_tree.proofs.ParserCorrectness.BuiltNodes.{as_node}
use Rattle.wave_tree.proofs.ParserCorrectness.Steps.{not_expected}
use Rattle.wave_lex.specs.Errors.{Diagnostic, LiesInText}
use Rattle.wave_tree.proofs.ErrorSpans.Syntax.{back_lies, back_same, tuple_lies}
use Rattle.wave_tree.proofs.TextReading.Calls.{tuple_taken}
use Rattle.wave_tree.proofs.tokens.Tokens.parse_params.Goals as goal

pub returns-in-Err-clause-refused : goal.returns-in-Err-clause-refused
returns-in-Err-clause-refused c = λ apart. inl (subst (λ (e : Diagnostic). Fails (λ t. t ≡ class.ParenOpen) e c.args.self.now.place c.expect.new.self.place) (sym c.into_error.ensures) c.in-Err.ensures.takes)

pub returns-in-Err-expect-clause-refused : goal.returns-in-Err-expect-clause-refused
returns-in-Err-expect-clause-refused c =
    not_expected c.expect.new.self.place c.next_is.new.self.place c.expect-then-next_is.new.self.place class.ParenClose c.in-Err-expect.error c.next_is.ensures.stays (c.next_is.ensures.answer.0 c.if-next_is.true) c.in-Err-expect.ensures.takes

pub returns-in-Err-expect-clause-within : goal.returns-in-Err-expect-clause-within
returns-in-Err-expect-clause-within c =
    not_expected c.expect.new.self.place c.next_is.new.self.place c.expect-then-next_is.new.self.place class.ParenClose c.in-Err-expect.error c.next_is.ensures.stays (c.next_is.ensures.answer.0 c.if-next_is.true) c.in-Err-expect.ensures.takes

-- no form is open around the parameters
none_open : (n : ℕ) → n + 1 ≡ n + 1 + 0
none_open n = omega arith

-- what is refused after a `(`, where no `)` stands
behind_open : (n : ℕ) (e : Diagnostic) (old m looked new : Place) → TakesClass class.ParenOpen old m → looked ≡ m → ((q : Place) → TakesClass class.ParenClose m q → ⊥) → IsSyntaxError e (n + 1) expectation.first_item (expectation.tuple ∷ []) looked new → RefusesTuple n e old new
behind_open n e old m looked new opens stays none h = inr (m, opens, none, subst (λ (z : Place). IsSyntaxError e (n + 1) expectation.first_item (expectation.tuple ∷ []) z new) stays h)

pub returns-in-Err-parse_items-clause-refused : goal.returns-in-Err-parse_items-clause-refused
returns-in-Err-parse_items-clause-refused c = λ apart.
    let back = c.refuse.ensures.other apart in
    let refusal : c.refuse.result ≡ c.in-Err-parse_items.error = back.0 ∙ c.into_error-in-Err-parse_items.ensures in
    let tuple = behind_open c.args.levels c.in-Err-parse_items.error c.args.self.now.place c.expect.new.self.place c.next_is.new.self.place c.parse_items.new.self.place c.in_default.ensures.takes c.next_is.ensures.stays (λ q h. cc (sym c.if-next_is.false ∙ c.next_is.ensures.answer.1 (q, h))) (c.in-Err-parse_items.ensures.led (c.args.levels + 1) [] (none_open c.args.levels) (λ m. apart (ap (λ (e : Diagnostic). e.kind) refusal ∙ m))) in
    back_same (λ e p. RefusesTuple c.args.levels e c.args.self.now.place p.place) c.in-Err-parse_items.error c.refuse.result c.parse_items.new.self c.refuse.new.self (refusal, back.1) tuple

pub returns-in-Err-parse_items-clause-within : goal.returns-in-Err-parse_items-clause-within
returns-in-Err-parse_items-clause-within c =
    let same = c.into_error-in-Err-parse_items.ensures in
    back_lies _ c.args.self.now.place.lexer c.into_error-in-Err-parse_items.result c.refuse.result c.start_here-start.ensures.place c.refuse.ensures.within (λ apart.
    subst (λ (e : Diagnostic). LiesInText c.args.self.now.place.lexer.source e.span) (sym same)
    (tuple_lies c.args.levels c.in-Err-parse_items.error c.args.self.now.place c.parse_items.new.self.place (behind_open c.args.levels c.in-Err-parse_items.error c.args.self.now.place c.expect.new.self.place c.next_is.new.self.place c.parse_items.new.self.place c.in_default.ensures.takes c.next_is.ensures.stays (λ q h. cc (sym c.if-next_is.false ∙ c.next_is.ensures.answer.1 (q, h))) (c.in-Err-parse_items.ensures.led (c.args.levels + 1) [] (none_open c.args.levels) (λ m. apart (ap (λ (e : Diagnostic). e.kind) same ∙ m)))) c.start_here-start.ensures.inside))

pub returns-in-Ok-parse_items-clause-taken : goal.returns-in-Ok-parse_items-clause-taken
returns-in-Ok-parse_items-clause-taken c =
    let new = c.parse_items.new.self.place in
    tuple_taken c.args.levels c.args.self.now.place c.expect.new.self.place new c.in-Ok-parse_items.tuple c.start_here-start.ensures.sound c.in_default.ensures.takes
    (subst (λ (z : Place). LeadsBehindValue (c.args.levels + 1) expectation.first_item (expectation.tuple ∷ []) z new []) c.next_is.ensures.stays (c.in-Ok-parse_items.ensures.led (c.args.levels + 1) [] (none_open c.args.levels)))
    (subst (λ (z : Place). IsOfItems c.args.levels class.ParenClose z new c.in-Ok-parse_items.tuple) c.next_is.ensures.stays (as_node (IsOfItems c.args.levels class.ParenClose c.next_is.new.self.place new) c.in-Ok-parse_items.tuple c.in-Ok-parse_items.ensures.tree))
