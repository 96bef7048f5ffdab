use Rattle.std.proofs.Common.{◌≡◌, ℕ, ◌+◌, ◌-◌, Some, Ok, List, [], ◌∷◌, ◌++◌, refl, sym, ap, subst, ◌∙◌, inl, inr, arith}
use Rattle.wave_lex.specs.declared.lex.Token as lex
use Rattle.wave_lex.specs.declared.lex.Token.TheVariants.{BraceOpen, BraceClose, ParenOpen, ParenClose, BracketOpen, BracketClose, Colon, Comma, LabelOrKeyword}
use Rattle.wave_grammar.specs.ParserPosition.{Place, TakesItem, span_at, text_at, token_of}
use Rattle.wave_grammar.specs.PrefixAutomaton.{Expectation, StackSymbol, expected_behind, reads, behind_step, step, key_step, brace_step, behind_flag_step, flag_step}
use Rattle.wave_grammar.specs.PrefixAutomaton as expectation
use Rattle.wave_grammar.specs.SyntaxErrors.{Gives, IsBehind, LeadsBehindValue}
use Rattle.std.specs.declared.ops.Range.{Range}
use Rattle.wave_lex.specs.Tokenization.{span}
use Rattle.wave_tree.specs.Private.TokenRoles.{form_of}
use Rattle.wave_lex.specs.declared.error.ParserErrorKind.TheVariants as because
use Rattle.wave_tree.proofs.ParserCorrectness.Steps.{gives_or_memory, no_level, refuses_there, kind_is, here, here_is, handed, gives_then, fails, any_token, shallow, value_read, level_open, read_there, unexpected_there, no_paren, behind_bare, reached, fails_behind, then_behind, payload_other, unexpected_behind, not_expected, untrue, moved, then_class, then_behind_class, range_path, close_first, close_empty, close_next, then_same, then_refuses, item_refuses, then_reached, Reached, no_close, empty_there, key_reads, no_key, brace_key, entries_other, close_behind, comma_behind, other_behind, token_less, tokens_less, no_colon, no_brace, gives_alike, paren_alike, colon_alike, item_fails, value_less, other_next}
use Rattle.wave_tree.specs.declared.role.ValueStart.{ValueStart}
use Rattle.wave_tree.specs.declared.role.ValueStart.TheVariants as starts
use Rattle.wave_tree.specs.ValueStarts.{IsAlone, IsValueStart}
use Rattle.wave_tree.specs.Private.ParsedNodes.{IsParsedBehind, IsMaybe, IsInParens, IsOfItems, IsOfEntries, IsOfFlags, items_type, label_children}
use Rattle.wave_tree.specs.ParsedNodes.{TakesClass, IsParsed}
use Rattle.wave_grammar.specs.NodeTree.{NodeTree, node, no_nodes, node_trees}
use Rattle.wave_grammar.specs.declared.form.NodeType.{NodeType}
use Rattle.wave_grammar.specs.declared.form.NodeType.TheVariants as kind_of_node
use Rattle.wave_tree.proofs.NodeCorrectness.Items.{class_as, label_tied, items_tied, braces_tied, some_tied, some_there, type_of_items, items_built, items_none, items_first, items_next, empty_tied, no_fields_tied, entries_tied, flags_tied, word_tied, keyed_next, keyed_close}
use Rattle.wave_grammar.proofs.Elaboration.ParamsInTurn.{error_handed}
use Rattle.wave_tree.specs.Private.ParserState.{OnlyOutOfMemory}
use Rattle.wave_tree.proofs.ParserCorrectness.AloneTokens.{alone_parsed, alone_led, label_behind, nothing_begins}
use Rattle.wave_tree.proofs.ParserCorrectness.OutOfMemory.{wants_token, whatever_parts, wants_any, wants_refused, wants_reached, wants_less, answer_token, answer_brace, wants_other, wants_fails, wants_taken}
use Rattle.wave_tree.proofs.ParserCorrectness.PartsExpected.{key_next, value_next, payload_expected, payload_parts}
use Rattle.wave_tree.proofs.ParserCorrectness.BuiltNodes.{as_added, part_added, entry_added, built_node, finish_node_built, finish_empty_built, as_ok, never_built, source_item, source_parsed, source_reached}
use Rattle.wave_grammar.specs.NodeParts.{IsOfParts, TakesPart}
use Rattle.wave_tree.proofs.ParserCorrectness.NumbersInTurn.{asks_in_items, behind_item, numbers_less, still_in_items}
use Rattle.wave_tree.proofs.ParserCorrectness.ClassTests.{is_class, is_other, differs, differs_not}
use Rattle.wave_tree.proofs.ParserCorrectness.LexerCalls.{asks_none, asks_once, asks_token, asks_looked, asks_value, asks_begun, asks_item, asks_entries}
use Rattle.wave_tree.proofs.tokens.Tokens.+parser.Goals as goal
use Rattle.wave_tree.proofs.tokens.Tokens.+parser.Goals.{parse_items-then-eq-2, parse_items-else-eq-2}

-- a token that is a value on its own, by what it begins
start_alone : (c : lex.Token) (text shown : List ℕ) (f : ValueStart) (ty : NodeType) → shown ≡ text → IsValueStart c shown f → f ≡ starts.Alone ty → IsAlone c text ty
start_alone c text shown f ty text_is begins is = subst (λ (z : List ℕ). IsAlone c z ty) text_is (subst (IsValueStart c shown) is begins)

-- after an open parenthesis
open_there : {n : ℕ} {s : List StackSymbol} {p w : Place} → TakesItem p (Some (Ok ParenOpen)) w → Reached n expectation.paren s p expectation.value (expectation.payload ∷ s) w
open_there {n} {s} {p} h = then_same ParenOpen (here n expectation.paren s p) h refl

-- after a key and its colon
value_there : {n : ℕ} {s : List StackSymbol} {p q w : Place} → Reached n expectation.behind_key s p expectation.behind_key s q → TakesItem q (Some (Ok Colon)) w → Reached n expectation.behind_key s p expectation.value (expectation.entries ∷ s) w
value_there so_far h = then_same Colon so_far h refl

-- after a value and a comma a key is expected
key_expected : {n : ℕ} {s : List StackSymbol} {p q m w : Place} {c : lex.Token} → Reached n expectation.behind_key s p expectation.value (expectation.entries ∷ s) q → (item : LeadsBehindValue n expectation.value (expectation.entries ∷ s) q m (expectation.entries ∷ s)) →
    TakesItem m (Some (Ok c)) w → c ≡ Comma → Reached n expectation.behind_key s p expectation.key s w
key_expected {s = s} so_far item comma_there is_comma = then_behind_class {f = expectation.key} {b = s} item.expected_there Comma (then_reached so_far (reached item)) item.is_behind comma_there is_comma refl

pub parse_after_token-returns-in-Alone-clause-led : goal.parse_after_token-returns-in-Alone-clause-led
parse_after_token-returns-in-Alone-clause-led g t c = λ first there n s e. alone_led n s first c.args.self.now.place c.args.token c.in-Alone.ty (omega arith) there (subst (IsValueStart c.args.token (text_at c.args.self.now.place)) c.in-Alone.is c.requires.start)

pub parse_after_token-returns-in-Paren-clause-led : goal.parse_after_token-returns-in-Paren-clause-led
parse_after_token-returns-in-Paren-clause-led g t c = λ first there n s e. gives_then s _ c.parse_items.result (value_read n expectation.first_item s (expectation.tuple ∷ s) _ _ _ ParenOpen (omega arith) there (subst (IsValueStart c.args.token (text_at c.args.self.now.place)) c.in-Paren.is c.requires.start) refl) (c.parse_items.ensures.led n s (omega arith))

pub parse_after_token-returns-in-Bracket-clause-led : goal.parse_after_token-returns-in-Bracket-clause-led
parse_after_token-returns-in-Bracket-clause-led g t c = λ first there n s e. gives_then s _ c.parse_items-in-Bracket.result (value_read n expectation.first_item s (expectation.list ∷ s) _ _ _ BracketOpen (omega arith) there (subst (IsValueStart c.args.token (text_at c.args.self.now.place)) c.in-Bracket.is c.requires.start) refl) (c.parse_items-in-Bracket.ensures.led n s (omega arith))

pub parse_after_token-returns-in-Brace-clause-led : goal.parse_after_token-returns-in-Brace-clause-led
parse_after_token-returns-in-Brace-clause-led g t c = λ first there n s e. gives_then s _ c.parse_braces.result (value_read n expectation.in_braces s s _ _ _ BraceOpen (omega arith) there (subst (IsValueStart c.args.token (text_at c.args.self.now.place)) c.in-Brace.is c.requires.start) refl) (c.parse_braces.ensures.led n s (omega arith))

pub parse_after_token-returns-in-Nothing-clause-led : goal.parse_after_token-returns-in-Nothing-clause-led
parse_after_token-returns-in-Nothing-clause-led g t c = λ first there n s e.
    refuses_there s c.refuse_token.result c.refuse_token.ensures.never c.refuse_token.ensures.refused
    (λ x says. unexpected_there (inl tt) x c.args.token (here n expectation.value s _) there
    (level_open n s (token_of c.args.token (text_at c.args.self.now.place)) (omega arith) ∙ nothing_begins s c.args.token (text_at c.args.self.now.place) (subst (IsValueStart c.args.token (text_at c.args.self.now.place)) c.in-Nothing.is c.requires.start))
    says)

pub parse_after_token-returns-in-Alone-clause-tree : goal.parse_after_token-returns-in-Alone-clause-tree
parse_after_token-returns-in-Alone-clause-tree g t c = (node c.in-Alone.ty (span_at c.args.self.now.place) no_nodes, λ first there. alone_parsed c.args.levels first c.args.self.now.place c.args.token c.in-Alone.ty c.requires.levels there (subst (IsValueStart c.args.token (text_at c.args.self.now.place)) c.in-Alone.is c.requires.start), c.leaf.ensures)

pub parse_after_token-returns-in-Paren-clause-tree : goal.parse_after_token-returns-in-Paren-clause-tree
parse_after_token-returns-in-Paren-clause-tree g t c =
    let start = subst (IsValueStart c.args.token (text_at c.args.self.now.place)) c.in-Paren.is c.requires.start in
    built_node (g.P.Builder.is_built c.args.builder) c.args.self.now.place c.args.self.now.place (IsOfItems (c.args.levels - 1) ParenClose c.args.self.now.place c.parse_items.new.self.place) (IsParsedBehind c.args.token c.args.levels c.args.self.now.place c.parse_items.new.self.place) c.parse_items.result refl
    (λ n is first there. items_tied c.args.levels first c.args.self.now.place c.parse_items.new.self.place c.args.token ParenOpen ParenClose (inl (refl, refl)) (as_ok n) c.requires.levels there start is) c.parse_items.ensures.tree

pub parse_after_token-returns-in-Bracket-clause-tree : goal.parse_after_token-returns-in-Bracket-clause-tree
parse_after_token-returns-in-Bracket-clause-tree g t c =
    let start = subst (IsValueStart c.args.token (text_at c.args.self.now.place)) c.in-Bracket.is c.requires.start in
    built_node (g.P.Builder.is_built c.args.builder) c.args.self.now.place c.args.self.now.place (IsOfItems (c.args.levels - 1) BracketClose c.args.self.now.place c.parse_items-in-Bracket.new.self.place) (IsParsedBehind c.args.token c.args.levels c.args.self.now.place c.parse_items-in-Bracket.new.self.place) c.parse_items-in-Bracket.result refl
    (λ n is first there. items_tied c.args.levels first c.args.self.now.place c.parse_items-in-Bracket.new.self.place c.args.token BracketOpen BracketClose (inr (refl, refl)) (as_ok n) c.requires.levels there start is) c.parse_items-in-Bracket.ensures.tree

pub parse_after_token-returns-in-Brace-clause-tree : goal.parse_after_token-returns-in-Brace-clause-tree
parse_after_token-returns-in-Brace-clause-tree g t c =
    let start = subst (IsValueStart c.args.token (text_at c.args.self.now.place)) c.in-Brace.is c.requires.start in
    built_node (g.P.Builder.is_built c.args.builder) c.args.self.now.place c.args.self.now.place (IsParsedBehind BraceOpen (c.args.levels - 1 + 1) c.args.self.now.place c.parse_braces.new.self.place) (IsParsedBehind c.args.token c.args.levels c.args.self.now.place c.parse_braces.new.self.place) c.parse_braces.result refl
    (λ n is first there. braces_tied c.args.levels first c.args.self.now.place c.parse_braces.new.self.place c.args.token (as_ok n) c.requires.levels there start is) c.parse_braces.ensures.tree

pub parse_after_token-returns-in-Paren-clause-memory : goal.parse_after_token-returns-in-Paren-clause-memory
parse_after_token-returns-in-Paren-clause-memory g t c = λ first there. answer_token (g.P.Builder.takes_memory c.args.builder) first c.args.self.now.place c.args.token c.parse_items.result there c.parse_items.ensures.memory

pub parse_after_token-returns-in-Bracket-clause-memory : goal.parse_after_token-returns-in-Bracket-clause-memory
parse_after_token-returns-in-Bracket-clause-memory g t c = λ first there. answer_token (g.P.Builder.takes_memory c.args.builder) first c.args.self.now.place c.args.token c.parse_items-in-Bracket.result there c.parse_items-in-Bracket.ensures.memory

pub parse_after_token-returns-in-Brace-clause-memory : goal.parse_after_token-returns-in-Brace-clause-memory
parse_after_token-returns-in-Brace-clause-memory g t c = λ first there. answer_brace (g.P.Builder.takes_memory c.args.builder) first c.args.self.now.place c.parse_braces.result (class_as first c.args.self.now.place c.args.token BraceOpen there (subst (IsValueStart c.args.token (text_at c.args.self.now.place)) c.in-Brace.is c.requires.start))

pub parse_after_token-returns-in-Nothing-clause-memory : goal.parse_after_token-returns-in-Nothing-clause-memory
parse_after_token-returns-in-Nothing-clause-memory g t c = λ first there. wants_refused (g.P.Builder.takes_memory c.args.builder) first c.refuse_token.result c.refuse_token.ensures.refused
    (λ x says. wants_other (g.P.Builder.takes_memory c.args.builder) first x because.UnexpectedToken (kind_is says) (λ z. cc))

pub parse_items-returns-in_err-expect-clause-led : goal.parse_items-returns-in_err-expect-clause-led
parse_items-returns-in_err-expect-clause-led g t c = λ n s e. handed s _ _ c.from_residual.ensures.1
    (not_expected c.args.self.now.place c.next_is.new.self.place c.expect.new.self.place c.args.close c.in_err-expect.field-0.0 c.next_is.ensures.stays (c.if-next_is.ensures.answer.0 refl) c.in_err-expect.ensures.takes)

pub parse_items-returns-then-eq-clause-led : goal.parse_items-returns-then-eq-clause-led
parse_items-returns-then-eq-clause-led g t c = λ n s e.
    let first = ap (λ (z : Range ℕ). z.start) c.span-start.ensures ∙ sym (ap (λ (z : Place). z.lexer.start) c.next_is.ensures.stays) in
    refuses_there s c.refuse_empty.result c.refuse_empty.ensures.never c.refuse_empty.ensures.refused (λ x says. empty_there (inl tt) x c.args.close (here_is n expectation.first_item (form_of c.args.close ∷ s) _ _ c.next_is.ensures.stays) c.in_ok-expect.ensures.takes
    (close_empty n c.args.close s (text_at c.expect.new.self.place) (is_class _ _ c.eq.ensures c.if-eq.true))
    (record { is = says.is; stands = says.stands ∙ range_path first refl }))

pub parse_items-returns-then-next_is-clause-led : goal.parse_items-returns-then-next_is-clause-led
parse_items-returns-then-next_is-clause-led g t c = λ n s e.
    read_there (then_same c.args.close (here_is n expectation.first_item (form_of c.args.close ∷ s) _ _ c.next_is.ensures.stays) c.in_ok-expect.ensures.takes
    (close_first n c.args.close s (text_at c.expect.new.self.place) c.requires (is_other _ _ c.eq.ensures c.if-eq.false))) (inl refl)

pub parse_part-returns : goal.parse_part-returns
parse_part-returns g t c = record {
  led = λ n s e. c.parse_part_after_token.ensures.led c.args.self.now.place c.in-Token.ensures.takes n s e;
  kept = c.parse_part_after_token.ensures.kept c.args.self.now.place c.in-Token.ensures.takes;
  memory = c.parse_part_after_token.ensures.memory c.args.self.now.place c.in-Token.ensures.takes;
  asks = asks_token c.args.self.now c.take-item.new.self c.parse_part_after_token.new.self c.in-Token.token c.in-Token.ensures.takes c.take-item.ensures.asks c.parse_part_after_token.ensures.asks;
}

pub parse_part_after_token-returns-in-Alone : goal.parse_part_after_token-returns-in-Alone
parse_part_after_token-returns-in-Alone g t c =
    let here = c.args.self.now.place in
    let n = node c.in-Alone.ty (span_at here) no_nodes in
    let alone : IsAlone c.args.token (text_at here) c.in-Alone.ty = start_alone c.args.token (text_at here) c.slice.result.now c.value_start-start.result c.in-Alone.ty c.slice.ensures c.value_start-start.ensures c.in-Alone.is in record {
      led = λ first there n s e. gives_or_memory c.push_leaf.result c.push_leaf.ensures.memory (alone_led n s first here c.args.token c.in-Alone.ty (omega arith) there alone);
      kept = λ first there. let source : here.lexer.source ≡ first.lexer.source = source_item first here c.args.token there in
          as_added c.push_leaf.result c.push_leaf.ensures.kept (λ kept whole children expected are. (
            n,
            alone_parsed c.args.levels first here c.args.token c.in-Alone.ty c.requires there alone,
            subst (λ (s : List ℕ). g.P.Builder.are_parts c.args.builder s whole (children ++ n ∷ []) c.push_leaf.new.parts) source
                (kept whole children expected (subst (λ (s : List ℕ). g.P.Builder.are_parts c.args.builder s whole children c.args.parts.now) (sym source) are)),
          ));
      memory = λ first there. wants_any (λ (source : List ℕ) (of : NodeType) (children : List NodeTree). g.P.Builder.are_parts c.args.builder source of children c.args.parts.now) (g.P.Builder.takes_memory c.args.builder) (OnlyOutOfMemory (g.P.Builder.takes_memory c.args.builder) first) c.push_leaf.result c.push_leaf.ensures.takes (λ e takes. wants_taken (g.P.Builder.takes_memory c.args.builder) first e takes);
      asks = asks_none c.args.self.now c.args.self.now refl;
    }

pub parse_nested_part-returns-in_err-built-clause-led : goal.parse_nested_part-returns-in_err-built-clause-led
parse_nested_part-returns-in_err-built-clause-led g t c = λ first there n s e. handed s _ _ c.from_residual.ensures.1 (c.in_err-built.ensures.led first there n s e)

pub parse_nested_part-returns-in_err-built-clause-memory : goal.parse_nested_part-returns-in_err-built-clause-memory
parse_nested_part-returns-in_err-built-clause-memory g t c = λ first there.
    error_handed (λ e. (source : List ℕ) (of : NodeType) (children : List NodeTree) → g.P.Builder.are_parts c.args.builder source of children c.args.parts.now → OnlyOutOfMemory (g.P.Builder.takes_memory c.args.builder) first e) c.from_residual.result c.in_err-built.field-0.0 c.from_residual.ensures.1
    (λ source of children are. wants_less (g.P.Builder.takes_memory c.part-part.result) (g.P.Builder.takes_memory c.args.builder) first c.in_err-built.field-0.0
    (λ takes. g.met.P.Builder.next_takes c.args.builder source of children c.args.parts.now are (subst (λ z. g.P.Builder.takes_memory z) c.part-part.ensures takes)) (c.in_err-built.ensures.memory first there))

pub parse_nested_part-returns : goal.parse_nested_part-returns
parse_nested_part-returns g t c =
    let here = c.args.self.now.place in record {
      led = λ first there n s e. gives_or_memory c.push_part.result c.push_part.ensures.memory (c.in_ok-built.ensures.led first there n s e);
      kept = λ first there.
          let (n, is, of) = c.in_ok-built.ensures.tree in
          let source : here.lexer.source ≡ first.lexer.source = source_item first here c.args.token there in
          let built = subst (λ z. g.P.Builder.is_built z here.lexer.source n c.in_ok-built.built) c.part-part.ensures of in
          as_added c.push_part.result c.push_part.ensures.kept (λ kept whole children expected are.
          (n, is first there, (kept first.lexer.source whole children n expected are (subst (λ (s : List ℕ). g.P.Builder.is_built (g.P.Builder.next c.args.builder c.args.parts.now) s n c.in_ok-built.built) source built))));
      memory = λ first there. wants_any (λ (source : List ℕ) (of : NodeType) (children : List NodeTree). g.P.Builder.are_parts c.args.builder source of children c.args.parts.now) (g.P.Builder.takes_memory c.args.builder) (OnlyOutOfMemory (g.P.Builder.takes_memory c.args.builder) first) c.push_part.result c.push_part.ensures.takes (λ e takes. wants_taken (g.P.Builder.takes_memory c.args.builder) first e takes);
      asks = c.parse_after_token.ensures.asks;
    }

pub parse_items-returns-then-levels-eq0-clause-led : goal.parse_items-returns-then-levels-eq0-clause-led
parse_items-returns-then-levels-eq0-clause-led g t c = λ n s e.
    let none = subst (λ z. (next : Place) × TakesItem z (Some (Ok c.args.close)) next → ⊥) (sym c.next_is.ensures.stays) (λ next. untrue _ c.if-next_is.false (c.next_is.ensures.answer.1 next)) in
    refuses_there s c.refuse_depth.result c.refuse_depth.ensures.never c.refuse_depth.ensures.refused (λ x says. then_refuses x (here_is n expectation.first_item (form_of c.args.close ∷ s) _ _ c.next_is.ensures.stays)
    (item_refuses expectation.first_item x (inl refl) (no_close c.args.close s _ c.requires none) (no_level n (form_of c.args.close ∷ s) c.next_is.new.self.place x (omega arith) says)))

pub parse_items-returns-then-levels-eq0-clause-memory : goal.parse_items-returns-then-levels-eq0-clause-memory
parse_items-returns-then-levels-eq0-clause-memory g t c = wants_refused (g.P.Builder.takes_memory c.args.builder) c.args.self.now.place c.refuse_depth.result c.refuse_depth.ensures.refused (λ x says. wants_other (g.P.Builder.takes_memory c.args.builder) c.args.self.now.place x because.NestingTooDeep (kind_is says) (λ z. cc))

pub parse_items-returns-in_err-token-clause-led : goal.parse_items-returns-in_err-token-clause-led
parse_items-returns-in_err-token-clause-led g t c = λ n s e. handed s _ _ c.from_residual-in_err-token.ensures.1
    (fails (inl tt) (λ _. Unit {0}) c.in_err-token.field-0.0 (here_is n expectation.first_item (form_of c.args.close ∷ s) _ _ c.next_is.ensures.stays) (shallow n expectation.first_item (form_of c.args.close ∷ s) _ (omega arith)) (any_token n expectation.first_item (form_of c.args.close ∷ s) _ _) c.in_err-token.ensures.takes)

pub parse_items-returns-in_err-token-clause-memory : goal.parse_items-returns-in_err-token-clause-memory
parse_items-returns-in_err-token-clause-memory g t c = error_handed (OnlyOutOfMemory (g.P.Builder.takes_memory c.args.builder) c.args.self.now.place) c.from_residual-in_err-token.result c.in_err-token.field-0.0 c.from_residual-in_err-token.ensures.1 (wants_fails (g.P.Builder.takes_memory c.args.builder) c.args.self.now.place c.next_is.new.self.place c.advance.new.self.place (λ _. Unit {0}) c.in_err-token.field-0.0 c.in_err-token.ensures.takes)

pub parse_items-items-init : goal.parse_items-items-init
parse_items-items-init g t c = record {
  asks = asks_looked c.args.self.now c.next_is.new.self c.advance.new.self c.next_is.ensures.stays c.next_is.ensures.asks (asks_once c.next_is.new.self c.advance.new.self c.advance.ensures.asks);
  takes = elim c.if-eq-2.branch as (λ _. (any : List NodeTree) → TakesPart c.if-eq-2.ty any) [
    | parse_items-then-eq-2 w ↦ λ any. subst (λ z. TakesPart z any) (sym w.ty-is) tt
    | parse_items-else-eq-2 w ↦ λ any. subst (λ z. TakesPart z any) (sym w.ty-is) tt
  ];
  from = (
    c.next_is.new.self.place,
    c.in_ok-token.ensures.takes,
    subst (λ z. (next : Place) × TakesItem z (Some (Ok c.args.close)) next → ⊥) (sym c.next_is.ensures.stays) (λ next. untrue _ c.if-next_is.false (c.next_is.ensures.answer.1 next)),
    λ n s e. (expectation.first_item, inl refl, here_is n expectation.first_item (form_of c.args.close ∷ s) _ _ c.next_is.ensures.stays),
    [],
    c.no_parts-parts.ensures _ (elim c.if-eq-2.branch [
      | parse_items-then-eq-2 w ↦ subst IsOfParts (sym w.ty-is) tt
      | parse_items-else-eq-2 w ↦ subst IsOfParts (sym w.ty-is) tt
    ]),
    items_first _ _ _ _ [] refl c.next_is.ensures.stays,
  );
}

pub parse_items-returns-in-Err-parse_part_after_token-clause-led : goal.parse_items-returns-in-Err-parse_part_after_token-clause-led
parse_items-returns-in-Err-parse_part_after_token-clause-led g t c = λ n s e.
    let (at, there, none, expected_at, children, first, go) = still_in_items c.args.levels (omega arith) c.args.close c.requires c.args.self.now.place (λ s of cs ps. g.P.Builder.are_parts c.args.builder s of cs ps) c.if-eq-2.ty c.items.invariant.takes c.items.token c.items.self.place c.push_numbers.new.self.place c.items.parts c.push_numbers.new.parts c.items.invariant.from c.in_default.ensures.kept c.in_default.ensures.only in
    let (d, i, r) = expected_at n s e in
    (then_refuses c.in-Err-parse_part_after_token.error r
    (item_refuses d c.in-Err-parse_part_after_token.error i (no_close c.args.close s _ c.requires none) (c.in-Err-parse_part_after_token.ensures.led at there n (form_of c.args.close ∷ s) (omega arith))))

pub parse_items-returns-then-eq-3-clause-led : goal.parse_items-returns-then-eq-3-clause-led
parse_items-returns-then-eq-3-clause-led g t c = λ n s e.
    let (at, there, none, expected_at, children, first, go) = still_in_items c.args.levels (omega arith) c.args.close c.requires c.args.self.now.place (λ s of cs ps. g.P.Builder.are_parts c.args.builder s of cs ps) c.if-eq-2.ty c.items.invariant.takes c.items.token c.items.self.place c.push_numbers.new.self.place c.items.parts c.push_numbers.new.parts c.items.invariant.from c.in_default.ensures.kept c.in_default.ensures.only in
    let (d, i, r) = expected_at n s e in
    let item = c.in_default-parse_part_after_token.ensures.led at there n (form_of c.args.close ∷ s) (omega arith) in
    let behind = behind_item c.args.close c.requires none i r item in
    let step_there = close_behind c.args.close s (text_at c.take-item.new.self.place) c.requires in
    read_there (then_behind item.expected_there c.in-Token.mark behind item.is_behind c.in-Token.ensures.takes
    (subst (λ z. behind_step (form_of c.args.close ∷ s) (token_of z (text_at c.take-item.new.self.place)) ≡ reads expectation.behind_value s) (sym (is_class c.in-Token.mark c.args.close c.eq-in-items.ensures c.if-eq-3.true)) step_there)) (inl refl)

pub parse_items-returns-then-ne-clause-led : goal.parse_items-returns-then-ne-clause-led
parse_items-returns-then-ne-clause-led g t c = λ n s e.
    let (at, there, none, expected_at, children, first, go) = still_in_items c.args.levels (omega arith) c.args.close c.requires c.args.self.now.place (λ s of cs ps. g.P.Builder.are_parts c.args.builder s of cs ps) c.if-eq-2.ty c.items.invariant.takes c.items.token c.items.self.place c.push_numbers.new.self.place c.items.parts c.push_numbers.new.parts c.items.invariant.from c.in_default.ensures.kept c.in_default.ensures.only in
    let (d, i, r) = expected_at n s e in
    let item = c.in_default-parse_part_after_token.ensures.led at there n (form_of c.args.close ∷ s) (omega arith) in
    let behind = behind_item c.args.close c.requires none i r item in
    refuses_there s c.refuse_token.result c.refuse_token.ensures.never c.refuse_token.ensures.refused (λ x says. unexpected_behind item.expected_there x c.in-Token.mark behind item.is_behind c.in-Token.ensures.takes
    (other_behind c.args.close c.in-Token.mark s (text_at c.take-item.new.self.place) c.requires (is_other _ _ c.eq-in-items.ensures c.if-eq-3.false) (differs _ _ c.ne.ensures c.if-ne.true))
    says)

pub parse_items-returns-then-eq-4-clause-led : goal.parse_items-returns-then-eq-4-clause-led
parse_items-returns-then-eq-4-clause-led g t c = λ n s e.
    let (at, there, none, expected_at, children, first, go) = still_in_items c.args.levels (omega arith) c.args.close c.requires c.args.self.now.place (λ s of cs ps. g.P.Builder.are_parts c.args.builder s of cs ps) c.if-eq-2.ty c.items.invariant.takes c.items.token c.items.self.place c.push_numbers.new.self.place c.items.parts c.push_numbers.new.parts c.items.invariant.from c.in_default.ensures.kept c.in_default.ensures.only in
    let (d, i, r) = expected_at n s e in
    let item = c.in_default-parse_part_after_token.ensures.led at there n (form_of c.args.close ∷ s) (omega arith) in
    let behind = behind_item c.args.close c.requires none i r item in
    let comma_step = subst (λ z. behind_step (form_of c.args.close ∷ s) (token_of z (text_at c.take-item.new.self.place)) ≡ reads expectation.next_item (form_of c.args.close ∷ s)) (sym (differs_not c.in-Token.mark Comma c.ne.ensures c.if-ne.false)) (comma_behind c.args.close s (text_at c.take-item.new.self.place) c.requires) in
    let next = then_behind item.expected_there c.in-Token.mark behind item.is_behind c.in-Token.ensures.takes comma_step in
    read_there (then_class c.args.close next c.in-Token-item.ensures.takes (is_class _ _ c.eq-in-items-2.ensures c.if-eq-4.true) (close_next n c.args.close s (text_at c.take-item-in-items.new.self.place) c.requires)) (inl refl)

pub parse_items-items-smaller : goal.parse_items-items-smaller
parse_items-items-smaller g t c =
    let (at, there, none, expected_at, children, first, go) = still_in_items c.args.levels (omega arith) c.args.close c.requires c.args.self.now.place (λ s of cs ps. g.P.Builder.are_parts c.args.builder s of cs ps) c.if-eq-2.ty c.items.invariant.takes c.items.token c.items.self.place c.push_numbers.new.self.place c.items.parts c.push_numbers.new.parts c.items.invariant.from c.in_default.ensures.kept c.in_default.ensures.only in
    let item = c.in_default-parse_part_after_token.ensures.led at there (c.args.levels + 1 + 0) (form_of c.args.close ∷ []) (omega arith) in
    let zero = numbers_less c.in_default.ensures.kept.places c.items.self.place c.push_numbers.new.self.place c.in_default.ensures.kept.turn in
    let one = value_less at c.push_numbers.new.self.place c.parse_part_after_token.new.self.place c.items.token there item in
    let two = token_less _ _ c.in-Token.mark c.in-Token.ensures.takes in
    let three = token_less _ _ c.in-Token-item.next c.in-Token-item.ensures.takes in
    omega arith

pub parse_items-returns-in-Err-clause-memory : goal.parse_items-returns-in-Err-clause-memory
parse_items-returns-in-Err-clause-memory g t c =
    let (at, there, none, expected_at, children, are, go) = c.items.invariant.from in
    let (d, i, r) = expected_at (c.args.levels + 1) [] (omega arith) in
    let source : c.items.self.place.lexer.source ≡ c.args.self.now.place.lexer.source = source_item at c.items.self.place c.items.token there ∙ source_reached r in
    (λ k small. c.in-Err.ensures.takes c.if-eq-2.ty children c.items.invariant.takes (subst (λ (s : List ℕ). g.P.Builder.are_parts c.args.builder s c.if-eq-2.ty children c.items.parts) (sym source) are))

pub parse_items-returns-in-Err-clause-asks : goal.parse_items-returns-in-Err-clause-asks
parse_items-returns-in-Err-clause-asks g t c =
    asks_in_items (λ s cs ps. g.P.Builder.are_parts c.args.builder s c.if-eq-2.ty cs ps) c.args.levels c.args.close c.items.token c.items.parts c.args.self.now c.items.self c.push_numbers.new.self c.items.invariant.from c.items.invariant.asks c.push_numbers.ensures.asks

pub parse_items-returns-in-Err-parse_part_after_token-clause-asks : goal.parse_items-returns-in-Err-parse_part_after_token-clause-asks
parse_items-returns-in-Err-parse_part_after_token-clause-asks g t c =
    let (at, there, none, expected_at, children, first, go) = still_in_items c.args.levels (omega arith) c.args.close c.requires c.args.self.now.place (λ s of cs ps. g.P.Builder.are_parts c.args.builder s of cs ps) c.if-eq-2.ty c.items.invariant.takes c.items.token c.items.self.place c.push_numbers.new.self.place c.items.parts c.push_numbers.new.parts c.items.invariant.from c.in_default.ensures.kept c.in_default.ensures.only in
    asks_begun c.args.levels c.args.close c.items.token c.args.self.now c.push_numbers.new.self c.parse_part_after_token.new.self at expected_at there (asks_in_items (λ s cs ps. g.P.Builder.are_parts c.args.builder s c.if-eq-2.ty cs ps) c.args.levels c.args.close c.items.token c.items.parts c.args.self.now c.items.self c.push_numbers.new.self c.items.invariant.from c.items.invariant.asks c.push_numbers.ensures.asks) c.parse_part_after_token.ensures.asks

pub parse_items-returns-then-eq-3-clause-asks : goal.parse_items-returns-then-eq-3-clause-asks
parse_items-returns-then-eq-3-clause-asks g t c =
    let (at, there, none, expected_at, children, first, go) = still_in_items c.args.levels (omega arith) c.args.close c.requires c.args.self.now.place (λ s of cs ps. g.P.Builder.are_parts c.args.builder s of cs ps) c.if-eq-2.ty c.items.invariant.takes c.items.token c.items.self.place c.push_numbers.new.self.place c.items.parts c.push_numbers.new.parts c.items.invariant.from c.in_default.ensures.kept c.in_default.ensures.only in
    asks_item c.args.levels c.args.close c.args.self.now c.parse_part_after_token.new.self c.take-item.new.self at c.requires none expected_at (c.in_default-parse_part_after_token.ensures.led at there) (asks_begun c.args.levels c.args.close c.items.token c.args.self.now c.push_numbers.new.self c.parse_part_after_token.new.self at expected_at there (asks_in_items (λ s cs ps. g.P.Builder.are_parts c.args.builder s c.if-eq-2.ty cs ps) c.args.levels c.args.close c.items.token c.items.parts c.args.self.now c.items.self c.push_numbers.new.self c.items.invariant.from c.items.invariant.asks c.push_numbers.ensures.asks) c.parse_part_after_token.ensures.asks) (asks_once c.parse_part_after_token.new.self c.take-item.new.self c.take-item.ensures.asks)

pub parse_items-returns-then-ne-clause-asks : goal.parse_items-returns-then-ne-clause-asks
parse_items-returns-then-ne-clause-asks g t c =
    let (at, there, none, expected_at, children, first, go) = still_in_items c.args.levels (omega arith) c.args.close c.requires c.args.self.now.place (λ s of cs ps. g.P.Builder.are_parts c.args.builder s of cs ps) c.if-eq-2.ty c.items.invariant.takes c.items.token c.items.self.place c.push_numbers.new.self.place c.items.parts c.push_numbers.new.parts c.items.invariant.from c.in_default.ensures.kept c.in_default.ensures.only in
    asks_item c.args.levels c.args.close c.args.self.now c.parse_part_after_token.new.self c.take-item.new.self at c.requires none expected_at (c.in_default-parse_part_after_token.ensures.led at there) (asks_begun c.args.levels c.args.close c.items.token c.args.self.now c.push_numbers.new.self c.parse_part_after_token.new.self at expected_at there (asks_in_items (λ s cs ps. g.P.Builder.are_parts c.args.builder s c.if-eq-2.ty cs ps) c.args.levels c.args.close c.items.token c.items.parts c.args.self.now c.items.self c.push_numbers.new.self c.items.invariant.from c.items.invariant.asks c.push_numbers.ensures.asks) c.parse_part_after_token.ensures.asks) (asks_once c.parse_part_after_token.new.self c.take-item.new.self c.take-item.ensures.asks)

pub parse_items-returns-then-eq-4-clause-asks : goal.parse_items-returns-then-eq-4-clause-asks
parse_items-returns-then-eq-4-clause-asks g t c =
    let (at, there, none, expected_at, children, first, go) = still_in_items c.args.levels (omega arith) c.args.close c.requires c.args.self.now.place (λ s of cs ps. g.P.Builder.are_parts c.args.builder s of cs ps) c.if-eq-2.ty c.items.invariant.takes c.items.token c.items.self.place c.push_numbers.new.self.place c.items.parts c.push_numbers.new.parts c.items.invariant.from c.in_default.ensures.kept c.in_default.ensures.only in
    asks_item c.args.levels c.args.close c.args.self.now c.parse_part_after_token.new.self c.take-item-in-items.new.self at c.requires none expected_at (c.in_default-parse_part_after_token.ensures.led at there) (asks_begun c.args.levels c.args.close c.items.token c.args.self.now c.push_numbers.new.self c.parse_part_after_token.new.self at expected_at there (asks_in_items (λ s cs ps. g.P.Builder.are_parts c.args.builder s c.if-eq-2.ty cs ps) c.args.levels c.args.close c.items.token c.items.parts c.args.self.now c.items.self c.push_numbers.new.self c.items.invariant.from c.items.invariant.asks c.push_numbers.ensures.asks) c.parse_part_after_token.ensures.asks) (asks_token c.parse_part_after_token.new.self c.take-item.new.self c.take-item-in-items.new.self c.in-Token.mark c.in-Token.ensures.takes c.take-item.ensures.asks (asks_once c.take-item.new.self c.take-item-in-items.new.self c.take-item-in-items.ensures.asks))

pub parse_items-returns-then-eq-3-clause-tree : goal.parse_items-returns-then-eq-3-clause-tree
parse_items-returns-then-eq-3-clause-tree g t c =
    let (at, there, none, expected_at, children, first, go) = still_in_items c.args.levels (omega arith) c.args.close c.requires c.args.self.now.place (λ s of cs ps. g.P.Builder.are_parts c.args.builder s of cs ps) c.if-eq-2.ty c.items.invariant.takes c.items.token c.items.self.place c.push_numbers.new.self.place c.items.parts c.push_numbers.new.parts c.items.invariant.from c.in_default.ensures.kept c.in_default.ensures.only in
    let (d, i, r) = expected_at (c.args.levels + 1) [] (omega arith) in
    let here : at.lexer.source ≡ c.args.self.now.place.lexer.source = source_reached r in
    let part_expected = c.items.invariant.takes children in
    let (n, is, grown) = part_added (λ (s : List ℕ) cs ps. g.P.Builder.are_parts c.args.builder s c.if-eq-2.ty cs ps) c.push_numbers.new.parts c.parse_part_after_token.new.parts children (IsParsed c.args.levels at c.parse_part_after_token.new.self.place) here (c.in_default-parse_part_after_token.ensures.kept at there c.if-eq-2.ty children part_expected) first in
    let behind : c.parse_part_after_token.new.self.place.lexer.source ≡ c.args.self.now.place.lexer.source = source_parsed c.args.levels at c.parse_part_after_token.new.self.place n is ∙ here in
    let marked : c.take-item.new.self.place.lexer.source ≡ c.args.self.now.place.lexer.source = source_item c.parse_part_after_token.new.self.place c.take-item.new.self.place c.in-Token.mark c.in-Token.ensures.takes ∙ behind in
    finish_node_built (g.P.Builder.is_built c.args.builder) (λ (s : List ℕ) cs ps. g.P.Builder.are_parts c.args.builder s c.if-eq-2.ty cs ps) c.args.self.now.place c.take-item.new.self.place c.if-eq-2.ty c.span-start.result.start c.finish_node.result c.parse_part_after_token.new.parts (children ++ n ∷ []) (IsOfItems c.args.levels c.args.close c.args.self.now.place c.take-item.new.self.place) marked grown c.finish_node.ensures
    (items_built c.args.levels c.args.close c.args.self.now.place c.take-item.new.self.place c.if-eq-2.ty c.span-start.result.start (children ++ n ∷ []) _ refl (elim c.if-eq-2.branch [
      | parse_items-then-eq-2 w ↦ w.ty-is ∙ sym (ap items_type (is_class c.args.close ParenClose c.eq-2.ensures w.if-eq-2.true))
      | parse_items-else-eq-2 w ↦ w.ty-is ∙ sym (type_of_items c.args.close c.requires (is_other _ _ c.eq-2.ensures w.if-eq-2.false))
    ]) (ap (λ (z : Range ℕ). z.start) c.span-start.ensures) (go n c.parse_part_after_token.new.self.place c.take-item.new.self.place [] is (inl (class_as _ _ _ c.args.close c.in-Token.ensures.takes (is_class _ _ c.eq-in-items.ensures c.if-eq-3.true)))) (λ k. some_there children _ n refl))

pub parse_items-returns-then-eq-4-clause-tree : goal.parse_items-returns-then-eq-4-clause-tree
parse_items-returns-then-eq-4-clause-tree g t c =
    let (at, there, none, expected_at, children, first, go) = still_in_items c.args.levels (omega arith) c.args.close c.requires c.args.self.now.place (λ s of cs ps. g.P.Builder.are_parts c.args.builder s of cs ps) c.if-eq-2.ty c.items.invariant.takes c.items.token c.items.self.place c.push_numbers.new.self.place c.items.parts c.push_numbers.new.parts c.items.invariant.from c.in_default.ensures.kept c.in_default.ensures.only in
    let (d, i, r) = expected_at (c.args.levels + 1) [] (omega arith) in
    let here : at.lexer.source ≡ c.args.self.now.place.lexer.source = source_reached r in
    let part_expected = c.items.invariant.takes children in
    let (n, is, grown) = part_added (λ (s : List ℕ) cs ps. g.P.Builder.are_parts c.args.builder s c.if-eq-2.ty cs ps) c.push_numbers.new.parts c.parse_part_after_token.new.parts children (IsParsed c.args.levels at c.parse_part_after_token.new.self.place) here (c.in_default-parse_part_after_token.ensures.kept at there c.if-eq-2.ty children part_expected) first in
    let behind : c.parse_part_after_token.new.self.place.lexer.source ≡ c.args.self.now.place.lexer.source = source_parsed c.args.levels at c.parse_part_after_token.new.self.place n is ∙ here in
    let marked : c.take-item.new.self.place.lexer.source ≡ c.args.self.now.place.lexer.source = source_item c.parse_part_after_token.new.self.place c.take-item.new.self.place c.in-Token.mark c.in-Token.ensures.takes ∙ behind in
    let close : c.take-item-in-items.new.self.place.lexer.source ≡ c.args.self.now.place.lexer.source = source_item c.take-item.new.self.place c.take-item-in-items.new.self.place c.in-Token-item.next c.in-Token-item.ensures.takes ∙ marked in
    finish_node_built (g.P.Builder.is_built c.args.builder) (λ (s : List ℕ) cs ps. g.P.Builder.are_parts c.args.builder s c.if-eq-2.ty cs ps) c.args.self.now.place c.take-item-in-items.new.self.place c.if-eq-2.ty c.span-start.result.start c.finish_node-then-eq-4.result c.parse_part_after_token.new.parts (children ++ n ∷ []) (IsOfItems c.args.levels c.args.close c.args.self.now.place c.take-item-in-items.new.self.place) close grown c.finish_node-then-eq-4.ensures
    (items_built c.args.levels c.args.close c.args.self.now.place c.take-item-in-items.new.self.place c.if-eq-2.ty c.span-start.result.start (children ++ n ∷ []) _ refl (elim c.if-eq-2.branch [
      | parse_items-then-eq-2 w ↦ w.ty-is ∙ sym (ap items_type (is_class c.args.close ParenClose c.eq-2.ensures w.if-eq-2.true))
      | parse_items-else-eq-2 w ↦ w.ty-is ∙ sym (type_of_items c.args.close c.requires (is_other _ _ c.eq-2.ensures w.if-eq-2.false))
    ]) (ap (λ (z : Range ℕ). z.start) c.span-start.ensures) (go n c.parse_part_after_token.new.self.place c.take-item-in-items.new.self.place [] is (inr (
      c.take-item.new.self.place,
      class_as _ _ _ Comma c.in-Token.ensures.takes (differs_not _ _ c.ne.ensures c.if-ne.false),
      class_as _ _ _ c.args.close c.in-Token-item.ensures.takes (is_class _ _ c.eq-in-items-2.ensures c.if-eq-4.true),
    ))) (λ k. some_there children _ n refl))

pub parse_items-items-preserved : goal.parse_items-items-preserved
parse_items-items-preserved g t c =
    let (at, there, none, expected_at, children, first, go) = still_in_items c.args.levels (omega arith) c.args.close c.requires c.args.self.now.place (λ s of cs ps. g.P.Builder.are_parts c.args.builder s of cs ps) c.if-eq-2.ty c.items.invariant.takes c.items.token c.items.self.place c.push_numbers.new.self.place c.items.parts c.push_numbers.new.parts c.items.invariant.from c.in_default.ensures.kept c.in_default.ensures.only in
    let (d, i, r) = expected_at (c.args.levels + 1) [] (omega arith) in
    let here : at.lexer.source ≡ c.args.self.now.place.lexer.source = source_reached r in
    let part_expected = c.items.invariant.takes children in
    let (n, is, grown) = part_added (λ (s : List ℕ) cs ps. g.P.Builder.are_parts c.args.builder s c.if-eq-2.ty cs ps) c.push_numbers.new.parts c.parse_part_after_token.new.parts children (IsParsed c.args.levels at c.parse_part_after_token.new.self.place) here (c.in_default-parse_part_after_token.ensures.kept at there c.if-eq-2.ty children part_expected) first in
    record {
      takes = c.items.invariant.takes;
      asks = asks_item c.args.levels c.args.close c.args.self.now c.parse_part_after_token.new.self c.take-item-in-items.new.self at c.requires none expected_at (c.in_default-parse_part_after_token.ensures.led at there) (asks_begun c.args.levels c.args.close c.items.token c.args.self.now c.push_numbers.new.self c.parse_part_after_token.new.self at expected_at there (asks_in_items (λ s cs ps. g.P.Builder.are_parts c.args.builder s c.if-eq-2.ty cs ps) c.args.levels c.args.close c.items.token c.items.parts c.args.self.now c.items.self c.push_numbers.new.self c.items.invariant.from c.items.invariant.asks c.push_numbers.ensures.asks) c.parse_part_after_token.ensures.asks) (asks_token c.parse_part_after_token.new.self c.take-item.new.self c.take-item-in-items.new.self c.in-Token.mark c.in-Token.ensures.takes c.take-item.ensures.asks (asks_once c.take-item.new.self c.take-item-in-items.new.self c.take-item-in-items.ensures.asks));
      from = (
        c.take-item.new.self.place,
        c.in-Token-item.ensures.takes,
        other_next c.args.close c.in-Token-item.next c.take-item.new.self.place c.take-item-in-items.new.self.place (is_other _ _ c.eq-in-items-2.ensures c.if-eq-4.false) c.in-Token-item.ensures.takes,
        λ n s e.
            let (d, i, r) = expected_at n s e in
            let item = c.in_default-parse_part_after_token.ensures.led at there n (form_of c.args.close ∷ s) (omega arith) in
            let behind = behind_item c.args.close c.requires none i r item in
            let comma_step = subst (λ z. behind_step (form_of c.args.close ∷ s) (token_of z (text_at c.take-item.new.self.place)) ≡ reads expectation.next_item (form_of c.args.close ∷ s)) (sym (differs_not c.in-Token.mark Comma c.ne.ensures c.if-ne.false)) (comma_behind c.args.close s (text_at c.take-item.new.self.place) c.requires) in
            let next = then_behind item.expected_there c.in-Token.mark behind item.is_behind c.in-Token.ensures.takes comma_step in
            (expectation.next_item, inr refl, next),
        children ++ n ∷ [],
        grown,
        items_next c.args.levels c.args.close c.args.self.now.place at c.parse_part_after_token.new.self.place c.take-item.new.self.place c.take-item.new.self.place children (children ++ n ∷ []) n go is (class_as _ _ _ Comma c.in-Token.ensures.takes (differs_not _ _ c.ne.ensures c.if-ne.false)) refl refl,
      );
    }

pub parse_items-returns-in-Err-parse_part_after_token-clause-memory : goal.parse_items-returns-in-Err-parse_part_after_token-clause-memory
parse_items-returns-in-Err-parse_part_after_token-clause-memory g t c = (let (at, there, none, expected_at, children, first, go) = still_in_items c.args.levels (omega arith) c.args.close c.requires c.args.self.now.place (λ s of cs ps. g.P.Builder.are_parts c.args.builder s of cs ps) c.if-eq-2.ty c.items.invariant.takes c.items.token c.items.self.place c.push_numbers.new.self.place c.items.parts c.push_numbers.new.parts c.items.invariant.from c.in_default.ensures.kept c.in_default.ensures.only in
    let (d, i, r) = expected_at (c.args.levels + 1) [] (omega arith) in
    wants_reached (g.P.Builder.takes_memory c.args.builder) c.in-Err-parse_part_after_token.error r (c.in-Err-parse_part_after_token.ensures.memory at there c.args.self.now.place.lexer.source c.if-eq-2.ty children first))

pub parse_items-finish_node-requires : goal.parse_items-finish_node-requires
parse_items-finish_node-requires g t c =
    let (at, there, none, expected_at, children, first, go) = still_in_items c.args.levels (omega arith) c.args.close c.requires c.args.self.now.place (λ s of cs ps. g.P.Builder.are_parts c.args.builder s of cs ps) c.if-eq-2.ty c.items.invariant.takes c.items.token c.items.self.place c.push_numbers.new.self.place c.items.parts c.push_numbers.new.parts c.items.invariant.from c.in_default.ensures.kept c.in_default.ensures.only in
    let (d, i, r) = expected_at (c.args.levels + 1) [] (omega arith) in
    let here : at.lexer.source ≡ c.args.self.now.place.lexer.source = source_reached r in
    let part_expected = c.items.invariant.takes children in
    let (n, is, grown) = part_added (λ (s : List ℕ) cs ps. g.P.Builder.are_parts c.args.builder s c.if-eq-2.ty cs ps) c.push_numbers.new.parts c.parse_part_after_token.new.parts children (IsParsed c.args.levels at c.parse_part_after_token.new.self.place) here (c.in_default-parse_part_after_token.ensures.kept at there c.if-eq-2.ty children part_expected) first in
    (c.args.self.now.place.lexer.source, children ++ n ∷ [], grown)

pub parse_items-finish_node-requires-then-eq-4 : goal.parse_items-finish_node-requires-then-eq-4
parse_items-finish_node-requires-then-eq-4 g t c =
    let (at, there, none, expected_at, children, first, go) = still_in_items c.args.levels (omega arith) c.args.close c.requires c.args.self.now.place (λ s of cs ps. g.P.Builder.are_parts c.args.builder s of cs ps) c.if-eq-2.ty c.items.invariant.takes c.items.token c.items.self.place c.push_numbers.new.self.place c.items.parts c.push_numbers.new.parts c.items.invariant.from c.in_default.ensures.kept c.in_default.ensures.only in
    let (d, i, r) = expected_at (c.args.levels + 1) [] (omega arith) in
    let here : at.lexer.source ≡ c.args.self.now.place.lexer.source = source_reached r in
    let part_expected = c.items.invariant.takes children in
    let (n, is, grown) = part_added (λ (s : List ℕ) cs ps. g.P.Builder.are_parts c.args.builder s c.if-eq-2.ty cs ps) c.push_numbers.new.parts c.parse_part_after_token.new.parts children (IsParsed c.args.levels at c.parse_part_after_token.new.self.place) here (c.in_default-parse_part_after_token.ensures.kept at there c.if-eq-2.ty children part_expected) first in
    (c.args.self.now.place.lexer.source, children ++ n ∷ [], grown)

pub parse_items-returns-in_default-item : goal.parse_items-returns-in_default-item
parse_items-returns-in_default-item g t c =
    let (at, there, none, expected_at, children, first, go) = still_in_items c.args.levels (omega arith) c.args.close c.requires c.args.self.now.place (λ s of cs ps. g.P.Builder.are_parts c.args.builder s of cs ps) c.if-eq-2.ty c.items.invariant.takes c.items.token c.items.self.place c.push_numbers.new.self.place c.items.parts c.push_numbers.new.parts c.items.invariant.from c.in_default.ensures.kept c.in_default.ensures.only in
    record {
      led = λ n s e.
          let (d, i, r) = expected_at n s e in
          let item = c.in_default-parse_part_after_token.ensures.led at there n (form_of c.args.close ∷ s) (omega arith) in
          let behind = behind_item c.args.close c.requires none i r item in
          refuses_there s c.refuse_item.result c.refuse_item.ensures.never c.refuse_item.ensures.refused
          (λ x says. fails_behind item.expected_there (λ _. Unit {0}) x behind item.is_behind (λ k text apart. absurd (apart tt)) (item_fails (λ _. Unit {0}) c.take-item.result c.parse_part_after_token.new.self.place c.take-item.new.self.place x c.in_default-item.not-Token c.take-item.ensures.takes says));
      tree = never_built _ c.refuse_item.result c.refuse_item.ensures.never;
      memory = wants_refused (g.P.Builder.takes_memory c.args.builder) c.args.self.now.place c.refuse_item.result c.refuse_item.ensures.refused (λ x says. wants_fails (g.P.Builder.takes_memory c.args.builder) c.args.self.now.place c.parse_part_after_token.new.self.place c.take-item.new.self.place (λ _. Unit {0}) x (item_fails (λ _. Unit {0}) c.take-item.result c.parse_part_after_token.new.self.place c.take-item.new.self.place x c.in_default-item.not-Token c.take-item.ensures.takes says));
      asks = asks_item c.args.levels c.args.close c.args.self.now c.parse_part_after_token.new.self c.take-item.new.self at c.requires none expected_at (c.in_default-parse_part_after_token.ensures.led at there) (asks_begun c.args.levels c.args.close c.items.token c.args.self.now c.push_numbers.new.self c.parse_part_after_token.new.self at expected_at there (asks_in_items (λ s cs ps. g.P.Builder.are_parts c.args.builder s c.if-eq-2.ty cs ps) c.args.levels c.args.close c.items.token c.items.parts c.args.self.now c.items.self c.push_numbers.new.self c.items.invariant.from c.items.invariant.asks c.push_numbers.ensures.asks) c.parse_part_after_token.ensures.asks) (asks_once c.parse_part_after_token.new.self c.take-item.new.self c.take-item.ensures.asks);
    }

pub parse_items-returns-in_default-item-2 : goal.parse_items-returns-in_default-item-2
parse_items-returns-in_default-item-2 g t c =
    let (at, there, none, expected_at, children, first, go) = still_in_items c.args.levels (omega arith) c.args.close c.requires c.args.self.now.place (λ s of cs ps. g.P.Builder.are_parts c.args.builder s of cs ps) c.if-eq-2.ty c.items.invariant.takes c.items.token c.items.self.place c.push_numbers.new.self.place c.items.parts c.push_numbers.new.parts c.items.invariant.from c.in_default.ensures.kept c.in_default.ensures.only in
    record {
      led = λ n s e.
          let (d, i, r) = expected_at n s e in
          let item = c.in_default-parse_part_after_token.ensures.led at there n (form_of c.args.close ∷ s) (omega arith) in
          let behind = behind_item c.args.close c.requires none i r item in
          let comma_step = subst (λ z. behind_step (form_of c.args.close ∷ s) (token_of z (text_at c.take-item.new.self.place)) ≡ reads expectation.next_item (form_of c.args.close ∷ s)) (sym (differs_not c.in-Token.mark Comma c.ne.ensures c.if-ne.false)) (comma_behind c.args.close s (text_at c.take-item.new.self.place) c.requires) in
          let next = then_behind item.expected_there c.in-Token.mark behind item.is_behind c.in-Token.ensures.takes comma_step in
          refuses_there s c.refuse_item-in_default-item-2.result c.refuse_item-in_default-item-2.ensures.never c.refuse_item-in_default-item-2.ensures.refused
          (λ x says. fails (inl tt) (λ _. Unit {0}) x next (shallow n expectation.next_item (form_of c.args.close ∷ s) _ (omega arith)) (any_token n expectation.next_item (form_of c.args.close ∷ s) _ _) (item_fails (λ _. Unit {0}) c.take-item-in-items.result c.take-item.new.self.place c.take-item-in-items.new.self.place x c.in_default-item-2.not-Token c.take-item-in-items.ensures.takes says));
      tree = never_built _ c.refuse_item-in_default-item-2.result c.refuse_item-in_default-item-2.ensures.never;
      memory = wants_refused (g.P.Builder.takes_memory c.args.builder) c.args.self.now.place c.refuse_item-in_default-item-2.result c.refuse_item-in_default-item-2.ensures.refused (λ x says. wants_fails (g.P.Builder.takes_memory c.args.builder) c.args.self.now.place c.take-item.new.self.place c.take-item-in-items.new.self.place (λ _. Unit {0}) x (item_fails (λ _. Unit {0}) c.take-item-in-items.result c.take-item.new.self.place c.take-item-in-items.new.self.place x c.in_default-item-2.not-Token c.take-item-in-items.ensures.takes says));
      asks = asks_item c.args.levels c.args.close c.args.self.now c.parse_part_after_token.new.self c.take-item-in-items.new.self at c.requires none expected_at (c.in_default-parse_part_after_token.ensures.led at there) (asks_begun c.args.levels c.args.close c.items.token c.args.self.now c.push_numbers.new.self c.parse_part_after_token.new.self at expected_at there (asks_in_items (λ s cs ps. g.P.Builder.are_parts c.args.builder s c.if-eq-2.ty cs ps) c.args.levels c.args.close c.items.token c.items.parts c.args.self.now c.items.self c.push_numbers.new.self c.items.invariant.from c.items.invariant.asks c.push_numbers.ensures.asks) c.parse_part_after_token.ensures.asks) (asks_token c.parse_part_after_token.new.self c.take-item.new.self c.take-item-in-items.new.self c.in-Token.mark c.in-Token.ensures.takes c.take-item.ensures.asks (asks_once c.take-item.new.self c.take-item-in-items.new.self c.take-item-in-items.ensures.asks));
    }

pub parse_part-returns-then-levels-eq0-clause-led : goal.parse_part-returns-then-levels-eq0-clause-led
parse_part-returns-then-levels-eq0-clause-led g t c = λ n s e. refuses_there s c.refuse_depth.result c.refuse_depth.ensures.never c.refuse_depth.ensures.refused
    (λ x says. no_level n s c.args.self.now.place x (omega arith) says)

pub parse_part-returns-then-levels-eq0-clause-memory : goal.parse_part-returns-then-levels-eq0-clause-memory
parse_part-returns-then-levels-eq0-clause-memory g t c = whatever_parts (λ (source : List ℕ) (of : NodeType) (children : List NodeTree). g.P.Builder.are_parts c.args.builder source of children c.args.parts.now) (OnlyOutOfMemory (g.P.Builder.takes_memory c.args.builder) c.args.self.now.place) c.refuse_depth.result
    (wants_refused (g.P.Builder.takes_memory c.args.builder) c.args.self.now.place c.refuse_depth.result c.refuse_depth.ensures.refused
    (λ x says. wants_other (g.P.Builder.takes_memory c.args.builder) c.args.self.now.place x because.NestingTooDeep (kind_is says) (λ z. cc)))

pub parse_items-returns-in_err-expect-clause-memory : goal.parse_items-returns-in_err-expect-clause-memory
parse_items-returns-in_err-expect-clause-memory g t c = error_handed (OnlyOutOfMemory (g.P.Builder.takes_memory c.args.builder) c.args.self.now.place) c.from_residual.result c.in_err-expect.field-0.0 c.from_residual.ensures.1 (wants_fails (g.P.Builder.takes_memory c.args.builder) c.args.self.now.place c.next_is.new.self.place c.expect.new.self.place (λ k. k ≡ c.args.close) c.in_err-expect.field-0.0 c.in_err-expect.ensures.takes)

pub parse_items-returns-then-eq-clause-memory : goal.parse_items-returns-then-eq-clause-memory
parse_items-returns-then-eq-clause-memory g t c = wants_refused (g.P.Builder.takes_memory c.args.builder) c.args.self.now.place c.refuse_empty.result c.refuse_empty.ensures.refused (λ x says. wants_other (g.P.Builder.takes_memory c.args.builder) c.args.self.now.place x because.EmptyTuple (kind_is says) (λ z. cc))

pub parse_items-returns-then-ne-clause-memory : goal.parse_items-returns-then-ne-clause-memory
parse_items-returns-then-ne-clause-memory g t c = wants_refused (g.P.Builder.takes_memory c.args.builder) c.args.self.now.place c.refuse_token.result c.refuse_token.ensures.refused (λ x says. wants_other (g.P.Builder.takes_memory c.args.builder) c.args.self.now.place x because.UnexpectedToken (kind_is says) (λ z. cc))

-- ---- parts that a value is made of are those of its node's children

pub parse_after_token-returns-in-Some-clause-led : goal.parse_after_token-returns-in-Some-clause-led
parse_after_token-returns-in-Some-clause-led g t c = λ first there n s e.
    let start = subst (IsValueStart c.args.token (text_at c.args.self.now.place)) c.in-Some.is c.requires.start in
    gives_then s _ c.parse_payload.result (value_read n expectation.paren s s _ _ _ LabelOrKeyword (omega arith) there start.0 (ap (λ w. reads (expected_behind w) s) start.1)) (c.parse_payload.ensures.led n s (omega arith))

pub parse_after_token-returns-in-Some-clause-tree : goal.parse_after_token-returns-in-Some-clause-tree
parse_after_token-returns-in-Some-clause-tree g t c =
    let start = subst (IsValueStart c.args.token (text_at c.args.self.now.place)) c.in-Some.is c.requires.start in
    built_node (g.P.Builder.is_built c.args.builder) c.args.self.now.place c.args.self.now.place (IsInParens (c.args.levels - 1) kind_of_node.OptionSome c.args.self.now.place c.parse_payload.new.self.place) (IsParsedBehind c.args.token c.args.levels c.args.self.now.place c.parse_payload.new.self.place) c.parse_payload.result refl
    (λ n is first there. label_tied c.args.levels first c.args.self.now.place c.parse_payload.new.self.place c.args.token (as_ok n) c.requires.levels there start.0 (some_tied (c.args.levels - 1) c.args.self.now.place c.parse_payload.new.self.place n start.1 is)) c.parse_payload.ensures.tree

pub parse_after_token-returns-in-Some-clause-memory : goal.parse_after_token-returns-in-Some-clause-memory
parse_after_token-returns-in-Some-clause-memory g t c = λ first there. answer_token (g.P.Builder.takes_memory c.args.builder) first c.args.self.now.place c.args.token c.parse_payload.result there c.parse_payload.ensures.memory

pub parse_after_token-returns-in-Label-clause-led : goal.parse_after_token-returns-in-Label-clause-led
parse_after_token-returns-in-Label-clause-led g t c = λ first there n s e.
    let start = subst (IsValueStart c.args.token (text_at c.args.self.now.place)) c.in-Label.is c.requires.start in
    gives_then s _ c.parse_optional_payload.result (value_read n expectation.behind_label s s _ _ _ LabelOrKeyword (omega arith) there start.0 (ap (λ z. reads z s) (label_behind c.in-Label.alone c.in-Label.with _ start.1))) (c.parse_optional_payload.ensures.led n s (omega arith))

pub parse_after_token-returns-in-Label-clause-tree : goal.parse_after_token-returns-in-Label-clause-tree
parse_after_token-returns-in-Label-clause-tree g t c =
    let start = subst (IsValueStart c.args.token (text_at c.args.self.now.place)) c.in-Label.is c.requires.start in
    built_node (g.P.Builder.is_built c.args.builder) c.args.self.now.place c.args.self.now.place (IsMaybe (c.args.levels - 1) c.in-Label.alone c.in-Label.with c.args.self.now.place c.parse_optional_payload.new.self.place) (IsParsedBehind c.args.token c.args.levels c.args.self.now.place c.parse_optional_payload.new.self.place) c.parse_optional_payload.result refl
    (λ n is first there. label_tied c.args.levels first c.args.self.now.place c.parse_optional_payload.new.self.place c.args.token (as_ok n) c.requires.levels there start.0 (word_tied c.in-Label.alone c.in-Label.with (c.args.levels - 1) c.args.self.now.place c.parse_optional_payload.new.self.place n start.1 is)) c.parse_optional_payload.ensures.tree

pub parse_after_token-returns-in-Label-clause-memory : goal.parse_after_token-returns-in-Label-clause-memory
parse_after_token-returns-in-Label-clause-memory g t c = λ first there. answer_token (g.P.Builder.takes_memory c.args.builder) first c.args.self.now.place c.args.token c.parse_optional_payload.result there c.parse_optional_payload.ensures.memory

pub parse_optional_payload-returns-then-not-next_is-clause-led : goal.parse_optional_payload-returns-then-not-next_is-clause-led
parse_optional_payload-returns-then-not-next_is-clause-led g t c = λ n s e.
    read_there (here_is n expectation.behind_label s _ _ c.next_is.ensures.stays) (subst (λ z. IsBehind expectation.behind_label z) (sym c.next_is.ensures.stays)
    (behind_bare c.args.self.now.place (λ next. untrue _ c.if-not-next_is.true (c.next_is.ensures.answer.1 next))))

pub parse_optional_payload-returns-clause-led : goal.parse_optional_payload-returns-clause-led
parse_optional_payload-returns-clause-led g t c = λ n s e. gives_alike n expectation.paren expectation.behind_label s s c.args.self.now.place c.parse_payload.new.self.place c.parse_payload.result (paren_alike n s c.args.self.now.place (c.if-not-next_is.ensures.answer.0 refl))
    (subst (λ z. Gives c.parse_payload.result n expectation.paren s z c.parse_payload.new.self.place s) c.next_is.ensures.stays (c.parse_payload.ensures.led n s (omega arith)))

pub parse_optional_payload-returns-then-not-next_is-clause-tree : goal.parse_optional_payload-returns-then-not-next_is-clause-tree
parse_optional_payload-returns-then-not-next_is-clause-tree g t c =
    let stays = c.next_is.ensures.stays in
    (node c.args.alone (span_at c.args.self.now.place) no_nodes, inl (stays, refl), subst (λ (z : Place). g.P.Builder.is_built c.args.builder z.lexer.source (node c.args.alone (span_at z) no_nodes) c.leaf.result) stays c.leaf.ensures)

pub parse_optional_payload-returns-clause-tree : goal.parse_optional_payload-returns-clause-tree
parse_optional_payload-returns-clause-tree g t c =
    let stays = c.next_is.ensures.stays in
    built_node (g.P.Builder.is_built c.args.builder) c.args.self.now.place c.next_is.new.self.place (IsInParens c.args.levels c.args.with c.next_is.new.self.place c.parse_payload.new.self.place) (IsMaybe c.args.levels c.args.alone c.args.with c.args.self.now.place c.parse_payload.new.self.place) c.parse_payload.result (ap (λ (z : Place). z.lexer.source) stays)
    (λ n is. inr (subst (λ z. IsInParens c.args.levels c.args.with z c.parse_payload.new.self.place n) stays is)) c.parse_payload.ensures.tree

pub parse_optional_payload-returns-clause-asks : goal.parse_optional_payload-returns-clause-asks
parse_optional_payload-returns-clause-asks g t c = asks_looked c.args.self.now c.next_is.new.self c.parse_payload.new.self c.next_is.ensures.stays c.next_is.ensures.asks c.parse_payload.ensures.asks

pub parse_payload-returns-in-Err-expect-clause-led : goal.parse_payload-returns-in-Err-expect-clause-led
parse_payload-returns-in-Err-expect-clause-led g t c = λ n s e. (fails (inl tt) (λ k. k ≡ ParenOpen) c.in-Err-expect.error (here n expectation.paren s _) (λ deep. deep.expected) (λ k h apart. no_paren n s k (text_at c.expect.new.self.place) apart) c.in-Err-expect.ensures.takes)

pub parse_payload-returns-in-Err-parse_part-clause-led : goal.parse_payload-returns-in-Err-parse_part-clause-led
parse_payload-returns-in-Err-parse_part-clause-led g t c = λ n s e. (then_refuses c.in-Err-parse_part.error (open_there c.in_default-expect.ensures.takes) (c.in-Err-parse_part.ensures.led n (expectation.payload ∷ s) (omega arith)))

pub parse_payload-returns-in-Err-expect-2-clause-led : goal.parse_payload-returns-in-Err-expect-2-clause-led
parse_payload-returns-in-Err-expect-2-clause-led g t c = λ n s e.
    let item = c.in_default-parse_part.ensures.led n (expectation.payload ∷ s) (omega arith) in
    (fails_behind item.expected_there (λ k. k ≡ ParenClose) c.in-Err-expect-2.error (then_reached (open_there c.in_default-expect.ensures.takes) (reached item)) item.is_behind (λ k text apart. payload_other k s text apart) c.in-Err-expect-2.ensures.takes)

pub parse_payload-returns-clause-led : goal.parse_payload-returns-clause-led
parse_payload-returns-clause-led g t c = λ n s e.
    let item = c.in_default-parse_part.ensures.led n (expectation.payload ∷ s) (omega arith) in
    read_there (then_behind item.expected_there ParenClose (then_reached (open_there c.in_default-expect.ensures.takes) (reached item)) item.is_behind c.in_default-expect-2.ensures.takes refl) (inl refl)

pub parse_payload-returns-in-Err-parse_part-clause-asks : goal.parse_payload-returns-in-Err-parse_part-clause-asks
parse_payload-returns-in-Err-parse_part-clause-asks g t c = asks_token c.args.self.now c.expect.new.self c.parse_part.new.self ParenOpen c.in_default-expect.ensures.takes c.expect.ensures.asks c.parse_part.ensures.asks

pub parse_payload-returns-in-Err-expect-2-clause-asks : goal.parse_payload-returns-in-Err-expect-2-clause-asks
parse_payload-returns-in-Err-expect-2-clause-asks g t c =
    asks_token c.args.self.now c.expect.new.self c.expect-2.new.self ParenOpen c.in_default-expect.ensures.takes c.expect.ensures.asks (asks_value c.args.levels c.expect.new.self c.parse_part.new.self c.expect-2.new.self c.in_default-parse_part.ensures.led c.parse_part.ensures.asks (asks_once c.parse_part.new.self c.expect-2.new.self c.expect-2.ensures.asks))

pub parse_payload-returns-clause-asks : goal.parse_payload-returns-clause-asks
parse_payload-returns-clause-asks g t c =
    asks_token c.args.self.now c.expect.new.self c.expect-2.new.self ParenOpen c.in_default-expect.ensures.takes c.expect.ensures.asks (asks_value c.args.levels c.expect.new.self c.parse_part.new.self c.expect-2.new.self c.in_default-parse_part.ensures.led c.parse_part.ensures.asks (asks_once c.parse_part.new.self c.expect-2.new.self c.expect-2.ensures.asks))

pub parse_payload-returns-in-Err-parse_part-clause-memory : goal.parse_payload-returns-in-Err-parse_part-clause-memory
parse_payload-returns-in-Err-parse_part-clause-memory g t c =
    let label = label_children c.args.ty (span_at c.args.self.now.place) in
    let first = c.in_default.ensures.kept (c.no_parts-parts.ensures c.args.self.now.place.lexer.source (payload_parts c.args.ty c.requires)) in
    (wants_token (g.P.Builder.takes_memory c.args.builder) c.args.self.now.place c.expect.new.self.place ParenOpen c.in-Err-parse_part.error c.in_default-expect.ensures.takes (c.in-Err-parse_part.ensures.memory c.args.self.now.place.lexer.source c.args.ty label first))

pub parse_payload-returns-clause-tree : goal.parse_payload-returns-clause-tree
parse_payload-returns-clause-tree g t c =
    let label = label_children c.args.ty (span_at c.args.self.now.place) in
    let first = c.in_default.ensures.kept (c.no_parts-parts.ensures c.args.self.now.place.lexer.source (payload_parts c.args.ty c.requires)) in
    let opened : c.expect.new.self.place.lexer.source ≡ c.args.self.now.place.lexer.source = source_item c.args.self.now.place c.expect.new.self.place ParenOpen c.in_default-expect.ensures.takes in
    let (n, is, grown) = part_added (λ (s : List ℕ) cs ps. g.P.Builder.are_parts c.args.builder s c.args.ty cs ps) c.push_label.new.parts c.parse_part.new.parts label (IsParsed c.args.levels c.expect.new.self.place c.parse_part.new.self.place) opened (c.in_default-parse_part.ensures.kept c.args.ty label (payload_expected c.args.ty (span_at c.args.self.now.place) c.requires)) first in
    let source : c.expect-2.new.self.place.lexer.source ≡ c.args.self.now.place.lexer.source = source_item c.parse_part.new.self.place c.expect-2.new.self.place ParenClose c.in_default-expect-2.ensures.takes ∙ (source_parsed c.args.levels c.expect.new.self.place c.parse_part.new.self.place n is ∙ opened) in
    finish_node_built (g.P.Builder.is_built c.args.builder) (λ (s : List ℕ) cs ps. g.P.Builder.are_parts c.args.builder s c.args.ty cs ps) c.args.self.now.place c.expect-2.new.self.place c.args.ty c.span-start.result.start c.finish_node.result c.parse_part.new.parts (label ++ n ∷ []) (IsInParens c.args.levels c.args.ty c.args.self.now.place c.expect-2.new.self.place) source grown c.finish_node.ensures (
      c.expect.new.self.place,
      c.in_default-expect.ensures.takes,
      record { payload = n; behind = c.parse_part.new.self.place; inner = is; close = c.in_default-expect-2.ensures.takes; is = ap (λ (z : Range ℕ). node c.args.ty (span z.start c.expect-2.new.self.place.lexer.end) (node_trees (label ++ n ∷ []))) c.span-start.ensures },
    )

pub parse_payload-finish_node-requires : goal.parse_payload-finish_node-requires
parse_payload-finish_node-requires g t c =
    let label = label_children c.args.ty (span_at c.args.self.now.place) in
    let first = c.in_default.ensures.kept (c.no_parts-parts.ensures c.args.self.now.place.lexer.source (payload_parts c.args.ty c.requires)) in
    let opened : c.expect.new.self.place.lexer.source ≡ c.args.self.now.place.lexer.source = source_item c.args.self.now.place c.expect.new.self.place ParenOpen c.in_default-expect.ensures.takes in
    let (n, is, grown) = part_added (λ (s : List ℕ) cs ps. g.P.Builder.are_parts c.args.builder s c.args.ty cs ps) c.push_label.new.parts c.parse_part.new.parts label (IsParsed c.args.levels c.expect.new.self.place c.parse_part.new.self.place) opened (c.in_default-parse_part.ensures.kept c.args.ty label (payload_expected c.args.ty (span_at c.args.self.now.place) c.requires)) first in
    (c.args.self.now.place.lexer.source, label ++ n ∷ [], grown)

pub parse_braces-returns-in_err-token-clause-led : goal.parse_braces-returns-in_err-token-clause-led
parse_braces-returns-in_err-token-clause-led g t c = λ n s e. handed s _ _ c.from_residual.ensures.1
    (fails (inl tt) (λ _. Unit {0}) c.in_err-token.field-0.0 (here n expectation.in_braces s _) (λ deep. deep.expected) (any_token n expectation.in_braces s _ _) c.in_err-token.ensures.takes)

pub parse_braces-returns-then-eq-clause-led : goal.parse_braces-returns-then-eq-clause-led
parse_braces-returns-then-eq-clause-led g t c = λ n s e. read_there (then_class BraceClose (here n expectation.in_braces s _) c.in_ok-token.ensures.takes (is_class _ _ c.eq.ensures c.if-eq.true) refl) (inl refl)

pub parse_braces-returns-in_err-expect-clause-led : goal.parse_braces-returns-in_err-expect-clause-led
parse_braces-returns-in_err-expect-clause-led g t c = λ n s e. handed s _ _ c.from_residual-in_err-expect.ensures.1
    (fails (inl tt) (λ k. k ≡ BraceClose) c.in_err-expect.field-0.0 (then_class {f = expectation.no_fields} {v = s} Colon (here n expectation.in_braces s _) c.in_ok-token.ensures.takes (is_class _ _ c.eq-2.ensures c.if-eq-2.true) refl) (λ deep. deep.expected)
    (λ k h apart. no_brace n s k (text_at c.expect.new.self.place) apart) c.in_err-expect.ensures.takes)

pub parse_braces-returns-then-eq-2-clause-led : goal.parse_braces-returns-then-eq-2-clause-led
parse_braces-returns-then-eq-2-clause-led g t c = λ n s e.
    read_there (then_same BraceClose (then_class {f = expectation.no_fields} {v = s} Colon (here n expectation.in_braces s _) c.in_ok-token.ensures.takes (is_class _ _ c.eq-2.ensures c.if-eq-2.true) refl) c.in_ok-expect.ensures.takes refl) (inl refl)

pub parse_braces-returns-then-eq-3-clause-led : goal.parse_braces-returns-then-eq-3-clause-led
parse_braces-returns-then-eq-3-clause-led g t c = λ n s e.
    let word = then_class {f = expectation.behind_word (text_at c.advance.new.self.place)} {v = s} LabelOrKeyword (here n expectation.in_braces s _) c.in_ok-token.ensures.takes (is_class _ _ c.eq-3.ensures c.if-eq-3.true) refl in
    gives_then s _ c.parse_flags.result (moved c.next_is.ensures.stays word)
    (subst (λ z. Gives c.parse_flags.result n (expectation.behind_word (text_at z)) s c.next_is.new.self.place c.parse_flags.new.self.place s) c.next_is.ensures.stays (c.parse_flags.ensures.led n s))

pub parse_braces-returns-in_default-clause-led : goal.parse_braces-returns-in_default-clause-led
parse_braces-returns-in_default-clause-led g t c = λ n s e. refuses_there s c.refuse_token.result c.refuse_token.ensures.never c.refuse_token.ensures.refused (λ x says. unexpected_there (inl tt) x c.in_ok-token.token (here n expectation.in_braces s _) c.in_ok-token.ensures.takes
    (brace_key c.in_ok-token.token s (text_at c.advance.new.self.place) (is_other _ _ c.eq-3.ensures c.if-eq-3.false) (is_other _ _ c.eq-2.ensures c.if-eq-2.false) ∙
    no_key c.in_ok-token.token s (text_at c.advance.new.self.place) c.in_default.ensures (is_other _ _ c.eq.ensures c.if-eq.false))
    says)

pub parse_braces-returns-then-next_is-clause-led : goal.parse_braces-returns-then-next_is-clause-led
parse_braces-returns-then-next_is-clause-led g t c = λ n s e.
    let text = text_at c.advance.new.self.place in
    let word = then_class {f = expectation.behind_word text} {v = s} LabelOrKeyword (here n expectation.in_braces s _) c.in_ok-token.ensures.takes (is_class _ _ c.eq-3.ensures c.if-eq-3.true) refl in
    gives_then s _ c.parse_entries.result word
    (gives_alike n expectation.behind_key (expectation.behind_word text) s s c.advance.new.self.place c.parse_entries.new.self.place c.parse_entries.result (colon_alike n s c.advance.new.self.place text (c.if-next_is.ensures.answer.0 refl))
    (subst (λ z. Gives c.parse_entries.result n expectation.behind_key s z c.parse_entries.new.self.place s) c.next_is.ensures.stays (c.parse_entries.ensures.led n s e)))

pub parse_braces-returns-clause-led : goal.parse_braces-returns-clause-led
parse_braces-returns-clause-led g t c = λ n s e.
    let key_step_there = brace_key c.in_ok-token.token s (text_at c.advance.new.self.place) (is_other _ _ c.eq-3.ensures c.if-eq-3.false) (is_other _ _ c.eq-2.ensures c.if-eq-2.false) ∙ key_reads c.in_ok-token.token s (text_at c.advance.new.self.place) c.in-Some.ensures.0 in
    gives_then s _ c.parse_entries-2.result (then_same c.in_ok-token.token (here n expectation.in_braces s _) c.in_ok-token.ensures.takes key_step_there) (c.parse_entries-2.ensures.led n s e)

pub parse_braces-returns-in_err-expect-clause-asks : goal.parse_braces-returns-in_err-expect-clause-asks
parse_braces-returns-in_err-expect-clause-asks g t c =
    asks_token c.args.self.now c.advance.new.self c.expect.new.self c.in_ok-token.token c.in_ok-token.ensures.takes c.advance.ensures.asks (asks_once c.advance.new.self c.expect.new.self c.expect.ensures.asks)

pub parse_braces-returns-then-eq-2-clause-asks : goal.parse_braces-returns-then-eq-2-clause-asks
parse_braces-returns-then-eq-2-clause-asks g t c =
    asks_token c.args.self.now c.advance.new.self c.expect.new.self c.in_ok-token.token c.in_ok-token.ensures.takes c.advance.ensures.asks (asks_once c.advance.new.self c.expect.new.self c.expect.ensures.asks)

pub parse_braces-returns-then-eq-3-clause-asks : goal.parse_braces-returns-then-eq-3-clause-asks
parse_braces-returns-then-eq-3-clause-asks g t c =
    asks_token c.args.self.now c.advance.new.self c.parse_flags.new.self c.in_ok-token.token c.in_ok-token.ensures.takes c.advance.ensures.asks (asks_looked c.advance.new.self c.next_is.new.self c.parse_flags.new.self c.next_is.ensures.stays c.next_is.ensures.asks c.parse_flags.ensures.asks)

pub parse_braces-returns-then-next_is-clause-asks : goal.parse_braces-returns-then-next_is-clause-asks
parse_braces-returns-then-next_is-clause-asks g t c =
    asks_token c.args.self.now c.advance.new.self c.parse_entries.new.self c.in_ok-token.token c.in_ok-token.ensures.takes c.advance.ensures.asks (asks_looked c.advance.new.self c.next_is.new.self c.parse_entries.new.self c.next_is.ensures.stays c.next_is.ensures.asks c.parse_entries.ensures.asks)

pub parse_braces-returns-clause-asks : goal.parse_braces-returns-clause-asks
parse_braces-returns-clause-asks g t c =
    asks_token c.args.self.now c.advance.new.self c.parse_entries-2.new.self c.in_ok-token.token c.in_ok-token.ensures.takes c.advance.ensures.asks c.parse_entries-2.ensures.asks

pub parse_braces-returns-then-eq-clause-tree : goal.parse_braces-returns-then-eq-clause-tree
parse_braces-returns-then-eq-clause-tree g t c =
    finish_empty_built (g.P.Builder.is_built c.args.builder) c.args.self.now.place c.advance.new.self.place kind_of_node.EmptySet c.span-start.result.start c.finish_empty.result (IsParsedBehind BraceOpen (c.args.levels + 1) c.args.self.now.place c.advance.new.self.place) (source_item c.args.self.now.place c.advance.new.self.place c.in_ok-token.token c.in_ok-token.ensures.takes) c.finish_empty.ensures
    (empty_tied c.args.levels c.args.self.now.place c.advance.new.self.place c.span-start.result.start [] _ (class_as _ _ _ BraceClose c.in_ok-token.ensures.takes (is_class _ _ c.eq.ensures c.if-eq.true)) (ap (λ (z : Range ℕ). z.start) c.span-start.ensures) refl refl)

pub parse_braces-returns-then-eq-2-clause-tree : goal.parse_braces-returns-then-eq-2-clause-tree
parse_braces-returns-then-eq-2-clause-tree g t c =
    finish_empty_built (g.P.Builder.is_built c.args.builder) c.args.self.now.place c.expect.new.self.place kind_of_node.TupleSet c.span-start.result.start c.finish_empty-then-eq-2.result (IsParsedBehind BraceOpen (c.args.levels + 1) c.args.self.now.place c.expect.new.self.place) (source_item c.advance.new.self.place c.expect.new.self.place BraceClose c.in_ok-expect.ensures.takes ∙ (source_item c.args.self.now.place c.advance.new.self.place c.in_ok-token.token c.in_ok-token.ensures.takes)) c.finish_empty-then-eq-2.ensures
    (no_fields_tied c.args.levels c.args.self.now.place c.advance.new.self.place c.expect.new.self.place c.span-start.result.start [] _ (class_as _ _ _ Colon c.in_ok-token.ensures.takes (is_class _ _ c.eq-2.ensures c.if-eq-2.true)) c.in_ok-expect.ensures.takes (ap (λ (z : Range ℕ). z.start) c.span-start.ensures) refl refl)

pub parse_braces-returns-then-next_is-clause-tree : goal.parse_braces-returns-then-next_is-clause-tree
parse_braces-returns-then-next_is-clause-tree g t c =
    let stays = c.next_is.ensures.stays in
    built_node (g.P.Builder.is_built c.args.builder) c.args.self.now.place c.next_is.new.self.place (IsOfEntries c.args.levels c.span-start.result.start kind_of_node.Label c.next_is.new.self.place c.parse_entries.new.self.place) (IsParsedBehind BraceOpen (c.args.levels + 1) c.args.self.now.place c.parse_entries.new.self.place) c.parse_entries.result (ap (λ (z : Place). z.lexer.source) stays ∙ (source_item c.args.self.now.place c.advance.new.self.place c.in_ok-token.token c.in_ok-token.ensures.takes))
    (λ n is. entries_tied c.args.levels c.args.self.now.place c.next_is.new.self.place c.parse_entries.new.self.place LabelOrKeyword kind_of_node.Label c.span-start.result.start n
    (subst (λ z. TakesClass LabelOrKeyword c.args.self.now.place z) (sym stays) (class_as _ _ _ LabelOrKeyword c.in_ok-token.ensures.takes (is_class _ _ c.eq-3.ensures c.if-eq-3.true))) tt refl (ap (λ (z : Range ℕ). z.start) c.span-start.ensures) is) c.parse_entries.ensures.tree

pub parse_braces-returns-clause-tree : goal.parse_braces-returns-clause-tree
parse_braces-returns-clause-tree g t c =
    built_node (g.P.Builder.is_built c.args.builder) c.args.self.now.place c.advance.new.self.place (IsOfEntries c.args.levels c.span-start.result.start c.in-Some.ty c.advance.new.self.place c.parse_entries-2.new.self.place) (IsParsedBehind BraceOpen (c.args.levels + 1) c.args.self.now.place c.parse_entries-2.new.self.place) c.parse_entries-2.result (source_item c.args.self.now.place c.advance.new.self.place c.in_ok-token.token c.in_ok-token.ensures.takes)
    (λ n is. entries_tied c.args.levels c.args.self.now.place c.advance.new.self.place c.parse_entries-2.new.self.place c.in_ok-token.token c.in-Some.ty c.span-start.result.start n c.in_ok-token.ensures.takes c.in-Some.ensures.0 c.in-Some.ensures.1 (ap (λ (z : Range ℕ). z.start) c.span-start.ensures) is) c.parse_entries-2.ensures.tree

pub parse_braces-returns-then-eq-3-clause-tree : goal.parse_braces-returns-then-eq-3-clause-tree
parse_braces-returns-then-eq-3-clause-tree g t c =
    let stays = c.next_is.ensures.stays in
    built_node (g.P.Builder.is_built c.args.builder) c.args.self.now.place c.next_is.new.self.place (IsOfFlags c.span-start.result.start c.next_is.new.self.place c.parse_flags.new.self.place) (IsParsedBehind BraceOpen (c.args.levels + 1) c.args.self.now.place c.parse_flags.new.self.place) c.parse_flags.result (ap (λ (z : Place). z.lexer.source) stays ∙ (source_item c.args.self.now.place c.advance.new.self.place c.in_ok-token.token c.in_ok-token.ensures.takes))
    (λ n. flags_tied c.args.levels c.args.self.now.place c.next_is.new.self.place c.parse_flags.new.self.place c.span-start.result.start (as_ok n) (subst (λ z. TakesClass LabelOrKeyword c.args.self.now.place z) (sym stays) (class_as _ _ _ LabelOrKeyword c.in_ok-token.ensures.takes (is_class _ _ c.eq-3.ensures c.if-eq-3.true))) (ap (λ (z : Range ℕ). z.start) c.span-start.ensures)) c.parse_flags.ensures.tree

pub parse_entries-entries-init : goal.parse_entries-entries-init
parse_entries-entries-init g t c = record { asks = asks_none c.args.self.now c.args.self.now refl; led = λ n s e. here n expectation.behind_key s c.args.self.now.place; tree = ([], c.no_parts-parts.ensures c.args.self.now.place.lexer.source tt, (0, refl), λ cs r parts. parts) }

pub parse_entries-returns-in-Err-clause-asks : goal.parse_entries-returns-in-Err-clause-asks
parse_entries-returns-in-Err-clause-asks g t c = c.entries.invariant.asks

pub parse_entries-returns-in-Err-expect-clause-led : goal.parse_entries-returns-in-Err-expect-clause-led
parse_entries-returns-in-Err-expect-clause-led g t c = λ n s e. (fails (inl tt) (λ k. k ≡ Colon) c.in-Err-expect.error (c.entries.invariant.led n s e) (λ deep. deep.expected) (λ k h apart. no_colon n s k (text_at c.expect.new.self.place) apart) c.in-Err-expect.ensures.takes)

pub parse_entries-returns-in-Err-parse_part-clause-led : goal.parse_entries-returns-in-Err-parse_part-clause-led
parse_entries-returns-in-Err-parse_part-clause-led g t c = λ n s e. (then_refuses c.in-Err-parse_part.error (value_there (c.entries.invariant.led n s e) c.in_default-expect.ensures.takes) (c.in-Err-parse_part.ensures.led n (expectation.entries ∷ s) (omega arith)))

pub parse_entries-returns-then-eq-clause-led : goal.parse_entries-returns-then-eq-clause-led
parse_entries-returns-then-eq-clause-led g t c = λ n s e.
    let item = c.in_default-parse_part.ensures.led n (expectation.entries ∷ s) (omega arith) in
    read_there (then_behind_class item.expected_there BraceClose (then_reached (value_there (c.entries.invariant.led n s e) c.in_default-expect.ensures.takes) (reached item)) item.is_behind c.in-Token.ensures.takes (is_class _ _ c.eq.ensures c.if-eq.true) refl) (inl refl)

pub parse_entries-returns-then-ne-clause-led : goal.parse_entries-returns-then-ne-clause-led
parse_entries-returns-then-ne-clause-led g t c = λ n s e.
    let item = c.in_default-parse_part.ensures.led n (expectation.entries ∷ s) (omega arith) in
    refuses_there s c.refuse_token.result c.refuse_token.ensures.never c.refuse_token.ensures.refused (λ x says. unexpected_behind item.expected_there x c.in-Token.token (then_reached (value_there (c.entries.invariant.led n s e) c.in_default-expect.ensures.takes) (reached item)) item.is_behind c.in-Token.ensures.takes
    (entries_other c.in-Token.token s (text_at c.take-item.new.self.place) (is_other _ _ c.eq.ensures c.if-eq.false) (differs _ _ c.ne.ensures c.if-ne.true))
    says)

pub parse_entries-returns-then-eq-2-clause-led : goal.parse_entries-returns-then-eq-2-clause-led
parse_entries-returns-then-eq-2-clause-led g t c = λ n s e.
    let item = c.in_default-parse_part.ensures.led n (expectation.entries ∷ s) (omega arith) in
    let expected_key = key_expected (value_there (c.entries.invariant.led n s e) c.in_default-expect.ensures.takes) item c.in-Token.ensures.takes (differs_not _ _ c.ne.ensures c.if-ne.false) in
    read_there (then_class BraceClose expected_key c.in-Token-item.ensures.takes (is_class _ _ c.eq-in-entries.ensures c.if-eq-2.true) refl) (inl refl)

pub parse_entries-returns-in_default-key_type-clause-led : goal.parse_entries-returns-in_default-key_type-clause-led
parse_entries-returns-in_default-key_type-clause-led g t c = λ n s e.
    let item = c.in_default-parse_part.ensures.led n (expectation.entries ∷ s) (omega arith) in
    let expected_key = key_expected (value_there (c.entries.invariant.led n s e) c.in_default-expect.ensures.takes) item c.in-Token.ensures.takes (differs_not _ _ c.ne.ensures c.if-ne.false) in
    refuses_there s c.refuse_token-in_default-key_type.result c.refuse_token-in_default-key_type.ensures.never c.refuse_token-in_default-key_type.ensures.refused (λ x says. unexpected_there (inl tt) x c.in-Token-item.next expected_key c.in-Token-item.ensures.takes
    (no_key c.in-Token-item.next s (text_at c.take-item-in-entries.new.self.place) c.in_default-key_type.ensures (is_other _ _ c.eq-in-entries.ensures c.if-eq-2.false))
    says)

pub parse_entries-entries-smaller : goal.parse_entries-entries-smaller
parse_entries-entries-smaller g t c =
    let item = c.in_default-parse_part.ensures.led (c.args.levels + 1 + 0) (expectation.entries ∷ []) (omega arith) in
    let one = token_less _ _ Colon c.in_default-expect.ensures.takes in
    let two = tokens_less _ _ item.tokens item.taken in
    let three = token_less _ _ c.in-Token.token c.in-Token.ensures.takes in
    let four = token_less _ _ c.in-Token-item.next c.in-Token-item.ensures.takes in
    omega arith

pub parse_entries-returns-in-Err-expect-clause-asks : goal.parse_entries-returns-in-Err-expect-clause-asks
parse_entries-returns-in-Err-expect-clause-asks g t c =
    asks_entries c.args.levels c.args.self.now c.entries.self c.expect.new.self c.entries.invariant.led c.entries.invariant.asks (asks_once c.entries.self c.expect.new.self c.expect.ensures.asks)

pub parse_entries-returns-in-Err-parse_part-clause-asks : goal.parse_entries-returns-in-Err-parse_part-clause-asks
parse_entries-returns-in-Err-parse_part-clause-asks g t c =
    asks_entries c.args.levels c.args.self.now c.entries.self c.parse_part.new.self c.entries.invariant.led c.entries.invariant.asks (asks_token c.entries.self c.expect.new.self c.parse_part.new.self Colon c.in_default-expect.ensures.takes c.expect.ensures.asks c.parse_part.ensures.asks)

pub parse_entries-returns-then-eq-clause-asks : goal.parse_entries-returns-then-eq-clause-asks
parse_entries-returns-then-eq-clause-asks g t c =
    asks_entries c.args.levels c.args.self.now c.entries.self c.take-item.new.self c.entries.invariant.led c.entries.invariant.asks (asks_token c.entries.self c.expect.new.self c.take-item.new.self Colon c.in_default-expect.ensures.takes c.expect.ensures.asks (asks_value c.args.levels c.expect.new.self c.parse_part.new.self c.take-item.new.self c.in_default-parse_part.ensures.led c.parse_part.ensures.asks (asks_once c.parse_part.new.self c.take-item.new.self c.take-item.ensures.asks)))

pub parse_entries-returns-then-ne-clause-asks : goal.parse_entries-returns-then-ne-clause-asks
parse_entries-returns-then-ne-clause-asks g t c =
    asks_entries c.args.levels c.args.self.now c.entries.self c.take-item.new.self c.entries.invariant.led c.entries.invariant.asks (asks_token c.entries.self c.expect.new.self c.take-item.new.self Colon c.in_default-expect.ensures.takes c.expect.ensures.asks (asks_value c.args.levels c.expect.new.self c.parse_part.new.self c.take-item.new.self c.in_default-parse_part.ensures.led c.parse_part.ensures.asks (asks_once c.parse_part.new.self c.take-item.new.self c.take-item.ensures.asks)))

pub parse_entries-returns-then-eq-2-clause-asks : goal.parse_entries-returns-then-eq-2-clause-asks
parse_entries-returns-then-eq-2-clause-asks g t c =
    asks_entries c.args.levels c.args.self.now c.entries.self c.take-item-in-entries.new.self c.entries.invariant.led c.entries.invariant.asks (asks_token c.entries.self c.expect.new.self c.take-item-in-entries.new.self Colon c.in_default-expect.ensures.takes c.expect.ensures.asks (asks_value c.args.levels c.expect.new.self c.parse_part.new.self c.take-item-in-entries.new.self c.in_default-parse_part.ensures.led c.parse_part.ensures.asks (asks_token c.parse_part.new.self c.take-item.new.self c.take-item-in-entries.new.self c.in-Token.token c.in-Token.ensures.takes c.take-item.ensures.asks (asks_once c.take-item.new.self c.take-item-in-entries.new.self c.take-item-in-entries.ensures.asks))))

pub parse_entries-returns-in_default-key_type-clause-asks : goal.parse_entries-returns-in_default-key_type-clause-asks
parse_entries-returns-in_default-key_type-clause-asks g t c =
    asks_entries c.args.levels c.args.self.now c.entries.self c.take-item-in-entries.new.self c.entries.invariant.led c.entries.invariant.asks (asks_token c.entries.self c.expect.new.self c.take-item-in-entries.new.self Colon c.in_default-expect.ensures.takes c.expect.ensures.asks (asks_value c.args.levels c.expect.new.self c.parse_part.new.self c.take-item-in-entries.new.self c.in_default-parse_part.ensures.led c.parse_part.ensures.asks (asks_token c.parse_part.new.self c.take-item.new.self c.take-item-in-entries.new.self c.in-Token.token c.in-Token.ensures.takes c.take-item.ensures.asks (asks_once c.take-item.new.self c.take-item-in-entries.new.self c.take-item-in-entries.ensures.asks))))

pub parse_entries-returns-then-eq-clause-tree : goal.parse_entries-returns-then-eq-clause-tree
parse_entries-returns-then-eq-clause-tree g t c =
    let (children, so_far, even, go) = c.entries.invariant.tree in
    let here : c.entries.self.place.lexer.source ≡ c.args.self.now.place.lexer.source = source_reached (c.entries.invariant.led (c.args.levels + 1) [] (omega arith)) in
    let key = node c.entries.key (span_at c.entries.self.place) no_nodes in
    let value_expected = value_next children key even in
    let (n, is, grown) = entry_added (λ (s : List ℕ) cs ps. g.P.Builder.are_parts c.args.builder s kind_of_node.TupleSet cs ps) c.args.levels c.args.self.now.place c.entries.self.place c.expect.new.self.place c.parse_part.new.self.place c.entries.key children c.entries.parts c.push_key.new.parts c.parse_part.new.parts here c.in_default-expect.ensures.takes so_far
    (c.in_default.ensures.kept kind_of_node.TupleSet children even) (c.in_default-parse_part.ensures.kept kind_of_node.TupleSet (children ++ key ∷ []) value_expected) in
    let token : c.take-item.new.self.place.lexer.source ≡ c.args.self.now.place.lexer.source = source_item c.parse_part.new.self.place c.take-item.new.self.place c.in-Token.token c.in-Token.ensures.takes ∙ (source_parsed c.args.levels c.expect.new.self.place c.parse_part.new.self.place n is ∙ (source_item c.entries.self.place c.expect.new.self.place Colon c.in_default-expect.ensures.takes ∙ here)) in
    finish_node_built (g.P.Builder.is_built c.args.builder) (λ (s : List ℕ) cs ps. g.P.Builder.are_parts c.args.builder s kind_of_node.TupleSet cs ps) c.args.self.now.place c.take-item.new.self.place kind_of_node.TupleSet c.args.start c.finish_node.result c.parse_part.new.parts ((children ++ key ∷ []) ++ n ∷ []) (IsOfEntries c.args.levels c.args.start c.args.first c.args.self.now.place c.take-item.new.self.place) token grown c.finish_node.ensures
    (record { children = (children ++ key ∷ []) ++ n ∷ []; are = keyed_close c.args.levels c.args.self.now.place c.entries.self.place c.expect.new.self.place c.parse_part.new.self.place c.take-item.new.self.place c.args.first c.entries.key children n go c.in_default-expect.ensures.takes is (inl (class_as _ _ _ BraceClose c.in-Token.ensures.takes (is_class _ _ c.eq.ensures c.if-eq.true))); is = refl })

pub parse_entries-returns-then-eq-2-clause-tree : goal.parse_entries-returns-then-eq-2-clause-tree
parse_entries-returns-then-eq-2-clause-tree g t c =
    let (children, so_far, even, go) = c.entries.invariant.tree in
    let here : c.entries.self.place.lexer.source ≡ c.args.self.now.place.lexer.source = source_reached (c.entries.invariant.led (c.args.levels + 1) [] (omega arith)) in
    let key = node c.entries.key (span_at c.entries.self.place) no_nodes in
    let value_expected = value_next children key even in
    let (n, is, grown) = entry_added (λ (s : List ℕ) cs ps. g.P.Builder.are_parts c.args.builder s kind_of_node.TupleSet cs ps) c.args.levels c.args.self.now.place c.entries.self.place c.expect.new.self.place c.parse_part.new.self.place c.entries.key children c.entries.parts c.push_key.new.parts c.parse_part.new.parts here c.in_default-expect.ensures.takes so_far
    (c.in_default.ensures.kept kind_of_node.TupleSet children even) (c.in_default-parse_part.ensures.kept kind_of_node.TupleSet (children ++ key ∷ []) value_expected) in
    let token : c.take-item.new.self.place.lexer.source ≡ c.args.self.now.place.lexer.source = source_item c.parse_part.new.self.place c.take-item.new.self.place c.in-Token.token c.in-Token.ensures.takes ∙ (source_parsed c.args.levels c.expect.new.self.place c.parse_part.new.self.place n is ∙ (source_item c.entries.self.place c.expect.new.self.place Colon c.in_default-expect.ensures.takes ∙ here)) in
    let close : c.take-item-in-entries.new.self.place.lexer.source ≡ c.args.self.now.place.lexer.source = source_item c.take-item.new.self.place c.take-item-in-entries.new.self.place c.in-Token-item.next c.in-Token-item.ensures.takes ∙ token in
    finish_node_built (g.P.Builder.is_built c.args.builder) (λ (s : List ℕ) cs ps. g.P.Builder.are_parts c.args.builder s kind_of_node.TupleSet cs ps) c.args.self.now.place c.take-item-in-entries.new.self.place kind_of_node.TupleSet c.args.start c.finish_node-then-eq-2.result c.parse_part.new.parts ((children ++ key ∷ []) ++ n ∷ []) (IsOfEntries c.args.levels c.args.start c.args.first c.args.self.now.place c.take-item-in-entries.new.self.place) close grown c.finish_node-then-eq-2.ensures
    (record { children = (children ++ key ∷ []) ++ n ∷ []; are = keyed_close c.args.levels c.args.self.now.place c.entries.self.place c.expect.new.self.place c.parse_part.new.self.place c.take-item-in-entries.new.self.place c.args.first c.entries.key children n go c.in_default-expect.ensures.takes is (inr (c.take-item.new.self.place, (class_as _ _ _ Comma c.in-Token.ensures.takes (differs_not _ _ c.ne.ensures c.if-ne.false)), class_as _ _ _ BraceClose c.in-Token-item.ensures.takes (is_class _ _ c.eq-in-entries.ensures c.if-eq-2.true))); is = refl })

pub parse_entries-finish_node-requires : goal.parse_entries-finish_node-requires
parse_entries-finish_node-requires g t c =
    let (children, so_far, even, go) = c.entries.invariant.tree in
    let here : c.entries.self.place.lexer.source ≡ c.args.self.now.place.lexer.source = source_reached (c.entries.invariant.led (c.args.levels + 1) [] (omega arith)) in
    let key = node c.entries.key (span_at c.entries.self.place) no_nodes in
    let value_expected = value_next children key even in
    let (n, is, grown) = entry_added (λ (s : List ℕ) cs ps. g.P.Builder.are_parts c.args.builder s kind_of_node.TupleSet cs ps) c.args.levels c.args.self.now.place c.entries.self.place c.expect.new.self.place c.parse_part.new.self.place c.entries.key children c.entries.parts c.push_key.new.parts c.parse_part.new.parts here c.in_default-expect.ensures.takes so_far
    (c.in_default.ensures.kept kind_of_node.TupleSet children even) (c.in_default-parse_part.ensures.kept kind_of_node.TupleSet (children ++ key ∷ []) value_expected) in
    (c.args.self.now.place.lexer.source, (children ++ key ∷ []) ++ n ∷ [], grown)

pub parse_entries-finish_node-requires-then-eq-2 : goal.parse_entries-finish_node-requires-then-eq-2
parse_entries-finish_node-requires-then-eq-2 g t c =
    let (children, so_far, even, go) = c.entries.invariant.tree in
    let here : c.entries.self.place.lexer.source ≡ c.args.self.now.place.lexer.source = source_reached (c.entries.invariant.led (c.args.levels + 1) [] (omega arith)) in
    let key = node c.entries.key (span_at c.entries.self.place) no_nodes in
    let value_expected = value_next children key even in
    let (n, is, grown) = entry_added (λ (s : List ℕ) cs ps. g.P.Builder.are_parts c.args.builder s kind_of_node.TupleSet cs ps) c.args.levels c.args.self.now.place c.entries.self.place c.expect.new.self.place c.parse_part.new.self.place c.entries.key children c.entries.parts c.push_key.new.parts c.parse_part.new.parts here c.in_default-expect.ensures.takes so_far
    (c.in_default.ensures.kept kind_of_node.TupleSet children even) (c.in_default-parse_part.ensures.kept kind_of_node.TupleSet (children ++ key ∷ []) value_expected) in
    (c.args.self.now.place.lexer.source, (children ++ key ∷ []) ++ n ∷ [], grown)

pub parse_entries-entries-preserved : goal.parse_entries-entries-preserved
parse_entries-entries-preserved g t c = record {
  asks =
      asks_entries c.args.levels c.args.self.now c.entries.self c.take-item-in-entries.new.self c.entries.invariant.led c.entries.invariant.asks (asks_token c.entries.self c.expect.new.self c.take-item-in-entries.new.self Colon c.in_default-expect.ensures.takes c.expect.ensures.asks (asks_value c.args.levels c.expect.new.self c.parse_part.new.self c.take-item-in-entries.new.self c.in_default-parse_part.ensures.led c.parse_part.ensures.asks (asks_token c.parse_part.new.self c.take-item.new.self c.take-item-in-entries.new.self c.in-Token.token c.in-Token.ensures.takes c.take-item.ensures.asks (asks_once c.take-item.new.self c.take-item-in-entries.new.self c.take-item-in-entries.ensures.asks))));
  led = λ n s e.
      let item = c.in_default-parse_part.ensures.led n (expectation.entries ∷ s) (omega arith) in
      let expected_key = key_expected (value_there (c.entries.invariant.led n s e) c.in_default-expect.ensures.takes) item c.in-Token.ensures.takes (differs_not _ _ c.ne.ensures c.if-ne.false) in
      then_same c.in-Token-item.next expected_key c.in-Token-item.ensures.takes (key_reads c.in-Token-item.next s (text_at c.take-item-in-entries.new.self.place) c.in-Some.ensures.0);
  tree =
      let (children, so_far, even, go) = c.entries.invariant.tree in
      let here : c.entries.self.place.lexer.source ≡ c.args.self.now.place.lexer.source = source_reached (c.entries.invariant.led (c.args.levels + 1) [] (omega arith)) in
      let key = node c.entries.key (span_at c.entries.self.place) no_nodes in
      let value_expected = value_next children key even in
      let (n, is, grown) = entry_added (λ (s : List ℕ) cs ps. g.P.Builder.are_parts c.args.builder s kind_of_node.TupleSet cs ps) c.args.levels c.args.self.now.place c.entries.self.place c.expect.new.self.place c.parse_part.new.self.place c.entries.key children c.entries.parts c.push_key.new.parts c.parse_part.new.parts here c.in_default-expect.ensures.takes so_far
      (c.in_default.ensures.kept kind_of_node.TupleSet children even) (c.in_default-parse_part.ensures.kept kind_of_node.TupleSet (children ++ key ∷ []) value_expected) in (
        (children ++ key ∷ []) ++ n ∷ [],
        grown,
        key_next (children ++ key ∷ []) n value_expected,
        keyed_next c.args.levels c.args.self.now.place c.entries.self.place c.expect.new.self.place c.parse_part.new.self.place c.take-item-in-entries.new.self.place c.args.first c.entries.key children n go c.in_default-expect.ensures.takes is c.take-item.new.self.place c.in-Token-item.next c.in-Some.ty (class_as _ _ _ Comma c.in-Token.ensures.takes (differs_not _ _ c.ne.ensures c.if-ne.false)) c.in-Token-item.ensures.takes c.in-Some.ensures.0 c.in-Some.ensures.1,
      );
}

pub parse_items-returns-then-next_is-clause-tree : goal.parse_items-returns-then-next_is-clause-tree
parse_items-returns-then-next_is-clause-tree g t c =
    let stays = c.next_is.ensures.stays in
    let source : c.expect.new.self.place.lexer.source ≡ c.args.self.now.place.lexer.source = source_item c.next_is.new.self.place c.expect.new.self.place c.args.close c.in_ok-expect.ensures.takes ∙ ap (λ (z : Place). z.lexer.source) stays in
    finish_empty_built (g.P.Builder.is_built c.args.builder) c.args.self.now.place c.expect.new.self.place kind_of_node.List c.span-start.result.start c.finish_empty.result (IsOfItems c.args.levels c.args.close c.args.self.now.place c.expect.new.self.place) source c.finish_empty.ensures
    (items_none c.args.levels c.args.close c.args.self.now.place c.next_is.new.self.place c.expect.new.self.place c.span-start.result.start [] _ refl refl c.requires (is_other _ _ c.eq.ensures c.if-eq.false) (ap (λ (z : Range ℕ). z.start) c.span-start.ensures) stays c.in_ok-expect.ensures.takes)

pub parse_part-returns-in_default : goal.parse_part-returns-in_default
parse_part-returns-in_default g t c = record {
  led = λ n s e. refuses_there s c.refuse_item.result c.refuse_item.ensures.never c.refuse_item.ensures.refused
      (λ x says. fails (inl tt) (λ _. Unit {0}) x (here n expectation.value s _) (shallow n expectation.value s _ (omega arith)) (any_token n expectation.value s _ _) (item_fails (λ _. Unit {0}) c.take-item.result c.args.self.now.place c.take-item.new.self.place x c.in_default.not-Token c.take-item.ensures.takes says));
  kept = as_added c.refuse_item.result c.refuse_item.ensures.never (λ none. absurd none);
  memory = whatever_parts (λ (source : List ℕ) (of : NodeType) (children : List NodeTree). g.P.Builder.are_parts c.args.builder source of children c.args.parts.now) (OnlyOutOfMemory (g.P.Builder.takes_memory c.args.builder) c.args.self.now.place) c.refuse_item.result
      (wants_refused (g.P.Builder.takes_memory c.args.builder) c.args.self.now.place c.refuse_item.result c.refuse_item.ensures.refused (λ x says. wants_fails (g.P.Builder.takes_memory c.args.builder) c.args.self.now.place c.args.self.now.place c.take-item.new.self.place (λ _. Unit {0}) x (item_fails (λ _. Unit {0}) c.take-item.result c.args.self.now.place c.take-item.new.self.place x c.in_default.not-Token c.take-item.ensures.takes says)));
  asks = asks_once c.args.self.now c.take-item.new.self c.take-item.ensures.asks;
}

pub parse_entries-returns-in_default-item : goal.parse_entries-returns-in_default-item
parse_entries-returns-in_default-item g t c = record {
  led = λ n s e.
      let item = c.in_default-parse_part.ensures.led n (expectation.entries ∷ s) (omega arith) in
      refuses_there s c.refuse_item.result c.refuse_item.ensures.never c.refuse_item.ensures.refused
      (λ x says. fails_behind item.expected_there (λ _. Unit {0}) x (then_reached (value_there (c.entries.invariant.led n s e) c.in_default-expect.ensures.takes) (reached item)) item.is_behind (λ k text apart. absurd (apart tt)) (item_fails (λ _. Unit {0}) c.take-item.result c.parse_part.new.self.place c.take-item.new.self.place x c.in_default-item.not-Token c.take-item.ensures.takes says));
  tree = never_built _ c.refuse_item.result c.refuse_item.ensures.never;
  asks = asks_entries c.args.levels c.args.self.now c.entries.self c.take-item.new.self c.entries.invariant.led c.entries.invariant.asks (asks_token c.entries.self c.expect.new.self c.take-item.new.self Colon c.in_default-expect.ensures.takes c.expect.ensures.asks (asks_value c.args.levels c.expect.new.self c.parse_part.new.self c.take-item.new.self c.in_default-parse_part.ensures.led c.parse_part.ensures.asks (asks_once c.parse_part.new.self c.take-item.new.self c.take-item.ensures.asks)));
}

pub parse_entries-returns-in_default-item-2 : goal.parse_entries-returns-in_default-item-2
parse_entries-returns-in_default-item-2 g t c = record {
  led = λ n s e.
      let item = c.in_default-parse_part.ensures.led n (expectation.entries ∷ s) (omega arith) in
      let expected_key = key_expected (value_there (c.entries.invariant.led n s e) c.in_default-expect.ensures.takes) item c.in-Token.ensures.takes (differs_not _ _ c.ne.ensures c.if-ne.false) in
      refuses_there s c.refuse_item-in_default-item-2.result c.refuse_item-in_default-item-2.ensures.never c.refuse_item-in_default-item-2.ensures.refused
      (λ x says. fails (inl tt) (λ _. Unit {0}) x expected_key (λ deep. deep.expected) (any_token n expectation.key s _ _) (item_fails (λ _. Unit {0}) c.take-item-in-entries.result c.take-item.new.self.place c.take-item-in-entries.new.self.place x c.in_default-item-2.not-Token c.take-item-in-entries.ensures.takes says));
  tree = never_built _ c.refuse_item-in_default-item-2.result c.refuse_item-in_default-item-2.ensures.never;
  asks = asks_entries c.args.levels c.args.self.now c.entries.self c.take-item-in-entries.new.self c.entries.invariant.led c.entries.invariant.asks (asks_token c.entries.self c.expect.new.self c.take-item-in-entries.new.self Colon c.in_default-expect.ensures.takes c.expect.ensures.asks (asks_value c.args.levels c.expect.new.self c.parse_part.new.self c.take-item-in-entries.new.self c.in_default-parse_part.ensures.led c.parse_part.ensures.asks (asks_token c.parse_part.new.self c.take-item.new.self c.take-item-in-entries.new.self c.in-Token.token c.in-Token.ensures.takes c.take-item.ensures.asks (asks_once c.take-item.new.self c.take-item-in-entries.new.self c.take-item-in-entries.ensures.asks))));
}
