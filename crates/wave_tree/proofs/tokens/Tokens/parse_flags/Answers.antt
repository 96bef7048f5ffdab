use Rattle.std.proofs.Common.{◌≡◌, ◌≢◌, ℕ, Some, Ok, List, [], ◌∷◌, ◌++◌, true, false, refl, sym, ap, subst, ◌∙◌, inl, inr, arith}
use Rattle.wave_lex.specs.declared.lex.Token as lex
use Rattle.wave_lex.specs.declared.lex.Token.TheVariants.{BraceClose, Comma, LabelOrKeyword}
use Rattle.wave_lex.specs.declared.error.ParserErrorKind.TheVariants as kind
use Rattle.wave_grammar.specs.ParserPosition.{Place, TakesItem, span_at, text_at, token_of}
use Rattle.wave_grammar.specs.LeafTokens.{name_of}
use Rattle.wave_grammar.specs.PrefixAutomaton.{Expectation, StackSymbol, expected_behind, reads, behind_step, step, key_step, brace_step, behind_flag_step, flag_step}
use Rattle.wave_grammar.specs.PrefixAutomaton as expectation
use Rattle.wave_tree.proofs.ParserCorrectness.Steps.{here, refuses_there, handed, fails, any_token, read_there, unexpected_there, then_class, then_same, Reached, repeated_there, gives_read, flags_other, no_flag, IsFlagExpected, flag_same, flag_not_deep, flag_within, token_less}
use Rattle.std.specs.Prelude.{if◌then◌else◌}
use Rattle.std.specs.Option.{is_some}
use Rattle.wave_wasm.specs.Names.{is_one_of}
use Rattle.wave_lex.specs.Errors.{Says}
use Rattle.wave_lex.specs.Errors.{repeated_name}
use Rattle.wave_wasm.proofs.Names.NameSets.{Holds, holds_none, holds_more, on_ok}
use Rattle.std.specs.Prelude.{map}
use Rattle.std.specs.BTreeMap.{insert_entry}
use Rattle.std.specs.Cmp.Lexicographic.{slice_cmp}
use Rattle.std.specs.Ordering.{nat_cmp}
use Rattle.wave_grammar.specs.FlagOrder.{flag_name}
use Rattle.wave_tree.proofs.NodeCorrectness.Items.{class_as}
use Rattle.wave_node.proofs.ParserCorrectness.FlagsSorted.{entry_of}
use Rattle.wave_tree.proofs.ParserCorrectness.FlagLoop.{flag_at, grown, ended, asks_flags}
use Rattle.wave_tree.proofs.ParserCorrectness.ClassTests.{is_class, is_other, differs, differs_not}
use Rattle.wave_tree.proofs.ParserCorrectness.LexerCalls.{asks_none, asks_once, asks_token}
use Rattle.wave_tree.proofs.tokens.Tokens.parse_flags.Goals as goal

-- after a comma a further flag is expected
expected_flag : (names : List (List ℕ)) {n : ℕ} {s : List StackSymbol} {p q w : Place} {text : List ℕ} (d : Expectation) (c : lex.Token) → IsFlagExpected d names q → Reached n (expectation.behind_word text) s p d s q → TakesItem q (Some (Ok c)) w → c ≡ Comma →
    Reached n (expectation.behind_word text) s p (expectation.flag names) s w
expected_flag names {n} {s} {p} {q} {w} d c i r h e = then_same c r h (flag_same n d names s q w c i h ∙ ap (λ z. behind_flag_step names s (token_of z (text_at w))) e)

pub flags-init : goal.flags-init
flags-init g c =
    let name_is = c.label_name.ensures ∙ ap name_of c.slice.ensures in
    let done = c.if-is_err.ensures.negation in
    let one = holds_more c.new-flags.result c.insert.new.self [] _ _ (holds_none c.new-flags.result c.new-flags.ensures.empty) (on_ok c.insert.result c.insert.ensures.updates done) in
    let place = c.args.self.now.place in (
      record {
        more = [];
        holds = subst (λ z. Holds c.insert.new.self (z ∷ [])) name_is one;
        distinct = (tt, tt);
        written = (refl, tt);
        ordered = ap (map entry_of) (on_ok c.insert.result c.insert.ensures.entries done ∙ ap (λ z. insert_entry (λ a b. slice_cmp nat_cmp a.now b.now) z c.label_name.result c.span.result) c.new-flags.ensures.empty)
            ∙ (λ i. (name_is i, c.span.ensures i) ∷ []);
        tree = λ rest r further. further;
        led = λ n s. (expectation.behind_word (text_at place), inr (text_at place, refl, refl, c.requires), here n (expectation.behind_word (text_at place)) s place);
      },
      asks_none c.args.self.now c.args.self.now refl,
    )

pub returns-in_err-token-clause-led : goal.returns-in_err-token-clause-led
returns-in_err-token-clause-led g c = λ n s.
    let (d, i, r) = c.flags.invariant.0.led n s in
    handed s _ _ c.from_residual.ensures.1 (fails (inl (flag_within d _ _ i)) (λ _. Unit {0}) c.in_err-token.field-0.0 r (flag_not_deep n d _ s _ i) (any_token n d s _ _) c.in_err-token.ensures.takes)

pub returns-then-eq-clause-led : goal.returns-then-eq-clause-led
returns-then-eq-clause-led g c = λ n s.
    let (d, i, r) = c.flags.invariant.0.led n s in
    gives_read s c.finish_flags.result c.finish_flags.ensures.memory (read_there (then_same {f = expectation.behind_value} {v = s} c.in_ok-token.token r c.in_ok-token.ensures.takes
    (flag_same n d _ s _ _ c.in_ok-token.token i c.in_ok-token.ensures.takes ∙ ap (λ z. behind_flag_step (map flag_name (flag_at c.args.self.now.place ∷ c.flags.invariant.0.more)) s (token_of z (text_at c.advance.new.self.place))) (is_class c.in_ok-token.token BraceClose c.eq.ensures c.if-eq.true))) (inl refl))

pub returns-then-ne-clause-led : goal.returns-then-ne-clause-led
returns-then-ne-clause-led g c = λ n s.
    let (d, i, r) = c.flags.invariant.0.led n s in
    refuses_there s c.refuse_token.result c.refuse_token.ensures.never c.refuse_token.ensures.refused (λ x says. unexpected_there (inl (flag_within d _ _ i)) x c.in_ok-token.token r c.in_ok-token.ensures.takes
    (flag_same n d _ s _ _ c.in_ok-token.token i c.in_ok-token.ensures.takes ∙
    flags_other _ c.in_ok-token.token s (text_at c.advance.new.self.place) (is_other _ _ c.eq.ensures c.if-eq.false) (differs _ _ c.ne.ensures c.if-ne.true))
    says)

pub returns-in_err-next-clause-led : goal.returns-in_err-next-clause-led
returns-in_err-next-clause-led g c = λ n s.
    let (d, i, r) = c.flags.invariant.0.led n s in
    let comma = expected_flag (map flag_name (flag_at c.args.self.now.place ∷ c.flags.invariant.0.more)) d c.in_ok-token.token i r c.in_ok-token.ensures.takes (differs_not _ _ c.ne.ensures c.if-ne.false) in
    handed s _ _ c.from_residual-in_err-next.ensures.1 (fails (inl tt) (λ _. Unit {0}) c.in_err-next.field-0.0 comma (λ deep. deep.expected) (any_token n (expectation.flag (map flag_name (flag_at c.args.self.now.place ∷ c.flags.invariant.0.more))) s _ _) c.in_err-next.ensures.takes)

pub returns-then-eq-2-clause-led : goal.returns-then-eq-2-clause-led
returns-then-eq-2-clause-led g c = λ n s.
    let (d, i, r) = c.flags.invariant.0.led n s in
    let comma = expected_flag (map flag_name (flag_at c.args.self.now.place ∷ c.flags.invariant.0.more)) d c.in_ok-token.token i r c.in_ok-token.ensures.takes (differs_not _ _ c.ne.ensures c.if-ne.false) in
    gives_read s c.finish_flags-then-eq-2.result c.finish_flags-then-eq-2.ensures.memory (read_there (then_class BraceClose comma c.in_ok-next.ensures.takes (is_class _ _ c.eq-in-flags.ensures c.if-eq-2.true) refl) (inl refl))

pub returns-then-ne-2-clause-led : goal.returns-then-ne-2-clause-led
returns-then-ne-2-clause-led g c = λ n s.
    let (d, i, r) = c.flags.invariant.0.led n s in
    let comma = expected_flag (map flag_name (flag_at c.args.self.now.place ∷ c.flags.invariant.0.more)) d c.in_ok-token.token i r c.in_ok-token.ensures.takes (differs_not _ _ c.ne.ensures c.if-ne.false) in
    refuses_there s c.refuse_token-then-ne-2.result c.refuse_token-then-ne-2.ensures.never c.refuse_token-then-ne-2.ensures.refused (λ x says. unexpected_there (inl tt) x c.in_ok-next.next comma c.in_ok-next.ensures.takes
    (no_flag (map flag_name (flag_at c.args.self.now.place ∷ c.flags.invariant.0.more)) c.in_ok-next.next s (text_at c.advance-in-flags.new.self.place) (is_other _ _ c.eq-in-flags.ensures c.if-eq-2.false) (differs _ _ c.ne-in-flags.ensures c.if-ne-2.true))
    says)

pub returns-in-Ok-Some-clause-led : goal.returns-in-Ok-Some-clause-led
returns-in-Ok-Some-clause-led g c = λ n s.
    let (d, i, r) = c.flags.invariant.0.led n s in
    let names = (map flag_name (flag_at c.args.self.now.place ∷ c.flags.invariant.0.more)) in
    let comma = expected_flag names d c.in_ok-token.token i r c.in_ok-token.ensures.takes (differs_not _ _ c.ne.ensures c.if-ne.false) in
    let name_is = c.label_name-name.ensures ∙ ap name_of c.slice-in-flags.ensures in
    let found = subst (λ z. is_one_of names z ≡ true) name_is (sym (c.flags.invariant.0.holds c.label_name-name.result.now) ∙ ap is_some (sym c.in-Ok-Some.ensures.old ∙ c.in-Ok-Some.field-0-is)) in
    repeated_there (inl tt) c.repeated.result LabelOrKeyword comma (subst (λ z. TakesItem c.advance.new.self.place (Some (Ok z)) c.advance-in-flags.new.self.place) (differs_not c.in_ok-next.next LabelOrKeyword c.ne-in-flags.ensures c.if-ne-2.false) c.in_ok-next.ensures.takes)
    (ap (λ b. if b then expectation.repeated_flag else reads (expectation.behind_flag (names ++ name_of (text_at c.advance-in-flags.new.self.place) ∷ [])) s) found)
    (subst (λ z. c.repeated.result.kind ≢ kind.OutOfMemory → Says c.repeated.result kind.DuplicateFlag (span_at c.advance-in-flags.new.self.place) (Some (repeated_name z))) name_is c.repeated.ensures)

pub flags-smaller : goal.flags-smaller
flags-smaller g c =
    let two = token_less _ _ c.in_ok-token.token c.in_ok-token.ensures.takes in
    let three = token_less _ _ c.in_ok-next.next c.in_ok-next.ensures.takes in
    omega arith

pub flags-preserved : goal.flags-preserved
flags-preserved g c =
    let names = map flag_name (flag_at c.args.self.now.place ∷ c.flags.invariant.0.more) in
    let name_is = c.label_name-name.ensures ∙ ap name_of c.slice-in-flags.ensures in
    let more = holds_more c.flags.flags c.insert-in-flags.new.self names _ _ c.flags.invariant.0.holds c.in-Ok-None.ensures.updates in
    let new_name = subst (λ z. is_one_of names z ≡ false) name_is (sym (c.flags.invariant.0.holds c.label_name-name.result.now) ∙ ap is_some (sym c.in-Ok-None.ensures.old ∙ c.in-Ok-None.field-0-is)) in
    let comma_there = class_as _ _ _ Comma c.in_ok-token.ensures.takes (differs_not _ _ c.ne.ensures c.if-ne.false) in
    let label_there = class_as _ _ _ LabelOrKeyword c.in_ok-next.ensures.takes (differs_not _ _ c.ne-in-flags.ensures c.if-ne-2.false) in (
      grown c.flags.flags c.insert-in-flags.new.self c.args.self.now.place c.flags.self.place c.advance.new.self.place c.advance-in-flags.new.self.place c.label_name-name.result _ c.flags.invariant.0 comma_there label_there
          c.in-Ok-None.ensures.entries name_is c.span-in-flags.ensures new_name
          (subst (λ z. Holds c.insert-in-flags.new.self (names ++ z ∷ [])) name_is more)
          (λ n s.
          let (d, i, r) = c.flags.invariant.0.led n s in
          let comma = expected_flag names d c.in_ok-token.token i r c.in_ok-token.ensures.takes (differs_not _ _ c.ne.ensures c.if-ne.false) in (
            expectation.behind_flag (names ++ name_of (text_at c.advance-in-flags.new.self.place) ∷ []),
            inl refl,
            then_same LabelOrKeyword comma label_there (ap (λ b. if b then expectation.repeated_flag else reads (expectation.behind_flag (names ++ name_of (text_at c.advance-in-flags.new.self.place) ∷ [])) s) new_name),
          )),
      asks_flags c.flags.flags c.args.self.now c.flags.self c.advance-in-flags.new.self c.flags.invariant.0 c.flags.invariant.1 (asks_token c.flags.self c.advance.new.self c.advance-in-flags.new.self c.in_ok-token.token c.in_ok-token.ensures.takes c.advance.ensures.asks (asks_once c.advance.new.self c.advance-in-flags.new.self c.advance-in-flags.ensures.asks)),
    )

pub returns-then-eq-clause-tree : goal.returns-then-eq-clause-tree
returns-then-eq-clause-tree g c = ended (g.P.Builder.is_built c.args.builder) c.flags.flags _ c.flags.self.place _ _ c.finish_flags.result c.flags.invariant.0 (inl (class_as _ _ _ BraceClose c.in_ok-token.ensures.takes (is_class _ _ c.eq.ensures c.if-eq.true))) c.finish_flags.ensures.built

pub returns-then-eq-2-clause-tree : goal.returns-then-eq-2-clause-tree
returns-then-eq-2-clause-tree g c = ended (g.P.Builder.is_built c.args.builder) c.flags.flags _ c.flags.self.place _ _ c.finish_flags-then-eq-2.result c.flags.invariant.0 (inr (c.advance.new.self.place, class_as _ _ _ Comma c.in_ok-token.ensures.takes (differs_not _ _ c.ne.ensures c.if-ne.false), class_as _ _ _ BraceClose c.in_ok-next.ensures.takes (is_class _ _ c.eq-in-flags.ensures c.if-eq-2.true))) c.finish_flags-then-eq-2.ensures.built

pub returns-in_err-token-clause-asks : goal.returns-in_err-token-clause-asks
returns-in_err-token-clause-asks g c =
    asks_flags c.flags.flags c.args.self.now c.flags.self c.advance.new.self c.flags.invariant.0 c.flags.invariant.1 (asks_once c.flags.self c.advance.new.self c.advance.ensures.asks)

pub returns-then-eq-clause-asks : goal.returns-then-eq-clause-asks
returns-then-eq-clause-asks g c =
    asks_flags c.flags.flags c.args.self.now c.flags.self c.advance.new.self c.flags.invariant.0 c.flags.invariant.1 (asks_once c.flags.self c.advance.new.self c.advance.ensures.asks)

pub returns-then-ne-clause-asks : goal.returns-then-ne-clause-asks
returns-then-ne-clause-asks g c =
    asks_flags c.flags.flags c.args.self.now c.flags.self c.advance.new.self c.flags.invariant.0 c.flags.invariant.1 (asks_once c.flags.self c.advance.new.self c.advance.ensures.asks)

pub returns-in_err-next-clause-asks : goal.returns-in_err-next-clause-asks
returns-in_err-next-clause-asks g c =
    asks_flags c.flags.flags c.args.self.now c.flags.self c.advance-in-flags.new.self c.flags.invariant.0 c.flags.invariant.1 (asks_token c.flags.self c.advance.new.self c.advance-in-flags.new.self c.in_ok-token.token c.in_ok-token.ensures.takes c.advance.ensures.asks (asks_once c.advance.new.self c.advance-in-flags.new.self c.advance-in-flags.ensures.asks))

pub returns-then-eq-2-clause-asks : goal.returns-then-eq-2-clause-asks
returns-then-eq-2-clause-asks g c =
    asks_flags c.flags.flags c.args.self.now c.flags.self c.advance-in-flags.new.self c.flags.invariant.0 c.flags.invariant.1 (asks_token c.flags.self c.advance.new.self c.advance-in-flags.new.self c.in_ok-token.token c.in_ok-token.ensures.takes c.advance.ensures.asks (asks_once c.advance.new.self c.advance-in-flags.new.self c.advance-in-flags.ensures.asks))

pub returns-then-ne-2-clause-asks : goal.returns-then-ne-2-clause-asks
returns-then-ne-2-clause-asks g c =
    asks_flags c.flags.flags c.args.self.now c.flags.self c.advance-in-flags.new.self c.flags.invariant.0 c.flags.invariant.1 (asks_token c.flags.self c.advance.new.self c.advance-in-flags.new.self c.in_ok-token.token c.in_ok-token.ensures.takes c.advance.ensures.asks (asks_once c.advance.new.self c.advance-in-flags.new.self c.advance-in-flags.ensures.asks))

pub returns-in-Ok-Some-clause-asks : goal.returns-in-Ok-Some-clause-asks
returns-in-Ok-Some-clause-asks g c =
    asks_flags c.flags.flags c.args.self.now c.flags.self c.advance-in-flags.new.self c.flags.invariant.0 c.flags.invariant.1 (asks_token c.flags.self c.advance.new.self c.advance-in-flags.new.self c.in_ok-token.token c.in_ok-token.ensures.takes c.advance.ensures.asks (asks_once c.advance.new.self c.advance-in-flags.new.self c.advance-in-flags.ensures.asks))

pub returns-in-Err-clause-asks : goal.returns-in-Err-clause-asks
returns-in-Err-clause-asks g c =
    asks_flags c.flags.flags c.args.self.now c.flags.self c.advance-in-flags.new.self c.flags.invariant.0 c.flags.invariant.1 (asks_token c.flags.self c.advance.new.self c.advance-in-flags.new.self c.in_ok-token.token c.in_ok-token.ensures.takes c.advance.ensures.asks (asks_once c.advance.new.self c.advance-in-flags.new.self c.advance-in-flags.ensures.asks))
