use Rattle.std.proofs.Common.{◌∷◌, ap, sym, subst, ◌∙◌}
use Rattle.wave_lex.specs.declared.lex.Token.TheVariants.{ParenOpen, ParenClose}
use Rattle.wave_lex.specs.Tokenization.{Lexed}
use Rattle.wave_expected.specs.Expected.{StandBefore}
use Rattle.wave_expected.specs.Private.CallPrefixes.{classes_of, prefix_of, prefix_behind}
use Rattle.wave_tree.proofs.ParserCorrectness.ClassTests.{differs, differs_not}
use Rattle.wave_expected.proofs.ExpectedTokens.ParamTokens.{stand_none, stand_next, begins_other, goes_on_other, goes_on_two}
use Rattle.wave_expected.proofs.expected.call.prefix_of.Goals as goal

pub returns-in_default : goal.returns-in_default
returns-in_default c = λ tokens h. sym (ap prefix_of (stand_none c.clone-lexer.result c.args.at tokens c.in_default.ensures (subst (λ (l : Lexed). StandBefore l c.args.at tokens) (sym c.clone-lexer.ensures) h)))

pub returns-then-ne : goal.returns-then-ne
returns-then-ne c = λ tokens h.
    let (more, is, stand) = stand_next c.clone-lexer.result c.next_before.new.lexer c.args.at c.in-Some.class tokens c.in-Some.ensures.0 c.in-Some.ensures.1 (subst (λ (l : Lexed). StandBefore l c.args.at tokens) (sym c.clone-lexer.ensures) h) in
    sym (ap prefix_of is ∙ begins_other c.in-Some.class (classes_of more) (differs c.in-Some.class ParenOpen c.ne.ensures c.if-ne.true))

pub returns-in_default-next_before : goal.returns-in_default-next_before
returns-in_default-next_before c = λ tokens h.
    let (more, is, stand) = stand_next c.clone-lexer.result c.next_before.new.lexer c.args.at c.in-Some.class tokens c.in-Some.ensures.0 c.in-Some.ensures.1 (subst (λ (l : Lexed). StandBefore l c.args.at tokens) (sym c.clone-lexer.ensures) h) in
    let same = differs_not c.in-Some.class ParenOpen c.ne.ensures c.if-ne.false in
    sym (ap prefix_of is ∙ (ap (λ z. prefix_of (z ∷ classes_of more)) same ∙ ap prefix_behind (stand_none c.next_before.new.lexer c.args.at more c.in_default-next_before.ensures stand)))

pub returns-then-ne-2 : goal.returns-then-ne-2
returns-then-ne-2 c = λ tokens h.
    let (more, is, stand) = stand_next c.clone-lexer.result c.next_before.new.lexer c.args.at c.in-Some.class tokens c.in-Some.ensures.0 c.in-Some.ensures.1 (subst (λ (l : Lexed). StandBefore l c.args.at tokens) (sym c.clone-lexer.ensures) h) in
    let same = differs_not c.in-Some.class ParenOpen c.ne.ensures c.if-ne.false in
    let (others, are, rest) = stand_next c.next_before.new.lexer c.next_before-2.new.lexer c.args.at c.in-Some-next_before.next more c.in-Some-next_before.ensures.0 c.in-Some-next_before.ensures.1 stand in
    sym (ap prefix_of is ∙ (ap (λ z. prefix_of (z ∷ classes_of more)) same ∙ (ap prefix_behind are ∙ goes_on_other c.in-Some-next_before.next (classes_of others) (differs c.in-Some-next_before.next ParenClose c.ne-2.ensures c.if-ne-2.true))))

pub returns-in-None : goal.returns-in-None
returns-in-None c = λ tokens h.
    let (more, is, stand) = stand_next c.clone-lexer.result c.next_before.new.lexer c.args.at c.in-Some.class tokens c.in-Some.ensures.0 c.in-Some.ensures.1 (subst (λ (l : Lexed). StandBefore l c.args.at tokens) (sym c.clone-lexer.ensures) h) in
    let same = differs_not c.in-Some.class ParenOpen c.ne.ensures c.if-ne.false in
    let (others, are, rest) = stand_next c.next_before.new.lexer c.next_before-2.new.lexer c.args.at c.in-Some-next_before.next more c.in-Some-next_before.ensures.0 c.in-Some-next_before.ensures.1 stand in
    let close = differs_not c.in-Some-next_before.next ParenClose c.ne-2.ensures c.if-ne-2.false in
    sym (ap prefix_of is ∙ (ap (λ z. prefix_of (z ∷ classes_of more)) same ∙ (ap prefix_behind are
    ∙ (ap (λ z. prefix_behind (z ∷ classes_of others)) close ∙ ap (λ z. prefix_behind (ParenClose ∷ z)) (stand_none c.next_before-2.new.lexer c.args.at others c.in-None.ensures rest)))))

pub returns-in-Some-next_before-2 : goal.returns-in-Some-next_before-2
returns-in-Some-next_before-2 c = λ tokens h.
    let (more, is, stand) = stand_next c.clone-lexer.result c.next_before.new.lexer c.args.at c.in-Some.class tokens c.in-Some.ensures.0 c.in-Some.ensures.1 (subst (λ (l : Lexed). StandBefore l c.args.at tokens) (sym c.clone-lexer.ensures) h) in
    let same = differs_not c.in-Some.class ParenOpen c.ne.ensures c.if-ne.false in
    let (others, are, rest) = stand_next c.next_before.new.lexer c.next_before-2.new.lexer c.args.at c.in-Some-next_before.next more c.in-Some-next_before.ensures.0 c.in-Some-next_before.ensures.1 stand in
    let (last, ends, stop) = stand_next c.next_before-2.new.lexer c.next_before-3.new.lexer c.args.at c.in-Some-next_before-2.field-0 others c.in-Some-next_before-2.ensures.0 c.in-Some-next_before-2.ensures.1 rest in
    sym (ap prefix_of is ∙ (ap (λ z. prefix_of (z ∷ classes_of more)) same ∙ (ap prefix_behind are
    ∙ (ap (λ z. prefix_behind (c.in-Some-next_before.next ∷ z)) ends ∙ goes_on_two c.in-Some-next_before.next c.in-Some-next_before-2.field-0 (classes_of last)))))
