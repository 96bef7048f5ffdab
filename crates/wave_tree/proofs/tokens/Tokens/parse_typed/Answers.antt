use Rattle.std.proofs.Common.{rules, ◌≢◌, inr, Option, Bor, Err, [], arith, sym, ap, subst, ◌∙◌}
use Rattle.std.specs.Prelude.{IfErr}
use Rattle.wave_wasm.specs.Borrowed.{denoted}
use Rattle.wave_lex.specs.declared.error.ParserErrorKind.TheVariants as because
use Rattle.wave_lex.specs.Errors.{Diagnostic}
use Rattle.wave_grammar.specs.PrefixAutomaton.{value}
use Rattle.wave_grammar.specs.SyntaxErrors.{FailsBySyntax}
use Rattle.wave_leaf.specs.PlainReading.{TakesMemory}
use Rattle.wave_tree.specs.Private.ParserState.{Stream}
use Rattle.wave_tree.specs.FromStr.{IsTypeRefused, IsCausedBetween}
use Rattle.wave_tree.proofs.ErrorSpans.Syntax.{back_lies, back_same, refused_lies, refused_kind}
use Rattle.wave_tree.proofs.TextReading.ValuesFromTokens.{IsAnswered, typed_answered, answered_value, answered_refused, answered_within, answered_caused}
use Rattle.wave_tree.proofs.tokens.Tokens.parse_typed.Goals as goal

pub returns-in-Ok-Ok-clause-value : goal.returns-in-Ok-Ok-clause-value
returns-in-Ok-Ok-clause-value g c =
    let tree = g.V.WasmValue.tree in
    let of = g.V.WasmValue.is_of in
    let full = g.V.WasmValue.is_full in
    let T = g.V.Type.WasmType.tree c.args.ty.now in
    let old = c.args.self.now.place in
    let built = typed_answered tree of full g.V.Type.WasmType.tree c.args.levels old c.parse_node.new.self.place c.in-Ok-Ok.field-0 c.new-builder.result.expected _ c.new-builder.ensures c.start_here-start.ensures.sound (c.in-Ok-Ok.ensures.led c.args.levels [] (omega arith)) c.in-Ok-Ok.ensures.tree in
    answered_value tree of full T c.args.levels old c.parse_node.new.self.place c.in-Ok-Ok.value (subst (IsAnswered tree of full T c.args.levels old c.parse_node.new.self.place) c.in-Ok-Ok.field-0-is built.0)

pub returns-in-Ok-Err : goal.returns-in-Ok-Err
returns-in-Ok-Err g c =
    let tree = g.V.WasmValue.tree in
    let of = g.V.WasmValue.is_of in
    let full = g.V.WasmValue.is_full in
    let T = g.V.Type.WasmType.tree c.args.ty.now in
    let old = c.args.self.now.place in
    let built = typed_answered tree of full g.V.Type.WasmType.tree c.args.levels old c.parse_node.new.self.place c.in-Ok-Err.field-0 c.new-builder.result.expected _ c.new-builder.ensures c.start_here-start.ensures.sound (c.in-Ok-Err.ensures.led c.args.levels [] (omega arith)) c.in-Ok-Err.ensures.tree in
    let reported = subst (λ (e : Diagnostic). IsAnswered tree of full T c.args.levels old c.parse_node.new.self.place (Err e)) (sym c.into_error.ensures) (subst (IsAnswered tree of full T c.args.levels old c.parse_node.new.self.place) c.in-Ok-Err.field-0-is built.0) in
    record {
      value = search rules;
      refused = λ apart.
          inr (back_same (λ e (q : Stream). IsTypeRefused full T c.args.levels e old q.place) c.into_error.result c.refuse.result c.parse_node.new.self c.refuse.new.self (c.refuse.ensures.other apart)
          (answered_refused tree of full T c.args.levels old c.parse_node.new.self.place c.into_error.result reported (λ m. apart (c.refuse.ensures.kind ∙ m))));
      within = back_lies _ old.lexer c.into_error.result c.refuse.result c.start_here-start.ensures.place c.refuse.ensures.within (λ apart. answered_within tree of full T c.args.levels old c.parse_node.new.self.place (Err c.into_error.result) reported);
      caused = λ was.
          let apart : c.refuse.result.kind ≢ because.OutOfMemory = λ m. cc in
          back_same (λ e (q : Stream). IsCausedBetween c.args.levels old q.place e) c.into_error.result c.refuse.result c.parse_node.new.self c.refuse.new.self (c.refuse.ensures.other apart)
          (answered_caused tree of full T c.args.levels old c.parse_node.new.self.place c.into_error.result reported) was;
      memory = search rules;
      spares = λ plain row none memory.
          subst (λ r. IfErr r (λ e. e.kind ≢ because.OutOfMemory)) c.in-Ok-Err.field-0-is (built.1 plain row) (ap (λ (e : Diagnostic). e.kind) (sym c.into_error.ensures) ∙ (sym c.refuse.ensures.kind ∙ memory));
      asks = search rules;
    }

pub returns-in-Err-clause-spares : goal.returns-in-Err-clause-spares
returns-in-Err-clause-spares g c = λ plain row none memory.
    let takes = c.in-Err.ensures.memory (ap (λ (e : Diagnostic). e.kind) (sym c.into_error-in-Err.ensures) ∙ (sym c.refuse-in-Err.ensures.kind ∙ memory)) none in
    subst (λ (o : Option (Bor g.row.V-Type.Denot)). TakesMemory (denoted g.V.Type.WasmType.tree o)) c.new-builder.ensures takes plain

pub returns-in-Err-clause-within : goal.returns-in-Err-clause-within
returns-in-Err-clause-within g c =
    let led = subst (λ (e : Diagnostic). FailsBySyntax e c.args.levels value [] c.args.self.now.place c.parse_node.new.self.place) (sym c.into_error-in-Err.ensures) (c.in-Err.ensures.led c.args.levels [] (omega arith)) in
    back_lies _ c.args.self.now.place.lexer c.into_error-in-Err.result c.refuse-in-Err.result c.start_here-start.ensures.place c.refuse-in-Err.ensures.within (λ apart.
    refused_lies c.into_error-in-Err.result c.args.levels value [] c.args.self.now.place c.parse_node.new.self.place (led apart) c.start_here-start.ensures.inside)

pub returns-in-Err-clause-caused : goal.returns-in-Err-clause-caused
returns-in-Err-clause-caused g c = λ was.
    let led = subst (λ (e : Diagnostic). FailsBySyntax e c.args.levels value [] c.args.self.now.place c.parse_node.new.self.place) (sym c.into_error-in-Err.ensures) (c.in-Err.ensures.led c.args.levels [] (omega arith)) in
    absurd (refused_kind c.into_error-in-Err.result c.args.levels value [] c.args.self.now.place c.parse_node.new.self.place (led (λ m. cc)) (sym c.refuse-in-Err.ensures.kind ∙ was))
