use Rattle.wave_grammar.specs.FaultOrder.{in_text}
use Rattle.std.proofs.Common.{sym, ◌∙◌, ap, subst, Option, Some, Result}
use Rattle.wave_wasm.specs.Types.{TypeTree}
use Rattle.wave_lex.specs.Errors.{Diagnostic}
use Rattle.wave_grammar.specs.NodeTree.{node, node_trees}
use Rattle.wave_grammar.specs.declared.form.NodeType.TheVariants as node_type
use Rattle.wave_leaf.specs.Reading.{IsReadAs}
use Rattle.wave_read.specs.Payloads.{IsReadPayload}
use Rattle.wave_read.proofs.PayloadReading.Options.{some_typed, some_read, some_refused}
use Rattle.wave_read.proofs.options.SomePayload+V+Type+V.finish.Goals as goal

pub make_option_unchecked-requires : goal.make_option_unchecked-requires
make_option_unchecked-requires g c =
    let (w, T, source, children, parts) = c.requires in
    let P = g.V.Type.WasmType.tree c.args.self.expected.now in
    some_typed g.V.WasmValue.tree g.V.WasmValue.is_of g.V.WasmValue.is_full in_text w (g.V.Type.WasmType.tree c.args.self.ty.now) P source children c.in-Some-Ok.val (sym parts.ty ∙ parts.expected)
    (subst (λ (o : Option (Result g.row.V.Denot Diagnostic)). IsReadPayload g.V.WasmValue.tree g.V.WasmValue.is_of g.V.WasmValue.is_full w (Some P) source children o) (c.in-Some-Ok.is ∙ ap Some c.in-Some-Ok.field-0-is) parts.read)

pub returns-in-Some-Ok : goal.returns-in-Some-Ok
returns-in-Some-Ok g c = λ w T source children parts.
    let P = g.V.Type.WasmType.tree c.args.self.expected.now in
    subst (λ (U : TypeTree). IsReadAs g.V.WasmValue.tree g.V.WasmValue.is_of g.V.WasmValue.is_full in_text w U source (node node_type.OptionSome c.args.span (node_trees children)) c.or_error_at.result) (sym parts.ty)
    (some_read g.V.WasmValue.tree g.V.WasmValue.is_of g.V.WasmValue.is_full in_text w (g.V.Type.WasmType.tree c.args.self.ty.now) P source c.args.span children c.in-Some-Ok.val c.make_option_unchecked.result c.or_error_at.result (sym parts.ty ∙ parts.expected)
    (subst (λ (o : Option (Result g.row.V.Denot Diagnostic)). IsReadPayload g.V.WasmValue.tree g.V.WasmValue.is_of g.V.WasmValue.is_full w (Some P) source children o) (c.in-Some-Ok.is ∙ ap Some c.in-Some-Ok.field-0-is) parts.read) c.make_option_unchecked.ensures.built c.make_option_unchecked.ensures.full c.or_error_at.ensures)

pub returns-in-Some-Err : goal.returns-in-Some-Err
returns-in-Some-Err g c = λ w T source children parts.
    let P = g.V.Type.WasmType.tree c.args.self.expected.now in
    some_refused g.V.WasmValue.tree g.V.WasmValue.is_of g.V.WasmValue.is_full in_text w T P source c.args.span children c.in-Some-Err.error parts.expected g.met.V.WasmValue.full_parts
    (subst (λ (o : Option (Result g.row.V.Denot Diagnostic)). IsReadPayload g.V.WasmValue.tree g.V.WasmValue.is_of g.V.WasmValue.is_full w (Some P) source children o) (c.in-Some-Err.is ∙ ap Some c.in-Some-Err.field-0-is) parts.read)
