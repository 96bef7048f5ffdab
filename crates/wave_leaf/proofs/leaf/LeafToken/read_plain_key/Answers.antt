use Rattle.std.proofs.Common.{◌≡◌, inr, refl, ap, ◌∙◌, sym, subst}
use Rattle.wave_wasm.specs.Types as type
use Rattle.wave_wasm.specs.Types.{TypeTree, kind_of}
use Rattle.wave_wasm.specs.Values as value
use Rattle.wave_wasm.proofs.TypesOfValues.TypeOfKind.{simple_is}
use Rattle.wave_grammar.specs.TypedReading.{AnswersKey}
use Rattle.wave_grammar.specs.ErrorSpans.{RefusesIn}
use Rattle.wave_grammar.proofs.Elaboration.ParamsInTurn.{error_handed}
use Rattle.wave_grammar.proofs.ByKind.Keys.{bool_key, no_bool_key, key_faulty}
use Rattle.wave_grammar.proofs.ByKind.Wholes.{whole_answers_key, whole_at}
use Rattle.wave_grammar.proofs.ByKind.TextKeys.{char_key, no_char_key}
use Rattle.wave_grammar.proofs.ErrorSpans.Nodes.{all_in, at_in, form_at, char_at}
use Rattle.wave_leaf.specs.Leaves.{leaf_node}
use Rattle.wave_grammar.specs.FaultOrder.{in_text}
use Rattle.wave_leaf.specs.Reading.{IsOfType}
use Rattle.wave_leaf.proofs.LeafReading.SimpleTypes.{whole_of}
use Rattle.wave_leaf.proofs.ReadErrors.HandedOn.{key_built, built_in, leaf_anew, leaf_of, none_of}
use Rattle.wave_leaf.proofs.leaf.LeafToken.read_plain_key.Goals as goal

pub returns-in_err-as_bool_key-in-Bool-clause-answer : goal.returns-in_err-as_bool_key-in-Bool-clause-answer
returns-in_err-as_bool_key-in-Bool-clause-answer g c = λ source here K p key is token.
    key_faulty g.V.WasmValue.tree g.V.WasmValue.is_of g.V.WasmValue.is_full (g.V.Type.WasmType.tree c.args.ty.now) K type.bool p key c.in_err-as_bool_key-in-Bool.field-0.0 c.from_residual.result is (simple_is type.bool (g.V.Type.WasmType.tree c.args.ty.now) (sym c.in-Bool.is ∙ c.kind-kind.ensures)) c.from_residual.ensures.1 (no_bool_key source (leaf_node c.args.self.now) p key c.in_err-as_bool_key-in-Bool.field-0.0 token (c.in_err-as_bool_key-in-Bool.ensures source here))

pub returns-in_ok-as_bool_key-in-Bool-clause-answer : goal.returns-in_ok-as_bool_key-in-Bool-clause-answer
returns-in_ok-as_bool_key-in-Bool-clause-answer g c = λ source here K p key is token.
    key_built g.V.WasmValue.tree g.V.WasmValue.is_of g.V.WasmValue.is_full (g.V.Type.WasmType.tree c.args.ty.now) K type.bool p key (leaf_node c.args.self.now) (value.bool c.in_ok-as_bool_key-in-Bool.field-0) c.make_bool.result c.or_error_here.result is (simple_is type.bool (g.V.Type.WasmType.tree c.args.ty.now) (sym c.in-Bool.is ∙ c.kind-kind.ensures)) refl (bool_key source (leaf_node c.args.self.now) p key c.in_ok-as_bool_key-in-Bool.field-0 token (c.in_ok-as_bool_key-in-Bool.ensures source here)) c.make_bool.ensures.built c.make_bool.ensures.full c.or_error_here.ensures

pub returns-in_default-clause-answer : goal.returns-in_default-clause-answer
returns-in_default-clause-answer g c = λ source here K p key is token.
    whole_answers_key g.V.WasmValue.tree g.V.WasmValue.is_of g.V.WasmValue.is_full K c.kind-kind.result source (leaf_node c.args.self.now) p key c.read_whole.result (c.kind-kind.ensures ∙ ap kind_of is) c.in_default.not-Bool c.in_default.not-Char c.in_default.not-String token (c.read_whole.ensures source here)

pub returns-in_err-as_char-in-Char-clause-answer : goal.returns-in_err-as_char-in-Char-clause-answer
returns-in_err-as_char-in-Char-clause-answer g c = λ source here K p key is token.
    key_faulty g.V.WasmValue.tree g.V.WasmValue.is_of g.V.WasmValue.is_full (g.V.Type.WasmType.tree c.args.ty.now) K type.char p key c.in_err-as_char-in-Char.field-0.0 c.from_residual-in_err-as_char-in-Char.result is (simple_is type.char (g.V.Type.WasmType.tree c.args.ty.now) (sym c.in-Char.is ∙ c.kind-kind.ensures)) c.from_residual-in_err-as_char-in-Char.ensures.1 (no_char_key source (leaf_node c.args.self.now) p key c.in_err-as_char-in-Char.field-0.0 token (c.in_err-as_char-in-Char.ensures.gives source here))

pub returns-in_ok-as_char-in-Char-clause-answer : goal.returns-in_ok-as_char-in-Char-clause-answer
returns-in_ok-as_char-in-Char-clause-answer g c = λ source here K p key is token.
    key_built g.V.WasmValue.tree g.V.WasmValue.is_of g.V.WasmValue.is_full (g.V.Type.WasmType.tree c.args.ty.now) K type.char p key (leaf_node c.args.self.now) (value.char c.in_ok-as_char-in-Char.field-0) c.make_char.result c.or_error_here-in-Char.result is (simple_is type.char (g.V.Type.WasmType.tree c.args.ty.now) (sym c.in-Char.is ∙ c.kind-kind.ensures)) refl (char_key source (leaf_node c.args.self.now) p key c.in_ok-as_char-in-Char.field-0 token (c.in_ok-as_char-in-Char.ensures.gives source here)) c.make_char.ensures.built c.make_char.ensures.full c.or_error_here-in-Char.ensures

pub returns-in-String-clause-answer : goal.returns-in-String-clause-answer
returns-in-String-clause-answer g c = λ source here.
    subst (λ (T : TypeTree). AnswersKey g.V.WasmValue.tree g.V.WasmValue.is_of g.V.WasmValue.is_full T source (leaf_node c.args.self.now) c.read_string_key.result) (sym (simple_is type.string (g.V.Type.WasmType.tree c.args.ty.now) (sym c.in-String.is ∙ c.kind-kind.ensures))) (c.read_string_key.ensures.answer source here)

pub returns-in_err-as_bool_key-in-Bool-clause-within : goal.returns-in_err-as_bool_key-in-Bool-clause-within
returns-in_err-as_bool_key-in-Bool-clause-within g c = λ source here key.
    error_handed (RefusesIn (leaf_node c.args.self.now)) c.from_residual.result c.in_err-as_bool_key-in-Bool.field-0.0 c.from_residual.ensures.1 (at_in source (leaf_node c.args.self.now) c.in_err-as_bool_key-in-Bool.field-0.0 (inr key) (form_at (leaf_node c.args.self.now) c.in_err-as_bool_key-in-Bool.field-0.0 (c.in_err-as_bool_key-in-Bool.ensures source here).1))

pub returns-in_err-as_char-in-Char-clause-within : goal.returns-in_err-as_char-in-Char-clause-within
returns-in_err-as_char-in-Char-clause-within g c = λ source here key.
    error_handed (RefusesIn (leaf_node c.args.self.now)) c.from_residual-in_err-as_char-in-Char.result c.in_err-as_char-in-Char.field-0.0 c.from_residual-in_err-as_char-in-Char.ensures.1 (at_in source (leaf_node c.args.self.now) c.in_err-as_char-in-Char.field-0.0 (inr key) (char_at source (leaf_node c.args.self.now) c.in_err-as_char-in-Char.field-0.0 (c.in_err-as_char-in-Char.ensures.gives source here)))

pub returns-in_ok-as_bool_key-in-Bool-clause-within : goal.returns-in_ok-as_bool_key-in-Bool-clause-within
returns-in_ok-as_bool_key-in-Bool-clause-within g c = λ source here key.
    built_in source (leaf_node c.args.self.now) c.make_bool.result c.or_error_here.result (inr key) c.or_error_here.ensures

pub returns-in_default-clause-within : goal.returns-in_default-clause-within
returns-in_default-clause-within g c = λ source here key.
    all_in source (leaf_node c.args.self.now) c.read_whole.result (inr key) (whole_at g.V.WasmValue.tree g.V.WasmValue.is_of g.V.WasmValue.is_full c.kind-kind.result source (leaf_node c.args.self.now) c.read_whole.result (c.read_whole.ensures source here))

pub returns-in_ok-as_char-in-Char-clause-within : goal.returns-in_ok-as_char-in-Char-clause-within
returns-in_ok-as_char-in-Char-clause-within g c = λ source here key.
    built_in source (leaf_node c.args.self.now) c.make_char.result c.or_error_here-in-Char.result (inr key) c.or_error_here-in-Char.ensures

pub returns-in_err-as_bool_key-in-Bool-clause-typed : goal.returns-in_err-as_bool_key-in-Bool-clause-typed
returns-in_err-as_bool_key-in-Bool-clause-typed g c = λ source here. none_of g.V.WasmValue.is_of (g.V.Type.WasmType.tree c.args.ty.now) (λ e. e ≡ c.in_err-as_bool_key-in-Bool.field-0.0) c.from_residual.result c.from_residual.ensures.1

pub returns-in_ok-as_bool_key-in-Bool-clause-typed : goal.returns-in_ok-as_bool_key-in-Bool-clause-typed
returns-in_ok-as_bool_key-in-Bool-clause-typed g c = λ source here.
    subst (λ (T : TypeTree). IsOfType g.V.WasmValue.is_of T c.or_error_here.result) (sym (simple_is type.bool (g.V.Type.WasmType.tree c.args.ty.now) (sym c.in-Bool.is ∙ c.kind-kind.ensures)))
    (leaf_of g.V.WasmValue.tree g.V.WasmValue.is_of g.V.WasmValue.is_full (value.bool c.in_ok-as_bool_key-in-Bool.field-0) (leaf_node c.args.self.now) c.or_error_here.result (leaf_anew g.V.WasmValue.tree g.V.WasmValue.is_of g.V.WasmValue.is_full (value.bool c.in_ok-as_bool_key-in-Bool.field-0) (leaf_node c.args.self.now) c.make_bool.result c.or_error_here.result c.make_bool.ensures.built c.make_bool.ensures.full c.or_error_here.ensures))

pub returns-in_default-clause-typed : goal.returns-in_default-clause-typed
returns-in_default-clause-typed g c = λ source here.
    whole_of g.V.WasmValue.tree g.V.WasmValue.is_of g.V.WasmValue.is_full in_text in_text (g.V.Type.WasmType.tree c.args.ty.now) c.kind-kind.result source (leaf_node c.args.self.now) c.read_whole.result c.kind-kind.ensures (c.read_whole.ensures source here)

pub returns-in_err-as_char-in-Char-clause-typed : goal.returns-in_err-as_char-in-Char-clause-typed
returns-in_err-as_char-in-Char-clause-typed g c = λ source here. none_of g.V.WasmValue.is_of (g.V.Type.WasmType.tree c.args.ty.now) (λ e. e ≡ c.in_err-as_char-in-Char.field-0.0) c.from_residual-in_err-as_char-in-Char.result c.from_residual-in_err-as_char-in-Char.ensures.1

pub returns-in_ok-as_char-in-Char-clause-typed : goal.returns-in_ok-as_char-in-Char-clause-typed
returns-in_ok-as_char-in-Char-clause-typed g c = λ source here.
    subst (λ (T : TypeTree). IsOfType g.V.WasmValue.is_of T c.or_error_here-in-Char.result) (sym (simple_is type.char (g.V.Type.WasmType.tree c.args.ty.now) (sym c.in-Char.is ∙ c.kind-kind.ensures)))
    (leaf_of g.V.WasmValue.tree g.V.WasmValue.is_of g.V.WasmValue.is_full (value.char c.in_ok-as_char-in-Char.field-0) (leaf_node c.args.self.now) c.or_error_here-in-Char.result (leaf_anew g.V.WasmValue.tree g.V.WasmValue.is_of g.V.WasmValue.is_full (value.char c.in_ok-as_char-in-Char.field-0) (leaf_node c.args.self.now) c.make_char.result c.or_error_here-in-Char.result c.make_char.ensures.built c.make_char.ensures.full c.or_error_here-in-Char.ensures))

pub returns-in-String-clause-typed : goal.returns-in-String-clause-typed
returns-in-String-clause-typed g c = λ source here.
    subst (λ (T : TypeTree). IsOfType g.V.WasmValue.is_of T c.read_string_key.result) (sym (simple_is type.string (g.V.Type.WasmType.tree c.args.ty.now) (sym c.in-String.is ∙ c.kind-kind.ensures))) c.read_string_key.ensures.typed
