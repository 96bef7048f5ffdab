use Rattle.std.proofs.Common.{◌≡◌, ◌∙◌, ◌∷◌, [], string_bytes, inl, inr, sym, ap, subst}
use Rattle.wave_wasm.specs.Text.{results_text}
use Rattle.wave_wasm.specs.Values as value
use Rattle.wave_lex.specs.Errors.{LiesInText}
use Rattle.std.proofs.lemmas.Result.{IfOk-weaker}
use Rattle.wave_tree.specs.UntypedCall.{IsCalledOf, RefusesCall}
use Rattle.wave_example_flags.specs.OrderedFlags.{RefusesNames}
use Rattle.wave_wasm.specs.Names.{AreAllOf}
use Rattle.wave_example_settings.specs.Joins.{all_names, GivesFlags, RefusesFlags, IsAnswer, RefusesAnswer}
use Rattle.wave_example_settings.proofs.HandedOn.{value_of, error_of, mapped_ok, both, returned}
use Rattle.wave_example_settings.proofs.JoinCalls.{calls_join}
use Rattle.wave_example_settings.proofs.calls.answer.Goals as goal

pub returns-in_err-call-clause-refused : goal.returns-in_err-call-clause-refused
returns-in_err-call-clause-refused c =
    let Q = RefusesAnswer c.args.types.now c.args.joined_type.now c.args.text.now in
    let s = c.args.text.now in
    returned Q c.from_residual.result c.in_err-call.field-0.0 c.from_residual.ensures.1
    (error_of _ (λ e. RefusesCall s e × LiesInText s e.span) Q c.parse.result c.map_err.result c.in_err-call.field-0.0 c.map_err.ensures.cases (λ e g is p. subst Q (sym is) (p.1, inl p.0)) (both (RefusesCall s) (λ e. LiesInText s e.span) c.parse.result c.parse.ensures.refused c.parse.ensures.within) c.in_err-call.was)

pub returns-in_err-values-clause-refused : goal.returns-in_err-values-clause-refused
returns-in_err-values-clause-refused c =
    let Q = RefusesAnswer c.args.types.now c.args.joined_type.now c.args.text.now in
    let s = c.args.text.now in
    let call = c.in_ok-call.call in
    let is = value_of _ (IsCalledOf s) c.parse.result c.map_err.result call c.map_err.ensures.cases c.parse.ensures.value c.in_ok-call.was in
    let calls = calls_join s call c.name.result.now c.ne.result is c.name.ensures c.ne.ensures c.if-ne.false in
    returned Q c.from_residual-in_err-values.result c.in_err-values.field-0.0 c.from_residual-in_err-values.ensures.1
    (error_of _ (RefusesFlags c.args.types.now call) Q c.parameters.result c.map_err-2.result c.in_err-values.field-0.0 c.map_err-2.ensures.cases
    (λ e g same p. subst Q (sym same) (subst (λ source. LiesInText source e.span) is.source p.0, inr (call, calls, p))) c.parameters.ensures.refused c.in_err-values.was)

pub returns-in_err-joined-clause-refused : goal.returns-in_err-joined-clause-refused
returns-in_err-joined-clause-refused c =
    let types = c.args.types.now in
    let joined = c.args.joined_type.now in
    let Q = RefusesAnswer types joined c.args.text.now in
    let s = c.args.text.now in
    let call = c.in_ok-call.call in
    let is = value_of _ (IsCalledOf s) c.parse.result c.map_err.result call c.map_err.ensures.cases c.parse.ensures.value c.in_ok-call.was in
    let calls = calls_join s call c.name.result.now c.ne.result is c.name.ensures c.ne.ensures c.if-ne.false in
    let given = value_of _ (λ values. GivesFlags types call values.items) c.parameters.result c.map_err-2.result c.in_ok-values.values c.map_err-2.ensures.cases c.parameters.ensures.given c.in_ok-values.was in
    returned Q c.from_residual-in_err-joined.result c.in_err-joined.field-0.0 c.from_residual-in_err-joined.ensures.1
    (error_of _ (RefusesNames joined (all_names c.as_slice.result.now)) Q c.join.result c.map_err-3.result c.in_err-joined.field-0.0 c.map_err-3.ensures.cases
    (λ e g same p. subst Q (sym same) (call, c.as_slice.result.now, calls, subst (GivesFlags types call) (sym c.as_slice.ensures.value) given, p)) c.join.ensures.refused c.in_err-joined.was)

pub returns-clause-answered : goal.returns-clause-answered
returns-clause-answered c =
    let types = c.args.types.now in
    let s = c.args.text.now in
    let call = c.in_ok-call.call in
    let values = c.as_slice.result.now in
    let is = value_of _ (IsCalledOf s) c.parse.result c.map_err.result call c.map_err.ensures.cases c.parse.ensures.value c.in_ok-call.was in
    let given = value_of _ (λ values. GivesFlags types call values.items) c.parameters.result c.map_err-2.result c.in_ok-values.values c.map_err-2.ensures.cases c.parameters.ensures.given c.in_ok-values.was in
    let joined = value_of _ (λ names. names ≡ all_names values) c.join.result c.map_err-3.result c.in_ok-joined.joined c.map_err-3.ensures.cases c.join.ensures.joined c.in_ok-joined.was in
    let taken = value_of _ (AreAllOf c.args.joined_type.now) c.join.result c.map_err-3.result c.in_ok-joined.joined c.map_err-3.ensures.cases c.join.ensures.taken c.in_ok-joined.was in
    mapped_ok _ (λ said. IsAnswer types c.args.joined_type.now s (string_bytes said)) c.results_text.result c.map_err-4.result c.map_err-4.ensures.cases
    (IfOk-weaker c.results_text.result _ _ (λ text is_text. record {
      call = call;
      calls = calls_join s call c.name.result.now c.ne.result is c.name.ensures c.ne.ensures c.if-ne.false;
      values = values;
      given = subst (GivesFlags types call) (sym c.as_slice.ensures.value) given;
      taken = subst (AreAllOf c.args.joined_type.now) joined taken;
      shown = is_text ∙ ap (λ names. results_text (value.flags names ∷ [])) joined;
    }) c.results_text.ensures)
