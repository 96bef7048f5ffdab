use Rattle.std.proofs.Common.{map, string_bytes, refl, ap, ◌++◌, ◌∙◌}
use Rattle.wave_wasm.specs.Text.{arguments_text}
use Rattle.wave_value.specs.TypedValue.{TypedValue}
use Rattle.wave_grammar.specs.SpannedTree.{slice}
use Rattle.wave.specs.declared.request.Request.TheVariants.{CallAt}
use Rattle.wave.specs.Answers.{Answers}
use Rattle.wave.proofs.Named.{handed_on, unshown}
use Rattle.wave.proofs.TypedCalls.{is_no_call_at, refused_at, answered_at}
use Rattle.wave.proofs.answer.call_at.Goals as goal

pub returns-in_err-untyped : goal.returns-in_err-untyped
returns-in_err-untyped c =
    let f = c.args.function.now in
    let s = c.args.text.now in
    let e = c.in_err-untyped.field-0.0 in
    handed_on (λ answer. Answers (CallAt f) s (string_bytes answer)) (CallAt f) s c.from_residual.result e c.from_residual.ensures.1 (is_no_call_at f s e c.in_err-untyped.ensures.refused)

pub returns-in_err-params : goal.returns-in_err-params
returns-in_err-params c =
    let f = c.args.function.now in
    let s = c.args.text.now in
    let e = c.in_err-params.field-0.0 in
    let u = c.in_ok-untyped.untyped in
    handed_on (λ answer. Answers (CallAt f) s (string_bytes answer)) (CallAt f) s c.from_residual-in_err-params.result e c.from_residual-in_err-params.ensures.1
    (refused_at f s u e c.requires c.in_ok-untyped.ensures.value c.in_err-params.ensures.refused)

pub returns-in_err-canonical_call : goal.returns-in_err-canonical_call
returns-in_err-canonical_call c =
    let f = c.args.function.now in
    let s = c.args.text.now in
    let u = c.in_ok-untyped.untyped in
    let vs = c.in_ok-params.params.items in
    let are = c.in_ok-params.ensures.values in
    unshown (λ answer. Answers (CallAt f) s (string_bytes answer)) (CallAt f) s c.from_residual-in_err-canonical_call.result _ c.from_residual-in_err-canonical_call.ensures.1
    (answered_at f s u vs _ c.requires c.in_ok-untyped.ensures.value are refl)

pub returns : goal.returns
returns c =
    let f = c.args.function.now in
    let s = c.args.text.now in
    let u = c.in_ok-untyped.untyped in
    let vs = c.in_ok-params.params.items in
    let are = c.in_ok-params.ensures.values in
    answered_at f s u vs (string_bytes c.in_ok-canonical_call.field-0) c.requires c.in_ok-untyped.ensures.value are
    (c.in_ok-canonical_call.ensures ∙ ap (λ name. name ++ arguments_text (map (λ (v : TypedValue). v.tree) vs)) (c.name.ensures ∙ ap (λ source. slice source u.name) c.in_ok-untyped.ensures.value.source))
