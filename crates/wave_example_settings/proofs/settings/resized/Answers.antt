use Rattle.std.proofs.Common.{◌∙◌, sym, subst}
use Rattle.std.proofs.lemmas.Bool.{false≢true}
use Rattle.wave_wasm.specs.Types.{HasDistinctNames}
use Rattle.wave_value.specs.TypedValue.{IsAt}
use Rattle.wave_example_settings.specs.Settings.{MeansSettings, RefusesSettings, RefusesWidth, RefusesResizing}
use Rattle.wave_example_settings.proofs.HandedOn.{value_of, error_of, returned}
use Rattle.wave_example_settings.proofs.settings.resized.Goals as goal

pub returns-in_err-found-clause-refused : goal.returns-in_err-found-clause-refused
returns-in_err-found-clause-refused c =
    let T = c.args.ty.now in
    let s = c.args.source.now in
    returned (RefusesResizing T s) c.from_residual.result c.in_err-found.field-0.0 c.from_residual.ensures.1
    (error_of _ (RefusesSettings T s) (RefusesResizing T s) c.read.result c.map_err.result c.in_err-found.field-0.0 c.map_err.ensures.cases (λ e g is p. subst (RefusesResizing T s) (sym is) p) c.read.ensures.refused c.in_err-found.was)

pub returns-then-ne-clause-refused : goal.returns-then-ne-clause-refused
returns-then-ne-clause-refused c =
    let T = c.args.ty.now in
    let s = c.args.source.now in (
      c.in_ok-found.found.tree,
      value_of _ (λ v. MeansSettings T s v.tree) c.read.result c.map_err.result c.in_ok-found.found c.map_err.ensures.cases c.read.ensures.read c.in_ok-found.was,
      λ is. false≢true (sym (rw (c.kind.ensures, is) at c.ne.ensures) ∙ c.if-ne.true),
    )

pub returns-in_err-settings-clause-refused : goal.returns-in_err-settings-clause-refused
returns-in_err-settings-clause-refused c =
    let T = c.args.ty.now in
    let s = c.args.source.now in
    let found = c.in_ok-found.found in
    let at = value_of _ (λ v. HasDistinctNames T → IsAt T v) c.read.result c.map_err.result found c.map_err.ensures.cases c.read.ensures.of_type c.in_ok-found.was in
    returned (RefusesResizing T s) c.from_residual-in_err-settings.result c.in_err-settings.field-0.0 c.from_residual-in_err-settings.ensures.1
    (error_of _ (RefusesWidth found.own) (RefusesResizing T s) c.with_width.result c.map_err-2.result c.in_err-settings.field-0.0 c.map_err-2.ensures.cases
    (λ e g is p. subst (RefusesResizing T s) (sym is) (λ distinct. subst (λ U. RefusesWidth U e) (at distinct).own p)) c.with_width.ensures.refused c.in_err-settings.was)
