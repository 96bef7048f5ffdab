use Rattle.std.proofs.Common.{◌≡◌, ℕ, List, Bor, sym, ap, subst, ◌∙◌, Ok}
use Rattle.std.specs.Option.{option_map}
use Rattle.std.proofs.lemmas.Result.{err_from_is_err_and}
use Rattle.json.specs.Value.{value_view, items_view}
use Rattle.wave_wasm.specs.Borrowed.{texts}
use Rattle.wave_wasm.specs.Types.{flags_names}
use Rattle.wave_wasm.specs.Names.{found_in}
use Rattle.wave_wasm.specs.declared.wasm.WasmTypeKind.TheVariants as type_kinds
use Rattle.wave_wasm.proofs.TypesOfValues.TypeOfKind.{formed_as}
use Rattle.wave_json.specs.declared.error.JsonErrorKind.TheVariants as kinds
use Rattle.wave_json.specs.Private.Readers.{Fails}
use Rattle.wave_json.specs.Reading.{item_step, each_at, first_repeated, name_at}
use Rattle.wave_json.proofs.Flags.{flags_stopped, flags_repeated, flags_read}
use Rattle.wave_json.proofs.Stops.{at_fails}
use Rattle.wave_json.proofs.decode.read_flags.Goals as goal

abbrev found : ℕ × Bor (List ℕ) → ℕ × List ℕ
found p = (p.0, p.1.now)

pub returns-in_err-given : goal.returns-in_err-given
returns-in_err-given g c =
    let p = err_from_is_err_and c.from_residual-in_err-given.result c.from_residual-in_err-given.ensures.1 in
    let is = formed_as type_kinds.Flags (g.V.Type.WasmType.tree c.args.ty.now) (sym c.requires) in
    let same = ap texts c.deref.ensures.value ∙ (c.in_ok-names.ensures ∙ ap flags_names is.1) in
    let js = items_view c.in-Some.items.now in
    rw (p.1, p.2) (flags_stopped g.V.WasmValue.tree g.V.WasmValue.is_of g.V.WasmValue.is_full (g.V.Type.WasmType.tree c.args.ty.now) is.0 (value_view c.args.json.now) js c.in_err-given.field-0.0 is.1 c.in-Some.ensures
    (subst (λ (names : List (List ℕ)). Fails (Unit {0}) c.in_err-given.field-0.0 (each_at (name_at names) 0 js)) same c.in_err-given.ensures))

pub returns-in-Some-2 : goal.returns-in-Some-2
returns-in-Some-2 g c = λ distinct.
    let T = g.V.Type.WasmType.tree c.args.ty.now in
    let is = formed_as type_kinds.Flags T (sym c.requires) in
    let same = ap texts c.deref.ensures.value ∙ (c.in_ok-names.ensures ∙ ap flags_names is.1) in
    let js = items_view c.in-Some.items.now in
    let given = texts c.in_ok-given.given.items in
    let reads = subst (λ (names : List (List ℕ)). each_at (name_at names) 0 js ≡ Ok given) same c.in_ok-given.ensures in
    let one = c.in-Some-2 in
    let some = ap (option_map found) (sym one.is) ∙ (c.in_ok-place.ensures ∙ ap (λ (l : List (Bor (List ℕ))). first_repeated (texts l)) c.deref-2.ensures.value) in
    at_fails (g.V.WasmValue.is_full T) (item_step one.place) kinds.Repeated c.at.result _ c.at.ensures (flags_repeated T is.0 (value_view c.args.json.now) js given (one.place, one.field-0-1.now) is.1 c.in-Some.ensures reads some)

pub returns : goal.returns
returns g c =
    let T = g.V.Type.WasmType.tree c.args.ty.now in
    let is = formed_as type_kinds.Flags T (sym c.requires) in
    let named = c.in_ok-names.ensures ∙ ap flags_names is.1 in
    let same = ap texts c.deref.ensures.value ∙ named in
    let js = items_view c.in-Some.items.now in
    let given = texts c.in_ok-given.given.items in
    let reads = subst (λ (names : List (List ℕ)). each_at (name_at names) 0 js ≡ Ok given) same c.in_ok-given.ensures in
    let none = ap (option_map found) (sym c.in_default-2.is) ∙ (c.in_ok-place.ensures ∙ ap (λ (l : List (Bor (List ℕ))). first_repeated (texts l)) c.deref-2.ensures.value) in
    let picked = ap texts c.deref-5.ensures.value ∙ (c.in_ok-picked.ensures ∙ (ap (λ (l : List (Bor (List ℕ))). found_in (texts l) (texts c.deref-3.result.now)) c.deref-4.ensures.value ∙ ap (found_in given) (ap texts c.deref-3.ensures.value ∙ named))) in
    flags_read g.V.WasmValue.tree g.V.WasmValue.is_of g.V.WasmValue.is_full T is.0 (value_view c.args.json.now) js given c.deref-5.result.now c.make_flags.result c.built.result is.1 c.in-Some.ensures reads none picked c.built.ensures c.make_flags.ensures.built c.make_flags.ensures.full
