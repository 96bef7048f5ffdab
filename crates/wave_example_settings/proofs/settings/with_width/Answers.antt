use Rattle.std.proofs.Common.{◌≡◌, ◌∙◌, refl}
use Rattle.std.proofs.lemmas.Iterator.Adapters.{YieldsList-from_vec}
use Rattle.std.proofs.lemmas.Iterator.Consumers.{YieldsList-end}
use Rattle.std.proofs.lemmas.Result.{IfOk-weaker, IfErr-weaker}
use Rattle.wave_wasm.specs.Borrowed.{named, denoted_fields}
use Rattle.wave_value.specs.ConstructorRules.{value_text}
use Rattle.wave_example_settings.proofs.Widths.{with_last, handed_in, changed, has_one, has_none}
use Rattle.wave_example_settings.proofs.settings.with_width.Goals as goal

-- the fields that are handed in
handed : (c : goal.After-drop-ty-2) → named c.push-2.new.self.items ≡ with_last (denoted_fields (λ v. v) c.in_ok-items.items.items) c.from.result
handed c =
    let from = c.into_iter-name-iterator.ensures.into_iter_gives in
    let end = YieldsList-end (YieldsList-from_vec {s = c.into_iter-name-iterator.result} c.in_ok-items.items.items from.0 (from.1 ∙ c.in_ok-items.items.ok.0)) c.loop-name.yielded c.loop-name.name-iterator c.loop-name.yielded_by _ c.next.new.self c.in-None.is c.next.ensures.steps in
    handed_in c.loop-name.yielded c.in_ok-items.items.items c.loop-name.fields.items c.push-2.new.self.items _ c.from.result c.loop-name.invariant end.0 c.in_ok-push-2.ensures.items refl

pub returns-clause-changed : goal.returns-clause-changed
returns-clause-changed c =
    IfOk-weaker c.make_record.result _ _ (λ v built. changed c.in_ok-ty.ty c.args.settings.now c.from.result c.args.width c.in_ok-items.items.items _ c.in_ok-ty.ensures.own c.in_ok-items.ensures.own (handed c) c.from.ensures v c.in_ok-ty.ensures.typed c.in_ok-items.ensures.trees built) c.make_record.ensures.built

pub returns-clause-taken : goal.returns-clause-taken
returns-clause-taken c =
    IfOk-weaker c.make_record.result _ _ (λ v taken. has_one c.in_ok-ty.ty c.args.settings.now c.from.result c.args.width c.in_ok-items.items.items _ c.in_ok-ty.ensures.own c.in_ok-items.ensures.own (handed c) c.from.ensures taken) c.make_record.ensures.taken

pub returns-clause-refused : goal.returns-clause-refused
returns-clause-refused c =
    IfErr-weaker c.make_record.result _ _ (λ e refused. has_none c.in_ok-ty.ty c.args.settings.now c.from.result c.args.width c.in_ok-items.items.items _ c.in_ok-ty.ensures.own c.in_ok-items.ensures.own (handed c) c.from.ensures value_text e refused) c.make_record.ensures.refused
