use Rattle.std.proofs.Common.{String, Option, ◌∙◌, sym, refl}
use Rattle.std.specs.declared.alloc.Global.{Global}
use Rattle.std.proofs.lemmas.Iterator.Adapters.{YieldsList-from_vec}
use Rattle.std.proofs.lemmas.Iterator.Consumers.{YieldsList-end}
use Rattle.wave_wasm.specs.Types.{TypeTree}
use Rattle.wave_type.proofs.DistinctNames.WithinTypes.{all_pushed, tested_pushed, both_tell, CasePasses, variant_names}
use Rattle.wave_type.proofs.TypeTrees.RepresentableParts.{IsRepresentablePayload, names_pushed, variant_representable, not_empty}
use Rattle.wave_type.proofs.ty.Type.variant.Goals as goal

pub loop-name-preserved : goal.loop-name-preserved
loop-name-preserved c =
    let owned = c.loop-name.owned.items in
    let part : String Global × Option TypeTree = (c.in_ok-name.name, c.in-Some.payload) in
    (names_pushed owned c.push.new.self.items c.loop-name.yielded c.in_ok-name.name c.in-Some.name c.in-Some.payload c.loop-name.invariant.0 c.in_ok-name.ensures.ok c.in_ok-push.ensures.items, all_pushed (λ c. IsRepresentablePayload c.1) owned c.push.new.self.items part c.in_ok-push.ensures.items c.loop-name.invariant.1 c.payload_is_distinct.ensures.representable, tested_pushed CasePasses owned c.push.new.self.items part c.loop-name.distinct c.payload_is_distinct.result _ c.in_ok-push.ensures.items refl c.loop-name.invariant.2 c.payload_is_distinct.ensures.distinct)

pub invariant_of-result : goal.invariant_of-result
invariant_of-result c =
    let from = c.into_iter-name-iterator.ensures.into_iter_gives in
    let count = c.args.cases.ok.0 in
    let end = YieldsList-end (YieldsList-from_vec {s = c.into_iter-name-iterator.result} c.args.cases.items from.0 (from.1 ∙ count)) c.loop-name.yielded c.loop-name.name-iterator c.loop-name.yielded_by _ c.next.new.self c.in-None.is c.next.ensures.steps in
    let some = not_empty _ _ _ c.is_empty.ensures c.if-is_empty.false (count ∙ sym end.1) in
    record { key = tt; places = rw c.in_ok-new.ensures.ok c.in_ok-places.ensures; distinct = rw c.in_ok-new.ensures.ok (both_tell _ _ _ refl c.are_distinct.ensures c.loop-name.invariant.2 (variant_names c.loop-name.owned.items)); representable = rw c.in_ok-new.ensures.ok (variant_representable c.loop-name.owned.items c.loop-name.yielded c.loop-name.invariant.0 some c.loop-name.invariant.1) }
