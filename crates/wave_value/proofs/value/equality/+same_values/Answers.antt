use Rattle.std.proofs.Common.{arith, ap, sym, ◌∙◌}
use Rattle.wave_wasm.specs.Values.{depth}
use Rattle.wave_type.specs.TypeEqualityLaws.{one_tree}
use Rattle.wave_type.proofs.TypeTrees.Equality.{unequal}
use Rattle.wave_value.specs.TypedValue.{TypedValue}
use Rattle.wave_value.proofs.ValueModel.Depths.{content_deep, value_below, pair_below}
use Rattle.wave_value.proofs.ValueModel.ContentEquality.{typed_same, all_lens, pairs_lens}
use Rattle.wave_value.proofs.value.equality.+same_values.Goals as goal

pub ValuePartialEq::eq-same_content-requires : goal.ValuePartialEq::eq-same_content-requires
ValuePartialEq::eq-same_content-requires t c =
    (omega (arith, content_deep c.self.inside.own c.self.inside.content c.self.invariant, ap (λ (v : TypedValue). depth v.tree) c.self.view_is), tt)

pub ValuePartialEq::eq-returns-then-eq : goal.ValuePartialEq::eq-returns-then-eq
ValuePartialEq::eq-returns-then-eq t c =
    let one = one_tree c.self.inside.own c.other.inside.own (sym c.eq.ensures ∙ c.if-eq.true) in
    rw (← c.self.view_is) (rw (← c.other.view_is) (typed_same c.self.inside.own c.other.inside.own c.self.inside.content c.other.inside.content _ _ c.eq.ensures c.if-eq.true one c.self.invariant c.other.invariant c.same_content.ensures))

pub same_values-returns-then-len : goal.same_values-returns-then-len
same_values-returns-then-len t c = all_lens c.args.a.now.items c.args.b.now.items (unequal _ _ (c.len.ensures ∙ c.args.a.now.ok.0) (c.len-2.ensures ∙ c.args.b.now.ok.0) c.if-len.true)

pub same_entries-returns-then-len : goal.same_entries-returns-then-len
same_entries-returns-then-len t c = pairs_lens c.args.a.now.items c.args.b.now.items (unequal _ _ (c.len.ensures ∙ c.args.a.now.ok.0) (c.len-2.ensures ∙ c.args.b.now.ok.0) c.if-len.true)

pub same_values-eq-same-requires : goal.same_values-eq-same-requires
same_values-eq-same-requires t c =
    (omega (arith, value_below c.args.a.now.items c.loop-i.i c.index.result.now (omega (arith, c.args.a.now.ok.0)) c.index.ensures), tt)

pub same_entries-eq-same_key-requires : goal.same_entries-eq-same_key-requires
same_entries-eq-same_key-requires t c =
    (omega (arith, pair_below c.args.a.now.items c.loop-i.i c.index-left.result.now (omega (arith, c.args.a.now.ok.0)) c.index-left.ensures), tt)

pub same_entries-eq-same-requires : goal.same_entries-eq-same-requires
same_entries-eq-same-requires t c =
    (omega (arith, pair_below c.args.a.now.items c.loop-i.i c.index-left.result.now (omega (arith, c.args.a.now.ok.0)) c.index-left.ensures), tt)
