use Rattle.std.proofs.Common.{◌≡◌, ap, ◌∙◌, sym, rules}
use Rattle.std.specs.BTreeMap.{keys, values}
use Rattle.std.specs.Map.Iter.{deref}
use Rattle.std.proofs.lemmas.Map.Iter.{iter_end}
use Rattle.wave_wasm.specs.Borrowed.{texts}
use Rattle.wave_wasm.specs.Names.{found_in}
use Rattle.wave_wasm.specs.Types.{flags_names}
use Rattle.wave_wasm.proofs.Names.NameSets.{on_ok}
use Rattle.wave_read.specs.Private.NamedFlags.{flag_names}
use Rattle.wave_read.proofs.FlagReading.PlacedNames.{names_denoted, denoted_first, tells_unknown, none_there, stands_there, known_next, none_placed, placed_next, placed_in_order}
use Rattle.wave_read.proofs.flags.picked.Goals as goal

pub loop-name-init : goal.loop-name-init
loop-name-init g c = record {
  known = tt;
  placed = none_placed (flags_names (g.T.WasmType.tree c.args.ty.now)) c.new-placed.result.entries c.new-placed.ensures.empty;
}

pub returns-in-Ok-None-clause-refused : goal.returns-in-Ok-None-clause-refused
returns-in-Ok-None-clause-refused g c =
    let names = flags_names (g.T.WasmType.tree c.args.ty.now) in
    let split = denoted_first (keys c.args.flags.now) _ _ _ c.loop-name.yielded _ c.in-Some.name (c.into_iter-name-iterator.ensures.into_iter_gives ∙ c.keys-name-items.ensures.rest) c.loop-name.yielded_by c.in-Some.is c.next.ensures.steps in
    let none = none_there names c.in-Some.name.now.now (sym c.in-Ok-None.field-0-is ∙ c.in-Ok-None.ensures) in
    tells_unknown names (flag_names c.args.flags.now) (names_denoted c.loop-name.yielded) _ c.in-Some.name.now.now c.unknown.result split c.loop-name.invariant.known none c.unknown.ensures

pub loop-name-preserved : goal.loop-name-preserved
loop-name-preserved g c =
    let names = flags_names (g.T.WasmType.tree c.args.ty.now) in
    let stands = stands_there names c.in-Some.name.now.now c.in-Ok-Some.place (sym c.in-Ok-Some.field-0-is ∙ c.in-Ok-Some.ensures) in
    let put = on_ok c.insert.result c.insert.ensures.entries (rw c.if-is_err.false at c.is_err.ensures.negation) in
    record {
      known = known_next names c.loop-name.yielded c.in-Some.name c.in-Ok-Some.place stands c.loop-name.invariant.known;
      placed = placed_next names c.loop-name.yielded c.in-Some.name c.in-Ok-Some.place c.loop-name.placed.entries c.insert.new.self.entries stands put c.loop-name.invariant.placed;
    }

pub returns-in-Ok-clause-picked : goal.returns-in-Ok-clause-picked
returns-in-Ok-clause-picked g c = λ distinct.
    let names = flags_names (g.T.WasmType.tree c.args.ty.now) in
    let all = iter_end deref (keys c.args.flags.now) c.loop-name.yielded _ _ _ _ (c.into_iter-name-iterator.ensures.into_iter_gives ∙ c.keys-name-items.ensures.rest) c.loop-name.yielded_by c.in-None.is c.next.ensures.steps in
    let same : c.in-Ok.picked.items ≡ values c.loop-name.placed = search rules in
    ap texts same ∙ (placed_in_order names (names_denoted c.loop-name.yielded) c.loop-name.placed.entries c.loop-name.invariant.placed distinct ∙ ap (λ ks. found_in (texts ks) names) all.0)
