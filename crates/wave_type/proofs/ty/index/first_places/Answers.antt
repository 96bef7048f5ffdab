use Rattle.std.proofs.Common.{arith, string_bytes, Some}
use Rattle.std.proofs.lemmas.Map.Text.{btree_map_updates_text}
use Rattle.std.specs.BTreeMap.{get_by_text}
use Rattle.wave_type.proofs.DistinctNames.FirstPlaces.{index_stays, index_more}
use Rattle.wave_type.proofs.ty.index.first_places.Goals as goal
use Rattle.wave_type.proofs.ty.index.first_places.Goals.{then-is_none+in_ok-from_str+in_ok-insert, else-is_none}

pub loop-i-preserved : goal.loop-i-preserved
loop-i-preserved g c =
    let xs = c.args.items.now.items in
    let name = c.name-name.result.now in
    elim c.if-is_none.branch [
      | then-is_none+in_ok-from_str+in_ok-insert w ↦
          let copy = w.in_ok-from_str.field-0 in
          rw w.places-is (index_more g.N.Named.name_of xs c.loop-i.i c.index.result.now name (omega (arith, c.args.items.now.ok.0)) c.index.ensures c.name-name.ensures
          (get_by_text c.loop-i.places) c.loop-i.invariant (get_by_text w.insert.new.self) (string_bytes copy) w.in_ok-from_str.ensures.ok (rw (← c.first_place.ensures) w.if-is_none.ensures)
          (btree_map_updates_text (string_bytes copy) c.loop-i.places w.insert.new.self (Some c.loop-i.i) w.in_ok-insert.ensures.updates))
      | else-is_none w ↦
          rw w.places-is (index_stays g.N.Named.name_of xs c.loop-i.i c.index.result.now name (omega (arith, c.args.items.now.ok.0)) c.index.ensures c.name-name.ensures
          (get_by_text c.loop-i.places) c.loop-i.invariant (rw (← c.first_place.ensures) w.if-is_none.ensures))
    ]
