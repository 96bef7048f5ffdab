use Rattle.std.proofs.Common.{◌≡◌, [], map, refl, sym, ap, ◌∙◌, subst}
use Rattle.wave_read.specs.RecordParts.{AreKeptAs, part_of}
use Rattle.wave_read.proofs.RecordReading.Fields.{given_all, empty_field, empty_parts, none_kept}
use Rattle.wave_read.proofs.records.Fields+V+Type+V.new.Goals as goal

pub returns : goal.returns
returns g c = λ w source.
    let all : c.loop-name.yielded ≡ c.in_ok-types.types.items = given_all c.into_iter-name-iterator.result c.loop-name.yielded c.loop-name.name-iterator c.loop-name.yielded_by c.in-None.ensures.steps.0 ∙ c.into_iter-name-iterator.ensures.into_iter_gives.0 in
    let empty : c.loop-name.fields.items ≡ map empty_field c.in_ok-types.types.items = c.loop-name.invariant ∙ ap (map empty_field) all in
    record {
      type_is = refl;
      of_kind = sym c.requires;
      parts = ap (map (part_of g.V.Type.WasmType.tree)) empty ∙ (empty_parts g.row.V.Denot g.V.Type.WasmType.tree c.in_ok-types.types.items ∙ c.in_ok-types.ensures);
      begun = record {
        labels = tt;
        known = tt;
        expected = tt;
        distinct = λ apart. tt;
        kept = λ apart. subst (AreKeptAs g.V.Type.WasmType.tree g.V.WasmValue.tree g.V.WasmValue.is_of g.V.WasmValue.is_full w source []) (sym empty) (none_kept g.V.WasmValue.tree g.V.WasmValue.is_of g.V.WasmValue.is_full w g.V.Type.WasmType.tree source c.in_ok-types.types.items);
      };
    }
