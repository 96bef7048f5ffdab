use Rattle.std.proofs.Common.{ℕ, ◌≡◌, List, [], ◌∷◌, map, refl, sym, ap, subst, ◌∙◌, Bor, arith}
use Rattle.json.specs.Token.{Token}
use Rattle.wave_wasm.specs.Borrowed.{denoted_pairs}
use Rattle.wave_wasm.specs.Values.{Value, depth, kind_of}
use Rattle.wave_wasm.specs.declared.wasm.WasmTypeKind.TheVariants as kinds
use Rattle.wave_wasm.proofs.CanonicalText.Sequences.{part_depth, all_at}
use Rattle.wave_wasm.proofs.CanonicalText.ValueParts.{list_sequence, tuple_sequence, record_is}
use Rattle.wave_writer.proofs.CanonicalText.Maps.{keys_are_leaves}
use Rattle.wave_json.specs.Private.Writers.{BeginsNamed, BeginsUnnamed, IsLeaf}
use Rattle.wave_json.proofs.Maps.{map_is_of, all_below}
use Rattle.wave_json.proofs.Values.{list_array, tuple_array, record_object}
use Rattle.wave_json.proofs.Writing.{puts_as, writing_none, writing_more}
use Rattle.wave_json.proofs.encode.+put.Goals as goal

-- ---- lists and tuples

pub put_items-put_value-requires : goal.put_items-put_value-requires
put_items-put_value-requires g t c κs within =
    let tree : Bor g.row.V.Denot → Value = λ v. g.V.WasmValue.tree v.now in
    let h = part_depth depth tree c.args.items.now c.args.items.now c.loop-item.item-index c.item-item.result refl c.loop-item-test.true c.item-item.is in
    (omega (arith, h), within)

pub put_list-put_items-requires : goal.put_list-put_items-requires
put_list-put_items-requires g t c κs within =
    let s = list_sequence _ _ c.requires c.in_ok-items.ensures in
    let d = s.depth_is in
    let e = c.deref.ensures.value in
    (rw e (omega (arith, d)), within)

pub put_list-returns : goal.put_list-returns
put_list-returns g t c =
    let tree : Bor g.row.V.Denot → Value = λ v. g.V.WasmValue.tree v.now in
    let s = list_array _ (map tree c.deref.result.now) c.requires (ap (map tree) c.deref.ensures.value ∙ c.in_ok-items.ensures) in
    puts_as s.tokens_are s.has_is c.put_items.ensures

pub put_tuple-put_items-requires : goal.put_tuple-put_items-requires
put_tuple-put_items-requires g t c κs within =
    let s = tuple_sequence _ _ c.requires c.in_ok-items.ensures in
    let d = s.depth_is in
    let e = c.deref.ensures.value in
    (rw e (omega (arith, d)), within)

pub put_tuple-returns : goal.put_tuple-returns
put_tuple-returns g t c =
    let tree : Bor g.row.V.Denot → Value = λ v. g.V.WasmValue.tree v.now in
    let s = tuple_array _ (map tree c.deref.result.now) c.requires (ap (map tree) c.deref.ensures.value ∙ c.in_ok-items.ensures) in
    puts_as s.tokens_are s.has_is c.put_items.ensures

-- ---- records

pub put_record-loop-field-init : goal.put_record-loop-field-init
put_record-loop-field-init g t c =
    let f : Bor (List ℕ) × Bor g.row.V.Denot → List ℕ × Value = λ x. (x.0.now, g.V.WasmValue.tree x.1.now) in
    let fields = map f c.deref-field-items.result.now in
    let e = ap (map f) c.deref-field-items.ensures.value ∙ c.in_ok-fields.ensures in
    record {
      writing = writing_more (Token.begin_object ∷ []) (writing_none _ (record_object _ fields c.requires e)) c.in_ok-put_token.ensures;
      has = sym (record_is _ fields c.requires e).writable_is;
    }

pub put_record-put_field-requires : goal.put_record-put_field-requires
put_record-put_field-requires g t c κs within =
    let f : Bor (List ℕ) × Bor g.row.V.Denot → List ℕ × Value = λ x. (x.0.now, g.V.WasmValue.tree x.1.now) in
    let s = record_is _ _ c.requires c.in_ok-fields.ensures in
    let d = s.depth_is in
    let h = part_depth (λ (x : List ℕ × Value). depth x.1) f c.deref-field-items.result.now _ c.loop-field.field-index c.field-item.result c.deref-field-items.ensures.value c.loop-field-test.true c.field-item.is in
    (omega (arith, h, d), within)

-- ---- maps

pub put_map-merge_entries-requires : goal.put_map-merge_entries-requires
put_map-merge_entries-requires g t c =
    let f : Bor g.row.V.Denot → Value = λ v. g.V.WasmValue.tree v.now in
    keys_are_leaves f _ _ c.in_ok-entries.ensures

pub put_map-put_members-requires : goal.put_map-put_members-requires
put_map-put_members-requires g t c κs within =
    let f : Bor g.row.V.Denot → Value = λ v. g.V.WasmValue.tree v.now in
    let here = c.deref-then-has_names.ensures.value in
    let s = map_is_of f _ c.in_ok-entries.entries.items c.requires.kind c.requires.formed c.in_ok-entries.ensures c.deref-then-has_names.result.now (here ∙ c.in_ok-merged.ensures.ok) in
    let first = subst (λ l. BeginsNamed (denoted_pairs g.V.WasmValue.tree l)) (c.deref.ensures.value ∙ sym here) (c.if-has_names.ensures) in
    let d = s.below in
    (omega (arith, d), (within.0, (within.1, s.strings first)))

pub put_map-returns-then-has_names : goal.put_map-returns-then-has_names
put_map-returns-then-has_names g t c =
    let f : Bor g.row.V.Denot → Value = λ v. g.V.WasmValue.tree v.now in
    let here = c.deref-then-has_names.ensures.value in
    let s = map_is_of f _ c.in_ok-entries.entries.items c.requires.kind c.requires.formed c.in_ok-entries.ensures c.deref-then-has_names.result.now (here ∙ c.in_ok-merged.ensures.ok) in
    let first = subst (λ l. BeginsNamed (denoted_pairs g.V.WasmValue.tree l)) (c.deref.ensures.value ∙ sym here) (c.if-has_names.ensures) in
    puts_as (s.named first) s.has_is c.put_members.ensures

pub put_map-put_pairs-requires : goal.put_map-put_pairs-requires
put_map-put_pairs-requires g t c κs within =
    let f : Bor g.row.V.Denot → Value = λ v. g.V.WasmValue.tree v.now in
    let here = c.deref-else-has_names.ensures.value in
    let s = map_is_of f _ c.in_ok-entries.entries.items c.requires.kind c.requires.formed c.in_ok-entries.ensures c.deref-else-has_names.result.now (here ∙ c.in_ok-merged.ensures.ok) in
    let d = s.below in
    (omega (arith, d), (within.0, (within.1, s.keys)))

pub put_map-returns : goal.put_map-returns
put_map-returns g t c =
    let f : Bor g.row.V.Denot → Value = λ v. g.V.WasmValue.tree v.now in
    let here = c.deref-else-has_names.ensures.value in
    let s = map_is_of f _ c.in_ok-entries.entries.items c.requires.kind c.requires.formed c.in_ok-entries.ensures c.deref-else-has_names.result.now (here ∙ c.in_ok-merged.ensures.ok) in
    let first = subst (λ l. BeginsUnnamed (denoted_pairs g.V.WasmValue.tree l)) (c.deref.ensures.value ∙ sym here) (c.if-has_names.ensures) in
    puts_as (s.unnamed first) s.has_is c.put_pairs.ensures

pub put_members-unwrap_string-requires : goal.put_members-unwrap_string-requires
put_members-unwrap_string-requires g t c =
    let f : Bor g.row.V.Denot × Bor g.row.V.Denot → Value × Value = λ e. (g.V.WasmValue.tree e.0.now, g.V.WasmValue.tree e.1.now) in
    all_at (λ e. kind_of (g.V.WasmValue.tree e.0.now) ≡ kinds.String) c.args.entries.now c.args.entries.now c.loop-entry.entry-index c.entry-item.result refl c.loop-entry-test.true c.entry-item.is (all_below (λ e. kind_of e.0 ≡ kinds.String) f c.args.entries.now c.requires)

pub put_members-put_value-requires : goal.put_members-put_value-requires
put_members-put_value-requires g t c κs within =
    let f : Bor g.row.V.Denot × Bor g.row.V.Denot → Value × Value = λ e. (g.V.WasmValue.tree e.0.now, g.V.WasmValue.tree e.1.now) in
    let h = part_depth (λ (x : Value × Value). depth x.1) f c.args.entries.now c.args.entries.now c.loop-entry.entry-index c.entry-item.result refl c.loop-entry-test.true c.entry-item.is in
    (omega (arith, h), within)

pub put_pairs-put_pair-requires : goal.put_pairs-put_pair-requires
put_pairs-put_pair-requires g t c κs within =
    let f : Bor g.row.V.Denot × Bor g.row.V.Denot → Value × Value = λ e. (g.V.WasmValue.tree e.0.now, g.V.WasmValue.tree e.1.now) in
    let h = part_depth (λ (x : Value × Value). depth x.1) f c.args.entries.now c.args.entries.now c.loop-entry.entry-index c.entry-item.result refl c.loop-entry-test.true c.entry-item.is in
    let one = all_at (λ e. IsLeaf (g.V.WasmValue.tree e.0.now)) c.args.entries.now c.args.entries.now c.loop-entry.entry-index c.entry-item.result refl c.loop-entry-test.true c.entry-item.is (all_below (λ e. IsLeaf e.0) f c.args.entries.now c.requires) in
    (omega (arith, h), (within.0, (within.1, one)))
