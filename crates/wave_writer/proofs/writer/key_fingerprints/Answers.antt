use Rattle.std.proofs.Common.{Bor}
use Rattle.wave_writer.specs.Private.Values.{IsLeaf}
use Rattle.wave_wasm.proofs.CanonicalText.Sequences.{all_at}
use Rattle.wave_writer.proofs.writer.key_fingerprints.Goals as goal

pub write_leaf-requires : goal.write_leaf-requires
write_leaf-requires g c =
    let P : Bor g.row.V.Denot × Bor g.row.V.Denot → Type 0 = λ e. IsLeaf (g.V.WasmValue.tree e.0.now) in
    all_at P c.deref-entry-items.result.now _ c.loop-entry.entry-index c.entry-item.result c.deref-entry-items.ensures.value c.loop-entry-test.true c.entry-item.is c.requires
