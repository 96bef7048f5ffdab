use Rattle.std.proofs.Common.{sym}
use Rattle.wave_wasm.specs.Values.{string}
use Rattle.wave_leaf.specs.Leaves.{leaf_node}
use Rattle.wave_leaf.proofs.ReadErrors.HandedOn.{leaf_anew}
use Rattle.wave_leaf.proofs.leaf.LeafToken.built_string.Goals as goal

pub returns-in-Borrowed : goal.returns-in-Borrowed
returns-in-Borrowed g c = rw c.in-Borrowed.is (leaf_anew g.V.WasmValue.tree g.V.WasmValue.is_of g.V.WasmValue.is_full (string c.in-Borrowed.text.now) (leaf_node c.args.self.now) c.make_string.result c.or_error_here.result c.make_string.ensures.built c.make_string.ensures.full c.or_error_here.ensures)

pub returns-in-Owned : goal.returns-in-Owned
returns-in-Owned g c = rw (c.in-Owned.is, sym c.as_str.ensures.value) (leaf_anew g.V.WasmValue.tree g.V.WasmValue.is_of g.V.WasmValue.is_full (string c.as_str.result.now) (leaf_node c.args.self.now) c.make_string-in-Owned.result c.or_error_here-in-Owned.result c.make_string-in-Owned.ensures.built c.make_string-in-Owned.ensures.full c.or_error_here-in-Owned.ensures)
