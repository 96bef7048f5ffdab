use Rattle.std.proofs.Common.{ℕ, ◌+◌, ◌*◌, take, List}
use Rattle.wave_wasm.specs.Borrowed.{denoted, denoted_fields}
use Rattle.wave_grammar.specs.SpannedTree.{PlacedEntry}
use Rattle.wave_grammar.specs.FaultOrder.{by_type}
use Rattle.wave_grammar.specs.TypedGrammar.{names_of}
use Rattle.wave_grammar.specs.NodeTree.{NodeTree, type_of, children_of, depth}
use Rattle.wave_grammar.specs.NodeAccessors.{denoted_node}
use Rattle.wave_grammar.specs.NodeFields.{HoldsFields}
use Rattle.wave_grammar.proofs.Fields.Entries.{AreFieldsOf}
use Rattle.wave_grammar.proofs.Fields.Reading.{PartsDistinct, FieldsRead}
use Rattle.wave_read.specs.KeptParts.{AreKeptWhereExpected}
use Rattle.wave_node.proofs.NodeReading.Records.{Removed, depth_of_maybe}
use Rattle.wave_node.proofs.ast.Node.+making.Given as goal

abbrev pub decreases-read : goal.decreases-read
decreases-read g l = 5 * depth l.self.now + 3

abbrev pub decreases-make : goal.decreases-make
decreases-make g l = 5 * depth l.self.now + 2

abbrev pub decreases-make_of_parts : goal.decreases-make_of_parts
decreases-make_of_parts g l = 5 * depth l.self.now + 1

abbrev pub decreases-read_record : goal.decreases-read_record
decreases-read_record g l = 5 * depth l.self.now + 1

abbrev pub decreases-read_field : goal.decreases-read_field
decreases-read_field g l = depth_of_maybe (denoted_node l.node)

abbrev pub invariant-make_of_parts-loop-i : goal.invariant-make_of_parts-loop-i
invariant-make_of_parts-loop-i g l =
    AreKeptWhereExpected g.V.Type.WasmType.tree g.V.WasmValue.tree g.V.WasmValue.is_of g.V.WasmValue.is_full by_type (denoted g.V.Type.WasmType.tree l.builder.expected) l.src (type_of l.self) (take l.i (children_of l.self)) l.parts

abbrev pub invariant-read_record-loop-i : goal.invariant-read_record-loop-i
invariant-read_record-loop-i g l = record {
  removed : Removed (names_of (take l.i (denoted_fields g.V.Type.WasmType.tree l.types.items))) l.initial.nodes l.nodes;
  read : (given : List (List ℕ × NodeTree)) → HoldsFields l.initial.nodes given → (es : List PlacedEntry) → AreFieldsOf l.src given es → PartsDistinct (denoted_fields g.V.Type.WasmType.tree l.types.items)
      → FieldsRead g.V.WasmValue.tree g.V.WasmValue.is_of g.V.WasmValue.is_full (take l.i (denoted_fields g.V.Type.WasmType.tree l.types.items)) es l.fields.items;
}
