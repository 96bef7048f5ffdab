use Rattle.std.proofs.Common.{refl, sym, subst, Option, Bor}
use Rattle.wave_grammar.specs.NodeTree.{node}
use Rattle.wave_grammar.specs.declared.form.NodeType.TheVariants as kind
use Rattle.wave_wasm.specs.Borrowed.{denoted}
use Rattle.wave_grammar.specs.FlagParts.{flag_nodes}
use Rattle.wave_leaf.specs.Reading.{IsReadWhereExpected}
use Rattle.wave_leaf.proofs.LeafReading.PlainTypes.{no_row_spares, flags_no_row}
use Rattle.wave_read.proofs.PayloadReading.FlatValues.{none_flat_within}
use Rattle.wave_read.proofs.PayloadReading.Surrounding.{part_within}
use Rattle.wave_read.proofs.values.ValueBuilderBuilder.flags.Goals as goal

pub flags_at-built-requires : goal.flags_at-built-requires
flags_at-built-requires g c = none_flat_within g.V.Type.WasmType.tree (g.V.Type.WasmType.tree c.in-Some.expected.now) kind.Flags c.wrapper_and_type.result.0 c.wrapper_and_type.result.1 c.wrapper_and_type.ensures

pub wrapped-requires : goal.wrapped-requires
wrapped-requires g c =
    part_within g.V.Type.WasmType.tree g.V.WasmValue.is_of kind.Flags c.flags_at-built.result (g.V.Type.WasmType.tree c.in-Some.expected.now) c.wrapper_and_type.result.0 c.wrapper_and_type.result.1 c.wrapper_and_type.ensures
    c.flags_at-built.ensures.typed

pub returns : goal.returns
returns g c = λ o w source are.
    let n = node kind.Flags c.args.span (flag_nodes c.args.flags) in (
      subst (λ (d : Option (Bor g.row.V-Type.Denot)). IsReadWhereExpected g.V.WasmValue.tree g.V.WasmValue.is_of g.V.WasmValue.is_full o w (denoted g.V.Type.WasmType.tree d) source n c.wrapped.result) (sym c.in-Some.is)
          (c.wrapped.ensures o w (g.V.Type.WasmType.tree c.in-Some.expected.now) source n c.wrapper_and_type.ensures refl (c.flags_at-built.ensures.read o w source are)),
      no_row_spares (denoted g.V.Type.WasmType.tree c.args.self.expected) n c.wrapped.result flags_no_row,
    )
