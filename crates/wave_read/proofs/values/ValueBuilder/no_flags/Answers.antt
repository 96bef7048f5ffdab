use Rattle.std.proofs.Common.{◌≡◌, ◌⊎◌, [], Option, Bor, refl, sym, subst}
use Rattle.wave_grammar.specs.FaultOrder.{in_text}
use Rattle.wave_grammar.specs.NodeTree.{node, no_nodes}
use Rattle.wave_wasm.specs.Borrowed.{denoted}
use Rattle.wave_grammar.specs.declared.form.NodeType.{NodeType}
use Rattle.wave_grammar.specs.declared.form.NodeType.TheVariants as kind
use Rattle.wave_leaf.specs.Reading.{IsReadWhereExpected}
use Rattle.wave_leaf.proofs.LeafReading.PlainTypes.{no_row_spares, flags_no_row}
use Rattle.wave_read.specs.Flat.{IsWrapper}
use Rattle.wave_read.proofs.PayloadReading.Surrounding.{part_within}
use Rattle.wave_read.proofs.values.ValueBuilder.no_flags.Goals as goal

pub wrapped-requires : goal.wrapped-requires
wrapped-requires g c =
    part_within g.V.Type.WasmType.tree g.V.WasmValue.is_of kind.Flags c.refuse_flags-built.result (g.V.Type.WasmType.tree c.in-Some.expected.now) c.wrapper_and_type.result.0 c.wrapper_and_type.result.1 c.wrapper_and_type.ensures
    (c.refuse_flags-built.ensures in_text in_text [] (node kind.Flags c.args.span no_nodes) refl refl).typed

pub returns-clause-read : goal.returns-clause-read
returns-clause-read g c = λ o w source n ty place. (
  subst (λ (d : Option (Bor g.row.V-Type.Denot)). IsReadWhereExpected g.V.WasmValue.tree g.V.WasmValue.is_of g.V.WasmValue.is_full o w (denoted g.V.Type.WasmType.tree d) source n c.wrapped.result) (sym c.in-Some.is)
      (c.wrapped.ensures o w (g.V.Type.WasmType.tree c.in-Some.expected.now) source n (subst (λ (of : NodeType). IsWrapper g.V.Type.WasmType.tree (g.V.Type.WasmType.tree c.in-Some.expected.now) of c.wrapper_and_type.result.0 c.wrapper_and_type.result.1) (sym ty) c.wrapper_and_type.ensures) place
      (c.refuse_flags-built.ensures o w source n ty place)),
  no_row_spares (denoted g.V.Type.WasmType.tree c.args.self.expected) n c.wrapped.result (λ row. flags_no_row (subst (λ (of : NodeType). (of ≡ kind.Tuple) ⊎ (of ≡ kind.List)) ty row)),
)
