use Rattle.std.proofs.Common.{◌∙◌, ap, refl, subst, sym}
use Rattle.wave_wasm.specs.Borrowed.{denoted}
use Rattle.wave_wasm.specs.Types.{TypeTree}
use Rattle.wave_grammar.specs.declared.form.NodeType.{NodeType}
use Rattle.wave_grammar.specs.declared.form.NodeType.TheVariants as node_type
use Rattle.wave_grammar.proofs.ChildNodes.Inside.{some_is}
use Rattle.wave_read.specs.Flat.{IsWrapper, IsReadAt}
use Rattle.wave_read.proofs.PartByPart.NodeTypes.{no_record}
use Rattle.wave_read.proofs.values.ValueBuilder.record.Goals as goal

pub returns-in_default : goal.returns-in_default
returns-in_default g c =
    let found = c.wrapper_and_type.result in
    record {
      node = tt;
      wrapper = tt;
      kind = tt;
      none = λ T expected U read is.
          let same = some_is (g.V.Type.WasmType.tree c.in_ok-self.field-0.now) T (sym (ap (denoted g.V.Type.WasmType.tree) c.in_ok-self.was) ∙ expected) in
          no_record g.V.Type.WasmType.tree T node_type.TupleSet found.0 found.1 (subst (λ (W : TypeTree). IsWrapper g.V.Type.WasmType.tree W node_type.TupleSet found.0 found.1) same c.wrapper_and_type.ensures)
          (λ kind. c.in_default.not-Record (c.kind.ensures ∙ kind)) U (subst (λ (k : NodeType). IsReadAt T k U) is read) refl;
    }
