use Rattle.std.proofs.Common.{◌≡◌, inl, refl}
use Rattle.wave_wasm.specs.Types as type
use Rattle.wave_wasm.specs.Values.{bool}
use Rattle.wave_grammar.specs.ErrorSpans.{RefusesAt}
use Rattle.wave_grammar.proofs.ByKind.MakerAnswers.{faulty}
use Rattle.wave_grammar.proofs.Elaboration.ParamsInTurn.{error_handed}
use Rattle.wave_grammar.proofs.ByKind.Leaves.{said, bool_read, bool_fault}
use Rattle.wave_grammar.proofs.ErrorSpans.Nodes.{all_in, form_at}
use Rattle.wave_leaf.specs.Leaves.{leaf_node}
use Rattle.wave_leaf.proofs.ReadErrors.HandedOn.{leaf_built, built_at, leaf_anew, leaf_of, none_of}
use Rattle.wave_leaf.proofs.leaf.LeafToken.read_bool.Goals as goal

pub returns-in_err-val : goal.returns-in_err-val
returns-in_err-val g c = λ o w source token here. record {
  answer = λ t is distinct.
      faulty g.V.WasmValue.tree g.V.WasmValue.is_of g.V.WasmValue.is_full o w _ t _ c.in_err-val.field-0.0 c.from_residual.result refl c.from_residual.ensures.1 (bool_fault o w source (leaf_node c.args.self.now) t _ _ is.0 c.in_err-val.ensures.0 (said c.in_err-val.ensures.1));
  within = λ value.
      all_in source (leaf_node c.args.self.now) c.from_residual.result (inl value) (error_handed (RefusesAt (leaf_node c.args.self.now)) c.from_residual.result c.in_err-val.field-0.0 c.from_residual.ensures.1 (form_at (leaf_node c.args.self.now) c.in_err-val.field-0.0 c.in_err-val.ensures.1));
  typed = none_of g.V.WasmValue.is_of (type.simple type.bool) (λ e. e ≡ c.in_err-val.field-0.0) c.from_residual.result c.from_residual.ensures.1;
}

pub returns : goal.returns
returns g c = λ o w source token here. record {
  answer = λ t is distinct.
      leaf_built g.V.WasmValue.tree g.V.WasmValue.is_of g.V.WasmValue.is_full o w _ t (leaf_node c.args.self.now) (bool c.in_ok-val.val) c.make_bool.result c.or_error_here.result refl (bool_read source (leaf_node c.args.self.now) t c.in_ok-val.val is.0 c.in_ok-val.ensures) c.make_bool.ensures.built c.make_bool.ensures.full c.or_error_here.ensures;
  within = λ value. all_in source (leaf_node c.args.self.now) c.or_error_here.result (inl value) (built_at (leaf_node c.args.self.now) c.make_bool.result c.or_error_here.result c.or_error_here.ensures);
  typed = leaf_of g.V.WasmValue.tree g.V.WasmValue.is_of g.V.WasmValue.is_full (bool c.in_ok-val.val) (leaf_node c.args.self.now) c.or_error_here.result (leaf_anew g.V.WasmValue.tree g.V.WasmValue.is_of g.V.WasmValue.is_full (bool c.in_ok-val.val) (leaf_node c.args.self.now) c.make_bool.result c.or_error_here.result c.make_bool.ensures.built c.make_bool.ensures.full c.or_error_here.ensures);
}
