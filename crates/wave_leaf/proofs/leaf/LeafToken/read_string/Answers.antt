use Rattle.std.proofs.Common.{inl, refl}
use Rattle.std.specs.Cow.{cow_str_bytes}
use Rattle.wave_wasm.specs.Values.{string}
use Rattle.wave_grammar.proofs.ByKind.MakerAnswers.{leaf_built}
use Rattle.wave_grammar.proofs.ByKind.TextLeaves.{string_read}
use Rattle.wave_grammar.proofs.ErrorSpans.Nodes.{all_in, leaf_at}
use Rattle.wave_leaf.specs.Leaves.{leaf_node}
use Rattle.wave_leaf.proofs.ReadErrors.HandedOn.{same_or_memory, leaf_of}
use Rattle.wave_leaf.proofs.LeafReading.BetweenQuotes.{leaf_quoted}
use Rattle.wave_leaf.proofs.LeafReading.Strings.{reported_blame, reported_string_in, given_one}
use Rattle.wave_leaf.proofs.leaf.LeafToken.read_string.Goals as goal

pub returns-in-Ok : goal.returns-in-Ok
returns-in-Ok g c = λ o w source token here. record {
  answer = λ t is distinct.
      leaf_built g.V.WasmValue.tree g.V.WasmValue.is_of g.V.WasmValue.is_full o w _ t (leaf_node c.args.self.now) (string (cow_str_bytes c.in-Ok.text)) c.built_string.ensures.0 c.built_string.result refl (string_read source (leaf_node c.args.self.now) t (cow_str_bytes c.in-Ok.text) is.0 (given_one (c.in-Ok.ensures.gives source here (leaf_quoted source c.args.self.now here (inl (t, is))))).0) c.built_string.ensures.1 c.built_string.ensures.2 c.built_string.ensures.3;
  within = λ value.
      all_in source (leaf_node c.args.self.now) c.built_string.result (inl value) (leaf_at g.V.WasmValue.tree g.V.WasmValue.is_of g.V.WasmValue.is_full _ (leaf_node c.args.self.now) c.built_string.result c.built_string.ensures);
  typed = leaf_of g.V.WasmValue.tree g.V.WasmValue.is_of g.V.WasmValue.is_full (string (cow_str_bytes c.in-Ok.text)) (leaf_node c.args.self.now) c.built_string.result c.built_string.ensures;
}

pub returns-in-Err : goal.returns-in-Err
returns-in-Err g c = λ o w source token here.
    same_or_memory g.V.WasmValue.tree g.V.WasmValue.is_of g.V.WasmValue.is_full o w _ source (leaf_node c.args.self.now) c.in-Err.error c.of_error.result (record {
      answer = λ t is distinct. reported_blame g.V.WasmValue.is_full o w source (leaf_node c.args.self.now) t c.in-Err.error is.0 (c.in-Err.ensures.gives source here (leaf_quoted source c.args.self.now here (inl (t, is))));
      within = λ value. reported_string_in source (leaf_node c.args.self.now) c.in-Err.error (inl value) (c.in-Err.ensures.gives source here (leaf_quoted source c.args.self.now here (inl value)));
      typed = tt;
    }) c.of_error.ensures
