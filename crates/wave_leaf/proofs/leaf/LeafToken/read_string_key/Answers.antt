use Rattle.std.proofs.Common.{inr, refl}
use Rattle.std.specs.Cow.{cow_str_bytes}
use Rattle.wave_wasm.specs.Types as type
use Rattle.wave_wasm.specs.Values.{string}
use Rattle.wave_grammar.proofs.ByKind.Keys.{key_built}
use Rattle.wave_grammar.proofs.ByKind.TextKeys.{string_key}
use Rattle.wave_grammar.proofs.ErrorSpans.Nodes.{all_in, leaf_at}
use Rattle.wave_leaf.specs.Leaves.{leaf_node}
use Rattle.wave_leaf.proofs.ReadErrors.HandedOn.{kept_blame, kept_within, leaf_of}
use Rattle.wave_leaf.proofs.LeafReading.BetweenQuotes.{leaf_quoted}
use Rattle.wave_leaf.proofs.LeafReading.Strings.{string_key_blamed, reported_string_in, given_one}
use Rattle.wave_leaf.proofs.leaf.LeafToken.read_string_key.Goals as goal

pub returns-in-Some-clause-answer : goal.returns-in-Some-clause-answer
returns-in-Some-clause-answer g c = λ source here K p key is token.
    key_built g.V.WasmValue.tree g.V.WasmValue.is_of g.V.WasmValue.is_full _ K type.string p key (leaf_node c.args.self.now) (string c.in-Some.text.now) c.built_string.ensures.0 c.built_string.result is refl refl (string_key source (leaf_node c.args.self.now) p key c.in-Some.text.now token (c.in-Some.ensures source here)) c.built_string.ensures.1 c.built_string.ensures.2 c.built_string.ensures.3

pub returns-in-Some-clause-within : goal.returns-in-Some-clause-within
returns-in-Some-clause-within g c = λ source here key.
    all_in source (leaf_node c.args.self.now) c.built_string.result (inr key) (leaf_at g.V.WasmValue.tree g.V.WasmValue.is_of g.V.WasmValue.is_full _ (leaf_node c.args.self.now) c.built_string.result c.built_string.ensures)

pub returns-in-Ok-clause-answer : goal.returns-in-Ok-clause-answer
returns-in-Ok-clause-answer g c = λ source here K p key is token.
    key_built g.V.WasmValue.tree g.V.WasmValue.is_of g.V.WasmValue.is_full _ K type.string p key (leaf_node c.args.self.now) (string (cow_str_bytes c.in-Ok.text)) c.built_string-in-Ok.ensures.0 c.built_string-in-Ok.result is refl refl (string_key source (leaf_node c.args.self.now) p key (cow_str_bytes c.in-Ok.text) token (given_one (c.in-Ok.ensures.gives source here (leaf_quoted source c.args.self.now here (inr (p, key, token))))).0) c.built_string-in-Ok.ensures.1 c.built_string-in-Ok.ensures.2 c.built_string-in-Ok.ensures.3

pub returns-in-Ok-clause-within : goal.returns-in-Ok-clause-within
returns-in-Ok-clause-within g c = λ source here key.
    all_in source (leaf_node c.args.self.now) c.built_string-in-Ok.result (inr key) (leaf_at g.V.WasmValue.tree g.V.WasmValue.is_of g.V.WasmValue.is_full _ (leaf_node c.args.self.now) c.built_string-in-Ok.result c.built_string-in-Ok.ensures)

pub returns-in-Err-clause-answer : goal.returns-in-Err-clause-answer
returns-in-Err-clause-answer g c = λ source here K p key is token.
    kept_blame g.V.WasmValue.is_full K p key c.in-Err.error c.of_error.result c.of_error.ensures (string_key_blamed g.V.WasmValue.is_full K source (leaf_node c.args.self.now) p key c.in-Err.error is token (c.in-Err.ensures.gives source here (leaf_quoted source c.args.self.now here (inr (p, key, token)))))

pub returns-in-Err-clause-within : goal.returns-in-Err-clause-within
returns-in-Err-clause-within g c = λ source here key.
    kept_within (leaf_node c.args.self.now) c.in-Err.error c.of_error.result c.of_error.ensures (reported_string_in source (leaf_node c.args.self.now) c.in-Err.error (inr key) (c.in-Err.ensures.gives source here (leaf_quoted source c.args.self.now here (inr key))))

pub returns-in-Ok-clause-typed : goal.returns-in-Ok-clause-typed
returns-in-Ok-clause-typed g c = leaf_of g.V.WasmValue.tree g.V.WasmValue.is_of g.V.WasmValue.is_full (string (cow_str_bytes c.in-Ok.text)) (leaf_node c.args.self.now) c.built_string-in-Ok.result c.built_string-in-Ok.ensures
