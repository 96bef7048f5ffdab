use Rattle.std.proofs.Common.{◌≡◌, ◌≤◌, ◌++◌, drop}
use Rattle.std.specs.Prelude.{string_bytes}
use Rattle.wave_wasm.specs.Borrowed.{texts}
use Rattle.wave_expected.specs.Expected.{or_joined}
use Rattle.wave_expected.proofs.ExpectedTokens.Words.{behind}
use Rattle.wave_type_explain.proofs.expected.or_joined.Given as goal

abbrev pub invariant-loop-index : goal.invariant-loop-index
invariant-loop-index l = (1 ≤ l.index) × (string_bytes l.text ++ behind (drop l.index (texts l.words)) ≡ or_joined (texts l.words))
