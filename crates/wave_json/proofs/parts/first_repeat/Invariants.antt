use Rattle.std.proofs.Common.{◌≡◌, ℕ, List, drop, is_some}
use Rattle.std.specs.BTreeMap as tree
use Rattle.std.specs.Cmp.Lexicographic.{slice_cmp}
use Rattle.std.specs.Ordering.{nat_cmp}
use Rattle.wave_wasm.specs.Borrowed.{texts}
use Rattle.wave_wasm.specs.Names.{is_one_of}
use Rattle.wave_json.specs.Reading.{first_repeated, repeated_behind}
use Rattle.wave_json.proofs.parts.first_repeat.Given as goal

abbrev pub invariant-loop-i : goal.invariant-loop-i
invariant-loop-i l = record {
  seen : List (List ℕ);
  has : (q : List ℕ) → is_some (tree.get_by (λ k. slice_cmp nat_cmp q k.now) l.before) ≡ is_one_of seen q;
  left : repeated_behind seen l.i (texts (drop l.i l.names)) ≡ first_repeated (texts l.names);
}
