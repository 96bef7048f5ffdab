use Rattle.wave_wasm.specs.Names.{AreAllOf}
use Rattle.wave_wasm.specs.Types.{flags_names}
use Rattle.wave_read.proofs.FlagReading.PlacedNames.{names_denoted, ArePlaced}
use Rattle.wave_read.proofs.flags.picked.Given as goal

abbrev pub invariant-loop-name : goal.invariant-loop-name
invariant-loop-name g l = record {
  known : AreAllOf (flags_names (g.T.WasmType.tree l.ty)) (names_denoted l.yielded);
  placed : ArePlaced (flags_names (g.T.WasmType.tree l.ty)) (names_denoted l.yielded) l.placed.entries;
}
