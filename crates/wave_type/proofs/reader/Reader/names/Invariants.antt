use Rattle.wave_wasm.specs.Borrowed.{texts}
use Rattle.wave_type.specs.Private.TypeReading.{HasNames, new_name}
use Rattle.wave_type.specs.TypeFaults.{more_names}
use Rattle.wave_type.proofs.TypeReading.PartLoops.{PartsLeft}
use Rattle.wave_type.proofs.reader.Reader.names.Given as goal

abbrev pub invariant-loop-part : goal.invariant-loop-part
invariant-loop-part l =
    record {
      names : HasNames l.taken (texts l.names.items);
      left : PartsLeft new_name l.mark more_names l.fn.self l._part (texts l.names.items) l.self;
    }
