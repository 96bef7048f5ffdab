use Rattle.std.proofs.Common.{◌≡◌, ℕ, List, map}
use Rattle.std.specs.BTreeMap.{get_by_text}
use Rattle.std.specs.String.{string_bytes}
use Rattle.wave_wasm.specs.Merge.{merge, same_text}
use Rattle.wave_writer.proofs.Merging.EntryPlaces.{found_at, texts_of, pairs_of}
use Rattle.wave_writer.proofs.writer.merge_by_places.Given as goal

abbrev pub invariant-loop-text : goal.invariant-loop-text
invariant-loop-text g l =
    let done = merge same_text (map (λ e. ((string_bytes e.0, e.1), e.2)) l.yielded) in
    record {
      places : (q : List ℕ) → get_by_text l.places q ≡ found_at q (texts_of done);
      merged : l.merged.items ≡ pairs_of done;
    }
