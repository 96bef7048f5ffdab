use Rattle.std.proofs.Common.{ℕ, List, String, Global, ◌≡◌, ap, sym, ◌∙◌, arith, map, length, Some, None, bytes_eq, if◌then◌else◌}
use Rattle.std.proofs.lemmas.Map.Text.{btree_map_updates_text}
use Rattle.std.specs.String.{string_bytes}
use Rattle.wave_wasm.specs.Merge.{merge, same_text}
use Rattle.wave_writer.proofs.Merging.EntryPlaces.{found_at, texts_of, merge_found, merge_new, place_fits}
use Rattle.wave_writer.proofs.writer.merge_by_places.Goals as goal

pub index_mut-requires : goal.index_mut-requires
index_mut-requires g c =
    let f : String Global × g.row.K.Denot × g.row.V.Denot → (List ℕ × g.row.K.Denot) × g.row.V.Denot = λ e. ((string_bytes e.0, e.1), e.2) in
    let at = sym (c.loop-text.invariant.places c.as_str.result.now) ∙ sym c.in-Some-get.ensures.value in
    let h = place_fits f c.loop-text.yielded c.as_str.result.now c.loop-text.merged.items c.in-Some-get.place.now c.loop-text.invariant.merged at in
    omega (arith, h, c.loop-text.merged.ok.0)

pub loop-text-preserved-in-Some-get : goal.loop-text-preserved-in-Some-get
loop-text-preserved-in-Some-get g c =
    let f : String Global × g.row.K.Denot × g.row.V.Denot → (List ℕ × g.row.K.Denot) × g.row.V.Denot = λ e. ((string_bytes e.0, e.1), e.2) in
    let texts = texts_of (merge same_text (map f c.loop-text.yielded)) in
    let at : found_at (string_bytes c.in-Some.text) texts ≡ Some c.in-Some-get.place.now = ap (λ z. found_at z texts) (sym c.as_str.ensures.value) ∙ (sym (c.loop-text.invariant.places c.as_str.result.now) ∙ sym c.in-Some-get.ensures.value) in
    let r = merge_found f c.loop-text.yielded (c.in-Some.text, c.in-Some.key, c.in-Some.value) c.loop-text.merged.items c.in-Some-get.place.now c.index_mut.result.now c.loop-text.invariant.merged at c.index_mut.ensures.value in
    record { places = λ q. c.loop-text.invariant.places q ∙ ap (found_at q) (sym r.0); merged = r.1 }

pub loop-text-preserved : goal.loop-text-preserved
loop-text-preserved g c =
    let f : String Global × g.row.K.Denot × g.row.V.Denot → (List ℕ × g.row.K.Denot) × g.row.V.Denot = λ e. ((string_bytes e.0, e.1), e.2) in
    let texts = texts_of (merge same_text (map f c.loop-text.yielded)) in
    let at : found_at (string_bytes c.in-Some.text) texts ≡ None = ap (λ z. found_at z texts) (sym c.as_str.ensures.value) ∙ (sym (c.loop-text.invariant.places c.as_str.result.now) ∙ sym c.in-None-get.ensures.value) in
    let r = merge_new f c.loop-text.yielded (c.in-Some.text, c.in-Some.key, c.in-Some.value) c.loop-text.merged.items c.loop-text.invariant.merged at in
    let moved = btree_map_updates_text (string_bytes c.in-Some.text) c.loop-text.places c.insert.new.self (Some c.len.result) c.in_ok-insert-in-None-get.ensures.updates in
    let count : c.len.result ≡ length c.loop-text.merged.items = omega (arith, c.len.ensures, c.loop-text.merged.ok.0) in
    let new = string_bytes c.in-Some.text in
    record { places = λ q. moved q ∙ (ap (λ o. if bytes_eq new q then Some c.len.result else o) (c.loop-text.invariant.places q) ∙ (ap (λ n. if bytes_eq new q then Some n else found_at q texts) count ∙ sym (r.0 q))); merged = c.in_ok-push-in-None-get.ensures.items ∙ r.1 }
