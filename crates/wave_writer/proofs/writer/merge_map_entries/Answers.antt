use Rattle.std.proofs.Common.{◌≡◌, ℕ, List, String, Global, sym, subst}
use Rattle.std.specs.Result.{IfOk}
use Rattle.std.specs.String.{string_bytes}
use Rattle.std.proofs.lemmas.Bool.{OnTrue_at}
use Rattle.wave_writer.proofs.Merging.DistinctKeys.{distinct_by_text}
use Rattle.wave_writer.proofs.writer.merge_map_entries.Goals as goal

pub returns-then-have_distinct_texts : goal.returns-then-have_distinct_texts
returns-then-have_distinct_texts g c =
    let f : String Global × g.row.K.Denot × g.row.V.Denot → (List ℕ × g.row.K.Denot) × g.row.V.Denot = λ e. ((string_bytes e.0, e.1), e.2) in
    subst (λ items. IfOk c.without_texts.result (λ m. m.items ≡ items)) (sym (distinct_by_text f c.args.entries.items (OnTrue_at c.if-have_distinct_texts.true c.have_distinct_texts.ensures))) c.without_texts.ensures
