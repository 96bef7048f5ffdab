use Rattle.std.proofs.Common.{ap, ◌∙◌, List, ℕ, ◌++◌, Bor, [], map, sym, codes}
use Rattle.std.proofs.lemmas.Result.{err_from_is_err_and}
use Rattle.wave_writer.proofs.CanonicalText.WrittenParts.{writing_last}
use Rattle.wave_wasm.proofs.CanonicalText.Sequences.{parted_joined}
use Rattle.wave_writer.proofs.CanonicalText.Flags.{flags_text, flags_writable}
use Rattle.wave_writer.proofs.CanonicalText.Gathering.{gathering_start, gathering_item, gathering_close, gathered_all, gathered_refused, writing_gathered}
use Rattle.wave_writer.proofs.writer.Writer.write_flags.Goals as goal

abbrev text_of : Bor (List ℕ) → List ℕ
text_of name = name.now

abbrev no_name : Bor (List ℕ)
no_name = record { ref_ptr = (0, 0); now = [] }

pub returns-in_err-gather : goal.returns-in_err-gather
returns-in_err-gather g c =
    let p = err_from_is_err_and c.from_residual-in_err-gather.result c.from_residual-in_err-gather.ensures.1 in
    rw (p.1, p.2) (gathered_refused c.new-gathered.result (codes "{") _ (gathering_start _ _ c.new-gathered.ensures (flags_text _ _ c.requires c.in_ok-names.ensures)) (rw c.self.view_is at c.in_err-gather.ensures.err))

pub loop-name-init : goal.loop-name-init
loop-name-init g c =
    let names = map text_of c.deref-name-items.result.now in
    let whole = flags_text _ names c.requires (ap (map text_of) c.deref-name-items.ensures.value ∙ c.in_ok-names.ensures) ∙ ap (λ z. codes "{" ++ (z ++ codes "}")) (sym (parted_joined names)) in
    writing_gathered _ (gathering_start _ _ c.new-gathered.ensures whole) (rw c.self.view_is at c.in_ok-gather.ensures.ok)

pub returns-in_err-gather_item : goal.returns-in_err-gather_item
returns-in_err-gather_item g c =
    let p = err_from_is_err_and c.from_residual-in_err-gather_item.result c.from_residual-in_err-gather_item.ensures.1 in
    let w = gathering_item text_of c.deref-name-items.result.now c.loop-name.name-index no_name _ _ _ c.loop-name-test.true c.loop-name.invariant in
    rw (p.1, p.2) (gathered_refused c.loop-name.gathered _ _ w c.in_err-gather_item.ensures.err)

pub loop-name-preserved : goal.loop-name-preserved
loop-name-preserved g c =
    let w = gathering_item text_of c.deref-name-items.result.now c.loop-name.name-index no_name _ _ _ c.loop-name-test.true c.loop-name.invariant in
    writing_gathered _ w c.in_ok-gather_item.ensures.ok

pub returns-in_err-gather-2 : goal.returns-in_err-gather-2
returns-in_err-gather-2 g c =
    let p = err_from_is_err_and c.from_residual-in_err-gather-2.result c.from_residual-in_err-gather-2.ensures.1 in
    let w = gathering_close text_of c.deref-name-items.result.now c.loop-name.name-index _ _ (codes "}") c.loop-name-test.false c.loop-name.invariant in
    rw (p.1, p.2) (gathered_refused c.loop-name.gathered (codes "}") _ w c.in_err-gather-2.ensures.err)

pub returns : goal.returns
returns g c =
    let w = gathering_close text_of c.deref-name-items.result.now c.loop-name.name-index _ _ (codes "}") c.loop-name-test.false c.loop-name.invariant in
    writing_last (gathered_all (writing_gathered [] w c.in_ok-gather-2.ensures.ok)) (flags_writable _ c.requires) (rw c.as_str.ensures at c.write_text.ensures)
