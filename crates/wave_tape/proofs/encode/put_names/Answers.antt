use Rattle.std.proofs.Common.{ℕ, List, ap, sym, refl, ◌++◌, Bor, length, get_or, []}
use Rattle.wave_wasm.proofs.CanonicalText.Sequences.{item_again}
use Rattle.std.proofs.lemmas.List.{length-map}
use Rattle.std.proofs.lemmas.Result.{err_from_is_err_and}
use Rattle.std.specs.List.{flat_map}
use Rattle.wave_wasm.specs.Borrowed.{texts}
use Rattle.wave_tape.specs.Tape.{text_bytes, count_bytes}
use Rattle.wave_tape.proofs.Puts.{bytes_stop, bytes_stop_in, kept_later, counted_start, put_next, put_all}
use Rattle.wave_tape.proofs.Parts.{name_rows}
use Rattle.wave_tape.proofs.encode.put_names.Goals as goal

abbrev left_of : List (Bor (List ℕ)) → List ℕ
left_of names = flat_map text_bytes (texts names)

pub returns-in_err-put_count : goal.returns-in_err-put_count
returns-in_err-put_count c =
    let p = err_from_is_err_and c.from_residual.result c.from_residual.ensures.1 in
    rw (p.1, p.2) (bytes_stop c.in_err-put_count.ensures)

pub loop-name-init : goal.loop-name-init
loop-name-init c =
    let names = c.args.names.now in
    let count = sym (length-map names (λ (n : Bor (List ℕ)). n.now)) in
    record {
      put = counted_start (length names) (length (texts names)) (left_of names) c.args.out.now.items c.put_count.new.out.items _ count c.in_ok-put_count.ensures.ok.0 (ap (λ (z : List ℕ). count_bytes (length (texts names)) ++ z) (sym (name_rows (texts names))));
      kept = c.in_ok-put_count.ensures.kept;
    }

pub returns-in_err-put_text : goal.returns-in_err-put_text
returns-in_err-put_text c =
    let p = err_from_is_err_and c.from_residual-in_err-put_text.result c.from_residual-in_err-put_text.ensures.1 in
    rw (p.1, p.2) (bytes_stop_in _ c.loop-name.invariant.kept c.in_err-put_text.ensures)

-- what stands for a name where there is none
abbrev no_name : Bor (List ℕ)
no_name = record { ref_ptr = (0, 0); now = [] }

pub loop-name-preserved : goal.loop-name-preserved
loop-name-preserved c =
    let names = c.args.names.now in
    let name = get_or names c.loop-name.name-index no_name in
    record {
      put = put_next left_of names c.loop-name.name-index name (text_bytes name.now) _ _ _ c.loop-name-test.true (item_again names c.loop-name.name-index no_name c.loop-name-test.true) refl c.in_ok-put_text.ensures.ok.0 c.loop-name.invariant.put;
      kept = kept_later _ _ _ c.loop-name.invariant.kept c.in_ok-put_text.ensures.kept;
    }

pub returns : goal.returns
returns c = record { ok = (put_all left_of c.args.names.now c.loop-name.name-index _ _ c.loop-name-test.false refl c.loop-name.invariant.put, refl); err = tt; kept = c.loop-name.invariant.kept }
