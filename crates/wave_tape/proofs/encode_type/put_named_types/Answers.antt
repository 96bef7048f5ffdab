use Rattle.std.proofs.Common.{◌≡◌, ◌++◌, ℕ, List, Bool, map, refl, sym, ap, ◌∙◌, Bor}
use Rattle.std.specs.List.{list_all}
use Rattle.wave_wasm.specs.Borrowed.{texts}
use Rattle.wave_wasm.specs.Types.{TypeTree}
use Rattle.wave_tape.specs.Tape.{text_bytes}
use Rattle.wave_tape.specs.TypeTape.{type_bytes, has_type_tape}
use Rattle.wave_tape.proofs.Puts.{both_put, has_next, kept_later}
use Rattle.wave_tape.proofs.NamedTypes.{name_at, named_next, name_there, no_name_there}
use Rattle.wave_tape.proofs.encode_type.put_named_types.Goals as goal
use Rattle.wave_tape.proofs.encode_type.put_named_types.Goals.{then-i-names, else-i-names}

pub loop-i-preserved : goal.loop-i-preserved
loop-i-preserved g c =
    let f : Bor g.row.T.Denot → TypeTree = λ t. g.T.WasmType.tree t.now in
    let k : List (Bor g.row.T.Denot) → Bool = λ l. list_all has_type_tape (map f l) in
    let names = texts c.args.names.now in
    let t = c.index-types-i.result in
    let named : name_at names c.loop-i.i ≡ c.if-i-names.name.now = elim c.if-i-names.branch [
      | then-i-names w ↦ name_there c.args.names.now c.loop-i.i _ w.if-i-names.true ∙ ap (λ (b : Bor (List ℕ)). b.now) (sym w.name-is)
      | else-i-names w ↦ no_name_there c.args.names.now c.loop-i.i w.if-i-names.false ∙ ap (λ (b : Bor (List ℕ)). b.now) (sym w.name-is)
    ] in
    let put = both_put c.loop-i.out.items (text_bytes c.if-i-names.name.now) (type_bytes (f t)) c.in_ok-put_text.ensures.ok.0 c.in_ok-put_type.ensures.ok.0 in
    record {
      put = named_next f names c.args.types.now c.loop-i.i t c.loop-i.out.items _ _ c.loop-i-test.true c.index-types-i.is (put ∙ ap (λ (name : List ℕ). c.loop-i.out.items ++ (text_bytes name ++ type_bytes (f t))) (sym named)) c.loop-i.invariant.put;
      has = has_next k c.args.types.now c.loop-i.i t (has_type_tape (f t)) _ c.loop-i-test.true c.index-types-i.is refl c.in_ok-put_type.ensures.ok.1 c.loop-i.invariant.has;
      kept = kept_later _ _ _ (kept_later _ _ _ c.loop-i.invariant.kept c.in_ok-put_text.ensures.kept) c.in_ok-put_type.ensures.kept;
    }
