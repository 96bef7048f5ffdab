use Rattle.std.proofs.Common.{Bor, List, ℕ, [], ◌∷◌, ◌++◌, get_or, ap, sym, ◌∙◌}
use Rattle.std.proofs.lemmas.List.{map-append}
use Rattle.wave_wasm.specs.Borrowed.{texts}
use Rattle.wave_wasm.proofs.CanonicalText.Sequences.{item_again}
use Rattle.wave_json.proofs.Objects.{names_more}
use Rattle.wave_json.proofs.parts.check_distinct.Goals as goal

pub loop-i-preserved : goal.loop-i-preserved
loop-i-preserved c =
    let ms = c.args.members.now in
    let i = c.loop-i.i in
    let x = get_or ms i c.index-members-i.result in
    ap texts c.in_ok-push.ensures.items
    ∙ (map-append (λ (n : Bor (List ℕ)). n.now) c.loop-i.names.items (x.0 ∷ [])
    ∙ (ap (λ (l : List (List ℕ)). l ++ x.0.now ∷ []) c.loop-i.invariant
    ∙ sym (names_more ms i x c.loop-i-test.true (item_again ms i c.index-members-i.result c.loop-i-test.true))))
