use Rattle.std.proofs.Common.{◌≡◌, Bor, List, ℕ, ◌+◌, [], ◌∷◌, ◌++◌, get_or, drop, ap, sym, subst, ◌∙◌, Vec, Global}
use Rattle.std.proofs.lemmas.List.{map-append}
use Rattle.wave_wasm.specs.Borrowed.{texts}
use Rattle.wave_wasm.proofs.CanonicalText.Sequences.{item_again}
use Rattle.wave_wasm.specs.Names.{found_in}
use Rattle.wave_json.proofs.Names.{pick_yes, pick_no}
use Rattle.wave_json.proofs.parts.picked.Goals.{then-is_among+in_ok-push, else-is_among}
use Rattle.wave_json.proofs.parts.picked.Goals as goal

abbrev no_name : Bor (List ℕ)
no_name = record { ref_ptr = (0, 0); now = [] }

pub loop-name-preserved : goal.loop-name-preserved
loop-name-preserved c =
    let names = c.args.names.now in
    let i = c.loop-name.name-index in
    let x = get_or names i no_name in
    let is = item_again names i no_name c.loop-name-test.true in
    let given = texts c.args.given.now in
    let whole = found_in given (texts names) in
    let key : Bor (List ℕ) → List ℕ = λ n. n.now in
    elim c.if-is_among.branch [
      | then-is_among+in_ok-push w ↦
          subst (λ (l : List (List ℕ)). l ++ found_in given (texts (drop (i + 1) names)) ≡ whole)
          (sym (ap (λ (v : Vec (Bor (List ℕ)) Global). texts v.items) w.picked-is ∙ (ap texts w.in_ok-push.ensures.items ∙ map-append key c.loop-name.picked.items (x ∷ []))))
          (pick_yes key given names i x (texts c.loop-name.picked.items) whole c.loop-name-test.true is (sym c.is_among.ensures ∙ w.if-is_among.true) c.loop-name.invariant)
      | else-is_among w ↦
          subst (λ (l : List (List ℕ)). l ++ found_in given (texts (drop (i + 1) names)) ≡ whole)
          (sym (ap (λ (v : Vec (Bor (List ℕ)) Global). texts v.items) w.picked-is))
          (pick_no key given names i x (texts c.loop-name.picked.items) whole c.loop-name-test.true is (sym c.is_among.ensures ∙ w.if-is_among.false) c.loop-name.invariant)
    ]
