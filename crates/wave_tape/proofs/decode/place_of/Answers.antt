use Rattle.std.proofs.Common.{ℕ, List, [], Bor, sym, ◌∙◌, arith}
use Rattle.std.proofs.lemmas.List.{length-map}
use Rattle.wave_wasm.specs.Borrowed.{texts}
use Rattle.wave_tape.proofs.Loops.{found_place, next_place, behind_end}
use Rattle.wave_tape.proofs.decode.place_of.Goals as goal

-- what stands for a name where there is none
abbrev no_name : Bor (List ℕ)
no_name = record { ref_ptr = (0, 0); now = [] }

pub returns-then-eq-clause-found : goal.returns-then-eq-clause-found
returns-then-eq-clause-found c =
    let placed = found_place c.args.names.now c.args.from c.loop-i.i c.args.name.now c.as_bytes.result.now no_name c.loop-i-test.true c.as_bytes.ensures.value c.loop-i.invariant (sym c.eq.ensures ∙ c.if-eq.true) in
    (c.loop-i-test.true, placed.stands, placed.behind)

pub loop-i-preserved : goal.loop-i-preserved
loop-i-preserved c =
    next_place c.args.names.now c.args.from c.loop-i.i c.args.name.now c.as_bytes.result.now no_name c.loop-i-test.true c.as_bytes.ensures.value c.loop-i.invariant (sym c.eq.ensures ∙ c.if-eq.false)

pub returns-clause-none : goal.returns-clause-none
returns-clause-none c =
    c.loop-i.invariant ∙ behind_end (texts c.args.names.now) c.loop-i.i c.args.name.now (omega (arith, length-map c.args.names.now (λ (n : Bor (List ℕ)). n.now), c.loop-i-test.false))
