use Rattle.std.proofs.Common.{◌≡◌, ◌-◌, ◌+◌, ℕ, List, [], ◌∷◌, ◌++◌, Bor, drop, get_or, sym, ap, subst, ◌∙◌}
use Rattle.std.proofs.lemmas.List.{map_push}
use Rattle.std.proofs.lemmas.Result.{err_from_is_err_and}
use Rattle.wave_wasm.specs.Borrowed.{texts}
use Rattle.wave_tape.specs.Reading.{flags_at, name_at}
use Rattle.wave_tape.proofs.Readings.{fault_of}
use Rattle.wave_tape.proofs.Loops.{with_front, first_front, less_none, goes_on, stops_here, is_done, flags_stop, flags_none, flags_step, flags_end, name_there}
use Rattle.wave_tape.proofs.decode.read_names.Goals as goal

-- what stands for a name where there is none
abbrev no_name : Bor (List ℕ)
no_name = record { ref_ptr = (0, 0); now = [] }

abbrev text_of : Bor (List ℕ) → List ℕ
text_of name = name.now

pub loop-init : goal.loop-init
loop-init c =
    let names = texts c.args.names.now in
    first_front text_of c.new-picked.result.items _ _ c.new-picked.ensures.items (ap (λ (n : ℕ). flags_at names n c.args.bytes.now) (less_none c.args.count))

pub returns-in_err-name : goal.returns-in_err-name
returns-in_err-name c =
    let p = err_from_is_err_and c.from_residual.result c.from_residual.ensures.1 in
    let names = texts c.args.names.now in
    rw (p.1, p.2) (fault_of (Unit {0}) c.in_err-name.field-0.0 (name_at c.loop.rest.now) (flags_at names c.args.count c.args.bytes.now)
    (λ x e. stops_here (texts c.loop.picked.items) _ _ x (flags_stop (drop c.loop.next names) c.args.count c.loop.counter c.loop.rest.now c.loop-test.true x e) c.loop.invariant) c.in_err-name.ensures)

pub returns-in_default : goal.returns-in_default
returns-in_default c =
    let names = texts c.args.names.now in
    stops_here (texts c.loop.picked.items) _ _ _ (flags_none (drop c.loop.next names) c.args.count c.loop.counter c.loop.rest.now c.loop-test.true c.in_ok-name.name.now c.in_ok-name.behind.now c.in_ok-name.ensures c.in_default.ensures.none) c.loop.invariant

pub returns-in_err-push : goal.returns-in_err-push
returns-in_err-push c =
    let p = err_from_is_err_and c.from_residual-in_err-push.result c.from_residual-in_err-push.ensures.1 in
    rw (p.1, p.2) tt

pub loop-preserved : goal.loop-preserved
loop-preserved c =
    let names = texts c.args.names.now in
    let place = c.in-Some.place in
    let name = c.in_ok-name.name.now in
    let one = get_or c.args.names.now place no_name in
    let there = name_there c.args.names.now place no_name name c.in-Some.ensures.found.1 in
    let pushed =
    ap texts c.in_ok-push.ensures.items ∙ (map_push text_of c.loop.picked.items one ∙ ap (λ (n : List ℕ). texts c.loop.picked.items ++ n ∷ []) there) in
    subst (λ (l : List (List ℕ)). with_front l (flags_at (drop (place + 1) names) (c.args.count - (c.loop.counter + 1)) c.in_ok-name.behind.now) ≡ flags_at names c.args.count c.args.bytes.now) (sym pushed)
    (goes_on (texts c.loop.picked.items) name _ _ _ (flags_step (drop c.loop.next names) c.args.count c.loop.counter c.loop.rest.now c.loop-test.true name c.in_ok-name.behind.now (drop (place + 1) names) c.in_ok-name.ensures c.in-Some.ensures.found.2) c.loop.invariant)

pub returns : goal.returns
returns c =
    let names = texts c.args.names.now in
    is_done (texts c.loop.picked.items) c.loop.rest.now _ _ (flags_end (drop c.loop.next names) c.args.count c.loop.counter c.loop.rest.now c.loop-test.false) c.loop.invariant
