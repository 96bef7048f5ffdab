use Rattle.std.proofs.Common.{◌≡◌, ap, sym, ◌∙◌, ◌++◌, codes, append_assoc, arith, List, ℕ, Result, Ok, Err, is_ok, IfOk, if◌then◌else◌}
use Rattle.std.specs.String.{string_bytes}
use Rattle.std.proofs.lemmas.List.{append-nil}
use Rattle.std.proofs.lemmas.Result.{IfOk-weaker}
use Rattle.wave_wasm.proofs.Displays.Functions.{name_here, no_name_here}
use Rattle.wave_wasm.proofs.wasm.display.push_name.Goals as goal

-- what a call gives where it succeeds
where_ok : {X E : Type 0} (r : Result X E) (b x y : List ℕ) → b ≡ (if is_ok r then x else y) → IfOk r (λ _. b ≡ x)
where_ok (Ok u) b x y e = e
where_ok (Err u) b x y e = tt

pub returns-in_ok-push_str : goal.returns-in_ok-push_str
returns-in_ok-push_str c =
    let name = c.index.result.now in
    let old = string_bytes c.args.text.now in
    let new = string_bytes c.push_str-then-i-len.new.self in
    rw (name_here c.args.names.now.items c.args.i name (omega (arith, c.if-i-len.true, c.len.ensures)) c.index.ensures) (IfOk-weaker c.push_str-then-i-len.result (λ x. new ≡ string_bytes c.push_str.new.self ++ codes ": ") (λ x. new ≡ old ++ (name.now ++ codes ": ")) (λ x e. e ∙ (ap (λ z. z ++ codes ": ") c.in_ok-push_str.ensures.bytes ∙ append_assoc old name.now (codes ": "))) (where_ok c.push_str-then-i-len.result new (string_bytes c.push_str.new.self ++ codes ": ") (string_bytes c.push_str.new.self) c.push_str-then-i-len.ensures.bytes))

pub returns-else-i-len : goal.returns-else-i-len
returns-else-i-len c = rw (no_name_here c.args.names.now.items c.args.i (omega (arith, c.if-i-len.false, c.len.ensures))) (sym (append-nil (string_bytes c.args.text.now)))
