use Rattle.std.proofs.Common.{◌≡◌, ℕ, ◌≤◌, ◌-◌, List, ◌∷◌, length, drop, take, sym, ap, subst, ◌∙◌, arith, get_or, Some}
use Rattle.std.specs.Char.{IsScalar}
use Rattle.wave_lex.specs.Strings.{UnescapesTo, short_escape}
use Rattle.wave_lex.proofs.StringDecoding.EscapesFound.{HasDistinctLabels, none_few, none_long, few_closed, some_long, opened_cut, short}
use Rattle.wave_lex.proofs.strings.unescape.Goals as goal
use Rattle.wave_lex.proofs.strings.unescape.Goals.{then-count-eq0-via-then-count-eq0, then-count-eq0-via-else-count-eq0+then-count-digits, then-count-eq0-via-else-count-eq0+else-count-digits+then-digits-count-ne125}

-- the text after `\u{`
begins : (s t : List ℕ) → s ≡ t → 3 ≤ length s → get_or s 0 0 ≡ 92 → get_or s 1 0 ≡ 117 → get_or s 2 0 ≡ 123 → t ≡ 92 ∷ 117 ∷ 123 ∷ take (length s - 3) (drop 3 s)
begins s t e l a b c = sym e ∙ opened_cut s l a b c

pub returns-then-count-eq0 : goal.returns-then-count-eq0
returns-then-count-eq0 c =
    let w = begins _ _ c.as_bytes-bytes.ensures.value c.if-bytes-lt3.false (omega arith) (omega arith) (omega arith) in
    let few = ap (λ (k : ℕ). take k (take (length c.as_bytes-bytes.result.now - 3) (drop 3 c.as_bytes-bytes.result.now))) c.min.ensures in
    none_few c.args.src.now _ _ c.hexadecimal-count.result.0 c.hexadecimal-count.result.1 w few c.hexadecimal-count.ensures (λ g. elim c.then-count-eq0.branch [
      | then-count-eq0-via-then-count-eq0 k ↦ omega arith
      | then-count-eq0-via-else-count-eq0+then-count-digits k ↦ omega arith
      | then-count-eq0-via-else-count-eq0+else-count-digits+then-digits-count-ne125 k ↦ k.if-digits-count-ne125.true g.closed
    ])

pub returns-in_err-scalar : goal.returns-in_err-scalar
returns-in_err-scalar c =
    let w = begins _ _ c.as_bytes-bytes.ensures.value c.if-bytes-lt3.false (omega arith) (omega arith) (omega arith) in
    let few = ap (λ (k : ℕ). take k (take (length c.as_bytes-bytes.result.now - 3) (drop 3 c.as_bytes-bytes.result.now))) c.min.ensures in
    let k = few_closed (take (length c.as_bytes-bytes.result.now - 3) (drop 3 c.as_bytes-bytes.result.now)) _ c.hexadecimal-count.result.0 c.hexadecimal-count.result.1 few c.hexadecimal-count.ensures (omega arith) (omega arith) in
    rw c.from_residual-in_err-scalar.ensures (none_long c.args.src.now _ _ w k.0 (λ g. c.in_err-scalar.ensures.value (subst (λ (z : ℕ). IsScalar z) (sym k.2) g.scalar)))

pub returns : goal.returns
returns c =
    let w = begins _ _ c.as_bytes-bytes.ensures.value c.if-bytes-lt3.false (omega arith) (omega arith) (omega arith) in
    let few = ap (λ (k : ℕ). take k (take (length c.as_bytes-bytes.result.now - 3) (drop 3 c.as_bytes-bytes.result.now))) c.min.ensures in
    let k = few_closed (take (length c.as_bytes-bytes.result.now - 3) (drop 3 c.as_bytes-bytes.result.now)) _ c.hexadecimal-count.result.0 c.hexadecimal-count.result.1 few c.hexadecimal-count.ensures (omega arith) (omega arith) in
    let g : HasDistinctLabels (take (length c.as_bytes-bytes.result.now - 3) (drop 3 c.as_bytes-bytes.result.now)) c.hexadecimal-count.result.0 = record {
      some = omega arith;
      few = k.1;
      within = omega arith;
      closed = omega arith;
      scalar = subst (λ (z : ℕ). IsScalar z) k.2 c.in_ok-scalar.ensures.value.0;
    } in
    some_long c.args.src.now _ _ _ w k.0 g (c.in_ok-scalar.ensures.value.1 ∙ k.2)

pub returns-then-bytes-ne117 : goal.returns-then-bytes-ne117
returns-then-bytes-ne117 c =
    let P : List ℕ → Type 0 = λ z. UnescapesTo z (Some (c.in_ok-short.short, 2)) in
    subst P c.as_bytes-bytes.ensures.value (short c.as_bytes-bytes.result.now _ c.if-bytes-lt2.false c.if-bytes-ne92.false (ap short_escape (sym c.from.ensures) ∙ (sym c.short_escape.ensures ∙ c.in_ok-short.was)))
