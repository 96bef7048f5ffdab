use Rattle.std.proofs.Common.{◌≡◌, ◌≢◌, ℕ, List, length, inr, refl, ap, subst, get_or, arith}
use Rattle.std.specs.Str.{IsUtf8}
use Rattle.wave_lex.specs.Multiline.{DropsReturn}
use Rattle.wave_lex.specs.Remaining.{Undecoded, ended_lines}
use Rattle.wave_lex.proofs.MultilineStrings.Lines.{too_few, indented, behind_spaces}
use Rattle.wave_lex.proofs.strings.MultilineStringParts.next_line.Goals as goal

pub returns-then-length_of_spaces-self : goal.returns-then-length_of_spaces-self
returns-then-length_of_spaces-self c =
    rw (← c.self.view_is) (
      inr (record {
        line = c.in-Some.line.now;
        more = ended_lines c.in-Some.behind.now;
        there = c.in-Some.ensures.0.lines;
        bad = too_few c.in-Some.line.now c.length_of_spaces.result c.self.inside.indent c.if-length_of_spaces-self.true
            (λ l. subst (λ (z : List ℕ). get_or z c.length_of_spaces.result 0 ≢ 32) c.as_bytes.ensures.value (c.length_of_spaces.ensures.stops (rw c.as_bytes.ensures.value l)));
      }),
      refl,
    )

pub range_from-requires : goal.range_from-requires
range_from-requires c = λ _. behind_spaces c.in-Some.line.now c.length_of_spaces.result c.self.inside.indent
    (subst (λ (z : List ℕ). IsUtf8 z) c.as_bytes.ensures.value c.as_bytes.ensures.utf8) c.if-length_of_spaces-self.false
    (rw (← ap length c.as_bytes.ensures.value) c.length_of_spaces.ensures.within)
    (λ i l. subst (λ (z : List ℕ). get_or z i 0 ≡ 32) c.as_bytes.ensures.value (c.length_of_spaces.ensures.spaces i l))

pub returns : goal.returns
returns c =
    rw (← c.self.view_is) (record {
      line = c.in-Some.line.now;
      more = ended_lines c.in-Some.behind.now;
      there = c.in-Some.ensures.0.lines;
      indented = rw c.of_line-self-inside.ensures (indented c.in-Some.line.now c.without_final_return-text.result.now c.length_of_spaces.result c.self.inside.indent
          c.if-length_of_spaces-self.false
          (rw (← ap length c.as_bytes.ensures.value) c.length_of_spaces.ensures.within)
          (λ i l. subst (λ (z : List ℕ). get_or z i 0 ≡ 32) c.as_bytes.ensures.value (c.length_of_spaces.ensures.spaces i l))
          (subst (λ (z : List ℕ). DropsReturn z c.without_final_return-text.result.now) c.range_from.ensures.value c.without_final_return-text.ensures));
      place = ap (λ (u : Undecoded). u.pos) c.of_line-self-inside.ensures;
      later = refl;
      moved = omega arith;
      stays = refl;
    })
