use Rattle.std.proofs.Common.{refl, arith, subst, List, ℕ}
use Rattle.std.specs.Str.{IsUtf8}
use Rattle.wave_lex.proofs.StringDecoding.Parts.{run_taken, escape_taken, escape_boundary, none_or_begins}
use Rattle.wave_lex.proofs.strings.StringParts.part.Goals as goal

pub returns-then-self-gt0 : goal.returns-then-self-gt0
returns-then-self-gt0 c = rw (← c.self.view_is) (run_taken c.self.inside.src.now _ _ c.self.inside.pos c.self.inside.run
    c.if-self-gt0.true c.self.invariant.1 c.split_at.ensures.front c.split_at.ensures.back)

pub returns-in_err-c : goal.returns-in_err-c
returns-in_err-c c = rw (c.from_residual.ensures, ← c.self.view_is) (none_or_begins c.self.inside.src.now c.self.inside.run (omega arith) c.self.invariant.1 c.in_err-c.ensures, refl)

pub range_from-self-inside-requires : goal.range_from-self-inside-requires
range_from-self-inside-requires c = λ _.
    escape_boundary _ _ _ _ _ (subst (λ (z : List ℕ). IsUtf8 z) c.as_bytes.ensures.value c.as_bytes.ensures.utf8) c.in_ok-c.ensures.2 c.in_ok-c.ensures.3 c.in_ok-c.ensures.4

pub returns : goal.returns
returns c = rw (← c.self.view_is) (escape_taken c.self.inside.src.now _ _ _ c.self.inside.pos c.in_ok-c.count c.in_ok-c.c
    c.in_ok-c.ensures.2 c.in_ok-c.ensures.3 c.in_ok-c.ensures.4 c.range_from-self-inside.ensures.value)
