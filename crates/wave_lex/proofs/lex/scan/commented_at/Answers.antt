use Rattle.std.proofs.Common.{refl, arith}
use Rattle.wave_lex.specs.Tokens.{whitespace}
use Rattle.wave_lex.proofs.QuickScan.Prefixes.{prefix_there, prefix_behind, lead_boundary}
use Rattle.wave_lex.proofs.QuickScan.ByteRuns.{whitespace_ends}
use Rattle.wave_lex.proofs.lex.scan.commented_at.Goals as goal

pub range_from-requires : goal.range_from-requires
range_from-requires c = λ _. lead_boundary _ _ _ _ c.utf8.text c.comments_end-end.ensures.leads

pub returns-in_default : goal.returns-in_default
returns-in_default c = absurd (prefix_there whitespace _ refl c.in_default.ensures)

pub returns : goal.returns
returns c = prefix_behind whitespace whitespace _ _ _ _ c.range_from.ensures.value c.comments_end-end.ensures.leads c.in-Some.ensures

pub returns-then-end-bytes : goal.returns-then-end-bytes
returns-then-end-bytes c = whitespace_ends _ _ _ c.as_bytes-bytes.ensures.value c.comments_end-end.ensures.leads c.comments_end-end.ensures.stops (λ k. let w : ⊥ = omega arith in absurd w)

pub returns-then-bytes-end-ne47 : goal.returns-then-bytes-end-ne47
returns-then-bytes-end-ne47 c = whitespace_ends _ _ _ c.as_bytes-bytes.ensures.value c.comments_end-end.ensures.leads c.comments_end-end.ensures.stops (λ k. c.if-bytes-end-ne47.true)
