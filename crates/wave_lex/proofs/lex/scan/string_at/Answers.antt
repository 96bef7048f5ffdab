use Rattle.std.proofs.Common.{arith}
use Rattle.wave_lex.specs.Tokens.{string}
use Rattle.wave_lex.specs.Machines.{rest}
use Rattle.wave_lex.specs.declared.machine.Start.TheVariants.{InString}
use Rattle.wave_lex.proofs.QuickScan.Prefixes.{prefix_behind, none_behind, lead_boundary}
use Rattle.wave_lex.proofs.QuickScan.ByteRuns.{inside_none}
use Rattle.wave_lex.proofs.QuickScan.EscapeRuns.{quote_leads, plains_lead, string_closes}
use Rattle.wave_lex.proofs.lex.scan.string_at.Goals as goal

pub range_from-requires : goal.range_from-requires
range_from-requires c = λ _. lead_boundary _ _ _ _ c.utf8.text (quote_leads _ _ c.as_bytes-bytes.ensures.value (omega arith) (omega arith))

pub inside_end-inside-requires : goal.inside_end-inside-requires
inside_end-inside-requires c = plains_lead _ _ _ _ _ c.as_bytes-bytes.ensures.value (omega arith) (omega arith) c.range_from.ensures.value c.range_from.utf8 c.as_bytes.ensures.value c.run_of-plain.ensures

pub returns-then-bytes-plain-eq34 : goal.returns-then-bytes-plain-eq34
returns-then-bytes-plain-eq34 c = string_closes _ _ _ c.as_bytes-bytes.ensures.value
    (plains_lead _ _ _ _ _ c.as_bytes-bytes.ensures.value (omega arith) (omega arith) c.range_from.ensures.value c.range_from.utf8 c.as_bytes.ensures.value c.run_of-plain.ensures)
    c.if-plain-bytes.true c.if-bytes-plain-eq34.true

pub returns-then-bytes-inside-eq34 : goal.returns-then-bytes-inside-eq34
returns-then-bytes-inside-eq34 c = string_closes _ _ _ c.as_bytes-bytes.ensures.value c.inside_end-inside.ensures c.if-inside-bytes.true c.if-bytes-inside-eq34.true

pub range_from-requires-2 : goal.range_from-requires-2
range_from-requires-2 c = λ _. lead_boundary _ _ _ _ c.utf8.text c.inside_end-inside.ensures

pub returns-in_default : goal.returns-in_default
returns-in_default c = none_behind string (rest InString) _ _ _ c.range_from-2.ensures.value c.inside_end-inside.ensures inside_none c.in_default.ensures

pub returns : goal.returns
returns c = prefix_behind string (rest InString) _ _ _ _ c.range_from-2.ensures.value c.inside_end-inside.ensures c.in-Some.ensures
