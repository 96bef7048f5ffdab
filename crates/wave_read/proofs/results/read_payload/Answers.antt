use Rattle.std.proofs.Common.{inl, sym, ◌∙◌, subst, true, false, Option, Result, IfErr}
use Rattle.wave_lex.specs.Errors.{Diagnostic}
use Rattle.wave_grammar.specs.NodeAccessors.{first_of}
use Rattle.wave_grammar.specs.ErrorSpans.{RefusesInPart}
use Rattle.wave_grammar.proofs.ErrorSpans.Nodes.{caused_at}
use Rattle.wave_read.specs.Private.Payloads.{payload_cause}
use Rattle.wave_read.proofs.results.read_payload.Goals.{in-Some-built, in-None-built-2}
use Rattle.wave_read.proofs.results.read_payload.Goals as goal

pub returns-in-None-built-clause-within : goal.returns-in-None-built-clause-within
returns-in-None-built-clause-within g c = λ w source children n place read is.
    inl (caused_at (payload_cause true c.args.name.now) n c.refused_payload.result (c.refused_payload.ensures.cause n place) (c.refused_payload.ensures.span ∙ sym place))

pub returns-after-built-3-clause-within : goal.returns-after-built-3-clause-within
returns-after-built-3-clause-within g c = λ w source children n place read is.
    elim c.match-built-3.branch [ in-Some-built w ↦ subst (λ (r : Result (Option g.row.V.Denot) Diagnostic). IfErr r (RefusesInPart n (first_of children))) (sym w.result-is) (inl (caused_at (payload_cause false c.args.name.now) n w.refused_payload-in-Some-built.result (w.refused_payload-in-Some-built.ensures.cause n place) (w.refused_payload-in-Some-built.ensures.span ∙ sym place))) | in-None-built-2 w ↦ subst (λ (r : Result (Option g.row.V.Denot) Diagnostic). IfErr r (RefusesInPart n (first_of children))) (sym w.result-is) tt ]
