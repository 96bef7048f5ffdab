use Rattle.wave_read.proofs.PartByPart.OneMore.{no_items, where_ok}
use Rattle.wave_read.proofs.parts.Partial+V+Type+V.push_part.Goals as goal

pub returns-in-Items-clause-grown : goal.returns-in-Items-clause-grown
returns-in-Items-clause-grown g c = where_ok _ _ c.push_part.result (λ done kept. λ w T source of children n takes parts expected.
    let h = rw c.in-Items.is at parts in
    (h.0, kept w T source children n (rw h.0 at takes) h.1 (rw c.in-Items.is at expected)))
    c.push_part.ensures

pub returns-in-Items-clause-bare : goal.returns-in-Items-clause-bare
returns-in-Items-clause-bare g c = λ bare. absurd (rw c.in-Items.is at bare)

pub push_value-requires : goal.push_value-requires
push_value-requires g c = no_items c.args.self.now c.in_default.not-Items

pub push_failed-requires : goal.push_failed-requires
push_failed-requires g c = no_items c.args.self.now c.in_default.not-Items

pub returns-in-Ok-clause-grown : goal.returns-in-Ok-clause-grown
returns-in-Ok-clause-grown g c = where_ok _ _ c.push_value.result (λ done kept. λ w T source of children n takes parts expected. kept w T source of children n takes parts (rw c.in-Ok.is at expected)) c.push_value.ensures.grown

pub returns-in-Err-clause-grown : goal.returns-in-Err-clause-grown
returns-in-Err-clause-grown g c = where_ok _ _ c.push_failed.result (λ done kept. λ w T source of children n takes parts expected. kept w T source of children n takes parts (rw c.in-Err.is at expected)) c.push_failed.ensures.grown
