use Rattle.wave_read.proofs.PartByPart.OneMore.{behind_part, where_ok}
use Rattle.wave_read.proofs.parts.Partial+V+Type+V.push_value.Goals as goal

pub returns-in-TupleItems-clause-grown : goal.returns-in-TupleItems-clause-grown
returns-in-TupleItems-clause-grown g c = where_ok _ _ c.push_part.result (λ done kept. λ w T source of children n takes parts expected.
    let h = rw c.in-TupleItems.is at parts in
    (h.0, kept w T source children n (rw h.0 at takes) h.1 (rw c.in-TupleItems.is at expected)))
    c.push_part.ensures

pub returns-in-OfSome-clause-grown : goal.returns-in-OfSome-clause-grown
returns-in-OfSome-clause-grown g c = where_ok _ _ c.push_part-in-OfSome.result (λ done kept. λ w T source of children n takes parts expected.
    let h = rw c.in-OfSome.is at parts in
    (h.0, kept w T source children n (rw h.0 at takes) h.1 (rw c.in-OfSome.is at expected)))
    c.push_part-in-OfSome.ensures

pub returns-in-OfResult-clause-grown : goal.returns-in-OfResult-clause-grown
returns-in-OfResult-clause-grown g c = where_ok _ _ c.push_part-in-OfResult.result (λ done kept. λ w T source of children n takes parts expected.
    let h = rw c.in-OfResult.is at parts in
    (rw c.push_part-in-OfResult.ensures.case h.0, kept w T source children n (rw h.0 at takes) h.1 (rw c.in-OfResult.is at expected)))
    c.push_part-in-OfResult.ensures.parts

pub returns-in-OfCase-clause-grown : goal.returns-in-OfCase-clause-grown
returns-in-OfCase-clause-grown g c = λ w T source of children n takes parts expected.
    let h = rw c.in-OfCase.is at parts in
    (h.0, c.push_part-in-OfCase.ensures w T source children n (rw h.0 at takes) h.1 (rw c.in-OfCase.is at expected))

pub returns-in-Fields-clause-grown : goal.returns-in-Fields-clause-grown
returns-in-Fields-clause-grown g c = λ w T source of children n takes parts expected.
    let h = rw c.in-Fields.is at parts in
    (h.0, c.push_part-in-Fields.ensures w T source children n (rw h.0 at takes) h.1 (rw c.in-Fields.is at expected))

pub returns-in-Entries-clause-grown : goal.returns-in-Entries-clause-grown
returns-in-Entries-clause-grown g c = where_ok _ _ c.push_part-in-Entries.result (λ done kept. λ w T source of children n takes parts expected.
    let h = rw c.in-Entries.is at parts in
    (h.0, kept w T source children n (rw h.0 at takes) h.1 (rw c.in-Entries.is at expected)))
    c.push_part-in-Entries.ensures

pub returns-in_default-clause-grown : goal.returns-in_default-clause-grown
returns-in_default-clause-grown g c = λ w T source of children n takes parts expected.
    behind_part g.V.Type.WasmType.tree g.V.WasmValue.tree g.V.WasmValue.is_of g.V.WasmValue.is_full w T source of children n c.args.self.now (λ x e. rw e at c.requires) c.in_default.not-TupleItems c.in_default.not-OfSome c.in_default.not-OfResult c.in_default.not-OfCase c.in_default.not-Fields c.in_default.not-Entries takes parts

pub returns-in-TupleItems-clause-bare : goal.returns-in-TupleItems-clause-bare
returns-in-TupleItems-clause-bare g c = λ bare. absurd (rw c.in-TupleItems.is at bare)

pub returns-in-OfSome-clause-bare : goal.returns-in-OfSome-clause-bare
returns-in-OfSome-clause-bare g c = λ bare. absurd (rw c.in-OfSome.is at bare)

pub returns-in-OfResult-clause-bare : goal.returns-in-OfResult-clause-bare
returns-in-OfResult-clause-bare g c = λ bare. absurd (rw c.in-OfResult.is at bare)

pub returns-in-OfCase-clause-bare : goal.returns-in-OfCase-clause-bare
returns-in-OfCase-clause-bare g c = λ bare. absurd (rw c.in-OfCase.is at bare)

pub returns-in-Fields-clause-bare : goal.returns-in-Fields-clause-bare
returns-in-Fields-clause-bare g c = λ bare. absurd (rw c.in-Fields.is at bare)

pub returns-in-Entries-clause-bare : goal.returns-in-Entries-clause-bare
returns-in-Entries-clause-bare g c = λ bare. absurd (rw c.in-Entries.is at bare)
