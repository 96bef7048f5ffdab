use Rattle.wave_grammar.specs.FaultOrder.{in_text}
use Rattle.std.proofs.Common.{[], ◌∷◌, ◌++◌, Some, refl, ◌∙◌}
use Rattle.wave_grammar.specs.declared.form.NodeType.TheVariants as kind
use Rattle.wave_leaf.specs.declared.fault.Fault.TheVariants as fault
use Rattle.wave_read.proofs.PayloadReading.CaseAnswers.{part_refused}
use Rattle.wave_read.proofs.MapReading.EntrySteps as entries
use Rattle.wave_read.proofs.RecordReading.FieldSteps as fields
use Rattle.wave_read.proofs.PartByPart.OneMore.{behind_part, fault_placed, found_at, none_found, where_ok}
use Rattle.wave_read.proofs.parts.Partial+V+Type+V.push_failed.Goals as goal
use Rattle.wave_read.proofs.parts.Partial+V+Type+V.push_failed.Goals.{in-TupleItems+in_ok-found-in-TupleItems, in-OfCase, in-Fields, in-Entries, in_default}

pub returns-in-OfSome-clause-grown : goal.returns-in-OfSome-clause-grown
returns-in-OfSome-clause-grown g c = where_ok _ _ c.push_part.result (λ done kept. λ order T source of children n takes parts expected.
    let h = rw c.in-OfSome.is at parts in
    (h.0, kept order T source children n (rw h.0 at takes) h.1 (rw c.in-OfSome.is at expected)))
    c.push_part.ensures

pub returns-in-OfResult-clause-grown : goal.returns-in-OfResult-clause-grown
returns-in-OfResult-clause-grown g c = where_ok _ _ c.push_part-in-OfResult.result (λ done kept. λ order T source of children n takes parts expected.
    let h = rw c.in-OfResult.is at parts in
    (rw c.push_part-in-OfResult.ensures.case h.0, kept order T source children n (rw h.0 at takes) h.1 (rw c.in-OfResult.is at expected)))
    c.push_part-in-OfResult.ensures.parts

pub returns-clause-grown : goal.returns-clause-grown
returns-clause-grown g c = λ order T source of children n takes parts expected.
    fault_placed g.V.Type.WasmType.tree g.V.WasmValue.tree g.V.WasmValue.is_of g.V.WasmValue.is_full order T source of (children ++ n ∷ []) c.match-self.self c.wrong.new.self c.match-self.found c.wrong.ensures
    (elim c.match-self.branch [
      | in-TupleItems+in_ok-found-in-TupleItems w ↦
          let h = rw w.in-TupleItems.is at parts in
          rw (w.self-is, w.found-is) (found_at g.V.WasmValue.tree g.V.WasmValue.is_of g.V.WasmValue.is_full order T source of kind.Tuple (children ++ n ∷ []) _ _ h.0 (w.in_ok-found-in-TupleItems.ensures order T source children n (rw h.0 at takes) h.1 (rw w.in-TupleItems.is at expected)))
      | in-OfCase w ↦
          let h = rw w.in-OfCase.is at parts in
          rw (w.self-is, w.found-is) (found_at g.V.WasmValue.tree g.V.WasmValue.is_of g.V.WasmValue.is_full order T source of kind.VariantWithPayload (children ++ n ∷ []) (Unit {0}) (Some (fault.Part c.args.error)) h.0 (part_refused g.V.Type.WasmType.tree g.V.WasmValue.tree g.V.WasmValue.is_of g.V.WasmValue.is_full in_text order T source children n _ _ c.args.error g.met.V.WasmValue.full_parts (rw h.0 at takes) refl h.1 (rw w.in-OfCase.is at expected)))
      | in-Fields w ↦
          let h = rw w.in-Fields.is at parts in
          rw (w.self-is, w.found-is) (found_at g.V.WasmValue.tree g.V.WasmValue.is_of g.V.WasmValue.is_full order T source of kind.TupleSet (children ++ n ∷ []) (Unit {0}) (Some (fault.Part c.args.error)) h.0 (fields.value_refused g.V.WasmValue.tree g.V.WasmValue.is_of g.V.WasmValue.is_full order g.V.Type.WasmType.tree T source children _ h.1 n _ c.args.error g.met.V.WasmValue.full_parts (rw h.0 at takes) refl (rw w.in-Fields.is at expected)))
      | in-Entries w ↦
          let h = rw w.in-Entries.is at parts in
          rw (w.self-is, w.found-is) (found_at g.V.WasmValue.tree g.V.WasmValue.is_of g.V.WasmValue.is_full order T source of kind.TupleSet (children ++ n ∷ []) (Unit {0}) (Some (fault.Part c.args.error)) h.0 (entries.value_refused g.V.WasmValue.tree g.V.WasmValue.is_of g.V.WasmValue.is_full in_text order g.V.Type.WasmType.tree T source children _ h.1 n _ c.args.error g.met.V.WasmValue.full_parts (rw h.0 at takes) refl (rw w.in-Entries.is at expected)))
      | in_default w ↦ rw (w.self-is, w.found-is) (behind_part g.V.Type.WasmType.tree g.V.WasmValue.tree g.V.WasmValue.is_of g.V.WasmValue.is_full order T source of children n c.args.self.now (λ x e. rw e at c.requires) w.in_default.not-TupleItems w.in_default.not-OfSome w.in_default.not-OfResult w.in_default.not-OfCase w.in_default.not-Fields w.in_default.not-Entries takes parts)
    ])

pub returns-in-OfSome-clause-bare : goal.returns-in-OfSome-clause-bare
returns-in-OfSome-clause-bare g c = λ bare. absurd (rw c.in-OfSome.is at bare)

pub returns-in-OfResult-clause-bare : goal.returns-in-OfResult-clause-bare
returns-in-OfResult-clause-bare g c = λ bare. absurd (rw c.in-OfResult.is at bare)

pub returns-clause-bare : goal.returns-clause-bare
returns-clause-bare g c = λ bare.
    elim c.match-self.branch [
      | in-TupleItems+in_ok-found-in-TupleItems w ↦ absurd (rw w.in-TupleItems.is at bare)
      | in-OfCase w ↦ absurd (rw w.in-OfCase.is at bare)
      | in-Fields w ↦ absurd (rw w.in-Fields.is at bare)
      | in-Entries w ↦ absurd (rw w.in-Entries.is at bare)
      | in_default w ↦ (none_found c.match-self.self c.wrong.new.self c.match-self.found w.found-is c.wrong.ensures ∙ w.self-is, refl)
    ]
