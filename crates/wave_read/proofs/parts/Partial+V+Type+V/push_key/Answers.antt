use Rattle.std.proofs.Common.{[], ◌∷◌, ◌++◌, refl, ◌∙◌}
use Rattle.wave_grammar.specs.NodeTree.{node, no_nodes}
use Rattle.wave_grammar.specs.declared.form.NodeType.TheVariants as kind
use Rattle.wave_read.proofs.PartByPart.OneMore.{behind_key, fault_placed, found_at, none_found}
use Rattle.wave_read.proofs.parts.Partial+V+Type+V.push_key.Goals as goal
use Rattle.wave_read.proofs.parts.Partial+V+Type+V.push_key.Goals.{in-OfCase+in_ok-found-in-OfCase, in-Fields+in_ok-found-in-Fields, in-Entries+in_ok-found-in-Entries, in_default}

pub returns-clause-grown : goal.returns-clause-grown
returns-clause-grown g c = λ order T source of children here takes parts.
    let n = node c.args.ty c.args.span no_nodes in
    fault_placed g.V.Type.WasmType.tree g.V.WasmValue.tree g.V.WasmValue.is_of g.V.WasmValue.is_full order T source of (children ++ n ∷ []) c.match-self.self c.wrong.new.self c.match-self.found c.wrong.ensures
    (elim c.match-self.branch [
      | in-OfCase+in_ok-found-in-OfCase w ↦
          let h = rw w.in-OfCase.is at parts in
          rw (w.self-is, w.found-is) (found_at g.V.WasmValue.tree g.V.WasmValue.is_of g.V.WasmValue.is_full order T source of kind.VariantWithPayload (children ++ n ∷ []) _ _ h.0 (w.in_ok-found-in-OfCase.ensures order T source children here (rw h.0 at takes) h.1))
      | in-Fields+in_ok-found-in-Fields w ↦
          let h = rw w.in-Fields.is at parts in
          rw (w.self-is, w.found-is) (found_at g.V.WasmValue.tree g.V.WasmValue.is_of g.V.WasmValue.is_full order T source of kind.TupleSet (children ++ n ∷ []) _ _ h.0 (w.in_ok-found-in-Fields.ensures order T source children here (rw h.0 at takes) h.1))
      | in-Entries+in_ok-found-in-Entries w ↦
          let h = rw w.in-Entries.is at parts in
          rw (w.self-is, w.found-is) (found_at g.V.WasmValue.tree g.V.WasmValue.is_of g.V.WasmValue.is_full order T source of kind.TupleSet (children ++ n ∷ []) _ _ h.0 (w.in_ok-found-in-Entries.ensures order T source children here (rw h.0 at takes) h.1))
      | in_default w ↦ rw (w.self-is, w.found-is) (behind_key g.V.Type.WasmType.tree g.V.WasmValue.tree g.V.WasmValue.is_of g.V.WasmValue.is_full order T source of children n c.args.self.now w.in_default.not-OfCase w.in_default.not-Fields w.in_default.not-Entries takes parts)
    ])

pub returns-clause-bare : goal.returns-clause-bare
returns-clause-bare g c = λ bare.
    elim c.match-self.branch [
      | in-OfCase+in_ok-found-in-OfCase w ↦ absurd (rw w.in-OfCase.is at bare)
      | in-Fields+in_ok-found-in-Fields w ↦ absurd (rw w.in-Fields.is at bare)
      | in-Entries+in_ok-found-in-Entries w ↦ absurd (rw w.in-Entries.is at bare)
      | in_default w ↦ (none_found c.match-self.self c.wrong.new.self c.match-self.found w.found-is c.wrong.ensures ∙ w.self-is, refl)
    ]
