-- What has been read of a case and its payload.
use Rattle.std.specs.Prelude.{ℕ, ◌≡◌, List, [], ◌∷◌, Option, Some, None, Ok, option_map}
use Rattle.std.specs.Borrow.{Bor}
use Rattle.wave_wasm.specs.Types.{TypeTree, kind_of, variant_parts}
use Rattle.wave_wasm.specs.Values.{Value}
use Rattle.wave_wasm.specs.declared.wasm.WasmTypeKind.TheVariants as kinds
use Rattle.wave_grammar.specs.LeafTokens.{name_of}
use Rattle.wave_grammar.specs.TypedGrammar.{look_up}
use Rattle.wave_grammar.specs.FaultOrder.{Order}
use Rattle.wave_grammar.specs.NodeTree.{NodeTree}
use Rattle.wave_grammar.specs.NodeAccessors.{node_text}
use Rattle.wave_leaf.specs.Reading.{IsReadAs}
use Rattle.wave_read.specs.declared.variants.CasePayload.{CasePayload}

-- the type of the payload that is expected
abbrev pub payload_expected : {S V : Type 0} → CasePayload S V → Option (Bor S)
payload_expected x = option_map (λ c. c.1) x.case

module _ {S V : Type 0} (type_tree : S → TypeTree) (tree : V → Value) (of : V → TypeTree → Type 0) (Full : TypeTree → Type 0) (w : Order) where
  -- the label names this case, which the type has, with a payload of this type
  abbrev pub IsLabelOf : TypeTree → List ℕ → NodeTree → Bor (List ℕ) × Bor S → Type 0
  IsLabelOf T source label case =
      (case.0.now ≡ name_of (node_text source label)) × (look_up (variant_parts T) case.0.now ≡ Some (Some (type_tree case.1.now)))

  -- of no children nothing was read; of a label its case; of a label and a payload that too, at its type
  abbrev pub IsCaseRead : TypeTree → List ℕ → List NodeTree → Option (Bor (List ℕ) × Bor S) → Option V → Type 0
  IsCaseRead T source [] case None = Unit {0}
  IsCaseRead T source (label ∷ []) (Some case) None = IsLabelOf T source label case
  IsCaseRead T source (label ∷ inner ∷ []) (Some case) (Some v) =
      IsLabelOf T source label case × IsReadAs tree of Full w w (type_tree case.1.now) source inner (Ok v)
  IsCaseRead T source _ case payload = ⊥

  -- the children of a node of a case and its payload, at a variant type
  pub record AreCaseParts (T : TypeTree) (source : List ℕ) (children : List NodeTree) (x : CasePayload S V) : Type 0 where
    pub ty : T ≡ type_tree x.ty.now
    pub kind : kind_of T ≡ kinds.Variant
    pub read : IsCaseRead T source children x.case x.payload
