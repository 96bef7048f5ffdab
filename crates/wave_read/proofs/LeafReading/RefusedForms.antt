-- Leaves and flags at types that take neither.
use Rattle.std.proofs.Common.{ℕ, ◌≡◌, ◌≢◌, ◌⊎◌, inl, inr, List, Err, ◌∙◌, sym, subst}
use Rattle.wave_grammar.specs.FaultOrder.{Order}
use Rattle.wave_wasm.specs.Types as type
use Rattle.wave_wasm.specs.Types.{TypeTree, kind_of}
use Rattle.wave_wasm.specs.Values.{Value}
use Rattle.wave_wasm.specs.ConstructorContracts.{IsOfListKind}
use Rattle.wave_wasm.specs.declared.wasm.WasmTypeKind.{WasmTypeKind}
use Rattle.wave_wasm.specs.declared.wasm.WasmTypeKind.TheVariants as kinds
use Rattle.wave_lex.specs.Errors.{Diagnostic}
use Rattle.wave_lex.specs.declared.error.ParserErrorKind.TheVariants as why
use Rattle.wave_grammar.specs.NodeTree.{NodeTree, type_of}
use Rattle.wave_grammar.specs.NodeAccessors.{RefusedAs}
use Rattle.wave_grammar.specs.declared.form.NodeType.{NodeType}
use Rattle.wave_grammar.specs.declared.form.NodeType.TheVariants as kind
use Rattle.wave_leaf.specs.Leaves.{IsSimpleOrUnreadable}
use Rattle.wave_grammar.specs.NodeParts.{IsOneToken}
use Rattle.wave_leaf.specs.Reading.{IsReadAs}
use Rattle.wave_read.specs.Flat.{IsFlatAt}
use Rattle.wave_read.proofs.PayloadReading.CaseNodes.{variant_other_form}
use Rattle.wave_read.proofs.LeafReading.Enums.{enum_other_form}
use Rattle.wave_read.proofs.FlagReading.ByNames as flag_reading
use Rattle.wave_read.proofs.ItemReading.Lists.{other_than_list}
use Rattle.wave_read.proofs.MapReading.Entries as map_entries
use Rattle.wave_read.proofs.PayloadReading.Options.{other_option}
use Rattle.wave_read.proofs.RecordReading.Faults as record_faults
use Rattle.wave_read.proofs.PayloadReading.Results.{other_result}
use Rattle.wave_read.proofs.ItemReading.Tuples.{other_than_tuple}

-- a node that is no list, tuple, entries, `{}` or flags
abbrev pub IsNoRow : NodeType → Type 0
IsNoRow ty = (ty ≢ kind.List) × (ty ≢ kind.Tuple) × (ty ≢ kind.TupleSet) × (ty ≢ kind.EmptySet)

-- a leaf is none
pub leaf_no_row : (ty : NodeType) → IsOneToken ty → IsNoRow ty × (ty ≢ kind.Flags)
leaf_no_row ty h = ((λ e. subst IsOneToken e h, λ e. subst IsOneToken e h, λ e. subst IsOneToken e h, λ e. subst IsOneToken e h), λ e. subst IsOneToken e h)

-- nor are flags
pub flags_no_row : IsNoRow kind.Flags
flags_no_row = (λ e. cc, λ e. cc, λ e. cc, λ e. cc)

-- a type of no kind with parts or names
pub others_simple : (T : TypeTree) (k : WasmTypeKind) → k ≡ kind_of T → k ≢ kinds.List → k ≢ kinds.FixedLengthList → k ≢ kinds.Record → k ≢ kinds.Tuple → k ≢ kinds.Variant → k ≢ kinds.Enum → k ≢ kinds.Option → k ≢ kinds.Result → k ≢ kinds.Flags → k ≢ kinds.Map → IsSimpleOrUnreadable T
others_simple (type.simple S) k is list fixed record_kind tuple variant enum option result flags map = tt
others_simple (type.unreadable u) k is list fixed record_kind tuple variant enum option result flags map = tt
others_simple (type.list E) k is list fixed record_kind tuple variant enum option result flags map = absurd (list is)
others_simple (type.fixed E n) k is list fixed record_kind tuple variant enum option result flags map = absurd (fixed is)
others_simple (type.record_type fs) k is list fixed record_kind tuple variant enum option result flags map = absurd (record_kind is)
others_simple (type.tuple Ts) k is list fixed record_kind tuple variant enum option result flags map = absurd (tuple is)
others_simple (type.variant cs) k is list fixed record_kind tuple variant enum option result flags map = absurd (variant is)
others_simple (type.enum names) k is list fixed record_kind tuple variant enum option result flags map = absurd (enum is)
others_simple (type.option P) k is list fixed record_kind tuple variant enum option result flags map = absurd (option is)
others_simple (type.result A B) k is list fixed record_kind tuple variant enum option result flags map = absurd (result is)
others_simple (type.flags names) k is list fixed record_kind tuple variant enum option result flags map = absurd (flags is)
others_simple (type.map K W) k is list fixed record_kind tuple variant enum option result flags map = absurd (map is)

module _ {V : Type 0} (tree : V → Value) (of : V → TypeTree → Type 0) (Full : TypeTree → Type 0) (o w : Order) (T : TypeTree) (k : WasmTypeKind) (is : k ≡ kind_of T) (source : List ℕ) (n : NodeTree) (e : Diagnostic) (refused : RefusedAs why.InvalidType n e) where
  -- such a node at a list, a tuple, a record or a map
  pub no_row_refused : IsNoRow (type_of n) → (k ≡ kinds.List) ⊎ (k ≡ kinds.FixedLengthList) ⊎ (k ≡ kinds.Tuple) ⊎ (k ≡ kinds.Record) ⊎ (k ≡ kinds.Map) → IsReadAs tree of Full o w T source n (Err e)
  no_row_refused h (inl f) = other_than_list tree of Full o w T source n e (subst IsOfListKind (sym f ∙ is) tt) h.0 refused
  no_row_refused h (inr (inl f)) = other_than_list tree of Full o w T source n e (subst IsOfListKind (sym f ∙ is) tt) h.0 refused
  no_row_refused h (inr (inr (inl f))) = other_than_tuple tree of Full o w T source n e (sym is ∙ f) h.1 refused
  no_row_refused h (inr (inr (inr (inl f)))) = record_faults.other_form tree of Full o w T source n e (sym is ∙ f) h.2 refused
  no_row_refused h (inr (inr (inr (inr f)))) = map_entries.other_form tree of Full o w T source n e (sym is ∙ f) h.2 h.3 refused

  -- a leaf there, or at flags
  pub leaf_refused : IsOneToken (type_of n) → (k ≡ kinds.List) ⊎ (k ≡ kinds.FixedLengthList) ⊎ (k ≡ kinds.Tuple) ⊎ (k ≡ kinds.Record) ⊎ (k ≡ kinds.Map) ⊎ (k ≡ kinds.Flags) → IsReadAs tree of Full o w T source n (Err e)
  leaf_refused token (inl f) = no_row_refused (leaf_no_row (type_of n) token).0 (inl f)
  leaf_refused token (inr (inl f)) = no_row_refused (leaf_no_row (type_of n) token).0 (inr (inl f))
  leaf_refused token (inr (inr (inl f))) = no_row_refused (leaf_no_row (type_of n) token).0 (inr (inr (inl f)))
  leaf_refused token (inr (inr (inr (inl f)))) = no_row_refused (leaf_no_row (type_of n) token).0 (inr (inr (inr (inl f))))
  leaf_refused token (inr (inr (inr (inr (inl f))))) = no_row_refused (leaf_no_row (type_of n) token).0 (inr (inr (inr (inr f))))
  leaf_refused token (inr (inr (inr (inr (inr f))))) =
      let h = leaf_no_row (type_of n) token in
      flag_reading.other_form tree of Full o w T source n e (sym f ∙ is) h.1 h.0.3 refused

  -- flags at any type but flags that takes names or parts
  pub flags_refused : type_of n ≡ kind.Flags → ((U : TypeTree) → IsFlatAt T (type_of n) U → ⊥) → (k ≡ kinds.List) ⊎ (k ≡ kinds.FixedLengthList) ⊎ (k ≡ kinds.Tuple) ⊎ (k ≡ kinds.Record) ⊎ (k ≡ kinds.Map) ⊎ (k ≡ kinds.Variant) ⊎ (k ≡ kinds.Enum) ⊎ (k ≡ kinds.Option) ⊎ (k ≡ kinds.Result) → IsReadAs tree of Full o w T source n (Err e)
  flags_refused ty flat (inl f) = no_row_refused (subst IsNoRow (sym ty) flags_no_row) (inl f)
  flags_refused ty flat (inr (inl f)) = no_row_refused (subst IsNoRow (sym ty) flags_no_row) (inr (inl f))
  flags_refused ty flat (inr (inr (inl f))) = no_row_refused (subst IsNoRow (sym ty) flags_no_row) (inr (inr (inl f)))
  flags_refused ty flat (inr (inr (inr (inl f)))) = no_row_refused (subst IsNoRow (sym ty) flags_no_row) (inr (inr (inr (inl f))))
  flags_refused ty flat (inr (inr (inr (inr (inl f))))) = no_row_refused (subst IsNoRow (sym ty) flags_no_row) (inr (inr (inr (inr f))))
  flags_refused ty flat (inr (inr (inr (inr (inr (inl f)))))) = variant_other_form tree of Full o w T source n e (sym is ∙ f) (λ x. cc (sym ty ∙ x)) (λ x. cc (sym ty ∙ x)) refused
  flags_refused ty flat (inr (inr (inr (inr (inr (inr (inl f))))))) = enum_other_form tree of Full o w T source n e (sym is ∙ f) (λ x. cc (sym ty ∙ x)) refused
  flags_refused ty flat (inr (inr (inr (inr (inr (inr (inr (inl f)))))))) = other_option tree of Full o w T source n e (sym is ∙ f) (λ x. cc (sym ty ∙ x)) (λ x. cc (sym ty ∙ x)) flat refused
  flags_refused ty flat (inr (inr (inr (inr (inr (inr (inr (inr f)))))))) = other_result tree of Full o w T source n e (sym is ∙ f) (λ x. cc (sym ty ∙ x)) (λ x. cc (sym ty ∙ x)) flat refused
