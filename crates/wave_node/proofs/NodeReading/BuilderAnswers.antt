-- What the builder of a type makes of a node, and what a keyword is at a type.
use Rattle.std.proofs.Common.{◌≡◌, ◌≢◌, ◌⊎◌, inl, inr, ℕ, List, Option, Some, None, Bor, Result, Ok, Err, refl, sym, subst, ◌∙◌}
use Rattle.std.specs.declared.ops.Range.{Range}
use Rattle.wave_wasm.specs.Types.{TypeTree, kind_of}
use Rattle.wave_wasm.specs.Borrowed.{denoted}
use Rattle.wave_wasm.specs.Values.{Value}
use Rattle.wave_wasm.specs.TypeText.{kind_word}
use Rattle.wave_wasm.specs.ValueErrors.{unsupported_type}
use Rattle.wave_wasm.specs.declared.wasm.WasmTypeKind.{WasmTypeKind}
use Rattle.wave_wasm.specs.declared.wasm.WasmTypeKind.TheVariants as kinds
use Rattle.wave_lex.specs.Errors.{Diagnostic}
use Rattle.wave_lex.specs.declared.error.ParserErrorKind.TheVariants.{InvalidType}
use Rattle.std.specs.Prelude.{IfErr, IfSome, IfNone}
use Rattle.wave_grammar.specs.FaultOrder.{Order}
use Rattle.wave_grammar.specs.ErrorSpans.{RefusesIn, RefusesAt, RefusesInPart}
use Rattle.wave_grammar.specs.NodeTree.{NodeTree, type_of, place_of}
use Rattle.wave_grammar.specs.declared.form.NodeType.{NodeType}
use Rattle.wave_grammar.specs.declared.form.NodeType.TheVariants as kind
use Rattle.wave_read.specs.Flat.{IsWrapper, IsWrapperWhereExpected}
use Rattle.wave_grammar.specs.NodeAccessors.{RefusedAs}
use Rattle.wave_grammar.specs.PartReading.{IsCaused}
use Rattle.wave_leaf.specs.Reading.{IsReadAs, IsReadWhereExpected}
use Rattle.wave_node.specs.KeywordNodes.{RefusesKeyword}

module _ {V S : Type 0} (tree : V → Value) (of : V → TypeTree → Type 0) (Full : TypeTree → Type 0) (o w : Order) (type_tree : S → TypeTree) where
  -- where this type is expected, it is what is read at the type
  pub expected_read : (source : List ℕ) (n : NodeTree) (expected : Option (Bor S)) (ty : Bor S) (r : Result V Diagnostic) → expected ≡ Some ty → IsReadWhereExpected tree of Full o w (denoted type_tree expected) source n r → IsReadAs tree of Full o w (type_tree ty.now) source n r
  expected_read source n expected ty r e h = subst (λ (d : Option (Bor S)). IsReadWhereExpected tree of Full o w (denoted type_tree d) source n r) e h

  -- that of a record, where one is expected at entries
  pub record_read : (source : List ℕ) (n : NodeTree) (expected : Option TypeTree) (wrapper : Option (Bor S)) (x : Bor S) (r : Result V Diagnostic) → type_of n ≡ kind.TupleSet → IsWrapperWhereExpected type_tree expected kind.TupleSet wrapper x → ((T : TypeTree) → IsWrapper type_tree T (type_of n) wrapper x → IsReadAs tree of Full o w T source n r) → IsReadWhereExpected tree of Full o w expected source n r
  record_read source n None wrapper x r set is read = tt
  record_read source n (Some T) wrapper x r set is read = read T (subst (λ (ty : NodeType). IsWrapper type_tree T ty wrapper x) (sym set) is)

-- what follows from what holds of a value that is there, and from what holds where none is
pub where_some : {A : Type 0} (P Q : A → Type 0) (o : Option A) → ((x : A) → P x → Q x) → IfSome o P → IfSome o Q
where_some P Q None step h = tt
where_some P Q (Some x) step h = step x h

pub where_none : {A P Q : Type 0} (o : Option A) → (P → Q) → IfNone o P → IfNone o Q
where_none None step h = step h
where_none (Some x) step h = tt

-- a refusal of a field's node stands in it
pub field_reported : {V : Type 0} (n : NodeTree) (o : Option NodeTree) (m : NodeTree) (r : Result V Diagnostic) → o ≡ Some m → IfErr r (RefusesIn m) → IfErr r (RefusesInPart n o)
field_reported n o m (Ok v) is h = tt
field_reported n o m (Err e) is h = inr (m, is, h)

-- that of a field without a node stands at the record
pub left_reported : {V : Type 0} (n : NodeTree) (o : Option NodeTree) (r : Result V Diagnostic) → (p : Range ℕ) → place_of n ≡ p → IfErr r (λ e. (m : NodeTree) → place_of m ≡ p → RefusesAt m e) → IfErr r (RefusesInPart n o)
left_reported n o (Ok v) p here h = tt
left_reported n o (Err e) p here h = inl (h n here)

-- entries are no tuple and no list
pub set_no_row : (ty : NodeType) → ty ≡ kind.TupleSet → (ty ≡ kind.Tuple) ⊎ (ty ≡ kind.List) → ⊥
set_no_row ty set (inl is) = cc (sym set ∙ is)
set_no_row ty set (inr is) = cc (sym set ∙ is)

-- ---- keywords

-- at a type that has no values
pub keyword_unread : (T : TypeTree) (k : WasmTypeKind) (n : NodeTree) (e : Diagnostic) → k ≡ kind_of T → (k ≡ kinds.F32) ⊎ (k ≡ kinds.F64) ⊎ (k ≡ kinds.Unsupported) → IsCaused (unsupported_type (kind_word k)) n e → RefusesKeyword (kind_of T) n e
keyword_unread T k n e same which h = subst (λ (j : WasmTypeKind). RefusesKeyword j n e) same (by which)
  where
    at_kind : (j : WasmTypeKind) → k ≡ j → IsCaused (unsupported_type (kind_word j)) n e
    at_kind j is = subst (λ (i : WasmTypeKind). IsCaused (unsupported_type (kind_word i)) n e) is h

    by : (k ≡ kinds.F32) ⊎ (k ≡ kinds.F64) ⊎ (k ≡ kinds.Unsupported) → RefusesKeyword k n e
    by (inl is) = subst (λ (j : WasmTypeKind). RefusesKeyword j n e) (sym is) (at_kind kinds.F32 is)
    by (inr (inl is)) = subst (λ (j : WasmTypeKind). RefusesKeyword j n e) (sym is) (at_kind kinds.F64 is)
    by (inr (inr is)) = subst (λ (j : WasmTypeKind). RefusesKeyword j n e) (sym is) (at_kind kinds.Unsupported is)

other_keyword : (k : WasmTypeKind) (n : NodeTree) (e : Diagnostic) → k ≢ kinds.F32 → k ≢ kinds.F64 → k ≢ kinds.Unsupported → RefusedAs InvalidType n e → RefusesKeyword k n e
other_keyword kinds.F32 n e a b c h = absurd (a refl)
other_keyword kinds.F64 n e a b c h = absurd (b refl)
other_keyword kinds.Unsupported n e a b c h = absurd (c refl)
other_keyword _ n e a b c h = h

-- at another type
pub keyword_other : (T : TypeTree) (k : WasmTypeKind) (n : NodeTree) (e : Diagnostic) → k ≡ kind_of T → k ≢ kinds.F32 → k ≢ kinds.F64 → k ≢ kinds.Unsupported → RefusedAs InvalidType n e → RefusesKeyword (kind_of T) n e
keyword_other T k n e same a b c h = subst (λ (j : WasmTypeKind). RefusesKeyword j n e) same (other_keyword k n e a b c h)
