-- Tuples that are refused for the number of their items before any of them is read.
use Rattle.std.proofs.Common.{ℕ, ◌≡◌, ◌≢◌, refl, List, [], length, Option, Some, None, Err, Bor, sym, ◌∙◌, subst, MatchOption}
use Rattle.std.specs.Prelude.{IfSome}
use Rattle.std.specs.declared.ops.Range.{Range}
use Rattle.wave_grammar.specs.FaultOrder.{Order, by_type}
use Rattle.wave_wasm.specs.Types.{TypeTree}
use Rattle.wave_wasm.specs.Values.{Value}
use Rattle.wave_wasm.specs.ValueErrors.{wrong_number}
use Rattle.wave_wasm.specs.Borrowed.{denoted_all}
use Rattle.wave_wasm.specs.ConstructorContracts.{HasFullParts}
use Rattle.wave_lex.specs.Errors.{Diagnostic, refusal_of, caused}
use Rattle.wave_grammar.specs.NodeTree.{NodeTree, node, node_trees}
use Rattle.wave_grammar.specs.declared.form.NodeType.{NodeType}
use Rattle.wave_grammar.specs.declared.form.NodeType.TheVariants as kind
use Rattle.wave_leaf.specs.PlainReading.{IsReadSparing}
use Rattle.wave_leaf.specs.Reading.{IsReadAs}
use Rattle.wave_read.specs.KeptParts.{AreKeptWhereExpected, AreOfType}
use Rattle.wave_grammar.specs.NodeParts.{IsOfParts}
use Rattle.wave_grammar.proofs.ByKind.Tuples.{as_denoted}
use Rattle.wave_read.specs.PartsOfKinds.{AreRefusedAtOnce, IsSimpleAt, AreParts}
use Rattle.wave_read.specs.TupleParts.{IsRow}
use Rattle.wave_read.specs.declared.parts.Partial.TheVariants as parts
use Rattle.wave_read.specs.declared.tuples.TupleItems.{TupleItems}
use Rattle.wave_read.specs.declared.values.Frame.{Frame}
use Rattle.wave_read.proofs.PayloadReading.FlatValues.{flat_refused}
use Rattle.wave_read.proofs.ItemReading.Tuples.{count_refused}

module _ {S V : Type 0} (type_tree : S → TypeTree) (tree : V → Value) (of : V → TypeTree → Type 0) (Full : TypeTree → Type 0) (w : Order) (source : List ℕ) (place : Range ℕ) (children : List NodeTree) (row : TupleItems S V) (e : Diagnostic) where
  row_reported : (T : TypeTree) (ty : NodeType) → (ty ≡ kind.Tuple) × IsRow type_tree tree of Full w T source [] row → length children ≢ length row.types.items → refusal_of e ≡ caused (wrong_number (length row.types.items) (length children)) → e.span ≡ place → IsReadAs tree of Full by_type w T source (node ty place (node_trees children)) (Err e)
  row_reported T ty (is, h) apart refused stands =
      subst (λ (k : NodeType). IsReadAs tree of Full by_type w T source (node k place (node_trees children)) (Err e)) (sym is)
      (count_refused tree of Full by_type w T (denoted_all type_tree row.types.items) source place children (length row.types.items) (length children) e h.kind h.parts (sym (as_denoted type_tree row.types.items)) refl apart (λ Ts is distinct items nodes. tt) refused stands)

  -- where no part was read yet, another number of items than of types is told of the whole
  pub count_reported : HasFullParts Full → (expected : Option TypeTree) (ty : NodeType) (x : Frame S V) → x.parts ≡ parts.TupleItems row → length children ≢ length row.types.items → refusal_of e ≡ caused (wrong_number (length row.types.items) (length children)) → e.span ≡ place → AreKeptWhereExpected type_tree tree of Full w expected source ty [] x → IsReadSparing tree of Full by_type w expected source (node ty place (node_trees children)) (Err e)
  count_reported full None ty x is apart refused stands bare = (tt, tt)
  count_reported full (Some T) ty x is apart refused stands h = (
    by x.wrapper h.0,
    λ plain. absurd (subst (IsSimpleAt type_tree T) is (h.1 plain)),
  )
    where
      by : (wrapper : Option (Bor S)) → AreOfType type_tree tree of Full w T source ty [] wrapper x → IsReadAs tree of Full by_type w T source (node ty place (node_trees children)) (Err e)
      by None h = row_reported T ty (subst (AreParts type_tree tree of Full w T source ty []) is h) apart refused stands
      by (Some whole) h =
          flat_refused tree of Full by_type w T h.1.0 source (node ty place (node_trees children)) e full h.1.1
          (row_reported h.1.0 ty (subst (AreParts type_tree tree of Full w h.1.0 source ty []) is h.1.2) apart refused stands)

module _ {S V : Type 0} (type_tree : S → TypeTree) (tree : V → Value) (of : V → TypeTree → Type 0) (Full : TypeTree → Type 0) (place : Range ℕ) (count : ℕ) (row : TupleItems S V) (x : Frame S V) where
  -- so it is where it is reported
  pub count_answered : (r : Option Diagnostic) → HasFullParts Full → x.parts ≡ parts.TupleItems row → MatchOption r (count ≡ length row.types.items) (λ _. count ≢ length row.types.items) → IfSome r (λ e. refusal_of e ≡ caused (wrong_number (length row.types.items) count)) → IfSome r (λ e. e.span ≡ place)
      → IfSome r (λ e. (w : Order) (expected : Option TypeTree) (source : List ℕ) (ty : NodeType) (children : List NodeTree) → IsOfParts ty → length children ≡ count → AreKeptWhereExpected type_tree tree of Full w expected source ty [] x
      → ((T : TypeTree) → expected ≡ Some T → AreRefusedAtOnce type_tree tree of Full T ty x.parts) → IsReadSparing tree of Full by_type w expected source (node ty place (node_trees children)) (Err e))
  count_answered None full is apart refused stands = tt
  count_answered (Some e) full is apart refused stands = λ w expected source ty children of_parts long kept rejected.
      count_reported type_tree tree of Full w source place children row e full expected ty x is (λ same. apart (sym long ∙ same)) (subst (λ (n : ℕ). refusal_of e ≡ caused (wrong_number (length row.types.items) n)) (sym long) refused) stands kept
