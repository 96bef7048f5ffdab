-- The type at which a node is read: the one that is expected, or that of the flat payload that the node stands for.
use Rattle.std.proofs.Common.{ℕ, IfSome, IfNone, MatchOption, ◌≡◌, ◌≢◌, ◌⊎◌, inl, inr, Bool, true, false, List, [], length, Option, Some, None, Bor, Err, refl, sym, ap, ◌∙◌, subst}
use Rattle.std.specs.declared.ops.Range.{Range}
use Rattle.wave_wasm.specs.Types as type
use Rattle.wave_wasm.specs.Types.{TypeTree, Types, kind_of, tuple_parts, type_list, count_of}
use Rattle.wave_wasm.specs.declared.wasm.WasmTypeKind.TheVariants as kinds
use Rattle.wave_wasm.specs.Values.{Value}
use Rattle.wave_wasm.specs.Borrowed.{denoted_all}
use Rattle.wave_lex.specs.Errors.{Diagnostic}
use Rattle.wave_grammar.specs.FaultOrder.{Order, by_type}
use Rattle.wave_grammar.specs.NodeParts.{IsOfParts}
use Rattle.wave_grammar.specs.NodeTree.{NodeTree, node, node_trees}
use Rattle.wave_grammar.specs.declared.form.NodeType.{NodeType}
use Rattle.wave_grammar.specs.declared.form.NodeType.TheVariants as node_type
use Rattle.wave_grammar.proofs.ByKind.Tuples.{as_denoted, counted}
use Rattle.wave_leaf.specs.Leaves.{IsSimpleOrUnreadable}
use Rattle.wave_leaf.specs.PlainReading.{IsReadSparing}
use Rattle.wave_leaf.specs.Faults.{IsOfKind, Reports}
use Rattle.wave_read.specs.Flat.{IsWrapper, IsCounted, IsFlatAt, IsReadAt, ReadsNoRecord}
use Rattle.wave_read.specs.KeptParts.{AreKeptWhereExpected, AreOfType}
use Rattle.wave_read.specs.Payloads.{result_node}
use Rattle.wave_read.specs.TupleParts.{IsRow}
use Rattle.wave_read.specs.PartsOfKinds.{AreRefusedAtOnce, AreParts, IsSimpleAt}
use Rattle.wave_leaf.specs.declared.fault.Fault.{Fault}
use Rattle.wave_read.specs.declared.parts.Partial.{Partial}
use Rattle.wave_read.specs.declared.parts.Partial.TheVariants as parts
use Rattle.wave_read.specs.declared.tuples.TupleItems.{TupleItems}
use Rattle.wave_read.specs.declared.values.Frame.{Frame}

-- the flat payload's type is one
one_flat : (T U W : TypeTree) (ty : NodeType) → IsFlatAt T ty U → IsFlatAt T ty W → U ≡ W
one_flat (type.option P) U W ty h k = h.0 ∙ sym k.0
one_flat (type.result (type.a_type A) B) U W ty h k = h.0 ∙ sym k.0
one_flat _ U W ty h k = absurd h

-- no record and no tuple wraps a flat payload
flat_record : (T U : TypeTree) (ty : NodeType) → IsFlatAt T ty U → kind_of T ≢ kinds.Record
flat_record (type.option P) U ty h e = cc
flat_record (type.result (type.a_type A) B) U ty h e = cc
flat_record _ U ty h e = absurd h

flat_kind : (T U : TypeTree) (ty : NodeType) → IsFlatAt T ty U → kind_of T ≢ kinds.Tuple
flat_kind (type.option P) U ty h e = cc
flat_kind (type.result (type.a_type A) B) U ty h e = cc
flat_kind _ U ty h e = absurd h

flat_simple : (T U : TypeTree) (ty : NodeType) → IsFlatAt T ty U → IsSimpleOrUnreadable T → ⊥
flat_simple (type.simple S) U ty h simple = h
flat_simple (type.unreadable u) U ty h simple = h
flat_simple _ U ty h simple = absurd simple

flat_tuple : (T U : TypeTree) (ty : NodeType) (Ts : Types) → IsFlatAt T ty U → type.tuple Ts ≡ T → ⊥
flat_tuple T U ty Ts h e = flat_kind T U ty h (ap kind_of (sym e))

module _ {S : Type 0} (type_tree : S → TypeTree) (T : TypeTree) (ty : NodeType) where
  -- the type at which the node is read is that of the parts
  read_within : (wrapper : Option (Bor S)) (x : Bor S) → IsWrapper type_tree T ty wrapper x → IsReadAt T ty (type_tree x.now)
  read_within None x h = inl h.0
  read_within (Some whole) x h = inr h.1

  -- where they are of another kind no record is read
  pub no_record : (wrapper : Option (Bor S)) (x : Bor S) → IsWrapper type_tree T ty wrapper x → kind_of (type_tree x.now) ≢ kinds.Record → ReadsNoRecord T ty
  no_record None x h other U (inl is) at_set e = other (ap kind_of h.0 ∙ (ap kind_of (sym is) ∙ e))
  no_record None x h other U (inr flat) at_set e = h.1 U flat
  no_record (Some whole) x h other U (inl is) at_set e = flat_record T (type_tree x.now) ty h.1 (ap kind_of (sym is) ∙ e)
  no_record (Some whole) x h other U (inr flat) at_set e = other (ap kind_of (one_flat T (type_tree x.now) U ty h.1 flat) ∙ e)

-- ---- tuples

module _ {S V : Type 0} (type_tree : S → TypeTree) (tree : V → Value) (of : V → TypeTree → Type 0) (Full : TypeTree → Type 0) (w : Order) (source : List ℕ) where
  -- parts of a node of a tuple, of a type that could be asked for its parts
  abbrev IsRowOrSimple : TypeTree → Partial S V → Type 0
  IsRowOrSimple T x = ((r : TupleItems S V) × (x ≡ parts.TupleItems r) × IsRow type_tree tree of Full w T source [] r) ⊎ IsSimpleOrUnreadable T

  of_tuple : (T : TypeTree) (ty : NodeType) (x : Partial S V) → ((f : Fault) → x ≡ parts.Faulty f → ⊥) → ty ≡ node_type.Tuple → AreParts type_tree tree of Full w T source ty [] x → IsRowOrSimple T x
  of_tuple T ty (parts.Faulty f) faulty is h = absurd (faulty f refl)
  of_tuple T ty (parts.Simple y) faulty is h = inr h.1
  of_tuple T ty (parts.Empty y) faulty is h = absurd (cc (sym is ∙ h.0))
  of_tuple T ty (parts.Items y) faulty is h = absurd (cc (sym is ∙ h.0))
  of_tuple T ty (parts.TupleItems y) faulty is h = inl (y, refl, h.1)
  of_tuple T ty (parts.OfSome y) faulty is h = absurd (cc (sym is ∙ h.0))
  of_tuple T ty (parts.OfResult y) faulty is h = absurd (no_result y.is_ok (sym is ∙ h.0))
    where
      no_result : (b : Bool) → node_type.Tuple ≡ result_node b → ⊥
      no_result true e = cc
      no_result false e = cc
  of_tuple T ty (parts.OfCase y) faulty is h = absurd (cc (sym is ∙ h.0))
  of_tuple T ty (parts.Fields y) faulty is h = absurd (cc (sym is ∙ h.0))
  of_tuple T ty (parts.Entries y) faulty is h = absurd (cc (sym is ∙ h.0))

  -- the row of a tuple has as many types as the tuple
  row_counted : (Ts : Types) (U : TypeTree) (x : Partial S V) (count : ℕ) → type.tuple Ts ≡ U → ((r : TupleItems S V) → x ≡ parts.TupleItems r → count ≡ length r.types.items) → IsRowOrSimple U x → count ≡ count_of Ts
  row_counted Ts U x count is rows (inl (r, row, h)) =
      let types : denoted_all type_tree r.types.items ≡ type_list Ts = h.parts ∙ ap tuple_parts (sym is) in
      rows r row ∙ (sym (as_denoted type_tree r.types.items) ∙ (ap length types ∙ counted Ts))
  row_counted Ts U x count is rows (inr simple) = absurd (subst IsSimpleOrUnreadable (sym is) simple)

  -- neither a row nor a simple type wraps a flat payload
  none_wrapped : (T U : TypeTree) (ty : NodeType) (x : Partial S V) → IsFlatAt T ty U → IsRowOrSimple T x → ⊥
  none_wrapped T U ty x flat (inl (r, row, h)) = flat_kind T U ty flat h.kind
  none_wrapped T U ty x flat (inr simple) = flat_simple T U ty flat simple

  -- where the parts have no fault, and a row as many types as there are items, the tuple that is read has so many
  pub counted_items : (T : TypeTree) (ty : NodeType) (x : Frame S V) (count : ℕ) → ((f : Fault) → x.parts ≡ parts.Faulty f → ⊥) → ((r : TupleItems S V) → x.parts ≡ parts.TupleItems r → count ≡ length r.types.items) → AreOfType type_tree tree of Full w T source ty [] x.wrapper x → IsCounted T ty count
  counted_items T ty x count faulty rows h Ts read is = by x.wrapper h read
    where
      by : (wrapper : Option (Bor S)) → AreOfType type_tree tree of Full w T source ty [] wrapper x → IsReadAt T ty (type.tuple Ts) → count ≡ count_of Ts
      by None h (inl same) = row_counted Ts T x.parts count same rows (of_tuple T ty x.parts faulty is h)
      by None h (inr flat) = absurd (none_wrapped T (type.tuple Ts) ty x.parts flat (of_tuple T ty x.parts faulty is h))
      by (Some whole) h (inl same) = absurd (flat_tuple T h.1.0 ty Ts h.1.1 same)
      by (Some whole) h (inr flat) = row_counted Ts h.1.0 x.parts count (one_flat T (type.tuple Ts) h.1.0 ty flat h.1.1) rows (of_tuple h.1.0 ty x.parts faulty is h.1.2)

module _ {S V : Type 0} (type_tree : S → TypeTree) (tree : V → Value) (of : V → TypeTree → Type 0) (Full : TypeTree → Type 0) (x : Frame S V) (count : ℕ) where
  -- the tuple that is read at a node of these parts, of which none was read yet, has so many items
  abbrev AreCounted : Type 0
  AreCounted =
      (w : Order) (T : TypeTree) (source : List ℕ) (ty : NodeType) → IsOfParts ty → AreKeptWhereExpected type_tree tree of Full w (Some T) source ty [] x
      → AreRefusedAtOnce type_tree tree of Full T ty x.parts → IsCounted T ty count

  -- where a row has as many types
  pub row_counts : (row : TupleItems S V) (r : Option Diagnostic) → x.parts ≡ parts.TupleItems row → MatchOption r (count ≡ length row.types.items) (λ _. count ≢ length row.types.items) → IfNone r AreCounted
  row_counts row None is counts = λ w T source ty of_parts kept rejected.
      counted_items type_tree tree of Full w source T ty x count (λ f e. no_fault f (sym is ∙ e)) (λ s same. subst (λ (z : TupleItems S V). count ≡ length z.types.items) (one_row row s (sym is ∙ same)) counts) kept.0
    where
      no_fault : (f : Fault) → parts.TupleItems row ≡ parts.Faulty f → ⊥
      no_fault f e = cc

      one_row : (a b : TupleItems S V) → parts.TupleItems a ≡ parts.TupleItems b → a ≡ b
      one_row a b e = cc
  row_counts row (Some e) is counts = tt

  -- where the parts are neither a row nor have a fault
  pub others_count : ((f : Fault) → x.parts ≡ parts.Faulty f → ⊥) → ((row : TupleItems S V) → x.parts ≡ parts.TupleItems row → ⊥) → AreCounted
  others_count faulty none w T source ty of_parts kept rejected = counted_items type_tree tree of Full w source T ty x count faulty (λ row is. absurd (none row is)) kept.0

  module _ (f : Fault) (is : x.parts ≡ parts.Faulty f) where
    -- a fault of parts of which none was read yet is of its kind alone
    pub fault_counts : (r : Option Diagnostic) (p : Range ℕ) → MatchOption r (IsOfKind f → ⊥) (Reports f p) → IfNone r AreCounted
    fault_counts None p none = λ w T source ty of_parts kept rejected. absurd (none (rejected f is).0)
    fault_counts (Some e) p reported = tt

    -- and is that of the whole, in whatever order
    pub fault_answered : (r : Option Diagnostic) (p : Range ℕ) → MatchOption r (IsOfKind f → ⊥) (Reports f p)
        → IfSome r (λ e. (w : Order) (expected : Option TypeTree) (source : List ℕ) (ty : NodeType) (children : List NodeTree) → IsOfParts ty → length children ≡ count → AreKeptWhereExpected type_tree tree of Full w expected source ty [] x
        → ((T : TypeTree) → expected ≡ Some T → AreRefusedAtOnce type_tree tree of Full T ty x.parts) → IsReadSparing tree of Full by_type w expected source (node ty p (node_trees children)) (Err e))
    fault_answered None p none = tt
    fault_answered (Some e) p reported = answered
      where
        answered : (w : Order) (expected : Option TypeTree) (source : List ℕ) (ty : NodeType) (children : List NodeTree) → IsOfParts ty → length children ≡ count → AreKeptWhereExpected type_tree tree of Full w expected source ty [] x → ((T : TypeTree) → expected ≡ Some T → AreRefusedAtOnce type_tree tree of Full T ty x.parts) → IsReadSparing tree of Full by_type w expected source (node ty p (node_trees children)) (Err e)
        answered w None source ty children of_parts long kept rejected = (tt, tt)
        answered w (Some T) source ty children of_parts long kept rejected = (
          (rejected T refl f is).1 by_type w source of_parts children p e reported,
          λ plain. absurd (subst (IsSimpleAt type_tree T) is (kept.1 plain)),
        )
