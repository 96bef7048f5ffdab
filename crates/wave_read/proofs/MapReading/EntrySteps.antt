-- What is known of the entries of a map after one part more, and at the end.
use Rattle.std.proofs.Common.{ℕ, ◌≡◌, List, [], ◌∷◌, ◌++◌, Option, Some, None, option_map, Result, Ok, Err, IfOk, IfErr, IfSome, Vec, Global, refl, sym, ◌∙◌, subst}
use Rattle.std.specs.declared.ops.Range.{Range}
use Rattle.wave_grammar.specs.FaultOrder.{Order}
use Rattle.wave_wasm.specs.Lists.{AllOf}
use Rattle.wave_wasm.specs.Types as type
use Rattle.wave_wasm.specs.Types.{TypeTree, HasDistinctNames}
use Rattle.wave_wasm.specs.Values.{Value}
use Rattle.wave_wasm.specs.HasType.{HasType}
use Rattle.wave_wasm.specs.Merge.{merge}
use Rattle.wave_wasm.specs.Borrowed.{denoted}
use Rattle.wave_wasm.specs.ConstructorContracts.{MakesMap, FullMap, TypedMap, HasFullParts}
use Rattle.wave_wasm.specs.declared.wasm.WasmValueError.{WasmValueError}
use Rattle.wave_lex.specs.Errors.{Diagnostic}
use Rattle.wave_grammar.specs.NodeTree.{NodeTree, node, node_trees}
use Rattle.wave_grammar.specs.TypedReading.{IsKeyOf}
use Rattle.wave_grammar.specs.PartReading.{AnswersMapKey}
use Rattle.wave_grammar.specs.ErrorSpans.{RefusesIn}
use Rattle.wave_grammar.specs.declared.form.NodeType.TheVariants as kind
use Rattle.wave_grammar.proofs.ByKind.Maps.{IsMapOf, map_is, map_distinct, merged_of, same_texts}
use Rattle.wave_grammar.specs.NodeParts.{TakesKey, TakesPart}
use Rattle.wave_leaf.specs.Reading.{IsReadAs, IsReadWhereExpected, IsOfType}
use Rattle.wave_leaf.specs.Faults.{IsRefusedWhateverFollows}
use Rattle.wave_read.specs.MapParts.{AreReadInTurn, AreEntries, AreKeysOf, value_type_expected}
use Rattle.wave_leaf.specs.declared.fault.Fault.TheVariants as fault
use Rattle.wave_read.specs.declared.maps.Entries.{Entries}
use Rattle.wave_read.proofs.ReadErrors.RejectedValues.{reported_rejects}
use Rattle.wave_read.proofs.MapReading.Entries.{none_waits, one_waits, key_more, value_more, key_rejects, value_rejects, entries_built}
use Rattle.wave_leaf.specs.Errors.{IsBuiltOrMemory}

module _ {V : Type 0} (tree : V → Value) (of : V → TypeTree → Type 0) (Full : TypeTree → Type 0) (o w : Order) {X : Type 0} (type_tree : X → TypeTree) (T : TypeTree) (source : List ℕ) where
  -- after one entry more
  all_keys : (S : TypeTree) (es : List (V × V)) (key v : V) → AllOf (λ e. HasDistinctNames S → of e.0 S) es → (HasDistinctNames S → of key S) → AllOf (λ e. HasDistinctNames S → of e.0 S) (es ++ (key, v) ∷ [])
  all_keys S [] key v all one = (one, tt)
  all_keys S (e ∷ es) key v all one = (all.0, all_keys S es key v all.1 one)

  keys_of : (S : TypeTree) (es : List (V × V)) → HasDistinctNames S → AllOf (λ e. HasDistinctNames S → of e.0 S) es → AllOf (λ e. of e.0 S) es
  keys_of S [] distinct all = tt
  keys_of S (e ∷ es) distinct all = (all.0 distinct, keys_of S es distinct all.1)

  -- each value is of its type
  values_of : (S U : TypeTree) (ns : List NodeTree) (es : List (V × V)) (waits : Option V) → HasDistinctNames U → AreReadInTurn tree of Full w S U source ns es waits → AllOf (λ e. of e.1 U) es
  values_of S U [] [] None distinct h = tt
  values_of S U [] [] (Some key) distinct h = absurd h
  values_of S U [] (e ∷ es) waits distinct h = absurd h
  values_of S U (k ∷ []) [] waits distinct h = tt
  values_of S U (k ∷ []) (e ∷ es) waits distinct h = absurd h
  values_of S U (k ∷ n ∷ more) [] waits distinct h = tt
  values_of S U (k ∷ n ∷ more) (e ∷ es) waits distinct h = (h.1.typed distinct, values_of S U more es waits distinct h.2)

  module _ (children : List NodeTree) (x : Entries X V) (h : AreEntries type_tree tree of Full w T source children x) where
    parts_of : IsMapOf T (type_tree x.key_type.now) (type_tree x.value_type.now)
    parts_of = map_is type_tree T (Some (x.key_type, x.value_type)) (x.key_type, x.value_type) refl (sym h.parts_are)

    -- a key is expected where none waits
    read_for_key : TakesKey kind.TupleSet children → AreReadInTurn tree of Full w (type_tree x.key_type.now) (type_tree x.value_type.now) source children x.entries.items None
    read_for_key even =
        subst (AreReadInTurn tree of Full w (type_tree x.key_type.now) (type_tree x.value_type.now) source children x.entries.items) (none_waits tree of Full o w (type_tree x.key_type.now) (type_tree x.value_type.now) source children x.entries.items x.key even.0 h.read even.1) h.read

    -- a key was read
    pub key_taken : (k : NodeTree) (key : V) (keys : Option V) → TakesKey kind.TupleSet children → AnswersMapKey tree of Full (type_tree x.key_type.now) source k (Ok key) → IsOfType of (type_tree x.key_type.now) (Ok key) → keys ≡ Some key → AreEntries type_tree tree of Full w T source (children ++ k ∷ []) (record x { key = keys })
    key_taken k key keys even read typed is = record {
      type_is = h.type_is;
      parts_are = h.parts_are;
      read = subst (AreReadInTurn tree of Full w (type_tree x.key_type.now) (type_tree x.value_type.now) source (children ++ k ∷ []) x.entries.items) (sym is) (key_more tree of Full o w (type_tree x.key_type.now) (type_tree x.value_type.now) source children x.entries.items k key (read_for_key even) read);
      keys = (h.keys.0, subst (λ (o : Option V). IfSome o (λ v. HasDistinctNames (type_tree x.key_type.now) → of v (type_tree x.key_type.now))) (sym is) typed);
    }

    -- a key was refused
    pub key_refused : (k : NodeTree) (e : Diagnostic) → HasFullParts Full → TakesKey kind.TupleSet children → AnswersMapKey tree of Full (type_tree x.key_type.now) source k (Err e) → (IsKeyOf source k → RefusesIn k e) → IsRefusedWhateverFollows tree of Full o w T source kind.TupleSet (children ++ k ∷ []) (fault.Part e)
    key_refused k e parts even blamed within =
        reported_rejects tree of Full o w T source kind.TupleSet (children ++ k ∷ []) e (λ more p. key_rejects tree of Full o w T (type_tree x.key_type.now) (type_tree x.value_type.now) source children more x.entries.items k p e parts_of parts (read_for_key even) blamed within)

    -- after the key that waits
    read_for_value : (key : V) → x.key ≡ Some key → AreReadInTurn tree of Full w (type_tree x.key_type.now) (type_tree x.value_type.now) source children x.entries.items (Some key)
    read_for_value key waits = subst (AreReadInTurn tree of Full w (type_tree x.key_type.now) (type_tree x.value_type.now) source children x.entries.items) waits h.read

    -- the value after the key that waits was read at its type
    expected_type : (key : V) (n : NodeTree) (r : Result V Diagnostic) → x.key ≡ Some key → IsReadWhereExpected tree of Full w w (denoted type_tree (value_type_expected x)) source n r → IsReadAs tree of Full w w (type_tree x.value_type.now) source n r
    expected_type key n r waits read = subst (λ (o : Option V). IsReadWhereExpected tree of Full w w (denoted type_tree (option_map (λ k. x.value_type) o)) source n r) waits read

    -- a value was read
    pub value_taken : (n : NodeTree) (r : Result V Diagnostic) (key v : V) (keys : Option V) (all : Vec (V × V) Global) → x.key ≡ Some key → r ≡ Ok v → IsReadWhereExpected tree of Full w w (denoted type_tree (value_type_expected x)) source n r → keys ≡ None → all.items ≡ x.entries.items ++ (key, v) ∷ [] → AreEntries type_tree tree of Full w T source (children ++ n ∷ []) (record x { entries = all; key = keys })
    value_taken n r key v keys all waits built read no_key is =
        let here : IsReadAs tree of Full w w (type_tree x.value_type.now) source n (Ok v) = subst (IsReadAs tree of Full w w (type_tree x.value_type.now) source n) built (expected_type key n r waits read) in
        let more : AreReadInTurn tree of Full w (type_tree x.key_type.now) (type_tree x.value_type.now) source (children ++ n ∷ []) (x.entries.items ++ (key, v) ∷ []) None = value_more tree of Full o w (type_tree x.key_type.now) (type_tree x.value_type.now) source children x.entries.items n key v (read_for_value key waits) here in
        record {
          type_is = h.type_is;
          parts_are = h.parts_are;
          read = subst (λ (l : List (V × V)). AreReadInTurn tree of Full w (type_tree x.key_type.now) (type_tree x.value_type.now) source (children ++ n ∷ []) l keys) (sym is) (subst (AreReadInTurn tree of Full w (type_tree x.key_type.now) (type_tree x.value_type.now) source (children ++ n ∷ []) (x.entries.items ++ (key, v) ∷ [])) (sym no_key) more);
          keys = subst (λ (l : List (V × V)). AreKeysOf of (type_tree x.key_type.now) l keys) (sym is) (subst (AreKeysOf of (type_tree x.key_type.now) (x.entries.items ++ (key, v) ∷ [])) (sym no_key) (all_keys (type_tree x.key_type.now) x.entries.items key v h.keys.0 (subst (λ (o : Option V). IfSome o (λ v. HasDistinctNames (type_tree x.key_type.now) → of v (type_tree x.key_type.now))) waits h.keys.1), tt));
        }

    -- a key waits where a value is expected
    key_before_value : TakesPart kind.TupleSet children → (key : V) × (x.key ≡ Some key)
    key_before_value odd = one_waits tree of Full o w (type_tree x.key_type.now) (type_tree x.value_type.now) source children x.entries.items x.key odd.0 h.read odd.1

    pub no_value_alone : {A : Type 0} → TakesPart kind.TupleSet children → x.key ≡ None → A
    no_value_alone odd waits =
        let (key, is) = key_before_value odd in
        absurd (cc (sym waits ∙ is))

    -- a value was refused
    pub value_refused : (n : NodeTree) (r : Result V Diagnostic) (e : Diagnostic) → HasFullParts Full → TakesPart kind.TupleSet children → r ≡ Err e → IsReadWhereExpected tree of Full w w (denoted type_tree (value_type_expected x)) source n r → IsRefusedWhateverFollows tree of Full o w T source kind.TupleSet (children ++ n ∷ []) (fault.Part e)
    value_refused n r e parts odd built read =
        let (key, waits) = key_before_value odd in
        let here : IsReadAs tree of Full w w (type_tree x.value_type.now) source n (Err e) = subst (IsReadAs tree of Full w w (type_tree x.value_type.now) source n) built (expected_type key n r waits read) in
        reported_rejects tree of Full o w T source kind.TupleSet (children ++ n ∷ []) e (λ more p. value_rejects tree of Full o w T (type_tree x.key_type.now) (type_tree x.value_type.now) source children more x.entries.items key n p e parts_of parts (read_for_value key waits) here)

    -- a map of the type has the merged entries
    pub map_typed : (handed : List (V × V)) → handed ≡ merge (same_texts tree of Full) x.entries.items → HasDistinctNames T → TypedMap of T handed
    map_typed handed merged distinct =
        let m = parts_of in
        let U = type_tree x.value_type.now in
        let keys : AllOf (λ (e : V × V). of e.0 (type.simple m.key)) x.entries.items = subst (λ (S : TypeTree). AllOf (λ (e : V × V). of e.0 S) x.entries.items) m.key_is (keys_of (type_tree x.key_type.now) x.entries.items (subst HasDistinctNames (sym m.key_is) tt) h.keys.0) in
        let values : AllOf (λ (e : V × V). of e.1 U) x.entries.items = values_of (type_tree x.key_type.now) U children x.entries.items x.key (map_distinct T (type_tree x.key_type.now) U m distinct) h.read in
        subst (λ (W : TypeTree). TypedMap of W handed) (sym m.is) (subst (AllOf (λ (e : V × V). of e.0 (type.simple m.key) × of e.1 U)) (sym merged) (merged_of tree of Full m.key U x.entries.items keys values))

    -- the map was made of the merged entries, or its constructor refused
    pub finish_built : (p : Range ℕ) (handed : List (V × V)) (built_map : Result V WasmValueError) (r : Result V Diagnostic) → ((v : V) (U : TypeTree) → of v U → HasType U (tree v)) → handed ≡ merge (same_texts tree of Full) x.entries.items → IfOk built_map (MakesMap tree of (type_tree x.ty.now) handed) → IfErr built_map (FullMap of Full (type_tree x.ty.now) handed) → IsBuiltOrMemory (node kind.TupleSet p (node_trees children)) built_map r → IsReadAs tree of Full o w T source (node kind.TupleSet p (node_trees children)) r
    finish_built p handed built_map r fits merged ok full done =
        entries_built tree of Full o w T (type_tree x.key_type.now) (type_tree x.value_type.now) source children x.entries.items handed x.key p built_map r parts_of h.read fits merged (subst (λ (U : TypeTree). IfOk built_map (MakesMap tree of U handed)) h.type_is ok) (subst (λ (U : TypeTree). IfErr built_map (FullMap of Full U handed)) h.type_is full) done
