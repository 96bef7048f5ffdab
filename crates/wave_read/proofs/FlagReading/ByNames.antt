-- Flags are read by their names.
use Rattle.std.proofs.Common.{ℕ, ◌≡◌, ◌≢◌, inl, inr, List, [], ◌∷◌, map, Bor, Result, Ok, Err, IfOk, IfErr, refl, sym, ap, subst, ◌∙◌}
use Rattle.std.specs.Result.{IsErrAnd}
use Rattle.std.specs.BTreeMap.{BTreeMap}
use Rattle.std.specs.Map.{keys_of, values_of}
use Rattle.std.specs.declared.ops.Range.{Range}
use Rattle.wave_grammar.specs.FaultOrder.{Order}
use Rattle.wave_wasm.specs.Lists.{AllOf}
use Rattle.wave_wasm.specs.Names.{AreAllOf, AreDistinct, found_in}
use Rattle.wave_wasm.specs.Types.{TypeTree, HasDistinctNames, flags_names, kind_of}
use Rattle.wave_wasm.specs.Values.{Value}
use Rattle.wave_wasm.specs.Borrowed.{texts}
use Rattle.wave_wasm.specs.ConstructorContracts.{MakesFlags, FullFlags}
use Rattle.wave_wasm.specs.declared.wasm.WasmTypeKind.TheVariants as kinds
use Rattle.wave_wasm.specs.declared.wasm.WasmValueError.{WasmValueError}
use Rattle.wave_lex.specs.Errors.{Diagnostic}
use Rattle.wave_lex.specs.declared.error.ParserErrorKind.TheVariants.{InvalidType}
use Rattle.wave_grammar.specs.LeafTokens.{name_of}
use Rattle.wave_grammar.specs.SpannedTree.{slice}
use Rattle.wave_grammar.specs.NodeTree.{NodeTree, node_list, node_trees, type_of, place_of, children_of}
use Rattle.wave_grammar.specs.declared.form.NodeType.TheVariants as kind
use Rattle.wave_grammar.specs.NodeAccessors.{RefusedAs}
use Rattle.wave_grammar.specs.NodeFlags.{AreFlags, names_at, IsFirstUnknown, RefusesUnknown, RefusesFlags}
use Rattle.wave_grammar.specs.TypedReading.{IsBuilt}
use Rattle.wave_grammar.proofs.ByKind.Flags.{flags_is, flags_blame, flags_built, flags_of}
use Rattle.wave_grammar.proofs.ErrorSpans.Nodes.{at_in, form_at, built_in}
use Rattle.wave_grammar.specs.FlagParts.{AreFlagsOf, label_at, flag_nodes}
use Rattle.wave_leaf.specs.Reading.{IsReadAs}
use Rattle.wave_leaf.specs.declared.fault.Fault.{Fault}
use Rattle.wave_leaf.specs.Faults.{Reports}
use Rattle.wave_leaf.specs.FaultCauses.{IsFaultOf}
use Rattle.wave_read.specs.Private.NamedFlags.{flag_names, IsReported, ReportsUnknown}
use Rattle.wave_leaf.proofs.ReadErrors.HandedOn.{no_memory, built_of}
use Rattle.wave_leaf.specs.Errors.{IsRefusedBy}

names_from : (source : List ℕ) (es : List (Bor (List ℕ) × Range ℕ)) → AllOf (λ e. e.0.now ≡ name_of (slice source e.1)) es → names_at source (node_list (node_trees (map label_at (values_of es)))) ≡ texts (keys_of es)
names_from source [] h = refl
names_from source (e ∷ es) h = let more = names_from source es h.1 in λ i. sym h.0 i ∷ more i

-- the names of the flags are those of their nodes
pub names_are : (source : List ℕ) (flags : BTreeMap (Bor (List ℕ)) (Range ℕ)) → AreFlagsOf source flags → names_at source (node_list (flag_nodes flags)) ≡ flag_names flags
names_are source flags h = names_from source flags.entries h

refuses : (names flags : List (List ℕ)) (source : List ℕ) (n : NodeTree) (e : Diagnostic) → AreFlags n → names_at source (children_of n) ≡ flags → RefusesUnknown names flags n e → RefusesFlags names source n e
refuses names flags source n e ok named (inl memory) = inl memory
refuses names flags source n e ok named (inr first) = inr (inr (ok, subst (λ (fs : List (List ℕ)). IsFirstUnknown names fs n e) (sym named) first))

-- a fault is no value
pub no_value : {V : Type 0} (of : V → TypeTree → Type 0) (T : TypeTree) (P : Fault → Type 0) (read : Result V Fault) → IsErrAnd read P → IfOk read (λ v. HasDistinctNames T → of v T)
no_value of T P (Ok v) refused = absurd refused
no_value of T P (Err f) refused = tt

module _ {V : Type 0} (tree : V → Value) (of : V → TypeTree → Type 0) (Full : TypeTree → Type 0) (o w : Order) where
  -- a flag that is none of the names
  pub unknown_read : (T : TypeTree) (flags : List (List ℕ)) (source : List ℕ) (n : NodeTree) (read : Result V Fault) (f : Fault) (r : Result V Diagnostic) → kinds.Flags ≡ kind_of T → IsErrAnd read (λ g. g ≡ f) → ReportsUnknown (flags_names T) flags f →
      AreFlags n → names_at source (children_of n) ≡ flags → IsReported read (place_of n) r → IsReadAs tree of Full o w T source n r
  unknown_read T flags source n (Ok v) f r kind same unknown ok named reported = absurd same
  unknown_read T flags source n (Err g) f (Ok w) kind same unknown ok named reported = absurd reported
  unknown_read T flags source n (Err g) f (Err e) kind same unknown ok named reported =
      let h = unknown n e (subst (λ (x : Fault). Reports x (place_of n) e) same reported) in
      record {
        answer = λ t node distinct. flags_blame tree of Full o w T (flags_names T) source n t e (flags_is T kind (flags_names T) refl) node (refuses (flags_names T) flags source n e ok named h.0);
        within = λ value. at_in source n e (inl value) h.1;
        typed = tt;
      }

  -- flags that were made are of the type
  pub flags_typed : (T : TypeTree) (flags : List (List ℕ)) (picked : List (Bor (List ℕ))) (v : V) → kinds.Flags ≡ kind_of T → (AreDistinct (flags_names T) → texts picked ≡ found_in flags (flags_names T)) → MakesFlags tree of T picked v → HasDistinctNames T → of v T
  flags_typed T flags picked v kind found makes distinct =
      let typed = flags_is T kind (flags_names T) refl in
      flags_of tree of Full o w T (flags_names T) flags picked v typed distinct (found (subst HasDistinctNames typed distinct)) makes

  built_read : (T : TypeTree) (flags : List (List ℕ)) (source : List ℕ) (n : NodeTree) (picked : List (Bor (List ℕ))) (m : Result V WasmValueError) (r : Result V Diagnostic) → kinds.Flags ≡ kind_of T → AreAllOf (flags_names T) flags → (AreDistinct (flags_names T) → texts picked ≡ found_in flags (flags_names T)) →
      IfOk m (MakesFlags tree of T picked) → IfErr m (FullFlags of Full T picked) → AreFlags n → names_at source (children_of n) ≡ flags → IsBuilt n m r → IsReadAs tree of Full o w T source n r
  built_read T flags source n picked m r kind known found makes full ok named built =
      let typed = flags_is T kind (flags_names T) refl in
      record {
        answer = λ t node distinct. flags_built tree of Full o w T (flags_names T) source n t picked m r typed distinct node ok (subst (AreAllOf (flags_names T)) (sym named) known) (found (subst HasDistinctNames typed distinct) ∙ ap (λ (l : List (List ℕ)). found_in l (flags_names T)) (sym named)) makes full built;
        within = λ value. built_in source n m r (inl value) built;
        typed = built_of of T (MakesFlags tree of T picked) n m r (λ v makes. flags_typed T flags picked v kind found makes) makes built;
      }

  -- the flags were made
  pub flags_read : (T : TypeTree) (flags : List (List ℕ)) (source : List ℕ) (n : NodeTree) (picked : List (Bor (List ℕ))) (v : V) (r : Result V Diagnostic) → kinds.Flags ≡ kind_of T → AreAllOf (flags_names T) flags → (AreDistinct (flags_names T) → texts picked ≡ found_in flags (flags_names T)) →
      MakesFlags tree of T picked v → AreFlags n → names_at source (children_of n) ≡ flags → IsReported (Ok v) (place_of n) r → IsReadAs tree of Full o w T source n r
  flags_read T flags source n picked v (Ok w) kind known found makes ok named reported = built_read T flags source n picked (Ok v) (Ok w) kind known found makes tt ok named reported
  flags_read T flags source n picked v (Err e) kind known found makes ok named reported = absurd reported

  -- their constructor refused
  pub flags_refused : (T : TypeTree) (flags : List (List ℕ)) (source : List ℕ) (n : NodeTree) (picked : List (Bor (List ℕ))) (cause : WasmValueError) (f : Fault) (r : Result V Diagnostic) → IsFaultOf cause f → kinds.Flags ≡ kind_of T → AreAllOf (flags_names T) flags → (AreDistinct (flags_names T) → texts picked ≡ found_in flags (flags_names T)) →
      FullFlags of Full T picked cause → AreFlags n → names_at source (children_of n) ≡ flags → IsReported (Err f) (place_of n) r → IsReadAs tree of Full o w T source n r
  flags_refused T flags source n picked cause f (Ok w) caused kind known found full ok named reported = absurd reported
  flags_refused T flags source n picked cause f (Err e) caused kind known found full ok named reported = by (caused (place_of n) e reported)
    where
      by : IsRefusedBy cause e × (e.span ≡ place_of n) → IsReadAs tree of Full o w T source n (Err e)
      by (inl same, place) = built_read T flags source n picked (Err cause) (Err e) kind known found tt full ok named (same, place)
      by (inr memory, place) = no_memory tree of Full o w T source n e (record { is = memory.1; stands = place })

  -- a node that is neither flags nor `{}`
  pub other_form : (T : TypeTree) (source : List ℕ) (n : NodeTree) (e : Diagnostic) → kinds.Flags ≡ kind_of T → type_of n ≢ kind.Flags → type_of n ≢ kind.EmptySet → RefusedAs InvalidType n e → IsReadAs tree of Full o w T source n (Err e)
  other_form T source n e kind flags empty refused = record {
    answer = λ t node distinct. flags_blame tree of Full o w T (flags_names T) source n t e (flags_is T kind (flags_names T) refl) node (inr (inl (flags, empty, refused)));
    within = λ value. at_in source n e (inl value) (form_at n e refused);
    typed = tt;
  }
