-- Options, of a payload that was read.
use Rattle.std.proofs.Common.{ℕ, ◌≡◌, ◌≢◌, inl, inr, List, [], ◌∷◌, Some, None, Result, Ok, Err, IfOk, IfErr, refl, sym, subst}
use Rattle.std.specs.declared.ops.Range.{Range}
use Rattle.wave_grammar.specs.FaultOrder.{Order}
use Rattle.wave_wasm.specs.Types as type
use Rattle.wave_wasm.specs.Types.{TypeTree, HasDistinctNames, kind_of}
use Rattle.wave_wasm.specs.Values.{Value}
use Rattle.wave_wasm.specs.ConstructorContracts.{MakesOption, FullOption, TypedOption, HasFullParts}
use Rattle.wave_wasm.specs.declared.wasm.WasmTypeKind.TheVariants as kinds
use Rattle.wave_wasm.specs.declared.wasm.WasmValueError.{WasmValueError}
use Rattle.wave_lex.specs.Errors.{Diagnostic}
use Rattle.wave_lex.specs.declared.error.ParserErrorKind.TheVariants.{InvalidType}
use Rattle.wave_grammar.specs.SpannedTree.{SpannedTree}
use Rattle.wave_grammar.specs.NodeTree.{NodeTree, node, node_trees, type_of}
use Rattle.wave_grammar.specs.Nodes.{IsNodeOf}
use Rattle.wave_grammar.specs.NodeAccessors.{RefusedAs}
use Rattle.wave_grammar.specs.declared.form.NodeType.TheVariants as node_type
use Rattle.wave_grammar.proofs.ByKind.Options.{SomeNode, some_node, given_none, some_built, some_blame, none_built, option_fault}
use Rattle.wave_grammar.proofs.ErrorSpans.Nodes.{built_in, deeper, first_belongs, at_in, form_at}
use Rattle.wave_leaf.specs.Reading.{IsReadAs}
use Rattle.wave_read.specs.Flat.{IsFlatAt}
use Rattle.wave_wasm.proofs.TypesOfValues.TypeOfKind.{formed_as}
use Rattle.wave_leaf.specs.Faults.{IsBuiltAt}
use Rattle.wave_read.specs.Payloads.{IsReadPayload}
use Rattle.wave_leaf.specs.Errors.{IsBuiltOrMemory}
use Rattle.wave_leaf.proofs.ReadErrors.HandedOn.{built_anew, built_of}

-- the node of `some` of these
abbrev some_of : Range ℕ → List NodeTree → NodeTree
some_of p children = node node_type.OptionSome p (node_trees children)

one_child : (a b : NodeTree) → a ∷ [] ≡ b ∷ [] → a ≡ b
one_child a b e = cc

-- its payload
some_payload : (source : List ℕ) (p : Range ℕ) (inner : NodeTree) (t : SpannedTree) (k : SomeNode source (some_of p (inner ∷ [])) t) → IsNodeOf source inner k.payload
some_payload source p inner t k = subst (λ (m : NodeTree). IsNodeOf source m k.payload) (sym (one_child inner k.inner k.children)) k.node

module _ {V : Type 0} (tree : V → Value) (of : V → TypeTree → Type 0) (Full : TypeTree → Type 0) (o w : Order) where
  -- an option of the type has the payload
  pub some_typed : (T P : TypeTree) (source : List ℕ) (children : List NodeTree) (v : V) → T ≡ type.option P → IsReadPayload tree of Full w (Some P) source children (Some (Ok v)) → HasDistinctNames T → TypedOption of T (Some v)
  some_typed T P source children v option (inner, is, read) distinct = subst (λ (U : TypeTree). TypedOption of U (Some v)) (sym option) (read.typed (subst HasDistinctNames option distinct))

  -- `some` of a value
  pub some_read : (T P : TypeTree) (source : List ℕ) (p : Range ℕ) (children : List NodeTree) (v : V) (m : Result V WasmValueError) (r : Result V Diagnostic) → T ≡ type.option P → IsReadPayload tree of Full w (Some P) source children (Some (Ok v)) → IfOk m (MakesOption tree of T (Some v)) → IfErr m (FullOption of Full T (Some v)) → IsBuiltAt p m r → IsReadAs tree of Full o w T source (some_of p children) r
  some_read T P source p children v m r option (inner, is, read) makes full done =
      built_anew (MakesOption tree of T (Some v)) (FullOption of Full T (Some v)) (some_of p (inner ∷ [])) m r (λ a f P is of. tt) makes full (done (some_of p (inner ∷ [])) refl) (λ m makes full done.
      let n = some_of p (inner ∷ []) in
      subst (λ (ns : List NodeTree). IsReadAs tree of Full o w T source (some_of p ns) r) (sym is)
      (record { answer = λ t here distinct. let k = some_node source n t here refl in some_built tree of Full o w T P t k.payload n v m r option distinct k.shape (read.answer k.payload (some_payload source p inner t k) (subst HasDistinctNames option distinct)) makes full done; within = λ value. built_in source n m r (inl value) done; typed = built_of of T (MakesOption tree of T (Some v)) n m r (λ x makes distinct. (makes distinct).is_of) makes done }))

  -- `some` of a payload that was refused
  pub some_refused : (T P : TypeTree) (source : List ℕ) (p : Range ℕ) (children : List NodeTree) (e : Diagnostic) → T ≡ type.option P → HasFullParts Full → IsReadPayload tree of Full w (Some P) source children (Some (Err e)) → IsReadAs tree of Full o w T source (some_of p children) (Err e)
  some_refused T P source p children e option parts (inner, is, read) =
      let n = some_of p (inner ∷ []) in
      subst (λ (ns : List NodeTree). IsReadAs tree of Full o w T source (some_of p ns) (Err e)) (sym is)
      (record { answer = λ t here distinct. let k = some_node source n t here refl in some_blame tree of Full o w T P t k.payload e option k.shape parts (read.answer k.payload (some_payload source p inner t k) (subst HasDistinctNames option distinct)); within = λ value. let k = some_node source n value.0 value.1 refl in deeper n inner e (first_belongs source n (Some inner) value refl inner refl) (read.within (k.payload, some_payload source p inner value.0 k)); typed = tt })

  -- `none`
  pub none_read : (T : TypeTree) (source : List ℕ) (n : NodeTree) (m : Result V WasmValueError) (r : Result V Diagnostic) → kind_of T ≡ kinds.Option → type_of n ≡ node_type.OptionNone → IfOk m (MakesOption tree of T None) → IfErr m (FullOption of Full T None) → IsBuiltOrMemory n m r → IsReadAs tree of Full o w T source n r
  none_read T source n m r kind form makes full done =
      built_anew (MakesOption tree of T None) (FullOption of Full T None) (n) m r (λ a f P is of. tt) makes full done (λ m makes full done.
      let option = formed_as kinds.Option T (sym kind) in
      record { answer = λ t is distinct. none_built tree of Full o w T option.0 source t n m r option.1 distinct (given_none source n t is (inr (form, refl))) makes full done; within = λ value. built_in source n m r (inl value) done; typed = built_of of T (MakesOption tree of T None) n m r (λ x makes distinct. (makes distinct).is_of) makes done })

  -- at an option, a node of another form than an option's and a flat payload's
  pub other_option : (T : TypeTree) (source : List ℕ) (n : NodeTree) (e : Diagnostic) → kind_of T ≡ kinds.Option → type_of n ≢ node_type.OptionSome → type_of n ≢ node_type.OptionNone → ((U : TypeTree) → IsFlatAt T (type_of n) U → ⊥) → RefusedAs InvalidType n e → IsReadAs tree of Full o w T source n (Err e)
  other_option T source n e kind not_some not_none apart refused =
      let option = formed_as kinds.Option T (sym kind) in
      subst (λ (U : TypeTree). IsReadAs tree of Full o w U source n (Err e)) (sym option.1)
      (record { answer = λ t is distinct. inr (inl (option_fault o w option.0 source n t e is.0 (not_some, not_none, refused) (λ flat. subst (λ (U : TypeTree). (W : TypeTree) → IsFlatAt U (type_of n) W → ⊥) option.1 apart option.0 (refl, flat, not_some, not_none)))); within = λ value. at_in source n e (inl value) (form_at n e refused); typed = tt })
