-- Values of one token that are read and made at once.
use Rattle.std.proofs.Common.{ℕ, ℤ, ◌≡◌, ◌≢◌, ◌++◌, inl, Bool, false, nat_eq, List, [], ◌∷◌, Option, Some, None, Result, Ok, refl, sym, ap, subst, ◌∙◌}
use Rattle.std.specs.Prelude.{IfOk, IfErr, IfSome}
use Rattle.std.specs.List.{list_any}
use Rattle.std.proofs.lemmas.Bool.{or_parts}
use Rattle.wave_wasm.specs.Types as type
use Rattle.wave_wasm.specs.Types.{TypeTree, Whole, whole_kind, simple_kind, kind_of}
use Rattle.wave_wasm.specs.Values as value
use Rattle.wave_wasm.specs.Values.{Value, leaf_type}
use Rattle.wave_wasm.specs.ConstructorContracts.{MakesLeaf, FullLeaf}
use Rattle.wave_wasm.specs.declared.wasm.WasmValueError.{WasmValueError}
use Rattle.wave_lex.specs.Strings.{Decodes}
use Rattle.wave_lex.proofs.StringDecoding.OneMeaning.{plain_from}
use Rattle.wave_grammar.specs.NumberText.{IsNumberOf}
use Rattle.wave_grammar.specs.Elaborates.{SimpleTree}
use Rattle.wave_grammar.specs.SpannedTree.{SpannedTree, tree_of}
use Rattle.wave_grammar.specs.FaultOrder.{Order}
use Rattle.wave_grammar.specs.NodeTree.{NodeTree}
use Rattle.wave_grammar.specs.Nodes.{placed_of}
use Rattle.wave_grammar.specs.NodeAccessors.{node_text, GivesBool, GivesNumber, GivesChar}
use Rattle.wave_grammar.specs.NodeStrings.{StandsFor}
use Rattle.wave_grammar.specs.TypedReading.{IsBuilt}
use Rattle.wave_grammar.specs.declared.form.NodeType.TheVariants as kind
use Rattle.wave_grammar.proofs.ByKind.MakerAnswers.{leaf_built}
use Rattle.wave_grammar.proofs.ByKind.Leaves.{bool_read, number_read}
use Rattle.wave_grammar.proofs.ByKind.TextLeaves.{char_read, string_read}
use Rattle.wave_leaf.specs.Leaves.{leaf_node, IsLeafIn}
use Rattle.wave_leaf.specs.Reading.{IsReadAs}
use Rattle.wave_leaf.specs.declared.leaf.LeafToken.{LeafToken}
use Rattle.wave_leaf.proofs.LeafReading.SimpleTypes.{read_at_kind}

-- ---- strings without escapes

-- the byte is a `\`
abbrev pub is_backslash : ℕ → Bool
is_backslash b = nat_eq b 92

not_it : (b : ℕ) → is_backslash b ≡ false → b ≢ 92
not_it b e same = cc (sym e ∙ ap is_backslash same)

-- bytes without a `\` stand for themselves
plain_decodes : (s : List ℕ) → list_any is_backslash s ≡ false → Decodes s s
plain_decodes [] none = ([], (refl, refl))
plain_decodes (b ∷ s) none =
    let apart = or_parts (is_backslash b) (list_any is_backslash s) none in
    plain_from b s (b ∷ s) (not_it b apart.0) (s, refl, plain_decodes s apart.1)

-- a string without a `\` between its quotes stands for what stands there
pub run_stands : (source : List ℕ) (l : LeafToken) (x : List ℕ) → l.ty ≡ kind.String → IsLeafIn source l → l.text.now ≡ 34 ∷ (x ++ 34 ∷ []) → list_any is_backslash x ≡ false → StandsFor source (leaf_node l) x
run_stands source l x is here own none = inl (is, (x, sym here ∙ own, plain_decodes x none))

-- ---- what is made

module _ {V : Type 0} (tree : V → Value) (of : V → TypeTree → Type 0) (Full : TypeTree → Type 0) (o w : Order) where
  -- what the node says was made a value, so that is what is read of it
  soon : (T : TypeTree) (one : value.Leaf) (source : List ℕ) (n : NodeTree) (m : Result V WasmValueError) (r : Option V) → simple_kind (leaf_type one) ≡ kind_of T → ((t : SpannedTree) → placed_of source n ≡ Some t → SimpleTree (leaf_type one) (tree_of t) (value.leaf one)) → IfOk m (MakesLeaf tree of one) → IfErr m (FullLeaf Full one) → IfSome r (λ v. m ≡ Ok v) → IfSome r (λ v. IsReadAs tree of Full o w T source n (Ok v))
  soon T one source n m None is read built full done = tt
  soon T one source n m (Some v) is read built full done = read_at_kind tree of Full o w (leaf_type one) T source n (Ok v) is (record {
    answer = λ t placed distinct. leaf_built tree of Full o w (type.simple (leaf_type one)) t n one m (Ok v) refl (read t placed.0) built full (subst (λ (x : Result V WasmValueError). IsBuilt n x (Ok v)) (sym done) refl);
    within = λ parsed. tt;
    typed = λ distinct. (subst (λ (x : Result V WasmValueError). IfOk x (MakesLeaf tree of one)) done built).is_of;
  })

  -- a whole number
  pub whole_soon : (T : TypeTree) (which : Whole) (source : List ℕ) (n : NodeTree) (y z : ℤ) (m : Result V WasmValueError) (r : Option V) → whole_kind which ≡ kind_of T → y ≡ z → GivesNumber which (λ (x : ℤ). x) source n (Ok z) → IfOk m (MakesLeaf tree of (value.whole which y)) → IfErr m (FullLeaf Full (value.whole which y)) → IfSome r (λ v. m ≡ Ok v) → IfSome r (λ v. IsReadAs tree of Full o w T source n (Ok v))
  whole_soon T which source n y z m r is same given =
      soon T (value.whole which y) source n m r is (λ t placed. number_read which source n t y placed given.0 (subst (λ (x : ℤ). IsNumberOf which (node_text source n) (Some x)) (sym same) given.1))

  -- a bool
  pub bool_soon : (T : TypeTree) (source : List ℕ) (n : NodeTree) (b : Bool) (m : Result V WasmValueError) (r : Option V) → simple_kind type.bool ≡ kind_of T → GivesBool n (Ok b) → IfOk m (MakesLeaf tree of (value.bool b)) → IfErr m (FullLeaf Full (value.bool b)) → IfSome r (λ v. m ≡ Ok v) → IfSome r (λ v. IsReadAs tree of Full o w T source n (Ok v))
  bool_soon T source n b m r is given = soon T (value.bool b) source n m r is (λ t placed. bool_read source n t b placed given)

  -- a char
  pub char_soon : (T : TypeTree) (source : List ℕ) (n : NodeTree) (c : ℕ) (m : Result V WasmValueError) (r : Option V) → simple_kind type.char ≡ kind_of T → GivesChar source n (Ok c) → IfOk m (MakesLeaf tree of (value.char c)) → IfErr m (FullLeaf Full (value.char c)) → IfSome r (λ v. m ≡ Ok v) → IfSome r (λ v. IsReadAs tree of Full o w T source n (Ok v))
  char_soon T source n c m r is given = soon T (value.char c) source n m r is (λ t placed. char_read source n t c placed given.0 given.1)

  -- a string
  pub string_soon : (T : TypeTree) (source : List ℕ) (n : NodeTree) (s : List ℕ) (m : Result V WasmValueError) (r : Option V) → simple_kind type.string ≡ kind_of T → StandsFor source n s → IfOk m (MakesLeaf tree of (value.string s)) → IfErr m (FullLeaf Full (value.string s)) → IfSome r (λ v. m ≡ Ok v) → IfSome r (λ v. IsReadAs tree of Full o w T source n (Ok v))
  string_soon T source n s m r is given = soon T (value.string s) source n m r is (λ t placed. string_read source n t s placed given)
