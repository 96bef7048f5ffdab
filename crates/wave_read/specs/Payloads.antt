-- What has been read of the payload of `some`, `ok` or `err`.
use Rattle.std.specs.Prelude.{ℕ, ◌≡◌, Bool, true, false, List, [], ◌∷◌, Option, Some, None, Result}
use Rattle.std.specs.Borrow.{Bor}
use Rattle.wave_wasm.specs.Types as type
use Rattle.wave_wasm.specs.Types.{TypeTree, result_parts}
use Rattle.wave_wasm.specs.Values.{Value}
use Rattle.wave_wasm.specs.Borrowed.{denoted}
use Rattle.wave_lex.specs.Errors.{Diagnostic}
use Rattle.wave_grammar.specs.NodeTree.{NodeTree}
use Rattle.wave_grammar.specs.declared.form.NodeType.{NodeType}
use Rattle.wave_grammar.specs.declared.form.NodeType.TheVariants as node_type
use Rattle.wave_grammar.specs.FaultOrder.{Order}
use Rattle.wave_leaf.specs.Reading.{IsReadWhereExpected}
use Rattle.wave_read.specs.declared.options.SomePayload.{SomePayload}
use Rattle.wave_read.specs.declared.results.ResultPayload.{ResultPayload}

-- the type of the payload of `some`
abbrev pub some_expected : {S V : Type 0} → SomePayload S V → Option (Bor S)
some_expected x = Some x.expected

-- the type of the payload of `ok` or `err`, where one is expected
abbrev pub result_expected : {S V : Type 0} → ResultPayload S V → Option (Bor S)
result_expected x = x.expected

-- the type of a node of `ok`, and of `err`
abbrev pub result_node : Bool → NodeType
result_node true = node_type.ResultOk
result_node false = node_type.ResultErr

-- the payload's type in the case
abbrev pub payload_of : Bool → Option TypeTree × Option TypeTree → Option TypeTree
payload_of true parts = parts.0
payload_of false parts = parts.1

module _ {V : Type 0} (tree : V → Value) (of : V → TypeTree → Type 0) (Full : TypeTree → Type 0) (w : Order) where
  -- no child, and nothing was read; or one, and this was read of it at the type that is expected
  abbrev pub IsReadPayload : Option TypeTree → List ℕ → List NodeTree → Option (Result V Diagnostic) → Type 0
  IsReadPayload expected source children None = children ≡ []
  IsReadPayload expected source children (Some r) = (n : NodeTree) × (children ≡ n ∷ []) × IsReadWhereExpected tree of Full w w expected source n r

module _ {S V : Type 0} (type_tree : S → TypeTree) (tree : V → Value) (of : V → TypeTree → Type 0) (Full : TypeTree → Type 0) (w : Order) where
  -- the children of a node of `some`, at an option
  pub record AreOfSome (T : TypeTree) (source : List ℕ) (children : List NodeTree) (x : SomePayload S V) : Type 0 where
    pub ty : T ≡ type_tree x.ty.now
    pub expected : T ≡ type.option (type_tree x.expected.now)
    pub read : IsReadPayload tree of Full w (Some (type_tree x.expected.now)) source children x.built

  -- the children of a node of `ok` or of `err`, at a result
  pub record AreOfResult (T : TypeTree) (source : List ℕ) (children : List NodeTree) (x : ResultPayload S V) : Type 0 where
    pub ty : T ≡ type_tree x.ty.now
    pub expected : (parts : Option TypeTree × Option TypeTree) × (result_parts T ≡ Some parts) × (denoted type_tree x.expected ≡ payload_of x.is_ok parts)
    pub read : IsReadPayload tree of Full w (denoted type_tree x.expected) source children x.built
