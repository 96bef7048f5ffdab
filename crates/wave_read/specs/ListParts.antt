-- What has been read of a list.
use Rattle.std.specs.Prelude.{ℕ, ◌≡◌, ◌⊎◌, List, [], ◌∷◌, length, Option, Some, None, Ok, Err}
use Rattle.std.specs.Borrow.{Bor}
use Rattle.wave_wasm.specs.Types.{TypeTree, list_part}
use Rattle.wave_wasm.specs.Values.{Value}
use Rattle.wave_lex.specs.Errors.{Diagnostic}
use Rattle.wave_grammar.specs.FaultOrder.{Order}
use Rattle.wave_grammar.specs.NodeTree.{NodeTree}
use Rattle.wave_leaf.specs.Reading.{IsReadAs}
use Rattle.wave_read.specs.declared.lists.Items.{Items}

-- this type, where no refusal is held
abbrev pub unless_held : {S : Type 0} → Option Diagnostic → Bor S → Option (Bor S)
unless_held None element = Some element
unless_held (Some e) element = None

-- the type of the item that comes next
abbrev pub element_expected : {S V : Type 0} → Items S V → Option (Bor S)
element_expected x = unless_held x.held x.element

module _ {V : Type 0} (tree : V → Value) (of : V → TypeTree → Type 0) (Full : TypeTree → Type 0) (w : Order) where
  -- each of the nodes was read as its item
  abbrev pub AllReadAs : TypeTree → List ℕ → List NodeTree → List V → Type 0
  AllReadAs E source [] [] = Unit {0}
  AllReadAs E source (n ∷ ns) (v ∷ vs) = IsReadAs tree of Full w w E source n (Ok v) × AllReadAs E source ns vs
  AllReadAs E source _ _ = ⊥

  -- the first of the nodes that was refused has this refusal
  abbrev pub IsFirstRefused : TypeTree → List ℕ → Diagnostic → List NodeTree → Type 0
  IsFirstRefused E source e [] = ⊥
  IsFirstRefused E source e (n ∷ ns) =
      IsReadAs tree of Full w w E source n (Err e) ⊎ ((v : V) × IsReadAs tree of Full w w E source n (Ok v) × IsFirstRefused E source e ns)

  -- each of the nodes was read as its item; or the refusal of the first that was refused is held
  abbrev pub ReadOrHeld : TypeTree → List ℕ → List NodeTree → List V → Option Diagnostic → Type 0
  ReadOrHeld E source ns vs None = AllReadAs E source ns vs
  ReadOrHeld E source ns vs (Some e) = IsFirstRefused E source e ns

module _ {S V : Type 0} (type_tree : S → TypeTree) (tree : V → Value) (of : V → TypeTree → Type 0) (Full : TypeTree → Type 0) (w : Order) where
  -- what was read of these nodes, at a type of lists
  pub record AreItems (T : TypeTree) (source : List ℕ) (children : List NodeTree) (x : Items S V) : Type 0 where
    pub is : type_tree x.ty.now ≡ T
    pub element : list_part T ≡ Some (type_tree x.element.now)
    pub count : x.count ≡ length children
    pub read : ReadOrHeld tree of Full w (type_tree x.element.now) source children x.items.items x.held
