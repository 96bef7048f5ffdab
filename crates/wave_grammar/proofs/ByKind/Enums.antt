-- Enums.
use Rattle.std.proofs.Common.{ℕ, ◌≡◌, ◌≢◌, ◌⊎◌, inl, inr, List, [], ◌∷◌, Some, Result, Ok, Err, IfOk, IfErr, MatchResult, refl, sym, ap, ◌∙◌, subst}
use Rattle.std.specs.declared.ops.Range.{Range}
use Rattle.wave_wasm.specs.Names.{IsOneOf, IsNoneOf}
use Rattle.wave_wasm.specs.Types as type
use Rattle.wave_wasm.specs.Types.{TypeTree, HasDistinctNames, enum_names, kind_of}
use Rattle.wave_wasm.specs.Values as value
use Rattle.wave_wasm.specs.Values.{Value}
use Rattle.wave_wasm.specs.ValueErrors.{unknown_case}
use Rattle.wave_wasm.specs.ConstructorContracts.{IsMemory, MakesEnum, FullEnum}
use Rattle.wave_wasm.specs.declared.wasm.WasmTypeKind.TheVariants as kinds
use Rattle.wave_wasm.specs.declared.wasm.WasmValueError.{WasmValueError}
use Rattle.wave_lex.specs.Errors.{Diagnostic, Refusal, refusal_of}
use Rattle.wave_lex.specs.declared.error.ParserErrorKind.TheVariants.{InvalidType}
use Rattle.wave_grammar.specs.Tree as form
use Rattle.wave_grammar.specs.LeafTokens.{name_of}
use Rattle.wave_grammar.specs.Elaborates.{TreeReads}
use Rattle.wave_grammar.specs.SpannedTree.{SpannedTree, SpannedShape, at, label, MaybePlaced, no_placed, a_placed, slice, span_of, shape_of, tree_of}
use Rattle.wave_grammar.specs.TypeErrors.{Blame, IsRefusalOf, RefusesFor, OfForm, Fault, label_in}
use Rattle.wave_grammar.specs.FaultOrder.{Order, FirstFault}
use Rattle.wave_grammar.specs.NodeTree.{NodeTree, type_of, place_of}
use Rattle.wave_grammar.specs.Nodes.{placed_of, shape_from}
use Rattle.wave_grammar.specs.NodeAccessors.{node_text}
use Rattle.wave_grammar.specs.TypedReading.{IsTypedValue, IsBlamed, IsBuilt}
use Rattle.wave_grammar.specs.PartReading.{IsCaused}
use Rattle.wave_grammar.proofs.ChildNodes.Inside.{From, inside, some_is}
use Rattle.wave_grammar.proofs.ChildNodes.Cases.{shape_at}
use Rattle.wave_grammar.proofs.ByKind.Leaves.{tree_is, at_tree}
use Rattle.wave_grammar.proofs.ByKind.MakerAnswers.{built}
use Rattle.wave_grammar.proofs.ByKind.Unreadable.{caused_blame}
use Rattle.wave_grammar.specs.declared.form.NodeType.{NodeType}
use Rattle.wave_grammar.specs.declared.form.NodeType.TheVariants as kind
use Rattle.wave_wasm.proofs.TypesOfValues.TypeOfKind.{formed_as}

-- the type of the kind of enums
pub enum_is : (T : TypeTree) → kinds.Enum ≡ kind_of T → (names : List (List ℕ)) → names ≡ enum_names T → T ≡ type.enum names
enum_is T e names h = let (all, is) = formed_as kinds.Enum T e in is ∙ ap type.enum (sym (h ∙ ap enum_names is))

label_shape : (p : Range ℕ) (text : List ℕ) (cs : List SpannedTree) (s : SpannedShape) → shape_from kind.Label p text cs ≡ Some s → s ≡ label p text no_placed
label_shape p text [] s e = sym (some_is _ _ e)
label_shape p text (c ∷ more) s e = absurd (cc)

-- a label alone
pub label_node : (source : List ℕ) (n : NodeTree) (t : SpannedTree) → placed_of source n ≡ Some t → type_of n ≡ kind.Label → shape_of t ≡ label (place_of n) (node_text source n) no_placed
label_node source n t e is =
    let i = inside source n t e in
    label_shape (place_of n) (slice source (place_of n)) i.children (shape_of t) (shape_at kind.Label source n t i is)

-- what an enum's fault is, of the label of a node
abbrev EnumFault : List (List ℕ) → Range ℕ → (List ℕ × MaybePlaced) → Blame
EnumFault names p l k q = (l.1 ≢ no_placed) × IsRefusalOf InvalidType p k q ⊎ (l.1 ≡ no_placed) × IsNoneOf names (name_of l.0) × RefusesFor (unknown_case (name_of l.0)) p k q

no_label : (names : List (List ℕ)) (ty : NodeType) (p r : Range ℕ) (text : List ℕ) (cs : List SpannedTree) (s : SpannedShape) (k : Refusal) (q : Range ℕ) → From ty p text cs s → ty ≢ kind.Label → IsRefusalOf InvalidType r k q → OfForm (label_in s) r (EnumFault names r) k q
no_label names ty p r text cs (label w v no_placed) k q f apart refused = absurd (apart f.0)
no_label names ty p r text cs (label w v (a_placed u)) k q f apart refused = inl ((λ e. cc), refused)
no_label names ty p r text cs _ k q f apart refused = refused

-- a node that is no label alone
pub enum_fault : (o w : Order) (names : List (List ℕ)) (source : List ℕ) (n : NodeTree) (t : SpannedTree) (k : Refusal) (q : Range ℕ) → placed_of source n ≡ Some t → type_of n ≢ kind.Label → IsRefusalOf InvalidType (place_of n) k q → FirstFault o w (type.enum names) t k q
enum_fault o w names source n t k q e apart refused =
    let i = inside source n t e in
    no_label names (type_of n) (place_of n) (span_of t) (slice source (place_of n)) i.children (shape_of t) k q i.from apart (at_tree InvalidType (place_of n) (span_of t) k q i.place refused)

-- a label that is no case
pub unknown_fault : (o w : Order) (names : List (List ℕ)) (t : SpannedTree) (p : Range ℕ) (text : List ℕ) (k : Refusal) (q : Range ℕ) → shape_of t ≡ label p text no_placed → IsNoneOf names (name_of text) → RefusesFor (unknown_case (name_of text)) (span_of t) k q → FirstFault o w (type.enum names) t k q
unknown_fault o w names t p text k q shape none refused =
    subst (λ (s : SpannedShape). OfForm (label_in s) (span_of t) (EnumFault names (span_of t)) k q) (sym shape) (inr (refl, none, refused))

module _ {V : Type 0} (tree : V → Value) (of : V → TypeTree → Type 0) (Full : TypeTree → Type 0) (o w : Order) where
  -- the refusal of a label that is no case
  pub unknown_blame : (T : TypeTree) (names : List (List ℕ)) (source : List ℕ) (n : NodeTree) (t : SpannedTree) (name : List ℕ) (e : Diagnostic) → T ≡ type.enum names → placed_of source n ≡ Some t → type_of n ≡ kind.Label → name ≡ name_of (node_text source n) → IsNoneOf names name → IsCaused (unknown_case name) n e → IsBlamed Full o w T t e
  unknown_blame T names source n t name e is node ty named none caused =
      caused_blame Full o w T source n t (unknown_case name) e node caused (λ refused.
      let fault : FirstFault o w (type.enum names) t (refusal_of e) e.span = unknown_fault o w names t (place_of n) (node_text source n) (refusal_of e) e.span (label_node source n t node ty) (subst (IsNoneOf names) named none) (subst (λ (w : List ℕ). RefusesFor (unknown_case w) (span_of t) (refusal_of e) e.span) named refused) in
      subst (λ (U : TypeTree). FirstFault o w U t (refusal_of e) e.span) (sym is) fault)

  enum_reads : (T : TypeTree) (names : List (List ℕ)) (t : SpannedTree) (name : List ℕ) (m : Result V WasmValueError) → T ≡ type.enum names → HasDistinctNames T → TreeReads (type.enum names) (tree_of t) (value.enum name) → IfOk m (MakesEnum tree of T name) → IfOk m (IsTypedValue tree of T t)
  enum_reads T names t name (Ok v) is distinct read h =
      let makes = h distinct in
      record { reads = subst (λ (U : TypeTree). TreeReads U (tree_of t) (tree v)) (sym is) (subst (λ (w : Value). TreeReads (type.enum names) (tree_of t) w) (sym makes.means) read); is_of = makes.is_of }
  enum_reads T names t name (Err cause) is distinct read h = tt

  enum_full : (T : TypeTree) (names : List (List ℕ)) (name : List ℕ) (m : Result V WasmValueError) → T ≡ type.enum names → IsOneOf names name → IfErr m (FullEnum of Full T name) → IfErr m (λ cause. Full T → IsMemory cause)
  enum_full T names name (Ok v) is h f = tt
  enum_full T names name (Err cause) is h f = λ full. f full names is h

  -- the case was made, or its constructor refused
  pub enum_built : (T : TypeTree) (names : List (List ℕ)) (source : List ℕ) (n : NodeTree) (t : SpannedTree) (name : List ℕ) (m : Result V WasmValueError) (r : Result V Diagnostic) → T ≡ type.enum names → HasDistinctNames T → placed_of source n ≡ Some t → type_of n ≡ kind.Label → name ≡ name_of (node_text source n) → IsOneOf names name → IfOk m (MakesEnum tree of T name) → IfErr m (FullEnum of Full T name) → IsBuilt n m r → MatchResult r (IsTypedValue tree of T t) (IsBlamed Full o w T t)
  enum_built T names source n t name m r is distinct node ty named known ok full done =
      let shape = label_node source n t node ty in
      let read : TreeReads (type.enum names) (tree_of t) (value.enum name) = (node_text source n, tree_is t (label (place_of n) (node_text source n) no_placed) shape, subst (IsOneOf names) named known, ap value.enum named) in
      built tree of Full o w T t n m r done (enum_reads T names t name m is distinct read ok) (enum_full T names name m is known full)

-- ---- no value

-- a name that is none of the names is not one of them
pub none_one : (names : List (List ℕ)) (name : List ℕ) → IsNoneOf names name → IsOneOf names name → ⊥
none_one [] name none one = one
none_one (n ∷ names) name none (inl e) = none.0 e
none_one (n ∷ names) name none (inr h) = none_one names name none.1 h

-- an enum's fault leaves no value
pub enum_none : (names : List (List ℕ)) (t : SpannedTree) (k : Refusal) (q : Range ℕ) (v : Value) → Fault (type.enum names) t k q → TreeReads (type.enum names) (tree_of t) v → ⊥
enum_none names (at p (label r w no_placed)) k q v (inl h) (text, e, known, f) = h.0 refl
enum_none names (at p (label r w no_placed)) k q v (inr h) (text, e, known, f) = none_one names (name_of w) h.1 (subst (λ (x : List ℕ). IsOneOf names (name_of x)) (sym (same_text w text e)) known)
  where
    same_text : (a b : List ℕ) → form.label a form.no_tree ≡ form.label b form.no_tree → a ≡ b
    same_text a b e = cc
enum_none names (at p (label r w (a_placed u))) k q v fault (text, e, known, f) = absurd (cc)
enum_none names (at p _) k q v fault (text, e, known, f) = absurd (cc)
