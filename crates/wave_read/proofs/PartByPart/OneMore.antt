-- Parts after one more.
use Rattle.std.proofs.Common.{ℕ, ◌≡◌, ◌++◌, Bool, true, false, List, [], ◌∷◌, Option, Some, None, MatchBool, MatchOption, Result, Ok, Err, IfOk, IfErr, refl, subst}
use Rattle.wave_grammar.specs.FaultOrder.{Order, in_text}
use Rattle.wave_wasm.specs.Types.{TypeTree}
use Rattle.wave_wasm.specs.Values.{Value}
use Rattle.wave_grammar.specs.NodeTree.{NodeTree}
use Rattle.wave_grammar.specs.declared.form.NodeType.{NodeType}
use Rattle.wave_grammar.specs.NodeParts.{TakesKey, TakesPart}
use Rattle.wave_read.specs.Payloads.{result_node}
use Rattle.wave_leaf.specs.Faults.{IsRefusedWhateverFollows}
use Rattle.wave_read.specs.Private.PartsOfKinds.{AreNoItems}
use Rattle.wave_read.specs.PartsOfKinds.{AreParts}
use Rattle.wave_leaf.specs.declared.fault.Fault.{Fault}
use Rattle.wave_read.specs.declared.lists.Items.{Items}
use Rattle.wave_read.specs.declared.maps.Entries.{Entries}
use Rattle.wave_read.specs.declared.options.SomePayload.{SomePayload}
use Rattle.wave_read.specs.declared.parts.Partial.{Partial}
use Rattle.wave_read.specs.declared.parts.Partial.TheVariants as parts
use Rattle.wave_read.specs.declared.records.Fields.{Fields}
use Rattle.wave_read.specs.declared.results.ResultPayload.{ResultPayload}
use Rattle.wave_read.specs.declared.tuples.TupleItems.{TupleItems}
use Rattle.wave_read.specs.declared.variants.CasePayload.{CasePayload}
use Rattle.wave_read.proofs.ReadErrors.RejectedValues.{still_rejected}

-- what follows from an answer follows where there is one
pub where_ok : {A E : Type 0} (P Q : A → Type 0) (r : Result A E) → ((a : A) → P a → Q a) → IfOk r P → IfOk r Q
where_ok P Q (Ok a) follows h = follows a h
where_ok P Q (Err e) follows h = tt

-- so where there is none
pub where_err : {A E : Type 0} (P Q : E → Type 0) (r : Result A E) → ((e : E) → P e → Q e) → IfErr r P → IfErr r Q
where_err P Q (Ok a) follows h = tt
where_err P Q (Err e) follows h = follows e h

-- what follows from either answer
pub where_added : (A B P Q : Type 0) (b : Bool) → (A → P) → (B → Q) → MatchBool b A B → MatchBool b P Q
where_added A B P Q true f g h = f h
where_added A B P Q false f g h = g h

-- no key stands in a node of `ok` or `err`
no_result_key : (b : Bool) (children : List NodeTree) → TakesKey (result_node b) children → ⊥
no_result_key true children h = h
no_result_key false children h = h

-- parts of a node of this type; or the fault that was found
pub found_at : {V : Type 0} (tree : V → Value) (of : V → TypeTree → Type 0) (Full : TypeTree → Type 0) (w : Order) (T : TypeTree) (source : List ℕ) (ty at : NodeType) (children : List NodeTree) (A : Type 0) (found : Option Fault) → ty ≡ at → MatchOption found A (IsRefusedWhateverFollows tree of Full in_text w T source at children) → MatchOption found ((ty ≡ at) × A) (IsRefusedWhateverFollows tree of Full in_text w T source ty children)
found_at tree of Full w T source ty at children A None is h = (is, h)
found_at tree of Full w T source ty at children A (Some f) is h = rw is h

-- a fault that was found stands in the place of the parts
pub fault_placed : {S V : Type 0} (type_tree : S → TypeTree) (tree : V → Value) (of : V → TypeTree → Type 0) (Full : TypeTree → Type 0) (w : Order) (T : TypeTree) (source : List ℕ) (ty : NodeType) (children : List NodeTree) (x y : Partial S V) (found : Option Fault) → MatchOption found (y ≡ x) (λ f. y ≡ parts.Faulty f) → MatchOption found (AreParts type_tree tree of Full w T source ty children x) (IsRefusedWhateverFollows tree of Full in_text w T source ty children) → AreParts type_tree tree of Full w T source ty children y
fault_placed type_tree tree of Full w T source ty children x y None is h = rw is h
fault_placed type_tree tree of Full w T source ty children x y (Some f) is h = rw is h

-- where none was found they stay
pub none_found : {S V : Type 0} (x y : Partial S V) (found : Option Fault) → found ≡ None → MatchOption found (y ≡ x) (λ f. y ≡ parts.Faulty f) → y ≡ x
none_found x y None none is = is
none_found x y (Some f) none is = absurd (cc)

-- parts of which it is known that they are no items
pub no_items : {S V : Type 0} (x : Partial S V) → ((y : Items S V) → x ≡ parts.Items y → ⊥) → AreNoItems x
no_items (parts.Items x) apart = apart x refl
no_items _ apart = tt

module _ {S V : Type 0} (type_tree : S → TypeTree) (tree : V → Value) (of : V → TypeTree → Type 0) (Full : TypeTree → Type 0) (w : Order) (T : TypeTree) (source : List ℕ) (ty : NodeType) (children : List NodeTree) (n : NodeTree) where
  -- after a key, but for those that take one
  pub behind_key : (x : Partial S V) → ((y : CasePayload S V) → x ≡ parts.OfCase y → ⊥) → ((y : Fields S V) → x ≡ parts.Fields y → ⊥) → ((y : Entries S V) → x ≡ parts.Entries y → ⊥) → TakesKey ty children → AreParts type_tree tree of Full w T source ty children x → AreParts type_tree tree of Full w T source ty (children ++ n ∷ []) x
  behind_key (parts.Faulty f) case fields entries takes h = still_rejected tree of Full in_text w T source ty children n f h
  behind_key (parts.Simple x) case fields entries takes h = h
  behind_key (parts.Empty x) case fields entries takes h = absurd (subst (λ (k : NodeType). TakesKey k children) h.0 takes)
  behind_key (parts.Items x) case fields entries takes h = absurd (subst (λ (k : NodeType). TakesKey k children) h.0 takes)
  behind_key (parts.TupleItems x) case fields entries takes h = absurd (subst (λ (k : NodeType). TakesKey k children) h.0 takes)
  behind_key (parts.OfSome x) case fields entries takes h = absurd (subst (λ (k : NodeType). TakesKey k children) h.0 takes)
  behind_key (parts.OfResult x) case fields entries takes h = absurd (no_result_key x.is_ok children (subst (λ (k : NodeType). TakesKey k children) h.0 takes))
  behind_key (parts.OfCase x) case fields entries takes h = absurd (case x refl)
  behind_key (parts.Fields x) case fields entries takes h = absurd (fields x refl)
  behind_key (parts.Entries x) case fields entries takes h = absurd (entries x refl)

  -- after a value, of which nothing is kept
  pub behind_part : (x : Partial S V) → ((y : Items S V) → x ≡ parts.Items y → ⊥) → ((y : TupleItems S V) → x ≡ parts.TupleItems y → ⊥) → ((y : SomePayload S V) → x ≡ parts.OfSome y → ⊥) → ((y : ResultPayload S V) → x ≡ parts.OfResult y → ⊥) → ((y : CasePayload S V) → x ≡ parts.OfCase y → ⊥) → ((y : Fields S V) → x ≡ parts.Fields y → ⊥) → ((y : Entries S V) → x ≡ parts.Entries y → ⊥) → TakesPart ty children → AreParts type_tree tree of Full w T source ty children x → AreParts type_tree tree of Full w T source ty (children ++ n ∷ []) x
  behind_part (parts.Faulty f) items row some result case fields entries takes h = still_rejected tree of Full in_text w T source ty children n f h
  behind_part (parts.Simple x) items row some result case fields entries takes h = h
  behind_part (parts.Empty x) items row some result case fields entries takes h = absurd (subst (λ (k : NodeType). TakesPart k children) h.0 takes)
  behind_part (parts.Items x) items row some result case fields entries takes h = absurd (items x refl)
  behind_part (parts.TupleItems x) items row some result case fields entries takes h = absurd (row x refl)
  behind_part (parts.OfSome x) items row some result case fields entries takes h = absurd (some x refl)
  behind_part (parts.OfResult x) items row some result case fields entries takes h = absurd (result x refl)
  behind_part (parts.OfCase x) items row some result case fields entries takes h = absurd (case x refl)
  behind_part (parts.Fields x) items row some result case fields entries takes h = absurd (fields x refl)
  behind_part (parts.Entries x) items row some result case fields entries takes h = absurd (entries x refl)
