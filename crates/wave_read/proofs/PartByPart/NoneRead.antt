-- Parts of which nothing was read yet.
use Rattle.std.proofs.Common.{ℕ, ◌≡◌, ◌≢◌, ◌++◌, List, [], Err, refl, sym, subst}
use Rattle.wave_grammar.specs.FaultOrder.{Order, in_text}
use Rattle.wave_wasm.specs.Types.{TypeTree}
use Rattle.wave_wasm.specs.Values.{Value}
use Rattle.wave_lex.specs.Errors.{Diagnostic}
use Rattle.wave_lex.specs.declared.error.ParserErrorKind.{ParserErrorKind}
use Rattle.wave_lex.specs.declared.error.ParserErrorKind.TheVariants as why
use Rattle.wave_grammar.specs.NodeTree.{NodeTree, node, node_trees, type_of}
use Rattle.wave_grammar.specs.NodeAccessors.{RefusedAs}
use Rattle.wave_grammar.specs.declared.form.NodeType.{NodeType}
use Rattle.wave_grammar.specs.declared.form.NodeType.TheVariants as kind
use Rattle.wave_grammar.specs.NodeParts.{IsOfParts}
use Rattle.wave_leaf.specs.Reading.{IsReadAs}
use Rattle.wave_leaf.specs.Faults.{IsRefusedWhateverFollows, IsOfKind}
use Rattle.wave_read.specs.PartsOfKinds.{AreParts, AreNoPartsYet}
use Rattle.wave_leaf.specs.declared.fault.Fault.{Fault}
use Rattle.wave_leaf.specs.declared.fault.Fault.TheVariants as fault
use Rattle.wave_read.specs.declared.parts.Partial.{Partial}
use Rattle.wave_read.specs.declared.parts.Partial.TheVariants as parts
use Rattle.wave_read.proofs.ItemReading.Tuples.{memory_rejects}
use Rattle.wave_leaf.specs.declared.error.Reason.TheVariants as reason
use Rattle.wave_leaf.proofs.ReadErrors.HandedOn.{plain_says}

-- a node that has parts is no label, and no `none`
pub no_label : (ty : NodeType) → IsOfParts ty → ty ≢ kind.Label
no_label ty h e = subst IsOfParts e h

pub no_none : (ty : NodeType) → IsOfParts ty → ty ≢ kind.OptionNone
no_none ty h e = subst IsOfParts e h

pub no_flags : (ty : NodeType) → IsOfParts ty → ty ≢ kind.Flags
no_flags ty h e = subst IsOfParts e h

module _ {S V : Type 0} (type_tree : S → TypeTree) (tree : V → Value) (of : V → TypeTree → Type 0) (Full : TypeTree → Type 0) where
  -- no parts yet, where the value is refused at once
  rejected : (T : TypeTree) (ty : NodeType) (x : Partial S V) (k : ParserErrorKind) → x ≡ parts.Faulty (fault.Whole (reason.Plain k)) → ((o w : Order) (source : List ℕ) → IsOfParts ty → IsRefusedWhateverFollows tree of Full o w T source ty [] (fault.Whole (reason.Plain k))) → AreNoPartsYet type_tree tree of Full T ty x
  rejected T ty x k is refused = record {
    begun = λ w source of_parts. subst (λ (y : Partial S V). AreParts type_tree tree of Full w T source ty [] y) (sym is) (refused in_text w source of_parts);
    rejected = λ f same.
        let kind : f ≡ fault.Whole (reason.Plain k) = one_fault f (fault.Whole (reason.Plain k)) x same is in
        (subst IsOfKind (sym kind) tt, λ o w source of_parts. subst (λ (g : Fault). IsRefusedWhateverFollows tree of Full o w T source ty [] g) (sym kind) (refused o w source of_parts));
  }
    where
      one_fault : (f g : Fault) (y : Partial S V) → y ≡ parts.Faulty f → y ≡ parts.Faulty g → f ≡ g
      one_fault f g y a b = cc

  -- of a form that the type doesn't take
  pub wrong : (T : TypeTree) (ty : NodeType) (x : Partial S V) → x ≡ parts.Faulty (fault.Whole (reason.Plain why.InvalidType)) → ((o w : Order) (source : List ℕ) (n : NodeTree) (e : Diagnostic) → IsOfParts ty → type_of n ≡ ty → RefusedAs why.InvalidType n e → IsReadAs tree of Full o w T source n (Err e)) → AreNoPartsYet type_tree tree of Full T ty x
  wrong T ty x is refused = rejected T ty x why.InvalidType is (λ o w source of_parts more p e tells. refused o w source (node ty p (node_trees ([] ++ more))) e of_parts refl (plain_says why.InvalidType p e tells))

  -- of a type that could not be asked for its parts
  pub unasked : (T : TypeTree) (ty : NodeType) (x : Partial S V) → x ≡ parts.Faulty (fault.Whole (reason.Plain why.OutOfMemory)) → AreNoPartsYet type_tree tree of Full T ty x
  unasked T ty x is = rejected T ty x why.OutOfMemory is (λ o w source of_parts. memory_rejects tree of Full o w T source ty [])

  -- parts that have no fault
  pub sound : (T : TypeTree) (ty : NodeType) (x : Partial S V) → ((f : Fault) → x ≡ parts.Faulty f → ⊥) → ((w : Order) (source : List ℕ) → IsOfParts ty → AreParts type_tree tree of Full w T source ty [] x) → AreNoPartsYet type_tree tree of Full T ty x
  sound T ty x none are = record { begun = are; rejected = λ f is. absurd (none f is) }
