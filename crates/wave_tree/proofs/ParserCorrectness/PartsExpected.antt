-- Which part of a node stands next.
use Rattle.std.proofs.Common.{ℕ, ◌+◌, List, [], ◌∷◌, ◌++◌, refl, ap, ◌∙◌, arith, length-append}
use Rattle.std.specs.declared.ops.Range.{Range}
use Rattle.wave_grammar.specs.NodeTree.{NodeTree}
use Rattle.wave_grammar.specs.declared.form.NodeType.{NodeType}
use Rattle.wave_grammar.specs.declared.form.NodeType.TheVariants as kind
use Rattle.wave_grammar.specs.NodeParts.{IsOfParts, TakesKey, TakesPart}
use Rattle.wave_tree.specs.Private.ParsedNodes.{IsOfPayload, label_children}

-- after a key its value
pub value_next : (children : List NodeTree) (n : NodeTree) → TakesKey kind.TupleSet children → TakesPart kind.TupleSet (children ++ n ∷ [])
value_next children n (k, even) = (k, length-append children (n ∷ []) ∙ ap (λ z. z + 1) even)

-- after a value a key
pub key_next : (children : List NodeTree) (n : NodeTree) → TakesPart kind.TupleSet children → TakesKey kind.TupleSet (children ++ n ∷ [])
key_next children n (k, odd) = let longer = length-append children (n ∷ []) in (k + 1, omega (arith, odd, longer))

-- after the label of a case, or first, the payload
pub payload_expected : (ty : NodeType) (p : Range ℕ) → IsOfPayload ty → TakesPart ty (label_children ty p)
payload_expected kind.OptionSome p h = refl
payload_expected kind.VariantWithPayload p h = refl
payload_expected kind.ResultOk p h = refl
payload_expected kind.ResultErr p h = refl
payload_expected _ p h = absurd h

-- a node with a payload has parts
pub payload_parts : (ty : NodeType) → IsOfPayload ty → IsOfParts ty
payload_parts kind.OptionSome h = tt
payload_parts kind.VariantWithPayload h = tt
payload_parts kind.ResultOk h = tt
payload_parts kind.ResultErr h = tt
payload_parts _ h = absurd h
