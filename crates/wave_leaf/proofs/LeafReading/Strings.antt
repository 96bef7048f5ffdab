-- The strings of leaves, or out of memory.
use Rattle.std.proofs.Common.{ℕ, ◌≡◌, ◌⊎◌, inl, inr, List, Some, refl, ap, subst}
use Rattle.std.specs.declared.ops.Range.{Range}
use Rattle.wave_wasm.specs.Types as type
use Rattle.wave_wasm.specs.Types.{TypeTree, Simple}
use Rattle.wave_lex.specs.Errors.{Diagnostic, Refusal}
use Rattle.wave_lex.specs.declared.error.ParserErrorKind.TheVariants.{OutOfMemory}
use Rattle.wave_grammar.specs.Token.{Token}
use Rattle.wave_grammar.specs.SpannedTree.{SpannedTree}
use Rattle.wave_grammar.specs.StringAssembly.{IsOutOfMemoryAt}
use Rattle.wave_grammar.specs.FaultOrder.{Order}
use Rattle.wave_grammar.specs.NodeTree.{NodeTree, place_of}
use Rattle.wave_grammar.specs.Nodes.{placed_of, IsParsedFrom, IsTokenOf}
use Rattle.wave_grammar.specs.NodeStrings.{RefusesString}
use Rattle.wave_grammar.specs.TypedReading.{IsBlamed, IsKeyBlamed}
use Rattle.wave_grammar.specs.ErrorSpans.{RefusesIn}
use Rattle.wave_grammar.proofs.ByKind.Keys.{one_simple}
use Rattle.wave_grammar.proofs.ByKind.TextLeaves.{string_blame}
use Rattle.wave_grammar.proofs.ByKind.TextKeys.{string_key_blame}
use Rattle.wave_grammar.proofs.ErrorSpans.Nodes.{string_in, at_in, memory_here}

memory_kind : (p : Range ℕ) (e : Diagnostic) → IsOutOfMemoryAt p e → e.kind ≡ OutOfMemory
memory_kind p e wants = ap (λ (r : Refusal). r.kind) wants.is

-- the refusal of a string blames its tree
pub reported_blame : {Q : Type 0} (Full : TypeTree → Type 0) (o w : Order) (source : List ℕ) (n : NodeTree) (t : SpannedTree) (e : Diagnostic) → placed_of source n ≡ Some t → RefusesString source n e ⊎ IsOutOfMemoryAt (place_of n) e × Q → IsBlamed Full o w (type.simple type.string) t e
reported_blame Full o w source n t e is (inl h) = string_blame Full o w (type.simple type.string) source n t e refl is h
reported_blame Full o w source n t e is (inr (wants, far)) = inl (memory_kind (place_of n) e wants)

-- so of a key
reported_key_blame : {Q : Type 0} (Full : TypeTree → Type 0) (source : List ℕ) (n : NodeTree) (p : Range ℕ) (key : Token) (e : Diagnostic) → IsTokenOf source n p key → RefusesString source n e ⊎ IsOutOfMemoryAt (place_of n) e × Q → IsKeyBlamed Full type.string p key e
reported_key_blame Full source n p key e token (inl h) = string_key_blame Full source n p key e token h
reported_key_blame Full source n p key e token (inr (wants, far)) = inl (memory_kind (place_of n) e wants)

-- it stands in the node
pub reported_string_in : {Q : Type 0} (source : List ℕ) (n : NodeTree) (e : Diagnostic) → IsParsedFrom source n → RefusesString source n e ⊎ IsOutOfMemoryAt (place_of n) e × Q → RefusesIn n e
reported_string_in source n e parsed (inl h) = string_in source n e parsed h
reported_string_in source n e parsed (inr (wants, far)) = at_in source n e parsed (memory_here n e (memory_kind (place_of n) e wants) wants.stands)

-- what is given and no refusal
pub given_one : {P Q : Type 0} → P ⊎ ⊥ × Q → P
given_one (inl h) = h
given_one (inr none) = absurd none.0

-- so of a key at its type
pub string_key_blamed : {Q : Type 0} (Full : TypeTree → Type 0) (K : Simple) (source : List ℕ) (n : NodeTree) (p : Range ℕ) (key : Token) (e : Diagnostic) → type.simple type.string ≡ type.simple K → IsTokenOf source n p key → RefusesString source n e ⊎ IsOutOfMemoryAt (place_of n) e × Q → IsKeyBlamed Full K p key e
string_key_blamed Full K source n p key e is token reported =
    subst (λ (S : Simple). IsKeyBlamed Full S p key e) (one_simple (type.simple type.string) K type.string is refl) (reported_key_blame Full source n p key e token reported)
