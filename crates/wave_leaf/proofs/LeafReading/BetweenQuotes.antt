-- What stands between the quotes of a leaf.
use Rattle.std.proofs.Common.{ℕ, ◌≡◌, ◌≢◌, ◌+◌, inr, List, ◌++◌, Result, Ok, Err, MatchResult, sym, ◌∙◌, subst}
use Rattle.wave_lex.specs.Errors.{Diagnostic}
use Rattle.wave_lex.specs.Parts.{left_of, OpensTo, OpeningRefused}
use Rattle.wave_lex.specs.declared.strings.StringPartsIter.{StringPartsIter}
use Rattle.wave_grammar.specs.Nodes.{IsParsedFrom}
use Rattle.wave_grammar.specs.NodeAccessors.{quotes_of, IsInside, GivesParts}
use Rattle.wave_grammar.specs.declared.form.NodeType.{NodeType}
use Rattle.wave_grammar.specs.declared.form.NodeType.TheVariants as kind
use Rattle.wave_grammar.proofs.NodeTexts.Quoted.{node_inside}
use Rattle.wave_leaf.specs.Leaves.{leaf_node, HasQuotes, IsLeafIn}
use Rattle.wave_leaf.specs.declared.leaf.LeafToken.{LeafToken}

-- what stands between the quotes of its type stands between those of its node
pub leaf_inside : (ty : NodeType) (source : List ℕ) (l : LeafToken) (x : List ℕ) → l.ty ≡ ty → IsLeafIn source l → l.text.now ≡ quotes_of ty ++ (x ++ quotes_of ty) → IsInside source (leaf_node l) x
leaf_inside ty source l x e here own = sym here ∙ subst (λ (k : NodeType). l.text.now ≡ quotes_of k ++ (x ++ quotes_of k)) (sym e) own

-- a leaf that was parsed stands between the quotes of its type
pub leaf_quoted : (source : List ℕ) (l : LeafToken) → IsLeafIn source l → IsParsedFrom source (leaf_node l) → HasQuotes l
leaf_quoted source l here parsed = let k = node_inside source (leaf_node l) parsed in (k.0, here ∙ k.1)

-- between no others
pub not_bare : (ty : NodeType) (l : LeafToken) → l.ty ≡ ty → HasQuotes l → ((x : List ℕ) → l.text.now ≢ quotes_of ty ++ (x ++ quotes_of ty)) → ⊥
not_bare ty l e quoted bare = bare quoted.0 (subst (λ (q : NodeType). l.text.now ≡ quotes_of q ++ (quoted.0 ++ quotes_of q)) e quoted.1)

-- the parts of a multiline string
pub opened : (source : List ℕ) (l : LeafToken) (x : List ℕ) (r : Result StringPartsIter Diagnostic) → l.ty ≡ kind.MultilineString → IsInside source (leaf_node l) x → MatchResult r (λ parts. OpensTo x (l.span.start + 3) (left_of parts)) (OpeningRefused x (l.span.start + 3)) → GivesParts source (leaf_node l) r
opened source l x (Ok parts) e own opens = (x, own, inr (e, opens))
opened source l x (Err error) e own refused = inr (e, x, own, refused)
