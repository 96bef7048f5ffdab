-- A node means what its tokens spell.
use Rattle.std.proofs.Common.{ℕ, ◌≡◌, List, [], sym, subst}
use Rattle.std.specs.Prelude.{length}
use Rattle.wave_lex.specs.Tokenization.{IsWhitespace}
use Rattle.wave_grammar.specs.Token.{Token, TokenizesTo}
use Rattle.wave_grammar.specs.Tree.{Tree, Takes}
use Rattle.wave_grammar.specs.Elaborates.{TreeReads}
use Rattle.wave_grammar.specs.SpannedTree.{HoldsTokens, slice, tree_of_shape, at}
use Rattle.wave_grammar.specs.NodeTree.{place_of}
use Rattle.wave_grammar.specs.NodeLaws.{NodesReadAsTokens}
use Rattle.wave_grammar.proofs.ChildNodes.Inside.{inside}
use Rattle.wave_grammar.proofs.Elaboration.GrammarToTree.{through}
use Rattle.wave_grammar.proofs.Elaboration.TreeToGrammar.{back}
use Rattle.wave_grammar.proofs.Unambiguity.Trees.{one_tree}
use Rattle.wave_grammar.proofs.RoundTrip.Leaves.{one_cut_into}
use Rattle.wave_grammar.proofs.RoundTrip.Tokens.{end_cut}

-- tokens that fill a text are all its tokens
pub filled : (s : List ℕ) (p : _) (tokens : List Token) → HoldsTokens s p tokens → TokenizesTo (slice s p) tokens
filled s p tokens h = ([], h.2, end_whitespace)
  where
    end_whitespace : IsWhitespace [] 0
    end_whitespace = let (r, is, g) = end_cut in subst (λ (z : List ℕ). IsWhitespace z (length z)) (sym is) g

pub nodes_read_as_tokens : NodesReadAsTokens
nodes_read_as_tokens source n (at p s) tokens node held T v =
    let place : p ≡ place_of n = (inside source n (at p s) node.0).place in
    let (others, other_held, (m, takes)) = node.1.0 in
    let cut : TokenizesTo (slice source p) tokens = filled source p tokens (subst (λ q. HoldsTokens source q tokens) (sym place) held) in
    let same : others ≡ tokens = one_cut_into (slice source p) others tokens (filled source p others other_held) cut in
    let here : Takes m tokens (tree_of_shape s) [] = subst (λ (z : List Token). Takes m z (tree_of_shape s) []) same takes in (
      λ means. (m, back T m tokens (tree_of_shape s) v [] here means),
      λ (k, read).
          let (u, other, means) = through T k tokens v [] read (λ more e. cc) in
          subst (λ (z : Tree). TreeReads T z v) (one_tree k m tokens u (tree_of_shape s) [] [] other here).0 means,
    )
