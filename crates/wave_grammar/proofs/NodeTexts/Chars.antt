-- The char of a node.
use Rattle.std.proofs.Common.{◌≡◌, ◌≢◌, ℕ, ◌⊎◌, List, [], ◌∷◌, ◌++◌, None, sym, subst, ◌∙◌}
use Rattle.std.specs.Prelude.{encode_utf8}
use Rattle.std.proofs.lemmas.List.{append_cancel_right}
use Rattle.wave_lex.specs.Strings.{IsEscape, IsInCharQuotes, CharMeans}
use Rattle.wave_grammar.specs.NodeTree.{NodeTree, type_of}
use Rattle.wave_grammar.specs.NodeAccessors.{node_text, quotes_of, IsInside}
use Rattle.wave_grammar.specs.StringAssembly.{CharIn}
use Rattle.wave_grammar.specs.declared.form.NodeType.{NodeType}
use Rattle.wave_grammar.specs.declared.form.NodeType.TheVariants as kind

-- what stands between the quotes of a char
char_inside : (source : List ℕ) (n : NodeTree) (x : List ℕ) → type_of n ≡ kind.Char → IsInside source n x → IsInCharQuotes (node_text source n) x
char_inside source n x e h = subst (λ (ty : NodeType). node_text source n ≡ quotes_of ty ++ (x ++ quotes_of ty)) e h

-- a char stands for no scalar where its inside stands for none
pub char_none : (source : List ℕ) (n : NodeTree) (x : List ℕ) → type_of n ≡ kind.Char → IsInside source n x → CharIn x None → (c : ℕ) → CharMeans (node_text source n) c → ⊥
char_none source n x e h none c (y, own, scalar, means) =
    let both : 39 ∷ (y ++ 39 ∷ []) ≡ 39 ∷ (x ++ 39 ∷ []) = sym own ∙ char_inside source n x e h in
    let inner : y ++ 39 ∷ [] ≡ x ++ 39 ∷ [] = cc in
    none c (scalar, subst (λ (z : List ℕ). (c ≢ 92) × (z ≡ encode_utf8 c) ⊎ IsEscape z c) (append_cancel_right y x (39 ∷ []) inner) means)
