-- What is laid out of a whole text, and of the text behind a name.
use Rattle.std.proofs.Common.{◌≡◌, ℕ, ◌<◌, List, [], inl, inr, refl, sym, subst, take, length, ap, arith}
use Rattle.wave_lex.specs.Tokens.{function_name}
use Rattle.wave_lex.specs.Errors.{Diagnostic}
use Rattle.wave_lex.specs.FunctionName.{IsName}
use Rattle.wave_lex.specs.Tokenization.{Lexed, remainder_of}
use Rattle.wave_lex.proofs.LongestPrefix.ByComputing.{prefix_positive}
use Rattle.wave_grammar.specs.Token.{TokenizesTo}
use Rattle.wave_grammar.specs.Tree.{Tree}
use Rattle.wave_grammar.specs.Denotes.{SpellsText}
use Rattle.wave_grammar.specs.DisplayLaws.{MeanTheSame}
use Rattle.wave_grammar.proofs.Equivalence.ByTree.{same_tree}
use Rattle.wave_tree.specs.UntypedCall.{NameFault}
use Rattle.wave_format.specs.Layout.{IsLaidOut}
use Rattle.wave_format.specs.Private.Laying.{no_params, IsLaid, IsEmptyLaid}
use Rattle.wave_format.proofs.CallNames.{LaysTrees, LaysNone}

-- of what is behind the last item of a lexer
abbrev LaysTreesAt : Lexed → List ℕ → Type 0
LaysTreesAt l text = (n : ℕ) (t : Tree) → SpellsText n (remainder_of l) t → IsLaid n t (take l.end l.source) (remainder_of l) text

abbrev LaysNoneAt : Lexed → List ℕ → Type 0
LaysNoneAt l text = TokenizesTo (remainder_of l) no_params → IsEmptyLaid (take l.end l.source) (remainder_of l) text

pub trees_at : (s : List ℕ) (k : ℕ) (l : Lexed) (text : List ℕ) → l ≡ record { source = s; start = 0; end = k } → LaysTreesAt l text → LaysTrees s k text
trees_at s k l text is h = subst (λ (z : Lexed). LaysTreesAt z text) is h

pub none_at : (s : List ℕ) (k : ℕ) (l : Lexed) (text : List ℕ) → l ≡ record { source = s; start = 0; end = k } → LaysNoneAt l text → LaysNone s k text
none_at s k l text is h = subst (λ (z : Lexed). LaysNoneAt z text) is h

-- a lexer at the beginning of a text
pub at_start : (x s : List ℕ) (l : Lexed) → x ≡ s → l ≡ record { source = x; start = 0; end = 0 } → l ≡ record { source = s; start = 0; end = 0 }
at_start x s l e is = subst (λ (z : List ℕ). l ≡ record { source = z; start = 0; end = 0 }) e is

-- a text that has a name begins with one
pub begins_with_name : (s : List ℕ) (k : ℕ) (e : Diagnostic) → IsName s k → NameFault s e → {A : Type 0} → A
begins_with_name s k e named (inl (empty, says)) =
    let some : 0 < k = prefix_positive function_name s k refl named.0 in
    absurd (omega (arith, named.0.fits, ap length empty))
begins_with_name s k e named (inr (j, none, longest, says)) = absurd (none k named.0)

-- a whole text
pub whole_laid : (s text : List ℕ) → LaysTrees s 0 text → (n : ℕ) (t : Tree) → SpellsText n s t → IsLaidOut s text × SpellsText n text t
whole_laid s text h n t spells =
    let laid : IsLaid n t [] s text = h n t spells in
    (subst (IsLaidOut s) (sym laid.parts) laid.is, subst (λ (z : List ℕ). SpellsText n z t) (sym laid.parts) laid.spells)

pub whole_means : (s text : List ℕ) → LaysTrees s 0 text → (n : ℕ) (t : Tree) → SpellsText n s t → MeanTheSame s text
whole_means s text h n t (tokens, cut, takes) =
    let (others, other_cut, other_takes) = (whole_laid s text h n t (tokens, cut, takes)).1 in
    same_tree s text t (tokens, cut, (n, takes)) (others, other_cut, (n, other_takes))
