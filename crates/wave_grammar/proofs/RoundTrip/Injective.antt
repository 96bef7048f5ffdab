-- What a text prints, before the end or a mark that may follow a value.
use Rattle.std.proofs.Common.{ℕ, ◌≤◌, List, [], ◌∷◌, ◌++◌, refl, subst, arith}
use Rattle.std.proofs.lemmas.List.{append-nil}
use Rattle.wave_wasm.specs.Types.{TypeTree}
use Rattle.wave_wasm.specs.Values.{Value}
use Rattle.wave_wasm.specs.Text.{text}
use Rattle.wave_wasm.specs.Merge.{merged}
use Rattle.wave_lex.specs.declared.lex.Token.TheVariants as class
use Rattle.wave_lex.specs.Regex.{Matches}
use Rattle.wave_lex.specs.Tokens.{label_or_keyword}
use Rattle.wave_lex.proofs.RegularShapes.LabelWords.{spelled_by_itself}
use Rattle.wave_grammar.specs.Token.{Token, TokenizesTo, brace_open, brace_close, paren_open, paren_close, bracket_open, bracket_close, colon, comma, label}
use Rattle.wave_grammar.specs.CommaSeparated.{Spelling}
use Rattle.wave_grammar.specs.TypedGrammar.{Reads}
use Rattle.wave_grammar.specs.Tree.{Tree, Takes, levels}
use Rattle.wave_grammar.specs.RoundTripLaws.{ReadBack}
use Rattle.wave_grammar.proofs.Elaboration.GrammarToTree.{through}
use Rattle.wave_grammar.proofs.Elaboration.TreeToGrammar.{back}
use Rattle.wave_grammar.proofs.Unambiguity.Levels.{takes-levels, takes-within}
use Rattle.wave_grammar.proofs.RoundTrip.Tokens.{Stops, mark_cut, space_cut, stopped_cut, label_ends, end_cut}

-- before the end or a mark, after which the tokens are known, the text has tokens that spell the item
abbrev pub Prints : {A : Type 0} → Spelling A → List ℕ → A → Type 0
Prints Item x a = (r : List ℕ) (rest : List Token) → Stops r → TokenizesTo r rest → (tokens : List Token) × TokenizesTo (x ++ r) tokens × Item tokens a rest

-- before the end or a mark, after which the tokens are known, the text is this one token
abbrev pub IsOneToken : List ℕ → Token → Type 0
IsOneToken x token = (r : List ℕ) (rest : List Token) → Stops r → TokenizesTo r rest → TokenizesTo (x ++ r) (token ∷ rest)

-- ---- marks

pub brace_open_cut : (r : List ℕ) (rest : List Token) → TokenizesTo r rest → TokenizesTo (123 ∷ r) (brace_open ∷ rest)
brace_open_cut r rest cut = mark_cut class.BraceOpen 123 r _ refl (123, refl, refl) refl tt cut

pub brace_close_cut : (r : List ℕ) (rest : List Token) → TokenizesTo r rest → TokenizesTo (125 ∷ r) (brace_close ∷ rest)
brace_close_cut r rest cut = mark_cut class.BraceClose 125 r _ refl (125, refl, refl) refl tt cut

pub paren_open_cut : (r : List ℕ) (rest : List Token) → TokenizesTo r rest → TokenizesTo (40 ∷ r) (paren_open ∷ rest)
paren_open_cut r rest cut = mark_cut class.ParenOpen 40 r _ refl (40, refl, refl) refl tt cut

pub paren_close_cut : (r : List ℕ) (rest : List Token) → TokenizesTo r rest → TokenizesTo (41 ∷ r) (paren_close ∷ rest)
paren_close_cut r rest cut = mark_cut class.ParenClose 41 r _ refl (41, refl, refl) refl tt cut

pub bracket_open_cut : (r : List ℕ) (rest : List Token) → TokenizesTo r rest → TokenizesTo (91 ∷ r) (bracket_open ∷ rest)
bracket_open_cut r rest cut = mark_cut class.BracketOpen 91 r _ refl (91, refl, refl) refl tt cut

pub bracket_close_cut : (r : List ℕ) (rest : List Token) → TokenizesTo r rest → TokenizesTo (93 ∷ r) (bracket_close ∷ rest)
bracket_close_cut r rest cut = mark_cut class.BracketClose 93 r _ refl (93, refl, refl) refl tt cut

-- a colon or comma, and the space after it
pub colon_cut : (r : List ℕ) (rest : List Token) → TokenizesTo r rest → TokenizesTo (58 ∷ 32 ∷ r) (colon ∷ rest)
colon_cut r rest cut = mark_cut class.Colon 58 (32 ∷ r) _ refl (58, refl, refl) refl tt (space_cut r _ cut)

pub comma_cut : (r : List ℕ) (rest : List Token) → TokenizesTo r rest → TokenizesTo (44 ∷ 32 ∷ r) (comma ∷ rest)
comma_cut r rest cut = mark_cut class.Comma 44 (32 ∷ r) _ refl (44, refl, refl) refl tt (space_cut r _ cut)

-- a colon with no space, as in `{:}`
pub bare_colon_cut : (r : List ℕ) (rest : List Token) → TokenizesTo r rest → TokenizesTo (58 ∷ r) (colon ∷ rest)
bare_colon_cut r rest cut = mark_cut class.Colon 58 r _ refl (58, refl, refl) refl tt cut

-- a label
pub label_cut : (text : List ℕ) → Matches label_or_keyword text → IsOneToken text (label text)
label_cut text h r rest s cut = stopped_cut class.LabelOrKeyword text text r _ (spelled_by_itself text h) h (label_ends text h) s cut

-- ---- whole texts

-- what is read is read within the levels of its tree
at_levels : (T : TypeTree) (n : ℕ) (tokens : List Token) (v : Value) → Reads T n tokens v [] → (t : Tree) × (levels t ≤ n) × Takes (levels t) tokens t [] × Reads T (levels t) tokens v []
at_levels T n tokens v h =
    let (t, i, q) = through T n tokens v [] h (λ more e. cc) in
    let j = takes-within n (levels t) tokens t [] (omega arith) i in
    (t, takes-levels n tokens t [] i, j, back T (levels t) tokens t v [] j q)

-- a text that prints the merged value within n levels reads back, within as many
pub read_back : (T : TypeTree) (n : ℕ) (v : Value) → Prints (Reads T n) (text v) (merged v) → (b : ReadBack T v) × (levels b.tree ≤ n)
read_back T n v prints =
    let (tokens, cut, read) = prints [] [] tt end_cut in
    let (t, low, i, q) = at_levels T n tokens (merged v) read in (
      record {
        tokens = tokens;
        tree = t;
        cut = subst (λ (z : List ℕ). TokenizesTo z tokens) (append-nil (text v)) cut;
        spelled = i;
        read = q;
      },
      low,
    )
