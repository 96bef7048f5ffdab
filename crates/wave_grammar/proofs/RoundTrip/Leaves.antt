-- The texts of values of one token.
use Rattle.std.proofs.Common.{◌≡◌, ℕ, ℤ, ◌<◌, Bool, true, false, List, [], ◌∷◌, refl, sym, ap, ◌∙◌}
use Rattle.std.specs.Prelude.{codes, map}
use Rattle.std.specs.Fmt.{signed_decimal}
use Rattle.wave_wasm.specs.Types as type
use Rattle.wave_wasm.specs.Types.{Simple, Whole}
use Rattle.wave_wasm.specs.Numbers.{IsInRange}
use Rattle.wave_wasm.specs.Values as value
use Rattle.wave_wasm.specs.Values.{Leaf}
use Rattle.wave_wasm.specs.Text.{leaf_text}
use Rattle.wave_lex.specs.declared.lex.Token.TheVariants as class
use Rattle.wave_lex.specs.Tokens.{label_or_keyword}
use Rattle.wave_lex.proofs.RegularShapes.Derivatives.{matches_from}
use Rattle.wave_lex.proofs.Tokenization.OneTokenization.{cuts_once}
use Rattle.wave_lex.proofs.LongestPrefix.ByComputing.{ascii_spelled}
use Rattle.wave_grammar.specs.Token.{Token, TokenizesTo, lexeme_of, label, number, brace_open}
use Rattle.wave_grammar.specs.ParserPosition.{token_of}
use Rattle.wave_grammar.specs.LeafTokens.{Spells}
use Rattle.wave_grammar.specs.TypedGrammar.{Reads}
use Rattle.wave_grammar.proofs.RoundTrip.Tokens.{stopped_cut, number_ends}
use Rattle.wave_grammar.proofs.RoundTrip.Numbers.{is_written}
use Rattle.wave_grammar.proofs.RoundTrip.Injective.{Prints, IsOneToken, label_cut}

-- ---- equal texts

same_token : (t : Token) → token_of (lexeme_of t).0 (lexeme_of t).1 ≡ t
same_token brace_open = refl
same_token _ = refl

-- tokens are known by their classes and texts
same_tokens : (ts : List Token) → map (λ l. token_of l.0 l.1) (map lexeme_of ts) ≡ ts
same_tokens [] = refl
same_tokens (t ∷ ts) = λ i. same_token t i ∷ same_tokens ts i

-- a text is tokenized into one list of tokens
pub one_cut_into : (s : List ℕ) (ts us : List Token) → TokenizesTo s ts → TokenizesTo s us → ts ≡ us
one_cut_into s ts us a b = sym (same_tokens ts) ∙ (ap (map (λ l. token_of l.0 l.1)) (cuts_once s (map lexeme_of ts) (map lexeme_of us) a b) ∙ same_tokens us)

-- ---- one token

-- the text of the value is one token, which spells it
abbrev pub IsWritten : Simple → Leaf → Type 0
IsWritten S one = (token : Token) × Spells S token one × IsOneToken (leaf_text one) token

pub bool_written : (b : Bool) → IsWritten type.bool (value.bool b)
bool_written true = (label (codes "true"), (true, refl, refl), label_cut (codes "true") (matches_from (codes "true") label_or_keyword refl))
bool_written false = (label (codes "false"), (false, refl, refl), label_cut (codes "false") (matches_from (codes "false") label_or_keyword refl))

pub whole_written : (kind : Whole) (z : ℤ) → IsInRange kind z → IsWritten (type.whole kind) (value.whole kind z)
whole_written kind z h =
    let w = is_written kind z h in
    let x : List ℕ = signed_decimal z in (
      number (signed_decimal z),
      (signed_decimal z, z, refl, w.value, h, refl),
      λ r rest s cut. stopped_cut class.Number (signed_decimal z) (signed_decimal z) r _ (ascii_spelled (signed_decimal z) w.ascii) w.shaped (number_ends (signed_decimal z) w.shaped) s cut,
    )

-- the text of a value of one token prints it
pub leaf_prints : (S : Simple) (n : ℕ) (one : Leaf) → 0 < n → IsWritten S one → Prints (Reads (type.simple S) n) (leaf_text one) (value.leaf one)
leaf_prints S n one l (token, spells, cut) r rest s behind = (token ∷ rest, cut r rest s behind, (l, (token, one, refl, spells, refl)))
