-- Worked texts: their tokens, their invalid tokens, their names, what they stand for, and what an error says.
use Rattle.std.proofs.Common.{◌≡◌, ℕ, List, [], ◌∷◌, false, true, refl, inl, inr, lit<, zero, suc, ◌++◌, ◌≢◌, ◌<◌, arith, Some, None, get_or}
use Rattle.std.specs.Prelude.{codes}
use Rattle.std.specs.Char.{digit_value}
use Rattle.std.specs.Fmt.{decimal}
use Rattle.std.specs.Str.{bytes_eq}
use Rattle.std.proofs.lemmas.Bool.Decides.{not_from_Decides}
use Rattle.std.proofs.lemmas.Slice.Eq.{bytes_eq-Decides}
use Rattle.wave_lex.specs.declared.lex.Token.TheVariants as class
use Rattle.wave_lex.specs.declared.error.ParserErrorKind.TheVariants as kind
use Rattle.wave_lex.specs.Tokens.{whitespace, invalid, function_name, label}
use Rattle.wave_lex.specs.Tokenization.{IsInvalid, IsLongestToken, Tokenizes, three_quotes, span}
use Rattle.wave_lex.specs.FunctionName.{IsName}
use Rattle.wave_lex.specs.Labels.{IsLabel}
use Rattle.wave_lex.specs.Strings.{CharMeans, StringMeans, UnescapesTo, IsBadEscapeAt, short_escape}
use Rattle.wave_lex.specs.Multiline.{MultilineMeans, MultilineFault, closing, opening, indentation, fault_span, spaces}
use Rattle.wave_lex.specs.Errors.{error_text}
use Rattle.wave_lex.proofs.StringDecoding.EscapesFound.{none_long}
use Rattle.wave_lex.proofs.RegularShapes.Derivatives.{matches_from}
use Rattle.wave_lex.proofs.LongestPrefix.ByComputing.{longest_here, token_here, no_token_here}
use Rattle.wave_lex.proofs.Tokenization.OneTokenization.{no_token_quoted}

-- texts that a test tells apart
apart : (a b : List ℕ) → bytes_eq a b ≡ false → a ≢ b
apart a b t e = not_from_Decides (bytes_eq a b) (bytes_eq-Decides a b) t e

-- each mark
marks : IsLongestToken (codes "{") 1 class.BraceOpen × IsLongestToken (codes "}") 1 class.BraceClose × IsLongestToken (codes "(") 1 class.ParenOpen × IsLongestToken (codes ")") 1 class.ParenClose
    × IsLongestToken (codes "[") 1 class.BracketOpen × IsLongestToken (codes "]") 1 class.BracketClose × IsLongestToken (codes ":") 1 class.Colon × IsLongestToken (codes ",") 1 class.Comma
marks = (
  token_here _ 1 class.BraceOpen refl refl refl tt refl,
  token_here _ 1 class.BraceClose refl refl refl tt refl,
  token_here _ 1 class.ParenOpen refl refl refl tt refl,
  token_here _ 1 class.ParenClose refl refl refl tt refl,
  token_here _ 1 class.BracketOpen refl refl refl tt refl,
  token_here _ 1 class.BracketClose refl refl refl tt refl,
  token_here _ 1 class.Colon refl refl refl tt refl,
  token_here _ 1 class.Comma refl refl refl tt refl,
)

-- a label after `%`, of words of either case and of digits; a number and `-inf` end before a letter that is none of their own, and a leading zero is a number of its own
words : IsLongestToken (codes "%ok-A-2 B") 7 class.LabelOrKeyword × IsLongestToken (codes "-10.25e+07e") 10 class.Number × IsLongestToken (codes "-info") 4 class.Number × IsLongestToken (codes "01") 1 class.Number
words = (token_here _ 7 class.LabelOrKeyword refl refl refl tt refl, token_here _ 10 class.Number refl refl refl tt refl, token_here _ 4 class.Number refl refl refl tt refl, token_here _ 1 class.Number refl refl refl tt refl)

-- a char of an escape; a string without text, where no third quote follows; a multiline string, which ends at the first later three quotes
quoted : IsLongestToken (codes "'\\u{1f44b}'") 11 class.Char × IsLongestToken (codes "\"\" ") 2 class.String × IsLongestToken (codes "\"\"\"a\"\"\"\"\"") 7 class.MultilineString
quoted = (token_here _ 11 class.Char refl refl refl tt refl, token_here _ 2 class.String refl refl refl (λ e. apart (codes "\"\" ") three_quotes refl) refl, token_here _ 7 class.MultilineString refl refl refl tt refl)

-- a text is tokenized with whitespace before and after its tokens; the last comment goes on to the end
text_cut : Tokenizes (codes " 'x'1// ") ((class.Char, codes "'x'") ∷ (class.Number, codes "1") ∷ [])
text_cut = (codes "// ", (1, 3, longest_here whitespace _ _ refl refl refl refl, token_here _ 3 class.Char refl refl refl tt refl, refl, (0, 1, longest_here whitespace _ _ refl refl refl refl, token_here _ 1 class.Number refl refl refl tt refl, refl, refl)), longest_here whitespace _ _ refl refl refl refl)

-- three quotes with none after them are refused together, two scalars between single quotes whole, five at the first quote
invalid_tokens : IsInvalid (codes "\"\"\"abc") 3 × IsInvalid (codes "'ab'") 4 × IsInvalid (codes "'abcde'") 1
invalid_tokens = ((no_token_quoted _ (codes "abc") refl refl refl, longest_here invalid _ _ refl refl refl refl), (no_token_here _ refl refl, longest_here invalid _ _ refl refl refl refl), (no_token_here _ refl refl, longest_here invalid _ _ refl refl refl refl))

-- a function's name with its package, interface, resource and version; a version of two numbers is no part of it, nor is a package without a function; a label
names : IsName (codes "a:b/c.d@1.0.20()") 14 × IsName (codes "a@1.0()") 1 × IsName (codes "a:b()") 1 × IsLabel (codes "must-HAVE-2")
names = (longest_here function_name _ _ refl refl refl refl, longest_here function_name _ _ refl refl refl refl, longest_here function_name _ _ refl refl refl refl, matches_from _ label refl)

-- each short escape and its scalar
short_escapes : (short_escape 39 ≡ Some 39) × (short_escape 34 ≡ Some 34) × (short_escape 92 ≡ Some 92) × (short_escape 116 ≡ Some 9) × (short_escape 110 ≡ Some 10) × (short_escape 114 ≡ Some 13) × (short_escape 48 ≡ None)
short_escapes = (refl, refl, refl, refl, refl, refl, refl)

-- `"a\t"` means `a` and TAB
tab_string : StringMeans (codes "\"a\\t\"") (97 ∷ 9 ∷ [])
unfolding lib.Utf8.encode
tab_string = (
  codes "a\\t",
  refl,
  (
    record { source = 97 ∷ []; meaning = 97 ∷ [] } ∷ record { source = 92 ∷ 116 ∷ []; meaning = 9 ∷ [] } ∷ [],
    (inl (97, (λ e. omega arith), refl), _, _, refl, refl, (inr (9, inl (116, refl, refl), refl), _, _, refl, refl, (refl, refl))),
  ),
)

-- `'\u{1F44B}'` means U+1F44B
wave_char : CharMeans (codes "'\\u{1F44B}'") 0x1f44b
wave_char = (codes "\\u{1F44B}", refl, refl, inr (inr (record { digits = codes "1F44B"; spelled = refl; hexadecimal = (lit< tt, (lit< tt, (lit< tt, (lit< tt, (lit< tt, tt))))); some = lit< tt; few = lit< tt; value = refl; scalar = refl })))

-- the number D800 is no scalar
surrogate : UnescapesTo (codes "\\u{D800}") None
surrogate = none_long (codes "\\u{D800}") (codes "D800}") 4 refl (record { digits = first_four; stops = λ l. lit< tt }) (λ g. let w : false ≡ true = g.scalar in cc)
  where
    first_four : (i : ℕ) → i < 4 → digit_value (get_or (codes "D800}") i 0) < 16
    first_four zero l = lit< tt
    first_four (suc zero) l = lit< tt
    first_four (suc (suc zero)) l = lit< tt
    first_four (suc (suc (suc zero))) l = lit< tt
    first_four (suc (suc (suc (suc i)))) l = let w : ⊥ = omega arith in absurd w

-- so it is a bad escape, at its backslash
surrogate_place : IsBadEscapeAt (codes "\\u{D800}") 0
surrogate_place = ([], codes "u{D800}", [], refl, ([], (refl, refl)), surrogate, refl)

-- `"""` CR LF `a` CR LF `"""` means `a`
return_lines : MultilineMeans (codes "\"\"\"" ++ 13 ∷ 10 ∷ 97 ∷ 13 ∷ 10 ∷ codes "\"\"\"") (codes "a")
return_lines = (
  13 ∷ 10 ∷ 97 ∷ 13 ∷ 10 ∷ [],
  refl,
  record {
    first = 13 ∷ [];
    between = (97 ∷ 13 ∷ []) ∷ [];
    indent = 0;
    texts = codes "a" ∷ [];
    cut = refl;
    opens = inr refl;
    lines = ((codes "a", (97 ∷ 13 ∷ [], refl, inl refl), (record { source = 97 ∷ []; meaning = 97 ∷ [] } ∷ [], (inl (97, (λ e. omega arith), refl), [], [], refl, refl, (refl, refl)))), tt);
    joins = refl;
  },
)

-- `"""` LF `abc"""`: a fault of the last piece, at the closing quotes
closing_bad : MultilineFault (10 ∷ codes "abc") closing × (fault_span 3 4 closing ≡ span 7 10)
closing_bad = (inl (no_spaces, refl), refl)
  where
    no_spaces : (k : ℕ) × (codes "abc" ≡ spaces k) → ⊥
    no_spaces (zero, e) = apart _ _ refl e
    no_spaces (suc k, e) = apart (codes "abc") (32 ∷ spaces k) refl e

-- six quotes: a fault of the first piece, at the byte after the opening quotes
opening_bad : MultilineFault [] opening × (fault_span 3 0 opening ≡ span 3 4)
opening_bad = (inr (inl ((0, refl), (λ no_second. no_second), refl)), refl)

-- `"""` LF `a` LF `  """`: a fault of the line, at its first byte
line_bad : MultilineFault (10 ∷ 97 ∷ 10 ∷ 32 ∷ 32 ∷ []) (indentation 1) × (fault_span 3 5 (indentation 1) ≡ span 4 5)
line_bad = (inr (inr (record { first = []; between = codes "a" ∷ []; indent = 2; cut = refl; opens = inl refl; bad = inl (inl ((λ x e. cc), refl)) })), refl)

-- what an error says, with a detail and without
error_shown : (word : List ℕ)
    → (error_text (record { kind = kind.UnexpectedToken; span = span 4 7; detail = Some word; cause = None }) ≡ codes "unexpected token: " ++ (word ++ (codes " at " ++ (decimal 4 ++ (codes ".." ++ decimal 7)))))
    × (error_text (record { kind = kind.EmptyTuple; span = span 0 12; detail = None; cause = None }) ≡ codes "empty tuple at " ++ (decimal 0 ++ (codes ".." ++ decimal 12)))
error_shown word = (refl, refl)
