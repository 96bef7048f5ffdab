-- The tokens of a text have the shapes of their classes, and each stands alone.
use Rattle.std.proofs.Common.{◌≡◌, ℕ, true, List, [], ◌∷◌, ◌++◌, inl, inr, refl, sym, ap, subst, ◌∙◌, map, drop, ◌+◌, arith}
use Rattle.std.specs.Prelude.{encode_utf8_all}
use Rattle.std.proofs.lemmas.Bool.Decides.{nat_tests}
use Rattle.wave_wasm.specs.Lists.{AllOf}
use Rattle.wave_lex.specs.declared.lex.Token.TheVariants as class
use Rattle.wave_lex.specs.Regex.{Matches, is_within}
use Rattle.wave_lex.specs.Derive.{nullable}
use Rattle.wave_lex.specs.Tokens as shapes
use Rattle.wave_lex.specs.Tokens.{shape}
use Rattle.wave_lex.specs.Labels.{IsLabel}
use Rattle.wave_lex.specs.Tokenization.{Prefix}
use Rattle.wave_lex.proofs.Machines.ClosedShapes.{multiline_string_rests, multiline_string_closed}
use Rattle.wave_lex.proofs.RegularShapes.LabelWords.{spelled_by_itself}
use Rattle.wave_lex.proofs.Tokenization.TokenEnds.{none_follows}
use Rattle.wave_grammar.specs.Token.{Token, TokenizesTo, lexeme_of, text_of, number, label, char, string, multiline}
use Rattle.wave_grammar.specs.LeafTokens.{name_of}
use Rattle.wave_grammar.specs.Tree.{IsKey}
use Rattle.wave_grammar.proofs.RoundTrip.Tokens.{stops, NoStopAfter, stopped_cut, number_ends, label_ends}
use Rattle.wave_grammar.proofs.RoundTrip.Strings.{character_ends, string_ends}
use Rattle.wave_grammar.proofs.RoundTrip.Injective.{IsOneToken}
use Rattle.wave_grammar.proofs.RoundTrip.Names.{label_name}

-- the token's text has the shape of its class
abbrev pub HasShape : Token → Type 0
HasShape t = (cs : List ℕ) × (encode_utf8_all cs ≡ text_of t) × Matches (shape (lexeme_of t).0) cs

prefix_shapes : (s : List ℕ) (ts : List Token) (q : List ℕ) → Prefix s (map lexeme_of ts) q → AllOf HasShape ts
prefix_shapes s [] q f = tt
prefix_shapes s (t ∷ ts) q (g, k, whitespace, long, text, prefix) = ((long.is.0.scalars, long.is.0.spelled ∙ sym text, long.is.0.has), prefix_shapes (drop (g + k) s) ts q prefix)

-- so do the tokens of a text
pub cut_shapes : (s : List ℕ) (ts : List Token) → TokenizesTo s ts → AllOf HasShape ts
cut_shapes s ts (q, prefix, end) = prefix_shapes s ts q prefix

-- no mark goes on with a multiline string
multiline_ends : (cs : List ℕ) → Matches shapes.multiline_string cs → NoStopAfter class.MultilineString cs
multiline_ends = none_follows shapes.multiline_string multiline_string_rests multiline_string_closed refl stops refl

-- the text of a key or of a leaf is that token, where a mark follows
pub alone : (t : Token) → IsKey t → HasShape t → IsOneToken (text_of t) t
alone (number x) key (cs, e, h) r rest s cut = stopped_cut class.Number cs x r _ e h (number_ends cs h) s cut
alone (label x) key (cs, e, h) r rest s cut = stopped_cut class.LabelOrKeyword cs x r _ e h (label_ends cs h) s cut
alone (char x) key (cs, e, h) r rest s cut = stopped_cut class.Char cs x r _ e h (character_ends cs h) s cut
alone (string x) key (cs, e, h) r rest s cut = stopped_cut class.String cs x r _ e h (string_ends cs h) s cut
alone (multiline x) key (cs, e, h) r rest s cut = stopped_cut class.MultilineString cs x r _ e h (multiline_ends cs h) s cut
alone _ key h r rest s cut = absurd key

-- ---- names

-- a label's text is its scalars
label_text : (x : List ℕ) → HasShape (label x) → Matches shapes.label_or_keyword x
label_text x (cs, e, h) = subst (Matches shapes.label_or_keyword) (sym (spelled_by_itself cs h) ∙ e) h

percent : (b : ℕ) (name : List ℕ) → is_within 37 37 b ≡ true → name_of (b ∷ name) ≡ name
percent b name h = let same : b ≡ 37 = grind (arith, nat_tests, h) in subst (λ (z : ℕ). name_of (z ∷ name) ≡ name) (sym same) refl

-- the name that a label stands for is a label
pub named : (x : List ℕ) → HasShape (label x) → IsLabel (name_of x)
named x h = by_prefix x (label_text x h)
  where
    by_prefix : (x : List ℕ) → Matches shapes.label_or_keyword x → IsLabel (name_of x)
    by_prefix x (p, name, e, inl none, is) = subst IsLabel (sym (ap name_of (e ∙ ap (λ (z : List ℕ). z ++ name) none) ∙ label_name name is)) is
    by_prefix x (p, name, e, inr (b, one, is_percent), is) = subst IsLabel (sym (ap name_of (e ∙ ap (λ (z : List ℕ). z ++ name) one) ∙ percent b name is_percent)) is

-- and stands for itself
pub named_twice : (x : List ℕ) → HasShape (label x) → name_of (name_of x) ≡ name_of x
named_twice x h = label_name (name_of x) (named x h)
