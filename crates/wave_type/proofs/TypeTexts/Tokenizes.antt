-- The text of a token before a text that is tokenized is one token more.
use Rattle.std.proofs.Common.{◌≡◌, ◌≢◌, ℕ, ◌≤◌, ◌<◌, ◌+◌, ◌^◌, true, false, nat_lt, suc, List, [], ◌∷◌, ◌++◌, inl, inr, Some, None, refl, sym, ap, subst, ◌∙◌, length, take, drop, arith, append_assoc, codes}
use Rattle.std.specs.Prelude.{encode_utf8, encode_utf8_all}
use Rattle.std.specs.Fmt.{decimal}
use Rattle.std.proofs.lemmas.Bool.{ltb-true}
use Rattle.std.proofs.lemmas.List.{take-append-drop}
use Rattle.std.proofs.lemmas.Str.{encode_same, encode_ascii}
use Rattle.std.proofs.Math.Seq.{take-append_seam, drop-append_seam}
use Rattle.wave_lex.specs.declared.lex.Token.{Token}
use Rattle.wave_lex.specs.declared.lex.Token.TheVariants as class
use Rattle.wave_lex.specs.Labels.{IsLabel}
use Rattle.wave_lex.specs.LongestMatch.{IsPrefixOf}
use Rattle.wave_lex.specs.Regex.{nothing, empty, Matches, is_one_of}
use Rattle.wave_lex.specs.Derive.{nullable, derivative}
use Rattle.wave_lex.specs.Classes.{class_of, ClassAt}
use Rattle.wave_lex.specs.Tokenization.{MayStandAt, NoToken, IsWhitespace}
use Rattle.wave_lex.specs.Tokens.{shape, whitespace, invalid, number, label_or_keyword}
use Rattle.wave_lex.proofs.Tokenization.Classes.{group, token_shows, class_here, not_quoted}
use Rattle.wave_lex.proofs.Tokenization.TokenEnds.{stops_here, EndsBefore, no_longer, prefix_there, token_there, no_whitespace, whitespace_before, space_whitespace, passes, StopsBy, ends_before, none_follows}
use Rattle.wave_lex.proofs.Tokenization.Decimals.{decimal_ascii, decimal_number}
use Rattle.wave_lex.proofs.RegularShapes.Derivatives.{matches_from, matches_into}
use Rattle.wave_lex.proofs.RegularShapes.LabelWords.{spelled_by_itself}
use Rattle.wave_lex.proofs.LongestPrefix.ByComputing.{ascii_spelled, longest_here}
use Rattle.wave_lex.proofs.Machines.ClosedShapes.{number_rests, number_closed, label_or_keyword_rests, label_or_keyword_closed}
use Rattle.wave_type.specs.TypeSpelling.{Tokens, IsItem, IsTokenizedTo}

-- ---- whitespace

-- a space before a text that is tokenized
pub space_cut : (s : List ℕ) (ts : Tokens) → IsTokenizedTo s ts → IsTokenizedTo (32 ∷ s) ts
space_cut s [] g = space_whitespace s (length s) g
space_cut s (t ∷ ts) (g, k, whitespace_is, item, text, more) = (
  suc g,
  k,
  space_whitespace s g whitespace_is,
  item,
  text,
  subst (λ (z : ℕ). IsTokenizedTo (drop z (32 ∷ s)) ts) (let e : suc (g + k) ≡ suc g + k = omega arith in e) more,
)

-- the end has no token
pub end_cut : IsTokenizedTo [] []
end_cut = longest_here whitespace [] 0 refl refl refl refl

-- ---- an item before a text that is tokenized

item_cut : (x r : List ℕ) (ts : Tokens) → IsWhitespace (x ++ r) 0 → IsItem (x ++ r) (length x) → IsTokenizedTo r ts → IsTokenizedTo (x ++ r) (x ∷ ts)
item_cut x r ts none item cut = (
  0,
  length x,
  none,
  item,
  sym (take-append_seam x r),
  subst (λ (z : List ℕ). IsTokenizedTo z ts) (sym (drop-append_seam x r) ∙ ap (λ (z : ℕ). drop z (x ++ r)) (let e : length x ≡ 0 + length x = omega arith in e)) cut,
)

-- ASCII stands for itself, before anything
one_scalar : (m : ℕ) (r : List ℕ) → nat_lt m 128 ≡ true → m ∷ r ≡ encode_utf8 m ++ r
one_scalar m r small = sym (ap (λ (z : List ℕ). z ++ r) (encode_ascii m (ltb-true m 128 small)))

-- a token before what goes on with none of its class
token_cut : (c : Token) (cs x r : List ℕ) (ts : Tokens) → encode_utf8_all cs ≡ x → Matches (shape c) cs → EndsBefore (shape c) cs r → MayStandAt (x ++ r) (length x) c → IsTokenizedTo r ts → IsTokenizedTo (x ++ r) (x ∷ ts)
token_cut c cs x r ts e h ends =
    subst (λ (z : List ℕ). MayStandAt (z ++ r) (length z) c → IsTokenizedTo r ts → IsTokenizedTo (z ++ r) (z ∷ ts)) e
    (λ may cut. let there = token_there c cs r h ends may in item_cut (encode_utf8_all cs) r ts (whitespace_before c cs r there.is h) (inl (c, there)) cut)

-- a mark of one byte that is a token
mark_cut : (c : Token) (m : ℕ) (r : List ℕ) (ts : Tokens) → nat_lt m 128 ≡ true → Matches (shape c) (m ∷ []) → derivative m (shape c) ≡ empty → MayStandAt (m ∷ r) 1 c → IsTokenizedTo r ts → IsTokenizedTo (m ∷ r) ((m ∷ []) ∷ ts)
mark_cut c m r ts small h last may cut =
    token_cut c (m ∷ []) (m ∷ []) r ts (ascii_spelled (m ∷ []) (rw small refl)) h (λ e rest there. ap (derivative e) last) may cut

-- a mark of one byte where no token stands
other_cut : (m : ℕ) (r : List ℕ) (ts : Tokens) → nat_lt m 128 ≡ true → derivative m invalid ≡ empty → derivative m whitespace ≡ nothing → NoToken (m ∷ r) → IsTokenizedTo r ts → IsTokenizedTo (m ∷ r) ((m ∷ []) ∷ ts)
other_cut m r ts small last none no_token cut =
    let x : encode_utf8_all (m ∷ []) ≡ m ∷ [] = ascii_spelled (m ∷ []) (rw small refl) in
    let h : Matches invalid (m ∷ []) = matches_from (m ∷ []) invalid (ap nullable last) in
    let ends : EndsBefore invalid (m ∷ []) r = λ e rest there. ap (derivative e) last in
    let prefix : IsPrefixOf invalid (m ∷ r) 1 = subst (λ (z : List ℕ). IsPrefixOf invalid (z ++ r) (length z)) x (prefix_there invalid (m ∷ []) r h) in
    let longest : (j : ℕ) → IsPrefixOf invalid (m ∷ r) j → j ≤ 1 = subst (λ (z : List ℕ). (j : ℕ) → IsPrefixOf invalid (z ++ r) j → j ≤ length z) x (no_longer invalid (m ∷ []) r ends) in
    item_cut (m ∷ []) r ts (no_whitespace m (m ∷ r) r (one_scalar m r small) none) (inr (no_token, (prefix, longest))) cut

-- no token begins with the byte
shows_none : (m : ℕ) (r : List ℕ) → nat_lt m 128 ≡ true → class_of m ≡ None → NoToken (m ∷ r)
shows_none m r small e k c t = let wrong : None ≡ Some (group c) = sym e ∙ token_shows (m ∷ r) r k m c (one_scalar m r small) t in cc

-- no number begins with `->`
no_number : (r ds : List ℕ) (k : ℕ) → encode_utf8_all ds ≡ take k (45 ∷ 62 ∷ r) → Matches number ds → ⊥
no_number r [] k e h = let wrong : false ≡ true = matches_into [] number h in cc
no_number r (d ∷ ds) k e h =
    let whole : encode_utf8 d ++ (encode_utf8_all ds ++ drop k (45 ∷ 62 ∷ r)) ≡ encode_utf8 45 ++ (62 ∷ r) =
    sym (append_assoc (encode_utf8 d) (encode_utf8_all ds) (drop k (45 ∷ 62 ∷ r))) ∙ (ap (λ (z : List ℕ). z ++ drop k (45 ∷ 62 ∷ r)) e ∙ (take-append-drop k (45 ∷ 62 ∷ r) ∙ one_scalar 45 (62 ∷ r) refl)) in
    let s = encode_same d 45 (encode_utf8_all ds ++ drop k (45 ∷ 62 ∷ r)) (62 ∷ r) whole in
    behind ds (subst (λ (z : ℕ). Matches number (z ∷ ds)) s.0 h) s.1
  where
    behind : (es : List ℕ) → Matches number (45 ∷ es) → encode_utf8_all es ++ drop k (45 ∷ 62 ∷ r) ≡ 62 ∷ r → ⊥
    behind [] g f = let wrong : false ≡ true = matches_into (45 ∷ []) number g in cc
    behind (c ∷ es) g f =
        let w = encode_same c 62 (encode_utf8_all es ++ drop k (45 ∷ 62 ∷ r)) r (sym (append_assoc (encode_utf8 c) (encode_utf8_all es) (drop k (45 ∷ 62 ∷ r))) ∙ (f ∙ one_scalar 62 r refl)) in
        stops_here number (45 ∷ []) es 62 refl (subst (λ (z : ℕ). Matches number (45 ∷ z ∷ es)) w.0 g)

no_arrow : (r : List ℕ) → NoToken (45 ∷ 62 ∷ r)
no_arrow r k c t =
    let not_three : (more : List ℕ) → 45 ∷ 62 ∷ r ≢ codes "\"\"\"" ++ more = not_quoted (45 ∷ 62 ∷ r) (62 ∷ r) 45 (one_scalar 45 (62 ∷ r) refl) (λ e. omega (arith, e)) in
    let here : ClassAt (45 ∷ 62 ∷ r) (Some class.Number) = class_here (45 ∷ 62 ∷ r) (62 ∷ r) 45 (Some class.Number) (one_scalar 45 (62 ∷ r) refl) not_three refl in
    let same : c ≡ class.Number = here.0 k c t in
    let f : IsPrefixOf number (45 ∷ 62 ∷ r) k = subst (λ (z : Token). IsPrefixOf (shape z) (45 ∷ 62 ∷ r) k) same t.0 in
    no_number r f.scalars k f.spelled f.has

-- ---- the marks

pub brace_open_cut : (r : List ℕ) (ts : Tokens) → IsTokenizedTo r ts → IsTokenizedTo (123 ∷ r) (codes "{" ∷ ts)
brace_open_cut r ts cut = mark_cut class.BraceOpen 123 r ts refl (123, refl, refl) refl tt cut

pub brace_close_cut : (r : List ℕ) (ts : Tokens) → IsTokenizedTo r ts → IsTokenizedTo (125 ∷ r) (codes "}" ∷ ts)
brace_close_cut r ts cut = mark_cut class.BraceClose 125 r ts refl (125, refl, refl) refl tt cut

pub paren_open_cut : (r : List ℕ) (ts : Tokens) → IsTokenizedTo r ts → IsTokenizedTo (40 ∷ r) (codes "(" ∷ ts)
paren_open_cut r ts cut = mark_cut class.ParenOpen 40 r ts refl (40, refl, refl) refl tt cut

pub paren_close_cut : (r : List ℕ) (ts : Tokens) → IsTokenizedTo r ts → IsTokenizedTo (41 ∷ r) (codes ")" ∷ ts)
paren_close_cut r ts cut = mark_cut class.ParenClose 41 r ts refl (41, refl, refl) refl tt cut

-- a colon or comma, and the space after it
pub colon_cut : (r : List ℕ) (ts : Tokens) → IsTokenizedTo r ts → IsTokenizedTo (58 ∷ 32 ∷ r) (codes ":" ∷ ts)
colon_cut r ts cut = mark_cut class.Colon 58 (32 ∷ r) ts refl (58, refl, refl) refl tt (space_cut r ts cut)

pub comma_cut : (r : List ℕ) (ts : Tokens) → IsTokenizedTo r ts → IsTokenizedTo (44 ∷ 32 ∷ r) (codes "," ∷ ts)
comma_cut r ts cut = mark_cut class.Comma 44 (32 ∷ r) ts refl (44, refl, refl) refl tt (space_cut r ts cut)

pub less_cut : (r : List ℕ) (ts : Tokens) → IsTokenizedTo r ts → IsTokenizedTo (60 ∷ r) (codes "<" ∷ ts)
less_cut r ts cut = other_cut 60 r ts refl refl refl (shows_none 60 r refl refl) cut

pub greater_cut : (r : List ℕ) (ts : Tokens) → IsTokenizedTo r ts → IsTokenizedTo (62 ∷ r) (codes ">" ∷ ts)
greater_cut r ts cut = other_cut 62 r ts refl refl refl (shows_none 62 r refl refl) cut

pub blank_cut : (r : List ℕ) (ts : Tokens) → IsTokenizedTo r ts → IsTokenizedTo (95 ∷ r) (codes "_" ∷ ts)
blank_cut r ts cut = other_cut 95 r ts refl refl refl (shows_none 95 r refl refl) cut

-- `->`
pub arrow_cut : (r : List ℕ) (ts : Tokens) → IsTokenizedTo r ts → IsTokenizedTo (45 ∷ 62 ∷ r) (codes "-" ∷ codes ">" ∷ ts)
arrow_cut r ts cut = other_cut 45 (62 ∷ r) (codes ">" ∷ ts) refl refl refl (no_arrow r) (greater_cut r ts cut)

-- ---- names and numbers

-- the marks that may follow a name or a number
abbrev stops : List ℕ
stops = codes " ,:()<>"

-- the text is empty, or begins with such a mark
abbrev pub Stops : List ℕ → Type 0
Stops = StopsBy stops

-- the text is empty, or begins with a mark that may follow a type
abbrev pub Ends : List ℕ → Type 0
Ends = StopsBy (codes " ),>")

-- such a mark stops a name
pub ends_stop : (r : List ℕ) → Ends r → Stops r
ends_stop [] h = tt
ends_stop (b ∷ r) h = passes (λ z. is_one_of z stops) (codes " ),>") b refl h

-- a label
pub label_cut : (name r : List ℕ) (ts : Tokens) → IsLabel name → Stops r → IsTokenizedTo r ts → IsTokenizedTo (name ++ r) (name ∷ ts)
label_cut name r ts h s cut =
    let has : Matches label_or_keyword name = ([], name, refl, inl refl, h) in
    let none = none_follows label_or_keyword label_or_keyword_rests label_or_keyword_closed refl stops refl name has in
    token_cut class.LabelOrKeyword name name r ts (spelled_by_itself name has) has (ends_before stops refl label_or_keyword name r none s) tt cut

-- a number
pub number_cut : (k : ℕ) (r : List ℕ) (ts : Tokens) → k < 2 ^ 64 → Stops r → IsTokenizedTo r ts → IsTokenizedTo (decimal k ++ r) (decimal k ∷ ts)
number_cut k r ts l s cut =
    let has : Matches number (decimal k) = decimal_number k l in
    let none = none_follows number number_rests number_closed refl stops refl (decimal k) has in
    token_cut class.Number (decimal k) (decimal k) r ts (ascii_spelled (decimal k) (decimal_ascii k l)) has (ends_before stops refl number (decimal k) r none s) tt cut
