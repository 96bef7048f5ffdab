-- A text that is written from its beginning to its end has the words that were written.
use Rattle.std.proofs.Common.{◌≡◌, ℕ, ◌≤◌, ◌<◌, ◌+◌, Bool, true, false, nat_eq, nat_lt, zero, suc, List, [], ◌∷◌, ◌++◌, inl, inr, Option, Some, None, refl, sym, ap, subst, ◌∙◌, length, take, drop, arith, append_assoc, length-append}
use Rattle.std.specs.Prelude.{encode_utf8_all, get_or, not, if◌then◌else◌}
use Rattle.std.specs.List.{prefix_len}
use Rattle.std.proofs.lemmas.Bool.{and_parts, eqb-true}
use Rattle.std.proofs.lemmas.Bool.Decides.{nat_tests}
use Rattle.std.proofs.lemmas.Str.{IsUtf8-drop, IsCharBoundary-end}
use Rattle.std.specs.Char.{is_ascii_whitespace}
use Rattle.std.specs.Str.{IsUtf8}
use Rattle.std.proofs.lemmas.List.{append-nil, drop-drop}
use Rattle.std.proofs.Math.Seq.{take-append_seam, drop-append_seam}
use Rattle.wave_lex.specs.declared.lex.Token as lex
use Rattle.wave_lex.specs.declared.lex.Token.TheVariants as class
use Rattle.wave_lex.specs.Regex.{Regex, empty, Matches, is_one_of}
use Rattle.wave_lex.specs.Derive.{nullable, derivative, derivative_by}
use Rattle.wave_lex.specs.Tokens as shapes
use Rattle.wave_lex.specs.Tokens.{shape, whitespace}
use Rattle.wave_lex.specs.Multiline.{pieces, put_first}
use Rattle.wave_lex.specs.Tokenization.{IsWhitespace, IsLongestToken, MayStandAt}
use Rattle.wave_lex.specs.Private.Reading.{LeadsTo}
use Rattle.wave_lex.proofs.Machines.ClosedShapes.{number_rests, number_closed, label_or_keyword_rests, label_or_keyword_closed, character_rests, character_closed, string_rests, string_closed, multiline_string_rests, multiline_string_closed}
use Rattle.wave_lex.proofs.LongestPrefix.ByComputing.{ascii_spelled}
use Rattle.wave_lex.proofs.QuickScan.ByteRuns.{Keeps, run_kept}
use Rattle.wave_lex.proofs.RegularShapes.Derivatives.{matches_from}
use Rattle.wave_lex.proofs.Machines.Steps.{follows}
use Rattle.wave_lex.proofs.QuickScan.Prefixes.{prefix_behind, leads_on, lead_boundary}
use Rattle.wave_lex.proofs.Tokenization.TokenEnds.{EndsBefore, token_there, whitespace_before, ends_before, none_follows, NoMarkOf}
use Rattle.wave_grammar.specs.Token.{Token, lexeme_of, text_of}
use Rattle.wave_grammar.specs.Token as token
use Rattle.wave_grammar.proofs.Display.Tokens.{HasShape}
use Rattle.wave_format.specs.Words.{Word, a_token, a_comment, trimmed, trimmed_start, trimmed_end, is_comment, comment_of, comments_of, comments_in, WordsTo, HasWords}
use Rattle.wave_format.specs.Private.Writing.{IsLine, IsComment, IsGap, IsTail, stops, Stops, MayFollow, Written, IsReady}

-- ---- words, one after the other

pub words_append : (s : List ℕ) (ts us : List Token) (vs ws : List Word) (r q : List ℕ) → WordsTo s ts vs r → WordsTo r us ws q → WordsTo s (ts ++ us) (vs ++ ws) q
words_append s [] us vs ws r q (e, f) h = subst (λ (z : List ℕ). WordsTo z us (vs ++ ws) q) (sym e) (subst (λ (z : List Word). WordsTo r us (z ++ ws) q) (sym f) h)
words_append s (t ∷ ts) us vs ws r q (g, k, more, blank, long, text, e, rest) h =
    (g, k, more ++ ws, blank, long, text, ap (λ (z : List Word). z ++ ws) e ∙ append_assoc (comments_in (take g s)) (a_token t ∷ more) ws, words_append (drop (g + k) s) ts us more ws r q rest h)

-- ---- tokens

-- no stop may follow the text cs in the class
abbrev NoStopAfter : lex.Token → List ℕ → Type 0
NoStopAfter c cs = NoMarkOf stops (derivative_by cs (shape c))

number_ends : (cs : List ℕ) → Matches shapes.number cs → NoStopAfter class.Number cs
number_ends = none_follows shapes.number number_rests number_closed refl stops refl

label_ends : (cs : List ℕ) → Matches shapes.label_or_keyword cs → NoStopAfter class.LabelOrKeyword cs
label_ends = none_follows shapes.label_or_keyword label_or_keyword_rests label_or_keyword_closed refl stops refl

character_ends : (cs : List ℕ) → Matches shapes.character cs → NoStopAfter class.Char cs
character_ends = none_follows shapes.character character_rests character_closed refl stops refl

string_ends : (cs : List ℕ) → Matches shapes.string cs → NoStopAfter class.String cs
string_ends = none_follows shapes.string string_rests string_closed refl stops refl

multiline_ends : (cs : List ℕ) → Matches shapes.multiline_string cs → NoStopAfter class.MultilineString cs
multiline_ends = none_follows shapes.multiline_string multiline_string_rests multiline_string_closed refl stops refl

-- before a stop a string of no bytes may stand
may_stand : (x r : List ℕ) → Stops r → MayStandAt (x ++ r) (length x) class.String
may_stand [] r s two e = let w : ⊥ = omega arith in absurd w
may_stand (a ∷ []) r s two e = let w : ⊥ = omega arith in absurd w
may_stand (a ∷ b ∷ []) [] s two e = cc
may_stand (a ∷ b ∷ []) (d ∷ r) s two e =
    let same : d ≡ 34 = cc in
    let wrong : is_one_of 34 stops ≡ true = subst (λ (z : ℕ). is_one_of z stops ≡ true) same s in cc
may_stand (a ∷ b ∷ d ∷ x) r s two e = let w : ⊥ = omega arith in absurd w

-- the text x is the token of class c that stands before r
abbrev StandsBefore : lex.Token → List ℕ → List ℕ → Type 0
StandsBefore c x r = IsLongestToken (x ++ r) (length x) c × IsWhitespace (x ++ r) 0

stands_before : (c : lex.Token) (cs x r : List ℕ) → encode_utf8_all cs ≡ x → Matches (shape c) cs → EndsBefore (shape c) cs r → MayStandAt (x ++ r) (length x) c → StandsBefore c x r
stands_before c cs x r e h ends =
    subst (λ (z : List ℕ). MayStandAt (z ++ r) (length z) c → StandsBefore c z r) e
    (λ may. let there = token_there c cs r h ends may in (there, whitespace_before c cs r there.is h))

-- where no more may follow a mark
mark_stands : (c : lex.Token) (m : ℕ) (r : List ℕ) → nat_lt m 128 ≡ true → Matches (shape c) (m ∷ []) → derivative m (shape c) ≡ empty → MayStandAt (m ∷ r) 1 c → StandsBefore c (m ∷ []) r
mark_stands c m r small h last may =
    stands_before c (m ∷ []) (m ∷ []) r (ascii_spelled (m ∷ []) (rw small refl)) h (λ e rest there. ap (derivative e) last) may

-- a token stands where what may follow it follows
pub token_stands : (t : Token) → HasShape t → (r : List ℕ) → MayFollow (Some (lexeme_of t).0) r → StandsBefore (lexeme_of t).0 (text_of t) r
token_stands token.brace_open h r may = mark_stands class.BraceOpen 123 r refl (123, refl, refl) refl tt
token_stands token.brace_close h r may = mark_stands class.BraceClose 125 r refl (125, refl, refl) refl tt
token_stands token.paren_open h r may = mark_stands class.ParenOpen 40 r refl (40, refl, refl) refl tt
token_stands token.paren_close h r may = mark_stands class.ParenClose 41 r refl (41, refl, refl) refl tt
token_stands token.bracket_open h r may = mark_stands class.BracketOpen 91 r refl (91, refl, refl) refl tt
token_stands token.bracket_close h r may = mark_stands class.BracketClose 93 r refl (93, refl, refl) refl tt
token_stands token.colon h r may = mark_stands class.Colon 58 r refl (58, refl, refl) refl tt
token_stands token.comma h r may = mark_stands class.Comma 44 r refl (44, refl, refl) refl tt
token_stands (token.number x) (cs, e, h) r may = stands_before class.Number cs x r e h (ends_before stops refl shapes.number cs r (number_ends cs h) may) tt
token_stands (token.label x) (cs, e, h) r may = stands_before class.LabelOrKeyword cs x r e h (ends_before stops refl shapes.label_or_keyword cs r (label_ends cs h) may) tt
token_stands (token.char x) (cs, e, h) r may = stands_before class.Char cs x r e h (ends_before stops refl shapes.character cs r (character_ends cs h) may) tt
token_stands (token.string x) (cs, e, h) r may = stands_before class.String cs x r e h (ends_before stops refl shapes.string cs r (string_ends cs h) may) (may_stand x r may)
token_stands (token.multiline x) (cs, e, h) r may = stands_before class.MultilineString cs x r e h (ends_before stops refl shapes.multiline_string cs r (multiline_ends cs h) may) tt

-- ---- whitespace

-- whitespace leads on before any text
leads_before : (w y : List ℕ) → LeadsTo whitespace whitespace w (length w) → LeadsTo whitespace whitespace (w ++ y) (length w)
leads_before w y h = record {
  scalars = h.scalars;
  fits = omega (arith, length-append w y);
  spelled = h.spelled ∙ (take-all w ∙ sym (take-append_seam w y));
  has = h.has;
}
  where
    take-all : (w : List ℕ) → take (length w) w ≡ w
    take-all [] = refl
    take-all (b ∷ w) = ap (λ (z : List ℕ). b ∷ z) (take-all w)

-- whitespace before a text that begins with none is all that stands there
whitespace_here : (w y : List ℕ) → LeadsTo whitespace whitespace w (length w) → IsWhitespace y 0 → IsWhitespace (w ++ y) (length w)
whitespace_here w y h none =
    subst (λ (z : ℕ). IsWhitespace (w ++ y) z) (let e : length w + 0 ≡ length w = omega arith in e)
    (prefix_behind whitespace whitespace (w ++ y) y (length w) 0 (sym (drop-append_seam w y)) (leads_before w y h) none)

-- whitespace and then whitespace
leads_append : (w v : List ℕ) → LeadsTo whitespace whitespace w (length w) → LeadsTo whitespace whitespace v (length v) → LeadsTo whitespace whitespace (w ++ v) (length (w ++ v))
leads_append w v h f =
    subst (λ (z : ℕ). LeadsTo whitespace whitespace (w ++ v) z) (sym (length-append w v))
    (leads_on whitespace whitespace whitespace (w ++ v) v (length w) (length v) (sym (drop-append_seam w v)) (leads_before w v h) f)

pub no_gap : IsGap [] []
no_gap = record { leads = record { scalars = []; fits = omega arith; spelled = refl; has = refl }; has = λ y. refl }

pub gaps_append : (w v : List ℕ) (cs ds : List Word) → IsGap w cs → IsGap v ds → IsGap (w ++ v) (cs ++ ds)
gaps_append w v cs ds h f = record {
  leads = leads_append w v h.leads f.leads;
  has = λ y. ap comments_in (append_assoc w v y) ∙ (h.has (v ++ y) ∙ (ap (λ (z : List Word). cs ++ z) (f.has y) ∙ sym (append_assoc cs ds (comments_in y))));
}

-- a blank at the beginning of a line is left out
blank_start : (p : List ℕ) → trimmed_start (32 ∷ p) ≡ trimmed_start p
blank_start p = ap (λ (n : ℕ). drop n (32 ∷ p)) (let e : 1 + prefix_len is_ascii_whitespace p ≡ suc (prefix_len is_ascii_whitespace p) = omega arith in e)

blank_first : (ls : List (List ℕ)) → comments_of (put_first 32 ls) ≡ comments_of ls
blank_first [] = ap (λ (z : List ℕ). comment_of (trimmed_end z) ++ []) (blank_start [])
blank_first (p ∷ ps) = ap (λ (z : List ℕ). comment_of (trimmed_end z) ++ comments_of ps) (blank_start p)

pub blank_gap : IsGap (32 ∷ []) []
blank_gap = record { leads = record { scalars = 32 ∷ []; fits = omega arith; spelled = ascii_spelled (32 ∷ []) refl; has = refl }; has = λ y. blank_first (pieces y) }

pub feed_gap : IsGap (10 ∷ []) []
feed_gap = record { leads = record { scalars = 10 ∷ []; fits = omega arith; spelled = ascii_spelled (10 ∷ []) refl; has = refl }; has = λ y. refl }

-- ---- comments

-- a line that a line feed ends is the first
pub pieces_line : (c y : List ℕ) → IsLine c → pieces (c ++ 10 ∷ y) ≡ c ∷ pieces y
pieces_line [] y h = refl
pieces_line (b ∷ c) y (e, h) = rw e (ap (put_first b) (pieces_line c y h))

-- a line that none ends is the only one
pub pieces_end : (c : List ℕ) → IsLine c → pieces c ≡ c ∷ []
pieces_end [] h = refl
pieces_end (b ∷ c) (e, h) = rw e (ap (put_first b) (pieces_end c h))

comment_alone : (c : List ℕ) → IsComment c → comment_of (trimmed c) ≡ a_comment c ∷ []
comment_alone c h = ap comment_of h.trim ∙ ap (λ (b : Bool). if b then a_comment c ∷ [] else []) h.begins

comment_first : (c : List ℕ) (ls : List (List ℕ)) → IsComment c → comments_of (c ∷ ls) ≡ a_comment c ∷ comments_of ls
comment_first c ls h = ap (λ (z : List Word). z ++ comments_of ls) (comment_alone c h)

pub comment_only : (c : List ℕ) → IsComment c → comments_in c ≡ a_comment c ∷ []
comment_only c h = ap comments_of (pieces_end c h.line) ∙ comment_first c [] h

-- the bytes of a line are no line feeds
line_at : (c : List ℕ) → IsLine c → (i : ℕ) → i < length c → nat_eq (get_or c i 0) 10 ≡ false
line_at [] h i l = let w : ⊥ = omega arith in absurd w
line_at (b ∷ c) (e, h) zero l = e
line_at (b ∷ c) (e, h) (suc i) l = line_at c h i (omega arith)

-- what begins with two slashes
pub slashes : (c : List ℕ) → is_comment c ≡ true → (rest : List ℕ) × (c ≡ 47 ∷ 47 ∷ rest)
slashes [] e = cc
slashes (a ∷ []) e = cc
slashes (a ∷ b ∷ c) e =
    let q : (nat_eq a 47 ≡ true) × (nat_eq b 47 ≡ true) = and_parts _ _ e in
    (c, ap (λ (z : ℕ). z ∷ b ∷ c) (eqb-true a 47 q.0) ∙ ap (λ (z : ℕ). 47 ∷ z ∷ c) (eqb-true b 47 q.1))

-- what may follow two slashes
abbrev in_comment : Regex
in_comment = derivative_by (47 ∷ 47 ∷ []) whitespace

-- a byte but a line feed
abbrev in_line : ℕ → Bool
in_line b = not (nat_eq b 10)

in_line_past : (c : ℕ) → 128 ≤ c → in_line c ≡ true
in_line_past c l = grind (arith, nat_tests)

-- what stands in a comment leaves it as it is
comment_kept : Keeps in_line in_comment
comment_kept = record { past = in_line_past; stays = follows in_line in_comment in_comment refl refl in_line_past }

-- a comment leads to where more of it may follow
comment_goes : (c : List ℕ) → IsComment c → LeadsTo whitespace in_comment c (length c)
comment_goes c h =
    let (rest, e) = slashes c h.begins in
    let opens : LeadsTo whitespace in_comment c 2 = record { scalars = 47 ∷ 47 ∷ []; fits = omega (arith, ap length e); spelled = ascii_spelled (47 ∷ 47 ∷ []) refl ∙ ap (take 2) (sym e); has = refl } in
    let here : rest ≡ drop 2 c = ap (drop 2) (sym e) in
    let valid : IsUtf8 rest = subst IsUtf8 (sym here) (IsUtf8-drop c 2 h.valid (lead_boundary whitespace in_comment c 2 h.valid opens)) in
    let line : IsLine (47 ∷ 47 ∷ rest) = subst IsLine e h.line in
    let inside = run_kept in_line in_comment rest (length rest) comment_kept valid (omega arith) (λ i w. ap not (line_at rest line.1.1 i w)) (IsCharBoundary-end rest) in
    subst (λ (z : ℕ). LeadsTo whitespace in_comment c z) (let n : 2 + length rest ≡ length c = omega (arith, ap length e) in n)
    (leads_on whitespace in_comment in_comment c rest 2 (length rest) here opens inside)

-- a line feed ends it
feed_ends : LeadsTo in_comment whitespace (10 ∷ []) 1
feed_ends = record { scalars = 10 ∷ []; fits = omega arith; spelled = ascii_spelled (10 ∷ []) refl; has = refl }

-- leading on, before any text
goes_before : (q : Regex) (w y : List ℕ) → LeadsTo whitespace q w (length w) → LeadsTo whitespace q (w ++ y) (length w)
goes_before q w y h = record { scalars = h.scalars; fits = omega (arith, length-append w y); spelled = h.spelled ∙ (take-length w ∙ sym (take-append_seam w y)); has = h.has }
  where
    take-length : (w : List ℕ) → take (length w) w ≡ w
    take-length [] = refl
    take-length (b ∷ w) = ap (λ (z : List ℕ). b ∷ z) (take-length w)

pub comment_gap : (c : List ℕ) → IsComment c → IsGap (c ++ 10 ∷ []) (a_comment c ∷ [])
comment_gap c h = record {
  leads = subst (λ (z : ℕ). LeadsTo whitespace whitespace (c ++ 10 ∷ []) z) (sym (length-append c (10 ∷ [])))
      (leads_on whitespace in_comment whitespace (c ++ 10 ∷ []) (10 ∷ []) (length c) 1 (sym (drop-append_seam c (10 ∷ []))) (goes_before in_comment c (10 ∷ []) (comment_goes c h)) feed_ends);
  has = λ y. ap comments_in (append_assoc c (10 ∷ []) y) ∙ (ap comments_of (pieces_line c y h.line) ∙ comment_first c (pieces y) h);
}

-- ---- the end

-- what whitespace leads to may be all
all_whitespace : (q : Regex) (w : List ℕ) → LeadsTo whitespace q w (length w) → nullable q ≡ true → IsWhitespace w (length w)
all_whitespace q w h n = (
  record { scalars = h.scalars; fits = h.fits; spelled = h.spelled; has = matches_from h.scalars whitespace (ap nullable h.has ∙ n) },
  λ j f. f.fits,
)

-- a comment without its line feed behind whitespace is all whitespace
pub tail_is_whitespace : (b : Bool) (w tail : List ℕ) (cs ds : List Word) → IsGap w cs → IsTail b tail ds → IsWhitespace (w ++ tail) (length (w ++ tail)) × (comments_in (w ++ tail) ≡ cs ++ ds)
tail_is_whitespace false w tail cs ds g (e, f) = (
  subst (λ (z : List ℕ). IsWhitespace z (length z)) (sym (append-nil w) ∙ ap (λ (z : List ℕ). w ++ z) (sym e)) (all_whitespace whitespace w g.leads refl),
  ap (λ (z : List ℕ). comments_in (w ++ z)) e ∙ (g.has [] ∙ ap (λ (z : List Word). cs ++ z) (sym f)),
)
tail_is_whitespace true w tail cs ds g (c, f) = (
  all_whitespace in_comment (w ++ tail)
      (subst (λ (z : ℕ). LeadsTo whitespace in_comment (w ++ tail) z) (sym (length-append w tail))
      (leads_on whitespace whitespace in_comment (w ++ tail) tail (length w) (length tail) (sym (drop-append_seam w tail)) (goes_before whitespace w tail g.leads) (comment_goes tail c))) refl,
  g.has tail ∙ ap (λ (z : List Word). cs ++ z) (comment_only tail c ∙ sym f),
)

-- ---- writing

-- nothing is written behind the name
pub starts : (name : List ℕ) → Written name name [] [] None false
starts name = record {
  stem = [];
  gap = [];
  tail = [];
  before = [];
  inside = [];
  behind = [];
  parts = sym (append-nil name);
  is_words = refl;
  is_gap = no_gap;
  is_tail = (refl, refl);
  stands = λ r may. (refl, refl);
  apart = inl refl;
}

-- the text begins with a stop
abbrev pub BeginsApart : List ℕ → Type 0
BeginsApart [] = ⊥
BeginsApart (b ∷ s) = is_one_of b stops ≡ true

-- a stop may follow any token
pub may_stop : (last : Option lex.Token) (s r : List ℕ) → BeginsApart s → MayFollow last (s ++ r)
may_stop last [] r h = absurd h
may_stop None (b ∷ s) r h = tt
may_stop (Some class.BraceOpen) (b ∷ s) r h = tt
may_stop (Some class.BraceClose) (b ∷ s) r h = tt
may_stop (Some class.ParenOpen) (b ∷ s) r h = tt
may_stop (Some class.ParenClose) (b ∷ s) r h = tt
may_stop (Some class.BracketOpen) (b ∷ s) r h = tt
may_stop (Some class.BracketClose) (b ∷ s) r h = tt
may_stop (Some class.Colon) (b ∷ s) r h = tt
may_stop (Some class.Comma) (b ∷ s) r h = tt
may_stop (Some class.Number) (b ∷ s) r h = h
may_stop (Some class.LabelOrKeyword) (b ∷ s) r h = h
may_stop (Some class.Char) (b ∷ s) r h = h
may_stop (Some class.String) (b ∷ s) r h = h
may_stop (Some class.MultilineString) (b ∷ s) r h = h

-- two texts that are no text are none
first_empty : (x y : List ℕ) → x ++ y ≡ [] → (x ≡ []) × (y ≡ [])
first_empty [] [] e = (refl, refl)
first_empty [] (b ∷ y) e = cc
first_empty (b ∷ x) y e = cc

-- whitespace that stands apart, behind what is written
pub gap_written : (name text : List ℕ) (ts : List Token) (ws : List Word) (last : Option lex.Token) (v : List ℕ) (cs : List Word) → Written name text ts ws last false → IsGap v cs → BeginsApart v
    → (x : List ℕ) → IsReady name (text ++ v) ts (ws ++ cs) last x
gap_written name text ts ws last v cs w g apart x =
    let none : w.tail ≡ [] = w.is_tail.0 in
    let no_words : w.behind ≡ [] = w.is_tail.1 in
    let bare : w.gap ++ w.tail ≡ w.gap = ap (λ (z : List ℕ). w.gap ++ z) none ∙ append-nil w.gap in
    let may : (r : List ℕ) → MayFollow last ((w.gap ++ v) ++ r) = elim w.apart as (λ _. (r : List ℕ) → MayFollow last ((w.gap ++ v) ++ r)) [
      | inl e ↦ λ r. subst (λ (z : List ℕ). MayFollow last ((z ++ v) ++ r)) (sym (first_empty w.gap w.tail e).0) (may_stop last v r apart)
      | inr h ↦ λ r. subst (MayFollow last) (ap (λ (z : List ℕ). w.gap ++ (z ++ (v ++ r))) none ∙ sym (append_assoc w.gap v r)) (h (v ++ r))
    ] in
    record {
      written = record {
        stem = w.stem;
        gap = w.gap ++ v;
        tail = [];
        before = w.before;
        inside = w.inside ++ cs;
        behind = [];
        parts = ap (λ (z : List ℕ). z ++ v) (w.parts ∙ ap (λ (z : List ℕ). name ++ (w.stem ++ z)) bare) ∙ (append_assoc name (w.stem ++ w.gap) v ∙ ap (λ (z : List ℕ). name ++ z) (append_assoc w.stem w.gap v ∙ ap (λ (z : List ℕ). w.stem ++ z) (sym (append-nil (w.gap ++ v)))));
        is_words = ap (λ (z : List Word). z ++ cs) (w.is_words ∙ ap (λ (z : List Word). w.before ++ (w.inside ++ z)) no_words)
            ∙ (ap (λ (z : List Word). (w.before ++ z) ++ cs) (append-nil w.inside) ∙ (append_assoc w.before w.inside cs ∙ ap (λ (z : List Word). w.before ++ z) (sym (append-nil (w.inside ++ cs)))));
        is_gap = gaps_append w.gap v w.inside cs w.is_gap g;
        is_tail = (refl, refl);
        stands = w.stands;
        apart = inr (λ r. may r);
      };
      may = λ r. may (x ++ r);
    }

-- a line feed ends a comment
pub comment_ended : (name text : List ℕ) (ts : List Token) (ws : List Word) (last : Option lex.Token) → Written name text ts ws last true → (x : List ℕ) → IsReady name (text ++ 10 ∷ []) ts ws last x
comment_ended name text ts ws last w x =
    let (c, words) = w.is_tail in
    let g = gaps_append w.gap (w.tail ++ 10 ∷ []) w.inside (a_comment w.tail ∷ []) w.is_gap (comment_gap w.tail c) in
    let some : w.gap ++ w.tail ≡ [] → ⊥ = λ e. let none : w.tail ≡ [] = (first_empty w.gap w.tail e).1 in
    let wrong : false ≡ true = sym (ap is_comment none) ∙ c.begins in cc in
    let more : (r : List ℕ) → MayFollow last (w.gap ++ (w.tail ++ r)) = elim w.apart as (λ _. (r : List ℕ) → MayFollow last (w.gap ++ (w.tail ++ r))) [ inl e ↦ absurd (some e) | inr h ↦ h ] in
    let may : (r : List ℕ) → MayFollow last ((w.gap ++ (w.tail ++ 10 ∷ [])) ++ r) =
    λ r. subst (MayFollow last) (ap (λ (z : List ℕ). w.gap ++ z) (sym (append_assoc w.tail (10 ∷ []) r)) ∙ sym (append_assoc w.gap (w.tail ++ 10 ∷ []) r)) (more (10 ∷ r)) in
    record {
      written = record {
        stem = w.stem;
        gap = w.gap ++ (w.tail ++ 10 ∷ []);
        tail = [];
        before = w.before;
        inside = w.inside ++ a_comment w.tail ∷ [];
        behind = [];
        parts = ap (λ (z : List ℕ). z ++ 10 ∷ []) w.parts ∙ (append_assoc name (w.stem ++ (w.gap ++ w.tail)) (10 ∷ []) ∙ ap (λ (z : List ℕ). name ++ z)
            (append_assoc w.stem (w.gap ++ w.tail) (10 ∷ []) ∙ ap (λ (z : List ℕ). w.stem ++ z) (append_assoc w.gap w.tail (10 ∷ []) ∙ sym (append-nil (w.gap ++ (w.tail ++ 10 ∷ []))))));
        is_words = w.is_words ∙ ap (λ (z : List Word). w.before ++ z) (ap (λ (z : List Word). w.inside ++ z) words ∙ sym (append-nil (w.inside ++ a_comment w.tail ∷ [])));
        is_gap = g;
        is_tail = (refl, refl);
        stands = w.stands;
        apart = inr (λ r. may r);
      };
      may = λ r. may (x ++ r);
    }

-- a comment is written
pub comment_written : (name text : List ℕ) (ts : List Token) (ws : List Word) (last : Option lex.Token) (c : List ℕ) → IsReady name text ts ws last c → IsComment c → Written name (text ++ c) ts (ws ++ a_comment c ∷ []) last true
comment_written name text ts ws last c ready h =
    let w = ready.written in
    let none : w.tail ≡ [] = w.is_tail.0 in
    let no_words : w.behind ≡ [] = w.is_tail.1 in
    let bare : w.gap ++ w.tail ≡ w.gap = ap (λ (z : List ℕ). w.gap ++ z) none ∙ append-nil w.gap in
    record {
      stem = w.stem;
      gap = w.gap;
      tail = c;
      before = w.before;
      inside = w.inside;
      behind = a_comment c ∷ [];
      parts = ap (λ (z : List ℕ). z ++ c) (w.parts ∙ ap (λ (z : List ℕ). name ++ (w.stem ++ z)) bare) ∙ (append_assoc name (w.stem ++ w.gap) c ∙ ap (λ (z : List ℕ). name ++ z) (append_assoc w.stem w.gap c));
      is_words = ap (λ (z : List Word). z ++ a_comment c ∷ []) (w.is_words ∙ ap (λ (z : List Word). w.before ++ (w.inside ++ z)) no_words)
          ∙ (ap (λ (z : List Word). (w.before ++ z) ++ a_comment c ∷ []) (append-nil w.inside) ∙ append_assoc w.before w.inside (a_comment c ∷ []));
      is_gap = w.is_gap;
      is_tail = (h, refl);
      stands = w.stands;
      apart = inr ready.may;
    }

-- a token behind whitespace
token_step : (gap : List ℕ) (cs : List Word) (t : Token) (r : List ℕ) → IsGap gap cs → StandsBefore (lexeme_of t).0 (text_of t) r → WordsTo (gap ++ (text_of t ++ r)) (t ∷ []) (cs ++ a_token t ∷ []) r
token_step gap cs t r g (long, none) =
    let s = gap ++ (text_of t ++ r) in
    let there : drop (length gap) s ≡ text_of t ++ r = drop-append_seam gap (text_of t ++ r) in (
      length gap,
      length (text_of t),
      [],
      whitespace_here gap (text_of t ++ r) g.leads none,
      subst (λ (z : List ℕ). IsLongestToken z (length (text_of t)) (lexeme_of t).0) (sym there) long,
      sym (ap (take (length (text_of t))) there ∙ take-append_seam (text_of t) r),
      ap (λ (z : List Word). z ++ a_token t ∷ []) (sym (ap comments_in (take-append_seam gap (text_of t ++ r) ∙ sym (append-nil gap)) ∙ (g.has [] ∙ append-nil cs))),
      (sym (drop-drop (length (text_of t)) (length gap) s) ∙ (ap (drop (length (text_of t))) there ∙ drop-append_seam (text_of t) r), refl),
    )

-- a token is written
pub token_written : (name text : List ℕ) (ts : List Token) (ws : List Word) (last : Option lex.Token) (t : Token) → IsReady name text ts ws last (text_of t) → HasShape t
    → Written name (text ++ text_of t) (ts ++ t ∷ []) (ws ++ a_token t ∷ []) (Some (lexeme_of t).0) false
token_written name text ts ws last t ready shaped =
    let w = ready.written in
    let x = text_of t in
    let none : w.tail ≡ [] = w.is_tail.0 in
    let no_words : w.behind ≡ [] = w.is_tail.1 in
    let bare : w.gap ++ w.tail ≡ w.gap = ap (λ (z : List ℕ). w.gap ++ z) none ∙ append-nil w.gap in
    let same : w.before ++ (w.inside ++ w.behind) ≡ w.before ++ w.inside = ap (λ (z : List Word). w.before ++ z) (ap (λ (z : List Word). w.inside ++ z) no_words ∙ append-nil w.inside) in
    record {
      stem = w.stem ++ (w.gap ++ x);
      gap = [];
      tail = [];
      before = w.before ++ (w.inside ++ a_token t ∷ []);
      inside = [];
      behind = [];
      parts = ap (λ (z : List ℕ). z ++ x) (w.parts ∙ ap (λ (z : List ℕ). name ++ (w.stem ++ z)) bare) ∙ (append_assoc name (w.stem ++ w.gap) x ∙ ap (λ (z : List ℕ). name ++ z) (append_assoc w.stem w.gap x ∙ sym (append-nil (w.stem ++ (w.gap ++ x)))));
      is_words = ap (λ (z : List Word). z ++ a_token t ∷ []) (w.is_words ∙ same) ∙ (append_assoc w.before w.inside (a_token t ∷ []) ∙ sym (append-nil (w.before ++ (w.inside ++ a_token t ∷ []))));
      is_gap = no_gap;
      is_tail = (refl, refl);
      stands = λ r may.
          let first : WordsTo (w.stem ++ (w.gap ++ (x ++ r))) ts w.before (w.gap ++ (x ++ r)) = w.stands (w.gap ++ (x ++ r)) (ready.may r) in
          let next : WordsTo (w.gap ++ (x ++ r)) (t ∷ []) (w.inside ++ a_token t ∷ []) r = token_step w.gap w.inside t r w.is_gap (token_stands t shaped r may) in
          let whole : (w.stem ++ (w.gap ++ x)) ++ r ≡ w.stem ++ (w.gap ++ (x ++ r)) = append_assoc w.stem (w.gap ++ x) r ∙ ap (λ (z : List ℕ). w.stem ++ z) (append_assoc w.gap x r) in
          subst (λ (z : List ℕ). WordsTo z (ts ++ t ∷ []) (w.before ++ (w.inside ++ a_token t ∷ [])) r) (sym whole)
          (words_append (w.stem ++ (w.gap ++ (x ++ r))) ts (t ∷ []) w.before (w.inside ++ a_token t ∷ []) (w.gap ++ (x ++ r)) r first next);
      apart = inl refl;
    }

-- what may follow the last token stands right behind what is written
pub joined_ready : (name text : List ℕ) (ts : List Token) (ws : List Word) (last : Option lex.Token) (x : List ℕ) → Written name text ts ws last false → ((r : List ℕ) → MayFollow last (x ++ r)) → IsReady name text ts ws last x
joined_ready name text ts ws last x w may = record {
  written = w;
  may = elim w.apart as (λ _. (r : List ℕ) → MayFollow last (w.gap ++ (x ++ r))) [
    | inl e ↦ λ r. subst (λ (z : List ℕ). MayFollow last (z ++ (x ++ r))) (sym (first_empty w.gap w.tail e).0) (may r)
    | inr h ↦ λ r. subst (λ (z : List ℕ). MayFollow last (w.gap ++ (z ++ (x ++ r)))) (w.is_tail.0) (h (x ++ r))
  ];
}

-- the text has the words that were written
pub written_whole : (name text : List ℕ) (ts : List Token) (ws : List Word) (last : Option lex.Token) (b : Bool) → Written name text ts ws last b → (rest : List ℕ) × (text ≡ name ++ rest) × HasWords rest ts ws
written_whole name text ts ws last b w =
    let (all, comments) = tail_is_whitespace b w.gap w.tail w.inside w.behind w.is_gap w.is_tail in
    let may : MayFollow last (w.gap ++ w.tail) = elim w.apart as (λ _. MayFollow last (w.gap ++ w.tail)) [
      | inl e ↦ subst (MayFollow last) (sym e) (may_end last)
      | inr h ↦ subst (λ (z : List ℕ). MayFollow last (w.gap ++ z)) (append-nil w.tail) (h [])
    ] in
    (w.stem ++ (w.gap ++ w.tail), w.parts, (w.before, w.gap ++ w.tail, w.stands (w.gap ++ w.tail) may, all, w.is_words ∙ ap (λ (z : List Word). w.before ++ z) (sym comments)))
  where
    may_end : (last : Option lex.Token) → MayFollow last []
    may_end None = tt
    may_end (Some class.BraceOpen) = tt
    may_end (Some class.BraceClose) = tt
    may_end (Some class.ParenOpen) = tt
    may_end (Some class.ParenClose) = tt
    may_end (Some class.BracketOpen) = tt
    may_end (Some class.BracketClose) = tt
    may_end (Some class.Colon) = tt
    may_end (Some class.Comma) = tt
    may_end (Some class.Number) = tt
    may_end (Some class.LabelOrKeyword) = tt
    may_end (Some class.Char) = tt
    may_end (Some class.String) = tt
    may_end (Some class.MultilineString) = tt
