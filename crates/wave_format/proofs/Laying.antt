-- What is put on a sheet, token after token, is the text laid out.
use Rattle.std.proofs.Common.{◌≡◌, ℕ, ◌+◌, Bool, true, false, nat_eq, zero, suc, List, [], ◌∷◌, ◌++◌, ◌⊎◌, inl, inr, Option, Some, None, refl, sym, ap, subst, ◌∙◌, map, length, take, drop, append_assoc}
use Rattle.std.specs.Prelude.{◌-◌, ◌||◌, if◌then◌else◌}
use Rattle.std.specs.Char.{is_ascii_whitespace}
use Rattle.std.specs.List.{prefix_len, suffix_len}
use Rattle.std.proofs.lemmas.Bool.{or_cases, eqb-true}
use Rattle.std.proofs.lemmas.List.{append-nil}
use Rattle.wave_lex.specs.declared.lex.Token as lex
use Rattle.wave_lex.specs.declared.lex.Token.TheVariants as class
use Rattle.wave_lex.specs.Multiline.{pieces, put_first}
use Rattle.wave_lex.specs.Tokenization.{Tokenizes, Lexed, IsWhitespace, IsLongestToken, remainder_of}
use Rattle.wave_lex.proofs.LongestPrefix.ByComputing.{ascii_spelled}
use Rattle.wave_grammar.specs.Token.{Token, lexeme_of, text_of, comma, colon, paren_open}
use Rattle.wave_grammar.specs.Token as token
use Rattle.wave_grammar.specs.Tree.{Tree, Takes}
use Rattle.wave_grammar.specs.PrefixAutomaton.{Expectation, StackSymbol, reads, step, Shifts, value}
use Rattle.wave_grammar.proofs.Automaton.Sound.{leads_join}
use Rattle.wave_grammar.proofs.Display.Tokens.{HasShape}
use Rattle.wave_format.specs.Words.{Word, a_token, a_comment, trimmed, is_comment, comment_of, comments_of, comments_in, WordsTo, kept}
use Rattle.wave_format.specs.Private.Writing.{IsLine, IsComment, IsGap, MayFollow, Written, IsReady}
use Rattle.wave_format.specs.Private.Brackets.{payloads, Follows, is_close, HasItems, brackets_after}
use Rattle.wave_format.specs.Private.Sheets.{Sheet, AreBlanks, IsBreak, EndsComment, Writes, PutsLine, PutsLines, PutsSpace, PutsToken, PutsComma, Puts, is_stop, is_open_end, is_comma, is_joining}
use Rattle.wave_format.specs.Private.Laying.{SameBefore, LeadTo, AreWritten, IsLaidSoFar}
use Rattle.wave_format.proofs.Writing.{words_append, no_gap, gaps_append, blank_gap, feed_gap, BeginsApart, may_stop, gap_written, comment_ended, comment_written, token_written, joined_ready}
use Rattle.wave_format.proofs.OpenBrackets.{follows_step, brackets_step}
use Rattle.wave_format.proofs.LastCommas.{drop_comma, add_comma, same_token, same_dropped, same_added, kept_append}

-- ---- blanks

one_blank : (b : ℕ) → (nat_eq b 32 || nat_eq b 10) ≡ true → IsGap (b ∷ []) []
one_blank b h = elim (or_cases (nat_eq b 32) (nat_eq b 10) h) as (λ _. IsGap (b ∷ []) []) [
  | inl e ↦ subst (λ (z : ℕ). IsGap (z ∷ []) []) (sym (eqb-true b 32 e)) blank_gap
  | inr e ↦ subst (λ (z : ℕ). IsGap (z ∷ []) []) (sym (eqb-true b 10 e)) feed_gap
]

blanks_gap : (v : List ℕ) → AreBlanks v → IsGap v []
blanks_gap [] h = no_gap
blanks_gap (b ∷ v) (e, h) = gaps_append (b ∷ []) v [] [] (one_blank b e) (blanks_gap v h)

blank_apart : (b : ℕ) (v : List ℕ) → (nat_eq b 32 || nat_eq b 10) ≡ true → BeginsApart (b ∷ v)
blank_apart b v h = elim (or_cases (nat_eq b 32) (nat_eq b 10) h) as (λ _. BeginsApart (b ∷ v)) [
  | inl e ↦ subst (λ (z : ℕ). BeginsApart (z ∷ v)) (sym (eqb-true b 32 e)) refl
  | inr e ↦ subst (λ (z : ℕ). BeginsApart (z ∷ v)) (sym (eqb-true b 10 e)) refl
]

-- what is ready, with blanks
blanks_ready : (name text : List ℕ) (ts : List Token) (ws : List Word) (last : Option lex.Token) (v x : List ℕ) → AreBlanks v → IsReady name text ts ws last x → IsReady name (text ++ v) ts ws last x
blanks_ready name text ts ws last [] x h ready = subst (λ (z : List ℕ). IsReady name z ts ws last x) (sym (append-nil text)) ready
blanks_ready name text ts ws last (b ∷ v) x (e, h) ready =
    subst (λ (z : List Word). IsReady name (text ++ b ∷ v) ts z last x) (append-nil ws)
    (gap_written name text ts ws last (b ∷ v) [] ready.written (blanks_gap (b ∷ v) (e, h)) (blank_apart b v e) x)

-- a line begins
break_ready : (name text : List ℕ) (ts : List Token) (ws : List Word) (last : Option lex.Token) (b : Bool) (v x : List ℕ) → Written name text ts ws last b → IsBreak v → IsReady name (text ++ v) ts ws last x
break_ready name text ts ws last b [] x w h = absurd h
break_ready name text ts ws last true (c ∷ v) x w (e, h) =
    subst (λ (z : ℕ). IsReady name (text ++ z ∷ v) ts ws last x) (sym e)
    (subst (λ (z : List ℕ). IsReady name z ts ws last x) (append_assoc text (10 ∷ []) v)
    (blanks_ready name (text ++ 10 ∷ []) ts ws last v x h (comment_ended name text ts ws last w x)))
break_ready name text ts ws last false (c ∷ v) x w (e, h) =
    let feed : (nat_eq c 32 || nat_eq c 10) ≡ true = subst (λ (z : ℕ). (nat_eq z 32 || nat_eq z 10) ≡ true) (sym e) refl in
    subst (λ (z : List Word). IsReady name (text ++ c ∷ v) ts z last x) (append-nil ws)
    (gap_written name text ts ws last (c ∷ v) [] w (blanks_gap (c ∷ v) (feed, h)) (blank_apart c v feed) x)

-- a space
space_ready : (name text : List ℕ) (ts : List Token) (ws : List Word) (last : Option lex.Token) (x : List ℕ) → Written name text ts ws last false → IsReady name (text ++ 32 ∷ []) ts ws last x
space_ready name text ts ws last x w = subst (λ (z : List Word). IsReady name (text ++ 32 ∷ []) ts z last x) (append-nil ws) (gap_written name text ts ws last (32 ∷ []) [] w blank_gap refl x)

-- nothing
bare_written : (name text : List ℕ) (ts : List Token) (ws : List Word) (last : Option lex.Token) (b : Bool) (v : List ℕ) → v ≡ [] → Written name text ts ws last b → Written name (text ++ v) ts ws last b
bare_written name text ts ws last b v e w = subst (λ (z : List ℕ). Written name z ts ws last b) (sym (ap (λ (z : List ℕ). text ++ z) e ∙ append-nil text)) w

-- ---- lines of comments

line_take : (n : ℕ) (s : List ℕ) → IsLine s → IsLine (take n s)
line_take zero s h = tt
line_take (suc n) [] h = tt
line_take (suc n) (b ∷ s) (e, h) = (e, line_take n s h)

line_drop : (n : ℕ) (s : List ℕ) → IsLine s → IsLine (drop n s)
line_drop zero s h = h
line_drop (suc n) [] h = tt
line_drop (suc n) (b ∷ s) (e, h) = line_drop n s h

line_trimmed : (s : List ℕ) → IsLine s → IsLine (trimmed s)
line_trimmed s h =
    let t = drop (prefix_len is_ascii_whitespace s) s in
    line_take (length t - suffix_len is_ascii_whitespace t) t (line_drop (prefix_len is_ascii_whitespace s) s h)

-- each of them is a line
abbrev pub AreLines : List (List ℕ) → Type 0
AreLines [] = Unit {0}
AreLines (p ∷ ps) = IsLine p × AreLines ps

put_lines : (b : ℕ) (ps : List (List ℕ)) → nat_eq b 10 ≡ false → AreLines ps → AreLines (put_first b ps)
put_lines b [] e h = ((e, tt), tt)
put_lines b (p ∷ ps) e (h, more) = ((e, h), more)

-- the pieces of a text are lines
pub pieces_are : (s : List ℕ) → AreLines (pieces s)
pieces_are [] = (tt, tt)
pieces_are (b ∷ s) = by_test (pieces_are s) (nat_eq b 10) refl
  where
    by_test : AreLines (pieces s) → (t : Bool) → nat_eq b 10 ≡ t → AreLines (pieces (b ∷ s))
    by_test h true e = rw e (tt, h)
    by_test h false e = rw e (put_lines b (pieces s) e h)

-- what comments leave as it is
pub record Stays (old new : Sheet) : Type 0 where
  pub payloads : new.payloads ≡ old.payloads
  pub last : new.last ≡ old.last
  pub held : new.held ≡ old.held

stays_append : (s m q : Sheet) → Stays s m → Stays m q → Stays s q
stays_append s m q a b = record { payloads = b.payloads ∙ a.payloads; last = b.last ∙ a.last; held = b.held ∙ a.held }

-- the comment of a line is written
line_put : (name : List ℕ) (ts : List Token) (ws : List Word) (last : Option lex.Token) (b : Bool) (c : List ℕ) (s q : Sheet) → is_comment c ≡ b → IsLine c → (s.last ≡ None → last ≡ None) → Written name s.text ts ws last s.in_comment → PutsLine b c s q
    → Written name q.text ts (ws ++ comment_of c) last q.in_comment × Stays s q
line_put name ts ws last false c s q e line none w h =
    let no : comment_of c ≡ [] = ap (λ (z : Bool). if z then a_comment c ∷ [] else []) e in
    let same : ws ≡ ws ++ comment_of c = sym (append-nil ws) ∙ ap (λ (z : List Word). ws ++ z) (sym no) in
    subst (λ (z : Sheet). Written name z.text ts (ws ++ comment_of c) last z.in_comment × Stays s z) (sym h)
    (subst (λ (z : List Word). Written name s.text ts z last s.in_comment) same w, record { payloads = refl; last = refl; held = refl })
line_put name ts ws last true c s q e line none w h =
    let is : IsComment c = record { begins = e; line = line; trim = h.trim; valid = h.valid } in
    let one : comment_of c ≡ a_comment c ∷ [] = ap (λ (z : Bool). if z then a_comment c ∷ [] else []) e in
    let ready : IsReady name (s.text ++ h.space) ts ws last c = elim h.before as (λ _. IsReady name (s.text ++ h.space) ts ws last c) [
      | inl break ↦ break_ready name s.text ts ws last s.in_comment h.space c w break
      | inr (out, there) ↦ on_line out there
    ] in
    let written : Written name ((s.text ++ h.space) ++ c) ts (ws ++ a_comment c ∷ []) last true = comment_written name (s.text ++ h.space) ts ws last c ready is in
    subst (λ (z : Sheet). Written name z.text ts (ws ++ comment_of c) last z.in_comment × Stays s z) (sym h.is) (
      subst (λ (z : List Word). Written name (s.text ++ (h.space ++ c)) ts (ws ++ z) last true) (sym one) (subst (λ (z : List ℕ). Written name z ts (ws ++ a_comment c ∷ []) last true) (append_assoc s.text h.space c) written),
      record { payloads = refl; last = refl; held = refl },
    )
  where
    on_line : s.in_comment ≡ false → (h.space ≡ 32 ∷ []) ⊎ (h.space ≡ []) × (s.last ≡ None) → IsReady name (s.text ++ h.space) ts ws last c
    on_line out (inl e) = subst (λ (z : List ℕ). IsReady name (s.text ++ z) ts ws last c) (sym e) (space_ready name s.text ts ws last c (subst (Written name s.text ts ws last) out w))
    on_line out (inr (e, first)) = joined_ready name (s.text ++ h.space) ts ws last c (bare_written name s.text ts ws last false h.space e (subst (Written name s.text ts ws last) out w))
        (λ r. subst (λ (z : Option lex.Token). MayFollow z (c ++ r)) (sym (none first)) tt)

-- the comments of lines are written
pub lines_put : (name : List ℕ) (ts : List Token) (ws : List Word) (last : Option lex.Token) (ls : List (List ℕ)) (s q : Sheet) → AreLines ls → (s.last ≡ None → last ≡ None) → Written name s.text ts ws last s.in_comment → PutsLines ls s q
    → Written name q.text ts (ws ++ comments_of ls) last q.in_comment × Stays s q
lines_put name ts ws last [] s q lines none w h =
    subst (λ (z : Sheet). Written name z.text ts (ws ++ []) last z.in_comment × Stays s z) (sym h)
    (subst (λ (z : List Word). Written name s.text ts z last s.in_comment) (sym (append-nil ws)) w, record { payloads = refl; last = refl; held = refl })
lines_put name ts ws last (l ∷ ls) s q (line, lines) none w (m, one, more) =
    let (first, stays) = line_put name ts ws last (is_comment (trimmed l)) (trimmed l) s m refl (line_trimmed l line) none w one in
    let (all, later) = lines_put name ts (ws ++ comment_of (trimmed l)) last ls m q lines (λ e. none (sym stays.last ∙ e)) first more in
    (subst (λ (z : List Word). Written name q.text ts z last q.in_comment) (append_assoc ws (comment_of (trimmed l)) (comments_of ls)) all, stays_append s m q stays later)

-- ---- tokens

-- a mark that goes on with no token may follow any
stop_follows : (t : Token) (last : Option lex.Token) (r : List ℕ) → is_stop (lexeme_of t).0 ≡ true → MayFollow last (text_of t ++ r)
stop_follows token.brace_close last r h = may_stop last (125 ∷ []) r refl
stop_follows token.paren_open last r h = may_stop last (40 ∷ []) r refl
stop_follows token.paren_close last r h = may_stop last (41 ∷ []) r refl
stop_follows token.bracket_close last r h = may_stop last (93 ∷ []) r refl
stop_follows token.colon last r h = may_stop last (58 ∷ []) r refl
stop_follows token.comma last r h = may_stop last (44 ∷ []) r refl
stop_follows _ last r h = cc

-- any text may follow an opening bracket
open_follows : (last : Option lex.Token) (s : List ℕ) → is_open_end last ≡ true → MayFollow last s
open_follows None s h = tt
open_follows (Some class.BraceOpen) s h = tt
open_follows (Some class.ParenOpen) s h = tt
open_follows (Some class.BracketOpen) s h = tt
open_follows (Some _) s h = cc

-- the token is written, where it may stand
token_put : (name : List ℕ) (us : List Token) (ws : List Word) (last : Option lex.Token) (t : Token) (s q : Sheet) → HasShape t → Written name s.text us ws last s.in_comment → (s.in_comment ≡ false → IsReady name s.text us ws last (text_of t)) → Writes (text_of t) s q
    → Written name q.text (us ++ t ∷ []) (ws ++ a_token t ∷ []) (Some (lexeme_of t).0) q.in_comment × Stays s q
token_put name us ws last t s q shaped w may h =
    let ready : IsReady name (s.text ++ h.space) us ws last (text_of t) = by_test s.in_comment refl in
    let written = token_written name (s.text ++ h.space) us ws last t ready shaped in
    subst (λ (z : Sheet). Written name z.text (us ++ t ∷ []) (ws ++ a_token t ∷ []) (Some (lexeme_of t).0) z.in_comment × Stays s z) (sym h.is)
    (subst (λ (z : List ℕ). Written name z (us ++ t ∷ []) (ws ++ a_token t ∷ []) (Some (lexeme_of t).0) false) (append_assoc s.text h.space (text_of t)) written, record { payloads = refl; last = refl; held = refl })
  where
    by_test : (b : Bool) → s.in_comment ≡ b → IsReady name (s.text ++ h.space) us ws last (text_of t)
    by_test true e = break_ready name s.text us ws last s.in_comment h.space (text_of t) w (subst (λ (z : Bool). EndsComment z h.space) e h.ends)
    by_test false e = let none : h.space ≡ [] = subst (λ (z : Bool). EndsComment z h.space) e h.ends in
        subst (λ (z : List ℕ). IsReady name z us ws last (text_of t)) (sym (ap (λ (z : List ℕ). s.text ++ z) none ∙ append-nil s.text)) (may e)

-- a token that goes on with no other is written
stop_put : (name : List ℕ) (us : List Token) (ws : List Word) (last : Option lex.Token) (t : Token) (s q : Sheet) → HasShape t → is_stop (lexeme_of t).0 ≡ true → Written name s.text us ws last s.in_comment → Writes (text_of t) s q
    → Written name q.text (us ++ t ∷ []) (ws ++ a_token t ∷ []) (Some (lexeme_of t).0) q.in_comment × Stays s q
stop_put name us ws last t s q shaped stop w h =
    token_put name us ws last t s q shaped w (λ e. joined_ready name s.text us ws last (text_of t) (subst (Written name s.text us ws last) e w) (λ r. stop_follows t last r stop)) h

comma_shape : HasShape comma
comma_shape = (44 ∷ [], ascii_spelled (44 ∷ []) refl, (44, refl, refl))

-- a token after the whitespace before it
spaced_put : (name : List ℕ) (us : List Token) (ws : List Word) (last : Option lex.Token) (t : Token) (s m q : Sheet) → HasShape t → (last ≡ s.last) ⊎ (is_stop (lexeme_of t).0 ≡ true) → Written name s.text us ws last s.in_comment
    → PutsSpace (lexeme_of t).0 s m → Writes (text_of t) m q → Written name q.text (us ++ t ∷ []) (ws ++ a_token t ∷ []) (Some (lexeme_of t).0) q.in_comment × Stays s q
spaced_put name us ws last t s m q shaped last_is w h f =
    let ready : IsReady name (s.text ++ h.space) us ws last (text_of t) = elim h.before as (λ _. IsReady name (s.text ++ h.space) us ws last (text_of t)) [
      | inl break ↦ break_ready name s.text us ws last s.in_comment h.space (text_of t) w break
      | inr (out, there) ↦ on_line out there
    ] in
    let stays : Stays s m = subst (Stays s) (sym h.is) (record { payloads = refl; last = refl; held = refl }) in
    let here : IsReady name m.text us ws last (text_of t) = subst (λ (z : Sheet). IsReady name z.text us ws last (text_of t)) (sym h.is) ready in
    let out : m.in_comment ≡ false = ap (λ (z : Sheet). z.in_comment) h.is in
    let (written, later) = token_put name us ws last t m q shaped (subst (Written name m.text us ws last) (sym out) here.written) (λ e. here) f in
    (written, stays_append s m q stays later)
  where
    on_line : s.in_comment ≡ false → (h.space ≡ 32 ∷ []) ⊎ (h.space ≡ []) × ((is_stop (lexeme_of t).0 || is_open_end s.last) ≡ true) → IsReady name (s.text ++ h.space) us ws last (text_of t)
    on_line out (inl e) = subst (λ (z : List ℕ). IsReady name (s.text ++ z) us ws last (text_of t)) (sym e) (space_ready name s.text us ws last (text_of t) (subst (Written name s.text us ws last) out w))
    on_line out (inr (e, joins)) = joined_ready name (s.text ++ h.space) us ws last (text_of t) (bare_written name s.text us ws last false h.space e (subst (Written name s.text us ws last) out w))
        (λ r. elim (or_cases (is_stop (lexeme_of t).0) (is_open_end s.last) joins) as (λ _. MayFollow last (text_of t ++ r)) [
          | inl stop ↦ stop_follows t last r stop
          | inr open_end ↦ elim last_is as (λ _. MayFollow last (text_of t ++ r)) [
            | inl same ↦ open_follows last (text_of t ++ r) (ap is_open_end same ∙ open_end)
            | inr stop ↦ stop_follows t last r stop
          ]
        ])

-- ---- a token and what is put before it

-- the lexer gives the token t behind whitespace of g bytes
pub record TakesNext (l m : Lexed) (t : Token) (more : List Token) : Type 0 where
  pub gap : ℕ
  pub size : ℕ
  pub blank : IsWhitespace (remainder_of l) gap
  pub long : IsLongestToken (drop gap (remainder_of l)) size (lexeme_of t).0
  pub text : text_of t ≡ take size (drop gap (remainder_of l))
  pub rest : remainder_of m ≡ drop (gap + size) (remainder_of l)
  pub left : Tokenizes (remainder_of m) (map lexeme_of more)

-- a token that the lexer gives has its shape
pub next_shape : (l m : Lexed) (t : Token) (more : List Token) → TakesNext l m t more → HasShape t
next_shape l m t more h = (h.long.is.0.scalars, h.long.is.0.spelled ∙ sym h.text, h.long.is.0.has)

-- the word of a token and the comments before it
pub next_words : (l m : Lexed) (t : Token) (more : List Token) → (h : TakesNext l m t more) → WordsTo (remainder_of l) (t ∷ []) (comments_in (take h.gap (remainder_of l)) ++ a_token t ∷ []) (remainder_of m)
next_words l m t more h = (h.gap, h.size, [], h.blank, h.long, h.text, refl, (sym h.rest, refl))

-- the comma is put or not: these tokens and words are written, and the token t may follow
pub record IsBegun (n : ℕ) (name : List ℕ) (tokens : List Token) (laid_words : List Word) (t : Token) (e : Expectation) (r : List StackSymbol) (old new : Sheet) : Type 0 where
  pub laid : List Token
  pub words : List Word
  pub written : Option lex.Token
  pub expected : Expectation
  pub forms : List StackSymbol
  pub leads : LeadTo n laid expected forms
  pub steps : step n expected forms t ≡ reads e r
  pub same : SameBefore (tokens ++ t ∷ []) (laid ++ t ∷ [])
  pub before : is_close (lexeme_of t).0 ≡ false → SameBefore tokens laid
  pub of_sheet : Written name new.text laid words written new.in_comment
  pub same_words : kept laid_words ≡ kept words
  pub last : (written ≡ new.last) ⊎ (is_stop (lexeme_of t).0 ≡ true)
  pub first : new.last ≡ None → written ≡ None
  pub brackets : brackets_after new.last (lexeme_of t).0 new.payloads ≡ brackets_after old.last (lexeme_of t).0 old.payloads
  pub free : new.held ≡ false

leads_on_by : (n : ℕ) (ts : List Token) (d : Expectation) (forms : List StackSymbol) (t : Token) (e : Expectation) (r : List StackSymbol) → LeadTo n ts d forms → step n d forms t ≡ reads e r → LeadTo n (ts ++ t ∷ []) e r
leads_on_by n ts d forms t e r h f = leads_join n value d e [] forms r ts (t ∷ []) h (e, r, f, (refl, refl))

close_stops : (c : lex.Token) → is_close c ≡ true → is_stop c ≡ true
close_stops class.BraceClose h = refl
close_stops class.ParenClose h = refl
close_stops class.BracketClose h = refl
close_stops _ h = cc

close_brackets : (c : lex.Token) (a b : Option lex.Token) (fs : List Bool) → is_close c ≡ true → brackets_after a c fs ≡ brackets_after b c fs
close_brackets class.BraceClose a b fs h = refl
close_brackets class.ParenClose a b fs h = refl
close_brackets class.BracketClose a b fs h = refl
close_brackets _ a b fs h = cc

kept_comma : (ws : List Word) → kept ws ≡ kept (ws ++ a_token comma ∷ [])
kept_comma ws = sym (kept_append ws (a_token comma ∷ []) ∙ append-nil (kept ws))

-- no comma is held back
begin_free : (n : ℕ) (name : List ℕ) (tokens laid : List Token) (laid_words : List Word) (written : Option lex.Token) (d : Expectation) (forms : List StackSymbol) (t : Token) (e : Expectation) (r : List StackSymbol) (old new : Sheet)
    → old.held ≡ false → AreWritten n false tokens laid written old.last d forms → Written name old.text laid laid_words written old.in_comment → Follows d old.last → payloads d forms ≡ old.payloads → step n d forms t ≡ reads e r
    → PutsComma (lexeme_of t).0 old new → IsBegun n name tokens laid_words t e r old new
begin_free n name tokens laid laid_words written d forms t e r old new held (is_last, leads, same) w follows brackets steps (inl (is, why)) =
    subst (IsBegun n name tokens laid_words t e r old) (sym is) (record {
      laid = laid;
      words = laid_words;
      written = written;
      expected = d;
      forms = forms;
      leads = leads;
      steps = steps;
      same = same_token tokens laid t same;
      before = λ _. same;
      of_sheet = w;
      same_words = refl;
      last = inl is_last;
      first = λ q. is_last ∙ q;
      brackets = refl;
      free = refl;
    })
begin_free n name tokens laid laid_words written d forms t e r old new held (is_last, leads, same) w follows brackets steps (inr (m, writes, is, inl (was, open_token))) =
    let wrong : false ≡ true = sym held ∙ was in cc
begin_free n name tokens laid laid_words written d forms t e r old new held (is_last, leads, same) w follows brackets steps (inr (m, writes, is, inr (not_held, close, ends, items))) =
    let added = add_comma n d forms t e r (follows.ends ends) (subst HasItems (sym brackets) items) close steps in
    let (put, stays) = stop_put name laid laid_words written comma (record old { held = false }) m comma_shape refl w writes in
    let close_same : brackets_after (Some class.Comma) (lexeme_of t).0 m.payloads ≡ brackets_after old.last (lexeme_of t).0 old.payloads =
    close_brackets (lexeme_of t).0 (Some class.Comma) old.last m.payloads close ∙ ap (brackets_after old.last (lexeme_of t).0) stays.payloads in
    subst (IsBegun n name tokens laid_words t e r old) (sym is) (record {
      laid = laid ++ comma ∷ [];
      words = laid_words ++ a_token comma ∷ [];
      written = Some class.Comma;
      expected = added.0;
      forms = added.1;
      leads = leads_on_by n laid d forms comma added.0 added.1 leads added.2;
      steps = added.3;
      same = same_added tokens laid t close same;
      before = λ open_token. let wrong : true ≡ false = sym close ∙ open_token in cc;
      of_sheet = put;
      same_words = kept_comma laid_words;
      last = inl refl;
      first = λ q. cc;
      brackets = close_same;
      free = stays.held;
    })

-- a comma is held back
begin_held : (n : ℕ) (name : List ℕ) (tokens laid : List Token) (laid_words : List Word) (written : Option lex.Token) (d : Expectation) (forms : List StackSymbol) (t : Token) (e : Expectation) (r : List StackSymbol) (old new : Sheet)
    → old.held ≡ true → AreWritten n true tokens laid written old.last d forms → Written name old.text laid laid_words written old.in_comment → step n d forms t ≡ reads e r
    → PutsComma (lexeme_of t).0 old new → IsBegun n name tokens laid_words t e r old new
begin_held n name tokens laid laid_words written d forms t e r old new held (before, behind, open_forms, is_tokens, is_last, leads, commas, same) w steps (inl (is, inl free)) =
    let wrong : true ≡ false = sym held ∙ free in cc
begin_held n name tokens laid laid_words written d forms t e r old new held (before, behind, open_forms, is_tokens, is_last, leads, commas, same) w steps (inl (is, inr close)) =
    subst (IsBegun n name tokens laid_words t e r old) (sym is) (record {
      laid = laid;
      words = laid_words;
      written = written;
      expected = behind;
      forms = open_forms;
      leads = leads;
      steps = drop_comma n behind d open_forms forms t e r commas close steps;
      same = subst (λ (z : List Token). SameBefore (z ++ t ∷ []) (laid ++ t ∷ [])) (sym is_tokens) (same_dropped before laid t close same);
      before = λ open_token. let wrong : true ≡ false = sym close ∙ open_token in cc;
      of_sheet = w;
      same_words = refl;
      last = inr (close_stops (lexeme_of t).0 close);
      first = λ q. let wrong : Some class.Comma ≡ None = sym is_last ∙ q in cc;
      brackets = refl;
      free = refl;
    })
begin_held n name tokens laid laid_words written d forms t e r old new held (before, behind, open_forms, is_tokens, is_last, leads, commas, same) w steps (inr (m, writes, is, inr (not_held, close, ends, items))) =
    let wrong : true ≡ false = sym held ∙ not_held in cc
begin_held n name tokens laid laid_words written d forms t e r old new held (before, behind, open_forms, is_tokens, is_last, leads, commas, same) w steps (inr (m, writes, is, inl (was, open_token))) =
    let (put, stays) = stop_put name laid laid_words written comma (record old { held = false }) m comma_shape refl w writes in
    let whole : SameBefore tokens (laid ++ comma ∷ []) = subst (λ (z : List Token). SameBefore z (laid ++ comma ∷ [])) (sym is_tokens) (same_token before laid comma same) in
    subst (IsBegun n name tokens laid_words t e r old) (sym is) (record {
      laid = laid ++ comma ∷ [];
      words = laid_words ++ a_token comma ∷ [];
      written = Some class.Comma;
      expected = d;
      forms = forms;
      leads = leads_on_by n laid behind open_forms comma d forms leads commas;
      steps = steps;
      same = same_token tokens (laid ++ comma ∷ []) t whole;
      before = λ _. whole;
      of_sheet = put;
      same_words = kept_comma laid_words;
      last = inl refl;
      first = λ q. cc;
      brackets = ap (λ (z : Option lex.Token). brackets_after z (lexeme_of t).0 m.payloads) (sym is_last) ∙ ap (brackets_after old.last (lexeme_of t).0) stays.payloads;
      free = stays.held;
    })

pub begin : (n : ℕ) (name : List ℕ) (tokens laid : List Token) (laid_words : List Word) (written : Option lex.Token) (d : Expectation) (forms : List StackSymbol) (t : Token) (e : Expectation) (r : List StackSymbol) (old new : Sheet)
    → (b : Bool) → old.held ≡ b → AreWritten n b tokens laid written old.last d forms → Written name old.text laid laid_words written old.in_comment → Follows d old.last → payloads d forms ≡ old.payloads → step n d forms t ≡ reads e r
    → PutsComma (lexeme_of t).0 old new → IsBegun n name tokens laid_words t e r old new
begin n name tokens laid laid_words written d forms t e r old new false held are w follows brackets steps h = begin_free n name tokens laid laid_words written d forms t e r old new held are w follows brackets steps h
begin n name tokens laid laid_words written d forms t e r old new true held are w follows brackets steps h = begin_held n name tokens laid laid_words written d forms t e r old new held are w steps h

-- ---- the whole step

joining_stops : (c : lex.Token) → is_joining c ≡ true → is_stop c ≡ true
joining_stops class.Comma h = refl
joining_stops class.Colon h = refl
joining_stops class.ParenOpen h = refl
joining_stops _ h = cc

-- a token that joins is not kept
joining_kept : (t : Token) (ws : List Word) → is_joining (lexeme_of t).0 ≡ true → kept (a_token t ∷ ws) ≡ kept ws
joining_kept comma ws h = refl
joining_kept colon ws h = refl
joining_kept paren_open ws h = refl
joining_kept _ ws h = cc

open_comma : (c : lex.Token) → c ≡ class.Comma → is_close c ≡ false
open_comma c e = ap is_close e

comma_token : (t : Token) → (lexeme_of t).0 ≡ class.Comma → t ≡ comma
comma_token comma e = refl
comma_token _ e = cc

comma_brackets : (last : Option lex.Token) (c : lex.Token) (fs : List Bool) → c ≡ class.Comma → brackets_after last c fs ≡ fs
comma_brackets last c fs e = ap (λ (z : lex.Token). brackets_after last z fs) e

-- the same words are kept
pub kept_both : (a b c : List Word) → kept a ≡ kept b → kept (a ++ c) ≡ kept (b ++ c)
kept_both a b c h = kept_append a c ∙ (ap (λ (z : List Word). z ++ kept c) h ∙ sym (kept_append b c))

-- a token that joins may stand before the comments or behind them
kept_joined : (a b cs : List Word) (t : Token) → is_joining (lexeme_of t).0 ≡ true → kept a ≡ kept b → kept (a ++ (cs ++ a_token t ∷ [])) ≡ kept (b ++ cs)
kept_joined a b cs t j h =
    let none : kept (cs ++ a_token t ∷ []) ≡ kept cs = kept_append cs (a_token t ∷ []) ∙ (ap (λ (z : List Word). kept cs ++ z) (joining_kept t [] j) ∙ append-nil (kept cs)) in
    kept_append a (cs ++ a_token t ∷ []) ∙ (ap (λ (z : List Word). kept a ++ z) none ∙ (ap (λ (z : List Word). z ++ kept cs) h ∙ sym (kept_append b cs)))

kept_before : (b cs : List Word) (t : Token) → is_joining (lexeme_of t).0 ≡ true → kept (b ++ cs) ≡ kept ((b ++ a_token t ∷ []) ++ cs)
kept_before b cs t j =
    let none : kept (b ++ a_token t ∷ []) ≡ kept b = kept_append b (a_token t ∷ []) ∙ (ap (λ (z : List Word). kept b ++ z) (joining_kept t [] j) ∙ append-nil (kept b)) in
    kept_append b cs ∙ (ap (λ (z : List Word). z ++ kept cs) (sym none) ∙ sym (kept_append (b ++ a_token t ∷ []) cs))

-- what is laid out with the next token
next_laid : (n : ℕ) (tree : Tree) (name text : List ℕ) (l m : Lexed) (old new : Sheet) (h : IsLaidSoFar n tree name text l old) (t : Token) (more : List Token) (next : TakesNext l m t more) (e : Expectation) (r : List StackSymbol)
    → Takes n (h.tokens ++ t ∷ more) tree [] → step n h.expected h.forms t ≡ reads e r → Shifts n e r more h.last_expected []
    → (laid : List Token) (ws : List Word) (written : Option lex.Token) → Written name new.text laid ws written new.in_comment → AreWritten n new.held (h.tokens ++ t ∷ []) laid written new.last e r
    → kept (h.words ++ (comments_in (take next.gap (remainder_of l)) ++ a_token t ∷ [])) ≡ kept ws → new.last ≡ Some (lexeme_of t).0 → new.payloads ≡ brackets_after old.last (lexeme_of t).0 old.payloads
    → IsLaidSoFar n tree name text m new
next_laid n tree name text l m old new h t more next e r whole steps rest laid ws written w are same last open_brackets = record {
  tokens = h.tokens ++ t ∷ [];
  words = h.words ++ (comments_in (take next.gap (remainder_of l)) ++ a_token t ∷ []);
  more = more;
  laid = laid;
  laid_words = ws;
  written = written;
  expected = e;
  forms = r;
  last_expected = h.last_expected;
  of_text = words_append text h.tokens (t ∷ []) h.words (comments_in (take next.gap (remainder_of l)) ++ a_token t ∷ []) (remainder_of l) (remainder_of m) h.of_text (next_words l m t more next);
  rest = next.left;
  takes = subst (λ (z : List Token). Takes n z tree []) (sym (append_assoc h.tokens (t ∷ []) more)) whole;
  leads = rest;
  ends = h.ends;
  of_sheet = w;
  tokens_written = are;
  same_words = same;
  follows = subst (Follows e) (sym last) (follows_step n h.expected h.forms t e r steps);
  brackets = brackets_step old.last n h.expected h.forms t e r h.follows steps ∙ (ap (brackets_after old.last (lexeme_of t).0) h.brackets ∙ sym open_brackets);
}

-- what is written with the token t and the comments of the whitespace before it; a comma may be held back
pub record IsPut (name : List ℕ) (laid : List Token) (words : List Word) (t : Token) (gap : List ℕ) (begun new : Sheet) : Type 0 where
  pub after : List Token
  pub after_words : List Word
  pub written : Option lex.Token
  pub of_sheet : Written name new.text after after_words written new.in_comment
  pub is_kept : kept (words ++ (comments_in gap ++ a_token t ∷ [])) ≡ kept after_words
  pub last : new.last ≡ Some (lexeme_of t).0
  pub brackets : new.payloads ≡ brackets_after begun.last (lexeme_of t).0 begun.payloads
  pub done : (new.held ≡ true) × (t ≡ comma) × (after ≡ laid) ⊎ (new.held ≡ false) × (after ≡ laid ++ t ∷ []) × (written ≡ Some (lexeme_of t).0)

-- what is put behind the comma
abbrev pub PutsRest : lex.Token → List ℕ → List ℕ → Sheet → Sheet → Type 0
PutsRest c gap x begun new =
    (is_joining c ≡ true) × ((middle : Sheet) × PutsToken c x begun middle × PutsLines (pieces gap) middle new)
    ⊎ (is_comma c ≡ false) × ((middle : Sheet) × (spaced : Sheet) × PutsLines (pieces gap) begun middle × PutsSpace c middle spaced × PutsToken c x spaced new)

pub put_rest : (name : List ℕ) (laid : List Token) (words : List Word) (written : Option lex.Token) (t : Token) (gap : List ℕ) (begun new : Sheet) → HasShape t → Written name begun.text laid words written begun.in_comment
    → (written ≡ begun.last) ⊎ (is_stop (lexeme_of t).0 ≡ true) → (begun.last ≡ None → written ≡ None) → begun.held ≡ false → PutsRest (lexeme_of t).0 gap (text_of t) begun new → IsPut name laid words t gap begun new
put_rest name laid words written t gap begun new shaped w last_is first free (inl (joins, (middle, inl (is_comma_class, is), lines))) =
    let here : Written name middle.text laid words written middle.in_comment = subst (λ (z : Sheet). Written name z.text laid words written z.in_comment) (sym is) w in
    let middle_last : middle.last ≡ Some (lexeme_of t).0 = ap (λ (z : Sheet). z.last) is in
    let put : Written name new.text laid (words ++ comments_in gap) written new.in_comment × Stays middle new =
    lines_put name laid words written (pieces gap) middle new (pieces_are gap) (λ q. let wrong : Some (lexeme_of t).0 ≡ None = sym middle_last ∙ q in cc) here lines in
    record {
      after = laid;
      after_words = words ++ comments_in gap;
      written = written;
      of_sheet = put.0;
      is_kept = kept_joined words words (comments_in gap) t joins refl;
      last = put.1.last ∙ middle_last;
      brackets = put.1.payloads ∙ (ap (λ (z : Sheet). z.payloads) is ∙ sym (comma_brackets begun.last (lexeme_of t).0 begun.payloads is_comma_class));
      done = inl (put.1.held ∙ ap (λ (z : Sheet). z.held) is, comma_token t is_comma_class, refl);
    }
put_rest name laid words written t gap begun new shaped w last_is first free (inl (joins, (middle, inr (writing, writes, is), lines))) =
    let token : Written name writing.text (laid ++ t ∷ []) (words ++ a_token t ∷ []) (Some (lexeme_of t).0) writing.in_comment × Stays begun writing =
    stop_put name laid words written t begun writing shaped (joining_stops (lexeme_of t).0 joins) w writes in
    let here : Written name middle.text (laid ++ t ∷ []) (words ++ a_token t ∷ []) (Some (lexeme_of t).0) middle.in_comment = subst (λ (z : Sheet). Written name z.text (laid ++ t ∷ []) (words ++ a_token t ∷ []) (Some (lexeme_of t).0) z.in_comment) (sym is) token.0 in
    let middle_last : middle.last ≡ Some (lexeme_of t).0 = ap (λ (z : Sheet). z.last) is in
    let put : Written name new.text (laid ++ t ∷ []) ((words ++ a_token t ∷ []) ++ comments_in gap) (Some (lexeme_of t).0) new.in_comment × Stays middle new =
    lines_put name (laid ++ t ∷ []) (words ++ a_token t ∷ []) (Some (lexeme_of t).0) (pieces gap) middle new (pieces_are gap) (λ q. let wrong : Some (lexeme_of t).0 ≡ None = sym middle_last ∙ q in cc) here lines in
    record {
      after = laid ++ t ∷ [];
      after_words = (words ++ a_token t ∷ []) ++ comments_in gap;
      written = Some (lexeme_of t).0;
      of_sheet = put.0;
      is_kept = kept_joined words words (comments_in gap) t joins refl ∙ kept_before words (comments_in gap) t joins;
      last = put.1.last ∙ middle_last;
      brackets = put.1.payloads ∙ ap (λ (z : Sheet). z.payloads) is;
      done = inr (put.1.held ∙ (ap (λ (z : Sheet). z.held) is ∙ (token.1.held ∙ free)), refl, refl);
    }
put_rest name laid words written t gap begun new shaped w last_is first free (inr (no_comma, (middle, spaced, lines, space, inl (is_comma_class, is)))) =
    let wrong : true ≡ false = sym (ap is_comma is_comma_class) ∙ no_comma in cc
put_rest name laid words written t gap begun new shaped w last_is first free (inr (no_comma, (middle, spaced, lines, space, inr (writing, writes, is)))) =
    let put : Written name middle.text laid (words ++ comments_in gap) written middle.in_comment × Stays begun middle = lines_put name laid words written (pieces gap) begun middle (pieces_are gap) first w lines in
    let here_last : (written ≡ middle.last) ⊎ (is_stop (lexeme_of t).0 ≡ true) = elim last_is as (λ _. (written ≡ middle.last) ⊎ (is_stop (lexeme_of t).0 ≡ true)) [ inl q ↦ inl (q ∙ sym put.1.last) | inr q ↦ inr q ] in
    let token : Written name writing.text (laid ++ t ∷ []) ((words ++ comments_in gap) ++ a_token t ∷ []) (Some (lexeme_of t).0) writing.in_comment × Stays middle writing =
    spaced_put name laid (words ++ comments_in gap) written t middle spaced writing shaped here_last put.0 space writes in
    let spaced_last : spaced.last ≡ begun.last = ap (λ (z : Sheet). z.last) space.is ∙ put.1.last in
    let spaced_payloads : spaced.payloads ≡ begun.payloads = ap (λ (z : Sheet). z.payloads) space.is ∙ put.1.payloads in
    record {
      after = laid ++ t ∷ [];
      after_words = (words ++ comments_in gap) ++ a_token t ∷ [];
      written = Some (lexeme_of t).0;
      of_sheet = subst (λ (z : Sheet). Written name z.text (laid ++ t ∷ []) ((words ++ comments_in gap) ++ a_token t ∷ []) (Some (lexeme_of t).0) z.in_comment) (sym is) token.0;
      is_kept = ap kept (sym (append_assoc words (comments_in gap) (a_token t ∷ [])));
      last = ap (λ (z : Sheet). z.last) is;
      brackets = ap (λ (z : Sheet). z.payloads) is ∙ (ap (λ (z : Option lex.Token). brackets_after z (lexeme_of t).0 spaced.payloads) spaced_last ∙ ap (brackets_after begun.last (lexeme_of t).0) spaced_payloads);
      done = inr (ap (λ (z : Sheet). z.held) is ∙ (token.1.held ∙ (put.1.held ∙ free)), refl, refl);
    }

-- a comma that is held back, and a token that is written
held_written : (n : ℕ) (name : List ℕ) (tokens : List Token) (laid_words : List Word) (t : Token) (gap : List ℕ) (e : Expectation) (r : List StackSymbol) (old begun new : Sheet) (b : IsBegun n name tokens laid_words t e r old begun) (p : IsPut name b.laid b.words t gap begun new)
    → AreWritten n new.held (tokens ++ t ∷ []) p.after p.written new.last e r
held_written n name tokens laid_words t gap e r old begun new b p = elim p.done as (λ _. AreWritten n new.held (tokens ++ t ∷ []) p.after p.written new.last e r) [
  | inl (held, is, same) ↦
      let are : AreWritten n true (tokens ++ t ∷ []) b.laid p.written new.last e r = (
        tokens,
        b.expected,
        b.forms,
        ap (λ (z : Token). tokens ++ z ∷ []) is,
        p.last ∙ ap (λ (z : Token). Some (lexeme_of z).0) is,
        b.leads,
        subst (λ (z : Token). step n b.expected b.forms z ≡ reads e r) is b.steps,
        b.before (ap (λ (z : Token). is_close (lexeme_of z).0) is),
      ) in
      subst (λ (z : Bool). AreWritten n z (tokens ++ t ∷ []) p.after p.written new.last e r) (sym held) (subst (λ (z : List Token). AreWritten n true (tokens ++ t ∷ []) z p.written new.last e r) (sym same) are)
  | inr (held, all, written) ↦
      let are : AreWritten n false (tokens ++ t ∷ []) (b.laid ++ t ∷ []) p.written new.last e r = (written ∙ sym p.last, leads_on_by n b.laid b.expected b.forms t e r b.leads b.steps, b.same) in
      subst (λ (z : Bool). AreWritten n z (tokens ++ t ∷ []) p.after p.written new.last e r) (sym held) (subst (λ (z : List Token). AreWritten n false (tokens ++ t ∷ []) z p.written new.last e r) (sym all) are)
]

-- each token that is put is laid out
pub put_laid : (n : ℕ) (tree : Tree) (name text : List ℕ) (l m : Lexed) (old new : Sheet) (h : IsLaidSoFar n tree name text l old) (t : Token) (more : List Token) (next : TakesNext l m t more) (e : Expectation) (r : List StackSymbol)
    → Takes n (h.tokens ++ t ∷ more) tree [] → step n h.expected h.forms t ≡ reads e r → Shifts n e r more h.last_expected [] → Puts (lexeme_of t).0 (take next.gap (remainder_of l)) (text_of t) old new → IsLaidSoFar n tree name text m new
put_laid n tree name text l m old new h t more next e r whole steps rest (begun, commas, puts) =
    let b : IsBegun n name h.tokens h.laid_words t e r old begun = begin n name h.tokens h.laid h.laid_words h.written h.expected h.forms t e r old begun old.held refl h.tokens_written h.of_sheet h.follows h.brackets steps commas in
    let gap = take next.gap (remainder_of l) in
    let p : IsPut name b.laid b.words t gap begun new = put_rest name b.laid b.words b.written t gap begun new (next_shape l m t more next) b.of_sheet b.last b.first b.free puts in
    next_laid n tree name text l m old new h t more next e r whole steps rest p.after p.after_words p.written p.of_sheet
    (held_written n name h.tokens h.laid_words t gap e r old begun new b p)
    (kept_both h.words b.words (comments_in gap ++ a_token t ∷ []) (h.same_words ∙ b.same_words) ∙ p.is_kept) p.last (p.brackets ∙ b.brackets)
