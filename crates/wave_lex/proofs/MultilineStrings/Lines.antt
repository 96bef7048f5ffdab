-- The pieces of a text between its line feeds, and the spaces at the start of a line.
use Rattle.std.specs.Prelude.{MatchBool}
use Rattle.std.proofs.Common.{◌≡◌, ℕ, ◌≤◌, ◌<◌, ◌+◌, ◌-◌, ◌≢◌, zero, suc, Bool, true, false, nat_eq, List, [], ◌∷◌, ◌++◌, ◌⊎◌, inl, inr, None, Some, refl, sym, ap, subst, ◌∙◌, length, take, drop, arith, get_or, length-append, length-drop, length-take-le}
use Rattle.std.specs.Prelude.{if◌then◌else◌}
use Rattle.std.proofs.lemmas.Bool.{cases_lt, eqb-true}
use Rattle.memchr.specs.Find.{IsFirstByte, is_byte, is_byte2}
use Rattle.std.proofs.lemmas.Bool.Decides.{nat_tests}
use Rattle.std.specs.Str.{IsUtf8, IsCharBoundary}
use Rattle.std.proofs.lemmas.Str.{IsCharBoundary-start, IsCharBoundary-after_ascii}
use Rattle.std.proofs.lemmas.List.{append-nil, take-append-drop}
use Rattle.wave_lex.proofs.StringDecoding.OneMeaning.{length_spaces}
use Rattle.wave_lex.specs.Multiline.{put_first, pieces, spaces, DropsReturn, IsIndented, Opens, IsSpaces, without_return, last_of, closing_piece, OpensWell}
use Rattle.wave_lex.specs.Remaining.{Undecoded, LinesLeft, but_last, ended_lines}
use Rattle.wave_lex.specs.Parts.{Begins, EntersLine, HasBadLine}
use Rattle.wave_lex.specs.Private.Runs.{IsRun}
use Rattle.wave_lex.specs.Private.Lines.{BehindLastFeed, SplitsLine, OpeningIs, NoLineEntered}

-- ---- spaces

-- as many bytes as are spaces
pub spaces_taken : (s : List ℕ) (k : ℕ) → k ≤ length s → ((i : ℕ) → i < k → get_or s i 0 ≡ 32) → take k s ≡ spaces k
spaces_taken s zero l h = refl
spaces_taken [] (suc k) l h = let w : ⊥ = omega arith in absurd w
spaces_taken (b ∷ s) (suc k) l h =
    let first : b ≡ 32 = h 0 (omega arith) in
    let rest : take k s ≡ spaces k = spaces_taken s k (omega arith) (λ i m. let n : suc i < suc k = omega arith in h (suc i) n) in cc

-- each of the spaces is one
space_at : (m k : ℕ) (x : List ℕ) → k < m → get_or (spaces m ++ x) k 0 ≡ 32
space_at zero k x l = let w : ⊥ = omega arith in absurd w
space_at (suc m) zero x l = refl
space_at (suc m) (suc k) x l = space_at m k x (omega arith)

-- what holds another byte is no spaces
pub not_spaces : (s : List ℕ) (k : ℕ) → k < length s → get_or s k 0 ≢ 32 → IsSpaces s → ⊥
not_spaces s k l n h =
    let long : length s ≡ length (spaces h.0) = ap length h.1 in
    let there : get_or (spaces h.0 ++ []) k 0 ≡ 32 = space_at h.0 k [] (omega (arith, length_spaces h.0)) in
    n (ap (λ (z : List ℕ). get_or z k 0) (h.1 ∙ sym (append-nil (spaces h.0))) ∙ there)

-- spaces alone
pub all_spaces : (s : List ℕ) (k : ℕ) → k ≤ length s → length s ≤ k → ((i : ℕ) → i < k → get_or s i 0 ≡ 32) → s ≡ spaces (length s)
all_spaces s k l m h =
    let same : k ≡ length s = omega arith in
    let whole : take (length s) s ≡ spaces (length s) = spaces_taken s (length s) (omega arith) (λ i n. h i (omega arith)) in
    let none : drop (length s) s ≡ [] = no_bytes (drop (length s) s) (omega (arith, length-drop (length s) s)) in
    sym (take-append-drop (length s) s) ∙ (ap (λ (z : List ℕ). take (length s) s ++ z) none ∙ (append-nil (take (length s) s) ∙ whole))
  where
    no_bytes : (x : List ℕ) → length x ≡ 0 → x ≡ []
    no_bytes [] e = refl
    no_bytes (b ∷ x) e = let w : ⊥ = omega arith in absurd w

-- a line with fewer spaces
pub too_few : (line : List ℕ) (k n : ℕ) → k < n → (k < length line → get_or line k 0 ≢ 32) → (x : List ℕ) → line ≢ spaces n ++ x
too_few line k n l h x e =
    let long : length line ≡ length (spaces n ++ x) = ap length e in
    let fits : k < length line = omega (arith, length-append (spaces n) x, length_spaces n) in
    h fits (ap (λ (z : List ℕ). get_or z k 0) e ∙ space_at n k x l)

-- a line with enough spaces
pub indented : (line y : List ℕ) (k n : ℕ) → n ≤ k → k ≤ length line → ((i : ℕ) → i < k → get_or line i 0 ≡ 32) → DropsReturn (drop n line) y → IsIndented n line y
indented line y k n l m h d =
    let prefix : take n line ≡ spaces n = spaces_taken line n (omega arith) (λ i j. h i (omega arith)) in
    (drop n line, sym (take-append-drop n line) ∙ ap (λ (z : List ℕ). z ++ drop n line) prefix, d)

-- ---- pieces

-- a byte before the first of some pieces
put_first_append : (b : ℕ) (ps qs : List (List ℕ)) → ps ≢ [] → put_first b (ps ++ qs) ≡ put_first b ps ++ qs
put_first_append b [] qs n = absurd (n refl)
put_first_append b (p ∷ ps) qs n = refl

-- with a byte before it there is a piece
put_first_some : (b : ℕ) (ps : List (List ℕ)) → put_first b ps ≢ []
put_first_some b [] e = cc
put_first_some b (p ∷ ps) e = cc

-- a text has a piece
pieces_some : (s : List ℕ) → pieces s ≢ []
pieces_some [] e = cc
pieces_some (b ∷ s) e = by_test (nat_eq b 10) e
  where
    by_test : (t : Bool) → (if t then [] ∷ pieces s else put_first b (pieces s)) ≢ []
    by_test true e = cc
    by_test false e = put_first_some b (pieces s) e

-- what the first of some pieces and the others are
pub pieces_first : (s : List ℕ) → (q : List ℕ) × (qs : List (List ℕ)) × (pieces s ≡ q ∷ qs)
pieces_first s = split (pieces s) (pieces_some s)
  where
    split : (ps : List (List ℕ)) → ps ≢ [] → (q : List ℕ) × (qs : List (List ℕ)) × (ps ≡ q ∷ qs)
    split [] n = absurd (n refl)
    split (q ∷ qs) n = (q, qs, refl)

-- a line feed parts the pieces
pub pieces_append : (x y : List ℕ) → pieces (x ++ 10 ∷ y) ≡ pieces x ++ pieces y
pieces_append [] y = refl
pieces_append (b ∷ x) y = by_test (nat_eq b 10) (pieces_append x y)
  where
    by_test : (t : Bool) → pieces (x ++ 10 ∷ y) ≡ pieces x ++ pieces y → (if t then [] ∷ pieces (x ++ 10 ∷ y) else put_first b (pieces (x ++ 10 ∷ y))) ≡ (if t then [] ∷ pieces x else put_first b (pieces x)) ++ pieces y
    by_test true more = ap (λ (z : List (List ℕ)). [] ∷ z) more
    by_test false more = ap (put_first b) more ∙ put_first_append b (pieces x) (pieces y) (pieces_some x)

-- a text without line feed is one piece
pub pieces_none : (s : List ℕ) → ((i : ℕ) → i < length s → get_or s i 0 ≢ 10) → pieces s ≡ s ∷ []
pieces_none [] h = refl
pieces_none (b ∷ s) h =
    let first : b ≢ 10 = h 0 (omega arith) in
    let test : nat_eq b 10 ≡ false = grind (arith, nat_tests) in
    let rest : pieces s ≡ s ∷ [] = pieces_none s (λ i l. let m : suc i < suc (length s) = omega arith in h (suc i) m) in
    rw test (ap (put_first b) rest)

-- the text before the n-th byte and after it
split_at : (s : List ℕ) (n b : ℕ) → n < length s → get_or s n 0 ≡ b → s ≡ take n s ++ b ∷ drop (suc n) s
split_at [] n b l e = let w : ⊥ = omega arith in absurd w
split_at (a ∷ s) zero b l e = ap (λ (z : ℕ). z ∷ s) e
split_at (a ∷ s) (suc n) b l e = ap (λ (z : List ℕ). a ∷ z) (split_at s n b (omega arith) e)

-- a byte of the prefix is one of the text
take_at : (s : List ℕ) (n i : ℕ) → i < n → n ≤ length s → get_or (take n s) i 0 ≡ get_or s i 0
take_at s zero i l m = let w : ⊥ = omega arith in absurd w
take_at [] (suc n) i l m = let w : ⊥ = omega arith in absurd w
take_at (a ∷ s) (suc n) zero l m = refl
take_at (a ∷ s) (suc n) (suc i) l m = take_at s n i (omega arith) (omega arith)

-- a byte of the rest is one of the text
drop_at : (s : List ℕ) (n i : ℕ) → get_or (drop n s) i 0 ≡ get_or s (n + i) 0
drop_at s zero i = let m : i ≡ 0 + i = omega arith in ap (λ (z : ℕ). get_or s z 0) m
drop_at [] (suc n) i = refl
drop_at (a ∷ s) (suc n) i = let m : suc n + i ≡ suc (n + i) = omega arith in drop_at s n i ∙ ap (λ (z : ℕ). get_or (a ∷ s) z 0) (sym m)

-- one more byte is left out
next_drop : (s : List ℕ) (n : ℕ) → drop (suc n) s ≡ drop (n + 1) s
next_drop s n = let m : suc n ≡ n + 1 = omega arith in ap (λ (z : ℕ). drop z s) m

-- the first piece ends at the first line feed
pub pieces_before : (s : List ℕ) (n : ℕ) → n < length s → get_or s n 0 ≡ 10 → ((i : ℕ) → i < n → get_or s i 0 ≢ 10) → pieces s ≡ take n s ∷ pieces (drop (n + 1) s)
pieces_before s n l e h =
    let fits : n ≤ length s = omega arith in
    let long : length (take n s) ≡ n = length-take-le n s fits in
    let prefix : pieces (take n s) ≡ take n s ∷ [] = pieces_none (take n s) (λ i m f. let k : i < n = omega arith in h i k (sym (take_at s n i k fits) ∙ f)) in
    ap pieces (split_at s n 10 l e) ∙ (pieces_append (take n s) (drop (suc n) s) ∙ (ap (λ (z : List (List ℕ)). z ++ pieces (drop (suc n) s)) prefix ∙ ap (λ (z : List ℕ). take n s ∷ pieces z) (next_drop s n)))

-- the lines that a line feed ends, after the first of them
pub ended_behind : (s line behind : List ℕ) → pieces s ≡ line ∷ pieces behind → ended_lines s ≡ line ∷ ended_lines behind
ended_behind s line behind e =
    let f = pieces_first behind in
    let whole : pieces s ≡ line ∷ f.0 ∷ f.1 = e ∙ ap (λ (z : List (List ℕ)). line ∷ z) f.2 in
    ap but_last whole ∙ ap (λ (z : List (List ℕ)). line ∷ but_last z) (sym f.2)

-- all but the last of a list with one more
but_last_append : (ps : List (List ℕ)) (q : List ℕ) → but_last (ps ++ q ∷ []) ≡ ps
but_last_append [] q = refl
but_last_append (p ∷ []) q = refl
but_last_append (p ∷ r ∷ ps) q = ap (λ (z : List (List ℕ)). p ∷ z) (but_last_append (r ∷ ps) q)

-- the last of a list with one more
last_of_append : (ps : List (List ℕ)) (q : List ℕ) → last_of (ps ++ q ∷ []) ≡ q
last_of_append [] q = refl
last_of_append (p ∷ []) q = refl
last_of_append (p ∷ r ∷ ps) q = last_of_append (r ∷ ps) q

-- what must be spaces is the last of two pieces or more
pub closing_last : (p : List ℕ) (ps : List (List ℕ)) (q : List ℕ) → closing_piece (p ∷ (ps ++ q ∷ [])) ≡ q
closing_last p [] q = refl
closing_last p (r ∷ ps) q = last_of_append (r ∷ ps) q

-- ---- the last line feed

-- before a place after a line feed
feed_at : (s : List ℕ) (n : ℕ) → BehindLastFeed s (suc n) → get_or s n 0 ≡ 10
feed_at s n h = let m : suc n - 1 ≡ n = omega arith in subst (λ (z : ℕ). get_or s z 0 ≡ 10) m (h.behind (omega arith))

-- the text before a line feed and after it
split_feed : (s : List ℕ) (n : ℕ) → BehindLastFeed s (suc n) → s ≡ take n s ++ 10 ∷ drop (suc n) s
split_feed s n h = let fits : suc n ≤ length s = h.fits in split_at s n 10 (omega arith) (feed_at s n h)

-- after the last line feed stands one piece
behind_none : (s : List ℕ) (n : ℕ) → BehindLastFeed s n → pieces (drop n s) ≡ drop n s ∷ []
behind_none s n h = pieces_none (drop n s) (λ i l e. let fits : n + i < length s = omega (arith, length-drop n s) in h.last (n + i) (omega arith) fits (sym (drop_at s n i) ∙ e))

-- the pieces are the lines that a line feed ends, and the last piece
pub pieces_ended : (s : List ℕ) (n : ℕ) → BehindLastFeed s n → pieces s ≡ ended_lines (take n s) ++ drop n s ∷ []
pieces_ended s zero h = behind_none s zero h
pieces_ended s (suc n) h =
    let whole : s ≡ take n s ++ 10 ∷ drop (suc n) s = split_feed s n h in
    let fits : suc n ≤ length s = h.fits in
    let prefix : take (suc n) s ≡ take n s ++ 10 ∷ [] = take_one s n (omega arith) (feed_at s n h) in
    let lines : ended_lines (take (suc n) s) ≡ pieces (take n s) = ap ended_lines prefix ∙ (ap but_last (pieces_append (take n s) []) ∙ but_last_append (pieces (take n s)) []) in
    ap pieces whole ∙ (pieces_append (take n s) (drop (suc n) s) ∙ (ap (λ (z : List (List ℕ)). pieces (take n s) ++ z) (behind_none s (suc n) h) ∙ ap (λ (z : List (List ℕ)). z ++ drop (suc n) s ∷ []) (sym lines)))
  where
    take_one : (s : List ℕ) (n : ℕ) → n < length s → get_or s n 0 ≡ 10 → take (suc n) s ≡ take n s ++ 10 ∷ []
    take_one [] n l e = let w : ⊥ = omega arith in absurd w
    take_one (a ∷ s) zero l e = ap (λ (z : ℕ). z ∷ []) e
    take_one (a ∷ s) (suc n) l e = ap (λ (z : List ℕ). a ∷ z) (take_one s n (omega arith) e)

-- after the first piece the last line feed is the same one
pub later_feed : (s : List ℕ) (m n : ℕ) → m ≤ n → BehindLastFeed s n → BehindLastFeed (drop m s) (n - m)
later_feed s m n l h =
    let fits : n ≤ length s = h.fits in
    record {
      fits = omega (arith, length-drop m s);
      behind = λ some. let e : m + (n - m - 1) ≡ n - 1 = omega arith in
          drop_at s m (n - m - 1) ∙ (ap (λ (z : ℕ). get_or s z 0) e ∙ h.behind (omega arith));
      last = λ i k j e. h.last (m + i) (omega arith) (omega (arith, length-drop m s)) (sym (drop_at s m i) ∙ e);
    }

-- a line feed stands before the place after the last one
pub feed_before : (s : List ℕ) (k n : ℕ) → BehindLastFeed s n → k < length s → get_or s k 0 ≡ 10 → k < n
feed_before s k n h l e = elim (cases_lt k n) [ inl m ↦ m | inr m ↦ absurd (h.last k m l e) ]

-- ---- the three pieces of the code

-- a sole piece
closing_sole : (s : List ℕ) → BehindLastFeed s 0 → closing_piece (pieces s) ≡ without_return s
closing_sole s h = ap closing_piece (behind_none s 0 h)

-- with a carriage return
pub closing_return : (s : List ℕ) → BehindLastFeed s 0 → 0 < length s → get_or s 0 0 ≡ 13 → drop 1 s ≡ closing_piece (pieces s)
closing_return s h l e = sym (closing_sole s h ∙ without s l e)
  where
    without : (s : List ℕ) → 0 < length s → get_or s 0 0 ≡ 13 → without_return s ≡ drop 1 s
    without [] l e = refl
    without (b ∷ s) l e = let test : nat_eq b 13 ≡ true = grind (arith, nat_tests) in rw test refl

-- without one, or after a line feed
pub closing_plain : (s : List ℕ) (n : ℕ) → BehindLastFeed s n → (n ≡ 0 → 0 < length s → get_or s 0 0 ≢ 13) → drop n s ≡ closing_piece (pieces s)
closing_plain s zero h c = sym (closing_sole s h ∙ with_none s (c refl))
  where
    with_none : (s : List ℕ) → (0 < length s → get_or s 0 0 ≢ 13) → without_return s ≡ s
    with_none [] c = refl
    with_none (b ∷ s) c = let n : b ≢ 13 = c (omega arith) in let test : nat_eq b 13 ≡ false = grind (arith, nat_tests) in rw test refl
closing_plain s (suc n) h c =
    let f = pieces_first (take n s) in
    let whole : pieces s ≡ f.0 ∷ (f.1 ++ drop (suc n) s ∷ []) =
    ap pieces (split_feed s n h) ∙ (pieces_append (take n s) (drop (suc n) s)
    ∙ (ap (λ (z : List (List ℕ)). z ++ pieces (drop (suc n) s)) f.2 ∙ ap (λ (z : List (List ℕ)). f.0 ∷ (f.1 ++ z)) (behind_none s (suc n) h))) in
    sym (ap closing_piece whole ∙ closing_last f.0 f.1 (drop (suc n) s))

-- the pieces of the inside, where the last is spaces and the first stands before the first line feed
pub inside_cut : (s closing : List ℕ) (first start : ℕ) → BehindLastFeed s start → first < start → pieces s ≡ take first s ∷ pieces (drop (first + 1) s)
    → closing ≡ closing_piece (pieces s) → closing ≡ spaces (length closing)
    → pieces s ≡ take first s ∷ (ended_lines (take (start - (first + 1)) (drop (first + 1) s)) ++ spaces (length closing) ∷ [])
inside_cut s closing first start h l cut c w =
    let m : ℕ = start - (first + 1) in
    let t : List ℕ = drop (first + 1) s in
    let later : BehindLastFeed (drop (first + 1) s) (start - (first + 1)) = later_feed s (first + 1) start (omega arith) h in
    let more : pieces s ≡ take first s ∷ (ended_lines (take (start - (first + 1)) (drop (first + 1) s)) ++ drop (start - (first + 1)) (drop (first + 1) s) ∷ []) =
    cut ∙ ap (λ (z : List (List ℕ)). take first s ∷ z) (pieces_ended (drop (first + 1) s) (start - (first + 1)) later) in
    let last : drop (start - (first + 1)) (drop (first + 1) s) ≡ spaces (length closing) =
    sym (closing_last (take first s) (ended_lines (take (start - (first + 1)) (drop (first + 1) s))) (drop (start - (first + 1)) (drop (first + 1) s))) ∙ (ap closing_piece (sym more) ∙ (sym c ∙ w)) in
    more ∙ ap (λ (z : List ℕ). take first s ∷ (ended_lines (take (start - (first + 1)) (drop (first + 1) s)) ++ z ∷ [])) last

-- the first piece is not right
pub opens_badly : (s : List ℕ) (n : ℕ) → n < length s → pieces s ≡ take n s ∷ pieces (drop (n + 1) s) → (1 < n ⊎ ((n ≡ 1) × (get_or s 0 0 ≢ 13))) → OpensWell (pieces s) → ⊥
opens_badly s n l cut bad w =
    let f = pieces_first (drop (n + 1) s) in
    let opens : Opens (take n s) = subst OpensWell (cut ∙ ap (λ (z : List (List ℕ)). take n s ∷ z) f.2) w in
    let long : length (take n s) ≡ n = length-take-le n s (omega arith) in
    by_cases opens long bad
  where
    by_cases : Opens (take n s) → length (take n s) ≡ n → (1 < n ⊎ ((n ≡ 1) × (get_or s 0 0 ≢ 13))) → ⊥
    by_cases (inl e) long (inl b) = let k : length (take n s) ≡ 0 = ap length e in let v : ⊥ = omega arith in v
    by_cases (inl e) long (inr b) = let k : length (take n s) ≡ 0 = ap length e in let o : n ≡ 1 = b.0 in let v : ⊥ = omega arith in v
    by_cases (inr e) long (inl b) = let k : length (take n s) ≡ 1 = ap length e in let v : ⊥ = omega arith in v
    by_cases (inr e) long (inr b) = let o : 0 < n = omega (arith, b.0) in b.1 (sym (take_at s n 0 o (omega arith)) ∙ ap (λ (z : List ℕ). get_or z 0 0) e)

-- a sole piece is not right
pub opens_alone : (s : List ℕ) → ((i : ℕ) → i < length s → get_or s i 0 ≢ 10) → OpensWell (pieces s) → ⊥
opens_alone s h w = subst OpensWell (pieces_none s h) w

-- no line is ended where no line feed stands
pub none_ended : (s : List ℕ) → ((i : ℕ) → i < length s → get_or s i 0 ≢ 10) → ended_lines s ≡ []
none_ended s h = ap but_last (pieces_none s h)

is_feed : (b : ℕ) → b ≡ 10 → is_byte 10 b ≡ true
is_feed b e = grind (arith, nat_tests)

-- no line is ended where no line feed was found
pub none_found : (s t : List ℕ) → t ≡ s → IsFirstByte (is_byte 10) t None → ended_lines s ≡ []
none_found s t e h = none_ended s (λ i l f. h i (omega arith) (omega (arith, ap length e)) (is_feed (get_or t i 0) (ap (λ (z : List ℕ). get_or z i 0) e ∙ f)))

-- a line feed that was found
pub record FeedAt (s : List ℕ) (k : ℕ) : Type 0 where
  pub within : k < length s
  pub there : get_or s k 0 ≡ 10
  pub before : (i : ℕ) → i < k → get_or s i 0 ≢ 10

-- the first line feed
pub feed_found : (s t : List ℕ) (k : ℕ) → t ≡ s → IsFirstByte (is_byte 10) t (Some k) → FeedAt s k
feed_found s t k e (first, there) = subst (λ (z : List ℕ). FeedAt z k) e (record {
  within = first.high;
  there = eqb-true (get_or t k 0) 10 there;
  before = λ i l f. first.before i (omega arith) l (is_feed (get_or t i 0) f);
})

is_stop : (b : ℕ) → (b ≡ 10) ⊎ (b ≡ 92) → is_byte2 10 92 b ≡ true
is_stop b (inl e) = grind (arith, nat_tests)
is_stop b (inr e) = grind (arith, nat_tests)

-- no line is ended where neither a line feed nor a `\` was found
pub no_stop_found : (s t : List ℕ) → t ≡ s → IsFirstByte (is_byte2 10 92) t None → ended_lines s ≡ []
no_stop_found s t e h = none_ended s (λ i l f. h i (omega arith) (omega (arith, ap length e)) (is_stop (get_or t i 0) (inl (ap (λ (z : List ℕ). get_or z i 0) e ∙ f))))

-- a line feed that was found before any `\`
pub plain_feed_found : (s t : List ℕ) (k : ℕ) → t ≡ s → IsFirstByte (is_byte2 10 92) t (Some k) → get_or t k 0 ≡ 10 → FeedAt s k × ((i : ℕ) → i < k → get_or s i 0 ≢ 92)
plain_feed_found s t k e (first, there) feed = (
  subst (λ (z : List ℕ). FeedAt z k) e (record { within = first.high; there = feed; before = λ i l f. first.before i (omega arith) l (is_stop (get_or t i 0) (inl f)) }),
  λ i l f. first.before i (omega arith) l (is_stop (get_or t i 0) (inr (ap (λ (z : List ℕ). get_or z i 0) e ∙ f))),
)

-- a text without `\` is a run
pub whole_run : (s : List ℕ) (n : ℕ) → n ≡ length s → ((i : ℕ) → i < length s → get_or s i 0 ≢ 92) → IsRun s n
whole_run s n e h = record { within = omega arith; before = λ i l. h i (omega arith); stops = λ l. let w : ⊥ = omega arith in absurd w }

-- the line before a line feed is a run where no `\` stands before it
pub line_run : (s line : List ℕ) (k : ℕ) → k ≤ length s → line ≡ take k s → ((i : ℕ) → i < k → get_or s i 0 ≢ 92) → IsRun line (length line)
line_run s line k l e h =
    let long : length line ≡ k = ap length e ∙ length-take-le k s l in
    whole_run line (length line) refl (λ i j f. h i (omega arith) (sym (take_at s k i (omega arith) l) ∙ (ap (λ (z : List ℕ). get_or z i 0) (sym e) ∙ f)))

-- the line before the first line feed, and what stands after it
pub line_split : (s line behind : List ℕ) (k : ℕ) → FeedAt s k → line ≡ take k s → behind ≡ drop (k + 1) s → SplitsLine s line behind
line_split s line behind k h l b = record {
  parts = split_at s k 10 h.within h.there ∙ (ap (λ (z : List ℕ). take k s ++ 10 ∷ z) (next_drop s k ∙ sym b) ∙ ap (λ (z : List ℕ). z ++ 10 ∷ behind) (sym l));
  lines = ended_behind s line behind (pieces_before s k h.within h.there h.before ∙ (ap (λ (z : List ℕ). z ∷ pieces (drop (k + 1) s)) (sym l) ∙ ap (λ (z : List ℕ). line ∷ pieces z) (sym b)));
}

-- after the last line feed that was found
pub behind_found : (s : List ℕ) (k : ℕ) → (k < length s) × (get_or s k 0 ≡ 10) × ((i : ℕ) → k < i → i < length s → get_or s i 0 ≢ 10) → BehindLastFeed s (k + 1)
behind_found s k h = record {
  fits = omega (arith, h.0);
  behind = λ l. let m : k + 1 - 1 ≡ k = omega arith in subst (λ (z : ℕ). get_or s z 0 ≡ 10) (sym m) h.1;
  last = λ i l m. h.2 i (omega arith) m;
}

-- at the beginning, where none was found
pub behind_no_feed : (s : List ℕ) → ((i : ℕ) → i < length s → get_or s i 0 ≢ 10) → BehindLastFeed s 0
behind_no_feed s h = record { fits = omega arith; behind = λ l. let v : ⊥ = omega arith in absurd v; last = λ i l m. h i m }

-- ---- where a text may be split

-- after an ASCII byte
behind_ascii : (s : List ℕ) (n m b : ℕ) → IsUtf8 s → n < length s → get_or s n 0 ≡ b → b < 128 → m ≡ n + 1 → IsCharBoundary s m
behind_ascii s n m b u l e a q = subst (λ (z : ℕ). IsCharBoundary s z) (sym q) (IsCharBoundary-after_ascii s n u l (omega arith))

-- after a line feed
pub behind_feed : (s : List ℕ) (n : ℕ) → IsUtf8 s → n < length s → get_or s n 0 ≡ 10 → IsCharBoundary s (n + 1)
behind_feed s n u l e = behind_ascii s n (n + 1) 10 u l e (omega arith) refl

-- after a carriage return at the beginning
pub behind_return : (s : List ℕ) → IsUtf8 s → 0 < length s → get_or s 0 0 ≡ 13 → IsCharBoundary s 1
behind_return s u l e = behind_ascii s 0 1 13 u l e (omega arith) (omega arith)

-- after the last line feed
pub behind_last : (s : List ℕ) (n : ℕ) → IsUtf8 s → BehindLastFeed s n → IsCharBoundary s n
behind_last s zero u h = IsCharBoundary-start s u
behind_last s (suc n) u h = let fits : suc n ≤ length s = h.fits in behind_ascii s n (suc n) 10 u (omega arith) (feed_at s n h) (omega arith) (omega arith)

-- after spaces
pub behind_spaces : (s : List ℕ) (k n : ℕ) → IsUtf8 s → n ≤ k → k ≤ length s → ((i : ℕ) → i < k → get_or s i 0 ≡ 32) → IsCharBoundary s n
behind_spaces s k zero u l m h = IsCharBoundary-start s u
behind_spaces s k (suc n) u l m h = behind_ascii s n (suc n) 32 u (omega arith) (h n (omega arith)) (omega arith) (omega arith)

-- ---- before the first line

-- what the code found is the beginning of the lines
pub begins_here : (s closing body : List ℕ) (first start pos k : ℕ) (line : Undecoded) → BehindLastFeed s start → OpeningIs s (Some first) → closing ≡ closing_piece (pieces s)
    → k ≤ length closing → length closing ≤ k → ((i : ℕ) → i < k → get_or closing i 0 ≡ 32) → body ≡ take (start - (first + 1)) (drop (first + 1) s) → line.rest ≡ []
    → Begins s pos (record { line = line; later = ended_lines body; next = pos + first + 1; indent = length closing })
begins_here s closing body first start pos k line h o e l m sp b r =
    let before : first < start = feed_before s first start h o.0 o.1 in
    let inside : first < length s = o.0 in
    let long : length (take first s) ≡ first = length-take-le first s (omega arith) in
    record {
      first = take first s;
      cut = inside_cut s closing first start h before o.2 e (all_spaces closing k l m sp) ∙ ap (λ (z : List ℕ). take first s ∷ (ended_lines z ++ spaces (length closing) ∷ [])) (sym b);
      opens = o.3;
      next = omega (arith, long);
      read = r;
    }

-- what reading the first line leaves
pub opened : (old new : LinesLeft) (b : Bool) → MatchBool b (EntersLine old new) (NoLineEntered old new) → (old.later ≡ []) × (new ≡ old) ⊎ HasBadLine old × (new ≡ old) ⊎ EntersLine old new
opened old new true h = inr (inr h)
opened old new false (inl none, same) = inl (none, same)
opened old new false (inr bad, same) = inr (inl (bad, same))
