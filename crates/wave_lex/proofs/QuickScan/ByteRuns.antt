-- The bytes that leave a machine in its state, and marks.
use Rattle.std.proofs.Common.{◌≡◌, ℕ, ◌≤◌, ◌<◌, ◌+◌, ◌-◌, Bool, true, false, nat_eq, zero, suc, List, [], ◌∷◌, ◌++◌, inl, inr, refl, sym, ap, subst, ◌∙◌, length, take, drop, arith, get_or, Some, length-take-le, get_or-take, get_or-drop}
use Rattle.std.specs.Prelude.{◌≢◌, ◌||◌, not, encode_utf8, encode_utf8_all, codes}
use Rattle.std.specs.Str.{IsUtf8, chars}
use Rattle.std.proofs.lemmas.Bool.{cases_lt}
use Rattle.wave_lex.proofs.LongestPrefix.ByComputing.{or_not}
use Rattle.std.proofs.lemmas.Bool.Decides.{nat_tests}
use Rattle.std.proofs.Math.Seq.{get_or-append_right}
use Rattle.std.proofs.lemmas.Str.{encode_ascii, IsUtf8-take, IsUtf8-drop, encodes-chars}
use Rattle.std.specs.Str.{IsCharBoundary}
use Rattle.std.proofs.Common.{length-append, length-drop}
use Rattle.memchr.specs.Find.{IsFirstByte, is_byte}
use Rattle.wave_lex.specs.Regex.{Regex, nothing, empty, is_within}
use Rattle.wave_lex.specs.Derive.{nullable, derivative, derivative_by}
use Rattle.wave_lex.specs.LongestMatch.{Greatest, IsPrefixOf}
use Rattle.wave_lex.specs.Tokens.{one, string, whitespace, number, label_or_keyword}
use Rattle.wave_lex.specs.Private.Reading.{LeadsTo}
use Rattle.wave_lex.specs.Private.Machines.{after_sign, is_blank, is_plain, ends_whole}
use Rattle.wave_lex.specs.Machines.{rest, is_digit, is_lower}
use Rattle.wave_lex.specs.declared.machine.Start.TheVariants.{Zero, WholePart, Fraction, LowerWord, InString}
use Rattle.wave_lex.proofs.LongestPrefix.ByComputing.{ascii_spelled}
use Rattle.wave_lex.proofs.LongestPrefix.MachineWalks.{after_all_append, after_all_nothing}
use Rattle.wave_lex.proofs.RegularShapes.Comparisons.{same, same_true}
use Rattle.wave_lex.proofs.Machines.ClosedShapes.{string_rests, string_closed}
use Rattle.wave_lex.proofs.Machines.Steps.{follows, is_in, passed_in, text_leads}
use Rattle.wave_lex.proofs.QuickScan.Prefixes.{prefix_behind, PassesNone, cut_here, lead_boundary, ascii_leads, empty_prefix, first_byte, leads_on, run_stays, run_leads, run_ends}

-- what may follow in a comment
abbrev in_comment : Regex
in_comment = derivative_by (codes "//") whitespace

-- what may follow a first zero of a number
abbrev behind_zero : Regex
behind_zero = derivative_by (codes "0") number

-- ---- blanks

pub blank_ascii : (b : ℕ) → is_blank b ≡ true → b < 128
blank_ascii b e = grind (arith, nat_tests)

blank_past : (c : ℕ) → 128 ≤ c → is_blank c ≡ false
blank_past c l = grind (arith, nat_tests)

pub blank_stays : (b : ℕ) → is_blank b ≡ true → derivative b whitespace ≡ whitespace
blank_stays = follows is_blank whitespace whitespace refl refl blank_past

-- ---- comments

-- not a line feed
abbrev pub in_line : ℕ → Bool
in_line c = not (nat_eq c 10)

in_line_past : (c : ℕ) → 128 ≤ c → in_line c ≡ true
in_line_past c l = grind (arith, nat_tests)

-- ---- digits

pub digit_ascii : (b : ℕ) → is_digit b ≡ true → b < 128
digit_ascii b e = grind (arith, nat_tests)

digit_past : (c : ℕ) → 128 ≤ c → is_digit c ≡ false
digit_past c l = grind (arith, nat_tests)

pub digit_stays : (b : ℕ) → is_digit b ≡ true → derivative b (rest WholePart) ≡ rest WholePart
digit_stays = follows is_digit (rest WholePart) (rest WholePart) refl refl digit_past

-- a digit other than 0
abbrev pub is_nonzero : ℕ → Bool
is_nonzero b = is_within 49 57 b

nonzero_past : (c : ℕ) → 128 ≤ c → is_nonzero c ≡ false
nonzero_past c l = grind (arith, nat_tests)

nonzero_digit : (b : ℕ) → is_digit b ≡ true → b ≢ 48 → is_nonzero b ≡ true
nonzero_digit b e f = grind (arith, nat_tests)

-- such a digit begins the whole part, with a sign or without one
pub nonzero_begins : (p b : ℕ) → is_nonzero b ≡ true → derivative b (after_sign p) ≡ rest WholePart
nonzero_begins zero = follows is_nonzero number (rest WholePart) refl refl nonzero_past
nonzero_begins (suc p) = follows is_nonzero (derivative_by (codes "-") number) (rest WholePart) refl refl nonzero_past

digit_first : (p b : ℕ) → is_digit b ≡ true → b ≢ 48 → derivative b (after_sign p) ≡ rest WholePart
digit_first p b e f = nonzero_begins p b (nonzero_digit b e f)

-- a 0 is the whole part
zero_first : (p : ℕ) → derivative 48 (after_sign p) ≡ behind_zero
zero_first zero = refl
zero_first (suc p) = refl

-- ---- lower-case letters and digits

pub lower_ascii : (b : ℕ) → is_lower b ≡ true → b < 128
lower_ascii b e = grind (arith, nat_tests)

pub lower_past : (c : ℕ) → 128 ≤ c → is_lower c ≡ false
lower_past c l = grind (arith, nat_tests)

pub lower_stays : (b : ℕ) → is_lower b ≡ true → derivative b (rest LowerWord) ≡ rest LowerWord
lower_stays = follows is_lower (rest LowerWord) (rest LowerWord) refl refl lower_past

-- a lower-case letter
abbrev pub is_letter : ℕ → Bool
is_letter b = is_within 97 122 b

pub letter_past : (c : ℕ) → 128 ≤ c → is_letter c ≡ false
letter_past c l = grind (arith, nat_tests)

pub lower_begins : (b : ℕ) → is_lower b ≡ true → is_digit b ≡ false → is_letter b ≡ true
lower_begins b e f = grind (arith, nat_tests)

pub lower_first : (b : ℕ) → is_lower b ≡ true → is_digit b ≡ false → derivative b label_or_keyword ≡ rest LowerWord
lower_first b e f = follows is_letter label_or_keyword (rest LowerWord) refl refl letter_past b (lower_begins b e f)

-- ---- plain bytes

plain_past : (c : ℕ) → 128 ≤ c → is_plain c ≡ true
plain_past c h = grind (arith, nat_tests)

-- all bytes past ASCII pass the test, and a scalar that passes it leaves the shape as it is
pub record Keeps (test : ℕ → Bool) (q : Regex) : Type 0 where
  pub past : (c : ℕ) → 128 ≤ c → test c ≡ true
  pub stays : (c : ℕ) → test c ≡ true → derivative c q ≡ q

-- each byte passes the test
abbrev pub Pass : (ℕ → Bool) → List ℕ → Type 0
Pass test s = (i : ℕ) → i < length s → test (get_or s i 0) ≡ true

-- a scalar of bytes that pass leaves the shape as it is
scalar_stays : (test : ℕ → Bool) (q : Regex) (c : ℕ) (t : List ℕ) → Keeps test q → Pass test (encode_utf8 c ++ t) → derivative c q ≡ q
scalar_stays test q c t k h = k.stays c (elim (cases_lt c 128) as (λ _. test c ≡ true) [
  | inr l ↦ k.past c (omega arith)
  | inl l ↦ let one_byte : encode_utf8 c ++ t ≡ c ∷ t = ap (λ (z : List ℕ). z ++ t) (encode_ascii c l) in
      let there : Pass test (c ∷ t) = subst (Pass test) one_byte h in
      there 0 (omega arith)
])

-- what is after some bytes that pass does
pass_behind : (test : ℕ → Bool) (x t : List ℕ) → Pass test (x ++ t) → Pass test t
pass_behind test x t h = λ i l.
    let long : length (x ++ t) ≡ length x + length t = length-append x t in
    let less : length x + i < length (x ++ t) = omega arith in
    let past : length x ≤ length x + i = omega arith in
    let back : length x + i - length x ≡ i = omega arith in
    sym (ap test (get_or-append_right x t (length x + i) 0 past ∙ ap (λ (z : ℕ). get_or t z 0) back)) ∙ h (length x + i) less

-- scalars of bytes that pass leave the shape as it is
scalars_stay : (test : ℕ → Bool) (q : Regex) (ds : List ℕ) → Keeps test q → Pass test (encode_utf8_all ds) → derivative_by ds q ≡ q
scalars_stay test q [] k h = refl
scalars_stay test q (d ∷ ds) k h =
    ap (λ (z : Regex). derivative_by ds z) (scalar_stays test q d (encode_utf8_all ds) k h) ∙ scalars_stay test q ds k (pass_behind test (encode_utf8 d) (encode_utf8_all ds) h)

-- bytes that pass at the start, up to where a scalar ends
pub run_kept : (test : ℕ → Bool) (q : Regex) (s : List ℕ) (n : ℕ) → Keeps test q → IsUtf8 s → n ≤ length s → ((i : ℕ) → i < n → test (get_or s i 0) ≡ true) → IsCharBoundary s n → LeadsTo q q s n
run_kept test q s n k u l h cut =
    let bytes : encode_utf8_all (chars (take n s)) ≡ take n s = encodes-chars (take n s) (IsUtf8-take s n u cut) in
    let long : length (take n s) ≡ n = length-take-le n s l in
    record {
      scalars = chars (take n s);
      fits = l;
      spelled = bytes;
      has = scalars_stay test q (chars (take n s)) k (subst (Pass test) (sym bytes) (λ i w.
          let less : i < n = omega arith in
          ap test (get_or-take n s i 0 less) ∙ h i less));
    }

-- plain bytes leave a string as it is
pub plain_kept : Keeps is_plain (rest InString)
plain_kept = record { past = plain_past; stays = follows is_plain (rest InString) (rest InString) refl refl plain_past }

-- what stands in a comment leaves it as it is
comment_kept : Keeps in_line in_comment
comment_kept = record { past = in_line_past; stays = follows in_line in_comment in_comment refl refl in_line_past }

two_slashes : (s : List ℕ) → 2 ≤ length s → get_or s 0 0 ≡ 47 → get_or s 1 0 ≡ 47 → s ≡ 47 ∷ 47 ∷ drop 2 s
two_slashes [] l e f = let w : ⊥ = omega arith in absurd w
two_slashes (a ∷ []) l e f = let w : ⊥ = omega arith in absurd w
two_slashes (a ∷ b ∷ s) l e f = ap (λ z. z ∷ b ∷ s) e ∙ ap (λ z. 47 ∷ z ∷ s) f

-- two slashes lead into a comment
slashes_lead : (s t : List ℕ) → s ≡ 47 ∷ 47 ∷ t → LeadsTo whitespace in_comment s 2
slashes_lead s t e = subst (λ z. LeadsTo whitespace in_comment z 2) (sym e) (record { scalars = 47 ∷ 47 ∷ []; fits = omega arith; spelled = ascii_spelled (47 ∷ 47 ∷ []) refl; has = refl })

-- a comment with its line feed leads back to where it began
pub comment_leads : (s t : List ℕ) (k : ℕ) → IsUtf8 s → 2 ≤ length s → get_or s 0 0 ≡ 47 → get_or s 1 0 ≡ 47 → t ≡ drop 2 s → IsFirstByte (is_byte 10) t (Some k) → LeadsTo whitespace whitespace s (k + 3)
comment_leads s t k u l e f rest (found, feed) =
    let opens = slashes_lead s (drop 2 s) (two_slashes s l e f) in
    let valid : IsUtf8 t = subst IsUtf8 (sym rest) (IsUtf8-drop s 2 u (lead_boundary whitespace in_comment s 2 u opens)) in
    let there : get_or t k 0 ≡ 10 = is_there k t feed in
    let inside = run_kept in_line in_comment t k comment_kept valid (omega (arith, found.high)) (λ i w. passed_line (get_or t i 0) (found.before i (omega arith) w)) (cut_here t k (omega (arith, found.high)) (λ _. omega arith)) in
    let some : 0 < length (drop k t) = omega (arith, found.high, length-drop k t) in
    let closes = first_byte in_comment whitespace 10 (drop k t) (drop k t) refl (omega arith) refl some (get_or-drop k t 0 0 ∙ (ap (λ z. get_or t z 0) (n_plus_zero k) ∙ there)) in
    let same : 2 + (k + 1) ≡ k + 3 = omega arith in
    subst (λ z. LeadsTo whitespace whitespace s z) same
    (leads_on whitespace in_comment whitespace s t 2 (k + 1) rest opens (leads_on in_comment in_comment whitespace t (drop k t) k 1 refl inside closes))
  where
    n_plus_zero : (k : ℕ) → k + 0 ≡ k
    n_plus_zero k = omega arith

    is_there : (k : ℕ) (t : List ℕ) → is_byte 10 (get_or t k 0) ≡ true → get_or t k 0 ≡ 10
    is_there k t e = grind (arith, nat_tests)

    passed_line : (c : ℕ) → ¬ (is_byte 10 c ≡ true) → in_line c ≡ true
    passed_line c h = by_test (is_byte 10 c) refl
      where
        by_test : (b : Bool) → is_byte 10 c ≡ b → in_line c ≡ true
        by_test true e = absurd (h e)
        by_test false e = ap not e

-- blanks lead to what may follow in whitespace
pub blanks_lead : (s b : List ℕ) (n : ℕ) → b ≡ s → n ≤ length b → ((i : ℕ) → i < n → is_blank (get_or b i 0) ≡ true) → LeadsTo whitespace whitespace s n
blanks_lead s b n e l h = subst (λ (z : List ℕ). LeadsTo whitespace whitespace z n) e
    (ascii_leads whitespace whitespace b n l (λ i k. blank_ascii (get_or b i 0) (h i k)) (run_stays whitespace b n l (λ i k. blank_stays (get_or b i 0) (h i k))))

-- so does the comment with the blanks after it
pub comment_step : (s b t u : List ℕ) (k n : ℕ) → b ≡ s → IsUtf8 s → 2 ≤ length b → get_or b 0 0 ≡ 47 → get_or b 1 0 ≡ 47 → t ≡ drop 2 b → IsFirstByte (is_byte 10) t (Some k) → u ≡ drop (k + 3) b → n ≤ length u
    → ((i : ℕ) → i < n → is_blank (get_or u i 0) ≡ true) → LeadsTo whitespace whitespace s (k + 3 + n)
comment_step s b t u k n e valid l f g rest found behind fits blank = subst (λ z. LeadsTo whitespace whitespace z (k + 3 + n)) e
    (leads_on whitespace whitespace whitespace b u (k + 3) n behind (comment_leads b t k (subst IsUtf8 (sym e) valid) l f g rest found) (blanks_lead u u n refl fits blank))

-- what stands after those blanks
pub behind_comment : (s b u : List ℕ) (place line n : ℕ) → b ≡ drop place s → u ≡ drop line b → (n < length u → is_blank (get_or u n 0) ≡ false) → place + (line + n) < length s
    → is_blank (get_or s (place + (line + n)) 0) ≡ false
behind_comment s b u place line n e f stops l =
    let long : length u ≡ length b - line = ap length f ∙ length-drop line b in
    let whole : length b ≡ length s - place = ap length e ∙ length-drop place s in
    sym (ap is_blank (ap (λ z. get_or z n 0) f ∙ (get_or-drop line b n 0 ∙ (ap (λ z. get_or z (line + n) 0) e ∙ get_or-drop place s (line + n) 0)))) ∙ stops (omega arith)

-- a list is its first number and the others
first_and_others : (s : List ℕ) (n b : ℕ) → 0 < length s → get_or s 0 0 ≡ b → take (suc n) s ≡ b ∷ take n (drop 1 s)
first_and_others [] n b l e = let w : ⊥ = omega arith in absurd w
first_and_others (a ∷ s) n b l e = ap (λ (z : ℕ). z ∷ take n s) e

-- what is not plain is ASCII
pub not_plain_ascii : (c : ℕ) → is_plain c ≡ false → c < 128
not_plain_ascii c e = grind (arith, nat_tests)

-- ---- after a string

-- the shape is empty, or has not the empty text
abbrev ends_empty : Regex → Bool
ends_empty r = same r empty || not (nullable r)

-- only after its last quote a string may end
string_ends : (x : List ℕ) → nullable (derivative_by x string) ≡ true → derivative_by x string ≡ empty
string_ends x t =
    let i : is_in (derivative_by x string) string_rests ≡ true = text_leads string_rests string_closed x string refl in
    same_true _ _ (or_not (same (derivative_by x string) empty) (nullable (derivative_by x string)) (passed_in ends_empty string_rests (derivative_by x string) refl i) t)

-- nothing may follow
abbrev is_over : Regex → Bool
is_over nothing = true
is_over empty = true
is_over r = false

-- after the end of a string nothing leads anywhere
over : (y : List ℕ) → is_over (derivative_by y empty) ≡ true
over [] = refl
over (c ∷ y) = ap is_over (after_all_nothing y)

-- what leads into a string passes none
pub inside_none : PassesNone string (rest InString)
inside_none x y t e =
    let there : derivative_by y empty ≡ rest InString = sym (after_all_append x y string ∙ ap (λ (z : Regex). derivative_by y z) (string_ends x t)) ∙ e in
    let wrong : true ≡ false = sym (over y) ∙ ap is_over there in cc

-- ---- marks

mark_taken : (m : ℕ) → is_within m m m ≡ true
mark_taken m = grind (arith, nat_tests)

-- a mark at the start
mark_first : (s : List ℕ) (m : ℕ) → m < 128 → 0 < length s → get_or s 0 0 ≡ m → Greatest (IsPrefixOf (one m) s) (Some 1)
mark_first s m a l e =
    let leads : derivative m (one m) ≡ empty = rw (mark_taken m) refl in
    prefix_behind (one m) empty s (drop 1 s) 1 0 refl
    (record { scalars = m ∷ []; fits = omega arith; spelled = ap (λ (z : List ℕ). z ++ []) (encode_ascii m a) ∙ sym (first_and_others s 0 m l e); has = leads })
    (empty_prefix (drop 1 s))

-- a mark at the start of the bytes
pub mark_here : (s b : List ℕ) (m : ℕ) → b ≡ s → m < 128 → 0 < length b → get_or b 0 0 ≡ m → Greatest (IsPrefixOf (one m) s) (Some 1)
mark_here s b m e a l f = subst (λ (z : List ℕ). Greatest (IsPrefixOf (one m) z) (Some 1)) e (mark_first b m a l f)

-- ---- what the code counts

-- digits lead from the sign to what may follow in the whole part of a number
whole_leads : (d : List ℕ) (p k : ℕ) → 0 < k → k ≤ length d → ((i : ℕ) → i < k → is_digit (get_or d i 0) ≡ true) → get_or d 0 0 ≢ 48 → LeadsTo (after_sign p) (rest WholePart) d k
whole_leads d p k some fits h f =
    run_leads (after_sign p) (rest WholePart) d k some fits (λ i m. digit_ascii (get_or d i 0) (h i m)) (digit_first p (get_or d 0 0) (h 0 some) f) (λ i m. digit_stays (get_or d i 0) (h i m))

-- so do the sign and the digits from the start
pub digits_lead : (s d : List ℕ) (p k : ℕ) → d ≡ drop p s → LeadsTo number (after_sign p) s p → 0 < k → k ≤ length d → ((i : ℕ) → i < k → is_digit (get_or d i 0) ≡ true) → get_or d 0 0 ≢ 48
    → LeadsTo number (rest WholePart) s (p + k)
digits_lead s d p k e sign some fits h f = leads_on number (after_sign p) (rest WholePart) s d p k e sign (whole_leads d p k some fits h f)

-- a lower-case letter, and such letters and digits, lead to what may follow in a lower-case word
pub lowers_lead : (s b : List ℕ) (n : ℕ) → b ≡ s → 0 < n → n ≤ length b → ((i : ℕ) → i < n → is_lower (get_or b i 0) ≡ true) → is_digit (get_or b 0 0) ≡ false
    → LeadsTo label_or_keyword (rest LowerWord) s n
lowers_lead s b n e p fits h f = subst (λ (z : List ℕ). LeadsTo label_or_keyword (rest LowerWord) z n) e
    (run_leads label_or_keyword (rest LowerWord) b n p fits (λ i k. lower_ascii (get_or b i 0) (h i k)) (lower_first (get_or b 0 0) (h 0 p) f) (λ i k. lower_stays (get_or b i 0) (h i k)))

-- ---- where a run ends

-- neither a blank nor a slash
abbrev no_space : ℕ → Bool
no_space c = not (is_blank c || nat_eq c 47)

no_space_past : (c : ℕ) → 128 ≤ c → no_space c ≡ true
no_space_past c l = grind (arith, nat_tests)

no_space_there : (c : ℕ) → is_blank c ≡ false → c ≢ 47 → no_space c ≡ true
no_space_there c e f = grind (arith, nat_tests)

whitespace_dead : (c : ℕ) → is_blank c ≡ false → c ≢ 47 → derivative c whitespace ≡ nothing
whitespace_dead c e f = follows no_space whitespace nothing refl refl no_space_past c (no_space_there c e f)

-- what leads back to where whitespace began is the whitespace, where neither a blank nor a slash follows
pub whitespace_ends : (s b : List ℕ) (n : ℕ) → b ≡ s → LeadsTo whitespace whitespace s n → (n < length s → is_blank (get_or s n 0) ≡ false) → (n < length b → get_or b n 0 ≢ 47) → Greatest (IsPrefixOf whitespace s) (Some n)
whitespace_ends s b n e leads stops other =
    run_ends whitespace whitespace s n leads refl (λ c k. whitespace_dead c (blank_past c k) (λ w. let x : c ≡ 47 = w in omega arith))
    (λ k. whitespace_dead (get_or s n 0) (stops k) (subst (λ z. n < length z → get_or z n 0 ≢ 47) e other k))

-- so are blanks
pub blanks_end : (s b : List ℕ) (n : ℕ) → b ≡ s → n ≤ length b → ((i : ℕ) → i < n → is_blank (get_or b i 0) ≡ true) → (n < length b → is_blank (get_or b n 0) ≡ false) → (n < length b → get_or b n 0 ≢ 47)
    → Greatest (IsPrefixOf whitespace s) (Some n)
blanks_end s b n e l h stops other = whitespace_ends s b n e (blanks_lead s b n e l h) (subst (λ z. n < length z → is_blank (get_or z n 0) ≡ false) e stops) other

behind_blanks : (c : ℕ) → 32 < c → is_blank c ≡ false
behind_blanks c l = grind (arith, nat_tests)

-- no whitespace begins with a byte after the blanks that is no slash
pub no_whitespace : (s b : List ℕ) → b ≡ s → 32 < get_or b 0 0 → get_or b 0 0 ≢ 47 → Greatest (IsPrefixOf whitespace s) (Some 0)
no_whitespace s b e l f = blanks_end s b 0 e (omega arith) (λ i k. let w : ⊥ = omega arith in absurd w) (λ _. behind_blanks (get_or b 0 0) l) (λ _. f)

-- one space before such a byte is the whitespace
pub one_blank : (s b : List ℕ) → b ≡ s → 1 < length b → get_or b 0 0 ≡ 32 → 32 < get_or b 1 0 → get_or b 1 0 ≢ 47 → Greatest (IsPrefixOf whitespace s) (Some 1)
one_blank s b e long space l f = blanks_end s b 1 e (omega arith) (λ i k. let first : i ≡ 0 = omega arith in ap (λ (z : ℕ). is_blank (get_or b z 0)) first ∙ ap is_blank space) (λ _. behind_blanks (get_or b 1 0) l) (λ _. f)

whole_past : (c : ℕ) → 128 ≤ c → ends_whole c ≡ true
whole_past c l = grind (arith, nat_tests)

-- what ends the whole part
abbrev no_more : ℕ → Bool
no_more c = not (is_digit c || not (ends_whole c))

no_more_past : (c : ℕ) → 128 ≤ c → no_more c ≡ true
no_more_past c l = grind (arith, nat_tests)

no_more_there : (c : ℕ) → is_digit c ≡ false → ends_whole c ≡ true → no_more c ≡ true
no_more_there c e f = grind (arith, nat_tests)

number_dead : (c : ℕ) → is_digit c ≡ false → ends_whole c ≡ true → derivative c (rest WholePart) ≡ nothing
number_dead c e f = follows no_more (rest WholePart) nothing refl refl no_more_past c (no_more_there c e f)

zero_dead : (c : ℕ) → ends_whole c ≡ true → derivative c behind_zero ≡ nothing
zero_dead = follows ends_whole behind_zero nothing refl refl whole_past

-- the sign and the digits are the number, where no fraction or exponent follows
pub digits_end : (s d : List ℕ) (p k : ℕ) → d ≡ drop p s → LeadsTo number (after_sign p) s p → 0 < k → k ≤ length d → ((i : ℕ) → i < k → is_digit (get_or d i 0) ≡ true) → get_or d 0 0 ≢ 48
    → (k < length d → is_digit (get_or d k 0) ≡ false) → (k < length d → ends_whole (get_or d k 0) ≡ true) → Greatest (IsPrefixOf number s) (Some (p + k))
digits_end s d p k e sign some fits h f stops other = prefix_behind number (after_sign p) s d p k e sign
    (run_ends (after_sign p) (rest WholePart) d k (whole_leads d p k some fits h f) refl (λ c m. number_dead c (digit_past c m) (whole_past c m)) (λ m. number_dead (get_or d k 0) (stops m) (other m)))

-- the sign and a 0 are the number, where no fraction or exponent follows
pub zero_end : (s d : List ℕ) (p : ℕ) → d ≡ drop p s → LeadsTo number (after_sign p) s p → 0 < length d → get_or d 0 0 ≡ 48 → (1 < length d → ends_whole (get_or d 1 0) ≡ true)
    → Greatest (IsPrefixOf number s) (Some (p + 1))
zero_end s d p e sign some first other = prefix_behind number (after_sign p) s d p 1 e sign
    (run_ends (after_sign p) behind_zero d 1 (first_byte (after_sign p) behind_zero 48 d d refl (omega arith) (zero_first p) some first) refl
    (λ c m. zero_dead c (whole_past c m)) (λ m. zero_dead (get_or d 1 0) (other m)))

-- what ends a lower-case word and is no hyphen
abbrev no_word : ℕ → Bool
no_word c = not (is_lower c || nat_eq c 45)

no_word_past : (c : ℕ) → 128 ≤ c → no_word c ≡ true
no_word_past c l = grind (arith, nat_tests)

no_word_there : (c : ℕ) → is_lower c ≡ false → c ≢ 45 → no_word c ≡ true
no_word_there c e f = grind (arith, nat_tests)

pub label_dead : (c : ℕ) → is_lower c ≡ false → c ≢ 45 → derivative c (rest LowerWord) ≡ nothing
label_dead c e f = follows no_word (rest LowerWord) nothing refl refl no_word_past c (no_word_there c e f)

-- ---- fractions

-- what may follow behind the point of a number
abbrev at_point : Regex
at_point = derivative_by (codes "0.") number

fraction_begins : (b : ℕ) → is_digit b ≡ true → derivative b at_point ≡ rest Fraction
fraction_begins = follows is_digit at_point (rest Fraction) refl refl digit_past

fraction_stays : (b : ℕ) → is_digit b ≡ true → derivative b (rest Fraction) ≡ rest Fraction
fraction_stays = follows is_digit (rest Fraction) (rest Fraction) refl refl digit_past

fraction_dead : (c : ℕ) → is_digit c ≡ false → ends_whole c ≡ true → derivative c (rest Fraction) ≡ nothing
fraction_dead c e f = follows no_more (rest Fraction) nothing refl refl no_more_past c (no_more_there c e f)

-- the point and the digits lead on to what may follow in a fraction
pub fraction_leads : (q : Regex) (s b d : List ℕ) (k : ℕ) → derivative 46 q ≡ at_point → b ≡ s → d ≡ drop 1 b → 0 < length b → get_or b 0 0 ≡ 46 → 0 < k → k ≤ length d
    → ((i : ℕ) → i < k → is_digit (get_or d i 0) ≡ true) → LeadsTo q (rest Fraction) s (k + 1)
fraction_leads q s b d k goes e behind there point some fits h =
    let small : 46 < 128 = omega arith in
    let turned : 1 + k ≡ k + 1 = omega arith in
    let P : ℕ → Type 0 = λ z. LeadsTo q (rest Fraction) s z in
    subst P turned (leads_on q at_point (rest Fraction) s d 1 k (behind ∙ ap (drop 1) e) (first_byte q at_point 46 s b e small goes there point)
    (run_leads at_point (rest Fraction) d k some fits (λ i m. digit_ascii (get_or d i 0) (h i m)) (fraction_begins (get_or d 0 0) (h 0 some)) (λ i m. fraction_stays (get_or d i 0) (h i m))))

-- they are the rest of the number, where no exponent follows
pub fraction_end : (q : Regex) (s b d : List ℕ) (k : ℕ) → derivative 46 q ≡ at_point → b ≡ s → d ≡ drop 1 b → 0 < length b → get_or b 0 0 ≡ 46 → 0 < k → k ≤ length d
    → ((i : ℕ) → i < k → is_digit (get_or d i 0) ≡ true) → (k < length d → is_digit (get_or d k 0) ≡ false) → (k < length d → ends_whole (get_or d k 0) ≡ true)
    → Greatest (IsPrefixOf q s) (Some (k + 1))
fraction_end q s b d k goes e behind there point some fits h stops other =
    let small : 46 < 128 = omega arith in
    let turned : 1 + k ≡ k + 1 = omega arith in
    let P : ℕ → Type 0 = λ z. Greatest (IsPrefixOf q s) (Some z) in
    subst P turned (prefix_behind q at_point s d 1 k (behind ∙ ap (drop 1) e) (first_byte q at_point 46 s b e small goes there point)
    (run_ends at_point (rest Fraction) d k (run_leads at_point (rest Fraction) d k some fits (λ i m. digit_ascii (get_or d i 0) (h i m)) (fraction_begins (get_or d 0 0) (h 0 some)) (λ i m. fraction_stays (get_or d i 0) (h i m)))
    refl (λ c m. fraction_dead c (digit_past c m) (whole_past c m)) (λ m. fraction_dead (get_or d k 0) (stops m) (other m))))

-- the sign and a 0 lead to what may follow a first zero
pub zero_leads : (s d : List ℕ) (p : ℕ) → d ≡ drop p s → LeadsTo number (after_sign p) s p → 0 < length d → get_or d 0 0 ≡ 48 → LeadsTo number (rest Zero) s (p + 1)
zero_leads s d p e sign some first = leads_on number (after_sign p) (rest Zero) s d p 1 e sign (first_byte (after_sign p) (rest Zero) 48 d d refl (omega arith) (zero_first p) some first)
