-- Labels are words joined by hyphens.
use Rattle.std.proofs.Common.{◌≡◌, ◌<◌, ◌≢◌, ℕ, Bool, true, false, List, [], ◌∷◌, ◌++◌, ◌⊎◌, inl, inr, refl, sym, ap, subst, ◌∙◌, arith, take, nat_lt}
use Rattle.std.specs.Prelude.{◌&&◌, ◌||◌, IsTrue, codes, encode_utf8_all}
use Rattle.std.specs.Int.{is_in_range}
use Rattle.std.specs.Str.{IsAscii}
use Rattle.std.specs.Char.{is_ascii_alphabetic}
use Rattle.std.specs.List.{join_with_byte}
use Rattle.std.proofs.lemmas.Bool.{or_left, or_right, or_cases, and_parts}
use Rattle.std.proofs.lemmas.Bool.Decides.{nat_tests}
use Rattle.std.proofs.lemmas.List.{append-nil}
use Rattle.std.proofs.lemmas.Str.{IsAscii-append}
use Rattle.std.proofs.lemmas.Str.Ascii.{encodes-IsAscii, IsAscii-nil, IsAscii-cons}
use Rattle.wave_wasm.specs.Lists.{AllOf}
use Rattle.wave_lex.specs.declared.lex.Token.TheVariants.{LabelOrKeyword}
use Rattle.wave_lex.specs.Regex.{Regex, nothing, empty, range, except, seq, alt, star, Matches, joined, is_within}
use Rattle.wave_lex.specs.Tokens.{some, digit, label_or_keyword, first_word, next_word}
use Rattle.wave_lex.specs.Labels.{IsLabel}
use Rattle.wave_lex.specs.Tokenization.{IsToken}
use Rattle.wave_lex.specs.LabelWords.{IsLowerOrDigit, IsUpperOrDigit, IsWord, BeginsWithLetter, IsJoinedWords, LabelsAreWords, LabelTokensAreLabels}
use Rattle.wave_lex.proofs.RegularShapes.Comparisons.{one_is}

-- a scalar of a range of ASCII is ASCII
below : (lo hi c : ℕ) → nat_lt hi 128 ≡ true → is_within lo hi c ≡ true → c < 128
below lo hi c a t = grind (arith, nat_tests)

-- ---- letters of one case, and digits

-- a scalar of the range, or a digit
abbrev of_case : ℕ → ℕ → Regex
of_case lo hi = alt (range lo hi) digit

-- a scalar of the range, or a digit
abbrev IsOfCase : ℕ → ℕ → ℕ → Type 0
IsOfCase lo hi c = IsTrue (is_in_range lo hi c || is_in_range 48 57 c)

-- a text of the shape is one of them
one_into : (lo hi : ℕ) (s : List ℕ) → Matches (of_case lo hi) s → (c : ℕ) × (s ≡ c ∷ []) × IsOfCase lo hi c
one_into lo hi s (inl (c, e, t)) = (c, e, or_left (is_in_range lo hi c) (is_in_range 48 57 c) t)
one_into lo hi s (inr (c, e, t)) = (c, e, or_right (is_in_range lo hi c) (is_in_range 48 57 c) t)

-- one of them has the shape
one_from : (lo hi c : ℕ) → IsOfCase lo hi c → Matches (of_case lo hi) (c ∷ [])
one_from lo hi c t = elim (or_cases (is_in_range lo hi c) (is_in_range 48 57 c) t) [ inl a ↦ inl (c, refl, a) | inr b ↦ inr (c, refl, b) ]

-- parts of the shape join to them alone
all_joined : (lo hi : ℕ) (parts : List (List ℕ)) → AllOf (Matches (of_case lo hi)) parts → AllOf (IsOfCase lo hi) (joined parts)
all_joined lo hi [] h = tt
all_joined lo hi (p ∷ ps) h =
    let one = one_into lo hi p h.0 in
    subst (λ (z : List ℕ). AllOf (IsOfCase lo hi) (z ++ joined ps)) (sym one.1) (one.2, all_joined lo hi ps h.1)

-- a text of the shape is of them alone
all_into : (lo hi : ℕ) (s : List ℕ) → Matches (star (of_case lo hi)) s → AllOf (IsOfCase lo hi) s
all_into lo hi s (parts, e, each) = subst (AllOf (IsOfCase lo hi)) (sym e) (all_joined lo hi parts each)

-- a text of them alone has the shape
all_from : (lo hi : ℕ) (s : List ℕ) → AllOf (IsOfCase lo hi) s → Matches (star (of_case lo hi)) s
all_from lo hi [] h = ([], refl, tt)
all_from lo hi (c ∷ s) h =
    let rest = all_from lo hi s h.1 in
    ((c ∷ []) ∷ rest.0, ap (λ (z : List ℕ). c ∷ z) rest.1, (one_from lo hi c h.0, rest.2))

-- ---- words

-- a text of at least one of them isn't empty, and is of them alone
some_into : (lo hi : ℕ) (s : List ℕ) → Matches (some (of_case lo hi)) s → (s ≢ []) × AllOf (IsOfCase lo hi) s
some_into lo hi s (x, y, e, m, n) =
    let one = one_into lo hi x m in
    let is : s ≡ one.0 ∷ y = e ∙ ap (λ (z : List ℕ). z ++ y) one.1 in
    (λ w. let wrong : one.0 ∷ y ≡ [] = sym is ∙ w in cc, subst (AllOf (IsOfCase lo hi)) (sym is) (one.2, all_into lo hi y n))

-- such a text is of at least one of them
some_from : (lo hi : ℕ) (s : List ℕ) → s ≢ [] → AllOf (IsOfCase lo hi) s → Matches (some (of_case lo hi)) s
some_from lo hi [] n h = absurd (n refl)
some_from lo hi (c ∷ s) n h = (c ∷ [], s, refl, one_from lo hi c h.0, all_from lo hi s h.1)

-- a text of the shape of a further word is a word
next_into : (s : List ℕ) → Matches next_word s → IsWord s
next_into s (inl m) = let h = some_into 97 122 s m in (h.0, inl h.1)
next_into s (inr m) = let h = some_into 65 90 s m in (h.0, inr h.1)

-- a word has the shape of a further word
next_from : (s : List ℕ) → IsWord s → Matches next_word s
next_from s (n, inl h) = inl (some_from 97 122 s n h)
next_from s (n, inr h) = inr (some_from 65 90 s n h)

-- ---- the first word

-- a letter of the range and any number of them are a word that begins with a letter
headed_into : (lo hi : ℕ) (s : List ℕ) → ((c : ℕ) → is_within lo hi c ≡ true → IsTrue (is_ascii_alphabetic c)) → Matches (seq (range lo hi) (star (of_case lo hi))) s
    → (s ≢ []) × AllOf (IsOfCase lo hi) s × BeginsWithLetter s
headed_into lo hi s letter (x, y, e, (c, f, t), n) =
    let is : s ≡ c ∷ y = e ∙ ap (λ (z : List ℕ). z ++ y) f in
    let all : AllOf (IsOfCase lo hi) (c ∷ y) = (or_left (is_in_range lo hi c) (is_in_range 48 57 c) t, all_into lo hi y n) in
    (λ w. let wrong : c ∷ y ≡ [] = sym is ∙ w in cc, subst (AllOf (IsOfCase lo hi)) (sym is) all, subst BeginsWithLetter (sym is) (letter c t))

-- a lower-case letter is a letter
lower_letter : (c : ℕ) → is_within 97 122 c ≡ true → IsTrue (is_ascii_alphabetic c)
lower_letter c t = or_right (is_in_range 65 90 c) (is_in_range 97 122 c) t

-- an upper-case letter is a letter
upper_letter : (c : ℕ) → is_within 65 90 c ≡ true → IsTrue (is_ascii_alphabetic c)
upper_letter c t = or_left (is_in_range 65 90 c) (is_in_range 97 122 c) t

-- a letter among lower-case letters and digits is a lower-case one
is_lower : (c : ℕ) → IsLowerOrDigit c → IsTrue (is_ascii_alphabetic c) → is_within 97 122 c ≡ true
is_lower c a b = grind (arith, nat_tests)

-- a letter among upper-case letters and digits is an upper-case one
is_upper : (c : ℕ) → IsUpperOrDigit c → IsTrue (is_ascii_alphabetic c) → is_within 65 90 c ≡ true
is_upper c a b = grind (arith, nat_tests)

-- a text of the shape of a first word is a word that begins with a letter
first_into : (s : List ℕ) → Matches first_word s → IsWord s × BeginsWithLetter s
first_into s (inl m) = let h = headed_into 97 122 s lower_letter m in ((h.0, inl h.1), h.2)
first_into s (inr m) = let h = headed_into 65 90 s upper_letter m in ((h.0, inr h.1), h.2)

-- a word that begins with a letter has the shape of a first word
first_from : (s : List ℕ) → IsWord s → BeginsWithLetter s → Matches first_word s
first_from [] w b = absurd b
first_from (c ∷ s) (n, inl h) b = inl (c ∷ [], s, refl, (c, refl, is_lower c h.0 b), all_from 97 122 s h.1)
first_from (c ∷ s) (n, inr h) b = inr (c ∷ [], s, refl, (c, refl, is_upper c h.0 b), all_from 65 90 s h.1)

-- ---- words after hyphens

-- the words, each after a hyphen
abbrev behind_hyphens : List (List ℕ) → List ℕ
behind_hyphens [] = []
behind_hyphens (w ∷ ws) = 45 ∷ (w ++ behind_hyphens ws)

-- a first word and those after hyphens are the words, joined
joined_behind : (first : List ℕ) (more : List (List ℕ)) → first ++ behind_hyphens more ≡ join_with_byte 45 (first ∷ more)
joined_behind first [] = append-nil first
joined_behind first (w ∷ ws) = ap (λ (z : List ℕ). first ++ 45 ∷ z) (joined_behind w ws)

-- a hyphen and a further word
abbrev hyphen_word : Regex
hyphen_word = seq (range 45 45) next_word

-- a text of that shape is a hyphen and a word
hyphen_into : (s : List ℕ) → Matches hyphen_word s → (w : List ℕ) × (s ≡ 45 ∷ w) × IsWord w
hyphen_into s (x, y, e, (c, f, t), m) =
    let is : c ≡ 45 = one_is 45 c t in
    (y, e ∙ (ap (λ (z : List ℕ). z ++ y) f ∙ ap (λ (z : ℕ). z ∷ y) is), next_into y m)

-- the parts after the first word are words after hyphens
parts_into : (parts : List (List ℕ)) → AllOf (Matches hyphen_word) parts → (more : List (List ℕ)) × (joined parts ≡ behind_hyphens more) × AllOf IsWord more
parts_into [] h = ([], refl, tt)
parts_into (p ∷ ps) h =
    let one = hyphen_into p h.0 in
    let rest = parts_into ps h.1 in (
      one.0 ∷ rest.0,
      ap (λ (z : List ℕ). z ++ joined ps) one.1 ∙ ap (λ (z : List ℕ). 45 ∷ (one.0 ++ z)) rest.1,
      (one.2, rest.2),
    )

-- words after hyphens are such parts
parts_from : (more : List (List ℕ)) → AllOf IsWord more → Matches (star hyphen_word) (behind_hyphens more)
parts_from [] h = ([], refl, tt)
parts_from (w ∷ ws) h =
    let rest = parts_from ws h.1 in
    ((45 ∷ w) ∷ rest.0, ap (λ (z : List ℕ). 45 ∷ (w ++ z)) rest.1, ((45 ∷ [], w, refl, (45, refl, refl), next_from w h.0), rest.2))

-- ---- labels

-- a label is words joined by hyphens
label_into : (s : List ℕ) → IsLabel s → IsJoinedWords s
label_into s (x, y, e, m, (parts, f, each)) =
    let first = first_into x m in
    let rest = parts_into parts each in
    record {
      first = x;
      more = rest.0;
      joined = e ∙ (ap (λ (z : List ℕ). x ++ z) (f ∙ rest.1) ∙ joined_behind x rest.0);
      words = (first.0, rest.2);
      begins = first.1;
    }

-- words joined by hyphens are a label
label_from : (s : List ℕ) → IsJoinedWords s → IsLabel s
label_from s j = (
  j.first,
  behind_hyphens j.more,
  j.joined ∙ sym (joined_behind j.first j.more),
  first_from j.first j.words.0 j.begins,
  parts_from j.more j.words.1,
)

-- the law
pub labels_are_words : LabelsAreWords
labels_are_words s = (label_into s, label_from s)

-- ---- tokens

-- each scalar of a text of the shape is ASCII
abbrev pub only_ascii : Regex → Bool
only_ascii nothing = true
only_ascii empty = true
only_ascii (range lo hi) = nat_lt hi 128
only_ascii (except cs) = false
only_ascii (seq p q) = only_ascii p && only_ascii q
only_ascii (alt p q) = only_ascii p && only_ascii q
only_ascii (star p) = only_ascii p

-- texts of ASCII join to one
ascii_joined : (P : List ℕ → Type 0) → ((x : List ℕ) → P x → IsAscii x) → (parts : List (List ℕ)) → AllOf P parts → IsAscii (joined parts)
ascii_joined P ascii [] h = IsAscii-nil
ascii_joined P ascii (x ∷ xs) h = IsAscii-append x (joined xs) (ascii x h.0) (ascii_joined P ascii xs h.1)

-- so the text is ASCII
pub ascii_text : (r : Regex) (s : List ℕ) → only_ascii r ≡ true → Matches r s → IsAscii s
ascii_text nothing s a m = absurd m
ascii_text empty s a m = subst IsAscii (sym m) IsAscii-nil
ascii_text (range lo hi) s a (c, e, t) = subst IsAscii (sym e) (IsAscii-cons c [] (below lo hi c a t) IsAscii-nil)
ascii_text (except cs) s a m = cc
ascii_text (seq p q) s a (x, y, e, m, n) =
    let b : (only_ascii p ≡ true) × (only_ascii q ≡ true) = and_parts _ _ a in
    subst IsAscii (sym e) (IsAscii-append x y (ascii_text p x b.0 m) (ascii_text q y b.1 n))
ascii_text (alt p q) s a (inl m) = ascii_text p s (and_parts (only_ascii p) (only_ascii q) a).0 m
ascii_text (alt p q) s a (inr m) = ascii_text q s (and_parts (only_ascii p) (only_ascii q) a).1 m
ascii_text (star p) s a (parts, e, each) = subst IsAscii (sym e) (ascii_joined (Matches p) (λ x m. ascii_text p x a m) parts each)

-- a text of the class is spelled by itself
pub spelled_by_itself : (s : List ℕ) → Matches label_or_keyword s → encode_utf8_all s ≡ s
spelled_by_itself s m = encodes-IsAscii s (ascii_text label_or_keyword s refl m)

-- a text of the class is a label, or `%` and a label
class_into : (s : List ℕ) → Matches label_or_keyword s → IsLabel s ⊎ ((t : List ℕ) × (s ≡ codes "%" ++ t) × IsLabel t)
class_into s (x, y, e, inl f, m) = inl (subst IsLabel (sym (e ∙ ap (λ (z : List ℕ). z ++ y) f)) m)
class_into s (x, y, e, inr (c, f, t), m) =
    let is : c ≡ 37 = one_is 37 c t in
    inr (y, e ∙ (ap (λ (z : List ℕ). z ++ y) f ∙ ap (λ (z : ℕ). z ∷ y) is), m)

-- a label, or `%` and a label, is a text of the class
class_from : (s : List ℕ) → IsLabel s ⊎ ((t : List ℕ) × (s ≡ codes "%" ++ t) × IsLabel t) → Matches label_or_keyword s
class_from s (inl m) = ([], s, refl, inl refl, m)
class_from s (inr (t, e, m)) = (37 ∷ [], t, e, inr (37, refl, refl), m)

-- the law
pub label_tokens_are_labels : LabelTokensAreLabels
label_tokens_are_labels r k fits = (into, from)
  where
    into : IsToken r k LabelOrKeyword → IsLabel (take k r) ⊎ ((s : List ℕ) × (take k r ≡ codes "%" ++ s) × IsLabel s)
    into (f, u) = class_into (take k r) (subst (Matches label_or_keyword) (sym (spelled_by_itself f.scalars f.has) ∙ f.spelled) f.has)

    from : IsLabel (take k r) ⊎ ((s : List ℕ) × (take k r ≡ codes "%" ++ s) × IsLabel s) → IsToken r k LabelOrKeyword
    from h =
        let has = class_from (take k r) h in
        (record { scalars = take k r; fits = fits; spelled = spelled_by_itself (take k r) has; has = has }, tt)
