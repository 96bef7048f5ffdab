-- The walk of a machine over a text.
use Rattle.std.proofs.Common.{◌≡◌, ℕ, ◌≤◌, ◌<◌, ◌+◌, true, false, List, [], ◌∷◌, ◌++◌, inl, inr, refl, sym, ap, subst, ◌∙◌, length, take, drop, arith, Option, Some, None, get_or, append_assoc, length-append, length-take-le, zero, suc}
use Rattle.std.specs.Prelude.{encode_utf8_all, encode_utf8}
use Rattle.std.specs.Char.{len_utf8}
use Rattle.std.specs.Str.{chars, IsUtf8, IsCharBoundary}
use lib.Utf8.{scalars}
use Rattle.wave_lex.specs.Tokens.{invalid}
use Rattle.std.proofs.lemmas.Bool.{cases_lt, and_parts}
use Rattle.std.proofs.lemmas.List.{append-nil, take_more, take-take, take-append-drop}
use Rattle.std.proofs.lemmas.Str.{encodes-append, length-encode, cons_from_encodes, encodes-chars, scalars-chars, IsCharBoundary-at_seam}
use Rattle.std.proofs.Math.Seq.{take-append_seam, take-length}
use Rattle.wave_lex.specs.Regex.{Regex, nothing, Matches}
use Rattle.wave_lex.specs.Derive.{nullable, derivative, derivative_by}
use Rattle.wave_lex.specs.LongestMatch.{Greatest, IsPrefixOf}
use Rattle.wave_lex.proofs.LongestPrefix.LongestSoFar.{place_of, place_of_seen, SeenTo, Seen}
use Rattle.wave_lex.proofs.RegularShapes.Derivatives.{matches_from, matches_into}

-- what follows one text and then another
pub after_all_append : (x y : List ℕ) (r : Regex) → derivative_by (x ++ y) r ≡ derivative_by y (derivative_by x r)
after_all_append [] y r = refl
after_all_append (c ∷ x) y r = after_all_append x y (derivative c r)

-- nothing follows nothing
pub after_all_nothing : (x : List ℕ) → derivative_by x nothing ≡ nothing
after_all_nothing [] = refl
after_all_nothing (c ∷ x) = after_all_nothing x

-- what follows one scalar more
stepped : (r q p : Regex) (s : List ℕ) (i : ℕ) → i < length s → derivative_by (take i s) r ≡ q → derivative (get_or s i 0) q ≡ p
    → derivative_by (take (i + 1) s) r ≡ p
stepped r q p s i l a e =
    ap (λ (z : List ℕ). derivative_by z r) (take_more s i 0 l) ∙ (after_all_append (take i s) (get_or s i 0 ∷ []) r
    ∙ (ap (λ (z : Regex). derivative (get_or s i 0) z) a ∙ e))

-- a prefix that is not the newest is an older one
at_next : (r p : Regex) (s : List ℕ) (i k : ℕ) → derivative_by (take (i + 1) s) r ≡ p → nullable p ≡ false
    → k ≤ i + 1 → nullable (derivative_by (take k s) r) ≡ true → k ≤ i
at_next r p s i k a f l t =
    elim (cases_lt i k) as (λ _. k ≤ i) [
      | inr h ↦ h
      | inl b ↦ let h : k ≡ i + 1 = omega arith in
          let wrong : nullable (derivative_by (take (i + 1) s) r) ≡ true = subst (λ (z : ℕ). nullable (derivative_by (take z s) r) ≡ true) h t in
          let wrong2 : false ≡ true = sym f ∙ (ap nullable (sym a) ∙ wrong) in cc
    ]

-- the longest prefix stays where the newest is none
kept : (r p : Regex) (s : List ℕ) (i : ℕ) (o : Option ℕ) → derivative_by (take (i + 1) s) r ≡ p → nullable p ≡ false → SeenTo r s i o → SeenTo r s (i + 1) o
kept r p s i None a f h = λ k (d : (k ≤ i + 1) × (nullable (derivative_by (take k s) r) ≡ true)). h k (at_next r p s i k a f d.0 d.1, d.1)
kept r p s i (Some m) a f h =
    let best : m ≤ i = h.0.0 in
    ((omega arith, h.0.1), λ k (d : (k ≤ i + 1) × (nullable (derivative_by (take k s) r) ≡ true)). h.1 k (at_next r p s i k a f d.0 d.1, d.1))

-- the place after one scalar more
place_step : (cs : List ℕ) (i : ℕ) → i < length cs → place_of cs (i + 1) ≡ place_of cs i + len_utf8 (get_or cs i 0)
place_step cs i l =
    let a : encode_utf8_all (take (i + 1) cs) ≡ encode_utf8_all (take i cs) ++ encode_utf8_all (get_or cs i 0 ∷ []) =
    ap encode_utf8_all (take_more cs i 0 l) ∙ encodes-append (take i cs) (get_or cs i 0 ∷ []) in
    let b : encode_utf8_all (get_or cs i 0 ∷ []) ≡ encode_utf8 (get_or cs i 0) = append-nil (encode_utf8 (get_or cs i 0)) in
    ap length a ∙ (length-append (encode_utf8_all (take i cs)) (encode_utf8_all (get_or cs i 0 ∷ []))
    ∙ ap (λ (z : ℕ). place_of cs i + z) (ap length b ∙ length-encode (get_or cs i 0)))

-- a prefix is a shorter prefix and more
cut : (cs : List ℕ) (i j : ℕ) → i ≤ j → take j cs ≡ take i cs ++ drop i (take j cs)
cut cs i j l = sym (take-append-drop i (take j cs)) ∙ ap (λ (z : List ℕ). z ++ drop i (take j cs)) (take-take i j cs l)

-- a longer prefix takes no fewer bytes
place_mono : (cs : List ℕ) (i j : ℕ) → i ≤ j → place_of cs i ≤ place_of cs j
place_mono cs i j l =
    let e : place_of cs j ≡ place_of cs i + length (encode_utf8_all (drop i (take j cs))) =
    ap (λ (z : List ℕ). length (encode_utf8_all z)) (cut cs i j l)
    ∙ (ap length (encodes-append (take i cs) (drop i (take j cs))) ∙ length-append (encode_utf8_all (take i cs)) (encode_utf8_all (drop i (take j cs)))) in
    omega arith

-- all scalars take all bytes
place_all : (s : List ℕ) → IsUtf8 s → place_of (chars s) (length (chars s)) ≡ length s
place_all s u = ap (λ (z : List ℕ). length (encode_utf8_all z)) (take-length (chars s)) ∙ ap length (encodes-chars s u)

-- the next scalar lies in the text
pub place_fits : (s : List ℕ) (i : ℕ) → IsUtf8 s → i < length (chars s) → place_of (chars s) i + len_utf8 (get_or (chars s) i 0) ≤ length s
place_fits s i u l =
    let a : place_of (chars s) (i + 1) ≤ place_of (chars s) (length (chars s)) = place_mono (chars s) (i + 1) (length (chars s)) (omega arith) in
    omega (arith, place_step (chars s) i l, place_all s u)

-- a text that begins in bytes begins in scalars
pub begins : (xs cs t : List ℕ) → encode_utf8_all cs ≡ encode_utf8_all xs ++ t → (length xs ≤ length cs) × (xs ≡ take (length xs) cs)
begins [] cs t e = (omega arith, refl)
begins (x ∷ xs) cs t e =
    let w = cons_from_encodes cs (encode_utf8_all xs ++ t) x (e ∙ append_assoc (encode_utf8 x) (encode_utf8_all xs) t) in
    let h : (length xs ≤ length w.0) × (xs ≡ take (length xs) w.0) = begins xs w.0 t w.2 in
    let first : length (x ∷ xs) ≤ length (x ∷ w.0) = omega (arith, h.0) in
    let second : x ∷ xs ≡ take (length (x ∷ xs)) (x ∷ w.0) = ap (λ (z : List ℕ). x ∷ z) h.1 in
    let P : List ℕ → Type 0 = λ z. (length (x ∷ xs) ≤ length z) × (x ∷ xs ≡ take (length (x ∷ xs)) z) in
    subst P (sym w.1) (first, second)

-- a prefix in bytes is one in scalars
pub prefix_into : (r : Regex) (s : List ℕ) (k : ℕ) → IsUtf8 s → IsPrefixOf r s k
    → (i : ℕ) × (i ≤ length (chars s)) × (k ≡ place_of (chars s) i) × (nullable (derivative_by (take i (chars s)) r) ≡ true)
prefix_into r s k u f =
    let whole : encode_utf8_all (chars s) ≡ encode_utf8_all f.scalars ++ drop k s =
    encodes-chars s u ∙ (sym (take-append-drop k s) ∙ ap (λ (z : List ℕ). z ++ drop k s) (sym f.spelled)) in
    let h : (length f.scalars ≤ length (chars s)) × (f.scalars ≡ take (length f.scalars) (chars s)) = begins f.scalars (chars s) (drop k s) whole in
    let a : length (take k s) ≡ k = length-take-le k s f.fits in
    let b : k ≡ length (encode_utf8_all f.scalars) = sym (ap length f.spelled ∙ a) in (
      length f.scalars,
      h.0,
      b ∙ ap (λ (z : List ℕ). length (encode_utf8_all z)) h.1,
      ap (λ (z : List ℕ). nullable (derivative_by z r)) (sym h.1) ∙ matches_into f.scalars r f.has,
    )

-- a prefix in scalars is one in bytes
pub prefix_from : (r : Regex) (s : List ℕ) (i : ℕ) → IsUtf8 s → i ≤ length (chars s) → nullable (derivative_by (take i (chars s)) r) ≡ true
    → IsPrefixOf r s (place_of (chars s) i)
prefix_from r s i u l t =
    let cs : List ℕ = chars s in
    let whole : s ≡ encode_utf8_all (take i (chars s)) ++ encode_utf8_all (drop i (chars s)) =
    sym (encodes-chars s u) ∙ (ap encode_utf8_all (sym (take-append-drop i (chars s))) ∙ encodes-append (take i (chars s)) (drop i (chars s))) in
    let a : place_of (chars s) i ≤ place_of (chars s) (length (chars s)) = place_mono (chars s) i (length (chars s)) l in
    record {
      scalars = take i (chars s);
      fits = omega (arith, a, place_all s u);
      spelled = sym (ap (λ (z : List ℕ). take (place_of (chars s) i) z) whole ∙ take-append_seam (encode_utf8_all (take i (chars s))) (encode_utf8_all (drop i (chars s))));
      has = matches_from (take i (chars s)) r t;
    }

-- inside a list the default does not matter
pub get_or_default : (cs : List ℕ) (i c d : ℕ) → i < length cs → get_or cs i c ≡ get_or cs i d
get_or_default [] i c d l = let w : ⊥ = omega arith in absurd w
get_or_default (x ∷ cs) zero c d l = refl
get_or_default (x ∷ cs) (suc i) c d l = get_or_default cs i c d (omega arith)

-- a scalar after which the shape may not end
pub seen_same : (r q p : Regex) (cs : List ℕ) (i place : ℕ) (o : Option ℕ) (c : ℕ) → i < length cs → c ≡ get_or cs i c → Seen r q cs i place o → derivative c q ≡ p
    → nullable p ≡ false → Seen r p cs (i + 1) (place + len_utf8 c) o
seen_same r q p cs i place o c l is h e f =
    let same : c ≡ get_or cs i 0 = is ∙ get_or_default cs i c 0 l in
    let a : derivative_by (take (i + 1) cs) r ≡ p = stepped r q p cs i l h.rest (ap (λ (z : ℕ). derivative z q) (sym same) ∙ e) in
    record {
      best = h.best;
      rest = a;
      prefixes = kept r p cs i h.best a f h.prefixes;
      at = ap (λ (z : ℕ). z + len_utf8 c) h.at ∙ (ap (λ (z : ℕ). place_of cs i + len_utf8 z) same ∙ sym (place_step cs i l));
      found = h.found;
    }

-- a scalar after which the shape may end
pub seen_new : (r q p : Regex) (cs : List ℕ) (i place : ℕ) (o : Option ℕ) (c : ℕ) → i < length cs → c ≡ get_or cs i c → Seen r q cs i place o → derivative c q ≡ p
    → nullable p ≡ true → Seen r p cs (i + 1) (place + len_utf8 c) (Some (place + len_utf8 c))
seen_new r q p cs i place o c l is h e f =
    let same : c ≡ get_or cs i 0 = is ∙ get_or_default cs i c 0 l in
    let a : derivative_by (take (i + 1) cs) r ≡ p = stepped r q p cs i l h.rest (ap (λ (z : ℕ). derivative z q) (sym same) ∙ e) in
    let there : place + len_utf8 c ≡ place_of cs (i + 1) =
    ap (λ (z : ℕ). z + len_utf8 c) h.at ∙ (ap (λ (z : ℕ). place_of cs i + len_utf8 z) same ∙ sym (place_step cs i l)) in
    record {
      best = Some (i + 1);
      rest = a;
      prefixes = ((omega arith, ap nullable a ∙ f), λ k (d : (k ≤ i + 1) × (nullable (derivative_by (take k cs) r) ≡ true)). d.0);
      at = there;
      found = ap Some there;
    }

-- at the beginning, where the shape may be empty
pub seen_first : (r : Regex) (cs : List ℕ) → nullable r ≡ true → Seen r r cs 0 0 (Some 0)
seen_first r cs e = record { best = Some 0; rest = refl; prefixes = ((omega arith, e), λ k (d : (k ≤ 0) × (nullable (derivative_by (take k cs) r) ≡ true)). d.0); at = refl; found = refl }

-- at the beginning, where the shape may not be empty
pub seen_none : (r : Regex) (cs : List ℕ) → nullable r ≡ false → Seen r r cs 0 0 None
seen_none r cs e = record {
  best = None;
  rest = refl;
  prefixes = λ k (d : (k ≤ 0) × (nullable (derivative_by (take k cs) r) ≡ true)).
      let z : k ≡ 0 = omega arith in
      let wrong : nullable r ≡ true = subst (λ (y : ℕ). nullable (derivative_by (take y cs) r) ≡ true) z d.1 in
      let wrong2 : false ≡ true = sym e ∙ wrong in cc;
  at = refl;
  found = refl;
}

-- no longer prefix is seen after i
all_prefixes : (r : Regex) (s : List ℕ) (i : ℕ) (o : Option ℕ) → IsUtf8 s → i ≤ length (chars s) → SeenTo r (chars s) i o
    → ((k : ℕ) → i < k → k ≤ length (chars s) → nullable (derivative_by (take k (chars s)) r) ≡ true → ⊥) → Greatest (IsPrefixOf r s) (place_of_seen (chars s) o)
all_prefixes r s i None u l h none_later = λ k (f : IsPrefixOf r s k).
    let w = prefix_into r s k u f in
    elim (cases_lt i w.0) [
      | inr b ↦ h w.0 (b, w.3)
      | inl b ↦ none_later w.0 b w.1 w.3
    ]
all_prefixes r s i (Some m) u l h none_later =
    let best : m ≤ i = h.0.0 in (
      prefix_from r s m u (omega arith) h.0.1,
      λ k (f : IsPrefixOf r s k).
          let w = prefix_into r s k u f in
          rw w.2 (elim (cases_lt i w.0) as (λ _. place_of (chars s) w.0 ≤ place_of (chars s) m) [
            | inr b ↦ place_mono (chars s) w.0 m (h.1 w.0 (b, w.3))
            | inl b ↦ absurd (none_later w.0 b w.1 w.3)
          ]),
    )

-- at the end the longest prefix is known
pub seen_all : (r q : Regex) (s : List ℕ) (i place : ℕ) (o : Option ℕ) → IsUtf8 s → i ≡ length (chars s) → Seen r q (chars s) i place o → Greatest (IsPrefixOf r s) o
seen_all r q s i place o u m h =
    let P : Option ℕ → Type 0 = λ z. Greatest (IsPrefixOf r s) z in
    subst P (sym h.found) (all_prefixes r s i h.best u (omega arith) h.prefixes (λ k (a : i < k) (b : k ≤ length (chars s)) (_ : nullable (derivative_by (take k (chars s)) r) ≡ true). omega arith))

-- where no scalar follows the longest prefix is known
pub seen_dead : (r q : Regex) (s : List ℕ) (i place : ℕ) (o : Option ℕ) (c : ℕ) → IsUtf8 s → i < length (chars s) → c ≡ get_or (chars s) i c → Seen r q (chars s) i place o → derivative c q ≡ nothing
    → Greatest (IsPrefixOf r s) o
seen_dead r q s i place o c u l is h e =
    let same : c ≡ get_or (chars s) i 0 = is ∙ get_or_default (chars s) i c 0 l in
    let a : derivative_by (take (i + 1) (chars s)) r ≡ nothing = stepped r q nothing (chars s) i l h.rest (ap (λ (z : ℕ). derivative z q) (sym same) ∙ e) in
    let P : Option ℕ → Type 0 = λ z. Greatest (IsPrefixOf r s) z in
    subst P (sym h.found) (all_prefixes r s i h.best u (omega arith) h.prefixes (λ k (b : i < k) (d : k ≤ length (chars s)) (t : nullable (derivative_by (take k (chars s)) r) ≡ true).
    let n : derivative_by (take k (chars s)) r ≡ nothing =
    ap (λ (z : List ℕ). derivative_by z r) (cut (chars s) (i + 1) k (omega arith)) ∙ (after_all_append (take (i + 1) (chars s)) (drop (i + 1) (take k (chars s))) r
    ∙ (ap (λ (z : Regex). derivative_by (drop (i + 1) (take k (chars s))) z) a ∙ after_all_nothing (drop (i + 1) (take k (chars s))))) in
    let wrong : false ≡ true = sym (ap nullable n) ∙ t in cc))

-- after some scalars come scalars
scalars_drop : (cs : List ℕ) (i : ℕ) → scalars cs ≡ true → scalars (drop i cs) ≡ true
scalars_drop [] zero e = e
scalars_drop [] (suc i) e = e
scalars_drop (c ∷ cs) zero e = e
scalars_drop (c ∷ cs) (suc i) e = scalars_drop cs i (and_parts _ _ e).1

-- a text may be split after a prefix
pub prefix_boundary : (r : Regex) (s : List ℕ) (k : ℕ) → IsUtf8 s → IsPrefixOf r s k → IsCharBoundary s k
prefix_boundary r s k u f =
    let w = prefix_into r s k u f in
    let whole : s ≡ encode_utf8_all (take w.0 (chars s)) ++ encode_utf8_all (drop w.0 (chars s)) =
    sym (encodes-chars s u) ∙ (ap encode_utf8_all (sym (take-append-drop w.0 (chars s))) ∙ encodes-append (take w.0 (chars s)) (drop w.0 (chars s))) in
    let text : IsUtf8 (encode_utf8_all (drop w.0 (chars s))) = (drop w.0 (chars s), (scalars_drop (chars s) w.0 (scalars-chars s u), refl)) in
    rw w.2 (IsCharBoundary-at_seam s (encode_utf8_all (take w.0 (chars s))) (encode_utf8_all (drop w.0 (chars s))) whole text)

-- where no prefix is invalid, nothing is left
first_invalid : (s cs : List ℕ) → IsUtf8 s → cs ≡ chars s → Greatest (IsPrefixOf invalid s) None → cs ≡ []
first_invalid s [] u e h = refl
first_invalid s (c ∷ cs) u e h =
    let any_one : Matches invalid (c ∷ []) = inr (inr (c, refl, refl)) in
    let one : take 1 (chars s) ≡ c ∷ [] = ap (λ (z : List ℕ). take 1 z) (sym e) in
    let long : 1 ≤ length (chars s) = subst (λ (z : List ℕ). 1 ≤ length z) e (omega arith) in
    absurd (h (place_of (chars s) 1) (prefix_from invalid s 1 u long (ap (λ (z : List ℕ). nullable (derivative_by z invalid)) one ∙ matches_into (c ∷ []) invalid any_one)))

-- only at the end nothing is invalid
pub invalid_none : (s : List ℕ) → IsUtf8 s → Greatest (IsPrefixOf invalid s) None → s ≡ []
invalid_none s u h = sym (encodes-chars s u) ∙ ap encode_utf8_all (first_invalid s (chars s) u refl h)
