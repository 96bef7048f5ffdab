-- The places of merged entries by their texts.
use Rattle.std.proofs.Common.{ℕ, zero, suc, ◌≡◌, ◌<◌, inl, inr, List, [], ◌∷◌, ◌++◌, true, false, if◌then◌else◌, refl, sym, ap, ◌∙◌, length, get_or, set, map, arith, Option, Some, None, option_map, bytes_eq}
use Rattle.std.proofs.lemmas.List.{length-map, map-append}
use Rattle.std.proofs.lemmas.Bool.{cases_Bool}
use Rattle.std.proofs.lemmas.Slice.Eq.{bytes_eq-Decides}
use Rattle.wave_wasm.specs.Merge.{merge, same_text}
use Rattle.wave_writer.proofs.Merging.EntryByEntry.{put, merge_push}

-- where the text stands
abbrev pub found_at : List ℕ → List (List ℕ) → Option ℕ
found_at x [] = None
found_at x (t ∷ ts) = if bytes_eq x t then Some 0 else option_map suc (found_at x ts)

module _ {K V : Type 0} where
  -- the texts of entries
  abbrev pub texts_of : List ((List ℕ × K) × V) → List (List ℕ)
  texts_of ds = map (λ d. d.0.0) ds

  -- the entries without their texts
  abbrev pub pairs_of : List ((List ℕ × K) × V) → List (K × V)
  pairs_of ds = map (λ d. (d.0.1, d.1)) ds

-- ---- one text is no other

same_turned : (a b : List ℕ) → bytes_eq a b ≡ true → bytes_eq b a ≡ true
same_turned a b h = (bytes_eq-Decides b a).1 (sym ((bytes_eq-Decides a b).0 h))

turned : (a b : List ℕ) → bytes_eq a b ≡ bytes_eq b a
turned a b = elim (cases_Bool (bytes_eq a b)) [
  | inl t ↦ t ∙ sym (same_turned a b t)
  | inr f ↦ elim (cases_Bool (bytes_eq b a)) [
    | inl u ↦ let v = same_turned b a u in cc
    | inr g ↦ f ∙ sym g
  ]
]

texts_turned : {K : Type 0} (a b : List ℕ × K) → same_text a b ≡ true → same_text b a ≡ true
texts_turned a b h = same_turned a.0 b.0 h

texts_through : {K : Type 0} (a b c : List ℕ × K) → same_text a b ≡ true → same_text b c ≡ true → same_text a c ≡ true
texts_through a b c h k = (bytes_eq-Decides a.0 c.0).1 ((bytes_eq-Decides a.0 b.0).0 h ∙ (bytes_eq-Decides b.0 c.0).0 k)

texts_push : {K V : Type 0} (es : List ((List ℕ × K) × V)) (e : (List ℕ × K) × V) → merge same_text (es ++ e ∷ []) ≡ put same_text e.0 e.1 (merge same_text es)
texts_push es e = merge_push same_text texts_turned texts_through es e

-- ---- a text that stands there, and one that does not

one_less : (o : Option ℕ) (n : ℕ) → option_map suc o ≡ Some (suc n) → o ≡ Some n
one_less None n e = absurd (cc)
one_less (Some m) n e = let s : suc m ≡ suc n = cc in let p : m ≡ n = omega (arith, s) in ap Some p

not_first : (o : Option ℕ) → option_map suc o ≡ Some 0 → ⊥
not_first None e = cc
not_first (Some m) e = let s : suc m ≡ 0 = cc in omega (arith, s)

first_there : {n : ℕ} → Some n ≡ None → ⊥
first_there e = cc

first_only : (n : ℕ) → Some 0 ≡ Some (suc n) → ⊥
first_only n e = let s : 0 ≡ suc n = cc in omega (arith, s)

none_behind : (o : Option ℕ) → option_map suc o ≡ None → o ≡ None
none_behind None e = refl
none_behind (Some m) e = absurd (cc)

put_found : {K V : Type 0} (x : List ℕ) (k : K) (v : V) (w : K × V) (ds : List ((List ℕ × K) × V)) (n : ℕ) → found_at x (texts_of ds) ≡ Some n → (n < length ds) × (texts_of (put same_text (x, k) v ds) ≡ texts_of ds) × (pairs_of (put same_text (x, k) v ds) ≡ set (pairs_of ds) n ((get_or (pairs_of ds) n w).0, v))
put_found x k v w [] n e = absurd (cc)
put_found x k v w (d ∷ ds) zero e = elim (cases_Bool (bytes_eq x d.0.0)) [
  | inl h ↦ rw h (omega arith, refl, refl)
  | inr h ↦ absurd (not_first (found_at x (texts_of ds)) (sym (ap (λ b. if b then Some 0 else option_map suc (found_at x (texts_of ds))) h) ∙ e))
]
put_found x k v w (d ∷ ds) (suc n) e = elim (cases_Bool (bytes_eq x d.0.0)) [
  | inl h ↦ absurd (first_only n (sym (ap (λ b. if b then Some 0 else option_map suc (found_at x (texts_of ds))) h) ∙ e))
  | inr h ↦
      let r = put_found x k v w ds n (one_less (found_at x (texts_of ds)) n (sym (ap (λ b. if b then Some 0 else option_map suc (found_at x (texts_of ds))) h) ∙ e)) in
      rw h (omega (arith, r.0), ap (λ ts. d.0.0 ∷ ts) r.1, ap (λ ps. (d.0.1, d.1) ∷ ps) r.2)
]

put_new : {K V : Type 0} (x : List ℕ) (k : K) (v : V) (ds : List ((List ℕ × K) × V)) → found_at x (texts_of ds) ≡ None → (texts_of (put same_text (x, k) v ds) ≡ texts_of ds ++ x ∷ []) × (pairs_of (put same_text (x, k) v ds) ≡ pairs_of ds ++ (k, v) ∷ [])
put_new x k v [] e = (refl, refl)
put_new x k v (d ∷ ds) e = elim (cases_Bool (bytes_eq x d.0.0)) [
  | inl h ↦ absurd (first_there (sym (ap (λ b. if b then Some 0 else option_map suc (found_at x (texts_of ds))) h) ∙ e))
  | inr h ↦
      let f : option_map suc (found_at x (texts_of ds)) ≡ None = sym (ap (λ b. if b then Some 0 else option_map suc (found_at x (texts_of ds))) h) ∙ e in
      let r = put_new x k v ds (none_behind (found_at x (texts_of ds)) f) in
      rw h (ap (λ ts. d.0.0 ∷ ts) r.0, ap (λ ps. (d.0.1, d.1) ∷ ps) r.1)
]

-- a new text stands at the end
found_push : (q x : List ℕ) (ts : List (List ℕ)) → found_at x ts ≡ None → found_at q (ts ++ x ∷ []) ≡ (if bytes_eq x q then Some (length ts) else found_at q ts)
found_push q x [] e = ap (λ b. if b then Some 0 else None) (turned q x)
found_push q x (t ∷ ts) e = elim (cases_Bool (bytes_eq x t)) [
  | inl h ↦ absurd (first_there (sym (ap (λ b. if b then Some 0 else option_map suc (found_at x ts)) h) ∙ e))
  | inr h ↦
      let f : option_map suc (found_at x ts) ≡ None = sym (ap (λ b. if b then Some 0 else option_map suc (found_at x ts)) h) ∙ e in
      let r = found_push q x ts (none_behind (found_at x ts) f) in
      ap (λ o. if bytes_eq q t then Some 0 else option_map suc o) r ∙ elim (cases_Bool (bytes_eq x q)) [
        | inl u ↦ let same : q ≡ x = sym ((bytes_eq-Decides x q).0 u) in let g : bytes_eq q t ≡ false = ap (λ z. bytes_eq z t) same ∙ h in rw (u, g) refl
        | inr n ↦ rw n refl
      ]
]

-- ---- one more entry

-- one more entry whose text stands there
pub merge_found : {E K V : Type 0} (f : E → (List ℕ × K) × V) (es : List E) (e : E) (ms : List (K × V)) (i : ℕ) (was : K × V) → ms ≡ pairs_of (merge same_text (map f es)) → found_at (f e).0.0 (texts_of (merge same_text (map f es))) ≡ Some i → was ≡ get_or ms i was
    → (texts_of (merge same_text (map f (es ++ e ∷ []))) ≡ texts_of (merge same_text (map f es))) × (set ms i (was.0, (f e).1) ≡ pairs_of (merge same_text (map f (es ++ e ∷ []))))
merge_found f es e ms i was ps at is =
    let ds = merge same_text (map f es) in
    let r = put_found (f e).0.0 (f e).0.1 (f e).1 was ds i at in
    let push : merge same_text (map f (es ++ e ∷ [])) ≡ put same_text (f e).0 (f e).1 ds = ap (merge same_text) (map-append f es (e ∷ [])) ∙ texts_push (map f es) (f e) in
    (ap texts_of push ∙ r.1, ap (λ p. set ms i (p.0, (f e).1)) is ∙ (ap (λ l. set l i ((get_or l i was).0, (f e).1)) ps ∙ sym (ap pairs_of push ∙ r.2)))

-- where a text stands that is there
pub place_fits : {E K V : Type 0} (f : E → (List ℕ × K) × V) (es : List E) (x : List ℕ) (ms : List (K × V)) (i : ℕ) → ms ≡ pairs_of (merge same_text (map f es)) → found_at x (texts_of (merge same_text (map f es))) ≡ Some i → i < length ms
place_fits {E} {K} {V} f es x ms i ps at = fits x (merge same_text (map f es)) ms i ps at
  where
    within : (x : List ℕ) (ts : List (List ℕ)) (i : ℕ) → found_at x ts ≡ Some i → i < length ts
    within x [] i e = absurd (cc)
    within x (t ∷ ts) zero e = omega arith
    within x (t ∷ ts) (suc i) e = elim (cases_Bool (bytes_eq x t)) [
      | inl h ↦ absurd (first_only i (sym (ap (λ b. if b then Some 0 else option_map suc (found_at x ts)) h) ∙ e))
      | inr h ↦ let r = within x ts i (one_less (found_at x ts) i (sym (ap (λ b. if b then Some 0 else option_map suc (found_at x ts)) h) ∙ e)) in omega (arith, r)
    ]

    fits : {K V : Type 0} (x : List ℕ) (ds : List ((List ℕ × K) × V)) (ms : List (K × V)) (i : ℕ) → ms ≡ pairs_of ds → found_at x (texts_of ds) ≡ Some i → i < length ms
    fits x ds ms i ps at =
        let r = within x (texts_of ds) i at in
        let p : length ms ≡ length ds = ap length ps ∙ length-map ds (λ d. (d.0.1, d.1)) in
        let t : length (texts_of ds) ≡ length ds = length-map ds (λ d. d.0.0) in
        omega arith

-- one more entry whose text is new
pub merge_new : {E K V : Type 0} (f : E → (List ℕ × K) × V) (es : List E) (e : E) (ms : List (K × V)) → ms ≡ pairs_of (merge same_text (map f es)) → found_at (f e).0.0 (texts_of (merge same_text (map f es))) ≡ None
    → ((q : List ℕ) → found_at q (texts_of (merge same_text (map f (es ++ e ∷ [])))) ≡ (if bytes_eq (f e).0.0 q then Some (length ms) else found_at q (texts_of (merge same_text (map f es))))) × (ms ++ ((f e).0.1, (f e).1) ∷ [] ≡ pairs_of (merge same_text (map f (es ++ e ∷ []))))
merge_new f es e ms ps at =
    let ds = merge same_text (map f es) in
    let r = put_new (f e).0.0 (f e).0.1 (f e).1 ds at in
    let push : merge same_text (map f (es ++ e ∷ [])) ≡ put same_text (f e).0 (f e).1 ds = ap (merge same_text) (map-append f es (e ∷ [])) ∙ texts_push (map f es) (f e) in
    let count : length (texts_of ds) ≡ length ms = length-map ds (λ d. d.0.0) ∙ sym (ap length ps ∙ length-map ds (λ d. (d.0.1, d.1))) in
    (λ q. ap (found_at q) (ap texts_of push ∙ r.0) ∙ (found_push q (f e).0.0 (texts_of ds) at ∙ ap (λ n. if bytes_eq (f e).0.0 q then Some n else found_at q (texts_of ds)) count), ap (λ l. l ++ ((f e).0.1, (f e).1) ∷ []) ps ∙ sym (ap pairs_of push ∙ r.1))
