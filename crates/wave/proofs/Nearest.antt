-- Which of the words is the nearest, and the first of those.
use Rattle.std.proofs.Common.{ℕ, ◌≡◌, ◌<◌, ◌≤◌, ◌⊎◌, ◌∙◌, List, [], ◌∷◌, ◌++◌, String, Global, Result, Ok, Err, IfOk, string_bytes, inl, inr, refl, ap, sym, subst, arith, append_assoc, codes}
use Rattle.std.proofs.lemmas.Bool.{cases_lt}
use Rattle.wave_wasm.specs.Lists.{AllOf}
use Rattle.wave.specs.Misuse.{edits, IsNearest, IsHint}

-- the only word is
pub nearest_alone : (word near : List ℕ) → IsNearest word (near ∷ []) near
nearest_alone word near = ([], [], refl, tt, tt)

all_joined : (P : List ℕ → Type 0) (xs ys : List (List ℕ)) → AllOf P xs → AllOf P ys → AllOf P (xs ++ ys)
all_joined P [] ys p q = q
all_joined P (x ∷ xs) ys (here, more) q = (here, all_joined P xs ys more q)

-- to what is no nearer than this word is, another leads with fewer edits than to it
all_below : (word near other : List ℕ) (words : List (List ℕ)) → edits word other < edits word near → AllOf (λ x. edits word near ≤ edits word x) words → AllOf (λ x. edits word other < edits word x) words
all_below word near other [] less none = tt
all_below word near other (w ∷ ws) less (here, more) = (omega (arith, less, here), all_below word near other ws less more)

all_no_nearer : (word near : List ℕ) (words : List (List ℕ)) → AllOf (λ x. edits word near < edits word x) words → AllOf (λ x. edits word near ≤ edits word x) words
all_no_nearer word near [] none = tt
all_no_nearer word near (w ∷ ws) (here, more) = (omega (arith, here), all_no_nearer word near ws more)

-- one word more that is nearer
pub nearer_is_nearest : (word near other : List ℕ) (words : List (List ℕ)) → edits word other < edits word near → IsNearest word words near → IsNearest word (words ++ other ∷ []) other
nearer_is_nearest word near other words less (before, behind, is, first, rest) =
    let all = all_joined (λ x. edits word other < edits word x) before (near ∷ behind) (all_below word near other before less (all_no_nearer word near before first)) (less, all_below word near other behind less rest) in
    (words, [], refl, subst (AllOf (λ x. edits word other < edits word x)) (sym is) all, tt)

-- one word more that is no nearer
pub nearest_stays : (word near other : List ℕ) (words : List (List ℕ)) → edits word near ≤ edits word other → IsNearest word words near → IsNearest word (words ++ other ∷ []) near
nearest_stays word near other words fits (before, behind, is, first, rest) =
    (before, behind ++ other ∷ [], ap (λ z. z ++ other ∷ []) is ∙ append_assoc before (near ∷ behind) (other ∷ []), first, all_joined (λ x. edits word near ≤ edits word x) behind (other ∷ []) rest (fits, tt))

-- what is no nearer than a far word is far too
all_beyond : (word near : List ℕ) (words : List (List ℕ)) → 2 < edits word near → AllOf (λ x. edits word near ≤ edits word x) words → AllOf (λ x. 2 < edits word x) words
all_beyond word near [] far none = tt
all_beyond word near (w ∷ ws) far (here, more) = (omega (arith, far, here), all_beyond word near ws far more)

-- where the nearest is far, all are
all_far : (word near : List ℕ) (words : List (List ℕ)) → 2 < edits word near → IsNearest word words near → AllOf (λ x. 2 < edits word x) words
all_far word near words far (before, behind, is, first, rest) =
    let all = all_joined (λ x. 2 < edits word x) before (near ∷ behind) (all_beyond word near before far (all_no_nearer word near before first)) (far, all_beyond word near behind far rest) in
    subst (AllOf (λ x. 2 < edits word x)) (sym is) all

-- the nearest of the words, of which this is the last
pub nearest_of : {X E : Type 0} (text : X → List ℕ) (count : X → ℕ) (r : Result X E) (word near other : List ℕ) (words : List (List ℕ)) → IsNearest word words near
    → IfOk r (λ x. (ws : List (List ℕ)) → IsNearest word ws near → IsNearest word (ws ++ other ∷ []) (text x)) → IfOk r (λ x. count x ≡ edits word (text x))
    → IfOk r (λ x. IsNearest word (words ++ other ∷ []) (text x) × (count x ≡ edits word (text x)))
nearest_of text count (Err e) word near other words nearest first counted = tt
nearest_of text count (Ok x) word near other words nearest first counted = (first words nearest, counted)

-- what is said of it, where it is near
pub hint_is : (word near text : List ℕ) (words : List (List ℕ)) (count : ℕ) → IsNearest word words near → count ≡ edits word near → (count ≤ 2 → text ≡ codes "; did you mean \"" ++ (near ++ codes "\"?"))
    → (2 < count → text ≡ []) → IsHint word words text
hint_is word near text words count nearest is close far = by (cases_lt 2 count) where
  by : (2 < count) ⊎ (count ≤ 2) → IsHint word words text
  by (inl beyond) = inl (all_far word near words (subst (λ n. 2 < n) is beyond) nearest, far beyond)
  by (inr within) = inr (near, nearest, subst (λ n. n ≤ 2) is within, close within)

pub hinted : {E : Type 0} (r : Result (String Global) E) (word near : List ℕ) (words : List (List ℕ)) (count : ℕ) → IsNearest word words near → count ≡ edits word near
    → (count ≤ 2 → IfOk r (λ hint. string_bytes hint ≡ codes "; did you mean \"" ++ (near ++ codes "\"?"))) → (2 < count → IfOk r (λ hint. string_bytes hint ≡ []))
    → IfOk r (λ hint. IsHint word words (string_bytes hint))
hinted (Err e) word near words count nearest is close far = tt
hinted (Ok hint) word near words count nearest is close far = hint_is word near (string_bytes hint) words count nearest is close far
