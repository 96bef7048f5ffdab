-- Runs of bytes of a set, through the masks of the bytes that are not in it.
use Rattle.std.proofs.Common.{◌≡◌, ℕ, ◌+◌, ◌-◌, ◌*◌, ◌%◌, ◌^◌, ◌<◌, ◌≤◌, Bool, true, false, cond, inl, inr, List, [], ◌∷◌, map, length, slice_index, refl, ap, ap₂, ◌∙◌, arith, w8, Fits}
use Rattle.std.specs.Prelude.{not}
use Rattle.std.specs.Bool.{beq}
use Rattle.std.proofs.lemmas.Bool.{cases_lt, not-false, not-true}
use Rattle.std.proofs.lemmas.List.{length-map}
use Rattle.std.proofs.lemmas.Simd.{trailing_mask_l, run_in_chunk_le, run_in_chunk_fails, run_in_chunk_stops, none_from_empty_mask, mask_l-mod, length-chunk}
use Rattle.std.proofs.lemmas.List.Sums.{prefix_len-le-length}
use Rattle.std.specs.List.{prefix_len}
use lib.Count.{count_trailing_zeros}
use lib.Dec.{eqb, ltb}
use lib.Lanes.{chunk, mask_l, top, Each1}
use Rattle.wave_wasm.specs.ByteRuns.{IsRunOf}
use Rattle.wave_wasm.proofs.EachNumber.{each_below, tests_agree}

-- where no lane passes p, no bit is set
none_set : (p : ℕ → Bool) (xs : List ℕ) → prefix_len (λ x. not (p x)) xs ≡ length xs → mask_l (map p xs) ≡ 0
none_set p [] e = refl
none_set p (x ∷ xs) e = none_with (p x) _ (length xs) _ (prefix_len-le-length (λ y. not (p y)) xs) (omega arith) (none_set p xs)
  where
    none_with : (b : Bool) (n l m : ℕ) → n ≤ l → cond (not b) (1 + n) 0 ≡ 1 + l → (n ≡ l → m ≡ 0) → cond b 1 0 + 2 * m ≡ 0
    none_with true n l m le e h = let no : ⊥ = omega arith in absurd no
    none_with false n l m le e h = let z = h (omega arith) in omega arith

module _ (set : ℕ → Bool) (s : List ℕ) (at : ℕ) (room : at + 16 ≤ length s) (before : (i : ℕ) → i < at → set (slice_index s i) ≡ true) where
  abbrev other : ℕ → Bool
  other b = not (set b)

  abbrev mask : ℕ
  mask = mask_l (map other (chunk at 16 s))

  -- where no bit is set the run goes on through all of them
  pub run_through : mask ≡ 0 → (i : ℕ) → i < at + 16 → set (slice_index s i) ≡ true
  run_through e i lt = elim (cases_lt i at) as (λ _. set (slice_index s i) ≡ true) [
    | inl l ↦ before i l
    | inr l ↦ not-false _ (none_from_empty_mask other s at 16 0 room e i l lt)
  ]

  -- else it ends at the lowest bit
  pub run_ends : 0 < mask → IsRunOf set s (at + count_trailing_zeros 64 mask)
  run_ends some =
      let counted = trailing_mask_l other 64 (chunk at 16 s) (omega (arith, length-chunk at 16 s room)) some in
      let n = count_trailing_zeros 64 mask in
      let long = length-chunk at 16 s room in
      let short : n < 16 = elim (cases_lt n 16) as (λ _. n < 16) [
        | inl l ↦ l
        | inr l ↦
            let le = run_in_chunk_le other s at 16 n 0 room counted in
            let none = none_set other (chunk at 16 s) (omega (arith, counted, long, le, l)) in
            let no : ⊥ = omega (arith, none, some) in
            absurd no
      ] in
      record {
        within = omega (arith, run_in_chunk_le other s at 16 n 0 room counted);
        all = λ i lt. elim (cases_lt i at) as (λ _. set (slice_index s i) ≡ true) [
          | inl l ↦ before i l
          | inr l ↦ not-false _ (run_in_chunk_fails other s at 16 n 0 room counted i l lt)
        ];
        stops = λ lt. not-true _ (run_in_chunk_stops other s at 16 n 0 room counted short);
      }

-- a mask that is computed byte by byte is that of the bytes that are not in the set, where it is so of each of the 256 bytes
module _ (set : ℕ → Bool) (f : ℕ → ℕ) (computed : each_below 256 (λ b. beq (top 7 (f b)) (not (set b))) ≡ true) where
  each_byte : (v : List ℕ) → Each1 (Fits w8) v → map (top 7) (map f v) ≡ map (λ b. not (set b)) v
  each_byte [] fits = refl
  each_byte (b ∷ v) fits = ap₂ (λ x y. x ∷ y) (tests_agree 256 (λ x. top 7 (f x)) (λ x. not (set x)) b fits.0.fits computed) (each_byte v fits.1)

  pub masked : (v z : List ℕ) → length v ≡ 16 → Each1 (Fits w8) v → z ≡ map f v → mask_l (map (top 7) z) % 2 ^ 64 ≡ mask_l (map (λ b. not (set b)) v)
  masked v z long fits e =
      ap (λ l. mask_l l % 2 ^ 64) (ap (map (top 7)) e ∙ each_byte v fits) ∙ mask_l-mod (map (λ b. not (set b)) v) 64 (omega (arith, length-map v (λ b. not (set b)), long))

-- what a comparison leaves of a byte
abbrev pub where_equal : ℕ → ℕ → ℕ
where_equal a b = cond (eqb a b) 255 0

abbrev pub where_below : ℕ → ℕ → ℕ
where_below a b = cond (ltb a b) 255 0

abbrev pub where_other : ℕ → ℕ → ℕ
where_other a b = cond (not (eqb a b)) 255 0

-- the difference of two bytes, wrapped
abbrev pub difference : ℕ → ℕ → ℕ
difference a b = (a + (256 - b)) % 256
