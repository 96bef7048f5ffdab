-- What is left of arguments where an option is taken out of them.
use Rattle.std.proofs.Common.{ℕ, zero, suc, ◌≡◌, ◌<◌, ◌≤◌, ◌∙◌, true, false, List, [], ◌∷◌, ◌++◌, Some, None, String, Global, string_bytes, map, take, drop, get_or, length, refl, sym, ap, arith}
use Rattle.std.specs.Prelude.{if◌then◌else◌, ◌||◌}
use Rattle.std.specs.Str.{bytes_eq}
use Rattle.wave_files.specs.Options.{stands_among, remove_word, is_given, without, first_word, word_behind, behind_pair, remove_pair, value_of, without_value}

-- the text at a place
pub text_at : (words : List (String Global)) (i : ℕ) (x : String Global) (t : List ℕ) → i < length words → x ≡ get_or words i x → t ≡ string_bytes x → get_or (map string_bytes words) i [] ≡ t
text_at [] i x t less is same = absurd (omega (arith, less))
text_at (w ∷ words) zero x t less is same = ap string_bytes (sym is) ∙ sym same
text_at (w ∷ words) (suc i) x t less is same = text_at words i x t (omega (arith, less)) is same

-- there are as many texts
pub length_texts : (words : List (String Global)) → length (map string_bytes words) ≡ length words
length_texts [] = refl
length_texts (w ∷ words) = ap suc (length_texts words)

-- the word behind the one that is taken out
pub next_of : (words : List (String Global)) (place : ℕ) (x : String Global) → get_or (take place words ++ drop (suc place) words) place x ≡ get_or words (suc place) x
next_of [] zero x = refl
next_of [] (suc place) x = refl
next_of (word ∷ words) zero x = refl
next_of (word ∷ words) (suc place) x = next_of words place x

-- the texts without the two at a place
pub both_removed : (words : List (String Global)) (place : ℕ)
    → map string_bytes (take place (take place words ++ drop (suc place) words) ++ drop (suc place) (take place words ++ drop (suc place) words)) ≡ take place (map string_bytes words) ++ drop (suc (suc place)) (map string_bytes words)
both_removed [] zero = refl
both_removed [] (suc place) = refl
both_removed (word ∷ []) zero = refl
both_removed (word ∷ (next ∷ words)) zero = refl
both_removed (word ∷ words) (suc place) = ap (λ z. string_bytes word ∷ z) (both_removed words place)

module _ (option : List ℕ) where
  -- from this place on the option is looked for, and taken out
  pub record IsSearchedFrom (texts : List (List ℕ)) (place : ℕ) : Type 0 where
    pub given : is_given option texts ≡ stands_among option (drop place texts)
    pub left : without option texts ≡ take place texts ++ remove_word option (drop place texts)

  -- where another word stands it is looked for behind that
  among_more : (texts : List (List ℕ)) (place : ℕ) → place < length texts → bytes_eq (get_or texts place []) option ≡ false → stands_among option (drop place texts) ≡ stands_among option (drop (suc place) texts)
  among_more [] place less other = absurd (omega (arith, less))
  among_more (word ∷ texts) zero less other = ap (λ b. b || stands_among option texts) other
  among_more (word ∷ texts) (suc place) less other = among_more texts place (omega (arith, less)) other

  left_more : (texts : List (List ℕ)) (place : ℕ) → place < length texts → bytes_eq (get_or texts place []) option ≡ false
      → take place texts ++ remove_word option (drop place texts) ≡ take (suc place) texts ++ remove_word option (drop (suc place) texts)
  left_more [] place less other = absurd (omega (arith, less))
  left_more (word ∷ texts) zero less other = ap (λ b. if b then texts else word ∷ remove_word option texts) other
  left_more (word ∷ texts) (suc place) less other = ap (λ z. word ∷ z) (left_more texts place (omega (arith, less)) other)

  pub searched_more : (texts : List (List ℕ)) (place : ℕ) → IsSearchedFrom texts place → place < length texts → bytes_eq (get_or texts place []) option ≡ false → IsSearchedFrom texts (suc place)
  searched_more texts place so less other = record { given = so.given ∙ among_more texts place less other; left = so.left ∙ left_more texts place less other }

  -- where it stands it is given, and taken out
  among_here : (texts : List (List ℕ)) (place : ℕ) → place < length texts → bytes_eq (get_or texts place []) option ≡ true → stands_among option (drop place texts) ≡ true
  among_here [] place less is = absurd (omega (arith, less))
  among_here (word ∷ texts) zero less is = ap (λ b. b || stands_among option texts) is
  among_here (word ∷ texts) (suc place) less is = among_here texts place (omega (arith, less)) is

  left_here : (texts : List (List ℕ)) (place : ℕ) → place < length texts → bytes_eq (get_or texts place []) option ≡ true → take place texts ++ remove_word option (drop place texts) ≡ take place texts ++ drop (suc place) texts
  left_here [] place less is = absurd (omega (arith, less))
  left_here (word ∷ texts) zero less is = ap (λ b. if b then texts else word ∷ remove_word option texts) is
  left_here (word ∷ texts) (suc place) less is = ap (λ z. word ∷ z) (left_here texts place (omega (arith, less)) is)

  pub given_here : (texts : List (List ℕ)) (place : ℕ) → IsSearchedFrom texts place → place < length texts → bytes_eq (get_or texts place []) option ≡ true → true ≡ is_given option texts
  given_here texts place so less is = sym (so.given ∙ among_here texts place less is)

  -- the texts without the one at a place
  removed : (words : List (String Global)) (place : ℕ) → map string_bytes (take place words ++ drop (suc place) words) ≡ take place (map string_bytes words) ++ drop (suc place) (map string_bytes words)
  removed [] zero = refl
  removed (word ∷ words) zero = refl
  removed [] (suc place) = refl
  removed (word ∷ words) (suc place) = ap (λ z. string_bytes word ∷ z) (removed words place)

  pub taken_here : (words : List (String Global)) (place : ℕ) → IsSearchedFrom (map string_bytes words) place → place < length (map string_bytes words) → bytes_eq (get_or (map string_bytes words) place []) option ≡ true
      → map string_bytes (take place words ++ drop (suc place) words) ≡ without option (map string_bytes words)
  taken_here words place so less is = removed words place ∙ sym (so.left ∙ left_here (map string_bytes words) place less is)

  -- ---- an option with a word behind it

  -- from this place on the option is looked for, and taken out with the word behind it
  pub record IsLookedForFrom (texts : List (List ℕ)) (place : ℕ) : Type 0 where
    pub value : value_of option texts ≡ word_behind option (drop place texts)
    pub left : without_value option texts ≡ take place texts ++ remove_pair option (drop place texts)

  behind_more : (texts : List (List ℕ)) (place : ℕ) → place < length texts → bytes_eq (get_or texts place []) option ≡ false → word_behind option (drop place texts) ≡ word_behind option (drop (suc place) texts)
  behind_more [] place less other = absurd (omega (arith, less))
  behind_more (word ∷ texts) zero less other = ap (λ b. if b then first_word texts else word_behind option texts) other
  behind_more (word ∷ texts) (suc place) less other = behind_more texts place (omega (arith, less)) other

  pair_more : (texts : List (List ℕ)) (place : ℕ) → place < length texts → bytes_eq (get_or texts place []) option ≡ false
      → take place texts ++ remove_pair option (drop place texts) ≡ take (suc place) texts ++ remove_pair option (drop (suc place) texts)
  pair_more [] place less other = absurd (omega (arith, less))
  pair_more (word ∷ texts) zero less other = ap (λ b. if b then behind_pair word texts else word ∷ remove_pair option texts) other
  pair_more (word ∷ texts) (suc place) less other = ap (λ z. word ∷ z) (pair_more texts place (omega (arith, less)) other)

  pub looked_more : (texts : List (List ℕ)) (place : ℕ) → IsLookedForFrom texts place → place < length texts → bytes_eq (get_or texts place []) option ≡ false → IsLookedForFrom texts (suc place)
  looked_more texts place so less other = record { value = so.value ∙ behind_more texts place less other; left = so.left ∙ pair_more texts place less other }

  -- where it stands with a word behind it, that is its value, and both are taken out
  behind_here : (texts : List (List ℕ)) (place : ℕ) → suc place < length texts → bytes_eq (get_or texts place []) option ≡ true → word_behind option (drop place texts) ≡ Some (get_or texts (suc place) [])
  behind_here [] place less is = absurd (omega (arith, less))
  behind_here (word ∷ []) zero less is = absurd (omega (arith, less))
  behind_here (word ∷ (next ∷ texts)) zero less is = ap (λ b. if b then Some next else word_behind option (next ∷ texts)) is
  behind_here (word ∷ texts) (suc place) less is = behind_here texts place (omega (arith, less)) is

  pair_here : (texts : List (List ℕ)) (place : ℕ) → suc place < length texts → bytes_eq (get_or texts place []) option ≡ true → take place texts ++ remove_pair option (drop place texts) ≡ take place texts ++ drop (suc (suc place)) texts
  pair_here [] place less is = absurd (omega (arith, less))
  pair_here (word ∷ []) zero less is = absurd (omega (arith, less))
  pair_here (word ∷ (next ∷ texts)) zero less is = ap (λ b. if b then texts else word ∷ remove_pair option (next ∷ texts)) is
  pair_here (word ∷ texts) (suc place) less is = ap (λ z. word ∷ z) (pair_here texts place (omega (arith, less)) is)

  pub value_here : (texts : List (List ℕ)) (place : ℕ) → IsLookedForFrom texts place → suc place < length texts → bytes_eq (get_or texts place []) option ≡ true → Some (get_or texts (suc place) []) ≡ value_of option texts
  value_here texts place so less is = sym (so.value ∙ behind_here texts place less is)

  pub pair_left : (texts : List (List ℕ)) (place : ℕ) → IsLookedForFrom texts place → suc place < length texts → bytes_eq (get_or texts place []) option ≡ true → take place texts ++ drop (suc (suc place)) texts ≡ without_value option texts
  pair_left texts place so less is = sym (so.left ∙ pair_here texts place less is)

  -- where it stands last it is left
  behind_last : (texts : List (List ℕ)) (place : ℕ) → suc place ≡ length texts → bytes_eq (get_or texts place []) option ≡ true → word_behind option (drop place texts) ≡ None
  behind_last [] place last is = absurd (omega (arith, last))
  behind_last (word ∷ []) zero last is = ap (λ b. if b then None else None) is
  behind_last (word ∷ (next ∷ texts)) zero last is = absurd (omega (arith, last))
  behind_last (word ∷ texts) (suc place) last is = behind_last texts place (omega (arith, last)) is

  pair_last : (texts : List (List ℕ)) (place : ℕ) → suc place ≡ length texts → bytes_eq (get_or texts place []) option ≡ true → take place texts ++ remove_pair option (drop place texts) ≡ texts
  pair_last [] place last is = absurd (omega (arith, last))
  pair_last (word ∷ []) zero last is = ap (λ b. if b then word ∷ [] else word ∷ []) is
  pair_last (word ∷ (next ∷ texts)) zero last is = absurd (omega (arith, last))
  pair_last (word ∷ texts) (suc place) last is = ap (λ z. word ∷ z) (pair_last texts place (omega (arith, last)) is)

  pub value_last : (texts : List (List ℕ)) (place : ℕ) → IsLookedForFrom texts place → suc place ≡ length texts → bytes_eq (get_or texts place []) option ≡ true → value_of option texts ≡ None
  value_last texts place so last is = so.value ∙ behind_last texts place last is

  pub left_last : (texts : List (List ℕ)) (place : ℕ) → IsLookedForFrom texts place → suc place ≡ length texts → bytes_eq (get_or texts place []) option ≡ true → without_value option texts ≡ texts
  left_last texts place so last is = so.left ∙ pair_last texts place last is

  -- where it stands nowhere there is no value, and nothing is taken out
  past : (texts : List (List ℕ)) (place : ℕ) → length texts ≤ place → (word_behind option (drop place texts) ≡ None) × (take place texts ++ remove_pair option (drop place texts) ≡ texts)
  past [] zero all = (refl, refl)
  past [] (suc place) all = (refl, refl)
  past (word ∷ texts) zero all = absurd (omega (arith, all))
  past (word ∷ texts) (suc place) all = let more = past texts place (omega (arith, all)) in (more.0, ap (λ z. word ∷ z) more.1)

  pub looked_nowhere : (texts : List (List ℕ)) (place : ℕ) → IsLookedForFrom texts place → length texts ≤ place → (value_of option texts ≡ None) × (without_value option texts ≡ texts)
  looked_nowhere texts place so all = let end = past texts place all in (so.value ∙ end.0, so.left ∙ end.1)
