-- The classes that were tried so far, and their words.
use Rattle.std.proofs.Common.{ℕ, ◌≡◌, ◌<◌, ◌≤◌, ◌+◌, ◌++◌, Bool, true, false, List, [], ◌∷◌, length, take, get_or, refl, sym, ap, subst, ◌∙◌, map}
use Rattle.std.specs.Prelude.{if◌then◌else◌, cond}
use Rattle.std.specs.List.{filter}
use Rattle.std.specs.Borrow.{Bor}
use Rattle.std.proofs.lemmas.List.{append-nil, map-append, take_more, take_all}
use Rattle.std.proofs.lemmas.List.Elements.{filter_more}
use Rattle.wave_wasm.specs.Borrowed.{texts}
use Rattle.wave_type_explain.specs.declared.expected.Reading.{Reading}
use Rattle.wave_type_explain.specs.declared.expected.Class.{Class}
use Rattle.wave_type_explain.specs.Expected.{class_word, MayFollow, Tells, AreThose}

module _ (r : Reading) (before : List ℕ) where
  -- one class more
  those_more : (classes found : List Class) (c : Class) (may : Bool) → Tells may (λ n. MayFollow r n before c) → AreThose r before classes found
      → AreThose r before (classes ++ c ∷ []) (found ++ (if may then c ∷ [] else []))
  those_more [] found c may tells none = (may, [], tells, refl, ap (λ f. f ++ (if may then c ∷ [] else [])) none)
  those_more (d ∷ classes) found c may tells (true, more, told, those, is) =
      (true, more ++ (if may then c ∷ [] else []), told, those_more classes more c may tells those, ap (λ f. f ++ (if may then c ∷ [] else [])) is)
  those_more (d ∷ classes) found c may tells (false, more, told, those, is) =
      (false, more ++ (if may then c ∷ [] else []), told, those_more classes more c may tells those, ap (λ f. f ++ (if may then c ∷ [] else [])) is)

  pub class_tried : (all : List Class) (i : ℕ) (d : Class) (may : Bool) (old new : List Class) → i < length all → Tells may (λ n. MayFollow r n before (get_or all i d))
      → AreThose r before (take i all) old → new ≡ old ++ (if may then get_or all i d ∷ [] else []) → AreThose r before (take (i + 1) all) new
  class_tried all i d may old new lt tells those is =
      subst (λ cs. AreThose r before cs new) (sym (take_more all i d lt))
      (subst (AreThose r before (take i all ++ get_or all i d ∷ [])) (sym is) (those_more (take i all) old (get_or all i d) may tells those))

  -- all were tried
  pub all_tried : (all : List Class) (i : ℕ) (found : List Class) → length all ≤ i → AreThose r before (take i all) found → AreThose r before all found
  all_tried all i found le those = subst (λ cs. AreThose r before cs found) (take_all i all le) those

-- ---- words

module _ (test : Class → Bool) (classes : List Class) (i : ℕ) (d : Class) (lt : i < length classes) where
  -- the word of one more class
  pub word_added : (old new : List (Bor (List ℕ))) (word : Bor (List ℕ)) → test (get_or classes i d) ≡ true → word.now ≡ class_word (get_or classes i d) → new ≡ old ++ word ∷ []
      → texts old ≡ map class_word (filter test (take i classes)) → texts new ≡ map class_word (filter test (take (i + 1) classes))
  word_added old new word passes is push so_far =
      ap texts push
      ∙ (map-append (λ (n : Bor (List ℕ)). n.now) old (word ∷ [])
      ∙ (ap (λ ws. ws ++ word.now ∷ []) so_far
      ∙ (ap (λ w. map class_word (filter test (take i classes)) ++ w ∷ []) is
      ∙ (sym (map-append class_word (filter test (take i classes)) (get_or classes i d ∷ []))
      ∙ sym (ap (map class_word) (filter_more test classes i d lt ∙ ap (λ b. filter test (take i classes) ++ cond b (get_or classes i d ∷ []) []) passes))))))

  -- none of one that is left out
  pub word_left : (old : List (Bor (List ℕ))) → test (get_or classes i d) ≡ false
      → texts old ≡ map class_word (filter test (take i classes)) → texts old ≡ map class_word (filter test (take (i + 1) classes))
  word_left old left so_far =
      so_far ∙ sym (ap (map class_word) (filter_more test classes i d lt ∙ (ap (λ b. filter test (take i classes) ++ cond b (get_or classes i d ∷ []) []) left ∙ append-nil (filter test (take i classes)))))
