-- What is left of arguments where an option is taken out of them.
use Rattle.std.proofs.Common.{ℕ, ◌≡◌, ◌∙◌, Bool, true, false, List, [], ◌∷◌, String, Global, string_bytes, map, refl, sym, ap, codes}
use Rattle.std.specs.Prelude.{if◌then◌else◌, ◌||◌}
use Rattle.std.specs.Str.{bytes_eq}
use Rattle.std.proofs.lemmas.Slice.Eq.{bytes_eq-Decides}
use Rattle.wave_files.specs.Options.{stands_among, remove_word, is_given, without}
use Rattle.wave.specs.Options.{is_quiet, plain}

-- another option is given as before
kept : (a b : List ℕ) → bytes_eq a b ≡ false → (texts : List (List ℕ)) → stands_among b (remove_word a texts) ≡ stands_among b texts
kept a b other [] = refl
kept a b other (word ∷ texts) = by (kept a b other texts) (bytes_eq word a) refl where
  by : stands_among b (remove_word a texts) ≡ stands_among b texts → (t : Bool) → bytes_eq word a ≡ t → stands_among b (if t then texts else word ∷ remove_word a texts) ≡ stands_among b (word ∷ texts)
  by more true is = sym (ap (λ z. z || stands_among b texts) (ap (λ z. bytes_eq z b) ((bytes_eq-Decides word a).0 is) ∙ other))
  by more false is = ap (λ z. bytes_eq word b || z) more

given_behind : (a b : List ℕ) → bytes_eq a b ≡ false → (texts : List (List ℕ)) → is_given b (without a texts) ≡ is_given b texts
given_behind a b other [] = refl
given_behind a b other (command ∷ texts) = kept a b other texts

module _ (words between last : List (String Global)) (first : map string_bytes between ≡ without (codes "--lines") (map string_bytes words)) (second : map string_bytes last ≡ without (codes "--quiet") (map string_bytes between)) where
  -- both options were taken out
  pub plain_so : map string_bytes last ≡ plain (map string_bytes words)
  plain_so = second ∙ ap (without (codes "--quiet")) first

  -- whether the second was given
  pub quiet_so : (test : Bool) → test ≡ is_given (codes "--quiet") (map string_bytes between) → test ≡ is_quiet (map string_bytes words)
  quiet_so test is = is ∙ (ap (is_given (codes "--quiet")) first ∙ given_behind (codes "--lines") (codes "--quiet") refl (map string_bytes words))
