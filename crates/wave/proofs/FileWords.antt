-- Which files words name.
use Rattle.std.proofs.Common.{◌+◌, Result, Ok, Err, IfOk, OnOk, Option, Some, ◌≤◌, ℕ, suc, ◌≡◌, ◌≢◌, ◌<◌, ◌∙◌, List, [], zero, ◌∷◌, ◌++◌, String, Global, string_bytes, map, take, drop, get_or, length, refl, sym, ap, subst, inl, inr, codes, arith}
use Rattle.std.proofs.Math.Seq.{take-suc}
use Rattle.std.specs.Prelude.{slice_get}
use Rattle.wave_commands.specs.Names.{IsNameOf}
use Rattle.wave_files.specs.declared.answers.FileName.{FileName}
use Rattle.wave_files.proofs.TakenOut.{text_at, length_texts}
use Rattle.wave.specs.declared.reading.Reading.{Reading}
use Rattle.wave.specs.FileArguments.{IsFileWord, AreNamed, AreNamedOrInput, AskToRead}
use Rattle.wave.specs.Private.Requests.{IsFit}
use Rattle.wave.proofs.Reported.{is_fit}

-- one word more names one file more
pub named_more : (words : List (List ℕ)) (names : List FileName) (word : List ℕ) (name : FileName) → AreNamed words names → IsFileWord word × IsNameOf word name
    → AreNamed (words ++ word ∷ []) (names ++ name ∷ [])
named_more [] [] word name named next = (next.0, next.1, tt)
named_more [] (n ∷ names) word name named next = absurd named
named_more (w ∷ words) [] word name named next = absurd named
named_more (w ∷ words) (n ∷ names) word name named next = (named.0, named.1, named_more words names word name named.2 next)

-- so of the words up to a place
pub named_next : (words : List (String Global)) (place : ℕ) (names : List FileName) (x : String Global) (word : List ℕ) (name : FileName)
    → AreNamed (take place (map string_bytes words)) names → place < length words → x ≡ get_or words place x → word ≡ string_bytes x
    → IsFileWord word × IsNameOf word name → AreNamed (take (place + 1) (map string_bytes words)) (names ++ name ∷ [])
named_next words place names x word name named less is same next =
    let texts = map string_bytes words in
    let grown = take-suc texts place [] (omega (arith, less, length_texts words)) ∙ ap (λ w. take place texts ++ w ∷ []) (text_at words place x word less is same) in
    let next_place : suc place ≡ place + 1 = omega arith in
    subst (λ n. AreNamed (take n texts) (names ++ name ∷ [])) next_place (subst (λ ws. AreNamed ws (names ++ name ∷ [])) (sym grown) (named_more (take place texts) names word name named next))

-- up to the last place these are all
pub named_all : (words : List (String Global)) (place : ℕ) (names : List FileName) → AreNamed (take place (map string_bytes words)) names → (place < length words → ⊥)
    → AreNamed (map string_bytes words) names
named_all words place names named past = subst (λ ws. AreNamed ws names) (whole words place past) named where
  whole : (words : List (String Global)) (place : ℕ) → (place < length words → ⊥) → take place (map string_bytes words) ≡ map string_bytes words
  whole [] zero past = refl
  whole [] (suc place) past = refl
  whole (w ∷ words) zero past = absurd (past (omega arith))
  whole (w ∷ words) (suc place) past = ap (λ ws. string_bytes w ∷ ws) (whole words place (λ less. past (omega (arith, less))))

-- files, or the standard input where no word is there
pub named_or_input : (words : List (List ℕ)) (names all : List FileName) → AreNamed words names → (names ≢ [] → all ≡ names)
    → (names ≡ [] → AreNamed (codes "-" ∷ []) all) → AreNamedOrInput words all
named_or_input [] [] all named some none = inr (refl, none refl)
named_or_input [] (n ∷ names) all named some none = absurd named
named_or_input (w ∷ words) [] all named some none = absurd named
named_or_input (w ∷ words) (n ∷ names) all named some none =
    inl ((λ is. absurd (omega (arith, ap length is))), subst (λ ns. AreNamed (w ∷ words) ns) (sym (some (λ is. absurd (omega (arith, ap length is))))) named)

-- the texts of the words before a place, and of those from there on
pub parted : (words : List (String Global)) (place : ℕ) → map string_bytes words ≡ map string_bytes (take place words) ++ map string_bytes (drop place words)
parted [] zero = refl
parted [] (suc place) = refl
parted (w ∷ words) zero = refl
parted (w ∷ words) (suc place) = ap (λ ws. string_bytes w ∷ ws) (parted words place)

-- the texts of the words from a place on
pub behind_is : (words : List (String Global)) (place : ℕ) → map string_bytes (drop place words) ≡ drop place (map string_bytes words)
behind_is [] zero = refl
behind_is [] (suc place) = refl
behind_is (w ∷ words) zero = refl
behind_is (w ∷ words) (suc place) = behind_is words place

pub from_there : (words rest : List (String Global)) (place : ℕ) → rest ≡ drop place words → map string_bytes rest ≡ drop place (map string_bytes words)
from_there words rest place is = ap (map string_bytes) is ∙ behind_is words place

-- none stands past the last
pub none_behind : (words : List (String Global)) (place : ℕ) → (place < length words → ⊥) → [] ≡ drop place (map string_bytes words)
none_behind [] zero past = refl
none_behind [] (suc place) past = refl
none_behind (w ∷ words) zero past = absurd (past (omega arith))
none_behind (w ∷ words) (suc place) past = none_behind words place (λ less. past (omega (arith, less)))

-- the first word
pub first_is : (words : List (String Global)) (x : String Global) (word command : List ℕ) → 1 ≤ length words → x ≡ get_or words 0 x → word ≡ string_bytes x → word ≡ command
    → (more : List (List ℕ)) × (map string_bytes words ≡ command ∷ more)
first_is [] x word command some is same equal = absurd (omega (arith, some))
first_is (w ∷ words) x word command some is same equal =
    (map string_bytes words, ap (λ t. t ∷ map string_bytes words) (ap string_bytes (sym is) ∙ (sym same ∙ equal)))

-- the word at place 1
pub second_is : (words : List (String Global)) (x : String Global) (word : List ℕ) → 1 < length words → x ≡ get_or words 1 x → word ≡ string_bytes x → slice_get (map string_bytes words) 1 ≡ Some word
second_is [] x word some is same = absurd (omega (arith, some))
second_is (v ∷ []) x word some is same = absurd (omega (arith, some))
second_is (v ∷ (w ∷ words)) x word some is same = ap Some (ap string_bytes (sym is) ∙ sym same)

-- words that name some file are some
pub some_named : (words : List (List ℕ)) (names : List FileName) → AreNamed words names → 0 < length names → words ≢ []
some_named [] [] named some = absurd (omega (arith, some))
some_named [] (n ∷ names) named some = absurd named
some_named (w ∷ words) names named some = λ is. absurd (omega (arith, ap length is))

-- what is so of an answer, where nothing else is reported
pub ok_with : {X E : Type 0} {P R : X → Type 0} {Q : Type 0} (r : Result X E) → ((x : X) → P x → Q → R x) → IfOk r P → OnOk r Q → IfOk r R
ok_with (Ok x) f p q = f x p q
ok_with (Err e) f p q = tt

-- the request of arguments is fit for a parser
pub reading_fits : (holds : List ℕ → Option (List ℕ)) (words : List (List ℕ)) (reading : Reading) (names : List FileName) → AskToRead holds words reading names → IsFit reading.request
reading_fits holds words reading names (typed, before, files, pretty, lines, is, parts, asked, named) = is_fit before reading.request asked
