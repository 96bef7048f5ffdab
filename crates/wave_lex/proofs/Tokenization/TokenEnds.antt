-- Where the text of a token ends: what follows goes on with no longer text of its shape.
use Rattle.std.proofs.Common.{◌≡◌, ℕ, ◌≤◌, ◌<◌, Bool, true, false, nat_eq, nat_lt, zero, suc, List, [], ◌∷◌, ◌++◌, ◌⊎◌, inl, inr, Option, Some, None, refl, sym, ap, subst, ◌∙◌, length, take, drop, arith, append_assoc, length-append, length-take-le}
use Rattle.std.specs.Prelude.{◌&&◌, ◌||◌, not, encode_utf8, encode_utf8_all}
use Rattle.std.proofs.lemmas.Bool.{cases_lt, eqb-true, ltb-true, or_cases, and_parts}
use Rattle.std.proofs.lemmas.List.{take-append-drop}
use Rattle.std.proofs.lemmas.Str.{encode_same, encode_ascii, len_utf8_bounds, length-encode}
use Rattle.std.proofs.Math.Seq.{take-append_seam}
use Rattle.wave_lex.specs.declared.lex.Token.{Token}
use Rattle.wave_lex.specs.Regex.{Regex, nothing, Matches, is_one_of}
use Rattle.wave_lex.specs.Derive.{nullable, derivative, derivative_by}
use Rattle.wave_lex.specs.LongestMatch.{IsPrefixOf}
use Rattle.wave_lex.specs.Tokens.{shape, whitespace}
use Rattle.wave_lex.specs.Tokenization.{MayStandAt, IsToken, IsLongestToken, IsWhitespace}
use Rattle.wave_lex.specs.Classes.{class_of}
use Rattle.wave_lex.proofs.RegularShapes.Derivatives.{matches_from, matches_into, after_into, after_from, empty_into}
use Rattle.wave_lex.proofs.RegularShapes.Comparisons.{same, same_true, each_below_at, after_past}
use Rattle.wave_lex.proofs.LongestPrefix.ByComputing.{or_not}
use Rattle.wave_lex.proofs.LongestPrefix.MachineWalks.{after_all_append, after_all_nothing}
use Rattle.wave_lex.proofs.Machines.Steps.{is_in, each_in, passed_in, is_closed, text_leads}
use Rattle.wave_lex.proofs.Tokenization.Classes.{group, token_shows, shape_not_empty}
use Rattle.wave_lex.proofs.Tokenization.OneTokenization.{one_class}

-- ---- prefixes of one text

-- of two prefixes of a text the second is no longer, or goes on after the first
goes_on : (cs ds r t : List ℕ) → encode_utf8_all cs ++ r ≡ encode_utf8_all ds ++ t
    → (length (encode_utf8_all ds) ≤ length (encode_utf8_all cs)) ⊎ ((e : ℕ) × (es : List ℕ) × (ds ≡ cs ++ e ∷ es) × (r ≡ encode_utf8 e ++ (encode_utf8_all es ++ t)))
goes_on [] [] r t e = inl (omega arith)
goes_on [] (d ∷ ds) r t e = inr (d, ds, refl, e ∙ append_assoc (encode_utf8 d) (encode_utf8_all ds) t)
goes_on (c ∷ cs) [] r t e = inl (omega arith)
goes_on (c ∷ cs) (d ∷ ds) r t e =
    let s = encode_same c d (encode_utf8_all cs ++ r) (encode_utf8_all ds ++ t) (sym (append_assoc (encode_utf8 c) (encode_utf8_all cs) r) ∙ (e ∙ append_assoc (encode_utf8 d) (encode_utf8_all ds) t)) in
    elim (goes_on cs ds r t s.1) [
      | inl l ↦ inl (
          let one : length (encode_utf8 c) ≡ length (encode_utf8 d) = ap (λ (z : ℕ). length (encode_utf8 z)) s.0 in
          omega (arith, length-append (encode_utf8 c) (encode_utf8_all cs), length-append (encode_utf8 d) (encode_utf8_all ds))
          )
      | inr (x, xs, f, g) ↦ inr (x, xs, let same : c ≡ d = s.0 in cc, g)
    ]

-- no prefix goes on after a text with a scalar that may not follow it
pub stops_here : (p : Regex) (cs es : List ℕ) (e : ℕ) → derivative e (derivative_by cs p) ≡ nothing → Matches p (cs ++ e ∷ es) → {A : Type 0} → A
stops_here p cs es e n h =
    let dead : derivative_by (cs ++ e ∷ es) p ≡ nothing = after_all_append cs (e ∷ es) p ∙ (ap (derivative_by es) n ∙ after_all_nothing es) in
    let wrong : false ≡ true = sym (ap nullable dead) ∙ matches_into (cs ++ e ∷ es) p h in cc

-- no scalar that begins r may follow the text cs in the shape
abbrev pub EndsBefore : Regex → List ℕ → List ℕ → Type 0
EndsBefore p cs r = (e : ℕ) (rest : List ℕ) → r ≡ encode_utf8 e ++ rest → derivative e (derivative_by cs p) ≡ nothing

-- then no prefix of the shape is longer
pub no_longer : (p : Regex) (cs r : List ℕ) → EndsBefore p cs r → (j : ℕ) → IsPrefixOf p (encode_utf8_all cs ++ r) j → j ≤ length (encode_utf8_all cs)
no_longer p cs r ends j f =
    let size : length (encode_utf8_all f.scalars) ≡ j = ap length f.spelled ∙ length-take-le j (encode_utf8_all cs ++ r) f.fits in
    elim (goes_on cs f.scalars r (drop j (encode_utf8_all cs ++ r)) (sym (take-append-drop j (encode_utf8_all cs ++ r)) ∙ ap (λ (z : List ℕ). z ++ drop j (encode_utf8_all cs ++ r)) (sym f.spelled))) as (λ _. j ≤ length (encode_utf8_all cs)) [
      | inl l ↦ omega arith
      | inr (e, es, g, there) ↦ stops_here p cs es e (ends e _ there) (subst (λ (z : List ℕ). Matches p z) g f.has)
    ]

-- the text is a prefix
pub prefix_there : (p : Regex) (cs r : List ℕ) → Matches p cs → IsPrefixOf p (encode_utf8_all cs ++ r) (length (encode_utf8_all cs))
prefix_there p cs r h = record { scalars = cs; fits = omega (arith, length-append (encode_utf8_all cs) r); spelled = sym (take-append_seam (encode_utf8_all cs) r); has = h }

-- the text of a token is the longest token where nothing that follows goes on with it
pub token_there : (c : Token) (cs r : List ℕ) → Matches (shape c) cs → EndsBefore (shape c) cs r → MayStandAt (encode_utf8_all cs ++ r) (length (encode_utf8_all cs)) c
    → IsLongestToken (encode_utf8_all cs ++ r) (length (encode_utf8_all cs)) c
token_there c cs r h ends may =
    let is : IsToken (encode_utf8_all cs ++ r) (length (encode_utf8_all cs)) c = (prefix_there (shape c) cs r h, may) in
    record {
      is = is;
      longest = λ j d t.
          let class : d ≡ c = one_class (encode_utf8_all cs ++ r) j (length (encode_utf8_all cs)) d c t is in
          no_longer (shape c) cs r ends j (subst (λ (z : Token). IsPrefixOf (shape z) (encode_utf8_all cs ++ r) j) class t.0);
    }

-- ---- whitespace

-- where a scalar that begins no whitespace stands, the whitespace is empty
pub no_whitespace : (c : ℕ) (s rest : List ℕ) → s ≡ encode_utf8 c ++ rest → derivative c whitespace ≡ nothing → IsWhitespace s 0
no_whitespace c s rest b n = (
  record { scalars = []; fits = omega arith; spelled = refl; has = matches_from [] whitespace refl },
  no_longer whitespace [] s (λ e more there. ap (λ (z : ℕ). derivative z whitespace) (encode_same e c more rest (sym there ∙ b)).0 ∙ n),
)

abbrev is_none : Option Token → Bool
is_none None = true
is_none (Some c) = false

-- a scalar that begins a token begins no whitespace
token_no_whitespace : (x : ℕ) (c : Token) → class_of x ≡ Some c → derivative x whitespace ≡ nothing
token_no_whitespace x c e =
    elim (cases_lt x 129) as (λ _. derivative x whitespace ≡ nothing) [
      | inl l ↦ elim (or_cases (same (derivative x whitespace) nothing) (is_none (class_of x)) (each_below_at 129 x (λ z. same (derivative z whitespace) nothing || is_none (class_of z)) refl l)) as (λ _. derivative x whitespace ≡ nothing) [
        | inl f ↦ same_true _ _ f
        | inr f ↦ let wrong : false ≡ true = sym (ap is_none e) ∙ f in cc
      ]
      | inr l ↦ let m : 128 ≤ x = omega arith in
          let n : 128 ≤ 128 = omega arith in
          after_past whitespace x 128 refl m n ∙ same_true _ _ refl
    ]

-- before a token that stands there the whitespace is empty
pub whitespace_before : (c : Token) (cs r : List ℕ) → IsToken (encode_utf8_all cs ++ r) (length (encode_utf8_all cs)) c → Matches (shape c) cs → IsWhitespace (encode_utf8_all cs ++ r) 0
whitespace_before c [] r t h = let wrong : false ≡ true = sym (shape_not_empty c) ∙ empty_into (shape c) h in cc
whitespace_before c (x ∷ cs) r t h =
    let begins = append_assoc (encode_utf8 x) (encode_utf8_all cs) r in
    no_whitespace x _ (encode_utf8_all cs ++ r) begins (token_no_whitespace x (group c) (token_shows _ (encode_utf8_all cs ++ r) (length (encode_utf8_all (x ∷ cs))) x c begins t))

-- a prefix of whitespace after a space is a prefix of the whitespace, and one byte
behind_space : (s : List ℕ) (j : ℕ) (ds : List ℕ) → encode_utf8_all ds ≡ 32 ∷ take j s → Matches whitespace ds → (es : List ℕ) × (encode_utf8_all es ≡ take j s) × Matches whitespace es
behind_space s j [] e h = cc
behind_space s j (d ∷ ds) e h =
    let w = encode_same d 32 (encode_utf8_all ds) (take j s) (e ∙ ap (λ (z : List ℕ). z ++ take j s) (sym (encode_ascii 32 (ltb-true 32 128 refl)))) in
    (ds, w.1, after_into 32 whitespace ds (subst (λ (z : ℕ). Matches whitespace (z ∷ ds)) w.0 h))

-- a space before whitespace
pub space_whitespace : (s : List ℕ) (g : ℕ) → IsWhitespace s g → IsWhitespace (32 ∷ s) (suc g)
space_whitespace s g (f, most) = (
  record {
    scalars = 32 ∷ f.scalars;
    fits = let l : g ≤ length s = f.fits in omega arith;
    spelled = ap (λ (z : List ℕ). z ++ encode_utf8_all f.scalars) (encode_ascii 32 (ltb-true 32 128 refl)) ∙ ap (λ (z : List ℕ). 32 ∷ z) f.spelled;
    has = after_from 32 whitespace f.scalars f.has;
  },
  longest,
)
  where
    longest : (j : ℕ) → IsPrefixOf whitespace (32 ∷ s) j → j ≤ suc g
    longest zero h = omega arith
    longest (suc j) h =
        let (es, e, k) = behind_space s j h.scalars h.spelled h.has in
        let l : suc j ≤ suc (length s) = h.fits in
        let m : j ≤ g = most j (record { scalars = es; fits = omega arith; spelled = e; has = k }) in
        omega arith

-- ---- marks that may follow

-- each of the bytes passes the test
abbrev all_pass : (ℕ → Bool) → List ℕ → Bool
all_pass p [] = true
all_pass p (b ∷ bs) = p b && all_pass p bs

pub passes : (p : ℕ → Bool) (bs : List ℕ) (b : ℕ) → all_pass p bs ≡ true → is_one_of b bs ≡ true → p b ≡ true
passes p [] b h e = cc
passes p (d ∷ ds) b h e =
    let k : (p d ≡ true) × (all_pass p ds ≡ true) = and_parts _ _ h in
    elim (or_cases (nat_eq b d) (is_one_of b ds) e) as (λ _. p b ≡ true) [
      | inl f ↦ let same : b ≡ d = eqb-true b d f in subst (λ (z : ℕ). p z ≡ true) (sym same) k.0
      | inr f ↦ passes p ds b k.1 f
    ]

-- the text is empty, or begins with one of the marks
abbrev pub StopsBy : List ℕ → List ℕ → Type 0
StopsBy marks [] = Unit {0}
StopsBy marks (b ∷ r) = is_one_of b marks ≡ true

-- none of the marks begins a text of the shape
abbrev pub NoMarkOf : List ℕ → Regex → Type 0
NoMarkOf marks p = (b : ℕ) → is_one_of b marks ≡ true → derivative b p ≡ nothing

-- the same by computing
abbrev pub no_mark : List ℕ → Regex → Bool
no_mark marks p = all_pass (λ b. same (derivative b p) nothing) marks

-- a text ends before marks that may not follow it
pub ends_before : (marks : List ℕ) → all_pass (λ b. nat_lt b 128) marks ≡ true → (p : Regex) (cs r : List ℕ) → NoMarkOf marks (derivative_by cs p) → StopsBy marks r → EndsBefore p cs r
ends_before marks small p cs [] none s e rest there =
    let n : 0 ≡ length (encode_utf8 e ++ rest) = ap length there in
    absurd (omega (arith, length-append (encode_utf8 e) rest, length-encode e, len_utf8_bounds e))
ends_before marks small p cs (b ∷ r) none s e rest there =
    let ascii : b < 128 = ltb-true b 128 (passes (λ z. nat_lt z 128) marks b small s) in
    let w = encode_same b e r rest (ap (λ (z : List ℕ). z ++ r) (encode_ascii b ascii) ∙ there) in
    subst (λ (z : ℕ). derivative z (derivative_by cs p) ≡ nothing) w.0 (none b s)

-- ---- shapes that lead to each other alone

-- what may follow in the shape after each of the texts, where there are no others
pub reached : (shape : Regex) (qs : List Regex) → is_closed qs ≡ true → is_in shape qs ≡ true → (p : Regex → Bool) → each_in p qs ≡ true → (cs : List ℕ) → p (derivative_by cs shape) ≡ true
reached shape qs closed i p e cs = passed_in p qs (derivative_by cs shape) e (text_leads qs closed cs shape i)

-- no mark begins a text of the shape where it has the empty text
abbrev pub ends_without : List ℕ → Regex → Bool
ends_without marks r = no_mark marks r || not (nullable r)

-- marks that follow no shape that has the empty text follow no text of the shape
pub none_follows : (shape : Regex) (qs : List Regex) → is_closed qs ≡ true → is_in shape qs ≡ true → (marks : List ℕ) → each_in (ends_without marks) qs ≡ true → (cs : List ℕ) → Matches shape cs → NoMarkOf marks (derivative_by cs shape)
none_follows shape qs closed i marks e cs h b s =
    let r = derivative_by cs shape in
    let none : no_mark marks r ≡ true = or_not (no_mark marks r) (nullable r) (reached shape qs closed i (ends_without marks) e cs) (matches_into cs shape h) in
    same_true _ _ (passes (λ z. same (derivative z r) nothing) marks b none s)
