-- A comma and a number behind it are taken at once.
use Rattle.std.proofs.Common.{◌≡◌, ℕ, ◌<◌, ◌≢◌, get_or, nat_eq, true, false, List, ◌++◌, ◌+◌, sym, ap, subst, ◌∙◌, length, drop, arith, inl, inr, refl, Some}
use Rattle.std.specs.Prelude.{◌||◌, not, encode_utf8}
use Rattle.std.specs.Str.{IsUtf8, IsCharBoundary}
use Rattle.std.proofs.lemmas.Bool.{eqb-true, or_cases}
use Rattle.std.proofs.lemmas.List.{drop-drop}
use Rattle.std.proofs.lemmas.Str.{encode_ascii, IsUtf8-drop}
use Rattle.wave_lex.specs.declared.lex.Token.{Token}
use Rattle.wave_lex.specs.declared.lex.Token.TheVariants.{Comma, Number}
use Rattle.wave_lex.specs.LongestMatch.{Greatest, IsPrefixOf}
use Rattle.wave_lex.specs.Tokens.{shape, whitespace, number}
use Rattle.wave_lex.specs.NumbersInTurn.{TakesNumberInTurn}
use Rattle.wave_lex.specs.Tokenization.{Lexed, Stands, IsLongestToken, remainder_of}
use Rattle.wave_lex.specs.Classes.{class_of, ClassAt}
use Rattle.wave_lex.specs.Machines.{is_digit}
use Rattle.wave_lex.specs.Private.Machines.{begins_number}
use Rattle.wave_lex.specs.Private.Reading.{IsNumberBehindComma}
use Rattle.wave_lex.proofs.LongestPrefix.MachineWalks.{prefix_boundary}
use Rattle.wave_lex.proofs.RegularShapes.Comparisons.{each_below_at}
use Rattle.wave_lex.proofs.QuickScan.ByteRuns.{digit_ascii}
use Rattle.wave_lex.proofs.Tokenization.Classes.{class_here, not_quoted, shows, shows_true}
use Rattle.wave_lex.proofs.Tokenization.LexerSteps.{stands_behind, stands_next}
use Rattle.wave_lex.proofs.Tokenization.Marks.{first_then}

-- such a byte is ASCII
begin_ascii : (m : ℕ) → begins_number m ≡ true → m < 128
begin_ascii m e = elim (or_cases (nat_eq m 45) (is_digit m) e) as (λ _. m < 128) [ inl t ↦ let same = eqb-true m 45 t in omega arith | inr t ↦ digit_ascii m t ]

-- it shows a number, by computing
begin_class : (m : ℕ) → begins_number m ≡ true → Some Number ≡ class_of m
begin_class m e =
    elim (or_cases (not (begins_number m)) (shows (class_of m) Number) (each_below_at 128 m (λ (k : ℕ). not (begins_number k) || shows (class_of k) Number) refl (begin_ascii m e))) as (λ _. Some Number ≡ class_of m) [
      | inl t ↦ let wrong : false ≡ true = ap not (sym e) ∙ t in cc
      | inr t ↦ sym (shows_true _ _ t)
    ]

-- the longest number, where one may begin, is the longest token there
pub number_token : (s b : List ℕ) (k : ℕ) → b ≡ s → 0 < length b → begins_number (get_or b 0 0) ≡ true → Greatest (IsPrefixOf number s) (Some k) → IsLongestToken s k Number
number_token s b k e l begins longest =
    let m = get_or b 0 0 in
    let at : s ≡ encode_utf8 m ++ drop 1 s =
    subst (λ (z : List ℕ). z ≡ encode_utf8 m ++ drop 1 z) e (first_then b m l refl ∙ ap (λ (z : List ℕ). z ++ drop 1 b) (sym (encode_ascii m (begin_ascii m begins)))) in
    let unquoted : m ≢ 34 = λ q. let wrong : true ≡ false = sym begins ∙ ap begins_number q in cc in
    let there : ClassAt s (Some Number) = class_here s (drop 1 s) m (Some Number) at (not_quoted s (drop 1 s) m at unquoted) (begin_class m begins) in
    record { is = (longest.0, tt); longest = λ j d t. longest.1 j (subst (λ (z : Token). IsPrefixOf (shape z) s j) (there.0 j d t) t.0) }

-- and their span stands
pub stands_in_turn : (s r : List ℕ) (a e g k : ℕ) → r ≡ drop e s → IsUtf8 r → Stands s a e → IsNumberBehindComma r g k → Stands s (e + 1 + g) (e + 1 + g + k)
stands_in_turn s r a e g k d u h found =
    let comma : IsCharBoundary r 1 = prefix_boundary (shape Comma) r 1 u found.0.1.is.0 in
    let one : Stands s e (e + 1) = stands_behind s r a e 1 d h comma in
    let utf8 : IsUtf8 (drop 1 r) = IsUtf8-drop r 1 u comma in
    let behind : drop 1 r ≡ drop (e + 1) s = ap (drop 1) d ∙ drop-drop 1 e s in
    let blank : IsCharBoundary (drop 1 r) g = prefix_boundary whitespace (drop 1 r) g utf8 found.1.0 in
    let number : IsCharBoundary (drop g (drop 1 r)) k = prefix_boundary (shape Number) (drop g (drop 1 r)) k (IsUtf8-drop (drop 1 r) g utf8 blank) found.2.is.0 in
    stands_next s (drop 1 r) (drop g (drop 1 r)) e (e + 1) g k behind refl one blank number

-- what was found behind the lexer are the next two tokens
pub taken_in_turn : (l m : Lexed) (s : List ℕ) (g k : ℕ) → s ≡ remainder_of l → IsNumberBehindComma s g k → m.source ≡ l.source → m.start ≡ l.end + 1 + g → m.end ≡ l.end + 1 + g + k → TakesNumberInTurn l m
taken_in_turn l m s g k e found source start end =
    let r = remainder_of l in
    let here : IsNumberBehindComma r g k = subst (λ (z : List ℕ). IsNumberBehindComma z g k) e found in
    let behind : drop 1 r ≡ drop (l.end + 1) l.source = drop-drop 1 l.end l.source in (
      record { source = l.source; start = l.end; end = l.end + 1 },
      (0, 1, record { source = refl; skipped = here.0.0; start = omega arith; end = omega arith }, here.0.1),
      (
        g,
        k,
        record { source = source; skipped = subst (λ (z : List ℕ). Greatest (IsPrefixOf whitespace z) (Some g)) behind here.1; start = start; end = end },
        subst (λ (z : List ℕ). IsLongestToken (drop g z) k Number) behind here.2,
      ),
    )
