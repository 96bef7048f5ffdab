-- Plain bytes and escapes lead a string back to where it stood.
use Rattle.std.proofs.Common.{◌≡◌, ℕ, ◌≤◌, ◌<◌, ◌+◌, Bool, true, false, zero, suc, List, [], ◌∷◌, ◌++◌, refl, sym, ap, subst, ◌∙◌, length, take, drop, arith, get_or, is_some, Option, Some, None, length-append, length-drop, length-take-le, get_or-drop}
use Rattle.std.specs.Prelude.{◌||◌, not, nat_lt, codes}
use Rattle.std.specs.Char.{digit_value}
use Rattle.std.specs.Str.{IsUtf8}
use Rattle.std.specs.Str.Parse.{AllDigits}
use Rattle.std.proofs.lemmas.Bool.Decides.{nat_tests}
use Rattle.std.proofs.Math.Seq.{take-append_seam}
use Rattle.wave_wasm.specs.ByteRuns.{IsRunOf}
use Rattle.wave_lex.specs.Regex.{Regex, empty}
use Rattle.wave_lex.specs.Derive.{derivative, derivative_by}
use Rattle.wave_lex.specs.LongestMatch.{Greatest, IsPrefixOf}
use Rattle.wave_lex.specs.Strings.{short_escape}
use Rattle.wave_lex.specs.Tokens.{string}
use Rattle.wave_lex.specs.Private.Reading.{LeadsTo}
use Rattle.wave_lex.specs.Machines.{rest, is_hexadecimal}
use Rattle.wave_lex.specs.Private.Machines.{is_plain}
use Rattle.wave_lex.specs.declared.machine.Start.TheVariants.{InString}
use Rattle.wave_lex.proofs.RegularShapes.Comparisons.{each_below, each_below_at}
use Rattle.wave_lex.proofs.LongestPrefix.ByComputing.{is_ascii, ascii_spelled, or_not}
use Rattle.wave_lex.proofs.LongestPrefix.MachineWalks.{after_all_append}
use Rattle.wave_lex.proofs.Machines.Steps.{follows}
use Rattle.wave_lex.proofs.StringDecoding.Parts.{AllAscii, ascii_append, digit_ascii, digits_ascii, short_ascii}
use Rattle.wave_lex.proofs.StringDecoding.EscapesFound.{all_digits, closed_at}
use Rattle.wave_lex.proofs.QuickScan.Prefixes.{cut_here, first_byte, leads_on, run_ends}
use Rattle.wave_lex.proofs.QuickScan.ByteRuns.{run_kept, plain_kept, not_plain_ascii}

-- ---- escapes

abbrev hex_right : ℕ → Bool
hex_right c = is_hexadecimal c || not (nat_lt (digit_value c) 16)

hex_computed : each_below 128 hex_right ≡ true
hex_computed = refl

-- a digit below 16 is hexadecimal
hex_of_digit : (d : ℕ) → digit_value d < 16 → is_hexadecimal d ≡ true
hex_of_digit d l =
    let small : nat_lt (digit_value d) 16 ≡ true = grind (arith, nat_tests) in
    or_not (is_hexadecimal d) (nat_lt (digit_value d) 16) (each_below_at 128 d hex_right hex_computed (digit_ascii d l)) small

hexadecimal_past : (c : ℕ) → 128 ≤ c → is_hexadecimal c ≡ false
hexadecimal_past c l = grind (arith, nat_tests)

-- what may follow n digits of an escape
abbrev behind_digits : ℕ → Regex
behind_digits zero = derivative_by (codes "\"\\u{") string
behind_digits (suc zero) = derivative_by (codes "\"\\u{0") string
behind_digits (suc (suc zero)) = derivative_by (codes "\"\\u{00") string
behind_digits (suc (suc (suc zero))) = derivative_by (codes "\"\\u{000") string
behind_digits (suc (suc (suc (suc zero)))) = derivative_by (codes "\"\\u{0000") string
behind_digits (suc (suc (suc (suc (suc zero))))) = derivative_by (codes "\"\\u{00000") string
behind_digits (suc (suc (suc (suc (suc (suc n)))))) = derivative_by (codes "\"\\u{000000") string

-- one digit more
digit_goes : (k d : ℕ) → k < 6 → is_hexadecimal d ≡ true → derivative d (behind_digits k) ≡ behind_digits (suc k)
digit_goes zero d l e = follows is_hexadecimal (behind_digits 0) (behind_digits 1) refl refl hexadecimal_past d e
digit_goes (suc zero) d l e = follows is_hexadecimal (behind_digits 1) (behind_digits 2) refl refl hexadecimal_past d e
digit_goes (suc (suc zero)) d l e = follows is_hexadecimal (behind_digits 2) (behind_digits 3) refl refl hexadecimal_past d e
digit_goes (suc (suc (suc zero))) d l e = follows is_hexadecimal (behind_digits 3) (behind_digits 4) refl refl hexadecimal_past d e
digit_goes (suc (suc (suc (suc zero)))) d l e = follows is_hexadecimal (behind_digits 4) (behind_digits 5) refl refl hexadecimal_past d e
digit_goes (suc (suc (suc (suc (suc zero))))) d l e = follows is_hexadecimal (behind_digits 5) (behind_digits 6) refl refl hexadecimal_past d e
digit_goes (suc (suc (suc (suc (suc (suc k)))))) d l e = let w : ⊥ = omega arith in absurd w

-- the digits of an escape
digits_go : (ds : List ℕ) (k : ℕ) → k + length ds ≤ 6 → AllDigits 16 ds → derivative_by ds (behind_digits k) ≡ behind_digits (k + length ds)
digits_go [] k l a = let same : k ≡ k + 0 = omega arith in ap behind_digits same
digits_go (d ∷ ds) k l a =
    let next : suc k + length ds ≡ k + length (d ∷ ds) = omega arith in
    ap (λ (z : Regex). derivative_by ds z) (digit_goes k d (omega arith) (hex_of_digit d a.0))
    ∙ (digits_go ds (suc k) (omega arith) a.1 ∙ ap behind_digits next)

-- the last brace of an escape
closes : (n : ℕ) → 1 ≤ n → n ≤ 6 → derivative 125 (behind_digits n) ≡ rest InString
closes zero l m = let w : ⊥ = omega arith in absurd w
closes (suc zero) l m = refl
closes (suc (suc zero)) l m = refl
closes (suc (suc (suc zero))) l m = refl
closes (suc (suc (suc (suc zero)))) l m = refl
closes (suc (suc (suc (suc (suc zero))))) l m = refl
closes (suc (suc (suc (suc (suc (suc n)))))) l m = refl

-- the byte ends a short escape
abbrev ends_short : ℕ → Bool
ends_short b = is_some (short_escape b)

short_past : (c : ℕ) → 128 ≤ c → short_escape c ≡ short_escape 128
short_past c l = grind (arith, nat_tests)

-- a short escape leads back to where it began
short_stays : (b c : ℕ) → short_escape b ≡ Some c → derivative_by (92 ∷ b ∷ []) (rest InString) ≡ rest InString
short_stays b c e = follows ends_short (derivative 92 (rest InString)) (rest InString) refl refl (λ d l. ap is_some (short_past d l)) b (ap is_some e)

-- a long escape leads back to where it began
long_stays : (ds : List ℕ) → 1 ≤ length ds → length ds ≤ 6 → AllDigits 16 ds → derivative_by (92 ∷ 117 ∷ 123 ∷ (ds ++ 125 ∷ [])) (rest InString) ≡ rest InString
long_stays ds l m a =
    let few : 0 + length ds ≤ 6 = omega arith in
    let none : 0 + length ds ≡ length ds = omega arith in
    after_all_append ds (125 ∷ []) (behind_digits 0)
    ∙ (ap (λ (z : Regex). derivative 125 z) (digits_go ds 0 few a ∙ ap behind_digits none) ∙ closes (length ds) l m)

all_is : (e : List ℕ) → AllAscii e → is_ascii e ≡ true
all_is [] a = refl
all_is (b ∷ e) a =
    let small : nat_lt b 128 ≡ true = let l : b < 128 = a.0 in grind (arith, nat_tests) in
    rw (small, all_is e a.1) refl

-- bytes of ASCII at the start that lead back to where they began
stays_here : (s e t : List ℕ) (k : ℕ) → AllAscii e → derivative_by e (rest InString) ≡ rest InString → s ≡ e ++ t → k ≡ length e
    → LeadsTo (rest InString) (rest InString) s k
stays_here s e t k a h w l =
    let cut : take k s ≡ e = ap (λ (z : ℕ). take z s) l ∙ (ap (λ (z : List ℕ). take (length e) z) w ∙ take-append_seam e t) in
    let long : length s ≡ length e + length t = ap length w ∙ length-append e t in
    record { scalars = e; fits = omega arith; spelled = ascii_spelled e (all_is e a) ∙ sym cut; has = h }

-- a short escape at the start
short_leads : (s : List ℕ) (c : ℕ) → 2 ≤ length s → get_or s 0 0 ≡ 92 → short_escape (get_or s 1 0) ≡ Some c → LeadsTo (rest InString) (rest InString) s 2
short_leads [] c l a b = let w : ⊥ = omega arith in absurd w
short_leads (x ∷ []) c l a b = let w : ⊥ = omega arith in absurd w
short_leads (x ∷ y ∷ s) c l a b =
    let f : 92 < 128 = omega arith in
    stays_here (x ∷ y ∷ s) (92 ∷ y ∷ []) s 2 (f, (short_ascii y c b, tt)) (short_stays y c b) (ap (λ (z : ℕ). z ∷ y ∷ s) a) refl

-- the same, where the scalar is known to be there
pub some_leads : (s : List ℕ) (o : Option ℕ) → 2 ≤ length s → get_or s 0 0 ≡ 92 → short_escape (get_or s 1 0) ≡ o → is_some o ≡ true → LeadsTo (rest InString) (rest InString) s 2
some_leads s (Some c) l f e is = short_leads s c l f e
some_leads s None l f e is = cc

-- a long escape at the start
pub long_leads : (s d : List ℕ) (n : ℕ) → s ≡ 92 ∷ 117 ∷ 123 ∷ d → 1 ≤ n → n ≤ 6 → n < length d → ((i : ℕ) → i < n → digit_value (get_or d i 0) < 16) → get_or d n 0 ≡ 125
    → LeadsTo (rest InString) (rest InString) s (n + 4)
long_leads s d n w some few within digits closed =
    let f : 92 < 128 = omega arith in
    let g : 117 < 128 = omega arith in
    let h : 123 < 128 = omega arith in
    let k : 125 < 128 = omega arith in
    let cut : length (take n d) ≡ n = length-take-le n d (omega arith) in
    let a : AllDigits 16 (take n d) = all_digits d n (omega arith) digits in
    stays_here s (92 ∷ 117 ∷ 123 ∷ (take n d ++ 125 ∷ [])) (drop (suc n) d) (n + 4) (f, (g, (h, ascii_append (take n d) (125 ∷ []) (digits_ascii (take n d) a) (k, tt))))
    (long_stays (take n d) (omega arith) (omega arith) a) (w ∙ ap (λ (z : List ℕ). 92 ∷ 117 ∷ 123 ∷ z) (closed_at d n within closed)) (omega (arith, length-append (take n d) (125 ∷ [])))

-- ---- plain bytes

-- what the code counts as plain
pub plains_here : (s b : List ℕ) (n : ℕ) → b ≡ s → IsUtf8 s → IsRunOf is_plain b n → LeadsTo (rest InString) (rest InString) s n
plains_here s b n e u run = subst (λ (z : List ℕ). LeadsTo (rest InString) (rest InString) z n) e
    (run_kept is_plain (rest InString) b n plain_kept (subst IsUtf8 (sym e) u) run.within run.all (cut_here b n run.within (λ l. not_plain_ascii (get_or b n 0) (run.stops l))))

-- a quote leads into a string
pub quote_leads : (s b : List ℕ) → b ≡ s → 0 < length b → get_or b 0 0 ≡ 34 → LeadsTo string (rest InString) s 1
quote_leads s b e l q = first_byte string (rest InString) 34 s b e (omega arith) refl l q

-- a quote and plain bytes lead into a string
pub plains_lead : (s b t p : List ℕ) (n : ℕ) → b ≡ s → 0 < length b → get_or b 0 0 ≡ 34 → t ≡ drop 1 s → IsUtf8 t → p ≡ t → IsRunOf is_plain p n → LeadsTo string (rest InString) s (n + 1)
plains_lead s b t p n e l q f u g run =
    let same : 1 + n ≡ n + 1 = omega arith in
    subst (λ (z : ℕ). LeadsTo string (rest InString) s z) same
    (leads_on string (rest InString) (rest InString) s t 1 n f (quote_leads s b e l q) (plains_here t p n g u run))

-- a quote after the inside of a string closes it
pub string_closes : (s b : List ℕ) (n : ℕ) → b ≡ s → LeadsTo string (rest InString) s n → n < length b → get_or b n 0 ≡ 34 → Greatest (IsPrefixOf string s) (Some (n + 1))
string_closes s b n e h l q =
    let long : length b ≡ length s = ap length e in
    let some : 0 < length (drop n s) = omega (arith, length-drop n s) in
    let none : n + 0 ≡ n = omega arith in
    let there : get_or (drop n s) 0 0 ≡ 34 = get_or-drop n s 0 0 ∙ (ap (λ (z : ℕ). get_or s z 0) none ∙ (ap (λ (z : List ℕ). get_or z n 0) (sym e) ∙ q)) in
    run_ends string empty s (n + 1)
    (leads_on string (rest InString) empty s (drop n s) n 1 refl h (first_byte (rest InString) empty 34 (drop n s) (drop n s) refl (omega arith) refl some there))
    refl (λ c _. refl) (λ _. refl)
