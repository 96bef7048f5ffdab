-- Lower-case words behind hyphens lead a label back into such a word.
use Rattle.std.proofs.Common.{◌≡◌, ℕ, ◌≤◌, ◌<◌, ◌+◌, true, false, List, refl, sym, ap, subst, ◌∙◌, length, drop, arith, get_or, Some, length-drop, get_or-drop}
use Rattle.std.specs.Prelude.{◌≢◌, codes}
use Rattle.wave_lex.specs.Regex.{Regex}
use Rattle.wave_lex.specs.Derive.{derivative, derivative_by}
use Rattle.wave_lex.specs.LongestMatch.{Greatest, IsPrefixOf}
use Rattle.wave_lex.specs.Tokens.{label, label_or_keyword}
use Rattle.wave_lex.specs.Private.Reading.{LeadsTo, EndsWord}
use Rattle.wave_lex.specs.Machines.{rest, is_digit, is_lower}
use Rattle.wave_lex.specs.declared.machine.Start.TheVariants.{LowerWord}
use Rattle.wave_lex.proofs.Machines.Steps.{follows}
use Rattle.wave_lex.proofs.QuickScan.Prefixes.{first_byte, leads_on, run_leads, run_ends}
use Rattle.wave_lex.proofs.QuickScan.ByteRuns.{lower_ascii, lower_begins, lower_past, lower_stays, lowers_lead, label_dead, is_letter, letter_past}

-- what may follow in a lower-case word
abbrev in_word : Regex
in_word = rest LowerWord

-- what may follow a hyphen
abbrev behind_hyphen : Regex
behind_hyphen = derivative_by (codes "a-") label

-- a lower-case letter behind a hyphen begins a word
letter_first : (b : ℕ) → is_lower b ≡ true → is_digit b ≡ false → derivative b behind_hyphen ≡ in_word
letter_first b e f = follows is_letter behind_hyphen in_word refl refl letter_past b (lower_begins b e f)

-- a hyphen, a lower-case letter, and such letters and digits
word_leads : (b d : List ℕ) (n : ℕ) → d ≡ drop 1 b → 0 < length b → get_or b 0 0 ≡ 45 → is_digit (get_or b 1 0) ≡ false → 0 < n → n ≤ length d → ((i : ℕ) → i < n → is_lower (get_or d i 0) ≡ true)
    → LeadsTo in_word in_word b (n + 1)
word_leads b d n e some hyphen letter p fits h =
    let same : 1 + n ≡ n + 1 = omega arith in
    let first : get_or d 0 0 ≡ get_or b 1 0 = ap (λ (z : List ℕ). get_or z 0 0) e ∙ get_or-drop 1 b 0 0 in
    subst (λ (z : ℕ). LeadsTo in_word in_word b z) same
    (leads_on in_word behind_hyphen in_word b d 1 n e
    (first_byte in_word behind_hyphen 45 b b refl (omega arith) refl some hyphen)
    (run_leads behind_hyphen in_word d n p fits (λ i k. lower_ascii (get_or d i 0) (h i k)) (letter_first (get_or d 0 0) (h 0 p) (ap is_digit first ∙ letter)) (λ i k. lower_stays (get_or d i 0) (h i k))))

-- what the code counts as a word behind a hyphen
pub word_here : (s b d : List ℕ) (n : ℕ) → b ≡ s → d ≡ drop 1 b → 0 < length b → get_or b 0 0 ≡ 45 → is_digit (get_or b 1 0) ≡ false → 0 < n → n ≤ length d → ((i : ℕ) → i < n → is_lower (get_or d i 0) ≡ true)
    → (n < length d → is_lower (get_or d n 0) ≡ false) → EndsWord in_word s (n + 1)
word_here s b d n e f some hyphen letter p fits h stops =
    let long : length d ≡ length (drop 1 b) = ap length f in
    let next : 1 + n ≡ n + 1 = omega arith in
    let same : get_or d n 0 ≡ get_or b (n + 1) 0 = ap (λ (z : List ℕ). get_or z n 0) f ∙ (get_or-drop 1 b n 0 ∙ ap (λ (z : ℕ). get_or b z 0) next) in
    subst (λ (z : List ℕ). EndsWord in_word z (n + 1)) e (record {
      leads = word_leads b d n f some hyphen letter p fits h;
      stops = λ k. let inside : n < length d = omega (arith, length-drop 1 b) in sym (ap is_lower same) ∙ stops inside;
    })

-- the words go on
pub words_on : (s t : List ℕ) (p k : ℕ) → t ≡ drop p s → EndsWord label_or_keyword s p → EndsWord in_word t k → EndsWord label_or_keyword s (p + k)
words_on s t p k e h f =
    let long : length t ≡ length (drop p s) = ap length e in
    let same : get_or t k 0 ≡ get_or s (p + k) 0 = ap (λ (z : List ℕ). get_or z k 0) e ∙ get_or-drop p s k 0 in
    record {
      leads = leads_on label_or_keyword in_word in_word s t p k e h.leads f.leads;
      stops = λ l. let inside : k < length t = omega (arith, length-drop p s) in sym (ap is_lower same) ∙ f.stops inside;
    }

-- the first word
pub word_first : (s b : List ℕ) (n : ℕ) → b ≡ s → 0 < n → n ≤ length b → ((i : ℕ) → i < n → is_lower (get_or b i 0) ≡ true) → is_digit (get_or b 0 0) ≡ false → (n < length b → is_lower (get_or b n 0) ≡ false)
    → EndsWord label_or_keyword s n
word_first s b n e p fits h f stops = subst (λ (z : List ℕ). EndsWord label_or_keyword z n) e (record { leads = lowers_lead b b n refl p fits h f; stops = stops })

-- the words are the label, where no hyphen follows
pub words_are : (s b : List ℕ) (n : ℕ) → b ≡ s → EndsWord label_or_keyword s n → (n < length b → get_or b n 0 ≢ 45) → Greatest (IsPrefixOf label_or_keyword s) (Some n)
words_are s b n e h other =
    let same : get_or b n 0 ≡ get_or s n 0 = ap (λ (z : List ℕ). get_or z n 0) e in
    let long : length b ≡ length s = ap length e in
    run_ends label_or_keyword in_word s n h.leads refl
    (λ c k. label_dead c (lower_past c k) (λ w. let x : c ≡ 45 = w in omega arith))
    (λ k. label_dead (get_or s n 0) (h.stops k) (λ w. let inside : n < length b = omega arith in other inside (same ∙ w)))
