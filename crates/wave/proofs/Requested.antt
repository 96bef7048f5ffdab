-- What arguments ask for, by how many there are.
use Rattle.std.proofs.Common.{ℕ, ◌≡◌, ◌≤◌, ◌<◌, ◌∙◌, List, [], ◌∷◌, String, Global, Result, Ok, Err, IfErr, string_bytes, map, get_or, length, refl, inl, inr, sym, ap, subst, arith, codes}
use Rattle.wave.specs.declared.request.Request.TheVariants.{Value, Call, CallAt, Read}
use Rattle.wave_type.specs.FunctionType.{FunctionType}
use Rattle.wave.specs.Types.{NamesFunction}
use Rattle.wave.specs.Requests.{IsLimitWord, HaveType}
use Rattle.wave.specs.Private.Requests.{MakeNone}

-- the text of the only word
pub one_word : (words : List (String Global)) (word : String Global) (text : List ℕ) → 1 ≤ length words → length words < 2 → word ≡ get_or words 0 word → text ≡ string_bytes word → map string_bytes words ≡ text ∷ []
one_word [] word text least below is same = absurd (omega (arith, least))
one_word (first ∷ []) word text least below is same = ap (λ w. string_bytes w ∷ []) (sym is) ∙ ap (λ t. t ∷ []) (sym same)
one_word (first ∷ second ∷ more) word text least below is same = absurd (omega (arith, below))

-- the texts of two arguments
pub two_words : (words : List (String Global)) (x y : String Global) (s t : List ℕ) → 2 ≤ length words → length words < 3 → x ≡ get_or words 0 x → y ≡ get_or words 1 y → s ≡ string_bytes x → t ≡ string_bytes y → map string_bytes words ≡ s ∷ t ∷ []
two_words [] x y s t least below is_x is_y same_s same_t = absurd (omega (arith, least))
two_words (a ∷ []) x y s t least below is_x is_y same_s same_t = absurd (omega (arith, least))
two_words (a ∷ b ∷ []) x y s t least below is_x is_y same_s same_t = λ i. (ap string_bytes (sym is_x) ∙ sym same_s) i ∷ (ap string_bytes (sym is_y) ∙ sym same_t) i ∷ []
two_words (a ∷ b ∷ d ∷ more) x y s t least below is_x is_y same_s same_t = absurd (omega (arith, below))

-- the texts of three arguments
pub three_words : (words : List (String Global)) (x y z : String Global) (s t u : List ℕ) → 3 ≤ length words → length words < 4 → x ≡ get_or words 0 x → y ≡ get_or words 1 y → z ≡ get_or words 2 z → s ≡ string_bytes x → t ≡ string_bytes y → u ≡ string_bytes z → map string_bytes words ≡ s ∷ t ∷ u ∷ []
three_words [] x y z s t u least below is_x is_y is_z same_s same_t same_u = absurd (omega (arith, least))
three_words (a ∷ []) x y z s t u least below is_x is_y is_z same_s same_t same_u = absurd (omega (arith, least))
three_words (a ∷ b ∷ []) x y z s t u least below is_x is_y is_z same_s same_t same_u = absurd (omega (arith, least))
three_words (a ∷ b ∷ d ∷ []) x y z s t u least below is_x is_y is_z same_s same_t same_u =
    λ i. (ap string_bytes (sym is_x) ∙ sym same_s) i ∷ (ap string_bytes (sym is_y) ∙ sym same_t) i ∷ (ap string_bytes (sym is_z) ∙ sym same_u) i ∷ []
three_words (a ∷ b ∷ d ∷ e ∷ more) x y z s t u least below is_x is_y is_z same_s same_t same_u = absurd (omega (arith, below))

-- arguments that ask for a type, where there was no memory for it
pub asks_two : {X E : Type 0} (r : Result X E) (a b : List ℕ) → a ≡ codes "read" → IfErr r (λ e. HaveType (a ∷ b ∷ []))
asks_two (Ok x) a b is = tt
asks_two (Err e) a b is = inl (b, 100, inl (ap (λ z. z ∷ b ∷ []) is, refl))

-- the same with a limit
pub asks_three : {X E : Type 0} (r : Result X E) (a b d : List ℕ) (n : ℕ) → a ≡ codes "read" → IsLimitWord d n → IfErr r (λ e. HaveType (a ∷ b ∷ d ∷ []))
asks_three (Ok x) a b d n is limit = tt
asks_three (Err e) a b d n is limit = inl (b, n, inr (d, ap (λ z. z ∷ b ∷ d ∷ []) is, limit))

-- arguments that ask for the type of a function, where there was no memory for it
pub asks_call : {X E : Type 0} (r : Result X E) (a b : List ℕ) → a ≡ codes "call" → IfErr r (λ e. HaveType (a ∷ b ∷ []))
asks_call (Ok x) a b is = tt
asks_call (Err e) a b is = inr (b, ap (λ z. z ∷ b ∷ []) is)

first_is : (a b first : List ℕ) (more : List (List ℕ)) → a ∷ b ∷ [] ≡ first ∷ more → a ≡ first
first_is a b first more is = ap (λ words. get_or words 0 []) is

second_is : (a b first second : List ℕ) → a ∷ b ∷ [] ≡ first ∷ second ∷ [] → b ≡ second
second_is a b first second is = ap (λ words. get_or words 1 []) is

-- `call` with the text of no type of a function whose parameters have values
pub unknown_call : (a b : List ℕ) → a ≡ codes "call" → ((f : FunctionType) → NamesFunction b f → ⊥) → MakeNone (a ∷ b ∷ [])
unknown_call a b call none (Value n) (inl (is, hundred)) = absurd (omega (arith, ap length is))
unknown_call a b call none (Value n) (inr (l, is, limit)) = let wrong : 99 ≡ 118 = ap (λ t. get_or t 0 0) (sym call ∙ first_is a b (codes "value") (l ∷ []) is) in absurd (omega (arith, wrong))
unknown_call a b call none Call is = absurd (omega (arith, ap length is))
unknown_call a b call none (CallAt f) (w, is, names) = none f (subst (λ word. NamesFunction word f) (sym (second_is a b (codes "call") w is)) names)
unknown_call a b call none (Read T n) (w, inl (is, hundred), names) = let wrong : 99 ≡ 114 = ap (λ t. get_or t 0 0) (sym call ∙ first_is a b (codes "read") (w ∷ []) is) in absurd (omega (arith, wrong))
unknown_call a b call none (Read T n) (w, inr (l, is, limit), names) = absurd (omega (arith, ap length is))

-- no arguments
pub unknown_none : (words : List (String Global)) → length words < 1 → MakeNone (map string_bytes words)
unknown_none (w ∷ more) none request asked = absurd (omega (arith, none))
unknown_none [] none (Value n) (inl (is, hundred)) = absurd (omega (arith, ap length is))
unknown_none [] none (Value n) (inr (l, is, limit)) = absurd (omega (arith, ap length is))
unknown_none [] none Call is = absurd (omega (arith, ap length is))
unknown_none [] none (CallAt f) (w, is, names) = absurd (omega (arith, ap length is))
unknown_none [] none (Read T n) (w, inl (is, hundred), names) = absurd (omega (arith, ap length is))
unknown_none [] none (Read T n) (w, inr (l, is, limit), names) = absurd (omega (arith, ap length is))

-- more than three arguments
pub unknown_many : (words : List (String Global)) → 4 ≤ length words → MakeNone (map string_bytes words)
unknown_many [] many request asked = absurd (omega (arith, many))
unknown_many (a ∷ []) many request asked = absurd (omega (arith, many))
unknown_many (a ∷ b ∷ []) many request asked = absurd (omega (arith, many))
unknown_many (a ∷ b ∷ d ∷ []) many request asked = absurd (omega (arith, many))
unknown_many (a ∷ b ∷ d ∷ e ∷ more) many (Value n) (inl (is, hundred)) = absurd (omega (arith, ap length is))
unknown_many (a ∷ b ∷ d ∷ e ∷ more) many (Value n) (inr (l, is, limit)) = absurd (omega (arith, ap length is))
unknown_many (a ∷ b ∷ d ∷ e ∷ more) many Call is = absurd (omega (arith, ap length is))
unknown_many (a ∷ b ∷ d ∷ e ∷ more) many (CallAt f) (w, is, names) = absurd (omega (arith, ap length is))
unknown_many (a ∷ b ∷ d ∷ e ∷ more) many (Read T n) (w, inl (is, hundred), names) = absurd (omega (arith, ap length is))
unknown_many (a ∷ b ∷ d ∷ e ∷ more) many (Read T n) (w, inr (l, is, limit), names) = absurd (omega (arith, ap length is))
