-- A part of one token that is read is the part that was written, and what was written is read again.
use Rattle.std.proofs.Common.{◌≡◌, ◌%◌, ℕ, zero, suc, ◌+◌, ◌^◌, ◌<◌, ◌≤◌, Bool, true, false, cond, ltb, List, [], ◌∷◌, ◌++◌, length, get_or, take, drop, Result, Ok, Err, refl, sym, ap, subst, ◌∙◌, append_assoc, arith, inl, inr}
use Rattle.std.specs.Int.{Width, w8, w16, w32, w64, byte_len, from_le_bytes, to_le_bytes, from_bool}
use Rattle.std.specs.Str.{IsUtf8, is_utf8}
use Rattle.std.proofs.lemmas.Str.{is_utf8-from_IsUtf8, IsUtf8-from_is_utf8}
use Rattle.std.specs.Char.{IsScalar}
use lib.Utf8.{scalar}
use Rattle.std.proofs.lemmas.Bool.{cases_lt, ltb-false, le-ltb}
use Rattle.std.proofs.lemmas.List.{take_at, drop_at, take-append-drop, length-append, length-take, get_or-drop, get_or-take, get_or_past}
use Rattle.std.proofs.lemmas.Nat.{le_bytes_2, le_bytes_4, le_bytes_8, from_le_bytes-to_le_bytes_2, from_le_bytes-to_le_bytes_4, from_le_bytes-to_le_bytes_8}
use Rattle.wave_tape.specs.declared.error.TapeErrorKind.TheVariants as kinds
use Rattle.wave_tape.specs.Tape.{text_bytes}
use Rattle.wave_tape.specs.Reading.{Fault, fault, ◌>>=◌, number_at, choice_at, zero_at, name_at, text_at, char_at}

abbrev pub IsBytes : List ℕ → Type 0
IsBytes bytes = (i : ℕ) → get_or bytes i 0 < 256

pub IsBytes-drop : (n : ℕ) (bytes : List ℕ) → IsBytes bytes → IsBytes (drop n bytes)
IsBytes-drop n bytes h i = rw get_or-drop (h (n + i))

IsBytes-take : (n : ℕ) (bytes : List ℕ) → IsBytes bytes → IsBytes (take n bytes)
IsBytes-take n bytes h i =
    elim (cases_lt i n) [
      | inl lt ↦ rw (get_or-take n bytes i 0 lt) (h i)
      | inr le ↦ rw (get_or_past (take n bytes) i 0 (omega (arith, length-take n bytes))) (omega arith)
    ]

pub IsBytes-rest : (b : ℕ) (bytes : List ℕ) → IsBytes (b ∷ bytes) → IsBytes bytes
IsBytes-rest b bytes h i = h (suc i)

-- the value of a step that did not fail
pub bind_ok : {A B : Type 0} (r : Result A Fault) (f : A → Result B Fault) (y : B) → (r >>= f) ≡ Ok y → (x : A) × (r ≡ Ok x) × (f x ≡ Ok y)
bind_ok (Ok x) f y e = (x, refl, e)
bind_ok (Err d) f y e = absurd cc

-- a test that did not fail
pub guard_ok : {A : Type 0} (b : Bool) (d : Fault) (x y : A) → cond b (Err d) (Ok x) ≡ Ok y → (b ≡ false) × (x ≡ y)
guard_ok true d x y e = absurd cc
guard_ok false d x y e = (refl, cc)

-- a test that passed
pub passed_ok : {A : Type 0} (b : Bool) (d : Fault) (x y : A) → cond b (Ok x) (Err d) ≡ Ok y → (b ≡ true) × (x ≡ y)
passed_ok true d x y e = (refl, cc)
passed_ok false d x y e = absurd cc

abbrev pub done : {A : Type 0} → A → Result A Fault
done x = Ok x

pub ok_is : {A : Type 0} (x y : A) → done x ≡ done y → x ≡ y
ok_is x y e = cc

-- what a reader took from the front
pub record Takes (bytes text rest : List ℕ) : Type 0 where
  pub parts : bytes ≡ text ++ rest
  pub rest_fits : IsBytes rest

pub Takes-then : (a x b y c : List ℕ) → Takes a x b → Takes b y c → Takes a (x ++ y) c
Takes-then a x b y c p q = record { parts = p.parts ∙ ap (λ (t : List ℕ). x ++ t) q.parts ∙ sym (append_assoc x y c); rest_fits = q.rest_fits }

-- ---- numbers

pub record IsWide (w : Width) (limit : ℕ) : Type 0 where
  pub len : (n : ℕ) → length (to_le_bytes w n) ≡ byte_len w
  pub back : (bytes : List ℕ) → length bytes ≡ byte_len w → IsBytes bytes → to_le_bytes w (from_le_bytes w bytes) ≡ bytes
  pub again : (n : ℕ) → n < limit → from_le_bytes w (to_le_bytes w n) ≡ n
  pub below : (bytes : List ℕ) → IsBytes bytes → from_le_bytes w bytes < limit

back8 : (bytes : List ℕ) → length bytes ≡ 1 → IsBytes bytes → to_le_bytes w8 (from_le_bytes w8 bytes) ≡ bytes
back8 [] len fits = absurd (omega (arith, len))
back8 (b ∷ []) len fits = let lt : b < 256 = fits 0 in let e : b % 256 ≡ b = omega (arith, lt) in ap (λ (x : ℕ). x ∷ []) e
back8 (b ∷ c ∷ bytes) len fits = absurd (omega (arith, len))

pub wide8 : IsWide w8 (2 ^ 8)
wide8 = record {
  len = λ n. refl;
  back = back8;
  again = λ n lt. omega (arith, lt);
  below = λ bytes fits. omega (arith, fits 0);
}

pub wide16 : IsWide w16 (2 ^ 16)
wide16 = record {
  len = λ n. refl;
  back = λ bytes len fits. le_bytes_2 bytes _ len fits refl;
  again = λ n lt. from_le_bytes-to_le_bytes_2 n lt;
  below = λ bytes fits. omega (arith, fits 0, fits 1);
}

pub wide32 : IsWide w32 (2 ^ 32)
wide32 = record {
  len = λ n. refl;
  back = λ bytes len fits. le_bytes_4 bytes _ len fits refl;
  again = λ n lt. from_le_bytes-to_le_bytes_4 n lt;
  below = λ bytes fits. omega (arith, fits 0, fits 1, fits 2, fits 3);
}

pub wide64 : IsWide w64 (2 ^ 64)
wide64 = record {
  len = λ n. refl;
  back = λ bytes len fits. le_bytes_8 bytes _ len fits refl;
  again = λ n lt. from_le_bytes-to_le_bytes_8 n lt;
  below = λ bytes fits. omega (arith, fits 0, fits 1, fits 2, fits 3, fits 4, fits 5, fits 6, fits 7);
}

pub number_takes : (w : Width) (limit : ℕ) (wide : IsWide w limit) (bytes : List ℕ) (n : ℕ) (rest : List ℕ) → IsBytes bytes → number_at w bytes ≡ Ok (n, rest) → Takes bytes (to_le_bytes w n) rest × (n < limit)
unfolding number_at
number_takes w limit wide bytes n rest fits e =
    let g = guard_ok (ltb (length bytes) (byte_len w)) (fault kinds.End bytes) (from_le_bytes w (take (byte_len w) bytes), drop (byte_len w) bytes) (n, rest) e in
    let long : byte_len w ≤ length bytes = ltb-false _ _ g.0 in
    let n-is : from_le_bytes w (take (byte_len w) bytes) ≡ n = ap (λ (p : ℕ × List ℕ). p.0) g.1 in
    let rest-is : drop (byte_len w) bytes ≡ rest = ap (λ (p : ℕ × List ℕ). p.1) g.1 in
    let front : to_le_bytes w n ≡ take (byte_len w) bytes = rw (← n-is) (wide.back (take (byte_len w) bytes) (omega (arith, length-take (byte_len w) bytes)) (IsBytes-take (byte_len w) bytes fits)) in
    (record { parts = rw (front, ← rest-is) (sym (take-append-drop (byte_len w) bytes)); rest_fits = rw (← rest-is) (IsBytes-drop (byte_len w) bytes fits) }, rw (← n-is) (wide.below (take (byte_len w) bytes) (IsBytes-take (byte_len w) bytes fits)))

pub number_again : (w : Width) (limit : ℕ) (wide : IsWide w limit) (n : ℕ) (rest : List ℕ) → n < limit → number_at w (to_le_bytes w n ++ rest) ≡ Ok (n, rest)
unfolding number_at
number_again w limit wide n rest lt =
    let len = wide.len n in
    let long : ltb (length (to_le_bytes w n ++ rest)) (byte_len w) ≡ false = le-ltb _ _ (omega (arith, length-append (to_le_bytes w n) rest)) in
    rw (long, take_at (to_le_bytes w n) rest (byte_len w) len, drop_at (to_le_bytes w n) rest (byte_len w) len, wide.again n lt) refl

-- ---- names and texts

pub name_takes : (bytes name rest : List ℕ) → IsBytes bytes → name_at bytes ≡ Ok (name, rest) → Takes bytes (text_bytes name) rest
unfolding name_at
name_takes bytes name rest fits e =
    let b = bind_ok (number_at w64 bytes) (λ n. cond (ltb (length n.1) n.0) (Err (fault kinds.End n.1)) (Ok (take n.0 n.1, drop n.0 n.1))) (name, rest) e in
    let n = b.0 in
    let t = number_takes w64 (2 ^ 64) wide64 bytes n.0 n.1 fits b.1 in
    let g = guard_ok (ltb (length n.1) n.0) (fault kinds.End n.1) (take n.0 n.1, drop n.0 n.1) (name, rest) b.2 in
    let long : n.0 ≤ length n.1 = ltb-false _ _ g.0 in
    let len : length (take n.0 n.1) ≡ n.0 = omega (arith, length-take n.0 n.1) in
    let second : Takes n.1 (take n.0 n.1) (drop n.0 n.1) = record { parts = sym (take-append-drop n.0 n.1); rest_fits = IsBytes-drop n.0 n.1 t.0.rest_fits } in
    let both = Takes-then bytes (to_le_bytes w64 n.0) n.1 (take n.0 n.1) (drop n.0 n.1) t.0 second in
    let whole : Takes bytes (text_bytes (take n.0 n.1)) (drop n.0 n.1) = subst (λ (k : ℕ). Takes bytes (to_le_bytes w64 k ++ take n.0 n.1) (drop n.0 n.1)) (sym len) both in
    subst (λ (p : List ℕ × List ℕ). Takes bytes (text_bytes p.0) p.1) g.1 whole

pub name_again : (name rest : List ℕ) → length name < 2 ^ 64 → name_at (text_bytes name ++ rest) ≡ Ok (name, rest)
unfolding name_at
name_again name rest lt =
    let long : ltb (length (name ++ rest)) (length name) ≡ false = le-ltb _ _ (omega (arith, length-append name rest)) in
    rw (number_again w64 (2 ^ 64) wide64 (length name) (name ++ rest) lt, long, take_at name rest (length name) refl, drop_at name rest (length name) refl) refl

pub text_takes : (bytes text rest : List ℕ) → IsBytes bytes → text_at bytes ≡ Ok (text, rest) → Takes bytes (text_bytes text) rest
unfolding text_at
text_takes bytes text rest fits e =
    let b = bind_ok (name_at bytes) (λ s. cond (is_utf8 s.0) (Ok s) (Err (fault kinds.Utf8 bytes))) (text, rest) e in
    let g = passed_ok (is_utf8 b.0.0) (fault kinds.Utf8 bytes) b.0 (text, rest) b.2 in
    subst (λ (p : List ℕ × List ℕ). Takes bytes (text_bytes p.0) p.1) g.1 (name_takes bytes b.0.0 b.0.1 fits b.1)

pub text_again : (text rest : List ℕ) → length text < 2 ^ 64 → is_utf8 text ≡ true → text_at (text_bytes text ++ rest) ≡ Ok (text, rest)
unfolding text_at
text_again text rest lt utf8 = rw (name_again text rest lt, utf8) refl

-- ---- scalars, choices and the byte of no parts

pub char_takes : (bytes : List ℕ) (c : ℕ) (rest : List ℕ) → IsBytes bytes → char_at bytes ≡ Ok (c, rest) → Takes bytes (to_le_bytes w32 c) rest
unfolding char_at
char_takes bytes c rest fits e =
    let b = bind_ok (number_at w32 bytes) (λ n. cond (scalar n.0) (Ok n) (Err (fault kinds.Char bytes))) (c, rest) e in
    let g = passed_ok (scalar b.0.0) (fault kinds.Char bytes) b.0 (c, rest) b.2 in
    let t = number_takes w32 (2 ^ 32) wide32 bytes b.0.0 b.0.1 fits b.1 in
    subst (λ (p : ℕ × List ℕ). Takes bytes (to_le_bytes w32 p.0) p.1) g.1 t.0

pub char_again : (c : ℕ) (rest : List ℕ) → c < 2 ^ 32 → IsScalar c → char_at (to_le_bytes w32 c ++ rest) ≡ Ok (c, rest)
unfolding char_at
char_again c rest lt is = rw (number_again w32 (2 ^ 32) wide32 c rest lt, is) refl

pub choice_takes : (bytes : List ℕ) (b : Bool) (rest : List ℕ) → IsBytes bytes → choice_at bytes ≡ Ok (b, rest) → Takes bytes (from_bool b ∷ []) rest
unfolding choice_at
choice_takes [] b rest fits e = absurd cc
choice_takes (zero ∷ bytes) b rest fits e = subst (λ (x : Bool × List ℕ). Takes (0 ∷ bytes) (from_bool x.0 ∷ []) x.1) (ok_is (false, bytes) (b, rest) e) (record { parts = refl; rest_fits = IsBytes-rest 0 bytes fits })
choice_takes (suc zero ∷ bytes) b rest fits e = subst (λ (x : Bool × List ℕ). Takes (1 ∷ bytes) (from_bool x.0 ∷ []) x.1) (ok_is (true, bytes) (b, rest) e) (record { parts = refl; rest_fits = IsBytes-rest 1 bytes fits })
choice_takes (suc (suc n) ∷ bytes) b rest fits e = absurd cc

pub choice_again : (b : Bool) (rest : List ℕ) → choice_at (from_bool b ∷ rest) ≡ Ok (b, rest)
unfolding choice_at
choice_again false rest = refl
choice_again true rest = refl

pub zero_takes : (bytes rest : List ℕ) → IsBytes bytes → zero_at bytes ≡ Ok rest → Takes bytes (0 ∷ []) rest
unfolding zero_at
zero_takes [] rest fits e = absurd cc
zero_takes (zero ∷ bytes) rest fits e = subst (λ (x : List ℕ). Takes (0 ∷ bytes) (0 ∷ []) x) (ok_is bytes rest e) (record { parts = refl; rest_fits = IsBytes-rest 0 bytes fits })
zero_takes (suc n ∷ bytes) rest fits e = absurd cc

pub zero_again : (rest : List ℕ) → zero_at (0 ∷ rest) ≡ Ok rest
unfolding zero_at
zero_again rest = refl

-- ---- what the code tests

pub text_read : (bytes text rest : List ℕ) → name_at bytes ≡ Ok (text, rest) → IsUtf8 text → text_at bytes ≡ Ok (text, rest)
unfolding text_at
text_read bytes text rest e utf8 = let passes = is_utf8-from_IsUtf8 text utf8 in rw (e, passes) refl

not_utf8 : (text : List ℕ) → (IsUtf8 text → ⊥) → is_utf8 text ≡ false
not_utf8 text apart = by (is_utf8 text) refl
  where
    by : (b : Bool) → is_utf8 text ≡ b → b ≡ false
    by true e = absurd (apart (IsUtf8-from_is_utf8 text e))
    by false e = refl

pub text_fault : (bytes text rest : List ℕ) → name_at bytes ≡ Ok (text, rest) → (IsUtf8 text → ⊥) → text_at bytes ≡ Err (fault kinds.Utf8 bytes)
unfolding text_at
text_fault bytes text rest e apart = let fails = not_utf8 text apart in rw (e, fails) refl

pub text_stop : (bytes : List ℕ) (x : Fault) → name_at bytes ≡ Err x → text_at bytes ≡ Err x
unfolding text_at
text_stop bytes x e = rw e refl

pub char_read : (bytes : List ℕ) (c : ℕ) (rest : List ℕ) → number_at w32 bytes ≡ Ok (c, rest) → IsScalar c → char_at bytes ≡ Ok (c, rest)
unfolding char_at
char_read bytes c rest e is = rw (e, is) refl

not_scalar : (c : ℕ) → (IsScalar c → ⊥) → scalar c ≡ false
not_scalar c apart = by (scalar c) refl
  where
    by : (b : Bool) → scalar c ≡ b → b ≡ false
    by true e = absurd (apart e)
    by false e = refl

pub char_fault : (bytes : List ℕ) (c : ℕ) (rest : List ℕ) → number_at w32 bytes ≡ Ok (c, rest) → (IsScalar c → ⊥) → char_at bytes ≡ Err (fault kinds.Char bytes)
unfolding char_at
char_fault bytes c rest e apart = let fails = not_scalar c apart in rw (e, fails) refl

pub char_stop : (bytes : List ℕ) (x : Fault) → number_at w32 bytes ≡ Err x → char_at bytes ≡ Err x
unfolding char_at
char_stop bytes x e = rw e refl

pub name_stop : (bytes : List ℕ) (x : Fault) → number_at w64 bytes ≡ Err x → name_at bytes ≡ Err x
unfolding name_at
name_stop bytes x e = rw e refl
