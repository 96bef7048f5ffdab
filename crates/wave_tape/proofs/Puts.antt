-- How the parts that were appended join to the whole.
use Rattle.std.proofs.Common.{◌≡◌, ℕ, zero, suc, eqb, ◌<◌, ◌≤◌, ◌+◌, ◌%◌, ◌&&◌, inl, inr, Bool, true, false, List, [], ◌∷◌, ◌++◌, length, get_or, drop, take, Result, Ok, Err, refl, sym, ap, subst, ◌∙◌, append_assoc, arith}
use Rattle.std.specs.Int.{w8, to_le_bytes}
use Rattle.std.specs.Prelude.{OnOk, IfErr}
use Rattle.std.proofs.lemmas.Bool.{eqb-true}
use Rattle.std.proofs.lemmas.List.{append-nil, take_all, take_at, take-take, length-take}
use Rattle.wave_wasm.proofs.CanonicalText.Sequences.{at_item, at_end}
use Rattle.wave_tape.specs.declared.error.Stop.{Stop}
use Rattle.wave_tape.specs.declared.error.Stop.TheVariants as stops
use Rattle.wave_tape.specs.Tape.{count_bytes}
use Rattle.wave_tape.specs.Errors.{Refusal, kind_of, place_of, HasNoTape}
use Rattle.wave_tape.specs.Private.Writers.{IsGrounded, Puts}

-- a part's cause is one of the whole
pub grounded_later : (s : Stop) (has all : Bool) → (has ≡ false → all ≡ false) → IsGrounded s has → IsGrounded s all
grounded_later stops.Memory has all f h = tt
grounded_later (stops.Refused left) has all f h = h
grounded_later (stops.Fault kind left) has all f h = (h.0, f h.1)

-- ---- what was there stays in front

pub kept_same : (old : List ℕ) → take (length old) old ≡ old
kept_same old = take_all (length old) old (omega arith)

pub kept_add : (old : List ℕ) {new : List ℕ} (bytes : List ℕ) → new ≡ old ++ bytes → take (length old) new ≡ old
kept_add old bytes put = ap (take (length old)) put ∙ take_at old bytes (length old) refl

pub kept_later : (old mid new : List ℕ) → take (length old) mid ≡ old → take (length mid) new ≡ mid → take (length old) new ≡ old
kept_later old mid new first later =
    let short = ap length first in
    sym (take-take (length old) (length mid) new (omega (arith, short, length-take (length old) mid))) ∙ (ap (take (length old)) later ∙ first)

-- nothing was appended before memory was refused
pub memory_stop : {whole : List ℕ} {all : Bool} (old : List ℕ) → Puts whole all (Err stops.Memory) old old
memory_stop old = record { ok = tt; err = tt; kept = kept_same old }

-- a part is refused
pub puts_stop : {part whole : List ℕ} {has all : Bool} {s : Stop} (start : List ℕ) {old new : List ℕ} → (has ≡ false → all ≡ false) → take (length start) old ≡ start → Puts part has (Err s) old new → Puts whole all (Err s) start new
puts_stop {has = has} {all = all} {s = s} start {old = old} {new = new} f kept h = record { ok = tt; err = grounded_later s has all f h.err; kept = kept_later start old new kept h.kept }

-- bytes are refused for want of memory alone
pub bytes_stop_in : {part whole : List ℕ} {all : Bool} {s : Stop} (start : List ℕ) {old new : List ℕ} → take (length start) old ≡ start → Puts part true (Err s) old new → Puts whole all (Err s) start new
bytes_stop_in start kept h = puts_stop start (λ e. absurd cc) kept h

-- so of the first bytes
pub bytes_stop : {part whole : List ℕ} {all : Bool} {s : Stop} {old new : List ℕ} → Puts part true (Err s) old new → Puts whole all (Err s) old new
bytes_stop {old = old} h = bytes_stop_in old (kept_same old) h

-- other words for the bytes
pub puts_as : {bytes whole : List ℕ} {has all : Bool} {r : Result (Unit {0}) Stop} {old new : List ℕ} → whole ≡ bytes → all ≡ has → Puts bytes has r old new → Puts whole all r old new
puts_as {bytes = bytes} {whole = whole} {has = has} {all = all} {r = r} {old = old} {new = new} same a h =
    subst (λ (z : List ℕ). Puts z all r old new) (sym same) (subst (λ (b : Bool). Puts bytes b r old new) (sym a) h)

joined : (front bytes whole old mid new : List ℕ) → mid ≡ old ++ front → whole ≡ front ++ bytes → new ≡ mid ++ bytes → new ≡ old ++ whole
joined front bytes whole old mid new put same last =
    last ∙ (ap (λ (z : List ℕ). z ++ bytes) put ∙ (append_assoc old front bytes ∙ ap (λ (z : List ℕ). old ++ z) (sym same)))

-- the last part decides
pub puts_last : (front : List ℕ) {bytes whole : List ℕ} {has all : Bool} {r : Result (Unit {0}) Stop} {old mid new : List ℕ} → mid ≡ old ++ front → whole ≡ front ++ bytes → all ≡ has → Puts bytes has r mid new → Puts whole all r old new
puts_last front {bytes = bytes} {whole = whole} {has = has} {all = all} {r = r} {old = old} {mid = mid} {new = new} put same a h =
    by r h.ok h.err (kept_later old mid new (kept_add old front put) h.kept)
  where
    by : (r : Result (Unit {0}) Stop) → OnOk r ((new ≡ mid ++ bytes) × (has ≡ true)) → IfErr r (λ s. IsGrounded s has) → take (length old) new ≡ old → Puts whole all r old new
    by (Ok u) ok err kept = record { ok = (joined front bytes whole old mid new put same ok.0, a ∙ ok.1); err = tt; kept = kept }
    by (Err s) ok err kept = record { ok = tt; err = grounded_later s has all (λ e. a ∙ e) err; kept = kept }

-- ---- parts in turn: h says the bytes of what is left, k whether all of it has a tape

-- the next part was appended
pub put_next : {X : Type 0} (h : List X → List ℕ) (xs : List X) (i : ℕ) (x : X) (part out new whole : List ℕ) → i < length xs → x ≡ get_or xs i x → h (x ∷ drop (i + 1) xs) ≡ part ++ h (drop (i + 1) xs) → new ≡ out ++ part → out ++ h (drop i xs) ≡ whole → new ++ h (drop (i + 1) xs) ≡ whole
put_next h xs i x part out new whole lt is step put so_far =
    ap (λ (z : List ℕ). z ++ h (drop (i + 1) xs)) put
    ∙ (append_assoc out part (h (drop (i + 1) xs)) ∙ (ap (λ (z : List ℕ). out ++ z) (sym (at_item h xs i x lt is ∙ step)) ∙ so_far))

-- nothing is left
pub put_all : {X : Type 0} (h : List X → List ℕ) (xs : List X) (i : ℕ) (out whole : List ℕ) → length xs ≤ i → h [] ≡ [] → out ++ h (drop i xs) ≡ whole → out ≡ whole
put_all h xs i out whole le none so_far =
    sym (append-nil out) ∙ (ap (λ (z : List ℕ). out ++ z) (sym (at_end h xs i le ∙ none)) ∙ so_far)

-- the next part has a tape
pub has_next : {X : Type 0} (k : List X → Bool) (xs : List X) (i : ℕ) (x : X) (b all : Bool) → i < length xs → x ≡ get_or xs i x → k (x ∷ drop (i + 1) xs) ≡ (b && k (drop (i + 1) xs)) → b ≡ true → k (drop i xs) ≡ all → k (drop (i + 1) xs) ≡ all
has_next k xs i x b all lt is step has so_far = sym (at_item k xs i x lt is ∙ (step ∙ ap (λ (c : Bool). c && k (drop (i + 1) xs)) has)) ∙ so_far

-- the next part has none
pub has_none : {X : Type 0} (k : List X → Bool) (xs : List X) (i : ℕ) (x : X) (b all : Bool) → i < length xs → x ≡ get_or xs i x → k (x ∷ drop (i + 1) xs) ≡ (b && k (drop (i + 1) xs)) → k (drop i xs) ≡ all → b ≡ false → all ≡ false
has_none k xs i x b all lt is step so_far none = sym so_far ∙ (at_item k xs i x lt is ∙ (step ∙ ap (λ (c : Bool). c && k (drop (i + 1) xs)) none))

pub has_all : {X : Type 0} (k : List X → Bool) (xs : List X) (i : ℕ) (all : Bool) → length xs ≤ i → k [] ≡ true → k (drop i xs) ≡ all → all ≡ true
has_all k xs i all le none so_far = sym so_far ∙ (at_end k xs i le ∙ none)

-- a byte is the number of one byte
pub byte_is : (n : ℕ) → n < 256 → to_le_bytes w8 n ≡ n ∷ []
byte_is n lt = let e : n % 256 ≡ n = omega (arith, lt) in ap (λ (k : ℕ). k ∷ []) e

-- behind a count all parts are left
pub counted_start : (n long : ℕ) (left old new whole : List ℕ) → n ≡ long → new ≡ old ++ count_bytes n → whole ≡ count_bytes long ++ left → new ++ left ≡ old ++ whole
counted_start n long left old new whole same put is =
    ap (λ (z : List ℕ). z ++ left) put
    ∙ (append_assoc old (count_bytes n) left ∙ ap (λ (z : List ℕ). old ++ z) (ap (λ (k : ℕ). count_bytes k ++ left) same ∙ sym is))

-- so behind the byte of a kind and a count
pub headed_start : (kind n long : ℕ) (left old new whole : List ℕ) → n ≡ long → new ≡ old ++ (kind ∷ count_bytes n) → whole ≡ kind ∷ (count_bytes long ++ left) → new ++ left ≡ old ++ whole
headed_start kind n long left old new whole same put is =
    ap (λ (z : List ℕ). z ++ left) put
    ∙ (append_assoc old (kind ∷ count_bytes n) left ∙ ap (λ (z : List ℕ). old ++ z) (ap (λ (k : ℕ). kind ∷ (count_bytes k ++ left)) same ∙ sym is))

-- two parts are appended, one behind the other
pub both_put : (old : List ℕ) {mid new : List ℕ} (a b : List ℕ) → mid ≡ old ++ a → new ≡ mid ++ b → new ≡ old ++ (a ++ b)
both_put old a b first second = second ∙ (ap (λ (z : List ℕ). z ++ b) first ∙ append_assoc old a b)

pub and_left : {a : Bool} (b : Bool) → a ≡ false → (a && b) ≡ false
and_left b e = ap (λ (x : Bool). x && b) e

pub and_right : (a : Bool) {b : Bool} → b ≡ false → (a && b) ≡ false
and_right true e = e
and_right false e = refl

pub and_both : {a b : Bool} → a ≡ true → b ≡ true → (a && b) ≡ true
and_both {b = b} e f = ap (λ (x : Bool). x && b) e ∙ f

-- a length that is zero, as the code tests it
pub zero_of : (n : ℕ) → eqb n 0 ≡ true → n ≡ 0
zero_of n e = eqb-true n 0 e

pub some_of : (n : ℕ) → eqb n 0 ≡ false → 1 ≤ n
some_of zero e = absurd (cc)
some_of (suc n) e = omega arith

-- there is no tape for one of two causes
pub no_tape : (s : Stop) (e : Refusal) (has : Bool) → e.kind ≡ kind_of s → e.place ≡ place_of 0 s → IsGrounded s has → HasNoTape e has
no_tape stops.Memory e has kind place h = (place, inl kind)
no_tape (stops.Refused left) e has kind place h = absurd h
no_tape (stops.Fault k left) e has kind place h = (omega (arith, place), inr (kind ∙ h.0, h.1))
