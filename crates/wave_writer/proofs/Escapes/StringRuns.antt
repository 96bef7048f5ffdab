-- The run of a text that is not yet written, and what is not yet read.
use Rattle.std.proofs.Common.{ℕ, ◌≡◌, ◌+◌, ◌-◌, ◌≤◌, ◌<◌, zero, suc, List, [], ◌∷◌, ◌++◌, true, refl, sym, ap, subst, ◌∙◌, length, take, drop, slice_index, arith, length-append, append_assoc, codes}
use Rattle.std.proofs.lemmas.List.{append-nil, drop_at, drop_more, take_at}
use Rattle.std.proofs.lemmas.Str.{chars-nil, chars_past_char, encode_ascii, IsUtf8-past_char, IsCharBoundary-at_seam, IsCharBoundary-start}
use Rattle.std.specs.Char.{encode_utf8}
use Rattle.std.specs.List.{flat_map}
use Rattle.std.specs.Str.{IsUtf8, IsCharBoundary, chars}
use Rattle.wave_writer.specs.WriterState.{Output}
use Rattle.wave_wasm.specs.Text.{escaped, quoted}
use Rattle.wave_wasm.specs.TextParts.{is_plain_byte}
use Rattle.wave_writer.proofs.CanonicalText.WrittenParts.{Writing, writing_as}
use Rattle.wave_writer.proofs.Escapes.PlainBytes.{plain_below, plain_escaped}

-- what is left to write after the run
abbrev pub closing : List ℕ → List ℕ
closing rest = flat_map escaped (chars rest) ++ codes "\""

-- of the text s the run from start to at is still to be written, and what lies behind is to be read
pub record Running (s : List ℕ) (start at : ℕ) (old now : Output) : Type 0 where
  pub before : List ℕ
  pub run : List ℕ
  pub cut : s ≡ before ++ (run ++ drop at s)
  pub start_is : start ≡ length before
  pub at_is : at ≡ length before + length run
  pub boundary : IsCharBoundary s start
  pub utf8 : IsUtf8 (drop at s)
  pub writing : Writing (quoted s) (run ++ closing (drop at s)) old now

-- nothing is read
pub running_start : (s : List ℕ) {old now : Output} → IsUtf8 s → Writing (quoted s) (closing s) old now → Running s 0 0 old now
running_start s u w = record {
  before = [];
  run = [];
  cut = refl;
  start_is = refl;
  at_is = refl;
  boundary = IsCharBoundary-start s u;
  utf8 = u;
  writing = w;
}

-- what is read and what is not meet between two scalars
pub running_boundary : (s : List ℕ) (start at : ℕ) {old now : Output} → Running s start at old now → IsCharBoundary s at
running_boundary s start at r =
    let read : List ℕ = r.before ++ r.run in
    let cut : s ≡ read ++ drop at s = r.cut ∙ sym (append_assoc r.before r.run (drop at s)) in
    let at_is : length read ≡ at = omega (arith, r.at_is, length-append r.before r.run) in
    subst (IsCharBoundary s) at_is (IsCharBoundary-at_seam s read (drop at s) cut r.utf8)

-- the text behind a scalar
later_is : (s : List ℕ) (start at : ℕ) {old now : Output} (c next : ℕ) (later : List ℕ) → (r : Running s start at old now) → drop at s ≡ encode_utf8 c ++ later → next ≡ at + length (encode_utf8 c) → drop next s ≡ later
later_is s start at c next later r e n =
    let read : List ℕ = r.before ++ (r.run ++ encode_utf8 c) in
    let cut : s ≡ read ++ later = r.cut ∙ (ap (λ z. r.before ++ (r.run ++ z)) e ∙ (ap (λ z. r.before ++ z) (sym (append_assoc r.run (encode_utf8 c) later)) ∙ sym (append_assoc r.before (r.run ++ encode_utf8 c) later))) in
    ap (drop next) cut ∙ drop_at read later next (omega (arith, n, r.at_is, length-append r.before (r.run ++ encode_utf8 c), length-append r.run (encode_utf8 c)))

-- what is left begins with a scalar
next_closing : (c : ℕ) (rest later : List ℕ) → IsUtf8 rest → rest ≡ encode_utf8 c ++ later → closing rest ≡ escaped c ++ closing later
next_closing c rest later u e = ap (λ cs. flat_map escaped cs ++ codes "\"") (chars_past_char rest later c u e) ∙ append_assoc (escaped c) (flat_map escaped (chars later)) (codes "\"")

-- a scalar that stands for itself joins the run
pub running_plain : (s : List ℕ) (start at : ℕ) {old now : Output} (c next : ℕ) (later : List ℕ) → Running s start at old now → drop at s ≡ encode_utf8 c ++ later → next ≡ at + length (encode_utf8 c) → escaped c ≡ encode_utf8 c → Running s start next old now
running_plain s start at c next later r e n plain =
    let same = later_is s start at c next later r e n in
    let begins : drop at s ≡ encode_utf8 c ++ drop next s = e ∙ ap (λ z. encode_utf8 c ++ z) (sym same) in
    record {
      before = r.before;
      run = r.run ++ encode_utf8 c;
      cut = r.cut ∙ ap (λ z. r.before ++ z) (ap (λ z. r.run ++ z) begins ∙ sym (append_assoc r.run (encode_utf8 c) (drop next s)));
      start_is = r.start_is;
      at_is = omega (arith, n, r.at_is, length-append r.run (encode_utf8 c));
      boundary = r.boundary;
      utf8 = IsUtf8-past_char (drop at s) (drop next s) c r.utf8 begins;
      writing = writing_as (ap (λ z. r.run ++ z) (next_closing c (drop at s) (drop next s) r.utf8 begins ∙ ap (λ z. z ++ closing (drop next s)) plain) ∙ sym (append_assoc r.run (encode_utf8 c) (closing (drop next s)))) r.writing;
    }

-- so of n bytes
plain_bytes : (s : List ℕ) (start at : ℕ) {old now : Output} (n next : ℕ) → Running s start at old now → next ≡ at + n → next ≤ length s → ((i : ℕ) → at ≤ i → i < next → is_plain_byte (slice_index s i) ≡ true) → Running s start next old now
plain_bytes s start at {old} {now} zero next r e l h =
    let same : at ≡ next = omega (arith, e) in
    subst (λ z. Running s start z old now) same r
plain_bytes s start at (suc n) next r e l h =
    let b : ℕ = slice_index s at in
    let p : is_plain_byte b ≡ true = h at (omega (arith)) (omega (arith, e)) in
    let below = plain_below b p in
    let itself : encode_utf8 b ≡ b ∷ [] = encode_ascii b (omega (arith, below)) in
    let begins : drop at s ≡ encode_utf8 b ++ drop (at + 1) s = drop_more s at 0 (omega (arith, e, l)) ∙ ap (λ z. z ++ drop (at + 1) s) (sym itself) in
    let more = running_plain s start at b (at + 1) (drop (at + 1) s) r begins (omega (arith, ap length itself)) (plain_escaped b p ∙ sym itself) in
    plain_bytes s start (at + 1) n next more (omega (arith, e)) l (λ i a k. h i (omega (arith, a)) k)

-- bytes that stand for themselves join the run
pub running_plains : (s bytes : List ℕ) (start at next : ℕ) {old now : Output} → Running s start at old now → bytes ≡ s → (at ≤ next) × (next ≤ length bytes) → ((i : ℕ) → at ≤ i → i < next → is_plain_byte (slice_index bytes i) ≡ true) → Running s start next old now
running_plains s bytes start at next r e l h =
    plain_bytes s start at (next - at) next r (omega (arith, l.0)) (omega (arith, l.1, ap length e)) (λ i a k. subst (λ z. is_plain_byte (slice_index z i) ≡ true) e (h i a k))

-- what lies after the start is the run and the rest
behind_start : (s : List ℕ) (start at : ℕ) {old now : Output} → (r : Running s start at old now) → drop start s ≡ r.run ++ drop at s
behind_start s start at r = ap (drop start) r.cut ∙ drop_at r.before (r.run ++ drop at s) start (sym r.start_is)

-- the run is written, and then the scalar
pub running_written : (s : List ℕ) (start at : ℕ) {old now : Output} (c : ℕ) (later part : List ℕ) → (r : Running s start at old now) → drop at s ≡ encode_utf8 c ++ later → part ≡ take (at - start) (drop start s) → Writing (quoted s) (part ++ (escaped c ++ closing later)) old now
running_written s start at c later part r e p =
    let n : length r.run ≡ at - start = omega (arith, r.at_is, r.start_is) in
    let same : part ≡ r.run = p ∙ (ap (take (at - start)) (behind_start s start at r) ∙ take_at r.run (drop at s) (at - start) n) in
    writing_as (ap (λ z. r.run ++ z) (next_closing c (drop at s) later r.utf8 e) ∙ ap (λ z. z ++ (escaped c ++ closing later)) (sym same)) r.writing

-- a new run begins after a scalar that was written
pub running_again : (s : List ℕ) (start at : ℕ) {old now new : Output} (c next : ℕ) (later : List ℕ) → Running s start at old now → drop at s ≡ encode_utf8 c ++ later → next ≡ at + length (encode_utf8 c) → Writing (quoted s) (closing later) old new → Running s next next old new
running_again s start at c next later r e n w =
    let same = later_is s start at c next later r e n in
    let begins : drop at s ≡ encode_utf8 c ++ drop next s = e ∙ ap (λ z. encode_utf8 c ++ z) (sym same) in
    let read : List ℕ = r.before ++ (r.run ++ encode_utf8 c) in
    let cut : s ≡ read ++ drop next s = r.cut ∙ (ap (λ z. r.before ++ z) (ap (λ z. r.run ++ z) begins ∙ sym (append_assoc r.run (encode_utf8 c) (drop next s))) ∙ sym (append_assoc r.before (r.run ++ encode_utf8 c) (drop next s))) in
    let next_is : next ≡ length read = omega (arith, n, r.at_is, length-append r.before (r.run ++ encode_utf8 c), length-append r.run (encode_utf8 c)) in
    let u = IsUtf8-past_char (drop at s) (drop next s) c r.utf8 begins in
    record {
      before = read;
      run = [];
      cut = cut;
      start_is = next_is;
      at_is = omega (arith, next_is);
      boundary = subst (IsCharBoundary s) (sym next_is) (IsCharBoundary-at_seam s read (drop next s) cut u);
      utf8 = u;
      writing = writing_as (ap closing (sym same)) w;
    }

nothing : (rest : List ℕ) → length rest ≡ 0 → rest ≡ []
nothing [] e = refl
nothing (b ∷ bs) e = absurd (omega arith)

-- nothing is left to read: the last run is written, and the quote
pub running_end : (s : List ℕ) (start at : ℕ) {old now : Output} (part : List ℕ) → (r : Running s start at old now) → length (drop at s) ≡ 0 → part ≡ drop start s → Writing (quoted s) (part ++ codes "\"") old now
running_end s start at part r none p =
    let empty = nothing (drop at s) none in
    let same : part ≡ r.run = p ∙ (behind_start s start at r ∙ (ap (λ z. r.run ++ z) empty ∙ append-nil r.run)) in
    writing_as (ap (λ z. r.run ++ closing z) empty ∙ (ap (λ cs. r.run ++ (flat_map escaped cs ++ codes "\"")) chars-nil ∙ ap (λ z. z ++ codes "\"") (sym same))) r.writing
