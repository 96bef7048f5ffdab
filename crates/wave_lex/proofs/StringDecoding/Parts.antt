-- The steps of a string's parts, and what all of them are together.
use Rattle.std.proofs.Common.{◌≡◌, ℕ, ◌≤◌, ◌<◌, ◌+◌, ◌≢◌, zero, suc, true, List, [], ◌∷◌, ◌++◌, ◌⊎◌, inl, inr, refl, sym, ap, subst, ◌∙◌, length, take, drop, arith, Some, None, Ok, get_or, append_assoc, length-take-le, length-append}
use Rattle.memchr.specs.Find.{is_byte}
use Rattle.std.specs.Prelude.{encode_utf8}
use Rattle.std.specs.Char.{digit_value}
use Rattle.std.specs.Str.Parse.{AllDigits}
use Rattle.std.specs.Str.{IsUtf8, IsCharBoundary}
use Rattle.std.proofs.lemmas.List.{take-append-drop}
use Rattle.std.proofs.Math.Seq.{drop-append_seam}
use Rattle.std.proofs.lemmas.Bool.Decides.{nat_tests}
use Rattle.std.proofs.lemmas.Str.{IsUtf8-past_char, encode_ascii, IsCharBoundary-at_seam}
use Rattle.wave_wasm.specs.ByteRuns.{IsRunOf}
use Rattle.wave_wasm.specs.Lists.{AllOf}
use Rattle.wave_lex.specs.Errors.{Diagnostic}
use Rattle.wave_lex.specs.declared.strings.StringPart.{StringPart}
use Rattle.wave_lex.specs.declared.strings.StringPart.TheVariants.{Run, Char}
use Rattle.wave_lex.specs.Strings.{short_escape, IsEscape, Decodes, UnescapesTo, IsBadEscapeAt}
use Rattle.wave_lex.specs.Parts.{part_text, part_texts, TakesRun, TakesEscape, ReportsBadEscape, MeetsBadEscape, BeginsNoEscape, PartIs, RunsTo, PartsJoin}
use Rattle.wave_lex.specs.Remaining.{Undecoded}
use Rattle.wave_lex.specs.Private.Runs.{is_no_backslash, IsRun}
use Rattle.wave_lex.proofs.StringDecoding.OneMeaning.{plain_from, escape_from}

-- ---- one step

is_same : (b : ℕ) → b ≡ 92 → is_byte 92 b ≡ true
is_same b e = grind (arith, nat_tests)

-- no byte of the text is `\`
abbrev pub AllPlain : List ℕ → Type 0
AllPlain s = AllOf (λ b. b ≢ 92) s

-- the bytes before the first `\`
plain_taken : (s : List ℕ) (k : ℕ) → k ≤ length s → ((i : ℕ) → i < k → get_or s i 0 ≢ 92) → AllPlain (take k s)
plain_taken s zero l n = tt
plain_taken [] (suc k) l n = tt
plain_taken (b ∷ s) (suc k) l n =
    let first : 0 < suc k = omega arith in
    (n 0 first, plain_taken s k (omega arith) (λ i h. let more : suc i < suc k = omega arith in n (suc i) more))

-- what stands at the k-th byte, or nothing
left_at : (s : List ℕ) (k b : ℕ) → k ≤ length s → (k < length s → get_or s k 0 ≡ b) → (drop k s ≡ []) ⊎ ((t : List ℕ) × (drop k s ≡ b ∷ t))
left_at [] zero b l h = inl refl
left_at [] (suc k) b l h = inl refl
left_at (a ∷ s) zero b l h = inr (s, ap (λ (z : ℕ). z ∷ s) (h (omega arith)))
left_at (a ∷ s) (suc k) b l h = left_at s k b (omega arith) (λ m. h (omega arith))

-- some bytes are not none
not_none : (s : List ℕ) → 0 < length s → s ≢ []
not_none s l e = let w : length s ≡ 0 = ap length e in let v : ⊥ = omega arith in v

-- the bytes before the first backslash are those that are none
pub run_is : (s : List ℕ) (n : ℕ) → IsRunOf is_no_backslash s n → IsRun s n
run_is s n run = record {
  within = run.within;
  before = λ i l. grind (arith, nat_tests, run.all i l);
  stops = λ l. grind (arith, nat_tests, run.stops l);
}

-- the bytes through the first `\` are a run
pub run_taken : (s part rest : List ℕ) (pos k : ℕ) → 0 < k → IsRun s k → part ≡ take k s → rest ≡ drop k s → TakesRun (record { rest = s; pos = pos }) (record { rest = rest; pos = pos + k }) part
run_taken s part rest pos k some run p r =
    let long : length part ≡ k = ap length p ∙ length-take-le k s run.within in
    record {
      some = not_none part (omega arith);
      plain = subst AllPlain (sym p) (plain_taken s k run.within run.before);
      taken = sym (ap (λ (z : List ℕ). z ++ rest) p ∙ (ap (λ (z : List ℕ). take k s ++ z) r ∙ take-append-drop k s));
      stops = subst (λ (z : List ℕ). (z ≡ []) ⊎ ((t : List ℕ) × (z ≡ 92 ∷ t))) (sym r) (left_at s k 92 run.within run.stops);
      moved = ap (λ (z : ℕ). pos + z) (sym long);
    }

-- what `unescape` found is an escape
pub escape_taken : (s e x rest : List ℕ) (pos k c : ℕ) → IsEscape e c → s ≡ e ++ x → k ≡ length e → rest ≡ drop k s
    → TakesEscape (record { rest = s; pos = pos }) (record { rest = rest; pos = pos + k }) c
escape_taken s e x rest pos k c h w l r =
    let same : rest ≡ x = r ∙ (ap (λ (z : ℕ). drop z s) l ∙ (ap (λ (z : List ℕ). drop (length e) z) w ∙ drop-append_seam e x)) in
    record { escape = e; is = h; taken = w ∙ ap (λ (z : List ℕ). e ++ z) (sym same); moved = ap (λ (z : ℕ). pos + z) l }

-- nothing is left, or it begins with the `\` before which no run stands
pub none_or_begins : (s : List ℕ) (k : ℕ) → k ≤ 0 → IsRun s k → UnescapesTo s None → (s ≡ []) ⊎ BeginsNoEscape s
none_or_begins [] k l run none = inl refl
none_or_begins (b ∷ s) zero l run none = inr (record { begins = (s, ap (λ (z : ℕ). z ∷ s) (run.stops (omega arith))); none = none })
none_or_begins (b ∷ s) (suc k) l run none = let w : ⊥ = omega arith in absurd w

-- ---- escapes are ASCII

-- each byte is ASCII
abbrev pub AllAscii : List ℕ → Type 0
AllAscii s = AllOf (λ b. b < 128) s

-- two texts of ASCII join to one
pub ascii_append : (x y : List ℕ) → AllAscii x → AllAscii y → AllAscii (x ++ y)
ascii_append [] y a b = b
ascii_append (c ∷ x) y a b = (a.0, ascii_append x y a.1 b)

-- a digit is ASCII
pub digit_ascii : (d : ℕ) → digit_value d < 16 → d < 128
digit_ascii d h = grind (arith, nat_tests)

-- digits are ASCII
pub digits_ascii : (ds : List ℕ) → AllDigits 16 ds → AllAscii ds
digits_ascii [] a = tt
digits_ascii (d ∷ ds) a = (digit_ascii d a.0, digits_ascii ds a.1)

-- the byte of a short escape is ASCII
pub short_ascii : (b c : ℕ) → short_escape b ≡ Some c → b < 128
short_ascii b c e = grind (arith, nat_tests)

-- an escape is ASCII
pub escape_ascii : (e : List ℕ) (c : ℕ) → IsEscape e c → AllAscii e
escape_ascii e c (inl a) = let f : 92 < 128 = omega arith in
    subst (λ (z : List ℕ). AllAscii z) (sym a.1) (f, (short_ascii a.0 c a.2, tt))
escape_ascii e c (inr a) =
    let f : 92 < 128 = omega arith in
    let g : 117 < 128 = omega arith in
    let h : 123 < 128 = omega arith in
    let k : 125 < 128 = omega arith in
    subst (λ (z : List ℕ). AllAscii z) (sym a.spelled) (f, (g, (h, ascii_append a.digits (125 ∷ []) (digits_ascii a.digits a.hexadecimal) (k, tt))))

-- after ASCII a text goes on as a text
text_behind : (x t : List ℕ) → AllAscii x → IsUtf8 (x ++ t) → IsUtf8 t
text_behind [] t a u = u
text_behind (b ∷ x) t a u =
    text_behind x t a.1 (IsUtf8-past_char (b ∷ (x ++ t)) (x ++ t) b u (ap (λ (z : List ℕ). z ++ (x ++ t)) (sym (encode_ascii b a.0))))

-- a text may be split after an escape
pub escape_boundary : (s e t : List ℕ) (c k : ℕ) → IsUtf8 s → IsEscape e c → s ≡ e ++ t → k ≡ length e → IsCharBoundary s k
escape_boundary s e t c k u h w l =
    rw l (IsCharBoundary-at_seam s e t w (text_behind e t (escape_ascii e c h) (subst (λ (z : List ℕ). IsUtf8 z) w u)))

-- ---- all parts

-- what one part says: some bytes are taken, and before any text they mean the part
pub record Takes (old new : Undecoded) (part : StringPart) : Type 0 where
  pub source : List ℕ
  pub taken : old.rest ≡ source ++ new.rest
  pub moved : new.pos ≡ old.pos + length source
  pub means : (s t : List ℕ) → Decodes s t → Decodes (source ++ s) (part_text part ++ t)

-- plain bytes mean themselves
plain_means : (x s t : List ℕ) → AllPlain x → Decodes s t → Decodes (x ++ s) (x ++ t)
plain_means [] s t n d = d
plain_means (b ∷ x) s t n d = plain_from b (x ++ s) (b ∷ (x ++ t)) n.0 (x ++ t, refl, plain_means x s t n.1 d)

-- each part takes some bytes and means itself
pub takes : (old new : Undecoded) (part : StringPart) → PartIs old (Some (Ok part)) new → Takes old new part
takes old new (Run text) h = record { source = text.now; taken = h.taken; moved = h.moved; means = λ s t d. plain_means text.now s t h.plain d }
takes old new (Char c) h = record { source = h.escape; taken = h.taken; moved = h.moved; means = λ s t d. escape_from h.escape s (encode_utf8 c ++ t) c h.is (t, refl, d) }

-- a bad escape after a part
pub bad_behind : (old new : Undecoded) (part : StringPart) (i : ℕ) → (h : Takes old new part) → IsBadEscapeAt new.rest i → IsBadEscapeAt old.rest (length h.source + i)
bad_behind old new part i h (prefix, rest, t, whole, decodes, none, there) = (
  h.source ++ prefix,
  rest,
  part_text part ++ t,
  h.taken ∙ (ap (λ (z : List ℕ). h.source ++ z) whole ∙ sym (append_assoc h.source prefix (92 ∷ rest))),
  h.means prefix t decodes,
  none,
  ap (λ (z : ℕ). length h.source + z) there ∙ sym (length-append h.source prefix),
)

-- parts up to the end are what is decoded
join_decodes : (s : Undecoded) (ps : List StringPart) → RunsTo s ps None → Decodes s.rest (part_texts ps)
join_decodes s [] r = subst (λ (z : List ℕ). Decodes z []) (sym r.1.0) ([], (refl, refl))
join_decodes s (p ∷ ps) r =
    let h = takes s r.0 p r.1 in
    subst (λ (z : List ℕ). Decodes z (part_texts (p ∷ ps))) (sym h.taken) (h.means r.0.rest (part_texts ps) (join_decodes r.0 ps r.2))

-- at once: the `\` is the first byte
pub bad_here : (s t : Undecoded) (e : Diagnostic) → MeetsBadEscape s t e → IsBadEscapeAt s.rest 0
bad_here s t e h = ([], h.begins.0, [], h.begins.1, ([], (refl, refl)), subst (λ (z : List ℕ). UnescapesTo z None) h.begins.1 h.none, refl)

-- parts up to a refusal show the first bad escape
join_fails : (s : Undecoded) (ps : List StringPart) (e : Diagnostic) → RunsTo s ps (Some e) → (i : ℕ) × IsBadEscapeAt s.rest i × ReportsBadEscape e (s.pos + i)
join_fails s [] e r = (0, bad_here s r.0 e r.1, subst (λ (z : ℕ). ReportsBadEscape e z) (omega arith) r.1.reported)
join_fails s (p ∷ ps) e r =
    let h = takes s r.0 p r.1 in
    let f = join_fails r.0 ps e r.2 in
    let m : r.0.pos ≡ s.pos + length h.source = h.moved in
    (length h.source + f.0, bad_behind s r.0 p f.0 h f.1, subst (λ (z : ℕ). ReportsBadEscape e z) (omega arith) f.2)

-- the parts of a string join to what it decodes to
pub joins : PartsJoin
joins s ps = (λ r. join_decodes s ps r, λ e r. join_fails s ps e r)
