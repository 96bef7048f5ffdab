-- How the tokens that were written join to the whole.
use Rattle.std.proofs.Common.{◌≡◌, ℕ, Bool, true, false, List, [], ◌∷◌, ◌++◌, length, get_or, drop, ◌<◌, ◌≤◌, ◌+◌, Result, Ok, Err, refl, sym, ap, subst, ◌∙◌, append_assoc}
use Rattle.std.specs.Prelude.{OnOk, IfErr}
use Rattle.json.specs.Token.{Token}
use Rattle.json.specs.Written.{Written}
use Rattle.wave_wasm.proofs.CanonicalText.Sequences.{at_item, at_end}
use Rattle.wave_writer.specs.declared.writer.WriterError.{WriterError}
use Rattle.wave_writer.specs.declared.writer.WriterError.TheVariants as refusal
use Rattle.wave_writer.specs.WriterState.{IsGrounded}
use Rattle.wave_json.specs.Private.Writers.{Puts}

-- of the whole these tokens are left to write
pub record Writing (whole left : List Token) (old now : Written) : Type 0 where
  pub put : now.tokens ++ left ≡ old.tokens ++ whole
  pub before : now.before ≡ old.before

-- a part's cause is one of the whole
grounded_later : (e : WriterError) (has all : Bool) → (has ≡ false → all ≡ false) → IsGrounded e has 0 0 → IsGrounded e all 0 0
grounded_later (refusal.Io e) has all f h = h
grounded_later refusal.UnsupportedType has all f h = f h
grounded_later (refusal.Memory e) has all f h = tt

-- all is left
pub writing_none : {whole left : List Token} (old : Written) → whole ≡ left → Writing whole left old old
writing_none old same = record { put = ap (λ (z : List Token). old.tokens ++ z) (sym same); before = refl }

-- other words for what is left
pub writing_as : {whole left other : List Token} {old now : Written} → left ≡ other → Writing whole left old now → Writing whole other old now
writing_as {whole = whole} {old = old} {now = now} same w = subst (λ (z : List Token). Writing whole z old now) same w

-- a part was written
pub writing_more : {whole : List Token} (part : List Token) {left : List Token} {has : Bool} {old now new : Written} → Writing whole (part ++ left) old now → Puts part has (Ok tt) now new → Writing whole left old new
writing_more part {left = left} {now = now} w h = record {
  put = ap (λ (z : List Token). z ++ left) h.ok.0 ∙ (append_assoc now.tokens part left ∙ w.put);
  before = h.before ∙ w.before;
}

-- a part is refused
pub writing_refused : {whole left part : List Token} {has all : Bool} {e : WriterError} {old now new : Written} → Writing whole left old now → (has ≡ false → all ≡ false) → Puts part has (Err e) now new → Puts whole all (Err e) old new
writing_refused {has = has} {all = all} {e = e} w f h = record { ok = tt; err = grounded_later e has all f h.err; before = h.before ∙ w.before }

-- so of a token, which is refused for want of memory alone
pub token_refused : {whole left part : List Token} {all : Bool} {e : WriterError} {old now new : Written} → Writing whole left old now → Puts part true (Err e) now new → Puts whole all (Err e) old new
token_refused w h = writing_refused w (λ e. absurd cc) h

-- the last part decides
pub writing_last : {whole part : List Token} {has all : Bool} {r : Result (Unit {0}) WriterError} {old now new : Written} → Writing whole part old now → all ≡ has → Puts part has r now new → Puts whole all r old new
writing_last {whole = whole} {part = part} {has = has} {all = all} {r = r} {old = old} {now = now} {new = new} w a h = by r h.ok h.err
  where
    by : (r : Result (Unit {0}) WriterError) → OnOk r ((new.tokens ≡ now.tokens ++ part) × (has ≡ true)) → IfErr r (λ e. IsGrounded e has 0 0) → Puts whole all r old new
    by (Ok u) ok err = record { ok = (ok.0 ∙ w.put, a ∙ ok.1); err = tt; before = h.before ∙ w.before }
    by (Err e) ok err = record { ok = tt; err = grounded_later e has all (λ f. a ∙ f) err; before = h.before ∙ w.before }

-- other words for what is written
pub puts_as : {part whole : List Token} {has all : Bool} {r : Result (Unit {0}) WriterError} {old new : Written} → whole ≡ part → all ≡ has → Puts part has r old new → Puts whole all r old new
puts_as {old = old} same a h = writing_last (writing_none old same) a h

-- nothing was written before memory was refused
pub grounded_stop : {whole : List Token} {all has : Bool} {e : WriterError} (old : Written) → (has ≡ false → all ≡ false) → IsGrounded e has 0 0 → Puts whole all (Err e) old old
grounded_stop {all = all} {has = has} {e = e} old f h = record { ok = tt; err = grounded_later e has all f h; before = refl }

-- ---- parts in turn

-- what is left begins with the next part
pub writing_item : {X : Type 0} (h : List X → List Token) (xs : List X) (i : ℕ) (x : X) (part : List Token) {whole : List Token} {old now : Written} → i < length xs → x ≡ get_or xs i x → h (x ∷ drop (i + 1) xs) ≡ part ++ h (drop (i + 1) xs) → Writing whole (h (drop i xs)) old now → Writing whole (part ++ h (drop (i + 1) xs)) old now
writing_item h xs i x part lt is step w = writing_as (at_item h xs i x lt is ∙ step) w

-- nothing but the end is left
pub writing_end : {X : Type 0} (h : List X → List Token) (xs : List X) (i : ℕ) {whole : List Token} {old now : Written} → length xs ≤ i → Writing whole (h (drop i xs)) old now → Writing whole (h []) old now
writing_end h xs i le w = writing_as (at_end h xs i le) w
