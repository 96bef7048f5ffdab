-- A whole tape: the version, a value, and nothing behind it.
use Rattle.std.proofs.Common.{◌≡◌, ◌≢◌, ◌≤◌, ◌-◌, ◌^◌, ◌<◌, ℕ, Bool, true, false, cond, eqb, List, [], ◌∷◌, length, Result, Ok, Err, inl, inr, refl, sym, ap, subst, ◌∙◌, arith}
use Rattle.std.specs.Int.{w8}
use Rattle.std.proofs.lemmas.Bool.{eqb-true}
use Rattle.std.proofs.lemmas.List.{nil_from_length}
use Rattle.wave_wasm.specs.Types.{TypeTree, HasDistinctNames}
use Rattle.wave_wasm.specs.Values.{Value}
use Rattle.wave_wasm.specs.HasType.{HasType}
use Rattle.wave_tape.specs.Tape.{tape}
use Rattle.wave_tape.specs.Errors.{Refusal, kind_of, place_of}
use Rattle.wave_tape.specs.Decoding.{IsLacking, IsFirstFault}
use Rattle.wave_tape.specs.declared.error.TapeErrorKind.TheVariants as kinds
use Rattle.wave_tape.specs.declared.error.TapeErrorKind.{TapeErrorKind}
use Rattle.wave_tape.specs.declared.error.Stop.{Stop}
use Rattle.wave_tape.specs.declared.error.Stop.TheVariants as stops
use Rattle.wave_tape.specs.Reading.{Fault, Reading, fault, ◌>>=◌, number_at, value_at, end_at, tape_at}
use Rattle.wave_tape.specs.Private.Readers.{Fails}
use Rattle.wave_tape.proofs.Fields.{ok_is}
use Rattle.wave_tape.proofs.Again.{tape_again}

abbrev to_end : Value × List ℕ → Result Value Fault
to_end x = end_at x.0 x.1

abbrev behind_version : TypeTree → List ℕ → ℕ × List ℕ → Result Value Fault
behind_version T bytes version = cond (eqb version.0 1) (value_at T version.1 >>= to_end) (Err (fault kinds.Version bytes))

more_behind : (v : Value) (behind : List ℕ) → 1 ≤ length behind → end_at v behind ≡ Err (fault kinds.Trailing behind)
more_behind v [] some = absurd (omega (arith, some))
more_behind v (b ∷ behind) some = refl

not_one : (n : ℕ) → n ≢ 1 → eqb n 1 ≡ false
not_one n other = by (eqb n 1) refl
  where
    by : (b : Bool) → eqb n 1 ≡ b → b ≡ false
    by true e = absurd (other (eqb-true n 1 e))
    by false e = refl

module _ (T : TypeTree) (bytes : List ℕ) where
  pub version_stop : (x : Fault) → number_at w8 bytes ≡ Err x → tape_at T bytes ≡ Err x
  version_stop x e = ap (λ (q : Reading ℕ). q >>= behind_version T bytes) e

  module _ (n : ℕ) (rest : List ℕ) (read : number_at w8 bytes ≡ Ok (n, rest)) where
    pub other_version : n ≢ 1 → tape_at T bytes ≡ Err (fault kinds.Version bytes)
    other_version other =
        ap (λ (q : Reading ℕ). q >>= behind_version T bytes) read ∙ ap (λ (b : Bool). cond b (value_at T rest >>= to_end) (Err (fault kinds.Version bytes))) (not_one n other)

    at_version : n ≡ 1 → tape_at T bytes ≡ (value_at T rest >>= to_end)
    at_version one = ap (λ (q : Reading ℕ). q >>= behind_version T bytes) read ∙ ap (λ (k : ℕ). behind_version T bytes (k, rest)) one

    pub value_stop : n ≡ 1 → (x : Fault) → value_at T rest ≡ Err x → tape_at T bytes ≡ Err x
    value_stop one x e = at_version one ∙ ap (λ (q : Reading Value). q >>= to_end) e

    pub whole_value : n ≡ 1 → (v : Value) (behind : List ℕ) → value_at T rest ≡ Ok (v, behind) → length behind ≡ 0 → tape_at T bytes ≡ Ok v
    whole_value one v behind e none = at_version one ∙ (ap (λ (q : Reading Value). q >>= to_end) e ∙ ap (end_at v) (nil_from_length behind none))

    pub trailing : n ≡ 1 → (v : Value) (behind : List ℕ) → value_at T rest ≡ Ok (v, behind) → 1 ≤ length behind → tape_at T bytes ≡ Err (fault kinds.Trailing behind)
    trailing one v behind e some = at_version one ∙ (ap (λ (q : Reading Value). q >>= to_end) e ∙ more_behind v behind some)

-- ---- what a refusal says

-- the refusal stands for why reading stopped
pub record Stands (e : Refusal) (s : Stop) (len : ℕ) : Type 0 where
  pub kind : e.kind ≡ kind_of s
  pub place : e.place ≡ place_of len s

abbrev fails_as : Fault → Result Value Fault
fails_as x = Err x

pub first_fault : (Full : Type 0) (s : Stop) (e : Refusal) (bytes : List ℕ) (len : ℕ) (read : Result Value Fault) → len ≡ length bytes → Stands e s len → Fails Full s read → IsFirstFault Full e bytes read
first_fault Full stops.Memory e bytes len read same stands h = inl (inl (stands.kind, stands.place))
first_fault Full (stops.Refused left) e bytes len read same stands h = inl (inr (stands.kind, h))
first_fault Full (stops.Fault kind left) e bytes len read same stands h =
    inr (left, h ∙ ap (λ (k : TapeErrorKind). fails_as (record { kind = k; left = left })) (sym stands.kind), stands.place ∙ ap (λ (n : ℕ). n - left) same)

-- what is read of a tape is refused for lack of memory, or by a constructor
pub lacking : (Full : Type 0) (s : Stop) (e : Refusal) (len : ℕ) (read : Result Value Fault) (v : Value) → Stands e s len → Fails Full s read → read ≡ Ok v → IsLacking Full e
lacking Full stops.Memory e len read v stands h ok = inl (stands.kind, stands.place)
lacking Full (stops.Refused left) e len read v stands h ok = inr (stands.kind, h)
lacking Full (stops.Fault kind left) e len read v stands h ok = absurd cc

place_within : (s : Stop) (len : ℕ) → place_of len s ≤ len
place_within stops.Memory len = omega arith
place_within (stops.Refused left) len = omega arith
place_within (stops.Fault kind left) len = omega arith

pub within : (s : Stop) (e : Refusal) (len : ℕ) → Stands e s len → e.place ≤ len
within s e len stands = let h = place_within s len in omega (arith, h, stands.place)

-- the bytes of a tape are read as its value
pub again : (T : TypeTree) (v : Value) (bytes : List ℕ) → HasDistinctNames T → HasType T v → length bytes < 2 ^ 64 → bytes ≡ tape v → tape_at T bytes ≡ Ok v
again T v bytes distinct typed small same = ap (tape_at T) same ∙ tape_again T v distinct typed (subst (λ (s : List ℕ). length s < 2 ^ 64) same small)

pub same_value : (read : Result Value Fault) (v w : Value) → read ≡ Ok v → read ≡ Ok w → v ≡ w
same_value read v w e f = ok_is v w (sym e ∙ f)
