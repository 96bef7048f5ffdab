-- What a reader of the code answers. S is the Rust type of the values, `tree` says what one means, `of` when it is of a type, `Full` at which types constructors refuse for memory alone.
use Rattle.std.specs.Prelude.{ℕ, ◌≡◌, List, [], ◌∷◌, map, Result, Ok, Err, Option, Some, None, option_map}
use Rattle.std.specs.Borrow.{Bor}
use Rattle.std.specs.Global.{Vec}
use Rattle.wave_wasm.specs.Lists.{AllOf}
use Rattle.wave_wasm.specs.Types as type
use Rattle.wave_wasm.specs.Types.{TypeTree, HasDistinctNames, EachNamesOfMaybe, maybe_type, simple_kind}
use Rattle.wave_wasm.specs.Names.{AreDistinct}
use Rattle.wave_wasm.specs.Values.{Value, maybe_value}
use Rattle.wave_wasm.specs.Borrowed.{texts}
use Rattle.wave_wasm.specs.ConstructorContracts.{IsMemory, AreOf, FieldsAreOf, PayloadIsOf, entry_trees, field_trees}
use Rattle.wave_wasm.specs.declared.wasm.WasmTypeKind.{WasmTypeKind}
use Rattle.wave_wasm.specs.declared.wasm.WasmValueError.{WasmValueError}
use Rattle.wave_tape.specs.Names.{HasTextNames, AreTexts}
use Rattle.wave_tape.specs.Reading.{Fault, Reading, ◌>>=◌, value_at, payload_at, flags_at, pair_at, times, tape_at}
use Rattle.wave_tape.specs.declared.error.Stop.{Stop}
use Rattle.wave_tape.specs.declared.error.Stop.TheVariants as stops

-- reading stopped at the fault that reading gives
abbrev pub IsFaultOf : {A : Type 0} → Stop → Result A Fault → Type 0
IsFaultOf stops.Memory read = ⊥
IsFaultOf (stops.Refused left) read = ⊥
IsFaultOf (stops.Fault kind left) read = read ≡ Err (record { kind = kind; left = left })

-- what was answered, seen by view, is what reading gives
abbrev pub Gives : {X Y : Type 0} → (X → Y) → Result X Stop → Result Y Fault → Type 0
Gives view (Ok x) read = read ≡ Ok (view x)
Gives view (Err s) read = IsFaultOf s read

-- reading stopped for want of memory, or at the fault that reading gives, or a constructor refused, and that not at a full type
abbrev pub Fails : {A : Type 0} → Type 0 → Stop → Result A Fault → Type 0
Fails Full stops.Memory read = Unit {0}
Fails Full (stops.Refused left) read = Full → ⊥
Fails Full (stops.Fault kind left) read = read ≡ Err (record { kind = kind; left = left })

-- a constructor's refusal, handed on
abbrev pub IsRefusal : WasmValueError → Stop → Type 0
IsRefusal e stops.Memory = Unit {0}
IsRefusal e (stops.Refused left) = IsMemory e → ⊥
IsRefusal e (stops.Fault kind left) = ⊥

-- what a constructor answered, handed on with the bytes behind the value
abbrev pub IsBuilt : {S : Type 0} → Result S WasmValueError → List ℕ → Result (S × Bor (List ℕ)) Stop → Type 0
IsBuilt (Ok v) rest (Ok x) = (x.0 ≡ v) × (x.1.now ≡ rest)
IsBuilt (Err e) rest (Err s) = IsRefusal e s
IsBuilt made rest answer = ⊥

-- this many of the names were read, in their order
abbrev pub AreNamesRead : List (List ℕ) → ℕ → List ℕ → Result (Vec (Bor (List ℕ)) × Bor (List ℕ)) Stop → Type 0
AreNamesRead names n bytes (Ok x) = flags_at names n bytes ≡ Ok (texts x.0.items, x.1.now)
AreNamesRead names n bytes (Err s) = Fails (Unit {0}) s (flags_at names n bytes)

-- a value of each type
abbrev pub each_at : List TypeTree → List ℕ → Reading (List Value)
each_at [] bytes = Ok ([], bytes)
each_at (T ∷ Ts) bytes = value_at T bytes >>= λ first. each_at Ts first.1 >>= λ others. Ok (first.0 ∷ others.0, others.1)

-- a value of each field, under its name
abbrev pub each_field_at : List (List ℕ × TypeTree) → List ℕ → Reading (List (List ℕ × Value))
each_field_at [] bytes = Ok ([], bytes)
each_field_at (f ∷ fs) bytes = value_at f.1 bytes >>= λ first. each_field_at fs first.1 >>= λ others. Ok ((f.0, first.0) ∷ others.0, others.1)

-- the type is full, where there is one
abbrev pub IsFullOption : (TypeTree → Type 0) → Option TypeTree → Type 0
IsFullOption Full None = Unit {0}
IsFullOption Full (Some T) = Full T

module _ {S : Type 0} (tree : S → Value) (of : S → TypeTree → Type 0) (Full : TypeTree → Type 0) where
  -- a value was read at the type
  abbrev pub IsRead : TypeTree → List ℕ → Result (S × Bor (List ℕ)) Stop → Type 0
  IsRead T bytes (Ok x) = HasDistinctNames T → (value_at T bytes ≡ Ok (tree x.0, x.1.now)) × of x.0 T
  IsRead T bytes (Err s) = HasDistinctNames T → HasTextNames T → Fails (Full T) s (value_at T bytes)

  -- a value of one token was read at the type of this kind
  abbrev pub IsLeafRead : WasmTypeKind → List ℕ → Result (S × Bor (List ℕ)) Stop → Type 0
  IsLeafRead kind bytes r = (R : type.Simple) → kind ≡ simple_kind R → IsRead (type.simple R) bytes r

  -- this many values were read at the type
  abbrev pub AreRead : TypeTree → ℕ → List ℕ → Result (Vec S × Bor (List ℕ)) Stop → Type 0
  AreRead T n bytes (Ok x) = HasDistinctNames T → (times (value_at T) n bytes ≡ Ok (map tree x.0.items, x.1.now)) × AllOf (λ v. of v T) x.0.items
  AreRead T n bytes (Err s) = HasDistinctNames T → HasTextNames T → Fails (Full T) s (times (value_at T) n bytes)

  -- this many keys and values were read at their types
  abbrev pub EntriesAreRead : TypeTree → TypeTree → ℕ → List ℕ → Result (Vec (S × S) × Bor (List ℕ)) Stop → Type 0
  EntriesAreRead K V n bytes (Ok x) =
      HasDistinctNames K → HasDistinctNames V
      → (times (pair_at (value_at K) (value_at V)) n bytes ≡ Ok (entry_trees tree x.0.items, x.1.now)) × AllOf (λ e. of e.0 K × of e.1 V) x.0.items
  EntriesAreRead K V n bytes (Err s) =
      HasDistinctNames K → HasDistinctNames V → HasTextNames K → HasTextNames V → Fails (Full K × Full V) s (times (pair_at (value_at K) (value_at V)) n bytes)

  -- a value was read at each type
  abbrev pub AreReadEach : List TypeTree → List ℕ → Result (Vec S × Bor (List ℕ)) Stop → Type 0
  AreReadEach Ts bytes (Ok x) = AllOf HasDistinctNames Ts → (each_at Ts bytes ≡ Ok (map tree x.0.items, x.1.now)) × AreOf of Ts x.0.items
  AreReadEach Ts bytes (Err s) = AllOf HasDistinctNames Ts → AllOf HasTextNames Ts → Fails (AllOf Full Ts) s (each_at Ts bytes)

  -- a value was read of each field
  abbrev pub FieldsAreRead : List (List ℕ × TypeTree) → List ℕ → Result (Vec (Bor (List ℕ) × S) × Bor (List ℕ)) Stop → Type 0
  FieldsAreRead fs bytes (Ok x) =
      AllOf (λ f. HasDistinctNames f.1) fs → (each_field_at fs bytes ≡ Ok (field_trees tree x.0.items, x.1.now)) × FieldsAreOf of fs x.0.items
  FieldsAreRead fs bytes (Err s) =
      AllOf (λ f. HasDistinctNames f.1) fs → AllOf (λ f. HasTextNames f.1) fs → Fails (AllOf (λ f. Full f.1) fs) s (each_field_at fs bytes)

  -- a payload was read, where it has a type
  abbrev pub IsPayloadRead : Option TypeTree → List ℕ → Result (Option S × Bor (List ℕ)) Stop → Type 0
  IsPayloadRead P bytes (Ok x) =
      EachNamesOfMaybe AreDistinct (maybe_type P)
      → (payload_at (maybe_type P) bytes ≡ Ok (maybe_value (option_map tree x.0), x.1.now)) × PayloadIsOf of P x.0
  IsPayloadRead P bytes (Err s) =
      EachNamesOfMaybe AreDistinct (maybe_type P) → EachNamesOfMaybe AreTexts (maybe_type P) → Fails (IsFullOption Full P) s (payload_at (maybe_type P) bytes)

  -- all of the bytes were read at the type
  abbrev pub IsTapeRead : TypeTree → List ℕ → Result S Stop → Type 0
  IsTapeRead T bytes (Ok v) = HasDistinctNames T → (tape_at T bytes ≡ Ok (tree v)) × of v T
  IsTapeRead T bytes (Err s) = HasDistinctNames T → HasTextNames T → Fails (Full T) s (tape_at T bytes)
