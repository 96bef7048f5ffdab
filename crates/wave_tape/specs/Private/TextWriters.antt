-- What a writer of text straight from a tape answers. `Full` says at which types constructors refuse for memory alone.
use Rattle.std.specs.Prelude.{ℕ, ◌≡◌, Bool, List, ◌++◌, map, Result, Ok, Err, Option, Some, String}
use Rattle.std.specs.Borrow.{Bor}
use Rattle.std.specs.Global.{Vec}
use Rattle.std.specs.declared.alloc.Global.{Global}
use Rattle.std.specs.String.{string_bytes}
use Rattle.wave_wasm.specs.Commas.{behind_name, joined}
use Rattle.wave_wasm.specs.ConstructorContracts.{list_value}
use Rattle.wave_wasm.specs.Merge.{merged_maybe}
use Rattle.wave_wasm.specs.Text.{text, leaf_text, printed_payload}
use Rattle.wave_wasm.specs.TextParts.{whole_text}
use Rattle.wave_wasm.specs.Types as type
use Rattle.wave_wasm.specs.Types.{TypeTree, EachNamesOfMaybe, list_part, maybe_type, simple_kind, whole_kind}
use Rattle.wave_wasm.specs.Values.{Leaf, Value}
use Rattle.wave_wasm.specs.declared.wasm.WasmTypeKind.{WasmTypeKind}
use Rattle.wave_wasm.specs.declared.wasm.WasmValueError.{WasmValueError}
use Rattle.wave_tape.specs.Names.{HasTextNames, AreTexts}
use Rattle.wave_tape.specs.Reading.{Reading, ◌>>=◌, leaf_at, value_at, payload_at, pair_at, times, tape_at}
use Rattle.wave_tape.specs.Private.Readers.{IsFaultOf, Fails, IsFullOption, IsRefusal}
use Rattle.wave_tape.specs.declared.error.Stop.{Stop}
use Rattle.wave_tape.specs.declared.error.Stop.TheVariants as stops

-- the text of what reading gives was appended, and the bytes behind it are answered; else why reading stopped, where the names are texts
abbrev pub WritesRead : {A : Type 0} → (A → List ℕ) → Type 0 → Type 0 → Reading A → List ℕ → List ℕ → Result (Bor (List ℕ)) Stop → Type 0
WritesRead {A = A} said Named Full read old new (Ok rest) = (x : A) × (read ≡ Ok (x, rest.now)) × (new ≡ old ++ said x)
WritesRead said Named Full read old new (Err s) = Named → Fails Full s read

-- the texts that stand for an entry: its key's, and its own
abbrev pub held_texts : String Global × Unit {0} × String Global → List ℕ × List ℕ
held_texts e = (string_bytes e.0, string_bytes e.2)

-- of a key and its value
abbrev pub entry_texts : Value × Value → List ℕ × List ℕ
entry_texts e = (text e.0, behind_name (text e.0) (text e.1))

module _ (Full : TypeTree → Type 0) where
  -- a value at the type
  abbrev pub IsWritten : TypeTree → List ℕ → List ℕ → List ℕ → Result (Bor (List ℕ)) Stop → Type 0
  IsWritten T bytes old new r = WritesRead text (HasTextNames T) (Full T) (value_at T bytes) old new r

  -- a value of one token, at the type of this kind
  abbrev pub IsLeafWritten : WasmTypeKind → List ℕ → List ℕ → List ℕ → Result (Bor (List ℕ)) Stop → Type 0
  IsLeafWritten kind bytes old new r = (S : type.Simple) → kind ≡ simple_kind S → WritesRead leaf_text (Unit {0}) (Full (type.simple S)) (leaf_at S bytes) old new r

  -- so many values at the type, with commas between
  abbrev pub AreWritten : TypeTree → ℕ → List ℕ → List ℕ → List ℕ → Result (Bor (List ℕ)) Stop → Type 0
  AreWritten T n bytes old new r = WritesRead (λ vs. joined (map text vs)) (HasTextNames T) (Full T) (times (value_at T) n bytes) old new r

  -- a payload, where it has a type
  abbrev pub IsPayloadWritten : Option TypeTree → List ℕ → List ℕ → List ℕ → Result (Bor (List ℕ)) Stop → Type 0
  IsPayloadWritten P bytes old new r =
      WritesRead (λ m. printed_payload (merged_maybe m)) (EachNamesOfMaybe AreTexts (maybe_type P)) (IsFullOption Full P) (payload_at (maybe_type P) bytes) old new r

  -- of so many entries the texts of the key and of the entry
  abbrev pub EntriesAreWritten : TypeTree → TypeTree → ℕ → List ℕ → Result (Vec (String Global × Unit {0} × String Global) × Bor (List ℕ)) Stop → Type 0
  EntriesAreWritten K V n bytes (Ok x) =
      (es : List (Value × Value)) × (times (pair_at (value_at K) (value_at V)) n bytes ≡ Ok (es, x.1.now))
      × (map held_texts x.0.items ≡ map entry_texts es)
  EntriesAreWritten K V n bytes (Err s) = HasTextNames K → HasTextNames V → Fails (Full K × Full V) s (times (pair_at (value_at K) (value_at V)) n bytes)

  -- the text of the value of which all of the bytes are the tape
  abbrev pub IsTapeWritten : TypeTree → List ℕ → Result (String Global) Stop → Type 0
  IsTapeWritten T bytes (Ok s) = (v : Value) × (tape_at T bytes ≡ Ok v) × (string_bytes s ≡ text v)
  IsTapeWritten T bytes (Err s) = HasTextNames T → Fails (Full T) s (tape_at T bytes)

-- a whole number of the type of this kind was read, by its sign and its distance from zero
abbrev pub IsWholeRead : WasmTypeKind → List ℕ → Result (Bool × ℕ × Bor (List ℕ)) Stop → Type 0
IsWholeRead kind bytes (Ok x) =
    (W : type.Whole) → kind ≡ whole_kind W → (one : Leaf) × (leaf_at (type.whole W) bytes ≡ Ok (one, x.2.now)) × (leaf_text one ≡ whole_text x.0 x.1)
IsWholeRead kind bytes (Err s) = (W : type.Whole) → kind ≡ whole_kind W → IsFaultOf s (leaf_at (type.whole W) bytes)

-- what a constructor answered was written
abbrev pub IsMadeWritten : {S : Type 0} → (S → Value) → Result S WasmValueError → List ℕ → List ℕ → List ℕ → Result (Bor (List ℕ)) Stop → Type 0
IsMadeWritten tree (Ok v) rest old new (Ok behind) = (behind.now ≡ rest) × (new ≡ old ++ text (tree v))
IsMadeWritten tree (Ok v) rest old new (Err s) = s ≡ stops.Memory
IsMadeWritten tree (Err e) rest old new (Ok behind) = ⊥
IsMadeWritten tree (Err e) rest old new (Err s) = IsRefusal e s

-- how many items a list has, and where they begin
abbrev pub AreCounted : TypeTree → List ℕ → Result (ℕ × Bor (List ℕ)) Stop → Type 0
AreCounted T bytes (Ok x) = (E : TypeTree) → Some E ≡ list_part T → value_at T bytes ≡ (times (value_at E) x.0 x.1.now >>= λ y. Ok (list_value T y.0, y.1))
AreCounted T bytes (Err s) = IsFaultOf s (value_at T bytes)
