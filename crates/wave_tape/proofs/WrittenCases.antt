-- Variants, enums, options, results, flags and maps that were written, and what stopped them.
use Rattle.std.proofs.Common.{◌≡◌, ℕ, Bool, true, false, cond, List, [], ◌++◌, Option, Some, None, Result, Ok, Err, Bor, refl, sym, ap, subst, ◌∙◌, codes}
use Rattle.std.specs.Int.{w64}
use Rattle.std.proofs.lemmas.List.{append-nil}
use Rattle.wave_wasm.specs.ConstructorContracts.{HasFullParts, leaf_entries, payload_and}
use Rattle.wave_wasm.specs.Keywords.{case_label}
use Rattle.wave_wasm.specs.Lists.{AllOf}
use Rattle.wave_wasm.specs.Merge.{merged_maybe}
use Rattle.wave_wasm.specs.Names.{is_one_of}
use Rattle.wave_wasm.specs.Text.{text, printed_payload}
use Rattle.wave_wasm.specs.Types as type
use Rattle.wave_wasm.specs.Types.{TypeTree, MaybeType, Cases, EachNamesOfMaybe, no_type, a_type, maybe_type}
use Rattle.wave_wasm.specs.Values as value
use Rattle.wave_wasm.specs.Values.{Leaf, Value, MaybeValue, IsWellFormed, a_value, no_value, entries}
use Rattle.wave_tape.specs.Names.{AreTexts, HasTextNames}
use Rattle.wave_tape.specs.declared.error.TapeErrorKind.TheVariants as kinds
use Rattle.wave_tape.specs.declared.error.Stop.{Stop}
use Rattle.wave_tape.specs.declared.error.Stop.TheVariants as stops
use Rattle.wave_tape.specs.Reading.{Fault, Reading, fault, ◌>>=◌, number_at, choice_at, name_at, leaf_at, times, flags_at, pair_at, value_at, payload_at, case_at}
use Rattle.wave_tape.specs.Private.Readers.{IsFaultOf, Fails, IsFullOption, AreNamesRead}
use Rattle.wave_tape.specs.Private.TextWriters.{WritesRead, IsWritten, IsPayloadWritten, EntriesAreWritten}
use Rattle.wave_tape.proofs.Readings.{stops_at, fails_of, read_as}
use Rattle.wave_tape.proofs.TypeParts.{IsMapType}
use Rattle.wave_tape.proofs.Cases.{FoundCase, case_behind, enum_behind, result_behind, flags_behind, map_behind, as_map, as_flags, entries_read, entries_err}
use Rattle.wave_tape.proofs.WrittenReadings.{written_between, written_behind, part_stopped, fault_first}

-- the text of a payload
abbrev pub said_payload : MaybeValue → List ℕ
said_payload m = printed_payload (merged_maybe m)

module _ (Full : TypeTree → Type 0) (parts : HasFullParts Full) where
  -- reading at the type stopped so
  abbrev Stops : TypeTree → List ℕ → Stop → Type 0
  Stops T bytes s = HasTextNames T → Fails (Full T) s (value_at T bytes)

  -- what was written, behind another text
  behind : {A : Type 0} (says : A → List ℕ) (Named All : Type 0) (read : Reading A) (old mid new : List ℕ) (r : Result (Bor (List ℕ)) Stop) → mid ≡ old → WritesRead says Named All read mid new r → WritesRead says Named All read old new r
  behind says Named All read old mid new r is h = subst (λ (s : List ℕ). WritesRead says Named All read s new r) is h

  -- ---- a variant

  pub name_stopped : (T : TypeTree) (cs : Cases) (bytes : List ℕ) (s : Stop) → T ≡ type.variant cs → IsFaultOf s (name_at bytes) → Stops T bytes s
  name_stopped T cs bytes s is h =
      fault_first (HasTextNames T) (Full T) (name_at bytes) (value_at T bytes) s (λ x e. ap (λ (U : TypeTree). value_at U bytes) is ∙ ap (λ (q : Reading (List ℕ)). q >>= case_behind cs bytes) e) h

  pub case_stop : (T : TypeTree) (cs : Cases) (bytes name rest : List ℕ) (x : Fault) → T ≡ type.variant cs → name_at bytes ≡ Ok (name, rest) → case_at cs bytes name rest ≡ Err x → value_at T bytes ≡ Err x
  case_stop T cs bytes name rest x is reads e = ap (λ (U : TypeTree). value_at U bytes) is ∙ (ap (λ (q : Reading (List ℕ)). q >>= case_behind cs bytes) reads ∙ e)

  pub variant_written : (T : TypeTree) (cs : Cases) (P : Option TypeTree) (bytes name rest old mid new : List ℕ) (r : Result (Bor (List ℕ)) Stop) → T ≡ type.variant cs → name_at bytes ≡ Ok (name, rest) → FoundCase Full cs name P → mid ≡ old ++ case_label name → IsPayloadWritten Full P rest mid new r → IsWritten Full T bytes old new r
  variant_written T cs P bytes name rest old mid new r is reads found label h =
      written_behind said_payload text (λ (m : MaybeValue). value.variant name m) (EachNamesOfMaybe AreTexts (maybe_type P)) (IsFullOption Full P) (HasTextNames T) (Full T) (payload_at (maybe_type P) rest) (value_at T bytes)
      (ap (λ (U : TypeTree). value_at U bytes) is ∙ (ap (λ (q : Reading (List ℕ)). q >>= case_behind cs bytes) reads ∙ found.reads bytes rest)) old (case_label name) new r (λ m. refl)
      (λ named. found.texts (subst HasTextNames is named).1) (λ full. found.full (parts (type.variant cs) (subst Full is full)))
      (behind said_payload (EachNamesOfMaybe AreTexts (maybe_type P)) (IsFullOption Full P) (payload_at (maybe_type P) rest) (old ++ case_label name) mid new r label h)

  -- ---- an enum

  pub enum_stopped : (T : TypeTree) (names : List (List ℕ)) (bytes : List ℕ) (s : Stop) → T ≡ type.enum names → IsFaultOf s (name_at bytes) → Stops T bytes s
  enum_stopped T names bytes s is h =
      fault_first (HasTextNames T) (Full T) (name_at bytes) (value_at T bytes) s (λ x e. ap (λ (U : TypeTree). value_at U bytes) is ∙ ap (λ (q : Reading (List ℕ)). q >>= enum_behind names bytes) e) h

  pub enum_is : (T : TypeTree) (names : List (List ℕ)) (bytes name rest : List ℕ) (b : Bool) → T ≡ type.enum names → name_at bytes ≡ Ok (name, rest) → is_one_of names name ≡ b → value_at T bytes ≡ cond b (read_as (value.enum name) rest) (Err (fault kinds.Name bytes))
  enum_is T names bytes name rest b is reads test =
      ap (λ (U : TypeTree). value_at U bytes) is
      ∙ (ap (λ (q : Reading (List ℕ)). q >>= enum_behind names bytes) reads ∙ ap (λ (c : Bool). cond c (read_as (value.enum name) rest) (Err (fault kinds.Name bytes))) test)

  -- ---- a payload

  pub payload_written : (P : Option TypeTree) (T : TypeTree) (bytes old front mid new : List ℕ) (rest : Bor (List ℕ)) → P ≡ Some T → front ≡ old ++ codes "(" → new ≡ mid ++ codes ")" → IsWritten Full T bytes front mid (Ok rest) → IsPayloadWritten Full P bytes old new (Ok rest)
  payload_written P T bytes old front mid new rest is opened closed h =
      subst (λ (Q : Option TypeTree). IsPayloadWritten Full Q bytes old new (Ok rest)) (sym is)
      (subst (λ (s : List ℕ). IsPayloadWritten Full (Some T) bytes old s (Ok rest)) (sym closed)
      (written_between text said_payload a_value (HasTextNames T) (Full T) (EachNamesOfMaybe AreTexts (a_type T)) (IsFullOption Full (Some T)) (value_at T bytes) (payload_at (a_type T) bytes) refl old (codes "(") (codes ")") mid rest (λ v. refl)
      (behind text (HasTextNames T) (Full T) (value_at T bytes) (old ++ codes "(") front mid (Ok rest) opened h)))

  pub payload_stopped : (P : Option TypeTree) (T : TypeTree) (bytes : List ℕ) (s : Stop) → P ≡ Some T → Stops T bytes s → EachNamesOfMaybe AreTexts (maybe_type P) → Fails (IsFullOption Full P) s (payload_at (maybe_type P) bytes)
  payload_stopped P T bytes s is h =
      subst (λ (Q : Option TypeTree). EachNamesOfMaybe AreTexts (maybe_type Q) → Fails (IsFullOption Full Q) s (payload_at (maybe_type Q) bytes)) (sym is)
      (part_stopped (HasTextNames T) (Full T) (HasTextNames T) (Full T) (value_at T bytes) (payload_at (a_type T) bytes) s (λ x e. stops_at (value_at T bytes) (λ y. read_as (a_value y.0) y.1) x e) (λ n. n) (λ f. f) h)

  pub no_payload : (P : Option TypeTree) (old : List ℕ) (bytes : Bor (List ℕ)) → P ≡ None → IsPayloadWritten Full P bytes.now old old (Ok bytes)
  no_payload P old bytes is = subst (λ (Q : Option TypeTree). IsPayloadWritten Full Q bytes.now old old (Ok bytes)) (sym is) (no_value, refl, sym (append-nil old))

  -- ---- a result

  pub result_stopped : (T : TypeTree) (A B : Option TypeTree) (bytes : List ℕ) (s : Stop) → T ≡ type.result (maybe_type A) (maybe_type B) → IsFaultOf s (choice_at bytes) → Stops T bytes s
  result_stopped T A B bytes s is h =
      fault_first (HasTextNames T) (Full T) (choice_at bytes) (value_at T bytes) s (λ x e. ap (λ (U : TypeTree). value_at U bytes) is ∙ ap (λ (q : Reading Bool). q >>= result_behind (maybe_type A) (maybe_type B)) e) h

  first_full : (A : Option TypeTree) (more : List TypeTree) → AllOf Full (payload_and (maybe_type A) more) → IsFullOption Full A
  first_full None more h = tt
  first_full (Some T) more h = h.0

  second_full : (A B : Option TypeTree) → AllOf Full (payload_and (maybe_type A) (payload_and (maybe_type B) [])) → IsFullOption Full B
  second_full None B h = first_full B [] h
  second_full (Some T) B h = first_full B [] h.1

  pub ok_written : (T : TypeTree) (A B : Option TypeTree) (bytes rest old mid new : List ℕ) (b : Bool) (r : Result (Bor (List ℕ)) Stop) → T ≡ type.result (maybe_type A) (maybe_type B) → choice_at bytes ≡ Ok (b, rest) → b ≡ false → mid ≡ old ++ codes "ok" → IsPayloadWritten Full A rest mid new r → IsWritten Full T bytes old new r
  ok_written T A B bytes rest old mid new b r is reads fine word h =
      let U = type.result (maybe_type A) (maybe_type B) in
      written_behind said_payload text value.ok (EachNamesOfMaybe AreTexts (maybe_type A)) (IsFullOption Full A) (HasTextNames T) (Full T) (payload_at (maybe_type A) rest) (value_at T bytes)
      (ap (λ (X : TypeTree). value_at X bytes) is ∙ (ap (λ (q : Reading Bool). q >>= result_behind (maybe_type A) (maybe_type B)) reads ∙ ap (λ (c : Bool). result_behind (maybe_type A) (maybe_type B) (c, rest)) fine)) old (codes "ok") new r (λ m. refl)
      (λ named. (subst HasTextNames is named).0) (λ full. first_full A (payload_and (maybe_type B) []) (parts U (subst Full is full)))
      (behind said_payload (EachNamesOfMaybe AreTexts (maybe_type A)) (IsFullOption Full A) (payload_at (maybe_type A) rest) (old ++ codes "ok") mid new r word h)

  pub err_written : (T : TypeTree) (A B : Option TypeTree) (bytes rest old mid new : List ℕ) (b : Bool) (r : Result (Bor (List ℕ)) Stop) → T ≡ type.result (maybe_type A) (maybe_type B) → choice_at bytes ≡ Ok (b, rest) → b ≡ true → mid ≡ old ++ codes "err" → IsPayloadWritten Full B rest mid new r → IsWritten Full T bytes old new r
  err_written T A B bytes rest old mid new b r is reads fine word h =
      let U = type.result (maybe_type A) (maybe_type B) in
      written_behind said_payload text value.err (EachNamesOfMaybe AreTexts (maybe_type B)) (IsFullOption Full B) (HasTextNames T) (Full T) (payload_at (maybe_type B) rest) (value_at T bytes)
      (ap (λ (X : TypeTree). value_at X bytes) is ∙ (ap (λ (q : Reading Bool). q >>= result_behind (maybe_type A) (maybe_type B)) reads ∙ ap (λ (c : Bool). result_behind (maybe_type A) (maybe_type B) (c, rest)) fine)) old (codes "err") new r (λ m. refl)
      (λ named. (subst HasTextNames is named).1) (λ full. second_full A B (parts U (subst Full is full)))
      (behind said_payload (EachNamesOfMaybe AreTexts (maybe_type B)) (IsFullOption Full B) (payload_at (maybe_type B) rest) (old ++ codes "err") mid new r word h)

  -- ---- flags

  pub flags_counted : (T : TypeTree) (names : List (List ℕ)) (bytes : List ℕ) (s : Stop) → T ≡ type.flags names → IsFaultOf s (number_at w64 bytes) → Stops T bytes s
  flags_counted T names bytes s is h =
      fault_first (HasTextNames T) (Full T) (number_at w64 bytes) (value_at T bytes) s (λ x e. ap (λ (U : TypeTree). value_at U bytes) is ∙ ap (λ (q : Reading ℕ). q >>= flags_behind names) e) h

  pub flags_are : (T : TypeTree) (names : List (List ℕ)) (bytes : List ℕ) (n : ℕ) (rest : List ℕ) → T ≡ type.flags names → number_at w64 bytes ≡ Ok (n, rest) → value_at T bytes ≡ (flags_at names n rest >>= as_flags)
  flags_are T names bytes n rest is count = ap (λ (U : TypeTree). value_at U bytes) is ∙ ap (λ (q : Reading ℕ). q >>= flags_behind names) count

  pub flags_stopped : (T : TypeTree) (names : List (List ℕ)) (bytes : List ℕ) (n : ℕ) (rest : List ℕ) (s : Stop) → T ≡ type.flags names → number_at w64 bytes ≡ Ok (n, rest) → AreNamesRead names n rest (Err s) → Stops T bytes s
  flags_stopped T names bytes n rest s is count h = λ named. names_fail s (λ x e. flags_are T names bytes n rest is count ∙ stops_at (flags_at names n rest) as_flags x e) h
    where
      names_fail : (s : Stop) → ((x : Fault) → flags_at names n rest ≡ Err x → value_at T bytes ≡ Err x) → AreNamesRead names n rest (Err s) → Fails (Full T) s (value_at T bytes)
      names_fail stops.Memory f h = tt
      names_fail (stops.Refused left) f h = absurd (h tt)
      names_fail (stops.Fault kind left) f h = f (record { kind = kind; left = left }) h

  -- ---- maps

  pub map_counted : (T K V : TypeTree) (bytes : List ℕ) (s : Stop) → IsMapType T K V → IsFaultOf s (number_at w64 bytes) → Stops T bytes s
  map_counted T K V bytes s is h =
      fault_first (HasTextNames T) (Full T) (number_at w64 bytes) (value_at T bytes) s (λ x e. ap (λ (U : TypeTree). value_at U bytes) is.is ∙ ap (λ (q : Reading ℕ). q >>= map_behind is.key V) e) h

  pub map_are : (T K V : TypeTree) (bytes : List ℕ) (n : ℕ) (rest : List ℕ) → (is : IsMapType T K V) → number_at w64 bytes ≡ Ok (n, rest) → value_at T bytes ≡ (times (pair_at (leaf_at is.key) (value_at V)) n rest >>= as_map)
  map_are T K V bytes n rest is count = ap (λ (U : TypeTree). value_at U bytes) is.is ∙ ap (λ (q : Reading ℕ). q >>= map_behind is.key V) count

  pub map_stopped : (T K V : TypeTree) (bytes : List ℕ) (n : ℕ) (rest : List ℕ) (s : Stop) → IsMapType T K V → number_at w64 bytes ≡ Ok (n, rest) → EntriesAreWritten Full K V n rest (Err s) → Stops T bytes s
  map_stopped T K V bytes n rest s is count h = λ named.
      let L = is.key in
      let each = subst (λ (U : TypeTree). EntriesAreWritten Full U V n rest (Err s)) is.key_is h in
      fails_of (Full (type.simple L) × Full V) (Full T) s (times (pair_at (value_at (type.simple L)) (value_at V)) n rest) (value_at T bytes)
      (λ full. let all = parts (type.map L V) (subst Full is.is full) in (all.0, all.1.0))
      (λ x e. map_are T K V bytes n rest is count ∙ stops_at (times (pair_at (leaf_at L) (value_at V)) n rest) as_map x (entries_err L V n rest x e)) (each tt (subst HasTextNames is.is named))

  -- the entries of a map that was read
  pub map_reads : (T K V : TypeTree) (bytes : List ℕ) (n : ℕ) (rest : List ℕ) (es : List (Value × Value)) (after : List ℕ) → (is : IsMapType T K V) → number_at w64 bytes ≡ Ok (n, rest) → times (pair_at (value_at K) (value_at V)) n rest ≡ Ok (es, after)
      → (all : List (Leaf × Value)) × (leaf_entries all ≡ es) × (value_at T bytes ≡ Ok (value.map (entries all), after))
  map_reads T K V bytes n rest es after is count e =
      let read = entries_read is.key V n rest es after (subst (λ (U : TypeTree). times (pair_at (value_at U) (value_at V)) n rest ≡ Ok (es, after)) is.key_is e) in
      (read.es, read.are, map_are T K V bytes n rest is count ∙ ap (λ (q : Reading (List (Leaf × Value))). q >>= as_map) read.read)

  -- the names of an enum are texts
  pub enum_named : (T : TypeTree) (names : List (List ℕ)) → T ≡ type.enum names → HasTextNames T → AreTexts names
  enum_named T names is named = subst HasTextNames is named
