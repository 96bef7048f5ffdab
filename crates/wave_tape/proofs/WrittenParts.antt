-- Lists, tuples, records and options that were written, and what stopped them.
use Rattle.std.proofs.Common.{◌≡◌, ◌-◌, ◌<◌, ℕ, Bool, true, false, cond, List, ◌++◌, length, get_or, drop, map, Some, Ok, Bor, refl, sym, ap, subst, ◌∙◌, append_assoc, codes}
use Rattle.wave_wasm.specs.Commas.{joined}
use Rattle.wave_wasm.specs.ConstructorContracts.{IsOfListKind, HasFullParts, list_value}
use Rattle.wave_wasm.specs.Text.{text}
use Rattle.wave_wasm.specs.Types as type
use Rattle.wave_wasm.specs.Types.{TypeTree, kind_of, list_part}
use Rattle.wave_wasm.specs.Values as value
use Rattle.wave_wasm.specs.Values.{Value, a_value, no_value, values, field_values}
use Rattle.wave_tape.specs.Names.{HasTextNames}
use Rattle.wave_tape.specs.declared.error.Stop.{Stop}
use Rattle.wave_tape.specs.Reading.{Reading, ◌>>=◌, choice_at, times, value_at}
use Rattle.wave_tape.specs.Private.Readers.{IsFaultOf, Fails, each_at, each_field_at}
use Rattle.wave_tape.specs.Private.TextWriters.{IsWritten, AreWritten}
use Rattle.wave_tape.proofs.Loops.{with_front, all_shown, each_stop, field_stop, stops_here, times_stop}
use Rattle.wave_tape.proofs.Readings.{stops_at, fails_of, read_as}
use Rattle.wave_tape.proofs.WrittenReadings.{written_between, part_stopped, fault_first, Joining, joining_all, Opening, opening_all, list_text, tuple_text, record_text, list_element}
use Rattle.wave_tape.proofs.WrittenRows.{IsRow, IsFieldRow, some_is, none_is, option_stop}

abbrev said_items : List Value → List ℕ
said_items vs = joined (map text vs)

abbrev Items : TypeTree → TypeTree → ℕ → List ℕ → List ℕ → Type 0
Items T E n bytes rest = value_at T bytes ≡ (times (value_at E) n rest >>= λ y. Ok (list_value T y.0, y.1))

module _ (Full : TypeTree → Type 0) (parts : HasFullParts Full) where
  -- reading at the type stopped so
  abbrev pub Stops : TypeTree → List ℕ → Stop → Type 0
  Stops T bytes s = HasTextNames T → Fails (Full T) s (value_at T bytes)

  -- ---- lists

  pub list_stopped : (T E : TypeTree) (n : ℕ) (bytes first : List ℕ) (s : Stop) → Some E ≡ list_part T → Items T E n bytes first → (HasTextNames E → Fails (Full E) s (times (value_at E) n first)) → Stops T bytes s
  list_stopped T E n bytes first s e is h =
      let element = list_element Full T E e in
      part_stopped (HasTextNames E) (Full E) (HasTextNames T) (Full T) (times (value_at E) n first) (value_at T bytes) s
      (λ x stop. is ∙ stops_at (times (value_at E) n first) (λ y. read_as (list_value T y.0) y.1) x stop) element.named (λ full. element.full (parts T full)) h

  pub list_written : (T E : TypeTree) (n : ℕ) (bytes first old front now new : List ℕ) (rest : Bor (List ℕ)) → IsOfListKind (kind_of T) → Items T E n bytes first → front ≡ old ++ codes "[" → new ≡ now ++ codes "]" → AreWritten Full E n first front now (Ok rest) → IsWritten Full T bytes old new (Ok rest)
  list_written T E n bytes first old front now new rest kind is opened closed h =
      subst (λ (s : List ℕ). IsWritten Full T bytes old s (Ok rest)) (sym closed)
      (written_between said_items text (list_value T) (HasTextNames E) (Full E) (HasTextNames T) (Full T) (times (value_at E) n first) (value_at T bytes) is old (codes "[") (codes "]") now rest (λ vs. list_text T vs kind)
      (subst (λ (s : List ℕ). AreWritten Full E n first s now (Ok rest)) opened h))

  -- one of so many items stopped
  pub item_stopped : (T : TypeTree) (count i : ℕ) (bytes here : List ℕ) (vs : List Value) (s : Stop) → i < count → with_front vs (times (value_at T) (count - i) here) ≡ times (value_at T) count bytes → Stops T here s → HasTextNames T → Fails (Full T) s (times (value_at T) count bytes)
  item_stopped T count i bytes here vs s lt so_far h = λ named.
      fails_of (Full T) (Full T) s (value_at T here) (times (value_at T) count bytes) (λ full. full)
      (λ x e. stops_here vs (times (value_at T) (count - i) here) (times (value_at T) count bytes) x (times_stop (value_at T) count i here x lt e) so_far) (h named)

  -- ---- tuples

  module _ {X : Type 0} (f : X → TypeTree) (xs : List X) (T : TypeTree) (bytes first : List ℕ) (is : value_at T bytes ≡ (each_at (map f xs) first >>= λ y. Ok (value.tuple (values y.0), y.1))) where
    pub each_stopped : (i : ℕ) (x : X) (here : List ℕ) (vs : List Value) (s : Stop) → IsRow Full T (map f xs) → i < length xs → x ≡ get_or xs i x → with_front vs (each_at (map f (drop i xs)) here) ≡ each_at (map f xs) first → Stops (f x) here s → Stops T bytes s
    each_stopped i x here vs s row lt there so_far h = λ named.
        fails_of (Full (f x)) (Full T) s (value_at (f x) here) (value_at T bytes) (λ full. all_shown Full f xs i x lt there (row.full (parts T full)))
        (λ y e. is ∙ stops_at (each_at (map f xs) first) (λ z. read_as (value.tuple (values z.0)) z.1) y (stops_here vs (each_at (map f (drop i xs)) here) (each_at (map f xs) first) y (each_stop f xs i x lt there here y e) so_far))
        (h (all_shown HasTextNames f xs i x lt there (row.named named)))

    pub tuple_written : (vs : List Value) (later : Bool) (old front now new : List ℕ) (rest : Bor (List ℕ)) → each_at (map f xs) first ≡ Ok (vs, rest.now) → front ≡ old ++ codes "(" → new ≡ now ++ codes ")" → Joining front (map text vs) later now → IsWritten Full T bytes old new (Ok rest)
    tuple_written vs later old front now new rest all opened closed h = (
      value.tuple (values vs),
      is ∙ ap (λ (q : Reading (List Value)). q >>= λ z. read_as (value.tuple (values z.0)) z.1) all,
      closed ∙ (ap (λ (s : List ℕ). s ++ codes ")") (joining_all front (map text vs) later now h ∙ ap (λ (s : List ℕ). s ++ joined (map text vs)) opened)
          ∙ (append_assoc (old ++ codes "(") (joined (map text vs)) (codes ")") ∙ (append_assoc old (codes "(") (joined (map text vs) ++ codes ")") ∙ ap (λ (s : List ℕ). old ++ s) (sym (tuple_text vs))))),
    )

  -- ---- records

  module _ {X : Type 0} (f : X → List ℕ × TypeTree) (xs : List X) (T : TypeTree) (bytes first : List ℕ) (is : value_at T bytes ≡ (each_field_at (map f xs) first >>= λ y. Ok (value.record_value (field_values y.0), y.1))) where
    pub field_stopped : (i : ℕ) (x : X) (here : List ℕ) (fs : List (List ℕ × Value)) (s : Stop) → IsFieldRow Full T (map f xs) → i < length xs → x ≡ get_or xs i x → with_front fs (each_field_at (map f (drop i xs)) here) ≡ each_field_at (map f xs) first → Stops (f x).1 here s → Stops T bytes s
    field_stopped i x here fs s row lt there so_far h = λ named.
        fails_of (Full (f x).1) (Full T) s (value_at (f x).1 here) (value_at T bytes) (λ full. all_shown (λ (y : List ℕ × TypeTree). Full y.1) f xs i x lt there (row.full (parts T full)))
        (λ y e. is ∙ stops_at (each_field_at (map f xs) first) (λ z. read_as (value.record_value (field_values z.0)) z.1) y (stops_here fs (each_field_at (map f (drop i xs)) here) (each_field_at (map f xs) first) y (field_stop f xs i x lt there here y e) so_far))
        (h (all_shown (λ (y : List ℕ × TypeTree). HasTextNames y.1) f xs i x lt there (row.named named)))

    pub record_written : (fs : List (List ℕ × Value)) (later : Bool) (old now new : List ℕ) (rest : Bor (List ℕ)) → each_field_at (map f xs) first ≡ Ok (fs, rest.now) → new ≡ now ++ cond later (codes "}") (codes "{:}") → Opening old fs later now → IsWritten Full T bytes old new (Ok rest)
    record_written fs later old now new rest all closed h = (
      value.record_value (field_values fs),
      is ∙ ap (λ (q : Reading (List (List ℕ × Value))). q >>= λ z. read_as (value.record_value (field_values z.0)) z.1) all,
      closed ∙ (opening_all old fs later now h ∙ ap (λ (s : List ℕ). old ++ s) (sym (record_text fs))),
    )

  -- ---- options

  pub option_stopped : (T P : TypeTree) (bytes : List ℕ) (s : Stop) → T ≡ type.option P → IsFaultOf s (choice_at bytes) → Stops T bytes s
  option_stopped T P bytes s is h = fault_first (HasTextNames T) (Full T) (choice_at bytes) (value_at T bytes) s (option_stop T P bytes is) h

  pub none_written : (T P : TypeTree) (bytes old new : List ℕ) (b : Bool) (rest : Bor (List ℕ)) → T ≡ type.option P → choice_at bytes ≡ Ok (b, rest.now) → b ≡ false → new ≡ old ++ codes "none" → IsWritten Full T bytes old new (Ok rest)
  none_written T P bytes old new b rest is reads none written = (value.option no_value, none_is T P bytes is b rest.now none reads, written)

  pub some_stopped : (T P : TypeTree) (bytes rest : List ℕ) (b : Bool) (s : Stop) → T ≡ type.option P → choice_at bytes ≡ Ok (b, rest) → b ≡ true → Stops P rest s → Stops T bytes s
  some_stopped T P bytes rest b s is reads some h =
      part_stopped (HasTextNames P) (Full P) (HasTextNames T) (Full T) (value_at P rest) (value_at T bytes) s
      (λ x e. some_is T P bytes is b rest some reads ∙ stops_at (value_at P rest) (λ y. read_as (value.option (a_value y.0)) y.1) x e)
      (subst HasTextNames is) (λ full. (parts (type.option P) (subst Full is full)).0) h

  pub some_written : (T P : TypeTree) (bytes first old front now new : List ℕ) (b : Bool) (rest : Bor (List ℕ)) → T ≡ type.option P → choice_at bytes ≡ Ok (b, first) → b ≡ true → front ≡ old ++ codes "some(" → new ≡ now ++ codes ")" → IsWritten Full P first front now (Ok rest) → IsWritten Full T bytes old new (Ok rest)
  some_written T P bytes first old front now new b rest is reads some opened closed h =
      subst (λ (s : List ℕ). IsWritten Full T bytes old s (Ok rest)) (sym closed)
      (written_between text text (λ v. value.option (a_value v)) (HasTextNames P) (Full P) (HasTextNames T) (Full T) (value_at P first) (value_at T bytes) (some_is T P bytes is b first some reads) old (codes "some(") (codes ")") now rest (λ v. refl)
      (subst (λ (s : List ℕ). IsWritten Full P first s now (Ok rest)) opened h))
