-- Values of one part or of names, from what was read.
use Rattle.std.proofs.Common.{◌≡◌, inl, inr, ℕ, Bool, true, false, cond, if◌then◌else◌, codes, List, [], Option, Some, None, Result, Ok, Err, refl, sym, ap, subst, ◌∙◌}
use Rattle.std.specs.Prelude.{IfOk, IfErr}
use Rattle.std.specs.Option.{option_map}
use Rattle.std.specs.List.{find}
use Rattle.std.specs.Str.{bytes_eq}
use Rattle.std.proofs.lemmas.Result.{IfErr-weaker}
use Rattle.std.proofs.lemmas.Slice.Eq.{bytes_eq-Decides}
use Rattle.json.specs.Json.{Json}
use Rattle.wave_wasm.specs.Lists.{AllOf, SomeOf}
use Rattle.wave_wasm.specs.Names.{AreDistinct, is_one_of}
use Rattle.wave_wasm.specs.Types as type
use Rattle.wave_wasm.specs.Types.{TypeTree, MaybeType, Cases, no_type, a_type, no_cases, case_of, case_list, maybe_type, type_option, HasDistinctNames, EachNamesOfMaybe, EachNamesOfCases}
use Rattle.wave_wasm.specs.Values as value
use Rattle.wave_wasm.specs.Values.{Value, MaybeValue, no_value, maybe_value}
use Rattle.wave_wasm.specs.ConstructorContracts.{IsMemory, MakesVariant, MakesEnum, MakesResult, MakesOption, FullOption, FullVariant, FullEnum, FullResult, HasFullParts, payload_and, payload_types, PayloadIsOf, TypedVariant, TypedResult}
use Rattle.wave_wasm.specs.declared.wasm.WasmValueError.{WasmValueError}
use Rattle.wave_wasm.proofs.Names.NameTests.{is_one}
use Rattle.wave_json.specs.declared.error.JsonErrorKind.TheVariants as kinds
use Rattle.wave_json.specs.declared.error.Stop.{Stop}
use Rattle.wave_json.specs.Private.Readers.{IsBuilt, IsReadAs, IsRead, IsPayloadRead, IsFullOption}
use Rattle.wave_json.specs.Reading.{Reading, ◌>>=◌, here, left_out, json_case, text_at, value_at, payload_at, case_at}
use Rattle.wave_json.proofs.Builds.{array_read, as_type, built_read}
use Rattle.wave_json.proofs.Stops.{fails_of, stops_at}

-- ---- what is read behind the first part

abbrev as_ok : MaybeValue → Reading Value
as_ok p = Ok (value.ok p)

abbrev as_err : MaybeValue → Reading Value
as_err p = Ok (value.err p)

abbrev as_case : List ℕ → MaybeValue → Reading Value
as_case name p = Ok (value.variant name p)

abbrev result_behind : MaybeType → MaybeType → List ℕ × Option Json → Reading Value
result_behind A B c =
    if bytes_eq c.0 (codes "ok") then (payload_at A (codes "ok") c.1 >>= as_ok)
    else (if bytes_eq c.0 (codes "err") then (payload_at B (codes "err") c.1 >>= as_err) else Err (here kinds.Unknown))

abbrev case_behind : Cases → List ℕ × Option Json → Reading Value
case_behind cs c = case_at cs c.0 c.1

-- ---- cases

-- the case has the name
abbrev pub has_name : List ℕ → List ℕ × Option TypeTree → Bool
has_name name c = bytes_eq name c.0

-- the case that was found among them
pub record FoundCase (Full : TypeTree → Type 0) (cs : Cases) (name : List ℕ) (P : Option TypeTree) : Type 0 where
  pub reads : (payload : Option Json) → case_at cs name payload ≡ (payload_at (maybe_type P) name payload >>= as_case name)
  pub one : SomeOf (λ c. c ≡ (name, P)) (case_list cs)
  pub distinct : EachNamesOfCases AreDistinct cs → EachNamesOfMaybe AreDistinct (maybe_type P)
  pub full : AllOf Full (payload_types cs) → IsFullOption Full P

payload_names : (P : MaybeType) (Pass : List (List ℕ) → Type 0) → EachNamesOfMaybe Pass P → EachNamesOfMaybe Pass (maybe_type (type_option P))
payload_names no_type Pass h = h
payload_names (a_type T) Pass h = h

payload_reads : (P : MaybeType) (name : List ℕ) (payload : Option Json) → (payload_at P name payload >>= as_case name) ≡ (payload_at (maybe_type (type_option P)) name payload >>= as_case name)
payload_reads no_type name payload = refl
payload_reads (a_type T) name payload = refl

first_full : (P : MaybeType) (more : List TypeTree) (Full : TypeTree → Type 0) → AllOf Full (payload_and P more) → IsFullOption Full (type_option P)
first_full no_type more Full h = tt
first_full (a_type T) more Full h = h.0

later_full : (P : MaybeType) (more : List TypeTree) (Full : TypeTree → Type 0) → AllOf Full (payload_and P more) → AllOf Full more
later_full no_type more Full h = h
later_full (a_type T) more Full h = h.1

found_here : (Full : TypeTree → Type 0) (other name : List ℕ) (P : MaybeType) (more : Cases) → bytes_eq name other ≡ true → FoundCase Full (case_of other P more) name (type_option P)
found_here Full other name P more same = record {
  reads = λ payload. ap (λ (b : Bool). cond b (payload_at P name payload >>= as_case name) (case_at more name payload)) same ∙ payload_reads P name payload;
  one = inl (ap (λ (n : List ℕ). (n, type_option P)) (sym ((bytes_eq-Decides name other).0 same)));
  distinct = λ h. payload_names P AreDistinct h.0;
  full = λ h. first_full P (payload_types more) Full h;
}

found_later : (Full : TypeTree → Type 0) (other name : List ℕ) (P : MaybeType) (more : Cases) (Q : Option TypeTree) → bytes_eq name other ≡ false → FoundCase Full more name Q → FoundCase Full (case_of other P more) name Q
found_later Full other name P more Q apart found = record {
  reads = λ payload. ap (λ (b : Bool). cond b (payload_at P name payload >>= as_case name) (case_at more name payload)) apart ∙ found.reads payload;
  one = inr found.one;
  distinct = λ h. found.distinct h.1;
  full = λ h. found.full (later_full P (payload_types more) Full h);
}

some_case : (c d : List ℕ × Option TypeTree) → Some c ≡ Some d → c ≡ d
some_case c d e = cc

pub found_case : (Full : TypeTree → Type 0) (cs : Cases) (name : List ℕ) (c : List ℕ × Option TypeTree) → Some c ≡ find (has_name name) (case_list cs) → FoundCase Full cs name c.1
found_case Full no_cases name c e = absurd cc
found_case Full (case_of other P more) name c e = by (bytes_eq name other) refl (found_case Full more name c) e
  where
    by : (b : Bool) → bytes_eq name other ≡ b → (Some c ≡ find (has_name name) (case_list more) → FoundCase Full more name c.1) → Some c ≡ cond b (Some (other, type_option P)) (find (has_name name) (case_list more)) → FoundCase Full (case_of other P more) name c.1
    by true same rest e = subst (λ (d : List ℕ × Option TypeTree). FoundCase Full (case_of other P more) name d.1) (sym (some_case c (other, type_option P) e)) (found_here Full other name P more same)
    by false apart rest e = found_later Full other name P more c.1 apart (rest e)

no_case : (cs : Cases) (name : List ℕ) (payload : Option Json) → None ≡ find (has_name name) (case_list cs) → case_at cs name payload ≡ Err (here kinds.Unknown)
no_case no_cases name payload e = refl
no_case (case_of other P more) name payload e = by (bytes_eq name other) (no_case more name payload) e
  where
    by : (b : Bool) → (None ≡ find (has_name name) (case_list more) → case_at more name payload ≡ Err (here kinds.Unknown)) → None ≡ cond b (Some (other, type_option P)) (find (has_name name) (case_list more)) → cond b (payload_at P name payload >>= as_case name) (case_at more name payload) ≡ Err (here kinds.Unknown)
    by true rest e = absurd cc
    by false rest e = rest e

pub case_unknown : (T : TypeTree) (cs : Cases) (j : Json) (name : List ℕ) (payload : Option Json) → T ≡ type.variant cs → Some (name, payload) ≡ json_case j → None ≡ find (has_name name) (case_list cs) → value_at T j ≡ Err (here kinds.Unknown)
case_unknown T cs j name payload is e none = ap (λ (U : TypeTree). value_at U j) is ∙ (array_read (json_case j) (name, payload) (case_behind cs) e ∙ no_case cs name payload none)

module _ {S : Type 0} (tree : S → Value) (of : S → TypeTree → Type 0) (Full : TypeTree → Type 0) (parts : HasFullParts Full) where
  -- a variant

  pub case_stopped : (T : TypeTree) (cs : Cases) (j : Json) (name : List ℕ) (payload : Option Json) (P : Option TypeTree) (s : Stop) → T ≡ type.variant cs → Some (name, payload) ≡ json_case j → FoundCase Full cs name P → IsPayloadRead tree of Full P name payload (Err s) → IsRead tree of Full T j (Err s)
  case_stopped T cs j name payload P s is e found h =
      as_type tree of Full T (type.variant cs) j (Err s) is (λ distinct.
      fails_of (IsFullOption Full P) (Full (type.variant cs)) s (payload_at (maybe_type P) name payload) (value_at (type.variant cs) j) (λ full. found.full (parts (type.variant cs) full))
      (λ x f. array_read (json_case j) (name, payload) (case_behind cs) e ∙ (found.reads payload ∙ stops_at (payload_at (maybe_type P) name payload) (as_case name) x f))
      (h (found.distinct distinct.1)))

  pub case_typed : (T : TypeTree) (cs : Cases) (name : List ℕ) (payload : Option Json) (P : Option TypeTree) (x : Option S) → T ≡ type.variant cs → FoundCase Full cs name P → IsPayloadRead tree of Full P name payload (Ok x) → HasDistinctNames T → TypedVariant of T name x
  case_typed T cs name payload P x is found h =
      subst (λ (U : TypeTree). HasDistinctNames U → TypedVariant of U name x) (sym is) (λ distinct. (P, found.one, (h (found.distinct distinct.1)).1))

  pub case_read : (T : TypeTree) (cs : Cases) (j : Json) (name : List ℕ) (payload : Option Json) (P : Option TypeTree) (x : Option S) (made : Result S WasmValueError) (r : Result S Stop) → T ≡ type.variant cs → Some (name, payload) ≡ json_case j → FoundCase Full cs name P → IsPayloadRead tree of Full P name payload (Ok x) → IsBuilt made r → IfOk made (MakesVariant tree of T name x) → IfErr made (FullVariant of Full T name x) → IsRead tree of Full T j r
  case_read T cs j name payload P x made r is e found h b ok err =
      as_type tree of Full T (type.variant cs) j r is (built_read tree of Full (type.variant cs) (value_at (type.variant cs) j) (value.variant name (maybe_value (option_map tree x))) made r b
      (subst (λ (U : TypeTree). IfOk made (MakesVariant tree of U name x)) is ok)
      (IfErr-weaker made (FullVariant of Full (type.variant cs) name x) (λ z. HasDistinctNames (type.variant cs) → Full (type.variant cs) → IsMemory z)
      (λ z f distinct full. f full cs refl P found.one (h (found.distinct distinct.1)).1) (subst (λ (U : TypeTree). IfErr made (FullVariant of Full U name x)) is err))
      (λ distinct. array_read (json_case j) (name, payload) (case_behind cs) e ∙ (found.reads payload ∙ ap (λ (q : Reading MaybeValue). q >>= as_case name) (h (found.distinct distinct.1)).0)))

  -- an enum

  pub enum_read : (T : TypeTree) (names : List (List ℕ)) (j : Json) (name : List ℕ) (made : Result S WasmValueError) (r : Result S Stop) → T ≡ type.enum names → text_at j ≡ Ok name → is_one_of names name ≡ true → IsBuilt made r → IfOk made (MakesEnum tree of T name) → IfErr made (FullEnum of Full T name) → IsRead tree of Full T j r
  enum_read T names j name made r is e one b ok err =
      as_type tree of Full T (type.enum names) j r is (built_read tree of Full (type.enum names) (value_at (type.enum names) j) (value.enum name) made r b
      (subst (λ (U : TypeTree). IfOk made (MakesEnum tree of U name)) is ok)
      (IfErr-weaker made (FullEnum of Full (type.enum names) name) (λ z. HasDistinctNames (type.enum names) → Full (type.enum names) → IsMemory z)
      (λ z f distinct full. f full names refl (is_one names name one)) (subst (λ (U : TypeTree). IfErr made (FullEnum of Full U name)) is err))
      (λ distinct. ap (λ (q : Reading (List ℕ)). (q >>= λ n. if is_one_of names n then Ok n else Err (here kinds.Unknown)) >>= λ n. Ok (value.enum n)) e
      ∙ ap (λ (c : Bool). (if c then Ok name else Err (here kinds.Unknown)) >>= λ n. Ok (value.enum n)) one))

  -- a result

  option_again : (A : Option TypeTree) → type_option (maybe_type A) ≡ A
  option_again None = refl
  option_again (Some T) = refl

  ok_full : (A : Option TypeTree) (more : List TypeTree) → AllOf Full (payload_and (maybe_type A) more) → IsFullOption Full A
  ok_full None more h = tt
  ok_full (Some T) more h = h.0

  err_full : (A B : Option TypeTree) → AllOf Full (payload_and (maybe_type A) (payload_and (maybe_type B) [])) → IsFullOption Full B
  err_full None B h = ok_full B [] h
  err_full (Some T) B h = ok_full B [] h.1

  -- a case that is `ok`
  ok_behind : (A B : Option TypeTree) (j : Json) (name : List ℕ) (payload : Option Json) → Some (name, payload) ≡ json_case j → bytes_eq name (codes "ok") ≡ true → value_at (type.result (maybe_type A) (maybe_type B)) j ≡ (payload_at (maybe_type A) (codes "ok") payload >>= as_ok)
  ok_behind A B j name payload e fine =
      array_read (json_case j) (name, payload) (result_behind (maybe_type A) (maybe_type B)) e
      ∙ ap (λ (b : Bool). if b then (payload_at (maybe_type A) (codes "ok") payload >>= as_ok) else (if bytes_eq name (codes "err") then (payload_at (maybe_type B) (codes "err") payload >>= as_err) else Err (here kinds.Unknown))) fine

  -- a case that is `err`
  err_behind : (A B : Option TypeTree) (j : Json) (name : List ℕ) (payload : Option Json) → Some (name, payload) ≡ json_case j → bytes_eq name (codes "ok") ≡ false → bytes_eq name (codes "err") ≡ true → value_at (type.result (maybe_type A) (maybe_type B)) j ≡ (payload_at (maybe_type B) (codes "err") payload >>= as_err)
  err_behind A B j name payload e other fine =
      array_read (json_case j) (name, payload) (result_behind (maybe_type A) (maybe_type B)) e
      ∙ (ap (λ (b : Bool). if b then (payload_at (maybe_type A) (codes "ok") payload >>= as_ok) else (if bytes_eq name (codes "err") then (payload_at (maybe_type B) (codes "err") payload >>= as_err) else Err (here kinds.Unknown))) other
      ∙ ap (λ (b : Bool). if b then (payload_at (maybe_type B) (codes "err") payload >>= as_err) else Err (here kinds.Unknown)) fine)

  pub ok_stopped : (T : TypeTree) (A B : Option TypeTree) (j : Json) (name : List ℕ) (payload : Option Json) (s : Stop) → T ≡ type.result (maybe_type A) (maybe_type B) → Some (name, payload) ≡ json_case j → bytes_eq name (codes "ok") ≡ true → IsPayloadRead tree of Full A (codes "ok") payload (Err s) → IsRead tree of Full T j (Err s)
  ok_stopped T A B j name payload s is e fine h =
      let U = type.result (maybe_type A) (maybe_type B) in
      as_type tree of Full T U j (Err s) is (λ distinct.
      fails_of (IsFullOption Full A) (Full U) s (payload_at (maybe_type A) (codes "ok") payload) (value_at U j) (λ full. ok_full A (payload_and (maybe_type B) []) (parts U full))
      (λ x f. ok_behind A B j name payload e fine ∙ stops_at (payload_at (maybe_type A) (codes "ok") payload) as_ok x f) (h distinct.0))

  pub err_stopped : (T : TypeTree) (A B : Option TypeTree) (j : Json) (name : List ℕ) (payload : Option Json) (s : Stop) → T ≡ type.result (maybe_type A) (maybe_type B) → Some (name, payload) ≡ json_case j → bytes_eq name (codes "ok") ≡ false → bytes_eq name (codes "err") ≡ true → IsPayloadRead tree of Full B (codes "err") payload (Err s) → IsRead tree of Full T j (Err s)
  err_stopped T A B j name payload s is e other fine h =
      let U = type.result (maybe_type A) (maybe_type B) in
      as_type tree of Full T U j (Err s) is (λ distinct.
      fails_of (IsFullOption Full B) (Full U) s (payload_at (maybe_type B) (codes "err") payload) (value_at U j) (λ full. err_full A B (parts U full))
      (λ x f. err_behind A B j name payload e other fine ∙ stops_at (payload_at (maybe_type B) (codes "err") payload) as_err x f) (h distinct.1))

  pub ok_typed : (T : TypeTree) (A B : Option TypeTree) (payload : Option Json) (x : Option S) → T ≡ type.result (maybe_type A) (maybe_type B) → IsPayloadRead tree of Full A (codes "ok") payload (Ok x) → HasDistinctNames T → TypedResult of T (Ok x)
  ok_typed T A B payload x is h =
      subst (λ (U : TypeTree). HasDistinctNames U → TypedResult of U (Ok x)) (sym is) (λ distinct. subst (λ (P : Option TypeTree). PayloadIsOf of P x) (sym (option_again A)) (h distinct.0).1)

  pub err_typed : (T : TypeTree) (A B : Option TypeTree) (payload : Option Json) (x : Option S) → T ≡ type.result (maybe_type A) (maybe_type B) → IsPayloadRead tree of Full B (codes "err") payload (Ok x) → HasDistinctNames T → TypedResult of T (Err x)
  err_typed T A B payload x is h =
      subst (λ (U : TypeTree). HasDistinctNames U → TypedResult of U (Err x)) (sym is) (λ distinct. subst (λ (P : Option TypeTree). PayloadIsOf of P x) (sym (option_again B)) (h distinct.1).1)

  pub ok_read : (T : TypeTree) (A B : Option TypeTree) (j : Json) (name : List ℕ) (payload : Option Json) (x : Option S) (made : Result S WasmValueError) (r : Result S Stop) → T ≡ type.result (maybe_type A) (maybe_type B) → Some (name, payload) ≡ json_case j → bytes_eq name (codes "ok") ≡ true → IsPayloadRead tree of Full A (codes "ok") payload (Ok x) → IsBuilt made r → IfOk made (MakesResult tree of T (Ok x)) → IfErr made (FullResult of Full T (Ok x)) → IsRead tree of Full T j r
  ok_read T A B j name payload x made r is e fine h b ok full_err =
      let U = type.result (maybe_type A) (maybe_type B) in
      as_type tree of Full T U j r is (built_read tree of Full U (value_at U j) (value.ok (maybe_value (option_map tree x))) made r b
      (subst (λ (V : TypeTree). IfOk made (MakesResult tree of V (Ok x))) is ok)
      (IfErr-weaker made (FullResult of Full U (Ok x)) (λ z. HasDistinctNames U → Full U → IsMemory z)
      (λ z f distinct full. f full (maybe_type A) (maybe_type B) refl (subst (λ (P : Option TypeTree). PayloadIsOf of P x) (sym (option_again A)) (h distinct.0).1)) (subst (λ (V : TypeTree). IfErr made (FullResult of Full V (Ok x))) is full_err))
      (λ distinct. ok_behind A B j name payload e fine ∙ ap (λ (q : Reading MaybeValue). q >>= as_ok) (h distinct.0).0))

  pub err_read : (T : TypeTree) (A B : Option TypeTree) (j : Json) (name : List ℕ) (payload : Option Json) (x : Option S) (made : Result S WasmValueError) (r : Result S Stop) → T ≡ type.result (maybe_type A) (maybe_type B) → Some (name, payload) ≡ json_case j → bytes_eq name (codes "ok") ≡ false → bytes_eq name (codes "err") ≡ true → IsPayloadRead tree of Full B (codes "err") payload (Ok x) → IsBuilt made r → IfOk made (MakesResult tree of T (Err x)) → IfErr made (FullResult of Full T (Err x)) → IsRead tree of Full T j r
  err_read T A B j name payload x made r is e other fine h b ok full_err =
      let U = type.result (maybe_type A) (maybe_type B) in
      as_type tree of Full T U j r is (built_read tree of Full U (value_at U j) (value.err (maybe_value (option_map tree x))) made r b
      (subst (λ (V : TypeTree). IfOk made (MakesResult tree of V (Err x))) is ok)
      (IfErr-weaker made (FullResult of Full U (Err x)) (λ z. HasDistinctNames U → Full U → IsMemory z)
      (λ z f distinct full. f full (maybe_type A) (maybe_type B) refl (subst (λ (P : Option TypeTree). PayloadIsOf of P x) (sym (option_again B)) (h distinct.1).1)) (subst (λ (V : TypeTree). IfErr made (FullResult of Full V (Err x))) is full_err))
      (λ distinct. err_behind A B j name payload e other fine ∙ ap (λ (q : Reading MaybeValue). q >>= as_err) (h distinct.1).0))

  -- a field that is left out

  pub none_read : (T P : TypeTree) (name : List ℕ) (made : Result S WasmValueError) (r : Result S Stop) → T ≡ type.option P → IsBuilt made r → IfOk made (MakesOption tree of T None) → IfErr made (FullOption of Full T None) → IsReadAs tree of Full T (left_out T name) r
  none_read T P name made r is b ok err =
      subst (λ (U : TypeTree). IsReadAs tree of Full U (left_out U name) r) (sym is) (built_read tree of Full (type.option P) (left_out (type.option P) name) (value.option no_value) made r b
      (subst (λ (U : TypeTree). IfOk made (MakesOption tree of U None)) is ok)
      (IfErr-weaker made (FullOption of Full (type.option P) None) (λ z. HasDistinctNames (type.option P) → Full (type.option P) → IsMemory z) (λ z f distinct full. f full P refl tt) (subst (λ (U : TypeTree). IfErr made (FullOption of Full U None)) is err))
      (λ distinct. refl))
