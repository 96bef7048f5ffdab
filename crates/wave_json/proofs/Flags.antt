-- Flags, from the names that were given.
use Rattle.std.proofs.Common.{◌≡◌, inl, inr, ℕ, Bool, true, false, if◌then◌else◌, List, [], ◌∷◌, ◌++◌, Option, Some, None, Result, Ok, Err, Bor, refl, sym, ap, subst, ◌∙◌}
use Rattle.std.specs.List.{filter}
use Rattle.std.specs.Prelude.{IfOk, IfErr}
use Rattle.std.proofs.lemmas.Result.{IfOk-weaker, IfErr-weaker}
use Rattle.json.specs.Json.{Json, Items}
use Rattle.json.specs.Find.{as_array}
use Rattle.wave_wasm.specs.Borrowed.{texts}
use Rattle.wave_wasm.specs.ConstructorContracts.{IsMemory, Makes, MakesFlags, FullFlags}
use Rattle.wave_wasm.specs.Names.{AreAllOf, ArePicked, found_in, is_one_of}
use Rattle.wave_wasm.specs.Types as type
use Rattle.wave_wasm.specs.Types.{TypeTree, HasDistinctNames}
use Rattle.wave_wasm.specs.Values as value
use Rattle.wave_wasm.specs.Values.{Value}
use Rattle.wave_wasm.specs.declared.wasm.WasmValueError.{WasmValueError}
use Rattle.wave_wasm.proofs.Names.NameTests.{passes}
use Rattle.wave_wasm.proofs.Names.Subsequences.{picked_distinct, picked_of}
use Rattle.wave_json.specs.declared.error.JsonErrorKind.TheVariants as kinds
use Rattle.wave_json.specs.declared.error.Stop.{Stop}
use Rattle.wave_json.specs.Private.Readers.{Fails, IsBuilt, IsRead}
use Rattle.wave_json.specs.Reading.{Reading, ◌>>=◌, or_fault, item_step, unless_found, first_repeated, each_at, name_at, value_at}
use Rattle.wave_json.proofs.Builds.{built_read}
use Rattle.wave_json.proofs.Stops.{fails_of, stops_at}

found_picked : (found names : List (List ℕ)) → ArePicked names (found_in found names)
found_picked found [] = refl
found_picked found (name ∷ more) = by (is_one_of found name) (found_picked found more)
  where
    by : (t : Bool) → ArePicked more (found_in found more) → ArePicked (name ∷ more) (if t then name ∷ found_in found more else found_in found more)
    by true h = inr (found_in found more, refl, h)
    by false h = inl h

all_kept : (names picked : List (List ℕ)) → AreAllOf names picked → filter (is_one_of names) picked ≡ picked
all_kept names [] h = refl
all_kept names (one ∷ picked) h = rw (passes names one h.0) (ap (λ (l : List (List ℕ)). one ∷ l) (all_kept names picked h.1))

-- what is read behind the names
abbrev flags_behind : List (List ℕ) → List (List ℕ) → Reading Value
flags_behind names given = unless_found {A = ℕ × List ℕ} kinds.Repeated (λ r. item_step r.0) (first_repeated given) (value.flags (found_in given names))

flags_is : (T : TypeTree) (names : List (List ℕ)) (j : Json) (js : Items) → T ≡ type.flags names → Some js ≡ as_array j → value_at T j ≡ (each_at (name_at names) 0 js >>= flags_behind names)
flags_is T names j js is e = ap (λ (U : TypeTree). value_at U j) is ∙ ap (λ (o : Option Items). (or_fault o kinds.Mismatch >>= each_at (name_at names) 0) >>= flags_behind names) (sym e)

pub flags_repeated : (T : TypeTree) (names : List (List ℕ)) (j : Json) (js : Items) (given : List (List ℕ)) (p : ℕ × List ℕ) → T ≡ type.flags names → Some js ≡ as_array j → each_at (name_at names) 0 js ≡ Ok given → Some p ≡ first_repeated given → value_at T j ≡ Err (record { kind = kinds.Repeated; path = item_step p.0 ++ [] })
flags_repeated T names j js given p is e reads some =
    flags_is T names j js is e
    ∙ (ap (λ (q : Reading (List (List ℕ))). q >>= flags_behind names) reads
    ∙ ap (λ (o : Option (ℕ × List ℕ)). unless_found {A = ℕ × List ℕ} kinds.Repeated (λ r. item_step r.0) o (value.flags (found_in given names))) (sym some))

module _ {S : Type 0} (tree : S → Value) (of : S → TypeTree → Type 0) (Full : TypeTree → Type 0) where
  pub flags_stopped : (T : TypeTree) (names : List (List ℕ)) (j : Json) (js : Items) (s : Stop) → T ≡ type.flags names → Some js ≡ as_array j → Fails (Unit {0}) s (each_at (name_at names) 0 js) → IsRead tree of Full T j (Err s)
  flags_stopped T names j js s is e h = λ distinct.
      fails_of (Unit {0}) (Full T) s (each_at (name_at names) 0 js) (value_at T j) (λ full. tt) (λ x f. flags_is T names j js is e ∙ stops_at (each_at (name_at names) 0 js) (flags_behind names) x f) h

  pub flags_read : (T : TypeTree) (names : List (List ℕ)) (j : Json) (js : Items) (given : List (List ℕ)) (handed : List (Bor (List ℕ))) (made : Result S WasmValueError) (r : Result S Stop) → T ≡ type.flags names → Some js ≡ as_array j → each_at (name_at names) 0 js ≡ Ok given → None ≡ first_repeated given → texts handed ≡ found_in given names → IsBuilt made r → IfOk made (MakesFlags tree of T handed) → IfErr made (FullFlags of Full T handed) → IsRead tree of Full T j r
  flags_read T names j js given handed made r is e reads none same b ok err =
      let picked = texts handed in
      let are : ArePicked names picked = subst (ArePicked names) (sym same) (found_picked given names) in
      subst (λ (U : TypeTree). IsRead tree of Full U j r) (sym is) (built_read tree of Full (type.flags names) (value_at (type.flags names) j) (value.flags picked) made r b
      (IfOk-weaker made (MakesFlags tree of (type.flags names) handed) (λ v. HasDistinctNames (type.flags names) → Makes tree of (value.flags picked) (type.flags names) v)
      (λ v f distinct. f distinct (picked_distinct names picked are distinct) (subst (ArePicked names) (sym (all_kept names picked (picked_of names picked are))) are))
      (subst (λ (U : TypeTree). IfOk made (MakesFlags tree of U handed)) is ok))
      (IfErr-weaker made (FullFlags of Full (type.flags names) handed) (λ z. HasDistinctNames (type.flags names) → Full (type.flags names) → IsMemory z)
      (λ z f distinct full. f full names refl (picked_distinct names picked are distinct) are)
      (subst (λ (U : TypeTree). IfErr made (FullFlags of Full U handed)) is err))
      (λ distinct. flags_is (type.flags names) names j js refl e
      ∙ (ap (λ (q : Reading (List (List ℕ))). q >>= flags_behind names) reads
      ∙ (ap (λ (o : Option (ℕ × List ℕ)). unless_found {A = ℕ × List ℕ} kinds.Repeated (λ r. item_step r.0) o (value.flags (found_in given names))) (sym none)
      ∙ ap (λ (l : List (List ℕ)). flags_ok l) (sym same)))))
    where
      flags_ok : List (List ℕ) → Reading Value
      flags_ok l = Ok (value.flags l)
