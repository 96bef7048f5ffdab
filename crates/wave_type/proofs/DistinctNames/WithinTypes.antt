-- Whether no name stands twice within a type, from its parts.
use Rattle.std.proofs.Common.{◌≡◌, Bool, ◌&&◌, List, [], ◌∷◌, ◌++◌, map, Option, sym, subst, ◌∙◌, ◌↔◌, IsTrue, String, string_bytes}
use Rattle.std.specs.Cmp.Derive.{both_true}
use Rattle.std.specs.declared.alloc.Global.{Global}
use Rattle.std.proofs.lemmas.Bool.{and_parts}
use Rattle.wave_wasm.specs.Lists.{AllOf}
use Rattle.wave_wasm.specs.Names.{AreDistinct}
use Rattle.wave_wasm.specs.Types as type
use Rattle.wave_wasm.specs.Types.{TypeTree, types_of, fields_of, cases_of, maybe_type, HasDistinctNames, EachNamesOfTypes, EachNamesOfMaybe, EachNamesOfFields, EachNamesOfCases}
use Rattle.wave_type.specs.TypeModel.{by_bytes}
use Rattle.wave_type.proofs.DistinctNames.LabelTest.{kept_fields, kept_cases}

-- ---- a test of each part in turn

module _ {A : Type 0} (P : A → Type 0) where
  pushed : (xs : List A) (x : A) → AllOf P xs → P x → AllOf P (xs ++ (x ∷ []))
  pushed [] x all h = (h, tt)
  pushed (y ∷ xs) x all h = (all.0, pushed xs x all.1 h)

  parted : (xs : List A) (x : A) → AllOf P (xs ++ (x ∷ [])) → AllOf P xs × P x
  parted [] x all = (tt, all.0)
  parted (y ∷ xs) x all = let more = parted xs x all.1 in ((all.0, more.0), more.1)

  -- one part more passes
  pub all_pushed : (xs ys : List A) (x : A) → ys ≡ xs ++ (x ∷ []) → AllOf P xs → P x → AllOf P ys
  all_pushed xs ys x is all h = subst (AllOf P) (sym is) (pushed xs x all h)

  -- one part more is tested
  pub tested_pushed : (xs ys : List A) (x : A) (d b e : Bool) → ys ≡ xs ++ (x ∷ []) → e ≡ (d && b) → IsTrue d ↔ AllOf P xs → IsTrue b ↔ P x → IsTrue e ↔ AllOf P ys
  tested_pushed xs ys x d b e is both before says = (
    λ yes. let p = and_parts d b (sym both ∙ yes) in all_pushed xs ys x is (before.0 p.0) (says.0 p.1),
    λ h. let q = parted xs x (subst (AllOf P) is h) in both ∙ both_true (before.1 q.0) (says.1 q.1),
  )

-- the first test and the second
pub both_tell : {P Q Whole : Type 0} (a b e : Bool) → e ≡ (a && b) → IsTrue a ↔ P → IsTrue b ↔ Q → Whole ↔ (P × Q) → IsTrue e ↔ Whole
both_tell a b e both first second whole =
    (λ yes. let p = and_parts a b (sym both ∙ yes) in whole.1 (first.0 p.0, second.0 p.1), λ h. let q = whole.0 h in both ∙ both_true (first.1 q.0) (second.1 q.1))

-- ---- tuples

-- the types of a tuple, one by one
tuple_parts : (Ts : List TypeTree) → EachNamesOfTypes AreDistinct (types_of Ts) ↔ AllOf HasDistinctNames Ts
tuple_parts [] = (λ h. tt, λ h. tt)
tuple_parts (T ∷ Ts) = let more = tuple_parts Ts in (λ h. (h.0, more.0 h.1), λ h. (h.0, more.1 h.1))

-- all types of a tuple were tested
pub tuple_tells : (Ts xs : List TypeTree) (d : Bool) → xs ≡ Ts → IsTrue d ↔ AllOf HasDistinctNames xs → IsTrue d ↔ EachNamesOfTypes AreDistinct (types_of Ts)
tuple_tells Ts xs d same says =
    (λ yes. (tuple_parts Ts).1 (subst (AllOf HasDistinctNames) same (says.0 yes)), λ h. says.1 (subst (AllOf HasDistinctNames) (sym same) ((tuple_parts Ts).0 h)))

-- ---- records

abbrev pub FieldPasses : String Global × TypeTree → Type 0
FieldPasses f = HasDistinctNames f.1

fields_pass : (fs : List (String Global × TypeTree)) → EachNamesOfFields AreDistinct (fields_of (map by_bytes fs)) ↔ AllOf FieldPasses fs
fields_pass [] = (λ h. tt, λ h. tt)
fields_pass (f ∷ fs) = let more = fields_pass fs in (λ h. (h.0, more.0 h.1), λ h. (h.0, more.1 h.1))

-- the names of a record and the names within its fields' types
pub record_names : (fs : List (String Global × TypeTree)) → HasDistinctNames (type.record_type (fields_of (map by_bytes fs))) ↔ (AreDistinct (map (λ f. string_bytes f.0) fs) × AllOf FieldPasses fs)
record_names fs =
    (λ h. (subst AreDistinct (kept_fields fs) h.0, (fields_pass fs).0 h.1), λ h. (subst AreDistinct (sym (kept_fields fs)) h.0, (fields_pass fs).1 h.1))

-- ---- variants

abbrev pub CasePasses : String Global × Option TypeTree → Type 0
CasePasses c = EachNamesOfMaybe AreDistinct (maybe_type c.1)

cases_pass : (cs : List (String Global × Option TypeTree)) → EachNamesOfCases AreDistinct (cases_of (map by_bytes cs)) ↔ AllOf CasePasses cs
cases_pass [] = (λ h. tt, λ h. tt)
cases_pass (c ∷ cs) = let more = cases_pass cs in (λ h. (h.0, more.0 h.1), λ h. (h.0, more.1 h.1))

-- the names of a variant and the names within its payloads' types
pub variant_names : (cs : List (String Global × Option TypeTree)) → HasDistinctNames (type.variant (cases_of (map by_bytes cs))) ↔ (AreDistinct (map (λ c. string_bytes c.0) cs) × AllOf CasePasses cs)
variant_names cs =
    (λ h. (subst AreDistinct (kept_cases cs) h.0, (cases_pass cs).0 h.1), λ h. (subst AreDistinct (sym (kept_cases cs)) h.0, (cases_pass cs).1 h.1))
