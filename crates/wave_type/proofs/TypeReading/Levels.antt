-- What is read within a number of levels has no more.
use Rattle.std.proofs.Common.{◌≡◌, ℕ, zero, suc, ◌≤◌, List, [], ◌∷◌, inl, inr, Option, Some, None, refl, sym, subst, arith, length, codes}
use Rattle.wave_wasm.specs.declared.wasm.WasmTypeKind.{WasmTypeKind}
use Rattle.wave_wasm.specs.declared.wasm.WasmTypeKind.TheVariants as kinds
use Rattle.wave_wasm.specs.Types.{TypeTree, list, fixed, record_type, tuple, variant, enum, option, result, flags, map as map_tree, no_type, a_type, types_of, fields_of, cases_of, maybe_type}
use Rattle.wave_type.specs.TypeConstructors.{tuple_type, variant_type, enum_type, flags_type, map_type}
use Rattle.wave_type.specs.TypeConstructors as maker
use Rattle.wave_type.specs.FunctionType.{FunctionType}
use Rattle.wave_type.specs.FunctionSpelling.{levels_of_function}
use Rattle.wave_type.specs.TypeSpelling.{Tokens, levels_of, levels_of_payload, levels_of_types, levels_of_fields, levels_of_cases}
use Rattle.wave_type.specs.Private.FunctionReading.{params_read, result_parts_read, results_read, signature_read, function_read}
use Rattle.wave_type.specs.Private.TypeReading.{with, after, closed, kind_at, new_name, count_at, names_read, Reads, fixed_read, key_at, types_read, field_part, fields_read, payload_read, case_part, cases_read, list_read, option_read, map_read, err_read, payloads_read, result_read, kind_read, type_read}
use Rattle.wave_type.proofs.TypeReading.Functions.{Parts, unwrapped}
use Rattle.wave_type.proofs.TypeReading.Sound.{onward_back, or_back, with_back, built_back, AreParts, parts_back, tuple_built, record_built, variant_built, enum_built, flags_built, key_back, map_built}

-- what is read has that many levels at most
abbrev pub IsLow : ℕ → Reads → Type 0
IsLow n read = (ts : Tokens) (b : TypeTree × Tokens) → read ts ≡ Some b → levels_of b.0 ≤ n

-- the same, of another tree that is one
at_most : (T U : TypeTree) (n : ℕ) → U ≡ T → levels_of T ≤ n → levels_of U ≤ n
at_most T U n e h = subst (λ z. levels_of z ≤ n) (sym e) h

module _ (n : ℕ) (mark : List ℕ) where
  types_low : (xs : List TypeTree) (ts r : Tokens) → AreParts mark (λ T us m. levels_of T ≤ n) xs ts r → levels_of_types (types_of xs) ≤ n
  types_low [] ts r h = absurd h
  types_low (x ∷ []) ts r (m, le, c) = omega (arith, le)
  types_low (x ∷ y ∷ xs) ts r (m, le, h) = omega (arith, le, types_low (y ∷ xs) m r h)

  fields_low : (xs : Parts) (ts r : Tokens) → AreParts mark (λ f us m. levels_of f.1 ≤ n) xs ts r → levels_of_fields (fields_of xs) ≤ n
  fields_low [] ts r h = absurd h
  fields_low (x ∷ []) ts r (m, le, c) = omega (arith, le)
  fields_low (x ∷ y ∷ xs) ts r (m, le, h) = omega (arith, le, fields_low (y ∷ xs) m r h)

  cases_low : (xs : List (List ℕ × Option TypeTree)) (ts r : Tokens) → AreParts mark (λ c us m. levels_of_payload (maybe_type c.1) ≤ n) xs ts r → levels_of_cases (cases_of xs) ≤ n
  cases_low [] ts r h = absurd h
  cases_low (x ∷ []) ts r (m, le, c) = omega (arith, le)
  cases_low (x ∷ y ∷ xs) ts r (m, le, h) = omega (arith, le, cases_low (y ∷ xs) m r h)

module _ (n : ℕ) (read : Reads) (low : IsLow n read) where
  types_read_low : (ts : Tokens) (b : List TypeTree × Tokens) → types_read read ts ≡ Some b → levels_of_types (types_of b.0) ≤ n
  types_read_low ts b e =
      let h = parts_back (λ seen. read) (codes ">") (λ T us m. levels_of T ≤ n) (λ seen. low) (length ts) [] ts b e in
      subst (λ z. levels_of_types (types_of z) ≤ n) (sym h.all) (types_low n (codes ">") h.read ts b.1 h.are)

  field_low : (seen : Parts) (ts : Tokens) (b : (List ℕ × TypeTree) × Tokens) → field_part read seen ts ≡ Some b → levels_of b.0.1 ≤ n
  field_low seen ts b e =
      let p = onward_back (new_name _ ts) _ b e in
      let q = onward_back (after (codes ":") p.0.1) _ b p.2 in
      let s = onward_back (read q.0) _ b q.2 in
      let same : ((p.0.0, s.0.0), s.0.1) ≡ b = cc in
      subst (λ z. levels_of z.0.1 ≤ n) same (low q.0 s.0 s.1)

  pub fields_read_low : (mark : List ℕ) (ts : Tokens) (b : Parts × Tokens) → fields_read read mark ts ≡ Some b → levels_of_fields (fields_of b.0) ≤ n
  fields_read_low mark ts b e =
      let h = parts_back (field_part read) mark (λ f us m. levels_of f.1 ≤ n) field_low (length ts) [] ts b e in
      subst (λ z. levels_of_fields (fields_of z) ≤ n) (sym h.all) (fields_low n mark h.read ts b.1 h.are)

  payload_low : (ts : Tokens) (o : Option Tokens) (b : Option TypeTree × Tokens) → payload_read read ts o ≡ Some b → levels_of_payload (maybe_type b.0) ≤ n
  payload_low ts None b e =
      let same : (None, ts) ≡ b = cc in
      subst (λ (z : Option TypeTree × Tokens). levels_of_payload (maybe_type z.0) ≤ n) same (omega arith)
  payload_low ts (Some m) b e =
      let s = onward_back (read m) _ b e in
      let w = with_back (Some s.0.0) (after (codes ")") s.0.1) b s.2 in
      subst (λ z. levels_of_payload (maybe_type z) ≤ n) (sym w.1) (low m s.0 s.1)

  case_low : (seen : List (List ℕ × Option TypeTree)) (ts : Tokens) (b : (List ℕ × Option TypeTree) × Tokens) → case_part read seen ts ≡ Some b → levels_of_payload (maybe_type b.0.1) ≤ n
  case_low seen ts b e =
      let p = onward_back (new_name _ ts) _ b e in
      let s = onward_back (payload_read read p.0.1 (after (codes "(") p.0.1)) _ b p.2 in
      let same : ((p.0.0, s.0.0), s.0.1) ≡ b = cc in
      subst (λ z. levels_of_payload (maybe_type z.0.1) ≤ n) same (payload_low p.0.1 (after (codes "(") p.0.1) s.0 s.1)

  cases_read_low : (ts : Tokens) (b : List (List ℕ × Option TypeTree) × Tokens) → cases_read read ts ≡ Some b → levels_of_cases (cases_of b.0) ≤ n
  cases_read_low ts b e =
      let h = parts_back (case_part read) (codes "}") (λ c us m. levels_of_payload (maybe_type c.1) ≤ n) case_low (length ts) [] ts b e in
      subst (λ z. levels_of_cases (cases_of z) ≤ n) (sym h.all) (cases_low n (codes "}") h.read ts b.1 h.are)

  fixed_low : (E : TypeTree) (ts : Tokens) (b : TypeTree × Tokens) → levels_of E ≤ n → fixed_read E ts ≡ Some b → levels_of b.0 ≤ suc n
  fixed_low E ts b le e =
      let p = onward_back (after (codes ",") ts) _ b e in
      let k = onward_back (count_at p.0) _ b p.2 in
      let z = with_back (fixed E k.0.0) (closed (codes ">") k.0.1) b k.2 in
      at_most (fixed E k.0.0) b.0 (suc n) z.1 (omega (arith, le))

  list_low : (ts : Tokens) (b : TypeTree × Tokens) → list_read read ts ≡ Some b → levels_of b.0 ≤ suc n
  list_low ts b e =
      let p = onward_back (after (codes "<") ts) _ b e in
      let s = onward_back (read p.0) _ b p.2 in
      let le = low p.0 s.0 s.1 in
      elim (or_back (with (list s.0.0) (closed (codes ">") s.0.1)) (fixed_read s.0.0 s.0.1) b s.2) as (λ _. levels_of b.0 ≤ suc n) [
        | inl q ↦ at_most (list s.0.0) b.0 (suc n) (with_back (list s.0.0) (closed (codes ">") s.0.1) b q).1 (omega (arith, le))
        | inr q ↦ fixed_low s.0.0 s.0.1 b le q
      ]

  option_low : (ts : Tokens) (b : TypeTree × Tokens) → option_read read ts ≡ Some b → levels_of b.0 ≤ suc n
  option_low ts b e =
      let p = onward_back (after (codes "<") ts) _ b e in
      let s = onward_back (read p.0) _ b p.2 in
      let le = low p.0 s.0 s.1 in
      at_most (option s.0.0) b.0 (suc n) (with_back (option s.0.0) (closed (codes ">") s.0.1) b s.2).1 (omega (arith, le))

  map_low : (ts : Tokens) (b : TypeTree × Tokens) → map_read read ts ≡ Some b → levels_of b.0 ≤ suc n
  map_low ts b e =
      let p = onward_back (after (codes "<") ts) _ b e in
      let k = onward_back (key_at p.0) _ b p.2 in
      let key = key_back p.0 k.0 k.1 in
      let c = onward_back (after (codes ",") k.0.1) _ b k.2 in
      let v = onward_back (read c.0) _ b c.2 in
      let z = onward_back (closed (codes ">") v.0.1) _ b v.2 in
      let w = built_back (map_type k.0.0 v.0.0) z.0 b z.2 in
      let le = low c.0 v.0 v.1 in
      at_most (map_tree key.kind v.0.0) b.0 (suc n) (map_built k.0.0 v.0.0 key.kind b.0 key.is w.0) (omega (arith, le))

  err_low : (A : Option TypeTree) (ts : Tokens) (b : TypeTree × Tokens) → levels_of_payload (maybe_type A) ≤ n → err_read read A ts ≡ Some b → levels_of b.0 ≤ suc n
  err_low A ts b first e =
      let p = onward_back (after (codes ",") ts) _ b e in
      let s = onward_back (read p.0) _ b p.2 in
      let le = low p.0 s.0 s.1 in
      at_most (result (maybe_type A) (a_type s.0.0)) b.0 (suc n) (with_back (result (maybe_type A) (a_type s.0.0)) (closed (codes ">") s.0.1) b s.2).1 (omega (arith, first, le))

  payloads_low : (m : Tokens) (o : Option Tokens) (b : TypeTree × Tokens) → payloads_read read m o ≡ Some b → levels_of b.0 ≤ suc n
  payloads_low m (Some l) b e = err_low None l b (omega arith) e
  payloads_low m None b e =
      let s = onward_back (read m) _ b e in
      let le = low m s.0 s.1 in
      elim (or_back (with (result (a_type s.0.0) no_type) (closed (codes ">") s.0.1)) (err_read read (Some s.0.0) s.0.1) b s.2) as (λ _. levels_of b.0 ≤ suc n) [
        | inl q ↦ at_most (result (a_type s.0.0) no_type) b.0 (suc n) (with_back (result (a_type s.0.0) no_type) (closed (codes ">") s.0.1) b q).1 (omega (arith, le))
        | inr q ↦ err_low (Some s.0.0) s.0.1 b le q
      ]

  result_low : (ts : Tokens) (o : Option Tokens) (b : TypeTree × Tokens) → result_read read ts o ≡ Some b → levels_of b.0 ≤ suc n
  result_low ts None b e = let same : (result no_type no_type, ts) ≡ b = cc in subst (λ z. levels_of z.0 ≤ suc n) same (omega arith)
  result_low ts (Some m) b e = payloads_low m (after (codes "_") m) b e

  one_low : (T : TypeTree) (ts : Tokens) (b : TypeTree × Tokens) → levels_of T ≡ 1 → Some (T, ts) ≡ Some b → levels_of b.0 ≤ suc n
  one_low T ts b one e = let same : (T, ts) ≡ b = cc in subst (λ z. levels_of z.0 ≤ suc n) same (omega (arith, one))

  kind_low : (kind : WasmTypeKind) (ts : Tokens) (b : TypeTree × Tokens) → kind_read read kind ts ≡ Some b → levels_of b.0 ≤ suc n
  kind_low kinds.List ts b e = list_low ts b e
  kind_low kinds.Option ts b e = option_low ts b e
  kind_low kinds.Map ts b e = map_low ts b e
  kind_low kinds.Result ts b e = result_low ts (after (codes "<") ts) b e
  kind_low kinds.Tuple ts b e =
      let p = onward_back (after (codes "<") ts) _ b e in
      let h = onward_back (types_read read p.0) _ b p.2 in
      let w = built_back (tuple_type h.0.0) h.0.1 b h.2 in
      let le = types_read_low p.0 h.0 h.1 in
      at_most (tuple (types_of h.0.0)) b.0 (suc n) (tuple_built h.0.0 b.0 w.0) (omega (arith, le))
  kind_low kinds.Record ts b e =
      let p = onward_back (after (codes "{") ts) _ b e in
      let h = onward_back (fields_read read (codes "}") p.0) _ b p.2 in
      let w = built_back (maker.record_type h.0.0) h.0.1 b h.2 in
      let le = fields_read_low (codes "}") p.0 h.0 h.1 in
      at_most (record_type (fields_of h.0.0)) b.0 (suc n) (record_built h.0.0 b.0 w.0) (omega (arith, le))
  kind_low kinds.Variant ts b e =
      let p = onward_back (after (codes "{") ts) _ b e in
      let h = onward_back (cases_read read p.0) _ b p.2 in
      let w = built_back (variant_type h.0.0) h.0.1 b h.2 in
      let le = cases_read_low p.0 h.0 h.1 in
      at_most (variant (cases_of h.0.0)) b.0 (suc n) (variant_built h.0.0 b.0 w.0) (omega (arith, le))
  kind_low kinds.Enum ts b e =
      let p = onward_back (after (codes "{") ts) _ b e in
      let h = onward_back (names_read (codes "}") p.0) _ b p.2 in
      at_most (enum h.0.0) b.0 (suc n) (enum_built h.0.0 b.0 (built_back (enum_type h.0.0) h.0.1 b h.2).0) (omega arith)
  kind_low kinds.Flags ts b e =
      let p = onward_back (after (codes "{") ts) _ b e in
      let h = onward_back (names_read (codes "}") p.0) _ b p.2 in
      at_most (flags h.0.0) b.0 (suc n) (flags_built h.0.0 b.0 (built_back (flags_type h.0.0) h.0.1 b h.2).0) (omega arith)
  kind_low kinds.Bool ts b e = one_low _ ts b refl e
  kind_low kinds.S8 ts b e = one_low _ ts b refl e
  kind_low kinds.S16 ts b e = one_low _ ts b refl e
  kind_low kinds.S32 ts b e = one_low _ ts b refl e
  kind_low kinds.S64 ts b e = one_low _ ts b refl e
  kind_low kinds.U8 ts b e = one_low _ ts b refl e
  kind_low kinds.U16 ts b e = one_low _ ts b refl e
  kind_low kinds.U32 ts b e = one_low _ ts b refl e
  kind_low kinds.U64 ts b e = one_low _ ts b refl e
  kind_low kinds.F32 ts b e = one_low _ ts b refl e
  kind_low kinds.F64 ts b e = one_low _ ts b refl e
  kind_low kinds.Char ts b e = one_low _ ts b refl e
  kind_low kinds.String ts b e = one_low _ ts b refl e
  kind_low kinds.FixedLengthList ts b e = absurd (cc)
  kind_low kinds.Unsupported ts b e = absurd (cc)

-- what is read within a number of levels has no more
pub read_low : (n : ℕ) → IsLow n (type_read n)
read_low zero ts b e = absurd (cc)
read_low (suc n) ts b e = let p = onward_back (kind_at ts) _ b e in kind_low n (type_read n) (read_low n) p.0.0 p.0.1 b p.2

-- ---- functions

module _ (n : ℕ) (read : Reads) (low : IsLow n read) where
  params_low : (ts : Tokens) (o : Option Tokens) (b : Parts × Tokens) → params_read read ts o ≡ Some b → levels_of_fields (fields_of b.0) ≤ n
  params_low ts (Some m) b e = subst (λ (z : Parts × Tokens). levels_of_fields (fields_of z.0) ≤ n) (unwrapped ([], m) b e) (omega arith)
  params_low ts None b e = fields_read_low n read low (codes ")") ts b e

  result_parts_low : (ts : Tokens) (o : Option Tokens) (b : Parts × Tokens) → result_parts_read read ts o ≡ Some b → levels_of_fields (fields_of b.0) ≤ n
  result_parts_low ts (Some m) b e = fields_read_low n read low (codes ")") m b e
  result_parts_low ts None b e =
      let s = onward_back (read ts) _ b e in
      let le = low ts s.0 s.1 in
      subst (λ (z : Parts × Tokens). levels_of_fields (fields_of z.0) ≤ n) (unwrapped (([], s.0.0) ∷ [], s.0.1) b s.2) (omega (arith, le))

  results_low : (ts : Tokens) (o : Option Tokens) (b : Parts × Tokens) → results_read read ts o ≡ Some b → levels_of_fields (fields_of b.0) ≤ n
  results_low ts None b e = subst (λ (z : Parts × Tokens). levels_of_fields (fields_of z.0) ≤ n) (unwrapped ([], ts) b e) (omega arith)
  results_low ts (Some m) b e =
      let l = onward_back (after (codes ">") m) _ b e in
      result_parts_low l.0 (after (codes "(") l.0) b l.2

  function_low_in : (ts : Tokens) (b : FunctionType × Tokens) → function_read read ts ≡ Some b → levels_of_function b.0 ≤ n
  function_low_in ts b e =
      let p = onward_back (after (codes "func") ts) _ b e in
      let q = onward_back (after (codes "(") p.0) (signature_read read) b p.2 in
      let ps = onward_back (params_read read q.0 (after (codes ")") q.0)) _ b q.2 in
      let rs = onward_back (results_read read ps.0.1 (after (codes "-") ps.0.1)) _ b ps.2 in
      let same = unwrapped (record { params = ps.0.0; results = rs.0.0 }, rs.0.1) b rs.2 in
      let first = params_low q.0 (after (codes ")") q.0) ps.0 ps.1 in
      let second = results_low ps.0.1 (after (codes "-") ps.0.1) rs.0 rs.1 in
      subst (λ (z : FunctionType × Tokens). levels_of_function z.0 ≤ n) same (omega (arith, first, second))

-- the types in what is read of a function have that many levels at most
pub function_low : (n : ℕ) (ts r : Tokens) (f : FunctionType) → function_read (type_read n) ts ≡ Some (f, r) → levels_of_function f ≤ n
function_low n ts r f e = function_low_in n (type_read n) (read_low n) ts (f, r) e
