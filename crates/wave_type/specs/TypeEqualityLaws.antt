-- The test says true exactly at one tree and itself.
use Rattle.std.specs.Prelude.{◌≡◌, ℕ, Bool, true, ◌&&◌, ◌==◌, List, [], ◌∷◌, refl}
use Rattle.std.proofs.Common.{sym, ap, subst, ◌∙◌, arith}
use Rattle.std.proofs.lemmas.Bool.{false≢true, and_parts}
use Rattle.std.proofs.lemmas.Bool.Decides.{nat_tests}
use Rattle.std.specs.Str.{bytes_eq}
use Rattle.std.specs.Cmp.{IsPartialEquivalence, IsEquivalence, both_ways, equiv}
use Rattle.std.proofs.lemmas.Slice.Eq.{bytes_eq-Decides}
use Rattle.wave_wasm.specs.SimpleEquality.{one_simple, simple_itself, one_unreadable, unreadable_itself}
use Rattle.wave_type.specs.TypeEquality.{same_names, same_tree, same_types, same_fields, same_cases, same_payload}
use Rattle.wave_wasm.specs.Types.{TypeTree, simple, unreadable, list, fixed, record_type, tuple, variant, enum, option, result, flags, map, Types, no_types, type_and, Fields, no_fields, field, Cases, no_cases, case_of, MaybeType, no_type, a_type}

same_number : (m n : ℕ) → (m == n) ≡ true → m ≡ n
same_number m n e = grind (arith, nat_tests)

one_name : (m n : List ℕ) → bytes_eq m n ≡ true → m ≡ n
one_name m n = (bytes_eq-Decides m n).0

pub one_names : (ms ns : List (List ℕ)) → same_names ms ns ≡ true → ms ≡ ns
one_names [] [] e = refl
one_names (a ∷ m) (b ∷ n) e = let p = and_parts _ _ e in λ i. one_name a b p.0 i ∷ one_names m n p.1 i
one_names [] (b ∷ n) e = absurd (false≢true e)
one_names (a ∷ m) [] e = absurd (false≢true e)

mutual
  pub one_tree : (t u : TypeTree) → same_tree t u ≡ true → t ≡ u
  one_tree (simple p) (simple q) e = ap simple (one_simple p q e)
  one_tree (unreadable u) (unreadable v) e = ap unreadable (one_unreadable u v e)
  one_tree (list t) (list u) e = ap list (one_tree t u e)
  one_tree (fixed t n) (fixed u m) e = let p = and_parts _ _ e in λ i. fixed (one_tree t u p.1 i) (same_number n m p.0 i)
  one_tree (record_type fs) (record_type gs) e = ap record_type (one_fields fs gs e)
  one_tree (tuple ts) (tuple us) e = ap tuple (one_types ts us e)
  one_tree (variant cs) (variant ds) e = ap variant (one_cases cs ds e)
  one_tree (enum ns) (enum ms) e = ap enum (one_names ns ms e)
  one_tree (option t) (option u) e = ap option (one_tree t u e)
  one_tree (result a b) (result c d) e = let p = and_parts _ _ e in λ i. result (one_payload a c p.0 i) (one_payload b d p.1 i)
  one_tree (flags ns) (flags ms) e = ap flags (one_names ns ms e)
  one_tree (map k t) (map l u) e = let p = and_parts _ _ e in λ i. map (one_simple k l p.0 i) (one_tree t u p.1 i)
  one_tree _ _ e = absurd (false≢true e)

  pub one_types : (ts us : Types) → same_types ts us ≡ true → ts ≡ us
  one_types no_types no_types e = refl
  one_types (type_and t ts) (type_and u us) e = let p = and_parts _ _ e in λ i. type_and (one_tree t u p.0 i) (one_types ts us p.1 i)
  one_types _ _ e = absurd (false≢true e)

  pub one_fields : (fs gs : Fields) → same_fields fs gs ≡ true → fs ≡ gs
  one_fields no_fields no_fields e = refl
  one_fields (field n t fs) (field m u gs) e =
      let p = and_parts _ _ e in let q = and_parts _ _ p.1 in
      λ i. field (one_name n m p.0 i) (one_tree t u q.0 i) (one_fields fs gs q.1 i)
  one_fields _ _ e = absurd (false≢true e)

  pub one_cases : (cs ds : Cases) → same_cases cs ds ≡ true → cs ≡ ds
  one_cases no_cases no_cases e = refl
  one_cases (case_of n t fs) (case_of m u gs) e =
      let p = and_parts _ _ e in let q = and_parts _ _ p.1 in
      λ i. case_of (one_name n m p.0 i) (one_payload t u q.0 i) (one_cases fs gs q.1 i)
  one_cases _ _ e = absurd (false≢true e)

  pub one_payload : (p q : MaybeType) → same_payload p q ≡ true → p ≡ q
  one_payload no_type no_type e = refl
  one_payload (a_type t) (a_type u) e = ap a_type (one_tree t u e)
  one_payload _ _ e = absurd (false≢true e)

same_number_itself : (n : ℕ) → (n == n) ≡ true
same_number_itself n = grind (arith, nat_tests)

same_name_itself : (n : List ℕ) → bytes_eq n n ≡ true
same_name_itself n = (bytes_eq-Decides n n).1 refl

both : {a b : Bool} → a ≡ true → b ≡ true → (a && b) ≡ true
both p q = λ i. p i && q i

same_names_itself : (ns : List (List ℕ)) → same_names ns ns ≡ true
same_names_itself [] = refl
same_names_itself (n ∷ ns) = both (same_name_itself n) (same_names_itself ns)

mutual
  pub same_itself : (t : TypeTree) → same_tree t t ≡ true
  same_itself (simple p) = simple_itself p
  same_itself (unreadable u) = unreadable_itself u
  same_itself (list t) = same_itself t
  same_itself (fixed t n) = both (same_number_itself n) (same_itself t)
  same_itself (record_type fs) = fields_itself fs
  same_itself (tuple ts) = types_itself ts
  same_itself (variant cs) = cases_itself cs
  same_itself (enum ns) = same_names_itself ns
  same_itself (option t) = same_itself t
  same_itself (result a b) = both (payload_itself a) (payload_itself b)
  same_itself (flags ns) = same_names_itself ns
  same_itself (map k t) = both (simple_itself k) (same_itself t)

  types_itself : (ts : Types) → same_types ts ts ≡ true
  types_itself no_types = refl
  types_itself (type_and t ts) = both (same_itself t) (types_itself ts)

  fields_itself : (fs : Fields) → same_fields fs fs ≡ true
  fields_itself no_fields = refl
  fields_itself (field n t fs) = both (same_name_itself n) (both (same_itself t) (fields_itself fs))

  cases_itself : (cs : Cases) → same_cases cs cs ≡ true
  cases_itself no_cases = refl
  cases_itself (case_of n p cs) = both (same_name_itself n) (both (payload_itself p) (cases_itself cs))

  payload_itself : (p : MaybeType) → same_payload p p ≡ true
  payload_itself no_type = refl
  payload_itself (a_type t) = same_itself t

-- from one tree to the test
same_by_path : (t u : TypeTree) → t ≡ u → same_tree t u ≡ true
same_by_path t u e = subst (λ v. same_tree t v ≡ true) e (same_itself t)

pub same_per : IsPartialEquivalence same_tree
same_per = record {
  symm = λ t u. both_ways (same_tree t u) (same_tree u t) (λ e. same_by_path u t (sym (one_tree t u e))) (λ e. same_by_path t u (sym (one_tree u t e)));
  trans = λ t u v p q. same_by_path t v (one_tree t u p ∙ one_tree u v q);
}

pub same_equiv : IsEquivalence same_tree
same_equiv = equiv same_per same_itself
