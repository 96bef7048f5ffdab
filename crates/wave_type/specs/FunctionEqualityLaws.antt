-- The test says true exactly at one type of a function and itself.
use Rattle.std.specs.Prelude.{◌≡◌, ℕ, true, List, [], ◌∷◌, refl}
use Rattle.std.proofs.Common.{sym, subst, ◌∙◌}
use Rattle.std.proofs.lemmas.Bool.{false≢true, and_parts}
use Rattle.std.specs.Cmp.{IsPartialEquivalence, IsEquivalence, both_ways, equiv}
use Rattle.std.specs.Cmp.Derive.{both_true}
use Rattle.std.proofs.lemmas.Slice.Eq.{bytes_eq-Decides}
use Rattle.wave_wasm.specs.Types.{TypeTree}
use Rattle.wave_type.specs.TypeEqualityLaws.{one_tree, same_itself}
use Rattle.wave_type.specs.FunctionType.{FunctionType}
use Rattle.wave_type.specs.FunctionEquality.{same_parts, same_function}

one_parts : (ps qs : List (List ℕ × TypeTree)) → same_parts ps qs ≡ true → ps ≡ qs
one_parts [] [] e = refl
one_parts ((m, t) ∷ ps) ((n, u) ∷ qs) e =
    let p = and_parts _ _ e in
    let q = and_parts _ _ p.0 in
    λ i. ((bytes_eq-Decides m n).0 q.0 i, one_tree t u q.1 i) ∷ one_parts ps qs p.1 i
one_parts [] (q ∷ qs) e = absurd (false≢true e)
one_parts (p ∷ ps) [] e = absurd (false≢true e)

-- types of functions that the test joins are one
pub one_function : (f g : FunctionType) → same_function f g ≡ true → f ≡ g
one_function f g e = let p = and_parts _ _ e in λ i. record { params = one_parts f.params g.params p.0 i; results = one_parts f.results g.results p.1 i }

parts_themselves : (ps : List (List ℕ × TypeTree)) → same_parts ps ps ≡ true
parts_themselves [] = refl
parts_themselves ((n, t) ∷ ps) = both_true (both_true ((bytes_eq-Decides n n).1 refl) (same_itself t)) (parts_themselves ps)

-- the test joins a type of a function to itself
pub function_itself : (f : FunctionType) → same_function f f ≡ true
function_itself f = both_true (parts_themselves f.params) (parts_themselves f.results)

-- from one type of a function to the test
pub same_by_path : (f g : FunctionType) → f ≡ g → same_function f g ≡ true
same_by_path f g e = subst (λ h. same_function f h ≡ true) e (function_itself f)

pub same_per : IsPartialEquivalence same_function
same_per = record {
  symm = λ f g.
      both_ways (same_function f g) (same_function g f)
      (λ e. same_by_path g f (sym (one_function f g e))) (λ e. same_by_path f g (sym (one_function g f e)));
  trans = λ f g h p q. same_by_path f h (one_function f g p ∙ one_function g h q);
}

pub same_equiv : IsEquivalence same_function
same_equiv = equiv same_per function_itself
