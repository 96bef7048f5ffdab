-- Whether two values beside their types are one, as a test: they are stored alike.
use Rattle.std.specs.Prelude.{◌≡◌, ℕ, Bool, true, false, ◌&&◌, ◌==◌, refl}
use Rattle.std.proofs.Common.{sym, ap, subst, ◌∙◌, arith}
use Rattle.std.proofs.lemmas.Bool.{false≢true, and_parts}
use Rattle.std.proofs.lemmas.Bool.Decides.{nat_tests}
use Rattle.std.specs.Cmp.{IsPartialEquivalence, IsEquivalence, both_ways, equiv}
use base.Stored.{Gv, gnil, gnum, gcons}
use Rattle.wave_wasm.specs.Values.{Value}
use Rattle.wave_value.specs.TypedValue.{TypedValue}
use Rattle.wave_value.specs.ValueEncoding.{stored_value, value_apart}
use Rattle.wave_type.specs.TypeEquality.{same_tree}
use Rattle.wave_type.specs.TypeEqualityLaws.{one_tree, same_itself}

-- two stored values are one
abbrev pub same_stored : Gv → Gv → Bool
same_stored gnil gnil = true
same_stored (gnum m) (gnum n) = m == n
same_stored (gcons a b) (gcons c d) = same_stored a c && same_stored b d
same_stored _ _ = false

-- two values are one
abbrev pub same_value : Value → Value → Bool
same_value v w = same_stored (stored_value v) (stored_value w)

-- two values beside their types are one: equal types and equal contents
abbrev pub same_typed : TypedValue → TypedValue → Bool
same_typed v w = same_tree v.own w.own && same_value v.tree w.tree

same_number : (m n : ℕ) → (m == n) ≡ true → m ≡ n
same_number m n e = grind (arith, nat_tests)

number_itself : (n : ℕ) → (n == n) ≡ true
number_itself n = grind (arith, nat_tests)

pub one_stored : (a b : Gv) → same_stored a b ≡ true → a ≡ b
one_stored gnil gnil e = refl
one_stored (gnum m) (gnum n) e = ap gnum (same_number m n e)
one_stored (gcons a b) (gcons c d) e = let p = and_parts _ _ e in λ i. gcons (one_stored a c p.0 i) (one_stored b d p.1 i)
one_stored _ _ e = absurd (false≢true e)

pub stored_itself : (a : Gv) → same_stored a a ≡ true
stored_itself gnil = refl
stored_itself (gnum n) = number_itself n
stored_itself (gcons a b) = λ i. stored_itself a i && stored_itself b i

-- the test says true at one value alone
pub one_typed : (v w : TypedValue) → same_typed v w ≡ true → v ≡ w
one_typed v w e =
    let p = and_parts _ _ e in
    let own = one_tree v.own w.own p.0 in
    let tree = value_apart v.tree w.tree (one_stored _ _ p.1) in
    λ i. record { own = own i; tree = tree i }

-- and at each value and itself
pub typed_itself : (v : TypedValue) → same_typed v v ≡ true
typed_itself v = λ i. same_itself v.own i && stored_itself (stored_value v.tree) i

same_by_path : (v w : TypedValue) → v ≡ w → same_typed v w ≡ true
same_by_path v w e = subst (λ u. same_typed v u ≡ true) e (typed_itself v)

pub typed_per : IsPartialEquivalence same_typed
typed_per = record {
  symm = λ v w. both_ways (same_typed v w) (same_typed w v) (λ e. same_by_path w v (sym (one_typed v w e))) (λ e. same_by_path v w (sym (one_typed w v e)));
  trans = λ u v w p q. same_by_path u w (one_typed u v p ∙ one_typed v w q);
}

pub typed_equiv : IsEquivalence same_typed
typed_equiv = equiv typed_per typed_itself
