-- The flags of a map, in the order of their names.
use Rattle.std.proofs.Common.{◌≡◌, ◌≢◌, ℕ, List, [], ◌∷◌, ◌++◌, Bool, true, false, refl, sym, ap, ◌∙◌, map, cond, arith}
use Rattle.std.specs.Prelude.{if◌then◌else◌, nat_lt, ◌==◌}
use Rattle.std.specs.Cmp.Lexicographic.{slice_cmp, nat_list_cmp_total}
use Rattle.std.specs.Ordering.{nat_cmp, is_lt, is_eq, ordering_then, ordering_reverse}
use Rattle.std.specs.declared.cmp.Ordering.{Ordering}
use Rattle.std.specs.declared.cmp.Ordering.TheVariants.{Less, Equal, Greater}
use Rattle.std.proofs.lemmas.Slice.Eq.{bytes_eq-Decides}
use Rattle.std.proofs.lemmas.Map.Text.{is_eq-slice_cmp}
use Rattle.std.proofs.lemmas.Bool.Decides.{nat_tests}
use Rattle.wave_wasm.specs.Names.{IsNoneOf}
use Rattle.wave_grammar.specs.Tree.{is_before}
use Rattle.wave_grammar.specs.FlagOrder.{Flag, flag_name, put_flag, flags_in_order}

-- ---- the order of names

heads : (x y z r : Bool) (o : Ordering) → (x ≡ true → y ≡ false) → (x ≡ false → y ≡ false → z ≡ true) → (y ≡ true → z ≡ false) → r ≡ is_lt o →
    (if x then true else (if y then false else r)) ≡ is_lt (ordering_then (cond x Less (cond z Equal Greater)) o)
heads true y z r o f g h e = refl
heads false true true r o f g h e = absurd (let wrong : true ≡ false = h refl in cc)
heads false true false r o f g h e = refl
heads false false true r o f g h e = e
heads false false false r o f g h e = absurd (let wrong : false ≡ true = g refl refl in cc)

-- `is_before` is the order of bytes
pub before_is : (a b : List ℕ) → is_before a b ≡ is_lt (slice_cmp nat_cmp a b)
before_is [] [] = refl
before_is [] (y ∷ ys) = refl
before_is (x ∷ xs) [] = refl
before_is (x ∷ xs) (y ∷ ys) = heads (nat_lt x y) (nat_lt y x) (x == y) (is_before xs ys) (slice_cmp nat_cmp xs ys)
    (λ e. grind (arith, nat_tests, e)) (λ e f. grind (arith, nat_tests, e, f)) (λ e. grind (arith, nat_tests, e)) (before_is xs ys)

less_is : (o : Ordering) → is_lt o ≡ true → o ≡ Less
less_is Less e = refl
less_is Equal e = cc
less_is Greater e = cc

asym_at : (o p : Ordering) → o ≡ ordering_reverse p → is_lt p ≡ true → is_lt o ≡ false
asym_at o Less e h = ap is_lt e
asym_at o Equal e h = cc
asym_at o Greater e h = cc

-- of two names only one is before the other
pub asym : (a b : List ℕ) → is_before a b ≡ true → is_before b a ≡ false
asym a b h = before_is b a ∙ asym_at (slice_cmp nat_cmp b a) (slice_cmp nat_cmp a b) (nat_list_cmp_total.antisymm b a) (sym (before_is a b) ∙ h)

pub equal_names : (a b : List ℕ) → slice_cmp nat_cmp a b ≡ Equal → a ≡ b
equal_names a b e = (bytes_eq-Decides a b).0 (sym (is_eq-slice_cmp a b) ∙ ap is_eq e)

total_at : (o p : Ordering) → o ≡ ordering_reverse p → is_lt p ≡ false → (p ≡ Equal → ⊥) → is_lt o ≡ true
total_at o Less e h k = cc
total_at o Equal e h k = absurd (k refl)
total_at o Greater e h k = ap is_lt e

-- of two names one is before the other
pub total : (a b : List ℕ) → a ≢ b → is_before a b ≡ false → is_before b a ≡ true
total a b n h = before_is b a ∙ total_at (slice_cmp nat_cmp b a) (slice_cmp nat_cmp a b) (nat_list_cmp_total.antisymm b a) (sym (before_is a b) ∙ h) (λ e. n (equal_names a b e))

-- what is before a name is before the names after it
pub trans : (a b c : List ℕ) → is_before a b ≡ true → is_before b c ≡ true → is_before a c ≡ true
trans a b c h k = before_is a c ∙ ap is_lt (nat_list_cmp_total.trans a b c (less_is _ (sym (before_is a b) ∙ h)) (less_is _ (sym (before_is b c) ∙ k)))

-- ---- flags are put in order one after another

put_before : (f g : Flag) (gs : List Flag) → is_before (flag_name f) (flag_name g) ≡ true → put_flag f (g ∷ gs) ≡ f ∷ g ∷ gs
put_before f g gs e = ap (λ b. if b then f ∷ g ∷ gs else g ∷ put_flag f gs) e

put_behind : (f g : Flag) (gs : List Flag) → is_before (flag_name f) (flag_name g) ≡ false → put_flag f (g ∷ gs) ≡ g ∷ put_flag f gs
put_behind f g gs e = ap (λ b. if b then f ∷ g ∷ gs else g ∷ put_flag f gs) e

two_at : (a f : Flag) (r : Bool) → flag_name a ≢ flag_name f → is_before (flag_name a) (flag_name f) ≡ r → put_flag a (f ∷ []) ≡ put_flag f (a ∷ [])
two_at a f true n e = put_before a f [] e ∙ sym (put_behind f a [] (asym (flag_name a) (flag_name f) e))
two_at a f false n e = put_behind a f [] e ∙ sym (put_before f a [] (total (flag_name a) (flag_name f) n e))

three_at : (a f x : Flag) (xs : List Flag) (p q r : Bool) → flag_name a ≢ flag_name f → is_before (flag_name a) (flag_name x) ≡ p → is_before (flag_name f) (flag_name x) ≡ q → is_before (flag_name a) (flag_name f) ≡ r →
    put_flag a (put_flag f xs) ≡ put_flag f (put_flag a xs) → put_flag a (put_flag f (x ∷ xs)) ≡ put_flag f (put_flag a (x ∷ xs))
three_at a f x xs true true true n p q r e =
    ap (put_flag a) (put_before f x xs q) ∙ (put_before a f (x ∷ xs) r
    ∙ sym (ap (put_flag f) (put_before a x xs p) ∙ (put_behind f a (x ∷ xs) (asym (flag_name a) (flag_name f) r) ∙ ap (λ z. a ∷ z) (put_before f x xs q))))
three_at a f x xs true true false n p q r e =
    ap (put_flag a) (put_before f x xs q) ∙ (put_behind a f (x ∷ xs) r ∙ (ap (λ z. f ∷ z) (put_before a x xs p)
    ∙ sym (ap (put_flag f) (put_before a x xs p) ∙ put_before f a (x ∷ xs) (total (flag_name a) (flag_name f) n r))))
three_at a f x xs true false true n p q r e =
    ap (put_flag a) (put_behind f x xs q) ∙ (put_before a x (put_flag f xs) p
    ∙ sym (ap (put_flag f) (put_before a x xs p) ∙ (put_behind f a (x ∷ xs) (asym (flag_name a) (flag_name f) r) ∙ ap (λ z. a ∷ z) (put_behind f x xs q))))
three_at a f x xs true false false n p q r e =
    let wrong : false ≡ true = sym q ∙ trans (flag_name f) (flag_name a) (flag_name x) (total (flag_name a) (flag_name f) n r) p in cc
three_at a f x xs false true true n p q r e =
    let wrong : false ≡ true = sym p ∙ trans (flag_name a) (flag_name f) (flag_name x) r q in cc
three_at a f x xs false true false n p q r e =
    ap (put_flag a) (put_before f x xs q) ∙ (put_behind a f (x ∷ xs) r ∙ (ap (λ z. f ∷ z) (put_behind a x xs p)
    ∙ sym (ap (put_flag f) (put_behind a x xs p) ∙ put_before f x (put_flag a xs) q)))
three_at a f x xs false false r' n p q r e =
    ap (put_flag a) (put_behind f x xs q) ∙ (put_behind a x (put_flag f xs) p ∙ (ap (λ z. x ∷ z) e
    ∙ sym (ap (put_flag f) (put_behind a x xs p) ∙ put_behind f x (put_flag a xs) q)))

-- two flags of other names may be put in either order
commute : (a f : Flag) (xs : List Flag) → flag_name a ≢ flag_name f → put_flag a (put_flag f xs) ≡ put_flag f (put_flag a xs)
commute a f [] n = two_at a f (is_before (flag_name a) (flag_name f)) n refl
commute a f (x ∷ xs) n = three_at a f x xs _ _ _ n refl refl refl (commute a f xs n)

-- a last flag
pub order_last : (fs : List Flag) (f : Flag) → IsNoneOf (map flag_name fs) (flag_name f) → flags_in_order (fs ++ f ∷ []) ≡ put_flag f (flags_in_order fs)
order_last [] f h = refl
order_last (a ∷ fs) f (n, h) = ap (put_flag a) (order_last fs f h) ∙ commute a f (flags_in_order fs) (λ e. n (sym e))

-- ---- the entries of the map

none_put : (name : List ℕ) (f : Flag) (gs : List Flag) → name ≢ flag_name f → IsNoneOf (map flag_name gs) name → IsNoneOf (map flag_name (put_flag f gs)) name
none_put name f [] n h = (n, tt)
none_put name f (g ∷ gs) n (m, h) = by (is_before (flag_name f) (flag_name g)) (none_put name f gs n h)
  where
    by : (b : Bool) → IsNoneOf (map flag_name (put_flag f gs)) name → IsNoneOf (map flag_name (if b then f ∷ g ∷ gs else g ∷ put_flag f gs)) name
    by true more = (n, (m, h))
    by false more = (m, more)

-- a name that is none of theirs in the source is none of theirs in order
pub none_in_order : (name : List ℕ) (fs : List Flag) → IsNoneOf (map flag_name fs) name → IsNoneOf (map flag_name (flags_in_order fs)) name
none_in_order name [] h = tt
none_in_order name (f ∷ fs) (n, h) = none_put name f (flags_in_order fs) n (none_in_order name fs h)
