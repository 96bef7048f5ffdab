-- A sequence of parts, from one place on: how deep they are, what is left to write, and whether it can be written.
use Rattle.std.proofs.Common.{ℕ, zero, suc, ◌≡◌, ◌<◌, ◌≤◌, ◌+◌, List, [], ◌∷◌, ◌++◌, Bool, true, false, ◌&&◌, refl, sym, ap, ◌∙◌, length, get_or, drop, map, max, arith, add-one, append_assoc, subst, codes, Option, Some, None}
use Rattle.std.proofs.Math.Seq.{drop-cons, drop-nil}
use Rattle.std.proofs.lemmas.List.{append-nil, map-append}
use Rattle.std.specs.List.{list_all}
use Rattle.std.specs.Option.{option_to_list, IsSome}
use Rattle.std.specs.Prelude.{◌↔◌}
use Rattle.wave_wasm.specs.Lists.{AllOf}
use Rattle.wave_wasm.specs.Commas.{joined, followed}
use Rattle.wave_wasm.specs.CommaParts.{comma_if}

-- a fact of what is left at i, from the item there
pub at_item : {X Y : Type 0} (h : List X → Y) (xs : List X) (i : ℕ) (x : X) → i < length xs → x ≡ get_or xs i x → h (drop i xs) ≡ h (x ∷ drop (i + 1) xs)
at_item h xs i x lt is = ap h (rw (add-one, drop-cons xs i x lt) (ap (λ y. y ∷ drop (suc i) xs) (sym is)))

-- the item at i doesn't depend on what stands for one that is missing
pub item_again : {X : Type 0} (xs : List X) (i : ℕ) (d : X) → i < length xs → get_or xs i d ≡ get_or xs i (get_or xs i d)
item_again [] i d lt = absurd (omega arith)
item_again (x ∷ xs) zero d lt = refl
item_again (x ∷ xs) (suc i) d lt = item_again xs i d (omega arith) ∙ again xs i (get_or xs i d) (get_or (x ∷ xs) (suc i) d) (omega arith)
  where
    again : {X : Type 0} (xs : List X) (i : ℕ) (d e : X) → i < length xs → get_or xs i d ≡ get_or xs i e
    again [] i d e lt = absurd (omega arith)
    again (x ∷ xs) zero d e lt = refl
    again (x ∷ xs) (suc i) d e lt = again xs i d e (omega arith)

at_end_list : {X : Type 0} (xs : List X) (i : ℕ) → length xs ≤ i → drop i xs ≡ []
at_end_list [] i le = rw drop-nil refl
at_end_list (x ∷ xs) zero le = absurd (omega arith)
at_end_list (x ∷ xs) (suc i) le = at_end_list xs i (omega arith)

-- the same after the last item
pub at_end : {X Y : Type 0} (h : List X → Y) (xs : List X) (i : ℕ) → length xs ≤ i → h (drop i xs) ≡ h []
at_end h xs i le = ap h (at_end_list xs i le)

-- ---- what is left to write

-- the texts joined by commas, and a comma before them where an item stands before
abbrev pub parted : Bool → List (List ℕ) → List ℕ
parted later [] = []
parted later (s ∷ ss) = comma_if later ++ (s ++ parted true ss)

parted_followed : (ss : List (List ℕ)) → parted true ss ≡ followed ss
parted_followed [] = refl
parted_followed (s ∷ ss) = ap (λ z. codes ", " ++ (s ++ z)) (parted_followed ss)

-- from the first on they are the texts with commas between
pub parted_joined : (ss : List (List ℕ)) → parted false ss ≡ joined ss
parted_joined [] = refl
parted_joined (s ∷ ss) = ap (λ z. s ++ z) (parted_followed ss)

-- what is left to write begins with the next item
pub parted_item : {X : Type 0} (f : X → List ℕ) (xs : List X) (i : ℕ) (x : X) (later : Bool) (close : List ℕ) → i < length xs → x ≡ get_or xs i x → parted later (map f (drop i xs)) ++ close ≡ comma_if later ++ (f x ++ (parted true (map f (drop (i + 1) xs)) ++ close))
parted_item f xs i x later close lt is =
    let left = parted true (map f (drop (i + 1) xs)) in
    at_item (λ l. parted later (map f l) ++ close) xs i x lt is ∙ (append_assoc (comma_if later) (f x ++ left) close ∙ ap (λ s. comma_if later ++ s) (append_assoc (f x) left close))

-- ---- whether it can be written

-- where an item can't be written, all can't
pub item_blocks : {X : Type 0} (ok : X → Bool) (xs : List X) (i : ℕ) (x : X) (all : Bool) → i < length xs → x ≡ get_or xs i x → list_all ok (drop i xs) ≡ all → ok x ≡ false → all ≡ false
item_blocks ok xs i x all lt is h blocked = sym h ∙ (at_item (list_all ok) xs i x lt is ∙ ap (λ b. b && list_all ok (drop (i + 1) xs)) blocked)

-- where an item can be written, the others decide
pub item_passes : {X : Type 0} (ok : X → Bool) (xs : List X) (i : ℕ) (x : X) (all : Bool) → i < length xs → x ≡ get_or xs i x → list_all ok (drop i xs) ≡ all → ok x ≡ true → list_all ok (drop (i + 1) xs) ≡ all
item_passes ok xs i x all lt is h passes = sym (at_item (list_all ok) xs i x lt is ∙ ap (λ b. b && list_all ok (drop (i + 1) xs)) passes) ∙ h

-- after the last item nothing is left that can't be written
pub items_pass : {X : Type 0} (ok : X → Bool) (xs : List X) (i : ℕ) (all : Bool) → length xs ≤ i → list_all ok (drop i xs) ≡ all → all ≡ true
items_pass ok xs i all le h = sym h ∙ at_end (list_all ok) xs i le

-- ---- how deep they are

-- the greatest depth
abbrev pub depths : {X : Type 0} → (X → ℕ) → List X → ℕ
depths f [] = 0
depths f (x ∷ xs) = max (f x) (depths f xs)

-- the depths of a map
pub depths_map : {X Y : Type 0} (d : Y → ℕ) (f : X → Y) (xs : List X) → depths d (map f xs) ≡ depths (λ x. d (f x)) xs
depths_map d f [] = refl
depths_map d f (x ∷ xs) = ap (λ n. max (d (f x)) n) (depths_map d f xs)

-- an item is as deep as the deepest at most
pub depth_at : {X : Type 0} (f : X → ℕ) (xs : List X) (i : ℕ) (x : X) → i < length xs → x ≡ get_or xs i x → f x ≤ depths f xs
depth_at f [] i x lt is = absurd (omega arith)
depth_at f (y ∷ ys) zero x lt is = let e : f x ≡ f y = ap f is in omega arith
depth_at f (y ∷ ys) (suc i) x lt is = let h : f x ≤ depths f ys = depth_at f ys i x (omega arith) is in omega arith

-- a part is as deep as the deepest of the list of their trees at most
pub part_depth : {X Y : Type 0} (d : Y → ℕ) (f : X → Y) (xs ys : List X) (i : ℕ) (x : X) → xs ≡ ys → i < length xs → x ≡ get_or xs i x → d (f x) ≤ depths d (map f ys)
part_depth d f xs ys i x same lt is = let h = depth_at (λ x. d (f x)) xs i x lt is in rw (← same) (rw (depths_map d f xs) h)

-- ---- what holds of all

-- what holds of all holds of the item at i
pub all_at : {X : Type 0} (P : X → Type 0) (xs ys : List X) (i : ℕ) (x : X) → xs ≡ ys → i < length xs → x ≡ get_or xs i x → AllOf P ys → P x
all_at P xs ys i x same lt is h = each_at P xs i x lt is (subst (AllOf P) (sym same) h)
  where
    each_at : {X : Type 0} (P : X → Type 0) (xs : List X) (i : ℕ) (x : X) → i < length xs → x ≡ get_or xs i x → AllOf P xs → P x
    each_at P [] i x lt is h = absurd (omega arith)
    each_at P (y ∷ ys) zero x lt is h = subst P (sym is) h.0
    each_at P (y ∷ ys) (suc i) x lt is h = each_at P ys i x (omega arith) is h.1

-- ---- a last item behind the others

-- the list from which its last item was taken off
pub prefix_split : {X : Type 0} (all left ys : List X) (taken : Option X) (last : X) → all ≡ left ++ option_to_list taken → ys ≡ left → taken ≡ Some last → all ≡ ys ++ last ∷ []
prefix_split all left ys taken last split same is = split ∙ (ap (λ o. left ++ option_to_list o) is ∙ ap (λ l. l ++ last ∷ []) (sym same))

alone : (b : Bool) → (b && true) ≡ b
alone true = refl
alone false = refl

regrouped : (a b c : Bool) → (a && (b && c)) ≡ ((a && b) && c)
regrouped true b c = refl
regrouped false b c = refl

-- all can be written exactly if those before the last and the last one can
pub prefix_writable : {X : Type 0} (ok : X → Bool) (ys : List X) (last : X) → list_all ok (ys ++ last ∷ []) ≡ (list_all ok ys && ok last)
prefix_writable ok [] last = alone (ok last)
prefix_writable ok (y ∷ ys) last = ap (λ b. ok y && b) (prefix_writable ok ys last) ∙ regrouped (ok y) (list_all ok ys) (ok last)

-- where one of them can't be written, all can't
pub prefix_blocks : {X : Type 0} (ok : X → Bool) (ys : List X) (last : Bool) (i : ℕ) (x : X) (all : Bool) → i < length ys → x ≡ get_or ys i x → (list_all ok (drop i ys) && last) ≡ all → ok x ≡ false → all ≡ false
prefix_blocks ok ys last i x all lt is h blocked = sym h ∙ (at_item (λ l. list_all ok l && last) ys i x lt is ∙ ap (λ b. (b && list_all ok (drop (i + 1) ys)) && last) blocked)

-- where it can be written, the others decide
pub prefix_passes : {X : Type 0} (ok : X → Bool) (ys : List X) (last : Bool) (i : ℕ) (x : X) (all : Bool) → i < length ys → x ≡ get_or ys i x → (list_all ok (drop i ys) && last) ≡ all → ok x ≡ true → (list_all ok (drop (i + 1) ys) && last) ≡ all
prefix_passes ok ys last i x all lt is h passes = sym (at_item (λ l. list_all ok l && last) ys i x lt is ∙ ap (λ b. (b && list_all ok (drop (i + 1) ys)) && last) passes) ∙ h

-- after the others the last item decides
pub last_decides : {X : Type 0} (ok : X → Bool) (ys : List X) (last : Bool) (i : ℕ) (all : Bool) → length ys ≤ i → (list_all ok (drop i ys) && last) ≡ all → all ≡ last
last_decides ok ys last i all le h = sym h ∙ at_end (λ l. list_all ok l && last) ys i le

depths_prefix : {X : Type 0} (f : X → ℕ) (ys : List X) (last : X) → (depths f ys ≤ depths f (ys ++ last ∷ [])) × (f last ≤ depths f (ys ++ last ∷ []))
depths_prefix f [] last = (omega arith, omega arith)
depths_prefix f (y ∷ ys) last = let h = depths_prefix f ys last in (omega (arith, h.0), omega (arith, h.1))

-- one of them is as deep as the deepest at most
pub prefix_depth : {X Y : Type 0} (d : Y → ℕ) (f : X → Y) (all ys : List X) (last : X) (i : ℕ) (x : X) → all ≡ ys ++ last ∷ [] → i < length ys → x ≡ get_or ys i x → d (f x) ≤ depths d (map f all)
prefix_depth d f all ys last i x split lt is =
    let h = depth_at (λ x. d (f x)) ys i x lt is in
    let k = depths_prefix (λ x. d (f x)) ys last in
    rw split (rw (depths_map d f (ys ++ last ∷ [])) (omega (arith, h, k.0)))

-- so is the last one
pub last_depth : {X Y : Type 0} (d : Y → ℕ) (f : X → Y) (all ys : List X) (last : X) → all ≡ ys ++ last ∷ [] → d (f last) ≤ depths d (map f all)
last_depth d f all ys last split =
    let k = depths_prefix (λ x. d (f x)) ys last in
    rw split (rw (depths_map d f (ys ++ last ∷ [])) k.1)

-- a list of which no last item was taken off has none
pub none_taken : {X : Type 0} (all : List X) (n : ℕ) (taken : Option X) → n ≡ length all → (IsSome taken ↔ (0 < n)) → taken ≡ None → all ≡ []
none_taken [] n taken len some none = refl
none_taken (x ∷ all) n taken len some none = let is : false ≡ true = subst IsSome none (some.1 (omega (arith, len))) in absurd (cc)
