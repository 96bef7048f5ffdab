-- The names of flags, and the map that holds them.
use Rattle.std.proofs.Common.{rules, ◌≡◌, ℕ, List, [], ◌∷◌, ◌++◌, Bool, true, false, Option, Some, refl, sym, ap, ◌∙◌, Bor, cond}
use Rattle.std.specs.Prelude.{bytes_eq, ◌||◌, is_some, OnOk, Result, Ok, Err}
use Rattle.std.specs.Result.{is_ok}
use Rattle.std.specs.Cmp.Lexicographic.{slice_cmp}
use Rattle.std.specs.Ordering.{nat_cmp}
use Rattle.std.specs.BTreeMap as tree
use Rattle.std.specs.BTreeMap.{BTreeMap}
use Rattle.std.proofs.lemmas.Slice.Eq.{bytes_eq-Decides}
use Rattle.std.proofs.lemmas.List.Folds.{list_any-append}
use Rattle.std.proofs.lemmas.Map.Text.{btree_map_updates_str}
use Rattle.wave_wasm.specs.Names.{is_one_of}

-- what the map holds at a name
abbrev pub held : {X : Type 0} → BTreeMap (Bor (List ℕ)) X → List ℕ → Option X
held m name = tree.get_by (λ k. slice_cmp nat_cmp name k.now) m

-- the map holds something at these names and no others
abbrev pub Holds : {X : Type 0} → BTreeMap (Bor (List ℕ)) X → List (List ℕ) → Type 0
Holds m names = (name : List ℕ) → is_some (held m name) ≡ is_one_of names name

-- an empty map holds nothing
pub holds_none : {X : Type 0} (m : BTreeMap (Bor (List ℕ)) X) → tree.IsEmpty m → Holds m []
holds_none m e = λ name. search (rules, e)

eq_turn : (a b : List ℕ) → bytes_eq a b ≡ bytes_eq b a
eq_turn a b = search (rules, bytes_eq-Decides a b, bytes_eq-Decides b a)

one_more : {X : Type 0} (x : X) (o : Option X) (r b : Bool) → is_some o ≡ r → is_some (cond b (Some x) o) ≡ (r || (b || false))
one_more x o true true h = refl
one_more x o false true h = refl
one_more x o true false h = h
one_more x o false false h = h

-- a map with one more
pub holds_more : {X : Type 0} (m n : BTreeMap (Bor (List ℕ)) X) (names : List (List ℕ)) (name : List ℕ) (x : X) → Holds m names →
    tree.UpdatesBy (λ a b. slice_cmp nat_cmp a.now b.now) (λ k. slice_cmp nat_cmp name k.now) m n (Some x) → Holds n (names ++ name ∷ [])
holds_more m n names name x h u = λ other.
    ap is_some (btree_map_updates_str name m n (Some x) u other)
    ∙ (one_more x (held m other) (is_one_of names other) (bytes_eq name other) (h other)
    ∙ (ap (λ b. is_one_of names other || (b || false)) (eq_turn name other) ∙ sym (list_any-append (bytes_eq other) names (name ∷ []))))

-- what an answer gives that is known to be one
pub on_ok : {A E : Type 0} {P : Type 0} (r : Result A E) → OnOk r P → is_ok r ≡ true → P
on_ok (Ok a) h e = h
on_ok (Err x) h e = let wrong : false ≡ true = e in cc
