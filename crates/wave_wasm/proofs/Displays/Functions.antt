-- The names and types of a function, from one place on.
use Rattle.std.proofs.Common.{ℕ, zero, suc, true, ◌≡◌, ◌<◌, ◌≤◌, ◌+◌, List, [], ◌∷◌, ◌++◌, Bool, refl, sym, ap, ◌∙◌, length, get_or, drop, map, arith, add-one, append_assoc, codes, Bor, subst}
use Rattle.std.proofs.Math.Seq.{drop-nil}
use Rattle.wave_wasm.specs.Borrowed.{texts}
use Rattle.wave_wasm.specs.Types.{TypeTree}
use Rattle.wave_wasm.specs.CommaParts.{comma_if}
use Rattle.wave_wasm.specs.TypeText.{type_text, typed_names}
use Rattle.wave_wasm.specs.Private.TypeText.{name_part}
use Rattle.wave_wasm.proofs.Displays.TextAppend.{Adding, adding_as}
use Rattle.wave_wasm.proofs.CanonicalText.Sequences.{parted}

-- the name at a place where there is one
pub name_here : (names : List (Bor (List ℕ))) (i : ℕ) (x : Bor (List ℕ)) → i < length names → x ≡ get_or names i x → name_part (texts names) i ≡ x.now ++ codes ": "
name_here [] i x lt is = absurd (omega arith)
name_here (name ∷ names) zero x lt is = ap (λ n. n.now ++ codes ": ") (sym is)
name_here (name ∷ names) (suc i) x lt is = name_here names i x (omega arith) is

-- nothing stands where there is none
pub no_name_here : (names : List (Bor (List ℕ))) (i : ℕ) → length names ≤ i → name_part (texts names) i ≡ []
no_name_here [] i le = refl
no_name_here (name ∷ names) zero le = absurd (omega arith)
no_name_here (name ∷ names) (suc i) le = no_name_here names i (omega arith)

-- the first type, after the first name where there is one
first_typed : (names : List (List ℕ)) (T : TypeTree) (Ts : List TypeTree) → typed_names names (T ∷ Ts) ≡ (name_part names 0 ++ type_text T) ∷ typed_names (drop 1 names) Ts
first_typed [] T Ts = refl
first_typed (name ∷ names) T Ts = ap (λ s. s ∷ typed_names names Ts) (sym (append_assoc name (codes ": ") (type_text T)))

typed_from : {X : Type 0} (f : X → TypeTree) (names : List (List ℕ)) (xs : List X) (i : ℕ) (x : X) → i < length xs → x ≡ get_or xs i x → typed_names (drop i names) (drop i (map f xs)) ≡ (name_part names i ++ type_text (f x)) ∷ typed_names (drop (suc i) names) (drop (suc i) (map f xs))
typed_from f names [] i x lt is = absurd (omega arith)
typed_from f names (y ∷ ys) zero x lt is = rw is (first_typed names (f y) (map f ys))
typed_from f [] (y ∷ ys) (suc i) x lt is = let h = typed_from f [] ys i x (omega arith) is in none f i x ys h
  where
    none : {X : Type 0} (f : X → TypeTree) (i : ℕ) (x : X) (ys : List X) → typed_names (drop i []) (drop i (map f ys)) ≡ (name_part [] i ++ type_text (f x)) ∷ typed_names (drop (suc i) []) (drop (suc i) (map f ys)) → typed_names (drop (suc i) []) (drop i (map f ys)) ≡ (name_part [] (suc i) ++ type_text (f x)) ∷ typed_names (drop (suc (suc i)) []) (drop (suc i) (map f ys))
    none f i x ys h = subst (λ z. typed_names z (drop i (map f ys)) ≡ type_text (f x) ∷ typed_names [] (drop (suc i) (map f ys))) (drop-nil i) h
typed_from f (name ∷ names) (y ∷ ys) (suc i) x lt is = typed_from f names ys i x (omega arith) is

-- what is left to add begins with the next type and its name
pub adding_typed : {X : Type 0} (f : X → TypeTree) (names : List (List ℕ)) (xs : List X) (i : ℕ) (x : X) {whole : List ℕ} (later : Bool) (close : List ℕ) {old now : List ℕ} → i < length xs → x ≡ get_or xs i x → Adding whole (parted later (typed_names (drop i names) (drop i (map f xs))) ++ close) old now → Adding whole (comma_if later ++ ((name_part names i ++ type_text (f x)) ++ (parted true (typed_names (drop (i + 1) names) (drop (i + 1) (map f xs))) ++ close))) old now
adding_typed f names xs i x later close lt is a =
    let one = name_part names i ++ type_text (f x) in
    let left = parted true (typed_names (drop (suc i) names) (drop (suc i) (map f xs))) in
    rw add-one (adding_as (ap (λ l. parted later l ++ close) (typed_from f names xs i x lt is) ∙ (append_assoc (comma_if later) (one ++ left) close ∙ ap (λ s. comma_if later ++ s) (append_assoc one left close))) a)
