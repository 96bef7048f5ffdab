-- What the view of a record answers is what the constructor of records takes at the value's own type.
use Rattle.std.proofs.Common.{ℕ, ◌≡◌, Bool, true, false, List, [], ◌∷◌, map, Option, Some, None, Result, Ok, Err, IfOk, Bor, refl, sym, ap, subst}
use Rattle.std.specs.Option.{option_or}
use Rattle.std.specs.Prelude.{if◌then◌else◌}
use Rattle.std.specs.Str.{bytes_eq}
use Rattle.std.proofs.lemmas.Bool.{false≢true}
use Rattle.std.proofs.lemmas.Slice.Eq.{bytes_eq-Decides}
use Rattle.wave_wasm.specs.Lists.{AllOf}
use Rattle.wave_wasm.specs.Names.{IsNoneOf, AreDistinct, AreAllOf}
use Rattle.wave_wasm.specs.Borrowed.{denoted_fields}
use Rattle.wave_wasm.specs.Types as type
use Rattle.wave_wasm.specs.Types.{TypeTree, field_list, record_parts}
use Rattle.wave_wasm.specs.Values.{Value}
use Rattle.wave_value.specs.TypedValue.{TypedValue}
use Rattle.wave_value.specs.ValueModel.{first_names, trees, beside}
use Rattle.wave_value.specs.Private.ValueModel.{FieldsAt, RecordFits}
use Rattle.wave_value.specs.RecordConstructor.{last_under, HasOwn, TakesRecord}
use Rattle.wave_value.proofs.ConstructorAnswers.Records.{all_of}

-- what follows from two facts of what is Ok
pub both_ok : {A E : Type 0} (r : Result A E) (P Q R : A → Type 0) → ((v : A) → P v → Q v → R v) → IfOk r P → IfOk r Q → IfOk r R
both_ok (Ok v) P Q R so p q = so v p q
both_ok (Err e) P Q R so p q = tt

-- each value is after the name of its field, and of its field's type
abbrev Aligned : List (List ℕ × TypeTree) → List (List ℕ × TypedValue) → Type 0
Aligned [] [] = Unit {0}
Aligned (f ∷ fs) (g ∷ gs) = (g.0 ≡ f.0) × (g.1.own ≡ f.1) × Aligned fs gs
Aligned _ _ = ⊥

abbrev head_name : List (List ℕ × Value) → List ℕ
head_name [] = []
head_name (p ∷ ps) = p.0

abbrev tail_pairs : List (List ℕ × Value) → List (List ℕ × Value)
tail_pairs [] = []
tail_pairs (p ∷ ps) = ps

aligned : (fs : List (List ℕ × TypeTree)) (xs : List (Bor (List ℕ) × Bor TypedValue)) → FieldsAt fs (map {B = TypedValue} (λ x. x.1.now) xs) → denoted_fields (λ (w : TypedValue). w.tree) xs ≡ beside (first_names fs) (trees (map {B = TypedValue} (λ x. x.1.now) xs)) → Aligned fs (denoted_fields (λ (w : TypedValue). w) xs)
aligned [] [] h t = tt
aligned [] (x ∷ xs) h t = absurd h
aligned (f ∷ fs) [] h t = absurd h
aligned (f ∷ fs) (x ∷ xs) h t = (ap head_name t, h.0.own, aligned fs xs h.1 (ap tail_pairs t))

names_are : (fs : List (List ℕ × TypeTree)) (gs : List (List ℕ × TypedValue)) → Aligned fs gs → first_names gs ≡ first_names fs
names_are [] [] h = refl
names_are [] (g ∷ gs) h = absurd h
names_are (f ∷ fs) [] h = absurd h
names_are (f ∷ fs) (g ∷ gs) h = λ i. h.0 i ∷ names_are fs gs h.2 i

unlike : (b : Bool) → (b ≡ true → ⊥) → b ≡ false
unlike true h = absurd (h refl)
unlike false h = refl

none_step : (o : Option TypedValue) (b : Bool) (v : TypedValue) → o ≡ None → b ≡ false → option_or o (if b then Some v else None) ≡ None
none_step o true v e f = absurd (false≢true (sym f))
none_step o false v e f = ap (λ p. option_or p None) e

-- none of the names has no last value
none_under : (gs : List (List ℕ × TypedValue)) (n : List ℕ) → IsNoneOf (first_names gs) n → last_under gs n ≡ None
none_under [] n h = refl
none_under (g ∷ gs) n h =
    none_step (last_under gs n) (bytes_eq g.0 n) g.1 (none_under gs n h.1) (unlike (bytes_eq g.0 n) (λ e. h.0 (sym ((bytes_eq-Decides g.0 n).0 e))))

head_own : (o : Option TypedValue) (b : Bool) (T : TypeTree) (v : TypedValue) → o ≡ None → b ≡ true → v.own ≡ T → HasOwn T (option_or o (if b then Some v else None))
head_own o true T v e f own = subst (λ p. HasOwn T (option_or p (Some v))) (sym e) own
head_own o false T v e f own = absurd (false≢true f)

last_stays : (T : TypeTree) (o p : Option TypedValue) → HasOwn T o → HasOwn T (option_or o p)
last_stays T None p h = absurd h
last_stays T (Some v) p h = h

all_stay : (g : List ℕ × TypedValue) (gs : List (List ℕ × TypedValue)) (fs : List (List ℕ × TypeTree)) → AllOf (λ f. HasOwn f.1 (last_under gs f.0)) fs → AllOf (λ f. HasOwn f.1 (last_under (g ∷ gs) f.0)) fs
all_stay g gs [] h = tt
all_stay g gs (f ∷ fs) h = (last_stays f.1 (last_under gs f.0) (if bytes_eq g.0 f.0 then Some g.1 else None) h.0, all_stay g gs fs h.1)

-- under each field's name the last value is of its type
all_under : (fs : List (List ℕ × TypeTree)) (gs : List (List ℕ × TypedValue)) → AreDistinct (first_names fs) → Aligned fs gs → AllOf (λ f. HasOwn f.1 (last_under gs f.0)) fs
all_under [] gs d h = tt
all_under (f ∷ fs) [] d h = absurd h
all_under (f ∷ fs) (g ∷ gs) d h =
    let none = none_under gs f.0 (subst (λ ns. IsNoneOf ns f.0) (sym (names_are fs gs h.2)) d.0) in
    (head_own (last_under gs f.0) (bytes_eq g.0 f.0) f.1 g.1 none ((bytes_eq-Decides g.0 f.0).1 h.0) h.1, all_stay g gs fs (all_under fs gs d.1 h.2))

-- a record's fields
pub fields_taken : (T : TypeTree) (vs : List TypedValue) (xs : List (Bor (List ℕ) × Bor TypedValue)) → RecordFits T vs → denoted_fields (λ (w : TypedValue). w.tree) xs ≡ beside (first_names (record_parts T)) (trees vs) → map {B = TypedValue} (λ x. x.1.now) xs ≡ vs → TakesRecord T (denoted_fields (λ (w : TypedValue). w) xs)
fields_taken (type.record_type fs) vs xs h t same =
    let parts = field_list fs in
    let gs = denoted_fields (λ (w : TypedValue). w) xs in
    let at : FieldsAt parts (map {B = TypedValue} (λ x. x.1.now) xs) = subst (FieldsAt parts) (sym same) h.1 in
    let a : Aligned parts gs = aligned parts xs at (subst (λ us. denoted_fields (λ (w : TypedValue). w.tree) xs ≡ beside (first_names parts) (trees us)) (sym same) t) in
    let known : AreAllOf (first_names parts) (first_names gs) = subst (AreAllOf (first_names parts)) (sym (names_are parts gs a)) (all_of (first_names parts) (first_names parts) (λ n one. one)) in
    (h.0, known, all_under parts gs h.0 a)
fields_taken _ vs xs h t same = absurd h
