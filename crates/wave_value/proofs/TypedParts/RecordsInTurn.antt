-- What the constructor of records makes of fields that are handed in as the type has them.
use Rattle.std.proofs.Common.{ℕ, zero, suc, ◌≡◌, ◌≢◌, ◌<◌, ◌+◌, Bool, true, false, List, [], ◌∷◌, ◌++◌, map, length, take, get_or, refl, sym, ap, subst, ◌∙◌, arith, Option, Some, None, Bor, String, string_bytes}
use Rattle.std.specs.Option.{option_or}
use Rattle.std.specs.Prelude.{if◌then◌else◌}
use Rattle.std.specs.Str.{bytes_eq}
use Rattle.std.specs.declared.alloc.Global.{Global}
use Rattle.std.proofs.lemmas.Bool.{false_from_ne_true}
use Rattle.std.proofs.lemmas.List.{take_more, map-append, length-map}
use Rattle.std.proofs.lemmas.Slice.Eq.{bytes_eq-Decides}
use Rattle.wave_wasm.specs.Names.{IsOneOf, IsNoneOf, AreDistinct, is_one_of}
use Rattle.wave_wasm.specs.Borrowed.{named}
use Rattle.wave_wasm.specs.Types.{TypeTree}
use Rattle.wave_wasm.specs.declared.wasm.WasmValueError.{WasmValueError}
use Rattle.wave_wasm.proofs.Names.NameTests.{is_one, none_of}
use Rattle.wave_type.specs.TypeModel.{by_bytes}
use Rattle.wave_value.specs.TypedValue.{TypedValue, IsAt}
use Rattle.wave_value.specs.ValueModel.{first_names}
use Rattle.wave_value.specs.ConstructorRules.{TellsOther}
use Rattle.wave_value.specs.RecordConstructor.{last_under, HasOther, RefusesFields}
use Rattle.wave_value.specs.Private.ValueModel.{FieldsAt}
use Rattle.wave_value.specs.Private.ConstructorRules.{SaysType}
use Rattle.wave_value.specs.Private.RecordConstructor.{FieldsHeld, InOrder, IsInTurn}
use Rattle.wave_value.proofs.ValueModel.Lists.{some_mapped}
use Rattle.wave_value.proofs.ConstructorAnswers.Records.{other_is}

module _ {V : Type 0} where
  -- as many fields are handed in as the type has
  pub same_count : (xs : List (String Global × TypeTree)) (fs : List (Bor (List ℕ) × V)) → IsInTurn (map by_bytes xs) (named fs) → length xs ≡ length fs
  same_count xs fs h =
      sym (length-map xs by_bytes) ∙ (sym (length-map (map by_bytes xs) (λ p. p.0)) ∙ (sym (ap length h.same) ∙ (length-map (named fs) (λ p. p.0) ∙ length-map fs (λ f. (f.0.now, f.1)))))

  same_at : (xs : List (String Global × TypeTree)) (fs : List (Bor (List ℕ) × V)) (i : ℕ) (x : String Global × TypeTree) (f : Bor (List ℕ) × V) → first_names (named fs) ≡ first_names (map by_bytes xs) → i < length xs → i < length fs → x ≡ get_or xs i x → f ≡ get_or fs i f → f.0.now ≡ string_bytes x.0
  same_at [] fs i x f same ltx ltf isx isf = absurd (omega (arith, ltx))
  same_at (y ∷ xs) [] i x f same ltx ltf isx isf = absurd (omega (arith, ltf))
  same_at (y ∷ xs) (g ∷ fs) zero x f same ltx ltf isx isf =
      let heads : g.0.now ≡ string_bytes y.0 = cc (same) in
      ap (λ (h : Bor (List ℕ) × V). h.0.now) isf ∙ (heads ∙ sym (ap (λ (h : String Global × TypeTree). string_bytes h.0) isx))
  same_at (y ∷ xs) (g ∷ fs) (suc i) x f same ltx ltf isx isf =
      let tails : first_names (named fs) ≡ first_names (map by_bytes xs) = cc (same) in
      same_at xs fs i x f tails (omega (arith, ltx)) (omega (arith, ltf)) isx isf

-- ---- the last value under each name, where the names are distinct

module _ {V : Type 0} where
  none_under : (gs : List (List ℕ × V)) (n : List ℕ) → IsNoneOf (first_names gs) n → last_under gs n ≡ None
  none_under [] n h = refl
  none_under (g ∷ gs) n h =
      let other : bytes_eq g.0 n ≡ false = false_from_ne_true (bytes_eq g.0 n) (λ e. h.0 (sym ((bytes_eq-Decides g.0 n).0 e))) in
      ap (λ o. option_or o (if bytes_eq g.0 n then Some g.1 else None)) (none_under gs n h.1) ∙ ap (λ (b : Bool). if b then Some g.1 else None) other

  known_under : (gs : List (List ℕ × V)) (n : List ℕ) → last_under gs n ≢ None → IsOneOf (first_names gs) n
  known_under gs n some = is_one (first_names gs) n (by (is_one_of (first_names gs) n) refl)
    where
      by : (b : Bool) → is_one_of (first_names gs) n ≡ b → b ≡ true
      by true e = refl
      by false e = absurd (some (none_under gs n (none_of (first_names gs) n e)))

  first_under : (g : List ℕ × V) (gs : List (List ℕ × V)) → IsNoneOf (first_names gs) g.0 → last_under (g ∷ gs) g.0 ≡ Some g.1
  first_under g gs none =
      ap (λ o. option_or o (if bytes_eq g.0 g.0 then Some g.1 else None)) (none_under gs g.0 none) ∙ ap (λ (b : Bool). if b then Some g.1 else None) ((bytes_eq-Decides g.0 g.0).1 refl)

  under_at : (fs : List (Bor (List ℕ) × V)) (i : ℕ) (f : Bor (List ℕ) × V) → i < length fs → f ≡ get_or fs i f → AreDistinct (first_names (named fs)) → last_under (named fs) f.0.now ≡ Some f.1
  under_at [] i f lt is d = absurd (omega (arith, lt))
  under_at (g ∷ fs) zero f lt is d = subst (λ (h : Bor (List ℕ) × V). last_under (named (g ∷ fs)) h.0.now ≡ Some h.1) (sym is) (first_under (g.0.now, g.1) (named fs) d.0)
  under_at (g ∷ fs) (suc i) f lt is d = ap (λ o. option_or o (if bytes_eq g.0.now f.0.now then Some g.1 else None)) (under_at fs i f (omega (arith, lt)) is d.1)

-- ---- the values in turn

at_push : (ps : List (List ℕ × TypeTree)) (vs : List TypedValue) (p : List ℕ × TypeTree) (v : TypedValue) → FieldsAt ps vs → IsAt p.1 v → FieldsAt (ps ++ p ∷ []) (vs ++ v ∷ [])
at_push [] [] p v h at = (at, tt)
at_push [] (w ∷ vs) p v h at = absurd h
at_push (q ∷ ps) [] p v h at = absurd h
at_push (q ∷ ps) (w ∷ vs) p v h at = (h.0, at_push ps vs p v h.1 at)

-- one more value is at its field's type
pub at_more : (xs : List (String Global × TypeTree)) (fs : List (Bor (List ℕ) × TypedValue)) (i : ℕ) (x : String Global × TypeTree) (f : Bor (List ℕ) × TypedValue) → i < length xs → i < length fs → x ≡ get_or xs i x → f ≡ get_or fs i f → IsAt x.1 f.1
    → FieldsAt (map by_bytes (take i xs)) (map (λ g. g.1) (take i fs)) → FieldsAt (map by_bytes (take (i + 1) xs)) (map (λ g. g.1) (take (i + 1) fs))
at_more xs fs i x f ltx ltf isx isf at h =
    let parts : map by_bytes (take (i + 1) xs) ≡ map by_bytes (take i xs) ++ by_bytes x ∷ [] =
    ap (map by_bytes) (take_more xs i x ltx ∙ ap (λ y. take i xs ++ y ∷ []) (sym isx)) ∙ map-append by_bytes (take i xs) (x ∷ []) in
    let vals : map (λ (g : Bor (List ℕ) × TypedValue). g.1) (take (i + 1) fs) ≡ map (λ g. g.1) (take i fs) ++ f.1 ∷ [] =
    ap (map (λ g. g.1)) (take_more fs i f ltf ∙ ap (λ g. take i fs ++ g ∷ []) (sym isf)) ∙ map-append (λ g. g.1) (take i fs) (f ∷ []) in
    subst (λ ps. FieldsAt ps (map (λ g. g.1) (take (i + 1) fs))) (sym parts) (subst (FieldsAt (map by_bytes (take i xs) ++ by_bytes x ∷ [])) (sym vals) (at_push (map by_bytes (take i xs)) (map (λ g. g.1) (take i fs)) (by_bytes x) f.1 h at))

-- a value of another type
pub other_in_turn : (words : TypedValue → List ℕ) (xs : List (String Global × TypeTree)) (fs : List (Bor (List ℕ) × TypedValue)) (i : ℕ) (x : String Global × TypeTree) (f : Bor (List ℕ) × TypedValue) (e : WasmValueError) → i < length xs → i < length fs → x ≡ get_or xs i x → f ≡ get_or fs i f
    → IsInTurn (map by_bytes xs) (named fs) → f.1.own ≢ x.1 → SaysType words x.1 f.1 e → RefusesFields words (map by_bytes xs) (last_under (named fs)) e
other_in_turn words xs fs i x f e ltx ltf isx isf h other says =
    let there : last_under (named fs) (string_bytes x.0) ≡ Some f.1 =
    subst (λ n. last_under (named fs) n ≡ Some f.1) (same_at xs fs i x f h.same ltx ltf isx isf) (under_at fs i f ltf isf (subst AreDistinct (sym h.same) h.distinct)) in
    let one = λ (t : List ℕ) (s : List ℕ) (tells : TellsOther words t s x.1 f.1). some_mapped by_bytes (λ g. HasOther words t s g.1 (last_under (named fs) g.0)) xs i x ltx isx (subst (HasOther words t s x.1) (sym there) tells) in
    other_is words (map by_bytes xs) (last_under (named fs)) x.1 f.1 e one other says

held_wider : (under wider : List ℕ → Option TypedValue) (ps : List (List ℕ × TypeTree)) (vs : List TypedValue) → ((n : List ℕ) (v : TypedValue) → under n ≡ Some v → wider n ≡ Some v) → FieldsHeld under ps vs → FieldsHeld wider ps vs
held_wider under wider [] [] more h = tt
held_wider under wider [] (v ∷ vs) more h = absurd h
held_wider under wider (p ∷ ps) [] more h = absurd h
held_wider under wider (p ∷ ps) (v ∷ vs) more h = (more p.0 v h.0, h.1, held_wider under wider ps vs more h.2)

held_in_turn : (ps : List (List ℕ × TypeTree)) (fs : List (Bor (List ℕ) × TypedValue)) → first_names (named fs) ≡ first_names ps → AreDistinct (first_names (named fs)) → FieldsAt ps (map (λ f. f.1) fs) → FieldsHeld (last_under (named fs)) ps (map (λ f. f.1) fs)
held_in_turn [] [] same d at = tt
held_in_turn [] (f ∷ fs) same d at = absurd at
held_in_turn (p ∷ ps) [] same d at = absurd at
held_in_turn (p ∷ ps) (f ∷ fs) same d at =
    let heads : f.0.now ≡ p.0 = cc (same) in
    let tails : first_names (named fs) ≡ first_names ps = cc (same) in
    let more = λ (n : List ℕ) (v : TypedValue) (e : last_under (named fs) n ≡ Some v). ap (λ o. option_or o (if bytes_eq f.0.now n then Some f.1 else None)) e in
    (subst (λ n. last_under (named (f ∷ fs)) n ≡ Some f.1) heads (first_under (f.0.now, f.1) (named fs) d.0), at.0, held_wider (last_under (named fs)) (last_under (named (f ∷ fs))) ps (map (λ g. g.1) fs) more (held_in_turn ps fs tails d.1 at.1))

-- the values are in the fields' order
pub are_in_order : (xs : List (String Global × TypeTree)) (fs : List (Bor (List ℕ) × TypedValue)) (vs : List TypedValue) → IsInTurn (map by_bytes xs) (named fs) → FieldsAt (map by_bytes xs) (map (λ f. f.1) fs) → vs ≡ map (λ f. f.1) fs → InOrder (map by_bytes xs) (last_under (named fs)) vs
are_in_order xs fs vs h at is =
    subst (InOrder (map by_bytes xs) (last_under (named fs))) (sym is) (record {
      held = held_in_turn (map by_bytes xs) fs h.same (subst AreDistinct (sym h.same) h.distinct) at;
      distinct = h.distinct;
      known = λ n some. subst (λ ns. IsOneOf ns n) h.same (known_under (named fs) n some);
    })
