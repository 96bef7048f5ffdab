-- Types behind their names, one in turn.
use Rattle.std.proofs.Common.{◌≡◌, ℕ, zero, suc, ◌+◌, ◌<◌, ◌≤◌, ◌&&◌, Bool, List, [], ◌∷◌, ◌++◌, length, map, get_or, drop, refl, sym, ap, ◌∙◌, append_assoc, Bor, arith}
use Rattle.std.specs.List.{list_all}
use Rattle.std.proofs.lemmas.List.{append-nil, drop-drop, get_or_past, get_or-map, length-map}
use Rattle.wave_wasm.specs.Types.{TypeTree}
use Rattle.wave_wasm.specs.TypeText.{Func}
use Rattle.wave_wasm.specs.Borrowed.{texts}
use Rattle.wave_wasm.proofs.CanonicalText.Sequences.{at_item, at_end}
use Rattle.wave_tape.specs.Tape.{text_bytes}
use Rattle.wave_tape.specs.TypeTape.{type_bytes, named_type_bytes, counted_type_bytes, has_type_tape, func_tape, has_func_tape}

-- the name at this place, which is empty where there is none
abbrev pub name_at : List (List ℕ) → ℕ → List ℕ
name_at names i = get_or names i []

named_first : (names : List (List ℕ)) (T : TypeTree) (Ts : List TypeTree) → named_type_bytes names (T ∷ Ts) ≡ (text_bytes (name_at names 0) ++ type_bytes T) ++ named_type_bytes (drop 1 names) Ts
named_first [] T Ts = sym (append_assoc (text_bytes []) (type_bytes T) (named_type_bytes [] Ts))
named_first (name ∷ names) T Ts = sym (append_assoc (text_bytes name) (type_bytes T) (named_type_bytes names Ts))

name_first : (names : List (List ℕ)) (i : ℕ) → name_at (drop i names) 0 ≡ name_at names i
name_first names zero = refl
name_first [] (suc i) = refl
name_first (name ∷ names) (suc i) = name_first names i

module _ {X : Type 0} (f : X → TypeTree) (names : List (List ℕ)) (ts : List X) where
  -- what is left from this place on
  abbrev pub named_left : ℕ → List ℕ
  named_left i = named_type_bytes (drop i names) (map f (drop i ts))

  -- the next type was appended behind its name
  pub named_next : (i : ℕ) (t : X) (out new whole : List ℕ) → i < length ts → t ≡ get_or ts i t → new ≡ out ++ (text_bytes (name_at names i) ++ type_bytes (f t)) → out ++ named_left i ≡ whole → new ++ named_left (i + 1) ≡ whole
  named_next i t out new whole lt is put so_far =
      let part = text_bytes (name_at names i) ++ type_bytes (f t) in
      let step : named_left i ≡ part ++ named_left (i + 1) =
      at_item (λ l. named_type_bytes (drop i names) (map f l)) ts i t lt is
      ∙ (named_first (drop i names) (f t) (map f (drop (i + 1) ts))
      ∙ (ap (λ (name : List ℕ). (text_bytes name ++ type_bytes (f t)) ++ named_type_bytes (drop 1 (drop i names)) (map f (drop (i + 1) ts))) (name_first names i)
      ∙ ap (λ (l : List (List ℕ)). part ++ named_type_bytes l (map f (drop (i + 1) ts))) (drop-drop 1 i names))) in
      ap (λ (z : List ℕ). z ++ named_left (i + 1)) put
      ∙ (append_assoc out part (named_left (i + 1)) ∙ (ap (λ (z : List ℕ). out ++ z) (sym step) ∙ so_far))

  -- nothing is left
  pub named_all : (i : ℕ) (out whole : List ℕ) → length ts ≤ i → out ++ named_left i ≡ whole → out ≡ whole
  named_all i out whole le so_far =
      sym (append-nil out) ∙ (ap (λ (z : List ℕ). out ++ z) (sym (at_end (λ l. named_type_bytes (drop i names) (map f l)) ts i le)) ∙ so_far)

-- the name that the code takes
pub name_there : (names : List (Bor (List ℕ))) (i : ℕ) (d : Bor (List ℕ)) → i < length names → name_at (texts names) i ≡ (get_or names i d).now
name_there names i d lt = get_or-map (λ (n : Bor (List ℕ)). n.now) names i d [] lt

pub no_name_there : (names : List (Bor (List ℕ))) (i : ℕ) → length names ≤ i → name_at (texts names) i ≡ []
no_name_there names i le = get_or_past (texts names) i [] (omega (arith, le, length-map names (λ (n : Bor (List ℕ)). n.now)))

-- a function's tape and whether it has one, by its names and types
pub record IsFunc (f : Func) (bytes : List ℕ) (has : Bool) : Type 0 where
  pub bytes_are : func_tape f ≡ bytes
  pub has_is : has_func_tape f ≡ has

pub func_is : (f : Func) (params results : List TypeTree) (param_names result_names : List (List ℕ)) → params ≡ f.params → param_names ≡ f.param_names → results ≡ f.results → result_names ≡ f.result_names
    → IsFunc f ((1 ∷ counted_type_bytes param_names params) ++ counted_type_bytes result_names results) (list_all has_type_tape params && list_all has_type_tape results)
func_is f params results param_names result_names ps pn rs rn = rw (ps, pn, rs, rn) (record { bytes_are = refl; has_is = refl })
