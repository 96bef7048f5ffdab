-- Names of flags that are handed over in the type's order.
use Rattle.std.proofs.Common.{ℕ, ◌≡◌, ◌<◌, ◌≤◌, ◌+◌, suc, List, [], ◌∷◌, ◌++◌, map, length, take, get_or, sym, ap, subst, ◌∙◌, arith, Option, Some, Bor}
use Rattle.std.specs.List.{position}
use Rattle.std.specs.Str.{bytes_eq}
use Rattle.std.proofs.lemmas.List.{map-append, take_all}
use Rattle.std.proofs.lemmas.List.Quantifiers.{position-Some}
use Rattle.std.proofs.lemmas.Slice.Eq.{bytes_eq-Decides}
use Rattle.wave_wasm.specs.Borrowed.{texts}
use Rattle.wave_wasm.specs.Names.{AreAllOf, AreDistinct, ArePicked, found_in}
use Rattle.wave_wasm.specs.Types as type
use Rattle.wave_wasm.specs.Values.{flags_names}
use Rattle.wave_wasm.proofs.Names.Subsequences.{picked_found, picked_of}
use Rattle.wave_value.specs.ValueModel.{name_at}
use Rattle.wave_value.specs.Private.ValueModel.{Grows}
use Rattle.wave_value.specs.Private.CaseRules.{behind}
use Rattle.wave_value.proofs.ConstructorAnswers.Flags.{texts_more, grows_wider, grows_push}
use Rattle.wave_value.proofs.ValueModel.ContentMeaning.{flags_value}

module _ (ns : List (List ℕ)) (handed : List (Bor (List ℕ))) where
  -- the places of the first k names that are handed over, the last of them last
  pub record PlacesInTurn (last : Option ℕ) (k : ℕ) (is : List ℕ) : Type 0 where
    pub grow : Grows 0 (behind last) is
    pub within : behind last ≤ length ns
    pub called : map (name_at ns) is ≡ texts (take k handed)

  -- the next name stands behind them
  pub next_place : (last : Option ℕ) (k place : ℕ) (d : Bor (List ℕ)) (is : List ℕ) → k < length handed → position (bytes_eq (get_or handed k d).now) ns ≡ Some place → behind last ≤ place
      → PlacesInTurn last k is → PlacesInTurn (Some place) (k + 1) (is ++ place ∷ [])
  next_place last k place d is lt first le h =
      let there = position-Some (bytes_eq (get_or handed k d).now) ns place [] first in
      let named : name_at ns place ≡ (get_or handed k d).now = sym ((bytes_eq-Decides (get_or handed k d).now (name_at ns place)).0 there.1) in
      let grown : Grows 0 (place + 1) (is ++ place ∷ []) = grows_push 0 place is (omega arith) (grows_wider 0 (behind last) place is le h.grow) in
      let next : place + 1 ≡ suc place = omega arith in
      record {
        grow = subst (λ n. Grows 0 n (is ++ place ∷ [])) next grown;
        within = omega (arith, there.0);
        called = map-append (name_at ns) is (place ∷ []) ∙ ((λ i. h.called i ++ named i ∷ []) ∙ sym (texts_more handed k d lt));
      }

  picked_at : (is : List ℕ) → Grows 0 (length ns) is → ArePicked ns (map (name_at ns) is)
  picked_at is h =
      let (picked, are, same) = flags_value (type.flags ns) is h in
      subst (ArePicked ns) (sym (ap flags_names same)) are

  -- all names that are handed over
  pub all_in_turn : (last : Option ℕ) (k : ℕ) (is : List ℕ) → AreDistinct ns → length handed ≤ k → PlacesInTurn last k is → AreAllOf ns (texts handed) × Grows 0 (length ns) is × (map (name_at ns) is ≡ found_in (texts handed) ns)
  all_in_turn last k is distinct le h =
      let all : map (name_at ns) is ≡ texts handed = h.called ∙ ap texts (take_all k handed le) in
      let grow : Grows 0 (length ns) is = grows_wider 0 (behind last) (length ns) is h.within h.grow in
      let picks : ArePicked ns (texts handed) = subst (ArePicked ns) all (picked_at is grow) in
      (picked_of ns (texts handed) picks, grow, all ∙ sym (picked_found ns (texts handed) picks distinct))
