-- How the parts that are added to a text join to the whole.
use Rattle.std.proofs.Common.{ℕ, ◌≡◌, ◌<◌, ◌+◌, List, [], ◌++◌, Bool, true, false, refl, sym, ap, ◌∙◌, append_assoc, length, get_or, drop, map, subst}
use Rattle.std.proofs.lemmas.List.{append-nil}
use Rattle.wave_wasm.specs.CommaParts.{comma_if}
use Rattle.wave_wasm.specs.Commas.{enclosed}
use Rattle.wave_wasm.proofs.CanonicalText.Sequences.{at_item, parted, parted_joined}

-- of the text `whole`, all but `rest` was added
pub record Adding (whole rest old now : List ℕ) : Type 0 where
  pub done : List ℕ
  pub added : now ≡ old ++ done
  pub whole_is : whole ≡ done ++ rest

-- nothing was added yet
pub adding_none : (whole old : List ℕ) → Adding whole whole old old
adding_none whole old = record { done = []; added = sym (append-nil old); whole_is = refl }

-- the same of what is left to add, rewritten
pub adding_as : {whole rest left old now : List ℕ} → rest ≡ left → Adding whole rest old now → Adding whole left old now
adding_as {whole} {rest} {left} {old} {now} e a = subst (λ s. Adding whole s old now) e a

-- one part more was added
pub adding_more : {whole rest old now new : List ℕ} (part : List ℕ) → Adding whole (part ++ rest) old now → new ≡ now ++ part → Adding whole rest old new
adding_more {whole} {rest} {old} part a e = record {
  done = a.done ++ part;
  added = e ∙ (ap (λ s. s ++ part) a.added ∙ append_assoc old a.done part);
  whole_is = a.whole_is ∙ sym (append_assoc a.done part rest);
}

-- two parts more were added
pub adding_two : {whole rest old now mid new : List ℕ} (p q : List ℕ) → Adding whole ((p ++ q) ++ rest) old now → mid ≡ now ++ p → new ≡ mid ++ q → Adding whole rest old new
adding_two {whole} {rest} p q a e f = adding_more q (adding_more p (adding_as (append_assoc p q rest) a) e) f

-- the start of a sequence was added
pub adding_start : {X : Type 0} (f : X → List ℕ) (xs : List X) (start end : List ℕ) {whole old now new : List ℕ} → Adding whole (enclosed start (map f xs) end) old now → new ≡ now ++ start → Adding whole (parted false (map f xs) ++ end) old new
adding_start f xs start end a e = adding_more start (adding_as (ap (λ z. start ++ (z ++ end)) (sym (parted_joined (map f xs)))) a) e

-- what is left to add begins with the next item
pub adding_item : {X : Type 0} (f : X → List ℕ) (xs : List X) (i : ℕ) (x : X) {whole : List ℕ} (later : Bool) (close : List ℕ) {old now : List ℕ} → i < length xs → x ≡ get_or xs i x → Adding whole (parted later (map f (drop i xs)) ++ close) old now → Adding whole (comma_if later ++ (f x ++ (parted true (map f (drop (i + 1) xs)) ++ close))) old now
adding_item f xs i x later close lt is a =
    let left = parted true (map f (drop (i + 1) xs)) in
    adding_as (at_item (λ l. parted later (map f l) ++ close) xs i x lt is ∙ (append_assoc (comma_if later) (f x ++ left) close ∙ ap (λ s. comma_if later ++ s) (append_assoc (f x) left close))) a
