-- What a text has within it: where each part begins is computed.
use Rattle.std.proofs.Common.{ℕ, zero, suc, ◌≡◌, ◌+◌, List, [], ◌∷◌, ◌++◌, length, take, drop}
use Rattle.std.specs.Prelude.{if◌then◌else◌}
use Rattle.std.specs.Str.{bytes_eq}
use Rattle.std.specs.Str.Iter.{HasSubslice}
use Rattle.wave_wasm.specs.Lists.{AllOf}

-- before how many bytes the part begins, where the text has it
abbrev place : List ℕ → List ℕ → ℕ
place part [] = zero
place part (byte ∷ text) = if bytes_eq (take (length part) (byte ∷ text)) part then zero else suc (place part text)

-- it stands there
abbrev IsSplit : List ℕ → List ℕ → Type 0
IsSplit text part = text ≡ take (place part text) text ++ (part ++ drop (place part text + length part) text)

pub all_within : {A : Type 0} (text : List ℕ) (part_of : A → List ℕ) (xs : List A) → AllOf (λ x. IsSplit text (part_of x)) xs → AllOf (λ x. HasSubslice text (part_of x)) xs
all_within text part_of [] split = tt
all_within text part_of (x ∷ xs) (here, more) =
    let part = part_of x in
    ((take (place part text) text, drop (place part text + length part) text, here), all_within text part_of xs more)
