-- What files hold, by their names, where that is known.
use Rattle.std.specs.Prelude.{ℕ, List, ◌≡◌, ◌≢◌, ⊤, Some, None, IfSome}
use Rattle.std.specs.declared.option.Option.{Option}
use Rattle.wave_files.specs.declared.folder.FileError.{FileError}
use Rattle.wave_files.specs.declared.folder.FileError.TheVariants.{OutOfMemory, Failed}

-- the file holds these bytes, where what it holds is known
abbrev pub Holds : Option (List ℕ) → List ℕ → Type 0
Holds known bytes = IfSome known (λ k. bytes ≡ k)

-- each file is as it was
abbrev pub Keeps : (List ℕ → Option (List ℕ)) → (List ℕ → Option (List ℕ)) → Type 0
Keeps old new = (name : List ℕ) → new name ≡ old name

-- the file of this name holds these bytes now, where what it held was known, and each other is as it was
pub record Replaces (old new : List ℕ → Option (List ℕ)) (name bytes : List ℕ) : Type 0 where
  pub here : IfSome (old name) (λ _. new name ≡ Some bytes)
  pub others : (other : List ℕ) → other ≢ name → new other ≡ old other

-- but for want of memory, what the file holds isn't known
abbrev pub IsOfUnknown : Option (List ℕ) → FileError → Type 0
IsOfUnknown known OutOfMemory = ⊤
IsOfUnknown known (Failed reason) = known ≡ None
