-- What holds of the token that is refused.
use Rattle.std.specs.Prelude.{ℕ, ◌≡◌, ◌≤◌, ◌↔◌, List, [], ◌∷◌, ◌++◌, Some}
use Rattle.wave_wasm.specs.Types.{TypeTree}
use Rattle.wave_type.specs.declared.error.TypeErrorKind.{TypeErrorKind}
use Rattle.wave_type.specs.declared.error.TypeErrorKind.TheVariants.{UnexpectedEnd}
use Rattle.wave_type.specs.FunctionSpelling.{SpellsFunction, levels_of_function}
use Rattle.wave_type.specs.FunctionType.{FunctionType}
use Rattle.wave_type.specs.TypeFaults.{Expectation, refused, expected_of_type, expected_of_function}
use Rattle.wave_type.specs.TypeSpelling.{Tokens, Spells, levels_of}

-- a type of n levels at most begins with these tokens
abbrev pub BeginsType : ℕ → Tokens → Type 0
BeginsType n prefix = (T : TypeTree) × (rest : Tokens) × Spells T (prefix ++ rest) [] × (levels_of T ≤ n)

-- so the type of a function
abbrev pub BeginsFunction : ℕ → Tokens → Type 0
BeginsFunction n prefix = (f : FunctionType) × (rest : Tokens) × SpellsFunction f (prefix ++ rest) × (levels_of_function f ≤ n)

-- of the tokens `prefix`, t and `left` the token t is refused so
abbrev pub IsRefusedAt : List Expectation → Tokens → List ℕ → Tokens → TypeErrorKind → Type 0
IsRefusedAt expectations prefix t left kind = refused (prefix ++ t ∷ left) expectations ≡ Some (kind, t ∷ left)

-- law: no type begins with the tokens through the refused one, and no type of a function
pub record NoneBeginsWithRefused : Type 0 where
  pub types : (n : ℕ) (prefix left : Tokens) (t : List ℕ) (kind : TypeErrorKind)
      → IsRefusedAt (expected_of_type n) prefix t left kind → BeginsType n (prefix ++ t ∷ []) → ⊥
  pub functions : (n : ℕ) (prefix left : Tokens) (t : List ℕ) (kind : TypeErrorKind)
      → IsRefusedAt (expected_of_function n) prefix t left kind → BeginsFunction n (prefix ++ t ∷ []) → ⊥

-- law: `UnexpectedEnd` stands exactly where all tokens were taken
abbrev pub EndsAtEnd : Type 0
EndsAtEnd = (ts left : Tokens) (expectations : List Expectation) (kind : TypeErrorKind) → refused ts expectations ≡ Some (kind, left) → (kind ≡ UnexpectedEnd) ↔ (left ≡ [])

-- law: the tokens before the refused one, or all of them where the end is refused, begin a type, of whatever levels; so of functions
pub record TakenBegins : Type 0 where
  pub types : (n : ℕ) (ts left : Tokens) (kind : TypeErrorKind) → refused ts (expected_of_type n) ≡ Some (kind, left)
      → (prefix : Tokens) × (ts ≡ prefix ++ left) × (T : TypeTree) × (rest : Tokens) × Spells T (prefix ++ rest) []
  pub functions : (n : ℕ) (ts left : Tokens) (kind : TypeErrorKind) → refused ts (expected_of_function n) ≡ Some (kind, left)
      → (prefix : Tokens) × (ts ≡ prefix ++ left) × (f : FunctionType) × (rest : Tokens) × SpellsFunction f (prefix ++ rest)
