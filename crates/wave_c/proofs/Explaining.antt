-- What explains a refusal of a type's text.
use Rattle.std.proofs.Common.{ℕ, List, ◌≢◌, Result, Ok, Err, IfOk, inl}
use Rattle.std.specs.Global.{Vec}
use Rattle.wave_type.specs.TypeErrors.{TypeRefusal}
use Rattle.wave_type.specs.declared.error.TypeErrorKind.TheVariants as type_kind
use Rattle.wave_type_explain.specs.TypeExplained as explained
use Rattle.wave_c.specs.Answers.{IsExplanationBy, IsFunctionExplained}
use Rattle.wave_c.specs.Failures.{IsNoTypeFor, IsNoFunctionFor}
use Rattle.wave_c.specs.declared.ended.Failure.{Failure}

module _ (n : ℕ) (ty : List ℕ) (e : TypeRefusal) where
  -- of a type of values
  pub type_explained : (s : List ℕ) (said : Result (Vec ℕ) Failure) → IfOk said (λ _. e.kind ≢ type_kind.OutOfMemory) → (e.kind ≢ type_kind.OutOfMemory → IsNoTypeFor n ty e)
      → IfOk said (λ b. explained.IsTypeExplained ty e b.items) → IfOk said (λ b. IsExplanationBy n ty s b.items)
  type_explained s (Ok b) other refused explained = inl (e, refused other, explained)
  type_explained s (Err f) other refused explained = tt

  -- of a function's type
  pub function_explained : (said : Result (Vec ℕ) Failure) → IfOk said (λ _. e.kind ≢ type_kind.OutOfMemory) → (e.kind ≢ type_kind.OutOfMemory → IsNoFunctionFor n ty e)
      → IfOk said (λ b. explained.IsFunctionExplained ty e b.items) → IfOk said (λ b. IsFunctionExplained n ty b.items)
  function_explained (Ok b) other refused explained = inl (e, refused other, explained)
  function_explained (Err f) other refused explained = tt
