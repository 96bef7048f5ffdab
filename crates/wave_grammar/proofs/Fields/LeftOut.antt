-- Fields that are left out.
use Rattle.std.proofs.Common.{ℕ, ◌≡◌, ◌≢◌, inl, inr, List, None, Result, Ok, Err, IfOk, IfErr, MatchResult, sym, ap, subst}
use Rattle.wave_wasm.specs.Types as type
use Rattle.wave_wasm.specs.Types.{TypeTree, HasDistinctNames, kind_of}
use Rattle.wave_wasm.specs.Values.{Value}
use Rattle.wave_wasm.specs.ValueErrors.{cause_of, missing_field}
use Rattle.wave_wasm.specs.ConstructorContracts.{IsMemory, MakesOption, FullOption}
use Rattle.wave_wasm.specs.declared.wasm.WasmTypeKind.{WasmTypeKind}
use Rattle.wave_wasm.specs.declared.wasm.WasmTypeKind.TheVariants as kinds
use Rattle.wave_wasm.specs.declared.wasm.WasmValueError.{WasmValueError}
use Rattle.wave_wasm.specs.declared.wasm.WasmValueError.TheVariants as causes
use Rattle.wave_lex.specs.Errors.{Diagnostic, Refusal, refusal_of, refused_by}
use Rattle.wave_grammar.specs.TypedGrammar.{IsOption}
use Rattle.wave_grammar.specs.NodeTree.{NodeTree}
use Rattle.wave_grammar.specs.TypedReading.{IsBuilt}
use Rattle.wave_grammar.specs.PartReading.{IsCaused}
use Rattle.wave_grammar.specs.NodeFields.{IsLeftOut, IsMissing}
use Rattle.wave_wasm.proofs.TypesOfValues.TypeOfKind.{formed_as}

not_option : (T : TypeTree) (k : WasmTypeKind) → k ≡ kind_of T → k ≢ kinds.Option → IsOption T → ⊥
not_option (type.option P) k e apart o = apart e
not_option _ k e apart o = o

-- a field that is missing
pub missing : (Full : TypeTree → Type 0) (T : TypeTree) (k : WasmTypeKind) (name : List ℕ) (n : NodeTree) (e : Diagnostic) → k ≡ kind_of T → k ≢ kinds.Option → IsCaused (missing_field name) n e → IsMissing Full T name n e
missing Full T k name n e is apart (inl memory) = inl memory
missing Full T k name n e is apart (inr refused) = inr (inl (not_option T k is apart, refused))

not_built : (Full : TypeTree → Type 0) (T : TypeTree) (name : List ℕ) (n : NodeTree) (cause : WasmValueError) (e : Diagnostic) → refusal_of e ≡ refused_by (cause_of cause) → (Full T → IsMemory cause) → IsMissing Full T name n e
not_built Full T name n (causes.Memory a) e is full = inl (ap (λ (r : Refusal). r.kind) is)
not_built Full T name n _ e is full = inr (inr (ap (λ (r : Refusal). r.kind) is, full))

module _ {V : Type 0} (tree : V → Value) (of : V → TypeTree → Type 0) (Full : TypeTree → Type 0) where
  -- `none` was made, or its constructor refused
  pub left_built : (T : TypeTree) (name : List ℕ) (n : NodeTree) (m : Result V WasmValueError) (r : Result V Diagnostic) → kinds.Option ≡ kind_of T → HasDistinctNames T → IfOk m (MakesOption tree of T None) → IfErr m (FullOption of Full T None) → IsBuilt n m r → MatchResult r (IsLeftOut tree of T) (IsMissing Full T name n)
  left_built T name n (Ok v) (Ok w) is distinct ok full done =
      let makes = ok distinct in
      subst (IsLeftOut tree of T) (sym done) (record { option = subst IsOption (sym (formed_as kinds.Option T is).1) tt; means = makes.means; is_of = makes.is_of })
  left_built T name n (Ok v) (Err e) is distinct ok full done = absurd done
  left_built T name n (Err cause) (Ok w) is distinct ok full done = absurd done
  left_built T name n (Err cause) (Err e) is distinct ok full done =
      let option = formed_as kinds.Option T is in
      not_built Full T name n cause e done.0 (λ f. full f option.0 option.1 tt)
