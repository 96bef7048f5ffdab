-- Why a call has no answer.
use Rattle.std.specs.Prelude.{ℕ, List, Option, None, ◌≡◌, ◌≢◌, ◌⊎◌, ◌==◌, nat_lt, if◌then◌else◌, IsUtf8}
use Rattle.std.specs.Str.{IsValidUpTo}
use Rattle.wave_wasm.specs.Types.{TypeTree, HasDistinctNames}
use Rattle.wave_lex.specs.Errors.{Diagnostic, LiesInText}
use Rattle.wave_lex.specs.declared.error.ParserErrorKind.TheVariants as kind
use Rattle.wave_type.specs.TypeErrors.{TypeRefusal}
use Rattle.wave_type.specs.TypeItems.{IsTypeFaultWithin, IsFunctionFaultWithin}
use Rattle.wave_type.specs.TypeSpelling.{IsNoTypeWithin}
use Rattle.wave_type.specs.FunctionSpelling.{IsNoFunctionWithin}
use Rattle.wave_type.specs.FunctionType.{FunctionType, types_of}
use Rattle.wave_type.specs.declared.error.TypeErrorKind.TheVariants as type_kind
use Rattle.wave_value.specs.FullTypes.{IsFull}
use Rattle.wave_tree.specs.FromStr.{RefusesText}
use Rattle.wave_tree.specs.Untyped.{RefusesTree}
use Rattle.wave_tree.specs.UntypedCall.{Called, IsCalledWithin, RefusesCallWithin, RefusesParamsAt}
use Rattle.wave_tape.specs.Errors.{Refusal}
use Rattle.wave_tape.specs.Decoding.{IsFirstFault}
use Rattle.wave_tape.specs.Names.{HasTextNames}
use Rattle.wave_tape.specs.Reading.{tape_at}
use Rattle.wave_tape.specs.declared.error.TapeErrorKind.TheVariants as tape_kind
use Rattle.wave_c.specs.declared.ended.Argument.{Argument}
use Rattle.wave_c.specs.declared.ended.Argument.TheVariants.{TypeText, ValueText}
use Rattle.wave_c.specs.declared.ended.Failure.{Failure}
use Rattle.wave_c.specs.declared.ended.Failure.TheVariants.{Memory, NotUtf8, NoType, Refused, NoTape, Closed}

-- the limit of levels that a number stands for: 0 for 100, and more than 1000 for 1000
abbrev pub limit_of : ℕ → ℕ
limit_of n = if n == 0 then 100 else (if nat_lt 1000 n then 1000 else n)

-- ---- what is wrong

-- the bytes are no UTF-8, and their longest beginning that is has so many
abbrev pub IsTextUpTo : List ℕ → ℕ → Type 0
IsTextUpTo bytes at = (IsUtf8 bytes → ⊥) × IsValidUpTo bytes at

-- the text spells no type within n levels: the kind and the place of the refusal, which isn't out of memory
pub record IsNoTypeFor (n : ℕ) (ty : List ℕ) (e : TypeRefusal) : Type 0 where
  pub other : e.kind ≢ type_kind.OutOfMemory
  pub refused : IsNoTypeWithin n ty e.kind
  pub fault : IsTypeFaultWithin n ty e
  pub within : LiesInText ty e.span

-- so of the text of a function's type
pub record IsNoFunctionFor (n : ℕ) (func : List ℕ) (e : TypeRefusal) : Type 0 where
  pub other : e.kind ≢ type_kind.OutOfMemory
  pub refused : IsNoFunctionWithin n func e.kind
  pub fault : IsFunctionFaultWithin n func e
  pub within : LiesInText func e.span

-- the text is refused within n levels at the type: the kind, detail, cause and place of the refusal
abbrev pub RefusesAt : ℕ → List ℕ → TypeTree → Diagnostic → Type 0
RefusesAt n s T e = RefusesText IsFull T n s e

-- ... which isn't out of memory
abbrev pub IsRefusedAt : ℕ → List ℕ → TypeTree → Diagnostic → Type 0
IsRefusedAt n s T e = (e.kind ≢ kind.OutOfMemory) × RefusesAt n s T e

-- so where it is read without a type
pub record IsRefusedUntyped (n : ℕ) (s : List ℕ) (e : Diagnostic) : Type 0 where
  pub other : e.kind ≢ kind.OutOfMemory
  pub refused : RefusesTree n s e
  pub within : LiesInText s e.span

-- the text is no call within n levels, or not one of the function: so the refusal
abbrev pub RefusesCallAt : ℕ → FunctionType → List ℕ → Diagnostic → Type 0
RefusesCallAt n f s e = RefusesCallWithin n s e ⊎ ((call : Called) × IsCalledWithin n s call × RefusesParamsAt IsFull (types_of f.params) s call.name call.params e)

-- ... which isn't out of memory
abbrev pub IsRefusedCall : ℕ → List ℕ → FunctionType → Diagnostic → Type 0
IsRefusedCall n s f e = (e.kind ≢ kind.OutOfMemory) × RefusesCallAt n f s e

-- the bytes are the tape of no value of the type: their first fault, in kind and place
abbrev pub IsFaultyTape : List ℕ → TypeTree → Refusal → Type 0
IsFaultyTape tape T e = (e.kind ≢ tape_kind.OutOfMemory) × (HasDistinctNames T → HasTextNames T → IsFirstFault (IsFull T) e tape (tape_at T tape))

-- ---- why a call has no answer; out of memory always may be

-- of a text that spells a type within n levels
abbrev pub FailsAsType : ℕ → List ℕ → Failure → Type 0
FailsAsType n ty Memory = Unit {0}
FailsAsType n ty (NotUtf8 TypeText at) = IsTextUpTo ty at
FailsAsType n ty (NotUtf8 ValueText at) = ⊥
FailsAsType n ty (NoType e) = IsNoTypeFor n ty e
FailsAsType n ty (Refused e) = ⊥
FailsAsType n ty (NoTape e) = ⊥
FailsAsType n ty Closed = ⊥

-- of one that spells a function's type
abbrev pub FailsAsFunction : ℕ → List ℕ → Failure → Type 0
FailsAsFunction n func Memory = Unit {0}
FailsAsFunction n func (NotUtf8 TypeText at) = IsTextUpTo func at
FailsAsFunction n func (NotUtf8 ValueText at) = ⊥
FailsAsFunction n func (NoType e) = IsNoFunctionFor n func e
FailsAsFunction n func (Refused e) = ⊥
FailsAsFunction n func (NoTape e) = ⊥
FailsAsFunction n func Closed = ⊥

-- of a handle that holds this
abbrev pub FailsAsHandle : {X : Type 0} → Option X → Failure → Type 0
FailsAsHandle held f = (f ≡ Closed) × (held ≡ None)

-- of a text that may be refused so
abbrev pub FailsToRead : (Diagnostic → Type 0) → List ℕ → Failure → Type 0
FailsToRead IsRefused s Memory = Unit {0}
FailsToRead IsRefused s (NotUtf8 TypeText at) = ⊥
FailsToRead IsRefused s (NotUtf8 ValueText at) = IsTextUpTo s at
FailsToRead IsRefused s (NoType e) = ⊥
FailsToRead IsRefused s (Refused e) = IsRefused e
FailsToRead IsRefused s (NoTape e) = ⊥
FailsToRead IsRefused s Closed = ⊥

-- of a tape at the type
abbrev pub FailsToWrite : List ℕ → TypeTree → Failure → Type 0
FailsToWrite tape T Memory = Unit {0}
FailsToWrite tape T (NotUtf8 argument at) = ⊥
FailsToWrite tape T (NoType e) = ⊥
FailsToWrite tape T (Refused e) = ⊥
FailsToWrite tape T (NoTape e) = IsFaultyTape tape T e
FailsToWrite tape T Closed = ⊥

-- of the explanation of a text, which each refusal has
abbrev pub FailsToExplain : List ℕ → Failure → Type 0
FailsToExplain s f = FailsToRead (λ e. ⊥) s f

-- of the explanation of a type's text
abbrev pub FailsToExplainType : List ℕ → Failure → Type 0
FailsToExplainType ty Memory = Unit {0}
FailsToExplainType ty (NotUtf8 TypeText at) = IsTextUpTo ty at
FailsToExplainType ty (NotUtf8 ValueText at) = ⊥
FailsToExplainType ty (NoType e) = ⊥
FailsToExplainType ty (Refused e) = ⊥
FailsToExplainType ty (NoTape e) = ⊥
FailsToExplainType ty Closed = ⊥

-- of what is known and needs memory alone
abbrev pub FailsForMemory : Failure → Type 0
FailsForMemory f = f ≡ Memory

-- ---- parts of these

-- the argument, which has these bytes, is no UTF-8
abbrev pub IsNotText : List ℕ → Argument → Failure → Type 0
IsNotText bytes argument f = (at : ℕ) × (f ≡ NotUtf8 argument at) × IsTextUpTo bytes at

-- a refusal of a type's text; out of memory by its kind is so by the failure
abbrev pub IsOfTypeRefusal : TypeRefusal → Failure → Type 0
IsOfTypeRefusal e f = ((f ≡ Memory) × (e.kind ≡ type_kind.OutOfMemory)) ⊎ ((f ≡ NoType e) × (e.kind ≢ type_kind.OutOfMemory))

-- so a refusal of a text
abbrev pub IsOfRefusal : Diagnostic → Failure → Type 0
IsOfRefusal e f = ((f ≡ Memory) × (e.kind ≡ kind.OutOfMemory)) ⊎ ((f ≡ Refused e) × (e.kind ≢ kind.OutOfMemory))

-- so a refusal of a tape
abbrev pub IsOfTapeRefusal : Refusal → Failure → Type 0
IsOfTapeRefusal e f = ((f ≡ Memory) × (e.kind ≡ tape_kind.OutOfMemory)) ⊎ ((f ≡ NoTape e) × (e.kind ≢ tape_kind.OutOfMemory))
