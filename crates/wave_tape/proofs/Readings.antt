-- What a reader answers, from what its steps answer.
use Rattle.std.proofs.Common.{◌≡◌, ℕ, List, Result, Ok, Err, Bor, refl, sym, ap, subst, ◌∙◌}
use Rattle.std.specs.Prelude.{IfOk, IfErr}
use Rattle.wave_wasm.specs.Types as type
use Rattle.wave_wasm.specs.Types.{TypeTree, Simple, simple_kind, HasDistinctNames}
use Rattle.wave_wasm.specs.declared.wasm.WasmTypeKind.{WasmTypeKind}
use Rattle.wave_wasm.proofs.TypesOfValues.TypeOfKind.{simple_is}
use Rattle.wave_wasm.specs.Values as value
use Rattle.wave_wasm.specs.Values.{Value, Leaf, leaf_type}
use Rattle.wave_wasm.specs.ConstructorContracts.{IsMemory, Makes, MakesLeaf, FullLeaf}
use Rattle.std.specs.declared.alloc.AllocError.{AllocError}
use Rattle.wave_wasm.specs.declared.wasm.WasmValueError.{WasmValueError}
use Rattle.wave_wasm.specs.declared.wasm.WasmValueError.TheVariants as error
use Rattle.wave_tape.specs.Reading.{Fault, Reading, ◌>>=◌, leaf_at, value_at}
use Rattle.wave_tape.specs.Private.Readers.{IsFaultOf, Fails, IsBuilt, IsRead, IsLeafRead}
use Rattle.wave_tape.specs.declared.error.Stop.{Stop}
use Rattle.wave_tape.specs.declared.error.Stop.TheVariants as stops

-- ---- faults

-- what follows a fault is not read
pub stops_at : {A B : Type 0} (r : Result A Fault) (f : A → Result B Fault) (x : Fault) → r ≡ Err x → (r >>= f) ≡ Err x
stops_at {A = A} r f x e = ap (λ (q : Result A Fault). q >>= f) e

-- a fault of a part is one of the whole
pub fault_of : {A B : Type 0} (Full : Type 0) (s : Stop) (part : Result A Fault) (whole : Result B Fault) → ((x : Fault) → part ≡ Err x → whole ≡ Err x) → IsFaultOf s part → Fails Full s whole
fault_of Full stops.Memory part whole f h = absurd h
fault_of Full (stops.Refused left) part whole f h = absurd h
fault_of Full (stops.Fault kind left) part whole f h = f (record { kind = kind; left = left }) h

pub fault_on : {A B : Type 0} (s : Stop) (part : Result A Fault) (whole : Result B Fault) → ((x : Fault) → part ≡ Err x → whole ≡ Err x) → IsFaultOf s part → IsFaultOf s whole
fault_on stops.Memory part whole f h = h
fault_on (stops.Refused left) part whole f h = h
fault_on (stops.Fault kind left) part whole f h = f (record { kind = kind; left = left }) h

-- so is what stopped a reader of a part
pub fails_of : {A B : Type 0} (Part Full : Type 0) (s : Stop) (part : Result A Fault) (whole : Result B Fault) → (Full → Part) → ((x : Fault) → part ≡ Err x → whole ≡ Err x) → Fails Part s part → Fails Full s whole
fails_of Part Full stops.Memory part whole full f h = tt
fails_of Part Full (stops.Refused left) part whole full f h = λ all. h (full all)
fails_of Part Full (stops.Fault kind left) part whole full f h = f (record { kind = kind; left = left }) h

-- a refusal that is not out of memory
pub not_memory : (cause : WasmValueError) → ((e : AllocError) → cause ≡ error.Memory e → ⊥) → IsMemory cause → ⊥
not_memory (error.Memory e) apart h = apart e refl
not_memory _ apart h = h

abbrev pub read_as : {A : Type 0} → A → List ℕ → Reading A
read_as x rest = Ok (x, rest)

-- ---- what a constructor gives

module _ {S : Type 0} (tree : S → Value) (of : S → TypeTree → Type 0) (Full : TypeTree → Type 0) where
  pub built_read : (T : TypeTree) (bytes : List ℕ) (asked : Value) (rest : List ℕ) (made : Result S WasmValueError) (r : Result (S × Bor (List ℕ)) Stop) → IsBuilt made rest r → IfOk made (λ v. HasDistinctNames T → Makes tree of asked T v) → IfErr made (λ e. HasDistinctNames T → Full T → IsMemory e) → (HasDistinctNames T → value_at T bytes ≡ Ok (asked, rest)) → IsRead tree of Full T bytes r
  built_read T bytes asked rest (Ok v) (Ok x) b ok err reads = λ distinct.
      let m = ok distinct in (
        reads distinct ∙ (ap (λ (w : Value). read_as w rest) (sym m.means ∙ ap tree (sym b.0)) ∙ ap (λ (s : List ℕ). read_as (tree x.0) s) (sym b.1)),
        subst (λ (v : S). of v T) (sym b.0) m.is_of,
      )
  built_read T bytes asked rest (Ok v) (Err s) b ok err reads = absurd b
  built_read T bytes asked rest (Err e) (Ok x) b ok err reads = absurd b
  built_read T bytes asked rest (Err e) (Err stops.Memory) b ok err reads = λ distinct named. tt
  built_read T bytes asked rest (Err e) (Err (stops.Refused left)) b ok err reads = λ distinct named full. b (err distinct full)
  built_read T bytes asked rest (Err e) (Err (stops.Fault kind left)) b ok err reads = absurd b

  leaf_ok : (one : Leaf) (made : Result S WasmValueError) → IfOk made (MakesLeaf tree of one) → IfOk made (λ v. HasDistinctNames (type.simple (leaf_type one)) → Makes tree of (value.leaf one) (type.simple (leaf_type one)) v)
  leaf_ok one (Ok v) h = λ distinct. h
  leaf_ok one (Err e) h = tt

  leaf_err : (one : Leaf) (made : Result S WasmValueError) → IfErr made (FullLeaf Full one) → IfErr made (λ e. HasDistinctNames (type.simple (leaf_type one)) → Full (type.simple (leaf_type one)) → IsMemory e)
  leaf_err one (Ok v) h = tt
  leaf_err one (Err e) h = λ distinct full. h full

  -- a leaf that was read and made
  pub leaf_read : (one : Leaf) (bytes rest : List ℕ) (made : Result S WasmValueError) (r : Result (S × Bor (List ℕ)) Stop) → leaf_at (leaf_type one) bytes ≡ Ok (one, rest) → IsBuilt made rest r → IfOk made (MakesLeaf tree of one) → IfErr made (FullLeaf Full one) → IsRead tree of Full (type.simple (leaf_type one)) bytes r
  leaf_read one bytes rest made r reads b ok err =
      built_read (type.simple (leaf_type one)) bytes (value.leaf one) rest made r b (leaf_ok one made ok) (leaf_err one made err)
      (λ distinct. ap (λ (q : Reading Leaf). q >>= λ x. read_as (value.leaf x.0) x.1) reads)

  -- a fault before anything is read of parts
  pub fault_read : {A : Type 0} (T : TypeTree) (bytes : List ℕ) (s : Stop) (part : Result A Fault) → ((x : Fault) → part ≡ Err x → value_at T bytes ≡ Err x) → IsFaultOf s part → IsRead tree of Full T bytes (Err s)
  fault_read T bytes s part f h = λ distinct named. fault_of (Full T) s part (value_at T bytes) f h

  -- the reader of a kind of one token
  pub leaf_as : (kind : WasmTypeKind) (T : Simple) (bytes : List ℕ) (r : Result (S × Bor (List ℕ)) Stop) → kind ≡ simple_kind T → IsRead tree of Full (type.simple T) bytes r → IsLeafRead tree of Full kind bytes r
  leaf_as kind T bytes r is h = λ R e. subst (λ (U : TypeTree). IsRead tree of Full U bytes r) (simple_is R (type.simple T) (sym e ∙ is)) h

  pub leaf_fault : {A : Type 0} (kind : WasmTypeKind) (T : Simple) (bytes : List ℕ) (s : Stop) (part : Reading A) (f : A × List ℕ → Reading Leaf) → kind ≡ simple_kind T → leaf_at T bytes ≡ (part >>= f) → IsFaultOf s part → IsLeafRead tree of Full kind bytes (Err s)
  leaf_fault kind T bytes s part f is reads h =
      leaf_as kind T bytes (Err s) is (fault_read (type.simple T) bytes s part (λ x e. ap (λ (q : Reading Leaf). q >>= λ y. read_as (value.leaf y.0) y.1) (reads ∙ stops_at part f x e)) h)

  -- no kind of one token is left
  pub no_kind : (kind : WasmTypeKind) (bytes : List ℕ) (r : Result (S × Bor (List ℕ)) Stop) → ((R : Simple) → kind ≡ simple_kind R → ⊥) → IsLeafRead tree of Full kind bytes r
  no_kind kind bytes r none = λ R e. absurd (none R e)
