-- What holds of errors on their way to the caller.
use Rattle.std.proofs.Common.{ℕ, ◌≡◌, ◌≢◌, inl, inr, List, None, Result, Ok, Err, sym, ap, subst, refl, ◌∙◌}
use Rattle.std.specs.Prelude.{IfOk, IfErr}
use Rattle.std.specs.Result.{IsErrAnd}
use Rattle.std.specs.declared.alloc.AllocError.{AllocError}
use Rattle.std.specs.declared.ops.Range.{Range}
use Rattle.wave_wasm.specs.Types.{TypeTree, HasDistinctNames}
use Rattle.wave_wasm.specs.Values.{Value}
use Rattle.wave_wasm.specs.ValueErrors.{cause_of}
use Rattle.wave_wasm.specs.declared.wasm.WasmValueError.{WasmValueError}
use Rattle.wave_wasm.specs.declared.wasm.WasmValueError.TheVariants as error
use Rattle.wave_lex.specs.Errors.{Diagnostic, Refusal, Says, refusal_of, refused_by}
use Rattle.wave_lex.specs.ErrorDetails.{error_with}
use Rattle.wave_lex.specs.declared.error.Detail.TheVariants as detail
use Rattle.wave_lex.specs.declared.error.ParserErrorKind.{ParserErrorKind}
use Rattle.wave_lex.specs.declared.error.ParserErrorKind.TheVariants as why
use Rattle.wave_lex.specs.declared.error.ParserErrorKind.TheVariants.{InvalidType, OutOfMemory}
use Rattle.wave_grammar.specs.FaultOrder.{Order}
use Rattle.wave_grammar.specs.NodeTree.{NodeTree, place_of}
use Rattle.wave_grammar.specs.ErrorSpans.{RefusesAt, RefusesIn}
use Rattle.wave_grammar.specs.TypedReading.{IsBuilt}
use Rattle.wave_grammar.proofs.ErrorSpans.Nodes as nodes
use Rattle.wave_leaf.specs.Private.Errors.{IsErrorOf}
use Rattle.wave_leaf.specs.Errors.{IsRefusedBy, IsSameOrMemory, IsBuiltOrMemory, detailed}
use Rattle.wave_leaf.specs.Reading.{IsReadAs, IsOfType}
use Rattle.std.specs.Prelude.{ℤ, MatchResult}
use Rattle.wave_wasm.specs.Types as type
use Rattle.wave_wasm.specs.Types.{Simple, Whole, whole_kind}
use Rattle.wave_wasm.specs.Values as value
use Rattle.wave_wasm.specs.Values.{Leaf, leaf_type}
use Rattle.wave_wasm.specs.ConstructorContracts.{MakesLeaf, FullLeaf}
use Rattle.wave_wasm.specs.declared.wasm.WasmTypeKind.{WasmTypeKind}
use Rattle.wave_grammar.specs.SpannedTree.{SpannedTree, tree_of}
use Rattle.wave_grammar.specs.Token.{Token}
use Rattle.wave_grammar.specs.LeafTokens.{Spells}
use Rattle.wave_grammar.specs.Elaborates.{SimpleTree}
use Rattle.wave_grammar.specs.Nodes.{IsParsedFrom}
use Rattle.wave_grammar.specs.NodeAccessors.{GivesNumber}
use Rattle.wave_grammar.specs.TypedReading.{IsValueOf, Answers, IsLeafBuilt, IsTypedValue, IsBlamed, IsKeyRead, IsKeyBlamed}
use Rattle.wave_grammar.specs.PartReading.{AnswersWhole}
use Rattle.wave_grammar.proofs.ByKind.MakerAnswers as makers
use Rattle.wave_grammar.proofs.ByKind.Wholes as wholes
use Rattle.wave_grammar.proofs.ByKind.Keys as keys

-- ---- out of memory in place of an error

no_memory_left : AllocError
no_memory_left = record {}

-- it stands where the error stood
pub kept_within : (n : NodeTree) (e f : Diagnostic) → IsSameOrMemory e f → RefusesIn n e → RefusesIn n f
kept_within n e f (inl same) h = subst (RefusesIn n) (sym same) h
kept_within n e f (inr memory) h = subst (RefusesIn n) (sym memory.1) (record { lies = h.0.lies; caused = λ was. absurd (cc was) }, tt)

-- so where the error is that of a key
pub kept_blame : (Full : TypeTree → Type 0) (K : Simple) (p : Range ℕ) (key : Token) (e f : Diagnostic) → IsSameOrMemory e f → IsKeyBlamed Full K p key e → IsKeyBlamed Full K p key f
kept_blame Full K p key e f (inl same) h = subst (IsKeyBlamed Full K p key) (sym same) h
kept_blame Full K p key e f (inr memory) h = inl (ap (λ (d : Diagnostic). d.kind) memory.1)

-- or of a value
pub same_or_memory : {V : Type 0} (tree : V → Value) (of : V → TypeTree → Type 0) (Full : TypeTree → Type 0) (o w : Order) (T : TypeTree) (source : List ℕ) (n : NodeTree) (e f : Diagnostic) → IsReadAs tree of Full o w T source n (Err e) → IsSameOrMemory e f → IsReadAs tree of Full o w T source n (Err f)
same_or_memory tree of Full o w T source n e f h (inl same) = subst (λ (d : Diagnostic). IsReadAs tree of Full o w T source n (Err d)) (sym same) h
same_or_memory tree of Full o w T source n e f h (inr memory) = record {
  answer = λ t node distinct. inl (ap (λ (d : Diagnostic). d.kind) memory.1);
  within = λ value. kept_within n e f (inr memory) (h.within value);
  typed = tt;
}

-- at any type out of memory may be reported at the node
pub no_memory : {V : Type 0} (tree : V → Value) (of : V → TypeTree → Type 0) (Full : TypeTree → Type 0) (o w : Order) (T : TypeTree) (source : List ℕ) (n : NodeTree) (e : Diagnostic) → Says e OutOfMemory (place_of n) None → IsReadAs tree of Full o w T source n (Err e)
no_memory tree of Full o w T source n e says =
    let memory : e.kind ≡ OutOfMemory = ap (λ (r : Refusal). r.kind) says.is in
    record { answer = λ t node distinct. inl memory; within = λ value. nodes.at_in source n e (inl value) (nodes.memory_here n e memory says.stands); typed = tt }

-- ---- what a constructor answered

-- the error of a cause says so, as the caller sees it
pub cause_said : (cause : WasmValueError) (p : Range ℕ) → (refusal_of (error_with why.WasmValueError p (detail.Cause cause)) ≡ refused_by (cause_of cause)) × ((error_with why.WasmValueError p (detail.Cause cause)).span ≡ p)
cause_said (error.MissingField s) p = (refl, refl)
cause_said (error.MissingPayload s) p = (refl, refl)
cause_said (error.UnexpectedPayload s) p = (refl, refl)
cause_said (error.UnknownCase s) p = (refl, refl)
cause_said (error.UnknownField s) p = (refl, refl)
cause_said (error.UnsupportedType s) p = (refl, refl)
cause_said (error.Other s) p = (refl, refl)
cause_said (error.WrongNumberOfElements w g) p = (refl, refl)
cause_said (error.WrongNumberOfTupleValues w g) p = (refl, refl)
cause_said (error.WrongTypeKind w g) p = (refl, refl)
cause_said (error.WrongValueType w g) p = (refl, refl)
cause_said (error.Memory e) p = (refl, refl)

-- an error of these parts is such a refusal
pub refused_or_memory : (cause : WasmValueError) (p : Range ℕ) (e : Diagnostic) → IsErrorOf why.WasmValueError p (detail.Cause cause) e → IsRefusedBy cause e × (e.span ≡ p)
refused_or_memory cause p e (inl same) = let said = cause_said cause p in (inl (ap refusal_of same ∙ said.0), ap (λ (d : Diagnostic). d.span) same ∙ said.1)
refused_or_memory cause p e (inr held) = (inr (held.0, ap refusal_of held.1), ap (λ (d : Diagnostic). d.span) held.1)

-- what holds where a constructor made a value, and where it refused for memory too, holds of what its answer becomes
pub built_anew : {V G : Type 0} (P : V → Type 0) (Q : WasmValueError → Type 0) (n : NodeTree) (m : Result V WasmValueError) (r : Result V Diagnostic) → ((a : AllocError) → Q (error.Memory a)) → IfOk m P → IfErr m Q → IsBuiltOrMemory n m r → ((x : Result V WasmValueError) → IfOk x P → IfErr x Q → IsBuilt n x r → G) → G
built_anew P Q n (Ok v) (Ok w) any ok full done go = go (Ok v) ok full done
built_anew P Q n (Err cause) (Err e) any ok full (inl same, place) go = go (Err cause) ok full (same, place)
built_anew P Q n (Err cause) (Err e) any ok full (inr memory, place) go = go (Err (error.Memory no_memory_left)) tt (any no_memory_left) (memory.1, place)
built_anew P Q n (Ok v) (Err e) any ok full done go = absurd done
built_anew P Q n (Err cause) (Ok w) any ok full done go = absurd done

-- it stands at the node
pub built_at : {V : Type 0} (n : NodeTree) (m : Result V WasmValueError) (r : Result V Diagnostic) → IsBuiltOrMemory n m r → IfErr r (RefusesAt n)
built_at {V} n m r done = built_anew (λ (v : V). Unit {0}) (λ (cause : WasmValueError). Unit {0}) n m r (λ a. tt) (any_ok m) (any_err m) done (λ x ok full built. nodes.built_at n x r built)
  where
    any_ok : (m : Result V WasmValueError) → IfOk m (λ (v : V). Unit {0})
    any_ok (Ok v) = tt
    any_ok (Err cause) = tt

    any_err : (m : Result V WasmValueError) → IfErr m (λ (cause : WasmValueError). Unit {0})
    any_err (Ok v) = tt
    any_err (Err cause) = tt

-- so it stands in it
pub built_in : {V : Type 0} (source : List ℕ) (n : NodeTree) (m : Result V WasmValueError) (r : Result V Diagnostic) → IsParsedFrom source n → IsBuiltOrMemory n m r → IfErr r (RefusesIn n)
built_in source n m r h done = nodes.all_in source n r h (built_at n m r done)

-- ---- values are of their types

-- what was made is of the type, where its making says so
pub built_of : {V : Type 0} (of : V → TypeTree → Type 0) (T : TypeTree) (P : V → Type 0) (n : NodeTree) (m : Result V WasmValueError) (r : Result V Diagnostic) → ((v : V) → P v → HasDistinctNames T → of v T) → IfOk m P → IsBuilt n m r → IsOfType of T r
built_of {V} of T P n (Ok v) (Ok w) says ok same = subst (λ (x : V). HasDistinctNames T → of x T) (sym same) (says v ok)
built_of of T P n (Err cause) (Err e) says ok done = tt
built_of of T P n (Ok v) (Err e) says ok done = absurd done
built_of of T P n (Err cause) (Ok w) says ok done = absurd done

pub anew_of : {V : Type 0} (of : V → TypeTree → Type 0) (T : TypeTree) (P : V → Type 0) (n : NodeTree) (m : Result V WasmValueError) (r : Result V Diagnostic) → ((v : V) → P v → HasDistinctNames T → of v T) → IfOk m P → IsBuiltOrMemory n m r → IsOfType of T r
anew_of {V} of T P n (Ok v) (Ok w) says ok same = subst (λ (x : V). HasDistinctNames T → of x T) (sym same) (says v ok)
anew_of of T P n (Err cause) (Err e) says ok done = tt
anew_of of T P n (Ok v) (Err e) says ok done = absurd done
anew_of of T P n (Err cause) (Ok w) says ok done = absurd done

-- what the node of a value answers is of the type
pub typed_of : {V : Type 0} (tree : V → Value) (of : V → TypeTree → Type 0) (Full : TypeTree → Type 0) (o w : Order) (T : TypeTree) (source : List ℕ) (n : NodeTree) (r : Result V Diagnostic) → IsValueOf source n → Answers tree of Full o w T source n r → IsOfType of T r
typed_of tree of Full o w T source n (Ok v) value answer = λ distinct. (answer value.0 value.1 distinct).is_of
typed_of tree of Full o w T source n (Err e) value answer = tt

-- a refusal is no value
pub none_of : {V : Type 0} (of : V → TypeTree → Type 0) (T : TypeTree) (P : Diagnostic → Type 0) (r : Result V Diagnostic) → IsErrAnd r P → IsOfType of T r
none_of of T P (Ok v) refused = absurd refused
none_of of T P (Err e) refused = tt

module _ {V : Type 0} (tree : V → Value) (of : V → TypeTree → Type 0) (Full : TypeTree → Type 0) where
  -- what is made of one token is of its type
  pub leaf_of : (one : Leaf) (n : NodeTree) (r : Result V Diagnostic) → IsLeafBuilt tree of Full one n r → IsOfType of (type.simple (leaf_type one)) r
  leaf_of one n r built = built_of of (type.simple (leaf_type one)) (MakesLeaf tree of one) n built.0 r (λ v makes distinct. makes.is_of) built.1 built.3

  -- the value of one token
  pub leaf_anew : (one : Leaf) (n : NodeTree) (m : Result V WasmValueError) (r : Result V Diagnostic) → IfOk m (MakesLeaf tree of one) → IfErr m (FullLeaf Full one) → IsBuiltOrMemory n m r → IsLeafBuilt tree of Full one n r
  leaf_anew one n m r ok full done = built_anew (MakesLeaf tree of one) (FullLeaf Full one) n m r (λ a f. tt) ok full done (λ x ok full built. (x, ok, full, built))

  pub leaf_built : (o w : Order) (T : TypeTree) (t : SpannedTree) (n : NodeTree) (one : Leaf) (m : Result V WasmValueError) (r : Result V Diagnostic) → T ≡ type.simple (leaf_type one) → SimpleTree (leaf_type one) (tree_of t) (value.leaf one) → IfOk m (MakesLeaf tree of one) → IfErr m (FullLeaf Full one) → IsBuiltOrMemory n m r → MatchResult r (IsTypedValue tree of T t) (IsBlamed Full o w T t)
  leaf_built o w T t n one m r is read ok full done = let x = leaf_anew one n m r ok full done in makers.leaf_built tree of Full o w T t n one x.0 r is read x.1 x.2 x.3

  pub whole_built : (k : WasmTypeKind) (which : Whole) (source : List ℕ) (n : NodeTree) (y z : ℤ) (m : Result V WasmValueError) (r : Result V Diagnostic) → k ≡ whole_kind which → y ≡ z → GivesNumber which (λ (x : ℤ). x) source n (Ok z) → IfOk m (MakesLeaf tree of (value.whole which y)) → IfErr m (FullLeaf Full (value.whole which y)) → IsBuiltOrMemory n m r → AnswersWhole tree of Full k source n r
  whole_built k which source n y z m r is same gives ok full done = let x = leaf_anew (value.whole which y) n m r ok full done in wholes.whole_built tree of Full k which source n y z x.0 r is same gives x.1 x.2 x.3

  pub key_built : (T : TypeTree) (K S : Simple) (p : Range ℕ) (key : Token) (n : NodeTree) (one : Leaf) (m : Result V WasmValueError) (r : Result V Diagnostic) → T ≡ type.simple K → T ≡ type.simple S → leaf_type one ≡ S → Spells S key one → IfOk m (MakesLeaf tree of one) → IfErr m (FullLeaf Full one) → IsBuiltOrMemory n m r → MatchResult r (IsKeyRead tree of K key) (IsKeyBlamed Full K p key)
  key_built T K S p key n one m r e f is spelled ok full done = let x = leaf_anew one n m r ok full done in keys.key_built tree of Full T K S p key n one x.0 r e f is spelled x.1 x.2 x.3

-- an error of this kind alone
pub plain_says : (k : ParserErrorKind) (p : Range ℕ) (e : Diagnostic) → e ≡ detailed k p None → Says e k p None
plain_says k p e same = subst (λ (d : Diagnostic). Says d k p None) (sym same) (record { is = refl; stands = refl })

-- a refusal of this form isn't out of memory
pub form_spares : {V : Type 0} (r : Result V Diagnostic) (p : Range ℕ) → IfErr r (λ e. Says e InvalidType p None) → IfErr r (λ e. e.kind ≢ OutOfMemory)
form_spares (Ok v) p says = tt
form_spares (Err e) p says = λ memory. let is : e.kind ≡ InvalidType = ap (λ (r : Refusal). r.kind) says.is in absurd (cc)
