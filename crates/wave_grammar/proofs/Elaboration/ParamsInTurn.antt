-- The values of parameters, read one by one.
use Rattle.std.proofs.Common.{ℕ, zero, suc, ◌≡◌, ◌≢◌, ◌⊎◌, inl, inr, ◌<◌, ◌≤◌, ◌+◌, ◌-◌, List, [], ◌∷◌, ◌++◌, length, get_or, take, drop, map, Some, None, Result, Ok, Err, IfErr, refl, sym, ap, ◌∙◌, subst, add-one, append_assoc, length-drop, length-append, arith}
use Rattle.std.specs.declared.ops.Range.{Range}
use Rattle.std.specs.Result.{IsErrAnd}
use Rattle.std.proofs.lemmas.List.{drop-map, take_all}
use Rattle.wave_wasm.specs.Lists.{AllOf, SomeOf}
use Rattle.wave_wasm.specs.Types as type
use Rattle.wave_wasm.specs.Types.{TypeTree, HasDistinctNames, kind_of}
use Rattle.wave_wasm.specs.Values as value
use Rattle.wave_wasm.specs.Values.{Value, no_value}
use Rattle.wave_wasm.specs.ConstructorContracts.{IsMemory, Makes, FullOption}
use Rattle.wave_wasm.specs.ValueErrors.{cause_of}
use Rattle.wave_wasm.specs.declared.wasm.WasmTypeKind.TheVariants as kinds
use Rattle.wave_wasm.specs.declared.wasm.WasmValueError.{WasmValueError}
use Rattle.wave_wasm.specs.declared.wasm.WasmValueError.TheVariants as error
use Rattle.wave_lex.specs.Errors.{Diagnostic, Refusal, refusal_of, refused_by, too_many_params, too_few_params, Says}
use Rattle.wave_lex.specs.declared.error.ParserErrorKind.TheVariants as because
use Rattle.wave_grammar.specs.TypedGrammar.{IsOption}
use Rattle.wave_grammar.specs.Params.{Omitted}
use Rattle.wave_grammar.specs.SpannedTree.{SpannedTree, tree_of, LiesIn}
use Rattle.wave_grammar.specs.ParamElaboration.{TreeParams}
use Rattle.wave_grammar.specs.TypedReading.{IsTypedValue, IsTypeError}
use Rattle.wave_grammar.specs.NodeParams.{IsNoOption, ParamsFault, AreOmitted, AreRead, RefusesInTurn, close_of, RefusesOmitted}
use Rattle.wave_grammar.specs.FaultOrder.{by_type}
use Rattle.wave_grammar.specs.NodeTree.{NodeTree, place_of}
use Rattle.wave_grammar.specs.Nodes.{IsNodeOf}
use Rattle.wave_grammar.specs.ErrorSpans.{StandsIn, HasTypeKind}
use Rattle.wave_grammar.proofs.ChildNodes.Inside.{inside}
use Rattle.wave_grammar.proofs.ByKind.Lists.{HasAt, AreNodesOf, node_at, as_many}
use Rattle.wave_grammar.proofs.ByKind.Tuples.{all_has}
use Rattle.wave_wasm.proofs.TypesOfValues.TypeOfKind.{formed_as}

-- ---- options

-- a type of the kind of options is one
pub option_kind : (T : TypeTree) → kind_of T ≡ kinds.Option → IsOption T
option_kind T e = subst IsOption (sym (formed_as kinds.Option T (sym e)).1) tt

-- and no other type is
pub no_option_kind : (T : TypeTree) → kind_of T ≢ kinds.Option → IsNoOption T
no_option_kind (type.option P) apart h = apart refl
no_option_kind _ apart h = h

-- an option, with its payload type
option_of : (T : TypeTree) → IsOption T → (P : TypeTree) × (T ≡ type.option P)
option_of (type.option P) h = (P, refl)
option_of _ h = absurd h

-- ---- lists

-- what stands at a place, and what is after it
pub has_drop : {A : Type 0} (xs : List A) (i : ℕ) (x : A) → HasAt xs i x → drop i xs ≡ x ∷ drop (suc i) xs
has_drop [] i x h = absurd h
has_drop (y ∷ ys) zero x h = λ j. h j ∷ ys
has_drop (y ∷ ys) (suc i) x h = has_drop ys i x h

-- one more of them
pub all_push : {A : Type 0} (P : A → Type 0) (xs : List A) (i : ℕ) (x : A) → HasAt xs i x → AllOf P (take i xs) → P x → AllOf P (take (suc i) xs)
all_push P [] i x here h p = absurd here
all_push P (y ∷ ys) zero x here h p = (subst P (sym here) p, tt)
all_push P (y ∷ ys) (suc i) x here h p = (h.0, all_push P ys i x here h.1 p)

pub all_more : {A : Type 0} (P : A → Type 0) (xs : List A) (i : ℕ) (x : A) → HasAt xs i x → AllOf P (take i xs) → P x → AllOf P (take (i + 1) xs)
all_more P xs i x here h p = rw add-one (all_push P xs i x here h p)

-- one of them is enough
pub some_of : {A : Type 0} (P : A → Type 0) (xs : List A) (i : ℕ) (x : A) → HasAt xs i x → P x → SomeOf P xs
some_of P [] i x here p = absurd here
some_of P (y ∷ ys) zero x here p = inl (subst P (sym here) p)
some_of P (y ∷ ys) (suc i) x here p = inr (some_of P ys i x here p)

drop_end : {A : Type 0} (xs : List A) (i : ℕ) → length xs ≤ i → drop i xs ≡ []
drop_end [] zero l = refl
drop_end [] (suc i) l = refl
drop_end (x ∷ xs) zero l = absurd (omega (arith, l))
drop_end (x ∷ xs) (suc i) l = drop_end xs i (omega (arith, l))

-- as many as before
pub mapped_count : {A B : Type 0} (f : A → B) (xs : List A) → length (map f xs) ≡ length xs
mapped_count f [] = refl
mapped_count f (x ∷ xs) = ap suc (mapped_count f xs)

-- what is left of a list, mapped
pub rest_mapped : {A B : Type 0} (f : A → B) (xs : List A) (n : ℕ) → map f (take (length xs - n) (drop n xs)) ≡ drop n (map f xs)
rest_mapped f xs n = ap (map f) (take_all (length xs - n) (drop n xs) (omega (arith, length-drop n xs))) ∙ sym (drop-map f n xs)

-- one more
pub pushed : {A : Type 0} (xs ys : List A) (x : A) (i : ℕ) → ys ≡ xs ++ x ∷ [] → length xs ≡ i → length ys ≡ i + 1
pushed xs ys x i is many = ap length is ∙ (length-append xs (x ∷ []) ∙ ap (λ (k : ℕ). k + 1) many)

-- a refusal that is handed on
pub error_handed : {X : Type 0} (P : Diagnostic → Type 0) (r : Result X Diagnostic) (e : Diagnostic) → IsErrAnd r (λ f. f ≡ e) → P e → IfErr r P
error_handed P (Ok x) e same h = tt
error_handed P (Err f) e same h = subst P (sym same) h

-- a refusal that is handed on is one
pub handed_is : {X : Type 0} (P : Diagnostic → Type 0) (r : Result X Diagnostic) (e : Diagnostic) → IsErrAnd r (λ f. f ≡ e) → P e → IsErrAnd r P
handed_is P (Ok x) e same h = absurd same
handed_is P (Err f) e same h = subst P (sym same) h

-- ---- the parameters that are left out

-- the refusal of the items of a tuple
abbrev RefusesItems : (TypeTree → Type 0) → List TypeTree → List SpannedTree → NodeTree → Diagnostic → Type 0
RefusesItems Full Ts ts whole e = (e.kind ≡ because.OutOfMemory) ⊎ RefusesInTurn Full Ts ts whole e

module _ {V : Type 0} (tree : V → Value) (of : V → TypeTree → Type 0) (Full : TypeTree → Type 0) where
  -- one more that is omitted
  omitted_push : (Ts : List TypeTree) (vs : List V) (i : ℕ) (T : TypeTree) (v : V) → HasAt Ts i T → IsOption T → (HasDistinctNames T → Makes tree of (value.option no_value) T v) → AreOmitted tree of (take i Ts) vs → AreOmitted tree of (take (suc i) Ts) (vs ++ v ∷ [])
  omitted_push [] vs i T v here is makes h = absurd here
  omitted_push (U ∷ Ts) [] zero T v here is makes h = (subst IsOption (sym here) is, subst (λ (W : TypeTree). HasDistinctNames W → Makes tree of (value.option no_value) W v) (sym here) makes, tt)
  omitted_push (U ∷ Ts) (w ∷ vs) zero T v here is makes h = absurd h
  omitted_push (U ∷ Ts) [] (suc i) T v here is makes h = absurd h
  omitted_push (U ∷ Ts) (w ∷ vs) (suc i) T v here is makes h = (h.0, h.1, omitted_push Ts vs i T v here is makes h.2)

  -- the invariant of the loop holds after one more
  pub omitted_more : (Ts : List TypeTree) (vs ws : List V) (i : ℕ) (T : TypeTree) (v : V) (before after : List V) → HasAt Ts i T → IsOption T → (HasDistinctNames T → Makes tree of (value.option no_value) T v) → before ≡ vs ++ ws → after ≡ before ++ v ∷ [] → AreOmitted tree of (take i Ts) ws →
      (others : List V) × (after ≡ vs ++ others) × AreOmitted tree of (take (i + 1) Ts) others
  omitted_more Ts vs ws i T v before after here is makes e f omitted =
      (ws ++ v ∷ [], f ∙ (ap (λ (z : List V). z ++ v ∷ []) e ∙ append_assoc vs ws (v ∷ [])), rw add-one (omitted_push Ts ws i T v here is makes omitted))

  -- as many values as types
  pub omitted_count : (Ts : List TypeTree) (vs : List V) → AreOmitted tree of Ts vs → length vs ≡ length Ts
  omitted_count [] [] h = refl
  omitted_count [] (v ∷ vs) h = absurd h
  omitted_count (T ∷ Ts) [] h = absurd h
  omitted_count (T ∷ Ts) (v ∷ vs) h = ap suc (omitted_count Ts vs h.2)

  refused_by_cause : (Ts : List TypeTree) (at : Range ℕ) (cause : WasmValueError) (e : Diagnostic) → refusal_of e ≡ refused_by (cause_of cause) → e.span ≡ at → AllOf IsOption Ts → (AllOf Full Ts → IsMemory cause) → RefusesOmitted Full Ts at e
  refused_by_cause Ts at (error.Memory a) e is place options full = inl (ap (λ (r : Refusal). r.kind) is)
  refused_by_cause Ts at _ e is place options full = inr (ap (λ (r : Refusal). r.kind) is, place, options, full)

  -- a constructor that refuses `none`
  pub omission_refused : (Ts : List TypeTree) (at : Range ℕ) (i : ℕ) (T : TypeTree) (cause : WasmValueError) (e : Diagnostic) → HasAt Ts i T → AllOf IsOption Ts → FullOption of Full T None cause → refusal_of e ≡ refused_by (cause_of cause) → e.span ≡ at → RefusesOmitted Full Ts at e
  omission_refused Ts at i T cause e here options full is place =
      let (P, option) = option_of T (all_has IsOption Ts i T options here) in
      refused_by_cause Ts at cause e is place options (λ all. full (all_has Full Ts i T all here) P option tt)

  -- ---- the values of the items

  -- one more that is read
  read_push : (Ts : List TypeTree) (ts : List SpannedTree) (vs : List V) (i : ℕ) (T : TypeTree) (t : SpannedTree) (v : V) → HasAt Ts i T → HasAt ts i t → AreRead tree of (take i Ts) (take i ts) vs → (HasDistinctNames T → IsTypedValue tree of T t v) → AreRead tree of (take (suc i) Ts) (take (suc i) ts) (vs ++ v ∷ [])
  read_push [] ts vs i T t v typed here before now = absurd typed
  read_push (U ∷ Ts) [] vs i T t v typed here before now = absurd here
  read_push (U ∷ Ts) (u ∷ ts) [] zero T t v typed here before now =
      (subst (λ (W : TypeTree). HasDistinctNames W → IsTypedValue tree of W u v) (sym typed) (subst (λ (w : SpannedTree). HasDistinctNames T → IsTypedValue tree of T w v) (sym here) now), tt)
  read_push (U ∷ Ts) (u ∷ ts) (w ∷ vs) zero T t v typed here before now = absurd before
  read_push (U ∷ Ts) (u ∷ ts) [] (suc i) T t v typed here before now = absurd before
  read_push (U ∷ Ts) (u ∷ ts) (w ∷ vs) (suc i) T t v typed here before now = (before.0, read_push Ts ts vs i T t v typed here before.1 now)

  -- the invariant of the loop holds after the next item
  pub item_kept : (source : List ℕ) (Ts : List TypeTree) (ns : List NodeTree) (ts : List SpannedTree) (vs ws : List V) (i : ℕ) (n : NodeTree) (T : TypeTree) (v : V) → AreNodesOf source ns ts → i < length ns → n ≡ get_or ns i n → HasAt Ts i T → AreRead tree of (take i Ts) (take i ts) vs →
      ((t : SpannedTree) → IsNodeOf source n t → HasDistinctNames T → IsTypedValue tree of T t v) → ws ≡ vs ++ v ∷ [] → AreRead tree of (take (i + 1) Ts) (take (i + 1) ts) ws
  item_kept source Ts ns ts vs ws i n T v nodes lt is typed before now kept =
      let here = node_at source ns ts i n nodes lt is in
      rw (add-one, kept) (read_push Ts ts vs i T here.0 v typed here.1 before (now here.0 here.2))

  -- the values that were read, and `none` for the types that are left
  read_and_omitted : (Ts : List TypeTree) (ts : List SpannedTree) (vs others : List V) (i : ℕ) → i ≤ length Ts → length ts ≤ i → i ≤ length ts → AreRead tree of (take i Ts) (take i ts) vs → AreOmitted tree of (drop i Ts) others → AreRead tree of Ts ts (vs ++ others)
  read_and_omitted Ts [] [] others zero l m k before omitted = omitted
  read_and_omitted Ts [] (v ∷ vs) others zero l m k before omitted = absurd (none Ts before) where
    none : (Us : List TypeTree) → AreOmitted tree of (take zero Us) (v ∷ vs) → ⊥
    none [] h = h
    none (U ∷ Us) h = h
  read_and_omitted Ts [] vs others (suc i) l m k before omitted = absurd (omega (arith, k))
  read_and_omitted Ts (t ∷ ts) vs others zero l m k before omitted = absurd (omega (arith, m))
  read_and_omitted [] (t ∷ ts) vs others (suc i) l m k before omitted = absurd (omega (arith, l))
  read_and_omitted (T ∷ Ts) (t ∷ ts) [] others (suc i) l m k before omitted = absurd before
  read_and_omitted (T ∷ Ts) (t ∷ ts) (v ∷ vs) others (suc i) l m k before omitted =
      (before.0, read_and_omitted Ts ts vs others i (omega (arith, l)) (omega (arith, m)) (omega (arith, k)) before.1 omitted)

  -- all were read
  pub params_read : (source : List ℕ) (Ts Left : List TypeTree) (ns : List NodeTree) (ts : List SpannedTree) (vs ws : List V) (i : ℕ) → AreNodesOf source ns ts → i ≤ length ns → length ns ≤ i → i ≤ length Ts → AreRead tree of (take i Ts) (take i ts) vs → Left ≡ drop (length ns) Ts →
      (others : List V) × (ws ≡ vs ++ others) × AreOmitted tree of Left others → AreRead tree of Ts ts ws
  params_read source Ts Left ns ts vs ws i nodes le ge l before left (others, is, omitted) =
      let many = as_many source ns ts nodes in
      let same : length ns ≡ i = omega (arith, le, ge) in
      let there : Left ≡ drop i Ts = left ∙ ap (λ (k : ℕ). drop k Ts) same in
      subst (AreRead tree of Ts ts) (sym is)
      (read_and_omitted Ts ts vs others i l (omega (arith, ge, many)) (omega (arith, le, many)) before (subst (λ (z : List TypeTree). AreOmitted tree of z others) there omitted))

  -- as many values as types
  pub params_count : (Ts Left : List TypeTree) (vs ws : List V) (i k : ℕ) → i ≤ k → k ≤ i → i ≤ length Ts → length vs ≡ i → Left ≡ drop k Ts → (others : List V) × (ws ≡ vs ++ others) × AreOmitted tree of Left others → length ws ≡ length Ts
  params_count Ts Left vs ws i k le ge l many left (others, is, omitted) =
      let all = ap length is in
      let more = omitted_count Left others omitted in
      let both = length-append vs others in
      omega (arith, le, ge, l, many, all, both, more, ap length left, length-drop k Ts)

  -- ---- refusals

  -- what refuses the items that are left refuses the items, where those before them have values
  behind : (Ts : List TypeTree) (ts : List SpannedTree) (vs : List V) (i : ℕ) (whole : NodeTree) (e : Diagnostic) → i ≤ length Ts → i ≤ length ts → AreRead tree of (take i Ts) (take i ts) vs → RefusesInTurn Full (drop i Ts) (drop i ts) whole e → RefusesInTurn Full Ts ts whole e
  behind Ts ts vs zero whole e l m before left = left
  behind [] ts vs (suc i) whole e l m before left = absurd (omega (arith, l))
  behind (T ∷ Ts) [] vs (suc i) whole e l m before left = absurd (omega (arith, m))
  behind (T ∷ Ts) (t ∷ ts) [] (suc i) whole e l m before left = absurd before
  behind (T ∷ Ts) (t ∷ ts) (v ∷ vs) (suc i) whole e l m before left =
      inr (λ distinct. (tree v, (before.0 distinct).reads), behind Ts ts vs i whole e (omega (arith, l)) (omega (arith, m)) before.1 left)

  -- so where these are what is left
  behind_at : (Ts Us : List TypeTree) (ts us : List SpannedTree) (vs : List V) (i : ℕ) (whole : NodeTree) (e : Diagnostic) → drop i Ts ≡ Us → drop i ts ≡ us → i ≤ length Ts → i ≤ length ts → AreRead tree of (take i Ts) (take i ts) vs → RefusesInTurn Full Us us whole e → RefusesItems Full Ts ts whole e
  behind_at Ts Us ts us vs i whole e types items l m before refuses =
      inr (behind Ts ts vs i whole e l m before
      (subst (λ (z : List TypeTree). RefusesInTurn Full z (drop i ts) whole e) (sym types) (subst (λ (z : List SpannedTree). RefusesInTurn Full Us z whole e) (sym items) refuses)))

  -- an item that is too many
  pub too_many_refused : (source : List ℕ) (Ts : List TypeTree) (ns : List NodeTree) (ts : List SpannedTree) (vs : List V) (i : ℕ) (n whole : NodeTree) (e : Diagnostic) → AreNodesOf source ns ts → i < length ns → n ≡ get_or ns i n → i ≤ length Ts → length Ts ≤ i → AreRead tree of (take i Ts) (take i ts) vs →
      Says e because.InvalidParams (place_of n) (Some too_many_params) → RefusesItems Full Ts ts whole e
  too_many_refused source Ts ns ts vs i n whole e nodes lt at_i l m before says =
      let (u, here, means) = node_at source ns ts i n nodes lt at_i in
      let fits : i ≤ length ts = omega (arith, lt, as_many source ns ts nodes) in
      let place = (inside source n u means.0).place in
      behind_at Ts [] ts (u ∷ drop (suc i) ts) vs i whole e (drop_end Ts i m) (has_drop ts i u here) l fits before (subst (λ (p : Range ℕ). Says e because.InvalidParams p (Some too_many_params)) (sym place) says)

  -- a refusal of an item
  pub item_refused : (source : List ℕ) (Ts : List TypeTree) (ns : List NodeTree) (ts : List SpannedTree) (vs : List V) (i : ℕ) (n : NodeTree) (T : TypeTree) (whole : NodeTree) (e : Diagnostic) → AreNodesOf source ns ts → i < length ns → n ≡ get_or ns i n → i < length Ts → HasAt Ts i T → AreRead tree of (take i Ts) (take i ts) vs →
      ((u : SpannedTree) → IsNodeOf source n u → HasDistinctNames T → IsTypeError Full by_type T u e) → StandsIn n e → HasTypeKind e → RefusesItems Full Ts ts whole e
  item_refused source Ts ns ts vs i n T whole e nodes lt at_i l typed before blamed within kind =
      let (u, here, means) = node_at source ns ts i n nodes lt at_i in
      let fits : i ≤ length ts = omega (arith, lt, as_many source ns ts nodes) in
      let lies = subst (λ (p : Range ℕ). LiesIn e.span p.start p.end) (sym (inside source n u means.0).place) (within.lies.0, within.lies.2) in
      behind_at Ts (T ∷ drop (suc i) Ts) ts (u ∷ drop (suc i) ts) vs i whole e (has_drop Ts i T typed) (has_drop ts i u here) (omega (arith, l)) fits before (inl (record { kind = kind; lies = lies; blames = blamed u means }))

  -- what refuses the types that are left
  left_refused : (source : List ℕ) (Ts Left : List TypeTree) (ns : List NodeTree) (ts : List SpannedTree) (vs : List V) (i : ℕ) (whole : NodeTree) (e : Diagnostic) → AreNodesOf source ns ts → i ≤ length ns → length ns ≤ i → i ≤ length Ts → AreRead tree of (take i Ts) (take i ts) vs → Left ≡ drop (length ns) Ts → RefusesInTurn Full Left [] whole e →
      RefusesItems Full Ts ts whole e
  left_refused source Ts Left ns ts vs i whole e nodes le ge l before left refuses =
      let many = as_many source ns ts nodes in
      let same : length ns ≡ i = omega (arith, le, ge) in
      behind_at Ts Left ts [] vs i whole e (sym (left ∙ ap (λ (k : ℕ). drop k Ts) same)) (drop_end ts i (omega (arith, ge, many))) l (omega (arith, le, many)) before refuses

  -- a type that is left and is no option
  pub missing_refused : (source : List ℕ) (Ts Left : List TypeTree) (ns : List NodeTree) (ts : List SpannedTree) (vs : List V) (i : ℕ) (whole : NodeTree) (e : Diagnostic) → AreNodesOf source ns ts → i ≤ length ns → length ns ≤ i → i ≤ length Ts → AreRead tree of (take i Ts) (take i ts) vs → Left ≡ drop (length ns) Ts → SomeOf IsNoOption Left →
      Says e because.InvalidParams (close_of whole) (Some too_few_params) → RefusesItems Full Ts ts whole e
  missing_refused source Ts Left ns ts vs i whole e nodes le ge l before left some says = left_refused source Ts Left ns ts vs i whole e nodes le ge l before left (inl (some, says))

  -- a refusal to make one that is left
  pub omitted_refused : (source : List ℕ) (Ts Left : List TypeTree) (ns : List NodeTree) (ts : List SpannedTree) (vs : List V) (i : ℕ) (whole : NodeTree) (e : Diagnostic) → AreNodesOf source ns ts → i ≤ length ns → length ns ≤ i → i ≤ length Ts → AreRead tree of (take i Ts) (take i ts) vs → Left ≡ drop (length ns) Ts →
      RefusesOmitted Full Left (place_of whole) e → RefusesItems Full Ts ts whole e
  omitted_refused source Ts Left ns ts vs i whole e nodes le ge l before left (inl memory) = inl memory
  omitted_refused source Ts Left ns ts vs i whole e nodes le ge l before left (inr refuses) = left_refused source Ts Left ns ts vs i whole e nodes le ge l before left (inr refuses)

  -- ---- where the names of all types are distinct

  -- the values that are omitted
  pub omitted_values : (Ts : List TypeTree) (vs : List V) → AllOf HasDistinctNames Ts → AreOmitted tree of Ts vs → Omitted Ts (map tree vs)
  omitted_values [] [] distinct h = refl
  omitted_values [] (v ∷ vs) distinct h = absurd h
  omitted_values (T ∷ Ts) [] distinct h = absurd h
  omitted_values (T ∷ Ts) (v ∷ vs) distinct h = (map tree vs, h.0, omitted_values Ts vs distinct.1 h.2, ap (λ (w : Value). w ∷ map tree vs) (h.1 distinct.0).means)

  -- the values of the items
  pub item_values : (Ts : List TypeTree) (ts : List SpannedTree) (vs : List V) → AllOf HasDistinctNames Ts → AreRead tree of Ts ts vs → TreeParams Ts (map tree_of ts) (map tree vs)
  item_values Ts [] vs distinct h = omitted_values Ts vs distinct h
  item_values [] (t ∷ ts) vs distinct h = absurd h
  item_values (T ∷ Ts) (t ∷ ts) [] distinct h = absurd h
  item_values (T ∷ Ts) (t ∷ ts) (v ∷ vs) distinct h = (tree v, map tree vs, (h.0 distinct.0).reads, item_values Ts ts vs distinct.1 h.1, refl)

pub no_omitted : (Ts : List TypeTree) (vs : List Value) → SomeOf IsNoOption Ts → Omitted Ts vs → ⊥
no_omitted [] vs h k = h
no_omitted (T ∷ Ts) vs (inl apart) (others, is, rest, e) = apart is
no_omitted (T ∷ Ts) vs (inr more) (others, is, rest, e) = no_omitted Ts others more rest

-- where there is a fault there are no values
pub fault_none : (Ts : List TypeTree) (ts : List SpannedTree) (close : Range ℕ) (e : Diagnostic) → ParamsFault Ts ts close e → (vs : List Value) → TreeParams Ts (map tree_of ts) vs → ⊥
fault_none Ts [] close e h vs k = no_omitted Ts vs h.0 k
fault_none [] (t ∷ ts) close e h vs k = k
fault_none (T ∷ Ts) (t ∷ ts) close e (inl h) vs (v, others, reads, rest, is) = h.1 v reads
fault_none (T ∷ Ts) (t ∷ ts) close e (inr (w, reads, h)) vs (v, others, k, rest, is) = fault_none Ts ts close e h others rest

-- a refusal at full types, for which there was memory, is a fault of the items
pub items_fault : (Full : TypeTree → Type 0) (Ts : List TypeTree) (ts : List SpannedTree) (whole : NodeTree) (e : Diagnostic) → AllOf HasDistinctNames Ts → AllOf Full Ts → e.kind ≢ because.OutOfMemory → RefusesInTurn Full Ts ts whole e → ParamsFault Ts ts (close_of whole) e
items_fault Full Ts [] whole e distinct full other (inl h) = h
items_fault Full Ts [] whole e distinct full other (inr h) = absurd (h.3 full)
items_fault Full [] (t ∷ ts) whole e distinct full other h = h
items_fault Full (T ∷ Ts) (t ∷ ts) whole e distinct full other (inl h) = by (h.blames distinct.0) where
  by : IsTypeError Full by_type T t e → ParamsFault (T ∷ Ts) (t ∷ ts) (close_of whole) e
  by (inl memory) = absurd (other memory)
  by (inr (inl fault)) = inl fault
  by (inr (inr apart)) = absurd (apart.1 full.0)
items_fault Full (T ∷ Ts) (t ∷ ts) whole e distinct full other (inr h) =
    let (v, reads) = h.0 distinct.0 in
    inr (v, reads, items_fault Full Ts ts whole e distinct.1 full.1 other h.1)
