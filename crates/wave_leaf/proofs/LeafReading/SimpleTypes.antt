-- What is read where a simple type is expected, or one that has no values.
use Rattle.std.proofs.Common.{ℕ, ◌≡◌, ◌≢◌, ◌⊎◌, inl, inr, Bool, true, false, List, Result, Err, refl, sym, ◌∙◌, subst}
use Rattle.std.specs.declared.ops.Range.{Range}
use Rattle.wave_wasm.specs.Types as type
use Rattle.wave_wasm.specs.Types.{TypeTree, Simple, Unreadable, Whole, whole_kind, simple_kind, unreadable_kind, kind_of}
use Rattle.wave_wasm.specs.TypeText.{kind_word}
use Rattle.wave_wasm.specs.Values as value
use Rattle.wave_wasm.specs.Values.{Value}
use Rattle.wave_wasm.specs.ValueErrors.{Cause, unsupported_type}
use Rattle.wave_wasm.specs.declared.wasm.WasmTypeKind.{WasmTypeKind}
use Rattle.wave_wasm.specs.declared.wasm.WasmTypeKind.TheVariants as kinds
use Rattle.wave_wasm.proofs.TypesOfValues.TypeOfKind.{simple_is}
use Rattle.wave_lex.specs.Errors.{Diagnostic, refusal_of}
use Rattle.wave_lex.specs.declared.error.ParserErrorKind.TheVariants as why
use Rattle.wave_grammar.specs.TypeErrors.{RefusesFor}
use Rattle.wave_grammar.specs.FaultOrder.{Order}
use Rattle.wave_grammar.specs.NodeTree.{NodeTree, type_of, place_of}
use Rattle.wave_grammar.specs.NodeAccessors.{RefusedAs, bool_type}
use Rattle.wave_grammar.specs.TypedReading.{Answers}
use Rattle.wave_grammar.specs.PartReading.{IsCaused, IsWholeRead, AnswersWhole}
use Rattle.wave_grammar.specs.declared.form.NodeType.{NodeType}
use Rattle.wave_grammar.specs.declared.form.NodeType.TheVariants as kind
use Rattle.wave_grammar.proofs.ByKind.Leaves.{said, bool_fault, number_fault}
use Rattle.wave_grammar.proofs.ByKind.TextLeaves.{char_blame, string_blame}
use Rattle.wave_grammar.proofs.ByKind.Wholes.{whole_answers, whole_at}
use Rattle.wave_grammar.proofs.ByKind.Unreadable.{IsUnread, unread_blame}
use Rattle.wave_grammar.proofs.ErrorSpans.Nodes.{at_in, all_in, form_at, caused_at}
use Rattle.wave_leaf.specs.Leaves.{IsSimpleOrUnreadable}
use Rattle.wave_grammar.specs.NodeParts.{IsOfParts}
use Rattle.wave_leaf.specs.PlainReading.{IsPlain}
use Rattle.wave_leaf.specs.Reading.{IsReadAs, IsOfType}
use Rattle.wave_leaf.proofs.ReadErrors.HandedOn.{leaf_of, none_of}
use Rattle.wave_leaf.proofs.LeafReading.PlainTypes.{unread}

-- ---- kinds without values

no_values : (u : Unreadable) → IsUnread (unreadable_kind u)
no_values type.f32 = record { bool = λ e. cc; char = λ e. cc; string = λ e. cc; list = λ e. cc; fixed = λ e. cc; tuple = λ e. cc; record_kind = λ e. cc; option = λ e. cc; result = λ e. cc; variant = λ e. cc; enum = λ e. cc; flags = λ e. cc; map = λ e. cc }
no_values type.f64 = record { bool = λ e. cc; char = λ e. cc; string = λ e. cc; list = λ e. cc; fixed = λ e. cc; tuple = λ e. cc; record_kind = λ e. cc; option = λ e. cc; result = λ e. cc; variant = λ e. cc; enum = λ e. cc; flags = λ e. cc; map = λ e. cc }
no_values type.unsupported = record { bool = λ e. cc; char = λ e. cc; string = λ e. cc; list = λ e. cc; fixed = λ e. cc; tuple = λ e. cc; record_kind = λ e. cc; option = λ e. cc; result = λ e. cc; variant = λ e. cc; enum = λ e. cc; flags = λ e. cc; map = λ e. cc }

-- a kind without values is that of no whole type
no_whole : (u : Unreadable) (which : Whole) → unreadable_kind u ≢ whole_kind which
no_whole u which e = by u (simple_is (type.whole which) (type.unreadable u) (sym e))
  where
    by : (v : Unreadable) → type.unreadable v ≡ type.simple (type.whole which) → ⊥
    by v f = cc

-- nor of a simple one
pub has_values : (S : Simple) (u : Unreadable) → simple_kind S ≢ unreadable_kind u
has_values S u e = by u (simple_is S (type.unreadable u) e)
  where
    by : (v : Unreadable) → type.unreadable v ≡ type.simple S → ⊥
    by v f = cc

-- nor of a plain type
pub plain_readable : (T : TypeTree) (u : Unreadable) → IsPlain T → kind_of T ≢ unreadable_kind u
plain_readable (type.simple S) u plain = has_values S u
plain_readable _ u plain = absurd plain

-- one of the kinds without values
pub unreadable_is : (k : WasmTypeKind) → (k ≡ kinds.F32) ⊎ (k ≡ kinds.F64) ⊎ (k ≡ kinds.Unsupported) → (u : Unreadable) × (k ≡ unreadable_kind u)
unreadable_is k (inl e) = (type.f32, e)
unreadable_is k (inr (inl e)) = (type.f64, e)
unreadable_is k (inr (inr e)) = (type.unsupported, e)

-- none of them
pub none_unreadable : (T : TypeTree) (k : WasmTypeKind) → k ≡ kind_of T → k ≢ kinds.F32 → k ≢ kinds.F64 → k ≢ kinds.Unsupported → (u : Unreadable) → kind_of T ≢ unreadable_kind u
none_unreadable T k is f32 f64 other type.f32 e = f32 (is ∙ e)
none_unreadable T k is f32 f64 other type.f64 e = f64 (is ∙ e)
none_unreadable T k is f32 f64 other type.unsupported e = other (is ∙ e)

-- ---- nodes that are no leaves

-- a refusal at a node that stands at the same place
pub caused_there : (c : Cause) (n m : NodeTree) (e : Diagnostic) → place_of n ≡ place_of m → IsCaused c m e → IsCaused c n e
caused_there c n m e same (inl memory) = inl memory
caused_there c n m e same (inr h) = inr (subst (λ (p : Range ℕ). RefusesFor c p (refusal_of e) e.span) (sym same) h)

-- such a node is of another type than a leaf
no_leaf : (ty leaf : NodeType) → (IsOfParts leaf → ⊥) → kind.Flags ≢ leaf → IsOfParts ty ⊎ (ty ≡ kind.Flags) → ty ≢ leaf
no_leaf ty leaf parts flags (inl h) e = parts (subst IsOfParts e h)
no_leaf ty leaf parts flags (inr is) e = flags (sym is ∙ e)

no_bool : (ty : NodeType) → IsOfParts ty ⊎ (ty ≡ kind.Flags) → (b : Bool) → ty ≢ bool_type b
no_bool ty h true = no_leaf ty kind.BoolTrue (λ p. p) (λ e. cc) h
no_bool ty h false = no_leaf ty kind.BoolFalse (λ p. p) (λ e. cc) h

module _ {V : Type 0} (tree : V → Value) (of : V → TypeTree → Type 0) (Full : TypeTree → Type 0) (o w : Order) where
  form_answers : (S : Simple) (source : List ℕ) (n : NodeTree) (e : Diagnostic) → IsOfParts (type_of n) ⊎ (type_of n ≡ kind.Flags) → RefusedAs why.InvalidType n e → Answers tree of Full o w (type.simple S) source n (Err e)
  form_answers type.bool source n e other refused = λ t is distinct. inr (inl (bool_fault o w source n t (refusal_of e) e.span is.0 (no_bool (type_of n) other) (said refused)))
  form_answers (type.whole which) source n e other refused = λ t is distinct. inr (inl (number_fault o w which source n t (refusal_of e) e.span is.0 (no_leaf (type_of n) kind.Number (λ p. p) (λ f. cc) other) (said refused)))
  form_answers type.char source n e other refused = λ t is distinct. inr (inl (char_blame o w source n t e is.0 (inl (no_leaf (type_of n) kind.Char (λ p. p) (λ f. cc) other, refused))))
  form_answers type.string source n e other refused = λ t is distinct.
      string_blame Full o w (type.simple type.string) source n t e refl is.0 (inl (no_leaf (type_of n) kind.String (λ p. p) (λ f. cc) other, no_leaf (type_of n) kind.MultilineString (λ p. p) (λ f. cc) other, refused))

  -- a node of parts or of flags is refused at a simple type
  pub other_form : (S : Simple) (source : List ℕ) (n : NodeTree) (e : Diagnostic) → IsOfParts (type_of n) ⊎ (type_of n ≡ kind.Flags) → RefusedAs why.InvalidType n e → IsReadAs tree of Full o w (type.simple S) source n (Err e)
  other_form S source n e other refused = record {
    answer = form_answers S source n e other refused;
    within = λ value. at_in source n e (inl value) (form_at n e refused);
    typed = tt;
  }

  -- any node is refused at a type that has no values
  pub unreadable_form : (u : Unreadable) (k : WasmTypeKind) (source : List ℕ) (n : NodeTree) (e : Diagnostic) → k ≡ unreadable_kind u → IsCaused (unsupported_type (kind_word k)) n e → e.span ≡ place_of n → IsReadAs tree of Full o w (type.unreadable u) source n (Err e)
  unreadable_form u k source n e is caused place = record {
    answer = λ t node distinct. unread_blame Full o w (type.unreadable u) source n t k e node.0 is (subst IsUnread (sym is) (no_values u)) (λ which same. no_whole u which (sym is ∙ same)) caused;
    within = λ value. at_in source n e (inl value) (caused_at (unsupported_type (kind_word k)) n e caused place);
    typed = tt;
  }

  -- so where it is known of the type that it is a simple one or has no values
  pub form_refused : (T : TypeTree) (source : List ℕ) (n : NodeTree) (e : Diagnostic) → ((u : Unreadable) → kind_of T ≢ unreadable_kind u) → IsSimpleOrUnreadable T → IsOfParts (type_of n) ⊎ (type_of n ≡ kind.Flags) → RefusedAs why.InvalidType n e → IsReadAs tree of Full o w T source n (Err e)
  form_refused (type.simple S) source n e values expected other refused = other_form S source n e other refused
  form_refused (type.unreadable u) source n e values expected other refused = absurd (values u refl)
  form_refused _ source n e values expected other refused = absurd expected

  pub type_refused : (T : TypeTree) (k : WasmTypeKind) (u : Unreadable) (source : List ℕ) (n : NodeTree) (e : Diagnostic) → k ≡ kind_of T → k ≡ unreadable_kind u → IsSimpleOrUnreadable T → IsCaused (unsupported_type (kind_word k)) n e → e.span ≡ place_of n → IsReadAs tree of Full o w T source n (Err e)
  type_refused (type.simple S) k u source n e is same expected caused place = absurd (has_values S u (sym is ∙ same))
  type_refused (type.unreadable v) k u source n e is same expected caused place = unreadable_form v k source n e is caused place
  type_refused _ k u source n e is same expected caused place = absurd expected

  -- ---- leaves

  -- what is read at the simple type of the kind
  pub read_at_kind : (S : Simple) (T : TypeTree) (source : List ℕ) (n : NodeTree) (r : Result V Diagnostic) → simple_kind S ≡ kind_of T → IsReadAs tree of Full o w (type.simple S) source n r → IsReadAs tree of Full o w T source n r
  read_at_kind S T source n r is h = subst (λ (U : TypeTree). IsReadAs tree of Full o w U source n r) (sym (simple_is S T is)) h

  -- at a type that is no whole one nothing is read as a whole number
  none_whole : (T : TypeTree) (k : WasmTypeKind) (source : List ℕ) (n : NodeTree) (r : Result V Diagnostic) → k ≡ kind_of T → ((which : Whole) → T ≢ type.simple (type.whole which)) → AnswersWhole tree of Full k source n r → IsOfType of T r
  none_whole T k source n r is apart h =
      none_of of T (λ e. IsCaused (unsupported_type (kind_word k)) n e × (e.span ≡ place_of n)) r (h.1 (λ which same. apart which (simple_is (type.whole which) T (sym same ∙ is))))

  -- what is read as a whole number is of the type
  pub whole_of : (T : TypeTree) (k : WasmTypeKind) (source : List ℕ) (n : NodeTree) (r : Result V Diagnostic) → k ≡ kind_of T → AnswersWhole tree of Full k source n r → IsOfType of T r
  whole_of (type.simple (type.whole which)) k source n r is h = by (h.0 which is)
    where
      by : IsWholeRead tree of Full which source n r → IsOfType of (type.simple (type.whole which)) r
      by (inl read) = leaf_of tree of Full (value.whole which read.0) n r read.2
      by (inr refused) = none_of of (type.simple (type.whole which)) (λ f. f ≡ refused.0) r refused.2
  whole_of (type.simple type.bool) k source n r is h = none_whole (type.simple type.bool) k source n r is (λ which e. cc) h
  whole_of (type.simple type.char) k source n r is h = none_whole (type.simple type.char) k source n r is (λ which e. cc) h
  whole_of (type.simple type.string) k source n r is h = none_whole (type.simple type.string) k source n r is (λ which e. cc) h
  whole_of (type.unreadable u) k source n r is h = none_whole (type.unreadable u) k source n r is (λ which e. cc) h
  whole_of (type.list E) k source n r is h = none_whole (type.list E) k source n r is (λ which e. cc) h
  whole_of (type.fixed E n') k source n r is h = none_whole (type.fixed E n') k source n r is (λ which e. cc) h
  whole_of (type.record_type fs) k source n r is h = none_whole (type.record_type fs) k source n r is (λ which e. cc) h
  whole_of (type.tuple Ts) k source n r is h = none_whole (type.tuple Ts) k source n r is (λ which e. cc) h
  whole_of (type.variant cs) k source n r is h = none_whole (type.variant cs) k source n r is (λ which e. cc) h
  whole_of (type.enum names) k source n r is h = none_whole (type.enum names) k source n r is (λ which e. cc) h
  whole_of (type.option P) k source n r is h = none_whole (type.option P) k source n r is (λ which e. cc) h
  whole_of (type.result A B) k source n r is h = none_whole (type.result A B) k source n r is (λ which e. cc) h
  whole_of (type.flags names) k source n r is h = none_whole (type.flags names) k source n r is (λ which e. cc) h
  whole_of (type.map K W) k source n r is h = none_whole (type.map K W) k source n r is (λ which e. cc) h

  -- what is read at another kind, which is that of a whole type or has no values
  pub whole_at_kind : (T : TypeTree) (k : WasmTypeKind) (source : List ℕ) (n : NodeTree) (r : Result V Diagnostic) → k ≡ kind_of T → k ≢ kinds.Bool → k ≢ kinds.Char → k ≢ kinds.String → IsSimpleOrUnreadable T → AnswersWhole tree of Full k source n r → IsReadAs tree of Full o w T source n r
  whole_at_kind T k source n r is bool char string expected h = record {
    answer = λ t node distinct. whole_answers tree of Full o w T k source n t r is node.0 (by T is expected) h;
    within = λ value. all_in source n r (inl value) (whole_at tree of Full k source n r h);
    typed = whole_of T k source n r is h;
  }
    where
      by : (U : TypeTree) → k ≡ kind_of U → IsSimpleOrUnreadable U → IsUnread k
      by (type.simple type.bool) e d = absurd (bool e)
      by (type.simple (type.whole which)) e d = subst IsUnread (sym e) (unread which)
      by (type.simple type.char) e d = absurd (char e)
      by (type.simple type.string) e d = absurd (string e)
      by (type.unreadable u) e d = subst IsUnread (sym e) (no_values u)
      by _ e d = absurd d
