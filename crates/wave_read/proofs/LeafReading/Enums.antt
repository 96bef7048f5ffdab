-- Enums of one token.
use Rattle.std.proofs.Common.{ℕ, ◌≡◌, ◌≢◌, inl, inr, Bool, true, false, List, Ok, Err, refl, sym, ◌∙◌, subst}
use Rattle.wave_grammar.specs.FaultOrder.{Order, FirstFault}
use Rattle.wave_wasm.specs.HasType.{HasType}
use Rattle.wave_wasm.specs.Names.{is_one_of, IsOneOf}
use Rattle.wave_wasm.specs.Types.{TypeTree, enum_names, kind_of}
use Rattle.wave_wasm.specs.Types as type
use Rattle.wave_wasm.specs.Values as value
use Rattle.wave_wasm.specs.Values.{Value}
use Rattle.wave_wasm.specs.ValueErrors.{unknown_case}
use Rattle.wave_wasm.specs.ConstructorContracts.{MakesEnum, FullEnum}
use Rattle.wave_wasm.specs.declared.wasm.WasmTypeKind.TheVariants as kinds
use Rattle.wave_wasm.specs.declared.wasm.WasmValueError.{WasmValueError}
use Rattle.wave_wasm.proofs.Names.NameTests.{is_one, none_of}
use Rattle.wave_wasm.proofs.TypesOfValues.TypeOfKind.{formed_as}
use Rattle.wave_lex.specs.Errors.{Diagnostic, refusal_of}
use Rattle.wave_lex.specs.declared.error.ParserErrorKind.TheVariants.{InvalidType}
use Rattle.wave_grammar.specs.LeafTokens.{name_of}
use Rattle.wave_grammar.specs.NodeTree.{NodeTree, type_of, place_of}
use Rattle.wave_grammar.specs.NodeAccessors.{RefusedAs, node_text}
use Rattle.wave_grammar.specs.PartReading.{IsCaused}
use Rattle.wave_grammar.specs.declared.form.NodeType.TheVariants as kind
use Rattle.wave_grammar.proofs.ByKind.Leaves.{said}
use Rattle.wave_grammar.proofs.ByKind.Enums.{enum_is, enum_fault, unknown_blame, enum_built}
use Rattle.wave_grammar.proofs.ErrorSpans.Nodes.{at_in, form_at, caused_at, built_in}
use Rattle.wave_leaf.specs.Reading.{IsReadAs}
use Rattle.wave_leaf.specs.Errors.{IsRefusedBy}
use Rattle.wave_leaf.proofs.ReadErrors.HandedOn.{built_anew}

module _ {V : Type 0} (tree : V → Value) (of : V → TypeTree → Type 0) (Full : TypeTree → Type 0) (o w : Order) where
  -- a node of another form than an enum's
  pub enum_other_form : (T : TypeTree) (source : List ℕ) (n : NodeTree) (e : Diagnostic) → kind_of T ≡ kinds.Enum → type_of n ≢ kind.Label → RefusedAs InvalidType n e → IsReadAs tree of Full o w T source n (Err e)
  enum_other_form T source n e is apart refused =
      let names = formed_as kinds.Enum T (sym is) in
      record {
        answer = λ t node distinct. inr (inl (subst (λ (U : TypeTree). FirstFault o w U t (refusal_of e) e.span) (sym names.1) (enum_fault o w names.0 source n t (refusal_of e) e.span node.0 apart (said refused))));
        within = λ v. at_in source n e (inl v) (form_at n e refused);
        typed = tt;
      }

  -- a label that is no case
  pub unknown_read : (T : TypeTree) (source : List ℕ) (n : NodeTree) (name : List ℕ) (is_case : Bool) (e : Diagnostic) → kind_of T ≡ kinds.Enum → type_of n ≡ kind.Label → name ≡ name_of (node_text source n) → is_case ≡ is_one_of (enum_names T) name → is_case ≡ false → IsCaused (unknown_case name) n e → e.span ≡ place_of n → IsReadAs tree of Full o w T source n (Err e)
  unknown_read T source n name is_case e is ty named tested absent caused place =
      record {
        answer = λ t node distinct. unknown_blame tree of Full o w T (enum_names T) source n t name e (enum_is T (sym is) (enum_names T) refl) node.0 ty named (none_of (enum_names T) name (sym tested ∙ absent)) caused;
        within = λ v. at_in source n e (inl v) (caused_at (unknown_case name) n e caused place);
        typed = tt;
      }

  same_name : (a b : List ℕ) → value.enum a ≡ value.enum b → a ≡ b
  same_name a b e = cc

  one_of : (T : TypeTree) (names : List (List ℕ)) (name : List ℕ) → T ≡ type.enum names → HasType T (value.enum name) → IsOneOf names name
  one_of T names name is fits =
      let (other, one, same) = subst (λ (U : TypeTree). HasType U (value.enum name)) is fits in
      subst (IsOneOf names) (sym (same_name name other same)) one

  -- a case that was made is one of the type's
  pub case_built : (T : TypeTree) (source : List ℕ) (n : NodeTree) (name : List ℕ) (v : V) → kind_of T ≡ kinds.Enum → type_of n ≡ kind.Label → name ≡ name_of (node_text source n) → MakesEnum tree of T name v → IsReadAs tree of Full o w T source n (Ok v)
  case_built T source n name v is ty named makes =
      let enum = enum_is T (sym is) (enum_names T) refl in
      record {
        answer = λ t node distinct. enum_built tree of Full o w T (enum_names T) source n t name (Ok v) (Ok v) enum distinct node.0 ty named (one_of T (enum_names T) name enum (makes distinct).fits) makes tt refl;
        within = λ v. tt;
        typed = λ distinct. (makes distinct).is_of;
      }

  -- a case that is there, which its constructor refused
  pub case_refused : (T : TypeTree) (source : List ℕ) (n : NodeTree) (name : List ℕ) (is_case : Bool) (cause : WasmValueError) (e : Diagnostic) → kind_of T ≡ kinds.Enum → type_of n ≡ kind.Label → name ≡ name_of (node_text source n) → is_case ≡ is_one_of (enum_names T) name → is_case ≡ true → FullEnum of Full T name cause → IsRefusedBy cause e → e.span ≡ place_of n → IsReadAs tree of Full o w T source n (Err e)
  case_refused T source n name is_case cause e is ty named tested there full refused place =
      built_anew (MakesEnum tree of T name) (FullEnum of Full T name) n (Err cause) (Err e) (λ a f names is one. tt) tt full (refused, place) (λ m ok full done.
      record {
        answer = λ t node distinct. enum_built tree of Full o w T (enum_names T) source n t name m (Err e) (enum_is T (sym is) (enum_names T) refl) distinct node.0 ty named (is_one (enum_names T) name (sym tested ∙ there)) ok full done;
        within = λ v. built_in source n m (Err e) (inl v) done;
        typed = tt;
      })
