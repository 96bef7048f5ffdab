-- The types that have no values.
use Rattle.std.proofs.Common.{ℕ, ◌≡◌, ◌≢◌, inl, inr, Some, List, sym, ◌∙◌, subst}
use Rattle.std.specs.declared.ops.Range.{Range}
use Rattle.wave_wasm.specs.Types as type
use Rattle.wave_wasm.specs.Types.{TypeTree, Whole, whole_kind, kind_of}
use Rattle.wave_wasm.specs.TypeText.{kind_word}
use Rattle.wave_wasm.specs.ValueErrors.{Cause, unsupported_type}
use Rattle.wave_lex.specs.Errors.{Diagnostic, Refusal, refusal_of}
use Rattle.wave_grammar.specs.SpannedTree.{SpannedTree, span_of}
use Rattle.wave_grammar.specs.NodeTree.{NodeTree}
use Rattle.wave_grammar.specs.Nodes.{placed_of}
use Rattle.wave_grammar.specs.TypeErrors.{RefusesFor}
use Rattle.wave_grammar.specs.FaultOrder.{Order, FirstFault}
use Rattle.wave_grammar.specs.TypedReading.{IsBlamed}
use Rattle.wave_grammar.specs.PartReading.{IsCaused}
use Rattle.wave_grammar.proofs.ChildNodes.Inside.{inside}
use Rattle.wave_wasm.specs.declared.wasm.WasmTypeKind.{WasmTypeKind}
use Rattle.wave_wasm.specs.declared.wasm.WasmTypeKind.TheVariants as kind

-- a refusal with a cause at the node, where its tree has that fault
pub caused_blame : (Full : TypeTree → Type 0) (o w : Order) (T : TypeTree) (source : List ℕ) (n : NodeTree) (t : SpannedTree) (cause : Cause) (e : Diagnostic) → placed_of source n ≡ Some t → IsCaused cause n e → (RefusesFor cause (span_of t) (refusal_of e) e.span → FirstFault o w T t (refusal_of e) e.span) → IsBlamed Full o w T t e
caused_blame Full o w T source n t cause e is (inl memory) fault = inl memory
caused_blame Full o w T source n t cause e is (inr refused) fault = inr (inl (fault (refused.0, refused.1 ∙ sym (inside source n t is).place)))

-- none of the kinds that are read, but for those of whole types
pub record IsUnread (k : WasmTypeKind) : Type 0 where
  pub bool : k ≢ kind.Bool
  pub char : k ≢ kind.Char
  pub string : k ≢ kind.String
  pub list : k ≢ kind.List
  pub fixed : k ≢ kind.FixedLengthList
  pub tuple : k ≢ kind.Tuple
  pub record_kind : k ≢ kind.Record
  pub option : k ≢ kind.Option
  pub result : k ≢ kind.Result
  pub variant : k ≢ kind.Variant
  pub enum : k ≢ kind.Enum
  pub flags : k ≢ kind.Flags
  pub map : k ≢ kind.Map

-- a type without values is refused with the word of its kind
unread_fault : (o w : Order) (T : TypeTree) (t : SpannedTree) (k : WasmTypeKind) (r : Refusal) (q : Range ℕ) → k ≡ kind_of T → IsUnread k → ((which : Whole) → k ≢ whole_kind which) → RefusesFor (unsupported_type (kind_word k)) (span_of t) r q → FirstFault o w T t r q
unread_fault o w (type.simple type.bool) t k r q e unread none refused = absurd (unread.bool e)
unread_fault o w (type.simple (type.whole which)) t k r q e unread none refused = absurd (none which e)
unread_fault o w (type.simple type.char) t k r q e unread none refused = absurd (unread.char e)
unread_fault o w (type.simple type.string) t k r q e unread none refused = absurd (unread.string e)
unread_fault o w (type.unreadable u) t k r q e unread none refused = subst (λ (w : WasmTypeKind). RefusesFor (unsupported_type (kind_word w)) (span_of t) r q) e refused
unread_fault o w (type.fixed E n) t k r q e unread none refused = absurd (unread.fixed e)
unread_fault o w (type.list E) t k r q e unread none refused = absurd (unread.list e)
unread_fault o w (type.record_type fs) t k r q e unread none refused = absurd (unread.record_kind e)
unread_fault o w (type.tuple Ts) t k r q e unread none refused = absurd (unread.tuple e)
unread_fault o w (type.option P) t k r q e unread none refused = absurd (unread.option e)
unread_fault o w (type.result A B) t k r q e unread none refused = absurd (unread.result e)
unread_fault o w (type.variant cases) t k r q e unread none refused = absurd (unread.variant e)
unread_fault o w (type.enum names) t k r q e unread none refused = absurd (unread.enum e)
unread_fault o w (type.flags names) t k r q e unread none refused = absurd (unread.flags e)
unread_fault o w (type.map K V) t k r q e unread none refused = absurd (unread.map e)

-- so a refusal for lack of values is a fault
pub unread_blame : (Full : TypeTree → Type 0) (o w : Order) (T : TypeTree) (source : List ℕ) (n : NodeTree) (t : SpannedTree) (k : WasmTypeKind) (e : Diagnostic) → placed_of source n ≡ Some t → k ≡ kind_of T → IsUnread k → ((which : Whole) → k ≢ whole_kind which) → IsCaused (unsupported_type (kind_word k)) n e → IsBlamed Full o w T t e
unread_blame Full o w T source n t k e is same unread none caused =
    caused_blame Full o w T source n t (unsupported_type (kind_word k)) e is caused (unread_fault o w T t k (refusal_of e) e.span same unread none)
