-- Bools, whole numbers and chars.
use Rattle.std.proofs.Common.{◌≡◌, ◌≢◌, ◌⊎◌, inl, inr, Option, Some, None, Result, subst}
use Rattle.wave_wasm.specs.Types as type
use Rattle.wave_wasm.specs.Types.{TypeTree, Whole, whole_kind, kind_of}
use Rattle.wave_wasm.specs.declared.wasm.WasmTypeKind.{WasmTypeKind}
use Rattle.wave_wasm.specs.declared.wasm.WasmTypeKind.TheVariants as kinds
use Rattle.wave_lex.specs.Errors.{Diagnostic}
use Rattle.wave_grammar.specs.NodeTree.{NodeTree, type_of}
use Rattle.wave_grammar.specs.declared.form.NodeType.{NodeType}
use Rattle.wave_grammar.specs.declared.form.NodeType.TheVariants as kind
use Rattle.wave_grammar.proofs.ByKind.Unreadable.{IsUnread}
use Rattle.wave_grammar.specs.NodeParts.{IsOneToken}
use Rattle.wave_leaf.specs.PlainReading.{IsPlain, SparesWhereExpected}

-- the kinds of whole types are read nowhere else
pub unread : (which : Whole) → IsUnread (whole_kind which)
unread type.s8 = record { bool = λ e. cc; char = λ e. cc; string = λ e. cc; list = λ e. cc; fixed = λ e. cc; tuple = λ e. cc; record_kind = λ e. cc; option = λ e. cc; result = λ e. cc; variant = λ e. cc; enum = λ e. cc; flags = λ e. cc; map = λ e. cc }
unread type.s16 = record { bool = λ e. cc; char = λ e. cc; string = λ e. cc; list = λ e. cc; fixed = λ e. cc; tuple = λ e. cc; record_kind = λ e. cc; option = λ e. cc; result = λ e. cc; variant = λ e. cc; enum = λ e. cc; flags = λ e. cc; map = λ e. cc }
unread type.s32 = record { bool = λ e. cc; char = λ e. cc; string = λ e. cc; list = λ e. cc; fixed = λ e. cc; tuple = λ e. cc; record_kind = λ e. cc; option = λ e. cc; result = λ e. cc; variant = λ e. cc; enum = λ e. cc; flags = λ e. cc; map = λ e. cc }
unread type.s64 = record { bool = λ e. cc; char = λ e. cc; string = λ e. cc; list = λ e. cc; fixed = λ e. cc; tuple = λ e. cc; record_kind = λ e. cc; option = λ e. cc; result = λ e. cc; variant = λ e. cc; enum = λ e. cc; flags = λ e. cc; map = λ e. cc }
unread type.u8 = record { bool = λ e. cc; char = λ e. cc; string = λ e. cc; list = λ e. cc; fixed = λ e. cc; tuple = λ e. cc; record_kind = λ e. cc; option = λ e. cc; result = λ e. cc; variant = λ e. cc; enum = λ e. cc; flags = λ e. cc; map = λ e. cc }
unread type.u16 = record { bool = λ e. cc; char = λ e. cc; string = λ e. cc; list = λ e. cc; fixed = λ e. cc; tuple = λ e. cc; record_kind = λ e. cc; option = λ e. cc; result = λ e. cc; variant = λ e. cc; enum = λ e. cc; flags = λ e. cc; map = λ e. cc }
unread type.u32 = record { bool = λ e. cc; char = λ e. cc; string = λ e. cc; list = λ e. cc; fixed = λ e. cc; tuple = λ e. cc; record_kind = λ e. cc; option = λ e. cc; result = λ e. cc; variant = λ e. cc; enum = λ e. cc; flags = λ e. cc; map = λ e. cc }
unread type.u64 = record { bool = λ e. cc; char = λ e. cc; string = λ e. cc; list = λ e. cc; fixed = λ e. cc; tuple = λ e. cc; record_kind = λ e. cc; option = λ e. cc; result = λ e. cc; variant = λ e. cc; enum = λ e. cc; flags = λ e. cc; map = λ e. cc }

-- the kinds of types whose values have parts
pub record HasNoParts (k : WasmTypeKind) : Type 0 where
  pub list : k ≢ kinds.List
  pub fixed : k ≢ kinds.FixedLengthList
  pub tuple : k ≢ kinds.Tuple
  pub record_kind : k ≢ kinds.Record
  pub option : k ≢ kinds.Option
  pub result : k ≢ kinds.Result
  pub variant : k ≢ kinds.Variant
  pub enum : k ≢ kinds.Enum
  pub flags : k ≢ kinds.Flags
  pub map : k ≢ kinds.Map

-- the kind of a plain type is none of them
pub plain_parts : (T : TypeTree) → IsPlain T → HasNoParts (kind_of T)
plain_parts (type.simple type.bool) plain = record { list = λ e. cc; fixed = λ e. cc; tuple = λ e. cc; record_kind = λ e. cc; option = λ e. cc; result = λ e. cc; variant = λ e. cc; enum = λ e. cc; flags = λ e. cc; map = λ e. cc }
plain_parts (type.simple (type.whole which)) plain = let u = unread which in record { list = u.list; fixed = u.fixed; tuple = u.tuple; record_kind = u.record_kind; option = u.option; result = u.result; variant = u.variant; enum = u.enum; flags = u.flags; map = u.map }
plain_parts (type.simple type.char) plain = record { list = λ e. cc; fixed = λ e. cc; tuple = λ e. cc; record_kind = λ e. cc; option = λ e. cc; result = λ e. cc; variant = λ e. cc; enum = λ e. cc; flags = λ e. cc; map = λ e. cc }
plain_parts _ plain = absurd plain

-- a node of another form than a tuple or a list
pub no_row_spares : {V : Type 0} (expected : Option TypeTree) (n : NodeTree) (r : Result V Diagnostic) → ((type_of n ≡ kind.Tuple) ⊎ (type_of n ≡ kind.List) → ⊥) → SparesWhereExpected expected n r
no_row_spares None n r other = tt
no_row_spares (Some T) n r other = λ plain row. absurd (other row)

-- one token is none
pub token_no_row : (ty : NodeType) → IsOneToken ty → (ty ≡ kind.Tuple) ⊎ (ty ≡ kind.List) → ⊥
token_no_row ty token (inl e) = subst IsOneToken e token
token_no_row ty token (inr e) = subst IsOneToken e token

-- nor are flags
pub flags_no_row : (kind.Flags ≡ kind.Tuple) ⊎ (kind.Flags ≡ kind.List) → ⊥
flags_no_row (inl e) = cc
flags_no_row (inr e) = cc
