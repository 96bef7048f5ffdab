-- A value of a type has a canonical text, and is refused for lack of memory alone.
use Rattle.std.proofs.Common.{◌≡◌, ℕ, Bool, true, false, List, [], ◌∷◌, refl, sym, subst, ◌∙◌, inl, inr, arith}
use Rattle.std.specs.Prelude.{◌&&◌, not, if◌then◌else◌, IfErr, Result, Ok, Err}
use Rattle.std.proofs.lemmas.Bool.{false≢true}
use Rattle.wave_wasm.specs.Lists.{AllOf}
use Rattle.wave_wasm.specs.Types as type
use Rattle.wave_wasm.specs.Types.{TypeTree, MaybeType, Types, Fields, Cases, no_type, a_type, no_types, type_and, no_cases, case_of}
use Rattle.wave_wasm.specs.Values.{Value, Leaf, MaybeValue, FieldValues, values, entries}
use Rattle.wave_wasm.specs.HasType.{IsLeafOf, HasType, HasPayload, HasTypes, HasFields, HasCase}
use Rattle.wave_wasm.specs.Text.{has_text, is_writable, is_writable_maybe, are_writable, are_writable_fields, are_writable_entries}
use Rattle.wave_wasm.specs.Merge.{merged, merged_maybe, merged_values, merged_fields, merged_entries, merge, last_value, without, leaf_eq}
use Rattle.wave_writer.specs.WriterState.{IsGrounded, IsOutOfMemory, IsForMemory}
use Rattle.wave_writer.specs.declared.writer.WriterError.{WriterError}
use Rattle.wave_writer.specs.declared.writer.WriterError.TheVariants as refusal

-- a refusal by a writer that counts no failure, of a value that has a text, is out of memory
pub only_memory : (e : WriterError) (writable : Bool) → writable ≡ true → IsGrounded e writable 0 0 → IsOutOfMemory e
only_memory (refusal.Io e) writable has (inl h) = absurd (omega (arith, h))
only_memory (refusal.Io e) writable has (inr h) = absurd (omega (arith, h))
only_memory refusal.UnsupportedType writable has h = absurd (false≢true (sym h ∙ has))
only_memory (refusal.Memory e) writable has h = tt

-- ---- a value of a type has a canonical text

both : {a b : Bool} → a ≡ true → b ≡ true → (a && b) ≡ true
both p q = λ i. p i && q i

-- the value has a text
abbrev Writes : Value → Type 0
Writes v = is_writable (merged v) ≡ true

-- the value of each entry has one
abbrev EntryWrites : Leaf × Value → Type 0
EntryWrites e = is_writable e.1 ≡ true

pick : (b : Bool) (v w : Value) → is_writable v ≡ true → is_writable w ≡ true → is_writable (if b then v else w) ≡ true
pick true v w h k = h
pick false v w h k = k

last_writes : (key : Leaf) (v : Value) (es : List (Leaf × Value)) → is_writable v ≡ true → AllOf EntryWrites es → is_writable (last_value leaf_eq key v es) ≡ true
last_writes key v [] h all = h
last_writes key v (e ∷ es) h all = last_writes key (if leaf_eq key e.0 then e.1 else v) es (pick (leaf_eq key e.0) e.1 v all.0 h) all.1

keep : (b : Bool) (e : Leaf × Value) (es : List (Leaf × Value)) → EntryWrites e → AllOf EntryWrites es → AllOf EntryWrites (if b then e ∷ es else es)
keep true e es h all = (h, all)
keep false e es h all = all

others_write : (key : Leaf) (es : List (Leaf × Value)) → AllOf EntryWrites es → AllOf EntryWrites (without leaf_eq key es)
others_write key [] all = tt
others_write key (e ∷ es) all = keep (not (leaf_eq key e.0)) e (without leaf_eq key es) all.0 (others_write key es all.1)

merge_writes : (es : List (Leaf × Value)) → AllOf EntryWrites es → AllOf EntryWrites (merge leaf_eq es)
merge_writes [] all = tt
merge_writes (e ∷ es) all = (last_writes e.0 e.1 es all.0 all.1, others_write e.0 (merge leaf_eq es) (merge_writes es all.1))

entries_write : (es : List (Leaf × Value)) → AllOf EntryWrites es → are_writable_entries (entries es) ≡ true
entries_write [] all = refl
entries_write (e ∷ es) all = both all.0 (entries_write es all.1)

items_write : (P : Value → Type 0) → ((w : Value) → P w → Writes w) → (vs : List Value) → AllOf P vs → are_writable (merged_values (values vs)) ≡ true
items_write P each [] h = refl
items_write P each (v ∷ vs) h = both (each v h.0) (items_write P each vs h.1)

pairs_write : (K : type.Simple) (P : Value → Type 0) → ((w : Value) → P w → Writes w) → (es : List (Leaf × Value)) → AllOf (λ e. IsLeafOf K e.0 × P e.1) es → AllOf EntryWrites (merged_entries (entries es))
pairs_write K P each [] h = tt
pairs_write K P each (e ∷ es) h = (each e.1 h.0.1, pairs_write K P each es h.1)

mutual
  -- a value of a type has a text
  pub writes : (T : TypeTree) (v : Value) → HasType T v → is_writable (merged v) ≡ true
  writes (type.simple S) v (one, h, e) = subst Writes (sym e) refl
  writes (type.unreadable kind) v h = absurd h
  writes (type.list E) v (vs, h, e) = subst Writes (sym e) (items_write (HasType E) (writes E) vs h)
  writes (type.fixed E n) v (vs, h, counted, e) = subst Writes (sym e) (items_write (HasType E) (writes E) vs h)
  writes (type.record_type fs) v (all, h, e) = subst Writes (sym e) (fields_write fs all h)
  writes (type.tuple Ts) v (vs, h, e) = subst Writes (sym e) (types_write Ts vs h)
  writes (type.variant cs) v (name, payload, h, e) = subst Writes (sym e) (case_writes cs name payload h)
  writes (type.enum names) v (name, h, e) = subst Writes (sym e) refl
  writes (type.option P) v (inl e) = subst Writes (sym e) refl
  writes (type.option P) v (inr (w, h, e)) = subst Writes (sym e) (writes P w h)
  writes (type.result A B) v (inl (payload, h, e)) = subst Writes (sym e) (payload_writes A payload h)
  writes (type.result A B) v (inr (payload, h, e)) = subst Writes (sym e) (payload_writes B payload h)
  writes (type.flags names) v (picked, h, e) = subst Writes (sym e) refl
  writes (type.map K V) v (es, h, e) = subst Writes (sym e) (entries_write _ (merge_writes _ (pairs_write K (HasType V) (writes V) es h)))

  payload_writes : (T : MaybeType) (payload : MaybeValue) → HasPayload T payload → is_writable_maybe (merged_maybe payload) ≡ true
  payload_writes no_type payload h = subst (λ p. is_writable_maybe (merged_maybe p) ≡ true) (sym h) refl
  payload_writes (a_type T) payload (w, h, e) = subst (λ p. is_writable_maybe (merged_maybe p) ≡ true) (sym e) (writes T w h)

  types_write : (Ts : Types) (vs : List Value) → HasTypes Ts vs → are_writable (merged_values (values vs)) ≡ true
  types_write no_types vs h = subst (λ z. are_writable (merged_values (values z)) ≡ true) (sym h) refl
  types_write (type_and T more) vs (w, others, h, hs, e) = subst (λ z. are_writable (merged_values (values z)) ≡ true) (sym e) (both (writes T w h) (types_write more others hs))

  fields_write : (fs : Fields) (all : FieldValues) → HasFields fs all → are_writable_fields (merged_fields all) ≡ true
  fields_write type.no_fields all h = subst (λ z. are_writable_fields (merged_fields z) ≡ true) (sym h) refl
  fields_write (type.field name T more) all (w, others, h, hs, e) = subst (λ z. are_writable_fields (merged_fields z) ≡ true) (sym e) (both (writes T w h) (fields_write more others hs))

  case_writes : (cs : Cases) (name : List ℕ) (payload : MaybeValue) → HasCase cs name payload → is_writable_maybe (merged_maybe payload) ≡ true
  case_writes no_cases name payload h = absurd h
  case_writes (case_of other T more) name payload (inl h) = payload_writes T payload h.1
  case_writes (case_of other T more) name payload (inr h) = case_writes more name payload h

-- a refusal to write a value of a type is out of memory
pub refused_so : {S : Type 0} (v : Value) (r : Result S WriterError) → IfErr r (λ e. IsGrounded e (has_text v) 0 0) → IfErr r (IsForMemory v)
refused_so v (Ok s) h = tt
refused_so v (Err e) h = λ T of. only_memory e (has_text v) (writes T v of) h
