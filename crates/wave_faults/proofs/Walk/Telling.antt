-- What one call of the walk tells, form by form.
use Rattle.std.proofs.Common.{ℕ, zero, suc, min, ◌≡◌, ◌≢◌, ◌⊎◌, inl, inr, ◌≤◌, ◌<◌, ◌++◌, Bool, true, false, List, [], ◌∷◌, Option, Some, None, Bor, Ok, Err, sym, ap, ◌∙◌, subst, arith}
use Rattle.std.specs.List.{find}
use Rattle.std.specs.Str.{bytes_eq}
use Rattle.std.specs.BTreeMap.{BTreeMap}
use Rattle.std.specs.declared.ops.Range.{Range}
use Rattle.wave_wasm.specs.Lists.{AllOf}
use Rattle.wave_wasm.specs.Borrowed.{denoted}
use Rattle.wave_wasm.specs.Types as type
use Rattle.wave_wasm.specs.Types.{TypeTree, MaybeType, Fields, Cases, Simple, Unreadable, maybe_type, field_list, fields_of, variant_parts, kind_of, simple_kind, unreadable_kind, depth, depth_of_maybe}
use Rattle.wave_wasm.specs.TypeText.{kind_word}
use Rattle.wave_wasm.specs.ValueErrors.{Cause, unknown_case, unsupported_type}
use Rattle.wave_wasm.specs.declared.wasm.WasmTypeKind.{WasmTypeKind}
use Rattle.wave_lex.specs.Errors.{Diagnostic, refusal_of, refused_by, plainly}
use Rattle.wave_lex.specs.declared.error.ParserErrorKind.TheVariants.{InvalidType, InvalidValue}
use Rattle.wave_grammar.specs.SpannedTree.{SpannedTree, MaybePlaced, PlacedEntry, entry_list, slice, span_of, shape_of}
use Rattle.wave_grammar.specs.TypedGrammar.{IsFlat, look_up}
use Rattle.wave_grammar.specs.TypeErrors.{RefusesFor, IsRefusalOf, MapKeyFault, record_in, map_in}
use Rattle.wave_grammar.specs.NodeTree.{NodeTree, type_of, place_of}
use Rattle.wave_grammar.specs.Nodes.{placed_of, IsNodeOf, IsTokenOf}
use Rattle.wave_grammar.specs.NodeAccessors.{RefusedAs, denoted_node, GivesVariant, GivesOption, IsEntryOf}
use Rattle.wave_grammar.specs.NodeFields.{held_at}
use Rattle.wave_grammar.specs.PartReading.{IsPayloadNodeOf}
use Rattle.wave_grammar.specs.TypedReading.{IsValueOf}
use Rattle.wave_grammar.proofs.ChildNodes.Inside.{inside}
use Rattle.wave_grammar.proofs.ChildNodes.Entries.{map_nodes, map_given, no_map}
use Rattle.wave_grammar.proofs.Fields.Entries.{not_record}
use Rattle.wave_grammar.specs.declared.form.NodeType.TheVariants as kind
use Rattle.wave_faults.specs.AllFaults.{OfLeaf, AreFaults, AreFaultsOfPayload, EachLeftOut}
use Rattle.wave_faults.specs.Private.Told.{Adds, AddsFaults, AddsCause}
use Rattle.wave_faults.specs.Private.LeafAnswers.{AnswersLeaf, errors_in}
use Rattle.wave_faults.specs.Private.RecordFaults.{LooksUp, HasNames, names_behind, KeyTold, EntriesTold}
use Rattle.wave_faults.proofs.Walk.Adding.{adds_so, adds_then}
use Rattle.wave_faults.proofs.Walk.Forms.{other_form, this_form, refused_at}
use Rattle.wave_faults.proofs.Walk.Types.{unread_type, case_depth}
use Rattle.wave_faults.proofs.Walk.Leaves.{leaf_told}
use Rattle.wave_faults.proofs.Walk.Cases.{case_given, variant_told, case_found, case_missing}
use Rattle.wave_faults.proofs.Walk.Payloads.{option_flat}
use Rattle.wave_faults.proofs.Walk.Records.{PairsLeft, pairs_next, pairs_end, parts_back, EntriesLeft, next_of, step_nameless, step_found, step_unknown, step_again}

-- ---- types without parts

-- a type of a kind without values
pub unread_told : (T : TypeTree) (u : Unreadable) (k : WasmTypeKind) (source : List ℕ) (n : NodeTree) (t : SpannedTree) (cause : Cause) (old new : List Diagnostic) → k ≡ kind_of T → k ≡ unreadable_kind u → cause ≡ unsupported_type (kind_word k) → placed_of source n ≡ Some t → AddsCause cause (place_of n) old new → Adds (AreFaults T t) old new
unread_told T u k source n t cause old new is this cause_is placed a =
    let refused : RefusesFor (unsupported_type (kind_word (unreadable_kind u))) (span_of t) (refusal_of a.error) a.error.span =
    (a.blamed.0 ∙ ap refused_by (cause_is ∙ ap (λ (w : WasmTypeKind). unsupported_type (kind_word w)) this), a.blamed.1 ∙ sym (inside source n t placed).place) in
    subst (λ (U : TypeTree). Adds (AreFaults U t) old new) (sym (unread_type T u (sym this ∙ is))) (record { added = a.error ∷ []; is = a.is; these = refused })

-- what is answered at a simple type
pub leaf_faults : (T : TypeTree) (S : Simple) (k : WasmTypeKind) (source : List ℕ) (n : NodeTree) (t : SpannedTree) (o : Option Diagnostic) → T ≡ type.simple S → k ≡ kind_of T → ((R : Simple) → k ≡ simple_kind R → AnswersLeaf R source n o) → placed_of source n ≡ Some t → AreFaults T t (errors_in o)
leaf_faults T S k source n t o is same answers placed =
    subst (λ (U : TypeTree). AreFaults U t (errors_in o)) (sym is) (leaf_told S source n t o placed (answers S (same ∙ ap kind_of is)))

-- ---- variants

-- a case, whose payload was told
pub variant_payload : (source : List ℕ) (n : NodeTree) (t : SpannedTree) (name : Bor (List ℕ)) (payload : Option (Bor NodeTree)) (T : TypeTree) (cs : Cases) (found : List ℕ × Option TypeTree) (old new : List Diagnostic) → T ≡ type.variant cs → IsNodeOf source n t → GivesVariant source n (Ok (name, payload)) → Some found ≡ find (λ c. bytes_eq name.now c.0) (variant_parts T)
    → ((m : MaybePlaced) → IsPayloadNodeOf source (denoted_node payload) m → Adds (AreFaultsOfPayload name.now (maybe_type found.1) m (place_of n)) old new) → Adds (AreFaults T t) old new
variant_payload source n t name payload T cs found old new is h g e told =
    let k = case_given source n t name payload h g in
    let here : find (λ c. bytes_eq name.now c.0) (variant_parts (type.variant cs)) ≡ Some found = sym (e ∙ ap (λ (U : TypeTree). find (λ c. bytes_eq name.now c.0) (variant_parts U)) is) in
    subst (λ (U : TypeTree). Adds (AreFaults U t) old new) (sym is)
    (adds_so (λ errors f. variant_told source t cs name.now (denoted_node payload) errors k (case_found cs name.now k.payload (span_of t) found errors here f))
    (subst (λ (p : Range ℕ). Adds (AreFaultsOfPayload name.now (maybe_type found.1) k.payload p) old new) (sym (inside source n t h.0).place) (told k.payload k.node)))

-- no case
pub variant_unknown : (source : List ℕ) (n : NodeTree) (t : SpannedTree) (name : Bor (List ℕ)) (payload : Option (Bor NodeTree)) (T : TypeTree) (cs : Cases) (cause : Cause) (old new : List Diagnostic) → T ≡ type.variant cs → IsNodeOf source n t → GivesVariant source n (Ok (name, payload)) → None ≡ find (λ c. bytes_eq name.now c.0) (variant_parts T) → cause ≡ unknown_case name.now → AddsCause cause (place_of n) old new → Adds (AreFaults T t) old new
variant_unknown source n t name payload T cs cause old new is h g e cause_is a =
    let k = case_given source n t name payload h g in
    let here : find (λ c. bytes_eq name.now c.0) (variant_parts (type.variant cs)) ≡ None = sym (e ∙ ap (λ (U : TypeTree). find (λ c. bytes_eq name.now c.0) (variant_parts U)) is) in
    let refused : RefusesFor (unknown_case name.now) (span_of t) (refusal_of a.error) a.error.span = (a.blamed.0 ∙ ap refused_by cause_is, a.blamed.1 ∙ sym (inside source n t h.0).place) in
    subst (λ (U : TypeTree). Adds (AreFaults U t) old new) (sym is)
    (record { added = a.error ∷ []; is = a.is; these = variant_told source t cs name.now (denoted_node payload) (a.error ∷ []) k (case_missing cs name.now k.payload (span_of t) (a.error ∷ []) here refused) })

-- the payload of a case is of a node, or there is none
pub variant_value : (source : List ℕ) (n : NodeTree) (name : Bor (List ℕ)) (payload : Option (Bor NodeTree)) → IsValueOf source n → GivesVariant source n (Ok (name, payload)) → (m : MaybePlaced) × IsPayloadNodeOf source (denoted_node payload) m
variant_value source n name payload v g = let k = case_given source n v.0 name payload v.1 g in (k.payload, k.node)

-- ---- maps

-- a node that gives no entries
pub map_refused : (source : List ℕ) (n : NodeTree) (t : SpannedTree) (K : Simple) (V : TypeTree) (e : Diagnostic) → placed_of source n ≡ Some t → type_of n ≢ kind.TupleSet → type_of n ≢ kind.EmptySet → RefusedAs InvalidType n e → AreFaults (type.map K V) t (e ∷ [])
map_refused source n t K V e is set empty refused = other_form (map_in (shape_of t)) (span_of t) _ e (no_map source n t is set empty) (refused_at source n t e is refused)

-- a map whose entries were told
pub map_told : (source : List ℕ) (n : NodeTree) (t : SpannedTree) (K : Simple) (V : TypeTree) (pairs : List (NodeTree × NodeTree)) (old told : List Diagnostic) → (h : IsNodeOf source n t) (ty : (type_of n ≡ kind.TupleSet) ⊎ (type_of n ≡ kind.EmptySet)) → pairs ≡ [] → PairsLeft K V source (entry_list (map_nodes source n t h ty).given) pairs old told → Adds (AreFaults (type.map K V) t) old told
map_told source n t K V pairs old told h ty none l =
    let inner = map_nodes source n t h ty in
    adds_so (λ errors f. this_form (map_in (shape_of t)) (span_of t) _ (entry_list inner.given) errors (map_given (shape_of t) inner.given inner.shape) f) (pairs_end K V source (entry_list inner.given) pairs old told none l)

-- ---- records

-- a node that is no record
pub record_refused : (source : List ℕ) (n : NodeTree) (t : SpannedTree) (fs : Fields) (e : Diagnostic) → placed_of source n ≡ Some t → type_of n ≢ kind.TupleSet → refusal_of e ≡ plainly InvalidType → e.span ≡ place_of n → AreFaults (type.record_type fs) t (e ∷ [])
record_refused source n t fs e is apart refused stands =
    let i = inside source n t is in
    other_form (record_in (shape_of t)) (span_of t) _ e (not_record (type_of n) (place_of n) (slice source (place_of n)) i.children (shape_of t) i.from apart) (refused, stands ∙ sym i.place)

-- a record whose entries were told, and the fields that are left out
pub record_told : {X : Type 0} (t : SpannedTree) (T : TypeTree) (fs : Fields) (parts : List (List ℕ × TypeTree)) (seen : BTreeMap (Bor (List ℕ)) X) (p : Range ℕ) (old mid new : List Diagnostic) → T ≡ type.record_type fs → parts ≡ field_list fs → p ≡ span_of t → EntriesTold fs t seen old mid
    → ((es : List PlacedEntry) → HasNames seen (names_behind [] es) → Adds (EachLeftOut (fields_of parts) es p) mid new) → Adds (AreFaults T t) old new
record_told t T fs parts seen p old mid new is parts_are place e left =
    let out : Adds (EachLeftOut fs e.entries (span_of t)) mid new =
    subst (λ (q : Range ℕ). Adds (EachLeftOut fs e.entries q) mid new) place (subst (λ (gs : Fields). Adds (EachLeftOut gs e.entries p) mid new) (parts_back fs parts parts_are) (left e.entries e.has)) in
    subst (λ (U : TypeTree). Adds (AreFaults U t) old new) (sym is) (adds_so (λ errors f. this_form (record_in (shape_of t)) (span_of t) _ e.entries errors e.form f) (adds_then e.told out))

-- ---- entries, one by one

-- the next entry that is left, and those behind it
pub pairs_step : (K : Simple) (V : TypeTree) (source : List ℕ) (es : List PlacedEntry) (pairs : List (NodeTree × NodeTree)) (n : NodeTree × NodeTree) (left : List (NodeTree × NodeTree)) (old told mid new : List Diagnostic) → pairs ≡ n ∷ left → PairsLeft K V source es pairs old told
    → ((e : PlacedEntry) → IsTokenOf source n.0 e.place e.key → Adds (OfLeaf K e.key (MapKeyFault K e.place e.key)) told mid) → ((t : SpannedTree) → IsNodeOf source n.1 t → Adds (AreFaults V t) mid new) → PairsLeft K V source es left old new
pairs_step K V source es pairs n left old told mid new is l key val =
    pairs_next K V source es n left old told mid new (subst (λ (ps : List (NodeTree × NodeTree)). PairsLeft K V source es ps old told) is l) key (λ e here. val e.value here)

-- each that is left is an entry
pub first_entry : (source : List ℕ) (pairs : List (NodeTree × NodeTree)) (n : NodeTree × NodeTree) (left : List (NodeTree × NodeTree)) → pairs ≡ n ∷ left → AllOf (IsEntryOf source) pairs → IsEntryOf source n × AllOf (IsEntryOf source) left
first_entry source pairs n left is all = subst (AllOf (IsEntryOf source)) is all

-- what is looked up of a field
pub field_got : {S : Type 0} (tree : S → TypeTree) (m : BTreeMap (Bor (List ℕ)) (Bor S)) (parts : List (List ℕ × TypeTree)) (name : List ℕ) (o : Option (Bor S)) → LooksUp tree m parts → o ≡ held_at m name → look_up parts name ≡ denoted tree o
field_got tree m parts name o looks is = sym (looks name) ∙ ap (denoted tree) (sym is)

module _ {X : Type 0} (fs : Fields) (source : List ℕ) (es : List PlacedEntry) (p : Range ℕ) (pairs : List (NodeTree × NodeTree)) (n : NodeTree × NodeTree) (left : List (NodeTree × NodeTree)) (before seen : BTreeMap (Bor (List ℕ)) X) where
  -- the key was told, and had this name or none
  abbrev pub TellsKey : Option (Bor (List ℕ)) → List Diagnostic → List Diagnostic → Type 0
  TellsKey name told new = (earlier : List (List ℕ)) (e : PlacedEntry) → HasNames before earlier → IsTokenOf source n.0 e.place e.key → KeyTold earlier e name seen told new

  left_so : (u : Bool) (old told : List Diagnostic) → pairs ≡ n ∷ left → EntriesLeft fs source es p pairs before u old told → EntriesLeft fs source es p (n ∷ left) before u old told
  left_so u old told is l = subst (λ (ps : List (NodeTree × NodeTree)). EntriesLeft fs source es p ps before u old told) is l

  -- an entry whose key is no label
  pub nameless_next : (u : Bool) (old told new : List Diagnostic) → pairs ≡ n ∷ left → EntriesLeft fs source es p pairs before u old told → TellsKey None told new → EntriesLeft fs source es p left seen u old new
  nameless_next u old told new is l key =
      let here = left_so u old told is l in
      let x = next_of source n left here.rest here.nodes in
      step_nameless fs source es p n left before seen u old told new here x (key here.earlier x.here here.has x.key)

  -- an entry for a field
  pub found_next : (u : Bool) (old told mid new : List Diagnostic) (name : Bor (List ℕ)) (T : TypeTree) → pairs ≡ n ∷ left → EntriesLeft fs source es p pairs before u old told → TellsKey (Some name) told mid → look_up (field_list fs) name.now ≡ Some T → ((t : SpannedTree) → IsNodeOf source n.1 t → Adds (AreFaults T t) mid new) → EntriesLeft fs source es p left seen u old new
  found_next u old told mid new name T is l key found val =
      let here = left_so u old told is l in
      let x = next_of source n left here.rest here.nodes in
      step_found fs source es p n left before seen u old told mid new here x name T (key here.earlier x.here here.has x.key) found (val x.here.value x.value)

  -- the first entry for no field
  pub unknown_next : (u : Bool) (old told mid new : List Diagnostic) (name : Bor (List ℕ)) (d : Diagnostic) → u ≡ false → pairs ≡ n ∷ left → EntriesLeft fs source es p pairs before u old told → TellsKey (Some name) told mid → look_up (field_list fs) name.now ≡ None → IsRefusalOf InvalidValue p (refusal_of d) d.span → new ≡ mid ++ d ∷ [] → EntriesLeft fs source es p left seen true old new
  unknown_next u old told mid new name d first is l key missing refused added =
      let here = left_so false old told is (subst (λ (v : Bool). EntriesLeft fs source es p pairs before v old told) first l) in
      let x = next_of source n left here.rest here.nodes in
      step_unknown fs source es p n left before seen old told mid new d here x name (key here.earlier x.here here.has x.key) missing refused added

  -- another entry for no field
  pub again_next : (u : Bool) (old told new : List Diagnostic) (name : Bor (List ℕ)) → u ≡ true → pairs ≡ n ∷ left → EntriesLeft fs source es p pairs before u old told → TellsKey (Some name) told new → look_up (field_list fs) name.now ≡ None → EntriesLeft fs source es p left seen u old new
  again_next u old told new name later is l key missing =
      let here = left_so true old told is (subst (λ (v : Bool). EntriesLeft fs source es p pairs before v old told) later l) in
      let x = next_of source n left here.rest here.nodes in
      subst (λ (v : Bool). EntriesLeft fs source es p left seen v old new) (sym later) (step_again fs source es p n left before seen old told new here x name (key here.earlier x.here here.has x.key) missing)

-- ---- options

-- at an option of this flat type, a node of another form
pub option_flat_at : (source : List ℕ) (n : NodeTree) (t : SpannedTree) (e : Diagnostic) (P Q : TypeTree) (old new : List Diagnostic) → IsNodeOf source n t → GivesOption n (Err e) → Some P ≡ Some Q → IsFlat Q → AddsFaults Q source n old new → Adds (AreFaults (type.option P) t) old new
option_flat_at source n t e P Q old new h g is flat added =
    let same : Q ≡ P = cc in
    option_flat source n t e P old new h g (subst IsFlat same flat) (subst (λ (T : TypeTree). AddsFaults T source n old new) same added)

-- ---- the end of one of two lists

pub one_ended : (a b i : ℕ) → min a b ≤ i → (a ≤ i) ⊎ (b ≤ i)
one_ended zero b i le = inl (omega arith)
one_ended (suc a) zero i le = inr (omega arith)
one_ended (suc a) (suc b) zero le = absurd (omega (arith, le))
one_ended (suc a) (suc b) (suc i) le = elim (one_ended a b i (omega (arith, le))) [ inl g ↦ inl (omega (arith, g)) | inr g ↦ inr (omega (arith, g)) ]

-- the type of a case's payload is less deep
pub payload_depth : (T : TypeTree) (cs : Cases) (name : List ℕ) (found : List ℕ × Option TypeTree) → T ≡ type.variant cs → Some found ≡ find (λ c. bytes_eq name c.0) (variant_parts T) → depth_of_maybe (maybe_type found.1) < depth T
payload_depth T cs name found is e = case_depth T cs name found is (sym (e ∙ ap (λ (U : TypeTree). find (λ c. bytes_eq name c.0) (variant_parts U)) is))
