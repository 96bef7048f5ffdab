-- Records as the type is gone through: the first field that is left out, or whose entry's value is refused.
use Rattle.std.proofs.Common.{ℕ, zero, suc, ◌≡◌, ◌⊎◌, inl, inr, ◌++◌, List, [], ◌∷◌, take, drop, map, Option, Some, None, Bor, Err, sym, ◌∙◌, subst}
use Rattle.std.specs.declared.ops.Range.{Range}
use Rattle.wave_wasm.specs.Lists.{AllOf, SomeOf}
use Rattle.wave_wasm.specs.Names.{IsOneOf, IsNoneOf, AreDistinct}
use Rattle.wave_wasm.specs.Types as type
use Rattle.wave_wasm.specs.Types.{TypeTree, Fields, HasDistinctNames, field_names}
use Rattle.wave_wasm.specs.Values.{Value}
use Rattle.wave_wasm.specs.ConstructorContracts.{HasFullParts}
use Rattle.wave_lex.specs.Errors.{Diagnostic, Refusal, refusal_of}
use Rattle.wave_lex.specs.declared.error.ParserErrorKind.TheVariants as error
use Rattle.wave_grammar.specs.TypedGrammar.{look_up, names_of}
use Rattle.wave_grammar.specs.SpannedTree.{PlacedEntry, SpannedTree, entry_list, span_of}
use Rattle.wave_grammar.specs.TypeErrors.{Blame, IsFor, UnknownField}
use Rattle.wave_grammar.specs.FaultOrder.{Order, by_type, BlamesNothing, OrElse, FirstOf, FaultOfKeys, LeftOut, FaultOfFields, FirstFault}
use Rattle.wave_grammar.proofs.OneFault.FirstFaults.{nothing_first}
use Rattle.wave_grammar.specs.NodeTree.{NodeTree, type_of, place_of}
use Rattle.wave_grammar.specs.Nodes.{IsNodeOf}
use Rattle.wave_grammar.specs.TypedReading.{IsTypedValue, IsBlamed}
use Rattle.wave_grammar.specs.NodeFields.{IsFieldsOf, AnswersField}
use Rattle.wave_grammar.specs.declared.form.NodeType.TheVariants as kind
use Rattle.wave_grammar.proofs.OneFault.FirstOfSeveral.{first_behind}
use Rattle.wave_grammar.proofs.OneFault.FaultyTrees.{value_fine}
use Rattle.wave_grammar.proofs.ChildNodes.Inside.{inside}
use Rattle.wave_grammar.proofs.ByKind.Lists.{HasAt}
use Rattle.wave_grammar.proofs.ByKind.Tuples.{map_has, all_has}
use Rattle.wave_grammar.proofs.ByKind.Enums.{none_one}
use Rattle.wave_grammar.proofs.Fields.Lookup.{cut_at}
use Rattle.wave_grammar.proofs.Fields.Entries.{AreFieldsOf, RecordBlame, record_nodes, for_one, entry_found, none_found, some_map, key_fine, apart_more, none_at_first, within_record}
use Rattle.wave_grammar.proofs.Fields.Reading.{RecordType, fields_distinct, given_fields, all_from, FieldIsRead, FieldsRead, entry_reads}

-- ---- keys

-- labels of distinct names that no earlier key has are fine
pub keys_fine : (source : List ℕ) (given : List (List ℕ × NodeTree)) (es : List PlacedEntry) (earlier : List (List ℕ)) → AreFieldsOf source given es → AreDistinct (names_of given) → AllOf (IsNoneOf earlier) (names_of given) → BlamesNothing (FaultOfKeys earlier es)
keys_fine source [] [] earlier all distinct apart k q h = h
keys_fine source [] (e ∷ es) earlier all distinct apart k q h = absurd all
keys_fine source (f ∷ given) [] earlier all distinct apart k q h = absurd all
keys_fine source (f ∷ given) (e ∷ es) earlier all distinct apart k q (inl h) = key_fine earlier e f.0 all.0 apart.0 k q h
keys_fine source (f ∷ given) (e ∷ es) earlier all distinct apart k q (inr h) =
    keys_fine source given es (f.0 ∷ earlier) all.2 distinct.1 (apart_more (names_of given) earlier f.0 apart.1 distinct.0) k q (subst (λ (ns : List (List ℕ)). FaultOfKeys (ns ++ earlier) es k q) all.0 h.1)

-- ---- fields

-- what a field is blamed for: it is left out, or its entry's value has a fault
abbrev pub FieldBlame : Order → List PlacedEntry → Range ℕ → List ℕ × TypeTree → Blame
FieldBlame w es p f = OrElse (LeftOut f.0 f.1 es p) (FirstOf (λ e k q. IsFor f.0 e × FirstFault w w f.1 e.value k q) es)

-- the first field that is blamed is the first in the type
pub fields_fault : (w : Order) (fs : Fields) (es : List PlacedEntry) (p : Range ℕ) (k : Refusal) (q : Range ℕ) → FirstOf (FieldBlame w es p) (type.field_list fs) k q → FaultOfFields w fs es p k q
fields_fault w type.no_fields es p k q h = h
fields_fault w (type.field name T more) es p k q (inl (inl h)) = inl h
fields_fault w (type.field name T more) es p k q (inl (inr h)) = inr (h.0, inl h.1)
fields_fault w (type.field name T more) es p k q (inr h) =
    let out : BlamesNothing (LeftOut name T es p) = λ l r g. h.0 l r (inl g) in
    inr (out, inr ((λ l r g. h.0 l r (inr (out, g))), fields_fault w more es p k q h.1))

-- where no field is blamed the type blames none
pub fields_fine : (w : Order) (fs : Fields) (es : List PlacedEntry) (p : Range ℕ) → AllOf (λ f. BlamesNothing (FieldBlame w es p f)) (type.field_list fs) → BlamesNothing (FaultOfFields w fs es p)
fields_fine w type.no_fields es p all k q h = h
fields_fine w (type.field name T more) es p all k q (inl h) = all.0 k q (inl h)
fields_fine w (type.field name T more) es p all k q (inr (there, inl h)) = all.0 k q (inr (there, h))
fields_fine w (type.field name T more) es p all k q (inr (there, inr h)) = fields_fine w more es p all.1 k q h.1

-- what holds of all holds of the first ones
all_first : {A : Type 0} (P : A → Type 0) (xs : List A) (i : ℕ) → AllOf P xs → AllOf P (take i xs)
all_first P [] zero all = tt
all_first P [] (suc i) all = tt
all_first P (x ∷ xs) zero all = tt
all_first P (x ∷ xs) (suc i) all = (all.0, all_first P xs i all.1)

-- the type of a field of a full type is full
pub full_at : (Full : TypeTree → Type 0) (T : TypeTree) (parts : List (List ℕ × TypeTree)) (i : ℕ) (name : List ℕ) (E : TypeTree) → RecordType T parts → HasAt parts i (name, E) → HasFullParts Full → Full T → Full E
full_at Full T parts i name E is typed parts_full full =
    all_has Full (map (λ f. f.1) (type.field_list is.fields)) i E (parts_full (type.record_type is.fields) (subst Full is.is full)) (map_has (λ f. f.1) (type.field_list is.fields) i (name, E) (subst (λ (l : List (List ℕ × TypeTree)). HasAt l i (name, E)) is.parts_are typed))

-- a fault of the record's entries is one of the record, at whatever type that is
pub record_blame : (o w : Order) (T : TypeTree) (parts : List (List ℕ × TypeTree)) (source : List ℕ) (n : NodeTree) (t : SpannedTree) (e : Diagnostic) (is : RecordType T parts) (stands : IsNodeOf source n t) (set : type_of n ≡ kind.TupleSet) → RecordBlame o w is.fields (span_of t) (entry_list (record_nodes source n t stands set).given) (refusal_of e) e.span → FirstFault o w T t (refusal_of e) e.span
record_blame o w T parts source n t e is stands set fault =
    let inner = record_nodes source n t stands set in
    subst (λ (U : TypeTree). FirstFault o w U t (refusal_of e) e.span) (sym is.is) (within_record o w is.fields t (entry_list inner.given) (refusal_of e) e.span inner.taken fault)

module _ {V : Type 0} (tree : V → Value) (of : V → TypeTree → Type 0) (Full : TypeTree → Type 0) (w : Order) where
  -- a field that was read is not blamed
  field_fine : (source : List ℕ) (given : List (List ℕ × NodeTree)) (es : List PlacedEntry) (p : Range ℕ) (f : List ℕ × TypeTree) (v : V) → AreFieldsOf source given es → AreDistinct (names_of given) → HasDistinctNames f.1 → FieldIsRead tree of Full f.1 f.0 es v → BlamesNothing (FieldBlame w es p f)
  field_fine source given es p f v all apart distinct (inl some) k q (inl h) = h.1 (some_map (λ x. IsFor f.0 x × IsTypedValue tree of f.1 x.value v) (IsFor f.0) es (λ x g. g.0) some)
  field_fine source given es p f v all apart distinct (inr left) k q (inl h) = h.0 left.1.option
  field_fine source given es p f v all apart distinct read k q (inr h) =
      nothing_first (λ x l r. IsFor f.0 x × FirstFault w w f.1 x.value l r) es (all_from (λ x. BlamesNothing (λ l r. IsFor f.0 x × FirstFault w w f.1 x.value l r)) es (λ i x here l r g. value_fine w w f.1 x.value (tree v) distinct (entry_reads tree of Full source given es i x f.0 f.1 v all apart here g.0 read).reads l r g.1)) k q h.1

  -- so are fields that were read
  read_fine : (source : List ℕ) (given : List (List ℕ × NodeTree)) (es : List PlacedEntry) (p : Range ℕ) (ps : List (List ℕ × TypeTree)) (hs : List (Bor (List ℕ) × V)) → AreFieldsOf source given es → AreDistinct (names_of given) → AllOf (λ f. HasDistinctNames f.1) ps → FieldsRead tree of Full ps es hs → AllOf (λ f. BlamesNothing (FieldBlame w es p f)) ps
  read_fine source given es p [] hs all apart distinct h = tt
  read_fine source given es p (f ∷ ps) [] all apart distinct h = absurd h
  read_fine source given es p (f ∷ ps) (v ∷ hs) all apart distinct h = (field_fine source given es p f v.1 all apart distinct.0 h.1, read_fine source given es p ps hs all apart distinct.1 h.2)

  -- out of memory; or what is blamed; or the refusal of a constructor
  abbrev pub IsRefusal : Blame → TypeTree → Diagnostic → Type 0
  IsRefusal A E e = (e.kind ≡ error.OutOfMemory) ⊎ A (refusal_of e) e.span ⊎ (e.kind ≡ error.WasmValueError) × (Full E → ⊥)

  -- a refusal of an entry of the name, which one entry alone has, is of the first entry that is blamed
  some_blamed : (E : TypeTree) (name source : List ℕ) (given : List (List ℕ × NodeTree)) (es : List PlacedEntry) (e : Diagnostic) → AreFieldsOf source given es → AreDistinct (names_of given) → SomeOf (λ x. IsFor name x × IsBlamed Full w w E x.value e) es → IsRefusal (FirstOf (λ x k q. IsFor name x × FirstFault w w E x.value k q) es) E e
  some_blamed E name source [] [] e all apart h = absurd h
  some_blamed E name source [] (x ∷ es) e all apart h = absurd all
  some_blamed E name source (f ∷ given) [] e all apart h = absurd h
  some_blamed E name source (f ∷ given) (x ∷ es) e all apart (inl (is, inl memory)) = inl memory
  some_blamed E name source (f ∷ given) (x ∷ es) e all apart (inl (is, inr (inl fault))) = inr (inl (inl (is, fault)))
  some_blamed E name source (f ∷ given) (x ∷ es) e all apart (inl (is, inr (inr h))) = inr (inr h)
  some_blamed E name source (f ∷ given) (x ∷ es) e all apart (inr h) =
      elim (some_blamed E name source given es e all.2 apart.1 h) [
        | inl memory ↦ inl memory
        | inr (inl fault) ↦ inr (inl (inr ((λ k q g. none_one (names_of given) f.0 apart.0 (subst (IsOneOf (names_of given)) (same_name name f.0 (sym g.0 ∙ all.0)) (for_one source given es name all.2 (some_map (λ y. IsFor name y × IsBlamed Full w w E y.value e) (IsFor name) es (λ y i. i.0) h)))), fault)))
        | inr (inr other) ↦ inr (inr other)
      ]
    where
      same_name : (a b : List ℕ) → a ∷ [] ≡ b ∷ [] → a ≡ b
      same_name a b e = cc

  -- what the answer for a field is blamed for
  field_refused : (E : TypeTree) (source : List ℕ) (n : NodeTree) (given : List (List ℕ × NodeTree)) (es : List PlacedEntry) (name : List ℕ) (o : Option NodeTree) (e : Diagnostic) → AreFieldsOf source given es → AreDistinct (names_of given) → HasDistinctNames E → o ≡ look_up given name → AnswersField tree of Full w E source name n o (Err e) → IsRefusal (FieldBlame w es (place_of n) (name, E)) E e
  field_refused E source n given es name None e all apart distinct found answer =
      elim (answer distinct) [
        | inl memory ↦ inl memory
        | inr (inl h) ↦ inr (inl (inl (h.0, none_found source given es name all (sym found), h.1)))
        | inr (inr other) ↦ inr (inr other)
      ]
  field_refused E source n given es name (Some m) e all apart distinct found answer =
      let there = entry_found source given es name m all (sym found) in
      elim (some_blamed E name source given es e all apart (some_map (λ x. IsFor name x × IsNodeOf source m x.value) (λ x. IsFor name x × IsBlamed Full w w E x.value e) es (λ x g. (g.0, answer x.value g.1 distinct)) there)) [
        | inl memory ↦ inl memory
        | inr (inl fault) ↦ inr (inl (inr ((λ k q h. h.1 (some_map (λ x. IsFor name x × IsNodeOf source m x.value) (IsFor name) es (λ x g. g.0) there)), fault)))
        | inr (inr other) ↦ inr (inr other)
      ]

  module _ (T : TypeTree) (parts : List (List ℕ × TypeTree)) (source : List ℕ) (n : NodeTree) (t : SpannedTree) (given : List (List ℕ × NodeTree)) (hs : List (Bor (List ℕ) × V)) (e : Diagnostic) (is : RecordType T parts) (stands : IsNodeOf source n t) (fields : IsFieldsOf source n given) (distinct : HasDistinctNames T) where
    -- the keys of the record are fine
    fine_keys : BlamesNothing (FaultOfKeys [] (entry_list (record_nodes source n t stands fields.is_set).given))
    fine_keys = keys_fine source given (entry_list (record_nodes source n t stands fields.is_set).given) [] (given_fields source n t given stands fields) fields.distinct (none_at_first (names_of given))

    -- the refusal of a field behind those that were read is that of the record
    pub field_blamed : (i : ℕ) (name : List ℕ) (E : TypeTree) (o : Option NodeTree) → HasAt parts i (name, E) → HasFullParts Full → o ≡ look_up given name → FieldsRead tree of Full (take i parts) (entry_list (record_nodes source n t stands fields.is_set).given) hs → AnswersField tree of Full w E source name n o (Err e) → IsBlamed Full by_type w T t e
    field_blamed i name E o typed full found read answer =
        let es = entry_list (record_nodes source n t stands fields.is_set).given in
        let all = given_fields source n t given stands fields in
        let within = (fields_distinct T parts is distinct).within in
        elim (field_refused E source n given es name o e all fields.distinct (all_has (λ q. HasDistinctNames q.1) parts i (name, E) within typed) found answer) [
          | inl memory ↦ inl memory
          | inr (inl fault) ↦
              let here : FieldBlame w es (span_of t) (name, E) (refusal_of e) e.span = subst (λ (p : Range ℕ). FieldBlame w es p (name, E) (refusal_of e) e.span) (sym (inside source n t stands.0).place) fault in
              let first : FirstOf (FieldBlame w es (span_of t)) (take i parts ++ (name, E) ∷ drop (suc i) parts) (refusal_of e) e.span = first_behind (FieldBlame w es (span_of t)) (take i parts) (drop (suc i) parts) (name, E) (refusal_of e) e.span (read_fine source given es (span_of t) (take i parts) hs all fields.distinct (all_first (λ f. HasDistinctNames f.1) parts i within) read) here in
              let own : FirstOf (FieldBlame w es (span_of t)) (type.field_list is.fields) (refusal_of e) e.span = subst (λ (ps : List (List ℕ × TypeTree)). FirstOf (FieldBlame w es (span_of t)) ps (refusal_of e) e.span) (sym (cut_at parts i (name, E) typed) ∙ is.parts_are) first in
              inr (inl (record_blame by_type w T parts source n t e is stands fields.is_set (inr (fine_keys, inl (fields_fault w is.fields es (span_of t) (refusal_of e) e.span own)))))
          | inr (inr h) ↦ inr (inr (h.0, λ whole. h.1 (full_at Full T parts i name E is typed full whole)))
        ]

    -- an entry for no field, where all fields were read
    pub unknown_blamed : FieldsRead tree of Full parts (entry_list (record_nodes source n t stands fields.is_set).given) hs → UnknownField (field_names is.fields) (entry_list (record_nodes source n t stands fields.is_set).given) (span_of t) (refusal_of e) e.span → IsBlamed Full by_type w T t e
    unknown_blamed read unknown =
        let es = entry_list (record_nodes source n t stands fields.is_set).given in
        let fine : AllOf (λ f. BlamesNothing (FieldBlame w es (span_of t) f)) parts = read_fine source given es (span_of t) parts hs (given_fields source n t given stands fields) fields.distinct (fields_distinct T parts is distinct).within read in
        inr (inl (record_blame by_type w T parts source n t e is stands fields.is_set (inr (fine_keys, inr (fields_fine w is.fields es (span_of t) (subst (AllOf (λ f. BlamesNothing (FieldBlame w es (span_of t) f))) is.parts_are fine), unknown)))))
