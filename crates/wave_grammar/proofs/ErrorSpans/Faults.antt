-- Faults of type stand within the tree.
use Rattle.std.proofs.Common.{ℕ, ◌≡◌, ◌⊎◌, inl, inr, ◌<◌, ◌≤◌, ◌+◌, ◌-◌, Bool, true, false, if◌then◌else◌, List, [], ◌∷◌, ◌++◌, length, drop, length-append, length-take, length-drop, nat_eq, Some, refl, sym, ap, subst, arith}
use Rattle.std.specs.declared.ops.Range.{Range}
use Rattle.wave_wasm.specs.Lists.{SomeOf}
use Rattle.wave_wasm.specs.Types as type
use Rattle.wave_wasm.specs.Types.{TypeTree, MaybeType, Types, Fields, Cases, Simple, no_type, a_type, no_types, type_and, field, no_cases, case_of}
use Rattle.wave_wasm.specs.Names.{IsOneOf}
use Rattle.wave_lex.specs.Errors.{Refusal, repeated_name}
use Rattle.wave_lex.specs.declared.error.ParserErrorKind.TheVariants.{DuplicateField}
use Rattle.wave_lex.specs.Strings.{IsBadEscapeAt}
use Rattle.wave_lex.specs.Multiline.{LineFault, closing, opening, indentation, escape, put_first, pieces, spaces, BadLine, BadLines, MultilineFault, fault_span}
use Rattle.wave_lex.proofs.StringDecoding.OneMeaning.{length_spaces}
use Rattle.wave_grammar.specs.Token.{Token, text_of}
use Rattle.wave_grammar.specs.SpannedTree.{SpannedTree, at, one, tuple, list, empty_braces, no_fields, entries, flags, label, none, some, ok, err, MaybePlaced, no_placed, a_placed, PlacedTrees, no_more, and_then, PlacedEntries, no_entries, entry, PlacedEntry, entry_list, placed_list, span_of, slice, HoldsTokens, SpellsEach, SpellsMaybe, SpellsAll, SpellsEntries, LiesIn}
use Rattle.wave_grammar.specs.TypeErrors.{RefusesWith, names_in, LeafFault, MapKeyFault, RepeatedField, MissingField, Fault, FaultOfPayload, FaultOfFlat, FaultOfItem, FaultOfField, FaultOfCase}
use Rattle.wave_grammar.specs.NodeLaws.{FaultsLieInText}
use Rattle.wave_grammar.proofs.NodeTexts.Quoted.{IsQuoted, one_holds}

-- the span lies between two places
abbrev pub Lies : ℕ → ℕ → Range ℕ → Type 0
Lies from to q = (from ≤ q.start) × (q.start ≤ q.end) × (q.end ≤ to)

wider : (a b c d : ℕ) (q : Range ℕ) → a ≤ c → d ≤ b → Lies c d q → Lies a b q
wider a b c d q h k l = (omega (arith, l.0), l.1, omega (arith, l.2))

whole : (p q : Range ℕ) → q ≡ p → p.start ≤ p.end → Lies p.start p.end q
whole p q e h = subst (Lies p.start p.end) (sym e) (omega arith, h, omega arith)

-- ---- texts of tokens

text_held : (source : List ℕ) (p : Range ℕ) (t : Token) → HoldsTokens source p (t ∷ []) → p.start + length (text_of t) ≤ p.end
text_held source p t (stands, whitespace, (g, k, skipped, longest, is, more)) =
    let a = length-take k (drop g (slice source p)) in
    let b = length-drop g (slice source p) in
    let c = ap length is in
    let d = length-take (p.end - p.start) (drop p.start source) in
    let o = stands.ordered in
    omega arith

-- the bytes of the pieces, with a line feed after each
total : List (List ℕ) → ℕ
total [] = 0
total (p ∷ ps) = length p + 1 + total ps

total_pieces : (s : List ℕ) → total (pieces s) ≡ length s + 1
unfolding total
total_pieces [] = refl
total_pieces (b ∷ s) = step (nat_eq b 10) (pieces s) (total_pieces s)
  where
    step : (t : Bool) (ps : List (List ℕ)) → total ps ≡ length s + 1 → total (if t then [] ∷ ps else put_first b ps) ≡ length (b ∷ s) + 1
    step true ps h = omega (arith, h)
    step false [] h = absurd (omega (arith, h))
    step false (p ∷ ps) h = omega (arith, h)

total_append : (xs ys : List (List ℕ)) → total (xs ++ ys) ≡ total xs + total ys
unfolding total
total_append [] ys = omega arith
total_append (x ∷ xs) ys = omega (arith, total_append xs ys)

-- where a fault stands in the inside
pub offset : LineFault → ℕ
offset closing = 0
offset opening = 0
offset (indentation i) = i
offset (escape i) = i

pub escape_inside : (s : List ℕ) (i : ℕ) → IsBadEscapeAt s i → i < length s
escape_inside s i (prefix, rest, t, is, decodes, apart, e) = omega (arith, ap length is, length-append prefix (92 ∷ rest), e)

line_offset : (k start : ℕ) (line : List ℕ) (f : LineFault) → BadLine k start line f → offset f < start + length line + 1
unfolding offset
line_offset k start line f (inl (apart, e)) = rw e (omega arith)
line_offset k start line f (inr (y, i, (x, is, inl drops), bad, e)) =
    rw e (omega (arith, ap length is, length-append (spaces k) x, length_spaces k, ap length drops, length-append y (13 ∷ []), escape_inside y i bad))
line_offset k start line f (inr (y, i, (x, is, inr drops), bad, e)) =
    rw e (omega (arith, ap length is, length-append (spaces k) x, length_spaces k, ap length drops.0, escape_inside y i bad))

lines_offset : (k start : ℕ) (ps : List (List ℕ)) (f : LineFault) → BadLines k start ps f → offset f < start + total ps
unfolding total
lines_offset k start [] f h = absurd h
lines_offset k start (p ∷ ps) f (inl h) = omega (arith, line_offset k start p f h)
lines_offset k start (p ∷ ps) f (inr (t, means, h)) = omega (arith, lines_offset k (start + length p + 1) ps f h)

pub multiline_offset : (s : List ℕ) (f : LineFault) → MultilineFault s f → offset f ≤ length s
unfolding offset total
multiline_offset s f (inl (bad, e)) = rw e (omega arith)
multiline_offset s f (inr (inl (labelled, bad, e))) = rw e (omega arith)
multiline_offset s f (inr (inr b)) =
    omega (arith, lines_offset b.indent (length b.first + 1) b.between f b.bad, total_pieces s, ap total b.cut, total_append b.between (spaces b.indent ∷ []))

pub fault_place : (pos n : ℕ) (f : LineFault) → offset f ≤ n → Lies pos (pos + n + 3) (fault_span pos n f)
unfolding offset
fault_place pos n closing h = (omega arith, omega arith, omega arith)
fault_place pos n opening h = (omega arith, omega arith, omega arith)
fault_place pos n (indentation i) h = (omega arith, omega arith, omega arith)
fault_place pos n (escape i) h = (omega arith, omega arith, omega arith)

module _ (source : List ℕ) (k : Refusal) (q : Range ℕ) where
  leaf_lies : (S : Simple) (p : Range ℕ) (t : Token) → p.start ≤ p.end → (IsQuoted t → HoldsTokens source p (t ∷ [])) → LeafFault S p t k q → Lies p.start p.end q
  leaf_lies S p t o held (inl h) = whole p q h.1.1 o
  leaf_lies type.bool p t o held (inr h) = absurd h.1
  leaf_lies (type.whole which) p t o held (inr h) = whole p q h.1.1.1 o
  leaf_lies type.char p t o held (inr h) = whole p q h.1.1.1 o
  leaf_lies type.string p t o held (inr (form, inl (text, x, i, is, own, bad, refused))) =
      let fits = text_held source p t (held (subst IsQuoted (sym is) tt)) in
      let texts = ap (λ (z : Token). length (text_of z)) is in
      let inside = escape_inside x i bad in
      subst (Lies p.start p.end) (sym refused.1) (omega arith, omega arith, omega (arith, ap length own, length-append x (34 ∷ [])))
  leaf_lies type.string p t o held (inr (form, inr (text, x, f, is, own, fault, refused))) =
      let fits = text_held source p t (held (subst IsQuoted (sym is) tt)) in
      let texts = ap (λ (z : Token). length (text_of z)) is in
      let bytes = ap length own in
      let parts = length-append x (34 ∷ 34 ∷ 34 ∷ []) in
      subst (Lies p.start p.end) (sym refused.1) (wider p.start p.end (p.start + 3) (p.start + 3 + length x + 3) (fault_span (p.start + 3) (length x) f) (omega arith) (omega arith) (fault_place (p.start + 3) (length x) f (multiline_offset x f fault)))

  -- ---- entries

  -- an entry between two places
  record EntryIn (from to : ℕ) (e : PlacedEntry) : Type 0 where
    pub key : LiesIn e.place from to
    pub holds : HoldsTokens source e.place (e.key ∷ [])
    pub value : LiesIn (span_of e.value) from to
    pub spells : SpellsEach source e.value

  each_ordered : (t : SpannedTree) → SpellsEach source t → (span_of t).start ≤ (span_of t).end
  each_ordered (at p s) h = h.0.1.0.ordered

  entry_wider : (a from to : ℕ) (e : PlacedEntry) → a ≤ from → EntryIn from to e → EntryIn a to e
  entry_wider a from to e h i = record { key = (omega (arith, i.key.0), i.key.1); holds = i.holds; value = (omega (arith, i.value.0), i.value.1); spells = i.spells }

  some_entry : (P : PlacedEntry → Type 0) (es : PlacedEntries) (from to : ℕ) → SpellsEntries source from to es → SomeOf P (entry_list es) → (e : PlacedEntry) × P e × EntryIn from to e
  some_entry P no_entries from to h f = absurd f
  some_entry P (entry p key t more) from to h (inl f) =
      let ordered = h.1.0.ordered in
      (record { place = p; key = key; value = t }, f, record { key = (h.0.0, let a = h.2.0 in let b = each_ordered t h.3 in let c = h.2.1 in omega arith); holds = h.1; value = (let a = h.0.0 in let b = h.2.0 in omega arith, h.2.1); spells = h.3 })
  some_entry P (entry p key t more) from to h (inr f) =
      let r = some_entry P more (span_of t).end to h.4 f in
      (r.0, r.1, entry_wider from (span_of t).end to r.0 (let a = h.0.0 in let b = h.1.0.ordered in let c = h.2.0 in let d = each_ordered t h.3 in omega arith) r.2)

  key_lies : (from to : ℕ) (e : PlacedEntry) → EntryIn from to e → q ≡ e.place → Lies from to q
  key_lies from to e i same = let o = i.holds.0.ordered in wider from to e.place.start e.place.end q i.key.0 i.key.1 (whole e.place q same o)

  map_key_lies : (K : Simple) (from to : ℕ) (e : PlacedEntry) → EntryIn from to e → MapKeyFault K e.place e.key k q → Lies from to q
  map_key_lies K from to e i (inl h) = key_lies from to e i h.2.1
  map_key_lies K from to e i (inr h) = wider from to e.place.start e.place.end q i.key.0 i.key.1 (leaf_lies K e.place e.key i.holds.0.ordered (λ quoted. i.holds) h.1)

  some_is : {A : Type 0} (P : A → Type 0) (p : Range ℕ) (xs : List A) → ((x : A) → P x → q ≡ p) → SomeOf P xs → q ≡ p
  some_is P p [] h f = absurd f
  some_is P p (x ∷ xs) h (inl f) = h x f
  some_is P p (x ∷ xs) h (inr f) = some_is P p xs h f

  repeated_lies : (es : PlacedEntries) (earlier : List (List ℕ)) (from to : ℕ) → SpellsEntries source from to es → RepeatedField earlier (entry_list es) k q → Lies from to q
  repeated_lies no_entries earlier from to h f = absurd f
  repeated_lies (entry p key t more) earlier from to h (inl f) =
      let e = some_entry (λ e. Unit {0}) (entry p key t more) from to h (inl tt) in
      let b = h.2.0 in let c = each_ordered t h.3 in let d = h.2.1 in
      let same = some_is (λ name. IsOneOf earlier name × RefusesWith DuplicateField (Some (repeated_name name)) p k q) p (names_in key) (λ name reported. reported.1.1) f in
      wider from to p.start p.end q h.0.0 (omega arith) (whole p q same h.1.0.ordered)
  repeated_lies (entry p key t more) earlier from to h (inr f) =
      let a = h.0.0 in let b = h.1.0.ordered in let c = h.2.0 in let d = each_ordered t h.3 in
      wider from to (span_of t).end to q (omega arith) (omega arith) (repeated_lies more _ (span_of t).end to h.4 f)

  missing_lies : (fs : Fields) (es : List PlacedEntry) (p : Range ℕ) → MissingField fs es p k q → q ≡ p
  missing_lies type.no_fields es p h = absurd h
  missing_lies (field name T more) es p (inl h) = h.2.1
  missing_lies (field name T more) es p (inr h) = missing_lies more es p h

  -- faults of trees of this type lie within them
  abbrev Within : TypeTree → Type 0
  Within T = (u : SpannedTree) → SpellsEach source u → Fault T u k q → Lies (span_of u).start (span_of u).end q

  entry_lies : (K : Simple) (V : TypeTree) (from to : ℕ) (e : PlacedEntry) → Within V → EntryIn from to e → MapKeyFault K e.place e.key k q ⊎ Fault V e.value k q → Lies from to q
  entry_lies K V from to e within i (inl f) = map_key_lies K from to e i f
  entry_lies K V from to e within i (inr f) = wider from to (span_of e.value).start (span_of e.value).end q i.value.0 i.value.1 (within e.value i.spells f)

  items_lie : (E : TypeTree) (ts : PlacedTrees) (from to : ℕ) → Within E → SpellsAll source from to ts → SomeOf (λ item. Fault E item k q) (placed_list ts) → Lies from to q
  items_lie E no_more from to within h f = absurd f
  items_lie E (and_then t more) from to within h (inl f) = wider from to (span_of t).start (span_of t).end q h.0.0 h.0.1 (within t h.1 f)
  items_lie E (and_then t more) from to within h (inr f) =
      let a = h.0.0 in let b = each_ordered t h.1 in
      wider from to (span_of t).end to q (omega arith) (omega arith) (items_lie E more (span_of t).end to within h.2 f)

  -- ---- trees

  mutual
    pub fault_lies : (T : TypeTree) (t : SpannedTree) → SpellsEach source t → Fault T t k q → Lies (span_of t).start (span_of t).end q
    fault_lies (type.simple S) (at p (one tok)) h f = leaf_lies S p tok h.0.1.0.ordered (λ quoted. one_holds source (at p (one tok)) tok quoted refl h) f
    fault_lies (type.simple S) (at p _) h f = whole p q f.1 h.0.1.0.ordered
    fault_lies (type.unreadable u) (at p s) h f = whole p q f.1 h.0.1.0.ordered
    fault_lies (type.fixed E n) (at p (list ts)) h (inl f) = whole p q f.1.1 h.0.1.0.ordered
    fault_lies (type.fixed E n) (at p (list ts)) h (inr f) = items_lie E ts p.start p.end (λ u g e. fault_lies E u g e) h.1 f.1
    fault_lies (type.fixed E n) (at p _) h f = whole p q f.1 h.0.1.0.ordered
    fault_lies (type.list E) (at p (list ts)) h f = items_lie E ts p.start p.end (λ u g e. fault_lies E u g e) h.1 f
    fault_lies (type.list E) (at p _) h f = whole p q f.1 h.0.1.0.ordered
    fault_lies (type.tuple Ts) (at p (tuple ts)) h (inl f) = whole p q f.1.1 h.0.1.0.ordered
    fault_lies (type.tuple Ts) (at p (tuple ts)) h (inr f) = each_lies Ts ts p.start p.end h.1 f
    fault_lies (type.tuple Ts) (at p _) h f = whole p q f.1 h.0.1.0.ordered
    fault_lies (type.record_type fs) (at p (entries es)) h (inl f) = let e = some_entry _ es p.start p.end h.1 f in key_lies p.start p.end e.0 e.2 e.1.1.1
    fault_lies (type.record_type fs) (at p (entries es)) h (inr (inl f)) = whole p q f.1.1 h.0.1.0.ordered
    fault_lies (type.record_type fs) (at p (entries es)) h (inr (inr (inl f))) = repeated_lies es [] p.start p.end h.1 f
    fault_lies (type.record_type fs) (at p (entries es)) h (inr (inr (inr (inl f)))) = whole p q (missing_lies fs (entry_list es) p f) h.0.1.0.ordered
    fault_lies (type.record_type fs) (at p (entries es)) h (inr (inr (inr (inr f)))) = fields_lie fs es p.start p.end h.1 f
    fault_lies (type.record_type fs) (at p no_fields) h (inl f) = absurd f
    fault_lies (type.record_type fs) (at p no_fields) h (inr (inl f)) = whole p q f.1.1 h.0.1.0.ordered
    fault_lies (type.record_type fs) (at p no_fields) h (inr (inr (inl f))) = absurd f
    fault_lies (type.record_type fs) (at p no_fields) h (inr (inr (inr (inl f)))) = whole p q (missing_lies fs [] p f) h.0.1.0.ordered
    fault_lies (type.record_type fs) (at p no_fields) h (inr (inr (inr (inr f)))) = fields_lie fs no_entries p.start p.end tt f
    fault_lies (type.record_type fs) (at p _) h f = whole p q f.1 h.0.1.0.ordered
    fault_lies (type.variant cs) (at p (label r text payload)) h f = case_lies cs _ payload p r.end p.end h.0.1.0.ordered (let a = h.1.0.0 in let b = h.1.1.0.ordered in omega arith) (omega arith) h.1.2 f
    fault_lies (type.variant cs) (at p _) h f = whole p q f.1 h.0.1.0.ordered
    fault_lies (type.enum names) (at p (label r text payload)) h (inl f) = whole p q f.1.1 h.0.1.0.ordered
    fault_lies (type.enum names) (at p (label r text payload)) h (inr f) = whole p q f.2.1 h.0.1.0.ordered
    fault_lies (type.enum names) (at p _) h f = whole p q f.1 h.0.1.0.ordered
    fault_lies (type.option P) (at p none) h f = absurd f
    fault_lies (type.option P) (at p (some u)) h f = wider p.start p.end (span_of u).start (span_of u).end q (let a = h.1.0.0 in omega arith) h.1.0.1 (fault_lies P u h.1.1 f)
    fault_lies (type.option P) (at p s) h (inl f) = whole p q f.1.1 h.0.1.0.ordered
    fault_lies (type.option P) (at p s) h (inr f) = fault_lies P (at p s) h f.1
    fault_lies (type.result A B) (at p (ok payload)) h f = payload_lies A _ payload p (p.start + 1) p.end h.0.1.0.ordered (omega arith) (omega arith) h.1 f
    fault_lies (type.result A B) (at p (err payload)) h f = payload_lies B _ payload p (p.start + 1) p.end h.0.1.0.ordered (omega arith) (omega arith) h.1 f
    fault_lies (type.result A B) (at p s) h f = flat_lies A (at p s) h f
    fault_lies (type.flags names) (at p (flags fs)) h f = whole p q (some_is _ p fs (λ x g. g.1.1) f) h.0.1.0.ordered
    fault_lies (type.flags names) (at p empty_braces) h f = absurd f
    fault_lies (type.flags names) (at p _) h f = whole p q f.1 h.0.1.0.ordered
    fault_lies (type.map K V) (at p (entries es)) h f = let e = some_entry _ es p.start p.end h.1 f in entry_lies K V p.start p.end e.0 (λ u g w. fault_lies V u g w) e.2 e.1
    fault_lies (type.map K V) (at p no_fields) h f = absurd f
    fault_lies (type.map K V) (at p empty_braces) h f = absurd f
    fault_lies (type.map K V) (at p _) h f = whole p q f.1 h.0.1.0.ordered

    each_lies : (Ts : Types) (ts : PlacedTrees) (from to : ℕ) → SpellsAll source from to ts → FaultOfItem Ts (placed_list ts) k q → Lies from to q
    each_lies no_types ts from to h f = absurd f
    each_lies (type_and T more) no_more from to h f = absurd f
    each_lies (type_and T more) (and_then t others) from to h (inl f) = wider from to (span_of t).start (span_of t).end q h.0.0 h.0.1 (fault_lies T t h.1 f)
    each_lies (type_and T more) (and_then t others) from to h (inr f) =
        let a = h.0.0 in let b = each_ordered t h.1 in
        wider from to (span_of t).end to q (omega arith) (omega arith) (each_lies more others (span_of t).end to h.2 f)

    fields_lie : (fs : Fields) (es : PlacedEntries) (from to : ℕ) → SpellsEntries source from to es → FaultOfField fs (entry_list es) k q → Lies from to q
    fields_lie type.no_fields es from to h f = absurd f
    fields_lie (field name T more) es from to h (inl f) =
        let e = some_entry _ es from to h f in
        wider from to (span_of e.0.value).start (span_of e.0.value).end q e.2.value.0 e.2.value.1 (fault_lies T e.0.value e.2.spells e.1.1)
    fields_lie (field name T more) es from to h (inr f) = fields_lie more es from to h f

    case_lies : (cs : Cases) (name : List ℕ) (payload : MaybePlaced) (p : Range ℕ) (from to : ℕ) → p.start ≤ p.end → p.start ≤ from → to ≤ p.end → SpellsMaybe source from to payload → FaultOfCase cs name payload p k q → Lies p.start p.end q
    case_lies no_cases name payload p from to o a b h f = whole p q f.1 o
    case_lies (case_of other T more) name payload p from to o a b h (inl f) = payload_lies T name payload p from to o a b h f.1
    case_lies (case_of other T more) name payload p from to o a b h (inr f) = case_lies more name payload p from to o a b h f.1

    payload_lies : (A : MaybeType) (name : List ℕ) (payload : MaybePlaced) (p : Range ℕ) (from to : ℕ) → p.start ≤ p.end → p.start ≤ from → to ≤ p.end → SpellsMaybe source from to payload → FaultOfPayload name A payload p k q → Lies p.start p.end q
    payload_lies no_type name no_placed p from to o a b h f = absurd f
    payload_lies no_type name (a_placed t) p from to o a b h f = whole p q f.1 o
    payload_lies (a_type T) name no_placed p from to o a b h f = whole p q f.1 o
    payload_lies (a_type T) name (a_placed t) p from to o a b h f =
        let c = h.0.0 in let d = h.0.1 in
        wider p.start p.end (span_of t).start (span_of t).end q (omega arith) (omega arith) (fault_lies T t h.1 f)

    flat_lies : (A : MaybeType) (t : SpannedTree) → SpellsEach source t → FaultOfFlat A t k q → Lies (span_of t).start (span_of t).end q
    flat_lies no_type (at p s) h f = whole p q f.1 h.0.1.0.ordered
    flat_lies (a_type T) (at p s) h (inl f) = whole p q f.1.1 h.0.1.0.ordered
    flat_lies (a_type T) (at p s) h (inr f) = fault_lies T (at p s) h f.1

-- a fault of type lies in the source
pub faults_lie : FaultsLieInText
faults_lie source T t k q h f =
    let l = fault_lies source k q T t h f in
    let e = each_ordered source k q t h in
    let last = ends source t h in
    (l.1, omega (arith, l.2, last))
  where
    ends : (source : List ℕ) (t : SpannedTree) → SpellsEach source t → (span_of t).end ≤ length source
    ends source (at p s) h = h.0.1.0.last.0
