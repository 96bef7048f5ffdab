-- Where refusals of nodes stand.
use Rattle.std.proofs.Common.{ℕ, ℤ, ◌≡◌, ◌+◌, ◌-◌, drop, length-take, length-append, ◌≢◌, ◌⊎◌, inl, inr, ◌≤◌, ◌<◌, List, [], ◌∷◌, length, get_or, Option, Some, Result, Ok, Err, IfErr, refl, sym, ap, ◌∙◌, subst, arith}
use Rattle.std.specs.declared.ops.Range.{Range}
use Rattle.wave_wasm.specs.Lists.{AllOf}
use Rattle.wave_wasm.specs.ValueErrors.{Cause, cause_of}
use Rattle.wave_wasm.specs.declared.wasm.WasmValueError.{WasmValueError}
use Rattle.wave_wasm.specs.declared.wasm.WasmValueError.TheVariants as error
use Rattle.wave_lex.specs.Errors.{Diagnostic, Refusal, refusal_of, refused_by, with_detail, plainly, caused, fault_detail, LiesInText, Says}
use Rattle.wave_lex.specs.declared.error.ParserErrorKind.{ParserErrorKind}
use Rattle.wave_lex.specs.declared.error.ParserErrorKind.TheVariants as why
use Rattle.wave_lex.specs.Tokenization.{Stands}
use Rattle.wave_grammar.specs.Token.{Token}
use Rattle.wave_grammar.specs.Token as token
use Rattle.wave_grammar.specs.SpannedTree.{SpannedTree, at, SpannedShape, one, tuple, list, empty_braces, no_fields, entries, flags, label, none, some, ok, err, no_placed, a_placed, PlacedEntries, entry, placed_trees, slice, span_of, LiesIn, SpellsEach, SpellsParts, SpellsAll, SpellsEntries, SpellsFlags}
use Rattle.wave_grammar.specs.NodeTree.{NodeTree, NodeTrees, node, no_nodes, node_and, node_list, type_of, place_of, children_of}
use Rattle.wave_grammar.specs.Nodes.{placed_of, pairs_of, flags_of, flag_of, key_of, IsNodeOf, IsParsedFrom}
use Rattle.wave_wasm.specs.Types.{TypeTree, Whole}
use Rattle.wave_wasm.specs.Values.{Value, Leaf}
use Rattle.wave_grammar.specs.TypedReading.{IsValueOf, IsBuilt, IsLeafBuilt}
use Rattle.wave_grammar.specs.PartReading.{IsCaused}
use Rattle.wave_grammar.specs.NodeAccessors.{node_pairs, RefusedAs, first_of, GivesNumber, GivesChar}
use Rattle.wave_grammar.specs.NodeParams.{close_of, RefusesOmitted}
use Rattle.wave_grammar.specs.declared.form.NodeType.TheVariants as node_kind
use Rattle.wave_grammar.proofs.Fields.Lookup.{not_key}
use Rattle.wave_grammar.specs.NodeStrings.{ReportsStringFault, RefusesString}
use Rattle.wave_lex.specs.Multiline.{LineFault, closing, opening, indentation, escape, fault_kind}
use Rattle.wave_grammar.specs.ErrorSpans.{HasCause, HasTypeKind, HasParamsKind, IsTypeKind, IsAtPlace, IsAtNode, IsPartOf, IsPartOfOne, LiesInNode, StandsIn, RefusesAt, RefusesIn, RefusesInPart}
use Rattle.wave_grammar.specs.declared.form.NodeType.{NodeType}
use Rattle.wave_grammar.proofs.ChildNodes.Inside.{From, inside, some_is, AreParsed, parsed, pair_parsed, key_place, flag_key, stands, all_parsed}
use Rattle.wave_grammar.proofs.ChildNodes.Entries.{both_some}
use Rattle.wave_grammar.proofs.ByKind.Lists.{HasAt}
use Rattle.wave_grammar.proofs.ByKind.Tuples.{place_has, all_has}
use Rattle.wave_grammar.proofs.ErrorSpans.Faults.{escape_inside, multiline_offset, fault_place}

-- ---- nodes within a node

-- the node stands between these places
abbrev Between : ℕ → ℕ → NodeTree → Type 0
Between from to m = LiesIn (place_of m) from to

place_is : (source : List ℕ) (n : NodeTree) (t : SpannedTree) → placed_of source n ≡ Some t → span_of t ≡ place_of n
place_is source n t e = (inside source n t e).place

between : (source : List ℕ) (n : NodeTree) (t : SpannedTree) (from to : ℕ) → placed_of source n ≡ Some t → LiesIn (span_of t) from to → Between from to n
between source n t from to e h = subst (λ (p : Range ℕ). LiesIn p from to) (place_is source n t e) h

all_wider : (a from to : ℕ) (ns : List NodeTree) → a ≤ from → AllOf (Between from to) ns → AllOf (Between a to) ns
all_wider a from to [] le h = tt
all_wider a from to (n ∷ ns) le h = ((omega (arith, h.0.0), h.0.1), all_wider a from to ns le h.1)

ordered : (source : List ℕ) (t : SpannedTree) → SpellsEach source t → (span_of t).start ≤ (span_of t).end
ordered source (at p s) h = h.0.1.0.ordered

items_between : (source : List ℕ) (ns : List NodeTree) (ts : List SpannedTree) (from to : ℕ) → AreParsed source ns ts → SpellsAll source from to (placed_trees ts) → AllOf (Between from to) ns
items_between source [] ts from to h s = tt
items_between source (n ∷ ns) [] from to h s = absurd h
items_between source (n ∷ ns) (t ∷ ts) from to h s =
    let o = ordered source t s.1 in
    let a = s.0.0 in
    (between source n t from to h.0 s.0, all_wider from (span_of t).end to ns (omega arith) (items_between source ns ts (span_of t).end to h.1 s.2))

entries_between : (source : List ℕ) (ns : List NodeTree) (cs : List SpannedTree) (es : PlacedEntries) (from to : ℕ) → AreParsed source ns cs → pairs_of cs ≡ Some es → SpellsEntries source from to es → AllOf (Between from to) ns
entries_between source [] cs es from to h e s = tt
entries_between source (n ∷ ns) [] es from to h e s = absurd h
entries_between source (n ∷ ns) (k ∷ []) es from to h e s = absurd (cc)
entries_between source (n ∷ []) (k ∷ v ∷ cs) es from to h e s = absurd h.1
entries_between source (n ∷ m ∷ ns) (k ∷ v ∷ cs) es from to h e s =
    let b = both_some (λ (key : Range ℕ × Token) (rest : PlacedEntries). entry key.0 key.1 v rest) (key_of k) (pairs_of cs) es e in
    let spelled : SpellsEntries source from to (entry b.0.0 b.0.1 v b.1) = subst (SpellsEntries source from to) b.4 s in
    let first = spelled.0.0 in
    let key = spelled.1.0.ordered in
    let behind = spelled.2.0 in
    let value = ordered source v spelled.3 in (
      subst (λ (p : Range ℕ). LiesIn p from to) (key_place source n k b.0.0 b.0.1 (inside source n k h.0) b.2) spelled.0,
      (between source m v from to h.1.0 (omega arith, spelled.2.1), all_wider from (span_of v).end to ns (omega arith) (entries_between source ns cs b.1 (span_of v).end to h.1.1 b.3 spelled.4)),
    )

flags_between : (source : List ℕ) (p : Range ℕ) (ns : List NodeTree) (cs : List SpannedTree) (fs : List (Range ℕ × List ℕ)) → AreParsed source ns cs → flags_of cs ≡ Some fs → SpellsFlags source p fs → AllOf (Between p.start p.end) ns
flags_between source p [] cs fs h e s = tt
flags_between source p (n ∷ ns) [] fs h e s = absurd h
flags_between source p (n ∷ ns) (c ∷ cs) fs h e s =
    let b = both_some (λ (f : Range ℕ × List ℕ) (more : List (Range ℕ × List ℕ)). f ∷ more) (flag_of c) (flags_of cs) fs e in
    let spelled : SpellsFlags source p (b.0 ∷ b.1) = subst (SpellsFlags source p) b.4 s in
    (subst (λ (q : Range ℕ). LiesIn q p.start p.end) (key_place source n c b.0.0 (token.label b.0.1) (inside source n c h.0) (flag_key c b.0.0 b.0.1 b.2)) spelled.0, flags_between source p ns cs b.1 h.1 b.3 spelled.2)

none_between : (source : List ℕ) (from to : ℕ) (ns : List NodeTree) (cs : List SpannedTree) → cs ≡ [] → AreParsed source ns cs → AllOf (Between from to) ns
none_between source from to [] cs e h = tt
none_between source from to (n ∷ ns) cs e h = absurd (subst (AreParsed source (n ∷ ns)) e h)

one_between : (source : List ℕ) (from to : ℕ) (ns : List NodeTree) (cs : List SpannedTree) (t : SpannedTree) → cs ≡ t ∷ [] → AreParsed source ns cs → LiesIn (span_of t) from to → AllOf (Between from to) ns
one_between source from to [] cs t e h l = tt
one_between source from to (n ∷ []) cs t e h l = (between source n t from to (subst (AreParsed source (n ∷ [])) e h).0 l, tt)
one_between source from to (n ∷ m ∷ ns) cs t e h l = absurd (subst (AreParsed source (n ∷ m ∷ ns)) e h).1

case_between : (source : List ℕ) (p q : Range ℕ) (w : List ℕ) (ns : List NodeTree) (cs : List SpannedTree) (c t : SpannedTree) → cs ≡ c ∷ t ∷ [] → flag_of c ≡ Some (q, w) → AreParsed source ns cs → LiesIn q p.start p.end → q.start ≤ q.end → LiesIn (span_of t) q.end p.end → AllOf (Between p.start p.end) ns
case_between source p q w ns cs c t e flag h first o behind =
    let k = pair_parsed source ns c t (subst (AreParsed source ns) e h) in
    let from = first.0 in
    let next = behind.0 in
    subst (AllOf (Between p.start p.end)) (sym k.2) (
      subst (λ (r : Range ℕ). LiesIn r p.start p.end) (key_place source k.0 c q (token.label w) (inside source k.0 c k.3) (flag_key c q w flag)) first,
      (between source k.1 t p.start p.end k.4 (omega arith, behind.1), tt),
    )

behind_word : (p : Range ℕ) (t : SpannedTree) → LiesIn (span_of t) (p.start + 1) p.end → LiesIn (span_of t) p.start p.end
behind_word p t l = let a = l.0 in (omega arith, l.1)

shape_between : (source : List ℕ) (ty : NodeType) (p : Range ℕ) (text : List ℕ) (cs : List SpannedTree) (s : SpannedShape) (ns : List NodeTree) → From ty p text cs s → SpellsParts source p s → AreParsed source ns cs → AllOf (Between p.start p.end) ns
shape_between source ty p text cs (one (token.label w)) ns f s h = none_between source p.start p.end ns cs f.0 h
shape_between source ty p text cs (one (token.number w)) ns f s h = none_between source p.start p.end ns cs f.0 h
shape_between source ty p text cs (one (token.char w)) ns f s h = none_between source p.start p.end ns cs f.0 h
shape_between source ty p text cs (one (token.string w)) ns f s h = none_between source p.start p.end ns cs f.0 h
shape_between source ty p text cs (one (token.multiline w)) ns f s h = none_between source p.start p.end ns cs f.0 h
shape_between source ty p text cs (one _) ns f s h = absurd f
shape_between source ty p text cs (tuple ts) ns f s h = items_between source ns cs p.start p.end h (subst (SpellsAll source p.start p.end) f.1 s)
shape_between source ty p text cs (list ts) ns f s h = items_between source ns cs p.start p.end h (subst (SpellsAll source p.start p.end) f.1 s)
shape_between source ty p text cs empty_braces ns f s h = none_between source p.start p.end ns cs f.1 h
shape_between source ty p text cs no_fields ns f s h = none_between source p.start p.end ns cs f.1 h
shape_between source ty p text cs (entries es) ns f s h = entries_between source ns cs es p.start p.end h f.2 s
shape_between source ty p text cs (flags fs) ns f s h = flags_between source p ns cs fs h f.1 s
shape_between source ty p text cs (label q w no_placed) ns f s h = none_between source p.start p.end ns cs f.3 h
shape_between source ty p text cs (label q w (a_placed t)) ns f s h = case_between source p q w ns cs f.1 t f.2 f.3 h s.0 s.1.0.ordered s.2.0
shape_between source ty p text cs none ns f s h = none_between source p.start p.end ns cs f.1 h
shape_between source ty p text cs (some t) ns f s h = one_between source p.start p.end ns cs t f.1 h (behind_word p t s.0)
shape_between source ty p text cs (ok no_placed) ns f s h = none_between source p.start p.end ns cs f.1 h
shape_between source ty p text cs (ok (a_placed t)) ns f s h = one_between source p.start p.end ns cs t f.1 h (behind_word p t s.0)
shape_between source ty p text cs (err no_placed) ns f s h = none_between source p.start p.end ns cs f.1 h
shape_between source ty p text cs (err (a_placed t)) ns f s h = one_between source p.start p.end ns cs t f.1 h (behind_word p t s.0)

children_between : (source : List ℕ) (n : NodeTree) (t : SpannedTree) → IsNodeOf source n t → AllOf (Between (place_of n).start (place_of n).end) (children_of n)
children_between source n (at r s) h =
    let i = inside source n (at r s) h.0 in
    let nodes : AreParsed source (children_of n) i.children = all_parsed source n (at r s) i in
    let parts : SpellsParts source (place_of n) s = subst (λ (p : Range ℕ). SpellsParts source p s) i.place h.1.1 in
    shape_between source (type_of n) (place_of n) (slice source (place_of n)) i.children s (children_of n) i.from parts nodes

-- the node stands within the other, and so do its parts
pub record BelongsTo (n m : NodeTree) : Type 0 where
  pub lies : LiesIn (place_of m) (place_of n).start (place_of n).end
  pub parts : (k : NodeTree) → IsPartOf k m → IsPartOf k n

belonging : (n : NodeTree) (ns : NodeTrees) → AllOf (Between (place_of n).start (place_of n).end) (node_list ns) → ((k : NodeTree) → IsPartOfOne k ns → IsPartOf k n) → AllOf (BelongsTo n) (node_list ns)
belonging n no_nodes h f = tt
belonging n (node_and m more) h f = (record { lies = h.0; parts = λ k part. f k (inl part) }, belonging n more h.1 (λ k part. f k (inr part)))

-- the children of a node belong to it
pub children_belong : (source : List ℕ) (n : NodeTree) → IsValueOf source n → AllOf (BelongsTo n) (children_of n)
children_belong source (node ty p ns) v = belonging (node ty p ns) ns (children_between source (node ty p ns) v.0 v.1) (λ k part. inr part)

-- a node is a part of itself
whole_part : (n : NodeTree) → IsPartOf n n
whole_part (node ty p ns) = inl refl

-- both nodes of an entry belong to the node
abbrev pub PairBelongs : NodeTree → NodeTree × NodeTree → Type 0
PairBelongs n pair = BelongsTo n pair.0 × BelongsTo n pair.1

pairs_belong : (n : NodeTree) (ns : List NodeTree) → AllOf (BelongsTo n) ns → AllOf (PairBelongs n) (node_pairs ns)
pairs_belong n [] h = tt
pairs_belong n (k ∷ []) h = tt
pairs_belong n (k ∷ v ∷ ns) h = ((h.0, h.1.0), pairs_belong n ns h.1.1)

-- the nodes of the entries of a node belong to it
pub entries_belong : (source : List ℕ) (n : NodeTree) → IsValueOf source n → AllOf (PairBelongs n) (node_pairs (children_of n))
entries_belong source n v = pairs_belong n (children_of n) (children_belong source n v)

-- ---- refusals at a node

-- what stands in a node, of a kind of reading at types, stands in it
pub all_stand : {V : Type 0} (n : NodeTree) (r : Result V Diagnostic) → IfErr r (RefusesIn n) → IfErr r (StandsIn n)
all_stand n (Ok w) reported = tt
all_stand n (Err e) reported = reported.0

-- and is of such a kind
pub all_kinds : {V : Type 0} (n : NodeTree) (r : Result V Diagnostic) → IfErr r (RefusesIn n) → IfErr r HasTypeKind
all_kinds n (Ok w) reported = tt
all_kinds n (Err e) reported = reported.1

node_ordered : (source : List ℕ) (n : NodeTree) → IsParsedFrom source n → (place_of n).start ≤ (place_of n).end
node_ordered source n h = (stands source n h).ordered

-- what stands at a node stands in it
pub at_in : (source : List ℕ) (n : NodeTree) (e : Diagnostic) → IsParsedFrom source n → RefusesAt n e → RefusesIn n e
at_in source n e h reported =
    let o = node_ordered source n h in
    (record { lies = subst (LiesInNode n) (sym reported.0.0) (omega arith, o, omega arith); caused = λ was. (n, whole_part n, reported.0) }, reported.1)

-- a refusal that says this is of this kind
said_kind : (e : Diagnostic) (r : Refusal) → refusal_of e ≡ r → IsTypeKind r.kind → HasTypeKind e
said_kind e r is known = subst IsTypeKind (sym (ap (λ (x : Refusal). x.kind) is)) known

-- a refusal of another kind has no cause
pub plain_kind : {detail : Option (List ℕ)} (k : ParserErrorKind) (e : Diagnostic) → k ≢ why.WasmValueError → refusal_of e ≡ with_detail k detail → HasCause e
plain_kind k e apart is = λ was. absurd (apart (sym (ap (λ (r : Refusal). r.kind) is) ∙ was))

-- a refusal for lack of memory
pub memory_at : (p : Range ℕ) (e : Diagnostic) → e.kind ≡ why.OutOfMemory → e.span ≡ p → IsAtPlace p e
memory_at p e is place = (place, λ was. absurd (cc (sym is ∙ was)))

-- so at a node
pub memory_here : (n : NodeTree) (e : Diagnostic) → e.kind ≡ why.OutOfMemory → e.span ≡ place_of n → RefusesAt n e
memory_here n e is place = (memory_at (place_of n) e is place, subst IsTypeKind (sym is) tt)

-- a constructor's refusal has its cause
pub built_cause : (c : WasmValueError) (e : Diagnostic) → refusal_of e ≡ refused_by (cause_of c) → HasCause e
built_cause (error.Memory a) e is = λ was. absurd (cc (sym (ap (λ (r : Refusal). r.kind) is) ∙ was))
built_cause c e is = λ was. (cause_of c, is)

-- and its kind
built_kind : (c : WasmValueError) (e : Diagnostic) → refusal_of e ≡ refused_by (cause_of c) → HasTypeKind e
built_kind (error.Memory a) e is = said_kind e (plainly why.OutOfMemory) is tt
built_kind c e is = said_kind e (caused (cause_of c)) is tt

-- a refusal with this cause
pub caused_at : (c : Cause) (n : NodeTree) (e : Diagnostic) → IsCaused c n e → e.span ≡ place_of n → RefusesAt n e
caused_at c n e (inl memory) place = memory_here n e memory place
caused_at c n e (inr h) place = ((place, λ was. (c, h.0)), said_kind e (caused c) h.0 tt)

-- a refusal of the kind at the node
pub refused_at : (k : ParserErrorKind) (n : NodeTree) (e : Diagnostic) → k ≢ why.WasmValueError → IsTypeKind k → RefusedAs k n e → RefusesAt n e
refused_at k n e apart known h = ((h.stands, plain_kind k e apart h.is), said_kind e (plainly k) h.is known)

-- what a constructor refused, at the node
pub built_at : {V : Type 0} (n : NodeTree) (m : Result V WasmValueError) (r : Result V Diagnostic) → IsBuilt n m r → IfErr r (RefusesAt n)
built_at n m (Ok w) is = tt
built_at n (Ok v) (Err e) is = absurd is
built_at n (Err c) (Err e) is = ((is.1, built_cause c e is.0), built_kind c e is.0)

-- what stands at the node stands in it
pub all_in : {V : Type 0} (source : List ℕ) (n : NodeTree) (r : Result V Diagnostic) → IsParsedFrom source n → IfErr r (RefusesAt n) → IfErr r (RefusesIn n)
all_in source n (Ok w) h reported = tt
all_in source n (Err e) h reported = at_in source n e h reported

-- so it stands in the node
pub built_in : {V : Type 0} (source : List ℕ) (n : NodeTree) (m : Result V WasmValueError) (r : Result V Diagnostic) → IsParsedFrom source n → IsBuilt n m r → IfErr r (RefusesIn n)
built_in source n m r h is = all_in source n r h (built_at n m r is)

-- a refusal that stands in a node of the node
pub deeper : (n m : NodeTree) (e : Diagnostic) → BelongsTo n m → RefusesIn m e → RefusesIn n e
deeper n m e b h =
    let from = b.lies.0 in
    let to = b.lies.1 in
    let first = h.0.lies.0 in
    let last = h.0.lies.2 in
    (record { lies = (omega arith, h.0.lies.1, omega arith); caused = λ was. let (k, part, reported) = h.0.caused was in (k, b.parts k part, reported) }, h.1)

-- so of the node at a place
pub deeper_at : (source : List ℕ) (n : NodeTree) (ns : List NodeTree) (i : ℕ) (m : NodeTree) (e : Diagnostic) → IsValueOf source n → ns ≡ children_of n → i < length ns → m ≡ get_or ns i m → RefusesIn m e → RefusesIn n e
deeper_at source n ns i m e v is lt here h = deeper n m e (all_has (BelongsTo n) ns i m (subst (AllOf (BelongsTo n)) (sym is) (children_belong source n v)) (place_has ns i m lt here)) h

-- so of a part
pub part_in : (source : List ℕ) (n : NodeTree) (o : Option NodeTree) (e : Diagnostic) → IsParsedFrom source n → ((m : NodeTree) → o ≡ Some m → BelongsTo n m) → RefusesInPart n o e → RefusesIn n e
part_in source n o e parsed belongs (inl reported) = at_in source n e parsed reported
part_in source n o e parsed belongs (inr h) = deeper n h.0 e (belongs h.0 h.1) h.2

-- the first of the nodes
pub first_belongs : (source : List ℕ) (n : NodeTree) (o : Option NodeTree) → IsValueOf source n → o ≡ first_of (children_of n) → (m : NodeTree) → o ≡ Some m → BelongsTo n m
first_belongs source n o v is m here = by (children_of n) (children_belong source n v) (sym is ∙ here)
  where
    by : (ns : List NodeTree) → AllOf (BelongsTo n) ns → first_of ns ≡ Some m → BelongsTo n m
    by [] h e = absurd (cc)
    by (x ∷ xs) h e = subst (BelongsTo n) (some_is x m e) h.0

-- a node lies in the source
pub node_in_text : (source : List ℕ) (n : NodeTree) → IsParsedFrom source n → LiesInText source (place_of n)
node_in_text source n h = let s = stands source n h in (s.ordered, s.last.0)

-- so does what stands at it
pub at_in_text : (source : List ℕ) (n : NodeTree) (e : Diagnostic) → IsParsedFrom source n → IsAtNode n e → LiesInText source e.span
at_in_text source n e parsed reported = subst (LiesInText source) (sym reported.0) (node_in_text source n parsed)

-- ---- what accessors refuse

pub number_at : {N : Type 0} (which : Whole) (number : N → ℤ) (source : List ℕ) (n : NodeTree) (e : Diagnostic) → GivesNumber which number source n (Err e) → RefusesAt n e
number_at which number source n e (inl h) = refused_at why.InvalidType n e (λ k. cc) tt h.1
number_at which number source n e (inr h) = refused_at why.InvalidValue n e (λ k. cc) tt h.2

pub char_at : (source : List ℕ) (n : NodeTree) (e : Diagnostic) → GivesChar source n (Err e) → RefusesAt n e
char_at source n e (inl h) = refused_at why.InvalidType n e (λ k. cc) tt h.1
char_at source n e (inr h) = refused_at why.InvalidEscape n e (λ k. cc) tt h.2

pub form_at : (n : NodeTree) (e : Diagnostic) → RefusedAs why.InvalidType n e → RefusesAt n e
form_at n e h = refused_at why.InvalidType n e (λ k. cc) tt h

text_fits : (source : List ℕ) (p : Range ℕ) → p.start ≤ p.end → p.start + length (slice source p) ≤ p.end
text_fits source p o = let a = length-take (p.end - p.start) (drop p.start source) in omega arith

fault_plain : (f : LineFault) (e : Diagnostic) → refusal_of e ≡ with_detail (fault_kind f) (fault_detail f) → e.kind ≢ why.WasmValueError
fault_plain closing e is was = cc (sym (ap (λ (r : Refusal). r.kind) is) ∙ was)
fault_plain opening e is was = cc (sym (ap (λ (r : Refusal). r.kind) is) ∙ was)
fault_plain (indentation i) e is was = cc (sym (ap (λ (r : Refusal). r.kind) is) ∙ was)
fault_plain (escape i) e is was = cc (sym (ap (λ (r : Refusal). r.kind) is) ∙ was)

fault_type_kind : (f : LineFault) → IsTypeKind (fault_kind f)
fault_type_kind closing = tt
fault_type_kind opening = tt
fault_type_kind (indentation i) = tt
fault_type_kind (escape i) = tt

string_fault_in : (source : List ℕ) (n : NodeTree) (e : Diagnostic) → IsParsedFrom source n → ReportsStringFault source n e → RefusesIn n e
string_fault_in source n e h (inl (ty, x, i, own, bad, tells)) =
    let fits = text_fits source (place_of n) (node_ordered source n h) in
    let bytes = ap length own in
    let parts = length-append x (34 ∷ []) in
    let before = escape_inside x i bad in (
      record {
        lies = subst (LiesInNode n) (sym tells.at) (omega arith, omega arith, omega arith);
        caused = λ was. absurd (cc (sym (ap (λ (r : Refusal). r.kind) tells.refusal) ∙ was));
      },
      said_kind e (plainly why.InvalidEscape) tells.refusal tt,
    )
string_fault_in source n e h (inr (ty, x, f, own, bad, tells)) =
    let fits = text_fits source (place_of n) (node_ordered source n h) in
    let bytes = ap length own in
    let parts = length-append x (34 ∷ 34 ∷ 34 ∷ []) in
    let place = fault_place ((place_of n).start + 3) (length x) f (multiline_offset x f bad) in
    let from = place.0 in
    let to = place.2 in (
      record {
        lies = subst (LiesInNode n) (sym tells.at) (omega arith, place.1, omega arith);
        caused = λ was. absurd (fault_plain f e tells.refusal was);
      },
      said_kind e (with_detail (fault_kind f) (fault_detail f)) tells.refusal (fault_type_kind f),
    )

pub string_in : (source : List ℕ) (n : NodeTree) (e : Diagnostic) → IsParsedFrom source n → RefusesString source n e → RefusesIn n e
string_in source n e h (inl reported) = at_in source n e h (form_at n e reported.2)
string_in source n e h (inr (inl reported)) = string_fault_in source n e h reported
string_in source n e h (inr (inr reported)) = at_in source n e h (refused_at why.OutOfMemory n e (λ k. cc) tt reported.0)

-- ---- parts that accessors give

-- a node of entries is that of a value
pub set_value : (source : List ℕ) (n : NodeTree) → IsParsedFrom source n → type_of n ≡ node_kind.TupleSet → IsValueOf source n
set_value source n (inl v) set = v
set_value source n (inr k) set = absurd (not_key source n k.2.0.0 k.0 k.1 (inside source n k.2.0.0 k.2.0.1) k.2.0.2 set)

-- the key of an entry
pub key_belongs : (source : List ℕ) (n : NodeTree) (ns : List NodeTree) (i : ℕ) (k v : NodeTree) → IsParsedFrom source n → type_of n ≡ node_kind.TupleSet → ns ≡ children_of n → HasAt (node_pairs ns) i (k, v) → BelongsTo n k
key_belongs source n ns i k v h set is here =
    (all_has (PairBelongs n) (node_pairs ns) i (k, v) (subst (λ (l : List NodeTree). AllOf (PairBelongs n) (node_pairs l)) (sym is) (entries_belong source n (set_value source n h set))) here).0

-- ---- parameters

-- the close of a node lies in the source
pub close_lies : (source : List ℕ) (n : NodeTree) → IsParsedFrom source n → LiesInText source (close_of n)
close_lies source n h = let l = node_in_text source n h in (omega arith, l.1)

-- a refusal without a cause
pub said_plain : (e : Diagnostic) (k : ParserErrorKind) (p : Range ℕ) (detail : Option (List ℕ)) → k ≢ why.WasmValueError → Says e k p detail → IsAtPlace p e
said_plain e k p detail apart says = (says.stands, plain_kind k e apart says.is)

-- out of memory, or a refusal without a cause
pub memory_or_plain : (e : Diagnostic) (k : ParserErrorKind) (p : Range ℕ) (detail : Option (List ℕ)) → k ≢ why.WasmValueError → (e.kind ≡ why.OutOfMemory) ⊎ Says e k p detail → e.span ≡ p → IsAtPlace p e
memory_or_plain e k p detail apart (inl memory) place = memory_at p e memory place
memory_or_plain e k p detail apart (inr says) place = said_plain e k p detail apart says

-- so at a node, of a kind of reading at types
pub said_here : (n : NodeTree) (e : Diagnostic) (k : ParserErrorKind) (detail : Option (List ℕ)) → k ≢ why.WasmValueError → IsTypeKind k → Says e k (place_of n) detail → RefusesAt n e
said_here n e k detail apart known says = (said_plain e k (place_of n) detail apart says, said_kind e (with_detail k detail) says.is known)

-- or out of memory
pub memory_or_said : (n : NodeTree) (e : Diagnostic) (k : ParserErrorKind) (detail : Option (List ℕ)) → k ≢ why.WasmValueError → IsTypeKind k → (e.kind ≡ why.OutOfMemory) ⊎ Says e k (place_of n) detail → e.span ≡ place_of n → RefusesAt n e
memory_or_said n e k detail apart known (inl memory) place = memory_here n e memory place
memory_or_said n e k detail apart known (inr says) place = said_here n e k detail apart known says

-- what stands in a node lies in the source
pub all_in_text : {X : Type 0} (source : List ℕ) (n : NodeTree) (r : Result X Diagnostic) → IsParsedFrom source n → IfErr r (RefusesIn n) → IfErr r (λ e. LiesInText source e.span)
all_in_text source n (Ok x) h reported = tt
all_in_text source n (Err e) h reported =
    let own = node_in_text source n h in
    let last = reported.0.lies.2 in
    (reported.0.lies.1, omega (arith, own.1, last))

-- what stands at a place of the source lies in it
pub all_at_text : {X : Type 0} (source : List ℕ) (p : Range ℕ) (r : Result X Diagnostic) → Stands source p.start p.end → IfErr r (IsAtPlace p) → IfErr r (λ e. LiesInText source e.span)
all_at_text source p (Ok x) h reported = tt
all_at_text source p (Err e) h reported = subst (LiesInText source) (sym reported.0) (h.ordered, h.last.0)

-- a refusal at a place is one with a cause there, where it is a `WasmValueError`
pub all_at_cause : {X : Type 0} (p : Range ℕ) (r : Result X Diagnostic) → IfErr r (IsAtPlace p) → IfErr r (λ e. e.kind ≡ why.WasmValueError → IsAtPlace p e)
all_at_cause p (Ok x) reported = tt
all_at_cause p (Err e) reported = λ was. reported

-- ---- leaves and keys

-- what was answered for a leaf stands at the node
pub leaf_at : {V : Type 0} (tree : V → Value) (of : V → TypeTree → Type 0) (Full : TypeTree → Type 0) (leaf : Leaf) (n : NodeTree) (r : Result V Diagnostic) → IsLeafBuilt tree of Full leaf n r → IfErr r (RefusesAt n)
leaf_at tree of Full leaf n r h = built_at n h.0 r h.3

-- the same refusal of a key, or `InvalidType` where it stood, or out of memory
pub reported_in : {V : Type 0} (source : List ℕ) (n : NodeTree) (r : Result V Diagnostic) (e f : Diagnostic) → IsParsedFrom source n → r ≡ Err e → IfErr r (RefusesIn n) → (f.kind ≡ why.OutOfMemory) × (f.span ≡ place_of n) ⊎ (f ≡ e) ⊎ (f.kind ≡ why.InvalidType) × (f.span ≡ e.span) → RefusesIn n f
reported_in source n r e f parsed is h (inl memory) = at_in source n f parsed (memory_here n f memory.0 memory.1)
reported_in {V} source n r e f parsed is h (inr (inl same)) = subst (RefusesIn n) (sym same) (subst (λ (s : Result V Diagnostic). IfErr s (RefusesIn n)) is h)
reported_in {V} source n r e f parsed is h (inr (inr (form, place))) =
    let before : RefusesIn n e = subst (λ (s : Result V Diagnostic). IfErr s (RefusesIn n)) is h in
    (record { lies = subst (LiesInNode n) (sym place) before.0.lies; caused = λ was. absurd (cc (sym form ∙ was)) }, subst IsTypeKind (sym form) tt)

-- ---- kinds of the refusals of parameters

-- a refusal without a cause
pub said_params_kind : (e : Diagnostic) (p : Range ℕ) (detail : Option (List ℕ)) → Says e why.InvalidParams p detail → HasParamsKind e
said_params_kind e p detail says = inr (ap (λ (r : Refusal). r.kind) says.is)

-- a refusal of an omitted parameter
pub omitted_kind : (Full : TypeTree → Type 0) (Ts : List TypeTree) (p : Range ℕ) (e : Diagnostic) → RefusesOmitted Full Ts p e → HasTypeKind e
omitted_kind Full Ts p e (inl memory) = subst IsTypeKind (sym memory) tt
omitted_kind Full Ts p e (inr h) = subst IsTypeKind (sym h.0) tt
