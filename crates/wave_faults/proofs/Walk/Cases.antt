-- What is told of nodes with labels: cases and flags.
use Rattle.std.proofs.Common.{ℕ, zero, suc, slice_get, ◌≡◌, ◌≢◌, ◌⊎◌, inl, inr, Bool, true, false, if◌then◌else◌, List, [], ◌∷◌, map, Option, Some, None, Bor, Ok, refl, sym, ap, ◌∙◌, subst}
use Rattle.std.specs.List.{find, position}
use Rattle.std.specs.Str.{bytes_eq}
use Rattle.std.specs.declared.ops.Range.{Range}
use Rattle.std.proofs.lemmas.Slice.Eq.{bytes_eq-Decides}
use Rattle.wave_wasm.specs.Names.{IsOneOf, IsNoneOf}
use Rattle.wave_wasm.specs.Types as type
use Rattle.wave_wasm.specs.Types.{TypeTree, MaybeType, Cases, maybe_type, type_option, case_list, no_type, a_type, no_cases, case_of}
use Rattle.wave_wasm.specs.ValueErrors.{unknown_case}
use Rattle.wave_lex.specs.Errors.{Diagnostic, Refusal, refusal_of, caused}
use Rattle.wave_lex.specs.declared.error.ParserErrorKind.TheVariants.{InvalidType}
use Rattle.wave_grammar.specs.LeafTokens.{name_of}
use Rattle.wave_grammar.specs.SpannedTree.{SpannedTree, SpannedShape, at, label, flags, empty_braces, MaybePlaced, no_placed, a_placed, slice, span_of, shape_of, SpellsEach}
use Rattle.wave_grammar.specs.TypeErrors.{Fault, IsRefusalOf, RefusesFor, OfForm, flags_in, label_in}
use Rattle.wave_grammar.specs.FaultOrder.{BlamesNothing, by_type}
use Rattle.wave_grammar.specs.NodeTree.{NodeTree, type_of, place_of, children_of}
use Rattle.wave_grammar.specs.Nodes.{placed_of, IsNodeOf}
use Rattle.wave_grammar.specs.NodeAccessors.{node_text, RefusedAs, denoted_node, GivesVariant}
use Rattle.wave_grammar.specs.NodeFlags.{names_at, AreFlags}
use Rattle.wave_grammar.specs.PartReading.{IsPayloadNodeOf}
use Rattle.wave_grammar.proofs.ChildNodes.Inside.{inside, AreParsed, all_parsed}
use Rattle.wave_grammar.proofs.ChildNodes.Cases.{case_shape, shape_at}
use Rattle.wave_grammar.proofs.ByKind.Enums.{label_node, enum_fault, unknown_fault, none_one}
use Rattle.wave_grammar.proofs.ByKind.Leaves.{said}
use Rattle.wave_grammar.proofs.ByKind.Results.{maybe_back}
use Rattle.wave_grammar.proofs.ByKind.Variants.{flag_text, CaseNode}
use Rattle.wave_grammar.proofs.NodeMeaning.Flags.{flags_given}
use Rattle.wave_read.proofs.FlagReading.PlacedNames.{stands_there}
use Rattle.wave_grammar.specs.declared.form.NodeType.TheVariants as kind
use Rattle.wave_faults.specs.AllFaults.{Telling, Alone, InTurn, AreFaults, AreFaultsOfPayload, AreFaultsOfCase}
use Rattle.wave_faults.proofs.Walk.Forms.{other_form, this_form, refused_at, no_label, no_flags, cause_at}

-- ---- cases

-- the label and the payload of a node of a case
case_node : (source : List ℕ) (n : NodeTree) (t : SpannedTree) (c u : NodeTree) → IsNodeOf source n t → type_of n ≡ kind.VariantWithPayload → children_of n ≡ c ∷ u ∷ [] → CaseNode source t (name_of (node_text source c)) (Some u)
case_node source n (at r s) c u h ty children =
    let i = inside source n (at r s) h.0 in
    let k = case_shape (place_of n) (slice source (place_of n)) i.children s (shape_at kind.VariantWithPayload source n (at r s) i ty) in
    let some : AreParsed source (children_of n) (k.name ∷ k.payload ∷ []) = subst (AreParsed source (children_of n)) k.children (all_parsed source n (at r s) i) in
    let both : AreParsed source (c ∷ u ∷ []) (k.name ∷ k.payload ∷ []) = subst (λ (ns : List NodeTree). AreParsed source ns (k.name ∷ k.payload ∷ [])) children some in
    let spelled : SpellsEach source (at r (label k.place k.text (a_placed k.payload))) = subst (λ (x : SpannedShape). SpellsEach source (at r x)) k.shape h.1 in
    record { place = k.place; text = k.text; payload = a_placed k.payload; shape = k.shape; named = sym (ap name_of (flag_text source c k.name k.place k.text (inside source c k.name both.0) k.labelled)); node = (both.1.0, spelled.1.2.1) }

-- what a node answers as a variant is its case
pub case_given : (source : List ℕ) (n : NodeTree) (t : SpannedTree) (name : Bor (List ℕ)) (payload : Option (Bor NodeTree)) → IsNodeOf source n t → GivesVariant source n (Ok (name, payload)) → CaseNode source t name.now (denoted_node payload)
case_given source n t name payload h (inl (ty, named, none)) =
    record { place = place_of n; text = node_text source n; payload = no_placed; shape = label_node source n t h.0 ty; named = named; node = subst (λ (o : Option NodeTree). IsPayloadNodeOf source o no_placed) (sym none) tt }
case_given source n t name payload h (inr (c, u, ty, children, named, some, value)) =
    let k = case_node source n t c u h ty children in
    record { place = k.place; text = k.text; payload = k.payload; shape = k.shape; named = named ∙ k.named; node = subst (λ (o : Option NodeTree). IsPayloadNodeOf source o k.payload) (sym some) k.node }

pub variant_refused : (source : List ℕ) (n : NodeTree) (t : SpannedTree) (cs : Cases) (e : Diagnostic) → placed_of source n ≡ Some t → type_of n ≢ kind.Label → type_of n ≢ kind.VariantWithPayload → RefusedAs InvalidType n e → AreFaults (type.variant cs) t (e ∷ [])
variant_refused source n t cs e is apart other refused = other_form (label_in (shape_of t)) (span_of t) _ e (no_label source n t is apart other) (refused_at source n t e is refused)

-- what is told of a case is told of the variant
pub variant_told : (source : List ℕ) (t : SpannedTree) (cs : Cases) (name : List ℕ) (o : Option NodeTree) (errors : List Diagnostic) → (c : CaseNode source t name o) → AreFaultsOfCase cs name c.payload (span_of t) errors → AreFaults (type.variant cs) t errors
variant_told source t cs name o errors c h =
    this_form (label_in (shape_of t)) (span_of t) _ (c.text, c.payload) errors (ap label_in c.shape)
    (subst (λ (w : List ℕ). AreFaultsOfCase cs w c.payload (span_of t) errors) c.named h)

some_case : (a b : List ℕ × Option TypeTree) → Some a ≡ Some b → a ≡ b
some_case a b e = cc

-- the first case of the name
pub case_found : (cs : Cases) (name : List ℕ) (m : MaybePlaced) (p : Range ℕ) (found : List ℕ × Option TypeTree) (errors : List Diagnostic) → find (λ c. bytes_eq name c.0) (case_list cs) ≡ Some found → AreFaultsOfPayload name (maybe_type found.1) m p errors → AreFaultsOfCase cs name m p errors
case_found no_cases name m p found errors e h = absurd (cc e)
case_found (case_of other A more) name m p found errors e h = by (bytes_eq name other) refl (λ there. case_found more name m p found errors there h) e
  where
    by : (b : Bool) → bytes_eq name other ≡ b → (find (λ c. bytes_eq name c.0) (case_list more) ≡ Some found → AreFaultsOfCase more name m p errors) → (if b then Some (other, type_option A) else find (λ c. bytes_eq name c.0) (case_list more)) ≡ Some found → AreFaultsOfCase (case_of other A more) name m p errors
    by true is others there =
        let same : maybe_type found.1 ≡ A = sym (ap (λ (c : List ℕ × Option TypeTree). maybe_type c.1) (some_case (other, type_option A) found there)) ∙ maybe_back A in
        inl ((bytes_eq-Decides name other).0 is, subst (λ (B : MaybeType). AreFaultsOfPayload name B m p errors) same h)
    by false is others there = inr ((λ same. cc (sym is ∙ (bytes_eq-Decides name other).1 same)), others there)

-- no case of the name
pub case_missing : (cs : Cases) (name : List ℕ) (m : MaybePlaced) (p : Range ℕ) (errors : List Diagnostic) → find (λ c. bytes_eq name c.0) (case_list cs) ≡ None → Alone (RefusesFor (unknown_case name) p) errors → AreFaultsOfCase cs name m p errors
case_missing no_cases name m p errors e h = h
case_missing (case_of other A more) name m p errors e h = by (bytes_eq name other) refl (λ there. case_missing more name m p errors there h) e
  where
    by : (b : Bool) → bytes_eq name other ≡ b → (find (λ c. bytes_eq name c.0) (case_list more) ≡ None → AreFaultsOfCase more name m p errors) → (if b then Some (other, type_option A) else find (λ c. bytes_eq name c.0) (case_list more)) ≡ None → AreFaultsOfCase (case_of other A more) name m p errors
    by true is others there = absurd (cc there)
    by false is others there = inr ((λ same. cc (sym is ∙ (bytes_eq-Decides name other).1 same)), others there)

-- ---- enums

pub enum_refused : (source : List ℕ) (n : NodeTree) (t : SpannedTree) (names : List (List ℕ)) (e : Diagnostic) → placed_of source n ≡ Some t → type_of n ≢ kind.Label → RefusedAs InvalidType n e → AreFaults (type.enum names) t (e ∷ [])
enum_refused source n t names e is apart refused = enum_fault by_type by_type names source n t (refusal_of e) e.span is apart (said refused)

enum_none : (names : List (List ℕ)) (p r : Range ℕ) (text : List ℕ) (s : SpannedShape) → s ≡ label r text no_placed → IsOneOf names (name_of text) → BlamesNothing (OfForm (label_in s) p (λ l k q. (l.1 ≢ no_placed) × IsRefusalOf InvalidType p k q ⊎ (l.1 ≡ no_placed) × IsNoneOf names (name_of l.0) × RefusesFor (unknown_case (name_of l.0)) p k q))
enum_none names p r text s e one k q f = by (subst (λ (x : SpannedShape). OfForm (label_in x) p (λ l k q. (l.1 ≢ no_placed) × IsRefusalOf InvalidType p k q ⊎ (l.1 ≡ no_placed) × IsNoneOf names (name_of l.0) × RefusesFor (unknown_case (name_of l.0)) p k q) k q) e f)
  where
    by : (no_placed ≢ no_placed) × IsRefusalOf InvalidType p k q ⊎ (no_placed ≡ no_placed) × IsNoneOf names (name_of text) × RefusesFor (unknown_case (name_of text)) p k q → ⊥
    by (inl g) = g.0 refl
    by (inr g) = none_one names (name_of text) g.1 one

-- a label that is a case
pub enum_fine : (source : List ℕ) (n : NodeTree) (t : SpannedTree) (names : List (List ℕ)) (name : List ℕ) → placed_of source n ≡ Some t → type_of n ≡ kind.Label → name ≡ name_of (node_text source n) → IsOneOf names name → AreFaults (type.enum names) t []
enum_fine source n t names name is ty named one =
    enum_none names (span_of t) (place_of n) (node_text source n) (shape_of t) (label_node source n t is ty) (subst (IsOneOf names) named one)

-- a label that is none
pub enum_unknown : (source : List ℕ) (n : NodeTree) (t : SpannedTree) (names : List (List ℕ)) (name : List ℕ) (k : Refusal) (q : Range ℕ) → placed_of source n ≡ Some t → type_of n ≡ kind.Label → name ≡ name_of (node_text source n) → IsNoneOf names name → (k ≡ caused (unknown_case name)) × (q ≡ place_of n) → Fault (type.enum names) t k q
enum_unknown source n t names name k q is ty named none refused =
    let here = cause_at source n t (caused (unknown_case name)) k q is refused in
    unknown_fault by_type by_type names t (place_of n) (node_text source n) k q (label_node source n t is ty) (subst (IsNoneOf names) named none) (subst (λ (w : List ℕ). RefusesFor (unknown_case w) (span_of t) k q) named here)

-- ---- flags

pub flags_refused : (source : List ℕ) (n : NodeTree) (t : SpannedTree) (names : List (List ℕ)) (e : Diagnostic) → placed_of source n ≡ Some t → type_of n ≢ kind.Flags → type_of n ≢ kind.EmptySet → RefusedAs InvalidType n e → AreFaults (type.flags names) t (e ∷ [])
flags_refused source n t names e is apart other refused = other_form (flags_in (shape_of t)) (span_of t) _ e (no_flags source n t is apart other) (refused_at source n t e is refused)

-- what is told of a flag of this name
abbrev pub OfFlag : List (List ℕ) → Range ℕ → List ℕ → Telling
OfFlag names p name = Alone (λ k q. IsNoneOf names name × RefusesFor (unknown_case name) p k q)

mapped : {X Y : Type 0} (f : X → Y) (F : Y → Telling) (xs : List X) (errors : List Diagnostic) → InTurn F (map f xs) errors → InTurn (λ x. F (f x)) xs errors
mapped f F [] errors h = h
mapped f F (x ∷ xs) errors (ones, others, is, h, more) = (ones, others, is, h, mapped f F xs others more)

flags_are : (s : SpannedShape) (labels : List (Range ℕ × List ℕ)) → (s ≡ empty_braces) × (labels ≡ []) ⊎ (s ≡ flags labels) → flags_in s ≡ Some labels
flags_are s labels (inl (e, none)) = ap flags_in e ∙ ap (λ (l : List (Range ℕ × List ℕ)). Some l) (sym none)
flags_are s labels (inr e) = ap flags_in e

-- what is told of each name is told of the flags
pub flags_told : (source : List ℕ) (n : NodeTree) (t : SpannedTree) (names : List (List ℕ)) (errors : List Diagnostic) → IsNodeOf source n t → AreFlags n → InTurn (OfFlag names (place_of n)) (names_at source (children_of n)) errors → AreFaults (type.flags names) t errors
flags_told source n t names errors h are told =
    let f = flags_given source n t h are in
    let here : InTurn (OfFlag names (span_of t)) (names_at source (children_of n)) errors = subst (λ (p : Range ℕ). InTurn (OfFlag names p) (names_at source (children_of n)) errors) (sym (inside source n t h.0).place) told in
    this_form (flags_in (shape_of t)) (span_of t) _ f.labels errors (flags_are (shape_of t) f.labels f.form)
    (mapped (λ (l : Range ℕ × List ℕ). name_of l.1) (OfFlag names (span_of t)) f.labels errors (subst (λ (ns : List (List ℕ)). InTurn (OfFlag names (span_of t)) ns errors) f.names here))

some_same : (x y : List ℕ) → Some x ≡ Some y → x ≡ y
some_same x y e = cc

one_there : (names : List (List ℕ)) (place : ℕ) (name : List ℕ) → slice_get names place ≡ Some name → IsOneOf names name
one_there [] place name stands = absurd (cc)
one_there (n ∷ names) zero name stands = inl (sym (some_same n name stands))
one_there (n ∷ names) (suc place) name stands = inr (one_there names place name stands)

-- a name that stands somewhere
pub one_at : (names : List (List ℕ)) (name : List ℕ) (place : ℕ) → Some place ≡ position (bytes_eq name) names → IsOneOf names name
one_at names name place e = one_there names place name (stands_there names name place e)

-- a flag that the type has
pub flag_fine : (names : List (List ℕ)) (p : Range ℕ) (name : List ℕ) → IsOneOf names name → OfFlag names p name []
flag_fine names p name one k q f = none_one names name f.0 one
