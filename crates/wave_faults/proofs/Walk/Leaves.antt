-- What is told of values of one token and of keys.
use Rattle.std.proofs.Common.{ℕ, ℤ, ◌≡◌, ◌≢◌, inl, inr, Bool, true, false, List, [], ◌∷◌, Option, Some, None, refl, sym, ap, ◌∙◌, subst}
use Rattle.std.specs.declared.ops.Range.{Range}
use Rattle.wave_wasm.specs.Types as type
use Rattle.wave_wasm.specs.Types.{TypeTree, Simple, Whole, simple_kind, whole_kind, kind_of}
use Rattle.wave_wasm.specs.declared.wasm.WasmTypeKind.{WasmTypeKind}
use Rattle.wave_wasm.specs.declared.wasm.WasmTypeKind.TheVariants as kinds
use Rattle.wave_wasm.specs.Values as value
use Rattle.wave_wasm.specs.Values.{Value, Leaf}
use Rattle.wave_wasm.specs.Text.{bool_text}
use Rattle.wave_lex.specs.Errors.{Diagnostic, refusal_of, Says, with_detail}
use Rattle.wave_lex.specs.declared.error.ParserErrorKind.TheVariants.{InvalidType, OutOfMemory}
use Rattle.wave_grammar.specs.Token.{Token}
use Rattle.wave_grammar.specs.Token as token
use Rattle.wave_grammar.specs.Tree as tree
use Rattle.wave_grammar.specs.LeafTokens.{Spells, name_of}
use Rattle.wave_grammar.specs.Elaborates.{SimpleTree}
use Rattle.wave_grammar.specs.SpannedTree.{SpannedTree, at, one, span_of, shape_of, tree_of}
use Rattle.wave_grammar.specs.TypeErrors.{SpellsNoLeaf, LeafFault, LoneKeyFault, MapKeyFault, OfForm, one_in, names_in, key_expected}
use Rattle.wave_grammar.specs.FaultOrder.{in_text, FirstFault}
use Rattle.wave_grammar.specs.NodeTree.{NodeTree, type_of, place_of}
use Rattle.wave_grammar.specs.Nodes.{placed_of, IsTokenOf}
use Rattle.wave_grammar.specs.NodeAccessors.{node_text, bool_type}
use Rattle.wave_grammar.specs.TypedReading.{IsBlamed, IsKeyBlamed}
use Rattle.wave_grammar.proofs.ByKind.Leaves.{said, bool_read, bool_fault, number_read, number_blame}
use Rattle.wave_grammar.proofs.ByKind.TextLeaves.{char_read, char_blame, string_read, string_blame}
use Rattle.wave_grammar.proofs.ByKind.Keys.{IsKeyToken, key_token, key_at, label_is, bool_key, no_bool_key, number_key, no_number_key}
use Rattle.wave_grammar.proofs.ByKind.TextKeys.{char_key, no_char_key, string_key, string_key_blame, no_spelling}
use Rattle.wave_grammar.proofs.Fields.Entries.{label_token}
use Rattle.wave_grammar.specs.declared.form.NodeType.{NodeType}
use Rattle.wave_grammar.specs.declared.form.NodeType.TheVariants as kind
use Rattle.wave_faults.specs.AllFaults.{WithinForm, OfLeaf, AreFaults}
use Rattle.wave_faults.specs.Private.LeafAnswers.{AnswersLeaf, errors_in}

-- ---- values

token_is : (a b : Token) → tree.one a ≡ tree.one b → a ≡ b
token_is a b e = cc

-- a tree that is given a value of a simple type has no fault
simple_fine : (S : Simple) (t : SpannedTree) (v : Value) → SimpleTree S (tree_of t) v → AreFaults (type.simple S) t []
simple_fine S (at p (one token)) v (other, l, e, spelled, f) = (l, subst (λ (u : Token). Spells S u l) (sym (token_is token other e)) spelled)
simple_fine S (at p _) v (other, l, e, spelled, f) = absurd (cc e)

fault_told : (S : Simple) (o : Option Token) (p : Range ℕ) (e : Diagnostic) → OfForm o p (LeafFault S p) (refusal_of e) e.span → WithinForm o p (λ token. OfLeaf S token (LeafFault S p token)) (e ∷ [])
fault_told S None p e h = h
fault_told S (Some token) p e h = h

first_told : (S : Simple) (t : SpannedTree) (e : Diagnostic) → FirstFault in_text in_text (type.simple S) t (refusal_of e) e.span → AreFaults (type.simple S) t (e ∷ [])
first_told S t e h = fault_told S (one_in (shape_of t)) (span_of t) e h

-- every type has all its values
abbrev AnyType : TypeTree → Type 0
AnyType T = Unit {0}

blamed_told : (S : Simple) (t : SpannedTree) (e : Diagnostic) → e.kind ≢ OutOfMemory → IsBlamed AnyType in_text in_text (type.simple S) t e → AreFaults (type.simple S) t (e ∷ [])
blamed_told S t e some (inl none) = absurd (some none)
blamed_told S t e some (inr (inl h)) = first_told S t e h
blamed_told S t e some (inr (inr h)) = absurd (h.1 tt)

-- what a node answers at a simple type is what is told of it
pub leaf_told : (S : Simple) (source : List ℕ) (n : NodeTree) (t : SpannedTree) (o : Option Diagnostic) → placed_of source n ≡ Some t → AnswersLeaf S source n o → AreFaults (type.simple S) t (errors_in o)
leaf_told type.bool source n t None is (b, g) = simple_fine type.bool t (value.leaf (value.bool b)) (bool_read source n t b is g)
leaf_told type.bool source n t (Some e) is g = first_told type.bool t e (bool_fault in_text in_text source n t (refusal_of e) e.span is g.0 (said g.1))
leaf_told (type.whole which) source n t None is (z, g) = simple_fine (type.whole which) t (value.leaf (value.whole which z)) (number_read which source n t z is g.0 g.1)
leaf_told (type.whole which) source n t (Some e) is g = first_told (type.whole which) t e (number_blame in_text in_text which (λ (x : ℤ). x) source n t e is g)
leaf_told type.char source n t None is (c, g) = simple_fine type.char t (value.leaf (value.char c)) (char_read source n t c is g.0 g.1)
leaf_told type.char source n t (Some e) is g = first_told type.char t e (char_blame in_text in_text source n t e is g)
leaf_told type.string source n t None is (s, g) = simple_fine type.string t (value.leaf (value.string s)) (string_read source n t s is g)
leaf_told type.string source n t (Some e) is g = blamed_told type.string t e g.1 (string_blame AnyType in_text in_text (type.simple type.string) source n t e refl is g.0)

-- ---- keys

no_bool_node : (b : Bool) (ty : NodeType) (text : List ℕ) (key : Token) → IsKeyToken ty text key → ty ≡ bool_type b → ⊥
no_bool_node true ty text (token.label w) h e = cc (sym h.0 ∙ e)
no_bool_node true ty text (token.number w) h e = cc (sym h.0 ∙ e)
no_bool_node true ty text (token.char w) h e = cc (sym h.0 ∙ e)
no_bool_node true ty text (token.string w) h e = cc (sym h.0 ∙ e)
no_bool_node true ty text (token.multiline w) h e = cc (sym h.0 ∙ e)
no_bool_node true ty text _ h e = h
no_bool_node false ty text (token.label w) h e = cc (sym h.0 ∙ e)
no_bool_node false ty text (token.number w) h e = cc (sym h.0 ∙ e)
no_bool_node false ty text (token.char w) h e = cc (sym h.0 ∙ e)
no_bool_node false ty text (token.string w) h e = cc (sym h.0 ∙ e)
no_bool_node false ty text (token.multiline w) h e = cc (sym h.0 ∙ e)
no_bool_node false ty text _ h e = h

no_names : (ty : NodeType) (text : List ℕ) (key : Token) → IsKeyToken ty text key → ty ≢ kind.Label → names_in key ≡ []
no_names ty text (token.label w) h apart = absurd (apart h.0)
no_names ty text _ h apart = refl

-- a key that is no label gives no name
pub nameless : (source : List ℕ) (n : NodeTree) (p : Range ℕ) (key : Token) → IsTokenOf source n p key → type_of n ≢ kind.Label → names_in key ≡ []
nameless source n p key h apart = no_names (type_of n) (node_text source n) key (key_token source n p key h) apart

-- a label gives its name
pub named : (source : List ℕ) (n : NodeTree) (p : Range ℕ) (key : Token) → IsTokenOf source n p key → type_of n ≡ kind.Label → names_in key ≡ name_of (node_text source n) ∷ []
named source n p key h is = ap names_in (label_token source n p key h is)

lone_told : (S : Simple) (source : List ℕ) (n : NodeTree) (p : Range ℕ) (key : Token) (e : Diagnostic) → IsTokenOf source n p key → type_of n ≢ kind.Label → LoneKeyFault S p key (refusal_of e) e.span → OfLeaf S key (MapKeyFault S p key) (e ∷ [])
lone_told S source n p key e h apart (inl g) = absurd (g.0 (nameless source n p key h apart))
lone_told S source n p key e h apart (inr g) = inr g

key_blamed : (S : Simple) (source : List ℕ) (n : NodeTree) (p : Range ℕ) (key : Token) (e : Diagnostic) → IsTokenOf source n p key → type_of n ≢ kind.Label → e.kind ≢ OutOfMemory → IsKeyBlamed AnyType S p key e → OfLeaf S key (MapKeyFault S p key) (e ∷ [])
key_blamed S source n p key e h apart some (inl none) = absurd (some none)
key_blamed S source n p key e h apart some (inr (inl g)) = lone_told S source n p key e h apart g
key_blamed S source n p key e h apart some (inr (inr g)) = absurd (g.1 tt)

-- what a key that is no label answers is what is told of it
pub key_told : (S : Simple) (source : List ℕ) (n : NodeTree) (p : Range ℕ) (key : Token) (o : Option Diagnostic) → IsTokenOf source n p key → type_of n ≢ kind.Label → AnswersLeaf S source n o → OfLeaf S key (MapKeyFault S p key) (errors_in o)
key_told type.bool source n p key None h apart (b, g) = absurd (no_bool_node b (type_of n) (node_text source n) key (key_token source n p key h) g)
key_told type.bool source n p key (Some e) h apart g = lone_told type.bool source n p key e h apart (no_bool_key source n p key e h ((λ b labelled. absurd (apart labelled)), g.1))
key_told (type.whole which) source n p key None h apart (z, g) = (value.whole which z, number_key which (λ (x : ℤ). x) source n p key z h g)
key_told (type.whole which) source n p key (Some e) h apart g = lone_told (type.whole which) source n p key e h apart (no_number_key which (λ (x : ℤ). x) source n p key e h g)
key_told type.char source n p key None h apart (c, g) = (value.char c, char_key source n p key c h g)
key_told type.char source n p key (Some e) h apart g = lone_told type.char source n p key e h apart (no_char_key source n p key e h g)
key_told type.string source n p key None h apart (s, g) = (value.string s, string_key source n p key s h g)
key_told type.string source n p key (Some e) h apart g = key_blamed type.string source n p key e h apart g.1 (string_key_blame AnyType source n p key e h g.0)

-- the kind of bool is that of no other simple type
only_bool : (K : Simple) → kinds.Bool ≡ simple_kind K → K ≡ type.bool
only_bool type.bool e = refl
only_bool (type.whole type.s8) e = absurd (cc e)
only_bool (type.whole type.s16) e = absurd (cc e)
only_bool (type.whole type.s32) e = absurd (cc e)
only_bool (type.whole type.s64) e = absurd (cc e)
only_bool (type.whole type.u8) e = absurd (cc e)
only_bool (type.whole type.u16) e = absurd (cc e)
only_bool (type.whole type.u32) e = absurd (cc e)
only_bool (type.whole type.u64) e = absurd (cc e)
only_bool type.char e = absurd (cc e)
only_bool type.string e = absurd (cc e)

-- a label that is a bool's word
pub bool_told : (K : Simple) (T : TypeTree) (k : WasmTypeKind) (source : List ℕ) (n : NodeTree) (p : Range ℕ) (key : Token) (b : Bool) → k ≡ kind_of T → T ≡ type.simple K → k ≡ kinds.Bool → IsTokenOf source n p key → type_of n ≡ kind.Label → node_text source n ≡ bool_text b → OfLeaf K key (MapKeyFault K p key) []
bool_told K T k source n p key b is simple bool h labelled word =
    subst (λ (S : Simple). OfLeaf S key (MapKeyFault S p key) []) (sym (only_bool K (sym bool ∙ (is ∙ ap kind_of simple)))) (value.bool b, bool_key source n p key b h (labelled, word))

-- a label is a key of bools alone
label_no_leaf : (K : Simple) (w : List ℕ) → (K ≡ type.bool → (b : Bool) → w ≢ bool_text b) → SpellsNoLeaf K (token.label w)
label_no_leaf type.bool w none l s = none refl s.0 (label_is w (bool_text s.0) s.1)
label_no_leaf (type.whole which) w none l s = absurd (cc (s.2))
label_no_leaf type.char w none l s = absurd (cc (s.2))
label_no_leaf type.string w none l s = no_spelling w l s

-- any other label
pub label_told : (K : Simple) (T : TypeTree) (k : WasmTypeKind) (source : List ℕ) (n : NodeTree) (p : Range ℕ) (key : Token) (e : Diagnostic) → k ≡ kind_of T → T ≡ type.simple K → (k ≡ kinds.Bool → (b : Bool) → node_text source n ≢ bool_text b) → IsTokenOf source n p key → type_of n ≡ kind.Label
    → Says e InvalidType (place_of n) (Some (key_expected T)) → OfLeaf K key (MapKeyFault K p key) (e ∷ [])
label_told K T k source n p key e is simple none h labelled says =
    let own : key ≡ token.label (node_text source n) = label_token source n p key h labelled in
    let spells : SpellsNoLeaf K key = subst (SpellsNoLeaf K) (sym own) (label_no_leaf K (node_text source n) (λ bool. none (is ∙ (ap kind_of simple ∙ ap (λ (S : Simple). simple_kind S) bool)))) in
    inl ((λ empty. cc (sym (named source n p key h labelled) ∙ empty)), spells, (says.is ∙ ap (λ (U : TypeTree). with_detail InvalidType (Some (key_expected U))) simple, says.stands ∙ sym (key_at source n p key h)))
