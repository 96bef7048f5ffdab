-- What the types of chars and strings give the nodes of one token.
use Rattle.std.proofs.Common.{ℕ, ◌≡◌, ◌≢◌, ◌+◌, inl, inr, List, [], ◌∷◌, ◌++◌, Option, Some, Err, refl, sym, ap, ◌∙◌, subst, arith}
use Rattle.std.specs.declared.ops.Range.{Range}
use Rattle.std.proofs.lemmas.List.{append_cancel_left, append_cancel_right}
use Rattle.wave_wasm.specs.Types as type
use Rattle.wave_wasm.specs.Types.{TypeTree}
use Rattle.wave_wasm.specs.Values as value
use Rattle.wave_wasm.specs.Values.{Leaf}
use Rattle.wave_lex.specs.Errors.{Diagnostic, Refusal, refusal_of}
use Rattle.wave_lex.specs.declared.error.ParserErrorKind.TheVariants.{InvalidType, InvalidEscape}
use Rattle.wave_lex.specs.Tokenization.{span, three_quotes}
use Rattle.wave_lex.specs.Strings.{CharMeans, Decodes}
use Rattle.wave_lex.specs.Multiline.{DecodesLines}
use Rattle.wave_lex.proofs.StringDecoding.Faults.{bad_escape_refuses, faults_refuse}
use Rattle.wave_grammar.specs.LeafTokens.{Spells}
use Rattle.wave_grammar.specs.Token.{Token}
use Rattle.wave_grammar.specs.Token as token
use Rattle.wave_grammar.specs.Elaborates.{SimpleTree}
use Rattle.wave_grammar.specs.SpannedTree.{SpannedTree, SpannedShape, one, slice, span_of, shape_of, tree_of}
use Rattle.wave_grammar.specs.TypeErrors.{OfForm, LeafFault, IsForm, SpellsNoLeaf, StringFault, one_in}
use Rattle.wave_grammar.specs.FaultOrder.{Order, FirstFault}
use Rattle.wave_grammar.specs.NodeTree.{NodeTree, type_of, place_of}
use Rattle.wave_grammar.specs.Nodes.{placed_of}
use Rattle.wave_grammar.specs.NodeAccessors.{node_text, GivesChar}
use Rattle.wave_grammar.specs.NodeStrings.{StandsFor, ReportsStringFault, RefusesString}
use Rattle.wave_grammar.specs.TypedReading.{IsBlamed}
use Rattle.wave_grammar.proofs.ChildNodes.Inside.{From, Inside, inside}
use Rattle.wave_grammar.proofs.NodeTexts.Quoted.{IsQuotedToken, quoted_is}
use Rattle.wave_grammar.proofs.ByKind.Leaves.{leaf_read, wrong_form, at_tree, said}
use Rattle.wave_grammar.specs.declared.form.NodeType.{NodeType}
use Rattle.wave_grammar.specs.declared.form.NodeType.TheVariants as kind

-- ---- chars

-- the shape of a char
char_is : (source : List ℕ) (n : NodeTree) (t : SpannedTree) → placed_of source n ≡ Some t → type_of n ≡ kind.Char → shape_of t ≡ one (token.char (node_text source n))
char_is source n t e is =
    quoted_is source n t (token.char (node_text source n)) e (subst (λ (ty : NodeType). IsQuotedToken ty (node_text source n) (token.char (node_text source n))) (sym is) refl)

-- a node of this char
pub char_read : (source : List ℕ) (n : NodeTree) (t : SpannedTree) (c : ℕ) → placed_of source n ≡ Some t → type_of n ≡ kind.Char → CharMeans (node_text source n) c → SimpleTree type.char (tree_of t) (value.leaf (value.char c))
char_read source n t c e is means =
    leaf_read type.char t (token.char (node_text source n)) (value.char c) (char_is source n t e is) (node_text source n, c, refl, means, refl)

not_char : (ty : NodeType) (p : Range ℕ) (text : List ℕ) (cs : List SpannedTree) (s : SpannedShape) → From ty p text cs s → ty ≢ kind.Char → (t : Token) → one_in s ≡ Some t → IsForm type.char t → ⊥
not_char ty p text cs (one (token.char w)) f apart t is form = apart f.1
not_char ty p text cs (one (token.label w)) f apart t is (v, g) = cc
not_char ty p text cs (one (token.number w)) f apart t is (v, g) = cc
not_char ty p text cs (one (token.string w)) f apart t is (v, g) = cc
not_char ty p text cs (one (token.multiline w)) f apart t is (v, g) = cc
not_char ty p text cs (one _) f apart t is form = f
not_char ty p text cs _ f apart t is form = cc

-- a char of no scalar
pub no_char : (text : List ℕ) → ((c : ℕ) → CharMeans text c → ⊥) → SpellsNoLeaf type.char (token.char text)
no_char text none l (w, c, e, means, f) = none c (subst (λ (z : List ℕ). CharMeans z c) (sym (text_is text w e)) means)
  where
    text_is : (a b : List ℕ) → token.char a ≡ token.char b → a ≡ b
    text_is a b e = cc

-- the refusal of a char is a fault
pub char_blame : (o w : Order) (source : List ℕ) (n : NodeTree) (t : SpannedTree) (e : Diagnostic) → placed_of source n ≡ Some t → GivesChar source n (Err e) → FirstFault o w (type.simple type.char) t (refusal_of e) e.span
char_blame o w source n t e is (inl h) =
    let i = inside source n t is in
    wrong_form type.char (one_in (shape_of t)) (span_of t) (refusal_of e) e.span (not_char (type_of n) (place_of n) (slice source (place_of n)) i.children (shape_of t) i.from h.0) (at_tree InvalidType (place_of n) (span_of t) (refusal_of e) e.span i.place (said h.1))
char_blame o w source n t e is (inr h) =
    let i = inside source n t is in
    subst (λ (o : Option Token). OfForm o (span_of t) (LeafFault type.char (span_of t)) (refusal_of e) e.span) (ap one_in (sym (char_is source n t is h.0)))
    (inr ((node_text source n, refl), (no_char (node_text source n) h.1, at_tree InvalidEscape (place_of n) (span_of t) (refusal_of e) e.span i.place (said h.2))))

-- ---- strings

-- the shape of a string
string_is : (source : List ℕ) (n : NodeTree) (t : SpannedTree) → placed_of source n ≡ Some t → type_of n ≡ kind.String → shape_of t ≡ one (token.string (node_text source n))
string_is source n t e is =
    quoted_is source n t (token.string (node_text source n)) e (subst (λ (ty : NodeType). IsQuotedToken ty (node_text source n) (token.string (node_text source n))) (sym is) refl)

-- the shape of a multiline string
multiline_is : (source : List ℕ) (n : NodeTree) (t : SpannedTree) → placed_of source n ≡ Some t → type_of n ≡ kind.MultilineString → shape_of t ≡ one (token.multiline (node_text source n))
multiline_is source n t e is =
    quoted_is source n t (token.multiline (node_text source n)) e (subst (λ (ty : NodeType). IsQuotedToken ty (node_text source n) (token.multiline (node_text source n))) (sym is) refl)

-- a node of this text
pub string_read : (source : List ℕ) (n : NodeTree) (t : SpannedTree) (s : List ℕ) → placed_of source n ≡ Some t → StandsFor source n s → SimpleTree type.string (tree_of t) (value.leaf (value.string s))
string_read source n t s e (inl (is, means)) =
    leaf_read type.string t (token.string (node_text source n)) (value.string s) (string_is source n t e is) (node_text source n, s, inl (refl, means), refl)
string_read source n t s e (inr (is, means)) =
    leaf_read type.string t (token.multiline (node_text source n)) (value.string s) (multiline_is source n t e is) (node_text source n, s, inr (refl, means), refl)

not_string : (ty : NodeType) (p : Range ℕ) (text : List ℕ) (cs : List SpannedTree) (s : SpannedShape) → From ty p text cs s → ty ≢ kind.String → ty ≢ kind.MultilineString → (t : Token) → one_in s ≡ Some t → IsForm type.string t → ⊥
not_string ty p text cs (one (token.string w)) f apart other t is form = apart f.1
not_string ty p text cs (one (token.multiline w)) f apart other t is form = other f.1
not_string ty p text cs (one (token.label w)) f apart other t is (v, inl g) = cc
not_string ty p text cs (one (token.label w)) f apart other t is (v, inr g) = cc
not_string ty p text cs (one (token.number w)) f apart other t is (v, inl g) = cc
not_string ty p text cs (one (token.number w)) f apart other t is (v, inr g) = cc
not_string ty p text cs (one (token.char w)) f apart other t is (v, inl g) = cc
not_string ty p text cs (one (token.char w)) f apart other t is (v, inr g) = cc
not_string ty p text cs (one _) f apart other t is form = f
not_string ty p text cs _ f apart other t is form = cc

-- a token of a string with a fault of its text
text_fault : (o w : Order) (t : SpannedTree) (tok : Token) (k : Refusal) (q : Range ℕ) → shape_of t ≡ one tok → IsForm type.string tok → StringFault type.string (span_of t) tok k q → FirstFault o w (type.simple type.string) t k q
text_fault o w t tok k q e form fault =
    subst (λ (o : Option Token). OfForm o (span_of t) (LeafFault type.string (span_of t)) k q) (ap one_in (sym e)) (inr (form, fault))

-- what is wrong with the text of a string's token at the node
pub record ReportedFault (source : List ℕ) (n : NodeTree) (e : Diagnostic) : Type 0 where
  pub tok : Token
  pub own : IsQuotedToken (type_of n) (node_text source n) tok
  pub form : IsForm type.string tok
  pub wrong : StringFault type.string (place_of n) tok (refusal_of e) e.span

own_token : (ty : NodeType) (source : List ℕ) (n : NodeTree) (t : Token) → type_of n ≡ ty → IsQuotedToken ty (node_text source n) t → IsQuotedToken (type_of n) (node_text source n) t
own_token ty source n t e h = subst (λ (k : NodeType). IsQuotedToken k (node_text source n) t) (sym e) h

pub reported_fault : (source : List ℕ) (n : NodeTree) (e : Diagnostic) → ReportsStringFault source n e → ReportedFault source n e
reported_fault source n e (inl (ty, x, k, own, bad, reported)) =
    let last : (place_of n).start + 1 + k + 1 ≡ (place_of n).start + 2 + k = omega arith in
    let there : e.span ≡ span ((place_of n).start + 1 + k) ((place_of n).start + 2 + k) = reported.at ∙ ap (λ (z : ℕ). span ((place_of n).start + 1 + k) z) last in
    record { tok = token.string (node_text source n); own = own_token kind.String source n (token.string (node_text source n)) ty refl; form = (node_text source n, inl refl); wrong = inl (node_text source n, x, k, refl, own, bad, (reported.refusal, there)) }
reported_fault source n e (inr (ty, x, f, own, fault, reported)) =
    record { tok = token.multiline (node_text source n); own = own_token kind.MultilineString source n (token.multiline (node_text source n)) ty refl; form = (node_text source n, inr refl); wrong = inr (node_text source n, x, f, refl, own, fault, (reported.refusal, reported.at)) }

-- the refusal of a string is a fault, or out of memory
pub string_blame : (Full : TypeTree → Type 0) (o w : Order) (T : TypeTree) (source : List ℕ) (n : NodeTree) (t : SpannedTree) (e : Diagnostic) → T ≡ type.simple type.string → placed_of source n ≡ Some t → RefusesString source n e → IsBlamed Full o w T t e
string_blame Full o w T source n t e same is h = subst (λ (U : TypeTree). IsBlamed Full o w U t e) (sym same) (blamed h)
  where
    i : Inside source n t
    i = inside source n t is

    blamed : RefusesString source n e → IsBlamed Full o w (type.simple type.string) t e
    blamed (inl (apart, other, refused)) =
        inr (inl (wrong_form type.string (one_in (shape_of t)) (span_of t) (refusal_of e) e.span (not_string (type_of n) (place_of n) (slice source (place_of n)) i.children (shape_of t) i.from apart other) (at_tree InvalidType (place_of n) (span_of t) (refusal_of e) e.span i.place (said refused))))
    blamed (inr (inl fault)) =
        let k = reported_fault source n e fault in
        inr (inl (text_fault o w t k.tok (refusal_of e) e.span (quoted_is source n t k.tok is k.own) k.form (subst (λ (p : Range ℕ). StringFault type.string p k.tok (refusal_of e) e.span) (sym i.place) k.wrong)))
    blamed (inr (inr (wants, copied))) = inl (ap (λ (r : Refusal). r.kind) wants.is)

string_text : (a b : List ℕ) → token.string a ≡ token.string b → a ≡ b
string_text a b e = cc

multiline_text : (a b : List ℕ) → token.multiline a ≡ token.multiline b → a ≡ b
multiline_text a b e = cc

quotes_once : (quotes x y : List ℕ) → quotes ++ (x ++ quotes) ≡ quotes ++ (y ++ quotes) → x ≡ y
quotes_once quotes x y e = append_cancel_right x y quotes (append_cancel_left quotes (x ++ quotes) (y ++ quotes) e)

-- a token with a fault of its text spells no string
pub string_none : (p : Range ℕ) (t : Token) (k : Refusal) (q : Range ℕ) (l : Leaf) → StringFault type.string p t k q → Spells type.string t l → ⊥
string_none p t k q l (inl (text, x, i, is, own, bad, refuses)) (w, s, inl (same, (y, other, decodes)), f) =
    let texts : w ≡ text = string_text w text (sym same ∙ is) in
    bad_escape_refuses x i bad s (subst (λ (z : List ℕ). Decodes z s) (quotes_once (34 ∷ []) y x (sym other ∙ (texts ∙ own))) decodes)
string_none p t k q l (inl (text, x, i, is, own, bad, refuses)) (w, s, inr (same, means), f) = let no : token.string text ≡ token.multiline w = sym is ∙ same in cc
string_none p t k q l (inr (text, x, fault, is, own, bad, refuses)) (w, s, inl (same, means), f) = let no : token.multiline text ≡ token.string w = sym is ∙ same in cc
string_none p t k q l (inr (text, x, fault, is, own, bad, refuses)) (w, s, inr (same, (y, other, decodes)), f) =
    let texts : w ≡ text = multiline_text w text (sym same ∙ is) in
    faults_refuse.1 x fault bad s (subst (λ (z : List ℕ). DecodesLines z s) (quotes_once three_quotes y x (sym other ∙ (texts ∙ own))) decodes)
