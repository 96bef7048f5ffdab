-- Keys of maps that are chars or strings.
use Rattle.std.proofs.Common.{ℕ, ◌≡◌, ◌≢◌, inl, inr, List, Ok, Err, refl, sym, ap, subst, ◌∙◌}
use Rattle.std.specs.declared.ops.Range.{Range}
use Rattle.wave_wasm.specs.Types as type
use Rattle.wave_wasm.specs.Types.{TypeTree, Simple}
use Rattle.wave_wasm.specs.Values as value
use Rattle.wave_wasm.specs.Values.{Value}
use Rattle.wave_lex.specs.Errors.{Diagnostic, Refusal, refusal_of}
use Rattle.wave_lex.specs.declared.error.ParserErrorKind.TheVariants.{InvalidType, InvalidEscape}
use Rattle.wave_grammar.specs.Token.{Token}
use Rattle.wave_grammar.specs.Token as token
use Rattle.wave_grammar.specs.LeafTokens.{Spells}
use Rattle.wave_grammar.specs.TypeErrors.{IsRefusalOf, IsForm, SpellsNoLeaf, LoneKeyFault, StringFault}
use Rattle.wave_grammar.specs.NodeTree.{NodeTree, type_of}
use Rattle.wave_grammar.specs.Nodes.{IsTokenOf}
use Rattle.wave_grammar.specs.NodeAccessors.{node_text, GivesChar}
use Rattle.wave_grammar.specs.NodeStrings.{StandsFor, RefusesString}
use Rattle.wave_grammar.specs.TypedReading.{IsKeyBlamed}
use Rattle.wave_grammar.proofs.ByKind.Keys.{IsKeyToken, key_token, key_at, at_key}
use Rattle.wave_grammar.proofs.NodeTexts.Quoted.{IsQuotedToken}
use Rattle.wave_grammar.proofs.ByKind.TextLeaves.{no_char, reported_fault}
use Rattle.wave_grammar.proofs.ByKind.Leaves.{said}
use Rattle.wave_grammar.specs.declared.form.NodeType.{NodeType}
use Rattle.wave_grammar.specs.declared.form.NodeType.TheVariants as kind

-- a key whose node is of this type is the token of this text
key_of_type : (ty : NodeType) (text : List ℕ) (key t : Token) → IsKeyToken ty text key → IsQuotedToken ty text t → key ≡ t
key_of_type ty text (token.char w) t h own = sym (subst (λ (k : NodeType). IsQuotedToken k text t) h.0 own ∙ ap token.char (sym h.1))
key_of_type ty text (token.string w) t h own = sym (subst (λ (k : NodeType). IsQuotedToken k text t) h.0 own ∙ ap token.string (sym h.1))
key_of_type ty text (token.multiline w) t h own = sym (subst (λ (k : NodeType). IsQuotedToken k text t) h.0 own ∙ ap token.multiline (sym h.1))
key_of_type ty text (token.label w) t h own = absurd (subst (λ (k : NodeType). IsQuotedToken k text t) h.0 own)
key_of_type ty text (token.number w) t h own = absurd (subst (λ (k : NodeType). IsQuotedToken k text t) h.0 own)
key_of_type ty text _ t h own = absurd h

-- the key of a node of this type
key_text : (ty : NodeType) (source : List ℕ) (n : NodeTree) (p : Range ℕ) (key t : Token) → IsTokenOf source n p key → type_of n ≡ ty → IsQuotedToken ty (node_text source n) t → key ≡ t
key_text ty source n p key t h e own =
    key_of_type (type_of n) (node_text source n) key t (key_token source n p key h) (subst (λ (k : NodeType). IsQuotedToken k (node_text source n) t) (sym e) own)

-- ---- chars

-- a key of this char
pub char_key : (source : List ℕ) (n : NodeTree) (p : Range ℕ) (key : Token) (c : ℕ) → IsTokenOf source n p key → GivesChar source n (Ok c) → Spells type.char key (value.char c)
char_key source n p key c h given =
    (node_text source n, c, key_text kind.Char source n p key (token.char (node_text source n)) h given.0 refl, given.1, refl)

char_unspelled : (ty : NodeType) (text : List ℕ) (p : Range ℕ) (key : Token) (k : Refusal) (q : Range ℕ) → IsKeyToken ty text key → ty ≢ kind.Char → IsRefusalOf InvalidType p k q → LoneKeyFault type.char p key k q
char_unspelled ty text p (token.label w) k q h apart refused = inl ((λ e. cc), (λ l s. absurd (cc (s.2))), refused)
char_unspelled ty text p (token.char w) k q h apart refused = absurd (apart h.0)
char_unspelled ty text p (token.number w) k q h apart refused = inr (refl, inl ((λ form. cc (form.1)), refused))
char_unspelled ty text p (token.string w) k q h apart refused = inr (refl, inl ((λ form. cc (form.1)), refused))
char_unspelled ty text p (token.multiline w) k q h apart refused = inr (refl, inl ((λ form. cc (form.1)), refused))
char_unspelled ty text p _ k q h apart refused = absurd h

-- a key of no char
pub no_char_key : (source : List ℕ) (n : NodeTree) (p : Range ℕ) (key : Token) (e : Diagnostic) → IsTokenOf source n p key → GivesChar source n (Err e) → LoneKeyFault type.char p key (refusal_of e) e.span
no_char_key source n p key e h (inl given) =
    char_unspelled (type_of n) (node_text source n) p key (refusal_of e) e.span (key_token source n p key h) given.0 (at_key InvalidType source n p key (refusal_of e) e.span h (said given.1))
no_char_key source n p key e h (inr given) =
    subst (λ (t : Token). LoneKeyFault type.char p t (refusal_of e) e.span) (sym (key_text kind.Char source n p key (token.char (node_text source n)) h given.0 refl))
    (inr (refl, inr ((node_text source n, refl), (no_char (node_text source n) given.1, at_key InvalidEscape source n p key (refusal_of e) e.span h (said given.2)))))

-- ---- strings

-- a key of this text
pub string_key : (source : List ℕ) (n : NodeTree) (p : Range ℕ) (key : Token) (s : List ℕ) → IsTokenOf source n p key → StandsFor source n s → Spells type.string key (value.string s)
string_key source n p key s h (inl (e, means)) =
    (node_text source n, s, inl (key_text kind.String source n p key (token.string (node_text source n)) h e refl, means), refl)
string_key source n p key s h (inr (e, means)) =
    (node_text source n, s, inr (key_text kind.MultilineString source n p key (token.multiline (node_text source n)) h e refl, means), refl)

not_form : (t : Token) → ((w : List ℕ) → t ≢ token.string w) → ((w : List ℕ) → t ≢ token.multiline w) → IsForm type.string t → ⊥
not_form t strings lines (w, inl e) = strings w e
not_form t strings lines (w, inr e) = lines w e

pub no_spelling : (w : List ℕ) → SpellsNoLeaf type.string (token.label w)
no_spelling w l (text, s, inl h, f) = cc (h.0)
no_spelling w l (text, s, inr h, f) = cc (h.0)

string_unspelled : (ty : NodeType) (text : List ℕ) (p : Range ℕ) (key : Token) (k : Refusal) (q : Range ℕ) → IsKeyToken ty text key → ty ≢ kind.String → ty ≢ kind.MultilineString → IsRefusalOf InvalidType p k q → LoneKeyFault type.string p key k q
string_unspelled ty text p (token.label w) k q h apart other refused = inl ((λ e. cc), no_spelling w, refused)
string_unspelled ty text p (token.string w) k q h apart other refused = absurd (apart h.0)
string_unspelled ty text p (token.multiline w) k q h apart other refused = absurd (other h.0)
string_unspelled ty text p (token.number w) k q h apart other refused = inr (refl, inl (not_form (token.number w) (λ v e. cc) (λ v e. cc), refused))
string_unspelled ty text p (token.char w) k q h apart other refused = inr (refl, inl (not_form (token.char w) (λ v e. cc) (λ v e. cc), refused))
string_unspelled ty text p _ k q h apart other refused = absurd h

of_text : {p : Range ℕ} {k : Refusal} {q : Range ℕ} (t : Token) → IsForm type.string t → StringFault type.string p t k q → LoneKeyFault type.string p t k q
of_text (token.string w) form wrong = inr (refl, inr (form, wrong))
of_text (token.multiline w) form wrong = inr (refl, inr (form, wrong))
of_text (token.label w) (v, inl e) wrong = absurd (cc)
of_text (token.label w) (v, inr e) wrong = absurd (cc)
of_text _ form wrong = inr (refl, inr (form, wrong))

-- the refusal of a string is a fault of the key, or out of memory
pub string_key_blame : (Full : TypeTree → Type 0) (source : List ℕ) (n : NodeTree) (p : Range ℕ) (key : Token) (e : Diagnostic) → IsTokenOf source n p key → RefusesString source n e → IsKeyBlamed Full type.string p key e
string_key_blame Full source n p key e h (inl (apart, other, refused)) =
    inr (inl (string_unspelled (type_of n) (node_text source n) p key (refusal_of e) e.span (key_token source n p key h) apart other (at_key InvalidType source n p key (refusal_of e) e.span h (said refused))))
string_key_blame Full source n p key e h (inr (inl fault)) =
    let k = reported_fault source n e fault in
    let is : key ≡ k.tok = key_text (type_of n) source n p key k.tok h refl k.own in
    inr (inl (subst (λ (t : Token). LoneKeyFault type.string p t (refusal_of e) e.span) (sym is) (of_text k.tok k.form (subst (λ (r : Range ℕ). StringFault type.string r k.tok (refusal_of e) e.span) (sym (key_at source n p key h)) k.wrong))))
string_key_blame Full source n p key e h (inr (inr (wants, copied))) = inl (ap (λ (r : Refusal). r.kind) wants.is)
