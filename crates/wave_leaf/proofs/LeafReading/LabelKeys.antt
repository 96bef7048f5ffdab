-- The refusals of keys that are labels.
use Rattle.std.proofs.Common.{ℕ, ◌≡◌, ◌≢◌, ◌⊎◌, inl, inr, List, [], Some, Result, Err, MatchResult, refl, sym, ap, ◌∙◌, subst}
use Rattle.std.specs.declared.ops.Range.{Range}
use Rattle.wave_wasm.specs.Types as type
use Rattle.wave_wasm.specs.Types.{TypeTree, Simple}
use Rattle.wave_wasm.specs.Values.{Value}
use Rattle.wave_lex.specs.Errors.{Diagnostic, Refusal, with_detail}
use Rattle.wave_lex.specs.declared.error.ParserErrorKind.TheVariants.{InvalidType, OutOfMemory}
use Rattle.wave_grammar.specs.Token.{Token}
use Rattle.wave_grammar.specs.Token as token
use Rattle.wave_grammar.specs.TypeErrors.{names_in, key_expected}
use Rattle.wave_grammar.specs.NodeTree.{place_of}
use Rattle.wave_grammar.specs.Nodes.{IsTokenOf}
use Rattle.wave_grammar.specs.NodeAccessors.{node_text}
use Rattle.wave_grammar.specs.TypedReading.{IsKeyRead, IsKeyBlamed}
use Rattle.wave_grammar.specs.PartReading.{IsMapKeyBlamed}
use Rattle.wave_grammar.specs.declared.form.NodeType.{NodeType}
use Rattle.wave_grammar.specs.declared.form.NodeType.TheVariants as kind
use Rattle.wave_grammar.proofs.ByKind.Keys.{IsKeyToken, key_token}
use Rattle.wave_leaf.specs.Private.Keys.{IsDetailed}
use Rattle.wave_leaf.specs.Leaves.{leaf_node}
use Rattle.wave_leaf.specs.declared.leaf.LeafToken.{LeafToken}

-- with a detail it is the same refusal, or `InvalidType` where it stood, or out of memory at the key
pub as_reported : (T : TypeTree) (l : LeafToken) (e f : Diagnostic) → IsDetailed T l e f → (f.kind ≡ OutOfMemory) × (f.span ≡ place_of (leaf_node l)) ⊎ (f ≡ e) ⊎ (f.kind ≡ InvalidType) × (f.span ≡ e.span)
as_reported T l e f (inl (other, same)) = inr (inl same)
as_reported T l e f (inr (inl (is, says))) = inr (inr (ap (λ (r : Refusal). r.kind) says.is, says.stands))
as_reported T l e f (inr (inr (is, says))) = inl (ap (λ (r : Refusal). r.kind) says.is, says.stands)

-- a key that gives a name is a label, and the other way round
named_label : (ty : NodeType) (text : List ℕ) (key : Token) → IsKeyToken ty text key → names_in key ≢ [] → ty ≡ kind.Label
named_label ty text (token.label w) h named = h.0
named_label ty text (token.number w) h named = absurd (named refl)
named_label ty text (token.char w) h named = absurd (named refl)
named_label ty text (token.string w) h named = absurd (named refl)
named_label ty text (token.multiline w) h named = absurd (named refl)
named_label ty text _ h named = absurd h

label_named : (ty : NodeType) (text : List ℕ) (key : Token) → IsKeyToken ty text key → ty ≡ kind.Label → names_in key ≢ []
label_named ty text (token.label w) h labelled = λ none. cc
label_named ty text (token.number w) h labelled = absurd (cc (sym labelled ∙ h.0))
label_named ty text (token.char w) h labelled = absurd (cc (sym labelled ∙ h.0))
label_named ty text (token.string w) h labelled = absurd (cc (sym labelled ∙ h.0))
label_named ty text (token.multiline w) h labelled = absurd (cc (sym labelled ∙ h.0))
label_named ty text _ h labelled = absurd h

-- of a key of a map a refusal with the detail blames what it blamed without
detailed_blame : (Full : TypeTree → Type 0) (T : TypeTree) (K : Simple) (source : List ℕ) (l : LeafToken) (p : Range ℕ) (key : Token) (e f : Diagnostic) → T ≡ type.simple K → IsTokenOf source (leaf_node l) p key → IsDetailed T l e f → IsKeyBlamed Full K p key e → IsMapKeyBlamed Full K p key f
detailed_blame Full T K source l p key e f is token (inl (other, same)) blamed = subst (IsMapKeyBlamed Full K p key) (sym same) (by blamed)
  where
    by : IsKeyBlamed Full K p key e → IsMapKeyBlamed Full K p key e
    by (inl memory) = inl memory
    by (inr (inl (inl (named, none, reported)))) =
        let labelled : l.ty ≡ kind.Label = named_label l.ty (node_text source (leaf_node l)) key (key_token source (leaf_node l) p key token) named in
        absurd (other (labelled, reported.0))
    by (inr (inl (inr fault))) = inr (inl (inr fault))
    by (inr (inr full)) = inr (inr full)
detailed_blame Full T K source l p key e f is token (inr (inl (label, says))) (inl memory) = let is : e.kind ≡ InvalidType = ap (λ (r : Refusal). r.kind) label.1 in absurd (cc (sym memory ∙ is))
detailed_blame Full T K source l p key e f is token (inr (inl (label, says))) (inr (inl (inl (named, none, reported)))) =
    inr (inl (inl (named, none, (says.is ∙ ap (λ (U : TypeTree). with_detail InvalidType (Some (key_expected U))) is, says.stands ∙ reported.1))))
detailed_blame Full T K source l p key e f is token (inr (inl (label, says))) (inr (inl (inr (none, fault)))) =
    absurd (label_named l.ty (node_text source (leaf_node l)) key (key_token source (leaf_node l) p key token) label.0 none)
detailed_blame Full T K source l p key e f is token (inr (inl (label, says))) (inr (inr full)) = let is : e.kind ≡ InvalidType = ap (λ (r : Refusal). r.kind) label.1 in absurd (cc (sym full.0 ∙ is))
detailed_blame Full T K source l p key e f is token (inr (inr (label, says))) blamed = inl (ap (λ (r : Refusal). r.kind) says.is)

-- so of a key that was not read
pub key_reported : {V : Type 0} (tree : V → Value) (of : V → TypeTree → Type 0) (Full : TypeTree → Type 0) (T : TypeTree) (K : Simple) (source : List ℕ) (l : LeafToken) (p : Range ℕ) (key : Token) (r : Result V Diagnostic) (e f : Diagnostic) → T ≡ type.simple K → IsTokenOf source (leaf_node l) p key → r ≡ Err e → IsDetailed T l e f → MatchResult r (IsKeyRead tree of K key) (IsKeyBlamed Full K p key) → IsMapKeyBlamed Full K p key f
key_reported {V} tree of Full T K source l p key r e f is token refused reported h = detailed_blame Full T K source l p key e f is token reported (subst (λ (s : Result V Diagnostic). MatchResult s (IsKeyRead tree of K key) (IsKeyBlamed Full K p key)) refused h)
