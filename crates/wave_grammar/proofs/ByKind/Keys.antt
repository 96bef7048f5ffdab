-- The keys of maps.
use Rattle.std.proofs.Common.{ℕ, ℤ, ◌≡◌, ◌≢◌, inl, inr, Bool, List, Some, None, Result, Ok, Err, IfOk, IfErr, MatchResult, refl, sym, ap, ◌∙◌, subst}
use Rattle.std.specs.Result.{IsErrAnd}
use Rattle.std.specs.declared.ops.Range.{Range}
use Rattle.wave_wasm.specs.Types as type
use Rattle.wave_wasm.specs.Types.{TypeTree, Simple, Whole}
use Rattle.wave_wasm.specs.Values as value
use Rattle.wave_wasm.specs.Values.{Value, Leaf, leaf_type}
use Rattle.wave_wasm.specs.Text.{bool_text}
use Rattle.wave_wasm.specs.ValueErrors.{cause_of}
use Rattle.wave_wasm.specs.ConstructorContracts.{IsMemory, MakesLeaf, FullLeaf}
use Rattle.wave_wasm.specs.declared.wasm.WasmValueError.{WasmValueError}
use Rattle.wave_wasm.specs.declared.wasm.WasmValueError.TheVariants as error
use Rattle.wave_lex.specs.Errors.{Diagnostic, Refusal, refusal_of, refused_by}
use Rattle.wave_lex.specs.declared.error.ParserErrorKind.TheVariants.{InvalidType, InvalidValue}
use Rattle.wave_grammar.specs.Token.{Token}
use Rattle.wave_grammar.specs.Token as token
use Rattle.wave_grammar.specs.LeafTokens.{Spells}
use Rattle.wave_grammar.specs.NumberText.{IsNumberOf, whole_text}
use Rattle.wave_grammar.specs.SpannedTree.{SpannedTree, at, one, label, no_placed, slice, shape_of}
use Rattle.wave_grammar.specs.TypeErrors.{IsRefusalOf, IsForm, LoneKeyFault}
use Rattle.wave_grammar.specs.NodeTree.{NodeTree, type_of, place_of}
use Rattle.wave_grammar.specs.Nodes.{key_of, IsTokenOf}
use Rattle.wave_grammar.specs.NodeAccessors.{node_text, GivesNumber, GivesBoolKey}
use Rattle.wave_grammar.specs.TypedReading.{IsKeyRead, IsKeyBlamed, IsBuilt}
use Rattle.wave_grammar.proofs.ChildNodes.Inside.{From, inside, some_is, key_place}
use Rattle.wave_grammar.proofs.ByKind.Leaves.{said}
use Rattle.wave_grammar.specs.declared.form.NodeType.{NodeType}
use Rattle.wave_grammar.specs.declared.form.NodeType.TheVariants as kind

-- ---- what a key's node is

-- the token of a key, by the type of its node
abbrev pub IsKeyToken : NodeType → List ℕ → Token → Type 0
IsKeyToken ty text (token.label w) = (ty ≡ kind.Label) × (w ≡ text)
IsKeyToken ty text (token.number w) = (ty ≡ kind.Number) × (w ≡ text)
IsKeyToken ty text (token.char w) = (ty ≡ kind.Char) × (w ≡ text)
IsKeyToken ty text (token.string w) = (ty ≡ kind.String) × (w ≡ text)
IsKeyToken ty text (token.multiline w) = (ty ≡ kind.MultilineString) × (w ≡ text)
IsKeyToken ty text _ = ⊥

key_there : (a b : Range ℕ × Token) → Some a ≡ Some b → a.1 ≡ b.1
key_there a b e = ap (λ (k : Range ℕ × Token). k.1) (some_is a b e)

key_from : (ty : NodeType) (r : Range ℕ) (text : List ℕ) (cs : List SpannedTree) (t : SpannedTree) (p : Range ℕ) (key : Token) → From ty r text cs (shape_of t) → key_of t ≡ Some (p, key) → IsKeyToken ty text key
key_from ty r text cs (at q (label o w no_placed)) p key f e = subst (IsKeyToken ty text) (key_there (o, token.label w) (p, key) e) (f.0, f.2)
key_from ty r text cs (at q (one (token.number w))) p key f e = subst (IsKeyToken ty text) (key_there (q, token.number w) (p, key) e) (f.1, f.2)
key_from ty r text cs (at q (one (token.char w))) p key f e = subst (IsKeyToken ty text) (key_there (q, token.char w) (p, key) e) (f.1, f.2)
key_from ty r text cs (at q (one (token.string w))) p key f e = subst (IsKeyToken ty text) (key_there (q, token.string w) (p, key) e) (f.1, f.2)
key_from ty r text cs (at q (one (token.multiline w))) p key f e = subst (IsKeyToken ty text) (key_there (q, token.multiline w) (p, key) e) (f.1, f.2)
key_from ty r text cs _ p key f e = absurd (cc)

-- the token of a key is by the type of its node
pub key_token : (source : List ℕ) (n : NodeTree) (p : Range ℕ) (key : Token) → IsTokenOf source n p key → IsKeyToken (type_of n) (node_text source n) key
key_token source n p key h =
    let i = inside source n h.0.0 h.0.1 in
    key_from (type_of n) (place_of n) (slice source (place_of n)) i.children h.0.0 p key i.from h.0.2

-- a key stands where its node does
pub key_at : (source : List ℕ) (n : NodeTree) (p : Range ℕ) (key : Token) → IsTokenOf source n p key → p ≡ place_of n
key_at source n p key h = key_place source n h.0.0 p key (inside source n h.0.0 h.0.1) h.0.2

pub at_key : (why : _) (source : List ℕ) (n : NodeTree) (p : Range ℕ) (key : Token) (k : Refusal) (q : Range ℕ) → IsTokenOf source n p key → IsRefusalOf why (place_of n) k q → IsRefusalOf why p k q
at_key why source n p key k q h refused = (refused.0, refused.1 ∙ sym (key_at source n p key h))

-- ---- bools

bool_spelled : (b : Bool) (ty : NodeType) (text : List ℕ) (key : Token) → IsKeyToken ty text key → ty ≡ kind.Label → text ≡ bool_text b → Spells type.bool key (value.bool b)
bool_spelled b ty text (token.label w) h labelled e = (b, ap token.label (h.1 ∙ e), refl)
bool_spelled b ty text (token.number w) h labelled e = absurd (cc (h.0))
bool_spelled b ty text (token.char w) h labelled e = absurd (cc (h.0))
bool_spelled b ty text (token.string w) h labelled e = absurd (cc (h.0))
bool_spelled b ty text (token.multiline w) h labelled e = absurd (cc (h.0))
bool_spelled b ty text _ h labelled e = absurd h

pub label_is : (a b : List ℕ) → token.label a ≡ token.label b → a ≡ b
label_is a b e = cc

bool_unspelled : (ty : NodeType) (text : List ℕ) (p : Range ℕ) (key : Token) (k : Refusal) (q : Range ℕ) → IsKeyToken ty text key → ((b : Bool) → ty ≡ kind.Label → text ≢ bool_text b) → IsRefusalOf InvalidType p k q → LoneKeyFault type.bool p key k q
bool_unspelled ty text p (token.label w) k q h none refused = inl ((λ e. cc), (λ l s. none s.0 h.0 (sym h.1 ∙ label_is w (bool_text s.0) s.1)), refused)
bool_unspelled ty text p (token.number w) k q h none refused = inr (refl, inl ((λ form. cc (form.1)), refused))
bool_unspelled ty text p (token.char w) k q h none refused = inr (refl, inl ((λ form. cc (form.1)), refused))
bool_unspelled ty text p (token.string w) k q h none refused = inr (refl, inl ((λ form. cc (form.1)), refused))
bool_unspelled ty text p (token.multiline w) k q h none refused = inr (refl, inl ((λ form. cc (form.1)), refused))
bool_unspelled ty text p _ k q h none refused = absurd h

-- a key of this bool
pub bool_key : (source : List ℕ) (n : NodeTree) (p : Range ℕ) (key : Token) (b : Bool) → IsTokenOf source n p key → GivesBoolKey source n (Ok b) → Spells type.bool key (value.bool b)
bool_key source n p key b h given = bool_spelled b (type_of n) (node_text source n) key (key_token source n p key h) given.0 given.1

-- a key of no bool
pub no_bool_key : (source : List ℕ) (n : NodeTree) (p : Range ℕ) (key : Token) (e : Diagnostic) → IsTokenOf source n p key → GivesBoolKey source n (Err e) → LoneKeyFault type.bool p key (refusal_of e) e.span
no_bool_key source n p key e h given =
    bool_unspelled (type_of n) (node_text source n) p key (refusal_of e) e.span (key_token source n p key h) given.0 (at_key InvalidType source n p key (refusal_of e) e.span h (said given.1))

-- ---- whole numbers

number_spelled : (which : Whole) (z : ℤ) (ty : NodeType) (text : List ℕ) (key : Token) → IsKeyToken ty text key → ty ≡ kind.Number → IsNumberOf which text (Some z) → Spells (type.whole which) key (value.whole which z)
number_spelled which z ty text (token.number w) h number e = (w, z, refl, ap (whole_text which) h.1 ∙ e.0, e.1, refl)
number_spelled which z ty text (token.label w) h number e = absurd (cc (h.0))
number_spelled which z ty text (token.char w) h number e = absurd (cc (h.0))
number_spelled which z ty text (token.string w) h number e = absurd (cc (h.0))
number_spelled which z ty text (token.multiline w) h number e = absurd (cc (h.0))
number_spelled which z ty text _ h number e = absurd h

no_number_form : (which : Whole) (t : Token) → ((w : List ℕ) → t ≢ token.number w) → ((w : List ℕ) → t ≢ token.label w) → IsForm (type.whole which) t → ⊥
no_number_form which t numbers labels (w, inl e) = numbers w e
no_number_form which t numbers labels (w, inr e) = labels w e.0

number_unspelled : (which : Whole) (ty : NodeType) (text : List ℕ) (p : Range ℕ) (key : Token) (k : Refusal) (q : Range ℕ) → IsKeyToken ty text key → ty ≢ kind.Number → IsRefusalOf InvalidType p k q → LoneKeyFault (type.whole which) p key k q
number_unspelled which ty text p (token.label w) k q h apart refused = inl ((λ e. cc), (λ l s. absurd (cc (s.2))), refused)
number_unspelled which ty text p (token.number w) k q h apart refused = absurd (apart h.0)
number_unspelled which ty text p (token.char w) k q h apart refused = inr (refl, inl (no_number_form which (token.char w) (λ v e. cc) (λ v e. cc), refused))
number_unspelled which ty text p (token.string w) k q h apart refused = inr (refl, inl (no_number_form which (token.string w) (λ v e. cc) (λ v e. cc), refused))
number_unspelled which ty text p (token.multiline w) k q h apart refused = inr (refl, inl (no_number_form which (token.multiline w) (λ v e. cc) (λ v e. cc), refused))
number_unspelled which ty text p _ k q h apart refused = absurd h

number_is : (a b : List ℕ) → token.number a ≡ token.number b → a ≡ b
number_is a b e = cc

number_wrong : (which : Whole) (ty : NodeType) (text : List ℕ) (p : Range ℕ) (key : Token) (k : Refusal) (q : Range ℕ) → IsKeyToken ty text key → ty ≡ kind.Number → IsNumberOf which text None → IsRefusalOf InvalidValue p k q → LoneKeyFault (type.whole which) p key k q
number_wrong which ty text p (token.number w) k q h number none refused =
    inr (refl, inr ((w, inl refl), (λ l s. none s.1 (ap (whole_text which) (sym h.1 ∙ number_is w s.0 s.2) ∙ s.3) s.4, refused)))
number_wrong which ty text p (token.label w) k q h number none refused = absurd (cc (h.0))
number_wrong which ty text p (token.char w) k q h number none refused = absurd (cc (h.0))
number_wrong which ty text p (token.string w) k q h number none refused = absurd (cc (h.0))
number_wrong which ty text p (token.multiline w) k q h number none refused = absurd (cc (h.0))
number_wrong which ty text p _ k q h number none refused = absurd h

-- a key of this number
pub number_key : {N : Type 0} (which : Whole) (number : N → ℤ) (source : List ℕ) (n : NodeTree) (p : Range ℕ) (key : Token) (x : N) → IsTokenOf source n p key → GivesNumber which number source n (Ok x) → Spells (type.whole which) key (value.whole which (number x))
number_key which number source n p key x h given = number_spelled which (number x) (type_of n) (node_text source n) key (key_token source n p key h) given.0 given.1

-- a key of no number
pub no_number_key : {N : Type 0} (which : Whole) (number : N → ℤ) (source : List ℕ) (n : NodeTree) (p : Range ℕ) (key : Token) (e : Diagnostic) → IsTokenOf source n p key → GivesNumber which number source n (Err e) → LoneKeyFault (type.whole which) p key (refusal_of e) e.span
no_number_key which number source n p key e h (inl given) =
    number_unspelled which (type_of n) (node_text source n) p key (refusal_of e) e.span (key_token source n p key h) given.0 (at_key InvalidType source n p key (refusal_of e) e.span h (said given.1))
no_number_key which number source n p key e h (inr given) =
    number_wrong which (type_of n) (node_text source n) p key (refusal_of e) e.span (key_token source n p key h) given.0 given.1 (at_key InvalidValue source n p key (refusal_of e) e.span h (said given.2))

-- ---- answers

-- a type is one simple type
pub one_simple : (T : TypeTree) (K S : Simple) → T ≡ type.simple K → T ≡ type.simple S → S ≡ K
one_simple T K S e f = let same : type.simple S ≡ type.simple K = sym f ∙ e in cc

refused : (Full : TypeTree → Type 0) (K : Simple) (p : Range ℕ) (key : Token) (cause : WasmValueError) (e : Diagnostic) → refusal_of e ≡ refused_by (cause_of cause) → (Full (type.simple K) → IsMemory cause) → IsKeyBlamed Full K p key e
refused Full K p key (error.Memory a) e is full = inl (ap (λ (r : Refusal). r.kind) is)
refused Full K p key _ e is full = inr (inr (ap (λ (r : Refusal). r.kind) is, full))

module _ {V : Type 0} (tree : V → Value) (of : V → TypeTree → Type 0) (Full : TypeTree → Type 0) where
  built_at : (K : Simple) (p : Range ℕ) (key : Token) (n : NodeTree) (one_leaf : Leaf) (m : Result V WasmValueError) (r : Result V Diagnostic) → leaf_type one_leaf ≡ K → Spells K key one_leaf → IfOk m (MakesLeaf tree of one_leaf) → IfErr m (FullLeaf Full one_leaf) → IsBuilt n m r → MatchResult r (IsKeyRead tree of K key) (IsKeyBlamed Full K p key)
  built_at K p key n l (Ok v) (Ok w) is spelled ok full done =
      subst (IsKeyRead tree of K key) (sym done) (record { leaf = l; spells = spelled; means = ok.means; is_of = subst (λ (S : Simple). of v (type.simple S)) is ok.is_of })
  built_at K p key n l (Ok v) (Err e) is spelled ok full done = absurd done
  built_at K p key n l (Err cause) (Ok w) is spelled ok full done = absurd done
  built_at K p key n l (Err cause) (Err e) is spelled ok full done = refused Full K p key cause e done.0 (λ f. full (subst (λ (S : Simple). Full (type.simple S)) (sym is) f))

  -- the key's value was made, or its constructor refused
  pub key_built : (T : TypeTree) (K S : Simple) (p : Range ℕ) (key : Token) (n : NodeTree) (one_leaf : Leaf) (m : Result V WasmValueError) (r : Result V Diagnostic) → T ≡ type.simple K → T ≡ type.simple S → leaf_type one_leaf ≡ S → Spells S key one_leaf → IfOk m (MakesLeaf tree of one_leaf) → IfErr m (FullLeaf Full one_leaf) → IsBuilt n m r → MatchResult r (IsKeyRead tree of K key) (IsKeyBlamed Full K p key)
  key_built T K S p key n l m r e f is spelled ok full done =
      subst (λ (R : Simple). MatchResult r (IsKeyRead tree of R key) (IsKeyBlamed Full R p key)) (one_simple T K S e f) (built_at S p key n l m r is spelled ok full done)

  -- a refusal of the key, handed on
  pub key_handed : (K : Simple) (p : Range ℕ) (key : Token) (e : Diagnostic) (r : Result V Diagnostic) → IsErrAnd r (λ f. f ≡ e) → IsKeyBlamed Full K p key e → MatchResult r (IsKeyRead tree of K key) (IsKeyBlamed Full K p key)
  key_handed K p key e (Ok v) same blamed = absurd same
  key_handed K p key e (Err f) same blamed = subst (IsKeyBlamed Full K p key) (sym same) blamed

  -- a fault of the key, handed on
  pub key_faulty : (T : TypeTree) (K S : Simple) (p : Range ℕ) (key : Token) (e : Diagnostic) (r : Result V Diagnostic) → T ≡ type.simple K → T ≡ type.simple S → IsErrAnd r (λ f. f ≡ e) → LoneKeyFault S p key (refusal_of e) e.span → MatchResult r (IsKeyRead tree of K key) (IsKeyBlamed Full K p key)
  key_faulty T K S p key e r is same handed_on fault =
      key_handed K p key e r handed_on (inr (inl (subst (λ (R : Simple). LoneKeyFault R p key (refusal_of e) e.span) (one_simple T K S is same) fault)))
