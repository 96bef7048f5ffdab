-- A key that is no keyword is a value's node too; a keyword is none.
use Rattle.std.specs.Prelude.{◌↔◌}
use Rattle.std.proofs.Common.{ℕ, ◌≡◌, ◌≢◌, ◌-◌, inl, inr, zero, suc, Bool, true, false, List, [], ◌∷◌, drop, length-take, Some, Result, Ok, Err, MatchResult, refl, sym, ap, ◌∙◌, subst, arith}
use Rattle.std.proofs.lemmas.List.{drop_all}
use Rattle.std.specs.declared.ops.Range.{Range}
use Rattle.wave_wasm.specs.Names.{IsNoneOf}
use Rattle.wave_wasm.specs.Keywords.{keyword_text, keywords}
use Rattle.wave_wasm.specs.declared.keyword.Keyword.{Keyword}
use Rattle.wave_wasm.specs.declared.keyword.Keyword.TheVariants as keyword
use Rattle.wave_wasm.specs.Text.{bool_text}
use Rattle.wave_wasm.specs.Types as type
use Rattle.wave_wasm.specs.Types.{TypeTree, Simple, HasDistinctNames}
use Rattle.wave_wasm.specs.Values.{Value, Leaf}
use Rattle.wave_wasm.specs.Values as value
use Rattle.wave_lex.specs.Tokenization.{Prefix}
use Rattle.wave_lex.specs.Errors.{Diagnostic, Refusal, refusal_of}
use Rattle.wave_lex.specs.declared.error.ParserErrorKind.TheVariants.{InvalidType}
use Rattle.wave_grammar.specs.Token.{Token, lexeme_of}
use Rattle.wave_grammar.specs.Token as token
use Rattle.wave_grammar.specs.LeafTokens.{Spells}
use Rattle.wave_grammar.specs.CommaSeparated.{Spelling}
use Rattle.wave_grammar.specs.Tree as tree
use Rattle.wave_grammar.specs.Tree.{Tree, MaybeTree, Word, word_of, leaf_word, none_word, some_word, ok_word, err_word, case_word, ATree, BehindWord, Takes}
use Rattle.wave_grammar.specs.Elaborates.{SimpleTree}
use Rattle.wave_grammar.specs.SpannedTree.{SpannedTree, at, one, label, no_placed, slice, span_of, shape_of, tree_of, HoldsTokens, SpellsAt, SpellsEach, StandsAtTokens}
use Rattle.wave_grammar.specs.TypeErrors.{IsRefusalOf, SpellsNoLeaf, LeafFault, LoneKeyFault}
use Rattle.wave_grammar.specs.FaultOrder.{Order, FirstFault}
use Rattle.wave_grammar.proofs.Elaboration.GrammarToTree.{not-keyword}
use Rattle.wave_grammar.specs.NodeTree.{NodeTree, type_of, place_of}
use Rattle.wave_grammar.specs.Nodes.{key_of, IsNodeOf, IsTokenOf, IsParsedFrom}
use Rattle.wave_grammar.specs.NodeAccessors.{node_text, RefusedAs}
use Rattle.wave_grammar.specs.TypedReading.{IsValueOf, IsKeyOf, IsKeywordOf, IsTypedValue, IsBlamed, IsKeyRead, IsKeyBlamed, IsKeyError}
use Rattle.wave_grammar.proofs.ChildNodes.Inside.{Inside, inside, some_is}
use Rattle.wave_grammar.proofs.ByKind.Keys.{IsKeyToken, key_token, key_at, at_key, label_is}
use Rattle.wave_grammar.proofs.ByKind.Leaves.{said}
use Rattle.wave_grammar.proofs.ByKind.TextKeys.{no_spelling}
use Rattle.wave_grammar.proofs.ByKind.Enums.{label_node}
use Rattle.wave_grammar.proofs.OneFault.FaultyTrees.{leaf_none}
use Rattle.wave_grammar.specs.declared.form.NodeType.TheVariants as kind

-- ---- labels that are values

tree_text : (v w : List ℕ) (p q : MaybeTree) → tree.label v p ≡ tree.label w q → v ≡ w
tree_text v w p q e = cc

-- after which word a label stands
word_taken : (w : Word) (text v : List ℕ) (payload : MaybeTree) (Inner : Spelling Tree) (behind rest : List Token) → BehindWord w text Inner behind (tree.label v payload) rest → (w ≡ case_word) × (v ≡ text)
word_taken leaf_word text v payload Inner behind rest h = absurd (cc (h.1))
word_taken none_word text v payload Inner behind rest h = absurd (cc (h.1))
word_taken some_word text v payload Inner behind rest h = absurd (cc (h.2))
word_taken ok_word text v payload Inner behind rest h = absurd (cc (h.2))
word_taken err_word text v payload Inner behind rest h = absurd (cc (h.2))
word_taken case_word text v payload Inner behind rest h = (refl, tree_text v text payload h.0 h.2)

-- the label of a tree is no word of another meaning
label_taken : (Inner : Spelling Tree) (tokens : List Token) (v : List ℕ) (payload : MaybeTree) (rest : List Token) → ATree Inner tokens (tree.label v payload) rest → word_of v ≡ case_word
label_taken Inner [] v payload rest h = absurd h
label_taken Inner (token.paren_open ∷ prefix) v payload rest h = absurd (cc (h.3))
label_taken Inner (token.bracket_open ∷ prefix) v payload rest h = absurd (cc (h.2))
label_taken Inner (token.brace_open ∷ prefix) v payload rest (inl h) = absurd (cc (h.1))
label_taken Inner (token.brace_open ∷ prefix) v payload rest (inr (inl h)) = absurd (cc (h.1))
label_taken Inner (token.brace_open ∷ prefix) v payload rest (inr (inr (inl h))) = absurd (cc (h.3))
label_taken Inner (token.brace_open ∷ prefix) v payload rest (inr (inr (inr h))) = absurd (cc (h.4))
label_taken Inner (token.label text ∷ behind) v payload rest h =
    let k = word_taken (word_of text) text v payload Inner behind rest h in
    ap word_of k.1 ∙ k.0
label_taken Inner (token.number text ∷ behind) v payload rest h = absurd (cc (h.1))
label_taken Inner (token.char text ∷ behind) v payload rest h = absurd (cc (h.1))
label_taken Inner (token.string text ∷ behind) v payload rest h = absurd (cc (h.1))
label_taken Inner (token.multiline text ∷ behind) v payload rest h = absurd (cc (h.1))
label_taken Inner (_ ∷ behind) v payload rest h = absurd h

takes_label : (n : ℕ) (tokens : List Token) (v : List ℕ) (payload : MaybeTree) → Takes n tokens (tree.label v payload) [] → word_of v ≡ case_word
takes_label zero tokens v payload h = absurd h
takes_label (suc n) tokens v payload h = label_taken (Takes n) tokens v payload [] h

-- a keyword is no case's word
keyword_word : (k : Keyword) → word_of (keyword_text k) ≡ case_word → ⊥
keyword_word keyword.True e = cc
keyword_word keyword.False e = cc
keyword_word keyword.Some e = cc
keyword_word keyword.None e = cc
keyword_word keyword.Ok e = cc
keyword_word keyword.Err e = cc
keyword_word keyword.Inf e = cc
keyword_word keyword.Nan e = cc

label_spelled : (source : List ℕ) (t : SpannedTree) (p : Range ℕ) (w : List ℕ) → shape_of t ≡ label p w no_placed → SpellsEach source t → word_of w ≡ case_word
label_spelled source (at q s) p w e h =
    let spelled : SpellsAt source q (tree.label w tree.no_tree) = subst (λ (u : Tree). SpellsAt source q u) (ap (λ x. tree_of (at q x)) e) h.0 in
    takes_label spelled.2.0 spelled.0 w tree.no_tree spelled.2.1

-- a keyword is no value
pub keyword_no_value : (source : List ℕ) (n : NodeTree) (t : SpannedTree) → IsKeywordOf source n → IsNodeOf source n t → ⊥
keyword_no_value source n t word h =
    keyword_word word.1 (ap word_of (sym word.2) ∙ label_spelled source t (place_of n) (node_text source n) (label_node source n t h.0 word.0) h.1)

-- so it is a key
pub keyword_key : (source : List ℕ) (n : NodeTree) → IsKeywordOf source n → IsParsedFrom source n → IsKeyOf source n
keyword_key source n word (inl v) = absurd (keyword_no_value source n v.0 word v.1)
keyword_key source n word (inr k) = k

-- ---- keys that are values

-- a text that no keyword has is none of them
none_of_keywords : (text : List ℕ) → ((k : Keyword) → text ≢ keyword_text k) → IsNoneOf keywords text
none_of_keywords text apart = (apart keyword.True, (apart keyword.False, (apart keyword.Some, (apart keyword.None, (apart keyword.Ok, (apart keyword.Err, (apart keyword.Inf, (apart keyword.Nan, tt))))))))

-- the part is the whole
whole_place : (source : List ℕ) (p : Range ℕ) (key : Token) → HoldsTokens source p (key ∷ []) → StandsAtTokens source p p
whole_place source p key (stands, whitespace, prefix) =
    let o = stands.ordered in
    let fits = length-take (p.end - p.start) (drop p.start source) in
    let past : drop (p.end - p.start) (slice source p) ≡ [] = drop_all (p.end - p.start) (slice source p) (omega arith) in
    let none : p.start - p.start ≡ 0 = omega arith in
    ((0, 0, ([], refl), whitespace, none), (key ∷ [], subst (λ r. Prefix (slice source p) (lexeme_of key ∷ []) r) (sym past) prefix))

label_value : (source : List ℕ) (p : Range ℕ) (w : List ℕ) → word_of w ≡ case_word → HoldsTokens source p (token.label w ∷ []) → SpellsEach source (at p (label p w no_placed))
label_value source p w plain holds =
    let taken : BehindWord (word_of w) w (Takes 0) [] (tree.label w tree.no_tree) [] = subst (λ (k : Word). BehindWord k w (Takes 0) [] (tree.label w tree.no_tree) []) (sym plain) (tree.no_tree, inl (refl, (λ more e. cc), refl), refl) in
    ((token.label w ∷ [], holds, (1, taken)), ((omega arith, omega arith), holds, tt), (whole_place source p (token.label w) holds, tt))

held : (source : List ℕ) (p : Range ℕ) (key : Token) (k : Range ℕ × Token) → Some k ≡ Some (p, key) → HoldsTokens source p (key ∷ []) → HoldsTokens source k.0 (k.1 ∷ [])
held source p key k e h = subst (λ (l : Range ℕ × Token). HoldsTokens source l.0 (l.1 ∷ [])) (sym (some_is k (p, key) e)) h

key_spells : (source : List ℕ) (n : NodeTree) (t : SpannedTree) (p : Range ℕ) (key : Token) → Inside source n t → key_of t ≡ Some (p, key) → HoldsTokens source p (key ∷ []) → (IsKeywordOf source n → ⊥) → SpellsEach source t
key_spells source n (at q (label r w no_placed)) p key i e holds apart =
    let same : r ≡ q = i.from.1 ∙ sym i.place in
    let plain : word_of w ≡ case_word = not-keyword w (none_of_keywords w (λ k is. apart (i.from.0, k, sym i.from.2 ∙ is))) in
    subst (λ (x : Range ℕ). SpellsEach source (at q (label x w no_placed))) (sym same)
    (label_value source q w plain (subst (λ (x : Range ℕ). HoldsTokens source x (token.label w ∷ [])) same (held source p key (r, token.label w) e holds)))
key_spells source n (at q (one (token.number w))) p key i e holds apart = ((token.number w ∷ [], held source p key (q, token.number w) e holds, (1, (refl, refl))), tt, tt)
key_spells source n (at q (one (token.char w))) p key i e holds apart = ((token.char w ∷ [], held source p key (q, token.char w) e holds, (1, (refl, refl))), tt, tt)
key_spells source n (at q (one (token.string w))) p key i e holds apart = ((token.string w ∷ [], held source p key (q, token.string w) e holds, (1, (refl, refl))), tt, tt)
key_spells source n (at q (one (token.multiline w))) p key i e holds apart = ((token.multiline w ∷ [], held source p key (q, token.multiline w) e holds, (1, (refl, refl))), tt, tt)
key_spells source n _ p key i e holds apart = absurd (cc)

-- a key that is no keyword means the tree of its node
pub key_node : (source : List ℕ) (n : NodeTree) (p : Range ℕ) (key : Token) → (IsKeywordOf source n → ⊥) → (h : IsTokenOf source n p key) → IsNodeOf source n h.0.0
key_node source n p key apart h = (h.0.1, key_spells source n h.0.0 p key (inside source n h.0.0 h.0.1) h.0.2 h.1 apart)

-- so it is a value
pub value_node : (source : List ℕ) (n : NodeTree) → (IsKeywordOf source n → ⊥) → IsParsedFrom source n → IsValueOf source n
value_node source n apart (inl v) = v
value_node source n apart (inr k) = (k.2.0.0, key_node source n k.0 k.1 apart k.2)

-- a key is a value where it is no keyword, and only there
pub keys_as_values : (source : List ℕ) (n : NodeTree) → IsKeyOf source n → IsValueOf source n ↔ (IsKeywordOf source n → ⊥)
keys_as_values source n k = (λ v word. keyword_no_value source n v.0 word v.1, λ apart. value_node source n apart (inr k))

-- so is a node of another type than those of labels
pub other_value : (source : List ℕ) (n : NodeTree) → type_of n ≢ kind.Label → IsParsedFrom source n → IsValueOf source n
other_value source n apart h = value_node source n (λ word. apart word.0) h

-- ---- what a key's tree says of the key

token_is : (a b : Token) → tree.one a ≡ tree.one b → a ≡ b
token_is a b e = cc

key_spelled : (S : Simple) (t : SpannedTree) (p : Range ℕ) (key : Token) (v : Value) → key_of t ≡ Some (p, key) → SimpleTree S (tree_of t) v → (leaf : Leaf) × Spells S key leaf × (v ≡ value.leaf leaf)
key_spelled S (at q (label r w no_placed)) p key v e (other, leaf, is, spelled, means) = absurd (cc)
key_spelled S (at q (one (token.number w))) p key v e (other, leaf, is, spelled, means) = (leaf, subst (λ (u : Token). Spells S u leaf) (sym (token_is _ _ is) ∙ ap (λ (k : Range ℕ × Token). k.1) (some_is (q, token.number w) (p, key) e)) spelled, means)
key_spelled S (at q (one (token.char w))) p key v e (other, leaf, is, spelled, means) = (leaf, subst (λ (u : Token). Spells S u leaf) (sym (token_is _ _ is) ∙ ap (λ (k : Range ℕ × Token). k.1) (some_is (q, token.char w) (p, key) e)) spelled, means)
key_spelled S (at q (one (token.string w))) p key v e (other, leaf, is, spelled, means) = (leaf, subst (λ (u : Token). Spells S u leaf) (sym (token_is _ _ is) ∙ ap (λ (k : Range ℕ × Token). k.1) (some_is (q, token.string w) (p, key) e)) spelled, means)
key_spelled S (at q (one (token.multiline w))) p key v e (other, leaf, is, spelled, means) = (leaf, subst (λ (u : Token). Spells S u leaf) (sym (token_is _ _ is) ∙ ap (λ (k : Range ℕ × Token). k.1) (some_is (q, token.multiline w) (p, key) e)) spelled, means)
key_spelled S _ p key v e h = absurd (cc)

-- a label that is no keyword spells no value of one token
pub label_spells_none : (S : Simple) (w : List ℕ) → ((b : Bool) → w ≢ bool_text b) → SpellsNoLeaf S (token.label w)
label_spells_none type.bool w apart l (b, is, f) = apart b (label_is w (bool_text b) is)
label_spells_none (type.whole which) w apart l h = cc (h.2)
label_spells_none type.char w apart l h = cc (h.2)
label_spells_none type.string w apart l (text, s, inl h, f) = cc (h.0)
label_spells_none type.string w apart l (text, s, inr h, f) = cc (h.0)

-- a fault at the key's tree is one of the key
pub key_fault : (i j : Order) (S : Simple) (t : SpannedTree) (p : Range ℕ) (key : Token) (k : Refusal) (q : Range ℕ) → key_of t ≡ Some (p, key) → span_of t ≡ p → ((w : List ℕ) (b : Bool) → key ≡ token.label w → w ≢ bool_text b) → FirstFault i j (type.simple S) t k q → LoneKeyFault S p key k q
key_fault i j S (at r (label o w no_placed)) p key k q e place apart fault =
    let is = ap (λ (x : Range ℕ × Token). x.1) (some_is (o, token.label w) (p, key) e) in
    subst (λ (u : Token). LoneKeyFault S p u k q) is (inl ((λ none. cc), label_spells_none S w (λ b. apart w b (sym is)), (fault.0, fault.1 ∙ place)))
key_fault i j S (at r (one (token.number w))) p key k q e place apart fault =
    let is = ap (λ (x : Range ℕ × Token). x.1) (some_is (r, token.number w) (p, key) e) in
    subst (λ (u : Token). LoneKeyFault S p u k q) is (inr (refl, subst (λ (z : Range ℕ). LeafFault S z (token.number w) k q) place fault))
key_fault i j S (at r (one (token.char w))) p key k q e place apart fault =
    let is = ap (λ (x : Range ℕ × Token). x.1) (some_is (r, token.char w) (p, key) e) in
    subst (λ (u : Token). LoneKeyFault S p u k q) is (inr (refl, subst (λ (z : Range ℕ). LeafFault S z (token.char w) k q) place fault))
key_fault i j S (at r (one (token.string w))) p key k q e place apart fault =
    let is = ap (λ (x : Range ℕ × Token). x.1) (some_is (r, token.string w) (p, key) e) in
    subst (λ (u : Token). LoneKeyFault S p u k q) is (inr (refl, subst (λ (z : Range ℕ). LeafFault S z (token.string w) k q) place fault))
key_fault i j S (at r (one (token.multiline w))) p key k q e place apart fault =
    let is = ap (λ (x : Range ℕ × Token). x.1) (some_is (r, token.multiline w) (p, key) e) in
    subst (λ (u : Token). LoneKeyFault S p u k q) is (inr (refl, subst (λ (z : Range ℕ). LeafFault S z (token.multiline w) k q) place fault))
key_fault i j S _ p key k q e place apart fault = absurd (cc)

-- a key of the text of a bool is a keyword
bool_keyword : (b : Bool) → (k : Keyword) × (bool_text b ≡ keyword_text k)
bool_keyword true = (keyword.True, refl)
bool_keyword false = (keyword.False, refl)

no_bool_text : (source : List ℕ) (n : NodeTree) (p : Range ℕ) (key : Token) → IsTokenOf source n p key → (IsKeywordOf source n → ⊥) → (w : List ℕ) (b : Bool) → key ≡ token.label w → w ≢ bool_text b
no_bool_text source n p key h apart w b is same =
    let own : IsKeyToken (type_of n) (node_text source n) (token.label w) = subst (IsKeyToken (type_of n) (node_text source n)) is (key_token source n p key h) in
    let k = bool_keyword b in
    apart (own.0, k.0, sym own.1 ∙ (same ∙ k.1))

module _ {V : Type 0} (tree_value : V → Value) (of : V → TypeTree → Type 0) (Full : TypeTree → Type 0) (o w : Order) where
  -- what the tree of a key that is no keyword is given is what the key spells
  pub key_read : (T : TypeTree) (K : Simple) (source : List ℕ) (n : NodeTree) (p : Range ℕ) (key : Token) (r : Result V Diagnostic) → T ≡ type.simple K → (IsKeywordOf source n → ⊥) → (h : IsTokenOf source n p key) → MatchResult r (IsTypedValue tree_value of T h.0.0) (IsBlamed Full o w T h.0.0) → MatchResult r (IsKeyRead tree_value of K key) (IsKeyBlamed Full K p key)
  key_read T K source n p key (Ok v) is apart h read =
      let typed : IsTypedValue tree_value of (type.simple K) h.0.0 v = subst (λ (U : TypeTree). IsTypedValue tree_value of U h.0.0 v) is read in
      let k = key_spelled K h.0.0 p key (tree_value v) h.0.2 typed.reads in
      record { leaf = k.0; spells = k.1; means = k.2; is_of = typed.is_of }
  key_read T K source n p key (Err e) is apart h blamed = by (subst (λ (U : TypeTree). IsBlamed Full o w U h.0.0 e) is blamed)
    where
      by : IsBlamed Full o w (type.simple K) h.0.0 e → IsKeyBlamed Full K p key e
      by (inl memory) = inl memory
      by (inr (inl fault)) = inr (inl (key_fault o w K h.0.0 p key (refusal_of e) e.span h.0.2 ((inside source n h.0.0 h.0.1).place ∙ sym (key_at source n p key h)) (no_bool_text source n p key h apart) fault))
      by (inr (inr full)) = inr (inr full)

  fault_spells_none : (K : Simple) (p : Range ℕ) (key : Token) (k : Refusal) (q : Range ℕ) → LoneKeyFault K p key k q → SpellsNoLeaf K key
  fault_spells_none K p key k q (inl h) = h.1
  fault_spells_none K p key k q (inr h) = λ l spelled. leaf_none K p key k q l h.1 spelled

  -- where a fault is the answer the key spells no value
  pub key_reported_none : (K : Simple) (p : Range ℕ) (key : Token) (r : Result V Diagnostic) → MatchResult r (IsKeyRead tree_value of K key) (IsKeyBlamed Full K p key) → MatchResult r (IsKeyRead tree_value of K key) (IsKeyError Full K p key)
  key_reported_none K p key (Ok v) h = h
  key_reported_none K p key (Err e) (inl memory) = inl memory
  key_reported_none K p key (Err e) (inr (inl fault)) = inr (inl (fault, fault_spells_none K p key (refusal_of e) e.span fault))
  key_reported_none K p key (Err e) (inr (inr full)) = inr (inr full)

-- a keyword at another simple type than bool
pub keyword_fault : (K : Simple) (source : List ℕ) (n : NodeTree) (p : Range ℕ) (key : Token) (e : Diagnostic) → K ≢ type.bool → IsTokenOf source n p key → type_of n ≡ kind.Label → RefusedAs InvalidType n e → LoneKeyFault K p key (refusal_of e) e.span
keyword_fault K source n p key e apart h labelled refused =
    by K key apart (key_token source n p key h) (at_key InvalidType source n p key (refusal_of e) e.span h (said refused))
  where
    by : (S : Simple) (t : Token) → S ≢ type.bool → IsKeyToken (type_of n) (node_text source n) t → IsRefusalOf InvalidType p (refusal_of e) e.span → LoneKeyFault S p t (refusal_of e) e.span
    by type.bool t other own reported = absurd (other refl)
    by (type.whole which) (token.label w) other own reported = inl ((λ none. cc), (λ l s. cc (s.2)), reported)
    by type.char (token.label w) other own reported = inl ((λ none. cc), (λ l s. cc (s.2)), reported)
    by type.string (token.label w) other own reported = inl ((λ none. cc), no_spelling w, reported)
    by S (token.number w) other own reported = absurd (cc (sym labelled ∙ own.0))
    by S (token.char w) other own reported = absurd (cc (sym labelled ∙ own.0))
    by S (token.string w) other own reported = absurd (cc (sym labelled ∙ own.0))
    by S (token.multiline w) other own reported = absurd (cc (sym labelled ∙ own.0))
    by S _ other own reported = absurd own

-- a simple type has no names
pub simple_distinct : (T : TypeTree) (K : Simple) → T ≡ type.simple K → HasDistinctNames T
simple_distinct T K is = subst HasDistinctNames (sym is) tt
