-- A tree to which the type gives a value is read as that value.
use Rattle.std.proofs.Common.{ℕ, zero, suc, ◌-◌, ◌<◌, ◌≡◌, inl, inr, Bool, true, false, List, [], ◌∷◌, length, refl, sym, ap, ◌∙◌, subst, arith}
use Rattle.std.specs.Prelude.{codes, map, cond}
use Rattle.wave_grammar.specs.Token.{Token, brace_open, brace_close, paren_open, paren_close, bracket_open, bracket_close, colon, number, label, char, string, multiline}
use Rattle.wave_wasm.specs.Types as type
use Rattle.wave_wasm.specs.Types.{TypeTree, MaybeType, Types, Fields, Cases, Simple, no_type, a_type, no_types, type_and, no_fields, field, no_cases, case_of}
use Rattle.wave_wasm.specs.Names.{IsNoneOf, AreDistinct, IsOneOf, AreAllOf}
use Rattle.wave_wasm.specs.Values as value
use Rattle.wave_wasm.specs.Values.{Value, MaybeValue, FieldValues, Leaf, no_value, a_value, values, entries}
use Rattle.wave_grammar.specs.CommaSeparated.{Spelling, FurtherItems, Items}
use Rattle.wave_wasm.specs.Keywords as kw
use Rattle.wave_wasm.specs.Names as nm
use Rattle.wave_wasm.proofs.Names.NameTests.{is_one, none_of}
use Rattle.wave_grammar.specs.TypedGrammar as r
use Rattle.wave_grammar.specs.LeafTokens.{name_of}
use Rattle.wave_grammar.specs.TypedGrammar.{Reads, ReadsPayload, ReadsFlat, ReadsTuple, ReadsFurther, ReadsField, ReadsCase, IsFlat}
use Rattle.wave_grammar.specs.Tree as tree
use Rattle.wave_grammar.specs.Tree.{Tree, MaybeTree, Trees, TreeEntries, trees, tree_entries, no_tree, a_tree, in_order, ATree, Takes, KeyAnd, MaybeInParens, InBraces, BehindWord, IsKey, Word, word_of, leaf_word, none_word, some_word, ok_word, err_word, case_word}
use Rattle.wave_grammar.specs.Elaborates as m
use Rattle.wave_grammar.specs.Elaborates.{Meaning, Each, TreeReads, TreeReadsPayload, TreeReadsFlat, TreeReadsAll, TreeReadsField, TreeReadsCase}
use Rattle.wave_grammar.proofs.Unambiguity.Values.{pair-path}
use Rattle.wave_grammar.proofs.Elaboration.GrammarToTree.{not-keyword, found-order, each-long}

-- what each tree's tokens are
abbrev pub ByTree : Spelling Tree → Tree → List Token → List Token → Type 0
ByTree Inner (tree.one token) tokens rest = tokens ≡ token ∷ rest
ByTree Inner (tree.tuple ts) tokens rest = (prefix : List Token) × (items : List Tree) × (tokens ≡ paren_open ∷ prefix) × (0 < length items) × Items paren_close Inner prefix items rest × (ts ≡ trees items)
ByTree Inner (tree.list ts) tokens rest = (prefix : List Token) × (items : List Tree) × (tokens ≡ bracket_open ∷ prefix) × Items bracket_close Inner prefix items rest × (ts ≡ trees items)
ByTree Inner tree.empty_braces tokens rest = tokens ≡ brace_open ∷ brace_close ∷ rest
ByTree Inner tree.no_fields tokens rest = tokens ≡ brace_open ∷ colon ∷ brace_close ∷ rest
ByTree Inner (tree.entries all) tokens rest =
    (prefix : List Token) × (es : List (Token × Tree)) × (tokens ≡ brace_open ∷ prefix) × (0 < length es) × Items brace_close (KeyAnd Inner) prefix es rest × (all ≡ tree_entries es)
ByTree Inner (tree.flags all) tokens rest =
    (prefix : List Token) × (texts : List (List ℕ)) × (tokens ≡ brace_open ∷ prefix) × Items brace_close tree.Label prefix texts rest × AreDistinct (map name_of texts) × (all ≡ in_order texts)
ByTree Inner (tree.label text payload) tokens rest = (behind : List Token) × (tokens ≡ label text ∷ behind) × IsNoneOf kw.keywords text × MaybeInParens Inner behind payload rest
ByTree Inner tree.none tokens rest = tokens ≡ label (codes "none") ∷ rest
ByTree Inner (tree.some inner) tokens rest = (behind : List Token) × (tokens ≡ label (codes "some") ∷ behind) × r.InParens Inner behind inner rest
ByTree Inner (tree.ok payload) tokens rest = (behind : List Token) × (tokens ≡ label (codes "ok") ∷ behind) × MaybeInParens Inner behind payload rest
ByTree Inner (tree.err payload) tokens rest = (behind : List Token) × (tokens ≡ label (codes "err") ∷ behind) × MaybeInParens Inner behind payload rest

-- what a word's class says of its text
abbrev WordIs : Word → List ℕ → Type 0
WordIs leaf_word text = Unit {0}
WordIs none_word text = text ≡ codes "none"
WordIs some_word text = text ≡ codes "some"
WordIs ok_word text = text ≡ codes "ok"
WordIs err_word text = text ≡ codes "err"
WordIs case_word text = IsNoneOf kw.keywords text

-- the same for a text that is one of the words
known : (text other : List ℕ) → text ≡ other → WordIs (word_of other) other → WordIs (word_of text) text
known text other e h = subst (λ x. WordIs (word_of x) x) (sym e) h

-- each keyword is what its text says
keyword-is : (text : List ℕ) → IsOneOf kw.keywords text → WordIs (word_of text) text
keyword-is text (inl e) = known text _ e tt
keyword-is text (inr (inl e)) = known text _ e tt
keyword-is text (inr (inr (inl e))) = known text _ e refl
keyword-is text (inr (inr (inr (inl e)))) = known text _ e refl
keyword-is text (inr (inr (inr (inr (inl e))))) = known text _ e refl
keyword-is text (inr (inr (inr (inr (inr (inl e)))))) = known text _ e refl
keyword-is text (inr (inr (inr (inr (inr (inr (inl e))))))) = known text _ e tt
keyword-is text (inr (inr (inr (inr (inr (inr (inr (inl e)))))))) = known text _ e tt
keyword-is text (inr (inr (inr (inr (inr (inr (inr (inr h)))))))) = absurd h

-- each word is what its text says
word-is : (text : List ℕ) → WordIs (word_of text) text
word-is text = by_test (kw.is_keyword text) refl
  where
    by_test : (t : Bool) → kw.is_keyword text ≡ t → WordIs (word_of text) text
    by_test true e = keyword-is text (is_one kw.keywords text e)
    by_test false e = let none = none_of kw.keywords text e in subst (λ w. WordIs w text) (sym (not-keyword text none)) none

-- what stands after a label
by-word : (Inner : Spelling Tree) (w : Word) (text : List ℕ) (behind : List Token) (t : Tree) (rest : List Token) → WordIs w text → BehindWord w text Inner behind t rest → ByTree Inner t (label text ∷ behind) rest
by-word Inner leaf_word text behind t rest w (e, f) = subst (λ t. ByTree Inner t (label text ∷ behind) rest) (sym f) (ap (λ x. label text ∷ x) e)
by-word Inner none_word text behind t rest w (e, f) = subst (λ t. ByTree Inner t (label text ∷ behind) rest) (sym f) cc
by-word Inner some_word text behind t rest w (inner, p, f) = subst (λ t. ByTree Inner t (label text ∷ behind) rest) (sym f) (behind, ap (λ x. label x ∷ behind) w, p)
by-word Inner ok_word text behind t rest w (payload, p, f) = subst (λ t. ByTree Inner t (label text ∷ behind) rest) (sym f) (behind, ap (λ x. label x ∷ behind) w, p)
by-word Inner err_word text behind t rest w (payload, p, f) = subst (λ t. ByTree Inner t (label text ∷ behind) rest) (sym f) (behind, ap (λ x. label x ∷ behind) w, p)
by-word Inner case_word text behind t rest w (payload, p, f) = subst (λ t. ByTree Inner t (label text ∷ behind) rest) (sym f) (behind, refl, w, p)

-- a tree stands on its own tokens
by-tree : (Inner : Spelling Tree) (tokens : List Token) (t : Tree) (rest : List Token) → ATree Inner tokens t rest → ByTree Inner t tokens rest
by-tree Inner [] t rest h = absurd h
by-tree Inner (paren_open ∷ prefix) t rest (items, l, h, e) = subst (λ t. ByTree Inner t (paren_open ∷ prefix) rest) (sym e) (prefix, items, refl, l, h, refl)
by-tree Inner (bracket_open ∷ prefix) t rest (items, h, e) = subst (λ t. ByTree Inner t (bracket_open ∷ prefix) rest) (sym e) (prefix, items, refl, h, refl)
by-tree Inner (brace_open ∷ prefix) t rest (inl (e, f)) = subst (λ t. ByTree Inner t (brace_open ∷ prefix) rest) (sym f) (ap (λ x. brace_open ∷ x) e)
by-tree Inner (brace_open ∷ prefix) t rest (inr (inl (e, f))) = subst (λ t. ByTree Inner t (brace_open ∷ prefix) rest) (sym f) (ap (λ x. brace_open ∷ x) e)
by-tree Inner (brace_open ∷ prefix) t rest (inr (inr (inl (es, l, h, f)))) = subst (λ t. ByTree Inner t (brace_open ∷ prefix) rest) (sym f) (prefix, es, refl, l, h, refl)
by-tree Inner (brace_open ∷ prefix) t rest (inr (inr (inr (texts, l, h, d, f)))) = subst (λ t. ByTree Inner t (brace_open ∷ prefix) rest) (sym f) (prefix, texts, refl, h, d, refl)
by-tree Inner (label text ∷ behind) t rest h = by-word Inner (word_of text) text behind t rest (word-is text) h
by-tree Inner (number text ∷ behind) t rest (e, f) = subst (λ t. ByTree Inner t (number text ∷ behind) rest) (sym f) (ap (λ x. number text ∷ x) e)
by-tree Inner (char text ∷ behind) t rest (e, f) = subst (λ t. ByTree Inner t (char text ∷ behind) rest) (sym f) (ap (λ x. char text ∷ x) e)
by-tree Inner (string text ∷ behind) t rest (e, f) = subst (λ t. ByTree Inner t (string text ∷ behind) rest) (sym f) (ap (λ x. string text ∷ x) e)
by-tree Inner (multiline text ∷ behind) t rest (e, f) = subst (λ t. ByTree Inner t (multiline text ∷ behind) rest) (sym f) (ap (λ x. multiline text ∷ x) e)
by-tree Inner (token ∷ behind) t rest h = absurd h

-- what is taken stands on its own tokens
takes-is : (n : ℕ) (tokens : List Token) (t : Tree) (rest : List Token) → Takes n tokens t rest → (0 < n) × ByTree (Takes (n - 1)) t tokens rest
takes-is zero tokens t rest h = absurd h
takes-is (suc n) tokens t rest h = let e : n ≡ suc n - 1 = omega arith in (omega arith, subst (λ x. ByTree (Takes x) t tokens rest) e (by-tree (Takes n) tokens t rest h))

-- the same for a tree written in another way
takes-as : (n : ℕ) (tokens : List Token) (t u : Tree) (rest : List Token) → Takes n tokens t rest → t ≡ u → (0 < n) × ByTree (Takes (n - 1)) u tokens rest
takes-as n tokens t u rest h e = let (l, k) = takes-is n tokens t rest h in (l, subst (λ x. ByTree (Takes (n - 1)) x tokens rest) e k)

-- ---- the rows

-- a tree to which Q gives a value is read by P as that value
abbrev pub Back : {T A : Type 0} → Spelling T → Meaning T A → Spelling A → Type 0
Back {T} {A} I Q P = (tokens : List Token) (t : T) (a : A) (rest : List Token) → I tokens t rest → Q t a → P tokens a rest

-- lists of trees are told apart
pub trees-injective : (ts us : List Tree) → trees ts ≡ trees us → ts ≡ us
trees-injective [] [] e = refl
trees-injective [] (u ∷ us) e = cc
trees-injective (t ∷ ts) [] e = cc
trees-injective (t ∷ ts) (u ∷ us) e = let f : trees ts ≡ trees us = cc in let g = trees-injective ts us f in cc

-- lists of entries are told apart
entries-injective : (es fs : List (Token × Tree)) → tree_entries es ≡ tree_entries fs → es ≡ fs
entries-injective [] [] e = refl
entries-injective [] (u ∷ us) e = cc
entries-injective (t ∷ ts) [] e = cc
entries-injective (t ∷ ts) (u ∷ us) e =
    let f : tree_entries ts ≡ tree_entries us = cc in
    let g = entries-injective ts us f in
    let k : t.0 ≡ u.0 = cc in
    let l : t.1 ≡ u.1 = cc in
    let h : t ≡ u = pair-path k l in cc

-- further items
further-back : {T A : Type 0} (close : Token) (I : Spelling T) (Q : Meaning T A) (P : Spelling A) → Back I Q P →
    (tokens : List Token) (ts : List T) (items : List A) (rest : List Token) → FurtherItems close I tokens ts rest → Each Q ts items → FurtherItems close P tokens items rest
further-back close I Q P back tokens [] items rest h e = subst (λ x. FurtherItems close P tokens x rest) (sym e) h
further-back close I Q P back tokens (t ∷ ts) items rest (prefix, behind, e, i, h) (a, more, q, each, f) =
    subst (λ x. FurtherItems close P tokens x rest) (sym f) (prefix, behind, e, back prefix t a behind i q, further-back close I Q P back behind ts more rest h each)

-- items and their close
items-back : {T A : Type 0} (close : Token) (I : Spelling T) (Q : Meaning T A) (P : Spelling A) → Back I Q P →
    (tokens : List Token) (ts : List T) (items : List A) (rest : List Token) → Items close I tokens ts rest → Each Q ts items → Items close P tokens items rest
items-back close I Q P back tokens [] items rest h e = subst (λ x. Items close P tokens x rest) (sym e) h
items-back close I Q P back tokens (t ∷ ts) items rest (behind, i, h) (a, more, q, each, f) =
    subst (λ x. Items close P tokens x rest) (sym f) (behind, back tokens t a behind i q, further-back close I Q P back behind ts more rest h each)

-- a value of one token
simple-back : (S : Simple) (n : ℕ) → Back (Takes n) (m.SimpleTree S) (r.Provided (0 < n) (r.ASimple S))
simple-back S n tokens t v rest h (token, one, e, s, f) = let (l, k) = takes-as n tokens t (tree.one token) rest h e in (l, (token, one, k, s, f))

-- a list
list-back : (Q : Meaning Tree Value) (P : Spelling Value) (n : ℕ) → Back (Takes (n - 1)) Q P → Back (Takes n) (m.ListTree Q) (r.Provided (0 < n) (r.AList P))
list-back Q P n back tokens t v rest h (ts, vs, e, each, f) =
    let (l, (prefix, items, g, i, k)) = takes-as n tokens t (tree.list (trees ts)) rest h e in
    (l, (vs, (prefix, g, items-back bracket_close (Takes (n - 1)) Q P back prefix ts vs rest (subst (λ x. Items bracket_close (Takes (n - 1)) prefix x rest) (sym (trees-injective ts items k)) i) each), f))

-- a fixed-length list
fixed-back : (count : ℕ) (Q : Meaning Tree Value) (P : Spelling Value) (n : ℕ) → Back (Takes (n - 1)) Q P → Back (Takes n) (m.FixedListTree count Q) (r.Provided (0 < n) (r.AFixedList count P))
fixed-back count Q P n back tokens t v rest h (ts, vs, e, long, each, f) =
    let (l, (prefix, items, g, i, k)) = takes-as n tokens t (tree.list (trees ts)) rest h e in (
      l,
      (
        vs,
        (prefix, g, items-back bracket_close (Takes (n - 1)) Q P back prefix ts vs rest (subst (λ x. Items bracket_close (Takes (n - 1)) prefix x rest) (sym (trees-injective ts items k)) i) each),
        sym (each-long Q ts vs each) ∙ long,
        f,
      ),
    )

-- a tuple
tuple-back : (Q : Meaning (List Tree) (List Value)) (P : Spelling (List Value)) (n : ℕ) →
    ((tokens : List Token) (ts : List Tree) (items : List Value) (rest : List Token) → Items paren_close (Takes (n - 1)) tokens ts rest → 0 < length ts → Q ts items → P tokens items rest) →
    Back (Takes n) (m.TupleTree Q) (r.Provided (0 < n) (r.ATuple P))
tuple-back Q P n back tokens t v rest h (ts, vs, e, some, q, f) =
    let (l, (prefix, items, g, some', i, k)) = takes-as n tokens t (tree.tuple (trees ts)) rest h e in
    (l, (vs, prefix, g, back prefix ts vs rest (subst (λ x. Items paren_close (Takes (n - 1)) prefix x rest) (sym (trees-injective ts items k)) i) some q, f))

-- a payload
payload-back : (n : ℕ) (Q : Meaning Tree Value) (P : Spelling Value) → Back (Takes n) Q P → Back (MaybeInParens (Takes n)) (m.PayloadTree Q) (r.Payload P)
payload-back n Q P back tokens t payload rest (inl (e, apart, f)) (inner, w, g, q, k) = let never : no_tree ≡ a_tree inner = cc in cc
payload-back n Q P back tokens t payload rest (inr (u, (prefix, e, i), f)) (inner, w, g, q, k) =
    let same : inner ≡ u = cc in (w, (prefix, e, back prefix u w (paren_close ∷ rest) i (subst (λ x. Q x w) same q)), k)

-- no payload
bare-back : (n : ℕ) → Back (MaybeInParens (Takes n)) m.BareTree r.Bare
bare-back n tokens t payload rest (inl (e, apart, f)) (g, k) = (e, k)
bare-back n tokens t payload rest (inr (u, p, f)) (g, k) = let never : no_tree ≡ a_tree u = cc in cc

-- no meaning
never-back : {T A : Type 0} (I : Spelling T) → Back {A = A} I m.NeverTree r.Never
never-back I tokens t a rest h q = q

-- under a premise
if-back : {T A : Type 0} (H : Type 0) (I : Spelling T) (Q : Meaning T A) (P : Spelling A) → Back I Q P → Back I (m.If H Q) (r.Provided H P)
if-back H I Q P back tokens t a rest h (k, q) = (k, back tokens t a rest h q)

-- one or the other
or-back : {T A : Type 0} (I : Spelling T) (Q Q' : Meaning T A) (P P' : Spelling A) → Back I Q P → Back I Q' P' → Back I (m.Or Q Q') (r.Either P P')
or-back I Q Q' P P' one two tokens t a rest h (inl q) = inl (one tokens t a rest h q)
or-back I Q Q' P P' one two tokens t a rest h (inr q) = inr (two tokens t a rest h q)

-- a case of a variant and its payload
variant-back : (Q : List ℕ → Meaning MaybeTree MaybeValue) (P : List ℕ → Spelling MaybeValue) (n : ℕ) → ((name : List ℕ) → Back (MaybeInParens (Takes (n - 1))) (Q name) (P name)) →
    Back (Takes n) (m.VariantTree Q) (r.Provided (0 < n) (r.AVariant P))
variant-back Q P n back tokens t v rest h (text, inner, payload, e, q, f) =
    let (l, (behind, g, w, i)) = takes-as n tokens t (tree.label text inner) rest h e in
    (l, (name_of text, payload, behind, (text, g, refl, w), back (name_of text) behind inner payload rest i q, f))

-- a case of an enum
enum-back : (names : List (List ℕ)) (n : ℕ) → Back (Takes n) (m.EnumTree names) (r.Provided (0 < n) (r.AnEnum names))
enum-back names n tokens t v rest h (text, e, one, f) =
    let (l, (behind, g, w, i)) = takes-as n tokens t (tree.label text no_tree) rest h e in
    let b : behind ≡ rest = bare behind i in
    (l, (name_of text, (text, g ∙ ap (λ x. label text ∷ x) b, refl, w), one, f))
  where
    bare : (behind : List Token) → MaybeInParens (Takes (n - 1)) behind no_tree rest → behind ≡ rest
    bare behind (inl (e, apart, f)) = e
    bare behind (inr (u, p, f)) = cc

-- an option, or a value that stands for `some` of itself
option-back : (Q Q' : Meaning Tree Value) (P P' : Spelling Value) (n : ℕ) (wrap : Value → Value) → Back (Takes (n - 1)) Q P → Back (Takes n) Q' P' →
    Back (Takes n) (m.Or (m.OptionTree Q) (m.StandsTree wrap Q')) (r.Either (r.Provided (0 < n) (r.AnOption P)) (r.Stands wrap P'))
option-back Q Q' P P' n wrap back back' tokens t v rest h (inl (inl (e, f))) = let (l, k) = takes-as n tokens t tree.none rest h e in inl (l, inl (k, f))
option-back Q Q' P P' n wrap back back' tokens t v rest h (inl (inr (inner, w, e, q, f))) =
    let (l, (behind, g, (prefix, i, k))) = takes-as n tokens t (tree.some inner) rest h e in
    inl (l, inr (w, (behind, g, (prefix, i, back prefix inner w (paren_close ∷ rest) k q)), f))
option-back Q Q' P P' n wrap back back' tokens t v rest h (inr (w, q, f)) = inr (w, back' tokens t w rest h q, f)

-- a result, or a value that stands for `ok` of itself
result-back : (Q Q' : Meaning MaybeTree MaybeValue) (Q'' : Meaning Tree Value) (P P' : Spelling MaybeValue) (P'' : Spelling Value) (n : ℕ) (wrap : Value → Value) →
    Back (MaybeInParens (Takes (n - 1))) Q P → Back (MaybeInParens (Takes (n - 1))) Q' P' → Back (Takes n) Q'' P'' →
    Back (Takes n) (m.Or (m.ResultTree Q Q') (m.StandsTree wrap Q'')) (r.Either (r.Provided (0 < n) (r.AResult P P')) (r.Stands wrap P''))
result-back Q Q' Q'' P P' P'' n wrap one two three tokens t v rest h (inl (inl (inner, payload, e, q, f))) =
    let (l, (behind, g, i)) = takes-as n tokens t (tree.ok inner) rest h e in inl (l, inl (payload, (behind, g, one behind inner payload rest i q), f))
result-back Q Q' Q'' P P' P'' n wrap one two three tokens t v rest h (inl (inr (inner, payload, e, q, f))) =
    let (l, (behind, g, i)) = takes-as n tokens t (tree.err inner) rest h e in inl (l, inr (payload, (behind, g, two behind inner payload rest i q), f))
result-back Q Q' Q'' P P' P'' n wrap one two three tokens t v rest h (inr (w, q, f)) = inr (w, three tokens t w rest h q, f)

-- a name and what it is for
named-back : {A : Type 0} (I : Spelling Tree) (Q : List ℕ → Meaning Tree A) (P : List ℕ → Spelling A) → ((name : List ℕ) → Back I (Q name) (P name)) → Back (KeyAnd I) (m.NamedTree Q) (r.Named P)
named-back I Q P back tokens e f rest (prefix, g, k, i) (text, h, same, q) =
    (text, prefix, g ∙ ap (λ x. x ∷ colon ∷ prefix) h, same, back f.0 prefix e.1 f.1 rest i q)

-- a key and its value
keyed-back : {A : Type 0} (K : Simple) (I : Spelling Tree) (Q : Meaning Tree A) (P : Spelling A) → Back I Q P → Back (KeyAnd I) (m.KeyedTree K Q) (r.Keyed K P)
keyed-back K I Q P back tokens e f rest (prefix, g, k, i) (s, q) = (e.0, prefix, g, s, back prefix e.1 f.1 rest i q)

-- as many values as trees, so some
each-some : {T A : Type 0} (Q : Meaning T A) (ts : List T) (items : List A) → Each Q ts items → 0 < length ts → 0 < length items
each-some Q [] items e l = absurd (omega arith)
each-some Q (t ∷ ts) items (a, more, q, each, f) l = let g : length items ≡ suc (length more) = ap length f in omega arith

-- a record
record-back : (fs : Fields) (Q : List ℕ → Meaning Tree Value) (P : List ℕ → Spelling Value) (n : ℕ) → ((name : List ℕ) → Back (Takes (n - 1)) (Q name) (P name)) →
    Back (Takes n) (m.RecordTree fs Q) (r.Provided (0 < n) (r.ARecord fs P))
record-back fs Q P n back tokens t v rest h (es, found, all, inl (e, f), each, d, fills, g) =
    let (l, k) = takes-as n tokens t tree.no_fields rest h e in
    let none = subst (λ x. Each (m.NamedTree Q) x found) f each in
    (l, (found, all, inl (k, none), d, fills, g))
record-back fs Q P n back tokens t v rest h (es, found, all, inr (e, some), each, d, fills, g) =
    let (l, (prefix, es', k, some', i, same)) = takes-as n tokens t (tree.entries (tree_entries es)) rest h e in (
      l,
      (
        found,
        all,
        inr (
          (
            prefix,
            k,
            items-back brace_close (KeyAnd (Takes (n - 1))) (m.NamedTree Q) (r.Named P) (named-back (Takes (n - 1)) Q P back) prefix es found rest
                (subst (λ x. Items brace_close (KeyAnd (Takes (n - 1))) prefix x rest) (sym (entries-injective es es' same)) i) each,
          ),
          each-some (m.NamedTree Q) es found each some,
        ),
        d,
        fills,
        g,
      ),
    )

-- a map
map-back : (K : Simple) (Q : Meaning Tree Value) (P : Spelling Value) (n : ℕ) → Back (Takes (n - 1)) Q P → Back (Takes n) (m.MapTree K Q) (r.Provided (0 < n) (r.AMap K P))
map-back K Q P n back tokens t v rest h (es, pairs, inl (inl e, f), each, g) =
    let (l, k) = takes-as n tokens t tree.empty_braces rest h e in
    let none = subst (λ x. Each (m.KeyedTree K Q) x pairs) f each in
    (l, (pairs, inr (brace_close ∷ rest, k, subst (λ x. Items brace_close (r.Keyed K P) (brace_close ∷ rest) x rest) (sym none) refl), g))
map-back K Q P n back tokens t v rest h (es, pairs, inl (inr e, f), each, g) =
    let (l, k) = takes-as n tokens t tree.no_fields rest h e in
    let none = subst (λ x. Each (m.KeyedTree K Q) x pairs) f each in
    (l, (pairs, inl (k, none), g))
map-back K Q P n back tokens t v rest h (es, pairs, inr (e, some), each, g) =
    let (l, (prefix, es', k, some', i, same)) = takes-as n tokens t (tree.entries (tree_entries es)) rest h e in (
      l,
      (
        pairs,
        inr (
          prefix,
          k,
          items-back brace_close (KeyAnd (Takes (n - 1))) (m.KeyedTree K Q) (r.Keyed K P) (keyed-back K (Takes (n - 1)) Q P back) prefix es pairs rest
              (subst (λ x. Items brace_close (KeyAnd (Takes (n - 1))) prefix x rest) (sym (entries-injective es es' same)) i) each,
        ),
        g,
      ),
    )

-- the same labels in another order
put-names : (names : List (List ℕ)) (text other : List ℕ) (more put : List (List ℕ)) (b : Bool) → (AreAllOf names (map name_of put) → IsOneOf names (name_of text) × AreAllOf names (map name_of more)) →
    AreAllOf names (map name_of (cond b (text ∷ other ∷ more) (other ∷ put))) → IsOneOf names (name_of text) × (IsOneOf names (name_of other) × AreAllOf names (map name_of more))
put-names names text other more put true h (one, all) = (one, all)
put-names names text other more put false h (one, all) = let k = h all in (k.0, (one, k.1))

-- a label among others in order, and the others
put-back : (names : List (List ℕ)) (text : List ℕ) (texts : List (List ℕ)) → AreAllOf names (map name_of (tree.put_in_order text texts)) → IsOneOf names (name_of text) × AreAllOf names (map name_of texts)
put-back names text [] all = all
put-back names text (other ∷ more) all =
    put-names names text other more (tree.put_in_order text more) (tree.is_before (name_of text) (name_of other)) (put-back names text more) all

-- labels are all names where they are so in order
order-back : (names : List (List ℕ)) (texts : List (List ℕ)) → AreAllOf names (map name_of (in_order texts)) → AreAllOf names (map name_of texts)
order-back names [] all = tt
order-back names (text ∷ more) all = let k = put-back names text (in_order more) all in (k.0, order-back names more k.1)

-- a label
name-back : Back tree.Label (λ text name. name ≡ name_of text) r.Name
name-back tokens text name rest e f = (text, e, sym f)

-- labels have their names
each-name_of : (texts : List (List ℕ)) → Each (λ text name. name ≡ name_of text) texts (map name_of texts)
each-name_of [] = refl
each-name_of (text ∷ more) = (name_of text, map name_of more, refl, each-name_of more, refl)

-- flags
flags-back : (names : List (List ℕ)) (n : ℕ) → Back (Takes n) (m.FlagsTree names) (r.Provided (0 < n) (r.Flags names))
flags-back names n tokens t v rest h (texts, inl (e, f), all, g) =
    let (l, k) = takes-as n tokens t tree.empty_braces rest h e in
    (l, ([], (brace_close ∷ rest, k, refl), tt, tt, g ∙ ap (λ x. value.flags (nm.found_in (map name_of x) names)) f))
flags-back names n tokens t v rest h (texts, inr e, all, g) =
    let (l, (prefix, texts', k, i, d, same)) = takes-as n tokens t (tree.flags texts) rest h e in (
      l,
      (
        map name_of texts',
        (prefix, k, items-back brace_close tree.Label (λ text name. name ≡ name_of text) r.Name name-back prefix texts' (map name_of texts') rest i (each-name_of texts')),
        d,
        order-back names texts' (subst (λ x. AreAllOf names (map name_of x)) same all),
        g ∙ ap (λ x. value.flags (nm.found_in (map name_of x) names)) same ∙ ap value.flags (found-order texts' names),
      ),
    )

-- ---- any type

mutual
  -- a tree to which a type gives a value is read as that value
  pub back : (T : TypeTree) (n : ℕ) → Back (Takes n) (TreeReads T) (Reads T n)
  back (type.simple S) n = simple-back S n
  back (type.unreadable kind) n = never-back _
  back (type.list E) n = list-back _ _ n (back E (n - 1))
  back (type.fixed E count) n = fixed-back count _ _ n (back E (n - 1))
  back (type.record_type fs) n = record-back fs _ _ n (λ name. back-field fs (n - 1) name)
  back (type.tuple types) n = tuple-back _ _ n (back-tuple types (n - 1))
  back (type.variant cases) n = variant-back _ _ n (λ name. back-case cases (n - 1) name)
  back (type.enum names) n = enum-back names n
  back (type.option P) n = option-back _ _ _ _ n _ (back P (n - 1)) (if-back _ _ _ _ (back P n))
  back (type.result A B) n = result-back _ _ _ _ _ _ n _ (back-payload A (n - 1)) (back-payload B (n - 1)) (back-flat A n)
  back (type.flags names) n = flags-back names n
  back (type.map K V) n = map-back K _ _ n (back V (n - 1))

  -- of a payload
  pub back-payload : (A : MaybeType) (n : ℕ) → Back (MaybeInParens (Takes n)) (TreeReadsPayload A) (ReadsPayload A n)
  back-payload no_type n = bare-back n
  back-payload (a_type T) n = payload-back n _ _ (back T n)

  -- of a value that stands for `ok` of itself
  pub back-flat : (A : MaybeType) (n : ℕ) → Back (Takes n) (TreeReadsFlat A) (ReadsFlat A n)
  back-flat no_type n = never-back _
  back-flat (a_type T) n = if-back _ _ _ _ (back T n)

  -- of the values of a tuple
  pub back-tuple : (types : Types) (n : ℕ) (tokens : List Token) (ts : List Tree) (items : List Value) (rest : List Token) → Items paren_close (Takes n) tokens ts rest → 0 < length ts →
      TreeReadsAll types ts items → ReadsTuple types n tokens items rest
  back-tuple no_types n tokens ts items rest h some (e, f) = let g : length ts ≡ 0 = ap length e in omega arith
  back-tuple (type_and T more) n tokens ts items rest h some (t, others, w, ws, e, q, all, f) =
      let (behind, i, further) = subst (λ x. Items paren_close (Takes n) tokens x rest) e h in
      (w, ws, behind, back T n tokens t w behind i q, back-further more n behind others ws rest further all, f)

  -- of the further values of a tuple
  pub back-further : (types : Types) (n : ℕ) (tokens : List Token) (ts : List Tree) (items : List Value) (rest : List Token) → FurtherItems paren_close (Takes n) tokens ts rest →
      TreeReadsAll types ts items → ReadsFurther types n tokens items rest
  back-further no_types n tokens ts items rest h (e, f) = (subst (λ x. FurtherItems paren_close (Takes n) tokens x rest) e h, f)
  back-further (type_and T more) n tokens ts items rest h (t, others, w, ws, e, q, all, f) =
      let (prefix, behind, g, i, further) = subst (λ x. FurtherItems paren_close (Takes n) tokens x rest) e h in
      (prefix, g, (w, ws, behind, back T n prefix t w behind i q, back-further more n behind others ws rest further all, f))

  -- of a field
  pub back-field : (fs : Fields) (n : ℕ) (name : List ℕ) → Back (Takes n) (TreeReadsField fs name) (ReadsField fs n name)
  back-field no_fields n name = never-back _
  back-field (field other T more) n name = or-back _ _ _ _ _ (if-back _ _ _ _ (back T n)) (back-field more n name)

  -- of the payload of a case
  pub back-case : (cs : Cases) (n : ℕ) (name : List ℕ) → Back (MaybeInParens (Takes n)) (TreeReadsCase cs name) (ReadsCase cs n name)
  back-case no_cases n name = never-back _
  back-case (case_of other T more) n name = or-back _ _ _ _ _ (if-back _ _ _ _ (back-payload T n)) (back-case more n name)
