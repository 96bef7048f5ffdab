-- What a type reads is a tree to which the type gives the value.
use Rattle.std.proofs.Common.{ℕ, zero, suc, ◌-◌, ◌<◌, ◌≡◌, ◌≢◌, inl, inr, Bool, true, false, List, [], ◌∷◌, length, refl, sym, ap, ◌∙◌, subst, arith}
use Rattle.std.specs.Prelude.{codes, map, bytes_eq, cond, filter, ◌||◌}
use Rattle.std.specs.List.{list_any}
use Rattle.std.proofs.lemmas.Bool.{false_from_ne_true}
use Rattle.std.proofs.lemmas.Slice.Eq.{bytes_eq-Decides}
use Rattle.wave_grammar.specs.Token.{Token, brace_close, paren_open, paren_close, bracket_close, label}
use Rattle.wave_wasm.specs.Types as type
use Rattle.wave_wasm.specs.Types.{TypeTree, MaybeType, Types, Fields, Cases, Simple, no_type, a_type, no_types, type_and, no_fields, field, no_cases, case_of}
use Rattle.wave_wasm.specs.Names.{IsNoneOf, AreDistinct, IsOneOf, AreAllOf}
use Rattle.wave_wasm.specs.Values as value
use Rattle.wave_wasm.specs.Values.{Value, MaybeValue, Leaf}
use Rattle.wave_grammar.specs.CommaSeparated.{Spelling, FurtherItems, Items}
use Rattle.wave_wasm.specs.Keywords as kw
use Rattle.wave_wasm.specs.Names as nm
use Rattle.wave_grammar.specs.TypedGrammar as r
use Rattle.wave_grammar.specs.LeafTokens.{name_of, Spells}
use Rattle.wave_grammar.specs.TypedGrammar.{Reads, ReadsPayload, ReadsFlat, ReadsTuple, ReadsFurther, ReadsField, ReadsCase}
use Rattle.wave_grammar.specs.Tree as tree
use Rattle.wave_grammar.specs.Tree.{Tree, MaybeTree, trees, tree_entries, no_tree, a_tree, in_order, ATree, Takes, KeyAnd, MaybeInParens, IsKey, NoParen}
use Rattle.wave_grammar.specs.Elaborates as m
use Rattle.wave_grammar.specs.Elaborates.{Meaning, Each, TreeReads, TreeReadsPayload, TreeReadsFlat, TreeReadsAll, TreeReadsField, TreeReadsCase}

-- what is read is a tree with this meaning
abbrev pub Through : {T A : Type 0} → Spelling A → Spelling T → Meaning T A → Type 0
Through {T} {A} P I Q = (tokens : List Token) (a : A) (rest : List Token) → P tokens a rest → NoParen rest → (t : T) × I tokens t rest × Q t a

-- after an item stands no open parenthesis
further-no_paren : {A : Type 0} (close : Token) (P : Spelling A) → close ≢ paren_open → (tokens : List Token) (items : List A) (rest : List Token) → FurtherItems close P tokens items rest → NoParen tokens
further-no_paren close P end tokens [] rest (inl e) more f = end cc
further-no_paren close P end tokens [] rest (inr e) more f = cc
further-no_paren close P end tokens (a ∷ others) rest (prefix, behind, e, p, h) more f = cc

-- further items
further-through : {T A : Type 0} (close : Token) (P : Spelling A) (I : Spelling T) (Q : Meaning T A) → close ≢ paren_open → Through P I Q →
    (tokens : List Token) (items : List A) (rest : List Token) → FurtherItems close P tokens items rest → (ts : List T) × FurtherItems close I tokens ts rest × Each Q ts items
further-through close P I Q end through tokens [] rest h = ([], h, refl)
further-through close P I Q end through tokens (a ∷ more) rest (prefix, behind, e, p, h) =
    let (t, i, q) = through prefix a behind p (further-no_paren close P end behind more rest h) in
    let (ts, j, all) = further-through close P I Q end through behind more rest h in
    (t ∷ ts, (prefix, behind, e, i, j), (a, more, q, all, refl))

-- items and their close
items-through : {T A : Type 0} (close : Token) (P : Spelling A) (I : Spelling T) (Q : Meaning T A) → close ≢ paren_open → Through P I Q →
    (tokens : List Token) (items : List A) (rest : List Token) → Items close P tokens items rest → (ts : List T) × Items close I tokens ts rest × Each Q ts items
items-through close P I Q end through tokens [] rest h = ([], h, refl)
items-through close P I Q end through tokens (a ∷ more) rest (behind, p, h) =
    let (t, i, q) = through tokens a behind p (further-no_paren close P end behind more rest h) in
    let (ts, j, all) = further-through close P I Q end through behind more rest h in
    (t ∷ ts, (behind, i, j), (a, more, q, all, refl))

-- a level is there
module _ (n : ℕ) (some_level : 0 < n) where
  -- a tree over trees within one level less
  takes-row : (tokens : List Token) (t : Tree) (rest : List Token) → ATree (Takes (n - 1)) tokens t rest → Takes n tokens t rest
  takes-row tokens t rest h = go n some_level h
    where
      go : (k : ℕ) → 0 < k → ATree (Takes (k - 1)) tokens t rest → Takes k tokens t rest
      go zero l a = absurd (omega arith)
      go (suc k) l a = let e : suc k - 1 ≡ k = omega arith in subst (λ x. ATree (Takes x) tokens t rest) e a

-- a value of one token
simple-through : (S : Simple) (n : ℕ) → Through (r.Provided (0 < n) (r.ASimple S)) (Takes n) (m.SimpleTree S)
simple-through S n tokens v rest (l, (token, one, e, s, f)) no_paren =
    (tree.one token, takes-row n l tokens _ rest (subst (λ x. ATree (Takes (n - 1)) x (tree.one token) rest) (sym e) (row S token one s)), (token, one, refl, s, f))
  where
    row : (S : Simple) (token : Token) (one : Leaf) → Spells S token one → ATree (Takes (n - 1)) (token ∷ rest) (tree.one token) rest
    row type.bool token one (true, e, f) = subst (λ t. ATree (Takes (n - 1)) (t ∷ rest) (tree.one t) rest) (sym e) (refl, refl)
    row type.bool token one (false, e, f) = subst (λ t. ATree (Takes (n - 1)) (t ∷ rest) (tree.one t) rest) (sym e) (refl, refl)
    row (type.whole kind) token one (text, z, e, f, k, g) = subst (λ t. ATree (Takes (n - 1)) (t ∷ rest) (tree.one t) rest) (sym e) (refl, refl)
    row type.char token one (text, c, e, f, g) = subst (λ t. ATree (Takes (n - 1)) (t ∷ rest) (tree.one t) rest) (sym e) (refl, refl)
    row type.string token one (text, c, inl (e, f), g) = subst (λ t. ATree (Takes (n - 1)) (t ∷ rest) (tree.one t) rest) (sym e) (refl, refl)
    row type.string token one (text, c, inr (e, f), g) = subst (λ t. ATree (Takes (n - 1)) (t ∷ rest) (tree.one t) rest) (sym e) (refl, refl)

-- a list
pub list-through : (P : Spelling Value) (Q : Meaning Tree Value) (n : ℕ) → Through P (Takes (n - 1)) Q → Through (r.Provided (0 < n) (r.AList P)) (Takes n) (m.ListTree Q)
list-through P Q n through tokens v rest (l, (items, (inside, e, h), f)) no_paren =
    let (ts, i, q) = items-through bracket_close P (Takes (n - 1)) Q (λ x. cc) through inside items rest h in
    let t = tree.list (trees ts) in
    (t, takes-row n l tokens t rest (subst (λ x. ATree (Takes (n - 1)) x t rest) (sym e) (ts, i, refl)), (ts, items, refl, q, f))

-- as many trees as values
pub each-long : {T A : Type 0} (Q : Meaning T A) (ts : List T) (items : List A) → Each Q ts items → length ts ≡ length items
each-long Q [] items e = sym (ap length e)
each-long Q (t ∷ ts) items (a, more, q, each, e) = ap suc (each-long Q ts more each) ∙ sym (ap length e)

-- a fixed-length list
fixed-through : (count : ℕ) (P : Spelling Value) (Q : Meaning Tree Value) (n : ℕ) → Through P (Takes (n - 1)) Q → Through (r.Provided (0 < n) (r.AFixedList count P)) (Takes n) (m.FixedListTree count Q)
fixed-through count P Q n through tokens v rest (l, (items, (inside, e, h), long, f)) no_paren =
    let (ts, i, q) = items-through bracket_close P (Takes (n - 1)) Q (λ x. cc) through inside items rest h in
    let t = tree.list (trees ts) in
    (t, takes-row n l tokens t rest (subst (λ x. ATree (Takes (n - 1)) x t rest) (sym e) (ts, i, refl)), (ts, items, refl, each-long Q ts items q ∙ long, q, f))

-- as many trees as values, so some
each-some : {T A : Type 0} (Q : Meaning T A) (ts : List T) (items : List A) → Each Q ts items → 0 < length items → 0 < length ts
each-some Q [] items e l = let f : length items ≡ 0 = ap length e in omega arith
each-some Q (t ∷ ts) items h l = omega arith

-- what stands in parentheses
parens-through : (P : Spelling Value) (Q : Meaning Tree Value) (n : ℕ) → Through P (Takes n) Q → (tokens : List Token) (v : Value) (rest : List Token) → r.InParens P tokens v rest →
    (t : Tree) × r.InParens (Takes n) tokens t rest × Q t v
parens-through P Q n through tokens v rest (prefix, e, p) = let (t, i, q) = through prefix v (paren_close ∷ rest) p (λ more f. cc) in (t, (prefix, e, i), q)

-- no payload
bare-through : (n : ℕ) → Through r.Bare (MaybeInParens (Takes n)) m.BareTree
bare-through n tokens payload rest (e, f) no_paren = (no_tree, inl (e, no_paren, refl), (refl, f))

-- a payload
payload-through : (P : Spelling Value) (Q : Meaning Tree Value) (n : ℕ) → Through P (Takes n) Q → Through (r.Payload P) (MaybeInParens (Takes n)) (m.PayloadTree Q)
payload-through P Q n through tokens payload rest (w, p, e) no_paren =
    let (t, i, q) = parens-through P Q n through tokens w rest p in (a_tree t, inr (t, i, refl), (t, w, refl, q, e))

-- no spelling
never-through : {T A : Type 0} (I : Spelling T) (Q : Meaning T A) → Through r.Never I Q
never-through I Q tokens a rest h no_paren = absurd h

-- ---- tuples

-- the end of a tuple
no-more-through : (n : ℕ) (tokens : List Token) (items : List Value) (rest : List Token) → r.End tokens items rest → (ts : List Tree) × FurtherItems paren_close (Takes n) tokens ts rest × m.NoMore ts items
no-more-through n tokens items rest (h, e) = ([], h, (refl, e))

-- a tuple
tuple-through : (P : Spelling (List Value)) (Q : Meaning (List Tree) (List Value)) (n : ℕ) →
    ((tokens : List Token) (items : List Value) (rest : List Token) → P tokens items rest → (ts : List Tree) × Items paren_close (Takes (n - 1)) tokens ts rest × (0 < length ts) × Q ts items) →
    Through (r.Provided (0 < n) (r.ATuple P)) (Takes n) (m.TupleTree Q)
tuple-through P Q n through tokens v rest (l, (items, prefix, e, h, f)) no_paren =
    let (ts, i, some, q) = through prefix items rest h in
    let t = tree.tuple (trees ts) in
    (t, takes-row n l tokens t rest (subst (λ x. ATree (Takes (n - 1)) x t rest) (sym e) (ts, some, i, refl)), (ts, items, refl, some, q, f))

-- ---- labels

-- a test tells texts apart
pub differ : (a b : List ℕ) → a ≢ b → bytes_eq a b ≡ false
differ a b h = false_from_ne_true (bytes_eq a b) (λ e. h ((bytes_eq-Decides a b).0 e))

-- what is no keyword is the name of a case
pub not-keyword : (text : List ℕ) → IsNoneOf kw.keywords text → tree.word_of text ≡ tree.case_word
not-keyword text (is_true, (is_false, (is_some, (is_none, (is_ok, (is_err, (is_inf, (is_nan, t)))))))) =
    let e1 = differ text (codes "true") is_true in
    let e2 = differ text (codes "false") is_false in
    let e3 = differ text (codes "some") is_some in
    let e4 = differ text (codes "none") is_none in
    let e5 = differ text (codes "ok") is_ok in
    let e6 = differ text (codes "err") is_err in
    let e7 = differ text (codes "inf") is_inf in
    let e8 = differ text (codes "nan") is_nan in
    simp (e1, e2, e3, e4, e5, e6, e7, e8)

-- a case of a variant and its payload
variant-through : (P : List ℕ → Spelling MaybeValue) (Q : List ℕ → Meaning MaybeTree MaybeValue) (n : ℕ) →
    ((name : List ℕ) → Through (P name) (MaybeInParens (Takes (n - 1))) (Q name)) → Through (r.Provided (0 < n) (r.AVariant P)) (Takes n) (m.VariantTree Q)
variant-through P Q n through tokens v rest (l, (name, payload, behind, (text, e, f, k), p, g)) no_paren =
    let (inner, i, q) = through name behind payload rest p no_paren in
    let t = tree.label text inner in (
      t,
      takes-row n l tokens t rest (subst (λ x. ATree (Takes (n - 1)) x t rest) (sym e) (subst (λ w. tree.BehindWord w text (Takes (n - 1)) behind t rest) (sym (not-keyword text k)) (inner, i, refl))),
      (text, inner, payload, refl, subst (λ x. Q x inner payload) (sym f) q, g ∙ ap (λ x. value.variant x payload) (sym f)),
    )

-- a case of an enum
enum-through : (names : List (List ℕ)) (n : ℕ) → Through (r.Provided (0 < n) (r.AnEnum names)) (Takes n) (m.EnumTree names)
enum-through names n tokens v rest (l, (name, (text, e, f, k), one, g)) no_paren =
    let t = tree.label text no_tree in (
      t,
      takes-row n l tokens t rest (subst (λ x. ATree (Takes (n - 1)) x t rest) (sym e) (subst (λ w. tree.BehindWord w text (Takes (n - 1)) rest t rest) (sym (not-keyword text k)) (no_tree, inl (refl, no_paren, refl), refl))),
      (text, refl, subst (IsOneOf names) (sym f) one, g ∙ ap value.enum (sym f)),
    )

-- an option, or a value that stands for `some` of itself
option-through : (P P' : Spelling Value) (Q Q' : Meaning Tree Value) (n : ℕ) (wrap : Value → Value) → Through P (Takes (n - 1)) Q → Through P' (Takes n) Q' →
    Through (r.Either (r.Provided (0 < n) (r.AnOption P)) (r.Stands wrap P')) (Takes n) (m.Or (m.OptionTree Q) (m.StandsTree wrap Q'))
option-through P P' Q Q' n wrap through through' tokens v rest (inl (l, inl (e, f))) no_paren =
    (tree.none, takes-row n l tokens tree.none rest (subst (λ x. ATree (Takes (n - 1)) x tree.none rest) (sym e) (refl, refl)), inl (inl (refl, f)))
option-through P P' Q Q' n wrap through through' tokens v rest (inl (l, inr (w, (behind, e, p), f))) no_paren =
    let (inner, i, q) = parens-through P Q (n - 1) through behind w rest p in
    let t = tree.some inner in
    (t, takes-row n l tokens t rest (subst (λ x. ATree (Takes (n - 1)) x t rest) (sym e) (inner, i, refl)), inl (inr (inner, w, refl, q, f)))
option-through P P' Q Q' n wrap through through' tokens v rest (inr (w, p, f)) no_paren =
    let (t, i, q) = through' tokens w rest p no_paren in (t, i, inr (w, q, f))

-- a result, or a value that stands for `ok` of itself
result-through : (P P' : Spelling MaybeValue) (P'' : Spelling Value) (Q Q' : Meaning MaybeTree MaybeValue) (Q'' : Meaning Tree Value) (n : ℕ) (wrap : Value → Value) →
    Through P (MaybeInParens (Takes (n - 1))) Q → Through P' (MaybeInParens (Takes (n - 1))) Q' → Through P'' (Takes n) Q'' →
    Through (r.Either (r.Provided (0 < n) (r.AResult P P')) (r.Stands wrap P'')) (Takes n) (m.Or (m.ResultTree Q Q') (m.StandsTree wrap Q''))
result-through P P' P'' Q Q' Q'' n wrap one two three tokens v rest (inl (l, inl (payload, (behind, e, p), f))) no_paren =
    let (inner, i, q) = one behind payload rest p no_paren in
    let t = tree.ok inner in
    (t, takes-row n l tokens t rest (subst (λ x. ATree (Takes (n - 1)) x t rest) (sym e) (inner, i, refl)), inl (inl (inner, payload, refl, q, f)))
result-through P P' P'' Q Q' Q'' n wrap one two three tokens v rest (inl (l, inr (payload, (behind, e, p), f))) no_paren =
    let (inner, i, q) = two behind payload rest p no_paren in
    let t = tree.err inner in
    (t, takes-row n l tokens t rest (subst (λ x. ATree (Takes (n - 1)) x t rest) (sym e) (inner, i, refl)), inl (inr (inner, payload, refl, q, f)))
result-through P P' P'' Q Q' Q'' n wrap one two three tokens v rest (inr (w, p, f)) no_paren =
    let (t, i, q) = three tokens w rest p no_paren in (t, i, inr (w, q, f))

-- under a premise
if-through : {T A : Type 0} (H : Type 0) (P : Spelling A) (I : Spelling T) (Q : Meaning T A) → Through P I Q → Through (r.Provided H P) I (m.If H Q)
if-through H P I Q through tokens a rest (h, p) no_paren = let (t, i, q) = through tokens a rest p no_paren in (t, i, (h, q))

-- one or the other
or-through : {T A : Type 0} (P P' : Spelling A) (I : Spelling T) (Q Q' : Meaning T A) → Through P I Q → Through P' I Q' → Through (r.Either P P') I (m.Or Q Q')
or-through P P' I Q Q' one two tokens a rest (inl p) no_paren = let (t, i, q) = one tokens a rest p no_paren in (t, i, inl q)
or-through P P' I Q Q' one two tokens a rest (inr p) no_paren = let (t, i, q) = two tokens a rest p no_paren in (t, i, inr q)

-- ---- braces

-- a name and what it is for
named-through : {A : Type 0} (P : List ℕ → Spelling A) (I : Spelling Tree) (Q : List ℕ → Meaning Tree A) → ((name : List ℕ) → Through (P name) I (Q name)) → Through (r.Named P) (KeyAnd I) (m.NamedTree Q)
named-through P I Q through tokens e rest (text, prefix, f, g, p) no_paren =
    let (t, i, q) = through e.0 prefix e.1 rest p no_paren in ((label text, t), (prefix, f, tt, i), (text, refl, g, q))

-- a token of a simple value may be a key
key-through : (S : Simple) (token : Token) (one : Leaf) → Spells S token one → IsKey token
key-through type.bool token one (b, e, f) = subst IsKey (sym e) tt
key-through (type.whole kind) token one (text, z, e, f, k, g) = subst IsKey (sym e) tt
key-through type.char token one (text, c, e, f, g) = subst IsKey (sym e) tt
key-through type.string token one (text, c, inl (e, f), g) = subst IsKey (sym e) tt
key-through type.string token one (text, c, inr (e, f), g) = subst IsKey (sym e) tt

-- a key and its value
keyed-through : {A : Type 0} (K : Simple) (P : Spelling A) (I : Spelling Tree) (Q : Meaning Tree A) → Through P I Q → Through (r.Keyed K P) (KeyAnd I) (m.KeyedTree K Q)
keyed-through K P I Q through tokens e rest (token, prefix, f, k, p) no_paren =
    let (t, i, q) = through prefix e.1 rest p no_paren in ((token, t), (prefix, f, key-through K token e.0 k, i), (k, q))

-- a record
record-through : (fs : Fields) (P : List ℕ → Spelling Value) (Q : List ℕ → Meaning Tree Value) (n : ℕ) → ((name : List ℕ) → Through (P name) (Takes (n - 1)) (Q name)) →
    Through (r.Provided (0 < n) (r.ARecord fs P)) (Takes n) (m.RecordTree fs Q)
record-through fs P Q n through tokens v rest (l, (found, all, inl (e, f), d, fills, g)) no_paren = (
  tree.no_fields,
  takes-row n l tokens tree.no_fields rest (subst (λ x. ATree (Takes (n - 1)) x tree.no_fields rest) (sym e) (inr (inl (refl, refl)))),
  ([], found, all, inl (refl, refl), f, d, fills, g),
)
record-through fs P Q n through tokens v rest (l, (found, all, inr ((inside, e, h), some), d, fills, g)) no_paren =
    let (es, i, each) = items-through brace_close (r.Named P) (KeyAnd (Takes (n - 1))) (m.NamedTree Q) (λ x. cc) (named-through P (Takes (n - 1)) Q through) inside found rest h in
    let t = tree.entries (tree_entries es) in
    let es_some = each-some (m.NamedTree Q) es found each some in (
      t,
      takes-row n l tokens t rest (subst (λ x. ATree (Takes (n - 1)) x t rest) (sym e) (inr (inr (inl (es, es_some, i, refl))))),
      (es, found, all, inr (refl, es_some), each, d, fills, g),
    )

-- a map
map-through : (K : Simple) (P : Spelling Value) (Q : Meaning Tree Value) (n : ℕ) → Through P (Takes (n - 1)) Q → Through (r.Provided (0 < n) (r.AMap K P)) (Takes n) (m.MapTree K Q)
map-through K P Q n through tokens v rest (l, (pairs, inl (e, f), g)) no_paren = (
  tree.no_fields,
  takes-row n l tokens tree.no_fields rest (subst (λ x. ATree (Takes (n - 1)) x tree.no_fields rest) (sym e) (inr (inl (refl, refl)))),
  ([], pairs, inl (inr refl, refl), f, g),
)
map-through K P Q n through tokens v rest (l, ([], inr (inside, e, h), g)) no_paren = (
  tree.empty_braces,
  takes-row n l tokens tree.empty_braces rest (subst (λ x. ATree (Takes (n - 1)) x tree.empty_braces rest) (sym e) (inl (h, refl))),
  ([], [], inl (inl refl, refl), refl, g),
)
map-through K P Q n through tokens v rest (l, (pair ∷ more, inr (inside, e, h), g)) no_paren =
    let (es, i, each) = items-through brace_close (r.Keyed K P) (KeyAnd (Takes (n - 1))) (m.KeyedTree K Q) (λ x. cc) (keyed-through K P (Takes (n - 1)) Q through) inside (pair ∷ more) rest h in
    let t = tree.entries (tree_entries es) in
    let es_some : 0 < length es = each-some (m.KeyedTree K Q) es (pair ∷ more) each (omega arith) in (
      t,
      takes-row n l tokens t rest (subst (λ x. ATree (Takes (n - 1)) x t rest) (sym e) (inr (inr (inl (es, es_some, i, refl))))),
      (es, pair ∷ more, inr (refl, es_some), each, g),
    )

-- a label
name-through : Through r.Name tree.Label (λ text name. name_of text ≡ name)
name-through tokens name rest (text, e, f) no_paren = (text, e, f)

-- labels have their names
each-names : (texts found : List (List ℕ)) → Each (λ text name. name_of text ≡ name) texts found → map name_of texts ≡ found
each-names [] found e = sym e
each-names (text ∷ texts) found (name, more, e, each, f) = let g = each-names texts more each in cc

-- the order of the labels plays no part
put-step : (names : List (List ℕ)) (text other : List ℕ) (more put : List (List ℕ)) (b : Bool) → IsOneOf names (name_of text) → IsOneOf names (name_of other) → AreAllOf names (map name_of more) →
    AreAllOf names (map name_of put) → AreAllOf names (map name_of (cond b (text ∷ other ∷ more) (other ∷ put)))
put-step names text other more put true one first others all = (one, (first, others))
put-step names text other more put false one first others all = (first, all)

-- a label put among others that are all names
all-put : (names : List (List ℕ)) (text : List ℕ) (texts : List (List ℕ)) → IsOneOf names (name_of text) → AreAllOf names (map name_of texts) → AreAllOf names (map name_of (tree.put_in_order text texts))
all-put names text [] one all = (one, tt)
all-put names text (other ∷ more) one (first, others) =
    put-step names text other more (tree.put_in_order text more) (tree.is_before (name_of text) (name_of other)) one first others (all-put names text more one others)

-- labels in order are all names where they were so before
all-order : (names : List (List ℕ)) (texts : List (List ℕ)) → AreAllOf names (map name_of texts) → AreAllOf names (map name_of (in_order texts))
all-order names [] all = tt
all-order names (text ∷ more) (one, all) = all-put names text (in_order more) one (all-order names more all)

-- the order of two alternatives plays no part
or-swap : (a b c : Bool) → (a || (b || c)) ≡ (b || (a || c))
or-swap true true c = refl
or-swap true false c = refl
or-swap false true c = refl
or-swap false false c = refl

-- one label before or after another
any-step : (p : List ℕ → Bool) (text other : List ℕ) (more put : List (List ℕ)) (b : Bool) → list_any p (map name_of put) ≡ (p (name_of text) || list_any p (map name_of more)) →
    list_any p (map name_of (cond b (text ∷ other ∷ more) (other ∷ put))) ≡ (p (name_of text) || (p (name_of other) || list_any p (map name_of more)))
any-step p text other more put true e = refl
any-step p text other more put false e = ap (λ x. p (name_of other) || x) e ∙ or-swap (p (name_of other)) (p (name_of text)) (list_any p (map name_of more))

-- a test on a label put among others
any-put : (p : List ℕ → Bool) (text : List ℕ) (texts : List (List ℕ)) → list_any p (map name_of (tree.put_in_order text texts)) ≡ (p (name_of text) || list_any p (map name_of texts))
any-put p text [] = refl
any-put p text (other ∷ more) = any-step p text other more (tree.put_in_order text more) (tree.is_before (name_of text) (name_of other)) (any-put p text more)

-- a test on labels in order
any-order : (p : List ℕ → Bool) (texts : List (List ℕ)) → list_any p (map name_of (in_order texts)) ≡ list_any p (map name_of texts)
any-order p [] = refl
any-order p (text ∷ more) = any-put p text (in_order more) ∙ ap (λ x. p (name_of text) || x) (any-order p more)

-- the flags found are those found in order
pub found-order : (texts names : List (List ℕ)) → nm.found_in (map name_of (in_order texts)) names ≡ nm.found_in (map name_of texts) names
found-order texts names = λ i. filter (λ name. any-order (bytes_eq name) texts i) names

-- flags
flags-through : (names : List (List ℕ)) (n : ℕ) → Through (r.Provided (0 < n) (r.Flags names)) (Takes n) (m.FlagsTree names)
flags-through names n tokens v rest (l, ([], (inside, e, h), d, k, g)) no_paren = (
  tree.empty_braces,
  takes-row n l tokens tree.empty_braces rest (subst (λ x. ATree (Takes (n - 1)) x tree.empty_braces rest) (sym e) (inl (h, refl))),
  ([], inl (refl, refl), tt, g),
)
flags-through names n tokens v rest (l, (name ∷ more, (inside, e, h), d, k, g)) no_paren =
    let (texts, i, each) = items-through brace_close r.Name tree.Label (λ text name. name_of text ≡ name) (λ x. cc) name-through inside (name ∷ more) rest h in
    let t = tree.flags (in_order texts) in
    let same = each-names texts (name ∷ more) each in
    let texts_some : 0 < length texts = each-some (λ text name. name_of text ≡ name) texts (name ∷ more) each (omega arith) in (
      t,
      takes-row n l tokens t rest (subst (λ x. ATree (Takes (n - 1)) x t rest) (sym e) (inr (inr (inr (texts, texts_some, i, subst AreDistinct (sym same) d, refl))))),
      (
        in_order texts,
        inr refl,
        all-order names texts (subst (AreAllOf names) (sym same) k),
        g ∙ ap (λ x. value.flags (nm.found_in x names)) (sym same) ∙ ap value.flags (sym (found-order texts names)),
      ),
    )

-- ---- any type

mutual
  -- what a type reads is a tree to which it gives the value
  pub through : (T : TypeTree) (n : ℕ) → Through (Reads T n) (Takes n) (TreeReads T)
  through (type.simple S) n = simple-through S n
  through (type.unreadable kind) n = never-through _ _
  through (type.list E) n = list-through _ _ n (through E (n - 1))
  through (type.fixed E count) n = fixed-through count _ _ n (through E (n - 1))
  through (type.record_type fs) n = record-through fs _ _ n (λ name. through-field fs (n - 1) name)
  through (type.tuple types) n = tuple-through _ _ n (through-tuple types (n - 1))
  through (type.variant cases) n = variant-through _ _ n (λ name. through-case cases (n - 1) name)
  through (type.enum names) n = enum-through names n
  through (type.option P) n = option-through _ _ _ _ n _ (through P (n - 1)) (if-through _ _ _ _ (through P n))
  through (type.result A B) n = result-through _ _ _ _ _ _ n _ (through-payload A (n - 1)) (through-payload B (n - 1)) (through-flat A n)
  through (type.flags names) n = flags-through names n
  through (type.map K V) n = map-through K _ _ n (through V (n - 1))

  -- of a payload
  pub through-payload : (A : MaybeType) (n : ℕ) → Through (ReadsPayload A n) (MaybeInParens (Takes n)) (TreeReadsPayload A)
  through-payload no_type n = bare-through n
  through-payload (a_type T) n = payload-through _ _ n (through T n)

  -- of a value that stands for `ok` of itself
  pub through-flat : (A : MaybeType) (n : ℕ) → Through (ReadsFlat A n) (Takes n) (TreeReadsFlat A)
  through-flat no_type n = never-through _ _
  through-flat (a_type T) n = if-through _ _ _ _ (through T n)

  -- of the values of a tuple
  pub through-tuple : (types : Types) (n : ℕ) (tokens : List Token) (items : List Value) (rest : List Token) → ReadsTuple types n tokens items rest →
      (ts : List Tree) × Items paren_close (Takes n) tokens ts rest × (0 < length ts) × TreeReadsAll types ts items
  through-tuple no_types n tokens items rest h = absurd h
  through-tuple (type_and T more) n tokens items rest (w, others, behind, p, h, e) =
      let (ts, j, all) = through-further more n behind others rest h in
      let (t, i, q) = through T n tokens w behind p (further-no_paren paren_close (Takes n) (λ x. cc) behind ts rest j) in
      (t ∷ ts, (behind, i, j), omega arith, (t, ts, w, others, refl, q, all, e))

  -- of the further values of a tuple
  pub through-further : (types : Types) (n : ℕ) (tokens : List Token) (items : List Value) (rest : List Token) → ReadsFurther types n tokens items rest →
      (ts : List Tree) × FurtherItems paren_close (Takes n) tokens ts rest × TreeReadsAll types ts items
  through-further no_types n tokens items rest h = no-more-through n tokens items rest h
  through-further (type_and T more) n tokens items rest (prefix, f, (w, others, behind, p, h, e)) =
      let (ts, j, all) = through-further more n behind others rest h in
      let (t, i, q) = through T n prefix w behind p (further-no_paren paren_close (Takes n) (λ x. cc) behind ts rest j) in
      (t ∷ ts, (prefix, behind, f, i, j), (t, ts, w, others, refl, q, all, e))

  -- of a field
  pub through-field : (fs : Fields) (n : ℕ) (name : List ℕ) → Through (ReadsField fs n name) (Takes n) (TreeReadsField fs name)
  through-field no_fields n name = never-through _ _
  through-field (field other T more) n name = or-through _ _ _ _ _ (if-through _ _ _ _ (through T n)) (through-field more n name)

  -- of the payload of a case
  pub through-case : (cs : Cases) (n : ℕ) (name : List ℕ) → Through (ReadsCase cs n name) (MaybeInParens (Takes n)) (TreeReadsCase cs name)
  through-case no_cases n name = never-through _ _
  through-case (case_of other T more) n name = or-through _ _ _ _ _ (if-through _ _ _ _ (through-payload T n)) (through-case more n name)
