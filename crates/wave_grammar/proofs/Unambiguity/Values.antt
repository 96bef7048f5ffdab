-- No prefix of tokens spells two values of a type, nor ends at two places.
use Rattle.std.proofs.Common.{ℕ, ◌-◌, ◌<◌, ◌≡◌, ◌≢◌, ◌⊎◌, inl, inr, Bool, true, false, List, [], ◌∷◌, length, Option, Some, None, refl, sym, ap, ◌∙◌, subst}
use Rattle.std.specs.Prelude.{codes, bytes_eq}
use Rattle.std.proofs.lemmas.Slice.Eq.{bytes_eq-Decides}
use Rattle.std.proofs.lemmas.Bool.Decides.{not_from_Decides}
use Rattle.wave_grammar.specs.Token.{Token, brace_open, brace_close, paren_open, paren_close, bracket_open, bracket_close, colon, comma, number, label, char, string, multiline}
use Rattle.wave_wasm.specs.Types as type
use Rattle.wave_wasm.specs.Types.{HasDistinctNames, TypeTree, MaybeType, Types, Fields, Cases, Simple, no_type, a_type, no_types, type_and, no_fields, field, no_cases, case_of, field_names, case_names, EachNames, EachNamesOfMaybe, EachNamesOfTypes, EachNamesOfFields, EachNamesOfCases}
use Rattle.wave_wasm.specs.Names.{IsNoneOf, AreDistinct, IsOneOf, found_in}
use Rattle.wave_wasm.specs.Values as value
use Rattle.wave_wasm.specs.Values.{Value, MaybeValue, FieldValues, Leaf, no_value, a_value, values, entries}
use Rattle.wave_grammar.specs.CommaSeparated.{Spelling, FurtherItems, Items, Listed}
use Rattle.wave_wasm.specs.Text.{bool_text}
use Rattle.wave_lex.specs.Strings.{CharMeans, StringMeans}
use Rattle.wave_lex.specs.Multiline.{MultilineMeans}
use Rattle.wave_lex.proofs.StringDecoding.OneMeaning.{char_once, string_once, multiline_once}
use Rattle.wave_grammar.specs.LeafTokens.{name_of, Spells}
use Rattle.wave_grammar.specs.TypedGrammar.{InParens, Named, Keyed, Name, CaseName, EmptyBraces, look_up, IsFlat, FieldIs, Fills, ASimple, AList, AFixedList, ATuple, ARecord, Flags, AMap, AVariant, AnEnum, AnOption, AResult, Stands, Bare, Payload, First, Then, End, Provided, Either, Never, Reads, ReadsPayload, ReadsFlat, ReadsTuple, ReadsFurther, ReadsField, ReadsCase}
use Rattle.wave_wasm.specs.Merge.{merge, leaf_eq}

-- texts that a test tells apart
pub apart : (a b : List ℕ) → bytes_eq a b ≡ false → a ≢ b
apart a b t e = not_from_Decides (bytes_eq a b) (bytes_eq-Decides a b) t e

-- two spellings agree: what one reads the other reads, and as far
abbrev pub Agree : {A : Type 0} → Spelling A → Spelling A → Type 0
Agree {A} P Q = (tokens : List Token) (a b : A) (r s : List Token) → P tokens a r → Q tokens b s → (a ≡ b) × (r ≡ s)

-- no reading begins with this token
abbrev pub NeverBegins : {A : Type 0} → Token → Spelling A → Type 0
NeverBegins {A} close P = (behind rest : List Token) (a : A) → P (close ∷ behind) a rest → ⊥

-- further items
further-agree : {A : Type 0} (close : Token) (P Q : Spelling A) → close ≢ comma → NeverBegins close P → NeverBegins close Q → Agree P Q →
    Agree (FurtherItems close P) (FurtherItems close Q)
further-agree close P Q apart np nq agree tokens [] [] r s (inl h) (inl k) = (refl, cc)
further-agree close P Q apart np nq agree tokens [] [] r s (inl h) (inr k) = absurd (apart cc)
further-agree close P Q apart np nq agree tokens [] [] r s (inr h) (inl k) = absurd (apart cc)
further-agree close P Q apart np nq agree tokens [] [] r s (inr h) (inr k) = (refl, cc)
further-agree close P Q apart np nq agree tokens [] (b ∷ more) r s (inl h) (prefix, behind, e, q, rest) = absurd (apart cc)
further-agree close P Q apart np nq agree tokens [] (b ∷ more) r s (inr h) (prefix, behind, e, q, rest) =
    let f : prefix ≡ close ∷ r = cc in absurd (nq r behind b (subst (λ x. Q x b behind) f q))
further-agree close P Q apart np nq agree tokens (a ∷ more) [] r s (prefix, behind, e, p, rest) (inl h) = absurd (apart cc)
further-agree close P Q apart np nq agree tokens (a ∷ more) [] r s (prefix, behind, e, p, rest) (inr h) =
    let f : prefix ≡ close ∷ s = cc in absurd (np s behind a (subst (λ x. P x a behind) f p))
further-agree close P Q apart np nq agree tokens (a ∷ more) (b ∷ others) r s (prefix, behind, e, p, rest) (prefix', behind', e', q, rest') =
    let f : prefix' ≡ prefix = cc in
    let one = agree prefix a b behind behind' p (subst (λ x. Q x b behind') f q) in
    let all = further-agree close P Q apart np nq agree behind more others r s rest (subst (λ x. FurtherItems close Q x others s) (sym one.1) rest') in
    (cc, all.1)

-- items and their close
pub items-agree : {A : Type 0} (close : Token) (P Q : Spelling A) → close ≢ comma → NeverBegins close P → NeverBegins close Q → Agree P Q → Agree (Items close P) (Items close Q)
items-agree close P Q apart np nq agree tokens [] [] r s h k = (refl, cc)
items-agree close P Q apart np nq agree tokens [] (b ∷ more) r s h (behind, q, rest) =
    absurd (nq r behind b (subst (λ x. Q x b behind) h q))
items-agree close P Q apart np nq agree tokens (a ∷ more) [] r s (behind, p, rest) k =
    absurd (np s behind a (subst (λ x. P x a behind) k p))
items-agree close P Q apart np nq agree tokens (a ∷ more) (b ∷ others) r s (behind, p, rest) (behind', q, rest') =
    let one = agree tokens a b behind behind' p q in
    let all = further-agree close P Q apart np nq agree behind more others r s rest (subst (λ x. FurtherItems close Q x others s) (sym one.1) rest') in
    (cc, all.1)

-- items between two marks
listed-agree : {A : Type 0} (open_mark close : Token) (P Q : Spelling A) → close ≢ comma → NeverBegins close P → NeverBegins close Q → Agree P Q →
    Agree (Listed open_mark close P) (Listed open_mark close Q)
listed-agree open_mark close P Q apart np nq agree tokens xs ys r s (inside, e, h) (inside', e', k) =
    let f : inside' ≡ inside = cc in
    items-agree close P Q apart np nq agree inside xs ys r s h (subst (λ x. Items close Q x ys s) f k)

-- a row under a premise, whichever it is
pub provided-agree : {A : Type 0} (H K : Type 0) (P Q : Spelling A) → Agree P Q → Agree (Provided H P) (Provided K Q)
provided-agree H K P Q agree tokens a b r s (h, p) (k, q) = agree tokens a b r s p q

-- no spelling
pub never-agree : {A : Type 0} → Agree {A = A} Never Never
never-agree tokens a b r s p q = absurd p

-- what stands in parentheses
pub parens-agree : {A : Type 0} (P Q : Spelling A) → Agree P Q → Agree (InParens P) (InParens Q)
parens-agree P Q agree tokens a b r s (prefix, e, p) (prefix', e', q) =
    let f : prefix' ≡ prefix = cc in
    let one = agree prefix a b (paren_close ∷ r) (paren_close ∷ s) p (subst (λ x. Q x b (paren_close ∷ s)) f q) in
    (one.0, cc)

-- no payload
pub bare-agree : Agree Bare Bare
bare-agree tokens a b r s (e, f) (g, h) = (cc, cc)

-- a payload
pub payload-agree : (P Q : Spelling Value) → Agree P Q → Agree (Payload P) (Payload Q)
payload-agree P Q agree tokens a b r s (w, p, e) (w', q, f) =
    let one = parens-agree P Q agree tokens w w' r s p q in (cc, one.1)

-- a list
pub list-agree : (P Q : Spelling Value) → NeverBegins bracket_close P → NeverBegins bracket_close Q → Agree P Q → Agree (AList P) (AList Q)
list-agree P Q np nq agree tokens a b r s (items, h, e) (items', k, f) =
    let one = listed-agree bracket_open bracket_close P Q (λ x. cc) np nq agree tokens items items' r s h k in
    (e ∙ ap (λ x. value.list (values x)) one.0 ∙ sym f, one.1)

-- a fixed-length list
pub fixed-agree : (count : ℕ) (P Q : Spelling Value) → NeverBegins bracket_close P → NeverBegins bracket_close Q → Agree P Q → Agree (AFixedList count P) (AFixedList count Q)
fixed-agree count P Q np nq agree tokens a b r s (items, h, long, e) (items', k, long', f) =
    let one = listed-agree bracket_open bracket_close P Q (λ x. cc) np nq agree tokens items items' r s h k in
    (e ∙ ap (λ x. value.fixed (values x)) one.0 ∙ sym f, one.1)

-- the end of a tuple
pub end-agree : Agree End End
end-agree tokens a b r s (inl e, f) (inl g, h) = (cc, cc)
end-agree tokens a b r s (inl e, f) (inr g, h) = let no : paren_close ≡ comma = cc in cc
end-agree tokens a b r s (inr e, f) (inl g, h) = let no : paren_close ≡ comma = cc in cc
end-agree tokens a b r s (inr e, f) (inr g, h) = (cc, cc)

-- the first value of a tuple and those after it
pub first-agree : (P Q : Spelling Value) (F G : Spelling (List Value)) → Agree P Q → Agree F G → Agree (First P F) (First Q G)
first-agree P Q F G agree further tokens a b r s (w, others, behind, p, f, e) (w', others', behind', q, g, e') =
    let one = agree tokens w w' behind behind' p q in
    let all = further behind others others' r s f (subst (λ x. G x others' s) (sym one.1) g) in
    (cc, all.1)

-- a further value of a tuple and those after it
pub then-agree : (P Q : Spelling Value) (F G : Spelling (List Value)) → Agree P Q → Agree F G → Agree (Then P F) (Then Q G)
then-agree P Q F G agree further tokens a b r s (prefix, e, h) (prefix', e', k) =
    let f : prefix' ≡ prefix = cc in
    first-agree P Q F G agree further prefix a b r s h (subst (λ x. First Q G x b s) f k)

-- a tuple
pub tuple-agree : (F G : Spelling (List Value)) → Agree F G → Agree (ATuple F) (ATuple G)
tuple-agree F G agree tokens a b r s (items, prefix, e, h, i) (items', prefix', e', k, i') =
    let f : prefix' ≡ prefix = cc in
    let one = agree prefix items items' r s h (subst (λ x. G x items' s) f k) in
    (i ∙ ap (λ x. value.tuple (values x)) one.0 ∙ sym i', one.1)

-- two pairs are one where their parts are
pub pair-path : {A B : Type 0} {a b : A × B} → a.0 ≡ b.0 → a.1 ≡ b.1 → a ≡ b
pair-path e f = λ i. (e i, f i)

-- a name and what it is for
named-agree : {A : Type 0} (P Q : List ℕ → Spelling A) → ((name : List ℕ) → Agree (P name) (Q name)) → Agree (Named P) (Named Q)
named-agree P Q agree tokens a b r s (text, prefix, e, n, p) (text', prefix', e', n', q) =
    let f : prefix' ≡ prefix = cc in
    let t : text' ≡ text = cc in
    let name : b.0 ≡ a.0 = sym n' ∙ ap name_of t ∙ n in
    let one = agree a.0 prefix a.1 b.1 r s p (subst (λ x. Q a.0 x b.1 s) f (subst (λ x. Q x prefix' b.1 s) name q)) in
    (pair-path (sym name) one.0, one.1)

-- ---- one token

-- a text is that of one bool
bool_text-injective : (a b : Bool) → bool_text a ≡ bool_text b → a ≡ b
bool_text-injective true true e = refl
bool_text-injective true false e = absurd (apart _ _ refl e)
bool_text-injective false true e = absurd (apart _ _ refl e)
bool_text-injective false false e = refl

-- a string token is no multiline token
string_apart : (a b : List ℕ) → string a ≢ multiline b
string_apart a b e = cc

-- a token spells one value of a simple type
spells-agree : (S : Simple) (token : Token) (a b : Leaf) → Spells S token a → Spells S token b → a ≡ b
spells-agree type.bool token a b (x, e, f) (y, g, h) =
    let t : bool_text x ≡ bool_text y = cc in let same = bool_text-injective x y t in cc
spells-agree (type.whole kind) token a b (text, z, e, f, k, g) (text', z', e', f', k', g') =
    let t : text' ≡ text = cc in let same : Some z ≡ Some z' = cc in cc
spells-agree type.char token a b (text, z, e, f, g) (text', z', e', f', g') =
    let t : text' ≡ text = cc in
    let c : z ≡ z' = char_once text z z' f (subst (λ x. CharMeans x z') t f') in g ∙ (ap value.char c ∙ sym g')
spells-agree type.string token a b (text, z, inl (e, f), g) (text', z', inl (e', f'), g') =
    let t : text' ≡ text = cc in
    let c : z ≡ z' = string_once text z z' f (subst (λ x. StringMeans x z') t f') in g ∙ (ap value.string c ∙ sym g')
spells-agree type.string token a b (text, z, inl (e, f), g) (text', z', inr (e', f'), g') = absurd (string_apart text text' (sym e ∙ e'))
spells-agree type.string token a b (text, z, inr (e, f), g) (text', z', inl (e', f'), g') = absurd (string_apart text' text (sym e' ∙ e))
spells-agree type.string token a b (text, z, inr (e, f), g) (text', z', inr (e', f'), g') =
    let t : text' ≡ text = cc in
    let c : z ≡ z' = multiline_once text z z' f (subst (λ x. MultilineMeans x z') t f') in g ∙ (ap value.string c ∙ sym g')

-- a value of one token
pub simple-agree : (S : Simple) → Agree (ASimple S) (ASimple S)
simple-agree S tokens a b r s (token, x, e, h, f) (token', y, e', k, f') =
    let t : token' ≡ token = cc in
    let same = spells-agree S token x y h (subst (λ t. Spells S t y) t k) in
    (cc, cc)

-- a key and its value
keyed-agree : {A : Type 0} (K : Simple) (P Q : Spelling A) → Agree P Q → Agree (Keyed K P) (Keyed K Q)
keyed-agree K P Q agree tokens a b r s (token, prefix, e, k, p) (token', prefix', e', k', q) =
    let t : token' ≡ token = cc in
    let f : prefix' ≡ prefix = cc in
    let key = spells-agree K token a.0 b.0 k (subst (λ t. Spells K t b.0) t k') in
    let one = agree prefix a.1 b.1 r s p (subst (λ x. Q x b.1 s) f q) in
    (pair-path key one.0, one.1)

-- a label
name-agree : Agree Name Name
name-agree tokens a b r s (text, e, n) (text', e', n') = let t : text' ≡ text = cc in (cc, cc)

-- a name of a case
case_name-agree : Agree CaseName CaseName
case_name-agree tokens a b r s (text, e, n, k) (text', e', n', k') = let t : text' ≡ text = cc in (cc, cc)

-- a case of an enum
pub enum-agree : (names : List (List ℕ)) → Agree (AnEnum names) (AnEnum names)
enum-agree names tokens a b r s (name, h, k, e) (name', h', k', e') = let one = case_name-agree tokens name name' r s h h' in (cc, one.1)

-- a case of a variant and its payload
pub variant-agree : (P Q : List ℕ → Spelling MaybeValue) → ((name : List ℕ) → Agree (P name) (Q name)) → Agree (AVariant P) (AVariant Q)
variant-agree P Q agree tokens a b r s (name, payload, behind, n, p, e) (name', payload', behind', n', q, e') =
    let one = case_name-agree tokens name name' behind behind' n n' in
    let all = agree name behind payload payload' r s p (subst (λ x. Q name x payload' s) (sym one.1) (subst (λ x. Q x behind' payload' s) (sym one.0) q)) in
    (cc, all.1)

-- ---- which token may come first

-- a token that may begin a value
abbrev pub IsStart : Token → Type 0
IsStart brace_close = ⊥
IsStart paren_close = ⊥
IsStart bracket_close = ⊥
IsStart colon = ⊥
IsStart comma = ⊥
IsStart _ = Unit {0}

-- the words of options and results
abbrev pub around : List (List ℕ)
around = codes "none" ∷ codes "some" ∷ codes "ok" ∷ codes "err" ∷ []

-- a token that may begin a value other than an option and a result
abbrev pub IsFlatStart : Token → Type 0
IsFlatStart (label text) = IsNoneOf around text
IsFlatStart token = IsStart token

-- the first token is such a one
abbrev pub Begins : (Token → Type 0) → List Token → Type 0
Begins HasDistinctLabels [] = ⊥
Begins HasDistinctLabels (token ∷ more) = HasDistinctLabels token

-- the text of a bool is no word of an option or a result
bool-start : (b : Bool) → IsNoneOf around (bool_text b)
bool-start true = (apart _ _ refl, (apart _ _ refl, (apart _ _ refl, (apart _ _ refl, tt))))
bool-start false = (apart _ _ refl, (apart _ _ refl, (apart _ _ refl, (apart _ _ refl, tt))))

-- a value of one token begins with a token of a flat value
pub spells-start : (S : Simple) (token : Token) (a : Leaf) → Spells S token a → IsFlatStart token
spells-start type.bool token a (b, e, f) = subst IsFlatStart (sym e) (bool-start b)
spells-start (type.whole kind) token a (text, z, e, f, k, g) = subst IsFlatStart (sym e) tt
spells-start type.char token a (text, c, e, f, g) = subst IsFlatStart (sym e) tt
spells-start type.string token a (text, c, inl (e, f), g) = subst IsFlatStart (sym e) tt
spells-start type.string token a (text, c, inr (e, f), g) = subst IsFlatStart (sym e) tt

-- so does a name of a case
pub case_name-start : (tokens : List Token) (name : List ℕ) (rest : List Token) → CaseName tokens name rest → Begins IsFlatStart tokens
case_name-start tokens name rest (text, e, n, (t, (f, (so, (non, (okk, (er, k))))))) = subst (Begins IsFlatStart) (sym e) (non, (so, (okk, (er, tt))))

-- so does each value of a flat type
flat-start : (T : TypeTree) (n : ℕ) → IsFlat T → (tokens : List Token) (v : Value) (rest : List Token) → Reads T n tokens v rest → Begins IsFlatStart tokens
flat-start (type.simple S) n flat tokens v rest (le, (token, x, e, k, f)) = subst (Begins IsFlatStart) (sym e) (spells-start S token x k)
flat-start (type.unreadable kind) n flat tokens v rest h = absurd h
flat-start (type.list E) n flat tokens v rest (le, (items, (inside, e, h), f)) = subst (Begins IsFlatStart) (sym e) tt
flat-start (type.fixed E count) n flat tokens v rest (le, (items, (inside, e, h), long, f)) = subst (Begins IsFlatStart) (sym e) tt
flat-start (type.record_type fs) n flat tokens v rest (le, (found, all, inl (e, f), d, k, g)) = subst (Begins IsFlatStart) (sym e) tt
flat-start (type.record_type fs) n flat tokens v rest (le, (found, all, inr ((inside, e, h), l), d, k, g)) = subst (Begins IsFlatStart) (sym e) tt
flat-start (type.tuple types) n flat tokens v rest (le, (items, prefix, e, h, f)) = subst (Begins IsFlatStart) (sym e) tt
flat-start (type.variant cases) n flat tokens v rest (le, (name, payload, behind, h, k, e)) = case_name-start tokens name behind h
flat-start (type.enum names) n flat tokens v rest (le, (name, h, k, e)) = case_name-start tokens name rest h
flat-start (type.option P) n flat tokens v rest h = absurd flat
flat-start (type.result A B) n flat tokens v rest h = absurd flat
flat-start (type.flags names) n flat tokens v rest (le, (found, (inside, e, h), f, g, k)) = subst (Begins IsFlatStart) (sym e) tt
flat-start (type.map K V) n flat tokens v rest (le, (pairs, inl (e, f), d)) = subst (Begins IsFlatStart) (sym e) tt
flat-start (type.map K V) n flat tokens v rest (le, (pairs, inr (inside, e, h), d)) = subst (Begins IsFlatStart) (sym e) tt

-- ---- braces

-- what has a name begins with no close
named-begins : {A : Type 0} (P : List ℕ → Spelling A) → NeverBegins brace_close (Named P)
named-begins P behind rest a (text, prefix, e, n, p) = cc

-- so does a label
name-begins : NeverBegins brace_close Name
name-begins behind rest a (text, e, n) = cc

-- so does what has a key
keyed-begins : {A : Type 0} (K : Simple) (P : Spelling A) → NeverBegins brace_close (Keyed K P)
keyed-begins K P behind rest a (token, prefix, e, k, p) =
    let t : token ≡ brace_close = cc in subst IsFlatStart t (spells-start K token a.0 k)

-- what braces hold is not a lone colon
not_colon : {A : Type 0} (P : Spelling A) → NeverBegins colon P → (tokens : List Token) (items : List A) (as' : List A) (r s : List Token) →
    EmptyBraces tokens as' r → Listed brace_open brace_close P tokens items s → ⊥
not_colon P never tokens [] as' r s (e, f) (inside, g, h) = let x : colon ≡ brace_close = cc in cc
not_colon P never tokens (a ∷ more) as' r s (e, f) (inside, g, (behind, p, h)) =
    let x : inside ≡ colon ∷ brace_close ∷ r = cc in never (brace_close ∷ r) behind a (subst (λ x. P x a behind) x p)

-- nothing, or items in braces
braces-agree : {A : Type 0} (P Q : Spelling A) → NeverBegins colon P → NeverBegins colon Q → NeverBegins brace_close P → NeverBegins brace_close Q → Agree P Q →
    Agree (Either EmptyBraces (Listed brace_open brace_close P)) (Either EmptyBraces (Listed brace_open brace_close Q))
braces-agree P Q cp cq np nq agree tokens a b r s (inl (e, f)) (inl (g, h)) = (cc, cc)
braces-agree P Q cp cq np nq agree tokens a b r s (inl e) (inr k) = absurd (not_colon Q cq tokens b a r s e k)
braces-agree P Q cp cq np nq agree tokens a b r s (inr h) (inl k) = absurd (not_colon P cp tokens a b s r k h)
braces-agree P Q cp cq np nq agree tokens a b r s (inr h) (inr k) = listed-agree brace_open brace_close P Q (λ x. cc) np nq agree tokens a b r s h k

-- a field has one value
field_is-agree : (T : TypeTree) (o : Option Value) (a b : Value) → FieldIs T o a → FieldIs T o b → a ≡ b
field_is-agree T (Some w) a b h k = cc
field_is-agree T None a b (h, e) (k, f) = cc

-- entries fill fields in one way
fills-agree : (fields : Fields) (found : List (List ℕ × Value)) (a b : FieldValues) → Fills fields found a → Fills fields found b → a ≡ b
fills-agree no_fields found a b h k = cc
fills-agree (field name T more) found a b (v, others, f, h, e) (v', others', f', h', e') =
    let one = field_is-agree T (look_up found name) v v' f f' in
    let all = fills-agree more found others others' h h' in
    cc

-- what has a name begins with no colon
named-colon : {A : Type 0} (P : List ℕ → Spelling A) → NeverBegins colon (Named P)
named-colon P behind rest a (text, prefix, e, n, p) = cc

-- a record
pub record-agree : (fields : Fields) (P Q : List ℕ → Spelling Value) → ((name : List ℕ) → Agree (P name) (Q name)) → Agree (ARecord fields P) (ARecord fields Q)
record-agree fields P Q agree tokens a b r s (found, all, h, d, f, e) (found', all', h', d', f', e') =
    let one = braces-agree (Named P) (Named Q) (named-colon P) (named-colon Q) (named-begins P) (named-begins Q) (named-agree P Q agree) tokens found found' r s (listed h) (listed' h') in
    let same = fills-agree fields found all all' f (subst (λ x. Fills fields x all') (sym one.0) f') in
    (cc, one.1)
  where
    listed : EmptyBraces tokens found r ⊎ Listed brace_open brace_close (Named P) tokens found r × (0 < length found) → Either EmptyBraces (Listed brace_open brace_close (Named P)) tokens found r
    listed (inl x) = inl x
    listed (inr (x, y)) = inr x

    listed' : EmptyBraces tokens found' s ⊎ Listed brace_open brace_close (Named Q) tokens found' s × (0 < length found') → Either EmptyBraces (Listed brace_open brace_close (Named Q)) tokens found' s
    listed' (inl x) = inl x
    listed' (inr (x, y)) = inr x

-- flags
pub flags-agree : (names : List (List ℕ)) → Agree (Flags names) (Flags names)
flags-agree names tokens a b r s (found, h, d, k, e) (found', h', d', k', e') =
    let one = listed-agree brace_open brace_close Name Name (λ x. cc) name-begins name-begins name-agree tokens found found' r s h h' in
    (e ∙ ap (λ x. value.flags (found_in x names)) one.0 ∙ sym e', one.1)

-- what has a key begins with no colon
keyed-colon : {A : Type 0} (K : Simple) (P : Spelling A) → NeverBegins colon (Keyed K P)
keyed-colon K P behind rest a (token, prefix, e, k, p) =
    let t : token ≡ colon = cc in subst IsFlatStart t (spells-start K token a.0 k)

-- a map
pub map-agree : (K : Simple) (P Q : Spelling Value) → Agree P Q → Agree (AMap K P) (AMap K Q)
map-agree K P Q agree tokens a b r s (pairs, h, e) (pairs', h', e') =
    let one = braces-agree (Keyed K P) (Keyed K Q) (keyed-colon K P) (keyed-colon K Q) (keyed-begins K P) (keyed-begins K Q) (keyed-agree K P Q agree) tokens pairs pairs' r s h h' in
    (e ∙ ap (λ x. value.map (entries (merge leaf_eq x))) one.0 ∙ sym e', one.1)

-- ---- any type

-- a token of a flat value may begin a value
pub flat_is-start : (tokens : List Token) → Begins IsFlatStart tokens → Begins IsStart tokens
flat_is-start [] h = h
flat_is-start (label text ∷ more) h = tt
flat_is-start (brace_open ∷ more) h = tt
flat_is-start (paren_open ∷ more) h = tt
flat_is-start (bracket_open ∷ more) h = tt
flat_is-start (number text ∷ more) h = tt
flat_is-start (char text ∷ more) h = tt
flat_is-start (string text ∷ more) h = tt
flat_is-start (multiline text ∷ more) h = tt
flat_is-start (token ∷ more) h = absurd h

-- a flat value begins with a token that may begin a value
flat-start-any : (T : TypeTree) (n : ℕ) → IsFlat T → (tokens : List Token) (v : Value) (rest : List Token) → Reads T n tokens v rest → Begins IsStart tokens
flat-start-any T n flat tokens v rest h = flat_is-start tokens (flat-start T n flat tokens v rest h)

-- so does each value
start : (T : TypeTree) (n : ℕ) (tokens : List Token) (v : Value) (rest : List Token) → Reads T n tokens v rest → Begins IsStart tokens
start (type.option P) n tokens v rest (inl (le, inl (e, f))) = subst (Begins IsStart) (sym e) tt
start (type.option P) n tokens v rest (inl (le, inr (w, (behind, e, h), f))) = subst (Begins IsStart) (sym e) tt
start (type.option P) n tokens v rest (inr (w, (flat, h), f)) = flat-start-any P n flat tokens w rest h
start (type.result A B) n tokens v rest (inl (le, inl (w, (behind, e, h), f))) = subst (Begins IsStart) (sym e) tt
start (type.result A B) n tokens v rest (inl (le, inr (w, (behind, e, h), f))) = subst (Begins IsStart) (sym e) tt
start (type.result no_type B) n tokens v rest (inr (w, h, f)) = absurd h
start (type.result (a_type T) B) n tokens v rest (inr (w, (flat, h), f)) = flat-start-any T n flat tokens w rest h
start T n tokens v rest h = flat-start-any T n tt tokens v rest h

-- no value begins with a close
pub never-begins : (T : TypeTree) (n : ℕ) → NeverBegins bracket_close (Reads T n)
never-begins T n behind rest v h = start T n (bracket_close ∷ behind) v rest h

-- a value that stands for one around it, beside the words of the one around it
pub option-agree : (P Q P' Q' : Spelling Value) → Agree P Q → Agree P' Q' →
    ((tokens : List Token) (v : Value) (rest : List Token) → P' tokens v rest → Begins IsFlatStart tokens) →
    ((tokens : List Token) (v : Value) (rest : List Token) → Q' tokens v rest → Begins IsFlatStart tokens) →
    (H K : Type 0) →
    Agree (Either (Provided H (AnOption P)) (Stands (λ w. value.option (a_value w)) P')) (Either (Provided K (AnOption Q)) (Stands (λ w. value.option (a_value w)) Q'))
option-agree P Q P' Q' agree agree' sp sq H K tokens a b r s (inl (h, inl (e, f))) (inl (k, inl (g, i))) = (cc, cc)
option-agree P Q P' Q' agree agree' sp sq H K tokens a b r s (inl (h, inl (e, f))) (inl (k, inr (w, (behind, g, q), i))) =
    let no_word : codes "none" ≡ codes "some" = cc in absurd (apart _ _ refl no_word)
option-agree P Q P' Q' agree agree' sp sq H K tokens a b r s (inl (h, inr (w, (behind, g, p), i))) (inl (k, inl (e, f))) =
    let no_word : codes "none" ≡ codes "some" = cc in absurd (apart _ _ refl no_word)
option-agree P Q P' Q' agree agree' sp sq H K tokens a b r s (inl (h, inr (w, (behind, g, p), i))) (inl (k, inr (w', (behind', g', q), i'))) =
    let f : behind' ≡ behind = cc in
    let one = parens-agree P Q agree behind w w' r s p (subst (λ x. InParens Q x w' s) f q) in (cc, one.1)
option-agree P Q P' Q' agree agree' sp sq H K tokens a b r s (inl (h, inl (e, f))) (inr (w, q, i)) =
    let start : Begins IsFlatStart (label (codes "none") ∷ r) = subst (Begins IsFlatStart) e (sq tokens w s q) in absurd (start.0 refl)
option-agree P Q P' Q' agree agree' sp sq H K tokens a b r s (inl (h, inr (w', (behind, e, p), f))) (inr (w, q, i)) =
    let start : Begins IsFlatStart (label (codes "some") ∷ behind) = subst (Begins IsFlatStart) e (sq tokens w s q) in absurd (start.1.0 refl)
option-agree P Q P' Q' agree agree' sp sq H K tokens a b r s (inr (w, p, i)) (inl (k, inl (e, f))) =
    let start : Begins IsFlatStart (label (codes "none") ∷ s) = subst (Begins IsFlatStart) e (sp tokens w r p) in absurd (start.0 refl)
option-agree P Q P' Q' agree agree' sp sq H K tokens a b r s (inr (w, p, i)) (inl (k, inr (w', (behind, e, q), f))) =
    let start : Begins IsFlatStart (label (codes "some") ∷ behind) = subst (Begins IsFlatStart) e (sp tokens w r p) in absurd (start.1.0 refl)
option-agree P Q P' Q' agree agree' sp sq H K tokens a b r s (inr (w, p, i)) (inr (w', q, j)) =
    let one = agree' tokens w w' r s p q in (cc, one.1)

-- a result, or a value that stands for `ok` of itself
pub result-agree : (P Q P' Q' : Spelling MaybeValue) (P'' Q'' : Spelling Value) → Agree P Q → Agree P' Q' → Agree P'' Q'' →
    ((tokens : List Token) (v : Value) (rest : List Token) → P'' tokens v rest → Begins IsFlatStart tokens) →
    ((tokens : List Token) (v : Value) (rest : List Token) → Q'' tokens v rest → Begins IsFlatStart tokens) →
    (H K : Type 0) →
    Agree (Either (Provided H (AResult P P')) (Stands (λ w. value.ok (a_value w)) P'')) (Either (Provided K (AResult Q Q')) (Stands (λ w. value.ok (a_value w)) Q''))
result-agree P Q P' Q' P'' Q'' agree agree' agree'' sp sq H K tokens a b r s (inl (h, inl (w, (behind, e, p), f))) (inl (k, inl (w', (behind', e', q), f'))) =
    let g : behind' ≡ behind = cc in
    let one = agree behind w w' r s p (subst (λ x. Q x w' s) g q) in (cc, one.1)
result-agree P Q P' Q' P'' Q'' agree agree' agree'' sp sq H K tokens a b r s (inl (h, inr (w, (behind, e, p), f))) (inl (k, inr (w', (behind', e', q), f'))) =
    let g : behind' ≡ behind = cc in
    let one = agree' behind w w' r s p (subst (λ x. Q' x w' s) g q) in (cc, one.1)
result-agree P Q P' Q' P'' Q'' agree agree' agree'' sp sq H K tokens a b r s (inl (h, inl (w, (behind, e, p), f))) (inl (k, inr (w', (behind', e', q), f'))) =
    let no_word : codes "ok" ≡ codes "err" = cc in absurd (apart _ _ refl no_word)
result-agree P Q P' Q' P'' Q'' agree agree' agree'' sp sq H K tokens a b r s (inl (h, inr (w, (behind, e, p), f))) (inl (k, inl (w', (behind', e', q), f'))) =
    let no_word : codes "ok" ≡ codes "err" = cc in absurd (apart _ _ refl no_word)
result-agree P Q P' Q' P'' Q'' agree agree' agree'' sp sq H K tokens a b r s (inl (h, inl (w, (behind, e, p), f))) (inr (w', q, i)) =
    let start : Begins IsFlatStart (label (codes "ok") ∷ behind) = subst (Begins IsFlatStart) e (sq tokens w' s q) in absurd (start.1.1.0 refl)
result-agree P Q P' Q' P'' Q'' agree agree' agree'' sp sq H K tokens a b r s (inl (h, inr (w, (behind, e, p), f))) (inr (w', q, i)) =
    let start : Begins IsFlatStart (label (codes "err") ∷ behind) = subst (Begins IsFlatStart) e (sq tokens w' s q) in absurd (start.1.1.1.0 refl)
result-agree P Q P' Q' P'' Q'' agree agree' agree'' sp sq H K tokens a b r s (inr (w', p, i)) (inl (k, inl (w, (behind, e, q), f))) =
    let start : Begins IsFlatStart (label (codes "ok") ∷ behind) = subst (Begins IsFlatStart) e (sp tokens w' r p) in absurd (start.1.1.0 refl)
result-agree P Q P' Q' P'' Q'' agree agree' agree'' sp sq H K tokens a b r s (inr (w', p, i)) (inl (k, inr (w, (behind, e, q), f))) =
    let start : Begins IsFlatStart (label (codes "err") ∷ behind) = subst (Begins IsFlatStart) e (sp tokens w' r p) in absurd (start.1.1.1.0 refl)
result-agree P Q P' Q' P'' Q'' agree agree' agree'' sp sq H K tokens a b r s (inr (w, p, i)) (inr (w', q, j)) =
    let one = agree'' tokens w w' r s p q in (cc, one.1)

-- ---- names

-- no name is both one of the names and none of them
pub one-none : (names : List (List ℕ)) (name : List ℕ) → IsOneOf names name → IsNoneOf names name → ⊥
one-none [] name h k = h
one-none (other ∷ others) name (inl e) k = k.0 e
one-none (other ∷ others) name (inr h) k = one-none others name h k.1

-- what is read for a name is the value of a field of that name
field-named : (fs : Fields) (n : ℕ) (name : List ℕ) (tokens : List Token) (w : Value) (rest : List Token) → ReadsField fs n name tokens w rest → IsOneOf (field_names fs) name
field-named no_fields n name tokens w rest h = absurd h
field-named (field other T more) n name tokens w rest (inl h) = inl h.0
field-named (field other T more) n name tokens w rest (inr h) = inr (field-named more n name tokens w rest h)

-- what is read for a name is the payload of a case of that name
case-named : (cs : Cases) (n : ℕ) (name : List ℕ) (tokens : List Token) (w : MaybeValue) (rest : List Token) → ReadsCase cs n name tokens w rest → IsOneOf (case_names cs) name
case-named no_cases n name tokens w rest h = absurd h
case-named (case_of other T more) n name tokens w rest (inl h) = inl h.0
case-named (case_of other T more) n name tokens w rest (inr h) = inr (case-named more n name tokens w rest h)

-- a value that stands for `ok` of itself begins as a flat one
flat-starts : (A : MaybeType) (n : ℕ) (tokens : List Token) (v : Value) (rest : List Token) → ReadsFlat A n tokens v rest → Begins IsFlatStart tokens
flat-starts no_type n tokens v rest h = absurd h
flat-starts (a_type T) n tokens v rest h = flat-start T n h.0 tokens v rest h.1

-- ---- the theorem

mutual
  -- two readings of a type agree
  pub unique : (T : TypeTree) → HasDistinctNames T → (n m : ℕ) → Agree (Reads T n) (Reads T m)
  unique (type.simple S) labelled n m = provided-agree _ _ _ _ (simple-agree S)
  unique (type.unreadable kind) labelled n m = never-agree
  unique (type.list E) labelled n m = provided-agree _ _ _ _ (list-agree _ _ (never-begins E _) (never-begins E _) (unique E labelled (n - 1) (m - 1)))
  unique (type.fixed E count) labelled n m = provided-agree _ _ _ _ (fixed-agree count _ _ (never-begins E _) (never-begins E _) (unique E labelled (n - 1) (m - 1)))
  unique (type.record_type fs) labelled n m = provided-agree _ _ _ _ (record-agree fs _ _ (λ name. unique-field fs labelled.0 labelled.1 (n - 1) (m - 1) name))
  unique (type.tuple types) labelled n m = provided-agree _ _ _ _ (tuple-agree _ _ (unique-tuple types labelled (n - 1) (m - 1)))
  unique (type.variant cases) labelled n m = provided-agree _ _ _ _ (variant-agree _ _ (λ name. unique-case cases labelled.0 labelled.1 (n - 1) (m - 1) name))
  unique (type.enum names) labelled n m = provided-agree _ _ _ _ (enum-agree names)
  unique (type.option P) labelled n m = option-agree _ _ _ _ (unique P labelled (n - 1) (m - 1)) (provided-agree _ _ _ _ (unique P labelled n m)) (λ ts v r h. flat-start P n h.0 ts v r h.1) (λ ts v r h. flat-start P m h.0 ts v r h.1) _ _
  unique (type.result A B) labelled n m = result-agree _ _ _ _ _ _ (unique-payload A labelled.0 (n - 1) (m - 1)) (unique-payload B labelled.1 (n - 1) (m - 1)) (unique-flat A labelled.0 n m) (flat-starts A n) (flat-starts A m) _ _
  unique (type.flags names) labelled n m = provided-agree _ _ _ _ (flags-agree names)
  unique (type.map K V) labelled n m = provided-agree _ _ _ _ (map-agree K _ _ (unique V labelled (n - 1) (m - 1)))

  -- of a payload
  pub unique-payload : (T : MaybeType) → EachNamesOfMaybe AreDistinct T → (n m : ℕ) → Agree (ReadsPayload T n) (ReadsPayload T m)
  unique-payload no_type labelled n m = bare-agree
  unique-payload (a_type T) labelled n m = payload-agree _ _ (unique T labelled n m)

  -- of a value that stands for `ok` of itself
  pub unique-flat : (T : MaybeType) → EachNamesOfMaybe AreDistinct T → (n m : ℕ) → Agree (ReadsFlat T n) (ReadsFlat T m)
  unique-flat no_type labelled n m = never-agree
  unique-flat (a_type T) labelled n m = provided-agree _ _ _ _ (unique T labelled n m)

  -- of the values of a tuple
  pub unique-tuple : (types : Types) → EachNamesOfTypes AreDistinct types → (n m : ℕ) → Agree (ReadsTuple types n) (ReadsTuple types m)
  unique-tuple no_types labelled n m = never-agree
  unique-tuple (type_and T more) labelled n m = first-agree _ _ _ _ (unique T labelled.0 n m) (unique-further more labelled.1 n m)

  -- of the further values of a tuple
  pub unique-further : (types : Types) → EachNamesOfTypes AreDistinct types → (n m : ℕ) → Agree (ReadsFurther types n) (ReadsFurther types m)
  unique-further no_types labelled n m = end-agree
  unique-further (type_and T more) labelled n m = then-agree _ _ _ _ (unique T labelled.0 n m) (unique-further more labelled.1 n m)

  -- of a field of some name
  pub unique-field : (fs : Fields) → AreDistinct (field_names fs) → EachNamesOfFields AreDistinct fs → (n m : ℕ) (name : List ℕ) → Agree (ReadsField fs n name) (ReadsField fs m name)
  unique-field no_fields distinct labelled n m name tokens a b r s h k = absurd h
  unique-field (field other T more) distinct labelled n m name tokens a b r s (inl h) (inl k) = unique T labelled.0 n m tokens a b r s h.1 k.1
  unique-field (field other T more) distinct labelled n m name tokens a b r s (inl h) (inr k) = absurd (one-none (field_names more) other (subst (IsOneOf (field_names more)) h.0 (field-named more m name tokens b s k)) distinct.0)
  unique-field (field other T more) distinct labelled n m name tokens a b r s (inr h) (inl k) = absurd (one-none (field_names more) other (subst (IsOneOf (field_names more)) k.0 (field-named more n name tokens a r h)) distinct.0)
  unique-field (field other T more) distinct labelled n m name tokens a b r s (inr h) (inr k) = unique-field more distinct.1 labelled.1 n m name tokens a b r s h k

  -- of the payload of a case of some name
  pub unique-case : (cs : Cases) → AreDistinct (case_names cs) → EachNamesOfCases AreDistinct cs → (n m : ℕ) (name : List ℕ) → Agree (ReadsCase cs n name) (ReadsCase cs m name)
  unique-case no_cases distinct labelled n m name tokens a b r s h k = absurd h
  unique-case (case_of other T more) distinct labelled n m name tokens a b r s (inl h) (inl k) = unique-payload T labelled.0 n m tokens a b r s h.1 k.1
  unique-case (case_of other T more) distinct labelled n m name tokens a b r s (inl h) (inr k) = absurd (one-none (case_names more) other (subst (IsOneOf (case_names more)) h.0 (case-named more m name tokens b s k)) distinct.0)
  unique-case (case_of other T more) distinct labelled n m name tokens a b r s (inr h) (inl k) = absurd (one-none (case_names more) other (subst (IsOneOf (case_names more)) k.0 (case-named more n name tokens a r h)) distinct.0)
  unique-case (case_of other T more) distinct labelled n m name tokens a b r s (inr h) (inr k) = unique-case more distinct.1 labelled.1 n m name tokens a b r s h k
