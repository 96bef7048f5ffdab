-- The tokens of a tree lead from where a value is expected to where no more is expected of it.
use Rattle.std.proofs.Common.{ℕ, zero, suc, ◌≡◌, ◌≢◌, ◌<◌, ◌≤◌, ◌+◌, inl, inr, List, [], ◌∷◌, ◌++◌, length, Bool, true, false, refl, sym, ap, subst, ◌∙◌, arith, append_assoc}
use Rattle.std.specs.Prelude.{◌⊎◌, nat_lt, if◌then◌else◌, map, ◌||◌}
use Rattle.std.specs.List.{list_any}
use Rattle.std.specs.Str.{bytes_eq}
use Rattle.wave_wasm.specs.Names.{AreDistinct, IsNoneOf, is_one_of}
use Rattle.wave_grammar.specs.Token.{Token, brace_open, brace_close, paren_open, paren_close, bracket_open, bracket_close, colon, comma, number, label, char, string, multiline}
use Rattle.wave_grammar.specs.CommaSeparated.{Spelling, FurtherItems, Items}
use Rattle.wave_grammar.specs.LeafTokens.{name_of}
use Rattle.wave_grammar.specs.TypedGrammar.{InParens}
use Rattle.wave_grammar.specs.Tree as tree
use Rattle.wave_grammar.specs.Tree.{Tree, ATree, Takes, KeyAnd, Label, MaybeInParens, InBraces, BehindWord, IsKey, Word, word_of, leaf_word, none_word, some_word, ok_word, err_word, case_word}
use Rattle.wave_grammar.specs.PrefixLaws.{EndsBefore, TreesAreAccepted}
use Rattle.wave_grammar.specs.PrefixAutomaton as expectation
use Rattle.wave_grammar.specs.PrefixAutomaton.{Expectation, StackSymbol, value, first_item, next_item, behind_value, behind_label, Step, too_deep, reads, step, Shifts, closes, level_step, value_step, behind_step}
use Rattle.wave_grammar.proofs.Elaboration.GrammarToTree.{differ}

-- one run of tokens and then another
pub leads_join : (n : ℕ) (d e f : Expectation) (s r q : List StackSymbol) (ts us : List Token) → Shifts n d s ts e r → Shifts n e r us f q → Shifts n d s (ts ++ us) f q
leads_join n d e f s r q [] us (x, y) h = subst (λ z. Shifts n z s us f q) (sym x) (subst (λ z. Shifts n e z us f q) (sym y) h)
leads_join n d e f s r q (t ∷ ts) us (d', s', x, more) h = (d', s', x, leads_join n d' e f s' r q ts us more h)

-- tokens that lead from one place to another, and what is left after them
abbrev pub LeadsTo : ℕ → Expectation → List StackSymbol → List Token → Expectation → List StackSymbol → List Token → Type 0
LeadsTo n d s tokens e r rest = (prefix : List Token) × (tokens ≡ prefix ++ rest) × Shifts n d s prefix e r

-- a token that is read, before others
one : (n : ℕ) (d e f : Expectation) (s r v : List StackSymbol) (t : Token) (behind rest : List Token) → step n d s t ≡ reads e r → LeadsTo n e r behind f v rest → LeadsTo n d s (t ∷ behind) f v rest
one n d e f s r v t behind rest x (prefix, same, leads) = (t ∷ prefix, ap (λ z. t ∷ z) same, (e, r, x, leads))

-- no token
none : (n : ℕ) (d : Expectation) (s : List StackSymbol) (tokens rest : List Token) → tokens ≡ rest → LeadsTo n d s tokens d s rest
none n d s tokens rest e = ([], e, (refl, refl))

-- tokens and then those after them
joined : (n : ℕ) (d e f : Expectation) (s r v : List StackSymbol) (tokens behind rest : List Token) → LeadsTo n d s tokens e r behind → LeadsTo n e r behind f v rest → LeadsTo n d s tokens f v rest
joined n d e f s r v tokens behind rest (prefix, same, leads) (prefix', same', leads') =
    (prefix ++ prefix', same ∙ (ap (λ z. prefix ++ z) same' ∙ sym (append_assoc prefix prefix' rest)), leads_join n d e f s r v prefix prefix' leads leads')

-- after a value; where a payload might follow, no parenthesis stands
abbrev pub IsEnd : Expectation → List Token → Type 0
IsEnd d rest = (d ≡ behind_value) ⊎ (d ≡ behind_label) × ((more : List Token) → rest ≢ paren_open ∷ more)

-- each tree of P is led to, within the forms s
abbrev pub AreLed : ℕ → List StackSymbol → Spelling Tree → Type 0
AreLed n s P = (tokens : List Token) (t : Tree) (rest : List Token) → P tokens t rest → (d : Expectation) × IsEnd d rest × LeadsTo n value s tokens d s rest

-- a token that is no open parenthesis, where no payload stands
label_step : (n : ℕ) (s : List StackSymbol) (t : Token) → t ≢ paren_open → step n behind_label s t ≡ behind_step s t
label_step n s paren_open h = absurd (h refl)
label_step n s t h = refl

-- a token after a value
pub end_step : (n : ℕ) (d : Expectation) (s : List StackSymbol) (t : Token) (more : List Token) → IsEnd d (t ∷ more) → step n d s t ≡ behind_step s t
end_step n d s t more (inl e) = ap (λ z. step n z s t) e
end_step n d s t more (inr (e, k)) = ap (λ z. step n z s t) e ∙ label_step n s t (λ f. k more (ap (λ z. z ∷ more) f))

-- a test that fails
pub if_false : {A : Type 0} (b : Bool) (x y : A) → (b ≡ true → ⊥) → if b then x else y ≡ y
if_false true x y h = absurd (h refl)
if_false false x y h = refl

-- a level is left
pub level_open : (n : ℕ) (s : List StackSymbol) (t : Token) → length s < n → level_step n s t ≡ value_step s t
level_open n s t l = let k : nat_lt (length s) n ≡ true = grind arith in ap (λ b. if b then value_step s t else too_deep) k

-- where an item is expected and no close stands, a token does what it does where a value is expected
pub item_step : (n : ℕ) (d : Expectation) (s : List StackSymbol) (t : Token) → (d ≡ first_item) ⊎ (d ≡ next_item) → (closes s t ≡ true → ⊥) → step n value s t ≡ step n d s t
item_step n d s t (inl e) h = sym (ap (λ z. step n z s t) e ∙ if_false (closes s t) _ _ h)
item_step n d s t (inr e) h = sym (ap (λ z. step n z s t) e ∙ if_false (closes s t) _ _ h)

-- ---- items of a tuple or a list

-- the form of items
abbrev pub HasItems : StackSymbol → Type 0
HasItems expectation.tuple = Unit {0}
HasItems expectation.list = Unit {0}
HasItems _ = ⊥

-- the mark that closes a form
abbrev pub close_of : StackSymbol → Token
close_of expectation.tuple = paren_close
close_of expectation.list = bracket_close
close_of expectation.payload = paren_close
close_of expectation.entries = brace_close

-- what closes the innermost form is its close
pub close_token : (f : StackSymbol) (s : List StackSymbol) (t : Token) → closes (f ∷ s) t ≡ true → t ≡ close_of f
close_token expectation.tuple s paren_close e = refl
close_token expectation.list s bracket_close e = refl
close_token f s t e = let w : false ≡ true = e in cc

-- a token that is read where a value is expected is on a level
pub on_level : (b : Bool) (x : Step) (d : Expectation) (r : List StackSymbol) → if b then x else too_deep ≡ reads d r → x ≡ reads d r
on_level true x d r e = e
on_level false x d r e = cc

-- no close begins a value
no_close_reads : (n : ℕ) (f : StackSymbol) (s : List StackSymbol) (d : Expectation) (r : List StackSymbol) → HasItems f → step n value s (close_of f) ≡ reads d r → ⊥
no_close_reads n expectation.tuple s d r i h = let k : value_step s paren_close ≡ reads d r = on_level (nat_lt (length s) n) _ d r h in cc
no_close_reads n expectation.list s d r i h = let k : value_step s bracket_close ≡ reads d r = on_level (nat_lt (length s) n) _ d r h in cc
no_close_reads n f s d r i h = absurd i

-- what begins with a value may stand where an item or the close may
item_leads : (n : ℕ) (d : Expectation) (f : StackSymbol) (s : List StackSymbol) (tokens : List Token) (e : Expectation) (r : List StackSymbol) (rest : List Token) → HasItems f → (d ≡ first_item) ⊎ (d ≡ next_item) → (value ≡ e → ⊥) → LeadsTo n value (f ∷ s) tokens e r rest → LeadsTo n d (f ∷ s) tokens e r rest
item_leads n d f s tokens e r rest i at apart ([], same, (x, y)) = absurd (apart x)
item_leads n d f s tokens e r rest i at apart (t ∷ prefix, same, (d', s', x, leads)) =
    (t ∷ prefix, same, (d', s', sym (item_step n d (f ∷ s) t at (λ k. no_close_reads n f (f ∷ s) d' s' i (subst (λ z. step n value (f ∷ s) z ≡ reads d' s') (close_token f s t k) x))) ∙ x, leads))

-- after a value no value is expected
pub end_not_value : (d : Expectation) (rest : List Token) → IsEnd d rest → value ≡ d → ⊥
end_not_value d rest (inl e) h = let k : value ≡ behind_value = h ∙ e in cc
end_not_value d rest (inr (e, k)) h = let m : value ≡ behind_label = h ∙ e in cc

-- after a value a comma or the close of its items
pub comma_reads : (f : StackSymbol) (s : List StackSymbol) → HasItems f → behind_step (f ∷ s) comma ≡ reads next_item (f ∷ s)
comma_reads expectation.tuple s i = refl
comma_reads expectation.list s i = refl
comma_reads f s i = absurd i

-- the close after a value
pub close_reads : (f : StackSymbol) (s : List StackSymbol) → behind_step (f ∷ s) (close_of f) ≡ reads behind_value s
close_reads expectation.tuple s = refl
close_reads expectation.list s = refl
close_reads expectation.payload s = refl
close_reads expectation.entries s = refl

-- the close after a comma
pub next_closes : (n : ℕ) (f : StackSymbol) (s : List StackSymbol) → HasItems f → step n next_item (f ∷ s) (close_of f) ≡ reads behind_value s
next_closes n expectation.tuple s i = refl
next_closes n expectation.list s i = refl
next_closes n f s i = absurd i

-- a form is closed after its value
form_closes : (n : ℕ) (d : Expectation) (f : StackSymbol) (s : List StackSymbol) (rest : List Token) → IsEnd d (close_of f ∷ rest) → LeadsTo n d (f ∷ s) (close_of f ∷ rest) behind_value s rest
form_closes n d f s rest h = one n d behind_value behind_value (f ∷ s) s s (close_of f) rest rest (end_step n d (f ∷ s) (close_of f) rest h ∙ close_reads f s) (none n behind_value s rest rest refl)

-- the further items of a tuple or a list
further_led : (n : ℕ) (f : StackSymbol) (s : List StackSymbol) (P : Spelling Tree) → HasItems f → AreLed n (f ∷ s) P → (tokens : List Token) (items : List Tree) (rest : List Token) (d : Expectation) → IsEnd d tokens → FurtherItems (close_of f) P tokens items rest → LeadsTo n d (f ∷ s) tokens behind_value s rest
further_led n f s P i led tokens [] rest d h (inl e) = subst (λ z. LeadsTo n d (f ∷ s) z behind_value s rest) (sym e) (form_closes n d f s rest (subst (IsEnd d) e h))
further_led n f s P i led tokens [] rest d h (inr e) = subst (λ z. LeadsTo n d (f ∷ s) z behind_value s rest) (sym e)
    (one n d next_item behind_value (f ∷ s) (f ∷ s) s comma (close_of f ∷ rest) rest (end_step n d (f ∷ s) comma (close_of f ∷ rest) (subst (IsEnd d) e h) ∙ comma_reads f s i)
    (one n next_item behind_value behind_value (f ∷ s) s s (close_of f) rest rest (next_closes n f s i) (none n behind_value s rest rest refl)))
further_led n f s P i led tokens (a ∷ more) rest d h (prefix, behind, e, p, k) =
    let (d', h', leads) = led prefix a behind p in
    subst (λ z. LeadsTo n d (f ∷ s) z behind_value s rest) (sym e)
    (one n d next_item behind_value (f ∷ s) (f ∷ s) s comma prefix rest (end_step n d (f ∷ s) comma prefix (subst (IsEnd d) e h) ∙ comma_reads f s i)
    (joined n next_item d' behind_value (f ∷ s) (f ∷ s) s prefix behind rest (item_leads n next_item f s prefix d' (f ∷ s) behind i (inr refl) (end_not_value d' behind h') leads)
    (further_led n f s P i led behind more rest d' h' k)))

-- the items of a tuple or a list
items_led : (n : ℕ) (f : StackSymbol) (s : List StackSymbol) (P : Spelling Tree) → HasItems f → AreLed n (f ∷ s) P → (tokens : List Token) (a : Tree) (more : List Tree) (rest : List Token) → Items (close_of f) P tokens (a ∷ more) rest → LeadsTo n first_item (f ∷ s) tokens behind_value s rest
items_led n f s P i led tokens a more rest (behind, p, k) =
    let (d', h', leads) = led tokens a behind p in
    joined n first_item d' behind_value (f ∷ s) (f ∷ s) s tokens behind rest (item_leads n first_item f s tokens d' (f ∷ s) behind i (inl refl) (end_not_value d' behind h') leads)
    (further_led n f s P i led behind more rest d' h' k)

-- ---- payloads and labels

-- a payload in its parentheses
in_parens : (n : ℕ) (s : List StackSymbol) (P : Spelling Tree) → AreLed n (expectation.payload ∷ s) P → (d : Expectation) → step n d s paren_open ≡ reads value (expectation.payload ∷ s) → (tokens : List Token) (t : Tree) (rest : List Token) → InParens P tokens t rest →
    LeadsTo n d s tokens behind_value s rest
in_parens n s P led d x tokens t rest (prefix, e, p) =
    let (d', h', leads) = led prefix t (paren_close ∷ rest) p in
    subst (λ z. LeadsTo n d s z behind_value s rest) (sym e) (one n d value behind_value s (expectation.payload ∷ s) s paren_open prefix rest x
    (joined n value d' behind_value (expectation.payload ∷ s) (expectation.payload ∷ s) s prefix (paren_close ∷ rest) rest leads (form_closes n d' expectation.payload s rest h')))

-- a payload, or none
maybe_led : (n : ℕ) (s : List StackSymbol) (P : Spelling Tree) → AreLed n (expectation.payload ∷ s) P → (tokens : List Token) (t : tree.MaybeTree) (rest : List Token) → MaybeInParens P tokens t rest → (d : Expectation) × IsEnd d rest × LeadsTo n behind_label s tokens d s rest
maybe_led n s P led tokens t rest (inl (e, apart, f)) = (behind_label, inr (refl, apart), none n behind_label s tokens rest e)
maybe_led n s P led tokens t rest (inr (u, p, f)) = (behind_value, inl refl, in_parens n s P led behind_label refl tokens u rest p)

-- what stands after a label
word_led : (n : ℕ) (s : List StackSymbol) (P : Spelling Tree) → AreLed n (expectation.payload ∷ s) P → (w : Word) (text : List ℕ) (tokens : List Token) (t : Tree) (rest : List Token) → BehindWord w text P tokens t rest →
    (d : Expectation) × IsEnd d rest × LeadsTo n (expectation.expected_behind w) s tokens d s rest
word_led n s P led leaf_word text tokens t rest (e, f) = (behind_value, inl refl, none n behind_value s tokens rest e)
word_led n s P led none_word text tokens t rest (e, f) = (behind_value, inl refl, none n behind_value s tokens rest e)
word_led n s P led some_word text tokens t rest (u, p, f) = (behind_value, inl refl, in_parens n s P led expectation.paren refl tokens u rest p)
word_led n s P led ok_word text tokens t rest (u, p, f) = maybe_led n s P led tokens u rest p
word_led n s P led err_word text tokens t rest (u, p, f) = maybe_led n s P led tokens u rest p
word_led n s P led case_word text tokens t rest (u, p, f) = maybe_led n s P led tokens u rest p

-- ---- entries

-- a key where one is expected after a comma
pub key_there : (n : ℕ) (s : List StackSymbol) (t : Token) → IsKey t → step n expectation.key s t ≡ reads expectation.behind_key s
key_there n s (number text) h = refl
key_there n s (label text) h = refl
key_there n s (char text) h = refl
key_there n s (string text) h = refl
key_there n s (multiline text) h = refl
key_there n s t h = absurd h

-- the first key in braces, and its colon
first_key : (n : ℕ) (s : List StackSymbol) (t : Token) (prefix rest : List Token) (d : Expectation) (r : List StackSymbol) → IsKey t → LeadsTo n value (expectation.entries ∷ s) prefix d r rest → LeadsTo n expectation.in_braces s (t ∷ colon ∷ prefix) d r rest
first_key n s (number text) prefix rest d r h leads = one n expectation.in_braces expectation.behind_key d s s r (number text) (colon ∷ prefix) rest refl (one n expectation.behind_key value d s (expectation.entries ∷ s) r colon prefix rest refl leads)
first_key n s (label text) prefix rest d r h leads = one n expectation.in_braces (expectation.behind_word text) d s s r (label text) (colon ∷ prefix) rest refl (one n (expectation.behind_word text) value d s (expectation.entries ∷ s) r colon prefix rest refl leads)
first_key n s (char text) prefix rest d r h leads = one n expectation.in_braces expectation.behind_key d s s r (char text) (colon ∷ prefix) rest refl (one n expectation.behind_key value d s (expectation.entries ∷ s) r colon prefix rest refl leads)
first_key n s (string text) prefix rest d r h leads = one n expectation.in_braces expectation.behind_key d s s r (string text) (colon ∷ prefix) rest refl (one n expectation.behind_key value d s (expectation.entries ∷ s) r colon prefix rest refl leads)
first_key n s (multiline text) prefix rest d r h leads = one n expectation.in_braces expectation.behind_key d s s r (multiline text) (colon ∷ prefix) rest refl (one n expectation.behind_key value d s (expectation.entries ∷ s) r colon prefix rest refl leads)
first_key n s t prefix rest d r h leads = absurd h

-- the further entries of braces
entries_further : (n : ℕ) (s : List StackSymbol) (P : Spelling Tree) → AreLed n (expectation.entries ∷ s) P → (tokens : List Token) (es : List (Token × Tree)) (rest : List Token) (d : Expectation) → IsEnd d tokens → FurtherItems brace_close (KeyAnd P) tokens es rest →
    LeadsTo n d (expectation.entries ∷ s) tokens behind_value s rest
entries_further n s P led tokens [] rest d h (inl e) = subst (λ z. LeadsTo n d (expectation.entries ∷ s) z behind_value s rest) (sym e)
    (form_closes n d expectation.entries s rest (subst (IsEnd d) e h))
entries_further n s P led tokens [] rest d h (inr e) = subst (λ z. LeadsTo n d (expectation.entries ∷ s) z behind_value s rest) (sym e)
    (one n d expectation.key behind_value (expectation.entries ∷ s) s s comma (brace_close ∷ rest) rest (end_step n d (expectation.entries ∷ s) comma (brace_close ∷ rest) (subst (IsEnd d) e h))
    (one n expectation.key behind_value behind_value s s s brace_close rest rest refl (none n behind_value s rest rest refl)))
entries_further n s P led tokens (a ∷ more) rest d h (prefix, behind, e, (inside, f, k, p), g) =
    let (d', h', leads) = led inside a.1 behind p in
    let same : tokens ≡ comma ∷ a.0 ∷ colon ∷ inside = e ∙ ap (λ z. comma ∷ z) f in
    subst (λ z. LeadsTo n d (expectation.entries ∷ s) z behind_value s rest) (sym same)
    (one n d expectation.key behind_value (expectation.entries ∷ s) s s comma (a.0 ∷ colon ∷ inside) rest (end_step n d (expectation.entries ∷ s) comma (a.0 ∷ colon ∷ inside) (subst (IsEnd d) same h))
    (one n expectation.key expectation.behind_key behind_value s s s a.0 (colon ∷ inside) rest (key_there n s a.0 k)
    (one n expectation.behind_key value behind_value s (expectation.entries ∷ s) s colon inside rest refl
    (joined n value d' behind_value (expectation.entries ∷ s) (expectation.entries ∷ s) s inside behind rest leads (entries_further n s P led behind more rest d' h' g)))))

-- the entries of braces
entries_led : (n : ℕ) (s : List StackSymbol) (P : Spelling Tree) → AreLed n (expectation.entries ∷ s) P → (tokens : List Token) (es : List (Token × Tree)) (rest : List Token) → 0 < length es → Items brace_close (KeyAnd P) tokens es rest →
    LeadsTo n expectation.in_braces s tokens behind_value s rest
entries_led n s P led tokens [] rest l h = absurd (omega arith)
entries_led n s P led tokens (a ∷ more) rest l (behind, (inside, f, k, p), g) =
    let (d', h', leads) = led inside a.1 behind p in
    subst (λ z. LeadsTo n expectation.in_braces s z behind_value s rest) (sym f) (first_key n s a.0 inside rest behind_value s k
    (joined n value d' behind_value (expectation.entries ∷ s) (expectation.entries ∷ s) s inside behind rest leads (entries_further n s P led behind more rest d' h' g)))

-- ---- flags

-- each of these names is new after those before it
abbrev pub AllNew : List (List ℕ) → List (List ℕ) → Type 0
AllNew names [] = Unit {0}
AllNew names (x ∷ more) = (is_one_of names x ≡ false) × AllNew (names ++ x ∷ []) more

-- one more name that fails a test
any_append : (test : List ℕ → Bool) (xs : List (List ℕ)) (y : List ℕ) → list_any test xs ≡ false → test y ≡ false → list_any test (xs ++ y ∷ []) ≡ false
any_append test [] y e f = ap (λ b. b || false) f
any_append test (x ∷ xs) y e f = both (test x) (list_any test xs) (list_any test (xs ++ y ∷ [])) e (λ k. any_append test xs y k f)
  where
    both : (a b c : Bool) → (a || b) ≡ false → (b ≡ false → c ≡ false) → (a || c) ≡ false
    both true b c e g = cc
    both false b c e g = g e

-- none of the later names is among the earlier ones
abbrev NoneIn : List (List ℕ) → List (List ℕ) → Type 0
NoneIn names [] = Unit {0}
NoneIn names (x ∷ more) = (is_one_of names x ≡ false) × NoneIn names more

-- a name is added to the earlier ones
none_in_more : (names more : List (List ℕ)) (x : List ℕ) → NoneIn names more → IsNoneOf more x → NoneIn (names ++ x ∷ []) more
none_in_more names [] x h k = tt
none_in_more names (y ∷ more) x (a, h) (b, k) = (any_append (bytes_eq y) names x a (differ y x (λ e. b (sym e))), none_in_more names more x h k)

-- distinct names are new, each after those before it
all_new : (names more : List (List ℕ)) → NoneIn names more → AreDistinct more → AllNew names more
all_new names [] h d = tt
all_new names (x ∷ more) (a, h) (b, d) = (a, all_new (names ++ x ∷ []) more (none_in_more names more x h b) d)

-- no name is an earlier one at first
none_in_nil : (more : List (List ℕ)) → NoneIn [] more
none_in_nil [] = tt
none_in_nil (x ∷ more) = (refl, none_in_nil more)

-- the further flags
flags_further : (n : ℕ) (s : List StackSymbol) (names : List (List ℕ)) (tokens : List Token) (texts : List (List ℕ)) (rest : List Token) → AllNew names (map name_of texts) → FurtherItems brace_close Label tokens texts rest →
    LeadsTo n (expectation.behind_flag names) s tokens behind_value s rest
flags_further n s names tokens [] rest h (inl e) = subst (λ z. LeadsTo n (expectation.behind_flag names) s z behind_value s rest) (sym e)
    (one n (expectation.behind_flag names) behind_value behind_value s s s brace_close rest rest refl (none n behind_value s rest rest refl))
flags_further n s names tokens [] rest h (inr e) = subst (λ z. LeadsTo n (expectation.behind_flag names) s z behind_value s rest) (sym e)
    (one n (expectation.behind_flag names) (expectation.flag names) behind_value s s s comma (brace_close ∷ rest) rest refl (one n (expectation.flag names) behind_value behind_value s s s brace_close rest rest refl (none n behind_value s rest rest refl)))
flags_further n s names tokens (x ∷ more) rest (a, h) (prefix, behind, e, f, k) =
    subst (λ z. LeadsTo n (expectation.behind_flag names) s z behind_value s rest) (sym (e ∙ ap (λ z. comma ∷ z) f))
    (one n (expectation.behind_flag names) (expectation.flag names) behind_value s s s comma (label x ∷ behind) rest refl
    (one n (expectation.flag names) (expectation.behind_flag (names ++ name_of x ∷ [])) behind_value s s s (label x) behind rest
    (ap (λ b. if b then expectation.repeated_flag else reads (expectation.behind_flag (names ++ name_of x ∷ [])) s) a)
    (flags_further n s (names ++ name_of x ∷ []) behind more rest h k)))

-- after the first flag a colon would make it a key
word_further : (n : ℕ) (s : List StackSymbol) (text : List ℕ) (tokens : List Token) (texts : List (List ℕ)) (rest : List Token) → AllNew (name_of text ∷ []) (map name_of texts) → FurtherItems brace_close Label tokens texts rest →
    LeadsTo n (expectation.behind_word text) s tokens behind_value s rest
word_further n s text tokens [] rest h (inl e) = subst (λ z. LeadsTo n (expectation.behind_word text) s z behind_value s rest) (sym e)
    (one n (expectation.behind_word text) behind_value behind_value s s s brace_close rest rest refl (none n behind_value s rest rest refl))
word_further n s text tokens [] rest h (inr e) = subst (λ z. LeadsTo n (expectation.behind_word text) s z behind_value s rest) (sym e)
    (one n (expectation.behind_word text) (expectation.flag (name_of text ∷ [])) behind_value s s s comma (brace_close ∷ rest) rest refl (one n (expectation.flag (name_of text ∷ [])) behind_value behind_value s s s brace_close rest rest refl (none n behind_value s rest rest refl)))
word_further n s text tokens (x ∷ more) rest (a, h) (prefix, behind, e, f, k) =
    subst (λ z. LeadsTo n (expectation.behind_word text) s z behind_value s rest) (sym (e ∙ ap (λ z. comma ∷ z) f))
    (one n (expectation.behind_word text) (expectation.flag (name_of text ∷ [])) behind_value s s s comma (label x ∷ behind) rest refl
    (one n (expectation.flag (name_of text ∷ [])) (expectation.behind_flag (name_of text ∷ name_of x ∷ [])) behind_value s s s (label x) behind rest
    (ap (λ b. if b then expectation.repeated_flag else reads (expectation.behind_flag (name_of text ∷ name_of x ∷ [])) s) a)
    (flags_further n s (name_of text ∷ name_of x ∷ []) behind more rest h k)))

-- the flags of braces
flags_led : (n : ℕ) (s : List StackSymbol) (tokens : List Token) (texts : List (List ℕ)) (rest : List Token) → 0 < length texts → AreDistinct (map name_of texts) → Items brace_close Label tokens texts rest → LeadsTo n expectation.in_braces s tokens behind_value s rest
flags_led n s tokens [] rest l d h = absurd (omega arith)
flags_led n s tokens (x ∷ more) rest l (b, d) (behind, f, k) =
    subst (λ z. LeadsTo n expectation.in_braces s z behind_value s rest) (sym f)
    (one n expectation.in_braces (expectation.behind_word x) behind_value s s s (label x) behind rest refl
    (word_further n s x behind more rest (all_new (name_of x ∷ []) (map name_of more) (none_in_more [] (map name_of more) (name_of x) (none_in_nil (map name_of more)) b) d) k))

-- ---- all trees

-- a token that begins a value
opens : (n : ℕ) (s : List StackSymbol) (t : Token) (d : Expectation) (r : List StackSymbol) → length s < n → value_step s t ≡ reads d r → step n value s t ≡ reads d r
opens n s t d r l e = level_open n s t l ∙ e

-- a tree, where the trees in it are led to
tree_led : (n : ℕ) (s : List StackSymbol) (P : Spelling Tree) → length s < n → ((f : StackSymbol) → AreLed n (f ∷ s) P) → AreLed n s (ATree P)
tree_led n s P l led [] t rest h = absurd h
tree_led n s P l led (paren_open ∷ prefix) t rest ([], some, h, e) = absurd (omega arith)
tree_led n s P l led (paren_open ∷ prefix) t rest (a ∷ more, some, h, e) =
    (behind_value, inl refl, one n value first_item behind_value s (expectation.tuple ∷ s) s paren_open prefix rest (opens n s paren_open first_item (expectation.tuple ∷ s) l refl) (items_led n expectation.tuple s P tt (led expectation.tuple) prefix a more rest h))
tree_led n s P l led (bracket_open ∷ prefix) t rest ([], h, e) = (
  behind_value,
  inl refl,
  one n value first_item behind_value s (expectation.list ∷ s) s bracket_open prefix rest (opens n s bracket_open first_item (expectation.list ∷ s) l refl)
      (subst (λ z. LeadsTo n first_item (expectation.list ∷ s) z behind_value s rest) (sym h) (one n first_item behind_value behind_value (expectation.list ∷ s) s s bracket_close rest rest refl (none n behind_value s rest rest refl))),
)
tree_led n s P l led (bracket_open ∷ prefix) t rest (a ∷ more, h, e) =
    (behind_value, inl refl, one n value first_item behind_value s (expectation.list ∷ s) s bracket_open prefix rest (opens n s bracket_open first_item (expectation.list ∷ s) l refl) (items_led n expectation.list s P tt (led expectation.list) prefix a more rest h))
tree_led n s P l led (brace_open ∷ prefix) t rest h = (behind_value, inl refl, one n value expectation.in_braces behind_value s s s brace_open prefix rest (opens n s brace_open expectation.in_braces s l refl) (inside h))
  where
    inside : InBraces P prefix t rest → LeadsTo n expectation.in_braces s prefix behind_value s rest
    inside (inl (e, f)) = subst (λ z. LeadsTo n expectation.in_braces s z behind_value s rest) (sym e) (one n expectation.in_braces behind_value behind_value s s s brace_close rest rest refl (none n behind_value s rest rest refl))
    inside (inr (inl (e, f))) = subst (λ z. LeadsTo n expectation.in_braces s z behind_value s rest) (sym e)
        (one n expectation.in_braces expectation.no_fields behind_value s s s colon (brace_close ∷ rest) rest refl (one n expectation.no_fields behind_value behind_value s s s brace_close rest rest refl (none n behind_value s rest rest refl)))
    inside (inr (inr (inl (es, k, h, f)))) = entries_led n s P (led expectation.entries) prefix es rest k h
    inside (inr (inr (inr (texts, k, h, d, f)))) = flags_led n s prefix texts rest k d h
tree_led n s P l led (label text ∷ behind) t rest h =
    let (d, e, leads) = word_led n s P (led expectation.payload) (word_of text) text behind t rest h in
    (d, e, one n value (expectation.expected_behind (word_of text)) d s s s (label text) behind rest (opens n s (label text) (expectation.expected_behind (word_of text)) s l refl) leads)
tree_led n s P l led (number text ∷ behind) t rest (e, f) = (behind_value, inl refl, one n value behind_value behind_value s s s (number text) behind rest (opens n s (number text) behind_value s l refl) (none n behind_value s behind rest e))
tree_led n s P l led (char text ∷ behind) t rest (e, f) = (behind_value, inl refl, one n value behind_value behind_value s s s (char text) behind rest (opens n s (char text) behind_value s l refl) (none n behind_value s behind rest e))
tree_led n s P l led (string text ∷ behind) t rest (e, f) = (behind_value, inl refl, one n value behind_value behind_value s s s (string text) behind rest (opens n s (string text) behind_value s l refl) (none n behind_value s behind rest e))
tree_led n s P l led (multiline text ∷ behind) t rest (e, f) = (behind_value, inl refl, one n value behind_value behind_value s s s (multiline text) behind rest (opens n s (multiline text) behind_value s l refl) (none n behind_value s behind rest e))
tree_led n s P l led (token ∷ behind) t rest h = absurd h

-- each tree within k levels is led to where k more forms may be opened
pub takes_lead : (k n : ℕ) (s : List StackSymbol) → k + length s ≤ n → AreLed n s (Takes k)
takes_lead zero n s l = λ tokens t rest h. absurd h
takes_lead (suc k) n s l = tree_led n s (Takes k) (omega arith) (λ f. takes_lead k n (f ∷ s) (omega arith))

-- no more is expected of a value
pub end_before : (d : Expectation) (rest : List Token) → IsEnd d rest → EndsBefore d rest
end_before d rest (inl e) = subst (λ z. EndsBefore z rest) (sym e) tt
end_before d rest (inr (e, k)) = subst (λ z. EndsBefore z rest) (sym e) k

-- each tree is led to from where no form is open
pub trees_are_accepted : TreesAreAccepted
trees_are_accepted n tokens rest t h =
    let (d, ends, (prefix, same, leads)) = takes_lead n n [] (omega arith) tokens t rest h in
    (prefix, d, same, end_before d rest ends, leads)
