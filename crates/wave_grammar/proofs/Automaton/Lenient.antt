-- With an unexpected token no tree begins, not even one that is refused for another fault.
use Rattle.std.proofs.Common.{ℕ, zero, suc, ◌≡◌, ◌<◌, inl, inr, List, [], ◌∷◌, ◌++◌, length, Bool, true, false, refl, sym, ap, subst, ◌∙◌, arith, append_assoc}
use Rattle.std.proofs.lemmas.List.{append-nil}
use Rattle.std.specs.Prelude.{◌⊎◌, nat_lt, if◌then◌else◌}
use Rattle.wave_wasm.specs.Names.{is_one_of}
use Rattle.wave_grammar.specs.Token.{Token, brace_open, brace_close, paren_open, paren_close, bracket_open, bracket_close, colon, comma, number, label, char, string, multiline}
use Rattle.wave_grammar.specs.CommaSeparated.{Spelling, FurtherItems, Items}
use Rattle.wave_grammar.specs.LeafTokens.{name_of}
use Rattle.wave_grammar.specs.TypedGrammar.{InParens}
use Rattle.wave_grammar.specs.Tree as tree
use Rattle.wave_grammar.specs.Tree.{Tree, ATree, KeyAnd, Label, MaybeInParens, InBraces, BehindWord, IsKey, Word, word_of, leaf_word, none_word, some_word, ok_word, err_word, case_word}
use Rattle.wave_grammar.specs.LenientTree.{ALooseTree, TakesLoosely}
use Rattle.wave_grammar.specs.PrefixLaws.{UnexpectedTokensBeginNone}
use Rattle.wave_grammar.specs.PrefixAutomaton as expectation
use Rattle.wave_grammar.specs.PrefixAutomaton.{Expectation, StackSymbol, value, first_item, next_item, behind_value, behind_label, Step, too_deep, empty_tuple, repeated_flag, unexpected, reads, step, Shifts, closes, value_step}
use Rattle.wave_grammar.proofs.Automaton.Sound.{IsEnd, LeadsTo, leads_join, end_step, item_step, HasItems, close_of, close_token, close_reads, next_closes, comma_reads, end_not_value, key_there}
use Rattle.wave_grammar.proofs.Automaton.Prefixes.{leads_split, leads_one}

-- a refusal for a tuple that is empty, a flag that is repeated or a value that is too deep
abbrev IsOther : Step → Type 0
IsOther empty_tuple = Unit {0}
IsOther repeated_flag = Unit {0}
IsOther too_deep = Unit {0}
IsOther _ = ⊥

-- a prefix of the tokens leads to such a refusal
abbrev Halts : ℕ → Expectation → List StackSymbol → List Token → Type 0
Halts n d s tokens = (prefix : List Token) × (t : Token) × (more : List Token) × (e : Expectation) × (r : List StackSymbol) × (tokens ≡ prefix ++ t ∷ more) × Shifts n d s prefix e r × IsOther (step n e r t)

-- tokens lead to the end of a value within these forms, before this rest; or a prefix of them to such a refusal
abbrev Led : ℕ → Expectation → List StackSymbol → List Token → List StackSymbol → List Token → Type 0
Led n d s tokens v rest = ((e : Expectation) × IsEnd e rest × LeadsTo n d s tokens e v rest) ⊎ Halts n d s tokens

-- each tree of P is led to, within the forms s
abbrev AreLoose : ℕ → List StackSymbol → Spelling Tree → Type 0
AreLoose n s P = (tokens : List Token) (t : Tree) (rest : List Token) → P tokens t rest → Led n value s tokens s rest

-- a token that is read, before others
one : (n : ℕ) (d e : Expectation) (s r v : List StackSymbol) (t : Token) (behind rest : List Token) → step n d s t ≡ reads e r → Led n e r behind v rest → Led n d s (t ∷ behind) v rest
one n d e s r v t behind rest x (inl (f, ends, (prefix, same, leads))) = inl (f, ends, (t ∷ prefix, ap (λ z. t ∷ z) same, (e, r, x, leads)))
one n d e s r v t behind rest x (inr (prefix, u, more, f, q, same, leads, other)) = inr (t ∷ prefix, u, more, f, q, ap (λ z. t ∷ z) same, (e, r, x, leads), other)

-- nothing is left to be read
ended : (n : ℕ) (d : Expectation) (s : List StackSymbol) (rest : List Token) → IsEnd d rest → Led n d s rest s rest
ended n d s rest ends = inl (d, ends, ([], refl, (refl, refl)))

-- a close after which nothing is left to be read
shut : (n : ℕ) (d : Expectation) (s v : List StackSymbol) (t : Token) (rest : List Token) → step n d s t ≡ reads behind_value v → Led n d s (t ∷ rest) v rest
shut n d s v t rest x = one n d behind_value s v v t rest rest x (ended n behind_value v rest (inl refl))

-- tokens and then those after them
joined : (n : ℕ) (d : Expectation) (s q v : List StackSymbol) (tokens behind rest : List Token) → Led n d s tokens q behind → ((e : Expectation) → IsEnd e behind → Led n e q behind v rest) → Led n d s tokens v rest
joined n d s q v tokens behind rest (inr halts) next = inr halts
joined n d s q v tokens behind rest (inl (e, ends, (prefix, same, leads))) next = both (next e ends)
  where
    both : Led n e q behind v rest → Led n d s tokens v rest
    both (inl (f, ends', (prefix', same', leads'))) =
        inl (f, ends', (prefix ++ prefix', same ∙ (ap (λ z. prefix ++ z) same' ∙ sym (append_assoc prefix prefix' rest)), leads_join n d e f s q v prefix prefix' leads leads'))
    both (inr (prefix', u, more, f, w, same', leads', other)) =
        inr (prefix ++ prefix', u, more, f, w, same ∙ (ap (λ z. prefix ++ z) same' ∙ sym (append_assoc prefix prefix' (u ∷ more))), leads_join n d e f s q w prefix prefix' leads leads', other)

-- a token that is refused
halts : (n : ℕ) (d : Expectation) (s v : List StackSymbol) (t : Token) (more rest : List Token) → IsOther (step n d s t) → Led n d s (t ∷ more) v rest
halts n d s v t more rest other = inr ([], t, more, d, s, refl, (refl, refl), other)

-- the same tokens, written in another way
led_by : (n : ℕ) (d : Expectation) (s v : List StackSymbol) (tokens others rest : List Token) → tokens ≡ others → Led n d s others v rest → Led n d s tokens v rest
led_by n d s v tokens others rest e h = subst (λ z. Led n d s z v rest) (sym e) h

-- ---- items

-- no tree of P begins with the close of the form
abbrev NeverCloses : StackSymbol → Spelling Tree → Type 0
NeverCloses f P = (behind rest : List Token) (a : Tree) → P (close_of f ∷ behind) a rest → ⊥

-- what begins with a value may stand where an item or the close may
item_led : (n : ℕ) (d : Expectation) (f : StackSymbol) (s : List StackSymbol) (P : Spelling Tree) → (d ≡ first_item) ⊎ (d ≡ next_item) → NeverCloses f P → (tokens : List Token) (a : Tree) (rest : List Token) → P tokens a rest →
    Led n value (f ∷ s) tokens (f ∷ s) rest → Led n d (f ∷ s) tokens (f ∷ s) rest
item_led n d f s P at never tokens a rest p (inl (e, ends, ([], same, (x, y)))) = absurd (end_not_value e rest ends x)
item_led n d f s P at never tokens a rest p (inl (e, ends, (t ∷ prefix, same, (d', s', x, leads)))) =
    let apart : closes (f ∷ s) t ≡ true → ⊥ = λ k. never (prefix ++ rest) rest a (subst (λ z. P (z ∷ prefix ++ rest) a rest) (close_token f s t k) (subst (λ z. P z a rest) same p)) in
    inl (e, ends, (t ∷ prefix, same, (d', s', sym (item_step n d (f ∷ s) t at apart) ∙ x, leads)))
item_led n d f s P at never tokens a rest p (inr ([], t, more, e, r, same, (expectations, forms), other)) =
    let apart : closes (f ∷ s) t ≡ true → ⊥ = λ k. never more rest a (subst (λ z. P (z ∷ more) a rest) (close_token f s t k) (subst (λ z. P z a rest) same p)) in
    let there : IsOther (step n value (f ∷ s) t) = subst (λ z. IsOther (step n z (f ∷ s) t)) (sym expectations) (subst (λ z. IsOther (step n e z t)) (sym forms) other) in
    inr ([], t, more, d, f ∷ s, same, (refl, refl), subst IsOther (item_step n d (f ∷ s) t at apart) there)
item_led n d f s P at never tokens a rest p (inr (t ∷ prefix, u, more, e, r, same, (d', s', x, leads), other)) =
    let apart : closes (f ∷ s) t ≡ true → ⊥ = λ k. never (prefix ++ u ∷ more) rest a (subst (λ z. P (z ∷ prefix ++ u ∷ more) a rest) (close_token f s t k) (subst (λ z. P z a rest) same p)) in
    inr (t ∷ prefix, u, more, e, r, same, (d', s', sym (item_step n d (f ∷ s) t at apart) ∙ x, leads), other)

-- the further items of a tuple or a list
further_led : (n : ℕ) (f : StackSymbol) (s : List StackSymbol) (P : Spelling Tree) → HasItems f → NeverCloses f P → AreLoose n (f ∷ s) P → (tokens : List Token) (items : List Tree) (rest : List Token) (d : Expectation) → IsEnd d tokens →
    FurtherItems (close_of f) P tokens items rest → Led n d (f ∷ s) tokens s rest
further_led n f s P i never led tokens [] rest d h (inl e) =
    led_by n d (f ∷ s) s tokens (close_of f ∷ rest) rest e (shut n d (f ∷ s) s (close_of f) rest (end_step n d (f ∷ s) (close_of f) rest (subst (IsEnd d) e h) ∙ close_reads f s))
further_led n f s P i never led tokens [] rest d h (inr e) =
    led_by n d (f ∷ s) s tokens (comma ∷ close_of f ∷ rest) rest e
    (one n d next_item (f ∷ s) (f ∷ s) s comma (close_of f ∷ rest) rest (end_step n d (f ∷ s) comma (close_of f ∷ rest) (subst (IsEnd d) e h) ∙ comma_reads f s i)
    (shut n next_item (f ∷ s) s (close_of f) rest (next_closes n f s i)))
further_led n f s P i never led tokens (a ∷ more) rest d h (prefix, behind, e, p, k) =
    led_by n d (f ∷ s) s tokens (comma ∷ prefix) rest e
    (one n d next_item (f ∷ s) (f ∷ s) s comma prefix rest (end_step n d (f ∷ s) comma prefix (subst (IsEnd d) e h) ∙ comma_reads f s i)
    (joined n next_item (f ∷ s) (f ∷ s) s prefix behind rest (item_led n next_item f s P (inr refl) never prefix a behind p (led prefix a behind p))
    (λ d' h'. further_led n f s P i never led behind more rest d' h' k)))

-- the items of a tuple or a list
items_led : (n : ℕ) (f : StackSymbol) (s : List StackSymbol) (P : Spelling Tree) → HasItems f → NeverCloses f P → AreLoose n (f ∷ s) P → (tokens : List Token) (a : Tree) (more : List Tree) (rest : List Token) → Items (close_of f) P tokens (a ∷ more) rest →
    Led n first_item (f ∷ s) tokens s rest
items_led n f s P i never led tokens a more rest (behind, p, k) =
    joined n first_item (f ∷ s) (f ∷ s) s tokens behind rest (item_led n first_item f s P (inl refl) never tokens a behind p (led tokens a behind p)) (λ d' h'. further_led n f s P i never led behind more rest d' h' k)

-- ---- payloads and labels

-- a payload in its parentheses
parens_led : (n : ℕ) (s : List StackSymbol) (P : Spelling Tree) → AreLoose n (expectation.payload ∷ s) P → (d : Expectation) → step n d s paren_open ≡ reads value (expectation.payload ∷ s) → (tokens : List Token) (t : Tree) (rest : List Token) → InParens P tokens t rest →
    Led n d s tokens s rest
parens_led n s P led d x tokens t rest (prefix, e, p) =
    led_by n d s s tokens (paren_open ∷ prefix) rest e (one n d value s (expectation.payload ∷ s) s paren_open prefix rest x
    (joined n value (expectation.payload ∷ s) (expectation.payload ∷ s) s prefix (paren_close ∷ rest) rest (led prefix t (paren_close ∷ rest) p)
    (λ d' h'. shut n d' (expectation.payload ∷ s) s paren_close rest (end_step n d' (expectation.payload ∷ s) paren_close rest h'))))

-- a payload, or none
maybe_led : (n : ℕ) (s : List StackSymbol) (P : Spelling Tree) → AreLoose n (expectation.payload ∷ s) P → (tokens : List Token) (t : tree.MaybeTree) (rest : List Token) → MaybeInParens P tokens t rest → Led n behind_label s tokens s rest
maybe_led n s P led tokens t rest (inl (e, apart, f)) = led_by n behind_label s s tokens rest rest e (ended n behind_label s rest (inr (refl, apart)))
maybe_led n s P led tokens t rest (inr (u, p, f)) = parens_led n s P led behind_label refl tokens u rest p

-- what stands after a label
word_led : (n : ℕ) (s : List StackSymbol) (P : Spelling Tree) → AreLoose n (expectation.payload ∷ s) P → (w : Word) (text : List ℕ) (tokens : List Token) (t : Tree) (rest : List Token) → BehindWord w text P tokens t rest → Led n (expectation.expected_behind w) s tokens s rest
word_led n s P led leaf_word text tokens t rest (e, f) = led_by n behind_value s s tokens rest rest e (ended n behind_value s rest (inl refl))
word_led n s P led none_word text tokens t rest (e, f) = led_by n behind_value s s tokens rest rest e (ended n behind_value s rest (inl refl))
word_led n s P led some_word text tokens t rest (u, p, f) = parens_led n s P led expectation.paren refl tokens u rest p
word_led n s P led ok_word text tokens t rest (u, p, f) = maybe_led n s P led tokens u rest p
word_led n s P led err_word text tokens t rest (u, p, f) = maybe_led n s P led tokens u rest p
word_led n s P led case_word text tokens t rest (u, p, f) = maybe_led n s P led tokens u rest p

-- ---- entries

-- the first key in braces, and its colon
first_key : (n : ℕ) (s v : List StackSymbol) (t : Token) (prefix rest : List Token) → IsKey t → Led n value (expectation.entries ∷ s) prefix v rest → Led n expectation.in_braces s (t ∷ colon ∷ prefix) v rest
first_key n s v (label text) prefix rest h led =
    one n expectation.in_braces (expectation.behind_word text) s s v (label text) (colon ∷ prefix) rest refl (one n (expectation.behind_word text) value s (expectation.entries ∷ s) v colon prefix rest refl led)
first_key n s v (number text) prefix rest h led = one n expectation.in_braces expectation.behind_key s s v (number text) (colon ∷ prefix) rest refl (one n expectation.behind_key value s (expectation.entries ∷ s) v colon prefix rest refl led)
first_key n s v (char text) prefix rest h led = one n expectation.in_braces expectation.behind_key s s v (char text) (colon ∷ prefix) rest refl (one n expectation.behind_key value s (expectation.entries ∷ s) v colon prefix rest refl led)
first_key n s v (string text) prefix rest h led = one n expectation.in_braces expectation.behind_key s s v (string text) (colon ∷ prefix) rest refl (one n expectation.behind_key value s (expectation.entries ∷ s) v colon prefix rest refl led)
first_key n s v (multiline text) prefix rest h led = one n expectation.in_braces expectation.behind_key s s v (multiline text) (colon ∷ prefix) rest refl (one n expectation.behind_key value s (expectation.entries ∷ s) v colon prefix rest refl led)
first_key n s v t prefix rest h led = absurd h

-- the further entries
entries_further : (n : ℕ) (s : List StackSymbol) (P : Spelling Tree) → AreLoose n (expectation.entries ∷ s) P → (tokens : List Token) (es : List (Token × Tree)) (rest : List Token) (d : Expectation) → IsEnd d tokens → FurtherItems brace_close (KeyAnd P) tokens es rest →
    Led n d (expectation.entries ∷ s) tokens s rest
entries_further n s P led tokens [] rest d h (inl e) =
    led_by n d (expectation.entries ∷ s) s tokens (brace_close ∷ rest) rest e (shut n d (expectation.entries ∷ s) s brace_close rest (end_step n d (expectation.entries ∷ s) brace_close rest (subst (IsEnd d) e h)))
entries_further n s P led tokens [] rest d h (inr e) =
    led_by n d (expectation.entries ∷ s) s tokens (comma ∷ brace_close ∷ rest) rest e
    (one n d expectation.key (expectation.entries ∷ s) s s comma (brace_close ∷ rest) rest (end_step n d (expectation.entries ∷ s) comma (brace_close ∷ rest) (subst (IsEnd d) e h)) (shut n expectation.key s s brace_close rest refl))
entries_further n s P led tokens (a ∷ more) rest d h (prefix, behind, e, (inside, f, k, p), g) =
    let same : tokens ≡ comma ∷ a.0 ∷ colon ∷ inside = e ∙ ap (λ z. comma ∷ z) f in
    led_by n d (expectation.entries ∷ s) s tokens (comma ∷ a.0 ∷ colon ∷ inside) rest same
    (one n d expectation.key (expectation.entries ∷ s) s s comma (a.0 ∷ colon ∷ inside) rest (end_step n d (expectation.entries ∷ s) comma (a.0 ∷ colon ∷ inside) (subst (IsEnd d) same h))
    (one n expectation.key expectation.behind_key s s s a.0 (colon ∷ inside) rest (key_there n s a.0 k)
    (one n expectation.behind_key value s (expectation.entries ∷ s) s colon inside rest refl
    (joined n value (expectation.entries ∷ s) (expectation.entries ∷ s) s inside behind rest (led inside a.1 behind p) (λ d' h'. entries_further n s P led behind more rest d' h' g)))))

-- the entries of braces
entries_led : (n : ℕ) (s : List StackSymbol) (P : Spelling Tree) → AreLoose n (expectation.entries ∷ s) P → (tokens : List Token) (es : List (Token × Tree)) (rest : List Token) → 0 < length es → Items brace_close (KeyAnd P) tokens es rest → Led n expectation.in_braces s tokens s rest
entries_led n s P led tokens [] rest l h = absurd (omega arith)
entries_led n s P led tokens (a ∷ more) rest l (behind, (inside, f, k, p), g) =
    led_by n expectation.in_braces s s tokens (a.0 ∷ colon ∷ inside) rest f (first_key n s s a.0 inside rest k
    (joined n value (expectation.entries ∷ s) (expectation.entries ∷ s) s inside behind rest (led inside a.1 behind p) (λ d' h'. entries_further n s P led behind more rest d' h' g)))

-- ---- flags

-- a flag, which may be repeated
flag_led : (n : ℕ) (s v : List StackSymbol) (names : List (List ℕ)) (x : List ℕ) (behind rest : List Token) → Led n (expectation.behind_flag (names ++ name_of x ∷ [])) s behind v rest → Led n (expectation.flag names) s (label x ∷ behind) v rest
flag_led n s v names x behind rest led = which (is_one_of names (name_of x)) refl
  where
    which : (b : Bool) → is_one_of names (name_of x) ≡ b → Led n (expectation.flag names) s (label x ∷ behind) v rest
    which true k = halts n (expectation.flag names) s v (label x) behind rest (subst (λ b. IsOther (if b then repeated_flag else reads (expectation.behind_flag (names ++ name_of x ∷ [])) s)) (sym k) tt)
    which false k =
        one n (expectation.flag names) (expectation.behind_flag (names ++ name_of x ∷ [])) s s v (label x) behind rest (ap (λ b. if b then repeated_flag else reads (expectation.behind_flag (names ++ name_of x ∷ [])) s) k) led

-- the further flags
flags_further : (n : ℕ) (s : List StackSymbol) (names : List (List ℕ)) (tokens : List Token) (texts : List (List ℕ)) (rest : List Token) → FurtherItems brace_close Label tokens texts rest → Led n (expectation.behind_flag names) s tokens s rest
flags_further n s names tokens [] rest (inl e) = led_by n (expectation.behind_flag names) s s tokens (brace_close ∷ rest) rest e (shut n (expectation.behind_flag names) s s brace_close rest refl)
flags_further n s names tokens [] rest (inr e) =
    led_by n (expectation.behind_flag names) s s tokens (comma ∷ brace_close ∷ rest) rest e (one n (expectation.behind_flag names) (expectation.flag names) s s s comma (brace_close ∷ rest) rest refl (shut n (expectation.flag names) s s brace_close rest refl))
flags_further n s names tokens (x ∷ more) rest (prefix, behind, e, f, k) =
    led_by n (expectation.behind_flag names) s s tokens (comma ∷ label x ∷ behind) rest (e ∙ ap (λ z. comma ∷ z) f)
    (one n (expectation.behind_flag names) (expectation.flag names) s s s comma (label x ∷ behind) rest refl (flag_led n s s names x behind rest (flags_further n s (names ++ name_of x ∷ []) behind more rest k)))

-- after the first flag a colon would make it a key
word_further : (n : ℕ) (s : List StackSymbol) (text : List ℕ) (tokens : List Token) (texts : List (List ℕ)) (rest : List Token) → FurtherItems brace_close Label tokens texts rest → Led n (expectation.behind_word text) s tokens s rest
word_further n s text tokens [] rest (inl e) = led_by n (expectation.behind_word text) s s tokens (brace_close ∷ rest) rest e (shut n (expectation.behind_word text) s s brace_close rest refl)
word_further n s text tokens [] rest (inr e) =
    led_by n (expectation.behind_word text) s s tokens (comma ∷ brace_close ∷ rest) rest e
    (one n (expectation.behind_word text) (expectation.flag (name_of text ∷ [])) s s s comma (brace_close ∷ rest) rest refl (shut n (expectation.flag (name_of text ∷ [])) s s brace_close rest refl))
word_further n s text tokens (x ∷ more) rest (prefix, behind, e, f, k) =
    led_by n (expectation.behind_word text) s s tokens (comma ∷ label x ∷ behind) rest (e ∙ ap (λ z. comma ∷ z) f)
    (one n (expectation.behind_word text) (expectation.flag (name_of text ∷ [])) s s s comma (label x ∷ behind) rest refl
    (flag_led n s s (name_of text ∷ []) x behind rest (flags_further n s (name_of text ∷ name_of x ∷ []) behind more rest k)))

-- the flags of braces
flags_led : (n : ℕ) (s : List StackSymbol) (tokens : List Token) (texts : List (List ℕ)) (rest : List Token) → 0 < length texts → Items brace_close Label tokens texts rest → Led n expectation.in_braces s tokens s rest
flags_led n s tokens [] rest l h = absurd (omega arith)
flags_led n s tokens (x ∷ more) rest l (behind, f, k) =
    led_by n expectation.in_braces s s tokens (label x ∷ behind) rest f (one n expectation.in_braces (expectation.behind_word x) s s s (label x) behind rest refl (word_further n s x behind more rest k))

-- ---- all trees

-- where a value is expected a token is read as one, or is too deep
begins : (n : ℕ) (d : Expectation) (s r v : List StackSymbol) (t : Token) (behind rest : List Token) → value_step s t ≡ reads d r → Led n d r behind v rest → Led n value s (t ∷ behind) v rest
begins n d s r v t behind rest x led = which (nat_lt (length s) n) refl
  where
    which : (b : Bool) → nat_lt (length s) n ≡ b → Led n value s (t ∷ behind) v rest
    which true k = one n value d s r v t behind rest (ap (λ b. if b then value_step s t else too_deep) k ∙ x) led
    which false k = halts n value s v t behind rest (subst (λ b. IsOther (if b then value_step s t else too_deep)) (sym k) tt)

-- what stands in braces
braces_led : (n : ℕ) (s : List StackSymbol) (P : Spelling Tree) → AreLoose n (expectation.entries ∷ s) P → (prefix : List Token) (t : Tree) (rest : List Token) → InBraces P prefix t rest → Led n expectation.in_braces s prefix s rest
braces_led n s P led prefix t rest (inl (e, f)) = led_by n expectation.in_braces s s prefix (brace_close ∷ rest) rest e (shut n expectation.in_braces s s brace_close rest refl)
braces_led n s P led prefix t rest (inr (inl (e, f))) =
    led_by n expectation.in_braces s s prefix (colon ∷ brace_close ∷ rest) rest e (one n expectation.in_braces expectation.no_fields s s s colon (brace_close ∷ rest) rest refl (shut n expectation.no_fields s s brace_close rest refl))
braces_led n s P led prefix t rest (inr (inr (inl (es, k, h, f)))) = entries_led n s P led prefix es rest k h
braces_led n s P led prefix t rest (inr (inr (inr (texts, k, h, d, f)))) = flags_led n s prefix texts rest k h

-- a token that is a value
leaf_led : (n : ℕ) (s : List StackSymbol) (t : Token) (behind rest : List Token) → value_step s t ≡ reads behind_value s → behind ≡ rest → Led n value s (t ∷ behind) s rest
leaf_led n s t behind rest x e = begins n behind_value s s s t behind rest x (led_by n behind_value s s behind rest rest e (ended n behind_value s rest (inl refl)))

-- a tree, where the trees in it are led to
tree_led : (n : ℕ) (s : List StackSymbol) (P : Spelling Tree) → ((f : StackSymbol) → HasItems f → NeverCloses f P) → ((f : StackSymbol) → AreLoose n (f ∷ s) P) → AreLoose n s (ATree P)
tree_led n s P never led [] t rest h = absurd h
tree_led n s P never led (paren_open ∷ prefix) t rest ([], some, h, e) = absurd (omega arith)
tree_led n s P never led (paren_open ∷ prefix) t rest (a ∷ more, some, h, e) =
    begins n first_item s (expectation.tuple ∷ s) s paren_open prefix rest refl (items_led n expectation.tuple s P tt (never expectation.tuple tt) (led expectation.tuple) prefix a more rest h)
tree_led n s P never led (bracket_open ∷ prefix) t rest ([], h, e) =
    begins n first_item s (expectation.list ∷ s) s bracket_open prefix rest refl (led_by n first_item (expectation.list ∷ s) s prefix (bracket_close ∷ rest) rest h (shut n first_item (expectation.list ∷ s) s bracket_close rest refl))
tree_led n s P never led (bracket_open ∷ prefix) t rest (a ∷ more, h, e) =
    begins n first_item s (expectation.list ∷ s) s bracket_open prefix rest refl (items_led n expectation.list s P tt (never expectation.list tt) (led expectation.list) prefix a more rest h)
tree_led n s P never led (brace_open ∷ prefix) t rest h = begins n expectation.in_braces s s s brace_open prefix rest refl (braces_led n s P (led expectation.entries) prefix t rest h)
tree_led n s P never led (label text ∷ behind) t rest h =
    begins n (expectation.expected_behind (word_of text)) s s s (label text) behind rest refl (word_led n s P (led expectation.payload) (word_of text) text behind t rest h)
tree_led n s P never led (number text ∷ behind) t rest (e, f) = leaf_led n s (number text) behind rest refl e
tree_led n s P never led (char text ∷ behind) t rest (e, f) = leaf_led n s (char text) behind rest refl e
tree_led n s P never led (string text ∷ behind) t rest (e, f) = leaf_led n s (string text) behind rest refl e
tree_led n s P never led (multiline text ∷ behind) t rest (e, f) = leaf_led n s (multiline text) behind rest refl e
tree_led n s P never led (token ∷ behind) t rest h = absurd h

-- the same for what may be an empty tuple or repeat its flags
loose_led : (n : ℕ) (s : List StackSymbol) (P : Spelling Tree) → ((f : StackSymbol) → HasItems f → NeverCloses f P) → ((f : StackSymbol) → AreLoose n (f ∷ s) P) → AreLoose n s (ALooseTree P)
loose_led n s P never led tokens t rest (inl h) = tree_led n s P never led tokens t rest h
loose_led n s P never led tokens t rest (inr (inl (e, f))) =
    led_by n value s s tokens (paren_open ∷ paren_close ∷ rest) rest e (begins n first_item s (expectation.tuple ∷ s) s paren_open (paren_close ∷ rest) rest refl (halts n first_item (expectation.tuple ∷ s) s paren_close rest rest tt))
loose_led n s P never led tokens t rest (inr (inr (prefix, texts, some, e, h, f))) =
    led_by n value s s tokens (brace_open ∷ prefix) rest e (begins n expectation.in_braces s s s brace_open prefix rest refl (flags_led n s prefix texts rest some h))

-- no such tree begins with a close
loose_never : (k : ℕ) (f : StackSymbol) → HasItems f → NeverCloses f (TakesLoosely k)
loose_never zero f i behind rest a h = absurd h
loose_never (suc k) expectation.tuple i behind rest a (inl h) = absurd h
loose_never (suc k) expectation.tuple i behind rest a (inr (inl (e, g))) = cc
loose_never (suc k) expectation.tuple i behind rest a (inr (inr (prefix, texts, some, e, h, g))) = cc
loose_never (suc k) expectation.list i behind rest a (inl h) = absurd h
loose_never (suc k) expectation.list i behind rest a (inr (inl (e, g))) = cc
loose_never (suc k) expectation.list i behind rest a (inr (inr (prefix, texts, some, e, h, g))) = cc
loose_never (suc k) f i behind rest a h = absurd i

-- each such tree is led to, or to its fault
loosely_led : (k n : ℕ) (s : List StackSymbol) → AreLoose n s (TakesLoosely k)
loosely_led zero n s tokens t rest h = absurd h
loosely_led (suc k) n s tokens t rest h = loose_led n s (TakesLoosely k) (loose_never k) (λ f. loosely_led k n (f ∷ s)) tokens t rest h

-- no token is unexpected and refused for another fault, nor read after a refusal
one_refusal : (n : ℕ) (d e f : Expectation) (s r q : List StackSymbol) (prefix others : List Token) (t u : Token) (more rest : List Token) → Shifts n d s prefix e r → step n e r t ≡ unexpected → Shifts n d s others f q → IsOther (step n f q u) →
    prefix ++ t ∷ more ≡ others ++ u ∷ rest → ⊥
one_refusal n d e f s r q [] [] t u more rest (a, b) x (c, g) other same =
    let tokens : u ≡ t = cc in
    let there : step n f q u ≡ unexpected = ap (step n f q) tokens ∙ (ap (λ z. step n z q t) (sym c ∙ a) ∙ (ap (λ z. step n e z t) (sym g ∙ b) ∙ x)) in
    subst IsOther there other
one_refusal n d e f s r q [] (u' ∷ others) t u more rest (a, b) x (d', s', y, leads) other same =
    let tokens : t ≡ u' = cc in
    let there : unexpected ≡ reads d' s' = sym x ∙ (ap (step n e r) tokens ∙ (ap (λ z. step n z r u') (sym a) ∙ (ap (λ z. step n d z u') (sym b) ∙ y))) in
    cc
one_refusal n d e f s r q (t' ∷ prefix) [] t u more rest (d', s', y, leads) x (c, g) other same =
    let tokens : u ≡ t' = cc in
    let there : step n f q u ≡ reads d' s' = ap (step n f q) tokens ∙ (ap (λ z. step n z q t') (sym c) ∙ (ap (λ z. step n d z t') (sym g) ∙ y)) in
    subst IsOther there other
one_refusal n d e f s r q (t' ∷ prefix) (u' ∷ others) t u more rest (d', s', y, leads) x (d'', s'', y', leads') other same =
    let tokens : u' ≡ t' = cc in
    let behind : prefix ++ t ∷ more ≡ others ++ u ∷ rest = cc in
    let steps : reads d'' s'' ≡ reads d' s' = sym y' ∙ (ap (step n d s) tokens ∙ y) in
    let expectations : d'' ≡ d' = cc in
    let forms : s'' ≡ s' = cc in
    one_refusal n d' e f s' r q prefix others t u more rest leads x (subst (λ z. Shifts n d' z others f q) forms (subst (λ z. Shifts n z s'' others f q) expectations leads')) other behind

-- with an unexpected token no such tree begins
pub unexpected_begin_none : UnexpectedTokensBeginNone
unexpected_begin_none n prefix d s t led x m more u h = which (loosely_led m n [] (prefix ++ t ∷ more) u [] h)
  where
    which : Led n value [] (prefix ++ t ∷ more) [] [] → ⊥
    which (inl (e, ends, (whole, same, leads))) =
        let all : Shifts n value [] (prefix ++ t ∷ more) e [] = subst (λ z. Shifts n value [] z e []) (sym (same ∙ append-nil whole)) leads in
        let (f, q, one_prefix, (d', s', y, others)) = leads_split n value e [] [] prefix (t ∷ more) all in
        let (expectations, forms) = leads_one n value f d [] q s prefix one_prefix led in
        let there : unexpected ≡ reads d' s' = sym x ∙ (ap (λ z. step n z s t) (sym expectations) ∙ (ap (λ z. step n f z t) (sym forms) ∙ y)) in
        cc
    which (inr (others, v, rest, f, q, same, leads, other)) = one_refusal n value d f [] s q prefix others t v more rest led x leads other same
