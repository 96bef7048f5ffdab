-- Tokens that lead from where a value is expected to its end are those of a tree.
use Rattle.std.proofs.Common.{ℕ, zero, suc, ◌≡◌, ◌≢◌, ◌<◌, ◌≤◌, ◌+◌, inl, inr, List, [], ◌∷◌, ◌++◌, length, Bool, true, false, refl, sym, ap, subst, ◌∙◌, arith}
use Rattle.std.specs.Prelude.{◌⊎◌, nat_lt, if◌then◌else◌, map}
use Rattle.std.specs.Str.{bytes_eq}
use Rattle.std.proofs.lemmas.Slice.Eq.{bytes_eq-Decides}
use Rattle.std.proofs.lemmas.Bool.{or_parts}
use Rattle.wave_wasm.specs.Names.{AreDistinct, IsOneOf, IsNoneOf, is_one_of}
use Rattle.wave_grammar.specs.Token.{Token, brace_open, brace_close, paren_open, paren_close, bracket_open, bracket_close, colon, comma, number, label, char, string, multiline}
use Rattle.wave_grammar.specs.CommaSeparated.{Spelling, FurtherItems, Items}
use Rattle.wave_grammar.specs.LeafTokens.{name_of}
use Rattle.wave_grammar.specs.TypedGrammar.{InParens}
use Rattle.wave_grammar.specs.Tree as tree
use Rattle.wave_grammar.specs.Tree.{Tree, MaybeTree, trees, tree_entries, in_order, ATree, Takes, KeyAnd, Label, MaybeInParens, InBraces, BehindWord, IsKey, Word, word_of, leaf_word, none_word, some_word, ok_word, err_word, case_word}
use Rattle.wave_grammar.specs.PrefixLaws.{EndsBefore, AcceptedTokensHaveATree}
use Rattle.wave_grammar.specs.PrefixAutomaton as expectation
use Rattle.wave_grammar.specs.PrefixAutomaton.{Expectation, StackSymbol, value, first_item, next_item, behind_value, behind_label, Step, too_deep, unexpected, reads, step, Shifts, closes, level_step, value_step, behind_step, key_step, behind_flag_step, flag_step}
use Rattle.wave_grammar.proofs.Automaton.Sound.{IsEnd, end_step, item_step, HasItems, close_of, close_token, next_closes, on_level, AllNew}

-- what is expected where these forms are open, where the same token leads
after : (n : ℕ) (x : Step) (d f e : Expectation) (s q r : List StackSymbol) (ts : List Token) → x ≡ reads d s → x ≡ reads f q → Shifts n f q ts e r → Shifts n d s ts e r
after n x d f e s q r ts h k leads =
    let same : reads f q ≡ reads d s = sym k ∙ h in
    let forms : q ≡ s = cc in
    let expectations : f ≡ d = cc in
    subst (λ z. Shifts n d z ts e r) forms (subst (λ z. Shifts n z q ts e r) expectations leads)

-- more is expected of a value, or a form is open
abbrev IsWithin : Expectation → Type 0
IsWithin behind_value = ⊥
IsWithin behind_label = ⊥
IsWithin _ = Unit {0}

-- where more is expected no tree has ended
not_end : (d e : Expectation) (x : List Token) → IsWithin d → IsEnd e x → d ≡ e → ⊥
not_end d e x w (inl k) h = subst IsWithin (h ∙ k) w
not_end d e x w (inr (k, apart)) h = subst IsWithin (h ∙ k) w

-- P takes a prefix of ts, before x, and what is left leads on from after it
abbrev pub IsTaken : {A : Type 0} → ℕ → List StackSymbol → Spelling A → List Token → List Token → Expectation → Type 0
IsTaken {A} n s P ts x e = (a : A) × (d : Expectation) × (rest : List Token) × P (ts ++ x) a (rest ++ x) × IsEnd d (rest ++ x) × Shifts n d s rest e [] × (length rest < length ts)

-- the same for what ends with a close
abbrev pub IsClosed : {A : Type 0} → ℕ → List StackSymbol → Spelling A → List Token → List Token → Expectation → Type 0
IsClosed {A} n s P ts x e = (a : A) × (rest : List Token) × P (ts ++ x) a (rest ++ x) × Shifts n behind_value s rest e [] × (length rest < length ts)

-- P takes a prefix of all tokens that lead from where a value is expected within s to the end of all
abbrev pub AreTaken : ℕ → List StackSymbol → Spelling Tree → Type 0
AreTaken n s P = (ts x : List Token) (e : Expectation) → IsEnd e x → Shifts n value s ts e [] → IsTaken n s P ts x e

-- ---- what a token that is read may be

-- a comma after a value
abbrev after_comma : StackSymbol → List StackSymbol → Step
after_comma expectation.tuple s = reads next_item (expectation.tuple ∷ s)
after_comma expectation.list s = reads next_item (expectation.list ∷ s)
after_comma expectation.payload s = unexpected
after_comma expectation.entries s = reads expectation.key s

-- after a value within a form stands its close or a comma
behind_reads : (f : StackSymbol) (s : List StackSymbol) (t : Token) (d : Expectation) (r : List StackSymbol) → behind_step (f ∷ s) t ≡ reads d r → (t ≡ close_of f) × (reads behind_value s ≡ reads d r) ⊎ (t ≡ comma) × (after_comma f s ≡ reads d r)
behind_reads expectation.tuple s comma d r h = inr (refl, h)
behind_reads expectation.tuple s paren_close d r h = inl (refl, h)
behind_reads expectation.list s comma d r h = inr (refl, h)
behind_reads expectation.list s bracket_close d r h = inl (refl, h)
behind_reads expectation.payload s paren_close d r h = inl (refl, h)
behind_reads expectation.entries s comma d r h = inr (refl, h)
behind_reads expectation.entries s brace_close d r h = inl (refl, h)
behind_reads f s t d r h = let k : unexpected ≡ reads d r = h in cc

-- after an item and a comma a further item is expected
comma_items : (f : StackSymbol) (s : List StackSymbol) → HasItems f → after_comma f s ≡ reads next_item (f ∷ s)
comma_items expectation.tuple s i = refl
comma_items expectation.list s i = refl
comma_items f s i = absurd i

-- a key or the close of its braces
key_reads : (s : List StackSymbol) (t : Token) (d : Expectation) (r : List StackSymbol) → key_step s t ≡ reads d r → (t ≡ brace_close) × (reads behind_value s ≡ reads d r) ⊎ IsKey t × (reads expectation.behind_key s ≡ reads d r)
key_reads s brace_close d r h = inl (refl, h)
key_reads s (number text) d r h = inr (tt, h)
key_reads s (label text) d r h = inr (tt, h)
key_reads s (char text) d r h = inr (tt, h)
key_reads s (string text) d r h = inr (tt, h)
key_reads s (multiline text) d r h = inr (tt, h)
key_reads s t d r h = let k : unexpected ≡ reads d r = h in cc

-- the colon of a key
colon_reads : (n : ℕ) (s : List StackSymbol) (t : Token) (d : Expectation) (r : List StackSymbol) → step n expectation.behind_key s t ≡ reads d r → (t ≡ colon) × (reads value (expectation.entries ∷ s) ≡ reads d r)
colon_reads n s colon d r h = (refl, h)
colon_reads n s t d r h = let k : unexpected ≡ reads d r = h in cc

-- the close of `{:`
brace_reads : (n : ℕ) (s : List StackSymbol) (t : Token) (d : Expectation) (r : List StackSymbol) → step n expectation.no_fields s t ≡ reads d r → (t ≡ brace_close) × (reads behind_value s ≡ reads d r)
brace_reads n s brace_close d r h = (refl, h)
brace_reads n s t d r h = let k : unexpected ≡ reads d r = h in cc

-- the open parenthesis of a payload
paren_reads : (n : ℕ) (s : List StackSymbol) (t : Token) (d : Expectation) (r : List StackSymbol) → step n expectation.paren s t ≡ reads d r → (t ≡ paren_open) × (reads value (expectation.payload ∷ s) ≡ reads d r)
paren_reads n s paren_open d r h = (refl, h)
paren_reads n s t d r h = let k : unexpected ≡ reads d r = h in cc

-- a comma or the close after a flag
behind_flag_reads : (names : List (List ℕ)) (s : List StackSymbol) (t : Token) (d : Expectation) (r : List StackSymbol) → behind_flag_step names s t ≡ reads d r →
    (t ≡ brace_close) × (reads behind_value s ≡ reads d r) ⊎ (t ≡ comma) × (reads (expectation.flag names) s ≡ reads d r)
behind_flag_reads names s brace_close d r h = inl (refl, h)
behind_flag_reads names s comma d r h = inr (refl, h)
behind_flag_reads names s t d r h = let k : unexpected ≡ reads d r = h in cc

-- a test that did not refuse has failed
passed : (b : Bool) (x y : Step) (d : Expectation) (r : List StackSymbol) → (x ≡ reads d r → ⊥) → if b then x else y ≡ reads d r → (b ≡ false) × (y ≡ reads d r)
passed true x y d r apart h = absurd (apart h)
passed false x y d r apart h = (refl, h)

-- a new flag or the close
flag_reads : (names : List (List ℕ)) (s : List StackSymbol) (t : Token) (d : Expectation) (r : List StackSymbol) → flag_step names s t ≡ reads d r →
    (t ≡ brace_close) × (reads behind_value s ≡ reads d r) ⊎ ((text : List ℕ) × (t ≡ label text) × (is_one_of names (name_of text) ≡ false) × (reads (expectation.behind_flag (names ++ name_of text ∷ [])) s ≡ reads d r))
flag_reads names s brace_close d r h = inl (refl, h)
flag_reads names s (label text) d r h = let (a, b) = passed (is_one_of names (name_of text)) expectation.repeated_flag _ d r (λ k. cc) h in inr (text, refl, a, b)
flag_reads names s t d r h = let k : unexpected ≡ reads d r = h in cc

-- the close or an item, where an item is expected
item_or_close : (n : ℕ) (d : Expectation) (f : StackSymbol) (s : List StackSymbol) (t : Token) (e : Expectation) (r : List StackSymbol) → (d ≡ first_item) ⊎ (d ≡ next_item) → step n d (f ∷ s) t ≡ reads e r → (t ≡ close_of f) ⊎ (step n value (f ∷ s) t ≡ reads e r)
item_or_close n d f s t e r at h = which (closes (f ∷ s) t) refl
  where
    which : (b : Bool) → closes (f ∷ s) t ≡ b → (t ≡ close_of f) ⊎ (step n value (f ∷ s) t ≡ reads e r)
    which true k = inl (close_token f s t k)
    which false k = inr (item_step n d (f ∷ s) t at (λ z. let w : false ≡ true = sym k ∙ z in cc) ∙ h)

-- ---- items of a tuple or a list

-- up to m tokens after an item are further items and a close
abbrev TakesFurther : ℕ → ℕ → StackSymbol → List StackSymbol → Spelling Tree → List Token → Expectation → Type 0
TakesFurther m n f s P x e = (ts : List Token) (d : Expectation) → length ts ≤ m → IsEnd d (ts ++ x) → Shifts n d (f ∷ s) ts e [] → IsClosed n s (FurtherItems (close_of f) P) ts x e

-- the items after a comma, or the close
next_taken : (m n : ℕ) (f : StackSymbol) (s : List StackSymbol) (P : Spelling Tree) (x : List Token) (e : Expectation) → HasItems f → IsEnd e x → AreTaken n (f ∷ s) P → TakesFurther m n f s P x e →
    (us : List Token) → length us ≤ m → Shifts n next_item (f ∷ s) us e [] → IsClosed n s (FurtherItems (close_of f) P) (comma ∷ us) x e
next_taken m n f s P x e i end taken further [] l (same, no_forms) = cc
next_taken m n f s P x e i end taken further (u ∷ us) l (d, r, h, more) = which (item_or_close n next_item f s u d r (inr refl) h)
  where
    which : (u ≡ close_of f) ⊎ (step n value (f ∷ s) u ≡ reads d r) → IsClosed n s (FurtherItems (close_of f) P) (comma ∷ u ∷ us) x e
    which (inl same) =
        ([], us, inr (ap (λ z. comma ∷ z ∷ us ++ x) same), after n _ behind_value d e s r [] us (next_closes n f s i) (subst (λ z. step n next_item (f ∷ s) z ≡ reads d r) same h) more, omega arith)
    which (inr same) =
        let (a, b, rest, p, ends, on, less) = taken (u ∷ us) x e end (d, r, same, more) in
        let (items, rest', q, on', less') = further rest b (omega arith) ends on in
        (a ∷ items, rest', (u ∷ us ++ x, rest ++ x, refl, p, q), on', omega arith)

-- the further items of a tuple or a list
further_taken : (m n : ℕ) (f : StackSymbol) (s : List StackSymbol) (P : Spelling Tree) (x : List Token) (e : Expectation) → HasItems f → IsEnd e x → AreTaken n (f ∷ s) P → TakesFurther m n f s P x e
further_taken m n f s P x e i end taken [] d l start (same, no_forms) = cc
further_taken zero n f s P x e i end taken (t ∷ ts) d l start leads = absurd (omega arith)
further_taken (suc m) n f s P x e i end taken (t ∷ ts) d l start (d', s', h, leads) =
    which (next_taken m n f s P x e i end taken (further_taken m n f s P x e i end taken) ts (omega arith)) (behind_reads f s t d' s' (sym (end_step n d (f ∷ s) t (ts ++ x) start) ∙ h))
  where
    which : (Shifts n next_item (f ∷ s) ts e [] → IsClosed n s (FurtherItems (close_of f) P) (comma ∷ ts) x e) →
        (t ≡ close_of f) × (reads behind_value s ≡ reads d' s') ⊎ (t ≡ comma) × (after_comma f s ≡ reads d' s') → IsClosed n s (FurtherItems (close_of f) P) (t ∷ ts) x e
    which next (inl (same, k)) = ([], ts, inl (ap (λ z. z ∷ ts ++ x) same), after n _ behind_value d' e s s' [] ts refl k leads, omega arith)
    which next (inr (same, k)) = subst (λ z. IsClosed n s (FurtherItems (close_of f) P) (z ∷ ts) x e) (sym same) (next (after n _ next_item d' e (f ∷ s) s' [] ts (comma_items f s i) k leads))

-- only a list may close before its first item
first_closes : (n : ℕ) (f : StackSymbol) (s : List StackSymbol) (d : Expectation) (r : List StackSymbol) → HasItems f → step n first_item (f ∷ s) (close_of f) ≡ reads d r → (f ≡ expectation.list) × (reads behind_value s ≡ reads d r)
first_closes n expectation.tuple s d r i h = let k : expectation.empty_tuple ≡ reads d r = h in cc
first_closes n expectation.list s d r i h = (refl, h)
first_closes n f s d r i h = absurd i

-- the items and the close, at least one item in a tuple
abbrev ItemsOf : StackSymbol → Spelling Tree → Spelling (List Tree)
ItemsOf f P tokens items rest = (f ≡ expectation.tuple → 0 < length items) × Items (close_of f) P tokens items rest

-- the items of a tuple or a list
items_taken : (n : ℕ) (f : StackSymbol) (s : List StackSymbol) (P : Spelling Tree) (x : List Token) (e : Expectation) → HasItems f → IsEnd e x → AreTaken n (f ∷ s) P → (ts : List Token) → Shifts n first_item (f ∷ s) ts e [] → IsClosed n s (ItemsOf f P) ts x e
items_taken n f s P x e i end taken [] (same, no_forms) = cc
items_taken n f s P x e i end taken (u ∷ us) (d, r, h, more) = which (item_or_close n first_item f s u d r (inl refl) h)
  where
    which : (u ≡ close_of f) ⊎ (step n value (f ∷ s) u ≡ reads d r) → IsClosed n s (ItemsOf f P) (u ∷ us) x e
    which (inl same) =
        let (a_list, k) = first_closes n f s d r i (subst (λ z. step n first_item (f ∷ s) z ≡ reads d r) same h) in
        ([], us, (λ z. let w : expectation.tuple ≡ expectation.list = sym z ∙ a_list in cc, ap (λ z. z ∷ us ++ x) same), after n _ behind_value d e s r [] us refl k more, omega arith)
    which (inr same) =
        let (a, b, rest, p, ends, on, less) = taken (u ∷ us) x e end (d, r, same, more) in
        let (items, rest', q, on', less') = further_taken (length rest) n f s P x e i end taken rest b (omega arith) ends on in
        (a ∷ items, rest', (λ z. omega arith, (rest ++ x, p, q)), on', omega arith)

-- ---- entries

-- a colon, and a value within its entry
colon_taken : (n : ℕ) (s : List StackSymbol) (P : Spelling Tree) (x : List Token) (e : Expectation) → IsEnd e x → AreTaken n (expectation.entries ∷ s) P → (ts : List Token) → Shifts n expectation.behind_key s ts e [] →
    IsTaken n (expectation.entries ∷ s) (λ tokens t rest. (prefix : List Token) × (tokens ≡ colon ∷ prefix) × P prefix t rest) ts x e
colon_taken n s P x e end taken [] (same, no_forms) = absurd (not_end expectation.behind_key e x tt end same)
colon_taken n s P x e end taken (u ∷ us) (d, r, h, more) =
    let (same, k) = colon_reads n s u d r h in
    let (a, b, rest, p, ends, on, less) = taken us x e end (after n _ value d e (expectation.entries ∷ s) r [] us refl k more) in
    (a, b, rest, (us ++ x, ap (λ z. z ∷ us ++ x) same, p), ends, on, omega arith)

-- up to m tokens after a value of an entry are further entries and the close
abbrev TakesEntries : ℕ → ℕ → List StackSymbol → Spelling Tree → List Token → Expectation → Type 0
TakesEntries m n s P x e = (ts : List Token) (d : Expectation) → length ts ≤ m → IsEnd d (ts ++ x) → Shifts n d (expectation.entries ∷ s) ts e [] → IsClosed n s (FurtherItems brace_close (KeyAnd P)) ts x e

-- the entries after a comma, or the close
key_taken : (m n : ℕ) (s : List StackSymbol) (P : Spelling Tree) (x : List Token) (e : Expectation) → IsEnd e x → AreTaken n (expectation.entries ∷ s) P → TakesEntries m n s P x e →
    (us : List Token) → length us ≤ m → Shifts n expectation.key s us e [] → IsClosed n s (FurtherItems brace_close (KeyAnd P)) (comma ∷ us) x e
key_taken m n s P x e end taken further [] l (same, no_forms) = absurd (not_end expectation.key e x tt end same)
key_taken m n s P x e end taken further (u ∷ us) l (d, r, h, more) = which (key_reads s u d r h)
  where
    which : (u ≡ brace_close) × (reads behind_value s ≡ reads d r) ⊎ IsKey u × (reads expectation.behind_key s ≡ reads d r) → IsClosed n s (FurtherItems brace_close (KeyAnd P)) (comma ∷ u ∷ us) x e
    which (inl (same, k)) = ([], us, inr (ap (λ z. comma ∷ z ∷ us ++ x) same), after n _ behind_value d e s r [] us refl k more, omega arith)
    which (inr (key, k)) =
        let (a, b, rest, (prefix, same, p), ends, on, less) = colon_taken n s P x e end taken us (after n _ expectation.behind_key d e s r [] us refl k more) in
        let (all, rest', q, on', less') = further rest b (omega arith) ends on in
        ((u, a) ∷ all, rest', (u ∷ us ++ x, rest ++ x, refl, (prefix, ap (λ z. u ∷ z) same, key, p), q), on', omega arith)

-- the further entries
entries_taken : (m n : ℕ) (s : List StackSymbol) (P : Spelling Tree) (x : List Token) (e : Expectation) → IsEnd e x → AreTaken n (expectation.entries ∷ s) P → TakesEntries m n s P x e
entries_taken m n s P x e end taken [] d l start (same, no_forms) = cc
entries_taken zero n s P x e end taken (t ∷ ts) d l start leads = absurd (omega arith)
entries_taken (suc m) n s P x e end taken (t ∷ ts) d l start (d', s', h, leads) =
    which (key_taken m n s P x e end taken (entries_taken m n s P x e end taken) ts (omega arith)) (behind_reads expectation.entries s t d' s' (sym (end_step n d (expectation.entries ∷ s) t (ts ++ x) start) ∙ h))
  where
    which : (Shifts n expectation.key s ts e [] → IsClosed n s (FurtherItems brace_close (KeyAnd P)) (comma ∷ ts) x e) →
        (t ≡ brace_close) × (reads behind_value s ≡ reads d' s') ⊎ (t ≡ comma) × (reads expectation.key s ≡ reads d' s') → IsClosed n s (FurtherItems brace_close (KeyAnd P)) (t ∷ ts) x e
    which next (inl (same, k)) = ([], ts, inl (ap (λ z. z ∷ ts ++ x) same), after n _ behind_value d' e s s' [] ts refl k leads, omega arith)
    which next (inr (same, k)) = subst (λ z. IsClosed n s (FurtherItems brace_close (KeyAnd P)) (z ∷ ts) x e) (sym same) (next (after n _ expectation.key d' e s s' [] ts refl k leads))

-- a key, its colon and value, and the further entries
first_taken : (n : ℕ) (s : List StackSymbol) (P : Spelling Tree) (x : List Token) (e : Expectation) → IsEnd e x → AreTaken n (expectation.entries ∷ s) P → (t : Token) (ts : List Token) → IsKey t → Shifts n expectation.behind_key s ts e [] → IsClosed n s (InBraces P) (t ∷ ts) x e
first_taken n s P x e end taken t ts key leads =
    let (a, b, rest, (prefix, same, p), ends, on, less) = colon_taken n s P x e end taken ts leads in
    let (all, rest', q, on', less') = entries_taken (length rest) n s P x e end taken rest b (omega arith) ends on in
    (tree.entries (tree_entries ((t, a) ∷ all)), rest', inr (inr (inl ((t, a) ∷ all, omega arith, (rest ++ x, (prefix, ap (λ z. t ∷ z) same, key, p), q), refl))), on', omega arith)

-- ---- flags

-- further flags with new names, and the close
abbrev NewFlags : List (List ℕ) → Spelling (List (List ℕ))
NewFlags names tokens texts rest = FurtherItems brace_close Label tokens texts rest × AllNew names (map name_of texts)

-- the further flags
flags_taken : (n : ℕ) (s : List StackSymbol) (x : List Token) (e : Expectation) → IsEnd e x → (names : List (List ℕ)) (ts : List Token) → Shifts n (expectation.behind_flag names) s ts e [] → IsClosed n s (NewFlags names) ts x e
flags_taken n s x e end names [] (same, no_forms) = absurd (not_end (expectation.behind_flag names) e x tt end same)
flags_taken n s x e end names (t ∷ []) (d, r, h, (same, no_forms)) = which (behind_flag_reads names s t d r h)
  where
    which : (t ≡ brace_close) × (reads behind_value s ≡ reads d r) ⊎ (t ≡ comma) × (reads (expectation.flag names) s ≡ reads d r) → IsClosed n s (NewFlags names) (t ∷ []) x e
    which (inl (close, k)) = ([], [], (inl (ap (λ z. z ∷ x) close), tt), after n _ behind_value d e s r [] [] refl k (same, no_forms), omega arith)
    which (inr (a_comma, k)) = let expected_there : expectation.flag names ≡ d = cc in absurd (not_end (expectation.flag names) e x tt end (expected_there ∙ same))
flags_taken n s x e end names (t ∷ u ∷ us) (d, r, h, (d', r', h', leads)) = which (λ more l. flags_taken n s x e end more us l) (behind_flag_reads names s t d r h)
  where
    next : ((more : List (List ℕ)) → Shifts n (expectation.behind_flag more) s us e [] → IsClosed n s (NewFlags more) us x e) →
        (u ≡ brace_close) × (reads behind_value s ≡ reads d' r') ⊎ ((text : List ℕ) × (u ≡ label text) × (is_one_of names (name_of text) ≡ false) × (reads (expectation.behind_flag (names ++ name_of text ∷ [])) s ≡ reads d' r')) →
        IsClosed n s (NewFlags names) (comma ∷ u ∷ us) x e
    next flags (inl (close, k)) = ([], us, (inr (ap (λ z. comma ∷ z ∷ us ++ x) close), tt), after n _ behind_value d' e s r' [] us refl k leads, omega arith)
    next flags (inr (text, a_label, new, k)) =
        let (texts, rest, (q, all), on, less) = flags (names ++ name_of text ∷ []) (after n _ (expectation.behind_flag (names ++ name_of text ∷ [])) d' e s r' [] us refl k leads) in
        (text ∷ texts, rest, ((u ∷ us ++ x, us ++ x, refl, ap (λ z. z ∷ us ++ x) a_label, q), (new, all)), on, omega arith)

    which : ((more : List (List ℕ)) → Shifts n (expectation.behind_flag more) s us e [] → IsClosed n s (NewFlags more) us x e) →
        (t ≡ brace_close) × (reads behind_value s ≡ reads d r) ⊎ (t ≡ comma) × (reads (expectation.flag names) s ≡ reads d r) → IsClosed n s (NewFlags names) (t ∷ u ∷ us) x e
    which flags (inl (close, k)) = ([], u ∷ us, (inl (ap (λ z. z ∷ u ∷ us ++ x) close), tt), after n _ behind_value d e s r [] (u ∷ us) refl k (d', r', h', leads), omega arith)
    which flags (inr (a_comma, k)) =
        let expectations : d ≡ expectation.flag names = cc in
        let forms : r ≡ s = cc in
        let there : step n (expectation.flag names) s u ≡ reads d' r' = subst (λ z. step n z s u ≡ reads d' r') expectations (subst (λ z. step n d z u ≡ reads d' r') forms h') in
        subst (λ z. IsClosed n s (NewFlags names) (z ∷ u ∷ us) x e) (sym a_comma) (next flags (flag_reads names s u d' r' there))

-- one of the names is no new one
not_new : (names : List (List ℕ)) (x y : List ℕ) → IsOneOf names x → is_one_of names y ≡ false → x ≢ y
not_new [] x y h new e = absurd h
not_new (other ∷ names) x y (inl same) new e =
    let k : bytes_eq y other ≡ true = (bytes_eq-Decides y other).1 (sym e ∙ same) in
    let w : false ≡ true = sym (or_parts (bytes_eq y other) (is_one_of names y) new).0 ∙ k in
    cc
not_new (other ∷ names) x y (inr h) new e = not_new names x y h (or_parts (bytes_eq y other) (is_one_of names y) new).1 e

-- one of the names is one of more names
one_of_more : (names : List (List ℕ)) (x y : List ℕ) → IsOneOf names x → IsOneOf (names ++ y ∷ []) x
one_of_more [] x y h = absurd h
one_of_more (other ∷ names) x y (inl same) = inl same
one_of_more (other ∷ names) x y (inr h) = inr (one_of_more names x y h)

-- the last name is one of the names
last_of_more : (names : List (List ℕ)) (y : List ℕ) → IsOneOf (names ++ y ∷ []) y
last_of_more [] y = inl refl
last_of_more (other ∷ names) y = inr (last_of_more names y)

-- one of the names is none of those that are new after them
none_of_new : (names more : List (List ℕ)) (x : List ℕ) → IsOneOf names x → AllNew names more → IsNoneOf more x
none_of_new names [] x h all = tt
none_of_new names (y ∷ more) x h (new, all) = (not_new names x y h new, none_of_new (names ++ y ∷ []) more x (one_of_more names x y h) all)

-- names that are new each after those before it are distinct
new_distinct : (names more : List (List ℕ)) → AllNew names more → AreDistinct more
new_distinct names [] all = tt
new_distinct names (y ∷ more) (new, all) = (none_of_new (names ++ y ∷ []) more y (last_of_more names y) all, new_distinct (names ++ y ∷ []) more all)

-- ---- braces

-- after the first label in braces a colon, or what may stand after a flag
word_reads : (text : List ℕ) (s : List StackSymbol) (t : Token) (d : Expectation) (r : List StackSymbol) → expectation.word_behind_step text s t ≡ reads d r → (t ≡ colon) × (reads value (expectation.entries ∷ s) ≡ reads d r) ⊎ (behind_flag_step (name_of text ∷ []) s t ≡ reads d r)
word_reads text s colon d r h = inl (refl, h)
word_reads text s t d r h = inr h

-- what stands after the first label in braces
word_taken : (n : ℕ) (s : List StackSymbol) (P : Spelling Tree) (x : List Token) (e : Expectation) → IsEnd e x → AreTaken n (expectation.entries ∷ s) P → (text : List ℕ) (ts : List Token) → Shifts n (expectation.behind_word text) s ts e [] →
    IsClosed n s (InBraces P) (label text ∷ ts) x e
word_taken n s P x e end taken text [] (same, no_forms) = absurd (not_end (expectation.behind_word text) e x tt end same)
word_taken n s P x e end taken text (t ∷ ts) (d, r, h, leads) = which (word_reads text s t d r h)
  where
    which : (t ≡ colon) × (reads value (expectation.entries ∷ s) ≡ reads d r) ⊎ (behind_flag_step (name_of text ∷ []) s t ≡ reads d r) → IsClosed n s (InBraces P) (label text ∷ t ∷ ts) x e
    which (inl (a_colon, k)) =
        subst (λ z. IsClosed n s (InBraces P) (label text ∷ z ∷ ts) x e) (sym a_colon) (first_taken n s P x e end taken (label text) (colon ∷ ts) tt (d, r, k, leads))
    which (inr k) =
        let (texts, rest, (q, all), on, less) = flags_taken n s x e end (name_of text ∷ []) (t ∷ ts) (d, r, k, leads) in
        let apart : AreDistinct (map name_of (text ∷ texts)) = (none_of_new (name_of text ∷ []) (map name_of texts) (name_of text) (inl refl) all, new_distinct (name_of text ∷ []) (map name_of texts) all) in
        (tree.flags (in_order (text ∷ texts)), rest, inr (inr (inr (text ∷ texts, omega arith, (t ∷ ts ++ x, refl, q), apart, refl))), on, omega arith)

-- what stands after an open brace
braces_taken : (n : ℕ) (s : List StackSymbol) (P : Spelling Tree) (x : List Token) (e : Expectation) → IsEnd e x → AreTaken n (expectation.entries ∷ s) P → (ts : List Token) → Shifts n expectation.in_braces s ts e [] → IsClosed n s (InBraces P) ts x e
braces_taken n s P x e end taken [] (same, no_forms) = absurd (not_end expectation.in_braces e x tt end same)
braces_taken n s P x e end taken (brace_close ∷ ts) (d, r, h, leads) = (tree.empty_braces, ts, inl (refl, refl), after n _ behind_value d e s r [] ts refl h leads, omega arith)
braces_taken n s P x e end taken (colon ∷ []) (d, r, h, (same, no_forms)) =
    let k : reads expectation.no_fields s ≡ reads d r = h in let expected_there : expectation.no_fields ≡ d = cc in absurd (not_end expectation.no_fields e x tt end (expected_there ∙ same))
braces_taken n s P x e end taken (colon ∷ t ∷ ts) (d, r, h, leads) =
    let (d', r', h', more) = after n _ expectation.no_fields d e s r [] (t ∷ ts) refl h leads in
    let (close, k) = brace_reads n s t d' r' h' in
    (tree.no_fields, ts, inr (inl (ap (λ z. colon ∷ z ∷ ts ++ x) close, refl)), after n _ behind_value d' e s r' [] ts refl k more, omega arith)
braces_taken n s P x e end taken (label text ∷ ts) (d, r, h, leads) = word_taken n s P x e end taken text ts (after n _ (expectation.behind_word text) d e s r [] ts refl h leads)
braces_taken n s P x e end taken (number text ∷ ts) (d, r, h, leads) = first_taken n s P x e end taken (number text) ts tt (after n _ expectation.behind_key d e s r [] ts refl h leads)
braces_taken n s P x e end taken (char text ∷ ts) (d, r, h, leads) = first_taken n s P x e end taken (char text) ts tt (after n _ expectation.behind_key d e s r [] ts refl h leads)
braces_taken n s P x e end taken (string text ∷ ts) (d, r, h, leads) = first_taken n s P x e end taken (string text) ts tt (after n _ expectation.behind_key d e s r [] ts refl h leads)
braces_taken n s P x e end taken (multiline text ∷ ts) (d, r, h, leads) = first_taken n s P x e end taken (multiline text) ts tt (after n _ expectation.behind_key d e s r [] ts refl h leads)
braces_taken n s P x e end taken (t ∷ ts) (d, r, h, leads) = let k : unexpected ≡ reads d r = h in cc

-- ---- payloads and labels

-- a value within its payload, and the close
payload_taken : (n : ℕ) (s : List StackSymbol) (P : Spelling Tree) (x : List Token) (e : Expectation) → IsEnd e x → AreTaken n (expectation.payload ∷ s) P → (ts : List Token) → Shifts n value (expectation.payload ∷ s) ts e [] →
    IsClosed n s (λ tokens t rest. InParens P tokens t rest) (paren_open ∷ ts) x e
payload_taken n s P x e end taken ts leads = close (taken ts x e end leads)
  where
    close : IsTaken n (expectation.payload ∷ s) P ts x e → IsClosed n s (λ tokens t rest. InParens P tokens t rest) (paren_open ∷ ts) x e
    close (t, b, [], p, ends, (same, no_forms), less) = cc
    close (t, b, u ∷ rest, p, ends, (d, r, h, more), less) = which (behind_reads expectation.payload s u d r (sym (end_step n b (expectation.payload ∷ s) u (rest ++ x) ends) ∙ h))
      where
        which : (u ≡ paren_close) × (reads behind_value s ≡ reads d r) ⊎ (u ≡ comma) × (unexpected ≡ reads d r) → IsClosed n s (λ tokens t rest. InParens P tokens t rest) (paren_open ∷ ts) x e
        which (inl (same, k)) = (t, rest, (ts ++ x, refl, subst (λ z. P (ts ++ x) t (z ∷ rest ++ x)) same p), after n _ behind_value d e s r [] rest refl k more, omega arith)
        which (inr (same, k)) = cc

-- where a label has ended, no parenthesis stands
label_end : (x : List Token) → IsEnd behind_label x → (more : List Token) → x ≢ paren_open ∷ more
label_end x (inl e) = cc
label_end x (inr (e, apart)) = apart

-- a label's payload, or none where no parenthesis stands
maybe_taken : (n : ℕ) (s : List StackSymbol) (P : Spelling Tree) (x : List Token) (e : Expectation) → IsEnd e x → AreTaken n (expectation.payload ∷ s) P → (t : Token) (ts : List Token) → Shifts n behind_label s ts e [] →
    (payload : MaybeTree) × (d : Expectation) × (rest : List Token) × MaybeInParens P (ts ++ x) payload (rest ++ x) × IsEnd d (rest ++ x) × Shifts n d s rest e [] × (length rest < length (t ∷ ts))
maybe_taken n s P x e end taken t [] (same, no_forms) =
    let here : IsEnd behind_label x = subst (λ z. IsEnd z x) (sym same) end in
    (tree.no_tree, behind_label, [], inl (refl, label_end x here, refl), here, (same, no_forms), omega arith)
maybe_taken n s P x e end taken t (paren_open ∷ ts) (d, r, h, leads) =
    let (u, rest, p, on, less) = payload_taken n s P x e end taken ts (after n _ value d e (expectation.payload ∷ s) r [] ts refl h leads) in
    (tree.a_tree u, behind_value, rest, inr (u, p, refl), inl refl, on, omega arith)
maybe_taken n s P x e end taken t (u ∷ ts) leads = (tree.no_tree, behind_label, u ∷ ts, inl (refl, λ more f. cc, refl), inr (refl, λ more f. cc), leads, omega arith)

-- what stands after a label
label_taken : (n : ℕ) (s : List StackSymbol) (P : Spelling Tree) (x : List Token) (e : Expectation) → IsEnd e x → AreTaken n (expectation.payload ∷ s) P → (w : Word) (text : List ℕ) (t : Token) (ts : List Token) → Shifts n (expectation.expected_behind w) s ts e [] →
    (u : Tree) × (d : Expectation) × (rest : List Token) × BehindWord w text P (ts ++ x) u (rest ++ x) × IsEnd d (rest ++ x) × Shifts n d s rest e [] × (length rest < length (t ∷ ts))
label_taken n s P x e end taken leaf_word text t ts leads = (tree.one (label text), behind_value, ts, (refl, refl), inl refl, leads, omega arith)
label_taken n s P x e end taken none_word text t ts leads = (tree.none, behind_value, ts, (refl, refl), inl refl, leads, omega arith)
label_taken n s P x e end taken some_word text t [] (same, no_forms) = absurd (not_end expectation.paren e x tt end same)
label_taken n s P x e end taken some_word text t (u ∷ ts) (d, r, h, leads) =
    let (a_paren, k) = paren_reads n s u d r h in
    let (v, rest, (prefix, same, p), on, less) = payload_taken n s P x e end taken ts (after n _ value d e (expectation.payload ∷ s) r [] ts refl k leads) in
    (tree.some v, behind_value, rest, (v, (prefix, ap (λ z. z ∷ ts ++ x) a_paren ∙ same, p), refl), inl refl, on, omega arith)
label_taken n s P x e end taken ok_word text t ts leads = let (payload, d, rest, p, ends, on, less) = maybe_taken n s P x e end taken t ts leads in (tree.ok payload, d, rest, (payload, p, refl), ends, on, less)
label_taken n s P x e end taken err_word text t ts leads = let (payload, d, rest, p, ends, on, less) = maybe_taken n s P x e end taken t ts leads in (tree.err payload, d, rest, (payload, p, refl), ends, on, less)
label_taken n s P x e end taken case_word text t ts leads = let (payload, d, rest, p, ends, on, less) = maybe_taken n s P x e end taken t ts leads in (tree.label text payload, d, rest, (payload, p, refl), ends, on, less)

-- ---- all trees

-- a tree, where the trees in it are taken
tree_taken : (n : ℕ) (s : List StackSymbol) (P : Spelling Tree) → ((f : StackSymbol) → AreTaken n (f ∷ s) P) → AreTaken n s (ATree P)
tree_taken n s P taken [] x e end (same, no_forms) = absurd (not_end value e x tt end same)
tree_taken n s P taken (t ∷ ts) x e end (d, r, h, leads) = which t (on_level (nat_lt (length s) n) (value_step s t) d r h)
  where
    which : (t : Token) → value_step s t ≡ reads d r → IsTaken n s (ATree P) (t ∷ ts) x e
    which paren_open k =
        let (items, rest, (some, p), on, less) = items_taken n expectation.tuple s P x e tt end (taken expectation.tuple) ts (after n _ first_item d e (expectation.tuple ∷ s) r [] ts refl k leads) in
        (tree.tuple (trees items), behind_value, rest, (items, some refl, p, refl), inl refl, on, omega arith)
    which bracket_open k =
        let (items, rest, (some, p), on, less) = items_taken n expectation.list s P x e tt end (taken expectation.list) ts (after n _ first_item d e (expectation.list ∷ s) r [] ts refl k leads) in
        (tree.list (trees items), behind_value, rest, (items, p, refl), inl refl, on, omega arith)
    which brace_open k =
        let (u, rest, p, on, less) = braces_taken n s P x e end (taken expectation.entries) ts (after n _ expectation.in_braces d e s r [] ts refl k leads) in
        (u, behind_value, rest, p, inl refl, on, omega arith)
    which (label text) k = label_taken n s P x e end (taken expectation.payload) (word_of text) text (label text) ts (after n _ (expectation.expected_behind (word_of text)) d e s r [] ts refl k leads)
    which (number text) k = (tree.one (number text), behind_value, ts, (refl, refl), inl refl, after n _ behind_value d e s r [] ts refl k leads, omega arith)
    which (char text) k = (tree.one (char text), behind_value, ts, (refl, refl), inl refl, after n _ behind_value d e s r [] ts refl k leads, omega arith)
    which (string text) k = (tree.one (string text), behind_value, ts, (refl, refl), inl refl, after n _ behind_value d e s r [] ts refl k leads, omega arith)
    which (multiline text) k = (tree.one (multiline text), behind_value, ts, (refl, refl), inl refl, after n _ behind_value d e s r [] ts refl k leads, omega arith)
    which u k = let w : unexpected ≡ reads d r = k in cc

-- where no level is left no value is read
level_full : (n : ℕ) (s : List StackSymbol) (t : Token) (d : Expectation) (r : List StackSymbol) → n ≤ length s → step n value s t ≡ reads d r → ⊥
level_full n s t d r l h =
    let full : nat_lt (length s) n ≡ false = grind arith in
    let k : too_deep ≡ reads d r = ap (λ b. if b then value_step s t else too_deep) (sym full) ∙ h in
    cc

-- within the levels that are left a prefix of the tokens is a tree
leads_taken : (k n : ℕ) (s : List StackSymbol) → n ≤ k + length s → AreTaken n s (Takes k)
leads_taken zero n s l [] x e end (same, no_forms) = absurd (not_end value e x tt end same)
leads_taken zero n s l (t ∷ ts) x e end (d, r, h, leads) = absurd (level_full n s t d r (omega arith) h)
leads_taken (suc k) n s l ts x e end leads = tree_taken n s (Takes k) (λ f. leads_taken k n (f ∷ s) (omega arith)) ts x e end leads

-- where no form is open nothing stands after a value
nothing_behind : (n : ℕ) (d e : Expectation) (ts x : List Token) → IsEnd d (ts ++ x) → Shifts n d [] ts e [] → ts ≡ []
nothing_behind n d e [] x start leads = refl
nothing_behind n d e (t ∷ ts) x start (d', r, h, leads) = let k : unexpected ≡ reads d' r = sym (end_step n d [] t (ts ++ x) start) ∙ h in cc

-- where no more is expected
at_end : (d : Expectation) (rest : List Token) → EndsBefore d rest → IsEnd d rest
at_end behind_value rest h = inl refl
at_end behind_label rest h = inr (refl, h)
at_end d rest h = absurd h

-- tokens that lead to the end of a value are a tree
pub led_is_tree : AcceptedTokensHaveATree
led_is_tree n prefix rest d ends leads =
    let (t, b, left, p, end, on, less) = leads_taken n n [] (omega arith) prefix rest d (at_end d rest ends) leads in
    (t, subst (λ z. Takes n (prefix ++ rest) t (z ++ rest)) (nothing_behind n b d left rest end on) p)
