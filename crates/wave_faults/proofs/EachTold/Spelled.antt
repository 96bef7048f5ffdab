-- Tuples and entries that are spelled are not empty.
use Rattle.std.proofs.Common.{ℕ, zero, suc, ◌≡◌, ◌<◌, inl, inr, List, [], ◌∷◌, length, arith}
use Rattle.wave_grammar.specs.Token.{Token}
use Rattle.wave_grammar.specs.Token as token
use Rattle.wave_grammar.specs.Tree as form
use Rattle.wave_grammar.specs.Tree.{Tree, Trees, TreeEntries, Takes, Word, BehindWord, word_of}
use Rattle.wave_grammar.proofs.ByKind.Tuples.{no_word}

tuple_once : (a b : Trees) → form.tuple a ≡ form.tuple b → a ≡ b
tuple_once a b e = cc

entries_once : (a b : TreeEntries) → form.entries a ≡ form.entries b → a ≡ b
entries_once a b e = cc

-- the items of a tuple that is spelled
some_items : (tokens : List Token) (n : ℕ) (ts : Trees) → Takes n tokens (form.tuple ts) [] → (items : List Tree) × (0 < length items) × (ts ≡ form.trees items)
some_items tokens zero ts h = absurd h
some_items [] (suc n) ts h = absurd h
some_items (token.paren_open ∷ prefix) (suc n) ts h = (h.0, h.1, tuple_once ts (form.trees h.0) h.3)
some_items (token.bracket_open ∷ prefix) (suc n) ts h = absurd (cc h.2)
some_items (token.brace_open ∷ prefix) (suc n) ts (inl h) = absurd (cc h.1)
some_items (token.brace_open ∷ prefix) (suc n) ts (inr (inl h)) = absurd (cc h.1)
some_items (token.brace_open ∷ prefix) (suc n) ts (inr (inr (inl h))) = absurd (cc h.3)
some_items (token.brace_open ∷ prefix) (suc n) ts (inr (inr (inr h))) = absurd (cc h.4)
some_items (token.label text ∷ behind) (suc n) ts h = absurd (no_word (word_of text) text n behind ts h)
some_items (token.number text ∷ behind) (suc n) ts h = absurd (cc h.1)
some_items (token.char text ∷ behind) (suc n) ts h = absurd (cc h.1)
some_items (token.string text ∷ behind) (suc n) ts h = absurd (cc h.1)
some_items (token.multiline text ∷ behind) (suc n) ts h = absurd (cc h.1)
some_items (_ ∷ behind) (suc n) ts h = absurd h

-- no word stands for entries
no_entries_word : (w : Word) (text : List ℕ) (n : ℕ) (behind : List Token) (es : TreeEntries) → BehindWord w text (Takes n) behind (form.entries es) [] → ⊥
no_entries_word form.leaf_word text n behind es h = absurd (cc h.1)
no_entries_word form.none_word text n behind es h = absurd (cc h.1)
no_entries_word form.some_word text n behind es h = absurd (cc h.2)
no_entries_word form.ok_word text n behind es h = absurd (cc h.2)
no_entries_word form.err_word text n behind es h = absurd (cc h.2)
no_entries_word form.case_word text n behind es h = absurd (cc h.2)

-- the entries that are spelled
some_entries : (tokens : List Token) (n : ℕ) (es : TreeEntries) → Takes n tokens (form.entries es) [] → (items : List (Token × Tree)) × (0 < length items) × (es ≡ form.tree_entries items)
some_entries tokens zero es h = absurd h
some_entries [] (suc n) es h = absurd h
some_entries (token.paren_open ∷ prefix) (suc n) es h = absurd (cc h.3)
some_entries (token.bracket_open ∷ prefix) (suc n) es h = absurd (cc h.2)
some_entries (token.brace_open ∷ prefix) (suc n) es (inl h) = absurd (cc h.1)
some_entries (token.brace_open ∷ prefix) (suc n) es (inr (inl h)) = absurd (cc h.1)
some_entries (token.brace_open ∷ prefix) (suc n) es (inr (inr (inl h))) = (h.0, h.1, entries_once es (form.tree_entries h.0) h.3)
some_entries (token.brace_open ∷ prefix) (suc n) es (inr (inr (inr h))) = absurd (cc h.4)
some_entries (token.label text ∷ behind) (suc n) es h = absurd (no_entries_word (word_of text) text n behind es h)
some_entries (token.number text ∷ behind) (suc n) es h = absurd (cc h.1)
some_entries (token.char text ∷ behind) (suc n) es h = absurd (cc h.1)
some_entries (token.string text ∷ behind) (suc n) es h = absurd (cc h.1)
some_entries (token.multiline text ∷ behind) (suc n) es h = absurd (cc h.1)
some_entries (_ ∷ behind) (suc n) es h = absurd h

-- a tuple that is spelled has an item
pub has_item : (tokens : List Token) (n : ℕ) (us : List Tree) → Takes n tokens (form.tuple (form.trees us)) [] → 0 < length us
has_item tokens n us h = let items = some_items tokens n (form.trees us) h in by us items.0 items.2 items.1
  where
    by : (us items : List Tree) → form.trees us ≡ form.trees items → 0 < length items → 0 < length us
    by [] [] e lt = lt
    by [] (t ∷ ts) e lt = absurd (cc e)
    by (u ∷ us) items e lt = omega arith

-- entries that are spelled have one
pub has_entry : (tokens : List Token) (n : ℕ) (us : List (Token × Tree)) → Takes n tokens (form.entries (form.tree_entries us)) [] → 0 < length us
has_entry tokens n us h = let items = some_entries tokens n (form.tree_entries us) h in by us items.0 items.2 items.1
  where
    by : (us items : List (Token × Tree)) → form.tree_entries us ≡ form.tree_entries items → 0 < length items → 0 < length us
    by [] [] e lt = lt
    by [] (t ∷ ts) e lt = absurd (cc e)
    by (u ∷ us) items e lt = omega arith
