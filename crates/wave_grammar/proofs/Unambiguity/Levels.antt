-- A tree is taken within its own levels, and within any more.
use Rattle.std.proofs.Common.{ℕ, zero, suc, ◌+◌, ◌<◌, ◌≤◌, ◌≡◌, inl, inr, List, [], ◌∷◌, ap, arith}
use Rattle.wave_grammar.specs.Token.{Token, brace_open, brace_close, paren_open, paren_close, bracket_open, bracket_close, number, label, char, string, multiline}
use Rattle.wave_grammar.specs.CommaSeparated.{Spelling, FurtherItems, Items}
use Rattle.wave_grammar.specs.Tree as tree
use Rattle.wave_grammar.specs.Tree.{Tree, MaybeTree, trees, tree_entries, no_tree, a_tree, ATree, Takes, KeyAnd, Label, MaybeInParens, InBraces, BehindWord, Word, word_of, leaf_word, none_word, some_word, ok_word, err_word, case_word, levels, levels_of_maybe, levels_of_trees, levels_of_entries}

-- what P takes within k levels Q takes, and it has these levels
abbrev Within : ℕ → Spelling Tree → Type 0
Within n P = (tokens : List Token) (t : Tree) (rest : List Token) → P tokens t rest → levels t ≤ n

-- what P takes and has at most m levels Q takes
abbrev Fits : ℕ → Spelling Tree → Spelling Tree → Type 0
Fits m P Q = (tokens : List Token) (t : Tree) (rest : List Token) → levels t ≤ m → P tokens t rest → Q tokens t rest

-- ---- the levels of what is taken

-- further items
items-within : (n : ℕ) (close : Token) (P : Spelling Tree) → Within n P → (tokens : List Token) (items : List Tree) (rest : List Token) → FurtherItems close P tokens items rest → levels_of_trees (trees items) ≤ n
items-within n close P within tokens [] rest h = omega arith
items-within n close P within tokens (t ∷ more) rest (prefix, behind, e, p, h) =
    let one = within prefix t behind p in let all = items-within n close P within behind more rest h in omega arith

-- items
pub all-within : (n : ℕ) (close : Token) (P : Spelling Tree) → Within n P → (tokens : List Token) (items : List Tree) (rest : List Token) → Items close P tokens items rest → levels_of_trees (trees items) ≤ n
all-within n close P within tokens [] rest h = omega arith
all-within n close P within tokens (t ∷ more) rest (behind, p, h) =
    let one = within tokens t behind p in let all = items-within n close P within behind more rest h in omega arith

-- further entries
keys-within : (n : ℕ) (close : Token) (P : Spelling Tree) → Within n P → (tokens : List Token) (es : List (Token × Tree)) (rest : List Token) → FurtherItems close (KeyAnd P) tokens es rest → levels_of_entries (tree_entries es) ≤ n
keys-within n close P within tokens [] rest h = omega arith
keys-within n close P within tokens (t ∷ more) rest (prefix, behind, e, (inside, f, k, p), h) =
    let one = within inside t.1 behind p in let all = keys-within n close P within behind more rest h in omega arith

-- entries
entries-within : (n : ℕ) (close : Token) (P : Spelling Tree) → Within n P → (tokens : List Token) (es : List (Token × Tree)) (rest : List Token) → Items close (KeyAnd P) tokens es rest → levels_of_entries (tree_entries es) ≤ n
entries-within n close P within tokens [] rest h = omega arith
entries-within n close P within tokens (t ∷ more) rest (behind, (inside, f, k, p), h) =
    let one = within inside t.1 behind p in let all = keys-within n close P within behind more rest h in omega arith

-- a payload, or none
maybe-within : (n : ℕ) (P : Spelling Tree) → Within n P → (tokens : List Token) (payload : MaybeTree) (rest : List Token) → MaybeInParens P tokens payload rest → levels_of_maybe payload ≤ n
maybe-within n P within tokens payload rest (inl (e, apart, f)) = let g : levels_of_maybe payload ≡ 0 = ap levels_of_maybe f in omega arith
maybe-within n P within tokens payload rest (inr (t, (prefix, e, p), f)) =
    let one = within prefix t (paren_close ∷ rest) p in let g : levels_of_maybe payload ≡ levels t = ap levels_of_maybe f in omega arith

-- what stands after a label
word-within : (n : ℕ) (w : Word) (text : List ℕ) (P : Spelling Tree) → Within n P → (tokens : List Token) (t : Tree) (rest : List Token) → BehindWord w text P tokens t rest → levels t ≤ n + 1
word-within n leaf_word text P within tokens t rest (e, f) = let g = ap levels f in omega arith
word-within n none_word text P within tokens t rest (e, f) = let g = ap levels f in omega arith
word-within n some_word text P within tokens t rest (u, (prefix, e, p), f) = let one = within prefix u (paren_close ∷ rest) p in let g = ap levels f in omega arith
word-within n ok_word text P within tokens t rest (u, p, f) = let one = maybe-within n P within tokens u rest p in let g = ap levels f in omega arith
word-within n err_word text P within tokens t rest (u, p, f) = let one = maybe-within n P within tokens u rest p in let g = ap levels f in omega arith
word-within n case_word text P within tokens t rest (u, p, f) = let one = maybe-within n P within tokens u rest p in let g = ap levels f in omega arith

-- a tree over trees within n levels is within one more
tree-within : (n : ℕ) (P : Spelling Tree) → Within n P → Within (n + 1) (ATree P)
tree-within n P within [] t rest h = absurd h
tree-within n P within (paren_open ∷ prefix) t rest (items, l, h, e) = let all = all-within n paren_close P within prefix items rest h in let g = ap levels e in omega arith
tree-within n P within (bracket_open ∷ prefix) t rest (items, h, e) = let all = all-within n bracket_close P within prefix items rest h in let g = ap levels e in omega arith
tree-within n P within (brace_open ∷ prefix) t rest (inl (e, f)) = let g = ap levels f in omega arith
tree-within n P within (brace_open ∷ prefix) t rest (inr (inl (e, f))) = let g = ap levels f in omega arith
tree-within n P within (brace_open ∷ prefix) t rest (inr (inr (inl (es, l, h, f)))) = let all = entries-within n brace_close P within prefix es rest h in let g = ap levels f in omega arith
tree-within n P within (brace_open ∷ prefix) t rest (inr (inr (inr (texts, l, h, d, f)))) = let g = ap levels f in omega arith
tree-within n P within (label text ∷ behind) t rest h = word-within n (word_of text) text P within behind t rest h
tree-within n P within (number text ∷ behind) t rest (e, f) = let g = ap levels f in omega arith
tree-within n P within (char text ∷ behind) t rest (e, f) = let g = ap levels f in omega arith
tree-within n P within (string text ∷ behind) t rest (e, f) = let g = ap levels f in omega arith
tree-within n P within (multiline text ∷ behind) t rest (e, f) = let g = ap levels f in omega arith
tree-within n P within (token ∷ behind) t rest h = absurd h

-- what is taken within n levels has at most n
pub takes-levels : (n : ℕ) → Within n (Takes n)
takes-levels zero tokens t rest h = absurd h
takes-levels (suc n) tokens t rest h = let k = tree-within n (Takes n) (takes-levels n) tokens t rest h in omega arith

-- ---- any levels that are enough

-- further items
further-fits : (m : ℕ) (close : Token) (P Q : Spelling Tree) → Fits m P Q → (tokens : List Token) (items : List Tree) (rest : List Token) → levels_of_trees (trees items) ≤ m →
    FurtherItems close P tokens items rest → FurtherItems close Q tokens items rest
further-fits m close P Q fits tokens [] rest l h = h
further-fits m close P Q fits tokens (t ∷ more) rest l (prefix, behind, e, p, h) =
    (prefix, behind, e, fits prefix t behind (omega arith) p, further-fits m close P Q fits behind more rest (omega arith) h)

-- items
items-fit : (m : ℕ) (close : Token) (P Q : Spelling Tree) → Fits m P Q → (tokens : List Token) (items : List Tree) (rest : List Token) → levels_of_trees (trees items) ≤ m →
    Items close P tokens items rest → Items close Q tokens items rest
items-fit m close P Q fits tokens [] rest l h = h
items-fit m close P Q fits tokens (t ∷ more) rest l (behind, p, h) = (behind, fits tokens t behind (omega arith) p, further-fits m close P Q fits behind more rest (omega arith) h)

-- further entries
further-keys-fit : (m : ℕ) (close : Token) (P Q : Spelling Tree) → Fits m P Q → (tokens : List Token) (es : List (Token × Tree)) (rest : List Token) → levels_of_entries (tree_entries es) ≤ m →
    FurtherItems close (KeyAnd P) tokens es rest → FurtherItems close (KeyAnd Q) tokens es rest
further-keys-fit m close P Q fits tokens [] rest l h = h
further-keys-fit m close P Q fits tokens (t ∷ more) rest l (prefix, behind, e, (inside, f, k, p), h) =
    (prefix, behind, e, (inside, f, k, fits inside t.1 behind (omega arith) p), further-keys-fit m close P Q fits behind more rest (omega arith) h)

-- entries
keys-fit : (m : ℕ) (close : Token) (P Q : Spelling Tree) → Fits m P Q → (tokens : List Token) (es : List (Token × Tree)) (rest : List Token) → levels_of_entries (tree_entries es) ≤ m →
    Items close (KeyAnd P) tokens es rest → Items close (KeyAnd Q) tokens es rest
keys-fit m close P Q fits tokens [] rest l h = h
keys-fit m close P Q fits tokens (t ∷ more) rest l (behind, (inside, f, k, p), h) =
    (behind, (inside, f, k, fits inside t.1 behind (omega arith) p), further-keys-fit m close P Q fits behind more rest (omega arith) h)

-- a payload, or none
maybe-fits : (m : ℕ) (P Q : Spelling Tree) → Fits m P Q → (tokens : List Token) (payload : MaybeTree) (rest : List Token) → levels_of_maybe payload ≤ m → MaybeInParens P tokens payload rest → MaybeInParens Q tokens payload rest
maybe-fits m P Q fits tokens payload rest l (inl h) = inl h
maybe-fits m P Q fits tokens payload rest l (inr (t, (prefix, e, p), f)) =
    let g : levels_of_maybe payload ≡ levels t = ap levels_of_maybe f in inr (t, (prefix, e, fits prefix t (paren_close ∷ rest) (omega arith) p), f)

-- what stands after a label
word-fits : (m : ℕ) (w : Word) (text : List ℕ) (P Q : Spelling Tree) → Fits m P Q → (tokens : List Token) (t : Tree) (rest : List Token) → levels t ≤ m + 1 → BehindWord w text P tokens t rest → BehindWord w text Q tokens t rest
word-fits m leaf_word text P Q fits tokens t rest l h = h
word-fits m none_word text P Q fits tokens t rest l h = h
word-fits m some_word text P Q fits tokens t rest l (u, (prefix, e, p), f) = let g = ap levels f in (u, (prefix, e, fits prefix u (paren_close ∷ rest) (omega arith) p), f)
word-fits m ok_word text P Q fits tokens t rest l (u, p, f) = let g = ap levels f in (u, maybe-fits m P Q fits tokens u rest (omega arith) p, f)
word-fits m err_word text P Q fits tokens t rest l (u, p, f) = let g = ap levels f in (u, maybe-fits m P Q fits tokens u rest (omega arith) p, f)
word-fits m case_word text P Q fits tokens t rest l (u, p, f) = let g = ap levels f in (u, maybe-fits m P Q fits tokens u rest (omega arith) p, f)

-- a tree over trees that fit
tree-fits : (m : ℕ) (P Q : Spelling Tree) → Fits m P Q → Fits (m + 1) (ATree P) (ATree Q)
tree-fits m P Q fits [] t rest l h = absurd h
tree-fits m P Q fits (paren_open ∷ prefix) t rest l (items, some, h, e) = let g = ap levels e in (items, some, items-fit m paren_close P Q fits prefix items rest (omega arith) h, e)
tree-fits m P Q fits (bracket_open ∷ prefix) t rest l (items, h, e) = let g = ap levels e in (items, items-fit m bracket_close P Q fits prefix items rest (omega arith) h, e)
tree-fits m P Q fits (brace_open ∷ prefix) t rest l (inl h) = inl h
tree-fits m P Q fits (brace_open ∷ prefix) t rest l (inr (inl h)) = inr (inl h)
tree-fits m P Q fits (brace_open ∷ prefix) t rest l (inr (inr (inl (es, some, h, f)))) = let g = ap levels f in inr (inr (inl (es, some, keys-fit m brace_close P Q fits prefix es rest (omega arith) h, f)))
tree-fits m P Q fits (brace_open ∷ prefix) t rest l (inr (inr (inr h))) = inr (inr (inr h))
tree-fits m P Q fits (label text ∷ behind) t rest l h = word-fits m (word_of text) text P Q fits behind t rest l h
tree-fits m P Q fits (number text ∷ behind) t rest l h = h
tree-fits m P Q fits (char text ∷ behind) t rest l h = h
tree-fits m P Q fits (string text ∷ behind) t rest l h = h
tree-fits m P Q fits (multiline text ∷ behind) t rest l h = h
tree-fits m P Q fits (token ∷ behind) t rest l h = absurd h

-- each tree has a level
pub some-level : (t : Tree) → 0 < levels t
some-level (tree.one token) = omega arith
some-level _ = omega arith

-- a tree is taken within any levels that are not fewer than its own
pub takes-within : (n m : ℕ) → Fits m (Takes n) (Takes m)
takes-within zero m tokens t rest l h = absurd h
takes-within (suc n) zero tokens t rest l h = let k = some-level t in absurd (omega arith)
takes-within (suc n) (suc m) tokens t rest l h = tree-fits m (Takes n) (Takes m) (takes-within n m) tokens t rest (omega arith) h
