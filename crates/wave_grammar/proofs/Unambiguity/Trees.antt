-- No prefix of tokens is two trees.
use Rattle.std.proofs.Common.{ℕ, zero, suc, ◌<◌, ◌≡◌, inl, inr, List, [], ◌∷◌, length, sym, ap, ◌∙◌, subst, arith}
use Rattle.wave_grammar.specs.Token.{Token, brace_open, brace_close, paren_open, paren_close, bracket_open, bracket_close, colon, number, label, char, string, multiline}
use Rattle.wave_grammar.specs.CommaSeparated.{Spelling, Items}
use Rattle.wave_grammar.specs.Tree as tree
use Rattle.wave_grammar.specs.Tree.{Tree, trees, tree_entries, in_order, ATree, Takes, KeyAnd, Label, MaybeInParens, InBraces, BehindWord, IsKey, Word, word_of, leaf_word, none_word, some_word, ok_word, err_word, case_word}
use Rattle.wave_grammar.proofs.Unambiguity.Values.{Agree, NeverBegins, items-agree, parens-agree, pair-path}

-- a payload, or none
maybe-agree : (P Q : Spelling Tree) → Agree P Q → Agree (MaybeInParens P) (MaybeInParens Q)
maybe-agree P Q agree tokens a b r s (inl (e, apart, f)) (inl (g, apart', k)) = (cc, cc)
maybe-agree P Q agree tokens a b r s (inl (e, apart, f)) (inr (t, (prefix, g, q), k)) = absurd (apart prefix (sym e ∙ g))
maybe-agree P Q agree tokens a b r s (inr (t, (prefix, g, q), k)) (inl (e, apart, f)) = absurd (apart prefix (sym e ∙ g))
maybe-agree P Q agree tokens a b r s (inr (t, p, k)) (inr (u, q, l)) = let (e, f) = parens-agree P Q agree tokens t u r s p q in (cc, f)

-- an entry
key-agree : (P Q : Spelling Tree) → Agree P Q → Agree (KeyAnd P) (KeyAnd Q)
key-agree P Q agree tokens a b r s (prefix, e, k, p) (prefix', e', k', q) =
    let f : prefix' ≡ prefix = cc in
    let t : a.0 ≡ b.0 = cc in
    let (u, v) = agree prefix a.1 b.1 r s p (subst (λ x. Q x b.1 s) f q) in (pair-path t u, v)

-- a label
label-agree : Agree Label Label
label-agree tokens a b r s e f = (cc, cc)

-- what stands after a label
word-agree : (w : Word) (text : List ℕ) (P Q : Spelling Tree) → Agree P Q → Agree (BehindWord w text P) (BehindWord w text Q)
word-agree leaf_word text P Q agree tokens a b r s (e, f) (g, h) = (cc, cc)
word-agree none_word text P Q agree tokens a b r s (e, f) (g, h) = (cc, cc)
word-agree some_word text P Q agree tokens a b r s (t, p, f) (u, q, g) = let (e, k) = parens-agree P Q agree tokens t u r s p q in (cc, k)
word-agree ok_word text P Q agree tokens a b r s (t, p, f) (u, q, g) = let (e, k) = maybe-agree P Q agree tokens t u r s p q in (cc, k)
word-agree err_word text P Q agree tokens a b r s (t, p, f) (u, q, g) = let (e, k) = maybe-agree P Q agree tokens t u r s p q in (cc, k)
word-agree case_word text P Q agree tokens a b r s (t, p, f) (u, q, g) = let (e, k) = maybe-agree P Q agree tokens t u r s p q in (cc, k)

-- no entry begins with what is no key
key-begins : (close : Token) → (IsKey close → ⊥) → (P : Spelling Tree) → NeverBegins close (KeyAnd P)
key-begins close never P behind rest e (prefix, g, k, p) = let same : e.0 ≡ close = cc in never (subst IsKey same k)

-- entries begin with a key and a colon, flags with a label and no colon
entries-not-flags : (P : Spelling Tree) (tokens : List Token) (es : List (Token × Tree)) (texts : List (List ℕ)) (r s : List Token) → 0 < length es → 0 < length texts →
    Items brace_close (KeyAnd P) tokens es r → Items brace_close Label tokens texts s → ⊥
entries-not-flags P tokens [] texts r s l k h g = omega arith
entries-not-flags P tokens (e ∷ es) [] r s l k h g = omega arith
entries-not-flags P tokens (e ∷ es) (text ∷ []) r s l k (behind, (prefix, f, key, p), h) (behind', g, inl c) = cc
entries-not-flags P tokens (e ∷ es) (text ∷ []) r s l k (behind, (prefix, f, key, p), h) (behind', g, inr c) = cc
entries-not-flags P tokens (e ∷ es) (text ∷ other ∷ more) r s l k (behind, (prefix, f, key, p), h) (behind', g, (prefix', behind'', c, i, rest)) = cc

-- what stands first after an open brace
entries-first : (P : Spelling Tree) (tokens : List Token) (es : List (Token × Tree)) (r : List Token) → 0 < length es → Items brace_close (KeyAnd P) tokens es r → (more : List Token) →
    (tokens ≡ brace_close ∷ more → ⊥) × (tokens ≡ colon ∷ more → ⊥)
entries-first P tokens [] r l h more = absurd (omega arith)
entries-first P tokens (e ∷ es) r l (behind, (prefix, f, key, p), h) more =
    (λ g. let same : e.0 ≡ brace_close = cc in subst IsKey same key, λ g. let same : e.0 ≡ colon = cc in subst IsKey same key)

-- flags begin with neither a close nor a colon
flags-first : (tokens : List Token) (texts : List (List ℕ)) (r : List Token) → 0 < length texts → Items brace_close Label tokens texts r → (more : List Token) →
    (tokens ≡ brace_close ∷ more → ⊥) × (tokens ≡ colon ∷ more → ⊥)
flags-first tokens [] r l h more = absurd (omega arith)
flags-first tokens (text ∷ texts) r l (behind, f, h) more = (λ g. cc, λ g. cc)

-- what stands in braces
braces-agree : (P Q : Spelling Tree) → Agree P Q → Agree (InBraces P) (InBraces Q)
braces-agree P Q agree tokens a b r s (inl (e, f)) (inl (g, h)) = (cc, cc)
braces-agree P Q agree tokens a b r s (inl (e, f)) (inr (inl (g, h))) = let no_mark : brace_close ≡ colon = cc in cc
braces-agree P Q agree tokens a b r s (inl (e, f)) (inr (inr (inl (es, l, h, k)))) = absurd ((entries-first Q tokens es s l h r).0 e)
braces-agree P Q agree tokens a b r s (inl (e, f)) (inr (inr (inr (texts, l, h, d, k)))) = absurd ((flags-first tokens texts s l h r).0 e)
braces-agree P Q agree tokens a b r s (inr (inl (e, f))) (inl (g, h)) = let no_mark : brace_close ≡ colon = cc in cc
braces-agree P Q agree tokens a b r s (inr (inl (e, f))) (inr (inl (g, h))) = (cc, cc)
braces-agree P Q agree tokens a b r s (inr (inl (e, f))) (inr (inr (inl (es, l, h, k)))) = absurd ((entries-first Q tokens es s l h (brace_close ∷ r)).1 e)
braces-agree P Q agree tokens a b r s (inr (inl (e, f))) (inr (inr (inr (texts, l, h, d, k)))) = absurd ((flags-first tokens texts s l h (brace_close ∷ r)).1 e)
braces-agree P Q agree tokens a b r s (inr (inr (inl (es, l, h, k)))) (inl (e, f)) = absurd ((entries-first P tokens es r l h s).0 e)
braces-agree P Q agree tokens a b r s (inr (inr (inl (es, l, h, k)))) (inr (inl (e, f))) = absurd ((entries-first P tokens es r l h (brace_close ∷ s)).1 e)
braces-agree P Q agree tokens a b r s (inr (inr (inl (es, l, h, k)))) (inr (inr (inl (fs, l', h', k')))) =
    let (e, f) = items-agree brace_close (KeyAnd P) (KeyAnd Q) (λ x. cc) (key-begins brace_close (λ x. x) P) (key-begins brace_close (λ x. x) Q) (key-agree P Q agree) tokens es fs r s h h' in
    (k ∙ ap (λ x. tree.entries (tree_entries x)) e ∙ sym k', f)
braces-agree P Q agree tokens a b r s (inr (inr (inl (es, l, h, k)))) (inr (inr (inr (texts, l', h', d', k')))) = absurd (entries-not-flags P tokens es texts r s l l' h h')
braces-agree P Q agree tokens a b r s (inr (inr (inr (texts, l, h, d, k)))) (inl (e, f)) = absurd ((flags-first tokens texts r l h s).0 e)
braces-agree P Q agree tokens a b r s (inr (inr (inr (texts, l, h, d, k)))) (inr (inl (e, f))) = absurd ((flags-first tokens texts r l h (brace_close ∷ s)).1 e)
braces-agree P Q agree tokens a b r s (inr (inr (inr (texts, l', h', d', k')))) (inr (inr (inl (es, l, h, k)))) = absurd (entries-not-flags Q tokens es texts s r l l' h h')
braces-agree P Q agree tokens a b r s (inr (inr (inr (texts, l, h, d, k)))) (inr (inr (inr (others, l', h', d', k')))) =
    let (e, f) = items-agree brace_close Label Label (λ x. cc) (λ behind rest text x. cc) (λ behind rest text x. cc) label-agree tokens texts others r s h h' in
    (k ∙ ap (λ x. tree.flags (in_order x)) e ∙ sym k', f)

-- a tree, where the trees in it agree
tree-agree : (P Q : Spelling Tree) → NeverBegins paren_close P → NeverBegins paren_close Q → NeverBegins bracket_close P → NeverBegins bracket_close Q → Agree P Q → Agree (ATree P) (ATree Q)
tree-agree P Q pp pq bp bq agree [] a b r s h k = absurd h
tree-agree P Q pp pq bp bq agree (paren_open ∷ prefix) a b r s (items, l, h, e) (items', l', h', e') =
    let (same, f) = items-agree paren_close P Q (λ x. cc) pp pq agree prefix items items' r s h h' in (e ∙ ap (λ x. tree.tuple (trees x)) same ∙ sym e', f)
tree-agree P Q pp pq bp bq agree (bracket_open ∷ prefix) a b r s (items, h, e) (items', h', e') =
    let (same, f) = items-agree bracket_close P Q (λ x. cc) bp bq agree prefix items items' r s h h' in (e ∙ ap (λ x. tree.list (trees x)) same ∙ sym e', f)
tree-agree P Q pp pq bp bq agree (brace_open ∷ prefix) a b r s h k = braces-agree P Q agree prefix a b r s h k
tree-agree P Q pp pq bp bq agree (label text ∷ behind) a b r s h k = word-agree (word_of text) text P Q agree behind a b r s h k
tree-agree P Q pp pq bp bq agree (number text ∷ behind) a b r s (e, f) (g, h) = (cc, cc)
tree-agree P Q pp pq bp bq agree (char text ∷ behind) a b r s (e, f) (g, h) = (cc, cc)
tree-agree P Q pp pq bp bq agree (string text ∷ behind) a b r s (e, f) (g, h) = (cc, cc)
tree-agree P Q pp pq bp bq agree (multiline text ∷ behind) a b r s (e, f) (g, h) = (cc, cc)
tree-agree P Q pp pq bp bq agree (token ∷ behind) a b r s h k = absurd h

-- no tree begins with `)`
no-paren_close : (n : ℕ) → NeverBegins paren_close (Takes n)
no-paren_close zero behind rest t h = h
no-paren_close (suc n) behind rest t h = h

-- no tree begins with `]`
no-bracket_close : (n : ℕ) → NeverBegins bracket_close (Takes n)
no-bracket_close zero behind rest t h = h
no-bracket_close (suc n) behind rest t h = h

-- no tokens begin with two trees
pub one_tree : (n m : ℕ) → Agree (Takes n) (Takes m)
one_tree zero m tokens a b r s h k = absurd h
one_tree (suc n) zero tokens a b r s h k = absurd k
one_tree (suc n) (suc m) tokens a b r s h k =
    tree-agree (Takes n) (Takes m) (no-paren_close n) (no-paren_close m) (no-bracket_close n) (no-bracket_close m) (one_tree n m) tokens a b r s h k
