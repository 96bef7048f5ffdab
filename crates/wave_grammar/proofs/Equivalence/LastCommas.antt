-- The commas before a close mean nothing.
use Rattle.std.proofs.Common.{ℕ, zero, suc, ◌≡◌, ◌≢◌, inl, inr, List, [], ◌∷◌, refl, sym, ap, ◌∙◌, subst}
use Rattle.wave_grammar.specs.Token.{Token, comma, colon, number, label, char, string, multiline, brace_open, brace_close, paren_open, paren_close, bracket_open, bracket_close}
use Rattle.wave_grammar.specs.CommaSeparated.{Spelling, Items, FurtherItems}
use Rattle.wave_grammar.specs.TypedGrammar.{InParens}
use Rattle.wave_grammar.specs.Tree.{Tree, Takes, ATree, InBraces, BehindWord, MaybeInParens, KeyAnd, Label, IsKey, Word, word_of, leaf_word, none_word, some_word, ok_word, err_word, case_word}
use Rattle.wave_grammar.specs.EquivalenceLaws.{put_token, without_last_commas, LastCommasMayGo, LastCommasMeanNothing}
use Rattle.wave_grammar.proofs.Unambiguity.Trees.{one_tree}
use Rattle.wave_grammar.proofs.Equivalence.ByTree.{carried_over}

-- what is spelled is spelled without the commas too
abbrev Drops : {A : Type 0} → Spelling A → Type 0
Drops {A} P = (tokens : List Token) (a : A) (rest : List Token) → P tokens a rest → P (without_last_commas tokens) a (without_last_commas rest)

-- no close stands first
abbrev NoClose : List Token → Type 0
NoClose tokens = (more : List Token) → (tokens ≢ brace_close ∷ more) × (tokens ≢ paren_close ∷ more) × (tokens ≢ bracket_close ∷ more)

-- what is spelled begins with no close
abbrev BeginsOpen : {A : Type 0} → Spelling A → Type 0
BeginsOpen {A} P = (tokens : List Token) (a : A) (rest : List Token) → P tokens a rest → NoClose tokens

-- a close stays, and a comma before it goes
abbrev IsClose : Token → Type 0
IsClose close = ((more : List Token) → put_token close more ≡ close ∷ more) × ((more : List Token) → put_token comma (close ∷ more) ≡ close ∷ more)

comma_stays : (tokens : List Token) → NoClose tokens → put_token comma tokens ≡ comma ∷ tokens
comma_stays [] h = refl
comma_stays (brace_close ∷ more) h = absurd ((h more).0 refl)
comma_stays (paren_close ∷ more) h = absurd ((h more).1 refl)
comma_stays (bracket_close ∷ more) h = absurd ((h more).2 refl)
comma_stays (token ∷ more) h = refl

key_stays : (key : Token) (more : List Token) → IsKey key → put_token key more ≡ key ∷ more
key_stays (number text) more h = refl
key_stays (label text) more h = refl
key_stays (char text) more h = refl
key_stays (string text) more h = refl
key_stays (multiline text) more h = refl
key_stays _ more h = absurd h

-- ---- items

further_drop : {A : Type 0} (close : Token) (P : Spelling A) → IsClose close → BeginsOpen P → Drops P → (tokens : List Token) (items : List A) (rest : List Token) → FurtherItems close P tokens items rest → FurtherItems close P (without_last_commas tokens) items (without_last_commas rest)
further_drop close P is begins drops tokens [] rest (inl e) = inl (ap without_last_commas e ∙ is.0 (without_last_commas rest))
further_drop close P is begins drops tokens [] rest (inr e) = inl (ap without_last_commas e ∙ (ap (put_token comma) (is.0 (without_last_commas rest)) ∙ is.1 (without_last_commas rest)))
further_drop close P is begins drops tokens (a ∷ more) rest (prefix, behind, e, p, h) =
    let q : P (without_last_commas prefix) a (without_last_commas behind) = drops prefix a behind p in
    (without_last_commas prefix, without_last_commas behind, ap without_last_commas e ∙ comma_stays (without_last_commas prefix) (begins (without_last_commas prefix) a (without_last_commas behind) q), q, further_drop close P is begins drops behind more rest h)

items_drop : {A : Type 0} (close : Token) (P : Spelling A) → IsClose close → BeginsOpen P → Drops P → (tokens : List Token) (items : List A) (rest : List Token) → Items close P tokens items rest → Items close P (without_last_commas tokens) items (without_last_commas rest)
items_drop close P is begins drops tokens [] rest e = ap without_last_commas e ∙ is.0 (without_last_commas rest)
items_drop close P is begins drops tokens (a ∷ more) rest (behind, p, h) = (without_last_commas behind, drops tokens a behind p, further_drop close P is begins drops behind more rest h)

key_begins : (P : Spelling Tree) → BeginsOpen (KeyAnd P)
key_begins P tokens entry rest (prefix, e, key, p) more = (
  λ f. let same : entry.0 ≡ brace_close = cc in subst IsKey same key,
  λ f. let same : entry.0 ≡ paren_close = cc in subst IsKey same key,
  λ f. let same : entry.0 ≡ bracket_close = cc in subst IsKey same key,
)

key_drop : (P : Spelling Tree) → Drops P → Drops (KeyAnd P)
key_drop P drops tokens entry rest (prefix, e, key, p) =
    (without_last_commas prefix, ap without_last_commas e ∙ key_stays entry.0 (colon ∷ without_last_commas prefix) key, key, drops prefix entry.1 rest p)

label_begins : BeginsOpen Label
label_begins tokens text rest e more = (λ f. cc, λ f. cc, λ f. cc)

label_drop : Drops Label
label_drop tokens text rest e = ap without_last_commas e

-- ---- trees

comma_first : (tokens more : List Token) → put_token comma tokens ≡ paren_open ∷ more → ⊥
comma_first [] more e = cc
comma_first (brace_close ∷ ts) more e = cc
comma_first (paren_close ∷ ts) more e = cc
comma_first (bracket_close ∷ ts) more e = cc
comma_first (token ∷ ts) more e = cc

paren_before : (rest more : List Token) → ((ts : List Token) → rest ≢ paren_open ∷ ts) → without_last_commas rest ≡ paren_open ∷ more → ⊥
paren_before [] more none e = cc
paren_before (paren_open ∷ ts) more none e = none ts refl
paren_before (comma ∷ ts) more none e = comma_first (without_last_commas ts) more e
paren_before (token ∷ ts) more none e = cc

parens_drop : (P : Spelling Tree) → Drops P → Drops (InParens P)
parens_drop P drops tokens t rest (prefix, e, p) = (without_last_commas prefix, ap without_last_commas e, drops prefix t (paren_close ∷ rest) p)

maybe_drop : (P : Spelling Tree) → Drops P → Drops (MaybeInParens P)
maybe_drop P drops tokens payload rest (inl (e, none, f)) = inl (ap without_last_commas e, λ more g. paren_before rest more none g, f)
maybe_drop P drops tokens payload rest (inr (t, p, f)) = inr (t, parens_drop P drops tokens t rest p, f)

word_drop : (w : Word) (text : List ℕ) (P : Spelling Tree) → Drops P → Drops (BehindWord w text P)
word_drop leaf_word text P drops tokens t rest (e, f) = (ap without_last_commas e, f)
word_drop none_word text P drops tokens t rest (e, f) = (ap without_last_commas e, f)
word_drop some_word text P drops tokens t rest (inner, p, f) = (inner, parens_drop P drops tokens inner rest p, f)
word_drop ok_word text P drops tokens t rest (payload, p, f) = (payload, maybe_drop P drops tokens payload rest p, f)
word_drop err_word text P drops tokens t rest (payload, p, f) = (payload, maybe_drop P drops tokens payload rest p, f)
word_drop case_word text P drops tokens t rest (payload, p, f) = (payload, maybe_drop P drops tokens payload rest p, f)

braces_drop : (P : Spelling Tree) → Drops P → Drops (InBraces P)
braces_drop P drops tokens t rest (inl (e, f)) = inl (ap without_last_commas e, f)
braces_drop P drops tokens t rest (inr (inl (e, f))) = inr (inl (ap without_last_commas e, f))
braces_drop P drops tokens t rest (inr (inr (inl (es, l, h, f)))) =
    inr (inr (inl (es, l, items_drop brace_close (KeyAnd P) (λ more. refl, λ more. refl) (key_begins P) (key_drop P drops) tokens es rest h, f)))
braces_drop P drops tokens t rest (inr (inr (inr (texts, l, h, d, f)))) =
    inr (inr (inr (texts, l, items_drop brace_close Label (λ more. refl, λ more. refl) label_begins label_drop tokens texts rest h, d, f)))

tree_drop : (P : Spelling Tree) → BeginsOpen P → Drops P → Drops (ATree P)
tree_drop P begins drops [] t rest h = absurd h
tree_drop P begins drops (paren_open ∷ prefix) t rest (items, l, h, e) = (items, l, items_drop paren_close P (λ more. refl, λ more. refl) begins drops prefix items rest h, e)
tree_drop P begins drops (bracket_open ∷ prefix) t rest (items, h, e) = (items, items_drop bracket_close P (λ more. refl, λ more. refl) begins drops prefix items rest h, e)
tree_drop P begins drops (brace_open ∷ prefix) t rest h = braces_drop P drops prefix t rest h
tree_drop P begins drops (label text ∷ behind) t rest h = word_drop (word_of text) text P drops behind t rest h
tree_drop P begins drops (number text ∷ behind) t rest (e, f) = (ap without_last_commas e, f)
tree_drop P begins drops (char text ∷ behind) t rest (e, f) = (ap without_last_commas e, f)
tree_drop P begins drops (string text ∷ behind) t rest (e, f) = (ap without_last_commas e, f)
tree_drop P begins drops (multiline text ∷ behind) t rest (e, f) = (ap without_last_commas e, f)
tree_drop P begins drops (token ∷ behind) t rest h = absurd h

tree_begins : (P : Spelling Tree) → BeginsOpen (ATree P)
tree_begins P tokens t rest h more = (
  λ e. subst (λ (z : List Token). ATree P z t rest) e h,
  λ e. subst (λ (z : List Token). ATree P z t rest) e h,
  λ e. subst (λ (z : List Token). ATree P z t rest) e h,
)

takes_begins : (n : ℕ) → BeginsOpen (Takes n)
takes_begins zero tokens t rest h = absurd h
takes_begins (suc n) tokens t rest h = tree_begins (Takes n) tokens t rest h

takes_drop : (n : ℕ) → Drops (Takes n)
takes_drop zero tokens t rest h = absurd h
takes_drop (suc n) tokens t rest h = tree_drop (Takes n) (takes_begins n) (takes_drop n) tokens t rest h

pub last_commas_go : LastCommasMayGo
last_commas_go n tokens t h = takes_drop n tokens t [] h

-- ---- meaning

pub last_commas_mean_nothing : LastCommasMeanNothing
last_commas_mean_nothing s d tokens others t u cut other_cut (n, takes) (m, other_takes) same =
    let here : Takes n (without_last_commas others) t [] = subst (λ (z : List Token). Takes n z t []) same (takes_drop n tokens t [] takes) in
    let is : t ≡ u = (one_tree n m (without_last_commas others) t u [] [] here (takes_drop m others u [] other_takes)).0 in
    let other : Takes m others t [] = subst (λ (z : Tree). Takes m others z []) (sym is) other_takes in (
      is,
      λ T limit v. (carried_over T limit s d n m tokens others t v cut other_cut takes other, carried_over T limit d s m n others tokens t v other_cut cut other takes),
    )
