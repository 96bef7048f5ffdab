-- The tokens of the text of a type are the text's, and no others.
use Rattle.std.proofs.Common.{◌≡◌, ℕ, zero, suc, get_or, ◌+◌, ◌≤◌, ◌<◌, Bool, true, false, List, [], ◌∷◌, ◌++◌, inl, inr, Option, Some, None, Result, Ok, Err, refl, sym, ap, subst, ◌∙◌, arith, length, take, drop, length-drop}
use Rattle.std.specs.Prelude.{min, slice_range}
use Rattle.std.specs.declared.ops.Range.{Range}
use Rattle.std.proofs.lemmas.List.{length-take}
use Rattle.wave_lex.specs.declared.lex.Token.{Token}
use Rattle.wave_lex.specs.Tokens.{invalid, shape}
use Rattle.wave_wasm.specs.Names.{is_one_of}
use Rattle.wave_lex.specs.Tokenization.{IsWhitespace, IsLongestToken, IsInvalid, Lexed, Passes, NextIs, remainder_of}
use Rattle.wave_lex.proofs.Tokenization.Classes.{shape_not_empty}
use Rattle.wave_lex.proofs.Tokenization.OneTokenization.{same_whitespace, no_token_left}
use Rattle.wave_lex.proofs.Tokenization.LexerRuns.{passed_text, passed_rest}
use Rattle.wave_lex.proofs.LongestPrefix.ByComputing.{prefix_positive}
use Rattle.wave_type.specs.declared.tokens.Token.{Token as Piece}
use Rattle.wave_type.specs.TypeSpelling.{Tokens, IsItem, IsTokenizedTo}
use Rattle.wave_type.specs.Private.TypeTokens.{texts_of, item_of, items_of, IsKnownAs}
use Rattle.wave_type.specs.TypeItems.{Item, texts_of_items, StandsAs, AreItems}
use Rattle.wave_type.specs.TypeWords.{marks_of_types}

one_item : (s : List ℕ) (k j : ℕ) → IsItem s k → IsItem s j → k ≡ j
one_item s k j (inl (c, t)) (inl (d, u)) = let x : j ≤ k = t.longest j d u.is in let y : k ≤ j = u.longest k c t.is in omega arith
one_item s k j (inl (c, t)) (inr u) = absurd (u.0 k c t.is)
one_item s k j (inr t) (inl (d, u)) = absurd (t.0 j d u.is)
one_item s k j (inr t) (inr u) = let x : j ≤ k = t.1.1 j u.1.0 in let y : k ≤ j = u.1.1 k t.1.0 in omega arith

-- an invalid token takes bytes
invalid_some : (s : List ℕ) (k : ℕ) → IsInvalid s k → 0 < k
invalid_some s k h = prefix_positive invalid s k refl h.1.0

no_item_left : (s : List ℕ) (g k : ℕ) → IsWhitespace s (length s) → IsWhitespace s g → IsItem (drop g s) k → ⊥
no_item_left s g k a b (inl (c, t)) = no_token_left s g k c a b t
no_item_left s g k a b (inr t) =
    let all : g ≡ length s = same_whitespace s g (length s) b a in
    let some : 0 < k = invalid_some (drop g s) k t in
    let fits : k ≤ length (drop g s) = t.1.0.fits in
    omega (arith, length-drop g s)

-- a text is tokenized in one way
pub one_cut : (ts us : Tokens) (s : List ℕ) → IsTokenizedTo s ts → IsTokenizedTo s us → ts ≡ us
one_cut [] [] s a b = refl
one_cut [] (u ∷ us) s a (g, k, whitespace, item, e, more) = absurd (no_item_left s g k a whitespace item)
one_cut (t ∷ ts) [] s (g, k, whitespace, item, e, more) b = absurd (no_item_left s g k b whitespace item)
one_cut (t ∷ ts) (u ∷ us) s (g, k, whitespace, item, e, more) (h, j, whitespace', item', e', more') =
    let whitespaces : h ≡ g = same_whitespace s h g whitespace' whitespace in
    let there : IsItem (drop g s) j = subst (λ z. IsItem (drop z s) j) whitespaces item' in
    let sizes : j ≡ k = one_item (drop g s) j k there item in
    let text : t ≡ u = e ∙ sym (e' ∙ (ap (λ z. take j (drop z s)) whitespaces ∙ ap (λ z. take z (drop g s)) sizes)) in
    let rest : IsTokenizedTo (drop (g + k) s) us = subst (λ z. IsTokenizedTo (drop (g + z) s) us) sizes (subst (λ z. IsTokenizedTo (drop (z + j) s) us) whitespaces more') in
    let tail : ts ≡ us = one_cut ts us (drop (g + k) s) more rest in
    λ i. text i ∷ tail i

-- ---- what a lexer passes

less_left : (l m : Lexed) (g k : ℕ) → Passes l m g k → 0 < k → k ≤ length (drop g (remainder_of l)) → length (remainder_of m) < length (remainder_of l)
less_left l m g k p some fits = omega (arith, ap length (passed_rest l m g k p), length-drop (g + k) (remainder_of l), length-drop g (remainder_of l), p.skipped.0.fits)

-- each item leaves less
pub next_less : (l m : Lexed) (item : Result Token (Range ℕ)) → NextIs l m (Some item) → length (remainder_of m) < length (remainder_of l)
next_less l m (Ok c) (g, k, p, is) = less_left l m g k p (prefix_positive (shape c) (drop g (remainder_of l)) k (shape_not_empty c) is.is.0) is.is.0.fits
next_less l m (Err bad) (g, k, p, is, at) = less_left l m g k p (invalid_some (drop g (remainder_of l)) k is) is.1.0.fits

-- and they come from one source
pub next_source : (l m : Lexed) (item : Option (Result Token (Range ℕ))) → NextIs l m item → m.source ≡ l.source
next_source l m None p = p.source
next_source l m (Some (Ok c)) (g, k, p, is) = p.source
next_source l m (Some (Err bad)) (g, k, p, is, at) = p.source

-- ---- items

item_stands : (s : List ℕ) (k : ℕ) (known : Bool) → StandsAs s k known → IsItem s k
item_stands s k true (inl h) = inl h
item_stands s k true (inr h) = inr h.0
item_stands s k false h = inr h.0

-- the texts of items cut the text
pub items_cut : (s : List ℕ) (at : ℕ) (items : List Item) → AreItems s at items → IsTokenizedTo s (texts_of_items items)
items_cut s at [] whitespace = whitespace
items_cut s at (i ∷ items) (g, k, whitespace, stands, text, start, more) = (g, k, whitespace, item_stands (drop g s) k i.known stands, text, items_cut (drop (g + k) s) (at + (g + k)) items more)

pub texts_of_kept : (tokens : List Piece) → texts_of_items (items_of tokens) ≡ texts_of tokens
texts_of_kept [] = refl
texts_of_kept (t ∷ tokens) = ap (λ l. t.text.now ∷ l) (texts_of_kept tokens)

item_fits : (s : List ℕ) (k : ℕ) → IsItem s k → k ≤ length s
item_fits s k (inl h) = h.1.is.0.fits
item_fits s k (inr h) = h.1.0.fits

-- an item lies in the text
pub items_within : (s : List ℕ) (at n : ℕ) (tokens : List Piece) (t : Piece) → AreItems s at (items_of tokens) → n < length tokens → t ≡ get_or tokens n t → t.start + length t.text.now ≤ at + length s
items_within s at n [] t h lt is = absurd (omega arith)
items_within s at zero (u ∷ tokens) t (g, k, whitespace, stands, text, start, more) lt is =
    let fits : k ≤ length (drop g s) = item_fits (drop g s) k (item_stands (drop g s) k u.known stands) in
    let size : length u.text.now ≡ min k (length (drop g s)) = ap length text ∙ length-take k (drop g s) in
    subst (λ (z : Piece). z.start + length z.text.now ≤ at + length s) (sym is) (omega (arith, size, fits, start, whitespace.0.fits, length-drop g s))
items_within s at (suc n) (u ∷ tokens) t (g, k, whitespace, stands, text, start, more) lt is =
    let fits : k ≤ length (drop g s) = item_fits (drop g s) k (item_stands (drop g s) k u.known stands) in
    omega (arith, items_within (drop (g + k) s) (at + (g + k)) n tokens t more (omega arith) is, length-drop (g + k) s, length-drop g s, whitespace.0.fits, fits)

-- the item at a place among those that are kept
pub drop_kept : (tokens : List Piece) (n : ℕ) (t : Piece) → n < length tokens → t ≡ get_or tokens n t → drop n (items_of tokens) ≡ item_of t ∷ drop (suc n) (items_of tokens)
drop_kept [] n t lt is = absurd (omega arith)
drop_kept (u ∷ tokens) zero t lt is = ap (λ (z : Piece). item_of z ∷ items_of tokens) (sym is)
drop_kept (u ∷ tokens) (suc n) t lt is = drop_kept tokens n t (omega arith) is

pub drop_all : (tokens : List Piece) (n : ℕ) → length tokens ≤ n → drop n (items_of tokens) ≡ []
drop_all [] zero le = refl
drop_all [] (suc n) le = refl
drop_all (u ∷ tokens) zero le = absurd (omega arith)
drop_all (u ∷ tokens) (suc n) le = drop_all tokens n (omega arith)

-- ---- the loop that takes all tokens

known_invalid : (known : Bool) (s : List ℕ) (k : ℕ) (text : List ℕ) → known ≡ is_one_of marks_of_types text → text ≡ take k s → IsInvalid s k → StandsAs s k known
known_invalid true s k text e same is = inr (is, ap (is_one_of marks_of_types) (sym same) ∙ sym e)
known_invalid false s k text e same is = (is, ap (is_one_of marks_of_types) (sym same) ∙ sym e)

known_token : (known : Bool) (s : List ℕ) (k : ℕ) (class : Token) → known ≡ true → IsLongestToken s k class → StandsAs s k known
known_token true s k class e is = inl (class, is)
known_token false s k class e is = absurd (cc)

-- an item before others
next_items : (l m : Lexed) (item : Result Token (Range ℕ)) (t : Item) (items : List Item) → NextIs l m (Some item) → t.text ≡ slice_range m.source m.start m.end → t.start ≡ m.start → IsKnownAs item t.text t.known → AreItems (remainder_of m) m.end items → AreItems (remainder_of l) l.end (t ∷ items)
next_items l m (Ok c) t items (g, k, p, is) text start known more =
    let place : m.end ≡ l.end + (g + k) = omega (arith, p.end) in
    (g, k, p.skipped, known_token t.known (drop g (remainder_of l)) k c known is, text ∙ passed_text l m g k p, start ∙ p.start, subst (λ z. AreItems (drop (g + k) (remainder_of l)) z items) place (subst (λ z. AreItems z m.end items) (passed_rest l m g k p) more))
next_items l m (Err bad) t items (g, k, p, is, at) text start known more =
    let place : m.end ≡ l.end + (g + k) = omega (arith, p.end) in
    let same : t.text ≡ take k (drop g (remainder_of l)) = text ∙ passed_text l m g k p in
    (g, k, p.skipped, known_invalid t.known (drop g (remainder_of l)) k t.text known same is, same, start ∙ p.start, subst (λ z. AreItems (drop (g + k) (remainder_of l)) z items) place (subst (λ z. AreItems z m.end items) (passed_rest l m g k p) more))

items_behind : (tokens : List Piece) (t : Piece) (items : List Item) → items_of (tokens ++ (t ∷ [])) ++ items ≡ items_of tokens ++ (item_of t ∷ items)
items_behind [] t items = refl
items_behind (u ∷ tokens) t items = ap (λ l. item_of u ∷ l) (items_behind tokens t items)

nil_right : (items : List Item) → items ++ [] ≡ items
nil_right [] = refl
nil_right (t ∷ items) = ap (λ l. t ∷ l) (nil_right items)

-- what was kept, and the items that are left, are those of the text
abbrev pub KeepsItems : List ℕ → List Piece → Lexed → Type 0
KeepsItems s tokens l = (items : List Item) → AreItems (remainder_of l) l.end items → AreItems s 0 (items_of tokens ++ items)

pub items_end : (s : List ℕ) (tokens : List Piece) (l m : Lexed) → KeepsItems s tokens l → NextIs l m None → AreItems s 0 (items_of tokens)
items_end s tokens l m keeps p = subst (AreItems s 0) (nil_right (items_of tokens)) (keeps [] p.skipped)

pub items_more : (s : List ℕ) (tokens more : List Piece) (t : Piece) (l m : Lexed) (item : Result Token (Range ℕ)) → KeepsItems s tokens l → NextIs l m (Some item) → t.text.now ≡ slice_range m.source m.start m.end → t.start ≡ m.start → IsKnownAs item t.text.now t.known → more ≡ tokens ++ (t ∷ []) → KeepsItems s more m
items_more s tokens more t l m item keeps next text start known is items rest =
    let before = keeps (item_of t ∷ items) (next_items l m item (item_of t) items next text start known rest) in
    subst (AreItems s 0) (sym (ap (λ z. items_of z ++ items) is ∙ items_behind tokens t items)) before
