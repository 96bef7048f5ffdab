-- What stands next stands alone there.
use Rattle.std.proofs.Common.{◌≡◌, ℕ, ◌≤◌, ◌<◌, ◌+◌, List, refl, sym, ap, subst, ◌∙◌, length, drop, arith, Option, Some, None, Result, Ok, Err, length-drop}
use Rattle.std.specs.declared.ops.Range.{Range}
use Rattle.std.specs.Iterator.{MakesProgress, at_most}
use Rattle.wave_lex.specs.declared.found.Found.{Found}
use Rattle.wave_lex.specs.declared.found.Found.TheVariants as found
use Rattle.wave_lex.specs.declared.lex.Token.{Token}
use Rattle.wave_lex.specs.Tokens.{shape, invalid}
use Rattle.wave_lex.specs.Tokenization.{Lexed, Passes, IsWhitespace, IsLongestToken, IsInvalid, NextIs, item_of, remainder_of, span}
use Rattle.wave_lex.proofs.Tokenization.Classes.{shape_not_empty}
use Rattle.wave_lex.proofs.LongestPrefix.ByComputing.{prefix_positive}
use Rattle.wave_lex.proofs.Tokenization.OneTokenization.{one_class, same_whitespace, no_token_left}

-- two lexers with equal parts are one
lexed_path : {l m : Lexed} → l.source ≡ m.source → l.start ≡ m.start → l.end ≡ m.end → l ≡ m
lexed_path e f g = λ i. record { source = e i; start = f i; end = g i }

-- what passes an item stands at one place
passes_one : (l m n : Lexed) (g h k j : ℕ) → Passes l m g k → Passes l n h j → g ≡ h → k ≡ j → m ≡ n
passes_one l m n g h k j p q e f = lexed_path (p.source ∙ sym q.source) (omega (arith, p.start, q.start)) (omega (arith, p.end, q.end))

-- the next token is one
tokens_one : (s : List ℕ) (g h k j : ℕ) (c d : Token) → IsWhitespace s g → IsWhitespace s h → IsLongestToken (drop g s) k c → IsLongestToken (drop h s) j d → (g ≡ h) × (k ≡ j) × (c ≡ d)
tokens_one s g h k j c d a b t u =
    let whitespaces : h ≡ g = same_whitespace s h g b a in
    let there : IsLongestToken (drop g s) j d = subst (λ (z : ℕ). IsLongestToken (drop z s) j d) whitespaces u in
    let x : j ≤ k = t.longest j d there.is in
    let y : k ≤ j = there.longest k c t.is in
    (sym whitespaces, omega arith, one_class (drop g s) k j c d t.is there.is)

-- the next invalid token is one
invalid_one : (s : List ℕ) (g h k j : ℕ) → IsWhitespace s g → IsWhitespace s h → IsInvalid (drop g s) k → IsInvalid (drop h s) j → (g ≡ h) × (k ≡ j)
invalid_one s g h k j a b t u =
    let whitespaces : h ≡ g = same_whitespace s h g b a in
    let there : IsInvalid (drop g s) j = subst (λ (z : ℕ). IsInvalid (drop z s) j) whitespaces u in
    let x : j ≤ k = t.1.1 j there.1.0 in
    let y : k ≤ j = there.1.1 k t.1.0 in
    (sym whitespaces, omega arith)

-- where a token stands none is invalid
token_not_invalid : (s : List ℕ) (g h k j : ℕ) (c : Token) → IsWhitespace s g → IsWhitespace s h → IsLongestToken (drop g s) k c → IsInvalid (drop h s) j → ⊥
token_not_invalid s g h k j c a b t u =
    let whitespaces : h ≡ g = same_whitespace s h g b a in
    let there : IsInvalid (drop g s) j = subst (λ (z : ℕ). IsInvalid (drop z s) j) whitespaces u in
    there.0 k c t.is

-- at the end no token is invalid
invalid_not_end : (s : List ℕ) (h j : ℕ) → IsWhitespace s (length s) → IsWhitespace s h → IsInvalid (drop h s) j → ⊥
invalid_not_end s h j a b u =
    let all : h ≡ length s = same_whitespace s h (length s) b a in
    let some : 0 < j = prefix_positive invalid (drop h s) j refl u.1.0 in
    let fits : j ≤ length (drop h s) = u.1.0.fits in
    omega (arith, length-drop h s)

-- the next item is one, and so is the lexer after it
pub next_one : (l m n : Lexed) (r q : Option (Result Token (Range ℕ))) → NextIs l m r → NextIs l n q → (m ≡ n) × (r ≡ q)
next_one l m n None None p q = (passes_one l m n _ _ _ _ p q refl refl, refl)
next_one l m n None (Some (Ok d)) p (h, j, q, u) = absurd (no_token_left (remainder_of l) h j d p.skipped q.skipped u)
next_one l m n None (Some (Err b)) p (h, j, q, u, f) = absurd (invalid_not_end (remainder_of l) h j p.skipped q.skipped u)
next_one l m n (Some (Ok c)) None (g, k, p, t) q = absurd (no_token_left (remainder_of l) g k c q.skipped p.skipped t)
next_one l m n (Some (Ok c)) (Some (Ok d)) (g, k, p, t) (h, j, q, u) =
    let one = tokens_one (remainder_of l) g h k j c d p.skipped q.skipped t u in
    (passes_one l m n g h k j p q one.0 one.1, ap (λ x. Some (Ok x)) one.2)
next_one l m n (Some (Ok c)) (Some (Err b)) (g, k, p, t) (h, j, q, u, f) = absurd (token_not_invalid (remainder_of l) g h k j c p.skipped q.skipped t u)
next_one l m n (Some (Err a)) None (g, k, p, t, e) q = absurd (invalid_not_end (remainder_of l) g k q.skipped p.skipped t)
next_one l m n (Some (Err a)) (Some (Ok d)) (g, k, p, t, e) (h, j, q, u) = absurd (token_not_invalid (remainder_of l) h g j k d q.skipped p.skipped u t)
next_one l m n (Some (Err a)) (Some (Err b)) (g, k, p, t, e) (h, j, q, u, f) =
    let one = invalid_one (remainder_of l) g h k j p.skipped q.skipped t u in
    let same = passes_one l m n g h k j p q one.0 one.1 in
    (same, ap (λ x. Some (Err x)) (e ∙ ap (λ (z : Lexed). record { start = z.start; end = z.end }) same ∙ sym f))

-- after a token less is left
pub next_less : (l m : Lexed) (c : Token) → NextIs l m (Some (Ok c)) → length (remainder_of m) < length (remainder_of l)
next_less l m c (g, k, p, t) =
    let some : 0 < k = prefix_positive (shape c) (drop g (remainder_of l)) k (shape_not_empty c) t.is.0 in
    let fits : k ≤ length (drop g (remainder_of l)) = t.is.0.fits in
    let inside : g ≤ length (remainder_of l) = p.skipped.0.fits in
    let there : length (remainder_of m) ≡ length (drop (l.end + g + k) l.source) = ap (λ (z : Lexed). length (drop z.end z.source)) (lexed_path {m = record { source = l.source; start = m.start; end = l.end + g + k }} p.source refl p.end) in
    omega (arith, length-drop l.end l.source, length-drop g (remainder_of l), length-drop (l.end + g + k) l.source)

-- after an invalid token less is left
pub bad_less : (l m : Lexed) (bad : Range ℕ) → NextIs l m (Some (Err bad)) → length (remainder_of m) < length (remainder_of l)
bad_less l m bad (g, k, p, t, e) =
    let some : 0 < k = prefix_positive invalid (drop g (remainder_of l)) k refl t.1.0 in
    let fits : k ≤ length (drop g (remainder_of l)) = t.1.0.fits in
    let inside : g ≤ length (remainder_of l) = p.skipped.0.fits in
    let there : length (remainder_of m) ≡ length (drop (l.end + g + k) l.source) = ap (λ (z : Lexed). length (drop z.end z.source)) (lexed_path {m = record { source = l.source; start = m.start; end = l.end + g + k }} p.source refl p.end) in
    omega (arith, length-drop l.end l.source, length-drop g (remainder_of l), length-drop (l.end + g + k) l.source)

-- each item makes progress
pub item_goes : (can : Lexed → Type 0) → ((l : Lexed) → can l) → (l m : Lexed) (f : Found) → NextIs l m (item_of f m) → MakesProgress can (λ (z : Lexed). at_most (length (remainder_of z))) l (item_of f m) m
item_goes can all l m (found.Token c) h = record { on = λ _. (all m, tt, next_less l m c h); keeps = all m; rests = λ _. tt }
item_goes can all l m found.Invalid h = record { on = λ _. (all m, tt, bad_less l m (span m.start m.end) h); keeps = all m; rests = λ _. tt }
item_goes can all l m found.End h = record { on = λ _. tt; keeps = tt; rests = λ _. tt }
