-- A value is read where a tree stands, and refused where none does.
use Rattle.std.proofs.Common.{ℕ, ◌≡◌, ◌≢◌, inl, inr, List, [], ◌∷◌, ◌++◌, length, Some, None, Ok, Err, refl, sym, ap, subst, ◌∙◌, arith}
use Rattle.std.specs.declared.ops.Range.{Range}
use Rattle.wave_lex.specs.declared.lex.Token as lex
use Rattle.wave_lex.specs.Errors.{Diagnostic}
use Rattle.wave_lex.specs.declared.error.ParserErrorKind.{ParserErrorKind}
use Rattle.wave_lex.specs.declared.error.ParserErrorKind.TheVariants as kind
use Rattle.wave_lex.proofs.Tokenization.NextToken.{next_one}
use Rattle.wave_grammar.specs.Token.{Token, paren_open}
use Rattle.wave_grammar.specs.Tree.{Takes}
use Rattle.wave_grammar.specs.ParserPosition as place
use Rattle.wave_grammar.specs.ParserPosition.{Place, TakesToken, TakesTokens, token_of, text_at}
use Rattle.wave_grammar.specs.PrefixAutomaton as expectation
use Rattle.wave_grammar.specs.PrefixAutomaton.{Expectation, StackSymbol, Step, value, behind_value, behind_label, reads, unexpected, empty_tuple, repeated_flag, too_deep, step, Shifts}
use Rattle.wave_grammar.specs.SyntaxErrors.{StandsAt, IsBehind, IsWithin, IsUnfinished}
use Rattle.wave_tree.specs.ParserLaws.{AreNext, ReadHaveATree, RefusedHaveNone}
use Rattle.wave_grammar.specs.PrefixLaws.{EndsBefore}
use Rattle.wave_tree.proofs.ParserCorrectness.Steps.{place_path}
use Rattle.wave_grammar.proofs.Automaton.Sound.{IsEnd, takes_lead}
use Rattle.wave_grammar.proofs.Automaton.Complete.{led_is_tree}

-- a lexer's answer that is a token
abbrev item : lex.Token → place.Item
item x = Some (Ok x)

-- one token is next
pub token_one : (p q r : Place) (t u : Token) → TakesToken p t q → TakesToken p u r → (t ≡ u) × (q ≡ r)
token_one p q r t u (c, (h, a), e) (d, (k, b), f) =
    let one = next_one p.lexer q.lexer r.lexer (Some (Ok c)) (Some (Ok d)) h k in
    let there : q ≡ r = place_path q r one.0 (a ∙ sym b) in
    let class : c ≡ d = same_class c d one.1 in
    (e ∙ (ap (λ z. token_of z (text_at q)) class ∙ (ap (λ z. token_of d (text_at z)) there ∙ sym f)), there)
  where
    same_class : (c d : lex.Token) → item c ≡ item d → c ≡ d
    same_class c d k = cc

-- tokens that are taken are a prefix of those that are next
behind_prefix : (p q : Place) (prefix ts : List Token) → TakesTokens p prefix q → AreNext p ts → (rest : List Token) × (ts ≡ prefix ++ rest) × AreNext q rest
behind_prefix p q [] ts same next = (ts, refl, subst (λ z. AreNext z ts) same next)
behind_prefix p q (t ∷ prefix) [] (m, h, more) (last, same, none) = absurd (none t m (subst (λ z. TakesToken z t m) same h))
behind_prefix p q (t ∷ prefix) (u ∷ ts) (m, h, more) (last, (k, g, others), none) =
    let (tokens, there) = token_one p m k t u h g in
    let (rest, same, next) = behind_prefix m q prefix ts more (last, subst (λ z. TakesTokens z ts last) (sym there) others, none) in
    (rest, ap (λ z. z ∷ ts) (sym tokens) ∙ ap (λ z. t ∷ z) same, next)

-- after a value no more is expected before the tokens that are next
ends_there : (d : Expectation) (q : Place) (rest : List Token) → IsBehind d q → AreNext q rest → EndsBefore d rest
ends_there d q rest (inl e) next = subst (λ z. EndsBefore z rest) (sym e) tt
ends_there d q rest (inr (e, apart)) (last, taken, none) = subst (λ z. EndsBefore z rest) (sym e) (λ more f. not_next more (subst (λ z. TakesTokens q z last) f taken))
  where
    not_next : (more : List Token) → TakesTokens q (paren_open ∷ more) last → ⊥
    not_next more (m, h, others) = apart m h

-- where a value was read a tree stands
pub read_have_tree : ReadHaveATree
read_have_tree n p q ts h next =
    let (rest, same, behind) = behind_prefix p q h.tokens ts h.taken next in
    let (t, takes) = led_is_tree n h.tokens rest h.expected_there (ends_there h.expected_there q rest h.is_behind behind) h.leads in
    (t, rest, subst (λ z. Takes n z t rest) (sym same) takes, behind)

-- ---- refusals

-- tokens that are next, in two parts
split : (p q : Place) (prefix rest : List Token) → TakesTokens p (prefix ++ rest) q → (m : Place) × TakesTokens p prefix m × TakesTokens m rest q
split p q [] rest h = (p, refl, h)
split p q (t ∷ prefix) rest (k, one, more) = let (m, a, b) = split k q prefix rest more in (m, (k, one, a), b)

-- a token has one answer
one_step : (n : ℕ) (d e : Expectation) (s r : List StackSymbol) (p q m : Place) (c : lex.Token) (t : Token) (x : Step) → place.TakesItem p (Some (Ok c)) q → step n d s (token_of c (text_at q)) ≡ x → TakesToken p t m → step n d s t ≡ reads e r → x ≡ reads e r
one_step n d e s r p q m c t x h f k g =
    let (tokens, there) = token_one p m q t (token_of c (text_at q)) k (c, h, refl) in
    sym f ∙ (ap (step n d s) (sym tokens) ∙ g)

-- a token that is read there stands for no refusal
read_stands : (k : ParserErrorKind) (x : Diagnostic) (n : ℕ) (d e : Expectation) (s r : List StackSymbol) (p q m : Place) (t : Token) → StandsAt k x n d s p q → TakesToken p t m → step n d s t ≡ reads e r → ⊥
read_stands kind.EmptyTuple x n d e s r p q m t (c, (h, f), says) k g = let w : empty_tuple ≡ reads e r = one_step n d e s r p q m c t empty_tuple h f k g in cc
read_stands kind.UnexpectedToken x n d e s r p q m t (c, (h, f), says) k g = let w : unexpected ≡ reads e r = one_step n d e s r p q m c t unexpected h f k g in cc
read_stands kind.DuplicateFlag x n d e s r p q m t (c, (h, f), says) k g = let w : repeated_flag ≡ reads e r = one_step n d e s r p q m c t repeated_flag h f k g in cc
read_stands kind.InvalidToken x n d e s r p q m t (bad, h, f, says) (c, k, g) y = not_error c bad (next_one p.lexer m.lexer q.lexer _ _ k.0 h.0).1
  where
    not_error : (c : lex.Token) (b : Range ℕ) → item c ≡ Some (Err b) → ⊥
    not_error c b w = cc
read_stands kind.UnexpectedEnd x n d e s r p q m t (h, f, says) (c, k, o) y = not_end c (next_one p.lexer m.lexer q.lexer _ _ k.0 h.0).1
  where
    not_end : (c : lex.Token) → item c ≡ None → ⊥
    not_end c w = cc
read_stands kind.NestingTooDeep x n d e s r p q m t (deep, f, says) k g = let w : too_deep ≡ reads e r = sym (deep.no_close t m k) ∙ g in cc
read_stands j x n d e s r p q m t h k g = absurd h

-- after the outermost value no token is read
behind_none : (t : Token) (e : Expectation) (r : List StackSymbol) → expectation.behind_step [] t ≡ reads e r → ⊥
behind_none t e r x = cc

-- a token is read after the outermost value only where it is an open parenthesis after a label
over_step : (n : ℕ) (d e : Expectation) (r : List StackSymbol) (t : Token) (rest : List Token) → IsEnd d rest → step n d [] t ≡ reads e r → (t ≡ paren_open) × ((more : List Token) → rest ≢ paren_open ∷ more)
over_step n d e r t rest (inl f) x = absurd (behind_none t e r (ap (λ z. step n z [] t) (sym f) ∙ x))
over_step n d e r t rest (inr (f, apart)) x = (is_open t (ap (λ z. step n z [] t) (sym f) ∙ x), apart)
  where
    is_open : (t : Token) → step n behind_label [] t ≡ reads e r → t ≡ paren_open
    is_open paren_open x = refl
    is_open u x = let w : unexpected ≡ reads e r = x in cc

-- where a value ends no more is expected in it
within_not_end : (d : Expectation) (rest : List Token) → IsEnd d rest → IsWithin d → ⊥
within_not_end d rest (inl e) h = subst IsWithin e h
within_not_end d rest (inr (e, k)) h = subst IsWithin e h

-- what is next is the first of the tokens that are next
next_rest : (m q : Place) (t : Token) (rest : List Token) → AreNext m rest → TakesToken m t q → ((more : List Token) → rest ≢ t ∷ more) → ⊥
next_rest m q t [] (last, e, none) h apart = none t q (subst (λ z. TakesToken z t q) e h)
next_rest m q t (u ∷ rest) (last, (k, one, more), none) h apart = apart rest (ap (λ z. z ∷ rest) (token_one m k q u t one h).0)

-- where tokens lead to a refusal within a value, none of their prefixes is a whole value
clash : (k : ParserErrorKind) (x : Diagnostic) (n : ℕ) (d0 : Expectation) (s0 : List StackSymbol) (p q at m : Place) (tokens prefix rest : List Token) (d e : Expectation) (r : List StackSymbol) →
    TakesTokens p tokens at → Shifts n d0 s0 tokens e r → IsUnfinished e r → StandsAt k x n e r at q → TakesTokens p prefix m → Shifts n d0 s0 prefix d [] → IsEnd d rest → AreNext m rest → ⊥
clash k x n d0 s0 p q at m [] [] rest d e r a (v, w) (inl u) stands b (v', w') end next = within_not_end d rest end (subst IsWithin (sym v ∙ v') u)
clash k x n d0 s0 p q at m [] [] rest d e r a (v, w) (inr u) stands b (v', w') end next = let z = ap length (sym w ∙ w') in omega arith
clash k x n d0 s0 p q at m [] (t ∷ prefix) rest d e r a (v, w) u stands (j, one, b) (d', s', z, leads) end next =
    read_stands k x n e d' r s' at q j t stands (subst (λ y. TakesToken y t j) a one) (ap (λ y. step n y r t) (sym v) ∙ (ap (λ y. step n d0 y t) (sym w) ∙ z))
clash k x n d0 s0 p q at m (t ∷ tokens) [] rest d e r (j, one, a) (d', s', z, leads) u stands b (v, w) end next =
    let y = over_step n d d' s' t rest end (ap (λ c. step n c [] t) (sym v) ∙ (ap (λ c. step n d0 c t) (sym w) ∙ z)) in
    next_rest m j t rest next (subst (λ c. TakesToken c t j) b one) (λ others f. y.1 others (f ∙ ap (λ c. c ∷ others) y.0))
clash k x n d0 s0 p q at m (t ∷ tokens) (t' ∷ prefix) rest d e r (j, one, a) (d', s', z, leads) u stands (j', one', b) (d'', s'', z', leads') end next =
    let o = token_one p j j' t t' one one' in
    let same : reads d' s' ≡ reads d'' s'' = sym z ∙ (ap (step n d0 s0) o.0 ∙ z') in
    let f : d' ≡ d'' = cc in
    let g : s' ≡ s'' = cc in
    clash k x n d'' s'' j' q at m tokens prefix rest d e r (subst (λ c. TakesTokens c tokens at) o.1 a) (subst (λ c. Shifts n c s'' tokens e r) f (subst (λ c. Shifts n d' c tokens e r) g leads)) u stands b leads' end next

-- where a value was refused no tree stands
pub refused_have_none : RefusedHaveNone
refused_have_none n x p q ts h (last, taken, none) t rest takes =
    let (d, end, (prefix, same, leads)) = takes_lead n n [] (omega arith) ts t rest takes in
    let (m, a, b) = split p last prefix rest (subst (λ z. TakesTokens p z last) same taken) in
    clash x.kind x n value [] p q h.at m h.tokens prefix rest d h.expected_there h.open_there h.taken h.leads h.unfinished h.stands a leads end (last, b, none)
