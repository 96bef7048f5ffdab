-- How a parser goes on from token to token.
use Rattle.std.proofs.Common.{ℕ, ◌≡◌, ◌≢◌, ◌<◌, ◌≤◌, ◌+◌, inl, inr, List, [], ◌∷◌, ◌++◌, length, Option, Some, None, Result, Ok, Err, Bool, true, false, refl, sym, ap, subst, ◌∙◌, arith}
use Rattle.std.specs.Prelude.{◌⊎◌, nat_lt, if◌then◌else◌, IsErrAnd, IfOk, IfErr}
use Rattle.std.specs.declared.ops.Range.{Range}
use Rattle.wave_lex.specs.declared.lex.Token as lex
use Rattle.wave_lex.specs.declared.lex.Token.TheVariants.{BraceClose, ParenOpen, ParenClose, BracketClose, Colon, Comma, Number, LabelOrKeyword, Char, String, MultilineString}
use Rattle.wave_lex.specs.declared.error.ParserErrorKind.{ParserErrorKind}
use Rattle.wave_lex.specs.declared.error.ParserErrorKind.TheVariants as kind
use Rattle.wave_lex.specs.Errors.{Diagnostic, class_name, repeated_name, Says}
use Rattle.wave_lex.specs.declared.found.Found.{Found}
use Rattle.wave_lex.specs.declared.found.Found.TheVariants as found
use Rattle.wave_lex.specs.Tokenization.{Lexed, NextIs, remainder_of, span, item_of as item_of_found}
use Rattle.wave_lex.proofs.Tokenization.NextToken.{next_one, next_less}
use Rattle.wave_grammar.specs.Token.{Token, paren_open}
use Rattle.wave_grammar.specs.ParserPosition.{Place, TakesItem, TakesToken, TakesTokens, token_of, text_at, span_at}
use Rattle.wave_grammar.specs.PrefixAutomaton as expectation
use Rattle.wave_grammar.specs.PrefixAutomaton.{Expectation, StackSymbol, value, first_item, next_item, behind_value, behind_label, reads, unexpected, empty_tuple, repeated_flag, too_deep, step, Shifts, IsValueExpected, closes, is_paren, is_colon, is_brace_close, behind_step, value_step, key_step, brace_step, behind_flag_step, flag_step}
use Rattle.wave_grammar.specs.SyntaxErrors.{IsTooDeep, StandsAt, IsSyntaxError, FailsBySyntax, IsBehind, LeadsBehindValue, Gives, IsWithin, IsUnfinished}
use Rattle.wave_tree.specs.ParserState.{Fails}
use Rattle.wave_tree.specs.Private.ParserState.{IsRefused}
use Rattle.wave_tree.specs.Private.TokenRoles.{form_of, IsClose, IsKeyClass}
use Rattle.wave_grammar.specs.LeafTokens.{name_of}
use Rattle.wave_grammar.proofs.Automaton.Sound.{leads_join, if_false}

pub tokens_join : (p q r : Place) (ts us : List Token) → TakesTokens p ts q → TakesTokens q us r → TakesTokens p (ts ++ us) r
tokens_join p q r [] us e h = subst (λ z. TakesTokens z us r) (sym e) h
tokens_join p q r (t ∷ ts) us (k, one, more) h = (k, one, tokens_join k q r ts us more h)

-- from p, where d is expected within s, tokens lead to q, where e is expected within r
pub record Reached (n : ℕ) (d : Expectation) (s : List StackSymbol) (p : Place) (e : Expectation) (r : List StackSymbol) (q : Place) : Type 0 where
  pub tokens : List Token
  pub taken : TakesTokens p tokens q
  pub leads : Shifts n d s tokens e r

pub here : (n : ℕ) (d : Expectation) (s : List StackSymbol) (p : Place) → Reached n d s p d s p
here n d s p = record { tokens = []; taken = refl; leads = (refl, refl) }

pub token_there : (p q : Place) (c : lex.Token) → TakesItem p (Some (Ok c)) q → TakesToken p (token_of c (text_at q)) q
token_there p q c h = (c, h, refl)

pub then_token : {n : ℕ} {d e f : Expectation} {s r v : List StackSymbol} {p q w : Place} (t : Token) → Reached n d s p e r q → TakesToken q t w → step n e r t ≡ reads f v → Reached n d s p f v w
then_token {n} {d} {e} {f} {s} {r} {v} {p} {q} {w} t h k x = record {
  tokens = h.tokens ++ t ∷ [];
  taken = tokens_join p q w h.tokens (t ∷ []) h.taken (w, k, refl);
  leads = leads_join n d e f s r v h.tokens (t ∷ []) h.leads (f, v, x, (refl, refl));
}

pub then_reached : {n : ℕ} {d e f : Expectation} {s r v : List StackSymbol} {p q w : Place} → Reached n d s p e r q → Reached n e r q f v w → Reached n d s p f v w
then_reached {n} {d} {e} {f} {s} {r} {v} {p} {q} {w} h k = record {
  tokens = h.tokens ++ k.tokens;
  taken = tokens_join p q w h.tokens k.tokens h.taken k.taken;
  leads = leads_join n d e f s r v h.tokens k.tokens h.leads k.leads;
}

pub reached : {n : ℕ} {d : Expectation} {s v : List StackSymbol} {p q : Place} → (h : LeadsBehindValue n d s p q v) → Reached n d s p h.expected_there v q
reached h = record { tokens = h.tokens; taken = h.taken; leads = h.leads }

pub read_there : {n : ℕ} {d e : Expectation} {s v : List StackSymbol} {p q : Place} → Reached n d s p e v q → IsBehind e q → LeadsBehindValue n d s p q v
read_there {e = e} h b = record { tokens = h.tokens; taken = h.taken; expected_there = e; is_behind = b; leads = h.leads }

-- a refusal that stands where tokens lead
pub refused_there : {n : ℕ} {d e : Expectation} {s v : List StackSymbol} {p q w : Place} (u : IsUnfinished e v) (x : Diagnostic) → Reached n d s p e v q → StandsAt x.kind x n e v q w → IsSyntaxError x n d s p w
refused_there {e = e} {v = v} {q = q} u x h b = record { unfinished = u; tokens = h.tokens; at = q; expected_there = e; open_there = v; taken = h.taken; leads = h.leads; stands = b }

-- tokens, and then a refusal
pub then_refused : {n : ℕ} {d e : Expectation} {s v : List StackSymbol} {p q w : Place} (x : Diagnostic) → Reached n d s p e v q → IsSyntaxError x n e v q w → IsSyntaxError x n d s p w
then_refused {n} {d} {e} {s} {v} {p} {q} x h b = record {
  unfinished = b.unfinished;
  tokens = h.tokens ++ b.tokens;
  at = b.at;
  expected_there = b.expected_there;
  open_there = b.open_there;
  taken = tokens_join p q b.at h.tokens b.tokens h.taken b.taken;
  leads = leads_join n d e b.expected_there s v b.open_there h.tokens b.tokens h.leads b.leads;
  stands = b.stands;
}

-- tokens, and then a refusal or out of memory
pub then_refuses : {n : ℕ} {d e : Expectation} {s v : List StackSymbol} {p q w : Place} (x : Diagnostic) → Reached n d s p e v q → FailsBySyntax x n e v q w → FailsBySyntax x n d s p w
then_refuses x h b = λ apart. then_refused x h (b apart)

-- the kind of an error that says this
pub kind_is : {x : Diagnostic} {k : ParserErrorKind} {at : Range ℕ} {tells : Option (List ℕ)} → Says x k at tells → x.kind ≡ k
kind_is says = ap (λ r. r.kind) says.is

-- none of the wanted tokens stands there, and all others are unexpected
fails_stands : (n : ℕ) (d : Expectation) (s : List StackSymbol) (p q : Place) (Wanted : lex.Token → Type 0) (x : Diagnostic) → (IsTooDeep n d s p → ⊥) →
    ((c : lex.Token) → TakesItem p (Some (Ok c)) q → (Wanted c → ⊥) → step n d s (token_of c (text_at q)) ≡ unexpected) → Fails Wanted x p q → StandsAt x.kind x n d s p q
fails_stands n d s p q Wanted x shallow others (inl (bad, h, says)) = subst (λ k. StandsAt k x n d s p q) (sym (kind_is says)) (bad, h, shallow, says)
fails_stands n d s p q Wanted x shallow others (inr (inl (h, says))) = subst (λ k. StandsAt k x n d s p q) (sym (kind_is says)) (h, shallow, says)
fails_stands n d s p q Wanted x shallow others (inr (inr (c, h, no_such, says))) =
    subst (λ k. StandsAt k x n d s p q) (sym (kind_is says)) (c, (h, others c h no_such), says)

-- no wanted token stands where tokens lead
pub fails : {n : ℕ} {d e : Expectation} {s v : List StackSymbol} {p q w : Place} (u : IsUnfinished e v) (Wanted : lex.Token → Type 0) (x : Diagnostic) → Reached n d s p e v q → (IsTooDeep n e v q → ⊥) →
    ((c : lex.Token) → TakesItem q (Some (Ok c)) w → (Wanted c → ⊥) → step n e v (token_of c (text_at w)) ≡ unexpected) → Fails Wanted x q w → FailsBySyntax x n d s p w
fails {n} {d} {e} {s} {v} {p} {q} {w} u Wanted x h shallow others f = λ apart. refused_there u x h (fails_stands n e v q w Wanted x shallow others f)

-- an item that is no token is none of those that are wanted
pub item_fails : (Wanted : lex.Token → Type 0) (item : Found) (p q : Place) (x : Diagnostic) → ((k : lex.Token) → item ≡ found.Token k → ⊥) → TakesItem p (item_of_found item q.lexer) q → IsRefused x (item_of_found item q.lexer) q → Fails Wanted x p q
item_fails Wanted (found.Token k) p q x none h says = absurd (none k refl)
item_fails Wanted found.Invalid p q x none h says = inl (span q.lexer.start q.lexer.end, h, says)
item_fails Wanted found.End p q x none h says = inr (inl (h, says))

pub any_token : (n : ℕ) (d : Expectation) (s : List StackSymbol) (p q : Place) → (c : lex.Token) → TakesItem p (Some (Ok c)) q → (Unit {0} → ⊥) → step n d s (token_of c (text_at q)) ≡ unexpected
any_token n d s p q c h no_such = absurd (no_such tt)

-- an unexpected token that was taken
pub unexpected_there : {n : ℕ} {d e : Expectation} {s v : List StackSymbol} {p q w : Place} (u : IsUnfinished e v) (x : Diagnostic) (c : lex.Token) → Reached n d s p e v q → TakesItem q (Some (Ok c)) w → step n e v (token_of c (text_at w)) ≡ unexpected →
    Says x kind.UnexpectedToken (span_at w) (Some (class_name c)) → FailsBySyntax x n d s p w
unexpected_there {n} {d} {e} {s} {v} {p} {q} {w} u x c h t f says = λ apart. refused_there u x h
    (subst (λ z. StandsAt z x n e v q w) (sym (kind_is says)) (c, (t, f), says))

-- what is always a refusal, by what it says
pub refuses_there : {X : Type 0} {P : Diagnostic → Type 0} {n : ℕ} {d : Expectation} {s : List StackSymbol} {p w : Place} (v : List StackSymbol) (r : Result X Diagnostic) → IfOk r (λ _. ⊥) → IfErr r P → ((x : Diagnostic) → P x → FailsBySyntax x n d s p w) → Gives r n d s p w v
refuses_there v (Ok built) never says refuses = absurd never
refuses_there v (Err x) never says refuses = refuses x says

-- ---- after a value

pub not_deep : {n : ℕ} {d : Expectation} {s : List StackSymbol} {p : Place} → IsBehind d p → IsTooDeep n d s p → ⊥
not_deep (inl e) deep = subst IsValueExpected e deep.expected
not_deep (inr (e, apart)) deep = subst IsValueExpected e deep.expected

paren_is : (t : Token) → is_paren t ≡ true → t ≡ paren_open
paren_is paren_open e = refl
paren_is _ e = cc

pub behind_same : (n : ℕ) (d : Expectation) (s : List StackSymbol) (p q : Place) (t : Token) → IsBehind d p → TakesToken p t q → step n d s t ≡ behind_step s t
behind_same n d s p q t (inl e) h = ap (λ z. step n z s t) e
behind_same n d s p q t (inr (e, apart)) h = ap (λ z. step n z s t) e ∙ if_false (is_paren t) _ _ (λ k. apart q (subst (λ z. TakesToken p z q) (paren_is t k) h))

-- ---- the close of a tuple or a list

pub close_behind : (c : lex.Token) (s : List StackSymbol) (text : List ℕ) → IsClose c → behind_step (form_of c ∷ s) (token_of c text) ≡ reads behind_value s
close_behind c s text (inl e) = subst (λ z. behind_step (form_of z ∷ s) (token_of z text) ≡ reads behind_value s) (sym e) refl
close_behind c s text (inr e) = subst (λ z. behind_step (form_of z ∷ s) (token_of z text) ≡ reads behind_value s) (sym e) refl

pub comma_behind : (c : lex.Token) (s : List StackSymbol) (text : List ℕ) → IsClose c → behind_step (form_of c ∷ s) (token_of Comma text) ≡ reads next_item (form_of c ∷ s)
comma_behind c s text (inl e) = subst (λ z. behind_step (form_of z ∷ s) (token_of Comma text) ≡ reads next_item (form_of z ∷ s)) (sym e) refl
comma_behind c s text (inr e) = subst (λ z. behind_step (form_of z ∷ s) (token_of Comma text) ≡ reads next_item (form_of z ∷ s)) (sym e) refl

paren_other : (c : lex.Token) (s : List StackSymbol) (text : List ℕ) → c ≢ ParenClose → c ≢ Comma → behind_step (expectation.tuple ∷ s) (token_of c text) ≡ unexpected
paren_other ParenClose s text h k = absurd (h refl)
paren_other Comma s text h k = absurd (k refl)
paren_other _ s text h k = refl

bracket_other : (c : lex.Token) (s : List StackSymbol) (text : List ℕ) → c ≢ BracketClose → c ≢ Comma → behind_step (expectation.list ∷ s) (token_of c text) ≡ unexpected
bracket_other BracketClose s text h k = absurd (h refl)
bracket_other Comma s text h k = absurd (k refl)
bracket_other _ s text h k = refl

pub other_behind : (close c : lex.Token) (s : List StackSymbol) (text : List ℕ) → IsClose close → c ≢ close → c ≢ Comma → behind_step (form_of close ∷ s) (token_of c text) ≡ unexpected
other_behind close c s text (inl e) h k = subst (λ z. behind_step (form_of z ∷ s) (token_of c text) ≡ unexpected) (sym e) (paren_other c s text (λ x. h (x ∙ sym e)) k)
other_behind close c s text (inr e) h k = subst (λ z. behind_step (form_of z ∷ s) (token_of c text) ≡ unexpected) (sym e) (bracket_other c s text (λ x. h (x ∙ sym e)) k)

paren_closes : (c : lex.Token) (s : List StackSymbol) (text : List ℕ) → closes (expectation.tuple ∷ s) (token_of c text) ≡ true → c ≡ ParenClose
paren_closes ParenClose s text e = refl
paren_closes _ s text e = cc

bracket_closes : (c : lex.Token) (s : List StackSymbol) (text : List ℕ) → closes (expectation.list ∷ s) (token_of c text) ≡ true → c ≡ BracketClose
bracket_closes BracketClose s text e = refl
bracket_closes _ s text e = cc

pub only_close : (close c : lex.Token) (s : List StackSymbol) (text : List ℕ) → IsClose close → closes (form_of close ∷ s) (token_of c text) ≡ true → c ≡ close
only_close close c s text (inl e) h = paren_closes c s text (subst (λ z. closes (form_of z ∷ s) (token_of c text) ≡ true) e h) ∙ sym e
only_close close c s text (inr e) h = bracket_closes c s text (subst (λ z. closes (form_of z ∷ s) (token_of c text) ≡ true) e h) ∙ sym e

-- ---- an item stands where a close may

abbrev pub IsItemExpected : Expectation → Type 0
IsItemExpected d = (d ≡ first_item) ⊎ (d ≡ next_item)

item_expected : (d : Expectation) → IsItemExpected d → IsValueExpected d
item_expected d (inl e) = subst IsValueExpected (sym e) tt
item_expected d (inr e) = subst IsValueExpected (sym e) tt

pub item_step : (n : ℕ) (d : Expectation) (s : List StackSymbol) (t : Token) → IsItemExpected d → (closes s t ≡ true → ⊥) → step n value s t ≡ step n d s t
item_step n d s t (inl e) h = sym (ap (λ z. step n z s t) e ∙ if_false (closes s t) _ _ h)
item_step n d s t (inr e) h = sym (ap (λ z. step n z s t) e ∙ if_false (closes s t) _ _ h)

-- no close of the innermost form stands next
abbrev pub NoClose : List StackSymbol → Place → Type 0
NoClose s p = (t : Token) (q : Place) → TakesToken p t q → closes s t ≡ true → ⊥

pub no_close : (close : lex.Token) (s : List StackSymbol) (p : Place) → IsClose close → ((next : Place) × TakesItem p (Some (Ok close)) next → ⊥) → NoClose (form_of close ∷ s) p
no_close close s p is_close none t q (c, h, e) k =
    let same : c ≡ close = only_close close c s (text_at q) is_close (subst (λ z. closes (form_of close ∷ s) z ≡ true) e k) in
    none (q, subst (λ z. TakesItem p (Some (Ok z)) q) same h)

nat_lt_false : (m n : ℕ) → n ≤ m → nat_lt m n ≡ false
nat_lt_false m n h = grind arith

level_deep : (n : ℕ) (s : List StackSymbol) (t : Token) → n ≤ length s → step n value s t ≡ too_deep
level_deep n s t h = ap (λ b. if b then value_step s t else too_deep) (nat_lt_false (length s) n h)

-- no level is left for a value
pub no_level : (n : ℕ) (s : List StackSymbol) (p : Place) (x : Diagnostic) → n ≤ length s → Says x kind.NestingTooDeep (span_at p) None → FailsBySyntax x n value s p p
no_level n s p x h says = λ apart. refused_there (inl tt) x (here n value s p)
    (subst (λ k. StandsAt k x n value s p p) (sym (kind_is says)) (record { full = h; expected = tt; no_close = λ t q there. level_deep n s t h }, refl, says))

value_deep : (n : ℕ) (d : Expectation) (s : List StackSymbol) (p : Place) → IsTooDeep n d s p → IsTooDeep n value s p
value_deep n d s p deep = record { full = deep.full; expected = tt; no_close = λ t q h. level_deep n s t deep.full }

item_deep : (n : ℕ) (d : Expectation) (s : List StackSymbol) (p : Place) → IsItemExpected d → NoClose s p → IsTooDeep n value s p → IsTooDeep n d s p
item_deep n d s p i apart deep = record { full = deep.full; expected = item_expected d i; no_close = λ t q h. sym (item_step n d s t i (apart t q h)) ∙ level_deep n s t deep.full }

item_stands : (k : ParserErrorKind) (x : Diagnostic) (n : ℕ) (d : Expectation) (s : List StackSymbol) (p q : Place) → IsItemExpected d → NoClose s p → StandsAt k x n value s p q → StandsAt k x n d s p q
item_stands kind.EmptyTuple x n d s p q i apart (c, (h, e), f) = (c, (h, sym (item_step n d s (token_of c (text_at q)) i (apart _ q (token_there p q c h))) ∙ e), f)
item_stands kind.InvalidToken x n d s p q i apart (bad, h, shallow, f) = (bad, h, (λ deep. shallow (value_deep n d s p deep)), f)
item_stands kind.UnexpectedEnd x n d s p q i apart (h, shallow, f) = (h, (λ deep. shallow (value_deep n d s p deep)), f)
item_stands kind.UnexpectedToken x n d s p q i apart (c, (h, e), f) = (c, (h, sym (item_step n d s (token_of c (text_at q)) i (apart _ q (token_there p q c h))) ∙ e), f)
item_stands kind.DuplicateFlag x n d s p q i apart (c, (h, e), f) = (c, (h, sym (item_step n d s (token_of c (text_at q)) i (apart _ q (token_there p q c h))) ∙ e), f)
item_stands kind.NestingTooDeep x n d s p q i apart (deep, h, e) = (item_deep n d s p i apart deep, h, e)
item_stands k x n d s p q i apart h = absurd h

item_within : (d : Expectation) → IsItemExpected d → IsWithin d
item_within d (inl e) = subst IsWithin (sym e) tt
item_within d (inr e) = subst IsWithin (sym e) tt

-- by what stands next both go on alike, and what is refused there where d is expected is refused where e is
pub record Alike (n : ℕ) (d e : Expectation) (s : List StackSymbol) (p : Place) : Type 0 where
  pub steps : (t : Token) (q : Place) → TakesToken p t q → step n d s t ≡ step n e s t
  pub first : (x : Diagnostic) (q : Place) → StandsAt x.kind x n d s p q → IsSyntaxError x n e s p q
  pub not_behind : IsBehind d p → ⊥

alike_refused : (x : Diagnostic) (n : ℕ) (c d : Expectation) (s : List StackSymbol) (p q : Place) → Alike n c d s p → (ts : List Token) (at : Place) (e : Expectation) (v : List StackSymbol) →
    TakesTokens p ts at → Shifts n c s ts e v → IsUnfinished e v → StandsAt x.kind x n e v at q → IsSyntaxError x n d s p q
alike_refused x n c d s p q alike [] at e v taken (a, b) u stands =
    alike.first x q (subst (λ z. StandsAt x.kind x n c z p q) (sym b) (subst (λ z. StandsAt x.kind x n z v p q) (sym a) (subst (λ z. StandsAt x.kind x n e v z q) (sym taken) stands)))
alike_refused x n c d s p q alike (t ∷ ts) at e v (m, one, more) (d', s', a, leads) u stands = record {
  unfinished = u;
  tokens = t ∷ ts;
  at = at;
  expected_there = e;
  open_there = v;
  taken = (m, one, more);
  leads = (d', s', sym (alike.steps t m one) ∙ a, leads);
  stands = stands;
}

alike_refuses : {n : ℕ} {c d : Expectation} {s : List StackSymbol} {p q : Place} (x : Diagnostic) → Alike n c d s p → FailsBySyntax x n c s p q → FailsBySyntax x n d s p q
alike_refuses {n} {c} {d} {s} {p} {q} x alike h = λ known. let r = h known in alike_refused x n c d s p q alike r.tokens r.at r.expected_there r.open_there r.taken r.leads r.unfinished r.stands

alike_read_at : (n : ℕ) (c d : Expectation) (s v : List StackSymbol) (p q : Place) → Alike n c d s p → (ts : List Token) (e : Expectation) → IsBehind e q → TakesTokens p ts q → Shifts n c s ts e v → Reached n d s p e v q
alike_read_at n c d s v p q alike [] e b taken (x, y) = absurd (alike.not_behind (subst (λ z. IsBehind z p) (sym x) (subst (IsBehind e) (sym taken) b)))
alike_read_at n c d s v p q alike (t ∷ ts) e b (m, one, more) (d', s', x, leads) = record { tokens = t ∷ ts; taken = (m, one, more); leads = (d', s', sym (alike.steps t m one) ∙ x, leads) }

alike_read : {n : ℕ} {c d : Expectation} {s v : List StackSymbol} {p q : Place} → Alike n c d s p → (h : LeadsBehindValue n c s p q v) → Reached n d s p h.expected_there v q
alike_read {n} {c} {d} {s} {v} {p} {q} alike h = alike_read_at n c d s v p q alike h.tokens h.expected_there h.is_behind h.taken h.leads

value_not_behind : (p : Place) → IsBehind value p → ⊥
value_not_behind p (inl e) = cc
value_not_behind p (inr (e, h)) = cc

item_alike : (n : ℕ) (d : Expectation) (s : List StackSymbol) (p : Place) → IsItemExpected d → NoClose s p → Alike n value d s p
item_alike n d s p i apart = record {
  steps = λ t q there. item_step n d s t i (apart t q there);
  first = λ x q stands. record { unfinished = inl (item_within d i); tokens = []; at = p; expected_there = d; open_there = s; taken = refl; leads = (refl, refl); stands = item_stands x.kind x n d s p q i apart stands };
  not_behind = value_not_behind p;
}

pub item_refuses : {n : ℕ} {s : List StackSymbol} {p q : Place} (d : Expectation) (x : Diagnostic) → IsItemExpected d → NoClose s p → FailsBySyntax x n value s p q → FailsBySyntax x n d s p q
item_refuses {n} {s} {p} d x i apart h = alike_refuses x (item_alike n d s p i apart) h

pub item_read : {n : ℕ} {s v : List StackSymbol} {p q : Place} (d : Expectation) → IsItemExpected d → NoClose s p → (h : LeadsBehindValue n value s p q v) → Reached n d s p h.expected_there v q
item_read {n} {s} {v} {p} d i apart h = alike_read (item_alike n d s p i apart) h

-- ---- what is left gets less

abbrev pub left_at : Place → ℕ
left_at p = length (remainder_of p.lexer)

pub token_less : (p q : Place) (c : lex.Token) → TakesItem p (Some (Ok c)) q → left_at q < left_at p
token_less p q c h = next_less p.lexer q.lexer c h.0

pub tokens_less : (p q : Place) (ts : List Token) → TakesTokens p ts q → left_at q ≤ left_at p
tokens_less p q [] e = subst (λ z. left_at z ≤ left_at p) e (omega arith)
tokens_less p q (t ∷ ts) (m, (c, h, e), more) = let one = token_less p m c h in let two = tokens_less m q ts more in omega arith

-- after a value at most so much is left as after its first token
pub value_less : {n : ℕ} {s v : List StackSymbol} (p m q : Place) (c : lex.Token) → TakesItem p (Some (Ok c)) m → LeadsBehindValue n value s p q v → left_at q ≤ left_at m
value_less {n} {s} {v} p m q c there h = go h.tokens h.taken h.leads
  where
    go : (ts : List Token) → TakesTokens p ts q → Shifts n value s ts h.expected_there v → left_at q ≤ left_at m
    go [] taken leads = absurd (elim (subst (λ d. IsBehind d q) (sym leads.0) h.is_behind) [ inl is ↦ cc | inr is ↦ (let apart = is.0 in cc) ])
    go (t ∷ ts) (w, (k, first, e), more) leads =
        let same : left_at w ≡ left_at m = ap (λ (l : Lexed). length (remainder_of l)) (next_one p.lexer w.lexer m.lexer (Some (Ok k)) (Some (Ok c)) first.0 there.0).0 in
        let less = tokens_less w q ts more in
        omega arith

-- where a token of another class was taken none of this one stands
pub other_next : (close c : lex.Token) (p q : Place) → c ≢ close → TakesItem p (Some (Ok c)) q → (next : Place) × TakesItem p (Some (Ok close)) next → ⊥
other_next close c p q apart there (next, h) = let same = (next_one p.lexer q.lexer next.lexer (Some (Ok c)) (Some (Ok close)) there.0 h.0).1 in apart (cc)

-- ---- the answers of calls

pub handed : {X : Type 0} {n : ℕ} {d : Expectation} {s : List StackSymbol} {p q : Place} (v : List StackSymbol) (r : Result X Diagnostic) (e : Diagnostic) → IsErrAnd r (λ f. f ≡ e) → FailsBySyntax e n d s p q → Gives r n d s p q v
handed v (Ok x) e k h = absurd k
handed {n = n} {d = d} {s = s} {p = p} {q = q} v (Err f) e k h = subst (λ z. FailsBySyntax z n d s p q) (sym k) h

pub gives_then : {X : Type 0} {n : ℕ} {d e : Expectation} {s v : List StackSymbol} {p q : Place} (b : List StackSymbol) (w : Place) (r : Result X Diagnostic) → Reached n d s p e v q → Gives r n e v q w b → Gives r n d s p w b
gives_then b w (Ok x) h k = read_there (then_reached h (reached k)) k.is_behind
gives_then b w (Err f) h k = then_refuses f h k

pub here_is : (n : ℕ) (d : Expectation) (s : List StackSymbol) (p q : Place) → q ≡ p → Reached n d s p d s q
here_is n d s p q e = subst (λ z. Reached n d s p d s z) (sym e) (here n d s p)

nat_lt_true : (m n : ℕ) → m < n → nat_lt m n ≡ true
nat_lt_true m n h = grind arith

pub level_open : (n : ℕ) (s : List StackSymbol) (t : Token) → length s < n → step n value s t ≡ value_step s t
level_open n s t h = ap (λ b. if b then value_step s t else too_deep) (nat_lt_true (length s) n h)

pub shallow : (n : ℕ) (d : Expectation) (s : List StackSymbol) (p : Place) → length s < n → IsTooDeep n d s p → ⊥
shallow n d s p h deep = let k = deep.full in omega arith

-- a token that begins a value
pub value_read : (n : ℕ) (d : Expectation) (s v : List StackSymbol) (p q : Place) (c e : lex.Token) → length s < n → TakesItem p (Some (Ok c)) q → c ≡ e → value_step s (token_of e (text_at q)) ≡ reads d v → Reached n value s p d v q
value_read n d s v p q c e l h same x =
    then_token (token_of c (text_at q)) (here n value s p) (token_there p q c h) (level_open n s (token_of c (text_at q)) l ∙ (ap (λ z. value_step s (token_of z (text_at q))) same ∙ x))

pub paren_class : (c : lex.Token) (text : List ℕ) → is_paren (token_of c text) ≡ true → c ≡ ParenOpen
paren_class ParenOpen text e = refl
paren_class _ text e = cc

pub colon_class : (c : lex.Token) (text : List ℕ) → is_colon (token_of c text) ≡ true → c ≡ Colon
colon_class Colon text e = refl
colon_class _ text e = cc

pub brace_class : (c : lex.Token) (text : List ℕ) → is_brace_close (token_of c text) ≡ true → c ≡ BraceClose
brace_class BraceClose text e = refl
brace_class _ text e = cc

pub no_paren : (n : ℕ) (s : List StackSymbol) (c : lex.Token) (text : List ℕ) → c ≢ ParenOpen → step n expectation.paren s (token_of c text) ≡ unexpected
no_paren n s c text h = if_false (is_paren (token_of c text)) _ _ (λ k. h (paren_class c text k))

pub no_colon : (n : ℕ) (s : List StackSymbol) (c : lex.Token) (text : List ℕ) → c ≢ Colon → step n expectation.behind_key s (token_of c text) ≡ unexpected
no_colon n s c text h = if_false (is_colon (token_of c text)) _ _ (λ k. h (colon_class c text k))

pub no_brace : (n : ℕ) (s : List StackSymbol) (c : lex.Token) (text : List ℕ) → c ≢ BraceClose → step n expectation.no_fields s (token_of c text) ≡ unexpected
no_brace n s c text h = if_false (is_brace_close (token_of c text)) _ _ (λ k. h (brace_class c text k))

pub behind_bare : (p : Place) → ((next : Place) × TakesItem p (Some (Ok ParenOpen)) next → ⊥) → IsBehind behind_label p
behind_bare p none = inr (refl, λ new (c, h, e). none (new, subst (λ z. TakesItem p (Some (Ok z)) new) (paren_class c (text_at new) (ap is_paren (sym e))) h))

pub payload_other : (c : lex.Token) (s : List StackSymbol) (text : List ℕ) → c ≢ ParenClose → behind_step (expectation.payload ∷ s) (token_of c text) ≡ unexpected
payload_other ParenClose s text h = absurd (h refl)
payload_other _ s text h = refl

-- a token after a value
pub then_behind : {n : ℕ} {d f : Expectation} {s v b : List StackSymbol} {p q w : Place} (e : Expectation) (c : lex.Token) → Reached n d s p e v q → IsBehind e q → TakesItem q (Some (Ok c)) w → behind_step v (token_of c (text_at w)) ≡ reads f b → Reached n d s p f b w
then_behind {n} {d} {f} {s} {v} {b} {p} {q} {w} e c h is h' x =
    let t = token_there q w c h' in then_token (token_of c (text_at w)) h t (behind_same n e v q w (token_of c (text_at w)) is t ∙ x)

pub fails_behind : {n : ℕ} {d : Expectation} {s v : List StackSymbol} {g : StackSymbol} {p q w : Place} (e : Expectation) (Wanted : lex.Token → Type 0) (x : Diagnostic) → Reached n d s p e (g ∷ v) q → IsBehind e q →
    ((c : lex.Token) (text : List ℕ) → (Wanted c → ⊥) → behind_step (g ∷ v) (token_of c text) ≡ unexpected) → Fails Wanted x q w → FailsBySyntax x n d s p w
fails_behind {n} {d} {s} {v} {g} {p} {q} {w} e Wanted x h is others f =
    fails (inr (omega arith)) Wanted x h (not_deep is) (λ c t apart. behind_same n e (g ∷ v) q w (token_of c (text_at w)) is (token_there q w c t) ∙ others c (text_at w) apart) f

pub unexpected_behind : {n : ℕ} {d : Expectation} {s v : List StackSymbol} {g : StackSymbol} {p q w : Place} (e : Expectation) (x : Diagnostic) (c : lex.Token) → Reached n d s p e (g ∷ v) q → IsBehind e q → TakesItem q (Some (Ok c)) w → behind_step (g ∷ v) (token_of c (text_at w)) ≡ unexpected →
    Says x kind.UnexpectedToken (span_at w) (Some (class_name c)) → FailsBySyntax x n d s p w
unexpected_behind {n} {d} {s} {v} {g} {p} {q} {w} e x c h is t f says =
    unexpected_there (inr (omega arith)) x c h t (behind_same n e (g ∷ v) q w (token_of c (text_at w)) is (token_there q w c t) ∙ f) says

-- ---- braces

pub key_reads : (c : lex.Token) (s : List StackSymbol) (text : List ℕ) → IsKeyClass c → key_step s (token_of c text) ≡ reads expectation.behind_key s
key_reads Number s text h = refl
key_reads LabelOrKeyword s text h = refl
key_reads Char s text h = refl
key_reads String s text h = refl
key_reads MultilineString s text h = refl
key_reads _ s text h = absurd h

pub no_key : (c : lex.Token) (s : List StackSymbol) (text : List ℕ) → (IsKeyClass c → ⊥) → c ≢ BraceClose → key_step s (token_of c text) ≡ unexpected
no_key BraceClose s text h k = absurd (k refl)
no_key Number s text h k = absurd (h tt)
no_key LabelOrKeyword s text h k = absurd (h tt)
no_key Char s text h k = absurd (h tt)
no_key String s text h k = absurd (h tt)
no_key MultilineString s text h k = absurd (h tt)
no_key _ s text h k = refl

pub brace_key : (c : lex.Token) (s : List StackSymbol) (text : List ℕ) → c ≢ LabelOrKeyword → c ≢ Colon → brace_step s (token_of c text) ≡ key_step s (token_of c text)
brace_key Colon s text h k = absurd (k refl)
brace_key LabelOrKeyword s text h k = absurd (h refl)
brace_key _ s text h k = refl

pub entries_other : (c : lex.Token) (s : List StackSymbol) (text : List ℕ) → c ≢ BraceClose → c ≢ Comma → behind_step (expectation.entries ∷ s) (token_of c text) ≡ unexpected
entries_other BraceClose s text h k = absurd (h refl)
entries_other Comma s text h k = absurd (k refl)
entries_other _ s text h k = refl

pub flags_other : (names : List (List ℕ)) (c : lex.Token) (s : List StackSymbol) (text : List ℕ) → c ≢ BraceClose → c ≢ Comma → behind_flag_step names s (token_of c text) ≡ unexpected
flags_other names BraceClose s text h k = absurd (h refl)
flags_other names Comma s text h k = absurd (k refl)
flags_other names _ s text h k = refl

pub no_flag : (names : List (List ℕ)) (c : lex.Token) (s : List StackSymbol) (text : List ℕ) → c ≢ BraceClose → c ≢ LabelOrKeyword → flag_step names s (token_of c text) ≡ unexpected
no_flag names BraceClose s text h k = absurd (h refl)
no_flag names LabelOrKeyword s text h k = absurd (k refl)
no_flag names _ s text h k = refl

word_flag : (text : List ℕ) (c : lex.Token) (s : List StackSymbol) (n : ℕ) (more : List ℕ) → c ≢ Colon → step n (expectation.behind_word text) s (token_of c more) ≡ behind_flag_step (name_of text ∷ []) s (token_of c more)
word_flag text Colon s n more h = absurd (h refl)
word_flag text _ s n more h = refl

-- after a flag: after the first one no colon stands
abbrev pub IsFlagExpected : Expectation → List (List ℕ) → Place → Type 0
IsFlagExpected d names p = (d ≡ expectation.behind_flag names)
    ⊎ ((text : List ℕ) × (d ≡ expectation.behind_word text) × (names ≡ name_of text ∷ []) × ((next : Place) → TakesItem p (Some (Ok Colon)) next → ⊥))

pub flag_same : (n : ℕ) (d : Expectation) (names : List (List ℕ)) (s : List StackSymbol) (p q : Place) (c : lex.Token) → IsFlagExpected d names p → TakesItem p (Some (Ok c)) q → step n d s (token_of c (text_at q)) ≡ behind_flag_step names s (token_of c (text_at q))
flag_same n d names s p q c (inl e) h = ap (λ z. step n z s (token_of c (text_at q))) e
flag_same n d names s p q c (inr (text, e, f, apart)) h =
    ap (λ z. step n z s (token_of c (text_at q))) e ∙ (word_flag text c s n (text_at q) (λ k. apart q (subst (λ z. TakesItem p (Some (Ok z)) q) k h)) ∙ ap (λ z. behind_flag_step z s (token_of c (text_at q))) (sym f))

pub flag_not_deep : (n : ℕ) (d : Expectation) (names : List (List ℕ)) (s : List StackSymbol) (p : Place) → IsFlagExpected d names p → IsTooDeep n d s p → ⊥
flag_not_deep n d names s p (inl e) deep = subst IsValueExpected e deep.expected
flag_not_deep n d names s p (inr (text, e, f, apart)) deep = subst IsValueExpected e deep.expected

pub then_same : {n : ℕ} {d e f : Expectation} {s r v : List StackSymbol} {p q w : Place} (c : lex.Token) → Reached n d s p e r q → TakesItem q (Some (Ok c)) w → step n e r (token_of c (text_at w)) ≡ reads f v → Reached n d s p f v w
then_same {w = w} c h k x = then_token (token_of c (text_at w)) h (token_there _ w c k) x

-- a repeated flag
pub repeated_there : {n : ℕ} {d e : Expectation} {s v : List StackSymbol} {p q w : Place} (u : IsUnfinished e v) (x : Diagnostic) (c : lex.Token) → Reached n d s p e v q → TakesItem q (Some (Ok c)) w → step n e v (token_of c (text_at w)) ≡ repeated_flag →
    (x.kind ≢ kind.OutOfMemory → Says x kind.DuplicateFlag (span_at w) (Some (repeated_name (name_of (text_at w))))) → FailsBySyntax x n d s p w
repeated_there {n} {e = e} {v = v} {q = q} {w = w} u x c h t f says = λ apart. refused_there u x h
    (subst (λ z. StandsAt z x n e v q w) (sym (kind_is (says apart))) (c, (t, f), says apart))

-- an empty tuple
pub empty_there : {n : ℕ} {d e : Expectation} {s v : List StackSymbol} {p q w : Place} (u : IsUnfinished e v) (x : Diagnostic) (c : lex.Token) → Reached n d s p e v q → TakesItem q (Some (Ok c)) w → step n e v (token_of c (text_at w)) ≡ empty_tuple →
    Says x kind.EmptyTuple (span q.lexer.start w.lexer.end) None → FailsBySyntax x n d s p w
empty_there {n} {e = e} {v = v} {q = q} {w = w} u x c h t f says = λ apart. refused_there u x h
    (subst (λ z. StandsAt z x n e v q w) (sym (kind_is says)) (c, (t, f), says))

pub close_first : (n : ℕ) (c : lex.Token) (s : List StackSymbol) (text : List ℕ) → IsClose c → c ≢ ParenClose → step n first_item (form_of c ∷ s) (token_of c text) ≡ reads behind_value s
close_first n c s text (inl e) h = absurd (h e)
close_first n c s text (inr e) h = subst (λ z. step n first_item (form_of z ∷ s) (token_of z text) ≡ reads behind_value s) (sym e) refl

pub close_empty : (n : ℕ) (c : lex.Token) (s : List StackSymbol) (text : List ℕ) → c ≡ ParenClose → step n first_item (form_of c ∷ s) (token_of c text) ≡ empty_tuple
close_empty n c s text e = subst (λ z. step n first_item (form_of z ∷ s) (token_of z text) ≡ empty_tuple) (sym e) refl

pub close_next : (n : ℕ) (c : lex.Token) (s : List StackSymbol) (text : List ℕ) → IsClose c → step n next_item (form_of c ∷ s) (token_of c text) ≡ reads behind_value s
close_next n c s text (inl e) = subst (λ z. step n next_item (form_of z ∷ s) (token_of z text) ≡ reads behind_value s) (sym e) refl
close_next n c s text (inr e) = subst (λ z. step n next_item (form_of z ∷ s) (token_of z text) ≡ reads behind_value s) (sym e) refl

pub untrue : (b : Bool) → b ≡ false → (b ≡ true → ⊥)
untrue b e f = cc

abbrev item_of : lex.Token → Option (Result lex.Token (Range ℕ))
item_of c = Some (Ok c)

-- what stands next is an item of this class, and it was asked for
pub not_expected : {X : Type 0} (p q w : Place) (class : lex.Token) (x : Diagnostic) → q ≡ p → (next : Place) × TakesItem p (Some (Ok class)) next → Fails (λ k. k ≡ class) x q w → X
not_expected p q w class x e (next, h) f = absurd (not_there f)
  where
    not_error : (span : Range ℕ) → item_of class ≡ Some (Err span) → ⊥
    not_error span k = cc

    not_end : item_of class ≡ None → ⊥
    not_end k = cc

    same_class : (c : lex.Token) → item_of class ≡ item_of c → class ≡ c
    same_class c k = cc

    there : NextIs q.lexer next.lexer (Some (Ok class))
    there = subst (λ z. NextIs z.lexer next.lexer (Some (Ok class))) (sym e) h.0

    not_there : Fails (λ k. k ≡ class) x q w → ⊥
    not_there (inl (bad, g, says)) = not_error _ (next_one q.lexer next.lexer w.lexer _ _ there g.0).1
    not_there (inr (inl (g, says))) = not_end (next_one q.lexer next.lexer w.lexer _ _ there g.0).1
    not_there (inr (inr (c, g, other, says))) = other (sym (same_class c (next_one q.lexer next.lexer w.lexer _ _ there g.0).1))

abbrev range_of : ℕ → ℕ → Range ℕ
range_of a b = record { start = a; end = b }

pub range_path : {a b c d : ℕ} → a ≡ c → b ≡ d → range_of a b ≡ range_of c d
range_path e f = λ i. record { start = e i; end = f i }

pub moved : {n : ℕ} {d e : Expectation} {s v : List StackSymbol} {p q w : Place} → w ≡ q → Reached n d s p e v q → Reached n d s p e v w
moved {n} {d} {e} {s} {v} {p} same h = subst (λ z. Reached n d s p e v z) (sym same) h

pub then_class : {n : ℕ} {d e f : Expectation} {s r v : List StackSymbol} {p q w : Place} {c : lex.Token} (k : lex.Token) → Reached n d s p e r q → TakesItem q (Some (Ok c)) w → c ≡ k → step n e r (token_of k (text_at w)) ≡ reads f v → Reached n d s p f v w
then_class {q = q} {w = w} k h t same x = then_same k h (subst (λ z. TakesItem q (Some (Ok z)) w) same t) x

pub then_behind_class : {n : ℕ} {d f : Expectation} {s v b : List StackSymbol} {p q w : Place} {c : lex.Token} (e : Expectation) (k : lex.Token) → Reached n d s p e v q → IsBehind e q → TakesItem q (Some (Ok c)) w → c ≡ k → behind_step v (token_of k (text_at w)) ≡ reads f b → Reached n d s p f b w
then_behind_class {q = q} {w = w} e k h is t same x = then_behind e k h is (subst (λ z. TakesItem q (Some (Ok z)) w) same t) x

-- ---- how many items were taken

pub taken_count : (p q : Place) (ts : List Token) → TakesTokens p ts q → q.taken ≡ p.taken + length ts
taken_count p q [] e = sym (ap (λ z. z.taken) e) ∙ (omega arith)
taken_count p q (t ∷ ts) (m, (c, h, e), more) = let one = taken_count m q ts more in let two = h.1 in omega arith

pub place_path : (p q : Place) → p.lexer ≡ q.lexer → p.taken ≡ q.taken → p ≡ q
place_path p q e f = λ i. record { lexer = e i; taken = f i }

-- ---- what stands next is known

same_class : (c k : lex.Token) → item_of c ≡ item_of k → c ≡ k
same_class c k e = cc

next_same : (p w q : Place) (c k : lex.Token) → TakesItem p (Some (Ok c)) w → TakesItem p (Some (Ok k)) q → (q ≡ w) × (k ≡ c)
next_same p w q c k h g = let one = next_one p.lexer q.lexer w.lexer _ _ g.0 h.0 in (place_path q w one.0 (g.1 ∙ sym h.1), same_class k c one.1)

module _ (n : ℕ) (d e f : Expectation) (s v : List StackSymbol) (p w : Place) (c : lex.Token) (there : TakesItem p (Some (Ok c)) w) (goes : step n d s (token_of c (text_at w)) ≡ reads f v) where
  token_same : (t : Token) (q : Place) → TakesToken p t q → t ≡ token_of c (text_at w)
  token_same t q (k, h, is) = let same = next_same p w q c k there h in is ∙ (ap (λ z. token_of z (text_at q)) same.1 ∙ ap (λ z. token_of c (text_at z)) same.0)

  known_goes : (k : lex.Token) (q : Place) → TakesItem p (Some (Ok k)) q → step n d s (token_of k (text_at q)) ≡ reads f v
  known_goes k q h = ap (step n d s) (token_same (token_of k (text_at q)) q (token_there p q k h)) ∙ goes

  known_stands : (k : ParserErrorKind) (x : Diagnostic) (q : Place) → (IsValueExpected d → ⊥) → StandsAt k x n d s p q → ⊥
  known_stands kind.EmptyTuple x q apart (k, (h, is), says) = let wrong : reads f v ≡ empty_tuple = sym (known_goes k q h) ∙ is in cc
  known_stands kind.UnexpectedToken x q apart (k, (h, is), says) = let wrong : reads f v ≡ unexpected = sym (known_goes k q h) ∙ is in cc
  known_stands kind.DuplicateFlag x q apart (k, (h, is), says) = let wrong : reads f v ≡ repeated_flag = sym (known_goes k q h) ∙ is in cc
  known_stands kind.InvalidToken x q apart (bad, h, shallow, says) = let wrong : item_of c ≡ Some (Err bad) = (next_one p.lexer w.lexer q.lexer _ _ there.0 h.0).1 in cc
  known_stands kind.UnexpectedEnd x q apart (h, shallow, says) = let wrong : item_of c ≡ None = (next_one p.lexer w.lexer q.lexer _ _ there.0 h.0).1 in cc
  known_stands kind.NestingTooDeep x q apart (deep, h, says) = apart deep.expected
  known_stands k x q apart h = absurd h

  -- both go on alike, as what stands next is known
  pub known_alike : (IsValueExpected d → ⊥) → (IsBehind d p → ⊥) → step n e s (token_of c (text_at w)) ≡ reads f v → Alike n d e s p
  known_alike apart not_behind as_well = record {
    steps = λ t q one. let same = token_same t q one in ap (step n d s) same ∙ (goes ∙ (sym as_well ∙ ap (step n e s) (sym same)));
    first = λ x q stands. absurd (known_stands x.kind x q apart stands);
    not_behind = not_behind;
  }

pub gives_alike : {X : Type 0} (n : ℕ) (d e : Expectation) (s v : List StackSymbol) (p q : Place) (r : Result X Diagnostic) → Alike n d e s p → Gives r n d s p q v → Gives r n e s p q v
gives_alike n d e s v p q (Ok x) alike h = read_there (alike_read alike h) h.is_behind
gives_alike n d e s v p q (Err x) alike h = alike_refuses x alike h

paren_not_behind : (p : Place) → IsBehind expectation.paren p → ⊥
paren_not_behind p (inl e) = cc
paren_not_behind p (inr (e, h)) = cc

key_not_behind : (p : Place) → IsBehind expectation.behind_key p → ⊥
key_not_behind p (inl e) = cc
key_not_behind p (inr (e, h)) = cc

-- before an open parenthesis a label goes on as `some` does
pub paren_alike : (n : ℕ) (s : List StackSymbol) (p : Place) → (next : Place) × TakesItem p (Some (Ok ParenOpen)) next → Alike n expectation.paren behind_label s p
paren_alike n s p (w, there) = known_alike n expectation.paren behind_label value s (expectation.payload ∷ s) p w ParenOpen there refl (λ h. h) (paren_not_behind p) refl

-- before a colon a word in braces goes on as a key does
pub colon_alike : (n : ℕ) (s : List StackSymbol) (p : Place) (text : List ℕ) → (next : Place) × TakesItem p (Some (Ok Colon)) next → Alike n expectation.behind_key (expectation.behind_word text) s p
colon_alike n s p text (w, there) = known_alike n expectation.behind_key (expectation.behind_word text) value s (expectation.entries ∷ s) p w Colon there refl (λ h. h) (key_not_behind p) refl

pub flag_within : (d : Expectation) (names : List (List ℕ)) (p : Place) → IsFlagExpected d names p → IsWithin d
flag_within d names p (inl e) = subst IsWithin (sym e) tt
flag_within d names p (inr (text, e, f, apart)) = subst IsWithin (sym e) tt

-- the answer of a call that can refuse for lack of memory alone, after a value
pub gives_read : {X : Type 0} {n : ℕ} {d : Expectation} {s : List StackSymbol} {p q : Place} (v : List StackSymbol) (r : Result X Diagnostic) → IfErr r (λ e. e.kind ≡ kind.OutOfMemory) → LeadsBehindValue n d s p q v → Gives r n d s p q v
gives_read v (Ok x) h read = read
gives_read v (Err e) h read = λ apart. absurd (apart h)

-- after a value, or a refusal for lack of memory
pub gives_or_memory : {X : Type 0} {n : ℕ} {d : Expectation} {s v : List StackSymbol} {p q : Place} (r : Result X Diagnostic) → IfErr r (λ e. e.kind ≡ kind.OutOfMemory) → LeadsBehindValue n d s p q v → Gives r n d s p q v
gives_or_memory (Ok x) memory led = led
gives_or_memory (Err e) memory led = λ apart. absurd (apart memory)
