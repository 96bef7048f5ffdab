-- The tokens before a place, and the brackets that are open after them.
use Rattle.std.proofs.Common.{ℕ, ◌≡◌, ◌<◌, ◌≤◌, ◌-◌, inl, inr, List, [], ◌∷◌, ◌++◌, length, take, Some, None, Ok, Err, refl, sym, ap, subst, ◌∙◌, arith}
use Rattle.std.specs.Prelude.{◌⊎◌, ◌↔◌, fold, map, slice_range, Contains, IsTrue}
use Rattle.std.proofs.lemmas.List.{map-append}
use Rattle.std.specs.declared.ops.Range.{Range}
use Rattle.wave_lex.specs.declared.lex.Token as lex
use Rattle.wave_lex.specs.declared.lex.Token.TheVariants.{BraceClose, ParenClose, BracketClose}
use Rattle.wave_lex.specs.Tokenization.{Lexed, NextIs, span}
use Rattle.wave_lex.proofs.Tokenization.NextToken.{next_one}
use Rattle.wave_expected.specs.declared.expected.automaton.Automaton.{Automaton}
use Rattle.wave_grammar.specs.Token.{Token}
use Rattle.wave_grammar.specs.ParserPosition.{token_of}
use Rattle.wave_expected.specs.declared.expected.Expected.{Expected}
use Rattle.wave_expected.specs.Private.Prefixes.{IsAfter, MayEnd}
use Rattle.wave_expected.specs.Expected.{Placed, token_at, TakesPlaced, but_last, open_after, open_brackets, MayFollow, AreAValue, IsExpectedFrom}
use Rattle.wave_expected.proofs.ExpectedTokens.MayStand.{may_end}

-- what is left after the last was taken
but_last-take : (xs : List (Range ℕ)) → take (length xs - 1) xs ≡ but_last xs
but_last-take [] = refl
but_last-take (x ∷ xs) = let same : length (x ∷ xs) - 1 ≡ length xs = omega arith in ap (λ (k : ℕ). take k (x ∷ xs)) same ∙ prefix x xs
  where
    prefix : (y : Range ℕ) (ys : List (Range ℕ)) → take (length ys) (y ∷ ys) ≡ but_last (y ∷ ys)
    prefix y [] = refl
    prefix y (z ∷ zs) = ap (λ l. y ∷ l) (prefix z zs)

-- after a bracket that closes
pub closed_after : (c : lex.Token) (at : Range ℕ) (old new : List (Range ℕ)) → (c ≡ BraceClose) ⊎ (c ≡ ParenClose) ⊎ (c ≡ BracketClose) → new ≡ take (length old - 1) old → new ≡ open_after old (c, at)
closed_after c at old new (inl e) h = h ∙ (but_last-take old ∙ ap (λ z. open_after old (z, at)) (sym e))
closed_after c at old new (inr (inl e)) h = h ∙ (but_last-take old ∙ ap (λ z. open_after old (z, at)) (sym e))
closed_after c at old new (inr (inr e)) h = h ∙ (but_last-take old ∙ ap (λ z. open_after old (z, at)) (sym e))

-- one more token
pub taken_more : (l m k : Lexed) (ps : List Placed) (c : lex.Token) → TakesPlaced l ps m → NextIs m k (Some (Ok c)) → TakesPlaced l (ps ++ (c, span k.start k.end) ∷ []) k
taken_more l m k [] c e next = (k, subst (λ z. NextIs z k (Some (Ok c))) (sym e) next, refl, refl)
taken_more l m k (p ∷ ps) c (w, one, is, more) next = (w, one, is, taken_more w m k ps c more next)

-- one more bracket
pub open_more : (ps : List Placed) (p : Placed) → open_brackets (ps ++ p ∷ []) ≡ open_after (open_brackets ps) p
open_more ps p = folded [] ps
  where
    folded : (xs : List (Range ℕ)) (qs : List Placed) → fold open_after xs (qs ++ p ∷ []) ≡ open_after (fold open_after xs qs) p
    folded xs [] = refl
    folded xs (q ∷ qs) = folded (open_after xs q) qs

-- no token stands where the next item is none
pub no_token : (l m k : Lexed) (c : lex.Token) (bad : Range ℕ) → NextIs l m (Some (Err bad)) → NextIs l k (Some (Ok c)) → ⊥
no_token l m k c bad h next = let same : Some (Err bad) ≡ Some (Ok c) = (next_one l m k (Some (Err bad)) (Some (Ok c)) h next).1 in cc

pub no_token_at_end : (l m k : Lexed) (c : lex.Token) → NextIs l m None → NextIs l k (Some (Ok c)) → ⊥
no_token_at_end l m k c h next = let same : None ≡ Some (Ok c) = (next_one l m k None (Some (Ok c)) h next).1 in cc

-- the next token ends there
pub token_ends : (l m k : Lexed) (c d : lex.Token) (at : ℕ) → NextIs l m (Some (Ok c)) → at < m.end → NextIs l k (Some (Ok d)) → at < k.end
token_ends l m k c d at h past next = subst (λ z. at < z.end) (next_one l m k (Some (Ok c)) (Some (Ok d)) h next).0 past

-- the tokens before the place that were read so far, up to where the lexer stands
pub record IsReadTo (first : Lexed) (at n : ℕ) (lexer : Lexed) (a : Automaton) (spans : List (Range ℕ)) : Type 0 where
  pub tokens : List Placed
  pub taken : TakesPlaced first tokens lexer
  pub before : lexer.end ≤ at
  pub after : IsAfter n (map (token_at first.source) tokens) a.state a.forms.items a.names
  pub levels : a.levels ≡ n
  pub spans_are : spans ≡ open_brackets tokens

-- the source stays
taken_source : (l m : Lexed) (ps : List Placed) → TakesPlaced l ps m → m.source ≡ l.source
taken_source l m [] e = ap (λ (z : Lexed). z.source) (sym e)
taken_source l m (p ∷ ps) (k, (g, j, passes, is), at, more) = taken_source k m ps more ∙ passes.source

-- one more token was read
pub read_more : (first : Lexed) (at n : ℕ) (l m : Lexed) (a b : Automaton) (old new : List (Range ℕ)) (c : lex.Token) (place : Range ℕ) (text : List ℕ) → IsReadTo first at n l a old → NextIs l m (Some (Ok c)) → m.end ≤ at →
    place ≡ span m.start m.end → new ≡ open_after old (c, place) → text ≡ slice_range m.source m.start m.end →
    ((tokens : List Token) → IsAfter a.levels tokens a.state a.forms.items a.names → IsAfter a.levels (tokens ++ token_of c text ∷ []) b.state b.forms.items b.names) → b.levels ≡ a.levels → IsReadTo first at n m b new
read_more first at n l m a b old new c place text h next before is_place is_new is_text reads same_levels =
    let p : Placed = (c, span m.start m.end) in
    let taken = taken_more first l m h.tokens c h.taken next in
    let same_source : m.source ≡ first.source = taken_source first m (h.tokens ++ p ∷ []) taken in
    let same_token : token_of c text ≡ token_at first.source p = ap (token_of c) (is_text ∙ ap (λ (s : List ℕ). slice_range s m.start m.end) same_source) in
    let now = subst (λ k. IsAfter k (map (token_at first.source) h.tokens ++ token_of c text ∷ []) b.state b.forms.items b.names) h.levels
    (reads (map (token_at first.source) h.tokens) (subst (λ k. IsAfter k (map (token_at first.source) h.tokens) a.state a.forms.items a.names) (sym h.levels) h.after)) in
    record {
      tokens = h.tokens ++ p ∷ [];
      taken = taken;
      before = before;
      after = subst (λ ts. IsAfter n ts b.state b.forms.items b.names) (ap (λ t. map (token_at first.source) h.tokens ++ t ∷ []) same_token ∙ sym (map-append (token_at first.source) h.tokens (p ∷ []))) now;
      levels = same_levels ∙ h.levels;
      spans_are = is_new ∙ (ap (λ r. open_after old (c, r)) is_place ∙ (ap (λ z. open_after z p) h.spans_are ∙ sym (open_more h.tokens p)));
    }

-- all were read
pub is_expected : (first : Lexed) (at n : ℕ) (l : Lexed) (a : Automaton) (spans : List (Range ℕ)) (e : Expected) → IsReadTo first at n l a spans → ((c : lex.Token) (next : Lexed) → NextIs l next (Some (Ok c)) → at < next.end) →
    ((tokens : List Token) → IsAfter a.levels tokens a.state a.forms.items a.names → (c : lex.Token) → Contains e.classes.items c ↔ MayFollow a.levels tokens c) → (IsTrue e.may_end ↔ MayEnd a.state a.forms.items) → e.open_brackets.items ≡ spans →
    IsExpectedFrom first at (MayFollow n) (AreAValue n) e
is_expected first at n l a spans e h all classes ends brackets =
    let tokens = map (token_at first.source) h.tokens in
    record {
      before = h.tokens;
      stand = record { last = l; taken = h.taken; before = h.before; all = all };
      classes = subst (λ k. (c : lex.Token) → Contains e.classes.items c ↔ MayFollow k tokens c) h.levels (classes tokens (subst (λ k. IsAfter k tokens a.state a.forms.items a.names) (sym h.levels) h.after));
      end = let is = may_end n tokens a.state a.forms.items a.names h.after in ((λ x. is.0 (ends.0 x)), (λ x. ends.1 (is.1 x)));
      open_there = brackets ∙ h.spans_are;
    }
