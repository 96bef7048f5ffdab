-- Where out of memory may be answered.
use Rattle.std.proofs.Common.{ℕ, ◌≡◌, ◌≢◌, List, [], ◌∷◌, ◌++◌, Some, Result, Ok, Err, refl, sym, ◌∙◌, inl, inr}
use Rattle.std.specs.Prelude.{IfErr}
use Rattle.wave_lex.specs.declared.lex.Token as lex
use Rattle.wave_lex.specs.declared.lex.Token.TheVariants.{BraceOpen}
use Rattle.wave_lex.specs.declared.error.ParserErrorKind.{ParserErrorKind}
use Rattle.wave_lex.specs.declared.error.ParserErrorKind.TheVariants as kind
use Rattle.wave_lex.specs.Errors.{Diagnostic}
use Rattle.wave_grammar.specs.Token.{Token}
use Rattle.wave_grammar.specs.ParserPosition.{Place, TakesItem, TakesTokens, text_at, token_of}
use Rattle.wave_grammar.specs.PrefixAutomaton.{Expectation, StackSymbol}
use Rattle.wave_tree.specs.ParserState.{HoldsNoBrace, Fails}
use Rattle.wave_tree.specs.Private.ParserState.{OnlyOutOfMemory}
use Rattle.wave_tree.proofs.ParserCorrectness.Steps.{Reached, tokens_join, kind_is}

-- no brace stands after tokens before which none stands
pub none_behind : (p q : Place) (ts : List Token) → TakesTokens p ts q → HoldsNoBrace p → HoldsNoBrace q
none_behind p q ts h none us r w more brace = none (ts ++ us) r w (tokens_join p q r ts us h more) brace

module _ (Takes : Type 0) where
  -- what is said after tokens holds before them
  pub wants_behind : (p q : Place) (ts : List Token) (e : Diagnostic) → TakesTokens p ts q → OnlyOutOfMemory Takes q e → OnlyOutOfMemory Takes p e
  wants_behind p q ts e h wants is none = wants is (none_behind p q ts h none)

  pub wants_token : (p q : Place) (c : lex.Token) (e : Diagnostic) → TakesItem p (Some (Ok c)) q → OnlyOutOfMemory Takes q e → OnlyOutOfMemory Takes p e
  wants_token p q c e h wants = wants_behind p q (token_of c (text_at q) ∷ []) e (q, (c, h, refl), refl) wants

  pub wants_reached : {n : ℕ} {d f : Expectation} {s r : List StackSymbol} {p q : Place} (e : Diagnostic) → Reached n d s p f r q → OnlyOutOfMemory Takes q e → OnlyOutOfMemory Takes p e
  wants_reached {p = p} {q = q} e h wants = wants_behind p q h.tokens e h.taken wants

  -- so it is of an answer
  pub answer_token : {M : Type 0} (p q : Place) (c : lex.Token) (r : Result M Diagnostic) → TakesItem p (Some (Ok c)) q → IfErr r (OnlyOutOfMemory Takes q) → IfErr r (OnlyOutOfMemory Takes p)
  answer_token p q c (Ok built) h wants = tt
  answer_token p q c (Err e) h wants = wants_token p q c e h wants

  -- a brace stands there
  pub answer_brace : {M : Type 0} (p q : Place) (r : Result M Diagnostic) → TakesItem p (Some (Ok BraceOpen)) q → IfErr r (OnlyOutOfMemory Takes p)
  answer_brace p q (Ok built) h = tt
  answer_brace p q (Err e) h = λ is none. absurd (none [] p q refl h)

  -- a refusal of another kind
  pub wants_other : (p : Place) (e : Diagnostic) (k : ParserErrorKind) → e.kind ≡ k → k ≢ kind.OutOfMemory → OnlyOutOfMemory Takes p e
  wants_other p e k is apart = λ memory none. absurd (apart (sym is ∙ memory))

  -- what is always a refusal, by what it says
  pub wants_refused : {M : Type 0} {P : Diagnostic → Type 0} (p : Place) (r : Result M Diagnostic) → IfErr r P → ((x : Diagnostic) → P x → OnlyOutOfMemory Takes p x) → IfErr r (OnlyOutOfMemory Takes p)
  wants_refused p (Ok built) says wants = tt
  wants_refused p (Err e) says wants = wants e says

  -- what stands next is none of the wanted tokens
  pub wants_fails : (p q r : Place) (Wanted : lex.Token → Type 0) (e : Diagnostic) → Fails Wanted e q r → OnlyOutOfMemory Takes p e
  wants_fails p q r Wanted e (inl (bad, h, says)) = wants_other p e kind.InvalidToken (kind_is says) (λ z. cc)
  wants_fails p q r Wanted e (inr (inl (h, says))) = wants_other p e kind.UnexpectedEnd (kind_is says) (λ z. cc)
  wants_fails p q r Wanted e (inr (inr (c, h, no_such, says))) = wants_other p e kind.UnexpectedToken (kind_is says) (λ z. cc)

  -- parts take memory
  pub wants_taken : (p : Place) (e : Diagnostic) → Takes → OnlyOutOfMemory Takes p e
  wants_taken p e takes = λ memory none. takes

-- what takes memory for less takes it too
pub wants_less : (Less Takes : Type 0) (p : Place) (e : Diagnostic) → (Less → Takes) → OnlyOutOfMemory Less p e → OnlyOutOfMemory Takes p e
wants_less Less Takes p e more wants = λ memory none. more (wants memory none)

-- so whatever the parts are
pub whatever_parts : {M E A B C : Type 0} (Are : A → B → C → Type 0) (Is : E → Type 0) (r : Result M E) → IfErr r Is → IfErr r (λ e. (a : A) (b : B) (c : C) → Are a b c → Is e)
whatever_parts Are Is (Ok built) h = tt
whatever_parts Are Is (Err e) h = λ a b c are. h

-- parts take memory, where they were refused for lack of it
pub wants_any : {M E A B C : Type 0} (Are : A → B → C → Type 0) (Takes : Type 0) (Is : E → Type 0) (r : Result M E) → IfErr r (λ _. (a : A) (b : B) (c : C) → Are a b c → Takes) → ((e : E) → Takes → Is e) →
    IfErr r (λ e. (a : A) (b : B) (c : C) → Are a b c → Is e)
wants_any Are Takes Is (Ok built) takes f = tt
wants_any Are Takes Is (Err e) takes f = λ a b c are. f e (takes a b c are)
