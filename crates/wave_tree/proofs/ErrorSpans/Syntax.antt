-- The spans of refusals lie in the text.
use Rattle.std.proofs.Common.{ℕ, ◌≡◌, ◌≢◌, Option, inl, inr, ◌≤◌, ◌+◌, List, [], ◌∷◌, length, drop, length-drop, Some, None, Ok, Err, sym, ap, ◌∙◌, subst, arith}
use Rattle.std.specs.declared.ops.Range.{Range}
use Rattle.wave_lex.specs.declared.error.ParserErrorKind.{ParserErrorKind}
use Rattle.wave_lex.specs.declared.error.ParserErrorKind.TheVariants as kind
use Rattle.wave_lex.specs.declared.lex.Token as lex
use Rattle.wave_lex.specs.declared.lex.Token.TheVariants.{ParenOpen, ParenClose}
use Rattle.wave_lex.specs.FunctionName.{IsName}
use Rattle.wave_lex.specs.Errors.{Diagnostic, Refusal, LiesInText}
use Rattle.wave_lex.specs.Tokenization.{Lexed, Stands, Passes, NextIs, remainder_of, span}
use Rattle.wave_grammar.specs.Token.{Token}
use Rattle.wave_grammar.specs.ParserPosition.{Place, Item, TakesTokens}
use Rattle.wave_grammar.specs.PrefixAutomaton.{Expectation, StackSymbol, value, first_item, tuple}
use Rattle.wave_grammar.specs.SyntaxErrors.{StandsAt, IsSyntaxError}
use Rattle.wave_tree.specs.ParserState.{Fails, IsTrailing}
use Rattle.wave_grammar.specs.NodeTree.{NodeTree}
use Rattle.wave_tree.specs.UntypedCall.{RefusesTuple, AreParamsTaken, NameFault, behind_name}
use Rattle.wave_tree.specs.ParserLaws.{LiesInSource, RefusalsLieInText}

-- the item after whitespace lies in the source, after what was read
record Behind (l m : Lexed) : Type 0 where
  pub later : l.end ≤ m.start
  pub inside : LiesInSource m
  pub source : m.source ≡ l.source

passed : (l m : Lexed) (g k : ℕ) → Passes l m g k → g ≤ length (remainder_of l) → k ≤ length (drop g (remainder_of l)) → LiesInSource l → Behind l m
passed l m g k p whitespace fits h =
    let a = length-drop l.end l.source in
    let b = length-drop g (remainder_of l) in
    let s : length m.source ≡ length l.source = ap length p.source in
    let from = p.start in
    let to = p.end in
    record { later = omega arith; inside = (omega arith, omega arith); source = p.source }

next_inside : (l m : Lexed) (item : Item) → NextIs l m item → LiesInSource l → Behind l m
next_inside l m None p h = passed l m (length (remainder_of l)) 0 p (omega arith) (omega arith) h
next_inside l m (Some (Ok c)) (g, k, p, t) h = passed l m g k p p.skipped.0.fits t.is.0.fits h
next_inside l m (Some (Err bad)) (g, k, p, u, e) h = passed l m g k p p.skipped.0.fits u.1.0.fits h

-- where tokens were taken the lexer stands in the source
pub tokens_inside : (p q : Place) (ts : List Token) → TakesTokens p ts q → LiesInSource p.lexer → LiesInSource q.lexer × (q.lexer.source ≡ p.lexer.source)
tokens_inside p q [] e h = (subst (λ (z : Place). LiesInSource z.lexer) e h, ap (λ (z : Place). z.lexer.source) (sym e))
tokens_inside p q (t ∷ ts) (m, (c, k, e), more) h =
    let b = next_inside p.lexer m.lexer (Some (Ok c)) k.0 h in
    let r = tokens_inside m q ts more b.inside in
    (r.0, r.1 ∙ b.source)

-- the span of the item that stands next
item_lies : (l m : Lexed) (s : Range ℕ) → Behind l m → s ≡ span m.start m.end → LiesInText l.source s
item_lies l m s b e = subst (LiesInText l.source) (sym e) (b.inside.0, let same : length m.source ≡ length l.source = ap length b.source in let last = b.inside.1 in omega arith)

stands_inside : (k : ParserErrorKind) (x : Diagnostic) (n : ℕ) (d : Expectation) (s : List StackSymbol) (p q : Place) → StandsAt k x n d s p q → LiesInSource p.lexer → LiesInText p.lexer.source x.span
stands_inside kind.EmptyTuple x n d s p q (c, (h, e), says) i =
    let b = next_inside p.lexer q.lexer (Some (Ok c)) h.0 i in
    let same : length q.lexer.source ≡ length p.lexer.source = ap length b.source in
    let later = b.later in
    let inside = b.inside in
    subst (LiesInText p.lexer.source) (sym says.stands) (omega arith, omega arith)
stands_inside kind.InvalidToken x n d s p q (bad, h, f, says) i = item_lies p.lexer q.lexer x.span (next_inside p.lexer q.lexer (Some (Err bad)) h.0 i) (says.stands ∙ h.0.4)
stands_inside kind.UnexpectedEnd x n d s p q (h, f, says) i = item_lies p.lexer q.lexer x.span (next_inside p.lexer q.lexer None h.0 i) says.stands
stands_inside kind.UnexpectedToken x n d s p q (c, (h, e), says) i = item_lies p.lexer q.lexer x.span (next_inside p.lexer q.lexer (Some (Ok c)) h.0 i) says.stands
stands_inside kind.DuplicateFlag x n d s p q (c, (h, e), says) i = item_lies p.lexer q.lexer x.span (next_inside p.lexer q.lexer (Some (Ok c)) h.0 i) says.stands
stands_inside kind.NestingTooDeep x n d s p q (deep, e, says) i = subst (LiesInText p.lexer.source) (sym says.stands) i
stands_inside k x n d s p q h i = absurd h

-- a refusal of what was expected lies in the source
pub refused_lies : (e : Diagnostic) (n : ℕ) (d : Expectation) (s : List StackSymbol) (p q : Place) → IsSyntaxError e n d s p q → LiesInSource p.lexer → LiesInText p.lexer.source e.span
refused_lies e n d s p q h i =
    let at = tokens_inside p h.at h.tokens h.taken i in
    subst (λ (t : List ℕ). LiesInText t e.span) at.1 (stands_inside e.kind e n h.expected_there h.open_there h.at q h.stands at.0)

-- it is no `WasmValueError`
pub refused_kind : (e : Diagnostic) (n : ℕ) (d : Expectation) (s : List StackSymbol) (p q : Place) → IsSyntaxError e n d s p q → e.kind ≢ kind.WasmValueError
refused_kind e n d s p q h is = subst (λ (k : ParserErrorKind). StandsAt k e n h.expected_there h.open_there h.at q) is h.stands

-- a syntax refusal lies in the source, and so does what follows a value
pub refusals_lie : RefusalsLieInText
refusals_lie e p i (inl (n, q, h)) = refused_lies e n value [] p q h i
refusals_lie e p i (inr (behind, (item, some, h), says)) = item_lies p.lexer behind.lexer e.span (next_inside p.lexer behind.lexer item h.0 i) says.stands

-- nor is what follows a value
pub trailing_kind : (e : Diagnostic) (p : Place) → IsTrailing e p → e.kind ≢ kind.WasmValueError
trailing_kind e p (behind, item, says) is = cc (sym (ap (λ (r : Refusal). r.kind) says.is) ∙ is)

-- what is no token of the wanted classes lies in the source
pub fails_lie : (Wanted : lex.Token → Type 0) (e : Diagnostic) (p q : Place) → Fails Wanted e p q → LiesInSource p.lexer → LiesInText p.lexer.source e.span
fails_lie Wanted e p q (inl (bad, h, says)) i = item_lies p.lexer q.lexer e.span (next_inside p.lexer q.lexer (Some (Err bad)) h.0 i) (says.stands ∙ h.0.4)
fails_lie Wanted e p q (inr (inl (h, says))) i = item_lies p.lexer q.lexer e.span (next_inside p.lexer q.lexer None h.0 i) says.stands
fails_lie Wanted e p q (inr (inr (c, h, apart, says))) i = item_lies p.lexer q.lexer e.span (next_inside p.lexer q.lexer (Some (Ok c)) h.0 i) says.stands

-- ---- going back

-- where a refusal lies in the source, so does what is answered for it, also where the parser went back
pub back_lies : (l m : Lexed) (e x : Diagnostic) → l ≡ m → ((e.kind ≢ kind.OutOfMemory → LiesInText l.source e.span) → LiesInText l.source x.span) → (e.kind ≢ kind.OutOfMemory → LiesInText m.source e.span) → LiesInText m.source x.span
back_lies l m e x same within there =
    subst (λ (z : Lexed). LiesInText z.source x.span) same (within (λ apart. subst (λ (z : Lexed). LiesInText z.source e.span) (sym same) (there apart)))

-- what holds of a refusal other than out of memory holds of what is answered for it
pub back_same : {A : Type 0} (R : Diagnostic → A → Type 0) (e x : Diagnostic) (old new : A) → (x ≡ e) × (new ≡ old) → R e old → R x new
back_same R e x old new (same, stays) there = subst (λ (z : Diagnostic). R z new) (sym same) (subst (R e) (sym stays) there)

-- ---- calls

-- a refusal of parameters lies in the source
pub tuple_lies : (n : ℕ) (e : Diagnostic) (p q : Place) → RefusesTuple n e p q → LiesInSource p.lexer → LiesInText p.lexer.source e.span
tuple_lies n e p q (inl f) i = fails_lie (λ c. c ≡ ParenOpen) e p q f i
tuple_lies n e p q (inr (m, opens, none, refused)) i =
    let b = next_inside p.lexer m.lexer (Some (Ok ParenOpen)) opens.0 i in
    subst (λ (s : List ℕ). LiesInText s e.span) b.source (refused_lies e (n + 1) first_item (tuple ∷ []) m q refused b.inside)

-- where parameters were taken the lexer stands in the source
pub params_inside : (n : ℕ) (p q : Place) (o : Option NodeTree) → AreParamsTaken n p q o → LiesInSource p.lexer → LiesInSource q.lexer × (q.lexer.source ≡ p.lexer.source)
params_inside n p q None (m, opens, closes) i =
    let a = next_inside p.lexer m.lexer (Some (Ok ParenOpen)) opens.0 i in
    let b = next_inside m.lexer q.lexer (Some (Ok ParenClose)) closes.0 a.inside in
    (b.inside, b.source ∙ a.source)
params_inside n p q (Some parsed) h i = tokens_inside p q h.tokens h.taken i

-- after a function name the lexer stands in the text
pub name_inside : (s : List ℕ) (k : ℕ) → IsName s k → LiesInSource (behind_name s k).lexer
name_inside s k named = (omega arith, named.0.fits)

-- a refusal of a function name lies in the text
pub name_lies : (s : List ℕ) (e : Diagnostic) → NameFault s e → LiesInText s e.span
name_lies s e (inl (none, says)) = subst (LiesInText s) (sym says.stands) (omega arith, omega arith)
name_lies s e (inr (k, none, prefix, says)) = subst (LiesInText s) (sym says.stands) (omega arith, prefix.fits)

-- what follows the parameters lies in the text
pub behind_params_lies : (n : ℕ) (s : List ℕ) (k : ℕ) (q : Place) (o : Option NodeTree) (e : Diagnostic) → IsName s k → AreParamsTaken n (behind_name s k) q o → IsTrailing e q → LiesInText s e.span
behind_params_lies n s k q o e named taken trails =
    let there = params_inside n (behind_name s k) q o taken (name_inside s k named) in
    subst (λ (z : List ℕ). LiesInText z e.span) there.1 (refusals_lie e q there.0 (inr trails))

-- ---- lexers

-- the last item of a lexer lies in its source
pub lexer_inside : (l : Lexed) → Stands l.source l.start l.end → LiesInSource l
lexer_inside l h = (h.ordered, h.last.0)
