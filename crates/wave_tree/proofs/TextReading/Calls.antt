-- What call a text is, by what a parser takes of it.
use Rattle.std.proofs.Common.{◌≡◌, ◌≢◌, ℕ, zero, suc, ◌+◌, ◌-◌, inl, inr, List, [], ◌∷◌, refl, sym, ap, subst, ◌∙◌, length, take, drop, add-one, arith, Option, Some, None, Ok, Err, length-drop}
use Rattle.std.specs.Prelude.{◌⊎◌, IfErr, Result}
use Rattle.std.specs.declared.ops.Range.{Range}
use Rattle.std.proofs.lemmas.List.{append-nil}
use Rattle.wave_lex.specs.declared.lex.Token as lex
use Rattle.wave_lex.specs.declared.lex.Token.TheVariants.{ParenOpen, ParenClose}
use Rattle.wave_lex.specs.declared.lex.FuncNameToken.{FuncNameToken}
use Rattle.wave_lex.specs.declared.error.ParserErrorKind.TheVariants as because
use Rattle.wave_lex.specs.Tokens.{shape}
use Rattle.wave_lex.specs.FunctionName.{IsName, NoName, NameIs}
use Rattle.wave_lex.specs.Tokenization.{Lexed, span}
use Rattle.wave_lex.proofs.Tokenization.Classes.{shape_not_empty}
use Rattle.wave_lex.proofs.LongestPrefix.ByComputing.{prefix_positive}
use Rattle.wave_grammar.specs.Token as token
use Rattle.wave_grammar.specs.Token.{Token, TokenizesTo, paren_open, paren_close}
use Rattle.wave_grammar.specs.Tree as form
use Rattle.wave_grammar.specs.Tree.{Tree, MaybeTree, no_tree, a_tree, Takes, word_of}
use Rattle.wave_grammar.specs.Calls.{SpellsParams, IsCall}
use Rattle.wave_grammar.specs.SpannedTree.{tuple, placed_trees, trees_of, tree_of}
use Rattle.wave_grammar.specs.NodeTree.{NodeTree, type_of}
use Rattle.wave_grammar.specs.ParserPosition as place
use Rattle.wave_grammar.specs.ParserPosition.{Place, TakesToken, TakesTokens, token_of, text_at}
use Rattle.wave_grammar.specs.PrefixAutomaton as expectation
use Rattle.wave_lex.specs.Errors.{Diagnostic, Says, Refusal, LiesInText}
use Rattle.wave_wasm.specs.Types.{TypeTree}
use Rattle.wave_grammar.specs.NodeParams.{RefusesNone}
use Rattle.wave_grammar.specs.ErrorSpans.{IsTypeKind, HasParamsKind}
use Rattle.wave_grammar.specs.SyntaxErrors.{LeadsBehindValue, IsSyntaxError}
use Rattle.wave_tree.specs.ParserLaws.{AreNext}
use Rattle.wave_tree.specs.ParsedNodes.{IsSound, TakesClass}
use Rattle.wave_tree.specs.Private.ParsedNodes.{IsOfItems}
use Rattle.wave_tree.specs.ParserState.{IsTrailing}
use Rattle.wave_tree.specs.UntypedCall.{Called, IsTupleTaken, AreParamsTaken, RefusesTuple, IsCallWithin, IsCalledWithin, IsCalledOf, IsNoCallWithin, NameFault, RefusesCallWithin, RefusesCall, IsParamsOf, RefusesParamsAt, behind_name}
use Rattle.wave_tree.specs.Private.UntypedCall.{CallStandsIn, params_place}
use Rattle.wave_grammar.proofs.Automaton.Sound.{level_open}
use Rattle.wave_grammar.proofs.Unambiguity.Trees.{one_tree}
use Rattle.wave_tree.proofs.ParserCorrectness.Sound.{read_have_tree, refused_have_none, token_one}
use Rattle.wave_tree.proofs.ParserCorrectness.Steps.{not_expected}
use Rattle.wave_grammar.proofs.NodeTexts.Slices.{taken_is}
use Rattle.wave_grammar.proofs.ErrorSpans.Nodes.{node_in_text}
use Rattle.wave_tree.proofs.TextReading.Meaning.{AllOf, all_from, cut_from, all_are_next, all_taken, nothing_there}
use Rattle.wave_grammar.proofs.ByKind.Tuples.{tuple_nodes, no_word}
use Rattle.wave_grammar.proofs.ByKind.Leaves.{tree_is}
use Rattle.wave_tree.proofs.NodeCorrectness.Lists.{tuple_parsed}

-- ---- what is taken

-- a `(` begins the items of a tuple, where at least one level is left
step_in : (n : ℕ) → expectation.step (n + 1) expectation.value [] paren_open ≡ expectation.reads expectation.first_item (expectation.tuple ∷ [])
step_in n = level_open (n + 1) [] paren_open (omega arith)

-- what leads on after a `(` leads on from before it, where a value is expected
read_before : (n : ℕ) (old m new : Place) → TakesClass ParenOpen old m → LeadsBehindValue (n + 1) expectation.first_item (expectation.tuple ∷ []) m new [] → LeadsBehindValue (n + 1) expectation.value [] old new []
read_before n old m new open_there h = record { tokens = paren_open ∷ h.tokens; taken = (m, (ParenOpen, open_there, refl), h.taken); expected_there = h.expected_there; is_behind = h.is_behind; leads = (expectation.first_item, expectation.tuple ∷ [], step_in n, h.leads) }

refused_before : (n : ℕ) (e : Diagnostic) (old m new : Place) → TakesClass ParenOpen old m → IsSyntaxError e (n + 1) expectation.first_item (expectation.tuple ∷ []) m new → IsSyntaxError e (n + 1) expectation.value [] old new
refused_before n e old m new open_there h = record { tokens = paren_open ∷ h.tokens; at = h.at; expected_there = h.expected_there; open_there = h.open_there; taken = (m, (ParenOpen, open_there, refl), h.taken); leads = (expectation.first_item, expectation.tuple ∷ [], step_in n, h.leads); unfinished = h.unfinished; stands = h.stands }

-- the tuple of the parameters
pub tuple_taken : (n : ℕ) (old m new : Place) (parsed : NodeTree) → IsSound old → TakesClass ParenOpen old m → LeadsBehindValue (n + 1) expectation.first_item (expectation.tuple ∷ []) m new [] → IsOfItems n ParenClose m new parsed → IsTupleTaken n old new parsed
tuple_taken n old m new parsed sound open_there read items =
    let within : n ≡ n + 1 - 1 = omega arith in
    let h = tuple_parsed (n + 1) old m new parsed (omega arith) open_there (subst (λ z. IsOfItems z ParenClose m new parsed) within items) in
    record {
      read = read_before n old m new open_there read;
      ty = ap type_of items.is;
      placed = h.placed;
      is_node = h.is_node sound;
      tokens = h.token ∷ h.others;
      taken = (h.first, h.begins, h.taken);
      takes = subst (λ z. Takes (n + 1) (h.token ∷ z) (tree_of h.placed) []) (append-nil h.others) (h.takes [] (λ more e. cc));
      stands = (h.first, h.token, h.begins, h.spans);
    }

-- ---- the spelling of parameters

-- a tuple is spelled as parameters are
tuple_tokens : (tokens : List Token) (n : ℕ) (ts : form.Trees) → Takes (suc n) tokens (form.tuple ts) [] → SpellsParams n tokens (a_tree (form.tuple ts))
tuple_tokens [] n ts h = absurd h
tuple_tokens (token.paren_open ∷ prefix) n ts h = inr (prefix, h.0, refl, h.1, h.2, ap a_tree h.3)
tuple_tokens (token.bracket_open ∷ prefix) n ts h = absurd (cc h.2)
tuple_tokens (token.brace_open ∷ prefix) n ts (inl h) = absurd (cc h.1)
tuple_tokens (token.brace_open ∷ prefix) n ts (inr (inl h)) = absurd (cc h.1)
tuple_tokens (token.brace_open ∷ prefix) n ts (inr (inr (inl h))) = absurd (cc h.3)
tuple_tokens (token.brace_open ∷ prefix) n ts (inr (inr (inr h))) = absurd (cc h.4)
tuple_tokens (token.label text ∷ behind) n ts h = absurd (no_word (word_of text) text n behind ts h)
tuple_tokens (token.number text ∷ behind) n ts h = absurd (cc h.1)
tuple_tokens (token.char text ∷ behind) n ts h = absurd (cc h.1)
tuple_tokens (token.string text ∷ behind) n ts h = absurd (cc h.1)
tuple_tokens (token.multiline text ∷ behind) n ts h = absurd (cc h.1)
tuple_tokens (_ ∷ behind) n ts h = absurd h

-- parameters are `()` or a tuple's tokens
pub params_tokens : (n : ℕ) (tokens : List Token) (params : MaybeTree) → SpellsParams n tokens params → (tokens ≡ paren_open ∷ paren_close ∷ []) ⊎ ((t : Tree) × Takes (suc n) tokens t [])
params_tokens n tokens params (inl h) = inl h.0
params_tokens n tokens params (inr (prefix, items, is, some, all, e)) = inr (form.tuple (form.trees items), subst (λ z. Takes (suc n) z (form.tuple (form.trees items)) []) (sym is) (items, some, all, refl))

-- they begin with `(`
pub opens : (n : ℕ) (tokens : List Token) (params : MaybeTree) → SpellsParams n tokens params → (more : List Token) × (tokens ≡ paren_open ∷ more)
opens n tokens params (inl h) = (paren_close ∷ [], h.0)
opens n tokens params (inr (prefix, items, is, some, all, e)) = (prefix, is)

-- no tree begins with `()`
no_empty : (n : ℕ) (more : List Token) (t : Tree) (rest : List Token) → Takes (suc n) (paren_open ∷ paren_close ∷ more) t rest → ⊥
no_empty n more t rest ([], some, all, e) = absurd (omega (arith, some))
no_empty zero more t rest (a ∷ items, some, (behind, h, further), e) = h
no_empty (suc n) more t rest (a ∷ items, some, (behind, h, further), e) = h

-- nor is `(` one
pub no_alone : (n : ℕ) (t : Tree) (rest : List Token) → Takes (suc n) (paren_open ∷ []) t rest → ⊥
no_alone n t rest ([], some, all, e) = absurd (omega (arith, some))
no_alone zero t rest (a ∷ items, some, (behind, h, further), e) = h
no_alone (suc n) t rest (a ∷ items, some, (behind, h, further), e) = h

-- ---- names

pub one_name : (s : List ℕ) (j k : ℕ) → IsName s j → IsName s k → j ≡ k
one_name s j k h l = let a = h.1 k l.0 in let b = l.1 j h.0 in omega (arith, a, b)

pub paren_class : (c : lex.Token) (text : List ℕ) → paren_open ≡ token_of c text → c ≡ ParenOpen
paren_class ParenOpen text e = refl
paren_class _ text e = absurd (cc)

pub close_class : (c : lex.Token) (text : List ℕ) → paren_close ≡ token_of c text → c ≡ ParenClose
close_class ParenClose text e = refl
close_class _ text e = absurd (cc)

-- the tokens of a call after its name
record CallTokens (n : ℕ) (s : List ℕ) (k : ℕ) : Type 0 where
  pub tokens : List Token
  pub params : MaybeTree
  pub spelled : SpellsParams n tokens params
  pub all : AllOf (behind_name s k) tokens

call_tokens : (n : ℕ) (s : List ℕ) (k : ℕ) (name : List ℕ) (params : MaybeTree) → IsName s k → IsCallWithin n s name params → CallTokens n s k
call_tokens n s k name params named h =
    let same = one_name s h.bytes k h.named named in
    record { tokens = h.tokens; params = params; spelled = h.spelled; all = all_from (behind_name s k) h.tokens (subst (λ (z : ℕ). TokenizesTo (drop z s) h.tokens) same h.cut) }

-- their first is `(`
first_open : (n : ℕ) (s : List ℕ) (k : ℕ) → CallTokens n s k → (m : Place) × TakesClass ParenOpen (behind_name s k) m
first_open n s k h =
    let (more, is) = opens n h.tokens h.params h.spelled in
    let (m, (c, there, e), rest) = subst (λ z. TakesTokens (behind_name s k) z h.all.last) is h.all.taken in
    (m, subst (λ z. place.TakesItem (behind_name s k) (Some (Ok z)) m) (paren_class c (text_at m) e) there)

-- ---- no call

no_call_unnamed : (n : ℕ) (s : List ℕ) → NoName s → IsNoCallWithin n s
no_call_unnamed n s none name params h = none h.bytes h.named.0

no_call_empty : (n : ℕ) (s : List ℕ) → s ≡ [] → IsNoCallWithin n s
no_call_empty n s e name params h =
    let (m, open_there) = first_open n s h.bytes (call_tokens n s h.bytes name params h.named h) in
    let it = taken_is (behind_name s h.bytes) m ParenOpen open_there in
    let some = prefix_positive (shape ParenOpen) (drop it.g (drop h.bytes s)) it.k (shape_not_empty ParenOpen) it.token_is.is.0 in
    let fits = it.token_is.is.0.fits in
    omega (arith, some, fits, length-drop it.g (drop h.bytes s), length-drop h.bytes s, ap length e)

no_call_refused : (n : ℕ) (s : List ℕ) (k : ℕ) (p : Place) (e : Diagnostic) → IsName s k → RefusesTuple n e (behind_name s k) p → IsNoCallWithin n s
no_call_refused n s k p e named (inl fails) name params h =
    let (m, open_there) = first_open n s k (call_tokens n s k name params named h) in
    not_expected (behind_name s k) (behind_name s k) p ParenOpen e refl (m, open_there) fails
no_call_refused n s k p e named (inr (m, open_there, no_close, refused)) name params h =
    let it = call_tokens n s k name params named h in by it (params_tokens n it.tokens it.params it.spelled)
  where
    by : (it : CallTokens n s k) → (it.tokens ≡ paren_open ∷ paren_close ∷ []) ⊎ ((t : Tree) × Takes (suc n) it.tokens t []) → ⊥
    by it (inl is) =
        let (m', (c, there, f), (q, (d, close_there, g), rest)) = subst (λ z. TakesTokens (behind_name s k) z it.all.last) is it.all.taken in
        let same = (token_one (behind_name s k) m m' paren_open paren_open (ParenOpen, open_there, refl) (c, there, f)).1 in
        no_close q (subst (λ z. place.TakesItem m (Some (Ok z)) q) (close_class d (text_at q) g) (subst (λ z. place.TakesItem z (Some (Ok d)) q) (sym same) close_there))
    by it (inr (t, takes)) = refused_have_none (n + 1) e (behind_name s k) p it.tokens (refused_before n e (behind_name s k) m p open_there refused) (all_are_next (behind_name s k) it.tokens it.all) t [] (rw add-one takes)

-- what was taken after the name is all of a call's tokens
taken_all : (n : ℕ) (s : List ℕ) (k : ℕ) (p : Place) (params : Option NodeTree) → AreParamsTaken n (behind_name s k) p params → (it : CallTokens n s k) → p ≡ it.all.last
taken_all n s k p None (m, open_there, close_there) it = by (params_tokens n it.tokens it.params it.spelled)
  where
    first : TakesToken (behind_name s k) paren_open m
    first = (ParenOpen, open_there, refl)

    by : (it.tokens ≡ paren_open ∷ paren_close ∷ []) ⊎ ((t : Tree) × Takes (suc n) it.tokens t []) → p ≡ it.all.last
    by (inl is) =
        let (m', a, (q, b, rest)) = subst (λ z. TakesTokens (behind_name s k) z it.all.last) is it.all.taken in
        let same = (token_one (behind_name s k) m m' paren_open paren_open first a).1 in
        (token_one m p q paren_close paren_close (ParenClose, close_there, refl) (subst (λ z. TakesToken z paren_close q) (sym same) b)).1 ∙ rest
    by (inr (t, takes)) = absurd (begins it.tokens it.all.taken takes)
      where
        begins : (ts : List Token) → TakesTokens (behind_name s k) ts it.all.last → Takes (suc n) ts t [] → ⊥
        begins [] a h = h
        begins (u ∷ []) (m', a, rest) h = let (is, same) = token_one (behind_name s k) m' m u paren_open a first in no_alone n t [] (subst (λ z. Takes (suc n) (z ∷ []) t []) is h)
        begins (u ∷ v ∷ ts) (m', a, (q, b, rest)) h =
            let (is, same) = token_one (behind_name s k) m' m u paren_open a first in
            let (close_is, there) = token_one m q p v paren_close (subst (λ z. TakesToken z v q) same b) (ParenClose, close_there, refl) in
            no_empty n ts t [] (subst (λ z. Takes (suc n) (z ∷ paren_close ∷ ts) t []) is (subst (λ z. Takes (suc n) (u ∷ z ∷ ts) t []) close_is h))
taken_all n s k p (Some parsed) h it = by (params_tokens n it.tokens it.params it.spelled)
  where
    next : AreNext (behind_name s k) it.tokens
    next = all_are_next (behind_name s k) it.tokens it.all

    by : (it.tokens ≡ paren_open ∷ paren_close ∷ []) ⊎ ((t : Tree) × Takes (suc n) it.tokens t []) → p ≡ it.all.last
    by (inl is) =
        let (w, rest, takes, behind) = read_have_tree (n + 1) (behind_name s k) p it.tokens h.read next in
        absurd (no_empty n [] w rest (simp add-one at (subst (λ z. Takes (n + 1) z w rest) is takes)))
    by (inr (t, takes)) =
        let (w, rest, others, behind) = read_have_tree (n + 1) (behind_name s k) p it.tokens h.read next in
        let same = one_tree (suc n) (n + 1) it.tokens t w [] rest takes others in
        (all_taken (behind_name s k) p h.tokens it.tokens h.taken (subst (AreNext p) (sym same.1) behind) it.all).1

no_call_trailing : (n : ℕ) (s : List ℕ) (k : ℕ) (p : Place) (params : Option NodeTree) (e : Diagnostic) → IsName s k → AreParamsTaken n (behind_name s k) p params → IsTrailing e p → IsNoCallWithin n s
no_call_trailing n s k p params e named taken (behind, any_there, says) name others h =
    let it = call_tokens n s k name others named h in
    let same = taken_all n s k p params taken it in
    let (end, ends) = it.all.ends in
    nothing_there p end behind (subst (λ z. place.TakesItem z None end) (sym same) ends) any_there

-- ---- the answers

-- the parameters of a call and its end
pub called_within : (n : ℕ) (s : List ℕ) (k : ℕ) (p : Place) (params : Option NodeTree) → IsName s k → AreParamsTaken n (behind_name s k) p params → ((behind : Place) × place.TakesItem p None behind) → IsCalledWithin n s (record { source = s; name = span 0 k; params = params })
called_within n s k p None named (m, open_there, close_there) ends =
    let tokens = paren_open ∷ paren_close ∷ [] in
    let taken : TakesTokens (behind_name s k) tokens p = (m, (ParenOpen, open_there, refl), (p, (ParenClose, close_there, refl), refl)) in
    record { source = refl; params = no_tree; means = refl; call = record { bytes = k; tokens = tokens; named = named; is = ap (λ (z : ℕ). take z s) (omega arith); cut = cut_from (behind_name s k) p tokens taken ends; spelled = inl (refl, refl) }; name = refl; stands = tt }
called_within n s k p (Some parsed) named h ends =
    let inner = tuple_nodes s parsed h.placed h.is_node h.ty in
    let is : tree_of h.placed ≡ form.tuple (trees_of (placed_trees inner.items)) = tree_is h.placed (tuple (placed_trees inner.items)) inner.shape in
    let ts = trees_of (placed_trees inner.items) in
    let takes = simp add-one at (subst (λ z. Takes (n + 1) h.tokens z []) is h.takes) in
    record {
      source = refl;
      params = a_tree (tree_of h.placed);
      means = (h.placed, h.is_node, refl);
      call = record { bytes = k; tokens = h.tokens; named = named; is = ap (λ (z : ℕ). take z s) (omega arith); cut = cut_from (behind_name s k) p h.tokens h.taken ends; spelled = subst (λ z. SpellsParams n h.tokens (a_tree z)) (sym is) (tuple_tokens h.tokens n ts takes) };
      name = refl;
      stands = (h.placed, h.tokens, p, ends.0, h.is_node, h.taken, h.stands, ends.1);
    }

-- ---- the name

-- the lexer after a name
pub named_at : (s : List ℕ) (l : Lexed) (name : FuncNameToken) → NameIs (record { source = s; start = 0; end = 0 }) l (Some (Ok name)) → (k : ℕ) × IsName s k × (l ≡ record { source = s; start = 0; end = k })
named_at s l name (k, it, named) = (k, named, λ i. record { source = it.source i; start = it.start i; end = (it.end ∙ zero_plus) i })
  where
    zero_plus : 0 + k ≡ k
    zero_plus = omega arith

-- the place of a refused name
pub unnamed_at : (s : List ℕ) (l : Lexed) (bad : Range ℕ) (e : Diagnostic) → NameIs (record { source = s; start = 0; end = 0 }) l (Some (Err bad)) → Says e because.InvalidToken (span l.start l.end) None → NameFault s e
unnamed_at s l bad e (k, it, none, prefix, place) says = inr (k, none, prefix, subst (λ (p : Range ℕ). Says e because.InvalidToken p None) (λ i. span (it.start i) ((it.end ∙ zero_plus) i)) says)
  where
    zero_plus : 0 + k ≡ k
    zero_plus = omega arith

pub name_refused : (n : ℕ) (s : List ℕ) (e : Diagnostic) → NameFault s e → RefusesCallWithin n s e
name_refused n s e (inl h) apart = (inl (inl h), no_call_empty n s h.0)
name_refused n s e (inr h) apart = (inl (inr h), no_call_unnamed n s h.1)

pub params_refused : (n : ℕ) (s : List ℕ) (k : ℕ) (p : Place) (e : Diagnostic) → IsName s k → (e.kind ≢ because.OutOfMemory → RefusesTuple n e (behind_name s k) p) → RefusesCallWithin n s e
params_refused n s k p e named h apart = (inr (inl (k, p, named, h apart)), no_call_refused n s k p e named (h apart))

pub rest_refused : (n : ℕ) (s : List ℕ) (k : ℕ) (p : Place) (params : Option NodeTree) (e : Diagnostic) → IsName s k → AreParamsTaken n (behind_name s k) p params → IsTrailing e p → RefusesCallWithin n s e
rest_refused n s k p params e named taken trails apart = (inr (inr (k, p, params, named, taken, trails)), no_call_trailing n s k p params e named taken trails)

-- ---- within 100 levels

-- a call within 100 levels is one of the grammar
pub called_of : (s : List ℕ) (u : Called) → IsCalledWithin 100 s u → IsCalledOf s u
called_of s u h =
    record {
      source = h.source;
      params = h.params;
      means = h.means;
      call = record { bytes = h.call.bytes; tokens = h.call.tokens; named = h.call.named; is = h.call.is; cut = h.call.cut; spelled = h.call.spelled };
      name = h.name;
      stands = h.stands;
    }

-- and what is none within 100 levels is none
pub call_refused : (s : List ℕ) (e : Diagnostic) → RefusesCallWithin 100 s e → RefusesCall s e
call_refused s e h apart =
    let (fault, none) = h apart in
    (fault, λ name params call. none name params (record { bytes = call.bytes; tokens = call.tokens; named = call.named; is = call.is; cut = call.cut; spelled = call.spelled }))

-- ---- the parameters at types

-- a refusal of a call without parameters is of a kind that reading parameters answers
none_kind : (Full : TypeTree → Type 0) (Ts : List TypeTree) (at : Range ℕ) (e : Diagnostic) → RefusesNone Full Ts at e → HasParamsKind e
none_kind Full Ts at e (inl memory) = inl (subst IsTypeKind (sym memory) tt)
none_kind Full Ts at e (inr (inl (some, says))) = inr (ap (λ (r : Refusal). r.kind) says.is)
none_kind Full Ts at e (inr (inr refused)) = inl (subst IsTypeKind (sym refused.0) tt)

pub all_kind : {X : Type 0} (Full : TypeTree → Type 0) (Ts : List TypeTree) (at : Range ℕ) (r : Result X Diagnostic) → IfErr r (RefusesNone Full Ts at) → IfErr r HasParamsKind
all_kind Full Ts at (Ok x) h = tt
all_kind Full Ts at (Err e) h = none_kind Full Ts at e h

-- ---- out of memory at the parameters

-- out of memory is a refusal of the parameters
pub memory_refuses : (Full : TypeTree → Type 0) (Ts : List TypeTree) (source : List ℕ) (name : Range ℕ) (params : Option NodeTree) (e : Diagnostic) → IsParamsOf source params → e.kind ≡ because.OutOfMemory → RefusesParamsAt Full Ts source name params e
memory_refuses Full Ts source name None e h memory = inl memory
memory_refuses Full Ts source name (Some n) e h memory = λ t is. let inner = tuple_nodes source n t is h.1 in inr (inner.items, inner.shape, inl memory)

-- the parameters stand in the text, and so does the name
pub params_in_text : (source : List ℕ) (name : Range ℕ) (params : Option NodeTree) (e : Diagnostic) → CallStandsIn source name params → e.span ≡ params_place name params → LiesInText source e.span
params_in_text source name None e h at = subst (LiesInText source) (sym at) (h.0.ordered, h.0.last.0)
params_in_text source name (Some n) e h at = subst (LiesInText source) (sym at) (node_in_text source n (inl h.1.0))
