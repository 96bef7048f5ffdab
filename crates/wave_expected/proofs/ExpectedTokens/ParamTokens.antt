-- The tokens of parameters, by those of a tuple one level deeper.
use Rattle.std.proofs.Common.{ℕ, suc, ◌≡◌, ◌≢◌, ◌<◌, ◌≤◌, ◌+◌, inl, inr, List, [], ◌∷◌, ◌++◌, length, Option, Some, Result, Ok, Bool, true, false, refl, sym, ap, subst, ◌∙◌, arith}
use Rattle.std.specs.Prelude.{◌⊎◌, ◌↔◌, codes, map, slice_range, Contains, IsTrue}
use Rattle.std.specs.declared.ops.Range.{Range}
use Rattle.std.proofs.lemmas.List.Elements.{Contains-append_left, Contains-push, Contains-push_cases}
use Rattle.wave_lex.specs.declared.lex.Token as lex
use Rattle.wave_lex.specs.declared.lex.Token.TheVariants.{ParenOpen, ParenClose}
use Rattle.wave_lex.specs.Tokens.{shape, function_name}
use Rattle.wave_lex.specs.Tokenization.{Lexed, NextIs, IsToken}
use Rattle.wave_lex.specs.FunctionName.{IsName}
use Rattle.wave_lex.specs.Errors.{Diagnostic}
use Rattle.wave_lex.proofs.LongestPrefix.ByComputing.{prefix_here, prefix_positive}
use Rattle.wave_lex.proofs.Tokenization.NextToken.{next_one}
use Rattle.wave_grammar.specs.Token.{Token, paren_open, paren_close}
use Rattle.wave_grammar.specs.Tree.{no_tree, a_tree}
use Rattle.wave_grammar.specs.ParserPosition.{token_of}
use Rattle.wave_expected.specs.declared.expected.Expected.{Expected}
use Rattle.wave_expected.specs.declared.expected.call.CallPrefix.{CallPrefix}
use Rattle.wave_expected.specs.declared.expected.call.CallPrefix.TheVariants.{Other, Params}
use Rattle.wave_tree.specs.UntypedCall.{NameFault}
use Rattle.wave_expected.specs.Expected.{Placed, token_at, TakesPlaced, StandBefore, IsViable, MayFollow, AreAValue, IsViableCall, MayFollowInCall, AreParams, IsExpectedFrom, IsWithoutName}
use Rattle.wave_expected.specs.Private.CallPrefixes.{classes_of, prefix_behind, prefix_of, classes_in_call, end_in_call}
use Rattle.wave_tree.proofs.TextReading.Calls.{params_tokens, opens, no_alone, one_name, paren_class, close_class}
use Rattle.wave_expected.proofs.ExpectedTokens.RefusalPlaces.{NoneBy, placed_end}

-- ---- parameters and tuples

-- a tuple one level deeper is parameters
tuple_params : (n : ℕ) (tokens : List Token) → AreAValue (suc n) (paren_open ∷ tokens) → AreParams n (paren_open ∷ tokens)
tuple_params n tokens (t, (items, some, all, e)) = (a_tree t, inr (tokens, items, refl, some, all, ap a_tree e))

-- what begins such a tuple begins parameters
tuple_viable : (n : ℕ) (tokens : List Token) → IsViable (suc n) (paren_open ∷ tokens) → IsViableCall n (paren_open ∷ tokens)
tuple_viable n tokens (more, t, h) = let (params, spelled) = tuple_params n (tokens ++ more) (t, h) in (more, params, spelled)

-- what begins parameters begins `()` or such a tuple
viable_tuple : (n : ℕ) (tokens : List Token) → IsViableCall n tokens → ((more : List Token) × (tokens ++ more ≡ paren_open ∷ paren_close ∷ [])) ⊎ IsViable (suc n) tokens
viable_tuple n tokens (more, params, h) = by (params_tokens n (tokens ++ more) params h)
  where
    by : (tokens ++ more ≡ paren_open ∷ paren_close ∷ []) ⊎ AreAValue (suc n) (tokens ++ more) → ((more : List Token) × (tokens ++ more ≡ paren_open ∷ paren_close ∷ [])) ⊎ IsViable (suc n) tokens
    by (inl is) = inl (more, is)
    by (inr (t, takes)) = inr (more, t, takes)

-- parameters begin with `(`
first_is_open : (n : ℕ) (c : lex.Token) (text : List ℕ) (tokens : List Token) → AreParams n (token_of c text ∷ tokens) → c ≡ ParenOpen
first_is_open n c text tokens (params, h) =
    let (more, is) = opens n (token_of c text ∷ tokens) params h in
    paren_class c text (let same : paren_open ≡ token_of c text = cc in same)

-- they have a token
never_none : (n : ℕ) → AreParams n [] → ⊥
never_none n (params, h) = let (more, is) = opens n [] params h in cc

-- and another
never_alone : (n : ℕ) → AreParams n (paren_open ∷ []) → ⊥
never_alone n (params, h) = by (params_tokens n (paren_open ∷ []) params h)
  where
    by : (paren_open ∷ [] ≡ paren_open ∷ paren_close ∷ []) ⊎ AreAValue (suc n) (paren_open ∷ []) → ⊥
    by (inl is) = cc
    by (inr (t, takes)) = no_alone n t [] takes

-- other parameters than `()` are a tuple
params_tuple : (n : ℕ) (tokens : List Token) → (tokens ≡ paren_open ∷ paren_close ∷ [] → ⊥) → AreParams n tokens → AreAValue (suc n) tokens
params_tuple n tokens other (params, h) = by (params_tokens n tokens params h)
  where
    by : (tokens ≡ paren_open ∷ paren_close ∷ []) ⊎ AreAValue (suc n) tokens → AreAValue (suc n) tokens
    by (inl is) = absurd (other is)
    by (inr value) = value

-- ---- which class follows

-- only `(` stands first
follows_nothing : (n : ℕ) (c : lex.Token) → Contains (ParenOpen ∷ []) c ↔ MayFollowInCall n [] c
follows_nothing n c = (
  λ k. there (Contains-push_cases [] ParenOpen c k),
  λ follows. let (text, is, viable) = follows in let (more, params, spelled) = viable in subst (Contains (ParenOpen ∷ [])) (sym (first_is_open n c text more (params, spelled))) (Contains-push [] ParenOpen),
)
  where
    there : Contains [] c ⊎ (ParenOpen ≡ c) → MayFollowInCall n [] c
    there (inl (k, l, e)) = absurd (omega arith)
    there (inr e) = subst (MayFollowInCall n []) e (codes "(", (prefix_here (shape ParenOpen) (codes "(") 1 refl refl refl, tt), (paren_close ∷ [], no_tree, inl (refl, refl)))

-- nothing stands after another
follows_other : (n : ℕ) (k : lex.Token) (text : List ℕ) (tokens : List Token) (c : lex.Token) → k ≢ ParenOpen → Contains [] c ↔ MayFollowInCall n (token_of k text ∷ tokens) c
follows_other n k text tokens c apart = (
  λ h. let (i, l, e) = h in absurd (omega arith),
  λ follows. let (word, is, viable) = follows in let (more, params, spelled) = viable in absurd (apart (first_is_open n k text ((tokens ++ token_of c word ∷ []) ++ more) (params, spelled))),
)

-- after it what begins a tuple, and `)`
follows_open : (n : ℕ) (classes : List lex.Token) (c : lex.Token) → Contains classes c ↔ MayFollow (suc n) (paren_open ∷ []) c → Contains (classes ++ ParenClose ∷ []) c ↔ MayFollowInCall n (paren_open ∷ []) c
follows_open n classes c h = (
  λ k. there (Contains-push_cases classes ParenClose c k),
  λ follows. let (text, is, viable) = follows in back text is (viable_tuple n (paren_open ∷ token_of c text ∷ []) viable),
)
  where
    there : Contains classes c ⊎ (ParenClose ≡ c) → MayFollowInCall n (paren_open ∷ []) c
    there (inl k) = let (text, is, viable) = h.0 k in (text, is, tuple_viable n (token_of c text ∷ []) viable)
    there (inr e) = subst (MayFollowInCall n (paren_open ∷ [])) e (codes ")", (prefix_here (shape ParenClose) (codes ")") 1 refl refl refl, tt), ([], no_tree, inl (refl, refl)))

    back : (text : List ℕ) → IsToken text (length text) c → ((more : List Token) × (paren_open ∷ token_of c text ∷ more ≡ paren_open ∷ paren_close ∷ [])) ⊎ IsViable (suc n) (paren_open ∷ token_of c text ∷ []) → Contains (classes ++ ParenClose ∷ []) c
    back text is (inl (more, e)) = subst (Contains (classes ++ ParenClose ∷ [])) (sym (close_class c text (let same : paren_close ≡ token_of c text = cc in same))) (Contains-push classes ParenClose)
    back text is (inr viable) = Contains-append_left classes (ParenClose ∷ []) c (h.1 (text, is, viable))

-- no list that ends with a token is empty
not_empty : (tokens more : List Token) (t : Token) → (tokens ++ t ∷ []) ++ more ≡ [] → ⊥
not_empty [] more t e = cc
not_empty (u ∷ tokens) more t e = cc

-- after it and others what follows them in a tuple
follows_more : (n : ℕ) (classes : List lex.Token) (u : Token) (tokens : List Token) (c : lex.Token) → Contains classes c ↔ MayFollow (suc n) (paren_open ∷ u ∷ tokens) c → Contains classes c ↔ MayFollowInCall n (paren_open ∷ u ∷ tokens) c
follows_more n classes u tokens c h = (
  λ k. let (text, is, viable) = h.0 k in (text, is, tuple_viable n (u ∷ (tokens ++ token_of c text ∷ [])) viable),
  λ follows. let (text, is, viable) = follows in h.1 (text, is, back text (viable_tuple n (paren_open ∷ u ∷ (tokens ++ token_of c text ∷ [])) viable)),
)
  where
    back : (text : List ℕ) → ((more : List Token) × (paren_open ∷ u ∷ ((tokens ++ token_of c text ∷ []) ++ more) ≡ paren_open ∷ paren_close ∷ [])) ⊎ IsViable (suc n) (paren_open ∷ u ∷ (tokens ++ token_of c text ∷ [])) → IsViable (suc n) (paren_open ∷ u ∷ (tokens ++ token_of c text ∷ []))
    back text (inl (more, e)) = absurd (not_empty tokens more (token_of c text) (let none : (tokens ++ token_of c text ∷ []) ++ more ≡ [] = cc in none))
    back text (inr viable) = viable

-- ---- by how the tokens begin

-- further tokens change nothing
same_classes : (c : lex.Token) (cs classes : List lex.Token) → classes_in_call (prefix_behind (c ∷ cs)) classes ≡ classes
same_classes ParenClose [] classes = refl
same_classes c cs classes = refl

follows_in_call : (n : ℕ) (source : List ℕ) (tokens : List Placed) (classes : List lex.Token) → ((c : lex.Token) → Contains classes c ↔ MayFollow (suc n) (map (token_at source) tokens) c) → (c : lex.Token) →
    Contains (classes_in_call (prefix_of (classes_of tokens)) classes) c ↔ MayFollowInCall n (map (token_at source) tokens) c
follows_in_call n source [] classes h c = follows_nothing n c
follows_in_call n source ((ParenOpen, at) ∷ []) classes h c = follows_open n classes c (h c)
follows_in_call n source ((ParenOpen, at) ∷ p ∷ ps) classes h c =
    subst (λ z. Contains z c ↔ MayFollowInCall n (map (token_at source) ((ParenOpen, at) ∷ p ∷ ps)) c) (sym (same_classes p.0 (classes_of ps) classes)) (follows_more n classes (token_at source p) (map (token_at source) ps) c (h c))
follows_in_call n source ((k, at) ∷ ps) classes h c = follows_other n k (slice_range source at.start at.end) (map (token_at source) ps) c (λ e. cc)

-- a tuple of any tokens but `()`
ends_more : (n : ℕ) (b : Bool) (tokens : List Token) → (paren_open ∷ tokens ≡ paren_open ∷ paren_close ∷ [] → ⊥) → IsTrue b ↔ AreAValue (suc n) (paren_open ∷ tokens) → IsTrue b ↔ AreParams n (paren_open ∷ tokens)
ends_more n b tokens other h = ((λ yes. tuple_params n tokens (h.0 yes)), (λ params. h.1 (params_tuple n (paren_open ∷ tokens) other params)))

ends_in_call : (n : ℕ) (source : List ℕ) (tokens : List Placed) (b : Bool) → IsTrue b ↔ AreAValue (suc n) (map (token_at source) tokens) → IsTrue (end_in_call (prefix_of (classes_of tokens)) b) ↔ AreParams n (map (token_at source) tokens)
ends_in_call n source [] b h = ((λ yes. let w : false ≡ true = yes in cc), (λ params. absurd (never_none n params)))
ends_in_call n source ((ParenOpen, at) ∷ []) b h = ((λ yes. let w : false ≡ true = yes in cc), (λ params. absurd (never_alone n params)))
ends_in_call n source ((ParenOpen, at) ∷ (ParenClose, there) ∷ []) b h = ((λ yes. (no_tree, inl (refl, refl))), (λ params. refl))
ends_in_call n source ((ParenOpen, at) ∷ (k, there) ∷ ps) b h = ends_more n b _ (λ e. cc) h
ends_in_call n source ((k, at) ∷ ps) b h = ((λ yes. let w : false ≡ true = yes in cc), (λ params. let is = first_is_open n k (slice_range source at.start at.end) (map (token_at source) ps) params in cc))

-- what may stand in a call, by what may stand in a tuple
pub in_call : (n : ℕ) (first : Lexed) (at : ℕ) (f : CallPrefix) (old new : Expected) → ((tokens : List Placed) → StandBefore first at tokens → f ≡ prefix_of (classes_of tokens)) → IsExpectedFrom first at (MayFollow (n + 1)) (AreAValue (n + 1)) old →
    new.classes.items ≡ classes_in_call f old.classes.items → new.may_end ≡ end_in_call f old.may_end → new.open_brackets.items ≡ old.open_brackets.items → IsExpectedFrom first at (MayFollowInCall n) (AreParams n) new
in_call n first at f old new prefix h classes ends brackets =
    let begin = prefix h.before h.stand in
    let tokens = map (token_at first.source) h.before in
    let more : n + 1 ≡ suc n = omega arith in
    let follows = subst (λ m. (c : lex.Token) → Contains old.classes.items c ↔ MayFollow m tokens c) more h.classes in
    let whole = subst (λ m. IsTrue old.may_end ↔ AreAValue m tokens) more h.end in
    record {
      before = h.before;
      stand = h.stand;
      classes = λ c. subst (λ z. Contains z c ↔ MayFollowInCall n tokens c) (sym (classes ∙ ap (λ z. classes_in_call z old.classes.items) begin)) (follows_in_call n first.source h.before old.classes.items follows c);
      end = subst (λ z. IsTrue z ↔ AreParams n tokens) (sym (ends ∙ ap (λ z. end_in_call z old.may_end) begin)) (ends_in_call n first.source h.before old.may_end whole);
      open_there = brackets ∙ h.open_there;
    }

-- ---- the first tokens

-- none stand where none ends by the place
pub stand_none : (l : Lexed) (at : ℕ) (tokens : List Placed) → NoneBy l at → StandBefore l at tokens → classes_of tokens ≡ []
stand_none l at [] none h = refl
stand_none l at (p ∷ ps) none h =
    let (k, next, is, more) = h.taken in
    let past : at < k.end = none p.0 k next in
    let by : k.end ≤ h.last.end = placed_end k h.last ps more in
    let before : h.last.end ≤ at = h.before in
    absurd (omega arith)

-- the next token, and those that stand after it
pub stand_next : (l m : Lexed) (at : ℕ) (c : lex.Token) (tokens : List Placed) → NextIs l m (Some (Ok c)) → m.end ≤ at → StandBefore l at tokens → (ps : List Placed) × (classes_of tokens ≡ c ∷ classes_of ps) × StandBefore m at ps
stand_next l m at c [] next by h =
    let past : at < m.end = h.all c m (subst (λ z. NextIs z m (Some (Ok c))) h.taken next) in
    absurd (omega arith)
stand_next l m at c (p ∷ ps) next by h =
    let (k, next', is, more) = h.taken in
    let (lexers, items) = next_one l k m (Some (Ok p.0)) (Some (Ok c)) next' next in
    (ps, ap (λ z. z ∷ classes_of ps) (class_of_item p.0 c items), record { last = h.last; taken = subst (λ z. TakesPlaced z ps h.last) lexers more; before = h.before; all = h.all })
  where
    class_of_item : (c d : lex.Token) → ◌≡◌ {A = Option (Result lex.Token (Range ℕ))} (Some (Ok c)) (Some (Ok d)) → c ≡ d
    class_of_item c d e = cc

-- how tokens begin of which the first is no `(`
pub begins_other : (c : lex.Token) (cs : List lex.Token) → c ≢ ParenOpen → prefix_of (c ∷ cs) ≡ Other
begins_other ParenOpen cs apart = absurd (apart refl)
begins_other c cs apart = refl

-- how they go on where the next is no `)`
pub goes_on_other : (c : lex.Token) (cs : List lex.Token) → c ≢ ParenClose → prefix_behind (c ∷ cs) ≡ Params
goes_on_other ParenClose cs apart = absurd (apart refl)
goes_on_other c cs apart = refl

-- or where there is one more
pub goes_on_two : (c d : lex.Token) (cs : List lex.Token) → prefix_behind (c ∷ d ∷ cs) ≡ Params
goes_on_two ParenClose d cs = refl
goes_on_two c d cs = refl

-- ---- the name

-- where the name is refused there is none
pub refused_name : (s : List ℕ) (at : ℕ) (e : Diagnostic) → NameFault s e → IsWithoutName s at
refused_name s at e (inl h) k named =
    let some : 0 < k = prefix_positive function_name s k refl named.0 in
    let fits = named.0.fits in
    absurd (omega (arith, ap length h.0))
refused_name s at e (inr (j, none, prefix, says)) k named = absurd (none k named.0)

-- where it ends behind the place no other does
pub name_behind : (s : List ℕ) (at k : ℕ) → IsName s k → at < k → IsWithoutName s at
name_behind s at k named past j other = let same = one_name s j k other named in omega arith
