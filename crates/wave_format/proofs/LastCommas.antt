-- A comma before a close leads nowhere else, and counts for nothing.
use Rattle.std.proofs.Common.{◌≡◌, ℕ, Bool, true, false, nat_lt, List, [], ◌∷◌, ◌++◌, refl, sym, ap, ◌∙◌, append_assoc, length}
use Rattle.std.specs.Prelude.{if◌then◌else◌}
use Rattle.wave_grammar.specs.Token.{Token, lexeme_of, brace_close, paren_open, paren_close, bracket_close, colon, comma}
use Rattle.wave_grammar.specs.LeafTokens.{name_of}
use Rattle.wave_grammar.specs.EquivalenceLaws.{put_token, without_last_commas}
use Rattle.wave_grammar.specs.PrefixAutomaton as automaton
use Rattle.wave_grammar.specs.PrefixAutomaton.{Expectation, StackSymbol, Step, reads, unexpected, too_deep, value, first_item, next_item, behind_value, behind_label, paren}
use Rattle.wave_grammar.specs.PrefixAutomaton.{in_braces, no_fields, behind_word, key, behind_key, flag, behind_flag, tuple, list, payload, entries}
use Rattle.wave_grammar.specs.PrefixAutomaton.{behind_step, step}
use Rattle.wave_format.specs.Words.{Word, a_token, kept}
use Rattle.wave_format.specs.Private.Brackets.{payloads, is_behind, is_close, HasItems}
use Rattle.wave_format.specs.Private.Laying.{SameBefore}

-- ---- where a comma leads

-- what a token does after a step
abbrev after : ℕ → Step → Token → Step
after n (reads e r) t = step n e r t
after n s t = s

-- no close is read where a value is expected
unread : (b : Bool) (s : Step) (e : Expectation) (r : List StackSymbol) {A : Type 0} → s ≡ unexpected → (if b then s else too_deep) ≡ reads e r → A
unread true s e r f h = let wrong : unexpected ≡ reads e r = sym f ∙ h in cc
unread false s e r f h = cc

-- nor a comma
comma_unread : (n : ℕ) (b : Bool) (t : Token) (e : Expectation) (r : List StackSymbol) {A : Type 0} → after n (if b then unexpected else too_deep) t ≡ reads e r → A
comma_unread n true t e r h = cc
comma_unread n false t e r h = cc

drop_behind : (n : ℕ) (forms : List StackSymbol) (t : Token) (e : Expectation) (r : List StackSymbol) → is_close (lexeme_of t).0 ≡ true → after n (behind_step forms comma) t ≡ reads e r → behind_step forms t ≡ reads e r
drop_behind n [] t e r c h = cc
drop_behind n (payload ∷ outer) t e r c h = cc
drop_behind n (tuple ∷ outer) paren_close e r c h = h
drop_behind n (tuple ∷ outer) brace_close e r c h = unread (nat_lt (length (tuple ∷ outer)) n) unexpected e r refl h
drop_behind n (tuple ∷ outer) bracket_close e r c h = unread (nat_lt (length (tuple ∷ outer)) n) unexpected e r refl h
drop_behind n (tuple ∷ outer) _ e r c h = cc
drop_behind n (list ∷ outer) bracket_close e r c h = h
drop_behind n (list ∷ outer) brace_close e r c h = unread (nat_lt (length (list ∷ outer)) n) unexpected e r refl h
drop_behind n (list ∷ outer) paren_close e r c h = unread (nat_lt (length (list ∷ outer)) n) unexpected e r refl h
drop_behind n (list ∷ outer) _ e r c h = cc
drop_behind n (entries ∷ outer) brace_close e r c h = h
drop_behind n (entries ∷ outer) paren_close e r c h = cc
drop_behind n (entries ∷ outer) bracket_close e r c h = cc
drop_behind n (entries ∷ outer) _ e r c h = cc

drop_flag : (n : ℕ) (names : List (List ℕ)) (forms : List StackSymbol) (t : Token) (e : Expectation) (r : List StackSymbol) → is_close (lexeme_of t).0 ≡ true → automaton.flag_step names forms t ≡ reads e r → automaton.behind_flag_step names forms t ≡ reads e r
drop_flag n names forms brace_close e r c h = h
drop_flag n names forms paren_close e r c h = cc
drop_flag n names forms bracket_close e r c h = cc
drop_flag n names forms _ e r c h = cc

word_closes : (text : List ℕ) (forms : List StackSymbol) (t : Token) (e : Expectation) (r : List StackSymbol) → is_close (lexeme_of t).0 ≡ true → automaton.behind_flag_step (name_of text ∷ []) forms t ≡ reads e r → automaton.word_behind_step text forms t ≡ reads e r
word_closes text forms brace_close e r c h = h
word_closes text forms paren_close e r c h = cc
word_closes text forms bracket_close e r c h = cc
word_closes text forms _ e r c h = cc

label_closes : (n : ℕ) (forms : List StackSymbol) (t : Token) (e : Expectation) (r : List StackSymbol) → is_close (lexeme_of t).0 ≡ true → behind_step forms t ≡ reads e r → step n behind_label forms t ≡ reads e r
label_closes n forms brace_close e r c h = h
label_closes n forms paren_close e r c h = h
label_closes n forms bracket_close e r c h = h
label_closes n forms _ e r c h = cc

closes_behind : (n : ℕ) (forms : List StackSymbol) (t : Token) (e : Expectation) (r : List StackSymbol) → is_close (lexeme_of t).0 ≡ true → step n behind_label forms t ≡ reads e r → behind_step forms t ≡ reads e r
closes_behind n forms brace_close e r c h = h
closes_behind n forms paren_close e r c h = h
closes_behind n forms bracket_close e r c h = h
closes_behind n forms _ e r c h = cc

drop_item : (n : ℕ) (b c : Bool) (t : Token) (q : Step) (e : Expectation) (r : List StackSymbol) {A : Type 0} → b ≡ false → after n (if b then q else (if c then unexpected else too_deep)) t ≡ reads e r → A
drop_item n true c t q e r f h = let wrong : true ≡ false = f in cc
drop_item n false c t q e r f h = comma_unread n c t e r h

-- a comma closes nothing
pub closes_comma : (forms : List StackSymbol) → automaton.closes forms comma ≡ false
closes_comma [] = refl
closes_comma (tuple ∷ outer) = refl
closes_comma (list ∷ outer) = refl
closes_comma (payload ∷ outer) = refl
closes_comma (entries ∷ outer) = refl

dropped : (n : ℕ) (d : Expectation) (forms : List StackSymbol) (t : Token) (e : Expectation) (r : List StackSymbol) → is_close (lexeme_of t).0 ≡ true → after n (step n d forms comma) t ≡ reads e r → step n d forms t ≡ reads e r
dropped n value forms t e r c h = comma_unread n (nat_lt (length forms) n) t e r h
dropped n first_item forms t e r c h = drop_item n (automaton.closes forms comma) (nat_lt (length forms) n) t (automaton.closed_empty forms) e r (closes_comma forms) h
dropped n next_item forms t e r c h = drop_item n (automaton.closes forms comma) (nat_lt (length forms) n) t (automaton.closed forms) e r (closes_comma forms) h
dropped n behind_value forms t e r c h = drop_behind n forms t e r c h
dropped n behind_label forms t e r c h = label_closes n forms t e r c (drop_behind n forms t e r c h)
dropped n paren forms t e r c h = cc
dropped n in_braces forms t e r c h = cc
dropped n no_fields forms t e r c h = cc
dropped n (behind_word text) forms t e r c h = word_closes text forms t e r c (drop_flag n (name_of text ∷ []) forms t e r c h)
dropped n key forms t e r c h = cc
dropped n behind_key forms t e r c h = cc
dropped n (flag names) forms t e r c h = cc
dropped n (behind_flag names) forms t e r c h = drop_flag n names forms t e r c h

-- a close after a comma leads where it leads without
pub drop_comma : (n : ℕ) (d d' : Expectation) (forms forms' : List StackSymbol) (t : Token) (e : Expectation) (r : List StackSymbol) → step n d forms comma ≡ reads d' forms' → is_close (lexeme_of t).0 ≡ true → step n d' forms' t ≡ reads e r → step n d forms t ≡ reads e r
drop_comma n d d' forms forms' t e r h c f = dropped n d forms t e r c (ap (λ (z : Step). after n z t) h ∙ f)

-- the comma leads somewhere, and the close from there
abbrev Added : ℕ → Expectation → List StackSymbol → Token → Expectation → List StackSymbol → Type 0
Added n d forms t e r = (d' : Expectation) × (forms' : List StackSymbol) × (step n d forms comma ≡ reads d' forms') × (step n d' forms' t ≡ reads e r)

add_behind : (n : ℕ) (forms : List StackSymbol) (t : Token) (e : Expectation) (r : List StackSymbol) → HasItems (payloads behind_value forms) → is_close (lexeme_of t).0 ≡ true → behind_step forms t ≡ reads e r → Added n behind_value forms t e r
add_behind n [] t e r items c h = absurd items
add_behind n (payload ∷ outer) t e r items c h = cc
add_behind n (tuple ∷ outer) paren_close e r items c h = (next_item, tuple ∷ outer, refl, h)
add_behind n (tuple ∷ outer) brace_close e r items c h = cc
add_behind n (tuple ∷ outer) bracket_close e r items c h = cc
add_behind n (tuple ∷ outer) _ e r items c h = cc
add_behind n (list ∷ outer) bracket_close e r items c h = (next_item, list ∷ outer, refl, h)
add_behind n (list ∷ outer) brace_close e r items c h = cc
add_behind n (list ∷ outer) paren_close e r items c h = cc
add_behind n (list ∷ outer) _ e r items c h = cc
add_behind n (entries ∷ outer) brace_close e r items c h = (key, outer, refl, h)
add_behind n (entries ∷ outer) paren_close e r items c h = cc
add_behind n (entries ∷ outer) bracket_close e r items c h = cc
add_behind n (entries ∷ outer) _ e r items c h = cc

add_flag : (n : ℕ) (names : List (List ℕ)) (forms : List StackSymbol) (t : Token) (e : Expectation) (r : List StackSymbol) → is_close (lexeme_of t).0 ≡ true → automaton.behind_flag_step names forms t ≡ reads e r → step n (flag names) forms t ≡ reads e r
add_flag n names forms brace_close e r c h = h
add_flag n names forms paren_close e r c h = cc
add_flag n names forms bracket_close e r c h = cc
add_flag n names forms _ e r c h = cc

word_behind : (text : List ℕ) (forms : List StackSymbol) (t : Token) (e : Expectation) (r : List StackSymbol) → is_close (lexeme_of t).0 ≡ true → automaton.word_behind_step text forms t ≡ reads e r → automaton.behind_flag_step (name_of text ∷ []) forms t ≡ reads e r
word_behind text forms brace_close e r c h = h
word_behind text forms paren_close e r c h = cc
word_behind text forms bracket_close e r c h = cc
word_behind text forms _ e r c h = cc

no_paren_close : (n : ℕ) (forms : List StackSymbol) (t : Token) (e : Expectation) (r : List StackSymbol) {A : Type 0} → is_close (lexeme_of t).0 ≡ true → step n paren forms t ≡ reads e r → A
no_paren_close n forms brace_close e r c h = cc
no_paren_close n forms paren_close e r c h = cc
no_paren_close n forms bracket_close e r c h = cc
no_paren_close n forms _ e r c h = cc

no_key_close : (n : ℕ) (forms : List StackSymbol) (t : Token) (e : Expectation) (r : List StackSymbol) {A : Type 0} → is_close (lexeme_of t).0 ≡ true → step n behind_key forms t ≡ reads e r → A
no_key_close n forms brace_close e r c h = cc
no_key_close n forms paren_close e r c h = cc
no_key_close n forms bracket_close e r c h = cc
no_key_close n forms _ e r c h = cc

-- behind an item a comma may be added before a close
pub add_comma : (n : ℕ) (d : Expectation) (forms : List StackSymbol) (t : Token) (e : Expectation) (r : List StackSymbol) → is_behind d ≡ true → HasItems (payloads d forms) → is_close (lexeme_of t).0 ≡ true → step n d forms t ≡ reads e r → Added n d forms t e r
add_comma n behind_value forms t e r b items c h = add_behind n forms t e r items c h
add_comma n behind_label forms t e r b items c h = add_behind n forms t e r items c (closes_behind n forms t e r c h)
add_comma n paren forms t e r b items c h = no_paren_close n forms t e r c h
add_comma n (behind_word text) forms t e r b items c h = (flag (name_of text ∷ []), forms, refl, add_flag n (name_of text ∷ []) forms t e r c (word_behind text forms t e r c h))
add_comma n behind_key forms t e r b items c h = no_key_close n forms t e r c h
add_comma n (behind_flag names) forms t e r b items c h = (flag names, forms, refl, add_flag n names forms t e r c h)
add_comma n _ forms t e r b items c h = cc

-- ---- what counts

pub same_nothing : SameBefore [] []
same_nothing z = refl

pub same_token : (ts us : List Token) (t : Token) → SameBefore ts us → SameBefore (ts ++ t ∷ []) (us ++ t ∷ [])
same_token ts us t h z = ap without_last_commas (append_assoc ts (t ∷ []) z) ∙ (h (t ∷ z) ∙ ap without_last_commas (sym (append_assoc us (t ∷ []) z)))

comma_first : (t : Token) (z : List Token) → is_close (lexeme_of t).0 ≡ true → without_last_commas (comma ∷ t ∷ z) ≡ without_last_commas (t ∷ z)
comma_first brace_close z c = refl
comma_first paren_close z c = refl
comma_first bracket_close z c = refl
comma_first _ z c = cc

comma_close : (ts : List Token) (t : Token) (z : List Token) → is_close (lexeme_of t).0 ≡ true → without_last_commas (ts ++ comma ∷ t ∷ z) ≡ without_last_commas (ts ++ t ∷ z)
comma_close [] t z c = comma_first t z c
comma_close (a ∷ ts) t z c = ap (put_token a) (comma_close ts t z c)

-- without the comma
with_comma : (ts : List Token) (t : Token) (z : List Token) → is_close (lexeme_of t).0 ≡ true → without_last_commas (((ts ++ comma ∷ []) ++ t ∷ []) ++ z) ≡ without_last_commas (ts ++ t ∷ z)
with_comma ts t z c = ap without_last_commas (append_assoc (ts ++ comma ∷ []) (t ∷ []) z ∙ append_assoc ts (comma ∷ []) (t ∷ z)) ∙ comma_close ts t z c

pub same_dropped : (ts us : List Token) (t : Token) → is_close (lexeme_of t).0 ≡ true → SameBefore ts us → SameBefore ((ts ++ comma ∷ []) ++ t ∷ []) (us ++ t ∷ [])
same_dropped ts us t c h z = with_comma ts t z c ∙ (h (t ∷ z) ∙ ap without_last_commas (sym (append_assoc us (t ∷ []) z)))

pub same_added : (ts us : List Token) (t : Token) → is_close (lexeme_of t).0 ≡ true → SameBefore ts us → SameBefore (ts ++ t ∷ []) ((us ++ comma ∷ []) ++ t ∷ [])
same_added ts us t c h z = ap without_last_commas (append_assoc ts (t ∷ []) z) ∙ (h (t ∷ z) ∙ sym (with_comma us t z c))

pub kept_append : (a b : List Word) → kept (a ++ b) ≡ kept a ++ kept b
kept_append [] b = refl
kept_append (a_token comma ∷ a) b = kept_append a b
kept_append (a_token colon ∷ a) b = kept_append a b
kept_append (a_token paren_open ∷ a) b = kept_append a b
kept_append (word ∷ a) b = ap (λ (z : List Word). word ∷ z) (kept_append a b)
