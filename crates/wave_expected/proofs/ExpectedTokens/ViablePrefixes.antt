-- The prefixes of the tokens of a value, and which token goes on with one.
use Rattle.std.proofs.Common.{ℕ, ◌≡◌, ◌<◌, ◌+◌, ◌-◌, List, [], ◌∷◌, ◌++◌, length, Bool, true, false, refl, sym, subst, ◌∙◌, arith}
use Rattle.std.proofs.lemmas.List.{append-nil, append_assoc}
use Rattle.std.specs.Prelude.{nat_lt, if◌then◌else◌, codes}
use Rattle.wave_grammar.specs.Token.{Token, brace_close, paren_open, paren_close, bracket_close, colon, number}
use Rattle.wave_grammar.specs.LeafTokens.{name_of}
use Rattle.wave_grammar.specs.Tree.{Takes}
use Rattle.wave_grammar.specs.PrefixLaws.{EndsBefore}
use Rattle.wave_grammar.specs.PrefixAutomaton as expectation
use Rattle.wave_grammar.specs.PrefixAutomaton.{Expectation, StackSymbol, Step, value, first_item, behind_value, behind_label, empty_tuple, unexpected, reads, step, Shifts, closes, is_paren, is_colon, level_step}
use Rattle.wave_grammar.proofs.Automaton.Sound.{leads_join, close_of, close_reads, level_open, trees_are_accepted}
use Rattle.wave_grammar.proofs.Automaton.Complete.{led_is_tree}
use Rattle.wave_grammar.proofs.Automaton.Prefixes.{leads_split, leads_one, level_there}
use Rattle.wave_expected.specs.declared.expected.moves.State.TheVariants as known
use Rattle.wave_expected.specs.declared.expected.moves.Form.TheVariants as form
use Rattle.wave_expected.specs.declared.expected.moves.Move.{Move}
use Rattle.wave_expected.specs.declared.expected.moves.Move.TheVariants.{To, Open, Close}
use Rattle.wave_expected.specs.Private.Moves.{goes_on}
use Rattle.wave_expected.specs.Expected.{IsViable, AreAValue}
use Rattle.wave_expected.proofs.ExpectedTokens.Moves.{IsInItems, LeadsBy}

-- ---- how a value goes on

-- from where d is expected within s, tokens lead to the end of the value
abbrev pub GoesOn : ℕ → Expectation → List StackSymbol → Type 0
GoesOn n d s = (more : List Token) × (e : Expectation) × EndsBefore e [] × Shifts n d s more e []

-- a token and then such tokens
with_token : (n : ℕ) (d e : Expectation) (s r : List StackSymbol) (t : Token) → step n d s t ≡ reads e r → GoesOn n e r → GoesOn n d s
with_token n d e s r t h (more, f, ends, leads) = (t ∷ more, f, ends, (e, r, h, leads))

-- the closes of all forms
closing : (n : ℕ) (s : List StackSymbol) → GoesOn n behind_value s
closing n [] = ([], behind_value, tt, (refl, refl))
closing n (f ∷ s) = with_token n behind_value behind_value (f ∷ s) s (close_of f) (close_reads f s) (closing n s)

-- the same after a label
label_closing : (n : ℕ) (s : List StackSymbol) → GoesOn n behind_label s
label_closing n [] = ([], behind_label, (λ more f. cc), (refl, refl))
label_closing n (expectation.tuple ∷ s) = with_token n behind_label behind_value (expectation.tuple ∷ s) s paren_close refl (closing n s)
label_closing n (expectation.list ∷ s) = with_token n behind_label behind_value (expectation.list ∷ s) s bracket_close refl (closing n s)
label_closing n (expectation.payload ∷ s) = with_token n behind_label behind_value (expectation.payload ∷ s) s paren_close refl (closing n s)
label_closing n (expectation.entries ∷ s) = with_token n behind_label behind_value (expectation.entries ∷ s) s brace_close refl (closing n s)

-- `0`
abbrev zero_token : Token
zero_token = number (codes "0")

-- a number, where a level is left for it
value_goes_on : (n : ℕ) (s : List StackSymbol) → length s < n → GoesOn n value s
value_goes_on n s room = with_token n value behind_value s s zero_token (level_open n s zero_token room) (closing n s)

-- the same as the first item of a tuple
tuple_goes_on : (n : ℕ) (s : List StackSymbol) → length s + 1 < n → GoesOn n first_item (expectation.tuple ∷ s)
tuple_goes_on n s room = with_token n first_item behind_value (expectation.tuple ∷ s) (expectation.tuple ∷ s) zero_token (level_open n (expectation.tuple ∷ s) zero_token (omega arith)) (closing n (expectation.tuple ∷ s))

-- after a comma the close
next_goes_on : (n : ℕ) (s : List StackSymbol) → IsInItems s → GoesOn n expectation.next_item s
next_goes_on n (expectation.tuple ∷ s) h = with_token n expectation.next_item behind_value (expectation.tuple ∷ s) s paren_close refl (closing n s)
next_goes_on n (expectation.list ∷ s) h = with_token n expectation.next_item behind_value (expectation.list ∷ s) s bracket_close refl (closing n s)
next_goes_on n s h = absurd h

-- the parenthesis of a payload, and its value
paren_goes_on : (n : ℕ) (s : List StackSymbol) → length s + 1 < n → GoesOn n expectation.paren s
paren_goes_on n s room = with_token n expectation.paren value s (expectation.payload ∷ s) paren_open refl (value_goes_on n (expectation.payload ∷ s) (omega arith))

-- the colon of a key, and its value
key_goes_on : (n : ℕ) (s : List StackSymbol) → length s + 1 < n → GoesOn n expectation.behind_key s
key_goes_on n s room = with_token n expectation.behind_key value s (expectation.entries ∷ s) colon refl (value_goes_on n (expectation.entries ∷ s) (omega arith))

-- ---- where none does

-- where no value may end
not_ended : (d e : Expectation) → (EndsBefore d [] → ⊥) → EndsBefore e [] → d ≡ e → ⊥
not_ended d e never ends same = never (subst (λ z. EndsBefore z []) (sym same) ends)

-- a value needs a level
value_needs : (n : ℕ) (s : List StackSymbol) → GoesOn n value s → length s < n
value_needs n s ([], e, ends, (same, forms)) = absurd (not_ended value e (λ x. x) ends same)
value_needs n s (t ∷ more, e, ends, (d', s', h, leads)) = (level_there n s t d' s' h).0

-- what isn't the close of an empty tuple
no_close : (b : Bool) (x : Step) (d : Expectation) (r : List StackSymbol) → if b then empty_tuple else x ≡ reads d r → x ≡ reads d r
no_close true x d r h = cc
no_close false x d r h = h

-- a tuple needs a level for its first item
tuple_needs : (n : ℕ) (s : List StackSymbol) → GoesOn n first_item (expectation.tuple ∷ s) → length s + 1 < n
tuple_needs n s ([], e, ends, (same, forms)) = absurd (not_ended first_item e (λ x. x) ends same)
tuple_needs n s (t ∷ more, e, ends, (d', s', h, leads)) =
    let room = (level_there n (expectation.tuple ∷ s) t d' s' (no_close (closes (expectation.tuple ∷ s) t) (level_step n (expectation.tuple ∷ s) t) d' s' h)).0 in
    omega arith

-- what a test lets through
through : (b : Bool) (x : Step) (d : Expectation) (r : List StackSymbol) → if b then x else unexpected ≡ reads d r → x ≡ reads d r
through true x d r h = h
through false x d r h = cc

-- what goes on from there goes on from here
led_there : (n : ℕ) (d e : Expectation) (s r : List StackSymbol) → reads d s ≡ reads e r → GoesOn n e r → GoesOn n d s
led_there n d e s r h goes =
    let forms : r ≡ s = cc in
    let states : e ≡ d = cc in
    subst (λ z. GoesOn n z s) states (subst (GoesOn n e) forms goes)

-- a payload needs a level
paren_needs : (n : ℕ) (s : List StackSymbol) → GoesOn n expectation.paren s → length s + 1 < n
paren_needs n s ([], e, ends, (same, forms)) = absurd (not_ended expectation.paren e (λ x. x) ends same)
paren_needs n s (t ∷ more, e, ends, (d', s', h, leads)) =
    let room = value_needs n (expectation.payload ∷ s) (led_there n value d' (expectation.payload ∷ s) s' (through (is_paren t) (reads value (expectation.payload ∷ s)) d' s' h) (more, e, ends, leads)) in
    omega arith

-- the value of an entry needs a level
key_needs : (n : ℕ) (s : List StackSymbol) → GoesOn n expectation.behind_key s → length s + 1 < n
key_needs n s ([], e, ends, (same, forms)) = absurd (not_ended expectation.behind_key e (λ x. x) ends same)
key_needs n s (t ∷ more, e, ends, (d', s', h, leads)) =
    let room = value_needs n (expectation.entries ∷ s) (led_there n value d' (expectation.entries ∷ s) s' (through (is_colon t) (reads value (expectation.entries ∷ s)) d' s' h) (more, e, ends, leads)) in
    omega arith

-- ---- after a move

-- two levels are left
two_left : (n k : ℕ) → k + 1 < n → nat_lt 1 (n - k) ≡ true
two_left n k h = grind arith

left_two : (n k : ℕ) → nat_lt 1 (n - k) ≡ true → k + 1 < n
left_two n k h = grind arith

-- where a value goes on by these
there : (n : ℕ) (d e : Expectation) (s r : List StackSymbol) → e ≡ d → r ≡ s → GoesOn n d s → GoesOn n e r
there n d e s r f g goes = subst (λ z. GoesOn n z r) (sym f) (subst (GoesOn n d) (sym g) goes)

-- a value goes on after the move where the code says so
pub goes_on_there : (n : ℕ) (m : Move) (text : List ℕ) (d : Expectation) (s : List StackSymbol) (e : Expectation) (r : List StackSymbol) → LeadsBy m text d s e r → goes_on m (n - length s) ≡ true → GoesOn n e r
goes_on_there n (Open form.Tuple known.FirstItem) text d s e r (h, k) b = there n first_item e (expectation.tuple ∷ s) r h k (tuple_goes_on n s (left_two n (length s) b))
goes_on_there n (Open form.List known.FirstItem) text d s e r (h, k) b = there n first_item e (expectation.list ∷ s) r h k (with_token n first_item behind_value (expectation.list ∷ s) s bracket_close refl (closing n s))
goes_on_there n (Open form.Payload known.Value) text d s e r (h, k) b = there n value e (expectation.payload ∷ s) r h k (value_goes_on n (expectation.payload ∷ s) (let room = left_two n (length s) b in omega arith))
goes_on_there n (Open form.Entries known.Value) text d s e r (h, k) b = there n value e (expectation.entries ∷ s) r h k (value_goes_on n (expectation.entries ∷ s) (let room = left_two n (length s) b in omega arith))
goes_on_there n (Close known.BehindValue) text d s e r (h, k) b = there n behind_value e r r h refl (closing n r)
goes_on_there n (Close known.Key) text d s e r (h, k) b = there n expectation.key e r r h refl (with_token n expectation.key behind_value r r brace_close refl (closing n r))
goes_on_there n (To known.NextItem) text d s e r (h, k, i) b = there n expectation.next_item e s r h k (next_goes_on n s i)
goes_on_there n (To known.BehindValue) text d s e r (h, k) b = there n behind_value e s r h k (closing n s)
goes_on_there n (To known.BehindLabel) text d s e r (h, k) b = there n behind_label e s r h k (label_closing n s)
goes_on_there n (To known.Paren) text d s e r (h, k) b = there n expectation.paren e s r h k (paren_goes_on n s (left_two n (length s) b))
goes_on_there n (To known.InBraces) text d s e r (h, k) b = there n expectation.in_braces e s r h k (with_token n expectation.in_braces behind_value s s brace_close refl (closing n s))
goes_on_there n (To known.NoFields) text d s e r (h, k) b = there n expectation.no_fields e s r h k (with_token n expectation.no_fields behind_value s s brace_close refl (closing n s))
goes_on_there n (To known.BehindWord) text d s e r (h, k) b = there n (expectation.behind_word text) e s r h k (with_token n (expectation.behind_word text) behind_value s s brace_close refl (closing n s))
goes_on_there n (To known.BehindKey) text d s e r (h, k) b = there n expectation.behind_key e s r h k (key_goes_on n s (left_two n (length s) b))
goes_on_there n (To known.Flag) text d s e r (names, h, k, i) b = there n (expectation.flag names) e s r h k (with_token n (expectation.flag names) behind_value s s brace_close refl (closing n s))
goes_on_there n (To known.BehindFlag) text d s e r (names, was, new, h, k) b =
    let now = expectation.behind_flag (names ++ name_of text ∷ []) in there n now e s r h k (with_token n now behind_value s s brace_close refl (closing n s))
goes_on_there n m text d s e r h b = absurd h

-- and only there
pub goes_on_only : (n : ℕ) (m : Move) (text : List ℕ) (d : Expectation) (s : List StackSymbol) (e : Expectation) (r : List StackSymbol) → LeadsBy m text d s e r → GoesOn n e r → goes_on m (n - length s) ≡ true
goes_on_only n (Open form.Tuple known.FirstItem) text d s e r (h, k) goes = two_left n (length s) (tuple_needs n s (there n e first_item r (expectation.tuple ∷ s) (sym h) (sym k) goes))
goes_on_only n (Open form.List known.FirstItem) text d s e r h goes = refl
goes_on_only n (Open form.Payload known.Value) text d s e r (h, k) goes = two_left n (length s) (let room = value_needs n (expectation.payload ∷ s) (there n e value r (expectation.payload ∷ s) (sym h) (sym k) goes) in omega arith)
goes_on_only n (Open form.Entries known.Value) text d s e r (h, k) goes = two_left n (length s) (let room = value_needs n (expectation.entries ∷ s) (there n e value r (expectation.entries ∷ s) (sym h) (sym k) goes) in omega arith)
goes_on_only n (Close x) text d s e r h goes = refl
goes_on_only n (To known.Paren) text d s e r (h, k) goes = two_left n (length s) (paren_needs n s (there n e expectation.paren r s (sym h) (sym k) goes))
goes_on_only n (To known.BehindKey) text d s e r (h, k) goes = two_left n (length s) (key_needs n s (there n e expectation.behind_key r s (sym h) (sym k) goes))
goes_on_only n (To x) text d s e r h goes = refl
goes_on_only n m text d s e r h goes = absurd h

-- ---- viable prefixes

-- a viable prefix leads to where a value goes on
pub viable_leads : (n : ℕ) (tokens : List Token) → IsViable n tokens → (d : Expectation) × (s : List StackSymbol) × Shifts n value [] tokens d s × GoesOn n d s
viable_leads n tokens (more, t, h) =
    let (prefix, e, same, ends, leads) = trees_are_accepted n (tokens ++ more) [] t h in
    let whole = subst (λ z. Shifts n value [] z e []) (sym (same ∙ append-nil prefix)) leads in
    let (d, s, one, others) = leads_split n value e [] [] tokens more whole in
    (d, s, one, (more, e, ends, others))

-- tokens that lead to where a value goes on are a viable prefix
pub leads_viable : (n : ℕ) (tokens : List Token) (d : Expectation) (s : List StackSymbol) → Shifts n value [] tokens d s → GoesOn n d s → IsViable n tokens
leads_viable n tokens d s led (more, e, ends, on) =
    let (t, h) = led_is_tree n (tokens ++ more) [] e ends (leads_join n value d e [] s [] tokens more led on) in
    (more, t, subst (λ z. Takes n z t []) (append-nil (tokens ++ more)) h)

-- what begins a viable prefix is one
pub begins_viable : (n : ℕ) (tokens : List Token) (t : Token) → IsViable n (tokens ++ t ∷ []) → IsViable n tokens
begins_viable n tokens t (more, tree, h) = (t ∷ more, tree, subst (λ z. Takes n z tree []) (append_assoc tokens (t ∷ []) more) h)

-- with a further token they are one where it is read and the value goes on
pub then_viable : (n : ℕ) (tokens : List Token) (d e : Expectation) (s r : List StackSymbol) (t : Token) → Shifts n value [] tokens d s → step n d s t ≡ reads e r → GoesOn n e r → IsViable n (tokens ++ t ∷ [])
then_viable n tokens d e s r t led h goes = leads_viable n (tokens ++ t ∷ []) e r (leads_join n value d e [] s r tokens (t ∷ []) led (e, r, h, (refl, refl))) goes

-- and only there
pub viable_then : (n : ℕ) (tokens : List Token) (d : Expectation) (s : List StackSymbol) (t : Token) → Shifts n value [] tokens d s → IsViable n (tokens ++ t ∷ []) → (e : Expectation) × (r : List StackSymbol) × (step n d s t ≡ reads e r) × GoesOn n e r
viable_then n tokens d s t led viable =
    let (e, r, all, goes) = viable_leads n (tokens ++ t ∷ []) viable in
    let (f, q, one, (d', s', h, (a, b))) = leads_split n value e [] r tokens (t ∷ []) all in
    let (states, forms) = leads_one n value f d [] q s tokens one led in
    (d', s', subst (λ z. step n z s t ≡ reads d' s') states (subst (λ z. step n f z t ≡ reads d' s') forms h), there n e d' r s' a b goes)

-- the tokens of a value are those that lead to its end
pub value_ends : (n : ℕ) (tokens : List Token) (d : Expectation) (s : List StackSymbol) → Shifts n value [] tokens d s → AreAValue n tokens → EndsBefore d [] × (s ≡ [])
value_ends n tokens d s led (t, h) =
    let (prefix, e, same, ends, leads) = trees_are_accepted n tokens [] t h in
    let (states, forms) = leads_one n value e d [] [] s tokens (subst (λ z. Shifts n value [] z e []) (sym (same ∙ append-nil prefix)) leads) led in
    (subst (λ z. EndsBefore z []) states ends, sym forms)

pub ends_value : (n : ℕ) (tokens : List Token) (d : Expectation) (s : List StackSymbol) → Shifts n value [] tokens d s → EndsBefore d [] → s ≡ [] → AreAValue n tokens
ends_value n tokens d s led ends forms =
    let (t, h) = led_is_tree n tokens [] d ends (subst (Shifts n value [] tokens d) forms led) in
    (t, subst (λ z. Takes n z t []) (append-nil tokens) h)
