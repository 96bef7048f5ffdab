-- What the automaton of the code does after each token.
use Rattle.std.proofs.Common.{ℕ, ◌≡◌, ◌-◌, ◌+◌, inl, inr, List, [], ◌∷◌, ◌++◌, length, take, get_or, Option, Some, Bool, true, false, refl, sym, ap, subst, ◌∙◌, arith, length-append}
use Rattle.std.specs.Prelude.{slice_get, if◌then◌else◌}
use Rattle.std.proofs.lemmas.List.{take_more, take_all}
use Rattle.wave_lex.specs.declared.lex.Token as lex
use Rattle.wave_grammar.specs.Token.{Token}
use Rattle.wave_grammar.specs.LeafTokens.{name_of}
use Rattle.wave_grammar.specs.ParserPosition.{token_of}
use Rattle.wave_grammar.specs.PrefixAutomaton as expectation
use Rattle.wave_grammar.specs.PrefixAutomaton.{Expectation, StackSymbol, Step, step, Shifts}
use Rattle.wave_grammar.proofs.Automaton.Sound.{leads_join}
use Rattle.wave_tree.specs.declared.role.ValueStart.{ValueStart}
use Rattle.wave_tree.specs.ValueStarts.{IsValueStart}
use Rattle.wave_expected.specs.declared.expected.moves.State.{State}
use Rattle.wave_expected.specs.declared.expected.moves.State.TheVariants as known
use Rattle.wave_expected.specs.declared.expected.moves.Form.{Form}
use Rattle.wave_expected.specs.declared.expected.moves.Form.TheVariants as form
use Rattle.wave_expected.specs.declared.expected.moves.Move.{Move}
use Rattle.wave_expected.specs.declared.expected.moves.Move.TheVariants.{To, Open, Close, Refused}
use Rattle.wave_expected.specs.Expected.{IsViable}
use Rattle.wave_expected.specs.Private.Moves.{next_move, goes_on, going_on, move_at, expected_of, symbol_of, form_of, innermost, stack_of}
use Rattle.wave_expected.specs.Private.Prefixes.{Names, HasNames, HasFlags, IsNoted, IsLedTo, IsAfter}
use Rattle.wave_expected.proofs.ExpectedTokens.Moves.{AreAround, LeadsBy, IsRepeated, IsMove, move_is_step}
use Rattle.wave_expected.proofs.ExpectedTokens.ViablePrefixes.{goes_on_only, viable_then, begins_viable}

-- ---- open forms

-- a form is opened
pub stack_opened : (fs : List Form) (f : Form) → stack_of (fs ++ f ∷ []) ≡ symbol_of f ∷ stack_of fs
stack_opened [] f = refl
stack_opened (g ∷ fs) f = ap (λ z. z ++ symbol_of g ∷ []) (stack_opened fs f)

-- there are as many
pub length_stack : (fs : List Form) → length (stack_of fs) ≡ length fs
length_stack [] = refl
length_stack (f ∷ fs) = let more = length_stack fs in omega (arith, length-append (stack_of fs) (symbol_of f ∷ []))

-- a form by either word
form_symbol : (f : Form) → form_of (symbol_of f) ≡ f
form_symbol form.Tuple = refl
form_symbol form.List = refl
form_symbol form.Payload = refl
form_symbol form.Entries = refl

-- more forms around others
innermost_prefix : (s : List StackSymbol) (x y : StackSymbol) → innermost ((s ++ x ∷ []) ++ y ∷ []) ≡ innermost (s ++ x ∷ [])
innermost_prefix [] x y = refl
innermost_prefix (z ∷ s) x y = refl

-- the innermost form is the last
last_is : (f : Form) (fs : List Form) → slice_get (f ∷ fs) (length fs) ≡ innermost (stack_of (f ∷ fs))
last_is f [] = ap Some (sym (form_symbol f))
last_is f (g ∷ fs) = last_is g fs ∙ sym (innermost_prefix (stack_of fs) (symbol_of g) (symbol_of f))

pub innermost_is_last : (fs : List Form) → slice_get fs (length fs - 1) ≡ innermost (stack_of fs)
innermost_is_last [] = refl
innermost_is_last (f ∷ fs) = let same : length (f ∷ fs) - 1 ≡ length fs = omega arith in ap (slice_get (f ∷ fs)) same ∙ last_is f fs

-- all but the last, and that one
last_apart : (f : Form) (fs : List Form) → f ∷ fs ≡ take (length (f ∷ fs) - 1) (f ∷ fs) ++ get_or (f ∷ fs) (length fs) f ∷ []
last_apart f fs =
    let same : length (f ∷ fs) - 1 ≡ length fs = omega arith in
    subst (λ (k : ℕ). f ∷ fs ≡ take k (f ∷ fs) ++ get_or (f ∷ fs) (length fs) f ∷ []) (sym same)
    (sym (take_all (length fs + 1) (f ∷ fs) (omega arith)) ∙ take_more (f ∷ fs) (length fs) f (omega arith))

-- ---- a token that is read

-- what is expected after a move
abbrev pub state_after : Move → State
state_after (To x) = x
state_after (Open f x) = x
state_after (Close x) = x
state_after Refused = known.Nothing

-- what a move does to the forms
abbrev Changes : Move → List StackSymbol → List StackSymbol → Type 0
Changes (To x) s r = r ≡ s
Changes (Open f x) s r = r ≡ symbol_of f ∷ s
Changes (Close x) s r = AreAround r s
Changes Refused s r = ⊥

-- the code has made the move of a token of this text: the open forms and the names before and after it
abbrev pub IsDone : Move → List ℕ → List Form → List Form → Names → Names → Type 0
IsDone (To x) text fs gs old new = (gs ≡ fs) × IsNoted x text old new false
IsDone (Open f x) text fs gs old new = (gs ≡ fs ++ f ∷ []) × (new ≡ old)
IsDone (Close x) text fs gs old new = (gs ≡ take (length fs - 1) fs) × (new ≡ old)
IsDone Refused text fs gs old new = ⊥

leads_changes : (m : Move) (text : List ℕ) (d : Expectation) (s : List StackSymbol) (e : Expectation) (r : List StackSymbol) → LeadsBy m text d s e r → (state_after m ≡ expected_of e) × Changes m s r
leads_changes (Open form.Tuple known.FirstItem) text d s e r (h, k) = (ap expected_of (sym h), k)
leads_changes (Open form.List known.FirstItem) text d s e r (h, k) = (ap expected_of (sym h), k)
leads_changes (Open form.Payload known.Value) text d s e r (h, k) = (ap expected_of (sym h), k)
leads_changes (Open form.Entries known.Value) text d s e r (h, k) = (ap expected_of (sym h), k)
leads_changes (Close known.BehindValue) text d s e r (h, k) = (ap expected_of (sym h), k)
leads_changes (Close known.Key) text d s e r (h, k) = (ap expected_of (sym h), k)
leads_changes (To known.NextItem) text d s e r (h, k, i) = (ap expected_of (sym h), k)
leads_changes (To known.BehindValue) text d s e r (h, k) = (ap expected_of (sym h), k)
leads_changes (To known.BehindLabel) text d s e r (h, k) = (ap expected_of (sym h), k)
leads_changes (To known.Paren) text d s e r (h, k) = (ap expected_of (sym h), k)
leads_changes (To known.InBraces) text d s e r (h, k) = (ap expected_of (sym h), k)
leads_changes (To known.NoFields) text d s e r (h, k) = (ap expected_of (sym h), k)
leads_changes (To known.BehindWord) text d s e r (h, k) = (ap expected_of (sym h), k)
leads_changes (To known.BehindKey) text d s e r (h, k) = (ap expected_of (sym h), k)
leads_changes (To known.Flag) text d s e r (names, h, k, i) = (ap expected_of (sym h), k)
leads_changes (To known.BehindFlag) text d s e r (names, was, new, h, k) = (ap expected_of (sym h), k)
leads_changes m text d s e r h = absurd h

-- the forms after a move
changed_forms : (m : Move) (text : List ℕ) (fs gs : List Form) (old new : Names) (s r : List StackSymbol) → Changes m s r → IsDone m text fs gs old new → stack_of fs ≡ s → stack_of gs ≡ r
changed_forms (To x) text fs gs old new s r h done e = ap stack_of done.0 ∙ (e ∙ sym h)
changed_forms (Open f x) text fs gs old new s r h done e = ap stack_of done.0 ∙ (stack_opened fs f ∙ (ap (λ z. symbol_of f ∷ z) e ∙ sym h))
changed_forms (Close x) text [] gs old new s r (f, h) done e = let w : [] ≡ f ∷ r = e ∙ h in cc
changed_forms (Close x) text (g ∷ fs) gs old new s r (f, h) done e =
    let last = get_or (g ∷ fs) (length fs) g in
    let apart : g ∷ fs ≡ gs ++ last ∷ [] = last_apart g fs ∙ ap (λ z. z ++ last ∷ []) (sym done.0) in
    let w : symbol_of last ∷ stack_of gs ≡ f ∷ r = sym (stack_opened gs last) ∙ (ap stack_of (sym apart) ∙ (e ∙ h)) in cc
changed_forms Refused text fs gs old new s r h done e = absurd done

-- flags that were read are noted
noted_flags : (m : Move) (text : List ℕ) (d : Expectation) (s : List StackSymbol) (e : Expectation) (r : List StackSymbol) (fs gs : List Form) (old new : Names) → LeadsBy m text d s e r → HasFlags old d → IsDone m text fs gs old new → HasFlags new e
noted_flags (Open form.Tuple known.FirstItem) text d s e r fs gs old new (h, k) has done = subst (HasFlags new) (sym h) tt
noted_flags (Open form.List known.FirstItem) text d s e r fs gs old new (h, k) has done = subst (HasFlags new) (sym h) tt
noted_flags (Open form.Payload known.Value) text d s e r fs gs old new (h, k) has done = subst (HasFlags new) (sym h) tt
noted_flags (Open form.Entries known.Value) text d s e r fs gs old new (h, k) has done = subst (HasFlags new) (sym h) tt
noted_flags (Close known.BehindValue) text d s e r fs gs old new (h, k) has done = subst (HasFlags new) (sym h) tt
noted_flags (Close known.Key) text d s e r fs gs old new (h, k) has done = subst (HasFlags new) (sym h) tt
noted_flags (To known.NextItem) text d s e r fs gs old new (h, k, i) has done = subst (HasFlags new) (sym h) tt
noted_flags (To known.BehindValue) text d s e r fs gs old new (h, k) has done = subst (HasFlags new) (sym h) tt
noted_flags (To known.BehindLabel) text d s e r fs gs old new (h, k) has done = subst (HasFlags new) (sym h) tt
noted_flags (To known.Paren) text d s e r fs gs old new (h, k) has done = subst (HasFlags new) (sym h) tt
noted_flags (To known.InBraces) text d s e r fs gs old new (h, k) has done = subst (HasFlags new) (sym h) tt
noted_flags (To known.NoFields) text d s e r fs gs old new (h, k) has done = subst (HasFlags new) (sym h) tt
noted_flags (To known.BehindWord) text d s e r fs gs old new (h, k) has done = subst (HasFlags new) (sym h) done.1.0
noted_flags (To known.BehindKey) text d s e r fs gs old new (h, k) has done = subst (HasFlags new) (sym h) tt
noted_flags (To known.Flag) text d s e r fs gs old new (names, h, k, inl i) has done = subst (HasFlags new) (sym h) (subst (λ z. HasNames z names) (sym done.1.0) (subst (HasFlags old) i has))
noted_flags (To known.Flag) text d s e r fs gs old new (names, h, k, inr (word, i, j)) has done =
    subst (HasFlags new) (sym h) (subst (HasNames new) (sym j) (subst (λ z. HasNames z (name_of word ∷ [])) (sym done.1.0) (subst (HasFlags old) i has)))
noted_flags (To known.BehindFlag) text d s e r fs gs old new (names, was, fresh, h, k) has done = subst (HasFlags new) (sym h) (done.1 names (subst (HasFlags old) was has)).0
noted_flags m text d s e r fs gs old new h has done = absurd h

-- what is noted for the first time was not read before
not_repeated : (m : Move) (text : List ℕ) (d : Expectation) (fs gs : List Form) (old new : Names) → IsRepeated m text d → HasFlags old d → IsDone m text fs gs old new → ⊥
not_repeated (To known.BehindFlag) text d fs gs old new (names, was, found) has done = let w : false ≡ true = (done.1 names (subst (HasFlags old) was has)).1 ∙ found in cc
not_repeated m text d fs gs old new h has done = absurd h

-- what was noted before was read before
repeated : (x : State) (text : List ℕ) (d : Expectation) (s : List StackSymbol) (e : Expectation) (r : List StackSymbol) (old new : Names) → LeadsBy (To x) text d s e r → HasFlags old d → IsNoted x text old new true → ⊥
repeated known.BehindWord text d s e r old new h has noted = let w : true ≡ false = noted.1 in cc
repeated known.BehindFlag text d s e r old new (names, was, fresh, h, k) has noted = let w : true ≡ false = (noted names (subst (HasFlags old) was has)).1 ∙ fresh in cc
repeated x text d s e r old new h has noted = let w : true ≡ false = noted.1 in cc

-- ---- where a value can end after the move

-- a move that is made is that of the table
going_is : (m k : Move) (left : ℕ) → (k ≡ Refused → ⊥) → going_on m left ≡ k → m ≡ k
going_is m k left apart h = by (goes_on m left) h
  where
    by : (b : Bool) → if b then m else Refused ≡ k → m ≡ k
    by true e = e
    by false e = absurd (apart (sym e))

-- where none is made no value can end after that of the table
pub refused_stops : (m : Move) (left : ℕ) → going_on m left ≡ Refused → goes_on m left ≡ false
refused_stops m left h = by m h
  where
    stops : (k : Move) (b : Bool) → (k ≡ Refused → ⊥) → if b then k else Refused ≡ Refused → b ≡ false
    stops k true apart e = absurd (apart e)
    stops k false apart e = refl

    by : (k : Move) → going_on k left ≡ Refused → goes_on k left ≡ false
    by (To x) e = stops (To x) (goes_on (To x) left) (λ w. cc) e
    by (Open f x) e = stops (Open f x) (goes_on (Open f x) left) (λ w. cc) e
    by (Close x) e = stops (Close x) (goes_on (Close x) left) (λ w. cc) e
    by Refused e = refl

-- the code's move, from its steps
pub step_is : (d : State) (fs : List Form) (n : ℕ) (c : lex.Token) (start : ValueStart) (f : Option Form) (left : ℕ) (m : Move) (b : Bool) → f ≡ innermost (stack_of fs) → left ≡ n - length (stack_of fs) → m ≡ next_move d f left c start → b ≡ goes_on m left →
    if b then m else Refused ≡ move_at d (stack_of fs) n c start
step_is d fs n c start f left m b inner levels move goes =
    ap (λ z. if z then m else Refused) goes
    ∙ (ap (λ z. going_on z left) move ∙ (ap (λ z. going_on (next_move d z left c start) left) inner ∙ ap (λ (k : ℕ). going_on (next_move d (innermost (stack_of fs)) k c start) k) levels))

-- ---- after a token

-- the move where tokens have led
move_there : (n : ℕ) (tokens : List Token) (d : State) (fs : List Form) (ns : Names) (c : lex.Token) (start : ValueStart) (m : Move) → (led : IsLedTo n tokens d fs ns) → move_at d (stack_of fs) n c start ≡ m →
    move_at (expected_of led.expected_there) led.open_there n c start ≡ m
move_there n tokens d fs ns c start m led h =
    subst (λ z. move_at (expected_of led.expected_there) z n c start ≡ m) led.forms (subst (λ z. move_at z (stack_of fs) n c start ≡ m) led.state h)

-- a token leads nowhere that the move does not read
nowhere : (n : ℕ) (tokens : List Token) (d : Expectation) (s : List StackSymbol) (c : lex.Token) (text : List ℕ) (start : ValueStart) → Shifts n expectation.value [] tokens d s → IsValueStart c text start →
    ((e : Expectation) (r : List StackSymbol) → LeadsBy (next_move (expected_of d) (innermost s) (n - length s) c start) text d s e r → goes_on (next_move (expected_of d) (innermost s) (n - length s) c start) (n - length s) ≡ true → ⊥) →
    IsViable n (tokens ++ token_of c text ∷ []) → ⊥
nowhere n tokens d s c text start led begins never viable =
    let m = next_move (expected_of d) (innermost s) (n - length s) c start in
    let (e, r, h, goes) = viable_then n tokens d s (token_of c text) led viable in
    let move = subst (IsMove m text d s) h (move_is_step n d s c text start begins) in
    never e r move (goes_on_only n m text d s e r move goes)

-- the token is refused
pub after_refused : (n : ℕ) (tokens : List Token) (d : State) (fs gs : List Form) (ns ms : Names) (c : lex.Token) (text : List ℕ) (start : ValueStart) → IsAfter n tokens d fs ns → IsValueStart c text start →
    move_at d (stack_of fs) n c start ≡ Refused → IsAfter n (tokens ++ token_of c text ∷ []) known.Nothing gs ms
after_refused n tokens d fs gs ns ms c text start (inr (nothing, never)) begins h = inr (refl, λ viable. never (begins_viable n tokens (token_of c text) viable))
after_refused n tokens d fs gs ns ms c text start (inl led) begins h =
    let d' = led.expected_there in
    let s = led.open_there in
    let m = next_move (expected_of d') (innermost s) (n - length s) c start in
    let stops = refused_stops m (n - length s) (move_there n tokens d fs ns c start Refused led h) in
    inr (refl, λ viable. nowhere n tokens d' s c text start led.leads begins (λ e r move goes. let w : true ≡ false = sym goes ∙ stops in cc) viable)

-- a flag is repeated
pub after_repeated : (n : ℕ) (tokens : List Token) (d x : State) (fs gs : List Form) (ns ms ks : Names) (c : lex.Token) (text : List ℕ) (start : ValueStart) → IsAfter n tokens d fs ns → IsValueStart c text start →
    move_at d (stack_of fs) n c start ≡ To x → IsNoted x text ns ms true → IsAfter n (tokens ++ token_of c text ∷ []) known.Nothing gs ks
after_repeated n tokens d x fs gs ns ms ks c text start (inr (nothing, never)) begins h noted = inr (refl, λ viable. never (begins_viable n tokens (token_of c text) viable))
after_repeated n tokens d x fs gs ns ms ks c text start (inl led) begins h noted =
    let d' = led.expected_there in
    let s = led.open_there in
    let m = next_move (expected_of d') (innermost s) (n - length s) c start in
    let is = going_is m (To x) (n - length s) (λ w. cc) (move_there n tokens d fs ns c start (To x) led h) in
    inr (refl, λ viable. nowhere n tokens d' s c text start led.leads begins (λ e r move goes. repeated x text d' s e r ns ms (subst (λ z. LeadsBy z text d' s e r) is move) led.flags noted) viable)

-- the token is read
pub after_move : (n : ℕ) (tokens : List Token) (d : State) (fs gs : List Form) (ns ms : Names) (c : lex.Token) (text : List ℕ) (start : ValueStart) (m : Move) → IsAfter n tokens d fs ns → IsValueStart c text start →
    move_at d (stack_of fs) n c start ≡ m → IsDone m text fs gs ns ms → IsAfter n (tokens ++ token_of c text ∷ []) (state_after m) gs ms
after_move n tokens d fs gs ns ms c text start m (inr (nothing, never)) begins h done =
    let none : Refused ≡ m = subst (λ z. move_at z (stack_of fs) n c start ≡ m) nothing h in
    absurd (subst (λ z. IsDone z text fs gs ns ms) (sym none) done)
after_move n tokens d fs gs ns ms c text start m (inl led) begins h done = which (step n d' s (token_of c text)) refl (subst (λ z. IsMove z text d' s (step n d' s (token_of c text))) is (move_is_step n d' s c text start begins))
  where
    d' : Expectation
    d' = led.expected_there

    s : List StackSymbol
    s = led.open_there

    is : next_move (expected_of d') (innermost s) (n - length s) c start ≡ m
    is = going_is _ m (n - length s) (λ w. subst (λ z. IsDone z text fs gs ns ms) w done) (move_there n tokens d fs ns c start m led h)

    which : (x : Step) → step n d' s (token_of c text) ≡ x → IsMove m text d' s x → IsAfter n (tokens ++ token_of c text ∷ []) (state_after m) gs ms
    which (expectation.reads e r) k move =
        let (states, changes) = leads_changes m text d' s e r move in
        inl (record {
          expected_there = e;
          open_there = r;
          leads = leads_join n expectation.value d' e [] s r tokens (token_of c text ∷ []) led.leads (e, r, k, (refl, refl));
          state = states;
          forms = changed_forms m text fs gs ns ms s r changes done led.forms;
          flags = noted_flags m text d' s e r fs gs ns ms move led.flags done;
        })
    which expectation.repeated_flag k move = absurd (not_repeated m text d' fs gs ns ms move led.flags done)
    which x k move = absurd (subst (λ z. IsDone z text fs gs ns ms) move done)
