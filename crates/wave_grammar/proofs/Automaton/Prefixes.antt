-- The tokens that are led are those that begin a tree.
use Rattle.std.proofs.Common.{ℕ, ◌≡◌, ◌≢◌, ◌<◌, ◌≤◌, ◌+◌, inl, inr, List, [], ◌∷◌, ◌++◌, length, Bool, true, false, refl, sym, ap, subst, ◌∙◌, arith}
use Rattle.std.proofs.lemmas.List.{append-nil}
use Rattle.std.specs.Prelude.{◌⊎◌, nat_lt, if◌then◌else◌, codes}
use Rattle.wave_wasm.specs.Names.{is_one_of}
use Rattle.wave_grammar.specs.Token.{Token, brace_open, brace_close, paren_open, paren_close, bracket_open, bracket_close, colon, comma, number, label, char, string, multiline}
use Rattle.wave_grammar.specs.LeafTokens.{name_of}
use Rattle.wave_grammar.specs.Tree.{Tree, Takes, Word, word_of, leaf_word, none_word, some_word, ok_word, err_word, case_word}
use Rattle.wave_grammar.specs.PrefixLaws.{PrefixesAreViable, ViableTokensBeginATree, RefusedTokensBeginNone}
use Rattle.wave_grammar.specs.PrefixAutomaton as expectation
use Rattle.wave_grammar.specs.PrefixAutomaton.{Expectation, StackSymbol, value, first_item, next_item, behind_value, behind_label, Step, too_deep, unexpected, reads, step, Shifts, closes, closed, closed_empty, level_step, value_step, behind_step, key_step, behind_flag_step, flag_step}
use Rattle.wave_grammar.proofs.Automaton.Sound.{IsEnd, leads_join, close_of, close_token, close_reads, item_step, level_open, end_before, trees_are_accepted}
use Rattle.wave_grammar.proofs.Automaton.Complete.{led_is_tree}

-- ---- runs of tokens

-- a run of tokens is that of a prefix and that of the others
pub leads_split : (n : ℕ) (d e : Expectation) (s r : List StackSymbol) (ts us : List Token) → Shifts n d s (ts ++ us) e r → (f : Expectation) × (q : List StackSymbol) × Shifts n d s ts f q × Shifts n f q us e r
leads_split n d e s r [] us h = (d, s, (refl, refl), h)
leads_split n d e s r (t ∷ ts) us (d', s', x, more) = let (f, q, one, others) = leads_split n d' e s' r ts us more in (f, q, (d', s', x, one), others)

-- tokens lead to one place
pub leads_one : (n : ℕ) (d e f : Expectation) (s r q : List StackSymbol) (ts : List Token) → Shifts n d s ts e r → Shifts n d s ts f q → (e ≡ f) × (r ≡ q)
leads_one n d e f s r q [] (a, b) (a', b') = (sym a ∙ a', sym b ∙ b')
leads_one n d e f s r q (t ∷ ts) (d', s', x, more) (d'', s'', y, others) =
    let same : reads d'' s'' ≡ reads d' s' = sym y ∙ x in
    let forms : s'' ≡ s' = cc in
    let expectations : d'' ≡ d' = cc in
    leads_one n d' e f s' r q ts more (subst (λ z. Shifts n d' z ts f q) forms (subst (λ z. Shifts n z s'' ts f q) expectations others))

-- ---- more levels

-- where a token is not too deep within n levels, it does the same within more
level_more : (n m : ℕ) (s : List StackSymbol) (t : Token) → n ≤ m → level_step n s t ≢ too_deep → level_step m s t ≡ level_step n s t
level_more n m s t l apart = which (nat_lt (length s) n) refl
  where
    which : (b : Bool) → nat_lt (length s) n ≡ b → level_step m s t ≡ level_step n s t
    which true k = let open_there : length s < n = grind arith in level_open m s t (omega arith) ∙ sym (level_open n s t open_there)
    which false k = absurd (apart (ap (λ b. if b then value_step s t else too_deep) k))

-- the same at an item
item_more : (b : Bool) (x y z : Step) → (z ≢ too_deep → y ≡ z) → if b then x else z ≢ too_deep → if b then x else y ≡ if b then x else z
item_more true x y z h apart = refl
item_more false x y z h apart = h apart

-- a token that is not too deep does the same within more levels
step_more : (n m : ℕ) (d : Expectation) (s : List StackSymbol) (t : Token) → n ≤ m → step n d s t ≢ too_deep → step m d s t ≡ step n d s t
step_more n m value s t l apart = level_more n m s t l apart
step_more n m first_item s t l apart = item_more (closes s t) (closed_empty s) (level_step m s t) (level_step n s t) (level_more n m s t l) apart
step_more n m next_item s t l apart = item_more (closes s t) (closed s) (level_step m s t) (level_step n s t) (level_more n m s t l) apart
step_more n m d s t l apart = refl

-- a token that is read is not too deep
read_there : (x : Step) (e : Expectation) (r : List StackSymbol) → x ≡ reads e r → x ≢ too_deep
read_there x e r h k = let w : reads e r ≡ too_deep = sym h ∙ k in cc

-- tokens lead as far within more levels
pub leads_more : (n m : ℕ) (d e : Expectation) (s r : List StackSymbol) (ts : List Token) → n ≤ m → Shifts n d s ts e r → Shifts m d s ts e r
leads_more n m d e s r [] l h = h
leads_more n m d e s r (t ∷ ts) l (d', s', x, more) = (d', s', step_more n m d s t l (read_there _ d' s' x) ∙ x, leads_more n m d' e s' r ts l more)

-- ---- prefixes of trees

-- the tokens of a tree are led to its end
whole_led : (n : ℕ) (tokens : List Token) (t : Tree) → Takes n tokens t [] → (d : Expectation) × Shifts n value [] tokens d []
whole_led n tokens t h =
    let (prefix, d, same, ends, leads) = trees_are_accepted n tokens [] t h in
    (d, subst (λ z. Shifts n value [] z d []) (sym (same ∙ append-nil prefix)) leads)

-- each prefix of a tree is led
pub prefixes_are_viable : PrefixesAreViable
prefixes_are_viable n prefix more t h =
    let (d, leads) = whole_led n (prefix ++ more) t h in
    let (f, q, one, others) = leads_split n value d [] [] prefix more leads in
    (f, q, one)

-- with a token that is not read tokens begin no tree
pub refused_begin_none : RefusedTokensBeginNone
refused_begin_none n prefix d s t led refused m more u levels h =
    let (e, leads) = whole_led m (prefix ++ t ∷ more) u h in
    let (f, q, one, (d', s', x, others)) = leads_split m value e [] [] prefix (t ∷ more) leads in
    let (expectations, forms) = leads_one (n + m) value f d [] q s prefix (leads_more m (n + m) value f [] q prefix (omega arith) one) (leads_more n (n + m) value d [] s prefix (omega arith) led) in
    let there : step m d s t ≡ reads d' s' = subst (λ z. step m z s t ≡ reads d' s') expectations (subst (λ z. step m f z t ≡ reads d' s') forms x) in
    which there levels
  where
    which : {d' : Expectation} {s' : List StackSymbol} → step m d s t ≡ reads d' s' → (m ≤ n) ⊎ (step n d s t ≢ too_deep) → ⊥
    which {d'} {s'} there (inl l) = refused d' s' (step_more m n d s t l (read_there _ d' s' there) ∙ there)
    which {d'} {s'} there (inr apart) =
        refused d' s' (sym (step_more n (n + m) d s t (omega arith) apart) ∙ (step_more m (n + m) d s t (omega arith) (read_there _ d' s' there) ∙ there))

-- ---- more tokens for any prefix

-- how many forms may be open where this is expected
abbrev pub Fits : ℕ → Expectation → List StackSymbol → Type 0
Fits n value s = length s ≤ n
Fits n first_item s = length s ≤ n
Fits n next_item s = length s ≤ n
Fits n behind_value s = length s ≤ n
Fits n d s = length s < n

-- what is expected where a token was read
fits_there : (n : ℕ) (d e : Expectation) (s r : List StackSymbol) → reads d s ≡ reads e r → Fits n d s → Fits n e r
fits_there n d e s r h fits =
    let forms : s ≡ r = cc in
    let expectations : d ≡ e = cc in
    subst (λ z. Fits n z r) expectations (subst (Fits n d) forms fits)

-- a token that is read where a value is expected is on a level
pub level_there : (n : ℕ) (s : List StackSymbol) (t : Token) (e : Expectation) (r : List StackSymbol) → level_step n s t ≡ reads e r → (length s < n) × (value_step s t ≡ reads e r)
level_there n s t e r h = which (nat_lt (length s) n) refl
  where
    which : (b : Bool) → nat_lt (length s) n ≡ b → (length s < n) × (value_step s t ≡ reads e r)
    which true k = let room : length s < n = grind arith in (room, sym (level_open n s t room) ∙ h)
    which false k = let w : too_deep ≡ reads e r = ap (λ b. if b then value_step s t else too_deep) (sym k) ∙ h in cc

-- after a label that stands for a value
word_fits : (n : ℕ) (w : Word) (s : List StackSymbol) → length s < n → Fits n (expectation.expected_behind w) s
word_fits n leaf_word s l = omega arith
word_fits n none_word s l = omega arith
word_fits n some_word s l = l
word_fits n ok_word s l = l
word_fits n err_word s l = l
word_fits n case_word s l = l

-- after the first token of a value
value_fits : (n : ℕ) (s : List StackSymbol) (t : Token) (e : Expectation) (r : List StackSymbol) → length s < n → value_step s t ≡ reads e r → Fits n e r
value_fits n s paren_open e r l h = fits_there n first_item e (expectation.tuple ∷ s) r h (omega arith)
value_fits n s bracket_open e r l h = fits_there n first_item e (expectation.list ∷ s) r h (omega arith)
value_fits n s brace_open e r l h = fits_there n expectation.in_braces e s r h l
value_fits n s (number text) e r l h = fits_there n behind_value e s r h (omega arith)
value_fits n s (char text) e r l h = fits_there n behind_value e s r h (omega arith)
value_fits n s (string text) e r l h = fits_there n behind_value e s r h (omega arith)
value_fits n s (multiline text) e r l h = fits_there n behind_value e s r h (omega arith)
value_fits n s (label text) e r l h = fits_there n (expectation.expected_behind (word_of text)) e s r h (word_fits n (word_of text) s l)
value_fits n s t e r l h = let k : unexpected ≡ reads e r = h in cc

-- after what follows a value
behind_fits : (n : ℕ) (s : List StackSymbol) (t : Token) (e : Expectation) (r : List StackSymbol) → length s ≤ n → behind_step s t ≡ reads e r → Fits n e r
behind_fits n [] t e r l h = let k : unexpected ≡ reads e r = h in cc
behind_fits n (expectation.tuple ∷ s) comma e r l h = fits_there n next_item e (expectation.tuple ∷ s) r h l
behind_fits n (expectation.tuple ∷ s) paren_close e r l h = fits_there n behind_value e s r h (omega arith)
behind_fits n (expectation.list ∷ s) comma e r l h = fits_there n next_item e (expectation.list ∷ s) r h l
behind_fits n (expectation.list ∷ s) bracket_close e r l h = fits_there n behind_value e s r h (omega arith)
behind_fits n (expectation.payload ∷ s) paren_close e r l h = fits_there n behind_value e s r h (omega arith)
behind_fits n (expectation.entries ∷ s) comma e r l h = fits_there n expectation.key e s r h (omega arith)
behind_fits n (expectation.entries ∷ s) brace_close e r l h = fits_there n behind_value e s r h (omega arith)
behind_fits n (f ∷ s) t e r l h = let k : unexpected ≡ reads e r = h in cc

-- after a close
closed_fits : (n : ℕ) (s : List StackSymbol) (e : Expectation) (r : List StackSymbol) → length s ≤ n → closed s ≡ reads e r → Fits n e r
closed_fits n [] e r l h = let k : unexpected ≡ reads e r = h in cc
closed_fits n (f ∷ s) e r l h = fits_there n behind_value e s r h (omega arith)

-- the same before the first item
closed_empty_fits : (n : ℕ) (s : List StackSymbol) (e : Expectation) (r : List StackSymbol) → length s ≤ n → closed_empty s ≡ reads e r → Fits n e r
closed_empty_fits n [] e r l h = let k : unexpected ≡ reads e r = h in cc
closed_empty_fits n (expectation.tuple ∷ s) e r l h = let k : expectation.empty_tuple ≡ reads e r = h in cc
closed_empty_fits n (f ∷ s) e r l h = closed_fits n (f ∷ s) e r l h

-- either of two answers
either_fits : (n : ℕ) (b : Bool) (x y : Step) (e : Expectation) (r : List StackSymbol) → (x ≡ reads e r → Fits n e r) → (y ≡ reads e r → Fits n e r) → if b then x else y ≡ reads e r → Fits n e r
either_fits n true x y e r f g h = f h
either_fits n false x y e r f g h = g h

-- an unexpected token is not read
unexpected_fits : (n : ℕ) (e : Expectation) (r : List StackSymbol) → unexpected ≡ reads e r → Fits n e r
unexpected_fits n e r h = cc

-- after a key or the close of its braces
key_fits : (n : ℕ) (s : List StackSymbol) (t : Token) (e : Expectation) (r : List StackSymbol) → length s < n → key_step s t ≡ reads e r → Fits n e r
key_fits n s brace_close e r l h = fits_there n behind_value e s r h (omega arith)
key_fits n s (number text) e r l h = fits_there n expectation.behind_key e s r h l
key_fits n s (label text) e r l h = fits_there n expectation.behind_key e s r h l
key_fits n s (char text) e r l h = fits_there n expectation.behind_key e s r h l
key_fits n s (string text) e r l h = fits_there n expectation.behind_key e s r h l
key_fits n s (multiline text) e r l h = fits_there n expectation.behind_key e s r h l
key_fits n s t e r l h = let k : unexpected ≡ reads e r = h in cc

-- after what follows a flag
behind_flag_fits : (n : ℕ) (names : List (List ℕ)) (s : List StackSymbol) (t : Token) (e : Expectation) (r : List StackSymbol) → length s < n → behind_flag_step names s t ≡ reads e r → Fits n e r
behind_flag_fits n names s brace_close e r l h = fits_there n behind_value e s r h (omega arith)
behind_flag_fits n names s comma e r l h = fits_there n (expectation.flag names) e s r h l
behind_flag_fits n names s t e r l h = let k : unexpected ≡ reads e r = h in cc

-- after a flag or the close of its braces
flag_fits : (n : ℕ) (names : List (List ℕ)) (s : List StackSymbol) (t : Token) (e : Expectation) (r : List StackSymbol) → length s < n → flag_step names s t ≡ reads e r → Fits n e r
flag_fits n names s brace_close e r l h = fits_there n behind_value e s r h (omega arith)
flag_fits n names s (label text) e r l h =
    either_fits n (is_one_of names (name_of text)) expectation.repeated_flag _ e r (λ k. cc) (λ k. fits_there n (expectation.behind_flag (names ++ name_of text ∷ [])) e s r k l) h
flag_fits n names s t e r l h = let k : unexpected ≡ reads e r = h in cc

-- after the first token in braces
brace_fits : (n : ℕ) (s : List StackSymbol) (t : Token) (e : Expectation) (r : List StackSymbol) → length s < n → expectation.brace_step s t ≡ reads e r → Fits n e r
brace_fits n s (label text) e r l h = fits_there n (expectation.behind_word text) e s r h l
brace_fits n s colon e r l h = fits_there n expectation.no_fields e s r h l
brace_fits n s t e r l h = key_fits n s t e r l h

-- after what follows the first label in braces
word_behind_fits : (n : ℕ) (text : List ℕ) (s : List StackSymbol) (t : Token) (e : Expectation) (r : List StackSymbol) → length s < n → expectation.word_behind_step text s t ≡ reads e r → Fits n e r
word_behind_fits n text s colon e r l h = fits_there n value e (expectation.entries ∷ s) r h (omega arith)
word_behind_fits n text s t e r l h = behind_flag_fits n (name_of text ∷ []) s t e r l h

-- a token that is read leaves no more forms open than may be
step_fits : (n : ℕ) (d : Expectation) (s : List StackSymbol) (t : Token) (e : Expectation) (r : List StackSymbol) → Fits n d s → step n d s t ≡ reads e r → Fits n e r
step_fits n value s t e r fits h = let (room, k) = level_there n s t e r h in value_fits n s t e r room k
step_fits n first_item s t e r fits h =
    either_fits n (closes s t) (closed_empty s) (level_step n s t) e r (closed_empty_fits n s e r fits) (λ g. let (room, k) = level_there n s t e r g in value_fits n s t e r room k) h
step_fits n next_item s t e r fits h =
    either_fits n (closes s t) (closed s) (level_step n s t) e r (closed_fits n s e r fits) (λ g. let (room, k) = level_there n s t e r g in value_fits n s t e r room k) h
step_fits n behind_value s t e r fits h = behind_fits n s t e r fits h
step_fits n behind_label s t e r fits h =
    either_fits n (expectation.is_paren t) (reads value (expectation.payload ∷ s)) (behind_step s t) e r (λ g. fits_there n value e (expectation.payload ∷ s) r g (omega arith)) (behind_fits n s t e r (omega arith)) h
step_fits n expectation.paren s t e r fits h =
    either_fits n (expectation.is_paren t) (reads value (expectation.payload ∷ s)) unexpected e r (λ g. fits_there n value e (expectation.payload ∷ s) r g (omega arith)) (unexpected_fits n e r) h
step_fits n expectation.in_braces s t e r fits h = brace_fits n s t e r fits h
step_fits n expectation.no_fields s t e r fits h = either_fits n (expectation.is_brace_close t) (reads behind_value s) unexpected e r (λ g. fits_there n behind_value e s r g (omega arith)) (unexpected_fits n e r) h
step_fits n (expectation.behind_word text) s t e r fits h = word_behind_fits n text s t e r fits h
step_fits n expectation.key s t e r fits h = key_fits n s t e r fits h
step_fits n expectation.behind_key s t e r fits h =
    either_fits n (expectation.is_colon t) (reads value (expectation.entries ∷ s)) unexpected e r (λ g. fits_there n value e (expectation.entries ∷ s) r g (omega arith)) (unexpected_fits n e r) h
step_fits n (expectation.flag names) s t e r fits h = flag_fits n names s t e r fits h
step_fits n (expectation.behind_flag names) s t e r fits h = behind_flag_fits n names s t e r fits h

-- tokens that are read leave no more forms open than may be
pub leads_fit : (n : ℕ) (d : Expectation) (s : List StackSymbol) (ts : List Token) (e : Expectation) (r : List StackSymbol) → Fits n d s → Shifts n d s ts e r → Fits n e r
leads_fit n d s [] e r fits (a, b) = subst (λ z. Fits n z r) a (subst (Fits n d) b fits)
leads_fit n d s (t ∷ ts) e r fits (d', s', x, more) = leads_fit n d' s' ts e r (step_fits n d s t d' s' fits x) more

-- tokens that lead to where no more is expected of any value
abbrev Completion : ℕ → Expectation → List StackSymbol → Type 0
Completion m d s = (more : List Token) × (e : Expectation) × IsEnd e [] × Shifts m d s more e []

-- a token and then such tokens
with_token : (m : ℕ) (d e : Expectation) (s r : List StackSymbol) (t : Token) → step m d s t ≡ reads e r → Completion m e r → Completion m d s
with_token m d e s r t h (more, f, ends, leads) = (t ∷ more, f, ends, (e, r, h, leads))

-- the closes of all forms
closing : (m : ℕ) (s : List StackSymbol) → Completion m behind_value s
closing m [] = ([], behind_value, inl refl, (refl, refl))
closing m (f ∷ s) = with_token m behind_value behind_value (f ∷ s) s (close_of f) (close_reads f s) (closing m s)

-- `0`
abbrev zero_token : Token
zero_token = number (codes "0")

-- a number closes nothing
zero_closes : (s : List StackSymbol) → closes s zero_token ≡ true → ⊥
zero_closes [] e = let w : false ≡ true = e in cc
zero_closes (f ∷ s) e = let w : zero_token ≡ close_of f = close_token f s zero_token e in not_close f w
  where
    not_close : (g : StackSymbol) → zero_token ≡ close_of g → ⊥
    not_close expectation.tuple w = cc
    not_close expectation.list w = cc
    not_close expectation.payload w = cc
    not_close expectation.entries w = cc

-- a number, and the closes of all forms
zero_value : (m : ℕ) (s : List StackSymbol) → length s < m → Completion m value s
zero_value m s room = with_token m value behind_value s s zero_token (level_open m s zero_token room) (closing m s)

-- the same where an item is expected
zero_item : (m : ℕ) (d : Expectation) (s : List StackSymbol) → (d ≡ first_item) ⊎ (d ≡ next_item) → length s < m → Completion m d s
zero_item m d s at room = with_token m d behind_value s s zero_token (sym (item_step m d s zero_token at (zero_closes s)) ∙ level_open m s zero_token room) (closing m s)

-- after a label the closes of all forms
label_closing : (m : ℕ) (s : List StackSymbol) → Completion m behind_label s
label_closing m [] = ([], behind_label, inr (refl, λ more f. cc), (refl, refl))
label_closing m (expectation.tuple ∷ s) = with_token m behind_label behind_value (expectation.tuple ∷ s) s paren_close refl (closing m s)
label_closing m (expectation.list ∷ s) = with_token m behind_label behind_value (expectation.list ∷ s) s bracket_close refl (closing m s)
label_closing m (expectation.payload ∷ s) = with_token m behind_label behind_value (expectation.payload ∷ s) s paren_close refl (closing m s)
label_closing m (expectation.entries ∷ s) = with_token m behind_label behind_value (expectation.entries ∷ s) s brace_close refl (closing m s)

-- from wherever tokens lead, others lead on to the end, with one level more at most
completes : (n : ℕ) (d : Expectation) (s : List StackSymbol) → Fits n d s → Completion (n + 1) d s
completes n value s fits = zero_value (n + 1) s (omega arith)
completes n first_item s fits = zero_item (n + 1) first_item s (inl refl) (omega arith)
completes n next_item s fits = zero_item (n + 1) next_item s (inr refl) (omega arith)
completes n behind_value s fits = closing (n + 1) s
completes n behind_label s fits = label_closing (n + 1) s
completes n expectation.paren s fits = with_token (n + 1) expectation.paren value s (expectation.payload ∷ s) paren_open refl (zero_value (n + 1) (expectation.payload ∷ s) (omega arith))
completes n expectation.in_braces s fits = with_token (n + 1) expectation.in_braces behind_value s s brace_close refl (closing (n + 1) s)
completes n expectation.no_fields s fits = with_token (n + 1) expectation.no_fields behind_value s s brace_close refl (closing (n + 1) s)
completes n (expectation.behind_word text) s fits = with_token (n + 1) (expectation.behind_word text) behind_value s s brace_close refl (closing (n + 1) s)
completes n expectation.key s fits = with_token (n + 1) expectation.key behind_value s s brace_close refl (closing (n + 1) s)
completes n expectation.behind_key s fits = with_token (n + 1) expectation.behind_key value s (expectation.entries ∷ s) colon refl (zero_value (n + 1) (expectation.entries ∷ s) (omega arith))
completes n (expectation.flag names) s fits = with_token (n + 1) (expectation.flag names) behind_value s s brace_close refl (closing (n + 1) s)
completes n (expectation.behind_flag names) s fits = with_token (n + 1) (expectation.behind_flag names) behind_value s s brace_close refl (closing (n + 1) s)

-- each prefix that is led begins a tree
pub led_begin_tree : ViableTokensBeginATree
led_begin_tree n prefix d s leads =
    let (more, e, ends, on) = completes n d s (leads_fit n value [] prefix d s (omega arith) leads) in
    let all = leads_join (n + 1) value d e [] s [] prefix more (leads_more n (n + 1) value d [] s prefix (omega arith) leads) on in
    let (t, h) = led_is_tree (n + 1) (prefix ++ more) [] e (end_before e [] ends) all in
    (more, t, subst (λ z. Takes (n + 1) z t []) (append-nil (prefix ++ more)) h)
