-- Which classes of tokens may stand next.
use Rattle.std.proofs.Common.{ℕ, zero, suc, ◌≡◌, ◌≢◌, ◌<◌, ◌+◌, ◌-◌, inl, inr, List, [], ◌∷◌, length, replicate, Bool, true, false, refl, sym, ap, subst, ◌∙◌, arith, rules, length-append}
use Rattle.std.proofs.lemmas.List.{append-nil, length-replicate, take_all}
use Rattle.std.proofs.lemmas.Slice.Eq.{bytes_eq-Decides}
use Rattle.std.specs.Prelude.{◌↔◌, ◌||◌, nat_lt, if◌then◌else◌, codes, bytes_eq}
use Rattle.wave_wasm.specs.Lists.{AllOf}
use Rattle.wave_wasm.specs.Names.{is_one_of}
use Rattle.wave_lex.specs.declared.lex.Token as lex
use Rattle.wave_lex.specs.declared.lex.Token.TheVariants.{BraceOpen, BraceClose, ParenOpen, ParenClose, BracketOpen, BracketClose}
use Rattle.wave_lex.specs.declared.lex.Token.TheVariants.{Colon, Comma, Number, LabelOrKeyword, Char, String, MultilineString}
use Rattle.wave_lex.specs.Tokens.{shape}
use Rattle.wave_lex.specs.Tokenization.{IsToken}
use Rattle.wave_lex.specs.Labels.{IsLabel}
use Rattle.wave_lex.specs.LabelWords.{IsLowerOrDigit}
use Rattle.wave_lex.proofs.LongestPrefix.ByComputing.{prefix_here}
use Rattle.wave_lex.proofs.RegularShapes.LabelWords.{labels_are_words, label_tokens_are_labels}
use Rattle.wave_grammar.specs.Token.{Token, label}
use Rattle.wave_grammar.specs.LeafTokens.{name_of}
use Rattle.wave_grammar.specs.Tree.{Takes, leaf_word, none_word, some_word, ok_word, err_word, case_word}
use Rattle.wave_grammar.specs.ParserPosition.{token_of}
use Rattle.wave_grammar.specs.PrefixLaws.{EndsBefore}
use Rattle.wave_grammar.specs.PrefixAutomaton as expectation
use Rattle.wave_grammar.specs.PrefixAutomaton.{Expectation, StackSymbol, Step, step, reads, unexpected, Shifts, level_step, behind_step}
use Rattle.wave_grammar.proofs.Automaton.RefusedKinds.{repeated_there}
use Rattle.wave_grammar.proofs.Automaton.Prefixes.{level_there}
use Rattle.wave_grammar.specs.declared.form.NodeType.{NodeType}
use Rattle.wave_grammar.specs.declared.form.NodeType.TheVariants as node
use Rattle.wave_expected.specs.declared.expected.moves.State.{State}
use Rattle.wave_expected.specs.declared.expected.moves.State.TheVariants as known
use Rattle.wave_expected.specs.declared.expected.moves.Form.{Form}
use Rattle.wave_expected.specs.declared.expected.moves.Move.{Move}
use Rattle.wave_expected.specs.declared.expected.moves.Move.TheVariants.{To, Open, Close, Refused}
use Rattle.wave_tree.specs.declared.role.ValueStart.{ValueStart}
use Rattle.wave_tree.specs.declared.role.ValueStart.TheVariants as starts
use Rattle.wave_tree.specs.ValueStarts.{IsValueStart, IsAlone, IsLabelWord}
use Rattle.wave_expected.specs.Private.Moves.{value_move, next_move, goes_on, going_on, move_at, expected_of, symbol_of, innermost, stack_of}
use Rattle.wave_expected.specs.Private.Prefixes.{Names, IsAfter, MayEnd}
use Rattle.wave_expected.specs.Expected.{MayFollow, AreAValue}
use Rattle.wave_expected.proofs.ExpectedTokens.Moves.{IsRepeated, IsMove, move_is_step}
use Rattle.wave_expected.proofs.ExpectedTokens.ViablePrefixes.{GoesOn, goes_on_there, goes_on_only, begins_viable, then_viable, viable_then, value_ends, ends_value}

-- ---- a label that was not read before

-- how many bytes the names have
abbrev size_of : List (List ℕ) → ℕ
size_of [] = 0
size_of (name ∷ more) = length name + size_of more

-- texts of different lengths differ
longer_differs : (x name : List ℕ) → length name < length x → bytes_eq x name ≡ false
longer_differs x name l = search (rules, bytes_eq-Decides x name, differ)
  where
    differ : x ≡ name → ⊥
    differ e = let same = ap length e in omega arith

-- a text that is longer than all names is none of them
longer_is_none : (names : List (List ℕ)) (x : List ℕ) → size_of names < length x → is_one_of names x ≡ false
longer_is_none [] x l = refl
longer_is_none (name ∷ more) x l = ap (λ b. b || is_one_of more x) (longer_differs x name (omega arith)) ∙ longer_is_none more x (omega arith)

-- the flags that were read
abbrev flags_of : Expectation → List (List ℕ)
flags_of (expectation.flag names) = names
flags_of _ = []

-- a label that was not read there: an `a`, and as many as all those labels have bytes
abbrev fresh : Expectation → List ℕ
fresh d = 97 ∷ replicate (size_of (flags_of d)) 97

-- it is none of the flags
fresh_is_none : (d : Expectation) → is_one_of (flags_of d) (name_of (fresh d)) ≡ false
fresh_is_none d = longer_is_none (flags_of d) (fresh d) (omega (arith, length-replicate {A = ℕ} (size_of (flags_of d)) 97))

all_lower : (n : ℕ) → AllOf IsLowerOrDigit (replicate n 97)
all_lower zero = tt
all_lower (suc n) = (refl, all_lower n)

-- it is a label
fresh_is_label : (d : Expectation) → IsLabel (fresh d)
fresh_is_label d = (labels_are_words (fresh d)).1 (record { first = fresh d; more = []; joined = refl; words = (((λ e. cc), inl (refl, all_lower (size_of (flags_of d)))), tt); begins = refl })

fresh_is_token : (d : Expectation) → IsToken (fresh d) (length (fresh d)) LabelOrKeyword
fresh_is_token d = (label_tokens_are_labels (fresh d) (length (fresh d)) (omega arith)).1 (inl (subst IsLabel (sym (take_all (length (fresh d)) (fresh d) (omega arith))) (fresh_is_label d)))

-- ---- a token of each class

-- a text of this class
abbrev sample : Expectation → lex.Token → List ℕ
sample d BraceOpen = codes "{"
sample d BraceClose = codes "}"
sample d ParenOpen = codes "("
sample d ParenClose = codes ")"
sample d BracketOpen = codes "["
sample d BracketClose = codes "]"
sample d Colon = codes ":"
sample d Comma = codes ","
sample d Number = codes "0"
sample d LabelOrKeyword = fresh d
sample d Char = codes "'a'"
sample d String = codes "\"a\""
sample d MultilineString = codes "\"\"\"\n\"\"\""

sample_is_token : (d : Expectation) (c : lex.Token) → IsToken (sample d c) (length (sample d c)) c
sample_is_token d BraceOpen = (prefix_here (shape BraceOpen) (codes "{") 1 refl refl refl, tt)
sample_is_token d BraceClose = (prefix_here (shape BraceClose) (codes "}") 1 refl refl refl, tt)
sample_is_token d ParenOpen = (prefix_here (shape ParenOpen) (codes "(") 1 refl refl refl, tt)
sample_is_token d ParenClose = (prefix_here (shape ParenClose) (codes ")") 1 refl refl refl, tt)
sample_is_token d BracketOpen = (prefix_here (shape BracketOpen) (codes "[") 1 refl refl refl, tt)
sample_is_token d BracketClose = (prefix_here (shape BracketClose) (codes "]") 1 refl refl refl, tt)
sample_is_token d Colon = (prefix_here (shape Colon) (codes ":") 1 refl refl refl, tt)
sample_is_token d Comma = (prefix_here (shape Comma) (codes ",") 1 refl refl refl, tt)
sample_is_token d Number = (prefix_here (shape Number) (codes "0") 1 refl refl refl, tt)
sample_is_token d LabelOrKeyword = fresh_is_token d
sample_is_token d Char = (prefix_here (shape Char) (codes "'a'") 3 refl refl refl, tt)
sample_is_token d String = (prefix_here (shape String) (codes "\"a\"") 3 refl refl refl, λ e. absurd (omega arith))
sample_is_token d MultilineString = (prefix_here (shape MultilineString) (codes "\"\"\"\n\"\"\"") 7 refl refl refl, tt)

-- what a value begins with whose first token is of this class; of a label, that of a case
abbrev pub sample_start : lex.Token → ValueStart
sample_start Number = starts.Alone node.Number
sample_start Char = starts.Alone node.Char
sample_start String = starts.Alone node.String
sample_start MultilineString = starts.Alone node.MultilineString
sample_start LabelOrKeyword = starts.Label node.Label node.VariantWithPayload
sample_start ParenOpen = starts.Paren
sample_start BracketOpen = starts.Bracket
sample_start BraceOpen = starts.Brace
sample_start _ = starts.Nothing

-- a text begins a value as any of its class does, unless it is a label
pub begins_so : (c : lex.Token) (text : List ℕ) → c ≢ LabelOrKeyword → IsValueStart c text (sample_start c)
begins_so BraceOpen text apart = refl
begins_so BraceClose text apart = tt
begins_so ParenOpen text apart = refl
begins_so ParenClose text apart = tt
begins_so BracketOpen text apart = refl
begins_so BracketClose text apart = tt
begins_so Colon text apart = tt
begins_so Comma text apart = tt
begins_so Number text apart = refl
begins_so LabelOrKeyword text apart = absurd (apart refl)
begins_so Char text apart = refl
begins_so String text apart = refl
begins_so MultilineString text apart = refl

sample_begins : (d : Expectation) (c : lex.Token) → IsValueStart c (sample d c) (sample_start c)
sample_begins d LabelOrKeyword = (refl, refl)
sample_begins d BraceOpen = begins_so BraceOpen (codes "{") (λ e. cc)
sample_begins d BraceClose = tt
sample_begins d ParenOpen = refl
sample_begins d ParenClose = tt
sample_begins d BracketOpen = refl
sample_begins d BracketClose = tt
sample_begins d Colon = tt
sample_begins d Comma = tt
sample_begins d Number = refl
sample_begins d Char = refl
sample_begins d String = refl
sample_begins d MultilineString = refl

-- ---- what may stand

-- a token of this class, as the sample, is read where d is expected within s, and a value goes on after it
abbrev Stands : ℕ → Expectation → List StackSymbol → lex.Token → Type 0
Stands n d s c = goes_on (next_move (expected_of d) (innermost s) (n - length s) c (sample_start c)) (n - length s) ≡ true

-- the sample is no flag that was read
not_again : (d : Expectation) (m : Move) (c : lex.Token) → c ≡ LabelOrKeyword → IsRepeated m (sample d c) d → ⊥
not_again d (To known.BehindFlag) c e (names, was, found) =
    let none : is_one_of names (name_of (fresh d)) ≡ false = subst (λ z. is_one_of z (name_of (fresh d)) ≡ false) (ap flags_of was) (fresh_is_none d) in
    let there : is_one_of names (name_of (fresh d)) ≡ true = subst (λ z. is_one_of names (name_of (sample d z)) ≡ true) e found in
    let w : false ≡ true = sym none ∙ there in cc
not_again d m c e h = absurd h

-- only a label repeats a flag
repeats_label : (n : ℕ) (tokens : List Token) (d : Expectation) (s : List StackSymbol) (c : lex.Token) (text : List ℕ) → Shifts n expectation.value [] tokens d s → step n d s (token_of c text) ≡ expectation.repeated_flag → c ≡ LabelOrKeyword
repeats_label n tokens d s c text led e = let (before, texts, word, start, same, one) = repeated_there n tokens d s (token_of c text) led e in class_is c text word same
  where
    class_is : (k : lex.Token) (x y : List ℕ) → token_of k x ≡ label y → k ≡ LabelOrKeyword
    class_is LabelOrKeyword x y w = refl
    class_is BraceOpen x y w = cc
    class_is BraceClose x y w = cc
    class_is ParenOpen x y w = cc
    class_is ParenClose x y w = cc
    class_is BracketOpen x y w = cc
    class_is BracketClose x y w = cc
    class_is Colon x y w = cc
    class_is Comma x y w = cc
    class_is Number x y w = cc
    class_is Char x y w = cc
    class_is String x y w = cc
    class_is MultilineString x y w = cc

-- where a value goes on after a move the token is read
yes_there : (n : ℕ) (m : Move) (text : List ℕ) (d : Expectation) (s : List StackSymbol) (x : Step) → IsMove m text d s x → goes_on m (n - length s) ≡ true → (x ≡ expectation.repeated_flag → IsRepeated m text d → ⊥) →
    (e : Expectation) × (r : List StackSymbol) × (x ≡ reads e r) × GoesOn n e r
yes_there n m text d s (expectation.reads e r) move stands never = (e, r, refl, goes_on_there n m text d s e r move stands)
yes_there n m text d s expectation.repeated_flag move stands never = absurd (never refl move)
yes_there n m text d s x move stands never = let w : false ≡ true = subst (λ z. goes_on z (n - length s) ≡ true) move stands in cc

-- a class that may stand, after tokens that lead somewhere, has a token that goes on with them
stands_follows : (n : ℕ) (tokens : List Token) (d : Expectation) (s : List StackSymbol) (c : lex.Token) → Shifts n expectation.value [] tokens d s → Stands n d s c → MayFollow n tokens c
stands_follows n tokens d s c led stands =
    let t = token_of c (sample d c) in
    let m = next_move (expected_of d) (innermost s) (n - length s) c (sample_start c) in
    let move = move_is_step n d s c (sample d c) (sample_start c) (sample_begins d c) in
    let (e, r, h, goes) = yes_there n m (sample d c) d s (step n d s t) move stands (λ again. not_again d m c (repeats_label n tokens d s c (sample d c) led again)) in
    (sample d c, sample_is_token d c, then_viable n tokens d e s r t led h goes)

-- ---- a label that stands there

-- no label closes a form
pub no_label_closes : (s : List StackSymbol) (text : List ℕ) → expectation.closes s (label text) ≡ false
no_label_closes [] text = refl
no_label_closes (expectation.tuple ∷ s) text = refl
no_label_closes (expectation.list ∷ s) text = refl
no_label_closes (expectation.payload ∷ s) text = refl
no_label_closes (expectation.entries ∷ s) text = refl

-- no label stands after a value
pub no_label_behind : (s : List StackSymbol) (text : List ℕ) (e : Expectation) (r : List StackSymbol) → behind_step s (label text) ≡ reads e r → ⊥
no_label_behind [] text e r h = let w : unexpected ≡ reads e r = h in cc
no_label_behind (expectation.tuple ∷ s) text e r h = let w : unexpected ≡ reads e r = h in cc
no_label_behind (expectation.list ∷ s) text e r h = let w : unexpected ≡ reads e r = h in cc
no_label_behind (expectation.payload ∷ s) text e r h = let w : unexpected ≡ reads e r = h in cc
no_label_behind (expectation.entries ∷ s) text e r h = let w : unexpected ≡ reads e r = h in cc

-- a level is left
some_left : (n k : ℕ) → k < n → nat_lt 0 (n - k) ≡ true
some_left n k h = grind arith

-- a label where a value is expected
value_label : (n : ℕ) (s : List StackSymbol) (text : List ℕ) (e : Expectation) (r : List StackSymbol) → level_step n s (label text) ≡ reads e r → goes_on (value_move (n - length s) (sample_start LabelOrKeyword)) (n - length s) ≡ true
value_label n s text e r h = ap (λ b. goes_on (if b then To known.BehindLabel else Refused) (n - length s)) (some_left n (length s) (level_there n s (label text) e r h).0)

-- the same at an item
first_label : (n : ℕ) (s : List StackSymbol) (text : List ℕ) (e : Expectation) (r : List StackSymbol) → step n expectation.first_item s (label text) ≡ reads e r → Stands n expectation.first_item s LabelOrKeyword
first_label n [] text e r h = value_label n [] text e r h
first_label n (expectation.tuple ∷ s) text e r h = value_label n (expectation.tuple ∷ s) text e r h
first_label n (expectation.list ∷ s) text e r h = value_label n (expectation.list ∷ s) text e r h
first_label n (expectation.payload ∷ s) text e r h = value_label n (expectation.payload ∷ s) text e r h
first_label n (expectation.entries ∷ s) text e r h = value_label n (expectation.entries ∷ s) text e r h

next_label : (n : ℕ) (s : List StackSymbol) (text : List ℕ) (e : Expectation) (r : List StackSymbol) → step n expectation.next_item s (label text) ≡ reads e r → Stands n expectation.next_item s LabelOrKeyword
next_label n [] text e r h = value_label n [] text e r h
next_label n (expectation.tuple ∷ s) text e r h = value_label n (expectation.tuple ∷ s) text e r h
next_label n (expectation.list ∷ s) text e r h = value_label n (expectation.list ∷ s) text e r h
next_label n (expectation.payload ∷ s) text e r h = value_label n (expectation.payload ∷ s) text e r h
next_label n (expectation.entries ∷ s) text e r h = value_label n (expectation.entries ∷ s) text e r h

-- where any label is read, the class may stand
label_stands : (n : ℕ) (d : Expectation) (s : List StackSymbol) (text : List ℕ) (e : Expectation) (r : List StackSymbol) → step n d s (label text) ≡ reads e r → GoesOn n e r → Stands n d s LabelOrKeyword
label_stands n expectation.value s text e r h goes = value_label n s text e r h
label_stands n expectation.first_item s text e r h goes = first_label n s text e r h
label_stands n expectation.next_item s text e r h goes = next_label n s text e r h
label_stands n expectation.behind_value s text e r h goes = absurd (no_label_behind s text e r h)
label_stands n expectation.behind_label s text e r h goes = absurd (no_label_behind s text e r h)
label_stands n expectation.paren s text e r h goes = let w : unexpected ≡ reads e r = h in cc
label_stands n expectation.in_braces s text e r h goes = refl
label_stands n expectation.no_fields s text e r h goes = let w : unexpected ≡ reads e r = h in cc
label_stands n (expectation.behind_word word) s text e r h goes = let w : unexpected ≡ reads e r = h in cc
label_stands n expectation.key s text e r h goes =
    let w : reads expectation.behind_key s ≡ reads e r = h in
    let states : e ≡ expectation.behind_key = cc in
    let forms : r ≡ s = cc in
    goes_on_only n (To known.BehindKey) text expectation.key s e r (states, forms) goes
label_stands n expectation.behind_key s text e r h goes = let w : unexpected ≡ reads e r = h in cc
label_stands n (expectation.flag names) s text e r h goes = refl
label_stands n (expectation.behind_flag names) s text e r h goes = let w : unexpected ≡ reads e r = h in cc

-- a class other than that of labels, of which a token is read, may stand
other_stands : (n : ℕ) (d : Expectation) (s : List StackSymbol) (c : lex.Token) (text : List ℕ) (e : Expectation) (r : List StackSymbol) → c ≢ LabelOrKeyword → step n d s (token_of c text) ≡ reads e r → GoesOn n e r → Stands n d s c
other_stands n d s c text e r apart h goes =
    let m = next_move (expected_of d) (innermost s) (n - length s) c (sample_start c) in
    goes_on_only n m text d s e r (subst (IsMove m text d s) h (move_is_step n d s c text (sample_start c) (begins_so c text apart))) goes

-- a class of which a token goes on with tokens that lead somewhere may stand
follows_stands : (n : ℕ) (tokens : List Token) (d : Expectation) (s : List StackSymbol) (c : lex.Token) → Shifts n expectation.value [] tokens d s → MayFollow n tokens c → Stands n d s c
follows_stands n tokens d s c led (text, is, viable) = let (e, r, h, goes) = viable_then n tokens d s (token_of c text) led viable in which c h goes
  where
    which : {e : Expectation} {r : List StackSymbol} → (k : lex.Token) → step n d s (token_of k text) ≡ reads e r → GoesOn n e r → Stands n d s k
    which {e} {r} LabelOrKeyword h goes = label_stands n d s text e r h goes
    which {e} {r} k h goes = other_stands n d s k text e r (λ w. cc) h goes

-- ---- where the code stands

-- the token is read
abbrev pub is_read : Move → Bool
is_read Refused = false
is_read _ = true

-- a class that may stand, by the code's steps
abbrev pub may_stand : State → List Form → ℕ → lex.Token → Bool
may_stand d fs n c = is_read (move_at d (stack_of fs) n c (sample_start c))

read_goes : (m : Move) (left : ℕ) → is_read (going_on m left) ≡ goes_on m left
read_goes m left = by m
  where
    kept : (b : Bool) (k : Move) → is_read k ≡ true → is_read (if b then k else Refused) ≡ b
    kept true k h = h
    kept false k h = refl

    by : (k : Move) → is_read (going_on k left) ≡ goes_on k left
    by (To x) = kept (goes_on (To x) left) (To x) refl
    by (Open f x) = kept (goes_on (Open f x) left) (Open f x) refl
    by (Close x) = kept (goes_on (Close x) left) (Close x) refl
    by Refused = refl

-- a class may stand by the code exactly where one of its tokens goes on with the tokens
pub may_follow : (n : ℕ) (tokens : List Token) (d : State) (fs : List Form) (ns : Names) (c : lex.Token) → IsAfter n tokens d fs ns → (may_stand d fs n c ≡ true) ↔ MayFollow n tokens c
may_follow n tokens d fs ns c (inl led) = (
  λ stands. stands_follows n tokens d' s c led.leads (sym (read_goes m (n - length s)) ∙ (sym same ∙ stands)),
  λ follows. same ∙ (read_goes m (n - length s) ∙ follows_stands n tokens d' s c led.leads follows),
)
  where
    d' : Expectation
    d' = led.expected_there

    s : List StackSymbol
    s = led.open_there

    m : Move
    m = next_move (expected_of d') (innermost s) (n - length s) c (sample_start c)

    same : may_stand d fs n c ≡ is_read (move_at (expected_of d') s n c (sample_start c))
    same = ap (λ z. is_read (move_at z (stack_of fs) n c (sample_start c))) led.state ∙ ap (λ z. is_read (move_at (expected_of d') z n c (sample_start c))) led.forms
may_follow n tokens d fs ns c (inr (nothing, never)) = (
  λ stands. let w : false ≡ true = subst (λ z. may_stand z fs n c ≡ true) nothing stands in cc,
  λ follows. let (text, is, viable) = follows in absurd (never (begins_viable n tokens (token_of c text) viable)),
)

-- ---- the label `a`

-- it is no keyword
no_keyword : (ty : NodeType) → IsAlone LabelOrKeyword (codes "a") ty → ⊥
no_keyword node.BoolTrue h = let w : case_word ≡ leaf_word = h.0 in cc
no_keyword node.BoolFalse h = let w : case_word ≡ leaf_word = h.0 in cc
no_keyword node.Number h = let w : case_word ≡ leaf_word = h.0 in cc
no_keyword node.OptionNone h = let w : case_word ≡ none_word = h in cc
no_keyword ty h = h

-- but a case
is_case : (alone with : NodeType) → IsLabelWord alone with (codes "a") → starts.Label alone with ≡ sample_start LabelOrKeyword
is_case node.ResultOk node.ResultOk h = let w : case_word ≡ ok_word = h in cc
is_case node.ResultErr node.ResultErr h = let w : case_word ≡ err_word = h in cc
is_case node.Label node.VariantWithPayload h = refl
is_case alone with h = absurd h

-- with this text a token of any class begins a value as the sample does
pub begins_as_sample : (c : lex.Token) (start : ValueStart) → IsValueStart c (codes "a") start → start ≡ sample_start c
begins_as_sample Number (starts.Alone ty) h = ap starts.Alone h
begins_as_sample Char (starts.Alone ty) h = ap starts.Alone h
begins_as_sample String (starts.Alone ty) h = ap starts.Alone h
begins_as_sample MultilineString (starts.Alone ty) h = ap starts.Alone h
begins_as_sample LabelOrKeyword (starts.Alone ty) h = absurd (no_keyword ty h)
begins_as_sample c (starts.Alone ty) h = absurd h
begins_as_sample c starts.Some h = let w : case_word ≡ some_word = h.1 in cc
begins_as_sample c (starts.Label alone with) h = is_case alone with h.1 ∙ sym (ap sample_start h.0)
begins_as_sample c starts.Paren h = sym (ap sample_start h)
begins_as_sample c starts.Bracket h = sym (ap sample_start h)
begins_as_sample c starts.Brace h = sym (ap sample_start h)
begins_as_sample BraceClose starts.Nothing h = refl
begins_as_sample ParenClose starts.Nothing h = refl
begins_as_sample BracketClose starts.Nothing h = refl
begins_as_sample Colon starts.Nothing h = refl
begins_as_sample Comma starts.Nothing h = refl
begins_as_sample c starts.Nothing h = absurd h

-- the answer to the sample says whether the class may stand
answered : (d : State) (fs : List Form) (n : ℕ) (c : lex.Token) (m : Move) → ((start : ValueStart) × IsValueStart c (codes "a") start × (m ≡ move_at d (stack_of fs) n c start)) → may_stand d fs n c ≡ is_read m
answered d fs n c m (start, begins, is) = sym (ap is_read is ∙ ap (λ z. is_read (move_at d (stack_of fs) n c z)) (begins_as_sample c start begins))

-- it may not where it is refused
pub left_out : (d : State) (fs : List Form) (n : ℕ) (c : lex.Token) (m : Move) → ((start : ValueStart) × IsValueStart c (codes "a") start × (m ≡ move_at d (stack_of fs) n c start)) → m ≡ Refused → may_stand d fs n c ≡ false
left_out d fs n c m answer refused = answered d fs n c m answer ∙ ap is_read refused

-- it may where it isn't
pub let_in : (d : State) (fs : List Form) (n : ℕ) (c : lex.Token) (m : Move) → ((start : ValueStart) × IsValueStart c (codes "a") start × (m ≡ move_at d (stack_of fs) n c start)) → (m ≡ Refused → ⊥) → may_stand d fs n c ≡ true
let_in d fs n c m answer read = answered d fs n c m answer ∙ is_read_there m read
  where
    is_read_there : (k : Move) → (k ≡ Refused → ⊥) → is_read k ≡ true
    is_read_there (To x) apart = refl
    is_read_there (Open f x) apart = refl
    is_read_there (Close x) apart = refl
    is_read_there Refused apart = absurd (apart refl)

-- ---- the end

-- where the code says so a value may end
ends_so : (d : Expectation) (fs : List Form) → MayEnd (expected_of d) fs → EndsBefore d [] × (fs ≡ [])
ends_so expectation.behind_value fs h = (tt, h)
ends_so expectation.behind_label fs h = ((λ more w. cc), h)
ends_so d fs h = absurd h

so_ends : (d : Expectation) (fs : List Form) → EndsBefore d [] → fs ≡ [] → MayEnd (expected_of d) fs
so_ends expectation.behind_value fs h k = k
so_ends expectation.behind_label fs h k = k
so_ends d fs h k = absurd h

-- forms are open where some are
none_open : (fs : List Form) → stack_of fs ≡ [] → fs ≡ []
none_open [] e = refl
none_open (f ∷ fs) e = let same = ap length e in absurd (omega (arith, length-append (stack_of fs) (symbol_of f ∷ [])))

-- the tokens are a value exactly where the code may end
pub may_end : (n : ℕ) (tokens : List Token) (d : State) (fs : List Form) (ns : Names) → IsAfter n tokens d fs ns → MayEnd d fs ↔ AreAValue n tokens
may_end n tokens d fs ns (inl led) = (
  λ stands. let (ends, none) = ends_so led.expected_there fs (subst (λ z. MayEnd z fs) led.state stands) in ends_value n tokens led.expected_there led.open_there led.leads ends (sym led.forms ∙ ap stack_of none),
  λ value. let (ends, none) = value_ends n tokens led.expected_there led.open_there led.leads value in subst (λ z. MayEnd z fs) (sym led.state) (so_ends led.expected_there fs ends (none_open fs (led.forms ∙ none))),
)
may_end n tokens d fs ns (inr (nothing, never)) = (
  λ stands. absurd (subst (λ z. MayEnd z fs) nothing stands),
  λ value. let (t, h) = value in absurd (never ([], t, subst (λ z. Takes n z t []) (sym (append-nil tokens)) h)),
)
