-- What each token does in the automaton over the tokens of a value, by the code's words.
use Rattle.std.specs.Prelude.{ℕ, ◌++◌, ◌-◌, List, [], ◌∷◌, length, Option, Some, None, Bool, true, false, if◌then◌else◌, nat_lt}
use Rattle.wave_lex.specs.declared.lex.Token as lex
use Rattle.wave_lex.specs.declared.lex.Token.TheVariants.{BraceClose, ParenOpen, ParenClose, BracketClose}
use Rattle.wave_lex.specs.declared.lex.Token.TheVariants.{Colon, Comma, Number, LabelOrKeyword, Char, String, MultilineString}
use Rattle.wave_grammar.specs.PrefixAutomaton as expectation
use Rattle.wave_grammar.specs.PrefixAutomaton.{Expectation, StackSymbol}
use Rattle.wave_tree.specs.declared.role.ValueStart.{ValueStart}
use Rattle.wave_tree.specs.declared.role.ValueStart.TheVariants as starts
use Rattle.wave_expected.specs.declared.expected.moves.State.{State}
use Rattle.wave_expected.specs.declared.expected.moves.State.TheVariants as known
use Rattle.wave_expected.specs.declared.expected.moves.Form.{Form}
use Rattle.wave_expected.specs.declared.expected.moves.Form.TheVariants as form
use Rattle.wave_expected.specs.declared.expected.moves.Move.{Move}
use Rattle.wave_expected.specs.declared.expected.moves.Move.TheVariants.{To, Open, Close, Refused}

-- ---- the table

-- where a value may stand
abbrev pub start_move : ValueStart → Move
start_move (starts.Alone ty) = To known.BehindValue
start_move starts.Some = To known.Paren
start_move (starts.Label alone with) = To known.BehindLabel
start_move starts.Paren = Open form.Tuple known.FirstItem
start_move starts.Bracket = Open form.List known.FirstItem
start_move starts.Brace = To known.InBraces
start_move starts.Nothing = Refused

-- where a value is expected, and this many levels are left
abbrev pub value_move : ℕ → ValueStart → Move
value_move left start = if nat_lt 0 left then start_move start else Refused

-- after a value within this form
abbrev pub behind_move : Option Form → lex.Token → Move
behind_move (Some form.Tuple) Comma = To known.NextItem
behind_move (Some form.Tuple) ParenClose = Close known.BehindValue
behind_move (Some form.List) Comma = To known.NextItem
behind_move (Some form.List) BracketClose = Close known.BehindValue
behind_move (Some form.Payload) ParenClose = Close known.BehindValue
behind_move (Some form.Entries) Comma = Close known.Key
behind_move (Some form.Entries) BraceClose = Close known.BehindValue
behind_move _ _ = Refused

-- in braces, where no value is expected
abbrev pub brace_move : State → lex.Token → Move
brace_move known.InBraces LabelOrKeyword = To known.BehindWord
brace_move known.InBraces Colon = To known.NoFields
brace_move known.InBraces Number = To known.BehindKey
brace_move known.InBraces Char = To known.BehindKey
brace_move known.InBraces String = To known.BehindKey
brace_move known.InBraces MultilineString = To known.BehindKey
brace_move known.InBraces BraceClose = To known.BehindValue
brace_move known.NoFields BraceClose = To known.BehindValue
brace_move known.BehindWord Colon = Open form.Entries known.Value
brace_move known.BehindWord Comma = To known.Flag
brace_move known.BehindWord BraceClose = To known.BehindValue
brace_move known.Key LabelOrKeyword = To known.BehindKey
brace_move known.Key Number = To known.BehindKey
brace_move known.Key Char = To known.BehindKey
brace_move known.Key String = To known.BehindKey
brace_move known.Key MultilineString = To known.BehindKey
brace_move known.Key BraceClose = To known.BehindValue
brace_move known.BehindKey Colon = Open form.Entries known.Value
brace_move known.Flag LabelOrKeyword = To known.BehindFlag
brace_move known.Flag BraceClose = To known.BehindValue
brace_move known.BehindFlag Comma = To known.Flag
brace_move known.BehindFlag BraceClose = To known.BehindValue
brace_move _ _ = Refused

-- what a token of this class does, where this is expected within this form
abbrev pub next_move : State → Option Form → ℕ → lex.Token → ValueStart → Move
next_move known.FirstItem (Some form.Tuple) left ParenClose start = Refused
next_move known.FirstItem (Some form.List) left BracketClose start = Close known.BehindValue
next_move known.NextItem (Some form.Tuple) left ParenClose start = Close known.BehindValue
next_move known.NextItem (Some form.List) left BracketClose start = Close known.BehindValue
next_move known.Value f left c start = value_move left start
next_move known.FirstItem f left c start = value_move left start
next_move known.NextItem f left c start = value_move left start
next_move known.BehindValue f left c start = behind_move f c
next_move known.BehindLabel f left ParenOpen start = Open form.Payload known.Value
next_move known.BehindLabel f left c start = behind_move f c
next_move known.Paren f left ParenOpen start = Open form.Payload known.Value
next_move d f left c start = brace_move d c

-- a value can end after the move, from where so many levels are left
abbrev pub goes_on : Move → ℕ → Bool
goes_on Refused left = false
goes_on (Open form.List d) left = true
goes_on (Open f d) left = nat_lt 1 left
goes_on (To known.Paren) left = nat_lt 1 left
goes_on (To known.BehindKey) left = nat_lt 1 left
goes_on (To d) left = true
goes_on (Close d) left = true

-- the move, where a value can end after it
abbrev pub going_on : Move → ℕ → Move
going_on moved left = if goes_on moved left then moved else Refused

-- ---- where the code stands

-- the code's word for what is expected
abbrev pub expected_of : Expectation → State
expected_of expectation.value = known.Value
expected_of expectation.first_item = known.FirstItem
expected_of expectation.next_item = known.NextItem
expected_of expectation.behind_value = known.BehindValue
expected_of expectation.behind_label = known.BehindLabel
expected_of expectation.paren = known.Paren
expected_of expectation.in_braces = known.InBraces
expected_of expectation.no_fields = known.NoFields
expected_of (expectation.behind_word text) = known.BehindWord
expected_of expectation.key = known.Key
expected_of expectation.behind_key = known.BehindKey
expected_of (expectation.flag names) = known.Flag
expected_of (expectation.behind_flag names) = known.BehindFlag

-- the automaton's word for a form
abbrev pub symbol_of : Form → StackSymbol
symbol_of form.Tuple = expectation.tuple
symbol_of form.List = expectation.list
symbol_of form.Payload = expectation.payload
symbol_of form.Entries = expectation.entries

-- the code's word for one
abbrev pub form_of : StackSymbol → Form
form_of expectation.tuple = form.Tuple
form_of expectation.list = form.List
form_of expectation.payload = form.Payload
form_of expectation.entries = form.Entries

-- the innermost form
abbrev pub innermost : List StackSymbol → Option Form
innermost [] = None
innermost (f ∷ s) = Some (form_of f)

-- these forms, the outermost first, are open
abbrev pub stack_of : List Form → List StackSymbol
stack_of [] = []
stack_of (f ∷ fs) = stack_of fs ++ symbol_of f ∷ []

-- what a token of this class does within these forms, on n levels in all, that begins a value so
abbrev pub move_at : State → List StackSymbol → ℕ → lex.Token → ValueStart → Move
move_at d s n c start = going_on (next_move d (innermost s) (n - length s) c start) (n - length s)
