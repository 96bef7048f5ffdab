-- What the arguments after the program's name ask for.
use Rattle.std.specs.Prelude.{ℕ, true, false, List, [], ◌∷◌, ◌++◌, ◌≡◌, ◌≢◌, ◌⊎◌, Some, codes}
use Rattle.wave_grammar.specs.NumberText.{all_digits}
use Rattle.wave_tree.specs.ParserState.{IsLimit}
use Rattle.wave.specs.declared.request.Request.{Request}
use Rattle.wave.specs.declared.request.Request.TheVariants.{Value, Call, CallAt, Read}
use Rattle.wave.specs.Options.{is_by_lines, plain}
use Rattle.wave.specs.Types.{NamesType, NamesFunction}

-- the word has no leading zero
abbrev pub HasNoLeadingZero : List ℕ → Type 0
HasNoLeadingZero [] = Unit {0}
HasNoLeadingZero (digit ∷ digits) = digit ≢ 48

-- the word is n in decimal digits, a limit of levels, without a leading zero
abbrev pub IsLimitWord : List ℕ → ℕ → Type 0
IsLimitWord word n = (all_digits word ≡ Some n) × HasNoLeadingZero word × IsLimit n

-- these arguments stand alone, and n is 100; or after them stands one that is n
abbrev pub SayLimit : List (List ℕ) → List (List ℕ) → ℕ → Type 0
SayLimit words prefix n = (words ≡ prefix) × (n ≡ 100) ⊎ ((word : List ℕ) × (words ≡ prefix ++ word ∷ []) × IsLimitWord word n)

-- the arguments make the request
abbrev pub AreWordsOf : Request → List (List ℕ) → Type 0
AreWordsOf (Value n) words = SayLimit words (codes "value" ∷ []) n
AreWordsOf Call words = words ≡ codes "call" ∷ []
AreWordsOf (CallAt f) words = (word : List ℕ) × (words ≡ codes "call" ∷ word ∷ []) × NamesFunction word f
AreWordsOf (Read T n) words = (word : List ℕ) × SayLimit words (codes "read" ∷ word ∷ []) n × NamesType word T

-- but for the options, the arguments make the request; of which the whole input is the text
abbrev pub AskFor : Request → List (List ℕ) → Type 0
AskFor request words = AreWordsOf request (plain words) × (is_by_lines words ≡ false)

-- or each line of the input
abbrev pub AskByLines : Request → List (List ℕ) → Type 0
AskByLines request words = AreWordsOf request (plain words) × (is_by_lines words ≡ true)

-- the arguments have a type, or the type of a function, by a name or its text
abbrev pub HaveType : List (List ℕ) → Type 0
HaveType words =
    ((word : List ℕ) × (n : ℕ) × SayLimit words (codes "read" ∷ word ∷ []) n)
    ⊎ ((word : List ℕ) × (words ≡ codes "call" ∷ word ∷ []))

-- they have one, but for the options
abbrev pub AskForType : List (List ℕ) → Type 0
AskForType words = HaveType (plain words)

-- but for the options, the arguments make no request
abbrev pub AreUnknown : List (List ℕ) → Type 0
AreUnknown words = (request : Request) → AreWordsOf request (plain words) → ⊥
