-- Items that commas join, between two marks.
use Rattle.std.specs.Prelude.{List, [], ◌∷◌, ◌≡◌, ◌⊎◌}
use Rattle.wave_grammar.specs.Token.{Token, comma}

-- what may spell an a at the start of tokens, and what is left after it
abbrev pub Spelling : Type 0 → Type 1
Spelling A = List Token → A → List Token → Type 0

-- the close, or a comma and the close
abbrev pub Closes : Token → List Token → List Token → Type 0
Closes close tokens rest = (tokens ≡ close ∷ rest) ⊎ (tokens ≡ comma ∷ close ∷ rest)

-- what stands after an item: each further item after its comma, then the close
abbrev pub FurtherItems : {A : Type 0} → Token → Spelling A → List Token → List A → List Token → Type 0
FurtherItems close Item tokens [] rest = Closes close tokens rest
FurtherItems close Item tokens (a ∷ more) rest =
    (prefix : List Token) × (behind : List Token) × (tokens ≡ comma ∷ prefix) × Item prefix a behind × FurtherItems close Item behind more rest

-- the items and the close
abbrev pub Items : {A : Type 0} → Token → Spelling A → List Token → List A → List Token → Type 0
Items close Item tokens [] rest = tokens ≡ close ∷ rest
Items close Item tokens (a ∷ more) rest = (behind : List Token) × Item tokens a behind × FurtherItems close Item behind more rest

-- the open, the items and the close
abbrev pub Listed : {A : Type 0} → Token → Token → Spelling A → List Token → List A → List Token → Type 0
Listed open_mark close Item tokens items rest = (inside : List Token) × (tokens ≡ open_mark ∷ inside) × Items close Item inside items rest
