-- What the items of a lexer are together.
use Rattle.std.specs.Prelude.{◌≡◌, ℕ, ◌↔◌, List, [], ◌∷◌, Option, Some, None, Ok, Err, slice_range}
use Rattle.std.specs.declared.ops.Range.{Range}
use Rattle.wave_lex.specs.Tokenization.{Lexeme, Tokenizes, Lexed, NextIs, remainder_of}

-- the tokens that came, with their texts, up to None or up to an invalid one
abbrev pub ComeTo : Lexed → List Lexeme → Option (Range ℕ) → Type 0
ComeTo l [] None = (m : Lexed) × NextIs l m None
ComeTo l [] (Some bad) = (m : Lexed) × NextIs l m (Some (Err bad))
ComeTo l (t ∷ ts) end = (m : Lexed) × NextIs l m (Some (Ok t.0)) × (t.1 ≡ slice_range m.source m.start m.end) × ComeTo m ts end

-- the tokens that come up to None are those of the rest of the source; where an invalid one comes it isn't tokenized
abbrev pub TokensTokenize : Type 0
TokensTokenize = (l : Lexed) (ts : List Lexeme)
    → (ComeTo l ts None ↔ Tokenizes (remainder_of l) ts)
    × ((bad : Range ℕ) → ComeTo l ts (Some bad) → (us : List Lexeme) → Tokenizes (remainder_of l) us → ⊥)
