-- Which token spells which value of one token, and what a label's name is.
use Rattle.std.specs.Prelude.{ℕ, ℤ, ◌≡◌, ◌⊎◌, ◌==◌, Bool, if◌then◌else◌, List, [], ◌∷◌, Some}
use Rattle.wave_wasm.specs.Types as type
use Rattle.wave_wasm.specs.Types.{Simple}
use Rattle.wave_wasm.specs.Numbers.{IsInRange}
use Rattle.wave_wasm.specs.Values as value
use Rattle.wave_wasm.specs.Values.{Leaf}
use Rattle.wave_wasm.specs.Text.{bool_text}
use Rattle.wave_lex.specs.Strings.{CharMeans, StringMeans}
use Rattle.wave_lex.specs.Multiline.{MultilineMeans}
use Rattle.wave_grammar.specs.Token.{Token, number, label, char, string, multiline}
use Rattle.wave_grammar.specs.NumberText.{whole_text}

-- the name that a label stands for: without its `%`
abbrev pub name_of : List ℕ → List ℕ
name_of [] = []
name_of (b ∷ more) = if b == 37 then more else b ∷ more

-- the token spells the value of the simple type
abbrev pub Spells : Simple → Token → Leaf → Type 0
Spells type.bool token v = (b : Bool) × (token ≡ label (bool_text b)) × (v ≡ value.bool b)
Spells (type.whole kind) token v =
    (text : List ℕ) × (z : ℤ) × (token ≡ number text) × (whole_text kind text ≡ Some z) × IsInRange kind z × (v ≡ value.whole kind z)
Spells type.char token v = (text : List ℕ) × (c : ℕ) × (token ≡ char text) × CharMeans text c × (v ≡ value.char c)
Spells type.string token v =
    (text : List ℕ) × (s : List ℕ) × ((token ≡ string text) × StringMeans text s ⊎ (token ≡ multiline text) × MultilineMeans text s) × (v ≡ value.string s)
