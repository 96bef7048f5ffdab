-- Which word stands for which type.
use Rattle.std.specs.Prelude.{ℕ, ◌≤◌, List, [], ◌∷◌, if◌then◌else◌, codes}
use Rattle.std.specs.Str.{bytes_eq}
use Rattle.wave_wasm.specs.Lists.{AllOf}
use Rattle.wave_wasm.specs.Types.{TypeTree}
use Rattle.wave_wasm.specs.Values.{Value}
use Rattle.wave_wasm.specs.HasType.{HasType}
use Rattle.wave_type.specs.FunctionSpelling.{IsFunctionOf, levels_of_function}
use Rattle.wave_type.specs.FunctionType.{FunctionType, types_of}
use Rattle.wave_type.specs.TypeSpelling.{IsTypeOf, levels_of}

-- the samples: their names, and the texts of their types
abbrev pub samples : List (List ℕ × List ℕ)
samples =
    (codes "bytes", codes "list<u8>")
    ∷ (codes "perms", codes "flags { read, write, exec }")
    ∷ (codes "status", codes "enum { ok, not-found }")
    ∷ (codes "response", codes "variant { empty, body(list<u8>), err(string) }")
    ∷ (codes "example", codes "record { must-have: u8, optional: option<u8> }")
    ∷ (codes "counts", codes "map<string, u32>")
    ∷ (codes "quad", codes "list<u8, 4>")
    ∷ []

-- the text of the sample of this name among them, or the word itself
abbrev pub text_among : List (List ℕ × List ℕ) → List ℕ → List ℕ
text_among [] word = word
text_among (sample ∷ more) word = if bytes_eq word sample.0 then sample.1 else text_among more word

-- the text for which the word stands
abbrev pub text_of : List ℕ → List ℕ
text_of word = text_among samples word

-- the type has a value
abbrev pub HasValue : TypeTree → Type 0
HasValue T = (v : Value) × HasType T v

-- the word stands for the text of the type, in which at most 100 types stand one inside another, and which has a value
abbrev pub NamesType : List ℕ → TypeTree → Type 0
NamesType word T = IsTypeOf (text_of word) T × (levels_of T ≤ 100) × HasValue T

-- the word is the text of the type of the function, in which at most 100 types stand one inside another; the type of each parameter has a value
abbrev pub NamesFunction : List ℕ → FunctionType → Type 0
NamesFunction word f = IsFunctionOf word f × (levels_of_function f ≤ 100) × AllOf HasValue (types_of f.params)
