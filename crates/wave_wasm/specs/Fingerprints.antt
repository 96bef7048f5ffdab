-- Numbers that are made of texts.
use Rattle.std.specs.Prelude.{ℕ, List}
use Rattle.std.specs.Hash.FoldHasher.{initial, write, finish}

-- the number that is made of the text
unfoldable pub fingerprint : List ℕ → ℕ
fingerprint text = finish (write initial text)
