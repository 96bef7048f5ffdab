-- What `a == b` and `a != b` say of two classes of tokens.
use Rattle.std.proofs.Common.{◌≡◌, ◌≢◌, ◌∙◌, sym, Bool, true, false, rules}
use Rattle.std.specs.Prelude.{not}
use denote.Enum.Bare.{sameb, same_true, same_false, differs_true, differs_false}
use Rattle.wave_lex.specs.declared.lex.Token.{Token}
use Rattle.wave_lex.specs.contracts.lex.Token.{the_type}

pub is_class : (a b : Token) {r : Bool} → r ≡ sameb the_type a b → r ≡ true → a ≡ b
is_class a b answer is = same_true the_type (search rules) a b (sym answer ∙ is)

pub is_other : (a b : Token) {r : Bool} → r ≡ sameb the_type a b → r ≡ false → a ≢ b
is_other a b answer is = same_false the_type a b (sym answer ∙ is)

pub differs : (a b : Token) {r : Bool} → r ≡ not (sameb the_type a b) → r ≡ true → a ≢ b
differs a b answer is = differs_true the_type a b (sym answer ∙ is)

pub differs_not : (a b : Token) {r : Bool} → r ≡ not (sameb the_type a b) → r ≡ false → a ≡ b
differs_not a b answer is = differs_false the_type (search rules) a b (sym answer ∙ is)
