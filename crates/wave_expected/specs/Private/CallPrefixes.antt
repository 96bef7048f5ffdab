-- How the tokens behind the name of a function begin, and what may stand there by what may stand in a tuple.
use Rattle.std.specs.Prelude.{Bool, true, false, List, [], ◌∷◌, ◌++◌, map}
use Rattle.wave_lex.specs.declared.lex.Token as lex
use Rattle.wave_lex.specs.declared.lex.Token.TheVariants.{ParenOpen, ParenClose}
use Rattle.wave_expected.specs.declared.expected.call.CallPrefix.{CallPrefix}
use Rattle.wave_expected.specs.declared.expected.call.CallPrefix.TheVariants.{Nothing, Other, Open, NoParams, Params}
use Rattle.wave_expected.specs.Expected.{Placed}

-- the classes of tokens
abbrev pub classes_of : List Placed → List lex.Token
classes_of tokens = map (λ p. p.0) tokens

-- how tokens go on behind a `(`
abbrev pub prefix_behind : List lex.Token → CallPrefix
prefix_behind [] = Open
prefix_behind (ParenClose ∷ []) = NoParams
prefix_behind _ = Params

-- how tokens of these classes begin
abbrev pub prefix_of : List lex.Token → CallPrefix
prefix_of [] = Nothing
prefix_of (ParenOpen ∷ more) = prefix_behind more
prefix_of (c ∷ more) = Other

-- the classes that may stand in a call, by those that may stand in a tuple
abbrev pub classes_in_call : CallPrefix → List lex.Token → List lex.Token
classes_in_call Nothing classes = ParenOpen ∷ []
classes_in_call Other classes = []
classes_in_call Open classes = classes ++ ParenClose ∷ []
classes_in_call NoParams classes = classes
classes_in_call Params classes = classes

-- whether a call may end, by whether a tuple may
abbrev pub end_in_call : CallPrefix → Bool → Bool
end_in_call NoParams may_end = true
end_in_call Params may_end = may_end
end_in_call _ may_end = false
