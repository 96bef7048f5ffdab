use Rattle.std.proofs.Common.{◌++◌, refl}
use Rattle.wave_lex.specs.Parts.{part_text, left_of}
use Rattle.wave_grammar.specs.Private.StringAssembly.{IsEnded}
use Rattle.wave_grammar.proofs.Strings.Assembly.{one_in_front, ended_gives_none}
use Rattle.wave_grammar.proofs.text.behind_run.Goals as goal

pub returns-in-Some : goal.returns-in-Some
returns-in-Some c =
    one_in_front (IsEnded (left_of c.args.parts.now)) ⊥ c.args.run.now (c.args.run.now ++ part_text c.in-Some.part) (left_of c.args.parts.now) (left_of c.part.new.self) c.in-Some.part c.args.place.now c.copied.result c.in-Some.ensures refl
    (ended_gives_none (left_of c.args.parts.now) (left_of c.part.new.self) c.in-Some.part c.in-Some.ensures) (λ never. absurd never) c.copied.ensures
