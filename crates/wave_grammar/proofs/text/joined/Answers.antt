use Rattle.std.proofs.Common.{[], refl, Some, Ok}
use Rattle.wave_lex.specs.Parts.{part_text, left_of, LinePartIs}
use Rattle.wave_lex.specs.declared.strings.StringPart.TheVariants.{Run, Char}
use Rattle.wave_grammar.specs.Private.StringAssembly.{IsEnded}
use Rattle.wave_grammar.specs.StringAssembly.{IsUncopied}
use Rattle.wave_grammar.proofs.Strings.Assembly.{one_in_front, char_is_copied, uncopied_ends, ended_uncopied}
use Rattle.wave_grammar.proofs.text.joined.Goals as goal

pub returns-in-Some-Run : goal.returns-in-Some-Run
returns-in-Some-Run c =
    let step : LinePartIs (left_of c.args.parts) (Some (Ok (Run c.in-Some-Run.run'))) (left_of c.part.new.self) = rw c.in-Some-Run.field-0-is at c.in-Some-Run.ensures in
    one_in_front (IsUncopied (left_of c.args.parts)) (IsEnded (left_of c.part.new.self)) [] c.in-Some-Run.run'.now (left_of c.args.parts) (left_of c.part.new.self) (Run c.in-Some-Run.run') c.args.place.now c.behind_run.result step refl
    (uncopied_ends (left_of c.args.parts) (left_of c.part.new.self) c.in-Some-Run.run' step) (ended_uncopied (left_of c.args.parts) (left_of c.part.new.self) c.in-Some-Run.run' step) c.behind_run.ensures

pub returns-in-Some-Char : goal.returns-in-Some-Char
returns-in-Some-Char c =
    let step : LinePartIs (left_of c.args.parts) (Some (Ok (Char c.in-Some-Char.c))) (left_of c.part.new.self) = rw c.in-Some-Char.field-0-is at c.in-Some-Char.ensures in
    one_in_front (IsUncopied (left_of c.args.parts)) ⊥ [] (part_text (Char c.in-Some-Char.c)) (left_of c.args.parts) (left_of c.part.new.self) (Char c.in-Some-Char.c) c.args.place.now c.copied.result step refl
    (char_is_copied (left_of c.args.parts) (left_of c.part.new.self) c.in-Some-Char.c step) (λ never. absurd never) c.copied.ensures
