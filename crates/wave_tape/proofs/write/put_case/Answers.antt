use Rattle.std.proofs.Common.{codes}
use Rattle.std.specs.String.{string_bytes}
use Rattle.wave_writer.proofs.CanonicalText.Labels.{keyword_labelled, name_labelled}
use Rattle.wave_tape.proofs.WrittenReadings.{pushed, pushed_behind}
use Rattle.wave_tape.proofs.write.put_case.Goals as goal

pub returns-in-None : goal.returns-in-None
returns-in-None c =
    rw (name_labelled _ _ c.decode.ensures c.in-None.is)
    (pushed (string_bytes c.args.out.now) (string_bytes c.push_str-in-None.new.self) c.args.name.now c.push_str-in-None.result c.push_str-in-None.ensures.bytes)

pub returns-in_ok-push_str-in-Some : goal.returns-in_ok-push_str-in-Some
returns-in_ok-push_str-in-Some c =
    rw (keyword_labelled _ _ _ c.decode.ensures c.in-Some.is)
    (pushed_behind (string_bytes c.args.out.now) _ (string_bytes c.push_str-in-Some.new.self) (codes "%") c.args.name.now c.push_str-in-Some.result c.in_ok-push_str-in-Some.ensures.bytes c.push_str-in-Some.ensures.bytes)
