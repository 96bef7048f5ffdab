use Rattle.std.proofs.Common.{rules}
use Rattle.wave_wasm.specs.Borrowed.{texts}
use Rattle.wave_type.proofs.TypeFaults.TokenSteps.{names_fail}
use Rattle.wave_type.proofs.TypeReading.PartLoops.{part_fails, end_fails, all_read, more_left, name_next}
use Rattle.wave_type.proofs.TypeReading.PartSteps.{texts_more, has_texts}
use Rattle.wave_type.proofs.TypeReading.ReaderSteps.{answers_err}
use Rattle.wave_type.proofs.reader.Reader.names.Goals as goal

pub returns-in_err-name : goal.returns-in_err-name
returns-in_err-name c =
    let known = c.loop-part.invariant in
    let seen = texts c.loop-part.names.items in
    let kind = c.in_err-name.field-0.0 in
    answers_err _ _ kind _ _ _ _ (search rules) (part_fails known.left c.new_name.new.self kind (names_fail 0 c.args.mark.now seen c.loop-part.self c.new_name.new.self kind (c.in_err-name.ensures.refused seen known.names)))

pub returns-in_err-ends : goal.returns-in_err-ends
returns-in_err-ends c =
    let known = c.loop-part.invariant in
    let seen = texts c.loop-part.names.items in
    let next = name_next c.args.mark.now c.in_ok-name.name.now seen c.loop-part.self c.new_name.new.self (c.in_ok-name.ensures.read seen known.names) in
    let kind = c.in_err-ends.field-0.0 in
    answers_err _ _ kind _ _ _ _ (search rules) (end_fails known.left next c.ends.new.self kind c.in_err-ends.ensures.refused)

pub returns-then-branch : goal.returns-then-branch
returns-then-branch c =
    let known = c.loop-part.invariant in
    let seen = texts c.loop-part.names.items in
    let next = name_next c.args.mark.now c.in_ok-name.name.now seen c.loop-part.self c.new_name.new.self (c.in_ok-name.ensures.read seen known.names) in
    let all = texts_more c.loop-part.names.items c.push.new.self.items c.in_ok-name.name c.in_ok-push.ensures.items in
    all_read known.left next c.ends.new.self _ all c.in_ok-ends.field-0 c.in_ok-ends.ensures.taken c.if-branch.true

pub loop-part-preserved : goal.loop-part-preserved
loop-part-preserved c =
    let known = c.loop-part.invariant in
    let seen = texts c.loop-part.names.items in
    let next = name_next c.args.mark.now c.in_ok-name.name.now seen c.loop-part.self c.new_name.new.self (c.in_ok-name.ensures.read seen known.names) in
    let all = texts_more c.loop-part.names.items c.push.new.self.items c.in_ok-name.name c.in_ok-push.ensures.items in
    record {
      names = has_texts c.new_name.new.taken c.in_ok-name.name c.loop-part.names.items c.push.new.self.items c.in_ok-push.ensures.items (c.in_ok-name.ensures.added seen known.names);
      left = more_left known.left next c.ends.new.self _ all c.in_ok-ends.field-0 c.in_ok-ends.ensures.taken c.if-branch.false;
    }
