use Rattle.std.proofs.Common.{◌∙◌, [], ap}
use Rattle.wave_type.specs.Private.TypeTokens.{texts_of}
use Rattle.wave_type.specs.TypeFaults.{expected_of_type}
use Rattle.wave_type.specs.TypeSpelling.{Spells}
use Rattle.wave_type.proofs.TypeFaults.WholeTexts.{text_spells, text_fault, no_type_of}
use Rattle.wave_type.proofs.ty.Type.parse_within.Goals as goal

pub returns-in-Ok-whole_type-clause-spelled : goal.returns-in-Ok-whole_type-clause-spelled
returns-in-Ok-whole_type-clause-spelled c =
    text_spells c.args.text.now c.in-Ok.tokens.items c.new-reader.result c.in-Ok.ensures (c.new-reader.ensures ∙ ap texts_of c.as_slice.ensures.value) (λ ts. Spells c.in-Ok-whole_type.ty ts []) c.in-Ok-whole_type.ensures.spelled

pub returns-clause-refused : goal.returns-clause-refused
returns-clause-refused c =
    no_type_of c.args.text.now c.in-Ok.tokens.items c.new-reader.result c.in-Ok.ensures (c.new-reader.ensures ∙ ap texts_of c.as_slice.ensures.value) c.in-Err-whole_type.kind c.whole_type.new.reader c.count.result c.refusal.result c.count.ensures c.refusal.ensures.stands c.args.levels c.in-Err-whole_type.ensures.refused

pub returns-clause-fault : goal.returns-clause-fault
returns-clause-fault c =
    text_fault c.args.text.now c.in-Ok.tokens.items c.new-reader.result c.in-Ok.ensures (c.new-reader.ensures ∙ ap texts_of c.as_slice.ensures.value) c.in-Err-whole_type.kind c.whole_type.new.reader c.count.result c.refusal.result c.count.ensures c.refusal.ensures.stands (expected_of_type c.args.levels) c.in-Err-whole_type.ensures.refused
