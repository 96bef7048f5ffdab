use Rattle.std.proofs.Common.{◌≡◌, Some, sym, ap, ◌∙◌}
use Rattle.std.specs.Option.{option_map}
use Rattle.wave_type.specs.Private.TypeReading.{name_at}
use Rattle.wave_type.proofs.TypeReading.PartSteps.{has_one, has_more, name_new}
use Rattle.wave_type.proofs.TypeReading.ReaderSteps.{name_found, repeated}
use Rattle.wave_type.proofs.reader.Reader.new_name.Goals as goal

pub returns-then-not-branch-clause-refused : goal.returns-then-not-branch-clause-refused
returns-then-not-branch-clause-refused c = λ names h.
    let name = c.in-Some-name_of_token.name in
    let named : name_at c.args.self.now ≡ Some name.now = name_found c.args.self.now c.in-Some.token.now name.now (ap (option_map (λ t. t.now)) (sym c.in-Some.is) ∙ c.next.ensures) (ap (option_map (λ t. t.now)) (sym c.in-Some-name_of_token.is) ∙ c.name_of_token.ensures) in
    repeated names c.args.self.now name.now named (has_one c.args.taken.now names name c.in_ok-insert.field-0 h c.in_ok-insert.ensures.added ∙ cc)

pub returns-clause-read : goal.returns-clause-read
returns-clause-read c = λ names h.
    let name = c.in-Some-name_of_token.name in
    let named : name_at c.args.self.now ≡ Some name.now = name_found c.args.self.now c.in-Some.token.now name.now (ap (option_map (λ t. t.now)) (sym c.in-Some.is) ∙ c.next.ensures) (ap (option_map (λ t. t.now)) (sym c.in-Some-name_of_token.is) ∙ c.name_of_token.ensures) in
    name_new names c.args.self.now name.now named (has_one c.args.taken.now names name c.in_ok-insert.field-0 h c.in_ok-insert.ensures.added ∙ cc) ∙ ap (λ ts. Some (name.now, ts)) (sym c.skip.ensures)

pub returns-clause-added : goal.returns-clause-added
returns-clause-added c = λ names h.
    has_more c.args.taken.now c.insert.new.self names c.in-Some-name_of_token.name h c.in_ok-insert.ensures.updates
