use Rattle.wave_grammar.proofs.Equivalence.NameOrder.{fields_in_any_order, flags_in_any_order}
use Rattle.wave_grammar.proofs.laws.order_means_nothing.Goals as goal

pub returns-clause-fields : goal.returns-clause-fields
returns-clause-fields c = fields_in_any_order

pub returns-clause-flags : goal.returns-clause-flags
returns-clause-flags c = flags_in_any_order
