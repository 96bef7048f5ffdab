use Rattle.wave_grammar.proofs.Elaboration.GrammarToTree.{through}
use Rattle.wave_grammar.proofs.Elaboration.TreeToGrammar.{back}
use Rattle.wave_grammar.proofs.laws.reading_is_by_tree.Goals as goal

pub returns-clause-through : goal.returns-clause-through
returns-clause-through c = λ T n tokens rest v ends h. through T n tokens v rest h ends

pub returns-clause-back : goal.returns-clause-back
returns-clause-back c = λ T n tokens rest t v h k. back T n tokens t v rest h k
