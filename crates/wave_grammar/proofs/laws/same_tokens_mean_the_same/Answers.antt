use Rattle.wave_grammar.proofs.Equivalence.ByTree.{same_tokens, same_tree}
use Rattle.wave_grammar.proofs.laws.same_tokens_mean_the_same.Goals as goal

pub returns-clause-tokens : goal.returns-clause-tokens
returns-clause-tokens c = same_tokens

pub returns-clause-tree : goal.returns-clause-tree
returns-clause-tree c = same_tree
