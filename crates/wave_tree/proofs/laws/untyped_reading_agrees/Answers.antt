use Rattle.wave_grammar.proofs.Equivalence.ByTree.{means_by_tree}
use Rattle.wave_tree.proofs.TextReading.UntypedAgreement.{read_alike, refused_alike}
use Rattle.wave_tree.proofs.laws.untyped_reading_agrees.Goals as goal

pub returns-clause-tree : goal.returns-clause-tree
returns-clause-tree g c = means_by_tree

pub returns-clause-read : goal.returns-clause-read
returns-clause-read g c = read_alike g.V.WasmValue.tree g.V.WasmValue.is_of

pub returns-clause-refused : goal.returns-clause-refused
returns-clause-refused g c = refused_alike
