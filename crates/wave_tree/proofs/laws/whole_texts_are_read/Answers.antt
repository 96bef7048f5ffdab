use Rattle.wave_tree.proofs.TextReading.TypedTexts.{whole_text, whole_tree}
use Rattle.wave_tree.proofs.laws.whole_texts_are_read.Goals as goal

pub returns-clause-typed : goal.returns-clause-typed
returns-clause-typed g c = whole_text g.V.WasmValue.tree g.V.WasmValue.is_of g.V.WasmValue.is_full

pub returns-clause-untyped : goal.returns-clause-untyped
returns-clause-untyped g c = whole_tree
