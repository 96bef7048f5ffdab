use Rattle.wave_grammar.proofs.RoundTrip.ReadsBack.{equal_texts, reads_back, reads_back_within_twice, text_means}
use Rattle.std.proofs.Common.{string_bytes}
use Rattle.wave_writer.proofs.CanonicalText.Writable.{refused_so}
use Rattle.wasm_wave.proofs.MainTheorem.{text_written, writing_refused}
use Rattle.wasm_wave.proofs.to_string.Goals as goal

pub returns-clause-text : goal.returns-clause-text
returns-clause-text g c = text_written string_bytes (g.V.WasmValue.tree c.args.val.now) c.to_string.result c.to_string.ensures.ok c.to_string.ensures.writable

pub returns-clause-refused : goal.returns-clause-refused
returns-clause-refused g c =
    let v = g.V.WasmValue.tree c.args.val.now in
    let r = c.to_string.result in
    writing_refused v r c.to_string.ensures.err (refused_so v r c.to_string.ensures.err)

pub returns-clause-equal : goal.returns-clause-equal
returns-clause-equal g c = λ T labelled of other also. equal_texts T labelled _ other of also

pub returns-clause-back : goal.returns-clause-back
returns-clause-back g c = λ T labelled representable of. reads_back T labelled representable _ of

pub returns-clause-again : goal.returns-clause-again
returns-clause-again g c = λ T n back low. text_means T n _ back low

pub returns-clause-twice : goal.returns-clause-twice
returns-clause-twice g c = λ T labelled representable. reads_back_within_twice T labelled representable
