use Rattle.wave_grammar.proofs.Numbers.Narrow.{no_s8}
use Rattle.wave_grammar.proofs.number.I8WholeNumber.from_text.Goals as goal

pub returns-in_err-signed : goal.returns-in_err-signed
returns-in_err-signed c = rw c.from_residual.ensures (no_s8 c.args.text.now (rw c.in_err-signed.was at c.signed.ensures))
