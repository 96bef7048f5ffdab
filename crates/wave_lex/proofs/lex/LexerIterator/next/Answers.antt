use Rattle.wave_lex.proofs.Tokenization.NextToken.{item_goes}
use Rattle.wave_lex.proofs.lex.LexerIterator.next.Goals as goal

pub returns-clause-goes : goal.returns-clause-goes
returns-clause-goes c = rw c.item.ensures (item_goes _ (λ _. tt) _ _ c.advance-taken.result c.advance-taken.ensures)
