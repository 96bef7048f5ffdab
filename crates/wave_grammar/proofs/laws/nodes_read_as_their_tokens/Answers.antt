use Rattle.wave_grammar.proofs.NodeMeaning.AsTokens.{nodes_read_as_tokens}
use Rattle.wave_grammar.proofs.laws.nodes_read_as_their_tokens.Goals as goal

pub returns : goal.returns
returns c = nodes_read_as_tokens
