use Rattle.wave_lex.proofs.RegularShapes.LabelWords.{labels_are_words, label_tokens_are_labels}
use Rattle.wave_lex.proofs.laws.labels_are_words.Goals as goal

pub returns-clause-words : goal.returns-clause-words
returns-clause-words c = labels_are_words

pub returns-clause-tokens : goal.returns-clause-tokens
returns-clause-tokens c = label_tokens_are_labels
