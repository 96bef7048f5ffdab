use Rattle.wave_type.proofs.TypeReading.SpelledNames.{text_labelled, function_text_labelled}
use Rattle.wave_type.proofs.laws.spelled_names_are_labels.Goals as goal

pub returns-clause-types : goal.returns-clause-types
returns-clause-types c = text_labelled

pub returns-clause-functions : goal.returns-clause-functions
returns-clause-functions c = function_text_labelled
