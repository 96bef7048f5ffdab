use Rattle.std.proofs.Common.{refl}
use Rattle.wave.proofs.Misused.{said_of, texts_first, none_first}
use Rattle.wave.proofs.misuse.misuse.Goals as goal

pub value_misuse-requires : goal.value_misuse-requires
value_misuse-requires c = none_first _ _ (texts_first _ _ _ _ _ c.in-Some.ensures.cases.0 c.as_str.ensures.value c.in-value.is) c.requires

pub returns-in-value : goal.returns-in-value
returns-in-value c = said_of c.value_misuse.result _ _ (texts_first _ _ _ _ _ c.in-Some.ensures.cases.0 c.as_str.ensures.value c.in-value.is) c.value_misuse.ensures

pub call_misuse-requires : goal.call_misuse-requires
call_misuse-requires c = none_first _ _ (texts_first _ _ _ _ _ c.in-Some.ensures.cases.0 c.as_str.ensures.value c.in-call.is) c.requires

pub returns-in-call : goal.returns-in-call
returns-in-call c = said_of c.call_misuse.result _ _ (texts_first _ _ _ _ _ c.in-Some.ensures.cases.0 c.as_str.ensures.value c.in-call.is) c.call_misuse.ensures

pub read_misuse-requires : goal.read_misuse-requires
read_misuse-requires c = none_first _ _ (texts_first _ _ _ _ _ c.in-Some.ensures.cases.0 c.as_str.ensures.value c.in-read.is) c.requires

pub returns-in-read : goal.returns-in-read
returns-in-read c = said_of c.read_misuse.result _ _ (texts_first _ _ _ _ _ c.in-Some.ensures.cases.0 c.as_str.ensures.value c.in-read.is) c.read_misuse.ensures

pub returns-in-help : goal.returns-in-help
returns-in-help c = said_of c.help_misuse.result _ _ (texts_first _ _ _ _ _ c.in-Some.ensures.cases.0 c.as_str.ensures.value c.in-help.is) c.help_misuse.ensures

pub returns-in-completions : goal.returns-in-completions
returns-in-completions c = said_of c.completions_misuse.result _ _ (texts_first _ _ _ _ _ c.in-Some.ensures.cases.0 c.as_str.ensures.value c.in-completions.is) c.completions_misuse.ensures

pub returns-in_default-as_str : goal.returns-in_default-as_str
returns-in_default-as_str c = said_of c.other_misuse.result _ _ (texts_first _ _ _ _ c.as_str.result.now c.in-Some.ensures.cases.0 c.as_str.ensures.value refl) c.other_misuse.ensures
