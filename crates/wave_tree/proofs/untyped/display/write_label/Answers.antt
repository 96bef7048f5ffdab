use Rattle.std.proofs.Common.{sym}
use Rattle.std.proofs.Output.{has_written_of_eq}
use Rattle.wave_writer.proofs.CanonicalText.Labels.{name_labelled}
use Rattle.wave_tree.proofs.untyped.display.write_label.Goals as goal

pub returns-in-None : goal.returns-in-None
returns-in-None g c = λ plain ok.
    has_written_of_eq _ _ _ _ _ (sym (name_labelled c.args.name.now c.decode.result c.decode.ensures c.in-None.is)) (c.write_str-in-None.ensures.writes plain ok)
