use Rattle.std.proofs.Common.{map, string_bytes, subst}
use Rattle.wave.specs.FileArguments.{MakeCommand}
use Rattle.wave.proofs.FileWords.{reading_fits}
use Rattle.wave.proofs.files.run_over_files.Goals as goal

pub answer_files-requires-in-Ok-Read : goal.answer_files-requires-in-Ok-Read
answer_files-requires-in-Ok-Read g c =
    let words = map string_bytes c.args.words.items in
    let holds = g.F.Folder.holds c.args.folder.now in
    reading_fits holds words c.in-Ok-Read.reading c.in-Ok-Read.names.items (subst (MakeCommand holds words) c.in-Ok-Read.field-0-is c.in-Ok-Read.ensures)
