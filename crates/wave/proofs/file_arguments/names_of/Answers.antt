use Rattle.std.proofs.Common.{◌+◌, map, take, string_bytes, sym, subst, arith}
use Rattle.wave.specs.FileArguments.{AreNamed}
use Rattle.wave.proofs.FileWords.{named_next, named_all}
use Rattle.wave.proofs.file_arguments.names_of.Goals as goal

pub loop-place-preserved : goal.loop-place-preserved
loop-place-preserved c =
    subst (λ ns. AreNamed (take (c.loop-place.place + 1) (map string_bytes c.args.words.now)) ns) (sym c.in_ok-add_name.ensures)
    (named_next c.args.words.now c.loop-place.place c.loop-place.names.items c.index-words-place.result _ c.in_ok-name.name c.loop-place.invariant (omega arith) c.index-words-place.is c.as_str.ensures.value c.in_ok-name.ensures)

pub returns : goal.returns
returns c = named_all c.args.words.now c.loop-place.place c.loop-place.names.items c.loop-place.invariant (λ less. absurd (omega (arith, less)))
