use Rattle.std.proofs.Common.{map, take, drop, string_bytes, codes, ap, sym, subst, ◌∙◌}
use Rattle.wave_files.specs.Options.{is_given, without}
use Rattle.wave.specs.FileArguments.{AreTyped, AreNamedOrInput}
use Rattle.wave.specs.Requests.{AreWordsOf}
use Rattle.wave.proofs.FileWords.{named_or_input, parted, behind_is}
use Rattle.wave.proofs.file_arguments.reading_of.Goals as goal

pub returns : goal.returns
returns g c =
    let first = c.take_option-is_pretty.ensures.left in
    let second = c.take_option.ensures.left ∙ ap (without (codes "--quiet")) first in
    let third = c.take_option-2.ensures.left ∙ ap (without (codes "--lines")) second in
    let words = c.take_type.new.words.items in
    let typed = map string_bytes words in
    let place = c.request_end-end.result in
    let files = c.behind.ensures ∙ (ap (λ ws. drop place (map string_bytes ws)) c.deref-2.ensures.value ∙ sym (behind_is words place)) in (
      typed,
      map string_bytes (take place words),
      map string_bytes (drop place words),
      c.take_option-is_pretty.ensures.given,
      ap (is_given (codes "--lines")) (sym second) ∙ (sym c.take_option-2.ensures.given ∙ c.if-take_option.false),
      subst (λ ws. AreTyped (g.F.Folder.holds c.args.folder.now) ws typed) third c.in_ok-file.ensures,
      parted words place,
      subst (λ ws. AreWordsOf c.in_ok-request.request (map string_bytes ws)) (c.deref-3.ensures.value ∙ c.truncate.ensures.items) c.in_ok-request.ensures,
      subst (λ ws. AreNamedOrInput ws c.in_ok-names.names.items) files
          (named_or_input _ c.in_ok-names_of.field-0.items c.in_ok-names.names.items c.in_ok-names_of.ensures c.in_ok-names.ensures.some c.in_ok-names.ensures.none),
    )
