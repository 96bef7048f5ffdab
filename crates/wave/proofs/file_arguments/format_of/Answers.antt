use Rattle.std.proofs.Common.{map, drop, string_bytes, codes, ap, subst, ◌∙◌}
use Rattle.wave_files.specs.Options.{is_given, without, value_of, without_value}
use Rattle.wave.specs.FileArguments.{IsNumberOf, IsPurpose, AreNamedOrInput}
use Rattle.wave.proofs.FileWords.{named_or_input}
use Rattle.wave.proofs.file_arguments.format_of.Goals as goal

pub returns : goal.returns
returns c =
    let first = c.in_ok-width.ensures.left in
    let second = c.in_ok-indent.ensures.left ∙ ap (without_value (codes "--indent")) first in
    let last = c.in_ok-purpose.ensures.left ∙ ap (λ ws. without (codes "--write") (without (codes "--check") ws)) second in
    let files = c.behind.ensures ∙ (ap (λ ws. drop 1 (map string_bytes ws)) c.deref.ensures.value ∙ ap (drop 1) last) in (
      c.in_ok-width.ensures.number,
      subst (λ ws. IsNumberOf (value_of (codes "--indent") ws) 2 0 16 c.in_ok-indent.indent) first c.in_ok-indent.ensures.number,
      subst (λ ws. IsPurpose (is_given (codes "--check") ws) (is_given (codes "--write") (without (codes "--check") ws)) c.in_ok-purpose.purpose) second c.in_ok-purpose.ensures.purpose,
      subst (λ ws. AreNamedOrInput ws c.in_ok-names-2.names.items) files
          (named_or_input _ c.in_ok-names.names.items c.in_ok-names-2.names.items c.in_ok-names.ensures c.in_ok-names-2.ensures.some c.in_ok-names-2.ensures.none),
    )
