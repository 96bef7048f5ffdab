use Rattle.std.proofs.Common.{◌++◌, inl, None, Some}
use Rattle.std.specs.String.{string_bytes}
use Rattle.wave_lex.specs.Parts.{part_text, left_of}
use Rattle.wave_grammar.proofs.Strings.Assembly.{copied_from}
use Rattle.wave_grammar.proofs.text.copied.Goals as goal

pub returns-in-Ok-end : goal.returns-in-Ok-end
returns-in-Ok-end c = (
  copied_from (left_of c.args.parts.now) (left_of c.push_all.new.parts) (string_bytes c.in-Ok.text) (c.args.prefix.now ++ part_text c.args.part) (string_bytes c.push_all.new.text) None
      c.in-Ok.ensures.bytes c.in-Ok-push_all.ensures.1 c.in-Ok-end.ensures,
  λ no. no,
)

pub returns : goal.returns
returns c =
    let all = copied_from (left_of c.args.parts.now) (left_of c.push_all.new.parts) (string_bytes c.in-Ok.text) (c.args.prefix.now ++ part_text c.args.part) (string_bytes c.push_all.new.text) (Some c.in-Err.error)
    c.in-Ok.ensures.bytes c.in-Ok-push_all.ensures.1 c.in-Err.ensures in
    inl (all.0, all.1)
