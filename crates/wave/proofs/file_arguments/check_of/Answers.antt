use Rattle.std.proofs.Common.{◌≡◌, ◌<◌, Some, map, drop, length, string_bytes, ap, sym, subst, ◌∙◌, arith}
use Rattle.std.proofs.lemmas.Bool.Decides.{nat_tests}
use Rattle.std.specs.Prelude.{slice_get}
use Rattle.wave.specs.FileArguments.{AreNamed, AreTyped}
use Rattle.wave.proofs.FileWords.{second_is, some_named}
use Rattle.wave.proofs.file_arguments.check_of.Goals as goal

pub returns : goal.returns
returns g c =
    let words = c.take_type.new.words.items in
    let typed = map string_bytes words in
    let files = c.behind.ensures ∙ ap (λ ws. drop 2 (map string_bytes ws)) c.deref-2.ensures.value in
    let named = subst (λ ws. AreNamed ws c.in_ok-names.names.items) files c.in_ok-names.ensures in
    let some : 0 < length c.in_ok-names.names.items = grind (arith, nat_tests, sym c.is_empty.ensures ∙ c.if-is_empty.false, c.in_ok-names.names.ok) in
    let found = second_is c.deref.result.now c.in-Some.word.now c.as_str.result.now c.in-Some.ensures.lookup.3.0 c.in-Some.ensures.lookup.1 c.as_str.ensures.value in (
      typed,
      c.as_str.result.now,
      c.in_ok-style.ensures.style,
      subst (λ ws. AreTyped (g.F.Folder.holds c.args.folder.now) ws typed) c.in_ok-style.ensures.left c.in_ok-file.ensures,
      subst (λ ws. slice_get (map string_bytes ws) 1 ≡ Some c.as_str.result.now) c.deref.ensures.value found,
      c.in_ok-ty.ensures,
      some_named (drop 2 typed) c.in_ok-names.names.items named some,
      named,
    )
