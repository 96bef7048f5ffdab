use Rattle.std.proofs.Common.{rules, ◌≡◌, ◌∙◌, inl, inr, sym, subst, string_bytes, IsUtf8, codes}
use Rattle.std.specs.Str.{IsValidUpTo}
use Rattle.wave_files.specs.Answers.{entry_of}
use Rattle.wave_files.specs.Folders.{Holds, Keeps, IsOfUnknown}
use Rattle.wave_files.proofs.Entries.{ok_so, refused_so, replaced_so, kept_so}
use Rattle.wave_files.proofs.answers.file_answer.Goals as goal
use Rattle.wave_files.proofs.answers.file_answer.Goals.{in-Some+in-Ok-replace, in_default}

pub returns-in-Err-from_utf8-clause-answer : goal.returns-in-Err-from_utf8-clause-answer
returns-in-Err-from_utf8-clause-answer g c =
    let bytes = c.in-Ok.bytes.items in
    let held = subst (λ n. Holds (g.F.Folder.holds c.args.folder.now n) bytes) c.as_str.ensures.value c.in-Ok.ensures.bytes in
    let none : IsUtf8 bytes → ⊥ = search rules in
    let up_to : IsValidUpTo bytes c.valid_up_to.result = search rules in
    ok_so c.no_text.result (λ a is. inr (c.in-Ok.ensures.kept, inr (bytes, c.valid_up_to.result, held, none, up_to, is))) c.no_text.ensures

pub returns-in-Err-replace-clause-answer : goal.returns-in-Err-replace-clause-answer
returns-in-Err-replace-clause-answer g c =
    let path = string_bytes c.args.name.now.path in
    let kept = c.in-Ok.ensures.kept in
    let keeps : Keeps (g.F.Folder.holds c.args.folder.now) (g.F.Folder.holds c.replace.new.self) = λ n. c.in-Err-replace.ensures.kept n ∙ kept n in
    let error = c.in-Err-replace.error in
    let unknown = subst (λ k. IsOfUnknown k error) (kept path) (subst (λ n. IsOfUnknown (g.F.Folder.holds c.read.new.self n) error) c.as_str-in-Some.ensures.value c.in-Err-replace.ensures.unknown) in
    ok_so c.failed-in-Err-replace.result
    (λ a no_entry. inr (keeps, inl (refused_so (g.F.Folder.holds c.args.folder.now path) c.args.name.now (codes "not written: ") error (entry_of a) unknown no_entry)))
    c.failed-in-Err-replace.ensures

pub returns-clause-answer : goal.returns-clause-answer
returns-clause-answer g c =
    let path = string_bytes c.args.name.now.path in
    let text = c.in-Ok-from_utf8.text.now in
    let same : text ≡ c.in-Ok.bytes.items = search rules in
    let held = subst (λ n. Holds (g.F.Folder.holds c.args.folder.now n) c.in-Ok.bytes.items) c.as_str.ensures.value c.in-Ok.ensures.bytes in
    inl (record {
      text = text;
      answer = c.in_ok-answer.answer;
      held = subst (Holds (g.F.Folder.holds c.args.folder.now path)) (sym same) held;
      is_text = search rules;
      answered = c.in_ok-answer.ensures;
      replaced =
          elim c.match-answer.branch [
            | in-Some+in-Ok-replace w ↦
                replaced_so g.F.Folder.holds c.args.folder.now c.read.new.self w.replace.new.self c.match-answer.folder path c.in-Ok.ensures.kept c.in_ok-answer.answer.replacement
                w.as_str-in-Some.result.now w.as_bytes.result.now w.in-Some.text w.in-Ok-replace.ensures.replaced w.as_str-in-Some.ensures.value w.as_bytes.ensures.value w.folder-is w.in-Some.is
            | in_default w ↦
                kept_so g.F.Folder.holds c.args.folder.now c.read.new.self c.read.new.self c.match-answer.folder path c.in-Ok.ensures.kept c.in_ok-answer.answer.replacement w.folder-is (search rules)
          ];
      entry_is = search rules;
    })
