use Rattle.std.proofs.Common.{◌≡◌, ℕ, true, false, List, [], ◌∷◌, ◌++◌, refl, sym, ap, subst, ◌∙◌, string_bytes}
use Rattle.std.specs.Prelude.{encode_utf8}
use Rattle.std.proofs.lemmas.Bool.{ltb-true}
use Rattle.std.proofs.lemmas.Str.{encode_ascii}
use Rattle.std.proofs.lemmas.Str.Pattern.{starts_text}
use Rattle.wave_format.specs.Words.{is_comment}
use Rattle.wave_format.specs.Private.Sheets.{Sheet}
use Rattle.wave_format.proofs.Steps.{IsOpened, line_opened, space_opened, none_opened, comment_added, comment_put, comment_test, none_of}
use Rattle.wave_format.proofs.page.Page.put_comment.Goals as goal
use Rattle.wave_format.proofs.page.Page.put_comment.Goals.{then-self, else-self+then-is_some, else-self+else-is_some, then-self-gt0+in_ok-new_line, else-self-gt0+then-is_some-2+in_ok-push, else-self-gt0+else-is_some-2}

pub returns : goal.returns
returns c =
    let is : is_comment c.args.line.now ≡ true = sym (comment_test c.args.line.now c.starts_with.result (starts_text c.starts_with.result (47 ∷ 47 ∷ []) c.args.line.now c.starts_with.ensures.cases)) ∙ c.if-not-starts_with.false in
    let free : c.if-self.value ≡ false → c.self.inside.in_comment ≡ false = λ none. elim c.if-self.branch as (λ _. c.self.inside.in_comment ≡ false) [
      | then-self w ↦ sym w.value-is ∙ none
      | else-self+then-is_some w ↦ w.if-self.false
      | else-self+else-is_some w ↦ w.if-self.false
    ] in
    let opened : IsOpened c.args.self.now c.if-self-gt0.self = elim c.if-self-gt0.branch as (λ _. IsOpened c.args.self.now c.if-self-gt0.self) [
      | then-self-gt0+in_ok-new_line w ↦ rw w.self-is (line_opened _ _ w.in_ok-new_line.ensures)
      | else-self-gt0+then-is_some-2+in_ok-push w ↦
          let more : string_bytes w.push.new.self ≡ string_bytes c.self.inside.text ++ encode_utf8 32 = w.in_ok-push.ensures.bytes in
          rw w.self-is (rw (← c.self.view_is) (space_opened _ _ (free w.if-self-gt0.false) (more ∙ ap (λ (z : List ℕ). string_bytes c.self.inside.text ++ z) (encode_ascii 32 (ltb-true 32 128 refl)))))
      | else-self-gt0+else-is_some-2 w ↦ rw w.self-is (rw (← c.self.view_is) (none_opened _ (free w.if-self-gt0.false) (none_of _ (sym w.is_some-else-self-gt0.ensures ∙ w.if-is_some-2.false))))
    ] in
    comment_put (is_comment c.args.line.now) c.args.line.now c.args.self.now _ is
    (comment_added c.args.line.now c.args.self.now _ _ (c.requires is) c.utf8.line (subst (λ (s : Sheet). IsOpened c.args.self.now s) (sym c.self-2.view_is) opened) c.in_ok-push_str.ensures.bytes)
