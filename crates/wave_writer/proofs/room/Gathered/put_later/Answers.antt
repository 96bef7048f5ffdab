use Rattle.std.proofs.Common.{◌∙◌, ◌++◌, ap, codes, rules}
use Rattle.std.proofs.lemmas.Str.{IsUtf8-had, IsUtf8-append}
use Rattle.wave_writer.proofs.CanonicalText.Gathering.{put_behind, put_both}
use Rattle.wave_writer.proofs.CanonicalText.Rows.{comma_utf8}
use Rattle.wave_writer.proofs.room.Gathered.put_later.Goals as goal

pub invariant_of-self : goal.invariant_of-self
invariant_of-self c =
    let comma = put_behind (codes ", ") c.self.inside.room c.put_bytes.new.room c.self.inside.end c.put_bytes.ensures.before c.put_bytes.ensures.put in
    let text = put_behind c.args.text.now c.put_bytes.new.room c.put_bytes-2.new.room _ c.put_bytes-2.ensures.before (rw c.as_bytes.ensures.value at c.put_bytes-2.ensures.put) in
    (search rules, ∣ rw (put_both (codes ", ") c.args.text.now c.self.inside.room c.put_bytes.new.room c.put_bytes-2.new.room c.self.inside.end comma text) (IsUtf8-append _ _ (IsUtf8-had _ c.self.invariant.1) (comma_utf8 _ c.utf8.text)) ∣₁)

pub returns : goal.returns
returns c =
    let comma = put_behind (codes ", ") c.self.inside.room c.put_bytes.new.room c.self.inside.end c.put_bytes.ensures.before c.put_bytes.ensures.put in
    let text = put_behind c.args.text.now c.put_bytes.new.room c.put_bytes-2.new.room _ c.put_bytes-2.ensures.before (rw c.as_bytes.ensures.value at c.put_bytes-2.ensures.put) in
    put_both (codes ", ") c.args.text.now c.self.inside.room c.put_bytes.new.room c.put_bytes-2.new.room c.self.inside.end comma text ∙ ap (λ z. z ++ (codes ", " ++ c.args.text.now)) c.self.view_is
