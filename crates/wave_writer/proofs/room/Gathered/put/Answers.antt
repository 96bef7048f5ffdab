use Rattle.std.proofs.Common.{◌∙◌, ◌++◌, ap, rules}
use Rattle.std.proofs.lemmas.Str.{IsUtf8-had, IsUtf8-append}
use Rattle.wave_writer.proofs.CanonicalText.Gathering.{put_behind}
use Rattle.wave_writer.proofs.room.Gathered.put.Goals as goal

pub invariant_of-self : goal.invariant_of-self
invariant_of-self c =
    let put = put_behind c.args.text.now c.self.inside.room c.put_bytes.new.room c.self.inside.end c.put_bytes.ensures.before (rw c.as_bytes.ensures.value at c.put_bytes.ensures.put) in
    (search rules, ∣ rw put (IsUtf8-append _ _ (IsUtf8-had _ c.self.invariant.1) c.utf8.text) ∣₁)

pub returns : goal.returns
returns c =
    put_behind c.args.text.now c.self.inside.room c.put_bytes.new.room c.self.inside.end c.put_bytes.ensures.before (rw c.as_bytes.ensures.value at c.put_bytes.ensures.put) ∙ ap (λ z. z ++ c.args.text.now) c.self.view_is
