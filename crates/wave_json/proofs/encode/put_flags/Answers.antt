use Rattle.std.proofs.Common.{[], ◌∷◌, ap, ◌∙◌}
use Rattle.json.specs.Token.{Token}
use Rattle.wave_wasm.specs.Borrowed.{texts}
use Rattle.wave_json.proofs.Values.{flags_array}
use Rattle.wave_json.proofs.Writing.{writing_none, writing_more}
use Rattle.wave_json.proofs.encode.put_flags.Goals as goal

pub loop-name-init : goal.loop-name-init
loop-name-init g c =
    let names = texts c.deref-name-items.result.now in
    let s = flags_array _ names c.requires (ap texts c.deref-name-items.ensures.value ∙ c.in_ok-names.ensures) in
    writing_more (Token.begin_array ∷ []) (writing_none _ s.tokens_are) c.in_ok-put_token.ensures
