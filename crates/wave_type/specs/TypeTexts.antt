-- What the text of a type determines.
use Rattle.std.specs.Prelude.{◌≡◌}
use Rattle.wave_wasm.specs.Types.{TypeTree, IsRepresentable}
use Rattle.wave_wasm.specs.TypeText.{type_text}
use Rattle.wave_lex.specs.Labels.{HasLabels}

-- no other type that `Type` has and whose names are labels has the same text
abbrev pub TypeTextTells : TypeTree → Type 0
TypeTextTells T = (U : TypeTree) → IsRepresentable U → HasLabels U → type_text T ≡ type_text U → T ≡ U
