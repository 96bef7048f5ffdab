-- Keys of maps whose refusal has a detail.
use Rattle.std.specs.Prelude.{◌≡◌, ◌⊎◌, Some, None}
use Rattle.wave_wasm.specs.Types.{TypeTree}
use Rattle.wave_lex.specs.Errors.{Diagnostic, Says, plainly, refusal_of}
use Rattle.wave_lex.specs.declared.error.ParserErrorKind.TheVariants.{InvalidType, OutOfMemory}
use Rattle.wave_grammar.specs.declared.form.NodeType.TheVariants as kind
use Rattle.wave_grammar.specs.TypeErrors.{key_expected}
use Rattle.wave_leaf.specs.declared.leaf.LeafToken.{LeafToken}

-- a label is refused as a key of another form than the type takes
abbrev pub IsOtherLabel : LeafToken → Diagnostic → Type 0
IsOtherLabel l e = (l.ty ≡ kind.Label) × (refusal_of e ≡ plainly InvalidType)

-- the refusal of such a label with the key that is expected as its detail, or for lack of memory at the label; another refusal as it was
abbrev pub IsDetailed : TypeTree → LeafToken → Diagnostic → Diagnostic → Type 0
IsDetailed T l e f =
    (IsOtherLabel l e → ⊥) × (f ≡ e)
    ⊎ IsOtherLabel l e × Says f InvalidType e.span (Some (key_expected T))
    ⊎ IsOtherLabel l e × Says f OutOfMemory l.span None
