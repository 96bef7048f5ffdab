-- Worked examples: scalars that can't be seen, and how scalars are shown.
use Rattle.std.proofs.Common.{◌≡◌, [], ◌∷◌, true, false, refl, map}
use Rattle.std.specs.Prelude.{codes}
use Rattle.std.specs.Fmt.{digits}
use Rattle.ucd_category.proofs.Computing.{ucd_category}
use Rattle.wave_place.specs.Shown.{is_invisible, shown_scalar}

-- bidirectional controls
bidirectional :
    map is_invisible (0x61c ∷ 0x200e ∷ 0x200f ∷ 0x202a ∷ 0x202b ∷ 0x202c ∷ 0x202d ∷ 0x202e ∷ 0x2066 ∷ 0x2067 ∷ 0x2068 ∷ 0x2069 ∷ [])
    ≡ true ∷ true ∷ true ∷ true ∷ true ∷ true ∷ true ∷ true ∷ true ∷ true ∷ true ∷ true ∷ []
unfolding ucd_category
bidirectional = refl

-- the soft hyphen, zero-width blank and joiners, the word joiner, the byte order mark; blanks; ends of lines and paragraphs
unseen :
    map is_invisible (0xad ∷ 0x200b ∷ 0x200c ∷ 0x200d ∷ 0x2060 ∷ 0xfeff ∷ 0xa0 ∷ 0x2003 ∷ 0x3000 ∷ 0x2028 ∷ 0x2029 ∷ [])
    ≡ true ∷ true ∷ true ∷ true ∷ true ∷ true ∷ true ∷ true ∷ true ∷ true ∷ true ∷ []
unfolding ucd_category
unseen = refl

-- the space, a letter, a combining accent, an emoji
seen : map is_invisible (0x20 ∷ 97 ∷ 0x301 ∷ 0x1f44b ∷ []) ≡ false ∷ false ∷ false ∷ false ∷ []
unfolding ucd_category
seen = refl

scalars :
    map shown_scalar (9 ∷ 13 ∷ 0x7f ∷ 0x20 ∷ 97 ∷ 0x200b ∷ 0xe0001 ∷ [])
    ≡ codes " " ∷ (0xef ∷ 0xbf ∷ 0xbd ∷ []) ∷ (0xef ∷ 0xbf ∷ 0xbd ∷ []) ∷ codes " " ∷ codes "a" ∷ codes "\\u{200b}" ∷ codes "\\u{e0001}" ∷ []
unfolding shown_scalar digits ucd_category lib.Utf8.encode
scalars = refl
