-- Flags in the byte order of their names.
use Rattle.std.specs.Prelude.{ℕ, if◌then◌else◌, List, [], ◌∷◌}
use Rattle.std.specs.declared.ops.Range.{Range}
use Rattle.wave_grammar.specs.LeafTokens.{name_of}
use Rattle.wave_grammar.specs.Tree as tree

-- a flag: its place and its text
abbrev pub Flag : Type 0
Flag = Range ℕ × List ℕ

-- the flag's name
abbrev pub flag_name : Flag → List ℕ
flag_name f = name_of f.1

-- the flag among others that are in order
abbrev pub put_flag : Flag → List Flag → List Flag
put_flag f [] = f ∷ []
put_flag f (g ∷ more) = if tree.is_before (flag_name f) (flag_name g) then f ∷ g ∷ more else g ∷ put_flag f more

-- the flags in byte order of their names
abbrev pub flags_in_order : List Flag → List Flag
flags_in_order [] = []
flags_in_order (f ∷ more) = put_flag f (flags_in_order more)
