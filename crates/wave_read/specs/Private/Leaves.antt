-- A token that stands in some source.
use Rattle.std.specs.Prelude.{ℕ, List}
use Rattle.wave_grammar.specs.NodeParts.{IsOneToken}
use Rattle.wave_leaf.specs.declared.leaf.LeafToken.{LeafToken}
use Rattle.wave_leaf.specs.Leaves.{IsLeafIn}

-- it is one token of some text
abbrev pub IsTokenOfSome : LeafToken → Type 0
IsTokenOfSome l = IsOneToken l.ty × ((source : List ℕ) × IsLeafIn source l)
