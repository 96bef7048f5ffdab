-- What a `Bare` means.
use Rattle.wave_wasm.specs.Types as type
use Rattle.wave_wasm.specs.Values as value
use Rattle.wave_wasm.specs.Values.{Value, values}
use Rattle.wave_example_settings.specs.declared.bare.Bare.{Bare}
use Rattle.wave_example_settings.specs.declared.bare.Bare.TheOpen.{Bare-F}
use Rattle.wave_example_settings.specs.declared.bare.Bare.TheFolds.{fold-Bare}

-- one value, where each item stands as what it means
abbrev pub one_level : Bare-F Value → Value
one_level (Bare-F.List items) = value.list (values items.items)
one_level (Bare-F.Fixed items) = value.fixed (values items.items)
one_level Bare-F.Unsupported = value.unreadable type.unsupported

-- the tree that the value means
abbrev pub tree : Bare → Value
tree = fold-Bare Value one_level
