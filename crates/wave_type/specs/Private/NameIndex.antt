-- Where each name stands first. Only private contracts and the invariant of `Type` cite it.
use Rattle.std.specs.Prelude.{◌≡◌, ℕ, List, String}
use Rattle.std.specs.declared.alloc.Global.{Global}
use Rattle.std.specs.BTreeMap.{BTreeMap, get_by_text}
use Rattle.std.specs.List.{position}
use Rattle.std.specs.Str.{bytes_eq}

-- each name is found at its first place among the names, and no other name is found
abbrev pub AreFirstPlaces : BTreeMap (String Global) ℕ → List (List ℕ) → Type 0
AreFirstPlaces places names = (name : List ℕ) → get_by_text places name ≡ position (bytes_eq name) names
