-- Which nodes have parts, and which part stands next.
use Rattle.std.specs.Prelude.{ℕ, ◌≡◌, ◌+◌, List, [], length}
use Rattle.wave_grammar.specs.NodeTree.{NodeTree}
use Rattle.wave_grammar.specs.declared.form.NodeType.{NodeType}
use Rattle.wave_grammar.specs.declared.form.NodeType.TheVariants as kind

-- the type of a node that is more than one token, and no flags
abbrev pub IsOfParts : NodeType → Type 0
IsOfParts kind.Tuple = Unit {0}
IsOfParts kind.List = Unit {0}
IsOfParts kind.TupleSet = Unit {0}
IsOfParts kind.EmptySet = Unit {0}
IsOfParts kind.VariantWithPayload = Unit {0}
IsOfParts kind.OptionSome = Unit {0}
IsOfParts kind.ResultOk = Unit {0}
IsOfParts kind.ResultErr = Unit {0}
IsOfParts _ = ⊥

-- the type of a node of one token
abbrev pub IsOneToken : NodeType → Type 0
IsOneToken kind.BoolTrue = Unit {0}
IsOneToken kind.BoolFalse = Unit {0}
IsOneToken kind.Number = Unit {0}
IsOneToken kind.Char = Unit {0}
IsOneToken kind.String = Unit {0}
IsOneToken kind.MultilineString = Unit {0}
IsOneToken kind.Label = Unit {0}
IsOneToken kind.OptionNone = Unit {0}
IsOneToken kind.ResultOk = Unit {0}
IsOneToken kind.ResultErr = Unit {0}
IsOneToken _ = ⊥

-- these parts were made of some children of a node of this type, in some text
abbrev pub ArePartsOfSome : {Parts : Type 0} → (List ℕ → NodeType → List NodeTree → Parts → Type 0) → NodeType → Parts → Type 0
ArePartsOfSome are ty parts = (source : List ℕ) × (children : List NodeTree) × are source ty children parts

-- after these children of such a node a key stands next: in entries after an even number of them, and the label of a case first
abbrev pub TakesKey : NodeType → List NodeTree → Type 0
TakesKey kind.TupleSet children = (k : ℕ) × (length children ≡ k + k)
TakesKey kind.VariantWithPayload children = children ≡ []
TakesKey _ children = ⊥

-- after these a value stands next: in entries after an odd number of them, a payload after the label of a case or first
abbrev pub TakesPart : NodeType → List NodeTree → Type 0
TakesPart kind.Tuple children = Unit {0}
TakesPart kind.List children = Unit {0}
TakesPart kind.TupleSet children = (k : ℕ) × (length children ≡ k + k + 1)
TakesPart kind.VariantWithPayload children = length children ≡ 1
TakesPart kind.OptionSome children = children ≡ []
TakesPart kind.ResultOk children = children ≡ []
TakesPart kind.ResultErr children = children ≡ []
TakesPart _ children = ⊥
