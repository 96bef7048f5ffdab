-- The tree that a `Type` stands for, and what holds of its shape.
use Rattle.std.specs.Prelude.{◌↔◌, IsTrue, map, string_bytes}
use Rattle.wave_wasm.specs.Types as type
use Rattle.wave_wasm.specs.Types.{Simple, TypeTree, types_of, fields_of, cases_of, maybe_type, IsRepresentable, HasDistinctNames}
use Rattle.wave_type.specs.declared.ty.Shape.{Shape}
use Rattle.wave_type.specs.declared.ty.Shape.TheVariants as shapes
use Rattle.wave_type.specs.TypeModel.{by_bytes, simple_of}
use Rattle.wave_type.specs.Private.NameIndex.{AreFirstPlaces}

-- the simple type that the key of a map is; bool where it is none, which no map has
abbrev pub simple_or_bool : TypeTree → Simple
simple_or_bool (type.simple S) = S
simple_or_bool _ = type.bool

-- the tree of a shape
abbrev pub shape_tree : Shape → TypeTree
shape_tree (shapes.Simple S) = type.simple (simple_of S)
shape_tree shapes.F32 = type.unreadable type.f32
shape_tree shapes.F64 = type.unreadable type.f64
shape_tree (shapes.List E) = type.list E.value.0
shape_tree (shapes.FixedLengthList p) = type.fixed p.value.0 p.value.1
shape_tree (shapes.Record fs) = type.record_type (fields_of (map by_bytes fs.value.0.items))
shape_tree (shapes.Tuple Ts) = type.tuple (types_of Ts.value.0.items)
shape_tree (shapes.Variant cs) = type.variant (cases_of (map by_bytes cs.value.0.items))
shape_tree (shapes.Enum ns) = type.enum (map string_bytes ns.value.0.items)
shape_tree (shapes.Option P) = type.option P.value.0
shape_tree (shapes.Result r) = type.result (maybe_type r.value.0) (maybe_type r.value.1)
shape_tree (shapes.Flags ns) = type.flags (map string_bytes ns.value.0.items)
shape_tree (shapes.Map m) = type.map (simple_or_bool m.value.0) m.value.1

-- values of the type are one token
abbrev pub IsSimple : TypeTree → Type 0
IsSimple (type.simple S) = Unit {0}
IsSimple _ = ⊥

-- the key of a map is of a simple type
abbrev pub HasSimpleKey : Shape → Type 0
HasSimpleKey (shapes.Map m) = IsSimple m.value.0
HasSimpleKey _ = Unit {0}

-- beside names stands where each of them stands first
abbrev pub HasFirstPlaces : Shape → Type 0
HasFirstPlaces (shapes.Record fs) = AreFirstPlaces fs.value.1 (map (λ f. string_bytes f.0) fs.value.0.items)
HasFirstPlaces (shapes.Variant cs) = AreFirstPlaces cs.value.1 (map (λ c. string_bytes c.0) cs.value.0.items)
HasFirstPlaces (shapes.Enum ns) = AreFirstPlaces ns.value.1 (map string_bytes ns.value.0.items)
HasFirstPlaces (shapes.Flags ns) = AreFirstPlaces ns.value.1 (map string_bytes ns.value.0.items)
HasFirstPlaces _ = Unit {0}

-- beside parts stands whether no name stands twice within the type
abbrev pub TellsDistinct : Shape → Type 0
TellsDistinct (shapes.List E) = IsTrue E.value.1 ↔ HasDistinctNames (shape_tree (shapes.List E))
TellsDistinct (shapes.FixedLengthList p) = IsTrue p.value.2 ↔ HasDistinctNames (shape_tree (shapes.FixedLengthList p))
TellsDistinct (shapes.Record fs) = IsTrue fs.value.2 ↔ HasDistinctNames (shape_tree (shapes.Record fs))
TellsDistinct (shapes.Tuple Ts) = IsTrue Ts.value.1 ↔ HasDistinctNames (shape_tree (shapes.Tuple Ts))
TellsDistinct (shapes.Variant cs) = IsTrue cs.value.2 ↔ HasDistinctNames (shape_tree (shapes.Variant cs))
TellsDistinct (shapes.Option P) = IsTrue P.value.1 ↔ HasDistinctNames (shape_tree (shapes.Option P))
TellsDistinct (shapes.Result r) = IsTrue r.value.2 ↔ HasDistinctNames (shape_tree (shapes.Result r))
TellsDistinct (shapes.Map m) = IsTrue m.value.2 ↔ HasDistinctNames (shape_tree (shapes.Map m))
TellsDistinct _ = Unit {0}

-- the shape is of a tree that a `Type` can have
pub record IsSoundShape (shape : Shape) : Type 0 where
  pub key : HasSimpleKey shape
  pub places : HasFirstPlaces shape
  pub distinct : TellsDistinct shape
  pub representable : IsRepresentable (shape_tree shape)
