-- The order of names means nothing, nor does the `%` of a name.
use Rattle.std.specs.Prelude.{ℕ, ◌≡◌, ◌↔◌, List, map}
use Rattle.wave_wasm.specs.Names.{AreDistinct, AreAllOf}
use Rattle.wave_wasm.specs.Types as type
use Rattle.wave_wasm.specs.Types.{Fields}
use Rattle.wave_wasm.specs.Values.{Value}
use Rattle.wave_grammar.specs.Token as token
use Rattle.wave_grammar.specs.Token.{Token}
use Rattle.wave_grammar.specs.LeafTokens.{name_of}
use Rattle.wave_grammar.specs.Tree.{Tree, entries, tree_entries, flags}
use Rattle.wave_grammar.specs.TypedGrammar.{look_up}
use Rattle.wave_grammar.specs.Denotes.{Means, SpellsText}

-- labels and the trees of their values
abbrev pub Labelled : Type 0
Labelled = List (List ℕ × Tree)

-- the entries of these labels
abbrev pub label_entries : Labelled → List (Token × Tree)
label_entries fields = map (λ f. (token.label f.0, f.1)) fields

-- the names of the labels, and the trees
abbrev pub named : Labelled → List (List ℕ × Tree)
named fields = map (λ f. (name_of f.0, f.1)) fields

-- the names of the labels
abbrev pub label_names : Labelled → List (List ℕ)
label_names fields = map (λ f. f.0) (named fields)

-- the names of each are distinct, and each name has the same tree in both
pub record HaveSameFields (fields others : Labelled) : Type 0 where
  pub first_distinct : AreDistinct (label_names fields)
  pub second_distinct : AreDistinct (label_names others)
  pub same : (name : List ℕ) → look_up (named fields) name ≡ look_up (named others) name

-- texts of the same fields within n levels, in any order and with `%` or without, mean the same at a record type
abbrev pub FieldsInAnyOrder : Type 0
FieldsInAnyOrder =
    (n : ℕ) (s d : List ℕ) (fields others : Labelled) → SpellsText n s (entries (tree_entries (label_entries fields))) →
    SpellsText n d (entries (tree_entries (label_entries others))) → HaveSameFields fields others →
    (fs : Fields) (v : Value) → Means (type.record_type fs) n s v ↔ Means (type.record_type fs) n d v

-- each name of the labels is one of the others
abbrev pub HaveSameNames : List (List ℕ) → List (List ℕ) → Type 0
HaveSameNames texts others = AreAllOf (map name_of texts) (map name_of others) × AreAllOf (map name_of others) (map name_of texts)

-- texts of flags of the same names within n levels, with `%` or without, mean the same at a type of flags
abbrev pub FlagsInAnyOrder : Type 0
FlagsInAnyOrder =
    (n : ℕ) (s d : List ℕ) (texts others : List (List ℕ)) → SpellsText n s (flags texts) → SpellsText n d (flags others) → HaveSameNames texts others →
    (names : List (List ℕ)) (v : Value) → Means (type.flags names) n s v ↔ Means (type.flags names) n d v
