-- Merging: the distinct keys in the order of their first places, each with the value of its last place.
use Rattle.std.specs.Prelude.{ℕ, ◌≡◌, Bool, true, false, not, ◌&&◌, if◌then◌else◌, List, [], ◌∷◌, map, filter, nat_eq, Option, Some, None}
use Rattle.std.specs.Str.{bytes_eq}
use Rattle.std.specs.Option.{option_or}
use Rattle.wave_wasm.specs.Lists.{AllOf}
use Rattle.std.specs.Ordering.{int_eq}
use Rattle.wave_wasm.specs.SimpleEquality.{same_whole}
use Rattle.wave_wasm.specs.Values as value
use Rattle.wave_wasm.specs.Values.{Leaf, Value, MaybeValue, Values, FieldValues, Entries, entries}
use Rattle.wave_wasm.specs.Values.{no_value, a_value, no_values, value_and, no_fields, field, no_entries, entry}

module _ {K V : Type 0} (same : K → K → Bool) where
  -- the value at the last place of the key, or v where it has no place
  abbrev pub last_value : K → V → List (K × V) → V
  last_value key v [] = v
  last_value key v (e ∷ es) = last_value key (if same key e.0 then e.1 else v) es

  -- the entries of other keys
  abbrev pub without : K → List (K × V) → List (K × V)
  without key es = filter (λ e. not (same key e.0)) es

  -- the first key with its last value, then the others merged
  abbrev pub merge : List (K × V) → List (K × V)
  merge [] = []
  merge (e ∷ es) = (e.0, last_value e.0 e.1 es) ∷ without e.0 (merge es)

  -- ---- the same as a property of the answer

  -- the distinct keys, in the order of their first places
  abbrev pub distinct_keys : List (K × V) → List K
  distinct_keys [] = []
  distinct_keys (e ∷ es) = e.0 ∷ filter (λ key. not (same e.0 key)) (distinct_keys es)

  -- the value at the last place of the key
  abbrev pub value_at_last : K → List (K × V) → Option V
  value_at_last key [] = None
  value_at_last key (e ∷ es) = option_or (value_at_last key es) (if same key e.0 then Some e.1 else None)

  -- the second entries are the first ones merged
  pub record IsMergeOf (es merged : List (K × V)) : Type 0 where
    pub keys : map (λ e. e.0) merged ≡ distinct_keys es
    pub values : AllOf (λ e. value_at_last e.0 es ≡ Some e.1) merged

-- ---- keys of values

-- two bools are equal
abbrev pub bool_eq : Bool → Bool → Bool
bool_eq true b = b
bool_eq false b = not b

-- two keys are equal: they are of one type and hold the same
abbrev pub leaf_eq : Leaf → Leaf → Bool
leaf_eq (value.bool a) (value.bool b) = bool_eq a b
leaf_eq (value.whole kind y) (value.whole other z) = same_whole kind other && int_eq y z
leaf_eq (value.char c) (value.char d) = nat_eq c d
leaf_eq (value.string s) (value.string t) = bytes_eq s t
leaf_eq _ _ = false

-- the value, in which each map, inner ones too, is merged
abbrev mutual
  pub merged : Value → Value
  merged (value.leaf one) = value.leaf one
  merged (value.unreadable kind) = value.unreadable kind
  merged (value.list vs) = value.list (merged_values vs)
  merged (value.fixed vs) = value.fixed (merged_values vs)
  merged (value.record_value fs) = value.record_value (merged_fields fs)
  merged (value.tuple vs) = value.tuple (merged_values vs)
  merged (value.variant name payload) = value.variant name (merged_maybe payload)
  merged (value.enum name) = value.enum name
  merged (value.option payload) = value.option (merged_maybe payload)
  merged (value.ok payload) = value.ok (merged_maybe payload)
  merged (value.err payload) = value.err (merged_maybe payload)
  merged (value.flags names) = value.flags names
  merged (value.map es) = value.map (entries (merge leaf_eq (merged_entries es)))

  -- a payload, so merged
  pub merged_maybe : MaybeValue → MaybeValue
  merged_maybe no_value = no_value
  merged_maybe (a_value v) = a_value (merged v)

  -- each item, so merged
  pub merged_values : Values → Values
  merged_values no_values = no_values
  merged_values (value_and v more) = value_and (merged v) (merged_values more)

  -- each field's value, so merged
  pub merged_fields : FieldValues → FieldValues
  merged_fields no_fields = no_fields
  merged_fields (field name v more) = field name (merged v) (merged_fields more)

  -- each entry's value, so merged
  pub merged_entries : Entries → List (Leaf × Value)
  merged_entries no_entries = []
  merged_entries (entry key v more) = (key, merged v) ∷ merged_entries more

-- ---- what `merge_map_entries` answers

-- two keys have one text
abbrev pub same_text : {K : Type 0} → List ℕ × K → List ℕ × K → Bool
same_text a b = bytes_eq a.0 b.0

-- the distinct texts in the order of their first places, each with its first key and its last value
abbrev pub merge_by_text : {K V : Type 0} → List ((List ℕ × K) × V) → List (K × V)
merge_by_text es = map (λ e. (e.0.1, e.1)) (merge same_text es)
