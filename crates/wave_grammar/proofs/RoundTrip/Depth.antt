-- How many levels the canonical text of a value has.
use Rattle.std.specs.Prelude.{ℕ, suc, max, if◌then◌else◌}
use Rattle.wave_wasm.specs.Values as value
use Rattle.wave_wasm.specs.Values.{Value, MaybeValue, Values, FieldValues, Entries, no_value, a_value, no_values, value_and, no_fields, field, no_entries, entry}
use Rattle.wave_wasm.specs.Text.{is_no_option}

-- the levels of the text of a value that is merged: one, and those of what stands in it; a field that is `none` doesn't stand there
abbrev mutual
  pub height : Value → ℕ
  height (value.leaf one) = 1
  height (value.unreadable kind) = 1
  height (value.list vs) = suc (height_of_values vs)
  height (value.fixed vs) = suc (height_of_values vs)
  height (value.record_value fs) = suc (height_of_fields fs)
  height (value.tuple vs) = suc (height_of_values vs)
  height (value.variant name payload) = suc (height_of_maybe payload)
  height (value.enum name) = 1
  height (value.option payload) = suc (height_of_maybe payload)
  height (value.ok payload) = suc (height_of_maybe payload)
  height (value.err payload) = suc (height_of_maybe payload)
  height (value.flags names) = 1
  height (value.map es) = suc (height_of_entries es)

  -- the levels of a payload
  pub height_of_maybe : MaybeValue → ℕ
  height_of_maybe no_value = 0
  height_of_maybe (a_value v) = height v

  -- the most levels of an item
  pub height_of_values : Values → ℕ
  height_of_values no_values = 0
  height_of_values (value_and v more) = max (height v) (height_of_values more)

  -- the most levels of a field that isn't `none`
  pub height_of_fields : FieldValues → ℕ
  height_of_fields no_fields = 0
  height_of_fields (field name v more) = max (if is_no_option v then 0 else height v) (height_of_fields more)

  -- the most levels of an entry's value
  pub height_of_entries : Entries → ℕ
  height_of_entries no_entries = 0
  height_of_entries (entry key v more) = max (height v) (height_of_entries more)
