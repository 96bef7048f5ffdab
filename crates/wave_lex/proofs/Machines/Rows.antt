-- The table of the machine keeps to its shapes: computed for each row at each scalar up to 128.
use Rattle.std.proofs.Common.{◌≡◌, ℕ, ◌≤◌, ◌<◌, ◌+◌, ◌-◌, Bool, true, nat_eq, nat_lt, List, [], refl, subst, ◌∙◌, arith, get_or, inl, inr}
use Rattle.std.specs.Prelude.{◌&&◌, nat_le}
use Rattle.std.specs.Bool.{beq}
use Rattle.std.proofs.lemmas.Bool.{cases_lt, and_parts, ltb-true, leb-true}
use Rattle.wave_wasm.proofs.EachNumber.{tests_agree}
use Rattle.wave_lex.specs.Derive.{nullable, derivative}
use Rattle.wave_lex.specs.Machines.{first_row, rest, rest_at}
use Rattle.wave_lex.specs.declared.machine.Start.{Start}
use Rattle.wave_lex.specs.declared.machine.Start.TheVariants as start
use Rattle.wave_lex.specs.declared.machine.TheConstants.{COLUMNS, ROWS}
use Rattle.wave_lex.proofs.RegularShapes.Comparisons.{same, same_true, each_below, each_below_at, is_ascii_shape, after_past}

-- the column of a scalar up to 128
abbrev pub column : ℕ → ℕ
column c = get_or COLUMNS c 0 - 97

-- a cell of the table
abbrev pub cell : ℕ → ℕ → ℕ
cell row k = get_or (get_or {A = List ℕ} ROWS row []) k 0

-- the row behind this one
abbrev pub behind : ℕ → ℕ → ℕ
behind row c = cell row (column c) - 46

-- a scalar up to 128 has a column
abbrev has_column : ℕ → Bool
has_column c = nat_le 97 (get_or COLUMNS c 0) && nat_lt (column c) 29

-- the row goes on rightly at this scalar
abbrev goes_right : ℕ → ℕ → Bool
goes_right row c = nat_le 46 (cell row (column c)) && (nat_lt (behind row c) 81 && same (derivative c (rest_at row)) (rest_at (behind row c)))

-- the row goes on rightly at each scalar, where it tells no scalars past ASCII apart
abbrev is_right : ℕ → Bool
is_right row = each_below 129 (goes_right row) && is_ascii_shape (rest_at row)

columns_computed : each_below 129 has_column ≡ true
columns_computed = refl

-- p holds of the n numbers from a first one on
abbrev from_on : ℕ → ℕ → (ℕ → Bool) → Bool
from_on first n p = each_below n (λ k. p (first + k))

from_at : (first n row : ℕ) (p : ℕ → Bool) → from_on first n p ≡ true → first ≤ row → row < first + n → p row ≡ true
from_at first n row p e l m =
    let back : first + (row - first) ≡ row = omega arith in
    let less : row - first < n = omega arith in
    subst (λ (z : ℕ). p z ≡ true) back (each_below_at n (row - first) (λ k. p (first + k)) e less)

rows_to_20 : from_on 0 20 is_right ≡ true
rows_to_20 = refl

rows_to_40 : from_on 20 20 is_right ≡ true
rows_to_40 = refl

rows_to_60 : from_on 40 20 is_right ≡ true
rows_to_60 = refl

rows_to_81 : from_on 60 21 is_right ≡ true
rows_to_81 = refl

row_is_right : (row : ℕ) → row < 81 → is_right row ≡ true
row_is_right row l =
    elim (cases_lt row 20) as (λ _. is_right row ≡ true) [
      | inl a ↦ from_at 0 20 row is_right rows_to_20 (omega arith) (omega arith)
      | inr a ↦ elim (cases_lt row 40) as (λ _. is_right row ≡ true) [
        | inl b ↦ from_at 20 20 row is_right rows_to_40 (omega arith) (omega arith)
        | inr b ↦ elim (cases_lt row 60) as (λ _. is_right row ≡ true) [
          | inl d ↦ from_at 40 20 row is_right rows_to_60 (omega arith) (omega arith)
          | inr d ↦ from_at 60 21 row is_right rows_to_81 (omega arith) (omega arith)
        ]
      ]
    ]

ends_computed : each_below 81 (λ row. beq (nat_eq (cell row 28) 36) (nullable (rest_at row))) ≡ true
ends_computed = refl

pub column_right : (c : ℕ) → c < 129 → (97 ≤ get_or COLUMNS c 0) × (column c < 29)
column_right c l =
    let h : (nat_le 97 (get_or COLUMNS c 0) ≡ true) × (nat_lt (column c) 29 ≡ true) = and_parts _ _ (each_below_at 129 c has_column columns_computed l) in
    (leb-true 97 (get_or COLUMNS c 0) h.0, ltb-true (column c) 29 h.1)

row_parts : (row : ℕ) → row < 81 → (each_below 129 (goes_right row) ≡ true) × (is_ascii_shape (rest_at row) ≡ true)
row_parts row l = and_parts _ _ (row_is_right row l)

pub row_right : (row c : ℕ) → row < 81 → c < 129 → (46 ≤ cell row (column c)) × (behind row c < 81) × (derivative c (rest_at row) ≡ rest_at (behind row c))
row_right row c l m =
    let b : (nat_le 46 (cell row (column c)) ≡ true) × ((nat_lt (behind row c) 81 && same (derivative c (rest_at row)) (rest_at (behind row c))) ≡ true) = and_parts _ _ (each_below_at 129 c (goes_right row) (row_parts row l).0 m) in
    let d : (nat_lt (behind row c) 81 ≡ true) × (same (derivative c (rest_at row)) (rest_at (behind row c)) ≡ true) = and_parts _ _ b.1 in
    (leb-true 46 (cell row (column c)) b.0, ltb-true (behind row c) 81 d.0, same_true _ _ d.1)

-- the row behind a scalar past ASCII
pub past_right : (row c : ℕ) → row < 81 → 128 ≤ c → (46 ≤ cell row 27) × (cell row 27 - 46 < 81) × (derivative c (rest_at row) ≡ rest_at (cell row 27 - 46))
past_right row c l past =
    let same_past : 128 ≤ 128 = omega arith in
    let small : 128 < 129 = omega arith in
    let h = row_right row 128 l small in
    (h.0, h.1, after_past (rest_at row) c 128 (row_parts row l).1 past same_past ∙ h.2)

-- a text may end at the rows that say so
pub ends_right : (row : ℕ) → row < 81 → nat_eq (cell row 28) 36 ≡ nullable (rest_at row)
ends_right row l = tests_agree 81 (λ row. nat_eq (cell row 28) 36) (λ row. nullable (rest_at row)) row l ends_computed

-- the machine begins at the row of what may follow there
pub start_right : (s : Start) → (first_row s < 81) × (rest s ≡ rest_at (first_row s))
start_right start.Number = (omega arith, refl)
start_right start.Zero = (omega arith, refl)
start_right start.WholePart = (omega arith, refl)
start_right start.Fraction = (omega arith, refl)
start_right start.FunctionName = (omega arith, refl)
start_right start.Label = (omega arith, refl)
start_right start.LowerWord = (omega arith, refl)
start_right start.LabelOrKeyword = (omega arith, refl)
start_right start.Character = (omega arith, refl)
start_right start.String = (omega arith, refl)
start_right start.InString = (omega arith, refl)
start_right start.Invalid = (omega arith, refl)
start_right start.Whitespace = (omega arith, refl)
