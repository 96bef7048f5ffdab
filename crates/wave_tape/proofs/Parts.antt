-- The bytes of parts that stand one behind the other, by the lists of these parts.
use Rattle.std.proofs.Common.{◌≡◌, ℕ, suc, List, [], ◌∷◌, ◌++◌, length, refl, sym, ap, ◌∙◌, append_assoc}
use Rattle.std.specs.List.{flat_map}
use Rattle.wave_wasm.specs.Values as value
use Rattle.wave_wasm.specs.Values.{Value, Leaf, values, entries, value_list, entry_list}
use Rattle.wave_tape.specs.Tape.{bytes_of, item_bytes, row_bytes, entry_bytes, name_bytes, text_bytes, count_bytes, leaf_bytes}
use Rattle.wave_tape.specs.Private.Rows.{row_or_zero}

-- the items, as a list of values
pub list_back : (vs : List Value) → value_list (values vs) ≡ vs
list_back [] = refl
list_back (v ∷ vs) = ap (λ (ws : List Value). v ∷ ws) (list_back vs)

pub item_rows : (vs : List Value) → flat_map bytes_of vs ≡ item_bytes (values vs)
item_rows [] = refl
item_rows (v ∷ vs) = ap (λ (bytes : List ℕ). bytes_of v ++ bytes) (item_rows vs)

pub row_rows : (vs : List Value) → row_or_zero bytes_of vs ≡ row_bytes (values vs)
row_rows [] = refl
row_rows (v ∷ vs) = ap (λ (bytes : List ℕ). bytes_of v ++ bytes) (item_rows vs)

-- a list's bytes
pub list_bytes : (vs : List Value) (n : ℕ) → length vs ≡ n → count_bytes n ++ flat_map bytes_of vs ≡ bytes_of (value.list (values vs))
list_bytes vs n e =
    ap (λ (bytes : List ℕ). count_bytes n ++ bytes) (item_rows vs)
    ∙ ap (λ (k : ℕ). count_bytes k ++ item_bytes (values vs)) (sym e ∙ sym (ap length (list_back vs)))

-- the bytes of an entry
abbrev pub pair_bytes : Leaf × Value → List ℕ
pair_bytes e = leaf_bytes e.0 ++ bytes_of e.1

entry_back : (es : List (Leaf × Value)) → length (entry_list (entries es)) ≡ length es
entry_back [] = refl
entry_back (e ∷ es) = ap suc (entry_back es)

entry_rows : (es : List (Leaf × Value)) → flat_map pair_bytes es ≡ entry_bytes (entries es)
entry_rows [] = refl
entry_rows (e ∷ es) =
    append_assoc (leaf_bytes e.0) (bytes_of e.1) (flat_map pair_bytes es)
    ∙ ap (λ (bytes : List ℕ). leaf_bytes e.0 ++ (bytes_of e.1 ++ bytes)) (entry_rows es)

-- a map's bytes
pub map_bytes : (es : List (Leaf × Value)) (n : ℕ) → length es ≡ n → count_bytes n ++ flat_map pair_bytes es ≡ bytes_of (value.map (entries es))
map_bytes es n e =
    ap (λ (bytes : List ℕ). count_bytes n ++ bytes) (entry_rows es)
    ∙ ap (λ (k : ℕ). count_bytes k ++ entry_bytes (entries es)) (sym e ∙ sym (entry_back es))

pub name_rows : (names : List (List ℕ)) → flat_map text_bytes names ≡ name_bytes names
name_rows [] = refl
name_rows (name ∷ names) = ap (λ (bytes : List ℕ). text_bytes name ++ bytes) (name_rows names)
