-- What is left to write of a record, field by field.
use Rattle.std.proofs.Common.{ℕ, ◌≡◌, ◌<◌, ◌≤◌, ◌+◌, List, ◌∷◌, ◌++◌, Bool, true, false, cond, refl, ◌∙◌, length, get_or, drop, map, codes}
use Rattle.wave_wasm.specs.Values as value
use Rattle.wave_wasm.specs.Values.{Value, no_value, a_value}
use Rattle.wave_wasm.specs.Text.{text, has_text, is_no_option}
use Rattle.wave_writer.specs.WriterState.{Output}
use Rattle.wave_wasm.proofs.CanonicalText.Sequences.{at_item, at_end}
use Rattle.wave_wasm.proofs.CanonicalText.ValueParts.{fields_left}
use Rattle.wave_writer.proofs.CanonicalText.WrittenParts.{Writing, writing_as}

field_here : (later : Bool) (name : List ℕ) (v : Value) (fs : List (List ℕ × Value)) → is_no_option v ≡ false → fields_left later ((name, v) ∷ fs) ≡ cond later (codes ", ") (codes "{") ++ (name ++ (codes ": " ++ (text v ++ fields_left true fs)))
field_here later name v fs h = rw h refl

-- what is left begins with the next field
pub writing_field : {X : Type 0} (f : X → List ℕ × Value) (xs : List X) (i : ℕ) (x : X) {whole : List ℕ} (later : Bool) {old now : Output} → i < length xs → x ≡ get_or xs i x → is_no_option (f x).1 ≡ false → Writing whole (fields_left later (map f (drop i xs))) old now → Writing whole (cond later (codes ", ") (codes "{") ++ ((f x).0 ++ (codes ": " ++ (text (f x).1 ++ fields_left true (map f (drop (i + 1) xs)))))) old now
writing_field f xs i x later lt is some w = writing_as (at_item (λ l. fields_left later (map f l)) xs i x lt is ∙ field_here later (f x).0 (f x).1 (map f (drop (i + 1) xs)) some) w

-- after the last field only the close is left
pub writing_record_close : {X : Type 0} (f : X → List ℕ × Value) (xs : List X) (i : ℕ) {whole : List ℕ} (later : Bool) {old now : Output} → length xs ≤ i → Writing whole (fields_left later (map f (drop i xs))) old now → Writing whole (cond later (codes "}") (codes "{:}")) old now
writing_record_close f xs i later le w = writing_as (at_end (λ l. fields_left later (map f l)) xs i le) w

field_skipped : (later : Bool) (name : List ℕ) (v : Value) (fs : List (List ℕ × Value)) → is_no_option v ≡ true → fields_left later ((name, v) ∷ fs) ≡ fields_left later fs
field_skipped later name v fs h = rw h refl

-- a field that is `none` leaves nothing to write
pub writing_skipped : {X : Type 0} (f : X → List ℕ × Value) (xs : List X) (i : ℕ) (x : X) {whole : List ℕ} (later : Bool) {old now : Output} → i < length xs → x ≡ get_or xs i x → is_no_option (f x).1 ≡ true → Writing whole (fields_left later (map f (drop i xs))) old now → Writing whole (fields_left later (map f (drop (i + 1) xs))) old now
writing_skipped f xs i x later lt is none w = writing_as (at_item (λ l. fields_left later (map f l)) xs i x lt is ∙ field_skipped later (f x).0 (f x).1 (map f (drop (i + 1) xs)) none) w

-- `none` can be written
pub none_writable : (v : Value) → is_no_option v ≡ true → has_text v ≡ true
none_writable (value.option no_value) h = refl
none_writable (value.option (a_value v)) h = cc
none_writable (value.leaf one) h = cc
none_writable (value.unreadable kind) h = cc
none_writable (value.list vs) h = cc
none_writable (value.fixed vs) h = cc
none_writable (value.record_value fs) h = cc
none_writable (value.tuple vs) h = cc
none_writable (value.variant name payload) h = cc
none_writable (value.enum name) h = cc
none_writable (value.ok payload) h = cc
none_writable (value.err payload) h = cc
none_writable (value.flags names) h = cc
none_writable (value.map es) h = cc
