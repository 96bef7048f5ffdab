-- What the fields of a record print, and that they fill the record.
use Rattle.std.proofs.Common.{◌≡◌, ℕ, ◌≤◌, ◌<◌, Bool, true, false, List, [], ◌∷◌, inl, inr, length, map, Option, Some, None, refl, sym, ap, subst, ◌∙◌, arith}
use Rattle.std.specs.Prelude.{max, ◌⊎◌, if◌then◌else◌}
use Rattle.std.specs.Str.{bytes_eq}
use Rattle.wave_wasm.specs.Lists.{AllOf}
use Rattle.wave_wasm.specs.Types as type
use Rattle.wave_wasm.specs.Types.{TypeTree, Fields, field_names}
use Rattle.wave_wasm.specs.Names.{IsNoneOf, AreDistinct}
use Rattle.wave_wasm.specs.Values as value
use Rattle.wave_wasm.specs.Values.{Value, FieldValues, no_value, no_fields, field}
use Rattle.wave_wasm.specs.HasType.{HasType, HasFields}
use Rattle.wave_wasm.specs.Merge.{merged, merged_fields}
use Rattle.wave_wasm.specs.Commas.{behind_name}
use Rattle.wave_wasm.specs.Text.{printed, printed_fields, is_no_option, record_text}
use Rattle.wave_lex.specs.Labels.{IsLabel}
use Rattle.wave_grammar.specs.Token.{brace_open, brace_close, colon}
use Rattle.wave_grammar.specs.CommaSeparated.{Spelling, Listed}
use Rattle.wave_grammar.specs.TypedGrammar.{Named, EmptyBraces, look_up, IsOption, FieldIs, Fills}
use Rattle.wave_grammar.proofs.RoundTrip.Tokenizes.{Writes, WritesField}
use Rattle.wave_wasm.proofs.Names.Subsequences.{same_bytes, unlike}
use Rattle.wave_grammar.proofs.RoundTrip.Depth.{height, height_of_fields}
use Rattle.wave_grammar.proofs.RoundTrip.Injective.{Prints, brace_open_cut, brace_close_cut, bare_colon_cut}
use Rattle.wave_grammar.proofs.RoundTrip.Items.{AllPrint, all_print, braces_print, named_print}

-- the fields that are written: those that aren't `none`
abbrev pub written_fields : FieldValues → List (List ℕ × Value)
written_fields no_fields = []
written_fields (field name v more) = if is_no_option v then written_fields more else (name, v) ∷ written_fields more

-- the names of the fields
abbrev pub names_of : FieldValues → List (List ℕ)
names_of no_fields = []
names_of (field name v more) = name ∷ names_of more

-- ---- names

written_none : (fs : FieldValues) (name : List ℕ) → IsNoneOf (names_of fs) name → IsNoneOf (map (λ e. e.0) (written_fields fs)) name
written_none no_fields name n = tt
written_none (field first v more) name n = by_test (is_no_option v) (written_none more name n.1)
  where
    by_test : (t : Bool) → IsNoneOf (map (λ e. e.0) (written_fields more)) name → IsNoneOf (map (λ e. e.0) (if t then written_fields more else (first, v) ∷ written_fields more)) name
    by_test true w = w
    by_test false w = (n.0, w)

-- the written fields have distinct names
pub written_distinct : (fs : FieldValues) → AreDistinct (names_of fs) → AreDistinct (map (λ e. e.0) (written_fields fs))
written_distinct no_fields d = tt
written_distinct (field name v more) d = by_test (is_no_option v) (written_distinct more d.1)
  where
    by_test : (t : Bool) → AreDistinct (map (λ e. e.0) (written_fields more)) → AreDistinct (map (λ e. e.0) (if t then written_fields more else (name, v) ∷ written_fields more))
    by_test true w = w
    by_test false w = (written_none more name d.0, w)

-- ---- what is found under a name

looked_none : (found : List (List ℕ × Value)) (name : List ℕ) → IsNoneOf (map (λ e. e.0) found) name → look_up found name ≡ None
looked_none [] name n = refl
looked_none (e ∷ more) name n = let f : bytes_eq name e.0 ≡ false = unlike name e.0 n.0 in rw f (looked_none more name n.1)

-- a field's value, where the field is written
abbrev pub written_value : Value → Option Value
written_value v = if is_no_option v then None else Some v

-- under each name stands the field's value where it is written, and nothing else
abbrev pub AreFound : List (List ℕ × Value) → FieldValues → Type 0
AreFound found no_fields = Unit {0}
AreFound found (field name v more) = (look_up found name ≡ written_value v) × AreFound found more

-- a field of another name before it changes nothing
found_past : (name : List ℕ) (v : Value) (found : List (List ℕ × Value)) (fs : FieldValues) → IsNoneOf (names_of fs) name → AreFound found fs → AreFound ((name, v) ∷ found) fs
found_past name v found no_fields n h = tt
found_past name v found (field first w more) n h =
    let e : bytes_eq first name ≡ false = unlike first name (λ f. n.0 (sym f)) in
    (rw e h.0, found_past name v found more n.1 h.1)

pub all_found : (fs : FieldValues) → AreDistinct (names_of fs) → AreFound (written_fields fs) fs
all_found no_fields d = tt
all_found (field name v more) d = by_test (is_no_option v) (all_found more d.1)
  where
    by_test : (t : Bool) → AreFound (written_fields more) more
        → (look_up (if t then written_fields more else (name, v) ∷ written_fields more) name ≡ (if t then None else Some v)) × AreFound (if t then written_fields more else (name, v) ∷ written_fields more) more
    by_test true w = (looked_none (written_fields more) name (written_none more name d.0), w)
    by_test false w = ((let self : bytes_eq name name ≡ true = same_bytes name in rw self refl), found_past name v (written_fields more) more d.0 w)

-- ---- filling

-- a merged value that is `none` is an option's
pub none_at_option : (T : TypeTree) (v : Value) → HasType T v → is_no_option (merged v) ≡ true → IsOption T × (merged v ≡ value.option no_value)
none_at_option (type.simple S) v (one, of, e) h = let wrong : false ≡ true = ap (λ (z : Value). is_no_option (merged z)) (sym e) ∙ h in cc
none_at_option (type.unreadable kind) v t h = absurd t
none_at_option (type.list E) v (vs, all, e) h = let wrong : false ≡ true = ap (λ (z : Value). is_no_option (merged z)) (sym e) ∙ h in cc
none_at_option (type.fixed E n) v (vs, all, long, e) h = let wrong : false ≡ true = ap (λ (z : Value). is_no_option (merged z)) (sym e) ∙ h in cc
none_at_option (type.record_type fs) v (all, of, e) h = let wrong : false ≡ true = ap (λ (z : Value). is_no_option (merged z)) (sym e) ∙ h in cc
none_at_option (type.tuple Ts) v (vs, all, e) h = let wrong : false ≡ true = ap (λ (z : Value). is_no_option (merged z)) (sym e) ∙ h in cc
none_at_option (type.variant cs) v (name, payload, of, e) h = let wrong : false ≡ true = ap (λ (z : Value). is_no_option (merged z)) (sym e) ∙ h in cc
none_at_option (type.enum names) v (name, of, e) h = let wrong : false ≡ true = ap (λ (z : Value). is_no_option (merged z)) (sym e) ∙ h in cc
none_at_option (type.option P) v (inl e) h = (tt, ap merged e)
none_at_option (type.option P) v (inr (w, of, e)) h = let wrong : false ≡ true = ap (λ (z : Value). is_no_option (merged z)) (sym e) ∙ h in cc
none_at_option (type.result A B) v (inl (payload, of, e)) h = let wrong : false ≡ true = ap (λ (z : Value). is_no_option (merged z)) (sym e) ∙ h in cc
none_at_option (type.result A B) v (inr (payload, of, e)) h = let wrong : false ≡ true = ap (λ (z : Value). is_no_option (merged z)) (sym e) ∙ h in cc
none_at_option (type.flags names) v (picked, of, e) h = let wrong : false ≡ true = ap (λ (z : Value). is_no_option (merged z)) (sym e) ∙ h in cc
none_at_option (type.map K V) v (es, of, e) h = let wrong : false ≡ true = ap (λ (z : Value). is_no_option (merged z)) (sym e) ∙ h in cc

field_is : (T : TypeTree) (v : Value) → HasType T v → (t : Bool) → is_no_option (merged v) ≡ t → FieldIs T (if t then None else Some (merged v)) (merged v)
field_is T v of true e = none_at_option T v of e
field_is T v of false e = refl

-- the fields of the type fill themselves
pub filled : (fs : Fields) (all : FieldValues) (found : List (List ℕ × Value)) → HasFields fs all → AreFound found (merged_fields all) → Fills fs found (merged_fields all)
filled type.no_fields all found e h = ap merged_fields e
filled (type.field name T more) all found (w, others, of, rest, e) h =
    let k : AreFound found (field name (merged w) (merged_fields others)) = subst (λ (z : FieldValues). AreFound found (merged_fields z)) e h in (
      merged w,
      merged_fields others,
      subst (λ (z : Option Value). FieldIs T z (merged w)) (sym k.0) (field_is T w of (is_no_option (merged w)) refl),
      filled more others found rest k.1,
      ap merged_fields e,
    )

-- the merged fields have the names of the type's fields
pub names_same : (fs : Fields) (all : FieldValues) → HasFields fs all → names_of (merged_fields all) ≡ field_names fs
names_same type.no_fields all e = ap (λ (z : FieldValues). names_of (merged_fields z)) e
names_same (type.field name T more) all (w, others, of, rest, e) = ap (λ (z : FieldValues). names_of (merged_fields z)) e ∙ ap (λ (z : List (List ℕ)). name ∷ z) (names_same more others rest)

-- ---- printing

-- each field's value prints at its type, within any levels that are enough
abbrev pub FieldsPrint : Fields → FieldValues → Type 0
FieldsPrint type.no_fields no_fields = Unit {0}
FieldsPrint (type.field name T more) (field other v others) = (other ≡ name) × ((n : ℕ) → height v ≤ n → Prints (Writes T n) (printed v) v) × FieldsPrint more others
FieldsPrint fs all = ⊥

pub fields_print : (fs : Fields) (n : ℕ) (all : FieldValues) → AllOf IsLabel (field_names fs) → FieldsPrint fs all → height_of_fields all ≤ n → AllPrint (Named (WritesField fs n)) (printed_fields all) (written_fields all)
fields_print type.no_fields n no_fields labels h l = tt
fields_print (type.field name T more) n (field other v others) labels (same, p, h) l =
    let rest : AllPrint (Named (WritesField more n)) (printed_fields others) (written_fields others) = fields_print more n others labels.1 h (omega arith) in
    let wider : AllPrint (Named (WritesField (type.field name T more) n)) (printed_fields others) (written_fields others) =
    all_print (Named (WritesField more n)) (Named (WritesField (type.field name T more) n)) (λ tokens e behind k. let (text, prefix, f, g, i) = k in (text, prefix, f, g, inr i)) (printed_fields others) (written_fields others) rest in
    by_test (is_no_option v) wider (λ low. p n low) l
  where
    by_test : (t : Bool) → AllPrint (Named (WritesField (type.field name T more) n)) (printed_fields others) (written_fields others)
        → (height v ≤ n → Prints (Writes T n) (printed v) v) → max (if t then 0 else height v) (height_of_fields others) ≤ n
        → AllPrint (Named (WritesField (type.field name T more) n)) (if t then printed_fields others else behind_name other (printed v) ∷ printed_fields others) (if t then written_fields others else (other, v) ∷ written_fields others)
    by_test true w q low = w
    by_test false w q low = (
      named_print (WritesField (type.field name T more) n) other (printed v) v (subst IsLabel (sym same) labels.0)
          (λ r behind s cut. let (tokens, c, i) = q (omega arith) r behind s cut in (tokens, c, inl (same, i))),
      w,
    )
fields_print _ n _ labels h l = absurd h

-- the braces of a record
pub record_prints : {A : Type 0} (Item : Spelling A) (xs : List (List ℕ)) (items : List A) → AllPrint Item xs items
    → Prints (λ tokens all rest. EmptyBraces tokens all rest ⊎ Listed brace_open brace_close Item tokens all rest × (0 < length all)) (record_text xs) items
record_prints Item [] [] h r rest s cut =
    (brace_open ∷ colon ∷ brace_close ∷ rest, brace_open_cut (58 ∷ 125 ∷ r) (colon ∷ brace_close ∷ rest) (bare_colon_cut (125 ∷ r) (brace_close ∷ rest) (brace_close_cut r rest cut)), inl (refl, refl))
record_prints Item (x ∷ xs) (a ∷ items) h r rest s cut = let (tokens, c, i) = braces_print Item (x ∷ xs) (a ∷ items) h r rest s cut in (tokens, c, inr (i, omega arith))
record_prints Item _ _ h r rest s cut = absurd h
