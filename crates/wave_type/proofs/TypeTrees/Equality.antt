-- Whether two lists of types have the same trees, turn by turn.
use Rattle.std.proofs.Common.{◌≡◌, ℕ, zero, suc, ◌<◌, ◌≤◌, Bool, true, false, ◌&&◌, List, [], ◌∷◌, map, length, get_or, String, string_bytes, Option, Some, None, sym, ap, ◌∙◌, refl, arith}
use Rattle.std.proofs.Math.Bool.{and_assoc}
use Rattle.std.specs.Cmp.Lexicographic.{pointwise}
use Rattle.std.specs.Option.{option_eq}
use Rattle.std.specs.Str.{bytes_eq}
use Rattle.std.specs.String.{string_eq}
use Rattle.std.specs.declared.alloc.Global.{Global}
use Rattle.wave_wasm.specs.Types.{TypeTree, types_of, fields_of, cases_of, maybe_type, depth_of_types, depth_of_fields, depth_of_cases, depth_of_maybe, depth}
use Rattle.wave_type.specs.TypeEquality.{same_tree, same_types, same_fields, same_cases, same_payload, same_names}
use Rattle.wave_type.specs.TypeModel.{by_bytes}

-- what are no equal numbers are none under other names
pub unequal : {k l : ℕ} (m n : ℕ) → m ≡ k → n ≡ l → (m ≡ n → ⊥) → k ≡ l → ⊥
unequal m n hm hn h e = h (hm ∙ (e ∙ sym hn))

pub and_false : (a b : Bool) → false ≡ b → false ≡ (a && b)
and_false true b e = e
and_false false b e = refl

-- ---- `==` of what is kept, by what it is kept for

pub names_same : (ns ms : List (String Global)) → pointwise string_eq ns ms ≡ same_names (map string_bytes ns) (map string_bytes ms)
names_same [] [] = refl
names_same [] (m ∷ ms) = refl
names_same (n ∷ ns) [] = refl
names_same (n ∷ ns) (m ∷ ms) = ap (λ b. bytes_eq (string_bytes n) (string_bytes m) && b) (names_same ns ms)

pub types_same : (ts us : List TypeTree) → pointwise same_tree ts us ≡ same_types (types_of ts) (types_of us)
types_same [] [] = refl
types_same [] (u ∷ us) = refl
types_same (t ∷ ts) [] = refl
types_same (t ∷ ts) (u ∷ us) = ap (λ b. same_tree t u && b) (types_same ts us)

pub payload_same : (p q : Option TypeTree) → option_eq same_tree p q ≡ same_payload (maybe_type p) (maybe_type q)
payload_same None None = refl
payload_same None (Some u) = refl
payload_same (Some t) None = refl
payload_same (Some t) (Some u) = refl

abbrev pub same_field : String Global × TypeTree → String Global × TypeTree → Bool
same_field f g = string_eq f.0 g.0 && same_tree f.1 g.1

abbrev pub same_case : String Global × Option TypeTree → String Global × Option TypeTree → Bool
same_case c d = string_eq c.0 d.0 && option_eq same_tree c.1 d.1

pub fields_same : (fs gs : List (String Global × TypeTree)) → pointwise same_field fs gs ≡ same_fields (fields_of (map by_bytes fs)) (fields_of (map by_bytes gs))
fields_same [] [] = refl
fields_same [] (g ∷ gs) = refl
fields_same (f ∷ fs) [] = refl
fields_same (f ∷ fs) (g ∷ gs) =
    and_assoc (string_eq f.0 g.0) (same_tree f.1 g.1) (pointwise same_field fs gs) ∙ ap (λ b. bytes_eq (string_bytes f.0) (string_bytes g.0) && (same_tree f.1 g.1 && b)) (fields_same fs gs)

pub cases_same : (cs ds : List (String Global × Option TypeTree)) → pointwise same_case cs ds ≡ same_cases (cases_of (map by_bytes cs)) (cases_of (map by_bytes ds))
cases_same [] [] = refl
cases_same [] (d ∷ ds) = refl
cases_same (c ∷ cs) [] = refl
cases_same (c ∷ cs) (d ∷ ds) =
    and_assoc (string_eq c.0 d.0) (option_eq same_tree c.1 d.1) (pointwise same_case cs ds)
    ∙ λ i. bytes_eq (string_bytes c.0) (string_bytes d.0) && (payload_same c.1 d.1 i && cases_same cs ds i)

-- ---- parts at a place

pub type_at : (ts : List TypeTree) (i : ℕ) (t : TypeTree) → i < length ts → t ≡ get_or ts i t → depth t ≤ depth_of_types (types_of ts)
type_at [] i t h is = absurd (omega arith)
type_at (u ∷ ts) zero t h is = omega (arith, ap depth is)
type_at (u ∷ ts) (suc i) t h is = omega (arith, type_at ts i t (omega arith) is)

pub field_at : (fs : List (String Global × TypeTree)) (i : ℕ) (f : String Global × TypeTree) → i < length fs → f ≡ get_or fs i f → depth f.1 ≤ depth_of_fields (fields_of (map by_bytes fs))
field_at [] i f h is = absurd (omega arith)
field_at (g ∷ fs) zero f h is = omega (arith, ap (λ (k : String Global × TypeTree). depth k.1) is)
field_at (g ∷ fs) (suc i) f h is = omega (arith, field_at fs i f (omega arith) is)

pub case_at : (cs : List (String Global × Option TypeTree)) (i : ℕ) (c : String Global × Option TypeTree) → i < length cs → c ≡ get_or cs i c → depth_of_maybe (maybe_type c.1) ≤ depth_of_cases (cases_of (map by_bytes cs))
case_at [] i c h is = absurd (omega arith)
case_at (d ∷ cs) zero c h is = omega (arith, ap (λ (k : String Global × Option TypeTree). depth_of_maybe (maybe_type k.1)) is)
case_at (d ∷ cs) (suc i) c h is = omega (arith, case_at cs i c (omega arith) is)
