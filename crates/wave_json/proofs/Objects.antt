-- Objects by the list of their members.
use Rattle.std.proofs.Common.{◌≡◌, ◌≢◌, ℕ, suc, ◌+◌, ◌<◌, Bool, true, false, eqb, if◌then◌else◌, List, [], ◌∷◌, ◌++◌, length, get_or, drop, take, map, Option, Some, None, option_map, codes, Bor, Global, refl, sym, ap, ◌∙◌, arith}
use Rattle.std.specs.Bool.{MatchBool}
use Rattle.std.specs.Prelude.{option_and_then}
use Rattle.std.proofs.lemmas.Bool.{eqb-true, false≢true}
use Rattle.std.specs.Str.{bytes_eq}
use Rattle.std.proofs.lemmas.List.{take_more, map-append}
use Rattle.std.proofs.lemmas.Option.{slice_get-get_or}
use Rattle.json.specs.Json.{Json, Members, null, boolean, number, string, array, object, no_members}
use Rattle.json.specs.Find.{as_object, as_str}
use Rattle.json.specs.Value.{value_view, members_view}
use Rattle.json.specs.declared.value.Value.{Value}
use Rattle.wave_wasm.proofs.CanonicalText.Sequences.{at_item}
use Rattle.wave_json.specs.Private.Readers.{IsMemberAt}
use Rattle.wave_json.specs.Reading.{json_case, json_some, member_names, member_of, sole_member}

-- a member as it is held
abbrev pub Held : Type 0
Held = Bor (List ℕ) × Value Global

pub empty_object : (ms : List Held) (b : Bool) → b ≡ eqb (length ms) 0 → MatchBool b (object (members_view ms) ≡ object no_members) (object (members_view ms) ≢ object no_members)
empty_object [] true e = refl
empty_object [] false e = absurd (false≢true e)
empty_object (m ∷ ms) true e = let none = eqb-true (suc (length ms)) 0 (sym e) in absurd (omega (arith, none))
empty_object (m ∷ ms) false e = λ same. cc

-- what is an object is none but with these members
pub is_object : (j : Json) (ms : Members) → Some ms ≡ as_object j → j ≡ object ms
is_object null ms e = absurd (cc)
is_object (boolean b) ms e = absurd (cc)
is_object (number s) ms e = absurd (cc)
is_object (string s) ms e = absurd (cc)
is_object (array js) ms e = absurd (cc)
is_object (object ns) ms e = let same : ms ≡ ns = cc in ap object (sym same)

pub no_object : (j : Json) → None ≡ as_object j → j ≢ object no_members
no_object j e = λ is. let there = e ∙ ap as_object is in cc

-- the only member
pub sole_here : (ms : List Held) (m : Held) → length ms ≡ 1 → m ≡ get_or ms 0 m → sole_member (members_view ms) ≡ Some (m.0.now, value_view m.1)
sole_here [] m one is = absurd (omega (arith, one))
sole_here (x ∷ []) m one is = ap (λ (y : Held). Some (y.0.now, value_view y.1)) (sym is)
sole_here (x ∷ y ∷ ms) m one is = absurd (omega (arith, one))

pub sole_none : (ms : List Held) → length ms ≢ 1 → sole_member (members_view ms) ≡ None
sole_none [] other = refl
sole_none (x ∷ []) other = absurd (other refl)
sole_none (x ∷ y ∷ ms) other = refl

-- a case
pub case_string : (j : Json) (name : List ℕ) → Some name ≡ as_str j → Some (name, None) ≡ json_case j
case_string (string s) name e = let same : name ≡ s = cc in ap (λ (n : List ℕ). Some (n, None)) same
case_string null name e = absurd (cc)
case_string (boolean b) name e = absurd (cc)
case_string (number s) name e = absurd (cc)
case_string (array js) name e = absurd (cc)
case_string (object ms) name e = absurd (cc)

pub no_case : (j : Json) → None ≡ as_str j → None ≡ as_object j → None ≡ json_case j
no_case (string s) e f = absurd (cc)
no_case null e f = refl
no_case (boolean b) e f = refl
no_case (number s) e f = refl
no_case (array js) e f = refl
no_case (object ms) e f = absurd (cc)

abbrev with_payload : List ℕ × Json → List ℕ × Option Json
with_payload m = (m.0, Some m.1)

pub case_object : (j : Json) (ms : Members) (o : Option (List ℕ × Json)) → Some ms ≡ as_object j → o ≡ sole_member ms → option_map with_payload o ≡ json_case j
case_object j ms o e f = ap (option_map with_payload) f ∙ ap json_case (sym (is_object j ms e))

-- the payload of `some`
pub no_some : (j : Json) → None ≡ as_object j → None ≡ json_some j
no_some null f = refl
no_some (string s) f = refl
no_some (boolean b) f = refl
no_some (number s) f = refl
no_some (array js) f = refl
no_some (object ms) f = absurd (cc)

abbrev named_some : List ℕ × Json → Option Json
named_some m = if bytes_eq m.0 (codes "some") then Some m.1 else None

pub some_object : (j : Json) (ms : Members) (o : Option (List ℕ × Json)) → Some ms ≡ as_object j → o ≡ sole_member ms → option_and_then named_some o ≡ json_some j
some_object j ms o e f = ap (option_and_then named_some) f ∙ ap json_some (sym (is_object j ms e))

-- the member at a place has the name
pub member_here : (name : List ℕ) (ms : List Held) (i : ℕ) (m : Held) → i < length ms → m ≡ get_or ms i m → bytes_eq name m.0.now ≡ true → member_of name (members_view (drop i ms)) ≡ member_of name (members_view ms) → IsMemberAt name ms (Some i)
member_here name ms i m lt is e so_far = (
  m,
  slice_get-get_or ms i m lt ∙ ap Some (sym is),
  sym so_far ∙ (at_item (λ (l : List Held). member_of name (members_view l)) ms i m lt is ∙ ap (λ (b : Bool). if b then Some (value_view m.1) else member_of name (members_view (drop (i + 1) ms))) e),
)

names_held : (ms : List Held) → member_names (members_view ms) ≡ map (λ (m : Held). m.0.now) ms
names_held [] = refl
names_held (m ∷ ms) = ap (λ (l : List (List ℕ)). m.0.now ∷ l) (names_held ms)

-- the names of the members up to the next
pub names_more : (ms : List Held) (i : ℕ) (m : Held) → i < length ms → m ≡ get_or ms i m → member_names (members_view (take (i + 1) ms)) ≡ member_names (members_view (take i ms)) ++ m.0.now ∷ []
names_more ms i m lt is =
    names_held (take (i + 1) ms)
    ∙ (ap (map (λ (x : Held). x.0.now)) (take_more ms i m lt)
    ∙ (map-append (λ (x : Held). x.0.now) (take i ms) (get_or ms i m ∷ [])
    ∙ (ap (λ (x : Held). map (λ (y : Held). y.0.now) (take i ms) ++ x.0.now ∷ []) (sym is)
    ∙ ap (λ (l : List (List ℕ)). l ++ m.0.now ∷ []) (sym (names_held (take i ms))))))
