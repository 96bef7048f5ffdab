-- Parts that a value of the type has make a value that fits.
use Rattle.std.proofs.Common.{ℕ, ◌≡◌, List, [], ◌∷◌, refl, sym, ap, subst, ◌∙◌, Option, Some, None, Ok, Err}
use Rattle.std.specs.List.{position}
use Rattle.std.specs.Str.{bytes_eq}
use Rattle.wave_wasm.specs.Types as type
use Rattle.wave_wasm.specs.Types.{TypeTree, Types, Cases, HasDistinctNames, list_part, option_part, result_parts, map_parts, variant_parts, case_names, case_list, type_list, type_option}
use Rattle.wave_wasm.specs.Values as value
use Rattle.wave_wasm.specs.Values.{Value, maybe_value, entries}
use Rattle.wave_wasm.specs.Lists.{SomeOf}
use Rattle.wave_wasm.specs.Names.{AreDistinct}
use Rattle.wave_wasm.specs.ConstructorContracts.{AreOf, PayloadIsOf, leaf_entries, TypedList, TypedTuple, TypedVariant, TypedOption, TypedResult, TypedMap}
use Rattle.wave_type.specs.TypeModel.{tuple_part}
use Rattle.wave_value.specs.TypedValue.{TypedValue, IsAt}
use Rattle.wave_value.specs.ValueModel.{payload_tree}
use Rattle.wave_value.specs.Private.ValueModel.{entry_trees, EachAt, PayloadAt, ListFits, TupleFits, OptionFits, OkFits, ErrFits, MapFits}
use Rattle.wave_value.specs.CaseRules.{IsFirstCase, BuiltMap, TakesMap}
use Rattle.wave_value.specs.ConstructorRules.{Built, TakesTuple, TakesOption, TakesResult}
use Rattle.wave_value.proofs.ValueModel.ContentMeaning.{option_value, ok_value, err_value, map_value}
use Rattle.wave_value.proofs.ValueModel.Lists.{map_back, entry_list-entries}
use Rattle.wave_value.proofs.ConstructorAnswers.Maps.{entries_own}
use Rattle.wave_value.proofs.ConstructorAnswers.Tuples.{each_own}
use Rattle.wave_value.proofs.ConstructorAnswers.VariantsAndFlags.{case_at, first_found, own_payload}
use Rattle.wave_value.proofs.Lawful.VariantsFlagsMaps.{first_of, one_first}

-- when a value is of a type
abbrev Of : TypedValue → TypeTree → Type 0
Of v T = IsAt T v

-- ---- lists

-- items that a list of the type has
pub list_fits : (T E : TypeTree) (vs : List TypedValue) → Some E ≡ list_part T → TypedList Of T vs → ListFits T vs
list_fits (type.list F) E vs is h = h
list_fits (type.fixed F n) E vs is h = h
list_fits _ E vs is h = absurd (cc)

-- ---- tuples

each_at : (Ts : List TypeTree) (vs : List TypedValue) → AreOf Of Ts vs → EachAt Ts vs
each_at [] [] h = tt
each_at [] (v ∷ vs) h = absurd h
each_at (T ∷ Ts) [] h = absurd h
each_at (T ∷ Ts) (v ∷ vs) h = (h.0, each_at Ts vs h.1)

-- items that a tuple of the type has
pub tuple_fits : (T : TypeTree) (Ts : Types) (vs : List TypedValue) → Some Ts ≡ tuple_part T → TypedTuple Of T vs → TupleFits T vs
tuple_fits (type.tuple Us) Ts vs is h = each_at (type_list Us) vs h
tuple_fits _ Ts vs is h = absurd (cc)

-- items that fit a tuple are taken
pub tuple_taken : (T : TypeTree) (vs : List TypedValue) → TupleFits T vs → TakesTuple T vs
tuple_taken (type.tuple Ts) vs h = each_own (type_list Ts) vs h
tuple_taken _ vs h = absurd h

-- ---- variants

payload_at : (P : Option TypeTree) (p : Option TypedValue) → PayloadIsOf Of P p → PayloadAt P p
payload_at None None h = tt
payload_at None (Some v) h = absurd h
payload_at (Some T) None h = absurd h
payload_at (Some T) (Some v) h = h

-- the case at this place, the first of its name, is the one with this payload type
first_fits : (cs : Cases) (name : List ℕ) (i : ℕ) (p : Option TypedValue) (P : Option TypeTree) → AreDistinct (case_names cs) → SomeOf (λ c. c ≡ (name, P)) (case_list cs) → Some i ≡ position (λ c. bytes_eq name c.0) (case_list cs) → PayloadIsOf Of P p → PayloadAt (case_at (case_list cs) i).1 p
first_fits cs name i p P distinct case e h =
    let found : IsFirstCase (case_list cs) name (case_at (case_list cs) i).1 = first_found (case_list cs) name i (case_at (case_list cs) i) e refl in
    subst (λ Q. PayloadAt Q p) (sym (one_first (case_list cs) name P (case_at (case_list cs) i).1 (first_of cs name P distinct case) found)) (payload_at P p h)

-- where no name stands twice, the case that was found states the payload's type
pub case_fits : (T : TypeTree) (name : List ℕ) (i : ℕ) (p : Option TypedValue) → HasDistinctNames T → TypedVariant Of T name p → Some i ≡ position (λ c. bytes_eq name c.0) (variant_parts T) → PayloadAt (case_at (variant_parts T) i).1 p
case_fits (type.variant cs) name i p distinct (P, case, h) e = first_fits cs name i p P distinct.0 case e h
case_fits _ name i p distinct h e = absurd (cc)

-- ---- options and results

-- a payload that an option of the type has
pub option_fits : (T P : TypeTree) (p : Option TypedValue) → Some P ≡ option_part T → TypedOption Of T p → OptionFits T p
option_fits (type.option Q) P None is h = tt
option_fits (type.option Q) P (Some v) is h = h
option_fits _ P p is h = absurd (cc)

-- the option is made of it
pub option_built : (T own : TypeTree) (p q : Option TypedValue) → own ≡ T → q ≡ p → OptionFits T p → Built (value.option (maybe_value (payload_tree p))) T (record { own = own; tree = value.option (maybe_value (payload_tree q)) })
option_built T own p q same held fits = record { own = same; tree = ap (λ x. value.option (maybe_value (payload_tree x))) held; fits = option_value T p fits }

-- a payload that fits an option is taken
pub option_taken : (T : TypeTree) (p : Option TypedValue) → OptionFits T p → TakesOption T p
option_taken (type.option P) None h = tt
option_taken (type.option P) (Some v) h = h.own
option_taken _ p h = absurd h

-- a payload that `ok` of the type has
pub ok_fits : (T : TypeTree) (parts : Option TypeTree × Option TypeTree) (p : Option TypedValue) → Some parts ≡ result_parts T → TypedResult Of T (Ok p) → OkFits T p
ok_fits (type.result A B) parts p is h = payload_at (type_option A) p h
ok_fits _ parts p is h = absurd (cc)

-- so for `err`
pub err_fits : (T : TypeTree) (parts : Option TypeTree × Option TypeTree) (p : Option TypedValue) → Some parts ≡ result_parts T → TypedResult Of T (Err p) → ErrFits T p
err_fits (type.result A B) parts p is h = payload_at (type_option B) p h
err_fits _ parts p is h = absurd (cc)

-- `ok` and `err` are made of them
pub ok_built : (T own : TypeTree) (p q : Option TypedValue) → own ≡ T → q ≡ p → OkFits T p → Built (value.ok (maybe_value (payload_tree p))) T (record { own = own; tree = value.ok (maybe_value (payload_tree q)) })
ok_built T own p q same held fits = record { own = same; tree = ap (λ x. value.ok (maybe_value (payload_tree x))) held; fits = ok_value T p fits }

pub err_built : (T own : TypeTree) (p q : Option TypedValue) → own ≡ T → q ≡ p → ErrFits T p → Built (value.err (maybe_value (payload_tree p))) T (record { own = own; tree = value.err (maybe_value (payload_tree q)) })
err_built T own p q same held fits = record { own = same; tree = ap (λ x. value.err (maybe_value (payload_tree x))) held; fits = err_value T p fits }

-- payloads that fit a result are taken
pub ok_taken : (T : TypeTree) (p : Option TypedValue) → OkFits T p → TakesResult T (Ok p)
ok_taken (type.result A B) p h = own_payload (type_option A) p h
ok_taken _ p h = absurd h

pub err_taken : (T : TypeTree) (p : Option TypedValue) → ErrFits T p → TakesResult T (Err p)
err_taken (type.result A B) p h = own_payload (type_option B) p h
err_taken _ p h = absurd h

-- ---- maps

-- entries that a map of the type has
pub map_fits : (T : TypeTree) (parts : TypeTree × TypeTree) (es : List (TypedValue × TypedValue)) → Some parts ≡ map_parts T → TypedMap Of T es → MapFits T es
map_fits (type.map K V) parts es is h = h
map_fits _ parts es is h = absurd (cc)

-- the map has the entries as they were handed over
pub map_built : (T own : TypeTree) (es : List (TypedValue × TypedValue)) → own ≡ T → MapFits T es → BuiltMap es T (record { own = own; tree = value.map (entries (entry_trees es)) })
map_built T own es same fits =
    (entry_trees es, map_back T es fits ∙ ap leaf_entries (entry_list-entries (entry_trees es)), record { own = same; tree = refl; fits = map_value T es fits })

-- entries that fit a map are taken
pub map_taken : (T : TypeTree) (es : List (TypedValue × TypedValue)) → MapFits T es → TakesMap T es
map_taken (type.map K V) es h = entries_own (type.simple K) V es h
map_taken _ es h = absurd h
