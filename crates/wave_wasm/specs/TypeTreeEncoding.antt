-- A type tree as a value that can be stored, by which two trees are told apart.
use Rattle.std.specs.Prelude.{◌≡◌, ℕ, List, [], ◌∷◌, refl, slice_index_or}
use base.Stored.{Gv, gnil, gnum, gcons, num}
use Rattle.wave_wasm.specs.Types.{s8, s16, s32, s64, u8, u16, u32, u64, Simple, bool, whole, char, string, Unreadable, f32, f64, unsupported}
use Rattle.wave_wasm.specs.Types.{TypeTree, simple, unreadable, list, fixed, record_type, tuple, variant, enum, option, result, flags, map}
use Rattle.wave_wasm.specs.Types.{MaybeType, no_type, a_type, Types, no_types, type_and, Fields, no_fields, field, Cases, no_cases, case_of}
use Rattle.std.proofs.Common.{sym, ap, ◌∙◌}
use Rattle.std.specs.Coded.{Coded}

-- the number of a simple type
abbrev pub simple_number : Simple → ℕ
simple_number bool = 0
simple_number (whole s8) = 1
simple_number (whole s16) = 2
simple_number (whole s32) = 3
simple_number (whole s64) = 4
simple_number (whole u8) = 5
simple_number (whole u16) = 6
simple_number (whole u32) = 7
simple_number (whole u64) = 8
simple_number char = 9
simple_number string = 10

-- the simple type of this number
abbrev pub numbered_simple : ℕ → Simple
numbered_simple n =
    slice_index_or
    (bool ∷ whole s8 ∷ whole s16 ∷ whole s32 ∷ whole s64 ∷ whole u8 ∷ whole u16 ∷ whole u32 ∷ whole u64 ∷ char ∷ string ∷ [])
    n bool

pub simple_back : (S : Simple) → numbered_simple (simple_number S) ≡ S
simple_back bool = refl
simple_back (whole s8) = refl
simple_back (whole s16) = refl
simple_back (whole s32) = refl
simple_back (whole s64) = refl
simple_back (whole u8) = refl
simple_back (whole u16) = refl
simple_back (whole u32) = refl
simple_back (whole u64) = refl
simple_back char = refl
simple_back string = refl

-- the number of a type without values
abbrev pub unreadable_number : Unreadable → ℕ
unreadable_number f32 = 0
unreadable_number f64 = 1
unreadable_number unsupported = 2

-- the type without values of this number
abbrev pub numbered_unreadable : ℕ → Unreadable
numbered_unreadable n = slice_index_or (f32 ∷ f64 ∷ unsupported ∷ []) n f32

pub unreadable_back : (u : Unreadable) → numbered_unreadable (unreadable_number u) ≡ u
unreadable_back f32 = refl
unreadable_back f64 = refl
unreadable_back unsupported = refl

-- a name, stored
abbrev pub stored_name : List ℕ → Gv
stored_name [] = gnil
stored_name (b ∷ n) = gcons (gnum b) (stored_name n)

-- names, stored
abbrev pub stored_names : List (List ℕ) → Gv
stored_names [] = gnil
stored_names (n ∷ ns) = gcons (stored_name n) (stored_names ns)

-- a tree is stored as the number of its kind and two parts
abbrev pub stored : ℕ → Gv → Gv → Gv
stored n a b = gcons (gnum n) (gcons a b)

-- a type, stored
abbrev mutual
  pub stored_tree : TypeTree → Gv
  stored_tree (simple S) = stored 0 (gnum (simple_number S)) gnil
  stored_tree (unreadable u) = stored 1 (gnum (unreadable_number u)) gnil
  stored_tree (list t) = stored 2 (stored_tree t) gnil
  stored_tree (fixed t n) = stored 3 (stored_tree t) (gnum n)
  stored_tree (record_type fs) = stored 4 (stored_fields fs) gnil
  stored_tree (tuple ts) = stored 5 (stored_types ts) gnil
  stored_tree (variant cs) = stored 6 (stored_cases cs) gnil
  stored_tree (enum ns) = stored 7 (stored_names ns) gnil
  stored_tree (option t) = stored 8 (stored_tree t) gnil
  stored_tree (result a b) = stored 9 (stored_maybe a) (stored_maybe b)
  stored_tree (flags ns) = stored 10 (stored_names ns) gnil
  stored_tree (map k t) = stored 11 (gnum (simple_number k)) (stored_tree t)

  -- the types of a tuple, stored
  pub stored_types : Types → Gv
  stored_types no_types = gnil
  stored_types (type_and t ts) = gcons (stored_tree t) (stored_types ts)

  -- fields, stored
  pub stored_fields : Fields → Gv
  stored_fields no_fields = gnil
  stored_fields (field n t fs) = gcons (stored_name n) (gcons (stored_tree t) (stored_fields fs))

  -- cases, stored
  pub stored_cases : Cases → Gv
  stored_cases no_cases = gnil
  stored_cases (case_of n p cs) = gcons (stored_name n) (gcons (stored_maybe p) (stored_cases cs))

  -- a payload's type, stored
  pub stored_maybe : MaybeType → Gv
  stored_maybe no_type = gnil
  stored_maybe (a_type t) = gcons (stored_tree t) gnil

-- the name that is stored so
abbrev name_in : Gv → List ℕ
name_in (gcons b n) = num b ∷ name_in n
name_in _ = []

-- the names that are stored so
abbrev names_in : Gv → List (List ℕ)
names_in (gcons n ns) = name_in n ∷ names_in ns
names_in _ = []

-- the type that is stored so
abbrev mutual
  tree_in : Gv → TypeTree
  tree_in (gcons (gnum n) (gcons a b)) =
      slice_index_or
      (simple (numbered_simple (num a)) ∷ unreadable (numbered_unreadable (num a)) ∷ list (tree_in a) ∷ fixed (tree_in a) (num b)
      ∷ record_type (fields_in a) ∷ tuple (types_in a) ∷ variant (cases_in a) ∷ enum (names_in a) ∷ option (tree_in a)
      ∷ result (maybe_in a) (maybe_in b) ∷ flags (names_in a) ∷ map (numbered_simple (num a)) (tree_in b) ∷ [])
      n (unreadable unsupported)
  tree_in _ = unreadable unsupported

  types_in : Gv → Types
  types_in (gcons t ts) = type_and (tree_in t) (types_in ts)
  types_in _ = no_types

  fields_in : Gv → Fields
  fields_in (gcons n (gcons t fs)) = field (name_in n) (tree_in t) (fields_in fs)
  fields_in _ = no_fields

  cases_in : Gv → Cases
  cases_in (gcons n (gcons p cs)) = case_of (name_in n) (maybe_in p) (cases_in cs)
  cases_in _ = no_cases

  maybe_in : Gv → MaybeType
  maybe_in (gcons t _) = a_type (tree_in t)
  maybe_in _ = no_type

name_back : (n : List ℕ) → name_in (stored_name n) ≡ n
name_back [] = refl
name_back (b ∷ n) = λ i. b ∷ name_back n i

names_back : (ns : List (List ℕ)) → names_in (stored_names ns) ≡ ns
names_back [] = refl
names_back (n ∷ ns) = λ i. name_back n i ∷ names_back ns i

mutual
  tree_back : (t : TypeTree) → tree_in (stored_tree t) ≡ t
  tree_back (simple S) = λ i. simple (simple_back S i)
  tree_back (unreadable u) = λ i. unreadable (unreadable_back u i)
  tree_back (list t) = λ i. list (tree_back t i)
  tree_back (fixed t n) = λ i. fixed (tree_back t i) n
  tree_back (record_type fs) = λ i. record_type (fields_back fs i)
  tree_back (tuple ts) = λ i. tuple (types_back ts i)
  tree_back (variant cs) = λ i. variant (cases_back cs i)
  tree_back (enum ns) = λ i. enum (names_back ns i)
  tree_back (option t) = λ i. option (tree_back t i)
  tree_back (result a b) = λ i. result (maybe_back a i) (maybe_back b i)
  tree_back (flags ns) = λ i. flags (names_back ns i)
  tree_back (map k t) = λ i. map (simple_back k i) (tree_back t i)

  types_back : (ts : Types) → types_in (stored_types ts) ≡ ts
  types_back no_types = refl
  types_back (type_and t ts) = λ i. type_and (tree_back t i) (types_back ts i)

  fields_back : (fs : Fields) → fields_in (stored_fields fs) ≡ fs
  fields_back no_fields = refl
  fields_back (field n t fs) = λ i. field (name_back n i) (tree_back t i) (fields_back fs i)

  cases_back : (cs : Cases) → cases_in (stored_cases cs) ≡ cs
  cases_back no_cases = refl
  cases_back (case_of n p cs) = λ i. case_of (name_back n i) (maybe_back p i) (cases_back cs i)

  maybe_back : (p : MaybeType) → maybe_in (stored_maybe p) ≡ p
  maybe_back no_type = refl
  maybe_back (a_type t) = λ i. a_type (tree_back t i)

-- two types that are stored alike are one
pub stored_apart : (t u : TypeTree) → stored_tree t ≡ stored_tree u → t ≡ u
stored_apart t u e = sym (tree_back t) ∙ (ap tree_in e ∙ tree_back u)

-- how types are stored
abbrev pub tree_code : Coded TypeTree
tree_code = record { code = stored_tree; inj = stored_apart }
