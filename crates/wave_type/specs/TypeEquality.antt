-- Whether two type trees are one, as a test.
use Rattle.std.specs.Prelude.{ℕ, Bool, true, false, ◌&&◌, ◌==◌, List}
use Rattle.std.specs.Str.{bytes_eq}
use Rattle.std.specs.Cmp.Lexicographic.{pointwise}
use Rattle.wave_wasm.specs.SimpleEquality.{same_simple, same_unreadable}
use Rattle.wave_wasm.specs.Types.{TypeTree, simple, unreadable, list, fixed, record_type, tuple, variant, enum, option, result, flags, map, Types, no_types, type_and, Fields, no_fields, field, Cases, no_cases, case_of, MaybeType, no_type, a_type}

abbrev pub same_names : List (List ℕ) → List (List ℕ) → Bool
same_names = pointwise bytes_eq

abbrev mutual
  pub same_tree : TypeTree → TypeTree → Bool
  same_tree (simple p) (simple q) = same_simple p q
  same_tree (unreadable u) (unreadable v) = same_unreadable u v
  same_tree (list t) (list u) = same_tree t u
  same_tree (fixed t n) (fixed u m) = n == m && same_tree t u
  same_tree (record_type fs) (record_type gs) = same_fields fs gs
  same_tree (tuple ts) (tuple us) = same_types ts us
  same_tree (variant cs) (variant ds) = same_cases cs ds
  same_tree (enum ns) (enum ms) = same_names ns ms
  same_tree (option t) (option u) = same_tree t u
  same_tree (result a b) (result c d) = same_payload a c && same_payload b d
  same_tree (flags ns) (flags ms) = same_names ns ms
  same_tree (map k t) (map l u) = same_simple k l && same_tree t u
  same_tree _ _ = false

  pub same_types : Types → Types → Bool
  same_types no_types no_types = true
  same_types (type_and t ts) (type_and u us) = same_tree t u && same_types ts us
  same_types _ _ = false

  pub same_fields : Fields → Fields → Bool
  same_fields no_fields no_fields = true
  same_fields (field n t fs) (field m u gs) = bytes_eq n m && (same_tree t u && same_fields fs gs)
  same_fields _ _ = false

  pub same_cases : Cases → Cases → Bool
  same_cases no_cases no_cases = true
  same_cases (case_of n p cs) (case_of m q ds) = bytes_eq n m && (same_payload p q && same_cases cs ds)
  same_cases _ _ = false

  pub same_payload : MaybeType → MaybeType → Bool
  same_payload no_type no_type = true
  same_payload (a_type t) (a_type u) = same_tree t u
  same_payload _ _ = false
