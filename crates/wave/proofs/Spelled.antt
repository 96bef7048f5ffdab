-- In types that a text spells no name stands twice, and a text spells one type, and one list of parameters.
use Rattle.std.proofs.Common.{ℕ, ◌≡◌, ◌≢◌, ◌≤◌, ◌↔◌, ◌∙◌, Bool, true, false, IsTrue, List, [], ◌∷◌, Some, None, drop, refl, sym, ap, subst, arith, codes}
use Rattle.std.specs.Prelude.{max}
use Rattle.wave_wasm.specs.Lists.{AllOf}
use Rattle.wave_wasm.specs.Names.{AreDistinct}
use Rattle.wave_wasm.specs.Types as type
use Rattle.wave_wasm.specs.Types.{TypeTree, MaybeType, Types, Fields, Cases, no_type, a_type, no_types, type_and, no_fields, field, no_cases, case_of, fields_of, field_list, field_names, HasDistinctNames, EachNamesOfMaybe, EachNamesOfTypes, EachNamesOfFields, EachNamesOfCases}
use Rattle.wave_lex.specs.Labels.{HasDistinctLabels}
use Rattle.wave_type.specs.FunctionSpelling.{SpellsParts, IsFunctionOf, levels_of_function}
use Rattle.wave_type.specs.FunctionType.{FunctionType, types_of}
use Rattle.wave_type.specs.TypeSpelling.{Tokens, Names, Spells, SpellsTypes, SpellsFields, SpellsCases, SpellsPayload, IsTypeOf, levels_of, levels_of_fields}
use Rattle.wave_type.proofs.TypeReading.SpelledNames.{function_text_labelled}
use Rattle.wave_type.proofs.TypeReading.Complete.{one_spelling, fields_all, read_complete, name_stands, paren}
use Rattle.wave_type.proofs.TypeTrees.Lists.{field_list-fields_of}
use Rattle.wave_type.proofs.TypeReading.TextTokens.{one_cut}
use Rattle.wave.specs.Types.{HasValue, NamesType, NamesFunction, text_of}

mutual
  spelled : (T : TypeTree) (ts rest : Tokens) → Spells T ts rest → HasDistinctNames T
  spelled (type.simple S) ts rest h = tt
  spelled (type.unreadable kind) ts rest h = tt
  spelled (type.list E) ts rest h = spelled E _ _ h.3
  spelled (type.fixed E n) ts rest h = spelled E _ _ h.3
  spelled (type.option P) ts rest h = spelled P _ _ h.3
  spelled (type.map K V) ts rest h = spelled V _ _ h.3
  spelled (type.result no_type no_type) ts rest h = (tt, tt)
  spelled (type.result (a_type T) no_type) ts rest h = (spelled T _ _ h.3, tt)
  spelled (type.result no_type (a_type E)) ts rest h = (tt, spelled E _ _ h.3)
  spelled (type.result (a_type T) (a_type E)) ts rest h = (spelled T _ _ h.4, spelled E _ _ h.5)
  spelled (type.tuple Ts) ts rest h = spelled_types Ts _ _ h.2
  spelled (type.record_type fs) ts rest h = (h.3, spelled_fields (codes "}") fs _ _ h.2)
  spelled (type.variant cs) ts rest h = (h.3, spelled_cases cs _ _ h.2)
  spelled (type.enum names) ts rest h = h.3
  spelled (type.flags names) ts rest h = h.3

  spelled_types : (Ts : Types) (ts rest : Tokens) → SpellsTypes Ts ts rest → EachNamesOfTypes AreDistinct Ts
  spelled_types no_types ts rest h = tt
  spelled_types (type_and T no_types) ts rest h = (spelled T _ _ h.1, tt)
  spelled_types (type_and T (type_and U more)) ts rest h = (spelled T _ _ h.1, spelled_types (type_and U more) _ _ h.2)

  -- so in fields
  pub spelled_fields : (mark : List ℕ) (fs : Fields) (ts rest : Tokens) → SpellsFields mark fs ts rest → EachNamesOfFields AreDistinct fs
  spelled_fields mark no_fields ts rest h = tt
  spelled_fields mark (field name T no_fields) ts rest h = (spelled T _ _ h.5, tt)
  spelled_fields mark (field name T (field n U more)) ts rest h = (spelled T _ _ h.5, spelled_fields mark (field n U more) _ _ h.6)

  spelled_cases : (cs : Cases) (ts rest : Tokens) → SpellsCases cs ts rest → EachNamesOfCases AreDistinct cs
  spelled_cases no_cases ts rest h = tt
  spelled_cases (case_of name P no_cases) ts rest h = (spelled_payload P _ _ h.5, tt)
  spelled_cases (case_of name P (case_of n Q more)) ts rest h = (spelled_payload P _ _ h.5, spelled_cases (case_of n Q more) _ _ h.6)

  spelled_payload : (P : MaybeType) (ts rest : Tokens) → SpellsPayload P ts rest → EachNamesOfMaybe AreDistinct P
  spelled_payload no_type ts rest h = tt
  spelled_payload (a_type T) ts rest h = spelled T _ _ h.2

-- no name stands twice in the type that a word names
pub named_distinct : (word : List ℕ) (T : TypeTree) → NamesType word T → HasDistinctNames T
named_distinct word T h = spelled T _ _ h.0.2

-- a text spells one type
one_type : (text : List ℕ) (T U : TypeTree) → IsTypeOf text T → IsTypeOf text U → T ≡ U
one_type text T U h k = (one_spelling T U h.0 [] [] h.2 (subst (λ ts. Spells U ts []) (one_cut k.0 h.0 text k.1 h.1) k.2)).0

module _ (word text : List ℕ) (stands : text ≡ text_of word) where
  -- the type is what the word names
  pub names : (T : TypeTree) → IsTypeOf text T → levels_of T ≤ 100 → HasValue T → NamesType word T
  names T spells within has = (subst (λ s. IsTypeOf s T) stands spells, within, has)

  -- the text spells a type that has no value
  names_empty : (T : TypeTree) → IsTypeOf text T → (HasValue T → ⊥) → (U : TypeTree) → NamesType word U → ⊥
  names_empty T spells none U h = none (subst HasValue (sym (one_type text T U spells (subst (λ s. IsTypeOf s U) (sym stands) h.0))) h.2)

  -- it has none where the test says so
  pub names_untested : (T : TypeTree) (b : Bool) → IsTypeOf text T → IsTrue b ↔ HasValue T → b ≡ false → (U : TypeTree) → NamesType word U → ⊥
  names_untested T b spells tested is = names_empty T spells (λ has. absurd (cc (sym is ∙ tested.1 has)))

-- ---- functions

no_paren : (name t : List ℕ) (rest m : Tokens) → codes ")" ∷ rest ≡ t ∷ m → Names t name → ⊥
no_paren name t rest m e named = let wrong : Some rest ≡ None = name_stands (codes ")") t name (codes ")" ∷ rest) m paren e named in cc

no_fields_there : (fs : Fields) (ts r rest : Tokens) → ts ≡ codes ")" ∷ rest → SpellsFields (codes ")") fs ts r → ⊥
no_fields_there no_fields ts r rest e h = h
no_fields_there (field name T no_fields) ts r rest e (t, m, l, is, named, spelled_type, more) = no_paren name t rest (codes ":" ∷ m) (sym e ∙ is) named
no_fields_there (field name T (field n U others)) ts r rest e (t, m, l, is, named, spelled_type, more) = no_paren name t rest (codes ":" ∷ m) (sym e ∙ is) named

unwrapped : {A : Type 0} (p q : A) → Some p ≡ Some q → p ≡ q
unwrapped p q e = cc

-- tokens spell one list of fields
one_fields : (fs gs : Fields) (ts r s : Tokens) → SpellsFields (codes ")") fs ts r → AreDistinct (field_names fs) → SpellsFields (codes ")") gs ts s → AreDistinct (field_names gs) → field_list fs ≡ field_list gs
one_fields fs gs ts r s h d k f =
    let n = max (levels_of_fields fs) (levels_of_fields gs) in
    let a = fields_all n _ (read_complete n) (codes ")") paren fs ts r (omega arith) h d in
    let b = fields_all n _ (read_complete n) (codes ")") paren gs ts s (omega arith) k f in
    λ i. (unwrapped (field_list fs, r) (field_list gs, s) (sym a ∙ b) i).0

-- tokens spell one list of parameters
one_parts : (ps qs : List (List ℕ × TypeTree)) (ts r s : Tokens) → SpellsParts ps ts r → SpellsParts qs ts s → ps ≡ qs
one_parts [] [] ts r s h k = refl
one_parts [] (q ∷ qs) ts r s h k = absurd (no_fields_there (fields_of (q ∷ qs)) ts s r h k.0)
one_parts (p ∷ ps) [] ts r s h k = absurd (no_fields_there (fields_of (p ∷ ps)) ts r s k h.0)
one_parts (p ∷ ps) (q ∷ qs) ts r s h k =
    sym (field_list-fields_of (p ∷ ps)) ∙ (one_fields (fields_of (p ∷ ps)) (fields_of (q ∷ qs)) ts r s h.0 h.1 k.0 k.1 ∙ field_list-fields_of (q ∷ qs))

-- a text spells the parameters of one function
one_params : (text : List ℕ) (f g : FunctionType) → IsFunctionOf text f → IsFunctionOf text g → f.params ≡ g.params
one_params text f g (ts, cut, (m, l, e, params, results)) (us, other, (n, k, is, others, more)) =
    let same : m ≡ n = ap (drop 2) (sym e ∙ (one_cut ts us text cut other ∙ is)) in
    one_parts f.params g.params n l k (subst (λ (z : Tokens). SpellsParts f.params z l) same params) others

all_distinct : (Ts : List TypeTree) → AllOf HasDistinctLabels Ts → AllOf HasDistinctNames Ts
all_distinct [] labelled = tt
all_distinct (T ∷ Ts) labelled = (labelled.0.1, all_distinct Ts labelled.1)

-- no name stands twice in the types of the parameters of a function that a word names
pub params_distinct : (word : List ℕ) (f : FunctionType) → NamesFunction word f → AllOf HasDistinctNames (types_of f.params)
params_distinct word f (spells, within, have) = all_distinct (types_of f.params) (function_text_labelled word f spells).0.2

module _ (word : List ℕ) where
  -- the text spells a function, of whose parameters one has no value
  pub function_empty : (f : FunctionType) → IsFunctionOf word f → (AllOf HasValue (types_of f.params) → ⊥) → (g : FunctionType) → NamesFunction word g → ⊥
  function_empty f spells none g (others, within, have) = none (subst (AllOf HasValue) (sym (ap types_of (one_params word f g spells others))) have)

  module _ (f : FunctionType) (b : Bool) (spells : IsFunctionOf word f) (tested : IsTrue b ↔ AllOf HasValue (types_of f.params)) where
    -- the test of the types of its parameters says that each has a value
    pub function_named : levels_of_function f ≤ 100 → b ≡ true → NamesFunction word f
    function_named within is = (spells, within, tested.0 is)

    -- it says that one has none
    pub function_untested : b ≡ false → (g : FunctionType) → NamesFunction word g → ⊥
    function_untested is = function_empty f spells (λ have. absurd (cc (sym is ∙ tested.1 have)))
