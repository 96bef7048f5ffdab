-- What tokens spell has labels for names, and they are distinct.
use Rattle.std.proofs.Common.{◌≡◌, ℕ, List, [], ◌∷◌, sym, subst, codes}
use Rattle.wave_wasm.specs.Lists.{AllOf}
use Rattle.wave_wasm.specs.Names.{AreDistinct}
use Rattle.wave_wasm.specs.Types.{TypeTree, simple, unreadable, list, fixed, record_type, tuple, variant, enum, option, result, flags, map as map_tree, f32, f64, unsupported, MaybeType, no_type, a_type, Types, no_types, type_and, Fields, no_fields, field, Cases, no_cases, case_of, fields_of, field_names, case_names, EachNamesOfMaybe, EachNamesOfTypes, EachNamesOfFields, EachNamesOfCases}
use Rattle.wave_lex.specs.Labels.{IsLabel, HasDistinctLabels}
use Rattle.wave_type.specs.FunctionType.{FunctionType, names_of, types_of, result_names}
use Rattle.wave_type.specs.FunctionSpelling.{SpellsParts, SpellsResults, SpellsFunction, IsFunctionOf}
use Rattle.wave_type.specs.DistinctLabels.{HaveDistinctLabels, FunctionHasDistinctLabels}
use Rattle.wave_type.specs.TypeSpelling.{Tokens, Spells, SpellsNames, SpellsTypes, SpellsFields, SpellsCases, SpellsPayload, IsTypeOf}
use Rattle.wave_type.proofs.TypeReading.Functions.{Parts}
use Rattle.wave_type.proofs.TypeReading.Sound.{field_names_of}

names_labels : (mark : List ℕ) (names : List (List ℕ)) (ts r : Tokens) → SpellsNames mark names ts r → AllOf IsLabel names
names_labels mark [] ts r h = absurd h
names_labels mark (x ∷ []) ts r (t, m, e, n, c) = (n.0, tt)
names_labels mark (x ∷ y ∷ xs) ts r (t, m, e, n, h) = (n.0, names_labels mark (y ∷ xs) m r h)

mutual
  -- the names within a type that tokens spell
  pub spelled_labelled : (T : TypeTree) (ts r : Tokens) → Spells T ts r → HasDistinctLabels T
  spelled_labelled (simple S) ts r h = (tt, tt)
  spelled_labelled (unreadable f32) ts r h = (tt, tt)
  spelled_labelled (unreadable f64) ts r h = (tt, tt)
  spelled_labelled (unreadable unsupported) ts r h = absurd h
  spelled_labelled (list E) ts r (m, l, e, s, c) = spelled_labelled E m l s
  spelled_labelled (fixed E n) ts r (m, l, e, s, b, c) = spelled_labelled E m _ s
  spelled_labelled (option P) ts r (m, l, e, s, c) = spelled_labelled P m l s
  spelled_labelled (map_tree K V) ts r (m, l, e, s, c) = spelled_labelled V m l s
  spelled_labelled (result no_type no_type) ts r h = ((tt, tt), (tt, tt))
  spelled_labelled (result (a_type T) no_type) ts r (m, l, e, s, c) = let g = spelled_labelled T m l s in ((g.0, tt), (g.1, tt))
  spelled_labelled (result no_type (a_type E)) ts r (m, l, e, s, c) = let g = spelled_labelled E m l s in ((tt, g.0), (tt, g.1))
  spelled_labelled (result (a_type T) (a_type E)) ts r (m, k, l, e, s, u, c) =
      let g = spelled_labelled T m _ s in
      let q = spelled_labelled E k l u in
      ((g.0, q.0), (g.1, q.1))
  spelled_labelled (tuple Ts) ts r (m, e, s) = types_labelled Ts m r s
  spelled_labelled (record_type fs) ts r (m, e, s, d) = let g = fields_labelled (codes "}") fs m r s in ((g.0, g.1.0), (d, g.1.1))
  spelled_labelled (variant cs) ts r (m, e, s, d) = let g = cases_labelled cs m r s in ((g.0, g.1.0), (d, g.1.1))
  spelled_labelled (enum names) ts r (m, e, s, d) = (names_labels (codes "}") names m r s, d)
  spelled_labelled (flags names) ts r (m, e, s, d) = (names_labels (codes "}") names m r s, d)

  types_labelled : (Ts : Types) (ts r : Tokens) → SpellsTypes Ts ts r → EachNamesOfTypes (AllOf IsLabel) Ts × EachNamesOfTypes AreDistinct Ts
  types_labelled no_types ts r h = absurd h
  types_labelled (type_and T no_types) ts r (m, s, c) = let g = spelled_labelled T ts m s in ((g.0, tt), (g.1, tt))
  types_labelled (type_and T (type_and U more)) ts r (m, s, h) =
      let g = spelled_labelled T ts _ s in
      let q = types_labelled (type_and U more) m r h in
      ((g.0, q.0), (g.1, q.1))

  fields_labelled : (mark : List ℕ) (fs : Fields) (ts r : Tokens) → SpellsFields mark fs ts r → AllOf IsLabel (field_names fs) × (EachNamesOfFields (AllOf IsLabel) fs × EachNamesOfFields AreDistinct fs)
  fields_labelled mark no_fields ts r h = absurd h
  fields_labelled mark (field name T no_fields) ts r (t, m, l, e, n, s, c) = let g = spelled_labelled T m l s in ((n.0, tt), ((g.0, tt), (g.1, tt)))
  fields_labelled mark (field name T (field x U more)) ts r (t, m, l, e, n, s, h) =
      let g = spelled_labelled T m _ s in
      let q = fields_labelled mark (field x U more) l r h in
      ((n.0, q.0), ((g.0, q.1.0), (g.1, q.1.1)))

  cases_labelled : (cs : Cases) (ts r : Tokens) → SpellsCases cs ts r → AllOf IsLabel (case_names cs) × (EachNamesOfCases (AllOf IsLabel) cs × EachNamesOfCases AreDistinct cs)
  cases_labelled no_cases ts r h = absurd h
  cases_labelled (case_of name p no_cases) ts r (t, m, l, e, n, s, c) = let g = payload_labelled p m l s in ((n.0, tt), ((g.0, tt), (g.1, tt)))
  cases_labelled (case_of name p (case_of x q more)) ts r (t, m, l, e, n, s, h) =
      let g = payload_labelled p m _ s in
      let k = cases_labelled (case_of x q more) l r h in
      ((n.0, k.0), ((g.0, k.1.0), (g.1, k.1.1)))

  payload_labelled : (p : MaybeType) (ts r : Tokens) → SpellsPayload p ts r → EachNamesOfMaybe (AllOf IsLabel) p × EachNamesOfMaybe AreDistinct p
  payload_labelled no_type ts r h = (tt, tt)
  payload_labelled (a_type T) ts r (m, e, s) = spelled_labelled T m _ s

-- the names within a type that a text spells
pub text_labelled : (text : List ℕ) (T : TypeTree) → IsTypeOf text T → HasDistinctLabels T
text_labelled text T (ts, cut, s) = spelled_labelled T ts [] s

-- ---- functions

parts_labelled : (ps : Parts) → EachNamesOfFields (AllOf IsLabel) (fields_of ps) → EachNamesOfFields AreDistinct (fields_of ps) → AllOf HasDistinctLabels (types_of ps)
parts_labelled [] h k = tt
parts_labelled (p ∷ ps) h k = ((h.0, k.0), parts_labelled ps h.1 k.1)

named_labelled : (ps : Parts) (ts r : Tokens) → SpellsFields (codes ")") (fields_of ps) ts r → AreDistinct (field_names (fields_of ps)) → HaveDistinctLabels (names_of ps) (types_of ps)
named_labelled ps ts r h d =
    let g = fields_labelled (codes ")") (fields_of ps) ts r h in
    let same : field_names (fields_of ps) ≡ names_of ps = sym (field_names_of ps) in
    (subst (AllOf IsLabel) same g.0, subst AreDistinct same d, parts_labelled ps g.1.0 g.1.1)

params_labelled : (ps : Parts) (ts r : Tokens) → SpellsParts ps ts r → HaveDistinctLabels (names_of ps) (types_of ps)
params_labelled [] ts r h = (tt, tt, tt)
params_labelled (p ∷ ps) ts r (h, d) = named_labelled (p ∷ ps) ts r h d

results_labelled : (rs : Parts) (ts : Tokens) → SpellsResults rs ts → HaveDistinctLabels (result_names rs) (types_of rs)
results_labelled [] ts h = (tt, tt, tt)
results_labelled (([], T) ∷ []) ts (m, e, s) = (tt, tt, (spelled_labelled T m [] s, tt))
results_labelled (([], T) ∷ p ∷ ps) ts (m, e, (h, d)) = named_labelled (([], T) ∷ p ∷ ps) m [] h d
results_labelled ((c ∷ cs, T) ∷ ps) ts (m, e, (h, d)) = named_labelled ((c ∷ cs, T) ∷ ps) m [] h d

-- the names of a function that tokens spell
pub function_labelled : (f : FunctionType) (ts : Tokens) → SpellsFunction f ts → FunctionHasDistinctLabels f
function_labelled f ts (m, l, e, p, r) = (params_labelled f.params m l p, results_labelled f.results l r)

-- the names of a function that a text spells
pub function_text_labelled : (text : List ℕ) (f : FunctionType) → IsFunctionOf text f → FunctionHasDistinctLabels f
function_text_labelled text f (ts, cut, s) = function_labelled f ts s
