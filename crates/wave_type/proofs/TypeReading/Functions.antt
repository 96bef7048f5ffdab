-- The type of a function is read exactly where tokens spell it.
use Rattle.std.proofs.Common.{◌≡◌, ℕ, true, false, List, [], ◌∷◌, Option, Some, None, String, Bor, map, refl, ap, subst, ◌∙◌, length, codes}
use Rattle.wave_wasm.specs.Names.{AreDistinct}
use Rattle.wave_wasm.specs.Types.{TypeTree, Fields, no_fields, field, fields_of, field_names}
use Rattle.wave_wasm.specs.TypeText.{kind_word}
use Rattle.wave_lex.specs.Labels.{IsLabel}
use Rattle.wave_lex.specs.Tokens.{label}
use Rattle.wave_lex.proofs.RegularShapes.Derivatives.{matches_into}
use Rattle.std.specs.declared.alloc.Global.{Global}
use Rattle.wave_wasm.specs.Borrowed.{named}
use Rattle.wave_type.specs.TypeModel.{by_bytes}
use Rattle.wave_type.specs.Private.FunctionType.{named_function}
use Rattle.wave_type.specs.FunctionType.{FunctionType, function_of}
use Rattle.wave_type.specs.FunctionSpelling.{SpellsParts, SpellsResults, SpellsFunction}
use Rattle.wave_type.specs.TypeSpelling.{Tokens, Spells, SpellsFields}
use Rattle.wave_type.specs.Private.TypeReading.{after, Reads, type_read}
use Rattle.wave_type.specs.Private.FunctionReading.{params_read, result_parts_read, results_read, signature_read, function_read}
use Rattle.wave_type.proofs.TypeReading.Complete.{paren, name_stands, after_other, head_word, no_mark_word}
use Rattle.wave_type.proofs.TypeReading.Sound.{IsSound, onward_back, after_back, fields_back, read_sound}
use Rattle.wave_type.proofs.TypeReading.WholeTexts.{none_left}

abbrev pub Parts : Type 0
Parts = List (List ℕ × TypeTree)

-- the empty name is no label
pub no_empty_label : IsLabel [] → ⊥
no_empty_label h = let wrong : false ≡ true = matches_into [] label h in cc

-- ---- what is read is spelled

pub parts_there : (ps : Parts) (ts r : Tokens) → SpellsFields (codes ")") (fields_of ps) ts r → AreDistinct (field_names (fields_of ps)) → SpellsParts ps ts r
parts_there [] ts r h d = absurd h
parts_there (p ∷ ps) ts r h d = (h, d)

named_there : (rs : Parts) (ts m r : Tokens) → ts ≡ codes "-" ∷ codes ">" ∷ codes "(" ∷ m → SpellsFields (codes ")") (fields_of rs) m r → AreDistinct (field_names (fields_of rs)) → r ≡ [] → SpellsResults rs ts
named_there [] ts m r e h d end = absurd h
named_there (([], T) ∷ []) ts m r e (t, k, l, q, n, s, c) d end = absurd (no_empty_label n.0)
named_there (([], T) ∷ p ∷ ps) ts m r e h d end = (m, e, (subst (SpellsFields (codes ")") (fields_of (([], T) ∷ p ∷ ps)) m) end h, d))
named_there ((c ∷ cs, T) ∷ ps) ts m r e h d end = (m, e, (subst (SpellsFields (codes ")") (fields_of ((c ∷ cs, T) ∷ ps)) m) end h, d))

pub unwrapped : {A : Type 0} (p q : A) → Some p ≡ Some q → p ≡ q
unwrapped p q e = cc

module _ (read : Reads) (sound : IsSound read) where
  params_back : (ts : Tokens) (o : Option Tokens) (b : Parts × Tokens) → after (codes ")") ts ≡ o → params_read read ts o ≡ Some b → SpellsParts b.0 ts b.1
  params_back ts (Some m) b h e = subst (λ (z : Parts × Tokens). SpellsParts z.0 ts z.1) (unwrapped ([], m) b e) (after_back (codes ")") ts m h)
  params_back ts None b h e = let q = fields_back read sound (codes ")") ts b e in parts_there b.0 ts b.1 q.0 q.1

  result_parts_back : (ts l : Tokens) (o : Option Tokens) (b : Parts × Tokens) → ts ≡ codes "-" ∷ codes ">" ∷ l → after (codes "(") l ≡ o → result_parts_read read l o ≡ Some b → b.1 ≡ [] → SpellsResults b.0 ts
  result_parts_back ts l (Some m) b is h e end =
      let q = fields_back read sound (codes ")") m b e in
      named_there b.0 ts m b.1 (is ∙ ap (λ k. codes "-" ∷ codes ">" ∷ k) (after_back (codes "(") l m h)) q.0 q.1 end
  result_parts_back ts l None b is h e end =
      let s = onward_back (read l) _ b e in
      let same = unwrapped (([], s.0.0) ∷ [], s.0.1) b s.2 in
      let inside : Spells s.0.0 l [] = subst (Spells s.0.0 l) ((λ i. (same i).1) ∙ end) (sound l s.0 s.1) in
      subst (λ (z : Parts). SpellsResults z ts) (λ i. (same i).0) (l, is, inside)

  results_back : (ts : Tokens) (o : Option Tokens) (b : Parts × Tokens) → after (codes "-") ts ≡ o → results_read read ts o ≡ Some b → b.1 ≡ [] → SpellsResults b.0 ts
  results_back ts None b h e end =
      let same = unwrapped ([], ts) b e in
      subst (λ (z : Parts). SpellsResults z ts) (λ i. (same i).0) ((λ i. (same i).1) ∙ end)
  results_back ts (Some m) b h e end =
      let p = onward_back (after (codes ">") m) _ b e in
      result_parts_back ts p.0 (after (codes "(") p.0) b (after_back (codes "-") ts m h ∙ ap (λ k. codes "-" ∷ k) (after_back (codes ">") m p.0 p.1)) refl p.2 end

  pub function_back : (ts : Tokens) (b : FunctionType × Tokens) → function_read read ts ≡ Some b → b.1 ≡ [] → SpellsFunction b.0 ts
  function_back ts b e end =
      let p = onward_back (after (codes "func") ts) _ b e in
      let q = onward_back (after (codes "(") p.0) (signature_read read) b p.2 in
      let ps = onward_back (params_read read q.0 (after (codes ")") q.0)) _ b q.2 in
      let rs = onward_back (results_read read ps.0.1 (after (codes "-") ps.0.1)) _ b ps.2 in
      let same = unwrapped (record { params = ps.0.0; results = rs.0.0 }, rs.0.1) b rs.2 in
      let there : ts ≡ codes "func" ∷ codes "(" ∷ q.0 = after_back (codes "func") ts p.0 p.1 ∙ ap (λ k. codes "func" ∷ k) (after_back (codes "(") p.0 q.0 q.1) in
      subst (λ (z : FunctionType). SpellsFunction z ts) (λ i. (same i).0) (q.0, ps.0.1, there, params_back q.0 (after (codes ")") q.0) ps.0 refl ps.1, results_back ps.0.1 (after (codes "-") ps.0.1) rs.0 refl rs.1 ((λ i. (same i).1) ∙ end))

-- ---- what is spelled is read

pub paren_not : (fs : Fields) (ts r : Tokens) → SpellsFields (codes ")") fs ts r → after (codes ")") ts ≡ None
paren_not no_fields ts r h = absurd h
paren_not (field name T no_fields) ts r (t, m, l, e, n, s, c) = name_stands (codes ")") t name ts (codes ":" ∷ m) paren e n
paren_not (field name T (field x U more)) ts r (t, m, l, e, n, s, h) = name_stands (codes ")") t name ts (codes ":" ∷ m) paren e n

pub type_is_no_paren : (T : TypeTree) (ts r : Tokens) → Spells T ts r → after (codes "(") ts ≡ None
type_is_no_paren T ts r h = let w = head_word T ts r h in ap (after (codes "(")) w.2 ∙ after_other (codes "(") (kind_word w.0) w.1 (no_mark_word w.0).2

-- ---- as a whole

pub function_sound : (n : ℕ) (ts r : Tokens) (f : FunctionType) → function_read (type_read n) ts ≡ Some (f, r) → length r ≡ 0 → SpellsFunction f ts
function_sound n ts r f e none = function_back (type_read n) (read_sound n) ts (f, r) e (none_left r none)

-- the type of a function of names and types that were read
pub made_of : (ps rs : List (String Global × TypeTree)) (params results : List (Bor (List ℕ) × TypeTree)) (f : FunctionType) → f ≡ function_of ps rs → map by_bytes ps ≡ named params → map by_bytes rs ≡ named results → f ≡ named_function params results
made_of ps rs params results f is p r = is ∙ λ i. record { params = p i; results = r i }
