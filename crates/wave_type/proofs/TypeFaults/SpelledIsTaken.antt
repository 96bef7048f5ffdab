-- What spells a type, or the type of a function, is refused nowhere where that is expected.
use Rattle.std.proofs.Common.{◌≡◌, ℕ, zero, suc, ◌≤◌, false, List, [], ◌∷◌, ◌++◌, Option, Some, None, refl, sym, ap, subst, ◌∙◌, arith, codes, append_assoc}
use Rattle.std.specs.Fmt.{decimal}
use Rattle.std.specs.Str.{bytes_eq}
use Rattle.wave_wasm.specs.Names.{AreDistinct}
use Rattle.wave_wasm.specs.Types.{bool, whole, char, string, s8, s16, s32, s64, u8, u16, u32, u64, TypeTree, simple, unreadable, list, fixed, record_type, tuple, variant, enum, option, result, flags, map as map_tree, f32, f64, unsupported, MaybeType, no_type, a_type, Types, no_types, type_and, Fields, no_fields, field, Cases, no_cases, case_of, fields_of, field_names, case_names, simple_kind}
use Rattle.wave_wasm.specs.TypeText.{kind_word}
use Rattle.wave_type.specs.FunctionType.{FunctionType}
use Rattle.wave_type.specs.FunctionSpelling.{SpellsParts, SpellsResults, SpellsFunction, levels_of_function}
use Rattle.wave_type.specs.TypeSpelling.{Tokens, Names, Closes, Spells, SpellsNames, SpellsTypes, SpellsFields, SpellsCases, SpellsPayload, levels_of, levels_of_payload, levels_of_types, levels_of_fields, levels_of_cases}
use Rattle.wave_type.specs.TypeFaults.{Part, no_more, a_length, err_type, more_types, more_fields, more_cases, more_names}
use Rattle.wave_type.specs.TypeFaults.{Expectation, type_expected, part_expected, close_expected, last_expected, payload_expected, results_expected, result_expected, mark_expected, refused, expected_of_function}
use Rattle.wave_type.specs.Private.TypeReading.{after, built, new_name, fields_read, payload_read, type_read}
use Rattle.wave_type.specs.Private.FunctionReading.{params_read, result_parts_read, results_read, signature_read, function_read}
use Rattle.wave_type.proofs.TypeFaults.TokenSteps.{mark_runs, payloads_pass, payload_passes, payload_runs, results_pass, results_run, types_are_types, err_is_type, ok_is_type, result_is_type, result_is_named, key_runs, count_runs, last_ends, last_goes_on, close_ends, comma_runs, field_runs, case_runs, names_run}
use Rattle.wave_type.proofs.TypeReading.Functions.{paren_not, type_is_no_paren, Parts}
use Rattle.wave_type.proofs.TypeReading.Complete.{IsMark, brace, paren, angle, after_there, closed_there, closed_not, new_there, new_behind, count_there, key_there, name_stands, type_starts, type_is_no_blank, alone_there, count_is_no_angle, closes_whole, some_level}
use Rattle.wave_type.proofs.TypeReading.Levels.{read_low, fields_read_low}
use Rattle.wave_type.proofs.TypeReading.Sound.{onward_back, with_back, read_sound, fields_back}

closes_run : (mark : List ℕ) → bytes_eq (codes ",") mark ≡ false → (part : Part) (ts r : Tokens) (expectations : List Expectation) → Closes mark ts r → refused ts (close_expected mark part ∷ expectations) ≡ refused r expectations
closes_run mark comma part ts r expectations c = close_ends mark part ts r expectations (closed_there mark comma ts r c)

commas_run : (mark : List ℕ) → bytes_eq (codes ",") mark ≡ false → (part : Part) (ts : Tokens) (expectations : List Expectation) → after mark ts ≡ None → refused (codes "," ∷ ts) (close_expected mark part ∷ expectations) ≡ refused ts (part_expected mark part ∷ expectations)
commas_run mark comma part ts expectations none = comma_runs mark part (codes "," ∷ ts) ts expectations (record { unclosed = closed_not mark comma ts none; comma = after_there (codes ",") ts; more = none })

types_start : (Ts : Types) (ts r : Tokens) → SpellsTypes Ts ts r → after (codes ">") ts ≡ None
types_start no_types ts r h = absurd h
types_start (type_and T no_types) ts r (m, s, c) = type_starts T ts m s
types_start (type_and T (type_and U more)) ts r (m, s, h) = type_starts T ts (codes "," ∷ m) s

fields_start : (mark : List ℕ) → IsMark mark → (fs : Fields) (ts r : Tokens) → SpellsFields mark fs ts r → after mark ts ≡ None
fields_start mark is no_fields ts r h = absurd h
fields_start mark is (field name T no_fields) ts r (t, m, l, e, n, s, c) = name_stands mark t name ts (codes ":" ∷ m) is e n
fields_start mark is (field name T (field x U more)) ts r (t, m, l, e, n, s, h) = name_stands mark t name ts (codes ":" ∷ m) is e n

cases_start : (cs : Cases) (ts r : Tokens) → SpellsCases cs ts r → after (codes "}") ts ≡ None
cases_start no_cases ts r h = absurd h
cases_start (case_of name p no_cases) ts r (t, m, l, e, n, s, c) = name_stands (codes "}") t name ts m brace e n
cases_start (case_of name p (case_of x q more)) ts r (t, m, l, e, n, s, h) = name_stands (codes "}") t name ts m brace e n

names_start : (mark : List ℕ) → IsMark mark → (xs : List (List ℕ)) (ts r : Tokens) → SpellsNames mark xs ts r → after mark ts ≡ None
names_start mark is [] ts r h = absurd h
names_start mark is (x ∷ []) ts r (t, m, e, n, c) = name_stands mark t x ts m is e n
names_start mark is (x ∷ y ∷ xs) ts r (t, m, e, n, h) = name_stands mark t x ts (codes "," ∷ m) is e n

-- one name more stands before
one_more : (names : List (List ℕ)) (name : List ℕ) (more : List (List ℕ)) → AreDistinct (names ++ name ∷ more) → AreDistinct ((names ++ name ∷ []) ++ more)
one_more names name more h = subst AreDistinct (sym (append_assoc names (name ∷ []) more)) h

-- the name that stands next is new
new_next : (names : List (List ℕ)) (t name : List ℕ) (ts m : Tokens) (more : List (List ℕ)) → ts ≡ t ∷ m → Names t name → AreDistinct (names ++ name ∷ more) → new_name names ts ≡ Some (name, m)
new_next names t name ts m more e n d = ap (new_name names) e ∙ new_there names t name m n (new_behind names name more d)

names_spelled_run : (mark : List ℕ) → IsMark mark → (xs names : List (List ℕ)) (ts r : Tokens) → SpellsNames mark xs ts r → AreDistinct (names ++ xs) → (expectations : List Expectation) → refused ts (part_expected mark (more_names names) ∷ expectations) ≡ refused r expectations
names_spelled_run mark is [] names ts r h d expectations = absurd h
names_spelled_run mark is (x ∷ []) names ts r (t, m, e, n, c) d expectations =
    names_run 0 mark names x expectations ts m (new_next names t x ts m [] e n d) ∙ closes_run mark is.comma (more_names (names ++ x ∷ [])) m r expectations c
names_spelled_run mark is (x ∷ y ∷ xs) names ts r (t, m, e, n, h) d expectations =
    names_run 0 mark names x expectations ts (codes "," ∷ m) (new_next names t x ts (codes "," ∷ m) (y ∷ xs) e n d)
    ∙ (commas_run mark is.comma (more_names (names ++ x ∷ [])) m expectations (names_start mark is (y ∷ xs) m r h)
    ∙ names_spelled_run mark is (y ∷ xs) (names ++ x ∷ []) m r h (one_more names x (y ∷ xs) d) expectations)

mutual
  -- what spells a type within n levels is all of it
  pub type_runs : (n : ℕ) (T : TypeTree) (ts r : Tokens) → levels_of T ≤ n → Spells T ts r → (expectations : List Expectation) → refused ts (type_expected n ∷ expectations) ≡ refused r expectations
  type_runs zero T ts r le h expectations = absurd (omega (arith, some_level T))
  type_runs (suc n) (simple bool) ts r le h expectations = ap (λ us. refused us (type_expected (suc n) ∷ expectations)) h
  type_runs (suc n) (simple (whole s8)) ts r le h expectations = ap (λ us. refused us (type_expected (suc n) ∷ expectations)) h
  type_runs (suc n) (simple (whole s16)) ts r le h expectations = ap (λ us. refused us (type_expected (suc n) ∷ expectations)) h
  type_runs (suc n) (simple (whole s32)) ts r le h expectations = ap (λ us. refused us (type_expected (suc n) ∷ expectations)) h
  type_runs (suc n) (simple (whole s64)) ts r le h expectations = ap (λ us. refused us (type_expected (suc n) ∷ expectations)) h
  type_runs (suc n) (simple (whole u8)) ts r le h expectations = ap (λ us. refused us (type_expected (suc n) ∷ expectations)) h
  type_runs (suc n) (simple (whole u16)) ts r le h expectations = ap (λ us. refused us (type_expected (suc n) ∷ expectations)) h
  type_runs (suc n) (simple (whole u32)) ts r le h expectations = ap (λ us. refused us (type_expected (suc n) ∷ expectations)) h
  type_runs (suc n) (simple (whole u64)) ts r le h expectations = ap (λ us. refused us (type_expected (suc n) ∷ expectations)) h
  type_runs (suc n) (simple char) ts r le h expectations = ap (λ us. refused us (type_expected (suc n) ∷ expectations)) h
  type_runs (suc n) (simple string) ts r le h expectations = ap (λ us. refused us (type_expected (suc n) ∷ expectations)) h
  type_runs (suc n) (unreadable f32) ts r le h expectations = ap (λ us. refused us (type_expected (suc n) ∷ expectations)) h
  type_runs (suc n) (unreadable f64) ts r le h expectations = ap (λ us. refused us (type_expected (suc n) ∷ expectations)) h
  type_runs (suc n) (unreadable unsupported) ts r le h expectations = absurd h
  type_runs (suc n) (list E) ts r le (m, l, e, s, c) expectations =
      ap (λ us. refused us (type_expected (suc n) ∷ expectations)) e ∙ (type_runs n E m l (omega arith) s (close_expected (codes ">") a_length ∷ expectations) ∙ closes_run (codes ">") angle a_length l r expectations c)
  type_runs (suc n) (fixed E k) ts r le (m, l, e, s, b, c) expectations =
      ap (λ us. refused us (type_expected (suc n) ∷ expectations)) e
      ∙ (type_runs n E m (codes "," ∷ decimal k ∷ l) (omega arith) s (close_expected (codes ">") a_length ∷ expectations)
      ∙ (commas_run (codes ">") angle a_length (decimal k ∷ l) expectations (count_is_no_angle k l b)
      ∙ (count_runs (codes ">") (decimal k ∷ l) l k expectations (count_there k l b) ∙ closes_run (codes ">") angle no_more l r expectations c)))
  type_runs (suc n) (option P) ts r le (m, l, e, s, c) expectations =
      ap (λ us. refused us (type_expected (suc n) ∷ expectations)) e ∙ (type_runs n P m l (omega arith) s (close_expected (codes ">") no_more ∷ expectations) ∙ closes_run (codes ">") angle no_more l r expectations c)
  type_runs (suc n) (map_tree K V) ts r le (m, l, e, s, c) expectations =
      ap (λ us. refused us (type_expected (suc n) ∷ expectations)) e
      ∙ (key_runs (kind_word (simple_kind K) ∷ codes "," ∷ m) (codes "," ∷ m) (simple K) (mark_expected (codes ",") ∷ type_expected n ∷ close_expected (codes ">") no_more ∷ expectations) (ap (λ o. built o (codes "," ∷ m)) (key_there K))
      ∙ (type_runs n V m l (omega arith) s (close_expected (codes ">") no_more ∷ expectations) ∙ closes_run (codes ">") angle no_more l r expectations c))
  type_runs (suc n) (result no_type no_type) ts r le (e, a) expectations =
      ap (λ us. refused us (type_expected (suc n) ∷ expectations)) e ∙ payloads_pass n r expectations (alone_there r a)
  type_runs (suc n) (result (a_type T) no_type) ts r le (m, l, e, s, c) expectations =
      ap (λ us. refused us (type_expected (suc n) ∷ expectations)) e
      ∙ (ok_is_type n m expectations (type_is_no_blank T m l s)
      ∙ (type_runs n T m l (omega arith) s (close_expected (codes ">") (err_type n) ∷ expectations) ∙ closes_run (codes ">") angle (err_type n) l r expectations c))
  type_runs (suc n) (result no_type (a_type E)) ts r le (m, l, e, s, c) expectations =
      ap (λ us. refused us (type_expected (suc n) ∷ expectations)) e ∙ (type_runs n E m l (omega arith) s (close_expected (codes ">") no_more ∷ expectations) ∙ closes_run (codes ">") angle no_more l r expectations c)
  type_runs (suc n) (result (a_type T) (a_type E)) ts r le (m, k, l, e, s, u, c) expectations =
      ap (λ us. refused us (type_expected (suc n) ∷ expectations)) e
      ∙ (ok_is_type n m expectations (type_is_no_blank T m (codes "," ∷ k) s)
      ∙ (type_runs n T m (codes "," ∷ k) (omega arith) s (close_expected (codes ">") (err_type n) ∷ expectations)
      ∙ (commas_run (codes ">") angle (err_type n) k expectations (type_starts E k l u)
      ∙ (err_is_type n (codes ">") k expectations
      ∙ (type_runs n E k l (omega arith) u (close_expected (codes ">") no_more ∷ expectations) ∙ closes_run (codes ">") angle no_more l r expectations c)))))
  type_runs (suc n) (tuple Ts) ts r le (m, e, s) expectations = ap (λ us. refused us (type_expected (suc n) ∷ expectations)) e ∙ types_run n Ts m r (omega arith) s expectations
  type_runs (suc n) (record_type fs) ts r le (m, e, s, d) expectations = ap (λ us. refused us (type_expected (suc n) ∷ expectations)) e ∙ fields_run (codes "}") brace n fs [] m r (omega arith) s d expectations
  type_runs (suc n) (variant cs) ts r le (m, e, s, d) expectations = ap (λ us. refused us (type_expected (suc n) ∷ expectations)) e ∙ cases_run n cs [] m r (omega arith) s d expectations
  type_runs (suc n) (enum names) ts r le (m, e, s, d) expectations = ap (λ us. refused us (type_expected (suc n) ∷ expectations)) e ∙ names_spelled_run (codes "}") brace names [] m r s d expectations
  type_runs (suc n) (flags names) ts r le (m, e, s, d) expectations = ap (λ us. refused us (type_expected (suc n) ∷ expectations)) e ∙ names_spelled_run (codes "}") brace names [] m r s d expectations

  types_run : (n : ℕ) (Ts : Types) (ts r : Tokens) → levels_of_types Ts ≤ n → SpellsTypes Ts ts r → (expectations : List Expectation) → refused ts (part_expected (codes ">") (more_types n) ∷ expectations) ≡ refused r expectations
  types_run n no_types ts r le h expectations = absurd h
  types_run n (type_and T no_types) ts r le (m, s, c) expectations =
      types_are_types n (codes ">") ts expectations ∙ (type_runs n T ts m (omega arith) s (close_expected (codes ">") (more_types n) ∷ expectations) ∙ closes_run (codes ">") angle (more_types n) m r expectations c)
  types_run n (type_and T (type_and U more)) ts r le (m, s, h) expectations =
      types_are_types n (codes ">") ts expectations
      ∙ (type_runs n T ts (codes "," ∷ m) (omega arith) s (close_expected (codes ">") (more_types n) ∷ expectations)
      ∙ (commas_run (codes ">") angle (more_types n) m expectations (types_start (type_and U more) m r h) ∙ types_run n (type_and U more) m r (omega arith) h expectations))

  pub fields_run : (mark : List ℕ) → IsMark mark → (n : ℕ) (fs : Fields) (names : List (List ℕ)) (ts r : Tokens) → levels_of_fields fs ≤ n → SpellsFields mark fs ts r → AreDistinct (names ++ field_names fs) → (expectations : List Expectation) → refused ts (part_expected mark (more_fields n names) ∷ expectations) ≡ refused r expectations
  fields_run mark is n no_fields names ts r le h d expectations = absurd h
  fields_run mark is n (field name T no_fields) names ts r le (t, m, l, e, nm, s, c) d expectations =
      field_runs n mark names name expectations ts (codes ":" ∷ m) (new_next names t name ts (codes ":" ∷ m) [] e nm d)
      ∙ (type_runs n T m l (omega arith) s (close_expected mark (more_fields n (names ++ name ∷ [])) ∷ expectations) ∙ closes_run mark is.comma (more_fields n (names ++ name ∷ [])) l r expectations c)
  fields_run mark is n (field name T (field x U more)) names ts r le (t, m, l, e, nm, s, h) d expectations =
      field_runs n mark names name expectations ts (codes ":" ∷ m) (new_next names t name ts (codes ":" ∷ m) (x ∷ field_names more) e nm d)
      ∙ (type_runs n T m (codes "," ∷ l) (omega arith) s (close_expected mark (more_fields n (names ++ name ∷ [])) ∷ expectations)
      ∙ (commas_run mark is.comma (more_fields n (names ++ name ∷ [])) l expectations (fields_start mark is (field x U more) l r h)
      ∙ fields_run mark is n (field x U more) (names ++ name ∷ []) l r (omega arith) h (one_more names name (x ∷ field_names more) d) expectations))

  cases_run : (n : ℕ) (cs : Cases) (names : List (List ℕ)) (ts r : Tokens) → levels_of_cases cs ≤ n → SpellsCases cs ts r → AreDistinct (names ++ case_names cs) → (expectations : List Expectation) → refused ts (part_expected (codes "}") (more_cases n names) ∷ expectations) ≡ refused r expectations
  cases_run n no_cases names ts r le h d expectations = absurd h
  cases_run n (case_of name p no_cases) names ts r le (t, m, l, e, nm, s, c) d expectations =
      case_runs n (codes "}") names name expectations ts m (new_next names t name ts m [] e nm d)
      ∙ (payload_run n p m l (omega arith) s (closes_whole l r c) (close_expected (codes "}") (more_cases n (names ++ name ∷ [])) ∷ expectations) ∙ closes_run (codes "}") brace.comma (more_cases n (names ++ name ∷ [])) l r expectations c)
  cases_run n (case_of name p (case_of x q more)) names ts r le (t, m, l, e, nm, s, h) d expectations =
      case_runs n (codes "}") names name expectations ts m (new_next names t name ts m (x ∷ case_names more) e nm d)
      ∙ (payload_run n p m (codes "," ∷ l) (omega arith) s refl (close_expected (codes "}") (more_cases n (names ++ name ∷ [])) ∷ expectations)
      ∙ (commas_run (codes "}") brace.comma (more_cases n (names ++ name ∷ [])) l expectations (cases_start (case_of x q more) l r h)
      ∙ cases_run n (case_of x q more) (names ++ name ∷ []) l r (omega arith) h (one_more names name (x ∷ case_names more) d) expectations))

  payload_run : (n : ℕ) (p : MaybeType) (ts r : Tokens) → levels_of_payload p ≤ n → SpellsPayload p ts r → after (codes "(") r ≡ None → (expectations : List Expectation) → refused ts (payload_expected n ∷ expectations) ≡ refused r expectations
  payload_run n no_type ts r le h alone expectations = payload_passes n ts expectations (ap (after (codes "(")) h ∙ alone) ∙ ap (λ us. refused us expectations) h
  payload_run n (a_type T) ts r le (m, e, s) alone expectations =
      ap (λ us. refused us (payload_expected n ∷ expectations)) e ∙ type_runs n T m (codes ")" ∷ r) (omega arith) s (mark_expected (codes ")") ∷ expectations)

-- ---- what is read

-- so what is read of a type
pub read_runs : (n : ℕ) (ts r : Tokens) (T : TypeTree) → type_read n ts ≡ Some (T, r) → (expectations : List Expectation) → refused ts (type_expected n ∷ expectations) ≡ refused r expectations
read_runs n ts r T e = type_runs n T ts r (read_low n ts (T, r) e) (read_sound n ts (T, r) e)

payload_read_by : (n : ℕ) (ts r : Tokens) (o : Option Tokens) (p : Option TypeTree) → after (codes "(") ts ≡ o → payload_read (type_read n) ts o ≡ Some (p, r) → (expectations : List Expectation) → refused ts (payload_expected n ∷ expectations) ≡ refused r expectations
payload_read_by n ts r None p h e expectations =
    let pair : ◌≡◌ {A = Option TypeTree × Tokens} (None, ts) (p, r) = cc in
    payload_passes n ts expectations h ∙ (λ i. refused (pair i).1 expectations)
payload_read_by n ts r (Some m) p h e expectations =
    let s = onward_back (type_read n m) _ (p, r) e in
    let w = with_back (Some s.0.0) (after (codes ")") s.0.1) (p, r) s.2 in
    payload_runs n ts m expectations h ∙ (read_runs n m s.0.1 s.0.0 s.1 (mark_expected (codes ")") ∷ expectations) ∙ mark_runs (codes ")") s.0.1 r expectations w.0)

pub payload_read_runs : (n : ℕ) (ts r : Tokens) (p : Option TypeTree) → payload_read (type_read n) ts (after (codes "(") ts) ≡ Some (p, r) → (expectations : List Expectation) → refused ts (payload_expected n ∷ expectations) ≡ refused r expectations
payload_read_runs n ts r p e = payload_read_by n ts r (after (codes "(") ts) p refl e

pub fields_read_runs : (n : ℕ) (ts r : Tokens) (fs : Parts) → fields_read (type_read n) (codes ")") ts ≡ Some (fs, r) → (expectations : List Expectation) → refused ts (part_expected (codes ")") (more_fields n []) ∷ expectations) ≡ refused r expectations
fields_read_runs n ts r fs e =
    let h = fields_back (type_read n) (read_sound n) (codes ")") ts (fs, r) e in
    fields_run (codes ")") paren n (fields_of fs) [] ts r (fields_read_low n (type_read n) (read_low n) (codes ")") ts (fs, r) e) h.0 h.1

params_read_by : (n : ℕ) (ts r : Tokens) (o : Option Tokens) (ps : Parts) → after (codes ")") ts ≡ o → params_read (type_read n) ts o ≡ Some (ps, r) → (expectations : List Expectation) → refused ts (last_expected (codes ")") (more_fields n []) ∷ expectations) ≡ refused r expectations
params_read_by n ts r None ps h e expectations = last_goes_on (codes ")") (more_fields n []) ts expectations h ∙ fields_read_runs n ts r ps e expectations
params_read_by n ts r (Some m) ps h e expectations =
    let pair : ◌≡◌ {A = Parts × Tokens} ([], m) (ps, r) = cc in
    last_ends (codes ")") (more_fields n []) ts m expectations h ∙ (λ i. refused (pair i).1 expectations)

pub params_read_runs : (n : ℕ) (ts r : Tokens) (ps : Parts) → params_read (type_read n) ts (after (codes ")") ts) ≡ Some (ps, r) → (expectations : List Expectation) → refused ts (last_expected (codes ")") (more_fields n []) ∷ expectations) ≡ refused r expectations
params_read_runs n ts r ps e = params_read_by n ts r (after (codes ")") ts) ps refl e

result_read_by : (n : ℕ) (ts r : Tokens) (o : Option Tokens) (rs : Parts) → after (codes "(") ts ≡ o → result_parts_read (type_read n) ts o ≡ Some (rs, r) → (expectations : List Expectation) → refused ts (result_expected n ∷ expectations) ≡ refused r expectations
result_read_by n ts r None rs h e expectations =
    let s = onward_back (type_read n ts) _ (rs, r) e in
    let pair : ◌≡◌ {A = Parts × Tokens} (([], s.0.0) ∷ [], s.0.1) (rs, r) = cc s.2 in
    result_is_type n ts expectations h ∙ (read_runs n ts s.0.1 s.0.0 s.1 expectations ∙ (λ i. refused (pair i).1 expectations))
result_read_by n ts r (Some m) rs h e expectations = result_is_named n ts m expectations h ∙ fields_read_runs n m r rs e expectations

results_read_by : (n : ℕ) (ts r : Tokens) (o : Option Tokens) (rs : Parts) → after (codes "-") ts ≡ o → results_read (type_read n) ts o ≡ Some (rs, r) → (expectations : List Expectation) → refused ts (results_expected n ∷ expectations) ≡ refused r expectations
results_read_by n ts r None rs h e expectations =
    let pair : ◌≡◌ {A = Parts × Tokens} ([], ts) (rs, r) = cc in
    results_pass n ts expectations h ∙ (λ i. refused (pair i).1 expectations)
results_read_by n ts r (Some m) rs h e expectations =
    let l = onward_back (after (codes ">") m) _ (rs, r) e in
    results_run n ts m expectations h ∙ (mark_runs (codes ">") m l.0 (result_expected n ∷ expectations) l.1 ∙ result_read_by n l.0 r (after (codes "(") l.0) rs refl l.2 expectations)

-- so what is read of the type of a function
pub function_read_runs : (n : ℕ) (ts r : Tokens) (f : FunctionType) → function_read (type_read n) ts ≡ Some (f, r) → refused ts (expected_of_function n) ≡ refused r []
function_read_runs n ts r f e =
    let p = onward_back (after (codes "func") ts) _ (f, r) e in
    let q = onward_back (after (codes "(") p.0) (signature_read (type_read n)) (f, r) p.2 in
    let ps = onward_back (params_read (type_read n) q.0 (after (codes ")") q.0)) _ (f, r) q.2 in
    let rs = onward_back (results_read (type_read n) ps.0.1 (after (codes "-") ps.0.1)) _ (f, r) ps.2 in
    let pair : ◌≡◌ {A = FunctionType × Tokens} (record { params = ps.0.0; results = rs.0.0 }, rs.0.1) (f, r) = cc rs.2 in
    mark_runs (codes "func") ts p.0 (mark_expected (codes "(") ∷ last_expected (codes ")") (more_fields n []) ∷ results_expected n ∷ []) p.1
    ∙ (mark_runs (codes "(") p.0 q.0 (last_expected (codes ")") (more_fields n []) ∷ results_expected n ∷ []) q.1
    ∙ (params_read_runs n q.0 ps.0.1 ps.0.0 ps.1 (results_expected n ∷ [])
    ∙ (results_read_by n ps.0.1 rs.0.1 (after (codes "-") ps.0.1) rs.0.0 refl rs.1 [] ∙ (λ i. refused (pair i).1 []))))

-- ---- what spells the type of a function

params_run : (n : ℕ) (ps : Parts) (ts r : Tokens) → levels_of_fields (fields_of ps) ≤ n → SpellsParts ps ts r → (expectations : List Expectation) → refused ts (last_expected (codes ")") (more_fields n []) ∷ expectations) ≡ refused r expectations
params_run n [] ts r le e expectations = last_ends (codes ")") (more_fields n []) ts r expectations (ap (after (codes ")")) e)
params_run n (p ∷ ps) ts r le (h, d) expectations =
    last_goes_on (codes ")") (more_fields n []) ts expectations (paren_not (fields_of (p ∷ ps)) ts r h) ∙ fields_run (codes ")") paren n (fields_of (p ∷ ps)) [] ts r le h d expectations

named_run : (n : ℕ) (rs : Parts) (ts m : Tokens) → levels_of_fields (fields_of rs) ≤ n → ts ≡ codes "-" ∷ codes ">" ∷ codes "(" ∷ m → SpellsFields (codes ")") (fields_of rs) m [] → AreDistinct (field_names (fields_of rs)) → refused ts (results_expected n ∷ []) ≡ None
named_run n rs ts m le e h d = ap (λ us. refused us (results_expected n ∷ [])) e ∙ fields_run (codes ")") paren n (fields_of rs) [] m [] le h d []

spelled_results : (n : ℕ) (rs : Parts) (ts : Tokens) → levels_of_fields (fields_of rs) ≤ n → SpellsResults rs ts → refused ts (results_expected n ∷ []) ≡ None
spelled_results n [] ts le e = ap (λ us. refused us (results_expected n ∷ [])) e
spelled_results n (([], T) ∷ []) ts le (m, e, s) =
    ap (λ us. refused us (results_expected n ∷ [])) e ∙ (result_is_type n m [] (type_is_no_paren T m [] s) ∙ type_runs n T m [] (omega arith) s [])
spelled_results n (([], T) ∷ p ∷ ps) ts le (m, e, (h, d)) = named_run n (([], T) ∷ p ∷ ps) ts m le e h d
spelled_results n ((c ∷ cs, T) ∷ ps) ts le (m, e, (h, d)) = named_run n ((c ∷ cs, T) ∷ ps) ts m le e h d

pub function_runs : (n : ℕ) (f : FunctionType) (ts : Tokens) → levels_of_function f ≤ n → SpellsFunction f ts → refused ts (expected_of_function n) ≡ None
function_runs n f ts le (m, l, e, ps, rs) =
    ap (λ us. refused us (expected_of_function n)) e ∙ (params_run n f.params m l (omega arith) ps (results_expected n ∷ []) ∙ spelled_results n f.results l (omega arith) rs)
