-- What is taken before a refusal begins a type: whatever is expected can be completed.
use Rattle.std.proofs.Common.{◌≡◌, ℕ, zero, suc, ◌<◌, Bool, true, false, List, [], ◌∷◌, ◌++◌, inl, inr, Option, Some, None, refl, sym, ap, subst, ◌∙◌, arith, map, length, codes, append_assoc}
use Rattle.std.specs.Prelude.{◌⊎◌, ◌^◌, ◌||◌, max, if◌then◌else◌}
use Rattle.std.specs.Fmt.{decimal}
use Rattle.std.specs.Str.{bytes_eq}
use Rattle.std.proofs.lemmas.List.{append-nil}
use Rattle.std.proofs.lemmas.Slice.Eq.{bytes_eq-Decides}
use Rattle.wave_wasm.specs.declared.wasm.WasmTypeKind.{WasmTypeKind}
use Rattle.wave_wasm.specs.declared.wasm.WasmTypeKind.TheVariants as kinds
use Rattle.wave_wasm.specs.Lists.{AllOf}
use Rattle.wave_wasm.specs.Names.{AreDistinct, is_one_of}
use Rattle.wave_wasm.specs.Types as type
use Rattle.wave_wasm.specs.Types.{TypeTree, MaybeType, no_type, a_type, Simple, types_of, fields_of, cases_of, maybe_type, simple_kind, field_names, case_names}
use Rattle.wave_wasm.specs.TypeText.{kind_word}
use Rattle.wave_lex.specs.Labels.{IsLabel}
use Rattle.wave_lex.specs.Regex.{Matches, joined}
use Rattle.wave_lex.specs.Tokens.{lower, digit, ◌or◌}
use Rattle.wave_type.specs.declared.error.TypeErrorKind.{TypeErrorKind}
use Rattle.wave_type.specs.declared.error.TypeErrorKind.TheVariants.{UnexpectedToken, UnexpectedEnd, DuplicateName, InvalidKeyType, InvalidCount}
use Rattle.wave_type.specs.TypeFaults.{Part, no_more, a_length, err_type, more_types, more_fields, more_cases, more_names, Expectation, mark_expected, type_expected, key_expected, ok_expected, part_expected, close_expected, last_expected, payloads_expected, payload_expected, results_expected, result_expected, Step, takes, passes, refuses, expected_behind, before, word_step, type_step, only_step, name_step, part_step, step, refused, expected_of_type, expected_of_function}
use Rattle.wave_type.specs.TypeFaultLaws.{TakenBegins}
use Rattle.wave_type.specs.FunctionSpelling.{SpellsParts, SpellsResults}
use Rattle.wave_type.specs.TypeSpelling.{Tokens, Names, Closes, Spells, SpellsPayload, StandsAlone}
use Rattle.wave_type.proofs.TypeReading.Functions.{Parts, no_empty_label, parts_there}
use Rattle.wave_type.specs.Private.TypeReading.{built}
use Rattle.wave_type.specs.TypeWords.{kind_of_word, key_of_word, name_of_token, count_of_token}
use Rattle.wave_type.proofs.TypeFaults.TokenSteps.{by_step}
use Rattle.wave_type.proofs.TypeReading.Sound.{AreParts, IsNamed, IsField, IsCase, names_spelled, types_spelled, fields_spelled, cases_spelled, field_names_of, case_names_of, distinct_more, word_back, count_back, name_back, key_back}

-- ---- a name that is new

abbrev letters : ℕ → List (List ℕ)
letters zero = []
letters (suc k) = codes "a" ∷ letters k

letters_match : (k : ℕ) → AllOf (Matches (lower or digit)) (letters k)
letters_match zero = tt
letters_match (suc k) = (inl (97, refl, refl), letters_match k)

abbrev long_name : ℕ → List ℕ
long_name k = 97 ∷ joined (letters k)

long_label : (k : ℕ) → IsLabel (long_name k)
long_label k = (long_name k, [], sym (append-nil (long_name k)), inl (codes "a", joined (letters k), refl, (97, refl, refl), (letters k, refl, letters_match k)), ([], refl, tt))

long_length : (k : ℕ) → length (joined (letters k)) ≡ k
long_length zero = refl
long_length (suc k) = ap suc (long_length k)

abbrev longest : List (List ℕ) → ℕ
longest [] = 0
longest (n ∷ ns) = max (length n) (longest ns)

differs : (n m : List ℕ) (b : Bool) → bytes_eq n m ≡ b → length m < length n → b ≡ false
differs n m true e h = absurd (omega (arith, ap length ((bytes_eq-Decides n m).0 e)))
differs n m false e h = refl

none_so_long : (ns : List (List ℕ)) (n : List ℕ) → longest ns < length n → is_one_of ns n ≡ false
none_so_long [] n h = refl
none_so_long (m ∷ ns) n h = ap (λ b. b || is_one_of ns n) (differs n m (bytes_eq n m) refl (omega arith)) ∙ none_so_long ns n (omega arith)

abbrev new_name_of : List (List ℕ) → List ℕ
new_name_of names = long_name (longest names)

is_new : (names : List (List ℕ)) → is_one_of names (new_name_of names) ≡ false
is_new names = none_so_long names (new_name_of names) (omega (arith, long_length (longest names)))

-- ---- what fills what is expected

-- each name is none of those, and none before it
abbrev AreNew : List (List ℕ) → List (List ℕ) → Type 0
AreNew names [] = Unit {0}
AreNew names (x ∷ xs) = (is_one_of names x ≡ false) × AreNew (names ++ x ∷ []) xs

-- parts through the mark
abbrev FillsPart : List ℕ → Part → Tokens → Tokens → Type 0
FillsPart mark no_more ts r = ⊥
FillsPart mark a_length ts r = (n : ℕ) × (l : Tokens) × (ts ≡ decimal n ∷ l) × (n < 2 ^ 32) × Closes mark l r
FillsPart mark (err_type n) ts r = (E : TypeTree) × (l : Tokens) × Spells E ts l × Closes mark l r
FillsPart mark (more_types n) ts r = (xs : List TypeTree) × AreParts mark Spells xs ts r
FillsPart mark (more_fields n names) ts r = (xs : List (List ℕ × TypeTree)) × AreParts mark IsField xs ts r × AreNew names (map (λ f. f.0) xs)
FillsPart mark (more_cases n names) ts r = (xs : List (List ℕ × Option TypeTree)) × AreParts mark IsCase xs ts r × AreNew names (map (λ c. c.0) xs)
FillsPart mark (more_names names) ts r = (xs : List (List ℕ)) × AreParts mark IsNamed xs ts r × AreNew names xs

abbrev FillsFirst : List ℕ → Part → Tokens → Tokens → Type 0
FillsFirst mark no_more ts r = Unit {0}
FillsFirst mark a_length ts r = FillsPart mark a_length ts r
FillsFirst mark (err_type n) ts r = FillsPart mark (err_type n) ts r
FillsFirst mark (more_types n) ts r = FillsPart mark (more_types n) ts r
FillsFirst mark (more_fields n names) ts r = FillsPart mark (more_fields n names) ts r
FillsFirst mark (more_cases n names) ts r = FillsPart mark (more_cases n names) ts r
FillsFirst mark (more_names names) ts r = FillsPart mark (more_names names) ts r

-- one type, or named results in parentheses
abbrev FillsResult : Tokens → Tokens → Type 0
FillsResult ts r =
    ((T : TypeTree) × Spells T ts r)
    ⊎ ((xs : List (List ℕ × TypeTree)) × (k : Tokens) × (ts ≡ codes "(" ∷ k) × AreParts (codes ")") IsField xs k r × AreNew [] (map (λ f. f.0) xs))

-- the tokens, up to the rest, are what is expected
abbrev Fills : Expectation → Tokens → Tokens → Type 0
Fills (mark_expected mark) ts r = ts ≡ mark ∷ r
Fills (type_expected n) ts r = (T : TypeTree) × Spells T ts r
Fills key_expected ts r = (K : Simple) × (ts ≡ kind_word (simple_kind K) ∷ r)
Fills (ok_expected n) ts r = (T : TypeTree) × Spells T (codes "result" ∷ codes "<" ∷ ts) r
Fills (part_expected mark part) ts r = FillsFirst mark part ts r
Fills (close_expected mark part) ts r = (ts ≡ mark ∷ r) ⊎ ((u : Tokens) × (ts ≡ codes "," ∷ u) × ((u ≡ mark ∷ r) ⊎ FillsPart mark part u r))
Fills (last_expected mark part) ts r = (ts ≡ mark ∷ r) ⊎ FillsPart mark part ts r
Fills (payloads_expected n) ts r = (T : TypeTree) × Spells T (codes "result" ∷ ts) r
Fills (payload_expected n) ts r = (p : Option TypeTree) × SpellsPayload (maybe_type p) ts r
Fills (results_expected n) ts r = (ts ≡ r) ⊎ ((k : Tokens) × (ts ≡ codes "-" ∷ codes ">" ∷ k) × FillsResult k r)
Fills (result_expected n) ts r = FillsResult ts r

-- one after the other
abbrev FillsAll : List Expectation → Tokens → Tokens → Type 0
FillsAll [] ts r = ts ≡ r
FillsAll (expected ∷ expectations) ts r = (m : Tokens) × Fills expected ts m × FillsAll expectations m r

split : (some expectations : List Expectation) (ts r : Tokens) → FillsAll (some ++ expectations) ts r → (m : Tokens) × FillsAll some ts m × FillsAll expectations m r
split [] expectations ts r h = (ts, refl, h)
split (expected ∷ some) expectations ts r (m, f, h) = let q = split some expectations m r h in (q.0, (m, f, q.1), q.2)

-- ---- completions

one_name : (names : List (List ℕ)) → Names (new_name_of names) (new_name_of names)
one_name names = (long_label (longest names), inl refl)

some_part : (mark : List ℕ) (part : Part) (r : Tokens) → (ts : Tokens) × FillsFirst mark part ts r
some_part mark no_more r = (r, tt)
some_part mark a_length r = (decimal 0 ∷ mark ∷ r, (0, mark ∷ r, refl, omega arith, inl refl))
some_part mark (err_type n) r = (codes "bool" ∷ mark ∷ r, (type.simple type.bool, mark ∷ r, refl, inl refl))
some_part mark (more_types n) r = (codes "bool" ∷ mark ∷ r, (type.simple type.bool ∷ [], (mark ∷ r, refl, inl refl)))
some_part mark (more_fields n names) r =
    let x = new_name_of names in
    (x ∷ codes ":" ∷ codes "bool" ∷ mark ∷ r, ((x, type.simple type.bool) ∷ [], (mark ∷ r, (x, codes "bool" ∷ mark ∷ r, refl, one_name names, refl), inl refl), (is_new names, tt)))
some_part mark (more_cases n names) r =
    let x = new_name_of names in
    (x ∷ mark ∷ r, ((x, None) ∷ [], (mark ∷ r, (x, mark ∷ r, refl, one_name names, refl), inl refl), (is_new names, tt)))
some_part mark (more_names names) r =
    let x = new_name_of names in
    (x ∷ mark ∷ r, (x ∷ [], (mark ∷ r, (x, refl, one_name names), inl refl), (is_new names, tt)))

-- whatever is expected can be completed
some_tokens : (expected : Expectation) (r : Tokens) → (ts : Tokens) × Fills expected ts r
some_tokens (mark_expected mark) r = (mark ∷ r, refl)
some_tokens (type_expected n) r = (codes "bool" ∷ r, (type.simple type.bool, refl))
some_tokens key_expected r = (codes "bool" ∷ r, (type.bool, refl))
some_tokens (ok_expected n) r = (codes "bool" ∷ codes ">" ∷ r, (type.result (a_type (type.simple type.bool)) no_type, (codes "bool" ∷ codes ">" ∷ r, codes ">" ∷ r, refl, refl, inl refl)))
some_tokens (part_expected mark part) r = some_part mark part r
some_tokens (close_expected mark part) r = (mark ∷ r, inl refl)
some_tokens (last_expected mark part) r = (mark ∷ r, inl refl)
some_tokens (payloads_expected n) r = (codes "<" ∷ codes "bool" ∷ codes ">" ∷ r, (type.result (a_type (type.simple type.bool)) no_type, (codes "bool" ∷ codes ">" ∷ r, codes ">" ∷ r, refl, refl, inl refl)))
some_tokens (payload_expected n) r = (r, (None, refl))
some_tokens (results_expected n) r = (r, inl refl)
some_tokens (result_expected n) r = (codes "bool" ∷ r, inl (type.simple type.bool, refl))

all_tokens : (expectations : List Expectation) → (ts : Tokens) × FillsAll expectations ts []
all_tokens [] = ([], refl)
all_tokens (expected ∷ expectations) =
    let rest = all_tokens expectations in
    let first = some_tokens expected rest.0 in
    (first.0, (rest.0, first.1, rest.1))

-- ---- a token that is taken, before what fills what is expected after it

taken_if : (b : Bool) (x more : List Expectation) (y : Step) → (if b then takes x else y) ≡ takes more → ((b ≡ true) × (x ≡ more)) ⊎ ((b ≡ false) × (y ≡ takes more))
taken_if true x more y e = inl (refl, (cc))
taken_if false x more y e = inr (refl, e)

closes_of : (mark : List ℕ) (l m : Tokens) → (l ≡ mark ∷ m) ⊎ ((u : Tokens) × (l ≡ codes "," ∷ u) × ((u ≡ mark ∷ m) ⊎ ⊥)) → Closes mark l m
closes_of mark l m (inl e) = inl e
closes_of mark l m (inr (u, e, inl f)) = inr (e ∙ ap (λ k. codes "," ∷ k) f)
closes_of mark l m (inr (u, e, inr f)) = absurd f

module _ {A : Type 0} (mark : List ℕ) (Is : A → Tokens → Tokens → Type 0) where
  behind_comma : (x : A) (xs : List A) (ts u m : Tokens) → Is x ts (codes "," ∷ u) → AreParts mark Is xs u m → AreParts mark Is (x ∷ xs) ts m
  behind_comma x [] ts u m h more = absurd more
  behind_comma x (y ∷ xs) ts u m h more = (u, h, more)

list_of : (us k l m : Tokens) (E : TypeTree) → us ≡ codes "<" ∷ k → Spells E k l → Fills (close_expected (codes ">") a_length) l m → (T : TypeTree) × Spells T (codes "list" ∷ us) m
list_of us k l m E is s (inl e) = (type.list E, (k, l, ap (λ z. codes "list" ∷ z) is, s, inl e))
list_of us k l m E is s (inr (u, e, inl f)) = (type.list E, (k, l, ap (λ z. codes "list" ∷ z) is, s, inr (e ∙ ap (λ z. codes "," ∷ z) f)))
list_of us k l m E is s (inr (u, e, inr (n, v, f, lt, c))) = (type.fixed E n, (k, v, ap (λ z. codes "list" ∷ z) is, subst (Spells E k) (e ∙ ap (λ z. codes "," ∷ z) f) s, lt, c))

ok_of : (n : ℕ) (ts l m : Tokens) (T : TypeTree) → Spells T ts l → Fills (close_expected (codes ">") (err_type n)) l m → (R : TypeTree) × Spells R (codes "result" ∷ codes "<" ∷ ts) m
ok_of n ts l m T s (inl e) = (type.result (a_type T) no_type, (ts, l, refl, s, inl e))
ok_of n ts l m T s (inr (u, e, inl f)) = (type.result (a_type T) no_type, (ts, l, refl, s, inr (e ∙ ap (λ z. codes "," ∷ z) f)))
ok_of n ts l m T s (inr (u, e, inr (E, v, h, c))) = (type.result (a_type T) (a_type E), (ts, u, v, refl, subst (Spells T ts) e s, h, c))

types_of_fill : (n : ℕ) (mark : List ℕ) (ts l m : Tokens) (T : TypeTree) → Spells T ts l → Fills (close_expected mark (more_types n)) l m → (xs : List TypeTree) × AreParts mark Spells xs ts m
types_of_fill n mark ts l m T s (inl e) = (T ∷ [], (l, s, inl e))
types_of_fill n mark ts l m T s (inr (u, e, inl f)) = (T ∷ [], (l, s, inr (e ∙ ap (λ z. codes "," ∷ z) f)))
types_of_fill n mark ts l m T s (inr (u, e, inr (xs, h))) = (T ∷ xs, behind_comma mark Spells T xs ts u m (subst (Spells T ts) e s) h)

fields_of_fill : (n : ℕ) (mark : List ℕ) (names : List (List ℕ)) (x : List ℕ × TypeTree) (ts l m : Tokens) → is_one_of names x.0 ≡ false → IsField x ts l → Fills (close_expected mark (more_fields n (names ++ x.0 ∷ []))) l m → (xs : List (List ℕ × TypeTree)) × AreParts mark IsField xs ts m × AreNew names (map (λ f. f.0) xs)
fields_of_fill n mark names x ts l m new is (inl e) = (x ∷ [], (l, is, inl e), (new, tt))
fields_of_fill n mark names x ts l m new is (inr (u, e, inl f)) = (x ∷ [], (l, is, inr (e ∙ ap (λ z. codes "," ∷ z) f)), (new, tt))
fields_of_fill n mark names x ts l m new is (inr (u, e, inr (xs, h, d))) = (x ∷ xs, behind_comma mark IsField x xs ts u m (subst (IsField x ts) e is) h, (new, d))

cases_of_fill : (n : ℕ) (mark : List ℕ) (names : List (List ℕ)) (x : List ℕ × Option TypeTree) (ts l m : Tokens) → is_one_of names x.0 ≡ false → IsCase x ts l → Fills (close_expected mark (more_cases n (names ++ x.0 ∷ []))) l m → (xs : List (List ℕ × Option TypeTree)) × AreParts mark IsCase xs ts m × AreNew names (map (λ f. f.0) xs)
cases_of_fill n mark names x ts l m new is (inl e) = (x ∷ [], (l, is, inl e), (new, tt))
cases_of_fill n mark names x ts l m new is (inr (u, e, inl f)) = (x ∷ [], (l, is, inr (e ∙ ap (λ z. codes "," ∷ z) f)), (new, tt))
cases_of_fill n mark names x ts l m new is (inr (u, e, inr (xs, h, d))) = (x ∷ xs, behind_comma mark IsCase x xs ts u m (subst (IsCase x ts) e is) h, (new, d))

names_of_fill : (mark : List ℕ) (names : List (List ℕ)) (x : List ℕ) (ts l m : Tokens) → is_one_of names x ≡ false → IsNamed x ts l → Fills (close_expected mark (more_names (names ++ x ∷ []))) l m → (xs : List (List ℕ)) × AreParts mark IsNamed xs ts m × AreNew names xs
names_of_fill mark names x ts l m new is (inl e) = (x ∷ [], (l, is, inl e), (new, tt))
names_of_fill mark names x ts l m new is (inr (u, e, inl f)) = (x ∷ [], (l, is, inr (e ∙ ap (λ z. codes "," ∷ z) f)), (new, tt))
names_of_fill mark names x ts l m new is (inr (u, e, inr (xs, h, d))) = (x ∷ xs, behind_comma mark IsNamed x xs ts u m (subst (IsNamed x ts) e is) h, (new, d))

distinct_of : (names xs : List (List ℕ)) → AreDistinct names → AreNew names xs → AreDistinct (names ++ xs)
distinct_of names [] d h = subst AreDistinct (sym (append-nil names)) d
distinct_of names (x ∷ xs) d h = subst AreDistinct (append_assoc names (x ∷ []) xs) (distinct_of (names ++ x ∷ []) xs (distinct_more names x d h.0) h.1)

-- what stands after the word of a kind
kind_fill : (n : ℕ) (k : WasmTypeKind) (us m : Tokens) → kind_of_word (kind_word k) ≡ Some k → FillsAll (expected_behind n k) us m → (T : TypeTree) × Spells T (kind_word k ∷ us) m
kind_fill n kinds.List us m w (k, a, (l, (E, s), (r, c, e))) = list_of us k l m E a s (subst (Fills (close_expected (codes ">") a_length) l) e c)
kind_fill n kinds.Option us m w (k, a, (l, (P, s), (r, c, e))) = (type.option P, (k, l, ap (λ z. codes "option" ∷ z) a, s, closes_of (codes ">") l m (subst (Fills (close_expected (codes ">") no_more) l) e c)))
kind_fill n kinds.Map us m w (k, a, (j, (K, b), (i, d, (l, (V, s), (r, c, e))))) =
    (type.map K V, (i, l, ap (λ z. codes "map" ∷ z) (a ∙ ap (λ z. codes "<" ∷ z) (b ∙ ap (λ z. kind_word (simple_kind K) ∷ z) d)), s, closes_of (codes ">") l m (subst (Fills (close_expected (codes ">") no_more) l) e c)))
kind_fill n kinds.Result us m w (k, (T, s), e) = (T, subst (Spells T (codes "result" ∷ us)) e s)
kind_fill n kinds.Tuple us m w (k, a, (l, (xs, h), e)) = (type.tuple (types_of xs), (k, ap (λ z. codes "tuple" ∷ z) a, types_spelled xs k m (subst (AreParts (codes ">") Spells xs k) e h)))
kind_fill n kinds.Record us m w (k, a, (l, (xs, h, d), e)) =
    (type.record_type (fields_of xs), (k, ap (λ z. codes "record" ∷ z) a, fields_spelled (codes "}") xs k m (subst (AreParts (codes "}") IsField xs k) e h), subst AreDistinct (field_names_of xs) (distinct_of [] (map (λ f. f.0) xs) tt d)))
kind_fill n kinds.Variant us m w (k, a, (l, (xs, h, d), e)) =
    (type.variant (cases_of xs), (k, ap (λ z. codes "variant" ∷ z) a, cases_spelled xs k m (subst (AreParts (codes "}") IsCase xs k) e h), subst AreDistinct (case_names_of xs) (distinct_of [] (map (λ f. f.0) xs) tt d)))
kind_fill n kinds.Enum us m w (k, a, (l, (xs, h, d), e)) =
    (type.enum xs, (k, ap (λ z. codes "enum" ∷ z) a, names_spelled (codes "}") xs k m (subst (AreParts (codes "}") IsNamed xs k) e h), distinct_of [] xs tt d))
kind_fill n kinds.Flags us m w (k, a, (l, (xs, h, d), e)) =
    (type.flags xs, (k, ap (λ z. codes "flags" ∷ z) a, names_spelled (codes "}") xs k m (subst (AreParts (codes "}") IsNamed xs k) e h), distinct_of [] xs tt d))
kind_fill n kinds.Bool us m w e = (type.simple type.bool, ap (λ z. codes "bool" ∷ z) e)
kind_fill n kinds.S8 us m w e = (type.simple (type.whole type.s8), ap (λ z. codes "s8" ∷ z) e)
kind_fill n kinds.S16 us m w e = (type.simple (type.whole type.s16), ap (λ z. codes "s16" ∷ z) e)
kind_fill n kinds.S32 us m w e = (type.simple (type.whole type.s32), ap (λ z. codes "s32" ∷ z) e)
kind_fill n kinds.S64 us m w e = (type.simple (type.whole type.s64), ap (λ z. codes "s64" ∷ z) e)
kind_fill n kinds.U8 us m w e = (type.simple (type.whole type.u8), ap (λ z. codes "u8" ∷ z) e)
kind_fill n kinds.U16 us m w e = (type.simple (type.whole type.u16), ap (λ z. codes "u16" ∷ z) e)
kind_fill n kinds.U32 us m w e = (type.simple (type.whole type.u32), ap (λ z. codes "u32" ∷ z) e)
kind_fill n kinds.U64 us m w e = (type.simple (type.whole type.u64), ap (λ z. codes "u64" ∷ z) e)
kind_fill n kinds.F32 us m w e = (type.unreadable type.f32, ap (λ z. codes "f32" ∷ z) e)
kind_fill n kinds.F64 us m w e = (type.unreadable type.f64, ap (λ z. codes "f64" ∷ z) e)
kind_fill n kinds.Char us m w e = (type.simple type.char, ap (λ z. codes "char" ∷ z) e)
kind_fill n kinds.String us m w e = (type.simple type.string, ap (λ z. codes "string" ∷ z) e)
kind_fill n kinds.FixedLengthList us m w h = absurd (cc)
kind_fill n kinds.Unsupported us m w h = absurd (cc)

word_fill : (n : ℕ) (o : Option WasmTypeKind) (t : List ℕ) (more : List Expectation) (us m : Tokens) → kind_of_word t ≡ o → word_step n o ≡ takes more → FillsAll more us m → (T : TypeTree) × Spells T (t ∷ us) m
word_fill n None t more us m w e h = absurd (cc)
word_fill zero (Some k) t more us m w e h = absurd (cc)
word_fill (suc n) (Some k) t more us m w e h =
    let is : t ≡ kind_word k = word_back t k w in
    let same : expected_behind n k ≡ more = cc e in
    let q = kind_fill n k us m (ap kind_of_word (sym is) ∙ w) (subst (λ ds. FillsAll ds us m) (sym same) h) in
    (q.0, subst (λ z. Spells q.0 (z ∷ us) m) (sym is) q.1)

type_fill : (n : ℕ) (t : List ℕ) (more : List Expectation) (us m : Tokens) → type_step n t ≡ takes more → FillsAll more us m → (T : TypeTree) × Spells T (t ∷ us) m
type_fill n t more us m e h = word_fill n (kind_of_word t) t more us m refl e h

-- the word of a type, and what is expected after the type
before_fill : (s : Step) (behind more : List Expectation) → before s behind ≡ takes more → (some : List Expectation) × (s ≡ takes some) × (some ++ behind ≡ more)
before_fill (takes some) behind more e = (some, refl, (cc))
before_fill passes behind more e = absurd (cc)
before_fill (refuses k) behind more e = absurd (cc)

then_fill : (n : ℕ) (t : List ℕ) (behind more : List Expectation) (us m : Tokens) → before (type_step n t) behind ≡ takes more → FillsAll more us m → (T : TypeTree) × (l : Tokens) × Spells T (t ∷ us) l × FillsAll behind l m
then_fill n t behind more us m e h =
    let b = before_fill (type_step n t) behind more e in
    let q = split b.0 behind us m (subst (λ ds. FillsAll ds us m) (sym b.2) h) in
    let f = type_fill n t b.0 us q.0 b.1 q.1 in
    (f.0, q.0, f.1, q.2)

-- a name, and what is expected after it
name_fill : (names : List (List ℕ)) (o : Option (List ℕ)) (t : List ℕ) (next : List (List ℕ) → List Expectation) (more : List Expectation) → name_of_token t ≡ o → name_step names o next ≡ takes more → (x : List ℕ) × Names t x × (is_one_of names x ≡ false) × (next (names ++ x ∷ []) ≡ more)
name_fill names None t next more w e = absurd (cc)
name_fill names (Some x) t next more w e = let q = new (is_one_of names x) refl e in (x, name_back t x w, q.0, q.1)
  where
    new : (b : Bool) → is_one_of names x ≡ b → (if b then refuses DuplicateName else takes (next (names ++ x ∷ []))) ≡ takes more → (is_one_of names x ≡ false) × (next (names ++ x ∷ []) ≡ more)
    new true h e = absurd (cc)
    new false h e = (h, (cc))

part_fill : (mark : List ℕ) (part : Part) (t : List ℕ) (more : List Expectation) (us m : Tokens) → part_step mark part t ≡ takes more → FillsAll more us m → FillsPart mark part (t ∷ us) m
part_fill mark no_more t more us m e h = absurd (cc)
part_fill mark a_length t more us m e h = count (count_of_token t) refl e
  where
    count : (o : Option ℕ) → count_of_token t ≡ o → only_step o InvalidCount t (close_expected mark no_more ∷ []) ≡ takes more → FillsPart mark a_length (t ∷ us) m
    count None w e = absurd (cc)
    count (Some n) w e =
        let q = count_back t n w in
        let same : close_expected mark no_more ∷ [] ≡ more = cc e in
        let f = subst (λ ds. FillsAll ds us m) (sym same) h in
        (n, us, ap (λ z. z ∷ us) q.0, q.1, closes_of mark us m (subst (Fills (close_expected mark no_more) us) f.2 f.1))
part_fill mark (err_type n) t more us m e h =
    let q = then_fill n t (close_expected mark no_more ∷ []) more us m e h in
    (q.0, q.1, q.2, closes_of mark q.1 m (subst (Fills (close_expected mark no_more) q.1) q.3.2 q.3.1))
part_fill mark (more_types n) t more us m e h =
    let q = then_fill n t (close_expected mark (more_types n) ∷ []) more us m e h in
    types_of_fill n mark (t ∷ us) q.1 m q.0 q.2 (subst (Fills (close_expected mark (more_types n)) q.1) q.3.2 q.3.1)
part_fill mark (more_fields n names) t more us m e h =
    let q = name_fill names (name_of_token t) t (λ names. mark_expected (codes ":") ∷ type_expected n ∷ close_expected mark (more_fields n names) ∷ []) more refl e in
    let (k, a, (l, (T, s), (r, c, z))) = subst (λ ds. FillsAll ds us m) (sym q.3) h in
    fields_of_fill n mark names (q.0, T) (t ∷ us) l m q.2 (t, k, ap (λ z. t ∷ z) a, q.1, s) (subst (Fills (close_expected mark (more_fields n (names ++ q.0 ∷ []))) l) z c)
part_fill mark (more_cases n names) t more us m e h =
    let q = name_fill names (name_of_token t) t (λ names. payload_expected n ∷ close_expected mark (more_cases n names) ∷ []) more refl e in
    let (l, (p, s), (r, c, z)) = subst (λ ds. FillsAll ds us m) (sym q.3) h in
    cases_of_fill n mark names (q.0, p) (t ∷ us) l m q.2 (t, us, refl, q.1, s) (subst (Fills (close_expected mark (more_cases n (names ++ q.0 ∷ []))) l) z c)
part_fill mark (more_names names) t more us m e h =
    let q = name_fill names (name_of_token t) t (λ names. close_expected mark (more_names names) ∷ []) more refl e in
    let (r, c, z) = subst (λ ds. FillsAll ds us m) (sym q.3) h in
    names_of_fill mark names q.0 (t ∷ us) us m q.2 (t, refl, q.1) (subst (Fills (close_expected mark (more_names (names ++ q.0 ∷ []))) us) z c)

mark_is : (t mark : List ℕ) → bytes_eq t mark ≡ true → t ≡ mark
mark_is t mark e = (bytes_eq-Decides t mark).0 e

-- what is expected is what was taken, and what fills what is expected then
expected_fill : (expected : Expectation) (t : List ℕ) (more : List Expectation) (us m : Tokens) → step expected t ≡ takes more → FillsAll more us m → Fills expected (t ∷ us) m
expected_fill (mark_expected mark) t more us m e h = elim (taken_if (bytes_eq t mark) [] more (refuses UnexpectedToken) e) as (λ _. t ∷ us ≡ mark ∷ m) [
  | inl p ↦ let end : us ≡ m = subst (λ ds. FillsAll ds us m) (sym p.1) h in λ i. mark_is t mark p.0 i ∷ end i
  | inr p ↦ let wrong : refuses UnexpectedToken ≡ takes more = p.1 in absurd (cc)
]
expected_fill (type_expected n) t more us m e h = type_fill n t more us m e h
expected_fill key_expected t more us m e h = key (key_of_word t) refl e
  where
    key : (o : Option TypeTree) → key_of_word t ≡ o → only_step o InvalidKeyType t [] ≡ takes more → (K : Simple) × (t ∷ us ≡ kind_word (simple_kind K) ∷ m)
    key None w e = absurd (cc)
    key (Some K) w e =
        let none : [] ≡ more = cc e in
        let end : us ≡ m = subst (λ ds. FillsAll ds us m) (sym none) h in
        let q = key_back (t ∷ us) (K, us) (ap (λ o. built o us) w) in
        (q.kind, q.next ∙ ap (λ z. kind_word (simple_kind q.kind) ∷ z) end)
expected_fill (ok_expected n) t more us m e h = elim (taken_if (bytes_eq t (codes "_")) (mark_expected (codes ",") ∷ type_expected n ∷ close_expected (codes ">") no_more ∷ []) more (before (type_step n t) (close_expected (codes ">") (err_type n) ∷ [])) e) as (λ _. (T : TypeTree) × Spells T (codes "result" ∷ codes "<" ∷ t ∷ us) m) [
  | inl p ↦
      let (k, a, (l, (E, s), (r, c, z))) = subst (λ ds. FillsAll ds us m) (sym p.1) h in
      (type.result no_type (a_type E), (k, l, (λ i. codes "result" ∷ codes "<" ∷ mark_is t (codes "_") p.0 i ∷ a i), s, closes_of (codes ">") l m (subst (Fills (close_expected (codes ">") no_more) l) z c)))
  | inr p ↦
      let q = then_fill n t (close_expected (codes ">") (err_type n) ∷ []) more us m p.1 h in
      ok_of n (t ∷ us) q.1 m q.0 q.2 (subst (Fills (close_expected (codes ">") (err_type n)) q.1) q.3.2 q.3.1)
]
expected_fill (part_expected mark part) t more us m e h = first_fill part (part_fill mark part t more us m e h)
  where
    first_fill : (part : Part) → FillsPart mark part (t ∷ us) m → FillsFirst mark part (t ∷ us) m
    first_fill no_more f = tt
    first_fill a_length f = f
    first_fill (err_type n) f = f
    first_fill (more_types n) f = f
    first_fill (more_fields n names) f = f
    first_fill (more_cases n names) f = f
    first_fill (more_names names) f = f
expected_fill (close_expected mark part) t more us m e h = elim (taken_if (bytes_eq t mark) [] more (if bytes_eq t (codes ",") then takes (last_expected mark part ∷ []) else refuses UnexpectedToken) e) as (λ _. Fills (close_expected mark part) (t ∷ us) m) [
  | inl p ↦ let end : us ≡ m = subst (λ ds. FillsAll ds us m) (sym p.1) h in inl (λ i. mark_is t mark p.0 i ∷ end i)
  | inr p ↦ elim (taken_if (bytes_eq t (codes ",")) (last_expected mark part ∷ []) more (refuses UnexpectedToken) p.1) as (λ _. Fills (close_expected mark part) (t ∷ us) m) [
    | inl q ↦
        let (r, f, z) = subst (λ ds. FillsAll ds us m) (sym q.1) h in
        inr (us, ap (λ z. z ∷ us) (mark_is t (codes ",") q.0), subst (Fills (last_expected mark part) us) z f)
    | inr q ↦ let wrong : refuses UnexpectedToken ≡ takes more = q.1 in absurd (cc)
  ]
]
expected_fill (last_expected mark part) t more us m e h = elim (taken_if (bytes_eq t mark) [] more (part_step mark part t) e) as (λ _. Fills (last_expected mark part) (t ∷ us) m) [
  | inl p ↦ let end : us ≡ m = subst (λ ds. FillsAll ds us m) (sym p.1) h in inl (λ i. mark_is t mark p.0 i ∷ end i)
  | inr p ↦ inr (part_fill mark part t more us m p.1 h)
]
expected_fill (payloads_expected n) t more us m e h = elim (taken_if (bytes_eq t (codes "<")) (ok_expected n ∷ []) more passes e) as (λ _. (T : TypeTree) × Spells T (codes "result" ∷ t ∷ us) m) [
  | inl p ↦
      let (r, (T, s), z) = subst (λ ds. FillsAll ds us m) (sym p.1) h in
      (T, subst (λ w. Spells T (codes "result" ∷ w ∷ us) m) (sym (mark_is t (codes "<") p.0)) (subst (Spells T (codes "result" ∷ codes "<" ∷ us)) z s))
  | inr p ↦ let wrong : passes ≡ takes more = p.1 in absurd (cc)
]
expected_fill (payload_expected n) t more us m e h = elim (taken_if (bytes_eq t (codes "(")) (type_expected n ∷ mark_expected (codes ")") ∷ []) more passes e) as (λ _. (p : Option TypeTree) × SpellsPayload (maybe_type p) (t ∷ us) m) [
  | inl p ↦
      let (l, (T, s), (r, a, z)) = subst (λ ds. FillsAll ds us m) (sym p.1) h in
      (Some T, (us, ap (λ w. w ∷ us) (mark_is t (codes "(") p.0), subst (Spells T us) (a ∙ ap (λ w. codes ")" ∷ w) z) s))
  | inr p ↦ let wrong : passes ≡ takes more = p.1 in absurd (cc)
]
expected_fill (results_expected n) t more us m e h = elim (taken_if (bytes_eq t (codes "-")) (mark_expected (codes ">") ∷ result_expected n ∷ []) more passes e) as (λ _. Fills (results_expected n) (t ∷ us) m) [
  | inl p ↦
      let (k, a, (r, f, z)) = subst (λ ds. FillsAll ds us m) (sym p.1) h in
      inr (k, (λ i. mark_is t (codes "-") p.0 i ∷ a i), subst (FillsResult k) z f)
  | inr p ↦ let wrong : passes ≡ takes more = p.1 in absurd (cc)
]
expected_fill (result_expected n) t more us m e h = elim (taken_if (bytes_eq t (codes "(")) (part_expected (codes ")") (more_fields n []) ∷ []) more (type_step n t) e) as (λ _. FillsResult (t ∷ us) m) [
  | inl p ↦
      let (r, (xs, f, d), z) = subst (λ ds. FillsAll ds us m) (sym p.1) h in
      inr (xs, us, ap (λ w. w ∷ us) (mark_is t (codes "(") p.0), subst (AreParts (codes ")") IsField xs us) z f, d)
  | inr p ↦ inl (type_fill n t more us m p.1 h)
]

-- ---- what may be left out

-- a step that passes is one of what may be left out, and its mark doesn't stand there
abbrev NotPass : Step → Type 0
NotPass (takes more) = Unit {0}
NotPass passes = ⊥
NotPass (refuses kind) = Unit {0}

if_no_pass : (b : Bool) (x y : Step) → NotPass x → NotPass y → NotPass (if b then x else y)
if_no_pass true x y h k = h
if_no_pass false x y h k = k

word_no_pass : (n : ℕ) (o : Option WasmTypeKind) → NotPass (word_step n o)
word_no_pass n None = tt
word_no_pass zero (Some kind) = tt
word_no_pass (suc n) (Some kind) = tt

before_no_pass : (s : Step) (more : List Expectation) → NotPass s → NotPass (before s more)
before_no_pass (takes expectations) more h = tt
before_no_pass passes more h = h
before_no_pass (refuses k) more h = tt

only_no_pass : {A : Type 0} (o : Option A) (kind : TypeErrorKind) (t : List ℕ) (more : List Expectation) → NotPass (only_step o kind t more)
only_no_pass (Some a) kind t more = tt
only_no_pass None kind t more = tt

name_no_pass : (names : List (List ℕ)) (o : Option (List ℕ)) (next : List (List ℕ) → List Expectation) → NotPass (name_step names o next)
name_no_pass names None next = tt
name_no_pass names (Some x) next = if_no_pass (is_one_of names x) (refuses DuplicateName) (takes (next (names ++ x ∷ []))) tt tt

part_no_pass : (mark : List ℕ) (part : Part) (t : List ℕ) → NotPass (part_step mark part t)
part_no_pass mark no_more t = tt
part_no_pass mark a_length t = only_no_pass (count_of_token t) InvalidCount t (close_expected mark no_more ∷ [])
part_no_pass mark (err_type n) t = before_no_pass (type_step n t) (close_expected mark no_more ∷ []) (word_no_pass n (kind_of_word t))
part_no_pass mark (more_types n) t = before_no_pass (type_step n t) (close_expected mark (more_types n) ∷ []) (word_no_pass n (kind_of_word t))
part_no_pass mark (more_fields n names) t = name_no_pass names (name_of_token t) (λ names. mark_expected (codes ":") ∷ type_expected n ∷ close_expected mark (more_fields n names) ∷ [])
part_no_pass mark (more_cases n names) t = name_no_pass names (name_of_token t) (λ names. payload_expected n ∷ close_expected mark (more_cases n names) ∷ [])
part_no_pass mark (more_names names) t = name_no_pass names (name_of_token t) (λ names. close_expected mark (more_names names) ∷ [])

alone_if : (t : List ℕ) (us : Tokens) (b : Bool) (more : List Expectation) → bytes_eq t (codes "<") ≡ b → (if b then takes more else passes) ≡ passes → StandsAlone (t ∷ us)
alone_if t us true more h e = absurd (cc)
alone_if t us false more h e = λ same. let wrong : true ≡ false = sym ((bytes_eq-Decides t (codes "<")).1 same) ∙ h in cc

step_no_pass : (expected : Expectation) (t : List ℕ) → NotPass (step expected t) ⊎ ((us : Tokens) → step expected t ≡ passes → Fills expected (t ∷ us) (t ∷ us))
step_no_pass (mark_expected mark) t = inl (if_no_pass (bytes_eq t mark) (takes []) (refuses UnexpectedToken) tt tt)
step_no_pass (type_expected n) t = inl (word_no_pass n (kind_of_word t))
step_no_pass key_expected t = inl (only_no_pass (key_of_word t) InvalidKeyType t [])
step_no_pass (ok_expected n) t =
    inl (if_no_pass (bytes_eq t (codes "_")) (takes (mark_expected (codes ",") ∷ type_expected n ∷ close_expected (codes ">") no_more ∷ [])) (before (type_step n t) (close_expected (codes ">") (err_type n) ∷ [])) tt (before_no_pass (type_step n t) (close_expected (codes ">") (err_type n) ∷ []) (word_no_pass n (kind_of_word t))))
step_no_pass (part_expected mark part) t = inl (part_no_pass mark part t)
step_no_pass (close_expected mark part) t =
    inl (if_no_pass (bytes_eq t mark) (takes []) (if bytes_eq t (codes ",") then takes (last_expected mark part ∷ []) else refuses UnexpectedToken) tt (if_no_pass (bytes_eq t (codes ",")) (takes (last_expected mark part ∷ [])) (refuses UnexpectedToken) tt tt))
step_no_pass (last_expected mark part) t = inl (if_no_pass (bytes_eq t mark) (takes []) (part_step mark part t) tt (part_no_pass mark part t))
step_no_pass (payloads_expected n) t = inr (λ us e. (type.result no_type no_type, (refl, alone_if t us (bytes_eq t (codes "<")) (ok_expected n ∷ []) refl e)))
step_no_pass (payload_expected n) t = inr (λ us e. (None, refl))
step_no_pass (results_expected n) t = inr (λ us e. inl refl)
step_no_pass (result_expected n) t = inl (if_no_pass (bytes_eq t (codes "(")) (takes (part_expected (codes ")") (more_fields n []) ∷ [])) (type_step n t) tt (word_no_pass n (kind_of_word t)))

pass_fill : (expected : Expectation) (t : List ℕ) (us : Tokens) → step expected t ≡ passes → Fills expected (t ∷ us) (t ∷ us)
pass_fill expected t us e = elim (step_no_pass expected t) as (λ _. Fills expected (t ∷ us) (t ∷ us)) [ inl never ↦ absurd (subst NotPass e never) | inr fills ↦ fills us e ]

-- ---- beginnings

-- what was taken before the tokens that are left, and what may follow it, are all that is expected
abbrev Begins : List Expectation → Tokens → Tokens → Type 0
Begins expectations ts left = (prefix : Tokens) × (ts ≡ prefix ++ left) × (more : Tokens) × FillsAll expectations (prefix ++ more) []

from_here : (expectations : List Expectation) (ts left : Tokens) → ts ≡ left → Begins expectations ts left
from_here expectations ts left e = let all = all_tokens expectations in ([], e, all.0, all.1)

ended_begins : (expectations all : List Expectation) (kind : TypeErrorKind) (left : Tokens) → refused [] expectations ≡ Some (kind, left) → [] ≡ left
ended_begins [] all kind left e = absurd (cc)
ended_begins (payloads_expected n ∷ expectations) all kind left e = ended_begins expectations all kind left e
ended_begins (payload_expected n ∷ expectations) all kind left e = ended_begins expectations all kind left e
ended_begins (results_expected n ∷ expectations) all kind left e = ended_begins expectations all kind left e
ended_begins (expected ∷ expectations) all kind left e = let same : ◌≡◌ {A = TypeErrorKind × Tokens} (UnexpectedEnd, []) (kind, left) = cc in λ i. (same i).1

module _ (t : List ℕ) (ts left : Tokens) (kind : TypeErrorKind) (below : (expectations : List Expectation) → refused ts expectations ≡ Some (kind, left) → Begins expectations ts left) where
  passed : (expected : Expectation) (expectations : List Expectation) → step expected t ≡ passes → Begins expectations (t ∷ ts) left → Begins (expected ∷ expectations) (t ∷ ts) left
  passed expected expectations h ([], e, more, f) = from_here (expected ∷ expectations) (t ∷ ts) left e
  passed expected expectations h (u ∷ prefix, e, more, f) =
      let same : t ≡ u = cc in
      (u ∷ prefix, e, more, (u ∷ prefix ++ more, pass_fill expected u (prefix ++ more) (subst (λ z. step expected z ≡ passes) same h), f))

  begins_at : (expectations : List Expectation) → refused (t ∷ ts) expectations ≡ Some (kind, left) → Begins expectations (t ∷ ts) left
  begins_at [] e = let same : ◌≡◌ {A = TypeErrorKind × Tokens} (UnexpectedToken, t ∷ ts) (kind, left) = cc in ([], (λ i. (same i).1), [], refl)
  begins_at (expected ∷ expectations) e = by (step expected t) refl (begins_at expectations)
    where
      by : (s : Step) → step expected t ≡ s → (refused (t ∷ ts) expectations ≡ Some (kind, left) → Begins expectations (t ∷ ts) left) → Begins (expected ∷ expectations) (t ∷ ts) left
      by (takes some) h next =
          let (prefix, e', more, f) = below (some ++ expectations) (sym (by_step t ts expected expectations (takes some) h) ∙ e) in
          let q = split some expectations (prefix ++ more) [] f in
          (t ∷ prefix, ap (λ z. t ∷ z) e', more, (q.0, expected_fill expected t some (prefix ++ more) q.0 h q.1, q.2))
      by passes h next = passed expected expectations h (next (sym (by_step t ts expected expectations passes h) ∙ e))
      by (refuses k) h next =
          let same : ◌≡◌ {A = TypeErrorKind × Tokens} (k, t ∷ ts) (kind, left) = cc (by_step t ts expected expectations (refuses k) h) in
          from_here (expected ∷ expectations) (t ∷ ts) left (λ i. (same i).1)

all_begin : (ts : Tokens) (expectations : List Expectation) (kind : TypeErrorKind) (left : Tokens) → refused ts expectations ≡ Some (kind, left) → Begins expectations ts left
all_begin [] expectations kind left e = from_here expectations [] left (ended_begins expectations expectations kind left e)
all_begin (t ∷ ts) expectations kind left e = begins_at t ts left kind (λ expectations. all_begin ts expectations kind left) expectations e

-- ---- functions

-- fields through `)`
fields_fill : (xs : Parts) (ts r : Tokens) → AreParts (codes ")") IsField xs ts r → AreNew [] (map (λ f. f.0) xs) → SpellsParts xs ts r
fields_fill xs ts r h d = parts_there xs ts r (fields_spelled (codes ")") xs ts r h) (subst AreDistinct (field_names_of xs) (distinct_of [] (map (λ f. f.0) xs) tt d))

params_fill : (n : ℕ) (ts r : Tokens) → Fills (last_expected (codes ")") (more_fields n [])) ts r → (ps : Parts) × SpellsParts ps ts r
params_fill n ts r (inl e) = ([], e)
params_fill n ts r (inr (xs, h, d)) = (xs, fields_fill xs ts r h d)

named_fill : (rs : Parts) (ts m : Tokens) → ts ≡ codes "-" ∷ codes ">" ∷ codes "(" ∷ m → AreParts (codes ")") IsField rs m [] → SpellsParts rs m [] → SpellsResults rs ts
named_fill [] ts m e h d = absurd h
named_fill (([], T) ∷ []) ts m e (l, (t, k, q, n, s), c) d = absurd (no_empty_label n.0)
named_fill (([], T) ∷ p ∷ ps) ts m e h d = (m, e, d)
named_fill ((c ∷ cs, T) ∷ ps) ts m e h d = (m, e, d)

results_fill : (n : ℕ) (ts : Tokens) → Fills (results_expected n) ts [] → (rs : Parts) × SpellsResults rs ts
results_fill n ts (inl e) = ([], e)
results_fill n ts (inr (k, a, inl (T, s))) = (([], T) ∷ [], (k, a, s))
results_fill n ts (inr (k, a, inr (xs, j, b, h, d))) = (xs, named_fill xs ts j (a ∙ ap (λ z. codes "-" ∷ codes ">" ∷ z) b) h (fields_fill xs j [] h d))

-- what is taken before a refusal begins a type, or the type of a function
pub taken_begins : TakenBegins
taken_begins = record {
  types = λ n ts left kind e.
      let (prefix, same, more, (m, (T, s), end)) = all_begin ts (expected_of_type n) kind left e in
      (prefix, same, T, more, subst (Spells T (prefix ++ more)) end s);
  functions = λ n ts left kind e.
      let (prefix, same, more, (a, func, (b, paren, (c, params, (d, results, end))))) = all_begin ts (expected_of_function n) kind left e in
      let ps = params_fill n b c params in
      let rs = results_fill n c (subst (Fills (results_expected n) c) end results) in
      (prefix, same, record { params = ps.0; results = rs.0 }, more, (b, c, func ∙ ap (λ z. codes "func" ∷ z) paren, ps.1, rs.1));
}
