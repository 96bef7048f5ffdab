-- Tokens that spell a type are read as it.
use Rattle.std.proofs.Common.{◌≡◌, ℕ, zero, suc, ◌+◌, ◌≤◌, ◌<◌, Bool, true, false, not, List, [], ◌∷◌, ◌++◌, inl, inr, Option, Some, None, refl, sym, ap, subst, ◌∙◌, arith, map, length, codes, get_or, append_assoc}
use Rattle.std.specs.Prelude.{◌||◌, ◌^◌, nat_lt, max, ◌==◌, if◌then◌else◌}
use Rattle.std.specs.Fmt.{decimal}
use Rattle.std.specs.Str.{bytes_eq}
use Rattle.std.proofs.lemmas.Bool.{and_parts}
use Rattle.std.proofs.lemmas.Bool.Decides.{nat_tests}
use Rattle.std.proofs.lemmas.Slice.Eq.{bytes_eq-Decides}
use Rattle.wave_wasm.specs.declared.wasm.WasmTypeKind.{WasmTypeKind}
use Rattle.wave_wasm.specs.declared.wasm.WasmTypeKind.TheVariants as kinds
use Rattle.wave_wasm.specs.Names.{IsNoneOf, AreDistinct, is_one_of}
use Rattle.wave_wasm.specs.Types.{Simple, bool, whole, char, string, s8, s16, s32, s64, u8, u16, u32, u64, TypeTree, simple, unreadable, list, fixed, record_type, tuple, variant, enum, option, result, flags, map as map_tree, f32, f64, unsupported, MaybeType, no_type, a_type, Types, no_types, type_and, Fields, no_fields, field, Cases, no_cases, case_of, type_list, field_list, case_list, type_option, types_of, fields_of, cases_of, maybe_type, simple_kind, field_names, case_names}
use Rattle.wave_wasm.specs.TypeText.{kind_word}
use Rattle.wave_lex.specs.Labels.{IsLabel}
use Rattle.wave_lex.specs.Tokens.{label}
use Rattle.wave_lex.proofs.RegularShapes.Derivatives.{matches_into}
use Rattle.wave_type.specs.TypeConstructors.{tuple_type, variant_type, enum_type, flags_type, map_type}
use Rattle.wave_type.specs.TypeConstructors as maker
use Rattle.wave_type.specs.TypeSpelling.{Tokens, Names, Closes, StandsAlone, Spells, SpellsNames, SpellsTypes, SpellsFields, SpellsCases, SpellsPayload, levels_of, levels_of_payload, levels_of_types, levels_of_fields, levels_of_cases}
use Rattle.wave_type.specs.Private.TypeReading.{or_else, with, built, after, closed, kind_at, new_name, count_at, parts, names_read, Reads, key_at, types_read, field_part, fields_read, payload_read, case_part, cases_read, payloads_read, result_read, kind_read, type_read}
use Rattle.wave_type.proofs.TypeReading.CountTokens.{same_count}
use Rattle.wave_type.proofs.TypeTexts.Prefixes.{label_goes_on, number_goes_on, has_no_stop, is_stop}
use Rattle.wave_type.proofs.TypeReading.Sound.{AreParts, IsNamed, IsField, IsCase, map_more}
use Rattle.wave_type.specs.TypeWords.{is_label, key_of_word, name_of_token, onward, without_percent}

-- ---- one step and then another

module _ {A B : Type 0} where
  pub onward_there : (o : Option A) (next : A → Option B) (a : A) (b : Option B) → o ≡ Some a → next a ≡ b → onward o next ≡ b
  onward_there o next a b e h = ap (λ p. onward p next) e ∙ h

module _ {A : Type 0} where
  or_first : (o p : Option A) (a : A) → o ≡ Some a → or_else o p ≡ Some a
  or_first o p a e = ap (λ q. or_else q p) e

  or_second : (o p b : Option A) → o ≡ None → p ≡ b → or_else o p ≡ b
  or_second o p b e h = ap (λ q. or_else q p) e ∙ h

  with_there : (a : A) (o : Option Tokens) (r : Tokens) → o ≡ Some r → with a o ≡ Some (a, r)
  with_there a o r e = ap (with a) e

  with_none : (a : A) (o : Option Tokens) → o ≡ None → with a o ≡ None
  with_none a o e = ap (with a) e

-- ---- one token

pub after_there : (mark : List ℕ) (r : Tokens) → after mark (mark ∷ r) ≡ Some r
after_there mark r = ap (λ b. if b then Some r else None) ((bytes_eq-Decides mark mark).1 refl)

pub after_other : (mark t : List ℕ) (r : Tokens) → bytes_eq t mark ≡ false → after mark (t ∷ r) ≡ None
after_other mark t r e = ap (λ b. if b then Some r else None) e

-- the mark is none of the other tokens that may stand there
pub record IsMark (mark : List ℕ) : Type 0 where
  pub comma : bytes_eq (codes ",") mark ≡ false
  pub label : is_label mark ≡ false
  pub percent : (name : List ℕ) → codes "%" ++ name ≡ mark → ⊥

pub brace : IsMark (codes "}")
brace = record { comma = refl; label = refl; percent = λ name e. let same : 37 ≡ 125 = ap (λ l. get_or l 0 0) e in cc }

pub paren : IsMark (codes ")")
paren = record { comma = refl; label = refl; percent = λ name e. let same : 37 ≡ 41 = ap (λ l. get_or l 0 0) e in cc }

pub closed_there : (mark : List ℕ) → bytes_eq (codes ",") mark ≡ false → (ts r : Tokens) → Closes mark ts r → closed mark ts ≡ Some r
closed_there mark comma ts r (inl e) = or_first (after mark ts) _ r (ap (after mark) e ∙ after_there mark r)
closed_there mark comma ts r (inr e) = or_second (after mark ts) _ (Some r) (ap (after mark) e ∙ after_other mark (codes ",") (mark ∷ r) comma) (ap (λ l. onward (after (codes ",") l) (after mark)) e ∙ after_there mark r)

pub closed_not : (mark : List ℕ) → bytes_eq (codes ",") mark ≡ false → (m : Tokens) → after mark m ≡ None → closed mark (codes "," ∷ m) ≡ None
closed_not mark comma m e = or_second (after mark (codes "," ∷ m)) (after mark m) None (after_other mark (codes ",") m comma) e

pub angle : bytes_eq (codes ",") (codes ">") ≡ false
angle = refl

-- a label has no `%` before it
not_percent : (c : ℕ) (cs : List ℕ) (b : Bool) → (c == 37) ≡ b → has_no_stop (c ∷ cs) ≡ true → (if b then cs else c ∷ cs) ≡ c ∷ cs
not_percent c cs true e h =
    let same : c ≡ 37 = grind (arith, nat_tests) in
    let wrong : not (is_stop 37) ≡ true = subst (λ z. not (is_stop z) ≡ true) same (and_parts _ _ h).0 in
    absurd (cc)
not_percent c cs false e h = refl

itself : (name : List ℕ) → has_no_stop name ≡ true → without_percent name ≡ name
itself [] h = refl
itself (c ∷ cs) h = not_percent c cs (c == 37) refl h

label_there : (t name : List ℕ) → without_percent t ≡ name → IsLabel name → name_of_token t ≡ Some name
label_there t name e h =
    ap (λ z. if is_label z then Some z else None) e ∙ ap (λ b. if b then Some name else None) (matches_into name label h)

name_there : (t name : List ℕ) → Names t name → name_of_token t ≡ Some name
name_there t name (h, inl e) = label_there t name (ap without_percent e ∙ itself name (label_goes_on name h)) h
name_there t name (h, inr e) = label_there t name (ap without_percent e) h

-- a name is no mark
name_is_no_mark : (mark t name : List ℕ) → IsMark mark → Names t name → t ≡ mark → ⊥
name_is_no_mark mark t name is (h, inl e) same = let wrong : true ≡ false = sym (matches_into name label h) ∙ (ap is_label (sym e ∙ same) ∙ is.label) in cc
name_is_no_mark mark t name is (h, inr e) same = is.percent name (sym e ∙ same)

not_equal : (x y : List ℕ) (b : Bool) → bytes_eq x y ≡ b → (x ≡ y → ⊥) → b ≡ false
not_equal x y true e differ = absurd (differ ((bytes_eq-Decides x y).0 e))
not_equal x y false e differ = refl

pub name_stands : (mark t name : List ℕ) (ts m : Tokens) → IsMark mark → ts ≡ t ∷ m → Names t name → after mark ts ≡ None
name_stands mark t name ts m is e n = ap (after mark) e ∙ after_other mark t m (not_equal t mark (bytes_eq t mark) refl (name_is_no_mark mark t name is n))

pub new_there : (seen : List (List ℕ)) (t name : List ℕ) (m : Tokens) → Names t name → is_one_of seen name ≡ false → new_name seen (t ∷ m) ≡ Some (name, m)
new_there seen t name m n new =
    onward_there (name_of_token t) (λ z. if is_one_of seen z then None else Some (z, m)) name (Some (name, m)) (name_there t name n) (ap (λ b. if b then None else Some (name, m)) new)

pub count_there : (n : ℕ) (m : Tokens) → n < 2 ^ 32 → count_at (decimal n ∷ m) ≡ Some (n, m)
count_there n m h = ap (λ o. built o m) (sym (same_count (decimal n) n h ((bytes_eq-Decides (decimal n) (decimal n)).1 refl)))

-- ---- parts

module _ {A : Type 0} (Fits : List A → A → Type 0) where
  -- each part fits after those before it
  abbrev pub AllFit : List A → List A → Type 0
  AllFit seen [] = Unit {0}
  AllFit seen (x ∷ xs) = Fits seen x × AllFit (seen ++ (x ∷ [])) xs

module _ {A : Type 0} (part : List A → Tokens → Option (A × Tokens)) (mark : List ℕ) (comma : bytes_eq (codes ",") mark ≡ false) (Is : A → Tokens → Tokens → Type 0) (Fits : List A → A → Type 0) (each : (seen : List A) (ts m : Tokens) (a : A) → Fits seen a → Is a ts m → part seen ts ≡ Some (a, m)) (starts : (a : A) (ts m : Tokens) → Is a ts m → after mark ts ≡ None) where
  first_starts : (xs : List A) (ts r : Tokens) → AreParts mark Is xs ts r → after mark ts ≡ None
  first_starts [] ts r h = absurd h
  first_starts (x ∷ []) ts r h = starts x ts h.0 h.1
  first_starts (x ∷ y ∷ xs) ts r h = starts x ts (codes "," ∷ h.0) h.1

  parts_there : (xs : List A) (k : ℕ) (seen : List A) (ts r : Tokens) → length xs ≤ k → AllFit Fits seen xs → AreParts mark Is xs ts r → parts part mark k seen ts ≡ Some (seen ++ xs, r)
  parts_there [] k seen ts r le fit h = absurd h
  parts_there (x ∷ xs) zero seen ts r le fit h = absurd (omega arith)
  parts_there (x ∷ []) (suc k) seen ts r le fit (m, is, close) =
      onward_there (part seen ts) _ (x, m) _ (each seen ts m x fit.0 is) (or_first _ _ _ (with_there (seen ++ (x ∷ [])) (closed mark m) r (closed_there mark comma m r close)))
  parts_there (x ∷ y ∷ xs) (suc k) seen ts r le fit (m, is, more) =
      let all = seen ++ (x ∷ []) in
      onward_there (part seen ts) _ (x, codes "," ∷ m) _ (each seen ts (codes "," ∷ m) x fit.0 is) (or_second _ _ _ (with_none all (closed mark (codes "," ∷ m)) (closed_not mark comma m (first_starts (y ∷ xs) m r more))) (parts_there (y ∷ xs) k all m r (omega arith) fit.1 more ∙ ap (λ l. Some (l, r)) (append_assoc seen (x ∷ []) (y ∷ xs))))

-- ---- names that are all different

not_in : (ms : List (List ℕ)) (n : List ℕ) (more : List (List ℕ)) (m : List ℕ) → IsNoneOf (ms ++ (n ∷ more)) m → m ≡ n → ⊥
not_in [] n more m h e = h.0 e
not_in (k ∷ ms) n more m h e = not_in ms n more m h.1 e

-- a name after others that are all different with it is none of them
pub new_behind : (ms : List (List ℕ)) (n : List ℕ) (more : List (List ℕ)) → AreDistinct (ms ++ (n ∷ more)) → is_one_of ms n ≡ false
new_behind [] n more h = refl
new_behind (m ∷ ms) n more h = ap (λ b. b || is_one_of ms n) (not_equal n m (bytes_eq n m) refl (λ e. not_in ms n more m h.0 (sym e))) ∙ new_behind ms n more h.1

-- ---- the word of a type

-- no word of a type is one of these marks
pub no_mark_word : (k : WasmTypeKind) → (bytes_eq (kind_word k) (codes ">") ≡ false) × (bytes_eq (kind_word k) (codes "_") ≡ false) × (bytes_eq (kind_word k) (codes "(") ≡ false)
no_mark_word kinds.Bool = (refl, refl, refl)
no_mark_word kinds.S8 = (refl, refl, refl)
no_mark_word kinds.S16 = (refl, refl, refl)
no_mark_word kinds.S32 = (refl, refl, refl)
no_mark_word kinds.S64 = (refl, refl, refl)
no_mark_word kinds.U8 = (refl, refl, refl)
no_mark_word kinds.U16 = (refl, refl, refl)
no_mark_word kinds.U32 = (refl, refl, refl)
no_mark_word kinds.U64 = (refl, refl, refl)
no_mark_word kinds.F32 = (refl, refl, refl)
no_mark_word kinds.F64 = (refl, refl, refl)
no_mark_word kinds.Char = (refl, refl, refl)
no_mark_word kinds.String = (refl, refl, refl)
no_mark_word kinds.List = (refl, refl, refl)
no_mark_word kinds.FixedLengthList = (refl, refl, refl)
no_mark_word kinds.Record = (refl, refl, refl)
no_mark_word kinds.Tuple = (refl, refl, refl)
no_mark_word kinds.Variant = (refl, refl, refl)
no_mark_word kinds.Enum = (refl, refl, refl)
no_mark_word kinds.Option = (refl, refl, refl)
no_mark_word kinds.Result = (refl, refl, refl)
no_mark_word kinds.Flags = (refl, refl, refl)
no_mark_word kinds.Map = (refl, refl, refl)
no_mark_word kinds.Unsupported = (refl, refl, refl)

pub key_there : (S : Simple) → key_of_word (kind_word (simple_kind S)) ≡ Some (simple S)
key_there bool = refl
key_there (whole s8) = refl
key_there (whole s16) = refl
key_there (whole s32) = refl
key_there (whole s64) = refl
key_there (whole u8) = refl
key_there (whole u16) = refl
key_there (whole u32) = refl
key_there (whole u64) = refl
key_there char = refl
key_there string = refl

simple_there : (read : Reads) (S : Simple) (r : Tokens) → onward (kind_at (kind_word (simple_kind S) ∷ r)) (λ kind. kind_read read kind.0 kind.1) ≡ Some (simple S, r)
simple_there read bool r = refl
simple_there read (whole s8) r = refl
simple_there read (whole s16) r = refl
simple_there read (whole s32) r = refl
simple_there read (whole s64) r = refl
simple_there read (whole u8) r = refl
simple_there read (whole u16) r = refl
simple_there read (whole u32) r = refl
simple_there read (whole u64) r = refl
simple_there read char r = refl
simple_there read string r = refl

-- a type begins with the word of a kind
pub head_word : (T : TypeTree) (ts r : Tokens) → Spells T ts r → (k : WasmTypeKind) × (m : Tokens) × (ts ≡ kind_word k ∷ m)
head_word (simple S) ts r h = (simple_kind S, r, h)
head_word (unreadable f32) ts r h = (kinds.F32, r, h)
head_word (unreadable f64) ts r h = (kinds.F64, r, h)
head_word (unreadable unsupported) ts r h = absurd h
head_word (list E) ts r (m, l, e, s, c) = (kinds.List, codes "<" ∷ m, e)
head_word (fixed E n) ts r (m, l, e, s, b, c) = (kinds.List, codes "<" ∷ m, e)
head_word (option P) ts r (m, l, e, s, c) = (kinds.Option, codes "<" ∷ m, e)
head_word (map_tree K V) ts r (m, l, e, s, c) = (kinds.Map, codes "<" ∷ kind_word (simple_kind K) ∷ codes "," ∷ m, e)
head_word (result no_type no_type) ts r (e, a) = (kinds.Result, r, e)
head_word (result (a_type T) no_type) ts r (m, l, e, s, c) = (kinds.Result, codes "<" ∷ m, e)
head_word (result no_type (a_type E)) ts r (m, l, e, s, c) = (kinds.Result, codes "<" ∷ codes "_" ∷ codes "," ∷ m, e)
head_word (result (a_type T) (a_type E)) ts r (m, k, l, e, s, u, c) = (kinds.Result, codes "<" ∷ m, e)
head_word (tuple Ts) ts r (m, e, s) = (kinds.Tuple, codes "<" ∷ m, e)
head_word (record_type fs) ts r (m, e, s, d) = (kinds.Record, codes "{" ∷ m, e)
head_word (variant cs) ts r (m, e, s, d) = (kinds.Variant, codes "{" ∷ m, e)
head_word (enum names) ts r (m, e, s, d) = (kinds.Enum, codes "{" ∷ m, e)
head_word (flags names) ts r (m, e, s, d) = (kinds.Flags, codes "{" ∷ m, e)

pub type_starts : (T : TypeTree) (ts r : Tokens) → Spells T ts r → after (codes ">") ts ≡ None
type_starts T ts r h = let w = head_word T ts r h in ap (after (codes ">")) w.2 ∙ after_other (codes ">") (kind_word w.0) w.1 (no_mark_word w.0).0

pub type_is_no_blank : (T : TypeTree) (ts r : Tokens) → Spells T ts r → after (codes "_") ts ≡ None
type_is_no_blank T ts r h = let w = head_word T ts r h in ap (after (codes "_")) w.2 ∙ after_other (codes "_") (kind_word w.0) w.1 (no_mark_word w.0).1

pub alone_there : (r : Tokens) → StandsAlone r → after (codes "<") r ≡ None
alone_there [] a = refl
alone_there (t ∷ ts) a = after_other (codes "<") t ts (not_equal t (codes "<") (bytes_eq t (codes "<")) refl a)

-- a count is no mark: no byte of it stops a word
pub count_is_no_angle : (k : ℕ) (l : Tokens) → k < 2 ^ 32 → after (codes ">") (decimal k ∷ l) ≡ None
count_is_no_angle k l h =
    after_other (codes ">") (decimal k) l (not_equal (decimal k) (codes ">") (bytes_eq (decimal k) (codes ">")) refl (λ e. let wrong : false ≡ true = sym (ap has_no_stop e) ∙ number_goes_on k (omega arith) in cc))

-- ---- a type takes tokens

taken : (t : List ℕ) (ts m : Tokens) → ts ≡ t ∷ m → length ts ≡ length m + 1
taken t ts m e = omega (arith, ap length e)

closes_shorter : (mark : List ℕ) (ts r : Tokens) → Closes mark ts r → length r < length ts
closes_shorter mark ts r (inl e) = omega (arith, ap length e)
closes_shorter mark ts r (inr e) = omega (arith, ap length e)

names_shorter : (mark : List ℕ) (names : List (List ℕ)) (ts r : Tokens) → SpellsNames mark names ts r → length names + length r < length ts
names_shorter mark [] ts r h = absurd h
names_shorter mark (x ∷ []) ts r (t, m, e, n, c) = omega (arith, ap length e, closes_shorter mark m r c)
names_shorter mark (x ∷ y ∷ xs) ts r (t, m, e, n, h) = omega (arith, ap length e, names_shorter mark (y ∷ xs) m r h)

mutual
  pub shorter : (T : TypeTree) (ts r : Tokens) → Spells T ts r → length r < length ts
  shorter (simple S) ts r h = omega (arith, ap length h)
  shorter (unreadable f32) ts r h = omega (arith, ap length h)
  shorter (unreadable f64) ts r h = omega (arith, ap length h)
  shorter (unreadable unsupported) ts r h = absurd h
  shorter (list E) ts r (m, l, e, s, c) = omega (arith, ap length e, shorter E m l s, closes_shorter (codes ">") l r c)
  shorter (fixed E n) ts r (m, l, e, s, b, c) = omega (arith, ap length e, shorter E m (codes "," ∷ decimal n ∷ l) s, closes_shorter (codes ">") l r c)
  shorter (option P) ts r (m, l, e, s, c) = omega (arith, ap length e, shorter P m l s, closes_shorter (codes ">") l r c)
  shorter (map_tree K V) ts r (m, l, e, s, c) = omega (arith, ap length e, shorter V m l s, closes_shorter (codes ">") l r c)
  shorter (result no_type no_type) ts r (e, a) = omega (arith, ap length e)
  shorter (result (a_type T) no_type) ts r (m, l, e, s, c) = omega (arith, ap length e, shorter T m l s, closes_shorter (codes ">") l r c)
  shorter (result no_type (a_type E)) ts r (m, l, e, s, c) = omega (arith, ap length e, shorter E m l s, closes_shorter (codes ">") l r c)
  shorter (result (a_type T) (a_type E)) ts r (m, k, l, e, s, u, c) = omega (arith, ap length e, shorter T m (codes "," ∷ k) s, shorter E k l u, closes_shorter (codes ">") l r c)
  shorter (tuple Ts) ts r (m, e, s) = omega (arith, ap length e, types_shorter Ts m r s)
  shorter (record_type fs) ts r (m, e, s, d) = omega (arith, ap length e, fields_shorter (codes "}") fs m r s)
  shorter (variant cs) ts r (m, e, s, d) = omega (arith, ap length e, cases_shorter cs m r s)
  shorter (enum names) ts r (m, e, s, d) = omega (arith, ap length e, names_shorter (codes "}") names m r s)
  shorter (flags names) ts r (m, e, s, d) = omega (arith, ap length e, names_shorter (codes "}") names m r s)

  pub types_shorter : (Ts : Types) (ts r : Tokens) → SpellsTypes Ts ts r → length (type_list Ts) + length r < length ts
  types_shorter no_types ts r h = absurd h
  types_shorter (type_and T no_types) ts r (m, s, c) = omega (arith, shorter T ts m s, closes_shorter (codes ">") m r c)
  types_shorter (type_and T (type_and U more)) ts r (m, s, h) = omega (arith, shorter T ts (codes "," ∷ m) s, types_shorter (type_and U more) m r h)

  fields_shorter : (mark : List ℕ) (fs : Fields) (ts r : Tokens) → SpellsFields mark fs ts r → length (field_list fs) + length r < length ts
  fields_shorter mark no_fields ts r h = absurd h
  fields_shorter mark (field name T no_fields) ts r (t, m, l, e, n, s, c) = omega (arith, ap length e, shorter T m l s, closes_shorter mark l r c)
  fields_shorter mark (field name T (field x U more)) ts r (t, m, l, e, n, s, h) = omega (arith, ap length e, shorter T m (codes "," ∷ l) s, fields_shorter mark (field x U more) l r h)

  cases_shorter : (cs : Cases) (ts r : Tokens) → SpellsCases cs ts r → length (case_list cs) + length r < length ts
  cases_shorter no_cases ts r h = absurd h
  cases_shorter (case_of name p no_cases) ts r (t, m, l, e, n, s, c) = omega (arith, ap length e, payload_shorter p m l s, closes_shorter (codes "}") l r c)
  cases_shorter (case_of name p (case_of x q more)) ts r (t, m, l, e, n, s, h) = omega (arith, ap length e, payload_shorter p m (codes "," ∷ l) s, cases_shorter (case_of x q more) l r h)

  payload_shorter : (p : MaybeType) (ts r : Tokens) → SpellsPayload p ts r → length r ≤ length ts
  payload_shorter no_type ts r h = omega (arith, ap length h)
  payload_shorter (a_type T) ts r (m, e, s) = omega (arith, ap length e, shorter T m (codes ")" ∷ r) s)

-- ---- the parts of each kind of type

names_parts : (mark : List ℕ) (xs : List (List ℕ)) (ts r : Tokens) → SpellsNames mark xs ts r → AreParts mark IsNamed xs ts r
names_parts mark [] ts r h = h
names_parts mark (x ∷ []) ts r (t, m, e, n, c) = (m, (t, e, n), c)
names_parts mark (x ∷ y ∷ xs) ts r (t, m, e, n, h) = (m, (t, e, n), names_parts mark (y ∷ xs) m r h)

types_parts : (Ts : Types) (ts r : Tokens) → SpellsTypes Ts ts r → AreParts (codes ">") Spells (type_list Ts) ts r
types_parts no_types ts r h = h
types_parts (type_and T no_types) ts r h = h
types_parts (type_and T (type_and U more)) ts r (m, s, h) = (m, s, types_parts (type_and U more) m r h)

fields_parts : (mark : List ℕ) (fs : Fields) (ts r : Tokens) → SpellsFields mark fs ts r → AreParts mark IsField (field_list fs) ts r
fields_parts mark no_fields ts r h = h
fields_parts mark (field name T no_fields) ts r (t, m, l, e, n, s, c) = (l, (t, m, e, n, s), c)
fields_parts mark (field name T (field x U more)) ts r (t, m, l, e, n, s, h) = (l, (t, m, e, n, s), fields_parts mark (field x U more) l r h)

-- a case stands next, and no payload after it
abbrev IsWholeCase : List ℕ × Option TypeTree → Tokens → Tokens → Type 0
IsWholeCase c ts r = IsCase c ts r × (after (codes "(") r ≡ None)

pub payload_same : (p : MaybeType) → p ≡ maybe_type (type_option p)
payload_same no_type = refl
payload_same (a_type T) = refl

pub closes_whole : (l r : Tokens) → Closes (codes "}") l r → after (codes "(") l ≡ None
closes_whole l r (inl e) = ap (after (codes "(")) e
closes_whole l r (inr e) = ap (after (codes "(")) e

cases_parts : (cs : Cases) (ts r : Tokens) → SpellsCases cs ts r → AreParts (codes "}") IsWholeCase (case_list cs) ts r
cases_parts no_cases ts r h = h
cases_parts (case_of name p no_cases) ts r (t, m, l, e, n, s, c) = (l, ((t, m, e, n, subst (λ q. SpellsPayload q m l) (payload_same p) s), closes_whole l r c), c)
cases_parts (case_of name p (case_of x q more)) ts r (t, m, l, e, n, s, h) =
    (l, ((t, m, e, n, subst (λ q. SpellsPayload q m (codes "," ∷ l)) (payload_same p) s), refl), cases_parts (case_of x q more) l r h)

pub types_again : (Ts : Types) → types_of (type_list Ts) ≡ Ts
types_again no_types = refl
types_again (type_and T more) = ap (type_and T) (types_again more)

pub fields_again : (fs : Fields) → fields_of (field_list fs) ≡ fs
fields_again no_fields = refl
fields_again (field name T more) = ap (field name T) (fields_again more)

pub cases_again : (cs : Cases) → cases_of (case_list cs) ≡ cs
cases_again no_cases = refl
cases_again (case_of name p more) = λ i. case_of name (sym (payload_same p) i) (cases_again more i)

tuple_there : (Ts : Types) (ts r : Tokens) → SpellsTypes Ts ts r → tuple_type (type_list Ts) ≡ Some (tuple Ts)
tuple_there no_types ts r h = absurd h
tuple_there (type_and T more) ts r h = ap (λ Us. Some (tuple Us)) (types_again (type_and T more))

record_there : (fs : Fields) (ts r : Tokens) → SpellsFields (codes "}") fs ts r → maker.record_type (field_list fs) ≡ Some (record_type fs)
record_there no_fields ts r h = absurd h
record_there (field name T more) ts r h = ap (λ gs. Some (record_type gs)) (fields_again (field name T more))

variant_there : (cs : Cases) (ts r : Tokens) → SpellsCases cs ts r → variant_type (case_list cs) ≡ Some (variant cs)
variant_there no_cases ts r h = absurd h
variant_there (case_of name p more) ts r h = ap (λ ds. Some (variant ds)) (cases_again (case_of name p more))

enum_there : (ns : List (List ℕ)) (ts r : Tokens) → SpellsNames (codes "}") ns ts r → enum_type ns ≡ Some (enum ns)
enum_there [] ts r h = absurd h
enum_there (n ∷ ns) ts r h = refl

flags_there : (ns : List (List ℕ)) (ts r : Tokens) → SpellsNames (codes "}") ns ts r → flags_type ns ≡ Some (flags ns)
flags_there [] ts r h = absurd h
flags_there (n ∷ ns) ts r h = refl

-- ---- names fit where all are different

abbrev NameFits : List (List ℕ) → List ℕ → Type 0
NameFits seen x = is_one_of seen x ≡ false

names_fit : (seen xs : List (List ℕ)) → AreDistinct (seen ++ xs) → AllFit NameFits seen xs
names_fit seen [] h = tt
names_fit seen (x ∷ xs) h = (new_behind seen x xs h, names_fit (seen ++ (x ∷ [])) xs (subst AreDistinct (sym (append_assoc seen (x ∷ []) xs)) h))

names_all : (mark : List ℕ) → IsMark mark → (xs : List (List ℕ)) (ts r : Tokens) → SpellsNames mark xs ts r → AreDistinct xs → names_read mark ts ≡ Some (xs, r)
names_all mark is xs ts r h d =
    parts_there new_name mark is.comma IsNamed NameFits (λ seen us m a fit (t, e, n). ap (new_name seen) e ∙ new_there seen t a m n fit) (λ a us m (t, e, n). name_stands mark t a us m is e n) xs (length ts) [] ts r (omega (arith, names_shorter mark xs ts r h)) (names_fit [] xs d) (names_parts mark xs ts r h)

-- a name more after those of the parts
names_behind : {A : Type 0} (f : A → List ℕ) (seen : List A) (x : A) (more : List (List ℕ)) → AreDistinct (map f seen ++ (f x ∷ more)) → AreDistinct (map f (seen ++ (x ∷ [])) ++ more)
names_behind f seen x more h = subst AreDistinct (sym (ap (λ l. l ++ more) (map_more f seen x) ∙ append_assoc (map f seen) (f x ∷ []) more)) h

module _ (n : ℕ) where
  abbrev TypeFits : List TypeTree → TypeTree → Type 0
  TypeFits seen T = levels_of T ≤ n

  abbrev FieldFits : List (List ℕ × TypeTree) → List ℕ × TypeTree → Type 0
  FieldFits seen f = (is_one_of (map (λ g. g.0) seen) f.0 ≡ false) × (levels_of f.1 ≤ n)

  abbrev CaseFits : List (List ℕ × Option TypeTree) → List ℕ × Option TypeTree → Type 0
  CaseFits seen c = (is_one_of (map (λ d. d.0) seen) c.0 ≡ false) × (levels_of_payload (maybe_type c.1) ≤ n)

  types_fit : (seen : List TypeTree) (Ts : Types) → levels_of_types Ts ≤ n → AllFit TypeFits seen (type_list Ts)
  types_fit seen no_types le = tt
  types_fit seen (type_and T more) le = (omega arith, types_fit (seen ++ (T ∷ [])) more (omega arith))

  fields_fit : (seen : List (List ℕ × TypeTree)) (fs : Fields) → AreDistinct (map (λ g. g.0) seen ++ field_names fs) → levels_of_fields fs ≤ n → AllFit FieldFits seen (field_list fs)
  fields_fit seen no_fields h le = tt
  fields_fit seen (field name T more) h le =
      ((new_behind (map (λ g. g.0) seen) name (field_names more) h, omega arith), fields_fit (seen ++ ((name, T) ∷ [])) more (names_behind (λ g. g.0) seen (name, T) (field_names more) h) (omega arith))

  cases_fit : (seen : List (List ℕ × Option TypeTree)) (cs : Cases) → AreDistinct (map (λ d. d.0) seen ++ case_names cs) → levels_of_cases cs ≤ n → AllFit CaseFits seen (case_list cs)
  cases_fit seen no_cases h le = tt
  cases_fit seen (case_of name p more) h le = (
    (
      new_behind (map (λ d. d.0) seen) name (case_names more) h,
      subst (λ q. levels_of_payload q ≤ n) (payload_same p) (omega arith),
    ),
    cases_fit (seen ++ ((name, type_option p) ∷ [])) more (names_behind (λ d. d.0) seen (name, type_option p) (case_names more) h) (omega arith),
  )

-- ---- types, where those inside are read

-- each type that is spelled is read within its levels
abbrev pub IsComplete : ℕ → Reads → Type 0
IsComplete n read = (T : TypeTree) (ts r : Tokens) → levels_of T ≤ n → Spells T ts r → read ts ≡ Some (T, r)

module _ (n : ℕ) (read : Reads) (complete : IsComplete n read) where
  types_all : (Ts : Types) (ts r : Tokens) → levels_of_types Ts ≤ n → SpellsTypes Ts ts r → types_read read ts ≡ Some (type_list Ts, r)
  types_all Ts ts r le h =
      parts_there (λ seen. read) (codes ">") angle Spells (TypeFits n) (λ seen us m a fit s. complete a us m fit s) type_starts (type_list Ts) (length ts) [] ts r (omega (arith, types_shorter Ts ts r h)) (types_fit n [] Ts le) (types_parts Ts ts r h)

  field_there : (seen : List (List ℕ × TypeTree)) (ts m : Tokens) (a : List ℕ × TypeTree) → FieldFits n seen a → IsField a ts m → field_part read seen ts ≡ Some (a, m)
  field_there seen ts m a fit (t, k, e, nm, s) =
      ap (field_part read seen) e ∙ onward_there (new_name (map (λ g. g.0) seen) (t ∷ codes ":" ∷ k)) _ (a.0, codes ":" ∷ k) _ (new_there (map (λ g. g.0) seen) t a.0 (codes ":" ∷ k) nm fit.0) (onward_there (read k) _ (a.1, m) _ (complete a.1 k m fit.1 s) refl)

  pub fields_all : (mark : List ℕ) → IsMark mark → (fs : Fields) (ts r : Tokens) → levels_of_fields fs ≤ n → SpellsFields mark fs ts r → AreDistinct (field_names fs) → fields_read read mark ts ≡ Some (field_list fs, r)
  fields_all mark is fs ts r le h d =
      parts_there (field_part read) mark is.comma IsField (FieldFits n) field_there (λ a us m (t, k, e, nm, s). name_stands mark t a.0 us (codes ":" ∷ k) is e nm) (field_list fs) (length ts) [] ts r (omega (arith, fields_shorter mark fs ts r h)) (fields_fit n [] fs d le) (fields_parts mark fs ts r h)

  payload_there : (p : Option TypeTree) (k m : Tokens) → levels_of_payload (maybe_type p) ≤ n → SpellsPayload (maybe_type p) k m → after (codes "(") m ≡ None → payload_read read k (after (codes "(") k) ≡ Some (p, m)
  payload_there None k m le h alone = ap (payload_read read k) (ap (after (codes "(")) h ∙ alone) ∙ ap (λ z. Some (None, z)) h
  payload_there (Some T) k m le (l, e, s) alone =
      ap (payload_read read k) (ap (after (codes "(")) e) ∙ onward_there (read l) _ (T, codes ")" ∷ m) _ (complete T l (codes ")" ∷ m) le s) refl

  case_there : (seen : List (List ℕ × Option TypeTree)) (ts m : Tokens) (c : List ℕ × Option TypeTree) → CaseFits n seen c → IsWholeCase c ts m → case_part read seen ts ≡ Some (c, m)
  case_there seen ts m c fit ((t, k, e, nm, s), alone) =
      ap (case_part read seen) e ∙ onward_there (new_name (map (λ d. d.0) seen) (t ∷ k)) _ (c.0, k) _ (new_there (map (λ d. d.0) seen) t c.0 k nm fit.0) (onward_there (payload_read read k (after (codes "(") k)) _ (c.1, m) _ (payload_there c.1 k m fit.1 s alone) refl)

  cases_all : (cs : Cases) (ts r : Tokens) → levels_of_cases cs ≤ n → SpellsCases cs ts r → AreDistinct (case_names cs) → cases_read read ts ≡ Some (case_list cs, r)
  cases_all cs ts r le h d =
      parts_there (case_part read) (codes "}") brace.comma IsWholeCase (CaseFits n) case_there (λ c us m h. name_stands (codes "}") h.0.0 c.0 us h.0.1 brace h.0.2 h.0.3) (case_list cs) (length ts) [] ts r (omega (arith, cases_shorter cs ts r h)) (cases_fit n [] cs d le) (cases_parts cs ts r h)

  closes_angle : (ts r : Tokens) → Closes (codes ">") ts r → closed (codes ">") ts ≡ Some r
  closes_angle ts r c = closed_there (codes ">") angle ts r c

  angle_not : (m : Tokens) → after (codes ">") m ≡ None → closed (codes ">") (codes "," ∷ m) ≡ None
  angle_not m e = closed_not (codes ">") angle m e

  -- a type after its word
  one_there : (T : TypeTree) (ts r : Tokens) → levels_of T ≤ suc n → Spells T ts r → onward (kind_at ts) (λ kind. kind_read read kind.0 kind.1) ≡ Some (T, r)
  one_there (simple S) ts r le h = ap (λ us. onward (kind_at us) (λ kind. kind_read read kind.0 kind.1)) h ∙ simple_there read S r
  one_there (unreadable f32) ts r le h = ap (λ us. onward (kind_at us) (λ kind. kind_read read kind.0 kind.1)) h
  one_there (unreadable f64) ts r le h = ap (λ us. onward (kind_at us) (λ kind. kind_read read kind.0 kind.1)) h
  one_there (unreadable unsupported) ts r le h = absurd h
  one_there (list E) ts r le (m, l, e, s, c) =
      ap (λ us. onward (kind_at us) (λ kind. kind_read read kind.0 kind.1)) e ∙ onward_there (read m) _ (E, l) _ (complete E m l (omega arith) s) (or_first _ _ _ (with_there (list E) (closed (codes ">") l) r (closes_angle l r c)))
  one_there (fixed E k) ts r le (m, l, e, s, b, c) =
      ap (λ us. onward (kind_at us) (λ kind. kind_read read kind.0 kind.1)) e ∙ onward_there (read m) _ (E, codes "," ∷ decimal k ∷ l) _ (complete E m (codes "," ∷ decimal k ∷ l) (omega arith) s) (or_second _ _ _ (with_none (list E) (closed (codes ">") (codes "," ∷ decimal k ∷ l)) (angle_not (decimal k ∷ l) (count_is_no_angle k l b))) (onward_there (count_at (decimal k ∷ l)) _ (k, l) _ (count_there k l b) (with_there (fixed E k) (closed (codes ">") l) r (closes_angle l r c))))
  one_there (option P) ts r le (m, l, e, s, c) =
      ap (λ us. onward (kind_at us) (λ kind. kind_read read kind.0 kind.1)) e ∙ onward_there (read m) _ (P, l) _ (complete P m l (omega arith) s) (with_there (option P) (closed (codes ">") l) r (closes_angle l r c))
  one_there (map_tree K V) ts r le (m, l, e, s, c) =
      ap (λ us. onward (kind_at us) (λ kind. kind_read read kind.0 kind.1)) e ∙ onward_there (key_at (kind_word (simple_kind K) ∷ codes "," ∷ m)) _ (simple K, codes "," ∷ m) _ (ap (λ o. built o (codes "," ∷ m)) (key_there K)) (onward_there (read m) _ (V, l) _ (complete V m l (omega arith) s) (onward_there (closed (codes ">") l) _ r _ (closes_angle l r c) refl))
  one_there (result no_type no_type) ts r le (e, a) =
      ap (λ us. onward (kind_at us) (λ kind. kind_read read kind.0 kind.1)) e ∙ ap (result_read read r) (alone_there r a)
  one_there (result (a_type T) no_type) ts r le (m, l, e, s, c) =
      ap (λ us. onward (kind_at us) (λ kind. kind_read read kind.0 kind.1)) e ∙ (ap (payloads_read read m) (type_is_no_blank T m l s) ∙ onward_there (read m) _ (T, l) _ (complete T m l (omega arith) s) (or_first _ _ _ (with_there (result (a_type T) no_type) (closed (codes ">") l) r (closes_angle l r c))))
  one_there (result no_type (a_type E)) ts r le (m, l, e, s, c) =
      ap (λ us. onward (kind_at us) (λ kind. kind_read read kind.0 kind.1)) e ∙ onward_there (read m) _ (E, l) _ (complete E m l (omega arith) s) (with_there (result no_type (a_type E)) (closed (codes ">") l) r (closes_angle l r c))
  one_there (result (a_type T) (a_type E)) ts r le (m, k, l, e, s, u, c) =
      ap (λ us. onward (kind_at us) (λ kind. kind_read read kind.0 kind.1)) e ∙ (ap (payloads_read read m) (type_is_no_blank T m (codes "," ∷ k) s) ∙ onward_there (read m) _ (T, codes "," ∷ k) _ (complete T m (codes "," ∷ k) (omega arith) s) (or_second _ _ _ (with_none (result (a_type T) no_type) (closed (codes ">") (codes "," ∷ k)) (angle_not k (type_starts E k l u))) (onward_there (read k) _ (E, l) _ (complete E k l (omega arith) u) (with_there (result (a_type T) (a_type E)) (closed (codes ">") l) r (closes_angle l r c)))))
  one_there (tuple Ts) ts r le (m, e, s) =
      ap (λ us. onward (kind_at us) (λ kind. kind_read read kind.0 kind.1)) e ∙ onward_there (types_read read m) _ (type_list Ts, r) _ (types_all Ts m r (omega arith) s) (ap (λ o. built o r) (tuple_there Ts m r s))
  one_there (record_type fs) ts r le (m, e, s, d) =
      ap (λ us. onward (kind_at us) (λ kind. kind_read read kind.0 kind.1)) e ∙ onward_there (fields_read read (codes "}") m) _ (field_list fs, r) _ (fields_all (codes "}") brace fs m r (omega arith) s d) (ap (λ o. built o r) (record_there fs m r s))
  one_there (variant cs) ts r le (m, e, s, d) =
      ap (λ us. onward (kind_at us) (λ kind. kind_read read kind.0 kind.1)) e ∙ onward_there (cases_read read m) _ (case_list cs, r) _ (cases_all cs m r (omega arith) s d) (ap (λ o. built o r) (variant_there cs m r s))
  one_there (enum names) ts r le (m, e, s, d) =
      ap (λ us. onward (kind_at us) (λ kind. kind_read read kind.0 kind.1)) e ∙ onward_there (names_read (codes "}") m) _ (names, r) _ (names_all (codes "}") brace names m r s d) (ap (λ o. built o r) (enum_there names m r s))
  one_there (flags names) ts r le (m, e, s, d) =
      ap (λ us. onward (kind_at us) (λ kind. kind_read read kind.0 kind.1)) e ∙ onward_there (names_read (codes "}") m) _ (names, r) _ (names_all (codes "}") brace names m r s d) (ap (λ o. built o r) (flags_there names m r s))

pub some_level : (T : TypeTree) → 0 < levels_of T
some_level (list E) = omega arith
some_level (fixed E n) = omega arith
some_level (record_type fs) = omega arith
some_level (tuple Ts) = omega arith
some_level (variant cs) = omega arith
some_level (option P) = omega arith
some_level (result A B) = omega arith
some_level (map_tree K V) = omega arith
some_level _ = omega arith

-- what is spelled within a number of levels is read within it
pub read_complete : (n : ℕ) → IsComplete n (type_read n)
read_complete zero T ts r le h = absurd (omega (arith, some_level T))
read_complete (suc n) T ts r le h = one_there n (type_read n) (read_complete n) T ts r le h

unwrapped : (p q : TypeTree × Tokens) → Some p ≡ Some q → p ≡ q
unwrapped p q e = cc

-- tokens spell one type, up to one rest
pub one_spelling : (T U : TypeTree) (ts r s : Tokens) → Spells T ts r → Spells U ts s → (T ≡ U) × (r ≡ s)
one_spelling T U ts r s h k =
    let n = max (levels_of T) (levels_of U) in
    let a : type_read n ts ≡ Some (T, r) = read_complete n T ts r (omega arith) h in
    let b : type_read n ts ≡ Some (U, s) = read_complete n U ts s (omega arith) k in
    let pair = unwrapped (T, r) (U, s) (sym a ∙ b) in
    ((λ i. (pair i).0), (λ i. (pair i).1))

-- ---- what is not read

pub low : (n m : ℕ) (b : Bool) → nat_lt n m ≡ b → (m ≤ n → ⊥) → n < m
low n m true e never = grind (arith, nat_tests)
low n m false e never = let le : m ≤ n = grind (arith, nat_tests) in absurd (never le)
