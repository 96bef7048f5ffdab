-- What is read from tokens is what they spell.
use Rattle.std.proofs.Common.{◌≡◌, ◌≢◌, ℕ, zero, suc, ◌<◌, Bool, true, false, List, [], ◌∷◌, ◌++◌, inl, inr, Option, Some, None, refl, sym, ap, subst, ◌∙◌, arith, map, length, drop, codes, append_assoc}
use Rattle.std.specs.Prelude.{◌⊎◌, ◌&&◌, ◌||◌, ◌^◌, nat_lt, cond, ◌==◌, if◌then◌else◌}
use Rattle.std.specs.List.{find}
use Rattle.std.specs.Fmt.{decimal}
use Rattle.std.specs.Str.{bytes_eq}
use Rattle.std.specs.Str.Parse.{digits_value}
use Rattle.std.proofs.lemmas.Bool.{and_parts}
use Rattle.std.proofs.lemmas.Bool.Decides.{nat_tests}
use Rattle.std.proofs.lemmas.Slice.Eq.{bytes_eq-Decides}
use Rattle.wave_wasm.specs.declared.wasm.WasmTypeKind.{WasmTypeKind}
use Rattle.wave_wasm.specs.declared.wasm.WasmTypeKind.TheVariants as kinds
use Rattle.wave_wasm.specs.Names.{IsNoneOf, AreDistinct, is_one_of}
use Rattle.wave_wasm.specs.Types.{Simple, bool, whole, char, string, s8, s16, s32, s64, u8, u16, u32, u64, TypeTree, simple, list, fixed, record_type, tuple, variant, enum, option, result, flags, map as map_tree, no_type, a_type, types_of, fields_of, cases_of, maybe_type, simple_kind, field_names, case_names}
use Rattle.wave_wasm.specs.TypeText.{kind_word}
use Rattle.wave_lex.specs.Tokens.{label}
use Rattle.wave_lex.proofs.RegularShapes.Derivatives.{matches_from}
use Rattle.wave_type.specs.TypeConstructors.{simple_type, tuple_type, variant_type, enum_type, flags_type, map_type}
use Rattle.wave_type.specs.TypeConstructors as maker
use Rattle.wave_type.specs.TypeSpelling.{Tokens, Names, Closes, Spells, SpellsNames, SpellsTypes, SpellsFields, SpellsCases, SpellsPayload, StandsAlone}
use Rattle.wave_type.specs.Private.TypeReading.{or_else, with, built, after, closed, kind_at, new_name, count_at, parts, names_read, Reads, fixed_read, key_at, types_read, field_part, fields_read, payload_read, case_part, cases_read, list_read, option_read, map_read, err_read, payloads_read, result_read, kind_read, type_read}
use Rattle.wave_type.specs.TypeWords.{count_of_token, is_label, key_of_word, kind_of_word, name_of_token, only_simple, onward, readable_kinds, without_percent}

-- ---- one step and then another, backwards

module _ {A B : Type 0} where
  pub onward_back : (o : Option A) (next : A → Option B) (b : B) → onward o next ≡ Some b → (a : A) × (o ≡ Some a) × (next a ≡ Some b)
  onward_back None next b e = absurd (cc)
  onward_back (Some a) next b e = (a, refl, e)

module _ {A : Type 0} where
  pub or_back : (o p : Option A) (a : A) → or_else o p ≡ Some a → (o ≡ Some a) ⊎ (p ≡ Some a)
  or_back None p a e = inr e
  or_back (Some b) p a e = inl e

  pub with_back : (a : A) (o : Option Tokens) (b : A × Tokens) → with a o ≡ Some b → (o ≡ Some b.1) × (b.0 ≡ a)
  with_back a None b e = absurd (cc)
  with_back a (Some r) b e = let same : (a, r) ≡ b = cc in ((λ i. Some (same i).1), (λ i. (sym same i).0))

  pub built_back : (o : Option A) (r : Tokens) (b : A × Tokens) → built o r ≡ Some b → (o ≡ Some b.0) × (r ≡ b.1)
  built_back None r b e = absurd (cc)
  built_back (Some a) r b e = let same : (a, r) ≡ b = cc in ((λ i. Some (same i).0), (λ i. (same i).1))

-- ---- one token

pub if_back : {A : Type 0} (b : Bool) (a c : A) → (if b then Some a else None) ≡ Some c → (b ≡ true) × (a ≡ c)
if_back true a c e = (refl, cc)
if_back false a c e = absurd (cc)

pub after_back : (mark : List ℕ) (ts r : Tokens) → after mark ts ≡ Some r → ts ≡ mark ∷ r
after_back mark [] r e = absurd (cc)
after_back mark (t ∷ ts) r e =
    let p = if_back (bytes_eq t mark) ts r e in
    let q : t ≡ mark = (bytes_eq-Decides t mark).0 p.0 in
    λ i. q i ∷ p.1 i

closed_back : (mark : List ℕ) (ts r : Tokens) → closed mark ts ≡ Some r → Closes mark ts r
closed_back mark ts r e = elim (or_back (after mark ts) (onward (after (codes ",") ts) (after mark)) r e) as (λ _. Closes mark ts r) [
  | inl p ↦ inl (after_back mark ts r p)
  | inr p ↦ let q = onward_back (after (codes ",") ts) (after mark) r p in inr (after_back (codes ",") ts q.0 q.1 ∙ ap (λ l. codes "," ∷ l) (after_back mark q.0 r q.2))
]

found_back : (test : WasmTypeKind → Bool) (j k : WasmTypeKind) (js : List WasmTypeKind) (b : Bool) → test j ≡ b → cond b (Some j) (find test js) ≡ Some k → (find test js ≡ Some k → test k ≡ true) → test k ≡ true
found_back test j k js true h e more = let same : j ≡ k = cc in subst (λ z. test z ≡ true) same h
found_back test j k js false h e more = more e

find_back : (test : WasmTypeKind → Bool) (js : List WasmTypeKind) (k : WasmTypeKind) → find test js ≡ Some k → test k ≡ true
find_back test [] k e = absurd (cc)
find_back test (j ∷ js) k e = found_back test j k js (test j) refl e (find_back test js k)

pub word_back : (word : List ℕ) (k : WasmTypeKind) → kind_of_word word ≡ Some k → word ≡ kind_word k
word_back word k e = (bytes_eq-Decides word (kind_word k)).0 (find_back (λ j. bytes_eq word (kind_word j)) readable_kinds k e)

kind_at_back : (ts : Tokens) (b : WasmTypeKind × Tokens) → kind_at ts ≡ Some b → ts ≡ kind_word b.0 ∷ b.1
kind_at_back [] b e = absurd (cc)
kind_at_back (t ∷ ts) b e =
    let p = built_back (kind_of_word t) ts b e in
    let q = word_back t b.0 p.0 in
    λ i. q i ∷ p.1 i

percent_if : (c : ℕ) (cs : List ℕ) (b : Bool) → (c == 37) ≡ b → (c ∷ cs ≡ (if b then cs else c ∷ cs)) ⊎ (c ∷ cs ≡ codes "%" ++ (if b then cs else c ∷ cs))
percent_if c cs true h = let same : c ≡ 37 = grind (arith, nat_tests) in inr (ap (λ d. d ∷ cs) same)
percent_if c cs false h = inl refl

percent_back : (t : List ℕ) → (t ≡ without_percent t) ⊎ (t ≡ codes "%" ++ without_percent t)
percent_back [] = inl refl
percent_back (c ∷ cs) = percent_if c cs (c == 37) refl

pub name_back : (t name : List ℕ) → name_of_token t ≡ Some name → Names t name
name_back t name e =
    let p = if_back (is_label (without_percent t)) (without_percent t) name e in
    subst (Names t) p.1 (matches_from (without_percent t) label p.0, percent_back t)

pub below_back : (n m : ℕ) → nat_lt n m ≡ true → n < m
below_back n m e = grind (arith, nat_tests)

pub count_back : (t : List ℕ) (n : ℕ) → count_of_token t ≡ Some n → (t ≡ decimal n) × (n < 2 ^ 32)
count_back t n e =
    let m = digits_value 10 t in
    let p = if_back (bytes_eq t (decimal m) && nat_lt m (2 ^ 32)) m n e in
    let q = and_parts _ _ p.0 in
    ((bytes_eq-Decides t (decimal m)).0 q.0 ∙ ap decimal p.1, subst (λ z. z < 2 ^ 32) p.1 (below_back m (2 ^ 32) q.1))

count_at_back : (ts : Tokens) (b : ℕ × Tokens) → count_at ts ≡ Some b → (ts ≡ decimal b.0 ∷ b.1) × (b.0 < 2 ^ 32)
count_at_back [] b e = absurd (cc)
count_at_back (t ∷ ts) b e =
    let p = built_back (count_of_token t) ts b e in
    let q = count_back t b.0 p.0 in
    ((λ i. q.0 i ∷ p.1 i), q.1)

pub unless_back : {A : Type 0} (b : Bool) (a c : A) → (if b then None else Some a) ≡ Some c → (b ≡ false) × (a ≡ c)
unless_back true a c e = absurd (cc)
unless_back false a c e = (refl, cc)

-- a name that was read stands next, and is new
pub record IsNew (seen : List (List ℕ)) (ts : Tokens) (b : List ℕ × Tokens) : Type 0 where
  pub token : List ℕ
  pub next : ts ≡ token ∷ b.1
  pub names : Names token b.0
  pub new : is_one_of seen b.0 ≡ false

pub new_back : (seen : List (List ℕ)) (ts : Tokens) (b : List ℕ × Tokens) → new_name seen ts ≡ Some b → IsNew seen ts b
new_back seen [] b e = absurd (cc)
new_back seen (t ∷ ts) b e =
    let p = onward_back (name_of_token t) (λ name. if is_one_of seen name then None else Some (name, drop 1 (t ∷ ts))) b e in
    let q = unless_back (is_one_of seen p.0) (p.0, ts) b p.2 in
    record {
      token = t;
      next = λ i. t ∷ (q.1 i).1;
      names = subst (Names t) (λ i. (q.1 i).0) (name_back t p.0 p.1);
      new = subst (λ z. is_one_of seen z ≡ false) (λ i. (q.1 i).0) q.0;
    }

-- ---- parts

module _ {A : Type 0} (mark : List ℕ) (Is : A → Tokens → Tokens → Type 0) where
  -- parts with commas between, through the mark
  abbrev pub AreParts : List A → Tokens → Tokens → Type 0
  AreParts [] ts r = ⊥
  AreParts (x ∷ []) ts r = (m : Tokens) × Is x ts m × Closes mark m r
  AreParts (x ∷ y ∷ xs) ts r = (m : Tokens) × Is x ts (codes "," ∷ m) × AreParts (y ∷ xs) m r

  behind_comma : (x : A) (xs : List A) (ts m r : Tokens) → Is x ts (codes "," ∷ m) → AreParts xs m r → AreParts (x ∷ xs) ts r
  behind_comma x [] ts m r h more = absurd more
  behind_comma x (y ∷ xs) ts m r h more = (m, h, more)

-- what was read of parts
pub record PartsRead {A : Type 0} (mark : List ℕ) (Is : A → Tokens → Tokens → Type 0) (seen : List A) (ts : Tokens) (b : List A × Tokens) : Type 0 where
  pub read : List A
  pub all : b.0 ≡ seen ++ read
  pub are : AreParts mark Is read ts b.1

module _ {A : Type 0} (part : List A → Tokens → Option (A × Tokens)) (mark : List ℕ) (Is : A → Tokens → Tokens → Type 0) (each : (seen : List A) (ts : Tokens) (b : A × Tokens) → part seen ts ≡ Some b → Is b.0 ts b.1) where
  pub parts_back : (k : ℕ) (seen : List A) (ts : Tokens) (b : List A × Tokens) → parts part mark k seen ts ≡ Some b → PartsRead mark Is seen ts b
  parts_back zero seen ts b e = absurd (cc)
  parts_back (suc k) seen ts b e =
      let p = onward_back (part seen ts) _ b e in
      let all = seen ++ (p.0.0 ∷ []) in
      let here = each seen ts p.0 p.1 in
      elim (or_back (with all (closed mark p.0.1)) (onward (after (codes ",") p.0.1) (parts part mark k all)) b p.2) as (λ _. PartsRead mark Is seen ts b) [
        | inl q ↦ let w = with_back all (closed mark p.0.1) b q in record { read = p.0.0 ∷ []; all = w.1; are = (p.0.1, here, closed_back mark p.0.1 b.1 w.0) }
        | inr q ↦
            let w = onward_back (after (codes ",") p.0.1) (parts part mark k all) b q in
            let more = parts_back k all w.0 b w.2 in
            let there : Is p.0.0 ts (codes "," ∷ w.0) = subst (Is p.0.0 ts) (after_back (codes ",") p.0.1 w.0 w.1) here in
            record {
              read = p.0.0 ∷ more.read;
              all = more.all ∙ append_assoc seen (p.0.0 ∷ []) more.read;
              are = behind_comma mark Is p.0.0 more.read ts w.0 b.1 there more.are;
            }
      ]

-- ---- names that are all different

other_back : (n m : List ℕ) (a b : Bool) → bytes_eq n m ≡ a → (a || b) ≡ false → (n ≢ m) × (b ≡ false)
other_back n m true b h e = absurd (cc)
other_back n m false b h e = ((λ same. let wrong : true ≡ false = sym ((bytes_eq-Decides n m).1 same) ∙ h in cc), e)

-- after other names that are all different, a new one
none_more : (m n : List ℕ) (ms : List (List ℕ)) → IsNoneOf ms m → (n ≢ m) → IsNoneOf (ms ++ (n ∷ [])) m
none_more m n [] h new = ((λ e. new (sym e)), tt)
none_more m n (k ∷ ms) h new = (h.0, none_more m n ms h.1 new)

pub distinct_more : (ms : List (List ℕ)) (n : List ℕ) → AreDistinct ms → is_one_of ms n ≡ false → AreDistinct (ms ++ (n ∷ []))
distinct_more [] n h new = (tt, tt)
distinct_more (m ∷ ms) n h new =
    let p = other_back n m (bytes_eq n m) (is_one_of ms n) refl new in
    (none_more m n ms h.0 p.0, distinct_more ms n h.1 p.1)

pub map_more : {A B : Type 0} (f : A → B) (xs : List A) (x : A) → map f (xs ++ (x ∷ [])) ≡ map f xs ++ (f x ∷ [])
map_more f [] x = refl
map_more f (y ∷ xs) x = ap (λ l. f y ∷ l) (map_more f xs x)

module _ {A : Type 0} (part : List A → Tokens → Option (A × Tokens)) (mark : List ℕ) (name_of : A → List ℕ) (new : (seen : List A) (ts : Tokens) (b : A × Tokens) → part seen ts ≡ Some b → is_one_of (map name_of seen) (name_of b.0) ≡ false) where
  distinct_back : (k : ℕ) (seen : List A) (ts : Tokens) (b : List A × Tokens) → AreDistinct (map name_of seen) → parts part mark k seen ts ≡ Some b → AreDistinct (map name_of b.0)
  distinct_back zero seen ts b h e = absurd (cc)
  distinct_back (suc k) seen ts b h e =
      let p = onward_back (part seen ts) _ b e in
      let all = seen ++ (p.0.0 ∷ []) in
      let here : AreDistinct (map name_of all) = subst AreDistinct (sym (map_more name_of seen p.0.0)) (distinct_more (map name_of seen) (name_of p.0.0) h (new seen ts p.0 p.1)) in
      elim (or_back (with all (closed mark p.0.1)) (onward (after (codes ",") p.0.1) (parts part mark k all)) b p.2) as (λ _. AreDistinct (map name_of b.0)) [
        | inl q ↦ subst (λ (z : List A). AreDistinct (map name_of z)) (sym (with_back all (closed mark p.0.1) b q).1) here
        | inr q ↦ let w = onward_back (after (codes ",") p.0.1) (parts part mark k all) b q in distinct_back k all w.0 b here w.2
      ]

-- ---- the parts of each kind of type

-- a name stands next
abbrev pub IsNamed : List ℕ → Tokens → Tokens → Type 0
IsNamed name ts r = (t : List ℕ) × (ts ≡ t ∷ r) × Names t name

-- a field stands next
abbrev pub IsField : List ℕ × TypeTree → Tokens → Tokens → Type 0
IsField f ts r = (t : List ℕ) × (m : Tokens) × (ts ≡ t ∷ codes ":" ∷ m) × Names t f.0 × Spells f.1 m r

-- a case stands next
abbrev pub IsCase : List ℕ × Option TypeTree → Tokens → Tokens → Type 0
IsCase c ts r = (t : List ℕ) × (m : Tokens) × (ts ≡ t ∷ m) × Names t c.0 × SpellsPayload (maybe_type c.1) m r

pub names_spelled : (mark : List ℕ) (xs : List (List ℕ)) (ts r : Tokens) → AreParts mark IsNamed xs ts r → SpellsNames mark xs ts r
names_spelled mark [] ts r h = h
names_spelled mark (x ∷ []) ts r (m, (t, e, n), c) = (t, m, e, n, c)
names_spelled mark (x ∷ y ∷ xs) ts r (m, (t, e, n), h) = (t, m, e, n, names_spelled mark (y ∷ xs) m r h)

pub types_spelled : (xs : List TypeTree) (ts r : Tokens) → AreParts (codes ">") Spells xs ts r → SpellsTypes (types_of xs) ts r
types_spelled [] ts r h = h
types_spelled (x ∷ []) ts r h = h
types_spelled (x ∷ y ∷ xs) ts r (m, s, h) = (m, s, types_spelled (y ∷ xs) m r h)

pub fields_spelled : (mark : List ℕ) (xs : List (List ℕ × TypeTree)) (ts r : Tokens) → AreParts mark IsField xs ts r → SpellsFields mark (fields_of xs) ts r
fields_spelled mark [] ts r h = h
fields_spelled mark (x ∷ []) ts r (l, (t, m, e, n, s), c) = (t, m, l, e, n, s, c)
fields_spelled mark (x ∷ y ∷ xs) ts r (l, (t, m, e, n, s), h) = (t, m, l, e, n, s, fields_spelled mark (y ∷ xs) l r h)

pub cases_spelled : (xs : List (List ℕ × Option TypeTree)) (ts r : Tokens) → AreParts (codes "}") IsCase xs ts r → SpellsCases (cases_of xs) ts r
cases_spelled [] ts r h = h
cases_spelled (x ∷ []) ts r (l, (t, m, e, n, s), c) = (t, m, l, e, n, s, c)
cases_spelled (x ∷ y ∷ xs) ts r (l, (t, m, e, n, s), h) = (t, m, l, e, n, s, cases_spelled (y ∷ xs) l r h)

pub field_names_of : (xs : List (List ℕ × TypeTree)) → map (λ f. f.0) xs ≡ field_names (fields_of xs)
field_names_of [] = refl
field_names_of (x ∷ xs) = ap (λ l. x.0 ∷ l) (field_names_of xs)

pub case_names_of : (xs : List (List ℕ × Option TypeTree)) → map (λ c. c.0) xs ≡ case_names (cases_of xs)
case_names_of [] = refl
case_names_of (x ∷ xs) = ap (λ l. x.0 ∷ l) (case_names_of xs)

pub map_self : {A : Type 0} (xs : List A) → map (λ x. x) xs ≡ xs
map_self [] = refl
map_self (x ∷ xs) = ap (λ l. x ∷ l) (map_self xs)

-- ---- names in braces

name_part_back : (seen : List (List ℕ)) (ts : Tokens) (b : List ℕ × Tokens) → new_name seen ts ≡ Some b → IsNamed b.0 ts b.1
name_part_back seen ts b e = let h = new_back seen ts b e in (h.token, h.next, h.names)

-- names were read
pub record NamesRead (mark : List ℕ) (ts : Tokens) (b : List (List ℕ) × Tokens) : Type 0 where
  pub spelled : SpellsNames mark b.0 ts b.1
  pub distinct : AreDistinct b.0

pub names_back : (mark : List ℕ) (ts : Tokens) (b : List (List ℕ) × Tokens) → names_read mark ts ≡ Some b → NamesRead mark ts b
names_back mark ts b e =
    let h = parts_back new_name mark IsNamed name_part_back (length ts) [] ts b e in
    record {
      spelled = names_spelled mark b.0 ts b.1 (subst (λ z. AreParts mark IsNamed z ts b.1) (sym h.all) h.are);
      distinct = subst AreDistinct (map_self b.0) (distinct_back new_name mark (λ x. x) (λ seen ts b e. subst (λ z. is_one_of z b.0 ≡ false) (sym (map_self seen)) (new_back seen ts b e).new) (length ts) [] ts b tt e);
    }

-- ---- what the constructors make

pub tuple_built : (Ts : List TypeTree) (T : TypeTree) → tuple_type Ts ≡ Some T → T ≡ tuple (types_of Ts)
tuple_built [] T e = absurd (cc)
tuple_built (U ∷ Us) T e = cc

pub record_built : (fs : List (List ℕ × TypeTree)) (T : TypeTree) → maker.record_type fs ≡ Some T → T ≡ record_type (fields_of fs)
record_built [] T e = absurd (cc)
record_built (f ∷ fs) T e = cc

pub variant_built : (cs : List (List ℕ × Option TypeTree)) (T : TypeTree) → variant_type cs ≡ Some T → T ≡ variant (cases_of cs)
variant_built [] T e = absurd (cc)
variant_built (c ∷ cs) T e = cc

pub enum_built : (ns : List (List ℕ)) (T : TypeTree) → enum_type ns ≡ Some T → T ≡ enum ns
enum_built [] T e = absurd (cc)
enum_built (n ∷ ns) T e = cc

pub flags_built : (ns : List (List ℕ)) (T : TypeTree) → flags_type ns ≡ Some T → T ≡ flags ns
flags_built [] T e = absurd (cc)
flags_built (n ∷ ns) T e = cc

-- a key was read
pub record KeyRead (ts : Tokens) (b : TypeTree × Tokens) : Type 0 where
  pub kind : Simple
  pub is : b.0 ≡ simple kind
  pub next : ts ≡ kind_word (simple_kind kind) ∷ b.1

only_back : (kind : WasmTypeKind) (K : TypeTree) → only_simple (simple_type kind) ≡ Some K → (S : Simple) × (K ≡ simple S) × (kind ≡ simple_kind S)
only_back kinds.Bool K e = (bool, cc, refl)
only_back kinds.S8 K e = (whole s8, cc, refl)
only_back kinds.S16 K e = (whole s16, cc, refl)
only_back kinds.S32 K e = (whole s32, cc, refl)
only_back kinds.S64 K e = (whole s64, cc, refl)
only_back kinds.U8 K e = (whole u8, cc, refl)
only_back kinds.U16 K e = (whole u16, cc, refl)
only_back kinds.U32 K e = (whole u32, cc, refl)
only_back kinds.U64 K e = (whole u64, cc, refl)
only_back kinds.Char K e = (char, cc, refl)
only_back kinds.String K e = (string, cc, refl)
only_back _ K e = absurd (cc)

pub key_back : (ts : Tokens) (b : TypeTree × Tokens) → key_at ts ≡ Some b → KeyRead ts b
key_back [] b e = absurd (cc)
key_back (t ∷ ts) b e =
    let p = built_back (key_of_word t) ts b e in
    let k = onward_back (kind_of_word t) _ b.0 p.0 in
    let s = only_back k.0 b.0 k.2 in
    let is : t ≡ kind_word (simple_kind s.0) = word_back t k.0 k.1 ∙ ap kind_word s.2 in
    record { kind = s.0; is = s.1; next = λ i. is i ∷ p.1 i }

pub map_built : (K V : TypeTree) (S : Simple) (T : TypeTree) → K ≡ simple S → map_type K V ≡ Some T → T ≡ map_tree S V
map_built K V S T is e = let there : map_type (simple S) V ≡ Some T = sym (ap (λ z. map_type z V) is) ∙ e in cc

-- ---- types, where those inside are read

-- what is read is spelled
abbrev pub IsSound : Reads → Type 0
IsSound read = (ts : Tokens) (b : TypeTree × Tokens) → read ts ≡ Some b → Spells b.0 ts b.1

-- the same, of another tree that is one
of_tree : (T U : TypeTree) (ts r : Tokens) → U ≡ T → Spells T ts r → Spells U ts r
of_tree T U ts r e h = subst (λ z. Spells z ts r) (sym e) h

module _ (read : Reads) (sound : IsSound read) where
  types_back : (ts : Tokens) (b : List TypeTree × Tokens) → types_read read ts ≡ Some b → SpellsTypes (types_of b.0) ts b.1
  types_back ts b e =
      let h = parts_back (λ seen. read) (codes ">") Spells (λ seen. sound) (length ts) [] ts b e in
      types_spelled b.0 ts b.1 (subst (λ z. AreParts (codes ">") Spells z ts b.1) (sym h.all) h.are)

  field_back : (seen : List (List ℕ × TypeTree)) (ts : Tokens) (b : (List ℕ × TypeTree) × Tokens) → field_part read seen ts ≡ Some b → IsField b.0 ts b.1 × (is_one_of (map (λ f. f.0) seen) b.0.0 ≡ false)
  field_back seen ts b e =
      let p = onward_back (new_name (map (λ f. f.0) seen) ts) _ b e in
      let n = new_back (map (λ f. f.0) seen) ts p.0 p.1 in
      let q = onward_back (after (codes ":") p.0.1) _ b p.2 in
      let s = onward_back (read q.0) _ b q.2 in
      let same : ((p.0.0, s.0.0), s.0.1) ≡ b = cc in
      subst (λ z. IsField z.0 ts z.1 × (is_one_of (map (λ f. f.0) seen) z.0.0 ≡ false)) same (
        (
          n.token,
          q.0,
          n.next ∙ ap (λ l. n.token ∷ l) (after_back (codes ":") p.0.1 q.0 q.1),
          n.names,
          sound q.0 s.0 s.1,
        ),
        n.new,
      )

  pub fields_back : (mark : List ℕ) (ts : Tokens) (b : List (List ℕ × TypeTree) × Tokens) → fields_read read mark ts ≡ Some b → SpellsFields mark (fields_of b.0) ts b.1 × AreDistinct (field_names (fields_of b.0))
  fields_back mark ts b e =
      let h = parts_back (field_part read) mark IsField (λ seen ts b e. (field_back seen ts b e).0) (length ts) [] ts b e in
      let d = distinct_back (field_part read) mark (λ f. f.0) (λ seen ts b e. (field_back seen ts b e).1) (length ts) [] ts b tt e in
      (fields_spelled mark b.0 ts b.1 (subst (λ z. AreParts mark IsField z ts b.1) (sym h.all) h.are), subst AreDistinct (field_names_of b.0) d)

  payload_back : (ts : Tokens) (o : Option Tokens) (b : Option TypeTree × Tokens) → after (codes "(") ts ≡ o → payload_read read ts o ≡ Some b → SpellsPayload (maybe_type b.0) ts b.1
  payload_back ts None b h e = let same : (None, ts) ≡ b = cc in subst (λ z. SpellsPayload (maybe_type z.0) ts z.1) same refl
  payload_back ts (Some m) b h e =
      let s = onward_back (read m) _ b e in
      let w = with_back (Some s.0.0) (after (codes ")") s.0.1) b s.2 in
      let inside = subst (Spells s.0.0 m) (after_back (codes ")") s.0.1 b.1 w.0) (sound m s.0 s.1) in
      subst (λ z. SpellsPayload (maybe_type z) ts b.1) (sym w.1) (m, after_back (codes "(") ts m h, inside)

  case_back : (seen : List (List ℕ × Option TypeTree)) (ts : Tokens) (b : (List ℕ × Option TypeTree) × Tokens) → case_part read seen ts ≡ Some b → IsCase b.0 ts b.1 × (is_one_of (map (λ c. c.0) seen) b.0.0 ≡ false)
  case_back seen ts b e =
      let p = onward_back (new_name (map (λ c. c.0) seen) ts) _ b e in
      let n = new_back (map (λ c. c.0) seen) ts p.0 p.1 in
      let s = onward_back (payload_read read p.0.1 (after (codes "(") p.0.1)) _ b p.2 in
      let same : ((p.0.0, s.0.0), s.0.1) ≡ b = cc in
      subst (λ z. IsCase z.0 ts z.1 × (is_one_of (map (λ c. c.0) seen) z.0.0 ≡ false)) same (
        (
          n.token,
          p.0.1,
          n.next,
          n.names,
          payload_back p.0.1 (after (codes "(") p.0.1) s.0 refl s.1,
        ),
        n.new,
      )

  cases_back : (ts : Tokens) (b : List (List ℕ × Option TypeTree) × Tokens) → cases_read read ts ≡ Some b → SpellsCases (cases_of b.0) ts b.1 × AreDistinct (case_names (cases_of b.0))
  cases_back ts b e =
      let h = parts_back (case_part read) (codes "}") IsCase (λ seen ts b e. (case_back seen ts b e).0) (length ts) [] ts b e in
      let d = distinct_back (case_part read) (codes "}") (λ c. c.0) (λ seen ts b e. (case_back seen ts b e).1) (length ts) [] ts b tt e in
      (cases_spelled b.0 ts b.1 (subst (λ z. AreParts (codes "}") IsCase z ts b.1) (sym h.all) h.are), subst AreDistinct (case_names_of b.0) d)

  -- a word and a mark, and what follows
  behind : (word mark : List ℕ) (ts m : Tokens) → after mark ts ≡ Some m → word ∷ ts ≡ word ∷ mark ∷ m
  behind word mark ts m e = ap (λ l. word ∷ l) (after_back mark ts m e)

  fixed_back : (E : TypeTree) (m ts : Tokens) (b : TypeTree × Tokens) → Spells E m ts → fixed_read E ts ≡ Some b → (w : Tokens) → w ≡ codes "list" ∷ codes "<" ∷ m → Spells b.0 w b.1
  fixed_back E m ts b h e w is =
      let p = onward_back (after (codes ",") ts) _ b e in
      let n = onward_back (count_at p.0) _ b p.2 in
      let c = count_at_back p.0 n.0 n.1 in
      let z = with_back (fixed E n.0.0) (closed (codes ">") n.0.1) b n.2 in
      let there : ts ≡ codes "," ∷ decimal n.0.0 ∷ n.0.1 = after_back (codes ",") ts p.0 p.1 ∙ ap (λ l. codes "," ∷ l) c.0 in
      of_tree (fixed E n.0.0) b.0 w b.1 z.1 (m, n.0.1, is, subst (Spells E m) there h, c.1, closed_back (codes ">") n.0.1 b.1 z.0)

  list_back : (ts : Tokens) (b : TypeTree × Tokens) → list_read read ts ≡ Some b → Spells b.0 (codes "list" ∷ ts) b.1
  list_back ts b e =
      let p = onward_back (after (codes "<") ts) _ b e in
      let s = onward_back (read p.0) _ b p.2 in
      let is = behind (codes "list") (codes "<") ts p.0 p.1 in
      let inside = sound p.0 s.0 s.1 in
      elim (or_back (with (list s.0.0) (closed (codes ">") s.0.1)) (fixed_read s.0.0 s.0.1) b s.2) as (λ _. Spells b.0 (codes "list" ∷ ts) b.1) [
        | inl q ↦
            let z = with_back (list s.0.0) (closed (codes ">") s.0.1) b q in
            of_tree (list s.0.0) b.0 (codes "list" ∷ ts) b.1 z.1 (p.0, s.0.1, is, inside, closed_back (codes ">") s.0.1 b.1 z.0)
        | inr q ↦ fixed_back s.0.0 p.0 s.0.1 b inside q (codes "list" ∷ ts) is
      ]

  option_back : (ts : Tokens) (b : TypeTree × Tokens) → option_read read ts ≡ Some b → Spells b.0 (codes "option" ∷ ts) b.1
  option_back ts b e =
      let p = onward_back (after (codes "<") ts) _ b e in
      let s = onward_back (read p.0) _ b p.2 in
      let z = with_back (option s.0.0) (closed (codes ">") s.0.1) b s.2 in
      of_tree (option s.0.0) b.0 (codes "option" ∷ ts) b.1 z.1 (p.0, s.0.1, behind (codes "option") (codes "<") ts p.0 p.1, sound p.0 s.0 s.1, closed_back (codes ">") s.0.1 b.1 z.0)

  map_back : (ts : Tokens) (b : TypeTree × Tokens) → map_read read ts ≡ Some b → Spells b.0 (codes "map" ∷ ts) b.1
  map_back ts b e =
      let p = onward_back (after (codes "<") ts) _ b e in
      let k = onward_back (key_at p.0) _ b p.2 in
      let key = key_back p.0 k.0 k.1 in
      let c = onward_back (after (codes ",") k.0.1) _ b k.2 in
      let v = onward_back (read c.0) _ b c.2 in
      let z = onward_back (closed (codes ">") v.0.1) _ b v.2 in
      let w = built_back (map_type k.0.0 v.0.0) z.0 b z.2 in
      let there : codes "map" ∷ ts ≡ codes "map" ∷ codes "<" ∷ kind_word (simple_kind key.kind) ∷ codes "," ∷ c.0 =
      behind (codes "map") (codes "<") ts p.0 p.1 ∙ ap (λ l. codes "map" ∷ codes "<" ∷ l) (key.next ∙ ap (λ l. kind_word (simple_kind key.kind) ∷ l) (after_back (codes ",") k.0.1 c.0 c.1))
      in
      of_tree (map_tree key.kind v.0.0) b.0 (codes "map" ∷ ts) b.1 (map_built k.0.0 v.0.0 key.kind b.0 key.is w.0) (c.0, v.0.1, there, sound c.0 v.0 v.1, subst (Closes (codes ">") v.0.1) w.1 (closed_back (codes ">") v.0.1 z.0 z.1))

  err_back : (A : Option TypeTree) (ts : Tokens) (b : TypeTree × Tokens) → err_read read A ts ≡ Some b → (m : Tokens) × (E : TypeTree) × (l : Tokens) × (ts ≡ codes "," ∷ m) × Spells E m l × Closes (codes ">") l b.1 × (b.0 ≡ result (maybe_type A) (a_type E))
  err_back A ts b e =
      let p = onward_back (after (codes ",") ts) _ b e in
      let s = onward_back (read p.0) _ b p.2 in
      let z = with_back (result (maybe_type A) (a_type s.0.0)) (closed (codes ">") s.0.1) b s.2 in
      (p.0, s.0.0, s.0.1, after_back (codes ",") ts p.0 p.1, sound p.0 s.0 s.1, closed_back (codes ">") s.0.1 b.1 z.0, z.1)

  payloads_back : (ts m : Tokens) (o : Option Tokens) (b : TypeTree × Tokens) → after (codes "_") m ≡ o → payloads_read read m o ≡ Some b → ts ≡ codes "<" ∷ m → Spells b.0 (codes "result" ∷ ts) b.1
  payloads_back ts m (Some l) b h e is =
      let p = err_back None l b e in
      let there : codes "result" ∷ ts ≡ codes "result" ∷ codes "<" ∷ codes "_" ∷ codes "," ∷ p.0 =
      ap (λ k. codes "result" ∷ k) (is ∙ ap (λ k. codes "<" ∷ k) (after_back (codes "_") m l h ∙ ap (λ k. codes "_" ∷ k) p.3))
      in
      of_tree (result no_type (a_type p.1)) b.0 (codes "result" ∷ ts) b.1 p.6 (p.0, p.2, there, p.4, p.5)
  payloads_back ts m None b h e is =
      let s = onward_back (read m) _ b e in
      let inside = sound m s.0 s.1 in
      let there = ap (λ k. codes "result" ∷ k) is in
      elim (or_back (with (result (a_type s.0.0) no_type) (closed (codes ">") s.0.1)) (err_read read (Some s.0.0) s.0.1) b s.2) as (λ _. Spells b.0 (codes "result" ∷ ts) b.1) [
        | inl q ↦
            let z = with_back (result (a_type s.0.0) no_type) (closed (codes ">") s.0.1) b q in
            of_tree (result (a_type s.0.0) no_type) b.0 (codes "result" ∷ ts) b.1 z.1 (m, s.0.1, there, inside, closed_back (codes ">") s.0.1 b.1 z.0)
        | inr q ↦
            let p = err_back (Some s.0.0) s.0.1 b q in
            of_tree (result (a_type s.0.0) (a_type p.1)) b.0 (codes "result" ∷ ts) b.1 p.6 (m, p.0, p.2, there, subst (Spells s.0.0 m) p.3 inside, p.4, p.5)
      ]

  alone_back : (ts : Tokens) → after (codes "<") ts ≡ None → StandsAlone ts
  alone_back [] e = tt
  alone_back (t ∷ ts) e = λ same. let wrong : Some ts ≡ None = sym (ap (λ b. if b then Some ts else None) ((bytes_eq-Decides t (codes "<")).1 same)) ∙ e in cc

  result_back : (ts : Tokens) (o : Option Tokens) (b : TypeTree × Tokens) → after (codes "<") ts ≡ o → result_read read ts o ≡ Some b → Spells b.0 (codes "result" ∷ ts) b.1
  result_back ts None b h e =
      let same : (result no_type no_type, ts) ≡ b = cc in
      subst (λ z. Spells z.0 (codes "result" ∷ ts) z.1) same (refl, alone_back ts h)
  result_back ts (Some m) b h e = payloads_back ts m (after (codes "_") m) b refl e (after_back (codes "<") ts m h)

  simple_back : (word : List ℕ) (T : TypeTree) (ts : Tokens) (b : TypeTree × Tokens) → Spells T (word ∷ ts) ts → Some (T, ts) ≡ Some b → Spells b.0 (word ∷ ts) b.1
  simple_back word T ts b h e = let same : (T, ts) ≡ b = cc in subst (λ z. Spells z.0 (word ∷ ts) z.1) same h

  pub kind_back : (kind : WasmTypeKind) (ts : Tokens) (b : TypeTree × Tokens) → kind_read read kind ts ≡ Some b → Spells b.0 (kind_word kind ∷ ts) b.1
  kind_back kinds.List ts b e = list_back ts b e
  kind_back kinds.Option ts b e = option_back ts b e
  kind_back kinds.Map ts b e = map_back ts b e
  kind_back kinds.Result ts b e = result_back ts (after (codes "<") ts) b refl e
  kind_back kinds.Tuple ts b e =
      let p = onward_back (after (codes "<") ts) _ b e in
      let h = onward_back (types_read read p.0) _ b p.2 in
      let w = built_back (tuple_type h.0.0) h.0.1 b h.2 in
      let same = tuple_built h.0.0 b.0 w.0 in
      of_tree (tuple (types_of h.0.0)) b.0 (codes "tuple" ∷ ts) b.1 same (p.0, behind (codes "tuple") (codes "<") ts p.0 p.1, subst (SpellsTypes (types_of h.0.0) p.0) w.1 (types_back p.0 h.0 h.1))
  kind_back kinds.Record ts b e =
      let p = onward_back (after (codes "{") ts) _ b e in
      let h = onward_back (fields_read read (codes "}") p.0) _ b p.2 in
      let w = built_back (maker.record_type h.0.0) h.0.1 b h.2 in
      let q = fields_back (codes "}") p.0 h.0 h.1 in
      of_tree (record_type (fields_of h.0.0)) b.0 (codes "record" ∷ ts) b.1 (record_built h.0.0 b.0 w.0) (p.0, behind (codes "record") (codes "{") ts p.0 p.1, subst (SpellsFields (codes "}") (fields_of h.0.0) p.0) w.1 q.0, q.1)
  kind_back kinds.Variant ts b e =
      let p = onward_back (after (codes "{") ts) _ b e in
      let h = onward_back (cases_read read p.0) _ b p.2 in
      let w = built_back (variant_type h.0.0) h.0.1 b h.2 in
      let q = cases_back p.0 h.0 h.1 in
      of_tree (variant (cases_of h.0.0)) b.0 (codes "variant" ∷ ts) b.1 (variant_built h.0.0 b.0 w.0) (p.0, behind (codes "variant") (codes "{") ts p.0 p.1, subst (SpellsCases (cases_of h.0.0) p.0) w.1 q.0, q.1)
  kind_back kinds.Enum ts b e =
      let p = onward_back (after (codes "{") ts) _ b e in
      let h = onward_back (names_read (codes "}") p.0) _ b p.2 in
      let w = built_back (enum_type h.0.0) h.0.1 b h.2 in
      let q = names_back (codes "}") p.0 h.0 h.1 in
      of_tree (enum h.0.0) b.0 (codes "enum" ∷ ts) b.1 (enum_built h.0.0 b.0 w.0) (p.0, behind (codes "enum") (codes "{") ts p.0 p.1, subst (SpellsNames (codes "}") h.0.0 p.0) w.1 q.spelled, q.distinct)
  kind_back kinds.Flags ts b e =
      let p = onward_back (after (codes "{") ts) _ b e in
      let h = onward_back (names_read (codes "}") p.0) _ b p.2 in
      let w = built_back (flags_type h.0.0) h.0.1 b h.2 in
      let q = names_back (codes "}") p.0 h.0 h.1 in
      of_tree (flags h.0.0) b.0 (codes "flags" ∷ ts) b.1 (flags_built h.0.0 b.0 w.0) (p.0, behind (codes "flags") (codes "{") ts p.0 p.1, subst (SpellsNames (codes "}") h.0.0 p.0) w.1 q.spelled, q.distinct)
  kind_back kinds.Bool ts b e = simple_back _ _ ts b refl e
  kind_back kinds.S8 ts b e = simple_back _ _ ts b refl e
  kind_back kinds.S16 ts b e = simple_back _ _ ts b refl e
  kind_back kinds.S32 ts b e = simple_back _ _ ts b refl e
  kind_back kinds.S64 ts b e = simple_back _ _ ts b refl e
  kind_back kinds.U8 ts b e = simple_back _ _ ts b refl e
  kind_back kinds.U16 ts b e = simple_back _ _ ts b refl e
  kind_back kinds.U32 ts b e = simple_back _ _ ts b refl e
  kind_back kinds.U64 ts b e = simple_back _ _ ts b refl e
  kind_back kinds.F32 ts b e = simple_back _ _ ts b refl e
  kind_back kinds.F64 ts b e = simple_back _ _ ts b refl e
  kind_back kinds.Char ts b e = simple_back _ _ ts b refl e
  kind_back kinds.String ts b e = simple_back _ _ ts b refl e
  kind_back kinds.FixedLengthList ts b e = absurd (cc)
  kind_back kinds.Unsupported ts b e = absurd (cc)

-- what is read within a number of levels is spelled
pub read_sound : (n : ℕ) → IsSound (type_read n)
read_sound zero ts b e = absurd (cc)
read_sound (suc n) ts b e =
    let p = onward_back (kind_at ts) _ b e in
    subst (λ z. Spells b.0 z b.1) (sym (kind_at_back ts p.0 p.1)) (kind_back (type_read n) (read_sound n) p.0.0 p.0.1 b p.2)
