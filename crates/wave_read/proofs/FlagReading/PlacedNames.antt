-- Names of flags under the places where they stand among the type's names, and the first flag that is none of these.
use Rattle.std.proofs.Common.{ℕ, zero, suc, ◌≡◌, ◌≢◌, inl, inr, ◌<◌, Bool, true, false, ◌||◌, List, [], ◌∷◌, ◌++◌, map, get_or, cond, Option, Some, None, Ordering, Bor, refl, sym, ap, ◌∙◌, subst, arith}
use Rattle.std.specs.Prelude.{bytes_eq, ◌+◌, slice_get}
use Rattle.std.specs.BTreeMap.{insert_entry}
use Rattle.std.specs.Cmp.{nat_cmp_is}
use Rattle.std.specs.List.{position, position_from}
use Rattle.std.specs.Iterator.{Yields}
use Rattle.std.specs.Map.{values_of}
use Rattle.std.specs.Map.Iter.{TakesFirst, deref}
use Rattle.std.specs.Ordering.{nat_cmp, match_ordering}
use Rattle.std.specs.declared.cmp.Ordering.TheVariants.{Less, Equal, Greater}
use Rattle.std.proofs.lemmas.Bool.Decides.{not_from_Decides}
use Rattle.std.proofs.lemmas.Iterator.Adapters.{position_from-zero}
use Rattle.std.proofs.lemmas.List.{map-append}
use Rattle.std.proofs.lemmas.List.Folds.{list_any-append}
use Rattle.std.proofs.lemmas.List.Quantifiers.{position-Some}
use Rattle.std.proofs.lemmas.Map.Iter.{rest_so_far, rest_more}
use Rattle.std.proofs.lemmas.Option.{slice_get-get_or}
use Rattle.std.proofs.lemmas.Slice.Eq.{bytes_eq-Decides}
use Rattle.wave_wasm.specs.Names.{IsOneOf, IsNoneOf, AreAllOf, AreDistinct, is_one_of, found_in}
use Rattle.wave_wasm.specs.Borrowed.{texts}
use Rattle.wave_wasm.specs.ValueErrors.{unknown_case}
use Rattle.wave_wasm.proofs.Names.Subsequences.{unlike}
use Rattle.wave_lex.specs.Errors.{Diagnostic, refusal_of}
use Rattle.wave_grammar.specs.TypeErrors.{RefusesFor}
use Rattle.wave_grammar.specs.NodeTree.{NodeTree, place_of}
use Rattle.wave_grammar.specs.NodeFlags.{IsFirstUnknown, RefusesUnknown}
use Rattle.wave_grammar.specs.PartReading.{IsCaused}
use Rattle.wave_grammar.proofs.ErrorSpans.Nodes.{caused_at}
use Rattle.wave_leaf.specs.declared.fault.Fault.{Fault}
use Rattle.wave_read.specs.Private.NamedFlags.{ReportsCause, ReportsUnknown}

-- the names of the flags that were taken
abbrev pub names_denoted : List (Bor (Bor (List ℕ))) → List (List ℕ)
names_denoted ks = texts (map (λ k. k.now) ks)

-- with one more
pub denoted_more : (ks : List (Bor (Bor (List ℕ)))) (k : Bor (Bor (List ℕ))) → names_denoted (ks ++ k ∷ []) ≡ names_denoted ks ++ k.now.now ∷ []
denoted_more [] k = refl
denoted_more (j ∷ ks) k = ap (λ ns. j.now.now ∷ ns) (denoted_more ks k)

-- the names of all flags are those that were taken, the next and those after it
pub denoted_first : (all rest left more : List (Bor (List ℕ))) (ks : List (Bor (Bor (List ℕ)))) (r : Option (Bor (Bor (List ℕ)))) (k : Bor (Bor (List ℕ))) → rest ≡ all → Yields (TakesFirst deref) rest ks left → r ≡ Some k → TakesFirst deref left r more → texts all ≡ names_denoted ks ++ k.now.now ∷ texts more
denoted_first all rest left more ks r k start so_far is step =
    ap texts (sym start ∙ (rest_so_far deref ks rest left so_far ∙ ap (λ l. map deref ks ++ l) (rest_more deref left more r k is step)))
    ∙ map-append (λ (n : Bor (List ℕ)). n.now) (map deref ks) (k.now ∷ more)

-- ---- faults

first_unknown : (names before more : List (List ℕ)) (name : List ℕ) (n : NodeTree) (e : Diagnostic) → AreAllOf names before → IsNoneOf names name → RefusesFor (unknown_case name) (place_of n) (refusal_of e) e.span → IsFirstUnknown names (before ++ name ∷ more) n e
first_unknown names [] more name n e all none refused = inl (none, refused)
first_unknown names (one ∷ before) more name n e all none refused = inr (all.0, first_unknown names before more name n e all.1 none refused)

-- a fault for a flag that is none of the names, where all before it are among them
pub tells_unknown : (names flags before more : List (List ℕ)) (name : List ℕ) (f : Fault) → flags ≡ before ++ name ∷ more → AreAllOf names before → IsNoneOf names name → ReportsCause (unknown_case name) f → ReportsUnknown names flags f
tells_unknown names flags before more name f split all none reported = λ n e tells.
    let h = reported n e tells in
    (refuses n e h.0, caused_at (unknown_case name) n e h.0 h.1)
  where
    refuses : (n : NodeTree) (e : Diagnostic) → IsCaused (unknown_case name) n e → RefusesUnknown names flags n e
    refuses n e (inl memory) = inl memory
    refuses n e (inr refused) = inr (subst (λ (fs : List (List ℕ)). IsFirstUnknown names fs n e) (sym split) (first_unknown names before more name n e all none refused))

-- ---- places of names

none_from : (name : List ℕ) (k : ℕ) (names : List (List ℕ)) → None ≡ position_from (bytes_eq name) k names → IsNoneOf names name
none_from name k [] e = tt
none_from name k (n ∷ names) e = by (bytes_eq name n) refl (none_from name (k + 1) names) e
  where
    by : (b : Bool) → bytes_eq name n ≡ b → (None ≡ position_from (bytes_eq name) (k + 1) names → IsNoneOf names name) → None ≡ cond b (Some k) (position_from (bytes_eq name) (k + 1) names) → (name ≢ n) × IsNoneOf names name
    by true is more e = absurd (cc)
    by false is more e = (not_from_Decides _ (bytes_eq-Decides name n) is, more e)

-- where no place was found, the name is none of the names
pub none_there : (names : List (List ℕ)) (name : List ℕ) → None ≡ position (bytes_eq name) names → IsNoneOf names name
none_there names name e = none_from name 0 names (e ∙ position_from-zero (bytes_eq name) names)

-- the name stands at the place that was found
pub stands_there : (names : List (List ℕ)) (name : List ℕ) (place : ℕ) → Some place ≡ position (bytes_eq name) names → slice_get names place ≡ Some name
stands_there names name place e =
    let h = position-Some (bytes_eq name) names place [] (sym e) in
    slice_get-get_or names place [] h.0 ∙ ap Some (sym ((bytes_eq-Decides name (get_or names place [])).0 h.1))

some_same : (x y : List ℕ) → Some x ≡ Some y → x ≡ y
some_same x y e = cc

one_there : (names : List (List ℕ)) (place : ℕ) (name : List ℕ) → slice_get names place ≡ Some name → IsOneOf names name
one_there [] place name stands = absurd (cc)
one_there (n ∷ names) zero name stands = inl (sym (some_same n name stands))
one_there (n ∷ names) (suc place) name stands = inr (one_there names place name stands)

all_more : (names some : List (List ℕ)) (one : List ℕ) → AreAllOf names some → IsOneOf names one → AreAllOf names (some ++ one ∷ [])
all_more names [] one all h = (h, tt)
all_more names (some ∷ more) one all h = (all.0, all_more names more one all.1 h)

-- each flag that was taken has one of the names, the next one too
pub known_next : (names : List (List ℕ)) (ks : List (Bor (Bor (List ℕ)))) (k : Bor (Bor (List ℕ))) (place : ℕ) → slice_get names place ≡ Some k.now.now → AreAllOf names (names_denoted ks) → AreAllOf names (names_denoted (ks ++ k ∷ []))
known_next names ks k place stands known =
    subst (AreAllOf names) (sym (denoted_more ks k)) (all_more names (names_denoted ks) k.now.now known (one_there names place k.now.now stands))

-- ---- the names that flags have, under their places

-- those of the names that flags have, under their places, which are counted from k
abbrev found_at : ℕ → List (List ℕ) → List (List ℕ) → List (ℕ × List ℕ)
found_at k flags [] = []
found_at k flags (name ∷ names) = cond (is_one_of flags name) ((k, name) ∷ found_at (k + 1) flags names) (found_at (k + 1) flags names)

abbrev named : ℕ × Bor (List ℕ) → ℕ × List ℕ
named e = (e.0, e.1.now)

-- the entries are those, where the names are distinct
abbrev pub ArePlaced : List (List ℕ) → List (List ℕ) → List (ℕ × Bor (List ℕ)) → Type 0
ArePlaced names flags es = AreDistinct names → map named es ≡ found_at 0 flags names

found_none : (k : ℕ) (names : List (List ℕ)) → [] ≡ found_at k [] names
found_none k [] = refl
found_none k (name ∷ names) = found_none (k + 1) names

-- no flag has a name
pub none_placed : (names : List (List ℕ)) (es : List (ℕ × Bor (List ℕ))) → es ≡ [] → ArePlaced names [] es
none_placed names es none distinct = ap (map named) none ∙ found_none 0 names

-- a name that is put under a place, of the entries' names
named_put : (es : List (ℕ × Bor (List ℕ))) (place : ℕ) (name : Bor (List ℕ)) → map named (insert_entry nat_cmp es place name) ≡ insert_entry nat_cmp (map named es) place name.now
named_put [] place name = refl
named_put (e ∷ es) place name = by (nat_cmp place e.0) (named_put es place name)
  where
    by : (o : Ordering) → map named (insert_entry nat_cmp es place name) ≡ insert_entry nat_cmp (map named es) place name.now
        → map named (match_ordering o ((place, name) ∷ e ∷ es) ((e.0, name) ∷ es) (e ∷ insert_entry nat_cmp es place name)) ≡ match_ordering o ((place, name.now) ∷ named e ∷ map named es) ((e.0, name.now) ∷ map named es) (named e ∷ insert_entry nat_cmp (map named es) place name.now)
    by Less more = refl
    by Equal more = refl
    by Greater more = ap (λ l. named e ∷ l) more

less : (a b : ℕ) → a < b → nat_cmp a b ≡ Less
less a b lt = sym (nat_cmp_is a b Less lt)

equal : (a b : ℕ) → a ≡ b → nat_cmp a b ≡ Equal
equal a b same = sym (nat_cmp_is a b Equal same)

greater : (a b : ℕ) → b < a → nat_cmp a b ≡ Greater
greater a b lt = sym (nat_cmp_is a b Greater lt)

-- a place before all others
put_first : (flags names : List (List ℕ)) (k place : ℕ) (name : List ℕ) → place < k → insert_entry nat_cmp (found_at k flags names) place name ≡ (place, name) ∷ found_at k flags names
put_first flags [] k place name lt = refl
put_first flags (n ∷ names) k place name lt = by (is_one_of flags n) (put_first flags names (k + 1) place name (omega (arith, lt)))
  where
    by : (b : Bool) → insert_entry nat_cmp (found_at (k + 1) flags names) place name ≡ (place, name) ∷ found_at (k + 1) flags names
        → insert_entry nat_cmp (cond b ((k, n) ∷ found_at (k + 1) flags names) (found_at (k + 1) flags names)) place name ≡ (place, name) ∷ cond b ((k, n) ∷ found_at (k + 1) flags names) (found_at (k + 1) flags names)
    by true more = ap (λ (o : Ordering). match_ordering o ((place, name) ∷ (k, n) ∷ found_at (k + 1) flags names) ((k, name) ∷ found_at (k + 1) flags names) ((k, n) ∷ insert_entry nat_cmp (found_at (k + 1) flags names) place name)) (less place k lt)
    by false more = more

or_true : (a b : Bool) → b ≡ true → (a || (b || false)) ≡ true
or_true true b e = refl
or_true false true e = refl
or_true false false e = absurd (cc)

or_false : (a b : Bool) → b ≡ false → (a || (b || false)) ≡ a
or_false true b e = refl
or_false false true e = absurd (cc)
or_false false false e = refl

-- the flag is one of them
one_of_more : (flags : List (List ℕ)) (flag : List ℕ) → is_one_of (flags ++ flag ∷ []) flag ≡ true
one_of_more flags flag = list_any-append (bytes_eq flag) flags (flag ∷ []) ∙ or_true (is_one_of flags flag) (bytes_eq flag flag) ((bytes_eq-Decides flag flag).1 refl)

-- another name is one of them as before
other_of_more : (flags : List (List ℕ)) (flag name : List ℕ) → name ≢ flag → is_one_of (flags ++ flag ∷ []) name ≡ is_one_of flags name
other_of_more flags flag name other = list_any-append (bytes_eq name) flags (flag ∷ []) ∙ or_false (is_one_of flags name) (bytes_eq name flag) (unlike name flag other)

-- a flag that has none of the names
found_same : (flags names : List (List ℕ)) (k : ℕ) (flag : List ℕ) → IsNoneOf names flag → found_at k flags names ≡ found_at k (flags ++ flag ∷ []) names
found_same flags [] k flag none = refl
found_same flags (n ∷ names) k flag none =
    let more = found_same flags names (k + 1) flag none.1 in
    let same = other_of_more flags flag n (λ is. none.0 (sym is)) in
    λ i. cond (sym same i) ((k, n) ∷ more i) (more i)

apart : (n name : List ℕ) (names : List (List ℕ)) → IsNoneOf names n → IsOneOf names name → n ≢ name
apart n name [] none one same = absurd one
apart n name (m ∷ names) none (inl e) same = none.0 (same ∙ e)
apart n name (m ∷ names) none (inr one) same = apart n name names none.1 one same

-- one more flag is put under its place
put_found : (flags names : List (List ℕ)) (k place : ℕ) (flag : List ℕ) → AreDistinct names → slice_get names place ≡ Some flag → insert_entry nat_cmp (found_at k flags names) (k + place) flag ≡ found_at k (flags ++ flag ∷ []) names
put_found flags [] k place flag distinct stands = absurd (cc)
put_found flags (n ∷ names) k zero flag distinct stands =
    let same = some_same n flag stands in
    let here : k + 0 ≡ k = omega arith in
    let rest = found_same flags names (k + 1) flag (subst (IsNoneOf names) same distinct.0) in
    let first : is_one_of (flags ++ flag ∷ []) n ≡ true = ap (is_one_of (flags ++ flag ∷ [])) same ∙ one_of_more flags flag in
    ap (λ p. insert_entry nat_cmp (found_at k flags (n ∷ names)) p flag) here
    ∙ (by (is_one_of flags n)
    ∙ λ i. cond (sym first i) ((k, sym same i) ∷ rest i) (rest i))
  where
    by : (b : Bool) → insert_entry nat_cmp (cond b ((k, n) ∷ found_at (k + 1) flags names) (found_at (k + 1) flags names)) k flag ≡ (k, flag) ∷ found_at (k + 1) flags names
    by true = ap (λ (o : Ordering). match_ordering o ((k, flag) ∷ (k, n) ∷ found_at (k + 1) flags names) ((k, flag) ∷ found_at (k + 1) flags names) ((k, n) ∷ insert_entry nat_cmp (found_at (k + 1) flags names) k flag)) (equal k k refl)
    by false = put_first flags names (k + 1) k flag (omega arith)
put_found flags (n ∷ names) k (suc place) flag distinct stands =
    let other = other_of_more flags flag n (apart n flag names distinct.0 (one_there names place flag stands)) in
    let there : k + 1 + place ≡ k + suc place = omega arith in
    let more = ap (λ p. insert_entry nat_cmp (found_at (k + 1) flags names) p flag) (sym there) ∙ put_found flags names (k + 1) place flag distinct.1 stands in
    by (is_one_of flags n)
    ∙ λ i. cond (sym other i) ((k, n) ∷ more i) (more i)
  where
    by : (b : Bool) → insert_entry nat_cmp (cond b ((k, n) ∷ found_at (k + 1) flags names) (found_at (k + 1) flags names)) (k + suc place) flag ≡ cond b ((k, n) ∷ insert_entry nat_cmp (found_at (k + 1) flags names) (k + suc place) flag) (insert_entry nat_cmp (found_at (k + 1) flags names) (k + suc place) flag)
    by true = ap (λ (o : Ordering). match_ordering o ((k + suc place, flag) ∷ (k, n) ∷ found_at (k + 1) flags names) ((k, flag) ∷ found_at (k + 1) flags names) ((k, n) ∷ insert_entry nat_cmp (found_at (k + 1) flags names) (k + suc place) flag)) (greater (k + suc place) k (omega arith))
    by false = refl

-- the next flag that is taken is put under its place
pub placed_next : (names : List (List ℕ)) (ks : List (Bor (Bor (List ℕ)))) (k : Bor (Bor (List ℕ))) (place : ℕ) (es more : List (ℕ × Bor (List ℕ))) → slice_get names place ≡ Some k.now.now → more ≡ insert_entry nat_cmp es place k.now
    → ArePlaced names (names_denoted ks) es → ArePlaced names (names_denoted (ks ++ k ∷ [])) more
placed_next names ks k place es more stands put placed distinct =
    let start : place ≡ 0 + place = omega arith in
    ap (map named) put
    ∙ (named_put es place k.now
    ∙ ((λ i. insert_entry nat_cmp (placed distinct i) (start i) k.now.now)
    ∙ (put_found (names_denoted ks) names 0 place k.now.now distinct stands
    ∙ ap (λ flags. found_at 0 flags names) (sym (denoted_more ks k)))))

texts_found : (k : ℕ) (flags names : List (List ℕ)) → map (λ (e : ℕ × List ℕ). e.1) (found_at k flags names) ≡ found_in flags names
texts_found k flags [] = refl
texts_found k flags (n ∷ names) = by (is_one_of flags n) (texts_found (k + 1) flags names)
  where
    by : (b : Bool) → map (λ (e : ℕ × List ℕ). e.1) (found_at (k + 1) flags names) ≡ found_in flags names
        → map (λ (e : ℕ × List ℕ). e.1) (cond b ((k, n) ∷ found_at (k + 1) flags names) (found_at (k + 1) flags names)) ≡ cond b (n ∷ found_in flags names) (found_in flags names)
    by true more = ap (λ l. n ∷ l) more
    by false more = more

texts_named : (es : List (ℕ × Bor (List ℕ))) → texts (values_of es) ≡ map (λ (e : ℕ × List ℕ). e.1) (map named es)
texts_named [] = refl
texts_named (e ∷ es) = ap (λ l. e.1.now ∷ l) (texts_named es)

-- the names in the order of their places
pub placed_in_order : (names flags : List (List ℕ)) (es : List (ℕ × Bor (List ℕ))) → ArePlaced names flags es → AreDistinct names → texts (values_of es) ≡ found_in flags names
placed_in_order names flags es placed distinct = texts_named es ∙ (ap (map (λ (e : ℕ × List ℕ). e.1)) (placed distinct) ∙ texts_found 0 flags names)
