-- One part more in a loop that reads parts.
use Rattle.std.proofs.Common.{◌≡◌, ℕ, zero, suc, ◌+◌, ◌-◌, ◌<◌, Bool, true, false, cond, List, [], ◌∷◌, ◌++◌, Option, Some, None, drop, refl, sym, ap, subst, ◌∙◌, arith, rules, codes}
use Rattle.std.specs.Prelude.{◌||◌, not, if◌then◌else◌}
use Rattle.std.specs.Borrow.{Bor}
use Rattle.std.specs.BTreeSet.{BTreeSet, contains, contains_by, Updates}
use Rattle.std.specs.Cmp.Lexicographic.{slice_cmp}
use Rattle.std.specs.List.{list_any}
use Rattle.std.specs.Ordering.{is_eq, nat_cmp}
use Rattle.std.specs.Str.{bytes_eq}
use Rattle.std.proofs.lemmas.List.Folds.{list_any-append}
use Rattle.std.proofs.lemmas.Map.Text.{is_eq-slice_cmp}
use Rattle.std.proofs.lemmas.Slice.Eq.{bytes_eq-Decides}
use Rattle.wave_wasm.specs.Borrowed.{texts, named}
use Rattle.wave_wasm.specs.Names.{is_one_of}
use Rattle.wave_wasm.specs.Types.{TypeTree}
use Rattle.wave_wasm.specs.declared.wasm.WasmTypeKind.{WasmTypeKind}
use Rattle.wave_type.specs.TypeSpelling.{Tokens}
use Rattle.wave_type.specs.Private.TypeReading.{or_else, with, after, closed, parts, Reads, HasNames, part_names, name_at, new_name, field_part, payload_read, case_part, kind_at, kind_read, type_read}
use Rattle.wave_type.proofs.TypeReading.Sound.{map_more}
use Rattle.wave_type.specs.TypeWords.{onward}

-- ---- the names that were taken

-- the same test, turned
pub eq_turn : (a b : List ℕ) → bytes_eq a b ≡ bytes_eq b a
eq_turn a b = search (rules, bytes_eq-Decides a b, bytes_eq-Decides b a)

-- no names at first
pub has_none : (set : BTreeSet (Bor (List ℕ))) → set.keys ≡ [] → HasNames set []
has_none set e = λ q. ap (list_any (λ k. is_eq (slice_cmp nat_cmp q k.now))) e

-- a name that is found is one of them
pub has_one : (set : BTreeSet (Bor (List ℕ))) (names : List (List ℕ)) (name : Bor (List ℕ)) (added : Bool) → HasNames set names → added ≡ not (contains (λ a b. slice_cmp nat_cmp a.now b.now) set name) → is_one_of names name.now ≡ not added
has_one set names name added h e = sym (h name.now) ∙ (sym (not_not (contains (λ a b. slice_cmp nat_cmp a.now b.now) set name)) ∙ ap not (sym e))
  where
    not_not : (b : Bool) → not (not b) ≡ b
    not_not true = refl
    not_not false = refl

-- one name more
pub has_more : (set more : BTreeSet (Bor (List ℕ))) (names : List (List ℕ)) (name : Bor (List ℕ)) → HasNames set names → Updates (λ a b. slice_cmp nat_cmp a.now b.now) set more name true → HasNames more (names ++ (name.now ∷ []))
has_more set more names name h u = λ q.
    u.0 (record { ref_ptr = (0, 0); now = q })
    ∙ (ap (λ b. cond b true (contains_by (λ k. slice_cmp nat_cmp q k.now) set)) (is_eq-slice_cmp name.now q ∙ eq_turn name.now q)
    ∙ (ap (cond (bytes_eq q name.now) true) (h q)
    ∙ (pick (bytes_eq q name.now) (is_one_of names q)
    ∙ sym (list_any-append (bytes_eq q) names (name.now ∷ [])))))
  where
    pick : (a b : Bool) → cond a true b ≡ (b || (a || false))
    pick true true = refl
    pick true false = refl
    pick false true = refl
    pick false false = refl

-- a name that wasn't taken is read
module _ (names : List (List ℕ)) (ts : Tokens) (name : List ℕ) (next : name_at ts ≡ Some name) where
  pub name_new : is_one_of names name ≡ false → new_name names ts ≡ Some (name, drop 1 ts)
  name_new e = ap (λ o. onward o (λ n. if is_one_of names n then None else Some (n, drop 1 ts))) next ∙ ap (λ b. if b then None else Some (name, drop 1 ts)) e

pub named_more : {A : Type 0} (ps qs : List (Bor (List ℕ) × A)) (n : Bor (List ℕ)) (a : A) → qs ≡ ps ++ ((n, a) ∷ []) → named qs ≡ named ps ++ ((n.now, a) ∷ [])
named_more ps qs n a e = ap named e ∙ map_more (λ f. (f.0.now, f.1)) ps (n, a)

pub texts_more : (ps qs : List (Bor (List ℕ))) (n : Bor (List ℕ)) → qs ≡ ps ++ (n ∷ []) → texts qs ≡ texts ps ++ (n.now ∷ [])
texts_more ps qs n e = ap texts e ∙ map_more (λ m. m.now) ps n

-- the set has the names of what was added to
module _ (set : BTreeSet (Bor (List ℕ))) (n : Bor (List ℕ)) where
  pub has_texts : (ps qs : List (Bor (List ℕ))) → qs ≡ ps ++ (n ∷ []) → HasNames set (texts ps ++ (n.now ∷ [])) → HasNames set (texts qs)
  has_texts ps qs e h = subst (HasNames set) (sym (texts_more ps qs n e)) h

  pub has_part_names : {A : Type 0} (a : A) (ps qs : List (Bor (List ℕ) × A)) → qs ≡ ps ++ ((n, a) ∷ []) → HasNames set (part_names (named ps) ++ (n.now ∷ [])) → HasNames set (part_names (named qs))
  has_part_names a ps qs e h = subst (HasNames set) (sym (ap part_names (named_more ps qs n a e) ∙ map_more (λ p. p.0) (named ps) (n.now, a))) h

-- ---- a field, or a case, step by step

module _ (read : Reads) (seen : List (List ℕ × TypeTree)) (ts : Tokens) where
  pub field_named : (n : List ℕ) (m : Tokens) → new_name (part_names seen) ts ≡ Some (n, m) → field_part read seen ts ≡ onward (after (codes ":") m) (λ l. onward (read l) (λ b. Some ((n, b.0), b.1)))
  field_named n m e = ap (λ o. onward o (λ a. onward (after (codes ":") a.1) (λ m. onward (read m) (λ b. Some ((a.0, b.0), b.1))))) e

  pub field_typed : (n : List ℕ) (m l : Tokens) → new_name (part_names seen) ts ≡ Some (n, m) → after (codes ":") m ≡ Some l → field_part read seen ts ≡ onward (read l) (λ b. Some ((n, b.0), b.1))
  field_typed n m l e c = field_named n m e ∙ ap (λ o. onward o (λ l. onward (read l) (λ b. Some ((n, b.0), b.1)))) c

  pub field_read : (n : List ℕ) (m l r : Tokens) (T : TypeTree) → new_name (part_names seen) ts ≡ Some (n, m) → after (codes ":") m ≡ Some l → read l ≡ Some (T, r) → field_part read seen ts ≡ Some ((n, T), r)
  field_read n m l r T e c t = field_typed n m l e c ∙ ap (λ o. onward o (λ b. Some ((n, b.0), b.1))) t

module _ (read : Reads) (seen : List (List ℕ × Option TypeTree)) (ts : Tokens) where
  pub case_named : (n : List ℕ) (m : Tokens) → new_name (part_names seen) ts ≡ Some (n, m) → case_part read seen ts ≡ onward (payload_read read m (after (codes "(") m)) (λ b. Some ((n, b.0), b.1))
  case_named n m e = ap (λ o. onward o (λ a. onward (payload_read read a.1 (after (codes "(") a.1)) (λ b. Some ((a.0, b.0), b.1)))) e

  pub case_read : (n : List ℕ) (m r : Tokens) (P : Option TypeTree) → new_name (part_names seen) ts ≡ Some (n, m) → payload_read read m (after (codes "(") m) ≡ Some (P, r) → case_part read seen ts ≡ Some ((n, P), r)
  case_read n m r P e p = case_named n m e ∙ ap (λ o. onward o (λ b. Some ((n, b.0), b.1))) p

-- ---- loops

module _ {A : Type 0} (part : List A → Tokens → Option (A × Tokens)) (mark : List ℕ) where
  -- of n parts at most, the one at i
  unrolled : (n i : ℕ) (seen : List A) (ts : Tokens) → i < n → parts part mark (n - i) seen ts ≡ onward (part seen ts) (λ a. or_else (with (seen ++ (a.0 ∷ [])) (closed mark a.1)) (onward (after (codes ",") a.1) (parts part mark (n - (i + 1)) (seen ++ (a.0 ∷ [])))))
  unrolled n i seen ts h =
      let one : n - i ≡ suc (n - (i + 1)) = omega arith in
      ap (λ k. parts part mark k seen ts) one

  module _ (n i : ℕ) (seen : List A) (ts : Tokens) (all : Option (List A × Tokens)) (h : i < n) (known : parts part mark (n - i) seen ts ≡ all) where
    there : (a : A × Tokens) → part seen ts ≡ Some a → all ≡ or_else (with (seen ++ (a.0 ∷ [])) (closed mark a.1)) (onward (after (codes ",") a.1) (parts part mark (n - (i + 1)) (seen ++ (a.0 ∷ []))))
    there a e = sym known ∙ (unrolled n i seen ts h ∙ ap (λ o. onward o (λ a. or_else (with (seen ++ (a.0 ∷ [])) (closed mark a.1)) (onward (after (codes ",") a.1) (parts part mark (n - (i + 1)) (seen ++ (a.0 ∷ [])))))) e)

    pub part_ends : (a : A) (m r : Tokens) → part seen ts ≡ Some (a, m) → closed mark m ≡ Some r → all ≡ Some (seen ++ (a ∷ []), r)
    part_ends a m r e c = there (a, m) e ∙ ap (λ o. or_else (with (seen ++ (a ∷ [])) o) (onward (after (codes ",") m) (parts part mark (n - (i + 1)) (seen ++ (a ∷ []))))) c

    goes_on : (a : A) (m : Tokens) → part seen ts ≡ Some (a, m) → closed mark m ≡ None → all ≡ onward (after (codes ",") m) (parts part mark (n - (i + 1)) (seen ++ (a ∷ [])))
    goes_on a m e c = there (a, m) e ∙ ap (λ o. or_else (with (seen ++ (a ∷ [])) o) (onward (after (codes ",") m) (parts part mark (n - (i + 1)) (seen ++ (a ∷ []))))) c

    pub part_behind : (a : A) (m r : Tokens) → part seen ts ≡ Some (a, m) → closed mark m ≡ None → after (codes ",") m ≡ Some r → parts part mark (n - (i + 1)) (seen ++ (a ∷ [])) r ≡ all
    part_behind a m r e c f = sym (goes_on a m e c ∙ ap (λ o. onward o (parts part mark (n - (i + 1)) (seen ++ (a ∷ [])))) f)

-- ---- what the reader's functions say

-- the types inside have one level less
pub level_less : (n : ℕ) (ts m : Tokens) (kind : WasmTypeKind) → 0 < n → kind_at ts ≡ Some (kind, m) → type_read n ts ≡ kind_read (type_read (n - 1)) kind m
level_less zero ts m kind h e = absurd (omega arith)
level_less (suc n) ts m kind h e =
    let one : suc n - 1 ≡ n = omega arith in
    ap (λ o. onward o (λ k. kind_read (type_read n) k.0 k.1)) e ∙ ap (λ k. kind_read (type_read k) kind m) (sym one)
