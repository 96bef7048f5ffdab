-- Names that are kept, each once.
use Rattle.std.proofs.Common.{rules, Bor, append_assoc, ℕ, ◌≡◌, Bool, true, false, not, ◌||◌, List, [], ◌∷◌, ◌++◌, cond, refl, sym, ap, subst, ◌∙◌}
use Rattle.std.specs.Prelude.{filter}
use Rattle.std.specs.List.{list_any}
use Rattle.std.specs.Str.{bytes_eq}
use Rattle.std.proofs.lemmas.Bool.{false_from_ne_true}
use Rattle.std.proofs.lemmas.List.Elements.{filter-append}
use Rattle.std.proofs.lemmas.Slice.Eq.{bytes_eq-Decides}
use Rattle.std.proofs.lemmas.List.{map-append}
use Rattle.wave_wasm.specs.Names.{is_one_of}
use Rattle.wave_wasm.specs.Borrowed.{texts}
use Rattle.wave_example_settings.specs.Joins.{each_once}

turned : (x n : List ℕ) (b : Bool) → bytes_eq x n ≡ b → bytes_eq n x ≡ b
turned x n true e = (bytes_eq-Decides n x).1 (sym ((bytes_eq-Decides x n).0 e))
turned x n false e = false_from_ne_true (bytes_eq n x) (λ t. by ((bytes_eq-Decides x n).1 (sym ((bytes_eq-Decides n x).0 t))))
  where
    by : bytes_eq x n ≡ true → ⊥
    by t = cc (sym e ∙ t)

-- the names, and this one where it is none of them
abbrev and_name : List (List ℕ) → List ℕ → List (List ℕ)
and_name names n = cond (is_one_of names n) names (names ++ n ∷ [])

abbrev others : List ℕ → List (List ℕ) → List (List ℕ)
others x ns = filter (λ m. not (bytes_eq x m)) ns

others_more : (x n : List ℕ) (ns : List (List ℕ)) → others x (ns ++ n ∷ []) ≡ others x ns ++ others x (n ∷ [])
others_more x n ns = filter-append (λ m. not (bytes_eq x m)) ns (n ∷ [])

any_other : (x n : List ℕ) (ns : List (List ℕ)) → bytes_eq n x ≡ false → is_one_of (others x ns) n ≡ is_one_of ns n
any_other x n [] e = refl
any_other x n (m ∷ ns) e = by (bytes_eq x m) refl (any_other x n ns e)
  where
    by : (b : Bool) → bytes_eq x m ≡ b → is_one_of (others x ns) n ≡ is_one_of ns n → is_one_of (cond (not b) (m ∷ others x ns) (others x ns)) n ≡ (bytes_eq n m || is_one_of ns n)
    by true is same = same ∙ sym (ap (λ c. c || is_one_of ns n) (subst (λ k. bytes_eq n k ≡ false) ((bytes_eq-Decides x m).0 is) e))
    by false is same = ap (λ c. bytes_eq n m || c) same

name_behind : (x n : List ℕ) (ns : List (List ℕ)) → x ∷ others x (and_name ns n) ≡ and_name (x ∷ others x ns) n
name_behind x n ns = by (bytes_eq x n) (is_one_of ns n) refl refl
  where
    by : (b a : Bool) → bytes_eq x n ≡ b → is_one_of ns n ≡ a → x ∷ others x (and_name ns n) ≡ and_name (x ∷ others x ns) n
    by true true same one = rw (turned x n true same) (rw one refl)
    by true false same one = rw (turned x n true same) (rw one (ap (λ ms. x ∷ ms) (rw (others_more x n ns) (rw same (search (rules))))))
    by false true same one = rw (turned x n false same) (rw (any_other x n ns (turned x n false same)) (rw one refl))
    by false false same one = rw (turned x n false same) (rw (any_other x n ns (turned x n false same)) (rw one (rw (others_more x n ns) (rw same refl))))

-- one name more
pub once_more : (ns : List (List ℕ)) (n : List ℕ) → each_once (ns ++ n ∷ []) ≡ and_name (each_once ns) n
once_more [] n = refl
once_more (x ∷ ns) n = ap (λ ms. x ∷ others x ms) (once_more ns n) ∙ name_behind x n (each_once ns)

-- ---- at a turn of the loop

tested : (names : List (Bor (List ℕ))) (n : List ℕ) → list_any (λ y. bytes_eq y.now n) names ≡ is_one_of (texts names) n
tested [] n = refl
tested (m ∷ names) n = ap (λ b. b || list_any (λ y. bytes_eq y.now n) names) (sym (turned m.now n (bytes_eq m.now n) refl)) ∙ ap (λ b. bytes_eq n m.now || b) (tested names n)

module _ (before : List (List ℕ)) (yielded : List (Bor (List ℕ))) (name : Bor (List ℕ)) (names : List (Bor (List ℕ))) where
  more : each_once (before ++ texts (yielded ++ name ∷ [])) ≡ and_name (each_once (before ++ texts yielded)) name.now
  more = ap (λ ns. each_once (before ++ ns)) (map-append (λ n. n.now) yielded (name ∷ [])) ∙ (ap each_once (sym (append_assoc before (texts yielded) (name.now ∷ []))) ∙ once_more (before ++ texts yielded) name.now)

  -- a name that isn't there yet
  pub kept : (new there : List (Bor (List ℕ))) (found : Bool) → texts names ≡ each_once (before ++ texts yielded) → there ≡ names → found ≡ list_any (λ y. bytes_eq y.now name.now) there → found ≡ false → new ≡ names ++ name ∷ [] → texts new ≡ each_once (before ++ texts (yielded ++ name ∷ []))
  kept new there found so same test none pushed =
      let absent : is_one_of (each_once (before ++ texts yielded)) name.now ≡ false = ap (λ ns. is_one_of ns name.now) (sym so) ∙ (sym (tested names name.now) ∙ (ap (λ ns. list_any (λ y. bytes_eq y.now name.now) ns) (sym same) ∙ (sym test ∙ none))) in
      ap texts pushed ∙ (map-append (λ n. n.now) names (name ∷ []) ∙ (ap (λ ns. ns ++ name.now ∷ []) so ∙ sym (more ∙ rw absent refl)))

  -- a name that is there
  pub known : (there : List (Bor (List ℕ))) (found : Bool) → texts names ≡ each_once (before ++ texts yielded) → there ≡ names → found ≡ list_any (λ y. bytes_eq y.now name.now) there → found ≡ true → texts names ≡ each_once (before ++ texts (yielded ++ name ∷ []))
  known there found so same test one =
      let present : is_one_of (each_once (before ++ texts yielded)) name.now ≡ true = ap (λ ns. is_one_of ns name.now) (sym so) ∙ (sym (tested names name.now) ∙ (ap (λ ns. list_any (λ y. bytes_eq y.now name.now) ns) (sym same) ∙ (sym test ∙ one))) in
      so ∙ sym (more ∙ rw present refl)
