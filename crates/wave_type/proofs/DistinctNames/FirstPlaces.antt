-- Where each name of a list stands first.
use Rattle.std.proofs.Common.{◌≡◌, ℕ, ◌+◌, ◌<◌, Bool, true, false, cond, if◌then◌else◌, List, [], ◌∷◌, ◌++◌, map, length, get_or, take, Option, Some, None, refl, sym, ap, ◌∙◌, arith}
use Rattle.std.specs.Option.{is_some}
use Rattle.std.specs.List.{position, position_from}
use Rattle.std.specs.Str.{bytes_eq}
use Rattle.std.proofs.lemmas.Bool.{false_from_ne_true}
use Rattle.std.proofs.lemmas.Iterator.Adapters.{position_from-zero}
use Rattle.std.proofs.lemmas.List.{take_more, get_or-map, length-map, length-take-le}
use Rattle.std.proofs.lemmas.Slice.Eq.{bytes_eq-Decides}

-- the first place among some, or else another
abbrev first_or : Option ℕ → Option ℕ → Option ℕ
first_or None o = o
first_or (Some k) o = Some k

by_bool : (P : Bool → Type 0) (b : Bool) → P true → P false → P b
by_bool P true t f = t
by_bool P false t f = f

from_push : (t : List ℕ → Bool) (i : ℕ) (ns : List (List ℕ)) (n : List ℕ) → position_from t i (ns ++ n ∷ []) ≡ first_or (position_from t i ns) (cond (t n) (Some (i + length ns)) None)
from_push t i [] n = let e : i ≡ i + 0 = omega arith in ap (λ k. cond (t n) (Some k) None) e
from_push t i (m ∷ ns) n =
    let e : i + 1 + length ns ≡ i + length (m ∷ ns) = omega arith in
    let more : position_from t (i + 1) (ns ++ n ∷ []) ≡ first_or (position_from t (i + 1) ns) (cond (t n) (Some (i + length (m ∷ ns))) None) = from_push t (i + 1) ns n ∙ ap (λ k. first_or (position_from t (i + 1) ns) (cond (t n) (Some k) None)) e in
    by_bool (λ b. cond b (Some i) (position_from t (i + 1) (ns ++ n ∷ [])) ≡ first_or (cond b (Some i) (position_from t (i + 1) ns)) (cond (t n) (Some (i + length (m ∷ ns))) None)) (t m) refl more

-- one name more stands first at the end, if it stands nowhere before
position_push : (t : List ℕ → Bool) (ns : List (List ℕ)) (n : List ℕ) → position t (ns ++ n ∷ []) ≡ first_or (position t ns) (cond (t n) (Some (length ns)) None)
position_push t ns n =
    position_from-zero t (ns ++ n ∷ []) ∙ (from_push t 0 ns n ∙ (ap (λ o. first_or o (cond (t n) (Some (0 + length ns)) None)) (sym (position_from-zero t ns)) ∙ (let e : 0 + length ns ≡ length ns = omega arith in ap (λ k. first_or (position t ns) (cond (t n) (Some k) None)) e)))

module _ (get : List ℕ → Option ℕ) (ns : List (List ℕ)) (n : List ℕ) (is : (q : List ℕ) → get q ≡ position (bytes_eq q) ns) where
  -- a name that stands before is no first one
  first_stays : is_some (get n) ≡ true → (q : List ℕ) → get q ≡ position (bytes_eq q) (ns ++ n ∷ [])
  first_stays there q = is q ∙ (kept (position (bytes_eq q) ns) refl ∙ sym (position_push (bytes_eq q) ns n))
    where
      other : position (bytes_eq q) ns ≡ None → bytes_eq q n ≡ false
      other none = false_from_ne_true (bytes_eq q n) (λ e. let absent : get n ≡ None = sym (ap get ((bytes_eq-Decides q n).0 e)) ∙ (is q ∙ none) in let no : false ≡ true = sym (ap is_some absent) ∙ there in cc)

      kept : (o : Option ℕ) → position (bytes_eq q) ns ≡ o → position (bytes_eq q) ns ≡ first_or (position (bytes_eq q) ns) (cond (bytes_eq q n) (Some (length ns)) None)
      kept None e = rw e (rw (other e) refl)
      kept (Some j) e = rw e refl

  -- a new name stands first at the end
  first_more : (more : List ℕ → Option ℕ) (i : ℕ) → i ≡ length ns → is_some (get n) ≡ false → ((q : List ℕ) → more q ≡ (if bytes_eq n q then Some i else get q)) → (q : List ℕ) → more q ≡ position (bytes_eq q) (ns ++ n ∷ [])
  first_more more i long absent updates q = updates q ∙ (by_test (bytes_eq n q) refl ∙ sym (position_push (bytes_eq q) ns n))
    where
      nothing : (o : Option ℕ) → is_some o ≡ false → o ≡ None
      nothing None e = refl
      nothing (Some k) e = cc

      none : get n ≡ None
      none = nothing (get n) absent

      turned : (b : Bool) → bytes_eq n q ≡ b → bytes_eq q n ≡ b
      turned true e = (bytes_eq-Decides q n).1 (sym ((bytes_eq-Decides n q).0 e))
      turned false e = false_from_ne_true (bytes_eq q n) (λ f. let g : bytes_eq n q ≡ true = (bytes_eq-Decides n q).1 (sym ((bytes_eq-Decides q n).0 f)) in cc)

      nowhere : bytes_eq n q ≡ true → position (bytes_eq q) ns ≡ None
      nowhere e = sym (is q) ∙ (ap get (sym ((bytes_eq-Decides n q).0 e)) ∙ none)

      kept : (o : Option ℕ) → o ≡ first_or o None
      kept None = refl
      kept (Some j) = refl

      by_test : (b : Bool) → bytes_eq n q ≡ b → (if b then Some i else get q) ≡ first_or (position (bytes_eq q) ns) (cond (bytes_eq q n) (Some (length ns)) None)
      by_test true e = rw (nowhere e) (rw (turned true e) (ap Some long))
      by_test false e = rw (turned false e) (is q ∙ kept (position (bytes_eq q) ns))

module _ {A : Type 0} (name_of : A → List ℕ) where
  -- the first i + 1 names
  names_more : (xs : List A) (i : ℕ) (x : A) → i < length xs → x ≡ get_or xs i x → take (i + 1) (map name_of xs) ≡ take i (map name_of xs) ++ name_of x ∷ []
  names_more xs i x lt is =
      let same : length (map name_of xs) ≡ length xs = length-map xs name_of in
      let long : i < length (map name_of xs) = omega (arith, same, lt) in
      take_more (map name_of xs) i (name_of x) long ∙ ap (λ n. take i (map name_of xs) ++ n ∷ []) (get_or-map name_of xs i x (name_of x) lt ∙ ap name_of (sym is))

  module _ (xs : List A) (i : ℕ) (x : A) (n : List ℕ) (lt : i < length xs) (is : x ≡ get_or xs i x) (called : n ≡ name_of x) (get : List ℕ → Option ℕ) (before : (q : List ℕ) → get q ≡ position (bytes_eq q) (take i (map name_of xs))) where
    one_more : take (i + 1) (map name_of xs) ≡ take i (map name_of xs) ++ n ∷ []
    one_more = names_more xs i x lt is ∙ ap (λ m. take i (map name_of xs) ++ m ∷ []) (sym called)

    -- a name that was found stands first where it was found
    pub index_stays : is_some (get n) ≡ true → (q : List ℕ) → get q ≡ position (bytes_eq q) (take (i + 1) (map name_of xs))
    index_stays there q = first_stays get (take i (map name_of xs)) n before there q ∙ ap (position (bytes_eq q)) (sym one_more)

    -- one that wasn't stands first here
    pub index_more : (more : List ℕ → Option ℕ) (s : List ℕ) → s ≡ n → is_some (get n) ≡ false → ((q : List ℕ) → more q ≡ (if bytes_eq s q then Some i else get q)) → (q : List ℕ) → more q ≡ position (bytes_eq q) (take (i + 1) (map name_of xs))
    index_more more s same absent updates q =
        let all : length (map name_of xs) ≡ length xs = length-map xs name_of in
        let long : length (take i (map name_of xs)) ≡ i = length-take-le i (map name_of xs) (omega (arith, all, lt)) in
        first_more get (take i (map name_of xs)) n before more i (sym long) absent (λ r. updates r ∙ ap (λ t. if bytes_eq t r then Some i else get r) same) q ∙ ap (position (bytes_eq q)) (sym one_more)
