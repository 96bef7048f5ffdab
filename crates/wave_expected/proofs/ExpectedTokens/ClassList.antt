-- The classes that pass a test, in their order.
use Rattle.std.proofs.Common.{ℕ, ◌≡◌, ◌<◌, ◌≤◌, ◌+◌, inl, inr, List, [], ◌∷◌, ◌++◌, length, take, get_or, Bool, true, false, refl, sym, ap, subst, ◌∙◌, arith}
use Rattle.std.specs.Prelude.{◌⊎◌, ◌↔◌, cond, Contains}
use Rattle.std.specs.List.{filter}
use Rattle.std.proofs.lemmas.List.{take_all, append-nil}
use Rattle.std.proofs.lemmas.List.Elements.{All-contains, filter_passes, filter_more, Contains-append_left, Contains-append_right, Contains-append_cases, Contains-push_cases}
use Rattle.wave_lex.specs.declared.lex.Token as lex
use Rattle.wave_lex.specs.declared.lex.Token.TheVariants.{BraceOpen, BraceClose, ParenOpen, ParenClose, BracketOpen, BracketClose}
use Rattle.wave_lex.specs.declared.lex.Token.TheVariants.{Colon, Comma, Number, LabelOrKeyword, Char, String, MultilineString}
use Rattle.wave_expected.specs.Expected.{every_class}

-- ---- one more class

-- those that pass, with one more class
more : (test : lex.Token → Bool) (all : List lex.Token) (i : ℕ) (d : lex.Token) (b : Bool) → i < length all → test (get_or all i d) ≡ b →
    filter test (take (i + 1) all) ≡ filter test (take i all) ++ cond b (get_or all i d ∷ []) []
more test all i d b l e = filter_more test all i d l ∙ ap (λ z. filter test (take i all) ++ cond z (get_or all i d ∷ []) []) e

-- it is left out
pub class_left : (test : lex.Token → Bool) (all taken : List lex.Token) (i : ℕ) (d : lex.Token) → i < length all → test (get_or all i d) ≡ false → taken ≡ filter test (take i all) → taken ≡ filter test (take (i + 1) all)
class_left test all taken i d l e h = h ∙ (sym (append-nil (filter test (take i all))) ∙ sym (more test all i d false l e))

-- it is added
pub class_added : (test : lex.Token → Bool) (all taken new : List lex.Token) (i : ℕ) (d : lex.Token) → i < length all → test (get_or all i d) ≡ true → taken ≡ filter test (take i all) → new ≡ taken ++ get_or all i d ∷ [] →
    new ≡ filter test (take (i + 1) all)
class_added test all taken new i d l e h push = push ∙ (ap (λ z. z ++ get_or all i d ∷ []) h ∙ sym (more test all i d true l e))

-- all are tried
pub all_tried : (test : lex.Token → Bool) (all taken : List lex.Token) (i : ℕ) → length all ≤ i → taken ≡ filter test (take i all) → taken ≡ filter test all
all_tried test all taken i l h = h ∙ ap (filter test) (take_all i all l)

-- ---- which classes are kept

none_contained : (c : lex.Token) → Contains [] c → ⊥
none_contained c (k, l, e) = omega arith

kept : (test : lex.Token → Bool) (c : lex.Token) → test c ≡ true → (xs : List lex.Token) → Contains xs c → Contains (filter test xs) c
kept test c t [] h = absurd (none_contained c h)
kept test c t (x ∷ xs) h = by (λ k. kept test c t xs k) (Contains-append_cases (x ∷ []) xs c h)
  where
    first : Contains [] c ⊎ (x ≡ c) → Contains (x ∷ []) c → Contains (filter test (x ∷ xs)) c
    first (inl k) one = absurd (none_contained c k)
    first (inr e) one = subst (λ b. Contains (cond b (x ∷ filter test xs) (filter test xs)) c) (sym (ap test e ∙ t)) (Contains-append_left (x ∷ []) (filter test xs) c one)

    later : (b : Bool) → Contains (filter test xs) c → Contains (cond b (x ∷ filter test xs) (filter test xs)) c
    later true k = Contains-append_right (x ∷ []) (filter test xs) c k
    later false k = k

    by : (Contains xs c → Contains (filter test xs) c) → Contains (x ∷ []) c ⊎ Contains xs c → Contains (filter test (x ∷ xs)) c
    by others (inl one) = first (Contains-push_cases [] x c one) one
    by others (inr k) = later (test x) (others k)

pub every_contains : (c : lex.Token) → Contains every_class c
every_contains BraceOpen = (0, omega arith, refl)
every_contains BraceClose = (1, omega arith, refl)
every_contains ParenOpen = (2, omega arith, refl)
every_contains ParenClose = (3, omega arith, refl)
every_contains BracketOpen = (4, omega arith, refl)
every_contains BracketClose = (5, omega arith, refl)
every_contains Colon = (6, omega arith, refl)
every_contains Comma = (7, omega arith, refl)
every_contains Number = (8, omega arith, refl)
every_contains LabelOrKeyword = (9, omega arith, refl)
every_contains Char = (10, omega arith, refl)
every_contains String = (11, omega arith, refl)
every_contains MultilineString = (12, omega arith, refl)

-- those that pass are in the list, and no others
pub those_pass : (test : lex.Token → Bool) (all : List lex.Token) → ((c : lex.Token) → Contains all c) → (taken : List lex.Token) → taken ≡ filter test all → (c : lex.Token) → Contains taken c ↔ (test c ≡ true)
those_pass test all each taken h c = (
  λ k. All-contains (λ x. test x ≡ true) (filter test all) c (filter_passes test all) (subst (λ z. Contains z c) h k),
  λ t. subst (λ z. Contains z c) (sym h) (kept test c t all (each c)),
)
