-- The first scalar of a token determines its class.
use Rattle.std.proofs.Common.{◌≡◌, ℕ, ◌≤◌, ◌<◌, ◌≢◌, get_or, Bool, true, false, nat_eq, List, [], ◌∷◌, ◌++◌, inl, inr, refl, sym, ap, subst, ◌∙◌, length, take, drop, arith, Option, Some, None, append_assoc, length-take-le}
use Rattle.std.specs.Prelude.{◌||◌, encode_utf8, encode_utf8_all, if◌then◌else◌}
use Rattle.std.proofs.lemmas.Bool.{cases_lt, eqb-true, or_cases}
use Rattle.std.proofs.lemmas.List.{take-append-drop}
use Rattle.std.proofs.lemmas.Str.{encode_same}
use Rattle.wave_lex.specs.declared.lex.Token.{Token}
use Rattle.wave_lex.specs.declared.lex.Token.TheVariants.{BraceOpen, BraceClose, ParenOpen, ParenClose, BracketOpen, BracketClose, Colon, Comma, Number, LabelOrKeyword, Char, String, MultilineString}
use Rattle.wave_lex.specs.Regex.{Regex, nothing, Matches}
use Rattle.wave_lex.specs.Derive.{nullable, derivative}
use Rattle.wave_lex.specs.Tokens.{shape, word, string}
use Rattle.wave_lex.specs.Tokenization.{three_quotes, MayStandAt, IsToken}
use Rattle.wave_lex.specs.Classes.{class_of, ClassAt}
use Rattle.wave_lex.proofs.RegularShapes.Derivatives.{after_into, empty_into}
use Rattle.wave_lex.proofs.RegularShapes.Comparisons.{same, same_true, each_below, each_below_at, is_ascii_shape, after_past, one_is}

-- a number for each class
abbrev number_of : Token → ℕ
number_of BraceOpen = 0
number_of BraceClose = 1
number_of ParenOpen = 2
number_of ParenClose = 3
number_of BracketOpen = 4
number_of BracketClose = 5
number_of Colon = 6
number_of Comma = 7
number_of Number = 8
number_of LabelOrKeyword = 9
number_of Char = 10
number_of String = 11
number_of MultilineString = 12

-- the class of a number
abbrev of_number : ℕ → Token
of_number n =
    if nat_eq n 0 then BraceOpen else (if nat_eq n 1 then BraceClose else (if nat_eq n 2 then ParenOpen else (if nat_eq n 3 then ParenClose
    else (if nat_eq n 4 then BracketOpen else (if nat_eq n 5 then BracketClose else (if nat_eq n 6 then Colon else (if nat_eq n 7 then Comma
    else (if nat_eq n 8 then Number else (if nat_eq n 9 then LabelOrKeyword else (if nat_eq n 10 then Char else (if nat_eq n 11 then String else MultilineString)))))))))))

-- a class is the class of its number
of_number_of : (t : Token) → of_number (number_of t) ≡ t
of_number_of BraceOpen = refl
of_number_of BraceClose = refl
of_number_of ParenOpen = refl
of_number_of ParenClose = refl
of_number_of BracketOpen = refl
of_number_of BracketClose = refl
of_number_of Colon = refl
of_number_of Comma = refl
of_number_of Number = refl
of_number_of LabelOrKeyword = refl
of_number_of Char = refl
of_number_of String = refl
of_number_of MultilineString = refl

-- the two kinds of strings begin alike
abbrev pub group : Token → Token
group MultilineString = String
group t = t

-- the first scalar shows this class
abbrev pub shows : Option Token → Token → Bool
shows None t = false
shows (Some u) t = nat_eq (number_of u) (number_of t)

-- what the test shows is so
pub shows_true : (o : Option Token) (t : Token) → shows o t ≡ true → o ≡ Some t
shows_true None t e = cc
shows_true (Some u) t e = ap Some (sym (of_number_of u) ∙ (ap of_number (eqb-true (number_of u) (number_of t) e) ∙ of_number_of t))

-- what begins a text of the class shows its class
abbrev begins_right : Token → ℕ → Bool
begins_right d x = same (derivative x (shape d)) nothing || shows (class_of x) (group d)

-- the first scalars of each class, by computing
begins_computed : (d : Token) → (each_below 129 (begins_right d) ≡ true) × (is_ascii_shape (shape d) ≡ true) × (same (derivative 128 (shape d)) nothing ≡ true) × (nullable (shape d) ≡ false)
begins_computed BraceOpen = (refl, refl, refl, refl)
begins_computed BraceClose = (refl, refl, refl, refl)
begins_computed ParenOpen = (refl, refl, refl, refl)
begins_computed ParenClose = (refl, refl, refl, refl)
begins_computed BracketOpen = (refl, refl, refl, refl)
begins_computed BracketClose = (refl, refl, refl, refl)
begins_computed Colon = (refl, refl, refl, refl)
begins_computed Comma = (refl, refl, refl, refl)
begins_computed Number = (refl, refl, refl, refl)
begins_computed LabelOrKeyword = (refl, refl, refl, refl)
begins_computed Char = (refl, refl, refl, refl)
begins_computed String = (refl, refl, refl, refl)
begins_computed MultilineString = (refl, refl, refl, refl)

-- no class has the empty text
pub shape_not_empty : (d : Token) → nullable (shape d) ≡ false
shape_not_empty d = (begins_computed d).3

-- the first scalar of a text of a class shows the class
class_shown : (d : Token) (x : ℕ) (ds : List ℕ) → Matches (derivative x (shape d)) ds → class_of x ≡ Some (group d)
class_shown d x ds h =
    let w = begins_computed d in
    elim (cases_lt x 129) as (λ _. class_of x ≡ Some (group d)) [
      | inl l ↦ elim (or_cases (same (derivative x (shape d)) nothing) (shows (class_of x) (group d)) (each_below_at 129 x (begins_right d) w.0 l)) as (λ _. class_of x ≡ Some (group d)) [
        | inl e ↦ absurd (subst (λ (z : Regex). Matches z ds) (same_true _ _ e) h)
        | inr e ↦ shows_true _ _ e
      ]
      | inr l ↦ let m : 128 ≤ x = omega arith in
          let n : 128 ≤ 128 = omega arith in
          absurd (subst (λ (z : Regex). Matches z ds) (after_past (shape d) x 128 w.1 m n ∙ same_true _ _ w.2) h)
    ]

-- a prefix that isn't empty begins with the first scalar
prefix_begins : (p : Regex) (r cs rest : List ℕ) (k x : ℕ) → nullable p ≡ false → r ≡ encode_utf8 x ++ rest
    → encode_utf8_all cs ≡ take k r → Matches p cs → (ds : List ℕ) × (cs ≡ x ∷ ds)
prefix_begins p r [] rest k x f b e h = let wrong : false ≡ true = sym f ∙ empty_into p h in cc
prefix_begins p r (y ∷ ds) rest k x f b e h =
    let whole : encode_utf8 y ++ (encode_utf8_all ds ++ drop k r) ≡ encode_utf8 x ++ rest =
    sym (append_assoc (encode_utf8 y) (encode_utf8_all ds) (drop k r)) ∙ (ap (λ (z : List ℕ). z ++ drop k r) e ∙ (take-append-drop k r ∙ b)) in
    let s = encode_same y x (encode_utf8_all ds ++ drop k r) rest whole in
    (ds, ap (λ (z : ℕ). z ∷ ds) s.0)

-- the first scalar of a token shows its class
pub token_shows : (r rest : List ℕ) (k x : ℕ) (d : Token) → r ≡ encode_utf8 x ++ rest → IsToken r k d → class_of x ≡ Some (group d)
token_shows r rest k x d b t =
    let w = begins_computed d in
    let f = prefix_begins (shape d) r t.0.scalars rest k x w.3 b t.0.spelled t.0.has in
    class_shown d x f.0 (after_into x (shape d) f.0 (subst (λ (z : List ℕ). Matches (shape d) z) f.1 t.0.has))

-- a text of the shape of a word is the word
word_is : (w x : List ℕ) → Matches (word w) x → x ≡ w
word_is [] x h = h
word_is (c ∷ w) x (a, b, e, (d, ed, td), hb) =
    let i : c ≡ d = sym (one_is c d td) in
    let j : b ≡ w = word_is w b hb in cc

-- a multiline token begins with three quotes
pub multiline_begins : (r : List ℕ) (k : ℕ) → IsToken r k MultilineString → (rest : List ℕ) × (r ≡ three_quotes ++ rest)
unfolding lib.Utf8.encode
multiline_begins r k t =
    let (x, y, e, hx, hy) = t.0.has in
    let q : x ≡ three_quotes = word_is three_quotes x hx in
    let s : t.0.scalars ≡ three_quotes ++ y = e ∙ ap (λ (z : List ℕ). z ++ y) q in
    let u : three_quotes ++ encode_utf8_all y ≡ take k r = sym (ap encode_utf8_all s) ∙ t.0.spelled in
    (encode_utf8_all y ++ drop k r, sym (ap (λ (z : List ℕ). z ++ drop k r) u ∙ take-append-drop k r))

-- after two quotes nothing more of a string may follow
no_more : (r rest ds : List ℕ) (k : ℕ) → k ≤ length r → r ≡ three_quotes ++ rest → Matches (derivative 34 string) ds → 34 ∷ encode_utf8_all ds ≡ take k r
    → (k ≡ 2 → take 3 r ≢ three_quotes) → ⊥
unfolding lib.Utf8.encode
no_more r rest [] k l b h e may = let wrong : false ≡ true = empty_into (derivative 34 string) h in cc
no_more r rest (y ∷ es) k l b h e may =
    let whole : 34 ∷ (encode_utf8 y ++ (encode_utf8_all es ++ drop k r)) ≡ 34 ∷ (encode_utf8 34 ++ (34 ∷ rest)) =
    ap (λ (z : List ℕ). 34 ∷ z) (sym (append_assoc (encode_utf8 y) (encode_utf8_all es) (drop k r))) ∙ (ap (λ (z : List ℕ). z ++ drop k r) e ∙ (take-append-drop k r ∙ b)) in
    let tails : encode_utf8 y ++ (encode_utf8_all es ++ drop k r) ≡ encode_utf8 34 ++ (34 ∷ rest) = cc in
    let s = encode_same y 34 (encode_utf8_all es ++ drop k r) (34 ∷ rest) tails in
    let n : Matches (derivative y (derivative 34 string)) es = after_into y (derivative 34 string) es h in
    let m : es ≡ [] = subst (λ (z : ℕ). Matches (derivative z (derivative 34 string)) es) s.0 n in
    let two : 34 ∷ 34 ∷ [] ≡ take k r = sym (ap (λ (z : ℕ). 34 ∷ encode_utf8_all (z ∷ es)) s.0 ∙ ap (λ (z : List ℕ). 34 ∷ encode_utf8_all (34 ∷ z)) m) ∙ e in
    let long : k ≡ 2 = sym (ap length two ∙ length-take-le k r l) in
    may long (ap (λ (z : List ℕ). take 3 z) b)

-- of three quotes no two are a string
pub no_string : (r rest : List ℕ) (k : ℕ) → r ≡ three_quotes ++ rest → IsToken r k String → ⊥
unfolding lib.Utf8.encode
no_string r rest k b t =
    let f = prefix_begins string r t.0.scalars (34 ∷ 34 ∷ rest) k 34 refl b t.0.spelled t.0.has in
    no_more r rest f.0 k t.0.fits b (after_into 34 string f.0 (subst (λ (z : List ℕ). Matches string z) f.1 t.0.has)) (sym (ap encode_utf8_all f.1) ∙ t.0.spelled) t.1

-- where no three quotes stand, each token may stand
may_stand : (c : Token) (r : List ℕ) → ((rest : List ℕ) → r ≢ three_quotes ++ rest) → (k : ℕ) → MayStandAt r k c
may_stand BraceOpen r q k = tt
may_stand BraceClose r q k = tt
may_stand ParenOpen r q k = tt
may_stand ParenClose r q k = tt
may_stand BracketOpen r q k = tt
may_stand BracketClose r q k = tt
may_stand Colon r q k = tt
may_stand Comma r q k = tt
may_stand Number r q k = tt
may_stand LabelOrKeyword r q k = tt
may_stand Char r q k = tt
may_stand String r q k = λ _ e. q (drop 3 r) (sym (ap (λ (z : List ℕ). z ++ drop 3 r) (sym e) ∙ take-append-drop 3 r))
may_stand MultilineString r q k = tt

-- where no three quotes stand, the class shown is that of the token
grouped : (d c : Token) (r : List ℕ) (k : ℕ) → ((rest : List ℕ) → r ≢ three_quotes ++ rest) → IsToken r k d → Some (group d) ≡ Some c → d ≡ c
grouped BraceOpen c r k q t e = cc
grouped BraceClose c r k q t e = cc
grouped ParenOpen c r k q t e = cc
grouped ParenClose c r k q t e = cc
grouped BracketOpen c r k q t e = cc
grouped BracketClose c r k q t e = cc
grouped Colon c r k q t e = cc
grouped Comma c r k q t e = cc
grouped Number c r k q t e = cc
grouped LabelOrKeyword c r k q t e = cc
grouped Char c r k q t e = cc
grouped String c r k q t e = cc
grouped MultilineString c r k q t e = let m = multiline_begins r k t in absurd (q m.0 m.1)

-- the class at a place where no three quotes stand
pub class_here : (r rest : List ℕ) (x : ℕ) (o : Option Token) → r ≡ encode_utf8 x ++ rest → ((rest : List ℕ) → r ≢ three_quotes ++ rest) → o ≡ class_of x → ClassAt r o
class_here r rest x None b q e = λ k d t. let wrong : None ≡ Some (group d) = e ∙ token_shows r rest k x d b t in cc
class_here r rest x (Some c) b q e = (λ k d t. grouped d c r k q t (sym (token_shows r rest k x d b t) ∙ sym e), may_stand c r q)

-- no three quotes stand where another scalar does
pub not_quoted : (r rest : List ℕ) (x : ℕ) → r ≡ encode_utf8 x ++ rest → x ≢ 34 → (more : List ℕ) → r ≢ three_quotes ++ more
unfolding lib.Utf8.encode
not_quoted r rest x b n more e =
    let same : encode_utf8 x ++ rest ≡ encode_utf8 34 ++ (34 ∷ 34 ∷ more) = sym b ∙ e in
    n (encode_same x 34 rest (34 ∷ 34 ∷ more) same).0

-- at three quotes the class shown is that of strings
quoted : (d : Token) (r rest : List ℕ) (k : ℕ) → r ≡ three_quotes ++ rest → IsToken r k d → Some String ≡ Some (group d) → d ≡ MultilineString
quoted BraceOpen r rest k b t e = cc
quoted BraceClose r rest k b t e = cc
quoted ParenOpen r rest k b t e = cc
quoted ParenClose r rest k b t e = cc
quoted BracketOpen r rest k b t e = cc
quoted BracketClose r rest k b t e = cc
quoted Colon r rest k b t e = cc
quoted Comma r rest k b t e = cc
quoted Number r rest k b t e = cc
quoted LabelOrKeyword r rest k b t e = cc
quoted Char r rest k b t e = cc
quoted String r rest k b t e = absurd (no_string r rest k b t)
quoted MultilineString r rest k b t e = refl

-- at three quotes each token is a multiline string
pub class_quoted : (r rest : List ℕ) → r ≡ three_quotes ++ rest → ClassAt r (Some MultilineString)
unfolding lib.Utf8.encode
class_quoted r rest b = (λ k d t. quoted d r rest k b t (token_shows r (34 ∷ 34 ∷ rest) k 34 d b t), λ k. tt)

-- two quotes behind a first one
quoted_behind : (rest : List ℕ) → 2 < length (34 ∷ rest) → get_or (34 ∷ rest) 1 0 ≡ 34 → get_or (34 ∷ rest) 2 0 ≡ 34 → (more : List ℕ) × (34 ∷ rest ≡ three_quotes ++ more)
quoted_behind [] l a b = let w : ⊥ = omega arith in absurd w
quoted_behind (x ∷ []) l a b = let w : ⊥ = omega arith in absurd w
quoted_behind (x ∷ y ∷ more) l a b = let p : x ≡ 34 = a in let q : y ≡ 34 = b in (more, ap (λ (z : ℕ). 34 ∷ z ∷ y ∷ more) p ∙ ap (λ (z : ℕ). 34 ∷ 34 ∷ z ∷ more) q)

-- the class where the code counts three quotes
pub class_counted : (r b rest : List ℕ) (first : ℕ) → first ≡ 34 → b ≡ r → r ≡ encode_utf8 first ++ rest → 2 < length b → get_or b 1 0 ≡ 34 → get_or b 2 0 ≡ 34 → ClassAt r (Some MultilineString)
unfolding lib.Utf8.encode
class_counted r b rest first quote e f l second third =
    let at : r ≡ 34 ∷ rest = f ∙ ap (λ (z : ℕ). encode_utf8 z ++ rest) quote in
    let is : b ≡ 34 ∷ rest = e ∙ at in
    let w = quoted_behind rest (subst (λ (z : List ℕ). 2 < length z) is l) (subst (λ (z : List ℕ). get_or z 1 0 ≡ 34) is second) (subst (λ (z : List ℕ). get_or z 2 0 ≡ 34) is third) in
    class_quoted r w.0 (at ∙ w.1)

-- no three quotes stand where the code counts none
pub not_counted : (r b : List ℕ) → b ≡ r → (2 < length b → get_or b 1 0 ≡ 34 → get_or b 2 0 ≡ 34 → ⊥) → (more : List ℕ) → r ≢ three_quotes ++ more
not_counted r b e h more f =
    let is : b ≡ three_quotes ++ more = e ∙ f in
    let long : length b ≡ length (three_quotes ++ more) = ap length is in
    h (omega arith) (ap (λ (z : List ℕ). get_or z 1 0) is) (ap (λ (z : List ℕ). get_or z 2 0) is)
