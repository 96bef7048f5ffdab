-- Which strings are one run of their source.
use Rattle.std.proofs.Common.{ℕ, zero, suc, ◌≡◌, ◌≢◌, ◌≤◌, inl, inr, Bool, true, false, nat_eq, if◌then◌else◌, List, [], ◌∷◌, ◌++◌, length, refl, sym, ap, subst, ◌∙◌, arith, length-append}
use Rattle.std.proofs.lemmas.Bool.{eqb-true}
use Rattle.wave_wasm.specs.Lists.{AllOf}
use Rattle.wave_lex.specs.Remaining.{LinesLeft}
use Rattle.wave_lex.specs.Multiline.{pieces, put_first, spaces, DropsReturn, Opens}
use Rattle.wave_lex.specs.Parts.{OpensTo}
use Rattle.wave_grammar.specs.StringAssembly.{IsOneRun, IsRefusedFirst, IsUncopied}

-- no `\`
abbrev pub IsPlain : List ℕ → Type 0
IsPlain s = AllOf (λ b. b ≢ 92) s

no_backslash : (b : ℕ) → b ≤ 91 → b ≢ 92
no_backslash b l e = absurd (omega (arith, l, e))

plain_append : (x y : List ℕ) → IsPlain x → IsPlain y → IsPlain (x ++ y)
plain_append [] y h k = k
plain_append (b ∷ x) y h k = (h.0, plain_append x y h.1 k)

plain_prefix : (x y : List ℕ) → IsPlain (x ++ y) → IsPlain x
plain_prefix [] y h = tt
plain_prefix (b ∷ x) y h = (h.0, plain_prefix x y h.1)

plain_behind : (x y : List ℕ) → IsPlain (x ++ y) → IsPlain y
plain_behind [] y h = h
plain_behind (b ∷ x) y h = plain_behind x y h.1

each_append : (xs ys : List (List ℕ)) → AllOf IsPlain xs → AllOf IsPlain ys → AllOf IsPlain (xs ++ ys)
each_append [] ys h k = k
each_append (x ∷ xs) ys h k = (h.0, each_append xs ys h.1 k)

-- ---- pieces

put_plain : (b : ℕ) (ps : List (List ℕ)) → b ≢ 92 → AllOf IsPlain ps → AllOf IsPlain (put_first b ps)
put_plain b [] n h = ((n, tt), tt)
put_plain b (p ∷ ps) n h = ((n, h.0), h.1)

-- the pieces of a text without `\` have none
pieces_plain : (s : List ℕ) → IsPlain s → AllOf IsPlain (pieces s)
pieces_plain [] h = (tt, tt)
pieces_plain (b ∷ s) h = by_test (nat_eq b 10) (pieces_plain s h.1)
  where
    by_test : (t : Bool) → AllOf IsPlain (pieces s) → AllOf IsPlain (if t then [] ∷ pieces s else put_first b (pieces s))
    by_test true more = (tt, more)
    by_test false more = put_plain b (pieces s) h.0 more

put_from : (b : ℕ) (ps : List (List ℕ)) → AllOf IsPlain (put_first b ps) → (b ≢ 92) × AllOf IsPlain ps
put_from b [] h = (h.0.0, tt)
put_from b (p ∷ ps) h = (h.0.0, (h.0.1, h.1))

-- a text whose pieces have no `\` has none
plain_pieces : (s : List ℕ) → AllOf IsPlain (pieces s) → IsPlain s
plain_pieces [] h = tt
plain_pieces (b ∷ s) h = by_test (nat_eq b 10) refl h (plain_pieces s)
  where
    by_test : (t : Bool) → nat_eq b 10 ≡ t → AllOf IsPlain (if t then [] ∷ pieces s else put_first b (pieces s)) → (AllOf IsPlain (pieces s) → IsPlain s) → (b ≢ 92) × IsPlain s
    by_test true e k more = (no_backslash b (let feed : b ≡ 10 = eqb-true b 10 e in omega arith), more k.1)
    by_test false e k more = let w = put_from b (pieces s) k in (w.0, more w.1)

spaces_plain : (k : ℕ) → IsPlain (spaces k)
spaces_plain zero = tt
spaces_plain (suc k) = (no_backslash 32 (omega arith), spaces_plain k)

opens_plain : (first : List ℕ) → Opens first → IsPlain first
opens_plain first (inl e) = subst IsPlain (sym e) tt
opens_plain first (inr e) = subst IsPlain (sym e) (no_backslash 13 (omega arith), tt)

-- ---- lines

-- the text has no `\`, and one line at most stands between its first piece and its last
abbrev pub IsShort : List ℕ → Type 0
IsShort s = IsPlain s × (length (pieces s) ≤ 3)

cut_plain : (first : List ℕ) (k : ℕ) (between : List (List ℕ)) (s : List ℕ) → Opens first → AllOf IsPlain between → pieces s ≡ first ∷ (between ++ spaces k ∷ []) → IsPlain s
cut_plain first k between s opens plain cut =
    plain_pieces s (subst (AllOf IsPlain) (sym cut) (opens_plain first opens, each_append between (spaces k ∷ []) plain (spaces_plain k, tt)))

returned_plain : (x y : List ℕ) → DropsReturn x y → IsPlain y → IsPlain x
returned_plain x y (inl e) h = subst IsPlain (sym e) (plain_append y (13 ∷ []) h (no_backslash 13 (omega arith), tt))
returned_plain x y (inr (e, n)) h = subst IsPlain (sym e) h

dropped_plain : (x y : List ℕ) → DropsReturn x y → IsPlain x → IsPlain y
dropped_plain x y (inl e) h = plain_prefix y (13 ∷ []) (subst IsPlain e h)
dropped_plain x y (inr (e, n)) h = subst IsPlain e h

-- one run at the beginning is one run of all lines
pub run_is_short : (s : List ℕ) (pos : ℕ) (l : LinesLeft) → OpensTo s pos l → IsOneRun l → IsShort s
run_is_short s pos l (o, b, inl (none, same)) run =
    let cut : pieces s ≡ b.first ∷ ([] ++ spaces o.indent ∷ []) = b.cut ∙ ap (λ (ps : List (List ℕ)). b.first ∷ (ps ++ spaces o.indent ∷ [])) none in
    (cut_plain b.first o.indent [] s b.opens tt cut, omega (arith, ap length cut))
run_is_short s pos l (o, b, inr (inl (bad, same))) run =
    let none : bad.line ∷ bad.more ≡ [] = sym bad.there ∙ (sym (ap (λ (z : LinesLeft). z.later) same) ∙ run.1) in
    absurd (cc)
run_is_short s pos l (o, b, inr (inr h)) run =
    let alone : o.later ≡ h.line ∷ [] = h.there ∙ ap (λ (ps : List (List ℕ)). h.line ∷ ps) (sym h.later ∙ run.1) in
    let cut : pieces s ≡ b.first ∷ (h.line ∷ spaces o.indent ∷ []) = b.cut ∙ ap (λ (ps : List (List ℕ)). b.first ∷ (ps ++ spaces o.indent ∷ [])) alone in
    let (x, whole, drops) = h.indented in
    let line : IsPlain h.line = subst IsPlain (sym whole) (plain_append (spaces o.indent) x (spaces_plain o.indent) (returned_plain x l.line.rest drops run.0)) in
    (cut_plain b.first o.indent (h.line ∷ []) s b.opens (line, tt) cut, omega (arith, ap length cut))

none_of_length : (ps : List (List ℕ)) → length ps ≤ 0 → ps ≡ []
none_of_length [] l = refl
none_of_length (p ∷ ps) l = absurd (omega arith)

-- one run of all lines isn't copied from the beginning
pub short_is_uncopied : (s : List ℕ) (pos : ℕ) (l : LinesLeft) → OpensTo s pos l → IsShort s → IsUncopied l
short_is_uncopied s pos l (o, b, inl (none, same)) short =
    inl (subst IsPlain (sym (ap (λ (z : LinesLeft). z.line.rest) same ∙ b.read)) tt, ap (λ (z : LinesLeft). z.later) same ∙ none)
short_is_uncopied s pos l (o, b, inr (inl (bad, same))) short = inr (subst IsRefusedFirst (sym same) (b.read, bad))
short_is_uncopied s pos l (o, b, inr (inr h)) (plain, few) =
    let cut : pieces s ≡ b.first ∷ (h.line ∷ (h.more ++ spaces o.indent ∷ [])) = b.cut ∙ ap (λ (ps : List (List ℕ)). b.first ∷ (ps ++ spaces o.indent ∷ [])) h.there in
    let size : length (pieces s) ≡ suc (suc (length (h.more ++ spaces o.indent ∷ []))) = ap length cut in
    let none : h.more ≡ [] = none_of_length h.more (omega (arith, length-append h.more (spaces o.indent ∷ []))) in
    let each : AllOf IsPlain (b.first ∷ (h.line ∷ (h.more ++ spaces o.indent ∷ []))) = subst (AllOf IsPlain) cut (pieces_plain s plain) in
    let (x, whole, drops) = h.indented in
    inl (dropped_plain x l.line.rest drops (plain_behind (spaces o.indent) x (subst IsPlain whole each.1.0)), h.later ∙ none)
