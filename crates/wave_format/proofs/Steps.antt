-- What a step of a layout writes, from what its parts write.
use Rattle.std.proofs.Common.{◌≡◌, ℕ, Bool, true, false, zero, suc, List, [], ◌∷◌, ◌++◌, ◌⊎◌, inl, inr, Option, Some, None, refl, sym, ap, subst, ◌∙◌, replicate, take, append_assoc, rules}
use Rattle.std.specs.Prelude.{is_some}
use denote.Enum.Bare.{sameb, same_true}
use Rattle.std.specs.List.{starts_with}
use Rattle.std.specs.Str.{IsUtf8}
use Rattle.std.specs.Cmp.Lexicographic.{same_text, other_text}
use Rattle.std.proofs.Math.Dec.{eqb}
use Rattle.std.proofs.lemmas.List.{append-nil}
use Rattle.wave_lex.specs.contracts.lex.Token.{the_type}
use Rattle.wave_lex.specs.declared.lex.Token as lex
use Rattle.wave_lex.specs.declared.lex.Token.TheVariants as class
use Rattle.wave_format.specs.Words.{trimmed, is_comment}
use Rattle.wave_format.specs.Private.Brackets.{brackets_after}
use Rattle.wave_format.specs.Private.Sheets.{Sheet, AreBlanks, IsBreak, EndsComment, Writes, BeginsLine, IsBeforeComment, AddsComment, PutsLine, PutsToken}
use Rattle.wave_format.proofs.Writing.{slashes}

-- ---- a line begins

blanks_are : (n : ℕ) → AreBlanks (replicate n 32)
blanks_are zero = tt
blanks_are (suc n) = (refl, blanks_are n)

-- a line feed or two, and blanks
feeds_break : (s : List ℕ) (n : ℕ) → (s ≡ 10 ∷ []) ⊎ (s ≡ 10 ∷ 10 ∷ []) → IsBreak (s ++ replicate n 32)
feeds_break s n (inl e) = subst (λ (z : List ℕ). IsBreak (z ++ replicate n 32)) (sym e) (refl, blanks_are n)
feeds_break s n (inr e) = subst (λ (z : List ℕ). IsBreak (z ++ replicate n 32)) (sym e) (refl, (refl, blanks_are n))

pub line_begun : (old : Sheet) (feeds y z : List ℕ) (n : ℕ) → (feeds ≡ 10 ∷ []) ⊎ (feeds ≡ 10 ∷ 10 ∷ []) → y ≡ old.text ++ feeds → z ≡ y ++ replicate n 32 → BeginsLine old (record old { text = z; in_comment = false })
line_begun old feeds y z n f e g = record {
  space = feeds ++ replicate n 32;
  break = feeds_break feeds n f;
  is = ap (λ (t : List ℕ). record old { text = t; in_comment = false }) (g ∙ (ap (λ (t : List ℕ). t ++ replicate n 32) e ∙ append_assoc old.text feeds (replicate n 32)));
}

-- ---- a comment is written

-- what stands before a comment is written
pub record IsOpened (old new : Sheet) : Type 0 where
  pub space : List ℕ
  pub before : IsBeforeComment old space
  pub is : new ≡ record old { text = old.text ++ space; in_comment = false }

-- nothing is written where no comment ends
unchanged : (old : Sheet) → old.in_comment ≡ false → old ≡ record old { text = old.text ++ []; in_comment = false }
unchanged old e =
    ap (λ (t : List ℕ). record old { text = t }) (sym (append-nil old.text))
    ∙ ap (λ (z : Bool). record old { text = old.text ++ []; in_comment = z }) e

-- a space is
spaced : (old : Sheet) (y : List ℕ) → old.in_comment ≡ false → y ≡ old.text ++ 32 ∷ [] → record old { text = y } ≡ record old { text = old.text ++ 32 ∷ []; in_comment = false }
spaced old y e is =
    ap (λ (t : List ℕ). record old { text = t }) is
    ∙ ap (λ (z : Bool). record old { text = old.text ++ 32 ∷ []; in_comment = z }) e

pub line_opened : (old new : Sheet) → BeginsLine old new → IsOpened old new
line_opened old new b = record { space = b.space; before = inl b.break; is = b.is }

pub space_opened : (old : Sheet) (y : List ℕ) → old.in_comment ≡ false → y ≡ old.text ++ 32 ∷ [] → IsOpened old (record old { text = y })
space_opened old y e is = record { space = 32 ∷ []; before = inr (e, inl refl); is = spaced old y e is }

pub none_opened : (old : Sheet) → old.in_comment ≡ false → old.last ≡ None → IsOpened old old
none_opened old e none = record { space = []; before = inr (e, inr (refl, none)); is = unchanged old e }

pub comment_added : (line : List ℕ) (old middle : Sheet) (y : List ℕ) → trimmed line ≡ line → IsUtf8 line → IsOpened old middle → y ≡ middle.text ++ line → AddsComment line old (record middle { text = y; in_comment = true })
comment_added line old middle y trim valid o e = record {
  trim = trim;
  valid = valid;
  space = o.space;
  before = o.before;
  is = ap (λ (t : List ℕ). record middle { text = t; in_comment = true }) (e ∙ (ap (λ (s : Sheet). s.text ++ line) o.is ∙ append_assoc old.text o.space line))
      ∙ ap (λ (s : Sheet). record s { text = old.text ++ (o.space ++ line); in_comment = true }) o.is;
}

pub comment_put : (b : Bool) (line : List ℕ) (old new : Sheet) → b ≡ true → AddsComment line old new → PutsLine b line old new
comment_put b line old new e h = subst (λ (z : Bool). PutsLine z line old new) (sym e) h

-- there is none where a test says so
pub none_of : (o : Option lex.Token) → is_some o ≡ false → o ≡ None
none_of None e = refl
none_of (Some c) e = cc

-- a text that begins with two slashes is a comment
pub comment_test : (s : List ℕ) (r : Bool) → r ≡ starts_with eqb s (47 ∷ 47 ∷ []) → r ≡ is_comment s
comment_test s true e = sym (begins s (same_text (47 ∷ 47 ∷ []) (take 2 s) e))
  where
    begins : (s : List ℕ) → 47 ∷ 47 ∷ [] ≡ take 2 s → is_comment s ≡ true
    begins [] e = cc
    begins (a ∷ []) e = cc
    begins (a ∷ b ∷ s) e =
        let one : a ≡ 47 = cc in
        let two : b ≡ 47 = cc in
        rw one (rw two refl)
comment_test s false e = by_test (is_comment s) refl
  where
    by_test : (t : Bool) → is_comment s ≡ t → false ≡ t
    by_test true c =
        let (rest, begins) = slashes s c in
        absurd (other_text (47 ∷ 47 ∷ []) (take 2 s) e (sym (ap (take 2) begins)))
    by_test false c = refl

-- ---- a token

-- the brackets are those after the token
abbrev pub IsTracked : lex.Token → Sheet → Sheet → Type 0
IsTracked c old new = new ≡ record old { payloads = brackets_after old.last c old.payloads }

-- what `a == b` says of two classes
pub is_class : (a b : lex.Token) {r : Bool} → r ≡ sameb the_type a b → r ≡ true → a ≡ b
is_class a b answer is = same_true the_type (search rules) a b (sym answer ∙ is)

pub token_held : (c : lex.Token) (x : List ℕ) (old inside new : Sheet) → IsTracked c old inside → c ≡ class.Comma → new ≡ record inside { held = true } → PutsToken c x old (record new { last = Some c })
token_held c x old inside new e is same = inl (
  is,
  ap (λ (s : Sheet). record s { last = Some c }) same
      ∙ (ap (λ (s : Sheet). record s { last = Some c; held = true }) e
      ∙ ap (λ (bs : List Bool). record old { payloads = bs; last = Some c; held = true }) (ap (λ (z : lex.Token). brackets_after old.last z old.payloads) is)),
)

pub token_written : (c : lex.Token) (x : List ℕ) (old middle written : Sheet) → IsTracked c old middle → Writes x middle written → PutsToken c x old (record written { last = Some c })
token_written c x old middle written e h = inr (
  record written { payloads = old.payloads },
  record {
    space = h.space;
    ends = subst (λ (s : Sheet). EndsComment s.in_comment h.space) e h.ends;
    is = ap (λ (s : Sheet). record s { payloads = old.payloads }) h.is
        ∙ ap (λ (s : Sheet). record s { text = s.text ++ (h.space ++ x); in_comment = false; payloads = old.payloads }) e;
  },
  ap (λ (bs : List Bool). record written { payloads = bs; last = Some c }) (ap (λ (s : Sheet). s.payloads) h.is ∙ ap (λ (s : Sheet). s.payloads) e),
)

-- the last token is noted
pub last_noted : (c : lex.Token) (x : List ℕ) (old inside new : Sheet) → inside ≡ new → PutsToken c x old (record new { last = Some c }) → PutsToken c x old (record inside { last = Some c })
last_noted c x old inside new e h = subst (λ (s : Sheet). PutsToken c x old (record s { last = Some c })) (sym e) h
