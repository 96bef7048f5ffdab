-- How the parts of a string are put together.
use Rattle.std.proofs.Common.{ℕ, ◌≡◌, ◌≢◌, ◌⊎◌, inl, inr, List, [], ◌∷◌, ◌++◌, Option, Some, None, Result, Ok, Err, refl, sym, ap, subst, ◌∙◌, append_assoc}
use Rattle.std.specs.Borrow.{Bor}
use Rattle.std.proofs.lemmas.List.{append-nil}
use Rattle.std.specs.declared.ops.Range.{Range}
use Rattle.wave_lex.specs.declared.strings.StringPart.{StringPart}
use Rattle.wave_lex.specs.declared.strings.StringPart.TheVariants.{Run, Char}
use Rattle.wave_lex.specs.Errors.{Diagnostic}
use Rattle.wave_lex.specs.Remaining.{Undecoded, LinesLeft}
use Rattle.wave_lex.specs.Parts.{part_text, part_texts, PartIs, LinePartIs, LinesRunTo}
use Rattle.wave_lex.proofs.MultilineStrings.JoinedLines.{run_more, run_ended, run_refused, texts_more}
use Rattle.wave_lex.proofs.StringDecoding.OneMeaning.{escape_head}
use Rattle.wave_wasm.specs.Lists.{AllOf}
use Rattle.wave_grammar.specs.StringAssembly.{BorrowedWhere, IsOneRun, IsRefusedFirst, IsUncopied, PutTogether}
use Rattle.wave_grammar.specs.Private.StringAssembly.{IsEnded, CameSoFar}
use Rattle.std.specs.declared.borrow.CowStr.{CowStr}
use Rattle.std.specs.declared.borrow.CowStr.TheVariants.{Borrowed, Owned}

-- one part more
pub one_more : (first left next : LinesLeft) (prefix text longer : List ℕ) (p : StringPart) → CameSoFar first left prefix text → LinePartIs left (Some (Ok p)) next → longer ≡ text ++ part_text p → CameSoFar first next prefix longer
one_more first left next prefix text longer p (parts, run, e) step grown = (
  parts ++ p ∷ [],
  run_more first left next parts p run step,
  grown ∙ (ap (λ (z : List ℕ). z ++ part_text p) e ∙ (append_assoc prefix (part_texts parts) (part_text p) ∙ ap (λ (z : List ℕ). prefix ++ z) (sym (texts_more parts p)))),
)

-- all parts that come, before the end or a refusal
pub followed_by : (first left : LinesLeft) (prefix text : List ℕ) (end : Option Diagnostic) → CameSoFar first left prefix text → LinesRunTo left [] end → (parts : List StringPart) × LinesRunTo first parts end × (text ≡ prefix ++ part_texts parts)
followed_by first left prefix text None (parts, run, e) (next, step) = (parts, run_ended first left next parts run step, e)
followed_by first left prefix text (Some f) (parts, run, e) (next, step) = (parts, run_refused first left next parts f run step, e)

-- the parts behind a text that begins empty
pub copied_from : (first left : LinesLeft) (empty prefix text : List ℕ) (end : Option Diagnostic) → empty ≡ [] → CameSoFar first left (empty ++ prefix) text → LinesRunTo left [] end → (parts : List StringPart) × LinesRunTo first parts end × (text ≡ prefix ++ part_texts parts)
copied_from first left empty prefix text end e so_far = followed_by first left prefix text end (subst (λ (z : List ℕ). CameSoFar first left (z ++ prefix) text) e so_far)

-- ---- a part before the others

-- borrowed where one holds that goes with the other
pub borrowed_so : {A : Type 0} (P Q : Type 0) (c : CowStr A) → (P → Q) → (Q → P) → BorrowedWhere Q c → BorrowedWhere P c
borrowed_so P Q (Borrowed s) to from h = from h
borrowed_so P Q (Owned s) to from h = λ p. h (to p)

-- a part before what is put together
pub one_in_front : {A : Type 0} (P Q : Type 0) (prefix longer : List ℕ) (l m : LinesLeft) (p : StringPart) (place : Range ℕ) (r : Result (CowStr A) Diagnostic) → LinePartIs l (Some (Ok p)) m → longer ≡ prefix ++ part_text p → (P → Q) → (Q → P) → PutTogether Q longer m place r → PutTogether P prefix l place r
one_in_front P Q prefix longer l m p place (Ok c) step e to from ((parts, run, text), borrowed) =
    ((p ∷ parts, (m, step, run), text ∙ (ap (λ (z : List ℕ). z ++ part_texts parts) e ∙ append_assoc prefix (part_text p) (part_texts parts))), borrowed_so P Q c to from borrowed)
one_in_front P Q prefix longer l m p place (Err e) step same to from (inl (parts, run)) = inl (p ∷ parts, (m, step, run))
one_in_front P Q prefix longer l m p place (Err e) step same to from (inr (wants, never)) = inr (wants, λ h. never (to h))

-- where nothing is left of a line no part of it comes
none_in_line : (old new : Undecoded) (p : StringPart) → PartIs old (Some (Ok p)) new → old.rest ≡ [] → ⊥
none_in_line old new (Run s) h e =
    let none : s.now ++ new.rest ≡ [] = sym h.taken ∙ e in
    h.some (append_none s.now new.rest none)
  where
    append_none : (x y : List ℕ) → x ++ y ≡ [] → x ≡ []
    append_none [] y e = refl
    append_none (b ∷ x) y e = absurd (cc)
none_in_line old new (Char c) h e =
    let k = escape_head h.escape c h.is in
    let none : 92 ∷ (k.0 ++ new.rest) ≡ [] = sym (ap (λ (z : List ℕ). z ++ new.rest) k.1) ∙ (sym h.taken ∙ e) in
    cc

-- where nothing is left no part comes
pub ended_gives_none : (l m : LinesLeft) (p : StringPart) → LinePartIs l (Some (Ok p)) m → IsEnded l → ⊥
ended_gives_none l m p (inl h) ended = none_in_line l.line m.line p h.item ended.0
ended_gives_none l m p (inr (e, f, h)) ended = let none : h.line ∷ h.more ≡ [] = sym h.there ∙ ended.1 in cc

-- before a refusal of the next line no part comes
refused_gives_none : (l m : LinesLeft) (p : StringPart) → LinePartIs l (Some (Ok p)) m → IsRefusedFirst l → ⊥
refused_gives_none l m p (inl h) (read, bad) = none_in_line l.line m.line p h.item read
refused_gives_none l m p (inr (e, f, h)) (read, bad) =
    let (x, whole, drops) = h.indented in
    let both : bad.line ∷ bad.more ≡ h.line ∷ h.more = sym bad.there ∙ h.there in
    let same : bad.line ≡ h.line = cc in
    bad.bad x (same ∙ whole)

-- a refusal of the next line is no end
pub refused_ends_not : (l : LinesLeft) (ps : List StringPart) → LinesRunTo l ps None → IsRefusedFirst l → ⊥
refused_ends_not l [] (t, step) (read, bad) = let none : bad.line ∷ bad.more ≡ [] = sym bad.there ∙ step.1 in cc
refused_ends_not l (p ∷ ps) (t, step, run) refused = refused_gives_none l t p step refused

-- an escape or a next line is no run
char_is_no_run : (l m : LinesLeft) (c : ℕ) → LinePartIs l (Some (Ok (Char c))) m → IsOneRun l → ⊥
char_is_no_run l m c (inl h) run =
    let k = escape_head h.item.escape c h.item.is in
    let begins : l.line.rest ≡ 92 ∷ (k.0 ++ m.line.rest) = h.item.taken ∙ ap (λ (z : List ℕ). z ++ m.line.rest) k.1 in
    (subst (AllOf (λ b. b ≢ 92)) begins run.0).0 refl
char_is_no_run l m c (inr (e, f, h)) run = let none : h.line ∷ h.more ≡ [] = sym h.there ∙ run.1 in cc

all_behind_run : (x y : List ℕ) → AllOf (λ b. b ≢ 92) (x ++ y) → AllOf (λ b. b ≢ 92) y
all_behind_run [] y h = h
all_behind_run (b ∷ x) y h = all_behind_run x y h.1

-- an escape or a next line is copied
pub char_is_copied : (l m : LinesLeft) (c : ℕ) → LinePartIs l (Some (Ok (Char c))) m → IsUncopied l → ⊥
char_is_copied l m c step (inl run) = char_is_no_run l m c step run
char_is_copied l m c step (inr refused) = refused_gives_none l m (Char c) step refused

-- after one run nothing is left
run_is_all : (l m : LinesLeft) (s : Bor (List ℕ)) → LinePartIs l (Some (Ok (Run s))) m → IsOneRun l → IsEnded m
run_is_all l m s (inl h) run = (ended h.item.stops, h.later ∙ run.1)
  where
    ended : (m.line.rest ≡ []) ⊎ ((t : List ℕ) × (m.line.rest ≡ 92 ∷ t)) → m.line.rest ≡ []
    ended (inl e) = e
    ended (inr (t, e)) =
        let plain = all_behind_run s.now m.line.rest (subst (AllOf (λ b. b ≢ 92)) h.item.taken run.0) in
        absurd ((subst (AllOf (λ b. b ≢ 92)) e plain).0 refl)
run_is_all l m s (inr (e, f, h)) run = absurd (cc)

-- after a run that isn't copied nothing is left
pub uncopied_ends : (l m : LinesLeft) (s : Bor (List ℕ)) → LinePartIs l (Some (Ok (Run s))) m → IsUncopied l → IsEnded m
uncopied_ends l m s step (inl run) = run_is_all l m s step run
uncopied_ends l m s step (inr refused) = absurd (refused_gives_none l m (Run s) step refused)

-- a run after which nothing is left is one run
all_is_run : (l m : LinesLeft) (s : Bor (List ℕ)) → LinePartIs l (Some (Ok (Run s))) m → IsEnded m → IsOneRun l
all_is_run l m s (inl h) ended =
    let whole : l.line.rest ≡ s.now = h.item.taken ∙ (ap (λ (z : List ℕ). s.now ++ z) ended.0 ∙ append-nil s.now) in
    (subst (AllOf (λ b. b ≢ 92)) (sym whole) h.item.plain, sym h.later ∙ ended.1)
all_is_run l m s (inr (e, f, h)) ended = absurd (cc)

-- a run after which nothing is left isn't copied
pub ended_uncopied : (l m : LinesLeft) (s : Bor (List ℕ)) → LinePartIs l (Some (Ok (Run s))) m → IsEnded m → IsUncopied l
ended_uncopied l m s step ended = inl (all_is_run l m s step ended)
