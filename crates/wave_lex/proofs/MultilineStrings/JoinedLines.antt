-- What the parts of a multiline string are together, and what a refusal among them says.
use Rattle.std.proofs.Common.{◌≡◌, ◌≢◌, ℕ, ◌+◌, ◌-◌, ◌≤◌, ◌<◌, suc, take, drop, Bool, true, false, nat_eq, Result, List, [], ◌∷◌, ◌++◌, ◌⊎◌, inl, inr, refl, sym, ap, subst, ◌∙◌, length, arith, Some, None, Ok, Err, append_assoc, length-append}
use Rattle.std.specs.Prelude.{MatchResult, if◌then◌else◌, encode_utf8}
use Rattle.std.proofs.lemmas.Str.{encode_ascii}
use Rattle.std.proofs.lemmas.List.{append-nil, length-drop, length-take-le}
use Rattle.wave_lex.specs.Errors.{Diagnostic}
use Rattle.wave_lex.specs.declared.strings.StringPart.{StringPart}
use Rattle.wave_lex.specs.declared.strings.StringPart.TheVariants.{Char}
use Rattle.wave_lex.specs.Tokenization.{span}
use Rattle.wave_lex.specs.Strings.{Decodes, IsBadEscapeAt}
use Rattle.wave_lex.specs.Multiline.{put_first, pieces, LinesMean, in_lines, DecodesLines, LineFault, closing, opening, indentation, escape, BadLines, MultilineFault, fault_span}
use Rattle.wave_lex.specs.Remaining.{Undecoded, LinesLeft, one_line, ended_lines, lines_size}
use Rattle.wave_lex.specs.Parts.{part_text, part_texts, ReportsBadEscape, ReportsFault, EntersLine, HasBadLine, MeetsBadEscape, MeetsBadLine, StaysInLine, LinePartIs, NoPartNext, Begins, OpeningRefused, LinesRunTo, LinesJoin, OneLineJoins}
use Rattle.wave_lex.specs.Private.Lines.{PartTaken, EndIs, LinesEndIs, BehindLastFeed}
use Rattle.wave_lex.specs.Private.Runs.{HasWholeLines}
use Rattle.wave_lex.specs.Parts.{LinesRun}
use Rattle.wave_lex.proofs.StringDecoding.OneMeaning.{empty_once}
use Rattle.wave_lex.proofs.MultilineStrings.Lines.{pieces_first, pieces_ended, later_feed}
use Rattle.wave_lex.proofs.StringDecoding.Parts.{takes, bad_behind, bad_here}

-- ---- what is left means a text

-- the rest of the line decodes to a text, the lines after it mean texts, and all of them are joined
abbrev LeftMeans : LinesLeft → List ℕ → Type 0
LeftMeans l t = (u : List ℕ) × (us : List (List ℕ)) × Decodes l.line.rest u × LinesMean l.indent l.later us × (t ≡ in_lines (u ∷ us))

-- nothing decodes to nothing
nothing_left : (s : List ℕ) → s ≡ [] → Decodes s []
nothing_left s e = ([], (e, refl))

-- what stands before the first line stands before all
in_front : (x u : List ℕ) (us : List (List ℕ)) → in_lines ((x ++ u) ∷ us) ≡ x ++ in_lines (u ∷ us)
in_front x u [] = refl
in_front x u (w ∷ us) = append_assoc x u (10 ∷ in_lines (w ∷ us))

-- a part of the line
means_in_line : (old new : LinesLeft) (p : StringPart) (t : List ℕ) → StaysInLine old new p → LeftMeans new t → LeftMeans old (part_text p ++ t)
means_in_line old new p t h (u, us, decodes, lines, joined) =
    let k = takes old.line new.line p h.item in (
      part_text p ++ u,
      us,
      subst (λ (z : List ℕ). Decodes z (part_text p ++ u)) (sym k.taken) (k.means new.line.rest u decodes),
      subst (λ (z : List (List ℕ)). LinesMean old.indent z us) h.later (subst (λ (z : ℕ). LinesMean z new.later us) h.indent lines),
      ap (λ (z : List ℕ). part_text p ++ z) joined ∙ sym (in_front (part_text p) u us),
    )

-- the line that is entered means what is left of it, and the lines after it the rest
entered_means : (old new : LinesLeft) (u : List ℕ) (us : List (List ℕ)) → EntersLine old new → Decodes new.line.rest u → LinesMean new.indent new.later us → LinesMean old.indent old.later (u ∷ us)
entered_means old new u us h decodes lines =
    let more : LinesMean old.indent h.more us = subst (λ (z : List (List ℕ)). LinesMean old.indent z us) h.later (subst (λ (z : ℕ). LinesMean z new.later us) h.stays lines) in
    subst (λ (z : List (List ℕ)). LinesMean old.indent z (u ∷ us)) (sym h.there) ((new.line.rest, h.indented, decodes), more)

-- the line feed between two lines
means_next_line : (old new : LinesLeft) (p : StringPart) (t : List ℕ) → old.line.rest ≡ [] → p ≡ Char 10 → EntersLine old new → LeftMeans new t → LeftMeans old (part_text p ++ t)
means_next_line old new p t e f h (u, us, decodes, lines, joined) =
    let feed : encode_utf8 10 ≡ 10 ∷ [] = encode_ascii 10 (omega arith) in (
      [],
      u ∷ us,
      nothing_left old.line.rest e,
      entered_means old new u us h decodes lines,
      ap (λ (z : StringPart). part_text z ++ t) f ∙ (ap (λ (z : List ℕ). z ++ t) feed ∙ ap (λ (z : List ℕ). 10 ∷ z) joined),
    )

-- parts up to the end are what is meant
run_means : (l : LinesLeft) (ps : List StringPart) → LinesRunTo l ps None → LeftMeans l (part_texts ps)
run_means l [] r = ([], [], nothing_left l.line.rest r.1.0, subst (λ (z : List (List ℕ)). LinesMean l.indent z []) (sym r.1.1) tt, refl)
run_means l (p ∷ ps) (t, inl h, r) = means_in_line l t p (part_texts ps) h (run_means t ps r)
run_means l (p ∷ ps) (t, inr (e, f, h), r) = means_next_line l t p (part_texts ps) e f h (run_means t ps r)

-- ---- a refusal

-- a refusal of the rest of the line, or of a line after it
abbrev LeftFault : ℕ → ℕ → ℕ → LinesLeft → Diagnostic → Type 0
LeftFault pos n at l e =
    ((i : ℕ) × IsBadEscapeAt l.line.rest i × ReportsBadEscape e (l.line.pos + i))
    ⊎ ((u : List ℕ) × (f : LineFault) × Decodes l.line.rest u × BadLines l.indent at l.later f × ReportsFault e f (fault_span pos n f))

-- in the line
fault_in_line : (pos n at : ℕ) (old new : LinesLeft) (p : StringPart) (e : Diagnostic) → StaysInLine old new p → LeftFault pos n at new e → LeftFault pos n at old e
fault_in_line pos n at old new p e h (inl (i, bad, reported)) =
    let k = takes old.line new.line p h.item in
    let m : new.line.pos ≡ old.line.pos + length k.source = k.moved in
    inl (length k.source + i, bad_behind old.line new.line p i k bad, subst (λ (z : ℕ). ReportsBadEscape e z) (omega arith) reported)
fault_in_line pos n at old new p e h (inr (u, f, decodes, bad, reported)) =
    let k = takes old.line new.line p h.item in
    inr (
      part_text p ++ u,
      f,
      subst (λ (z : List ℕ). Decodes z (part_text p ++ u)) (sym k.taken) (k.means new.line.rest u decodes),
      subst (λ (z : List (List ℕ)). BadLines old.indent at z f) h.later (subst (λ (z : ℕ). BadLines z at new.later f) h.indent bad),
      reported,
    )

-- in the line that is entered, or after it
fault_entered : (pos n at : ℕ) (old new : LinesLeft) (e : Diagnostic) → old.next ≡ pos + at → (h : EntersLine old new) → LeftFault pos n (at + length h.line + 1) new e
    → (f : LineFault) × BadLines old.indent at old.later f × ReportsFault e f (fault_span pos n f)
fault_entered pos n at old new e there h (inl (i, bad, reported)) =
    let place : new.line.pos ≡ old.next + old.indent = h.place in
    let here : new.line.pos + i ≡ pos + (at + old.indent + i) = omega arith in
    let t : ReportsBadEscape e (pos + (at + old.indent + i)) = subst (λ (z : ℕ). ReportsBadEscape e z) here reported in (
      escape (at + old.indent + i),
      subst (λ (z : List (List ℕ)). BadLines old.indent at z (escape (at + old.indent + i))) (sym h.there) (inl (inr (new.line.rest, i, h.indented, bad, refl))),
      record { refusal = t.refusal; at = t.at },
    )
fault_entered pos n at old new e there h (inr (u, f, decodes, bad, reported)) =
    let more : BadLines old.indent (at + length h.line + 1) h.more f =
    subst (λ (z : List (List ℕ)). BadLines old.indent (at + length h.line + 1) z f) h.later (subst (λ (z : ℕ). BadLines z (at + length h.line + 1) new.later f) h.stays bad) in
    (f, subst (λ (z : List (List ℕ)). BadLines old.indent at z f) (sym h.there) (inr (u, (new.line.rest, h.indented, decodes), more)), reported)

-- a line with too few spaces
fault_here : (pos n at : ℕ) (old new : LinesLeft) (e : Diagnostic) → old.next ≡ pos + at → MeetsBadLine old new e
    → (f : LineFault) × BadLines old.indent at old.later f × ReportsFault e f (fault_span pos n f)
fault_here pos n at old new e there h = (
  indentation at,
  subst (λ (z : List (List ℕ)). BadLines old.indent at z (indentation at)) (sym h.met.there) (inl (inl (h.met.bad, refl))),
  record { refusal = h.reported.refusal; at = h.reported.at ∙ ap (λ (z : ℕ). span z (z + 1)) there },
)

-- parts up to a refusal show what is wrong
run_fault : (pos n at : ℕ) (l : LinesLeft) (ps : List StringPart) (e : Diagnostic) → l.next ≡ pos + at → LinesRunTo l ps (Some e) → LeftFault pos n at l e
run_fault pos n at l [] e there (t, inl (h, ended)) = inl (0, bad_here l.line t.line e h, subst (λ (z : ℕ). ReportsBadEscape e z) (omega arith) h.reported)
run_fault pos n at l [] e there (t, inr (none, h)) =
    let f = fault_here pos n at l t e there h in
    inr ([], f.0, nothing_left l.line.rest none, f.1, f.2)
run_fault pos n at l (p ∷ ps) e there (t, inl h, r) = fault_in_line pos n at l t p e h (run_fault pos n at t ps e (h.next ∙ there) r)
run_fault pos n at l (p ∷ ps) e there (t, inr (none, same, h), r) =
    let moved : t.next ≡ l.next + length h.line + 1 = h.moved in
    let later : t.next ≡ pos + (at + length h.line + 1) = omega arith in
    let f = fault_entered pos n at l t e there h (run_fault pos n (at + length h.line + 1) t ps e later r) in
    inr ([], f.0, nothing_left l.line.rest none, f.1, f.2)

-- ---- the whole

-- nothing has no bad escape
no_bad_escape : (i : ℕ) → IsBadEscapeAt [] i → ⊥
no_bad_escape i (prefix, rest, t, whole, decodes, none, place) =
    let w : 0 ≡ length (prefix ++ 92 ∷ rest) = ap length whole in
    let v : ⊥ = omega (arith, length-append prefix (92 ∷ rest)) in v

-- no lines mean no texts
no_lines : (k : ℕ) (us : List (List ℕ)) → LinesMean k [] us → us ≡ []
no_lines k [] h = refl
no_lines k (u ∷ us) h = absurd h

-- the lines before which it begins mean the inside
inside_means : (s : List ℕ) (pos : ℕ) (l : LinesLeft) (us : List (List ℕ)) → Begins s pos l → LinesMean l.indent l.later us → DecodesLines s (in_lines us)
inside_means s pos l us b lines = record { first = b.first; between = l.later; indent = l.indent; texts = us; cut = b.cut; opens = b.opens; lines = lines; joins = refl }

-- a line with too few spaces means nothing
bad_means_none : (l : LinesLeft) (us : List (List ℕ)) → (h : HasBadLine l) → LinesMean l.indent (h.line ∷ h.more) us → ⊥
bad_means_none l [] h lines = lines
bad_means_none l (u ∷ us) h ((y, (x, whole, drops), decodes), lines) = h.bad x whole

-- what is left at the beginning means what the inside means
opened_means : (s : List ℕ) (pos : ℕ) (l new : LinesLeft) (t : List ℕ) → Begins s pos l → ((l.later ≡ []) × (new ≡ l) ⊎ HasBadLine l × (new ≡ l) ⊎ EntersLine l new) → LeftMeans new t → DecodesLines s t
opened_means s pos l new t b (inl (none, same)) (u, us, decodes, lines, joined) =
    let empty : u ≡ [] = empty_once u (subst (λ (z : List ℕ). Decodes z u) (ap (λ (z : LinesLeft). z.line.rest) same ∙ b.read) decodes) in
    let lines_there : LinesMean l.indent l.later us = subst (λ (z : LinesLeft). LinesMean z.indent z.later us) same lines in
    let no : us ≡ [] = no_lines l.indent us (subst (λ (z : List (List ℕ)). LinesMean l.indent z us) none lines_there) in
    let text : t ≡ in_lines us = joined ∙ (ap (λ (z : List ℕ). in_lines (z ∷ us)) empty ∙ (ap (λ (z : List (List ℕ)). in_lines ([] ∷ z)) no ∙ ap in_lines (sym no))) in
    subst (λ (z : List ℕ). DecodesLines s z) (sym text) (inside_means s pos l us b lines_there)
opened_means s pos l new t b (inr (inl (h, same))) (u, us, decodes, lines, joined) =
    let lines_there : LinesMean l.indent l.later us = subst (λ (z : LinesLeft). LinesMean z.indent z.later us) same lines in
    absurd (bad_means_none l us h (subst (λ (z : List (List ℕ)). LinesMean l.indent z us) h.there lines_there))
opened_means s pos l new t b (inr (inr h)) (u, us, decodes, lines, joined) =
    subst (λ (z : List ℕ). DecodesLines s z) (sym joined) (inside_means s pos l (u ∷ us) b (entered_means l new u us h decodes lines))

-- a fault of the lines is one of the inside
inside_fault : (s : List ℕ) (pos n : ℕ) (l : LinesLeft) (e : Diagnostic) → (b : Begins s pos l) → (f : LineFault) × BadLines l.indent (length b.first + 1) l.later f × ReportsFault e f (fault_span pos n f)
    → (f : LineFault) × MultilineFault s f × ReportsFault e f (fault_span pos n f)
inside_fault s pos n l e b (f, bad, reported) = (f, inr (inr (record { first = b.first; between = l.later; indent = l.indent; cut = b.cut; opens = b.opens; bad = bad })), reported)

-- what is wrong with the rest is wrong with the inside
opened_fault : (s : List ℕ) (pos n : ℕ) (l new : LinesLeft) (e : Diagnostic) → (b : Begins s pos l) → ((l.later ≡ []) × (new ≡ l) ⊎ HasBadLine l × (new ≡ l) ⊎ EntersLine l new)
    → ((at : ℕ) → new.next ≡ pos + at → LeftFault pos n at new e) → (f : LineFault) × MultilineFault s f × ReportsFault e f (fault_span pos n f)
opened_fault s pos n l new e b (inl (none, same)) fault =
    no_fault (fault (length b.first + 1) (ap (λ (z : LinesLeft). z.next) same ∙ b.next))
  where
    no_fault : LeftFault pos n (length b.first + 1) new e → (f : LineFault) × MultilineFault s f × ReportsFault e f (fault_span pos n f)
    no_fault (inl (i, bad, reported)) = absurd (no_bad_escape i (subst (λ (z : List ℕ). IsBadEscapeAt z i) (ap (λ (z : LinesLeft). z.line.rest) same ∙ b.read) bad))
    no_fault (inr (u, f, decodes, bad, reported)) = absurd (subst (λ (z : List (List ℕ)). BadLines new.indent (length b.first + 1) z f) (ap (λ (z : LinesLeft). z.later) same ∙ none) bad)
opened_fault s pos n l new e b (inr (inl (h, same))) fault =
    first_fault (fault (length b.first + 1) (ap (λ (z : LinesLeft). z.next) same ∙ b.next))
  where
    first_fault : LeftFault pos n (length b.first + 1) new e → (f : LineFault) × MultilineFault s f × ReportsFault e f (fault_span pos n f)
    first_fault (inl (i, bad, reported)) = absurd (no_bad_escape i (subst (λ (z : List ℕ). IsBadEscapeAt z i) (ap (λ (z : LinesLeft). z.line.rest) same ∙ b.read) bad))
    first_fault (inr (u, f, decodes, bad, reported)) = inside_fault s pos n l e b (f, subst (λ (z : LinesLeft). BadLines z.indent (length b.first + 1) z.later f) same bad, reported)
opened_fault s pos n l new e b (inr (inr h)) fault =
    let next : l.next ≡ pos + (length b.first + 1) = b.next in
    let moved : new.next ≡ l.next + length h.line + 1 = h.moved in
    let later : new.next ≡ pos + (length b.first + 1 + length h.line + 1) = omega arith in
    inside_fault s pos n l e b (fault_entered pos n (length b.first + 1) l new e next h (fault (length b.first + 1 + length h.line + 1) later))

-- what is refused at the beginning is wrong with the inside
opening_fault : (s : List ℕ) (pos : ℕ) (e : Diagnostic) → OpeningRefused s pos e → (f : LineFault) × MultilineFault s f × ReportsFault e f (fault_span pos (length s) f)
opening_fault s pos e (inl (bad, reported)) = (closing, inl (bad, refl), reported)
opening_fault s pos e (inr (labelled, bad, reported)) = (opening, inr (inl (labelled, bad, refl)), reported)

-- the parts of a multiline string join to what it means
pub lines_join : LinesJoin
lines_join s pos = (
  λ l ps o. (
    λ r. opened_means s pos o.0 l (part_texts ps) o.1 o.2 (run_means l ps r),
    λ e r. opened_fault s pos (length s) o.0 l e o.1 o.2 (λ at there. run_fault pos (length s) at l ps e there r),
  ),
  λ e h. opening_fault s pos e h,
)

-- ---- one line

-- what one line means is what it decodes to
one_line_means : (s : Undecoded) (t : List ℕ) → LeftMeans (one_line s) t → Decodes s.rest t
one_line_means s t (u, us, decodes, lines, joined) =
    let none : us ≡ [] = no_lines 0 us lines in
    subst (λ (z : List ℕ). Decodes s.rest z) (sym (joined ∙ ap (λ (z : List (List ℕ)). in_lines (u ∷ z)) none)) decodes

-- what is wrong with one line is a bad escape
one_line_fault : (s : Undecoded) (e : Diagnostic) (pos n at : ℕ) → LeftFault pos n at (one_line s) e → (i : ℕ) × IsBadEscapeAt s.rest i × ReportsBadEscape e (s.pos + i)
one_line_fault s e pos n at (inl bad) = bad
one_line_fault s e pos n at (inr (u, f, decodes, bad, reported)) = absurd bad

-- the parts of one line join to what it decodes to
pub one_line_joins : OneLineJoins
one_line_joins s ps = (λ r. one_line_means s (part_texts ps) (run_means (one_line s) ps r), λ e r. one_line_fault s e 0 0 0 (run_fault 0 0 0 (one_line s) ps e refl r))

-- ---- a part, and where none is next

-- the end of one line
pub one_line_ends : (s : Undecoded) (r : Result (Unit {0}) Diagnostic) → EndIs s r → LinesEndIs (one_line s) r
one_line_ends s (Ok u) none = (none, refl)
one_line_ends s (Err e) h = inl h

-- a refusal where no run and no escape is taken
pub refused_escape : (old mid new : Undecoded) (e : Diagnostic) → PartTaken old None mid → (mid.rest ≢ []) × ReportsBadEscape e mid.pos → new.rest ≡ [] → MeetsBadEscape old new e
refused_escape old mid new e (inl none, same) (some, reported) ended = absurd (some (ap (λ (s : Undecoded). s.rest) same ∙ none))
refused_escape old mid new e (inr bad, same) (some, reported) ended = record { begins = bad.begins; none = bad.none; ended = ended; reported = subst (λ (s : Undecoded). ReportsBadEscape e s.pos) same reported }

same_left : (s t : Undecoded) → s.rest ≡ t.rest → s.pos ≡ t.pos → s ≡ t
same_left s t e f =
    let rests : s ≡ record { rest = t.rest; pos = s.pos } = ap (λ (z : List ℕ). record { rest = z; pos = s.pos }) e in
    let places : record { rest = t.rest; pos = s.pos } ≡ t = ap (λ (z : ℕ). record { rest = t.rest; pos = z }) f in rests ∙ places

-- a refusal of what is next: no part is
pub refused_next : (l new : LinesLeft) (e : Diagnostic) → NoPartNext l → LinesEndIs l (Err e) → new.line.rest ≡ [] → new.line.pos ≡ l.line.pos → new.later ≡ [] → LinePartIs l (Some (Err e)) new
refused_next l new e (inl bad) (inl (some, reported)) none same later = inl (record { begins = bad.begins; none = bad.none; ended = none; reported = reported }, later)
refused_next l new e (inl bad) (inr (empty, some, reported)) none same later = let w : 92 ∷ bad.begins.0 ≡ [] = sym bad.begins.1 ∙ empty in cc
refused_next l new e (inr (empty, next)) (inl (some, reported)) none same later = absurd (some empty)
refused_next l new e (inr (empty, inl last)) (inr (also, some, reported)) none same later = absurd (some last)
refused_next l new e (inr (empty, inr bad)) (inr (also, some, reported)) none same later = inr (empty, record { met = bad; stays = same_left new.line l.line (none ∙ sym empty) same; ended = later; reported = reported })

-- where no part is next stands the end or a refusal
pub ends_there : (l : LinesLeft) (r : Result (Unit {0}) Diagnostic) → NoPartNext l → LinesEndIs l r → MatchResult r (λ _. LinesRunTo l [] None) (λ e. LinesRunTo l [] (Some e))
ends_there l (Ok u) next (none, later) = (l, (none, later, refl))
ends_there l (Err e) next h = (_, refused_next l (record { line = record { rest = []; pos = l.line.pos }; later = []; next = l.next; indent = l.indent }) e next h refl refl refl)

-- ---- how much is left

put_first_size : (b : ℕ) (q : List ℕ) (qs : List (List ℕ)) → lines_size (put_first b (q ∷ qs)) ≡ suc (lines_size (q ∷ qs))
put_first_size b q qs = omega arith

-- the pieces of a text take one byte more than the text
pieces_size : (s : List ℕ) → lines_size (pieces s) ≡ suc (length s)
pieces_size [] = refl
pieces_size (b ∷ s) = by_test (nat_eq b 10) (pieces_first s) (pieces_size s)
  where
    by_test : (t : Bool) → (q : List ℕ) × (qs : List (List ℕ)) × (pieces s ≡ q ∷ qs) → lines_size (pieces s) ≡ suc (length s)
        → lines_size (if t then [] ∷ pieces s else put_first b (pieces s)) ≡ suc (suc (length s))
    by_test true f more = omega (arith, more)
    by_test false (q, qs, e) more = ap (λ (z : List (List ℕ)). lines_size (put_first b z)) e ∙ (put_first_size b q qs ∙ ap suc (sym (ap lines_size e) ∙ more))

-- the lines and the last piece take the lines and the last piece
appended_size : (ps : List (List ℕ)) (q : List ℕ) → lines_size (ps ++ q ∷ []) ≡ lines_size ps + suc (length q)
appended_size [] q = omega arith
appended_size (p ∷ ps) q = omega (arith, appended_size ps q)

-- a text through its last line feed is whole lines
through_feed : (s : List ℕ) (n : ℕ) → BehindLastFeed s n → HasWholeLines (take n s)
through_feed s n h =
    let fits : n ≤ length s = h.fits in
    let all : lines_size (pieces s) ≡ suc (length s) = pieces_size s in
    let cut : lines_size (pieces s) ≡ lines_size (ended_lines (take n s)) + suc (length (drop n s)) = ap lines_size (pieces_ended s n h) ∙ appended_size (ended_lines (take n s)) (drop n s) in
    omega (arith, length-drop n s, length-take-le n s fits)

-- so is what stands behind its first piece
pub body_whole : (s body : List ℕ) (m n : ℕ) → m ≤ n → BehindLastFeed s n → body ≡ take (n - m) (drop m s) → HasWholeLines body
body_whole s body m n l h e = subst HasWholeLines (sym e) (through_feed (drop m s) (n - m) (later_feed s m n l h))

-- ---- runs, part by part

-- one part more
pub run_more : (l m n : LinesLeft) (ps : List StringPart) (p : StringPart) → LinesRun l ps m → LinePartIs m (Some (Ok p)) n → LinesRun l (ps ++ p ∷ []) n
run_more l m n [] p r h = (n, subst (λ (z : LinesLeft). LinePartIs z (Some (Ok p)) n) (sym r) h, refl)
run_more l m n (q ∷ ps) p (t, g, r) h = (t, g, run_more t m n ps p r h)

-- no part more
pub run_ended : (l m n : LinesLeft) (ps : List StringPart) → LinesRun l ps m → LinePartIs m None n → LinesRunTo l ps None
run_ended l m n [] r h = (n, subst (λ (z : LinesLeft). LinePartIs z None n) (sym r) h)
run_ended l m n (q ∷ ps) (t, g, r) h = (t, g, run_ended t m n ps r h)

-- a refusal
pub run_refused : (l m n : LinesLeft) (ps : List StringPart) (e : Diagnostic) → LinesRun l ps m → LinePartIs m (Some (Err e)) n → LinesRunTo l ps (Some e)
run_refused l m n [] e r h = (n, subst (λ (z : LinesLeft). LinePartIs z (Some (Err e)) n) (sym r) h)
run_refused l m n (q ∷ ps) e (t, g, r) h = (t, g, run_refused t m n ps e r h)

-- the text of one part more
pub texts_more : (ps : List StringPart) (p : StringPart) → part_texts (ps ++ p ∷ []) ≡ part_texts ps ++ part_text p
texts_more [] p = append-nil (part_text p)
texts_more (q ∷ ps) p = ap (λ (z : List ℕ). part_text q ++ z) (texts_more ps p) ∙ sym (append_assoc (part_text q) (part_texts ps) (part_text p))
