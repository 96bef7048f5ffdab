-- How a line is put together from what is read.
use Rattle.std.proofs.Common.{ℕ, suc, ◌≡◌, ◌≢◌, ◌+◌, ◌-◌, ◌<◌, ◌≤◌, ◌==◌, Bool, true, false, List, [], ◌∷◌, ◌++◌, length, take, drop, get_or, Option, Some, None, Result, Ok, Err, IfErr, refl, sym, ap, subst, ◌∙◌, inl, inr, arith, append_assoc, length-append}
use Rattle.std.specs.Prelude.{slice_range, slice_index, if◌then◌else◌, MatchBool, MatchOption}
use Rattle.std.specs.List.{slice_split}
use Rattle.std.specs.Io.KnownBytes.{Consumes, IsAtEnd, prepend_known}
use Rattle.std.specs.Str.Lines.{lines, lines_of_parts, strip_carriage_return}
use Rattle.std.proofs.KnownBytes.{Consumes-nil, Consumes-trans, prepend_known-nil}
use Rattle.std.proofs.lemmas.Bool.{false_from_ne_true}
use Rattle.std.proofs.lemmas.List.{append-nil, length-take, take_all, take-append-drop, drop-take, drop-drop, get_or-take, get_or_default}
use Rattle.std.proofs.lemmas.List.Elements.{All-append, All-nil}
use Rattle.std.proofs.lemmas.List.Splits.{slice_split_none, slice_split_at, length-slice_split}
use Rattle.std.proofs.Math.Seq.{drop-cons}
use Rattle.memchr.specs.Find.{IsFirstByte, Nowhere, Passes, is_byte}
use Rattle.wave.specs.declared.input.Input.{Input}
use Rattle.wave.specs.declared.lines.Unread.{Unread}
use Rattle.wave.specs.Lines.{IsInOneLine}
use Rattle.wave.specs.Private.InputLines.{EndsFirstLine, IsEndKnown, LosesPart, TakesLine, left, most_lines, unread_bytes}

-- the first bytes of a range are taken
pub skipped : (chunk : List ℕ) (start end count : ℕ) → count ≤ length (slice_range chunk start end) → slice_range chunk (start + count) end ≡ drop count (slice_range chunk start end)
skipped chunk start end count fits =
    let m = end - (start + count) in
    let e : end - start ≡ count + m = omega (arith, length-take (end - start) (drop start chunk)) in
    ap (take m) (sym (drop-drop count start chunk)) ∙ (sym (drop-take count m (drop start chunk)) ∙ ap (λ n. drop count (take n (drop start chunk))) (sym e))

-- the bytes before the first line feed are in one line
pub none_before : (bytes : List ℕ) (at : ℕ) → at ≤ length bytes → Nowhere (Passes (is_byte 10) bytes) 0 at → IsInOneLine (take at bytes)
none_before bytes at fits none k d less =
    let below : k < at = omega (arith, length-take at bytes) in
    let there : get_or (take at bytes) k d ≡ get_or bytes k 0 = get_or-take at bytes k d below ∙ get_or_default bytes k d 0 (omega arith) in
    ap (λ b. b == 10) there ∙ false_from_ne_true _ (none k (omega arith) below)

-- there it stands, and the rest behind it
pub cut_at : (bytes : List ℕ) (at : ℕ) → at < length bytes → (slice_index bytes at == 10) ≡ true → bytes ≡ take at bytes ++ 10 ∷ drop (at + 1) bytes
cut_at bytes at fits is =
    let feed : get_or bytes at 0 ≡ 10 = grind arith in
    let next : suc at ≡ at + 1 = omega arith in
    sym (take-append-drop at bytes) ∙ ap (λ l. take at bytes ++ l) (drop-cons bytes at 0 fits ∙ λ i. feed i ∷ drop (next i) bytes)

-- where the first line feed stands, if there is one
pub first_end : (bytes : List ℕ) (found : Option ℕ) → IsFirstByte (is_byte 10) bytes found → MatchOption found (IsInOneLine bytes) (EndsFirstLine bytes)
first_end bytes None none = subst IsInOneLine (take_all (length bytes) bytes (omega arith)) (none_before bytes (length bytes) (omega arith) none)
first_end bytes (Some place) (first, is) =
    let below = first.high in
    (below, none_before bytes place (omega (arith, below)) first.before, cut_at bytes place below is)

-- ---- lines

ended_part : (x : List ℕ) (parts : List (List ℕ)) → 0 < length parts → lines_of_parts (x ∷ parts) ≡ strip_carriage_return x ∷ lines_of_parts parts
ended_part x [] some = absurd (omega arith)
ended_part x (part ∷ parts) some = refl

-- a line, its line feed, and the other lines
ended_line : (l ys : List ℕ) → IsInOneLine l → lines (l ++ 10 ∷ ys) ≡ strip_carriage_return l ∷ lines ys
ended_line l ys one =
    ap lines_of_parts (slice_split_at (λ b. b == 10) l 10 ys one refl) ∙ ended_part l (slice_split (λ b. b == 10) ys) (omega (arith, length-slice_split (λ (b : ℕ). b == 10) ys))

by_length : (l : List ℕ) (b : Bool) → (length l == 0) ≡ b → l ≢ [] → (if length l == 0 then [] else l ∷ []) ≡ l ∷ []
by_length [] b is some = absurd (some refl)
by_length (x ∷ l) true is some = absurd (grind arith)
by_length (x ∷ l) false is some = rw is

last_part : (l : List ℕ) → l ≢ [] → lines_of_parts (l ∷ []) ≡ l ∷ []
last_part l some = by_length l (length l == 0) refl some

-- a last line without a line feed
last_line : (l : List ℕ) → IsInOneLine l → l ≢ [] → lines l ≡ l ∷ []
last_line l one some = ap lines_of_parts (slice_split_none (λ b. b == 10) l one) ∙ last_part l some

-- known bytes that begin with a line and its line feed begin with the line
pub takes_ended : (a b : Option (List ℕ)) (l : List ℕ) → IsInOneLine l → Consumes a b (l ++ 10 ∷ []) → TakesLine a b (strip_carriage_return l)
takes_ended None b l one taken = tt
takes_ended (Some xs) None l one taken = absurd taken
takes_ended (Some xs) (Some ys) l one taken = (l ++ 10 ∷ [], taken, inl (λ more. ap lines (append_assoc l (10 ∷ []) more) ∙ ended_line l more one))

-- known bytes that are a line without a line feed
pub takes_last : (a b : Option (List ℕ)) (l : List ℕ) → IsInOneLine l → l ≢ [] → Consumes a b l → IsAtEnd b → TakesLine a b l
takes_last None b l one some taken end = tt
takes_last (Some xs) None l one some taken end = absurd taken
takes_last (Some xs) (Some ys) l one some taken end = (l, taken, inr (end, last_line l one some))

-- nothing is unread, and the reader has nothing
pub end_left : (r : Option (List ℕ)) (unread : List ℕ) → unread ≡ [] → IsAtEnd r → IsAtEnd (prepend_known unread r)
end_left None unread none end = tt
end_left (Some ys) unread none end = ap (λ z. z ++ ys) none ∙ end

-- bytes are taken of what is unread
pub taken_unread : (r : Option (List ℕ)) (old new bytes : List ℕ) → old ≡ bytes ++ new → Consumes (prepend_known old r) (prepend_known new r) bytes
taken_unread None old new bytes is = tt
taken_unread (Some ys) old new bytes is = ap (λ z. z ++ ys) is ∙ append_assoc bytes new ys

-- all that is unread is taken
all_unread : (r : Option (List ℕ)) (unread : List ℕ) → Consumes (prepend_known unread r) r unread
all_unread None unread = tt
all_unread (Some ys) unread = refl

-- that is at most a chunk
within_chunk : (u : Unread) → length (unread_bytes u) ≤ 65536
within_chunk u = let ends = u.in_chunk in omega (arith, ends, length-take (u.end - u.start) (drop u.start u.chunk))

long : (l : List ℕ) → l ≢ [] → 1 ≤ length l
long [] some = absurd (some refl)
long (b ∷ l) some = omega arith

-- what a bool says, where it is known
pub whole : (b : Bool) (A B : Type 0) → b ≡ true → MatchBool b A B → A
whole true A B is h = h
whole false A B is h = absurd (cc)

pub partly : (b : Bool) (A B : Type 0) → b ≡ false → MatchBool b A B → B
partly true A B is h = absurd (cc)
partly false A B is h = h

-- what is so of any error
pub on_err : {X E : Type 0} (r : Result X E) (P : E → Type 0) → ((e : E) → P e) → IfErr r P
on_err (Ok x) P h = tt
on_err (Err e) P h = h e

-- ---- the loop over what is read

module _ {R : Type 0} (remaining : R → Option (List ℕ)) where
  -- a line was taken of what is unread
  pub line_taken : (input : Input R) (unread more : Unread) (place : ℕ) (text : List ℕ) → EndsFirstLine (unread_bytes unread) place → unread_bytes more ≡ drop (place + 1) (unread_bytes unread)
      → text ≡ strip_carriage_return (take place (unread_bytes unread)) → TakesLine (left remaining input unread) (left remaining input more) text × (most_lines input more + 1 ≤ most_lines input unread)
  line_taken input unread more place text (below, one, is) rest stripped =
      let first = take place (unread_bytes unread) in
      let all : unread_bytes unread ≡ first ++ 10 ∷ unread_bytes more = is ∙ ap (λ z. first ++ 10 ∷ z) (sym rest) in (
        subst (TakesLine (left remaining input unread) (left remaining input more)) (sym stripped)
            (takes_ended _ _ first one (taken_unread (remaining input.reader) (unread_bytes unread) (unread_bytes more) (first ++ 10 ∷ []) (all ∙ sym (append_assoc first (10 ∷ []) (unread_bytes more))))),
        omega (arith, ap length all, length-append first (10 ∷ unread_bytes more)),
      )

  -- what is unread may be of other lines
  pub unread_part : (input : Input R) (unread : Unread) → LosesPart (left remaining input unread) (remaining input.reader) 65536
  unread_part input unread = ([], unread_bytes unread, all_unread (remaining input.reader) (unread_bytes unread), All-nil (λ b. (b == 10) ≡ false), within_chunk unread)

  -- the line so far was taken, and as many lines fewer can come as it has bytes
  pub record IsGathered (first : Input R) (first_unread : Unread) (now : Input R) (unread : Unread) (line : List ℕ) : Type 0 where
    pub in_line : IsInOneLine line
    pub taken : Consumes (left remaining first first_unread) (left remaining now unread) line
    pub fewer : length line + most_lines now unread ≤ most_lines first first_unread
    pub known : IsEndKnown remaining now
    pub well : now.failures ≡ first.failures
    pub counted : now.reads_left ≤ first.reads_left

  module _ (first : Input R) (first_unread : Unread) (now : Input R) (unread : Unread) (line : List ℕ) (g : IsGathered first first_unread now unread line) where
    -- nothing was taken, and a chunk read where nothing was unread
    pub filled : (new : Input R) (more : Unread) → Consumes (left remaining now unread) (left remaining new more) [] → IsEndKnown remaining new → new.failures ≡ now.failures → new.reads_left ≤ now.reads_left
        → most_lines new more ≤ most_lines now unread → IsGathered first first_unread new more line
    filled new more kept known well counted fewer =
        let old = g.fewer in
        let reads = g.counted in
        record {
          in_line = g.in_line;
          taken = subst (Consumes (left remaining first first_unread) (left remaining new more)) (append-nil line) (Consumes-trans _ _ _ line [] g.taken kept);
          fewer = omega (arith, old, fewer);
          known = known;
          well = well ∙ g.well;
          counted = omega (arith, reads, counted);
        }

    -- behind the line so far a chunk may be unread
    pub line_and_chunk : LosesPart (left remaining first first_unread) (remaining now.reader) 65536
    line_and_chunk = (line, unread_bytes unread, Consumes-trans _ _ _ line (unread_bytes unread) g.taken (all_unread (remaining now.reader) (unread_bytes unread)), g.in_line, within_chunk unread)

    -- nothing more was read
    pub line_alone : (n : ℕ) (new : Input R) (more : Unread) → Consumes (left remaining now unread) (left remaining new more) [] → unread_bytes more ≡ [] → LosesPart (left remaining first first_unread) (remaining new.reader) n
    line_alone n new more kept none =
        let same : left remaining new more ≡ remaining new.reader = ap (λ z. prepend_known z (remaining new.reader)) none ∙ prepend_known-nil (remaining new.reader) in
        (line, [], Consumes-trans _ _ _ line [] g.taken (subst (λ z. Consumes (left remaining now unread) z []) same kept), g.in_line, omega arith)

    -- all that was unread is of the line
    pub lengthened : (more : Unread) (part longer : List ℕ) → IsInOneLine part → longer ≡ line ++ part → (unread_bytes unread ≡ part) × (unread_bytes more ≡ []) → IsGathered first first_unread now more longer
    lengthened more part longer one is (all, none) =
        let old = g.fewer in
        record {
          in_line = subst IsInOneLine (sym is) (All-append (λ b. (b == 10) ≡ false) line part g.in_line one);
          taken =
              subst (Consumes (left remaining first first_unread) (left remaining now more)) (sym is)
              (Consumes-trans _ _ _ line part g.taken (taken_unread (remaining now.reader) (unread_bytes unread) (unread_bytes more) part (all ∙ (sym (append-nil part) ∙ ap (λ z. part ++ z) (sym none)))));
          fewer = omega (arith, old, ap length is, length-append line part, ap length all, ap length none);
          known = g.known;
          well = g.well;
          counted = g.counted;
        }

    -- the line was ended by a line feed
    pub ended : (more : Unread) (part longer text : List ℕ) → IsInOneLine part → longer ≡ line ++ part → unread_bytes unread ≡ part ++ 10 ∷ unread_bytes more → text ≡ strip_carriage_return longer
        → TakesLine (left remaining first first_unread) (left remaining now more) text × (most_lines now more + 1 ≤ most_lines first first_unread)
    ended more part longer text one is all stripped =
        let old = g.fewer in
        let taken = Consumes-trans _ _ _ line (part ++ 10 ∷ []) g.taken (taken_unread (remaining now.reader) (unread_bytes unread) (unread_bytes more) (part ++ 10 ∷ []) (all ∙ sym (append_assoc part (10 ∷ []) (unread_bytes more)))) in
        let whole : line ++ (part ++ 10 ∷ []) ≡ longer ++ 10 ∷ [] = sym (append_assoc line part (10 ∷ [])) ∙ ap (λ z. z ++ 10 ∷ []) (sym is) in (
          subst (TakesLine (left remaining first first_unread) (left remaining now more)) (sym stripped)
              (takes_ended _ _ longer (subst IsInOneLine (sym is) (All-append (λ b. (b == 10) ≡ false) line part g.in_line one)) (subst (Consumes (left remaining first first_unread) (left remaining now more)) whole taken)),
          omega (arith, old, ap length all, length-append part (10 ∷ unread_bytes more)),
        )

    -- the input ended behind the line
    pub ends : line ≢ [] → unread_bytes unread ≡ [] → now.has_ended ≡ true
        → TakesLine (left remaining first first_unread) (left remaining now unread) line × (most_lines now unread + 1 ≤ most_lines first first_unread)
    ends some none ended =
        let old = g.fewer in (
          takes_last _ _ line g.in_line some g.taken (end_left (remaining now.reader) (unread_bytes unread) none (g.known ended)),
          omega (arith, old, long line some),
        )
