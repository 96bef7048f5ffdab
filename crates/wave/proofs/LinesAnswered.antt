-- What was answered, printed and shown of the lines so far, and how that ends.
use Rattle.std.proofs.Common.{ℕ, ◌≡◌, ◌≢◌, ◌+◌, ◌*◌, ◌≤◌, ◌⊎◌, Bool, true, false, List, [], ◌∷◌, ◌++◌, length, Option, Some, None, Ok, IfSome, refl, sym, ap, subst, ◌∙◌, inl, inr, arith, append_assoc, length-append}
use Rattle.std.specs.Int.{from_bool}
use Rattle.std.specs.Prelude.{MatchBool, not, ◌||◌, ◌==◌}
use Rattle.std.specs.Io.KnownBytes.{IsAtEnd, prepend_known}
use Rattle.std.specs.Str.Lines.{lines}
use Rattle.std.proofs.KnownBytes.{Appends-nil, Appends-trans, Consumes-nil, Consumes-trans}
use Rattle.std.proofs.lemmas.List.{append-nil}
use Rattle.std.proofs.lemmas.List.Elements.{All-nil}
use Rattle.wave.specs.declared.request.Request.{Request}
use Rattle.wave.specs.declared.input.Input.{Input}
use Rattle.wave.specs.declared.input.RunError.{RunError}
use Rattle.wave.specs.declared.input.RunError.TheVariants.{NotUtf8, InputFailed, OutOfMemory}
use Rattle.wave.specs.declared.lines.Unread.{Unread}
use Rattle.wave_files.specs.declared.output.Output.{Output}
use Rattle.wave.specs.declared.program.Ended.{Ended}
use Rattle.wave.specs.Answers.{words_of_fault}
use Rattle.wave.specs.ByLines.{IsLineAnswer, AreAnswered, IsStatusOf, IsPlaceShown, IsLineFault, EndsAtFault, AnswersLines, AreRead, most_unanswered}
use Rattle.wave_files.specs.Counts.{CountsOne}
use Rattle.wave.specs.Lines.{line}
use Rattle.wave.specs.Options.{unless_quiet}
use Rattle.wave.specs.ReadFaults.{IsUnread}
use Rattle.wave_files.specs.Written.{WritesWhole, WritesLess, Prints}
use Rattle.wave.specs.Private.ByLines.{IsUnansweredLine, IsNoNextAnswer, ShowsLast, Releases}
use Rattle.wave.specs.Private.InputLines.{IsCutOff, IsEndKnown, LosesPart, TakesLine, TakesLines, left, most_lines, unread_bytes}

-- ---- lines

-- the lines of known bytes
abbrev rest_of : Option (List ℕ) → List (List ℕ)
rest_of None = []
rest_of (Some bytes) = lines bytes

lines_left : (xs ys : List ℕ) (texts : List (List ℕ)) → TakesLines (Some xs) (Some ys) texts → lines xs ≡ texts ++ lines ys
lines_left xs ys texts (taken, is, inl whole) = ap lines is ∙ whole ys
lines_left xs ys texts (taken, is, inr (end, all)) =
    ap lines (is ∙ (ap (λ z. taken ++ z) end ∙ append-nil taken)) ∙ (all ∙ (sym (append-nil texts) ∙ ap (λ z. texts ++ lines z) (sym end)))

takes_more : (a b c : Option (List ℕ)) (texts : List (List ℕ)) (text : List ℕ) → TakesLines a b texts → TakesLine b c text → TakesLines a c (texts ++ text ∷ [])
takes_more None b c texts text taken next = tt
takes_more (Some xs) None c texts text taken next = absurd taken
takes_more (Some xs) (Some ys) None texts text taken next = absurd next
takes_more (Some xs) (Some ys) (Some zs) texts text (t, is, inl whole) (u, are, inl more) = (
  t ++ u,
  is ∙ (ap (λ z. t ++ z) are ∙ sym (append_assoc t u zs)),
  inl (λ m. ap lines (append_assoc t u m) ∙ (whole (u ++ m) ∙ (ap (λ z. texts ++ z) (more m) ∙ sym (append_assoc texts (text ∷ []) (lines m))))),
)
takes_more (Some xs) (Some ys) (Some zs) texts text (t, is, inl whole) (u, are, inr (end, one)) =
    (t ++ u, is ∙ (ap (λ z. t ++ z) are ∙ sym (append_assoc t u zs)), inr (end, whole u ∙ ap (λ z. texts ++ z) one))
takes_more (Some xs) (Some ys) (Some zs) texts text (t, is, inr (end, all)) next =
    let wrong : [] ≡ text ∷ lines zs = ap lines (sym end) ∙ lines_left ys zs (text ∷ []) next in
    absurd (cc wrong)

-- these are the lines of what was taken, and what is left may have no line feed but in its last n bytes
are_read : (a b c : Option (List ℕ)) (texts : List (List ℕ)) (n : ℕ) → TakesLines a b texts → LosesPart b c n → AreRead a c texts n
are_read None b c texts n taken part = tt
are_read (Some xs) None c texts n taken part = absurd taken
are_read (Some xs) (Some ys) c texts n (read, is, inl whole) (begun, last, loses, one, short) =
    (read, begun, last, Consumes-trans (Some xs) (Some ys) c read (begun ++ last) is loses, ap lines (sym (append-nil read)) ∙ (whole [] ∙ append-nil texts), one, short)
are_read (Some xs) (Some ys) c texts n (read, is, inr (end, all)) (begun, last, loses, one, short) =
    (read, begun, last, Consumes-trans (Some xs) (Some ys) c read (begun ++ last) is loses, all, one, short)

-- nothing was read
none_taken : (r : Option (List ℕ)) → TakesLines r r []
none_taken None = tt
none_taken (Some ys) = ([], refl, inl (λ more. refl))

with_rest : (a b : Option (List ℕ)) (texts : List (List ℕ)) → TakesLines a b texts → IfSome a (λ bytes. lines bytes ≡ texts ++ rest_of b)
with_rest None b texts taken = tt
with_rest (Some xs) None texts taken = absurd taken
with_rest (Some xs) (Some ys) texts taken = lines_left xs ys texts taken

with_bad : (a b c : Option (List ℕ)) (texts : List (List ℕ)) (bad : List ℕ) → TakesLines a b texts → TakesLine b c bad → IfSome a (λ bytes. lines bytes ≡ texts ++ bad ∷ rest_of c)
with_bad None b c texts bad taken next = tt
with_bad (Some xs) None c texts bad taken next = absurd taken
with_bad (Some xs) (Some ys) None texts bad taken next = absurd next
with_bad (Some xs) (Some ys) (Some zs) texts bad taken next = lines_left xs ys texts taken ∙ ap (λ z. texts ++ z) (lines_left ys zs (bad ∷ []) next)

no_rest : (b : Option (List ℕ)) → IsAtEnd b → rest_of b ≡ []
no_rest None end = refl
no_rest (Some ys) end = ap lines end

no_lines : (r : Option (List ℕ)) (unread : List ℕ) → unread ≡ [] → TakesLines r (prepend_known unread r) []
no_lines None unread none = tt
no_lines (Some ys) unread none = ([], sym (ap (λ z. z ++ ys) none), inl (λ more. refl))

-- ---- answers

answered_more : (request : Request) (number : ℕ) (texts : List (List ℕ)) (said shown text answer explained : List ℕ)
    → AreAnswered request number texts said shown → IsLineAnswer request (number + length texts) text answer explained
    → AreAnswered request number (texts ++ text ∷ []) (said ++ line answer) (shown ++ explained)
answered_more request number [] said shown text answer explained (none, nothing) is =
    let same : number + 0 ≡ number = omega arith in (
      answer,
      explained,
      [],
      [],
      subst (λ n. IsLineAnswer request n text answer explained) same is,
      (refl, refl),
      ap (λ z. z ++ line answer) none ∙ sym (append-nil (line answer)),
      ap (λ z. z ++ explained) nothing ∙ sym (append-nil explained),
    )
answered_more request number (t ∷ ts) said shown text answer explained (a, e, answers, others, first, more, said_is, shown_is) is =
    let same : number + length (t ∷ ts) ≡ number + 1 + length ts = omega arith in (
      a,
      e,
      answers ++ line answer,
      others ++ explained,
      first,
      answered_more request (number + 1) ts answers others text answer explained more (subst (λ n. IsLineAnswer request n text answer explained) same is),
      ap (λ z. z ++ line answer) said_is ∙ append_assoc (line a) answers (line answer),
      ap (λ z. z ++ explained) shown_is ∙ append_assoc e others explained,
    )

longer : (x y : List ℕ) → x ≢ [] → x ++ y ≢ []
longer [] y some is = some refl
longer (b ∷ x) y some is = cc

-- ---- what was written

module _ {W : Type 0} (contents : W → Option (List ℕ)) where
  whole_nothing : (a : Output W) → WritesWhole contents a a []
  whole_nothing a = (Appends-nil (contents a.writer), refl)

  whole_whole : (a b c : Output W) (s t : List ℕ) → WritesWhole contents a b s → WritesWhole contents b c t → WritesWhole contents a c (s ++ t)
  whole_whole a b c s t (first, well) (later, fine) = (Appends-trans _ _ _ s t first later, fine ∙ well)

  whole_less : (a b c : Output W) (s t : List ℕ) → WritesWhole contents a b s → WritesLess contents b c t → WritesLess contents a c (s ++ t)
  whole_less a b c s t (first, well) (one, prefix, rest, is, some, later) =
      (subst (λ n. CountsOne n c.failures) well one, s ++ prefix, rest, ap (λ z. s ++ z) is ∙ sym (append_assoc s prefix rest), some, Appends-trans _ _ _ s prefix first later)

  pub less_more : (a b : Output W) (s t : List ℕ) → WritesLess contents a b s → WritesLess contents a b (s ++ t)
  less_more a b s t (one, prefix, rest, is, some, wrote) = (one, prefix, rest ++ t, ap (λ z. z ++ t) is ∙ append_assoc prefix rest t, longer rest t some, wrote)

  -- a fault was reported behind what was printed
  ends_behind : (quiet : Bool) (a b c : Output W) (fault : RunError) (number count : ℕ) (s t last : List ℕ) (ended : Ended) → WritesWhole contents a b s → number ≡ count → EndsAtFault contents quiet b c fault number t last ended → EndsAtFault contents quiet a c fault count (s ++ t) last ended
  ends_behind quiet a b c fault number count s t last ended whole same (three, inl (later, shown)) = (
    three,
    inl (
      subst (WritesWhole contents a c) (sym (append_assoc s t (unless_quiet quiet (line (words_of_fault fault))))) (whole_whole a b c s (t ++ unless_quiet quiet (line (words_of_fault fault))) whole later),
      subst (λ n. IsPlaceShown n fault last ended.shown) same shown,
    ),
  )
  ends_behind quiet a b c fault number count s t last ended whole same (three, inr (later, nothing)) =
      (three, inr (subst (WritesLess contents a c) (sym (append_assoc s t (unless_quiet quiet (line (words_of_fault fault))))) (whole_less a b c s (t ++ unless_quiet quiet (line (words_of_fault fault))) whole later), nothing))

  -- all that was held was written, and one text more, or a beginning of it
  none_held : (s prefix rest : List ℕ) → s ≡ prefix ++ rest → rest ≡ [] → s ≡ prefix
  none_held s prefix rest is none = is ∙ (ap (λ z. prefix ++ z) none ∙ append-nil prefix)

  pub released_with : (a b c : Output W) (s t rest : List ℕ) → Releases contents a b s rest → rest ≡ [] → WritesWhole contents b c t → Releases contents a c (s ++ t) rest
  released_with a b c s t rest (prefix, is, wrote) none later =
      (prefix ++ t, ap (λ z. z ++ t) (none_held s prefix rest is none) ∙ (sym (append-nil (prefix ++ t)) ∙ ap (λ z. (prefix ++ t) ++ z) (sym none)), whole_whole a b c prefix t wrote later)

  pub released_less : (a b c : Output W) (s t rest : List ℕ) → Releases contents a b s rest → rest ≡ [] → WritesLess contents b c t → WritesLess contents a c (s ++ t)
  released_less a b c s t rest (prefix, is, wrote) none less = subst (λ z. WritesLess contents a c (z ++ t)) (sym (none_held s prefix rest is none)) (whole_less a b c prefix t wrote less)

  -- the answers that wait were not written whole, or a fault behind them was not reported whole, or it was
  pub unwritten : (quiet : Bool) (a b : Output W) (fault : RunError) (number : ℕ) (s : List ℕ) (ended : Ended) → WritesLess contents a b s → ended.status ≡ 3 → ended.shown ≡ Ok tt → EndsAtFault contents quiet a b fault number s [] ended
  unwritten quiet a b fault number s ended less three silent = (three, inr (less_more a b s (unless_quiet quiet (line (words_of_fault fault))) less, (refl, silent)))

  pub unreported : (quiet : Bool) (a b c : Output W) (fault : RunError) (number : ℕ) (s : List ℕ) (ended : Ended) → WritesWhole contents a b s → WritesLess contents b c (unless_quiet quiet (line (words_of_fault fault))) → ended.status ≡ 3 → ended.shown ≡ Ok tt
      → EndsAtFault contents quiet a c fault number s [] ended
  unreported quiet a b c fault number s ended whole less three silent = (three, inr (whole_less a b c s (unless_quiet quiet (line (words_of_fault fault))) whole less, (refl, silent)))

  pub all_reported : (quiet : Bool) (a b c : Output W) (fault : RunError) (number : ℕ) (s last : List ℕ) (ended : Ended) → WritesWhole contents a b s → WritesWhole contents b c (unless_quiet quiet (line (words_of_fault fault))) → ended.status ≡ 3 → IsPlaceShown number fault last ended.shown
      → EndsAtFault contents quiet a c fault number s last ended
  all_reported quiet a b c fault number s last ended whole later three is = (three, inl (whole_whole a b c s (unless_quiet quiet (line (words_of_fault fault))) whole later, is))

  -- the explanations were written while all writes went well
  reported_more : (a b c : Output W) (s t : List ℕ) (was is : Bool) → MatchBool was (WritesWhole contents a b s) (WritesLess contents a b s)
      → (was ≡ true → is ≡ true → WritesWhole contents b c t) → (was ≡ true → is ≡ false → WritesLess contents b c t) → (was ≡ false → (c ≡ b) × (is ≡ false))
      → MatchBool is (WritesWhole contents a c (s ++ t)) (WritesLess contents a c (s ++ t))
  reported_more a b c s t true true reported whole less none = whole_whole a b c s t reported (whole refl refl)
  reported_more a b c s t true false reported whole less none = whole_less a b c s t reported (less refl refl)
  reported_more a b c s t false true reported whole less none = let h = none refl in absurd (cc (h.1))
  reported_more a b c s t false false reported whole less none = let h = none refl in subst (λ z. WritesLess contents a z (s ++ t)) (sym h.0) (less_more a b s t reported)

  either_reported : (a b : Output W) (s : List ℕ) (is : Bool) → MatchBool is (WritesWhole contents a b s) (WritesLess contents a b s) → WritesWhole contents a b s ⊎ WritesLess contents a b s
  either_reported a b s true reported = inl reported
  either_reported a b s false reported = inr reported

  -- one text more was written, or not as a write had failed
  reported_last : (a b c : Output W) (s t : List ℕ) (is : Bool) → MatchBool is (WritesWhole contents a b s) (WritesLess contents a b s) → ShowsLast contents b c is t → WritesWhole contents a c (s ++ t) ⊎ WritesLess contents a c (s ++ t)
  reported_last a b c s t true reported (inl whole) = inl (whole_whole a b c s t reported whole)
  reported_last a b c s t true reported (inr less) = inr (whole_less a b c s t reported less)
  reported_last a b c s t false reported same = inr (subst (λ z. WritesLess contents a z (s ++ t)) (sym same) (less_more a b s t reported))

  -- nothing more was
  reported_all : (a b : Output W) (s : List ℕ) (is : Bool) → MatchBool is (WritesWhole contents a b s) (WritesLess contents a b s) → WritesWhole contents a b (s ++ []) ⊎ WritesLess contents a b (s ++ [])
  reported_all a b s is reported = subst (λ z. WritesWhole contents a b z ⊎ WritesLess contents a b z) (sym (append-nil s)) (either_reported a b s is reported)

  -- one text more was, or not where a write had failed
  pub shows_last : (a b : Output W) (t : List ℕ) (was is : Bool) → (was ≡ true → is ≡ true → WritesWhole contents a b t) → (was ≡ true → is ≡ false → WritesLess contents a b t)
      → (was ≡ false → (b ≡ a) × (is ≡ false)) → ShowsLast contents a b was t
  shows_last a b t true true whole less none = inl (whole refl refl)
  shows_last a b t true false whole less none = inr (less refl refl)
  shows_last a b t false is whole less none = (none refl).0

  -- nothing was written
  pub shows_nothing : (a : Output W) (is : Bool) → ShowsLast contents a a is []
  shows_nothing a true = inl (whole_nothing a)
  shows_nothing a false = refl

-- whether anything is shown
refused_more : (s t : List ℕ) (was empty : Bool) → MatchBool was (s ≢ []) (s ≡ []) → MatchBool empty (t ≡ []) (t ≢ []) → MatchBool (was || not empty) (s ++ t ≢ []) (s ++ t ≡ [])
refused_more s t true empty old new = longer s t old
refused_more s t false true old new = ap (λ z. z ++ t) old ∙ new
refused_more s t false false old new = λ is. new (ap (λ z. z ++ t) (sym old) ∙ is)

status_of : (shown : List ℕ) (refused : Bool) (status : ℕ) → MatchBool refused (shown ≢ []) (shown ≡ []) → status ≡ from_bool refused → IsStatusOf shown status
status_of shown true status is e = inr (e, is)
status_of shown false status is e = inl (e, is)

cut_from : {R : Type 0} (rest : List (List ℕ)) (first now new : Input R) → now.failures ≡ first.failures → IsCutOff now new InputFailed → IsUnread first new
cut_from rest first now new well (inl (one, goes_on)) = inl (subst (λ n. CountsOne n new.failures) well one, goes_on)
cut_from rest first now new well (inr (none, goes_on, fine)) = inr (inl (none, goes_on, fine ∙ well))

-- why a line that was taken is not answered
pub taken_unanswered : {R : Type 0} (left rest : Option (List ℕ)) (text : List ℕ) (old new : Input R) (fault : RunError) → TakesLine left rest text → new.failures ≡ old.failures → IsUnansweredLine text fault → IsNoNextAnswer left rest old new fault
taken_unanswered left rest text old new (NotUtf8 place) taken fine is = (text, taken, is, fine)
taken_unanswered left rest text old new InputFailed taken fine is = absurd is
taken_unanswered left rest text old new OutOfMemory taken fine is = fine

-- what is empty has no bytes
pub emptiness : (t : List ℕ) (empty : Bool) → empty ≡ (length t == 0) → MatchBool empty (t ≡ []) (t ≢ [])
emptiness [] true e = refl
emptiness [] false e = absurd (cc e)
emptiness (b ∷ t) true e = absurd (grind arith)
emptiness (b ∷ t) false e = λ is. cc

-- ---- the loop over the lines

module _ {R W E : Type 0} (remaining : R → Option (List ℕ)) (contents : W → Option (List ℕ)) (held : E → Option (List ℕ)) where
  -- the first lines were answered, of which some answers wait, the next has this number, and as many as the input has bytes can come
  pub record AreAnsweredSoFar (request : Request) (first now : Input R) (unread : Unread) (before after : Output W) (waiting : List ℕ) (errors_before errors_after : Output E) (number : ℕ) (is_refused is_shown : Bool) : Type 0 where
    pub texts : List (List ℕ)
    pub said : List ℕ
    pub written : List ℕ
    pub shown : List ℕ
    pub taken : TakesLines (remaining first.reader) (left remaining now unread) texts
    pub answered : AreAnswered request 1 texts said shown
    pub said_is : said ≡ written ++ waiting
    pub printed : WritesWhole contents before after written
    pub reported : MatchBool is_shown (WritesWhole held errors_before errors_after shown) (WritesLess held errors_before errors_after shown)
    pub refused : MatchBool is_refused (shown ≢ []) (shown ≡ [])
    pub number_is : number ≡ 1 + length texts
    pub fewer : number + most_lines now unread ≤ first.reads_left * 65537 + 1
    pub known : IsEndKnown remaining now
    pub well : now.failures ≡ first.failures
    pub counted : now.reads_left ≤ first.reads_left

  -- nothing was read
  pub at_start : (request : Request) (first : Input R) (unread : Unread) (before : Output W) (waiting : List ℕ) (errors : Output E) → unread_bytes unread ≡ [] → waiting ≡ [] → first.has_ended ≡ false
      → AreAnsweredSoFar request first first unread before before waiting errors errors 1 false true
  at_start request first unread before waiting errors none no_answers goes_on = record {
    texts = [];
    said = [];
    written = [];
    shown = [];
    taken = no_lines (remaining first.reader) (unread_bytes unread) none;
    answered = (refl, refl);
    said_is = sym no_answers;
    printed = whole_nothing contents before;
    reported = whole_nothing held errors;
    refused = refl;
    number_is = refl;
    fewer = omega (arith, ap length none);
    known = λ ended. absurd (cc (goes_on, ended));
    well = refl;
    counted = omega arith;
  }

  -- the input had ended before
  pub had_ended : (quiet : Bool) (request : Request) (first : Input R) (before after : Output W) (errors_before errors_after : Output E) (ended : Ended) → first.has_ended ≡ true
      → (last : List ℕ) × EndsAtFault contents quiet before after InputFailed 1 [] last ended × ShowsLast held errors_before errors_after true last
      → AnswersLines contents held quiet request (remaining first.reader) (remaining first.reader) first first before after errors_before errors_after ended
  had_ended quiet request first before after errors_before errors_after ended had (last, ends, shows) = record {
    texts = [];
    rest = rest_of (remaining first.reader);
    said = [];
    shown = [];
    last = last;
    are_lines = with_rest (remaining first.reader) (remaining first.reader) [] (none_taken (remaining first.reader));
    answered = (refl, refl);
    ends = inr (inl (InputFailed, inr (inr (had, refl)), are_read _ _ _ [] 0 (none_taken (remaining first.reader)) ([], [], Consumes-nil (remaining first.reader), All-nil (λ b. (b == 10) ≡ false), omega arith), ends));
    reported = shows;
  }

  module _ (quiet : Bool) (request : Request) (first now : Input R) (unread : Unread) (before after : Output W) (waiting : List ℕ) (errors_before errors_after : Output E) (number : ℕ) (is_refused is_shown : Bool)
      (g : AreAnsweredSoFar request first now unread before after waiting errors_before errors_after number is_refused is_shown) where
    -- a beginning of the answers that wait was written
    pub released : (later : Output W) (rest : List ℕ) → Releases contents after later waiting rest → AreAnsweredSoFar request first now unread before later rest errors_before errors_after number is_refused is_shown
    released later rest (prefix, is, wrote) = record {
      texts = g.texts;
      said = g.said;
      written = g.written ++ prefix;
      shown = g.shown;
      taken = g.taken;
      answered = g.answered;
      said_is = g.said_is ∙ (ap (λ z. g.written ++ z) is ∙ sym (append_assoc g.written prefix rest));
      printed = whole_whole contents before after later g.written prefix g.printed wrote;
      reported = g.reported;
      refused = g.refused;
      number_is = g.number_is;
      fewer = g.fewer;
      known = g.known;
      well = g.well;
      counted = g.counted;
    }

    -- they were not written whole
    pub cut_short : (new : Input R) (later : Output W) (ended : Ended) → WritesLess contents after later waiting → ended.status ≡ 3 → ended.shown ≡ Ok tt
        → AnswersLines contents held quiet request (remaining first.reader) (remaining new.reader) first new before later errors_before errors_after ended
    cut_short new later ended wrote three silent = record {
      texts = g.texts;
      rest = rest_of (left remaining now unread);
      said = g.said;
      shown = g.shown;
      last = [];
      are_lines = with_rest _ _ g.texts g.taken;
      answered = g.answered;
      ends = inr (inr (three, subst (WritesLess contents before later) (sym g.said_is) (whole_less contents before after later g.written waiting g.printed wrote), (refl, silent)));
      reported = reported_all held errors_before errors_after g.shown is_shown g.reported;
    }

    -- the input has no more lines
    pub all_answered : (new : Input R) (later : Output W) (printed : List ℕ) (status result : ℕ) (ended : Ended) → first.has_ended ≡ false → IsAtEnd (left remaining now unread) → new.has_ended ≡ true → new.failures ≡ now.failures → status ≡ from_bool is_refused
        → printed ≡ waiting → Prints contents after later printed status result → ended.status ≡ result → ended.shown ≡ Ok tt → AnswersLines contents held quiet request (remaining first.reader) (remaining new.reader) first new before later errors_before errors_after ended
    all_answered new later printed status result ended goes_on end at_end fine is all (inr (three, wrote)) same silent = cut_short new later ended (subst (WritesLess contents after later) all wrote) (same ∙ three) silent
    all_answered new later printed status result ended goes_on end at_end fine is all (inl (expected, wrote)) same silent = record {
      texts = g.texts;
      rest = rest_of (left remaining now unread);
      said = g.said;
      shown = g.shown;
      last = [];
      are_lines = with_rest _ _ g.texts g.taken;
      answered = g.answered;
      ends =
          inl (
            no_rest (left remaining now unread) end,
            (goes_on, at_end, fine ∙ g.well),
            status_of g.shown is_refused ended.status g.refused (same ∙ (expected ∙ is)),
            subst (WritesWhole contents before later) (sym g.said_is) (whole_whole contents before after later g.written waiting g.printed (subst (WritesWhole contents after later) all wrote)),
            (refl, silent),
          );
      reported = reported_all held errors_before errors_after g.shown is_shown g.reported;
    }

    module _ (new : Input R) (more : Unread) (later : Output W) (errors_then : Output E) (ended : Ended) where
      -- a fault is reported in place of the next line
      faulty : (fault : RunError) (last : List ℕ) (rest : List (List ℕ)) → IfSome (remaining first.reader) (λ bytes. lines bytes ≡ g.texts ++ rest) → IsLineFault rest first new fault
          → LosesPart (left remaining now unread) (remaining new.reader) (most_unanswered fault) → EndsAtFault contents quiet after later fault number waiting last ended → ShowsLast held errors_after errors_then is_shown last
          → AnswersLines contents held quiet request (remaining first.reader) (remaining new.reader) first new before later errors_before errors_then ended
      faulty fault last rest are is loses ends shows = record {
        texts = g.texts;
        rest = rest;
        said = g.said;
        shown = g.shown;
        last = last;
        are_lines = are;
        answered = g.answered;
        ends =
            inr (inl (fault, is, are_read _ _ _ g.texts (most_unanswered fault) g.taken loses, subst (λ z. EndsAtFault contents quiet before later fault (1 + length g.texts) z last ended) (sym g.said_is) (ends_behind contents quiet before after later fault number (1 + length g.texts) g.written waiting last ended g.printed g.number_is ends)));
        reported = reported_last held errors_before errors_after errors_then g.shown last is_shown g.reported shows;
      }

      -- the next line is not answered
      pub cut_off : (fault : RunError) → IsNoNextAnswer (left remaining now unread) (left remaining new more) now new fault
          → LosesPart (left remaining now unread) (remaining new.reader) 65536 → (fault ≡ InputFailed → LosesPart (left remaining now unread) (remaining new.reader) 0)
          → (last : List ℕ) × EndsAtFault contents quiet after later fault number waiting last ended × ShowsLast held errors_after errors_then is_shown last
          → AnswersLines contents held quiet request (remaining first.reader) (remaining new.reader) first new before later errors_before errors_then ended
      cut_off (NotUtf8 place) (bad, next, wrong, fine) loses none (last, ends, shows) =
          faulty (NotUtf8 place) last (bad ∷ rest_of (left remaining new more)) (with_bad _ _ _ g.texts bad g.taken next) (bad, rest_of (left remaining new more), refl, wrong, fine ∙ g.well) loses ends shows
      cut_off InputFailed cut loses none (last, ends, shows) =
          faulty InputFailed last (rest_of (left remaining now unread)) (with_rest _ _ g.texts g.taken) (cut_from (rest_of (left remaining now unread)) first now new g.well cut) (none refl) ends shows
      cut_off OutOfMemory fine loses none (last, ends, shows) = faulty OutOfMemory last (rest_of (left remaining now unread)) (with_rest _ _ g.texts g.taken) (fine ∙ g.well) loses ends shows

    module _ (new : Input R) (more : Unread) (text answer explained printed : List ℕ) (next : TakesLine (left remaining now unread) (left remaining new more) text) (is : IsLineAnswer request number text answer explained)
        (printed_is : printed ≡ line answer) (errors_then : Output E) (shows : Bool)
        (whole : is_shown ≡ true → shows ≡ true → WritesWhole held errors_after errors_then explained) (less : is_shown ≡ true → shows ≡ false → WritesLess held errors_after errors_then explained)
        (none : is_shown ≡ false → (errors_then ≡ errors_after) × (shows ≡ false)) where
      reported_then : MatchBool shows (WritesWhole held errors_before errors_then (g.shown ++ explained)) (WritesLess held errors_before errors_then (g.shown ++ explained))
      reported_then = reported_more held errors_before errors_after errors_then g.shown explained is_shown shows g.reported whole less none

      answered_then : AreAnswered request 1 (g.texts ++ text ∷ []) (g.said ++ line answer) (g.shown ++ explained)
      answered_then = answered_more request 1 g.texts g.said g.shown text answer explained g.answered (subst (λ n. IsLineAnswer request n text answer explained) g.number_is is)

      -- the answers so far, of which a beginning was written
      said_then : g.said ++ line answer ≡ g.written ++ (waiting ++ printed)
      said_then = ap (λ z. z ++ line answer) g.said_is ∙ (append_assoc g.written waiting (line answer) ∙ ap (λ z. g.written ++ (waiting ++ z)) (sym printed_is))

      -- the next line was answered
      pub one_answered : (later : Output W) (rest : List ℕ) (empty : Bool) → Releases contents after later (waiting ++ printed) rest → MatchBool empty (explained ≡ []) (explained ≢ [])
          → most_lines new more + 1 ≤ most_lines now unread → IsEndKnown remaining new → new.failures ≡ now.failures → new.reads_left ≤ now.reads_left
          → AreAnsweredSoFar request first new more before later rest errors_before errors_then (number + 1) (is_refused || not empty) shows
      one_answered later rest empty (prefix, is_prefix, wrote) emptiness progress known fine fewer_reads =
          let old = g.fewer in
          let numbered = g.number_is in
          let reads = g.counted in
          record {
            texts = g.texts ++ text ∷ [];
            said = g.said ++ line answer;
            written = g.written ++ prefix;
            shown = g.shown ++ explained;
            taken = takes_more _ _ _ g.texts text g.taken next;
            answered = answered_then;
            said_is = said_then ∙ (ap (λ z. g.written ++ z) is_prefix ∙ sym (append_assoc g.written prefix rest));
            printed = whole_whole contents before after later g.written prefix g.printed wrote;
            reported = reported_then;
            refused = refused_more g.shown explained is_refused empty g.refused emptiness;
            number_is = omega (arith, numbered, length-append g.texts (text ∷ []));
            fewer = omega (arith, old, progress);
            known = known;
            well = fine ∙ g.well;
            counted = omega (arith, reads, fewer_reads);
          }

      -- its answer and those that wait were not written whole
      pub cut_behind : (later : Output W) (ended : Ended) → WritesLess contents after later (waiting ++ printed) → ended.status ≡ 3 → ended.shown ≡ Ok tt
          → AnswersLines contents held quiet request (remaining first.reader) (remaining new.reader) first new before later errors_before errors_then ended
      cut_behind later ended wrote three silent = record {
        texts = g.texts ++ text ∷ [];
        rest = rest_of (left remaining new more);
        said = g.said ++ line answer;
        shown = g.shown ++ explained;
        last = [];
        are_lines = with_rest _ _ (g.texts ++ text ∷ []) (takes_more _ _ _ g.texts text g.taken next);
        answered = answered_then;
        ends = inr (inr (three, subst (WritesLess contents before later) (sym (said_then)) (whole_less contents before after later g.written (waiting ++ printed) g.printed wrote), (refl, silent)));
        reported = reported_all held errors_before errors_then (g.shown ++ explained) shows reported_then;
      }
