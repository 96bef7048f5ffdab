-- The entries of files, one more at a time.
use Rattle.std.proofs.Common.{ℕ, zero, suc, ◌≡◌, ◌<◌, ◌≤◌, Bool, true, false, List, [], ◌∷◌, ◌++◌, length, take, drop, get_or, Option, Some, None, IfSome, MatchOption, Result, Ok, Err, IfOk, String, Global, refl, sym, ap, subst, ◌∙◌, inl, inr, arith, string_bytes, take-append-drop}
use Rattle.std.specs.Prelude.{MatchBool, fold}
use Rattle.std.specs.List.{flat_map}
use Rattle.std.proofs.lemmas.List.{flat_map_more}
use Rattle.wave_files.specs.declared.answers.Answer.{Answer}
use Rattle.wave_files.specs.declared.answers.FileName.{FileName}
use Rattle.wave_files.specs.declared.answers.Tally.{Tally}
use Rattle.wave_files.specs.declared.folder.FileError.{FileError}
use Rattle.wave_files.specs.declared.folder.FileError.TheVariants.{OutOfMemory, Failed}
use Rattle.wave_files.specs.declared.output.Output.{Output}
use Rattle.wave_files.specs.Answers.{Entry, IsEntryOrMemory, AreEntries, IsNoEntry, failed_entry, AnswersFiles, add, none_counted, tally_of}
use Rattle.wave_files.specs.Folders.{IsOfUnknown, Keeps, Replaces}
use Rattle.wave_files.specs.Written.{WritesWhole, WritesLess}
use Rattle.wave_files.proofs.Outputs.{whole_nothing, whole_whole, whole_less, reported_more, either_reported}

-- a file that the system refused: nothing is known of it
pub refused_so : (known : Option (List ℕ)) (name : FileName) (what : List ℕ) (error : FileError) (entry : Entry) → IsOfUnknown known error → IsNoEntry name what error entry
    → (w : List ℕ) × (reason : List ℕ) × (known ≡ None) × (entry ≡ failed_entry name w reason)
refused_so known name what OutOfMemory entry unknown none = absurd none
refused_so known name what (Failed reason) entry unknown is = (what, string_bytes reason, unknown, is)

-- what holds of what is answered
pub ok_so : {A E : Type 0} {P Q : A → Type 0} (r : Result A E) → ((a : A) → P a → Q a) → IfOk r P → IfOk r Q
ok_so (Ok a) f h = f a h
ok_so (Err e) f h = tt

-- a file that is replaced, or not, behind a step that keeps each
module _ {F : Type 0} (holds : F → List ℕ → Option (List ℕ)) (old middle new after : F) (path : List ℕ) (keeps : Keeps (holds old) (holds middle)) (r : Option (String Global)) where
  pub replaced_so : (name bytes : List ℕ) (s : String Global) → Replaces (holds middle) (holds new) name bytes → name ≡ path → bytes ≡ string_bytes s → after ≡ new → r ≡ Some s
      → MatchOption r (Keeps (holds old) (holds after)) (λ s. Replaces (holds old) (holds after) path (string_bytes s))
  replaced_so name bytes s replaces same_name same_bytes same some = rw some (subst (λ f. Replaces (holds old) (holds f) path (string_bytes s)) (sym same) there) where
    moved : Replaces (holds middle) (holds new) path (string_bytes s)
    moved = subst (λ n. Replaces (holds middle) (holds new) n (string_bytes s)) same_name (subst (Replaces (holds middle) (holds new) name) same_bytes replaces)

    there : Replaces (holds old) (holds new) path (string_bytes s)
    there = record {
      here = subst (λ o. IfSome o (λ _. holds new path ≡ Some (string_bytes s))) (keeps path) moved.here;
      others = λ other unlike. moved.others other unlike ∙ keeps other;
    }

  pub kept_so : after ≡ middle → r ≡ None → MatchOption r (Keeps (holds old) (holds after)) (λ s. Replaces (holds old) (holds after) path (string_bytes s))
  kept_so same none = rw none (subst (λ f. Keeps (holds old) (holds f)) (sym same) keeps)

-- the next of the names
take_more : (names : List FileName) (place : ℕ) (name : FileName) → place < length names → name ≡ get_or names place name → take (suc place) names ≡ take place names ++ name ∷ []
take_more [] place name less is = absurd (omega (arith, less))
take_more (first ∷ names) zero name less is = ap (λ z. z ∷ []) (sym is)
take_more (first ∷ names) (suc place) name less is = ap (λ z. first ∷ z) (take_more names place name (omega (arith, less)) is)

take_all : (names : List FileName) (place : ℕ) → length names ≤ place → names ≡ take place names ++ []
take_all [] zero all = refl
take_all [] (suc place) all = refl
take_all (name ∷ names) zero all = absurd (omega (arith, all))
take_all (name ∷ names) (suc place) all = ap (λ z. name ∷ z) (take_all names place (omega (arith, all)))

-- the files of one entry more are counted
tally_more : (entries : List Entry) (entry : Entry) → tally_of (entries ++ entry ∷ []) ≡ add (tally_of entries) entry.faults entry.status
tally_more entries entry = from none_counted entries where
  from : (t : Tally) (es : List Entry) → fold (λ (t : Tally) (e : Entry). add t e.faults e.status) t (es ++ entry ∷ []) ≡ add (fold (λ (t : Tally) (e : Entry). add t e.faults e.status) t es) entry.faults entry.status
  from t [] = refl
  from t (e ∷ es) = from (add t e.faults e.status) es

module _ {F J : Type 0} (holds : F → List ℕ → Option (List ℕ)) (answers : J → FileName → List ℕ → Answer → Type 0) (job : J) where
  are_more : (old now new : F) (names : List FileName) (entries : List Entry) (name : FileName) (entry : Entry) → AreEntries holds answers job old now names entries → IsEntryOrMemory holds answers job now new name entry
      → AreEntries holds answers job old new (names ++ name ∷ []) (entries ++ entry ∷ [])
  are_more old now new [] [] name entry same one = (new, subst (λ f. IsEntryOrMemory holds answers job f new name entry) same one, refl)
  are_more old now new [] (e ∷ entries) name entry are one = absurd are
  are_more old now new (n ∷ names) [] name entry are one = absurd are
  are_more old now new (n ∷ names) (e ∷ entries) name entry (middle, first, others) one = (middle, first, are_more middle now new names entries name entry others one)

  module _ {W E : Type 0} (contents : W → Option (List ℕ)) (held : E → Option (List ℕ)) (names : List FileName) (old : F) (before : Output W) (errors_before : Output E) where
    -- the files before this place are answered
    pub record AreAnsweredTo (now : F) (after : Output W) (errors_now : Output E) (place : ℕ) (tally : Tally) (is_shown : Bool) : Type 0 where
      pub entries : List Entry
      pub entries_are : AreEntries holds answers job old now (take place names) entries
      pub tally_is : tally ≡ tally_of entries
      pub printed : WritesWhole contents before after (flat_map (λ (e : Entry). e.printed) entries)
      pub reported : MatchBool is_shown (WritesWhole held errors_before errors_now (flat_map (λ (e : Entry). e.shown) entries)) (WritesLess held errors_before errors_now (flat_map (λ (e : Entry). e.shown) entries))

    pub at_start : (tally : Tally) → tally ≡ none_counted → AreAnsweredTo old before errors_before 0 tally true
    at_start tally is = record {
      entries = [];
      entries_are = refl;
      tally_is = is;
      printed = whole_nothing contents before;
      reported = whole_nothing held errors_before;
    }

    module _ (now new : F) (after later : Output W) (errors_now errors_then : Output E) (place : ℕ) (tally : Tally) (was is : Bool) (so : AreAnsweredTo now after errors_now place tally was)
        (name : FileName) (entry : Entry) (less : place < length names) (at : name ≡ get_or names place name) (one : IsEntryOrMemory holds answers job now new name entry)
        (whole : was ≡ true → is ≡ true → WritesWhole held errors_now errors_then entry.shown) (cut : was ≡ true → is ≡ false → WritesLess held errors_now errors_then entry.shown) (none : was ≡ false → (errors_then ≡ errors_now) × (is ≡ false)) where
      entries_then : AreEntries holds answers job old new (take (suc place) names) (so.entries ++ entry ∷ [])
      entries_then = subst (λ ns. AreEntries holds answers job old new ns (so.entries ++ entry ∷ [])) (sym (take_more names place name less at)) (are_more old now new (take place names) so.entries name entry so.entries_are one)

      tally_then : add tally entry.faults entry.status ≡ tally_of (so.entries ++ entry ∷ [])
      tally_then = ap (λ t. add t entry.faults entry.status) so.tally_is ∙ sym (tally_more so.entries entry)

      reported_then : MatchBool is (WritesWhole held errors_before errors_then (flat_map (λ (e : Entry). e.shown) (so.entries ++ entry ∷ []))) (WritesLess held errors_before errors_then (flat_map (λ (e : Entry). e.shown) (so.entries ++ entry ∷ [])))
      reported_then =
          subst (λ t. MatchBool is (WritesWhole held errors_before errors_then t) (WritesLess held errors_before errors_then t)) (flat_map_more (λ (e : Entry). e.shown) [] so.entries entry)
          (reported_more held errors_before errors_now errors_then (flat_map (λ (e : Entry). e.shown) so.entries) entry.shown was is so.reported whole cut none)

      -- one more is
      pub one_more : (counted : Tally) → counted ≡ add tally entry.faults entry.status → WritesWhole contents after later entry.printed → AreAnsweredTo new later errors_then (suc place) counted is
      one_more counted same wrote = record {
        entries = so.entries ++ entry ∷ [];
        entries_are = entries_then;
        tally_is = same ∙ tally_then;
        printed = subst (WritesWhole contents before later) (flat_map_more (λ (e : Entry). e.printed) [] so.entries entry) (whole_whole contents before after later (flat_map (λ (e : Entry). e.printed) so.entries) entry.printed so.printed wrote);
        reported = reported_then;
      }

      -- one more is, and what is printed of it was not written whole
      pub cut_short : (counted : Tally) → counted.faults ≡ (add tally entry.faults entry.status).faults → counted.faulty ≡ (add tally entry.faults entry.status).faulty → counted.status ≡ 3 → WritesLess contents after later entry.printed
          → AnswersFiles holds answers contents held job names old new before later errors_before errors_then counted
      cut_short counted same_faults same_faulty three wrote = record {
        answered = take (suc place) names;
        rest = drop (suc place) names;
        entries = so.entries ++ entry ∷ [];
        names_are = sym (take-append-drop (suc place) names);
        entries_are = entries_then;
        faults_are = same_faults ∙ ap (λ (t : Tally). t.faults) tally_then;
        faulty_are = same_faulty ∙ ap (λ (t : Tally). t.faulty) tally_then;
        printed = inr (three, subst (WritesLess contents before later) (flat_map_more (λ (e : Entry). e.printed) [] so.entries entry) (whole_less contents before after later (flat_map (λ (e : Entry). e.printed) so.entries) entry.printed so.printed wrote));
        reported = either_reported held errors_before errors_then _ is reported_then;
      }

    -- all are
    pub all_answered : (now : F) (after : Output W) (errors_now : Output E) (place : ℕ) (tally : Tally) (is_shown : Bool) → AreAnsweredTo now after errors_now place tally is_shown → length names ≤ place
        → AnswersFiles holds answers contents held job names old now before after errors_before errors_now tally
    all_answered now after errors_now place tally is_shown so all = record {
      answered = take place names;
      rest = [];
      entries = so.entries;
      names_are = take_all names place all;
      entries_are = so.entries_are;
      faults_are = ap (λ (t : Tally). t.faults) so.tally_is;
      faulty_are = ap (λ (t : Tally). t.faulty) so.tally_is;
      printed = inl (refl, ap (λ (t : Tally). t.status) so.tally_is, so.printed);
      reported = either_reported held errors_before errors_now _ is_shown so.reported;
    }
