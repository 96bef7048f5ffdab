-- What is written of each of some files, and what it comes to.
use Rattle.std.specs.Prelude.{ℕ, List, [], ◌∷◌, ◌≡◌, ◌++◌, ◌⊎◌, ◌+◌, ◌-◌, ◌^◌, min, max, nat_lt, fold, None, string_bytes, MatchOption, IsUtf8, codes}
use Rattle.std.specs.Fmt.{decimal}
use Rattle.std.specs.Int.{from_bool}
use Rattle.std.specs.List.{flat_map}
use Rattle.std.specs.Str.{IsValidUpTo}
use Rattle.std.specs.declared.option.Option.{Option}
use Rattle.wave_files.specs.declared.answers.Answer.{Answer}
use Rattle.wave_files.specs.declared.answers.FileAnswer.{FileAnswer}
use Rattle.wave_files.specs.declared.answers.FileName.{FileName}
use Rattle.wave_files.specs.declared.answers.Tally.{Tally}
use Rattle.wave_files.specs.declared.folder.FileError.{FileError}
use Rattle.wave_files.specs.declared.folder.FileError.TheVariants.{OutOfMemory, Failed}
use Rattle.wave_files.specs.declared.output.Output.{Output}
use Rattle.wave_files.specs.Folders.{Holds, Keeps, Replaces}
use Rattle.wave_files.specs.Written.{WritesWhole, WritesLess}

-- what is printed and shown of a file, how many faults it has, and the status that it makes
pub record Entry : Type 0 where
  pub printed : List ℕ
  pub shown : List ℕ
  pub faults : ℕ
  pub status : ℕ

-- so it is in the program
abbrev pub entry_of : FileAnswer → Entry
entry_of a = record { printed = string_bytes a.printed; shown = string_bytes a.shown; faults = a.faults; status = a.status }

-- the status of so many faults
abbrev pub status_of : ℕ → ℕ
status_of faults = from_bool (nat_lt 0 faults)

-- what is shown of a file that has no answer: its name, and the reason
abbrev pub failed_text : List ℕ → List ℕ → List ℕ → List ℕ
failed_text name what reason = name ++ (codes ": " ++ (what ++ (reason ++ codes "\n")))

-- the entry of such a file
abbrev pub failed_entry : FileName → List ℕ → List ℕ → Entry
failed_entry name what reason = record { printed = []; shown = failed_text (string_bytes name.shown) what reason; faults = 0; status = 3 }

-- that it is no text, and how many bytes its longest beginning has that is one
abbrev pub utf8_reason : ℕ → List ℕ
utf8_reason place = codes "no UTF-8 after byte " ++ decimal place

-- the entry of a file that the system refused to read or to replace
abbrev pub IsNoEntry : FileName → List ℕ → FileError → Entry → Type 0
IsNoEntry name what OutOfMemory entry = ⊥
IsNoEntry name what (Failed reason) entry = entry ≡ failed_entry name what (string_bytes reason)

module _ {F J : Type 0} (holds : F → List ℕ → Option (List ℕ)) (answers : J → FileName → List ℕ → Answer → Type 0) (job : J) where
  -- the file's text has this answer, which the entry is; its text is put in place of the file's where there is one, and each other file is as
  -- it was
  pub record IsAnswered (old new : F) (name : FileName) (entry : Entry) : Type 0 where
    pub text : List ℕ
    pub answer : Answer
    pub held : Holds (holds old (string_bytes name.path)) text
    pub is_text : IsUtf8 text
    pub answered : answers job name text answer
    pub replaced : MatchOption answer.replacement (Keeps (holds old) (holds new)) (λ s. Replaces (holds old) (holds new) (string_bytes name.path) (string_bytes s))
    pub entry_is : entry ≡ record { printed = string_bytes answer.printed; shown = string_bytes answer.shown; faults = answer.faults; status = status_of answer.faults }

  -- the system refused to read or to replace the file, of which nothing is known
  abbrev pub IsRefused : F → FileName → Entry → Type 0
  IsRefused old name entry = (what : List ℕ) × (reason : List ℕ) × (holds old (string_bytes name.path) ≡ None) × (entry ≡ failed_entry name what reason)

  -- the file is no text
  abbrev pub IsNoText : F → FileName → Entry → Type 0
  IsNoText old name entry =
      (bytes : List ℕ) × (place : ℕ) × Holds (holds old (string_bytes name.path)) bytes × (IsUtf8 bytes → ⊥) × IsValidUpTo bytes place
      × (entry ≡ failed_entry name [] (utf8_reason place))

  -- the entry of the file: its answer; or why it has none, and each file is as it was
  abbrev pub IsEntry : F → F → FileName → Entry → Type 0
  IsEntry old new name entry =
      IsAnswered old new name entry
      ⊎ Keeps (holds old) (holds new) × (IsRefused old name entry ⊎ IsNoText old name entry)

  -- so it is, or there was no memory for it
  abbrev pub IsEntryOrMemory : F → F → FileName → Entry → Type 0
  IsEntryOrMemory old new name entry =
      IsEntry old new name entry
      ⊎ Keeps (holds old) (holds new) × (entry ≡ record { printed = []; shown = codes "out of memory\n"; faults = 0; status = 3 })

  -- the entries of the files, in turn
  abbrev pub AreEntries : F → F → List FileName → List Entry → Type 0
  AreEntries old new [] [] = new ≡ old
  AreEntries old new [] (entry ∷ entries) = ⊥
  AreEntries old new (name ∷ names) [] = ⊥
  AreEntries old new (name ∷ names) (entry ∷ entries) = (middle : F) × IsEntryOrMemory old middle name entry × AreEntries middle new names entries

-- one number more is counted, up to the greatest `u64`
abbrev pub count_more : ℕ → ℕ → ℕ
count_more n more = min (n + more) (2 ^ 64 - 1)

-- no file is counted
abbrev pub none_counted : Tally
none_counted = record { faults = 0; faulty = 0; status = 0 }

-- one file more is counted, which has so many faults and this status
abbrev pub add : Tally → ℕ → ℕ → Tally
add t faults status = record { faults = count_more t.faults faults; faulty = count_more t.faulty (status_of faults); status = max t.status status }

-- the files of these entries are counted
abbrev pub tally_of : List Entry → Tally
tally_of entries = fold (λ t e. add t e.faults e.status) none_counted entries

module _ {F J W E : Type 0} (holds : F → List ℕ → Option (List ℕ)) (answers : J → FileName → List ℕ → Answer → Type 0) (contents : W → Option (List ℕ)) (held : E → Option (List ℕ)) where
  -- the files have these entries, all files unless a write failed of what is printed; what is printed and shown of them was written, and they are
  -- counted
  pub record AnswersFiles (job : J) (names : List FileName) (old new : F) (before after : Output W) (errors_before errors_after : Output E) (tally : Tally) : Type 0 where
    pub answered : List FileName
    pub rest : List FileName
    pub entries : List Entry
    pub names_are : names ≡ answered ++ rest
    pub entries_are : AreEntries holds answers job old new answered entries
    pub faults_are : tally.faults ≡ (tally_of entries).faults
    pub faulty_are : tally.faulty ≡ (tally_of entries).faulty
    pub printed :
        (rest ≡ []) × (tally.status ≡ (tally_of entries).status) × WritesWhole contents before after (flat_map (λ e. e.printed) entries)
        ⊎ (tally.status ≡ 3) × WritesLess contents before after (flat_map (λ e. e.printed) entries)
    pub reported : WritesWhole held errors_before errors_after (flat_map (λ e. e.shown) entries) ⊎ WritesLess held errors_before errors_after (flat_map (λ e. e.shown) entries)
