-- What is said of arguments that ask for nothing, by how many there are.
use Rattle.std.proofs.Common.{ℕ, suc, zero, ◌≡◌, ◌≢◌, ◌≤◌, ◌<◌, ◌⊎◌, ◌∙◌, List, [], ◌∷◌, ◌++◌, String, Global, Result, Ok, Err, IfOk, Option, Some, None, MatchOption, string_bytes, map, get_or, length, refl, inl, inr, sym, ap, subst, arith, codes}
use Rattle.wave_wasm.specs.Types.{TypeTree}
use Rattle.wave.specs.declared.request.Request.TheVariants.{Value, Call, CallAt, Read}
use Rattle.wave.specs.Commands.{command_names, paged_names}
use Rattle.wave.specs.Completions.{IsScript, HasNoScript}
use Rattle.wave.specs.Help.{IsPage, HasNoPage}
use Rattle.wave.specs.Lines.{line}
use Rattle.wave.specs.Misuse.{IsCommand, IsQuoted, IsHint, AskToRead, TakeNoOption, IsMisuse, IsTypeExplained, IsBadType, IsBadFunc}
use Rattle.wave_type.specs.FunctionSpelling.{IsFunctionOf, levels_of_function}
use Rattle.wave_type.specs.FunctionType.{FunctionType}
use Rattle.wave_type.specs.TypeErrors.{TypeRefusal}
use Rattle.wave_type.specs.TypeItems.{IsTypeFault}
use Rattle.wave_type.specs.declared.error.TypeErrorKind.TheVariants as kind
use Rattle.wave_type.specs.TypeSpelling.{IsTypeOf, IsNoType, levels_of}
use Rattle.wave_type_explain.specs.TypeExplained as explained
use Rattle.wave.specs.Requests.{IsLimitWord}
use Rattle.wave.specs.Private.Requests.{IsOtherWord, MakeNone}
use Rattle.wave.specs.Types.{text_of, NamesType, NamesFunction}

-- the text at a place
pub text_at : (words : List (String Global)) (i : ℕ) (x : String Global) (t : List ℕ) → i < length words → x ≡ get_or words i x → t ≡ string_bytes x → get_or (map string_bytes words) i [] ≡ t
text_at [] i x t less is same = absurd (omega (arith, less))
text_at (w ∷ words) zero x t less is same = ap string_bytes (sym is) ∙ sym same
text_at (w ∷ words) (suc i) x t less is same = text_at words i x t (omega (arith, less)) is same

-- there are as many texts
pub length_texts : (words : List (String Global)) → length (map string_bytes words) ≡ length words
length_texts [] = refl
length_texts (w ∷ words) = ap suc (length_texts words)

-- no arguments
pub no_texts : (words : List (String Global)) → length words < 1 → map string_bytes words ≡ []
no_texts [] less = refl
no_texts (w ∷ words) less = absurd (omega (arith, less))

-- `value` and `call` alone are requests
pub value_alone : (rest : List (List ℕ)) → rest ≡ [] → MakeNone (codes "value" ∷ rest) → ⊥
value_alone rest none unknown = unknown (Value 100) (inl (ap (λ r. codes "value" ∷ r) none, refl))

pub call_alone : (rest : List (List ℕ)) → rest ≡ [] → MakeNone (codes "call" ∷ rest) → ⊥
call_alone rest none unknown = unknown Call (ap (λ r. codes "call" ∷ r) none)

-- an argument behind all that a command takes
pub too_many_said : {E : Type 0} (r : Result (String Global) E) (word : List ℕ) (rest : List (List ℕ)) (most : ℕ) (extra : List ℕ) → IsCommand word most → most < length (word ∷ rest) → get_or (word ∷ rest) most [] ≡ extra
    → IfOk r (λ why. (quoted : List ℕ) × IsQuoted extra quoted × (string_bytes why ≡ codes "an argument too many: " ++ line quoted))
    → IfOk r (λ why. IsMisuse (word ∷ rest) (string_bytes why))
too_many_said (Err e) word rest most extra command many is reported = tt
too_many_said (Ok why) word rest most extra command many is (quoted, quotes, said) =
    inr (inr (inl (word, rest, most, quoted, refl, command, many, subst (λ t. IsQuoted t quoted) (sym is) quotes, said)))

-- a word that is no limit behind `value`
pub value_limit_said : {E : Type 0} (r : Result (String Global) E) (rest : List (List ℕ)) (word : List ℕ) → rest ≡ word ∷ [] → MakeNone (codes "value" ∷ rest)
    → IfOk r (λ why. (quoted : List ℕ) × IsQuoted word quoted × (string_bytes why ≡ quoted ++ line (codes " is no number of levels: N is a whole number from 1 to 1000")))
    → IfOk r (λ why. IsMisuse (codes "value" ∷ rest) (string_bytes why))
value_limit_said (Err e) rest word is unknown reported = tt
value_limit_said (Ok why) rest word is unknown (quoted, quotes, said) =
    inr (inr (inr (inr (inl (
      codes "value" ∷ [],
      word,
      quoted,
      ap (λ r. codes "value" ∷ r) is,
      inl refl,
      λ n limit. unknown (Value n) (inr (word, ap (λ r. codes "value" ∷ r) is, limit)),
      quotes,
      said,
    )))))

-- and behind `read` and a type
pub read_limit_said : {E : Type 0} (r : Result (String Global) E) (rest : List (List ℕ)) (type word : List ℕ) → rest ≡ type ∷ word ∷ [] → ((n : ℕ) → IsLimitWord word n → ⊥)
    → IfOk r (λ why. (quoted : List ℕ) × IsQuoted word quoted × (string_bytes why ≡ quoted ++ line (codes " is no number of levels: N is a whole number from 1 to 1000")))
    → IfOk r (λ why. IsMisuse (codes "read" ∷ rest) (string_bytes why))
read_limit_said (Err e) rest type word is none reported = tt
read_limit_said (Ok why) rest type word is none (quoted, quotes, said) =
    inr (inr (inr (inr (inl (codes "read" ∷ type ∷ [], word, quoted, ap (λ r. codes "read" ∷ r) is, inr (type, refl), none, quotes, said)))))

-- nothing behind `read`
pub no_type_said : {E : Type 0} (r : Result (String Global) E) (rest : List (List ℕ)) → rest ≡ [] → IfOk r (λ why. string_bytes why ≡ line (codes "no type: read takes the text of one, or the name of a sample"))
    → IfOk r (λ why. IsMisuse (codes "read" ∷ rest) (string_bytes why))
no_type_said (Err e) rest none said = tt
no_type_said (Ok why) rest none said = inr (inr (inr (inl (ap (λ r. codes "read" ∷ r) none, said))))

-- no type there
pub type_said : {E : Type 0} (r : Result (String Global) E) (words : List (List ℕ)) (word : List ℕ) → AskToRead words word → IfOk r (λ why. IsBadType word (string_bytes why)) → IfOk r (λ why. IsMisuse words (string_bytes why))
type_said (Err e) words word asked reported = tt
type_said (Ok why) words word asked reported = inr (inr (inr (inr (inr (inl (word, asked, reported))))))

-- no type of a function behind `call`
pub func_said : {E : Type 0} (r : Result (String Global) E) (rest : List (List ℕ)) (word : List ℕ) → rest ≡ word ∷ [] → IfOk r (λ why. IsBadFunc word (string_bytes why)) → IfOk r (λ why. IsMisuse (codes "call" ∷ rest) (string_bytes why))
func_said (Err e) rest word is reported = tt
func_said (Ok why) rest word is reported = inr (inr (inr (inr (inr (inr (inl (word, ap (λ r. codes "call" ∷ r) is, reported)))))))

-- a word that is no command
pub no_command : (word : List ℕ) → IsOtherWord word → (word ≢ codes "--help") → (word ≢ codes "-h") → (word ≢ codes "version") → (word ≢ codes "--version") → (word ≢ codes "-V")
    → (most : ℕ) → IsCommand word most → ⊥
no_command word (value, call, read, help, completions) no_help h version long v most (inl (is, count)) = value is
no_command word (value, call, read, help, completions) no_help h version long v most (inr (inl (is, count))) = call is
no_command word (value, call, read, help, completions) no_help h version long v most (inr (inr (inl (is, count)))) = read is
no_command word (value, call, read, help, completions) no_help h version long v most (inr (inr (inr (inl (is, count))))) = completions is
no_command word (value, call, read, help, completions) no_help h version long v most (inr (inr (inr (inr (inl (is, count)))))) = help is
no_command word (value, call, read, help, completions) no_help h version long v most (inr (inr (inr (inr (inr (inl (is, count))))))) = no_help is
no_command word (value, call, read, help, completions) no_help h version long v most (inr (inr (inr (inr (inr (inr (inl (is, count)))))))) = h is
no_command word (value, call, read, help, completions) no_help h version long v most (inr (inr (inr (inr (inr (inr (inr (inl (is, count))))))))) = version is
no_command word (value, call, read, help, completions) no_help h version long v most (inr (inr (inr (inr (inr (inr (inr (inr (inl (is, count)))))))))) = long is
no_command word (value, call, read, help, completions) no_help h version long v most (inr (inr (inr (inr (inr (inr (inr (inr (inr (inl (is, count))))))))))) = v is
no_command word (value, call, read, help, completions) no_help h version long v most (inr (inr (inr (inr (inr (inr (inr (inr (inr (inr none)))))))))) = none

pub unknown_said : {E : Type 0} (r : Result (String Global) E) (word : List ℕ) (rest : List (List ℕ)) (hint : List ℕ) → ((most : ℕ) → IsCommand word most → ⊥) → IsHint word command_names hint
    → IfOk r (λ why. (quoted : List ℕ) × IsQuoted word quoted × (string_bytes why ≡ codes "unknown command " ++ (quoted ++ line hint)))
    → IfOk r (λ why. IsMisuse (word ∷ rest) (string_bytes why))
unknown_said (Err e) word rest hint none near reported = tt
unknown_said (Ok why) word rest hint none near (quoted, quotes, said) = inr (inl (word, rest, quoted, hint, refl, none, quotes, near, said))

-- no page of the word behind `help`
pub page_said : {E : Type 0} (r : Result (String Global) E) (rest : List (List ℕ)) (word hint : List ℕ) → rest ≡ word ∷ [] → HasNoPage word → IsHint word paged_names hint
    → IfOk r (λ why. (quoted : List ℕ) × IsQuoted word quoted × (string_bytes why ≡ codes "no page for " ++ (quoted ++ line hint)))
    → IfOk r (λ why. IsMisuse (codes "help" ∷ rest) (string_bytes why))
page_said (Err e) rest word hint is none near reported = tt
page_said (Ok why) rest word hint is none near (quoted, quotes, said) =
    inr (inr (inr (inr (inr (inr (inr (inl (word, quoted, hint, ap (λ r. codes "help" ∷ r) is, none, quotes, near, said))))))))

-- no shell behind `completions`
pub no_shell_said : {E : Type 0} (r : Result (String Global) E) (rest : List (List ℕ)) → rest ≡ [] → IfOk r (λ why. string_bytes why ≡ line (codes "no shell: completions takes bash, zsh or fish"))
    → IfOk r (λ why. IsMisuse (codes "completions" ∷ rest) (string_bytes why))
no_shell_said (Err e) rest none said = tt
no_shell_said (Ok why) rest none said = inr (inr (inr (inr (inr (inr (inr (inr (inl (ap (λ r. codes "completions" ∷ r) none, said)))))))))

-- no script for the word behind it
pub script_said : {E : Type 0} (r : Result (String Global) E) (rest : List (List ℕ)) (word : List ℕ) → rest ≡ word ∷ [] → HasNoScript word
    → IfOk r (λ why. (quoted : List ℕ) × IsQuoted word quoted × (string_bytes why ≡ codes "no completions for " ++ (quoted ++ line (codes ": SHELL is bash, zsh or fish"))))
    → IfOk r (λ why. IsMisuse (codes "completions" ∷ rest) (string_bytes why))
script_said (Err e) rest word is none reported = tt
script_said (Ok why) rest word is none (quoted, quotes, said) =
    inr (inr (inr (inr (inr (inr (inr (inr (inr (inl (word, quoted, ap (λ r. codes "completions" ∷ r) is, none, quotes, said))))))))))

-- options, where the other arguments ask for a text
pub options_said : {E : Type 0} (r : Result (String Global) E) (words : List (List ℕ)) → TakeNoOption words
    → IfOk r (λ why. string_bytes why ≡ line (codes "--lines and --quiet stand behind value, call or read"))
    → IfOk r (λ why. IsMisuse words (string_bytes why))
options_said (Err e) words asked said = tt
options_said (Ok why) words asked said = inr (inr (inr (inr (inr (inr (inr (inr (inr (inr (asked, said))))))))))

pub alone_taken : (word : List ℕ) (rest : List (List ℕ)) → rest ≡ []
    → (word ≡ codes "--help") ⊎ (word ≡ codes "-h") ⊎ (word ≡ codes "version") ⊎ (word ≡ codes "--version") ⊎ (word ≡ codes "-V") → TakeNoOption (word ∷ rest)
alone_taken word rest none is = by is where
  words_are : (other : List ℕ) → word ≡ other → word ∷ rest ≡ other ∷ []
  words_are other is_other = λ i. is_other i ∷ none i

  by : (word ≡ codes "--help") ⊎ (word ≡ codes "-h") ⊎ (word ≡ codes "version") ⊎ (word ≡ codes "--version") ⊎ (word ≡ codes "-V") → TakeNoOption (word ∷ rest)
  by (inl is_help) = inl (inl (words_are _ is_help))
  by (inr (inl is_h)) = inl (inr (inr (words_are _ is_h)))
  by (inr (inr (inl is_version))) = inr (inl (inr (inl (words_are _ is_version))))
  by (inr (inr (inr (inl is_long)))) = inr (inl (inl (words_are _ is_long)))
  by (inr (inr (inr (inr is_v)))) = inr (inl (inr (inr (words_are _ is_v))))

pub help_taken : (rest : List (List ℕ)) → rest ≡ [] → TakeNoOption (codes "help" ∷ rest)
help_taken rest none = inl (inr (inl (ap (λ r. codes "help" ∷ r) none)))

pub page_taken : (rest : List (List ℕ)) (word page : List ℕ) → rest ≡ word ∷ [] → IsPage word page → TakeNoOption (codes "help" ∷ rest)
page_taken rest word page is has = inr (inr (inl (word, page, ap (λ r. codes "help" ∷ r) is, has)))

pub script_taken : (rest : List (List ℕ)) (word script : List ℕ) → rest ≡ word ∷ [] → IsScript word script → TakeNoOption (codes "completions" ∷ rest)
script_taken rest word script is has = inr (inr (inr (word, script, ap (λ r. codes "completions" ∷ r) is, has)))

-- what `call` or `read` takes is none, where no request is made
pub none_called : (rest : List (List ℕ)) (word : List ℕ) → rest ≡ word ∷ [] → MakeNone (codes "call" ∷ rest) → (f : FunctionType) → NamesFunction word f → ⊥
none_called rest word is unknown f names = unknown (CallAt f) (word, ap (λ r. codes "call" ∷ r) is, names)

pub none_read : (rest : List (List ℕ)) (word : List ℕ) → rest ≡ word ∷ [] → MakeNone (codes "read" ∷ rest) → (T : TypeTree) → NamesType word T → ⊥
none_read rest word is unknown T names = unknown (Read T 100) (word, inl (ap (λ r. codes "read" ∷ r) is, refl), names)

pub none_read_within : (rest : List (List ℕ)) (word limit : List ℕ) (n : ℕ) → rest ≡ word ∷ limit ∷ [] → IsLimitWord limit n → MakeNone (codes "read" ∷ rest) → (T : TypeTree) → NamesType word T → ⊥
none_read_within rest word limit n is within unknown T names = unknown (Read T n) (word, inr (limit, ap (λ r. codes "read" ∷ r) is, within), names)

-- what is said of arguments is said of the same ones
pub said_of : {E : Type 0} (r : Result (String Global) E) (words others : List (List ℕ)) → others ≡ words → IfOk r (λ why. IsMisuse others (string_bytes why)) → IfOk r (λ why. IsMisuse words (string_bytes why))
said_of r words others is reported = subst (λ ws. IfOk r (λ why. IsMisuse ws (string_bytes why))) is reported

-- the texts of the first argument and of the others
pub texts_first : (words rest : List (String Global)) (first : String Global) (t word : List ℕ) → words ≡ first ∷ rest → t ≡ string_bytes first → t ≡ word → word ∷ map string_bytes rest ≡ map string_bytes words
texts_first words rest first t word is same named = ap (λ z. z ∷ map string_bytes rest) (sym named ∙ same) ∙ ap (map string_bytes) (sym is)

-- arguments that are these make no request either
pub none_first : (words others : List (List ℕ)) → others ≡ words → MakeNone words → MakeNone others
none_first words others is = subst MakeNone (sym is)

-- a type without a value
pub valueless_said : {E : Type 0} (r : Result (String Global) E) (word text : List ℕ) (T : TypeTree) → text ≡ text_of word → IsTypeOf text T → levels_of T ≤ 100 → ((U : TypeTree) → NamesType word U → ⊥)
    → IfOk r (λ why. string_bytes why ≡ line (codes "argument 2 is a type without a value: f32 and f64 have none here, nor has what needs one of them")) → IfOk r (λ why. IsBadType word (string_bytes why))
valueless_said (Err e) word text T is spells levels none said = tt
valueless_said (Ok why) word text T is spells levels none said =
    let spelled = subst (λ s. IsTypeOf s T) is spells in
    inr (T, spelled, (λ has. none T (spelled, levels, has)), said)

-- no type
pub type_refused_said : {E : Type 0} (r : Result (String Global) E) (word text : List ℕ) (e : TypeRefusal) (shown : List ℕ) → text ≡ text_of word → e.kind ≢ kind.OutOfMemory → IsNoType text e.kind → IsTypeFault text e
    → explained.IsTypeExplained text e shown → IfOk r (λ why. string_bytes why ≡ codes "argument 2 is no type:\n" ++ shown) → IfOk r (λ why. IsBadType word (string_bytes why))
type_refused_said (Err x) word text e shown is other none fault explained said = tt
type_refused_said (Ok why) word text e shown is other none fault explained said = inl (shown, subst (λ s. IsTypeExplained s shown) is (e, other, none, fault, explained), said)

-- a parameter whose type is without a value
pub valueless_param_said : {E : Type 0} (r : Result (String Global) E) (word : List ℕ) (f : FunctionType) → IsFunctionOf word f → levels_of_function f ≤ 100 → ((g : FunctionType) → NamesFunction word g → ⊥)
    → IfOk r (λ why. string_bytes why ≡ line (codes "argument 2 has a parameter of a type without a value: f32 and f64 have none here, nor has what needs one of them")) → IfOk r (λ why. IsBadFunc word (string_bytes why))
valueless_param_said (Err e) word f spells levels none said = tt
valueless_param_said (Ok why) word f spells levels none said = inr (f, spells, (λ all. none f (spells, levels, all)), said)
