-- The constants are the help and the pages; and which arguments ask for none.
use Rattle.std.proofs.Common.{ℕ, ◌≡◌, ◌≢◌, ◌⊎◌, List, [], ◌∷◌, ◌++◌, Option, Some, None, MatchOption, map, length, drop, get_or, refl, inl, inr, sym, ap, subst, arith, codes}
use Rattle.wave.specs.declared.help.TheConstants.{HELP, VALUE_PAGE, CALL_PAGE, READ_PAGE, FORMAT_PAGE, CHECK_PAGE, COMPLETIONS_PAGE}
use Rattle.wave.specs.Completions.{IsScript, HasNoScript}
use Rattle.wave.specs.Help.{forms, sample_row, ended_parts, reader_parts, IsHelp, IsValuePage, IsCallPage, IsReadPage, IsFormatPage, IsCheckPage, IsCompletionsPage, IsPage, HasNoPage, IsNotice, IsNoNotice}
use Rattle.wave.specs.Types.{samples}
use Rattle.wave.proofs.Within.{all_within}

pub help_is : IsHelp HELP.now
help_is = record {
  is_constant = refl;
  rest = drop 89 HELP.now;
  begins = refl;
  has_forms = all_within HELP.now (λ part. part) forms (refl, (refl, (refl, (refl, (refl, (refl, (refl, (refl, (refl, (refl, (refl, (refl, (refl, (refl, (refl, (refl, tt))))))))))))))));
  has_samples = all_within HELP.now sample_row samples (refl, (refl, (refl, (refl, (refl, (refl, (refl, tt)))))));
}

pub value_page_is : IsValuePage VALUE_PAGE.now
value_page_is = record {
  is_constant = refl;
  rest = drop 62 VALUE_PAGE.now;
  begins = refl;
  has_parts = all_within VALUE_PAGE.now (λ part. part) (codes "\nN " ∷ reader_parts) (refl, (refl, (refl, (refl, (refl, (refl, (refl, (refl, (refl, (refl, tt))))))))));
}

pub call_page_is : IsCallPage CALL_PAGE.now
call_page_is = record {
  is_constant = refl;
  rest = drop 64 CALL_PAGE.now;
  begins = refl;
  has_parts = all_within CALL_PAGE.now (λ part. part) (codes "\nFUNC " ∷ codes "\n--type " ∷ reader_parts) (refl, (refl, (refl, (refl, (refl, (refl, (refl, (refl, (refl, (refl, (refl, tt)))))))))));
}

pub read_page_is : IsReadPage READ_PAGE.now
read_page_is = record {
  is_constant = refl;
  rest = drop 66 READ_PAGE.now;
  begins = refl;
  has_parts = all_within READ_PAGE.now (λ part. part) (codes "\nNAME " ∷ codes "\nN " ∷ codes "\n--type " ∷ (map sample_row samples ++ reader_parts))
      (refl, (refl, (refl, (refl, (refl, (refl, (refl, (refl, (refl, (refl, (refl, (refl, (refl, (refl, (refl, (refl, (refl, (refl, (refl, tt)))))))))))))))))));
}

pub format_page_is : IsFormatPage FORMAT_PAGE.now
format_page_is = record {
  is_constant = refl;
  rest = drop 73 FORMAT_PAGE.now;
  begins = refl;
  has_parts = all_within FORMAT_PAGE.now (λ part. part)
      (codes "\nFILE " ∷ codes "\n--check " ∷ codes "\n--write " ∷ codes "\n--width " ∷ codes "\n--indent " ∷ ended_parts)
      (refl, (refl, (refl, (refl, (refl, (refl, (refl, (refl, (refl, (refl, tt))))))))));
}

pub check_page_is : IsCheckPage CHECK_PAGE.now
check_page_is = record {
  is_constant = refl;
  rest = drop 48 CHECK_PAGE.now;
  begins = refl;
  has_parts = all_within CHECK_PAGE.now (λ part. part) (codes "\nNAME " ∷ codes "\nFILE " ∷ codes "\n--type " ∷ codes "\n--format " ∷ ended_parts)
      (refl, (refl, (refl, (refl, (refl, (refl, (refl, (refl, (refl, tt)))))))));
}

pub completions_page_is : IsCompletionsPage COMPLETIONS_PAGE.now
completions_page_is = record {
  is_constant = refl;
  rest = drop 30 COMPLETIONS_PAGE.now;
  begins = refl;
  has_parts = all_within COMPLETIONS_PAGE.now (λ part. part) (codes "\nbash " ∷ codes "\nzsh " ∷ codes "\nfish " ∷ []) (refl, (refl, (refl, tt)));
}

-- the first of two arguments, and the second
first_is : (a b x y : List ℕ) → a ∷ b ∷ [] ≡ x ∷ y ∷ [] → a ≡ x
first_is a b x y is = ap (λ ws. get_or ws 0 []) is

second_is : (a b x y : List ℕ) → a ∷ b ∷ [] ≡ x ∷ y ∷ [] → b ≡ y
second_is a b x y is = ap (λ ws. get_or ws 1 []) is

-- two arguments ask for nothing where no page and no script goes with them
no_notice : (a b : List ℕ)
    → (a ≡ codes "help" → HasNoPage b) → ((b ≡ codes "--help") ⊎ (b ≡ codes "-h") → HasNoPage a) → (a ≡ codes "completions" → HasNoScript b)
    → IsNoNotice (a ∷ b ∷ [])
no_notice a b by_help by_option by_shell said (inl (inl is, help)) = absurd (omega (arith, ap length is))
no_notice a b by_help by_option by_shell said (inl (inr (inl is), help)) = absurd (omega (arith, ap length is))
no_notice a b by_help by_option by_shell said (inl (inr (inr is), help)) = absurd (omega (arith, ap length is))
no_notice a b by_help by_option by_shell said (inr (inl (inl is, version))) = absurd (omega (arith, ap length is))
no_notice a b by_help by_option by_shell said (inr (inl (inr (inl is), version))) = absurd (omega (arith, ap length is))
no_notice a b by_help by_option by_shell said (inr (inl (inr (inr is), version))) = absurd (omega (arith, ap length is))
no_notice a b by_help by_option by_shell said (inr (inr (inl (command, inl is, page)))) =
    by_help (first_is a b _ _ is) said (subst (λ w. IsPage w said) (sym (second_is a b _ _ is)) page)
no_notice a b by_help by_option by_shell said (inr (inr (inl (command, inr (inl is), page)))) =
    by_option (inl (second_is a b _ _ is)) said (subst (λ w. IsPage w said) (sym (first_is a b _ _ is)) page)
no_notice a b by_help by_option by_shell said (inr (inr (inl (command, inr (inr is), page)))) =
    by_option (inr (second_is a b _ _ is)) said (subst (λ w. IsPage w said) (sym (first_is a b _ _ is)) page)
no_notice a b by_help by_option by_shell said (inr (inr (inr (shell, is, script)))) =
    by_shell (first_is a b _ _ is) said (subst (λ w. IsScript w said) (sym (second_is a b _ _ is)) script)

-- a word that is no option asks for no page
no_option : (a b : List ℕ) → (b ≢ codes "--help") → (b ≢ codes "-h") → (b ≡ codes "--help") ⊎ (b ≡ codes "-h") → HasNoPage a
no_option a b long short (inl is) = absurd (long is)
no_option a b long short (inr is) = absurd (short is)

-- an option begins with a hyphen, as no command and no shell does
begins_with : (b word : List ℕ) → b ≡ word → get_or b 0 0 ≡ get_or word 0 0
begins_with b word is = ap (λ w. get_or w 0 0) is

hyphen : (b : List ℕ) → (b ≡ codes "--help") ⊎ (b ≡ codes "-h") → get_or b 0 0 ≡ 45
hyphen b (inl is) = begins_with b _ is
hyphen b (inr is) = begins_with b _ is

option_has_no_page : (b : List ℕ) → (b ≡ codes "--help") ⊎ (b ≡ codes "-h") → HasNoPage b
option_has_no_page b option said page = of_first (hyphen b option) page where
  of_first : get_or b 0 0 ≡ 45 → IsPage b said → ⊥
  of_first first (inl (is, page)) = absurd (omega (arith, first, begins_with b _ is))
  of_first first (inr (inl (is, page))) = absurd (omega (arith, first, begins_with b _ is))
  of_first first (inr (inr (inl (is, page)))) = absurd (omega (arith, first, begins_with b _ is))
  of_first first (inr (inr (inr (inl (is, page))))) = absurd (omega (arith, first, begins_with b _ is))
  of_first first (inr (inr (inr (inr (inl (is, page)))))) = absurd (omega (arith, first, begins_with b _ is))
  of_first first (inr (inr (inr (inr (inr (is, page)))))) = absurd (omega (arith, first, begins_with b _ is))

option_has_no_script : (b : List ℕ) → (b ≡ codes "--help") ⊎ (b ≡ codes "-h") → HasNoScript b
option_has_no_script b option said script = of_first (hyphen b option) script where
  of_first : get_or b 0 0 ≡ 45 → IsScript b said → ⊥
  of_first first (inl (is, script)) = absurd (omega (arith, first, begins_with b _ is))
  of_first first (inr (inl (is, script))) = absurd (omega (arith, first, begins_with b _ is))
  of_first first (inr (inr (is, script))) = absurd (omega (arith, first, begins_with b _ is))

-- the two commands that take a word
not_both : (a : List ℕ) → a ≡ codes "help" → a ≡ codes "completions" → ⊥
not_both a help completions = absurd (omega (arith, ap length help, ap length completions))

module _ {S : Type 0} (text : S → List ℕ) (a b : List ℕ) where
  -- by an option behind a command its page is asked for
  pub asked_by_option : (found : Option S) → (b ≡ codes "--help") ⊎ (b ≡ codes "-h") → MatchOption found (HasNoPage a) (λ s. IsPage a (text s))
      → MatchOption found (IsNoNotice (a ∷ b ∷ [])) (λ s. IsNotice (a ∷ b ∷ []) (text s))
  asked_by_option (Some s) (inl is) page = inr (inr (inl (a, inr (inl (ap (λ w. a ∷ w ∷ []) is)), page)))
  asked_by_option (Some s) (inr is) page = inr (inr (inl (a, inr (inr (ap (λ w. a ∷ w ∷ []) is)), page)))
  asked_by_option None option none = no_notice a b (λ _. option_has_no_page b option) (λ _. none) (λ _. option_has_no_script b option)

  -- by `help` before it too
  pub asked_by_help : (found : Option S) → a ≡ codes "help" → (b ≢ codes "--help") → (b ≢ codes "-h") → MatchOption found (HasNoPage b) (λ s. IsPage b (text s))
      → MatchOption found (IsNoNotice (a ∷ b ∷ [])) (λ s. IsNotice (a ∷ b ∷ []) (text s))
  asked_by_help (Some s) is long short page = inr (inr (inl (b, inl (ap (λ w. w ∷ b ∷ []) is), page)))
  asked_by_help None is long short none = no_notice a b (λ _. none) (no_option a b long short) (λ other. absurd (not_both a is other))

  -- by `completions` before a shell its script is asked for
  pub asked_by_shell : (found : Option S) → a ≡ codes "completions" → (b ≢ codes "--help") → (b ≢ codes "-h") → MatchOption found (HasNoScript b) (λ s. IsScript b (text s))
      → MatchOption found (IsNoNotice (a ∷ b ∷ [])) (λ s. IsNotice (a ∷ b ∷ []) (text s))
  asked_by_shell (Some s) is long short script = inr (inr (inr (b, ap (λ w. w ∷ b ∷ []) is, script)))
  asked_by_shell None is long short none = no_notice a b (λ other. absurd (not_both a other is)) (no_option a b long short) (λ _. none)
