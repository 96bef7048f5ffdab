-- The scripts by which shells complete the arguments.
use Rattle.std.specs.Prelude.{ℕ, List, ◌++◌, ◌≡◌, ◌⊎◌, codes}
use Rattle.std.specs.Str.Iter.{HasSubslice}
use Rattle.wave_wasm.specs.Lists.{AllOf}
use Rattle.wave.specs.declared.completions.TheConstants.{BASH, ZSH, FISH}
use Rattle.wave.specs.Commands.{command_names, option_names}
use Rattle.wave.specs.Lines.{line}
use Rattle.wave.specs.Types.{samples}

-- the text is this script: its first line, and within it what completes each command, option and sample
pub record IsScriptOf (script first : List ℕ) (of_command of_option : List ℕ → List ℕ) (of_sample : List ℕ × List ℕ → List ℕ) (said : List ℕ) : Type 0 where
  pub is_constant : said ≡ script
  pub rest : List ℕ
  pub begins : said ≡ line first ++ rest
  pub has_commands : AllOf (λ name. HasSubslice said (of_command name)) command_names
  pub has_options : AllOf (λ name. HasSubslice said (of_option name)) option_names
  pub has_samples : AllOf (λ sample. HasSubslice said (of_sample sample)) samples

-- in bash a word between blanks
abbrev pub IsBashScript : List ℕ → Type 0
IsBashScript = IsScriptOf BASH.now (codes "# Completes the arguments of wave in bash.")
    (λ name. codes " " ++ (name ++ codes " "))
    (λ name. codes " --" ++ (name ++ codes " "))
    (λ sample. codes " " ++ (sample.0 ++ codes " "))

-- in zsh a word that begins a text in quotes, of a sample with its type
abbrev pub IsZshScript : List ℕ → Type 0
IsZshScript = IsScriptOf ZSH.now (codes "#compdef wave")
    (λ name. codes "'" ++ (name ++ codes ":"))
    (λ name. codes "'--" ++ (name ++ codes "["))
    (λ sample. codes "'" ++ (sample.0 ++ (codes ":" ++ (sample.1 ++ codes "'"))))

-- in fish an argument of `complete`, of a sample with its type
abbrev pub IsFishScript : List ℕ → Type 0
IsFishScript = IsScriptOf FISH.now (codes "# Completes the arguments of wave in fish.")
    (λ name. codes " -a " ++ (name ++ codes " "))
    (λ name. codes " -l " ++ (name ++ codes " "))
    (λ sample. codes " -a " ++ (sample.0 ++ (codes " -d '" ++ (sample.1 ++ codes "'"))))

-- the text is the script for the shell
abbrev pub IsScript : List ℕ → List ℕ → Type 0
IsScript shell said =
    (shell ≡ codes "bash") × IsBashScript said
    ⊎ (shell ≡ codes "zsh") × IsZshScript said
    ⊎ (shell ≡ codes "fish") × IsFishScript said

-- there is none for the shell
abbrev pub HasNoScript : List ℕ → Type 0
HasNoScript shell = (said : List ℕ) → IsScript shell said → ⊥
