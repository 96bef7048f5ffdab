-- The constants are the scripts.
use Rattle.std.proofs.Common.{◌++◌, codes, drop, refl}
use Rattle.wave.specs.declared.completions.TheConstants.{BASH, ZSH, FISH}
use Rattle.wave.specs.Commands.{command_names, option_names}
use Rattle.wave.specs.Completions.{IsBashScript, IsZshScript, IsFishScript}
use Rattle.wave.specs.Types.{samples}
use Rattle.wave.proofs.Within.{all_within}

pub bash_is : IsBashScript BASH.now
bash_is = record {
  is_constant = refl;
  rest = drop 43 BASH.now;
  begins = refl;
  has_commands = all_within BASH.now (λ name. codes " " ++ (name ++ codes " ")) command_names (refl, (refl, (refl, (refl, (refl, (refl, (refl, (refl, tt))))))));
  has_options = all_within BASH.now (λ name. codes " --" ++ (name ++ codes " ")) option_names (refl, (refl, (refl, (refl, (refl, (refl, (refl, (refl, (refl, (refl, tt))))))))));
  has_samples = all_within BASH.now (λ sample. codes " " ++ (sample.0 ++ codes " ")) samples (refl, (refl, (refl, (refl, (refl, (refl, (refl, tt)))))));
}

pub zsh_is : IsZshScript ZSH.now
zsh_is = record {
  is_constant = refl;
  rest = drop 14 ZSH.now;
  begins = refl;
  has_commands = all_within ZSH.now (λ name. codes "'" ++ (name ++ codes ":")) command_names (refl, (refl, (refl, (refl, (refl, (refl, (refl, (refl, tt))))))));
  has_options = all_within ZSH.now (λ name. codes "'--" ++ (name ++ codes "[")) option_names (refl, (refl, (refl, (refl, (refl, (refl, (refl, (refl, (refl, (refl, tt))))))))));
  has_samples = all_within ZSH.now (λ sample. codes "'" ++ (sample.0 ++ (codes ":" ++ (sample.1 ++ codes "'")))) samples (refl, (refl, (refl, (refl, (refl, (refl, (refl, tt)))))));
}

pub fish_is : IsFishScript FISH.now
fish_is = record {
  is_constant = refl;
  rest = drop 43 FISH.now;
  begins = refl;
  has_commands = all_within FISH.now (λ name. codes " -a " ++ (name ++ codes " ")) command_names (refl, (refl, (refl, (refl, (refl, (refl, (refl, (refl, tt))))))));
  has_options = all_within FISH.now (λ name. codes " -l " ++ (name ++ codes " ")) option_names (refl, (refl, (refl, (refl, (refl, (refl, (refl, (refl, (refl, (refl, tt))))))))));
  has_samples = all_within FISH.now (λ sample. codes " -a " ++ (sample.0 ++ (codes " -d '" ++ (sample.1 ++ codes "'")))) samples (refl, (refl, (refl, (refl, (refl, (refl, (refl, tt)))))));
}
