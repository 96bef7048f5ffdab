-- The longest prefix of a count.
use Rattle.std.proofs.Common.{◌≡◌, ℕ, ◌<◌, Bool, true, false, zero, suc, List, refl, sym, arith, Some}
use Rattle.wave_lex.specs.Regex.{Regex}
use Rattle.wave_lex.specs.Derive.{nullable}
use Rattle.wave_lex.specs.Private.Machines.{longest_of}
use Rattle.wave_lex.proofs.LongestPrefix.LongestSoFar.{Seen}
use Rattle.wave_lex.proofs.LongestPrefix.MachineWalks.{seen_first, seen_none}

-- where bytes were counted they are one
pub counted_some : (b : Bool) (n : ℕ) → 0 < n → longest_of b n ≡ Some n
counted_some true n l = refl
counted_some false zero l = let wrong : ⊥ = omega arith in absurd wrong
counted_some false (suc n) l = refl

-- at the beginning no byte is counted
pub counted_begins : (r : Regex) (cs : List ℕ) (b : Bool) → b ≡ nullable r → Seen r r cs 0 0 (longest_of b 0)
counted_begins r cs true e = seen_first r cs (sym e)
counted_begins r cs false e = seen_none r cs (sym e)
