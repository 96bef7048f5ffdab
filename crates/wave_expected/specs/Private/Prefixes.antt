-- Where the automaton of the code stands after some tokens.
use Rattle.std.specs.Prelude.{ℕ, ◌≡◌, ◌⊎◌, ◌++◌, List, [], ◌∷◌, Bool, false, is_some}
use Rattle.std.proofs.Common.{Bor}
use Rattle.std.specs.BTreeMap as tree
use Rattle.std.specs.BTreeMap.{BTreeMap}
use Rattle.std.specs.Cmp.Lexicographic.{slice_cmp}
use Rattle.std.specs.Ordering.{nat_cmp}
use Rattle.wave_wasm.specs.Names.{is_one_of}
use Rattle.wave_grammar.specs.Token.{Token}
use Rattle.wave_grammar.specs.LeafTokens.{name_of}
use Rattle.wave_grammar.specs.PrefixAutomaton as expectation
use Rattle.wave_grammar.specs.PrefixAutomaton.{Expectation, StackSymbol, Shifts}
use Rattle.wave_expected.specs.declared.expected.moves.State.{State}
use Rattle.wave_expected.specs.declared.expected.moves.State.TheVariants as known
use Rattle.wave_expected.specs.declared.expected.moves.Form.{Form}
use Rattle.wave_expected.specs.Expected.{IsViable}
use Rattle.wave_expected.specs.Private.Moves.{expected_of, stack_of}

-- the names of flags, in a map
abbrev pub Names : Type 0
Names = BTreeMap (Bor (List ℕ)) (Unit {0})

-- the map has these names and no others
abbrev pub HasNames : Names → List (List ℕ) → Type 0
HasNames m names = (name : List ℕ) → is_some (tree.get_by (λ k. slice_cmp nat_cmp name k.now) m) ≡ is_one_of names name

-- the map has the names of the flags that were read where this is expected
abbrev pub HasFlags : Names → Expectation → Type 0
HasFlags m (expectation.behind_word text) = HasNames m (name_of text ∷ [])
HasFlags m (expectation.flag names) = HasNames m names
HasFlags m (expectation.behind_flag names) = HasNames m names
HasFlags m _ = Unit {0}

-- a label of this text is noted, after which this is expected, and the answer says whether it was noted before
abbrev pub IsNoted : State → List ℕ → Names → Names → Bool → Type 0
IsNoted known.BehindWord text old new repeated = HasNames new (name_of text ∷ []) × (repeated ≡ false)
IsNoted known.BehindFlag text old new repeated = (names : List (List ℕ)) → HasNames old names → HasNames new (names ++ name_of text ∷ []) × (repeated ≡ is_one_of names (name_of text))
IsNoted _ text old new repeated = (new ≡ old) × (repeated ≡ false)

-- the tokens lead to where this is expected, within these forms and after these flags
pub record IsLedTo (n : ℕ) (tokens : List Token) (d : State) (open_forms : List Form) (noted : Names) : Type 0 where
  pub expected_there : Expectation
  pub open_there : List StackSymbol
  pub leads : Shifts n expectation.value [] tokens expected_there open_there
  pub state : d ≡ expected_of expected_there
  pub forms : stack_of open_forms ≡ open_there
  pub flags : HasFlags noted expected_there

-- the same; or the tokens begin no value, and nothing is expected
abbrev pub IsAfter : ℕ → List Token → State → List Form → Names → Type 0
IsAfter n tokens d forms names = IsLedTo n tokens d forms names ⊎ (d ≡ known.Nothing) × (IsViable n tokens → ⊥)

-- the value may end where this is expected within these forms
abbrev pub MayEnd : State → List Form → Type 0
MayEnd known.BehindValue forms = forms ≡ []
MayEnd known.BehindLabel forms = forms ≡ []
MayEnd _ forms = ⊥
