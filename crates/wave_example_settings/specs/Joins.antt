-- Calls of `join`, which gives the names of all flags that are handed in.
use Rattle.std.specs.Prelude.{ℕ, ◌≡◌, ◌≢◌, ◌⊎◌, List, [], ◌∷◌, map, filter, flat_map, not, codes}
use Rattle.std.specs.Str.{bytes_eq}
use Rattle.wave_wasm.specs.Names.{AreAllOf}
use Rattle.wave_wasm.specs.Types.{flags}
use Rattle.wave_wasm.specs.Values as value
use Rattle.wave_wasm.specs.Text.{results_text}
use Rattle.wave_lex.specs.Errors.{Diagnostic, LiesInText}
use Rattle.wave_grammar.specs.SpannedTree.{slice}
use Rattle.wave_tree.specs.UntypedCall.{Called, IsCalledOf, RefusesCall, GivesParamsAt, RefusesParamsAt}
use Rattle.wave_example_flags.specs.OrderedFlags.{AreFlagsOf, IsFull, RefusesNames}
use Rattle.wave_example_settings.specs.declared.calls.CallRefusal.{CallRefusal}
use Rattle.wave_example_settings.specs.declared.calls.CallRefusal.TheVariants as why

-- each name once, where it stands first
abbrev pub each_once : List (List ℕ) → List (List ℕ)
each_once [] = []
each_once (n ∷ ns) = n ∷ filter (λ m. not (bytes_eq n m)) (each_once ns)

-- the names of all flags, each once
abbrev pub all_names : List (List (List ℕ)) → List (List ℕ)
all_names values = each_once (flat_map (λ names. names) values)

-- the parameters of the call are these flags, of these types
abbrev pub GivesFlags : List (List (List ℕ)) → Called → List (List (List ℕ)) → Type 0
GivesFlags types call values = GivesParamsAt value.flags AreFlagsOf (map flags types) call.source call.params values

-- why the parameters of the call are no flags of these types
abbrev pub RefusesFlags : List (List (List ℕ)) → Called → Diagnostic → Type 0
RefusesFlags types call e = LiesInText call.source e.span × RefusesParamsAt IsFull (map flags types) call.source call.name call.params e

-- the text is this call of `join`
pub record CallsJoin (s : List ℕ) (call : Called) : Type 0 where
  pub is_call : IsCalledOf s call
  pub name : slice s call.name ≡ codes "join"

-- the text calls `join` with flags of these types, and the answer shows all their names, which the result's type has
pub record IsAnswer (types : List (List (List ℕ))) (joined : List (List ℕ)) (s said : List ℕ) : Type 0 where
  pub call : Called
  pub calls : CallsJoin s call
  pub values : List (List (List ℕ))
  pub given : GivesFlags types call values
  pub taken : AreAllOf joined (all_names values)
  pub shown : said ≡ results_text (value.flags (all_names values) ∷ [])

-- why the text has no answer
abbrev pub RefusesAnswer : List (List (List ℕ)) → List (List ℕ) → List ℕ → CallRefusal → Type 0
RefusesAnswer types joined s (why.Text e) =
    LiesInText s e.span × (RefusesCall s e ⊎ ((call : Called) × CallsJoin s call × RefusesFlags types call e))
RefusesAnswer types joined s why.UnknownFunction = (call : Called) × IsCalledOf s call × (slice s call.name ≢ codes "join")
RefusesAnswer types joined s (why.Result e) =
    (call : Called) × (values : List (List (List ℕ))) × CallsJoin s call × GivesFlags types call values × RefusesNames joined (all_names values) e
RefusesAnswer types joined s (why.Memory e) = Unit {0}
