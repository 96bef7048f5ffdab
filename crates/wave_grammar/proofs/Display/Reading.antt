-- A tree and the tidy one have one display, as many levels, and the same values.
use Rattle.std.proofs.Common.{◌≡◌, ℕ, List, ◌∷◌, ◌++◌, refl, ap, ◌∙◌, max}
use Rattle.std.specs.Prelude.{codes, ◌+◌}
use Rattle.wave_wasm.specs.Keywords.{case_label}
use Rattle.wave_wasm.specs.Commas.{joined, behind_name, in_parens, in_brackets, in_braces}
use Rattle.wave_grammar.specs.Token as token
use Rattle.wave_grammar.specs.Token.{Token, text_of}
use Rattle.wave_grammar.specs.LeafTokens.{name_of}
use Rattle.wave_grammar.specs.Tree.{Tree, MaybeTree, Trees, TreeEntries, one, tuple, list, empty_braces, no_fields, entries, flags, label, none, some, ok, err, no_tree, a_tree, no_trees, tree_and, no_entries, entry, trees, tree_entries, levels, levels_of_maybe, levels_of_trees, levels_of_entries, display, display_maybe, display_trees, display_entries}
use Rattle.wave_grammar.proofs.RoundTrip.Names.{case_token}
use Rattle.wave_grammar.proofs.Display.Tokens.{HasShape, named}
use Rattle.wave_grammar.proofs.Display.Flags.{names_stay}
use Rattle.wave_grammar.proofs.Display.Trees.{Sound, MaybeSound, AreSound, AreSoundEntries}
use Rattle.wave_grammar.proofs.Display.Tidy.{tidy, tidy_maybe, tidied, tidied_entries, are_names}

-- ---- the display and the levels

-- a case written as it is displayed has its name
pub same_name : (text : List ℕ) → HasShape (token.label text) → name_of (case_label (name_of text)) ≡ name_of text
same_name text shape = (case_token (name_of text) (named text shape)).1

mutual
  -- the tidy tree is displayed as the tree
  pub display_tidy : (t : Tree) → Sound t → display (tidy t) ≡ display t
  display_tidy (one t) sound = refl
  display_tidy (tuple no_trees) sound = absurd sound
  display_tidy (tuple (tree_and t more)) sound = ap (λ (xs : List (List ℕ)). in_parens (joined xs)) (display_tidied (tree_and t more) sound)
  display_tidy (list ts) sound = ap (λ (xs : List (List ℕ)). in_brackets (joined xs)) (display_tidied ts sound)
  display_tidy empty_braces sound = refl
  display_tidy no_fields sound = refl
  display_tidy (entries no_entries) sound = absurd sound
  display_tidy (entries (entry key t more)) sound = ap (λ (xs : List (List ℕ)). in_braces (joined xs)) (display_tidied_entries (entry key t more) sound)
  display_tidy (flags texts) sound = ap (λ (xs : List (List ℕ)). in_braces (joined xs)) (names_stay texts (are_names texts sound.1))
  display_tidy (label text no_tree) sound = refl
  display_tidy (label text (a_tree t)) sound =
      ap (λ (x : List ℕ). case_label x ++ in_parens (display (tidy t))) (same_name text sound.0) ∙ ap (λ (x : List ℕ). case_label (name_of text) ++ in_parens x) (display_tidy t sound.2)
  display_tidy none sound = refl
  display_tidy (some t) sound = ap (λ (x : List ℕ). codes "some" ++ in_parens x) (display_tidy t sound)
  display_tidy (ok payload) sound = ap (λ (x : List ℕ). codes "ok" ++ x) (display_tidy_maybe payload sound)
  display_tidy (err payload) sound = ap (λ (x : List ℕ). codes "err" ++ x) (display_tidy_maybe payload sound)

  display_tidy_maybe : (payload : MaybeTree) → MaybeSound payload → display_maybe (tidy_maybe payload) ≡ display_maybe payload
  display_tidy_maybe no_tree sound = refl
  display_tidy_maybe (a_tree t) sound = ap in_parens (display_tidy t sound)

  pub display_tidied : (ts : Trees) → AreSound ts → display_trees (trees (tidied ts)) ≡ display_trees ts
  display_tidied no_trees sound = refl
  display_tidied (tree_and t more) sound = ap (λ (x : List ℕ). x ∷ display_trees (trees (tidied more))) (display_tidy t sound.0) ∙ ap (λ (xs : List (List ℕ)). display t ∷ xs) (display_tidied more sound.1)

  display_tidied_entries : (es : TreeEntries) → AreSoundEntries es → display_entries (tree_entries (tidied_entries es)) ≡ display_entries es
  display_tidied_entries no_entries sound = refl
  display_tidied_entries (entry key t more) sound =
      ap (λ (x : List ℕ). behind_name (text_of key) x ∷ display_entries (tree_entries (tidied_entries more))) (display_tidy t sound.2)
      ∙ ap (λ (xs : List (List ℕ)). behind_name (text_of key) (display t) ∷ xs) (display_tidied_entries more sound.3)

mutual
  -- and has as many levels
  pub levels_tidy : (t : Tree) → levels (tidy t) ≡ levels t
  levels_tidy (one t) = refl
  levels_tidy (tuple ts) = ap (λ (n : ℕ). n + 1) (levels_tidied ts)
  levels_tidy (list ts) = ap (λ (n : ℕ). n + 1) (levels_tidied ts)
  levels_tidy empty_braces = refl
  levels_tidy no_fields = refl
  levels_tidy (entries es) = ap (λ (n : ℕ). n + 1) (levels_tidied_entries es)
  levels_tidy (flags texts) = refl
  levels_tidy (label text payload) = ap (λ (n : ℕ). n + 1) (levels_tidy_maybe payload)
  levels_tidy none = refl
  levels_tidy (some t) = ap (λ (n : ℕ). n + 1) (levels_tidy t)
  levels_tidy (ok payload) = ap (λ (n : ℕ). n + 1) (levels_tidy_maybe payload)
  levels_tidy (err payload) = ap (λ (n : ℕ). n + 1) (levels_tidy_maybe payload)

  levels_tidy_maybe : (payload : MaybeTree) → levels_of_maybe (tidy_maybe payload) ≡ levels_of_maybe payload
  levels_tidy_maybe no_tree = refl
  levels_tidy_maybe (a_tree t) = levels_tidy t

  pub levels_tidied : (ts : Trees) → levels_of_trees (trees (tidied ts)) ≡ levels_of_trees ts
  levels_tidied no_trees = refl
  levels_tidied (tree_and t more) = ap (λ (n : ℕ). max n (levels_of_trees (trees (tidied more)))) (levels_tidy t) ∙ ap (λ (n : ℕ). max (levels t) n) (levels_tidied more)

  levels_tidied_entries : (es : TreeEntries) → levels_of_entries (tree_entries (tidied_entries es)) ≡ levels_of_entries es
  levels_tidied_entries no_entries = refl
  levels_tidied_entries (entry key t more) = ap (λ (n : ℕ). max n (levels_of_entries (tree_entries (tidied_entries more)))) (levels_tidy t) ∙ ap (λ (n : ℕ). max (levels t) n) (levels_tidied_entries more)
