-- The display of a parsed tree spells such a tree, and means what the parsed text means.
use Rattle.std.proofs.Common.{◌≡◌, ℕ, ◌≤◌, List, [], refl, sym, ap, subst, ◌∙◌}
use Rattle.std.proofs.lemmas.List.{append-nil}
use Rattle.wave_wasm.specs.Types.{TypeTree}
use Rattle.wave_wasm.specs.Values.{Value}
use Rattle.wave_grammar.specs.Token.{Token, TokenizesTo}
use Rattle.wave_grammar.specs.Tree.{Tree, MaybeTree, Trees, TreeEntries, one, tuple, list, empty_braces, no_fields, entries, flags, label, none, some, ok, err, no_tree, a_tree, no_trees, tree_and, no_entries, entry, trees, tree_entries, Takes, levels, display}
use Rattle.wave_grammar.specs.Elaborates.{TreeReads}
use Rattle.wave_grammar.specs.Denotes.{Means}
use Rattle.wave_grammar.specs.DisplayLaws.{DisplayKeepsMeaning}
use Rattle.wave_grammar.proofs.Unambiguity.Levels.{takes-levels, takes-within}
use Rattle.wave_grammar.proofs.Elaboration.GrammarToTree.{through}
use Rattle.wave_grammar.proofs.Elaboration.TreeToGrammar.{back}
use Rattle.wave_grammar.proofs.Unambiguity.Trees.{one_tree}
use Rattle.wave_grammar.proofs.RoundTrip.Tokens.{end_cut}
use Rattle.wave_grammar.proofs.RoundTrip.Leaves.{one_cut_into}
use Rattle.wave_grammar.proofs.Display.Tokens.{cut_shapes}
use Rattle.wave_grammar.proofs.Display.Flags.{names_stay}
use Rattle.wave_grammar.proofs.Display.Trees.{Sound, MaybeSound, AreSound, AreSoundEntries, takes_sound}
use Rattle.wave_grammar.proofs.Display.Tidy.{tidy, tidy_maybe, tidied, tidied_entries, are_names, shows}
use Rattle.wave_grammar.proofs.Display.Reading.{same_name, display_tidy, levels_tidy}
use Rattle.wave_grammar.proofs.Equivalence.LabelSpelling.{Alike, MaybeAlike, AreAlike, EntriesAlike, alike_back, carries}

mutual
  -- a tree is alike to the tidy one
  pub alike_tidy : (t : Tree) → Sound t → Alike t (tidy t)
  alike_tidy (one t) sound = refl
  alike_tidy (tuple no_trees) sound = absurd sound
  alike_tidy (tuple (tree_and t more)) sound = alike_tidied (tree_and t more) sound
  alike_tidy (list ts) sound = alike_tidied ts sound
  alike_tidy empty_braces sound = tt
  alike_tidy no_fields sound = tt
  alike_tidy (entries no_entries) sound = absurd sound
  alike_tidy (entries (entry key t more)) sound = alike_tidied_entries (entry key t more) sound
  alike_tidy (flags texts) sound = sym (names_stay texts (are_names texts sound.1))
  alike_tidy (label text no_tree) sound = (refl, tt)
  alike_tidy (label text (a_tree t)) sound = (sym (same_name text sound.0), alike_tidy t sound.2)
  alike_tidy none sound = tt
  alike_tidy (some t) sound = alike_tidy t sound
  alike_tidy (ok payload) sound = alike_tidy_maybe payload sound
  alike_tidy (err payload) sound = alike_tidy_maybe payload sound

  alike_tidy_maybe : (payload : MaybeTree) → MaybeSound payload → MaybeAlike payload (tidy_maybe payload)
  alike_tidy_maybe no_tree sound = tt
  alike_tidy_maybe (a_tree t) sound = alike_tidy t sound

  alike_tidied : (ts : Trees) → AreSound ts → AreAlike ts (trees (tidied ts))
  alike_tidied no_trees sound = tt
  alike_tidied (tree_and t more) sound = (alike_tidy t sound.0, alike_tidied more sound.1)

  alike_tidied_entries : (es : TreeEntries) → AreSoundEntries es → EntriesAlike es (tree_entries (tidied_entries es))
  alike_tidied_entries no_entries sound = tt
  alike_tidied_entries (entry key t more) sound = (refl, alike_tidy t sound.2, alike_tidied_entries more sound.3)

-- what a text means whose tokens spell the tree, each text means whose tokens spell an alike tree of as many levels
carried : (T : TypeTree) (limit : ℕ) (s d : List ℕ) (n m : ℕ) (ts us : List Token) (t u : Tree) (v : Value) → TokenizesTo s ts → Takes n ts t [] → TokenizesTo d us → Takes m us u [] → levels u ≡ levels t → Alike t u → Means T limit s v → Means T limit d v
carried T limit s d n m ts us t u v cut takes other_cut other_takes as_deep alike (tokens, c, read) =
    let (w, j, q) = through T limit tokens v [] read (λ more e. cc) in
    let same : tokens ≡ ts = one_cut_into s tokens ts c cut in
    let k : Takes limit ts w [] = subst (λ (z : List Token). Takes limit z w []) same j in
    let is : t ≡ w = (one_tree n limit ts t w [] [] takes k).0 in
    let low : levels w ≤ limit = takes-levels limit ts w [] k in
    let high : levels u ≤ limit = subst (λ (z : ℕ). z ≤ limit) (sym (as_deep ∙ ap levels is)) low in
    let stands : Takes limit us u [] = takes-within m limit us u [] high other_takes in
    (us, other_cut, back T limit us u v [] stands (carries T t u v alike (subst (λ (z : Tree). TreeReads T z v) (sym is) q)))

-- the display of a parsed tree
pub display_keeps : DisplayKeepsMeaning
display_keeps s t (tokens, cut, (n, takes)) =
    let sound : Sound t = (takes_sound n tokens t [] takes (cut_shapes s tokens cut)).0 in
    let (others, other_cut, other_takes) = shows n t sound (takes-levels n tokens t [] takes) [] [] tt end_cut (λ more e. cc) in
    let again : TokenizesTo (display t) others = subst (λ (z : List ℕ). TokenizesTo z others) (append-nil (display t)) other_cut in
    let deep : levels (tidy t) ≡ levels t = levels_tidy t in
    let alike : Alike t (tidy t) = alike_tidy t sound in (
      record { tree = tidy t; text = (others, again, (n, other_takes)); levels = deep; display = display_tidy t sound },
      λ T limit v. (
        carried T limit s (display t) n n tokens others t (tidy t) v cut takes again other_takes deep alike,
        carried T limit (display t) s n n others tokens (tidy t) t v again other_takes cut takes (sym deep) (alike_back t (tidy t) alike),
      ),
    )
