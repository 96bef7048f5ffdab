-- The display of a tree spells the tree with its names written as they are displayed.
use Rattle.std.proofs.Common.{◌≡◌, ℕ, zero, suc, ◌<◌, ◌≤◌, List, [], ◌∷◌, ◌++◌, inl, inr, refl, sym, ap, subst, map, length, append_assoc, arith}
use Rattle.std.specs.Prelude.{codes}
use Rattle.wave_wasm.specs.Lists.{AllOf}
use Rattle.wave_wasm.specs.Names.{AreDistinct}
use Rattle.wave_wasm.specs.Keywords.{case_label}
use Rattle.wave_wasm.specs.Commas.{joined, behind_name, in_parens, in_brackets, in_braces}
use Rattle.wave_lex.specs.Tokens.{label_or_keyword}
use Rattle.wave_lex.proofs.RegularShapes.Derivatives.{matches_from}
use Rattle.wave_grammar.specs.Token as token
use Rattle.wave_grammar.specs.Token.{Token, TokenizesTo, text_of, brace_open, brace_close, paren_open, paren_close, bracket_open, bracket_close, colon}
use Rattle.wave_grammar.specs.LeafTokens.{name_of}
use Rattle.wave_grammar.specs.Tree.{Tree, MaybeTree, Trees, TreeEntries, one, tuple, list, empty_braces, no_fields, entries, flags, label, none, some, ok, err, no_tree, a_tree, no_trees, tree_and, no_entries, entry, trees, tree_entries, case_word, word_of, IsKey, KeyAnd, Label, MaybeInParens, BehindWord, Takes, levels, levels_of_maybe, levels_of_trees, levels_of_entries, display, display_maybe, display_trees, display_entries}
use Rattle.wave_grammar.specs.TypedGrammar.{InParens}
use Rattle.wave_grammar.proofs.Elaboration.GrammarToTree.{not-keyword}
use Rattle.wave_grammar.proofs.Unambiguity.Levels.{some-level}
use Rattle.wave_grammar.proofs.RoundTrip.Injective.{IsOneToken, label_cut, brace_open_cut, brace_close_cut, paren_open_cut, paren_close_cut, bracket_open_cut, bracket_close_cut, colon_cut, bare_colon_cut}
use Rattle.wave_grammar.proofs.RoundTrip.Names.{label_token, case_token}
use Rattle.wave_grammar.proofs.Display.Tokens.{HasShape, alone, named, named_twice}
use Rattle.wave_grammar.proofs.Display.Flags.{AreNames, names_ordered, names_stay, stays_ordered, ordered_distinct}
use Rattle.wave_grammar.proofs.Display.Trees.{Sound, MaybeSound, AreSound, AreSoundEntries, IsLeafToken}
use Rattle.wave_grammar.proofs.RoundTrip.Items.{StopsFirst}
use Rattle.wave_grammar.proofs.Display.Items.{Shows, AllShow, IsClosing, listed_show, parens_show, label_show}

-- a label as it is displayed
abbrev pub tidy_label : MaybeTree → List ℕ → List ℕ
tidy_label no_tree text = text
tidy_label (a_tree t) text = case_label (name_of text)

-- the tree whose tokens are those of its display
abbrev mutual
  pub tidy : Tree → Tree
  tidy (one t) = one t
  tidy (tuple ts) = tuple (trees (tidied ts))
  tidy (list ts) = list (trees (tidied ts))
  tidy empty_braces = empty_braces
  tidy no_fields = no_fields
  tidy (entries es) = entries (tree_entries (tidied_entries es))
  tidy (flags texts) = flags (map name_of texts)
  tidy (label text payload) = label (tidy_label payload text) (tidy_maybe payload)
  tidy none = none
  tidy (some t) = some (tidy t)
  tidy (ok payload) = ok (tidy_maybe payload)
  tidy (err payload) = err (tidy_maybe payload)

  pub tidy_maybe : MaybeTree → MaybeTree
  tidy_maybe no_tree = no_tree
  tidy_maybe (a_tree t) = a_tree (tidy t)

  pub tidied : Trees → List Tree
  tidied no_trees = []
  tidied (tree_and t more) = tidy t ∷ tidied more

  pub tidied_entries : TreeEntries → List (Token × Tree)
  tidied_entries no_entries = []
  tidied_entries (entry key t more) = (key, tidy t) ∷ tidied_entries more

-- ---- closes

-- a `)` closes
pub parens : IsClosing 41 paren_close
parens = record { cut = paren_close_cut; stops = refl; no_paren = λ e. cc }

brackets : IsClosing 93 bracket_close
brackets = record { cut = bracket_close_cut; stops = refl; no_paren = λ e. cc }

braces : IsClosing 125 brace_close
braces = record { cut = brace_close_cut; stops = refl; no_paren = λ e. cc }

-- ---- leaves and flags

leaf_shows : (n : ℕ) (t : Token) → HasShape t → IsLeafToken t → Shows (Takes (suc n)) (text_of t) (one t)
leaf_shows n (token.label x) shape is r rest s cut bare =
    (token.label x ∷ rest, alone (token.label x) tt shape r rest s cut, subst (λ w. BehindWord w x (Takes n) rest (one (token.label x)) rest) (sym is) (refl, refl))
leaf_shows n (token.number x) shape is r rest s cut bare = (token.number x ∷ rest, alone (token.number x) tt shape r rest s cut, (refl, refl))
leaf_shows n (token.char x) shape is r rest s cut bare = (token.char x ∷ rest, alone (token.char x) tt shape r rest s cut, (refl, refl))
leaf_shows n (token.string x) shape is r rest s cut bare = (token.string x ∷ rest, alone (token.string x) tt shape r rest s cut, (refl, refl))
leaf_shows n (token.multiline x) shape is r rest s cut bare = (token.multiline x ∷ rest, alone (token.multiline x) tt shape r rest s cut, (refl, refl))
leaf_shows n _ shape is r rest s cut bare = absurd is

names_show : (texts : List (List ℕ)) → AllOf (λ text. HasShape (token.label text)) texts → AllShow Label (map name_of texts) (map name_of texts)
names_show [] all = tt
names_show (x ∷ more) all = ((λ r rest s cut bare. (token.label (name_of x) ∷ rest, label_token (name_of x) (named x all.0) r rest s cut, refl)), names_show more all.1)

-- the names of such labels stand for themselves
pub are_names : (texts : List (List ℕ)) → AllOf (λ text. HasShape (token.label text)) texts → AreNames texts
are_names [] all = tt
are_names (x ∷ more) all = (named_twice x all.0, are_names more all.1)

as_many : (texts : List (List ℕ)) → 0 < length texts → 0 < length (map name_of texts)
as_many [] l = l
as_many (x ∷ more) l = omega arith

flags_show : (n : ℕ) (texts : List (List ℕ)) → Sound (flags texts) → Shows (Takes (suc n)) (display (flags texts)) (flags (map name_of texts))
flags_show n texts (l, all, o) r rest s cut bare =
    let (tokens, c, i) = listed_show brace_open brace_close 123 125 Label brace_open_cut braces (map name_of texts) (map name_of texts) (names_show texts all) r rest cut in
    let are : AreNames texts = are_names texts all in (
      brace_open ∷ tokens,
      c,
      inr (inr (inr (
        map name_of texts,
        as_many texts l,
        i,
        subst AreDistinct (sym (names_stay texts are)) (ordered_distinct texts o),
        ap flags (sym (stays_ordered (map name_of texts) (names_ordered texts are o))),
      ))),
    )

-- ---- words and labels

none_token : IsOneToken (codes "none") (token.label (codes "none"))
none_token = label_cut (codes "none") (matches_from (codes "none") label_or_keyword refl)

some_token : IsOneToken (codes "some") (token.label (codes "some"))
some_token = label_cut (codes "some") (matches_from (codes "some") label_or_keyword refl)

ok_token : IsOneToken (codes "ok") (token.label (codes "ok"))
ok_token = label_cut (codes "ok") (matches_from (codes "ok") label_or_keyword refl)

err_token : IsOneToken (codes "err") (token.label (codes "err"))
err_token = label_cut (codes "err") (matches_from (codes "err") label_or_keyword refl)

maybe_first : (payload : MaybeTree) → StopsFirst (display_maybe payload)
maybe_first no_tree r s = s
maybe_first (a_tree t) r s = refl

none_shows : (n : ℕ) → Shows (Takes (suc n)) (codes "none") none
none_shows n r rest s cut bare = (token.label (codes "none") ∷ rest, none_token r rest s cut, (refl, refl))

some_shows : (n : ℕ) (x : List ℕ) (t : Tree) → Shows (Takes n) x t → Shows (Takes (suc n)) (codes "some" ++ in_parens x) (some t)
some_shows n x t p r rest s cut bare =
    let (behind, c, i) = label_show (codes "some") some_token (InParens (Takes n)) (in_parens x) t (λ q s. refl) (λ q more s cut bare. parens_show (Takes n) x t p q more cut) r rest s cut bare in
    (token.label (codes "some") ∷ behind, c, (t, i, refl))

ok_shows : (n : ℕ) (payload : MaybeTree) → Shows (MaybeInParens (Takes n)) (display_maybe payload) (tidy_maybe payload) → Shows (Takes (suc n)) (codes "ok" ++ display_maybe payload) (ok (tidy_maybe payload))
ok_shows n payload p r rest s cut bare =
    let (behind, c, i) = label_show (codes "ok") ok_token (MaybeInParens (Takes n)) (display_maybe payload) (tidy_maybe payload) (maybe_first payload) p r rest s cut bare in
    (token.label (codes "ok") ∷ behind, c, (tidy_maybe payload, i, refl))

err_shows : (n : ℕ) (payload : MaybeTree) → Shows (MaybeInParens (Takes n)) (display_maybe payload) (tidy_maybe payload) → Shows (Takes (suc n)) (codes "err" ++ display_maybe payload) (err (tidy_maybe payload))
err_shows n payload p r rest s cut bare =
    let (behind, c, i) = label_show (codes "err") err_token (MaybeInParens (Takes n)) (display_maybe payload) (tidy_maybe payload) (maybe_first payload) p r rest s cut bare in
    (token.label (codes "err") ∷ behind, c, (tidy_maybe payload, i, refl))

bare_shows : (n : ℕ) (text : List ℕ) → HasShape (token.label text) → word_of text ≡ case_word → Shows (Takes (suc n)) text (label text no_tree)
bare_shows n text shape is r rest s cut bare = (
  token.label text ∷ rest,
  alone (token.label text) tt shape r rest s cut,
  subst (λ w. BehindWord w text (Takes n) rest (label text no_tree) rest) (sym is) (no_tree, inl (refl, bare, refl), refl),
)

case_shows : (n : ℕ) (text : List ℕ) (x : List ℕ) (t : Tree) → HasShape (token.label text) → Shows (Takes n) x t → Shows (Takes (suc n)) (case_label (name_of text) ++ in_parens x) (label (case_label (name_of text)) (a_tree t))
case_shows n text x t shape p r rest s cut bare =
    let (tok, is, apart) = case_token (name_of text) (named text shape) in
    let (behind, c, i) = label_show (case_label (name_of text)) tok (InParens (Takes n)) (in_parens x) t (λ q s. refl) (λ q more s cut bare. parens_show (Takes n) x t p q more cut) r rest s cut bare in (
      token.label (case_label (name_of text)) ∷ behind,
      c,
      subst (λ w. BehindWord w (case_label (name_of text)) (Takes n) behind (label (case_label (name_of text)) (a_tree t)) rest) (sym (not-keyword (case_label (name_of text)) apart)) (a_tree t, inr (t, i, refl), refl),
    )

entry_shows : (n : ℕ) (key : Token) (x : List ℕ) (t : Tree) → HasShape key → IsKey key → Shows (Takes n) x t → Shows (KeyAnd (Takes n)) (behind_name (text_of key) x) (key, t)
entry_shows n key x t shape is p r rest s cut bare =
    let (tokens, c, i) = p r rest s cut bare in (
      key ∷ colon ∷ tokens,
      subst (λ (z : List ℕ). TokenizesTo z (key ∷ colon ∷ tokens)) (sym (append_assoc (text_of key) (58 ∷ 32 ∷ x) r)) (alone key is shape (58 ∷ 32 ∷ (x ++ r)) (colon ∷ tokens) refl (colon_cut (x ++ r) tokens c)),
      (tokens, refl, is, i),
    )

-- ---- trees

tuple_shows : (n : ℕ) (xs : List (List ℕ)) (ts : List Tree) → 0 < length ts → AllShow (Takes n) xs ts → Shows (Takes (suc n)) (in_parens (joined xs)) (tuple (trees ts))
tuple_shows n xs ts l h r rest s cut bare =
    let (tokens, c, i) = listed_show paren_open paren_close 40 41 (Takes n) paren_open_cut parens xs ts h r rest cut in (paren_open ∷ tokens, c, (ts, l, i, refl))

list_shows : (n : ℕ) (xs : List (List ℕ)) (ts : List Tree) → AllShow (Takes n) xs ts → Shows (Takes (suc n)) (in_brackets (joined xs)) (list (trees ts))
list_shows n xs ts h r rest s cut bare =
    let (tokens, c, i) = listed_show bracket_open bracket_close 91 93 (Takes n) bracket_open_cut brackets xs ts h r rest cut in (bracket_open ∷ tokens, c, (ts, i, refl))

entries_show : (n : ℕ) (xs : List (List ℕ)) (es : List (Token × Tree)) → 0 < length es → AllShow (KeyAnd (Takes n)) xs es → Shows (Takes (suc n)) (in_braces (joined xs)) (entries (tree_entries es))
entries_show n xs es l h r rest s cut bare =
    let (tokens, c, i) = listed_show brace_open brace_close 123 125 (KeyAnd (Takes n)) brace_open_cut braces xs es h r rest cut in (brace_open ∷ tokens, c, inr (inr (inl (es, l, i, refl))))

empty_shows : (n : ℕ) → Shows (Takes (suc n)) (codes "{}") empty_braces
empty_shows n r rest s cut bare = (brace_open ∷ brace_close ∷ rest, brace_open_cut (125 ∷ r) (brace_close ∷ rest) (brace_close_cut r rest cut), inl (refl, refl))

no_fields_show : (n : ℕ) → Shows (Takes (suc n)) (codes "{:}") no_fields
no_fields_show n r rest s cut bare =
    (brace_open ∷ colon ∷ brace_close ∷ rest, brace_open_cut (58 ∷ 125 ∷ r) (colon ∷ brace_close ∷ rest) (bare_colon_cut (125 ∷ r) (brace_close ∷ rest) (brace_close_cut r rest cut)), inr (inl (refl, refl)))

mutual
  -- the display of a tree spells the tidy one, within the tree's levels
  pub shows : (n : ℕ) (t : Tree) → Sound t → levels t ≤ n → Shows (Takes n) (display t) (tidy t)
  shows zero t sound l = absurd (omega (arith, some-level t, l))
  shows (suc n) (one t) (shape, leaf) l = leaf_shows n t shape leaf
  shows (suc n) (tuple no_trees) sound l = absurd sound
  shows (suc n) (tuple (tree_and t more)) sound l = tuple_shows n (display_trees (tree_and t more)) (tidied (tree_and t more)) (omega arith) (shows_all n (tree_and t more) sound (omega (arith, l)))
  shows (suc n) (list ts) sound l = list_shows n (display_trees ts) (tidied ts) (shows_all n ts sound (omega (arith, l)))
  shows (suc n) empty_braces sound l = empty_shows n
  shows (suc n) no_fields sound l = no_fields_show n
  shows (suc n) (entries no_entries) sound l = absurd sound
  shows (suc n) (entries (entry key t more)) sound l = entries_show n (display_entries (entry key t more)) (tidied_entries (entry key t more)) (omega arith) (shows_entries n (entry key t more) sound (omega (arith, l)))
  shows (suc n) (flags texts) sound l = flags_show n texts sound
  shows (suc n) (label text no_tree) (shape, is, sound) l = bare_shows n text shape is
  shows (suc n) (label text (a_tree t)) (shape, is, sound) l = case_shows n text (display t) (tidy t) shape (shows n t sound (omega (arith, l)))
  shows (suc n) none sound l = none_shows n
  shows (suc n) (some t) sound l = some_shows n (display t) (tidy t) (shows n t sound (omega (arith, l)))
  shows (suc n) (ok payload) sound l = ok_shows n payload (shows_maybe n payload sound (omega (arith, l)))
  shows (suc n) (err payload) sound l = err_shows n payload (shows_maybe n payload sound (omega (arith, l)))

  shows_maybe : (n : ℕ) (payload : MaybeTree) → MaybeSound payload → levels_of_maybe payload ≤ n → Shows (MaybeInParens (Takes n)) (display_maybe payload) (tidy_maybe payload)
  shows_maybe n no_tree sound l r rest s cut bare = (rest, cut, inl (refl, bare, refl))
  shows_maybe n (a_tree t) sound l r rest s cut bare = let (tokens, c, i) = parens_show (Takes n) (display t) (tidy t) (shows n t sound l) r rest cut in (tokens, c, inr (tidy t, i, refl))

  pub shows_all : (n : ℕ) (ts : Trees) → AreSound ts → levels_of_trees ts ≤ n → AllShow (Takes n) (display_trees ts) (tidied ts)
  shows_all n no_trees sound l = tt
  shows_all n (tree_and t more) sound l = (shows n t sound.0 (omega (arith, l)), shows_all n more sound.1 (omega (arith, l)))

  shows_entries : (n : ℕ) (es : TreeEntries) → AreSoundEntries es → levels_of_entries es ≤ n → AllShow (KeyAnd (Takes n)) (display_entries es) (tidied_entries es)
  shows_entries n no_entries sound l = tt
  shows_entries n (entry key t more) (shape, is, sound, others) l = (entry_shows n key (display t) (tidy t) shape is (shows n t sound (omega (arith, l))), shows_entries n more others (omega (arith, l)))
