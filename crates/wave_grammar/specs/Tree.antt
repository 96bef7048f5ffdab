-- The tree of a text that is read without a type.
use Rattle.std.specs.Prelude.{ℕ, zero, suc, ◌+◌, ◌<◌, ◌≡◌, ◌≢◌, ◌⊎◌, ◌++◌, max}
use Rattle.std.specs.Prelude.{Bool, true, false, if◌then◌else◌, List, [], ◌∷◌, map, length, codes, nat_lt}
use Rattle.std.specs.Str.{bytes_eq}
use Rattle.wave_wasm.specs.Names.{AreDistinct, is_one_of}
use Rattle.wave_wasm.specs.Keywords.{case_label}
use Rattle.wave_wasm.specs.Commas as commas
use Rattle.wave_wasm.specs.Commas.{behind_name, in_parens, in_brackets, in_braces}
use Rattle.wave_grammar.specs.Token.{Token, brace_open, brace_close, paren_open, paren_close, bracket_open, bracket_close}
use Rattle.wave_grammar.specs.Token.{colon, comma, number, char, string, multiline, text_of}
use Rattle.wave_grammar.specs.Token as token
use Rattle.wave_grammar.specs.LeafTokens.{name_of}
use Rattle.wave_grammar.specs.CommaSeparated.{Spelling, Items}
use Rattle.wave_grammar.specs.TypedGrammar.{InParens, Never}
use Rattle.std.proofs.Common.{ℕ, ◌<◌, ◌≡◌, ◌≢◌, List, [], ◌∷◌}

mutual
  -- a tree
  pub data Tree : Type 0 where
    -- a bool, a number, a char or a string
    one : Token → Tree
    tuple : Trees → Tree
    list : Trees → Tree
    -- `{}` and `{:}`
    empty_braces : Tree
    no_fields : Tree
    entries : TreeEntries → Tree
    -- the labels in the order of their names
    flags : List (List ℕ) → Tree
    label : List ℕ → MaybeTree → Tree
    none : Tree
    some : Tree → Tree
    ok : MaybeTree → Tree
    err : MaybeTree → Tree

  -- a tree, or nothing: a payload
  pub data MaybeTree : Type 0 where
    no_tree : MaybeTree
    a_tree : Tree → MaybeTree

  -- the items of a tuple or list
  pub data Trees : Type 0 where
    no_trees : Trees
    tree_and : Tree → Trees → Trees

  -- the entries of braces, in source order
  pub data TreeEntries : Type 0 where
    no_entries : TreeEntries
    entry : Token → Tree → TreeEntries → TreeEntries

-- the trees in this list
abbrev pub trees : List Tree → Trees
trees [] = no_trees
trees (t ∷ ts) = tree_and t (trees ts)

-- the entries in this list
abbrev pub tree_entries : List (Token × Tree) → TreeEntries
tree_entries [] = no_entries
tree_entries (e ∷ es) = entry e.0 e.1 (tree_entries es)

-- what a label is that stands where a value is expected
pub data Word : Type 0 where
  leaf_word none_word some_word ok_word err_word case_word : Word

-- what the label of this text is, where a value is expected
abbrev pub word_of : List ℕ → Word
word_of text =
    if is_one_of (codes "true" ∷ codes "false" ∷ codes "inf" ∷ codes "nan" ∷ []) text then leaf_word
    else (if bytes_eq text (codes "none") then none_word
    else (if bytes_eq text (codes "some") then some_word
    else (if bytes_eq text (codes "ok") then ok_word
    else (if bytes_eq text (codes "err") then err_word
    else case_word))))

-- the token may be a key: a label, number, char, string or multiline token
abbrev pub IsKey : Token → Type 0
IsKey (token.label text) = Unit {0}
IsKey (number text) = Unit {0}
IsKey (char text) = Unit {0}
IsKey (string text) = Unit {0}
IsKey (multiline text) = Unit {0}
IsKey _ = ⊥

-- a key, a colon and a value
abbrev pub KeyAnd : Spelling Tree → Spelling (Token × Tree)
KeyAnd Inner tokens e rest = (prefix : List Token) × (tokens ≡ e.0 ∷ colon ∷ prefix) × IsKey e.0 × Inner prefix e.1 rest

-- one label, with its `%`
abbrev pub Label : Spelling (List ℕ)
Label tokens text rest = tokens ≡ token.label text ∷ rest

-- the first text is before the second in byte order
abbrev pub is_before : List ℕ → List ℕ → Bool
is_before [] [] = false
is_before [] (b ∷ bs) = true
is_before (a ∷ as') [] = false
is_before (a ∷ as') (b ∷ bs) = if nat_lt a b then true else (if nat_lt b a then false else is_before as' bs)

-- the label among others that are in order
abbrev pub put_in_order : List ℕ → List (List ℕ) → List (List ℕ)
put_in_order text [] = text ∷ []
put_in_order text (other ∷ more) = if is_before (name_of text) (name_of other) then text ∷ other ∷ more else other ∷ put_in_order text more

-- the labels in byte order of their names
abbrev pub in_order : List (List ℕ) → List (List ℕ)
in_order [] = []
in_order (text ∷ more) = put_in_order text (in_order more)

-- no payload, and no parenthesis next; or a payload in parentheses
abbrev pub MaybeInParens : Spelling Tree → Spelling MaybeTree
MaybeInParens Inner tokens payload rest =
    (tokens ≡ rest) × ((more : List Token) → rest ≢ paren_open ∷ more) × (payload ≡ no_tree)
    ⊎ ((t : Tree) × InParens Inner tokens t rest × (payload ≡ a_tree t))

-- what stands after an open brace
abbrev pub InBraces : Spelling Tree → Spelling Tree
InBraces Inner tokens t rest =
    (tokens ≡ brace_close ∷ rest) × (t ≡ empty_braces)
    ⊎ (tokens ≡ colon ∷ brace_close ∷ rest) × (t ≡ no_fields)
    ⊎ ((es : List (Token × Tree)) × (0 < length es) × Items brace_close (KeyAnd Inner) tokens es rest × (t ≡ entries (tree_entries es)))
    ⊎ ((texts : List (List ℕ)) × (0 < length texts) × Items brace_close Label tokens texts rest
    × AreDistinct (map name_of texts) × (t ≡ flags (in_order texts)))

-- what stands after a label
abbrev pub BehindWord : Word → List ℕ → Spelling Tree → Spelling Tree
BehindWord leaf_word text Inner tokens t rest = (tokens ≡ rest) × (t ≡ one (token.label text))
BehindWord none_word text Inner tokens t rest = (tokens ≡ rest) × (t ≡ none)
BehindWord some_word text Inner tokens t rest = (inner : Tree) × InParens Inner tokens inner rest × (t ≡ some inner)
BehindWord ok_word text Inner tokens t rest = (payload : MaybeTree) × MaybeInParens Inner tokens payload rest × (t ≡ ok payload)
BehindWord err_word text Inner tokens t rest = (payload : MaybeTree) × MaybeInParens Inner tokens payload rest × (t ≡ err payload)
BehindWord case_word text Inner tokens t rest = (payload : MaybeTree) × MaybeInParens Inner tokens payload rest × (t ≡ label text payload)

-- a tree, over the trees within it
abbrev pub ATree : Spelling Tree → Spelling Tree
ATree Inner (paren_open ∷ prefix) t rest = (items : List Tree) × (0 < length items) × Items paren_close Inner prefix items rest × (t ≡ tuple (trees items))
ATree Inner (bracket_open ∷ prefix) t rest = (items : List Tree) × Items bracket_close Inner prefix items rest × (t ≡ list (trees items))
ATree Inner (brace_open ∷ prefix) t rest = InBraces Inner prefix t rest
ATree Inner (token.label text ∷ behind) t rest = BehindWord (word_of text) text Inner behind t rest
ATree Inner (number text ∷ behind) t rest = (behind ≡ rest) × (t ≡ one (number text))
ATree Inner (char text ∷ behind) t rest = (behind ≡ rest) × (t ≡ one (char text))
ATree Inner (string text ∷ behind) t rest = (behind ≡ rest) × (t ≡ one (string text))
ATree Inner (multiline text ∷ behind) t rest = (behind ≡ rest) × (t ≡ one (multiline text))
ATree Inner _ t rest = ⊥

-- at the start of the tokens stands the tree within n levels, and the rest is left; after a bare label, `ok` or `err` the rest begins with no `(`
abbrev pub Takes : ℕ → Spelling Tree
Takes zero = Never
Takes (suc n) = ATree (Takes n)

-- the tokens spell the tree
abbrev pub SpellsTree : List Token → Tree → Type 0
SpellsTree tokens t = (n : ℕ) × Takes n tokens t []

-- how many levels a tree has: one, and those of what stands in it
abbrev mutual
  pub levels : Tree → ℕ
  levels (one t) = 1
  levels (tuple ts) = levels_of_trees ts + 1
  levels (list ts) = levels_of_trees ts + 1
  levels empty_braces = 1
  levels no_fields = 1
  levels (entries es) = levels_of_entries es + 1
  levels (flags texts) = 1
  levels (label text payload) = levels_of_maybe payload + 1
  levels none = 1
  levels (some t) = levels t + 1
  levels (ok payload) = levels_of_maybe payload + 1
  levels (err payload) = levels_of_maybe payload + 1

  -- the levels of a payload
  pub levels_of_maybe : MaybeTree → ℕ
  levels_of_maybe no_tree = 0
  levels_of_maybe (a_tree t) = levels t

  -- the most levels of the items
  pub levels_of_trees : Trees → ℕ
  levels_of_trees no_trees = 0
  levels_of_trees (tree_and t more) = max (levels t) (levels_of_trees more)

  -- the most levels of the values
  pub levels_of_entries : TreeEntries → ℕ
  levels_of_entries no_entries = 0
  levels_of_entries (entry key t more) = max (levels t) (levels_of_entries more)

-- the display of a tree
abbrev mutual
  pub display : Tree → List ℕ
  display (one t) = text_of t
  display (tuple ts) = in_parens (commas.joined (display_trees ts))
  display (list ts) = in_brackets (commas.joined (display_trees ts))
  display empty_braces = codes "{}"
  display no_fields = codes "{:}"
  display (entries es) = in_braces (commas.joined (display_entries es))
  display (flags texts) = in_braces (commas.joined (map name_of texts))
  -- a label alone is displayed as it stands
  display (label text payload) = display_label payload text
  display none = codes "none"
  display (some t) = codes "some" ++ in_parens (display t)
  display (ok payload) = codes "ok" ++ display_maybe payload
  display (err payload) = codes "err" ++ display_maybe payload

  -- a label alone as it stands; before a payload with a `%` only where it is a keyword
  pub display_label : MaybeTree → List ℕ → List ℕ
  display_label no_tree text = text
  display_label (a_tree t) text = case_label (name_of text) ++ in_parens (display t)

  -- `(a)`, or nothing
  pub display_maybe : MaybeTree → List ℕ
  display_maybe no_tree = []
  display_maybe (a_tree t) = in_parens (display t)

  -- the displays of the items
  pub display_trees : Trees → List (List ℕ)
  display_trees no_trees = []
  display_trees (tree_and t more) = display t ∷ display_trees more

  -- the displays of the entries
  pub display_entries : TreeEntries → List (List ℕ)
  display_entries no_entries = []
  display_entries (entry key t more) = behind_name (text_of key) (display t) ∷ display_entries more

-- no `(` stands first
abbrev pub NoParen : List Token → Type 0
NoParen rest = (more : List Token) → rest ≢ paren_open ∷ more
