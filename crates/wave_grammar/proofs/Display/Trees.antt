-- What a tree is that tokens of a text spell.
use Rattle.std.proofs.Common.{◌≡◌, ℕ, zero, suc, ◌<◌, List, [], ◌∷◌, inl, inr, refl, sym, subst, length, arith}
use Rattle.wave_wasm.specs.Lists.{AllOf}
use Rattle.wave_grammar.specs.Token as token
use Rattle.wave_grammar.specs.Token.{Token, brace_close, paren_open, paren_close, bracket_close, colon, comma}
use Rattle.wave_grammar.specs.CommaSeparated.{Spelling, FurtherItems, Items}
use Rattle.wave_grammar.specs.TypedGrammar.{InParens}
use Rattle.wave_grammar.specs.Tree.{Tree, MaybeTree, Trees, TreeEntries, one, tuple, list, empty_braces, no_fields, entries, flags, label, none, some, ok, err, no_tree, a_tree, no_trees, tree_and, no_entries, entry, trees, tree_entries, Word, leaf_word, none_word, some_word, ok_word, err_word, case_word, word_of, IsKey, KeyAnd, Label, MaybeInParens, InBraces, BehindWord, ATree, Takes}
use Rattle.wave_grammar.proofs.Display.Tokens.{HasShape}
use Rattle.wave_grammar.proofs.Display.Flags.{IsOrdered, ordered, order_all, order_some}

-- a label whose word is a leaf's, a number, a char, a string or a multiline string
abbrev pub IsLeafToken : Token → Type 0
IsLeafToken (token.label text) = word_of text ≡ leaf_word
IsLeafToken (token.number text) = Unit {0}
IsLeafToken (token.char text) = Unit {0}
IsLeafToken (token.string text) = Unit {0}
IsLeafToken (token.multiline text) = Unit {0}
IsLeafToken _ = ⊥

-- the tokens of the tree have the shapes of their classes, its flags are in order, and what may not be empty isn't
abbrev mutual
  pub Sound : Tree → Type 0
  Sound (one t) = HasShape t × IsLeafToken t
  Sound (tuple no_trees) = ⊥
  Sound (tuple (tree_and t more)) = Sound t × AreSound more
  Sound (list ts) = AreSound ts
  Sound empty_braces = Unit {0}
  Sound no_fields = Unit {0}
  Sound (entries no_entries) = ⊥
  Sound (entries (entry key t more)) = HasShape key × IsKey key × Sound t × AreSoundEntries more
  Sound (flags texts) = (0 < length texts) × AllOf (λ text. HasShape (token.label text)) texts × IsOrdered texts
  Sound (label text payload) = HasShape (token.label text) × (word_of text ≡ case_word) × MaybeSound payload
  Sound none = Unit {0}
  Sound (some t) = Sound t
  Sound (ok payload) = MaybeSound payload
  Sound (err payload) = MaybeSound payload

  pub MaybeSound : MaybeTree → Type 0
  MaybeSound no_tree = Unit {0}
  MaybeSound (a_tree t) = Sound t

  pub AreSound : Trees → Type 0
  AreSound no_trees = Unit {0}
  AreSound (tree_and t more) = Sound t × AreSound more

  pub AreSoundEntries : TreeEntries → Type 0
  AreSoundEntries no_entries = Unit {0}
  AreSoundEntries (entry key t more) = HasShape key × IsKey key × Sound t × AreSoundEntries more

-- ---- what is spelled has it

-- what is spelled is so, where the tokens have their shapes, and so have those after
abbrev pub Keeps : {A : Type 0} → Spelling A → (A → Type 0) → Type 0
Keeps {A} Item P = (tokens : List Token) (a : A) (rest : List Token) → Item tokens a rest → AllOf HasShape tokens → P a × AllOf HasShape rest

behind_one : (t : Token) (ts tokens : List Token) → tokens ≡ t ∷ ts → AllOf HasShape tokens → HasShape t × AllOf HasShape ts
behind_one t ts tokens e all = subst (AllOf HasShape) e all

further_keep : {A : Type 0} (close : Token) (Item : Spelling A) (P : A → Type 0) → Keeps Item P → (tokens : List Token) (items : List A) (rest : List Token) → FurtherItems close Item tokens items rest → AllOf HasShape tokens → AllOf P items × AllOf HasShape rest
further_keep close Item P keeps tokens [] rest (inl e) all = (tt, (behind_one close rest tokens e all).1)
further_keep close Item P keeps tokens [] rest (inr e) all = (tt, (behind_one comma (close ∷ rest) tokens e all).1.1)
further_keep close Item P keeps tokens (a ∷ items) rest (prefix, behind, e, h, more) all =
    let k = keeps prefix a behind h (behind_one comma prefix tokens e all).1 in
    let l = further_keep close Item P keeps behind items rest more k.1 in
    ((k.0, l.0), l.1)

-- items of what is so are so
pub items_keep : {A : Type 0} (close : Token) (Item : Spelling A) (P : A → Type 0) → Keeps Item P → (tokens : List Token) (items : List A) (rest : List Token) → Items close Item tokens items rest → AllOf HasShape tokens → AllOf P items × AllOf HasShape rest
items_keep close Item P keeps tokens [] rest e all = (tt, (behind_one close rest tokens e all).1)
items_keep close Item P keeps tokens (a ∷ items) rest (behind, h, more) all =
    let k = keeps tokens a behind h all in
    let l = further_keep close Item P keeps behind items rest more k.1 in
    ((k.0, l.0), l.1)

-- trees of a list
pub sound_trees : (ts : List Tree) → AllOf Sound ts → AreSound (trees ts)
sound_trees [] all = tt
sound_trees (t ∷ ts) all = (all.0, sound_trees ts all.1)

sound_tuple : (ts : List Tree) → 0 < length ts → AllOf Sound ts → Sound (tuple (trees ts))
sound_tuple [] l all = absurd (omega (arith, l))
sound_tuple (t ∷ ts) l all = (all.0, sound_trees ts all.1)

-- a key and its value
abbrev SoundEntry : Token × Tree → Type 0
SoundEntry e = HasShape e.0 × IsKey e.0 × Sound e.1

sound_entries : (es : List (Token × Tree)) → AllOf SoundEntry es → AreSoundEntries (tree_entries es)
sound_entries [] all = tt
sound_entries (e ∷ es) all = (all.0.0, all.0.1, all.0.2, sound_entries es all.1)

sound_braces : (es : List (Token × Tree)) → 0 < length es → AllOf SoundEntry es → Sound (entries (tree_entries es))
sound_braces [] l all = absurd (omega (arith, l))
sound_braces (e ∷ es) l all = (all.0.0, all.0.1, all.0.2, sound_entries es all.1)

module _ (Inner : Spelling Tree) (keeps : Keeps Inner Sound) where
  parens_keep : Keeps (InParens Inner) Sound
  parens_keep tokens t rest (prefix, e, h) all =
      let k = keeps prefix t (paren_close ∷ rest) h (behind_one paren_open prefix tokens e all).1 in (k.0, k.1.1)

  maybe_keep : Keeps (MaybeInParens Inner) MaybeSound
  maybe_keep tokens payload rest (inl (e, no_paren, f)) all = (subst MaybeSound (sym f) tt, subst (AllOf HasShape) e all)
  maybe_keep tokens payload rest (inr (t, h, f)) all = let k = parens_keep tokens t rest h all in (subst MaybeSound (sym f) k.0, k.1)

  key_keep : Keeps (KeyAnd Inner) SoundEntry
  key_keep tokens e rest (prefix, is, key, h) all =
      let b = behind_one e.0 (colon ∷ prefix) tokens is all in
      let k = keeps prefix e.1 rest h b.1.1 in ((b.0, key, k.0), k.1)

  label_keep : Keeps Label (λ text. HasShape (token.label text))
  label_keep tokens text rest e all = behind_one (token.label text) rest tokens e all

  braces_keep : Keeps (InBraces Inner) Sound
  braces_keep tokens t rest (inl (e, f)) all = (subst Sound (sym f) tt, (behind_one brace_close rest tokens e all).1)
  braces_keep tokens t rest (inr (inl (e, f))) all = (subst Sound (sym f) tt, (behind_one colon (brace_close ∷ rest) tokens e all).1.1)
  braces_keep tokens t rest (inr (inr (inl (es, l, h, f)))) all =
      let k = items_keep brace_close (KeyAnd Inner) SoundEntry key_keep tokens es rest h all in
      (subst Sound (sym f) (sound_braces es l k.0), k.1)
  braces_keep tokens t rest (inr (inr (inr (texts, l, h, d, f)))) all =
      let k = items_keep brace_close Label (λ text. HasShape (token.label text)) label_keep tokens texts rest h all in
      (subst Sound (sym f) (order_some texts l, order_all (λ text. HasShape (token.label text)) texts k.0, ordered texts d), k.1)

  word_keep : (w : Word) (text : List ℕ) → word_of text ≡ w → HasShape (token.label text) → Keeps (BehindWord w text Inner) Sound
  word_keep leaf_word text is shape tokens t rest (e, f) all = (subst Sound (sym f) (shape, is), subst (AllOf HasShape) e all)
  word_keep none_word text is shape tokens t rest (e, f) all = (subst Sound (sym f) tt, subst (AllOf HasShape) e all)
  word_keep some_word text is shape tokens t rest (inner, h, f) all = let k = parens_keep tokens inner rest h all in (subst Sound (sym f) k.0, k.1)
  word_keep ok_word text is shape tokens t rest (payload, h, f) all = let k = maybe_keep tokens payload rest h all in (subst Sound (sym f) k.0, k.1)
  word_keep err_word text is shape tokens t rest (payload, h, f) all = let k = maybe_keep tokens payload rest h all in (subst Sound (sym f) k.0, k.1)
  word_keep case_word text is shape tokens t rest (payload, h, f) all = let k = maybe_keep tokens payload rest h all in (subst Sound (sym f) (shape, is, k.0), k.1)

  leaf_keep : (token : Token) (tokens : List Token) (t : Tree) (rest : List Token) → IsLeafToken token → HasShape token → tokens ≡ rest → t ≡ one token → AllOf HasShape tokens → Sound t × AllOf HasShape rest
  leaf_keep token tokens t rest leaf shape e f all = (subst Sound (sym f) (shape, leaf), subst (AllOf HasShape) e all)

  tree_keep : Keeps (ATree Inner) Sound
  tree_keep (token.paren_open ∷ prefix) t rest (items, l, h, f) all =
      let k = items_keep paren_close Inner Sound keeps prefix items rest h all.1 in (subst Sound (sym f) (sound_tuple items l k.0), k.1)
  tree_keep (token.bracket_open ∷ prefix) t rest (items, h, f) all =
      let k = items_keep bracket_close Inner Sound keeps prefix items rest h all.1 in (subst Sound (sym f) (sound_trees items k.0), k.1)
  tree_keep (token.brace_open ∷ prefix) t rest h all = braces_keep prefix t rest h all.1
  tree_keep (token.label text ∷ behind) t rest h all = word_keep (word_of text) text refl all.0 behind t rest h all.1
  tree_keep (token.number text ∷ behind) t rest (e, f) all = leaf_keep (token.number text) behind t rest tt all.0 e f all.1
  tree_keep (token.char text ∷ behind) t rest (e, f) all = leaf_keep (token.char text) behind t rest tt all.0 e f all.1
  tree_keep (token.string text ∷ behind) t rest (e, f) all = leaf_keep (token.string text) behind t rest tt all.0 e f all.1
  tree_keep (token.multiline text ∷ behind) t rest (e, f) all = leaf_keep (token.multiline text) behind t rest tt all.0 e f all.1
  tree_keep _ t rest h all = absurd h

-- a tree that such tokens spell
pub takes_sound : (n : ℕ) → Keeps (Takes n) Sound
takes_sound zero tokens t rest h all = absurd h
takes_sound (suc n) tokens t rest h all = tree_keep (Takes n) (takes_sound n) tokens t rest h all
