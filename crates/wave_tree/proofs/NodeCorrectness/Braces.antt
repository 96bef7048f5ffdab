-- From the entries that a parser reads, and from braces with nothing in them, to the trees that their nodes mean.
use Rattle.std.proofs.Common.{◌≡◌, ℕ, ◌≤◌, ◌+◌, inl, inr, List, [], ◌∷◌, ◌++◌, refl, sym, ap, subst, ◌∙◌, arith, Some, Ok, append_assoc, option_map}
use Rattle.std.specs.Prelude.{if◌then◌else◌}
use Rattle.std.specs.declared.ops.Range.{Range}
use Rattle.wave_wasm.specs.Lists.{AllOf}
use Rattle.wave_lex.specs.declared.lex.Token as lex
use Rattle.wave_lex.specs.declared.lex.Token.TheVariants.{BraceOpen, BraceClose, Colon, Comma, Number, LabelOrKeyword, Char, String, MultilineString}
use Rattle.wave_lex.specs.Tokenization.{span}
use Rattle.wave_grammar.specs.Token as token
use Rattle.wave_grammar.specs.Token.{Token, brace_open, brace_close, colon, comma}
use Rattle.wave_grammar.specs.ParserPosition.{Place, TakesItem, TakesTokens, token_of, text_at, span_at}
use Rattle.wave_grammar.specs.Tree as tree
use Rattle.wave_grammar.specs.Tree.{Tree, KeyAnd, IsKey}
use Rattle.wave_grammar.specs.SpannedTree as placed
use Rattle.wave_grammar.specs.SpannedTree.{SpannedTree, at, PlacedEntries, no_entries, entry, entries, no_fields, empty_braces, one, label, no_placed, HoldsTokens, SpellsEntries, SpellsEach, StandsAtTokens, entry_places, LiesIn, span_of, tree_of, tree_of_shape, slice}
use Rattle.wave_grammar.specs.NodeTree.{NodeTree, node, no_nodes, node_trees}
use Rattle.wave_grammar.specs.Nodes.{placed_of, all_placed, key_of, pairs_of, shape_from, and_then, with_both, number_token}
use Rattle.wave_grammar.specs.declared.form.NodeType.{NodeType}
use Rattle.wave_grammar.specs.declared.form.NodeType.TheVariants as kind
use Rattle.wave_tree.specs.ParsedNodes.{IsSound, IsParsed}
use Rattle.wave_tree.specs.Private.ParsedNodes.{key_node_type, ArePairs, AreFurtherPairs, IsOfEntries}
use Rattle.wave_tree.specs.Private.TokenRoles.{IsKeyClass}
use Rattle.wave_grammar.specs.CommaSeparated.{FurtherItems}
use Rattle.wave_tree.proofs.NodeCorrectness.Lists.{brace_mark, closed_tokens, no_paren_further}
use Rattle.wave_tree.proofs.NodeCorrectness.Tokens.{number_alone, in_order, sound_next, sound_tokens, start_of, at_start, holds, built, takes_plus, text_there}
use Rattle.wave_tree.proofs.ParserCorrectness.Steps.{tokens_join}
use Rattle.wave_tree.proofs.NodeCorrectness.TokenAlignment.{part_at}
use Rattle.wave_grammar.proofs.NodeTexts.Slices.{taken_is, tokens_forward, tokens_source}

-- ---- keys

-- the token of a key
key_is : (c : lex.Token) (text : List ℕ) → IsKeyClass c → IsKey (token_of c text)
key_is Number text h = tt
key_is LabelOrKeyword text h = tt
key_is Char text h = tt
key_is String text h = tt
key_is MultilineString text h = tt
key_is _ text h = absurd h

-- what a key's node means
record KeyMeans (m k : Place) (c : lex.Token) : Type 0 where
  pub means : SpannedTree
  pub is : placed_of m.lexer.source (node (key_node_type c) (span_at k) no_nodes) ≡ Some means
  pub key : key_of means ≡ Some (span_at k, token_of c (text_at k))

key_means : (m k : Place) (c : lex.Token) → TakesItem m (Some (Ok c)) k → IsKeyClass c → KeyMeans m k c
key_means m k Number h i =
    let text = text_there m k Number h in
    record {
      means = at (span_at k) (one (token.number (text_at k)));
      is = ap (λ z. Some (at (span_at k) (one (number_token z)))) text ∙ ap (λ b. Some (at (span_at k) (one (if b then token.label (text_at k) else token.number (text_at k))))) (number_alone m k h);
      key = refl;
    }
key_means m k LabelOrKeyword h i = record { means = at (span_at k) (label (span_at k) (text_at k) no_placed); is = ap (λ z. Some (at (span_at k) (label (span_at k) z no_placed))) (text_there m k LabelOrKeyword h); key = refl }
key_means m k Char h i = record { means = at (span_at k) (one (token.char (text_at k))); is = ap (λ z. Some (at (span_at k) (one (token.char z)))) (text_there m k Char h); key = refl }
key_means m k String h i = record { means = at (span_at k) (one (token.string (text_at k))); is = ap (λ z. Some (at (span_at k) (one (token.string z)))) (text_there m k String h); key = refl }
key_means m k MultilineString h i = record { means = at (span_at k) (one (token.multiline (text_at k))); is = ap (λ z. Some (at (span_at k) (one (token.multiline z)))) (text_there m k MultilineString h); key = refl }
key_means m k _ h i = absurd i

-- ---- entries

-- the entries, each as its key and its tree
abbrev pairs_in : PlacedEntries → List (Token × Tree)
pairs_in no_entries = []
pairs_in (entry p key t more) = (key, tree_of t) ∷ pairs_in more

pairs_are : (es : PlacedEntries) → placed.entries_of es ≡ tree.tree_entries (pairs_in es)
pairs_are no_entries = refl
pairs_are (entry p key t more) = ap (λ z. tree.entry key (tree_of t) z) (pairs_are more)

-- what further entries give
record FurtherSpell (n : ℕ) (p q : Place) (ns : List NodeTree) : Type 0 where
  pub tokens : List Token
  pub taken : TakesTokens p tokens q
  pub means : List SpannedTree
  pub all : PlacedEntries
  pub means_them : IsSound p → all_placed p.lexer.source (node_trees ns) ≡ Some means
  pub pairs : pairs_of means ≡ Some all
  pub spell : IsSound p → (from : ℕ) → from ≤ p.lexer.end → SpellsEntries p.lexer.source from q.lexer.end all
  pub places : (o : Place) (before : List Token) → TakesTokens o before p → AllOf (StandsAtTokens o.lexer.source (span o.lexer.end q.lexer.end)) (entry_places all)
  pub items : (rest : List Token) → FurtherItems brace_close (KeyAnd (tree.Takes n)) (tokens ++ rest) (pairs_in all) rest

-- what the value after a first key and further entries give
record PairsSpell (n : ℕ) (p q : Place) (ns : List NodeTree) : Type 0 where
  pub tokens : List Token
  pub taken : TakesTokens p tokens q
  pub value : SpannedTree
  pub means : List SpannedTree
  pub all : PlacedEntries
  pub means_them : IsSound p → all_placed p.lexer.source (node_trees ns) ≡ Some (value ∷ means)
  pub pairs : pairs_of means ≡ Some all
  pub spell : IsSound p → (from : ℕ) → from ≤ p.lexer.end → LiesIn (span_of value) from q.lexer.end × SpellsEach p.lexer.source value × SpellsEntries p.lexer.source (span_of value).end q.lexer.end all
  pub places : (o : Place) (before : List Token) → TakesTokens o before p → StandsAtTokens o.lexer.source (span o.lexer.end q.lexer.end) (span_of value) × AllOf (StandsAtTokens o.lexer.source (span o.lexer.end q.lexer.end)) (entry_places all)
  pub items : (rest : List Token) → (behind : List Token) × tree.Takes n (tokens ++ rest) (tree_of value) behind × FurtherItems brace_close (KeyAnd (tree.Takes n)) behind (pairs_in all) rest

mutual
  further_spell : (n : ℕ) (p q : Place) (ns : List NodeTree) → AreFurtherPairs n p ns q → FurtherSpell n p q ns
  further_spell n p q [] h =
      let (ts, taken, closes) = closed_tokens BraceClose p q brace_mark h in
      record { tokens = ts; taken = taken; means = []; all = no_entries; means_them = λ sound. refl; pairs = refl; spell = λ sound from l. tt; places = λ o before h. tt; items = closes }
  further_spell n p q (key ∷ more) (m, k, b, comma_there, (c, key_there, is_key, key_node), colon_there, others) =
      let pairs_of_it = pairs_spell n b q more others in
      let it = key_means m k c key_there is_key in
      let kt = token_of c (text_at k) in
      let comma_is = taken_is p m Comma comma_there in
      let key_taken = taken_is m k c key_there in
      let colon_is = taken_is k b Colon colon_there in
      let prefix : TakesTokens p (comma ∷ kt ∷ colon ∷ []) b = (m, (Comma, comma_there, refl), (k, (c, key_there, refl), (b, (Colon, colon_there, refl), refl))) in
      let source_b = tokens_source p b (comma ∷ kt ∷ colon ∷ []) prefix in
      let a1 = comma_is.end in let a2 = key_taken.start in let a3 = colon_is.end in
      let after = tokens_forward k q (colon ∷ pairs_of_it.tokens) (b, (Colon, colon_there, refl), pairs_of_it.taken) in
      record {
        tokens = (comma ∷ kt ∷ colon ∷ []) ++ pairs_of_it.tokens;
        taken = tokens_join p b q (comma ∷ kt ∷ colon ∷ []) pairs_of_it.tokens prefix pairs_of_it.taken;
        means = it.means ∷ pairs_of_it.value ∷ pairs_of_it.means;
        all = entry (span_at k) kt pairs_of_it.value pairs_of_it.all;
        means_them = λ sound.
            let one_key = subst (λ z. placed_of p.lexer.source z ≡ Some it.means) (sym key_node) (subst (λ z. placed_of z (node (key_node_type c) (span_at k) no_nodes) ≡ Some it.means) comma_is.source it.is) in
            let outer = subst (λ z. all_placed z (node_trees more) ≡ Some (pairs_of_it.value ∷ pairs_of_it.means)) source_b (pairs_of_it.means_them (sound_tokens p b (comma ∷ kt ∷ colon ∷ []) prefix sound)) in
            ap (λ o. with_both (λ t ts. t ∷ ts) o (all_placed p.lexer.source (node_trees more))) one_key ∙ ap (λ o. with_both (λ t ts. t ∷ ts) (Some it.means) o) outer;
        pairs = ap (λ o. with_both (λ key rest. entry key.0 key.1 pairs_of_it.value rest) o (pairs_of pairs_of_it.means)) it.key
            ∙ ap (λ o. with_both (λ (key : Range ℕ × Token) rest. entry key.0 key.1 pairs_of_it.value rest) (Some (span_at k, kt)) o) pairs_of_it.pairs;
        spell = λ sound from l.
            let m_sound = sound_next p m Comma comma_there sound in
            let inner = pairs_of_it.spell (sound_tokens p b (comma ∷ kt ∷ colon ∷ []) prefix sound) k.lexer.end (omega (arith, a3)) in (
              (omega (arith, l, a1, a2), after),
              subst (λ z. HoldsTokens z (span_at k) (kt ∷ [])) comma_is.source (holds m k k kt [] m_sound (c, key_there, refl) refl),
              inner.0,
              subst (λ z. SpellsEach z pairs_of_it.value) source_b inner.1,
              subst (λ z. SpellsEntries z (span_of pairs_of_it.value).end q.lexer.end pairs_of_it.all) source_b inner.2,
            );
        places = λ o before there.
            let inner = pairs_of_it.places o (before ++ comma ∷ kt ∷ colon ∷ []) (tokens_join o p b before (comma ∷ kt ∷ colon ∷ []) there prefix) in (
              part_at o m k k q kt (before ++ comma ∷ []) [] (colon ∷ pairs_of_it.tokens) (tokens_join o p m before (comma ∷ []) there (m, (Comma, comma_there, refl), refl)) (c, key_there, refl) refl (b, (Colon, colon_there, refl), pairs_of_it.taken),
              (inner.0, inner.1),
            );
        items = λ rest.
            let (behind, value_there, further) = pairs_of_it.items rest in
            (kt ∷ colon ∷ (pairs_of_it.tokens ++ rest), behind, refl, (pairs_of_it.tokens ++ rest, refl, key_is c (text_at k) is_key, value_there), further);
      }

  pairs_spell : (n : ℕ) (p q : Place) (ns : List NodeTree) → ArePairs n p ns q → PairsSpell n p q ns
  pairs_spell n p q [] h = absurd h
  pairs_spell n p q (value ∷ more) (w, h, others) =
      let rest_of = further_spell n w q more others in
      let first_is = taken_is p h.first h.begins.0 h.begins.1 in
      let d = first_is.start in
      let prefix : TakesTokens p (h.token ∷ h.others) w = (h.first, h.begins, h.taken) in
      let source_w = tokens_source p w (h.token ∷ h.others) prefix in
      record {
        tokens = (h.token ∷ h.others) ++ rest_of.tokens;
        taken = tokens_join p w q (h.token ∷ h.others) rest_of.tokens prefix rest_of.taken;
        value = h.placed;
        means = rest_of.means;
        all = rest_of.all;
        means_them = λ sound.
            let outer = subst (λ z. all_placed z (node_trees more) ≡ Some rest_of.means) source_w (rest_of.means_them (sound_tokens p w (h.token ∷ h.others) prefix sound)) in
            ap (λ o. with_both (λ t ts. t ∷ ts) o (all_placed p.lexer.source (node_trees more))) (h.is_node sound).0 ∙ ap (λ o. with_both (λ t ts. t ∷ ts) (Some h.placed) o) outer;
        pairs = rest_of.pairs;
        spell = λ sound from l.
            let end_is : (span_of h.placed).end ≡ w.lexer.end = ap (λ (z : Range ℕ). z.end) h.spans in
            let start_is : (span_of h.placed).start ≡ h.first.lexer.start = ap (λ (z : Range ℕ). z.start) h.spans in
            let after = tokens_forward w q rest_of.tokens rest_of.taken in (
              (omega (arith, l, d, start_is), omega (arith, end_is, after)),
              (h.is_node sound).1,
              subst (λ z. SpellsEntries z (span_of h.placed).end q.lexer.end rest_of.all) source_w
                  (rest_of.spell (sound_tokens p w (h.token ∷ h.others) prefix sound) (span_of h.placed).end (omega (arith, end_is))),
            );
        places = λ o before there. (
          subst (λ (z : Range ℕ). StandsAtTokens o.lexer.source (span o.lexer.end q.lexer.end) z) (sym h.spans) (part_at o p h.first w q h.token before h.others rest_of.tokens there h.begins h.taken rest_of.taken),
          rest_of.places o (before ++ h.token ∷ h.others) (tokens_join o p w before (h.token ∷ h.others) there prefix),
        );
        items = λ rest.
            let more_items = rest_of.items rest in (
              rest_of.tokens ++ rest,
              subst (λ z. tree.Takes n (h.token ∷ z) (tree_of h.placed) (rest_of.tokens ++ rest)) (sym (append_assoc h.others rest_of.tokens rest))
                  (h.takes (rest_of.tokens ++ rest) (no_paren_further BraceClose (KeyAnd (tree.Takes n)) (rest_of.tokens ++ rest) (pairs_in rest_of.all) rest brace_mark more_items)),
              more_items,
            );
      }

-- entries after their first key
pub entries_parsed : (n : ℕ) (p m k q : Place) (c : lex.Token) (ty : NodeType) (parsed : NodeTree) → TakesItem p (Some (Ok BraceOpen)) m → TakesItem m (Some (Ok c)) k → IsKeyClass c → ty ≡ key_node_type c → IsOfEntries n m.lexer.start ty k q parsed → IsParsed (n + 1) p q parsed
entries_parsed n p m k q c ty parsed h key_there is_key same e =
    let (b, pairs, colon_there, are, children_are) = e.are in
    let key_node = ap (λ z. node z (span_at k) no_nodes) same in
    let inner = pairs_spell n b q pairs are in
    let it = key_means m k c key_there is_key in
    let brace_is = taken_is p m BraceOpen h in
    let key_taken = taken_is m k c key_there in
    let colon_is = taken_is k b Colon colon_there in
    let kt = token_of c (text_at k) in
    let prefix : TakesTokens m (kt ∷ colon ∷ []) b = (k, (c, key_there, refl), (b, (Colon, colon_there, refl), refl)) in
    let source_b = tokens_source m b (kt ∷ colon ∷ []) prefix ∙ brace_is.source in
    let whole = span m.lexer.start q.lexer.end in
    let all = entry (span_at k) kt inner.value inner.all in
    let a1 = key_taken.start in let a2 = colon_is.end in
    let after = tokens_forward k q (colon ∷ inner.tokens) (b, (Colon, colon_there, refl), inner.taken) in
    built (n + 1) p m q brace_open (kt ∷ colon ∷ inner.tokens) parsed (entries all) (BraceOpen, h, refl) (k, (c, key_there, refl), (b, (Colon, colon_there, refl), inner.taken))
    (λ sound. subst (λ z. placed_of p.lexer.source z ≡ Some (at whole (entries all))) (sym (e.is ∙ ap (λ z. node kind.TupleSet whole (node_trees z)) children_are))
    (let one_key = subst (λ z. placed_of p.lexer.source z ≡ Some it.means) (sym key_node) (subst (λ z. placed_of z (node (key_node_type c) (span_at k) no_nodes) ≡ Some it.means) brace_is.source it.is) in
    let b_sound = sound_tokens m b (kt ∷ colon ∷ []) prefix (sound_next p m BraceOpen h sound) in
    let outer = subst (λ z. all_placed z (node_trees pairs) ≡ Some (inner.value ∷ inner.means)) source_b (inner.means_them b_sound) in
    ap (λ o. option_map (at whole) (and_then (with_both (λ t ts. t ∷ ts) o (all_placed p.lexer.source (node_trees pairs))) (shape_from kind.TupleSet whole (slice p.lexer.source whole)))) one_key
    ∙ (ap (λ o. option_map (at whole) (and_then (with_both (λ t ts. t ∷ ts) (Some it.means) o) (shape_from kind.TupleSet whole (slice p.lexer.source whole)))) outer
    ∙ (ap (λ o. option_map (at whole) (option_map entries (with_both (λ key rest. entry key.0 key.1 inner.value rest) o (pairs_of inner.means)))) it.key
    ∙ ap (λ o. option_map (at whole) (option_map entries (with_both (λ (key : Range ℕ × Token) rest. entry key.0 key.1 inner.value rest) (Some (span_at k, kt)) o))) inner.pairs))))
    (λ sound.
    let m_sound = sound_next p m BraceOpen h sound in
    let ordered = in_order p m BraceOpen h in
    let spelled = inner.spell (sound_tokens m b (kt ∷ colon ∷ []) prefix m_sound) k.lexer.end (omega (arith, a2)) in (
      (omega (arith, a1, ordered), after),
      subst (λ z. HoldsTokens z (span_at k) (kt ∷ [])) brace_is.source (holds m k k kt [] m_sound (c, key_there, refl) refl),
      spelled.0,
      subst (λ z. SpellsEach z inner.value) source_b spelled.1,
      subst (λ z. SpellsEntries z (span_of inner.value).end q.lexer.end inner.all) source_b spelled.2,
    ))
    (let o = start_of p m in
    let brace_there = at_start p m brace_open (BraceOpen, h, refl) in
    let values = inner.places o (brace_open ∷ kt ∷ colon ∷ []) (m, brace_there, prefix) in
    (part_at o m k k q kt (brace_open ∷ []) [] (colon ∷ inner.tokens) (m, brace_there, refl) (c, key_there, refl) refl (b, (Colon, colon_there, refl), inner.taken), (values.0, values.1)))
    (λ rest none_there.
    let (behind, value_there, further) = inner.items rest in
    takes_plus n (brace_open ∷ kt ∷ colon ∷ (inner.tokens ++ rest)) (tree_of_shape (entries all)) rest
    (inr (inr (inl (pairs_in all, omega arith, (behind, (inner.tokens ++ rest, refl, key_is c (text_at k) is_key, value_there), further), ap tree.entries (pairs_are all))))))

-- `{}`
pub empty_parsed : (n : ℕ) (p m q : Place) → TakesItem p (Some (Ok BraceOpen)) m → TakesItem m (Some (Ok BraceClose)) q → IsParsed (n + 1) p q (node kind.EmptySet (span m.lexer.start q.lexer.end) no_nodes)
empty_parsed n p m q h k = built (n + 1) p m q brace_open (brace_close ∷ []) _ empty_braces (BraceOpen, h, refl) (q, (BraceClose, k, refl), refl) (λ sound. refl) (λ sound. tt) tt
    (λ rest none_there. takes_plus n (brace_open ∷ brace_close ∷ rest) tree.empty_braces rest (inl (refl, refl)))

-- `{:}`
pub no_fields_parsed : (n : ℕ) (p m w q : Place) → TakesItem p (Some (Ok BraceOpen)) m → TakesItem m (Some (Ok Colon)) w → TakesItem w (Some (Ok BraceClose)) q → IsParsed (n + 1) p q (node kind.TupleSet (span m.lexer.start q.lexer.end) no_nodes)
no_fields_parsed n p m w q h c k = built (n + 1) p m q brace_open (colon ∷ brace_close ∷ []) _ no_fields (BraceOpen, h, refl) (w, (Colon, c, refl), (q, (BraceClose, k, refl), refl)) (λ sound. refl) (λ sound. tt) tt
    (λ rest none_there. takes_plus n (brace_open ∷ colon ∷ brace_close ∷ rest) tree.no_fields rest (inr (inl (refl, refl))))
