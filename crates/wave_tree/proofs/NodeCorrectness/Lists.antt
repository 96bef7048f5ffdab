-- From the items that a parser reads to the trees that their nodes mean: tuples and lists.
use Rattle.std.proofs.Common.{◌≡◌, ◌≢◌, ℕ, ◌≤◌, ◌<◌, ◌-◌, inl, inr, List, [], ◌∷◌, ◌++◌, refl, sym, ap, subst, ◌∙◌, length, arith, Some, Ok, append_assoc, map, option_map}
use Rattle.std.specs.declared.ops.Range.{Range}
use Rattle.wave_wasm.specs.Lists.{AllOf}
use Rattle.wave_lex.specs.declared.lex.Token as lex
use Rattle.wave_lex.specs.declared.lex.Token.TheVariants.{BraceClose, ParenOpen, ParenClose, BracketOpen, BracketClose, Comma}
use Rattle.wave_lex.specs.Tokenization.{span}
use Rattle.wave_grammar.specs.Token.{Token, paren_open, bracket_open, comma}
use Rattle.wave_grammar.specs.ParserPosition.{Place, TakesItem, TakesTokens, token_of, text_at}
use Rattle.wave_grammar.specs.Tree as tree
use Rattle.wave_grammar.specs.Tree.{Tree, NoParen}
use Rattle.wave_grammar.specs.SpannedTree as placed
use Rattle.wave_grammar.specs.SpannedTree.{SpannedTree, at, some, SpellsAll, SpellsEach, StandsAtTokens, placed_trees, placed_list, span_of, tree_of, slice}
use Rattle.wave_grammar.specs.NodeTree.{NodeTree, node_trees}
use Rattle.wave_grammar.specs.Nodes.{placed_of, all_placed, shape_from, and_then, with_both}
use Rattle.wave_grammar.specs.declared.form.NodeType.TheVariants as kind
use Rattle.wave_tree.specs.ParsedNodes.{IsSound, IsParsed}
use Rattle.wave_tree.specs.Private.ParsedNodes.{IsClosed, AreFurther, AreClosedItems, IsOfItems}
use Rattle.wave_tree.specs.Private.TokenRoles.{IsClose}
use Rattle.wave_grammar.specs.CommaSeparated.{Spelling, Closes, FurtherItems, Items}
use Rattle.wave_tree.proofs.NodeCorrectness.Tokens.{in_order, sound_next, sound_tokens, start_of, at_start, built, takes_less}
use Rattle.wave_tree.proofs.ParserCorrectness.Steps.{tokens_join}
use Rattle.wave_tree.proofs.NodeCorrectness.TokenAlignment.{part_at}
use Rattle.wave_grammar.proofs.NodeTexts.Slices.{taken_is, tokens_forward, tokens_source}

-- ---- items

-- what further items, or all items, give: `Rest` says how they are spelled
record ItemsSpell (n : ℕ) (p q : Place) (ns : List NodeTree) (Rest : List Token → List Tree → List Token → Type 0) : Type 0 where
  pub tokens : List Token
  pub taken : TakesTokens p tokens q
  pub means : List SpannedTree
  pub means_them : IsSound p → all_placed p.lexer.source (node_trees ns) ≡ Some means
  pub spell : IsSound p → (from : ℕ) → from ≤ p.lexer.end → SpellsAll p.lexer.source from q.lexer.end (placed_trees means)
  pub places : (o : Place) (before : List Token) → TakesTokens o before p → AllOf (StandsAtTokens o.lexer.source (span o.lexer.end q.lexer.end)) (map span_of (placed_list (placed_trees means)))
  pub items : (rest : List Token) → Rest (tokens ++ rest) (map tree_of means) rest
  pub longer : ns ≢ [] → 0 < length means

-- a mark that may close items
pub record IsMark (c : lex.Token) : Type 0 where
  pub text : (s : List ℕ) → token_of c s ≡ token_of c []
  pub apart : token_of c [] ≢ paren_open

close_mark : (c : lex.Token) → IsClose c → IsMark c
close_mark c (inl e) = subst IsMark (sym e) (record { text = λ s. refl; apart = λ k. cc })
close_mark c (inr e) = subst IsMark (sym e) (record { text = λ s. refl; apart = λ k. cc })

pub brace_mark : IsMark BraceClose
brace_mark = record { text = λ s. refl; apart = λ k. cc }

-- the close of items, after a comma or not
pub closed_tokens : (c : lex.Token) (p q : Place) → IsMark c → IsClosed c p q → (ts : List Token) × TakesTokens p ts q × ((rest : List Token) → Closes (token_of c []) (ts ++ rest) rest)
closed_tokens c p q mark (inl h) = (token_of c [] ∷ [], (q, (c, h, sym (mark.text (text_at q))), refl), λ rest. inl refl)
closed_tokens c p q mark (inr (m, a, h)) = (comma ∷ token_of c [] ∷ [], (m, (Comma, a, refl), (q, (c, h, sym (mark.text (text_at q))), refl)), λ rest. inr refl)

-- a comma and the tokens after it
behind_comma : (p m w : Place) (n : ℕ) (item : NodeTree) → TakesItem p (Some (Ok Comma)) m → (h : IsParsed n m w item) → TakesTokens p (comma ∷ h.token ∷ h.others) w
behind_comma p m w n item a h = (m, (Comma, a, refl), (h.first, h.begins, h.taken))

first_same : {a b : Token} {as' bs : List Token} → a ∷ as' ≡ b ∷ bs → a ≡ b
first_same e = cc

-- what stands after an item is no open parenthesis
pub no_paren_further : {A : Type 0} (c : lex.Token) (P : Spelling A) (tokens : List Token) (items : List A) (rest : List Token) → IsMark c → FurtherItems (token_of c []) P tokens items rest → NoParen tokens
no_paren_further c P tokens [] rest mark (inl e) = λ more k. mark.apart (first_same (sym e ∙ k))
no_paren_further c P tokens [] rest mark (inr e) = λ more k. let wrong : comma ≡ paren_open = first_same (sym e ∙ k) in cc
no_paren_further c P tokens (t ∷ ts) rest mark (prefix, behind, e, h, k) = λ more f. let wrong : comma ≡ paren_open = first_same (sym e ∙ f) in cc

-- items after an item
further_spell : (c : lex.Token) (n : ℕ) (p q : Place) (ns : List NodeTree) → IsMark c → AreFurther n c p ns q → ItemsSpell n p q ns (FurtherItems (token_of c []) (tree.Takes n))
further_spell c n p q [] mark h =
    let (ts, taken, closes) = closed_tokens c p q mark h in
    record { tokens = ts; taken = taken; means = []; means_them = λ sound. refl; spell = λ sound from l. tt; places = λ o before h. tt; items = closes; longer = λ h. absurd (h refl) }
further_spell c n p q (item ∷ more) mark (m, w, a, h, others) =
    let rest_of = further_spell c n w q more mark others in
    let comma_is = taken_is p m Comma a in
    let first_is = taken_is m h.first h.begins.0 h.begins.1 in
    let b = comma_is.end in let d = first_is.start in
    let prefix = behind_comma p m w n item a h in
    let item_taken : TakesTokens m (h.token ∷ h.others) w = (h.first, h.begins, h.taken) in
    let source_m = comma_is.source in
    let source_w = tokens_source p w (comma ∷ h.token ∷ h.others) prefix in
    record {
      tokens = (comma ∷ h.token ∷ h.others) ++ rest_of.tokens;
      taken = tokens_join p w q (comma ∷ h.token ∷ h.others) rest_of.tokens prefix rest_of.taken;
      means = h.placed ∷ rest_of.means;
      means_them = λ sound.
          let inner = subst (λ z. placed_of z item ≡ Some h.placed) source_m (h.is_node (sound_next p m Comma a sound)).0 in
          let outer = subst (λ z. all_placed z (node_trees more) ≡ Some rest_of.means) source_w (rest_of.means_them (sound_tokens p w (comma ∷ h.token ∷ h.others) prefix sound)) in
          ap (λ o. with_both (λ t ts. t ∷ ts) o (all_placed p.lexer.source (node_trees more))) inner ∙ ap (λ o. with_both (λ t ts. t ∷ ts) (Some h.placed) o) outer;
      spell = λ sound from l.
          let end_is : (span_of h.placed).end ≡ w.lexer.end = ap (λ (z : Range ℕ). z.end) h.spans in
          let start_is : (span_of h.placed).start ≡ h.first.lexer.start = ap (λ (z : Range ℕ). z.start) h.spans in
          let after = tokens_forward w q rest_of.tokens rest_of.taken in (
            (omega (arith, l, b, d, start_is), omega (arith, end_is, after)),
            subst (λ z. SpellsEach z h.placed) source_m (h.is_node (sound_next p m Comma a sound)).1,
            subst (λ z. SpellsAll z (span_of h.placed).end q.lexer.end (placed_trees rest_of.means)) source_w
                (rest_of.spell (sound_tokens p w (comma ∷ h.token ∷ h.others) prefix sound) (span_of h.placed).end (omega (arith, end_is))),
          );
      places = λ o before there. (
        subst (λ (z : Range ℕ). StandsAtTokens o.lexer.source (span o.lexer.end q.lexer.end) z) (sym h.spans)
            (part_at o m h.first w q h.token (before ++ comma ∷ []) h.others rest_of.tokens (tokens_join o p m before (comma ∷ []) there (m, (Comma, a, refl), refl)) h.begins h.taken rest_of.taken),
        rest_of.places o (before ++ comma ∷ h.token ∷ h.others) (tokens_join o p w before (comma ∷ h.token ∷ h.others) there prefix),
      );
      items = λ rest.
          let more_items = rest_of.items rest in (
            h.token ∷ (h.others ++ (rest_of.tokens ++ rest)),
            rest_of.tokens ++ rest,
            ap (λ z. comma ∷ h.token ∷ z) (append_assoc h.others rest_of.tokens rest),
            h.takes (rest_of.tokens ++ rest) (no_paren_further c (tree.Takes n) (rest_of.tokens ++ rest) (map tree_of rest_of.means) rest mark more_items),
            more_items,
          );
      longer = λ h. omega arith;
    }

-- all items
items_spell : (c : lex.Token) (n : ℕ) (p q : Place) (ns : List NodeTree) → IsMark c → AreClosedItems n c p ns q → ItemsSpell n p q ns (Items (token_of c []) (tree.Takes n))
items_spell c n p q [] mark h = record {
  tokens = token_of c [] ∷ [];
  taken = (q, (c, h, sym (mark.text (text_at q))), refl);
  means = [];
  means_them = λ sound. refl;
  spell = λ sound from l. tt;
  places = λ o before h. tt;
  items = λ rest. refl;
  longer = λ h. absurd (h refl);
}
items_spell c n p q (item ∷ more) mark (w, h, others) =
    let rest_of = further_spell c n w q more mark others in
    let first_is = taken_is p h.first h.begins.0 h.begins.1 in
    let d = first_is.start in
    let prefix : TakesTokens p (h.token ∷ h.others) w = (h.first, h.begins, h.taken) in
    let source_w = tokens_source p w (h.token ∷ h.others) prefix in
    record {
      tokens = (h.token ∷ h.others) ++ rest_of.tokens;
      taken = tokens_join p w q (h.token ∷ h.others) rest_of.tokens prefix rest_of.taken;
      means = h.placed ∷ rest_of.means;
      means_them = λ sound.
          let outer = subst (λ z. all_placed z (node_trees more) ≡ Some rest_of.means) source_w (rest_of.means_them (sound_tokens p w (h.token ∷ h.others) prefix sound)) in
          ap (λ o. with_both (λ t ts. t ∷ ts) o (all_placed p.lexer.source (node_trees more))) (h.is_node sound).0 ∙ ap (λ o. with_both (λ t ts. t ∷ ts) (Some h.placed) o) outer;
      spell = λ sound from l.
          let end_is : (span_of h.placed).end ≡ w.lexer.end = ap (λ (z : Range ℕ). z.end) h.spans in
          let start_is : (span_of h.placed).start ≡ h.first.lexer.start = ap (λ (z : Range ℕ). z.start) h.spans in
          let after = tokens_forward w q rest_of.tokens rest_of.taken in (
            (omega (arith, l, d, start_is), omega (arith, end_is, after)),
            (h.is_node sound).1,
            subst (λ z. SpellsAll z (span_of h.placed).end q.lexer.end (placed_trees rest_of.means)) source_w
                (rest_of.spell (sound_tokens p w (h.token ∷ h.others) prefix sound) (span_of h.placed).end (omega (arith, end_is))),
          );
      places = λ o before there. (
        subst (λ (z : Range ℕ). StandsAtTokens o.lexer.source (span o.lexer.end q.lexer.end) z) (sym h.spans) (part_at o p h.first w q h.token before h.others rest_of.tokens there h.begins h.taken rest_of.taken),
        rest_of.places o (before ++ h.token ∷ h.others) (tokens_join o p w before (h.token ∷ h.others) there prefix),
      );
      items = λ rest.
          let more_items = rest_of.items rest in (
            rest_of.tokens ++ rest,
            subst (λ z. tree.Takes n (h.token ∷ z) (tree_of h.placed) (rest_of.tokens ++ rest)) (sym (append_assoc h.others rest_of.tokens rest))
                (h.takes (rest_of.tokens ++ rest) (no_paren_further c (tree.Takes n) (rest_of.tokens ++ rest) (map tree_of rest_of.means) rest mark more_items)),
            more_items,
          );
      longer = λ h. omega arith;
    }

-- the trees of items
trees_are : (ps : List SpannedTree) → placed.trees_of (placed_trees ps) ≡ tree.trees (map tree_of ps)
trees_are [] = refl
trees_are (p ∷ ps) = ap (λ z. tree.tree_and (tree_of p) z) (trees_are ps)

some_trees : (ps : List SpannedTree) → 0 < length ps → 0 < length (map tree_of ps)
some_trees [] l = l
some_trees (p ∷ ps) l = omega arith

-- a tuple: not empty
pub tuple_parsed : (n : ℕ) (p m q : Place) (parsed : NodeTree) → 0 < n → TakesItem p (Some (Ok ParenOpen)) m → IsOfItems (n - 1) ParenClose m q parsed → IsParsed n p q parsed
tuple_parsed n p m q parsed l h k =
    let inner = items_spell ParenClose (n - 1) m q k.items (close_mark ParenClose (inl refl)) k.are in
    let it = taken_is p m ParenOpen h in
    let whole = span m.lexer.start q.lexer.end in
    built n p m q paren_open inner.tokens parsed (placed.tuple (placed_trees inner.means)) (ParenOpen, h, refl) inner.taken
    (λ sound. subst (λ z. placed_of p.lexer.source z ≡ Some (at whole (placed.tuple (placed_trees inner.means)))) (sym k.is)
    (ap (λ o. option_map (at whole) (and_then o (shape_from kind.Tuple whole (slice p.lexer.source whole))))
    (subst (λ z. all_placed z (node_trees k.items) ≡ Some inner.means) it.source (inner.means_them (sound_next p m ParenOpen h sound)))))
    (λ sound. subst (λ z. SpellsAll z m.lexer.start q.lexer.end (placed_trees inner.means)) it.source
    (inner.spell (sound_next p m ParenOpen h sound) m.lexer.start (in_order p m ParenOpen h)))
    (inner.places (start_of p m) (paren_open ∷ []) (m, at_start p m paren_open (ParenOpen, h, refl), refl))
    (λ rest none_there. takes_less n l (paren_open ∷ (inner.tokens ++ rest)) (tree.tuple (placed.trees_of (placed_trees inner.means))) rest
    (map tree_of inner.means, some_trees inner.means (inner.longer (k.some refl)), inner.items rest, ap tree.tuple (trees_are inner.means)))

-- a list
pub list_parsed : (n : ℕ) (p m q : Place) (parsed : NodeTree) → 0 < n → TakesItem p (Some (Ok BracketOpen)) m → IsOfItems (n - 1) BracketClose m q parsed → IsParsed n p q parsed
list_parsed n p m q parsed l h k =
    let inner = items_spell BracketClose (n - 1) m q k.items (close_mark BracketClose (inr refl)) k.are in
    let it = taken_is p m BracketOpen h in
    let whole = span m.lexer.start q.lexer.end in
    built n p m q bracket_open inner.tokens parsed (placed.list (placed_trees inner.means)) (BracketOpen, h, refl) inner.taken
    (λ sound. subst (λ z. placed_of p.lexer.source z ≡ Some (at whole (placed.list (placed_trees inner.means)))) (sym k.is)
    (ap (λ o. option_map (at whole) (and_then o (shape_from kind.List whole (slice p.lexer.source whole))))
    (subst (λ z. all_placed z (node_trees k.items) ≡ Some inner.means) it.source (inner.means_them (sound_next p m BracketOpen h sound)))))
    (λ sound. subst (λ z. SpellsAll z m.lexer.start q.lexer.end (placed_trees inner.means)) it.source
    (inner.spell (sound_next p m BracketOpen h sound) m.lexer.start (in_order p m BracketOpen h)))
    (inner.places (start_of p m) (bracket_open ∷ []) (m, at_start p m bracket_open (BracketOpen, h, refl), refl))
    (λ rest none_there. takes_less n l (bracket_open ∷ (inner.tokens ++ rest)) (tree.list (placed.trees_of (placed_trees inner.means))) rest
    (map tree_of inner.means, inner.items rest, ap tree.list (trees_are inner.means)))
