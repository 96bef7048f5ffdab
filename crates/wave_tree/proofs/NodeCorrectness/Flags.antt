-- From the flags that a parser reads to the tree that their node means.
use Rattle.std.proofs.Common.{◌≡◌, ℕ, ◌≤◌, ◌+◌, inr, Bool, true, false, List, [], ◌∷◌, ◌++◌, refl, sym, ap, subst, ◌∙◌, arith, Some, Ok, map, option_map}
use Rattle.std.specs.Prelude.{if◌then◌else◌}
use Rattle.std.specs.declared.ops.Range.{Range}
use Rattle.wave_wasm.specs.Lists.{AllOf}
use Rattle.wave_wasm.specs.Names.{AreDistinct}
use Rattle.wave_grammar.specs.LeafTokens.{name_of}
use Rattle.wave_lex.specs.declared.lex.Token.TheVariants.{BraceOpen, BraceClose, Comma, LabelOrKeyword}
use Rattle.wave_lex.specs.Tokenization.{span}
use Rattle.wave_grammar.specs.Token as token
use Rattle.wave_grammar.specs.Token.{Token, brace_open, brace_close, comma}
use Rattle.wave_grammar.specs.ParserPosition.{Place, TakesItem, TakesTokens, text_at, span_at}
use Rattle.wave_grammar.specs.Tree as tree
use Rattle.wave_grammar.specs.Tree.{Label}
use Rattle.wave_grammar.specs.SpannedTree.{at, flags, label, no_placed, HoldsTokens, SpellsFlags, StandsAtTokens, LiesIn, slice}
use Rattle.wave_grammar.specs.NodeTree.{NodeTree, node_trees}
use Rattle.wave_grammar.specs.Nodes.{placed_of, all_placed, flags_of, shape_from, and_then, with_both}
use Rattle.wave_grammar.specs.declared.form.NodeType.TheVariants as kind
use Rattle.wave_tree.specs.ParsedNodes.{IsSound, IsParsed}
use Rattle.wave_node.specs.FlagNodes.{flag_node}
use Rattle.wave_tree.specs.Private.ParsedNodes.{AreFurtherFlags, IsOfFlags}
use Rattle.wave_grammar.specs.FlagOrder.{Flag, flag_name, put_flag, flags_in_order}
use Rattle.wave_grammar.specs.CommaSeparated.{FurtherItems}
use Rattle.wave_tree.proofs.NodeCorrectness.Lists.{brace_mark, closed_tokens}
use Rattle.wave_tree.proofs.NodeCorrectness.Tokens.{in_order, sound_next, start_of, at_start, holds, built, takes_plus, text_there}
use Rattle.wave_tree.proofs.ParserCorrectness.Steps.{tokens_join}
use Rattle.wave_tree.proofs.NodeCorrectness.TokenAlignment.{part_at}
use Rattle.wave_grammar.proofs.NodeTexts.Slices.{taken_is, tokens_forward, tokens_source}

-- ---- what holds of each flag

-- a flag of the source between two places
record IsFlagOf (source : List ℕ) (from to : ℕ) (f : Flag) : Type 0 where
  pub text : slice source f.0 ≡ f.1
  pub lies : LiesIn f.0 from to
  pub spells : HoldsTokens source f.0 (token.label f.1 ∷ [])

-- so is each
abbrev AreFlagsOf : List ℕ → ℕ → ℕ → List Flag → Type 0
AreFlagsOf source from to [] = Unit {0}
AreFlagsOf source from to (f ∷ more) = IsFlagOf source from to f × AreFlagsOf source from to more

wider : (source : List ℕ) (from low to : ℕ) (fs : List Flag) → low ≤ from → AreFlagsOf source from to fs → AreFlagsOf source low to fs
wider source from low to [] l h = tt
wider source from low to (f ∷ more) l (h, hs) =
    let a = h.lies.0 in
    (record { text = h.text; lies = (omega (arith, a, l), h.lies.1); spells = h.spells }, wider source from low to more l hs)

put_among : (source : List ℕ) (from to : ℕ) (f : Flag) (gs : List Flag) → IsFlagOf source from to f → AreFlagsOf source from to gs → AreFlagsOf source from to (put_flag f gs)
put_among source from to f [] h hs = (h, tt)
put_among source from to f (g ∷ gs) h (k, hs) = by (tree.is_before (flag_name f) (flag_name g)) (put_among source from to f gs h hs)
  where
    by : (b : Bool) → AreFlagsOf source from to (put_flag f gs) → AreFlagsOf source from to (if b then f ∷ g ∷ gs else g ∷ put_flag f gs)
    by true more = (h, (k, hs))
    by false more = (k, more)

in_order_among : (source : List ℕ) (from to : ℕ) (fs : List Flag) → AreFlagsOf source from to fs → AreFlagsOf source from to (flags_in_order fs)
in_order_among source from to [] h = tt
in_order_among source from to (f ∷ fs) (h, hs) = put_among source from to f (flags_in_order fs) h (in_order_among source from to fs hs)

put_place : (P : Range ℕ → Type 0) (f : Flag) (gs : List Flag) → P f.0 → AllOf P (map (λ g. g.0) gs) → AllOf P (map (λ g. g.0) (put_flag f gs))
put_place P f [] h hs = (h, tt)
put_place P f (g ∷ gs) h (k, hs) = by (tree.is_before (flag_name f) (flag_name g)) (put_place P f gs h hs)
  where
    by : (b : Bool) → AllOf P (map (λ (x : Flag). x.0) (put_flag f gs)) → AllOf P (map (λ (x : Flag). x.0) (if b then f ∷ g ∷ gs else g ∷ put_flag f gs))
    by true more = (h, (k, hs))
    by false more = (k, more)

places_in_order : (P : Range ℕ → Type 0) (fs : List Flag) → AllOf P (map (λ g. g.0) fs) → AllOf P (map (λ g. g.0) (flags_in_order fs))
places_in_order P [] h = tt
places_in_order P (f ∷ fs) (h, hs) = put_place P f (flags_in_order fs) h (places_in_order P fs hs)

-- ---- their nodes and texts

nodes_mean : (source : List ℕ) (from to : ℕ) (fs : List Flag) → AreFlagsOf source from to fs → all_placed source (node_trees (map flag_node fs)) ≡ Some (map (λ f. at f.0 (label f.0 f.1 no_placed)) fs)
nodes_mean source from to [] h = refl
nodes_mean source from to (f ∷ fs) (h, hs) =
    ap (λ z. with_both (λ t ts. t ∷ ts) (Some (at f.0 (label f.0 z no_placed))) (all_placed source (node_trees (map flag_node fs)))) h.text
    ∙ ap (λ o. with_both (λ t ts. t ∷ ts) (Some (at f.0 (label f.0 f.1 no_placed))) o) (nodes_mean source from to fs hs)

flags_again : (fs : List Flag) → flags_of (map (λ f. at f.0 (label f.0 f.1 no_placed)) fs) ≡ Some fs
flags_again [] = refl
flags_again (f ∷ fs) = ap (λ o. with_both (λ a as'. a ∷ as') (Some (f.0, f.1)) o) (flags_again fs)

flags_spell : (source : List ℕ) (p : Range ℕ) (fs : List Flag) → AreFlagsOf source p.start p.end fs → SpellsFlags source p fs
flags_spell source p [] h = tt
flags_spell source p (f ∷ fs) (h, hs) = (h.lies, h.spells, flags_spell source p fs hs)

put_text : (f : Flag) (gs : List Flag) → map (λ g. g.1) (put_flag f gs) ≡ tree.put_in_order f.1 (map (λ g. g.1) gs)
put_text f [] = refl
put_text f (g ∷ gs) = by (tree.is_before (flag_name f) (flag_name g)) (put_text f gs)
  where
    by : (b : Bool) → map (λ (g : Flag). g.1) (put_flag f gs) ≡ tree.put_in_order f.1 (map (λ (g : Flag). g.1) gs) →
        map (λ (g : Flag). g.1) (if b then f ∷ g ∷ gs else g ∷ put_flag f gs) ≡ (if b then f.1 ∷ g.1 ∷ map (λ (g : Flag). g.1) gs else g.1 ∷ tree.put_in_order f.1 (map (λ (g : Flag). g.1) gs))
    by true e = refl
    by false e = ap (λ z. g.1 ∷ z) e

texts_in_order : (fs : List Flag) → map (λ g. g.1) (flags_in_order fs) ≡ tree.in_order (map (λ g. g.1) fs)
texts_in_order [] = refl
texts_in_order (f ∷ fs) = put_text f (flags_in_order fs) ∙ ap (tree.put_in_order f.1) (texts_in_order fs)

names_are : (fs : List Flag) → map flag_name fs ≡ map name_of (map (λ g. g.1) fs)
names_are [] = refl
names_are (f ∷ fs) = ap (λ z. name_of f.1 ∷ z) (names_are fs)

-- ---- the braces

-- what further flags give
record FlagsSpell (p q : Place) (fs : List Flag) : Type 0 where
  pub tokens : List Token
  pub taken : TakesTokens p tokens q
  pub are : IsSound p → AreFlagsOf p.lexer.source p.lexer.end q.lexer.end fs
  pub places : (o : Place) (before : List Token) → TakesTokens o before p → AllOf (StandsAtTokens o.lexer.source (span o.lexer.end q.lexer.end)) (map (λ g. g.0) fs)
  pub items : (rest : List Token) → FurtherItems brace_close Label (tokens ++ rest) (map (λ g. g.1) fs) rest

flag_there : (m k : Place) (to : ℕ) → TakesItem m (Some (Ok LabelOrKeyword)) k → k.lexer.end ≤ to → IsSound m → IsFlagOf m.lexer.source m.lexer.end to (span_at k, text_at k)
flag_there m k to h l sound =
    let it = taken_is m k LabelOrKeyword h in
    let a = it.start in
    record { text = text_there m k LabelOrKeyword h; lies = (omega (arith, a), l); spells = holds m k k (token.label (text_at k)) [] sound (LabelOrKeyword, h, refl) refl }

further_flags : (p q : Place) (fs : List Flag) → AreFurtherFlags p fs q → FlagsSpell p q fs
further_flags p q [] h =
    let (ts, taken, closes) = closed_tokens BraceClose p q brace_mark h in
    record { tokens = ts; taken = taken; are = λ sound. tt; places = λ o before h. tt; items = closes }
further_flags p q (f ∷ more) (m, k, comma_there, label_there, same, others) =
    let rest_of = further_flags k q more others in
    let comma_is = taken_is p m Comma comma_there in
    let label_is = taken_is m k LabelOrKeyword label_there in
    let prefix : TakesTokens p (comma ∷ token.label (text_at k) ∷ []) k = (m, (Comma, comma_there, refl), (k, (LabelOrKeyword, label_there, refl), refl)) in
    let source_k = tokens_source p k (comma ∷ token.label (text_at k) ∷ []) prefix in
    let after = tokens_forward k q rest_of.tokens rest_of.taken in
    let a1 = comma_is.end in let a2 = label_is.end in
    record {
      tokens = comma ∷ token.label (text_at k) ∷ rest_of.tokens;
      taken = (m, (Comma, comma_there, refl), (k, (LabelOrKeyword, label_there, refl), rest_of.taken));
      are = λ sound.
          let m_sound = sound_next p m Comma comma_there sound in
          let one_flag = subst (λ z. IsFlagOf z m.lexer.end q.lexer.end (span_at k, text_at k)) comma_is.source (flag_there m k q.lexer.end label_there after m_sound) in
          let low = one_flag.lies.0 in (
            subst (IsFlagOf p.lexer.source p.lexer.end q.lexer.end) (sym same) (record { text = one_flag.text; lies = (omega (arith, low, a1), one_flag.lies.1); spells = one_flag.spells }),
            wider p.lexer.source k.lexer.end p.lexer.end q.lexer.end more (omega (arith, a1, a2))
                (subst (λ z. AreFlagsOf z k.lexer.end q.lexer.end more) source_k (rest_of.are (sound_next m k LabelOrKeyword label_there m_sound))),
          );
      places = λ o before there.
          let whole = span o.lexer.end q.lexer.end in (
            subst (λ (z : Flag). StandsAtTokens o.lexer.source whole z.0) (sym same)
                (part_at o m k k q (token.label (text_at k)) (before ++ comma ∷ []) [] rest_of.tokens (tokens_join o p m before (comma ∷ []) there (m, (Comma, comma_there, refl), refl)) (LabelOrKeyword, label_there, refl) refl rest_of.taken),
            rest_of.places o (before ++ comma ∷ token.label (text_at k) ∷ []) (tokens_join o p k before (comma ∷ token.label (text_at k) ∷ []) there prefix),
          );
      items = λ rest. (
        token.label (text_at k) ∷ (rest_of.tokens ++ rest),
        rest_of.tokens ++ rest,
        refl,
        ap (λ (z : Flag). token.label z.1 ∷ (rest_of.tokens ++ rest)) (sym same),
        rest_of.items rest,
      );
    }

-- flags after their first one
pub flags_parsed : (n : ℕ) (p m k q : Place) (parsed : NodeTree) → TakesItem p (Some (Ok BraceOpen)) m → TakesItem m (Some (Ok LabelOrKeyword)) k → IsOfFlags m.lexer.start k q parsed → IsParsed (n + 1) p q parsed
flags_parsed n p m k q parsed h label_there e =
    let inner = further_flags k q e.more e.are in
    let brace_is = taken_is p m BraceOpen h in
    let label_is = taken_is m k LabelOrKeyword label_there in
    let first : Flag = (span_at k, text_at k) in
    let fs = first ∷ e.more in
    let sorted = flags_in_order fs in
    let whole = span m.lexer.start q.lexer.end in
    let after = tokens_forward k q inner.tokens inner.taken in
    let a1 = label_is.end in
    let labelled : IsSound p → AreFlagsOf p.lexer.source m.lexer.start q.lexer.end fs = λ sound.
    (let m_sound = sound_next p m BraceOpen h sound in
    let ordered = in_order p m BraceOpen h in
    let one_flag = subst (λ z. IsFlagOf z m.lexer.end q.lexer.end first) brace_is.source (flag_there m k q.lexer.end label_there after m_sound) in
    let low = one_flag.lies.0 in (
      record { text = one_flag.text; lies = (omega (arith, low, ordered), one_flag.lies.1); spells = one_flag.spells },
      wider p.lexer.source k.lexer.end m.lexer.start q.lexer.end e.more (omega (arith, a1, ordered))
          (subst (λ z. AreFlagsOf z k.lexer.end q.lexer.end e.more) (label_is.source ∙ brace_is.source) (inner.are (sound_next m k LabelOrKeyword label_there m_sound))),
    )) in
    built (n + 1) p m q brace_open (token.label (text_at k) ∷ inner.tokens) parsed (flags sorted) (BraceOpen, h, refl) (k, (LabelOrKeyword, label_there, refl), inner.taken)
    (λ sound. subst (λ z. placed_of p.lexer.source z ≡ Some (at whole (flags sorted))) (sym e.is)
    (ap (λ o. option_map (at whole) (and_then o (shape_from kind.Flags whole (slice p.lexer.source whole)))) (nodes_mean p.lexer.source m.lexer.start q.lexer.end sorted (in_order_among p.lexer.source m.lexer.start q.lexer.end fs (labelled sound)))
    ∙ ap (λ o. option_map (at whole) (option_map flags o)) (flags_again sorted)))
    (λ sound. flags_spell p.lexer.source whole sorted (in_order_among p.lexer.source m.lexer.start q.lexer.end fs (labelled sound)))
    (let o = start_of p m in
    let brace_there = at_start p m brace_open (BraceOpen, h, refl) in
    places_in_order (StandsAtTokens p.lexer.source whole) fs (
      part_at o m k k q (token.label (text_at k)) (brace_open ∷ []) [] inner.tokens (m, brace_there, refl) (LabelOrKeyword, label_there, refl) refl inner.taken,
      inner.places o (brace_open ∷ token.label (text_at k) ∷ []) (m, brace_there, (k, (LabelOrKeyword, label_there, refl), refl)),
    ))
    (λ rest none_there. takes_plus n (brace_open ∷ token.label (text_at k) ∷ (inner.tokens ++ rest)) (tree.flags (map (λ g. g.1) sorted)) rest
    (inr (inr (inr (map (λ (g : Flag). g.1) fs, omega arith, (inner.tokens ++ rest, refl, inner.items rest), subst AreDistinct (names_are fs) e.distinct, ap tree.flags (texts_in_order fs))))))
