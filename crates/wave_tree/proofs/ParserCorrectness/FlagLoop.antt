-- What the loop over flags keeps.
use Rattle.std.proofs.Common.{◌≡◌, ℕ, List, [], ◌∷◌, ◌++◌, false, Ok, Err, Result, refl, sym, ap, subst, ◌∙◌, Bor, map, append_assoc, inl, inr}
use Rattle.std.specs.Prelude.{IfOk}
use Rattle.std.proofs.lemmas.List.{map-append, append-nil}
use Rattle.std.specs.declared.ops.Range.{Range}
use Rattle.std.specs.Cmp.Lexicographic.{slice_cmp}
use Rattle.std.specs.Ordering.{nat_cmp}
use Rattle.std.specs.BTreeMap.{BTreeMap, insert_entry}
use Rattle.wave_wasm.specs.Names.{is_one_of, AreDistinct}
use Rattle.wave_lex.specs.Tokenization.{span}
use Rattle.wave_lex.specs.declared.lex.Token.TheVariants.{BraceClose, LabelOrKeyword, Comma}
use Rattle.wave_grammar.specs.ParserPosition.{Place, text_at, span_at}
use Rattle.wave_grammar.specs.LeafTokens.{name_of}
use Rattle.wave_grammar.specs.PrefixAutomaton.{Expectation, StackSymbol}
use Rattle.wave_grammar.specs.PrefixAutomaton as expectation
use Rattle.wave_grammar.specs.NodeTree.{NodeTree, node, node_trees}
use Rattle.wave_grammar.specs.declared.form.NodeType.TheVariants as kind
use Rattle.wave_grammar.specs.FlagOrder.{Flag, flag_name, flags_in_order}
use Rattle.wave_tree.specs.ParsedNodes.{TakesClass}
use Rattle.wave_tree.specs.Private.ParsedNodes.{IsNodeBuilt, IsClosed, AreFurtherFlags, IsOfFlags}
use Rattle.wave_tree.proofs.ParserCorrectness.BuiltNodes.{source_item}
use Rattle.wave_grammar.specs.SpannedTree.{slice}
use Rattle.wave_grammar.proofs.NodeTexts.Slices.{tokens_source}
use Rattle.wave_wasm.specs.Lists.{AllOf}
use Rattle.wave_grammar.specs.FlagParts.{AreFlagsOf, flag_nodes}
use Rattle.wave_tree.specs.Private.ParserState.{Stream, AsksFor}
use Rattle.wave_tree.proofs.ParserCorrectness.Steps.{Reached, IsFlagExpected}
use Rattle.wave_tree.proofs.ParserCorrectness.LexerCalls.{asks_reached}
use Rattle.wave_wasm.proofs.Names.NameSets.{Holds}
use Rattle.wave_grammar.proofs.NodeMeaning.FlagOrder.{order_last, none_in_order}
use Rattle.wave_grammar.proofs.Fields.Lookup.{all_last}
use Rattle.wave_node.proofs.ParserCorrectness.FlagsSorted.{entry_of, named_place, insert_flag, nodes_of, IsWritten, all_ordered, all_named}
use Rattle.wave_wasm.proofs.Names.NameTests.{none_of, distinct_more}

-- the flag that was taken last
abbrev pub flag_at : Place → Flag
flag_at p = (span_at p, text_at p)

-- the flags so far: the first one, which ends at the place start, and more
pub record FlagsSoFar (flags : BTreeMap (Bor (List ℕ)) (Range ℕ)) (start at : Place) : Type 0 where
  pub more : List Flag
  pub holds : Holds flags (map flag_name (flag_at start ∷ more))
  pub distinct : AreDistinct (map flag_name (flag_at start ∷ more))
  pub written : AllOf (IsWritten start.lexer.source) (flag_at start ∷ more)
  pub ordered : map entry_of flags.entries ≡ map named_place (flags_in_order (flag_at start ∷ more))
  pub tree : (rest : List Flag) (r : Place) → AreFurtherFlags at rest r → AreFurtherFlags start (more ++ rest) r
  pub led : (n : ℕ) (s : List StackSymbol) → (d : Expectation) × IsFlagExpected d (map flag_name (flag_at start ∷ more)) at × Reached n (expectation.behind_word (text_at start)) s start d s at

-- the source stays
pub source_flags : (flags : BTreeMap (Bor (List ℕ)) (Range ℕ)) (start at : Place) → FlagsSoFar flags start at → at.lexer.source ≡ start.lexer.source
source_flags flags start at h = let (d, i, r) = h.led 0 [] in tokens_source start at r.tokens r.taken

-- one more flag, after a comma
pub grown : (old new : BTreeMap (Bor (List ℕ)) (Range ℕ)) (start at m k : Place) (key : Bor (List ℕ)) (v : Range ℕ) → (h : FlagsSoFar old start at) → TakesClass Comma at m → TakesClass LabelOrKeyword m k →
    new.entries ≡ insert_entry (λ a b. slice_cmp nat_cmp a.now b.now) old.entries key v → key.now ≡ name_of (text_at k) → v ≡ span_at k →
    is_one_of (map flag_name (flag_at start ∷ h.more)) (name_of (text_at k)) ≡ false →
    Holds new (map flag_name (flag_at start ∷ h.more) ++ name_of (text_at k) ∷ []) →
    ((n : ℕ) (s : List StackSymbol) → (d : Expectation) × IsFlagExpected d (map flag_name (flag_at start ∷ h.more) ++ name_of (text_at k) ∷ []) k × Reached n (expectation.behind_word (text_at start)) s start d s k) → FlagsSoFar new start k
grown old new start at m k key v h comma_there label_there entries_are key_is node_is new_name holds led =
    let f = flag_at k in
    let fs = flag_at start ∷ h.more in
    let none = none_of (map flag_name fs) (flag_name f) new_name in
    let names : map flag_name fs ++ flag_name f ∷ [] ≡ map flag_name (flag_at start ∷ (h.more ++ f ∷ [])) = sym (map-append flag_name fs (f ∷ [])) in
    let pair : (key.now, v) ≡ named_place f = λ i. (key_is i, node_is i) in
    record {
      more = h.more ++ f ∷ [];
      holds = subst (Holds new) names holds;
      distinct = subst AreDistinct names (distinct_more (map flag_name fs) (flag_name f) h.distinct none);
      written = all_last (IsWritten start.lexer.source) fs f h.written (ap (λ (source : List ℕ). slice source (span_at k)) (source_item m k LabelOrKeyword label_there ∙ (source_item at m Comma comma_there ∙ source_flags old start at h)));
      ordered = ap (map entry_of) entries_are ∙ (insert_flag key v old.entries f (flags_in_order fs) pair h.ordered (none_in_order (flag_name f) fs none) ∙ ap (map named_place) (sym (order_last fs f none)));
      tree = λ rest r further. subst (λ z. AreFurtherFlags start z r) (sym (append_assoc h.more (f ∷ []) rest)) (h.tree (f ∷ rest) r (m, k, comma_there, label_there, refl, further));
      led = λ n s. let (d, i, reached) = led n s in (d, subst (λ z. IsFlagExpected d z k) names i, reached);
    }

-- the close
pub ended : {M E : Type 0} (Of : List ℕ → NodeTree → M → Type 0) (flags : BTreeMap (Bor (List ℕ)) (Range ℕ)) (start at q : Place) (from : ℕ) (r : Result M E) → (h : FlagsSoFar flags start at) → IsClosed BraceClose at q →
    IfOk r (λ built. AreFlagsOf q.lexer.source flags → Of q.lexer.source (node kind.Flags (span from q.lexer.end) (flag_nodes flags)) built) → IfOk r (IsNodeBuilt Of start (IsOfFlags from start q))
ended Of flags start at q from (Err x) h close built = tt
ended Of flags start at q from (Ok it) h close built =
    let fs = flag_at start ∷ h.more in
    let source : q.lexer.source ≡ start.lexer.source = source_closed at q close ∙ source_flags flags start at h in
    let named : AreFlagsOf q.lexer.source flags = subst (λ (s : List ℕ). AreFlagsOf s flags) (sym source) (all_named start.lexer.source flags.entries (flags_in_order fs) h.ordered (all_ordered start.lexer.source fs h.written)) in (
      node kind.Flags (span from q.lexer.end) (flag_nodes flags),
      record {
        more = h.more;
        are = subst (λ z. AreFurtherFlags start z q) (append-nil h.more) (h.tree [] q close);
        distinct = h.distinct;
        is = ap (λ z. node kind.Flags (span from q.lexer.end) (node_trees z)) (nodes_of flags.entries (flags_in_order fs) h.ordered);
      },
      subst (λ (s : List ℕ). Of s (node kind.Flags (span from q.lexer.end) (flag_nodes flags)) it) source (built named),
    )
  where
    source_closed : (p r : Place) → IsClosed BraceClose p r → r.lexer.source ≡ p.lexer.source
    source_closed p r (inl h) = source_item p r BraceClose h
    source_closed p r (inr (m, h, k)) = source_item m r BraceClose k ∙ source_item p m Comma h

-- after the flags so far the lexer is asked for more
pub asks_flags : (flags : BTreeMap (Bor (List ℕ)) (Range ℕ)) (old at new : Stream) → FlagsSoFar flags old.place at.place → AsksFor old at → AsksFor at new → AsksFor old new
asks_flags flags old at new so_far first more =
    let (d, i, r) = so_far.led 0 [] in
    asks_reached 0 (expectation.behind_word (text_at old.place)) d [] [] old at new r first more
