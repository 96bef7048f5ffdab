-- What reading a text at a type says of the text.
use Rattle.std.proofs.Common.{◌≡◌, ◌≢◌, ℕ, inl, inr, List, [], sym, ap, subst, ◌∙◌, None}
use Rattle.std.specs.Prelude.{◌⊎◌}
use Rattle.wave_wasm.specs.Types.{TypeTree, HasDistinctNames, IsRepresentable}
use Rattle.wave_wasm.specs.Values.{Value}
use Rattle.wave_wasm.specs.HasType.{HasType}
use Rattle.wave_lex.specs.Labels.{HasDistinctLabels}
use Rattle.wave_lex.specs.declared.error.ParserErrorKind.TheVariants as kind
use Rattle.wave_lex.specs.Errors.{Diagnostic, Refusal, LiesInText, refusal_of}
use Rattle.wave_grammar.specs.SpannedTree.{SpannedTree, tree_of}
use Rattle.wave_grammar.specs.FaultOrder.{in_text, FirstFault}
use Rattle.wave_grammar.specs.ParserPosition.{Place, TakesItem}
use Rattle.wave_grammar.specs.PrefixAutomaton.{value}
use Rattle.wave_grammar.specs.SyntaxErrors.{LeadsBehindValue, IsSyntaxError}
use Rattle.wave_grammar.specs.NodeTree.{NodeTree}
use Rattle.wave_grammar.specs.Nodes.{IsNodeOf}
use Rattle.wave_grammar.specs.ErrorSpans.{HasTypeKind}
use Rattle.wave_grammar.specs.TypedReading as typed
use Rattle.wave_tree.specs.ParserState.{Parsing, IsTrailing, StaysWithout, first_at, limited, start_of}
use Rattle.wave_tree.specs.ParsedNodes.{IsNodeTaken}
use Rattle.wave_tree.specs.FromStr.{PrintsWithinTwice, IsValueTaken, IsRead, IsTypeRefused, RefusesValue, IsCausedBetween, RefusesStart, BlamesText, RefusesText}
use Rattle.wave_tree.proofs.TextReading.Meaning.{all_cut, means_of, whole_read, refused_means_none, nothing_there, memory_or}
use Rattle.wave_tree.specs.WholeTextLaws.{ReadsWholeText, ReadsWholeTree}
use Rattle.wave_tree.proofs.TextReading.UntypedValues.{untyped_of, refused_spells_none, trailing_spells_none}
use Rattle.wave_tree.proofs.ErrorSpans.Syntax.{trailing_kind}
use Rattle.wave_tree.proofs.ErrorSpans.Trailing.{trailing_lies}
use Rattle.wave_grammar.proofs.Elaboration.TreeToGrammar.{back}
use Rattle.wave_grammar.proofs.RoundTrip.ReadsBack.{reads_merged, twice}

-- ---- nodes at a type

-- what the type gives a node that was taken
pub node_read : {V : Type 0} (tree_of_value : V → Value) (of : V → TypeTree → Type 0) (T : TypeTree) (n : ℕ) (source : List ℕ) (old new : Place) (parsed : NodeTree) (v : V) →
    source ≡ old.lexer.source → LeadsBehindValue n value [] old new [] → IsNodeTaken n old new parsed →
    ((t : SpannedTree) → IsNodeOf source parsed t → HasDistinctNames T → typed.IsTypedValue tree_of_value of T t v) → IsValueTaken tree_of_value of T n old new v
node_read tree_of_value of T n source old new parsed v same read h answer = record {
  placed = h.placed;
  read = record { read = read; taken = h.taken; stands = h.stands; spelled = h.is_node.1 };
  means = λ distinct. answer h.placed (subst (λ (s : List ℕ). IsNodeOf s parsed h.placed) (sym same) h.is_node) distinct;
}

-- why it gives it no value
pub node_refused : (Full : TypeTree → Type 0) (T : TypeTree) (n : ℕ) (source : List ℕ) (old new : Place) (parsed : NodeTree) (e : Diagnostic) →
    source ≡ old.lexer.source → LeadsBehindValue n value [] old new [] → IsNodeTaken n old new parsed → HasTypeKind e →
    ((t : SpannedTree) → IsNodeOf source parsed t → HasDistinctNames T → typed.IsTypeError Full in_text T t e) → e.kind ≢ kind.OutOfMemory → IsTypeRefused Full T n e old new
node_refused Full T n source old new parsed e same read h of_type answer apart = record {
  placed = h.placed;
  read = record { read = read; taken = h.taken; stands = h.stands; spelled = h.is_node.1 };
  kind = of_type;
  blames = λ distinct. elim (answer h.placed (subst (λ (s : List ℕ). IsNodeOf s parsed h.placed) (sym same) h.is_node) distinct) [
    | inl memory ↦ absurd (apart memory)
    | inr other ↦ other
  ];
}

-- a value that was read within n levels prints within twice as many
pub value_prints : {V : Type 0} (tree_of_value : V → Value) (of : V → TypeTree → Type 0) → ((v : V) (T : TypeTree) → of v T → HasType T (tree_of_value v)) →
    (T : TypeTree) (n : ℕ) (old new : Place) (v : V) → IsValueTaken tree_of_value of T n old new v → HasDistinctLabels T → IsRepresentable T → PrintsWithinTwice T n (tree_of_value v)
value_prints tree_of_value of fits T n old new v h labelled representable =
    let taken = h.read.taken in
    let it = h.means labelled.1 in
    twice T labelled representable n taken.tokens (tree_of_value v) (fits v T it.is_of) (back T n taken.tokens (tree_of h.placed) (tree_of_value v) [] taken.takes it.reads)

-- ---- refused values

-- a value that could not be read: of what begins the text
prefix_refused : (Full : TypeTree → Type 0) (T : TypeTree) (n : ℕ) (s : List ℕ) (p : Place) (e : Diagnostic) → RefusesValue Full T n e (start_of s) p → RefusesStart n s e
prefix_refused Full T n s p e h = by (memory_or e.kind)
  where
    by_kind : IsSyntaxError e n value [] (start_of s) p ⊎ IsTypeRefused Full T n e (start_of s) p → RefusesStart n s e
    by_kind (inl k) = inl (refused_spells_none n s e p (λ apart. k))
    by_kind (inr k) = inr (p, k.placed, k.read, k.kind)

    by : (e.kind ≡ kind.OutOfMemory) ⊎ (e.kind ≢ kind.OutOfMemory) → RefusesStart n s e
    by (inl memory) = inl (λ apart. absurd (apart memory))
    by (inr apart) = by_kind (h apart)

-- of what the text means
text_blamed : (Full : TypeTree → Type 0) (T : TypeTree) (n : ℕ) (s : List ℕ) (p : Place) (e : Diagnostic) → RefusesValue Full T n e (start_of s) p → HasDistinctNames T → BlamesText Full T n s e
text_blamed Full T n s p e h distinct = by (memory_or e.kind)
  where
    by_blame : (k : IsTypeRefused Full T n e (start_of s) p) → FirstFault in_text in_text T k.placed (refusal_of e) e.span × typed.ReadsNone T k.placed ⊎ (e.kind ≡ kind.WasmValueError) × (Full T → ⊥) → BlamesText Full T n s e
    by_blame k (inl (fault, none)) = inr (inl (inr (inl (p, k.placed, k.read, fault)), λ v means. none v (whole_read T n s p (tree_of k.placed) v k.read.read k.read.taken means).reads))
    by_blame k (inr other) = inr (inr other)

    by_kind : IsSyntaxError e n value [] (start_of s) p ⊎ IsTypeRefused Full T n e (start_of s) p → BlamesText Full T n s e
    by_kind (inl k) = inr (inl (inl (p, k), refused_means_none T n s e p k))
    by_kind (inr k) = by_blame k (k.blames distinct)

    by : (e.kind ≡ kind.OutOfMemory) ⊎ (e.kind ≢ kind.OutOfMemory) → BlamesText Full T n s e
    by (inl memory) = inl memory
    by (inr apart) = by_kind (h apart)

-- what a value that could not be read says of the text
pub value_refused : (Full : TypeTree → Type 0) (T : TypeTree) (n : ℕ) (s : List ℕ) (old new : Parsing) (e : Diagnostic) → old ≡ limited (first_at (start_of s).lexer) n → RefusesValue Full T old.limit e old.place new.place → LiesInText old.place.lexer.source e.span → IsCausedBetween old.limit old.place new.place e → StaysWithout e old.place new.place → RefusesText Full T n s e
value_refused Full T n s old new e first refused within caused memory =
    let here = subst (λ (z : Parsing). RefusesValue Full T z.limit e z.place new.place) first refused in record {
      prefix = prefix_refused Full T n s new.place e here;
      blames = text_blamed Full T n s new.place e here;
      within = subst (λ (z : Parsing). LiesInText z.place.lexer.source e.span) first within;
      caused = (new.place, subst (λ (z : Parsing). IsCausedBetween z.limit z.place new.place e) first caused);
      memory = λ is. (subst (λ (z : Parsing). StaysWithout e z.place new.place) first memory is).1;
    }

-- ---- what follows

-- what follows a value isn't out of memory
trailing_memory : (e : Diagnostic) (p : Place) → IsTrailing e p → e.kind ≢ kind.OutOfMemory
trailing_memory e p (behind, item, says) is = cc (sym (ap (λ (r : Refusal). r.kind) says.is) ∙ is)

-- what follows a value is refused
pub trailing_refused : {V : Type 0} (tree_of_value : V → Value) (of : V → TypeTree → Type 0) (Full : TypeTree → Type 0) (T : TypeTree) (n : ℕ) (s : List ℕ) (p : Place) (v : V) (e : Diagnostic) → IsValueTaken tree_of_value of T n (start_of s) p v → IsTrailing e p → RefusesText Full T n s e
trailing_refused tree_of_value of Full T n s p v e h trails =
    let t = tree_of h.placed in
    let (behind, any, says) = trails in record {
      prefix = inl (trailing_spells_none n s e p t h.read.read h.read.taken trails);
      blames = λ distinct. inr (inl (
        inr (inr (p, h.placed, tree_of_value v, h.read, (h.means distinct).reads, trails)),
        λ w means. let ends = (whole_read T n s p t w h.read.read h.read.taken means).ends in nothing_there p ends.0 behind ends.1 any,
      ));
      within = trailing_lies s p h.read.taken.tokens e h.read.taken.taken trails;
      caused = (p, λ is. absurd (trailing_kind e p trails is));
      memory = λ is. absurd (trailing_memory e p trails is);
    }

-- a value after which nothing follows is read
pub value_read : {V : Type 0} (tree_of_value : V → Value) (of : V → TypeTree → Type 0) (T : TypeTree) (n : ℕ) (s : List ℕ) (p : Place) (v : V) → IsValueTaken tree_of_value of T n (start_of s) p v → ((behind : Place) × TakesItem p None behind) → IsRead tree_of_value of T n s v
value_read tree_of_value of T n s p v h ends =
    let taken = h.read.taken in record {
      spelled = (tree_of h.placed, (taken.tokens, all_cut s p taken.tokens taken.taken ends, taken.takes));
      meant = λ distinct.
          let it = h.means distinct in
          let means = means_of T n s p (tree_of h.placed) (tree_of_value v) taken ends it.reads in
          (means, it.is_of, reads_merged T n means.0 [] (tree_of_value v) means.2);
    }

-- ---- whole texts

-- a value at the start of a text, and what follows it
pub whole_text : {V : Type 0} (tree_of_value : V → Value) (of : V → TypeTree → Type 0) (Full : TypeTree → Type 0) (T : TypeTree) (n : ℕ) (s : List ℕ) → ReadsWholeText tree_of_value of Full T n s
whole_text tree_of_value of Full T n s = record {
  ends = λ p v taken ends. value_read tree_of_value of T n s p v taken ends;
  trails = λ p v e taken trails. trailing_refused tree_of_value of Full T n s p v e taken trails;
  refused = λ p e refused. (prefix_refused Full T n s p e refused, text_blamed Full T n s p e refused);
}

-- an untyped value there
pub whole_tree : (n : ℕ) (s : List ℕ) → ReadsWholeTree n s
whole_tree n s = record {
  ends = λ p u taken ends. untyped_of n s p u taken ends;
  trails = λ p u e read taken trails. trailing_spells_none n s e p (tree_of taken.1.placed) read taken.1.taken trails;
  refused = λ p e refused. refused_spells_none n s e p refused;
}
