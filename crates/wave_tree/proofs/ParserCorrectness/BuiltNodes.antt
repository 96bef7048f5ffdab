-- What is made of nodes while their tokens are taken.
use Rattle.std.proofs.Common.{◌≡◌, ℕ, List, [], ◌∷◌, ◌++◌, Some, Result, Ok, Err, sym, subst, ◌∙◌}
use Rattle.std.specs.Prelude.{IfOk}
use Rattle.wave_lex.specs.declared.lex.Token as lex
use Rattle.wave_lex.specs.declared.lex.Token.TheVariants.{Colon}
use Rattle.wave_lex.specs.Tokenization.{span}
use Rattle.wave_grammar.specs.ParserPosition.{Place, TakesItem, span_at}
use Rattle.wave_grammar.specs.PrefixAutomaton.{Expectation, StackSymbol}
use Rattle.wave_grammar.proofs.NodeTexts.Slices.{tokens_source}
use Rattle.wave_grammar.specs.NodeTree.{NodeTree, node, no_nodes, node_trees}
use Rattle.wave_grammar.specs.declared.form.NodeType.{NodeType}
use Rattle.wave_tree.specs.ParsedNodes.{IsParsed}
use Rattle.wave_tree.specs.Private.ParsedNodes.{IsNodeBuilt}
use Rattle.wave_tree.proofs.ParserCorrectness.Steps.{Reached}

-- the source stays after a token
pub source_item : (p q : Place) (c : lex.Token) → TakesItem p (Some (Ok c)) q → q.lexer.source ≡ p.lexer.source
source_item p q c ((g, k, h, t), e) = h.source

-- so it does after a tree
pub source_parsed : (n : ℕ) (p q : Place) (parsed : NodeTree) → IsParsed n p q parsed → q.lexer.source ≡ p.lexer.source
source_parsed n p q parsed h = let (c, one, e) = h.begins in tokens_source h.first q h.others h.taken ∙ source_item p h.first c one

-- so it does after tokens that lead there
pub source_reached : {n : ℕ} {d e : Expectation} {s r : List StackSymbol} {p q : Place} → Reached n d s p e r q → q.lexer.source ≡ p.lexer.source
source_reached {p = p} {q = q} h = tokens_source p q h.tokens h.taken

-- what is made of a node is made of what the node is
pub built_node : {M E : Type 0} (Of : List ℕ → NodeTree → M → Type 0) (p q : Place) (A B : NodeTree → Type 0) (r : Result M E) → q.lexer.source ≡ p.lexer.source → ((n : NodeTree) → A n → B n) → IfOk r (IsNodeBuilt Of q A) → IfOk r (IsNodeBuilt Of p B)
built_node Of p q A B (Ok built) e f (n, a, of) = (n, f n a, subst (λ (s : List ℕ). Of s n built) e of)
built_node Of p q A B (Err x) e f h = tt

-- a node, as an answer
abbrev pub as_ok : NodeTree → Result NodeTree (Unit {0})
as_ok n = Ok n

-- what is made of a node of these children
pub finish_node_built : {M Q : Type 0} (Of : List ℕ → NodeTree → M → Type 0) (Are : List ℕ → List NodeTree → Q → Type 0) (p q : Place) (ty : NodeType) (start : ℕ) (built : M) (parts : Q) (children : List NodeTree) (B : NodeTree → Type 0) →
    q.lexer.source ≡ p.lexer.source → Are p.lexer.source children parts → ((cs : List NodeTree) → Are q.lexer.source cs parts → Of q.lexer.source (node ty (span start q.lexer.end) (node_trees cs)) built) →
    B (node ty (span start q.lexer.end) (node_trees children)) → IsNodeBuilt Of p B built
finish_node_built Of Are p q ty start built parts children B e are of b =
    let n = node ty (span start q.lexer.end) (node_trees children) in
    (n, b, subst (λ (s : List ℕ). Of s n built) e (of children (subst (λ (s : List ℕ). Are s children parts) (sym e) are)))

-- a node that was made of itself
pub as_node : (Is : NodeTree → Type 0) (built : NodeTree) → (n : NodeTree) × Is n × (built ≡ n) → Is built
as_node Is built (n, is, e) = subst Is (sym e) is

-- a part that was added to the parts of one source was added to those of the same source
pub part_added : {Q : Type 0} (Are : List ℕ → List NodeTree → Q → Type 0) (old new : Q) (children : List NodeTree) (Is : NodeTree → Type 0) {from source : List ℕ} → from ≡ source →
    (Are from children old → (n : NodeTree) × Is n × Are from (children ++ n ∷ []) new) → Are source children old → (n : NodeTree) × Is n × Are source (children ++ n ∷ []) new
part_added Are old new children Is e add are =
    let (n, is, grown) = add (subst (λ (s : List ℕ). Are s children old) (sym e) are) in
    (n, is, subst (λ (s : List ℕ). Are s (children ++ n ∷ []) new) e grown)

-- what follows from an answer that says nothing of its value
pub as_added : {M E A B : Type 0} (r : Result M E) → IfOk r (λ _. A) → (A → B) → IfOk r (λ _. B)
as_added (Ok built) a f = f a
as_added (Err e) a f = tt

-- what is made of a node that has no parts
pub finish_empty_built : {M : Type 0} (Of : List ℕ → NodeTree → M → Type 0) (p q : Place) (ty : NodeType) (start : ℕ) (built : M) (B : NodeTree → Type 0) →
    q.lexer.source ≡ p.lexer.source → Of q.lexer.source (node ty (span start q.lexer.end) no_nodes) built → B (node ty (span start q.lexer.end) no_nodes) → IsNodeBuilt Of p B built
finish_empty_built Of p q ty start built B e of b = let n = node ty (span start q.lexer.end) no_nodes in (n, b, subst (λ (s : List ℕ). Of s n built) e of)

-- a key, which was taken last, and a value after its colon were added to the parts
pub entry_added : {Q : Type 0} (Are : List ℕ → List NodeTree → Q → Type 0) (levels : ℕ) (p0 p b m : Place) (ty : NodeType) (children : List NodeTree) (old keyed new : Q) →
    p.lexer.source ≡ p0.lexer.source → TakesItem p (Some (Ok Colon)) b → Are p0.lexer.source children old →
    (Are p.lexer.source children old → Are p.lexer.source (children ++ node ty (span_at p) no_nodes ∷ []) keyed) →
    (Are b.lexer.source (children ++ node ty (span_at p) no_nodes ∷ []) keyed → (n : NodeTree) × IsParsed levels b m n × Are b.lexer.source ((children ++ node ty (span_at p) no_nodes ∷ []) ++ n ∷ []) new) →
    (n : NodeTree) × IsParsed levels b m n × Are p0.lexer.source ((children ++ node ty (span_at p) no_nodes ∷ []) ++ n ∷ []) new
entry_added Are levels p0 p b m ty children old keyed new here colon_there are push add =
    let key = node ty (span_at p) no_nodes in
    let with_key = subst (λ (s : List ℕ). Are s (children ++ key ∷ []) keyed) here (push (subst (λ (s : List ℕ). Are s children old) (sym here) are)) in
    part_added Are keyed new (children ++ key ∷ []) (IsParsed levels b m) (source_item p b Colon colon_there ∙ here) add with_key

-- what is never made has whatever is wanted
pub never_built : {M E : Type 0} (Is : M → Type 0) (r : Result M E) → IfOk r (λ _. ⊥) → IfOk r Is
never_built Is (Ok built) none = absurd none
never_built Is (Err e) none = tt
