-- What reading the parameters of a call at types says of a request.
use Rattle.std.proofs.Common.{ℕ, ◌≡◌, ◌≢◌, ◌∙◌, ◌++◌, List, [], ◌∷◌, Option, Some, None, inl, inr, map, drop, refl, sym, ap, subst, arith}
use Rattle.std.specs.Prelude.{◌↔◌}
use Rattle.std.specs.declared.ops.Range.{Range}
use Rattle.wave_wasm.specs.Lists.{AllOf}
use Rattle.wave_wasm.specs.Text.{arguments_text}
use Rattle.wave_wasm.specs.Types.{TypeTree, HasDistinctNames}
use Rattle.wave_wasm.specs.Values.{Value}
use Rattle.wave_lex.specs.Errors.{Diagnostic}
use Rattle.wave_lex.specs.declared.error.ParserErrorKind.TheVariants as kind
use Rattle.wave_type.specs.FunctionType.{FunctionType, types_of}
use Rattle.wave_value.specs.FullTypes.{IsFull}
use Rattle.wave_value.specs.TypedValue.{TypedValue, IsAt}
use Rattle.wave_grammar.specs.Token.{Token, TokenizesTo, paren_close}
use Rattle.wave_grammar.specs.Tree.{Tree, Trees, MaybeTree, no_tree, a_tree, tuple, trees}
use Rattle.wave_grammar.specs.Calls.{IsCall, SpellsParams}
use Rattle.wave_grammar.specs.Params.{Params}
use Rattle.wave_grammar.specs.ParamElaboration.{TreeParams}
use Rattle.wave_grammar.specs.SpannedTree as placed
use Rattle.wave_grammar.specs.SpannedTree.{SpannedTree, SpannedShape, shape_of, placed_trees, tree_of, tree_of_shape, slice}
use Rattle.wave_grammar.proofs.Elaboration.Params.{params_by_tree}
use Rattle.wave_grammar.proofs.RoundTrip.Leaves.{one_cut_into}
use Rattle.wave_grammar.specs.NodeTree.{NodeTree, type_of}
use Rattle.wave_grammar.specs.Nodes.{placed_of}
use Rattle.wave_grammar.specs.NodeParams.{RefusesParams, RefusesNone, close_of}
use Rattle.wave_grammar.specs.declared.form.NodeType.{NodeType}
use Rattle.wave_grammar.specs.declared.form.NodeType.TheVariants as form
use Rattle.wave_grammar.proofs.ByKind.Leaves.{tree_is}
use Rattle.wave_grammar.proofs.ByKind.Lists.{trees_are}
use Rattle.wave_grammar.proofs.ChildNodes.Inside.{From, inside}
use Rattle.wave_grammar.proofs.Elaboration.ParamsInTurn.{omitted_values, item_values, items_fault, fault_none, no_omitted}
use Rattle.wave_tree.specs.UntypedCall.{Called, IsCalledOf, MeansParams, RefusesCall, GivesParamsAt, RefusesParamsAt}
use Rattle.wave.specs.TypedCalls.{IsCallAt, HasParamsFault}
use Rattle.wave.specs.declared.request.Request.TheVariants.{CallAt}
use Rattle.wave.specs.Answers.{Answers, IsRefused}

-- ---- the trees of parameters

-- the trees of the items, none where there are no parameters
abbrev AreItemsOf : MaybeTree → List Tree → Type 0
AreItemsOf no_tree items = items ≡ []
AreItemsOf (a_tree t) items = t ≡ tuple (trees items)

-- the items of parameters, and that tokens are at types what the items' trees are
record HasItems (tokens : List Token) (params : MaybeTree) : Type 0 where
  pub items : List Tree
  pub are : AreItemsOf params items
  pub by : (Ts : List TypeTree) (vs : List Value) → Params Ts tokens vs ↔ TreeParams Ts items vs

items_of : (tokens : List Token) (params : MaybeTree) → SpellsParams 100 tokens params → HasItems tokens params
items_of tokens params (inl (e, f)) = record {
  items = [];
  are = subst (λ (p : MaybeTree). AreItemsOf p []) (sym f) refl;
  by = λ Ts vs. subst (λ (z : List Token). Params Ts z vs ↔ TreeParams Ts [] vs) (sym e) (params_by_tree Ts 100 (paren_close ∷ []) [] vs refl);
}
items_of tokens params (inr (prefix, items, e, some, all, f)) = record {
  items = items;
  are = subst (λ (p : MaybeTree). AreItemsOf p items) (sym f) refl;
  by = λ Ts vs. subst (λ (z : List Token). Params Ts z vs ↔ TreeParams Ts items vs) (sym e) (params_by_tree Ts 100 prefix items vs all);
}

one_list : (ts us : List Tree) → trees ts ≡ trees us → ts ≡ us
one_list [] [] e = refl
one_list [] (u ∷ us) e = absurd (cc)
one_list (t ∷ ts) [] e = absurd (cc)
one_list (t ∷ ts) (u ∷ us) e =
    let first : t ≡ u = cc in
    let more : trees ts ≡ trees us = cc in
    λ i. first i ∷ one_list ts us more i

inside_tuple : (ts us : Trees) → tuple ts ≡ tuple us → ts ≡ us
inside_tuple ts us e = cc

-- the items are the trees of the placed ones
placed_items : (t : SpannedTree) (items : List Tree) (ps : List SpannedTree) → tree_of t ≡ tuple (trees items) → shape_of t ≡ placed.tuple (placed_trees ps) → items ≡ map tree_of ps
placed_items t items ps is shape =
    let same : tree_of t ≡ tuple (placed.trees_of (placed_trees ps)) = tree_is t (placed.tuple (placed_trees ps)) shape in
    one_list items (map tree_of ps) (inside_tuple _ _ (sym is ∙ (same ∙ ap tuple (trees_are ps))))

tuple_from : (ty : NodeType) (p : Range ℕ) (text : List ℕ) (cs : List SpannedTree) (s : SpannedShape) (ts : Trees) → From ty p text cs s → tree_of_shape s ≡ tuple ts → ty ≡ form.Tuple
tuple_from ty p text cs (placed.tuple items) ts f is = f.0
tuple_from ty p text cs _ ts f is = absurd (cc)

-- the node of a tuple's tree is a tuple
tuple_node : (source : List ℕ) (n : NodeTree) (t : SpannedTree) (ts : Trees) → placed_of source n ≡ Some t → tree_of t ≡ tuple ts → type_of n ≡ form.Tuple
tuple_node source n t ts is e =
    let i = inside source n t is in
    tuple_from (type_of n) _ _ i.children (shape_of t) ts i.from (sym (tree_is t (shape_of t) refl) ∙ e)

-- ---- what was read

-- the values of the parameters
abbrev pub AreValuesAt : List TypeTree → Called → List TypedValue → Type 0
AreValuesAt Ts u vs = GivesParamsAt (λ (v : TypedValue). v.tree) (λ v T. IsAt T v) Ts u.source u.params vs

abbrev values_of : List TypedValue → List Value
values_of vs = map (λ (v : TypedValue). v.tree) vs

given : (Ts : List TypeTree) (source : List ℕ) (o : Option NodeTree) (params : MaybeTree) (items : List Tree) (vs : List TypedValue) → AllOf HasDistinctNames Ts → MeansParams source o params → AreItemsOf params items
    → GivesParamsAt (λ (v : TypedValue). v.tree) (λ v T. IsAt T v) Ts source o vs → TreeParams Ts items (values_of vs)
given Ts source None params items vs distinct means are gives =
    let none : items ≡ [] = subst (λ (p : MaybeTree). AreItemsOf p items) means are in
    subst (λ (z : List Tree). TreeParams Ts z (values_of vs)) (sym none) (omitted_values (λ (v : TypedValue). v.tree) (λ v T. IsAt T v) IsFull Ts vs distinct gives)
given Ts source (Some n) params items vs distinct (t, node, is) are gives =
    let (ps, shape, read) = gives t node in
    let same : items ≡ map tree_of ps = placed_items t items ps (subst (λ (p : MaybeTree). AreItemsOf p items) is are) shape in
    subst (λ (z : List Tree). TreeParams Ts z (values_of vs)) (sym same) (item_values (λ (v : TypedValue). v.tree) (λ v T. IsAt T v) IsFull Ts ps vs distinct read)

-- the parameters that a call's node means in its source
means_at : (s : List ℕ) (u : Called) (of : IsCalledOf s u) → MeansParams u.source u.params of.params
means_at s u of = subst (λ (source : List ℕ). MeansParams source u.params of.params) (sym of.source) of.means

-- the name and the values are those of a call at the types
pub read_at : (Ts : List TypeTree) (s : List ℕ) (u : Called) (vs : List TypedValue) → AllOf HasDistinctNames Ts → IsCalledOf s u → AreValuesAt Ts u vs → IsCallAt Ts s (slice s u.name) (values_of vs)
read_at Ts s u vs distinct of gives =
    let it = items_of of.call.tokens of.params of.call.spelled in
    (of.params, of.call, (it.by Ts (values_of vs)).1 (given Ts u.source u.params of.params it.items vs distinct (means_at s u of) it.are gives))

-- ---- what was refused

-- a fault of the parameters, and that the trees of their items have no values
abbrev IsBlamed : List TypeTree → List ℕ → Range ℕ → Option NodeTree → List Tree → Diagnostic → Type 0
IsBlamed Ts source name o items e = HasParamsFault Ts source name o e × ((vs : List Value) → TreeParams Ts items vs → ⊥)

blamed : (Ts : List TypeTree) (source : List ℕ) (name : Range ℕ) (o : Option NodeTree) (params : MaybeTree) (items : List Tree) (e : Diagnostic) → AllOf HasDistinctNames Ts → AllOf IsFull Ts → e.kind ≢ kind.OutOfMemory
    → MeansParams source o params → AreItemsOf params items → RefusesParamsAt IsFull Ts source name o e → IsBlamed Ts source name o items e
blamed Ts source name None params items e distinct full other means are refuses = by refuses where
  none : items ≡ []
  none = subst (λ (p : MaybeTree). AreItemsOf p items) means are

  by : RefusesNone IsFull Ts name e → IsBlamed Ts source name None items e
  by (inl memory) = absurd (other memory)
  by (inr (inl (some, says))) = ((some, says), λ vs read. no_omitted Ts vs some (subst (λ (z : List Tree). TreeParams Ts z vs) none read))
  by (inr (inr h)) = absurd (h.3 full)
blamed Ts source name (Some n) params items e distinct full other (t, node, is) are refuses = by (refuses t node) where
  tree_there : tree_of t ≡ tuple (trees items)
  tree_there = subst (λ (p : MaybeTree). AreItemsOf p items) is are

  by : RefusesParams IsFull Ts n t e → IsBlamed Ts source name (Some n) items e
  by (inl (apart, refused)) = absurd (apart (tuple_node source n t (trees items) node.0 tree_there))
  by (inr (ps, shape, inl memory)) = absurd (other memory)
  by (inr (ps, shape, inr refused)) =
      let fault = items_fault IsFull Ts ps n e distinct full other refused in
      ((t, ps, node, shape, fault), λ vs read. fault_none Ts ps (close_of n) e fault vs (subst (λ (z : List Tree). TreeParams Ts z vs) (placed_items t items ps tree_there shape) read))

-- two calls of one text have the same tokens
same_tokens : (s name other : List ℕ) (params others : MaybeTree) (call : IsCall s name params) (again : IsCall s other others) → again.tokens ≡ call.tokens
same_tokens s name other params others call again =
    let less = call.named.1 again.bytes again.named.0 in
    let more = again.named.1 call.bytes call.named.0 in
    let same : again.bytes ≡ call.bytes = omega (arith, less, more) in
    one_cut_into (drop call.bytes s) again.tokens call.tokens (subst (λ (k : ℕ). TokenizesTo (drop k s) again.tokens) same again.cut) call.cut

module _ (f : FunctionType) (s : List ℕ) where
  -- a refusal of the parameters states a fault of the call, which has no values at the types; or it is out of memory
  pub refused_at : (u : Called) (e : Diagnostic) → AllOf HasDistinctNames (types_of f.params) → IsCalledOf s u → RefusesParamsAt IsFull (types_of f.params) u.source u.name u.params e → e.kind ≢ kind.OutOfMemory → IsRefused (CallAt f) s e
  refused_at u e distinct of refuses other =
      let it = items_of of.call.tokens of.params of.call.spelled in
      let (fault, none) = blamed (types_of f.params) u.source u.name u.params of.params it.items e distinct distinct other (means_at s u of) it.are refuses in (
        inr (u, of, subst (λ (source : List ℕ). HasParamsFault (types_of f.params) source u.name u.params e) of.source fault),
        λ answer (name, vs, (params, call, are), same).
            none vs ((it.by (types_of f.params) vs).0 (subst (λ (z : List Token). Params (types_of f.params) z vs) (same_tokens s (slice s u.name) name of.params params of.call call) are)),
      )

  -- a refusal of the text states a fault of it, which is no call; or it is out of memory
  pub is_no_call_at : (e : Diagnostic) → RefusesCall s e → e.kind ≢ kind.OutOfMemory → IsRefused (CallAt f) s e
  is_no_call_at e fault other =
      let reported = fault other in
      (inl reported.0, λ answer (name, vs, (params, call, are), same). reported.1 name params call)

  -- the name and the canonical parameters are the answer
  pub answered_at : (u : Called) (vs : List TypedValue) (answer : List ℕ) → AllOf HasDistinctNames (types_of f.params) → IsCalledOf s u → AreValuesAt (types_of f.params) u vs → answer ≡ slice s u.name ++ arguments_text (values_of vs) → Answers (CallAt f) s answer
  answered_at u vs answer distinct of gives same = (slice s u.name, values_of vs, read_at (types_of f.params) s u vs distinct of gives, same)
