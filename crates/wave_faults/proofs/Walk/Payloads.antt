-- What is told of options and results.
use Rattle.std.proofs.Common.{ℕ, ◌≡◌, inl, inr, List, [], ◌∷◌, ◌++◌, Option, Some, None, Bor, Ok, Err, refl, sym, ap, ◌∙◌, subst, codes}
use Rattle.std.specs.declared.ops.Range.{Range}
use Rattle.wave_wasm.specs.Types as type
use Rattle.wave_wasm.specs.Types.{TypeTree, MaybeType, maybe_type, no_type, a_type}
use Rattle.wave_lex.specs.Errors.{Diagnostic}
use Rattle.wave_grammar.specs.SpannedTree.{SpannedTree, MaybePlaced}
use Rattle.wave_grammar.specs.TypedGrammar.{IsFlat}
use Rattle.wave_grammar.specs.NodeTree.{NodeTree, place_of}
use Rattle.wave_grammar.specs.Nodes.{IsNodeOf}
use Rattle.wave_grammar.specs.NodeAccessors.{denoted_node, first_of, GivesOption, GivesResult}
use Rattle.wave_grammar.specs.PartReading.{IsPayloadNodeOf}
use Rattle.wave_grammar.specs.TypedReading.{IsValueOf}
use Rattle.wave_grammar.proofs.ByKind.Options.{some_node, given_none}
use Rattle.wave_grammar.proofs.ByKind.Results.{ok_node, err_node}
use Rattle.wave_grammar.proofs.ChildNodes.Inside.{inside, some_is}
use Rattle.wave_faults.specs.AllFaults.{AreFaults, AreFaultsOfPayload}
use Rattle.wave_faults.specs.Private.Told.{Adds, AddsFaults}
use Rattle.wave_faults.proofs.Walk.Adding.{adds_so, adds_none, adds_error}
use Rattle.wave_faults.proofs.Walk.Forms.{flat_option, some_told, none_told, flat_result, ok_told, err_told, refused_at}

-- ---- options

-- the payload of `some`
pub option_payload : (source : List ℕ) (n : NodeTree) (t : SpannedTree) (x : Bor NodeTree) (P : TypeTree) (old new : List Diagnostic) → IsNodeOf source n t → GivesOption n (Ok (Some x)) → AddsFaults P source x.now old new → Adds (AreFaults (type.option P) t) old new
option_payload source n t x P old new h (inl g) added =
    let k = some_node source n t h g.0 in
    let same : x.now ≡ k.inner = some_is x.now k.inner (g.1 ∙ ap first_of k.children) in
    adds_so (λ errors f. some_told t k.payload P errors k.shape f) (added k.payload (subst (λ (m : NodeTree). IsNodeOf source m k.payload) (sym same) k.node))
option_payload source n t x P old new h (inr g) added = absurd (cc g.1)

-- `none`
pub option_none : (source : List ℕ) (n : NodeTree) (t : SpannedTree) (P : TypeTree) (old : List Diagnostic) → IsNodeOf source n t → GivesOption n (Ok None) → Adds (AreFaults (type.option P) t) old old
option_none source n t P old h g = adds_none old (none_told t P (given_none source n t h g))

-- a node of another form, at a flat payload
pub option_flat : (source : List ℕ) (n : NodeTree) (t : SpannedTree) (e : Diagnostic) (P : TypeTree) (old new : List Diagnostic) → IsNodeOf source n t → GivesOption n (Err e) → IsFlat P → AddsFaults P source n old new → Adds (AreFaults (type.option P) t) old new
option_flat source n t e P old new h g flat added = adds_so (λ errors f. flat_option source n t P errors h.0 g.0 g.1 (inr (flat, f))) (added t h)

-- and at another
pub option_refused : (source : List ℕ) (n : NodeTree) (t : SpannedTree) (e : Diagnostic) (P : TypeTree) (old new : List Diagnostic) → IsNodeOf source n t → GivesOption n (Err e) → (IsFlat P → ⊥) → new ≡ old ++ e ∷ [] → Adds (AreFaults (type.option P) t) old new
option_refused source n t e P old new h g apart is = adds_error old new e is (flat_option source n t P (e ∷ []) h.0 g.0 g.1 (inl (apart, refused_at source n t e h.0 g.2)))

-- ---- results

-- the payload of `ok`
pub result_ok : (source : List ℕ) (n : NodeTree) (t : SpannedTree) (o : Option (Bor NodeTree)) (A B : MaybeType) (old new : List Diagnostic) → IsNodeOf source n t → GivesResult n (Ok (Ok o)) → ((m : MaybePlaced) → IsPayloadNodeOf source (denoted_node o) m → Adds (AreFaultsOfPayload (codes "ok") A m (place_of n)) old new) → Adds (AreFaults (type.result A B) t) old new
result_ok source n t o A B old new h g added =
    let k = ok_node source n t h g.0 in
    let told = added k.0 (subst (λ (q : Option NodeTree). IsPayloadNodeOf source q k.0) (sym g.1) k.2) in
    adds_so (λ errors f. ok_told t k.0 A B errors k.1 f) (subst (λ (p : Range ℕ). Adds (AreFaultsOfPayload (codes "ok") A k.0 p) old new) (sym (inside source n t h.0).place) told)

-- there is one or none
pub ok_payload : (source : List ℕ) (n : NodeTree) (o : Option (Bor NodeTree)) → IsValueOf source n → GivesResult n (Ok (Ok o)) → (m : MaybePlaced) × IsPayloadNodeOf source (denoted_node o) m
ok_payload source n o value g =
    let k = ok_node source n value.0 value.1 g.0 in
    (k.0, subst (λ (q : Option NodeTree). IsPayloadNodeOf source q k.0) (sym g.1) k.2)

-- the payload of `err`
pub result_err : (source : List ℕ) (n : NodeTree) (t : SpannedTree) (o : Option (Bor NodeTree)) (A B : MaybeType) (old new : List Diagnostic) → IsNodeOf source n t → GivesResult n (Ok (Err o)) → ((m : MaybePlaced) → IsPayloadNodeOf source (denoted_node o) m → Adds (AreFaultsOfPayload (codes "err") B m (place_of n)) old new) → Adds (AreFaults (type.result A B) t) old new
result_err source n t o A B old new h g added =
    let k = err_node source n t h g.0 in
    let told = added k.0 (subst (λ (q : Option NodeTree). IsPayloadNodeOf source q k.0) (sym g.1) k.2) in
    adds_so (λ errors f. err_told t k.0 A B errors k.1 f) (subst (λ (p : Range ℕ). Adds (AreFaultsOfPayload (codes "err") B k.0 p) old new) (sym (inside source n t h.0).place) told)

-- there is one or none
pub err_payload : (source : List ℕ) (n : NodeTree) (o : Option (Bor NodeTree)) → IsValueOf source n → GivesResult n (Ok (Err o)) → (m : MaybePlaced) × IsPayloadNodeOf source (denoted_node o) m
err_payload source n o value g =
    let k = err_node source n value.0 value.1 g.0 in
    (k.0, subst (λ (q : Option NodeTree). IsPayloadNodeOf source q k.0) (sym g.1) k.2)

-- a node of another form, at a flat payload of `ok`
pub result_flat : (source : List ℕ) (n : NodeTree) (t : SpannedTree) (e : Diagnostic) (A : Option TypeTree) (B : MaybeType) (P : TypeTree) (old new : List Diagnostic) → IsNodeOf source n t → GivesResult n (Err e) → A ≡ Some P → IsFlat P → AddsFaults P source n old new → Adds (AreFaults (type.result (maybe_type A) B) t) old new
result_flat source n t e A B P old new h g is flat added =
    subst (λ (C : Option TypeTree). Adds (AreFaults (type.result (maybe_type C) B) t) old new) (sym is)
    (adds_so (λ errors f. flat_result source n t (a_type P) B errors h.0 g.0 g.1 (inr (flat, f))) (added t h))

-- and at another, or none
pub result_refused : (source : List ℕ) (n : NodeTree) (t : SpannedTree) (e : Diagnostic) (A : Option TypeTree) (B : MaybeType) (old new : List Diagnostic) → IsNodeOf source n t → GivesResult n (Err e) → ((P : TypeTree) → A ≡ Some P → IsFlat P → ⊥) → new ≡ old ++ e ∷ [] → Adds (AreFaults (type.result (maybe_type A) B) t) old new
result_refused source n t e None B old new h g apart is = adds_error old new e is (flat_result source n t no_type B (e ∷ []) h.0 g.0 g.1 (refused_at source n t e h.0 g.2))
result_refused source n t e (Some P) B old new h g apart is = adds_error old new e is (flat_result source n t (a_type P) B (e ∷ []) h.0 g.0 g.1 (inl (apart P refl, refused_at source n t e h.0 g.2)))
