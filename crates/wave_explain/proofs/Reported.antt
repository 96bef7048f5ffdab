-- What is told of a part, and which parameter it is.
use Rattle.std.proofs.Common.{ℕ, ◌+◌, ◌≡◌, ◌<◌, ◌≤◌, ◌⊎◌, inl, inr, List, [], ◌++◌, Some, option_map, true, false, length, get_or, Bor, Result, Ok, Err, is_ok, IfOk, if◌then◌else◌, refl, subst, ap, sym, ◌∙◌, append_assoc, arith}
use Rattle.std.specs.Prelude.{slice_get}
use Rattle.std.specs.Fmt.{decimal}
use Rattle.std.specs.declared.ops.Range.{Range}
use Rattle.std.proofs.lemmas.List.{length-map}
use Rattle.std.proofs.lemmas.Option.{slice_get-map, slice_get_read, slice_get_past, slice_get_within}
use Rattle.wave_wasm.specs.Types.{TypeTree}
use Rattle.wave_wasm.specs.Borrowed.{texts, denoted_all}
use Rattle.wave_wasm.specs.TypeText.{Func}
use Rattle.wave_lex.specs.Errors.{Diagnostic}
use Rattle.wave_lex.specs.declared.error.ParserErrorKind.{ParserErrorKind}
use Rattle.wave_grammar.specs.NodeTree.{NodeTree}
use Rattle.wave_grammar.specs.ErrorSpans.{LiesInNode}
use Rattle.wave_tree.specs.UntypedCall.{Called, IsCalledWithin, IsNoCallWithin}
use Rattle.wave_explain.specs.EscapeMarks.{IsSyntaxMark}
use Rattle.wave_explain.specs.ValueExplained.{is_of_type, ReportsPart, IsBlock}
use Rattle.wave_explain.specs.CallExplained.{name_or_number, Gives, ReportsParameter, HasNoParameter, ReportsExpectedInCall}

-- the same is told of an equal node, by an equal path and equal lines
pub reported_again : (source : List ℕ) (span : Range ℕ) (n k : NodeTree) (T : TypeTree) (way path lines others : List ℕ) → n ≡ k → way ≡ path → lines ≡ others → ReportsPart source span n T way lines → ReportsPart source span k T path others
reported_again source span n k T way path lines others same_node same_path same_lines reported =
    subst (λ x. ReportsPart source span x T path others) same_node
    (subst (λ x. ReportsPart source span n T x others) same_path (subst (λ x. ReportsPart source span n T way x) same_lines reported))

-- a block of an equal message, an equal path and equal lines
pub block_again : (source said message : List ℕ) (mark : Range ℕ) (way path lines others text : List ℕ) → said ≡ message → way ≡ path → lines ≡ others → IsBlock source said mark way lines text → IsBlock source message mark path others text
block_again source said message mark way path lines others text same_message same_path same_lines block =
    subst (λ x. IsBlock source x mark path others text) same_message
    (subst (λ x. IsBlock source said mark x others text) same_path (subst (λ x. IsBlock source said mark way x text) same_lines block))

-- the name of a parameter that has one
pub parameter_name : (names : List (Bor (List ℕ))) (i : ℕ) (x : Bor (List ℕ)) → i < length names → x ≡ get_or names i x → name_or_number (slice_get (texts names) i) i ≡ x.now
parameter_name names i x lt is =
    ap (λ o. name_or_number o i) (slice_get-map (λ (b : Bor (List ℕ)). b.now) names i ∙ ap (option_map (λ (b : Bor (List ℕ)). b.now)) (slice_get_read names (length names) i x refl lt is))

-- the number of one that has none
pub parameter_number : (names : List (Bor (List ℕ))) (i : ℕ) → length names ≤ i → name_or_number (slice_get (texts names) i) i ≡ decimal (i + 1)
parameter_number names i past =
    ap (λ o. name_or_number o i) (slice_get-map (λ (b : Bor (List ℕ)). b.now) names i ∙ ap (option_map (λ (b : Bor (List ℕ)). b.now)) (slice_get_past names i past))

-- two texts were added, the second of which is another's
pub added : {X E : Type 0} (r : Result X E) (old prefix part name mid new : List ℕ) → mid ≡ old ++ prefix → part ≡ name → new ≡ (if is_ok r then mid ++ part else mid) → IfOk r (λ _. new ≡ old ++ (prefix ++ name))
added (Ok u) old prefix part name mid new first same all = all ∙ (ap (λ x. x ++ part) first ∙ (append_assoc old prefix part ∙ ap (λ x. old ++ (prefix ++ x)) same))
added (Err e) old prefix part name mid new first same all = tt

-- no parameter is reported where the kind tells no fault of type, or the source is no call
pub no_parameter : (k : ParserErrorKind) (source : List ℕ) (types : List TypeTree) (span : Range ℕ) → (is_of_type k ≡ false) ⊎ IsNoCallWithin 1000 source → HasNoParameter k source types span
no_parameter k source types span (inl kind) = inl kind
no_parameter k source types span (inr call) = inr (inl call)

-- nor where none of the values that are given to the first so many parameters, which are those with a type, holds the span
pub none_reported : (k j : ParserErrorKind) (source : List ℕ) (types : List TypeTree) (span place : Range ℕ) (call : Called) (count : ℕ) → j ≡ k → place ≡ span → IsCalledWithin 1000 source call → count ≡ length types
    → (is_of_type j ≡ false) ⊎ ((i : ℕ) (n : NodeTree) → Gives call i n → i < count → LiesInNode n place → ⊥) → HasNoParameter k source types span
none_reported k j source types span place call count same_kind same_place is all none =
    subst (λ x. HasNoParameter x source types span) same_kind (subst (λ x. HasNoParameter j source types x) same_place (unreported none))
  where
    unreported : (is_of_type j ≡ false) ⊎ ((i : ℕ) (n : NodeTree) → Gives call i n → i < count → LiesInNode n place → ⊥) → HasNoParameter j source types place
    unreported (inl kind) = inl kind
    unreported (inr none) = inr (inr (call, is, λ i n T gives has lies. none i n gives (omega (arith, slice_get_within types i T has, all)) lies))

-- what follows from two facts of what is answered
pub ok_with : {A E : Type 0} {P Q R : A → Type 0} (r : Result A E) → ((a : A) → P a → Q a → R a) → IfOk r P → IfOk r Q → IfOk r R
ok_with (Ok a) f p q = f a p q
ok_with (Err e) f p q = tt

module _ {S : Type 0} (tree : S → TypeTree) where
  -- the type of a parameter, by the item of the types that were answered
  pub has_type : (types : List TypeTree) (items : List (Bor S)) (n i : ℕ) (t : Bor S) → n ≡ length items → i < n → t ≡ get_or items i t → denoted_all tree items ≡ types → slice_get types i ≡ Some (tree t.now)
  has_type types items n i t count lt is parts =
      ap (λ ts. slice_get ts i) (sym parts)
      ∙ (slice_get-map (λ (b : Bor S). tree b.now) items i
      ∙ ap (option_map (λ (b : Bor S). tree b.now)) (slice_get_read items n i t count lt is))

  -- as many as were answered
  pub as_many : (types : List TypeTree) (items : List (Bor S)) (n : ℕ) → n ≡ length items → denoted_all tree items ≡ types → n ≡ length types
  as_many types items n count parts = count ∙ (sym (length-map items (λ (b : Bor S). tree b.now)) ∙ ap length parts)
