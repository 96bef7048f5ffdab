-- Worked examples of the fault that is answered, at trees with several.
use Rattle.std.proofs.Common.{ℕ, ◌+◌, ◌≡◌, inl, inr, List, [], ◌∷◌, codes, refl, arith}
use Rattle.std.specs.declared.ops.Range.{Range}
use Rattle.wave_lex.specs.declared.error.ParserErrorKind.TheVariants.{InvalidValue}
use Rattle.wave_lex.specs.Tokenization.{span}
use Rattle.wave_lex.specs.Errors.{Refusal, plainly, caused}
use Rattle.wave_wasm.specs.Types as type
use Rattle.wave_wasm.specs.Types.{TypeTree}
use Rattle.wave_wasm.specs.Names.{IsOneOf}
use Rattle.wave_wasm.specs.ValueErrors.{missing_field, wrong_number}
use Rattle.wave_wasm.proofs.Names.NameTests.{none_of}
use Rattle.wave_grammar.specs.Token as token
use Rattle.wave_grammar.specs.LeafTokens.{name_of}
use Rattle.wave_grammar.specs.SpannedTree as placed
use Rattle.wave_grammar.specs.SpannedTree.{SpannedTree, at}
use Rattle.wave_grammar.specs.TypeErrors.{Blame}
use Rattle.wave_grammar.specs.FaultOrder.{Order, in_text, by_type, BlamesNothing, OrElse, FaultOfKey, FirstFault}
use Rattle.wave_grammar.specs.FaultLaws.{BlamesOnly}
use Rattle.wave_grammar.proofs.Unambiguity.Values.{apart}
use Rattle.wave_grammar.proofs.OneFault.FirstFaults.{one_fault}
use Rattle.wave_grammar.proofs.Examples.Readings.{one, u8}
use Rattle.wave_grammar.proofs.Examples.Refusals.{leaf, big, too_large, a_type}

-- the fault is answered, and no other, where the parts are looked at in the order `o` and those of each part in the order `w`
record Answered (o w : Order) (T : TypeTree) (t : SpannedTree) (k : Refusal) (q : Range ℕ) : Type 0 where
  is : FirstFault o w T t k q
  alone : BlamesOnly (FirstFault o w T t) k q

answered : {o w : Order} {T : TypeTree} {t : SpannedTree} {k : Refusal} {q : Range ℕ} → FirstFault o w T t k q → Answered o w T t k q
answered {o} {w} {T} {t} {k} {q} h = record { is = h; alone = λ l r g. one_fault o w T t l k r q g h }

-- `[256, 256]` at list<u8>: the first `256`, in both orders
abbrev big_list : SpannedTree
big_list = at (span 0 10) (placed.list (placed.placed_trees (leaf 1 4 big ∷ leaf 6 9 big ∷ [])))

lists : Answered in_text in_text (type.list u8) big_list (plainly InvalidValue) (span 1 4) × Answered by_type by_type (type.list u8) big_list (plainly InvalidValue) (span 1 4)
lists = (answered (inl too_large), answered (inl too_large))

-- `(256, 1)` at tuple<u8>: `InvalidValue` 1..4 in the order of the text, and the cause `WrongNumberOfTupleValues` 0..8 in that of the type;
-- at option<tuple<u8>> it is the value itself that is looked at, and in `some((256, 1))` a part of it
abbrev two_values : ℕ → SpannedTree
two_values from = at (span from (from + 8)) (placed.tuple (placed.placed_trees (leaf (from + 1) (from + 4) big ∷ leaf (from + 6) (from + 7) one ∷ [])))

abbrev one_u8 : TypeTree
one_u8 = type.tuple (type.type_and u8 type.no_types)

tuples : Answered in_text by_type one_u8 (two_values 0) (plainly InvalidValue) (span 1 4) × Answered by_type in_text one_u8 (two_values 0) (caused (wrong_number 1 2)) (span 0 8)
    × Answered by_type in_text (type.option one_u8) (two_values 0) (caused (wrong_number 1 2)) (span 0 8)
    × Answered by_type in_text (type.option one_u8) (at (span 0 14) (placed.some (two_values 5))) (plainly InvalidValue) (span 6 9)
tuples = (answered (inl (inl too_large)), answered (inl ((λ e. omega arith), (refl, refl))), answered (inr (tt, inl ((λ e. omega arith), (refl, refl)))), answered (inl (inl too_large)))

-- `b` is not for the field `a`
b_for_a : codes "b" ∷ [] ≡ codes "a" ∷ [] → ⊥
b_for_a e = apart (codes "b") (codes "a") refl (first _ _ e)
  where
    first : (name other : List ℕ) → name ∷ [] ≡ other ∷ [] → name ≡ other
    first name other e = cc

-- a label that none of the earlier ones is is right
new_label : (earlier : List (List ℕ)) (name : List ℕ) (p : Range ℕ) (v : SpannedTree) → (IsOneOf earlier (name_of name) → ⊥) → BlamesNothing (FaultOfKey earlier (record { place = p; key = token.label name; value = v }))
new_label earlier name p v new k q (inl h) = absurd (cc)
new_label earlier name p v new k q (inr (inl h)) = new h.0
new_label earlier name p v new k q (inr (inr h)) = h

-- where neither blames anything
neither : {A B : Blame} → BlamesNothing A → BlamesNothing B → BlamesNothing (OrElse A B)
neither a b k q (inl h) = a k q h
neither a b k q (inr h) = b k q h.1

-- at `record { a: u8 }` `{b: 1, a: 256}`: `InvalidValue` 0..14 in the order of the text, as there is no field `b`, and `InvalidValue` 10..13 in that of the type
abbrev b_and_a : SpannedTree
b_and_a = at (span 0 14) (placed.entries (placed.entry (span 1 2) (token.label (codes "b")) (leaf 4 5 one) (placed.entry (span 7 8) (token.label (codes "a")) (leaf 10 13 big) placed.no_entries)))

unknown : Answered in_text in_text a_type b_and_a (plainly InvalidValue) (span 0 14) × Answered by_type by_type a_type b_and_a (plainly InvalidValue) (span 10 13)
unknown =
    let first = new_label [] (codes "b") (span 1 2) (leaf 4 5 one) (λ h. h) in
    let second = new_label (codes "b" ∷ []) (codes "a") (span 7 8) (leaf 10 13 big) (elim [ inl e ↦ apart _ _ refl e | inr h ↦ h ]) in (
      answered (inl (inr (first, inl (inl (inl (none_of (codes "a" ∷ []) (codes "b") refl)), (refl, refl))))),
      answered (inr (neither first (neither second (λ k q h. h)), inl (inr ((λ k q h. h.1 (inr (inl refl))), inl (inr ((λ k q h. b_for_a h.0), inl (refl, too_large))))))),
    )

-- at `record { a: u8, b: u8 }` `{b: 256}`: `InvalidValue` 4..7 in the order of the text, and the cause `MissingField("a")` 0..8 in that of the type
abbrev b_alone : SpannedTree
b_alone = at (span 0 8) (placed.entries (placed.entry (span 1 2) (token.label (codes "b")) (leaf 4 7 big) placed.no_entries))

abbrev two_fields : TypeTree
two_fields = type.record_type (type.field (codes "a") u8 (type.field (codes "b") u8 type.no_fields))

left_out : Answered in_text in_text two_fields b_alone (plainly InvalidValue) (span 4 7) × Answered by_type by_type two_fields b_alone (caused (missing_field (codes "a"))) (span 0 8)
left_out =
    let first = new_label [] (codes "b") (span 1 2) (leaf 4 7 big) (λ h. h) in (
      answered (inl (inr (first, inr ((λ k q h. elim (h.0) [ inl (inl f) ↦ f.1.0 refl | inl (inr f) ↦ f | inr f ↦ f ]), inl (inr (b_for_a, inl (refl, too_large))))))),
      answered (inr (neither first (λ k q h. h), inl (inl ((λ option. option), elim [ inl e ↦ b_for_a e | inr h ↦ h ], (refl, refl))))),
    )
