-- Worked examples of refusals: tokens that begin no tree, and placed trees that a type does not take.
use Rattle.std.proofs.Common.{ℕ, ◌≡◌, ◌+◌, inl, inr, List, [], ◌∷◌, map, codes, refl, arith, Some, None}
use Prim.Native.String.{String}
use Rattle.wave_lex.specs.declared.error.ParserErrorKind.TheVariants.{UnexpectedEnd, NestingTooDeep, InvalidType, InvalidValue, InvalidMultilineString, DuplicateField}
use Rattle.wave_lex.specs.Tokenization.{span}
use Rattle.wave_lex.specs.Tokens.{whitespace}
use Rattle.wave_lex.proofs.LongestPrefix.ByComputing.{longest_here}
use Rattle.wave_grammar.specs.Token.{Token, number, multiline}
use Rattle.wave_grammar.specs.Tree as tree
use Rattle.wave_grammar.specs.LenientTree.{TakesLoosely}
use Rattle.wave_grammar.specs.ParserPosition.{Place}
use Rattle.wave_lex.specs.Errors.{Diagnostic, Says, Refusal, with_detail, plainly, caused}
use Rattle.wave_grammar.specs.SyntaxErrors.{StandsAt}
use Rattle.wave_grammar.specs.PrefixAutomaton as expectation
use Rattle.wave_grammar.specs.PrefixAutomaton.{Step, step, Shifts, reads, unexpected, empty_tuple, repeated_flag, too_deep, value, first_item, next_item, behind_value}
use Rattle.std.specs.declared.ops.Range.{Range}
use Rattle.wave_wasm.specs.Types as type
use Rattle.wave_wasm.specs.ValueErrors.{missing_field, missing_payload, unexpected_payload, unknown_case, wrong_number, wrong_length, unsupported_type}
use Rattle.wave_lex.specs.Multiline.{opening}
use Rattle.wave_grammar.specs.Token as token
use Rattle.wave_grammar.specs.SpannedTree as placed
use Rattle.wave_grammar.specs.SpannedTree.{SpannedTree, MaybePlaced, PlacedTrees, at, no_placed, a_placed, tree_of, shape_of, part_places}
use Rattle.wave_grammar.specs.TypeErrors.{Fault, Blame}
use Rattle.wave_grammar.proofs.Unambiguity.Values.{apart}
use Rattle.wave_wasm.proofs.Names.NameTests.{none_of}
use Rattle.wave_grammar.proofs.Examples.Readings.{tokens, one, above_u8, u8, u8_or_err}

-- what the last of the tokens does after the others, within three levels; a refusal stays
abbrev goes : Step → List Token → Step
goes s [] = s
goes (reads d forms) (t ∷ more) = goes (step 3 d forms t) more
goes refusal (t ∷ more) = refusal

-- what the last token of a text does where a value is expected, and that it ends the value
abbrev last : String → Step
last text = goes (reads value []) (tokens text)

abbrev whole : Step
whole = reads behind_value []

-- leaves and items; entries; flags; words; no form is past three levels, but keys and flags are none
steps : (map last ("1" ∷ "'x'" ∷ "\"x\"" ∷ "\"\"\"x\"\"\"" ∷ ")" ∷ "1," ∷ "()" ∷ "(1)" ∷ "(1,)" ∷ "[]" ∷ "[1]" ∷ "[1,]" ∷ []) ≡ whole ∷ whole ∷ whole ∷ whole ∷ unexpected ∷ unexpected ∷ empty_tuple ∷ whole ∷ whole ∷ whole ∷ whole ∷ whole ∷ [])
    × (map last ("{}" ∷ "{:}" ∷ "{:," ∷ "{," ∷ "{1: 1, a: 1,}" ∷ "{a: 1}" ∷ "{1: 1, 'x'," ∷ []) ≡ whole ∷ whole ∷ unexpected ∷ unexpected ∷ whole ∷ whole ∷ unexpected ∷ [])
    × (map last ("{a}" ∷ "{a, true,}" ∷ "{a, %a" ∷ "{a, 1" ∷ "{a, true:" ∷ []) ≡ whole ∷ whole ∷ repeated_flag ∷ unexpected ∷ unexpected ∷ [])
    × (map last ("a(1)" ∷ "some," ∷ "none(" ∷ "true(" ∷ "some(" ∷ "[ok," ∷ "err(" ∷ []) ≡ whole ∷ unexpected ∷ unexpected ∷ unexpected ∷ reads value (expectation.payload ∷ []) ∷ reads next_item (expectation.list ∷ []) ∷ reads value (expectation.payload ∷ []) ∷ [])
    × (map last ("[[[]" ∷ "[[{a}" ∷ "[[[1" ∷ "[[{a: 1" ∷ []) ≡ reads behind_value (expectation.list ∷ expectation.list ∷ []) ∷ reads behind_value (expectation.list ∷ expectation.list ∷ []) ∷ too_deep ∷ too_deep ∷ [])
steps = (refl, refl, refl, refl, refl)

-- tokens lead to the end of a flag; two texts would be trees if a tuple might be empty and a flag repeated
led : Shifts 100 value [] (tokens "{a, %b") (expectation.behind_flag (codes "a" ∷ codes "b" ∷ [])) []
    × TakesLoosely 2 (tokens "[()]") (tree.list (tree.trees (tree.tuple tree.no_trees ∷ []))) [] × TakesLoosely 1 (tokens "{a, a}") (tree.flags (codes "a" ∷ codes "a" ∷ [])) []
led = ((_, _, refl, (_, _, refl, (_, _, refl, (_, _, refl, (refl, refl))))), inl (_ ∷ [], (_, inr (inl (refl, refl)), inl refl), refl), inr (inr (_, codes "a" ∷ codes "a" ∷ [], omega arith, refl, (_, refl, (_, _, refl, refl, inl refl)), refl)))

-- `[` ends, and what stands there is refused at 1..1; where no level is left, whatever stands there
end_refused : (e : Diagnostic) → Says e UnexpectedEnd (span 1 1) None
    → StandsAt UnexpectedEnd e 100 first_item (expectation.list ∷ []) (record { lexer = record { source = codes "["; start = 0; end = 1 }; taken = 1 }) (record { lexer = record { source = codes "["; start = 1; end = 1 }; taken = 2 })
end_refused e says = ((record { source = refl; skipped = longest_here whitespace _ _ refl refl refl refl; start = refl; end = refl }, refl), (λ deep. omega (arith, deep.full)), says)

level_refused : (e : Diagnostic) (p : Place) → Says e NestingTooDeep (span p.lexer.start p.lexer.end) None → StandsAt NestingTooDeep e 0 value [] p p
level_refused e p says = (record { full = omega arith; expected = tt; no_close = λ t new h. refl }, refl, says)

-- a leaf, a label of one byte with or without payload, and the fault of `256` at u8
abbrev pub leaf : ℕ → ℕ → Token → SpannedTree
leaf from to t = at (span from to) (placed.one t)

abbrev label : ℕ → ℕ → List ℕ → MaybePlaced → SpannedTree
label from to text payload = at (span from to) (placed.label (span from (from + 1)) text payload)

abbrev pub big : Token
big = number (codes "256")

pub too_large : {from to : ℕ} → Fault u8 (leaf from to big) (plainly InvalidValue) (span from to)
too_large = inr ((codes "256", inl refl), (above_u8, (refl, refl)))

-- `{1: ok}`, its tree and the places of its parts
abbrev some_entry : SpannedTree
some_entry = at (span 0 7) (placed.entries (placed.entry (span 1 2) one (at (span 4 6) (placed.ok no_placed)) placed.no_entries))

parts : (tree_of some_entry ≡ tree.entries (tree.entry one (tree.ok tree.no_tree) tree.no_entries)) × (part_places (shape_of some_entry) ≡ span 1 2 ∷ span 4 6 ∷ [])
    × (part_places (shape_of (label 0 4 (codes "a") (a_placed (leaf 2 3 one)))) ≡ span 0 1 ∷ span 2 3 ∷ [])
parts = (refl, refl, refl)

-- `a` at u8 and `1` at char: `InvalidType` 0..1; `1` at f64: the cause `UnsupportedType`; six quotes at string: `InvalidMultilineString` 3..4, with its detail
leaves : Fault u8 (label 0 1 (codes "a") no_placed) (plainly InvalidType) (span 0 1) × Fault (type.simple type.char) (leaf 0 1 one) (plainly InvalidType) (span 0 1)
    × Fault (type.unreadable type.f64) (leaf 0 1 one) (caused (unsupported_type (codes "f64"))) (span 0 1)
    × Fault (type.simple type.string) (leaf 0 6 (multiline (codes "\"\"\"\"\"\""))) (with_detail InvalidMultilineString (Some (codes "opening \"\"\" must be followed immediately by newline"))) (span 3 4)
leaves = ((refl, refl), inl ((λ h. let e = h.1 in cc), (refl, refl)), (refl, refl), inr ((_, inr refl), inr (_, [], opening, refl, refl, inr (inl ((0, refl), (λ no_second. no_second), refl)), (refl, refl))))

-- `[1, 256]` at list<u8>: `InvalidValue` 4..7; `(1, 256)` at tuple<u8> the cause `WrongNumberOfTupleValues` 0..8, and at tuple<u8, u8> `InvalidValue` 4..7
abbrev two : PlacedTrees
two = placed.placed_trees (leaf 1 2 one ∷ leaf 4 7 big ∷ [])

items : Fault (type.list u8) (at (span 0 8) (placed.list two)) (plainly InvalidValue) (span 4 7) × Fault (type.tuple (type.type_and u8 type.no_types)) (at (span 0 8) (placed.tuple two)) (caused (wrong_number 1 2)) (span 0 8)
    × Fault (type.tuple (type.type_and u8 (type.type_and u8 type.no_types))) (at (span 0 8) (placed.tuple two)) (plainly InvalidValue) (span 4 7)
items = (inr (inl too_large), inl ((λ e. omega arith), (refl, refl)), inr (inr (inl too_large)))

-- `[1, 2, 3]` at list<u8, 4>: the cause `WrongNumberOfElements` 0..9; `[1, 256]` at list<u8, 3>: that cause 0..8, and nothing else; at list<u8, 2> `InvalidValue` 4..7; `[]` at list<u8, 1>: that cause 0..2; `1` at list<u8, 4>: `InvalidType` 0..1
abbrev three : PlacedTrees
three = placed.placed_trees (leaf 1 2 one ∷ leaf 4 5 (number (codes "2")) ∷ leaf 7 8 (number (codes "3")) ∷ [])

fixed_lists : Fault (type.fixed u8 4) (at (span 0 9) (placed.list three)) (caused (wrong_length 4 3)) (span 0 9)
    × Fault (type.fixed u8 3) (at (span 0 8) (placed.list two)) (caused (wrong_length 3 2)) (span 0 8)
    × ((k : Refusal) (p : Range ℕ) → Fault (type.fixed u8 3) (at (span 0 8) (placed.list two)) k p → k ≡ caused (wrong_length 3 2))
    × Fault (type.fixed u8 2) (at (span 0 8) (placed.list two)) (plainly InvalidValue) (span 4 7)
    × Fault (type.fixed u8 1) (at (span 0 2) (placed.list placed.no_more)) (caused (wrong_length 1 0)) (span 0 2)
    × Fault (type.fixed u8 4) (leaf 0 1 one) (plainly InvalidType) (span 0 1)
fixed_lists = (inl ((λ e. omega arith), (refl, refl)), inl ((λ e. omega arith), (refl, refl)), (λ k p. elim [ inl h ↦ h.1.0 | inr h ↦ let e : 2 ≡ 3 = h.0 in absurd (omega arith) ]), inr (refl, inr (inl too_large)), inl ((λ e. omega arith), (refl, refl)), (refl, refl))

-- at `record { a: u8 }` `{b: 1, a: 256, %a: 1}`: `InvalidValue` 0..21, `DuplicateField` 15..17, which tells the name, `InvalidValue` 10..13;
-- `{1: ok}`: `InvalidType` 1..2, at the key, with its detail, and the cause `MissingField("a")` 0..7; `{}`: `InvalidType` 0..2
abbrev pub a_type : type.TypeTree
a_type = type.record_type (type.field (codes "a") u8 type.no_fields)

abbrev three_entries : SpannedTree
three_entries = at (span 0 21) (placed.entries (placed.entry (span 1 2) (token.label (codes "b")) (leaf 4 5 one)
    (placed.entry (span 7 8) (token.label (codes "a")) (leaf 10 13 big) (placed.entry (span 15 17) (token.label (codes "%a")) (leaf 19 20 one) placed.no_entries))))

records : Fault a_type three_entries (plainly InvalidValue) (span 0 21) × Fault a_type three_entries (with_detail DuplicateField (Some (codes "\"a\""))) (span 15 17) × Fault a_type three_entries (plainly InvalidValue) (span 10 13)
records = (inr (inl (inl (inl (none_of (codes "a" ∷ []) (codes "b") refl)), (refl, refl))), inr (inr (inl (inr (inr (inl (inl (inl refl, (refl, refl)))))))), inr (inr (inr (inr (inl (inr (inl (refl, too_large))))))))

other_records : Fault a_type some_entry (with_detail InvalidType (Some (codes "expected a record field label"))) (span 1 2) × Fault a_type some_entry (caused (missing_field (codes "a"))) (span 0 7) × Fault a_type (at (span 0 2) placed.empty_braces) (plainly InvalidType) (span 0 2)
other_records = (inl (inl (refl, (refl, refl))), inr (inr (inr (inl (inl ((λ option. option), (elim [ inl e ↦ cc | inr h ↦ h ]), (refl, refl)))))), (refl, refl))

-- `{a, b}` at `flags { a }`: the cause `UnknownCase("b")` 0..6; at `enum { a }` `b` the same, `a(1)` `InvalidType` 0..4;
-- at `variant { b(u8) }` `c` the cause `UnknownCase("c")`, `b(256)` `InvalidValue` 2..5
names : Fault (type.flags (codes "a" ∷ [])) (at (span 0 6) (placed.flags ((span 1 2, codes "a") ∷ (span 4 5, codes "b") ∷ []))) (caused (unknown_case (codes "b"))) (span 0 6)
    × Fault (type.enum (codes "a" ∷ [])) (label 0 1 (codes "b") no_placed) (caused (unknown_case (codes "b"))) (span 0 1) × Fault (type.enum (codes "a" ∷ [])) (label 0 4 (codes "a") (a_placed (leaf 2 3 one))) (plainly InvalidType) (span 0 4)
    × Fault (type.variant (type.case_of (codes "b") (type.a_type u8) type.no_cases)) (label 0 1 (codes "c") no_placed) (caused (unknown_case (codes "c"))) (span 0 1)
    × Fault (type.variant (type.case_of (codes "b") (type.a_type u8) type.no_cases)) (label 0 6 (codes "b") (a_placed (leaf 2 5 big))) (plainly InvalidValue) (span 2 5)
names = (inr (inl (none_of (codes "a" ∷ []) (codes "b") refl, (refl, refl))), inr (refl, none_of (codes "a" ∷ []) (codes "b") refl, (refl, refl)), inl ((λ e. cc), (refl, refl)), inr ((λ e. apart _ _ refl e), (refl, refl)), inl (refl, too_large))

-- at map<u8, u8> `{inf: 256}`: `InvalidType` 1..4, at the key, which tells the key that is expected, and `InvalidValue` 6..9; `{256: 1}`: `InvalidValue` 1..4
abbrev map_fault : Token → Token → Blame
map_fault key v = Fault (type.map (type.whole type.u8) u8) (at (span 0 10) (placed.entries (placed.entry (span 1 4) key (leaf 6 9 v) placed.no_entries)))

maps : map_fault (token.label (codes "inf")) big (with_detail InvalidType (Some (codes "expected a u8 key, found a label"))) (span 1 4) × map_fault (token.label (codes "inf")) big (plainly InvalidValue) (span 6 9) × map_fault big one (plainly InvalidValue) (span 1 4)
maps = (inl (inl (inl ((λ e. cc), (λ leaf h. cc), (refl, refl)))), inl (inr too_large), inl (inl (inr (refl, too_large))))

-- at option<u8> `some(256)` and `256` `InvalidValue`, `none` nothing; `1` at option<option<u8>> `InvalidType`
-- at result<u8> `ok` the cause `MissingPayload("ok")`, `err(1)` `UnexpectedPayload("err")`, `256` `InvalidValue`; `1` at result `InvalidType`
options : Fault (type.option u8) (at (span 0 9) (placed.some (leaf 5 8 big))) (plainly InvalidValue) (span 5 8) × Fault (type.option u8) (leaf 0 3 big) (plainly InvalidValue) (span 0 3)
    × ((k : Refusal) (p : Range ℕ) → Fault (type.option u8) (at (span 0 4) placed.none) k p → ⊥) × Fault (type.option (type.option u8)) (leaf 0 1 one) (plainly InvalidType) (span 0 1)
    × Fault u8_or_err (at (span 0 2) (placed.ok no_placed)) (caused (missing_payload (codes "ok"))) (span 0 2) × Fault u8_or_err (at (span 0 6) (placed.err (a_placed (leaf 4 5 one)))) (caused (unexpected_payload (codes "err"))) (span 0 6)
    × Fault u8_or_err (leaf 0 3 big) (plainly InvalidValue) (span 0 3) × Fault (type.result type.no_type type.no_type) (leaf 0 1 one) (plainly InvalidType) (span 0 1)
options = (too_large, inr (tt, too_large), (λ k p h. h), inl ((λ flat. flat), (refl, refl)), (refl, refl), (refl, refl), inr (tt, too_large), (refl, refl))
