-- Canonical texts read back, and are equal exactly where the values are, merged.
use Rattle.std.proofs.Common.{◌≡◌, ℕ, ◌≤◌, ◌*◌, List, [], ◌++◌, sym, ap, subst, arith}
use Rattle.wave_wasm.specs.Types.{TypeTree, HasDistinctNames, IsRepresentable}
use Rattle.wave_wasm.specs.Values.{Value}
use Rattle.wave_wasm.specs.HasType.{HasType}
use Rattle.wave_wasm.specs.Merge.{merged}
use Rattle.wave_wasm.specs.Text.{text, printed}
use Rattle.wave_lex.specs.Labels.{HasDistinctLabels}
use Rattle.wave_grammar.specs.Token.{Token, TokenizesTo}
use Rattle.wave_grammar.specs.CommaSeparated.{Spelling}
use Rattle.wave_grammar.specs.TypedGrammar.{Reads}
use Rattle.wave_grammar.specs.Tree.{levels}
use Rattle.wave_grammar.specs.Denotes.{Means}
use Rattle.wave_grammar.specs.RoundTripLaws.{ReadBack, ReadsBack, EqualTexts, AreOfText, ReadsMerged, ReadsBackWithinTwice}
use Rattle.wave_grammar.proofs.Elaboration.GrammarToTree.{through}
use Rattle.wave_grammar.proofs.Elaboration.TreeToGrammar.{back}
use Rattle.wave_grammar.proofs.Unambiguity.Levels.{takes-levels, takes-within}
use Rattle.wave_grammar.proofs.RoundTrip.Depth.{height}
use Rattle.wave_grammar.proofs.RoundTrip.Injective.{Prints, read_back}
use Rattle.wave_grammar.proofs.RoundTrip.Leaves.{one_cut_into}
use Rattle.wave_grammar.proofs.RoundTrip.Tokens.{end_cut}
use Rattle.wave_grammar.proofs.RoundTrip.Tokenizes.{Writes, Moves, moves}
use Rattle.wave_grammar.proofs.RoundTrip.Merged.{once}
use Rattle.wave_grammar.proofs.RoundTrip.Types.{prints}
use Rattle.wave_grammar.proofs.RoundTrip.Tidy.{tidy}
use Rattle.wave_grammar.proofs.RoundTrip.Typed.{typed}
use Rattle.wave_grammar.proofs.RoundTrip.Utf8.{texts_utf8}

-- what prints at one spelling prints at another that takes what it takes
prints_read : {A : Type 0} (P Q : Spelling A) (x : List ℕ) (a : A) → Moves P Q → Prints P x a → Prints Q x a
prints_read P Q x a moves p r rest s cut = let (tokens, c, i) = p r rest s cut in (tokens, c, moves tokens a rest i)

-- a canonical text is read within n levels, where it has no more
read_within : (T : TypeTree) → HasDistinctLabels T → IsRepresentable T → (v : Value) → HasType T v → (n : ℕ) → height (merged v) ≤ n → (b : ReadBack T v) × (levels b.tree ≤ n)
read_within T labelled representable v of n l = read_back T n v (prints_read (Writes T n) (Reads T n) (text v) (merged v) (moves T representable n) (prints T labelled.0 labelled.1 v of n l))

-- the canonical text of each value of a type that `Type` has, whose names are labels and distinct, reads back
pub reads_back : (T : TypeTree) → HasDistinctLabels T → IsRepresentable T → ReadsBack T
reads_back T labelled representable v of = (read_within T labelled representable v of (height (merged v)) (omega arith)).0

-- two values of a type whose names are labels and distinct have one canonical text exactly where they are one value, merged
pub equal_texts : (T : TypeTree) → HasDistinctLabels T → EqualTexts T
equal_texts T labelled a b ha hb = (same, λ e. ap printed e)
  where
    same : text a ≡ text b → merged a ≡ merged b
    same e =
        let (ts, c, i) = prints T labelled.0 labelled.1 a ha (height (merged a)) (omega arith) [] [] tt end_cut in
        let (us, d, j) = prints T labelled.0 labelled.1 b hb (height (merged b)) (omega arith) [] [] tt end_cut in
        let tokens : ts ≡ us = one_cut_into (text b ++ []) ts us (subst (λ (z : List ℕ). TokenizesTo (z ++ []) ts) e c) d in
        (once T labelled.1 (height (merged a)) (height (merged b)) us (merged a) (merged b) [] [] (subst (λ (z : List Token). Writes T (height (merged a)) z (merged a) []) tokens i) j).0

-- what is read within some levels is read within more
pub within_more : (T : TypeTree) (n m : ℕ) (tokens : List Token) (v : Value) → n ≤ m → Reads T n tokens v [] → Reads T m tokens v []
within_more T n m tokens v l h =
    let (t, i, q) = through T n tokens v [] h (λ more e. cc) in
    let low : levels t ≤ n = takes-levels n tokens t [] i in
    back T m tokens t v [] (takes-within n m tokens t [] (omega arith) i) q

-- a canonical text of at most n levels means the value, merged, within n levels
pub text_means : (T : TypeTree) (n : ℕ) (v : Value) (b : ReadBack T v) → levels b.tree ≤ n → Means T n (text v) (merged v)
text_means T n v b l = (b.tokens, b.cut, within_more T (levels b.tree) n b.tokens (merged v) l b.read)

-- what is read is merged
pub reads_merged : (T : TypeTree) → ReadsMerged T
reads_merged T n tokens rest v h = (tidy T n tokens v rest h).0

-- what is read from the tokens of a text is of the type
reads_own : (T : TypeTree) → HasDistinctNames T → (n : ℕ) (tokens : List Token) (v : Value) → AreOfText tokens → Reads T n tokens v [] → HasType T v
reads_own T distinct n tokens v (s, u, cut) h = (typed T distinct n tokens v [] (texts_utf8 s tokens u cut) h).0

-- a value of the type that was read within n levels has a canonical text of at most twice as many
pub twice : (T : TypeTree) → HasDistinctLabels T → IsRepresentable T → (n : ℕ) (tokens : List Token) (v : Value) → HasType T v → Reads T n tokens v [] → (b : ReadBack T v) × (levels b.tree ≤ 2 * n)
twice T labelled representable n tokens v of h =
    let (e, low, less) = tidy T n tokens v [] h in
    let fits : height (merged v) ≤ 2 * n = subst (λ (z : Value). height z ≤ 2 * n) (sym e) low in
    read_within T labelled representable v of (2 * n) fits

-- what is read within n levels has a canonical text of at most twice as many
pub reads_back_within_twice : (T : TypeTree) → HasDistinctLabels T → IsRepresentable T → ReadsBackWithinTwice T
reads_back_within_twice T labelled representable n tokens v text h = twice T labelled representable n tokens v (reads_own T labelled.1 n tokens v text h) h
