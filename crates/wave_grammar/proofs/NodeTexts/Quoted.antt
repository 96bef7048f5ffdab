-- What stands between the quotes of a node's token.
use Rattle.std.proofs.Common.{◌≡◌, ℕ, zero, suc, ◌≤◌, ◌+◌, ◌-◌, inl, inr, true, List, [], ◌∷◌, ◌++◌, length, slice_range, take, drop, Option, Some, refl, sym, ap, subst, ◌∙◌, arith, append_assoc, length-append}
use Rattle.std.specs.Prelude.{encode_utf8_all}
use Rattle.std.specs.Str.{IsUtf8, IsCharBoundary}
use Rattle.std.proofs.Math.Seq.{take-append_seam, drop-append_seam}
use Rattle.std.proofs.lemmas.List.{append-nil}
use Rattle.std.proofs.lemmas.Str.{encodes-append, IsCharBoundary-at_seam}
use Rattle.std.specs.declared.ops.Range.{Range}
use Rattle.wave_lex.specs.Regex.{Regex, except, star, Matches}
use Rattle.wave_lex.specs.Tokens as shapes
use Rattle.wave_lex.specs.Tokens.{shape, plain, escape, ◌then◌, ◌or◌}
use Rattle.wave_lex.proofs.RegularShapes.Comparisons.{one_is}
use Rattle.wave_lex.proofs.LongestPrefix.ByComputing.{is_ascii, ascii_spelled}
use Rattle.wave_lex.specs.Tokenization.{three_quotes}
use Rattle.wave_lex.proofs.MultilineStrings.FirstThreeQuotes.{through_first_quotes}
use Rattle.wave_grammar.specs.Token.{Token, lexeme_of, text_of}
use Rattle.wave_grammar.specs.Token as token
use Rattle.wave_grammar.specs.Tree as tree
use Rattle.wave_grammar.specs.Tree.{Takes, InBraces, BehindWord, Word, leaf_word, none_word, some_word, ok_word, err_word, case_word, word_of}
use Rattle.wave_grammar.specs.SpannedTree.{SpannedTree, SpannedShape, at, one, slice, span_of, shape_of, tree_of_shape, HoldsTokens, SpellsAt, SpellsEach}
use Rattle.wave_grammar.specs.NodeTree.{NodeTree, type_of, place_of}
use Rattle.wave_grammar.specs.Nodes.{placed_of, shape_from, key_of, IsParsedFrom}
use Rattle.wave_grammar.specs.NodeAccessors.{node_text, quotes_of, IsInside}
use Rattle.wave_grammar.proofs.ChildNodes.Inside.{inside, some_is}
use Rattle.wave_grammar.proofs.RoundTrip.Utf8.{ascii_off}
use Rattle.wave_grammar.specs.declared.form.NodeType.{NodeType}
use Rattle.wave_grammar.specs.declared.form.NodeType.TheVariants as kind

-- ---- the token of a node

-- a node of this type is the token of this text
abbrev pub IsQuotedToken : NodeType → List ℕ → Token → Type 0
IsQuotedToken kind.Char text t = t ≡ token.char text
IsQuotedToken kind.String text t = t ≡ token.string text
IsQuotedToken kind.MultilineString text t = t ≡ token.multiline text
IsQuotedToken _ text t = ⊥

quoted_shape : (ty : NodeType) (p : Range ℕ) (text : List ℕ) (cs : List SpannedTree) (s : SpannedShape) (t : Token) → IsQuotedToken ty text t → shape_from ty p text cs ≡ Some s → s ≡ one t
quoted_shape kind.Char p text [] s t h e = sym (some_is _ _ e) ∙ ap one (sym h)
quoted_shape kind.Char p text (c ∷ more) s t h e = absurd (cc)
quoted_shape kind.String p text [] s t h e = sym (some_is _ _ e) ∙ ap one (sym h)
quoted_shape kind.String p text (c ∷ more) s t h e = absurd (cc)
quoted_shape kind.MultilineString p text [] s t h e = sym (some_is _ _ e) ∙ ap one (sym h)
quoted_shape kind.MultilineString p text (c ∷ more) s t h e = absurd (cc)
quoted_shape _ p text cs s t h e = absurd h

-- the shape of a node of one token in quotes
pub quoted_is : (source : List ℕ) (n : NodeTree) (t : SpannedTree) (tok : Token) → placed_of source n ≡ Some t → IsQuotedToken (type_of n) (node_text source n) tok → shape_of t ≡ one tok
quoted_is source n t tok e h =
    let i = inside source n t e in
    quoted_shape (type_of n) (place_of n) (slice source (place_of n)) i.children (shape_of t) tok h i.shape

-- ---- the tokens of a node

-- a char, a string or a multiline string
abbrev pub IsQuoted : Token → Type 0
IsQuoted (token.char text) = Unit {0}
IsQuoted (token.string text) = Unit {0}
IsQuoted (token.multiline text) = Unit {0}
IsQuoted _ = ⊥

token_same : (t u : Token) → tree.one t ≡ tree.one u → t ≡ u
token_same t u e = cc

not_behind : (w : Word) (text : List ℕ) (n : ℕ) (more : List Token) (t : Token) → IsQuoted t → BehindWord w text (Takes n) more (tree.one t) [] → ⊥
not_behind leaf_word text n more t q h = subst IsQuoted (token_same t (token.label text) h.1) q
not_behind none_word text n more t q h = cc (h.1)
not_behind some_word text n more t q h = cc (h.2)
not_behind ok_word text n more t q h = cc (h.2)
not_behind err_word text n more t q h = cc (h.2)
not_behind case_word text n more t q h = cc (h.2)

not_braces : (n : ℕ) (more : List Token) (t : Token) → InBraces (Takes n) more (tree.one t) [] → ⊥
not_braces n more t (inl h) = cc (h.1)
not_braces n more t (inr (inl h)) = cc (h.1)
not_braces n more t (inr (inr (inl h))) = cc (h.3)
not_braces n more t (inr (inr (inr h))) = cc (h.4)

-- a tree of one token in quotes is that token
one_taken : (n : ℕ) (tokens : List Token) (t : Token) → IsQuoted t → Takes n tokens (tree.one t) [] → tokens ≡ t ∷ []
one_taken zero tokens t q h = absurd h
one_taken (suc n) [] t q h = absurd h
one_taken (suc n) (token.paren_open ∷ more) t q h = cc (h.3)
one_taken (suc n) (token.bracket_open ∷ more) t q h = cc (h.2)
one_taken (suc n) (token.brace_open ∷ more) t q h = absurd (not_braces n more t h)
one_taken (suc n) (token.label text ∷ more) t q h = absurd (not_behind (word_of text) text n more t q h)
one_taken (suc n) (token.number text ∷ more) t q h = absurd (subst IsQuoted (token_same t (token.number text) h.1) q)
one_taken (suc n) (token.char text ∷ more) t q h = cc (h.0, token_same t (token.char text) h.1)
one_taken (suc n) (token.string text ∷ more) t q h = cc (h.0, token_same t (token.string text) h.1)
one_taken (suc n) (token.multiline text ∷ more) t q h = cc (h.0, token_same t (token.multiline text) h.1)
one_taken (suc n) (_ ∷ more) t q h = absurd h

-- so it stands where the tree does
pub one_holds : (source : List ℕ) (t : SpannedTree) (tok : Token) → IsQuoted tok → shape_of t ≡ one tok → SpellsEach source t → HoldsTokens source (span_of t) (tok ∷ [])
one_holds source (at p s) tok q e h =
    let (tokens, holds, spelled) = subst (λ (x : SpannedShape). SpellsAt source p (tree_of_shape x)) e h.0 in
    subst (HoldsTokens source p) (one_taken spelled.0 tokens tok q spelled.1) holds

same_key : (q : Range ℕ) (t : Token) (p : Range ℕ) (key : Token) → Path (Option (Range ℕ × Token)) (Some (q, t)) (Some (p, key)) → (q ≡ p) × (t ≡ key)
same_key q t p key e =
    let one_key : (q, t) ≡ (p, key) = some_is (q, t) (p, key) e in
    (ap (λ (k : Range ℕ × Token). k.0) one_key, ap (λ (k : Range ℕ × Token). k.1) one_key)

-- a key of this shape is its token
key_is : (t : SpannedTree) (tok : Token) (p : Range ℕ) (key : Token) → IsQuoted tok → shape_of t ≡ one tok → key_of t ≡ Some (p, key) → (span_of t ≡ p) × (tok ≡ key)
key_is (at q s) (token.char w) p key quoted e is = same_key q (token.char w) p key (sym (ap (λ (x : SpannedShape). key_of (at q x)) e) ∙ is)
key_is (at q s) (token.string w) p key quoted e is = same_key q (token.string w) p key (sym (ap (λ (x : SpannedShape). key_of (at q x)) e) ∙ is)
key_is (at q s) (token.multiline w) p key quoted e is = same_key q (token.multiline w) p key (sym (ap (λ (x : SpannedShape). key_of (at q x)) e) ∙ is)
key_is (at q s) _ p key quoted e is = absurd quoted

-- ---- the text of a token

-- the text of a token in quotes has the shape of its class
pub has_shape : (source : List ℕ) (p : Range ℕ) (tok : Token) → HoldsTokens source p (tok ∷ []) → (cs : List ℕ) × (encode_utf8_all cs ≡ text_of tok) × Matches (shape (lexeme_of tok).0) cs
has_shape source p tok (stands, whitespace, (g, k, first, long, text, end)) = (long.is.0.scalars, long.is.0.spelled ∙ sym text, long.is.0.has)

-- between two equal scalars
between : (q : ℕ) (p : Regex) (cs : List ℕ) → Matches (shapes.one q then p then shapes.one q) cs → (x : List ℕ) × (cs ≡ q ∷ (x ++ q ∷ []))
between q p cs (a, b, e, (c, f, s), (u, v, g, m, (d, h, t))) =
    let first : a ≡ q ∷ [] = f ∙ ap (λ (z : ℕ). z ∷ []) (one_is q c s) in
    let last : v ≡ q ∷ [] = h ∙ ap (λ (z : ℕ). z ∷ []) (one_is q d t) in
    (u, e ∙ (ap (λ (z : List ℕ). z ++ b) first ∙ ap (λ (z : List ℕ). q ∷ z) (g ∙ ap (λ (z : List ℕ). u ++ z) last)))

-- quotes are ASCII
inside_is : (quotes x cs text : List ℕ) → is_ascii quotes ≡ true → cs ≡ quotes ++ (x ++ quotes) → encode_utf8_all cs ≡ text → text ≡ quotes ++ (encode_utf8_all x ++ quotes)
inside_is quotes x cs text ascii is spelled =
    let own : encode_utf8_all quotes ≡ quotes = ascii_spelled quotes ascii in
    sym spelled ∙ (ap encode_utf8_all is ∙ (encodes-append quotes (x ++ quotes) ∙ (ap (λ (z : List ℕ). z ++ encode_utf8_all (x ++ quotes)) own
    ∙ ap (λ (z : List ℕ). quotes ++ z) (encodes-append x quotes ∙ ap (λ (z : List ℕ). encode_utf8_all x ++ z) own))))

-- what stands between the quotes of a token
pub quoted_text : (ty : NodeType) (text : List ℕ) (source : List ℕ) (p : Range ℕ) (tok : Token) → IsQuotedToken ty text tok → HoldsTokens source p (tok ∷ []) → (inside : List ℕ) × (text ≡ quotes_of ty ++ (inside ++ quotes_of ty))
quoted_text kind.Char text source p tok h holds =
    let (cs, spelled, m) = has_shape source p (token.char text) (subst (λ (t : Token). HoldsTokens source p (t ∷ [])) h holds) in
    let k = between 39 (plain or escape) cs m in
    (encode_utf8_all k.0, inside_is (39 ∷ []) k.0 cs text refl k.1 spelled)
quoted_text kind.String text source p tok h holds =
    let (cs, spelled, m) = has_shape source p (token.string text) (subst (λ (t : Token). HoldsTokens source p (t ∷ [])) h holds) in
    let k = between 34 (star (except (92 ∷ 34 ∷ 10 ∷ []) or escape)) cs m in
    (encode_utf8_all k.0, inside_is (34 ∷ []) k.0 cs text refl k.1 spelled)
quoted_text kind.MultilineString text source p tok h holds =
    let (cs, spelled, m) = has_shape source p (token.multiline text) (subst (λ (t : Token). HoldsTokens source p (t ∷ [])) h holds) in
    let k = (through_first_quotes cs).0 m in
    (encode_utf8_all k.0, inside_is three_quotes k.0 cs text refl k.1 spelled)
quoted_text _ text source p tok h holds = absurd h

-- ---- what stands between the quotes of a node

-- the token of a node stands where the node does
node_holds : (source : List ℕ) (n : NodeTree) (tok : Token) → IsQuoted tok → IsQuotedToken (type_of n) (node_text source n) tok → IsParsedFrom source n → HoldsTokens source (place_of n) (tok ∷ [])
node_holds source n tok q h (inl (t, is)) =
    subst (λ (p : Range ℕ). HoldsTokens source p (tok ∷ [])) (inside source n t is.0).place (one_holds source t tok q (quoted_is source n t tok is.0 h) is.1)
node_holds source n tok q h (inr (p, key, ((t, is, keyed), holds))) =
    let k = key_is t tok p key q (quoted_is source n t tok is h) keyed in
    subst (λ (x : Range ℕ). HoldsTokens source x (tok ∷ [])) (sym k.0 ∙ (inside source n t is).place) (subst (λ (x : Token). HoldsTokens source p (x ∷ [])) (sym k.1) holds)

-- what stands between the quotes of a node; of a node without quotes it is all
pub node_inside : (source : List ℕ) (n : NodeTree) → IsParsedFrom source n → (x : List ℕ) × IsInside source n x
node_inside source n h = by_type (type_of n) refl
  where
    by_quotes : (ty : NodeType) (tok : Token) → type_of n ≡ ty → IsQuoted tok → IsQuotedToken ty (node_text source n) tok → (x : List ℕ) × (node_text source n ≡ quotes_of ty ++ (x ++ quotes_of ty))
    by_quotes ty tok e q own =
        quoted_text ty (node_text source n) source (place_of n) tok own (node_holds source n tok q (subst (λ (k : NodeType). IsQuotedToken k (node_text source n) tok) (sym e) own) h)

    by_type : (ty : NodeType) → type_of n ≡ ty → (x : List ℕ) × (node_text source n ≡ quotes_of ty ++ (x ++ quotes_of ty))
    by_type kind.Char e = by_quotes kind.Char (token.char (node_text source n)) e tt refl
    by_type kind.String e = by_quotes kind.String (token.string (node_text source n)) e tt refl
    by_type kind.MultilineString e = by_quotes kind.MultilineString (token.multiline (node_text source n)) e tt refl
    by_type _ e = (node_text source n, sym (append-nil (node_text source n)))

-- a text is split after the quotes and before them
pub record Cut (text quotes : List ℕ) (count : ℕ) : Type 0 where
  pub within : count + count ≤ length text
  pub first : IsCharBoundary text count
  pub last : IsCharBoundary text (length text - count)
  pub inside : text ≡ quotes ++ (slice_range text count (length text - count) ++ quotes)

text_cut : (text quotes x : List ℕ) → IsUtf8 text → is_ascii quotes ≡ true → IsUtf8 quotes → text ≡ quotes ++ (x ++ quotes) → Cut text quotes (length quotes)
text_cut text quotes x utf8 ascii last e =
    let size : length text ≡ length quotes + (length x + length quotes) = ap length e ∙ (length-append quotes (x ++ quotes) ∙ ap (λ (k : ℕ). length quotes + k) (length-append x quotes)) in
    let behind : IsUtf8 (x ++ quotes) = ascii_off quotes (x ++ quotes) ascii (subst IsUtf8 e utf8) in
    let rest : drop (length quotes) text ≡ x ++ quotes = ap (drop (length quotes)) e ∙ drop-append_seam quotes (x ++ quotes) in
    let count : length text - length quotes - length quotes ≡ length x = omega arith in
    let middle : slice_range text (length quotes) (length text - length quotes) ≡ x =
    ap (λ (k : ℕ). take k (drop (length quotes) text)) count ∙ (ap (take (length x)) rest ∙ take-append_seam x quotes) in
    let end : length (quotes ++ x) ≡ length text - length quotes = omega (arith, length-append quotes x) in
    record {
      within = omega arith;
      first = IsCharBoundary-at_seam text quotes (x ++ quotes) e behind;
      last = subst (λ (k : ℕ). IsCharBoundary text k) end (IsCharBoundary-at_seam text (quotes ++ x) quotes (e ∙ sym (append_assoc quotes x quotes)) last);
      inside = e ∙ ap (λ (z : List ℕ). quotes ++ (z ++ quotes)) (sym middle);
    }
