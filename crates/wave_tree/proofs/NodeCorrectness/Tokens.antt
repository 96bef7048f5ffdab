-- From the nodes that a parser makes to the trees that they mean.
use Rattle.std.proofs.Common.{◌≡◌, ℕ, ◌≤◌, ◌<◌, ◌+◌, ◌-◌, inl, inr, false, List, [], ◌∷◌, ◌++◌, refl, sym, ap, subst, ◌∙◌, length, take, drop, arith, Some, Ok, append_assoc, length-drop, add-one, zero, suc, map, option_map}
use Rattle.std.specs.Prelude.{◌||◌, slice_range, codes, if◌then◌else◌, encode_utf8, bytes_eq}
use Rattle.std.proofs.lemmas.Slice.Eq.{bytes_eq-Decides}
use Rattle.std.proofs.lemmas.Bool.{false_from_ne_true}
use Rattle.std.specs.declared.ops.Range.{Range}
use Rattle.std.specs.Str.{IsUtf8, IsCharBoundary}
use Rattle.std.proofs.lemmas.List.{append-nil, drop-drop, take-append-drop}
use Rattle.std.proofs.lemmas.Str.{IsUtf8-drop, IsCharBoundary-from_rest}
use Rattle.wave_wasm.specs.Lists.{AllOf}
use Rattle.wave_wasm.specs.Names.{is_one_of}
use Rattle.wave_lex.specs.declared.lex.Token as lex
use Rattle.wave_lex.specs.declared.lex.Token.TheVariants.{ParenOpen, ParenClose, Number, LabelOrKeyword, Char, String, MultilineString}
use Rattle.wave_lex.specs.Tokens.{shape, whitespace}
use Rattle.wave_lex.specs.Tokenization.{IsWhitespace, IsLongestToken, Prefix, remainder_of, span, Stands}
use Rattle.wave_lex.specs.Classes.{class_of}
use Rattle.wave_lex.proofs.Tokenization.Classes.{token_shows, shape_not_empty}
use Rattle.wave_lex.proofs.LongestPrefix.ByComputing.{prefix_positive}
use Rattle.wave_lex.proofs.LongestPrefix.MachineWalks.{prefix_boundary}
use Rattle.wave_grammar.specs.Token as token
use Rattle.wave_grammar.specs.Token.{Token, lexeme_of, paren_open, paren_close, brace_open, brace_close, bracket_open, bracket_close, colon, comma}
use Rattle.wave_grammar.specs.ParserPosition.{Place, TakesItem, TakesToken, TakesTokens, token_of, text_at, span_at}
use Rattle.wave_grammar.specs.Tree as tree
use Rattle.wave_grammar.specs.Tree.{Tree, ATree, BehindWord, word_of, leaf_word, none_word, some_word, ok_word, err_word, case_word, MaybeInParens, NoParen}
use Rattle.wave_grammar.specs.TypedGrammar.{InParens}
use Rattle.wave_grammar.specs.SpannedTree.{SpannedTree, at, SpannedShape, one, none, some, ok, err, label, no_placed, a_placed, HoldsTokens, SpellsParts, SpellsEach, StandsAtTokens, part_places, LiesIn, span_of, tree_of, tree_of_shape, slice}
use Rattle.wave_grammar.specs.NodeTree.{NodeTree, node, no_nodes}
use Rattle.wave_grammar.specs.Nodes.{placed_of, shape_from, and_then, with_both}
use Rattle.wave_grammar.specs.declared.form.NodeType.{NodeType}
use Rattle.wave_grammar.specs.declared.form.NodeType.TheVariants as kind
use Rattle.wave_tree.specs.ParsedNodes.{IsSound, IsParsed}
use Rattle.wave_tree.specs.Private.ParsedNodes.{IsPayload, IsMaybe}
use Rattle.wave_tree.proofs.ParserCorrectness.Steps.{tokens_join, token_there}
use Rattle.wave_tree.proofs.NodeCorrectness.TokenAlignment.{part_at}
use Rattle.wave_grammar.proofs.NodeTexts.Slices.{Taken, taken_is, whitespace_zero, tokens_prefix, tokens_forward, whitespace_none}

-- ---- sound places

-- how a token splits what is left at a sound place
record Tokenizes (p q : Place) (c : lex.Token) (it : Taken p q c) : Type 0 where
  pub whitespace_cut : IsCharBoundary (remainder_of p.lexer) it.g
  pub behind_whitespace : IsUtf8 (drop it.g (remainder_of p.lexer))
  pub token_cut : IsCharBoundary (drop it.g (remainder_of p.lexer)) it.k

cuts_of : (p q : Place) (c : lex.Token) (it : Taken p q c) → IsSound p → Tokenizes p q c it
cuts_of p q c it sound =
    let r = remainder_of p.lexer in
    let g_cut : IsCharBoundary r it.g = prefix_boundary whitespace r it.g sound it.whitespace_is.0 in
    let t_utf8 : IsUtf8 (drop it.g r) = IsUtf8-drop r it.g sound g_cut in
    record { whitespace_cut = g_cut; behind_whitespace = t_utf8; token_cut = prefix_boundary (shape c) (drop it.g r) it.k t_utf8 it.token_is.is.0 }

-- after a token of a sound place a place is sound
pub sound_next : (p q : Place) (c : lex.Token) → TakesItem p (Some (Ok c)) q → IsSound p → IsSound q
sound_next p q c h sound =
    let it = taken_is p q c h in
    let cuts = cuts_of p q c it sound in
    let r = remainder_of p.lexer in
    subst IsUtf8 (drop-drop it.k it.g r ∙ sym it.left) (IsUtf8-drop (drop it.g r) it.k cuts.behind_whitespace cuts.token_cut)

-- the span of a token
pub in_order : (p q : Place) (c : lex.Token) → TakesItem p (Some (Ok c)) q → q.lexer.start ≤ q.lexer.end
in_order p q c h = let it = taken_is p q c h in let a = it.start in let b = it.end in omega (arith, a, b)

-- a token has a byte
not_empty : (p q : Place) (c : lex.Token) → TakesItem p (Some (Ok c)) q → q.lexer.start + 1 ≤ q.lexer.end
not_empty p q c h =
    let it = taken_is p q c h in
    let a = it.start in
    let b = it.end in
    let some : 0 < it.k = prefix_positive (shape c) (drop it.g (remainder_of p.lexer)) it.k (shape_not_empty c) it.token_is.is.0 in
    omega (arith, a, b, some)

-- the source is split where the token stands
pub stands_after : (p q : Place) (c : lex.Token) → TakesItem p (Some (Ok c)) q → IsSound p → Stands p.lexer.source q.lexer.start q.lexer.end
stands_after p q c h sound =
    let it = taken_is p q c h in
    let cuts = cuts_of p q c it sound in
    let s = p.lexer.source in
    let some : 0 < it.k = prefix_positive (shape c) (drop it.g (remainder_of p.lexer)) it.k (shape_not_empty c) it.token_is.is.0 in
    let fits = it.token_is.is.0.fits in
    let within : p.lexer.end ≤ length s = omega (arith, some, fits, length-drop it.g (remainder_of p.lexer), length-drop p.lexer.end s) in
    let there : p.lexer.end + it.g ≤ length s = omega (arith, some, fits, within, length-drop it.g (remainder_of p.lexer), length-drop p.lexer.end s) in
    let first : IsCharBoundary s (p.lexer.end + it.g) = IsCharBoundary-from_rest s p.lexer.end it.g within cuts.whitespace_cut in
    let last : IsCharBoundary s (p.lexer.end + it.g + it.k) = IsCharBoundary-from_rest s (p.lexer.end + it.g) it.k there (subst (λ z. IsCharBoundary z it.k) (drop-drop it.g p.lexer.end s) cuts.token_cut) in
    record {
      ordered = in_order p q c h;
      first = subst (IsCharBoundary s) (sym it.start) first;
      last = subst (IsCharBoundary s) (sym it.end) last;
    }

-- the source is split after the last of these tokens, if it is before the first
pub cut_behind : (p q : Place) (ts : List Token) → TakesTokens p ts q → IsSound p → IsCharBoundary p.lexer.source p.lexer.end → IsCharBoundary p.lexer.source q.lexer.end
cut_behind p q [] e sound h = subst (λ z. IsCharBoundary p.lexer.source z.lexer.end) e h
cut_behind p q (t ∷ ts) (m, (c, h, e), more) sound k =
    let it = taken_is p m c h in
    subst (λ z. IsCharBoundary z q.lexer.end) it.source
    (cut_behind m q ts more (sound_next p m c h sound) (subst (λ z. IsCharBoundary z m.lexer.end) (sym it.source) (stands_after p m c h sound).last))

-- so it is after tokens
pub sound_tokens : (p q : Place) (ts : List Token) → TakesTokens p ts q → IsSound p → IsSound q
sound_tokens p q [] e sound = subst IsSound e sound
sound_tokens p q (t ∷ ts) (m, (c, h, e), more) sound = sound_tokens m q ts more (sound_next p m c h sound)

-- ---- a node's slice

-- the place where a token starts
abbrev pub start_of : Place → Place → Place
start_of p m = record { lexer = record { source = p.lexer.source; start = m.lexer.start; end = m.lexer.start }; taken = p.taken }

pub at_start : (p m : Place) (t : Token) → TakesToken p t m → TakesToken (start_of p m) t m
at_start p m t (c, h, e) =
    let it = taken_is p m c h in
    let left : remainder_of (start_of p m).lexer ≡ drop it.g (remainder_of p.lexer) = ap (λ z. drop z p.lexer.source) it.start ∙ sym (drop-drop it.g p.lexer.end p.lexer.source) in (
      c,
      (
        (
          0,
          it.k,
          record {
            source = it.source;
            skipped = subst (λ z. IsWhitespace z 0) (sym left) (whitespace_none (drop it.g (remainder_of p.lexer)) it.k c it.token_is.is);
            start = omega arith;
            end = (let a = it.start in let b = it.end in omega (arith, a, b));
          },
          subst (λ z. IsLongestToken z it.k c) (sym left) it.token_is,
        ),
        h.1,
      ),
      e,
    )

-- from the first token to the last stand just these tokens
pub holds : (p m q : Place) (t : Token) (ts : List Token) → IsSound p → TakesToken p t m → TakesTokens m ts q → HoldsTokens p.lexer.source (span m.lexer.start q.lexer.end) (t ∷ ts)
holds p m q t ts sound (c, h, e) more =
    let it = taken_is p m c h in
    let mid = stands_after p m c h sound in
    let s = p.lexer.source in
    let a = mid.ordered in
    let b = tokens_forward m q ts more in
    let ordered : m.lexer.start ≤ q.lexer.end = omega (arith, a, b) in
    let n = q.lexer.end - m.lexer.start in
    let left : remainder_of (start_of p m).lexer ≡ drop it.g (remainder_of p.lexer) = ap (λ z. drop z p.lexer.source) it.start ∙ sym (drop-drop it.g p.lexer.end p.lexer.source) in
    let all : TakesTokens (start_of p m) (t ∷ ts) q = (m, at_start p m t (c, h, e), more) in
    let prefix = tokens_prefix (start_of p m) q (t ∷ ts) n all (omega (arith, ordered)) in
    let nothing : n - (q.lexer.end - m.lexer.start) ≡ 0 = omega arith in (
      record {
        ordered = ordered;
        first = mid.first;
        last = subst (λ z. IsCharBoundary z q.lexer.end) it.source (cut_behind m q ts more (sound_next p m c h sound) (subst (λ z. IsCharBoundary z m.lexer.end) (sym it.source) mid.last));
      },
      whitespace_first it left a b,
      subst (λ z. Prefix (take n (drop m.lexer.start s)) (map lexeme_of (t ∷ ts)) (take z (remainder_of q.lexer))) nothing prefix,
    )
  where
    whitespace_first : (it : Taken p m c) → remainder_of (start_of p m).lexer ≡ drop it.g (remainder_of p.lexer) → m.lexer.start ≤ m.lexer.end → m.lexer.end ≤ q.lexer.end → IsWhitespace (slice p.lexer.source (span m.lexer.start q.lexer.end)) 0
    whitespace_first it left a b =
        let n = q.lexer.end - m.lexer.start in
        let c1 = it.start in
        let c2 = it.end in
        whitespace_zero (drop m.lexer.start p.lexer.source) n (subst (λ z. IsWhitespace z 0) (sym left) (whitespace_none (drop it.g (remainder_of p.lexer)) it.k c it.token_is.is))

-- ---- how a node is made

-- what a node means whose first token and last are these
pub built : (n : ℕ) (p m q : Place) (t : Token) (ts : List Token) (parsed : NodeTree) (s : SpannedShape) → TakesToken p t m → TakesTokens m ts q →
    (IsSound p → placed_of p.lexer.source parsed ≡ Some (at (span m.lexer.start q.lexer.end) s)) →
    (IsSound p → SpellsParts p.lexer.source (span m.lexer.start q.lexer.end) s) →
    AllOf (StandsAtTokens p.lexer.source (span m.lexer.start q.lexer.end)) (part_places s) →
    ((rest : List Token) → NoParen rest → tree.Takes n (t ∷ (ts ++ rest)) (tree_of_shape s) rest) → IsParsed n p q parsed
built n p m q t ts parsed s first others means parts places takes = record {
  first = m;
  token = t;
  others = ts;
  begins = first;
  taken = others;
  placed = at (span m.lexer.start q.lexer.end) s;
  spans = refl;
  is_node = λ sound. (means sound, ((t ∷ ts, holds p m q t ts sound first others, (n, subst (λ z. tree.Takes n (t ∷ z) (tree_of_shape s) []) (append-nil ts) (takes [] (λ more e. cc)))), parts sound, places));
  takes = takes;
}

-- a row of trees stands within it level more
pub takes_plus : (n : ℕ) (tokens : List Token) (t : Tree) (rest : List Token) → ATree (tree.Takes n) tokens t rest → tree.Takes (n + 1) tokens t rest
takes_plus n tokens t rest h = rw add-one h

-- so it is where a level is left
pub takes_less : (n : ℕ) → 0 < n → (tokens : List Token) (t : Tree) (rest : List Token) → ATree (tree.Takes (n - 1)) tokens t rest → tree.Takes n tokens t rest
takes_less zero l tokens t rest h = absurd (omega arith)
takes_less (suc n) l tokens t rest h = let e : suc n - 1 ≡ n = omega arith in subst (λ z. ATree (tree.Takes z) tokens t rest) e h

-- ---- nodes of one token

-- a node of one token, of a shape without parts
pub one_token : (n : ℕ) (p m : Place) (c : lex.Token) (ty : NodeType) (s : SpannedShape) → TakesItem p (Some (Ok c)) m → shape_from ty (span_at m) (text_at m) [] ≡ Some s →
    (IsSound p → SpellsParts p.lexer.source (span_at m) s) →
    AllOf (StandsAtTokens p.lexer.source (span_at m)) (part_places s) →
    ((rest : List Token) → NoParen rest → tree.Takes n (token_of c (text_at m) ∷ rest) (tree_of_shape s) rest) → IsParsed n p m (node ty (span_at m) no_nodes)
one_token n p m c ty s h shape_is parts places takes =
    built n p m m (token_of c (text_at m)) [] (node ty (span_at m) no_nodes) s (token_there p m c h) refl
    (λ sound. ap (option_map (at (span_at m))) (ap (λ z. shape_from ty (span_at m) (slice_range z m.lexer.start m.lexer.end) []) (sym (taken_is p m c h).source) ∙ shape_is))
    parts places takes

-- no number begins as a label does
number_begins : (p m : Place) (x : ℕ) (w : List ℕ) → TakesItem p (Some (Ok Number)) m → encode_utf8 x ≡ x ∷ [] → class_of x ≡ Some LabelOrKeyword → text_at m ≡ x ∷ w → ⊥
number_begins p m x w h a shown e =
    let it = taken_is p m Number h in
    let r = drop it.g (remainder_of p.lexer) in
    let begins : r ≡ encode_utf8 x ++ (w ++ drop it.k r) =
    sym (take-append-drop it.k r) ∙ (ap (λ z. z ++ drop it.k r) (sym it.text ∙ e) ∙ ap (λ z. z ++ (w ++ drop it.k r)) (sym a)) in
    let other = token_shows r (w ++ drop it.k r) it.k x Number begins it.token_is.is in
    let wrong : Some LabelOrKeyword ≡ Some Number = sym shown ∙ other in cc

apart_from : (a b : List ℕ) → (a ≡ b → ⊥) → bytes_eq a b ≡ false
apart_from a b h = false_from_ne_true _ (λ e. h ((bytes_eq-Decides a b).0 e))

-- no number is `inf` or `nan`
pub number_alone : (p m : Place) → TakesItem p (Some (Ok Number)) m → is_one_of (codes "inf" ∷ codes "nan" ∷ []) (text_at m) ≡ false
unfolding lib.Utf8.encode
number_alone p m h =
    ap (λ b. b || (bytes_eq (text_at m) (codes "nan") || false)) (apart_from (text_at m) (codes "inf") (number_begins p m 105 (codes "nf") h refl refl))
    ∙ ap (λ b. false || (b || false)) (apart_from (text_at m) (codes "nan") (number_begins p m 110 (codes "an") h refl refl))

-- a number, a char, a string and a multiline string
pub number_parsed : (n : ℕ) (p m : Place) → 0 < n → TakesItem p (Some (Ok Number)) m → IsParsed n p m (node kind.Number (span_at m) no_nodes)
number_parsed n p m l h = one_token n p m Number kind.Number (one (token.number (text_at m))) h
    (ap (λ b. Some (one (if b then token.label (text_at m) else token.number (text_at m)))) (number_alone p m h)) (λ sound. tt) tt
    (λ rest k. takes_less n l _ _ rest (refl, refl))

pub char_parsed : (n : ℕ) (p m : Place) → 0 < n → TakesItem p (Some (Ok Char)) m → IsParsed n p m (node kind.Char (span_at m) no_nodes)
char_parsed n p m l h = one_token n p m Char kind.Char (one (token.char (text_at m))) h refl (λ sound. tt) tt (λ rest k. takes_less n l _ _ rest (refl, refl))

pub string_parsed : (n : ℕ) (p m : Place) → 0 < n → TakesItem p (Some (Ok String)) m → IsParsed n p m (node kind.String (span_at m) no_nodes)
string_parsed n p m l h = one_token n p m String kind.String (one (token.string (text_at m))) h refl (λ sound. tt) tt (λ rest k. takes_less n l _ _ rest (refl, refl))

pub multiline_parsed : (n : ℕ) (p m : Place) → 0 < n → TakesItem p (Some (Ok MultilineString)) m → IsParsed n p m (node kind.MultilineString (span_at m) no_nodes)
multiline_parsed n p m l h = one_token n p m MultilineString kind.MultilineString (one (token.multiline (text_at m))) h refl (λ sound. tt) tt (λ rest k. takes_less n l _ _ rest (refl, refl))

-- ---- labels

-- what stands after a label, by its word
word_takes : (n : ℕ) (w : tree.Word) (text : List ℕ) (behind : List Token) (t : Tree) (rest : List Token) → word_of text ≡ w → BehindWord w text (tree.Takes n) behind t rest → tree.Takes (n + 1) (token.label text ∷ behind) t rest
word_takes n w text behind t rest e h = takes_plus n (token.label text ∷ behind) t rest (subst (λ z. BehindWord z text (tree.Takes n) behind t rest) (sym e) h)

-- a label that is a leaf
pub word_parsed : (n : ℕ) (p m : Place) (ty : NodeType) → TakesItem p (Some (Ok LabelOrKeyword)) m → word_of (text_at m) ≡ leaf_word →
    shape_from ty (span_at m) (text_at m) [] ≡ Some (one (token.label (text_at m))) → IsParsed (n + 1) p m (node ty (span_at m) no_nodes)
word_parsed n p m ty h w e = one_token (n + 1) p m LabelOrKeyword ty (one (token.label (text_at m))) h e (λ sound. tt) tt
    (λ rest k. word_takes n leaf_word (text_at m) rest (tree.one (token.label (text_at m))) rest w (refl, refl))

pub none_parsed : (n : ℕ) (p m : Place) → TakesItem p (Some (Ok LabelOrKeyword)) m → word_of (text_at m) ≡ none_word → IsParsed (n + 1) p m (node kind.OptionNone (span_at m) no_nodes)
none_parsed n p m h w = one_token (n + 1) p m LabelOrKeyword kind.OptionNone none h refl (λ sound. tt) tt
    (λ rest k. word_takes n none_word (text_at m) rest tree.none rest w (refl, refl))

-- ---- payloads

-- what a payload in parentheses gives after its label
record InParentheses (n : ℕ) (m q : Place) (payload : NodeTree) : Type 0 where
  pub others : List Token
  pub taken : TakesTokens m others q
  pub means : SpannedTree
  pub means_it : IsSound m → placed_of m.lexer.source payload ≡ Some means
  pub lies : LiesIn (span_of means) m.lexer.end q.lexer.end
  pub spells : IsSound m → SpellsEach m.lexer.source means
  pub there : (p : Place) (t : Token) → TakesToken p t m → StandsAtTokens p.lexer.source (span p.lexer.end q.lexer.end) (span_of means)
  pub inside : (rest : List Token) → InParens (tree.Takes n) (others ++ rest) (tree_of means) rest

in_parentheses : (n : ℕ) (m w q : Place) (ty : NodeType) (start : ℕ) (prefix : List NodeTree) (parsed : NodeTree) → TakesItem m (Some (Ok ParenOpen)) w → (h : IsPayload n ty start prefix w q parsed) → InParentheses n m q h.payload
in_parentheses n m w q ty start prefix parsed open_there h =
    let inner = h.inner in
    let open_is = taken_is m w ParenOpen open_there in
    let inner_taken : TakesTokens w (inner.token ∷ inner.others) h.behind = (inner.first, inner.begins, inner.taken) in
    let close_taken : TakesTokens h.behind (paren_close ∷ []) q = (q, (ParenClose, h.close, refl), refl) in
    let close_is = taken_is h.behind q ParenClose h.close in
    let first_is = taken_is w inner.first inner.begins.0 inner.begins.1 in
    let a = open_is.end in let b = first_is.start in let c = close_is.end in
    let same : w.lexer.source ≡ m.lexer.source = open_is.source in
    let spans = inner.spans in
    record {
      others = paren_open ∷ ((inner.token ∷ inner.others) ++ paren_close ∷ []);
      taken = (w, (ParenOpen, open_there, refl), tokens_join w h.behind q (inner.token ∷ inner.others) (paren_close ∷ []) inner_taken close_taken);
      means = inner.placed;
      means_it = λ sound. subst (λ z. placed_of z h.payload ≡ Some inner.placed) same (inner.is_node (sound_next m w ParenOpen open_there sound)).0;
      lies = subst (λ (z : Range ℕ). LiesIn z m.lexer.end q.lexer.end) (sym spans) (omega (arith, a, b), omega (arith, c));
      spells = λ sound. subst (λ z. SpellsEach z inner.placed) same (inner.is_node (sound_next m w ParenOpen open_there sound)).1;
      there = λ p t before.
          subst (λ (z : Range ℕ). StandsAtTokens p.lexer.source (span p.lexer.end q.lexer.end) z) (sym spans)
          (part_at p w inner.first h.behind q inner.token (t ∷ paren_open ∷ []) inner.others (paren_close ∷ []) (m, before, (w, (ParenOpen, open_there, refl), refl)) inner.begins inner.taken close_taken);
      inside = λ rest. (inner.token ∷ (inner.others ++ paren_close ∷ rest), ap (λ z. paren_open ∷ inner.token ∷ z) (append_assoc inner.others (paren_close ∷ []) rest), inner.takes (paren_close ∷ rest) (λ more e. cc));
    }

-- a label and its payload, where its shape is that of `whole`
payload_parsed : (n : ℕ) (p m w q : Place) (ty : NodeType) (word : tree.Word) (whole : SpannedTree → SpannedShape) (parsed : NodeTree) →
    ((place : Range ℕ) (text : List ℕ) (t : SpannedTree) → shape_from ty place text (t ∷ []) ≡ Some (whole t)) →
    ((source : List ℕ) (place : Range ℕ) (t : SpannedTree) → LiesIn (span_of t) (place.start + 1) place.end × SpellsEach source t → SpellsParts source place (whole t)) →
    ((t : SpannedTree) → part_places (whole t) ≡ span_of t ∷ []) →
    ((text : List ℕ) (tokens : List Token) (t : SpannedTree) (rest : List Token) → InParens (tree.Takes n) tokens (tree_of t) rest → BehindWord word text (tree.Takes n) tokens (tree_of_shape (whole t)) rest) →
    TakesItem p (Some (Ok LabelOrKeyword)) m → word_of (text_at m) ≡ word → TakesItem m (Some (Ok ParenOpen)) w → IsPayload n ty m.lexer.start [] w q parsed → IsParsed (n + 1) p q parsed
payload_parsed n p m w q ty word whole parsed shape spells places behind h word_is open_there k =
    let inner = in_parentheses n m w q ty m.lexer.start [] parsed open_there k in
    let it = taken_is p m LabelOrKeyword h in
    let lies = inner.lies in
    let place = span m.lexer.start q.lexer.end in
    let text = slice p.lexer.source place in
    built (n + 1) p m q (token.label (text_at m)) inner.others parsed (whole inner.means) (token_there p m LabelOrKeyword h) inner.taken
    (λ sound. subst (λ z. placed_of p.lexer.source z ≡ Some (at place (whole inner.means))) (sym k.is)
    (ap (λ o. option_map (at place) (and_then (with_both (λ t ts. t ∷ ts) o (Some [])) (shape_from ty place text)))
    (subst (λ z. placed_of z k.payload ≡ Some inner.means) it.source (inner.means_it (sound_next p m LabelOrKeyword h sound)))
    ∙ ap (option_map (at place)) (shape place text inner.means)))
    (λ sound. spells p.lexer.source place inner.means
    ((omega (arith, lies.0, not_empty p m LabelOrKeyword h), lies.1), subst (λ z. SpellsEach z inner.means) it.source (inner.spells (sound_next p m LabelOrKeyword h sound))))
    (subst (AllOf (StandsAtTokens p.lexer.source place)) (sym (places inner.means))
    (inner.there (start_of p m) (token.label (text_at m)) (at_start p m (token.label (text_at m)) (token_there p m LabelOrKeyword h)), tt))
    (λ rest none_there. word_takes n word (text_at m) (inner.others ++ rest) (tree_of_shape (whole inner.means)) rest word_is (behind (text_at m) (inner.others ++ rest) inner.means rest (inner.inside rest)))

-- `some` and its payload
pub some_parsed : (n : ℕ) (p m w q : Place) (parsed : NodeTree) → TakesItem p (Some (Ok LabelOrKeyword)) m → word_of (text_at m) ≡ some_word → TakesItem m (Some (Ok ParenOpen)) w →
    IsPayload n kind.OptionSome m.lexer.start [] w q parsed → IsParsed (n + 1) p q parsed
some_parsed n p m w q parsed = payload_parsed n p m w q kind.OptionSome some_word some parsed (λ place text t. refl) (λ source place t s. s) (λ t. refl) (λ text tokens t rest inside. (tree_of t, inside, refl))

-- ---- labels with a payload, or without

-- a place that is the same
same_place : (n : ℕ) (p m q : Place) (ty : NodeType) (parsed : NodeTree) → q ≡ m → parsed ≡ node ty (span_at m) no_nodes → IsParsed n p m (node ty (span_at m) no_nodes) → IsParsed n p q parsed
same_place n p m q ty parsed e f h = subst (λ z. IsParsed n p z parsed) (sym e) (subst (λ z. IsParsed n p m z) (sym f) h)

-- `ok`, and its payload if it has one
pub ok_parsed : (n : ℕ) (p m q : Place) (parsed : NodeTree) → TakesItem p (Some (Ok LabelOrKeyword)) m → word_of (text_at m) ≡ ok_word → IsMaybe n kind.ResultOk kind.ResultOk m q parsed → IsParsed (n + 1) p q parsed
ok_parsed n p m q parsed h word_is (inl (same, is)) = same_place (n + 1) p m q kind.ResultOk parsed same is
    (one_token (n + 1) p m LabelOrKeyword kind.ResultOk (ok no_placed) h refl (λ sound. tt) tt
    (λ rest k. word_takes n ok_word (text_at m) rest (tree.ok tree.no_tree) rest word_is (tree.no_tree, inl (refl, k, refl), refl)))
ok_parsed n p m q parsed h word_is (inr (w, open_there, k)) =
    payload_parsed n p m w q kind.ResultOk ok_word (λ t. ok (a_placed t)) parsed (λ place text t. refl) (λ source place t s. s) (λ t. refl)
    (λ text tokens t rest inside. (tree.a_tree (tree_of t), inr (tree_of t, inside, refl), refl)) h word_is open_there k

-- `err`, and its payload if it has one
pub err_parsed : (n : ℕ) (p m q : Place) (parsed : NodeTree) → TakesItem p (Some (Ok LabelOrKeyword)) m → word_of (text_at m) ≡ err_word → IsMaybe n kind.ResultErr kind.ResultErr m q parsed → IsParsed (n + 1) p q parsed
err_parsed n p m q parsed h word_is (inl (same, is)) = same_place (n + 1) p m q kind.ResultErr parsed same is
    (one_token (n + 1) p m LabelOrKeyword kind.ResultErr (err no_placed) h refl (λ sound. tt) tt
    (λ rest k. word_takes n err_word (text_at m) rest (tree.err tree.no_tree) rest word_is (tree.no_tree, inl (refl, k, refl), refl)))
err_parsed n p m q parsed h word_is (inr (w, open_there, k)) =
    payload_parsed n p m w q kind.ResultErr err_word (λ t. err (a_placed t)) parsed (λ place text t. refl) (λ source place t s. s) (λ t. refl)
    (λ text tokens t rest inside. (tree.a_tree (tree_of t), inr (tree_of t, inside, refl), refl)) h word_is open_there k

-- the text of a token in the source before it
pub text_there : (p m : Place) (c : lex.Token) → TakesItem p (Some (Ok c)) m → slice p.lexer.source (span_at m) ≡ text_at m
text_there p m c h = ap (λ z. slice_range z m.lexer.start m.lexer.end) (sym (taken_is p m c h).source)

-- another label, and its payload if it has one
pub case_parsed : (n : ℕ) (p m q : Place) (parsed : NodeTree) → TakesItem p (Some (Ok LabelOrKeyword)) m → word_of (text_at m) ≡ case_word → IsMaybe n kind.Label kind.VariantWithPayload m q parsed → IsParsed (n + 1) p q parsed
case_parsed n p m q parsed h word_is (inl (same, is)) = same_place (n + 1) p m q kind.Label parsed same is
    (one_token (n + 1) p m LabelOrKeyword kind.Label (label (span_at m) (text_at m) no_placed) h refl
    (λ sound. ((omega arith, omega arith), holds p m m (token.label (text_at m)) [] sound (token_there p m LabelOrKeyword h) refl, tt))
    (part_at (start_of p m) (start_of p m) m m m (token.label (text_at m)) [] [] [] refl (at_start p m (token.label (text_at m)) (token_there p m LabelOrKeyword h)) refl refl, tt)
    (λ rest k. word_takes n case_word (text_at m) rest (tree.label (text_at m) tree.no_tree) rest word_is (tree.no_tree, inl (refl, k, refl), refl)))
case_parsed n p m q parsed h word_is (inr (w, open_there, k)) =
    let inner = in_parentheses n m w q kind.VariantWithPayload m.lexer.start (node kind.Label (span_at m) no_nodes ∷ []) parsed open_there k in
    let it = taken_is p m LabelOrKeyword h in
    let lies = inner.lies in
    let whole = span m.lexer.start q.lexer.end in
    built (n + 1) p m q (token.label (text_at m)) inner.others parsed (label (span_at m) (text_at m) (a_placed inner.means)) (token_there p m LabelOrKeyword h) inner.taken
    (λ sound. subst (λ z. placed_of p.lexer.source z ≡ Some (at whole (label (span_at m) (text_at m) (a_placed inner.means)))) (sym k.is)
    (ap (λ o. option_map (at whole) (and_then (with_both (λ t ts. t ∷ ts) (Some (at (span_at m) (label (span_at m) (slice p.lexer.source (span_at m)) no_placed))) (with_both (λ t ts. t ∷ ts) o (Some [])))
    (shape_from kind.VariantWithPayload whole (slice p.lexer.source whole))))
    (subst (λ z. placed_of z k.payload ≡ Some inner.means) it.source (inner.means_it (sound_next p m LabelOrKeyword h sound)))
    ∙ ap (λ z. Some (at whole (label (span_at m) z (a_placed inner.means)))) (text_there p m LabelOrKeyword h)))
    (λ sound. (
      (omega arith, tokens_forward m q inner.others inner.taken),
      holds p m m (token.label (text_at m)) [] sound (token_there p m LabelOrKeyword h) refl,
      ((lies.0, lies.1), subst (λ z. SpellsEach z inner.means) it.source (inner.spells (sound_next p m LabelOrKeyword h sound))),
    ))
    (part_at (start_of p m) (start_of p m) m m q (token.label (text_at m)) [] [] inner.others refl (at_start p m (token.label (text_at m)) (token_there p m LabelOrKeyword h)) refl inner.taken, (inner.there (start_of p m) (token.label (text_at m)) (at_start p m (token.label (text_at m)) (token_there p m LabelOrKeyword h)), tt))
    (λ rest none_there. word_takes n case_word (text_at m) (inner.others ++ rest) (tree.label (text_at m) (tree.a_tree (tree_of inner.means))) rest word_is
    (tree.a_tree (tree_of inner.means), inr (tree_of inner.means, inner.inside rest, refl), refl))
