-- A call without parameters that is laid out.
use Rattle.std.proofs.Common.{◌≡◌, ℕ, true, false, List, [], ◌∷◌, ◌++◌, inl, inr, Option, Some, None, Ok, Err, refl, sym, ap, subst, ◌∙◌, map, take, append_assoc}
use Rattle.std.specs.Prelude.{slice_range}
use Rattle.std.specs.declared.ops.Range.{Range}
use Rattle.std.proofs.lemmas.List.{append-nil}
use Rattle.wave_lex.specs.declared.lex.Token as lex
use Rattle.wave_lex.specs.Multiline.{pieces}
use Rattle.wave_lex.specs.Tokenization.{Tokenizes, Lexed, NextIs, remainder_of}
use Rattle.wave_lex.proofs.Tokenization.LexerRuns.{tokens_cut}
use Rattle.wave_grammar.specs.Token.{Token, TokenizesTo, lexeme_of, text_of, comma, paren_open}
use Rattle.wave_format.specs.Words.{a_token, comments_in}
use Rattle.wave_format.specs.Private.Writing.{Written}
use Rattle.wave_format.specs.Private.Brackets.{ends_item}
use Rattle.wave_format.specs.Private.Sheets.{Sheet, PutsLines, Puts}
use Rattle.wave_format.specs.Private.Laying.{no_params, IsCopiedSoFar, IsEmptyLaid}
use Rattle.wave_format.proofs.Writing.{words_append, starts, written_whole}
use Rattle.wave_format.proofs.Laying.{TakesNext, next_shape, next_words, Stays, IsPut, kept_both, pieces_are, lines_put, put_rest}
use Rattle.wave_format.proofs.Ending.{next_token, no_more, has_tokens}

-- a sheet with the name alone
pub copied_start : (name text : List ℕ) (l : Lexed) (s : Sheet) → remainder_of l ≡ text → s ≡ record { text = name; payloads = []; last = None; held = false; in_comment = false } → TokenizesTo text no_params → IsCopiedSoFar name text l s
copied_start name text l s here is cut = subst (IsCopiedSoFar name text l) (sym is) (record {
  tokens = [];
  words = [];
  more = no_params;
  laid_words = [];
  whole = refl;
  of_text = (sym here, refl);
  rest = subst (λ (z : List ℕ). Tokenizes z (map lexeme_of no_params)) (sym here) cut;
  of_sheet = starts name;
  free = refl;
  same_words = refl;
  no_item = λ e. cc;
})

-- no comma is among the tokens
no_comma : (ts later : List Token) {A : Type 0} → ts ++ comma ∷ later ≡ no_params → A
no_comma [] later e = cc
no_comma (a ∷ []) later e = cc
no_comma (a ∷ b ∷ ts) later e = too_many ts later (let same : ts ++ comma ∷ later ≡ [] = cc in same)
  where
    too_many : (ts later : List Token) {A : Type 0} → ts ++ comma ∷ later ≡ [] → A
    too_many [] later e = cc
    too_many (c ∷ ts) later e = cc

-- what may end an item is the last
last_only : (ts : List Token) (t : Token) (later : List Token) → ts ++ t ∷ later ≡ no_params → ends_item (Some (lexeme_of t).0) ≡ true → later ≡ []
last_only [] t later e h =
    let same : t ≡ paren_open = cc in
    let wrong : false ≡ true = sym (ap (λ (z : Token). ends_item (Some (lexeme_of z).0)) same) ∙ h in cc
last_only (a ∷ []) t later e h = cc
last_only (a ∷ b ∷ ts) t later e h = too_many ts t later (let same : ts ++ t ∷ later ≡ [] = cc in same)
  where
    too_many : (ts : List Token) (t : Token) (later : List Token) {A : Type 0} → ts ++ t ∷ later ≡ [] → A
    too_many [] t later e = cc
    too_many (c ∷ ts) t later e = cc

-- a token that is put
put_copied : (name text : List ℕ) (l m : Lexed) (old new : Sheet) (h : IsCopiedSoFar name text l old) (t : Token) (later : List Token) (next : TakesNext l m t later) → h.more ≡ t ∷ later
    → Puts (lexeme_of t).0 (take next.gap (remainder_of l)) (text_of t) old new → IsCopiedSoFar name text m new
put_copied name text l m old new h t later next parts (begun, inr (w, writes, is, inl (held, close)), puts) =
    let wrong : true ≡ false = sym held ∙ h.free in cc
put_copied name text l m old new h t later next parts (begun, inr (w, writes, is, inr (held, close, ends, items)), puts) =
    let wrong : t ∷ later ≡ [] = sym parts ∙ h.no_item ends in cc
put_copied name text l m old new h t later next parts (begun, inl (is, why), puts) =
    let gap = take next.gap (remainder_of l) in
    let all : h.tokens ++ t ∷ later ≡ no_params = ap (λ (z : List Token). h.tokens ++ z) (sym parts) ∙ h.whole in
    let here : Written name begun.text h.tokens h.laid_words old.last begun.in_comment = subst (λ (z : Sheet). Written name z.text h.tokens h.laid_words old.last z.in_comment) (sym is) h.of_sheet in
    let same_last : begun.last ≡ old.last = ap (λ (z : Sheet). z.last) is in
    let p : IsPut name h.tokens h.laid_words t gap begun new =
    put_rest name h.tokens h.laid_words old.last t gap begun new (next_shape l m t later next) here (inl (sym same_last)) (λ e. sym same_last ∙ e) (ap (λ (z : Sheet). z.held) is) puts in
    elim p.done as (λ _. IsCopiedSoFar name text m new) [
      | inl (held, comma_is, same) ↦ no_comma h.tokens later (subst (λ (z : Token). h.tokens ++ z ∷ later ≡ no_params) comma_is all)
      | inr (held, after, written) ↦ record {
        tokens = h.tokens ++ t ∷ [];
        words = h.words ++ (comments_in gap ++ a_token t ∷ []);
        more = later;
        laid_words = p.after_words;
        whole = append_assoc h.tokens (t ∷ []) later ∙ all;
        of_text = words_append text h.tokens (t ∷ []) h.words (comments_in gap ++ a_token t ∷ []) (remainder_of l) (remainder_of m) h.of_text (next_words l m t later next);
        rest = next.left;
        of_sheet = subst (λ (z : Option lex.Token). Written name new.text (h.tokens ++ t ∷ []) p.after_words z new.in_comment) (written ∙ sym p.last) (subst (λ (z : List Token). Written name new.text z p.after_words p.written new.in_comment) after p.of_sheet);
        free = held;
        same_words = kept_both h.words h.laid_words (comments_in gap ++ a_token t ∷ []) h.same_words ∙ p.is_kept;
        no_item = λ e. last_only h.tokens t later all (ap ends_item (sym p.last) ∙ e);
      }
    ]

pub copied_next : (name text : List ℕ) (l m : Lexed) (old new : Sheet) (c : lex.Token) → IsCopiedSoFar name text l old → NextIs l m (Some (Ok c)) → Puts c (slice_range l.source l.end m.start) (slice_range m.source m.start m.end) old new → IsCopiedSoFar name text m new
copied_next name text l m old new c h next puts =
    let (t, later, parts, class, (taken, gap, x)) = next_token l m c h.more h.rest next in
    put_copied name text l m old new h t later taken parts
    (subst (λ (z : lex.Token). Puts z (take taken.gap (remainder_of l)) (text_of t) old new) class
    (subst (λ (z : List ℕ). Puts c z (text_of t) old new) gap (subst (λ (z : List ℕ). Puts c (slice_range l.source l.end m.start) z old new) x puts)))

pub copied_end : (name text : List ℕ) (l m : Lexed) (s q : Sheet) → IsCopiedSoFar name text l s → NextIs l m None → PutsLines (pieces (remainder_of l)) s q → IsEmptyLaid name text q.text
copied_end name text l m s q h next lines =
    let none : h.more ≡ [] = no_more l m h.more h.rest next in
    let all : h.tokens ≡ no_params = sym (append-nil h.tokens) ∙ (ap (λ (z : List Token). h.tokens ++ z) (sym none) ∙ h.whole) in
    let put : Written name q.text h.tokens (h.laid_words ++ comments_in (remainder_of l)) s.last q.in_comment × Stays s q =
    lines_put name h.tokens h.laid_words s.last (pieces (remainder_of l)) s q (pieces_are (remainder_of l)) (λ e. e) h.of_sheet lines in
    let (laid, parts, words) = written_whole name q.text h.tokens (h.laid_words ++ comments_in (remainder_of l)) s.last q.in_comment put.0 in
    record {
      laid = laid;
      parts = parts;
      is = record {
        tokens = h.tokens;
        words = h.words ++ comments_in (remainder_of l);
        of_source = (h.words, remainder_of l, h.of_text, next.skipped, refl);
        laid_tokens = h.tokens;
        laid_words = h.laid_words ++ comments_in (remainder_of l);
        of_text = words;
        same_tokens = refl;
        same_words = kept_both h.words h.laid_words (comments_in (remainder_of l)) h.same_words;
      };
      cut = subst (TokenizesTo laid) all (has_tokens laid h.tokens _ words);
    }

-- nothing that is no token stands in it
pub copied_bad : (name text : List ℕ) (l m : Lexed) (s : Sheet) (bad : Range ℕ) → IsCopiedSoFar name text l s → NextIs l m (Some (Err bad)) → {A : Type 0} → A
copied_bad name text l m s bad h next = absurd ((tokens_cut l []).1 bad (m, next) (map lexeme_of h.more) h.rest)
