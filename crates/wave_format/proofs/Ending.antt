-- A text that is laid out, from its first token to its end.
use Rattle.std.proofs.Common.{◌≡◌, ℕ, ◌+◌, Bool, true, false, nat_lt, List, [], ◌∷◌, ◌++◌, Option, Some, None, Result, Ok, Err, refl, sym, ap, subst, ◌∙◌, map, length, take, drop, arith}
use Rattle.std.specs.Prelude.{◌-◌, slice_range, if◌then◌else◌}
use Rattle.std.specs.declared.ops.Range.{Range}
use Rattle.std.proofs.lemmas.List.{append-nil}
use Rattle.wave_lex.specs.declared.lex.Token as lex
use Rattle.wave_lex.specs.Multiline.{pieces}
use Rattle.wave_lex.specs.Tokenization.{Tokenizes, Prefix, Lexed, NextIs, IsLongestToken, remainder_of}
use Rattle.wave_lex.specs.LexerRuns.{ComeTo}
use Rattle.wave_lex.proofs.Tokenization.NextToken.{next_one}
use Rattle.wave_lex.proofs.Tokenization.LexerRuns.{tokens_cut, passed_text, passed_rest}
use Rattle.wave_grammar.specs.Token.{Token, TokenizesTo, lexeme_of, text_of, comma}
use Rattle.wave_grammar.specs.Tree.{Tree, Takes}
use Rattle.wave_grammar.specs.Denotes.{SpellsText}
use Rattle.wave_grammar.specs.EquivalenceLaws.{without_last_commas}
use Rattle.wave_grammar.specs.PrefixLaws.{EndsBefore}
use Rattle.wave_grammar.specs.PrefixAutomaton as automaton
use Rattle.wave_grammar.specs.PrefixAutomaton.{Expectation, StackSymbol, Step, reads, unexpected, too_deep, value, first_item, next_item, behind_value, behind_label, paren}
use Rattle.wave_grammar.specs.PrefixAutomaton.{in_braces, no_fields, behind_word, key, behind_key, flag, behind_flag, tuple, list, payload, entries, step, Shifts}
use Rattle.wave_grammar.proofs.Automaton.Sound.{trees_are_accepted}
use Rattle.wave_grammar.proofs.Automaton.Complete.{led_is_tree}
use Rattle.wave_grammar.proofs.Equivalence.LastCommas.{last_commas_mean_nothing}
use Rattle.wave_format.specs.Words.{Word, comments_in, WordsTo, HasWords, kept}
use Rattle.wave_format.specs.Private.Writing.{Written}
use Rattle.wave_format.specs.Private.Brackets.{is_behind}
use Rattle.wave_format.specs.Private.Sheets.{Sheet, PutsLines, Puts}
use Rattle.wave_format.specs.Private.Laying.{LeadTo, AreWritten, IsLaidSoFar, IsLaid}
use Rattle.wave_format.proofs.Writing.{starts, written_whole}
use Rattle.wave_format.proofs.OpenBrackets.{follows_start}
use Rattle.wave_format.proofs.LastCommas.{same_nothing, kept_append, closes_comma}
use Rattle.wave_format.proofs.Laying.{TakesNext, Stays, pieces_are, lines_put, put_laid}

-- ---- the beginning

-- a sheet with the name alone
pub laid_start : (n : ℕ) (t : Tree) (name text : List ℕ) (l : Lexed) (s : Sheet) → remainder_of l ≡ text → s ≡ record { text = name; payloads = []; last = None; held = false; in_comment = false } → SpellsText n text t → IsLaidSoFar n t name text l s
laid_start n t name text l s here is (tokens, cut, takes) =
    let (prefix, d, parts, ends, leads) = trees_are_accepted n tokens [] t takes in
    let same : tokens ≡ prefix = parts ∙ append-nil prefix in
    subst (IsLaidSoFar n t name text l) (sym is) (record {
      tokens = [];
      words = [];
      more = tokens;
      laid = [];
      laid_words = [];
      written = None;
      expected = value;
      forms = [];
      last_expected = d;
      of_text = (sym here, refl);
      rest = subst (λ (z : List ℕ). Tokenizes z (map lexeme_of tokens)) (sym here) cut;
      takes = takes;
      leads = subst (λ (z : List Token). Shifts n value [] z d []) (sym same) leads;
      ends = ends;
      of_sheet = starts name;
      tokens_written = (refl, (refl, refl), same_nothing);
      same_words = refl;
      follows = follows_start;
      brackets = refl;
    })

-- ---- the next token

-- the first of the tokens of what is left is the one that the lexer gives
abbrev pub IsNext : Lexed → Lexed → lex.Token → List Token → Type 0
IsNext l m c more = (t : Token) × (later : List Token) × (more ≡ t ∷ later) × (c ≡ (lexeme_of t).0)
    × ((next : TakesNext l m t later) × (slice_range l.source l.end m.start ≡ take next.gap (remainder_of l)) × (slice_range m.source m.start m.end ≡ text_of t))

-- what a lexer answers
abbrev answer : lex.Token → Option (Result lex.Token (Range ℕ))
answer c = Some (Ok c)

same_class : (a b : lex.Token) → answer a ≡ answer b → a ≡ b
same_class a b e = cc

pub next_token : (l m : Lexed) (c : lex.Token) (more : List Token) → Tokenizes (remainder_of l) (map lexeme_of more) → NextIs l m (Some (Ok c)) → IsNext l m c more
next_token l m c [] cut next =
    let come : ComeTo l [] None = (tokens_cut l []).0.1 cut in
    let wrong : Some (Ok c) ≡ None = (next_one l m come.0 (Some (Ok c)) None next come.1).1 in cc
next_token l m c (t ∷ later) cut next =
    let come : ComeTo l (lexeme_of t ∷ map lexeme_of later) None = (tokens_cut l (lexeme_of t ∷ map lexeme_of later)).0.1 cut in
    let one = next_one l m come.0 (Some (Ok c)) (Some (Ok (lexeme_of t).0)) next come.1 in
    let class : c ≡ (lexeme_of t).0 = same_class c (lexeme_of t).0 one.1 in
    let text : text_of t ≡ slice_range m.source m.start m.end = come.2 ∙ ap (λ (z : Lexed). slice_range z.source z.start z.end) (sym one.0) in
    let rest : Tokenizes (remainder_of m) (map lexeme_of later) = subst (λ (z : Lexed). Tokenizes (remainder_of z) (map lexeme_of later)) (sym one.0) ((tokens_cut come.0 (map lexeme_of later)).0.0 come.3) in
    let (g, k, p, long) = next in
    let before : m.start - l.end ≡ g = omega (arith, p.start) in (
      t,
      later,
      refl,
      class,
      (
        record {
          gap = g;
          size = k;
          blank = p.skipped;
          long = subst (λ (z : lex.Token). IsLongestToken (drop g (remainder_of l)) k z) class long;
          text = text ∙ passed_text l m g k p;
          rest = passed_rest l m g k p;
          left = rest;
        },
        ap (λ (z : ℕ). take z (remainder_of l)) before,
        sym text,
      ),
    )

-- a token that is put behind what is laid out so far
pub laid_next : (n : ℕ) (tree : Tree) (name text : List ℕ) (l m : Lexed) (old new : Sheet) (c : lex.Token) → IsLaidSoFar n tree name text l old → NextIs l m (Some (Ok c))
    → Puts c (slice_range l.source l.end m.start) (slice_range m.source m.start m.end) old new → IsLaidSoFar n tree name text m new
laid_next n tree name text l m old new c h next puts =
    let (t, later, parts, class, (taken, gap, x)) = next_token l m c h.more h.rest next in
    let (e, r, steps, rest) = subst (λ (z : List Token). Shifts n h.expected h.forms z h.last_expected []) parts h.leads in
    put_laid n tree name text l m old new h t later taken e r (subst (λ (z : List Token). Takes n (h.tokens ++ z) tree []) parts h.takes) steps rest
    (subst (λ (z : lex.Token). Puts z (take taken.gap (remainder_of l)) (text_of t) old new) class
    (subst (λ (z : List ℕ). Puts c z (text_of t) old new) gap (subst (λ (z : List ℕ). Puts c (slice_range l.source l.end m.start) z old new) x puts)))

-- ---- the end

-- words are tokens and comments
words_cut : (s : List ℕ) (ts : List Token) (ws : List Word) (r : List ℕ) → WordsTo s ts ws r → Prefix s (map lexeme_of ts) r
words_cut s [] ws r (e, f) = e
words_cut s (t ∷ ts) ws r (g, k, more, blank, long, text, e, rest) = (g, k, blank, long, text, words_cut (drop (g + k) s) ts more r rest)

pub has_tokens : (s : List ℕ) (ts : List Token) (ws : List Word) → HasWords s ts ws → TokenizesTo s ts
has_tokens s ts ws (most, r, words, blank, e) = (r, words_cut s ts most r words, blank)

-- where nothing is left, no token is
pub no_more : (l m : Lexed) (more : List Token) → Tokenizes (remainder_of l) (map lexeme_of more) → NextIs l m None → more ≡ []
no_more l m [] cut next = refl
no_more l m (t ∷ later) cut next =
    let come : ComeTo l (lexeme_of t ∷ map lexeme_of later) None = (tokens_cut l (lexeme_of t ∷ map lexeme_of later)).0.1 cut in
    let wrong : None ≡ Some (Ok (lexeme_of t).0) = (next_one l m come.0 None (Some (Ok (lexeme_of t).0)) next come.1).1 in cc

-- where a value ends, something was read
ends_behind : (d : Expectation) → EndsBefore d [] → is_behind d ≡ true
ends_behind behind_value h = refl
ends_behind behind_label h = refl
ends_behind _ h = absurd h

-- behind a comma nothing was
abbrev Expects : Step → Type 0
Expects (reads e r) = is_behind e ≡ false
Expects _ = Unit {0}

level_expects : (b : Bool) → Expects (if b then unexpected else too_deep)
level_expects true = tt
level_expects false = tt

item_expects : (b c : Bool) (q : Step) → b ≡ false → Expects (if b then q else (if c then unexpected else too_deep))
item_expects true c q e = let wrong : true ≡ false = e in cc
item_expects false c q e = level_expects c

behind_expects : (forms : List StackSymbol) → Expects (automaton.behind_step forms comma)
behind_expects [] = tt
behind_expects (tuple ∷ outer) = refl
behind_expects (list ∷ outer) = refl
behind_expects (payload ∷ outer) = tt
behind_expects (entries ∷ outer) = refl

comma_expects : (n : ℕ) (d : Expectation) (forms : List StackSymbol) → Expects (step n d forms comma)
comma_expects n value forms = level_expects (nat_lt (length forms) n)
comma_expects n first_item forms = item_expects (automaton.closes forms comma) (nat_lt (length forms) n) (automaton.closed_empty forms) (closes_comma forms)
comma_expects n next_item forms = item_expects (automaton.closes forms comma) (nat_lt (length forms) n) (automaton.closed forms) (closes_comma forms)
comma_expects n behind_value forms = behind_expects forms
comma_expects n behind_label forms = behind_expects forms
comma_expects n paren forms = tt
comma_expects n in_braces forms = tt
comma_expects n no_fields forms = tt
comma_expects n (behind_word text) forms = refl
comma_expects n key forms = tt
comma_expects n behind_key forms = tt
comma_expects n (flag names) forms = tt
comma_expects n (behind_flag names) forms = refl

-- where the tokens end no comma is held back
none_held : (n : ℕ) (b : Bool) (ts us : List Token) (written last : Option lex.Token) (d : Expectation) (forms : List StackSymbol) → EndsBefore d [] → AreWritten n b ts us written last d forms → AreWritten n false ts us written last d forms
none_held n false ts us written last d forms ends h = h
none_held n true ts us written last d forms ends (before, behind, open_forms, parts, is_last, leads, commas, same) =
    let no : is_behind d ≡ false = subst Expects commas (comma_expects n behind open_forms) in
    let wrong : true ≡ false = sym (ends_behind d ends) ∙ no in cc

-- the whole text is laid out
pub laid_end : (n : ℕ) (tree : Tree) (name text : List ℕ) (l m : Lexed) (s q : Sheet) → IsLaidSoFar n tree name text l s → NextIs l m None → PutsLines (pieces (remainder_of l)) s q → IsLaid n tree name text q.text
laid_end n tree name text l m s q h next lines =
    let none : h.more ≡ [] = no_more l m h.more h.rest next in
    let (is_last, closed) = subst (λ (z : List Token). Shifts n h.expected h.forms z h.last_expected []) none h.leads in
    let ends : EndsBefore h.expected [] = subst (λ (z : Expectation). EndsBefore z []) (sym is_last) h.ends in
    let (same_last, leads, commas) = none_held n s.held h.tokens h.laid h.written s.last h.expected h.forms ends h.tokens_written in
    let put : Written name q.text h.laid (h.laid_words ++ comments_in (remainder_of l)) h.written q.in_comment × Stays s q =
    lines_put name h.laid h.laid_words h.written (pieces (remainder_of l)) s q (pieces_are (remainder_of l)) (λ e. same_last ∙ e) h.of_sheet lines in
    let (laid, parts, words) = written_whole name q.text h.laid (h.laid_words ++ comments_in (remainder_of l)) h.written q.in_comment put.0 in
    let of_text : HasWords text h.tokens (h.words ++ comments_in (remainder_of l)) = (h.words, remainder_of l, h.of_text, next.skipped, refl) in
    let same : without_last_commas h.tokens ≡ without_last_commas h.laid = sym (ap without_last_commas (append-nil h.tokens)) ∙ (commas [] ∙ ap without_last_commas (append-nil h.laid)) in
    let takes : Takes n h.tokens tree [] = subst (λ (z : List Token). Takes n z tree []) (ap (λ (z : List Token). h.tokens ++ z) none ∙ append-nil h.tokens) h.takes in
    let (other, other_takes) = led_is_tree n h.laid [] h.expected ends (subst (λ (z : List StackSymbol). LeadTo n h.laid h.expected z) closed leads) in
    let there : Takes n h.laid other [] = subst (λ (z : List Token). Takes n z other []) (append-nil h.laid) other_takes in
    let one : tree ≡ other = (last_commas_mean_nothing text laid h.tokens h.laid tree other (has_tokens text h.tokens _ of_text) (has_tokens laid h.laid _ words) (n, takes) (n, there) same).0 in
    record {
      laid = laid;
      parts = parts;
      is = record {
        tokens = h.tokens;
        words = h.words ++ comments_in (remainder_of l);
        of_source = of_text;
        laid_tokens = h.laid;
        laid_words = h.laid_words ++ comments_in (remainder_of l);
        of_text = words;
        same_tokens = same;
        same_words = kept_append h.words (comments_in (remainder_of l)) ∙ (ap (λ (z : List Word). z ++ kept (comments_in (remainder_of l))) h.same_words ∙ sym (kept_append h.laid_words (comments_in (remainder_of l))));
      };
      spells = (h.laid, has_tokens laid h.laid _ words, subst (λ (z : Tree). Takes n h.laid z []) (sym one) there);
    }

-- nothing that is no token stands in it
pub laid_bad : (n : ℕ) (tree : Tree) (name text : List ℕ) (l m : Lexed) (s : Sheet) (bad : Range ℕ) → IsLaidSoFar n tree name text l s → NextIs l m (Some (Err bad)) → {A : Type 0} → A
laid_bad n tree name text l m s bad h next = absurd ((tokens_cut l []).1 bad (m, next) (map lexeme_of h.more) h.rest)
