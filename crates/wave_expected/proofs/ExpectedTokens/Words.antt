-- The words of what may stand.
use Rattle.std.proofs.Common.{ℕ, ◌≡◌, ◌≢◌, ◌≤◌, ◌<◌, ◌+◌, List, [], ◌∷◌, ◌++◌, length, take, drop, get_or, map, Bool, true, false, refl, sym, ap, ◌∙◌, arith, rules}
use Rattle.std.specs.Prelude.{◌↔◌, cond, Contains, IsTrue, if◌then◌else◌, bytes_eq, codes, nat_eq}
use Rattle.std.specs.List.{filter, list_any}
use Rattle.std.specs.Borrow.{Bor}
use Rattle.std.specs.Cmp.{IsEquivalence}
use Rattle.std.proofs.lemmas.Cmp.{nat_list_eq_equiv}
use Rattle.std.proofs.lemmas.List.{append-nil, append_assoc, map-append, length-drop, drop-map, drop_more, drop_all, take_more}
use Rattle.std.proofs.lemmas.List.Elements.{filter-append}
use Rattle.std.proofs.lemmas.Map.Views.{list_any-from_Contains, Contains-from_any}
use Rattle.std.proofs.lemmas.Slice.Eq.{bytes_eq-Decides}
use Rattle.wave_wasm.specs.Borrowed.{texts}
use Rattle.wave_lex.specs.declared.lex.Token as lex
use Rattle.wave_lex.specs.declared.lex.Token.TheVariants.{BraceOpen, BraceClose, ParenOpen, ParenClose, BracketOpen, BracketClose}
use Rattle.wave_lex.specs.declared.lex.Token.TheVariants.{Colon, Comma, Number, LabelOrKeyword, Char, String, MultilineString}
use Rattle.wave_lex.specs.Errors.{class_name}
use Rattle.wave_grammar.proofs.Elaboration.ParamsInTurn.{mapped_count}
use Rattle.wave_expected.specs.Expected.{same_class, class_word, words_among, marks_reported, starts_reported, reported_words, or_joined}

-- ---- classes

-- the class of a name
abbrev class_named : List ℕ → lex.Token
class_named name =
    if bytes_eq name (codes "BraceOpen") then BraceOpen
    else (if bytes_eq name (codes "BraceClose") then BraceClose
    else (if bytes_eq name (codes "ParenOpen") then ParenOpen
    else (if bytes_eq name (codes "ParenClose") then ParenClose
    else (if bytes_eq name (codes "BracketOpen") then BracketOpen
    else (if bytes_eq name (codes "BracketClose") then BracketClose
    else (if bytes_eq name (codes "Colon") then Colon
    else (if bytes_eq name (codes "Comma") then Comma
    else (if bytes_eq name (codes "Number") then Number
    else (if bytes_eq name (codes "LabelOrKeyword") then LabelOrKeyword
    else (if bytes_eq name (codes "Char") then Char
    else (if bytes_eq name (codes "String") then String
    else MultilineString)))))))))))

named_so : (c : lex.Token) → class_named (class_name c) ≡ c
named_so BraceOpen = refl
named_so BraceClose = refl
named_so ParenOpen = refl
named_so ParenClose = refl
named_so BracketOpen = refl
named_so BracketClose = refl
named_so Colon = refl
named_so Comma = refl
named_so Number = refl
named_so LabelOrKeyword = refl
named_so Char = refl
named_so String = refl
named_so MultilineString = refl

-- equal bytes are one text
one_text : (x y : List ℕ) → bytes_eq x y ≡ true → x ≡ y
one_text x y h = search (rules, bytes_eq-Decides x y, h)

same_is : (a b : lex.Token) → same_class a b ≡ true → a ≡ b
same_is a b h = sym (named_so a) ∙ (ap class_named (one_text (class_name a) (class_name b) h) ∙ named_so b)

same_equivalence : IsEquivalence same_class
same_equivalence = record {
  refl = λ x. nat_list_eq_equiv.refl (class_name x);
  symm = λ x y. nat_list_eq_equiv.symm (class_name x) (class_name y);
  congr = λ x y z h. nat_list_eq_equiv.congr (class_name x) (class_name y) (class_name z) h;
}

-- the test of a class
pub is_among : (classes : List lex.Token) (c : lex.Token) (b : Bool) → IsTrue b ↔ Contains classes c → list_any (same_class c) classes ≡ b
is_among classes c true h = list_any-from_Contains same_equivalence c classes (h.0 refl)
is_among classes c false h = none (list_any (same_class c) classes) refl
  where
    none : (x : Bool) → list_any (same_class c) classes ≡ x → x ≡ false
    none true e = let w : false ≡ true = h.1 (Contains-from_any same_is c classes e) in cc
    none false e = refl

-- ---- words

-- the words of some classes and of others
pub among_both : (classes reported more : List lex.Token) → words_among classes (reported ++ more) ≡ words_among classes reported ++ words_among classes more
among_both classes reported more =
    ap (map class_word) (filter-append (λ c. list_any (same_class c) classes) reported more)
    ∙ map-append class_word (filter (λ c. list_any (same_class c) classes) reported) (filter (λ c. list_any (same_class c) classes) more)

-- there is none for another
pub word_left : (classes : List lex.Token) (c : lex.Token) (b : Bool) (old : List (Bor (List ℕ))) → IsTrue b ↔ Contains classes c → b ≡ false → texts old ≡ texts old ++ words_among classes (c ∷ [])
word_left classes c b old h absent =
    sym (append-nil (texts old)) ∙ ap (λ t. texts old ++ map class_word (cond t (c ∷ []) [])) (sym (is_among classes c b h ∙ absent))

-- there is one for one of them
pub word_added : (classes : List lex.Token) (c : lex.Token) (b : Bool) (old new : List (Bor (List ℕ))) (w : Bor (List ℕ)) → IsTrue b ↔ Contains classes c → b ≡ true → w.now ≡ class_word c → new ≡ old ++ w ∷ [] →
    texts new ≡ texts old ++ words_among classes (c ∷ [])
word_added classes c b old new w h present word push =
    ap texts push
    ∙ (map-append (λ (n : Bor (List ℕ)). n.now) old (w ∷ [])
    ∙ (ap (λ z. texts old ++ z ∷ []) word ∙ ap (λ t. texts old ++ map class_word (cond t (c ∷ []) [])) (sym (is_among classes c b h ∙ present))))

-- ---- joined

-- what stands before the word with that index of so many: ` or ` before the last
abbrev pub separator : ℕ → ℕ → List ℕ
separator index count = if nat_eq (index + 1) count then codes " or " else codes ", "

-- before the last
pub last_separator : (i n : ℕ) → i + 1 ≡ n → codes " or " ≡ separator i n
last_separator i n e = let last : nat_eq (i + 1) n ≡ true = grind (arith, e) in ap (λ b. if b then codes " or " else codes ", ") (sym last)

-- before another
pub other_separator : (i n : ℕ) → i + 1 ≢ n → codes ", " ≡ separator i n
other_separator i n e = let other : nat_eq (i + 1) n ≡ false = grind (arith, e) in ap (λ b. if b then codes " or " else codes ", ") (sym other)

-- the words after the first, each behind what stands before it
abbrev pub behind : List (List ℕ) → List ℕ
behind [] = []
behind (word ∷ []) = codes " or " ++ word
behind (word ∷ more) = codes ", " ++ (word ++ behind more)

pub joined_behind : (word : List ℕ) (more : List (List ℕ)) → or_joined (word ∷ more) ≡ word ++ behind more
joined_behind word [] = sym (append-nil word)
joined_behind word (last ∷ []) = refl
joined_behind word (next ∷ other ∷ more) = ap (λ z. word ++ (codes ", " ++ z)) (joined_behind next (other ∷ more))

-- the first of them, and what stands before it
behind_step : (word : List ℕ) (more : List (List ℕ)) (i n : ℕ) → n ≡ i + 1 + length more → behind (word ∷ more) ≡ separator i n ++ (word ++ behind more)
behind_step word [] i n e =
    let last : nat_eq (i + 1) n ≡ true = grind (arith, e) in
    ap (λ z. codes " or " ++ z) (sym (append-nil word)) ∙ ap (λ b. (if b then codes " or " else codes ", ") ++ (word ++ [])) (sym last)
behind_step word (next ∷ more) i n e =
    let further : nat_eq (i + 1) n ≡ false = grind (arith, e) in
    ap (λ b. (if b then codes " or " else codes ", ") ++ (word ++ behind (next ∷ more))) (sym further)

-- one more word is joined
pub next_joined : (ws : List (Bor (List ℕ))) (i : ℕ) (d : Bor (List ℕ)) (before mid new apart : List ℕ) → i < length ws → apart ≡ separator i (length ws) → mid ≡ before ++ apart → new ≡ mid ++ (get_or ws i d).now →
    before ++ behind (drop i (texts ws)) ≡ or_joined (texts ws) → new ++ behind (drop (i + 1) (texts ws)) ≡ or_joined (texts ws)
next_joined ws i d before mid new apart l between first last h =
    let w = get_or ws i d in
    let more = texts (drop (i + 1) ws) in
    let here : drop i (texts ws) ≡ w.now ∷ more = drop-map (λ (n : Bor (List ℕ)). n.now) i ws ∙ ap texts (drop_more ws i d l) in
    let count : length ws ≡ i + 1 + length more = omega (arith, mapped_count (λ (n : Bor (List ℕ)). n.now) (drop (i + 1) ws), length-drop (i + 1) ws) in
    let step : before ++ (apart ++ (w.now ++ behind more)) ≡ or_joined (texts ws) =
    ap (λ z. before ++ (z ++ (w.now ++ behind more))) between ∙ (ap (λ z. before ++ z) (sym (behind_step w.now more i (length ws) count)) ∙ (ap (λ z. before ++ behind z) (sym here) ∙ h)) in
    ap (λ z. new ++ behind z) (drop-map (λ (n : Bor (List ℕ)). n.now) (i + 1) ws)
    ∙ (ap (λ z. z ++ behind more) (last ∙ ap (λ z. z ++ w.now) first) ∙ (append_assoc (before ++ apart) w.now (behind more) ∙ (append_assoc before apart (w.now ++ behind more) ∙ step)))

-- all are
pub all_joined : (ws : List (Bor (List ℕ))) (i : ℕ) (text : List ℕ) → length ws ≤ i → text ++ behind (drop i (texts ws)) ≡ or_joined (texts ws) → text ≡ or_joined (texts ws)
all_joined ws i text l h =
    let none : drop i (texts ws) ≡ [] = drop-map (λ (n : Bor (List ℕ)). n.now) i ws ∙ ap texts (drop_all i ws l) in
    sym (append-nil text) ∙ (ap (λ z. text ++ behind z) (sym none) ∙ h)

-- the first is
pub first_joined : (ws : List (Bor (List ℕ))) (d : Bor (List ℕ)) (before text : List ℕ) → nat_eq (length ws) 0 ≡ false → before ≡ [] → text ≡ before ++ (get_or ws 0 d).now → text ++ behind (drop 1 (texts ws)) ≡ or_joined (texts ws)
first_joined [] d before text l none e = let w : true ≡ false = l in cc
first_joined (x ∷ ws) d before text l none e = ap (λ z. z ++ behind (texts ws)) (e ∙ ap (λ z. z ++ x.now) none) ∙ sym (joined_behind x.now (texts ws))

-- ---- the words of one more class

pub words_more : (classes reported : List lex.Token) (i : ℕ) (d : lex.Token) (start old new : List (List ℕ)) → i < length reported → old ≡ start ++ words_among classes (take i reported) → new ≡ old ++ words_among classes (get_or reported i d ∷ []) →
    new ≡ start ++ words_among classes (take (i + 1) reported)
words_more classes reported i d start old new l h more =
    let one = get_or reported i d ∷ [] in
    more
    ∙ (ap (λ z. z ++ words_among classes one) h
    ∙ (append_assoc start (words_among classes (take i reported)) (words_among classes one) ∙ ap (λ z. start ++ z) (sym (among_both classes (take i reported) one) ∙ ap (words_among classes) (sym (take_more reported i d l)))))

-- ---- the answer

-- what is told of the first tokens, by the test of `[`
pub starts_so : (classes : List lex.Token) (b : Bool) → IsTrue b ↔ Contains classes BracketOpen → starts_reported classes ≡ if b then BracketOpen ∷ [] else LabelOrKeyword ∷ Number ∷ ParenOpen ∷ []
starts_so classes b h = ap (λ z. if z then BracketOpen ∷ [] else LabelOrKeyword ∷ Number ∷ ParenOpen ∷ []) (is_among classes BracketOpen b h)

pub starts_then : (classes : List lex.Token) (b : Bool) → IsTrue b ↔ Contains classes BracketOpen → b ≡ true → BracketOpen ∷ [] ≡ starts_reported classes
starts_then classes b h e = sym (starts_so classes b h ∙ ap (λ z. if z then BracketOpen ∷ [] else LabelOrKeyword ∷ Number ∷ ParenOpen ∷ []) e)

pub starts_else : (classes : List lex.Token) (b : Bool) → IsTrue b ↔ Contains classes BracketOpen → b ≡ false → LabelOrKeyword ∷ Number ∷ ParenOpen ∷ [] ≡ starts_reported classes
starts_else classes b h e = sym (starts_so classes b h ∙ ap (λ z. if z then BracketOpen ∷ [] else LabelOrKeyword ∷ Number ∷ ParenOpen ∷ []) e)

-- all that is reported
pub all_reported : (classes starts : List lex.Token) (may_end : Bool) (none first second third : List (Bor (List ℕ))) → starts ≡ starts_reported classes → none ≡ [] → texts first ≡ texts none ++ words_among classes starts → texts second ≡ texts first ++ words_among classes marks_reported →
    texts third ≡ texts second ++ (if may_end then codes "the end" ∷ [] else []) → texts third ≡ reported_words classes may_end
all_reported classes starts may_end none first second third start empty a b c =
    let end : List (List ℕ) = if may_end then codes "the end" ∷ [] else [] in
    let begun : texts first ≡ words_among classes (starts_reported classes) = a ∙ (ap (λ z. texts z ++ words_among classes starts) empty ∙ ap (words_among classes) start) in
    let marked : texts second ≡ words_among classes (starts_reported classes ++ marks_reported) = b ∙ (ap (λ z. z ++ words_among classes marks_reported) begun ∙ sym (among_both classes (starts_reported classes) marks_reported)) in
    c ∙ ap (λ z. z ++ end) marked
