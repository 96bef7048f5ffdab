-- What the rows of the grammar print, over what their parts print.
use Rattle.std.proofs.Common.{◌≡◌, ℕ, true, List, [], ◌∷◌, ◌++◌, inl, refl, sym, subst, ◌∙◌, append_assoc}
use Rattle.wave_wasm.specs.Types.{Types, Simple, no_types, type_and}
use Rattle.wave_wasm.specs.Values.{Value, MaybeValue, Leaf, no_value, a_value}
use Rattle.wave_wasm.specs.Keywords.{case_label}
use Rattle.wave_wasm.specs.Commas.{joined, followed, behind_name, in_parens, in_brackets, in_braces}
use Rattle.wave_wasm.specs.Text.{printed, printed_payload, leaf_text}
use Rattle.wave_lex.specs.Regex.{is_one_of}
use Rattle.wave_lex.specs.Labels.{IsLabel}
use Rattle.wave_grammar.specs.Token.{Token, TokenizesTo, brace_open, brace_close, paren_open, paren_close, bracket_open, bracket_close, colon, comma, label}
use Rattle.wave_grammar.specs.CommaSeparated.{Spelling, FurtherItems, Items, Listed}
use Rattle.wave_grammar.specs.TypedGrammar.{Behind, InParens, Named, Keyed, Name, CaseName, Payload, Bare}
use Rattle.wave_grammar.proofs.RoundTrip.Tokenizes.{Writes, WritesTuple, WritesFurther}
use Rattle.wave_grammar.proofs.RoundTrip.Tokens.{Stops, stops}
use Rattle.wave_grammar.proofs.RoundTrip.Injective.{Prints, IsOneToken, brace_open_cut, brace_close_cut, paren_open_cut, paren_close_cut, bracket_open_cut, bracket_close_cut, colon_cut, comma_cut}
use Rattle.wave_grammar.proofs.RoundTrip.Leaves.{IsWritten}
use Rattle.wave_grammar.proofs.RoundTrip.Names.{case_token, label_token, label_name}

-- ---- items

-- each text prints the item of its place
abbrev pub AllPrint : {A : Type 0} → Spelling A → List (List ℕ) → List A → Type 0
AllPrint Item [] [] = Unit {0}
AllPrint Item [] (a ∷ items) = ⊥
AllPrint Item (x ∷ xs) [] = ⊥
AllPrint Item (x ∷ xs) (a ∷ items) = Prints Item x a × AllPrint Item xs items

-- what prints at one spelling prints at another that takes what it takes
pub all_print : {A : Type 0} (P Q : Spelling A) → ((tokens : List Token) (a : A) (rest : List Token) → P tokens a rest → Q tokens a rest) → (xs : List (List ℕ)) (items : List A) → AllPrint P xs items → AllPrint Q xs items
all_print P Q takes [] [] h = tt
all_print P Q takes (x ∷ xs) (a ∷ items) (p, h) =
    ((λ r rest s cut. let (tokens, c, i) = p r rest s cut in (tokens, c, takes tokens a rest i)), all_print P Q takes xs items h)
all_print P Q takes _ _ h = absurd h

-- after an item a comma or the close stands
pub followed_stops : (xs : List (List ℕ)) (b : ℕ) (r : List ℕ) → is_one_of b stops ≡ true → Stops (followed xs ++ b ∷ r)
followed_stops [] b r e = e
followed_stops (x ∷ xs) b r e = refl

-- a closing mark's token
abbrev IsCut : ℕ → Token → Type 0
IsCut b token = (r : List ℕ) (rest : List Token) → TokenizesTo r rest → TokenizesTo (b ∷ r) (token ∷ rest)

-- the texts after a first, and the close
further_print : {A : Type 0} (close : Token) (b : ℕ) (Item : Spelling A) → IsCut b close → is_one_of b stops ≡ true → (xs : List (List ℕ)) (items : List A) → AllPrint Item xs items
    → (r : List ℕ) (rest : List Token) → TokenizesTo r rest → (tokens : List Token) × TokenizesTo (followed xs ++ b ∷ r) tokens × FurtherItems close Item tokens items rest
further_print close b Item close_cut stop [] [] h r rest cut = (close ∷ rest, close_cut r rest cut, inl refl)
further_print close b Item close_cut stop (x ∷ xs) (a ∷ items) (p, h) r rest cut =
    let (behind, c, i) = further_print close b Item close_cut stop xs items h r rest cut in
    let (tokens, d, j) = p (followed xs ++ b ∷ r) behind (followed_stops xs b r stop) c in (
      comma ∷ tokens,
      subst (λ (z : List ℕ). TokenizesTo (44 ∷ 32 ∷ z) (comma ∷ tokens)) (sym (append_assoc x (followed xs) (b ∷ r))) (comma_cut (x ++ (followed xs ++ b ∷ r)) tokens d),
      (tokens, behind, refl, j, i),
    )
further_print close b Item close_cut stop _ _ h r rest cut = absurd h

-- the texts with commas between, and the close
items_print : {A : Type 0} (close : Token) (b : ℕ) (Item : Spelling A) → IsCut b close → is_one_of b stops ≡ true → (xs : List (List ℕ)) (items : List A) → AllPrint Item xs items
    → (r : List ℕ) (rest : List Token) → TokenizesTo r rest → (tokens : List Token) × TokenizesTo (joined xs ++ b ∷ r) tokens × Items close Item tokens items rest
items_print close b Item close_cut stop [] [] h r rest cut = (close ∷ rest, close_cut r rest cut, refl)
items_print close b Item close_cut stop (x ∷ xs) (a ∷ items) (p, h) r rest cut =
    let (behind, c, i) = further_print close b Item close_cut stop xs items h r rest cut in
    let (tokens, d, j) = p (followed xs ++ b ∷ r) behind (followed_stops xs b r stop) c in (
      tokens,
      subst (λ (z : List ℕ). TokenizesTo z tokens) (sym (append_assoc x (followed xs) (b ∷ r))) d,
      (behind, j, i),
    )
items_print close b Item close_cut stop _ _ h r rest cut = absurd h

-- the same after the opening mark
listed_print : {A : Type 0} (open_mark close : Token) (a b : ℕ) (Item : Spelling A) → IsCut a open_mark → IsCut b close → is_one_of b stops ≡ true → (xs : List (List ℕ)) (items : List A) → AllPrint Item xs items
    → Prints (Listed open_mark close Item) (a ∷ (joined xs ++ b ∷ [])) items
listed_print open_mark close a b Item open_cut close_cut stop xs items h r rest s cut =
    let (tokens, c, i) = items_print close b Item close_cut stop xs items h r rest cut in (
      open_mark ∷ tokens,
      subst (λ (z : List ℕ). TokenizesTo (a ∷ z) (open_mark ∷ tokens)) (sym (append_assoc (joined xs) (b ∷ []) r)) (open_cut (joined xs ++ b ∷ r) tokens c),
      (tokens, refl, i),
    )

-- in brackets
pub brackets_print : {A : Type 0} (Item : Spelling A) (xs : List (List ℕ)) (items : List A) → AllPrint Item xs items → Prints (Listed bracket_open bracket_close Item) (in_brackets (joined xs)) items
brackets_print Item xs items h = listed_print bracket_open bracket_close 91 93 Item bracket_open_cut bracket_close_cut refl xs items h

-- in braces
pub braces_print : {A : Type 0} (Item : Spelling A) (xs : List (List ℕ)) (items : List A) → AllPrint Item xs items → Prints (Listed brace_open brace_close Item) (in_braces (joined xs)) items
braces_print Item xs items h = listed_print brace_open brace_close 123 125 Item brace_open_cut brace_close_cut refl xs items h

-- in parentheses, one
pub parens_print : {A : Type 0} (Item : Spelling A) (x : List ℕ) (a : A) → Prints Item x a → Prints (InParens Item) (in_parens x) a
parens_print Item x a p r rest s cut =
    let (tokens, c, i) = p (41 ∷ r) (paren_close ∷ rest) refl (paren_close_cut r rest cut) in (
      paren_open ∷ tokens,
      subst (λ (z : List ℕ). TokenizesTo (40 ∷ z) (paren_open ∷ tokens)) (sym (append_assoc x (41 ∷ []) r)) (paren_open_cut (x ++ 41 ∷ r) tokens c),
      (tokens, refl, i),
    )

-- ---- payloads, after a word or a case's name

-- what follows a label: nothing more, or a mark
abbrev pub StopsFirst : List ℕ → Type 0
StopsFirst x = (r : List ℕ) → Stops r → Stops (x ++ r)

-- a label and what prints after it
label_print : (text : List ℕ) → IsOneToken text (label text) → {A : Type 0} (Inner : Spelling A) (x : List ℕ) (a : A) → StopsFirst x → Prints Inner x a
    → (r : List ℕ) (rest : List Token) → Stops r → TokenizesTo r rest → (behind : List Token) × TokenizesTo ((text ++ x) ++ r) (label text ∷ behind) × Inner behind a rest
label_print text one Inner x a first p r rest s cut =
    let (behind, c, i) = p r rest s cut in
    (behind, subst (λ (z : List ℕ). TokenizesTo z (label text ∷ behind)) (sym (append_assoc text x r)) (one (x ++ r) behind (first r s) c), i)

-- after a word
pub word_print : (word : List ℕ) → IsOneToken word (label word) → {A : Type 0} (Inner : Spelling A) (x : List ℕ) (a : A) → StopsFirst x → Prints Inner x a → Prints (Behind word Inner) (word ++ x) a
word_print word one Inner x a first p r rest s cut = let (behind, c, i) = label_print word one Inner x a first p r rest s cut in (label word ∷ behind, c, (behind, refl, i))

-- nothing, or `(`
pub payload_first : (payload : MaybeValue) → StopsFirst (printed_payload payload)
payload_first no_value r s = s
payload_first (a_value v) r s = refl

-- no payload
pub bare_print : Prints Bare [] no_value
bare_print r rest s cut = (rest, cut, (refl, refl))

-- a payload in parentheses
pub payload_print : (Inner : Spelling Value) (w : Value) → Prints Inner (printed w) w → Prints (Payload Inner) (printed_payload (a_value w)) (a_value w)
payload_print Inner w p r rest s cut = let (tokens, c, i) = parens_print Inner (printed w) w p r rest s cut in (tokens, c, (w, i, refl))

-- a case's name and what prints after it
pub case_print : (name : List ℕ) → IsLabel name → {A : Type 0} (Inner : Spelling A) (x : List ℕ) (a : A) → StopsFirst x → Prints Inner x a
    → (r : List ℕ) (rest : List Token) → Stops r → TokenizesTo r rest → (tokens : List Token) × (behind : List Token) × TokenizesTo ((case_label name ++ x) ++ r) tokens × CaseName tokens name behind × Inner behind a rest
case_print name h Inner x a first p r rest s cut =
    let (one, is, none) = case_token name h in
    let (behind, c, i) = label_print (case_label name) one Inner x a first p r rest s cut in
    (label (case_label name) ∷ behind, behind, c, (case_label name, refl, is, none), i)

-- ---- entries

-- a label, a colon and what prints after it
pub named_print : {A : Type 0} (Inner : List ℕ → Spelling A) (name x : List ℕ) (a : A) → IsLabel name → Prints (Inner name) x a → Prints (Named Inner) (behind_name name x) (name, a)
named_print Inner name x a h p r rest s cut =
    let (tokens, c, i) = p r rest s cut in (
      label name ∷ colon ∷ tokens,
      subst (λ (z : List ℕ). TokenizesTo z (label name ∷ colon ∷ tokens)) (sym (append_assoc name (58 ∷ 32 ∷ x) r)) (label_token name h (58 ∷ 32 ∷ (x ++ r)) (colon ∷ tokens) refl (colon_cut (x ++ r) tokens c)),
      (name, tokens, refl, label_name name h, i),
    )

-- a key, a colon and what prints after it
pub keyed_print : {A : Type 0} (K : Simple) (Inner : Spelling A) (key : Leaf) (x : List ℕ) (a : A) → IsWritten K key → Prints Inner x a → Prints (Keyed K Inner) (behind_name (leaf_text key) x) (key, a)
keyed_print K Inner key x a (token, spells, one) p r rest s cut =
    let (tokens, c, i) = p r rest s cut in (
      token ∷ colon ∷ tokens,
      subst (λ (z : List ℕ). TokenizesTo z (token ∷ colon ∷ tokens)) (sym (append_assoc (leaf_text key) (58 ∷ 32 ∷ x) r)) (one (58 ∷ 32 ∷ (x ++ r)) (colon ∷ tokens) refl (colon_cut (x ++ r) tokens c)),
      (token, tokens, refl, spells, i),
    )

-- a label alone
pub name_print : (name : List ℕ) → IsLabel name → Prints Name name name
name_print name h r rest s cut = (label name ∷ rest, label_token name h r rest s cut, (name, refl, label_name name h))

-- ---- tuples

-- each text prints the value of its place at the type of its place
abbrev pub TuplePrints : Types → ℕ → List (List ℕ) → List Value → Type 0
TuplePrints no_types n [] [] = Unit {0}
TuplePrints (type_and T more) n (x ∷ xs) (v ∷ vs) = Prints (Writes T n) x v × TuplePrints more n xs vs
TuplePrints types n xs vs = ⊥

tuple_further : (types : Types) (n : ℕ) (xs : List (List ℕ)) (vs : List Value) → TuplePrints types n xs vs → (r : List ℕ) (rest : List Token) → TokenizesTo r rest
    → (tokens : List Token) × TokenizesTo (followed xs ++ 41 ∷ r) tokens × WritesFurther types n tokens vs rest
tuple_further no_types n [] [] h r rest cut = (paren_close ∷ rest, paren_close_cut r rest cut, (inl refl, refl))
tuple_further (type_and T more) n (x ∷ xs) (v ∷ vs) (p, h) r rest cut =
    let (behind, c, i) = tuple_further more n xs vs h r rest cut in
    let (tokens, d, j) = p (followed xs ++ 41 ∷ r) behind (followed_stops xs 41 r refl) c in (
      comma ∷ tokens,
      subst (λ (z : List ℕ). TokenizesTo (44 ∷ 32 ∷ z) (comma ∷ tokens)) (sym (append_assoc x (followed xs) (41 ∷ r))) (comma_cut (x ++ (followed xs ++ 41 ∷ r)) tokens d),
      (tokens, refl, (v, vs, behind, j, i, refl)),
    )
tuple_further _ n _ _ h r rest cut = absurd h

-- the values of a tuple in parentheses
pub tuple_print : (Ts : Types) (n : ℕ) (xs : List (List ℕ)) (vs : List Value) → TuplePrints Ts n xs vs → (r : List ℕ) (rest : List Token) → TokenizesTo r rest
    → (prefix : List Token) × TokenizesTo (in_parens (joined xs) ++ r) (paren_open ∷ prefix) × WritesTuple Ts n prefix vs rest
tuple_print no_types n [] [] h r rest cut = (paren_close ∷ rest, paren_open_cut (41 ∷ r) (paren_close ∷ rest) (paren_close_cut r rest cut), (refl, refl))
tuple_print (type_and T more) n (x ∷ xs) (v ∷ vs) (p, h) r rest cut =
    let (behind, c, i) = tuple_further more n xs vs h r rest cut in
    let (tokens, d, j) = p (followed xs ++ 41 ∷ r) behind (followed_stops xs 41 r refl) c in (
      tokens,
      subst (λ (z : List ℕ). TokenizesTo (40 ∷ z) (paren_open ∷ tokens)) (sym (append_assoc (x ++ followed xs) (41 ∷ []) r ∙ append_assoc x (followed xs) (41 ∷ r))) (paren_open_cut (x ++ (followed xs ++ 41 ∷ r)) tokens d),
      (v, vs, behind, j, i, refl),
    )
tuple_print _ n _ _ h r rest cut = absurd h
