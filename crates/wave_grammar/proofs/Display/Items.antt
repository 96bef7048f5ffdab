-- What texts with commas, in marks and after labels show, over what their parts show.
use Rattle.std.proofs.Common.{◌≡◌, ◌≢◌, ℕ, true, List, [], ◌∷◌, ◌++◌, inl, refl, sym, subst, append_assoc}
use Rattle.wave_wasm.specs.Commas.{joined, followed, in_parens}
use Rattle.wave_lex.specs.Regex.{is_one_of}
use Rattle.wave_grammar.specs.Token.{Token, TokenizesTo, paren_open, paren_close, comma, label}
use Rattle.wave_grammar.specs.CommaSeparated.{Spelling, FurtherItems, Items}
use Rattle.wave_grammar.specs.TypedGrammar.{InParens}
use Rattle.wave_grammar.specs.Tree.{NoParen}
use Rattle.wave_grammar.proofs.RoundTrip.Tokens.{Stops, stops}
use Rattle.wave_grammar.proofs.RoundTrip.Injective.{IsOneToken, paren_open_cut, paren_close_cut, comma_cut}
use Rattle.wave_grammar.proofs.RoundTrip.Items.{followed_stops, StopsFirst}

-- before the end or a mark that is no `(`, after which the tokens are known, the text has tokens that spell the item
abbrev pub Shows : {A : Type 0} → Spelling A → List ℕ → A → Type 0
Shows Item x a = (r : List ℕ) (rest : List Token) → Stops r → TokenizesTo r rest → NoParen rest → (tokens : List Token) × TokenizesTo (x ++ r) tokens × Item tokens a rest

-- each text shows the item of its place
abbrev pub AllShow : {A : Type 0} → Spelling A → List (List ℕ) → List A → Type 0
AllShow Item [] [] = Unit {0}
AllShow Item [] (a ∷ items) = ⊥
AllShow Item (x ∷ xs) [] = ⊥
AllShow Item (x ∷ xs) (a ∷ items) = Shows Item x a × AllShow Item xs items

-- a closing mark: its token, that it may follow a value, and that it is no `(`
pub record IsClosing (b : ℕ) (close : Token) : Type 0 where
  pub cut : (r : List ℕ) (rest : List Token) → TokenizesTo r rest → TokenizesTo (b ∷ r) (close ∷ rest)
  pub stops : is_one_of b stops ≡ true
  pub no_paren : close ≢ paren_open

first_token : (a b : Token) (more others : List Token) → a ∷ more ≡ b ∷ others → a ≡ b
first_token a b more others e = cc

-- the texts after a first, and the close
further_show : {A : Type 0} (close : Token) (b : ℕ) (Item : Spelling A) → IsClosing b close → (xs : List (List ℕ)) (items : List A) → AllShow Item xs items → (r : List ℕ) (rest : List Token) → TokenizesTo r rest
    → (tokens : List Token) × TokenizesTo (followed xs ++ b ∷ r) tokens × FurtherItems close Item tokens items rest × NoParen tokens
further_show close b Item closing [] [] h r rest cut = (close ∷ rest, closing.cut r rest cut, inl refl, λ more e. closing.no_paren (first_token close paren_open rest more e))
further_show close b Item closing (x ∷ xs) (a ∷ items) (p, h) r rest cut =
    let (behind, c, i, bare) = further_show close b Item closing xs items h r rest cut in
    let (tokens, d, j) = p (followed xs ++ b ∷ r) behind (followed_stops xs b r closing.stops) c bare in (
      comma ∷ tokens,
      subst (λ (z : List ℕ). TokenizesTo (44 ∷ 32 ∷ z) (comma ∷ tokens)) (sym (append_assoc x (followed xs) (b ∷ r))) (comma_cut (x ++ (followed xs ++ b ∷ r)) tokens d),
      (tokens, behind, refl, j, i),
      λ more e. cc,
    )
further_show close b Item closing _ _ h r rest cut = absurd h

-- the texts with commas between, and the close
items_show : {A : Type 0} (close : Token) (b : ℕ) (Item : Spelling A) → IsClosing b close → (xs : List (List ℕ)) (items : List A) → AllShow Item xs items → (r : List ℕ) (rest : List Token) → TokenizesTo r rest
    → (tokens : List Token) × TokenizesTo (joined xs ++ b ∷ r) tokens × Items close Item tokens items rest
items_show close b Item closing [] [] h r rest cut = (close ∷ rest, closing.cut r rest cut, refl)
items_show close b Item closing (x ∷ xs) (a ∷ items) (p, h) r rest cut =
    let (behind, c, i, bare) = further_show close b Item closing xs items h r rest cut in
    let (tokens, d, j) = p (followed xs ++ b ∷ r) behind (followed_stops xs b r closing.stops) c bare in (
      tokens,
      subst (λ (z : List ℕ). TokenizesTo z tokens) (sym (append_assoc x (followed xs) (b ∷ r))) d,
      (behind, j, i),
    )
items_show close b Item closing _ _ h r rest cut = absurd h

-- the same after the opening mark
pub listed_show : {A : Type 0} (open_mark close : Token) (a b : ℕ) (Item : Spelling A) → ((r : List ℕ) (rest : List Token) → TokenizesTo r rest → TokenizesTo (a ∷ r) (open_mark ∷ rest)) → IsClosing b close
    → (xs : List (List ℕ)) (items : List A) → AllShow Item xs items → (r : List ℕ) (rest : List Token) → TokenizesTo r rest
    → (tokens : List Token) × TokenizesTo ((a ∷ (joined xs ++ b ∷ [])) ++ r) (open_mark ∷ tokens) × Items close Item tokens items rest
listed_show open_mark close a b Item open_cut closing xs items h r rest cut =
    let (tokens, c, i) = items_show close b Item closing xs items h r rest cut in
    (tokens, subst (λ (z : List ℕ). TokenizesTo (a ∷ z) (open_mark ∷ tokens)) (sym (append_assoc (joined xs) (b ∷ []) r)) (open_cut (joined xs ++ b ∷ r) tokens c), i)

-- in parentheses, one; whatever follows
pub parens_show : {A : Type 0} (Item : Spelling A) (x : List ℕ) (a : A) → Shows Item x a → (r : List ℕ) (rest : List Token) → TokenizesTo r rest
    → (tokens : List Token) × TokenizesTo (in_parens x ++ r) tokens × InParens Item tokens a rest
parens_show Item x a p r rest cut =
    let (tokens, c, i) = p (41 ∷ r) (paren_close ∷ rest) refl (paren_close_cut r rest cut) (λ more e. cc) in (
      paren_open ∷ tokens,
      subst (λ (z : List ℕ). TokenizesTo (40 ∷ z) (paren_open ∷ tokens)) (sym (append_assoc x (41 ∷ []) r)) (paren_open_cut (x ++ 41 ∷ r) tokens c),
      (tokens, refl, i),
    )

-- a label and what is displayed after it
pub label_show : (text : List ℕ) → IsOneToken text (label text) → {A : Type 0} (Inner : Spelling A) (x : List ℕ) (a : A) → StopsFirst x → Shows Inner x a
    → (r : List ℕ) (rest : List Token) → Stops r → TokenizesTo r rest → NoParen rest → (behind : List Token) × TokenizesTo ((text ++ x) ++ r) (label text ∷ behind) × Inner behind a rest
label_show text one Inner x a first p r rest s cut bare =
    let (behind, c, i) = p r rest s cut bare in
    (behind, subst (λ (z : List ℕ). TokenizesTo z (label text ∷ behind)) (sym (append_assoc text x r)) (one (x ++ r) behind (first r s) c), i)
