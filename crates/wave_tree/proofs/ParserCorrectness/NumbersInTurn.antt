-- Numbers of a list or a tuple that are taken in turn.
use Rattle.std.proofs.Common.{◌≡◌, ◌≢◌, ◌⊎◌, ℕ, ◌+◌, ◌<◌, ◌≤◌, List, [], ◌∷◌, ◌++◌, map, append_assoc, append-nil, Some, Ok, refl, sym, ap, subst, ◌∙◌, inl, inr, arith}
use Rattle.wave_lex.specs.declared.lex.Token as lex
use Rattle.wave_lex.specs.declared.lex.Token.TheVariants.{Comma, Number}
use Rattle.wave_grammar.specs.Token.{Token}
use Rattle.wave_grammar.specs.ParserPosition.{Place, TakesItem, TakesTokens, text_at, token_of}
use Rattle.wave_grammar.specs.PrefixAutomaton.{Expectation, StackSymbol}
use Rattle.wave_grammar.specs.PrefixAutomaton as expectation
use Rattle.wave_grammar.specs.SyntaxErrors.{LeadsBehindValue}
use Rattle.wave_grammar.specs.NodeParts.{TakesPart}
use Rattle.wave_grammar.specs.NodeTree.{NodeTree}
use Rattle.wave_grammar.specs.declared.form.NodeType.{NodeType}
use Rattle.wave_grammar.specs.declared.form.NodeType.TheVariants as kind
use Rattle.wave_tree.specs.ParsedNodes.{IsParsed}
use Rattle.wave_tree.specs.Private.ParserState.{Stream, AsksFor}
use Rattle.wave_tree.specs.Private.TokenRoles.{form_of, IsClose}
use Rattle.wave_tree.specs.Private.ParsedNodes.{AreFurther, AreClosedItems, TakesNumber, number_node, AreNumbersInTurn, AreNumbersAdded}
use Rattle.wave_tree.proofs.NodeCorrectness.Items.{items_next}
use Rattle.wave_tree.proofs.ParserCorrectness.AloneTokens.{alone_parsed, alone_led}
use Rattle.wave_tree.proofs.ParserCorrectness.BuiltNodes.{source_item, source_reached}
use Rattle.wave_tree.proofs.ParserCorrectness.LexerCalls.{IsExpectedAt, asks_begun, asks_behind}
use Rattle.wave_tree.proofs.ParserCorrectness.Steps.{Reached, IsItemExpected, comma_behind, item_read, left_at, no_close, other_next, taken_count, token_less, token_there, then_behind, then_reached}

-- after an item that was read
pub behind_item : {n : ℕ} {d e : Expectation} {s : List StackSymbol} {p q w : Place} (close : lex.Token) → IsClose close → ((next : Place) × TakesItem q (Some (Ok close)) next → ⊥) → IsItemExpected e →
    Reached n d (form_of close ∷ s) p e (form_of close ∷ s) q → (h : LeadsBehindValue n expectation.value (form_of close ∷ s) q w (form_of close ∷ s)) → Reached n d (form_of close ∷ s) p h.expected_there (form_of close ∷ s) w
behind_item {e = e} {s = s} {q = q} close is_close none i r h = then_reached r (item_read e i (no_close close s q is_close none) h)

-- among the items of a list or a tuple, whose first place is this one, the first token of the next item was taken last; these parts were made of the items before it
abbrev pub IsInItems : {M : Type 0} → (List ℕ → List NodeTree → M → Type 0) → ℕ → lex.Token → lex.Token → Place → Place → M → Type 0
IsInItems Are levels close token first here parts = (at : Place) × TakesItem at (Some (Ok token)) here
    × ((next : Place) × TakesItem at (Some (Ok close)) next → ⊥)
    × IsExpectedAt levels close first at
    × (children : List NodeTree) × Are first.lexer.source children parts
    × ((item : NodeTree) (m r : Place) (more : List NodeTree) → IsParsed levels at m item → AreFurther levels close m more r → AreClosedItems levels close first (children ++ item ∷ more) r)

-- no number closes a list or a tuple
number_apart : (close : lex.Token) → IsClose close → Number ≢ close
number_apart close (inl e) q = let wrong = q ∙ e in cc
number_apart close (inr e) q = let wrong = q ∙ e in cc

module _ (levels : ℕ) (some : 0 < levels) (close : lex.Token) (is_close : IsClose close) (first : Place) where
  -- so it is after a number among the items
  number_in_items : (p q : Place) (children : List NodeTree) → IsInItems (λ s cs all. cs ≡ all) levels close Number first p children → TakesNumber p q → IsInItems (λ s cs all. cs ≡ all) levels close Number first q (children ++ number_node p ∷ [])
  number_in_items p q all (at, there, none, expected_at, children, are, go) (comma, comma_there, number_there) =
      let is : IsParsed levels at p (number_node p) = alone_parsed levels at p Number kind.Number some there refl in (
        comma,
        number_there,
        other_next close Number comma q (number_apart close is_close) number_there,
        λ n s e.
            let (d, i, r) = expected_at n s e in
            let item = alone_led n (form_of close ∷ s) at p Number kind.Number (omega arith) there refl in
            (expectation.next_item, inr refl, then_behind item.expected_there Comma (behind_item close is_close none i r item) item.is_behind comma_there (comma_behind close s (text_at comma) is_close)),
        children ++ number_node p ∷ [],
        ap (λ (z : List NodeTree). z ++ number_node p ∷ []) are,
        items_next levels close first at p comma comma children (children ++ number_node p ∷ []) (number_node p) go is comma_there refl refl,
      )

  -- and after numbers in turn
  numbers_in_items : (places : List Place) (p q : Place) (children : List NodeTree) → IsInItems (λ s cs all. cs ≡ all) levels close Number first p children → AreNumbersInTurn p places q
      → IsInItems (λ s cs all. cs ≡ all) levels close Number first q (children ++ map number_node places)
  numbers_in_items [] p q children h same =
      subst (λ z. IsInItems (λ s cs all. cs ≡ all) levels close Number first q z) (sym (append-nil children)) (subst (λ z. IsInItems (λ s cs all. cs ≡ all) levels close Number first z children) (sym same) h)
  numbers_in_items (one ∷ more) p q children h (is, next, takes, rest) =
      subst (λ z. IsInItems (λ s cs all. cs ≡ all) levels close Number first q (children ++ number_node z ∷ map number_node more)) (sym is)
      (subst (λ z. IsInItems (λ s cs all. cs ≡ all) levels close Number first q z) (append_assoc children (number_node p ∷ []) (map number_node more))
      (numbers_in_items more next q (children ++ number_node p ∷ []) (number_in_items p next children h takes) rest))

  -- a number that was taken among the items stands in the source
  source_here : {M : Type 0} (Are : List ℕ → List NodeTree → M → Type 0) (p : Place) (parts : M) → IsInItems Are levels close Number first p parts → p.lexer.source ≡ first.lexer.source
  source_here Are p parts (at, there, none, expected_at, children, are, go) = let (d, i, r) = expected_at (levels + 1) [] (omega arith) in source_item at p Number there ∙ source_reached r

  -- so parts to which numbers in turn were added are made of the items before the last of them
  pub still_in_items : {M : Type 0} (Are : List ℕ → NodeType → List NodeTree → M → Type 0) (ty : NodeType) → ((any : List NodeTree) → TakesPart ty any) → (token : lex.Token) (p q : Place) (a b : M) → IsInItems (λ s cs ps. Are s ty cs ps) levels close token first p a
      → AreNumbersAdded Are p a q b → (token ≡ Number) ⊎ ((q ≡ p) × (b ≡ a)) → IsInItems (λ s cs ps. Are s ty cs ps) levels close token first q b
  still_in_items Are ty takes token p q a b h added (inr (place, parts)) =
      subst (λ z. IsInItems (λ s cs ps. Are s ty cs ps) levels close token first z b) (sym place) (subst (λ z. IsInItems (λ s cs ps. Are s ty cs ps) levels close token first p z) (sym parts) h)
  still_in_items Are ty takes token p q a b h added (inl is) =
      let here = subst (λ z. IsInItems (λ s cs ps. Are s ty cs ps) levels close z first p a) is h in
      let (at, there, none, expected_at, children, are, go) = here in
      let all = numbers_in_items added.places p q children (at, there, none, expected_at, children, refl, go) added.turn in
      let (at', there', none', expected', children', same, go') = all in
      let then_are = added.added ty children takes (subst (λ (z : List ℕ). Are z ty children a) (sym (source_here (λ s cs ps. Are s ty cs ps) p a here)) are) in
      subst (λ z. IsInItems (λ s cs ps. Are s ty cs ps) levels close z first q b) (sym is) (
        at',
        there',
        none',
        expected',
        children',
        subst (λ (z : List NodeTree). Are first.lexer.source ty z b) (sym same) (subst (λ (z : List ℕ). Are z ty (children ++ map number_node added.places) b) (source_here (λ s cs ps. cs ≡ ps) q (children ++ map number_node added.places) all) then_are),
        go',
      )

-- what is left gets no more
pub numbers_less : (places : List Place) (p q : Place) → AreNumbersInTurn p places q → left_at q ≤ left_at p
numbers_less [] p q same = let e = ap left_at same in omega arith
numbers_less (one ∷ more) p q (is, next, (comma, comma_there, number_there), rest) =
    let fewer = numbers_less more next q rest in
    let this = token_less p comma Comma comma_there in
    let that = token_less comma next Number number_there in
    omega arith

-- and one more number in turn
pub numbers_more : (places : List Place) (p q r : Place) → AreNumbersInTurn p places q → TakesNumber q r → AreNumbersInTurn p (places ++ q ∷ []) r
numbers_more [] p q r same takes = (same, r, subst (λ z. TakesNumber z r) same takes, refl)
numbers_more (one ∷ more) p q r (is, next, takes, rest) last = (is, next, takes, numbers_more more next q r rest last)

-- what was asked after the first token of an item
pub asks_in_items : {M : Type 0} (Are : List ℕ → List NodeTree → M → Type 0) (levels : ℕ) (close token : lex.Token) (parts : M) (old this new : Stream) → IsInItems Are levels close token old.place this.place parts → AsksFor old this → AsksFor this new → AsksFor old new
asks_in_items Are levels close token parts old this new (at, there, none, expected_at, children, are, go) first then_more = asks_begun levels close token old this new at expected_at there first then_more

-- the tokens that were taken
numbers_tokens : (places : List Place) (p q : Place) → AreNumbersInTurn p places q → (ts : List Token) × TakesTokens p ts q
numbers_tokens [] p q same = ([], sym same)
numbers_tokens (one ∷ more) p q (is, next, (comma, comma_there, number_there), rest) =
    let (ts, taken) = numbers_tokens more next q rest in
    (token_of Comma (text_at comma) ∷ token_of Number (text_at next) ∷ ts, (comma, token_there p comma Comma comma_there, (next, token_there comma next Number number_there, taken)))

-- for one more two are asked for
pub one_asked : (places : List Place) (old here new : Stream) → AreNumbersInTurn old.place places here.place → AsksFor old here → TakesNumber here.place new.place → new.ahead ≡ 0 → AsksFor old new
one_asked places old here new turn asks (comma, comma_there, number_there) none =
    let (ts, taken) = numbers_tokens places old.place here.place turn in
    let two = token_of Comma (text_at comma) ∷ token_of Number (text_at new.place) ∷ [] in
    let both : TakesTokens here.place two new.place = (comma, token_there here.place comma Comma comma_there, (new.place, token_there comma new.place Number number_there, refl)) in
    asks_behind old here new ts taken asks (λ n h. let fits = h two new.place both in let count = taken_count here.place new.place two both in omega arith)
