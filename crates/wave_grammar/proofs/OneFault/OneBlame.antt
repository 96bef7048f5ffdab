-- What blames at most one refusal, at one span.
use Rattle.std.proofs.Common.{ℕ, ◌+◌, ◌≡◌, ◌⊎◌, inl, inr, List, length, sym, ap, subst, ◌∙◌}
use Rattle.std.specs.declared.ops.Range.{Range}
use Rattle.wave_wasm.specs.Types as type
use Rattle.wave_wasm.specs.Types.{TypeTree, Simple}
use Rattle.wave_lex.specs.Errors.{Refusal, with_detail, fault_detail}
use Rattle.wave_lex.specs.Strings.{IsInQuotes, IsBadEscapeAt}
use Rattle.wave_lex.specs.Multiline.{LineFault, MultilineFault, IsInThreeQuotes, fault_kind, fault_span}
use Rattle.wave_grammar.specs.Token.{Token}
use Rattle.wave_grammar.specs.Token as token
use Rattle.wave_grammar.specs.SpannedTree.{SpannedTree, PlacedEntry}
use Rattle.wave_grammar.specs.TypeErrors.{Blame, StringFault, LeafFault, MapKeyFault}
use Rattle.wave_grammar.specs.FaultOrder.{OrElse, LeftOut, FaultOfKey}
use Rattle.wave_grammar.specs.FaultLaws.{BlamesOne}
use Rattle.wave_grammar.proofs.OneFault.StringFaults.{one_bad_escape, one_line_fault, one_in_quotes, one_in_three_quotes}

-- this refusal at this span
pub one_said : {said : Refusal} {p : Range ℕ} → BlamesOne (λ k q. (k ≡ said) × (q ≡ p))
one_said k l q r h g = (h.0 ∙ sym g.0, h.1 ∙ sym g.1)

-- nothing
pub none_said : BlamesOne (λ k q. ⊥)
none_said k l q r h g = absurd h

-- what blames no more
pub one_within : {A B : Blame} → ((k : Refusal) (q : Range ℕ) → A k q → B k q) → BlamesOne B → BlamesOne A
one_within f b k l q r h g = b k l q r (f k q h) (f l r g)

-- where something holds beside
pub one_where : {P : Type 0} {A : Blame} → BlamesOne A → BlamesOne (λ k q. P × A k q)
one_where a = one_within (λ k q h. h.1) a

-- one of two where never both hold
pub one_of_two : {P Q : Type 0} {A B : Blame} → (P → Q → ⊥) → BlamesOne A → BlamesOne B → BlamesOne (λ k q. P × A k q ⊎ Q × B k q)
one_of_two apart a b k l q r (inl h) (inl g) = a k l q r h.1 g.1
one_of_two apart a b k l q r (inl h) (inr g) = absurd (apart h.0 g.0)
one_of_two apart a b k l q r (inr h) (inl g) = absurd (apart g.0 h.0)
one_of_two apart a b k l q r (inr h) (inr g) = b k l q r h.1 g.1

-- the first of two
pub one_or_else : {A B : Blame} → BlamesOne A → BlamesOne B → BlamesOne (OrElse A B)
one_or_else a b k l q r (inl h) (inl g) = a k l q r h g
one_or_else a b k l q r (inl h) (inr g) = absurd (g.0 k q h)
one_or_else a b k l q r (inr h) (inl g) = absurd (h.0 l r g)
one_or_else a b k l q r (inr h) (inr g) = b k l q r h.1 g.1

-- ---- leaves

-- what is wrong with a string
one_string_fault : (p : Range ℕ) (t : Token) → BlamesOne (StringFault type.string p t)
one_string_fault p t k l q r (inl (text, inside, i, is, quoted, bad, h)) (inl (other, within, j, same, again, worse, g)) =
    let one_text : text ≡ other = cc in
    let one_inside : inside ≡ within = one_in_quotes other inside within (subst (λ (x : List ℕ). IsInQuotes x inside) one_text quoted) again in
    let one_place : i ≡ j = one_bad_escape within i j (subst (λ (x : List ℕ). IsBadEscapeAt x i) one_inside bad) worse in
    (h.0 ∙ sym g.0, cc)
one_string_fault p t k l q r (inl h) (inr g) = absurd (cc)
one_string_fault p t k l q r (inr h) (inl g) = absurd (cc)
one_string_fault p t k l q r (inr (text, inside, f, is, quoted, bad, h)) (inr (other, within, e, same, again, worse, g)) =
    let one_text : text ≡ other = cc in
    let one_inside : inside ≡ within = one_in_three_quotes other inside within (subst (λ (x : List ℕ). IsInThreeQuotes x inside) one_text quoted) again in
    let one_line : f ≡ e = one_line_fault within f e (subst (λ (x : List ℕ). MultilineFault x f) one_inside bad) worse in (
      h.0 ∙ (ap (λ (x : LineFault). with_detail (fault_kind x) (fault_detail x)) one_line ∙ sym g.0),
      h.1 ∙ (ap (λ (x : List ℕ). fault_span (p.start + 3) (length x) f) one_inside ∙ (ap (λ (x : LineFault). fault_span (p.start + 3) (length within) x) one_line ∙ sym g.1)),
    )

-- what is wrong with the text of a leaf
one_text_fault : (S : Simple) (p : Range ℕ) (t : Token) → BlamesOne (StringFault S p t)
one_text_fault type.bool p t = none_said
one_text_fault (type.whole kind) p t = one_where one_said
one_text_fault type.char p t = one_where one_said
one_text_fault type.string p t = one_string_fault p t

-- what is wrong with a leaf
pub one_leaf_fault : (S : Simple) (p : Range ℕ) (t : Token) → BlamesOne (LeafFault S p t)
one_leaf_fault S p t = one_of_two (λ other form. other form) one_said (one_text_fault S p t)

-- what is wrong with a key
pub one_key_fault : (K : Simple) (p : Range ℕ) (t : Token) → BlamesOne (MapKeyFault K p t)
one_key_fault K p t = one_within (λ k q. elim [ inl h ↦ inl (h.0, h.2) | inr h ↦ inr h ]) (one_of_two (λ some none. some none) one_said (one_leaf_fault K p t))

-- ---- records

-- what is wrong with a field's label
pub one_label_fault : (earlier : List (List ℕ)) (p : Range ℕ) (t : Token) (v : SpannedTree) → BlamesOne (FaultOfKey earlier (record { place = p; key = t; value = v }))
one_label_fault earlier p (token.label text) v k l q r (inl h) g = absurd (cc)
one_label_fault earlier p (token.label text) v k l q r (inr h) (inl g) = absurd (cc)
one_label_fault earlier p (token.label text) v k l q r (inr (inl h)) (inr (inl g)) = one_said k l q r h.1 g.1
one_label_fault earlier p (token.label text) v k l q r (inr (inr h)) g = absurd h
one_label_fault earlier p (token.label text) v k l q r h (inr (inr g)) = absurd g
one_label_fault earlier p t v k l q r (inl h) (inl g) = one_said k l q r h.1 g.1
one_label_fault earlier p t v k l q r (inr h) g = absurd h
one_label_fault earlier p t v k l q r h (inr g) = absurd g

-- a field that is left out
pub one_left_out : (name : List ℕ) (T : TypeTree) (es : List PlacedEntry) (p : Range ℕ) → BlamesOne (LeftOut name T es p)
one_left_out name T es p = one_within (λ k q h. h.2) one_said
