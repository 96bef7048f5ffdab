-- A spelling is a prefix of the tokens, and stands before any other rest as well.
use Rattle.std.proofs.Common.{ℕ, ◌-◌, ◌≡◌, inl, inr, List, [], ◌∷◌, ◌++◌, refl, sym, ap, ◌∙◌, subst, append_assoc}
use Rattle.wave_grammar.specs.Token.{Token, brace_open, brace_close, paren_open, paren_close, bracket_open, bracket_close, colon, comma, label}
use Rattle.wave_wasm.specs.Types as type
use Rattle.wave_wasm.specs.Types.{TypeTree, MaybeType, Types, Fields, Cases, Simple, no_type, a_type, no_types, type_and, no_fields, field, no_cases, case_of}
use Rattle.wave_wasm.specs.Values.{Value, MaybeValue}
use Rattle.wave_grammar.specs.CommaSeparated.{Spelling, Closes, FurtherItems, Items, Listed}
use Rattle.wave_grammar.specs.TypedGrammar.{Behind, InParens, Named, Keyed, Name, CaseName, EmptyBraces, ASimple, AList, AFixedList, ATuple, ARecord, Flags, AMap, AVariant, AnEnum, AnOption, AResult, Stands, Bare, Payload, First, Then, End, Provided, Either, Never, Reads, ReadsPayload, ReadsFlat, ReadsTuple, ReadsFurther, ReadsField, ReadsCase}

-- the tokens that it takes, and that it takes them before any rest
abbrev pub Prefixes : {A : Type 0} → Spelling A → List Token → A → List Token → Type 0
Prefixes P tokens a rest = (prefix : List Token) × (tokens ≡ prefix ++ rest) × ((x : List Token) → P (prefix ++ x) a x)

-- each reading takes a prefix
abbrev pub Framed : {A : Type 0} → Spelling A → Type 0
Framed {A} P = (tokens : List Token) (a : A) (rest : List Token) → P tokens a rest → Prefixes P tokens a rest

-- two spellings in a row
in_row : {A B : Type 0} (P : Spelling A) (Q : Spelling B) (tokens middle rest : List Token) (a : A) (b : B) → Prefixes P tokens a middle → Prefixes Q middle b rest →
    (prefix : List Token) × (tokens ≡ prefix ++ rest) × ((x : List Token) → (y : List Token) × P (prefix ++ x) a y × Q y b x)
in_row P Q tokens middle rest a b (f, e, p) (g, k, q) =
    (f ++ g, e ∙ ap (λ x. f ++ x) k ∙ sym (append_assoc f g rest), λ x. (g ++ x, subst (λ y. P y a (g ++ x)) (sym (append_assoc f g x)) (p (g ++ x)), q x))

-- a close
closes-framed : (close : Token) (tokens rest : List Token) → Closes close tokens rest → (prefix : List Token) × (tokens ≡ prefix ++ rest) × ((x : List Token) → Closes close (prefix ++ x) x)
closes-framed close tokens rest (inl e) = (close ∷ [], e, λ x. inl refl)
closes-framed close tokens rest (inr e) = (comma ∷ close ∷ [], e, λ x. inr refl)

-- further items
further-framed : {A : Type 0} (close : Token) (P : Spelling A) → Framed P → Framed (FurtherItems close P)
further-framed close P framed tokens [] rest h = closes-framed close tokens rest h
further-framed close P framed tokens (a ∷ more) rest (prefix, behind, e, p, h) =
    let (f, k, q) = in_row P (FurtherItems close P) prefix behind rest a more (framed prefix a behind p) (further-framed close P framed behind more rest h) in
    (comma ∷ f, e ∙ ap (λ x. comma ∷ x) k, λ x. let (y, one, all) = q x in (f ++ x, y, refl, one, all))

-- items and their close
items-framed : {A : Type 0} (close : Token) (P : Spelling A) → Framed P → Framed (Items close P)
items-framed close P framed tokens [] rest h = (close ∷ [], h, λ x. refl)
items-framed close P framed tokens (a ∷ more) rest (behind, p, h) =
    let (f, k, q) = in_row P (FurtherItems close P) tokens behind rest a more (framed tokens a behind p) (further-framed close P framed behind more rest h) in
    (f, k, λ x. let (y, one, all) = q x in (y, one, all))

-- items between two marks
listed-framed : {A : Type 0} (open_mark close : Token) (P : Spelling A) → Framed P → Framed (Listed open_mark close P)
listed-framed open_mark close P framed tokens items rest (inside, e, h) =
    let (f, k, q) = items-framed close P framed inside items rest h in (open_mark ∷ f, e ∙ ap (λ x. open_mark ∷ x) k, λ x. (f ++ x, refl, q x))

-- a row under a premise
provided-framed : {A : Type 0} (H : Type 0) (P : Spelling A) → Framed P → Framed (Provided H P)
provided-framed H P framed tokens a rest (h, p) = let (f, k, q) = framed tokens a rest p in (f, k, λ x. (h, q x))

-- one row or the other
either-framed : {A : Type 0} (P Q : Spelling A) → Framed P → Framed Q → Framed (Either P Q)
either-framed P Q one two tokens a rest (inl p) = let (f, k, q) = one tokens a rest p in (f, k, λ x. inl (q x))
either-framed P Q one two tokens a rest (inr p) = let (f, k, q) = two tokens a rest p in (f, k, λ x. inr (q x))

-- no spelling
never-framed : {A : Type 0} → Framed {A = A} Never
never-framed tokens a rest h = absurd h

-- a value that stands for one that wraps it
stands-framed : (wrap : Value → Value) (P : Spelling Value) → Framed P → Framed (Stands wrap P)
stands-framed wrap P framed tokens v rest (w, p, e) = let (f, k, q) = framed tokens w rest p in (f, k, λ x. (w, q x, e))

-- what stands in parentheses
parens-framed : {A : Type 0} (P : Spelling A) → Framed P → Framed (InParens P)
parens-framed P framed tokens a rest (prefix, e, p) =
    let (f, k, q) = framed prefix a (paren_close ∷ rest) p in (
      paren_open ∷ (f ++ (paren_close ∷ [])),
      e ∙ ap (λ x. paren_open ∷ x) (k ∙ sym (append_assoc f (paren_close ∷ []) rest)),
      λ x. ((f ++ (paren_close ∷ [])) ++ x, refl, subst (λ y. P y a (paren_close ∷ x)) (sym (append_assoc f (paren_close ∷ []) x)) (q (paren_close ∷ x))),
    )

-- what stands after a word
behind-framed : {A : Type 0} (word : List ℕ) (P : Spelling A) → Framed P → Framed (Behind word P)
behind-framed word P framed tokens a rest (behind, e, p) =
    let (f, k, q) = framed behind a rest p in (label word ∷ f, e ∙ ap (λ x. label word ∷ x) k, λ x. (f ++ x, refl, q x))

-- no payload
bare-framed : Framed Bare
bare-framed tokens payload rest (e, f) = ([], e, λ x. (refl, f))

-- a payload
payload-framed : (P : Spelling Value) → Framed P → Framed (Payload P)
payload-framed P framed tokens payload rest (w, p, e) = let (f, k, q) = parens-framed P framed tokens w rest p in (f, k, λ x. (w, q x, e))

-- a value of one token
simple-framed : (S : Simple) → Framed (ASimple S)
simple-framed S tokens v rest (token, one, e, s, f) = (token ∷ [], e, λ x. (token, one, refl, s, f))

-- a list
list-framed : (P : Spelling Value) → Framed P → Framed (AList P)
list-framed P framed tokens v rest (items, h, e) = let (f, k, q) = listed-framed bracket_open bracket_close P framed tokens items rest h in (f, k, λ x. (items, q x, e))

-- a fixed-length list
fixed-framed : (count : ℕ) (P : Spelling Value) → Framed P → Framed (AFixedList count P)
fixed-framed count P framed tokens v rest (items, h, long, e) = let (f, k, q) = listed-framed bracket_open bracket_close P framed tokens items rest h in (f, k, λ x. (items, q x, long, e))

-- a tuple
tuple-framed : (P : Spelling (List Value)) → Framed P → Framed (ATuple P)
tuple-framed P framed tokens v rest (items, prefix, e, h, g) =
    let (f, k, q) = framed prefix items rest h in (paren_open ∷ f, e ∙ ap (λ x. paren_open ∷ x) k, λ x. (items, f ++ x, refl, q x, g))

-- the first value of a tuple and those after it
first-framed : (P : Spelling Value) (F : Spelling (List Value)) → Framed P → Framed F → Framed (First P F)
first-framed P F one all tokens items rest (w, others, behind, p, h, e) =
    let (f, k, q) = in_row P F tokens behind rest w others (one tokens w behind p) (all behind others rest h) in
    (f, k, λ x. let (y, i, j) = q x in (w, others, y, i, j, e))

-- a further value of a tuple and those after it
then-framed : (P : Spelling Value) (F : Spelling (List Value)) → Framed P → Framed F → Framed (Then P F)
then-framed P F one all tokens items rest (prefix, e, h) =
    let (f, k, q) = first-framed P F one all prefix items rest h in (comma ∷ f, e ∙ ap (λ x. comma ∷ x) k, λ x. (f ++ x, refl, q x))

-- the end of a tuple
end-framed : Framed End
end-framed tokens items rest (h, e) = let (f, k, q) = closes-framed paren_close tokens rest h in (f, k, λ x. (q x, e))

-- a name and what it is for
named-framed : {A : Type 0} (P : List ℕ → Spelling A) → ((name : List ℕ) → Framed (P name)) → Framed (Named P)
named-framed P framed tokens a rest (text, prefix, e, n, p) =
    let (f, k, q) = framed a.0 prefix a.1 rest p in (label text ∷ colon ∷ f, e ∙ ap (λ x. label text ∷ colon ∷ x) k, λ x. (text, f ++ x, refl, n, q x))

-- a key and its value
keyed-framed : {A : Type 0} (K : Simple) (P : Spelling A) → Framed P → Framed (Keyed K P)
keyed-framed K P framed tokens a rest (token, prefix, e, n, p) =
    let (f, k, q) = framed prefix a.1 rest p in (token ∷ colon ∷ f, e ∙ ap (λ x. token ∷ colon ∷ x) k, λ x. (token, f ++ x, refl, n, q x))

-- a label
name-framed : Framed Name
name-framed tokens a rest (text, e, n) = (label text ∷ [], e, λ x. (text, refl, n))

-- a name of a case
case_name-framed : Framed CaseName
case_name-framed tokens a rest (text, e, n, h) = (label text ∷ [], e, λ x. (text, refl, n, h))

-- a case of an enum
enum-framed : (names : List (List ℕ)) → Framed (AnEnum names)
enum-framed names tokens v rest (name, h, one, e) = let (f, k, q) = case_name-framed tokens name rest h in (f, k, λ x. (name, q x, one, e))

-- a case of a variant and its payload
variant-framed : (P : List ℕ → Spelling MaybeValue) → ((name : List ℕ) → Framed (P name)) → Framed (AVariant P)
variant-framed P framed tokens v rest (name, payload, behind, h, p, e) =
    let (f, k, q) = in_row CaseName (P name) tokens behind rest name payload (case_name-framed tokens name behind h) (framed name behind payload rest p) in
    (f, k, λ x. let (y, i, j) = q x in (name, payload, y, i, j, e))

-- `{:}`
braces-framed : {A : Type 0} → Framed (EmptyBraces {A = A})
braces-framed tokens items rest (e, f) = (brace_open ∷ colon ∷ brace_close ∷ [], e, λ x. (refl, f))

-- a record
record-framed : (fs : Fields) (P : List ℕ → Spelling Value) → ((name : List ℕ) → Framed (P name)) → Framed (ARecord fs P)
record-framed fs P framed tokens v rest (found, all, inl h, d, fills, e) = let (f, k, q) = braces-framed tokens found rest h in (f, k, λ x. (found, all, inl (q x), d, fills, e))
record-framed fs P framed tokens v rest (found, all, inr (h, some), d, fills, e) =
    let (f, k, q) = listed-framed brace_open brace_close (Named P) (named-framed P framed) tokens found rest h in (f, k, λ x. (found, all, inr (q x, some), d, fills, e))

-- flags
flags-framed : (names : List (List ℕ)) → Framed (Flags names)
flags-framed names tokens v rest (found, h, d, all, e) =
    let (f, k, q) = listed-framed brace_open brace_close Name name-framed tokens found rest h in (f, k, λ x. (found, q x, d, all, e))

-- a map
map-framed : (K : Simple) (P : Spelling Value) → Framed P → Framed (AMap K P)
map-framed K P framed tokens v rest (pairs, inl h, e) = let (f, k, q) = braces-framed tokens pairs rest h in (f, k, λ x. (pairs, inl (q x), e))
map-framed K P framed tokens v rest (pairs, inr h, e) =
    let (f, k, q) = listed-framed brace_open brace_close (Keyed K P) (keyed-framed K P framed) tokens pairs rest h in (f, k, λ x. (pairs, inr (q x), e))

-- an option
option-framed : (P : Spelling Value) → Framed P → Framed (AnOption P)
option-framed P framed tokens v rest (inl (e, f)) = (_ ∷ [], e, λ x. inl (refl, f))
option-framed P framed tokens v rest (inr (w, h, e)) = let (f, k, q) = behind-framed _ (InParens P) (parens-framed P framed) tokens w rest h in (f, k, λ x. inr (w, q x, e))

-- a result
result-framed : (P Q : Spelling MaybeValue) → Framed P → Framed Q → Framed (AResult P Q)
result-framed P Q one two tokens v rest (inl (payload, h, e)) = let (f, k, q) = behind-framed _ P one tokens payload rest h in (f, k, λ x. inl (payload, q x, e))
result-framed P Q one two tokens v rest (inr (payload, h, e)) = let (f, k, q) = behind-framed _ Q two tokens payload rest h in (f, k, λ x. inr (payload, q x, e))

mutual
  -- each reading of a type takes a prefix
  pub framed : (T : TypeTree) (n : ℕ) → Framed (Reads T n)
  framed (type.simple S) n = provided-framed _ _ (simple-framed S)
  framed (type.unreadable kind) n = never-framed
  framed (type.list E) n = provided-framed _ _ (list-framed _ (framed E (n - 1)))
  framed (type.fixed E count) n = provided-framed _ _ (fixed-framed count _ (framed E (n - 1)))
  framed (type.record_type fs) n = provided-framed _ _ (record-framed fs _ (λ name. framed-field fs (n - 1) name))
  framed (type.tuple types) n = provided-framed _ _ (tuple-framed _ (framed-tuple types (n - 1)))
  framed (type.variant cases) n = provided-framed _ _ (variant-framed _ (λ name. framed-case cases (n - 1) name))
  framed (type.enum names) n = provided-framed _ _ (enum-framed names)
  framed (type.option P) n = either-framed _ _ (provided-framed _ _ (option-framed _ (framed P (n - 1)))) (stands-framed _ _ (provided-framed _ _ (framed P n)))
  framed (type.result A B) n = either-framed _ _ (provided-framed _ _ (result-framed _ _ (framed-payload A (n - 1)) (framed-payload B (n - 1)))) (stands-framed _ _ (framed-flat A n))
  framed (type.flags names) n = provided-framed _ _ (flags-framed names)
  framed (type.map K V) n = provided-framed _ _ (map-framed K _ (framed V (n - 1)))

  -- of a payload
  pub framed-payload : (A : MaybeType) (n : ℕ) → Framed (ReadsPayload A n)
  framed-payload no_type n = bare-framed
  framed-payload (a_type T) n = payload-framed _ (framed T n)

  -- of a value that stands for `ok` of itself
  pub framed-flat : (A : MaybeType) (n : ℕ) → Framed (ReadsFlat A n)
  framed-flat no_type n = never-framed
  framed-flat (a_type T) n = provided-framed _ _ (framed T n)

  -- of the values of a tuple
  pub framed-tuple : (types : Types) (n : ℕ) → Framed (ReadsTuple types n)
  framed-tuple no_types n = never-framed
  framed-tuple (type_and T more) n = first-framed _ _ (framed T n) (framed-further more n)

  -- of the further values of a tuple
  pub framed-further : (types : Types) (n : ℕ) → Framed (ReadsFurther types n)
  framed-further no_types n = end-framed
  framed-further (type_and T more) n = then-framed _ _ (framed T n) (framed-further more n)

  -- of a field
  pub framed-field : (fs : Fields) (n : ℕ) (name : List ℕ) → Framed (ReadsField fs n name)
  framed-field no_fields n name = never-framed
  framed-field (field other T more) n name = either-framed _ _ (provided-framed _ _ (framed T n)) (framed-field more n name)

  -- of the payload of a case
  pub framed-case : (cs : Cases) (n : ℕ) (name : List ℕ) → Framed (ReadsCase cs n name)
  framed-case no_cases n name = never-framed
  framed-case (case_of other T more) n name = either-framed _ _ (provided-framed _ _ (framed-payload T n)) (framed-case more n name)
