-- What tells faults, put together of what tells those of the parts.
use Rattle.std.proofs.Common.{ℕ, ◌≡◌, ◌⊎◌, inl, inr, ◌++◌, List, [], ◌∷◌, Option, Some, None, sym, subst}
use Rattle.std.specs.declared.ops.Range.{Range}
use Rattle.wave_wasm.specs.Lists.{AllOf, SomeOf}
use Rattle.wave_wasm.specs.Types.{Simple}
use Rattle.wave_wasm.specs.Values.{Leaf}
use Rattle.wave_lex.specs.Errors.{Diagnostic, Refusal, refusal_of}
use Rattle.wave_grammar.specs.Token.{Token}
use Rattle.wave_grammar.specs.LeafTokens.{Spells}
use Rattle.wave_grammar.specs.TypeErrors.{Blame, OfForm}
use Rattle.wave_grammar.specs.FaultOrder.{BlamesNothing, OrElse, FirstOf}
use Rattle.wave_grammar.specs.FaultLaws.{BlamesOne}
use Rattle.wave_grammar.proofs.OneFault.OneBlame.{one_said}
use Rattle.wave_faults.specs.AllFaults.{Telling, Alone, NoErrors, Then, InTurn, WithinForm, OfLeaf}
use Rattle.wave_faults.specs.FaultsLaws.{Tells}
use Rattle.wave_faults.proofs.EachTold.Lists.{all_of_both, some_of_first, some_of_others, all_so}

-- the error is blamed
abbrev pub Blames : Blame → Diagnostic → Type 0
Blames B e = B (refusal_of e) e.span

-- F tells only what B blames, first what A blames, nothing where A blames nothing; where N holds, all that B blames
pub record TellsAll (N : Type 0) (F : Telling) (A B : Blame) : Type 0 where
  pub none : F [] → BlamesNothing A
  pub first : (e : Diagnostic) (more : List Diagnostic) → F (e ∷ more) → Blames A e
  pub only : (errors : List Diagnostic) → F errors → AllOf (Blames B) errors
  pub each : N → (errors : List Diagnostic) (k : Refusal) (q : Range ℕ) → F errors → B k q → SomeOf (Tells k q) errors

-- the one or the other
abbrev pub Either : Blame → Blame → Blame
Either A B k q = A k q ⊎ B k q

head_is : (x e : Diagnostic) (xs more : List Diagnostic) → x ∷ xs ≡ e ∷ more → x ≡ e
head_is x e xs more is = cc

-- where more holds
pub under : {N M : Type 0} {F : Telling} {A B : Blame} → (N → M) → TellsAll M F A B → TellsAll N F A B
under f a = record { none = a.none; first = a.first; only = a.only; each = λ n. a.each (f n) }

-- for what is blamed in other words
pub reworded : {N : Type 0} {F : Telling} {A B C : Blame} → ((k : Refusal) (q : Range ℕ) → B k q → C k q) → ((k : Refusal) (q : Range ℕ) → C k q → B k q) → TellsAll N F A B → TellsAll N F A C
reworded {N} {F} {A} {B} {C} f g a = record {
  none = a.none;
  first = a.first;
  only = λ errors h. all_so (Blames B) (Blames C) errors (λ e. f (refusal_of e) e.span) (a.only errors h);
  each = λ n errors k q h c. a.each n errors k q h (g k q c);
}

-- what blames at most one thing, alone
pub alone : {N : Type 0} {A : Blame} → BlamesOne A → TellsAll N (Alone A) A A
alone {N} {A} one = record { none = λ h. h; first = first; only = only; each = each }
  where
    first : (e : Diagnostic) (more : List Diagnostic) → Alone A (e ∷ more) → Blames A e
    first e [] h = h
    first e (f ∷ more) h = absurd h

    only : (errors : List Diagnostic) → Alone A errors → AllOf (Blames A) errors
    only [] h = tt
    only (e ∷ []) h = (h, tt)
    only (e ∷ f ∷ more) h = absurd h

    each : N → (errors : List Diagnostic) (k : Refusal) (q : Range ℕ) → Alone A errors → A k q → SomeOf (Tells k q) errors
    each n [] k q h a = absurd (h k q a)
    each n (e ∷ []) k q h a = inl (one (refusal_of e) k e.span q h a)
    each n (e ∷ f ∷ more) k q h a = absurd h

-- nothing
pub nothing : {N : Type 0} → TellsAll N NoErrors (λ k q. ⊥) (λ k q. ⊥)
nothing {N} = record {
  none = λ h k q f. f;
  first = λ e more h. absurd (cc h);
  only = λ errors h. subst (AllOf (Blames (λ k q. ⊥))) (sym h) tt;
  each = λ n errors k q h f. absurd f;
}

-- the ones and the others
pub then : {N : Type 0} {F G : Telling} {A B C D : Blame} → TellsAll N F A C → TellsAll N G B D → TellsAll N (Then F G) (OrElse A B) (Either C D)
then {N} {F} {G} {A} {B} {C} {D} a b = record { none = none; first = first; only = only; each = each }
  where
    none : Then F G [] → BlamesNothing (OrElse A B)
    none ([], [], is, f, g) k q (inl h) = a.none f k q h
    none ([], [], is, f, g) k q (inr h) = b.none g k q h.1
    none ([], y ∷ ys, is, f, g) k q h = absurd (cc is)
    none (x ∷ xs, ys, is, f, g) k q h = absurd (cc is)

    first : (e : Diagnostic) (more : List Diagnostic) → Then F G (e ∷ more) → Blames (OrElse A B) e
    first e more ([], ys, is, f, g) = inr (a.none f, b.first e more (subst G (sym is) g))
    first e more (x ∷ xs, ys, is, f, g) = inl (subst (Blames A) (head_is x e (xs ++ ys) more (sym is)) (a.first x xs f))

    only : (errors : List Diagnostic) → Then F G errors → AllOf (Blames (Either C D)) errors
    only errors (xs, ys, is, f, g) =
        subst (AllOf (Blames (Either C D))) (sym is)
        (all_of_both (Blames (Either C D)) xs ys (all_so (Blames C) (Blames (Either C D)) xs (λ e h. inl h) (a.only xs f)) (all_so (Blames D) (Blames (Either C D)) ys (λ e h. inr h) (b.only ys g)))

    each : N → (errors : List Diagnostic) (k : Refusal) (q : Range ℕ) → Then F G errors → Either C D k q → SomeOf (Tells k q) errors
    each n errors k q (xs, ys, is, f, g) (inl c) = subst (SomeOf (Tells k q)) (sym is) (some_of_first (Tells k q) xs ys (a.each n xs k q f c))
    each n errors k q (xs, ys, is, f, g) (inr d) = subst (SomeOf (Tells k q)) (sym is) (some_of_others (Tells k q) xs ys (b.each n ys k q g d))

-- those of each in turn
pub in_turn : {X N : Type 0} {F : X → Telling} {A B : X → Blame} (xs : List X) → ((x : X) → TellsAll N (F x) (A x) (B x)) → TellsAll N (InTurn F xs) (FirstOf A xs) (λ k q. SomeOf (λ x. B x k q) xs)
in_turn [] f = nothing
in_turn (x ∷ xs) f = then (f x) (in_turn xs f)

-- those within a form
pub within_form : {X N : Type 0} (o : Option X) (p : Range ℕ) {F : X → Telling} {A B : X → Blame} → ((x : X) → TellsAll N (F x) (A x) (B x)) → TellsAll N (WithinForm o p F) (OfForm o p A) (OfForm o p B)
within_form None p f = alone one_said
within_form (Some x) p f = f x

-- each where something else holds
pub in_case : {N P Q : Type 0} {F G : Telling} {A B C D : Blame} → (P → Q → ⊥) → TellsAll N F A C → TellsAll N G B D → TellsAll N (λ list. P × F list ⊎ Q × G list) (λ k q. P × A k q ⊎ Q × B k q) (λ k q. P × C k q ⊎ Q × D k q)
in_case {N} {P} {Q} {F} {G} {A} {B} {C} {D} apart a b = record { none = none; first = first; only = only; each = each }
  where
    none : P × F [] ⊎ Q × G [] → BlamesNothing (λ k q. P × A k q ⊎ Q × B k q)
    none (inl h) k q (inl f) = a.none h.1 k q f.1
    none (inl h) k q (inr f) = apart h.0 f.0
    none (inr h) k q (inl f) = apart f.0 h.0
    none (inr h) k q (inr f) = b.none h.1 k q f.1

    first : (e : Diagnostic) (more : List Diagnostic) → P × F (e ∷ more) ⊎ Q × G (e ∷ more) → P × Blames A e ⊎ Q × Blames B e
    first e more (inl h) = inl (h.0, a.first e more h.1)
    first e more (inr h) = inr (h.0, b.first e more h.1)

    only : (errors : List Diagnostic) → P × F errors ⊎ Q × G errors → AllOf (λ e. P × Blames C e ⊎ Q × Blames D e) errors
    only errors (inl h) = all_so (Blames C) (λ e. P × Blames C e ⊎ Q × Blames D e) errors (λ e c. inl (h.0, c)) (a.only errors h.1)
    only errors (inr h) = all_so (Blames D) (λ e. P × Blames C e ⊎ Q × Blames D e) errors (λ e d. inr (h.0, d)) (b.only errors h.1)

    each : N → (errors : List Diagnostic) (k : Refusal) (q : Range ℕ) → P × F errors ⊎ Q × G errors → P × C k q ⊎ Q × D k q → SomeOf (Tells k q) errors
    each n errors k q (inl h) (inl c) = a.each n errors k q h.1 c.1
    each n errors k q (inl h) (inr d) = absurd (apart h.0 d.0)
    each n errors k q (inr h) (inl c) = absurd (apart c.0 h.0)
    each n errors k q (inr h) (inr d) = b.each n errors k q h.1 d.1

-- what is wrong with a token, where a token that spells a value has nothing wrong
pub of_leaf : {N : Type 0} {W : Blame} (S : Simple) (token : Token) → BlamesOne W → ((one : Leaf) → Spells S token one → BlamesNothing W) → TellsAll N (OfLeaf S token W) W W
of_leaf {N} {W} S token one fine = record { none = λ h. fine h.0 h.1; first = first; only = only; each = each }
  where
    first : (e : Diagnostic) (more : List Diagnostic) → OfLeaf S token W (e ∷ more) → Blames W e
    first e [] h = h
    first e (f ∷ more) h = absurd h

    only : (errors : List Diagnostic) → OfLeaf S token W errors → AllOf (Blames W) errors
    only [] h = tt
    only (e ∷ []) h = (h, tt)
    only (e ∷ f ∷ more) h = absurd h

    each : N → (errors : List Diagnostic) (k : Refusal) (q : Range ℕ) → OfLeaf S token W errors → W k q → SomeOf (Tells k q) errors
    each n [] k q h a = absurd (fine h.0 h.1 k q a)
    each n (e ∷ []) k q h a = inl (one (refusal_of e) k e.span q h a)
    each n (e ∷ f ∷ more) k q h a = absurd h
