-- What is at hand is what stands next.
use Rattle.std.proofs.Common.{ℕ, List, ◌≡◌, ◌↔◌, ◌+◌, Option, Some, None, Result, Ok, Err, refl, sym, ap, subst, ◌∙◌, Bool, arith}
use Rattle.std.specs.Prelude.{IsTrue, IfOk, IfErr}
use Rattle.wave_lex.specs.declared.error.ParserErrorKind.TheVariants as kind
use Rattle.wave_lex.specs.declared.found.Found.{Found}
use Rattle.wave_lex.specs.declared.found.Found.TheVariants as found
use Rattle.wave_lex.specs.declared.lex.Token.{Token}
use Rattle.wave_lex.specs.Tokenization.{Lexed, NextIs, item_of, span}
use Rattle.wave_lex.proofs.Tokenization.NextToken.{next_one}
use Rattle.wave_grammar.specs.ParserPosition.{Place, Item, TakesItem, IsSomething}
use Rattle.wave_lex.specs.Errors.{Diagnostic, Says, LiesInText}
use Rattle.wave_tree.specs.Private.ParserState.{IsAhead, ahead_count, lexer_of}
use Rattle.wave_tree.specs.ParserState.{Finishes}

-- the item at hand stands next
pub next_there : (l before : Lexed) (p : Place) (o : Option Found) (a : Found) → p.lexer ≡ lexer_of l before o → IsAhead before l o → o ≡ Some a → NextIs p.lexer l (item_of a l)
next_there l before p o a e h f = subst (λ z. NextIs z l (item_of a l)) (sym (e ∙ ap (lexer_of l before) f)) (subst (IsAhead before l) f h)

-- where one item is at hand it isn't none
pub one_ahead : {X : Type 0} (o : Option Found) → ahead_count o ≡ 1 → o ≡ None → X
one_ahead o one none = let no_more : ahead_count o ≡ 0 = ap ahead_count none in absurd (omega arith)

-- a token is kept as such
token_kept : (a : Found) (l : Lexed) (c : Token) → item_of a l ≡ Some (Ok c) → a ≡ found.Token c
token_kept (found.Token d) l c h = cc
token_kept found.Invalid l c h = cc
token_kept found.End l c h = cc

-- whether a token stands next, by the item at hand
pub at_hand : (l before : Lexed) (p : Place) (o : Option Found) (a : Found) (c : Token) (b r : Bool) → p.lexer ≡ lexer_of l before o → IsAhead before l o → o ≡ Some a → (IsTrue b ↔ (a ≡ found.Token c)) → r ≡ b →
    IsTrue r ↔ ((q : Place) × TakesItem p (Some (Ok c)) q)
at_hand l before p o a c b r e h f k g =
    let there : NextIs p.lexer l (item_of a l) = next_there l before p o a e h f in (
      λ t. (record { lexer = l; taken = p.taken + 1 }, (subst (λ z. NextIs p.lexer l (item_of z l)) (k.0 (subst IsTrue g t)) there, refl)),
      λ q. subst IsTrue (sym g) (k.1 (token_kept a l c (next_one p.lexer l q.0.lexer (item_of a l) (Some (Ok c)) there q.1.0).1)),
    )

-- whether something stands next, by the item at hand
pub finish_at : (l before : Lexed) (p : Place) (o : Option Found) (a : Found) (r q : Result (Unit {0}) Diagnostic) → p.lexer ≡ lexer_of l before o → IsAhead before l o → o ≡ Some a → r ≡ q →
    IfOk q (λ _. item_of a l ≡ None) → IfErr q (λ e. Says e kind.TrailingCharacters (span l.start l.end) None × IsSomething (item_of a l)) → Finishes r p
finish_at l before p o a r (Ok u) e h f g k m =
    let there : NextIs p.lexer l (item_of a l) = next_there l before p o a e h f in
    subst (λ z. Finishes z p) (sym g) (record { lexer = l; taken = p.taken + 1 }, (subst (λ z. NextIs p.lexer l z) k there, refl))
finish_at l before p o a r (Err x) e h f g k (says, something) =
    let there : NextIs p.lexer l (item_of a l) = next_there l before p o a e h f in
    subst (λ z. Finishes z p) (sym g) (record { lexer = l; taken = p.taken + 1 }, (item_of a l, something, (there, refl)), says)

next_source : (l m : Lexed) (item : Item) → NextIs l m item → m.source ≡ l.source
next_source l m None p = p.source
next_source l m (Some (Ok c)) (g, k, p, t) = p.source
next_source l m (Some (Err bad)) (g, k, p, u, e) = p.source

-- the refusal of the item at hand lies in the source
pub finish_within : (l before : Lexed) (p : Place) (o : Option Found) (a : Found) (r q : Result (Unit {0}) Diagnostic) → p.lexer ≡ lexer_of l before o → IsAhead before l o → o ≡ Some a → r ≡ q →
    IfErr q (λ e. LiesInText l.source e.span) → IfErr r (λ e. LiesInText p.lexer.source e.span)
finish_within l before p o a r q e h f g k =
    let there : NextIs p.lexer l (item_of a l) = next_there l before p o a e h f in
    subst (λ z. IfErr z (λ x. LiesInText p.lexer.source x.span)) (sym g) (subst (λ (s : List ℕ). IfErr q (λ x. LiesInText s x.span)) (next_source p.lexer l (item_of a l) there) k)
