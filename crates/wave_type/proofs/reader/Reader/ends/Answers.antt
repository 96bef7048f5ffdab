use Rattle.std.proofs.Common.{◌≡◌, ℕ, List, rules, Bool, true, false, None, Some, ◌∙◌, sym, ap, subst, codes}
use Rattle.std.specs.Prelude.{MatchBool}
use Rattle.wave_type.specs.declared.error.TypeErrorKind.{TypeErrorKind}
use Rattle.wave_type.specs.Private.TypeReading.{after, closed}
use Rattle.wave_type.specs.Private.TypeTokens.{GoesOn, IsRefused, misplaced}
use Rattle.wave_type.specs.TypeFaults.{Part, close_expected}
use Rattle.wave_type.specs.TypeSpelling.{Tokens}
use Rattle.wave_type.proofs.TypeFaults.TokenSteps.{ends_behind, ends_here, goes_on, close_fails}
use Rattle.wave_type.proofs.reader.Reader.ends.Goals as goal

pub returns-then-takes-clause-taken : goal.returns-then-takes-clause-taken
returns-then-takes-clause-taken c = ends_here c.args.mark.now c.args.self.now c.takes.new.self c.if-takes.ensures

-- after a comma
after_comma : (mark : List ℕ) (ts m l : Tokens) (b : Bool) → after mark ts ≡ None → after (codes ",") ts ≡ Some m → MatchBool b (after mark m ≡ Some l) ((after mark m ≡ None) × (l ≡ m)) → MatchBool b (closed mark ts ≡ Some l) (GoesOn mark ts l)
after_comma mark ts m l true none comma h = ends_behind mark ts m l none comma h
after_comma mark ts m l false none comma h = subst (GoesOn mark ts) (sym h.1) (goes_on mark ts m none comma h.0)

pub returns-clause-taken : goal.returns-clause-taken
returns-clause-taken c =
    let comma : after (codes ",") c.args.self.now ≡ Some c.expect.new.self = ap (after (codes ",")) (sym c.if-takes.ensures.1) ∙ c.in_ok-expect.ensures.taken in
    after_comma c.args.mark.now c.args.self.now c.expect.new.self c.takes-2.new.self c.takes-2.result c.if-takes.ensures.0 comma c.takes-2.ensures

refuses : (mark : List ℕ) (ts m l : Tokens) (kind : TypeErrorKind) → after mark ts ≡ None → m ≡ ts → after (codes ",") m ≡ None → kind ≡ misplaced m → l ≡ m → (part : Part) → IsRefused (close_expected mark part) ts kind l
refuses mark ts m l kind none same comma is end part =
    subst (λ k. IsRefused (close_expected mark part) ts k l) (sym (is ∙ ap misplaced same)) (subst (λ us. IsRefused (close_expected mark part) ts (misplaced ts) us) (sym (end ∙ same)) (close_fails mark part ts none (ap (after (codes ",")) (sym same) ∙ comma)))

pub returns-in_err-expect-clause-refused : goal.returns-in_err-expect-clause-refused
returns-in_err-expect-clause-refused c =
    let h = refuses c.args.mark.now c.args.self.now c.takes.new.self c.expect.new.self c.in_err-expect.field-0.0 c.if-takes.ensures.0 c.if-takes.ensures.1 c.in_err-expect.ensures.refused.0 c.in_err-expect.ensures.refused.1 c.in_err-expect.ensures.refused.2 in
    search (rules, h)
