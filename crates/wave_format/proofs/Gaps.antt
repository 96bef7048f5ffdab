-- What stands between the items of a lexer.
use Rattle.std.proofs.Common.{◌≡◌, ℕ, List, ap, ◌∙◌, take, drop, arith}
use Rattle.std.specs.Prelude.{◌-◌, slice_range}
use Rattle.std.specs.declared.ops.Range.{Range}
use Rattle.wave_lex.specs.Tokenization.{Lexed, span, remainder_of}

-- up to the end of its last item
pub name_before : (x s : List ℕ) (l : Lexed) (here : Range ℕ) → s ≡ l.source → here ≡ span l.start l.end → x ≡ slice_range s 0 here.end → x ≡ take l.end l.source
name_before x s l here source place value =
    let size : here.end - 0 ≡ l.end = omega (arith, ap (λ (z : Range ℕ). z.end) place) in
    value ∙ (ap (λ (k : ℕ). take k s) size ∙ ap (take l.end) source)

-- up to its next item
pub gap_between : (x s : List ℕ) (l m : Lexed) (here there : Range ℕ) → s ≡ l.source → here ≡ span l.start l.end → there ≡ span m.start m.end → x ≡ slice_range s here.end there.start → x ≡ slice_range l.source l.end m.start
gap_between x s l m here there source place next value =
    value ∙ (ap (λ (z : List ℕ). slice_range z here.end there.start) source
    ∙ (ap (λ (z : Range ℕ). slice_range l.source z.end there.start) place ∙ ap (λ (z : Range ℕ). slice_range l.source l.end z.start) next))

-- what is left
pub rest_behind : (x s : List ℕ) (l : Lexed) (here : Range ℕ) → s ≡ l.source → here ≡ span l.start l.end → x ≡ drop here.end s → x ≡ remainder_of l
rest_behind x s l here source place value = value ∙ (ap (drop here.end) source ∙ ap (λ (z : Range ℕ). drop z.end l.source) place)
