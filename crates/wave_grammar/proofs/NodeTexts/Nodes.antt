-- The text of a node that is a string.
use Rattle.std.proofs.Common.{ℕ, ◌≡◌, ◌+◌, inl, inr, List, [], ◌∷◌, ◌++◌, None, Result, Ok, Err, refl, sym, subst, ◌∙◌}
use Rattle.std.proofs.lemmas.List.{append_cancel_left, append_cancel_right}
use Rattle.std.specs.Result.{IsErrAnd}
use Rattle.wave_lex.specs.Errors.{Diagnostic}
use Rattle.wave_lex.specs.Remaining.{Undecoded, LinesLeft, one_line}
use Rattle.wave_lex.specs.Strings.{Decodes}
use Rattle.wave_lex.specs.Multiline.{DecodesLines}
use Rattle.wave_lex.specs.Parts.{left_of, OpensTo, LinesRunTo}
use Rattle.wave_lex.specs.declared.strings.StringPart.{StringPart}
use Rattle.wave_lex.specs.declared.strings.StringPartsIter.{StringPartsIter}
use Rattle.wave_lex.proofs.MultilineStrings.JoinedLines.{one_line_joins, lines_join}
use Rattle.wave_grammar.specs.NodeTree.{NodeTree, type_of, place_of}
use Rattle.wave_grammar.specs.NodeAccessors.{node_text, quotes_of, IsInside, GivesParts}
use Rattle.wave_grammar.specs.StringAssembly.{IsUncopied, PutTogether}
use Rattle.wave_grammar.specs.NodeStrings.{IsRunAt, RefusesString, GivesString}
use Rattle.wave_grammar.proofs.Strings.OneRun.{IsPlain, IsShort, run_is_short, short_is_uncopied}
use Rattle.wave_grammar.proofs.Strings.Assembly.{borrowed_so, refused_ends_not}
use Rattle.std.specs.declared.borrow.CowStr.{CowStr}
use Rattle.wave_grammar.specs.declared.form.NodeType.{NodeType}
use Rattle.wave_grammar.specs.declared.form.NodeType.TheVariants as kind

-- between its quotes stands one text
inside_once : (source : List ℕ) (n : NodeTree) (x y : List ℕ) → IsInside source n x → IsInside source n y → x ≡ y
inside_once source n x y h k =
    append_cancel_right x y (quotes_of (type_of n)) (append_cancel_left (quotes_of (type_of n)) (x ++ quotes_of (type_of n)) (y ++ quotes_of (type_of n)) (sym h ∙ k))

-- the quotes of a type
inside_of : (ty : NodeType) (source : List ℕ) (n : NodeTree) (x : List ℕ) → type_of n ≡ ty → IsInside source n x → node_text source n ≡ quotes_of ty ++ (x ++ quotes_of ty)
inside_of ty source n x e h = subst (λ (k : NodeType). node_text source n ≡ quotes_of k ++ (x ++ quotes_of k)) e h

not_multiline : (n : NodeTree) → type_of n ≡ kind.String → type_of n ≡ kind.MultilineString → ⊥
not_multiline n e f = let w : kind.String ≡ kind.MultilineString = sym e ∙ f in cc

-- what is put together of a string
pub string_given : {A : Type 0} (source : List ℕ) (n : NodeTree) (x : List ℕ) (l : LinesLeft) (r : Result (CowStr A) Diagnostic) → type_of n ≡ kind.String → IsInside source n x → l ≡ one_line (record { rest = x; pos = (place_of n).start + 1 }) → PutTogether (IsUncopied l) [] l (place_of n) r → GivesString source n r
string_given source n x l r e own is h = by_result r (subst (λ (z : LinesLeft). PutTogether (IsUncopied z) [] z (place_of n) r) is h)
  where
    s : Undecoded
    s = record { rest = x; pos = (place_of n).start + 1 }

    to_run : IsRunAt source n → IsUncopied (one_line s)
    to_run (y, other, plain, few) = inl (subst IsPlain (inside_once source n y x other own) plain, refl)

    from_run : IsUncopied (one_line s) → IsRunAt source n
    from_run (inl run) = (x, own, run.0, λ f. absurd (not_multiline n e f))
    from_run (inr (read, bad)) = let none : [] ≡ bad.line ∷ bad.more = bad.there in absurd (cc)

    by_result : {A : Type 0} (r : Result (CowStr A) Diagnostic) → PutTogether (IsUncopied (one_line s)) [] (one_line s) (place_of n) r → GivesString source n r
    by_result (Ok c) ((parts, run, text), borrowed) = (
      inl (e, (x, inside_of kind.String source n x e own, subst (Decodes x) (sym text) ((one_line_joins s parts).0 run))),
      borrowed_so (IsRunAt source n) (IsUncopied (one_line s)) c to_run from_run borrowed,
    )
    by_result (Err error) (inl (parts, run)) =
        let (i, bad, reported) = (one_line_joins s parts).1 error run in
        inr (inl (inl (e, x, i, inside_of kind.String source n x e own, bad, reported)))
    by_result (Err error) (inr (wants, never)) = inr (inr (wants, λ run. never (to_run run)))

-- what is put together of a multiline string
pub multiline_given : {A : Type 0} (source : List ℕ) (n : NodeTree) (x : List ℕ) (l : LinesLeft) (r : Result (CowStr A) Diagnostic) → type_of n ≡ kind.MultilineString → IsInside source n x → OpensTo x ((place_of n).start + 3) l → PutTogether (IsUncopied l) [] l (place_of n) r → GivesString source n r
multiline_given source n x l r e own opens h = by_result r h
  where
    to_run : IsRunAt source n → IsUncopied l
    to_run (y, other, plain, few) =
        let same : y ≡ x = inside_once source n y x other own in
        short_is_uncopied x ((place_of n).start + 3) l opens (subst IsShort same (plain, few e))

    from_run : (parts : List StringPart) → LinesRunTo l parts None → IsUncopied l → IsRunAt source n
    from_run parts ended (inr refused) = absurd (refused_ends_not l parts ended refused)
    from_run parts ended (inl run) = let short = run_is_short x ((place_of n).start + 3) l opens run in (x, own, short.0, λ f. short.1)

    by_result : {A : Type 0} (r : Result (CowStr A) Diagnostic) → PutTogether (IsUncopied l) [] l (place_of n) r → GivesString source n r
    by_result (Ok c) ((parts, run, text), borrowed) = (
      inr (e, (x, inside_of kind.MultilineString source n x e own, subst (DecodesLines x) (sym text) (((lines_join x ((place_of n).start + 3)).0 l parts opens).0 run))),
      borrowed_so (IsRunAt source n) (IsUncopied l) c to_run (from_run parts run) borrowed,
    )
    by_result (Err error) (inl (parts, run)) =
        let (f, bad, reported) = ((lines_join x ((place_of n).start + 3)).0 l parts opens).1 error run in
        inr (inl (inr (e, x, f, inside_of kind.MultilineString source n x e own, bad, reported)))
    by_result (Err error) (inr (wants, never)) = inr (inr (wants, λ run. never (to_run run)))

-- what is put together of the parts of a node
pub parts_given : {A : Type 0} (source : List ℕ) (n : NodeTree) (parts : StringPartsIter) (r : Result (CowStr A) Diagnostic) → GivesParts source n (Ok parts) → PutTogether (IsUncopied (left_of parts)) [] (left_of parts) (place_of n) r → GivesString source n r
parts_given source n parts r (x, own, inl (e, is)) h = string_given source n x (left_of parts) r e own is h
parts_given source n parts r (x, own, inr (e, opens)) h = multiline_given source n x (left_of parts) r e own opens h

-- a node without parts
parts_refused : (source : List ℕ) (n : NodeTree) (e : Diagnostic) → GivesParts source n (Err e) → RefusesString source n e
parts_refused source n e (inl other) = inl other
parts_refused source n e (inr (is, x, own, refused)) =
    let (f, bad, reported) = (lines_join x ((place_of n).start + 3)).1 e refused in
    inr (inl (inr (is, x, f, inside_of kind.MultilineString source n x is own, bad, reported)))

-- its refusal is handed on
pub parts_refused_on : {A : Type 0} (source : List ℕ) (n : NodeTree) (e : Diagnostic) (r : Result (CowStr A) Diagnostic) → IsErrAnd r (λ f. f ≡ e) → GivesParts source n (Err e) → GivesString source n r
parts_refused_on source n e (Ok c) same h = absurd same
parts_refused_on source n e (Err f) same h = subst (λ (z : Diagnostic). RefusesString source n z) (sym same) (parts_refused source n e h)
