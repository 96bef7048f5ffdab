-- The steps of a lexer over its source.
use Rattle.std.proofs.Common.{◌≡◌, ℕ, ◌≤◌, ◌<◌, ◌+◌, List, [], ◌∷◌, ◌++◌, take, length-append, refl, sym, ap, subst, ◌∙◌, length, drop, arith, None, length-drop}
use Rattle.std.specs.Str.{IsUtf8, IsCharBoundary}
use Rattle.std.proofs.lemmas.List.{drop-drop}
use Rattle.std.proofs.lemmas.Str.{IsCharBoundary-from_rest, length-encode}
use Rattle.std.specs.Prelude.{encode_utf8}
use Rattle.std.specs.Char.{len_utf8}
use Rattle.wave_lex.specs.LongestMatch.{Greatest, IsPrefixOf}
use Rattle.wave_lex.specs.Tokens.{invalid}
use Rattle.wave_lex.specs.Tokenization.{Stands, IsWhitespace}
use Rattle.std.proofs.lemmas.List.{append-nil}
use Rattle.std.proofs.lemmas.Str.{length-encode}
use Rattle.wave_lex.specs.Tokens.{any}
use Rattle.std.proofs.Math.Seq.{take-append_seam}
use Rattle.wave_lex.proofs.LongestPrefix.MachineWalks.{invalid_none}

-- the empty span after whitespace stands
pub stands_at : (s r : List ℕ) (a e g : ℕ) → r ≡ drop e s → Stands s a e → IsCharBoundary r g → Stands s (e + g) (e + g)
stands_at s r a e g d h b =
    let c : IsCharBoundary s (e + g) = IsCharBoundary-from_rest s e g h.last.0 (subst (λ (z : List ℕ). IsCharBoundary z g) d b) in
    record { ordered = omega arith; first = c; last = c }

-- the span of an item after whitespace stands
pub stands_next : (s r t : List ℕ) (a e g k : ℕ) → r ≡ drop e s → t ≡ drop g r → Stands s a e → IsCharBoundary r g → IsCharBoundary t k → Stands s (e + g) (e + g + k)
stands_next s r t a e g k d f h b c =
    let one : Stands s (e + g) (e + g) = stands_at s r a e g d h b in
    let there : t ≡ drop (e + g) s = f ∙ (ap (λ (z : List ℕ). drop g z) d ∙ drop-drop g e s) in
    record {
      ordered = omega arith;
      first = one.first;
      last = IsCharBoundary-from_rest s (e + g) k one.last.0 (subst (λ (z : List ℕ). IsCharBoundary z k) there c);
    }

-- where nothing stands after the whitespace, the whitespace is all
pub whitespace_is_rest : (r t : List ℕ) (g : ℕ) → IsUtf8 t → t ≡ drop g r → IsWhitespace r g → Greatest (IsPrefixOf invalid t) None → g ≡ length r
whitespace_is_rest r t g u d h n =
    let none : length t ≡ 0 = ap length (invalid_none t u n) in
    let there : length t ≡ length (drop g r) = ap length d in
    let fits : g ≤ length r = h.0.fits in
    omega (arith, length-drop g r)

-- what is left gets less
pub less_left : (s r t : List ℕ) (a e g k : ℕ) → r ≡ drop e s → t ≡ drop g r → Stands s a e → g ≤ length r → k ≤ length t → 0 < k
    → length (drop (e + g + k) s) < length (drop e s)
less_left s r t a e g k d f h fits more some =
    let one : length r ≡ length (drop e s) = ap length d in
    let two : length t ≡ length (drop g r) = ap length f in
    let ends : e ≤ length s = h.last.0 in
    omega (arith, length-drop e s, length-drop g r, length-drop (e + g + k) s)

-- an item of k bytes where the lexer stood
pub stands_behind : (s r : List ℕ) (a e k : ℕ) → r ≡ drop e s → Stands s a e → IsCharBoundary r k → Stands s e (e + k)
stands_behind s r a e k d h b = record { ordered = omega arith; first = h.last; last = IsCharBoundary-from_rest s e k h.last.0 (subst (λ (z : List ℕ). IsCharBoundary z k) d b) }

-- the first scalar of a text is a prefix of one scalar
pub first_scalar : (s : List ℕ) (c : ℕ) (more : List ℕ) → s ≡ encode_utf8 c ++ more → IsPrefixOf any s (len_utf8 c)
first_scalar s c more e =
    let long : length (encode_utf8 c) ≡ len_utf8 c = length-encode c in
    let whole : length s ≡ length (encode_utf8 c ++ more) = ap length e in
    let cut : take (length (encode_utf8 c)) (encode_utf8 c ++ more) ≡ encode_utf8 c = take-append_seam (encode_utf8 c) more in
    record {
      scalars = c ∷ [];
      fits = omega (arith, length-append (encode_utf8 c) more);
      spelled = append-nil (encode_utf8 c) ∙ (sym cut ∙ (ap (λ (z : ℕ). take z (encode_utf8 c ++ more)) long ∙ ap (λ (z : List ℕ). take (len_utf8 c) z) (sym e)));
      has = (c, refl, refl);
    }

-- what is left gets less by an item
pub less_behind : (s r : List ℕ) (a e k : ℕ) → r ≡ drop e s → Stands s a e → k ≤ length r → 0 < k → length (drop (e + k) s) < length (drop e s)
less_behind s r a e k d h fits some =
    let one : length r ≡ length (drop e s) = ap length d in
    let ends : e ≤ length s = h.last.0 in
    omega (arith, length-drop e s, length-drop (e + k) s)
