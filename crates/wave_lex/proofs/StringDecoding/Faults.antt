-- Where something is wrong with a string, it means nothing.
use Rattle.std.proofs.Common.{◌≡◌, ℕ, ◌+◌, List, [], ◌∷◌, ◌++◌, inl, inr, sym, ap, subst, ◌∙◌, length, None, append_assoc}
use Rattle.wave_lex.specs.Strings.{StringPiece, IsSplitInto, Decodes, Undecodable, UnescapesTo, IsBadEscapeAt}
use Rattle.wave_lex.specs.Multiline.{spaces, LineMeans, LinesMean, DecodesLines, LineFault, DropsReturn, Opens, OpensWell, closing_piece, BadLine, BadLines, BadBetween, MultilineFault, DecodingFunctional, FaultsRefuse}
use Rattle.wave_lex.proofs.StringDecoding.OneMeaning.{plain_into, escape_into, char_once, string_once, multiline_once, drops_once, ends_once, length_spaces}
use Rattle.std.proofs.lemmas.List.{append_cancel_left}
use Rattle.wave_lex.proofs.MultilineStrings.Lines.{closing_last}

-- a `\` that begins no escape
stuck : (rest t : List ℕ) → UnescapesTo (92 ∷ rest) None → Decodes (92 ∷ rest) t → ⊥
stuck rest t n ([], w) = let wrong : 92 ∷ rest ≡ [] = w.0 in cc
stuck rest t n (p ∷ ps, (inl a, x, y, es, et, cut)) =
    let q : 92 ∷ rest ≡ a.0 ∷ x = es ∙ ap (λ (z : StringPiece). z.source ++ x) a.2 in
    let wrong : a.0 ≡ 92 = cc in a.1 wrong
stuck rest t n (p ∷ ps, (inr a, x, y, es, et, cut)) = n p.source x a.0 a.1 es

-- after what decodes
stuck_behind : (prefix rest t u : List ℕ) (ps : List StringPiece) → IsSplitInto prefix ps u → UnescapesTo (92 ∷ rest) None → Decodes (prefix ++ 92 ∷ rest) t → ⊥
stuck_behind prefix rest t u [] c n d = stuck rest t n (subst (λ (z : List ℕ). Decodes (z ++ 92 ∷ rest) t) c.0 d)
stuck_behind prefix rest t u (p ∷ ps) (inl a, x, y, es, et, cut) n d =
    let q : prefix ≡ a.0 ∷ x = es ∙ ap (λ (z : StringPiece). z.source ++ x) a.2 in
    let more = plain_into a.0 (x ++ 92 ∷ rest) t a.1 (subst (λ (z : List ℕ). Decodes (z ++ 92 ∷ rest) t) q d) in
    stuck_behind x rest more.0 y ps cut n more.2
stuck_behind prefix rest t u (p ∷ ps) (inr a, x, y, es, et, cut) n d =
    let q : prefix ++ 92 ∷ rest ≡ p.source ++ (x ++ 92 ∷ rest) = ap (λ (z : List ℕ). z ++ 92 ∷ rest) es ∙ append_assoc p.source x (92 ∷ rest) in
    let more = escape_into p.source (x ++ 92 ∷ rest) t a.0 a.1 (subst (λ (z : List ℕ). Decodes z t) q d) in
    stuck_behind x rest more.0 y ps cut n more.2

-- what has a bad escape decodes to nothing
pub bad_escape_refuses : (s : List ℕ) (i : ℕ) → IsBadEscapeAt s i → Undecodable s
bad_escape_refuses s i (prefix, rest, u, whole, (ps, cut), none, place) t d = stuck_behind prefix rest t u ps cut none (subst (λ (z : List ℕ). Decodes z t) whole d)

-- ---- lines

-- a bad line means nothing
pub bad_line : (k at : ℕ) (line t : List ℕ) (f : LineFault) → BadLine k at line f → LineMeans k line t → ⊥
bad_line k at line t f (inl (bad, e)) (y, (x, whole, drops), d) = bad x whole
bad_line k at line t f (inr (y, i, (x, whole, drops), bad, e)) (z, (w, there, drops2), d) =
    let same : x ≡ w = append_cancel_left (spaces k) x w (sym whole ∙ there) in
    let one : y ≡ z = drops_once w y z (subst (λ (v : List ℕ). DropsReturn v y) same drops) drops2 in
    bad_escape_refuses y i bad t (subst (λ (v : List ℕ). Decodes v t) (sym one) d)

-- lines with a bad one mean nothing
bad_lines : (k at : ℕ) (ps ts : List (List ℕ)) (f : LineFault) → BadLines k at ps f → LinesMean k ps ts → ⊥
bad_lines k at [] ts f bad h = bad
bad_lines k at (p ∷ ps) [] f bad h = h
bad_lines k at (p ∷ ps) (t ∷ ts) f (inl bad) h = bad_line k at p t f bad h.0
bad_lines k at (p ∷ ps) (t ∷ ts) f (inr (u, means, bad)) h = bad_lines k (at + length p + 1) ps ts f bad h.1

-- two equal lists have equal heads and tails
first_same : (p q : List ℕ) (ps qs : List (List ℕ)) → p ∷ ps ≡ q ∷ qs → (p ≡ q) × (ps ≡ qs)
first_same p q ps qs e = let a : p ≡ q = cc in let b : ps ≡ qs = cc in (a, b)

-- an inside with a bad line means nothing
bad_between : (s t : List ℕ) (f : LineFault) → BadBetween s f → DecodesLines s t → ⊥
bad_between s t f b d =
    let rest = first_same b.first d.first (b.between ++ spaces b.indent ∷ []) (d.between ++ spaces d.indent ∷ []) (sym b.cut ∙ d.cut) in
    let ends = ends_once b.between d.between (spaces b.indent) (spaces d.indent) rest.1 in
    let same : b.indent ≡ d.indent = sym (length_spaces b.indent) ∙ (ap length ends.1 ∙ length_spaces d.indent) in
    bad_lines b.indent (length b.first + 1) b.between d.texts f b.bad
    (subst (λ (z : List (List ℕ)). LinesMean b.indent z d.texts) (sym ends.0) (subst (λ (z : ℕ). LinesMean z d.between d.texts) (sym same) d.lines))

-- two pieces or more open well where the first does
pub opens_well : (p : List ℕ) (ps : List (List ℕ)) (q : List ℕ) → Opens p → OpensWell (p ∷ (ps ++ q ∷ []))
opens_well p [] q h = h
opens_well p (r ∷ ps) q h = h

-- an inside with a fault means nothing
fault_refuses : (s : List ℕ) (f : LineFault) → MultilineFault s f → (t : List ℕ) → DecodesLines s t → ⊥
fault_refuses s f (inl (bad, e)) t d = bad (d.indent, ap closing_piece d.cut ∙ closing_last d.first d.between (spaces d.indent))
fault_refuses s f (inr (inl (labelled, bad, e))) t d = bad (subst OpensWell (sym d.cut) (opens_well d.first d.between (spaces d.indent) d.opens))
fault_refuses s f (inr (inr b)) t d = bad_between s t f b d

-- where something is wrong nothing is meant
pub faults_refuse : FaultsRefuse
faults_refuse = (bad_escape_refuses, fault_refuses)

-- each token means one thing
pub decoding_functional : DecodingFunctional
decoding_functional = (char_once, string_once, multiline_once)
