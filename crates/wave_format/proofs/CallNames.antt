-- The name of a call that is laid out, and its parameters.
use Rattle.std.proofs.Common.{◌≡◌, ℕ, ◌≤◌, true, false, zero, suc, List, [], ◌∷◌, ◌++◌, inl, inr, refl, sym, ap, subst, ◌∙◌, length, take, drop, arith, append_assoc, length-take-le}
use Rattle.std.specs.Prelude.{◌||◌, encode_utf8, encode_utf8_all}
use Rattle.std.proofs.lemmas.Bool.{cases_lt, or_cases, ltb-true}
use Rattle.std.proofs.lemmas.List.{take-append-drop}
use Rattle.std.proofs.lemmas.Str.{encode_same, encode_ascii}
use Rattle.std.proofs.Math.Seq.{take-append_seam, drop-append_seam}
use Rattle.wave_lex.specs.FunctionName.{IsName}
use Rattle.wave_lex.specs.Regex.{nothing, Matches, is_one_of}
use Rattle.wave_lex.specs.Derive.{nullable, derivative, derivative_by}
use Rattle.wave_lex.specs.Tokens.{function_name, whitespace}
use Rattle.wave_lex.specs.Tokenization.{IsWhitespace}
use Rattle.wave_lex.proofs.RegularShapes.Derivatives.{matches_into}
use Rattle.wave_lex.proofs.RegularShapes.Comparisons.{same, same_true, each_below_at, after_past}
use Rattle.wave_lex.proofs.LongestPrefix.MachineWalks.{after_all_nothing}
use Rattle.wave_lex.proofs.Machines.ClosedShapes.{function_name_rests, function_name_closed}
use Rattle.wave_lex.proofs.Tokenization.TokenEnds.{EndsBefore, no_longer, prefix_there, none_follows, NoMarkOf}
use Rattle.wave_grammar.specs.Token.{Token, TokenizesTo, paren_open, paren_close, bracket_open, brace_open, number, label, char, string, multiline}
use Rattle.wave_grammar.specs.Tree.{Tree, Trees, MaybeTree, a_tree, tuple, trees, Takes, ATree, Word, word_of, BehindWord, leaf_word, none_word, some_word, ok_word, err_word, case_word}
use Rattle.wave_grammar.specs.Denotes.{SpellsText}
use Rattle.wave_grammar.specs.Calls.{SpellsParams, IsCall}
use Rattle.wave_format.specs.Layout.{IsCallLaidOut, KeepsCalls}
use Rattle.wave_format.specs.Private.Laying.{no_params, IsLaid, IsEmptyLaid}

-- what may begin the text behind a name: whitespace, or its parenthesis
abbrev starts : List ℕ
starts = 40 ∷ 32 ∷ 9 ∷ 10 ∷ 13 ∷ 47 ∷ []

-- none of them goes on with a name
name_ends : (cs : List ℕ) → Matches function_name cs → NoMarkOf starts (derivative_by cs function_name)
name_ends = none_follows function_name function_name_rests function_name_closed refl starts refl

-- whitespace begins with one
blank_starts : (c : ℕ) (cs : List ℕ) → Matches whitespace (c ∷ cs) → is_one_of c starts ≡ true
blank_starts c cs h =
    elim (cases_lt c 129) as (λ _. is_one_of c starts ≡ true) [
      | inl l ↦ elim (or_cases (same (derivative c whitespace) nothing) (is_one_of c starts) (each_below_at 129 c (λ z. same (derivative z whitespace) nothing || is_one_of z starts) refl l)) as (λ _. is_one_of c starts ≡ true) [
        | inl f ↦ dead (same_true _ _ f)
        | inr f ↦ f
      ]
      | inr l ↦ let m : 128 ≤ c = omega arith in
          let n : 128 ≤ 128 = omega arith in
          dead (after_past whitespace c 128 refl m n ∙ same_true _ _ refl)
    ]
  where
    dead : {A : Type 0} → derivative c whitespace ≡ nothing → A
    dead e =
        let none : derivative_by cs (derivative c whitespace) ≡ nothing = ap (derivative_by cs) e ∙ after_all_nothing cs in
        let wrong : false ≡ true = sym (ap nullable none) ∙ matches_into (c ∷ cs) whitespace h in cc

-- a text that begins with `(` after whitespace begins with one of them
first_starts : (rest : List ℕ) (g k : ℕ) → IsWhitespace rest g → 40 ∷ [] ≡ take k (drop g rest) → (c : ℕ) × (more : List ℕ) × (rest ≡ encode_utf8 c ++ more) × (is_one_of c starts ≡ true)
first_starts rest zero k blank text = by_cases rest k text
  where
    by_cases : (s : List ℕ) (k : ℕ) → 40 ∷ [] ≡ take k s → (c : ℕ) × (more : List ℕ) × (s ≡ encode_utf8 c ++ more) × (is_one_of c starts ≡ true)
    by_cases [] zero e = cc
    by_cases [] (suc k) e = cc
    by_cases (b ∷ s) zero e = cc
    by_cases (b ∷ s) (suc k) e =
        let is : 40 ≡ b = cc in
        (40, s, ap (λ (z : ℕ). z ∷ s) (sym is) ∙ ap (λ (z : List ℕ). z ++ s) (sym (encode_ascii 40 (ltb-true 40 128 refl))), refl)
first_starts rest (suc g) k blank text = by_scalars blank.0.scalars blank.0.spelled blank.0.has
  where
    by_scalars : (cs : List ℕ) → encode_utf8_all cs ≡ take (suc g) rest → Matches whitespace cs → (c : ℕ) × (more : List ℕ) × (rest ≡ encode_utf8 c ++ more) × (is_one_of c starts ≡ true)
    by_scalars [] e h =
        let long : length (take (suc g) rest) ≡ suc g = length-take-le (suc g) rest blank.0.fits in
        let none : 0 ≡ length (take (suc g) rest) = ap length e in
        absurd (omega arith)
    by_scalars (c ∷ cs) e h = (
      c,
      encode_utf8_all cs ++ drop (suc g) rest,
      sym (take-append-drop (suc g) rest) ∙ (ap (λ (z : List ℕ). z ++ drop (suc g) rest) (sym e) ∙ append_assoc (encode_utf8 c) (encode_utf8_all cs) (drop (suc g) rest)),
      blank_starts c cs h,
    )

-- the name of a call stays its name
pub name_stays : (s : List ℕ) (k : ℕ) (rest : List ℕ) (ts : List Token) → IsName s k → TokenizesTo rest (paren_open ∷ ts) → IsName (take k s ++ rest) k
name_stays s k rest ts named (r, (g, j, blank, long, text, later), behind) =
    let f = named.0 in
    let first = first_starts rest g j blank text in
    let ends : EndsBefore function_name f.scalars rest = λ d others there.
    let same : d ≡ first.0 = (encode_same d first.0 others first.1 (sym there ∙ first.2)).0 in
    subst (λ (z : ℕ). derivative z (derivative_by f.scalars function_name) ≡ nothing) (sym same) (name_ends f.scalars f.has first.0 first.3) in
    let size : length (take k s) ≡ k = length-take-le k s f.fits in
    let is : IsName (encode_utf8_all f.scalars ++ rest) (length (encode_utf8_all f.scalars)) = (prefix_there function_name f.scalars rest f.has, no_longer function_name f.scalars rest ends) in
    subst (λ (z : ℕ). IsName (take k s ++ rest) z) size (subst (λ (z : List ℕ). IsName (z ++ rest) (length z)) f.spelled is)

-- the tokens are those of parameters, and begin with a parenthesis
abbrev Params : List Token → MaybeTree → Type 0
Params tokens params = (more : List Token) × (tokens ≡ paren_open ∷ more) × SpellsParams 100 tokens params

-- no tuple stands at a word
word_no_tuple : (w : Word) (text : List ℕ) (prefix : List Token) (ts : Trees) {A : Type 0} → BehindWord w text (Takes 100) prefix (tuple ts) [] → A
word_no_tuple leaf_word text prefix ts (e, f) = cc
word_no_tuple none_word text prefix ts (e, f) = cc
word_no_tuple some_word text prefix ts (inner, p, f) = cc
word_no_tuple ok_word text prefix ts (payload, p, f) = cc
word_no_tuple err_word text prefix ts (payload, p, f) = cc
word_no_tuple case_word text prefix ts (payload, p, f) = cc

-- tokens that spell a tuple are parameters
tuple_params : (tokens : List Token) (items : List Tree) → ATree (Takes 100) tokens (tuple (trees items)) [] → Params tokens (a_tree (tuple (trees items)))
tuple_params [] items h = absurd h
tuple_params (paren_open ∷ prefix) items (others, l, h, e) = (prefix, refl, inr (prefix, others, refl, l, h, ap a_tree e))
tuple_params (bracket_open ∷ prefix) items (others, h, e) = cc
tuple_params (number text ∷ prefix) items (e, f) = cc
tuple_params (char text ∷ prefix) items (e, f) = cc
tuple_params (string text ∷ prefix) items (e, f) = cc
tuple_params (multiline text ∷ prefix) items (e, f) = cc
tuple_params (brace_open ∷ prefix) items (inl (e, f)) = cc
tuple_params (brace_open ∷ prefix) items (inr (inl (e, f))) = cc
tuple_params (brace_open ∷ prefix) items (inr (inr (inl (es, l, h, f)))) = cc
tuple_params (brace_open ∷ prefix) items (inr (inr (inr (texts, l, h, d, f)))) = cc
tuple_params (label text ∷ prefix) items h = word_no_tuple (word_of text) text prefix (trees items) h
tuple_params (token ∷ prefix) items h = absurd h

-- a text has one name at its start
one_name : (s : List ℕ) (k j : ℕ) → IsName s k → IsName s j → j ≡ k
one_name s k j a b = let x : j ≤ k = a.1 j b.0 in let y : k ≤ j = b.1 k a.0 in omega arith

-- a text that begins with the name, and has these tokens behind it
call_there : (s text name rest : List ℕ) (params : MaybeTree) (k : ℕ) (ts : List Token) → IsName s k → name ≡ take k s → text ≡ take k s ++ rest → TokenizesTo rest ts → Params ts params → IsCall text name params
call_there s text name rest params k ts named is parts cut (more, begins, spelled) =
    let size : length (take k s) ≡ k = length-take-le k s named.0.fits in
    let whole : List ℕ = take k s ++ rest in
    let before : take k s ≡ take k whole = sym (take-append_seam (take k s) rest) ∙ ap (λ (z : ℕ). take z whole) size in
    let behind : rest ≡ drop k whole = sym (drop-append_seam (take k s) rest) ∙ ap (λ (z : ℕ). drop z whole) size in
    subst (λ (z : List ℕ). IsCall z name params) (sym parts) (record {
      bytes = k;
      tokens = ts;
      named = name_stays s k rest more named (subst (TokenizesTo rest) begins cut);
      is = is ∙ before;
      cut = subst (λ (z : List ℕ). TokenizesTo z ts) behind cut;
      spelled = spelled;
    })

-- what is laid out behind the name
abbrev pub LaysTrees : List ℕ → ℕ → List ℕ → Type 0
LaysTrees s k text = (n : ℕ) (t : Tree) → SpellsText n (drop k s) t → IsLaid n t (take k s) (drop k s) text

abbrev pub LaysNone : List ℕ → ℕ → List ℕ → Type 0
LaysNone s k text = TokenizesTo (drop k s) no_params → IsEmptyLaid (take k s) (drop k s) text

-- a call that is laid out
abbrev CallIs : List ℕ → List ℕ → List ℕ → MaybeTree → Type 0
CallIs s text name params = IsCallLaidOut s text × IsCall text name params

one_call : (s text name : List ℕ) (params : MaybeTree) (k : ℕ) → IsName s k → LaysTrees s k text → LaysNone s k text → IsCall s name params → CallIs s text name params
one_call s text name params k named trees_laid none_laid call =
    let same : call.bytes ≡ k = one_name s k call.bytes named call.named in
    let is : name ≡ take k s = call.is ∙ ap (λ (z : ℕ). take z s) same in
    let cut : TokenizesTo (drop k s) call.tokens = subst (λ (z : ℕ). TokenizesTo (drop z s) call.tokens) same call.cut in
    elim call.spelled as (λ _. CallIs s text name params) [
      | inl (e, f) ↦
          let h : IsEmptyLaid (take k s) (drop k s) text = none_laid (subst (TokenizesTo (drop k s)) e cut) in
          (record { bytes = k; named = named; laid = h.laid; parts = h.parts; is = h.is }, call_there s text name h.laid params k no_params named is h.parts h.cut (paren_close ∷ [], refl, inl (refl, f)))
      | inr (prefix, items, e, l, i, f) ↦
          let takes : Takes 101 (paren_open ∷ prefix) (tuple (trees items)) [] = (items, l, i, refl) in
          let h : IsLaid 101 (tuple (trees items)) (take k s) (drop k s) text = trees_laid 101 (tuple (trees items)) (paren_open ∷ prefix, subst (TokenizesTo (drop k s)) e cut, takes) in (
            record { bytes = k; named = named; laid = h.laid; parts = h.parts; is = h.is },
            subst (IsCall text name) (sym f) (call_there s text name h.laid (a_tree (tuple (trees items))) k h.spells.0 named is h.parts h.spells.1 (tuple_params h.spells.0 items h.spells.2)),
          )
    ]

pub call_laid : (s text name : List ℕ) (params : MaybeTree) (k : ℕ) → IsName s k → LaysTrees s k text → LaysNone s k text → IsCall s name params → IsCallLaidOut s text
call_laid s text name params k named trees_laid none_laid call = (one_call s text name params k named trees_laid none_laid call).0

pub call_kept : (s text : List ℕ) (k : ℕ) → IsName s k → LaysTrees s k text → LaysNone s k text → KeepsCalls s text
call_kept s text k named trees_laid none_laid name params call = (one_call s text name params k named trees_laid none_laid call).1
