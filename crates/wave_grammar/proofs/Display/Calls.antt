-- The display of a parsed call is such a call, with the same parameters.
use Rattle.std.proofs.Common.{◌≡◌, ℕ, ◌≤◌, ◌<◌, List, [], ◌∷◌, ◌++◌, inl, inr, refl, sym, ap, subst, ◌∙◌, length, drop, arith}
use Rattle.std.specs.Prelude.{encode_utf8_all, ◌↔◌}
use Rattle.std.proofs.lemmas.Bool.{ltb-true}
use Rattle.std.proofs.lemmas.List.{append-nil}
use Rattle.std.proofs.lemmas.Str.{encode_same, encode_ascii}
use Rattle.std.proofs.Math.Seq.{take-append_seam, drop-append_seam}
use Rattle.wave_wasm.specs.Lists.{AllOf}
use Rattle.wave_wasm.specs.Commas.{joined, in_parens}
use Rattle.wave_wasm.specs.Types.{TypeTree}
use Rattle.wave_wasm.specs.Values.{Value}
use Rattle.wave_lex.specs.FunctionName.{IsName}
use Rattle.wave_lex.specs.Regex.{nothing, Matches}
use Rattle.wave_lex.specs.Derive.{derivative, derivative_by}
use Rattle.wave_lex.specs.Tokens.{function_name}
use Rattle.wave_lex.proofs.RegularShapes.Comparisons.{same, same_true}
use Rattle.wave_lex.proofs.Machines.ClosedShapes.{function_name_rests, function_name_closed}
use Rattle.wave_lex.proofs.Tokenization.TokenEnds.{EndsBefore, no_longer, prefix_there, reached}
use Rattle.wave_grammar.specs.Token.{Token, TokenizesTo, paren_open, paren_close}
use Rattle.wave_grammar.specs.CommaSeparated.{Items}
use Rattle.wave_grammar.specs.Params.{Params}
use Rattle.wave_grammar.specs.Tree.{Tree, MaybeTree, no_tree, a_tree, tuple, trees, Takes, levels_of_trees, display_trees}
use Rattle.wave_grammar.specs.Calls.{SpellsParams, IsCall}
use Rattle.wave_grammar.specs.DisplayLaws.{ShowsCallAgain, DisplayCallKeepsMeaning}
use Rattle.wave_grammar.proofs.Unambiguity.Levels.{takes-levels, all-within}
use Rattle.wave_grammar.proofs.RoundTrip.Tokens.{end_cut}
use Rattle.wave_grammar.proofs.RoundTrip.Injective.{paren_open_cut, paren_close_cut}
use Rattle.wave_grammar.proofs.Display.Tokens.{HasShape, cut_shapes}
use Rattle.wave_grammar.proofs.Display.Trees.{Sound, AreSound, takes_sound, items_keep, sound_trees}
use Rattle.wave_grammar.proofs.Display.Items.{listed_show}
use Rattle.wave_grammar.proofs.Display.Tidy.{tidied, parens, shows_all}
use Rattle.wave_grammar.proofs.Display.Reading.{display_tidied}
use Rattle.wave_grammar.proofs.Display.Meaning.{alike_tidy}
use Rattle.wave_grammar.proofs.Equivalence.LabelSpelling.{AllAlike, alike_back, carries}
use Rattle.wave_grammar.specs.ParamElaboration.{TreeParams}
use Rattle.wave_grammar.proofs.Elaboration.Params.{params_to, params_from}

-- ---- names

-- nothing of a name takes a `(`
name_ends : (cs : List ℕ) → derivative 40 (derivative_by cs function_name) ≡ nothing
name_ends cs = same_true (derivative 40 (derivative_by cs function_name)) nothing (reached function_name function_name_rests function_name_closed refl (λ r. same (derivative 40 r) nothing) refl cs)

-- a name is the longest before a `(`
name_there : (cs x r : List ℕ) → encode_utf8_all cs ≡ x → Matches function_name cs → IsName (x ++ 40 ∷ r) (length x)
name_there cs x r e h = subst (λ (z : List ℕ). IsName (z ++ 40 ∷ r) (length z)) e (prefix_there function_name cs (40 ∷ r) h, no_longer function_name cs (40 ∷ r) ends)
  where
    ends : EndsBefore function_name cs (40 ∷ r)
    ends c rest there =
        let same : c ≡ 40 = (encode_same c 40 rest r (sym there ∙ ap (λ (z : List ℕ). z ++ r) (sym (encode_ascii 40 (ltb-true 40 128 refl))))).0 in
        ap (λ (z : ℕ). derivative z (derivative_by cs function_name)) same ∙ name_ends cs

-- the parameters of a call, displayed after its name
call_of : (s name : List ℕ) (params others : MaybeTree) (x : List ℕ) (tokens : List Token) → IsCall s name params → TokenizesTo (40 ∷ x) tokens → SpellsParams 100 tokens others → (other : IsCall (name ++ 40 ∷ x) name others) × (other.tokens ≡ tokens)
call_of s name params others x tokens call cut spelled =
    let f = call.named.0 in (
      record {
        bytes = length name;
        tokens = tokens;
        named = name_there f.scalars name x (f.spelled ∙ sym call.is) f.has;
        is = sym (take-append_seam name (40 ∷ x));
        cut = subst (λ (z : List ℕ). TokenizesTo z tokens) (sym (drop-append_seam name (40 ∷ x))) cut;
        spelled = spelled;
      },
      refl,
    )

-- ---- parameters

params_carried : (Ts : List TypeTree) (ts us : List Tree) (vs : List Value) → AllAlike ts us → TreeParams Ts ts vs → TreeParams Ts us vs
params_carried Ts [] [] vs h p = p
params_carried Ts [] (u ∷ us) vs h p = absurd h
params_carried Ts (t ∷ ts) [] vs h p = absurd h
params_carried [] (t ∷ ts) (u ∷ us) vs h p = absurd p
params_carried (T ∷ Ts) (t ∷ ts) (u ∷ us) vs h (v, ws, read, p, e) = (v, ws, carries T t u v h.0 read, params_carried Ts ts us ws h.1 p, e)

all_alike : (ts : List Tree) → AllOf Sound ts → AllAlike ts (tidied (trees ts))
all_alike [] sound = tt
all_alike (t ∷ ts) sound = (alike_tidy t sound.0, all_alike ts sound.1)

all_alike_back : (ts us : List Tree) → AllAlike ts us → AllAlike us ts
all_alike_back [] [] h = tt
all_alike_back (t ∷ ts) (u ∷ us) h = (alike_back t u h.0, all_alike_back ts us h.1)
all_alike_back _ _ h = absurd h

as_many : (ts : List Tree) → 0 < length ts → 0 < length (tidied (trees ts))
as_many [] l = l
as_many (t ∷ ts) l = omega arith

-- the display, and that its tokens are the same parameters
abbrev Keeps : List ℕ → List Token → MaybeTree → Type 0
Keeps name tokens params = (again : ShowsCallAgain name params) × ((Ts : List TypeTree) (vs : List Value) → Params Ts tokens vs ↔ Params Ts again.call.tokens vs)

keeps_none : (s name : List ℕ) (params : MaybeTree) (call : IsCall s name params) → call.tokens ≡ paren_open ∷ paren_close ∷ [] → Keeps name call.tokens no_tree
keeps_none s name params call e =
    let cut : TokenizesTo (40 ∷ 41 ∷ []) (paren_open ∷ paren_close ∷ []) = paren_open_cut (41 ∷ []) (paren_close ∷ []) (paren_close_cut [] [] end_cut) in
    let (other, same) = call_of s name params no_tree (41 ∷ []) (paren_open ∷ paren_close ∷ []) call cut (inl (refl, refl)) in (
      record { others = no_tree; call = other; display = refl },
      λ Ts vs. (λ p. subst (λ (z : List Token). Params Ts z vs) (e ∙ sym same) p, λ p. subst (λ (z : List Token). Params Ts z vs) (same ∙ sym e) p),
    )

keeps_items : (s name : List ℕ) (params : MaybeTree) (call : IsCall s name params) (prefix : List Token) (items : List Tree) → call.tokens ≡ paren_open ∷ prefix → 0 < length items → Items paren_close (Takes 100) prefix items [] → Keeps name call.tokens (a_tree (tuple (trees items)))
keeps_items s name params call prefix items e l h =
    let shapes : AllOf HasShape (paren_open ∷ prefix) = subst (AllOf HasShape) e (cut_shapes (drop call.bytes s) call.tokens call.cut) in
    let sound : AllOf Sound items = (items_keep paren_close (Takes 100) Sound (takes_sound 100) prefix items [] h shapes.1).0 in
    let all : AreSound (trees items) = sound_trees items sound in
    let low : levels_of_trees (trees items) ≤ 100 = all-within 100 paren_close (Takes 100) (takes-levels 100) prefix items [] h in
    let us : List Tree = tidied (trees items) in
    let x : List ℕ = joined (display_trees (trees items)) ++ 41 ∷ [] in
    let (tokens, c, i) = listed_show paren_open paren_close 40 41 (Takes 100) paren_open_cut parens (display_trees (trees items)) us (shows_all 100 (trees items) all low) [] [] end_cut in
    let cut : TokenizesTo (40 ∷ x) (paren_open ∷ tokens) = subst (λ (z : List ℕ). TokenizesTo z (paren_open ∷ tokens)) (append-nil (40 ∷ x)) c in
    let some_items : 0 < length us = as_many items l in
    let alike : AllAlike items us = all_alike items sound in
    let (other, same) = call_of s name params (a_tree (tuple (trees us))) x (paren_open ∷ tokens) call cut (inr (tokens, us, refl, some_items, i, refl)) in (
      record {
        others = a_tree (tuple (trees us));
        call = other;
        display = ap (λ (xs : List (List ℕ)). name ++ in_parens (joined xs)) (display_tidied (trees items) all);
      },
      λ Ts vs. (
        λ p. subst (λ (z : List Token). Params Ts z vs) (sym same) (params_from Ts 100 tokens us vs some_items i (params_carried Ts items us vs alike (params_to Ts 100 prefix items vs l h (subst (λ (z : List Token). Params Ts z vs) e p)))),
        λ p. subst (λ (z : List Token). Params Ts z vs) (sym e) (params_from Ts 100 prefix items vs l h (params_carried Ts us items vs (all_alike_back items us alike) (params_to Ts 100 tokens us vs some_items i (subst (λ (z : List Token). Params Ts z vs) same p)))),
      ),
    )

-- the display of a parsed call
pub display_call_keeps : DisplayCallKeepsMeaning
display_call_keeps s name params call =
    elim call.spelled [
      | inl (e, f) ↦ subst (Keeps name call.tokens) (sym f) (keeps_none s name params call e)
      | inr (prefix, items, e, l, h, f) ↦ subst (Keeps name call.tokens) (sym f) (keeps_items s name params call prefix items e l h)
    ]
