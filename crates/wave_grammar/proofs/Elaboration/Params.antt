-- The parameters that tokens are, by the trees that the tokens spell.
use Rattle.std.proofs.Common.{◌≡◌, ℕ, zero, suc, ◌<◌, List, [], ◌∷◌, inl, inr, refl, sym, subst, ◌∙◌, length, arith}
use Rattle.wave_wasm.specs.Types.{TypeTree}
use Rattle.wave_wasm.specs.Values.{Value}
use Rattle.wave_grammar.specs.Token.{Token, paren_open, paren_close, comma}
use Rattle.wave_grammar.specs.CommaSeparated.{Closes, FurtherItems, Items}
use Rattle.wave_grammar.specs.TypedGrammar.{Reads}
use Rattle.wave_grammar.specs.Params.{FurtherParams, Params}
use Rattle.wave_grammar.specs.Tree.{NoParen, Tree, Takes}
use Rattle.wave_grammar.specs.Elaborates.{TreeReads}
use Rattle.wave_grammar.specs.ParamElaboration.{TreeParams}
use Rattle.wave_grammar.specs.TreeLaws.{ParamsAreByTree}
use Rattle.wave_grammar.proofs.Elaboration.GrammarToTree.{through}
use Rattle.wave_grammar.proofs.Elaboration.TreeToGrammar.{back}
use Rattle.wave_grammar.proofs.Unambiguity.Trees.{one_tree}

tail : (a b : Token) (more others : List Token) → a ∷ more ≡ b ∷ others → more ≡ others
tail a b more others e = cc

closes_first : (tokens prefix : List Token) → Closes paren_close tokens [] → tokens ≡ comma ∷ prefix → prefix ≡ paren_close ∷ []
closes_first tokens prefix (inl e) f = absurd (cc)
closes_first tokens prefix (inr e) f = tail comma comma prefix (paren_close ∷ []) (sym f ∙ e)

no_tree_there : (n : ℕ) (prefix : List Token) (t : Tree) (rest : List Token) → prefix ≡ paren_close ∷ [] → Takes n prefix t rest → ⊥
no_tree_there zero prefix t rest e h = h
no_tree_there (suc n) prefix t rest e h = subst (λ (z : List Token). Takes (suc n) z t rest) e h

no_open : (Ts : List TypeTree) (tokens : List Token) (vs : List Value) → FurtherParams Ts tokens vs → NoParen tokens
no_open [] tokens vs (inl e, f) more g = cc
no_open [] tokens vs (inr e, f) more g = cc
no_open (T ∷ Ts) tokens vs (inl (inl e, f)) more g = cc
no_open (T ∷ Ts) tokens vs (inl (inr e, f)) more g = cc
no_open (T ∷ Ts) tokens vs (inr (n, prefix, behind, v, others, e, read, h, f)) more g = cc

-- a parameter and the tree that stands there
one_param : (T : TypeTree) (n m : ℕ) (prefix behind rest : List Token) (v : Value) (t : Tree) → NoParen behind → Reads T n prefix v behind → Takes m prefix t rest → TreeReads T t v × (behind ≡ rest)
one_param T n m prefix behind rest v t bare read h =
    let (u, j, q) = through T n prefix v behind read bare in
    let (same, left) = one_tree n m prefix u t behind rest j h in
    (subst (λ (z : Tree). TreeReads T z v) same q, left)

further_to : (Ts : List TypeTree) (n : ℕ) (tokens : List Token) (ts : List Tree) (vs : List Value) → FurtherItems paren_close (Takes n) tokens ts [] → FurtherParams Ts tokens vs → TreeParams Ts ts vs
further_to [] n tokens [] vs closes (c, e) = e
further_to [] n tokens (t ∷ ts) vs (prefix, behind, e, h, more) (c, f) = no_tree_there n prefix t behind (closes_first tokens prefix c e) h
further_to (T ∷ Ts) n tokens [] vs closes (inl (c, left_out)) = left_out
further_to (T ∷ Ts) n tokens [] vs closes (inr (m, prefix, behind, v, others, e, read, h, f)) =
    let (u, j, q) = through T m prefix v behind read (no_open Ts behind others h) in
    absurd (no_tree_there m prefix u behind (closes_first tokens prefix closes e) j)
further_to (T ∷ Ts) n tokens (t ∷ ts) vs (prefix, behind, e, h, more) (inl (c, left_out)) = absurd (no_tree_there n prefix t behind (closes_first tokens prefix c e) h)
further_to (T ∷ Ts) n tokens (t ∷ ts) vs (prefix, behind, e, h, more) (inr (m, others, rest, v, ws, f, read, g, k)) =
    let there : Takes n others t behind = subst (λ (z : List Token). Takes n z t behind) (tail comma comma prefix others (sym e ∙ f)) h in
    let (q, left) = one_param T m n others rest behind v t (no_open Ts rest ws g) read there in
    (v, ws, q, further_to Ts n rest ts ws (subst (λ (z : List Token). FurtherItems paren_close (Takes n) z ts []) (sym left) more) g, k)

-- the parameters are those of the trees
pub params_to : (Ts : List TypeTree) (n : ℕ) (prefix : List Token) (ts : List Tree) (vs : List Value) → 0 < length ts → Items paren_close (Takes n) prefix ts [] → Params Ts (paren_open ∷ prefix) vs → TreeParams Ts ts vs
params_to Ts n prefix [] vs l items p = absurd (omega (arith, l))
params_to [] n prefix (t ∷ ts) vs l (behind, h, more) (e, f) = no_tree_there n prefix t behind (tail paren_open paren_open prefix (paren_close ∷ []) e) h
params_to (T ∷ Ts) n prefix (t ∷ ts) vs l (behind, h, more) (inl (e, left_out)) = absurd (no_tree_there n prefix t behind (tail paren_open paren_open prefix (paren_close ∷ []) e) h)
params_to (T ∷ Ts) n prefix (t ∷ ts) vs l (behind, h, more) (inr (m, others, rest, v, ws, f, read, g, k)) =
    let there : Takes n others t behind = subst (λ (z : List Token). Takes n z t behind) (tail paren_open paren_open prefix others f) h in
    let (q, left) = one_param T m n others rest behind v t (no_open Ts rest ws g) read there in
    (v, ws, q, further_to Ts n rest ts ws (subst (λ (z : List Token). FurtherItems paren_close (Takes n) z ts []) (sym left) more) g, k)

further_from : (Ts : List TypeTree) (n : ℕ) (tokens : List Token) (ts : List Tree) (vs : List Value) → FurtherItems paren_close (Takes n) tokens ts [] → TreeParams Ts ts vs → FurtherParams Ts tokens vs
further_from [] n tokens [] vs closes e = (closes, e)
further_from [] n tokens (t ∷ ts) vs items p = absurd p
further_from (T ∷ Ts) n tokens [] vs closes left_out = inl (closes, left_out)
further_from (T ∷ Ts) n tokens (t ∷ ts) vs (prefix, behind, e, h, more) (v, ws, q, p, k) = inr (n, prefix, behind, v, ws, e, back T n prefix t v behind h q, further_from Ts n behind ts ws more p, k)

-- and those of the trees are the parameters
pub params_from : (Ts : List TypeTree) (n : ℕ) (prefix : List Token) (ts : List Tree) (vs : List Value) → 0 < length ts → Items paren_close (Takes n) prefix ts [] → TreeParams Ts ts vs → Params Ts (paren_open ∷ prefix) vs
params_from Ts n prefix [] vs l items p = absurd (omega (arith, l))
params_from [] n prefix (t ∷ ts) vs l items p = absurd p
params_from (T ∷ Ts) n prefix (t ∷ ts) vs l (behind, h, more) (v, ws, q, p, k) = inr (n, prefix, behind, v, ws, refl, back T n prefix t v behind h q, further_from Ts n behind ts ws more p, k)

none_to : (Ts : List TypeTree) (vs : List Value) → Params Ts (paren_open ∷ paren_close ∷ []) vs → TreeParams Ts [] vs
none_to [] vs (e, f) = f
none_to (T ∷ Ts) vs (inl (e, left_out)) = left_out
none_to (T ∷ Ts) vs (inr (n, prefix, behind, v, others, e, read, h, f)) =
    let (u, j, q) = through T n prefix v behind read (no_open Ts behind others h) in
    absurd (no_tree_there n prefix u behind (tail paren_open paren_open prefix (paren_close ∷ []) (sym e)) j)

none_from : (Ts : List TypeTree) (vs : List Value) → TreeParams Ts [] vs → Params Ts (paren_open ∷ paren_close ∷ []) vs
none_from [] vs e = (refl, e)
none_from (T ∷ Ts) vs left_out = inl (refl, left_out)

-- the parameters that tokens are, are those of the trees that they spell
pub params_by_tree : ParamsAreByTree
params_by_tree Ts n prefix [] vs items =
    (λ p. none_to Ts vs (subst (λ (z : List Token). Params Ts (paren_open ∷ z) vs) items p), λ p. subst (λ (z : List Token). Params Ts (paren_open ∷ z) vs) (sym items) (none_from Ts vs p))
params_by_tree Ts n prefix (t ∷ ts) vs items = (params_to Ts n prefix (t ∷ ts) vs (omega arith) items, params_from Ts n prefix (t ∷ ts) vs (omega arith) items)
