-- The code that takes a struct of a pointer and an allocator apart and makes another of them, as `of_parts` and `into_parts`
-- do: what the first owned the second owns.
use Rattle.wave_handle.proofs.Boxes.{pair, is_word}
use Rattle.wave_handle.proofs.Steps.{List, [], ◌∷◌, ◌++◌, Ura, refl, Sym, ty_ptr, local, value_local, Fn, place, field, copy, rv_opd, aggregate, seq, assign, return, Val, SProp, ent, Calls, Loops, WpFn, ‵, prop, ◌$◌, ◌∵◌, !, qed, by, regoal, Logic, sem, whole, sub, agg, enter, of_opd, stop, fld, no_more, and_then, returns, alloc_all, pass_all, free_all, look_at, get, get_in, sets, α, Bx, D, B, word, box_typed}

module _ (E : Bx) (ν' ν : Sym) where
  abbrev pub rewraps : Fn
  rewraps = record {
    lifetimes = 0;
    outlives = [];
    ty_params = [];
    givens = 0;
    params = 1;
    locals = local (pair E ν') value_local ∷ local (pair E ν) value_local ∷ local ty_ptr value_local ∷ local (α E.al) value_local ∷ local ty_ptr value_local ∷ [];
    body = seq (assign (place 2 []) (rv_opd (copy (place 1 (field 0 ∷ [])))))
        (seq (assign (place 3 []) (rv_opd (copy (place 1 (field 1 ∷ [])))))
        (seq (assign (place 4 []) (rv_opd (copy (place 2 []))))
        (seq (assign (place 0 []) (aggregate (copy (place 4 []) ∷ copy (place 3 []) ∷ []))) return)));
  }

  module _ {M : Type 1} {𝓤 : Ura M} (𝓛 : Logic 𝓤) (C : Calls 𝓤 𝓛.H) (Λ : Loops 𝓤 𝓛.H) (Post : Val → SProp 𝓤) where
    pub rewraps_box : (v : D E) (vs : List Val) → ((w : Val) → ent 𝓤 (sem 𝓛 ((B E).own_val v (w ∷ []))) (Post w)) → ent 𝓤 (sem 𝓛 ((B E).own_val v vs)) (WpFn 𝓤 𝓛.H C Λ rewraps (vs ++ []) Post)
    rewraps_box v vs returned =
        qed 𝓛 (‵ ((B E).own_val v vs) ∷ []) ∵ is_word E ! v vs (λ b o hv ws fits.
        let typed = box_typed E hv b o fits in
        regoal ! (λ (us : List Val). prop (WpFn 𝓤 𝓛.H C Λ rewraps (us ++ []) Post)) ws refl $
        enter ! C Λ rewraps (word E hv b o ∷ []) Post $ alloc_all ! (λ l. pass_all ! refl (typed, tt) $
        sets ! (of_opd ! (get_in ! (fld ! refl (stop !)) (sub ! 0 refl (whole !)))) refl (tt, tt) $
        sets ! (of_opd ! (get_in ! (fld ! refl (stop !)) (sub ! 1 refl (whole !)))) refl fits $
        sets ! (of_opd ! (get ! refl)) refl (tt, tt) $
        sets ! (agg ! (and_then ! (get ! refl) (and_then ! (get ! refl) (no_more !)))) refl typed $
        returns ! (look_at ! 0 refl) $ free_all ! refl $ by ! (returned (word E hv b o))))
