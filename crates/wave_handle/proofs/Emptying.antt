-- The code that makes an empty slot, of a null pointer and the allocator.
use Rattle.wave_handle.proofs.Boxes.{pair}
use Rattle.wave_handle.proofs.Steps.{List, [], ◌∷◌, ◌++◌, Ura, refl, T, lit<, Sym, local, value_local, Fn, place, copy, int, w64, aggregate, seq, assign, return, Val, vnull, vstruct, vcons, vnil, has_ty, WT, SProp, ent, Calls, Loops, WpFn, ‵, prop, ◌$◌, ◌∵◌, !, qed, by, done, move, fjoin, fpack, feq_i, regoal, Logic, sem, agg, enter, lit, no_more, and_then, returns, alloc_all, pass_all, free_all, look_at, get, sets, RattleType, Valss, RawPtr, null_ptr, ptr_val, nothing, Struct, within, α, Fits, handle_tells, Bx, and_tt}

abbrev pub null_word : Val → Val
null_word hv = vstruct (vcons vnull (vcons hv vnil))

module _ (E : Bx) (ν : Sym) where
  null_typed : (hv : Val) → Fits E.al hv → T (has_ty (pair E ν) (null_word hv)) × WT (null_word hv)
  null_typed hv fits = (and_tt (has_ty (α E.al) hv) fits.0, (record { fits = lit< tt }, (fits.1, tt)))

  abbrev pub empties : Fn
  empties = record {
    lifetimes = 0;
    outlives = [];
    ty_params = [];
    givens = 0;
    params = 1;
    locals = local (pair E ν) value_local ∷ local (α E.al) value_local ∷ [];
    body = seq (assign (place 0 []) (aggregate (int w64 0 ∷ copy (place 1 []) ∷ []))) return;
  }

  module _ {M : Type 1} {𝓤 : Ura M} (𝓛 : Logic 𝓤) (C : Calls 𝓤 𝓛.H) (Λ : Loops 𝓤 𝓛.H) (Post : Val → SProp 𝓤) where
    pub empties_slot : (a : E.al.row.Denot) (vs : List Val) → ((hv : Val) → ent 𝓤 (sem 𝓛 (E.al.row.own_val a (hv ∷ []))) (Post (null_word hv))) → ent 𝓤 (sem 𝓛 (E.al.row.own_val a vs)) (WpFn 𝓤 𝓛.H C Λ empties (vs ++ []) Post)
    empties_slot a vs returned =
        qed 𝓛 (‵ (E.al.row.own_val a vs) ∷ []) ∵ handle_tells E.al ! a vs (λ hv ws fits.
        regoal ! (λ (us : List Val). prop (WpFn 𝓤 𝓛.H C Λ empties (us ++ []) Post)) ws refl $
        enter ! C Λ empties (hv ∷ []) Post $ alloc_all ! (λ l. pass_all ! refl (fits, tt) $
        sets ! (agg ! (and_then ! (lit ! tt) (and_then ! (get ! refl) (no_more !)))) refl (null_typed hv fits) $
        returns ! (look_at ! 0 refl) $ free_all ! refl $ by ! (returned hv)))

-- the fields of an empty slot, where this row is the allocator's
module _ (ν : Sym) (F : RattleType) {M : Type 1} {𝓤 : Ura M} (𝓛 : Logic 𝓤) where
  pub owns_null : (a : F.Denot) (hv : Val) → ent 𝓤 (sem 𝓛 (F.own_val a (hv ∷ []))) (sem 𝓛 ((Struct (record { name = ν; args = []; types = []; fields = RawPtr ∷ F ∷ [] })).own_val (null_ptr, (a, tt)) (null_word hv ∷ [])))
  owns_null a hv =
      let w = null_word hv in
      qed 𝓛 (‵ (F.own_val a (hv ∷ [])) ∷ []) ∵
      nothing ! $ move ! (1 ∷ 0 ∷ []) $ fjoin ! $ feq_i ! (List Val) (vnull ∷ []) (ptr_val null_ptr ∷ []) refl $ fjoin ! $
      feq_i ! (List Val) (w ∷ []) (w ∷ []) refl $ fjoin ! $
      fpack ! (Valss (RawPtr ∷ F ∷ [])) (within (record { name = ν; args = []; types = []; fields = RawPtr ∷ F ∷ [] }) (null_ptr, (a, tt)) (w ∷ [])) (vnull ∷ [], (hv ∷ [], tt)) $ done !
