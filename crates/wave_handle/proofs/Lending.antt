-- The code of `lent`, which makes a reference of a slot's pointer. The value is lent for as long as the slot was, and the slot
-- ends with the last value behind the reference.
use denote.Memory.{part_of}
use Rattle.wave_handle.proofs.Boxes.{pair, box_at}
use Rattle.wave_handle.proofs.Steps.{ℕ, List, [], ◌∷◌, Ura, ◌≡◌, refl, sym, Sym, Ty, ty_ptr, ty_ref, erased, mut, named, local, value_local, Fn, place, deref, field, copy, rv_opd, addr_of, seq, assign, block, return, bare, Val, vptr, full_share, SProp, ent, sep, Fml, Lft, Share, GName, fsep, flft, fobs, fbor, Calls, Loops, WpFn, ‵, raw, some, later, at_ret, ◌$◌, ◌∵◌, !, qed, by, done, move, keep, use1, fsplit, fjoin, fpack, pick, await, rewrite, group, Logic, sem, whole, sub, look_in, Body, enter, of_opd, addr, load, stop, fld, first, blocks, exec, returns, alloc_all, pass_all, free_all, look_at, get, through, sets, sets_last, env, follows, Part, lends_Part, mem, cell_at, part_at, RattleType, Ptr, block_ptr, MutRef, opens, token, Bx, X, R, B, τ, word, handle, box_out, box_in, after}

-- E ν: the box and the slot's name.  σ', ρ, ρ': the slot as it is written, the value as it is spelled out and as it is written
module _ (E : Bx) (ν : Sym) (σ' ρ ρ' : Ty) where
  abbrev pub lends : Fn
  lends = record {
    lifetimes = 1;
    outlives = [];
    ty_params = [];
    givens = 0;
    params = 1;
    locals = local (ty_ref (named 0) mut ρ') value_local ∷ local (ty_ref (named 0) mut σ') value_local ∷ local (ty_ref erased mut ρ') value_local ∷ local ty_ptr value_local ∷ local ty_ptr value_local ∷ [];
    body = seq (block (seq (assign (place 3 []) (rv_opd (copy (place 1 (deref (pair E ν) ∷ field 0 ∷ [])))))
        (seq (assign (place 4 []) (rv_opd (copy (place 3 []))))
        (assign (place 2 []) (addr_of (place 4 (deref ρ ∷ [])))))))
        (seq (assign (place 0 []) (rv_opd (copy (place 2 [])))) return);
  }

-- slot x: the slot with x in its box. It lies as a pair does, and owns what a box of x owns
module _ (E : Bx) (ν : Sym) (S : RattleType) (p : Ptr) (a : E.al.row.Denot) (slot : X E → S.Denot) (lies : S.mir ≡ pair E ν ∷ [])
    (owns : (x : X E) (vs : List Val) → S.own_val (slot x) vs ≡ (B E).own_val (box_at E p a x) vs) {M : Type 1} {𝓤 : Ura M} (𝓛 : Logic 𝓤) where
  open 𝓛 use {H, A}

  module _ (b o rb ro : ℕ) (hv : Val) where
    -- all of the slot but its value
    abbrev Rest : Fml
    Rest = fsep (fsep (token E.al a (bare (τ E)) (block_ptr b o)) (handle E a hv)) (cell_at full_share S.mir (word E hv b o ∷ []) rb ro)

    back : p ≡ block_ptr b o → (x : X E) → ent 𝓤 (sep 𝓤 (sem 𝓛 ((mem (R E)).own_at x b o)) (sem 𝓛 Rest)) (sem 𝓛 ((mem S).own_at (slot x) rb ro))
    unfolding part_of
    back at x =
        qed 𝓛 (‵ (part_at (R E) full_share x b o) ∷ ‵ Rest ∷ []) ∵ move ! (1 ∷ []) $ fsplit ! $ fsplit ! $ move ! (3 ∷ []) $
        box_in E ! (box_at E p a x) b o x at refl $ rewrite ! 0 (λ (F : Fml). ‵ F) (sym (owns x (word E hv b o ∷ []))) refl $ move ! (1 ∷ 0 ∷ []) $ fjoin ! $
        fpack ! (List Val) (λ us. fsep (cell_at full_share S.mir us rb ro) (S.own_val (slot x) us)) (word E hv b o ∷ []) $ done !

  module _ (σ' ρ ρ' : Ty) (C : Calls 𝓤 H) (Λ : Loops 𝓤 H) (Post : Val → SProp 𝓤) (κ : Lft) (q : Share) (γ : GName) (rb ro : ℕ) (x : X E) where
    pub lends_value :
        ((b o : ℕ) (γ' : GName) → ent 𝓤 (sep 𝓤 (sem 𝓛 ((MutRef (named 0) κ (R E)).own_val (record { ref_ptr = (b, o); ghost_name = γ'; now = x }) (vptr b o ∷ []))) (sep 𝓤 (A.lft κ q) (sem 𝓛 (follows S (R E) γ γ' slot)))) (Post (vptr b o)))
        → ent 𝓤 (sep 𝓤 (sem 𝓛 (fobs γ (S.coded.code (slot x)))) (sep 𝓤 (sem 𝓛 (fbor κ (Body (mem S) rb ro γ))) (A.lft κ q))) (WpFn 𝓤 H C Λ (lends E ν σ' ρ ρ') (vptr rb ro ∷ []) Post)
    lends_value returned =
        let fn = lends E ν σ' ρ ρ' in
        qed 𝓛 (‵ (fobs γ (S.coded.code (slot x))) ∷ ‵ (fbor κ (Body (mem S) rb ro γ)) ∷ ‵ (flft κ q) ∷ []) ∵
        enter ! C Λ fn (vptr rb ro ∷ []) Post $ alloc_all ! (λ l. pass_all ! refl ((tt, tt), tt) $
        opens ! tt S rb ro (λ us. move ! (1 ∷ []) $ rewrite ! 0 (λ (F : Fml). ‵ F) (owns x us) refl $
        box_out E ! (box_at E p a x) us (λ b o hv at ws fits. move ! (1 ∷ 2 ∷ []) $ fjoin ! $ move ! (1 ∷ []) $
        rewrite ! 2 (λ (vs : List Val). ‵ (cell_at full_share S.mir vs rb ro)) ws refl $
        rewrite ! 2 (λ (τs : List Ty). ‵ (cell_at full_share τs (word E hv b o ∷ []) rb ro)) lies refl $
        -- [the value; the token and the allocator; the slot's cell; the open borrow, in three entries]
        first ! $ blocks ! $
        sets ! (of_opd ! (load ! (through ! refl (fld ! refl (stop !))) (look_in ! 2 (sub ! 0 refl (whole !))))) refl (tt, tt) $
        sets ! (of_opd ! (get ! refl)) refl (tt, tt) $
        sets_last ! (addr ! (through ! refl (stop !))) refl (tt, tt) $
        exec ! C Λ (env fn.locals l) (after 1 fn.body) (at_ret (env fn.locals l) Post) $
        sets ! (of_opd ! (get ! refl)) refl (tt, tt) $
        rewrite ! 2 (λ (τs : List Ty). ‵ (cell_at full_share τs (word E hv b o ∷ []) rb ro)) (sym lies) refl $
        move ! (1 ∷ 2 ∷ []) $ fjoin ! $ move ! (2 ∷ 3 ∷ 4 ∷ 1 ∷ 0 ∷ []) $ group ! 5 $
        let rest = sem 𝓛 (Rest b o rb ro hv) in
        use1 𝓛 (later (some (λ (γ' : GName). raw (Part 𝓛 S (R E) slot (named 0) κ q rb ro b o γ rest (back b o rb ro hv at) x γ'))))
        (lends_Part 𝓛 S (R E) slot (named 0) κ q rb ro b o γ rest (back b o rb ro hv at) (S.coded.code (slot x)) (S.coded.code (slot x)) x) $ await ! tt $ pick ! (λ γ'.
        returns ! (look_at ! 0 refl) $ free_all ! refl $ keep ! (0 ∷ []) $ by ! (returned b o γ')))))
