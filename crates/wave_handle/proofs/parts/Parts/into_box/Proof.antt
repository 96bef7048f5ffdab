-- A box is made again of the pointer and the allocator that stand in its parts.
use Rattle.std_alloc.specs.contracts.boxed.Box.from_raw as from_raw
use Rattle.std_alloc.proofs.boxed.Box.from_raw.Met.{met}
use Rattle.wave_handle.specs.contracts.parts.Parts as parts
use Rattle.wave_handle.specs.contracts.parts.Parts.into_box as F
use Rattle.wave_handle.proofs.parts.Parts.into_box.Statement.{statement}
use Rattle.wave_handle.proofs.parts.Parts.into_box.Code as code
use Rattle.wave_handle.proofs.Boxes.{box_at, is_word}
use Rattle.wave_handle.proofs.Steps.{List, [], ◌∷◌, ◌++◌, ◌≡◌, refl, sym, ap, subst, T, Fn, inst_fn, Val, vptr, has_ty, WT, id⊢, ftrue, fsep, flft, WpFn, ◌⊑◌, fact, tables, Item, ‵, raw, ◌⊛◌, some, later, prop, at_ret, ◌$◌, ◌∵◌, !, qed, done, move, drop, use1, split, split3, join, fsplit, fjoin, feq_i, pick, await, rewrite, regoal, suffices, whole, sub, enter, of_opd, stop, fld, no_more, and_then, first, blocks, exec, returns, alloc_all, pass_all, free_all, look_at, get, get_in, sets, lands_last, env, no, block_ptr, Slot, plain, nothing, heard, only, calls_at_last, Ended, triple_of, Contract, framed, Stays, walk_of, says, stay_dropped, ends_at, Goes-blank, proved_at, Bx, D, R, P, B, args, word, box_ty, box_typed, box_out, after}

module _ (E : Bx) where
  abbrev fn : Fn
  fn = inst_fn (args E) code.function

  abbrev ended : Ended
  ended = F.ended E.row E.al.row E.al.g E.al.d E.al.drops

  abbrev From : Slot 2
  From = plain (λ _. parts.the_row (R E) (P E) E.al.g)

  abbrev stayed : Stays ended.signature.params ended.kept
  stayed = (stay_dropped From no, tt)

pub into_box_spec : {M : Type 1} → statement M
into_box_spec 𝓤 𝓛 𝓜 𝓡 wired X Z LX LZ g d drops allocator dropped =
    let E : Bx = record { row = X; laws = LX; al = record { row = Z; laws = LZ; g = g; d = d; drops = drops } } in
    let 𝓣 = tables 𝓤 𝓛.H 𝓜 𝓡 𝓡.env in let c = F.clauses X Z g d drops 𝓛 𝓜.mem 𝓡.returns in let W = walk_of 𝓛 (ended E) (stayed E) c in
    let Called : Contract 𝓤 = triple_of 𝓛 (from_raw.signature X Z g d drops) (from_raw.spec X Z g d drops 𝓛 𝓜.mem 𝓡.returns) in
    let meets = met 𝓤 𝓛 𝓜 𝓡 (code.calls-std_alloc::boxed::Box::from_raw 𝓡.env wired) X Z LX LZ g d drops allocator dropped in
    proved_at 𝓛 (ended E) (stayed E) c 𝓜 𝓡 (Goes-blank 𝓛 2 (From E) no (λ κs x f. tt), tt) (F.Key.name (args E)) (fn E) (code.unfolded 𝓤 𝓛.H 𝓜 𝓡 wired (X, (Z, tt)) d drops) (λ z are.
    let κs = z.0.0 in let qs = z.0.1 in let p = z.0.3.0 in
    let v = box_at E p.at p.alloc p.value in
    let tokens : Item 𝓤 = ‵ (flft κs.0 qs.0) ⊛ ‵ (flft κs.1.0 qs.1.0) ⊛ ‵ ftrue in
    let alive : Item 𝓤 = raw (fact 𝓤 (κs.0 ⊑ X.lives)) ⊛ raw (fact 𝓤 (κs.1.0 ⊑ Z.lives)) ⊛ ‵ ftrue in
    qed 𝓛 ((tokens ⊛ ‵ (fsep ((B E).own_val v z.0.4.0) ftrue)) ∷ alive ∷ []) ∵ split ! $ move ! (1 ∷ []) $ fsplit ! $
    box_out E ! v z.0.4.0 (λ b o hv at ws fits. fjoin ! $
    regoal ! (λ (us : List Val). prop (WpFn 𝓤 𝓛.H 𝓣.C 𝓣.Λ (fn E) (us ++ []) (W.post z))) ws refl $
    enter ! 𝓣.C 𝓣.Λ (fn E) (word E hv b o ∷ []) (W.post z) $ alloc_all ! (λ l. pass_all ! refl (box_typed E hv b o fits, tt) $
    sets ! (of_opd ! (get_in ! (fld ! refl (stop !)) (sub ! 0 refl (whole !)))) refl (tt, tt) $
    sets ! (of_opd ! (get_in ! (fld ! refl (stop !)) (sub ! 1 refl (whole !)))) refl fits $
    first ! $ blocks ! $ sets ! (of_opd ! (get ! refl)) refl fits $
    -- [what the pointer owns; the allocator; true; the tokens; that they are alive]: the call is handed all of it
    move ! (4 ∷ []) $ split3 ! $ move ! (2 ∷ []) $ drop ! $ move ! (1 ∷ 2 ∷ []) $ join ! $ move ! (1 ∷ 0 ∷ []) $ join ! $
    move ! (2 ∷ []) $ feq_i ! (List Val) (vptr b o ∷ []) (vptr b o ∷ []) refl $ fjoin ! $ move ! (2 ∷ 0 ∷ []) $ fjoin ! $ move ! (2 ∷ 0 ∷ []) $ join ! $ join ! $
    let y : Called.Ghost = ((κs, qs, tt, (p.alloc, (block_ptr b o, tt)), (hv ∷ [], (vptr b o ∷ [], tt))), p.value) in
    use1 𝓛 (raw (Called.pre y)) (id⊢ 𝓤 _) $
    calls_at_last ! (framed 𝓤 𝓛.H 𝓜 𝓣) Called meets y (and_then ! (get ! refl) (and_then ! (get ! refl) (no_more !))) (λ u.
    use1 𝓛 (later (some (λ (r : D E). (tokens ⊛ ‵ ((B E).own_val r (u ∷ []))) ⊛ some (λ (_ : Unit {0} × (Unit {0} × Unit {0})). ‵ (fsep ftrue (fsep ftrue ftrue)) ⊛ (raw (fact 𝓤 (r.value ≡ p.value)) ⊛ raw (fact 𝓤 (r.alloc ≡ p.alloc))))))) (id⊢ 𝓤 _) $
    await ! tt $ pick ! (λ r. split ! $ move ! (1 ∷ []) $ pick ! (λ _. split3 ! $ drop ! $ heard ! (r.value ≡ p.value) (λ same. drop ! $ split ! $ move ! (1 ∷ []) $
    is_word E ! r (u ∷ []) (λ b' o' hw wu fits'. rewrite ! 0 (λ (us : List Val). ‵ ((B E).own_val r us)) (sym wu) refl $
    let typed : T (has_ty (box_ty E) u) × WT u = subst (λ (s : Val). T (has_ty (box_ty E) s) × WT s) (sym (ap only wu)) (box_typed E hw b' o' fits') in
    lands_last ! refl typed $ exec ! 𝓣.C 𝓣.Λ (env (fn E).locals l) (after 3 (fn E).body) (at_ret (env (fn E).locals l) (W.post z)) $
    sets ! (of_opd ! (get ! refl)) refl typed $ returns ! (look_at ! 0 refl) $ free_all ! refl $
    suffices ! _ (ends_at 𝓛 (ended E) (stayed E) c z u r ((tt, (tt, tt)), tt) (tt, tt)) $ says ! same $
    nothing ! $ nothing ! $ fjoin ! $ join ! $ move ! (1 ∷ 0 ∷ []) $ join ! $ done !))))))))
