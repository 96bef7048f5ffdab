-- The boxes that slots hold, as the library's proofs about boxes take them.
use Rattle.std.specs.Prelude.{Bool, true, Option, Some, None, is_some}
use Rattle.std_heap.specs.contracts.Global as heap
use Rattle.std_heap.specs.contracts.GlobalAllocator.TheImpl.{ghosts, dict}
use Rattle.std_heap.proofs.Global.TheLaws as heaps
use Rattle.wave_type.specs.contracts.ty.Type as ty
use Rattle.wave_type.specs.contracts.func.FuncType as func
use Rattle.wave_type.proofs.ty.Type.TheLaws as tys
use Rattle.wave_type.proofs.func.FuncType.TheLaws as funcs
use Rattle.wave_handle.proofs.Steps.{◌≡◌, refl, sym, subst, ℕ, List, [], ◌∷◌, Ura, T, impl, tnil, dnil, Sym, Ty, ty_ptr, ty_struct, tcons, Val, Goal, Seq, Item, ‵, ◌$◌, Logic, Laws, RattleType, Ptr, α, Fits, Bx, X, D, B, word, box_out, box_in}

-- a box on the heap of what the row with these laws describes
abbrev pub heap_box : (R : RattleType) → Laws R → Bx
heap_box R laws = record { row = R; laws = laws; al = record { row = heap.the_row; laws = heaps.the_row_laws; g = ghosts; d = dict; drops = impl [] tnil dnil } }

abbrev pub type_box : Bx
type_box = heap_box ty.the_row tys.the_row_laws

abbrev pub function_type_box : Bx
function_type_box = heap_box func.the_row funcs.the_row_laws

-- the box of x at this pointer
abbrev pub box_at : (E : Bx) → Ptr → E.al.row.Denot → X E → D E
box_at E p a x = record { ptr = p; alloc = a; value = x }

-- what is held, where something is
pub some_of : {A : Type 0} (o : Option A) → is_some o ≡ true → (x : A) × (o ≡ Some x)
some_of (Some x) is = (x, refl)
some_of None is = absurd (subst (λ (b : Bool). T b) (sym is) tt)

-- a struct of this name, of a pointer and the box's allocator, as `Parts` and a slot are
abbrev pub pair : Bx → Sym → Ty
pair E ν = ty_struct ν (tcons ty_ptr (tcons (α E.al) tnil))

-- a step: the machine's value of a box is such a pair
module _ (E : Bx) {M : Type 1} {𝓤 : Ura M} {𝓛 : Logic 𝓤} {K : Type 0} {Γ : List (Item 𝓤)} {G : Goal 𝓤 𝓛.H} where
  pub is_word : K → (v : D E) (vs : List Val)
      → ((b o : ℕ) (hv : Val) → vs ≡ word E hv b o ∷ [] → Fits E.al hv → Seq K 𝓛 (‵ ((B E).own_val v (word E hv b o ∷ [])) ∷ Γ) G)
      → Seq K 𝓛 (‵ ((B E).own_val v vs) ∷ Γ) G
  is_word t v vs next = box_out E t v vs (λ b o hv at ws fits. box_in E t v b o v.value at refl $ next b o hv ws fits)
