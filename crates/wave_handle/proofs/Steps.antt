-- The names of the logic and of the library that the walks here cite.
pub use Prim.Native.Nat.{ℕ}
pub use mathlib.Core.List.{List, [], ◌∷◌, ◌++◌}
pub use mathlib.Core.Path.{◌≡◌, refl, sym, ap, ◌∙◌, subst}
pub use seplogic.Ra.Ura.{Ura}
pub use lib.Dec.{T, lit<}
pub use mir.Syntax.{Sym, Ty, ty_ptr, ty_ref, ty_struct, tcons, tnil, erased, mut, named, w64, local, value_local, Fn, Args, Dict, dcons, dnil, a_type, impl, place, deref, field, copy, int, rv_opd, addr_of, aggregate, seq, assign, block, return}
pub use mir.MapTy.{inst_fn}
pub use mir.Raw.{raw as bare}
pub use mir.Val.{Val, vnull, vptr, vstruct, vcons, vnil, of_list, has_ty, WT}
pub use base.Fraction.{full_share}
pub use base.Logic.{SProp, ent, sep, emp, id⊢, never, fst∗}
pub use base.Fml.{Fml, Lft, Share, GName, ftrue, fsep, flft, fobs, fbor}
pub use prog.Wp.{Calls, Loops, WpFn}
pub use contract.BorrowLft.{◌⊑◌}
pub use contract.Monad.{fact}
pub use contract.Running.{tables}
pub use types.Kit.{Goal, Seq, Item, ‵, raw, ◌⊛◌, some, later, prop, at_ret, ◌$◌, ◌∵◌, !, qed, by, done, move, keep, drop, use1, split, split3, join, fsplit, fsplit3, fjoin, fpick, fpack, feq_i, feq_l, pick, await, rewrite, regoal, suffices, frame, group}
pub use types.Logic.{Logic, sem}
pub use types.Part.{whole, sub, agg, look_in}
pub use types.Run.{enter, of_opd, lit, addr, load, stop, fld, no_more, and_then, first, blocks, exec, returns}
pub use types.SemTy.{Body}
pub use types.ByLocal.{alloc_all, pass_all, free_all, look_at, get, get_in, through, sets, sets_last, lands_as, lands_last, env}
pub use denote.Exit.{yes, no}
pub use denote.Follow.{follows, Part, lends_Part}
pub use denote.Memory.{mem, cell_at, part_at}
pub use denote.Param.{bounded}
pub use denote.Param.Laws.{Laws}
pub use denote.RattleType.{RattleType, Valss}
pub use denote.RawPtr.{Ptr, RawPtr, block_ptr, null_ptr, ptr_val, in_a_block}
pub use denote.Ref.{MutRef, mut_vals, mut_Tells}
pub use denote.Signature.{Slot, plain, mut_ref_to}
pub use denote.Steps.{nothing, heard, opens, only}
pub use denote.Struct.Owning.{shape, to}
pub use denote.Struct.Struct.{Struct, within}
pub use denote.Struct.Tuple.{Tuple}
pub use denote.Triple.Call.{calls_at, calls_at_last}
pub use denote.Triple.Clauses.{Ended}
pub use denote.Triple.Spec.{triple_of}
pub use denote.Triple.Statement.{Contract}
pub use denote.Triple.Table.{framed}
pub use denote.Triple.Walked.{Stays, walk_of, says, stay_dropped, Goes-dropped, Goes-spent_ref, ends_at}
pub use Rattle.core.proofs.alloc.Calls.{α, Fits, token, handle_tells, Goes-blank}
pub use Rattle.std.proofs.raw_atomic.Walks.{proved, proved_at}
pub use Rattle.std_alloc.proofs.BoxSteps.Form.{Bx, X, D, R, P, B, τ, args, word, handle, box_ty, box_typed}
pub use Rattle.std_alloc.proofs.BoxSteps.Steps.{box_out, box_in}
pub use Rattle.std_alloc.proofs.ResultValues.{and_tt}
pub use Rattle.std_alloc.proofs.VecSteps.Shapes.{after}
pub use Rattle.std_alloc.specs.Box.Ownership.{box_owns}
