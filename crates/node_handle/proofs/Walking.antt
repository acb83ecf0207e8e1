-- The words of walks over a pointer.
pub use Rattle.std.proofs.Common.{◌≡◌, [], ◌∷◌, refl, List, ◌++◌, sym, subst, ap, ◌∙◌, ℕ, lit<}
pub use mir.Syntax.{Fn, a_type, dcons, dnil, impl, tnil, ty_ptr, ty_struct, tcons}
pub use mir.Val.{Val, vptr, vstruct, of_list, vcons, vnil, has_ty, WT}
pub use base.Logic.{SProp, emp, ent, id⊢, never, fst∗}
pub use base.Fml.{ftrue, fsep, flft, Fml}
pub use contract.Monad.{fact, fact_i}
pub use contract.Running.{tables}
pub use types.Kit.{‵, raw, ◌⊛◌, ◌$◌, ◌∵◌, !, qed, by, move, drop, use0, split, fjoin, keep, fsplit, suffices, fsplit3, rewrite, some, later, split3, join, fpick, pick, use1, await, feq_l, at_ret, feq_i, Item, Goal, Seq, Step, step, fpack}
pub use types.Part.{agg, sub, whole}
pub use types.Run.{lit, no_more, and_then, returns, enter, stop, fld, of_opd, first, blocks, exec}
pub use types.ByLocal.{alloc_all, pass_all, free_all, look_at, sets, get, get_in, lands_as, lands_last, env}
pub use denote.RattleType.{owns, RattleType, Valss}
pub use denote.RawPtr.{null_ptr, block_ptr, Ptr, in_a_block, ptr_val}
pub use denote.Signature.{types_at, plain}
pub use denote.Steps.{nothing, heard, only}
pub use denote.Triple.Entry.{alive}
pub use denote.Triple.Walked.{Stays, walk_of, stay_dropped}
pub use Rattle.std.specs.declared.option.Option.{Option}
pub use Rattle.std.specs.declared.option.Option.TheVariants.{None, Some}
pub use Rattle.std.proofs.raw_atomic.Walks.{proved_at, leaves}
pub use prog.Wp.{WpFn}
pub use Rattle.core.proofs.alloc.Calls.{Goes-blank, handle_tells, Al}
pub use Rattle.std.specs.contracts.impls.GlobalAllocator.TheImpl.{ghosts}
pub use mir.Raw.{raw as bare}
pub use types.Logic.{sem, Logic}
pub use denote.Memory.{lone}
pub use Rattle.std.specs.Prelude.{IsSome}
pub use Rattle.std_alloc.specs.Box.Ownership.{box_owns}
pub use mir.MapTy.{inst_fn}
pub use denote.Exit.{no}
pub use denote.Builtin.{RawPtr}
pub use denote.Param.{param, layout, bounded}
pub use denote.Param.Laws.{param_laws, Laws}
pub use denote.Struct.Tuple.{Tuple}
pub use denote.Triple.Spec.{triple_of}
pub use denote.Triple.Call.{calls_at, calls_at_last}
pub use Rattle.core.proofs.atomic.Steps.{fm}
pub use Rattle.std_alloc.proofs.BoxSteps.Steps.{box_out, box_in}
pub use contract.BorrowLft.{◌⊑◌}
pub use denote.Triple.Clauses.{Lasts, lasts}
pub use Rattle.core.proofs.alloc.Shapes.{after}
pub use Rattle.core.proofs.cell.Inside.{Good}
pub use mathlib.Core.Bool.{Bool, true, false, ◌&&◌}
pub use lib.Dec.{T}
pub use seplogic.Ra.Ura.{Ura}
pub use denote.Struct.Struct.{within, Struct}
pub use denote.Struct.Owning.{shape}
pub use Rattle.core.specs.declared.alloc.Allocator.{Ghosts}
pub use Rattle.std_alloc.proofs.ResultValues.{and_tt}
pub use denote.Shadow.{shadow, makes_shadow}
pub use base.Fraction.{full_share}
pub use base.Shift.{Keyless}
pub use denote.Param.Send.{IsSend, part_keyless}
pub use Rattle.std.proofs.Crossing.{frees}
