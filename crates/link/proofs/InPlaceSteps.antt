-- What the proofs by hand cite, and the types of what reading in place answers. Assumes `Logic`.
pub use Rattle.std.proofs.Common.{◌≡◌, ℕ, List, [], ◌∷◌, ◌++◌, length, w8, w64, refl, sym, ap, ◌∙◌, subst, true, IfSome, IfNone, OnErr, lit<}
pub use Rattle.std.specs.Borrow.{LendsBothIf, Array}
pub use mathlib.Core.Option.{none}
pub use Rattle.std.specs.Prelude.{⊤}
pub use seplogic.Ra.Ura.{Ura}
pub use mir.Syntax.{Fn, Args as TypeArgs, a_type, dcons, dnil, named, erased}
pub use mir.MapTy.{inst_fn}
pub use mir.Val.{Val, vstruct, of_list}
pub use base.Fml.{Lft, ftrue, flft, Fml, GName}
pub use base.Logic.{id⊢, emp, ent, ex_e, ex_i}
pub use types.Logic.{Logic, sem}
pub use types.Kit.{‵, raw, ◌⊛◌, some, later, ◌$◌, ◌∵◌, !, qed, by, move, keep, drop, split, join, fjoin, pick, use0, use1, await, fsplit, fpick, feq_l, rewrite}
pub use types.Part.{whole, sub, agg}
pub use types.Run.{stop, fld, hop, from, addr, of_opd, no_more, and_then, returns, enter, lit}
pub use types.ByLocal.{alloc_all, pass_all, free_all, look_at, look_in_at, get, get_in, sets, lands_as, through}
pub use contract.Monad.{fact, fact_i}
pub use contract.Lifetimes.{Lfts}
pub use contract.BorrowLft.{◌⊑◌}
pub use contract.Running.{tables}
pub use denote.Builtin.{u8, usize}
pub use denote.Exit.{yes, no}
pub use denote.RattleType.{RattleType}
pub use denote.Plain.{uint_Makes, uint_vals, uint_Tells, uint_row_laws}
pub use denote.Ref.{NamedLft, MutRef, mut_vals, mut_Tells}
pub use denote.Slice.{MutSlice, Room, mut_slice_vals, mut_slice_Tells, ShrSlice, shr_slice_vals, shr_slice_Tells}
pub use denote.Signature.{plain, mut_slice_of, mut_ref_to, shr_slice_of}
pub use denote.Laws.{Is, Lawful, shows}
pub use denote.Struct.Field.{shr_slice_field, mut_slice_field, u8-field}
pub use denote.Struct.Tuple.{Tuple, tuple_laws}
pub use denote.Steps.{nothing, owned, heard, peeks, only}
pub use denote.Param.{param, bounded}
pub use denote.Param.Laws.{Laws, param_laws, of_field, row_shared}
pub use denote.Param.Shared.{mut_slice_shared, copy_shared}
pub use denote.Triple.Clauses.{Lasts, lasts}
pub use denote.Triple.Spec.{triple_of}
pub use denote.Triple.Call.{calls_at}
pub use denote.Triple.Table.{framed}
pub use denote.Triple.Walked.{Stays, stay_dropped, walk_of, Goes-dropped, Goes-spent_slice, Goes-spent_ref}
pub use Rattle.std.proofs.raw_atomic.Walks.{proved, leaves}
pub use Rattle.std.specs.contracts.option.Option.{the_row as Option}
pub use Rattle.std.proofs.option.Option.TheLaws.{the_row_laws as option_laws}
pub use Rattle.std.specs.contracts.result.Result.{the_row as Result}
pub use Rattle.std.proofs.result.Result.TheLaws.{the_row_laws as result_laws}
pub use Rattle.std.specs.contracts.alloc.Global.{the_row as Global, the_type as global_type}
pub use Rattle.cobs.specs.Sentinel.{masked}
pub use Rattle.cobs.specs.Whole.{unpadded}
pub use Rattle.link.specs.InPlace.{ReadsNext, IsEnd, IsNext, AnswersNext, KeptUnlessEnded}
pub use Rattle.link.specs.contracts.receiver.Answer.{the_row as Answer}
pub use Rattle.link.proofs.receiver.Answer.TheLaws.{the_row_laws as answer_laws}
pub use Rattle.link.specs.contracts.receiver.NoMemory.{the_row as NoMemory}
pub use Rattle.link.proofs.receiver.NoMemory.TheLaws.{the_row_laws as no_memory_laws}
use denote.Struct.Laws as struct_law

-- a slice, the two parts, and the answer with the rest
abbrev pub Slice : NamedLft → RattleType
Slice α = MutSlice α.mir α.lft u8

pub slice_laws : (α : NamedLft) → Laws (Slice α)
slice_laws α =
    of_field (mut_slice_field α u8-field.row tt) (struct_law.mut_slice_laws α u8-field.row tt) refl
    (mut_slice_shared α u8-field.row tt (row_shared u8-field.row (of_field u8-field struct_law.u8-laws refl (copy_shared u8-field struct_law.u8-copy))))

abbrev pub Parts : NamedLft → RattleType
Parts α = Option (Tuple (Slice α ∷ Slice α ∷ []))

abbrev pub Found : NamedLft → RattleType → RattleType
Found α T = Option (Tuple (Result (Answer (param 0 T)) NoMemory ∷ Slice α ∷ []))

-- a value of either type has that type in memory
pub lawful_parts : {M : Type 1} {𝓤 : Ura M} (𝓛 : Logic 𝓤) (α : NamedLft) → Lawful 𝓛 (Parts α)
lawful_parts 𝓛 α = (option_laws (Tuple (Slice α ∷ Slice α ∷ [])) (tuple_laws (Slice α ∷ Slice α ∷ []) (slice_laws α, (slice_laws α, tt)))).lawful 𝓛

pub lawful_found : {M : Type 1} {𝓤 : Ura M} (𝓛 : Logic 𝓤) (α : NamedLft) (T : RattleType) → Laws T → Lawful 𝓛 (Found α T)
lawful_found 𝓛 α T L =
    let Got : RattleType = Result (Answer (param 0 T)) NoMemory in
    let got : Laws Got = result_laws (Answer (param 0 T)) NoMemory (answer_laws (param 0 T) (param_laws 0 T L)) no_memory_laws in
    (option_laws (Tuple (Got ∷ Slice α ∷ [])) (tuple_laws (Got ∷ Slice α ∷ []) (got, (slice_laws α, tt)))).lawful 𝓛
