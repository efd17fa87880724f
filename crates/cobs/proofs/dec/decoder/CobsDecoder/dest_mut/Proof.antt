-- The buffer that the field refers to is lent for as long as the decoder's own reference, and the decoder ends with it as
-- it is left behind the result. The proof is by hand, since none is generated for a `&mut [u8]` out of a `&mut [u8]` in a
-- field. Assumes `Logic`.
use Rattle.std.proofs.Common.{ℕ, ◌+◌, ◌*◌, ◌^◌, List, [], ◌∷◌, refl, ap}
use lib.ListN.{length}
use seplogic.Ra.Ura.{Ura}
use base.Fraction.{full_share}
use mir.Syntax.{Ty, named, erased, mut, w8, ty_int, ty_ref}
use mir.Val.{Val}
use base.Fml.{GName, ftrue, flft, fat, fobs, fbor}
use types.Logic.{Logic}
use types.Kit.{‵, ◌⊛◌, some, later, ◌$◌, ◌∵◌, !, qed, move, drop, split, split3, join, pick, await, use1, use2, use3, rewrite, suffices, frame, done, feq_i, feq_l, flt_i, flt_l, fsplit, fsplit3, fjoin, fjoin3}
use types.Mut.{open_ref, close_ref}
use types.SemTy.{Body}
use types.Part.{whole, sub, agg, look_in}
use types.Run.{stop, fld, hop, addr, load, of_opd, and_then, no_more, returns, enter}
use types.ByLocal.{alloc_all, pass_all, free_all, look_at, get, through, sets}
use denote.Builtin.{u8}
use denote.Exit.{no}
use denote.RattleType.{RattleType, owns}
use denote.Memory.{part_at, mem}
use denote.Array.{Array}
use denote.Follow.{follows, follows_then}
use denote.Ref.{NamedLft, MutBor, MutRef, at_last, mut_vals, mut_Tells}
use denote.Signature.{plain, mut_ref_to}
use denote.Slice.{MutSlice, slice_ty, slice_val, mut_slice_vals}
use denote.Steps.{nothing, only}
use denote.Struct.At.{get_at}
use denote.Through.{renamed, lends_inner_slice}
use denote.Triple.Walked.{Stays, stay_dropped, walk_of, says, ends_at, Goes-spent_ref}
use borrow.Follows.Field.{HandsTo, hands_on}
use borrow.Struct.Lend.{put_record, kept_record, record_fill, record_apart}
use borrow.Table.OneValue.{part_out_at, part_in_at}
use Rattle.std.proofs.raw_atomic.Walks.{proved}
use Rattle.cobs.specs.Decoder.{with_buffer}
use Rattle.cobs.specs.declared.dec.decoder.CobsDecoder.{CobsDecoder}
use Rattle.cobs.specs.contracts.dec.decoder.CobsDecoder as decoder
use Rattle.cobs.proofs.dec.decoder.CobsDecoder.TheLaws as laws
use Rattle.cobs.specs.contracts.dec.decoder.CobsDecoder.dest_mut as self
use Rattle.cobs.proofs.dec.decoder.CobsDecoder.dest_mut.Statement.{statement}
use Rattle.cobs.proofs.dec.decoder.CobsDecoder.dest_mut.Code as code

abbrev stayed : Stays self.ended.signature.params self.ended.kept
stayed = (stay_dropped (mut_ref_to (0 ∷ []) tt (plain (λ κs. decoder.the_row (record { mir = named 1; lft = κs.1.0 })))) no, tt)

-- how the field lies in memory
abbrev slot : Ty
slot = slice_ty (ty_ref erased mut (ty_int w8))

-- the field is lent out of the decoder
module _ {M : Type 1} {𝓤 : Ura M} (𝓛 : Logic 𝓤) (α : NamedLft) where
  abbrev Row : RattleType
  Row = decoder.the_row α

  abbrev Slice : RattleType
  Slice = MutSlice α.mir α.lft u8

  lends_field : (d : CobsDecoder) → HandsTo 𝓛 Row Slice (λ o. o + 0) d d.dest (λ w. record d { dest = w })
  lends_field d = let T = decoder.the_type α in let L = laws.the_loose α in let S = decoder.struct α in
      hands_on 𝓛 Row Slice 0 (λ x. get_at T.parts 0 (S.as_values x))
      (put_record T L 0 0 S.as_values S.Ghost S.make (λ v. tt) (λ x. refl) (λ v g. refl) (λ x. x))
      (kept_record T L 0 0 S.as_values S.Ghost S.make (λ v. tt) (λ x. refl) (λ v g. refl) (λ x. x))
      (record_fill T L 0 0 S.as_values S.Ghost S.make (λ v. tt) (λ x. refl) (λ v g. refl) (λ x. x) refl (λ f. refl))
      (record_apart T L 0 0 S.as_values S.Ghost S.make (λ v. tt) (λ x. refl) (λ v g. refl) (λ x. x) 𝓛 refl refl) d

pub dest_mut_spec : {M : Type 1} → statement M
dest_mut_spec 𝓤 𝓛 𝓜 𝓡 wired =
    let c = self.clauses 𝓛 𝓜.mem 𝓡.returns in let W = walk_of 𝓛 self.ended stayed c in
    proved 𝓛 self.ended stayed c 𝓜 𝓡 (Goes-spent_ref 𝓛 2 (0 ∷ []) tt (plain (λ κs. decoder.the_row (record { mir = named 1; lft = κs.1.0 }))), tt)
    self.Key.name code.function (code.unfolded 𝓤 𝓛.H 𝓜 𝓡 wired)
    (λ κs. (mut_vals, tt)) (λ κs. (mut_Tells (named 0) κs.0 (decoder.the_row (record { mir = named 1; lft = κs.1.0 })), tt)) (λ κs qs bounds a g are.
    let me = a.0 in let b = me.ref_ptr.0 in let o = me.ref_ptr.1 in let γ = me.ghost_name in
    let α : NamedLft = record { mir = named 1; lft = κs.1.0 } in let R : RattleType = decoder.the_row α in
    let F : RattleType = MutSlice (named 1) κs.1.0 u8 in
    let x : MutBor (List ℕ) = me.now.dest in let n : ℕ = length x.now in
    let put : MutBor (List ℕ) → CobsDecoder = λ w. record me.now { dest = w } in
    let y : W.Ghost = ((κs, qs, bounds, a, (mut_vals me, tt)), tt) in
    qed 𝓛 (((‵ (flft κs.0 qs.0) ⊛ ‵ (flft κs.1.0 qs.1.0) ⊛ ‵ ftrue) ⊛ ‵ (owns (MutRef (named 0) κs.0 R ∷ []) a (mut_vals me, tt))) ∷ ‵ ftrue ∷ []) ∵
    move ! (1 ∷ []) $ drop ! $ split ! $ split ! $ move ! (1 ∷ []) $ move ! (2 ∷ []) $ fsplit ! $ move ! (1 ∷ []) $ drop ! $
    -- [the decoder; the other token; the token]
    enter ! _ _ _ _ _ $ alloc_all ! (λ l. pass_all ! refl ((tt, tt), tt) $
    -- the field is cut out of the decoder
    fsplit3 ! $ drop ! $ move ! (0 ∷ 1 ∷ 3 ∷ []) $
    use3 𝓛 (later (some (λ (γ₁ : GName). ‵ (fobs γ₁ (F.coded.code x)) ⊛ ‵ (fbor κs.0 (Body (mem F) b (o + 0) γ₁)) ⊛ ‵ (flft κs.0 qs.0) ⊛ ‵ (follows R F γ γ₁ put)))) (lends_field 𝓛 α me.now κs.0 qs.0 γ b o) $ await ! tt $ pick ! (λ γ₁.
    split3 ! $ move ! (2 ∷ []) $ split ! $ move ! (2 ∷ 3 ∷ 0 ∷ []) $
    -- and read
    open_ref ! tt (mem F) {b = b} {o = o + 0} $ use1 𝓛 (some (λ (v : Val). ‵ (fat full_share slot b (o + 0) v) ⊛ ‵ (F.own_val x (v ∷ [])))) (part_out_at 𝓛 F refl full_share x b (o + 0) slot refl) $ pick ! (λ v.
    split ! $ move ! (1 ∷ []) $ fsplit3 ! $ fsplit3 ! $ feq_l ! (λ is. flt_l ! (λ fits. flt_l ! (λ small.
    rewrite ! 2 (λ (u : Val). ‵ (fat full_share slot b (o + 0) u)) (ap only is) refl $
    sets ! (of_opd ! (load ! (through ! refl (fld ! refl (fld ! refl (stop !)))) (look_in ! 2 (sub ! 1 refl (whole !))))) refl (tt, record { fits = fits }) $
    sets ! (addr ! (through ! refl (fld ! refl (fld ! refl (hop ! (look_in ! 2 (sub ! 0 refl (whole !))) (stop !)))))) refl (tt, tt) $
    sets ! (agg ! (and_then ! (get ! refl) (and_then ! (get ! refl) (no_more !)))) refl (tt, (tt, (record { fits = fits }, tt))) $
    flt_i ! (n * 1) (2 ^ 63) small $ flt_i ! n (2 ^ 64) fits $ feq_i ! (List Val) (mut_slice_vals x) (mut_slice_vals x) refl $ fjoin3 ! $ fjoin3 ! $ move ! (1 ∷ 0 ∷ []) $
    use2 𝓛 (‵ (part_at F full_share x b (o + 0))) (part_in_at 𝓛 F refl full_share x b (o + 0) slot refl (slice_val x.ref_ptr n)) $ close_ref ! tt (mem F) x {b = b} {o = o + 0} $
    -- what it refers to is lent
    use3 𝓛 (later (some (λ (γ' : GName). ‵ ((MutSlice (named 0) κs.0 u8).own_val (renamed x γ') (mut_slice_vals x)) ⊛ ‵ (flft κs.0 qs.0) ⊛ ‵ (follows F (Array u8 0) γ₁ γ' (at_last x)))))
    (lends_inner_slice 𝓛 u8 (named 0) (named 1) κs.0 κs.1.0 (record { ref_ptr = (b, o + 0); ghost_name = γ₁; now = x }) bounds.0 (fits, small) qs.0) $ await ! tt $ pick ! (λ γ'.
    split3 ! $ move ! (3 ∷ 2 ∷ []) $ use2 𝓛 (‵ (follows R (Array u8 0) γ γ' (with_buffer me.now))) (follows_then 𝓛 R F (Array u8 0) put (at_last x) γ γ₁ γ') $
    -- [what the decoder ends as; the buffer; the token; the other token]
    returns ! (look_at ! 0 refl) $ free_all ! refl $ suffices ! _ (ends_at 𝓛 self.ended stayed c y (slice_val x.ref_ptr n) (renamed x γ') (tt, tt) (tt, tt)) $
    move ! (2 ∷ 3 ∷ []) $ join ! $ move ! (2 ∷ []) $ nothing ! $ nothing ! $ fjoin ! $ join ! $ move ! (1 ∷ []) $ join ! $ frame ! $ says ! refl $ done !))))))))
