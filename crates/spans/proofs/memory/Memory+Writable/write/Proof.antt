-- `write` sets a byte through the start. Assumes `Logic`.
use Rattle.std.proofs.Common.{◌≡◌, ℕ, ◌+◌, ◌*◌, ◌^◌, ◌<◌, List, [], ◌∷◌, ◌++◌, length, get_or, set, refl, sym, ap, subst, ◌∙◌, w8, w64, length-set}
use native.Mathlib.Nat.{mul-one}
use Rattle.std.proofs.raw_atomic.Walks.{proved_at}
use Rattle.std.proofs.VecSteps.Shapes.{after}
use mir.Syntax.{ty_int}
use mir.Val.{Val, vint, vptr, vunit}
use base.Fraction.{full_share}
use base.Fml.{Fml, ftrue, fat, flft}
use base.Logic.{SProp, ent}
use seplogic.Ra.Ura.{Ura}
use contract.Monad.{fact}
use contract.Running.{tables}
use prog.Wp.{Env, WpFn}
use types.Logic.{Logic}
use types.Kit.{‵, raw, prop, at_ret, ◌⊛◌, ⋆, ◌$◌, ◌∵◌, !, qed, by, done, move, keep, use1, use2, split, split3, join, frame, fsplit, fsplit3, fjoin, fjoin3, feq_l, feq_i, regoal, rewrite, suffices}
use types.Part.{whole, sub}
use types.Run.{stop, store, fld, of_opd, bin, unit_lit, assigns_last, first, blocks, exec, returns, enter}
use types.ByLocal.{alloc_all, pass_all, free_all, look_at, get, get_in, through, sets, env}
use denote.Builtin.{u8}
use denote.Index.{row, others, takes, puts, place_is, opens_slice, closes_slice, place as nth}
use denote.Memory.{part_at, shares}
use denote.Plain.{uint_in, uint_out}
use denote.RattleType.{owns}
use denote.RawPtr.{Ptr, block_ptr}
use denote.Shadow.{pure_l, pure_i}
use denote.Signature.{types_at, plain, named_lft}
use denote.Slice.{mut_slice_at, mut_slice_vals}
use denote.Steps.{nothing, heard, opens, closes}
use denote.Triple.Walked.{Stays, stay_dropped, stay_ref, ends_at, walk_of, Goes-ref}
use Rattle.spans.proofs.MemoryValuesLemmas.{slot_at, goes, start_val, start_told, says_three}
use Rattle.spans.specs.Memory.{borrow_of}
use Rattle.spans.specs.contracts.memory.Memory as M'
use Rattle.spans.specs.contracts.memory.Writable as W'
use Rattle.spans.specs.contracts.memory.WritableAccess.TheImpl as wa
use Rattle.spans.specs.contracts.memory.Memory+Writable.write as f
use Rattle.spans.proofs.memory.Memory+Writable.write.Statement.{statement}
use Rattle.spans.proofs.memory.Memory+Writable.write.Code as code

abbrev stayed : Stays f.ended.signature.params f.ended.kept
stayed = (stay_ref (0 ∷ []) tt (plain (λ κs. M'.the_row (named_lft 2 1 tt κs) W'.the_row wa.ghosts)), (stay_dropped (slot_at 1 f.ended.signature.params) f.ended.kept.1.0, (stay_dropped (slot_at 2 f.ended.signature.params) f.ended.kept.1.1.0, (stay_dropped (slot_at 3 f.ended.signature.params) f.ended.kept.1.1.1.0, tt))))

module _ {M : Type 1} {𝓤 : Ura M} (𝓛 : Logic 𝓤) (b o : ℕ) (xs : List ℕ) (i x : ℕ) where
  abbrev ys : List ℕ
  ys = set xs i x

  abbrev rest : Fml
  rest = others (shares u8) full_share xs i b o

  at_is : nth 1 o i ≡ i + o
  at_is = place_is 1 o i ∙ ap (λ (k : ℕ). k + o) (mul-one i)

  -- the cell of byte i is taken out of the row, and put back with x in it
  cell_out : i < length xs → ent 𝓤 (⋆ 𝓛 (‵ (row u8 full_share xs b o) ∷ [])) (⋆ 𝓛 (‵ (fat full_share (ty_int w8) b (i + o) (vint w8 (get_or xs i 0))) ∷ ‵ rest ∷ []))
  cell_out inside =
      qed 𝓛 (‵ (row u8 full_share xs b o) ∷ []) ∵
      use1 𝓛 (‵ (part_at u8 full_share (get_or xs i 0) b (nth 1 o i)) ⊛ ‵ rest) (takes (shares u8) full_share 𝓛 xs i 0 b o inside) $ split ! $
      rewrite ! 0 (λ (k : ℕ). ‵ (part_at u8 full_share (get_or xs i 0) b k)) at_is refl $
      use1 𝓛 (‵ (fat full_share (ty_int w8) b (i + o) (vint w8 (get_or xs i 0)))) (uint_out 𝓛 full_share w8 (get_or xs i 0) b (i + o)) $ done !

  cell_in : x < 2 ^ 8 → i < length xs → ent 𝓤 (⋆ 𝓛 (‵ (fat full_share (ty_int w8) b (i + o) (vint w8 x)) ∷ ‵ rest ∷ [])) (⋆ 𝓛 (‵ (row u8 full_share ys b o) ∷ []))
  cell_in fits inside =
      qed 𝓛 (‵ (fat full_share (ty_int w8) b (i + o) (vint w8 x)) ∷ ‵ rest ∷ []) ∵
      use1 𝓛 (‵ (part_at u8 full_share x b (i + o))) (uint_in 𝓛 full_share w8 x b (i + o)) $
      rewrite ! 0 (λ (k : ℕ). ‵ (part_at u8 full_share x b k)) (sym at_is) refl $
      by ! (puts (shares u8) full_share 𝓛 xs i x b o inside)

pub write_spec : {M : Type 1} → statement M
write_spec 𝓤 𝓛 𝓜 𝓡 wired =
    let c = f.clauses 𝓛 𝓜.mem 𝓡.returns in let W = walk_of 𝓛 f.ended stayed c in let 𝓣 = tables 𝓤 𝓛.H 𝓜 𝓡 𝓡.env in
    proved_at 𝓛 f.ended stayed c 𝓜 𝓡 (Goes-ref 𝓛 2 0 tt (plain (λ κs. M'.the_row (named_lft 2 1 tt κs) W'.the_row wa.ghosts)), (goes 𝓛 2 (slot_at 1 f.ended.signature.params) f.ended.kept.1.0 (λ κs x w. tt), (goes 𝓛 2 (slot_at 2 f.ended.signature.params) f.ended.kept.1.1.0 (λ κs x w. tt), (goes 𝓛 2 (slot_at 3 f.ended.signature.params) f.ended.kept.1.1.1.0 (λ κs x w. tt), tt))))
    f.Key.name code.function (code.unfolded 𝓤 𝓛.H 𝓜 𝓡 wired) (λ z are.
    let Post : Val → SProp 𝓤 = W.post z in let a = z.0.3 in let vss = z.0.4 in
    let κ = z.0.0.0 in let q = z.0.1.0 in let κa = z.0.0.1.0 in let qa = z.0.1.1.0 in
    let Mr = M'.the_row (named_lft 2 1 tt z.0.0) W'.the_row wa.ghosts in
    let rb = a.0.ref_ptr.0 in let ro = a.0.ref_ptr.1 in let m = a.0.now in let b = m.place.0 in let o = m.place.1 in let xs = m.bytes in let i = a.1.1.0 in let x = a.1.1.1.0 in
    let ys : List ℕ = set xs i x in
    let m' : (Mr).Denot = record { mark = m.mark; place = m.place; name = m.name; bytes = ys } in
    let Starts : Type 0 = a.1.0.at ≡ block_ptr b o in let Asks : Type 0 = i < length xs in
    qed 𝓛 (((‵ (flft κ q) ⊛ ‵ (flft κa qa) ⊛ ‵ ftrue) ⊛ ‵ (owns (types_at f.ended.signature.params z.0.0) a vss)) ∷ (raw (fact 𝓤 Starts) ⊛ raw (fact 𝓤 Asks)) ∷ []) ∵
    move ! (1 ∷ []) $ split ! $ heard ! Starts (λ starts. heard ! Asks (λ asks. split ! $ split3 ! $ move ! (3 ∷ []) $ fsplit ! $ fsplit3 ! $ feq_l ! (λ e0. keep ! (0 ∷ 1 ∷ 3 ∷ 4 ∷ []) $
    -- [what the name is seen at; the borrow; the two tokens]
    regoal ! (λ (us : List Val). prop (WpFn 𝓤 𝓛.H 𝓣.C 𝓣.Λ code.function us Post))
    (λ j. e0 j ++ ((start_told a.1.0.at vss.1.0 are.1.0 ∙ ap (λ (r : Ptr). start_val r ∷ []) starts) j ++ (are.1.1.0.0 j ++ (are.1.1.1.0.0 j ++ [])))) refl $
    enter ! 𝓣.C 𝓣.Λ code.function (vptr rb ro ∷ start_val (block_ptr b o) ∷ vint w64 i ∷ vint w8 x ∷ []) Post $
    alloc_all ! (λ l. pass_all ! refl ((tt, tt), ((tt, (tt, tt)), ((tt, record { fits = are.1.1.0.1 }), ((tt, record { fits = are.1.1.1.0.1 }), tt)))) $
    let En : Env 𝓤 𝓛.H = env (code.function).locals l in
    opens ! tt Mr {h = m} rb ro (λ us. move ! (1 ∷ []) $ fsplit ! $ move ! (1 ∷ []) $ fsplit3 ! $
    pure_l ! (mut_slice_at u8 (borrow_of m.place m.name xs) (mut_slice_vals (borrow_of m.place m.name xs))) (λ ok.
    move ! (0 ∷ 1 ∷ 7 ∷ []) $ opens_slice ! tt u8 xs b o $ use1 𝓛 (‵ (fat full_share (ty_int w8) b (i + o) (vint w8 (get_or xs i 0))) ⊛ ‵ (rest 𝓛 b o xs i x)) (cell_out 𝓛 b o xs i x asks) $ split ! $
    first ! $ blocks ! $
    sets ! (bin ! (get_in ! (fld ! refl (stop !)) (sub ! 0 refl (whole !))) (get ! refl) tt) refl (tt, tt) $
    assigns_last ! (of_opd ! (get ! refl)) (through ! refl (stop !)) (store ! 0 refl (tt, record { fits = are.1.1.1.0.1 })) $
    exec ! 𝓣.C 𝓣.Λ En (after 1 (code.function).body) (at_ret En Post) $
    sets ! (of_opd ! (unit_lit !)) refl (tt, tt) $
    use2 𝓛 (‵ (row u8 full_share ys b o)) (cell_in 𝓛 b o xs i x are.1.1.1.0.1 asks) $ closes_slice ! tt u8 xs ys (length-set xs i x) b o $
    fjoin ! $ pure_i ! (mut_slice_at u8 (borrow_of m.place m.name ys) (mut_slice_vals (borrow_of m.place m.name ys))) (tt, (tt, tt)) (refl, subst (λ (k : ℕ). (k < 2 ^ 64) × (k * 1 < 2 ^ 63)) (sym (length-set xs i x)) ok.1) $ fjoin ! $
    move ! (2 ∷ 0 ∷ []) $ fjoin ! $ move ! (2 ∷ 0 ∷ 3 ∷ 4 ∷ 5 ∷ []) $ closes ! tt Mr m' us rb ro $
    returns ! (look_at ! 0 refl) $ free_all ! refl $ keep ! (0 ∷ 1 ∷ 2 ∷ 3 ∷ []) $
    feq_i ! (List Val) (vunit ∷ []) (vunit ∷ []) refl $ move ! (1 ∷ 2 ∷ 3 ∷ 4 ∷ 0 ∷ []) $
    suffices ! _ (ends_at 𝓛 f.ended stayed c z vunit tt (m', (tt, (tt, (tt, tt)))) (tt, (tt, (tt, (tt, tt))))) $ says_three ! refl refl refl $
    nothing ! $ move ! (4 ∷ 0 ∷ []) $ join ! $ move ! (3 ∷ 0 ∷ []) $ join ! $ frame ! $ feq_i ! (List Val) vss.0 (vptr rb ro ∷ []) e0 $ fjoin3 ! $
    nothing ! $ nothing ! $ fjoin ! $ nothing ! $ fjoin ! $ nothing ! $ fjoin ! $ move ! (1 ∷ 0 ∷ []) $ fjoin ! $ done !)))))))
