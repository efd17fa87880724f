-- `as_slice` shows the bytes. Assumes `Logic`.
use Rattle.std.proofs.Common.{◌≡◌, ℕ, List, [], ◌∷◌, ◌++◌, length, refl, sym, ap, ◌∙◌, w64}
use Rattle.std.proofs.raw_atomic.Walks.{proved_at}
use Rattle.std.proofs.VecSteps.Shapes.{after}
use mir.MapTy.{inst_fn}
use mir.Syntax.{Fn, Args as TypeArgs, a_type, dcons, dnil, named}
use mir.Val.{Val, vint, vptr}
use base.Fml.{ftrue, flft}
use base.Logic.{SProp}
use contract.BorrowLft.{◌⊑◌}
use contract.Monad.{fact}
use contract.Running.{tables}
use prog.Wp.{Env, WpFn}
use types.Kit.{‵, raw, prop, at_ret, ◌⊛◌, ◌$◌, ◌∵◌, !, qed, done, move, keep, drop, use1, split, split3, join, fsplit, fjoin, feq_l, regoal, rewrite, suffices}
use types.Part.{whole, sub, agg}
use types.Run.{stop, fld, of_opd, and_then, no_more, first, blocks, exec, returns, enter}
use types.ByLocal.{alloc_all, pass_all, free_all, look_at, get, get_in, sets, sets_last, env}
use denote.Builtin.{u8}
use denote.Opens.{unhide}
use denote.Param.{bounded}
use denote.RattleType.{owns}
use denote.RawPtr.{Ptr, block_ptr}
use denote.Ref.{Bor}
use denote.Signature.{types_at}
use denote.Slice.{ShrSlice, slice_val}
use denote.Steps.{nothing, heard}
use denote.Triple.Walked.{Stays, stay_dropped, says, ends_at, walk_of}
use Rattle.spans.proofs.MemorySharingLemmas.{access_shown}
use Rattle.spans.proofs.MemoryValuesLemmas.{slot_at, goes, start_val, start_told}
use Rattle.spans.specs.Memory.{bytes_seen}
use Rattle.spans.specs.contracts.memory.Memory.as_slice as f
use Rattle.spans.proofs.memory.Memory.as_slice.Statement.{statement}
use Rattle.spans.proofs.memory.Memory.as_slice.Code as code

pub as_slice_spec : {M : Type 1} → statement M
as_slice_spec 𝓤 𝓛 𝓜 𝓡 wired K L g d met =
    let E = f.ended K g d in let c = f.clauses K g d 𝓛 𝓜.mem 𝓡.returns in let 𝓣 = tables 𝓤 𝓛.H 𝓜 𝓡 𝓡.env in
    let ps = E.signature.params in
    let stayed : Stays ps E.kept = (stay_dropped (slot_at 0 ps) E.kept.0, (stay_dropped (slot_at 1 ps) E.kept.1.0, (stay_dropped (slot_at 2 ps) E.kept.1.1.0, tt))) in
    let W = walk_of 𝓛 E stayed c in
    let by : TypeArgs = bounded (a_type ∷ []) (K, tt) (dcons d dnil) in
    let fn : Fn = inst_fn by code.function in
    proved_at 𝓛 E stayed c 𝓜 𝓡 (goes 𝓛 3 (slot_at 0 ps) E.kept.0 (λ κs x w. tt), (goes 𝓛 3 (slot_at 1 ps) E.kept.1.0 (λ κs x w. tt), (goes 𝓛 3 (slot_at 2 ps) E.kept.1.1.0 (λ κs x w. tt), tt)))
    (f.Key.name by) fn (code.unfolded 𝓤 𝓛.H 𝓜 𝓡 wired (K, tt) d) (λ z are.
    let Post : Val → SProp 𝓤 = W.post z in let a = z.0.3 in let vss = z.0.4 in
    let κ = z.0.0.0 in let q = z.0.1.0 in let κa = z.0.0.1.0 in let κk = z.0.0.1.1.0 in
    let rb = a.0.ref_ptr.0 in let ro = a.0.ref_ptr.1 in let m = a.0.now in let b = m.place.0 in let o = m.place.1 in let xs = m.bytes in let n = a.1.1.0 in
    let Lives : Type 0 = κk ⊑ K.lives in let Starts : Type 0 = a.1.0.at ≡ block_ptr b o in let Asks : Type 0 = n ≡ length xs in
    let fits = are.1.1.0.1 in
    let s : Bor (List ℕ) = record { ref_ptr = (b, o); now = xs } in
    qed 𝓛 (((‵ (flft κ q) ⊛ ‵ (flft κa z.0.1.1.0) ⊛ ‵ (flft κk z.0.1.1.1.0) ⊛ ‵ ftrue) ⊛ ‵ (owns (types_at ps z.0.0) a vss)) ∷ (raw (fact 𝓤 Lives) ⊛ raw (fact 𝓤 Starts) ⊛ raw (fact 𝓤 Asks)) ∷ []) ∵
    move ! (1 ∷ []) $ split ! $ drop ! $ split ! $ heard ! Starts (λ starts. heard ! Asks (λ asks. split ! $ split ! $ move ! (1 ∷ []) $ split3 ! $ move ! (4 ∷ []) $ fsplit ! $ fsplit ! $ feq_l ! (λ e0. keep ! (0 ∷ 5 ∷ 2 ∷ 3 ∷ []) $
    -- [what the `&` holds; the three tokens]
    unhide ! $ fsplit ! $ drop ! $ use1 𝓛 (‵ (bytes_seen κ (b, o) xs)) (access_shown g.writes κ κa (b, o) m.name xs 𝓛 z.0.2.0) $
    regoal ! (λ (us : List Val). prop (WpFn 𝓤 𝓛.H 𝓣.C 𝓣.Λ fn us Post))
    (λ j. e0 j ++ ((start_told a.1.0.at vss.1.0 are.1.0 ∙ ap (λ (r : Ptr). start_val r ∷ []) starts) j ++ (are.1.1.0.0 j ++ []))) refl $
    enter ! 𝓣.C 𝓣.Λ fn (vptr rb ro ∷ start_val (block_ptr b o) ∷ vint w64 n ∷ []) Post $
    alloc_all ! (λ l. pass_all ! refl ((tt, tt), ((tt, (tt, tt)), ((tt, record { fits = fits }), tt))) $
    let En : Env 𝓤 𝓛.H = env fn.locals l in
    first ! $ blocks ! $
    sets_last ! (agg ! (and_then ! (get_in ! (fld ! refl (stop !)) (sub ! 0 refl (whole !))) (and_then ! (get ! refl) (no_more !)))) refl (tt, (tt, (record { fits = fits }, tt))) $
    exec ! 𝓣.C 𝓣.Λ En (after 1 fn.body) (at_ret En Post) $
    sets ! (of_opd ! (get ! refl)) refl (tt, (tt, (record { fits = fits }, tt))) $
    returns ! (look_at ! 0 refl) $ free_all ! refl $
    rewrite ! 0 (λ (j : ℕ). ‵ ((ShrSlice (named 0) κ u8).own_val s (slice_val (b, o) j ∷ []))) (sym asks) refl $
    suffices ! _ (ends_at 𝓛 E stayed c z (slice_val (b, o) n) s (tt, (tt, (tt, tt))) (tt, (tt, (tt, tt)))) $ says ! refl $
    nothing ! $ nothing ! $ fjoin ! $ nothing ! $ fjoin ! $ nothing ! $ fjoin ! $ join ! $ nothing ! $ move ! (4 ∷ 0 ∷ []) $ join ! $ move ! (3 ∷ 0 ∷ []) $ join ! $ move ! (2 ∷ 0 ∷ []) $ join ! $ join ! $ done !)))))
