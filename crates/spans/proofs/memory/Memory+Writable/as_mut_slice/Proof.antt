-- `as_mut_slice` lends the bytes for the call. Assumes `Logic`.
use Rattle.std.proofs.Common.{◌≡◌, ℕ, List, [], ◌∷◌, ◌++◌, length, refl, sym, ap, subst, ◌∙◌, w64}
use Rattle.std.proofs.raw_atomic.Walks.{proved_at}
use Rattle.std.proofs.VecSteps.Shapes.{after}
use mir.Syntax.{named}
use mir.Val.{Val, vint, vptr}
use seplogic.Ra.Ura.{Ura}
use base.Fraction.{full_share}
use base.Fml.{Fml, GName, ftrue, fex, fsep, flft, fobs, fbor}
use base.Logic.{SProp, ent, sep, guard, guard_i}
use base.Stored.{coded_list}
use contract.Monad.{fact}
use contract.Running.{tables}
use prog.Wp.{Env, WpFn}
use types.Logic.{Logic, sem}
use types.Through.{hands_through}
use types.Kit.{‵, raw, prop, at_ret, some, later, ◌⊛◌, ◌$◌, ◌∵◌, !, qed, by, done, move, keep, drop, use2, use3, split, split3, join, frame, await, pick, fsplit, fsplit3, fjoin, fjoin3, fpick, fpack, feq_l, feq_i, regoal, rewrite, suffices}
use types.Part.{whole, sub, agg}
use types.Run.{stop, fld, of_opd, and_then, no_more, first, blocks, exec, returns, enter}
use types.ByLocal.{alloc_all, pass_all, free_all, look_at, get, get_in, sets, sets_last, env}
use types.SemTy.{SemTy, Arr, Body as Borrowed}
use denote.Array.{Array}
use denote.Builtin.{u8}
use denote.Follow.{follows}
use denote.FollowSlice.{heres_id, slice_of}
use denote.Memory.{mem, cell_at, part_of}
use denote.RattleType.{RattleType, owns}
use denote.RawPtr.{Ptr, block_ptr}
use denote.Ref.{NamedLft}
use denote.Shadow.{pure_l, pure_i}
use denote.Signature.{types_at, named_lft}
use denote.Slice.{MutSlice, Room, slice_val, mut_slice_at, mut_slice_vals}
use denote.Steps.{nothing, heard, opens, closes}
use denote.Triple.Walked.{Stays, stay_dropped, says, ends_at, walk_of}
use Rattle.spans.proofs.MemoryValuesLemmas.{slot_at, goes, start_val, start_told, mark_own}
use Rattle.spans.specs.Memory.{borrow_of}
use Rattle.spans.specs.Lending.{with_bytes}
use Rattle.spans.specs.contracts.memory.Memory as M'
use Rattle.spans.specs.contracts.memory.Writable as W'
use Rattle.spans.specs.contracts.memory.WritableAccess.TheImpl as wa
use Rattle.spans.specs.contracts.memory.Memory+Writable.as_mut_slice as f
use Rattle.spans.proofs.memory.Memory+Writable.as_mut_slice.Statement.{statement}
use Rattle.spans.proofs.memory.Memory+Writable.as_mut_slice.Code as code

abbrev stayed : Stays f.ended.signature.params f.ended.kept
stayed = (stay_dropped (slot_at 0 f.ended.signature.params) f.ended.kept.0, (stay_dropped (slot_at 1 f.ended.signature.params) f.ended.kept.1.0, (stay_dropped (slot_at 2 f.ended.signature.params) f.ended.kept.1.1.0, tt)))

module _ {M : Type 1} {𝓤 : Ura M} (𝓛 : Logic 𝓤) (a : NamedLft) (rb ro : ℕ) (m : (M'.the_row a W'.the_row wa.ghosts).Denot) where
  open 𝓛 use {H, A}

  abbrev Mr : RattleType
  Mr = M'.the_row a W'.the_row wa.ghosts

  abbrev b : ℕ
  b = m.place.0

  abbrev o : ℕ
  o = m.place.1

  abbrev xs : List ℕ
  xs = m.bytes

  abbrev T : SemTy
  T = Arr (mem u8) (length xs)

  abbrev At : List ℕ → Fml
  At ws = mut_slice_at u8 (borrow_of m.place m.name ws) (mut_slice_vals (borrow_of m.place m.name ws))

  abbrev seen : List ℕ → Fml
  seen ws = fobs m.name ((coded_list u8.coded).code ws)

  abbrev Inner : ℕ → Fml
  Inner k = fbor a.lft (Borrowed (Arr (mem u8) k) b o m.name)

  abbrev Rest : Fml
  Rest = fex (List Val) (λ us. fsep (cell_at full_share Mr.mir us rb ro) (mark_own us))

  cut : ent 𝓤 (sem 𝓛 ((mem Mr).own_at m rb ro)) (sep 𝓤 (sem 𝓛 (seen xs)) (sep 𝓤 (sem 𝓛 (Inner (length xs))) (sem 𝓛 Rest)))
  unfolding part_of
  cut = qed 𝓛 (‵ ((mem Mr).own_at m rb ro) ∷ []) ∵ fpick ! (λ us. fsplit ! $ move ! (1 ∷ []) $ fsplit ! $ move ! (1 ∷ []) $ fsplit3 ! $ drop ! $
      rewrite ! 0 (λ (l : List ℕ). ‵ (seen l)) (heres_id u8 xs) refl $ move ! (3 ∷ 2 ∷ []) $ fjoin ! $
      fpack ! (List Val) (λ us'. fsep (cell_at full_share Mr.mir us' rb ro) (mark_own us')) us $ move ! (1 ∷ 2 ∷ 0 ∷ []) $ done !)

  tells : (w : List ℕ) → ent 𝓤 (sem 𝓛 (T.own_at w b o)) (guard 𝓤 (length w ≡ length xs) (sem 𝓛 (T.own_at w b o)))
  tells w = qed 𝓛 (‵ (T.own_at w b o) ∷ []) ∵ fsplit ! $ feq_l ! (λ e. feq_i ! ℕ (length w) (length xs) e $ fjoin ! $ by ! (guard_i 𝓤 (length w ≡ length xs) (sem 𝓛 (T.own_at w b o)) e))

  back : Room u8 (length xs) → (w : List ℕ) → length w ≡ length xs → ent 𝓤 (sep 𝓤 (sem 𝓛 (seen w)) (sep 𝓤 (sem 𝓛 (Inner (length xs))) (sem 𝓛 Rest))) (sem 𝓛 ((mem Mr).own_at (with_bytes m w) rb ro))
  unfolding part_of
  back room w e = qed 𝓛 (‵ (seen w) ∷ ‵ (Inner (length xs)) ∷ ‵ Rest ∷ []) ∵ move ! (2 ∷ []) $ fpick ! (λ us. fsplit ! $ move ! (2 ∷ 3 ∷ []) $
      rewrite ! 0 (λ (l : List ℕ). ‵ (seen l)) (sym (heres_id u8 w)) refl $ rewrite ! 1 (λ (k : ℕ). ‵ (Inner k)) (sym e) refl $ fjoin ! $
      pure_i ! (At w) (tt, (tt, tt)) (refl, subst (Room u8) (sym e) room) $ fjoin ! $ move ! (2 ∷ 0 ∷ []) $ fjoin ! $ move ! (1 ∷ 0 ∷ []) $ fjoin ! $
      fpack ! (List Val) (λ us'. fsep (cell_at full_share Mr.mir us' rb ro) (Mr.own_val (with_bytes m w) us')) us $ done !)

pub as_mut_slice_spec : {M : Type 1} → statement M
as_mut_slice_spec 𝓤 𝓛 𝓜 𝓡 wired =
    let c = f.clauses 𝓛 𝓜.mem 𝓡.returns in let W = walk_of 𝓛 f.ended stayed c in let 𝓣 = tables 𝓤 𝓛.H 𝓜 𝓡 𝓡.env in
    proved_at 𝓛 f.ended stayed c 𝓜 𝓡 (goes 𝓛 2 (slot_at 0 f.ended.signature.params) f.ended.kept.0 (λ κs x w. tt), (goes 𝓛 2 (slot_at 1 f.ended.signature.params) f.ended.kept.1.0 (λ κs x w. tt), (goes 𝓛 2 (slot_at 2 f.ended.signature.params) f.ended.kept.1.1.0 (λ κs x w. tt), tt)))
    f.Key.name code.function (code.unfolded 𝓤 𝓛.H 𝓜 𝓡 wired) (λ z are.
    let Post : Val → SProp 𝓤 = W.post z in let a = z.0.3 in let vss = z.0.4 in
    let κ = z.0.0.0 in let q = z.0.1.0 in let κa = z.0.0.1.0 in let qa = z.0.1.1.0 in
    let aa : NamedLft = named_lft 2 1 tt z.0.0 in let Mw = M'.the_row aa W'.the_row wa.ghosts in
    let rb = a.0.ref_ptr.0 in let ro = a.0.ref_ptr.1 in let γ = a.0.ghost_name in let d = a.0.now in let b' = d.place.0 in let o' = d.place.1 in let ys = d.bytes in let n = a.1.1.0 in
    let Starts : Type 0 = a.1.0.at ≡ block_ptr b' o' in let Asks : Type 0 = n ≡ length ys in
    let fits = are.1.1.0.1 in
    qed 𝓛 (((‵ (flft κ q) ⊛ ‵ (flft κa qa) ⊛ ‵ ftrue) ⊛ ‵ (owns (types_at f.ended.signature.params z.0.0) a vss)) ∷ (raw (fact 𝓤 Starts) ⊛ raw (fact 𝓤 Asks)) ∷ []) ∵
    move ! (1 ∷ []) $ split ! $ heard ! Starts (λ starts. heard ! Asks (λ asks. split ! $ split3 ! $ move ! (3 ∷ []) $ fsplit ! $ fsplit3 ! $ feq_l ! (λ e0. keep ! (0 ∷ 1 ∷ 3 ∷ 4 ∷ []) $
    -- [what the name is seen at; the borrow; the two tokens]
    regoal ! (λ (us : List Val). prop (WpFn 𝓤 𝓛.H 𝓣.C 𝓣.Λ code.function us Post))
    (λ j. e0 j ++ ((start_told a.1.0.at vss.1.0 are.1.0 ∙ ap (λ (r : Ptr). start_val r ∷ []) starts) j ++ (are.1.1.0.0 j ++ []))) refl $
    enter ! 𝓣.C 𝓣.Λ code.function (vptr rb ro ∷ start_val (block_ptr b' o') ∷ vint w64 n ∷ []) Post $
    alloc_all ! (λ l. pass_all ! refl ((tt, tt), ((tt, (tt, tt)), ((tt, record { fits = fits }), tt))) $
    let En : Env 𝓤 𝓛.H = env (code.function).locals l in
    opens ! tt Mw {h = d} rb ro (λ us. move ! (1 ∷ []) $ fsplit ! $ move ! (1 ∷ []) $ fsplit3 ! $ pure_l ! (At 𝓛 aa rb ro d ys) (λ ok.
    pure_i ! (At 𝓛 aa rb ro d ys) (tt, (tt, tt)) ok $ fjoin3 ! $ move ! (1 ∷ 0 ∷ []) $ fjoin ! $ move ! (1 ∷ 0 ∷ []) $ closes ! tt Mw d us rb ro $
    first ! $ blocks ! $
    sets_last ! (agg ! (and_then ! (get_in ! (fld ! refl (stop !)) (sub ! 0 refl (whole !))) (and_then ! (get ! refl) (no_more !)))) refl (tt, (tt, (record { fits = fits }, tt))) $
    exec ! 𝓣.C 𝓣.Λ En (after 1 (code.function).body) (at_ret En Post) $
    sets ! (of_opd ! (get ! refl)) refl (tt, (tt, (record { fits = fits }, tt))) $
    use3 𝓛 (later (some (λ (δ : GName). ‵ (fobs δ ((coded_list u8.coded).code ys)) ⊛ ‵ (fbor κ (Borrowed (T 𝓛 aa rb ro d) b' o' δ)) ⊛ ‵ (flft κ q) ⊛ ‵ (follows Mw (Array u8 0) γ δ (with_bytes d)))))
    (hands_through 𝓛 (mem Mw) (T 𝓛 aa rb ro d) (with_bytes d) κ κa z.0.2.0 rb ro b' o' γ d.name (sem 𝓛 (Rest 𝓛 aa rb ro d)) (λ w. length w ≡ length ys) (tells 𝓛 aa rb ro d) (back 𝓛 aa rb ro d ok.1) q d ys (cut 𝓛 aa rb ro d)) $
    await ! tt $ pick ! (λ δ. split3 ! $
    use2 𝓛 (‵ ((MutSlice (named 0) κ u8).own_val (borrow_of d.place δ ys) (slice_val (b', o') (length ys) ∷ []))) (slice_of 𝓛 u8 (named 0) κ b' o' δ ys ok.1) $
    rewrite ! 0 (λ (j : ℕ). ‵ ((MutSlice (named 0) κ u8).own_val (borrow_of d.place δ ys) (slice_val (b', o') j ∷ []))) (sym asks) refl $
    move ! (1 ∷ []) $ split ! $
    returns ! (look_at ! 0 refl) $ free_all ! refl $ keep ! (2 ∷ 0 ∷ 1 ∷ 3 ∷ []) $
    -- [the slice; the token; what follows it; the other token]
    suffices ! _ (ends_at 𝓛 f.ended stayed c z (slice_val (b', o') n) (borrow_of d.place δ ys) (tt, (tt, (tt, tt))) (tt, (tt, (tt, tt)))) $
    nothing ! $ nothing ! $ fjoin ! $ nothing ! $ fjoin ! $ nothing ! $ fjoin ! $ join ! $ nothing ! $ move ! (4 ∷ 0 ∷ []) $ join ! $ move ! (2 ∷ 0 ∷ []) $ join ! $ join ! $ frame ! $ says ! refl $ done !))))))))
