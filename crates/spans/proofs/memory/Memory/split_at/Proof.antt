-- `split_at` cuts the borrow in two. Assumes `Logic`.
use Rattle.std.proofs.Common.{◌≡◌, ℕ, ◌+◌, ◌≤◌, List, [], ◌∷◌, ◌++◌, length, refl, sym, ap, ◌∙◌, w64}
use lib.ListN.{take-append-drop}
use Rattle.std.proofs.raw_atomic.Walks.{proved_at}
use Rattle.std.proofs.VecSteps.Shapes.{after}
use mir.MapTy.{inst_fn}
use mir.Syntax.{Fn, Args as TypeArgs, a_type, dcons, dnil}
use mir.Val.{Val, vint}
use base.Fml.{GName, ftrue, flft}
use base.Logic.{SProp}
use contract.BorrowLft.{◌⊑◌}
use contract.Monad.{fact}
use contract.Running.{tables}
use prog.Wp.{Env, WpFn}
use types.Kit.{‵, raw, prop, at_ret, some, later, ◌⊛◌, ◌$◌, ◌∵◌, !, qed, done, move, keep, drop, use0, use2, use3, split, split3, join, await, pick, fsplit, fjoin, regoal, suffices}
use types.Part.{whole, sub, agg}
use types.Run.{stop, fld, of_opd, bin, and_then, no_more, first, blocks, exec, returns, enter}
use types.ByLocal.{alloc_all, pass_all, free_all, look_at, get, get_in, sets, sets_last, env}
use denote.Param.{bounded, param}
use denote.RattleType.{owns}
use denote.RawPtr.{Ptr, block_ptr}
use denote.Signature.{types_at, named_lft}
use denote.Steps.{nothing, heard}
use denote.Struct.Tuple.{Tuple}
use denote.Triple.Walked.{Stays, stay_dropped, ends_at, walk_of}
use Rattle.spans.proofs.MemoryCutLemmas.{front, back, rest_at, front_length, rest_at_is, access_cut}
use Rattle.spans.proofs.MemoryValuesLemmas.{slot_at, goes, start_val, start_own, start_told, start_made, mark_val, mark_own, mark_told, mark_made, three_val, three_of, cut_apart, says_five}
use Rattle.spans.specs.Memory.{access_owned}
use Rattle.spans.specs.contracts.memory.Start as S
use Rattle.spans.specs.contracts.memory.Memory as M'
use Rattle.spans.specs.contracts.memory.Memory.split_at as f
use Rattle.spans.proofs.memory.Memory.split_at.Statement.{statement}
use Rattle.spans.proofs.memory.Memory.split_at.Code as code

pub split_at_spec : {M : Type 1} → statement M
split_at_spec 𝓤 𝓛 𝓜 𝓡 wired K L g d met =
    let E = f.ended K g d in let c = f.clauses K g d 𝓛 𝓜.mem 𝓡.returns in let 𝓣 = tables 𝓤 𝓛.H 𝓜 𝓡 𝓡.env in
    let ps = E.signature.params in
    let stayed : Stays ps E.kept = (stay_dropped (slot_at 0 ps) E.kept.0, (stay_dropped (slot_at 1 ps) E.kept.1.0, (stay_dropped (slot_at 2 ps) E.kept.1.1.0, tt))) in
    let W = walk_of 𝓛 E stayed c in
    let by : TypeArgs = bounded (a_type ∷ []) (K, tt) (dcons d dnil) in
    let fn : Fn = inst_fn by code.function in
    proved_at 𝓛 E stayed c 𝓜 𝓡 (goes 𝓛 2 (slot_at 0 ps) E.kept.0 (λ κs x w. tt), (goes 𝓛 2 (slot_at 1 ps) E.kept.1.0 (λ κs x w. tt), (goes 𝓛 2 (slot_at 2 ps) E.kept.1.1.0 (λ κs x w. tt), tt)))
    (f.Key.name by) fn (code.unfolded 𝓤 𝓛.H 𝓜 𝓡 wired (K, tt) d) (λ z are.
    let Post : Val → SProp 𝓤 = W.post z in let a = z.0.3 in let vss = z.0.4 in
    let κ = z.0.0.0 in let q = z.0.1.0 in let κk = z.0.0.1.0 in let Mr = M'.the_row (named_lft 2 0 tt z.0.0) (param 0 K) g in
    let m = a.0 in let b = m.place.0 in let o = m.place.1 in let γ = m.name in let xs = m.bytes in let n = a.1.1.0 in
    let Lives : Type 0 = κk ⊑ K.lives in let Starts : Type 0 = a.1.0.at ≡ block_ptr b o in let Asks : Type 0 = n ≤ length xs in
    let fits = are.1.1.0.1 in
    qed 𝓛 (((‵ (flft κ q) ⊛ ‵ (flft κk z.0.1.1.0) ⊛ ‵ ftrue) ⊛ ‵ (owns (types_at ps z.0.0) a vss)) ∷ (raw (fact 𝓤 Lives) ⊛ raw (fact 𝓤 Starts) ⊛ raw (fact 𝓤 Asks)) ∷ []) ∵
    move ! (1 ∷ []) $ split ! $ drop ! $ split ! $ heard ! Starts (λ starts. heard ! Asks (λ asks. split ! $ split3 ! $ move ! (3 ∷ []) $ fsplit ! $ fsplit ! $ keep ! (1 ∷ 3 ∷ 4 ∷ []) $
    let xs₁ : List ℕ = front κ q b o γ xs n asks in let xs₂ : List ℕ = back κ q b o γ xs n asks in
    let p : ℕ = rest_at κ q b o γ xs n asks in
    let lf : length xs₁ ≡ n = front_length κ q b o γ xs n asks in
    let on = rest_at_is κ q b o γ xs n asks in
    -- [the bytes; the two tokens]
    use2 𝓛 (later (some (λ (γs : GName × GName). ‵ (access_owned g.writes κ (b, o) γs.0 xs₁) ⊛ ‵ (access_owned g.writes κ (b, p) γs.1 xs₂) ⊛ ‵ (flft κ q)))) (access_cut κ q b o γ xs n asks 𝓛 g.writes) $
    regoal ! (λ (us : List Val). prop (WpFn 𝓤 𝓛.H 𝓣.C 𝓣.Λ fn us Post))
    (λ i. mark_told vss.0 are.0.0 i ++ ((start_told a.1.0.at vss.1.0 are.1.0 ∙ ap (λ (r : Ptr). start_val r ∷ []) starts) i ++ (are.1.1.0.0 i ++ []))) refl $
    enter ! 𝓣.C 𝓣.Λ fn (mark_val ∷ start_val (block_ptr b o) ∷ vint w64 n ∷ []) Post $
    alloc_all ! (λ l. pass_all ! refl ((tt, (tt, tt)), ((tt, (tt, tt)), ((tt, record { fits = fits }), tt))) $
    let En : Env 𝓤 𝓛.H = env fn.locals l in
    first ! $ blocks ! $
    sets_last ! (bin ! (get_in ! (fld ! refl (stop !)) (sub ! 0 refl (whole !))) (get ! refl) tt) refl (tt, tt) $
    exec ! 𝓣.C 𝓣.Λ En (after 1 fn.body) (at_ret En Post) $
    sets ! (of_opd ! (get ! refl)) refl (tt, tt) $
    sets ! (agg ! (no_more !)) refl (tt, tt) $
    sets ! (agg ! (and_then ! (get ! refl) (no_more !))) refl (tt, (tt, tt)) $
    sets ! (agg ! (and_then ! (get ! refl) (no_more !))) refl (tt, (tt, tt)) $
    sets ! (agg ! (no_more !)) refl (tt, tt) $
    sets ! (agg ! (and_then ! (get ! refl) (no_more !))) refl (tt, (tt, tt)) $
    sets ! (agg ! (and_then ! (get ! refl) (and_then ! (get ! refl) (and_then ! (get ! refl) (no_more !))))) refl (tt, ((tt, tt), ((tt, tt), ((tt, tt), tt)))) $
    await ! tt $ pick ! (λ γs. split3 ! $ returns ! (look_at ! 0 refl) $ free_all ! refl $
    -- [the front; the back; the two tokens]
    let pt = block_ptr b (n + o) in
    let m₁ : (Mr).Denot = record { mark = record {}; place = (b, o); name = γs.0; bytes = xs₁ } in
    let t : (S.the_row).Denot = record { at = pt } in
    let m₂ : (Mr).Denot = record { mark = record {}; place = (b, p); name = γs.1; bytes = xs₂ } in
    use0 𝓛 (‵ (mark_own (mark_val ∷ []))) (mark_made 𝓛) $ fjoin ! $ move ! (1 ∷ []) $ use0 𝓛 (‵ (mark_own (mark_val ∷ []))) (mark_made 𝓛) $ fjoin ! $
    use0 𝓛 (‵ (start_own pt (start_val pt ∷ []))) (start_made 𝓛 pt) $ move ! (2 ∷ 0 ∷ 1 ∷ []) $
    use3 𝓛 (‵ ((Tuple (Mr ∷ S.the_row ∷ Mr ∷ [])).own_val (m₁, t, m₂) (three_val mark_val (start_val pt) mark_val ∷ []))) (three_of 𝓛 Mr S.the_row Mr m₁ t m₂ mark_val (start_val pt) mark_val) $
    suffices ! _ (ends_at 𝓛 E stayed c z (three_val mark_val (start_val pt) mark_val) (m₁, t, m₂) (tt, (tt, (tt, tt))) (tt, (tt, (tt, tt)))) $
    says_five ! refl (ap (block_ptr b) (sym on)) (sym (take-append-drop n xs)) lf (cut_apart b o n p (length xs₁) (length xs₂) lf on) $
    nothing ! $ nothing ! $ fjoin ! $ nothing ! $ fjoin ! $ nothing ! $ fjoin ! $ join ! $ nothing ! $ move ! (3 ∷ 0 ∷ []) $ join ! $ move ! (2 ∷ 0 ∷ []) $ join ! $ join ! $ done !)))))
