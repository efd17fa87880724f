-- `of` takes the slice's pointer and keeps what the slice owns. Assumes `Logic`.
use Rattle.std.proofs.Common.{[], ◌∷◌, refl}
use Rattle.std.proofs.raw_atomic.Walks.{proved}
use mir.Syntax.{named}
use base.Fml.{ftrue, flft}
use types.Kit.{‵, ◌⊛◌, ◌$◌, ◌∵◌, !, qed, done, move, keep, use0, use2, split, join, fjoin, suffices}
use types.Part.{whole, sub, agg}
use types.Run.{stop, fld, hop, from, addr, and_then, no_more, returns, enter}
use types.ByLocal.{alloc_all, pass_all, free_all, look_at, look_in_at, get, sets}
use denote.Builtin.{u8}
use denote.Exit.{no}
use denote.RawPtr.{block_ptr}
use denote.Signature.{plain, mut_slice_of}
use denote.Slice.{MutSlice, mut_slice_vals, mut_slice_Tells}
use denote.Steps.{nothing}
use denote.Struct.Tuple.{Tuple}
use denote.Triple.Walked.{Stays, stay_dropped, ends_at, walk_of, Goes-spent_slice}
use Rattle.spans.proofs.MemoryValuesLemmas.{start_val, start_own, start_made, mark_val, mark_own, mark_made, pair_of, pair_val, says_four}
use Rattle.spans.specs.contracts.memory.Start as S
use Rattle.spans.specs.contracts.memory.Memory as M'
use Rattle.spans.specs.contracts.memory.Writable as W'
use Rattle.spans.specs.contracts.memory.WritableAccess.TheImpl as wa
use Rattle.spans.specs.contracts.memory.Memory+Writable.of as f
use Rattle.spans.proofs.memory.Memory+Writable.of.Statement.{statement}
use Rattle.spans.proofs.memory.Memory+Writable.of.Code as code

abbrev stayed : Stays f.ended.signature.params f.ended.kept
stayed = (stay_dropped (mut_slice_of (0 ∷ []) tt (plain (λ _. u8))) no, tt)

pub of_spec : {M : Type 1} → statement M
of_spec 𝓤 𝓛 𝓜 𝓡 wired =
    let c = f.clauses 𝓛 𝓜.mem 𝓡.returns in let W = walk_of 𝓛 f.ended stayed c in
    proved 𝓛 f.ended stayed c 𝓜 𝓡 (Goes-spent_slice 𝓛 1 (0 ∷ []) tt (plain (λ _. u8)), tt)
    f.Key.name code.function (code.unfolded 𝓤 𝓛.H 𝓜 𝓡 wired)
    (λ κs. (mut_slice_vals, tt)) (λ κs. (mut_slice_Tells (named 0) κs.0 u8, tt)) (λ κs qs bounds a _ are.
    let κ = κs.0 in let q = qs.0 in let s = a.0 in let b = s.ref_ptr.0 in let o = s.ref_ptr.1 in let vs = mut_slice_vals s in
    let y : W.Ghost = ((κs, qs, bounds, a, (vs, tt)), tt) in
    qed 𝓛 (((‵ (flft κ q) ⊛ ‵ ftrue) ⊛ ‵ ((MutSlice (named 0) κ u8).own_val s vs) ⊛ ‵ ftrue) ∷ ‵ ftrue ∷ []) ∵
    split ! $ split ! $ move ! (2 ∷ []) $ split ! $ keep ! (0 ∷ 2 ∷ []) $
    enter ! _ _ _ _ _ $ alloc_all ! (λ l. pass_all ! refl ((tt, (tt, (record { fits = are.0.0.1.0 }, tt))), tt) $
    sets ! (addr ! (from ! (fld ! refl (hop ! (look_in_at ! 1 (sub ! 0 refl (whole !))) (stop !))))) refl (tt, tt) $
    sets ! (agg ! (and_then ! (get ! refl) (no_more !))) refl (tt, (tt, tt)) $
    sets ! (agg ! (no_more !)) refl (tt, tt) $
    sets ! (agg ! (and_then ! (get ! refl) (no_more !))) refl (tt, (tt, tt)) $
    sets ! (agg ! (and_then ! (get ! refl) (and_then ! (get ! refl) (no_more !)))) refl (tt, ((tt, tt), ((tt, tt), tt))) $
    returns ! (look_at ! 0 refl) $ free_all ! refl $
    -- [the slice; the token]
    let p = block_ptr b o in
    let m : (M'.the_row (record { mir = named 0; lft = κ }) W'.the_row wa.ghosts).Denot = record { mark = record {}; place = (b, o); name = s.ghost_name; bytes = s.now } in
    let t : (S.the_row).Denot = record { at = p } in
    suffices ! _ (ends_at 𝓛 f.ended stayed c y (pair_val (start_val p) mark_val) (t, m) (tt, tt) (tt, tt)) $ says_four ! refl refl refl refl $
    use0 𝓛 (‵ (mark_own (mark_val ∷ []))) (mark_made 𝓛) $ fjoin ! $ use0 𝓛 (‵ (start_own p (start_val p ∷ []))) (start_made 𝓛 p) $
    let Mr = M'.the_row (record { mir = named 0; lft = κ }) W'.the_row wa.ghosts in
    use2 𝓛 (‵ ((Tuple (S.the_row ∷ Mr ∷ [])).own_val (t, m) (pair_val (start_val p) mark_val ∷ []))) (pair_of 𝓛 S.the_row Mr t m (start_val p) mark_val) $
    nothing ! $ nothing ! $ fjoin ! $ join ! $ nothing ! $ move ! (2 ∷ 0 ∷ []) $ join ! $ join ! $ done !))
