-- `of_shared` takes the slice's pointer and keeps what the slice owns. Assumes `Logic`.
use Rattle.std.proofs.Common.{List, [], ◌∷◌, ◌++◌, length, refl}
use Rattle.std.proofs.raw_atomic.Walks.{proved_at}
use mir.Syntax.{named}
use mir.Val.{Val}
use base.Fml.{ftrue, flft}
use contract.Running.{tables}
use types.Kit.{‵, ◌⊛◌, ◌$◌, ◌∵◌, !, qed, done, move, keep, use0, use2, split, join, fsplit, fjoin, suffices}
use types.Part.{whole, sub, agg}
use types.Run.{stop, fld, hop, from, addr, and_then, no_more, returns, enter}
use types.ByLocal.{alloc_all, pass_all, free_all, look_at, look_in_at, get, sets}
use denote.Builtin.{u8}
use denote.RattleType.{owns}
use denote.RawPtr.{block_ptr}
use types.Kit.{prop, regoal, rewrite}
use prog.Wp.{WpFn}
use base.Logic.{SProp}
use denote.Signature.{types_at}
use denote.Slice.{ShrSlice, slice_val}
use denote.Steps.{nothing}
use denote.Struct.Tuple.{Tuple}
use denote.Triple.Walked.{Stays, stay_dropped, ends_at, walk_of}
use Rattle.spans.proofs.MemoryValuesLemmas.{slot_at, goes, start_val, start_own, start_made, mark_val, mark_own, mark_made, pair_of, pair_val, says_two}
use Rattle.spans.specs.contracts.memory.Start as S
use Rattle.spans.specs.contracts.memory.Memory as M'
use Rattle.spans.specs.contracts.memory.ReadOnly as W'
use Rattle.spans.specs.contracts.memory.ReadOnlyAccess.TheImpl as wa
use Rattle.spans.specs.contracts.memory.Memory+ReadOnly.of_shared as f
use Rattle.spans.proofs.memory.Memory+ReadOnly.of_shared.Statement.{statement}
use Rattle.spans.proofs.memory.Memory+ReadOnly.of_shared.Code as code

abbrev stayed : Stays f.ended.signature.params f.ended.kept
stayed = (stay_dropped (slot_at 0 f.ended.signature.params) f.ended.kept.0, tt)

pub of_shared_spec : {M : Type 1} → statement M
of_shared_spec 𝓤 𝓛 𝓜 𝓡 wired =
    let c = f.clauses 𝓛 𝓜.mem 𝓡.returns in let W = walk_of 𝓛 f.ended stayed c in
    let 𝓣 = tables 𝓤 𝓛.H 𝓜 𝓡 𝓡.env in
    proved_at 𝓛 f.ended stayed c 𝓜 𝓡 (goes 𝓛 1 (slot_at 0 f.ended.signature.params) f.ended.kept.0 (λ κs x w. tt), tt)
    f.Key.name code.function (code.unfolded 𝓤 𝓛.H 𝓜 𝓡 wired) (λ y are.
    let Post : Val → SProp 𝓤 = W.post y in let a = y.0.3 in let vss = y.0.4 in
    let κ = y.0.0.0 in let q = y.0.1.0 in let s = a.0 in let b = s.ref_ptr.0 in let o = s.ref_ptr.1 in
    qed 𝓛 (((‵ (flft κ q) ⊛ ‵ ftrue) ⊛ ‵ (owns (types_at f.ended.signature.params y.0.0) a vss)) ∷ ‵ ftrue ∷ []) ∵
    split ! $ split ! $ move ! (2 ∷ []) $ fsplit ! $ keep ! (0 ∷ 2 ∷ []) $
    rewrite ! 0 (λ (vs : List Val). ‵ ((ShrSlice (named 0) κ u8).own_val s vs)) are.0.0.0 refl $
    regoal ! (λ (us : List Val). prop (WpFn 𝓤 𝓛.H 𝓣.C 𝓣.Λ code.function us Post)) (λ j. are.0.0.0 j ++ []) refl $
    enter ! 𝓣.C 𝓣.Λ code.function (slice_val s.ref_ptr (length s.now) ∷ []) Post $ alloc_all ! (λ l. pass_all ! refl ((tt, (tt, (record { fits = are.0.0.1.0 }, tt))), tt) $
    sets ! (addr ! (from ! (fld ! refl (hop ! (look_in_at ! 1 (sub ! 0 refl (whole !))) (stop !))))) refl (tt, tt) $
    sets ! (agg ! (and_then ! (get ! refl) (no_more !))) refl (tt, (tt, tt)) $
    sets ! (agg ! (no_more !)) refl (tt, tt) $
    sets ! (agg ! (and_then ! (get ! refl) (no_more !))) refl (tt, (tt, tt)) $
    sets ! (agg ! (and_then ! (get ! refl) (and_then ! (get ! refl) (no_more !)))) refl (tt, ((tt, tt), ((tt, tt), tt))) $
    returns ! (look_at ! 0 refl) $ free_all ! refl $
    -- [the slice; the token]
    let p = block_ptr b o in
    let m : (M'.the_row (record { mir = named 0; lft = κ }) W'.the_row wa.ghosts).Denot = record { mark = record {}; place = (b, o); name = 0; bytes = s.now } in
    let t : (S.the_row).Denot = record { at = p } in
    suffices ! _ (ends_at 𝓛 f.ended stayed c y (pair_val (start_val p) mark_val) (t, m) (tt, tt) (tt, tt)) $ says_two ! refl refl $
    use0 𝓛 (‵ (mark_own (mark_val ∷ []))) (mark_made 𝓛) $ fjoin ! $ use0 𝓛 (‵ (start_own p (start_val p ∷ []))) (start_made 𝓛 p) $
    let Mr = M'.the_row (record { mir = named 0; lft = κ }) W'.the_row wa.ghosts in
    use2 𝓛 (‵ ((Tuple (S.the_row ∷ Mr ∷ [])).own_val (t, m) (pair_val (start_val p) mark_val ∷ []))) (pair_of 𝓛 S.the_row Mr t m (start_val p) mark_val) $
    nothing ! $ nothing ! $ fjoin ! $ join ! $ nothing ! $ move ! (2 ∷ 0 ∷ []) $ join ! $ join ! $ done !))
