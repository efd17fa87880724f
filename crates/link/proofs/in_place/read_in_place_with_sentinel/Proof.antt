-- Where no stretch is ended the bytes are free again once that is answered: `cut_behind` says what they hold then.
-- The proof is by hand, since none is generated where the result holds a value of a bound's type. Assumes `Logic`.
use Rattle.link.proofs.InPlaceSteps.{◌≡◌, ℕ, List, [], ◌∷◌, ◌++◌, length, w8, w64, refl, sym, ap, ◌∙◌, subst, LendsBothIf, Array, Fn, TypeArgs, a_type, dcons, dnil, named, erased, inst_fn, Val, vstruct, of_list, Lft, ftrue, flft, id⊢, emp, ‵, raw, ◌⊛◌, some, later, ◌$◌, ◌∵◌, !, qed, by, move, keep, drop, split, join, fjoin, pick, use0, use1, await, fsplit, fpick, feq_l, rewrite, whole, sub, agg, stop, fld, hop, from, addr, of_opd, no_more, and_then, returns, enter, alloc_all, pass_all, free_all, look_at, look_in_at, get, get_in, sets, lands_as, fact, fact_i, Lfts, ◌⊑◌, tables, u8, usize, yes, no, RattleType, uint_Makes, uint_vals, uint_Tells, NamedLft, Room, mut_slice_vals, mut_slice_Tells, plain, mut_slice_of, Is, shows, shr_slice_field, Tuple, nothing, owned, heard, peeks, only, bounded, Lasts, lasts, triple_of, calls_at, framed, Stays, stay_dropped, walk_of, Goes-dropped, Goes-spent_slice, proved, leaves, Global, global_type, IsEnd, IsNext, AnswersNext, KeptUnlessEnded, Slice, Parts, Found, lawful_parts, lawful_found}
use denote.Struct.Laws as struct_law
use denote.Struct.Loose as struct_loose
use Rattle.std.proofs.alloc.Global.TheLaws as global
use Rattle.postcard_de.specs.contracts.deserialize.Deserialize.TheBound as bound
use Rattle.postcard_de.specs.contracts.de_flavors.RefSliceU8Bytes.TheImpl as shared
use Rattle.link.proofs.KeepingLemmas.{kept_unless_ended}
use Rattle.link.specs.contracts.in_place.with_end as ends
use Rattle.link.proofs.in_place.with_end.Met as end_met
use Rattle.link.specs.contracts.in_place.cut_behind as nexts
use Rattle.link.proofs.in_place.cut_behind.Met as next_met
use Rattle.link.specs.contracts.in_place.read_next as reads
use Rattle.link.proofs.in_place.read_next.Met as read_met
use Rattle.link.specs.contracts.in_place.read_in_place_with_sentinel as self
use Rattle.link.specs.contracts.in_place.read_in_place_with_sentinel.Key.{name as #self}
use Rattle.link.proofs.in_place.read_in_place_with_sentinel.Statement.{statement}
use Rattle.link.proofs.in_place.read_in_place_with_sentinel.Code as code

pub read_in_place_with_sentinel_spec : {M : Type 1} → statement M
read_in_place_with_sentinel_spec 𝓤 𝓛 𝓜 𝓡 wired T X L LX gd dd gg dg gr dr dx P met_d met_g met_r met_x =
    let H = 𝓛.H in let 𝓣 = tables 𝓤 H 𝓜 𝓡 𝓡.env in
    let En = self.ended T X gd dd gg dg gr dr dx P in let c = self.clauses T X gd dd gg dg gr dr dx P 𝓛 𝓜.mem 𝓡.returns in
    let at : TypeArgs = bounded (a_type ∷ a_type ∷ []) (T, (X, tt)) (dcons dd (dcons dg (dcons dr (dcons dx dnil)))) in
    let fn : Fn = inst_fn at code.function in
    let hs : Stays En.signature.params En.kept = (stay_dropped (plain (λ _. Global)) yes, (stay_dropped (mut_slice_of (0 ∷ []) tt (plain (λ _. u8))) no, (stay_dropped (plain (λ _. u8)) yes, tt))) in
    proved 𝓛 En hs c 𝓜 𝓡
    (Goes-dropped 𝓛 3 (plain (λ _. Global)) yes (λ κs x w. refl), (Goes-spent_slice 𝓛 3 (0 ∷ []) tt (plain (λ _. u8)), (Goes-dropped 𝓛 3 (plain (λ _. u8)) yes (λ κs x w. refl), tt)))
    (#self at) fn (code.unfolded 𝓤 H 𝓜 𝓡 wired (T, (X, tt)) dd dg dr dx)
    (λ κs. ((λ x. struct_law.val global_type global.the_laws x ∷ []), (mut_slice_vals, (uint_vals w8, tt))))
    (λ κs. (struct_law.tells global_type global.the_laws, (mut_slice_Tells (named 0) κs.0 u8, (uint_Tells w8, tt))))
    (λ κs qs bounds a g are.
    let alloc = a.0 in let me = a.1.0 in let sentinel = a.1.1.0 in
    let gs = struct_law.val global_type global.the_laws alloc ∷ [] in let us = mut_slice_vals me in let ss = uint_vals w8 sentinel in
    let W = walk_of 𝓛 En hs c in
    let y : W.Ghost = ((κs, qs, bounds, a, (gs, (us, (ss, tt)))), tt) in
    let t₀ = ‵ (flft κs.0 qs.0) in let t₁ = ‵ (flft κs.1.0 qs.1.0) in let t₂ = ‵ (flft κs.1.1.0 qs.1.1.0) in
    let α : NamedLft = record { mir = named 0; lft = κs.0 } in
    let Ended : RattleType = Tuple (usize ∷ Slice α ∷ []) in let Cut : RattleType = Parts α in let Res : RattleType = Found α T in
    let room : Room u8 (length me.now) = are.1.0.0.1 in
    -- the call of `with_end`
    let E₀ = ends.ended in
    let G₀ = triple_of 𝓛 ends.signature (ends.spec 𝓛 𝓜.mem 𝓡.returns) in
    let z₀ : G₀.Ghost = (((κs.0, tt), (qs.0, tt), tt, (me, (sentinel, tt)), (us, (ss, tt))), tt) in
    -- the call of `read_next`
    let P₂ : Lfts 3 → Type 0 = λ κs'. κs'.0 ≡ κs.0 in
    let Bound : Lft → Type 2 = λ κ. bound.Met 𝓛 𝓜 𝓡 𝓡.env T (shr_slice_field (record { mir = erased; lft = κ }) u8 tt).row X gd dd gg dg gr dr shared.ghosts shared.dict in
    let E₂ = reads.ended T X gd dd gg dg gr dr dx P₂ in
    let G₂ = triple_of 𝓛 (reads.signature T X) (reads.spec T X gd dd gg dg gr dr dx P₂ 𝓛 𝓜.mem 𝓡.returns) in
    qed 𝓛 (((t₀ ⊛ t₁ ⊛ t₂ ⊛ ‵ ftrue) ⊛ ‵ (Global.own_val alloc gs) ⊛ ‵ ((Slice α).own_val me us) ⊛ ‵ (u8.own_val sentinel ss) ⊛ ‵ ftrue)
    ∷ (raw (fact 𝓤 (κs.1.0 ⊑ T.lives)) ⊛ raw (fact 𝓤 (κs.1.1.0 ⊑ X.lives)) ⊛ raw (fact 𝓤 (P κs)) ⊛ ‵ ftrue) ∷ []) ∵
    move ! (1 ∷ []) $ split ! $ heard ! _ (λ t_lives. split ! $ heard ! _ (λ x_lives. split ! $ heard ! _ (λ p. drop ! $
    split ! $ split ! $ move ! (2 ∷ []) $ split ! $ move ! (1 ∷ []) $ split ! $ keep ! (3 ∷ 4 ∷ 2 ∷ 0 ∷ []) $
    -- [a token; two tokens; the two parameters]
    enter ! _ _ _ _ _ $ alloc_all ! (λ l. pass_all ! refl (((struct_loose.loose_lawful global_type global.the_loose 𝓛).typed alloc gs are.0).0, ((tt, (tt, (record { fits = room.0 }, tt))), ((tt, record { fits = are.1.1.0.1 }), tt))) $
    sets ! (addr ! (from ! (fld ! refl (hop ! (look_in_at ! 2 (sub ! 0 refl (whole !))) (stop !))))) refl (tt, tt) $
    sets ! (agg ! (and_then ! (get ! refl) (and_then ! (get_in ! (fld ! refl (stop !)) (sub ! 1 refl (whole !))) (no_more !)))) refl (tt, (tt, (record { fits = room.0 }, tt))) $
    -- what `with_end` asks: its token, the slice and the sentinel
    nothing ! $ move ! (1 ∷ 0 ∷ []) $ join ! $ nothing ! $ owned ! u8 (Is u8) (uint_Makes 𝓛 w8) sentinel ss (refl, are.1.1.0.1) $ join ! $ move ! (4 ∷ 0 ∷ []) $ join ! $ move ! (1 ∷ 0 ∷ []) $ join ! $
    nothing ! $ move ! (1 ∷ 0 ∷ []) $ join ! $ use1 𝓛 (raw (G₀.pre z₀)) (id⊢ 𝓤 _) $
    calls_at ! (framed 𝓤 H 𝓜 𝓣) G₀ (end_met.met 𝓤 𝓛 𝓜 𝓡 (code.calls-link::in_place::with_end 𝓡.env wired)) z₀ (and_then ! (get ! refl) (and_then ! (get ! refl) (no_more !))) (λ e.
    use1 𝓛 (later (some (λ (x : Ended.Denot). ((t₀ ⊛ ‵ ftrue) ⊛ ‵ (Ended.own_val x (e ∷ []))) ⊛
    some (λ (ls : Lasts E₀ z₀.0.0 z₀.0.3). ‵ (lasts E₀ z₀.0.0 z₀.0.3 ls) ⊛ raw (fact 𝓤 (IsEnd sentinel me.now x.0)) ⊛ raw (fact 𝓤 (x.1.now ≡ me.now)) ⊛ raw (fact 𝓤 (x.1.ghost_name ≡ me.ghost_name)))))) (id⊢ 𝓤 _) $
    await ! tt $ pick ! (λ x. split ! $ move ! (1 ∷ []) $ pick ! (λ ls. split ! $ drop ! $ split ! $ heard ! _ (λ is_end. split ! $ heard ! _ (λ same_bytes. heard ! _ (λ same_name.
    split ! $ move ! (1 ∷ []) $ fpick ! (λ vss. fsplit ! $ feq_l ! (λ is_pair. fsplit ! $ move ! (1 ∷ []) $ fsplit ! $
    peeks ! (Slice α) _ (shows 𝓛 (Slice α)) x.1 vss.1.0 (λ is_slice. move ! (2 ∷ []) $ peeks ! usize _ (shows 𝓛 usize) x.0 vss.0 (λ is_count. drop ! $
    rewrite ! 0 (λ (ws : List Val). ‵ ((Slice α).own_val x.1 ws)) is_slice.0.0 refl $ move ! (1 ∷ []) $ drop ! $ move ! (1 ∷ []) $ split ! $ move ! (1 ∷ []) $ drop ! $ move ! (0 ∷ 2 ∷ 3 ∷ 1 ∷ []) $
    -- [a token; two tokens; the allocator; the slice]
    let es = uint_vals w64 x.0 in let us₁ = mut_slice_vals x.1 in
    let rest : Room u8 (length x.1.now) = is_slice.0.1 in
    lands_as ! (ap only (is_pair ∙ ap (λ (ws : List Val). vstruct (of_list (ws ++ (vss.1.0 ++ []))) ∷ []) is_count.0 ∙ ap (λ (ws : List Val). vstruct (of_list (es ++ (ws ++ []))) ∷ []) is_slice.0.0)) refl (tt, (record { fits = is_count.1 }, ((tt, (record { fits = rest.0 }, tt)), tt))) $
    sets ! (of_opd ! (get_in ! (fld ! refl (stop !)) (sub ! 0 refl (whole !)))) refl (tt, record { fits = is_count.1 }) $
    sets ! (of_opd ! (get_in ! (fld ! refl (stop !)) (sub ! 1 refl (whole !)))) refl (tt, (tt, (record { fits = rest.0 }, tt))) $
    sets ! (addr ! (from ! (fld ! refl (hop ! (look_in_at ! 5 (sub ! 0 refl (whole !))) (stop !))))) refl (tt, tt) $
    sets ! (agg ! (and_then ! (get ! refl) (and_then ! (get_in ! (fld ! refl (stop !)) (sub ! 1 refl (whole !))) (no_more !)))) refl (tt, (tt, (record { fits = rest.0 }, tt))) $
    -- what `cut_behind` asks: its token, the slice and the count
    let E₁ = nexts.ended in
    let G₁ = triple_of 𝓛 nexts.signature (nexts.spec 𝓛 𝓜.mem 𝓡.returns) in
    let z₁ : G₁.Ghost = (((κs.0, tt), (qs.0, tt), tt, (x.1, (x.0, tt)), (us₁, (es, tt))), tt) in
    nothing ! $ move ! (1 ∷ 0 ∷ []) $ join ! $ nothing ! $ owned ! usize (Is usize) (uint_Makes 𝓛 w64) x.0 es (refl, is_count.1) $ join ! $ move ! (4 ∷ 0 ∷ []) $ join ! $ move ! (1 ∷ 0 ∷ []) $ join ! $
    nothing ! $ move ! (1 ∷ 0 ∷ []) $ join ! $ use1 𝓛 (raw (G₁.pre z₁)) (id⊢ 𝓤 _) $
    calls_at ! (framed 𝓤 H 𝓜 𝓣) G₁ (next_met.met 𝓤 𝓛 𝓜 𝓡 (code.calls-link::in_place::cut_behind 𝓡.env wired)) z₁ (and_then ! (get ! refl) (and_then ! (get ! refl) (no_more !))) (λ v.
    use1 𝓛 (later (some (λ (c₁ : Cut.Denot). ((t₀ ⊛ ‵ ftrue) ⊛ ‵ (Cut.own_val c₁ (v ∷ []))) ⊛
    some (λ (ls₁ : Lasts E₁ z₁.0.0 z₁.0.3). ‵ (lasts E₁ z₁.0.0 z₁.0.3 ls₁) ⊛ raw (fact 𝓤 ((s : ℕ) → IsEnd s x.1.now x.0 → IsNext s x.0 x.1.now c₁)) ⊛ ‵ (LendsBothIf (Array u8 0) (Array u8 0) (Array u8 0) x.1 c₁ ◌++◌ x.1.now))))) (id⊢ 𝓤 _) $
    await ! tt $ pick ! (λ c₁. split ! $ move ! (1 ∷ []) $ pick ! (λ ls₁. split ! $ drop ! $ split ! $ heard ! _ (λ cuts.
    let next : IsNext sentinel x.0 me.now c₁ = subst (λ (b : List ℕ). IsEnd sentinel b x.0 → IsNext sentinel x.0 b c₁) same_bytes (cuts sentinel) is_end in
    move ! (1 ∷ []) $ split ! $ split ! $ move ! (2 ∷ []) $
    -- [the parts; a token; nothing; what they lend; the other tokens; the allocator]
    peeks ! Cut _ (shows 𝓛 Cut) c₁ (v ∷ []) (λ has.
    let z₂ : G₂.Ghost = (((κs.0, (κs.1.0, (κs.1.1.0, tt))), (qs.0, (qs.1.0, (qs.1.1.0, tt))), tt, (alloc, (c₁, (x.0, (sentinel, tt)))), (gs, (v ∷ [], (es, (ss, tt))))), tt) in
    let typed = ((lawful_parts 𝓛 α).typed c₁ (v ∷ []) has).0 in
    lands_as ! refl refl typed $ sets ! (of_opd ! (get ! refl)) refl typed $
    -- what `read_next` asks, likewise, and its facts
    move ! (1 ∷ 4 ∷ []) $ join ! $
    nothing ! $ owned ! u8 (Is u8) (uint_Makes 𝓛 w8) sentinel ss (refl, are.1.1.0.1) $ join ! $ owned ! usize (Is usize) (uint_Makes 𝓛 w64) x.0 es (refl, is_count.1) $ join ! $ move ! (2 ∷ 0 ∷ []) $ join ! $ move ! (4 ∷ 0 ∷ []) $ join ! $ move ! (1 ∷ 0 ∷ []) $ join ! $
    use0 𝓛 (raw (fact 𝓤 ((bytes : List ℕ) × IsNext sentinel x.0 bytes c₁))) (fact_i 𝓤 _ (emp 𝓤) (me.now, next)) $ use0 𝓛 (raw (fact 𝓤 (κs.0 ≡ κs.0))) (fact_i 𝓤 _ (emp 𝓤) refl) $ join ! $ use0 𝓛 (raw (fact 𝓤 (κs.1.1.0 ⊑ X.lives))) (fact_i 𝓤 _ (emp 𝓤) x_lives) $ join ! $ use0 𝓛 (raw (fact 𝓤 (κs.1.0 ⊑ T.lives))) (fact_i 𝓤 _ (emp 𝓤) t_lives) $ join ! $
    move ! (1 ∷ 0 ∷ []) $ join ! $ use1 𝓛 (raw (G₂.pre z₂)) (id⊢ 𝓤 _) $
    calls_at ! (framed 𝓤 H 𝓜 𝓣) G₂ (read_met.met 𝓤 𝓛 𝓜 𝓡 (code.calls-link::in_place::read_next 𝓡.env wired) T X L LX gd dd gg dg gr dr dx P₂ (λ κs' e. subst Bound (sym e) (met_d κs p)) met_g met_r met_x) z₂ (and_then ! (get ! refl) (and_then ! (get ! refl) (and_then ! (get ! refl) (and_then ! (get ! refl) (no_more !))))) (λ u.
    use1 𝓛 (later (some (λ (r : Res.Denot). ((t₀ ⊛ t₁ ⊛ t₂ ⊛ ‵ ftrue) ⊛ ‵ (Res.own_val r (u ∷ []))) ⊛
    some (λ (ls : Lasts E₂ z₂.0.0 z₂.0.3). ‵ (lasts E₂ z₂.0.0 z₂.0.3 ls) ⊛ raw (fact 𝓤 ((bytes : List ℕ) → IsNext sentinel x.0 bytes c₁ → AnswersNext gr.form.takes gr.form.reads gr.form.growing sentinel bytes r)))))) (id⊢ 𝓤 _) $
    await ! tt $ pick ! (λ r. split ! $ move ! (1 ∷ []) $ pick ! (λ ls'. split ! $ drop ! $ heard ! _ (λ answers. split ! $ move ! (1 ∷ []) $
    -- [the answer; the tokens; nothing; what is lent]
    peeks ! Res _ (shows 𝓛 Res) r (u ∷ []) (λ has'.
    let told : AnswersNext gr.form.takes gr.form.reads gr.form.growing sentinel me.now r = answers me.now next in
    lands_as ! refl refl ((lawful_found 𝓛 α T L).typed r (u ∷ []) has').0 $ returns ! (look_at ! 0 refl) $ free_all ! refl $
    -- what is owed: the tokens, nothing of the parameters, the result, and the two clauses
    move ! (3 ∷ []) $ use1 𝓛 (‵ (KeptUnlessEnded me r)) (kept_unless_ended 𝓛 gr.form.takes gr.form.reads gr.form.growing sentinel x.0 me x.1 same_bytes same_name c₁ r next told) $
    use0 𝓛 (raw (fact 𝓤 (AnswersNext gr.form.takes gr.form.reads gr.form.growing sentinel me.now r))) (fact_i 𝓤 _ (emp 𝓤) told) $ join ! $
    nothing ! $ nothing ! $ fjoin ! $ nothing ! $ fjoin ! $ nothing ! $ fjoin ! $ keep ! (3 ∷ 0 ∷ 2 ∷ 1 ∷ []) $
    by ! (leaves 𝓛 En hs c y u r (tt, (tt, (tt, tt))) (tt, (tt, (tt, tt)))))))))))))))))))))))))))))
