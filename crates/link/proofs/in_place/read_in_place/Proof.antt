-- The same at the sentinel zero. The proof is by hand for the same reason. Assumes `Logic`.
use Rattle.link.proofs.InPlaceSteps.{◌≡◌, [], ◌∷◌, length, w8, refl, sym, subst, true, IfSome, IfNone, OnErr, lit<, Fn, TypeArgs, a_type, dcons, dnil, named, erased, inst_fn, Lft, ftrue, flft, id⊢, emp, ‵, raw, ◌⊛◌, some, later, ◌$◌, ◌∵◌, !, qed, by, move, keep, drop, split, join, fjoin, pick, use0, use1, await, whole, sub, agg, stop, fld, hop, from, addr, no_more, and_then, returns, enter, lit, alloc_all, pass_all, free_all, look_at, look_in_at, get, get_in, sets, lands_as, fact, fact_i, Lfts, ◌⊑◌, tables, u8, yes, no, RattleType, uint_Makes, uint_vals, NamedLft, Room, mut_slice_vals, mut_slice_Tells, plain, mut_slice_of, Is, shows, shr_slice_field, nothing, owned, heard, peeks, bounded, Lasts, lasts, triple_of, calls_at, framed, Stays, stay_dropped, walk_of, Goes-dropped, Goes-spent_slice, proved, leaves, Global, global_type, unpadded, ReadsNext, AnswersNext, KeptUnlessEnded, Slice, Found, lawful_found}
use denote.Struct.Laws as struct_law
use denote.Struct.Loose as struct_loose
use Rattle.std.proofs.alloc.Global.TheLaws as global
use Rattle.postcard_de.specs.contracts.deserialize.Deserialize.TheBound as bound
use Rattle.postcard_de.specs.contracts.de_flavors.RefSliceU8Bytes.TheImpl as shared
use Rattle.link.proofs.ReadingLemmas.{zero_reads, zero_blank}
use Rattle.link.specs.contracts.in_place.read_in_place_with_sentinel as reads
use Rattle.link.proofs.in_place.read_in_place_with_sentinel.Met as read_met
use Rattle.link.specs.contracts.in_place.read_in_place as self
use Rattle.link.specs.contracts.in_place.read_in_place.Key.{name as #self}
use Rattle.link.proofs.in_place.read_in_place.Statement.{statement}
use Rattle.link.proofs.in_place.read_in_place.Code as code

pub read_in_place_spec : {M : Type 1} → statement M
read_in_place_spec 𝓤 𝓛 𝓜 𝓡 wired T X L LX gd dd gg dg gr dr dx P met_d met_g met_r met_x =
    let H = 𝓛.H in let 𝓣 = tables 𝓤 H 𝓜 𝓡 𝓡.env in
    let En = self.ended T X gd dd gg dg gr dr dx P in let c = self.clauses T X gd dd gg dg gr dr dx P 𝓛 𝓜.mem 𝓡.returns in
    let at : TypeArgs = bounded (a_type ∷ a_type ∷ []) (T, (X, tt)) (dcons dd (dcons dg (dcons dr (dcons dx dnil)))) in
    let fn : Fn = inst_fn at code.function in
    let hs : Stays En.signature.params En.kept = (stay_dropped (plain (λ _. Global)) yes, (stay_dropped (mut_slice_of (0 ∷ []) tt (plain (λ _. u8))) no, tt)) in
    proved 𝓛 En hs c 𝓜 𝓡
    (Goes-dropped 𝓛 3 (plain (λ _. Global)) yes (λ κs x w. refl), (Goes-spent_slice 𝓛 3 (0 ∷ []) tt (plain (λ _. u8)), tt))
    (#self at) fn (code.unfolded 𝓤 H 𝓜 𝓡 wired (T, (X, tt)) dd dg dr dx)
    (λ κs. ((λ x. struct_law.val global_type global.the_laws x ∷ []), (mut_slice_vals, tt)))
    (λ κs. (struct_law.tells global_type global.the_laws, (mut_slice_Tells (named 0) κs.0 u8, tt)))
    (λ κs qs bounds a g are.
    let alloc = a.0 in let me = a.1.0 in
    let gs = struct_law.val global_type global.the_laws alloc ∷ [] in let us = mut_slice_vals me in let ss = uint_vals w8 0 in
    let W = walk_of 𝓛 En hs c in
    let y : W.Ghost = ((κs, qs, bounds, a, (gs, (us, tt))), tt) in
    let t₀ = ‵ (flft κs.0 qs.0) in let t₁ = ‵ (flft κs.1.0 qs.1.0) in let t₂ = ‵ (flft κs.1.1.0 qs.1.1.0) in
    let α : NamedLft = record { mir = named 0; lft = κs.0 } in
    let Res : RattleType = Found α T in
    let room : Room u8 (length me.now) = are.1.0.0.1 in
    -- the call of `read_in_place_with_sentinel`
    let P₁ : Lfts 3 → Type 0 = λ κs'. κs'.0 ≡ κs.0 in
    let Bound : Lft → Type 2 = λ κ. bound.Met 𝓛 𝓜 𝓡 𝓡.env T (shr_slice_field (record { mir = erased; lft = κ }) u8 tt).row X gd dd gg dg gr dr shared.ghosts shared.dict in
    let E₁ = reads.ended T X gd dd gg dg gr dr dx P₁ in
    let G₁ = triple_of 𝓛 (reads.signature T X) (reads.spec T X gd dd gg dg gr dr dx P₁ 𝓛 𝓜.mem 𝓡.returns) in
    let z₁ : G₁.Ghost = (((κs.0, (κs.1.0, (κs.1.1.0, tt))), (qs.0, (qs.1.0, (qs.1.1.0, tt))), tt, (alloc, (me, (0, tt))), (gs, (us, (ss, tt)))), tt) in
    qed 𝓛 (((t₀ ⊛ t₁ ⊛ t₂ ⊛ ‵ ftrue) ⊛ ‵ (Global.own_val alloc gs) ⊛ ‵ ((Slice α).own_val me us) ⊛ ‵ ftrue)
    ∷ (raw (fact 𝓤 (κs.1.0 ⊑ T.lives)) ⊛ raw (fact 𝓤 (κs.1.1.0 ⊑ X.lives)) ⊛ raw (fact 𝓤 (P κs)) ⊛ ‵ ftrue) ∷ []) ∵
    move ! (1 ∷ []) $ split ! $ heard ! _ (λ t_lives. split ! $ heard ! _ (λ x_lives. split ! $ heard ! _ (λ p. drop ! $
    split ! $ split ! $ move ! (2 ∷ []) $ split ! $ move ! (1 ∷ []) $ split ! $ keep ! (3 ∷ 4 ∷ 2 ∷ 0 ∷ []) $
    -- [a token; two tokens; the two parameters]
    enter ! _ _ _ _ _ $ alloc_all ! (λ l. pass_all ! refl (((struct_loose.loose_lawful global_type global.the_loose 𝓛).typed alloc gs are.0).0, ((tt, (tt, (record { fits = room.0 }, tt))), tt)) $
    sets ! (addr ! (from ! (fld ! refl (hop ! (look_in_at ! 2 (sub ! 0 refl (whole !))) (stop !))))) refl (tt, tt) $
    sets ! (agg ! (and_then ! (get ! refl) (and_then ! (get_in ! (fld ! refl (stop !)) (sub ! 1 refl (whole !))) (no_more !)))) refl (tt, (tt, (record { fits = room.0 }, tt))) $
    -- what the call asks: the tokens, the parameters and the sentinel zero, and its facts
    join ! $
    nothing ! $ owned ! u8 (Is u8) (uint_Makes 𝓛 w8) 0 ss (refl, lit< tt) $ join ! $ move ! (3 ∷ 0 ∷ []) $ join ! $ move ! (2 ∷ 0 ∷ []) $ join ! $ move ! (1 ∷ 0 ∷ []) $ join ! $
    nothing ! $ use0 𝓛 (raw (fact 𝓤 (κs.0 ≡ κs.0))) (fact_i 𝓤 _ (emp 𝓤) refl) $ join ! $ use0 𝓛 (raw (fact 𝓤 (κs.1.1.0 ⊑ X.lives))) (fact_i 𝓤 _ (emp 𝓤) x_lives) $ join ! $ use0 𝓛 (raw (fact 𝓤 (κs.1.0 ⊑ T.lives))) (fact_i 𝓤 _ (emp 𝓤) t_lives) $ join ! $
    move ! (1 ∷ 0 ∷ []) $ join ! $ use1 𝓛 (raw (G₁.pre z₁)) (id⊢ 𝓤 _) $
    calls_at ! (framed 𝓤 H 𝓜 𝓣) G₁ (read_met.met 𝓤 𝓛 𝓜 𝓡 (code.calls-link::in_place::read_in_place_with_sentinel 𝓡.env wired) T X L LX gd dd gg dg gr dr dx P₁ (λ κs' e. subst Bound (sym e) (met_d κs p)) met_g met_r met_x) z₁
    (and_then ! (get ! refl) (and_then ! (get ! refl) (and_then ! (lit ! tt) (no_more !)))) (λ u.
    use1 𝓛 (later (some (λ (r : Res.Denot). ((t₀ ⊛ t₁ ⊛ t₂ ⊛ ‵ ftrue) ⊛ ‵ (Res.own_val r (u ∷ []))) ⊛
    some (λ (ls : Lasts E₁ z₁.0.0 z₁.0.3). ‵ (lasts E₁ z₁.0.0 z₁.0.3 ls) ⊛ raw (fact 𝓤 (AnswersNext gr.form.takes gr.form.reads gr.form.growing 0 me.now r)) ⊛ ‵ (KeptUnlessEnded me r))))) (id⊢ 𝓤 _) $
    await ! tt $ pick ! (λ r. split ! $ move ! (1 ∷ []) $ pick ! (λ ls. split ! $ drop ! $ split ! $ heard ! _ (λ told.
    move ! (1 ∷ []) $ split ! $ move ! (1 ∷ []) $
    -- [the answer; the tokens; what is lent]
    peeks ! Res _ (shows 𝓛 Res) r (u ∷ []) (λ has.
    lands_as ! refl refl ((lawful_found 𝓛 α T L).typed r (u ∷ []) has).0 $ returns ! (look_at ! 0 refl) $ free_all ! refl $
    -- what is owed: the tokens, nothing of the parameters, the result, and the four clauses
    move ! (2 ∷ []) $
    use0 𝓛 (raw (fact 𝓤 (IfSome r (λ q. OnErr q.0 (gr.form.growing ≡ true))))) (fact_i 𝓤 _ (emp 𝓤) told.memory) $ join ! $
    use0 𝓛 (raw (fact 𝓤 (IfNone r (unpadded me.now ≡ [])))) (fact_i 𝓤 _ (emp 𝓤) (zero_blank me.now r told.none)) $ join ! $
    use0 𝓛 (raw (fact 𝓤 (IfSome r (λ q. ReadsNext gr.form.takes gr.form.reads (unpadded me.now) q.0 q.1.now)))) (fact_i 𝓤 _ (emp 𝓤) (zero_reads gr.form.takes gr.form.reads me.now r told.some)) $ join ! $
    nothing ! $ nothing ! $ fjoin ! $ nothing ! $ fjoin ! $ keep ! (3 ∷ 0 ∷ 2 ∷ 1 ∷ []) $
    by ! (leaves 𝓛 En hs c y u r (tt, (tt, tt)) (tt, (tt, tt)))))))))))))
