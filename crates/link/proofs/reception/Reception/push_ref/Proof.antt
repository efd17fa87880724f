-- What `advance` says of the receiver afterwards, `push_ref` says too: reading the message takes only shared bytes.
-- The proof is by hand, since none is generated where the result holds a value of a bound's type. Assumes `Logic`.
use Rattle.link.proofs.InPlaceSteps.{◌≡◌, [], ◌∷◌, refl, sym, subst, ⊤, none, Ura, w8, Fn, TypeArgs, a_type, dcons, dnil, named, erased, inst_fn, Fml, Lft, GName, ftrue, flft, ent, id⊢, emp, ex_e, ex_i, Logic, sem, ‵, raw, ◌⊛◌, some, later, ◌$◌, ◌∵◌, !, qed, by, move, keep, drop, split, join, fjoin, pick, use0, use1, await, stop, addr, of_opd, no_more, and_then, returns, enter, alloc_all, pass_all, free_all, look_at, get, through, sets, lands_as, fact, fact_i, Lfts, ◌⊑◌, tables, u8, yes, no, RattleType, NamedLft, MutRef, mut_vals, mut_Tells, ShrSlice, shr_slice_vals, shr_slice_Tells, plain, mut_ref_to, shr_slice_of, Lawful, shows, shr_slice_field, nothing, heard, peeks, uint_row_laws, param, bounded, Laws, param_laws, of_field, copy_shared, Lasts, lasts, triple_of, calls_at, framed, Stays, stay_dropped, walk_of, Goes-dropped, Goes-spent_ref, proved, leaves, Global, global_type}
use denote.Follow.{follows_by, such_by, follows_so}
use denote.Struct.Laws as struct_law
use denote.Struct.Loose as struct_loose
use Rattle.std.proofs.alloc.Global.TheLaws as global
use Rattle.postcard_de.specs.contracts.deserialize.Deserialize.TheBound as bound
use Rattle.postcard_de.specs.contracts.de_flavors.RefSliceU8Bytes.TheImpl as bytes
use Rattle.link.specs.Lending.{ReadsLent, AdvancesToEvent, Leads, AnswersBy, StandsBy}
use Rattle.link.proofs.LentByLemmas.{lent_answers, lent_stands}
use Rattle.link.specs.contracts.reception.Taken.{the_row as Taken, the_type as taken_type}
use Rattle.link.proofs.reception.Taken.TheLaws as taken
use Rattle.link.specs.contracts.receiver.Pushed.{the_row as Pushed, the_type as pushed_type}
use Rattle.link.proofs.receiver.Pushed.TheLaws as pushed
use Rattle.link.specs.contracts.reception.Reception.{the_row as Reception}
use Rattle.link.specs.contracts.reception.Reception.advance as advances
use Rattle.link.proofs.reception.Reception.advance.Met as advanced_met
use Rattle.link.specs.contracts.lent.pushed as reads
use Rattle.link.proofs.lent.pushed.Met as read_met
use Rattle.link.specs.contracts.reception.Reception.push_ref as self
use Rattle.link.specs.contracts.reception.Reception.push_ref.Key.{name as #self}
use Rattle.link.proofs.reception.Reception.push_ref.Statement.{statement}
use Rattle.link.proofs.reception.Reception.push_ref.Code as code

-- it ends as a value with this property
abbrev Ends : (R : RattleType) → GName → (R.Denot → Type 0) → Fml
Ends R γ P = follows_so R R γ none (λ _ _. ⊤) P

ends_as : {M : Type 1} {𝓤 : Ura M} (𝓛 : Logic 𝓤) (R : RattleType) (γ : GName) (P Q : R.Denot → Type 0) → ((x : R.Denot) → P x → Q x) → ent 𝓤 (sem 𝓛 (Ends R γ P)) (sem 𝓛 (Ends R γ Q))
unfolding such_by
ends_as {𝓤 = 𝓤} 𝓛 R γ P Q f = ex_e 𝓤 _ (λ s.
    ex_i 𝓤 (λ (t : (p : (R.Denot → R.Denot) × R.Denot) × ((w : R.Denot) → ⊤) × Q p.1). sem 𝓛 (follows_by R.Denot R.Denot R.coded.code R.coded.code γ none t.0.0 t.0.1)) (s.0, s.1, f s.0.1 s.2))

-- a message that is lent so long
abbrev Lent : NamedLft → RattleType
Lent α = (shr_slice_field α u8 tt).row

lent_laws : (α : NamedLft) → Laws (Lent α)
lent_laws α = of_field (shr_slice_field α u8 tt) (struct_law.shr_slice_laws α u8 tt) refl (copy_shared (shr_slice_field α u8 tt) (struct_law.shr_slice_copy α u8 tt (uint_row_laws w8)))

-- a value of either type has that type in memory
lawful_taken : {M : Type 1} {𝓤 : Ura M} (𝓛 : Logic 𝓤) (α : NamedLft) → Lawful 𝓛 (Taken (Lent α))
lawful_taken 𝓛 α = struct_loose.loose_lawful (taken_type (Lent α)) (taken.the_loose (Lent α) (lent_laws α)) 𝓛

lawful_pushed : {M : Type 1} {𝓤 : Ura M} (𝓛 : Logic 𝓤) (T : RattleType) → Laws T → Lawful 𝓛 (Pushed (param 1 T))
lawful_pushed 𝓛 T L = struct_loose.loose_lawful (pushed_type (param 1 T)) (pushed.the_loose (param 1 T) (param_laws 1 T L)) 𝓛

pub push_ref_spec : {M : Type 1} → statement M
push_ref_spec 𝓤 𝓛 𝓜 𝓡 wired D T X LD L LX gc dc gd dd gg dg gr dr dx P met_c met_d met_g met_r met_x =
    let H = 𝓛.H in let 𝓣 = tables 𝓤 H 𝓜 𝓡 𝓡.env in
    let R : RattleType = Reception (param 0 D) in
    let En = self.ended D T X gc dc gd dd gg dg gr dr dx P in let c = self.clauses D T X gc dc gd dd gg dg gr dr dx P 𝓛 𝓜.mem 𝓡.returns in
    let at : TypeArgs = bounded (a_type ∷ a_type ∷ a_type ∷ []) (D, (T, (X, tt))) (dcons dc (dcons dd (dcons dg (dcons dr (dcons dx dnil))))) in
    let fn : Fn = inst_fn at code.function in
    let hs : Stays En.signature.params En.kept =
    (stay_dropped (mut_ref_to (0 ∷ []) tt (plain (λ _. R))) no, (stay_dropped (plain (λ _. Global)) yes, (stay_dropped (shr_slice_of (1 ∷ []) tt (plain (λ _. u8))) yes, tt))) in
    proved 𝓛 En hs c 𝓜 𝓡
    (Goes-spent_ref 𝓛 5 (0 ∷ []) tt (plain (λ _. R)), (Goes-dropped 𝓛 5 (plain (λ _. Global)) yes (λ κs x w. refl), (Goes-dropped 𝓛 5 (shr_slice_of (1 ∷ []) tt (plain (λ _. u8))) yes (λ κs x w. refl), tt)))
    (#self at) fn (code.unfolded 𝓤 H 𝓜 𝓡 wired (D, (T, (X, tt))) dc dd dg dr dx)
    (λ κs. (mut_vals, (λ x. struct_law.val global_type global.the_laws x ∷ [], (shr_slice_vals, tt))))
    (λ κs. (mut_Tells (named 0) κs.0 R, (struct_law.tells global_type global.the_laws, (shr_slice_Tells (named 1) κs.1.0 u8, tt))))
    (λ κs qs bounds a g are.
    let me = a.0 in let alloc = a.1.0 in let input = a.1.1.0 in
    let us = mut_vals me in let gs = struct_law.val global_type global.the_laws alloc ∷ [] in let is = shr_slice_vals input in
    let W = walk_of 𝓛 En hs c in
    let y : W.Ghost = ((κs, qs, bounds, a, (us, (gs, (is, tt)))), tt) in
    let t₀ = ‵ (flft κs.0 qs.0) in let t₁ = ‵ (flft κs.1.0 qs.1.0) in let t₂ = ‵ (flft κs.1.1.0 qs.1.1.0) in let t₃ = ‵ (flft κs.1.1.1.0 qs.1.1.1.0) in let t₄ = ‵ (flft κs.1.1.1.1.0 qs.1.1.1.1.0) in
    let α : NamedLft = record { mir = named 0; lft = κs.0 } in let β : NamedLft = record { mir = named 1; lft = κs.1.0 } in
    let Adv : RattleType = Taken (Lent α) in let Res : RattleType = Pushed (param 1 T) in
    -- the call of `advance`
    let E₁ = advances.ended D gc dc in
    let G₁ = triple_of 𝓛 (advances.signature D) (advances.spec D gc dc 𝓛 𝓜.mem 𝓡.returns) in
    let z₁ : G₁.Ghost = (((κs.0, (κs.1.0, (κs.1.1.0, tt))), (qs.0, (qs.1.0, (qs.1.1.0, tt))), bounds, (me, (input, tt)), (us, (is, tt))), tt) in
    let Step : Adv.Denot → Type 0 = λ x. AdvancesToEvent gc.inside me.now input.now x in
    -- the call of `pushed`
    let P₂ : Lfts 3 → Type 0 = λ κs'. κs'.0 ≡ κs.0 in
    let Bound : Lft → Type 2 = λ κ. bound.Met 𝓛 𝓜 𝓡 𝓡.env T (shr_slice_field (record { mir = erased; lft = κ }) u8 tt).row X gd dd gg dg gr dr bytes.ghosts bytes.dict in
    let E₂ = reads.ended T X gd dd gg dg gr dr dx P₂ in
    let G₂ = triple_of 𝓛 (reads.signature T X) (reads.spec T X gd dd gg dg gr dr dx P₂ 𝓛 𝓜.mem 𝓡.returns) in
    let Answered' : Res.Denot → Type 0 = λ r. AnswersBy gc.inside gr.form.takes gr.form.reads gr.form.growing me.now input.now r in
    qed 𝓛 (((t₀ ⊛ t₁ ⊛ t₂ ⊛ t₃ ⊛ t₄ ⊛ ‵ ftrue) ⊛ ‵ ((MutRef (named 0) κs.0 R).own_val me us) ⊛ ‵ (Global.own_val alloc gs) ⊛ ‵ ((ShrSlice (named 1) κs.1.0 u8).own_val input is) ⊛ ‵ ftrue)
    ∷ (raw (fact 𝓤 (κs.1.1.0 ⊑ D.lives)) ⊛ raw (fact 𝓤 (κs.1.1.1.0 ⊑ T.lives)) ⊛ raw (fact 𝓤 (κs.1.1.1.1.0 ⊑ X.lives)) ⊛ raw (fact 𝓤 (P κs)) ⊛ ‵ ftrue) ∷ []) ∵
    move ! (1 ∷ []) $ split ! $ heard ! _ (λ n_lives. split ! $ heard ! _ (λ t_lives. split ! $ heard ! _ (λ x_lives. split ! $ heard ! _ (λ p. drop ! $
    split ! $ split ! $ move ! (1 ∷ []) $ split ! $ move ! (1 ∷ []) $ split ! $ move ! (1 ∷ []) $ split ! $ move ! (1 ∷ []) $ split ! $ move ! (6 ∷ []) $ split ! $ move ! (1 ∷ []) $ split ! $ move ! (1 ∷ []) $ split ! $ keep ! (9 ∷ 8 ∷ 7 ∷ 6 ∷ 4 ∷ 3 ∷ 2 ∷ 0 ∷ []) $
    -- [the five tokens; the three parameters]
    enter ! _ _ _ _ _ $ alloc_all ! (λ l. pass_all ! refl ((tt, tt), (((struct_loose.loose_lawful global_type global.the_loose 𝓛).typed alloc gs are.1.0).0, ((((struct_law.shr_slice_laws β u8 tt).lawful 𝓛).typed input is are.1.1.0).0, tt))) $
    sets ! (addr ! (through ! refl (stop !))) refl (tt, tt) $
    -- what `advance` asks: its tokens, its parameters, its facts
    nothing ! $ move ! (3 ∷ 0 ∷ []) $ join ! $ move ! (2 ∷ 0 ∷ []) $ join ! $ move ! (1 ∷ 0 ∷ []) $ join ! $
    nothing ! $ move ! (6 ∷ 0 ∷ []) $ join ! $ move ! (4 ∷ 0 ∷ []) $ join ! $ move ! (1 ∷ 0 ∷ []) $ join ! $
    nothing ! $ use0 𝓛 (raw (fact 𝓤 (κs.1.1.0 ⊑ D.lives))) (fact_i 𝓤 _ (emp 𝓤) n_lives) $ join ! $
    move ! (1 ∷ 0 ∷ []) $ join ! $ use1 𝓛 (raw (G₁.pre z₁)) (id⊢ 𝓤 _) $
    calls_at ! (framed 𝓤 H 𝓜 𝓣) G₁ (advanced_met.met 𝓤 𝓛 𝓜 𝓡 (code.calls-link::reception::Reception::advance 𝓡.env wired) D LD gc dc met_c) z₁ (and_then ! (get ! refl) (and_then ! (get ! refl) (no_more !))) (λ v.
    use1 𝓛 (later (some (λ (x : Adv.Denot). ((t₀ ⊛ t₁ ⊛ t₂ ⊛ ‵ ftrue) ⊛ ‵ (Adv.own_val x (v ∷ []))) ⊛
    some (λ (ls : Lasts E₁ z₁.0.0 z₁.0.3). ‵ (lasts E₁ z₁.0.0 z₁.0.3 ls) ⊛ raw (fact 𝓤 (Step x)) ⊛ ‵ (Ends R me.ghost_name (λ m. Leads gc.inside me.now input.now m)))))) (id⊢ 𝓤 _) $
    await ! tt $ pick ! (λ x. split ! $ move ! (1 ∷ []) $ pick ! (λ ls. split ! $ drop ! $ split ! $ heard ! _ (λ stepped.
    move ! (1 ∷ []) $ split ! $ split ! $ move ! (1 ∷ []) $ split ! $ move ! (1 ∷ []) $ split ! $ move ! (4 ∷ []) $
    -- [the answer; a token; nothing; two tokens; what it ends as; two tokens more; the allocator]
    peeks ! Adv _ (shows 𝓛 Adv) x (v ∷ []) (λ has.
    let z₂ : G₂.Ghost = (((κs.0, (κs.1.1.1.0, (κs.1.1.1.1.0, tt))), (qs.0, (qs.1.1.1.0, (qs.1.1.1.1.0, tt))), tt, (alloc, (x, tt)), (gs, (v ∷ [], tt))), tt) in
    let typed = ((lawful_taken 𝓛 α).typed x (v ∷ []) has).0 in
    lands_as ! refl refl typed $ sets ! (of_opd ! (get ! refl)) refl typed $
    -- what `pushed` asks, likewise
    nothing ! $ move ! (8 ∷ 0 ∷ []) $ join ! $ move ! (7 ∷ 0 ∷ []) $ join ! $ move ! (5 ∷ 0 ∷ []) $ join ! $
    nothing ! $ move ! (2 ∷ 0 ∷ []) $ join ! $ move ! (6 ∷ 0 ∷ []) $ join ! $ move ! (1 ∷ 0 ∷ []) $ join ! $
    nothing ! $ use0 𝓛 (raw (fact 𝓤 (κs.0 ≡ κs.0))) (fact_i 𝓤 _ (emp 𝓤) refl) $ join ! $ use0 𝓛 (raw (fact 𝓤 (κs.1.1.1.1.0 ⊑ X.lives))) (fact_i 𝓤 _ (emp 𝓤) x_lives) $ join ! $ use0 𝓛 (raw (fact 𝓤 (κs.1.1.1.0 ⊑ T.lives))) (fact_i 𝓤 _ (emp 𝓤) t_lives) $ join ! $
    move ! (1 ∷ 0 ∷ []) $ join ! $ use1 𝓛 (raw (G₂.pre z₂)) (id⊢ 𝓤 _) $
    calls_at ! (framed 𝓤 H 𝓜 𝓣) G₂ (read_met.met 𝓤 𝓛 𝓜 𝓡 (code.calls-link::lent::pushed 𝓡.env wired) T X L LX gd dd gg dg gr dr dx P₂ (λ κs' e. subst Bound (sym e) (met_d κs p)) met_g met_r met_x) z₂ (and_then ! (get ! refl) (and_then ! (get ! refl) (no_more !))) (λ u.
    use1 𝓛 (later (some (λ (r : Res.Denot). ((t₀ ⊛ t₃ ⊛ t₄ ⊛ ‵ ftrue) ⊛ ‵ (Res.own_val r (u ∷ []))) ⊛
    some (λ (ls : Lasts E₂ z₂.0.0 z₂.0.3). ‵ (lasts E₂ z₂.0.0 z₂.0.3 ls) ⊛ raw (fact 𝓤 (ReadsLent gr.form.takes gr.form.reads gr.form.growing x r)))))) (id⊢ 𝓤 _) $
    await ! tt $ pick ! (λ r. split ! $ move ! (1 ∷ []) $ pick ! (λ ls'. split ! $ drop ! $ heard ! _ (λ answers. split ! $ move ! (1 ∷ []) $
    -- [the answer; three tokens; a token; nothing; a token; what it ends as]
    peeks ! Res _ (shows 𝓛 Res) r (u ∷ []) (λ has'.
    let stand = lent_stands gc.inside gr.form.takes gr.form.reads gr.form.growing me.now input.now x r stepped answers in
    lands_as ! refl refl ((lawful_pushed 𝓛 T L).typed r (u ∷ []) has').0 $ returns ! (look_at ! 0 refl) $ free_all ! refl $
    -- what is owed: the tokens, nothing of the parameters, the result, and the two clauses
    move ! (1 ∷ []) $ split ! $ move ! (1 ∷ []) $ move ! (3 ∷ 0 ∷ []) $ join ! $ move ! (4 ∷ 0 ∷ []) $ join ! $ move ! (1 ∷ 0 ∷ []) $ join ! $
    move ! (3 ∷ []) $ use1 𝓛 (‵ (Ends R me.ghost_name (λ m. StandsBy gc.inside me.now input.now r m))) (ends_as 𝓛 R me.ghost_name (λ m. Leads gc.inside me.now input.now m) (λ m. StandsBy gc.inside me.now input.now r m) stand) $
    use0 𝓛 (raw (fact 𝓤 (Answered' r))) (fact_i 𝓤 _ (emp 𝓤) (lent_answers gc.inside gr.form.takes gr.form.reads gr.form.growing me.now input.now x r stepped answers)) $ join ! $
    nothing ! $ nothing ! $ fjoin ! $ nothing ! $ fjoin ! $ nothing ! $ fjoin ! $ keep ! (2 ∷ 0 ∷ 3 ∷ 1 ∷ []) $
    by ! (leaves 𝓛 En hs c y u r (tt, (tt, (tt, tt))) (tt, (tt, (tt, tt))))))))))))))))))))
