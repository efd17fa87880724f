-- A `&` to the right to bytes shows the bytes. Assumes `Logic`.
use Rattle.std.proofs.Common.{ℕ, List, [], ◌∷◌, ◌++◌, length, refl}
use lib.ListN.{length-map}
use seplogic.Ra.Ura.{Ura}
use base.Fraction.{full_share}
use base.Logic.{sep, emp, id⊢}
use base.Fml.{Lft, GName, Fml, Incl, Incl-refl, Incl-trans, ftrue, fsep, fbor, fobs}
use contract.BorrowLft.{meet_⊑_left, meet_⊑_right, ⊑_meet, ⊑_static}
use denote.Param.Shared.{copy_shared}
use denote.Struct.Field.{u8-field}
use denote.Struct.Laws.{u8-copy}
use ghost.Rules.{span}
use types.Logic.{Logic, sem, lfts}
use types.Kit.{‵, ◌⊛◌, raw, later, await, ◌$◌, !, qed, move, drop, use0, use1, use2, split, fsplit, fjoin, feq_i, updating, now, done}
use types.Hole.{Holey, here, heres_in, heres_out}
use types.SemTy.{Body, cells, Arr}
use denote.Builtin.{u8}
use denote.Index.{row, whole_out, whole_in}
use denote.Memory.{mem, shared_of}
use denote.Plain.{uint_row_laws}
use denote.Shares.{peels, bor-Cut, shares_each}
use denote.Sharing.{ShrLaws, within, said}
use denote.Shadow.{pure_l, pure_i}
use denote.SharingLaws.{beside_shr_laws, said_shr_laws, within_shr_laws}
use denote.Slice.{heres, coded_holeys, elements_shared, elements_shr_laws, mut_slice_at, mut_slice_vals}
use denote.Struct.Lending.{Lends, Lends-both, Lends-said}
use mir.Syntax.{w8}
use mathlib.Core.Bool.{Bool, true, false}
use base.Logic.{ent, wand, apply∗}
use base.Fml.{fhide}
use denote.Opens.{hide, unhide}
use denote.SharingLaws.{contraction, shortens}
use denote.Slice.{shr_slice_at, shr_slice_vals}
use Rattle.spans.specs.Memory.{Place, borrow_of, view_of, bytes_owned, bytes_lent, bytes_seen, seen_lent, access_owned, access_lent}

module _ (κa : Lft) (place : Place) (γ : GName) (xs : List ℕ) where
  abbrev At : Fml
  At = mut_slice_at u8 (borrow_of place γ xs) (mut_slice_vals (borrow_of place γ xs))

  abbrev All : Lft → Fml
  All = elements_shared u8 xs place.0 place.1

  abbrev Obs : Fml
  Obs = fobs γ ((coded_holeys u8).code (heres u8 xs))

  abbrev Bor : Fml
  Bor = fbor κa (Body (Arr (Holey (mem u8)) (length xs)) place.0 place.1 γ)

  pub lent_laws : ShrLaws (bytes_lent κa place γ xs)
  lent_laws = beside_shr_laws (said At) (within κa All) (said_shr_laws At (tt, (tt, tt))) (within_shr_laws κa All (elements_shr_laws u8 (uint_row_laws w8) xs place.0 place.1))

  module _ {M : Type 1} {𝓤 : Ura M} (𝓛 : Logic 𝓤) (l : Lft) (il : Incl l κa) where
    open 𝓛 use {H, A}

    Lends-inner : Lends 𝓛 (fsep Obs Bor) (within κa All) l
    Lends-inner κ ts inc sp =
        let κm : Lft = κ ++ κa in
        let sm : Incl (span ts) κm = ⊑_meet (span ts) κ κa sp (Incl-trans inc il) in
        let n : ℕ = length xs in
        let Hs : Fml = (Arr (Holey (mem u8)) n).own_at (heres u8 xs) place.0 place.1 in
        let Row : Fml = row u8 full_share xs place.0 place.1 in
        qed 𝓛 (‵ (fbor κ (fsep Obs Bor)) ∷ raw (lfts 𝓛 ts) ∷ []) {P = H.⇛ (sep 𝓤 (sem 𝓛 (All κm)) (lfts 𝓛 ts))} (
        updating ! $ use1 𝓛 (‵ (fbor κm (fsep Obs Bor))) (𝓛.bors.bor_shorten κ κm (fsep Obs Bor) (meet_⊑_left κ κa)) $
        use2 𝓛 (later (‵ (fbor κm Hs) ⊛ raw (lfts 𝓛 ts))) (peels 𝓛 (Arr (Holey (mem u8)) n) κm κa ts sm γ (heres u8 xs) place.0 place.1 (meet_⊑_right κ κa)) $ await ! tt $
        use1 𝓛 (later (‵ (fbor κm Row) ⊛ (‵ (fbor κm ftrue) ⊛ raw (lfts 𝓛 ts)))) (bor-Cut 𝓛 κm ts sm Hs Row ftrue (emp 𝓤)
        (qed 𝓛 (‵ Row ∷ ‵ ftrue ∷ raw (emp 𝓤) ∷ []) {P = sem 𝓛 Hs} (move ! (1 ∷ 2 ∷ []) $ drop ! $ drop ! $
        use1 𝓛 (‵ (cells (mem u8) xs place.0 place.1)) (whole_in 𝓛 u8 xs place.0 place.1) $ use1 𝓛 (‵ (cells (Holey (mem u8)) (heres u8 xs) place.0 place.1)) (heres_in 𝓛 (mem u8) xs place.0 place.1) $
        feq_i ! ℕ (length (heres u8 xs)) n (length-map xs (here (mem u8))) $ fjoin ! $ done !))
        (qed 𝓛 (‵ Hs ∷ []) {P = sep 𝓤 (sem 𝓛 Row) (sep 𝓤 (emp 𝓤) (emp 𝓤))} (fsplit ! $ drop ! $ use1 𝓛 (‵ (cells (mem u8) xs place.0 place.1)) (heres_out 𝓛 (mem u8) xs place.0 place.1) $
        use1 𝓛 (‵ Row) (whole_out 𝓛 u8 xs place.0 place.1) $ use0 𝓛 (raw (emp 𝓤)) (id⊢ 𝓤 (emp 𝓤)) $ use0 𝓛 (raw (emp 𝓤)) (id⊢ 𝓤 (emp 𝓤)) $ move ! (2 ∷ 0 ∷ 1 ∷ []) $ done !))) $
        await ! tt $ split ! $ move ! (1 ∷ []) $ split ! $ drop ! $ move ! (1 ∷ 0 ∷ []) $
        use2 𝓛 (later (‵ (All κm) ⊛ raw (lfts 𝓛 ts))) (shares_each 𝓛 u8 (shared_of u8) [] ((copy_shared u8-field u8-copy).shares M 𝓤 𝓛) xs κm ts place.0 place.1 (⊑_static (span ts)) sm) $ await ! tt $ now ! $ done !)

    pub Lends-bytes : Lends 𝓛 (bytes_owned κa place γ xs) (bytes_lent κa place γ xs) l
    Lends-bytes = Lends-both 𝓛 At (fsep Obs Bor) (said At) (within κa All) l (Lends-said 𝓛 At (tt, (tt, tt)) l) Lends-inner

module _ (κa : Lft) (place : Place) (xs : List ℕ) where
  abbrev Seen : Fml
  Seen = shr_slice_at u8 (view_of place xs) (shr_slice_vals (view_of place xs))

  abbrev Every : Lft → Fml
  Every = elements_shared u8 xs place.0 place.1

  abbrev every_laws : ShrLaws Every
  every_laws = elements_shr_laws u8 (uint_row_laws w8) xs place.0 place.1

  pub seen_laws : ShrLaws (seen_lent κa place xs)
  seen_laws = beside_shr_laws (said Seen) (within κa Every) (said_shr_laws Seen (tt, (tt, tt))) (within_shr_laws κa Every every_laws)

  module _ {M : Type 1} {𝓤 : Ura M} (𝓛 : Logic 𝓤) (l : Lft) where
    open 𝓛 use {H, A}

    Lends-every : Lends 𝓛 (fhide (Every κa)) (within κa Every) l
    Lends-every κ ts inc sp =
        let F : Fml = fhide (Every κa) in
        qed 𝓛 (‵ (fbor κ F) ∷ raw (lfts 𝓛 ts) ∷ []) {P = H.⇛ (sep 𝓤 (sem 𝓛 (Every (κ ++ κa))) (lfts 𝓛 ts))} (
        updating ! $ use2 𝓛 (later (‵ F ⊛ raw (wand 𝓤 (sem 𝓛 F) (H.⇛ (sep 𝓤 (A.bor κ F) (lfts 𝓛 ts)))))) (𝓛.more.bor_acc_by κ ts F sp) $ await ! tt $ split ! $ unhide ! $
        use1 𝓛 (‵ (Every κa) ⊛ ‵ (Every κa)) (contraction 𝓛 Every every_laws κa) $ split ! $ use1 𝓛 (‵ (Every (κ ++ κa))) (shortens 𝓛 Every every_laws κa (κ ++ κa) (meet_⊑_right κ κa)) $ move ! (1 ∷ []) $ hide ! $
        move ! (0 ∷ 2 ∷ []) $ use2 𝓛 (later (‵ (fbor κ F) ⊛ raw (lfts 𝓛 ts))) (apply∗ 𝓤 (sem 𝓛 F) (H.⇛ (sep 𝓤 (A.bor κ F) (lfts 𝓛 ts)))) $ await ! tt $ split ! $ drop ! $ move ! (1 ∷ 0 ∷ []) $ now ! $ done !)

    Lends-seen : Lends 𝓛 (bytes_seen κa place xs) (seen_lent κa place xs) l
    Lends-seen = Lends-both 𝓛 Seen (fhide (Every κa)) (said Seen) (within κa Every) l (Lends-said 𝓛 Seen (tt, (tt, tt)) l) Lends-every

pub access_laws : (t : Bool) (κ : Lft) (place : Place) (γ : GName) (xs : List ℕ) → ShrLaws (access_lent t κ place γ xs)
access_laws true κ place γ xs = lent_laws κ place γ xs
access_laws false κ place γ xs = seen_laws κ place xs

pub Lends-access : (t : Bool) (κ : Lft) (place : Place) (γ : GName) (xs : List ℕ) {M : Type 1} {𝓤 : Ura M} (𝓛 : Logic 𝓤) (l : Lft) → Incl l κ → Lends 𝓛 (access_owned t κ place γ xs) (access_lent t κ place γ xs) l
Lends-access true κ place γ xs 𝓛 l il = Lends-bytes κ place γ xs 𝓛 l il
Lends-access false κ place γ xs 𝓛 l il = Lends-seen κ place xs 𝓛 l

-- a `&` to the right shows the bytes as a `&` of them does
pub access_shown : (t : Bool) (κ κa : Lft) (place : Place) (γ : GName) (xs : List ℕ) {M : Type 1} {𝓤 : Ura M} (𝓛 : Logic 𝓤) → Incl κ κa
    → ent 𝓤 (sem 𝓛 (access_lent t κa place γ xs κ)) (sem 𝓛 (bytes_seen κ place xs))
access_shown true κ κa place γ xs 𝓛 i =
    let All = elements_shared u8 xs place.0 place.1 in
    qed 𝓛 (‵ (bytes_lent κa place γ xs κ) ∷ []) {P = sem 𝓛 (bytes_seen κ place xs)} (
    fsplit ! $ pure_l ! (mut_slice_at u8 (borrow_of place γ xs) (mut_slice_vals (borrow_of place γ xs))) (λ ok.
    use1 𝓛 (‵ (All κ)) (shortens 𝓛 All (elements_shr_laws u8 (uint_row_laws w8) xs place.0 place.1) (κ ++ κa) κ (⊑_meet κ κ κa (Incl-refl κ) i)) $ hide ! $
    pure_i ! (shr_slice_at u8 (view_of place xs) (shr_slice_vals (view_of place xs))) (tt, (tt, tt)) (refl, ok.1) $ fjoin ! $ done !))
access_shown false κ κa place γ xs 𝓛 i =
    let All = elements_shared u8 xs place.0 place.1 in
    qed 𝓛 (‵ (seen_lent κa place xs κ) ∷ []) {P = sem 𝓛 (bytes_seen κ place xs)} (
    fsplit ! $ move ! (1 ∷ []) $ use1 𝓛 (‵ (All κ)) (shortens 𝓛 All (elements_shr_laws u8 (uint_row_laws w8) xs place.0 place.1) (κ ++ κa) κ (⊑_meet κ κ κa (Incl-refl κ) i)) $ hide ! $
    move ! (1 ∷ 0 ∷ []) $ fjoin ! $ done !)
