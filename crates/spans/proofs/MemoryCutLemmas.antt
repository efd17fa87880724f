-- The right to bytes is cut in two. Assumes `Logic`.
use Rattle.std.proofs.Common.{◌≡◌, ℕ, ◌+◌, ◌≤◌, List, [], ◌∷◌, ◌++◌, length, refl, sym, ap, ◌∙◌, arith}
use native.Mathlib.Nat.{mul-one}
use lib.ListN.{take, drop as drop_l, take-append-drop, length-drop}
use mathlib.Core.Bool.{Bool, true, false}
use seplogic.Ra.Ura.{Ura}
use base.Fml.{Lft, GName, Share, flft}
use base.Logic.{SProp, ent, sep, ex}
use mir.Syntax.{named, w8}
use types.Logic.{Logic, sem}
use types.Follow.{after₂}
use types.Kit.{‵, some, later, ◌⊛◌, ◌$◌, !, qed, done, move, keep, use1, use2, split, split3, await, pick, fsplit, fjoin, rewrite, updating, now, show}
use types.SemTy.{Arr}
use borrow.Table.Elements.{at, at_mul, length-take-le}
use borrow.Table.SharedPart.{each_take, each-drop}
use borrow.Rule.Slice.Followed.{splits}
use denote.Builtin.{u8}
use denote.Memory.{mem, shared_of}
use denote.Opens.{hide, unhide}
use denote.Plain.{uint_row_laws}
use denote.Shadow.{pure_l, pure_i}
use denote.SharingLaws.{contraction}
use denote.Slice.{slice_val, elements_shared, elements_shr_laws, mut_slice_at, mut_slice_vals, shr_slice_at, shr_slice_vals}
use Rattle.spans.specs.Memory.{borrow_of, view_of, bytes_owned, bytes_seen, access_owned}

module _ (κ : Lft) (q : Share) (b o : ℕ) (γ : GName) (xs : List ℕ) (n : ℕ) (within : n ≤ length xs) where
  abbrev pub front : List ℕ
  front = take n xs

  abbrev pub back : List ℕ
  back = drop_l n xs

  -- where the rest begins
  abbrev pub rest_at : ℕ
  rest_at = at o 1 (length front)

  pub front_length : length front ≡ n
  front_length = length-take-le n xs within

  pub rest_at_is : rest_at ≡ n + o
  rest_at_is = at_mul o 1 (length front) ∙ ap (λ (k : ℕ). k + o) (mul-one (length front) ∙ front_length)

  module _ {M : Type 1} {𝓤 : Ura M} (𝓛 : Logic 𝓤) where
    open 𝓛 use {H, A}

    -- both parts, under names of their own where they may be written
    abbrev pub Cut : Bool → GName × GName → SProp 𝓤
    Cut t γs = sep 𝓤 (sem 𝓛 (access_owned t κ (b, o) γs.0 front)) (sep 𝓤 (sem 𝓛 (access_owned t κ (b, rest_at) γs.1 back)) (A.lft κ q))

    pub access_cut : (t : Bool) → ent 𝓤 (sep 𝓤 (sem 𝓛 (access_owned t κ (b, o) γ xs)) (A.lft κ q)) (H.⇛ (ex 𝓤 (Cut t)))
    access_cut true =
        let At = mut_slice_at u8 (borrow_of (b, o) γ xs) (mut_slice_vals (borrow_of (b, o) γ xs)) in
        let lf = front_length in let lb = length-drop n xs in let on = rest_at_is in
        qed 𝓛 (‵ (bytes_owned κ (b, o) γ xs) ∷ ‵ (flft κ q) ∷ []) {P = H.⇛ (ex 𝓤 (Cut true))} (
        updating ! $ fsplit ! $ pure_l ! At (λ ok. let r0 = ok.1.0 in let r1 = ok.1.1 in pure_i ! At (tt, (tt, tt)) ok $ fjoin ! $
        rewrite ! 0 (λ (zs : List ℕ). ‵ (bytes_owned κ (b, o) γ zs)) (sym (take-append-drop n xs)) refl $
        use2 𝓛 (later (some (λ (γs : GName × GName). ‵ (bytes_owned κ (b, o) γs.0 front) ⊛ ‵ (bytes_owned κ (b, rest_at) γs.1 back) ⊛ ‵ (flft κ q) ⊛ ‵ (after₂ (Arr (mem u8) 0) (Arr (mem u8) 0) (Arr (mem u8) 0) γ γs.0 γs.1 ◌++◌))))
        (splits 𝓛 u8 (named 0) κ q b o γ front back (omega arith, omega arith) (omega arith, omega arith) (slice_val (b, o) (length (front ++ back)) ∷ [])) $ await ! tt $ pick ! (λ γs. split3 ! $ move ! (2 ∷ []) $ split ! $
        keep ! (2 ∷ 3 ∷ 0 ∷ []) $ now ! $ show ! (Cut true) γs $ done !)))
    access_cut false =
        let lf = front_length in let lb = length-drop n xs in let on = rest_at_is in
        let All = elements_shared u8 xs b o in
        qed 𝓛 (‵ (bytes_seen κ (b, o) xs) ∷ ‵ (flft κ q) ∷ []) {P = H.⇛ (ex 𝓤 (Cut false))} (
        updating ! $ fsplit ! $ pure_l ! (shr_slice_at u8 (view_of (b, o) xs) (shr_slice_vals (view_of (b, o) xs))) (λ ok. let r0 = ok.1.0 in let r1 = ok.1.1 in
        unhide ! $ use1 𝓛 (‵ (All κ) ⊛ ‵ (All κ)) (contraction 𝓛 All (elements_shr_laws u8 (uint_row_laws w8) xs b o) κ) $ split ! $
        use1 𝓛 (‵ (elements_shared u8 back b rest_at κ)) (each-drop 𝓛 (shared_of u8) 1 κ b n xs o) $ hide ! $
        pure_i ! (shr_slice_at u8 (view_of (b, rest_at) back) (shr_slice_vals (view_of (b, rest_at) back))) (tt, (tt, tt)) (refl, (omega arith, omega arith)) $ fjoin ! $ move ! (1 ∷ []) $
        use1 𝓛 (‵ (elements_shared u8 front b o κ)) (each_take 𝓛 (shared_of u8) 1 κ b n xs o) $ hide ! $
        pure_i ! (shr_slice_at u8 (view_of (b, o) front) (shr_slice_vals (view_of (b, o) front))) (tt, (tt, tt)) (refl, (omega arith, omega arith)) $ fjoin ! $
        now ! $ show ! (Cut false) (γ, γ) $ done !))
