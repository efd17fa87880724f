-- What a buffer holds once reading its first stretch is over. Assumes `Logic`.
use Rattle.std.proofs.Common.{◌≡◌, ℕ, Bool, List, [], ◌∷◌, ◌++◌, Option, Some, None, Result, Ok, Err, inl, inr, refl, sym, ap, subst, MutBor}
use Rattle.std.specs.Borrow.{LendsBothIf, Array, u8, GName, follows_both_if}
use Rattle.std.specs.Option.{ghost_names_of}
use mathlib.Core.Option as maybe
use seplogic.Ra.Ura.{Ura}
use base.Fml.{fres, fauth, feq, fex, fsep, Fml}
use base.Logic.{SProp, ent, ex_i, wand}
use types.Logic.{Logic, sem}
use types.Kit.{‵, raw, ◌$◌, ◌∵◌, !, qed, each, assume, keep, feq_i, fjoin, fpack, done}
use denote.RattleType.{RattleType}
use denote.Follow.{follows, follows_by, such_by, follows_so, both_if_by}
use Rattle.postcard_tree.specs.Tree.{Tree}
use Rattle.cobs.specs.InPlace.{stretch}
use Rattle.cobs.specs.Sentinel.{masked}
use Rattle.cobs.specs.Whole.{unpadded}
use Rattle.postcard.specs.Frames.{Holds}
use Rattle.link.specs.Finds.{AnswersEnded}
use Rattle.link.specs.InPlace.{IsCutBehind, IsNext, AnswersNext, KeptUnlessEnded, lent_by, lent_unless_cut}
use Rattle.link.specs.declared.receiver.Answer.{Answer}
use Rattle.link.specs.declared.receiver.Answer.TheVariants.{Value, Damaged, TooLong, Cut}
use Rattle.link.specs.declared.receiver.NoMemory.{NoMemory}

module _ {V : Type 0} (takes : Tree → Type 0) (reads : Tree → V → Type 0) (grows : Bool) (name : GName) where
  not_cut : (p : List ℕ) (answer : Result (Answer V) NoMemory) → AnswersEnded (Holds takes) reads p answer → lent_unless_cut name answer ≡ maybe.some name
  not_cut p (Ok (Value v)) h = refl
  not_cut p (Ok Damaged) h = refl
  not_cut p (Ok TooLong) h = refl
  not_cut p (Ok Cut) h = absurd h
  not_cut p (Err e) h = refl

  -- an ended stretch isn't `Cut`
  ended_is_lent : (s : ℕ) (bytes front after : List ℕ) (result : Option (Result (Answer V) NoMemory × MutBor (List ℕ))) → IsCutBehind (masked s bytes) front after → AnswersNext takes reads grows s bytes result → lent_by name result ≡ maybe.some name
  ended_is_lent s bytes front after None cut answers = absurd (cut.there answers.none)
  ended_is_lent s bytes front after (Some p) cut answers = not_cut (stretch (unpadded (masked s bytes))) p.0 (answers.some.ended cut.ended).0

  -- an unfinished one is, and where there is none there is no answer
  not_lent : (s end : ℕ) (bytes : List ℕ) (result : Option (Result (Answer V) NoMemory × MutBor (List ℕ))) → IsNext s end bytes None → AnswersNext takes reads grows s bytes result → lent_by name result ≡ maybe.none
  not_lent s end bytes None next answers = refl
  not_lent s end bytes (Some p) next answers = elim next [
    | inl blank ↦ absurd (answers.some.some blank.1)
    | inr unfinished ↦ ap (lent_unless_cut name) (answers.some.unfinished unfinished.1.unended).0
  ]

module _ {M : Type 1} {𝓤 : Ura M} (𝓛 : Logic 𝓤) (R : RattleType) (γ : GName) where
  open 𝓛 use {A}

  -- what is lent still follows itself
  itself : (X : SProp 𝓤) → ent 𝓤 X (sem 𝓛 (follows R R γ γ (λ w. w)))
  itself X =
      let From : R.Denot → R.Denot → Fml = λ z w. fsep (feq R.Denot z w) (fauth γ (R.coded.code w)) in
      let said = qed 𝓛 (raw X ∷ []) ∵ each ! (λ (w : R.Denot). wand 𝓤 (A.res γ (R.coded.code w)) (A.res γ (R.coded.code w))) (λ w. assume ! (‵ (fres γ (R.coded.code w))) $ keep ! (0 ∷ []) $ done !) in
      let back = qed 𝓛 (raw X ∷ []) ∵ each ! (λ (z : R.Denot). wand 𝓤 (A.auth γ (R.coded.code z)) (sem 𝓛 (fex R.Denot (From z)))) (λ z. assume ! (‵ (fauth γ (R.coded.code z))) $ keep ! (0 ∷ []) $
      feq_i ! R.Denot z z refl $ fjoin ! $ fpack ! R.Denot (From z) z $ done !) in
      record { apply = λ a p. (said.apply a p, back.apply a p) }

  still : (X : SProp 𝓤) (v : R.Denot) → ent 𝓤 X (sem 𝓛 (follows_so R R γ (maybe.some γ) (λ _ _. Unit {0}) (λ n. n ≡ v)))
  unfolding such_by follows_by
  still X v = record { apply = λ a p. (ex_i 𝓤 (λ (t : (p : (R.Denot → R.Denot) × R.Denot) × ((w : R.Denot) → Unit {0}) × (p.1 ≡ v)). sem 𝓛 (follows R R γ γ t.0.0)) ((λ w. w, v), λ w. tt, refl)).apply a ((itself X).apply a p) }

  over : (v : R.Denot) → ent 𝓤 (A.res γ (R.coded.code v)) (sem 𝓛 (follows_so R R γ maybe.none (λ _ _. Unit {0}) (λ n. n ≡ v)))
  unfolding such_by follows_by
  over v = ex_i 𝓤 (λ (t : (p : (R.Denot → R.Denot) × R.Denot) × ((w : R.Denot) → Unit {0}) × (p.1 ≡ v)). A.res γ (R.coded.code t.0.1)) ((λ w. w, v), λ w. tt, refl)

abbrev Bytes : RattleType
Bytes = Array u8 0

kept : {M : Type 1} {𝓤 : Ura M} (𝓛 : Logic 𝓤) {V : Type 0} (takes : Tree → Type 0) (reads : Tree → V → Type 0) (grows : Bool) (sentinel end : ℕ) (s : MutBor (List ℕ)) (parts : Option (MutBor (List ℕ) × MutBor (List ℕ)))
    (result : Option (Result (Answer V) NoMemory × MutBor (List ℕ))) → IsNext sentinel end s.now parts → AnswersNext takes reads grows sentinel s.now result
    → ent 𝓤 (sem 𝓛 (LendsBothIf Bytes Bytes Bytes s parts ◌++◌ s.now)) (sem 𝓛 (KeptUnlessEnded s result))
unfolding both_if_by
kept {𝓤 = 𝓤} 𝓛 takes reads grows sentinel end s None result next answers =
    subst (λ m. ent 𝓤 (𝓛.A.res s.ghost_name (Bytes.coded.code s.now)) (sem 𝓛 (follows_so Bytes Bytes s.ghost_name m (λ _ _. Unit {0}) (λ n. n ≡ s.now)))) (sym (not_lent takes reads grows s.ghost_name sentinel end s.now result next answers)) (over 𝓛 Bytes s.ghost_name s.now)
kept {𝓤 = 𝓤} 𝓛 takes reads grows sentinel end s (Some p) result next answers =
    subst (λ m. ent 𝓤 (sem 𝓛 (LendsBothIf Bytes Bytes Bytes s (Some p) ◌++◌ s.now)) (sem 𝓛 (follows_so Bytes Bytes s.ghost_name m (λ _ _. Unit {0}) (λ n. n ≡ s.now)))) (sym (ended_is_lent takes reads grows s.ghost_name sentinel s.now _ _ result next answers)) (still 𝓛 Bytes s.ghost_name _ s.now)

-- The slice that was passed on is the same one.
pub kept_unless_ended : {M : Type 1} {𝓤 : Ura M} (𝓛 : Logic 𝓤) {V : Type 0} (takes : Tree → Type 0) (reads : Tree → V → Type 0) (grows : Bool) (sentinel end : ℕ) (s passed : MutBor (List ℕ)) → passed.now ≡ s.now → passed.ghost_name ≡ s.ghost_name
    → (parts : Option (MutBor (List ℕ) × MutBor (List ℕ))) (result : Option (Result (Answer V) NoMemory × MutBor (List ℕ))) → IsNext sentinel end s.now parts → AnswersNext takes reads grows sentinel s.now result
    → ent 𝓤 (sem 𝓛 (LendsBothIf Bytes Bytes Bytes passed parts ◌++◌ passed.now)) (sem 𝓛 (KeptUnlessEnded s result))
kept_unless_ended {𝓤 = 𝓤} 𝓛 takes reads grows sentinel end s passed now name parts result next answers =
    let K = sem 𝓛 (KeptUnlessEnded s result) in
    subst (λ γ. ent 𝓤 (sem 𝓛 (follows_both_if Bytes Bytes Bytes γ (ghost_names_of parts) ◌++◌ passed.now)) K) (sym name)
    (subst (λ v. ent 𝓤 (sem 𝓛 (follows_both_if Bytes Bytes Bytes s.ghost_name (ghost_names_of parts) ◌++◌ v)) K) (sym now) (kept 𝓛 takes reads grows sentinel end s parts result next answers))
