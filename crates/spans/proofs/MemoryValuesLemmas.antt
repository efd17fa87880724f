-- The machine values of the start and of the right to the bytes. Assumes `Logic`.
use Rattle.std.proofs.Common.{◌≡◌, ℕ, List, [], ◌∷◌, ◌++◌, ◌+◌, refl, ap, ◌∙◌, arith}
use Prim.Native.Nat.{zero, suc}
pub use Rattle.std.proofs.alloc.Calls.{Goes-blank as goes}
use denote.Signature.{Slot, plain}
use denote.Builtin.{unit}
use seplogic.Ra.Ura.{Ura}
use mir.Val.{Val, vstruct, vcons, vnil, of_list}
use base.Logic.{SProp, ent, emp, sep, via}
use contract.Monad.{fact, fact_i}
use types.Kit.{Item, Step, step, prop, ‵, raw, ◌$◌, ◌∵◌, !, qed, move, frame, use0, fjoin, fpack, feq_i, done}
use denote.Steps.{nothing}
use denote.Struct.Declared.{shape}
use denote.Struct.Tuple.{Tuple, tuple_type}
use base.Fml.{Fml}
use types.Logic.{Logic, sem}
use denote.RattleType.{RattleType, Valss}
use denote.RawPtr.{Ptr, RawPtr, ptr_val}
use denote.Shadow.{shadow, makes_shadow}
use denote.Struct.Struct.{Struct, within}
use Rattle.spans.specs.Memory.{Place, Apart}

-- a struct by its fields alone: what it owns does not read its name
abbrev pub plainly : List RattleType → RattleType
plainly Rs = Struct (record { name = []; args = []; types = []; fields = Rs })

abbrev pub start_val : Ptr → Val
start_val p = vstruct (vcons (ptr_val p) vnil)

abbrev pub start_own : Ptr → List Val → Fml
start_own p = (plainly (RawPtr ∷ [])).own_val (p, tt)

pub start_told : (p : Ptr) (vs : List Val) → shadow (start_own p vs) → vs ≡ start_val p ∷ []
start_told p vs s = s.1.0 ∙ (λ i. vstruct (of_list (s.1.1.0 i ++ [])) ∷ [])

pub start_made : {M : Type 1} {𝓤 : Ura M} (𝓛 : Logic 𝓤) (p : Ptr) → ent 𝓤 (emp 𝓤) (sem 𝓛 (start_own p (start_val p ∷ [])))
start_made 𝓛 p = makes_shadow 𝓛 (start_own p (start_val p ∷ [])) (λ _. (tt, (tt, tt))) ((ptr_val p ∷ [], tt), (refl, (refl, tt)))

abbrev pub mark_val : Val
mark_val = vstruct (vcons (vstruct vnil) vnil)

abbrev pub mark_own : List Val → Fml
mark_own = (plainly (plainly [] ∷ [])).own_val (tt, tt)

pub mark_told : (vs : List Val) → shadow (mark_own vs) → vs ≡ mark_val ∷ []
mark_told vs s = s.1.0 ∙ (λ i. vstruct (of_list (s.1.1.0.1.0 i ++ [])) ∷ [])

pub mark_made : {M : Type 1} {𝓤 : Ura M} (𝓛 : Logic 𝓤) → ent 𝓤 (emp 𝓤) (sem 𝓛 (mark_own (mark_val ∷ [])))
mark_made 𝓛 = makes_shadow 𝓛 (mark_own (mark_val ∷ [])) (λ _. (tt, ((λ _. (tt, tt)), tt))) ((vstruct vnil ∷ [], tt), (refl, ((tt, (refl, tt)), tt)))

abbrev pub pair_val : Val → Val → Val
pair_val u v = vstruct (vcons u (vcons v vnil))

pub pair_of : {M : Type 1} {𝓤 : Ura M} (𝓛 : Logic 𝓤) (R S : RattleType) (x : R.Denot) (y : S.Denot) (u v : Val)
    → ent 𝓤 (sep 𝓤 (sem 𝓛 (R.own_val x (u ∷ []))) (sem 𝓛 (S.own_val y (v ∷ [])))) (sem 𝓛 ((Tuple (R ∷ S ∷ [])).own_val (x, y) (pair_val u v ∷ [])))
pair_of 𝓛 R S x y u v =
    qed 𝓛 (‵ (R.own_val x (u ∷ [])) ∷ ‵ (S.own_val y (v ∷ [])) ∷ []) ∵ nothing ! $ move ! (2 ∷ 0 ∷ []) $ fjoin ! $ move ! (1 ∷ 0 ∷ []) $ fjoin ! $ feq_i ! (List Val) (pair_val u v ∷ []) (pair_val u v ∷ []) refl $ fjoin ! $
    fpack ! (Valss (R ∷ S ∷ [])) (within (shape (tuple_type (R ∷ S ∷ []))) (x, (y, tt)) (pair_val u v ∷ [])) (u ∷ [], (v ∷ [], tt)) $ done !

abbrev pub slot_at : {n : ℕ} → ℕ → List (Slot n) → Slot n
slot_at k [] = plain (λ _. unit)
slot_at zero (s ∷ ss) = s
slot_at (suc k) (s ∷ ss) = slot_at k ss

abbrev pub three_val : Val → Val → Val → Val
three_val u v w = vstruct (vcons u (vcons v (vcons w vnil)))

pub three_of : {M : Type 1} {𝓤 : Ura M} (𝓛 : Logic 𝓤) (R S T : RattleType) (x : R.Denot) (y : S.Denot) (z : T.Denot) (u v w : Val)
    → ent 𝓤 (sep 𝓤 (sem 𝓛 (R.own_val x (u ∷ []))) (sep 𝓤 (sem 𝓛 (S.own_val y (v ∷ []))) (sem 𝓛 (T.own_val z (w ∷ []))))) (sem 𝓛 ((Tuple (R ∷ S ∷ T ∷ [])).own_val (x, y, z) (three_val u v w ∷ [])))
three_of 𝓛 R S T x y z u v w =
    qed 𝓛 (‵ (R.own_val x (u ∷ [])) ∷ ‵ (S.own_val y (v ∷ [])) ∷ ‵ (T.own_val z (w ∷ [])) ∷ []) ∵ nothing ! $ move ! (3 ∷ 0 ∷ []) $ fjoin ! $ move ! (2 ∷ 0 ∷ []) $ fjoin ! $ move ! (1 ∷ 0 ∷ []) $ fjoin ! $
    feq_i ! (List Val) (three_val u v w ∷ []) (three_val u v w ∷ []) refl $ fjoin ! $
    fpack ! (Valss (R ∷ S ∷ T ∷ [])) (within (shape (tuple_type (R ∷ S ∷ T ∷ []))) (x, (y, (z, tt))) (three_val u v w ∷ [])) (u ∷ [], (v ∷ [], (w ∷ [], tt))) $ done !

-- what lies n bytes further on shares no byte with the n bytes before it
pub cut_apart : (b o n p : ℕ) (m k : ℕ) → m ≡ n → p ≡ n + o → Apart (b, o) m (b, p) k
cut_apart b o n p m k e f i j x y q = omega (arith, e, f, x, y, ap (λ (z : Place). z.1) q)

-- the facts that a walk ends with, one for each clause
module _ {M : Type 1} {𝓤 : Ura M} {𝓛 : Logic 𝓤} {K : Type 0} {Γ : List (Item 𝓤)} where
  open 𝓛 use {H}

  pub says_two : K → {φ ψ : Type 0} {P : SProp 𝓤} → φ → ψ → Step K 𝓛 Γ (prop P) Γ (prop (sep 𝓤 P (sep 𝓤 (fact 𝓤 φ) (fact 𝓤 ψ))))
  says_two t {φ} {ψ} {P} x y = step (λ s. record {
    prf = via 𝓤 P s.prf (qed 𝓛 (raw P ∷ []) {P = sep 𝓤 P (sep 𝓤 (fact 𝓤 φ) (fact 𝓤 ψ))} (
        frame ! $ use0 𝓛 (raw (fact 𝓤 ψ)) (fact_i 𝓤 ψ (emp 𝓤) y) $ use0 𝓛 (raw (fact 𝓤 φ)) (fact_i 𝓤 φ (emp 𝓤) x) $ done !));
  })

  pub says_three : K → {φ ψ χ : Type 0} {P : SProp 𝓤} → φ → ψ → χ → Step K 𝓛 Γ (prop P) Γ (prop (sep 𝓤 P (sep 𝓤 (fact 𝓤 φ) (sep 𝓤 (fact 𝓤 ψ) (fact 𝓤 χ)))))
  says_three t {φ} {ψ} {χ} {P} x y z = step (λ s. record {
    prf = via 𝓤 P s.prf (qed 𝓛 (raw P ∷ []) {P = sep 𝓤 P (sep 𝓤 (fact 𝓤 φ) (sep 𝓤 (fact 𝓤 ψ) (fact 𝓤 χ)))} (
        frame ! $ use0 𝓛 (raw (fact 𝓤 χ)) (fact_i 𝓤 χ (emp 𝓤) z) $ use0 𝓛 (raw (fact 𝓤 ψ)) (fact_i 𝓤 ψ (emp 𝓤) y) $ use0 𝓛 (raw (fact 𝓤 φ)) (fact_i 𝓤 φ (emp 𝓤) x) $ done !));
  })

  pub says_four : K → {φ ψ χ α : Type 0} {P : SProp 𝓤} → φ → ψ → χ → α → Step K 𝓛 Γ (prop P) Γ (prop (sep 𝓤 P (sep 𝓤 (fact 𝓤 φ) (sep 𝓤 (fact 𝓤 ψ) (sep 𝓤 (fact 𝓤 χ) (fact 𝓤 α))))))
  says_four t {φ} {ψ} {χ} {α} {P} x y z a = step (λ s. record {
    prf = via 𝓤 P s.prf (qed 𝓛 (raw P ∷ []) {P = sep 𝓤 P (sep 𝓤 (fact 𝓤 φ) (sep 𝓤 (fact 𝓤 ψ) (sep 𝓤 (fact 𝓤 χ) (fact 𝓤 α))))} (
        frame ! $ use0 𝓛 (raw (fact 𝓤 α)) (fact_i 𝓤 α (emp 𝓤) a) $
        use0 𝓛 (raw (fact 𝓤 χ)) (fact_i 𝓤 χ (emp 𝓤) z) $ use0 𝓛 (raw (fact 𝓤 ψ)) (fact_i 𝓤 ψ (emp 𝓤) y) $ use0 𝓛 (raw (fact 𝓤 φ)) (fact_i 𝓤 φ (emp 𝓤) x) $ done !));
  })

  pub says_five : K → {φ ψ χ α β : Type 0} {P : SProp 𝓤} → φ → ψ → χ → α → β → Step K 𝓛 Γ (prop P) Γ (prop (sep 𝓤 P (sep 𝓤 (fact 𝓤 φ) (sep 𝓤 (fact 𝓤 ψ) (sep 𝓤 (fact 𝓤 χ) (sep 𝓤 (fact 𝓤 α) (fact 𝓤 β)))))))
  says_five t {φ} {ψ} {χ} {α} {β} {P} x y z a b = step (λ s. record {
    prf = via 𝓤 P s.prf (qed 𝓛 (raw P ∷ []) {P = sep 𝓤 P (sep 𝓤 (fact 𝓤 φ) (sep 𝓤 (fact 𝓤 ψ) (sep 𝓤 (fact 𝓤 χ) (sep 𝓤 (fact 𝓤 α) (fact 𝓤 β)))))} (
        frame ! $ use0 𝓛 (raw (fact 𝓤 β)) (fact_i 𝓤 β (emp 𝓤) b) $ use0 𝓛 (raw (fact 𝓤 α)) (fact_i 𝓤 α (emp 𝓤) a) $
        use0 𝓛 (raw (fact 𝓤 χ)) (fact_i 𝓤 χ (emp 𝓤) z) $ use0 𝓛 (raw (fact 𝓤 ψ)) (fact_i 𝓤 ψ (emp 𝓤) y) $ use0 𝓛 (raw (fact 𝓤 φ)) (fact_i 𝓤 φ (emp 𝓤) x) $ done !));
  })
