-- Messages that carry their number twice, the second time under a sum.
use Rattle.std.specs.Prelude.{◌≡◌, ℕ, ◌+◌, ◌==◌, if◌then◌else◌, List, map, Option, Some, None}
use Rattle.std.proofs.Common.{sym, subst}
use Rattle.std.proofs.lemmas.List.{map-append}
use Rattle.link.specs.Each.{HearerLaws}
use Rattle.link.specs.declared.receiver.Answer.{Answer}
use Rattle.link.specs.declared.receiver.Answer.TheVariants.{Value, Damaged}
use Rattle.sealed.specs.declared.keyed.Keyed.{Keyed}
use Rattle.calls.specs.Calls.{no_call}
use Rattle.calls.specs.declared.sealing.Checked.{Checked}
use Rattle.calls.specs.declared.sealing.Replies.{Replies}
use Rattle.calls.specs.declared.sealing.Numbering.{Numbering}

-- a result of the line by its two numbers: a message in which they differ is damaged
abbrev pub compared : {T : Type 0} {K : ℕ} → Answer (ℕ × Keyed (ℕ × T) K) → Answer (ℕ × Keyed (ℕ × T) K)
compared (Value p) = if p.0 == p.1.0.0 then Value p else Damaged
compared other = other

-- what a hearer makes of results whose numbers are compared first
abbrev pub HearsCompared : {H T : Type 0} {K : ℕ}
    → (H → List (Answer (ℕ × Keyed (ℕ × T) K)) → H → Type 0)
    → Checked H → List (Answer (ℕ × Keyed (ℕ × T) K)) → Checked H → Type 0
HearsCompared hears old answers new = hears old.hearer (map compared answers) new.hearer

-- it meets the laws of a hearer, if its own hearer does
pub compared_laws : {H T : Type 0} {K : ℕ} (hears : H → List (Answer (ℕ × Keyed (ℕ × T) K)) → H → Type 0)
    → HearerLaws hears → HearerLaws {H = Checked H} (HearsCompared hears)
compared_laws hears laws = record {
  none = λ h. laws.none h.hearer;
  more = λ h k m a b p q.
      subst (λ answers. hears h.hearer answers m.hearer) (sym (map-append compared a b))
      (laws.more h.hearer k.hearer m.hearer (map compared a) (map compared b) p q);
}

-- the number inside a reply to the call by this number: the one after it
abbrev pub replied_inside : ℕ → ℕ
replied_inside n = if n == no_call then 0 else n + 1

-- a result of the line by its two numbers: a reply in which the second isn't after the first is damaged
abbrev pub compared_reply : {T : Type 0} {K : ℕ} → Answer (ℕ × Keyed (ℕ × T) K) → Answer (ℕ × Keyed (ℕ × T) K)
compared_reply (Value p) = if replied_inside p.0 == p.1.0.0 then Value p else Damaged
compared_reply other = other

-- what a hearer makes of replies whose numbers are compared first
abbrev pub HearsReplies : {H T : Type 0} {K : ℕ}
    → (H → List (Answer (ℕ × Keyed (ℕ × T) K)) → H → Type 0)
    → Replies H → List (Answer (ℕ × Keyed (ℕ × T) K)) → Replies H → Type 0
HearsReplies hears old answers new = hears old.hearer (map compared_reply answers) new.hearer

-- it meets the laws of a hearer, if its own hearer does
pub replies_laws : {H T : Type 0} {K : ℕ} (hears : H → List (Answer (ℕ × Keyed (ℕ × T) K)) → H → Type 0)
    → HearerLaws hears → HearerLaws {H = Replies H} (HearsReplies hears)
replies_laws hears laws = record {
  none = λ h. laws.none h.hearer;
  more = λ h k m a b p q.
      subst (λ answers. hears h.hearer answers m.hearer) (sym (map-append compared_reply a b))
      (laws.more h.hearer k.hearer m.hearer (map compared_reply a) (map compared_reply b) p q);
}

-- what an application does with a request that has its number inside: the reply has the one after it
abbrev pub ExecutesNumbered : {A Q R : Type 0} {K : ℕ} → (A → Q → R → A → Type 0)
    → Numbering A → Keyed (ℕ × Q) K → Keyed (ℕ × R) K → Numbering A → Type 0
ExecutesNumbered executes old asks says new =
    (says.0.0 ≡ replied_inside asks.0.0) × executes old.application asks.0.1 says.0.1 new.application

-- what is said of a request that is passed over, with the number inside that stands after the greatest
abbrev pub passes_numbered : {R : Type 0} {K : ℕ} → Option R → Option (Keyed (ℕ × R) K)
passes_numbered None = None
passes_numbered (Some said) = Some (record { 0 = (0, said) })
