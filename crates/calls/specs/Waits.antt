-- What a client that waits makes of the results of a line.
use Rattle.std.specs.Prelude.{◌≡◌, ℕ, Bool, is_none, ◌==◌, if◌then◌else◌, List, [], ◌∷◌, Option, Some, None, ⊤}
use Rattle.std.proofs.Common.{◌++◌, refl, sym, ap, ◌∙◌}
use Rattle.line_io.specs.declared.transfers.End.{End}
use Rattle.link.specs.Filled.{Filled}
use Rattle.link.specs.Judged.{Judging}
use Rattle.link.specs.Each.{HearerLaws, ListenerPlace, ListensUntil, hearing}
use Rattle.link.specs.declared.receiver.Answer.{Answer}
use Rattle.link.specs.declared.receiver.Answer.TheVariants.{Value}
use Rattle.calls.specs.Asking.{Asker, asker_of, number_of, sender_of, stepped, ends}
use Rattle.calls.specs.declared.waiting.Waiting.{Waiting}

-- where a client that waits stands: its client, and what was said to its call
pub record Waiter (Q R : Type 0) : Type 0 where
  -- the client: its next number and its pending call
  pub asker : Asker Q
  -- the reply that was accepted last, if it is still there
  pub said : Option R

-- where this client that waits stands
abbrev pub waiter_of : {W Q R : Type 0} {N : ℕ} → Waiting W Q R N → Waiter Q R
waiter_of w = record { asker = asker_of w.client; said = w.said }

-- nothing is pending
abbrev pub is_over : {Q : Type 0} → Asker Q → Bool
is_over a = is_none (number_of a.pending)

-- a reply with this number: where it is that of the pending call, that is over, and this was said
abbrev pub after_reply : {Q R : Type 0} → Waiter Q R → Option (ℕ × Q) → ℕ → R → Waiter Q R
after_reply w None n r = w
after_reply w (Some p) n r = if n == p.0 then record { asker = stepped w.asker ends; said = Some r } else w

-- a result of the line: only a reply changes anything
abbrev pub after_answer : {Q R : Type 0} → Waiter Q R → Answer (ℕ × R) → Waiter Q R
after_answer w (Value p) = after_reply w w.asker.pending p.0 p.1
after_answer w _ = w

-- answers one after another
abbrev pub after_answers : {Q R : Type 0} → Waiter Q R → List (Answer (ℕ × R)) → Waiter Q R
after_answers w [] = w
after_answers w (a ∷ answers) = after_answers (after_answer w a) answers

-- where a call is pending, what was said to an earlier one is let go
abbrev pub anew : {Q R : Type 0} → Waiter Q R → Waiter Q R
anew w = if is_over w.asker then w else record { asker = w.asker; said = None }

-- what a client that waits makes of results; it sends nothing
abbrev pub WaitingHears : {W Q R : Type 0} {N : ℕ} → Waiting W Q R N → List (Answer (ℕ × R)) → Waiting W Q R N → Type 0
WaitingHears old answers new = (waiter_of new ≡ after_answers (waiter_of old) answers) × (sender_of new.client ≡ sender_of old.client)

-- what waiting makes of results: what was said to an earlier call is let go first
abbrev pub WaitsAnew : {W Q R : Type 0} {N : ℕ} → Waiting W Q R N → List (Answer (ℕ × R)) → Waiting W Q R N → Type 0
WaitsAnew old answers new = (waiter_of new ≡ after_answers (anew (waiter_of old)) answers) × (sender_of new.client ≡ sender_of old.client)

-- what was said to an earlier call is let go; else the client that waits is as it was
abbrev pub LetsGo : {W Q R : Type 0} {N : ℕ} → Waiting W Q R N → Waiting W Q R N → Type 0
LetsGo old new = (waiter_of new ≡ anew (waiter_of old)) × (sender_of new.client ≡ sender_of old.client)

-- That is done first, and then the client listens read by read, each of at most so many bytes. Before each read its call was pending.
abbrev pub WaitsUntil : {D W Q R : Type 0} {N : ℕ} → (D → Filled) → Judging (ℕ × R) → ℕ → ListenerPlace D (Waiting W Q R N) → ListenerPlace D (Waiting W Q R N) → Option End → Type 0
WaitsUntil {W = W} {Q = Q} {R = R} {N = N} inside judging room before after end = (begun : Waiting W Q R N) × LetsGo before.hearer begun
    × ListensUntil inside judging (hearing WaitingHears (λ w. is_over (asker_of w.client)) (λ w. ⊤)) room
    (record { line = before.line; receiver = before.receiver; hearer = begun }) after end

after_more : {Q R : Type 0} (w : Waiter Q R) (xs ys : List (Answer (ℕ × R))) → after_answers w (xs ++ ys) ≡ after_answers (after_answers w xs) ys
after_more w [] ys = refl
after_more w (x ∷ xs) ys = after_more (after_answer w x) xs ys

-- what a client that waits must meet as a hearer
pub waiting_laws : {W Q R : Type 0} {N : ℕ} → HearerLaws {H = Waiting W Q R N} WaitingHears
waiting_laws = record {
  none = λ h. (refl, refl);
  more = λ h k m a b p q. (q.0 ∙ ap (λ w. after_answers w b) p.0 ∙ sym (after_more (waiter_of h) a b), q.1 ∙ p.1);
}
