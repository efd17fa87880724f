-- What answers make of a client that waits.
use Rattle.std.proofs.Common.{◌≡◌, ℕ, Bool, true, false, cond, eqb, List, [], ◌∷◌, Option, Some, None, refl, sym, ap, ◌∙◌, subst}
use Rattle.std.proofs.lemmas.Bool.{eqb-true}
use Rattle.std.specs.Prelude.{is_none, IsSome}
use Rattle.link.specs.declared.receiver.Answer.{Answer}
use Rattle.link.specs.declared.receiver.Answer.TheVariants.{Value, Damaged, TooLong, Cut}
use Rattle.calls.specs.Asking.{number_of, stepped, ends}
use Rattle.calls.specs.ServedLaws.{which}
use Rattle.calls.specs.Waits.{Waiter, is_over, anew, after_reply, after_answer, after_answers}

-- The pending call, by its number.
pub numbered : {Q : Type 0} (o : Option (ℕ × Q)) (n : ℕ) → number_of o ≡ Some n → (q : Q) × (o ≡ Some (n, q))
numbered None n e = absurd (cc)
numbered (Some p) n e = (p.1, ap (λ m. Some (m, p.1)) (which e))

-- An answer changes nothing, where it is no reply to the pending call.
pub unheard : {Q R : Type 0} (w : Waiter Q R) (answer : Answer (ℕ × R)) → ((n : ℕ) (q : Q) (said : R) → w.asker.pending ≡ Some (n, q) → answer ≡ Value (n, said) → ⊥) → after_answer w answer ≡ w
unheard {Q} {R} w (Value p) h = by w.asker.pending refl
  where
    numbered : (q : ℕ × Q) → w.asker.pending ≡ Some q → (b : Bool) → eqb p.0 q.0 ≡ b → cond b (let v : Waiter Q R = record { asker = stepped w.asker ends; said = Some p.1 } in v) w ≡ w
    numbered q e true f = absurd (h q.0 q.1 p.1 e (ap (λ n. Value (n, p.1)) (eqb-true p.0 q.0 f)))
    numbered q e false f = refl

    by : (o : Option (ℕ × Q)) → w.asker.pending ≡ o → after_reply w o p.0 p.1 ≡ w
    by None e = refl
    by (Some q) e = numbered q e (eqb p.0 q.0) refl
unheard w Damaged h = refl
unheard w TooLong h = refl
unheard w Cut h = refl

module _ {Q R : Type 0} where
  -- Once no call is pending none is later.
  over_stays : (w : Waiter Q R) (answers : List (Answer (ℕ × R))) → w.asker.pending ≡ None → (after_answers w answers).asker.pending ≡ None
  over_stays w [] e = e
  over_stays w (Value p ∷ answers) e = over_stays (after_reply w w.asker.pending p.0 p.1) answers (by w.asker.pending e)
    where
      by : (o : Option (ℕ × Q)) → o ≡ None → (after_reply w o p.0 p.1).asker.pending ≡ None
      by None f = e
      by (Some q) f = absurd (cc)
  over_stays w (Damaged ∷ answers) e = over_stays w answers e
  over_stays w (TooLong ∷ answers) e = over_stays w answers e
  over_stays w (Cut ∷ answers) e = over_stays w answers e

  -- While a call is pending nothing was taken.
  pub untaken : (w : Waiter Q R) (answers : List (Answer (ℕ × R))) → is_over (after_answers w answers).asker ≡ false → after_answers w answers ≡ w
  untaken w [] h = refl
  untaken w (Value p ∷ answers) h = by w.asker.pending (untaken w answers) h
    where
      over : Waiter Q R
      over = record { asker = stepped w.asker ends; said = Some p.1 }

      numbered : (b : Bool) → (is_over (after_answers w answers).asker ≡ false → after_answers w answers ≡ w)
          → is_over (after_answers (cond b over w) answers).asker ≡ false → after_answers (cond b over w) answers ≡ w
      numbered true later k = absurd (let e = over_stays over answers refl in let f : true ≡ false = sym (ap (λ (o : Option (ℕ × Q)). is_none (number_of o)) e) ∙ k in cc)
      numbered false later k = later k

      by : (o : Option (ℕ × Q)) → (is_over (after_answers w answers).asker ≡ false → after_answers w answers ≡ w)
          → is_over (after_answers (after_reply w o p.0 p.1) answers).asker ≡ false → after_answers (after_reply w o p.0 p.1) answers ≡ w
      by None later k = later k
      by (Some q) later k = numbered (eqb p.0 q.0) later k
  untaken w (Damaged ∷ answers) h = untaken w answers h
  untaken w (TooLong ∷ answers) h = untaken w answers h
  untaken w (Cut ∷ answers) h = untaken w answers h

  -- So where one was pending at first too, nothing is said.
  pub nothing_said : (w v : Waiter Q R) (answers : List (Answer (ℕ × R))) → v ≡ after_answers (anew w) answers → is_over w.asker ≡ false → is_over v.asker ≡ false → v.said ≡ None
  nothing_said w v answers e pending still =
      let stays : after_answers (anew w) answers ≡ anew w = untaken (anew w) answers (sym (ap (λ (u : Waiter Q R). is_over u.asker) e) ∙ still) in
      ap (λ (u : Waiter Q R). u.said) (e ∙ stays) ∙ by (is_over w.asker) pending
    where
      by : (b : Bool) → b ≡ false → (cond b w (let u : Waiter Q R = record { asker = w.asker; said = None } in u)).said ≡ None
      by true f = absurd (cc)
      by false f = refl

  -- Once no call is pending, answers change nothing.
  over_same : (w : Waiter Q R) (answers : List (Answer (ℕ × R))) → w.asker.pending ≡ None → after_answers w answers ≡ w
  over_same w [] e = refl
  over_same w (Value p ∷ answers) e = by w.asker.pending e (over_same w answers e)
    where
      by : (o : Option (ℕ × Q)) → o ≡ None → after_answers w answers ≡ w → after_answers (after_reply w o p.0 p.1) answers ≡ w
      by None f same = same
      by (Some q) f same = absurd (cc)
  over_same w (Damaged ∷ answers) e = over_same w answers e
  over_same w (TooLong ∷ answers) e = over_same w answers e
  over_same w (Cut ∷ answers) e = over_same w answers e

  -- A call that was pending and is over has its reply.
  replied : (w : Waiter Q R) (answers : List (Answer (ℕ × R))) → is_over w.asker ≡ false → is_over (after_answers w answers).asker ≡ true → IsSome (after_answers w answers).said
  replied w [] pending over = absurd (let f : true ≡ false = sym over ∙ pending in cc)
  replied w (Value p ∷ answers) pending over = by w.asker.pending (replied w answers pending) over
    where
      later : Waiter Q R
      later = record { asker = stepped w.asker ends; said = Some p.1 }

      numbered : (b : Bool) → (is_over (after_answers w answers).asker ≡ true → IsSome (after_answers w answers).said)
          → is_over (after_answers (cond b later w) answers).asker ≡ true → IsSome (after_answers (cond b later w) answers).said
      numbered true rest k = subst (λ (u : Waiter Q R). IsSome u.said) (sym (over_same later answers refl)) refl
      numbered false rest k = rest k

      by : (o : Option (ℕ × Q)) → (is_over (after_answers w answers).asker ≡ true → IsSome (after_answers w answers).said)
          → is_over (after_answers (after_reply w o p.0 p.1) answers).asker ≡ true → IsSome (after_answers (after_reply w o p.0 p.1) answers).said
      by None rest k = rest k
      by (Some q) rest k = numbered (eqb p.0 q.0) rest k
  replied w (Damaged ∷ answers) pending over = replied w answers pending over
  replied w (TooLong ∷ answers) pending over = replied w answers pending over
  replied w (Cut ∷ answers) pending over = replied w answers pending over

  -- So of a call that is waited for.
  pub has_reply : (w v : Waiter Q R) (answers : List (Answer (ℕ × R))) → v ≡ after_answers (anew w) answers → is_over w.asker ≡ false → is_over v.asker ≡ true → IsSome v.said
  has_reply w v answers e pending over =
      subst (λ (u : Waiter Q R). IsSome u.said) (sym e) (replied (anew w) answers (still (is_over w.asker) pending) (sym (ap (λ (u : Waiter Q R). is_over u.asker) e) ∙ over))
    where
      still : (b : Bool) → b ≡ false → is_over (cond b w (let u : Waiter Q R = record { asker = w.asker; said = None } in u)).asker ≡ false
      still true f = absurd (cc)
      still false f = pending
