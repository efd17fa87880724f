-- What one call over two lines makes of the application.
use Rattle.std.proofs.Common.{◌≡◌, ◌<◌, ℕ, Bool, List, [], ◌∷◌, map, Option, Some, None, refl, sym, ap, ◌∙◌, subst, inl, inr, ◌⊎◌, arith}
use Rattle.std.specs.Prelude.{IfSome}
use Rattle.std.specs.List.{FoldsTo, zip}
use Rattle.std.proofs.lemmas.List.{append-nil}
use Rattle.std.proofs.lemmas.Slice.Zip.{AllZip-long, firsts-zip}
use Rattle.postcard_tree.specs.Tree.{Tree}
use Rattle.postcard_tree.specs.ReadingLaws.{WireForm}
use Rattle.link.specs.Judged.{Judging}
use Rattle.postcard_tree.specs.Alike.{AlikePairs}
use Rattle.link.specs.Run.{Send, line}
use Rattle.link.specs.Fates.{IsSendOf}
use Rattle.link.specs.declared.receiver.Answer.{Answer}
use Rattle.link_laws.specs.Values.{runs_of, values_sent}
use Rattle.link_laws.specs.Sessions.{all_sent, no_session, then_session, takes_run, all_written}
use Rattle.calls.specs.Calls.{Execution, no_call, ServesAll, greatest, known, fresh, no_request, request, Rises, In, OnePerNumber, ExecutesOnce}
use Rattle.calls.specs.Serving.{Runs, requests_of}
use Rattle.calls_laws.specs.Heard.{HearsSent}
use Rattle.calls_laws.specs.Headline.{WentOver, WasExecuted, RepliesAreRight}
use Rattle.calls_laws.specs.Exchange.{ExecutedOnce, ExecutedAtMostOnce, LeftBy, HeardFront, AsksOnly, ServesLine, TakesReply}

module _ {V : Type 0} (form : WireForm V) (judging : Judging V) (taken : (v : V) (t : Tree) → form.valid v → form.writes v ≡ Some t → form.takes t) (limit s : ℕ) where
  -- what one sender left, and what was heard of a front of it
  pub went_over : (messages : List V) (bytes : List ℕ) (answers : List (Answer V)) (l : LeftBy limit s form.writes form.valid messages bytes) → HeardFront judging.holds judging.reads limit s bytes answers
      → WentOver form judging limit s (zip messages l.said.sends ∷ []) answers
  went_over messages bytes answers l h =
      let calls = zip messages l.said.sends in
      let left = takes_run taken (then_session l.sentinel l.fresh (all_sent l.said) no_session) in
      let there = line s (runs_of (calls ∷ [])) in
      let whole : bytes ≡ there = all_written l.start.line l.stop.line bytes there l.empty l.told left.wrote in
      record { is = left.is; of = left.of; front = h.front; rest = h.rest; parts = sym whole ∙ h.parts; heard = h.heard }

  pub sent_are : (messages : List V) (bytes : List ℕ) (l : LeftBy limit s form.writes form.valid messages bytes) → values_sent (zip messages l.said.sends ∷ []) ≡ messages
  sent_are messages bytes l =
      append-nil (map (λ (c : V × Send). c.0) (zip messages l.said.sends)) ∙ firsts-zip messages l.said.sends (AllZip-long (λ v x. IsSendOf limit (form.writes v) (form.valid v) x) messages l.said.sends l.said.of)

module _ {Q R : Type 0} where
  -- what was executed was heard
  was_heard : {equal : Q → Q → Bool} {passes : ℕ → ℕ → Option R}
      {kept later : Option (Execution Q R)} {qs : List (ℕ × Q)} {log : List (Execution Q R)}
      {out : List (ℕ × R)} → ServesAll equal passes kept qs log out later
      → (e : Execution Q R) → In e log → In (e.number, e.asks) qs
  was_heard no_request e i = absurd i
  was_heard (request (greatest l) h) e i = inr (was_heard h e i)
  was_heard (request (known m l) h) e i = inr (was_heard h e i)
  was_heard (request (fresh says m l) h) e (inl f) = inl (rw f refl)
  was_heard (request (fresh says m l) h) e (inr i) = inr (was_heard h e i)

  -- executions that rise and have one number alone are one at most
  at_most_one : (n m : ℕ) (log : List (Execution Q R)) → Rises m log → ((e : Execution Q R) → In e log → e.number ≡ n) → (log ≡ []) ⊎ ((e : Execution Q R) × (log ≡ e ∷ []))
  at_most_one n m [] h all = inl refl
  at_most_one n m (e ∷ []) h all = inr (e, refl)
  at_most_one n m (e ∷ f ∷ log) h all = absurd (let l = h.1.0 in let a = all e (inl refl) in let b = all f (inr (inl refl)) in omega (arith, l, a, b))

module _ {A Q R : Type 0} (executes : A → Q → R → A → Type 0) (equal : Q → Q → Bool) (passes : ℕ → ℕ → Option R) (alike_asked : Q → Q → Type 0) (alike_said : R → R → Type 0)
    {form : WireForm (ℕ × Q)} {judging : Judging (ℕ × Q)} {form' : WireForm (ℕ × R)} {judging' : Judging (ℕ × R)}
    (taken : (v : ℕ × Q) (t : Tree) → form.valid v → form.writes v ≡ Some t → form.takes t) (taken' : (v : ℕ × R) (t : Tree) → form'.valid v → form'.writes v ≡ Some t → form'.takes t)
    (hears : HearsSent form.takes judging.holds judging.reads (AlikePairs (λ m m'. m ≡ m') alike_asked) form.writes form.valid) (once : ExecutesOnce Q R)
    (right : RepliesAreRight alike_asked alike_said (WentOver form judging) (WentOver form' judging'))
    {limit s limit' s' : ℕ} {old new : A} {x : ℕ × Q} {pending : Option (ℕ × Q)} {requests replies : List ℕ}
    (asks : AsksOnly limit s form.writes form.valid x pending requests) (serves : ServesLine executes equal passes judging.holds judging.reads form'.writes form'.valid limit s limit' s' old new requests replies) where
  -- each request that was executed has the number, and is alike the one that was asked
  alike_executed : (e : Execution Q R) → In e serves.log → (x.0 ≡ e.number) × alike_asked x.1 e.asks
  alike_executed e i =
      let over = went_over form judging taken limit s asks.messages requests serves.heard asks.left serves.over in
      let v = hears limit s (zip asks.messages asks.left.said.sends ∷ []) serves.heard over.front over.rest over.is over.of over.parts over.heard (e.number, e.asks) (was_heard serves.served e i) in
      let same : v.0 ≡ x = asks.only v.0 (subst (In v.0) (sent_are form judging taken limit s asks.messages requests asks.left) v.1) in
      (sym (ap (λ p. p.0) same) ∙ v.2.0, subst (λ p. alike_asked p.1 e.asks) same v.2.1)

  one_at_most : (serves.log ≡ []) ⊎ ((e : Execution Q R) × (serves.log ≡ e ∷ []))
  one_at_most =
      at_most_one x.0 0 serves.log (once equal passes None serves.later (requests_of serves.heard) serves.log serves.out serves.served).0 (λ e i. sym (alike_executed e i).0)

  -- the application ran one execution alone
  ran_one : (log : List (Execution Q R)) (e : Execution Q R) → log ≡ e ∷ [] → FoldsTo (Runs executes) old log new → executes old e.asks e.says new
  ran_one log e one ran =
      let r = subst (λ l. FoldsTo (Runs executes) old l new) one ran in subst (λ a. executes old e.asks e.says a) r.2 r.1

  pub executed_at_most_once : ExecutedAtMostOnce {R = R} executes alike_asked old new x.1
  executed_at_most_once = elim one_at_most [
    | inl none ↦ inl (sym (subst (λ l. FoldsTo (Runs executes) old l new) none serves.ran))
    | inr one ↦ inr (record {
      asks = one.0.asks;
      says = one.0.says;
      executed = ran_one serves.log one.0 one.1 serves.ran;
      asks_alike = (alike_executed one.0 (subst (In one.0) (sym one.1) (inl refl))).1;
      says_so = tt;
    })
  ]

  -- the reply that was taken, by the law of whole lines
  taken_was_said : (r : R) → TakesReply judging'.holds judging'.reads limit' s' pending replies r → WasExecuted alike_asked alike_said 0 serves.log x.0 x.1 r
  taken_was_said r t =
      let sends = asks.left.said.sends in
      let is : (t.number, t.asked) ≡ x = (asks.sent (t.number, t.asked) t.is_pending).0 in
      let sent = sent_are form judging taken limit s asks.messages requests asks.left in
      elim (right limit s limit' s' (zip asks.messages sends ∷ []) (zip serves.out serves.left.said.sends ∷ []) serves.heard t.heard equal passes None serves.later serves.log serves.out x.0 x.1 r
      (subst (λ (z : ℕ × Q). z.0 < no_call) is (asks.numbered (t.number, t.asked) t.is_pending))
      (went_over form judging taken limit s asks.messages requests serves.heard asks.left serves.over)
      serves.served
      (went_over form' judging' taken' limit' s' serves.out replies t.heard serves.left t.over)
      (sent_are form' judging' taken' limit' s' serves.out replies serves.left)
      (subst OnePerNumber (sym sent) (λ a b i j e. asks.only a i ∙ sym (asks.only b j)))
      (subst (In x) (sym sent) (asks.sent (t.number, t.asked) t.is_pending).1)
      (subst (λ p. In (p.0, r) (requests_of t.heard)) is t.said)) [
        | inl w ↦ w
        | inr w ↦ absurd w.is_kept
      ]

  pub reply_is_right : (r : R) → TakesReply judging'.holds judging'.reads limit' s' pending replies r → ExecutedOnce executes alike_asked old new x.1 (λ says. alike_said says r)
  reply_is_right r t =
      let w = taken_was_said r t in
      elim one_at_most [
        | inl none ↦ absurd (subst (In w.call) none w.executed)
        | inr one ↦ (
            let e : w.call ≡ one.0 = elim (subst (In w.call) one.1 w.executed) [ inl k ↦ k | inr k ↦ absurd k ] in
            record {
              asks = w.call.asks;
              says = w.call.says;
              executed = ran_one serves.log w.call (one.1 ∙ ap (λ z. z ∷ []) (sym e)) serves.ran;
              asks_alike = w.asks_alike;
              says_so = w.says_alike;
            }
            )
      ]

  -- what came of a call: the reply, where one was taken, and what the application did
  pub outcome : (said : Option R) → IfSome said (TakesReply judging'.holds judging'.reads limit' s' pending replies)
      → IfSome said (λ r. ExecutedOnce executes alike_asked old new x.1 (λ says. alike_said says r))
      × ExecutedAtMostOnce {R = R} executes alike_asked old new x.1
  outcome None t = (tt, executed_at_most_once)
  outcome (Some r) t = (reply_is_right r t, executed_at_most_once)
