-- How a history goes on.
use Rattle.std.proofs.Common.{◌≡◌, ℕ, ◌+◌, ◌-◌, ◌<◌, ◌^◌, min, true, false, List, [], ◌∷◌, ◌++◌, length, Option, Some, None, Ok, refl, sym, ap, ◌∙◌, subst, append_assoc, arith}
use Rattle.std.proofs.lemmas.List.{append-nil, length-append}
use Rattle.std.specs.Prelude.{IfSome}
use Rattle.line_io.specs.Device.{Grew, Wrote}
use Rattle.line_io.specs.Calls.{Wrote-none, Wrote-then}
use Rattle.postcard_tree.specs.Tree.{Tree, IsTree}
use Rattle.postcard_tree.specs.ReadingLaws.{WireForm}
use Rattle.std.proofs.lemmas.Slice.Zip.{all_zipped_more, AllZip-long}
use Rattle.link.specs.Run.{Send, completed, sent, written, session_line, line, IsSend, IsFramed, IsSession, IsRun}
use Rattle.journal.specs.Records.{numbered, takes_record}
use Rattle.journal.specs.Appending.{Appended, LogPlace}
use Rattle.journal_laws.specs.Numbers.{LogEvent, appended, appends, opened, after, history, IsHistory, HasBytes, read_of}
use Rattle.journal_laws.specs.Sessions.{AppendsAll, HistoryGoesOn}
use Rattle.link.specs.Lemmas.SendLaws.{runs_joined}
use Rattle.journal_laws.proofs.RunsLemmas.{frame_more}

line_more : (n : ℕ) (ts : List Tree) (t : Tree) → session_line 0 true (appends numbered n ts) ++ sent 0 true (numbered (n + length ts) t) ≡ session_line 0 true (appends numbered n (ts ++ t ∷ []))
line_more n [] t = ap (λ m. sent 0 true (numbered m t)) (let e : n + 0 ≡ n = omega arith in e) ∙ sym (append-nil (sent 0 true (numbered n t)))
line_more n (u ∷ ts) t =
    append_assoc (sent 0 true (numbered n u)) (session_line 0 true (appends numbered (n + 1) ts)) (sent 0 true (numbered (n + length (u ∷ ts)) t))
    ∙ ap (λ x. sent 0 true (numbered n u) ++ x) (ap (λ m. session_line 0 true (appends numbered (n + 1) ts) ++ sent 0 true (numbered m t)) (let e : n + length (u ∷ ts) ≡ (n + 1) + length ts = omega arith in e) ∙ line_more (n + 1) ts t)

module _ (takes : Tree → Type 0) (limit : ℕ) where
  session_more : (n : ℕ) (ts : List Tree) (t : Tree) → IsSession takes limit 0 true (appends numbered n ts) → IsFramed takes limit (numbered (n + length ts) t) → IsSession takes limit 0 true (appends numbered n (ts ++ t ∷ []))
  session_more n [] t h f = (subst (λ m. IsFramed takes limit (numbered m t)) (let e : n + 0 ≡ n = omega arith in e) f, tt)
  session_more n (u ∷ ts) t h f = (h.0, session_more (n + 1) ts t h.1 (subst (λ m. IsFramed takes limit (numbered m t)) (let e : n + length (u ∷ ts) ≡ (n + 1) + length ts = omega arith in e) f))

  -- a session that begins behind an opening's sentinel
  session_opened : (any : Tree) (n : ℕ) (ts : List Tree) → IsFramed takes limit any → IsSession takes limit 0 true (appends numbered n ts) → IsSession takes limit 0 false (opened any (appends numbered n ts))
  session_opened any n [] f h = ((f, frame_more 0 any), tt)
  session_opened any n (t ∷ ts) f h = h

module _ {V : Type 0} (form : WireForm V) (limit : ℕ) (old : LogPlace) where
  pub none_appended : AppendsAll form limit old old []
  none_appended = record { trees = []; of = tt; are = tt; wrote = Wrote-none old.line; quiet = refl; next_is = omega arith }

  -- one more
  pub one_appended : (m : ℕ) (mid new : LogPlace) (values : List V) (v : V)
      → AppendsAll form limit old mid values → Appended (limit - 1) (form.writes v) (Ok m) mid new → new.line.faults ≡ mid.line.faults → new.next ≡ mid.next + 1 → mid.next < 2 ^ 64 - 1
      → ((t : Tree) → form.writes v ≡ Some t → form.takes t) → AppendsAll form limit old new (values ++ v ∷ [])
  one_appended m mid new values v p q quiet e l taken =
      let n = old.next in
      let now = mid.next in
      let t = q.is.1.0 in
      let done : q.send ≡ completed (numbered now t) = q.is.1.2 in
      let here : now ≡ n + length p.trees = p.next_is in
      let framed : IsFramed IsTree (limit - 1) (numbered now t) = subst (λ x. IsSend IsTree (limit - 1) 0 true x) done q.is_send in
      let bytes : Wrote mid.line new.line (sent 0 true (numbered now t)) = subst (λ x. Wrote mid.line new.line (written 0 true x)) done q.wrote in
      record {
        trees = p.trees ++ t ∷ [];
        of = all_zipped_more (λ v t. form.writes v ≡ Some t) values p.trees v t p.of q.is.1.1;
        are = session_more (takes_record form.takes) limit n p.trees t p.are (subst (λ m. IsFramed (takes_record form.takes) limit (numbered m t)) here
            (record { taken = ((refl, omega (arith, l)), (taken t q.is.1.1, tt)); within = omega (arith, framed.within) }));
        wrote = subst (λ b. Wrote old.line new.line b) (ap (λ m. session_line 0 true (appends numbered n p.trees) ++ sent 0 true (numbered m t)) here ∙ line_more n p.trees t) (Wrote-then _ _ _ _ _ p.wrote bytes);
        quiet = quiet ∙ p.quiet;
        next_is = omega (arith, e, here, length-append p.trees (t ∷ []));
      }

-- one event more
history_more : (any : Tree) (run : List (List Send)) (events : List LogEvent) (e : LogEvent) → history 0 numbered any run (events ++ e ∷ []) ≡ after 0 numbered any (history 0 numbered any run events) e
history_more any run [] e = refl
history_more any run (d ∷ events) e = history_more any (after 0 numbered any run d) events e

-- the bytes behind told ones
pub told_on : (old bytes : List ℕ) (new : Option (List ℕ)) (f g : ℕ) → Grew (Some old) new f g bytes → g ≡ f → new ≡ Some (old ++ bytes)
told_on old bytes None f g w e = absurd (omega (arith, w))
told_on old bytes (Some x) f g w e = ap (λ z. Some z) w

-- numbers that count on from the records that are there
same_numbers : (n : ℕ) (count : ℕ) (ts : List Tree) → n ≡ min count (2 ^ 64 - 1) → (0 < length ts → n < 2 ^ 64 - 1) → appends numbered n ts ≡ appends numbered count ts
same_numbers n count [] e h = refl
same_numbers n count (t ∷ ts) e h = ap (λ m. appends numbered m (t ∷ ts)) (let l : n < 2 ^ 64 - 1 = h (omega arith) in let k : n ≡ count = omega (arith, e, l) in k)

-- what is said of a result where there is one, together
pub both_some : {A : Type 0} {P Q R : A → Type 0} (r : Option A) → IfSome r P → IfSome r Q → ((x : A) → P x → Q x → R x) → IfSome r R
both_some None p q f = tt
both_some (Some x) p q f = f x p q

module _ {V : Type 0} (form : WireForm V) (limit : ℕ) (has : HasBytes (takes_record form.takes) limit 0) where
  pub goes_on : (any : Tree) (events : List LogEvent) (old new : LogPlace) (values : List V)
      → IsFramed (takes_record form.takes) limit any → IsHistory (takes_record form.takes) limit 0 numbered any events
      → old.line.told ≡ Some (line 0 (history 0 numbered any [] events) ++ 0 ∷ []) → old.next ≡ min (length (read_of (history 0 numbered any [] events))) (2 ^ 64 - 1)
      → AppendsAll form limit old new values → (0 < length values → old.next < 2 ^ 64 - 1) → HistoryGoesOn form limit any events new.line.told values
  goes_on any events old new values f is held e p below =
      let n = old.next in
      let run = history 0 numbered any [] events in
      let count = length (read_of run) in
      let more = same_numbers n count p.trees e (λ l. below (omega (arith, l, AllZip-long (λ v t. form.writes v ≡ Some t) values p.trees p.of))) in
      let are : IsSession (takes_record form.takes) limit 0 true (appends numbered count p.trees) = subst (λ x. IsSession (takes_record form.takes) limit 0 true x) more p.are in
      let joined : IsRun (takes_record form.takes) limit 0 (after 0 numbered any run (appended p.trees)) =
      runs_joined (takes_record form.takes) limit 0 run (opened any (appends numbered count p.trees) ∷ []) is (session_opened (takes_record form.takes) limit any count p.trees f are, tt) in
      let behind = history_more any [] events (appended p.trees) in
      let bytes : new.line.told ≡ Some ((line 0 run ++ 0 ∷ []) ++ session_line 0 true (appends numbered n p.trees)) =
      told_on (line 0 run ++ 0 ∷ []) (session_line 0 true (appends numbered n p.trees)) new.line.told old.line.faults new.line.faults (subst (λ x. Grew x new.line.told old.line.faults new.line.faults (session_line 0 true (appends numbered n p.trees))) held p.wrote.grew) p.quiet in
      record {
        trees = p.trees;
        of = p.of;
        is_history = subst (λ r. IsRun (takes_record form.takes) limit 0 r) (sym behind) joined;
        bytes = bytes ∙ ap (λ x. Some x) (append_assoc (line 0 run) (0 ∷ []) (session_line 0 true (appends numbered n p.trees)) ∙ ap (λ x. line 0 run ++ (0 ∷ session_line 0 true x)) more
            ∙ sym (has numbered any run (appended p.trees) is) ∙ ap (λ r. line 0 r) (sym behind));
      }
