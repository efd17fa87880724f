-- Sends one after another: those of one sender are a session, and sessions of new senders a run. The laws here make them of what
-- `send` and `send_each` say, and join them with what a receiver says.
use Rattle.std.proofs.Common.{◌≡◌, ℕ, zero, suc, length, ◌<◌, ◌≤◌, Bool, true, false, List, [], ◌∷◌, ◌++◌, Option, Some, None, Result, Ok, Err, refl, sym, ap, ◌∙◌, subst, arith}
use Rattle.std.specs.Prelude.{IfSome, bit_xor, cond, map, nat_lt, Vec}
use Rattle.std.specs.List.{AllZip, AllByRecursion, zip}
use Rattle.std.proofs.lemmas.Bool.{lt-ltb, le-ltb}
use Rattle.std.proofs.lemmas.List.{append-nil, length-append, length-map}
use Rattle.line_io.specs.Device.{LineState, Came, Grew, Wrote}
use Rattle.line_io.specs.Calls.{Wrote-none, Wrote-then}
use Rattle.cobs.specs.Frames.{shortest_frame}
use Rattle.cobs.specs.Sentinel.{frame_for}
use Rattle.postcard_tree.specs.Tree.{Tree, IsTree}
use Rattle.postcard_tree.specs.Spelling.{short}
use Rattle.postcard.specs.Frames.{Holds}
use Rattle.link.specs.Stream.{HoldsExactly, value, damaged}
use Rattle.link.specs.Run.{Send, completed, refused, broken, written, clean_after, session_line, line, sent, frame_bytes, told_broken, told, IsSend, IsSession, IsRun}
use Rattle.link.specs.Senders.{SenderPlace, HasSent, IsSent, UnlessRefusal}
use Rattle.link.specs.Fates.{IsSendOf, SendsAll}
use Rattle.link.specs.Pushes.{Matches}
use Rattle.line_io.specs.Transfers.{HasRead}
use Rattle.link.specs.Listening.{HasAnswered, IsReceived, Receives}
use Rattle.link_laws.specs.Answered.{Sends}
use Rattle.link_laws.specs.Values.{sends_of, runs_of, answer_of, told_values_session, told_values, AlikeAnswers, AreSends}
use Rattle.link.specs.declared.sender.SendError.{SendError}
use Rattle.link.specs.declared.sender.SendError.TheVariants.{Refused, Line}
use Rattle.link.specs.declared.receiver.Answer.{Answer}
use Rattle.link.specs.declared.receiver.Answer.TheVariants.{Value, Damaged, TooLong, Cut}
use Rattle.line_io.specs.declared.transfers.End.{End}
use Rattle.line_io.specs.declared.transfers.End.TheVariants.{Ended}

-- a send of v: which one it was, what it left on the line, and whether the sender is clean behind it
pub record LeavesSend {V : Type 0} (takes : Tree → Type 0) (writes : V → Option Tree)
    (valid : V → Type 0) (limit s : ℕ) (clean later : Bool) (old new : LineState)
    (v : V) (x : Send) : Type 0 where
  -- its frame is within the limit; interrupted, a part of its bytes was left
  pub is : IsSend takes limit s clean x
  -- it is a send of this value
  pub of : Sends writes valid v x
  -- the line took what such a send writes
  pub wrote : Wrote old new (written s clean x)
  -- the sender is clean or not as after such a send
  pub then : later ≡ clean_after clean x

-- sends of values by one sender, and what they left on the line
pub record LeavesSession {V : Type 0} (takes : Tree → Type 0) (writes : V → Option Tree)
    (valid : V → Type 0) (limit s : ℕ) (clean : Bool) (old new : LineState)
    (calls : List (V × Send)) : Type 0 where
  -- they are a session of one sender
  pub is : IsSession takes limit s clean (sends_of calls)
  -- each is a send of its value
  pub of : AllByRecursion (λ c. Sends writes valid c.0 c.1) calls
  -- the line took what such a session writes
  pub wrote : Wrote old new (session_line s clean (sends_of calls))

-- sends of values by new senders one after another, and what they left on the line
pub record LeavesRun {V : Type 0} (takes : Tree → Type 0) (writes : V → Option Tree)
    (valid : V → Type 0) (limit s : ℕ) (old new : LineState)
    (run : List (List (V × Send))) : Type 0 where
  -- they are a run
  pub is : IsRun takes limit s (runs_of run)
  -- each is a send of its value
  pub of : AreSends writes valid run
  -- the line took what such a run writes
  pub wrote : Wrote old new (line s (runs_of run))

-- These answers are what is to be told of the run; their values are alike those sent.
pub record HeardOfRun {V : Type 0} (reads : Tree → V → Type 0) (alike : V → V → Type 0) (s : ℕ)
    (run : List (List (V × Send))) (answers : List (Answer V)) : Type 0 where
  -- the results are what `told` says, by trees
  pub heard : AllZip (Matches reads) answers (told s (runs_of run))
  -- and by values alike those sent
  pub as_sent : AllZip (AlikeAnswers alike) (told_values s run) answers

-- What is answered to the line of a run of values is what is to be told of it.
abbrev pub HearsRuns : {V : Type 0} → (Tree → Type 0) → (List ℕ → Tree → Type 0)
    → (Tree → V → Type 0) → (V → V → Type 0) → (V → Option Tree) → (V → Type 0) → Type 0
HearsRuns {V} takes holds reads alike writes valid = (limit s : ℕ) (run : List (List (V × Send)))
    (answers : List (Answer V)) → IsRun takes limit s (runs_of run) → AreSends writes valid run
    → HasAnswered holds reads limit s answers (line s (runs_of run))
    → HeardOfRun reads alike s run answers

-- A type's values are carried by a line: it takes the trees that its valid values write, and what is answered to the line of a run
-- of them is what is to be told of it, ordinarily and strictly.
pub record CarriesValues {V : Type 0} (takes : Tree → Type 0) (reads : Tree → V → Type 0)
    (alike : V → V → Type 0) (writes : V → Option Tree) (valid : V → Type 0) : Type 0 where
  -- the type accepts what its valid values are written as
  pub taken : (v : V) (t : Tree) → valid v → writes v ≡ Some t → takes t
  -- the line of a run of values gives what `told` says of it
  pub ordinary : HearsRuns takes (Holds takes) reads alike writes valid
  -- and strictly too
  pub strict : HearsRuns takes (HoldsExactly takes) reads alike writes valid

-- A reader that told its end gave all that was to come.
pub all_read : (stream bytes : List ℕ) (old new : LineState) → old.told ≡ Some stream → HasRead old new Ended bytes → bytes ≡ stream
all_read stream bytes old new comes h = all_told old.told new.told old.faults new.faults comes h.0.came h.1 h.2
  where
    all_told : (u v : Option (List ℕ)) (f g : ℕ) → u ≡ Some stream → Came u v f g bytes → g ≡ f → IfSome v (λ rest. rest ≡ []) → bytes ≡ stream
    all_told None v f g e c q h = cc
    all_told (Some x) None f g e c q h = absurd (omega arith)
    all_told (Some x) (Some rest) f g e c q h = sym (some_is e ∙ c ∙ ap (λ y. bytes ++ y) h ∙ append-nil bytes)
      where
        some_is : {x y : List ℕ} → ◌≡◌ {A = Option (List ℕ)} (Some x) (Some y) → y ≡ x
        some_is e = cc

-- Bytes that were told stay told where all calls that wrote told theirs: on an empty line what was written is all that is there.
pub all_written : (old new : LineState) (stream bytes : List ℕ) → old.told ≡ Some [] → new.told ≡ Some stream → Wrote old new bytes → stream ≡ bytes
all_written old new stream bytes e w h = all_grew old.told new.told old.faults new.faults e w h.grew
  where
    all_grew : (u v : Option (List ℕ)) (f g : ℕ) → u ≡ Some [] → v ≡ Some stream → Grew u v f g bytes → stream ≡ bytes
    all_grew None v f g e w k = cc
    all_grew (Some x) None f g e w k = cc
    all_grew (Some x) (Some y) f g e w k = cc

-- Sends of values, each beside its value, are these sends.
pub sends_beside : {V : Type 0} (R : V → Send → Type 0) (values : List V) (xs : List Send)
    → AllZip R values xs → sends_of (zip values xs) ≡ xs
sends_beside R [] [] h = refl
sends_beside R [] (x ∷ xs) h = absurd h
sends_beside R (v ∷ values) [] h = absurd h
sends_beside R (v ∷ values) (x ∷ xs) h = ap (λ l. x ∷ l) (sends_beside R values xs h.1)

module _ {V : Type 0} (writes : V → Option Tree) (valid : V → Type 0) (limit : ℕ) where
  -- A send is one of its value, by what was answered.
  pub sent_is : (v : V) (r : Result (Unit {0}) SendError) (x : Send) → IsSent limit (writes v) r x
      → UnlessRefusal r (valid v) → Sends writes valid v x
  sent_is v (Ok u) (completed t) h k = (k, h.1)
  sent_is v (Err e) (completed t) h k = absurd (let no : ◌≡◌ {A = Result (Unit {0}) SendError} (Err e) (Ok tt) = h.0 in cc)
  sent_is v r refused h k = tt
  sent_is v (Ok u) (broken t j) h k = absurd (let no : ◌≡◌ {A = Result (Unit {0}) SendError} (Ok u) (Err Line) = h.0 in cc)
  sent_is v (Err Line) (broken t j) h k = (k, h.1)
  sent_is v (Err (Refused e)) (broken t j) h k = absurd (let no : ◌≡◌ {A = Result (Unit {0}) SendError} (Err (Refused e)) (Err Line) = h.0 in cc)

  one_of : (v : V) (x : Send) → IsSendOf limit (writes v) (valid v) x → Sends writes valid v x
  one_of v (completed t) h = (h.1, h.0)
  one_of v refused h = tt
  one_of v (broken t k) h = (h.1, h.0)

  -- Sends by their fates are sends of their values.
  pub all_of : (values : List V) (xs : List Send)
      → AllZip (λ v x. IsSendOf limit (writes v) (valid v) x) values xs
      → AllByRecursion (λ c. Sends writes valid c.0 c.1) (zip values xs)
  all_of [] [] h = tt
  all_of [] (x ∷ xs) h = absurd h
  all_of (v ∷ values) [] h = absurd h
  all_of (v ∷ values) (x ∷ xs) h = (one_of v x h.0, all_of values xs h.1)

module _ {V : Type 0} {takes : Tree → Type 0} {writes : V → Option Tree} {valid : V → Type 0} (taken : (v : V) (t : Tree) → valid v → writes v ≡ Some t → takes t) (limit s : ℕ) where
  -- A send of a value is one of a tree that its type takes.
  pub takes_send : (v : V) (x : Send) (clean : Bool) → Sends writes valid v x
      → IsSend IsTree limit s clean x → IsSend takes limit s clean x
  takes_send v (completed t) clean h k = record { taken = taken v t h.0 h.1; within = k.within }
  takes_send v refused clean h k = k
  takes_send v (broken t n) clean h k = (record { taken = taken v t h.0 h.1; within = k.0.within }, k.1)

  takes_session : (calls : List (V × Send)) (clean : Bool)
      → AllByRecursion (λ c. Sends writes valid c.0 c.1) calls
      → IsSession IsTree limit s clean (sends_of calls)
      → IsSession takes limit s clean (sends_of calls)
  takes_session [] clean h k = tt
  takes_session (c ∷ calls) clean h k = (takes_send c.0 c.1 clean h.0 k.0, takes_session calls (clean_after clean c.1) h.1 k.1)

  takes_each : (run : List (List (V × Send))) → AreSends writes valid run
      → IsRun IsTree limit s (runs_of run) → IsRun takes limit s (runs_of run)
  takes_each [] h k = tt
  takes_each (calls ∷ run) h k = (takes_session calls false h.0 k.0, takes_each run h.1 k.1)

-- A run of values is one of trees that their type takes.
pub takes_run : {V : Type 0} {takes : Tree → Type 0} {writes : V → Option Tree} {valid : V → Type 0}
    → ((v : V) (t : Tree) → valid v → writes v ≡ Some t → takes t)
    → {limit s : ℕ} {old new : LineState} {run : List (List (V × Send))}
    → LeavesRun IsTree writes valid limit s old new run
    → LeavesRun takes writes valid limit s old new run
takes_run taken {limit = limit} {s = s} {run = run} h = record { is = takes_each taken limit s run h.of h.is; of = h.of; wrote = h.wrote }

module _ (takes : Tree → Type 0) (s : ℕ) where
  wider_send : (n limit : ℕ) → n ≤ limit → (x : Send) (clean : Bool) → IsSend takes n s clean x
      → IsSend takes limit s clean x
  wider_send n limit l (completed t) clean k = record { taken = k.taken; within = omega (arith, l, k.within) }
  wider_send n limit l refused clean k = k
  wider_send n limit l (broken t j) clean k = (record { taken = k.0.taken; within = omega (arith, l, k.0.within) }, k.1)

  wider_session : (n limit : ℕ) → n ≤ limit
      → (xs : List Send) (clean : Bool) → IsSession takes n s clean xs
      → IsSession takes limit s clean xs
  wider_session n limit l [] clean k = tt
  wider_session n limit l (x ∷ xs) clean k = (wider_send n limit l x clean k.0, wider_session n limit l xs (clean_after clean x) k.1)

  -- A run under a limit is one under any greater limit.
  pub wider_run : (n limit : ℕ) → n ≤ limit → (run : List (List Send)) → IsRun takes n s run
      → IsRun takes limit s run
  wider_run n limit l [] k = tt
  wider_run n limit l (xs ∷ run) k = (wider_session n limit l xs false k.0, wider_run n limit l run k.1)

module _ {V : Type 0} (writes : V → Option Tree) (valid : V → Type 0) (limit : ℕ) (v : V) (old new : SenderPlace) where
  -- a send of v by a sender that stood and stands so
  abbrev pub Leaves : Send → Type 0
  Leaves x = LeavesSend IsTree writes valid limit old.sentinel old.clean new.clean old.line new.line v x

module _ {V : Type 0} {takes : Tree → Type 0} {reads : Tree → V → Type 0} {alike : V → V → Type 0} {writes : V → Option Tree} {valid : V → Type 0} (law : CarriesValues takes reads alike writes valid) {limit : ℕ} (v : V)
    {old new : SenderPlace} {r : Result (Unit {0}) SendError} where
  -- What `send` says of a value, whatever it answered.
  pub sent_somehow : HasSent limit (writes v) (valid v) old new r
      → (x : Send) × IsSent limit (writes v) r x × Leaves writes valid limit v old new x
  sent_somehow h = (h.send, h.answered, record { is = h.is; of = sent_is writes valid limit v r h.send h.answered h.valid; wrote = h.wrote; then = h.then })

  -- A send that was answered `Ok` completed.
  pub sent_whole : HasSent limit (writes v) (valid v) old new r → r ≡ Ok tt
      → (t : Tree) × Leaves writes valid limit v old new (completed t)
  sent_whole h e = let x = sent_somehow h in by x.0 x.1 x.2
    where
      by : (x : Send) → IsSent limit (writes v) r x → Leaves writes valid limit v old new x → (t : Tree) × Leaves writes valid limit v old new (completed t)
      by (completed t) i l = (t, l)
      by refused i l = absurd (let no : ◌≡◌ {A = Result (Unit {0}) SendError} (Err (Refused i.0)) (Ok tt) = sym i.1 ∙ e in cc)
      by (broken t n) i l = absurd (let no : ◌≡◌ {A = Result (Unit {0}) SendError} (Err Line) (Ok tt) = sym i.0 ∙ e in cc)

  -- A send that was answered `Line` broke off.
  pub sent_in_part : HasSent limit (writes v) (valid v) old new r → r ≡ Err Line
      → (t : Tree) × (k : ℕ) × Leaves writes valid limit v old new (broken t k)
  sent_in_part h e = let x = sent_somehow h in by x.0 x.1 x.2
    where
      by : (x : Send) → IsSent limit (writes v) r x → Leaves writes valid limit v old new x → (t : Tree) × (k : ℕ) × Leaves writes valid limit v old new (broken t k)
      by (completed t) i l = absurd (let no : ◌≡◌ {A = Result (Unit {0}) SendError} (Ok tt) (Err Line) = sym i.0 ∙ e in cc)
      by refused i l = absurd (let no : ◌≡◌ {A = Result (Unit {0}) SendError} (Err (Refused i.0)) (Err Line) = sym i.1 ∙ e in cc)
      by (broken t n) i l = (t, n, l)

module _ {V : Type 0} {writes : V → Option Tree} {valid : V → Type 0} {limit : ℕ} where
  -- What `send_each` says is a session.
  pub all_sent : {s : ℕ} {clean later : Bool} {u v : LineState}
      {values : List V} {fates : _}
      (all : SendsAll limit s writes valid clean later u v values fates)
      → LeavesSession IsTree writes valid limit s clean u v (zip values all.sends)
  all_sent {s = s} {clean = clean} {u = u} {v = v} {values = values} all =
      let beside = sym (sends_beside (λ v x. IsSendOf limit (writes v) (valid v) x) values all.sends all.of) in
      record {
        is = subst (λ xs. IsSession IsTree limit s clean xs) beside all.are;
        of = all_of writes valid limit values all.sends all.of;
        wrote = subst (λ xs. Wrote u v (session_line s clean xs)) beside all.did.wrote;
      }

module _ {V : Type 0} {takes : Tree → Type 0} {writes : V → Option Tree} {valid : V → Type 0} {limit : ℕ} where
  -- A session may be empty.
  pub none_sent : {s : ℕ} {clean : Bool} {now : LineState}
      → LeavesSession takes writes valid limit s clean now now []
  none_sent {now = now} = record { is = tt; of = tt; wrote = Wrote-none now }

  -- A send and then a session of the same sender, whose sentinel stays, are a session.
  pub then_sent : {s s' : ℕ} {clean later : Bool} {u v w : LineState} {a : V}
      {x : Send} {calls : List (V × Send)}
      → LeavesSend takes writes valid limit s clean later u v a x → s' ≡ s
      → LeavesSession takes writes valid limit s' later v w calls
      → LeavesSession takes writes valid limit s clean u w ((a, x) ∷ calls)
  then_sent {s = s} {clean = clean} {later = later} {u = u} {v = v} {w = w} {a = a} {x = x} {calls = calls} p e q =
      let q' = subst (λ z. LeavesSession takes writes valid limit s z v w calls) p.then (subst (λ z. LeavesSession takes writes valid limit z later v w calls) e q) in
      record {
        is = (p.is, q'.is);
        of = (p.of, q'.of);
        wrote = Wrote-then u v w (written s clean x) (session_line s (clean_after clean x) (sends_of calls)) p.wrote q'.wrote;
      }

  -- A run may be empty.
  pub no_session : {s : ℕ} {now : LineState}
      → LeavesRun takes writes valid limit s now now []
  no_session {now = now} = record { is = tt; of = tt; wrote = Wrote-none now }

  -- A session of a new sender, which isn't clean, and then a run are a run.
  pub then_session : {s s' : ℕ} {clean : Bool} {u v w : LineState}
      {calls : List (V × Send)} {run : List (List (V × Send))}
      → s' ≡ s → clean ≡ false → LeavesSession takes writes valid limit s' clean u v calls
      → LeavesRun takes writes valid limit s v w run
      → LeavesRun takes writes valid limit s u w (calls ∷ run)
  then_session {s = s} {clean = clean} {u = u} {v = v} {w = w} {calls = calls} {run = run} e d p q =
      let p' = subst (λ z. LeavesSession takes writes valid limit s z u v calls) d (subst (λ z. LeavesSession takes writes valid limit z clean u v calls) e p) in
      record {
        is = (p'.is, q.is);
        of = (p'.of, q.of);
        wrote = Wrote-then u v w (session_line s false (sends_of calls)) (line s (runs_of run)) p'.wrote q.wrote;
      }

module _ {V : Type 0} {takes : Tree → Type 0} {reads : Tree → V → Type 0} {alike : V → V → Type 0} {writes : V → Option Tree} {valid : V → Type 0} (law : CarriesValues takes reads alike writes valid) where
  -- What is received of the line of a run, by a reader that gives it and told its end, is what is to be told of the run.
  pub heard_of_run : {A : Type 0} {growing : Bool} {n limit s : ℕ} (run : List (List (V × Send))) (old new : LineState)
      (end : End) (list : Vec (Answer V) A)
      → n ≤ limit → IsRun takes n s (runs_of run) → AreSends writes valid run
      → Receives (Holds takes) reads growing limit s old new end list
      → old.told ≡ Some (line s (runs_of run)) → end ≡ Ended → HeardOfRun reads alike s run list.items
  heard_of_run {n = n} {limit = limit} {s = s} run old new end list l is of h comes ends =
      let answered : HasAnswered (Holds takes) reads limit s list.items h.0 = subst (λ e. IsReceived (Holds takes) reads limit s e list.items h.0) ends h.2 in
      let same = all_read (line s (runs_of run)) h.0 old new comes (subst (λ e. HasRead old new e h.0) ends h.1) in
      law.ordinary limit s run list.items (wider_run takes s n limit l (runs_of run) is) of
      (subst (λ z. HasAnswered (Holds takes) reads limit s list.items z) same answered)

  -- Where the line was empty, and what the run left there is what comes, that is heard.
  pub heard_of_line : {A : Type 0} {growing : Bool} {n limit s : ℕ} {run : List (List (V × Send))} {u v : LineState} (stream : List ℕ) (old new : LineState)
      (end : End) (list : Vec (Answer V) A)
      → LeavesRun IsTree writes valid n s u v run
      → Receives (Holds takes) reads growing limit s old new end list
      → n ≤ limit → u.told ≡ Some [] → v.told ≡ Some stream → old.told ≡ Some stream → end ≡ Ended
      → HeardOfRun reads alike s run list.items
  heard_of_line {n = n} {s = s} {run = run} {u = u} {v = v} stream old new end list r h l empty wrote comes ends =
      let whole = all_written u v stream (line s (runs_of run)) empty wrote r.wrote in
      heard_of_run run old new end list l (takes_each law.taken n s run r.of r.is) r.of h (comes ∙ ap Some whole) ends

-- Of a frame so many bytes had gone out where a send broke off: all of them at most.
pub out_at_most : (s : ℕ) (clean : Bool) (t : Tree) (k : ℕ) → k < length (sent s clean t)
    → frame_bytes clean k ≤ length (shortest_frame (short t))
out_at_most s true t k l = omega (arith, l, length-append (frame_for s (short t)) (s ∷ []), length-map (shortest_frame (short t)) (bit_xor s))
out_at_most s false t zero l = omega arith
out_at_most s false t (suc k) l = omega (arith, l, length-append (frame_for s (short t)) (s ∷ []), length-map (shortest_frame (short t)) (bit_xor s))

-- What is told of a send of b that broke off after k bytes, and of a later one of c that completed: by how many bytes of its frame
-- had gone out.
module _ {V : Type 0} (s : ℕ) (clean : Bool) (b c : V) (t z : Tree) (k : ℕ) (calls : List (V × Send)) (later : List ℕ) where
  abbrev told_by : ℕ → List (Answer V)
  told_by out = map (answer_of b)
      (told_broken t out (session_line s false (completed z ∷ sends_of calls) ++ later))
      ++ (Value c ∷ told_values_session s true later calls)

  by_front : (out : ℕ) (front : Bool) → nat_lt out (length (shortest_frame (short t))) ≡ front
      → 0 < out → told_by out ≡ map (answer_of b) (cond front (damaged ∷ []) (value t ∷ []))
      ++ (Value c ∷ told_values_session s true later calls)
  by_front zero front e l = absurd (omega arith)
  by_front (suc out) front e l = ap (λ x. map (answer_of b) (cond x (damaged ∷ []) (value t ∷ [])) ++ (Value c ∷ told_values_session s true later calls)) e

  -- None of it had: nothing is told of it.
  pub told_before : frame_bytes clean k ≡ 0
      → told_values_session s clean later ((b, broken t k) ∷ (c, completed z) ∷ calls)
      ≡ Value c ∷ told_values_session s true later calls
  told_before e = ap told_by e

  -- Some, and not all: damage is told.
  pub told_inside : 0 < frame_bytes clean k
      → frame_bytes clean k < length (shortest_frame (short t))
      → told_values_session s clean later ((b, broken t k) ∷ (c, completed z) ∷ calls)
      ≡ Damaged ∷ Value c ∷ told_values_session s true later calls
  told_inside l m = by_front (frame_bytes clean k) true (lt-ltb (frame_bytes clean k) (length (shortest_frame (short t))) m) l

  -- All, and not the sentinel behind it: its value is told.
  pub told_behind : 0 < frame_bytes clean k
      → length (shortest_frame (short t)) ≤ frame_bytes clean k
      → told_values_session s clean later ((b, broken t k) ∷ (c, completed z) ∷ calls)
      ≡ Value b ∷ Value c ∷ told_values_session s true later calls
  told_behind l m = by_front (frame_bytes clean k) false (le-ltb (frame_bytes clean k) (length (shortest_frame (short t))) m) l

-- Answers that are alike these are these, where alike values are equal.
one_same : {V : Type 0} {alike : V → V → Type 0} → ((v w : V) → alike v w → v ≡ w)
    → (x y : Answer V) → AlikeAnswers alike x y → y ≡ x
one_same same (Value v) (Value w) h = ap (λ u. Value u) (sym (same v w h))
one_same same (Value v) Damaged h = absurd h
one_same same (Value v) TooLong h = absurd h
one_same same (Value v) Cut h = absurd h
one_same same Damaged (Value w) h = absurd h
one_same same Damaged Damaged h = refl
one_same same Damaged TooLong h = absurd h
one_same same Damaged Cut h = absurd h
one_same same TooLong (Value w) h = absurd h
one_same same TooLong Damaged h = absurd h
one_same same TooLong TooLong h = refl
one_same same TooLong Cut h = absurd h
one_same same Cut (Value w) h = absurd h
one_same same Cut Damaged h = absurd h
one_same same Cut TooLong h = absurd h
one_same same Cut Cut h = refl

pub all_same : {V : Type 0} {alike : V → V → Type 0} → ((v w : V) → alike v w → v ≡ w)
    → (xs ys : List (Answer V)) → AllZip (AlikeAnswers alike) xs ys → ys ≡ xs
all_same same [] [] h = refl
all_same same [] (y ∷ ys) h = absurd h
all_same same (x ∷ xs) [] h = absurd h
all_same same (x ∷ xs) (y ∷ ys) h = ap (λ z. z ∷ ys) (one_same same x y h.0) ∙ ap (λ l. x ∷ l) (all_same same xs ys h.1)

-- What is heard of a run are the very values sent, where alike values are equal.
pub heard_is : {V : Type 0} {reads : Tree → V → Type 0} {alike : V → V → Type 0} {s : ℕ}
    {run : List (List (V × Send))} {answers : List (Answer V)} → ((v w : V) → alike v w → v ≡ w)
    → HeardOfRun reads alike s run answers → answers ≡ told_values s run
heard_is {s = s} {run = run} {answers = answers} same h = all_same same (told_values s run) answers h.as_sent
