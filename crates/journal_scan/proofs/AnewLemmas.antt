-- Records that are read of a log one after another, and appended anew.
use Rattle.std.proofs.Common.{◌≡◌, ℕ, ◌+◌, ◌-◌, ◌^◌, ◌<◌, ◌≤◌, min, max, Bool, true, List, [], ◌∷◌, ◌++◌, length, take, Option, Some, None, Result, Ok, Err, refl, sym, ap, ◌∙◌, subst, inl, inr, arith}
use Rattle.std.specs.Prelude.{IfErr, IfSome}
use Rattle.std.specs.List.{AllZip}
use Rattle.std.proofs.lemmas.List.{append-nil, take_all, length-append, length-take}
use Rattle.std.proofs.Math.Seq.{take-append-add}
use Rattle.cobs.specs.Frames.{shortest_frame}
use Rattle.cobs.specs.Sentinel.{frame_for}
use Rattle.line_io.specs.Device.{LineState, Grew, Wrote}
use Rattle.line_io.specs.Calls.{Wrote-then, Wrote-none}
use Rattle.postcard_tree.specs.Tree.{Tree, byte, number, character, sequence, group, part, end}
use Rattle.postcard_tree.specs.ReadingLaws.{WireForm}
use Rattle.postcard_tree.specs.Spelling.{short}
use Rattle.postcard.specs.Written.{WrittenWhole, UnlessRefused}
use Rattle.link.specs.Stream.{Verdict, ended, unfinished, IsAnswer, HoldsExactly, begun_answers, cut_answers, Answers}
use Rattle.link.specs.Run.{sent}
use Rattle.link.specs.Pushes.{Matches}
use Rattle.link.specs.Roads.{values_of}
use Rattle.link.specs.Lemmas.HeardLaws.{zip_joined}
use Rattle.std.proofs.lemmas.Slice.Zip.{AllZip-long}
use Rattle.link.specs.declared.receiver.Answer.{Answer}
use Rattle.link.specs.declared.receiver.Answer.TheVariants.{Value, Damaged, TooLong, Cut}
use Rattle.link.specs.Lemmas.ValueLaws.{values_joined, values_done, none_in_begun}
use Rattle.journal.specs.Records.{numbered, record_of, takes_record, reads_record}
use Rattle.journal_scan.specs.declared.closing.ClosedScan.{ClosedScan}
use Rattle.journal_scan.specs.declared.scanning.Stretch.{Stretch}
use Rattle.journal_scan.specs.declared.repairing.Repaired.{Repaired}
use Rattle.journal_scan.specs.declared.repairing.RepairError.{RepairError}
use Rattle.journal_scan.specs.declared.repairing.RepairError.TheVariants.{Read, Refused, Line, Sync}
use Rattle.journal_scan.specs.declared.scanning.ScanError.{ScanError}
use Rattle.journal_scan.specs.declared.scanning.ScanError.TheVariants.{Fault, NoMemory}
use Rattle.journal_scan.specs.Tallies.{behind_greatest}
use Rattle.journal_scan.specs.Checks.{numbers_of}
use Rattle.journal_scan.specs.Scanning.{Found, FoundAll, LosesNext, with_zero, told_with_zero}
use Rattle.journal_scan.specs.Closing.{IsClosing, HasPassedNone, FoundClosed, LostClosed, passed_by}
use Rattle.journal_scan.specs.Repairs.{appended_anew, anew_joined, rewritten, IsTreeOf, AreTreesOf, AreReadIn, AreReadFirst, IsRepaired, IsPartlyRepaired, IsRepairedTo, StopsWhole, record_read, WentAnew, GoesAnew, StopsAnew, IfRefused, IfUnsynced}
use Rattle.journal_scan.proofs.GapsLemmas.{behind_push}
use Rattle.journal_scan.proofs.StretchesLemmas.{numbers_joined}

-- Of the stretches that zeros end before an offset these are the records' trees.
pub record ReadsTo (takes : Tree → Type 0) (limit : ℕ) (bytes : List ℕ) (at : ℕ) (ts : List Tree) : Type 0 where
  pub answers : List Verdict
  pub each : AllZip (IsAnswer (HoldsExactly (takes_record takes)) limit) (ended 0 (take at bytes)) answers
  pub are : values_of answers ≡ ts

-- A scan stands behind stretches of which these are the records' trees.
pub record ReadsBehind (takes : Tree → Type 0) (limit : ℕ) (bytes : List ℕ) (scan : ClosedScan) (ts : List Tree) : Type 0 where
  pub closing : IsClosing limit bytes scan
  pub to : ReadsTo takes limit (with_zero bytes) (passed_by bytes scan) ts

module _ {V : Type 0} (form : WireForm V) (back : (t : Tree) (v : V) → form.reads t v → form.writes v ≡ Some t) where
  -- the tree that a record was read from is the one that it writes
  tree_read : (r : ℕ × V) (t : Tree) → reads_record form.reads t r → IsTreeOf form.writes r t
  tree_read r (byte b) h = absurd h
  tree_read r (number bits n) h = absurd h
  tree_read r (character c) h = absurd h
  tree_read r (sequence ts) h = absurd h
  tree_read r (group end) h = absurd h
  tree_read r (group (part a end)) h = absurd h.1
  tree_read r (group (part (byte b) (part v end))) h = absurd h.0
  tree_read r (group (part (character b) (part v end))) h = absurd h.0
  tree_read r (group (part (sequence b) (part v end))) h = absurd h.0
  tree_read r (group (part (group b) (part v end))) h = absurd h.0
  tree_read r (group (part a (part v (part w ws)))) h = absurd h.1.1
  tree_read r (group (part (number bits n) (part v end))) h = (
    v,
    back v r.1 h.1.0,
    ap (λ w. group (part (number w n) (part v end))) h.0.0 ∙ ap (λ m. group (part (number 64 m) (part v end))) (sym h.0.1),
  )

  one_tree : (r : ℕ × V) (t u : Tree) → IsTreeOf form.writes r t → IsTreeOf form.writes r u → t ≡ u
  one_tree r t u h k = h.2 ∙ ap (numbered r.0) (let e : Some h.0 ≡ Some k.0 = sym h.1 ∙ k.1 in cc) ∙ sym k.2

  -- what is read of a stretch is the tree of the record that is appended anew, where it is one
  values_read : (a : Answer (ℕ × V)) (v : Verdict) (us : List Tree) → Matches (reads_record form.reads) a v → AreTreesOf form.writes (record_read a) us → values_of (v ∷ []) ≡ us
  values_read (Value r) v [] h k = absurd k
  values_read (Value r) v (u ∷ []) (t, h, e) k = ap (λ x. values_of (x ∷ [])) e ∙ ap (λ x. x ∷ []) (one_tree r t u (tree_read r t h) k.0)
  values_read (Value r) v (u ∷ w ∷ us) h k = absurd k.1
  values_read Damaged v [] h k = ap (λ x. values_of (x ∷ [])) h
  values_read Damaged v (u ∷ us) h k = absurd k
  values_read TooLong v [] h k = ap (λ x. values_of (x ∷ [])) h
  values_read TooLong v (u ∷ us) h k = absurd k
  values_read Cut v [] h k = ap (λ x. values_of (x ∷ [])) h
  values_read Cut v (u ∷ us) h k = absurd k

  module _ (limit : ℕ) (bytes : List ℕ) where
    pub one_more : (old new : ℕ) (ts us : List Tree) (s : Stretch V) → ReadsTo form.takes limit bytes old ts
        → Found form limit bytes old new (Some s) → AreTreesOf form.writes (record_read s.answer) us → ReadsTo form.takes limit bytes new (ts ++ us)
    one_more old new ts us s h f o = record {
      answers = h.answers ++ f.is.verdict ∷ [];
      each =
          subst (λ ps. AllZip (IsAnswer (HoldsExactly (takes_record form.takes)) limit) ps (h.answers ++ f.is.verdict ∷ [])) (sym f.next)
          (zip_joined _ (ended 0 (take old bytes)) (f.stretch ∷ []) h.answers (f.is.verdict ∷ []) h.each (f.is.is, tt));
      are = values_joined h.answers (f.is.verdict ∷ []) ∙ ap (λ x. x ++ values_of (f.is.verdict ∷ [])) h.are ∙ ap (λ x. ts ++ x) (values_read s.answer f.is.verdict us f.is.says o);
    }

    -- a record that was read within the limit isn't refused for its length
    never_refused : (old new : ℕ) (s : Stretch V) (held now : LineState) (most : ℕ) (x : _) → limit < most + 1
        → FoundAll form limit bytes old new (Some s) → StopsAnew form.writes most s.answer held now (Refused x) → ⊥
    never_refused old new s held now most x l f h = go s.answer f.is.verdict f.is.says f.is.is h
      where
        go : (a : Answer (ℕ × V)) (v : Verdict) → Matches (reads_record form.reads) a v → IsAnswer (HoldsExactly (takes_record form.takes)) limit f.stretch v → StopsAnew form.writes most a held now (Refused x) → ⊥
        go (Value r) v (t, m, e) is k =
            let here = subst (IsAnswer (HoldsExactly (takes_record form.takes)) limit f.stretch) e is in
            let d = tree_read r t m in
            let more = subst (λ o. UnlessRefused (record_of r.0 o) (λ b. most < length (shortest_frame b))) d.1 k.1 in
            let short_enough : length f.stretch ≤ limit = here.0 in
            let same : length f.stretch ≡ length (shortest_frame (short (numbered r.0 d.0))) = ap length here.1.1 ∙ ap (λ u. length (shortest_frame (short u))) d.2 in
            omega (arith, l, more, short_enough, same)
        go Damaged v m is k = k
        go TooLong v m is k = k
        go Cut v m is k = k

module _ (takes : Tree → Type 0) (limit : ℕ) (bytes : List ℕ) where
  -- all that is read
  pub all_read : (at : ℕ) (ts : List Tree) → ReadsTo takes limit bytes at ts → ended 0 bytes ≡ ended 0 (take at bytes) → AreReadIn takes limit bytes ts
  all_read at ts h e =
      let u = unfinished 0 bytes in
      let all = h.answers ++ (begun_answers limit u ++ cut_answers limit u) in
      let whole : Answers (HoldsExactly (takes_record takes)) limit 0 bytes all =
      record { done = h.answers; each = subst (λ ps. AllZip (IsAnswer (HoldsExactly (takes_record takes)) limit) ps h.answers) (sym e) h.each; whole = refl } in
      record { answers = all; whole = whole; are = values_done whole ∙ h.are }

  -- what is read of the bytes so far
  abbrev pub some_read : (at : ℕ) (ts : List Tree) → ReadsTo takes limit bytes at ts → AreReadFirst takes limit bytes ts
  some_read at ts h =
      let u = unfinished 0 (take at bytes) in
      record {
        count = at;
        answers = h.answers ++ begun_answers limit u;
        given = record { done = h.answers; each = h.each; whole = refl };
        are = values_joined h.answers (begun_answers limit u) ∙ ap (λ x. values_of h.answers ++ x) (none_in_begun limit u) ∙ append-nil (values_of h.answers) ∙ h.are;
      }

  -- nothing is read of no bytes
  pub nothing_read : AreReadFirst takes limit bytes []
  nothing_read = record { count = 0; answers = begun_answers limit []; given = record { done = []; each = tt; whole = refl }; are = none_in_begun limit [] }

-- a fact of the bytes with a zero behind them, where they are told
pub if_with_zero : (held : Option (List ℕ)) (P : List ℕ → Type 0) → ((bytes : List ℕ) → held ≡ Some bytes → P (with_zero bytes)) → IfSome (told_with_zero held) P
if_with_zero None P h = tt
if_with_zero (Some bytes) P h = h bytes refl

-- a front of the bytes that went out
module _ (old mid new : LineState) (ts : List Tree) where
  pub more_anew : (us : List Tree) → Wrote old mid (rewritten ts) → Wrote mid new (appended_anew us) → Wrote old new (rewritten (ts ++ us))
  more_anew us w v = subst (Wrote old new) (ap (λ x. 0 ∷ x) (sym (anew_joined ts us))) (Wrote-then _ _ _ _ _ w v)

  pub front_anew : (t : Tree) (k : ℕ) → Wrote old mid (rewritten ts) → Wrote mid new (take k (sent 0 true t))
      → Wrote old new (take (length (rewritten ts) + k) (rewritten (ts ++ t ∷ [])))
  front_anew t k w v =
      let bytes : rewritten (ts ++ t ∷ []) ≡ rewritten ts ++ sent 0 true t = ap (λ x. 0 ∷ x) (anew_joined ts (t ∷ []) ∙ ap (λ y. appended_anew ts ++ y) (append-nil (sent 0 true t))) in
      subst (Wrote old new) (sym (take-append-add (rewritten ts) (sent 0 true t) k) ∙ ap (take (length (rewritten ts) + k)) (sym bytes)) (Wrote-then _ _ _ _ _ w v)

  pub all_anew : Wrote old mid (rewritten ts) → Wrote old mid (take (length (rewritten ts)) (rewritten ts))
  all_anew w = subst (Wrote old mid) (sym (take_all (length (rewritten ts)) (rewritten ts) (omega arith))) w

-- what was written stays so where no more bytes are
pub wrote_still : (old mid new : LineState) (bs : List ℕ) → Wrote old mid bs → new.told ≡ mid.told → mid.faults ≤ new.faults → Wrote old new bs
wrote_still old mid new bs w e l = record { grew = subst (λ x. Grew old.told x old.faults new.faults bs) (sym e) (go old.told mid.told w.grew); more = omega (arith, w.more, l) }
  where
    go : (u v : Option (List ℕ)) → Grew u v old.faults mid.faults bs → Grew u v old.faults new.faults bs
    go None None h = tt
    go None (Some y) h = h
    go (Some x) None h = omega (arith, h, l)
    go (Some x) (Some y) h = h

pub on_any : {T E : Type 0} (r : Result T E) (P : Type 0) → P → IfErr r (λ _. P)
on_any (Ok x) P p = tt
on_any (Err e) P p = p

-- no buffer was made
pub unread_none : {T V : Type 0} (r : Result T RepairError) (form : WireForm V) (limit : ℕ) (held : Option (List ℕ)) (old : LineState) → IfErr r (λ e. e ≡ Read NoMemory) → IfErr r (λ e. StopsWhole form limit held old old e)
unread_none (Ok x) form limit held old h = tt
unread_none (Err e) form limit held old h = subst (StopsWhole form limit held old old) (sym h) (inl (Wrote-none old))

-- an append doesn't sync
pub if_stopped : {V : Type 0} (writes : V → Option Tree) (most : ℕ) (a : Answer (ℕ × V)) (old new : LineState) (e : RepairError) (P : Type 0) → StopsAnew writes most a old new e → IfUnsynced e P
if_stopped writes most a old new (Read x) P h = tt
if_stopped writes most a old new (Refused x) P h = tt
if_stopped writes most a old new Line P h = tt
if_stopped writes most (Value r) old new Sync P h = absurd h
if_stopped writes most Damaged old new Sync P h = absurd h
if_stopped writes most TooLong old new Sync P h = absurd h
if_stopped writes most Cut old new Sync P h = absurd h

-- nothing was appended, or only a front of the zero
pub none_appended : (takes : Tree → Type 0) (limit : ℕ) (held : Option (List ℕ)) (old new : LineState) → Wrote old new [] → IsPartlyRepaired takes limit (told_with_zero held) old new
none_appended takes limit held old new w = record { trees = []; count = 0; read = if_with_zero held (λ bytes. AreReadFirst takes limit bytes []) (λ bytes e. nothing_read takes limit (with_zero bytes)); wrote = w }

pub went_so : (old new : LineState) (n m : ℕ) (bs : List ℕ) → n ≡ m → Wrote old new (take n bs) → Wrote old new (take m bs)
went_so old new n m bs e w = subst (λ k. Wrote old new (take k bs)) e w

none_if : (held : Option (List ℕ)) → ((bytes : List ℕ) → held ≡ Some bytes → ⊥) → held ≡ None
none_if None h = refl
none_if (Some bytes) h = absurd (h bytes refl)

-- what was found, of the bytes that were told at first
pub found_told : {V : Type 0} (form : WireForm V) (limit : ℕ) (now held : Option (List ℕ)) (scan later : ClosedScan) (o x : Option (Stretch V)) → now ≡ held → o ≡ x
    → ((limit : ℕ) (bytes : List ℕ) → now ≡ Some bytes → IsClosing limit bytes scan → FoundClosed form limit bytes scan later o)
    → (bytes : List ℕ) → held ≡ Some bytes → IsClosing limit bytes scan → FoundClosed form limit bytes scan later x
found_told form limit now held scan later o x e f found bytes h k = subst (FoundClosed form limit bytes scan later) f (found limit bytes (e ∙ h) k)

-- The records behind which a scan stands were appended anew, and are counted.
pub record RepairedSoFar {V : Type 0} (form : WireForm V) (limit : ℕ) (held : Option (List ℕ)) (old now : LineState) (repaired : Repaired) (scan : ClosedScan) : Type 0 where
  pub records : List (ℕ × V)
  pub trees : List Tree
  pub of : AreTreesOf form.writes records trees
  pub wrote : Wrote old now (rewritten trees)
  pub records_are : repaired.records ≡ min (length records) (2 ^ 64 - 1)
  pub next_is : repaired.next ≡ behind_greatest (numbers_of records)
  pub behind : (bytes : List ℕ) → held ≡ Some bytes → ReadsBehind form.takes limit bytes scan trees

-- a record whose frame stands in front of a buffer went out
pub went_anew : (m : ℕ) (writes : Option Tree) (n k : ℕ) (b : List ℕ) (old new : LineState) → WrittenWhole (record_of m writes) (λ bytes. (n ≡ length (shortest_frame bytes) + 1) × (take n b ≡ frame_for 0 bytes ++ 0 ∷ []))
    → n ≤ k → Wrote old new (take k (take n b)) → WentAnew writes m old new
went_anew m None n k b old new h l w = absurd h
went_anew m (Some v) n k b old new h l w = record { value = v; is = refl; wrote = subst (Wrote old new) (take_all k (take n b) (omega (arith, length-take n b, l)) ∙ h.1.1) w }

-- what one answer adds
module _ {V : Type 0} (writes : V → Option Tree) (old new : LineState) (repaired later : Repaired) where
  pub goes_one : (r : ℕ × V) → WentAnew (writes r.1) r.0 old new → later.records ≡ min (repaired.records + 1) (2 ^ 64 - 1) → later.next ≡ max repaired.next (min (r.0 + 1) (2 ^ 64 - 1))
      → GoesAnew writes (Value r) old new repaired later
  goes_one r w e f = record {
    trees = numbered r.0 w.value ∷ [];
    of = ((w.value, w.is, refl), tt);
    wrote = subst (Wrote old new) (sym (append-nil (sent 0 true (numbered r.0 w.value)))) w.wrote;
    records_are = e;
    next_is = λ ns h. f ∙ ap (λ x. max x (min (r.0 + 1) (2 ^ 64 - 1))) h ∙ sym (behind_push ns r.0);
  }

-- the steps of a repair
module _ {V : Type 0} (form : WireForm V) (back : (t : Tree) (v : V) → form.reads t v → form.writes v ≡ Some t) (limit : ℕ) (held : Option (List ℕ)) (old : LineState) where
  pub repair_begins : (now : LineState) (repaired : Repaired) (scan : ClosedScan) → Wrote old now (0 ∷ []) → repaired.records ≡ 0 → repaired.next ≡ 0
      → ((bytes : List ℕ) → HasPassedNone limit bytes scan) → RepairedSoFar form limit held old now repaired scan
  repair_begins now repaired scan w e f begins = record {
    records = [];
    trees = [];
    of = tt;
    wrote = w;
    records_are = e;
    next_is = f;
    behind = λ bytes h. record {
      closing = (begins bytes).0;
      to = subst (λ n. ReadsTo form.takes limit (with_zero bytes) n []) (sym (begins bytes).1) record { answers = []; each = tt; are = refl };
    };
  }

  module _ {now : LineState} {repaired : Repaired} {scan : ClosedScan} (h : RepairedSoFar form limit held old now repaired scan) where
    so_far : IfSome (told_with_zero held) (λ bytes. AreReadFirst form.takes limit bytes h.trees)
    so_far = if_with_zero held (λ bytes. AreReadFirst form.takes limit bytes h.trees) (λ bytes x. some_read form.takes limit (with_zero bytes) (passed_by bytes scan) h.trees (h.behind bytes x).to)

    -- it was broken off between two stretches
    pub repair_stops : (new : LineState) → new.told ≡ now.told → now.faults ≤ new.faults → IsPartlyRepaired form.takes limit (told_with_zero held) old new
    repair_stops new e l = record { trees = h.trees; count = length (rewritten h.trees); read = so_far; wrote = wrote_still old now new _ (all_anew old now now h.trees h.wrote) e l }

    -- what was appended is whole
    whole_to : (new : LineState) → Wrote now new [] → (goes_on : List ℕ → ℕ → Type 0) → ((bytes : List ℕ) → held ≡ Some bytes → goes_on (with_zero bytes) (passed_by bytes scan)) → IsRepairedTo form.takes limit (told_with_zero held) old new goes_on
    whole_to new w goes_on f = record {
      trees = h.trees;
      read = if_with_zero held (λ bytes. (first : AreReadFirst form.takes limit bytes h.trees) × goes_on bytes first.count) (λ bytes x. (some_read form.takes limit (with_zero bytes) (passed_by bytes scan) h.trees (h.behind bytes x).to, f bytes x));
      wrote = subst (Wrote old new) (append-nil (rewritten h.trees)) (Wrote-then _ _ _ _ _ h.wrote w);
    }

    -- so it is where the next stretch wasn't read
    pub repair_unread : (later : ClosedScan) (e : ScanError) → (e ≡ NoMemory → form.growing ≡ true) → (e ≡ NoMemory → (bytes : List ℕ) → held ≡ Some bytes → IsClosing limit bytes scan → LostClosed limit bytes scan later)
        → StopsWhole form limit (told_with_zero held) old now (Read e)
    repair_unread later Fault grows lost = whole_to now (Wrote-none now) (λ _ _. Unit {0}) (λ _ _. tt)
    repair_unread later NoMemory grows lost = inr (grows refl, whole_to now (Wrote-none now) (LosesNext limit) (λ bytes x. (passed_by bytes later, (lost refl bytes x (h.behind bytes x).closing).1)))

    -- and where a record was refused
    pub repair_whole : (new : LineState) (most : ℕ) (a : Answer (ℕ × V)) (e : RepairError) → StopsAnew form.writes most a now new e → StopsWhole form limit (told_with_zero held) old new e
    repair_whole new most (Value r) (Refused x) st = whole_to new st.0 (λ _ _. Unit {0}) (λ _ _. tt)
    repair_whole new most (Value r) Line st = tt
    repair_whole new most (Value r) Sync st = tt
    repair_whole new most (Value r) (Read x) st = absurd st
    repair_whole new most Damaged e st = absurd st
    repair_whole new most TooLong e st = absurd st
    repair_whole new most Cut e st = absurd st

    -- all of it was appended
    pub repair_ends : (later : ClosedScan) (new : LineState) → ((bytes : List ℕ) → held ≡ Some bytes → IsClosing limit bytes scan → FoundClosed {V = V} form limit bytes scan later None) → new.told ≡ now.told → now.faults ≤ new.faults
        → IsRepaired form limit (told_with_zero held) old new repaired
    repair_ends later new found e l = record {
      records = h.records;
      trees = h.trees;
      of = h.of;
      read = if_with_zero held (λ bytes. AreReadIn form.takes limit bytes h.trees) (λ bytes x. let k = h.behind bytes x in all_read form.takes limit (with_zero bytes) (passed_by bytes scan) h.trees k.to (found bytes x k.closing).1.1);
      wrote = wrote_still old now new (rewritten h.trees) h.wrote e l;
      records_are = h.records_are;
      next_is = h.next_is;
    }

    -- one stretch more
    module _ (later : ClosedScan) (s : Stretch V) (found : (bytes : List ℕ) → held ≡ Some bytes → IsClosing limit bytes scan → FoundClosed form limit bytes scan later (Some s)) where
      reads_on : (us : List Tree) → AreTreesOf form.writes (record_read s.answer) us → (bytes : List ℕ) → held ≡ Some bytes → ReadsBehind form.takes limit bytes later (h.trees ++ us)
      reads_on us o bytes x =
          let k = h.behind bytes x in
          let f = found bytes x k.closing in
          record { closing = f.0; to = one_more form back limit (with_zero bytes) (passed_by bytes scan) (passed_by bytes later) h.trees us s k.to f.1 o }

      pub repair_goes : (new : LineState) (next : Repaired) → GoesAnew form.writes s.answer now new repaired next → RepairedSoFar form limit held old new next later
      repair_goes new next goes =
          let sizes : length (record_read s.answer) ≡ length goes.trees = sym (AllZip-long (IsTreeOf form.writes) (record_read s.answer) goes.trees goes.of) in
          let all : length (h.records ++ record_read s.answer) ≡ length h.records + length goes.trees = length-append h.records (record_read s.answer) ∙ ap (λ n. length h.records + n) sizes in
          record {
            records = h.records ++ record_read s.answer;
            trees = h.trees ++ goes.trees;
            of = zip_joined (IsTreeOf form.writes) h.records (record_read s.answer) h.trees goes.trees h.of goes.of;
            wrote = more_anew old now new h.trees goes.trees h.wrote goes.wrote;
            records_are = omega (arith, h.records_are, goes.records_are, all);
            next_is = goes.next_is (numbers_of h.records) h.next_is ∙ ap behind_greatest (sym (numbers_joined h.records (record_read s.answer)));
            behind = reads_on goes.trees goes.of;
          }

      -- it was broken off inside a record, or at one that was refused
      pub repair_breaks : (new : LineState) (most : ℕ) (e : RepairError) → StopsAnew form.writes most s.answer now new e → IsPartlyRepaired form.takes limit (told_with_zero held) old new
      repair_breaks new most e st = go s.answer refl e st
        where
          go : (a : Answer (ℕ × V)) → a ≡ s.answer → (e : RepairError) → StopsAnew form.writes most a now new e → IsPartlyRepaired form.takes limit (told_with_zero held) old new
          go (Value r) q Line st =
              let ts = h.trees ++ numbered r.0 st.value ∷ [] in
              record {
                trees = ts;
                count = length (rewritten h.trees) + st.count;
                read = if_with_zero held (λ bytes. AreReadFirst form.takes limit bytes ts)
                    (λ bytes x. some_read form.takes limit (with_zero bytes) (passed_by bytes later) ts (reads_on (numbered r.0 st.value ∷ []) (subst (λ b. AreTreesOf form.writes (record_read b) (numbered r.0 st.value ∷ [])) q ((st.value, st.is, refl), tt)) bytes x).to);
                wrote = front_anew old now new h.trees (numbered r.0 st.value) st.count h.wrote st.wrote;
              }
          go (Value r) q (Refused x) st = record {
            trees = h.trees;
            count = length (rewritten h.trees);
            read = so_far;
            wrote = all_anew old new new h.trees (subst (Wrote old new) (append-nil (rewritten h.trees)) (Wrote-then _ _ _ _ _ h.wrote st.0));
          }
          go (Value r) q (Read x) st = absurd st
          go (Value r) q Sync st = absurd st
          go Damaged q e st = absurd st
          go TooLong q e st = absurd st
          go Cut q e st = absurd st

      -- no record is refused that was read of bytes that are told
      pub repair_fits : (new : LineState) (most : ℕ) (e : RepairError) → limit < most + 1 → StopsAnew form.writes most s.answer now new e → IfRefused e (held ≡ None)
      repair_fits new most (Read x) l st = tt
      repair_fits new most (Refused x) l st =
          none_if held (λ bytes y. never_refused form back limit (with_zero bytes) (passed_by bytes scan) (passed_by bytes later) s now new most x l (found bytes y (h.behind bytes y).closing).1 st)
      repair_fits new most Line l st = tt
      repair_fits new most Sync l st = tt
