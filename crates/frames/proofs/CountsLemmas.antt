-- Counted messages: where their bytes stand, and what is answered to them.
use Rattle.std.proofs.Common.{◌≡◌, ℕ, ◌+◌, ◌-◌, ◌<◌, ◌≤◌, ◌^◌, List, [], ◌∷◌, ◌++◌, length, take, drop, get_or, Some, None, Ok, refl, sym, ap, ◌∙◌, subst, arith, append_assoc}
use Rattle.std.proofs.lemmas.Bool.{lt-ltb}
use Rattle.std.proofs.lemmas.List.{length-append, length-take-le, take-append-drop, take-take, drop-take}
use Rattle.std.proofs.Math.Seq.{take-append_seam}
use Rattle.std.specs.Borrow.{Bor}
use Rattle.cobs.specs.Frames.{Frame}
use Rattle.cobs.specs.FrameLaws.{HasOneMessage}
use Rattle.postcard_tree.specs.Tree.{Tree, byte, sequence, Trees, end, part as part_then, text_of, IsTree}
use Rattle.postcard_tree.specs.Spelling.{Spells, SpellsAll, short, varint}
use Rattle.postcard_tree.specs.Texts.{short_text, is_text}
use Rattle.postcard_tree.specs.Reading.{NoFront, ReadsByte, ReadsAll, ReadsBytes}
use Rattle.postcard_tree.specs.ReadingLaws.{bytes_laws}
use Rattle.postcard_de.specs.Answer.{ReadsFront}
use Rattle.link.specs.Steps.{Event, quiet, ended, passed, Course}
use Rattle.link.specs.Finds.{Replies}
use Rattle.frames.specs.Events.{found, FindsFrame, TakesFrame, TakesCounted, HoldsCounted, answer_in, RepliesAs}
use Rattle.frames.specs.declared.receiving.FrameEvent.TheVariants.{Message, Damaged, TooLong}
use Rattle.frames.proofs.LawsLemmas.{counted_once}

bytes_themselves : (ts : Trees) (v s : List ℕ) → SpellsAll ts s → ReadsAll ReadsByte ts v → s ≡ v
unfolding SpellsAll
bytes_themselves end [] s h r = h
bytes_themselves end (x ∷ v) s h r = absurd r
bytes_themselves (part_then t ts) [] s h r = absurd r
bytes_themselves (part_then (byte b) ts) (x ∷ v) s h r =
    let f : h.0 ≡ b ∷ [] = h.3 in
    let e : b ≡ x = sym r.0 in
    let k = bytes_themselves ts v h.1 h.4 r.1 in
    h.2 ∙ ap (λ y. y ++ h.1) f ∙ ap (λ y. b ∷ y) k ∙ ap (λ y. y ∷ v) e
bytes_themselves (part_then _ ts) (x ∷ v) s h r = absurd r.0

-- behind their count
behind_count : (t : Tree) (front v : List ℕ) → Spells t front → ReadsBytes t v → (count : List ℕ) × (front ≡ count ++ v)
unfolding Spells
behind_count (sequence ts) front v h r = (h.0, h.2 ∙ ap (λ y. h.0 ++ y) (bytes_themselves ts v h.1 h.4 r.1))
behind_count _ front v h r = absurd r

-- so they stand behind what isn't of them
pub stand_behind : (message rest v : List ℕ) → ReadsFront ReadsBytes message rest v
    → (v ≡ take (length v) (drop (length message - length rest - length v) message))
    × ((length message - length rest - length v) + length v ≤ length message)
stand_behind message rest v r =
    let c = behind_count r.spelled.tree r.front v r.spelled.spells r.spelled.read in
    let whole : message ≡ c.0 ++ (v ++ rest) = r.whole ∙ ap (λ y. y ++ rest) c.1 ∙ append_assoc c.0 v rest in
    let n : length message - length rest - length v ≡ length c.0 = omega (arith, ap length whole, length-append c.0 (v ++ rest), length-append v rest) in
    let at : drop (length message - length rest - length v) message ≡ v ++ rest = ap (λ k. drop k message) n ∙ ap (drop (length c.0)) whole ∙ drop_seam c.0 (v ++ rest) in (
      sym (ap (take (length v)) at ∙ take-append_seam v rest),
      omega (arith, ap length whole, length-append c.0 (v ++ rest), length-append v rest),
    )
  where
    drop_seam : (x y : List ℕ) → drop (length x) (x ++ y) ≡ y
    drop_seam [] y = refl
    drop_seam (b ∷ x) y = drop_seam x y

-- a part of a front of a buffer is one of the buffer
part_of_front : (buffer : List ℕ) (n start size : ℕ) → start + size ≤ n → take size (drop start (take n buffer)) ≡ take size (drop start buffer)
part_of_front buffer n start size l =
    let whole : n ≡ start + (n - start) = omega (arith, l) in
    ap (λ k. take size (drop start (take k buffer))) whole ∙ ap (take size) (drop-take start (n - start) buffer) ∙ take-take size (n - start) (drop start buffer) (omega (arith, l))

-- a message that was found is the frame's that ended
ended_by : (limit : ℕ) (k : Course) (buffer : List ℕ) (used stretch start size : ℕ) → TakesFrame limit k buffer (found used stretch (Some (Message start size)))
    → (p : List ℕ) × (k.event ≡ ended p) × Frame p (take size buffer)
ended_by limit k buffer used stretch start size t = go k.event refl t.finds
  where
    go : (e : Event) → k.event ≡ e → FindsFrame buffer e (Some (Message start size)) → (p : List ℕ) × (k.event ≡ ended p) × Frame p (take size buffer)
    go quiet q f = cc
    go passed q f = cc
    go (ended p) q f = (p, q, f)

module _ (limit : ℕ) (k : Course) (buffer : List ℕ) (used stretch start size : ℕ) (t : TakesFrame limit k buffer (found used stretch (Some (Message start size)))) where
  -- a counted one
  pub counted_replies : (from n : ℕ) (rest : List ℕ) → from + n ≤ size → ReadsFront ReadsBytes (take size buffer) rest (take n (drop from (take size buffer)))
      → RepliesAs HoldsCounted ReadsBytes limit k buffer (found used stretch (Some (Message from n)))
  counted_replies from n rest l r =
      let e = ended_by limit k buffer used stretch start size t in
      let same = part_of_front buffer size from n l in
      record {
        used = t.used;
        reply = subst (λ x. Replies HoldsCounted ReadsBytes x (Ok (answer_in buffer (Some (Message from n))))) (sym e.1) (
          r.spelled.tree,
          record { message = take size buffer; front = r.front; rest = rest; frame = e.2; begins = r.whole; spelled = r.spelled.spells; taken = bytes_laws.taken r.spelled.tree _ r.spelled.read },
          subst (ReadsBytes r.spelled.tree) same r.spelled.read,
        );
        span = t.span;
      }

  -- none
  pub uncounted_replies : HasOneMessage → NoFront TakesCounted (take size buffer) → RepliesAs HoldsCounted ReadsBytes limit k buffer (found used stretch (Some Damaged))
  uncounted_replies one none =
      let e = ended_by limit k buffer used stretch start size t in
      record {
        used = t.used;
        reply = subst (λ x. Replies HoldsCounted ReadsBytes x (Ok (answer_in buffer (Some Damaged)))) (sym e.1)
            (λ u h. none u h.front h.rest h.taken h.spelled (one e.0 _ e.2 ∙ sym (one e.0 h.message h.frame) ∙ h.begins));
        span = t.span;
      }

-- what isn't a message is the same
none_reply : (event : Event) (buffer : List ℕ) → FindsFrame buffer event None → Replies HoldsCounted ReadsBytes event (Ok None)
none_reply quiet buffer h = refl
none_reply passed buffer h = cc
none_reply (ended p) buffer h = absurd h

damaged_reply : (event : Event) (buffer : List ℕ) → FindsFrame buffer event (Some Damaged) → Replies HoldsCounted ReadsBytes event (Ok (answer_in buffer (Some Damaged)))
damaged_reply quiet buffer h = cc
damaged_reply passed buffer h = cc
damaged_reply (ended p) buffer h = λ t x. h x.message x.frame

module _ (limit : ℕ) (k : Course) (buffer : List ℕ) (used stretch : ℕ) where
  pub none_replies : TakesFrame limit k buffer (found used stretch None) → RepliesAs HoldsCounted ReadsBytes limit k buffer (found used stretch None)
  none_replies t = record { used = t.used; reply = none_reply k.event buffer t.finds; span = t.span }

  pub damaged_replies : TakesFrame limit k buffer (found used stretch (Some Damaged)) → RepliesAs HoldsCounted ReadsBytes limit k buffer (found used stretch (Some Damaged))
  damaged_replies t = record { used = t.used; reply = damaged_reply k.event buffer t.finds; span = t.span }

-- a value that is lent, as the bytes that it is
pub as_read : (s rest : List ℕ) (v : Bor (List ℕ)) → ReadsFront (λ t (w : Bor (List ℕ)). ReadsBytes t w.now) s rest v → ReadsFront ReadsBytes s rest v.now
as_read s rest v r = record { front = r.front; whole = r.whole; spelled = record { tree = r.spelled.tree; spells = r.spelled.spells; read = r.spelled.read } }

-- its length, and that of the rest
pub lengths_fit : (message rest v : List ℕ) → ReadsFront ReadsBytes message rest v → length v ≤ length message - length rest
lengths_fit message rest v r = let h = stand_behind message rest v r in
    let c = behind_count r.spelled.tree r.front v r.spelled.spells r.spelled.read in
    omega (arith, ap length r.whole, length-append r.front rest, ap length c.1, length-append c.0 v)

count_short : (n : ℕ) → n < 128 → varint n ≡ n ∷ []
unfolding varint
count_short n l = rw (lt-ltb n 128 l) refl

-- a count below 128 is one byte, and as many bytes stand behind it
pub read_short : ((t : Tree) → IsTree t → Spells t (short t)) → (message : List ℕ) (n : ℕ) → n ≡ get_or message 0 0 → n < 128 → n < length message
    → (rest : List ℕ) × ReadsFront ReadsBytes message rest (take n (drop 1 message))
read_short spells [] n e s l = absurd (omega (arith, l))
read_short spells (c ∷ m) n e s l =
    let v = take n m in
    let size : length v ≡ n = length-take-le n m (omega (arith, l)) in
    let small : length v < 2 ^ 64 = omega (arith, size, s) in
    let spelled : short (text_of v) ≡ c ∷ v = short_text v ∙ ap (λ k. varint k ++ v) size ∙ ap (λ x. x ++ v) (count_short n s) ∙ ap (λ k. k ∷ v) e in (
      drop n m,
      record {
        front = c ∷ v;
        whole = ap (λ x. c ∷ x) (sym (take-append-drop n m));
        spelled = record {
          tree = text_of v;
          spells = subst (Spells (text_of v)) spelled (spells (text_of v) (is_text v small));
          read = ((counted_once v small).1 v).1 refl;
        };
      },
    )
