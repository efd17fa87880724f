-- A frame and its zero, fed to an accumulator that holds nothing.
use Rattle.std.proofs.Common.{◌≡◌, ℕ, ◌+◌, ◌<◌, ◌≤◌, Bool, true, List, [], ◌∷◌, ◌++◌, length, drop, refl, sym, ap, subst, ◌∙◌, arith, length-append}
use Rattle.std.proofs.lemmas.List.{append-nil}
use Rattle.std.proofs.Math.Seq.{drop-append-add}
use Rattle.cobs.specs.Frames.{NoZero, Frame, shortest_frame}
use Rattle.cobs.specs.FrameLaws.{HasOneMessage, HasOneShortest, HoldsNoZero}
use Rattle.cobs.specs.InPlace.{stretch}
use Rattle.cobs.specs.Sentinel.{masked, frame_for}
use Rattle.postcard_tree.specs.Tree.{Tree, IsTree}
use Rattle.postcard_tree.specs.Spelling.{Spells, short}
use Rattle.postcard_tree.specs.declared.error.Error.{Error}
use Rattle.postcard_tree.specs.ReadingLaws.{ReadingLaws}
use Rattle.postcard.specs.Feeds.{Feeds, FedFor, IsAnswered, IsOverFull}
use Rattle.postcard.specs.Frames.{Holds}
use Rattle.postcard.specs.OneMore.{AnswersWithOneMore, LeavesOutWithoutOneMore, IsHeardAs, HearsWhatIsSent}
use Rattle.postcard.specs.declared.accumulator.FeedResult.{FeedResult}
use Rattle.postcard.specs.declared.accumulator.FeedResult.TheVariants.{Consumed, OverFull, DeserError, Success}
use Rattle.postcard.proofs.MasksLemmas.{masked_append, masked_length, masked_twice, zero_xor}
use Rattle.postcard.proofs.StretchesLemmas.{stretch_behind, stretch_byte}

clear_whole : (bytes : List ℕ) → NoZero bytes → stretch bytes ≡ bytes
clear_whole [] h = refl
clear_whole (b ∷ bytes) h =
    stretch_byte b bytes (λ e. let l = h.0 in omega (arith, l, e)) ∙ ap (λ x. b ∷ x) (clear_whole bytes h.1)

-- the line without the sentinel
on_the_line : (s : ℕ) (frame rest : List ℕ) → masked s (masked s frame ++ s ∷ rest) ≡ frame ++ 0 ∷ masked s rest
on_the_line s frame rest =
    masked_append s (masked s frame) (s ∷ rest)
    ∙ ap (λ x. x ++ masked s (s ∷ rest)) (masked_twice s frame)
    ∙ ap (λ b. frame ++ b ∷ masked s rest) (zero_xor s s refl)

-- input begins with a frame and a zero
module _ (frame tail input : List ℕ) (is : input ≡ frame ++ 0 ∷ tail) (clear : NoZero frame) where
  first : stretch input ≡ frame
  first = ap stretch is ∙ stretch_behind frame (0 ∷ tail) (clear_whole frame clear) ∙ append-nil frame

  behind : drop (length (stretch input) + 1) input ≡ tail
  behind = ap (λ x. drop (length x + 1) input) first ∙ ap (drop (length frame + 1)) is ∙ drop-append-add frame (0 ∷ tail) 1

  longer : length (stretch input) < length input
  longer = let long = ap length is in let whole = length-append frame (0 ∷ tail) in let short = ap length first in omega (arith, long, whole, short)

  pub with_one_more : {C : Type 0} {O : List ℕ → Type 0} {A : List ℕ → List ℕ → Type 0} {kept : List ℕ} (room : ℕ)
      → Feeds room [] input C O A kept → length frame < room → A frame tail × (kept ≡ [])
  with_one_more {A = A} room h l =
      let short = ap length first in
      let e = h.ended longer (omega (arith, short, l)) in
      (subst (λ x. A x tail) first (subst (λ x. A (stretch input) x) behind e.0), e.1)

  pub without_it : {C : Type 0} {O : List ℕ → Type 0} {A : List ℕ → List ℕ → Type 0} {kept : List ℕ} (room : ℕ)
      → Feeds room [] input C O A kept → room ≤ length frame → O tail × (kept ≡ [])
  without_it {O = O} room h l =
      let short = ap length first in
      let e = h.full_ended longer (omega (arith, short, l)) in
      (subst O behind e.0, e.1)

pub answers : {A : Type 0} (takes : Tree → Type 0) (reads : Tree → A → Type 0) (grows : Bool)
    → HoldsNoZero → AnswersWithOneMore takes reads grows
answers takes reads grows nonzero room s frame message rest result kept f l h =
    let e = with_one_more frame (masked s rest) (masked s (masked s frame ++ s ∷ rest)) (on_the_line s frame rest) (nonzero frame message f) room h l in
    (subst (IsAnswered takes reads grows result frame) (masked_twice s rest) e.0, e.1)

pub leaves_out : {A : Type 0} (takes : Tree → Type 0) (reads : Tree → A → Type 0) (grows : Bool)
    → HoldsNoZero → LeavesOutWithoutOneMore takes reads grows
leaves_out takes reads grows nonzero room s frame message rest result kept f l h =
    let e = without_it frame (masked s rest) (masked s (masked s frame ++ s ∷ rest)) (on_the_line s frame rest) (nonzero frame message f) room h l in
    (subst (IsOverFull result) (masked_twice s rest) e.0, e.1)

module _ {A : Type 0} {takes : Tree → Type 0} {reads : Tree → A → Type 0} {refuses : List ℕ → Error → Type 0} {alike : A → A → Type 0}
    (laws : ReadingLaws takes reads refuses alike) (spelled : (t : Tree) → IsTree t → Spells t (short t)) (one : HasOneMessage) where
  holds : (t : Tree) (f : List ℕ) → takes t → Frame f (short t) → Holds takes f t
  holds t f k frame = record {
    message = short t;
    front = short t;
    rest = [];
    frame = frame;
    begins = sym (append-nil (short t));
    spelled = spelled t (laws.trees t k);
    taken = k;
  }

  -- a frame holds one tree
  same : (t u : Tree) (f : List ℕ) → takes t → Frame f (short t) → Holds takes f u → t ≡ u
  same t u f k frame h =
      let message : short t ≡ h.message = one f (short t) frame ∙ sym (one f h.message h.frame) in
      (laws.once t u (short t) h.front [] h.rest k h.taken (spelled t (laws.trees t k)) h.spelled
      (append-nil (short t) ∙ message ∙ h.begins)).1

  heard : (grows : Bool) (t : Tree) (f rest : List ℕ) (result : FeedResult A) → takes t → Frame f (short t)
      → IsAnswered takes reads grows result f rest → IsHeardAs reads grows t result rest
  heard grows t f rest Consumed k frame h = h
  heard grows t f rest (OverFull left) k frame h = h
  heard grows t f rest (DeserError left) k frame h = (h.0, h.1 t (holds t f k frame))
  heard grows t f rest (Success v left) k frame h =
      let held = h.1 in
      (h.0, subst (λ x. reads x v) (sym (same t held.0 f k frame held.1)) held.2)

  pub hears : (grows : Bool) → HoldsNoZero → HasOneShortest → HearsWhatIsSent takes reads grows
  hears grows nonzero shortest limit s t rest result kept k l h =
      let f = shortest_frame (short t) in
      let frame : Frame f (short t) = (shortest (short t)).0.is_frame in
      let long = masked_length s f in
      let e = answers takes reads grows nonzero (limit + 1) s f (short t) rest result kept frame (omega (arith, long, l)) h in
      (heard grows t f rest result k frame e.0, e.1)
