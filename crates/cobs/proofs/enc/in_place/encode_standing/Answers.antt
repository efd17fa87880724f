use Rattle.std.proofs.Common.{◌≡◌, ℕ, ◌+◌, ◌-◌, ◌≤◌, ◌++◌, List, [], length, take, drop, set, refl, sym, ap, ◌∙◌, arith, length-drop}
use Rattle.std.proofs.lemmas.List.{take_at, length-take-le}
use Rattle.cobs.specs.Codes.{Coding}
use Rattle.cobs.specs.Held.{EncodesStanding}
use Rattle.cobs.specs.Sentinel.{masked}
use Rattle.cobs.proofs.CodingLemmas.{coded_end}
use Rattle.cobs.proofs.MaskingLemmas.{masked_length, masked_zero}
use Rattle.cobs.proofs.StandingLemmas.{standing_new, standing_on, standing_all, standing_end}
use Rattle.std.proofs.lemmas.Grind.{common_steps}
use Rattle.cobs.proofs.enc.in_place.encode_standing.Goals as goal
use Rattle.cobs.proofs.enc.in_place.encode_standing.Goals.{Joined-done-n, then-done-n, else-done-n}

-- of a buffer that begins with the frame, once it is masked
encoded : (sentinel n code_at : ℕ) (before coded buffer : List ℕ) → Coding coded code_at (n + 1) (take n (drop 1 before)) []
    → take (n + 1) buffer ≡ masked sentinel (take (n + 1) (set coded code_at (n + 1 - code_at))) → EncodesStanding sentinel before n buffer (n + 1)
encoded sentinel n code_at before coded buffer c e =
    let whole = standing_end coded code_at (n + 1) (take n (drop 1 before)) c in
    record { plus_one = refl; whole = whole.0; frame = e ∙ ap (masked sentinel) whole.1 }

-- the front of a buffer of which that is masked
front_of : (sentinel end : ℕ) (bytes front : List ℕ) → end ≤ length bytes → front ≡ masked sentinel (take end bytes) → take end (front ++ drop end bytes) ≡ masked sentinel (take end bytes)
front_of sentinel end bytes front room e =
    take_at front (drop end bytes) end (ap length e ∙ masked_length sentinel (take end bytes) ∙ length-take-le end bytes room) ∙ e

pub loop-done-init : goal.loop-done-init
loop-done-init c = record {
  within = omega arith;
  coding = standing_new c.args.buffer.now c.args.n c.requires.few c.requires.room;
}

pub loop-done-preserved : goal.loop-done-preserved
loop-done-preserved c =
    let whole = drop 1 c.args.buffer.now in
    let m = take c.args.n whole in
    let long : length m ≡ c.args.n = length-take-le c.args.n whole (omega (arith, length-drop 1 c.args.buffer.now, c.requires.room)) in
    record {
      within = omega (arith, c.loop-done-test.true);
      coding = standing_on c.loop-done.buffer _ m c.loop-done.code_at c.loop-done.done 64 _ (omega (arith, long, c.loop-done-test.true)) c.loop-done.invariant.coding c.put_codes_standing-code_at.ensures;
    }

-- all zeros have their codes
coded_here : (c : Joined-done-n) → Coding c.if-done-n.buffer c.if-done-n.code_at (c.args.n + 1) (take c.args.n (drop 1 c.args.buffer.now)) []
coded_here c =
    let whole = drop 1 c.args.buffer.now in
    let m = take c.args.n whole in
    let done = c.loop-done.done in
    let long : length m ≡ c.args.n = length-take-le c.args.n whole (omega (arith, length-drop 1 c.args.buffer.now, c.requires.room)) in
    elim c.if-done-n.branch [
      | then-done-n w ↦
          let count = c.args.n - done in
          let end : done + count ≡ c.args.n = omega (arith, c.loop-done.invariant.within) in
          let t = w.put_codes_standing-code_at-then-done-n in
          rw (w.buffer-is, w.code_at-is) (standing_all t.new.dest t.result (done + count) c.args.n m end (omega (arith, long))
          (standing_on c.loop-done.buffer t.new.dest m c.loop-done.code_at done count t.result (omega (arith, long, end)) c.loop-done.invariant.coding t.ensures))
      | else-done-n w ↦
          rw (w.buffer-is, w.code_at-is)
          (standing_all c.loop-done.buffer c.loop-done.code_at done c.args.n m (omega (arith, w.if-done-n.false, c.loop-done.invariant.within)) (omega (arith, long)) c.loop-done.invariant.coding)
    ]

pub returns-then-sentinel-ne0 : goal.returns-then-sentinel-ne0
returns-then-sentinel-ne0 c =
    let coded = c.if-done-n.buffer in
    let code_at = c.if-done-n.code_at in
    let n = c.args.n in
    let bytes = set coded code_at (n + 1 - code_at) in
    let here = coded_here (goal.at.returns-then-sentinel-ne0 c).Joined-done-n in
    let room : n + 1 ≤ length bytes = (coded_end coded code_at (n + 1) _ here).0.laid.within in
    encoded c.args.sentinel n code_at c.args.buffer.now coded (c.mask.new.bytes ++ drop (n + 1) bytes) here (front_of c.args.sentinel (n + 1) bytes c.mask.new.bytes room c.mask.ensures)

pub returns-else-sentinel-ne0 : goal.returns-else-sentinel-ne0
returns-else-sentinel-ne0 c =
    let coded = c.if-done-n.buffer in
    let code_at = c.if-done-n.code_at in
    let n = c.args.n in
    let bytes = set coded code_at (n + 1 - code_at) in
    encoded c.args.sentinel n code_at c.args.buffer.now coded bytes (coded_here (goal.at.returns-else-sentinel-ne0 c).Joined-done-n) (rw c.if-sentinel-ne0.false (sym (masked_zero (take (n + 1) bytes))))

pub bounds-buffer-code_at : goal.bounds-buffer-code_at
bounds-buffer-code_at c = grind (arith, common_steps)

pub overflow_sub-buffer : goal.overflow_sub-buffer
overflow_sub-buffer c = grind (arith, common_steps)
