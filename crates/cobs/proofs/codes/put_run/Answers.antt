use Rattle.std.proofs.Common.{◌≡◌, ℕ, List, take, ap, ◌∙◌, arith}
use Rattle.cobs.specs.Codes.{Stepped}
use Rattle.cobs.specs.Sentinel.{masked}
use Rattle.cobs.proofs.CodingLemmas.{coded_end}
use Rattle.cobs.proofs.MaskingLemmas.{masked_put}
use Rattle.cobs.proofs.SteppingLemmas.{open_new, stepped_clear, stepped_again}
use Rattle.cobs.proofs.WrittenLemmas.{written_front}
use Rattle.cobs.proofs.codes.put_run.Goals as goal
use Rattle.cobs.proofs.codes.put_run.Goals.{Joined-n-eq254, then-n-eq254+then-piece-ne0+then-copy_clear, else-n-eq254, else-n-eq254-via-then-n-eq254+then-piece-ne0+else-copy_clear, else-n-eq254-via-then-n-eq254+else-piece-ne0, else-n-eq254-via-else-n-eq254}

-- a buffer and a position that were joined
joined : (before : List ℕ) (code_at len last at : ℕ) (bytes put dest : List ℕ) → dest ≡ put → at ≡ last → Stepped before code_at len bytes put last → Stepped before code_at len bytes dest at
joined before code_at len last at bytes put dest e f t = rw (e, f) t

stepped_here : (g : _) (c : Joined-n-eq254 g) → Stepped (masked c.args.sentinel c.args.dest.now) c.args.at.code_at c.args.at.len c.args.piece.now (masked c.args.sentinel c.if-n-eq254.dest) c.if-n-eq254.code_at
stepped_here g c =
    let s = c.args.sentinel in
    let dest = c.args.dest.now in
    let bytes = c.args.piece.now in
    let from = c.args.at.len in
    elim c.if-n-eq254.branch [
      | then-n-eq254+then-piece-ne0+then-copy_clear w ↦
          joined _ c.args.at.code_at from _ _ bytes _ _ (ap (masked s) w.dest-is) w.code_at-is
          (stepped_clear s dest w.copy_clear.new.buffer bytes c.args.at.code_at from c.requires.some c.requires.laid.begins c.requires.short c.requires.room
          w.copy_clear.ensures.copied (λ k l. w.copy_clear.ensures.clear w.if-copy_clear.true k (omega (arith, l, w.if-n-eq254.true))))
      | else-n-eq254 w ↦
          let same : take from w.else-n-eq254.dest ≡ take from dest = elim w.else-n-eq254.branch [
            | else-n-eq254-via-then-n-eq254+then-piece-ne0+else-copy_clear v ↦
                ap (take from) (v.dest-is ∙ v.copy_clear.ensures.copied) ∙ written_front from (masked s bytes) dest (omega (arith, c.requires.room))
            | else-n-eq254-via-then-n-eq254+else-piece-ne0 v ↦ ap (take from) v.dest-is
            | else-n-eq254-via-else-n-eq254 v ↦ ap (take from) v.dest-is
          ] in
          joined _ c.args.at.code_at from _ _ bytes _ _ (ap (masked s) w.dest-is) w.code_at-is
          (stepped_again s dest w.else-n-eq254.dest _ bytes c.args.at.code_at from w.put_bytes-code_at.result same w.put_bytes-code_at.ensures)
    ]

pub returns : goal.returns
returns g c = record {
  holds = λ m h.
      let s = c.args.sentinel in
      let t = stepped_here g (goal.at.returns g c).Joined-n-eq254 in
      rw (masked_put s c.if-n-eq254.dest c.if-n-eq254.code_at _)
      (coded_end _ _ _ _ (t.coding m (open_new (masked s c.args.dest.now) c.args.at.code_at c.args.at.len m c.requires.laid h)));
}
