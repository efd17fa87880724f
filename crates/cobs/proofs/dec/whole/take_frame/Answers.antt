use Rattle.std.proofs.Common.{◌≡◌, ℕ, true, List, [], length, get_or, Option, Result, Ok, Err, sym, ◌∙◌, subst, arith}
use Rattle.std.proofs.lemmas.List.{take_all}
use Rattle.std.specs.Prelude.{bit_xor}
use Rattle.std.specs.Result.{is_ok}
use Rattle.cobs.specs.Frames.{NoZero}
use Rattle.cobs.specs.Pieces.{first_answer, frame_left}
use Rattle.cobs.specs.Sentinel.{masked}
use Rattle.cobs.specs.Streaming.{HasStreamed}
use Rattle.cobs.specs.declared.dec.report.DecodeError.{DecodeError}
use Rattle.cobs.specs.declared.dec.report.DecodeReport.{DecodeReport}
use Rattle.cobs.proofs.FeedsLemmas.{frame_byte}
use Rattle.cobs.proofs.MaskingLemmas.{masked_length}
use Rattle.cobs.proofs.PushingLemmas.{clear_over, clear_taken}
use Rattle.cobs.proofs.WholesLemmas.{entering_on, entering_positive}
use Rattle.cobs.proofs.dec.whole.take_frame.Goals as goal

-- what was pushed without an error was taken whole
all_taken : (p dest : List ℕ) → NoZero p → (r : Result (Option DecodeReport) DecodeError) → is_ok r ≡ true → first_answer (length dest) [] p 0 ≡ r → frame_left (length dest) [] p ≡ p
all_taken p dest clear (Ok o) t e = clear_taken p dest clear o e
all_taken p dest clear (Err x) t e = absurd (cc)

pub returns-then-is_ok-clause-stands : goal.returns-then-is_ok-clause-stands
returns-then-is_ok-clause-stands c =
    subst (HasStreamed c.push.new.self)
    (all_taken (masked c.args.sentinel c.args.frame.now) c.args.dest.now c.requires c.push.result (sym c.is_ok.ensures.value ∙ c.if-is_ok.true) (sym (c.push.ensures.answer [] c.new-progress.ensures)))
    (c.push.ensures.has [] c.new-progress.ensures)

pub returns-then-is_ok-clause-dest : goal.returns-then-is_ok-clause-dest
returns-then-is_ok-clause-dest c = c.push.ensures.buffer [] c.new-progress.ensures ∙ clear_over (masked c.args.sentinel c.args.frame.now) c.args.dest.now c.requires

pub loop-byte-preserved : goal.loop-byte-preserved
loop-byte-preserved c =
    let s = c.args.sentinel in
    let frame = c.args.frame.now in
    let i = c.loop-byte.byte-index in
    let some = entering_positive s frame i c.requires c.loop-byte-test.true in
    entering_on s frame i c.loop-byte.progress c.feed.new.self c.loop-byte.invariant c.loop-byte-test.true
    (λ p h. rw (frame_byte p (bit_xor s (get_or frame i 0)) some) at (c.feed.ensures.has p h))

pub returns-clause-dest : goal.returns-clause-dest
returns-clause-dest c = c.push.ensures.buffer [] c.new-progress.ensures ∙ clear_over (masked c.args.sentinel c.args.frame.now) c.args.dest.now c.requires

pub returns-clause-stands : goal.returns-clause-stands
returns-clause-stands c =
    let p = masked c.args.sentinel c.args.frame.now in
    subst (HasStreamed c.loop-byte.progress) (take_all c.loop-byte.byte-index p (omega (arith, c.loop-byte-test.false, masked_length c.args.sentinel c.args.frame.now))) c.loop-byte.invariant
