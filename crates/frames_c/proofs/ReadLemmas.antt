-- What was decoded, by its numbers.
use Rattle.std.proofs.Common.{◌≢◌, ℕ, Result, Ok, Err, OnErr}
use Rattle.cobs.specs.declared.dec.report.DecodeReport.{DecodeReport}
use Rattle.cobs.specs.declared.dec.report.DecodeError.{DecodeError}
use Rattle.frames_c.specs.Answers.{IsReport}
use Rattle.frames_c.specs.Status.{done}

-- what is so of a refusal is so where it wasn't done
pub where_refused : {X : Type 0} (o : Result DecodeReport DecodeError) (status used size : ℕ) → IsReport o status used size → OnErr o X → status ≢ done → X
where_refused (Ok r) status used size h k n = absurd (n h.0)
where_refused (Err e) status used size h k n = k
