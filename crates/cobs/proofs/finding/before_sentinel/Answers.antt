use Rattle.std.proofs.Common.{◌≡◌, ◌≢◌, ◌<◌, ◌≤◌, ℕ, List, length, take, get_or, sym, ap, ◌∙◌}
use Rattle.std.proofs.lemmas.List.{length-take-le}
use Rattle.cobs.specs.InPlace.{stretch}
use Rattle.cobs.specs.Sentinel.{masked}
use Rattle.cobs.proofs.MaskingLemmas.{masked_length}
use Rattle.cobs.proofs.SourcesLemmas.{stretch_front}
use Rattle.cobs.proofs.finding.before_sentinel.Goals as goal

counted : (sentinel : ℕ) (bytes : List ℕ) (n : ℕ) → n ≤ length bytes → ((k : ℕ) → k < n → get_or bytes k 0 ≢ sentinel) → (n < length bytes → get_or bytes n 0 ≡ sentinel) → n ≡ length (stretch (masked sentinel bytes))
counted s bytes n w none end =
    sym (length-take-le n bytes w) ∙ sym (masked_length s (take n bytes)) ∙ ap length (stretch_front s bytes n w none end)

pub returns-then-bytes-le64-clause-before : goal.returns-then-bytes-le64-clause-before
returns-then-bytes-le64-clause-before c = counted c.args.sentinel c.args.bytes.now c.before_few.result c.before_few.ensures.within c.before_few.ensures.none c.before_few.ensures.end

pub returns-then-bytes-le64-clause-none : goal.returns-then-bytes-le64-clause-none
returns-then-bytes-le64-clause-none c = c.before_few.ensures.none

pub returns-then-bytes-le64-clause-end : goal.returns-then-bytes-le64-clause-end
returns-then-bytes-le64-clause-end c = c.before_few.ensures.end

pub returns-else-bytes-le64-clause-before : goal.returns-else-bytes-le64-clause-before
returns-else-bytes-le64-clause-before c = counted c.args.sentinel c.args.bytes.now c.before_far.result c.before_far.ensures.within c.before_far.ensures.none c.before_far.ensures.end

pub returns-else-bytes-le64-clause-none : goal.returns-else-bytes-le64-clause-none
returns-else-bytes-le64-clause-none c = c.before_far.ensures.none

pub returns-else-bytes-le64-clause-end : goal.returns-else-bytes-le64-clause-end
returns-else-bytes-le64-clause-end c = c.before_far.ensures.end
