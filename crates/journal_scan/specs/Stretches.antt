-- The stretch that a result of a receiver ends.
use Rattle.std.specs.Prelude.{ℕ, Bool, true, false, Option, Some, None}
use Rattle.link.specs.declared.receiver.Answer.{Answer}
use Rattle.link.specs.declared.receiver.Answer.TheVariants.{Value, Damaged, TooLong, Cut}
use Rattle.journal_scan.specs.declared.scanning.Stretch.{Stretch}

-- whether it says that a stretch is too long, of which no zero was there yet
abbrev pub is_past : {A : Type 0} → Option (Answer A) → Bool
is_past None = false
is_past (Some (Value r)) = false
is_past (Some Damaged) = false
is_past (Some TooLong) = true
is_past (Some Cut) = false

-- the stretch from..to that it ends, if it does
abbrev pub ended_stretch : {V : Type 0} → ℕ → ℕ → Option (Answer (ℕ × V)) → Option (Stretch V)
ended_stretch from to None = None
ended_stretch from to (Some (Value r)) = Some (record { from = from; to = to; answer = Value r })
ended_stretch from to (Some Damaged) = Some (record { from = from; to = to; answer = Damaged })
ended_stretch from to (Some TooLong) = None
ended_stretch from to (Some Cut) = Some (record { from = from; to = to; answer = Cut })
