-- When a device over memory moves how much, and when it meets its fault.
use Rattle.std.specs.Prelude.{◌≡◌, ℕ, ◌-◌, ◌⊎◌, zero, suc, ◌<◌, min, Option, None, Some, unwrap_or}
use Rattle.line_io.specs.declared.memory.Fault.{Fault}
use Rattle.line_io.specs.declared.memory.Fault.TheVariants.{Fail, Nothing}

-- It moves at most `each` bytes a call. If a fault is planned, so many bytes move first, and the next call that asks for bytes
-- is the fault.
pub record Plan : Type 0 where
  -- The maximum of bytes that one call moves.
  pub each : ℕ
  -- How many bytes move before the fault, and its kind; None if none is planned.
  pub fault : Option (ℕ × Fault)

-- what a fault returns
abbrev pub answer_of_fault : Fault → Option ℕ
answer_of_fault Fail = None
answer_of_fault Nothing = Some 0

-- what a call returns that could move `most` bytes, by the fault that is still to come
abbrev pub step_answer : Option (ℕ × Fault) → ℕ → Option ℕ
step_answer None most = Some most
step_answer (Some (zero, kind)) most = answer_of_fault kind
step_answer (Some (suc before, kind)) most = Some (min most (suc before))

-- the fault that is then still to come
abbrev pub step_fault : Option (ℕ × Fault) → ℕ → Option (ℕ × Fault)
step_fault None most = None
step_fault (Some (zero, kind)) most = None
step_fault (Some (suc before, kind)) most = Some (suc before - min most (suc before), kind)

-- what a call returns, by the calls that are left, the bytes that can still move, and those that it asks for
abbrev pub planned_answer : Plan → ℕ → ℕ → ℕ → Option ℕ
planned_answer plan zero left asked = None
planned_answer plan (suc calls) left zero = Some 0
planned_answer plan (suc calls) left (suc asked) =
    step_answer plan.fault (min (min (suc asked) plan.each) left)

-- the plan after that call
abbrev pub plan_after : Plan → ℕ → ℕ → ℕ → Plan
plan_after plan zero left asked = plan
plan_after plan (suc calls) left zero = plan
plan_after plan (suc calls) left (suc asked) =
    record { each = plan.each; fault = step_fault plan.fault (min (min (suc asked) plan.each) left) }

-- a fault that is a failure
abbrev pub failing : Option ℕ → Option (ℕ × Fault)
failing None = None
failing (Some before) = Some (before, Fail)

-- What a call of a growing device returns, and the plan after it, by the bytes that fit without an allocation: both as planned;
-- or None and the plan unchanged, only if the planned bytes don't fit so.
abbrev pub GoesOn : Plan → ℕ → ℕ → ℕ → Option ℕ → Plan → Type 0
GoesOn plan calls asked room answer after =
    ((answer ≡ planned_answer plan calls asked asked) × (after ≡ plan_after plan calls asked asked))
    ⊎ ((answer ≡ None) × (after ≡ plan) × (room < unwrap_or (planned_answer plan calls asked asked) 0))
