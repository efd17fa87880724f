-- What the device does with a command.
use Rattle.std.specs.Prelude.{◌≡◌, ℕ, Bool, true, false, ◌+◌, ◌<◌, ◌≤◌}
use Rattle.pump.specs.declared.messages.Command.{Command}
use Rattle.pump.specs.declared.messages.Command.TheVariants.{Show, On, Off, Limit, Dose, Reset}
use Rattle.pump.specs.declared.messages.PumpReport.{PumpReport}
use Rattle.pump.specs.declared.messages.PumpReport.TheVariants.{State, Done, Refused}
use Rattle.pump.specs.declared.messages.Refusal.{Refusal}
use Rattle.pump.specs.declared.messages.Refusal.TheVariants.{IsOff, OverLimit}
use Rattle.pump.specs.declared.device.Device.{Device}

-- whether it is on, its limit, and what it has dosed since it last counted from zero
abbrev pub DeviceStands : Device → Bool → ℕ → ℕ → Type 0
DeviceStands device is_on limit used = (device.is_on ≡ is_on) × (device.limit ≡ limit) × (device.used ≡ used)

-- A dose: refused by a device that is off, and by one whose limit it would exceed; nothing is changed then.
pub record Doses (old : Device) (amount : ℕ) (report : PumpReport) (new : Device) : Type 0 where
  -- a device that is off refuses
  pub off : old.is_on ≡ false → (report ≡ Refused IsOff) × (new ≡ old)
  -- so does one whose limit would be exceeded
  pub over : old.is_on ≡ true → old.limit < old.used + amount → (report ≡ Refused OverLimit) × (new ≡ old)
  -- otherwise it is dosed
  pub dosed : old.is_on ≡ true → old.used + amount ≤ old.limit → (report ≡ Done) × DeviceStands new true old.limit (old.used + amount)

-- the effect of a command on the device, and its report
abbrev pub Does : Device → Command → PumpReport → Device → Type 0
Does old Show report new = (report ≡ State old.is_on old.limit old.used) × (new ≡ old)
Does old On report new = (report ≡ Done) × DeviceStands new true old.limit old.used
Does old Off report new = (report ≡ Done) × DeviceStands new false old.limit old.used
Does old (Limit limit) report new = (report ≡ Done) × DeviceStands new old.is_on limit old.used
Does old (Dose amount) report new = Doses old amount report new
Does old Reset report new = (report ≡ Done) × DeviceStands new old.is_on old.limit 0
