-- What writing some bytes, or reading a text, does to a device, in as many calls as needed.
use Rattle.std.specs.Prelude.{◌≡◌, ℕ, ◌+◌, ◌<◌, ◌≤◌, ◌⊎◌, List, [], ◌++◌, length, IfSome, Result, OnOk, OnErr}
use Rattle.line_io.specs.Device.{LineState, Wrote, Gave}
use Rattle.line_io.specs.declared.transfers.End.{End}
use Rattle.line_io.specs.declared.transfers.WriteFault.{WriteFault}
use Rattle.line_io.specs.declared.transfers.End.TheVariants.{Ended, ReadFault, NoMemory}

-- a call was a fault, or none was left
abbrev pub Failed : LineState → LineState → Type 0
Failed old new = (old.faults < new.faults) ⊎ (new.calls_left ≡ 0)

-- The bytes were written, and no call was a fault.
pub record WentOut (old new : LineState) (bytes : List ℕ) : Type 0 where
  -- All of the bytes were written.
  pub wrote : Wrote old new bytes
  -- No call was a fault.
  pub quiet : new.faults ≡ old.faults

-- A proper prefix of the bytes was written, and then the device failed.
pub record BrokeOff (old new : LineState) (bytes : List ℕ) : Type 0 where
  -- The bytes that were written.
  pub front : List ℕ
  -- The bytes that were not.
  pub rest : List ℕ
  -- Together they are what was to be written.
  pub bytes_are : bytes ≡ front ++ rest
  -- At least one byte was not written.
  pub some_left : 0 < length rest
  -- Exactly the first ones were written.
  pub wrote : Wrote old new front
  -- Then a call was a fault, or none was left.
  pub failed : Failed old new

-- whether a device took all of the bytes, or a proper prefix
pub data Fate : Type 0 where
  whole : Fate
  broken : Fate

-- The effect of writing bytes to a device.
abbrev pub Writing : LineState → LineState → Fate → List ℕ → Type 0
Writing old new whole bytes = WentOut old new bytes
Writing old new broken bytes = BrokeOff old new bytes

-- The effect of writing bytes to a device, by the result: at most one call for each byte, and none after one that failed or
-- took nothing.
pub record WentOrBroke (old new : LineState) (bytes : List ℕ)
    (result : Result (Unit {0}) WriteFault) : Type 0 where
  -- At Ok everything was written, without a fault.
  pub ok : OnOk result (Writing old new whole bytes)
  -- At Err a proper prefix was written, then the device failed.
  pub err : OnErr result (Writing old new broken bytes)
  -- Calls are only used up.
  pub calls : new.calls_left ≤ old.calls_left
  -- At most one call for each byte.
  pub few : old.calls_left ≤ new.calls_left + length bytes
  -- At most one fault: no write follows it.
  pub once : new.faults ≤ old.faults + 1

-- what a device gave, by how the reading ended
abbrev pub HasRead : LineState → LineState → End → List ℕ → Type 0
HasRead old new Ended bytes =
    Gave old new bytes × (new.faults ≡ old.faults) × IfSome new.told (λ rest. rest ≡ [])
HasRead old new ReadFault bytes = Gave old new bytes × Failed old new
HasRead old new NoMemory bytes = Gave old new bytes × (new.faults ≡ old.faults)

-- Bytes of one read that a vector of so much capacity, which holds so many, has no space for.
abbrev pub HasNoSpace : ℕ → ℕ → List ℕ → Type 0
HasNoSpace capacity held lost = (0 < length lost) × (length lost ≤ 16384) × (capacity < held + length lost)
