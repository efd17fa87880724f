-- How a run ends, from how its work and its last line ended.
use Rattle.std.proofs.Common.{◌≡◌, ℕ, ◌<◌, ◌⊎◌, inl, inr, Bool, true, false, List, arith, if◌then◌else◌}
use Rattle.std.specs.Prelude.{Result, Ok, Err, Option, Some, None}
use Rattle.framed_lib.specs.declared.stop.Stop.{Stop}
use Rattle.framed_lib.specs.declared.stop.Stop.TheVariants as stop
use Rattle.line_io.specs.Device.{LineState}
use Rattle.line_io.specs.Transfers.{Fate, whole, broken}
use Rattle.line_io.specs.declared.transfers.End.{End}
use Rattle.framed_lib.specs.Output.{WritingByFew, few-then, few-broke}
use Rattle.framed_lib.specs.Program.{Program, Due, CarriesOut, DeviceFails, SayingFails, RunEnds, Behind}
use Rattle.framed_lib.specs.Working.{Worked, Reports}
use Rattle.framed_lib.proofs.WorkLemmas.{carried}

low : (b : Bool) (status : ℕ) → status ≡ (if b then 0 else 1) → status < 3
low true status e = omega arith
low false status e = omega arith

program-low : (way : Option Bool) (hex : Bool) (sentinel : ℕ) (text out said : List ℕ) (status : ℕ)
    → Program way hex sentinel text out said status → status < 3
program-low None hex sentinel text out said status p = low _ status p.status_is
program-low (Some strict) hex sentinel text out said status (inl p) = low _ status p.status_is
program-low (Some strict) hex sentinel text out said status (inr p) =
    let s = p.status_is in omega arith

module _ (way : Option Bool) (hex : Bool) (sentinel : ℕ) (r : Option End → List ℕ → Type 0)
    (w : Fate → List ℕ → Type 0) (start mid new : LineState) where
  said_so : {due : Due} {fate : Fate} {v t : List ℕ → Type 0} → ((said : List ℕ) → v said → t said)
      → CarriesOut way hex sentinel r w due fate v → CarriesOut way hex sentinel r w due fate t
  said_so f h =
      carried h.end h.text h.out h.said h.is h.read h.wrote (f h.said h.told)

  -- a last line that was said, and one that wasn't
  told : {due : Due} {fate : Fate} {line : List ℕ} → WritingByFew mid new whole line
      → CarriesOut way hex sentinel r w due fate (WritingByFew start mid whole)
      → CarriesOut way hex sentinel r w due fate (Behind line (WritingByFew start new whole))
  told p h = said_so (λ said q. few-then q p) h

  untold : {due : Due} {fate : Fate} {line : List ℕ} → WritingByFew mid new broken line
      → CarriesOut way hex sentinel r w due fate (WritingByFew start mid whole)
      → CarriesOut way hex sentinel r w due fate (Behind line (WritingByFew start new broken))
  untold p h = said_so (λ said q. few-broke q p) h

  abbrev Ends : ℕ → Type 0
  Ends status = RunEnds way hex sentinel r w status (WritingByFew start new)

  fails : (status : ℕ) → status ≡ 3
      → DeviceFails way hex sentinel r w (WritingByFew start new whole)
      ⊎ SayingFails way hex sentinel r w (WritingByFew start new broken) → Ends status
  fails status e h = record {
    finished = λ l. absurd (omega arith);
    failed = λ e. h;
    memory = λ m. absurd (omega arith);
    range = omega arith;
  }

  pub ends : (worked : Result ℕ Stop) (status : ℕ)
      → Worked way hex sentinel r w (WritingByFew start mid) worked → Reports mid new worked status
      → Ends status
  ends (Ok planned) status h p =
      let low = program-low way hex sentinel h.text h.out h.said planned h.is.1 in record {
        finished = λ l. rw (p.0, p.1) h;
        failed = λ e. absurd (omega (arith, p.0));
        memory = λ e. absurd (omega (arith, p.0));
        range = omega (arith, p.0);
      }
  ends (Err stop.ReadFault) status h (inl p) = fails status p.0 (inl (inl (told p.1 h)))
  ends (Err stop.ReadFault) status h (inr p) =
      fails status p.0 (inr (inr (inl (inl (untold p.1 h)))))
  ends (Err stop.WriteFault) status h (inl p) = fails status p.0 (inl (inr (told p.1 h)))
  ends (Err stop.WriteFault) status h (inr p) =
      fails status p.0 (inr (inr (inl (inr (untold p.1 h)))))
  ends (Err stop.SayingFault) status h p = fails status p.0 (inr (inl (rw p.1 h)))
  ends (Err stop.NoMemory) status h (inl p) = record {
    finished = λ l. absurd (omega (arith, p.0));
    failed = λ e. absurd (omega (arith, p.0));
    memory = λ e. told p.1 h;
    range = omega (arith, p.0);
  }
  ends (Err stop.NoMemory) status h (inr p) = fails status p.0 (inr (inr (inr (untold p.1 h))))
