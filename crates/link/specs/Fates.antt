-- What becomes of the sends of one sender.
use Rattle.std.specs.Prelude.{◌≡◌, ℕ, ◌+◌, ◌*◌, ◌<◌, ◌≤◌, ◌⊎◌, Bool, false, List, [], ◌∷◌, length, map, Option, Some}
use Rattle.std.specs.List.{AllZip}
use Rattle.std.specs.Borrow.{RattleType}
use Rattle.std.specs.Mem.{FitsInMemory}
use Rattle.cobs.specs.Frames.{shortest_frame}
use Rattle.line_io.specs.Device.{LineState, Wrote}
use Rattle.postcard_tree.specs.Tree.{Tree, IsTree}
use Rattle.postcard_tree.specs.ReadingLaws.{WireForm}
use Rattle.postcard.specs.Written.{UnlessRefused}
use Rattle.link.specs.Senders.{SenderPlace}
use Rattle.link.specs.Run.{Send, completed, refused, broken, written, clean_after, session_line, IsSend, IsSession}
use Rattle.link.specs.declared.session.Fate.{Fate}
use Rattle.link.specs.declared.session.Fate.TheVariants.{Done, Refused, Broken}
use Rattle.link.specs.contracts.sender.Sender as sender

-- a sender of such a limit can be held
abbrev pub SenderFitsInMemory : (W N : RattleType) → Type 0
SenderFitsInMemory W N = FitsInMemory (sender.the_row W N)

-- what became of a send
abbrev pub fate_of : Send → Fate
fate_of (completed t) = Done
fate_of refused = Refused
fate_of (broken t k) = Broken

-- how many broke off
abbrev pub broke : Send → ℕ
broke (broken t k) = 1
broke _ = 0

-- how many of these broke off
abbrev pub brokens : List Send → ℕ
brokens [] = 0
brokens (x ∷ xs) = broke x + brokens xs

-- no more broke off than calls failed, or no call is left
abbrev pub FewBroke : LineState → LineState → ℕ → Type 0
FewBroke old new broken_off = (old.faults + broken_off ≤ new.faults) ⊎ (new.calls_left ≡ 0)

-- a send of a value that writes this tree, where it writes one
abbrev pub IsSendOf : ℕ → Option Tree → Type 0 → Send → Type 0
IsSendOf limit writes valid (completed t) = (writes ≡ Some t) × valid
IsSendOf limit writes valid refused =
    UnlessRefused writes (λ bytes. limit < length (shortest_frame bytes))
IsSendOf limit writes valid (broken t k) = (writes ≡ Some t) × valid

-- whether the next send needs no sentinel in front, behind these
abbrev pub clean_after_all : Bool → List Send → Bool
clean_after_all clean [] = clean
clean_after_all clean (x ∷ xs) = clean_after_all (clean_after clean x) xs

-- what a sender did to its line: no more of its calls failed or took nothing than sends broke off, so that nothing is tried twice
pub record Did (old new : LineState) (bytes : List ℕ) (broken_off : ℕ) : Type 0 where
  -- the line took these bytes, and no other
  pub wrote : Wrote old new bytes
  -- each send that broke off was a fault of the line, as long as it had a call left
  pub few : FewBroke old new broken_off
  -- and each fault was a send that broke off
  pub once : new.faults ≤ old.faults + broken_off
  -- no call is given back
  pub calls : new.calls_left ≤ old.calls_left

-- one send
pub record SendsOne (limit s : ℕ) (writes : Option Tree) (valid : Type 0) (clean later : Bool)
    (old new : LineState) (fate : Fate) : Type 0 where
  -- which send it was
  pub send : Send
  -- its frame is within the limit; interrupted, a part of its bytes was left
  pub is : IsSend IsTree limit s clean send
  -- it is a send of this value
  pub of : IsSendOf limit writes valid send
  -- what became of it was returned
  pub fated : fate ≡ fate_of send
  -- the line took what such a send writes
  pub did : Did old new (written s clean send) (broke send)
  -- by at most so many calls
  pub few : old.calls_left ≤ new.calls_left + (limit + 2)
  -- and the sender is clean or not as after such a send
  pub then : later ≡ clean_after clean send

-- the sends of these values, and what became of them
pub record SendsAll {V : Type 0} (limit s : ℕ) (writes : V → Option Tree) (valid : V → Type 0)
    (clean later : Bool) (old new : LineState)
    (values : List V) (fates : List Fate) : Type 0 where
  -- which sends they were
  pub sends : List Send
  -- they are a session of one sender
  pub are : IsSession IsTree limit s clean sends
  -- one of each value, in order
  pub of : AllZip (λ v x. IsSendOf limit (writes v) (valid v) x) values sends
  -- what became of each was returned
  pub fated : fates ≡ map fate_of sends
  -- the line took what such sends of one sender write
  pub did : Did old new (session_line s clean sends) (brokens sends)
  -- by at most so many calls for each value
  pub few : old.calls_left ≤ new.calls_left + (limit + 2) * length values
  -- and the sender is clean or not as after such sends
  pub then : later ≡ clean_after_all clean sends

-- where a new sender is, which isn't clean
abbrev pub new_sender : ℕ → LineState → SenderPlace
new_sender s line = record { sentinel = s; clean = false; line = line }

-- These values were sent in turn by a sender of this limit, from this place until its line was so, and these fates are what became of
-- each.
abbrev pub AreSentFrom : {V : Type 0} → WireForm V → ℕ → SenderPlace → LineState → List V
    → List Fate → Type 0
AreSentFrom form limit place line values fates = (later : Bool)
    × SendsAll limit place.sentinel form.writes form.valid place.clean later place.line line values fates

-- A session of values that are valid is one of trees that the type takes.
abbrev pub IsCarried : {V : Type 0} → (Tree → Type 0)
    → (V → Option Tree) → (V → Type 0) → List V → Type 0
IsCarried takes writes valid values = (limit s : ℕ) (clean : Bool) (xs : List Send)
    → AllZip (λ v x. IsSendOf limit (writes v) (valid v) x) values xs
    → IsSession IsTree limit s clean xs → IsSession takes limit s clean xs
