-- Pieces that are pushed in turn.
use Rattle.std.proofs.Common.{◌≡◌, ℕ, ◌+◌, List, [], ◌∷◌, ◌++◌, length, Result, Option, Some, None, Ok, Err, refl, ap, sym, ◌∙◌, arith}
use Rattle.cobs.specs.Feeding.{answer_of, frame_after, placed}
use Rattle.cobs.specs.Pieces.{answered, ended, first_answer, frame_left, buffer_left}
use Rattle.cobs.specs.DecodingLaws.{DecodingOutcome, pushed, moved, or_later, pushed_in_turn, joined_up}
use Rattle.cobs.specs.declared.dec.report.DecodeReport.{DecodeReport}
use Rattle.cobs.specs.declared.dec.report.DecodeError.{DecodeError}

-- the answer counts from where the piece begins
moved_answer : (a : Result (Option ℕ) DecodeError) (earlier used : ℕ) (later later' : Result (Option DecodeReport) DecodeError) → later ≡ moved earlier later' → answered a (earlier + used) later ≡ moved earlier (answered a used later')
moved_answer (Ok None) earlier used later later' h = h
moved_answer (Ok (Some n)) earlier used later later' h = refl
moved_answer (Err e) earlier used later later' h = refl

pub first_moved : (room : ℕ) (frame piece : List ℕ) (earlier used : ℕ) → first_answer room frame piece (earlier + used) ≡ moved earlier (first_answer room frame piece used)
first_moved room frame [] earlier used = refl
first_moved room frame (byte ∷ piece) earlier used =
    let next : earlier + used + 1 ≡ earlier + (used + 1) = omega arith in
    ap (λ n. answered (answer_of room frame byte) n (first_answer room (frame_after frame byte) piece n)) next
    ∙ moved_answer (answer_of room frame byte) earlier (used + 1) (first_answer room (frame_after frame byte) piece (earlier + (used + 1))) (first_answer room (frame_after frame byte) piece (used + 1)) (first_moved room (frame_after frame byte) piece earlier (used + 1))

-- what pushing comes to behind so many bytes
abbrev from : ℕ → List ℕ → List ℕ → List ℕ → ℕ → DecodingOutcome
from room frame buffer piece used = record { answer = first_answer room frame piece used; frame = frame_left room frame piece; buffer = buffer_left room frame piece buffer }

abbrev first_of : Result (Option DecodeReport) DecodeError → DecodingOutcome → DecodingOutcome → DecodingOutcome
first_of (Ok None) now later = later
first_of (Ok (Some r)) now later = now
first_of (Err e) now later = now

-- a byte, and then an outcome
abbrev behind : Result (Option ℕ) DecodeError → ℕ → List ℕ → List ℕ → DecodingOutcome → DecodingOutcome
behind a used frame buffer o = record { answer = answered a used o.answer; frame = ended a frame o.frame; buffer = ended a buffer o.buffer }

behind_first : (a : Result (Option ℕ) DecodeError) (used : ℕ) (frame buffer : List ℕ) (o now : DecodingOutcome) (later : List ℕ → List ℕ → DecodingOutcome) → o ≡ first_of now.answer now (later now.frame now.buffer)
    → behind a used frame buffer o ≡ first_of (answered a used now.answer) (behind a used frame buffer now) (later (ended a frame now.frame) (ended a buffer now.buffer))
behind_first (Ok None) used frame buffer o now later h = h
behind_first (Ok (Some n)) used frame buffer o now later h = refl
behind_first (Err e) used frame buffer o now later h = refl

two_pieces : (room : ℕ) (frame buffer xs ys : List ℕ) (used : ℕ)
    → from room frame buffer (xs ++ ys) used ≡ first_of (first_answer room frame xs used) (from room frame buffer xs used) (from room (frame_left room frame xs) (buffer_left room frame xs buffer) ys (used + length xs))
two_pieces room frame buffer [] ys used = ap (from room frame buffer ys) (omega arith)
two_pieces room frame buffer (x ∷ xs) ys used =
    let a = answer_of room frame x in
    let frame' = frame_after frame x in
    let buffer' = placed frame x buffer in
    behind_first a (used + 1) frame' buffer' (from room frame' buffer' (xs ++ ys) (used + 1)) (from room frame' buffer' xs (used + 1)) (λ (f b : List ℕ). from room f b ys (used + 1 + length xs)) (two_pieces room frame' buffer' xs ys (used + 1))
    ∙ ap (λ n. first_of (first_answer room frame (x ∷ xs) used) (from room frame buffer (x ∷ xs) used) (from room (frame_left room frame (x ∷ xs)) (buffer_left room frame (x ∷ xs) buffer) ys n)) (omega arith)

-- an answer of a later piece, counted from the first
first_or : (a : Result (Option DecodeReport) DecodeError) (room : ℕ) (now : DecodingOutcome) (frame buffer piece : List ℕ) (used : ℕ) (later : DecodingOutcome) → later ≡ pushed room frame buffer piece
    → first_of a now (from room frame buffer piece (0 + used)) ≡ or_later a now used later
first_or (Ok None) room now frame buffer piece used later h =
    ap (λ r. record { answer = r; frame = frame_left room frame piece; buffer = buffer_left room frame piece buffer }) (ap (first_answer room frame piece) (omega arith) ∙ first_moved room frame piece used 0)
    ∙ ap (λ (o : DecodingOutcome). record { answer = moved used o.answer; frame = o.frame; buffer = o.buffer }) (sym h)
first_or (Ok (Some r)) room now frame buffer piece used later h = refl
first_or (Err e) room now frame buffer piece used later h = refl

pub any_pieces : (room : ℕ) (frame buffer : List ℕ) (pieces : List (List ℕ)) → pushed_in_turn room frame buffer pieces ≡ pushed room frame buffer (joined_up pieces)
any_pieces room frame buffer [] = refl
any_pieces room frame buffer (piece ∷ pieces) =
    sym (two_pieces room frame buffer piece (joined_up pieces) 0
    ∙ first_or (first_answer room frame piece 0) room (pushed room frame buffer piece) (frame_left room frame piece) (buffer_left room frame piece buffer) (joined_up pieces) (length piece) _
    (any_pieces room (frame_left room frame piece) (buffer_left room frame piece buffer) pieces))
