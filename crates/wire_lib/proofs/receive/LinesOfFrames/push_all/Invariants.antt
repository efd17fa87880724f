use Rattle.std.proofs.Common.{◌≡◌, ◌&&◌, ℕ, List, ◌++◌, length}
use Rattle.link.specs.declared.receiver.Answer.{Answer}
use Rattle.schema_table.specs.declared.value.Value.{Value}
use Rattle.wire_lib.specs.Received.{HasGot, TellsEach, are_all_values, good_so_far, reading_of, skip_of}
use Rattle.wire_lib.specs.Said.{OnlyAppended}
use Rattle.wire_lib.proofs.receive.LinesOfFrames.push_all.Given as goal

-- what is left of the piece, and that what came before it was told
abbrev pub invariant-loop-rest : goal.invariant-loop-rest
invariant-loop-rest l =
    (done : List ℕ) × (l.fn.piece ≡ done ++ l.rest)
    × (reading_of l.self ≡ reading_of l.fn.self) × (skip_of l.self ≡ skip_of l.fn.self)
    × ((passed : ℕ) (stream : List ℕ) (answers : List (Answer Value)) → HasGot l.fn.self passed stream answers
    → (more : List (Answer Value)) × HasGot l.self passed (stream ++ done) (answers ++ more)
    × (good_so_far l.self ≡ (good_so_far l.fn.self && are_all_values more))
    × TellsEach (reading_of l.fn.self) passed (stream ++ l.fn.piece) answers more l.fn.lines.items l.lines.items)
    × OnlyAppended l.fn.lines.items l.lines.items

abbrev pub decreases-loop-rest : goal.decreases-loop-rest
decreases-loop-rest l = length l.rest
