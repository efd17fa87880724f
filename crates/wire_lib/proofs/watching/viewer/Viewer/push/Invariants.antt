use Rattle.std.proofs.Common.{◌≡◌, ℕ, List, ◌++◌, length}
use Rattle.link.specs.declared.receiver.Answer.{Answer}
use Rattle.schema_table.specs.declared.value.Value.{Value}
use Rattle.wire_lib.specs.Said.{OnlyAppended}
use Rattle.wire_lib.specs.Seen.{HasWatched, NotesEach, TakesEach, missed_none, names_of, reading_of}
use Rattle.wire_lib.specs.Tables.{row_names}
use Rattle.wire_lib.specs.Watched.{SeesEach}
use Rattle.wire_lib.proofs.watching.viewer.Viewer.push.Given as goal

-- what is left of the piece, and that what came before it was seen
abbrev pub invariant-loop-rest : goal.invariant-loop-rest
invariant-loop-rest l =
    (done : List ℕ) × (l.fn.piece ≡ done ++ l.rest) × (reading_of l.self ≡ reading_of l.fn.self)
    × ((stream : List ℕ) (answers : List (Answer Value)) → HasWatched l.fn.self stream answers
    → (more : List (Answer Value)) × HasWatched l.self (stream ++ done) (answers ++ more)
    × TakesEach (reading_of l.fn.self) (stream ++ done) answers more l.fn.self.table l.self.table
    × NotesEach (reading_of l.fn.self) l.fn.window more l.fn.self.table.rows.items l.self.table.rows.items
    × SeesEach (reading_of l.fn.self) (names_of l.fn.self) (stream ++ l.fn.piece) answers more l.fn.lines.items l.lines.items)
    × (row_names l.self.table.rows.items ≡ row_names l.fn.self.table.rows.items)
    × OnlyAppended l.fn.lines.items l.lines.items
    × (missed_none l.self ≡ missed_none l.fn.self)

abbrev pub decreases-loop-rest : goal.decreases-loop-rest
decreases-loop-rest l = length l.rest
