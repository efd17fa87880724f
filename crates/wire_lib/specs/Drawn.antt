-- The bytes that draw a picture on a terminal.
use Rattle.std.specs.Prelude.{ℕ, zero, suc, ◌-◌, ◌==◌, Bool, true, false, max, List, [], ◌∷◌, ◌++◌, length, Vec}
use Rattle.std.specs.Global.{Global}
use Rattle.wire_lib.specs.declared.watching.screen.TheConstants.{UP, BEGIN, CLEAR, NEXT, DOWN, END, RED, PLAIN}

-- these bytes n times
abbrev pub repeated : ℕ → List ℕ → List ℕ
repeated zero bytes = []
repeated (suc n) bytes = bytes ++ repeated n bytes

-- a line over the one at the cursor, in red or without colour
abbrev pub line_over : Bool → List ℕ → List ℕ
line_over true line = CLEAR.now ++ (RED.now ++ (line ++ (PLAIN.now ++ DOWN.now)))
line_over false line = CLEAR.now ++ (line ++ DOWN.now)

-- lines, each over the one at the cursor, all but the first `plain` in red
abbrev pub lines_over : ℕ → List (Vec ℕ Global) → List ℕ
lines_over plain [] = []
lines_over plain (line ∷ lines) = line_over (plain == 0) line.items ++ lines_over (plain - 1) lines

-- new lines if the picture is higher than the last one, the way up to its first line, and the lines, all but the first `plain` in red
abbrev pub drawn : ℕ → ℕ → List (Vec ℕ Global) → List ℕ
drawn height plain lines = repeated (length lines - height) NEXT.now ++ repeated (max (length lines) height) UP.now
    ++ BEGIN.now ++ lines_over plain lines ++ END.now
