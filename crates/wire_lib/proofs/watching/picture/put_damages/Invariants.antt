use Rattle.std.proofs.Common.{◌++◌, ◌∷◌, codes, map, take, string_bytes}
use Rattle.wire_lib.specs.Pictures.{FitInColumns, AppendsLines, damage_count}
use Rattle.wire_lib.proofs.watching.picture.put_damages.Given as goal

-- what is there so far can be shown, and is the number and the damages so far
abbrev pub invariant-loop-told : goal.invariant-loop-told
invariant-loop-told l = FitInColumns l.view.columns l.lines.items
    × AppendsLines l.view.columns (damage_count l.table.damaged ∷ map (λ text. codes "  " ++ string_bytes text) (take l.told-index l.table.damages.items))
    l.fn.lines.items l.lines.items
