use Rattle.std.proofs.Common.{◌≡◌, ◌+◌, ◌++◌, ◌≤◌, length, take, flat_map, string_bytes, string_capacity, string_len}
use Rattle.wire_json.specs.Refused.{line_parts}
use Rattle.wire_json.proofs.wrong.put_wrong.Given as goal

-- the parts so far were appended, and the capacity didn't shrink
abbrev pub invariant-loop-index : goal.invariant-loop-index
invariant-loop-index l =
    (string_bytes l.lines ≡ string_bytes l.fn.lines ++ flat_map (λ t. t) (take l.index (line_parts l.number l.fn.wrong)))
    × (string_len l.lines ≡ string_len l.fn.lines + length (flat_map (λ t. t) (take l.index (line_parts l.number l.fn.wrong))))
    × (string_capacity l.fn.lines ≤ string_capacity l.lines)
