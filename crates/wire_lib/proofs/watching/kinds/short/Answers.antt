use Rattle.std.proofs.Common.{◌∙◌, arith, string_bytes, string_len}
use Rattle.wire_lib.proofs.KindsLemmas.{short_cut, short_end, short_step}
use Rattle.wire_lib.proofs.watching.kinds.short.Goals as goal

pub returns-then-len-ge-LONGEST : goal.returns-then-len-ge-LONGEST
returns-then-len-ge-LONGEST c =
    let kept = c.loop-character.kept in
    let i = c.loop-character.invariant in
    c.in_ok-push_str.ensures.bytes ∙ short_cut (string_bytes kept) _ _ _ c.in-Some.character (string_len kept)
    (omega (arith, c.if-len-ge-LONGEST.true, c.len.ensures)) i.0 c.in-Some.ensures.steps.0 i.1

pub loop-character-preserved : goal.loop-character-preserved
loop-character-preserved c =
    let kept = c.loop-character.kept in
    let i = c.loop-character.invariant in
    short_step (string_bytes kept) _ _ _ _ c.in-Some.character (string_len kept) (string_len c.push.new.self)
    (omega (arith, c.if-len-ge-LONGEST.false, c.len.ensures)) c.in_ok-push.ensures.len c.in_ok-push.ensures.bytes i.0 c.in-Some.ensures.steps.0 i.1

pub returns : goal.returns
returns c = short_end (string_bytes c.loop-character.kept) _ _ _ c.in-None.ensures.steps.0.0 c.loop-character.invariant.1
