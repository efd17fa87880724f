use Rattle.std.proofs.Common.{◌≤◌, length, arith}
use Rattle.cobs.specs.Reports.{frame_size}
use Rattle.frames.proofs.DecodingLemmas.{long_size, long_frame, long_damaged, long_same}
use Rattle.frames.proofs.decoding.decode_long.Goals as goal

pub returns-in-Ok-clause-frame : goal.returns-in-Ok-clause-frame
returns-in-Ok-clause-frame c z = rw c.frame_size.ensures (long_frame c.args.sentinel c.args.front.now _ c.requires.some c.in-Ok.ensures.frame z)

pub returns-in-Ok-clause-within : goal.returns-in-Ok-clause-within
returns-in-Ok-clause-within c =
    let size : frame_size c.in-Ok.report ≤ length c.args.front.now = long_size c.args.sentinel c.args.front.now c.in-Ok.report c.shorter.ensures c.in-Ok.ensures.answer in
    omega (arith, size, c.frame_size.ensures, long_same c.args.sentinel c.args.front.now _ c.in-Ok.ensures.buffer)

pub returns-in-Err-clause-damaged : goal.returns-in-Err-clause-damaged
returns-in-Err-clause-damaged c e z = long_damaged c.args.sentinel c.args.front.now c.in-Err.ensures.no_frame z
