use Rattle.std.proofs.Common.{subst}
use Rattle.postcard_tree.specs.Reading.{ReadsBytes}
use Rattle.postcard_de.specs.Answer.{ReadsFront}
use Rattle.frames.proofs.CountsLemmas.{as_read, stand_behind, lengths_fit}
use Rattle.frames.proofs.counting.counted_long.Goals as goal

pub overflow_sub-result-in-Ok : goal.overflow_sub-result-in-Ok
overflow_sub-result-in-Ok c = lengths_fit c.args.message.now c.in-Ok.rest.now c.in-Ok.bytes.now (as_read c.args.message.now c.in-Ok.rest.now c.in-Ok.bytes c.in-Ok.ensures.value)

pub returns-in-Ok-clause-read : goal.returns-in-Ok-clause-read
returns-in-Ok-clause-read c =
    let r = as_read c.args.message.now c.in-Ok.rest.now c.in-Ok.bytes c.in-Ok.ensures.value in
    (c.in-Ok.rest.now, subst (ReadsFront ReadsBytes c.args.message.now c.in-Ok.rest.now) (stand_behind c.args.message.now c.in-Ok.rest.now c.in-Ok.bytes.now r).0 r)

pub returns-in-Ok-clause-within : goal.returns-in-Ok-clause-within
returns-in-Ok-clause-within c = (stand_behind c.args.message.now c.in-Ok.rest.now c.in-Ok.bytes.now (as_read c.args.message.now c.in-Ok.rest.now c.in-Ok.bytes c.in-Ok.ensures.value)).1
