use Rattle.std.proofs.Common.{take}
use Rattle.link.proofs.BufferLemmas.{clear_unmasked, message_before, damage_before}
use Rattle.link.proofs.decoding.decode_front.Goals as goal

pub decode_clear_in_place-requires : goal.decode_clear_in_place-requires
decode_clear_in_place-requires c = clear_unmasked (take c.args.count c.args.buffer.now) c.requires.clear

pub returns-in-Ok-clause-message : goal.returns-in-Ok-clause-message
returns-in-Ok-clause-message c =
    message_before c.in-Ok.size (take c.args.count c.args.buffer.now) c.decode_clear_in_place.new.frame _ c.in-Ok.ensures.within c.decode_clear_in_place.auto.frame c.in-Ok.ensures.frame

pub returns-in-Err-clause-message : goal.returns-in-Err-clause-message
returns-in-Err-clause-message c = damage_before (take c.args.count c.args.buffer.now) _ c.in-Err.ensures.no_frame
