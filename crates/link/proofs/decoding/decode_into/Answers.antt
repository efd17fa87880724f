use Rattle.std.proofs.Common.{ap, arith, length}
use Rattle.cobs.specs.Sentinel.{masked}
use Rattle.link.specs.Lemmas.MaskLaws.{masked_length}
use Rattle.link.proofs.decoding.decode_into.Goals as goal

pub returns-in-Err-clause-message : goal.returns-in-Err-clause-message
returns-in-Err-clause-message c =
    let p = masked c.args.sentinel c.args.frame.now in
    record {
      within = tt;
      message = tt;
      no_frame = λ m f. omega (arith, c.in-Err.ensures.no_frame m f, ap length (c.message_of_a_frame.ensures.one p m f), c.shorter.ensures p, masked_length c.args.sentinel c.args.frame.now, c.requires.within);
    }
