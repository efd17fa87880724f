use Rattle.std.proofs.Common.{◌≡◌, Ok, MatchResult, refl}
use Rattle.cobs.specs.InPlace.{stretch}
use Rattle.cobs.specs.Sentinel.{masked}
use Rattle.cobs.specs.Whole.{message_of_stretch, RefusesWhole}
use Rattle.cobs.proofs.VerdictsLemmas.{if_answered, if_refused, frame_of_stretch, stretch_refused, stretch_masked}
use Rattle.cobs.proofs.WholesLemmas.{masked_stretch}
use Rattle.cobs.proofs.dec.in_place.decode_vec_with_sentinel.Goals as goal
use Rattle.cobs.proofs.dec.in_place.decode_vec_with_sentinel.Goals.{After-decode_copied}

answered : (c : After-decode_copied) → MatchResult c.decode_copied.result (λ v. message_of_stretch (stretch (masked c.args.sentinel c.args.source.now)) ≡ Ok v.items) (λ e. RefusesWhole e (message_of_stretch (stretch (masked c.args.sentinel c.args.source.now))))
answered c = rw (← masked_stretch c.args.source.now c.before-2.result.now _ c.args.sentinel c.before-2.ensures refl) c.decode_copied.ensures

pub returns-clause-answer : goal.returns-clause-answer
returns-clause-answer c = answered (goal.at.returns-clause-answer c).After-decode_copied

pub returns-clause-frame : goal.returns-clause-frame
returns-clause-frame c =
    if_answered c.decode_copied.result _ _ _ (answered (goal.at.returns-clause-frame c).After-decode_copied)
    (λ v h. frame_of_stretch (stretch (masked c.args.sentinel c.args.source.now)) v.items (stretch_masked c.args.sentinel c.args.source.now c.ranges.sentinel.fits (λ k. (c.type_inv.source k).fits)) h)

pub returns-clause-no_frame : goal.returns-clause-no_frame
returns-clause-no_frame c =
    if_refused c.decode_copied.result _ _ _ (answered (goal.at.returns-clause-no_frame c).After-decode_copied)
    (λ e h. stretch_refused (stretch (masked c.args.sentinel c.args.source.now)) e h)
