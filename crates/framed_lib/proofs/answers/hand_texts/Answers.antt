use Rattle.std.proofs.Common.{true, false}
use Rattle.framed_lib.proofs.LiveLemmas.{hands_texts}
use Rattle.link.specs.Each.{hearing, uses_few}
use Rattle.link.specs.Lemmas.Givens.{none_given}
use Rattle.framed_lib.proofs.answers.hand_texts.Goals as goal

pub returns-then-strict-clause-received : goal.returns-then-strict-clause-received
returns-then-strict-clause-received g c =
    rw c.if-strict.true
    (hands_texts _ _ true c.args.sentinel (hearing g.H.Hearer.hears g.H.Hearer.enough g.H.Hearer.settled) _ _ _ _ _ _ _
    (record { after = c.new_with_sentinel-receiver.ensures.after; given = none_given _ _ 1024 c.args.sentinel })
    c.receive_each_with.ensures.received)

pub returns-then-strict-clause-few : goal.returns-then-strict-clause-few
returns-then-strict-clause-few g c = let h = c.receive_each_with.ensures.received in uses_few _ _ c.receive_each_with.result h.bytes h.read h.few

pub returns-clause-received : goal.returns-clause-received
returns-clause-received g c =
    rw c.if-strict.false
    (hands_texts _ _ false c.args.sentinel (hearing g.H.Hearer.hears g.H.Hearer.enough g.H.Hearer.settled) _ _ _ _ _ _ _
    (record { after = c.new_with_sentinel-receiver.ensures.after; given = none_given _ _ 1024 c.args.sentinel })
    c.receive_each_with-2.ensures.received)

pub returns-clause-few : goal.returns-clause-few
returns-clause-few g c = let h = c.receive_each_with-2.ensures.received in uses_few _ _ c.receive_each_with-2.result h.bytes h.read h.few
