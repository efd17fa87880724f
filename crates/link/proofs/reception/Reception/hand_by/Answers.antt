use Rattle.std.proofs.Common.{[], ◌++◌, sym, ap, ◌∙◌, subst, append_assoc}
use Rattle.link.specs.Receivers.{IsBehind}
use Rattle.link.specs.Listening.{through, Recovers}
use Rattle.link.proofs.HandingLemmas.{handed_as, handed_next, HasLost, stopped_parts, lost_first, heard_anew, lost_next, recovered}
use Rattle.link.proofs.reception.Reception.hand_by.Goals as goal

pub returns-then-not-goes_on-clause-err : goal.returns-then-not-goes_on-clause-err
returns-then-not-goes_on-clause-err g c =
    rw c.if-not-goes_on.true (handed_as g.H.Hearer.hears g.H.Hearer.laws _ _ _ _ c.in-Err.ensures.err (λ more all limit s stream given h.
    let stops = all limit s stream given h in (
      record { loss = stops.loss; said = stops.said; parts = stops.parts },
      subst (λ x. IsBehind g.D.Decoding.inside limit s c.pass_over.new.self x) (sym (stopped_parts g.D.Decoding.inside (g.M.MessageReader.judging c.args.messages.now).holds (g.M.MessageReader.judging c.args.messages.now).reads limit s _ _ _ _ _ stops))
          (c.pass_over.ensures.stands limit s _ stops.after),
    )))

pub loop-left-init : goal.loop-left-init
loop-left-init g c = (
  c.hand_on.ensures.same,
  c.in-Err.ensures.memory,
  handed_as g.H.Hearer.hears g.H.Hearer.laws _ _ _ _ c.in-Err.ensures.err (λ more all limit s stream given h.
      let stops = all limit s stream given h in (
        through stops.loss,
        stopped_parts g.D.Decoding.inside (g.M.MessageReader.judging c.args.messages.now).holds (g.M.MessageReader.judging c.args.messages.now).reads limit s _ _ _ _ _ stops,
        lost_first g.D.Decoding.inside (g.M.MessageReader.judging c.args.messages.now).holds (g.M.MessageReader.judging c.args.messages.now).reads limit s _ _ _ _ _ stops,
      )),
)

pub loop-left-preserved : goal.loop-left-preserved
loop-left-preserved g c =
    let k = c.loop-left.invariant.2 in (
      (c.hand_on-in-loop-left.ensures.same.0 ∙ c.loop-left.invariant.0.0, c.hand_on-in-loop-left.ensures.same.1 ∙ c.loop-left.invariant.0.1),
      c.loop-left.invariant.1,
      handed_next g.H.Hearer.hears g.H.Hearer.laws _ _ _ _ _ _ k c.in-Err-hand_on.ensures.err (λ ys all limit s stream given h.
          let m = k.so limit s stream given h in
          let stops = all limit s [] [] (heard_anew g.D.Decoding.inside (g.M.MessageReader.judging c.args.messages.now).holds (g.M.MessageReader.judging c.args.messages.now).reads limit s _ _ _ m.2) in (
            m.0 ++ through stops.loss,
            m.1 ∙ ap (λ x. m.0 ++ x) (stopped_parts g.D.Decoding.inside (g.M.MessageReader.judging c.args.messages.now).holds (g.M.MessageReader.judging c.args.messages.now).reads limit s _ _ _ _ _ stops) ∙ sym (append_assoc m.0 (through stops.loss) _),
            subst (λ xs. HasLost g.D.Decoding.inside (g.M.MessageReader.judging c.args.messages.now).holds (g.M.MessageReader.judging c.args.messages.now).reads limit s c.hand_on-in-loop-left.new.self xs (m.0 ++ through stops.loss)) (append_assoc given k.answers ys)
                (lost_next g.D.Decoding.inside (g.M.MessageReader.judging c.args.messages.now).holds (g.M.MessageReader.judging c.args.messages.now).reads limit s _ _ _ _ _ _ _ m.2 stops),
          )),
    )

-- what is left was heard to its end
pub returns-in-Ok-hand_on-clause-err : goal.returns-in-Ok-hand_on-clause-err
returns-in-Ok-hand_on-clause-err g c =
    let k = c.loop-left.invariant.2 in
    rw c.if-not-goes_on.false (handed_next g.H.Hearer.hears g.H.Hearer.laws _ _ _ _ _ _ k c.in-Ok-hand_on.ensures.ok (λ ys adds limit s stream given h.
    let m = k.so limit s stream given h in
    let heard = adds limit s [] [] (heard_anew g.D.Decoding.inside (g.M.MessageReader.judging c.args.messages.now).holds (g.M.MessageReader.judging c.args.messages.now).reads limit s _ _ _ m.2) in
    subst (λ x. Recovers g.D.Decoding.inside (g.M.MessageReader.judging c.args.messages.now).holds (g.M.MessageReader.judging c.args.messages.now).reads limit s c.hand_on-in-loop-left.new.self (given ++ (k.answers ++ ys)) x) (sym m.1)
    (subst (λ xs. Recovers g.D.Decoding.inside (g.M.MessageReader.judging c.args.messages.now).holds (g.M.MessageReader.judging c.args.messages.now).reads limit s c.hand_on-in-loop-left.new.self xs (m.0 ++ c.loop-left.rest.now)) (append_assoc given k.answers ys)
    (recovered g.D.Decoding.inside (g.M.MessageReader.judging c.args.messages.now).holds (g.M.MessageReader.judging c.args.messages.now).reads limit s _ _ _ _ _ _ m.2 heard))))
