use Rattle.std.proofs.Common.{◌≡◌, ◌<◌, [], ◌++◌, length, take, refl, sym, ◌∙◌, ap, subst, append_assoc, arith, rules, append-nil}
use Rattle.link.specs.Link.{begun, IsAt, IsBehind, Hears, HasGiven}
use Rattle.link.specs.Lemmas.Givens.{kept_given}
use Rattle.std.proofs.lemmas.List.{nil_from_length}
use Rattle.link.specs.Lemmas.Lengths.{parts_on}
use Rattle.link.proofs.HandingLemmas.{on_err, on_ok, lost_by, handed_none, handed_next, handed_as, keeps_behind}
use Rattle.link.specs.Lemmas.AnswerLaws.{behind_after, answered}
use Rattle.link.proofs.FirstLemmas.{by_loss}
use Rattle.link.proofs.reception.Reception.hand_on.Goals as goal

pub loop-rest-init : goal.loop-rest-init
loop-rest-init g c = (
  (refl, refl),
  (
    [],
    refl,
    handed_none g.H.Hearer.hears g.H.Hearer.laws _ _ (λ limit s stream given h.
        subst (λ xs. Hears g.D.Decoding.inside (g.M.MessageReader.judging c.args.messages.now).holds (g.M.MessageReader.judging c.args.messages.now).reads limit s c.args.self.now xs (stream ++ [])) (sym (append-nil given)) (subst (λ x. Hears g.D.Decoding.inside (g.M.MessageReader.judging c.args.messages.now).holds (g.M.MessageReader.judging c.args.messages.now).reads limit s c.args.self.now given x) (sym (append-nil stream)) h)),
  ),
  omega arith,
)

pub returns-then-is_err-clause-err : goal.returns-then-is_err-clause-err
returns-then-is_err-clause-err g c =
    let rest = c.loop-rest.rest.now in
    let k = c.loop-rest.invariant.1 in
    let judging = g.M.MessageReader.judging c.args.messages.now in
    let e = on_err c.hand.result _ (sym c.is_err.ensures.value ∙ c.if-is_err.true) c.hand.ensures.err in
    rw e.0 (handed_as g.H.Hearer.hears g.H.Hearer.laws _ _ _ _ k.2 (λ more adds limit s stream given h.
    let heard = adds limit s stream given h in
    let b = begun limit s (stream ++ k.0) in
    let taken = c.take-taken.ensures.taken limit s b heard.after in
    let held = e.1 limit _ (c.lend.ensures.same limit _ taken) in
    let lost = lost_by judging.holds judging.reads limit s (stream ++ k.0) rest c.take-taken.result.used held.reply (answered judging.holds limit s b rest (stream ++ k.0) refl judging.reads _ held.reply taken.used held.replies) held.fails in record {
      loss = record {
        answers = given ++ more;
        front = stream ++ k.0;
        rest = rest;
        used = c.take-taken.result.used;
        given = heard.given;
        lost = lost;
        begins = by_loss judging.holds c.show.ensures limit s (stream ++ k.0) rest heard.given.verdicts heard.given.given c.take-taken.result.used lost;
      };
      said = refl;
      parts = ap (λ x. stream ++ x) k.1 ∙ sym (append_assoc stream k.0 rest);
      left_is = c.split_at.ensures.back;
      after = behind_after limit s (IsAt g.D.Decoding.inside limit s c.take-taken.new.self) (stream ++ k.0) rest _ taken.used (c.take-taken.ensures.at limit s b heard.after);
    }))

pub returns-then-is_err-clause-memory : goal.returns-then-is_err-clause-memory
returns-then-is_err-clause-memory g c = on_err c.hand.result _ (sym c.is_err.ensures.value ∙ c.if-is_err.true) c.hand.ensures.memory

pub loop-rest-preserved : goal.loop-rest-preserved
loop-rest-preserved g c =
    let rest = c.loop-rest.rest.now in
    let used = c.take-taken.result.used in
    let kept = on_ok c.hand.result _ (sym c.is_err.ensures.value ∙ c.if-is_err.false) c.hand.ensures.ok in
    let k = c.loop-rest.invariant.1 in
    let xs = k.2.answers in (
      (c.take-taken.ensures.same.0 ∙ c.loop-rest.invariant.0.0, c.take-taken.ensures.same.1 ∙ c.loop-rest.invariant.0.1),
      (
        k.0 ++ take used rest,
        parts_on c.args.piece.now k.0 rest used k.1 ∙ ap (λ x. (k.0 ++ take used rest) ++ x) (sym c.split_at.ensures.back),
        handed_next g.H.Hearer.hears g.H.Hearer.laws _ _ _ _ _ _ k.2 kept (λ ys hands limit s stream given h.
            let heard = k.2.so limit s stream given h in
            let b = begun limit s (stream ++ k.0) in
            let taken = c.take-taken.ensures.taken limit s b heard.after in
            let at = taken.used in
            let hand = hands limit _ (c.lend.ensures.same limit _ taken) in record {
              after = subst (λ x. IsBehind g.D.Decoding.inside limit s c.take-taken.new.self x) (append_assoc stream k.0 (take used rest))
                  (behind_after limit s (IsAt g.D.Decoding.inside limit s c.take-taken.new.self) (stream ++ k.0) rest _ at (c.take-taken.ensures.at limit s b heard.after));
              given = rw (sym (append_assoc stream k.0 (take used rest))) (subst (λ zs. HasGiven (g.M.MessageReader.judging c.args.messages.now).holds (g.M.MessageReader.judging c.args.messages.now).reads limit s zs ((stream ++ k.0) ++ take used rest)) (append_assoc given xs ys)
                  (kept_given (g.M.MessageReader.judging c.args.messages.now).holds (g.M.MessageReader.judging c.args.messages.now).reads limit s (stream ++ k.0) rest (given ++ xs) ((given ++ xs) ++ ys) used hand.reply heard.given
                  (answered (g.M.MessageReader.judging c.args.messages.now).holds limit s b rest (stream ++ k.0) refl (g.M.MessageReader.judging c.args.messages.now).reads _ hand.reply at hand.replies)
                  (keeps_behind hand.reply (given ++ xs) ys hand.keeps)));
            }),
      ),
      omega (arith, c.split_at.ensures.back_len, c.loop-rest.invariant.2),
    )

pub returns-clause-ok : goal.returns-clause-ok
returns-clause-ok g c =
    let k = c.loop-rest.invariant.1 in
    let none : c.loop-rest.rest.now ≡ [] = nil_from_length c.loop-rest.rest.now (search rules) in
    rw (k.1 ∙ ap (λ x. k.0 ++ x) none ∙ append-nil k.0) k.2

pub returns-then-is_err-clause-shorter : goal.returns-then-is_err-clause-shorter
returns-then-is_err-clause-shorter g c =
    let some : 0 < length c.loop-rest.rest.now = search rules in
    omega (arith, c.split_at.ensures.back_len, c.take-taken.ensures.forward some, c.take-taken.ensures.bound, c.loop-rest.invariant.2)
