use Rattle.std.proofs.Common.{[], ◌∷◌, ◌++◌, Ok, refl, sym, ◌∙◌, subst, append-nil}
use Rattle.link.specs.Listening.{KeepsAnswer, HasGiven, EndsAtLoss}
use Rattle.link.specs.Lemmas.Givens.{ended_by}
use Rattle.link.proofs.HandingLemmas.{handed_none, handed_paused}
use Rattle.link.proofs.reception.Reception.conclude_each.Goals as goal

pub returns-in-Some-clause-handed : goal.returns-in-Some-clause-handed
returns-in-Some-clause-handed g c =
    let a = c.in-Some.answer in
    rw c.in-Ended.is (handed_paused g.H.Hearer.hears g.H.Hearer.laws _ _ _ _ (record {
      answers = a ∷ [];
      heard = c.hear.ensures;
      so = λ limit s stream given k.
          ended_by (g.M.MessageReader.judging c.args.messages.now).holds limit s stream (g.M.MessageReader.judging c.args.messages.now).reads given (given ++ (a ∷ [])) k.given
          (subst (λ o. KeepsAnswer (Ok o) given (given ++ (a ∷ []))) (sym c.in-Some.is ∙ c.ending.ensures limit s stream k.after) refl);
    }) c.pause.ensures.heard)

pub returns-in-None-clause-handed : goal.returns-in-None-clause-handed
returns-in-None-clause-handed g c =
    rw c.in-Ended.is (handed_none g.H.Hearer.hears g.H.Hearer.laws _ _ (λ limit s stream given k.
    ended_by (g.M.MessageReader.judging c.args.messages.now).holds limit s stream (g.M.MessageReader.judging c.args.messages.now).reads given (given ++ []) k.given
    (subst (λ o. KeepsAnswer (Ok o) given (given ++ [])) (sym c.in-None.is ∙ c.ending.ensures limit s stream k.after) (append-nil given))))

pub returns-in-ReadFault-clause-handed : goal.returns-in-ReadFault-clause-handed
returns-in-ReadFault-clause-handed g c =
    rw c.in-ReadFault.is (handed_none g.H.Hearer.hears g.H.Hearer.laws _ _ (λ limit s stream given k.
    subst (λ xs. HasGiven (g.M.MessageReader.judging c.args.messages.now).holds (g.M.MessageReader.judging c.args.messages.now).reads limit s xs stream) (sym (append-nil given)) k.given))

pub returns-in-NoMemory-clause-handed : goal.returns-in-NoMemory-clause-handed
returns-in-NoMemory-clause-handed g c =
    rw c.in-NoMemory.is (handed_none g.H.Hearer.hears g.H.Hearer.laws _ _ (λ limit s stream given k.
    subst (λ xs. EndsAtLoss (g.M.MessageReader.judging c.args.messages.now).holds (g.M.MessageReader.judging c.args.messages.now).reads limit s xs stream) (sym (append-nil given)) k.0))
