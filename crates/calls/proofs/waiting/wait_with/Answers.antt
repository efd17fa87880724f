use Rattle.std.proofs.Common.{ap, ◌∙◌}
use Rattle.calls.specs.Waits.{after_answers}
use Rattle.calls.proofs.WaitedLemmas.{nothing_said, has_reply}
use Rattle.calls.proofs.waiting.wait_with.Goals as goal

pub returns-clause-taken : goal.returns-clause-taken
returns-clause-taken g c pending over =
    let h = c.listen_until_with.ensures.heard.0.adds in
    has_reply _ _ h.answers (h.heard.0 ∙ ap (λ w. after_answers w h.answers) c.forget.ensures.waiter) pending over

pub returns-clause-heard : goal.returns-clause-heard
returns-clause-heard g c =
    let h = c.listen_until_with.ensures.heard.0 in
    record {
      bytes = h.bytes;
      read = h.read;
      few = h.few;
      adds = record {
        answers = h.adds.answers;
        heard = (h.adds.heard.0 ∙ ap (λ w. after_answers w h.adds.answers) c.forget.ensures.waiter, h.adds.heard.1 ∙ c.forget.ensures.sender);
        so = h.adds.so;
      };
    }

pub returns-clause-untaken : goal.returns-clause-untaken
returns-clause-untaken g c pending still =
    let h = c.listen_until_with.ensures.heard.0.adds in
    nothing_said _ _ h.answers (h.heard.0 ∙ ap (λ w. after_answers w h.answers) c.forget.ensures.waiter) pending still
