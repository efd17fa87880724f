use Rattle.std.proofs.Common.{◌≡◌, ℕ, List, [], ◌++◌, Bor, ap, sym, ◌∙◌, subst, append-nil}
use Rattle.std.proofs.lemmas.List.{nil_from_length}
use Rattle.postcard.specs.Frames.{Holds}
use Rattle.link.specs.Listening.{HasAnswered}
use Rattle.link_codec.specs.Decoders.{IsGiven}
use Rattle.link_codec.specs.Whole.{answers_of}
use Rattle.tokio_util.proofs.CodecLemmas.Whole.{slice_end_is_final}
use Rattle.link_codec.proofs.FirstLemmas.{yields_front}
use Rattle.link_codec.proofs.caller.answers_at_once.Goals as goal

pub returns-in_ok-items-in-Some : goal.returns-in_ok-items-in-Some
returns-in_ok-items-in-Some g c =
    let some = rw c.in-Some.is at c.in_ok-items.ensures in
    let collected = rw (c.in_ok-items-in-Some.was, c.collect.ensures.0, c.collect.ensures.1) at some in
    let start = c.in_ok-answers.ensures in
    record {
      all = rw collected.2 (λ oks.
          let whole = c.answered_whole.ensures c.args.limit c.args.sentinel collected.0 slice_end_is_final (record { reading = start.3; none = start.2; given = subst (λ d. IsGiven c.args.limit c.args.sentinel d []) (sym start.1) c.in-Ok.ensures }) oks collected.1 in
          let bytes : whole.0 ≡ c.args.stream.now =
          sym (ap (λ (s : Bor (List ℕ)). s.now) (sym start.0) ∙ whole.2 ∙ ap (λ zs. whole.0 ++ zs) (nil_from_length _ whole.3) ∙ append-nil whole.0) in
          subst (λ zs. HasAnswered (Holds g.T.Readable.form.takes) g.T.Readable.form.reads c.args.limit c.args.sentinel (answers_of collected.0) zs) bytes whole.4);
      so_far = rw collected.2 (λ front behind e oks.
          let first = yields_front _ _ _ _ collected.1 front behind e in
          let heard = c.answered_so_far.ensures c.args.limit c.args.sentinel front first.0 slice_end_is_final (record { reading = start.3; none = start.2; given = subst (λ d. IsGiven c.args.limit c.args.sentinel d []) (sym start.1) c.in-Ok.ensures }) oks first.1 in
          (heard.0, heard.1.now, ap (λ (s : Bor (List ℕ)). s.now) (sym start.0) ∙ heard.2, heard.3));
    }
