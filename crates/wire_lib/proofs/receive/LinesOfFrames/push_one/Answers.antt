use Rattle.std.proofs.Common.{ℕ, List, ◌-◌, ◌&&◌, [], ◌∷◌, ◌++◌, take, Ok, Some, None, refl, sym, ap, subst, ◌∙◌, arith}
use Rattle.std.proofs.lemmas.List.{append-nil, length-append, length-take-le}
use Rattle.link.specs.Decoding.{in_owner}
use Rattle.link.specs.Pushes.{Answered, IsStretchOf}
use Rattle.link.specs.Lemmas.Givens.{heard_behind}
use Rattle.link.specs.declared.receiver.Answer.{Answer}
use Rattle.schema_table.specs.declared.value.Value.{Value}
use Rattle.wire_lib.specs.Said.{SaysLine, end_said, known_to}
use Rattle.wire_lib.specs.Received.{HasGot, HasStopped, held_by, read_by, reading_of}
use Rattle.wire_lib.proofs.ToldLemmas.{good_still, one_good}
use Rattle.wire_lib.proofs.LineLemmas.{least_of, tells_none, told_by_push}
use Rattle.wire_lib.proofs.SentLemmas.{at_error}
use Rattle.wire_lib.proofs.receive.LinesOfFrames.push_one.Goals as goal

pub returns-in-Err-clause-stopped : goal.returns-in-Err-clause-stopped
returns-in-Err-clause-stopped g passed stream answers h =
    let r = g.args.self.now in
    let p = g.push_next-used in
    let rest = g.args.rest.now in
    let used = p.result.used in
    let s = r.reading.sentinel in record {
      given = h.given;
      used = used;
      least = least_of (held_by r.reading) (read_by r.reading) 65536 s stream rest used p.result.answer
          (p.ensures.answers 65536 s stream h.come.after);
      come = record {
        after = p.ensures.stands 65536 s stream h.come.after;
        came = omega (
          arith,
          h.come.came,
          p.ensures.within,
          length-append stream (take used rest),
          length-take-le used rest p.ensures.within,
        );
      };
      lost = refl;
    }

pub returns-in_err-say-in-Ok-Some-clause-stopped : goal.returns-in_err-say-in-Ok-Some-clause-stopped
returns-in_err-say-in-Ok-Some-clause-stopped g =
    let r = g.args.self.now in
    let p = g.push_next-used in
    let rest = g.args.rest.now in
    let used = p.result.used in
    let s = r.reading.sentinel in
    let stopped : (passed : ℕ) (stream : List ℕ) (answers : List (Answer Value)) → HasGot r passed stream answers
    → HasStopped g.say.new.self passed stream rest answers =
    (λ passed stream answers h.
    subst (λ x. HasStopped x passed stream rest answers) (sym g.say.ensures.same) (record {
      given = h.given;
      used = used;
      least = least_of (held_by r.reading) (read_by r.reading) 65536 s stream rest used p.result.answer
          (p.ensures.answers 65536 s stream h.come.after);
      come = record {
        after = p.ensures.stands 65536 s stream h.come.after;
        came = omega (
          arith,
          h.come.came,
          p.ensures.within,
          length-append stream (take used rest),
          length-take-le used rest p.ensures.within,
        );
      };
      lost = refl;
    })) in
    at_error _ stopped

pub returns-in-Ok-None-clause-told : goal.returns-in-Ok-None-clause-told
returns-in-Ok-None-clause-told g passed stream answers h =
    let r = g.args.self.now in
    let p = g.push_next-used in
    let rest = g.args.rest.now in
    let holds = held_by r.reading in
    let reads = read_by r.reading in
    let s = r.reading.sentinel in
    let answered = subst (λ a. Answered holds reads 65536 s stream rest p.result.used a)
    (g.in-Ok-None.is ∙ ap Ok g.in-Ok-None.field-0-is)
    (p.ensures.answers 65536 s stream h.come.after) in
    let heard = heard_behind holds reads 65536 s stream rest answers (answers ++ []) p.result.used
    in_owner r.receiver p.new.receiver (Ok None) (record { given = h.given; after = h.come.after })
    (p.ensures.stands 65536 s stream h.come.after) answered (append-nil answers) in (
      [],
      record {
        given = heard.given;
        come = record {
          after = heard.after;
          came = omega (
            arith,
            h.come.came,
            p.ensures.within,
            length-append stream
                (take p.result.used rest),
            length-take-le p.result.used rest p.ensures.within,
          );
        };
      },
      good_still r.is_good,
      tells_none (reading_of r) passed (stream ++ rest) answers g.args.lines.now.items,
    )

pub returns-in_ok-say-in-Ok-Some-clause-told : goal.returns-in_ok-say-in-Ok-Some-clause-told
returns-in_ok-say-in-Ok-Some-clause-told g passed stream answers h =
    let r = g.args.self.now in
    let p = g.push_next-used in
    let rest = g.args.rest.now in
    let used = p.result.used in
    let a = g.in-Ok-Some.answer in
    let holds = held_by r.reading in
    let reads = read_by r.reading in
    let s = r.reading.sentinel in
    let answered = subst (λ x. Answered holds reads 65536 s stream rest used x)
    (g.in-Ok-Some.is ∙ ap Ok g.in-Ok-Some.field-0-is)
    (p.ensures.answers 65536 s stream h.come.after) in
    let size = subst (λ x. IsStretchOf s stream rest used x p.result.stretch)
    (g.in-Ok-Some.is ∙ ap Ok g.in-Ok-Some.field-0-is)
    (p.ensures.stretch 65536 s stream h.come.after) in
    let heard = heard_behind holds reads 65536 s stream rest answers (answers ++ a ∷ []) used
    in_owner r.receiver p.new.receiver (Ok (Some a)) (record { given = h.given; after = h.come.after })
    (p.ensures.stands 65536 s stream h.come.after) answered refl in
    let at = g.saturating_add-self.result in
    let says = subst (λ x. SaysLine r.reading a (at - 1 - p.result.stretch)
    (end_said a (at - 1) (known_to at s x)) g.args.lines.now.items g.say.new.lines.items)
    g.split_at.ensures.back g.in_ok-say-in-Ok-Some.ensures.line in (
      a ∷ [],
      subst (λ x. HasGot (record x { is_good = r.is_good && g.is_value.result }) passed (stream ++ take used rest) (answers ++ a ∷ []))
          (sym g.say.ensures.same) (record {
            given = heard.given;
            come = record {
              after = heard.after;
              came = omega (
                arith,
                h.come.came,
                p.ensures.within,
                length-append stream (take used rest),
                length-take-le used rest p.ensures.within,
              );
            };
          }),
      ap (λ x. r.is_good && x) (g.is_value.ensures ∙ sym (one_good a)),
      told_by_push r.reading passed r.at at stream rest answers a used p.result.stretch
          g.args.lines.now.items g.say.new.lines.items h.given heard.given answered size
          p.ensures.within h.come.came g.saturating_add-self.ensures says,
    )
