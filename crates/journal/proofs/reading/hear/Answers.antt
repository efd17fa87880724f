use Rattle.std.proofs.Common.{◌≡◌, ◌+◌, ◌<◌, ◌≤◌, [], ◌++◌, length, take, refl, sym, ◌∙◌, ap, subst, append_assoc, arith, rules}
use Rattle.std.proofs.lemmas.List.{append-nil, nil_from_length, length-append, length-take, length-drop}
use Rattle.link.specs.Decoding.{in_array}
use Rattle.link.specs.Lemmas.Lengths.{parts_on}
use Rattle.link.specs.Receivers.{IsBehind}
use Rattle.journal.specs.Reading.{numbering_of, log_reading, IsReadTo}
use Rattle.journal.proofs.HearingLemmas.{read_on, heard_none, handed_more, if_passed, so_far_here}
use Rattle.journal.proofs.reading.hear.Goals as goal

pub loop-rest-init : goal.loop-rest-init
loop-rest-init g c = record { heard = λ first stream answers h. ([], refl, heard_none g.V.Visitor.halts g.met.V.Visitor.laws (log_reading (g.M.MessageReader.judging c.args.messages.now) g.row.N first) _ _ answers _ stream h); so_far = ([], g.met.V.Visitor.laws.nothing _); on = refl }

pub loop-rest-preserved : goal.loop-rest-preserved
loop-rest-preserved g c =
    let rest = c.loop-rest.rest.now in
    let used = c.push_with-used.result.used in
    let fits : used ≤ length rest = c.push_with-used.ensures.within in
    let some : 0 < used = c.push_with-used.ensures.forward (search rules) in
    let later = c.in_ok-count.count in
    let left : length c.split_at.result.1.now + used ≡ length rest = omega (arith, fits, ap length c.split_at.ensures.back ∙ length-drop used rest) in
    let heard_is : later.heard ≡ c.loop-rest.count.heard + used = c.in_ok-count.ensures.heard ∙ c.hear_on.ensures.heard in
    record {
      heard = λ first stream answers h. (
          let k = c.loop-rest.invariant.heard first stream answers h in
          let step =
          read_on (log_reading (g.M.MessageReader.judging c.args.messages.now) g.row.N first) (stream ++ k.0) rest used g.V.Visitor.halts g.met.V.Visitor.laws answers k.2.more (numbering_of c.hear_on.result) (numbering_of later) c.push_with-used.result.stretch c.hear_on.result.heard
          c.push_with-used.result.answer _ _ _ k.2.handed (subst (λ n. IsReadTo (log_reading (g.M.MessageReader.judging c.args.messages.now) g.row.N first) (answers ++ k.2.more) n (stream ++ k.0)) (sym c.hear_on.ensures.numbers) k.2.hears.read)
          (c.push_with-used.ensures.answers _ 0 (stream ++ k.0) k.2.hears.after) (c.push_with-used.ensures.stretch _ 0 (stream ++ k.0) k.2.hears.after) some fits (c.hear_on.ensures.heard ∙ ap (λ n. n + used) k.2.hears.heard)
          c.in_ok-count.ensures.on in (
            k.0 ++ take used rest,
            parts_on c.args.piece.now k.0 rest used k.1 ∙ ap (λ x. (k.0 ++ take used rest) ++ x) (sym c.split_at.ensures.back),
            record {
              more = step.0;
              handed = step.1;
              hears = record {
                after = subst (λ x. IsBehind in_array g.row.N 0 c.push_with-used.new.self x) (append_assoc stream k.0 (take used rest)) (c.push_with-used.ensures.stands _ 0 (stream ++ k.0) k.2.hears.after);
                read = rw (sym (append_assoc stream k.0 (take used rest))) step.2;
                heard =
                    let long = length-append (stream ++ k.0) (take used rest) in
                    let all = ap length (append_assoc stream k.0 (take used rest)) in
                    let part = length-take used rest in
                    omega (arith, heard_is, k.2.hears.heard, long, all, part, fits);
              };
            },
          ));
      so_far =
          let so_far = c.loop-rest.invariant.so_far in
          handed_more g.V.Visitor.halts g.met.V.Visitor.laws c.push_with-used.result.answer _ _ _ _ _ _ _ so_far.0 so_far.1 c.in_ok-count.ensures.on;
      on = omega (arith, heard_is, left, c.loop-rest.invariant.on);
    }

pub returns-clause-heard : goal.returns-clause-heard
returns-clause-heard g c first stream answers h =
    let k = c.loop-rest.invariant.heard first stream answers h in
    let none : c.loop-rest.rest.now ≡ [] = nil_from_length c.loop-rest.rest.now (search rules) in
    rw (k.1 ∙ ap (λ x. k.0 ++ x) none ∙ append-nil k.0) k.2

pub returns-in_err-count-clause-so_far : goal.returns-in_err-count-clause-so_far
returns-in_err-count-clause-so_far g c =
    if_passed c.from_residual.result c.in_err-count.field-0.0 _ c.from_residual.ensures.1
    (λ first stream answers h.
    let k = c.loop-rest.invariant.heard first stream answers h in
    let P : g.row.V.Denot → Type 0 = g.V.Visitor.took c.args.visitor.now k.2.more in
    record {
      done = k.0;
      rest = c.loop-rest.rest.now;
      piece_is = k.1;
      receiver = c.loop-rest.receiver;
      count = c.loop-rest.count;
      more = k.2.more;
      handed = so_far_here P P g.V.Visitor.halts _ _ c.in_err-count.field-0.0 c.in_err-count.ensures.so_far k.2.handed;
      hears = k.2.hears;
      used = c.push_with-used.result.used;
      some = c.push_with-used.ensures.forward (search rules);
      within = c.push_with-used.ensures.within;
      result = c.push_with-used.result.answer;
      answered = c.push_with-used.ensures.answers _ 0 (stream ++ k.0) k.2.hears.after;
      stretch = c.push_with-used.result.stretch;
      stretch_is = c.push_with-used.ensures.stretch _ 0 (stream ++ k.0) k.2.hears.after;
      stopped = c.in_err-count.ensures.stopped;
    })
