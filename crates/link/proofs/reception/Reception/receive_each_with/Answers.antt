use Rattle.std.proofs.Common.{◌++◌, subst, append_assoc}
use Rattle.link.specs.Listening.{IsKeptDue}
use Rattle.link.proofs.FirstLemmas.{received, lost_value, early_of}
use Rattle.link.proofs.HandingLemmas.{stands_by, still_asked}
use Rattle.link.proofs.reception.Reception.receive_each_with.Goals as goal

pub returns-in-Some-clause-received : goal.returns-in-Some-clause-received
returns-in-Some-clause-received g c =
    let h = c.in-Some.ensures.heard.0 in
    let q = c.conclude_each.ensures.handed in
    let judging = g.M.MessageReader.judging c.args.messages.now in
    let asked = still_asked g.D.Decoding.inside judging g.H.Hearer.hears g.H.Hearer.enough g.H.Hearer.settled _ _ _ _ _ _ g.H.Hearer.laws c.in-Some.end _ h.adds.answers h.bytes q.answers c.in-Some.ensures.heard.1 q.heard in record {
      bytes = h.bytes;
      read = h.read;
      few = h.few;
      hands = record {
        answers = h.adds.answers ++ q.answers;
        heard = g.H.Hearer.laws.more _ _ _ h.adds.answers q.answers h.adds.heard q.heard;
        so = λ limit s stream given had.
            let bytes = stream ++ h.bytes in
            let heard = h.adds.so limit s stream given had in
            let kept = subst (λ xs. IsKeptDue judging.holds judging.reads limit s c.in-Some.end xs bytes) (append_assoc given h.adds.answers q.answers) (q.so limit s bytes (given ++ h.adds.answers) heard) in (
              received judging.holds judging.reads limit s c.in-Some.end _ bytes (early_of g.D.Decoding.inside judging g.H.Hearer.hears g.H.Hearer.enough g.H.Hearer.settled _ _ _ _ _ _ _ _ h.bytes limit s stream given had asked) kept,
              stands_by g.D.Decoding.inside judging.holds judging.reads limit s c.in-Some.end _ _ bytes heard,
              lost_value judging.holds judging.reads limit s c.in-Some.end _ bytes kept,
            );
      };
      asked = asked;
    }

pub returns-in-None-clause-received : goal.returns-in-None-clause-received
returns-in-None-clause-received g c =
    let h = c.in-None.ensures.heard.0 in record {
      bytes = h.bytes;
      read = h.read;
      few = h.few;
      hands = record {
        answers = h.adds.answers;
        heard = h.adds.heard;
        so = λ limit s stream given had. let heard = h.adds.so limit s stream given had in (heard.given, heard.after, λ e. cc);
      };
      asked = c.in-None.ensures.heard.1;
    }
