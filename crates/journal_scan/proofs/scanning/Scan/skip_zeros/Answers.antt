use Rattle.std.proofs.Common.{◌≡◌, ◌+◌, ◌<◌, ◌∷◌, length, take, drop, get_or, sym, ap, ◌∙◌, arith, rules}
use Rattle.std.proofs.lemmas.List.{drop_more, get_or-take}
use Rattle.journal_scan.proofs.StandingLemmas.{stands_zero}
use Rattle.journal_scan.proofs.scanning.Scan.skip_zeros.Goals as goal

pub loop-self-preserved : goal.loop-self-preserved
loop-self-preserved c = record {
  past = c.loop-self.invariant.past;
  begin = omega arith;
  back = omega (arith, c.loop-self.invariant.back);
  stands = λ limit bytes s.
      let old = c.loop-self.invariant.stands limit bytes s in
      let me = c.loop-self.self in
      let room = take me.end me.room.items in
      let inside : me.start < length room = search rules in
      let b = c.index.result.now in
      let byte : get_or room me.start b ≡ 0 = get_or-take me.end me.room.items me.start b (omega arith) ∙ sym c.index.ensures ∙ c.if-index-eq0.true in
      let next = stands_zero old.0 (drop (me.start + 1) room) (omega (arith, c.loop-self.invariant.begin, old.0.from_is)) (drop_more room me.start b inside ∙ ap (λ x. x ∷ drop (me.start + 1) room) byte) in
      (next.0, next.1 ∙ old.1);
}
