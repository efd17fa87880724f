use Rattle.std.proofs.Common.{◌≡◌, ◌+◌, ◌<◌, ◌∷◌, length, take, drop, get_or, sym, ap, ◌∙◌, arith, rules}
use Rattle.std.proofs.lemmas.List.{drop_more, get_or-take}
use Rattle.journal_scan.proofs.StandingLemmas.{stands_past, stands_passed, next_from}
use Rattle.journal_scan.proofs.scanning.Scan.pass.Goals as goal

pub loop-self-preserved : goal.loop-self-preserved
loop-self-preserved g c = record {
  past = c.loop-self.invariant.past;
  from = c.loop-self.invariant.from;
  back = omega (arith, c.loop-self.invariant.back);
  stands = λ limit bytes s.
      let old = c.loop-self.invariant.stands limit bytes s in
      let me = c.loop-self.self in
      let room = take me.end me.room.items in
      let inside : me.start < length room = search rules in
      let b = c.index-byte.result.now in
      let byte : get_or room me.start b ≡ b = get_or-take me.end me.room.items me.start b (omega arith) ∙ sym c.index-byte.ensures in
      let next = stands_past old.0 b (drop (me.start + 1) room) c.loop-self.invariant.past (search rules) (drop_more room me.start b inside ∙ ap (λ x. x ∷ drop (me.start + 1) room) byte) in
      (next.0, next.1 ∙ old.1);
}

pub returns-then-byte-eq0 : goal.returns-then-byte-eq0
returns-then-byte-eq0 g c = record {
  back = omega (arith, c.loop-self.invariant.back);
  on = omega (arith, c.loop-self.invariant.back);
  stands = λ limit bytes s.
      let old = c.loop-self.invariant.stands limit bytes s in
      let me = c.loop-self.self in
      let room = take me.end me.room.items in
      let inside : me.start < length room = search rules in
      let b = c.index-byte.result.now in
      let byte : get_or room me.start b ≡ 0 = get_or-take me.end me.room.items me.start b (omega arith) ∙ sym c.index-byte.ensures ∙ c.if-byte-eq0.true in
      let next = stands_passed old.0 g.T.Readable.form c.restart.new.self (drop (me.start + 1) room) c.loop-self.invariant.past (drop_more room me.start b inside ∙ ap (λ x. x ∷ drop (me.start + 1) room) byte) (c.restart.ensures.anew limit 0 (take me.at bytes) old.0.behind) in
      (next.0, next_from old.1 next.1);
}
