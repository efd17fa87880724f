use Rattle.std.proofs.Common.{◌≡◌, ◌≤◌, None, length, take, false, sym, ap, subst, ◌∙◌, arith, rules}
use Rattle.std.proofs.lemmas.List.{take_all}
use Rattle.link.specs.Stream.{ended}
use Rattle.journal.specs.Store.{EndsBefore}
use Rattle.journal_scan.proofs.StandingLemmas.{found_from, lost_from}
use Rattle.journal_scan.proofs.scanning.Scan.next_ended.Goals as goal

pub returns-in-Some-clause-found : goal.returns-in-Some-clause-found
returns-in-Some-clause-found g c limit bytes h s =
    let before = c.loop-stretch.invariant.goes limit bytes h s in
    let on = c.in_ok-stretch.ensures.goes limit bytes before.0 in
    found_from g.T.Readable.form limit bytes c.args.self.now.at c.loop-stretch.self.at c.next_read.new.self.at _ _ c.in-Some.is before.1 on.1

pub returns-then-not-branch-clause-found : goal.returns-then-not-branch-clause-found
returns-then-not-branch-clause-found g c limit bytes h s =
    let before = c.loop-stretch.invariant.goes limit bytes h s in
    let on = c.in_ok-stretch.ensures.goes limit bytes before.0 in
    let none = found_from g.T.Readable.form limit bytes c.args.self.now.at c.loop-stretch.self.at c.next_read.new.self.at _ None c.in-None.is before.1 on.1 in
    let nothing : c.in_ok-fill.field-0 ≡ false = search rules in
    let past : length bytes ≤ c.next_read.new.self.at = subst (λ o. EndsBefore o c.next_read.new.self.at) (c.loop-stretch.invariant.held ∙ h) (c.in_ok-fill.ensures.end nothing) in
    let all : take c.next_read.new.self.at bytes ≡ bytes = take_all c.next_read.new.self.at bytes past in
    (omega (arith, past, on.0.within, c.in_ok-fill.ensures.at), sym (ap (ended 0) all) ∙ none)

pub loop-stretch-preserved : goal.loop-stretch-preserved
loop-stretch-preserved g c = record {
  back = omega (arith, c.loop-stretch.invariant.back, c.in_ok-stretch.ensures.back, c.in_ok-fill.ensures.at);
  held = c.in_ok-fill.ensures.held ∙ c.loop-stretch.invariant.held;
  settled = c.in_ok-fill.ensures.settled ∙ c.loop-stretch.invariant.settled;
  quiet = c.in_ok-fill.ensures.quiet ∙ c.loop-stretch.invariant.quiet;
  goes = λ limit bytes h s.
      let before = c.loop-stretch.invariant.goes limit bytes h s in
      let on = c.in_ok-stretch.ensures.goes limit bytes before.0 in
      let none = found_from g.T.Readable.form limit bytes c.args.self.now.at c.loop-stretch.self.at c.next_read.new.self.at _ None c.in-None.is before.1 on.1 in
      (c.in_ok-fill.ensures.stands limit bytes (c.loop-stretch.invariant.held ∙ h) on.0, ap (λ n. ended 0 (take n bytes)) c.in_ok-fill.ensures.at ∙ none);
}

pub returns-in_err-fill-clause-lost_none : goal.returns-in_err-fill-clause-lost_none
returns-in_err-fill-clause-lost_none g c fault limit bytes h s =
    let before = c.loop-stretch.invariant.goes limit bytes h s in
    let on = c.in_ok-stretch.ensures.goes limit bytes before.0 in
    let none = found_from g.T.Readable.form limit bytes c.args.self.now.at c.loop-stretch.self.at c.next_read.new.self.at _ None c.in-None.is before.1 on.1 in
    ap (λ n. ended 0 (take n bytes)) c.fill.ensures.at ∙ none

pub returns-in_err-stretch-clause-lost_one : goal.returns-in_err-stretch-clause-lost_one
returns-in_err-stretch-clause-lost_one g c memory limit bytes h s =
    let before = c.loop-stretch.invariant.goes limit bytes h s in
    lost_from before.1 (c.in_err-stretch.ensures.goes limit bytes before.0).1
