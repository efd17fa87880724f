use Rattle.std.proofs.Common.{None, refl, ◌∙◌, rules}
use Rattle.journal_scan.proofs.StandingLemmas.{found_from}
use Rattle.journal_scan.proofs.scanning.Scan.next_read.Goals as goal

pub push-requires-clause-within : goal.push-requires-clause-within
push-requires-clause-within g c = c.skip_zeros.ensures.past ∙ search rules

pub returns-in-Some-clause-goes : goal.returns-in-Some-clause-goes
returns-in-Some-clause-goes g c limit bytes s =
    let after = c.skip_zeros.ensures.stands limit bytes s in
    let on = c.in_ok-stretch.ensures.goes limit bytes after.0 in
    (on.0, found_from g.T.Readable.form limit bytes c.args.self.now.at c.skip_zeros.new.self.at c.push.new.self.at _ _ c.in-Some.is after.1 on.1)

pub returns-then-self-2-clause-goes : goal.returns-then-self-2-clause-goes
returns-then-self-2-clause-goes g c limit bytes s =
    let after = c.skip_zeros.ensures.stands limit bytes s in
    let on = c.in_ok-stretch.ensures.goes limit bytes after.0 in
    let none = found_from g.T.Readable.form limit bytes c.args.self.now.at c.skip_zeros.new.self.at c.push.new.self.at _ None c.in-None.is after.1 on.1 in
    let passed = c.pass-then-self-2.ensures.stands limit bytes on.0 in
    (passed.0, found_from g.T.Readable.form limit bytes c.args.self.now.at c.push.new.self.at c.pass-then-self-2.new.self.at _ _ refl none passed.1)

pub returns-else-self-2-clause-goes : goal.returns-else-self-2-clause-goes
returns-else-self-2-clause-goes g c limit bytes s =
    let after = c.skip_zeros.ensures.stands limit bytes s in
    let on = c.in_ok-stretch.ensures.goes limit bytes after.0 in
    (on.0, found_from g.T.Readable.form limit bytes c.args.self.now.at c.skip_zeros.new.self.at c.push.new.self.at _ _ c.in-None.is after.1 on.1)
