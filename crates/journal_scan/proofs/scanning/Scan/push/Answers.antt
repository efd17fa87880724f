use Rattle.std.proofs.Common.{◌≡◌, ◌+◌, ◌<◌, length, take, drop, sym, ◌∙◌, subst, rules}
use Rattle.journal_scan.specs.Scanning.{ScanStands}
use Rattle.journal_scan.proofs.StandingLemmas.{stands_later, stands_by}
use Rattle.journal_scan.proofs.scanning.Scan.push.Goals as goal

pub returns-in-Err-clause-goes : goal.returns-in-Err-clause-goes
returns-in-Err-clause-goes g c limit bytes s =
    let me = c.args.self.now in
    let room = take me.end me.room.items in
    let piece = c.split_at-2.result.1.now in
    let same : piece ≡ drop me.start room = search rules in
    let some : 0 < length piece = search rules in
    let p = c.push_strict-used in
    let h = stands_later g.T.Readable.form room me.start p.result.used p.new.self s c.requires.within c.requires.first piece same (p.ensures.forward some) p.ensures.within
    (λ stream k. p.ensures.stands limit 0 stream k) p.result.answer (λ stream k. p.ensures.answers limit 0 stream k) _ c.in-Err.is in
    (subst (λ b. ScanStands limit p.new.self (me.at + p.result.used) (me.at + p.result.used) b (drop (me.start + p.result.used) room) bytes) (sym c.requires.within) h.0, h.1)

pub returns-in-Some-clause-goes : goal.returns-in-Some-clause-goes
returns-in-Some-clause-goes g c limit bytes s =
    let me = c.args.self.now in
    let room = take me.end me.room.items in
    let piece = c.split_at-2.result.1.now in
    let same : piece ≡ drop me.start room = search rules in
    let some : 0 < length piece = search rules in
    let p = c.push_strict-used in
    let h = stands_later g.T.Readable.form room me.start p.result.used p.new.self s c.requires.within c.requires.first piece same (p.ensures.forward some) p.ensures.within
    (λ stream k. p.ensures.stands limit 0 stream k) p.result.answer (λ stream k. p.ensures.answers limit 0 stream k) _ c.in-Ok.is in
    stands_by g.T.Readable.form limit me.at me.from p.result.used p.new.self (drop (me.start + p.result.used) room) bytes c.in-Ok.answer c.is_too_long-self.result _ c.is_too_long-self.ensures
    (sym c.stretch_of.ensures ∙ c.in-Some.is) h

pub returns-in-None-clause-goes : goal.returns-in-None-clause-goes
returns-in-None-clause-goes g c limit bytes s =
    let me = c.args.self.now in
    let room = take me.end me.room.items in
    let piece = c.split_at-2.result.1.now in
    let same : piece ≡ drop me.start room = search rules in
    let some : 0 < length piece = search rules in
    let p = c.push_strict-used in
    let h = stands_later g.T.Readable.form room me.start p.result.used p.new.self s c.requires.within c.requires.first piece same (p.ensures.forward some) p.ensures.within
    (λ stream k. p.ensures.stands limit 0 stream k) p.result.answer (λ stream k. p.ensures.answers limit 0 stream k) _ c.in-Ok.is in
    stands_by g.T.Readable.form limit me.at me.from p.result.used p.new.self (drop (me.start + p.result.used) room) bytes c.in-Ok.answer c.is_too_long-self.result _ c.is_too_long-self.ensures
    (sym c.stretch_of.ensures ∙ c.in-None.is) h
