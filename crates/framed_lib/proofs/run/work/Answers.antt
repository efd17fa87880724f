use Rattle.std.proofs.Common.{subst}
use Rattle.framed_lib.specs.Live.{AnswersLive}
use Rattle.framed_lib.proofs.LiveLemmas.{some_is}
use Rattle.framed_lib.proofs.run.work.Goals as goal

pub returns-in-Pack-clause-worked : goal.returns-in-Pack-clause-worked
returns-in-Pack-clause-worked g c = rw c.in-Pack.is c.pack-worked.ensures.worked

pub returns-in-Pack-clause-live : goal.returns-in-Pack-clause-live
returns-in-Pack-clause-live g c = rw c.in-Pack.is (λ strict e h. cc)

pub returns-in-Unpack-clause-worked : goal.returns-in-Unpack-clause-worked
returns-in-Unpack-clause-worked g c = rw c.in-Unpack.is c.unpack.ensures.worked

pub returns-in-Unpack-clause-live : goal.returns-in-Unpack-clause-live
returns-in-Unpack-clause-live g c = rw c.in-Unpack.is (λ strict e h. subst (λ s. AnswersLive g.W.Outlet.line s c.args.sentinel (g.R.Inlet.line c.args.reader.now, c.args.writer) (g.R.Inlet.line c.unpack.new.reader, c.unpack.result.0)) (some_is e) (c.unpack.ensures.live h))

pub returns-in-Strict-clause-worked : goal.returns-in-Strict-clause-worked
returns-in-Strict-clause-worked g c = rw c.in-Strict.is c.unpack-in-Strict.ensures.worked

pub returns-in-Strict-clause-live : goal.returns-in-Strict-clause-live
returns-in-Strict-clause-live g c = rw c.in-Strict.is (λ strict e h. subst (λ s. AnswersLive g.W.Outlet.line s c.args.sentinel (g.R.Inlet.line c.args.reader.now, c.args.writer) (g.R.Inlet.line c.unpack-in-Strict.new.reader, c.unpack-in-Strict.result.0)) (some_is e) (c.unpack-in-Strict.ensures.live h))
