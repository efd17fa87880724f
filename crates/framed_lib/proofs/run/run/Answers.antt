use Rattle.link.specs.Each.{HasReadNow}
use Rattle.framed_lib.specs.Output.{WritingByFew}
use Rattle.framed_lib.specs.Program.{unpacking}
use Rattle.framed_lib.proofs.RunLemmas.{ends}
use Rattle.framed_lib.proofs.run.run.Goals as goal

pub returns-clause-ends : goal.returns-clause-ends
returns-clause-ends g c =
    let faults = g.E.Outlet.line in
    ends (unpacking c.args.mode) c.args.hex c.args.sentinel
    (HasReadNow (g.R.Inlet.line c.args.reader) (g.R.Inlet.line c.work-writer.new.reader))
    (WritingByFew (g.W.Outlet.line c.args.writer) (g.W.Outlet.line c.work-writer.result.0))
    (faults c.args.faults) (faults c.work-writer.new.faults) (faults c.report-status.new.faults)
    c.work-writer.result.1 c.report-status.result c.work-writer.ensures.worked c.report-status.ensures

pub returns-clause-live : goal.returns-clause-live
returns-clause-live g c = c.work-writer.ensures.live
