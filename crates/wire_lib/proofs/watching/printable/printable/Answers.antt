use Rattle.std.proofs.Common.{◌≡◌, take, sym, subst, rules}
use Rattle.wire_lib.specs.Printable.{ArePrintable, shown_text}
use Rattle.wire_lib.proofs.PrintableLemmas.{cut_printable}
use Rattle.wire_lib.proofs.watching.printable.printable.Goals as goal

pub returns-clause-printable : goal.returns-clause-printable
returns-clause-printable c =
    let is : c.truncate.new.self.items ≡ take c.args.columns (shown_text c.args.text.now) = search rules in
    subst ArePrintable (sym is) (cut_printable c.args.columns c.args.text.now)
