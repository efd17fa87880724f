use Rattle.std.proofs.Common.{length, inr, arith}
use Rattle.spans.specs.Span.{ahead_of}
use Rattle.postcard_de.proofs.FillingLemmas.{gave_filled, less_came, no_room_for, one_byte}
use Rattle.postcard_de.proofs.de_flavors.io.IOReaderFlavor.pop.Goals as goal

pub returns-then-self-eq0-clause-reads : goal.returns-then-self-eq0-clause-reads
returns-then-self-eq0-clause-reads g c =
    let s = c.args.self.now in
    no_room_for (g.R.Read.remaining s.reader) s.failed (length (ahead_of s.buffer.span)) s.limit 1 (inr (omega arith))

pub returns-then-not-fill-clause-reads : goal.returns-then-not-fill-clause-reads
returns-then-not-fill-clause-reads g c =
    let s = c.args.self.now in
    let room = length (ahead_of s.buffer.span) in
    let one = c.fill.auto.buf in
    less_came _ _ s.failed c.fill.new.failed room room s.limit 1 (length c.fill.new.buf) (c.fill.ensures.short c.if-not-fill.true) one (omega arith) (omega arith)

pub returns-clause-reads : goal.returns-clause-reads
returns-clause-reads g c =
    let s = c.args.self.now in
    let room = length (ahead_of s.buffer.span) in
    let one = c.fill.auto.buf in
    record {
      taken = c.fill.new.buf;
      gave = gave_filled _ _ s.failed c.fill.new.failed c.fill.new.buf room room s.limit 1 (c.fill.ensures.full c.if-not-fill.false) one (omega arith) (omega arith) (omega arith);
      found = one_byte c.fill.new.buf one;
    }
