use Rattle.std.proofs.Common.{◌++◌, [], Some, false, refl, inl}
use Rattle.line_io.specs.Transfers.{HasRead}
use Rattle.line_io.specs.declared.transfers.End.TheVariants.{Ended, NoMemory}
use Rattle.link.specs.Run.{session_line}
use Rattle.framed_lib.specs.Output.{few-none}
use Rattle.framed_lib.specs.Program.{framed_text}
use Rattle.framed_lib.specs.Sending.{refusals}
use Rattle.framed_lib.proofs.WorkLemmas.{carried, read-whole, read-front, text-few, front-few}
use Rattle.framed_lib.proofs.pack.pack.Goals as goal

pub returns-in-NoMemory-clause-worked : goal.returns-in-NoMemory-clause-worked
returns-in-NoMemory-clause-worked g c =
    let line = g.R.Inlet.line in
    let reading = HasRead (line c.args.reader.now) (line c.read_to_end.new.inlet) NoMemory in
    let m = c.in-NoMemory.ensures.memory refl in
    let lost = read-front reading c.new-text.ensures.items (m.0, m.1, m.2, m.3) m.4.0 in
    carried (Some NoMemory) (c.read_to_end.new.bytes.items ++ lost.0) [] [] (refl, refl, lost.2) lost.1
    (few-none _) (few-none _)

pub returns-in_default-clause-worked : goal.returns-in_default-clause-worked
returns-in_default-clause-worked g c =
    let sent = (rw c.deref-2.ensures.value at c.in-Ok.ensures.ok) in
    let broke = (rw c.deref-3.ensures.value at c.in_default.ensures.err) in
    carried (Some Ended) c.read_to_end.new.bytes.items
    (framed_text c.args.hex (session_line c.args.sentinel false sent.0)) (refusals 1 sent.0) (
      λ x. cc,
      inl (
        _,
        record {
          sends = sent.0;
          are = sent.1;
          out_is = refl;
          said_is = refl;
          status_is = refl;
        },
      ),
    )
    (read-whole c.new-text.ensures.items (c.in-Ended.ensures.ended refl))
    (broke sent.0 sent.1) sent.3

pub returns-in-ReadFault-clause-calls : goal.returns-in-ReadFault-clause-calls
returns-in-ReadFault-clause-calls g c =
    let h = c.in-ReadFault.ensures.failed refl in
    text-few _ _ _ _ h.0 h.1 h.2.0 c.read_to_end.ensures.few

pub returns-in-NoMemory-clause-calls : goal.returns-in-NoMemory-clause-calls
returns-in-NoMemory-clause-calls g c =
    let m = c.in-NoMemory.ensures.memory refl in
    front-few _ _ _ _ m.0 m.1 m.2 m.3.0 c.read_to_end.ensures.few

pub returns-in-Err-clause-calls : goal.returns-in-Err-clause-calls
returns-in-Err-clause-calls g c =
    let h = c.in-Ended.ensures.ended refl in
    text-few _ _ _ _ h.0 h.1 h.2.0 c.read_to_end.ensures.few

pub returns-in_default-clause-calls : goal.returns-in_default-clause-calls
returns-in_default-clause-calls g c =
    let h = c.in-Ended.ensures.ended refl in
    text-few _ _ _ _ h.0 h.1 h.2.0 c.read_to_end.ensures.few

pub returns-clause-calls : goal.returns-clause-calls
returns-clause-calls g c =
    let h = c.in-Ended.ensures.ended refl in
    text-few _ _ _ _ h.0 h.1 h.2.0 c.read_to_end.ensures.few
