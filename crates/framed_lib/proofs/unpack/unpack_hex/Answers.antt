use Rattle.std.proofs.Common.{◌≡◌, ◌++◌, [], Some, false, true, length, refl, ap, ◌∙◌, inr, arith}
use Rattle.line_io.specs.Transfers.{HasRead}
use Rattle.line_io.specs.declared.transfers.End.TheVariants.{Ended, NoMemory}
use Rattle.link.specs.Each.{HasReadNow}
use Rattle.framed_lib.specs.Output.{WritingByFew, few-ok, few-err, few-none}
use Rattle.framed_lib.specs.Program.{bad_hex}
use Rattle.framed_lib.proofs.WorkLemmas.{carried, digits-worked, ends-whole, read-whole, read-front, text-few, front-few}
use Rattle.framed_lib.proofs.unpack.unpack_hex.Goals as goal

pub returns-in-NoMemory-clause-worked : goal.returns-in-NoMemory-clause-worked
returns-in-NoMemory-clause-worked g c =
    let line = g.R.Inlet.line in
    let reading = HasRead (line c.args.reader.now) (line c.read_to_end.new.inlet) NoMemory in
    let m = c.in-NoMemory.ensures.memory refl in
    let lost = read-front reading c.new-text.ensures.items (m.0, m.1, m.2, m.3) m.4.0 in
    carried (Some NoMemory) (c.read_to_end.new.bytes.items ++ lost.0) [] [] (refl, refl, lost.2) lost.1
    (few-none _) (few-none _)

pub returns-in_default-clause-worked : goal.returns-in_default-clause-worked
returns-in_default-clause-worked g c =
    carried (Some Ended) c.read_to_end.new.bytes.items [] bad_hex
    (refl, refl, (c.if-not-decode_hex.ensures.bad refl, refl))
    (read-whole c.new-text.ensures.items (c.in-Ended.ensures.ended refl))
    (few-none _) (few-err _ c.in_default.ensures)

pub returns-then-not-decode_hex-clause-worked : goal.returns-then-not-decode_hex-clause-worked
returns-then-not-decode_hex-clause-worked g c =
    let bad = c.if-not-decode_hex.ensures.bad refl in
    carried (Some Ended) c.read_to_end.new.bytes.items [] bad_hex
    (refl, inr (record { not_hex = bad; out_is = refl; said_is = refl; status_is = refl }))
    (read-whole c.new-text.ensures.items (c.in-Ended.ensures.ended refl))
    (few-none _) (few-ok _ c.in-Ok.ensures)

pub returns-clause-worked : goal.returns-clause-worked
returns-clause-worked g c =
    let t = c.tell_answers-told.ensures in
    let told = c.tell_answers-told.result in
    let device = c.new-device.result in
    let same : device.rest.now ≡ c.deref.result.now = (let k = c.new-device.ensures.told in cc) in
    let read =
    ends-whole device.rest.now _ t.told.0 device.calls _
    (omega (arith, c.new-device.ensures.calls, ap length same)) told.end
    (λ none. (let no : false ≡ true = (t.stopped none).0 in cc)) t.few t.told.1 in
    rw c.outcome.ensures
    (digits-worked c.args.strict c.args.sentinel c.read_to_end.new.bytes.items
    (HasReadNow (g.R.Inlet.line c.args.reader.now) (g.R.Inlet.line c.read_to_end.new.inlet))
    (WritingByFew (g.W.Outlet.line c.args.writer) (g.W.Outlet.line told.writer))
    (WritingByFew (g.E.Outlet.line c.args.faults.now) (g.E.Outlet.line c.args.faults.now))
    told.good (few-none _) c.decode_hex.new.text.items (c.if-not-decode_hex.ensures.ok refl)
    (read-whole c.new-text.ensures.items (c.in-Ended.ensures.ended refl))
    told.end t.told.0 told.written
    (rw (same ∙ c.deref.ensures.value) at read) t.told.2)

pub returns-in-ReadFault-clause-calls : goal.returns-in-ReadFault-clause-calls
returns-in-ReadFault-clause-calls g c =
    let h = c.in-ReadFault.ensures.failed refl in
    text-few _ _ _ _ h.0 h.1 h.2.0 c.read_to_end.ensures.few

pub returns-in-NoMemory-clause-calls : goal.returns-in-NoMemory-clause-calls
returns-in-NoMemory-clause-calls g c =
    let m = c.in-NoMemory.ensures.memory refl in
    front-few _ _ _ _ m.0 m.1 m.2 m.3.0 c.read_to_end.ensures.few

pub returns-in_default-clause-calls : goal.returns-in_default-clause-calls
returns-in_default-clause-calls g c =
    let h = c.in-Ended.ensures.ended refl in
    text-few _ _ _ _ h.0 h.1 h.2.0 c.read_to_end.ensures.few

pub returns-then-not-decode_hex-clause-calls : goal.returns-then-not-decode_hex-clause-calls
returns-then-not-decode_hex-clause-calls g c =
    let h = c.in-Ended.ensures.ended refl in
    text-few _ _ _ _ h.0 h.1 h.2.0 c.read_to_end.ensures.few

pub returns-clause-calls : goal.returns-clause-calls
returns-clause-calls g c =
    let h = c.in-Ended.ensures.ended refl in
    text-few _ _ _ _ h.0 h.1 h.2.0 c.read_to_end.ensures.few
