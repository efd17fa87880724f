use Rattle.std.proofs.lemmas.Result.{on_ok_weaker}
use Rattle.wire_lib.proofs.LineLemmas.{value_line_of, on_appended}
use Rattle.wire_lib.proofs.receive.write_line.Goals as goal

pub returns : goal.returns
returns c =
    let said = c.in_ok-write_value.ensures in
    on_ok_weaker c.extend_from_slice-2.result (λ last. (
      said.0,
      said.1,
      value_line_of c.clear.new.self.items c.extend_from_slice.new.self.items c.write_value.new.text.items
          c.extend_from_slice-2.new.self.items said.0 c.clear.ensures.items c.in_ok-extend_from_slice.ensures.items
          said.2 last,
    )) (on_appended c.extend_from_slice-2.result c.extend_from_slice-2.new.self.items _ _
    c.extend_from_slice-2.ensures.items)
