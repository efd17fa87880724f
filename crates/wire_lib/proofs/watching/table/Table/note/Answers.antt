use Rattle.std.proofs.Common.{ap, ◌∙◌, string_bytes}
use Rattle.std.proofs.Math.Seq.{map-set_same}
use Rattle.wire_lib.proofs.watching.table.Table.note.Goals as goal

pub returns-then-kind-len-clause-kinds : goal.returns-then-kind-len-clause-kinds
returns-then-kind-len-clause-kinds c =
    map-set_same (λ row. string_bytes row.name) c.args.self.now.rows.items c.args.kind c.note.new.self c.index_mut.result.now
    (ap (λ name. string_bytes name) c.note.ensures.name ∙ ap (λ row. string_bytes row.name) c.index_mut.ensures.value)
