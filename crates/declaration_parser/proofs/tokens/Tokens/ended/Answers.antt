use Rattle.std.proofs.Common.{refl, rules}
use Rattle.declaration_parser.specs.declared.tokens.File.{File}
use Rattle.declaration_parser.specs.declared.tokens.Words.{Words}
use Rattle.declaration_parser.proofs.tokens.Tokens.ended.Goals as goal

pub returns : goal.returns
returns c =
    let words : Words = record { from = c.args.from; to = c.len-to.result } in
    let file : File = record { name = c.args.name; words = words; faults = c.args.faults } in
    record { before = c.args.self.files.items; file = file; whole = search rules; begins = refl; ends = search rules }
