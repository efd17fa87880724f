use Rattle.std.proofs.Common.{◌-◌, refl, inl, inr, arith, codes}
use Rattle.link.specs.declared.receiver.Answer.TheVariants as answer
use Rattle.wire_lib.specs.Said.{known_to, end_said, stretch_line}
use Rattle.wire_lib.proofs.LineLemmas.{says_as, says_value}
use Rattle.wire_lib.proofs.receive.LinesOfFrames.say.Goals as goal

pub returns-in-Value-clause-line : goal.returns-in-Value-clause-line
returns-in-Value-clause-line c =
    let last = c.args.self.now.at - 1 in
    says_value c.args.self.now.reading c.put_value_line.result c.args.answer.now c.in-Value.value (last - c.args.stretch)
    (end_said c.args.answer.now last
    (known_to c.args.self.now.at c.args.self.now.reading.sentinel c.args.left.now))
    c.args.lines.now.items c.put_value_line.new.lines.items c.in-Value.is c.put_value_line.ensures.line

pub returns-then-replace-clause-line : goal.returns-then-replace-clause-line
returns-then-replace-clause-line c =
    let last = c.args.self.now.at - 1 in
    let from = c.saturating_sub-from.result in
    let lines = c.args.lines.now.items in
    says_as c.args.self.now.reading c.put_stretch_line.result c.args.answer.now answer.Damaged from (last - c.args.stretch)
    c.saturating_sub-last.result last
    (known_to c.args.self.now.at c.args.self.now.reading.sentinel c.args.left.now) lines
    c.put_stretch_line.new.lines.items
    (stretch_line (codes "too_deep") from c.saturating_sub-last.result)
    c.in-Damaged.is (omega arith) c.saturating_sub-last.ensures (inr refl)
    c.put_stretch_line.ensures.line

pub returns-else-replace-clause-line : goal.returns-else-replace-clause-line
returns-else-replace-clause-line c =
    let last = c.args.self.now.at - 1 in
    let from = c.saturating_sub-from.result in
    let lines = c.args.lines.now.items in
    says_as c.args.self.now.reading c.put_stretch_line-else-replace.result c.args.answer.now answer.Damaged from
    (last - c.args.stretch) c.saturating_sub-last.result last
    (known_to c.args.self.now.at c.args.self.now.reading.sentinel c.args.left.now) lines
    c.put_stretch_line-else-replace.new.lines.items
    (stretch_line (codes "damaged") from c.saturating_sub-last.result)
    c.in-Damaged.is (omega arith) c.saturating_sub-last.ensures (inl refl)
    c.put_stretch_line-else-replace.ensures.line

pub returns-in-TooLong-clause-line : goal.returns-in-TooLong-clause-line
returns-in-TooLong-clause-line c =
    let last = c.args.self.now.at - 1 in
    let from = c.saturating_sub-from.result in
    let lines = c.args.lines.now.items in
    says_as c.args.self.now.reading c.put_stretch_line-in-TooLong.result c.args.answer.now answer.TooLong from
    (last - c.args.stretch) c.saturating_add-so_far.result last
    (known_to c.args.self.now.at c.args.self.now.reading.sentinel c.args.left.now) lines
    c.put_stretch_line-in-TooLong.new.lines.items
    (stretch_line (codes "too_long") from c.saturating_add-so_far.result)
    c.in-TooLong.is (omega arith) (omega (arith, c.before_sentinel-more.ensures.before)) refl
    c.put_stretch_line-in-TooLong.ensures.line

pub returns-in-Cut-clause-line : goal.returns-in-Cut-clause-line
returns-in-Cut-clause-line c =
    let last = c.args.self.now.at - 1 in
    let from = c.saturating_sub-from.result in
    let lines = c.args.lines.now.items in
    says_as c.args.self.now.reading c.put_stretch_line-in-Cut.result c.args.answer.now answer.Cut from
    (last - c.args.stretch) c.saturating_sub-last.result last
    (known_to c.args.self.now.at c.args.self.now.reading.sentinel c.args.left.now) lines
    c.put_stretch_line-in-Cut.new.lines.items
    (stretch_line (codes "cut") from c.saturating_sub-last.result)
    c.in-Cut.is (omega arith) c.saturating_sub-last.ensures refl c.put_stretch_line-in-Cut.ensures.line
