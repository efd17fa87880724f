use Rattle.std.proofs.Common.{[], string_bytes, length, subst, ◌∙◌}
use Rattle.wire_lib.specs.Sent.{AreLinesMade, AppendedApart, HasMadeBy, last_line}
use Rattle.wire_c.proofs.writing.made_of.Goals as goal

pub returns : goal.returns
returns c =
    let p = c.in_ok-push.ensures.made [] [] c.new-sender.ensures.made in
    let new = c.push.new.self in
    let f = c.in_ok-is_good.ensures.made c.args.lines.now p.0 p.1 in
    let e = c.in_ok-push.ensures.sending ∙ c.new-sender.ensures.sending in
    let frames = c.push.new.frames.items in
    let wrongs = string_bytes c.push.new.wrongs in record {
      begun = new.line.items;
      number = new.number;
      good_before = new.is_good;
      made = p.0;
      has_made = subst (λ s. HasMadeBy s new.line.items new.number new.is_good c.args.lines.now p.0) e p.1;
      last = f.0;
      are = subst (λ s. AreLinesMade s (length p.0) (last_line new.line.items) f.0) e f.1;
      frames_before = frames;
      wrongs_before = wrongs;
      ended = subst (λ xs. AppendedApart xs frames [] wrongs p.0) c.new-frames.ensures.items
          (subst (λ ys. AppendedApart c.new-frames.result.items frames ys wrongs p.0) c.new-wrongs.ensures.bytes p.2);
      at_end = f.2;
      all_good = f.3;
    }
