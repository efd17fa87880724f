use Rattle.std.proofs.Common.{◌++◌, ap, ◌∙◌, string_bytes, rules}
use Rattle.wire_lib.proofs.SentLemmas.{sent_framed, sent_refused}
use Rattle.std.proofs.lemmas.Result.{on_ok_weaker}
use Rattle.wire_lib.proofs.send.FramesOfLines.send.Goals as goal

pub returns-in-Ok-clause-made : goal.returns-in-Ok-clause-made
returns-in-Ok-clause-made c =
    let self = c.args.self.now in
    let frames = c.args.frames.now.items in
    on_ok_weaker c.append.result
    (λ e. sent_framed self.sending c.saturating_add-self.result c.args.line.now frames c.append.new.to.items (string_bytes c.args.wrongs.now) c.in-Ok.frame.items self.is_good c.in-Ok.ensures.sent (e ∙ ap (λ x. frames ++ x) c.deref.ensures.value))
    c.append.ensures.items

pub returns-in-Err-Wrong-clause-made : goal.returns-in-Err-Wrong-clause-made
returns-in-Err-Wrong-clause-made c =
    let self = c.args.self.now in
    on_ok_weaker c.refuse.result
    (sent_refused self.sending c.saturating_add-self.result c.refuse.new.self.number c.args.line.now c.args.frames.now.items (string_bytes c.args.wrongs.now) (string_bytes c.refuse.new.wrongs) self.is_good c.refuse.new.self.is_good
    (ap (λ s. s.number) c.refuse.ensures.good) (ap (λ s. s.is_good) c.refuse.ensures.good) (c.in-Err-Wrong.ensures.refused (search rules)))
    c.refuse.ensures.said
