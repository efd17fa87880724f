use Rattle.std.proofs.Common.{◌≡◌, [], ◌∷◌, ◌++◌, sym, ap, ◌∙◌, subst}
use Rattle.line_io.specs.Transfers.{WentOrBroke}
use Rattle.cobs.specs.Sentinel.{frame_for}
use Rattle.postcard_tree.specs.Tree.{text_of}
use Rattle.postcard_tree.specs.Spelling.{short}
use Rattle.postcard_tree.specs.Texts.{short_text}
use Rattle.frames_small.proofs.sending.put_counted.Goals as goal

pub returns : goal.returns
returns g c =
    let m = c.args.message.now in
    let e : frame_for c.args.sentinel (c.varint_usize-count.result.now ++ m) ≡ frame_for c.args.sentinel (short (text_of m)) =
    ap (frame_for c.args.sentinel) (ap (λ k. k ++ m) c.varint_usize-count.ensures ∙ sym (short_text m)) in
    subst (λ x. WentOrBroke (g.W.Outlet.line c.args.outlet.now) (g.W.Outlet.line c.put_ended.new.outlet) (x ++ (c.args.sentinel ∷ [])) c.put_ended.result) e c.put_ended.ensures
