use Rattle.std.proofs.Common.{◌≡◌, ap, sym, ◌∙◌, Some}
use Rattle.cobs.specs.Frames.{shortest_frame}
use Rattle.postcard_tree.specs.Tree.{Tree}
use Rattle.postcard_tree.specs.Spelling.{short}
use Rattle.link_laws.proofs.strict_value.Goals as goal

one_tree : (t u : Tree) → Some t ≡ Some u → t ≡ u
one_tree t u e = cc

pub returns : goal.returns
returns g c stretch t r =
    let w = g.met.T.Exact.writes_back t c.args.value.now r in (
      λ (h, e). (t, w, e),
      λ (u, d, e). (g.T.Readable.form.laws.taken t c.args.value.now r, e ∙ ap (λ x. shortest_frame (short x)) (one_tree u t (sym d ∙ w))),
    )
