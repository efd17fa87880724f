use Rattle.std.proofs.Common.{◌∙◌, length, sym, ap, subst, rules}
use Rattle.wire_lib.specs.Sizes.{HasSizeAt, HaveSizes}
use Rattle.wire_lib.proofs.SizesLemmas.{one_more_has, all_have}
use Rattle.wire_lib.proofs.sizes.Sizes.find_one.Goals as goal

pub loop-place-preserved : goal.loop-place-preserved
loop-place-preserved c =
    let i = c.loop-place.invariant in
    let nodes = c.args.nodes.now in
    let sizes = c.args.self.now.known.items in record {
      same = c.find.ensures.same c.if-find.false ∙ i.same;
      found = λ long. one_more_has nodes sizes c.loop-place.place (i.found long)
          (subst (λ s. HasSizeAt nodes s.known.items c.loop-place.place) i.same
          (c.find.ensures.none c.if-find.false (ap (λ s. length s.known.items) i.same ∙ long)));
    }

pub returns-clause-none : goal.returns-clause-none
returns-clause-none c e long =
    let i = c.loop-place.invariant in
    subst (λ s. HaveSizes c.args.nodes.now s.known.items) (sym i.same)
    (all_have c.args.nodes.now c.args.self.now.known.items c.loop-place.place (search rules) (i.found long))
