use Rattle.std.proofs.lemmas.Grind.{common_steps}
use Rattle.std.proofs.Common.{refl, subst, arith}
use Rattle.link.specs.InPlace.{IsNext}
use Rattle.link.proofs.ReadingLemmas.{line_some}
use Rattle.link.proofs.in_place.read_next.Goals as goal

pub read_stretch-requires : goal.read_stretch-requires
read_stretch-requires g c κs =
    let cut = subst (λ p. IsNext c.args.sentinel c.args.end c.requires.0 p) c.in-Some.is c.requires.1 in
    ((refl, tt), line_some c.args.sentinel _ _ c.in-Some.front.now _ _ cut c.split_at_mut-ended.ensures.back c.leading_sentinels-leading.ensures.rest)

pub returns-in-Some : goal.returns-in-Some
returns-in-Some g c = grind (arith, common_steps)
