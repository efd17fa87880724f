use Rattle.declarations.proofs.builder.Builder.+place.Given as goal

abbrev pub decreases-place : goal.decreases-place
decreases-place l = l.depth
