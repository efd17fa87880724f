use Rattle.std.proofs.Common.{◌≡◌, [], ◌++◌, take, refl, sym, ◌∙◌, ap, subst, append_assoc, rules, append-nil}
use Rattle.link.specs.Link.{begun, IsAt, IsBehind}
use Rattle.std.proofs.lemmas.List.{nil_from_length}
use Rattle.link.specs.Lemmas.Lengths.{parts_on}
use Rattle.link.specs.Lemmas.AnswerLaws.{behind_after}
use Rattle.link.proofs.reception.Reception.pass_over.Goals as goal

pub loop-rest-init : goal.loop-rest-init
loop-rest-init g c = (
  (refl, refl),
  λ limit s stream h. ([], refl, subst (λ x. IsBehind g.D.Decoding.inside limit s c.args.self.now x) (sym (append-nil stream)) h),
)

pub loop-rest-preserved : goal.loop-rest-preserved
loop-rest-preserved g c =
    let rest = c.loop-rest.rest.now in
    let used = c.take-taken.result.used in (
      (c.take-taken.ensures.same.0 ∙ c.loop-rest.invariant.0.0, c.take-taken.ensures.same.1 ∙ c.loop-rest.invariant.0.1),
      λ limit s stream h.
          let k = c.loop-rest.invariant.1 limit s stream h in
          let b = begun limit s (stream ++ k.0) in (
            k.0 ++ take used rest,
            parts_on c.args.piece.now k.0 rest used k.1 ∙ ap (λ x. (k.0 ++ take used rest) ++ x) (sym c.split_at.ensures.back),
            subst (λ x. IsBehind g.D.Decoding.inside limit s c.take-taken.new.self x) (append_assoc stream k.0 (take used rest))
                (behind_after limit s (IsAt g.D.Decoding.inside limit s c.take-taken.new.self) (stream ++ k.0) rest _ (c.take-taken.ensures.taken limit s b k.2).used (c.take-taken.ensures.at limit s b k.2)),
          ),
    )

pub returns-clause-stands : goal.returns-clause-stands
returns-clause-stands g c limit s stream h =
    let k = c.loop-rest.invariant.1 limit s stream h in
    let none : c.loop-rest.rest.now ≡ [] = nil_from_length c.loop-rest.rest.now (search rules) in
    rw (k.1 ∙ ap (λ x. k.0 ++ x) none ∙ append-nil k.0) k.2
