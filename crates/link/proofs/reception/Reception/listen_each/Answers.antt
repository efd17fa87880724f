use Rattle.std.proofs.Common.{[], ◌++◌, Some, None, refl, sym, ◌∙◌, arith, inl, inr}
use Rattle.line_io.specs.Calls.{Gave-none, Gave-then}
use Rattle.link.specs.Each.{gave_now}
use Rattle.link.proofs.HandingLemmas.{handed_none, nothing_more, read_then, few_then, was_asked, adds_then}
use Rattle.link.proofs.reception.Reception.listen_each.Goals as goal

pub loop-alloc-init : goal.loop-alloc-init
loop-alloc-init g c = (
  ([], Gave-none _, refl, omega arith, handed_none g.H.Hearer.hears g.H.Hearer.laws _ _ (λ limit s stream given h. nothing_more g.D.Decoding.inside (g.M.MessageReader.judging c.args.messages.now).holds (g.M.MessageReader.judging c.args.messages.now).reads limit s c.args.self.now given stream [] refl h), inl (refl, refl, refl, refl)),
  (refl, refl),
  λ h. h,
)

pub returns-in-Some-clause-heard : goal.returns-in-Some-clause-heard
returns-in-Some-clause-heard g c =
    let k = c.loop-alloc.invariant.0 in
    let e = c.in-Some.ensures.heard.0 in
    let judging = g.M.MessageReader.judging c.args.messages.now in (
      record {
        bytes = k.0 ++ e.bytes;
        read = read_then _ _ _ k.0 e.bytes c.in-Some.end k.1 k.2 e.read;
        few = few_then _ _ _ k.0 e.bytes 1 k.3 e.few;
        adds = adds_then g.D.Decoding.inside judging g.H.Hearer.hears g.H.Hearer.laws c.args.goes_on k.0 e.bytes _ _ c.listen_by.new.self _ _ _ (Some c.in-Some.end) k.4 e.adds;
      },
      inr (was_asked g.D.Decoding.inside judging g.H.Hearer.hears g.H.Hearer.enough g.H.Hearer.settled _ _ _ _ _ _ (Some c.in-Some.end) _ _ k.0 e.bytes e.adds.answers k.4 e.adds.heard (sym c.has_enough.ensures ∙ c.if-has_enough.false) c.loop-alloc.invariant.2 (record {
        then = _;
        gave = k.1;
        quiet = k.2;
        brought = gave_now _ _ (Some c.in-Some.end) e.bytes e.read;
        once = c.in-Some.ensures.calls;
        short = omega (arith, c.in-Some.ensures.heard.1);
        none = c.in-Some.ensures.heard.2;
      })),
    )

pub loop-alloc-preserved : goal.loop-alloc-preserved
loop-alloc-preserved g c =
    let k = c.loop-alloc.invariant.0 in
    let e = c.in_default.ensures.heard.0 in
    let judging = g.M.MessageReader.judging c.args.messages.now in (
      (
        k.0 ++ e.bytes,
        Gave-then _ _ _ _ _ k.1 e.read.0,
        e.read.1 ∙ k.2,
        few_then _ _ _ k.0 e.bytes 0 k.3 e.few,
        adds_then g.D.Decoding.inside judging g.H.Hearer.hears g.H.Hearer.laws c.args.goes_on k.0 e.bytes _ _ _ _ _ _ None k.4 e.adds,
        inr (was_asked g.D.Decoding.inside judging g.H.Hearer.hears g.H.Hearer.enough g.H.Hearer.settled _ _ _ _ _ _ None _ _ k.0 e.bytes e.adds.answers k.4 e.adds.heard (sym c.has_enough.ensures ∙ c.if-has_enough.false) c.loop-alloc.invariant.2 (record {
          then = _;
          gave = k.1;
          quiet = k.2;
          brought = e.read.0;
          once = c.in_default.ensures.calls;
          short = omega (arith, c.in_default.ensures.heard.1);
          none = c.in_default.ensures.heard.2;
        })),
      ),
      (c.listen_by.ensures.same.0 ∙ c.loop-alloc.invariant.1.0, c.listen_by.ensures.same.1 ∙ c.loop-alloc.invariant.1.1),
      λ h. c.listen_by.ensures.settled (c.loop-alloc.invariant.2 h),
    )

-- the hearer has had enough
pub returns-then-has_enough-clause-heard : goal.returns-then-has_enough-clause-heard
returns-then-has_enough-clause-heard g c =
    let k = c.loop-alloc.invariant.0 in
    (record { bytes = k.0; read = (k.1, k.2); few = k.3; adds = k.4 }, k.5)

pub returns-in-Some-clause-once : goal.returns-in-Some-clause-once
returns-in-Some-clause-once g c = omega (arith, c.in-Some.ensures.once, c.loop-alloc.invariant.0.2)

pub returns-then-has_enough-clause-once : goal.returns-then-has_enough-clause-once
returns-then-has_enough-clause-once g c = omega (arith, c.loop-alloc.invariant.0.2)
