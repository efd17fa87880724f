use Rattle.std.proofs.Common.{◌≡◌, ℕ, List, [], ◌∷◌, ◌++◌, take, length, refl, sym, ap, subst, ◌∙◌, arith, rules, append_assoc}
use Rattle.std.proofs.lemmas.List.{append-nil}
use Rattle.wire_lib.specs.Received.{HasGot, HasStopped, TellsEach, good_so_far, reading_of}
use Rattle.link.specs.declared.receiver.Answer.{Answer}
use Rattle.schema_table.specs.declared.value.Value.{Value}
use Rattle.wire_lib.proofs.ToldLemmas.{good_still, good_then, told_none, told_then, parts_on}
use Rattle.wire_lib.proofs.LineLemmas.{only_none, only_then, tells_none, tells_then}
use Rattle.wire_lib.proofs.SentLemmas.{at_error}
use Rattle.wire_lib.proofs.receive.LinesOfFrames.push_all.Goals as goal

-- nothing is left
empty : (xs : List ℕ) → length xs ≡ 0 → xs ≡ []
empty [] e = refl
empty (x ∷ xs) e = absurd (omega arith)

pub loop-rest-init : goal.loop-rest-init
loop-rest-init c = (
  [],
  refl,
  refl,
  refl,
  λ passed stream answers h. (
    [],
    told_none c.args.self.now passed stream answers h,
    good_still (good_so_far c.args.self.now),
    tells_none (reading_of c.args.self.now) passed (stream ++ c.args.piece.now) answers
        c.args.lines.now.items,
  ),
  only_none c.args.lines.now.items,
)

pub loop-rest-preserved : goal.loop-rest-preserved
loop-rest-preserved c =
    let rest = c.loop-rest.rest.now in
    let used = c.in_ok-used.used in
    let i = c.loop-rest.invariant in (
      i.0 ++ take used rest,
      parts_on c.args.piece.now i.0 rest used i.1
          ∙ ap (λ x. (i.0 ++ take used rest) ++ x) (sym c.split_at.ensures.back),
      c.in_ok-used.ensures.reading ∙ i.2,
      c.in_ok-used.ensures.skip ∙ i.3,
      λ passed stream answers h.
          let told = i.4 passed stream answers h in
          let next = c.in_ok-used.ensures.told passed (stream ++ i.0) (answers ++ told.0) told.1 in
          let whole : (stream ++ i.0) ++ rest ≡ stream ++ c.args.piece.now = append_assoc stream i.0
          rest ∙ ap (λ x. stream ++ x) (sym i.1) in (
            told.0 ++ next.0,
            told_then c.push_one.new.self passed stream i.0 (take used rest) answers told.0 next.0
                next.1,
            good_then (good_so_far c.args.self.now) (good_so_far c.loop-rest.self) (good_so_far c.push_one.new.self) told.0 next.0
                told.2 next.2,
            tells_then (reading_of c.args.self.now) passed (stream ++ c.args.piece.now) answers
                told.0 next.0 c.args.lines.now.items c.loop-rest.lines.items
                c.push_one.new.lines.items told.3
                (subst (λ x. TellsEach x passed (stream ++ c.args.piece.now) (answers ++ told.0)
                next.0 c.loop-rest.lines.items c.push_one.new.lines.items) i.2
                (subst (λ x. TellsEach (reading_of c.loop-rest.self) passed x (answers ++ told.0)
                next.0 c.loop-rest.lines.items c.push_one.new.lines.items) whole next.3)),
          ),
      only_then c.args.lines.now.items c.loop-rest.lines.items c.push_one.new.lines.items i.5
          c.push_one.ensures.only,
    )

pub returns-clause-told : goal.returns-clause-told
returns-clause-told c passed stream answers h =
    let i = c.loop-rest.invariant in
    let told = i.4 passed stream answers h in
    let none : c.loop-rest.rest.now ≡ [] = empty c.loop-rest.rest.now (search rules) in (
      told.0,
      subst (λ x. HasGot c.loop-rest.self passed (stream ++ x) (answers ++ told.0))
          (sym (i.1 ∙ ap (λ x. i.0 ++ x) none ∙ append-nil i.0)) told.1,
      told.2,
      told.3,
    )

pub returns-in_err-used-clause-stopped : goal.returns-in_err-used-clause-stopped
returns-in_err-used-clause-stopped c =
    let i = c.loop-rest.invariant in
    let lines = c.push_one.new.lines.items in
    let stopped : (passed : ℕ) (stream : List ℕ) (answers : List (Answer Value)) → HasGot c.args.self.now passed stream answers
    → (done rest : List ℕ) × (c.args.piece.now ≡ done ++ rest) × (more : List (Answer Value))
    × HasStopped c.push_one.new.self passed (stream ++ done) rest (answers ++ more)
    × TellsEach (reading_of c.args.self.now) passed (stream ++ c.args.piece.now) answers more c.args.lines.now.items lines =
    (λ passed stream answers h.
    let told = i.4 passed stream answers h in (
      i.0,
      c.loop-rest.rest.now,
      i.1,
      told.0,
      c.in_err-used.ensures.stopped passed (stream ++ i.0) (answers ++ told.0) told.1,
      subst (λ x. TellsEach (reading_of c.args.self.now) passed (stream ++ c.args.piece.now) answers told.0
          c.args.lines.now.items x) (sym c.in_err-used.ensures.unchanged) told.3,
    )) in
    at_error _ stopped
