use Rattle.std.proofs.Common.{◌≡◌, ℕ, List, [], ◌++◌, take, length, refl, sym, ap, subst, ◌∙◌, rules, string_bytes}
use Rattle.std.proofs.Math.Seq.{take-append_seam}
use Rattle.std.proofs.lemmas.List.{append-nil, append_assoc, nil_from_length}
use Rattle.wire_lib.specs.Sent.{LineMade, HasMade, HaveBecome, AppendedApart}
use Rattle.wire_lib.proofs.LineLemmas.{only_none, only_then}
use Rattle.wire_lib.proofs.SentLemmas.{appended_none, appended_then, appended_still, have_become, at_error}
use Rattle.wire_lib.proofs.ToldLemmas.{parts_on}
use Rattle.wire_lib.proofs.send.FramesOfLines.push.Goals as goal

pub loop-rest-init : goal.loop-rest-init
loop-rest-init c = (
  [],
  refl,
  refl,
  λ text made h. (
    [],
    subst (λ x. HasMade c.args.self.now x (made ++ [])) (sym (append-nil text)) (subst (λ x. HasMade c.args.self.now text x) (sym (append-nil made)) h),
    appended_none c.args.frames.now.items (string_bytes c.args.wrongs.now),
  ),
  only_none c.args.frames.now.items,
)

pub loop-rest-preserved : goal.loop-rest-preserved
loop-rest-preserved c =
    let rest = c.loop-rest.rest.now in
    let used = c.in_ok-used.used in
    let i = c.loop-rest.invariant in (
      i.0 ++ take used rest,
      parts_on c.args.piece.now i.0 rest used i.1 ∙ ap (λ x. (i.0 ++ take used rest) ++ x) (sym c.split_at.ensures.back),
      c.in_ok-used.ensures.sending ∙ i.2,
      λ text made h.
          let told = i.3 text made h in
          let next = c.in_ok-used.ensures.made (text ++ i.0) (made ++ told.0) told.1 in (
            told.0 ++ next.0,
            subst (λ x. HasMade c.push_line.new.self x (made ++ (told.0 ++ next.0))) (append_assoc text i.0 (take used rest))
                (subst (λ x. HasMade c.push_line.new.self ((text ++ i.0) ++ take used rest) x) (append_assoc made told.0 next.0) next.1),
            appended_then _ _ _ _ _ _ told.0 next.0 told.2 next.2,
          ),
      only_then _ _ _ i.4 c.push_line.ensures.only,
    )

pub returns-clause-made : goal.returns-clause-made
returns-clause-made c text made h =
    let i = c.loop-rest.invariant in
    let told = i.3 text made h in
    let none : c.loop-rest.rest.now ≡ [] = nil_from_length c.loop-rest.rest.now (search rules) in (
      told.0,
      subst (λ x. HasMade c.loop-rest.self (text ++ x) (made ++ told.0)) (sym (i.1 ∙ ap (λ x. i.0 ++ x) none ∙ append-nil i.0)) told.1,
      told.2,
    )

pub returns-in_err-used-clause-lost : goal.returns-in_err-used-clause-lost
returns-in_err-used-clause-lost c =
    let i = c.loop-rest.invariant in
    let rest = c.loop-rest.rest.now in
    let self = c.loop-rest.self in
    let front : i.0 ≡ take (length i.0) c.args.piece.now = sym (take-append_seam i.0 rest) ∙ ap (take (length i.0)) (sym i.1) in
    let lost : (text : List ℕ) (made : List LineMade) → HasMade c.args.self.now text made → (used : ℕ) × (more : List LineMade)
    × HaveBecome c.args.self.now.sending (text ++ take used c.args.piece.now) (made ++ more)
    × AppendedApart c.args.frames.now.items c.push_line.new.frames.items (string_bytes c.args.wrongs.now) (string_bytes c.push_line.new.wrongs) more =
    (λ text made h.
    let told = i.3 text made h in (
      length i.0,
      told.0,
      have_become c.args.self.now.sending self.sending self.line.items self.number self.is_good (text ++ i.0) (text ++ take (length i.0) c.args.piece.now) (made ++ told.0) i.2 (ap (λ x. text ++ x) front) told.1,
      appended_still _ _ _ _ _ _ told.0 c.in_err-used.ensures.frames c.in_err-used.ensures.wrongs told.2,
    )) in
    at_error _ lost
