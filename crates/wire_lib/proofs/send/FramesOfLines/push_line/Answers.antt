use Rattle.std.proofs.Common.{◌≡◌, ◌<◌, ◌+◌, [], ◌∷◌, ◌++◌, take, length, ap, sym, subst, ◌∙◌, string_bytes, rules}
use Rattle.std.proofs.lemmas.List.{take_more}
use Rattle.wire_lib.specs.Sent.{HasMadeBy, IsLineMade, LacksFeed}
use Rattle.wire_lib.proofs.SentLemmas.{lacks_take, made_on, made_then, appended_none}
use Rattle.wire_lib.proofs.send.FramesOfLines.push_line.Goals as goal

pub returns-then-is_empty-clause-made : goal.returns-then-is_empty-clause-made
returns-then-is_empty-clause-made c text made h =
    let self = c.args.self.now in
    let at = c.before_sentinel-at.result in
    let rest = c.args.rest.now in
    let part = take at rest in
    let lacks : LacksFeed part = lacks_take at rest c.before_sentinel-at.ensures.within c.before_sentinel-at.ensures.none in
    let line : c.append.new.to.items ≡ self.line.items ++ part = c.in_ok-append.ensures.items ∙ ap (λ p. self.line.items ++ p) c.split_at.ensures.front in (
      [],
      subst (λ x. HasMadeBy self.sending x self.number self.is_good (text ++ part) (made ++ [])) (sym line) (made_on self.sending self.line.items part self.number self.is_good text made h lacks),
      appended_none c.args.frames.now.items (string_bytes c.args.wrongs.now),
    )

pub returns-clause-made : goal.returns-clause-made
returns-clause-made c text made h =
    let self = c.args.self.now in
    let at = c.before_sentinel-at.result in
    let rest = c.args.rest.now in
    let part = take at rest in
    let lacks : LacksFeed part = lacks_take at rest c.before_sentinel-at.ensures.within c.before_sentinel-at.ensures.none in
    let below : at < length rest = search rules in
    let whole : take (at + 1) rest ≡ part ++ 10 ∷ [] = take_more rest at 0 below ∙ ap (λ x. part ++ x ∷ []) (c.before_sentinel-at.ensures.end below) in
    let ended = c.in_ok-end.ensures in
    let new = c.end.new.self in
    let then = made_then self.sending self.line.items part self.number c.end.new.self.number self.is_good c.end.new.self.is_good text made ended.made.0 h lacks (subst (λ p. IsLineMade self.sending new.number (self.line.items ++ p) ended.made.0) c.split_at.ensures.front ended.made.1) ended.number ended.made.3 in (
      ended.made.0 ∷ [],
      subst (λ x. HasMadeBy new.sending new.line.items new.number new.is_good (text ++ x) (made ++ ended.made.0 ∷ [])) (sym whole)
          (subst (λ x. HasMadeBy new.sending x new.number new.is_good (text ++ (part ++ 10 ∷ [])) (made ++ ended.made.0 ∷ [])) (sym ended.made.4)
          (subst (λ x. HasMadeBy x [] new.number new.is_good (text ++ (part ++ 10 ∷ [])) (made ++ ended.made.0 ∷ [])) (sym ended.sending) then)),
      ended.made.2,
    )
