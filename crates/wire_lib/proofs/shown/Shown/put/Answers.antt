use Rattle.std.proofs.Common.{◌≡◌, ◌∙◌, ◌<◌, Bool, Option, ℕ, List, [], ◌∷◌, ◌++◌, length, take, refl, sym, ap, append-nil, arith, rules}
use Rattle.std.proofs.lemmas.List.{take_all}
use Rattle.wire_lib.specs.Sent.{LacksFeed}
use Rattle.wire_lib.specs.Shown.{PutsFirst, ShowsBy, line_shown}
use Rattle.wire_lib.proofs.SentLemmas.{at_error, lacks_take}
use Rattle.wire_lib.proofs.ShownLemmas.{last_some, left_behind, line_begun, line_ended, parted, shown_then, text_none}
use Rattle.wire_lib.proofs.shown.Shown.put.Goals as goal

pub loop-rest-init : goal.loop-rest-init
loop-rest-init c = ([], [], refl, text_none, λ only colour h. sym (append-nil c.args.out.now.items))

pub loop-rest-preserved : goal.loop-rest-preserved
loop-rest-preserved c =
    let rest = c.loop-rest.rest.now in
    let at = c.before_sentinel.result in
    let i = c.loop-rest.invariant in
    let line = take at rest in
    let below : at < length rest = omega (arith, c.in-len1-up.len_at_least, c.split_at.ensures.back_len) in
    let lacks : LacksFeed line = lacks_take at rest c.before_sentinel.ensures.within c.before_sentinel.ensures.none in
    let left = left_behind rest c.split_at.result.1.now at c.split_at.ensures.back in (
      i.0 ++ (line ++ 10 ∷ []),
      i.1 ++ line ∷ [],
      parted c.args.lines.now i.0 rest at i.2 below (c.before_sentinel.ensures.end below)
          ∙ ap (λ x. (i.0 ++ (line ++ 10 ∷ [])) ++ x) (sym left),
      line_ended i.0 line i.1 i.3 lacks,
      λ only colour h. shown_then (line_shown only colour c.args.time) c.args.out.now.items c.loop-rest.out.items
          c.put_line.new.out.items line i.1 (i.4 only colour h)
          (c.in_ok-put_line.ensures.line only colour h
          ∙ ap (λ x. c.loop-rest.out.items ++ line_shown only colour c.args.time x) c.split_at.ensures.front),
    )

pub returns-in_default-clause-shown : goal.returns-in_default-clause-shown
returns-in_default-clause-shown c only colour h =
    let rest = c.loop-rest.rest.now in
    let at = c.before_sentinel.result in
    let i = c.loop-rest.invariant in
    let line = take at rest in
    let lacks : LacksFeed line = lacks_take at rest c.before_sentinel.ensures.within c.before_sentinel.ensures.none in
    let whole : line ≡ rest = take_all at rest (omega (arith, c.in_default.len_below, c.split_at.ensures.back_len)) in
    let full : 0 < length rest = search rules in
    let some : 0 < length line = omega (arith, ap length whole, full) in record {
      lines = i.1;
      begun = line;
      parts = line_begun c.args.lines.now i.0 rest line i.1 i.2 whole i.3 lacks;
      appended = last_some (line_shown only colour c.args.time) c.args.out.now.items c.put_line.new.out.items line i.1 some
          (shown_then (line_shown only colour c.args.time) c.args.out.now.items c.loop-rest.out.items
          c.put_line.new.out.items line i.1 (i.4 only colour h)
          (c.in_ok-put_line.ensures.line only colour h
          ∙ ap (λ x. c.loop-rest.out.items ++ line_shown only colour c.args.time x) c.split_at.ensures.front));
    }

pub returns-in_err-put_line-clause-stopped : goal.returns-in_err-put_line-clause-stopped
returns-in_err-put_line-clause-stopped c =
    let rest = c.loop-rest.rest.now in
    let i = c.loop-rest.invariant in
    let full : 0 < length rest = search rules in
    let first : (only : Option (List ℕ)) (colour : Bool) → ShowsBy c.args.self.now only colour
    → PutsFirst only colour c.args.time c.args.lines.now c.args.out.now.items c.put_line.new.out.items = (λ only colour h. record {
      lines = i.1;
      rest = rest;
      parts = i.2 ∙ ap (λ x. x ++ rest) (i.3.whole ∙ append-nil _);
      apart = i.3.apart;
      some = full;
      appended = c.in_err-put_line.ensures.unchanged ∙ i.4 only colour h;
    }) in
    at_error _ first
