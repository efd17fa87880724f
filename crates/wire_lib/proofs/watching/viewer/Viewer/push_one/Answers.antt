use Rattle.std.proofs.Common.{◌≡◌, ℕ, ◌+◌, ◌-◌, ◌<◌, ◌≤◌, List, [], ◌∷◌, ◌++◌, length, map, take, drop, string_bytes, Ok, Some, None, refl, sym, ap, subst, ◌∙◌, arith, append-nil, take-append-drop}
use Rattle.std.proofs.lemmas.List.{take-take}
use Rattle.link.specs.Decoding.{in_owner}
use Rattle.link.specs.Receivers.{IsBehind}
use Rattle.link.specs.Stream.{unfinished}
use Rattle.link.specs.Pushes.{Answered, IsStretchOf}
use Rattle.link.specs.Listening.{HasGiven}
use Rattle.link.specs.Lemmas.Givens.{heard_behind}
use Rattle.link.specs.declared.receiver.Answer.{Answer}
use Rattle.schema_table.specs.declared.value.Value.{Value}
use Rattle.wire_lib.specs.Fronts.{damage_said, kept_behind}
use Rattle.wire_lib.specs.Received.{held_by, read_by}
use Rattle.wire_lib.specs.Seen.{HasMissed, HasWatched, KeepsText, names_of}
use Rattle.wire_lib.specs.Watched.{AddsText}
use Rattle.wire_lib.proofs.LineLemmas.{before_it, least_of}
use Rattle.wire_lib.proofs.DamageLemmas.{behind_on, came_further, few, takes_none, takes_one}
use Rattle.wire_lib.proofs.SentLemmas.{at_error}
use Rattle.wire_lib.proofs.WatchedLemmas.{missed_by, sees_none, sees_one, watched_by}
use Rattle.wire_lib.proofs.watching.viewer.Viewer.push_one.Goals as goal

-- the bytes that were used, in two parts
in_parts : (used : ℕ) (rest taken before last : List ℕ) → taken ≡ take used rest
    → before ≡ take (used - 1) taken → last ≡ drop (used - 1) taken → take used rest ≡ before ++ last
in_parts used rest taken before last e f g = sym e ∙ sym (take-append-drop (used - 1) taken)
    ∙ ap (λ x. x ++ drop (used - 1) taken) (sym f) ∙ ap (λ x. before ++ x) (sym g)

pub returns-in-Ok-None-clause-watched : goal.returns-in-Ok-None-clause-watched
returns-in-Ok-None-clause-watched c stream answers h =
    let v = c.args.self.now in
    let p = c.push_next-used in
    let rest = c.args.rest.now in
    let used = p.result.used in
    let holds = held_by v.reading in
    let reads = read_by v.reading in
    let s = v.reading.sentinel in
    let at = c.saturating_add-self.result in
    let front = c.keep_front-in-Ok-None.new.bytes.items in
    let parts = c.split_at-2 in
    let before = parts.result.0.now in
    let last = parts.result.1.now in
    let whole = in_parts used rest c.split_at.result.0.now before last c.split_at.ensures.front parts.ensures.front parts.ensures.back in
    let answered = subst (λ a. Answered holds reads 65536 s stream rest used a) (c.in-Ok-None.is ∙ ap Ok c.in-Ok-None.field-0-is) (p.ensures.answers 65536 s stream h.stands.after) in
    let hears = heard_behind holds reads 65536 s stream rest answers (answers ++ []) used in_owner v.receiver p.new.receiver (Ok None) (record { given = h.given; after = h.stands.after })
    (p.ensures.stands 65536 s stream h.stands.after) answered (append-nil answers) in (
      [],
      watched_by _ v.reading (stream ++ take used rest) (answers ++ []) refl hears.given hears.after
          (came_further v.reading v.at at used p.result.stretch stream rest v.front.items front before last v.table v.table answers h.stands.came c.saturating_add-self.ensures p.ensures.within)
          (behind_on v.reading v.at at used p.result.stretch stream rest v.front.items front before last v.table v.table answers h.stands.behind
          (c.keep_front-in-Ok-None.ensures ∙ ap (λ x. kept_behind s x last) c.keep_front.ensures) whole)
          h.stands.few,
      takes_none v.reading (stream ++ take used rest) answers v.table v.table h.stands.few (record { rows = refl; damaged = refl; damages = refl }),
      refl,
      sees_none v.reading (names_of v) (stream ++ rest) answers c.args.lines.now.items,
    )

pub returns-in-Err-clause-stopped : goal.returns-in-Err-clause-stopped
returns-in-Err-clause-stopped c stream answers h =
    let v = c.args.self.now in
    let p = c.push_next-used in
    let rest = c.args.rest.now in
    let used = p.result.used in
    let s = v.reading.sentinel in
    let at = c.saturating_add-self.result in
    let front = c.keep_front-in-Err.new.bytes.items in
    let parts = c.split_at-2 in
    let before = parts.result.0.now in
    let last = parts.result.1.now in
    let whole = in_parts used rest c.split_at.result.0.now before last c.split_at.ensures.front parts.ensures.front parts.ensures.back in
    missed_by _ v.reading stream rest used answers refl h.given
    (least_of (held_by v.reading) (read_by v.reading) 65536 s stream rest used p.result.answer (p.ensures.answers 65536 s stream h.stands.after))
    (p.ensures.stands 65536 s stream h.stands.after)
    (came_further v.reading v.at at used p.result.stretch stream rest v.front.items front before last v.table v.table answers h.stands.came c.saturating_add-self.ensures p.ensures.within)
    (behind_on v.reading v.at at used p.result.stretch stream rest v.front.items front before last v.table v.table answers h.stands.behind
    (c.keep_front-in-Err.ensures ∙ ap (λ x. kept_behind s x last) c.keep_front.ensures) whole)
    h.stands.few

pub returns-in_err-heard-in-Ok-Some-clause-stopped : goal.returns-in_err-heard-in-Ok-Some-clause-stopped
returns-in_err-heard-in-Ok-Some-clause-stopped c =
    let v = c.args.self.now in
    let p = c.push_next-used in
    let rest = c.args.rest.now in
    let used = p.result.used in
    let s = v.reading.sentinel in
    let at = c.saturating_add-self.result in
    let parts = c.split_at-2 in
    let before = parts.result.0.now in
    let last = parts.result.1.now in
    let new = c.hear-heard.new.self in
    let same = c.hear-heard.ensures.same in
    let still = c.in_err-heard-in-Ok-Some.ensures.uncounted in
    let front = c.keep_front-in-Ok-Some.new.bytes.items in
    let whole = in_parts used rest c.split_at.result.0.now before last c.split_at.ensures.front parts.ensures.front parts.ensures.back in
    let stopped : (stream : List ℕ) (answers : List (Answer Value)) → HasWatched v stream answers
    → HasMissed (record new { front = c.keep_front-in-Ok-Some.new.bytes }) stream rest answers =
    (λ stream answers h.
    missed_by _ v.reading stream rest used answers same.reading h.given
    (least_of (held_by v.reading) (read_by v.reading) 65536 s stream rest used p.result.answer (p.ensures.answers 65536 s stream h.stands.after))
    (subst (λ x. IsBehind in_owner 65536 s x (stream ++ take used rest)) (sym same.receiver) (p.ensures.stands 65536 s stream h.stands.after))
    (same.at ∙ came_further v.reading v.at at used p.result.stretch stream rest v.front.items front before last v.table v.table answers h.stands.came c.saturating_add-self.ensures p.ensures.within)
    (behind_on v.reading v.at at used p.result.stretch stream rest v.front.items front before last v.table v.table answers h.stands.behind
    (c.keep_front-in-Ok-Some.ensures ∙ ap (λ f. kept_behind s f.items last) same.front ∙ ap (λ x. kept_behind s x last) c.keep_front.ensures) whole)
    (subst (λ x. length x ≤ 3) (sym still.damages) h.stands.few)) in
    at_error _ stopped

pub returns-in_ok-heard-in-Ok-Some-clause-watched : goal.returns-in_ok-heard-in-Ok-Some-clause-watched
returns-in_ok-heard-in-Ok-Some-clause-watched c stream answers h =
    let v = c.args.self.now in
    let p = c.push_next-used in
    let rest = c.args.rest.now in
    let used = p.result.used in
    let n = p.result.stretch in
    let a = c.in-Ok-Some.answer in
    let holds = held_by v.reading in
    let reads = read_by v.reading in
    let s = v.reading.sentinel in
    let new = c.hear-heard.new.self in
    let same = c.hear-heard.ensures.same in
    let heard = c.in_ok-heard-in-Ok-Some.ensures in
    let at = c.saturating_add-self.result in
    let xs = answers ++ a ∷ [] in
    let behind = stream ++ take used rest in
    let taken = c.split_at.result.0.now in
    let parts = c.split_at-2 in
    let before = parts.result.0.now in
    let last = parts.result.1.now in
    let front = c.keep_front-in-Ok-Some.new.bytes.items in
    let lines = c.args.lines.now.items in
    let lines' = c.hear-heard.new.lines.items in
    let some : 0 < used = p.ensures.forward c.requires in
    let whole = in_parts used rest taken before last c.split_at.ensures.front parts.ensures.front parts.ensures.back in
    let first : stream ++ before ≡ stream ++ take (used - 1) rest =
    ap (λ x. stream ++ x) (parts.ensures.front ∙ ap (take (used - 1)) c.split_at.ensures.front ∙ take-take (used - 1) used rest (omega arith)) in
    let answered = subst (λ x. Answered holds reads 65536 s stream rest used x) (c.in-Ok-Some.is ∙ ap Ok c.in-Ok-Some.field-0-is) (p.ensures.answers 65536 s stream h.stands.after) in
    let size = subst (λ x. IsStretchOf s stream rest used x n) (c.in-Ok-Some.is ∙ ap Ok c.in-Ok-Some.field-0-is) (p.ensures.stretch 65536 s stream h.stands.after)
    ∙ ap (λ x. length (unfinished s x)) (sym first) in
    let hears = heard_behind holds reads 65536 s stream rest answers xs used in_owner v.receiver p.new.receiver (Ok (Some a)) (record { given = h.given; after = h.stands.after })
    (p.ensures.stands 65536 s stream h.stands.after) answered refl in
    let given = subst (HasGiven holds reads 65536 s answers) (sym first) (before_it v.reading stream rest answers a used some h.given answered) in
    let one : length last ≡ 1 = omega (arith, some, parts.ensures.back_len, c.split_at.ensures.front_len) in
    let many : length before + 1 ≡ used = omega (arith, some, parts.ensures.front_len) in
    let takes = takes_one v.reading v.at at used n stream rest v.front.items front before last v.table new.table answers a h.stands.came h.stands.behind given hears.given
    c.saturating_add-self.ensures whole one many size h.stands.few heard.counted
    (subst (λ x. KeepsText a (at - 1 - n) n x v.table new.table) c.keep_front.ensures (heard.kept h.stands.few)) in (
      a ∷ [],
      watched_by _ v.reading behind xs same.reading hears.given
          (subst (λ x. IsBehind in_owner 65536 s x behind) (sym same.receiver) hears.after)
          (same.at ∙ came_further v.reading v.at at used n stream rest v.front.items front before last v.table v.table answers h.stands.came c.saturating_add-self.ensures p.ensures.within)
          (behind_on v.reading v.at at used n stream rest v.front.items front before last v.table v.table answers h.stands.behind
          (c.keep_front-in-Ok-Some.ensures ∙ ap (λ f. kept_behind s f.items last) same.front ∙ ap (λ x. kept_behind s x last) c.keep_front.ensures) whole)
          (few new.table (map string_bytes v.table.damages.items ++ takes.texts) takes.kept),
      takes,
      (new.table.rows.items, heard.noted, refl),
      sees_one v.reading (names_of v) v.at at used n stream rest v.front.items before last v.table answers a lines lines' h.stands.came h.stands.behind given hears.given
          c.saturating_add-self.ensures whole one many size
          (subst (λ x. AddsText v.reading (names_of v) (λ what. damage_said what (at - 1 - n) n x) a lines lines') c.keep_front.ensures heard.line),
    )
