use Rattle.std.proofs.Common.{◌≡◌, ℕ, List, [], ◌∷◌, ◌++◌, take, length, refl, sym, ap, subst, ◌∙◌, arith, rules, append-nil, append_assoc}
use Rattle.link.specs.declared.receiver.Answer.{Answer}
use Rattle.schema_table.specs.declared.value.Value.{Value}
use Rattle.wire_lib.specs.Seen.{HasLost, HasMissed, HasSeen, TookAll, HasWatched, NotesEach, TakesEach, names_of, reading_of}
use Rattle.wire_lib.specs.Watched.{SeesEach}
use Rattle.wire_lib.proofs.DamageLemmas.{taken_then, takes_none, takes_still, takes_then}
use Rattle.wire_lib.proofs.LineLemmas.{only_none, only_then}
use Rattle.wire_lib.proofs.SeenLemmas.{parts_on}
use Rattle.wire_lib.proofs.SentLemmas.{at_error}
use Rattle.wire_lib.proofs.WatchedLemmas.{notes_then, sees_none, sees_then, watched_none, watched_then}
use Rattle.wire_lib.proofs.watching.viewer.Viewer.push.Goals as goal

-- nothing is left
empty : (xs : List ℕ) → length xs ≡ 0 → xs ≡ []
empty [] e = refl
empty (x ∷ xs) e = absurd (omega arith)

pub loop-rest-init : goal.loop-rest-init
loop-rest-init c = (
  [],
  refl,
  refl,
  λ stream answers h. (
    [],
    watched_none c.args.self.now stream answers h,
    takes_none (reading_of c.args.self.now) (stream ++ []) answers c.args.self.now.table c.args.self.now.table h.stands.few
        (record { rows = refl; damaged = refl; damages = refl }),
    refl,
    sees_none (reading_of c.args.self.now) (names_of c.args.self.now) (stream ++ c.args.piece.now) answers c.args.lines.now.items,
  ),
  refl,
  only_none c.args.lines.now.items,
  refl,
)

pub loop-rest-preserved : goal.loop-rest-preserved
loop-rest-preserved c =
    let rest = c.loop-rest.rest.now in
    let used = c.in_ok-used.used in
    let old = c.args.self.now in
    let self = c.loop-rest.self in
    let after = c.push_one.new.self in
    let piece = c.args.piece.now in
    let mid = c.loop-rest.lines.items in
    let new = c.push_one.new.lines.items in
    let i = c.loop-rest.invariant in (
      i.0 ++ take used rest,
      parts_on piece i.0 rest used i.1 ∙ ap (λ x. (i.0 ++ take used rest) ++ x) (sym c.split_at.ensures.back),
      c.in_ok-used.ensures.reading ∙ i.2,
      λ stream answers h.
          let seen = i.3 stream answers h in
          let next = c.in_ok-used.ensures.watched (stream ++ i.0) (answers ++ seen.0) seen.1 in
          let further = (stream ++ i.0) ++ take used rest in
          let whole : (stream ++ i.0) ++ rest ≡ stream ++ piece = append_assoc stream i.0 rest ∙ ap (λ x. stream ++ x) (sym i.1) in (
            seen.0 ++ next.0,
            watched_then after stream i.0 (take used rest) answers seen.0 next.0 next.1,
            subst (λ x. TakesEach (reading_of old) x answers (seen.0 ++ next.0) old.table after.table) (append_assoc stream i.0 (take used rest))
                (takes_then (reading_of old) (stream ++ i.0) (take used rest) answers seen.0 next.0 old.table self.table after.table seen.2
                (subst (λ x. TakesEach x further (answers ++ seen.0) next.0 self.table after.table) i.2 next.2)),
            notes_then (reading_of old) c.args.window seen.0 next.0 old.table.rows.items self.table.rows.items after.table.rows.items seen.3
                (subst (λ x. NotesEach x c.args.window next.0 self.table.rows.items after.table.rows.items) i.2 next.3),
            sees_then (reading_of old) (names_of old) (stream ++ piece) answers seen.0 next.0 c.args.lines.now.items mid new seen.4
                (subst (λ x. SeesEach x (names_of old) (stream ++ piece) (answers ++ seen.0) next.0 mid new) i.2
                (subst (λ x. SeesEach (reading_of self) x (stream ++ piece) (answers ++ seen.0) next.0 mid new) i.4
                (subst (λ x. SeesEach (reading_of self) (names_of self) x (answers ++ seen.0) next.0 mid new) whole next.4))),
          ),
      c.push_one.ensures.kinds ∙ i.4,
      only_then _ _ _ i.5 c.push_one.ensures.only,
      c.in_ok-used.ensures.whole ∙ i.6,
    )

pub returns-clause-seen : goal.returns-clause-seen
returns-clause-seen c stream answers h =
    let i = c.loop-rest.invariant in
    let old = c.args.self.now in
    let self = c.loop-rest.self in
    let seen = i.3 stream answers h.watched in
    let all = answers ++ seen.0 in
    let none : c.loop-rest.rest.now ≡ [] = empty c.loop-rest.rest.now (search rules) in
    let whole = sym (i.1 ∙ ap (λ x. i.0 ++ x) none ∙ append-nil i.0) in (
      seen.0,
      record {
        watched = subst (λ x. HasWatched self (stream ++ x) all) whole seen.1;
        taken = subst (λ x. TookAll x self.table (stream ++ c.args.piece.now) all) (sym i.2)
            (subst (λ x. TookAll old.reading self.table (stream ++ x) all) whole
            (taken_then old.reading stream i.0 answers seen.0 old.table self.table h.taken seen.2));
        whole = i.6 ∙ h.whole;
      },
      seen.4,
    )

pub returns-in_err-used-clause-lost : goal.returns-in_err-used-clause-lost
returns-in_err-used-clause-lost c =
    let i = c.loop-rest.invariant in
    let old = c.args.self.now in
    let self = c.loop-rest.self in
    let new = c.push_one.new.self in
    let lines = c.push_one.new.lines.items in
    let piece = c.args.piece.now in
    let lost : (stream : List ℕ) (answers : List (Answer Value)) → HasSeen old stream answers
    → (done rest : List ℕ) × (piece ≡ done ++ rest) × (more : List (Answer Value))
    × HasLost new (stream ++ done) rest (answers ++ more)
    × SeesEach (reading_of old) (names_of old) (stream ++ piece) answers more c.args.lines.now.items lines =
    (λ stream answers h.
    let seen = i.3 stream answers h.watched in
    let all = answers ++ seen.0 in (
      i.0,
      c.loop-rest.rest.now,
      i.1,
      seen.0,
      record {
        missed = c.in_err-used.ensures.stopped (stream ++ i.0) all seen.1;
        taken = subst (λ x. TookAll x new.table (stream ++ i.0) all) (sym (c.in_err-used.ensures.reading ∙ i.2))
            (taken_then old.reading stream i.0 answers seen.0 old.table new.table h.taken
            (takes_still old.reading (stream ++ i.0) answers seen.0 old.table self.table new.table c.in_err-used.ensures.uncounted seen.2));
        lost = c.in_err-used.ensures.lost;
      },
      subst (λ x. SeesEach (reading_of old) (names_of old) (stream ++ piece) answers seen.0 c.args.lines.now.items x)
          (sym c.in_err-used.ensures.unchanged) seen.4,
    )) in
    at_error _ lost

pub returns-clause-watched : goal.returns-clause-watched
returns-clause-watched c stream answers h =
    let i = c.loop-rest.invariant in
    let old = c.args.self.now in
    let self = c.loop-rest.self in
    let seen = i.3 stream answers h in
    let none : c.loop-rest.rest.now ≡ [] = empty c.loop-rest.rest.now (search rules) in
    let whole = sym (i.1 ∙ ap (λ x. i.0 ++ x) none ∙ append-nil i.0) in (
      seen.0,
      subst (λ x. HasWatched self (stream ++ x) (answers ++ seen.0)) whole seen.1,
      subst (λ x. TakesEach (reading_of old) (stream ++ x) answers seen.0 old.table self.table) whole seen.2,
      seen.3,
      seen.4,
    )

pub returns-in_err-used-clause-stopped : goal.returns-in_err-used-clause-stopped
returns-in_err-used-clause-stopped c =
    let i = c.loop-rest.invariant in
    let old = c.args.self.now in
    let self = c.loop-rest.self in
    let new = c.push_one.new.self in
    let lines = c.push_one.new.lines.items in
    let piece = c.args.piece.now in
    let stopped : (stream : List ℕ) (answers : List (Answer Value)) → HasWatched old stream answers
    → (done rest : List ℕ) × (piece ≡ done ++ rest) × (more : List (Answer Value))
    × HasMissed new (stream ++ done) rest (answers ++ more)
    × TakesEach (reading_of old) (stream ++ done) answers more old.table new.table
    × NotesEach (reading_of old) c.args.window more old.table.rows.items new.table.rows.items
    × SeesEach (reading_of old) (names_of old) (stream ++ piece) answers more c.args.lines.now.items lines =
    (λ stream answers h.
    let seen = i.3 stream answers h in (
      i.0,
      c.loop-rest.rest.now,
      i.1,
      seen.0,
      c.in_err-used.ensures.stopped (stream ++ i.0) (answers ++ seen.0) seen.1,
      takes_still (reading_of old) (stream ++ i.0) answers seen.0 old.table self.table new.table c.in_err-used.ensures.uncounted seen.2,
      subst (λ x. NotesEach (reading_of old) c.args.window seen.0 old.table.rows.items x.items) (sym c.in_err-used.ensures.uncounted.rows) seen.3,
      subst (λ x. SeesEach (reading_of old) (names_of old) (stream ++ piece) answers seen.0 c.args.lines.now.items x)
          (sym c.in_err-used.ensures.unchanged) seen.4,
    )) in
    at_error _ stopped
