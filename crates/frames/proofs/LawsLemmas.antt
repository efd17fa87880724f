-- What is heard of plain messages that broke off, and what a counted one stands for.
use Rattle.std.specs.Prelude.{◌^◌, ◌⊎◌}
use Rattle.std.specs.List.{AllZip}
use Rattle.std.proofs.Common.{◌≡◌, ℕ, ◌<◌, ◌≤◌, List, [], ◌∷◌, ◌++◌, length, refl, sym, ap, ◌∙◌, subst, inl, inr, arith}
use Rattle.cobs.specs.Frames.{NoZero, shortest_frame}
use Rattle.cobs.specs.FrameLaws.{HasOneMessage, HasOneShortest, HoldsNoZero, FrontsBeginProperly}
use Rattle.postcard_tree.specs.Tree.{bytes_of, count_of}
use Rattle.postcard_tree.specs.Reading.{TakesByte, TakesAll, ReadsByte, ReadsAll}
use Rattle.link.specs.Stream.{Verdict, value, damaged, too_long, cut, IsAnswer, Answers, ended, unfinished}
use Rattle.link.specs.Lemmas.Pieces.{ended_at, unfinished_at}
use Rattle.link.specs.Lemmas.HeardLaws.{heard_unskip, at_end}
use Rattle.frames.specs.Events.{HoldsPlain, plain_tree}
use Rattle.frames.specs.PlainLaws.{IsDamagedOrFront, IsHeardOfFront, IsHeardOfBroken, IsHeardWhole}
use Rattle.frames.specs.CountedLaws.{IsCountedOnce}

pub heard_of_front : FrontsBeginProperly → HasOneShortest → IsHeardOfFront
heard_of_front begins one message front rest limit (value t) e n l h =
    let k = begins (shortest_frame message) message front rest h.1.0 (one message).0 e n h.1.2 in
    inr (h.1.0, k.0, k.1, k.2, ap value h.1.1)
heard_of_front begins one message front rest limit damaged e n l h = inl refl
heard_of_front begins one message front rest limit too_long e n l h = absurd (omega (arith, l, h))
heard_of_front begins one message front rest limit cut e n l h = absurd h

front_nonzero : (front rest : List ℕ) → NoZero (front ++ rest) → NoZero front
front_nonzero [] rest z = tt
front_nonzero (b ∷ front) rest z = (z.0, front_nonzero front rest z.1)

pub heard_of_broken : HoldsNoZero → FrontsBeginProperly → HasOneShortest → IsHeardOfBroken
heard_of_broken zero begins one s limit message [] rest later answers e n h = inl (refl, heard_unskip (IsAnswer HoldsPlain limit) (at_end limit) s later answers h)
heard_of_broken zero begins one s limit message (b ∷ p) rest later answers e n h =
    let z = front_nonzero (b ∷ p) rest (subst NoZero e (zero (shortest_frame message) message (one message).0.is_frame)) in
    first h.done (subst (λ ps. AllZip (IsAnswer HoldsPlain limit) ps h.done) (ended_at s b p later z) h.each) (h.whole ∙ ap (λ q. h.done ++ at_end limit q) (unfinished_at s (b ∷ p) later z))
  where
    said : (answer : Verdict) → IsAnswer HoldsPlain limit (b ∷ p) answer → (answer ≡ too_long) ⊎ IsDamagedOrFront message answer
    said (value t) i = inr (heard_of_front begins one message (b ∷ p) rest limit (value t) e n i.0 i)
    said damaged i = inr (inl refl)
    said too_long i = inl refl
    said cut i = absurd i

    first : (done : List Verdict) → AllZip (IsAnswer HoldsPlain limit) ((b ∷ p) ∷ ended s later) done → answers ≡ done ++ at_end limit (unfinished s later)
        → ((b ∷ p ≡ []) × Answers HoldsPlain limit s later answers)
        ⊎ ((answer : Verdict) × (others : List Verdict) × (answers ≡ answer ∷ others) × Answers HoldsPlain limit s later others × ((answer ≡ too_long) ⊎ IsDamagedOrFront message answer))
    first [] i w = absurd i
    first (a ∷ done) i w = inr (a, done ++ at_end limit (unfinished s later), w, record { done = done; each = i.1; whole = refl }, said a i.0)

whole_message : HasOneMessage → HasOneShortest → (message : List ℕ) (limit : ℕ) (answer : Verdict) → length (shortest_frame message) ≤ limit
    → IsAnswer HoldsPlain limit (shortest_frame message) answer → answer ≡ value (plain_tree message)
whole_message same one message limit (value t) l h =
    let e : h.1.0 ≡ message = same (shortest_frame message) h.1.0 h.1.2 ∙ sym (same (shortest_frame message) message (one message).0.is_frame) in
    ap value (h.1.1 ∙ ap plain_tree e)
whole_message same one message limit damaged l h = absurd (h.1 (plain_tree message) (message, refl, (one message).0.is_frame))
whole_message same one message limit too_long l h = absurd (omega (arith, l, h))
whole_message same one message limit cut l h = absurd h

pub heard_whole : HasOneMessage → HasOneShortest → IsHeardWhole
heard_whole same one message limit answer l = (
  whole_message same one message limit answer l,
  λ e. subst (IsAnswer HoldsPlain limit (shortest_frame message)) (sym e) (l, (message, refl, (one message).0.is_frame)),
)

count_bytes : (m : List ℕ) → count_of (bytes_of m) ≡ length m
count_bytes [] = refl
count_bytes (b ∷ m) = let e = count_bytes m in omega (arith, e)

takes_bytes : (m : List ℕ) → TakesAll TakesByte (bytes_of m)
takes_bytes [] = tt
takes_bytes (b ∷ m) = (tt, takes_bytes m)

reads_itself : (m : List ℕ) → ReadsAll ReadsByte (bytes_of m) m
reads_itself [] = tt
reads_itself (b ∷ m) = (refl, reads_itself m)

reads_alone : (m v : List ℕ) → ReadsAll ReadsByte (bytes_of m) v → v ≡ m
reads_alone [] [] h = refl
reads_alone [] (x ∷ v) h = absurd h
reads_alone (b ∷ m) [] h = absurd h
reads_alone (b ∷ m) (x ∷ v) h = let e : x ≡ b = h.0 in let f = reads_alone m v h.1 in cc

pub counted_once : IsCountedOnce
counted_once message l =
    let n : count_of (bytes_of message) < 2 ^ 64 = omega (arith, l, count_bytes message) in (
      (n, takes_bytes message),
      λ v. (λ h. reads_alone message v h.1, λ e. (n, subst (ReadsAll ReadsByte (bytes_of message)) (sym e) (reads_itself message))),
    )
