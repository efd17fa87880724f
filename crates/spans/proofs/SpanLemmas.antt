-- The bytes ahead of a cursor.
use Rattle.std.proofs.Common.{◌≡◌, ℕ, ◌+◌, ◌-◌, ◌≤◌, List, ◌++◌, length, take, drop, sym, ap, ◌∙◌, arith}
use Rattle.std.proofs.Math.Seq.{drop-append-add, drop-append_seam}
use Rattle.std.proofs.lemmas.List.{length-take-le}
use borrow.Rule.Slice.PartMut.{post_of}

-- once count bytes from a place on were written, those ahead of their end are what they were
pub ahead_after : (at count : ℕ) (xs ys : List ℕ) → at ≤ length xs → length ys ≡ count → drop (at + count) (take at xs ++ (ys ++ post_of at (at + count - at) xs)) ≡ drop count (drop at xs)
ahead_after at count xs ys within counted =
    let e : at + count - at ≡ count = omega arith in
    let after = ys ++ post_of at count xs in
    ap (λ k. drop (at + count) (take at xs ++ (ys ++ post_of at k xs))) e
    ∙ ap (λ n. drop (n + count) (take at xs ++ after)) (sym (length-take-le at xs within))
    ∙ drop-append-add (take at xs) after count
    ∙ ap (λ n. drop n after) (sym counted)
    ∙ drop-append_seam ys (post_of at count xs)
