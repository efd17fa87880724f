-- What is in a receiver's buffer after bytes were held, and after a frame was decoded there.
use Rattle.std.proofs.Common.{◌≡◌, ◌≢◌, ℕ, zero, suc, ◌+◌, ◌≤◌, List, [], ◌∷◌, ◌++◌, length, take, drop, Some, None, refl, sym, ap, subst, ◌∙◌, arith, length-append, length-drop}
use Rattle.std.proofs.lemmas.List.{length-take-le, take-append-le, take_at}
use Rattle.cobs.specs.Frames.{Frame, NoZero}
use Rattle.cobs.specs.InPlace.{written_over}
use Rattle.cobs.specs.Sentinel.{masked}
use Rattle.link.specs.Filled.{IsMessageOf}
use Rattle.link.specs.Lemmas.MaskLaws.{unmasked}

-- a buffer after bytes were written behind what it held
front_of_both : (x rest : List ℕ) → take (length x) (x ++ rest) ≡ x
front_of_both [] rest = refl
front_of_both (b ∷ x) rest = ap (λ y. b ∷ y) (front_of_both x rest)

pub front_written : (n m : ℕ) (old x rest : List ℕ) → n ≤ length old → m ≡ n + length x → take m (take n old ++ (x ++ rest)) ≡ take n old ++ x
front_written zero m old x rest l e = ap (λ k. take k (x ++ rest)) (omega (arith, e)) ∙ front_of_both x rest
front_written (suc n) m [] x rest l e = absurd (omega (arith, l))
front_written (suc n) zero (b ∷ old) x rest l e = absurd (omega (arith, e))
front_written (suc n) (suc m) (b ∷ old) x rest l e = ap (λ y. b ∷ y) (front_written n m old x rest (omega (arith, l)) (omega (arith, e)))

pub written_length : (n : ℕ) (old x : List ℕ) → n + length x ≤ length old → length (written_over n x old) ≡ length old
written_length n old x l =
    omega (arith, l, length-append (take n old) (x ++ drop (n + length x) old), length-append x (drop (n + length x) old), length-drop (n + length x) old, length-take-le n old (omega (arith, l)))

-- what was held has no zero, also once it is XORed with zero
pub clear_unmasked : (held : List ℕ) → NoZero held → NoZero (masked 0 held)
clear_unmasked held z = subst NoZero (sym (unmasked held)) z

-- the message of what was held, before a rest
pub message_before : (size : ℕ) (held new rest : List ℕ) → size ≤ length held → length new ≡ length held
    → (masked 0 held ≢ [] → Frame (masked 0 held) (take size new)) → IsMessageOf held (Some size) (new ++ rest)
message_before size held new rest w l h =
    let n : size ≤ length new = omega (arith, w, l) in
    subst (λ x. IsMessageOf x (Some size) (new ++ rest)) (unmasked held) record {
      within = omega (arith, n, length-append new rest);
      message = λ some. subst (λ x. Frame (masked 0 held) x) (sym (take-append-le size new rest n)) (h some);
      no_frame = tt;
    }

-- that what was held is no frame
pub damage_before : (held new : List ℕ) → ((m : List ℕ) → Frame (masked 0 held) m → ⊥) → IsMessageOf held None new
damage_before held new h = subst (λ x. IsMessageOf x None new) (unmasked held) record { within = tt; message = tt; no_frame = h }

-- a vector after its bytes were replaced
pub refilled : (n : ℕ) (items new : List ℕ) → n ≡ length items → length new ≡ length items → take n (new ++ drop (length new) items) ≡ new
refilled n items new l e = take_at new (drop (length new) items) n (omega (arith, l, e))
