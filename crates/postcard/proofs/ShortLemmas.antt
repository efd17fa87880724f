-- Frames of few bytes.
use Rattle.std.proofs.Common.{◌≡◌, ℕ, zero, suc, ◌+◌, ◌<◌, ◌≤◌, List, [], ◌∷◌, ◌++◌, length, take, drop, refl, sym, ap, ◌∙◌, subst, arith, Option, Some, None}
use Rattle.std.proofs.lemmas.List.{length_push, take_more_set}
use Rattle.std.proofs.lemmas.Bool.{ne_eqb}
use Rattle.std.specs.Prelude.{slice_set}
use Rattle.cobs.specs.Frames.{block, longest_from, shortest_from, longest_frame, shortest_frame}
use Rattle.cobs.specs.Sentinel.{masked, frame_for}
use Rattle.postcard_tree.specs.Tree.{Tree}
use Rattle.postcard_tree.specs.Spelling.{short}
use Rattle.postcard.specs.Written.{WrittenWhole, UnlessRefused}

-- fewer than 254 bytes have one frame
pub few : (run bytes : List ℕ) → length run + length bytes < 254 → longest_from run bytes ≡ shortest_from run bytes
few run [] l = refl
few run (zero ∷ bytes) l = rw (ne_eqb (length run) 254 (λ e. omega (arith, l, e))) (ap (λ f. block run ++ f) (few [] bytes (omega (arith, l))))
few run (suc byte ∷ bytes) l =
    rw (ne_eqb (suc byte) 0 (λ e. omega (arith, e)), ne_eqb (length run) 254 (λ e. omega (arith, l, e)), ne_eqb (length run) 253 (λ e. omega (arith, l, e)))
    (few (run ++ suc byte ∷ []) bytes (omega (arith, l, length_push run (suc byte))))

pub one_frame : (m : List ℕ) → length m < 254 → shortest_frame m ≡ longest_frame m
one_frame m l = sym (few [] m (omega (arith, l)))

take_few : {A : Type 0} (n : ℕ) (x : List A) → length (take n x) ≤ n
take_few zero x = omega arith
take_few (suc n) [] = omega arith
take_few (suc n) (a ∷ x) = omega (arith, take_few n x)

-- the frame of a value of so few bytes, and the sentinel behind it
pub framed : (o : Option Tree) (n end s : ℕ) (x y : List ℕ) → WrittenWhole o (λ bytes. take n (drop 1 x) ≡ bytes) → n ≤ 253 → end < length y → take end y ≡ frame_for s (take n (drop 1 x)) → WrittenWhole o (λ bytes. take (end + 1) (slice_set y end s) ≡ masked s (longest_frame bytes) ++ s ∷ [])
framed None n end s x y w l i e = w
framed (Some tree) n end s x y w l i e =
    (w.0, take_more_set y end s i ∙ ap (λ f. f ++ s ∷ []) (e ∙ ap (masked s) (one_frame (take n (drop 1 x)) (omega (arith, l, take_few n (drop 1 x))) ∙ ap longest_frame w.1)))

-- how long they are
pub measured : (o : Option Tree) (n end : ℕ) (x : List ℕ) → WrittenWhole o (λ bytes. take n (drop 1 x) ≡ bytes) → n ≤ 253 → end ≡ length (shortest_frame (take n (drop 1 x))) → UnlessRefused o (λ bytes. end + 1 ≡ length (longest_frame bytes) + 1)
measured None n end x w l e = absurd w
measured (Some tree) n end x w l e = ap (λ k. k + 1) (e ∙ ap length (one_frame (take n (drop 1 x)) (omega (arith, l, take_few n (drop 1 x))) ∙ ap longest_frame w.1))
