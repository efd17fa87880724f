-- Bytes that are put one after another.
use Rattle.std.proofs.Common.{◌≡◌, ℕ, ◌+◌, ◌≤◌, ◌<◌, List, [], ◌∷◌, ◌++◌, length, take, drop, refl, sym, ap, subst, ◌∙◌, append_assoc, arith}
use Rattle.std.proofs.lemmas.List.{append-nil, length-take-le, take-append-le}
use Rattle.std.proofs.Math.Seq.{take-append-add}
use borrow.Rule.Slice.PartMut.{put_mid}
use Rattle.std.specs.Prelude.{Result, Ok, Err, OnErr, slice_set}
use Rattle.line_io.specs.Device.{LineState}
use Rattle.line_io.specs.Transfers.{whole, broken}
use Rattle.framed_lib.specs.Output.{WritingByFew, Puts}
pub use Rattle.framed_lib.specs.Output.{few-ok, few-err, few-none, few-then, few-broke, few-more, put-none, put-then, put-broke}

-- what was held goes out, and then the bytes
pub put-through : {u v w : LineState} {front held kept bytes : List ℕ} → front ≡ held → kept ≡ [] → WritingByFew u v whole front
    → WritingByFew v w whole bytes → Puts u w held kept bytes
put-through {front = front} {bytes = bytes} e k p q = record {
  sent = front ++ bytes;
  bytes_are = ap (λ x. x ++ bytes) (sym e) ∙ (sym (append-nil (front ++ bytes)) ∙ ap (λ x. (front ++ bytes) ++ x) (sym k));
  went = few-then p q;
}

pub broke-through : {u v w : LineState} {front held bytes : List ℕ} → front ≡ held → WritingByFew u v whole front
    → WritingByFew v w broken bytes → WritingByFew u w broken (held ++ bytes)
broke-through {u = u} {w = w} {bytes = bytes} e p q = subst (λ (x : List ℕ). WritingByFew u w broken (x ++ bytes)) e (few-broke p q)

-- the first bytes were put, and then others
pub put-done : {u v w : LineState} {x y z a b : List ℕ} (all : List ℕ) → all ≡ a ++ b → Puts u v x y a → Puts v w y z b
    → Puts u w x z all
put-done {u = u} {w = w} {x = x} {z = z} all e p q = let P : List ℕ → Type 0 = λ t. Puts u w x z t in subst P (sym e) (put-then p q)

-- the first bytes were put, and then the device broke off
pub put-breaks : {u v w : LineState} {x y a : List ℕ} (all b c : List ℕ) → all ≡ a ++ (b ++ c) → Puts u v x y a
    → WritingByFew v w broken (y ++ b) → WritingByFew u w broken (x ++ all)
put-breaks {u = u} {w = w} {x = x} {y = y} {a = a} all b c e p q =
    let more : WritingByFew u w broken ((x ++ (a ++ b)) ++ c) = few-more c (put-broke b p q) in
    let same : (x ++ (a ++ b)) ++ c ≡ x ++ all = rw e (simp append_assoc) in
    let P : List ℕ → Type 0 = λ t. WritingByFew u w broken t in
    subst P same more

-- what is held goes out
pub put-flush : {u v w : LineState} {x y a : List ℕ} → Puts u v x y a → WritingByFew v w broken y → WritingByFew u w broken (x ++ a)
put-flush {u = u} {w = w} p q =
    let P : List ℕ → Type 0 = λ t. WritingByFew u w broken t in subst P (sym p.bytes_are) (few-broke p.went q)

-- the same, where they go out
pub put-went : {u v w : LineState} {x y a : List ℕ} → Puts u v x y a → WritingByFew v w whole y → WritingByFew u w whole (x ++ a)
put-went {u = u} {w = w} p q =
    let P : List ℕ → Type 0 = λ t. WritingByFew u w whole t in subst P (sym p.bytes_are) (few-then p.went q)

pub on_err : {T E P : Type 0} (r : Result T E) → P → OnErr r P
on_err (Ok x) p = tt
on_err (Err e) p = p

-- bytes that are put behind those in a room, of which nothing goes out
pub put-placed : (w : LineState) (held count k : ℕ) (room new x : List ℕ) → held ≤ length room → count ≤ length new → take count new ≡ x
    → Puts w w (take held room) (take (held + count) (put_mid held k room new)) x
put-placed w held count k room new x l c e =
    let p = take held room in
    let rest = drop k (drop held room) in
    record {
      sent = [];
      bytes_are =
          sym (
          ap (λ n. take (n + count) (p ++ (new ++ rest))) (sym (length-take-le held room l))
          ∙ take-append-add p (new ++ rest) count
          ∙ ap (λ y. p ++ y) (take-append-le count new rest c ∙ e)
          );
      went = few-none w;
    }

-- what is held goes out, and nothing is put
pub put-away : {u v : LineState} (held room : List ℕ) → WritingByFew u v whole held → Puts u v held (take 0 room) []
put-away held room w = record { sent = held; bytes_are = refl; went = w }

-- bytes were put, and then what is held was written or not
pub put-settled : {u v w : LineState} {x y z a : List ℕ} → Puts u v x y a → Puts v w y z [] → Puts u w x z a
put-settled {a = a} p q = put-done a (sym (append-nil a)) p q

-- the first of the bytes is the one that was set
pub first-set : (room : List ℕ) (x : ℕ) → 0 < length room → take 1 (slice_set room 0 x) ≡ x ∷ []
first-set [] x l = absurd (omega arith)
first-set (y ∷ room) x l = refl
