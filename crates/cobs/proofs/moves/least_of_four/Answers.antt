use Rattle.std.proofs.Common.{◌≡◌, ◌∙◌, ℕ, List, length, sym, arith}
use Rattle.cobs.specs.Codes.{Positive}
use Rattle.cobs.proofs.LanesLemmas.{lesser_of, lesser_length, lesser_lane}
use Rattle.cobs.proofs.moves.least_of_four.Goals as goal

-- the lesser lanes of what was met so far and of one more
long : (a b : List ℕ) → length a ≡ 64 → length b ≡ 64 → length (lesser_of a b) ≡ 64
long a b l m = lesser_length a b (l ∙ sym m) ∙ l

lanes : (a b : List ℕ) → length a ≡ 64 → length b ≡ 64 → Positive 64 (lesser_of a b) → Positive 64 a × Positive 64 b
lanes a b l m some = (
  λ j q. omega (arith, some j q, (lesser_lane a b j (l ∙ sym m) (omega (arith, l, q))).0),
  λ j q. omega (arith, some j q, (lesser_lane a b j (l ∙ sym m) (omega (arith, l, q))).1),
)

pub returns-clause-long : goal.returns-clause-long
returns-clause-long c =
    let two = long c.args.a c.args.b c.requires.0 c.requires.1 in
    let three = long (lesser_of c.args.a c.args.b) c.args.c two c.requires.2 in
    long (lesser_of (lesser_of c.args.a c.args.b) c.args.c) c.args.d three c.requires.3

pub returns-clause-lanes : goal.returns-clause-lanes
returns-clause-lanes c = λ some.
    let ab = lesser_of c.args.a c.args.b in
    let abc = lesser_of ab c.args.c in
    let two = long c.args.a c.args.b c.requires.0 c.requires.1 in
    let three = long ab c.args.c two c.requires.2 in
    let of_three : Positive 64 abc × Positive 64 c.args.d = lanes abc c.args.d three c.requires.3 some in
    let of_two : Positive 64 ab × Positive 64 c.args.c = lanes ab c.args.c two c.requires.2 of_three.0 in
    let of_one : Positive 64 c.args.a × Positive 64 c.args.b = lanes c.args.a c.args.b c.requires.0 c.requires.1 of_two.0 in
    (of_one.0, of_one.1, of_two.1, of_three.1)
