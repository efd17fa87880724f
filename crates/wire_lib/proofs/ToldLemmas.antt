-- What a receiver tells, answer by answer.
use Rattle.std.proofs.Common.{◌≡◌, ℕ, Bool, true, false, ◌&&◌, List, [], ◌∷◌, ◌++◌, take, drop, is_some, refl, sym, ap, ◌∙◌, subst, append_assoc}
use Rattle.std.proofs.lemmas.List.{append-nil, take-append-drop}
use Rattle.schema_table.specs.declared.value.Value.{Value}
use Rattle.link.specs.Stream.{Begun, kept, over}
use Rattle.link.specs.Pushes.{finished}
use Rattle.link.specs.declared.receiver.Answer.{Answer}
use Rattle.link.specs.declared.receiver.Answer.TheVariants as answer
use Rattle.wire_lib.specs.declared.receive.LinesOfFrames.{LinesOfFrames}
use Rattle.wire_lib.specs.Received.{HasGot, is_a_value, are_all_values, as_list}

-- whether all are values, in two parts
all_append : (xs ys : List (Answer Value)) → are_all_values (xs ++ ys) ≡ (are_all_values xs && are_all_values ys)
all_append [] ys = refl
all_append (answer.Value v ∷ xs) ys = all_append xs ys
all_append (answer.Damaged ∷ xs) ys = refl
all_append (answer.TooLong ∷ xs) ys = refl
all_append (answer.Cut ∷ xs) ys = refl

and_then : (a b c : Bool) → ((a && b) && c) ≡ (a && (b && c))
and_then true b c = refl
and_then false b c = refl

-- whether all were values, with more
pub good_then : (a b c : Bool) (xs ys : List (Answer Value)) → b ≡ (a && are_all_values xs) → c ≡ (b && are_all_values ys)
    → c ≡ (a && are_all_values (xs ++ ys))
good_then a b c xs ys e f = f ∙ ap (λ x. x && are_all_values ys) e ∙ and_then a (are_all_values xs) (are_all_values ys)
    ∙ ap (λ x. a && x) (sym (all_append xs ys))

pub good_still : (a : Bool) → a ≡ (a && true)
good_still true = refl
good_still false = refl

-- whether one is
pub one_good : (a : Answer Value) → are_all_values (a ∷ []) ≡ is_a_value a
one_good (answer.Value v) = refl
one_good answer.Damaged = refl
one_good answer.TooLong = refl
one_good answer.Cut = refl

-- none is added
pub told_none : (r : LinesOfFrames) (passed : ℕ) (stream : List ℕ) (xs : List (Answer Value)) → HasGot r passed stream xs → HasGot r passed (stream ++ []) (xs ++ [])
told_none r passed stream xs h = subst (λ x. HasGot r passed x (xs ++ [])) (sym (append-nil stream)) (subst (λ x. HasGot r passed stream x) (sym (append-nil xs)) h)

-- some, and then others
pub told_then : (r : LinesOfFrames) (passed : ℕ) (stream x y : List ℕ) (xs ys zs : List (Answer Value)) → HasGot r passed ((stream ++ x) ++ y) ((xs ++ ys) ++ zs) → HasGot r passed (stream ++ (x ++ y)) (xs ++ (ys ++ zs))
told_then r passed stream x y xs ys zs h = subst (λ z. HasGot r passed z (xs ++ (ys ++ zs))) (append_assoc stream x y) (subst (λ z. HasGot r passed ((stream ++ x) ++ y) z) (append_assoc xs ys zs) h)

-- a piece in one part more
pub parts_on : (piece done rest : List ℕ) (used : ℕ) → piece ≡ done ++ rest → piece ≡ (done ++ take used rest) ++ drop used rest
parts_on piece done rest used e = e ∙ sym (append_assoc done (take used rest) (drop used rest) ∙ ap (λ x. done ++ x) (take-append-drop used rest))

never : (a : Bool) → false ≡ (a && false)
never true = refl
never false = refl

-- where the end adds a result, not all are values
pub ends_badly : (a : Bool) (b : Begun) → is_some (finished {V = Value} b) ≡ true → false ≡ (a && are_all_values (as_list (finished b)))
ends_badly a (kept []) h = cc
ends_badly a (kept (x ∷ p)) h = never a
ends_badly a over h = cc

-- where it adds none, nothing changes
pub ends_well : (a : Bool) (b : Begun) → is_some (finished {V = Value} b) ≡ false → a ≡ (a && are_all_values (as_list (finished b)))
ends_well a (kept []) h = good_still a
ends_well a (kept (x ∷ p)) h = cc
ends_well a over h = good_still a
