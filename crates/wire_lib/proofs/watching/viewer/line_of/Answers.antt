use Rattle.std.proofs.Common.{◌≡◌, ◌∙◌, ◌⊎◌, inl, inr, ◌<◌, ◌≤◌, ℕ, leb, true, false, List, [], ◌∷◌, ◌++◌, length, take, ap, arith, rules}
use Rattle.std.proofs.lemmas.Bool.Decides.{leb_tells}
use Rattle.std.proofs.lemmas.List.{length-take-le, take_all}
use Rattle.wire_lib.specs.Printable.{shown_text}
use Rattle.wire_lib.proofs.watching.viewer.line_of.Goals as goal

-- nothing was cut off
line_whole : (n : ℕ) (line xs : List ℕ) → line ≡ take n xs → length line < n → line ≡ xs
line_whole n line xs e l = by (leb_tells (length xs) n)
  where
    by : ((leb (length xs) n ≡ true) × (length xs ≤ n)) ⊎ ((leb (length xs) n ≡ false) × (n < length xs)) → line ≡ xs
    by (inl (_, short)) = e ∙ take_all n xs short
    by (inr (_, long)) = absurd (omega (arith, l, ap length e, length-take-le n xs (omega (arith, long)), long))

pub returns : goal.returns
returns c =
    let line = c.in_ok-line.line in
    let whole : line.items ≡ shown_text c.args.text.now =
    line_whole 18446744073709551615 line.items (shown_text c.args.text.now) c.in_ok-line.ensures.text (omega (arith, line.ok.0, line.ok.1, line.small)) in
    let ended : c.push.new.self.items ≡ line.items ++ 10 ∷ [] = search rules in
    ended ∙ ap (λ x. x ++ 10 ∷ []) whole
