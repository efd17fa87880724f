-- Sessions of one sender, one behind the other, are a session; and runs are a run.
use Rattle.std.proofs.Common.{◌≡◌, ℕ, ◌+◌, ◌*◌, ◌≤◌, Bool, false, List, [], ◌∷◌, ◌++◌, length, map, Option, refl, sym, ap, ◌∙◌, subst, inl, inr, arith, append_assoc, length-append}
use Rattle.std.proofs.Math.Nat.{mul-add, mul-one}
use Rattle.std.proofs.lemmas.List.{map-append}
use Rattle.line_io.specs.Device.{LineState}
use Rattle.line_io.specs.Calls.{Wrote-none, Wrote-then}
use Rattle.postcard_tree.specs.Tree.{Tree, IsTree}
use Rattle.link.specs.Link.{Send, written, clean_after, session_line, line, IsSession, IsRun, IsSendOf, fate_of, brokens, clean_after_all, Did, FewBroke, SendsAll}
use Rattle.link.specs.declared.session.Fate.{Fate}
use Rattle.link.specs.Lemmas.HeardLaws.{zip_joined}

pub clean_then : (clean : Bool) (xs ys : List Send) → clean_after_all clean (xs ++ ys) ≡ clean_after_all (clean_after_all clean xs) ys
clean_then clean [] ys = refl
clean_then clean (x ∷ xs) ys = clean_then (clean_after clean x) xs ys

brokens_then : (xs ys : List Send) → brokens (xs ++ ys) ≡ brokens xs + brokens ys
brokens_then [] ys = omega arith
brokens_then (x ∷ xs) ys = omega (arith, brokens_then xs ys)

pub line_then : (s : ℕ) (clean : Bool) (xs ys : List Send) → session_line s clean (xs ++ ys) ≡ session_line s clean xs ++ session_line s (clean_after_all clean xs) ys
line_then s clean [] ys = refl
line_then s clean (x ∷ xs) ys = ap (λ b. written s clean x ++ b) (line_then s (clean_after clean x) xs ys)
    ∙ sym (append_assoc (written s clean x) (session_line s (clean_after clean x) xs) (session_line s (clean_after_all (clean_after clean x) xs) ys))

session_then : (limit s : ℕ) (clean : Bool) (xs ys : List Send) → IsSession IsTree limit s clean xs → IsSession IsTree limit s (clean_after_all clean xs) ys → IsSession IsTree limit s clean (xs ++ ys)
session_then limit s clean [] ys h k = k
session_then limit s clean (x ∷ xs) ys h k = (h.0, session_then limit s (clean_after clean x) xs ys h.1 k)

pub runs_joined : (takes : Tree → Type 0) (limit s : ℕ) (run later : List (List Send))
    → IsRun takes limit s run → IsRun takes limit s later → IsRun takes limit s (run ++ later)
runs_joined takes limit s [] later d e = e
runs_joined takes limit s (xs ∷ run) later d e = (d.0, runs_joined takes limit s run later d.1 e)

pub lines_joined : (s : ℕ) (run later : List (List Send))
    → line s (run ++ later) ≡ line s run ++ line s later
lines_joined s [] later = refl
lines_joined s (xs ∷ run) later = ap (λ z. session_line s false xs ++ z) (lines_joined s run later)
    ∙ sym (append_assoc (session_line s false xs) (line s run) (line s later))

few_then : (u v w : LineState) (m n k : ℕ) → FewBroke u v m → FewBroke v w n → w.calls_left ≤ v.calls_left → v.faults ≤ w.faults → k ≡ m + n → FewBroke u w k
few_then u v w m n k (inl p) (inl q) l z e = inl (omega arith)
few_then u v w m n k (inl p) (inr q) l z e = inr q
few_then u v w m n k (inr p) q l z e = inr (omega arith)

did_then : (u v w : LineState) (a b : List ℕ) (m n : ℕ) → Did u v a m → Did v w b n → Did u w (a ++ b) (m + n)
did_then u v w a b m n p q = record {
  wrote = Wrote-then u v w a b p.wrote q.wrote;
  few = few_then u v w m n (m + n) p.few q.few q.calls q.wrote.more refl;
  once = omega (arith, p.once, q.once);
  calls = omega (arith, p.calls, q.calls);
}

-- so many calls for each of some values, and for each of others
calls_then : {V : Type 0} (each a b c : ℕ) (vs ws : List V) → a ≤ b + each * length vs → b ≤ c + each * length ws → a ≤ c + each * length (vs ++ ws)
calls_then each a b c vs ws p q =
    let parts : each * length (vs ++ ws) ≡ each * length vs + each * length ws = ap (λ n. each * n) (length-append vs ws) ∙ mul-add each (length vs) (length ws) in
    omega (arith, p, q, parts)

-- and for one
pub calls_of_one : {V : Type 0} (each a b : ℕ) (v : V) → a ≤ b + each → a ≤ b + each * length (v ∷ [])
calls_of_one each a b v p = let one : each * length (v ∷ []) ≡ each = mul-one each in omega (arith, p, one)

module _ {V : Type 0} (limit s : ℕ) (writes : V → Option Tree) (valid : V → Type 0) where
  pub none_sent : (clean : Bool) (w : LineState) → SendsAll limit s writes valid clean clean w w [] []
  none_sent clean w = record { sends = []; are = tt; of = tt; fated = refl; did = record { wrote = Wrote-none w; few = inl (omega arith); once = omega arith; calls = omega arith }; few = omega arith; then = refl }

  -- values, and then values
  pub sends_then : (clean now later : Bool) (u v w : LineState) (vs ws : List V) (fs gs : List Fate) → SendsAll limit s writes valid clean now u v vs fs
      → SendsAll limit s writes valid now later v w ws gs → SendsAll limit s writes valid clean later u w (vs ++ ws) (fs ++ gs)
  sends_then clean now later u v w vs ws fs gs p q =
      let xs = p.sends in
      let ys = q.sends in
      let line = line_then s clean xs ys ∙ ap (λ z. session_line s clean xs ++ session_line s z ys) (sym p.then) in
      record {
        sends = xs ++ ys;
        are = session_then limit s clean xs ys p.are (subst (λ z. IsSession IsTree limit s z ys) p.then q.are);
        of = zip_joined (λ v x. IsSendOf limit (writes v) (valid v) x) vs ws xs ys p.of q.of;
        fated = ap (λ l. l ++ gs) p.fated ∙ ap (λ l. map fate_of xs ++ l) q.fated ∙ sym (map-append fate_of xs ys);
        did = subst (λ n. Did u w (session_line s clean (xs ++ ys)) n) (sym (brokens_then xs ys))
            (subst (λ b. Did u w b (brokens xs + brokens ys)) (sym line) (did_then _ _ _ (session_line s clean xs) (session_line s now ys) (brokens xs) (brokens ys) p.did q.did));
        few = calls_then (limit + 2) u.calls_left v.calls_left w.calls_left vs ws p.few q.few;
        then = q.then ∙ ap (λ z. clean_after_all z ys) p.then ∙ sym (clean_then clean xs ys);
      }
