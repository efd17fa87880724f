use Rattle.std.proofs.Common.{◌≡◌, ℕ, Bool, List, [], ◌∷◌, Option, Some}
use Rattle.std.specs.List.{AllZip}
use Rattle.postcard_tree.specs.Tree.{Tree, IsTree}
use Rattle.link.specs.Run.{Send, completed, refused, broken, clean_after, IsSend, IsSession}
use Rattle.link.specs.Fates.{IsSendOf}
use Rattle.link_laws.proofs.carried.Goals as goal

module _ {V : Type 0} (takes : Tree → Type 0) (writes : V → Option Tree) (valid : V → Type 0) (taken : (v : V) (t : Tree) → valid v → writes v ≡ Some t → takes t) (limit s : ℕ) where
  send : (v : V) (x : Send) (clean : Bool) → IsSendOf limit (writes v) (valid v) x → IsSend IsTree limit s clean x → IsSend takes limit s clean x
  send v (completed t) clean h k = record { taken = taken v t h.1 h.0; within = k.within }
  send v refused clean h k = k
  send v (broken t n) clean h k = (record { taken = taken v t h.1 h.0; within = k.0.within }, k.1)

  session : (vs : List V) (xs : List Send) (clean : Bool) → AllZip (λ v x. IsSendOf limit (writes v) (valid v) x) vs xs → IsSession IsTree limit s clean xs → IsSession takes limit s clean xs
  session [] [] clean h k = tt
  session [] (x ∷ xs) clean h k = absurd h
  session (v ∷ vs) [] clean h k = absurd h
  session (v ∷ vs) (x ∷ xs) clean h k = (send v x clean h.0 k.0, session vs xs (clean_after clean x) h.1 k.1)

pub returns : goal.returns
returns g c limit s clean xs h k =
    session g.T.Readable.form.takes g.T.Readable.form.writes g.T.Readable.form.valid (λ v t l e. g.T.Readable.form.laws.taken t v (g.met.T.Lawful.reads_back v t l e)) limit s c.args.values.now xs clean h k
