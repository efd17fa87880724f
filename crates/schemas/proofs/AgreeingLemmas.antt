-- A schema of a type and the type agree.
use Rattle.std.specs.Prelude.{◌≡◌, ◌++◌, ℕ, List}
use Rattle.std.proofs.Common.{sym, ◌∙◌, ap, subst}
use Rattle.std.proofs.lemmas.List.{append_cancel_left}
use Rattle.postcard_tree.specs.declared.error.Error.{Error}
use Rattle.postcard_tree.specs.Tree.{Tree}
use Rattle.postcard_tree.specs.ReadingLaws.{ReadingLaws}
use Rattle.schema_table.specs.declared.value.Value.{Value}
use Rattle.schema_table.specs.Values.{tree_of}
use Rattle.schemas.specs.TypeSchemas.{AgreesWithItsSchemas}
use Rattle.schemas.proofs.TablesLemmas.{begins_itself}

pub schemas_agree : {A : Type 0} {takes : Tree → Type 0} {reads : Tree → A → Type 0} {refuses : List ℕ → Error → Type 0} {alike : A → A → Type 0} {has : Value → Type 0}
    → ReadingLaws takes reads refuses alike → AgreesWithItsSchemas takes reads refuses has
schemas_agree {A} {takes} {reads} laws nodes place depth schema l =
    let same = schema.same depth nodes l (begins_itself nodes) in
    let kinds = schema.values depth nodes l (begins_itself nodes) in (
      same,
      λ s rest rest' v w h k.
          let t = h.spelled.tree in
          let u = k.spelled.tree in
          let taken : takes t = same.to t h.spelled.read.0 in
          let whole : h.front ++ rest ≡ k.front ++ rest' = sym h.whole ∙ k.whole in
          let once : (h.front ≡ k.front) × (t ≡ u) = laws.once t u h.front k.front rest rest' taken (laws.taken u w k.spelled.read) h.spelled.spells k.spelled.spells whole in
          let equal : h.front ++ rest ≡ h.front ++ rest' = whole ∙ ap (λ z. z ++ rest') (sym once.0) in
          let tree : u ≡ tree_of v = sym once.1 ∙ sym h.spelled.read.1 in
          (append_cancel_left h.front rest rest' equal, subst (λ z. reads z w) tree k.spelled.read, kinds.to v h.spelled.read.2),
    )
