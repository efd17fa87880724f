-- What reading a slice answers.
use Rattle.std.specs.Prelude.{◌≡◌, ℕ, List, true, Result}
use Rattle.std.proofs.Common.{subst, sym}
use Rattle.postcard_tree.specs.declared.error.Error.{Error}
use Rattle.postcard_tree.specs.Tree.{Tree}
use Rattle.postcard_tree.specs.Reading.{Spelled}
use Rattle.postcard_de.specs.Source.{slice_source, Reads, Outcome}
use Rattle.postcard_de.specs.Answer.{ReadsFront, AnswersFronts, read_front, answers_fronts}
use Rattle.schema_table.specs.declared.node.Node.{Node}
use Rattle.schema_table.specs.declared.value.Value.{Value}
use Rattle.schema_table.specs.Schemas.{SchemaTakes, SchemaReads, SchemaRefuses}
use Rattle.schemas.specs.SchemaLaws.{schema_laws}

pub fronts_by : (depth : ℕ) (nodes : List Node) (i : ℕ) (s old new : List ℕ) (r : Result Value Error) → old ≡ s
    → Outcome (slice_source old) (slice_source new) r (Spelled (SchemaReads depth nodes i)) (SchemaRefuses depth nodes i) true → AnswersFronts (SchemaTakes depth nodes i) (SchemaReads depth nodes i) true s r
fronts_by depth nodes i s old new r e h =
    subst (λ z. AnswersFronts (SchemaTakes depth nodes i) (SchemaReads depth nodes i) true z r) e (answers_fronts (schema_laws depth nodes i) old new true r h)

pub front_by : {A : Type 0} (reads : Tree → A → Type 0) (s rest old new : List ℕ) (v : A) → old ≡ s → rest ≡ new
    → Reads (slice_source old) (slice_source new) (Spelled reads) v → ReadsFront reads s rest v
front_by reads s rest old new v e f h =
    subst (λ z. ReadsFront reads z rest v) e (subst (λ z. ReadsFront reads old z v) (sym f) (read_front h))
