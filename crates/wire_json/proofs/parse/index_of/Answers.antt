use Rattle.std.specs.Prelude.{◌≡◌, ◌≢◌, Some, length, refl, string_bytes}
use Rattle.std.specs.List.{slice_get}
use Rattle.std.proofs.Common.{arith, ap, inl, inr, rules}
use Rattle.std.proofs.lemmas.Bool.{cases_lt}
use Rattle.std.proofs.lemmas.Option.{slice_get_read}
use Rattle.schema_table.specs.Looks.{variant_named}
use Rattle.wire_json.proofs.ParsedLemmas.{named_at}
use Rattle.wire_json.proofs.LeafRefusals.{below_next, none_below, not_named, unnamed}
use Rattle.wire_json.proofs.parse.index_of.Goals as goal

pub returns-then-eq-clause-some : goal.returns-then-eq-clause-some
returns-then-eq-clause-some c =
    let all = c.deref-name-items.result.now in
    let found : slice_get all c.loop-name.name-index ≡ Some c.name-item.result = slice_get_read all (length all) c.loop-name.name-index c.name-item.result refl c.loop-name-test.true c.name-item.is in
    let same : string_bytes c.name-item.result ≡ c.args.wanted.now = search rules in
    (named_at c.args.names.now c.in-Variants.names c.loop-name.index c.name-item.result c.args.wanted.now c.in-Variants.is (rw c.loop-name.invariant.0 (rw c.deref-name-items.ensures.value at found)) same, c.loop-name.invariant.1)

pub loop-name-preserved : goal.loop-name-preserved
loop-name-preserved c =
    let all = c.deref-name-items.result.now in
    let found : slice_get all c.loop-name.name-index ≡ Some c.name-item.result = slice_get_read all (length all) c.loop-name.name-index c.name-item.result refl c.loop-name-test.true c.name-item.is in
    let other : string_bytes c.name-item.result ≢ c.args.wanted.now = search rules in
    let here = not_named c.args.names.now c.in-Variants.names c.loop-name.index c.name-item.result c.args.wanted.now c.in-Variants.is (rw c.loop-name.invariant.0 (rw c.deref-name-items.ensures.value at found)) other in
    (omega (arith, c.in_ok-index.ensures.1, c.loop-name.invariant.0), below_next (λ m. variant_named (Some c.args.names.now) m ≢ Some c.args.wanted.now) c.loop-name.index c.in_ok-index.index c.in_ok-index.ensures.1 c.loop-name.invariant.1 here)

pub returns-in_err-index-clause-none : goal.returns-in_err-index-clause-none
returns-in_err-index-clause-none c =
    let all = c.deref-name-items.result.now in
    let found : slice_get all c.loop-name.name-index ≡ Some c.name-item.result = slice_get_read all (length all) c.loop-name.name-index c.name-item.result refl c.loop-name-test.true c.name-item.is in
    let other : string_bytes c.name-item.result ≢ c.args.wanted.now = search rules in
    let here = not_named c.args.names.now c.in-Variants.names c.loop-name.index c.name-item.result c.args.wanted.now c.in-Variants.is (rw c.loop-name.invariant.0 (rw c.deref-name-items.ensures.value at found)) other in
    rw c.from_residual.ensures (λ n l. none_below (λ m. variant_named (Some c.args.names.now) m ≢ Some c.args.wanted.now) c.loop-name.index n 4294967296 c.in_err-index.ensures c.loop-name.invariant.1 here l)

pub returns-clause-none : goal.returns-clause-none
returns-clause-none c n l e = elim (cases_lt n c.loop-name.index) [ inl m ↦ c.loop-name.invariant.1 n m e | inr m ↦ unnamed c.args.names.now c.in-Variants.names n c.args.wanted.now c.in-Variants.is (omega (arith, m, c.loop-name.invariant.0, c.loop-name-test.false, ap length c.deref-name-items.ensures.value)) e ]
