use Rattle.std.proofs.Common.{◌+◌, arith}
use Rattle.wire_lib.proofs.SizesLemmas.{optional_is, optional_within, some_same, none_within, past_64}
use Rattle.wire_lib.proofs.sizes.optional.Goals as goal

pub returns-clause-some : goal.returns-clause-some
returns-clause-some c = optional_is c.in_ok-size.size c.args.inner c.checked_add.result c.in_ok-size.was c.checked_add.ensures

pub returns-in_err-size-clause-none : goal.returns-in_err-size-clause-none
returns-in_err-size-clause-none c h m e =
    let w = optional_within c.args.inner m e in
    none_within _ c.in_err-size.was w.0 w.1

pub returns-clause-none : goal.returns-clause-none
returns-clause-none c h m e =
    let a = c.in_ok-size.size in
    let w = optional_within c.args.inner m e in
    omega (arith, past_64 c.checked_add.result (a + 1) c.checked_add.ensures h, some_same w.0 a c.args.inner w.1 c.in_ok-size.was, w.2)
