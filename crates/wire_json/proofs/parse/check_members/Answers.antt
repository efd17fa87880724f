use Rattle.std.proofs.Common.{◌≡◌, ◌<◌, ◌≤◌, ◌≢◌, get_or, length, refl, arith, ap}
use Rattle.json.specs.Value.{members_view}
use Rattle.wire_json.specs.Meant.{AreNamedOnce, AreNamed, IsOneOf}
use Rattle.wire_json.proofs.LeafRefusals.{as_many, named_all, named_apart, not_only, unknown_member}
use Rattle.wire_json.proofs.parse.check_members.Goals as goal

pub returns-then-len-clause-known : goal.returns-then-len-clause-known
returns-then-len-clause-known c = as_many c.args.names.now c.in-Fields-Object.names c.args.json.now c.in-Fields-Object.members c.in-Fields-Object.is-0 c.in-Fields-Object.is-1 (omega (arith, c.len.ensures, c.len-2.ensures, c.if-len.true))

pub returns-then-not-has_name-clause-refused : goal.returns-then-not-has_name-clause-refused
returns-then-not-has_name-clause-refused c wrong =
    let ms = c.in-Fields-Object.members.items in
    let ns = c.in-Fields-Object.names.items in
    let other : length ms ≢ length ns = λ e. c.if-len.false (omega (arith, e, c.len.ensures, c.len-2.ensures)) in
    let item = c.loop-key-item.result in
    let within : c.loop-key.key-index < length ms = omega (arith, c.loop-key-test.true, ap length c.deref-key-items.ensures.value) in
    let unknown : IsOneOf item.0.now ns → ⊥ = rw c.deref.ensures.value at (c.if-not-has_name.ensures.absent refl) in
    let is : item ≡ get_or ms c.loop-key.key-index item = rw c.deref-key-items.ensures.value at c.loop-key-item.is in
    not_only c.args.names.now c.in-Fields-Object.names c.args.json.now c.in-Fields-Object.members c.in-Fields-Object.is-0 c.in-Fields-Object.is-1 other
    (λ named apart. unknown_member ns ms c.loop-key.key-index item within is unknown named)

pub returns-in-Some-clause-refused : goal.returns-in-Some-clause-refused
returns-in-Some-clause-refused c wrong =
    let ms = c.in-Fields-Object.members.items in
    let ns = c.in-Fields-Object.names.items in
    let other : length ms ≢ length ns = λ e. c.if-len.false (omega (arith, e, c.len.ensures, c.len-2.ensures)) in
    not_only c.args.names.now c.in-Fields-Object.names c.args.json.now c.in-Fields-Object.members c.in-Fields-Object.is-0 c.in-Fields-Object.is-1 other
    (λ named apart. (rw c.deref-2.ensures.value at c.in-Some.ensures.some) apart)

pub returns-in-None-clause-known : goal.returns-in-None-clause-known
returns-in-None-clause-known c =
    let ms = c.in-Fields-Object.members.items in
    let past : length ms ≤ c.loop-key.key-index = omega (arith, c.loop-key-test.false, ap length c.deref-key-items.ensures.value) in
    let named : AreNamed c.in-Fields-Object.names.items (members_view ms) = named_all c.in-Fields-Object.names.items ms c.loop-key.key-index past c.loop-key.invariant in
    let apart : AreNamedOnce (members_view ms) = rw c.deref-2.ensures.value at c.in-None.ensures.none in
    named_apart c.args.names.now c.in-Fields-Object.names c.args.json.now c.in-Fields-Object.members c.in-Fields-Object.is-0 c.in-Fields-Object.is-1 named apart
