use Rattle.std.proofs.Common.{◌≡◌, ◌<◌, length, None, Some, refl, rules}
use Rattle.std.proofs.lemmas.Option.{slice_get_read}
use Rattle.wire_lib.specs.Sizes.{known_size, node_size}
use Rattle.wire_lib.proofs.SizesLemmas.{parts_then, set_fewer}
use Rattle.wire_lib.proofs.sizes.Sizes.find.Goals as goal

pub returns-clause-right : goal.returns-clause-right
returns-clause-right c h =
    let nodes = c.args.nodes.now in
    let sizes = c.args.self.now.known.items in
    let place = c.args.place in
    let node = c.in-Some.node.now in
    let size = c.in-Some-size_of_node.size in
    let found = c.in-Some.ensures.lookup in
    let none : known_size sizes place ≡ None = search rules in
    let is : node_size sizes node ≡ Some size = search rules in
    parts_then nodes sizes place node size h (slice_get_read nodes (length nodes) place node refl found.3.0 found.1) none is

pub returns-clause-found : goal.returns-clause-found
returns-clause-found c e =
    let sizes = c.args.self.now.known.items in
    let none : known_size sizes c.args.place ≡ None = search rules in
    let within : c.args.place < length sizes = search rules in
    set_fewer sizes c.args.place c.in-Some-size_of_node.size within none
