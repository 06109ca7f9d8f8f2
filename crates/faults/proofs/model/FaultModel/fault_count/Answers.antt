-- A lawful card has at most 256 nets and 510 gate pins.
use Rattle.std.proofs.Common.{length, ap, arith}
use Rattle.card.specs.Views.{netlist_of}
use Rattle.faults.proofs.Sited.{few_sites, site_laws}
use Rattle.faults.proofs.model.FaultModel.fault_count.Goals as goal

pub overflow_mul-result : goal.overflow_mul-result
overflow_mul-result c =
    let f = few_sites (netlist_of c.args.self.now.card) c.args.self.now.card.lawful in
    let e = ap length c.args.self.now.lists_the_branches in
    omega arith

pub returns : goal.returns
returns c =
    let f = few_sites (netlist_of c.args.self.now.card) c.args.self.now.card.lawful in
    let e = ap length c.args.self.now.lists_the_branches in
    record { counts_the_faults = omega arith; at_most_1532 = omega arith; sites_are_the_nets_and_the_branches = site_laws (netlist_of c.args.self.now.card) }
