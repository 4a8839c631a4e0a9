use Rattle.std.proofs.Common.{◌≡◌, true, nat_lt, length}
use Rattle.pads_trans.specs.Met.{names_of}
use Rattle.pads_trans.proofs.Whole.{whole, formed}
use Rattle.pads_trans.proofs.translation.module_of_description.Goals as goal

pub returns-clause-module : goal.returns-clause-module
returns-clause-module c =
    let named : c.in-Some.names ≡ names_of c.args.description.now = rw c.in-Some.is at c.in_ok-names.ensures.names in
    rw (← whole c.args.description.now c.args.ambient c.in-Some.names named) c.module_by.ensures.module

pub returns-clause-well_formed : goal.returns-clause-well_formed
returns-clause-well_formed c =
    let named : c.in-Some.names ≡ names_of c.args.description.now = rw c.in-Some.is at c.in_ok-names.ensures.names in
    let few : true ≡ nat_lt (length (names_of c.args.description.now)) 65535 = rw c.in-Some.is at c.in_ok-names.ensures.few in
    rw (← formed c.args.description.now c.args.ambient c.in-Some.names named few) c.module_by.ensures.well_formed

pub returns-clause-ill_formed : goal.returns-clause-ill_formed
returns-clause-ill_formed c =
    let named : c.in-Some.names ≡ names_of c.args.description.now = rw c.in-Some.is at c.in_ok-names.ensures.names in
    let few : true ≡ nat_lt (length (names_of c.args.description.now)) 65535 = rw c.in-Some.is at c.in_ok-names.ensures.few in
    rw (← formed c.args.description.now c.args.ambient c.in-Some.names named few) c.module_by.ensures.ill_formed
