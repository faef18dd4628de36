use Rattle.std.proofs.Common.{length, rules}
use Rattle.rings.proofs.Refusals.{accepted}
use Rattle.machines.specs.Drawings.{draw_fault}
use Rattle.machines.specs.Views.{machine_of, configuration_of}
use Rattle.machines.specs.ViewsLemmas.{machine_steps}
use Rattle.machines.proofs.Drawings.{drawn_proper, drawn}
use Rattle.machines.proofs.machine.Turing.draw.Goals as goal

pub returns-in_err-check_drawing-clause-law : goal.returns-in_err-check_drawing-clause-law
returns-in_err-check_drawing-clause-law c = machine_steps c.args.self.now

pub code_of-requires : goal.code_of-requires
code_of-requires c =
    let m = machine_of c.args.self.now in
    let f = configuration_of c.args.configuration in
    let room = length c.args.buffer.now in
    let d = drawn_proper m f room (accepted (draw_fault m f room) (search rules)) in
    (d.tape.codes f.position d.position, d.state)

pub returns-clause-buffer : goal.returns-clause-buffer
returns-clause-buffer c =
    let m = machine_of c.args.self.now in
    let f = configuration_of c.args.configuration in
    let room = length c.args.buffer.now in
    simp (c.copy_from_slice.ensures.after, c.code_of.ensures) (drawn m f c.args.buffer.now (accepted (draw_fault m f room) (search rules)))

pub returns-clause-law : goal.returns-clause-law
returns-clause-law c = machine_steps c.args.self.now
