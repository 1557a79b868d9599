use Rattle.std.proofs.Common.{◌==◌, true, refl}
use Rattle.msg_replies.specs.hub_meaning.declared.stage.Stage.TheVariants.{Closing}
use Rattle.ports.specs.declared.links.SendAnswer.TheVariants.{Took, Later, Failed}
use Rattle.hub_link.specs.declared.link.HubLink.{HubLink}
use Rattle.hub_link.proofs.SendLaws.{closes, less_after_took, less_blocked, less_closing, noted_as, notes_later}
use Rattle.hub_link.proofs.SendLaws.{notes_took}
use Rattle.hub_link.proofs.link.HubLink.note.Goals as goal

pub returns-in-Took-clause-represents : goal.returns-in-Took-clause-represents
returns-in-Took-clause-represents c =
    let within = rw c.in-Took.is at c.requires in
    let after : HubLink = record c.args.self.now { unsent = c.advance.new.self; blocked = c.in-Took.count == 0 } in
    noted_as c.args.self.now after c.args.answer (Took c.in-Took.count) c.in-Took.is
    (notes_took c.args.self.now after c.in-Took.count within refl refl refl refl c.advance.ensures)

pub returns-in-Took-clause-less : goal.returns-in-Took-clause-less
returns-in-Took-clause-less c can other =
    let within = rw c.in-Took.is at c.requires in
    let after : HubLink = record c.args.self.now { unsent = c.advance.new.self; blocked = c.in-Took.count == 0 } in
    less_after_took c.args.self.now after c.in-Took.count can within refl c.advance.ensures

pub returns-in-Later-clause-represents : goal.returns-in-Later-clause-represents
returns-in-Later-clause-represents c =
    let after : HubLink = record c.args.self.now { blocked = true } in
    noted_as c.args.self.now after c.args.answer Later c.in-Later.is
    (notes_later c.args.self.now after refl refl refl refl refl)

pub returns-in-Later-clause-less : goal.returns-in-Later-clause-less
returns-in-Later-clause-less c can other =
    let after : HubLink = record c.args.self.now { blocked = true } in
    less_blocked c.args.self.now after can refl

pub returns-in-Failed-clause-represents : goal.returns-in-Failed-clause-represents
returns-in-Failed-clause-represents c =
    let after : HubLink = record c.args.self.now { stage = Closing } in
    noted_as c.args.self.now after c.args.answer Failed c.in-Failed.is
    (closes c.args.self.now after refl refl refl refl)

pub returns-in-Failed-clause-less : goal.returns-in-Failed-clause-less
returns-in-Failed-clause-less c can other =
    let after : HubLink = record c.args.self.now { stage = Closing } in
    less_closing c.args.self.now after can refl
